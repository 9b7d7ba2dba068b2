-- What is told of a stream stays true where frames are written, acknowledged and lost.
use Rattle.std.proofs.Common.{◌≡◌, ℕ, Bool, true, false, List, [], ◌∷◌, Option, Some, None, is_some, refl, sym, ap, ◌∙◌, subst, arith, ◌+◌, ◌-◌, ◌<◌, ◌≤◌}
use Rattle.std.specs.Prelude.{◌==◌, ◌&&◌, ◌||◌, not, max, nat_lt, nat_le, if◌then◌else◌}
use Rattle.std.proofs.lemmas.Bool.Decides.{nat_tests}
use Rattle.quic_ranges.specs.Runs.{contains, is_in}
use Rattle.quic_sending.specs.declared.send.Send.{Send}
use Rattle.quic_sending.specs.Buffer.{Buffered, HasCuts, IsSound, IsInFirst, is_sent, is_lost, is_acked, total_length, uncovered}
use Rattle.quic_sending.specs.Sending.{is_ready, is_finish_acked, after_ack}
use Rattle.quic_flows.specs.Flow.{SendFlow, WasCarried, WasAcked, WasLost, with_send_move, with_carried, with_acked, with_lost, counts_for, takes_data, state_told, is_whole, freed_if_whole, passing, retained, FlowFrom}
use Rattle.quic_flows.proofs.FlowSteps.{ready-is, kept_prefix, flow-retained}

first_free : (v : Buffered) → IsSound v → is_acked v v.prefix ≡ false
first_free v s =
    let low : nat_lt v.prefix v.prefix ≡ false = grind (arith, nat_tests) in
    rw low (by_later (contains v.later v.prefix) refl)
  where
    by_later : (b : Bool) → contains v.later v.prefix ≡ b → b ≡ false
    by_later false e = refl
    by_later true e = let l = s.later_in v.prefix e in absurd (let k = l.0 in omega arith)

-- a report that counts of a stream that is not given up
counting : (r : Option ℕ) (sent behind : ℕ) → r ≡ None → behind ≤ sent → counts_for r sent behind ≡ true
counting r sent behind e l = let k : nat_le behind sent ≡ true = grind (arith, nat_tests) in rw (e, k) refl

not_ready : (r : Option ℕ) (f : Bool) → r ≡ None → not (takes_data r f) ≡ f
not_ready None true e = refl
not_ready None false e = refl
not_ready (Some code) f e = cc

-- what stays lost was lost
was_lost : (b c : Bool) → (b && c) ≡ true → b ≡ true
was_lost true c e = refl
was_lost false c e = cc

-- what is lost now was lost, or is in the frame
lost_either : (n first behind unsent : ℕ) (b c : Bool) → (b || (is_in (first, behind) n && c)) ≡ true → (b ≡ true → n < unsent) → behind ≤ unsent → n < unsent
lost_either n first behind unsent true c e was l = was refl
lost_either n first behind unsent false c e was l = let k : is_in (first, behind) n ≡ true = was_lost (is_in (first, behind) n) c e in in_frame n first behind unsent k l
  where
    in_frame : (n first behind unsent : ℕ) → is_in (first, behind) n ≡ true → behind ≤ unsent → n < unsent
    in_frame n first behind unsent k l = grind (arith, nat_tests)

lost_acked : (m a i : Bool) → ((m && not a) && not i) ≡ (m && not (a || i))
lost_acked true true i = refl
lost_acked true false i = refl
lost_acked false a i = refl

lost_again : (m a i : Bool) → ((m && not a) || (i && not a)) ≡ ((m || i) && not a)
lost_again true true true = refl
lost_again true true false = refl
lost_again true false i = refl
lost_again false true true = refl
lost_again false true false = refl
lost_again false false true = refl
lost_again false false false = refl

lost_carried : (m a i : Bool) → ((m && not a) && not i) ≡ ((m && not i) && not a)
lost_carried true true true = refl
lost_carried true true false = refl
lost_carried true false true = refl
lost_carried true false false = refl
lost_carried false a i = refl

none_lost : (i : Bool) → (false || i) ≡ i
none_lost i = refl

acked_by : (r : Option ℕ) (f a fin : Bool) → after_ack (state_told r f a) fin ≡ state_told r f (a || fin)
acked_by None false a fin = refl
acked_by None true a fin = refl
acked_by (Some code) f a fin = refl

acked_held : (t : SendFlow) (s s' : Send) (first behind : ℕ) (fin : Bool) → FlowFrom t s → t.reset ≡ None → behind ≤ s.pending.unsent → IsSound s'.pending
    → ((cuts : List (List ℕ)) → HasCuts cuts s.pending → HasCuts cuts s'.pending) → s'.pending.unsent ≡ s.pending.unsent
    → ((n : ℕ) → is_acked s'.pending n ≡ (is_acked s.pending n || is_in (first, behind) n))
    → ((n : ℕ) → is_lost s'.pending n ≡ (is_lost s.pending n && not (is_in (first, behind) n)))
    → s' ≡ record s { state = after_ack s.state fin; pending = s'.pending }
    → FlowFrom (with_acked first behind fin t) s'
acked_held t s s' first behind fin f none sent sound cuts unsent acked lost is =
    let o = f.offsets none in
    let within = sound.acked_sent in
    let written = sound.sent_written in
    record {
      there = f.there;
      cuts = cuts t.cuts f.cuts;
      within = omega arith;
      limit = ap (λ (x : Send). x.max_data) is ∙ f.limit;
      state = ap (λ (x : Send). x.state) is ∙ ap (λ x. after_ack x fin) f.state ∙ acked_by t.reset t.finished t.end_acked fin;
      stopped = ap (λ (x : Send). x.stop_reason) is ∙ f.stopped;
      end_due = ap (λ (x : Send). x.fin_pending) is ∙ f.end_due;
      offsets = λ e. record {
        sent = λ n. ap (λ k. nat_lt n k) unsent ∙ o.sent n;
        unsent = unsent ∙ o.unsent;
        lost = λ n. lost n ∙ ap (λ b. b && not (is_in (first, behind) n)) (o.lost n) ∙ lost_acked (t.missing n) (t.acked n) (is_in (first, behind) n);
        lost_sent = λ n k. let l = o.lost_sent n (was_lost (is_lost s.pending n) (not (is_in (first, behind) n)) (sym (lost n) ∙ k)) in omega arith;
        acked = λ n. acked n ∙ ap (λ b. b || is_in (first, behind) n) (o.acked n);
        first = first_free s'.pending sound;
      };
      empty = λ e. absurd (let k : is_some t.reset ≡ false = ap (λ (r : Option ℕ). is_some r) none in cc);
    }

-- whether the end is acknowledged, by what is told
end_told : (r : Option ℕ) (finished acked : Bool) → r ≡ None → is_finish_acked (state_told r finished acked) ≡ (finished && acked)
end_told None true acked e = refl
end_told None false acked e = refl
end_told (Some code) finished acked e = cc

same_number : (a b c d : ℕ) → a ≡ c → b ≡ d → (a == b) ≡ (c == d)
same_number a b c d e k = rw (e, k) refl

-- a half is done with where the end and every byte are acknowledged
pub whole-is : (t : SendFlow) (s : Send) → FlowFrom t s → t.reset ≡ None → is_whole t ≡ (is_finish_acked s.state && (s.pending.prefix == s.pending.offset))
whole-is t s f none =
    let end : is_finish_acked s.state ≡ (t.finished && t.end_acked) = ap is_finish_acked f.state ∙ end_told t.reset t.finished t.end_acked none in
    let all = same_number (passing t.acked (total_length t.cuts)) (total_length t.cuts) s.pending.prefix s.pending.offset (kept_prefix t s f (f.offsets none)) (sym f.cuts.written) in
    ap (λ b. b && (passing t.acked (total_length t.cuts) == total_length t.cuts)) (sym end) ∙ ap (λ b. is_finish_acked s.state && b) all

-- what an acknowledgement leaves of a half: none where it is done with
pub record AfterAck (t : SendFlow) (s : Send) : Type 0 where
  pub held : (is_finish_acked s.state && (s.pending.prefix == s.pending.offset)) ≡ false → FlowFrom t s
  pub freed : (is_finish_acked s.state && (s.pending.prefix == s.pending.offset)) ≡ true → t.freed ≡ true
  -- as much is retained
  pub kept : total_length s.pending.held ≡ retained t

-- nothing is held where every byte is acknowledged
held_at : (pieces : List (List ℕ)) (gone prefix offset : ℕ) → gone + total_length pieces ≡ offset → gone ≤ prefix → IsInFirst (prefix - gone) pieces → prefix ≡ offset → total_length pieces ≡ 0
held_at [] gone prefix offset l g f e = refl
held_at (p ∷ ps) gone prefix offset l g f e = omega arith

and_right : (a b : Bool) → (a && b) ≡ true → b ≡ true
and_right true b e = e
and_right false b e = cc

equal_if : (a b : ℕ) → (a == b) ≡ true → a ≡ b
equal_if a b e = grind (arith, nat_tests)

or_none : (b : Bool) → (b || false) ≡ b
or_none true = refl
or_none false = refl

or_all : (b : Bool) → (b || true) ≡ true
or_all true = refl
or_all false = refl

none_of : (r : Option ℕ) (freed : Bool) (n : ℕ) → freed ≡ true → (if is_some r || freed then 0 else n) ≡ 0
none_of None true n e = refl
none_of None false n e = cc
none_of (Some code) freed n e = refl

whole_after : (t : SendFlow) (s : Send) → FlowFrom t s → t.reset ≡ None → IsSound s.pending → AfterAck (freed_if_whole t) s
whole_after t s f none sound = by_test (is_whole t) refl
  where
    is : is_whole t ≡ (is_finish_acked s.state && (s.pending.prefix == s.pending.offset))
    is = whole-is t s f none

    kept_whole : is_whole t ≡ true → total_length s.pending.held ≡ retained (freed_if_whole t)
    kept_whole e =
        let same : s.pending.prefix ≡ s.pending.offset = equal_if s.pending.prefix s.pending.offset (and_right (is_finish_acked s.state) (s.pending.prefix == s.pending.offset) (sym is ∙ e)) in
        let freed : (freed_if_whole t).freed ≡ true = ap (λ b. t.freed || b) e ∙ or_all t.freed in
        held_at s.pending.held s.pending.gone s.pending.prefix s.pending.offset sound.lengths sound.gone_acked sound.first same
        ∙ sym (none_of t.reset (freed_if_whole t).freed (total_length (uncovered (passing t.acked (total_length t.cuts)) t.cuts)) freed)

    by_test : (b : Bool) → is_whole t ≡ b → AfterAck (freed_if_whole t) s
    by_test true e = record {
      held = λ n. absurd (let k : true ≡ false = sym e ∙ is ∙ n in cc);
      freed = λ n. ap (λ b. t.freed || b) e ∙ or_all t.freed;
      kept = kept_whole e;
    }
    by_test false e =
        let same : freed_if_whole t ≡ t = λ i. record t { freed = (ap (λ b. t.freed || b) e ∙ or_none t.freed) i } in
        let P : SendFlow → Type 0 = λ k. AfterAck k s in
        subst P (sym same) (record { held = λ n. f; freed = λ n. absurd (let k : false ≡ true = sym e ∙ is ∙ n in cc); kept = flow-retained t s f })

-- a frame was acknowledged
pub flow-acked : (t : SendFlow) (s s' : Send) (first behind : ℕ) (fin : Bool) → FlowFrom t s → t.reset ≡ None → behind ≤ s.pending.unsent → IsSound s'.pending
    → ((cuts : List (List ℕ)) → HasCuts cuts s.pending → HasCuts cuts s'.pending) → s'.pending.unsent ≡ s.pending.unsent
    → ((n : ℕ) → is_acked s'.pending n ≡ (is_acked s.pending n || is_in (first, behind) n))
    → ((n : ℕ) → is_lost s'.pending n ≡ (is_lost s.pending n && not (is_in (first, behind) n)))
    → s' ≡ record s { state = after_ack s.state fin; pending = s'.pending }
    → AfterAck (with_send_move (WasAcked first behind fin) t) s'
flow-acked t s s' first behind fin f none sent sound cuts unsent acked lost is =
    let o = f.offsets none in
    let up_to = o.unsent in
    let P : Bool → Type 0 = λ b. AfterAck (if b then freed_if_whole (with_acked first behind fin t) else t) s' in
    subst P (sym (counting t.reset t.sent_up_to behind none (omega arith)))
    (whole_after (with_acked first behind fin t) s' (acked_held t s s' first behind fin f none sent sound cuts unsent acked lost is) none sound)

-- whether that is the last acknowledgement that the stream waits for
pub ends-told : (t : SendFlow) (s s' : Send) (first behind : ℕ) (fin : Bool) → FlowFrom t s → t.reset ≡ None → behind ≤ s.pending.unsent → IsSound s'.pending
    → ((cuts : List (List ℕ)) → HasCuts cuts s.pending → HasCuts cuts s'.pending) → s'.pending.unsent ≡ s.pending.unsent
    → ((n : ℕ) → is_acked s'.pending n ≡ (is_acked s.pending n || is_in (first, behind) n))
    → ((n : ℕ) → is_lost s'.pending n ≡ (is_lost s.pending n && not (is_in (first, behind) n)))
    → s' ≡ record s { state = after_ack s.state fin; pending = s'.pending }
    → (is_finish_acked s'.state && (s'.pending.prefix == s'.pending.offset)) ≡ (counts_for t.reset t.sent_up_to behind && is_whole (with_acked first behind fin t))
ends-told t s s' first behind fin f none sent sound cuts unsent acked lost is =
    let o = f.offsets none in
    let up_to = o.unsent in
    sym (whole-is (with_acked first behind fin t) s' (acked_held t s s' first behind fin f none sent sound cuts unsent acked lost is) none)
    ∙ ap (λ b. b && is_whole (with_acked first behind fin t)) (sym (counting t.reset t.sent_up_to behind none (omega arith)))

-- a frame was lost
pub flow-lost : (t : SendFlow) (s s' : Send) (first behind : ℕ) (fin : Bool) → FlowFrom t s → t.reset ≡ None → behind ≤ s.pending.unsent → s'.pending ≡ record s.pending { lost = s'.pending.lost }
    → ((n : ℕ) → is_lost s'.pending n ≡ (is_lost s.pending n || (is_in (first, behind) n && not (is_acked s.pending n))))
    → s' ≡ record s { fin_pending = s.fin_pending || (fin && not (is_ready s.state)); pending = s'.pending }
    → FlowFrom (with_send_move (WasLost first behind fin) t) s'
flow-lost t s s' first behind fin f none sent pending lost is =
    let o = f.offsets none in
    let up_to = o.unsent in
    let within = f.within in
    let P : Bool → Type 0 = λ b. FlowFrom (if b then with_lost first behind fin t else t) s' in
    subst P (sym (counting t.reset t.sent_up_to behind none (omega arith))) (record {
      there = f.there;
      cuts = let Q : Buffered → Type 0 = λ v. HasCuts t.cuts v in subst Q (sym pending) (record { written = f.cuts.written; retained = f.cuts.retained });
      within = let a = ap (λ (v : Buffered). v.prefix) pending in let b = ap (λ (v : Buffered). v.offset) pending in omega arith;
      limit = ap (λ (x : Send). x.max_data) is ∙ f.limit;
      state = ap (λ (x : Send). x.state) is ∙ f.state;
      stopped = ap (λ (x : Send). x.stop_reason) is ∙ f.stopped;
      end_due = ap (λ (x : Send). x.fin_pending) is ∙ ap (λ b. b || (fin && not (is_ready s.state))) f.end_due
          ∙ ap (λ b. t.end_due || (fin && b)) (ap not (ready-is t s f) ∙ not_ready t.reset t.finished none);
      offsets = λ e. record {
        sent = λ n. ap (λ (v : Buffered). is_sent v n) pending ∙ o.sent n;
        unsent = ap (λ (v : Buffered). v.unsent) pending ∙ o.unsent;
        lost = λ n. lost n ∙ ap (λ b. b || (is_in (first, behind) n && not (is_acked s.pending n))) (o.lost n)
            ∙ ap (λ b. (t.missing n && not (t.acked n)) || (is_in (first, behind) n && not b)) (o.acked n)
            ∙ lost_again (t.missing n) (t.acked n) (is_in (first, behind) n);
        lost_sent = λ n k. let u : s'.pending.unsent ≡ s.pending.unsent = ap (λ (v : Buffered). v.unsent) pending in
            let l = lost_either n first behind s.pending.unsent (is_lost s.pending n) (not (is_acked s.pending n)) (sym (lost n) ∙ k) (o.lost_sent n) sent in omega arith;
        acked = λ n. ap (λ (v : Buffered). is_acked v n) pending ∙ o.acked n;
        first = ap (λ (v : Buffered). is_acked v v.prefix) pending ∙ o.first;
      };
      empty = λ e. absurd (let k : is_some t.reset ≡ false = ap (λ (r : Option ℕ). is_some r) none in cc);
    })

-- one more offset was sent, or a range behind what was
sent_more : (n a b c : ℕ) → a ≤ c → c ≤ max c b → (a < b → c < b → a ≡ c) → nat_lt n (max c b) ≡ (nat_lt n c || (nat_le a n && nat_lt n b))
sent_more n a b c l m k = by_size (nat_lt c b) refl
  where
    by_size : (d : Bool) → nat_lt c b ≡ d → nat_lt n (max c b) ≡ (nat_lt n c || (nat_le a n && nat_lt n b))
    by_size true e = let less : c < b = grind (arith, nat_tests) in let same = k (omega arith) less in let most : max c b ≡ b = omega arith in rw (most, same) (grind (arith, nat_tests))
    by_size false e = let more : b ≤ c = grind (arith, nat_tests) in let most : max c b ≡ c = omega arith in rw most (grind (arith, nat_tests))

-- a frame was written, with lost offsets or with those behind what was sent
pub flow-carried : (t : SendFlow) (s s' : Send) (first behind : ℕ) (fin : Bool) → FlowFrom t s → t.reset ≡ None → first ≤ s.pending.unsent → (first < behind → s.pending.unsent < behind → first ≡ s.pending.unsent)
    → s'.pending ≡ record s.pending { unsent = max s.pending.unsent behind; lost = s'.pending.lost }
    → ((n : ℕ) → is_lost s'.pending n ≡ (is_lost s.pending n && not (is_in (first, behind) n)))
    → s' ≡ record s { fin_pending = s.fin_pending && not fin; pending = s'.pending }
    → FlowFrom (with_send_move (WasCarried first behind fin) t) s'
flow-carried t s s' first behind fin f none below next pending lost is =
    let o = f.offsets none in
    let up_to = o.unsent in
    let within = f.within in
    let counts : is_some t.reset ≡ false = ap (λ (r : Option ℕ). is_some r) none in
    let P : Option ℕ → Type 0 = λ r. r ≡ t.reset → FlowFrom (if not (is_some r) then with_carried first behind fin t else t) s' in
    subst P (sym none) (λ k. record {
      there = f.there;
      cuts = let Q : Buffered → Type 0 = λ v. HasCuts t.cuts v in subst Q (sym pending) (record { written = f.cuts.written; retained = f.cuts.retained });
      within = let a = ap (λ (v : Buffered). v.prefix) pending in let b = ap (λ (v : Buffered). v.offset) pending in omega arith;
      limit = ap (λ (x : Send). x.max_data) is ∙ f.limit;
      state = ap (λ (x : Send). x.state) is ∙ f.state;
      stopped = ap (λ (x : Send). x.stop_reason) is ∙ f.stopped;
      end_due = ap (λ (x : Send). x.fin_pending) is ∙ ap (λ b. b && not fin) f.end_due;
      offsets = λ e. record {
        sent = λ n. ap (λ (v : Buffered). is_sent v n) pending ∙ sent_more n first behind s.pending.unsent below (omega arith) next ∙ ap (λ b. b || is_in (first, behind) n) (o.sent n);
        unsent = ap (λ (v : Buffered). v.unsent) pending ∙ ap (λ k. max k behind) o.unsent;
        lost = λ n. lost n ∙ ap (λ b. b && not (is_in (first, behind) n)) (o.lost n) ∙ lost_carried (t.missing n) (t.acked n) (is_in (first, behind) n);
        lost_sent = λ n k. let u : s'.pending.unsent ≡ max s.pending.unsent behind = ap (λ (v : Buffered). v.unsent) pending in
            let l = o.lost_sent n (was_lost (is_lost s.pending n) (not (is_in (first, behind) n)) (sym (lost n) ∙ k)) in omega arith;
        acked = λ n. ap (λ (v : Buffered). is_acked v n) pending ∙ o.acked n;
        first = ap (λ (v : Buffered). is_acked v v.prefix) pending ∙ o.first;
      };
      empty = λ e. absurd (cc);
    }) refl
