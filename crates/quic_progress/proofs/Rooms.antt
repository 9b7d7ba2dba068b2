-- Where all that was written was read, the limit of a stream leaves its window but for an eighth.
use Rattle.std.proofs.Common.{◌≡◌, ℕ, Bool, true, false, List, length, Option, Some, None, is_some, refl, sym, ap, ◌∙◌, subst, arith, ◌≤◌}
use Rattle.std.specs.Prelude.{◌&&◌, not, is_none}
use Rattle.quic_sending.specs.declared.send.Send.{Send}
use Rattle.quic_sending.specs.Buffer.{total_length}
use Rattle.quic_sending.proofs.Cuts.{length-concat}
use Rattle.quic_receiving.specs.Data.{IsAllGiven}
use Rattle.quic_receiving.specs.Half.{Half, is_open}
use Rattle.quic_receiving.proofs.Data.{all_given}
use Rattle.quic_flows.specs.Flow.{SendFlow, FlowAt}
use Rattle.quic_outgoing.specs.Senders.{first_limit}
use Rattle.quic_history.specs.Flows.{has_side_in}
use Rattle.quic_history.specs.World.{World, Made}
use Rattle.quic_history.specs.History.{ReadChunk, slices, trace, flow}
use Rattle.quic_history.proofs.StreamSteps.{half-from, known-from}
use Rattle.quic_link.specs.Endpoints.{LinkedEnd, sent_on, came_on}
use Rattle.quic_link.proofs.Joint.{agrees}
use Rattle.quic_steps.specs.declared.steps.End.{End}
use Rattle.quic_steps.specs.declared.steps.End.TheVariants.{A, B}
use Rattle.quic_exchange.specs.State.{PairState, peer, the_end}
use Rattle.quic_exchange.specs.History.{History, Past, past_of}
use Rattle.quic_exchange.specs.Readable.{side_of}
use Rattle.quic_exchange.specs.From.{Beginning, PairFrom}
use Rattle.quic_exchange.specs.Runs.{sendings_of}
use Rattle.quic_exchange.specs.Tale.{Tale, Tales, Told}
use Rattle.quic_exchange.specs.Settling.{AreIdle, AreSettledIn}
use Rattle.quic_exchange.specs.Completed.{HaveBeenRead, IsUnreset, IsUnstopped}
use Rattle.quic_exchange.proofs.Joined.{Seen}
use Rattle.quic_exchange.proofs.Flips.{seen-as}
use Rattle.quic_exchange.proofs.Counted.{Counted}
use Rattle.quic_exchange.proofs.Grown.{joined-from}
use Rattle.quic_exchange.proofs.ToldOnce.{told-once}
use Rattle.quic_progress.specs.Progress.{IsAgreed, IsReadOn, IsAllRead, HaveRoom}
use Rattle.quic_progress.proofs.Course.{course-from, agreed-waits}
use Rattle.quic_progress.proofs.Settled.{streams-now}

-- the same was written, as two histories of one end tell of a half that is held
same_amount : (first other : ℕ) (there : Bool) (half : Option Send) (s : Send) (f g : SendFlow) → half ≡ Some s → FlowAt first f there half → FlowAt other g there half → total_length g.cuts ≡ total_length f.cuts
same_amount first other true (Some h) s f g e a b = sym b.cuts.written ∙ a.cuts.written
same_amount first other true None s f g e a b = cc
same_amount first other false (Some h) s f g e a b = absurd a
same_amount first other false None s f g e a b = cc

open_parts : (h : Half) → is_open h ≡ true → (is_some h.size ≡ false) × (h.stopped ≡ false)
open_parts h e = by h.size h.stopped e
  where
    by : (o : Option ℕ) (b : Bool) → (is_none o && not b) ≡ true → (is_some o ≡ false) × (b ≡ false)
    by None false e = (refl, refl)
    by None true e = cc
    by (Some n) b e = cc

no_code : (o : Option ℕ) → (is_some o ≡ true → ⊥) → o ≡ None
no_code None n = refl
no_code (Some code) n = absurd (n refl)

differ : (b : Bool) → b ≡ true → b ≡ false → ⊥
differ true e d = cc
differ false e d = cc

module _ (p : Past) (v : PairState) (who : End) (id : ℕ) (m : Made) (t : Tale) (c : Counted m (the_end v who).streams t) (s : Send) (h : Half) (held : (the_end v who).streams.out.halves id ≡ Some s) (reads : IsReadOn (the_end v (peer who)).streams id h)
    (all : IsAllGiven (slices (p.flow who id).given) (length (p.flow who id).written)) where
  read_seen : (x y : LinkedEnd) → x.made.side ≡ side_of who → Seen p who v x y → IsAllRead (t.flow id) h
  read_seen x y side k =
      let g = sent_on x id in
      let both = agrees k.linked in
      let P : World → Type 0 = λ w. FlowAt (first_limit w.out.side w.out.first id) g (has_side_in w.out w.bi.max_remote id) (w.out.halves id) in
      let at : FlowAt (first_limit (the_end v who).streams.out.side (the_end v who).streams.out.first id) g (has_side_in (the_end v who).streams.out (the_end v who).streams.bi.max_remote id) ((the_end v who).streams.out.halves id) = subst P k.here.world (both.0.comes.from.sends.flows id) in
      let amount : total_length g.cuts ≡ total_length (flow m c.calls id).cuts = same_amount _ _ _ ((the_end v who).streams.out.halves id) s (flow m c.calls id) g held (c.from.sends.flows id) at in
      let told : total_length (flow m c.calls id).cuts ≡ total_length (t.flow id).cuts = ap (λ (f : SendFlow). total_length f.cuts) (c.tells.flow_is id) in
      let known : total_length g.cuts ≡ length (p.flow who id).written = sym (length-concat g.cuts) ∙ ap (λ (l : List ℕ). length l) (k.sends.written id) in
      let there : y.world.receive id ≡ Some h = ap (λ (w : World). w.receive id) k.there.world ∙ reads.held in
      let facts = both.1.comes.from.facts.streams in
      let half = half-from (trace y.calls) y.world id h facts (known-from (trace y.calls) y.world id h facts there) there in
      let fits = both.0.fits id in
      let parts = open_parts h reads.runs in
      let reset : (came_on y id).reset ≡ None = no_code (came_on y id).reset (λ e. differ (came_on y id).sized (fits.reset_sized e) (sym half.sized ∙ parts.0)) in
      let kept = half.holds (sym half.stopped ∙ parts.1) reset in
      let low : h.buffer.highest ≤ total_length g.cuts = (let a = half.within in let b = half.high in let d = fits.high in omega (arith, a, b, d)) in
      let G : List ReadChunk → Type 0 = λ l. IsAllGiven (slices l) (total_length g.cuts) in
      let N : ℕ → Type 0 = λ n. IsAllGiven (slices (p.flow who id).given) n in
      let given : IsAllGiven (slices (came_on y id).given) (total_length g.cuts) = subst G (sym (k.sends.given id)) (subst N (sym known) all) in
      let read : h.buffer.bytes_read ≡ total_length g.cuts = (all_given (came_on y id).kept (slices (came_on y id).given) h.buffer (total_length g.cuts) low kept).1 given in
      omega (arith, read, amount, told)

-- ---- whatever steps led to it

module _ (s : Beginning) (h : History) (v : PairState) (f : PairFrom s h v) (decided : v.waits ≡ None) (idle : AreIdle v) (settled : AreSettledIn 0 (length v.sent) v.sent) (read : HaveBeenRead (past_of h)) where
  read_now : (who : End) (id : ℕ) (half : Half) (x : Send) → (the_end v who).streams.out.halves id ≡ Some x → IsUnreset ((past_of h).flow who id) → IsUnstopped ((past_of h).flow who id) → IsReadOn (the_end v (peer who)).streams id half → IsAllRead (((course-from f decided).recounted.tales.of who).flow id) half
  read_now who id half x held unreset unstopped reads =
      let c = course-from f decided in
      let P : Past → Type 0 = λ p. IsAllGiven (slices (p.flow who id).given) (length (p.flow who id).written) in
      seen-as _ _ (past_of c.taken) v who (joined-from c.era) (IsAllRead ((c.recounted.tales.of who).flow id) half)
      (read_seen (past_of c.taken) v who id _ (c.recounted.tales.of who) (c.recounted.counted who) x half held reads (subst P c.past (read who id unreset unstopped).all))

  room_now : HaveRoom (past_of h) v (course-from f decided).recounted.tales
  room_now A id x half held unreset unstopped reads takes small = (streams-now s h v f (course-from f decided) decided idle settled B).goes_on id half reads takes (read_now A id half x held unreset unstopped reads) small
  room_now B id x half held unreset unstopped reads takes small = (streams-now s h v f (course-from f decided) decided idle settled A).goes_on id half reads takes (read_now B id half x held unreset unstopped reads) small

pub have-room : (s : Beginning) (h : History) (v : PairState) (f : PairFrom s h v) → IsAgreed s v → AreIdle v → AreSettledIn 0 (length v.sent) v.sent → HaveBeenRead (past_of h) → (t : Tales) → Told s (sendings_of f) t → HaveRoom (past_of h) v t
have-room s h v f agreed idle settled read t k =
    let decided = agreed-waits f agreed in
    let c = course-from f decided in
    let P : Tales → Type 0 = λ x. HaveRoom (past_of h) v x in
    subst P (told-once s (sendings_of f) c.recounted.tales t c.told k) (room_now s h v f decided idle settled read)
