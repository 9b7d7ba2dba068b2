-- What holds of two sessions stays, and their view is that of the pair behind a step.
use Rattle.std.proofs.Common.{◌≡◌, ◌≢◌, ℕ, zero, suc, get_or, ◌<◌, ◌≤◌, ◌+◌, ◌^◌, ◌⊎◌, inl, inr, min, List, [], ◌∷◌, ◌++◌, length, Option, Some, None, Result, Ok, Err, refl, sym, ap, ◌∙◌, subst, arith}
use Rattle.std.specs.Prelude.{slice_get, slice_set}
use Rattle.std.proofs.lemmas.Option.{none-some, same_Some}
use Rattle.std.proofs.lemmas.List.{length_push}
use Rattle.quic_wire.specs.declared.error.ReceiveError.{ReceiveError}
use Rattle.quic_receiving.specs.declared.transmit.ShouldTransmit.{ShouldTransmit}
use Rattle.quic_streams.specs.declared.settling.SentPayload.{SentPayload}
use Rattle.quic_streams.specs.Connection.{is_shut}
use Rattle.quic_endpoint.specs.Ends.{EndState}
use Rattle.quic_session.specs.declared.session.Session.{Session}
use Rattle.quic_session.specs.declared.unsettled.Unsettled.{Unsettled}
use Rattle.quic_session.specs.Sessions.{end_of}
use Rattle.quic_session.specs.Tokens.{unsettled, with_payload, LAST}
use Rattle.quic_session.proofs.Apart.{put-apart, put-there}
use Rattle.quic_steps.specs.declared.steps.End.{End}
use Rattle.quic_steps.specs.declared.steps.End.TheVariants.{A, B}
use Rattle.quic_exchange.specs.declared.early.EarlyLimits.{EarlyLimits}
use Rattle.quic_exchange.specs.declared.sent.Note.{Note}
use Rattle.quic_exchange.specs.Notes.{Kept, kept_by, under, row, rows, MarksNoteIf, HaveLeftNetwork}
use Rattle.quic_exchange.specs.State.{PairState, OnEnd, two_ends}
use Rattle.quic_exchange.proofs.Lists.{slice_get-push, slice_get-slice_set, slice_set-length}
use Rattle.quic_exchange.proofs.Rows.{rows-same, rows-push}
use Rattle.quic_pair.specs.Ends.{kept_of, view_of, session_of, OnSession, next_token_of, HaveGivenTokens, HaveOwnTokens, AreTokensFew, IsConsistent}

pub on-map : (P Q : Session → Session → Type 0) (who : End) (a b c d : Session) → ((s t : Session) → P s t → Q s t) → OnSession P who a b c d → OnSession Q who a b c d
on-map P Q A a b c d f o = (f a c o.0, o.1)
on-map P Q B a b c d f o = (f b d o.0, o.1)

-- the ends alone
pub on-ends : (E : EndState → EndState → Type 0) (who : End) (a b c d : Session) → OnSession (λ s t. E (end_of s) (end_of t)) who a b c d → OnEnd E (two_ends (end_of a) (end_of b)) who (two_ends (end_of c) (end_of d))
on-ends E A a b c d o = record { end = end_of c; does = o.0; is = ap (λ (x : Session). two_ends (end_of c) (end_of x)) o.1 }
on-ends E B a b c d o = record { end = end_of d; does = o.0; is = ap (λ (x : Session). two_ends (end_of x) (end_of d)) o.1 }

-- nothing changed of a session that is seen
abbrev pub LooksSame : Session → Session → Type 0
LooksSame s t = (end_of t ≡ end_of s) × (unsettled t.unsettled ≡ unsettled s.unsettled)

pub view-same : (who : End) (a b c d : Session) (notes : List Note) (waits : Option EarlyLimits) → OnSession LooksSame who a b c d → view_of c d notes waits ≡ view_of a b notes waits
view-same A a b c d notes waits o =
    ap (λ (x : Session). view_of c x notes waits) o.1 ∙ ap (λ (e : EndState). record { a = e; b = end_of b; sent = rows (kept_of c b) notes; waits = waits }) o.0.0
    ∙ ap (λ (f : Kept). record { a = end_of a; b = end_of b; sent = rows (kept_by f (unsettled b.unsettled)) notes; waits = waits }) o.0.1
view-same B a b c d notes waits o =
    ap (λ (x : Session). view_of x d notes waits) o.1 ∙ ap (λ (e : EndState). record { a = end_of a; b = e; sent = rows (kept_of a d) notes; waits = waits }) o.0.0
    ∙ ap (λ (f : Kept). record { a = end_of a; b = end_of b; sent = rows (kept_by (unsettled a.unsettled) f) notes; waits = waits }) o.0.1

-- ---- what the sessions keep

pub kept-of-session : (a b : Session) (who : End) (s : Session) (token : ℕ) → s ≡ session_of a b who → unsettled s.unsettled token ≡ kept_of a b who token
kept-of-session a b A s token e = ap (λ (x : Session). unsettled x.unsettled token) e
kept-of-session a b B s token e = ap (λ (x : Session). unsettled x.unsettled token) e

-- a session keeps its payloads, and something is done at its endpoint
abbrev pub DoesOnly : (EndState → EndState → Type 0) → Session → Session → Type 0
DoesOnly E s t = E (end_of s) (end_of t) × (unsettled t.unsettled ≡ unsettled s.unsettled)

pub on-session : (E : EndState → EndState → Type 0) (who : End) (a b c d : Session) (notes : List Note) (waits : Option EarlyLimits) → OnSession (DoesOnly E) who a b c d → OnEnd E (view_of a b notes waits) who (view_of c d notes waits)
on-session E A a b c d notes waits o = record {
  end = end_of c;
  does = o.0.0;
  is = ap (λ (x : Session). view_of c x notes waits) o.1 ∙ ap (λ (f : Kept). record { a = end_of c; b = end_of b; sent = rows (kept_by f (unsettled b.unsettled)) notes; waits = waits }) o.0.1;
}
on-session E B a b c d notes waits o = record {
  end = end_of d;
  does = o.0.0;
  is = ap (λ (x : Session). view_of x d notes waits) o.1 ∙ ap (λ (f : Kept). record { a = end_of a; b = end_of d; sent = rows (kept_by (unsettled a.unsettled) f) notes; waits = waits }) o.0.1;
}

pub rows-kept : (who : End) (a b c d : Session) (notes : List Note) → OnSession (λ s t. t.unsettled ≡ s.unsettled) who a b c d → rows (kept_of c d) notes ≡ rows (kept_of a b) notes
rows-kept A a b c d notes o = ap (λ (x : Session). rows (kept_of c x) notes) o.1 ∙ ap (λ (u : Unsettled). rows (kept_by (unsettled u) (unsettled b.unsettled)) notes) o.0
rows-kept B a b c d notes o = ap (λ (x : Session). rows (kept_of x d) notes) o.1 ∙ ap (λ (u : Unsettled). rows (kept_by (unsettled a.unsettled) (unsettled u)) notes) o.0

-- what one session keeps under a token has changed
abbrev pub Puts : ℕ → Option SentPayload → Session → Session → Type 0
Puts token left s t = unsettled t.unsettled ≡ with_payload (unsettled s.unsettled) token left

pub kept-away : (writer w : End) (a b c d : Session) (token t : ℕ) (left : Option SentPayload) → OnSession (Puts token left) writer a b c d → (w ≡ writer → token ≢ t) → kept_of c d w t ≡ kept_of a b w t
kept-away A A a b c d token t left o away = ap (λ (f : Kept). f t) o.0 ∙ put-apart (unsettled a.unsettled) token t left (away refl)
kept-away A B a b c d token t left o away = ap (λ (x : Session). unsettled x.unsettled t) o.1
kept-away B A a b c d token t left o away = ap (λ (x : Session). unsettled x.unsettled t) o.1
kept-away B B a b c d token t left o away = ap (λ (f : Kept). f t) o.0 ∙ put-apart (unsettled b.unsettled) token t left (away refl)

pub kept-there : (writer : End) (a b c d : Session) (token : ℕ) (left : Option SentPayload) → OnSession (Puts token left) writer a b c d → kept_of c d writer token ≡ left
kept-there A a b c d token left o = ap (λ (f : Kept). f token) o.0 ∙ put-there (unsettled a.unsettled) token left
kept-there B a b c d token left o = ap (λ (f : Kept). f token) o.0 ∙ put-there (unsettled b.unsettled) token left

pub under-same : (f g : Kept) (o : Option ℕ) → ((t : ℕ) → o ≡ Some t → g t ≡ f t) → under g o ≡ under f o
under-same f g None same = refl
under-same f g (Some t) same = same t refl

-- ---- what holds between steps

-- the connection of a session stays as it is, and it gives no token
abbrev pub GivesNone : Session → Session → Type 0
GivesNone s t = (t.conn ≡ s.conn) × (t.unsettled.next ≡ s.unsettled.next)

-- a session gave the next token
abbrev pub Gives : ℕ → Session → Session → Type 0
Gives token s t = (t.conn ≡ s.conn) × (token ≡ s.unsettled.next) × (t.unsettled.next ≡ min (s.unsettled.next + 1) LAST)

-- ---- notes by number

-- what is read of a list there is the note that it has
pub note-read : (notes : List Note) (n : ℕ) (note d : Note) → slice_get notes n ≡ Some note → get_or notes n d ≡ note
note-read [] n note d is = absurd (none-some note is)
note-read (m ∷ ms) zero note d is = same_Some m note is
note-read (m ∷ ms) (suc n) note d is = note-read ms n note d is

-- ---- tokens of notes

-- notes have the tokens of others, at the same places
abbrev pub HaveTokensOf : List Note → List Note → Type 0
HaveTokensOf notes behind = (i : ℕ) (n : Note) (t : ℕ) → slice_get behind i ≡ Some n → n.token ≡ Some t → (m : Note) × (slice_get notes i ≡ Some m) × (m.writer ≡ n.writer) × (m.token ≡ Some t)

-- one was noted anew
pub set-tokens : (notes behind : List Note) (k : ℕ) (whole new : Note) → slice_get notes k ≡ Some whole → whole.writer ≡ new.writer → whole.token ≡ new.token → behind ≡ slice_set notes k new → (length behind ≡ length notes) × HaveTokensOf notes behind
set-tokens notes behind k whole new is writer token e = (ap length e ∙ slice_set-length notes k new, λ i n t at tok. by i n t tok (slice_get-slice_set notes k i new n (sym (ap (λ l. slice_get l i) e) ∙ at)))
  where
    by : (i : ℕ) (n : Note) (t : ℕ) → n.token ≡ Some t → ((i ≡ k) × (n ≡ new)) ⊎ (slice_get notes i ≡ Some n) → (m : Note) × (slice_get notes i ≡ Some m) × (m.writer ≡ n.writer) × (m.token ≡ Some t)
    by i n t tok (inl h) = (whole, ap (slice_get notes) h.0 ∙ is, writer ∙ sym (ap (λ (x : Note). x.writer) h.1), token ∙ sym (ap (λ (x : Note). x.token) h.1) ∙ tok)
    by i n t tok (inr h) = (n, h, refl, tok)

same-tokens : (notes behind : List Note) → behind ≡ notes → (length behind ≡ length notes) × HaveTokensOf notes behind
same-tokens notes behind e = (ap length e, λ i n t at tok. (n, sym (ap (λ l. slice_get l i) e) ∙ at, refl, tok))

pub marks-tokens : (answer : Result ShouldTransmit ReceiveError) (notes : List Note) (k i : ℕ) (behind : List Note) → MarksNoteIf answer notes k i behind → (length behind ≡ length notes) × HaveTokensOf notes behind
marks-tokens (Ok transmit) notes k i behind m = set-tokens notes behind k m.whole (record m.whole { text = m.text }) m.is refl refl m.new_is
marks-tokens (Err error) notes k i behind m = same-tokens notes behind m

module _ (a b c d : Session) where
  next-same : (who w : End) → OnSession GivesNone who a b c d → next_token_of c d w ≡ next_token_of a b w
  next-same A A o = o.0.1
  next-same A B o = ap (λ (x : Session). x.unsettled.next) o.1
  next-same B A o = ap (λ (x : Session). x.unsettled.next) o.1
  next-same B B o = o.0.1

  open-same : (who w : End) → OnSession GivesNone who a b c d → is_shut (session_of c d w).conn ≡ is_shut (session_of a b w).conn
  open-same A A o = ap is_shut o.0.0
  open-same A B o = ap (λ (x : Session). is_shut x.conn) o.1
  open-same B A o = ap (λ (x : Session). is_shut x.conn) o.1
  open-same B B o = ap is_shut o.0.0

  -- one session changed so, and the notes have the tokens that they had
  pub sound-on : (who : End) (notes behind : List Note) (waits after : Option EarlyLimits) → IsConsistent a b notes waits → OnSession GivesNone who a b c d → length behind ≡ length notes → HaveTokensOf notes behind
      → ((k : EarlyLimits) → after ≡ Some k → waits ≡ Some k) → IsConsistent c d behind after
  sound-on who notes behind waits after s o size was limits =
      let first : next_token_of c d A ≡ next_token_of a b A = next-same who A o in
      let second : next_token_of c d B ≡ next_token_of a b B = next-same who B o in
      let few_a = s.few.0 in
      let few_b = s.few.1 in
      record {
        open_ends = (open-same who A o ∙ s.open_ends.0, open-same who B o ∙ s.open_ends.1);
        below = λ i n t is tok.
            let m = was i n t is tok in
            let P : ℕ → Type 0 = λ k. t < k in
            let Q : End → Type 0 = λ w. t < next_token_of a b w in
            subst P (sym (next-same who n.writer o)) (subst Q m.2 (s.below i m.0 t m.1 m.3));
        apart = λ i j m n t is_m is_n w tok_m tok_n.
            let x = was i m t is_m tok_m in
            let y = was j n t is_n tok_n in
            s.apart i j x.0 y.0 t x.1 y.1 (x.2 ∙ w ∙ sym y.2) x.3 y.3;
        few = (omega (arith, first, few_a, size), omega (arith, second, few_b, size));
        limits = λ k e. s.limits k (limits k e);
      }

  -- the notes are the same
  pub sound-same : (who : End) (notes : List Note) (waits : Option EarlyLimits) → IsConsistent a b notes waits → OnSession GivesNone who a b c d → IsConsistent c d notes waits
  sound-same who notes waits s o = sound-on who notes notes waits waits s o refl (λ i n t is tok. (n, is, refl, tok)) (λ k e. e)

  -- all of them left
  pub sound-left : (who : End) (notes behind : List Note) (waits after : Option EarlyLimits) → IsConsistent a b notes waits → OnSession GivesNone who a b c d → HaveLeftNetwork notes behind
      → ((k : EarlyLimits) → after ≡ Some k → waits ≡ Some k) → IsConsistent c d behind after
  sound-left who notes behind waits after s o left limits =
      sound-on who notes behind waits after s o left.size (λ i n t is tok. let h = left.each i n is in absurd (none-some t (sym h.token ∙ tok))) limits

  -- ---- a payload more

  module _ (who : End) (notes : List Note) (waits : Option EarlyLimits) (note : Note) (token : ℕ) (s : IsConsistent a b notes waits) (o : OnSession (Gives token) who a b c d) (room : length notes + 1 < 2 ^ 63) (writer : note.writer ≡ who) (has : note.token ≡ Some token) where
    few-of : (w : End) → next_token_of a b w ≤ length notes + 1
    few-of A = s.few.0
    few-of B = s.few.1

    given : (w : End) → OnSession (Gives token) w a b c d → (token ≡ next_token_of a b w) × (next_token_of c d w ≡ next_token_of a b w + 1)
    given A g = let few = few-of A in let rises = g.0.2 in (g.0.1, omega (arith, few, rises, room))
    given B g = let few = few-of B in let rises = g.0.2 in (g.0.1, omega (arith, few, rises, room))

    -- the other gave none
    stays : (w k : End) → OnSession (Gives token) w a b c d → (k ≡ w) ⊎ (next_token_of c d k ≡ next_token_of a b k)
    stays A A g = inl refl
    stays A B g = inr (ap (λ (x : Session). x.unsettled.next) g.1)
    stays B A g = inr (ap (λ (x : Session). x.unsettled.next) g.1)
    stays B B g = inl refl

    rose : (k : End) → (next_token_of a b k ≤ next_token_of c d k) × (next_token_of c d k ≤ next_token_of a b k + 1)
    rose k = by (stays who k o)
      where
        by : (k ≡ who) ⊎ (next_token_of c d k ≡ next_token_of a b k) → (next_token_of a b k ≤ next_token_of c d k) × (next_token_of c d k ≤ next_token_of a b k + 1)
        by (inl e) =
            let g = (given who o).1 in
            let P : End → Type 0 = λ x. next_token_of c d x ≡ next_token_of a b x + 1 in
            let here : next_token_of c d k ≡ next_token_of a b k + 1 = subst P (sym e) g in
            (omega (arith, here), omega (arith, here))
        by (inr e) = (omega (arith, e), omega (arith, e))

    open-of : (w k : End) → OnSession (Gives token) w a b c d → is_shut (session_of c d k).conn ≡ is_shut (session_of a b k).conn
    open-of A A g = ap is_shut g.0.0
    open-of A B g = ap (λ (x : Session). is_shut x.conn) g.1
    open-of B A g = ap (λ (x : Session). is_shut x.conn) g.1
    open-of B B g = ap is_shut g.0.0

    -- the token of the new payload is that of no other of its writer
    fresh : (i : ℕ) (m : Note) (t : ℕ) → slice_get notes i ≡ Some m → m.token ≡ Some t → m.writer ≡ who → t < token
    fresh i m t is tok w =
        let g = (given who o).0 in
        let P : End → Type 0 = λ x. t < next_token_of a b x in
        let below : t < next_token_of a b who = subst P w (s.below i m t is tok) in
        omega (arith, below, g)

    token-of : (n : Note) (t : ℕ) → n ≡ note → n.token ≡ Some t → t ≡ token
    token-of n t e tok = same_Some t token (sym tok ∙ ap (λ (x : Note). x.token) e ∙ has)

    writer-of : (n : Note) → n ≡ note → n.writer ≡ who
    writer-of n e = ap (λ (x : Note). x.writer) e ∙ writer

    new-below : HaveGivenTokens c d (notes ++ note ∷ [])
    new-below i n t is tok = by (slice_get-push notes note i n is)
      where
        by : (slice_get notes i ≡ Some n) ⊎ ((i ≡ length notes) × (n ≡ note)) → t < next_token_of c d n.writer
        by (inl there) = let low = s.below i n t there tok in let up = (rose n.writer).0 in omega (arith, low, up)
        by (inr last) =
            let g = given who o in
            let is_t = token-of n t last.1 tok in
            let P : End → Type 0 = λ x. t < next_token_of c d x in
            let here : t < next_token_of c d who = omega (arith, is_t, g.0, g.1) in
            subst P (sym (writer-of n last.1)) here

    new-apart : HaveOwnTokens (notes ++ note ∷ [])
    new-apart i j m n t is_m is_n w tok_m tok_n = by (slice_get-push notes note i m is_m) (slice_get-push notes note j n is_n)
      where
        by : (slice_get notes i ≡ Some m) ⊎ ((i ≡ length notes) × (m ≡ note)) → (slice_get notes j ≡ Some n) ⊎ ((j ≡ length notes) × (n ≡ note)) → i ≡ j
        by (inl x) (inl y) = s.apart i j m n t x y w tok_m tok_n
        by (inl x) (inr y) =
            let low = fresh i m t x tok_m (w ∙ writer-of n y.1) in
            let same = token-of n t y.1 tok_n in
            absurd (omega (arith, low, same))
        by (inr x) (inl y) =
            let low = fresh j n t y tok_n (sym w ∙ writer-of m x.1) in
            let same = token-of m t x.1 tok_m in
            absurd (omega (arith, low, same))
        by (inr x) (inr y) = x.0 ∙ sym y.0

    pub sound-push : IsConsistent c d (notes ++ note ∷ []) waits
    sound-push =
        let size = length_push notes note in
        let few_a = s.few.0 in
        let few_b = s.few.1 in
        let up_a = (rose A).1 in
        let up_b = (rose B).1 in
        record {
          open_ends = (open-of who A o ∙ s.open_ends.0, open-of who B o ∙ s.open_ends.1);
          below = new-below;
          apart = new-apart;
          few = (omega (arith, size, few_a, up_a), omega (arith, size, few_b, up_b));
          limits = s.limits;
        }

    -- and the payloads before it are as they were
    pub rows-behind : (sent : SentPayload) → OnSession (Puts token (Some sent)) who a b c d → rows (kept_of c d) (notes ++ note ∷ []) ≡ rows (kept_of a b) notes ++ row (kept_of c d) note ∷ []
    rows-behind sent p =
        rows-push (kept_of c d) notes note
        ∙ ap (λ l. l ++ row (kept_of c d) note ∷ [])
        (rows-same (kept_of a b) (kept_of c d) notes
        (λ j m is. under-same (kept_of a b m.writer) (kept_of c d m.writer) m.token
        (λ t tok. kept-away who m.writer a b c d token t (Some sent) p (λ w e. let low = fresh j m t is tok w in omega (arith, low, e)))))
