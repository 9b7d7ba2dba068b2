-- Payloads that are lent, and copied out.
use Rattle.std.proofs.Common.{◌≡◌, ◌≢◌, ℕ, ◌<◌, ◌≤◌, ◌⊎◌, inl, inr, Bool, true, false, List, ◌++◌, length, take, drop, sym, ap, ◌∙◌, subst, arith}
use Rattle.std.specs.Prelude.{◌==◌, ◌&&◌, min, not, nat_le}
use Rattle.std.proofs.lemmas.Bool.Decides.{eqb_tells, leb_tells}
use Rattle.quic_session.specs.declared.session.Session.{Session}
use Rattle.quic_session.specs.declared.emitting.Emitted.{Emitted}
use Rattle.quic_session.specs.declared.emitting.Parts.{Parts}
use Rattle.quic_session.specs.declared.unsettled.Unsettled.{Unsettled}
use Rattle.quic_session.specs.Sessions.{Beside, end_of, beside_of}
use Rattle.quic_session.specs.Tokens.{unsettled, KeepsNew}
use Rattle.quic_session.specs.Emitting.{LendsPayload, WritesPayload}

-- the least of two numbers is the second where that is no greater than the first
pub is-least : (n size r : ℕ) → r ≡ min n size → nat_le size n ≡ (r == size)
is-least n size r is = by-tests (leb_tells size n) (eqb_tells r size)
  where
    by-tests : ((nat_le size n ≡ true) × (size ≤ n)) ⊎ ((nat_le size n ≡ false) × (n < size)) → (((r == size) ≡ true) × (r ≡ size)) ⊎ (((r == size) ≡ false) × (r ≢ size)) → nat_le size n ≡ (r == size)
    by-tests (inl a) (inl b) = a.0 ∙ sym b.0
    by-tests (inl a) (inr b) = absurd (b.1 (omega (arith, is, a.1)))
    by-tests (inr a) (inl b) = absurd (omega (arith, is, a.1, b.1))
    by-tests (inr a) (inr b) = a.0 ∙ sym b.0

-- a payload that was lent is copied into a buffer
pub put-out : {parts : Parts} {fair : Bool} {s t : Session} {e : Emitted} {held : List ℕ} (out : List ℕ) → LendsPayload (length out) parts fair s e t held → (r : Emitted) (new : List ℕ)
    → r.len ≡ min (length held) (length out) → new ≡ take r.len held ++ drop r.len out → r.token ≡ e.token → r.ends ≡ e.ends → r.cut ≡ e.cut → WritesPayload parts fair s out r t new
put-out {parts} {fair} {s} {t} {e} {held} out l r new len copied token ends cut =
    let size = length out in
    let shorter : r.len ≡ min e.len size = len ∙ ap (λ b. min (length b) size) l.lent.stands ∙ ap (λ n. min n size) (sym l.lent.len) in
    let P : ℕ → Type 0 = λ k. KeepsNew (unsettled s.unsettled) s.unsettled.next l.sent k (unsettled t.unsettled) t.unsettled.next in
    record {
      answer = l.answer;
      written = l.written;
      writes = l.writes;
      some = l.some;
      within = l.within;
      puts = record {
        len = len ∙ ap (λ b. min (length b) size) l.lent.stands;
        copied = copied ∙ ap (λ b. take r.len b ++ drop r.len out) l.lent.stands;
        ends = ends ∙ l.lent.ends ∙ ap (λ (b : Bool). b && not (length l.written.payload.streams == 0)) (is-least e.len size r.len shorter);
      };
      sent = l.sent;
      keeps = subst P (sym token) l.keeps;
      cut = cut ∙ l.cut;
      control = l.control;
      streams = l.streams;
      leaves = l.leaves;
    }

-- a payload that was lent stands in other memory, and beside that the session stays
pub handed-over : {most : ℕ} {parts : Parts} {fair : Bool} {s t : Session} {e : Emitted} {held : List ℕ} → LendsPayload most parts fair s e t held → (u : Session) (bytes : List ℕ)
    → end_of u ≡ end_of t → beside_of u ≡ beside_of t → bytes ≡ held → LendsPayload most parts fair s e u bytes
handed-over {s = s} {e = e} l u bytes end beside same =
    let payloads = ap (λ (b : Beside). b.unsettled) beside in
    let P : Unsettled → Type 0 = λ x. KeepsNew (unsettled s.unsettled) s.unsettled.next l.sent e.token (unsettled x) x.next in
    record {
      answer = l.answer;
      written = l.written;
      writes = l.writes;
      some = l.some;
      within = l.within;
      lent = record { stands = same ∙ l.lent.stands; len = l.lent.len; ends = l.lent.ends };
      sent = l.sent;
      keeps = subst P (sym payloads) l.keeps;
      cut = l.cut;
      control = l.control;
      streams = l.streams;
      leaves = (end ∙ l.leaves.0, ap (λ (b : Beside). b.datagrams) beside ∙ l.leaves.1, ap (λ (b : Beside). b.counts) beside ∙ l.leaves.2);
    }
