use Rattle.std.proofs.Common.{◌≡◌, ◌≤◌, refl, sym, ap, subst, arith, ◌∙◌, inl, inr, List, ℕ, length, reverse, ◌++◌, ◌∷◌, [], Ok}
use Rattle.std.specs.Prelude.{MatchOption, Option, Some, None}
use Rattle.std.proofs.lemmas.List.{length_push, length-append, append_assoc, append-nil, reverse-reverse, nil_from_length}
use Rattle.quic_wire.specs.declared.frame.Frame.{Frame}
use Rattle.quic_wire.specs.declared.frame.Frame.TheVariants as frames
use Rattle.quic_wire.specs.Frames.{IsFrameWithin}
use Rattle.quic_endpoint.specs.Receiving.{data_length}
use Rattle.quic_session.specs.Receiving.{TakesAll}
use Rattle.quic_session.proofs.Taken.{past-none, past-step, past-refused, past-all, next-left, holds-of-next}
use Rattle.quic_session.proofs.session.Session.receive_frames.Goals as goal

-- a list had no frame where none was taken out of it
none-left : (Q : Type 0) (R : Frame → Type 0) (r : Option Frame) (n : ℕ) → ((f : Frame) → r ≡ Some f → ⊥) → MatchOption r ((n ≡ 0) × Q) R → n ≡ 0
none-left Q R None n no-other cases = cases.0
none-left Q R (Some f) n no-other cases = absurd (no-other f refl)

-- the data of a frame are no longer than its payload
data-within : (size : ℕ) (f : Frame) → IsFrameWithin size f → data_length f ≤ size
data-within size (frames.Stream s) p = p.1
data-within size _ p = omega arith

pub receive_from-requires : goal.receive_from-requires
receive_from-requires c =
    let h = c.loop-frame.invariant.handed in
    let parted = next-left _ h.seen _ c.pop.new.self.items c.in-Some.frame h.rest c.in-Some.ensures.items in
    data-within c.args.payload_len c.in-Some.frame (holds-of-next (IsFrameWithin c.args.payload_len) _ h.seen (reverse c.pop.new.self.items) c.in-Some.frame parted c.requires)

pub loop-frame-init : goal.loop-frame-init
loop-frame-init c = record {
  handed = record { seen = []; past = past-none _ _ _; count = refl; rest = sym (ap reverse c.reverse.ensures.items ∙ reverse-reverse _) };
  others = (refl, refl);
}

pub returns-in-Err-clause-receives : goal.returns-in-Err-clause-receives
returns-in-Err-clause-receives c =
    let h = c.loop-frame.invariant.handed in
    let parted = next-left _ h.seen _ c.pop.new.self.items c.in-Some.frame h.rest c.in-Some.ensures.items in
    inr (past-refused c.args.payload_len c.args.first c.args.self.now c.args.frames.items h.seen c.loop-frame.self c.in-Some.frame (reverse c.pop.new.self.items) c.in-Err.error c.receive_from.new.self
    c.loop-frame.next h.past h.count parted c.in-Err.ensures.receives)

pub loop-frame-preserved : goal.loop-frame-preserved
loop-frame-preserved c =
    let h = c.loop-frame.invariant.handed in
    let after = reverse c.pop.new.self.items in
    let parted = next-left _ h.seen _ c.pop.new.self.items c.in-Some.frame h.rest c.in-Some.ensures.items in
    let long = ap length parted ∙ length-append h.seen (c.in-Some.frame ∷ after) in
    record {
      handed = record {
        seen = h.seen ++ c.in-Some.frame ∷ [];
        past = past-step c.args.payload_len c.args.first c.args.self.now h.seen c.loop-frame.self c.in-Some.frame c.receive_from.new.self c.loop-frame.next c.receive_from.result
            h.past h.count (λ e h. c.in_default-receive_from.not-Err e h) c.receive_from.ensures.receives;
        count = omega (arith, c.saturating_add-next.ensures, h.count, long, c.args.frames.ok.0, c.args.frames.small, length_push h.seen c.in-Some.frame);
        rest = parted ∙ sym (append_assoc h.seen (c.in-Some.frame ∷ []) after);
      };
      others = (c.receive_from.ensures.others.0 ∙ c.loop-frame.invariant.others.0, c.receive_from.ensures.others.1 ∙ c.loop-frame.invariant.others.1);
    }

pub returns-clause-receives : goal.returns-clause-receives
returns-clause-receives c =
    let h = c.loop-frame.invariant.handed in
    let none = none-left _ _ c.pop.result _ (λ f e. c.in_default.not-Some f e) c.pop.ensures.cases in
    let empty = nil_from_length c.loop-frame.list.items (omega (arith, none, c.loop-frame.list.ok.0)) in
    let all = h.rest ∙ ap (λ l. h.seen ++ reverse l) empty ∙ append-nil h.seen in
    let P : List Frame → Type 0 = λ l. TakesAll c.args.payload_len c.args.first l c.args.self.now (record { next = c.loop-frame.next; answer = Ok tt }) c.loop-frame.self in
    inl (subst P (sym all) (past-all c.args.payload_len c.args.first c.args.self.now h.seen c.loop-frame.self c.loop-frame.next h.past h.count))
