use Rattle.std.proofs.Common.{◌≡◌, ℕ, Option, Some, None, Ok, refl, sym, ap, ◌∙◌, subst, arith}
use Rattle.quic_pair.specs.Shown.{pair_view}
use Rattle.quic_pair.proofs.Deliveries.{Delivered, delivered-none, delivered-more, delivered-halted, delivered-all}
use Rattle.quic_pair.proofs.pair.Pair.deliver_frames.Goals as goal

none-of : {X : Type 0} (o : Option X) → ((x : X) → o ≡ Some x → ⊥) → o ≡ None
none-of None absent = refl
none-of (Some x) absent = absurd (absent x refl)

pub loop-next-init : goal.loop-next-init
loop-next-init c = delivered-none (pair_view c.args.self.now) c.args.payload c.args.most c.requires.decided c.requires.there

pub loop-next-preserved : goal.loop-next-preserved
loop-next-preserved c = delivered-more (pair_view c.args.self.now) (pair_view c.loop-next.self) (pair_view c.step-reply.new.self) c.args.payload c.args.most c.loop-next.next c.step-reply.result c.loop-next.invariant c.step-reply.ensures.next (sym c.halt_of.ensures ∙ none-of c.halt_of.result (λ x e. c.in_default.not-Some x e))

pub returns-in-Some : goal.returns-in-Some
returns-in-Some c = delivered-halted (pair_view c.args.self.now) (pair_view c.loop-next.self) (pair_view c.step-reply.new.self) c.args.payload c.args.most c.loop-next.next c.step-reply.result c.loop-next.invariant c.step-reply.ensures.next c.in-Some.answer (sym c.halt_of.ensures ∙ c.in-Some.is)

pub returns : goal.returns
returns c =
    let all : c.loop-next.next ≡ c.args.most = omega arith in
    let P : ℕ → Type 0 = λ n. Delivered (pair_view c.args.self.now) c.args.payload c.args.most n (pair_view c.loop-next.self) in
    delivered-all (pair_view c.args.self.now) (pair_view c.loop-next.self) c.args.payload c.args.most (subst P all c.loop-next.invariant)
