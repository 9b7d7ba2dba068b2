use Rattle.std.proofs.Common.{ℕ, sym, ap, ◌∙◌, Option}
use Rattle.std.specs.Prelude.{is_some}
use Rattle.quic_ordered.proofs.Slotted.{is_some_in}
use Rattle.quic_ordered.proofs.slots.PieceSlots.contains.Goals as goal

pub returns-in-Some : goal.returns-in-Some
returns-in-Some c = rw (← c.self.view_is) (ap (λ (o : Option ℕ). is_some o) (sym c.in-Some.is ∙ c.get.ensures) ∙ is_some_in c.self.inside.pieces c.self.inside.places.items c.args.offset)

pub returns-in-None : goal.returns-in-None
returns-in-None c = rw (← c.self.view_is) (ap (λ (o : Option ℕ). is_some o) (sym c.in-None.is ∙ c.get.ensures) ∙ is_some_in c.self.inside.pieces c.self.inside.places.items c.args.offset)
