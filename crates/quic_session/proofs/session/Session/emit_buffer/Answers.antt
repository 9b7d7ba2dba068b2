use Rattle.std.proofs.Common.{Option, Ok, Vec, Global, ℕ, subst, ap}
use Rattle.quic_session.specs.declared.emitting.Emitted.{Emitted}
use Rattle.quic_session.specs.Emitting.{EmitsLent}
use Rattle.quic_session.proofs.Lent.{handed-over}
use Rattle.quic_session.proofs.session.Session.emit_buffer.Goals as goal

pub returns-clause-emits : goal.returns-clause-emits
returns-clause-emits c =
    let x = c.exchange.ensures in
    let t = c.emit_lent.new.self in
    let P : Option Emitted → Type 0 = λ o. EmitsLent c.args.max_size c.args.self.now c.args.parts c.args.fair (Ok o) t t.bytes.items in
    handed-over (subst P c.in-Some.is c.in_ok-emitted.ensures.emits) c.exchange.new.self c.exchange.new.buffer.bytes.items x.end x.beside (ap (λ (v : Vec ℕ Global). v.items) x.given)
