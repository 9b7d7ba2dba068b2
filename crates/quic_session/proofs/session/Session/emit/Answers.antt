use Rattle.std.proofs.Common.{Option, Ok, subst, length}
use Rattle.quic_session.specs.declared.emitting.Emitted.{Emitted}
use Rattle.quic_session.specs.Emitting.{EmitsLent}
use Rattle.quic_session.proofs.Lent.{put-out}
use Rattle.quic_session.proofs.session.Session.emit.Goals as goal

pub returns-clause-emits : goal.returns-clause-emits
returns-clause-emits c =
    let p = c.put_out.ensures in
    let P : Option Emitted → Type 0 = λ o. EmitsLent (length c.args.out.now) c.args.self.now c.args.parts c.args.fair (Ok o) c.emit_lent.new.self c.emit_lent.new.self.bytes.items in
    put-out c.args.out.now (subst P c.in-Some.is c.in_ok-emitted.ensures.emits) c.put_out.result c.put_out.new.out p.len p.copied p.token p.ends p.cut
