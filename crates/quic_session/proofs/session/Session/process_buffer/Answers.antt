use Rattle.std.proofs.Common.{◌≡◌, length, take, arith, inl}
use Rattle.std.proofs.lemmas.List.{length-take}
use Rattle.quic_session.proofs.Processed.{whole-processed, whole-stopped}
use Rattle.quic_session.proofs.session.Session.process_buffer.Goals as goal

pub returns-in-Ok-clause-processes : goal.returns-in-Ok-clause-processes
returns-in-Ok-clause-processes c =
    let payload = take c.args.len c.args.buffer.now.bytes.items in
    let run = rw c.deref.ensures.value at (c.is_one_run.ensures c.if-not-is_one_run.false) in
    let long : c.args.len ≡ length payload = omega (arith, length-take c.args.len c.args.buffer.now.bytes.items, c.requires.len) in
    inl (whole-processed c.args.self.now payload run.1 c.args.first c.args.len c.receive_buffer.result c.receive_buffer.new.self c.if-first-ne0.false long run.2 c.receive_buffer.ensures.receives c.in-Ok.is)

pub returns-in-Err-clause-processes : goal.returns-in-Err-clause-processes
returns-in-Err-clause-processes c =
    let payload = take c.args.len c.args.buffer.now.bytes.items in
    let run = rw c.deref.ensures.value at (c.is_one_run.ensures c.if-not-is_one_run.false) in
    whole-stopped c.args.self.now payload run.1 c.args.first c.receive_buffer.result c.receive_buffer.new.self c.in-Err.error c.if-first-ne0.false run.0 run.2 c.receive_buffer.ensures.receives c.in-Err.is
