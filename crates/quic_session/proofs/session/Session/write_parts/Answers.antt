use Rattle.std.proofs.lemmas.Result.{err_from_is_err_and}
use Rattle.quic_session.specs.Emitting.{whole, no_datagrams, control_alone}
use Rattle.quic_session.proofs.session.Session.write_parts.Goals as goal

pub returns-in_err-write_control-clause-writes : goal.returns-in_err-write_control-clause-writes
returns-in_err-write_control-clause-writes c =
    let p = err_from_is_err_and c.from_residual.result c.from_residual.ensures.1 in
    rw p.1 (control_alone c.in_err-write_control.ensures.writes)

pub returns-in_err-write_datagrams-clause-writes : goal.returns-in_err-write_datagrams-clause-writes
returns-in_err-write_datagrams-clause-writes c =
    let p = err_from_is_err_and c.from_residual-in_err-write_datagrams.result c.from_residual-in_err-write_datagrams.ensures.1 in
    rw p.1 (no_datagrams _ c.in_ok-write_control.ensures.writes c.in_err-write_datagrams.ensures.writes)

pub returns-clause-writes : goal.returns-clause-writes
returns-clause-writes c = whole _ _ c.in_ok-write_control.ensures.writes c.in_ok-write_datagrams.ensures.writes c.write_streams.ensures.writes
