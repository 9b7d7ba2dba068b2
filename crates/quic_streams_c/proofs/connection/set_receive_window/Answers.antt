use Rattle.std.proofs.Common.{refl}
use Rattle.quic_streams_c.proofs.Calls.{number-given}
use Rattle.quic_streams_c.proofs.connection.set_receive_window.Goals as goal

pub returns : goal.returns
returns c =
    let s = c.set_receive_window in
    number-given c.in-Some.window _ _ _ c.in-Some.ensures (s.result, s.ensures.larger, refl, s.ensures.window, s.ensures.from, s.ensures.beside)
