use Rattle.std.proofs.Common.{rules, ◌≡◌, ◌<◌, ◌^◌, false}
use Rattle.quic_history.specs.World.{World, start, made_with}
use Rattle.quic_streams.specs.Shown.{streams_view}
use Rattle.quic_history.proofs.Beginnings.{begins, start-with}
use Rattle.quic_streams.proofs.state.StreamsState.new.Goals as goal

pub returns-clause-from : goal.returns-clause-from
unfolding streams_view
returns-clause-from c =
    let v : World = streams_view (record { credit = c.new.result; bi = c.new-2.result; uni = c.new-3.result; receive = c.permit_first-2.new.self; outgoing = c.permit_more.new.self; queue = c.new-4.result; events = c.new-5.result; send_streams = 0; adjusted = false }) in
    let m = made_with c.args.side c.args.max_remote_uni c.args.max_remote_bi c.args.send_window c.args.receive_window c.args.stream_window in
    let w : World = start m in
    let is : v ≡ w = search rules in
    let small : c.args.receive_window < 2 ^ 62 = search rules in
    let s = start-with c.args.side c.args.max_remote_uni c.args.max_remote_bi c.args.send_window c.args.receive_window c.args.stream_window c.requires.uni c.requires.bi small in
    begins m v (record { uni = s.uni; bi = s.bi; credit = s.credit; is = is })
