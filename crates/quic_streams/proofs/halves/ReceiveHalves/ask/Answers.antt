use Rattle.std.proofs.Common.{rules, ◌≡◌, Some}
use Rattle.quic_streams.specs.Held.{halves_view, half_in}
use Rattle.quic_streams.proofs.HeldMaps.{held-put}
use Rattle.quic_streams.proofs.InPlace.{asks-in}
use Rattle.quic_streams.proofs.halves.ReceiveHalves.ask.Goals as goal

pub returns-in-Some-clause-asks : goal.returns-in-Some-clause-asks
unfolding halves_view
returns-in-Some-clause-asks c =
    let w = c.args.self.now.window in
    let moved = held-put w _ _ c.args.id _ ((c.get_mut.follows.holds c.ask_on.new.entry).3 (search rules)).0 in
    let there : halves_view c.args.self.now c.args.id ≡ Some (half_in w c.in-Some.entry.now) = search rules in
    asks-in (halves_view c.args.self.now) _ c.args.id c.args.ordered c.ask_on.result (half_in w c.in-Some.entry.now) (half_in w c.ask_on.new.entry) there moved c.ask_on.ensures.asks
