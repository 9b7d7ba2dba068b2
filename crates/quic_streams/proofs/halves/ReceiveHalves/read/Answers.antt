use Rattle.std.proofs.Common.{rules, ◌≡◌, ap, sym, ◌∙◌, Some}
use Rattle.quic_streams.specs.Held.{halves_view, half_in}
use Rattle.quic_streams.specs.InPlace.{IsInMode}
use Rattle.quic_streams.proofs.HeldMaps.{held-put}
use Rattle.quic_streams.proofs.InPlace.{entry-mode, entry-mode-of}
use Rattle.quic_streams.proofs.halves.ReceiveHalves.read.Goals as goal

pub read_on-requires : goal.read_on-requires
unfolding halves_view
read_on-requires c =
    let w = c.args.self.now.window in
    let there : halves_view c.args.self.now c.args.id ≡ Some (half_in w c.in-Some.entry.now) = search rules in
    entry-mode w c.in-Some.entry.now c.args.ordered (rw there at c.requires)

pub returns-clause-reads : goal.returns-clause-reads
unfolding halves_view
returns-clause-reads c =
    let w = c.args.self.now.window in
    let moved = held-put w _ _ c.args.id _ ((c.get_mut.follows.holds c.read_on.new.entry).3 (search rules)).0 in
    let there : halves_view c.args.self.now c.args.id ≡ Some (half_in w c.in-Some.entry.now) = search rules in
    record {
      old = half_in w c.in-Some.entry.now;
      new = half_in w c.read_on.new.entry;
      half = there;
      mode = rw there at c.requires;
      reads = c.read_on.ensures.reads w;
      stays = entry-mode-of w c.read_on.new.entry ∙ c.read_on.ensures.mode;
      bound = c.read_on.ensures.bound w;
      is = moved;
    }
