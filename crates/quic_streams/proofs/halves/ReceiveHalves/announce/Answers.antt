use Rattle.std.proofs.Common.{rules, sym, ap, ◌∙◌, Some}
use Rattle.quic_streams.specs.Held.{halves_view}
use Rattle.quic_history.specs.Halves.{with_half}
use Rattle.quic_streams.proofs.HeldMaps.{held-put, entry_half, announced-some}
use Rattle.quic_streams.proofs.halves.ReceiveHalves.announce.Goals as goal

pub returns-in-Some-clause-held : goal.returns-in-Some-clause-held
unfolding halves_view
returns-in-Some-clause-held c =
    let w = c.args.self.now.window in
    let moved = held-put w _ _ c.args.id _ ((c.get_mut.follows.holds c.announce_on.new.entry).3 (search rules)).0 in
    moved ∙ ap (λ h. with_half (halves_view c.args.self.now) c.args.id (Some h)) c.announce_on.ensures
    ∙ sym (announced-some (halves_view c.args.self.now) c.args.id w _ (ap (entry_half w) (sym c.in-Some.ensures.value)))
