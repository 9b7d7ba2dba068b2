use Rattle.std.proofs.Common.{◌≡◌, drop}
use Rattle.quic_session.specs.Users.{users_view}
use Rattle.quic_session.specs.Closing.{touched_by_resets}
use Rattle.quic_session.proofs.closing.touch_each.Given as goal

abbrev pub invariant-loop-reset : goal.invariant-loop-reset
invariant-loop-reset l = touched_by_resets (drop l.reset-index l.resets) (users_view l.users) ≡ touched_by_resets l.resets (users_view l.initial.users)
