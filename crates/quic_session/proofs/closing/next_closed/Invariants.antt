use Rattle.std.proofs.Common.{◌≡◌, length}
use Rattle.quic_streams.specs.Shown.{streams_view}
use Rattle.quic_session.specs.Users.{users_view}
use Rattle.quic_session.specs.Closing.{first_over, has_no_side}
use Rattle.quic_session.proofs.closing.next_closed.Given as goal

abbrev pub invariant-loop-id : goal.invariant-loop-id
invariant-loop-id l = first_over (has_no_side (streams_view l.streams)) (users_view l.users).touched (users_view l.users) ≡ first_over (has_no_side (streams_view l.streams)) (users_view l.initial.users).touched (users_view l.initial.users)

abbrev pub decreases-loop-id : goal.decreases-loop-id
decreases-loop-id l = length (users_view l.users).touched
