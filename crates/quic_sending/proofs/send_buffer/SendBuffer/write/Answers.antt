use Rattle.std.proofs.Common.{◌≡◌, ◌<◌, ◌+◌, ◌^◌, length, ap, arith, rules}
use Rattle.std.proofs.lemmas.Bool.Decides.{nat_tests}
use Rattle.quic_sending.specs.Buffer.{Buffered, IsSound}
use Rattle.quic_sending.proofs.Cuts.{HasCuts-write}
use Rattle.quic_sending.proofs.Sound.{IsSound-write}
use Rattle.quic_sending.proofs.send_buffer.SendBuffer.write.Goals as goal

pub invariant_of-self : goal.invariant_of-self
invariant_of-self c =
    let some : 0 < length c.args.piece = grind (arith, nat_tests) in
    let same : c.self.inside.pieces.end ≡ c.args.self.now.offset = ap (λ (v : Buffered). v.offset) c.self.view_is in
    let small : c.self.inside.pieces.end + length c.args.piece < 2 ^ 62 = omega arith in
    rw c.in_ok-push.ensures.ok (IsSound-write _ c.args.piece _ c.self.invariant some small)

pub returns-in_ok-push-clause-sound : goal.returns-in_ok-push-clause-sound
returns-in_ok-push-clause-sound c = invariant_of-self c

pub returns-in_ok-push-clause-cuts : goal.returns-in_ok-push-clause-cuts
returns-in_ok-push-clause-cuts c = λ cuts h.
    let sound : IsSound c.args.self.now = rw (← c.self.view_is) c.self.invariant in
    HasCuts-write c.args.self.now _ cuts c.args.piece h (omega arith) (search rules) (search rules) (search rules)
