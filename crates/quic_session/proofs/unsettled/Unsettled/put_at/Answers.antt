use Rattle.std.proofs.Common.{arith, Some, None, ◌∙◌, ap, ℕ, Option, cond, ◌+◌, ◌<◌, ◌≡◌, length}
use Rattle.std.specs.Prelude.{◌==◌}
use Rattle.quic_streams.specs.declared.settling.SentPayload.{SentPayload}
use Rattle.quic_session.specs.Tokens.{unsettled, with_payload, at_token}
use Rattle.quic_session.proofs.Places.{held-room, put-place, put-over}
use Rattle.quic_session.proofs.unsettled.Unsettled.put_at.Goals as goal

pub overflow_add-self : goal.overflow_add-self
overflow_add-self c =
    let u = c.take_at.new.self in
    omega (arith, held-room u.places.items c.args.index (omega (arith, c.requires, c.take_at.ensures.length)) c.take_at.ensures.empty, u.counted, u.places.ok.0, u.places.small)

pub returns-clause-kept : goal.returns-clause-kept
unfolding unsettled with_payload
returns-clause-kept c =
    let u = c.take_at.new.self in
    let old = c.args.self.now in
    let i = c.args.index in
    let x : Option SentPayload = Some c.args.sent in
    let inside : i < length u.places.items = omega (arith, c.requires, c.take_at.ensures.length) in
    let first : u.first ≡ old.first = c.take_at.ensures.first in
    λ k. λ q. (put-place u.first u.places.items i x inside q ∙ ap (λ n. cond (n + i == q) x (at_token u.first u.places.items q)) first
    ∙ ap (λ (f : ℕ → Option SentPayload). cond (old.first + i == q) x (f q)) c.take_at.ensures.rest ∙ put-over (old.first + i == q) x None (at_token old.first old.places.items q)) k
