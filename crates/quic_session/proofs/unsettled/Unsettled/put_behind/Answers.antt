use Rattle.std.proofs.Common.{refl, arith, Some, ◌∙◌, ap}
use Rattle.quic_session.specs.Tokens.{unsettled, with_payload, at_token}
use Rattle.quic_session.proofs.Places.{held-most, put-behind, none-behind}
use Rattle.quic_session.proofs.unsettled.Unsettled.put_behind.Goals as goal

pub overflow_add-self : goal.overflow_add-self
overflow_add-self c = omega (arith, held-most c.args.self.now.places.items, c.args.self.now.counted, c.args.self.now.places.ok.0, c.args.self.now.places.small, c.requires.room)

pub returns : goal.returns
unfolding unsettled with_payload
returns c =
    let u = c.args.self.now in
    record {
      is_next = refl;
      positive = omega (arith, u.begun, u.in_turn.0);
      new = λ below. none-behind u.first u.next u.places.items c.requires.next u.next (omega arith);
      below = λ below. none-behind u.first u.next u.places.items c.requires.next;
      kept = λ i. λ q. (ap (λ l. at_token u.first l q) c.push_back_reserved.ensures.items ∙ put-behind u.first u.next u.places.items (Some c.args.sent) c.requires.next q) i;
      rises = c.saturating_add-self.ensures;
    }
