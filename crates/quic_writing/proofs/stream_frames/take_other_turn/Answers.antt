use Rattle.std.proofs.Common.{rules, ◌≡◌, ◌∙◌, ap, Some, inr, true}
use Rattle.quic_queue.specs.SendOrder.{with_turn_ended, without_next}
use Rattle.quic_writing.specs.Writer.{unreserved, next_of}
use Rattle.quic_writing.proofs.Queues.{first-unreserved, has-place, settled-unreserved}
use Rattle.quic_writing.proofs.stream_frames.take_other_turn.Goals as goal

pub end_turn-requires-2-clause-is_first : goal.end_turn-requires-2-clause-is_first
end_turn-requires-2-clause-is_first c = first-unreserved c.args.queue.now c.reserve_place.new.queue c.reserve_place.ensures.same ∙ (search rules)

pub end_turn-requires-2-clause-room : goal.end_turn-requires-2-clause-room
end_turn-requires-2-clause-room c =
    let next : c.next_of-next.result ≡ next_of c.args.fair c.in-Some.priority c.in_ok-frame.frame.has_more = search rules in
    let place : c.args.fair ≡ true → c.reserve_place.new.queue.reserved ≡ Some c.in-Some.priority = search rules in
    rw next (has-place c.reserve_place.new.queue c.args.entry.now c.args.fair c.in-Some.priority c.in_ok-frame.frame.has_more place)

pub returns-clause-turn : goal.returns-clause-turn
returns-clause-turn c =
    let queue : unreserved c.end_turn-2.new.self ≡ with_turn_ended (without_next (unreserved c.args.queue.now)) c.args.entry.now c.next_of-next.result =
    ap unreserved c.end_turn-2.ensures ∙ settled-unreserved c.args.queue.now c.reserve_place.new.queue c.args.entry.now c.next_of-next.result c.reserve_place.ensures.same in
    let next : c.next_of-next.result ≡ next_of c.args.fair c.in-Some.priority c.in_ok-frame.frame.has_more = search rules in
    inr (record {
      entry = c.args.entry.now;
      priority = c.in-Some.priority;
      frame = c.in_ok-frame.frame;
      is_first = search rules;
      free = search rules;
      transmits = c.in_ok-frame.ensures.transmits.0;
      others = c.in_ok-frame.ensures.transmits.1;
      queue = queue ∙ ap (with_turn_ended (without_next (unreserved c.args.queue.now)) c.args.entry.now) next;
      sent = search rules;
    })
