use Rattle.std.proofs.Common.{rules, ◌≡◌, ◌∙◌, ap, inr, refl, subst, ℤ, w32, to_z, of_z}
use Rattle.std.specs.Prelude.{Option, Some, Ok}
use Rattle.quic_outgoing.specs.Shown.{outgoing_view}
use Rattle.quic_outgoing.specs.Transmitting.{TransmitsAt}
use Rattle.quic_outgoing.specs.declared.transmitting.WrittenFrame.{WrittenFrame}
use Rattle.quic_queue.specs.SendOrder.{with_turn_ended, without_next}
use Rattle.quic_writing.specs.Writer.{unreserved, next_of}
use Rattle.quic_writing.proofs.Queues.{settled-unreserved}
use Rattle.quic_writing.proofs.stream_frames.take_common_turn.Goals as goal

pub returns-clause-turn : goal.returns-clause-turn
returns-clause-turn c =
    let queue : unreserved c.end_turn.new.self ≡ with_turn_ended (without_next (unreserved c.args.queue.now)) c.args.entry.now c.next_of-next.result =
    ap unreserved c.end_turn.ensures ∙ settled-unreserved c.args.queue.now c.args.queue.now c.args.entry.now c.next_of-next.result refl in
    let next : c.next_of-next.result ≡ next_of c.args.fair c.args.entry.now.priority c.in-Some.frame.has_more = search rules in
    let written : c.in_ok-written.written ≡ Some c.in-Some.frame = search rules in
    let fits : to_z w32 (of_z w32 c.args.entry.now.priority) ≡ c.args.entry.now.priority = search rules in
    let told =
    subst (λ (x : Option WrittenFrame). TransmitsAt (outgoing_view c.args.streams.now) c.args.entry.now.id (to_z w32 (of_z w32 c.args.entry.now.priority)) c.args.max_size c.args.buf.now.items (Ok x) (outgoing_view c.write_frame_at.new.self) c.write_frame_at.new.buf.items)
    written c.in_ok-written.ensures.transmits in
    let transmits =
    subst (λ (p : ℤ). TransmitsAt (outgoing_view c.args.streams.now) c.args.entry.now.id p c.args.max_size c.args.buf.now.items (Ok (Some c.in-Some.frame)) (outgoing_view c.write_frame_at.new.self) c.write_frame_at.new.buf.items) fits told in
    λ _. inr (record {
      entry = c.args.entry.now;
      priority = c.args.entry.now.priority;
      frame = c.in-Some.frame;
      is_first = search rules;
      free = transmits.0;
      transmits = transmits.1.0;
      others = transmits.1.1;
      queue = queue ∙ ap (with_turn_ended (without_next (unreserved c.args.queue.now)) c.args.entry.now) next;
      sent = search rules;
    })
