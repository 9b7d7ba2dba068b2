use Rattle.std.proofs.Common.{◌≡◌, ◌∙◌, ap, subst, rules}
use Rattle.std.specs.Prelude.{not, is_some}
use Rattle.std.specs.List.{list_any}
use Rattle.quic_queue.specs.SendOrder.{ids_of, line}
use Rattle.quic_outgoing.specs.Transmitting.{sending_priority}
use Rattle.quic_history.specs.World.{World}
use Rattle.quic_streams_c.specs.Settings.{flag}
use Rattle.quic_streams_c.proofs.connection.info_of.Goals as goal

pub returns : goal.returns
returns c =
    let Sends : World → Type 0 = λ w. c.can_send_stream_data.result ≡ list_any (λ id. is_some (sending_priority (w.out.halves id))) (ids_of (line w.queue)) in
    record {
      concurrent_bi = search rules;
      concurrent_uni = search rules;
      remote_bi = search rules;
      remote_uni = search rules;
      next_bi = search rules;
      next_uni = search rules;
      open_bi = search rules;
      open_uni = search rules;
      max_data = search rules;
      received = search rules;
      write_limit = search rules;
      send_streams = search rules;
      payloads = search rules;
      sendable = c.flag.ensures ∙ ap flag (subst Sends c.streams-streams.ensures c.can_send_stream_data.ensures);
      pending = (not c.has_pending.result, search rules, search rules);
    }
