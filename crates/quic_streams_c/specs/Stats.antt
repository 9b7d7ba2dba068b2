-- What C is told of the counters of a session.
use Rattle.std.specs.Prelude.{ℕ, ℤ, pos, ◌≡◌, List, [], ◌∷◌}
use Rattle.quic_session.specs.declared.session.Session.{Session}
use Rattle.quic_session.specs.declared.counts.Counts.{Counts}
use Rattle.quic_session.specs.Counts.{counts_of}
use Rattle.quic_streams_c.specs.declared.stats.RawStats.{RawStats}
use Rattle.quic_streams_c.specs.Words.{words_filled}

-- each counter by its name in C
abbrev pub raw_stats : Counts → RawStats
raw_stats c = record {
  sent_stream = c.sent.stream;
  sent_reset_stream = c.sent.reset_stream;
  sent_stop_sending = c.sent.stop_sending;
  sent_max_data = c.sent.max_data;
  sent_max_stream_data = c.sent.max_stream_data;
  sent_max_streams_bidi = c.sent.max_streams_bidi;
  sent_max_streams_uni = c.sent.max_streams_uni;
  sent_data_blocked = c.sent.data_blocked;
  sent_stream_data_blocked = c.sent.stream_data_blocked;
  sent_datagram = c.sent.datagram;
  received_stream = c.received.stream;
  received_reset_stream = c.received.reset_stream;
  received_stop_sending = c.received.stop_sending;
  received_max_data = c.received.max_data;
  received_max_stream_data = c.received.max_stream_data;
  received_max_streams_bidi = c.received.max_streams_bidi;
  received_max_streams_uni = c.received.max_streams_uni;
  received_data_blocked = c.received.data_blocked;
  received_stream_data_blocked = c.received.stream_data_blocked;
  received_datagram = c.received.datagram;
  lost_bytes = c.lost_bytes;
}

-- the words of qs_stats
abbrev pub stats_words : RawStats → List ℕ
stats_words s = s.sent_stream ∷ s.sent_reset_stream ∷ s.sent_stop_sending ∷ s.sent_max_data ∷ s.sent_max_stream_data
    ∷ s.sent_max_streams_bidi ∷ s.sent_max_streams_uni ∷ s.sent_data_blocked ∷ s.sent_stream_data_blocked ∷ s.sent_datagram
    ∷ s.received_stream ∷ s.received_reset_stream ∷ s.received_stop_sending ∷ s.received_max_data ∷ s.received_max_stream_data
    ∷ s.received_max_streams_bidi ∷ s.received_max_streams_uni ∷ s.received_data_blocked ∷ s.received_stream_data_blocked ∷ s.received_datagram
    ∷ s.lost_bytes ∷ []

-- qs_get_stats
abbrev pub TellsStats : Session → ℤ → List ℕ → List ℕ → Type 0
TellsStats s code was now = (code ≡ pos 0) × (now ≡ words_filled (stats_words (raw_stats (counts_of s))) was)
