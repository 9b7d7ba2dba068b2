-- What a session counts.
use Rattle.std.specs.Prelude.{ℕ, ◌+◌, ◌-◌, ◌^◌, min, List, [], ◌∷◌}
use Rattle.quic_wire.specs.declared.frame.Frame.{Frame}
use Rattle.quic_wire.specs.declared.frame.StreamMeta.{StreamMeta}
use Rattle.quic_datagrams.specs.declared.stats.FrameStats.{FrameStats}
use Rattle.quic_datagrams.specs.Counting.{with_frame}
use Rattle.quic_session.specs.declared.counts.Counts.{Counts}
use Rattle.quic_session.specs.declared.session.Session.{Session}

abbrev pub counts_of : Session → Counts
counts_of s = s.counts.value

-- a counter that counts so many more. It stops at the greatest number of 64 bits
abbrev pub more : ℕ → ℕ → ℕ
more count n = min (count + n) (2 ^ 64 - 1)

-- counters that have counted nothing
abbrev pub no_frames : FrameStats
no_frames = record {
  acks = 0;
  ack_frequency = 0;
  crypto = 0;
  connection_close = 0;
  data_blocked = 0;
  datagram = 0;
  handshake_done = 0;
  immediate_ack = 0;
  max_data = 0;
  max_stream_data = 0;
  max_streams_bidi = 0;
  max_streams_uni = 0;
  new_connection_id = 0;
  new_token = 0;
  path_challenge = 0;
  path_response = 0;
  ping = 0;
  reset_stream = 0;
  retire_connection_id = 0;
  stream_data_blocked = 0;
  streams_blocked_bidi = 0;
  streams_blocked_uni = 0;
  stop_sending = 0;
  stream = 0;
}

abbrev pub no_counts : Counts
no_counts = record { sent = no_frames; received = no_frames; lost_bytes = 0 }

-- so many DATAGRAM frames (RFC 9221 section 4), or STREAM frames (RFC 9000 section 19.8), were written
abbrev pub datagrams_counted : FrameStats → ℕ → FrameStats
datagrams_counted f n = record f { datagram = more f.datagram n }

abbrev pub streams_counted : FrameStats → ℕ → FrameStats
streams_counted f n = record f { stream = more f.stream n }

abbrev pub with_sent_frames : Counts → FrameStats → Counts
with_sent_frames c sent = record c { sent = sent }

abbrev pub datagrams_added : Counts → ℕ → Counts
datagrams_added c n = with_sent_frames c (datagrams_counted c.sent n)

abbrev pub streams_added : Counts → ℕ → Counts
streams_added c n = with_sent_frames c (streams_counted c.sent n)

-- a frame was received
abbrev pub with_received : Counts → Frame → Counts
with_received c frame = record c { received = with_frame c.received frame }

-- so many bytes of stream data were declared lost (RFC 9000 section 13.3)
abbrev pub with_lost_bytes : Counts → ℕ → Counts
with_lost_bytes c bytes = record c { lost_bytes = more c.lost_bytes bytes }

-- a count of bytes, and those that STREAM frames carry
abbrev pub bytes_added : ℕ → List StreamMeta → ℕ
bytes_added n [] = n
bytes_added n (frame ∷ frames) = bytes_added (more n (frame.offsets.end - frame.offsets.start)) frames

abbrev pub stream_bytes : List StreamMeta → ℕ
stream_bytes frames = bytes_added 0 frames

-- a session that counted a frame
abbrev pub with_frame_counted : Session → Frame → Session
with_frame_counted s frame = record s { counts = record s.counts { value = with_received (counts_of s) frame } }
