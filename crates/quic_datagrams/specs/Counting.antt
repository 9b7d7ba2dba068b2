-- Which frame counts where.
use Rattle.std.specs.Prelude.{ℕ, ◌+◌, ◌-◌, ◌^◌, min}
use Rattle.quic_values.specs.declared.ids.Dir.TheVariants as dirs
use Rattle.quic_wire.specs.declared.frame.Frame.{Frame}
use Rattle.quic_wire.specs.declared.frame.Frame.TheVariants as frames
use Rattle.quic_datagrams.specs.declared.stats.FrameStats.{FrameStats}
use Rattle.quic_values.specs.Offsets.{one_more}

-- one more, up to the greatest number of 8 bits
abbrev pub one_more_short : ℕ → ℕ
one_more_short n = min (n + 1) (2 ^ 8 - 1)

-- the counters once a frame is counted: one for each type (RFC 9000 section 12.4), none for padding
abbrev pub with_frame : FrameStats → Frame → FrameStats
with_frame s frames.Padding = s
with_frame s frames.Ping = record s { ping = one_more s.ping }
with_frame s frames.Ack = record s { acks = one_more s.acks }
with_frame s (frames.ResetStream f) = record s { reset_stream = one_more s.reset_stream }
with_frame s (frames.StopSending f) = record s { stop_sending = one_more s.stop_sending }
with_frame s (frames.Crypto f) = record s { crypto = one_more s.crypto }
with_frame s frames.NewToken = record s { new_token = one_more s.new_token }
with_frame s (frames.Stream f) = record s { stream = one_more s.stream }
with_frame s (frames.MaxData n) = record s { max_data = one_more s.max_data }
with_frame s (frames.MaxStreamData id offset) = record s { max_stream_data = one_more s.max_stream_data }
with_frame s (frames.MaxStreams dirs.Bi count) = record s { max_streams_bidi = one_more s.max_streams_bidi }
with_frame s (frames.MaxStreams dirs.Uni count) = record s { max_streams_uni = one_more s.max_streams_uni }
with_frame s (frames.DataBlocked offset) = record s { data_blocked = one_more s.data_blocked }
with_frame s (frames.StreamDataBlocked id offset) = record s { stream_data_blocked = one_more s.stream_data_blocked }
with_frame s (frames.StreamsBlocked dirs.Bi) = record s { streams_blocked_bidi = one_more s.streams_blocked_bidi }
with_frame s (frames.StreamsBlocked dirs.Uni) = record s { streams_blocked_uni = one_more s.streams_blocked_uni }
with_frame s frames.NewConnectionId = record s { new_connection_id = one_more s.new_connection_id }
with_frame s frames.RetireConnectionId = record s { retire_connection_id = one_more s.retire_connection_id }
with_frame s frames.PathChallenge = record s { path_challenge = one_more s.path_challenge }
with_frame s frames.PathResponse = record s { path_response = one_more s.path_response }
with_frame s frames.Close = record s { connection_close = one_more s.connection_close }
with_frame s (frames.Datagram d) = record s { datagram = one_more s.datagram }
with_frame s frames.AckFrequency = record s { ack_frequency = one_more s.ack_frequency }
with_frame s frames.ImmediateAck = record s { immediate_ack = one_more s.immediate_ack }
with_frame s frames.HandshakeDone = record s { handshake_done = one_more_short s.handshake_done }
