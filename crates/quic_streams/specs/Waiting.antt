-- Whether anything that is pending could be sent (RFC 9000 section 13.3).
use Rattle.std.specs.Prelude.{◌≡◌, ◌⊎◌, ℕ, Bool, true, false, not, ◌==◌, ◌&&◌, ◌||◌, length, is_some}
use Rattle.quic_limits.specs.SendingCredit.{is_blocked_reported}
use Rattle.quic_outgoing.specs.Calls.{blocked_limit}
use Rattle.quic_retransmits.specs.Pending.{Pending}
use Rattle.quic_history.specs.World.{World}
use Rattle.quic_history.specs.Permitting.{is_flow_controlled}

-- whether any number of a set passes a test
abbrev pub TellsAny : (ℕ → Bool) → (ℕ → Bool) → Bool → Type 0
TellsAny ids test true = (id : ℕ) × (ids id ≡ true) × (test id ≡ true)
TellsAny ids test false = (id : ℕ) → ids id ≡ true → test id ≡ false

-- whether MAX_STREAM_DATA is of use on a stream
abbrev pub window_counts : World → ℕ → Bool
window_counts w id = is_flow_controlled (w.receive id)

-- whether STREAM_DATA_BLOCKED is of use on a stream
abbrev pub limit_counts : World → ℕ → Bool
limit_counts w id = is_some (blocked_limit (w.out.halves id))

-- whether something is pending that is of no stream's window. DATA_BLOCKED counts while the limit is held for which it
-- was queued
abbrev pub has_lasting : World → Pending → Bool
has_lasting w p = p.max_data || p.data_blocked && is_blocked_reported w.out.budget || p.max_streams_bi || p.max_streams_uni
    || not (length p.reset_stream == 0) || not (length p.stop_sending == 0) || not (length p.crypto == 0)
    || not (length p.new_cids == 0) || not (length p.retire_cids == 0) || p.ack_frequency || p.handshake_done || not (length p.new_tokens == 0)

-- nothing that is pending could be sent, or something could
abbrev pub TellsEmpty : World → Pending → Bool → Type 0
TellsEmpty w p true = (has_lasting w p ≡ false) × TellsAny p.max_stream_data (window_counts w) false × TellsAny p.stream_data_blocked (limit_counts w) false
TellsEmpty w p false = (has_lasting w p ≡ true) ⊎ (TellsAny p.max_stream_data (window_counts w) true ⊎ TellsAny p.stream_data_blocked (limit_counts w) true)
