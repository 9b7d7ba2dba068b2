-- Lemmas on what is joined.
use Rattle.std.proofs.Common.{◌≡◌, refl}
use Rattle.std.specs.Prelude.{◌||◌, Bool, true, false}
use Rattle.std.proofs.lemmas.List.{append-nil}
use Rattle.quic_retransmits.specs.Pending.{Pending, nothing, merged}

or-nothing : (b : Bool) → (b || false) ≡ b
or-nothing true = refl
or-nothing false = refl

-- nothing adds nothing
pub merged-nothing : (a : Pending) → merged a nothing ≡ a
merged-nothing a =
    λ i. record {
      max_data = or-nothing a.max_data i;
      data_blocked = or-nothing a.data_blocked i;
      max_streams_bi = or-nothing a.max_streams_bi i;
      max_streams_uni = or-nothing a.max_streams_uni i;
      reset_stream = append-nil a.reset_stream i;
      stop_sending = append-nil a.stop_sending i;
      max_stream_data = λ id. or-nothing (a.max_stream_data id) i;
      stream_data_blocked = λ id. or-nothing (a.stream_data_blocked id) i;
      crypto = a.crypto;
      new_cids = append-nil a.new_cids i;
      retire_cids = append-nil a.retire_cids i;
      ack_frequency = or-nothing a.ack_frequency i;
      handshake_done = or-nothing a.handshake_done i;
      new_tokens = append-nil a.new_tokens i;
    }

-- what is joined to nothing stays as it is
pub nothing-merged : (a : Pending) → merged nothing a ≡ a
nothing-merged a = λ i. record a { crypto = append-nil a.crypto i }
