-- What the receiving calls of a connection do.
use Rattle.std.specs.Prelude.{ℕ, Bool, true, false, not, ◌≡◌, ◌-◌, ◌==◌, ◌⊎◌, ◌&&◌, ◌||◌, if◌then◌else◌, List, Option, Some, None, is_some, Result, Ok, Err}
use Rattle.quic_wire.specs.declared.error.ReceiveError.{ReceiveError}
use Rattle.quic_wire.specs.declared.error.ReceiveError.TheVariants as receive_error
use Rattle.quic_wire.specs.declared.error.TransportError.{TransportError}
use Rattle.quic_limits.specs.Credit.{is_max_data_due}
use Rattle.quic_limits.specs.Remote.{is_max_streams_due}
use Rattle.quic_receiving.specs.Half.{Half}
use Rattle.quic_receiving.specs.Calls.{Ingests, Resets}
use Rattle.quic_receiving.specs.declared.transmit.ShouldTransmit.{ShouldTransmit}
use Rattle.quic_retransmits.specs.Pending.{Pending}
use Rattle.quic_history.specs.World.{World, id_refusal, with_freed, noticed, with_credit, advanced}

-- frames on a stream without a receive half, and on one that was reset, are dropped
abbrev pub IsDropped : Option Half → Type 0
IsDropped None = Unit {0}
IsDropped (Some h) = is_some h.reset ≡ true

-- a STREAM frame was taken on a half
abbrev pub after_data : World → ℕ → Half → Half → Bool → World
after_data w id h h' fin = let u = advanced w id h h' in
    if h.stopped
    then with_credit (if fin then with_freed u id else u) (h'.end - h.end)
    else noticed u id true

-- a STREAM frame reached the half h, and made it h'
pub record Reaches (w : World) (id offset : ℕ) (bytes : List ℕ) (fin : Bool) (answer : Result (ℕ × Bool) ReceiveError) (h h' : Half) : Type 0 where
  pub known : id_refusal w id ≡ None
  pub half : w.receive id ≡ Some h
  pub running : h.reset ≡ None
  pub ingests : Ingests h offset bytes fin w.credit.data_recvd w.credit.local_max_data answer h'

-- what came of a STREAM frame (RFC 9000 section 19.8)
abbrev pub Receives : World → ℕ → ℕ → List ℕ → Bool → Result ShouldTransmit ReceiveError → World → Type 0
Receives w id offset bytes fin (Ok transmit) v =
    ((id_refusal w id ≡ None) × IsDropped (w.receive id) × (transmit.0 ≡ false) × (v ≡ w))
    ⊎ ((answer : ℕ × Bool) × (h : Half) × (h' : Half) × Reaches w id offset bytes fin (Ok answer) h h'
    × (transmit.0 ≡ (h.stopped && is_max_data_due v.credit)) × (v ≡ after_data w id h h' fin))
Receives w id offset bytes fin (Err (receive_error.Transport error)) v =
    ((id_refusal w id ≡ Some error.code) × (v ≡ w))
    ⊎ ((h : Half) × (h' : Half) × Reaches w id offset bytes fin (Err (receive_error.Transport error)) h h' × (v ≡ advanced w id h h'))
Receives w id offset bytes fin (Err receive_error.CompactionMemory) v =
    (h : Half) × (h' : Half) × Reaches w id offset bytes fin (Err receive_error.CompactionMemory) h h' × (v ≡ advanced w id h h')
Receives w id offset bytes fin (Err receive_error.OutOfMemory) v = v ≡ w

-- a RESET_STREAM reached the half h, and made it h'
pub record ResetReaches (w : World) (id code final : ℕ) (answer : Result Bool TransportError) (h h' : Half) : Type 0 where
  pub known : id_refusal w id ≡ None
  pub half : w.receive id ≡ Some h
  pub resets : Resets h code final w.credit.data_recvd w.credit.local_max_data answer h'

-- up to where a half gave credit: a stopped one to the highest offset received, another to what was read
abbrev pub credited_to : Half → ℕ
credited_to h = if h.stopped then h.end else h.buffer.bytes_read

-- what gives no credit yet gives it, if it is some
abbrev pub with_rest : World → ℕ → World
with_rest w n = if n == 0 then w else with_credit w n

-- the first RESET_STREAM was taken on a half
abbrev pub after_reset : World → ℕ → Half → Half → World
after_reset w id h h' = let u = noticed (advanced w id h h') id (not h.stopped) in
    with_rest (if h.stopped then with_freed u id else u) (h'.end - credited_to h)

-- what came of a RESET_STREAM frame (RFC 9000 section 19.4)
abbrev pub ReceivesReset : World → ℕ → ℕ → ℕ → Result ShouldTransmit ReceiveError → World → Type 0
ReceivesReset w id code final (Ok transmit) v =
    ((id_refusal w id ≡ None) × (w.receive id ≡ None) × (transmit.0 ≡ false) × (v ≡ w))
    ⊎ ((h : Half) × (h' : Half) × ResetReaches w id code final (Ok false) h h' × (transmit.0 ≡ false) × (v ≡ w))
    ⊎ ((h : Half) × (h' : Half) × ResetReaches w id code final (Ok true) h h'
    × (transmit.0 ≡ (not (h'.end - credited_to h == 0) && is_max_data_due v.credit)) × (v ≡ after_reset w id h h'))
ReceivesReset w id code final (Err (receive_error.Transport error)) v =
    ((id_refusal w id ≡ Some error.code) × (v ≡ w))
    ⊎ ((h : Half) × (h' : Half) × ResetReaches w id code final (Err error) h h' × (v ≡ w))
ReceivesReset w id code final (Err receive_error.CompactionMemory) v = ⊥
ReceivesReset w id code final (Err receive_error.OutOfMemory) v = v ≡ w

-- MAX_STREAMS is queued where it is due
abbrev pub with_max_streams : World → Pending → Pending
with_max_streams w p = record p { max_streams_bi = p.max_streams_bi || is_max_streams_due w.bi; max_streams_uni = p.max_streams_uni || is_max_streams_due w.uni }
