-- What is to be sent, again or for the first time, beside the data of streams.
use Rattle.std.specs.Prelude.{◌≡◌, ℕ, ◌+◌, ◌<◌, ◌≤◌, Bool, false, ◌||◌, List, [], ◌∷◌, ◌++◌, slice_index_or, vec_len, zero, suc, Option, Some, None}
use Rattle.std.specs.Vec.{vec_capacity}
use Rattle.std.specs.Option.{option_map}
use Rattle.std.specs.VecDeque.{deque_len, deque_capacity}
use Rattle.std.specs.declared.net.SocketAddr.{SocketAddr}
use Rattle.quic_wire.specs.declared.frame.StopSending.{StopSending}
use Rattle.quic_wire.specs.declared.frame.Crypto.{Crypto}
use Rattle.quic_wire.specs.declared.error.ReceiveError.{ReceiveError}
use Rattle.quic_wire.specs.declared.error.ReceiveError.TheVariants as receive_error
use Rattle.quic_wire.specs.Codes.{CONNECTION_ID_LIMIT_ERROR}
use Rattle.quic_retransmits.specs.Ids.{is_in_ids, id_entries, id_rooms}
use Rattle.quic_retransmits.specs.declared.retransmits.IssuedCid.{IssuedCid}
use Rattle.quic_retransmits.specs.declared.retransmits.Retransmits.{Retransmits}
use Rattle.quic_retransmits.specs.declared.retransmits.ThinRetransmits.{ThinRetransmits}

-- lists in the order of their elements, and sets as functions that say what is in them
pub record Pending : Type 0 where
  pub max_data : Bool
  pub data_blocked : Bool
  pub max_streams_bi : Bool
  pub max_streams_uni : Bool
  pub reset_stream : List (ℕ × ℕ)
  pub stop_sending : List StopSending
  pub max_stream_data : ℕ → Bool
  pub stream_data_blocked : ℕ → Bool
  pub crypto : List Crypto
  pub new_cids : List IssuedCid
  pub retire_cids : List ℕ
  pub ack_frequency : Bool
  pub handshake_done : Bool
  pub new_tokens : List SocketAddr

abbrev pub pending_view : Retransmits → Pending
pending_view r = record {
  max_data = r.max_data;
  data_blocked = r.data_blocked;
  max_streams_bi = slice_index_or r.max_stream_id 0 false;
  max_streams_uni = slice_index_or r.max_stream_id 1 false;
  reset_stream = r.reset_stream.items;
  stop_sending = r.stop_sending.items;
  max_stream_data = is_in_ids r.max_stream_data;
  stream_data_blocked = is_in_ids r.stream_data_blocked;
  crypto = r.crypto.items;
  new_cids = r.new_cids.items;
  retire_cids = r.retire_cids.items;
  ack_frequency = r.ack_frequency;
  handshake_done = r.handshake_done;
  new_tokens = r.new_tokens.items;
}

-- nothing is to be sent
abbrev pub nothing : Pending
nothing = record {
  max_data = false;
  data_blocked = false;
  max_streams_bi = false;
  max_streams_uni = false;
  reset_stream = [];
  stop_sending = [];
  max_stream_data = λ id. false;
  stream_data_blocked = λ id. false;
  crypto = [];
  new_cids = [];
  retire_cids = [];
  ack_frequency = false;
  handshake_done = false;
  new_tokens = [];
}

-- what is in either: the lists of the second behind those of the first, but its crypto in front
abbrev pub merged : Pending → Pending → Pending
merged a b = record {
  max_data = a.max_data || b.max_data;
  data_blocked = a.data_blocked || b.data_blocked;
  max_streams_bi = a.max_streams_bi || b.max_streams_bi;
  max_streams_uni = a.max_streams_uni || b.max_streams_uni;
  reset_stream = a.reset_stream ++ b.reset_stream;
  stop_sending = a.stop_sending ++ b.stop_sending;
  max_stream_data = λ id. a.max_stream_data id || b.max_stream_data id;
  stream_data_blocked = λ id. a.stream_data_blocked id || b.stream_data_blocked id;
  crypto = b.crypto ++ a.crypto;
  new_cids = a.new_cids ++ b.new_cids;
  retire_cids = a.retire_cids ++ b.retire_cids;
  ack_frequency = a.ack_frequency || b.ack_frequency;
  handshake_done = a.handshake_done || b.handshake_done;
  new_tokens = a.new_tokens ++ b.new_tokens;
}

abbrev pub merged_if : Pending → Option Pending → Pending
merged_if a None = a
merged_if a (Some b) = merged a b

-- a list joined to what is there, from its first on
abbrev pub collected : Pending → List Retransmits → Pending
collected a [] = a
collected a (r ∷ rs) = collected (merged a (pending_view r)) rs

-- what is to be sent, if anything was asked for
abbrev pub thin_view : ThinRetransmits → Option Pending
thin_view t = option_map (λ b. pending_view b.value) t.retransmits

-- there is room for all that the second has in the first
pub record HasRoomFor (a b : Retransmits) : Type 0 where
  pub reset_stream : vec_len a.reset_stream + vec_len b.reset_stream ≤ vec_capacity a.reset_stream
  pub stop_sending : vec_len a.stop_sending + vec_len b.stop_sending ≤ vec_capacity a.stop_sending
  pub max_stream_data : id_entries b.max_stream_data ≤ id_rooms a.max_stream_data
  pub stream_data_blocked : id_entries b.stream_data_blocked ≤ id_rooms a.stream_data_blocked
  pub crypto : deque_len a.crypto + deque_len b.crypto ≤ deque_capacity a.crypto
  pub new_cids : vec_len a.new_cids + vec_len b.new_cids ≤ vec_capacity a.new_cids
  pub retire_cids : vec_len a.retire_cids + vec_len b.retire_cids ≤ vec_capacity a.retire_cids
  pub new_tokens : vec_len a.new_tokens + vec_len b.new_tokens ≤ vec_capacity a.new_tokens

-- numbers that follow each other, from one on
abbrev pub numbers_from : ℕ → ℕ → List ℕ
numbers_from start zero = []
numbers_from start (suc n) = start ∷ numbers_from (start + 1) n

-- why numbers are not queued: with them more than 50 would wait, or memory ran out
abbrev pub IsRetireRefusal : ℕ → ReceiveError → Type 0
IsRetireRefusal waiting (receive_error.Transport e) = (50 < waiting) × (e.code ≡ CONNECTION_ID_LIMIT_ERROR)
IsRetireRefusal waiting receive_error.OutOfMemory = waiting ≤ 50
IsRetireRefusal waiting receive_error.CompactionMemory = ⊥
