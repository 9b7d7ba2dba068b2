-- The slot of the next payload, and payloads without frames.
use Rattle.std.specs.Prelude.{ℕ, ◌≡◌, ◌<◌, [], Bool, Option, Some, None, Result, Ok, Err, OnOk, IsOk}
use Rattle.quic_values.specs.declared.memory.OutOfMemory.{OutOfMemory}
use Rattle.quic_retransmits.specs.Pending.{nothing}
use Rattle.quic_retransmits.specs.Settling.{noted_in}
use Rattle.quic_streams.specs.declared.settling.SentPayload.{SentPayload}
use Rattle.quic_session.specs.declared.session.Session.{Session}
use Rattle.quic_session.specs.declared.emitting.Emitted.{Emitted}
use Rattle.quic_session.specs.declared.emitting.Parts.{Parts}
use Rattle.quic_session.specs.Counts.{counts_of}
use Rattle.quic_session.specs.Sessions.{end_of, datagrams_view}
use Rattle.quic_session.specs.Tokens.{unsettled, places, KeepsNew}
use Rattle.quic_session.specs.Emitting.{KeepsNone, WritesNothing}

-- nothing changed but for slots of payloads
pub record ChangesSlots (s t : Session) : Type 0 where
  pub end : end_of t ≡ end_of s
  pub datagrams : datagrams_view t ≡ datagrams_view s
  pub conn : t.conn ≡ s.conn
  pub users : t.users ≡ s.users
  pub counts : counts_of t ≡ counts_of s
  pub kept : KeepsNone s t

-- a slot was reserved, or there was no memory for it
pub record ReservesSlot (s : Session) (answer : Result (Unit {0}) OutOfMemory) (t : Session) : Type 0 where
  pub slots : ChangesSlots s t
  pub ok : OnOk answer (0 < places t.unsettled)
  pub free : 0 < places s.unsettled → IsOk answer

-- a payload without frames stands under the next token
pub record KeepsEmpty (s : Session) (token : ℕ) (t : Session) : Type 0 where
  pub sent : SentPayload
  pub control : noted_in sent.control ≡ nothing
  pub streams : sent.streams.items ≡ []
  pub keeps : KeepsNew (unsettled s.unsettled) s.unsettled.next sent token (unsettled t.unsettled) t.unsettled.next
  pub end : end_of t ≡ end_of s
  pub datagrams : datagrams_view t ≡ datagrams_view s
  pub conn : t.conn ≡ s.conn
  pub users : t.users ≡ s.users
  pub counts : counts_of t ≡ counts_of s

-- what came of writing a payload whose slot was reserved: if no payload was written, the slot stays free, and an error means
-- that memory ran out while frames were written
abbrev pub EmitsReserved : ℕ → Session → Parts → Bool → Result (Option Emitted) OutOfMemory → Session → Type 0
EmitsReserved most s parts fair (Ok (Some e)) t = Unit {0}
EmitsReserved most s parts fair (Ok None) t = 0 < places t.unsettled
EmitsReserved most s parts fair (Err error) t = (0 < places t.unsettled) × WritesNothing most parts fair s (Err error) t
