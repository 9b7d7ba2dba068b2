-- Payloads that C has written, and what it says of them.
use Rattle.std.specs.Prelude.{ℕ, ℤ, Bool, pos, negsuc, ◌≡◌, ◌==◌, ◌&&◌, ◌/◌, ◌%◌, not, nat_lt, if◌then◌else◌, List, [], ◌∷◌, length, Option, Some, None, Result, Ok, Err}
use denote.RawPtr.{Ptr}
use Rattle.std.specs.Vec.{vec_ptr}
use Rattle.quic_values.specs.declared.memory.OutOfMemory.{OutOfMemory}
use Rattle.quic_session.specs.declared.session.Session.{Session}
use Rattle.quic_session.specs.declared.emitting.Emitted.{Emitted}
use Rattle.quic_session.specs.declared.emitting.Parts.{Parts}
use Rattle.quic_session.specs.declared.settling.SettleError.{SettleError}
use Rattle.quic_session.specs.Sessions.{end_of}
use Rattle.quic_session.specs.Emitting.{EmitsPayload, EmitsLent, GoesOnWithFrames}
use Rattle.quic_session.specs.Settling.{AcksToken, LosesToken, SettlesOnly}
use Rattle.quic_streams_c.specs.Answers.{TellsDone, settle_code}
use Rattle.quic_streams_c.specs.Calls.{Refuses, WithNumber}
use Rattle.quic_streams_c.specs.Words.{words_filled}

-- the parts that a number asks for: 1 is control frames, 2 datagrams, 4 data
abbrev pub parts_at : ℕ → Option Parts
parts_at n = if nat_lt 0 n && nat_lt n 8 then Some (record { control = n % 2 == 1; datagrams = n / 2 % 2 == 1; streams = n / 4 == 1 }) else None

-- the words of qs_payload
abbrev pub payload_words : Emitted → List ℕ
payload_words e = e.len ∷ e.token ∷ (if e.ends then 1 else 0) ∷ []

-- what C is told of a payload
abbrev pub TellsPayload : Result (Option Emitted) OutOfMemory → ℤ → List ℕ → List ℕ → Type 0
TellsPayload (Ok (Some e)) code was now = (code ≡ pos 0) × (now ≡ words_filled (payload_words e) was)
TellsPayload (Ok None) code was now = (code ≡ pos 1) × (now ≡ was)
TellsPayload (Err error) code was now = (code ≡ negsuc 1) × (now ≡ was)

-- a payload is written, of these parts
pub record Emitting (s : Session) (parts : Parts) (fair : Bool) (out : List ℕ) (code : ℤ) (t : Session) (new : List ℕ) (was now : List ℕ) : Type 0 where
  pub answer : Result (Option Emitted) OutOfMemory
  pub emits : EmitsPayload s parts fair out answer t new
  pub from : GoesOnWithFrames (length out) fair (end_of s).streams (end_of t).streams
  pub conn : t.conn ≡ s.conn
  pub tells : TellsPayload answer code was now

-- qs_emit
abbrev pub EmitsRaw : Session → ℕ → ℕ → List ℕ → ℤ → Session → List ℕ → List ℕ → List ℕ → Type 0
EmitsRaw s parts fair out code t new was now = WithNumber (parts_at parts) (Refuses s code t × (new ≡ out) × (now ≡ was)) (λ p. Emitting s p (not (fair == 0)) out code t new was now)

-- where a payload is lent, if one was written
abbrev pub TellsPlace : Result (Option Emitted) OutOfMemory → Session → Ptr → Ptr → Type 0
TellsPlace (Ok (Some e)) t was now = now ≡ vec_ptr t.bytes
TellsPlace (Ok None) t was now = now ≡ was
TellsPlace (Err error) t was now = now ≡ was

-- a payload of at most so many bytes is written, of these parts, and is lent
pub record EmittingLent (s : Session) (parts : Parts) (fair : Bool) (most : ℕ) (code : ℤ) (t : Session) (was now : Ptr) (told told' : List ℕ) : Type 0 where
  pub answer : Result (Option Emitted) OutOfMemory
  pub emits : EmitsLent most s parts fair answer t t.bytes.items
  pub from : GoesOnWithFrames most fair (end_of s).streams (end_of t).streams
  pub conn : t.conn ≡ s.conn
  pub tells : TellsPayload answer code told told'
  pub place : TellsPlace answer t was now

-- qs_emit_lent
abbrev pub EmitsLentRaw : Session → ℕ → ℕ → ℕ → ℤ → Session → Ptr → Ptr → List ℕ → List ℕ → Type 0
EmitsLentRaw s parts fair most code t was now told told' = WithNumber (parts_at parts) (Refuses s code t × (now ≡ was) × (told' ≡ told)) (λ p. EmittingLent s p (not (fair == 0)) most code t was now told told')

-- qs_acked
abbrev pub AcksRaw : Session → ℕ → ℤ → Session → Type 0
AcksRaw s token code t = (answer : Result (Unit {0}) SettleError) × AcksToken s token answer t × SettlesOnly s t × TellsDone settle_code answer code

-- qs_lost
abbrev pub LosesRaw : Session → ℕ → ℤ → Session → Type 0
LosesRaw s token code t = (answer : Result (Unit {0}) SettleError) × LosesToken s token answer t × SettlesOnly s t × TellsDone settle_code answer code
