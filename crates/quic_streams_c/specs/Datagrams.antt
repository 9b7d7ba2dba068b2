-- Datagrams that C queues and takes.
use Rattle.std.specs.Prelude.{ℕ, ℤ, Bool, true, false, pos, negsuc, ◌≡◌, ◌==◌, ◌-◌, ◌++◌, not, nat_lt, List, length, drop, Option, Some, None, Result, OnOk, IfErr}
use Rattle.quic_datagrams.specs.Queue.{total_cost, with_newest}
use Rattle.quic_datagrams.specs.Sending.{send_refusal}
use Rattle.quic_session.specs.declared.session.Session.{Session}
use Rattle.quic_session.specs.declared.datagrams.DatagramError.{DatagramError}
use Rattle.quic_session.specs.Sessions.{end_of, datagrams_view, beside_of, with_datagrams, oldest_received, without_oldest, with_max}
use Rattle.quic_session.specs.Datagrams.{IsRefusedAs, after_error}
use Rattle.quic_streams_c.specs.Answers.{TellsDone, datagram_code, TellsOption}
use Rattle.quic_streams_c.specs.Numbers.{length_at}

-- qs_datagram_send
pub record QueuesRaw (s : Session) (content : List ℕ) (drop_oldest : ℕ) (code : ℤ) (t : Session) : Type 0 where
  pub answer : Result (Unit {0}) DatagramError
  pub permitted : OnOk answer (send_refusal s.limits s.datagrams.outgoing content (not (drop_oldest == 0)) ≡ None)
  pub queued : OnOk answer (t.datagrams ≡ record s.datagrams { outgoing = with_newest s.limits.send s.datagrams.outgoing (record { bytes = content }) })
  pub refusal : IfErr answer (λ e. IsRefusedAs (datagrams_view s) content (not (drop_oldest == 0)) e)
  pub err : IfErr answer (λ e. t.datagrams ≡ after_error s.datagrams e)
  pub others : beside_of t ≡ with_datagrams (beside_of s) (record (datagrams_view s) { state = t.datagrams })
  pub end : end_of t ≡ end_of s
  pub tells : TellsDone datagram_code answer code

-- the oldest datagram is taken, unless it is longer than the buffer: then its length alone is told
abbrev pub TakesOldestDatagram : Session → Option (List ℕ) → List ℕ → ℤ → Session → List ℕ → ℕ → ℕ → Type 0
TakesOldestDatagram s None out code t new was now = (code ≡ pos 1) × (new ≡ out) × (now ≡ was) × (beside_of t ≡ beside_of s)
TakesOldestDatagram s (Some bytes) out code t new was now = (now ≡ length bytes) × Copies (nat_lt (length out) (length bytes))
  where
    Copies : Bool → Type 0
    Copies true = (code ≡ negsuc 14) × (new ≡ out) × (beside_of t ≡ beside_of s)
    Copies false = (code ≡ pos 0) × (new ≡ bytes ++ drop (length bytes) out) × (beside_of t ≡ with_datagrams (beside_of s) (without_oldest (datagrams_view s)))

-- qs_datagram_recv
abbrev pub TakesRaw : Session → List ℕ → ℤ → Session → List ℕ → ℕ → ℕ → Type 0
TakesRaw s out code t new was now = (end_of t ≡ end_of s) × TakesOldestDatagram s (oldest_received s.datagrams.incoming) out code t new was now

-- qs_datagram_max_size
abbrev pub TellsMax : Session → ℤ → ℕ → ℕ → Type 0
TellsMax s code was now = TellsOption s.limits.max (negsuc 12) code was now

-- qs_datagram_send_space
abbrev pub TellsSpace : Session → ℤ → ℕ → Type 0
TellsSpace s code now = (code ≡ pos 0) × (now ≡ s.limits.send - total_cost s.datagrams.outgoing - 32)

-- qs_datagram_set_max_size
abbrev pub SetsMax : Session → ℕ → ℤ → Session → Type 0
SetsMax s size code t = (code ≡ pos 0) × (end_of t ≡ end_of s) × (beside_of t ≡ with_datagrams (beside_of s) (with_max (datagrams_view s) (length_at size)))
