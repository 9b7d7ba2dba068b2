-- Why a session queues no datagram.
use Rattle.std.specs.Prelude.{ℕ, ◌≡◌, Bool, true, List, Option, Some}
use Rattle.quic_datagrams.specs.declared.datagrams.DatagramState.{DatagramState}
use Rattle.quic_datagrams.specs.declared.datagrams.SendDatagramError.{SendDatagramError}
use Rattle.quic_datagrams.specs.declared.datagrams.SendDatagramError.TheVariants as send_error
use Rattle.quic_datagrams.specs.Sending.{send_refusal}
use Rattle.quic_session.specs.declared.datagrams.DatagramError.{DatagramError}
use Rattle.quic_session.specs.declared.datagrams.DatagramError.TheVariants as error
use Rattle.quic_session.specs.Sessions.{Datagrams}

-- the refusal that a queue of datagrams has for such content
abbrev pub refusal_of : Datagrams → List ℕ → Bool → Option SendDatagramError
refusal_of d content drop = send_refusal d.limits d.state.outgoing content drop

-- a datagram is refused for that, or for lack of memory
abbrev pub IsRefusedAs : Datagrams → List ℕ → Bool → DatagramError → Type 0
IsRefusedAs d content drop error.UnsupportedByPeer = refusal_of d content drop ≡ Some send_error.UnsupportedByPeer
IsRefusedAs d content drop error.Disabled = refusal_of d content drop ≡ Some send_error.Disabled
IsRefusedAs d content drop error.TooLarge = refusal_of d content drop ≡ Some send_error.TooLarge
IsRefusedAs d content drop error.Blocked = refusal_of d content drop ≡ Some (send_error.Blocked content)
IsRefusedAs d content drop error.OutOfMemory = Unit {0}

-- only one for which there is no room leaves a mark
abbrev pub after_error : DatagramState → DatagramError → DatagramState
after_error s error.Blocked = record s { send_blocked = true }
after_error s _ = s
