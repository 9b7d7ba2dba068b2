-- When a datagram may be sent.
use Rattle.std.specs.Prelude.{◌≡◌, ℕ, ◌+◌, Bool, true, false, not, ◌&&◌, ◌||◌, List, length, nat_lt, nat_le, Option, Some, None, if◌then◌else◌}
use Rattle.quic_wire.specs.declared.frame.Datagram.{Datagram}
use Rattle.quic_datagrams.specs.declared.datagrams.DatagramLimits.{DatagramLimits}
use Rattle.quic_datagrams.specs.declared.datagrams.DatagramState.{DatagramState}
use Rattle.quic_datagrams.specs.declared.datagrams.SendDatagramError.{SendDatagramError}
use Rattle.quic_datagrams.specs.declared.datagrams.SendDatagramError.TheVariants as send_error
use Rattle.quic_datagrams.specs.Queue.{total_cost, no_longer_than}

-- why some content is not queued, if it is not: what waits leaves no room, and none of it may be dropped
abbrev pub room_refusal : ℕ → List Datagram → List ℕ → Bool → Option SendDatagramError
room_refusal window queued content drop =
    if drop || nat_le (total_cost queued + (length content + 32)) window then None else Some (send_error.Blocked content)

-- or it is too large for the peer or for the buffer
abbrev pub size_refusal : ℕ → ℕ → List Datagram → List ℕ → Bool → Option SendDatagramError
size_refusal max window queued content drop =
    if nat_le (length content) max && nat_le (length content + 32) window
    then room_refusal window queued content drop
    else Some send_error.TooLarge

-- or datagrams are off, here or at the peer
abbrev pub send_refusal : DatagramLimits → List Datagram → List ℕ → Bool → Option SendDatagramError
send_refusal limits queued content drop = by_end limits.receive limits.max
  where
    by_end : Option ℕ → Option ℕ → Option SendDatagramError
    by_end None max = Some send_error.Disabled
    by_end (Some receive) None = Some send_error.UnsupportedByPeer
    by_end (Some receive) (Some max) = size_refusal max limits.send queued content drop

-- the answer where nothing is queued: that refusal or, where there is none, lack of memory, which gives the content back
abbrev pub IsSendRefusal : DatagramLimits → List Datagram → List ℕ → Bool → SendDatagramError → Type 0
IsSendRefusal limits queued content drop (send_error.OutOfMemory back) = (send_refusal limits queued content drop ≡ None) × (back ≡ content)
IsSendRefusal limits queued content drop e = send_refusal limits queued content drop ≡ Some e

-- only a datagram for which there is no room leaves a mark
abbrev pub after_refusal : DatagramState → SendDatagramError → DatagramState
after_refusal s (send_error.Blocked content) = record s { send_blocked = true }
after_refusal s _ = s

-- some that wait are longer than the greatest length, while a sender is blocked
abbrev pub has_unblocked : Option ℕ → DatagramState → Bool
has_unblocked None s = false
has_unblocked (Some n) s = nat_lt (length (no_longer_than n s.outgoing)) (length s.outgoing) && s.send_blocked

-- the datagrams once those went that are too long, if there is a greatest length
abbrev pub after_drop : Option ℕ → DatagramState → DatagramState
after_drop None s = s
after_drop (Some n) s = record s {
  outgoing = no_longer_than n s.outgoing;
  send_blocked = s.send_blocked && not (has_unblocked (Some n) s);
}
