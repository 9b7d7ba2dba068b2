-- The peer's transport parameters (RFC 9000 section 7.4), and what they do to the streams that this end opened before.
use Rattle.std.specs.Prelude.{◌≡◌, ℕ, Bool, false, List, [], ◌∷◌, Option, Some, None, Result, Ok, Err, if◌then◌else◌}
use Rattle.std.specs.List.{filter}
use Rattle.quic_values.specs.declared.memory.OutOfMemory.{OutOfMemory}
use Rattle.quic_sending.specs.declared.send.Send.{Send}
use Rattle.quic_outgoing.specs.declared.entries.FirstLimits.{FirstLimits}
use Rattle.quic_outgoing.specs.declared.limits.PeerLimits.{PeerLimits}
use Rattle.quic_outgoing.specs.Senders.{first_limit}
use Rattle.quic_outgoing.specs.Outgoing.{Outgoing, own_ids, first_of, with_params, waiting, is_stuck}
use Rattle.quic_outgoing.specs.Calls.{is_woken}

-- whether a limit lets a stream be written on that was written up to its limit
abbrev pub is_woken_in : ℕ → Option Send → Bool
is_woken_in n None = false
is_woken_in n (Some s) = is_woken s n

-- those of some streams that first limits let be written on again, in their order
abbrev pub woken_among : Outgoing → FirstLimits → List ℕ → List ℕ
woken_among u l ids = filter (λ id. is_woken_in (first_limit u.side l id) (u.halves id)) ids

-- those of the streams that this end opened, bidirectional ones first
abbrev pub own_woken : Outgoing → PeerLimits → List ℕ
own_woken u p = woken_among u (first_of p) (own_ids u)

-- a stream waits whose half is held
abbrev pub as_waiting : Outgoing → ℕ → Option Send → Outgoing
as_waiting u id None = u
as_waiting u id (Some s) = waiting u id s

-- several streams wait, one after another
abbrev pub with_waiting : Outgoing → List ℕ → Outgoing
with_waiting u [] = u
with_waiting u (id ∷ ids) = with_waiting (as_waiting u id (u.halves id)) ids

-- those that are woken wait where nothing may be written with the new limit of the connection either
abbrev pub with_woken : Outgoing → PeerLimits → Outgoing
with_woken u p = if is_stuck (with_params u p) then with_waiting u (own_woken u p) else u

-- the application is to be told of those that are woken where something may be written
abbrev pub newly_writable : Outgoing → PeerLimits → List ℕ
newly_writable u p = if is_stuck (with_params u p) then [] else own_woken u p

-- the peer gave its limits: each counts that is above what was held, and each stream of this end is given its own as
-- MAX_STREAM_DATA would give it
abbrev pub after_params : Outgoing → PeerLimits → Outgoing
after_params u p = with_params (with_woken u p) p

-- out of memory, nothing changes
abbrev pub GivesParams : Outgoing → PeerLimits → Result (Unit {0}) OutOfMemory → Outgoing → Type 0
GivesParams u p (Ok x) v = v ≡ after_params u p
GivesParams u p (Err e) v = v ≡ u
