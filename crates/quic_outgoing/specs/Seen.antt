-- The send halves that are held, as contracts see them.
use Rattle.std.specs.Prelude.{ℕ, ◌≡◌, ◌==◌, Bool, true, false, Option, Some, None, is_some, IfSome}
use Rattle.std.specs.Option.{option_map}
use Rattle.std.specs.HashMap.{get, spare}
use Rattle.std.specs.Global.{Box}
use Rattle.quic_sending.specs.declared.send.Send.{Send}
use Rattle.quic_sending.specs.Buffer.{is_acked}
use Rattle.quic_outgoing.specs.Senders.{SendersById, bare, new_sender, raised, first_limit}
use Rattle.quic_outgoing.specs.Early.{as_unsent}
use Rattle.quic_outgoing.specs.declared.entries.SendEntries.{SendEntries}

-- a half that was not used is a new one
abbrev pub sender_in : ℕ → Option (Box Send) → Send
sender_in limit None = new_sender limit
sender_in limit (Some b) = raised limit (bare b.value)

-- the halves that are held
unfoldable pub senders : SendEntries → SendersById
senders e = λ q. option_map (sender_in (first_limit e.side e.first q)) (get ◌==◌ e.entries q)

-- whether the half of an entry was used or made: nothing that is done on it takes memory
abbrev pub was_made : Option (Option (Box Send)) → Bool
was_made None = false
was_made (Some v) = is_some v

-- and that of a stream
abbrev pub is_made : SendEntries → ℕ → Bool
is_made e q = was_made (get ◌==◌ e.entries q)

-- a half that was used, once all of it counts as not sent
abbrev pub unsent_box : Box Send → Box Send
unsent_box b = record b { value = as_unsent b.value }

-- an offset of it is acknowledged, if the half was used
abbrev pub IsAckedAt : ℕ → Option (Box Send) → Type 0
IsAckedAt n v = IfSome v (λ b. is_acked b.value.pending n ≡ true)

-- how many more halves can be held without new memory
abbrev pub sender_room : SendEntries → ℕ
sender_room e = spare e.entries
