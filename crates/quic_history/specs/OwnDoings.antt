-- What a client does by itself while its peer has not answered (RFC 9001 section 4.6).
use Rattle.std.specs.Prelude.{Bool, true, false, ◌≡◌, ◌⊎◌, List, [], ◌∷◌, is_some}
use Rattle.quic_values.specs.declared.ids.Side.TheVariants.{Client}
use Rattle.quic_outgoing.specs.Senders.{is_local}
use Rattle.quic_history.specs.SendEvents.{SendEvent, OpenedOwn, SetWindow, WroteOwn, FinishedOwn, ResetOwn, SetOwnPriority, LostOwn, TookTurn, Polled}
use Rattle.quic_history.specs.History.{Event, Began, Gave, Ended, Stopped, ToldReset, Resized, SetConcurrent, Accepted, LeftPending, Sending, SentAgain, limits_in}

-- on the sending side: no frame of the peer was handed in, and no acknowledgement
abbrev pub is_own_sending : SendEvent → Bool
is_own_sending (OpenedOwn dir closed answer) = true
is_own_sending (SetWindow window) = true
is_own_sending (WroteOwn id lists closed answer) = true
is_own_sending (FinishedOwn id answer) = true
is_own_sending (ResetOwn id code answer) = true
is_own_sending (SetOwnPriority id priority answer) = true
is_own_sending (LostOwn id offsets fin answer) = true
is_own_sending (TookTurn most fair frame) = true
is_own_sending (Polled answer) = true
is_own_sending _ = false

-- no frame of the peer was handed in, and no credit. What is read, stopped, or asked for its reset, is a stream that a
-- client opens
abbrev pub is_own_doing : Event → Bool
is_own_doing (Began id ordered answer) = is_local Client id
is_own_doing (Gave id most ordered answer) = is_local Client id
is_own_doing (Ended id count) = true
is_own_doing (Stopped id code answer) = is_local Client id
is_own_doing (ToldReset id answer) = is_local Client id
is_own_doing (Resized window answer) = true
is_own_doing (SetConcurrent dir count answer) = true
is_own_doing (Accepted dir answer) = true
is_own_doing (LeftPending kind frame) = true
is_own_doing (Sending e) = is_own_sending e
is_own_doing (SentAgain answer) = true
is_own_doing _ = false

-- such calls, and the peer's limits, which the first call alone may give: those that are remembered
abbrev pub AreOwnDoings : List Event → Type 0
AreOwnDoings [] = Unit {0}
AreOwnDoings (e ∷ h) = ((is_own_doing e ≡ true) ⊎ ((is_some (limits_in e) ≡ true) × (h ≡ []))) × AreOwnDoings h
