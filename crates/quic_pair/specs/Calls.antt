-- The steps that one endpoint takes alone, and what each does there.
use Rattle.std.specs.Prelude.{◌≡◌, Option, Some, None}
use Rattle.quic_sending.specs.Source.{slice_lists}
use Rattle.quic_endpoint.specs.Ends.{EndState}
use Rattle.quic_session.specs.declared.session.Session.{Session}
use Rattle.quic_session.specs.Sessions.{end_of, beside_of}
use Rattle.quic_steps.specs.declared.steps.End.{End}
use Rattle.quic_steps.specs.declared.steps.Step.{Step}
use Rattle.quic_steps.specs.declared.steps.Step.TheVariants as steps
use Rattle.quic_exchange.specs.Replies.{Answer}
use Rattle.quic_exchange.specs.Calls.{Opens, Accepts, OnGiven, Writes, WritesChunksOrNone, Finishes, ResetsOn, StopsOn, SetsPriorityOn, AsksReset, ReadsOn, SetsSendWindow, SetsReceiveWindow, SetsMaxConcurrent, Polls}

-- the endpoint that takes a step alone: none for steps on payloads, and for those that decide on early data
abbrev pub caller_of : Step → Option End
caller_of (steps.Open who dir) = Some who
caller_of (steps.Accept who dir) = Some who
caller_of (steps.Write who id bytes) = Some who
caller_of (steps.WriteChunks who id chunks) = Some who
caller_of (steps.Finish who id) = Some who
caller_of (steps.Reset who id code) = Some who
caller_of (steps.Stop who id code) = Some who
caller_of (steps.SetPriority who id priority) = Some who
caller_of (steps.Read who id ordered most times) = Some who
caller_of (steps.ReceivedReset who id) = Some who
caller_of (steps.SetSendWindow who window) = Some who
caller_of (steps.SetReceiveWindow who window) = Some who
caller_of (steps.SetMaxConcurrent who dir count) = Some who
caller_of (steps.Poll who) = Some who
caller_of _ = None

-- what such a step was replied, and what it did to the endpoint
abbrev pub EndDoes : Step → EndState → Answer → EndState → Type 0
EndDoes (steps.Open who dir) e reply f = Opens e dir reply f
EndDoes (steps.Accept who dir) e reply f = Accepts e dir reply f
EndDoes (steps.Write who id bytes) e reply f = OnGiven e id reply f (Writes e id (slice_lists bytes) reply f)
EndDoes (steps.WriteChunks who id chunks) e reply f = OnGiven e id reply f (WritesChunksOrNone e id chunks reply f)
EndDoes (steps.Finish who id) e reply f = OnGiven e id reply f (Finishes e id reply f)
EndDoes (steps.Reset who id code) e reply f = OnGiven e id reply f (ResetsOn e id code reply f)
EndDoes (steps.Stop who id code) e reply f = OnGiven e id reply f (StopsOn e id code reply f)
EndDoes (steps.SetPriority who id priority) e reply f = OnGiven e id reply f (SetsPriorityOn e id priority reply f)
EndDoes (steps.Read who id ordered most times) e reply f = OnGiven e id reply f (ReadsOn e id ordered most times reply f)
EndDoes (steps.ReceivedReset who id) e reply f = OnGiven e id reply f (AsksReset e id reply f)
EndDoes (steps.SetSendWindow who window) e reply f = SetsSendWindow e window reply f
EndDoes (steps.SetReceiveWindow who window) e reply f = SetsReceiveWindow e window reply f
EndDoes (steps.SetMaxConcurrent who dir count) e reply f = SetsMaxConcurrent e dir count reply f
EndDoes (steps.Poll who) e reply f = Polls e reply f
EndDoes _ e reply f = ⊥

-- a session takes such a step, and nothing changes beside its endpoint
abbrev pub DoesStep : Step → Answer → Session → Session → Type 0
DoesStep step reply s t = EndDoes step (end_of s) reply (end_of t) × (beside_of t ≡ beside_of s)
