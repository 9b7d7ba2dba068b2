-- The numbers of the reasons for which a step is refused.
use Rattle.std.specs.Prelude.{ℕ}
use Rattle.quic_steps.specs.declared.steps.PairError.{PairError}
use Rattle.quic_steps.specs.declared.steps.PairError.TheVariants.{NoSuchPayload, NoSuchFrame, NotAccepted, UnknownId, OutOfMemory, AlreadySettled, LimitsBelow, Undecided, Decided}

abbrev pub number_of : PairError → ℕ
number_of NoSuchPayload = 1
number_of NoSuchFrame = 2
number_of NotAccepted = 3
number_of UnknownId = 4
number_of OutOfMemory = 5
number_of AlreadySettled = 6
number_of LimitsBelow = 7
number_of Undecided = 8
number_of Decided = 9
