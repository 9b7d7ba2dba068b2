-- What a session answers to its lines.
use Rattle.std.specs.Prelude.{true, false, ◌≡◌, ◌⊎◌, ◌+◌, ◌-◌, ◌^◌, ◌<◌, ℕ, List, [], ◌++◌, length, Option, Result, Ok, Err, OnOk, IfErr, IfSome, Some, None, codes, string_bytes}
use Rattle.std.specs.Fmt.{decimal}
use Rattle.std.specs.List.{flat_map}
use Rattle.std.specs.Str.{IsAscii}
use Rattle.std.specs.Io.BufRead.{first_piece, drop_through}
use Rattle.std.specs.Io.KnownBytes.{Appends}
use Rattle.quic_steps.specs.declared.steps.Config.{Config}
use Rattle.quic_steps.specs.declared.steps.Step.{Step}
use Rattle.quic_steps.specs.declared.steps.PairError.{PairError}
use Rattle.quic_steps.specs.declared.steps.PairError.TheVariants.{OutOfMemory as NoMemory, Undecided}
use Rattle.quic_outgoing.specs.declared.limits.PeerLimits.{PeerLimits}
use Rattle.quic_exchange.specs.Replies.{Answer}
use Rattle.quic_exchange.specs.State.{PairState}
use Rattle.quic_pair.specs.Shown.{pair_view}
use Rattle.quic_exchange.specs.Steps.{Next}
use Rattle.quic_exchange.specs.From.{Beginning, at_once, PairFrom}
use Rattle.quic_exchange.specs.History.{History}
use Rattle.quic_exchange.specs.Runs.{TakesSteps}
use Rattle.quic_exchange.specs.Settling.{IsSettling, IsCutOff, IsUndecided}
use Rattle.quic_exchange.specs.Promises.{Completes}
use Rattle.quic_session.specs.declared.receiving.Received.{Received}
use Rattle.quic_session.specs.declared.receiving.PayloadError.{PayloadError}
use Rattle.quic_session.specs.declared.receiving.PayloadError.TheVariants as payload_error
use Rattle.quic_wire.specs.Codes.{FRAME_ENCODING_ERROR}
use Rattle.quic_wire.specs.declared.error.ReceiveError.{ReceiveError}
use Rattle.quic_wire.specs.declared.error.ReceiveError.TheVariants as faults
use Rattle.quic_pair.specs.Whole.{HandsIn, RefusesPayload}
use Rattle.streampair.specs.declared.session.Session.{Session}
use Rattle.streampair.specs.declared.session.Session.TheVariants.{Start, Configured, Joined}
use Rattle.streampair.specs.declared.session.Text.{Text}
use Rattle.streampair.specs.declared.session.Text.TheVariants as texts
use Rattle.streampair.specs.declared.session.Stop.{Stop}
use Rattle.streampair.specs.declared.session.Stop.TheVariants.{Malformed, NoPair, Failed, OutOfMemory, TooManyLines}
use Rattle.quic_lines.specs.declared.lines.LineError.{LineError}
use Rattle.quic_lines.specs.declared.lines.LineError.TheVariants as lines
use Rattle.quic_steps.specs.declared.steps.End.TheVariants.{A, B}
use Rattle.quic_lines.specs.Grammar.{step_text, MeansStep, MeansConfig, MeansSettle, MeansWhole, MeansEarly, MeansNoStep, MeansNoWhole, MeansNoConfig, MeansNoEarly}
use Rattle.quic_lines.specs.Line.{reply_text, refusal_text, whole_text}

abbrev pub ok_line : List ℕ
ok_line = codes "ok\n"

abbrev pub text_bytes : Text → List ℕ
text_bytes texts.Ok = ok_line
text_bytes (texts.Lines lines) = string_bytes lines

-- how a session ends for a line that is no step
abbrev pub stop_of : LineError → ℕ → Stop
stop_of lines.Malformed number = Malformed number
stop_of lines.OutOfMemory number = OutOfMemory

-- the line that answers a step
abbrev pub answer_line : Answer → List ℕ
answer_line (Ok reply) = reply_text reply ++ codes "\n"
answer_line (Err error) = refusal_text error ++ codes "\n"

-- the pair took a step, and this text is the reply to it
pub record IsStep (old : PairState) (step : Step) (text : List ℕ) (new : PairState) : Type 0 where
  pub reply : Answer
  pub next : Next old step reply new
  pub text_is : text ≡ answer_line reply

-- that which the line means
pub record TakesStep (line : List ℕ) (old : PairState) (text : List ℕ) (new : PairState) : Type 0 where
  pub step : Step
  pub means : MeansStep line step
  pub taken : IsStep old step text new

-- a session stands behind both configs, and its pair is made of them
abbrev pub IsMadeOf : Config → Config → Session → Type 0
IsMadeOf a b (Joined x y pair true) = (x ≡ a) × (y ≡ b) × PairFrom (at_once a b) [] (pair_view pair)
IsMadeOf a b _ = ⊥

-- the second line has the config b
pub record IsReady (a : Config) (line text : List ℕ) (session : Session) : Type 0 where
  pub b : Config
  pub means : MeansConfig line B b
  pub made : IsMadeOf a b session
  pub text_is : text ≡ ok_line

-- it is made of them and of the limits that the client remembers
pub record StartsEarly (a b : Config) (line text : List ℕ) (pair : PairState) : Type 0 where
  pub remembered : PeerLimits
  pub means : MeansEarly line remembered
  pub from : PairFrom (record { a = a; b = b; early = Some remembered }) [] pair
  pub text_is : text ≡ ok_line

-- the line of a step that was taken, and the one that answers it
abbrev pub lines_of : Step × Answer → List ℕ
lines_of taken = step_text taken.0 ++ codes "\n" ++ answer_line taken.1

-- all of them, and the line of the error that stands beside them, if one does
abbrev pub settlement_text : History → Result (Unit {0}) PairError → List ℕ
settlement_text taken (Ok done) = flat_map lines_of taken
settlement_text taken (Err error) = flat_map lines_of taken ++ answer_line (Err error)

-- the pair took the steps of a settling, and this text spells them with their replies
pub record IsSettlement (old : PairState) (text : List ℕ) (new : PairState) : Type 0 where
  pub taken : History
  pub answer : Result (Unit {0}) PairError
  pub next : TakesSteps old taken new
  pub order : OnOk answer (IsSettling old taken new)
  pub cut_off : answer ≡ Err NoMemory → IsCutOff old taken new
  pub undecided : answer ≡ Err Undecided → IsUndecided old taken new
  pub only : IfErr answer (λ error. (error ≡ NoMemory) ⊎ (error ≡ Undecided))
  pub completes : OnOk answer ((s : Beginning) (h : History) → PairFrom s h old → Completes s (h ++ taken) new)
  pub text_is : text ≡ settlement_text taken answer

-- the line asked for that
pub record TakesSettling (line : List ℕ) (old : PairState) (text : List ℕ) (new : PairState) : Type 0 where
  pub means : MeansSettle line
  pub settled : IsSettlement old text new

-- why no more frames of a payload were accepted, as the fault of the next one. Bytes that are no frames would be one too (RFC 9000
-- section 12.4)
abbrev pub IsFault : Result (Unit {0}) PayloadError → Option ReceiveError → Type 0
IsFault (Ok done) fault = fault ≡ None
IsFault (Err payload_error.Malformed) (Some (faults.Transport error)) = error.code ≡ FRAME_ENCODING_ERROR
IsFault (Err payload_error.Malformed) _ = ⊥
IsFault (Err (payload_error.Transport error)) fault = fault ≡ Some (faults.Transport error)
IsFault (Err payload_error.OutOfMemory) fault = fault ≡ Some faults.OutOfMemory

-- the line that says what came of a payload
pub record SaysReceived (received : Received) (text : List ℕ) : Type 0 where
  pub fault : Option ReceiveError
  pub why : IsFault received.answer fault
  pub text_is : text ≡ whole_text received.next fault ++ codes "\n"

-- the pair was handed a payload whole, and this text is the reply to that
pub record IsHandedIn (old : PairState) (payload : ℕ) (text : List ℕ) (new : PairState) : Type 0 where
  pub received : Received
  pub hands_in : HandsIn old payload received new
  pub says : SaysReceived received text

-- it was not, and nothing changed
pub record IsNotHandedIn (old : PairState) (payload : ℕ) (text : List ℕ) (new : PairState) : Type 0 where
  pub error : PairError
  pub refused : RefusesPayload old payload error
  pub same : new ≡ old
  pub text_is : text ≡ answer_line (Err error)

abbrev pub IsWhole : PairState → ℕ → List ℕ → PairState → Type 0
IsWhole old payload text new = IsHandedIn old payload text new ⊎ IsNotHandedIn old payload text new

-- the line asked for that
pub record TakesWhole (line : List ℕ) (old : PairState) (text : List ℕ) (new : PairState) : Type 0 where
  pub payload : ℕ
  pub means : MeansWhole line payload
  pub taken : IsWhole old payload text new

-- a pair answers a line behind the configs
abbrev pub AnswersRunning : PairState → List ℕ → List ℕ → PairState → Type 0
AnswersRunning old line text new = TakesStep line old text new ⊎ TakesSettling line old text new ⊎ TakesWhole line old text new

-- the third line is that of such limits, or one like those behind it
abbrev pub AnswersReady : Config → Config → PairState → List ℕ → List ℕ → PairState → Type 0
AnswersReady a b old line text new = StartsEarly a b line text new ⊎ AnswersRunning old line text new

-- a session answers a line by this text, and goes on so
abbrev pub Answers : Session → List ℕ → List ℕ → Session → Type 0
Answers Start line text (Configured config) = MeansConfig line A config × (text ≡ ok_line)
Answers (Configured config) line text session = IsReady config line text session
Answers (Joined a b old true) line text (Joined c d new false) = AnswersReady a b (pair_view old) line text (pair_view new)
Answers (Joined a b old false) line text (Joined c d new false) = AnswersRunning (pair_view old) line text (pair_view new)
Answers _ line text _ = ⊥

-- a line behind the configs is no step, asks for no settling, and hands in no payload
abbrev pub MeansNoLine : List ℕ → Type 0
MeansNoLine line = MeansNoStep line × (MeansSettle line → ⊥) × MeansNoWhole line

-- a line spells nothing that may stand there
abbrev pub MeansNothing : Session → List ℕ → Type 0
MeansNothing Start line = MeansNoConfig line A
MeansNothing (Configured config) line = MeansNoConfig line B
MeansNothing (Joined a b pair true) line = MeansNoLine line × MeansNoEarly line
MeansNothing (Joined a b pair false) line = MeansNoLine line

-- a line has the client remember some limits
abbrev pub IsEarlyLine : List ℕ → Type 0
IsEarlyLine line = (remembered : PeerLimits) × MeansEarly line remembered

-- a line for which a pair is made
abbrev pub IsPairDue : Session → List ℕ → Type 0
IsPairDue Start line = ⊥
IsPairDue (Configured a) line = (b : Config) × MeansConfig line B b
IsPairDue (Joined a b pair true) line = IsEarlyLine line
IsPairDue (Joined a b pair false) line = ⊥

-- why a line has no reply: it is this one and spells nothing, a pair was due for it, or memory ran out
abbrev pub IsStopOf : ℕ → Type 0 → Type 0 → Stop → Type 0
IsStopOf number nothing due (Malformed told) = (told ≡ number) × nothing
IsStopOf number nothing due NoPair = due
IsStopOf number nothing due OutOfMemory = Unit {0}
IsStopOf number nothing due Failed = ⊥
IsStopOf number nothing due TooManyLines = ⊥

-- so many lines of the input were answered by this text; so the session stands, and the rest is left
pub data Serves (input : List ℕ) : ℕ → List ℕ → Session → List ℕ → Type 0 where
  begin : Serves input 0 [] Start input
  line : {lines : ℕ} {text rest : List ℕ} {old : Session} (more : List ℕ) (new : Session) → Serves input lines text old rest → 0 < length rest →
      IsAscii (first_piece 10 rest) → Answers old (first_piece 10 rest) more new → Serves input (lines + 1) (text ++ more) new (drop_through 10 rest)

-- all lines have their replies, and nothing else was written, where the output is known
pub record IsServed (input : List ℕ) (old new : Option (List ℕ)) : Type 0 where
  pub lines : ℕ
  pub text : List ℕ
  pub session : Session
  pub serves : Serves input lines text session []
  pub writes : Appends old new text

abbrev pub malformed_line : ℕ → List ℕ
malformed_line number = codes "malformed " ++ decimal number ++ codes "\n"

-- the last line of a session that stops
abbrev pub last_line : Stop → List ℕ
last_line (Malformed number) = malformed_line number
last_line NoPair = codes "refused 5 OutOfMemory\n"
last_line Failed = []
last_line OutOfMemory = []
last_line TooManyLines = []

-- a session that comes to the end of its input has none
abbrev pub end_line : Result (Unit {0}) Stop → List ℕ
end_line (Ok done) = []
end_line (Err stop) = last_line stop

-- before it is written
abbrev pub no_line : Stop → List ℕ
no_line stop = []

-- why a session stops that answered so many lines, of whose input this is left
abbrev pub IsCause : ℕ → Session → List ℕ → Stop → Type 0
IsCause lines session rest (Malformed number) = (number ≡ lines + 1) × (0 < length rest) × MeansNothing session (first_piece 10 rest)
IsCause lines session rest NoPair = (0 < length rest) × IsPairDue session (first_piece 10 rest)
IsCause lines session rest Failed = Unit {0}
IsCause lines session rest OutOfMemory = Unit {0}
IsCause lines session rest TooManyLines = lines ≡ 2 ^ 64 - 2

-- the reply to the next line begins so
pub record BeginsReply (session : Session) (rest part : List ℕ) : Type 0 where
  pub some : 0 < length rest
  pub ascii : IsAscii (first_piece 10 rest)
  pub text : List ℕ
  pub next : Session
  pub answers : Answers session (first_piece 10 rest) text next
  pub left : List ℕ
  pub whole : text ≡ part ++ left

-- a last line that has a cause begins so
pub record BeginsLast (lines : ℕ) (session : Session) (rest : List ℕ) (last : Stop → List ℕ) (part : List ℕ) : Type 0 where
  pub stop : Stop
  pub cause : IsCause lines session rest stop
  pub left : List ℕ
  pub whole : last stop ≡ part ++ left

-- what is written behind the replies: the last line; if a stream failed, nothing, or a beginning of it or of the next reply
abbrev pub IsWrittenBehind : ℕ → Session → List ℕ → (Stop → List ℕ) → List ℕ → Stop → Type 0
IsWrittenBehind lines session rest last part Failed = (part ≡ []) ⊎ BeginsReply session rest part ⊎ BeginsLast lines session rest last part
IsWrittenBehind lines session rest last part (Malformed number) = part ≡ last (Malformed number)
IsWrittenBehind lines session rest last part NoPair = part ≡ last NoPair
IsWrittenBehind lines session rest last part OutOfMemory = part ≡ last OutOfMemory
IsWrittenBehind lines session rest last part TooManyLines = part ≡ last TooManyLines

-- a session stopped: so many lines have their replies, and this was written behind them
pub record StopsAt (input : List ℕ) (last : Stop → List ℕ) (old new : Option (List ℕ)) (stop : Stop) : Type 0 where
  pub lines : ℕ
  pub text : List ℕ
  pub session : Session
  pub rest : List ℕ
  pub serves : Serves input lines text session rest
  pub cause : IsCause lines session rest stop
  pub part : List ℕ
  pub behind : IsWrittenBehind lines session rest last part stop
  pub writes : Appends old new (text ++ part)

-- a line was malformed, and its number was written behind the replies
abbrev pub IsMalformed : List ℕ → Option (List ℕ) → Option (List ℕ) → Type 0
IsMalformed input old new = (number : ℕ) × StopsAt input last_line old new (Malformed number)

-- the exit status
abbrev pub status : Result (Unit {0}) Stop → ℕ
status (Ok done) = 0
status (Err (Malformed number)) = 2
status (Err NoPair) = 1
status (Err Failed) = 1
status (Err OutOfMemory) = 1
status (Err TooManyLines) = 1

-- a session ended with this exit status: it is that of a result, of which the facts stand here. Status 0: the input ended, each
-- line has its reply and nothing else was written, and the output was flushed. 2: a line was malformed, and the output was flushed.
-- 1: a read, a write or a flush failed, memory for a pair, or for a line or its reply, was refused, or there are too many lines
pub record ExitsWith (input old new : Option (List ℕ)) (is_flushed has_failed has_no_pair has_no_memory : Type 0) (code : ℕ) : Type 0 where
  pub ended : Result (Unit {0}) Stop
  pub code_is : code ≡ status ended
  pub served : OnOk ended (IfSome input (λ all. IsServed all old new))
  pub stops : IfErr ended (λ stop. IfSome input (λ all. StopsAt all last_line old new stop))
  pub flushed : (ended ≡ Err Failed → ⊥) → is_flushed
  pub failed : ended ≡ Err Failed → has_failed
  pub no_pair : ended ≡ Err NoPair → has_no_pair
  pub no_memory : ended ≡ Err OutOfMemory → has_no_memory
