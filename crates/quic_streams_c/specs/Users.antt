-- The host's word of a stream.
use Rattle.std.specs.Prelude.{ℕ, ℤ, true, false, negsuc, ◌≡◌, Result, Ok, Err, OnOk, OnErr}
use Rattle.quic_sending.specs.declared.send.ClosedStream.{ClosedStream}
use Rattle.quic_sending.specs.declared.errors.HandleError.{HandleError}
use Rattle.quic_sending.specs.declared.errors.HandleError.TheVariants as handle_error
use Rattle.quic_session.specs.declared.session.Session.{Session}
use Rattle.quic_session.specs.Users.{users_view, is_known, word_of, with_word}
use Rattle.quic_streams_c.specs.Answers.{TellsDone, TellsNumber, handle_code, closed_code}
use Rattle.quic_streams_c.specs.Calls.{Refuses, WithNumber}
use Rattle.quic_streams_c.specs.Numbers.{small}
use Rattle.quic_streams_c.specs.Sessions.{Unchanged}

-- the word of a stream is set: of one that the host was given and of which it was not told that it is over. On error none changes
pub record SessionSetsUser (s : Session) (id user : ℕ) (answer : Result (Unit {0}) HandleError) (t : Session) : Type 0 where
  pub set : OnOk answer (users_view t.users ≡ with_word id user (users_view s.users))
  pub known : OnOk answer (is_known (users_view s.users) id ≡ true)
  pub unknown : answer ≡ Err handle_error.ClosedStream → is_known (users_view s.users) id ≡ false
  pub err : OnErr answer (users_view t.users ≡ users_view s.users)
  pub others : Unchanged s t

-- qs_stream_set_user
abbrev pub SetsUserRaw : Session → ℕ → ℕ → ℤ → Session → Type 0
SetsUserRaw s id user code t = WithNumber (small id) (Refuses s code t) (λ i.
    (answer : Result (Unit {0}) HandleError) × SessionSetsUser s i user answer t × TellsDone handle_code answer code)

-- the word of such a stream is told
pub record SessionTellsUser (s : Session) (id : ℕ) (answer : Result ℕ ClosedStream) : Type 0 where
  pub word : OnOk answer (answer ≡ Ok (word_of (users_view s.users) id))
  pub known : OnOk answer (is_known (users_view s.users) id ≡ true)
  pub unknown : OnErr answer (is_known (users_view s.users) id ≡ false)

-- qs_stream_user
abbrev pub TellsUserRaw : Session → ℕ → ℤ → ℕ → ℕ → Type 0
TellsUserRaw s id code was now = WithNumber (small id) ((code ≡ negsuc 2) × (now ≡ was)) (λ i.
    (answer : Result ℕ ClosedStream) × SessionTellsUser s i answer × TellsNumber closed_code answer code was now)
