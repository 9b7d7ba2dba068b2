-- What a report of a payload leaves.
use Rattle.std.proofs.Common.{◌≡◌, ℕ, zero, suc, List, [], ◌∷◌, length, Bool, Option, Some, None, Result, Ok, Err, true, refl, sym, ap, ◌∙◌, subst}
use Rattle.std.specs.Prelude.{◌&&◌, is_some, slice_get, slice_set}
use Rattle.std.proofs.lemmas.Option.{none-some, same_Some}
use Rattle.quic_streams.specs.declared.settling.SentPayload.{SentPayload}
use Rattle.quic_streams.specs.Sent.{sent_view, report_view}
use Rattle.quic_session.specs.declared.session.Session.{Session}
use Rattle.quic_session.specs.declared.settling.SettleError.TheVariants.{UnknownToken, OutOfMemory}
use Rattle.quic_session.specs.Sessions.{end_of}
use Rattle.quic_session.specs.Settling.{SettlesOnly}
use Rattle.quic_session.specs.Tokens.{unsettled}
use Rattle.quic_steps.specs.declared.steps.End.{End}
use Rattle.quic_steps.specs.declared.steps.End.TheVariants.{A, B}
use Rattle.quic_exchange.specs.declared.early.EarlyLimits.{EarlyLimits}
use Rattle.quic_exchange.specs.declared.sent.Note.{Note}
use Rattle.quic_exchange.specs.declared.unsettled.Report.{Report}
use Rattle.quic_exchange.specs.declared.unsettled.Report.TheVariants.{Lost, Acknowledged}
use Rattle.quic_exchange.specs.Sent.{Sent}
use Rattle.quic_exchange.specs.Notes.{Kept, kept_by, under, row, rows, CanReport}
use Rattle.quic_exchange.specs.Unsettled.{goes_on}
use Rattle.quic_exchange.specs.State.{PairState, the_end, with_end, with_sent}
use Rattle.quic_exchange.proofs.Rows.{one-row}
use Rattle.quic_pair.specs.Ends.{kept_of, view_of, session_of, OnSession, HaveOwnTokens}
use Rattle.quic_pair.specs.Reporting.{report_of, ReportsToken}
use Rattle.quic_pair.proofs.Sessions.{Puts, kept-away, kept-there, under-same, on-map}

-- what is left under the token
abbrev pub left_of : Result (Unit {0}) SentPayload → Option SentPayload
left_of (Ok done) = None
left_of (Err back) = Some back

-- the payload of a token was reported to its session, and what came back is kept under the token
pub record Reported (kind : Report) (token : ℕ) (answer : Result (Unit {0}) SentPayload) (s t : Session) : Type 0 where
  pub rest : SentPayload
  pub stood : unsettled s.unsettled token ≡ Some rest
  pub does : report_of kind (end_of s) (sent_view rest) (report_view answer) (end_of t)
  pub puts : Puts token (left_of answer) s t
  pub only : SettlesOnly s t

pub reported-all : (kind : Report) (token : ℕ) (s t : Session) → ReportsToken kind s token (Ok tt) t → Reported kind token (Ok tt) s t
reported-all Lost token s t r = record { rest = r.0.sent; stood = r.0.stood; does = r.0.loses; puts = r.0.settled; only = r.1 }
reported-all Acknowledged token s t r = record { rest = r.0.sent; stood = r.0.stood; does = record { acked = r.0.acked; acks = r.0.acks; pending = r.0.pending; is = r.0.is }; puts = r.0.settled; only = r.1 }

-- what came back, where memory ran out
abbrev pub back-of : (kind : Report) (token : ℕ) (s t : Session) → ReportsToken kind s token (Err OutOfMemory) t → SentPayload
back-of Lost token s t r = r.0.rest
back-of Acknowledged token s t r = r.0.rest

pub reported-some : (kind : Report) (token : ℕ) (s t : Session) (r : ReportsToken kind s token (Err OutOfMemory) t) → Reported kind token (Err (back-of kind token s t r)) s t
reported-some Lost token s t r = record { rest = r.0.sent; stood = r.0.stood; does = r.0.loses; puts = r.0.kept; only = r.1 }
reported-some Acknowledged token s t r = record { rest = r.0.sent; stood = r.0.stood; does = record { acked = end_of t; acks = r.0.acks; pending = r.0.pending; is = refl }; puts = r.0.kept; only = r.1 }

pub unknown-none : (kind : Report) (token : ℕ) (s t : Session) → ReportsToken kind s token (Err UnknownToken) t → unsettled s.unsettled token ≡ None
unknown-none Lost token s t r = r.0.0
unknown-none Acknowledged token s t r = r.0.0

-- ---- the same of one of two sessions

-- the memory that came back, of the session that was reported to
abbrev pub back-on : (kind : Report) (token : ℕ) (writer : End) (a b c d : Session) → OnSession (λ s t. ReportsToken kind s token (Err OutOfMemory) t) writer a b c d → SentPayload
back-on kind token A a b c d o = back-of kind token a c o.0
back-on kind token B a b c d o = back-of kind token b d o.0

pub some-on : (kind : Report) (token : ℕ) (writer : End) (a b c d : Session) (o : OnSession (λ s t. ReportsToken kind s token (Err OutOfMemory) t) writer a b c d) → OnSession (Reported kind token (Err (back-on kind token writer a b c d o))) writer a b c d
some-on kind token A a b c d o = (reported-some kind token a c o.0, o.1)
some-on kind token B a b c d o = (reported-some kind token b d o.0, o.1)

pub unknown-on : (kind : Report) (token : ℕ) (writer : End) (a b c d : Session) → OnSession (λ s t. ReportsToken kind s token (Err UnknownToken) t) writer a b c d → kept_of a b writer token ≡ None
unknown-on kind token A a b c d o = unknown-none kind token a c o.0
unknown-on kind token B a b c d o = unknown-none kind token b d o.0

pub all-on : (kind : Report) (token : ℕ) (writer : End) (a b c d : Session) → OnSession (λ s t. ReportsToken kind s token (Ok tt) t) writer a b c d → OnSession (Reported kind token (Ok tt)) writer a b c d
all-on kind token writer a b c d o = on-map (λ s t. ReportsToken kind s token (Ok tt) t) (Reported kind token (Ok tt)) writer a b c d (λ s t r. reported-all kind token s t r) o

-- what is unreported before, and what the report does to the endpoint of the writer
pub rest-on : (kind : Report) (token : ℕ) (answer : Result (Unit {0}) SentPayload) (writer : End) (a b c d : Session) → OnSession (Reported kind token answer) writer a b c d
    → (rest : SentPayload) × (kept_of a b writer token ≡ Some rest) × report_of kind (end_of (session_of a b writer)) (sent_view rest) (report_view answer) (end_of (session_of c d writer))
rest-on kind token answer A a b c d o = (o.0.rest, o.0.stood, o.0.does)
rest-on kind token answer B a b c d o = (o.0.rest, o.0.stood, o.0.does)

slice_set-itself : (notes : List Note) (n : ℕ) (note : Note) → slice_get notes n ≡ Some note → slice_set notes n note ≡ notes
slice_set-itself [] n note is = refl
slice_set-itself (m ∷ ms) zero note is = ap (λ x. x ∷ ms) (sym (same_Some m note is))
slice_set-itself (m ∷ ms) (suc n) note is = ap (λ l. m ∷ l) (slice_set-itself ms n note is)

pub same-notes : (notes : List Note) (n : ℕ) (note : Note) → slice_get notes n ≡ Some note → notes ≡ slice_set notes n note
same-notes notes n note is = sym (slice_set-itself notes n note is)

module _ (kind : Report) (token : ℕ) (answer : Result (Unit {0}) SentPayload) (writer : End) (a b c d : Session) (o : OnSession (Reported kind token answer) writer a b c d) where
  puts : OnSession (Puts token (left_of answer)) writer a b c d
  puts = on-map (Reported kind token answer) (Puts token (left_of answer)) writer a b c d (λ s t r. r.puts) o

  -- the payloads, of which the one of the token is noted anew
  pub rows-reported : (notes : List Note) (n : ℕ) (note new : Note) → HaveOwnTokens notes → slice_get notes n ≡ Some note → note.writer ≡ writer → note.token ≡ Some token → rows (kept_of c d) (slice_set notes n new) ≡ slice_set (rows (kept_of a b) notes) n (row (kept_of c d) new)
  rows-reported notes n note new apart is w tok =
      one-row (kept_of a b) (kept_of c d) notes n new
      (λ j m here away. under-same (kept_of a b m.writer) (kept_of c d m.writer) m.token
      (λ t has. kept-away writer m.writer a b c d token t (left_of answer) puts
      (λ is_w e. away (apart j n m note t here is (is_w ∙ sym w) has (tok ∙ ap Some e)))))

  -- what is left of it
  pub left-there : (new : Note) → new.writer ≡ writer → new.token ≡ Some token → under (kept_of c d new.writer) new.token ≡ left_of answer
  left-there new w tok =
      ap (λ (x : End). under (kept_of c d x) new.token) w ∙ ap (under (kept_of c d writer)) tok ∙ kept-there writer a b c d token (left_of answer) puts

  -- the view behind, by its sessions
  pub view-reported : (w : End) (notes behind : List Note) (sent : List Sent) (waits : Option EarlyLimits) → w ≡ writer → rows (kept_of c d) behind ≡ sent → view_of c d behind waits ≡ with_sent (with_end (view_of a b notes waits) w (end_of (session_of c d writer))) sent
  view-reported w notes behind sent waits e is =
      let P : End → Type 0 = λ x. view_of c d behind waits ≡ with_sent (with_end (view_of a b notes waits) x (end_of (session_of c d writer))) sent in
      subst P (sym e) (by writer o)
    where
      by : (x : End) → OnSession (Reported kind token answer) x a b c d → view_of c d behind waits ≡ with_sent (with_end (view_of a b notes waits) x (end_of (session_of c d x))) sent
      by A r = ap (λ l. record { a = end_of c; b = end_of d; sent = l; waits = waits }) is ∙ ap (λ (x : Session). record { a = end_of c; b = end_of x; sent = sent; waits = waits }) r.1
      by B r = ap (λ l. record { a = end_of c; b = end_of d; sent = l; waits = waits }) is ∙ ap (λ (x : Session). record { a = end_of x; b = end_of d; sent = sent; waits = waits }) r.1

-- ---- before the report

pub end-of-session : (a b : Session) (notes : List Note) (waits : Option EarlyLimits) (w writer : End) → w ≡ writer → the_end (view_of a b notes waits) w ≡ end_of (session_of a b writer)
end-of-session a b notes waits w writer e = ap (the_end (view_of a b notes waits)) e ∙ here writer
  where
    here : (x : End) → the_end (view_of a b notes waits) x ≡ end_of (session_of a b x)
    here A = refl
    here B = refl

some-of : {X : Type 0} (o : Option X) (t : Bool) → (is_some o && t) ≡ true → (x : X) × (o ≡ Some x)
some-of None t e = cc
some-of (Some x) t e = (x, refl)

-- something is unreported of a payload that takes a report
pub may-rest : (a b : Session) (note : Note) (writer : End) (token : ℕ) → note.writer ≡ writer → note.token ≡ Some token → (kind : Report) → CanReport kind note (is_some (under (kept_of a b note.writer) note.token)) → (rest : SentPayload) × (kept_of a b writer token ≡ Some rest)
may-rest a b note writer token w tok kind can =
    let found = some-of (under (kept_of a b note.writer) note.token) (goes_on kind note.begun) can.may in
    (found.0, sym (ap (λ (x : End). under (kept_of a b x) note.token) w ∙ ap (under (kept_of a b writer)) tok) ∙ found.1)
