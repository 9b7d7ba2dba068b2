-- Traces that go on with the frames of a payload.
use Rattle.std.proofs.Common.{◌≡◌, List, [], ◌∷◌, ◌++◌, refl, sym, subst}
use Rattle.quic_history.specs.History.{Event, From}
use Rattle.quic_endpoint.specs.Receiving.{with_call_made}
use Rattle.quic_session.specs.declared.session.Session.{Session}
use Rattle.quic_session.specs.Sessions.{end_of}
use Rattle.quic_session.specs.Receiving.{FrameCall, GoesOnWithCalls, call_of, with_frames}

calls-behind : (earlier calls : List FrameCall) (h : List Event) → with_frames (earlier ++ calls) h ≡ with_frames calls (with_frames earlier h)
calls-behind [] calls h = refl
calls-behind (c ∷ earlier) calls h = calls-behind earlier calls (with_call_made (call_of c.frame c.answer) h)

-- with no call a trace stays
pub no-calls : (s : Session) → GoesOnWithCalls [] s s
no-calls s = λ m h f. f

-- with some calls behind others
pub more-calls : (earlier calls : List FrameCall) (s t u : Session) → GoesOnWithCalls earlier s t → GoesOnWithCalls calls t u → GoesOnWithCalls (earlier ++ calls) s u
more-calls earlier calls s t u before on = λ m h f.
    let P : List Event → Type 0 = λ l. From m l (end_of u).streams in
    subst P (sym (calls-behind earlier calls h)) (on m (with_frames earlier h) (before m h f))
