use Rattle.std.proofs.Common.{◌≡◌, List, ◌∷◌, refl, sym, ap, subst, ◌∙◌, inl, inr, w32, to_z-of_z}
use Rattle.quic_history.specs.World.{Made}
use Rattle.quic_history.specs.History.{Event, Sending, From}
use Rattle.quic_history.specs.SendEvents.{OpenedOwn}
use Rattle.quic_history.specs.Sends.{OpensOwn}
use Rattle.quic_streams.specs.Connection.{is_shut}
use Rattle.quic_streams.specs.declared.streams.ConnState.{ConnState}
use Rattle.quic_endpoint.specs.Ends.{EndState}
use Rattle.quic_session.specs.Sessions.{Beside, end_of}
use Rattle.quic_session.specs.Users.{UsersView}
use Rattle.quic_session.specs.Closing.{with_opened_stream}
use Rattle.quic_streams_c.proofs.Calls.{number-refused, number-given}
use Rattle.quic_streams_c.proofs.Room.{where-ok, where-err}
use Rattle.quic_streams_c.proofs.application.open.Goals as goal

pub returns-in_default : goal.returns-in_default
returns-in_default c = number-refused c.dir_of.result _ _ _ c.dir_of.ensures c.in_default.not-Some ((refl, refl), refl)

pub returns-then-is_err : goal.returns-then-is_err
returns-then-is_err c =
    let r = c.reserve_stream.ensures in
    let same = where-err c.reserve_stream.result (sym c.is_err.ensures.value ∙ c.if-is_err.true) r.err in
    number-given c.in-Some.dir _ _ _ c.in-Some.ensures (inl ((refl, (r.end, r.beside), same), refl))

pub returns : goal.returns
returns c =
    let r = c.reserve_stream.ensures in
    let o = c.open.ensures in
    let s = c.args.session.now in
    let between = c.reserve_stream.new.self in
    let after : EndState = end_of c.open.new.self in
    let dir = c.in-Some.dir in
    let answer = c.open.result in
    let room = where-ok c.reserve_stream.result (sym c.is_err.ensures.value ∙ c.if-is_err.false) r.ok in
    let P : EndState → ConnState → Type 0 = λ e conn. OpensOwn e.streams dir (is_shut conn) answer after.streams × (after.pending ≡ e.pending)
    × ((m : Made) (h : List Event) → From m h e.streams → From m (Sending (OpenedOwn dir (is_shut conn) answer) ∷ h) after.streams) in
    let P_end : EndState → Type 0 = λ e. P e between.conn in
    let P_conn : ConnState → Type 0 = λ conn. P (end_of s) conn in
    let opens = subst P_conn (ap (λ (b : Beside). b.conn) r.beside) (subst P_end r.end (o.opens, o.pending, o.from)) in
    number-given dir _ _ _ c.in-Some.ensures (inr (
      answer,
      (opens.0, opens.1, opens.2, o.beside ∙ r.beside),
      simp (to_z-of_z {w = w32} {z = c.tell_opened.result} (record { sfits = c.tell_opened.type_inv })) c.tell_opened.ensures,
      o.users ∙ ap (λ (u : UsersView). with_opened_stream answer u) room,
    ))
