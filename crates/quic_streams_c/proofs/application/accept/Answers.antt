use Rattle.std.proofs.Common.{◌≡◌, List, ◌∷◌, refl, sym, ap, subst, ◌∙◌, inl, inr, w32, to_z-of_z}
use Rattle.quic_history.specs.World.{Made}
use Rattle.quic_history.specs.History.{Event, Accepted, From}
use Rattle.quic_history.specs.Permitting.{with_accepted, acceptable}
use Rattle.quic_endpoint.specs.Ends.{EndState, with_world}
use Rattle.quic_session.specs.Sessions.{end_of}
use Rattle.quic_session.specs.Users.{UsersView}
use Rattle.quic_session.specs.Closing.{with_given_stream}
use Rattle.quic_streams_c.proofs.Calls.{number-refused, number-given}
use Rattle.quic_streams_c.proofs.Room.{where-ok, where-err}
use Rattle.quic_streams_c.proofs.application.accept.Goals as goal

pub returns-in_default : goal.returns-in_default
returns-in_default c = number-refused c.dir_of.result _ _ _ c.dir_of.ensures c.in_default.not-Some ((refl, refl), refl)

pub returns-then-is_err : goal.returns-then-is_err
returns-then-is_err c =
    let r = c.reserve_stream.ensures in
    let same = where-err c.reserve_stream.result (sym c.is_err.ensures.value ∙ c.if-is_err.true) r.err in
    number-given c.in-Some.dir _ _ _ c.in-Some.ensures (inl ((refl, (r.end, r.beside), same), refl))

pub returns : goal.returns
returns c =
    let r = c.reserve_stream.ensures in
    let a = c.accept.ensures in
    let after : EndState = end_of c.accept.new.self in
    let dir = c.in-Some.dir in
    let answer = c.accept.result in
    let room = where-ok c.reserve_stream.result (sym c.is_err.ensures.value ∙ c.if-is_err.false) r.ok in
    let P : EndState → Type 0 = λ e. (answer ≡ acceptable e.streams dir) × (after ≡ with_world e (with_accepted e.streams dir))
    × ((m : Made) (h : List Event) → From m h e.streams → From m (Accepted dir answer ∷ h) after.streams) in
    let accepts = subst P r.end (a.id, a.accepted, a.from) in
    number-given dir _ _ _ c.in-Some.ensures (inr (
      answer,
      (accepts.0, accepts.1, accepts.2, a.beside ∙ r.beside),
      simp (to_z-of_z {w = w32} {z = c.tell_accepted.result} (record { sfits = c.tell_accepted.type_inv })) c.tell_accepted.ensures,
      a.users ∙ ap (λ (u : UsersView). with_given_stream answer u) room,
    ))
