-- At the end of a settling all that arrived was read.
use Rattle.std.proofs.Common.{ℕ, ◌++◌, subst, inl, inr}
use Rattle.quic_values.specs.Ids.{dir_of}
use Rattle.quic_wire.specs.declared.frame.Stream.{Stream}
use Rattle.quic_link.specs.Endpoints.{IsOneOf}
use Rattle.quic_exchange.proofs.Origins.{Origin}
use Rattle.quic_steps.specs.declared.steps.End.{End}
use Rattle.quic_steps.specs.declared.steps.End.TheVariants.{A, B}
use Rattle.quic_exchange.specs.declared.phase.Phase.{Phase}
use Rattle.quic_exchange.specs.declared.phase.Phase.TheVariants as phase
use Rattle.quic_exchange.specs.State.{PairState, peer}
use Rattle.quic_exchange.specs.History.{History, past_of}
use Rattle.quic_exchange.specs.Headline.{SomeStream, HasOffset, HasEnd}
use Rattle.quic_exchange.proofs.Eras.{EraFrom}
use Rattle.quic_exchange.specs.Settling.{IsSettling}
use Rattle.quic_exchange.specs.Completed.{HaveArrived, HaveBeenRead, IsUnreset, IsUnstopped, IsReadWhole}
use Rattle.quic_exchange.proofs.Marks.{marks-from}
use Rattle.quic_exchange.proofs.KeptPlaces.{was-from}
use Rattle.quic_exchange.proofs.Streamless.{streamless-place}
use Rattle.quic_exchange.proofs.Settling.{ready-phases}
use Rattle.quic_exchange.proofs.Accepting.{IsMet, WasAcceptedAll, met-so, over-still}
use Rattle.quic_exchange.proofs.AcceptOrder.{HasAsked, any-ask, asks-phases}
use Rattle.quic_exchange.proofs.ReadOrder.{HasRead, any_kind, reads-phases}
use Rattle.quic_exchange.proofs.ReadUp.{places-from, read-up-now, read-whole}

module _ (a b : Origin) (h : History) (v : PairState) (f : EraFrom a b h v) (first : ℕ) (read : HasRead (phase.Drop first) (past_of h) v.sent) (asked : HasAsked a b (phase.Drop first) (past_of h) v.sent) (arrived : HaveArrived (past_of h) v.sent) where
  module _ (who : End) (id : ℕ) (Is : Stream → Type 0) (st : SomeStream v.sent (peer who) id (past_of h).accepted Is) where
    -- what arrived had arrived when there was nothing to accept
    came_before : (w : WasAcceptedAll a b (past_of h) v.sent who (dir_of id)) → IsOneOf st.at (past_of w.h).accepted
    came_before w = elim (w.quiet.accepted.added st.at st.listed) [ inl l ↦ l | inr none ↦ absurd (streamless-place v.sent (peer who) st.at st.stream none st.sent_as) ]

    met_before : WasAcceptedAll a b (past_of h) v.sent who (dir_of id) → IsMet (past_of h) v.sent who id
    met_before w =
        let listed = came_before w in
        let there = (marks-from w.led).marked st.at listed in
        let met = met-so a b w.h w.v w.led who id Is (record { at = st.at; listed = listed; stream = st.stream; sent_as = was-from w.v.sent v.sent (peer who) id w.quiet.stay st.at there.payload there.is st.stream st.sent_as; on = st.on; is = st.is }) (λ own. w.all) in
        record {
          receives = met.receives;
          given = elim met.given [ inl l ↦ inl (w.quiet.ids who id l) | inr over ↦ inr (over-still (past_of w.h) (past_of h) w.v.sent v.sent (peer who) id w.quiet over) ];
        }

    met : IsMet (past_of h) v.sent who id
    met = met_before (asked who (dir_of id) (any-ask who (dir_of id)))

    whole_by : IsUnreset ((past_of h).flow (peer who) id) → IsUnstopped ((past_of h).flow (peer who) id) → IsReadWhole ((past_of h).flow (peer who) id)
    whole_by unreset unstopped = read-whole a b h v f who id unreset unstopped (arrived (peer who) id unreset) (elim met.given [
      | inl l ↦ read.passed who id (any_kind who id met.receives) l
      | inr over ↦ read-up-now (past_of h) v.sent who id (places-from a b h v f) (inr over)
    ])

  read_by : (who : End) (id : ℕ) → IsUnreset ((past_of h).flow (peer who) id) → IsUnstopped ((past_of h).flow (peer who) id) → IsReadWhole ((past_of h).flow (peer who) id)
  read_by who id unreset unstopped =
      let all = arrived (peer who) id unreset in
      record {
        all = λ at l. (whole_by who id (HasOffset at) (all.bytes at l) unreset unstopped).all at l;
        ended = λ e. (whole_by who id HasEnd (all.end e) unreset unstopped).ended e;
      }

  been_read : HaveBeenRead (past_of h)
  been_read A id = read_by B id
  been_read B id = read_by A id

pub have-been-read : (a b : Origin) (h : History) (old : PairState) (taken : History) (new : PairState) → EraFrom a b h old → IsSettling old taken new → HaveArrived (past_of (h ++ taken)) new.sent → HaveBeenRead (past_of (h ++ taken))
have-been-read a b h old taken new f s arrived =
    let g = ready-phases a b h old taken new s.at f s.follows in
    let r = reads-phases a b h old taken new s.at f s.follows in
    let k = asks-phases a b h old taken new s.at f s.follows in
    let P : Phase → Type 0 = λ x. HasRead x (past_of (h ++ taken)) new.sent in
    let Q : Phase → Type 0 = λ x. HasAsked a b x (past_of (h ++ taken)) new.sent in
    been_read a b (h ++ taken) new g.led s.ended.first (subst P s.ended.was r) (subst Q s.ended.was k) arrived
