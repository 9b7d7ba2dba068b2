use Rattle.std.proofs.Common.{◌≡◌, ℕ, List, true, is_some, sym, ◌∙◌, subst}
use Rattle.std.specs.Prelude.{All}
use Rattle.quic_outgoing.specs.Outgoing.{own_ids, first_of}
use Rattle.quic_outgoing.specs.Params.{own_woken}
use Rattle.quic_outgoing.specs.Shown.{outgoing_view}
use Rattle.quic_outgoing.proofs.Woken.{woken-held}
use Rattle.quic_outgoing.proofs.outgoing.OutgoingStreams.make_wait.Goals as goal

pub make_all-requires : goal.make_all-requires
unfolding outgoing_view
make_all-requires c =
    let u = outgoing_view c.args.self.now in
    let are : c.as_slice.result.now ≡ own_woken u c.args.params.now = c.as_slice.ensures.value ∙ c.in_ok-woken.ensures.ids in
    let P : List ℕ → Type 0 = λ l. All (λ q. is_some (u.halves q) ≡ true) l in
    subst P (sym are) (woken-held u (first_of c.args.params.now) (own_ids u))
