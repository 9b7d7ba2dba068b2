use Rattle.std.proofs.Common.{rules, ◌≡◌, ◌<◌, ◌∷◌, [], ◌++◌, take, length, sym, ap, ◌∙◌, arith, ◌+◌}
use Rattle.std.proofs.lemmas.List.{take_more}
use Rattle.quic_outgoing.specs.Outgoing.{Outgoing}
use Rattle.quic_outgoing.specs.Params.{as_waiting, with_waiting}
use Rattle.quic_outgoing.specs.Shown.{outgoing_view}
use Rattle.quic_outgoing.proofs.Woken.{waiting-more}
use Rattle.quic_outgoing.proofs.outgoing.OutgoingStreams.mark_all.Goals as goal

pub loop-index-preserved : goal.loop-index-preserved
loop-index-preserved c =
    let i = c.loop-index.invariant in
    let e = c.mark.ensures in
    let u = outgoing_view c.args.self.now in
    let ids = c.args.ids.now in
    let n = c.loop-index.index in
    let x = c.index-ids-index.result in
    let within : n < length ids = search rules in
    let next : take (n + 1) ids ≡ take n ids ++ x ∷ [] = take_more ids n x within ∙ ap (λ y. take n ids ++ y ∷ []) (sym c.index-ids-index.is) in
    let more : with_waiting u (take (n + 1) ids) ≡ as_waiting (with_waiting u (take n ids)) x ((with_waiting u (take n ids)).halves x) = ap (λ l. with_waiting u l) next ∙ waiting-more u (take n ids) x in
    record {
      waits = e.waits ∙ ap (λ (v : Outgoing). as_waiting v x (v.halves x)) i.waits ∙ sym more;
      made = λ k d h. e.kept _ (i.made k d h);
      room = let room = i.room in let len = e.len in let capacity = e.capacity in omega (arith, room, len, capacity);
    }
