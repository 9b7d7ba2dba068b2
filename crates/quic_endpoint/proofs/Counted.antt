-- A read has queued what is due of the counts of streams.
use Rattle.std.proofs.Common.{◌≡◌, ℕ, Bool, true, false, ◌||◌, List, refl, sym, ap, ◌∙◌}
use Rattle.quic_assembler.specs.declared.chunk.Chunk.{Chunk}
use Rattle.quic_limits.specs.Remote.{is_max_streams_due}
use Rattle.quic_retransmits.specs.Pending.{Pending}
use Rattle.quic_history.specs.Receiving.{with_max_streams}
use Rattle.quic_history.specs.World.{World}
use Rattle.quic_history.specs.Reading.{ReadsSome}
use Rattle.quic_history.specs.declared.progress.LastAnswer.{LastAnswer}
use Rattle.quic_endpoint.specs.Ends.{EndState, with_counts_told}

or_twice : (a b : Bool) → (a || b) || b ≡ a || b
or_twice true b = refl
or_twice false true = refl
or_twice false false = refl

-- where what is due of the counts of streams is queued, to queue it once more changes nothing
queued_already : (w : World) (p : Pending) (a b : Bool) → p.max_streams_bi ≡ a || is_max_streams_due w.bi → p.max_streams_uni ≡ b || is_max_streams_due w.uni
    → with_max_streams w p ≡ p
queued_already w p a b bi uni =
    let with_bi : Bool → Pending = λ x. record p { max_streams_bi = x; max_streams_uni = p.max_streams_uni || is_max_streams_due w.uni } in
    let with_uni : Bool → Pending = λ x. record p { max_streams_uni = x } in
    ap with_bi (ap (λ x. x || is_max_streams_due w.bi) bi ∙ or_twice a (is_max_streams_due w.bi) ∙ sym bi)
    ∙ ap with_uni (ap (λ x. x || is_max_streams_due w.uni) uni ∙ or_twice b (is_max_streams_due w.uni) ∙ sym uni)

pub told-already : (e after : EndState) (id most times : ℕ) (ordered : Bool) (chunks : List Chunk) (last : LastAnswer) (transmit : Bool)
    → ReadsSome e.streams id most times ordered e.pending chunks last transmit after.streams after.pending → with_counts_told after ≡ after
told-already e after id most times ordered chunks last transmit s =
    let with_pending : Pending → EndState = λ p. record after { pending = p } in
    let bi : Pending → Bool = λ p. p.max_streams_bi in
    let uni : Pending → Bool = λ p. p.max_streams_uni in
    let due_bi : World → Bool = λ w. e.pending.max_streams_bi || is_max_streams_due w.bi in
    let due_uni : World → Bool = λ w. e.pending.max_streams_uni || is_max_streams_due w.uni in
    ap with_pending (queued_already after.streams after.pending e.pending.max_streams_bi e.pending.max_streams_uni
    (ap bi s.pending ∙ ap due_bi (sym s.is)) (ap uni s.pending ∙ ap due_uni (sym s.is)))
