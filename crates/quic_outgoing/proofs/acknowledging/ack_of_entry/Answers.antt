use Rattle.std.proofs.Common.{rules, ◌≡◌, refl, inl, inr}
use Rattle.std.proofs.lemmas.Result.{err_from_is_err_and}
use Rattle.quic_outgoing.specs.Senders.{bare, raised}
use Rattle.quic_outgoing.specs.Seen.{sender_in}
use Rattle.quic_outgoing.proofs.Frames.{if_ok, where_err}
use Rattle.quic_outgoing.proofs.AckSteps.{acks-raised}
use Rattle.quic_outgoing.proofs.acknowledging.ack_of_entry.Goals as goal

pub returns-clause-ok : goal.returns-clause-ok
returns-clause-ok c =
    let was : sender_in c.args.limit c.args.entry.now ≡ raised c.args.limit (bare c.deref_mut.result.now) = search rules in
    rw was (if_ok _ _ c.ack_on-acked.result (λ acked h. acks-raised c.args.limit c.args.offsets c.args.fin _ _ acked h) c.ack_on-acked.ensures.ok)

pub returns-in_err-half-clause-memory : goal.returns-in_err-half-clause-memory
returns-in_err-half-clause-memory c =
    let p = err_from_is_err_and c.from_residual.result c.from_residual.ensures.1 in
    rw (p.1, c.in_err-half.ensures.made) (inr (refl, refl))

pub returns-clause-memory : goal.returns-clause-memory
returns-clause-memory c =
    let was : sender_in c.args.limit c.args.entry.now ≡ raised c.args.limit (bare c.deref_mut.result.now) = search rules in
    rw was (where_err c.ack_on-acked.result (λ h. inl h) c.ack_on-acked.ensures.memory)
