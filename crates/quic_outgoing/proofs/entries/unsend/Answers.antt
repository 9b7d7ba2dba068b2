use Rattle.std.proofs.Common.{rules, ◌≡◌, Some, true, ap, sym, ◌∙◌, subst}
use Rattle.std.specs.Box.{with_value}
use Rattle.quic_sending.specs.declared.send.Send.{Send}
use Rattle.quic_sending.specs.Buffer.{is_acked}
use Rattle.quic_outgoing.specs.Seen.{IsAckedAt}
use Rattle.quic_outgoing.proofs.entries.unsend.Goals as goal

pub returns-in-Some-clause-kept : goal.returns-in-Some-clause-kept
returns-in-Some-clause-kept c = λ n a.
    let there : c.args.entry.now ≡ Some c.in-Some.half = search rules in
    let acked = subst (λ (s : Send). is_acked s.pending n ≡ true) (sym c.deref_mut.ensures.value) (subst (IsAckedAt n) there a) in
    let same : c.unsend_half.new.half ≡ c.in-Some.half.value = c.unsend_half.ensures.kept n acked ∙ c.deref_mut.ensures.value in
    ap (λ s. Some (with_value c.in-Some.half s)) same ∙ sym there
