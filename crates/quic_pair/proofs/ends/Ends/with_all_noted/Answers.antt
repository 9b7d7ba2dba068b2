use Rattle.std.proofs.Common.{◌≡◌, ◌<◌, ◌+◌, ◌++◌, ◌∷◌, [], List, Option, Some, length, take, sym, ap, ◌∙◌, arith}
use Rattle.std.specs.Prelude.{option_copied}
use Rattle.std.proofs.lemmas.List.{take_all}
use Rattle.quic_streams.specs.declared.settling.SentPayload.{SentPayload}
use Rattle.quic_retransmits.specs.Pending.{Pending}
use Rattle.quic_exchange.specs.Sent.{Sent}
use Rattle.quic_exchange.specs.Gone.{with_noted, with_all_noted}
use Rattle.quic_exchange.proofs.Gone.{noted-behind}
use Rattle.quic_exchange.proofs.Lists.{slice_get-there, take_more}
use Rattle.quic_pair.specs.Ends.{ends_view}
use Rattle.quic_pair.specs.Reporting.{rest_in}
use Rattle.quic_pair.proofs.ends.Ends.with_all_noted.Goals as goal

pub loop-number-preserved : goal.loop-number-preserved
loop-number-preserved c =
    let sent : List Sent = (ends_view c.args.self.now).sent in
    let p : Pending = (ends_view c.args.self.now).a.pending in
    let n = c.loop-number.number in
    let within : n < length sent = omega (arith, c.count-number-end.ensures) in
    let there = slice_get-there sent n within in
    let rest : option_copied c.rest.result ≡ there.0.unsettled.rest = c.rest.ensures ∙ ap rest_in there.1 in
    c.in_ok-join_noted.ensures
    ∙ ap (λ (q : Pending). with_noted q (option_copied c.rest.result)) c.loop-number.invariant
    ∙ ap (with_noted (with_all_noted p (take n sent))) rest
    ∙ sym (ap (λ (l : List Sent). with_all_noted p l) (take_more sent n there.0 there.1) ∙ noted-behind (take n sent) p there.0)

pub returns : goal.returns
returns c =
    let sent : List Sent = (ends_view c.args.self.now).sent in
    let p : Pending = (ends_view c.args.self.now).a.pending in
    c.loop-number.invariant ∙ ap (λ (l : List Sent). with_all_noted p l) (take_all c.loop-number.number sent (omega (arith, c.count-number-end.ensures)))
