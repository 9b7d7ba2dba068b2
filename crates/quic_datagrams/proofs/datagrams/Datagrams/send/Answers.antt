use Rattle.std.proofs.Common.{◌≡◌, ◌∙◌, ap, subst, None, Bool}
use Rattle.quic_datagrams.specs.declared.datagrams.DatagramState.{DatagramState}
use Rattle.quic_datagrams.specs.Sending.{send_refusal}
use Rattle.quic_datagrams.proofs.QueueLemmas.{with_newest-roomy}
use Rattle.quic_datagrams.proofs.SendingLemmas.{OnOk-map, OnOk-both, send_refusal-none}
use Rattle.quic_datagrams.proofs.datagrams.Datagrams.send.Goals as goal

pub returns-clause-roomy : goal.returns-clause-roomy
returns-clause-roomy c =
    λ room. OnOk-map c.send_within.result (λ queued. ap (λ (s : DatagramState). s.outgoing) queued ∙ with_newest-roomy _ _ _ room) c.send_within.ensures.queued

pub returns-clause-without_drop : goal.returns-clause-without_drop
returns-clause-without_drop c =
    λ kept. OnOk-both c.send_within.result
    (λ permitted queued.
    ap (λ (s : DatagramState). s.outgoing) queued
    ∙ with_newest-roomy _ _ _ (send_refusal-none c.args.self.now.limits c.args.self.now.state.now.outgoing c.args.bytes (subst (λ (b : Bool). send_refusal c.args.self.now.limits c.args.self.now.state.now.outgoing c.args.bytes b ≡ None) kept permitted)))
    c.send_within.ensures.permitted c.send_within.ensures.queued
