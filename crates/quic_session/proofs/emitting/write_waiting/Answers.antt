use Rattle.std.proofs.Common.{refl, arith, ap, ◌∙◌}
use Rattle.quic_datagrams.specs.declared.datagrams.DatagramState.{DatagramState}
use Rattle.quic_session.specs.Emitting.{none, more}
use Rattle.quic_session.proofs.emitting.write_waiting.Goals as goal

pub waiting-init : goal.waiting-init
waiting-init c = record { sends = none; same = refl }

pub waiting-preserved : goal.waiting-preserved
waiting-preserved c = record {
  sends = more c.waiting.invariant.sends (omega (arith, c.len-in-waiting.ensures, c.waiting.bytes.ok.0)) (rw c.in-Ok-true.field-0-test at c.in-Ok-true.ensures.ok);
  same = c.write.ensures.same ∙ ap (λ (d : DatagramState). record d { outgoing = c.write.new.self.outgoing }) c.waiting.invariant.same;
}
