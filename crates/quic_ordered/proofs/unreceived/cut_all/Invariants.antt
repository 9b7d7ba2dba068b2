use Rattle.std.proofs.Common.{length}
use Rattle.quic_assembler.specs.Reassembly.{IsCut}
use Rattle.quic_ordered.proofs.unreceived.cut_all.Given as goal

abbrev pub invariant-loop : goal.invariant-loop
invariant-loop l = IsCut l.received l.initial.rest l.rest l.fronts.items

abbrev pub decreases-loop : goal.decreases-loop
decreases-loop l = length l.rest.bytes
