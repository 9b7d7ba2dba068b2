use Rattle.std.proofs.Common.{◌≡◌, ◌+◌, ◌-◌, ◌≤◌, ◌++◌, vec_len}
use Rattle.std.specs.Vec.{vec_capacity}
use Rattle.quic_retransmits.specs.Pending.{numbers_from}
use Rattle.quic_retransmits.proofs.retransmits.push_numbers.Given as goal

abbrev pub invariant-loop-number : goal.invariant-loop-number
invariant-loop-number l =
    record {
      all : l.list.items ++ numbers_from l.number (l.end - l.number) ≡ l.initial.list.items ++ numbers_from l.start (l.end - l.start);
      room : vec_len l.list + (l.end - l.number) ≤ vec_capacity l.list;
    }
