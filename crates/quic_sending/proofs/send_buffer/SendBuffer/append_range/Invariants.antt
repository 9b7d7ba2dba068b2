use Rattle.std.proofs.Common.{◌≡◌, ◌+◌, ◌-◌, ◌≤◌, ◌++◌, List, ℕ, take, drop, vec_len, vec_capacity}
use Rattle.std.specs.List.{concat}
use Rattle.quic_sending.specs.Buffer.{HasCuts}
use Rattle.quic_sending.proofs.send_buffer.SendBuffer.append_range.Given as goal

abbrev pub invariant-loop-at : goal.invariant-loop-at
invariant-loop-at l =
    record {
      from : l.range.start ≤ l.at;
      to : l.at ≤ l.range.end;
      len : vec_len l.out ≡ vec_len l.initial.out + (l.at - l.range.start);
      room : vec_len l.initial.out + (l.range.end - l.range.start) ≤ vec_capacity l.out;
      capacity : vec_capacity l.initial.out ≤ vec_capacity l.out;
      copied : (cuts : List (List ℕ)) → HasCuts cuts l.self → l.out.items ≡ l.initial.out.items ++ take (l.at - l.range.start) (drop l.range.start (concat cuts));
    }

abbrev pub decreases-loop-at : goal.decreases-loop-at
decreases-loop-at l = l.range.end - l.at
