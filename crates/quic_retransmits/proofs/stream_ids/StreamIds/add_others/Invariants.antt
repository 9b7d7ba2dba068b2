use Rattle.std.proofs.Common.{◌≡◌, ℕ, ◌≤◌, length}
use Rattle.std.specs.Prelude.{◌||◌, ◌==◌}
use Rattle.std.specs.List.{list_any}
use Rattle.std.specs.HashSet.{contains}
use Rattle.quic_retransmits.specs.Ids.{is_in_ids, id_rooms}
use Rattle.quic_retransmits.proofs.stream_ids.StreamIds.add_others.Given as goal

abbrev pub invariant-loop-id : goal.invariant-loop-id
invariant-loop-id l =
    record {
      all : (id : ℕ) → (is_in_ids l.self id || list_any (λ k. id == k) l.id-iterator) ≡ (is_in_ids l.initial.self id || contains ◌==◌ l.more id);
      room : length l.id-iterator ≤ id_rooms l.self;
    }
