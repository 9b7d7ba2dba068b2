-- The entry at a place, where its key is known.
use Rattle.std.proofs.Common.{◌≡◌, ℕ, ◌+◌, ◌<◌, sym, ap, ◌∙◌, List, length, arith, Some}
use Rattle.std.specs.Prelude.{slice_index_or}
use Rattle.std.specs.List.{remove_range}
use Rattle.std.specs.Map.{remove_entry}
use Rattle.std.specs.BTreeMap.{is_at}
use Rattle.std.specs.Ordering.{nat_cmp}
use Rattle.block_map.specs.Sorted.{KeyAndValue, KeysRise}
use Rattle.block_map.proofs.Keyed.{lookup_here, without_here}
use Rattle.quic_ordered.specs.Slotted.{slot_at}

-- it has the slot of the key
pub slot_near : (es : List KeyAndValue) (place q : ℕ) (e : KeyAndValue) → KeysRise es → place < length es → ((d : KeyAndValue) → (slice_index_or es place d).0 ≡ q) → ((d : KeyAndValue) → e ≡ slice_index_or es place d) → slot_at es q ≡ Some e.1
slot_near es place q e r lt key is =
    lookup_here es place q e r lt key ∙ ap (λ (x : KeyAndValue). Some x.1) (sym (is e))

-- taken out, it is the one of the key that is gone
pub out_near : (es es' : List KeyAndValue) (place q : ℕ) → KeysRise es → place < length es → ((d : KeyAndValue) → (slice_index_or es place d).0 ≡ q) → es' ≡ remove_range es place (place + 1) → es' ≡ remove_entry (is_at (nat_cmp q)) es
out_near es es' place q r lt key cut =
    cut ∙ sym (without_here es place (place + 1) q (omega arith) r lt key)
