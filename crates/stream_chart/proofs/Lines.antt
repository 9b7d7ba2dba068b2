-- A line names one quantity at most.
use Rattle.std.proofs.Common.{◌≡◌, ◌≢◌, ◌∙◌, refl, ap, sym, subst, ℕ, List, ◌++◌}
use Rattle.std.specs.Prelude.{◌==◌, codes, slice_index, if◌then◌else◌}
use Rattle.std.proofs.lemmas.List.{append_cancel_left}
use Rattle.stream_chart.specs.declared.plan.Quantity.{Quantity}
use Rattle.stream_chart.specs.declared.plan.Quantity.TheVariants as quantities
use Rattle.stream_chart.specs.Planned.{quantity_text, SaysNumber, SaysQuantity}

-- the quantity whose name has this third letter
abbrev with_third : ℕ → Quantity
with_third letter =
    if letter == 101 then quantities.Seed
    else (if letter == 116 then quantities.Bytes
    else (if letter == 121 then quantities.Payload
    else (if letter == 99 then quantities.ReceiveWindow
    else (if letter == 114 then quantities.StreamWindow
    else (if letter == 110 then quantities.SendWindow
    else (if letter == 115 then quantities.Loss
    else quantities.Reorder))))))

third : (quantity : Quantity) (text : List ℕ) → with_third (slice_index (quantity_text quantity ++ text) 2) ≡ quantity
third quantities.Seed text = refl
third quantities.Bytes text = refl
third quantities.Payload text = refl
third quantities.ReceiveWindow text = refl
third quantities.StreamWindow text = refl
third quantities.SendWindow text = refl
third quantities.Loss text = refl
third quantities.Reorder text = refl

module _ (a b : Quantity) (s t : List ℕ) (e : quantity_text a ++ s ≡ quantity_text b ++ t) where
  same_quantity : a ≡ b
  same_quantity = sym (third a s) ∙ ap (λ line. with_third (slice_index line 2)) e ∙ third b t

  pub same_text : s ≡ t
  same_text = append_cancel_left (quantity_text b) s t (subst (λ q. quantity_text q ++ s ≡ quantity_text b ++ t) same_quantity e)

pub no_other : (line text : List ℕ) (named quantity : Quantity) → line ≡ quantity_text named ++ text → ((number : ℕ) → SaysNumber text number → ⊥) → (number : ℕ) → SaysQuantity line quantity number → ⊥
no_other line text named quantity e none number says =
    none number (subst (λ t. SaysNumber t number) (same_text quantity named says.0 text (sym says.1 ∙ e)) says.2)

abbrev pub Lacks : List ℕ → List ℕ → Type 0
Lacks line name = (text : List ℕ) → line ≢ name ++ text

pub no_quantity : (line : List ℕ) → Lacks line (codes "seed ") → Lacks line (codes "bytes ") → Lacks line (codes "payload ") → Lacks line (codes "receive-window ")
    → Lacks line (codes "stream-window ") → Lacks line (codes "send-window ") → Lacks line (codes "loss 1 in ") → Lacks line (codes "reorder 1 in ")
    → (quantity : Quantity) → Lacks line (quantity_text quantity)
no_quantity line a b c d e f g h quantities.Seed = a
no_quantity line a b c d e f g h quantities.Bytes = b
no_quantity line a b c d e f g h quantities.Payload = c
no_quantity line a b c d e f g h quantities.ReceiveWindow = d
no_quantity line a b c d e f g h quantities.StreamWindow = e
no_quantity line a b c d e f g h quantities.SendWindow = f
no_quantity line a b c d e f g h quantities.Loss = g
no_quantity line a b c d e f g h quantities.Reorder = h
