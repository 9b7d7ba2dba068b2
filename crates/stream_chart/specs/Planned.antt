-- What a line asks of a simulation.
use Rattle.std.specs.Prelude.{◌≡◌, ◌≢◌, ◌⊎◌, ◌<◌, ◌^◌, ℕ, true, false, List, ◌++◌, codes}
use Rattle.std.specs.Str.Parse.{IsNumeral, digits_value, without_leading_plus}
use Rattle.stream_chart.specs.declared.plan.Plan.{Plan}
use Rattle.stream_chart.specs.declared.plan.Quantity.{Quantity}
use Rattle.stream_chart.specs.declared.plan.Quantity.TheVariants as quantities

-- 100,000 bytes in payloads of 1200, none lost or late, with windows of 64 KiB
abbrev pub plan_of_no_line : Plan
plan_of_no_line = record { seed = 0; bytes = 100000; payload = 1200; receive_window = 65536; stream_window = 65536; send_window = 65536; loss = 0; reorder = 0; is_picture = false }

-- what stands before the number of a quantity
abbrev pub quantity_text : Quantity → List ℕ
quantity_text quantities.Seed = codes "seed "
quantity_text quantities.Bytes = codes "bytes "
quantity_text quantities.Payload = codes "payload "
quantity_text quantities.ReceiveWindow = codes "receive-window "
quantity_text quantities.StreamWindow = codes "stream-window "
quantity_text quantities.SendWindow = codes "send-window "
quantity_text quantities.Loss = codes "loss 1 in "
quantity_text quantities.Reorder = codes "reorder 1 in "

-- the plan with another number for a quantity
abbrev pub with_quantity : Plan → Quantity → ℕ → Plan
with_quantity plan quantities.Seed number = record plan { seed = number }
with_quantity plan quantities.Bytes number = record plan { bytes = number }
with_quantity plan quantities.Payload number = record plan { payload = number }
with_quantity plan quantities.ReceiveWindow number = record plan { receive_window = number }
with_quantity plan quantities.StreamWindow number = record plan { stream_window = number }
with_quantity plan quantities.SendWindow number = record plan { send_window = number }
with_quantity plan quantities.Loss number = record plan { loss = number }
with_quantity plan quantities.Reorder number = record plan { reorder = number }

abbrev pub with_picture : Plan → Plan
with_picture plan = record plan { is_picture = true }

-- decimal digits, before which a plus may stand, spell a number below 2^62
pub record SaysNumber (text : List ℕ) (number : ℕ) : Type 0 where
  pub digits : IsNumeral 10 (without_leading_plus text)
  pub value : digits_value 10 (without_leading_plus text) ≡ number
  pub small : number < 2 ^ 62

-- a line names a quantity, and then spells the number
abbrev pub SaysQuantity : List ℕ → Quantity → ℕ → Type 0
SaysQuantity line quantity number = (text : List ℕ) × (line ≡ quantity_text quantity ++ text) × SaysNumber text number

-- a line asks for a picture, or says a quantity, and nothing else of the plan changes
abbrev pub TakesLine : List ℕ → Plan → Plan → Type 0
TakesLine line old new =
    ((line ≡ codes "picture") × (new ≡ with_picture old))
    ⊎ ((quantity : Quantity) × (number : ℕ) × SaysQuantity line quantity number × (new ≡ with_quantity old quantity number))

-- a line neither asks for a picture nor says a quantity
abbrev pub SaysNothing : List ℕ → Type 0
SaysNothing line = (line ≢ codes "picture") × ((quantity : Quantity) (number : ℕ) → SaysQuantity line quantity number → ⊥)
