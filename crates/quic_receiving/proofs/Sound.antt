-- What is true of a half stays true.
use Rattle.std.proofs.Common.{◌≡◌, ℕ, ◌+◌, ◌^◌, ◌<◌, ◌≤◌, ◌&&◌, Bool, true, false, nat_lt, nat_le, if◌then◌else◌, List, length, max, Option, Some, None, is_some, refl, arith}
use Rattle.std.proofs.lemmas.Bool.Decides.{nat_tests}
use Rattle.quic_assembler.specs.Reassembly.{Reassembly}
use Rattle.quic_receiving.specs.Half.{Half, IsHalf, Refused, Taken, is_unfit, is_beyond, verdict, verdict_by, counted_to}
use Rattle.quic_values.specs.Offsets.{is_past}
use Rattle.quic_receiving.specs.Counted.{IsCounted}
use Rattle.quic_receiving.specs.Calls.{Inserted}
use Rattle.quic_receiving.proofs.Counted.{read-bound, counted-inserted}

pub sound : (buffer : Reassembly) (size reset : Option ℕ) (end sent_max : ℕ) (stopped : Bool) → end < 2 ^ 62 → sent_max < 2 ^ 62
    → ((e : ℕ) → size ≡ Some e → end ≡ e) → (is_some reset ≡ true → is_some size ≡ true) → IsCounted buffer → buffer.highest ≤ end
    → IsHalf (record { buffer = buffer; size = size; reset = reset; end = end; sent_max = sent_max; stopped = stopped })
sound buffer size reset end sent_max stopped bound limit size_is sized counted within = record {
  end_bound = bound;
  limit_bound = limit;
  size_is = size_is;
  reset_sized = sized;
  counted = counted;
  within = within;
  read_bound = omega (arith, read-bound buffer counted);
}

-- another buffer with the same highest end
pub sound_buffer : (h : Half) (buffer : Reassembly) (stopped : Bool) → IsHalf h → buffer.highest ≡ h.buffer.highest → IsCounted buffer
    → IsHalf (record h { buffer = buffer; stopped = stopped })
sound_buffer h buffer stopped i same counted =
    sound buffer h.size h.reset h.end h.sent_max stopped i.end_bound i.limit_bound i.size_is i.reset_sized counted (omega (arith, i.within))

-- a frame is taken where no test fails
no_test_fails : (a b c d : Bool) (e f : ℕ) → (if a then Refused e else if b then Refused f else if c then Refused f else if d then Refused e else Taken) ≡ Taken
    → (a ≡ false) × (b ≡ false) × (c ≡ false)
no_test_fails true b c d e f h = cc
no_test_fails false true c d e f h = cc
no_test_fails false false true d e f h = cc
no_test_fails false false false true e f h = cc
no_test_fails false false false false e f h = (refl, refl, refl)

size_after : (o : Option ℕ) (high end : ℕ) (fin : Bool) → ((e : ℕ) → o ≡ Some e → high ≡ e) → is_past o end fin ≡ false
    → (fin ≡ true → high ≤ end) → (e : ℕ) → (if fin then Some end else o) ≡ Some e → max high end ≡ e
size_after o high end true size_is past low e h = let k : end ≡ e = cc in omega (arith, low refl)
size_after None high end false size_is past low e h = cc
size_after (Some size) high end false size_is past low e h = let k : high ≡ e = size_is e h in let m : size ≡ e = cc in grind (arith, nat_tests)

high_after : (fin : Bool) (high end : ℕ) → (fin && nat_lt end high) ≡ false → fin ≡ true → high ≤ end
high_after true high end h t = grind (arith, nat_tests)
high_after false high end h t = cc

-- a frame that was taken
pub sound_frame : (h : Half) (buffer : Reassembly) (offset : ℕ) (bytes : List ℕ) (fin : Bool) (end received max_data : ℕ) → IsHalf h
    → end ≡ offset + length bytes → verdict h offset (length bytes) fin received max_data ≡ Taken → Inserted h.buffer buffer offset bytes
    → h.reset ≡ None → IsHalf (record (counted_to h end fin) { buffer = buffer })
sound_frame h buffer offset bytes fin end received max_data i e taken inserted running =
    let v : verdict_by h.size h.end h.sent_max end fin received max_data ≡ Taken = rw e taken in
    let tests = no_test_fails (nat_le (2 ^ 62) end) (is_past h.size end fin) (fin && nat_lt end h.end) (is_beyond h.end h.sent_max end received max_data) 3 6 v in
    let small : end < 2 ^ 62 = below end tests.0 in
    sound buffer (if fin then Some end else h.size) h.reset (max h.end end) h.sent_max h.stopped
    (omega (arith, i.end_bound, small))
    i.limit_bound
    (size_after h.size h.end end fin i.size_is tests.1 (high_after fin h.end end tests.2))
    (λ s. absurd (no_reset h.reset running s))
    (counted-inserted h.buffer buffer offset bytes inserted i.counted)
    (omega (arith, inserted.highest, i.within))
  where
    below : (end : ℕ) → nat_le (2 ^ 62) end ≡ false → end < 2 ^ 62
    below end t = grind (arith, nat_tests)

    no_reset : (o : Option ℕ) → o ≡ None → is_some o ≡ true → ⊥
    no_reset None e s = cc
    no_reset (Some code) e s = cc

-- a final size that fits is not below what came
pub fit_end : (o : Option ℕ) (high size : ℕ) → ((e : ℕ) → o ≡ Some e → high ≡ e) → is_unfit o high size ≡ false → high ≤ size
fit_end None high size f h = grind (arith, nat_tests)
fit_end (Some known) high size f h = let e = f known refl in grind (arith, nat_tests)
