-- A number that is read is spelled so, and a number that is spelled so is read.
use Rattle.std.proofs.Common.{◌≡◌, ℕ, ◌+◌, ◌*◌, ◌%◌, ◌^◌, ◌<◌, ◌≤◌, false, ◌⊎◌, ltb, List, [], ◌∷◌, ◌++◌, length, get_or, take, drop, Some, refl, sym, ap, ◌∙◌, arith, inl, inr}
use Rattle.std.specs.Int.{Width, w16, w32, w64, byte_len, from_be_bytes, to_be_bytes}
use Rattle.std.proofs.lemmas.Bool.{cases_lt, ltb-false, le-ltb, lt-ltb}
use Rattle.std.proofs.lemmas.List.{take_at, drop_at, take-append-drop, length-append, length-take, get_or-take}
use Rattle.std.proofs.lemmas.Nat.{mod_below, be_bytes_2, be_bytes_4, be_bytes_8, from_be_bytes-to_be_bytes_2, from_be_bytes-to_be_bytes_4, from_be_bytes-to_be_bytes_8}
use Rattle.quic_values.specs.Numbers.{SpellsNumber, BeginsNumber, shortest}
use Rattle.quic_wire.specs.Reading.{wide_at, number_at}
use Rattle.quic_wire.proofs.Steps.{IsBytes, IsBytes-drop, IsBytes-rest, IsBytes-take, guard_some, some_is}

-- ---- which width a first byte calls for

one_at-is : (b : ℕ) (rest : List ℕ) → b < 64 → number_at (b ∷ rest) ≡ Some (b, rest)
unfolding number_at
one_at-is b rest lt = rw (lt-ltb b 64 lt) refl

two_at-is : (b : ℕ) (rest : List ℕ) → 64 ≤ b → b < 128 → number_at (b ∷ rest) ≡ wide_at w16 (2 ^ 14) (b ∷ rest)
unfolding number_at
two_at-is b rest ge lt = rw (le-ltb b 64 ge, lt-ltb b 128 lt) refl

four_at-is : (b : ℕ) (rest : List ℕ) → 128 ≤ b → b < 192 → number_at (b ∷ rest) ≡ wide_at w32 (2 ^ 30) (b ∷ rest)
unfolding number_at
four_at-is b rest ge lt = rw (le-ltb b 64 (omega arith), le-ltb b 128 ge, lt-ltb b 192 lt) refl

eight_at-is : (b : ℕ) (rest : List ℕ) → 192 ≤ b → number_at (b ∷ rest) ≡ wide_at w64 (2 ^ 62) (b ∷ rest)
unfolding number_at
eight_at-is b rest ge = rw (le-ltb b 64 (omega arith), le-ltb b 128 (omega arith), le-ltb b 192 ge) refl

-- ---- what is spelled is read

-- m is the number with the two bits that say the length
record IsWide (w : Width) (limit tag : ℕ) : Type 0 where
  pub len : (m : ℕ) → length (to_be_bytes w m) ≡ byte_len w
  pub back : (bytes : List ℕ) → length bytes ≡ byte_len w → IsBytes bytes → to_be_bytes w (from_be_bytes w bytes) ≡ bytes
  pub again : (n : ℕ) → n < limit → from_be_bytes w (to_be_bytes w (tag * limit + n)) % limit ≡ n
  pub value : (bytes : List ℕ) → IsBytes bytes → 64 * tag ≤ get_or bytes 0 0 → get_or bytes 0 0 < 64 * tag + 64 → tag * limit + from_be_bytes w bytes % limit ≡ from_be_bytes w bytes
  pub some : 0 < limit

wide_two : IsWide w16 (2 ^ 14) 1
wide_two = record {
  len = λ m. refl;
  back = λ bytes len fits. be_bytes_2 bytes _ len fits refl;
  again = λ n lt. rw (from_be_bytes-to_be_bytes_2 (1 * 2 ^ 14 + n) (omega arith)) (omega arith);
  value = λ bytes fits low high. omega (arith, fits 0, fits 1);
  some = omega arith;
}

wide_four : IsWide w32 (2 ^ 30) 2
wide_four = record {
  len = λ m. refl;
  back = λ bytes len fits. be_bytes_4 bytes _ len fits refl;
  again = λ n lt. rw (from_be_bytes-to_be_bytes_4 (2 * 2 ^ 30 + n) (omega arith)) (omega arith);
  value = λ bytes fits low high. omega (arith, fits 0, fits 1, fits 2, fits 3);
  some = omega arith;
}

wide_eight : IsWide w64 (2 ^ 62) 3
wide_eight = record {
  len = λ m. refl;
  back = λ bytes len fits. be_bytes_8 bytes _ len fits refl;
  again = λ n lt. rw (from_be_bytes-to_be_bytes_8 (3 * 2 ^ 62 + n) (omega arith)) (omega arith);
  value = λ bytes fits low high. omega (arith, fits 0, fits 1, fits 2, fits 3, fits 4, fits 5, fits 6, fits 7);
  some = omega arith;
}

wide_again : (w : Width) (limit tag : ℕ) (wide : IsWide w limit tag) (n : ℕ) (rest : List ℕ) → n < limit → wide_at w limit (to_be_bytes w (tag * limit + n) ++ rest) ≡ Some (n, rest)
wide_again w limit tag wide n rest lt =
    let m = tag * limit + n in
    let len = wide.len m in
    let long : ltb (length (to_be_bytes w m ++ rest)) (byte_len w) ≡ false = le-ltb _ _ (omega (arith, length-append (to_be_bytes w m) rest)) in
    rw (long, take_at (to_be_bytes w m) rest (byte_len w) len, drop_at (to_be_bytes w m) rest (byte_len w) len, wide.again n lt) refl

-- what a wide number took from the front
wide_takes : (w : Width) (limit tag : ℕ) (wide : IsWide w limit tag) (bytes : List ℕ) (n : ℕ) (rest : List ℕ) → IsBytes bytes → 0 < byte_len w → 64 * tag ≤ get_or bytes 0 0 → get_or bytes 0 0 < 64 * tag + 64
    → wide_at w limit bytes ≡ Some (n, rest) → (n < limit) × (bytes ≡ to_be_bytes w (tag * limit + n) ++ rest) × (rest ≡ drop (byte_len w) bytes)
wide_takes w limit tag wide bytes n rest fits some low high e =
    let k = byte_len w in
    let t = take k bytes in
    let g = guard_some (ltb (length bytes) k) (from_be_bytes w t % limit, drop k bytes) (n, rest) e in
    let long : k ≤ length bytes = ltb-false _ _ g.0 in
    let n-is : from_be_bytes w t % limit ≡ n = ap (λ (p : ℕ × List ℕ). p.0) g.1 in
    let rest-is : drop k bytes ≡ rest = ap (λ (p : ℕ × List ℕ). p.1) g.1 in
    let first : get_or t 0 0 ≡ get_or bytes 0 0 = get_or-take k bytes 0 0 some in
    let v = wide.value t (IsBytes-take k bytes fits) (omega arith) (omega arith) in
    let value : tag * limit + n ≡ from_be_bytes w t = ap (λ x. tag * limit + x) (sym n-is) ∙ v in
    let front : to_be_bytes w (tag * limit + n) ≡ t = ap (to_be_bytes w) value ∙ wide.back t (omega (arith, length-take k bytes)) (IsBytes-take k bytes fits) in
    (rw (← n-is) (mod_below (from_be_bytes w t) limit wide.some), rw (front, ← rest-is) (sym (take-append-drop k bytes)), sym rest-is)

pub number_again : (text : List ℕ) (n : ℕ) (rest : List ℕ) → SpellsNumber text n → number_at (text ++ rest) ≡ Some (n, rest)
number_again text n rest spelled =
    elim spelled [
      | inl one ↦ rw one.1 (one_at-is n rest one.0)
      | inr (inl two) ↦ rw two.1 (two_at-is _ _ (omega arith) (omega arith) ∙ wide_again w16 (2 ^ 14) 1 wide_two n rest two.0)
      | inr (inr (inl four)) ↦ rw four.1 (four_at-is _ _ (omega arith) (omega arith) ∙ wide_again w32 (2 ^ 30) 2 wide_four n rest four.0)
      | inr (inr (inr eight)) ↦ rw eight.1 (eight_at-is _ _ (omega arith) ∙ wide_again w64 (2 ^ 62) 3 wide_eight n rest eight.0)
    ]

pub number_begins : (bytes : List ℕ) (n : ℕ) (rest : List ℕ) → BeginsNumber bytes n rest → number_at bytes ≡ Some (n, rest)
number_begins bytes n rest h = rw h.2 (number_again h.0 n rest h.1)

-- what was read is spelled so, and bytes are left
pub record TakesNumber (bytes : List ℕ) (n : ℕ) (rest : List ℕ) : Type 0 where
  pub begins : BeginsNumber bytes n rest
  pub fits : IsBytes rest
  pub shorter : length rest < length bytes

wide_number : (w : Width) (limit tag : ℕ) (wide : IsWide w limit tag) (bytes : List ℕ) (n : ℕ) (rest : List ℕ) → IsBytes bytes → 0 < byte_len w → 64 * tag ≤ get_or bytes 0 0 → get_or bytes 0 0 < 64 * tag + 64
    → (SpellsNumber (to_be_bytes w (tag * limit + n)) n ⊎ (limit ≤ n)) → wide_at w limit bytes ≡ Some (n, rest) → TakesNumber bytes n rest
wide_number w limit tag wide bytes n rest fits some low high spelled e =
    let h = wide_takes w limit tag wide bytes n rest fits some low high e in
    let len = wide.len (tag * limit + n) in
    record {
      begins = (to_be_bytes w (tag * limit + n), elim spelled [ inl is ↦ is | inr over ↦ absurd (omega arith) ], h.1);
      fits = rw h.2 (IsBytes-drop (byte_len w) bytes fits);
      shorter = omega (arith, length-append (to_be_bytes w (tag * limit + n)) rest, ap length h.1);
    }

pub number_takes : (bytes : List ℕ) (n : ℕ) (rest : List ℕ) → IsBytes bytes → number_at bytes ≡ Some (n, rest) → TakesNumber bytes n rest
unfolding number_at
number_takes [] n rest fits e = absurd cc
number_takes (b ∷ bytes) n rest fits e =
    elim (cases_lt b 64) [
      | inl one ↦
          let same = some_is (b, bytes) (n, rest) (sym (one_at-is b bytes one) ∙ e) in
          let is : (b ≡ n) × (bytes ≡ rest) = (ap (λ (p : ℕ × List ℕ). p.0) same, ap (λ (p : ℕ × List ℕ). p.1) same) in
          record { begins = (n ∷ [], inl (omega arith, refl), rw (is.0, is.1) refl); fits = rw (← is.1) (IsBytes-rest b bytes fits); shorter = rw (← is.1) (omega arith) }
      | inr more ↦ elim (cases_lt b 128) [
        | inl two ↦ wide_number w16 (2 ^ 14) 1 wide_two (b ∷ bytes) n rest fits (omega arith) (omega arith) (omega arith)
            (elim (cases_lt n (2 ^ 14)) [ inl lt ↦ inl (inr (inl (lt, refl))) | inr over ↦ inr over ]) (sym (two_at-is b bytes more two) ∙ e)
        | inr more' ↦ elim (cases_lt b 192) [
          | inl four ↦ wide_number w32 (2 ^ 30) 2 wide_four (b ∷ bytes) n rest fits (omega arith) (omega arith) (omega arith)
              (elim (cases_lt n (2 ^ 30)) [ inl lt ↦ inl (inr (inr (inl (lt, refl)))) | inr over ↦ inr over ]) (sym (four_at-is b bytes more' four) ∙ e)
          | inr eight ↦ wide_number w64 (2 ^ 62) 3 wide_eight (b ∷ bytes) n rest fits (omega arith) (omega arith) (omega (arith, fits 0))
              (elim (cases_lt n (2 ^ 62)) [ inl lt ↦ inl (inr (inr (inr (lt, refl)))) | inr over ↦ inr over ]) (sym (eight_at-is b bytes eight) ∙ e)
        ]
      ]
    ]

-- the shortest spelling is one
pub shortest_spells : (n : ℕ) → n < 2 ^ 62 → SpellsNumber (shortest n) n
unfolding shortest
shortest_spells n lt =
    elim (cases_lt n (2 ^ 6)) [
      | inl one ↦ rw (lt-ltb n (2 ^ 6) one) (inl (one, refl))
      | inr more ↦ elim (cases_lt n (2 ^ 14)) [
        | inl two ↦ rw (le-ltb n (2 ^ 6) more, lt-ltb n (2 ^ 14) two) (inr (inl (two, refl)))
        | inr more' ↦ elim (cases_lt n (2 ^ 30)) [
          | inl four ↦ rw (le-ltb n (2 ^ 6) more, le-ltb n (2 ^ 14) more', lt-ltb n (2 ^ 30) four) (inr (inr (inl (four, refl))))
          | inr eight ↦ rw (le-ltb n (2 ^ 6) more, le-ltb n (2 ^ 14) more', le-ltb n (2 ^ 30) eight) (inr (inr (inr (lt, refl))))
        ]
      ]
    ]
