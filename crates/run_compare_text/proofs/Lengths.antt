-- How long a line is, at most. Assumes nothing.
use mathlib.Core.List.{List, [], ◌∷◌}
use Prim.Native.Nat.{ℕ, suc, ◌+◌, ◌^◌, ◌≤◌, ◌<◌}
use native.Mathlib.Omega.{arith}
use lib.IntN.{ℤ, pos, negsuc}
use lib.Signed.{mag}
use lib.ListN.{length, length-append}
use Rattle.run_text.specs.Lines.{decimal, signed, fields, event_line, count_line}
use Rattle.run_text.proofs.Decimal.{decimal_length}

code_length : (z : ℤ) → mag z < 2 ^ 31 → length (signed z) ≤ 11
unfolding signed
code_length (pos n) h = let d : length (decimal n) ≤ 10 = decimal_length 9 n (omega (arith, h)) in omega (arith, d)
code_length (negsuc n) h = let d : length (decimal (suc n)) ≤ 10 = decimal_length 9 (suc n) (omega (arith, h)) in omega (arith, d)

-- a space and a number behind which there are k bytes
field_length : (k : ℕ) (x : ℤ) (l : List ℤ) (m : ℕ) → length (signed x) ≤ m → length (fields l) ≤ k → length (fields (x ∷ l)) ≤ suc (m + k)
unfolding fields
field_length k x l m h g = omega (arith, h, g, length-append (signed x) (fields l))

word_length : (n : ℕ) → n < 2 ^ 32 → length (signed (pos n)) ≤ 10
unfolding signed
word_length n h = decimal_length 9 n (omega (arith, h))

no_fields : length (fields []) ≤ 1
unfolding fields
no_fields = omega arith

pub event_length : (i : ℕ) (z : ℤ) (a b c d : ℕ) → i < 10000 → mag z < 2 ^ 31 → a < 2 ^ 32 → b < 2 ^ 32 → c < 2 ^ 32 → d < 2 ^ 32
    → length (event_line i (z ∷ pos a ∷ pos b ∷ pos c ∷ pos d ∷ [])) ≤ 61
unfolding event_line
event_length i z a b c d hi hz ha hb hc hd =
    let fd = field_length 1 (pos d) [] 10 (word_length d hd) no_fields in
    let fc = field_length 12 (pos c) _ 10 (word_length c hc) fd in
    let fb = field_length 23 (pos b) _ 10 (word_length b hb) fc in
    let fa = field_length 34 (pos a) _ 10 (word_length a ha) fb in
    let fz = field_length 45 z _ 11 (code_length z hz) fa in
    let n : length (decimal i) ≤ 4 = decimal_length 3 i (omega (arith, hi)) in
    omega (arith, n, fz, length-append (decimal i) (fields (z ∷ pos a ∷ pos b ∷ pos c ∷ pos d ∷ [])))

pub count_length : (n : ℕ) → n < 10000 → length (count_line n) ≤ 5
unfolding count_line
count_length n h = let d : length (decimal n) ≤ 4 = decimal_length 3 n (omega (arith, h)) in omega (arith, d, no_fields, length-append (decimal n) (fields []))
