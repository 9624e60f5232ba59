-- What was judged of an input decides its text. Assumes nothing.
use mathlib.Core.List.{List}
use mathlib.Core.Path.{◌≡◌, refl, ap, ◌∙◌, subst}
use Prim.Native.Nat.{ℕ, ◌≤◌}
use native.Mathlib.Omega.{arith}
use lib.IntN.{ℤ}
use lib.ListN.{length, take}
use Rattle.std.proofs.Common.{Result, Ok, Err}
use Rattle.rules.specs.Setup.{Fault, S1, S2, S3, S4, digit, word_at}
use Rattle.setup_sections.specs.Judging.{Refusal, coded, digit_of}
use Rattle.run_text.specs.Lines.{refusal}
use Rattle.run_compare_reading.specs.Compared.{input_bytes, Refuses, Lies, Judges}
use Rattle.run_compare_reading.specs.declared.Places.{Places}
use Rattle.run_compare_reading.proofs.Offset.{rest_got}
use Rattle.run_compare_reading.proofs.Later.{later_bytes}
use Rattle.run_compare_text.specs.declared.Short.{Short}
use Rattle.run_compare_text.specs.Output.{Shown}
use Rattle.run_compare_text.specs.Rows.{text_in, Lent, lent_in}
use Rattle.run_compare_text.proofs.Laid.{lent_in_lem}
use Rattle.run_compare.specs.Difference.{difference_by, runs, difference_of}
use Rattle.run_compare.specs.Playing.{BothRan}

digit_coded : (f : Fault) → digit_of (coded f) ≡ digit f
digit_coded S1 = refl
digit_coded S2 = refl
digit_coded S3 = refl
digit_coded S4 = refl

module _ (s : List ℕ) where
  pub as_refused : {r : Result Places Refusal} {e : Refusal} → Judges s r → r ≡ Err e → Refuses s e
  as_refused J q = subst (Judges s) q J

  pub as_good : {r : Result Places Refusal} {p : Places} → Judges s r → r ≡ Ok p → Lies s p.second p.events
  as_good J q = subst (Judges s) q J

  pub refused_text : {e : Refusal} {d : ℕ} → Refuses s e → d ≡ digit_of e.fault → difference_of s ≡ refusal d e.place
  unfolding difference_of difference_by
  refused_text {e} {d} R q =
      let f : d ≡ digit R.fault = q ∙ ap digit_of R.told ∙ digit_coded R.fault in
      rw (R.read, f) refl

  module _ {i j : ℕ} (L : Lies s i j) where
    -- the second setup ends behind its begin, and within the input
    pub in_order : (i ≤ j) × (j ≤ length s)
    in_order = ((rest_got s i L.all.second j L.second).0, omega (arith, L.room))

    pub ran_text : {n : ℕ} → n ≡ word_at s j → {c : List ℤ} {w : List ℕ} {d : List ℤ} {v : List ℕ} → BothRan s i j n c w d v → difference_of s ≡ text_in n c w d v
    unfolding difference_of difference_by
    ran_text {n} e {c} {w} {d} {v} B =
        rw (L.read, B.first L.all.first L.first, B.second L.all.second L.second, e, L.words)

-- all answers are lent, so all are shown
pub shown_all : (n : ℕ) (c : List ℤ) (w : List ℕ) (d : List ℤ) (v : List ℕ) → Lent n c w d v → {r : Result ℕ Short} {old new : List ℕ} → Shown (text_in (lent_in n c w d v) c w d v) r old new → Shown (text_in n c w d v) r old new
shown_all n c w d v L {r} {old} {new} S = subst (λ (k : ℕ). Shown (text_in k c w d v) r old new) (lent_in_lem n c w d v L) S

-- No text depends on a byte behind the first `INPUT` ones, which are all that the program reads.
pub later_text : (s : List ℕ) → difference_of (take input_bytes s) ≡ difference_of s
unfolding difference_of
later_text s = ap (difference_by runs) (later_bytes s)
