-- The text of an input is the one that the plain kernel gives: the rules' demand 3, for both runs. Any words make events of 32-bit words, so nothing is
-- asked of the bytes. Assumes nothing.
use mathlib.Core.List.{List, [], ◌∷◌, map}
use mathlib.Core.Path.{◌≡◌, refl}
use Prim.Native.Nat.{ℕ, ◌+◌, ◌-◌, ◌*◌, ◌≤◌}
use native.Mathlib.Omega.{arith}
use lib.ListN.{length, take, drop}
use Rattle.rules.specs.Setup.{Read, got, refused, Setup, read_setup}
use Rattle.rules.specs.Events.{Event, events_of, AllWords}
use Rattle.rules.specs.Answers.{numbers}
use Rattle.rules.specs.View.{View}
use Rattle.rules.specs.Kernel.{event, fresh}
use Rattle.rules.specs.Plain.{Plain, plain_fresh, plain_next}
use Rattle.rules.specs.Runs.{answers, plain_answers}
use Rattle.rules.specs.Blocks.{Happened}
use Rattle.rules_runs.specs.Demand3.{happened, Demand3}
use Rattle.rules_runs.proofs.Demand3.{demand3}
use Rattle.run_reading.specs.Recorded.{signed_word}
use Rattle.run_reading.proofs.Words.{word_fits, event_fits}
use Rattle.rules.specs.Setup.{word_at}
use Rattle.run_compare_reading.specs.Compared.{Compared, compared, words_from}
use Rattle.run_compare_reading.proofs.Offset.{rest_got}
use Rattle.run_compare_reading.proofs.Verdict.{Found, found}
use Rattle.run_compare_text.specs.Changes.{compared_text}
use Rattle.run_compare.specs.Difference.{difference_by, runs, plain_runs, difference_of, plain_difference_of}
use Rattle.run_compare.proofs.Answers.{alone}

-- ---- one run by both kernels

same_answers : (past : List Happened) (v : View) (s : Plain) (l : List Event) → Demand3 past v s l → answers v l ≡ plain_answers s l
unfolding answers plain_answers
same_answers past v s [] d = refl
same_answers past v s (e ∷ l) d = λ z. d.1 z ∷ same_answers (happened s e ∷ past) (event v e).next (plain_next s e) l d.3 z

all_words : (l : List ℕ) → AllWords (events_of (map signed_word l))
all_words [] = tt
all_words (k ∷ []) = tt
all_words (k ∷ n ∷ []) = tt
all_words (k ∷ n ∷ a ∷ []) = tt
all_words (k ∷ n ∷ a ∷ b ∷ []) = tt
all_words (k ∷ n ∷ a ∷ b ∷ c ∷ l) =
    (event_fits (signed_word k) (signed_word n) (signed_word a) (signed_word b) (signed_word c) (word_fits k) (word_fits n) (word_fits a) (word_fits b) (word_fits c), all_words l)

module _ (s : List ℕ) where
  same_run : (i j : ℕ) → j ≤ length s → (u : Setup) → read_setup s i ≡ got u j → (l : List ℕ) → runs u (events_of (map signed_word l)) ≡ plain_runs u (events_of (map signed_word l))
  same_run i j h u e l = same_answers [] (fresh u) (plain_fresh u) _ (demand3 (take (j - i) (drop i s)) u (j - i) (alone s i j h u e) (events_of (map signed_word l)) (all_words l))

  both_same : (c : Compared) → Found s c → (runs c.first (events_of c.words) ≡ plain_runs c.first (events_of c.words)) × (runs c.second (events_of c.words) ≡ plain_runs c.second (events_of c.words))
  both_same c F =
      let at = F.events_at in
      let h : at ≤ length s = omega (arith, F.events.room) in
      let k : F.second_at ≤ length s = omega (arith, h, (rest_got s F.second_at c.second at F.second).0) in
      let l : List ℕ = words_from s (5 * word_at s at) (at + 4) in
      rw F.events.words (same_run 0 F.second_at k c.first F.first l, same_run F.second_at at h c.second F.second l)

  -- for any bytes
  pub plain_difference : difference_of s ≡ plain_difference_of s
  unfolding difference_of plain_difference_of difference_by
  plain_difference = go (compared s) refl
    where
      go : (r : Read Compared) → compared s ≡ r → difference_by runs r ≡ difference_by plain_runs r
      go (refused f p) e = refl
      go (got c end) e = let B = both_same c (found s c end e) in λ z. compared_text (map numbers (B.0 z)) (map numbers (B.1 z))
