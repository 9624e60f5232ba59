-- The tests of the words and of whom a call names, as the code makes them. Assumes nothing.
use mathlib.Core.Bool.{true, false, true≢false}
use mathlib.Core.List.{List}
use mathlib.Core.Path.{◌≡◌, refl, sym, ap, ◌∙◌}
use Prim.Native.Nat.{ℕ, zero, suc}
use native.Mathlib.Decide.{dec_le}
use native.Mathlib.Omega.{arith}
use lib.Dec.{eqb, ltb}
use lib.IntN.{ℤ, pos, negsuc}
use lib.Signed.{lt_z}
use borrow.Author.Tests.{le-leb, lt-leb, le-ltb, lt-ltb, ltb-true}
use Rattle.rules.specs.Ids.{In}
use Rattle.rules.specs.State.{alarm_count}
use Rattle.rules.specs.Events.{nat, outside, above, below_for_ever}
use Rattle.rules.specs.Table.{names_absent, names_dormant}
use Rattle.memory_columns.specs.Layout as Layout
use Rattle.memory_columns.specs.Layout.{entry}
use Rattle.memory_picture.specs.Picture.{tasks_shown, view_shown}
use Rattle.call_words.proofs.Tasks.{absent_read, dormant_read}
use Rattle.call_judging.specs.declared.Target.{Target}
use Rattle.call_judging.specs.declared.Target.TheVariants.{Unnamed, Anyone, Alive, Another}
use Rattle.call_judging.specs.Judging.{target_of, absent_if, dormant_if}

-- the column says whether the task is dormant
pub dormant_is : (t : Target) (i : ℕ) (b m : List ℕ) → In i (tasks_shown b) → dormant_if (target_of t i) (eqb (entry Layout.status b i) 0) ≡ names_dormant (view_shown b m).body (target_of t i)
dormant_is Unnamed i b m h = refl
dormant_is Anyone i b m h = refl
dormant_is Alive i b m h = sym (dormant_read b m i h)
dormant_is Another i b m h = sym (dormant_read b m i h)

-- the column says whether the task is there
pub absent_is : (t : Target) (i : ℕ) (b m : List ℕ) → In i (tasks_shown b) → absent_if (target_of t i) (eqb (entry Layout.status b i) 6) ≡ names_absent (view_shown b m).body (target_of t i)
absent_is Unnamed i b m h = refl
absent_is Anyone i b m h = sym (absent_read b m i h)
absent_is Alive i b m h = sym (absent_read b m i h)
absent_is Another i b m h = sym (absent_read b m i h)

-- ---- numbers

pub no_alarms : {z n : ℕ} → z ≡ n → z ≡ 0 → 0 ≡ alarm_count n
no_alarms e y = ap alarm_count (sym y ∙ e)

pub all_alarms : (n : ℕ) {z : ℕ} → z ≡ n → (z ≡ 0 → ⊥) → 8 ≡ alarm_count n
all_alarms zero e ne = absurd (ne e)
all_alarms (suc n) e ne = refl

pub within : (i n : ℕ) → (i ≡ 0 → ⊥) → ltb n i ≡ outside (pos i) n
within i n ne = elim (dec_le i n) [
  | yes h ↦ rw (le-leb 1 i (omega arith), le-leb i n h, le-ltb n i h)
  | no h ↦ rw (le-leb 1 i (omega arith), lt-leb i n (omega arith), lt-ltb n i (omega arith))
]

pub above_low : (a : ℤ) (n : ℕ) → lt_z a (pos 0) ≡ true → true ≡ above a n
above_low (pos k) n e = absurd (omega (arith, ltb-true k 0 e))
above_low (negsuc k) n e = refl

pub above_high : (a : ℤ) (n : ℕ) → lt_z a (pos 0) ≡ false → ltb n (nat a) ≡ above a n
above_high (pos k) n e = refl
above_high (negsuc k) n e = absurd (true≢false e)

pub time_low : (a : ℤ) → lt_z a (negsuc 0) ≡ true → below_for_ever a ≡ true
time_low (pos k) e = absurd (true≢false (sym e))
time_low (negsuc zero) e = absurd (true≢false (sym e))
time_low (negsuc (suc k)) e = refl

pub time_fine : (a : ℤ) → lt_z a (negsuc 0) ≡ false → below_for_ever a ≡ false
time_fine (pos k) e = refl
time_fine (negsuc zero) e = refl
time_fine (negsuc (suc k)) e = absurd (true≢false (sym (lt-ltb 0 (suc k) (omega arith)) ∙ e))
