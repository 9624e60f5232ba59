-- An event is listed exactly if the two answers differ; so equal setups have none. Assumes nothing.
use mathlib.Core.Bool.{Bool, true, false, cond}
use mathlib.Core.List.{List, [], ◌∷◌, map}
use mathlib.Core.Logic.{◌≢◌, inl, inr}
use mathlib.Core.Path.{◌≡◌, refl, sym, ap, ◌∙◌, subst}
use Prim.Native.Nat.{ℕ, zero, suc, ◌+◌, ◌≤◌, ◌<◌}
use native.Mathlib.Omega.{arith}
use lib.IntN.{ℤ}
use lib.ListN.{length}
use Rattle.rules.specs.Setup.{got}
use Rattle.rules.specs.Events.{Event, events_of}
use Rattle.rules.specs.View.{View}
use Rattle.rules.specs.Answers.{Answer, numbers}
use Rattle.rules.specs.Kernel.{event, fresh}
use Rattle.rules.specs.Runs.{answers}
use Rattle.run_text.specs.Ascii.{ascii}
use Rattle.run_compare_reading.specs.Compared.{Compared, compared}
use Rattle.run_compare_text.specs.Changes.{differ, Change, change, changes, changes_text, compared_text}
use Rattle.run_compare_text.proofs.Differ.{never_itself, differ_not, alike}
use Rattle.run_compare.specs.Difference.{difference_by, difference_of}
use Rattle.run_compare.specs.Exactly.{Has, Rising, answer_at, Exactly, listed, first_run, second_run, changes_of}

-- ---- two runs

all_listed : (n : ℕ) (a b : List Answer) → length a ≡ length b → (i : ℕ) → i < length a → answer_at a i ≢ answer_at b i → Has (change (n + i) (answer_at a i) (answer_at b i)) (listed n a b)
unfolding changes
all_listed n [] b e i h ne = absurd (omega (arith, h))
all_listed n (x ∷ a) [] e i h ne = absurd (omega (arith, e))
all_listed n (x ∷ a) (y ∷ b) e zero h ne = go (differ (numbers x) (numbers y)) refl
  where
    go : (t : Bool) → differ (numbers x) (numbers y) ≡ t → Has (change (n + 0) (numbers x) (numbers y)) (cond t (change n (numbers x) (numbers y) ∷ listed (suc n) a b) (listed (suc n) a b))
    go true q = inl (let z : n ≡ n + 0 = omega arith in ap (λ (m : ℕ). change m (numbers x) (numbers y)) z)
    go false q = absurd (ne (alike (numbers x) (numbers y) refl q))
all_listed n (x ∷ a) (y ∷ b) e (suc i) h ne =
    let z : suc n + i ≡ n + suc i = omega arith in
    go (differ (numbers x) (numbers y))
    (subst (λ (m : ℕ). Has (change m (answer_at a i) (answer_at b i)) (listed (suc n) a b)) z (all_listed (suc n) a b (omega (arith, e)) i (omega (arith, h)) ne))
  where
    go : (t : Bool) → Has (change (n + suc i) (answer_at a i) (answer_at b i)) (listed (suc n) a b)
        → Has (change (n + suc i) (answer_at a i) (answer_at b i)) (cond t (change n (numbers x) (numbers y) ∷ listed (suc n) a b) (listed (suc n) a b))
    go true later = inr later
    go false later = later

abbrev From : ℕ → List Answer → List Answer → Change → Type 0
From n a b c = (i : ℕ) × (i < length a) × (answer_at a i ≢ answer_at b i) × (change (n + i) (answer_at a i) (answer_at b i) ≡ c)

later_from : (n : ℕ) (x y : Answer) (a b : List Answer) (c : Change) → From (suc n) a b c → From n (x ∷ a) (y ∷ b) c
later_from n x y a b c f = (suc f.0, omega (arith, f.1), f.2, (let z : n + suc f.0 ≡ suc n + f.0 = omega arith in ap (λ (m : ℕ). change m (answer_at a f.0) (answer_at b f.0)) z) ∙ f.3)

only_listed : (n : ℕ) (a b : List Answer) (c : Change) → Has c (listed n a b) → From n a b c
unfolding changes
only_listed n [] b c h = absurd h
only_listed n (x ∷ a) [] c h = absurd h
only_listed n (x ∷ a) (y ∷ b) c h = go (differ (numbers x) (numbers y)) refl (only_listed (suc n) a b c) h
  where
    go : (t : Bool) → differ (numbers x) (numbers y) ≡ t → (Has c (listed (suc n) a b) → From (suc n) a b c) → Has c (cond t (change n (numbers x) (numbers y) ∷ listed (suc n) a b) (listed (suc n) a b)) → From n (x ∷ a) (y ∷ b) c
    go true q f (inl e) = (0, omega arith, differ_not (numbers x) (numbers y) q, (let z : n + 0 ≡ n = omega arith in ap (λ (m : ℕ). change m (numbers x) (numbers y)) z) ∙ e)
    go true q f (inr k) = later_from n x y a b c (f k)
    go false q f k = later_from n x y a b c (f k)

rising_from : (m n : ℕ) (l : List Change) → m ≤ n → Rising n l → Rising m l
rising_from m n [] h r = tt
rising_from m n (c ∷ l) h r = (omega (arith, h, r.0), r.1)

rising : (n : ℕ) (a b : List Answer) → Rising n (listed n a b)
unfolding changes
rising n [] b = tt
rising n (x ∷ a) [] = tt
rising n (x ∷ a) (y ∷ b) = go (differ (numbers x) (numbers y)) (rising (suc n) a b)
  where
    go : (t : Bool) → Rising (suc n) (listed (suc n) a b) → Rising n (cond t (change n (numbers x) (numbers y) ∷ listed (suc n) a b) (listed (suc n) a b))
    go true r = (omega arith, r)
    go false r = rising_from n (suc n) (listed (suc n) a b) (omega arith) r

pub exactly : (a b : List Answer) → length a ≡ length b → Exactly a b (listed 1 a b)
exactly a b e = record { all = λ i h ne. all_listed 1 a b e i h ne; only = λ c h. only_listed 1 a b c h; order = rising 1 a b }

-- ---- of an input

answers_length : (v : View) (l : List Event) → length (answers v l) ≡ length l
unfolding answers
answers_length v [] = refl
answers_length v (e ∷ l) = ap suc (answers_length (event v e).next l)

module _ (s : List ℕ) (c : Compared) (end : ℕ) (e : compared s ≡ got c end) where
  -- an input that is accepted has the text of these changes, and they are exactly those that there are
  pub text_of_changes : difference_of s ≡ changes_text (changes_of c)
  unfolding difference_of difference_by compared_text
  text_of_changes = rw e

  pub changes_exactly : Exactly (first_run c) (second_run c) (changes_of c)
  changes_exactly = exactly _ _ (answers_length (fresh c.first) (events_of c.words) ∙ sym (answers_length (fresh c.second) (events_of c.words)))

  -- equal setups
  none_of_itself : (n : ℕ) (k : List (List ℤ)) → changes n k k ≡ []
  unfolding changes
  none_of_itself n [] = refl
  none_of_itself n (x ∷ k) = rw (never_itself x) (none_of_itself (suc n) k)

  zero_line : changes_text [] ≡ ascii "0\n"
  unfolding changes_text
  zero_line = refl

  pub equal_setups : c.second ≡ c.first → difference_of s ≡ ascii "0\n"
  equal_setups q = text_of_changes ∙ rw q (ap changes_text (none_of_itself 1 (map numbers (first_run c)))) ∙ zero_line
