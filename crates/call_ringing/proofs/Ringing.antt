-- The alarms one after the other: after each the memory is accepted again, and what is left to ring is the same. Assumes nothing.
use mathlib.Core.Bool.{Bool, true, false, cond}
use mathlib.Core.List.{List, [], ◌∷◌, ◌++◌}
use mathlib.Core.Path.{◌≡◌, refl, sym, ap, ◌∙◌, subst}
use Prim.Native.Nat.{ℕ, zero, suc, ◌+◌, ◌≤◌}
use native.Mathlib.Numerals.{add-one}
use native.Mathlib.Omega.{arith}
use lib.ListN.{length}
use Rattle.rules.specs.State.{alarm_of, Body}
use Rattle.rules.specs.Acts.{Act, afters}
use Rattle.rules.specs.Releases.{releases}
use Rattle.rules.specs.Alarms.{fires, firing, rings}
use Rattle.rules.proofs.Sizes.{sizes_afters}
use Rattle.rules.proofs.Calls.{rings_steps}
use Rattle.memory_columns.specs.Layout.{max_alarms}
use Rattle.memory_picture.specs.Picture.{view_shown, Accepted}
use Rattle.call_words.specs.Doing.{performs}
use Rattle.call_words.specs.Naming.{NamesAlarm}
use Rattle.call_words.proofs.Performing.{performs_append, releases_append, words_law}
use Rattle.call_words.proofs.TickActs.{rings_names, rings_marks}
use Rattle.call_ringing.specs.Ringing.{Performs, PerformsOnWords, HasCounter}

-- one alarm, then the others
rings_on : (n k : ℕ) (b : Body) → rings b (suc n) k ≡ rings b 1 k ++ rings (afters (rings b 1 k) b) n (suc k)
unfolding rings afters
rings_on n k b = go (fires b.counter (alarm_of b.counter k).setting)
  where
    l : List Act
    l = firing b k (alarm_of b.counter k)

    nil : (l : List Act) → l ≡ l ++ []
    nil [] = refl
    nil (a ∷ l) = ap (λ (r : List Act). a ∷ r) (nil l)

    go : (t : Bool) → cond t (l ++ rings (afters l b) n (suc k)) (rings b n (suc k)) ≡ cond t (l ++ []) [] ++ rings (afters (cond t (l ++ []) []) b) n (suc k)
    go true = ap (λ (r : List Act). r ++ rings (afters r b) n (suc k)) (nil l)
    go false = refl

-- after them the memory is accepted again
module _ (n k : ℕ) (b m : List ℕ) (A : Accepted b m) where
  abbrev B : Body
  B = (view_shown b m).body

  law : Accepted (performs (rings B n k) b) m × ((view_shown (performs (rings B n k) b) m).body ≡ afters (rings B n k) B)
  law = words_law (rings B n k) b m A (rings_steps n k B A.sound.body) (rings_names n k B) (rings_marks n k B m)

  rings_counter : HasCounter (view_shown b m) → HasCounter (view_shown (performs (rings B n k) b) m)
  rings_counter h = ap (λ (c : Body). length c.counter.alarms) law.1 ∙ (sizes_afters (rings B n k) B).alarms ∙ h

-- ---- the loop

-- where `count` tasks were released before, the words b and n alarms from k on end as all alarms from the words b₀ do
pub record Left (b₀ : List ℕ) (count n k : ℕ) (b m : List ℕ) : Type 0 where
  pub accepted : Accepted b m
  pub counter : HasCounter (view_shown b m)
  pub words : performs (rings (view_shown b m).body n k) b ≡ performs (rings (view_shown b₀ m).body max_alarms 1) b₀
  pub released : count + releases (rings (view_shown b m).body n k) ≡ releases (rings (view_shown b₀ m).body max_alarms 1)

abbrev pub AllLeft : List ℕ → ℕ → ℕ → ℕ → List ℕ → Type 0
AllLeft b₀ count n k b = (m : List ℕ) → Accepted b₀ m → HasCounter (view_shown b₀ m) → Left b₀ count n k b m

pub ring_starts : (b : List ℕ) → AllLeft b 0 max_alarms 1 b
ring_starts b m A h = record { accepted = A; counter = h; words = refl; released = omega arith }

module _ (b₀ : List ℕ) (count k : ℕ) (b : List ℕ) where
  pub ring_ends : (n : ℕ) → n ≤ 0 → AllLeft b₀ count n k b → PerformsOnWords HasCounter (λ v. rings v.body max_alarms 1) count b₀ b
  unfolding rings performs
  ring_ends zero h L m A c = record { words = (L m A c).words; released = omega (arith, (L m A c).released) }
  ring_ends (suc n) h L m A c = absurd (omega arith)

  pub ring_step : (j : ℕ) {n r : ℕ} {b₁ : List ℕ} → j ≡ suc n → k + j ≡ 9 → 1 ≤ k → PerformsOnWords (NamesAlarm k) (λ v. rings v.body 1 k) r b b₁ → AllLeft b₀ count j k b
      → AllLeft b₀ (count + r) n (k + 1) b₁
  ring_step j {n} {r} {b₁} h e l F L m A c = rw add-one (subst (λ (x : List ℕ). Left b₀ (count + r) n (suc k) x m) (sym D.words) next)
    where
      G : Left b₀ count (suc n) k b m
      G = rw h at (L m A c)

      W : Body
      W = (view_shown b m).body

      D : Performs (rings W 1 k) r b b₁
      D = F m G.accepted (l, omega (arith, G.counter, e, h))

      rest : List Act
      rest = rings (afters (rings W 1 k) W) n (suc k)

      same : rings (view_shown (performs (rings W 1 k) b) m).body n (suc k) ≡ rest
      same = ap (λ (x : Body). rings x n (suc k)) (law 1 k b m G.accepted).1

      next : Left b₀ (count + r) n (suc k) (performs (rings W 1 k) b) m
      next = record {
        accepted = (law 1 k b m G.accepted).0;
        counter = rings_counter 1 k b m G.accepted G.counter;
        words = ap (λ (x : List Act). performs x (performs (rings W 1 k) b)) same ∙ sym (performs_append (rings W 1 k) rest b) ∙ ap (λ (x : List Act). performs x b) (sym (rings_on n k W)) ∙ G.words;
        released =
            ap (λ (x : List Act). (count + r) + releases x) same
            ∙ omega (arith, D.released, releases_append (rings W 1 k) rest, ap releases (rings_on n k W), G.released);
      }
