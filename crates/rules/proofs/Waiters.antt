-- What a sound state says where a call does its act: of words, of who waits and what would serve him, of wake-ups and patterns.
use mathlib.Core.Bool.{Bool, true, false, cond, not, false≢true}
use mathlib.Core.List.{List, [], ◌∷◌}
use mathlib.Core.Logic.{◌⊎◌, inl, inr, ◌≢◌}
use mathlib.Core.Option.{Option, none}
use mathlib.Core.Path.{◌≡◌, refl, sym, ap, ◌∙◌, subst}
use Prim.Native.Nat.{ℕ, zero, suc, ◌*◌, ◌+◌, ◌/◌, ◌%◌, ◌^◌, ◌≤◌, ◌<◌, min}
use native.Mathlib.Nat.{le_refl}
use native.Mathlib.Omega.{arith}
use lib.Arith.{half_le}
use lib.Bits.{bit_and, and_step, and_shr, and_mod, and_le_l, and_le_r}
use lib.Dec.{eqb, leb, lit<}
use lib.IntN.{ℤ, pos, negsuc}
use lib.ListN.{length}
use borrow.Author.Tests.{eqb-true, eqb-false, eq-eqb, ne_eqb, leb-false, not-false}
use Rattle.rules.specs.Ids.{of, In}
use Rattle.rules.specs.State.{Kind, Task, alarm_count, Body, task, nobody, wait_of, is_dormant, is_absent, sleeps}
use Rattle.rules.specs.Places.{awaits, lies}
use Rattle.rules.specs.Events.{Word, nat, bits, above}
use Rattle.rules.specs.Objects.{met, left, free}
use Rattle.rules.specs.Sound.{WishNumbers, WaitNumbers, any_lies, would_serve, Unserved, AllUnserved, SoundBody}
use Rattle.rules.proofs.Ids.{inside, tested}
use Rattle.rules.proofs.Keeps.{NoneAt, Asks, asks_waits}
use Rattle.rules.proofs.Waits.{waits_asks}

-- ---- words

pub at_most_lem : (m : ℤ) (n : ℕ) → above m n ≡ false → nat m ≤ n
at_most_lem (pos k) n e = omega (arith, leb-false (suc n) k e)
at_most_lem (negsuc k) n e = omega arith

pub nat_small : (a : ℤ) → Word a → nat a < 2 ^ 32
nat_small (pos n) h = omega arith
nat_small (negsuc n) h = lit< tt

pub bits_small : (a : ℤ) → Word a → bits a < 2 ^ 32
bits_small (pos n) h = omega arith
bits_small (negsuc n) h = omega arith

-- ---- what a sound state says

module _ (b : Body) (h : SoundBody b) (z : AllUnserved b) where
  -- whoever asks something of an object does so in order, and is not served
  pub asks_well : (i : ℕ) (k : Kind) (o p m : ℕ) → Asks b i k o p m → WishNumbers k p m × (would_serve b.store k o p m ≡ false)
  asks_well i k o p m e = ((subst (WaitNumbers b.store) e (h.tasks i there).wait).1, subst (Unserved b.store) e (z i there))
    where
      there : In i (length b.tasks)
      there = tested (λ t. awaits t.state k o) b.tasks i nobody refl (asks_waits (wait_of (task b i).state) k o p m e)

  -- where a waiter would be served, there is none
  pub none_by : (k : Kind) (o : ℕ) → ((p m : ℕ) → would_serve b.store k o p m ≡ false → ⊥) → NoneAt b k o
  none_by k o f i = go (awaits (task b i).state k o) refl
    where
      go : (t : Bool) → awaits (task b i).state k o ≡ t → t ≡ false
      go true e =
          let w = waits_asks (wait_of (task b i).state) k o e in
          absurd (f w.0 w.1 (asks_well i k o w.0 w.1 w.2).1)
      go false e = refl

module _ (b : Body) (h : SoundBody b) where
  pub wakeups_few : (i : ℕ) → (task b i).wakeups ≤ 15
  wakeups_few i = elim (inside b.tasks i nobody) [ inl r ↦ (h.tasks i r).wakeups | inr e ↦ rw e (omega arith) ]

  -- with a wake-up stored, a task neither sleeps nor is dormant
  pub stored_awake : (i k : ℕ) → (task b i).wakeups ≡ suc k → (is_dormant (task b i).state ≡ true → ⊥) × (sleeps (wait_of (task b i).state) ≡ true → ⊥) × (is_absent (task b i).state ≡ true → ⊥)
  stored_awake i k e = go (inside b.tasks i nobody)
    where
      go : In i (length b.tasks) ⊎ (task b i ≡ nobody) → (is_dormant (task b i).state ≡ true → ⊥) × (sleeps (wait_of (task b i).state) ≡ true → ⊥) × (is_absent (task b i).state ≡ true → ⊥)
      go (inl r) = (λ d. omega (arith, (h.tasks i r).dormant d), λ s. omega (arith, (h.tasks i r).sleeper s), λ x. omega (arith, ((h.tasks i r).absent x).2))
      go (inr z) = let d : 0 ≡ suc k = ap (λ (t : Task). t.wakeups) (sym z) ∙ e in absurd (omega arith)

-- ---- pools and mailboxes

pub none_free : (l : List Bool) → ((k : ℕ) → of l k false ≡ false) → free l ≡ 0
none_free [] f = refl
none_free (true ∷ l) f = absurd (false≢true (sym (f 1)))
none_free (false ∷ l) f = none_free l later
  where
    later : (k : ℕ) → of l k false ≡ false
    later zero = refl
    later (suc k) = f (suc (suc k))

pub nowhere_lies : (l : List (Option ℕ)) (m : ℕ) → ((j : ℕ) → lies (of l j none) m ≡ false) → any_lies l m ≡ false
nowhere_lies [] m f = refl
nowhere_lies (x ∷ l) m f = rw (f 1) (nowhere_lies l m (later f))
  where
    later : ((j : ℕ) → lies (of (x ∷ l) j none) m ≡ false) → (j : ℕ) → lies (of l j none) m ≡ false
    later f zero = refl
    later f (suc j) = f (suc (suc j))

-- ---- patterns

digit_less : (A B a d x y z : ℕ) → A ≡ a * 2 + min x z → B ≡ d * 2 + min y z → a ≤ d → x ≤ y → A ≤ B
digit_less A B a d x y z p q h k = omega arith

and_less : (n h c p : ℕ) → h ≤ n → bit_and (bit_and h c) p ≤ bit_and h p
and_less zero h c p l = let e : h ≡ 0 = omega arith in rw e (omega arith)
and_less (suc n) h c p l =
    digit_less _ _ (bit_and (bit_and h c / 2) (p / 2)) (bit_and (h / 2) (p / 2)) (bit_and h c % 2) (h % 2) (p % 2) (and_step (bit_and h c) p) (and_step h p)
    (rw (and_shr h c 1) (and_less n (h / 2) (c / 2) (p / 2) (half_le l))) (rw (and_mod h c 1) (and_le_l (h % 2) (c % 2)))

-- a pattern with fewer bits meets less
pub met_less : (h c p m : ℕ) → met h p m ≡ false → met (bit_and h c) p m ≡ false
met_less h c p m e = go (eqb (m % 2) 1) e
  where
    le : bit_and (bit_and h c) p ≤ bit_and h p
    le = and_less h h c p (le_refl h)

    zero_below : {x y : ℕ} → y ≡ 0 → x ≤ y → x ≡ 0
    zero_below d l = omega arith

    squeeze : {x y z : ℕ} → x ≡ z → x ≤ y → y ≤ z → y ≡ z
    squeeze d l r = omega arith

    go : (t : Bool) → cond t (not (eqb (bit_and h p) 0)) (eqb (bit_and h p) p) ≡ false → cond t (not (eqb (bit_and (bit_and h c) p) 0)) (eqb (bit_and (bit_and h c) p) p) ≡ false
    go true e = ap not (eq-eqb (bit_and (bit_and h c) p) 0 (zero_below (eqb-true (bit_and h p) 0 (not-false (eqb (bit_and h p) 0) e)) le))
    go false e = ne_eqb (bit_and (bit_and h c) p) p (λ d. eqb-false (bit_and h p) p e (squeeze d le (and_le_r h p)))

-- nobody who asks for something is met by an empty pattern
pub met_zero : (p m : ℕ) → p ≢ 0 → met 0 p m ≡ false
met_zero p m z = go (eqb (m % 2) 1)
  where
    go : (t : Bool) → cond t (not (eqb 0 0)) (eqb 0 p) ≡ false
    go true = refl
    go false = ne_eqb 0 p (λ e. z (sym e))

pub left_unmet : (h p m k : ℕ) → p ≢ 0 → met h p m ≡ false → met (left h k) p m ≡ false
left_unmet h p m k z e = go (leb 2 k)
  where
    go : (t : Bool) → met (cond t 0 h) p m ≡ false
    go true = met_zero p m z
    go false = e

pub left_small : (h k : ℕ) → h < 2 ^ 32 → left h k < 2 ^ 32
left_small h k r = go (leb 2 k)
  where
    go : (t : Bool) → cond t 0 h < 2 ^ 32
    go true = lit< tt
    go false = r

-- ---- alarms

-- where an alarm is there is a counter
pub counted : (m n k : ℕ) → n ≡ alarm_count m → In k n → 0 < m
counted zero n k e i = absurd (omega (arith, e, i.0, i.1))
counted (suc m) n k e i = omega arith
