-- The returns of the check: a test that fails decides, a test that passes leaves the rest. Assumes nothing.
use Prim.Native.Nat.{ℕ, ◌≤◌}
use mathlib.Core.Path.{◌≡◌, refl, sym, ◌∙◌}
use mathlib.Core.Bool.{Bool, true, false, not, ◌&&◌, ◌||◌, and-false, true≢false}
use mathlib.Core.List.{List}
use native.Mathlib.Decide.{ℕ_discrete, dec_le}
use native.Mathlib.Omega.{arith}
use lib.Dec.{eqb, leb}
use borrow.Author.Tests.{not-true, not-false, lt-leb, ne_eqb}
use Rattle.memory_columns.specs.Layout as Layout
use Rattle.memory_columns.specs.Layout.{max_tasks, max_objects, max_messages, max_pools, max_blocks, entry}
use Rattle.check_ranges.specs.Ranges.{every, many, sizes_ok, pool_ok, semaphore_ok, flag_ok, object_ok, kept_ok, ranges_ok}

pub failed : {r t : Bool} → r ≡ t → not r ≡ true → t ≡ false
failed {r} e h = sym e ∙ not-true r h

pub passed : {r t : Bool} → r ≡ t → not r ≡ false → t ≡ true
passed {r} e h = sym e ∙ not-false r h

-- ---- alarms

-- the codes kept, of both ways, of a start and of a wake
pub kept_codes : (w : Bool) (c : ℕ) → (((eqb c 0 || eqb c 2100) || (not w && eqb c 3)) || (w && (eqb c 2101 || eqb c 2889))) ≡ kept_ok w c
unfolding kept_ok
kept_codes w c = elim (ℕ_discrete c 0) [
  | yes e ↦ rw e
  | no a ↦ elim (ℕ_discrete c 3) [
    | yes e ↦ rw e (of_start w)
    | no b ↦ elim (ℕ_discrete c 2100) [
      | yes e ↦ rw e
      | no d ↦ elim (ℕ_discrete c 2101) [
        | yes e ↦ rw e (of_wake w)
        | no f ↦ elim (ℕ_discrete c 2889) [
          | yes e ↦ rw e (of_wake w)
          | no g ↦ rw (ne_eqb c 0 a, ne_eqb c 3 b, ne_eqb c 2100 d, ne_eqb c 2101 f, ne_eqb c 2889 g) (of_none w)
        ]
      ]
    ]
  ]
]
  where
    of_start : (w : Bool) → ((not w && true) || (w && false)) ≡ not w
    of_start true = refl
    of_start false = refl

    of_wake : (w : Bool) → ((not w && false) || (w && true)) ≡ w
    of_wake true = refl
    of_wake false = refl

    of_none : (w : Bool) → ((not w && false) || (w && false)) ≡ false
    of_none true = refl
    of_none false = refl

-- ---- sizes

module _ (b : List ℕ) where
  -- a test that the sizes would fail has passed
  fact : (k m : ℕ) → (leb (many b k) m ≡ false → sizes_ok b ≡ false) → sizes_ok b ≡ true → many b k ≤ m
  fact k m f e = elim (dec_le (many b k) m) [
    | yes h ↦ h
    | no h ↦ absurd (true≢false (sym e ∙ f (lt-leb (many b k) m (omega arith))))
  ]

  pub record Few : Type 0 where
    pub tasks : many b Layout.tasks ≤ max_tasks
    pub semaphores : many b Layout.semaphores ≤ max_objects
    pub flags : many b Layout.flags ≤ max_objects
    pub messages : many b Layout.messages ≤ max_messages
    pub pools : many b Layout.pools ≤ max_pools

  pub few : sizes_ok b ≡ true → Few
  unfolding sizes_ok
  few e = record {
    tasks = fact Layout.tasks max_tasks (λ z. simp (z, and-false)) e;
    semaphores = fact Layout.semaphores max_objects (λ z. simp (z, and-false)) e;
    flags = fact Layout.flags max_objects (λ z. simp (z, and-false)) e;
    messages = fact Layout.messages max_messages (λ z. simp (z, and-false)) e;
    pools = fact Layout.pools max_pools (λ z. simp (z, and-false)) e;
  }

  pub few_tasks : sizes_ok b ≡ true → many b Layout.tasks ≤ max_messages
  few_tasks e = let f = (few e).tasks in omega arith

  pub few_semaphores : sizes_ok b ≡ true → many b Layout.semaphores ≤ max_messages
  few_semaphores e = let f = (few e).semaphores in omega arith

  pub few_flags : sizes_ok b ≡ true → many b Layout.flags ≤ max_messages
  few_flags e = let f = (few e).flags in omega arith

  pub few_pools : sizes_ok b ≡ true → many b Layout.pools ≤ max_messages
  few_pools e = let f = (few e).pools in omega arith

  pub few_messages : sizes_ok b ≡ true → many b Layout.messages ≤ max_messages
  few_messages e = (few e).messages

  pub few_ranges : (msgs : List ℕ) → ranges_ok b msgs ≡ true → Few
  unfolding ranges_ok
  few_ranges msgs e = go (sizes_ok b) refl
    where
      go : (t : Bool) → sizes_ok b ≡ t → Few
      go true h = few h
      go false h = absurd (true≢false (sym e ∙ simp h))

-- ---- objects

module _ (b : List ℕ) (n : ℕ) where
  pub semaphores_all : every n 1 (object_ok b Layout.semaphores) ≡ every n 1 (semaphore_ok b)
  unfolding object_ok
  semaphores_all = refl

  pub flags_all : every n 1 (object_ok b Layout.flags) ≡ every n 1 (flag_ok b)
  unfolding object_ok
  flags_all = refl

  pub pools_all : every n 1 (object_ok b Layout.pools) ≡ every n 1 (pool_ok b)
  unfolding object_ok
  pools_all = refl

-- once the sizes are judged a loop runs over each count, and the loops over objects are those of the rules
pub ruleset counts = (few_tasks, few_semaphores, few_flags, few_pools, few_messages, semaphores_all, flags_all, pools_all)
