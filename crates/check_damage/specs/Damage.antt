-- The naming of damage, for any words: the rules in order, each over its ids.
use Rattle.std.specs.Prelude.{Bool, true, false, cond, List, ◌≡◌, ℕ, zero, suc, ◌≤◌, ◌<◌, ℤ, Result, Ok, Err}
use Rattle.rules.specs.Ids.{In}
use Rattle.rules.specs.Codes.{number, H-NUMBER, H-QUEUE, H-SERVED, H-TWICE, H-FREE}
use Rattle.memory_columns.specs.Layout as Layout
use Rattle.check_queues.specs.Queues.{home}
use Rattle.check_state.specs.Unserved.{unserved_ok}
use Rattle.check_lines.specs.Lines.{few, placed, message_once, pool_listed}
use Rattle.check_damage.specs.declared.Breach.{Breach}

-- what is told
pub record Told : Type 0 where
  pub code : ℤ
  pub id : ℕ

abbrev pub told : ℤ → ℕ → Told
told c i = record { code = c; id = i }

-- the ids from i on, so many; behind them `later`
unfoldable pub ids_from : (ℕ → Bool) → ℤ → ℕ → ℕ → Told → Told
ids_from f c i zero later = later
ids_from f c i (suc left) later = cond (f i) (ids_from f c (suc i) left later) (told c i)

-- rule after rule, each over all its ids before the next; behind them what no rule names
unfoldable pub first_broken : List ℕ → Told
first_broken b =
    ids_from (λ i. placed b (home b i) i) (number H-QUEUE) 1 (few b Layout.tasks)
    (ids_from (unserved_ok b) (number H-SERVED) 1 (few b Layout.tasks)
    (ids_from (message_once b) (number H-TWICE) 1 (few b Layout.messages)
    (ids_from (pool_listed b) (number H-FREE) 1 (few b Layout.pools)
    (told (number H-NUMBER) 0))))

-- ---- what the private functions promise

-- f gives true at each of ids 1 to n
pub record KeptTo (f : ℕ → Bool → Type 0) (n : ℕ) : Type 0 where
  pub each : (i : ℕ) → In i n → f i true

-- x has the code, and the smallest of ids 1 to n at which f gives false
pub record BrokenAt (f : ℕ → Bool → Type 0) (c : ℤ) (n : ℕ) (x : Breach) : Type 0 where
  pub code : x.code ≡ c
  pub there : In x.id n
  pub broken : f x.id false
  pub before : (i : ℕ) → 1 ≤ i → i < x.id → f i true

abbrev pub Keeps : (ℕ → Bool → Type 0) → ℤ → ℕ → Result (Unit {0}) Breach → Type 0
Keeps f c n (Ok u) = KeptTo f n
Keeps f c n (Err x) = BrokenAt f c n x

-- where no rule that names an id is broken, a number is
abbrev pub told_by : Result (Unit {0}) Breach → Told
told_by (Ok u) = told (number H-NUMBER) 0
told_by (Err x) = told x.code x.id
