-- One event raises each row of a task that there is by one, and the codes by one. Assumes nothing.
use mathlib.Core.Bool.{Bool, true, false, cond}
use mathlib.Core.List.{List, [], ◌∷◌}
use mathlib.Core.Path.{◌≡◌, refl, ap, ◌∙◌}
use Prim.Native.Nat.{ℕ, zero, suc, ◌+◌, ◌-◌, ◌^◌, ◌≤◌, ◌<◌, min}
use native.Mathlib.Omega.{arith}
use lib.Dec.{ltb}
use lib.ListN.{length, get_or, set, length-set}
use borrow.Author.Tests.{lt-ltb, ltb-true, ltb-false}
use Rattle.rules.specs.Ids.{once}
use Rattle.rules.specs.Codes.{Code, number}
use Rattle.rules.specs.Codes as Codes
use Rattle.rules.specs.State.{State, dormant, ready, suspended, absent, waiting, waiting_suspended}
use Rattle.rules.specs.Tasks.{state_number}
use Rattle.run_tally.specs.Tables.{more, raised, states, table_counted, place_in, place_of}
use Rattle.run_figures.specs.Figures.{most_tasks, Figures, Seen, counted, counted_all}
use Rattle.run_totals.specs.Adding.{sum, row}

-- ---- a row

set_sum : (l : List ℕ) (i : ℕ) → i < length l → sum l < 2 ^ 32 - 1 → sum (set l i (more (get_or l i 0))) ≡ suc (sum l)
unfolding sum
set_sum [] i h b = absurd (omega (arith, h))
set_sum (x ∷ l) zero h b = omega (arith, b)
set_sum (x ∷ l) (suc i) h b = let e = set_sum l i (omega (arith, h)) (omega (arith, b)) in omega (arith, e)

raised_sum : (n : ℕ) (l : List ℕ) (i : ℕ) → i < n → length l ≡ n → sum l < 2 ^ 32 - 1 → sum (raised n l i) ≡ suc (sum l)
unfolding raised
raised_sum n l i h e b = rw (lt-ltb i n h) (set_sum l i (omega (arith, h, e)) b)

raised_length : (n : ℕ) (l : List ℕ) (i : ℕ) → length (raised n l i) ≡ length l
unfolding raised
raised_length n l i = go (ltb i n)
  where
    go : (t : Bool) → length (cond t (set l i (more (get_or l i 0))) l) ≡ length l
    go true = length-set l i (more (get_or l i 0))
    go false = refl

-- ---- the table

table_length : (n : ℕ) (f : ℕ → ℕ) (t : List (List ℕ)) → length (table_counted n f t) ≡ length t
unfolding table_counted
table_length zero f t = refl
table_length (suc n) f [] = refl
table_length (suc n) f (r ∷ t) = ap suc (table_length n (λ i. f (suc i)) t)

row_in : (n : ℕ) (f : ℕ → ℕ) (t : List (List ℕ)) (i : ℕ) → i < n → i < length t → get_or (table_counted n f t) i [] ≡ raised states (get_or t i []) (f i)
unfolding table_counted
row_in zero f t i h k = absurd (omega (arith, h))
row_in (suc n) f [] i h k = absurd (omega (arith, k))
row_in (suc n) f (r ∷ t) zero h k = refl
row_in (suc n) f (r ∷ t) (suc i) h k = row_in n (λ j. f (suc j)) t i (omega (arith, h)) (omega (arith, k))

row_out : (n : ℕ) (f : ℕ → ℕ) (t : List (List ℕ)) (i : ℕ) → n ≤ i → get_or (table_counted n f t) i [] ≡ get_or t i []
unfolding table_counted
row_out zero f t i h = refl
row_out (suc n) f [] i h = refl
row_out (suc n) f (r ∷ t) zero h = absurd (omega (arith, h))
row_out (suc n) f (r ∷ t) (suc i) h = row_out n (λ j. f (suc j)) t i (omega (arith, h))

-- ---- an event

-- figures of k events at most
pub record Shaped (f : Figures) (k : ℕ) : Type 0 where
  pub rows : length f.table ≡ 32
  pub cells : (i : ℕ) → i < 32 → length (row f i) ≡ 7
  pub few : (i : ℕ) → i < 32 → sum (row f i) ≤ k
  pub codes : length f.codes ≡ 29
  pub few_codes : sum f.codes ≤ k

-- each state has its cell, and the code its place
pub record Proper (x : Seen) : Type 0 where
  pub state : (i : ℕ) → i < min x.tasks 32 → x.state i < 7
  pub code : place_of x.code < 29

module _ (f : Figures) (k : ℕ) (S : Shaped f k) (x : Seen) (P : Proper x) (few : k < 2 ^ 32 - 1) where
  abbrev n : ℕ
  n = min x.tasks 32

  module _ (i : ℕ) (h : i < 32) where
    within : i < length f.table
    within = omega (arith, h, S.rows)

    pub row_length : length (row (counted f x) i) ≡ 7
    row_length = go (ltb i n) refl
      where
        go : (t : Bool) → ltb i n ≡ t → length (row (counted f x) i) ≡ 7
        go true e = ap length (row_in n x.state f.table i (ltb-true i n e) within) ∙ raised_length states (row f i) (x.state i) ∙ S.cells i h
        go false e = ap length (row_out n x.state f.table i (ltb-false i n e)) ∙ S.cells i h

    pub row_sum : sum (row (counted f x) i) ≡ once (ltb i n) + sum (row f i)
    row_sum = go (ltb i n) refl
      where
        go : (t : Bool) → ltb i n ≡ t → sum (row (counted f x) i) ≡ once t + sum (row f i)
        go true e =
            let q = ltb-true i n e in
            let a = raised_sum states (row f i) (x.state i) (P.state i q) (S.cells i h) (omega (arith, S.few i h, few)) in
            ap sum (row_in n x.state f.table i q within) ∙ a ∙ omega arith
        go false e = ap sum (row_out n x.state f.table i (ltb-false i n e)) ∙ omega arith

  pub codes_sum : sum (counted f x).codes ≡ suc (sum f.codes)
  codes_sum = raised_sum 29 f.codes (place_of x.code) P.code S.codes (omega (arith, S.few_codes, few))

  once_few : (t : Bool) → once t ≤ 1
  once_few true = omega arith
  once_few false = omega arith

  pub counted_shaped : Shaped (counted f x) (suc k)
  counted_shaped = record {
    rows = table_length n x.state f.table ∙ S.rows;
    cells = row_length;
    few = λ i h. omega (arith, row_sum i h, S.few i h, once_few (ltb i n));
    codes = raised_length 29 f.codes (place_of x.code) ∙ S.codes;
    few_codes = omega (arith, codes_sum, S.few_codes);
  }

-- ---- many

abbrev pub AllProper : List Seen → Type 0
AllProper [] = Unit {0}
AllProper (x ∷ l) = Proper x × AllProper l

-- how many of them left a state that has task i + 1
unfoldable pub having : ℕ → List Seen → ℕ
having i [] = 0
having i (x ∷ l) = once (ltb i (min x.tasks most_tasks)) + having i l

-- each row adds up to the events that found its task there, the codes to all of them
pub rows_add : (l : List Seen) (f : Figures) (k : ℕ) → Shaped f k → AllProper l → k + length l ≤ 2 ^ 32 - 1 → (i : ℕ) → i < 32 → sum (row (counted_all f l) i) ≡ having i l + sum (row f i)
unfolding counted_all having
rows_add [] f k S P b i h = omega arith
rows_add (x ∷ l) f k S P b i h =
    let c : k < 2 ^ 32 - 1 = omega (arith, b) in
    omega (arith, rows_add l (counted f x) (suc k) (counted_shaped f k S x P.0 c) P.1 (omega (arith, b)) i h, row_sum f k S x P.0 c i h)

pub codes_add : (l : List Seen) (f : Figures) (k : ℕ) → Shaped f k → AllProper l → k + length l ≤ 2 ^ 32 - 1 → sum (counted_all f l).codes ≡ length l + sum f.codes
unfolding counted_all
codes_add [] f k S P b = omega arith
codes_add (x ∷ l) f k S P b =
    let c : k < 2 ^ 32 - 1 = omega (arith, b) in
    omega (arith, codes_add l (counted f x) (suc k) (counted_shaped f k S x P.0 c) P.1 (omega (arith, b)), codes_sum f k S x P.0 c)

pub all_shaped : (l : List Seen) (f : Figures) (k : ℕ) → Shaped f k → AllProper l → k + length l ≤ 2 ^ 32 - 1 → Shaped (counted_all f l) (k + length l)
unfolding counted_all
all_shaped [] f k S P b = let e : k ≡ k + 0 = omega arith in rw e at S
all_shaped (x ∷ l) f k S P b =
    let c : k < 2 ^ 32 - 1 = omega (arith, b) in
    let e : suc k + length l ≡ k + suc (length l) = omega arith in
    rw e at (all_shaped l (counted f x) (suc k) (counted_shaped f k S x P.0 c) P.1 (omega (arith, b)))

-- ---- the rules' states and codes

pub state_proper : (s : State) (r : Bool) → state_number s r < 7
unfolding state_number
state_proper dormant r = omega arith
state_proper ready true = omega arith
state_proper ready false = omega arith
state_proper suspended r = omega arith
state_proper absent r = omega arith
state_proper (waiting w) r = omega arith
state_proper (waiting_suspended w) r = omega arith

-- a code that the rules get has its line here
pub code_proper : (c : Code) → place_of (number c) < 29
unfolding number place_in
code_proper Codes.OK = omega arith
code_proper Codes.WAITS = omega arith
code_proper Codes.H-NUMBER = omega arith
code_proper Codes.H-QUEUE = omega arith
code_proper Codes.H-SERVED = omega arith
code_proper Codes.H-TWICE = omega arith
code_proper Codes.H-FREE = omega arith
code_proper Codes.H-CALL = omega arith
code_proper Codes.H-PAR = omega arith
code_proper Codes.E-NOEXS = omega arith
code_proper Codes.E-TPRI = omega arith
code_proper Codes.E-ILTIME = omega arith
code_proper Codes.E-CTX = omega arith
code_proper Codes.E-SELF = omega arith
code_proper Codes.E-DMT = omega arith
code_proper Codes.H-NODMT = omega arith
code_proper Codes.H-SUS = omega arith
code_proper Codes.E-NOSUS = omega arith
code_proper Codes.E-NOWAI = omega arith
code_proper Codes.E-QOVR = omega arith
code_proper Codes.H-POLL = omega arith
code_proper Codes.H-MSG = omega arith
code_proper Codes.H-NEST = omega arith
code_proper Codes.H-EXIST = omega arith
code_proper Codes.H-ILBLK = omega arith
code_proper Codes.H-USED = omega arith
code_proper Codes.H-IDLE = omega arith
code_proper Codes.E-TMOUT = omega arith
code_proper Codes.E-RLWAI = omega arith
