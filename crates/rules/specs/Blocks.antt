-- The blocks' accounts: grants and returns, read from events, answers and the states before and after.
use Rattle.std.specs.Prelude.{Bool, true, false, ◌&&◌, ◌||◌, List, [], ◌∷◌, ◌↔◌, ◌≡◌, ℕ, suc, ◌+◌, eqb, ℤ, pos, negsuc, length}
use Rattle.rules.specs.Ids.{of, In, once}
use Rattle.rules.specs.Codes.{Code, number}
use Rattle.rules.specs.State.{pool, Task, Body, is_freed}
use Rattle.rules.specs.Places.{awaits}
use Rattle.rules.specs.Events.{Event, tick, enter, exit, call, nat}

-- block k of pool p is free; out means not free
abbrev pub is_free : Body → ℕ → ℕ → Bool
is_free b p k = of (of b.store.pools p []) k true

-- an event of a run: the code and the first word that were answered, and the states before and after
pub record Happened : Type 0 where
  pub event : Event
  pub code : ℤ
  pub w1 : ℕ
  pub before : Body
  pub after : Body

-- the number of a call, or of a code
abbrev pub is : ℤ → ℕ → Bool
is (pos n) k = eqb n k
is (negsuc n) k = false

-- the code is 0
unfoldable pub ok : Code → Bool
unfolding number
ok c = is (number c) 0

-- Code 0 of get_blk or pget_blk, the block in w1.
abbrev pub taken : Event → ℤ → ℕ → ℕ → ℕ → Bool
taken tick code w1 p k = false
taken enter code w1 p k = false
taken exit code w1 p k = false
taken (call x n a b c) code w1 p k = (is n 23 || is n 24) && (is code 0 && (eqb (nat a) p && eqb w1 k))

-- A pool waiter's cell of code 0 at release, the block its word: a task that waits on the pool before the event, is READY, RUN or
-- SUSPEND after it, and whose cell then reads 0 and the block.
abbrev pub handed : ℕ → ℕ → Task → Task → Bool
handed p k t u = awaits t.state pool p && (is_freed u.state && (ok u.cell.code && eqb u.cell.word k))

unfoldable pub handed_count : ℕ → ℕ → List Task → List Task → ℕ
handed_count p k [] l = 0
handed_count p k (t ∷ ts) [] = 0
handed_count p k (t ∷ ts) (u ∷ us) = once (handed p k t u) + handed_count p k ts us

-- A return is code 0 of rel_blk naming it.
abbrev pub returned : Event → ℤ → ℕ → ℕ → Bool
returned tick code p k = false
returned enter code p k = false
returned exit code p k = false
returned (call x n a b c) code p k = is n 25 && (is code 0 && (eqb (nat a) p && eqb (nat b) k))

-- at one event
unfoldable pub granted : Happened → ℕ → ℕ → ℕ
granted h p k = once (taken h.event h.code h.w1 p k) + handed_count p k h.before.tasks h.after.tasks

unfoldable pub gave_back : Happened → ℕ → ℕ → ℕ
gave_back h p k = once (returned h.event h.code p k)

-- in a run so far
unfoldable pub grants : List Happened → ℕ → ℕ → ℕ
grants [] p k = 0
grants (h ∷ l) p k = granted h p k + grants l p k

unfoldable pub returns : List Happened → ℕ → ℕ → ℕ
returns [] p k = 0
returns (h ∷ l) p k = gave_back h p k + returns l p k

-- A block is out exactly when its grants exceed its returns by one, and free exactly when the two are equal.
pub record Accounted (l : List Happened) (b : Body) (p k : ℕ) : Type 0 where
  pub out : (is_free b p k ≡ false) ↔ (grants l p k ≡ suc (returns l p k))
  pub free : (is_free b p k ≡ true) ↔ (grants l p k ≡ returns l p k)

-- every block of every pool
abbrev pub AllAccounted : List Happened → Body → Type 0
AllAccounted l b = (p : ℕ) → In p (length b.store.pools) → (k : ℕ) → In k (length (of b.store.pools p [])) → Accounted l b p k
