-- The walk of set_flg ends at the first waiter released with clearing. The rules go through the whole queue (`serve_flag`); on a sound
-- state the shorter walk does the same (proofs/FlagWalk.antt), and the code takes it. It looks at as many waiters as w1 says
-- (proofs/Looks.antt).
use Rattle.std.specs.Prelude.{true, false, cond, List, [], ◌∷◌, ◌++◌, ◌≡◌, ℕ, suc, length}
use Rattle.rules.specs.Ids.{place}
use Rattle.rules.specs.Codes.{Code, OK}
use Rattle.rules.specs.State.{Body}
use Rattle.rules.specs.Acts.{Act, release, pattern}
use Rattle.rules.specs.Objects.{meets, asks_clear, cleared_by}

-- Goes through the waiters in order as `serve_flag` does, but ends with the first release that clears: the pattern is then 0, and nobody
-- waits for an empty one.
abbrev pub serve_until_clear : Body → ℕ → ℕ → List ℕ → List Act
serve_until_clear b f have [] = pattern f have ∷ []
serve_until_clear b f have (x ∷ l) =
    cond (meets b have x)
    (release x OK have ∷ cond (asks_clear b x) (pattern f 0 ∷ []) (serve_until_clear b f have l))
    (serve_until_clear b f have l)

-- how many waiters it looks at: each up to the first that is released with clearing, and that one
abbrev pub looked_at : Body → ℕ → List ℕ → ℕ
looked_at b have [] = 0
looked_at b have (x ∷ l) = suc (cond (cleared_by b have x) 0 (looked_at b have l))

-- Of the acts of set_flg on flag f: behind the release of a waiter that asked for clearing nobody is released, the pattern 0 is written and
-- that is all.
abbrev pub EndsAtClear : Body → ℕ → List Act → Type 0
EndsAtClear b f l = (before after : List Act) (i : ℕ) (c : Code) (w : ℕ)
    → l ≡ before ++ release i c w ∷ after → asks_clear b i ≡ true → after ≡ pattern f 0 ∷ []

-- the acts release task i
abbrev pub Releasing : List Act → ℕ → Type 0
Releasing l i = (before : List Act) × (after : List Act) × (c : Code) × (w : ℕ) × (l ≡ before ++ release i c w ∷ after)

-- What w1 = n of set_flg says by its acts l, where q is the queue before the call: the place of the waiter released with clearing (there is
-- no second), or the whole length if there is none.
pub record Looks (b : Body) (q : List ℕ) (l : List Act) (n : ℕ) : Type 0 where
  pub clearing : (i : ℕ) → Releasing l i → asks_clear b i ≡ true → n ≡ place i q
  pub none : ((i : ℕ) → Releasing l i → asks_clear b i ≡ false) → n ≡ length q
