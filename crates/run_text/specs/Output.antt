-- What a lent output holds after a text was written, and what each function of src/lib.rt writes.
use Rattle.std.specs.Prelude.{List, [], ◌∷◌, ◌++◌, ◌≡◌, ℕ, suc, ◌+◌, length, drop, set}

-- a text at the front and all behind it as it was
abbrev pub over : List ℕ → List ℕ → List ℕ
over text old = text ++ drop (length text) old

-- ---- from a place on

-- entries from place i on; those behind the end are lost
unfoldable pub laid : {A : Type 0} → List A → ℕ → List A → List A
laid [] i t = t
laid (b ∷ l) i t = laid l (suc i) (set t i b)

-- the output before and after, and the place behind what was written
pub record Wrote (new : List ℕ) (i : ℕ) (old t : List ℕ) (j : ℕ) : Type 0 where
  pub holds : t ≡ laid new i old
  pub next : j ≡ i + length new
