-- A verdict: code, words, and the acts that the event is made of. Rules are put together from the few forms below.
use Rattle.std.specs.Prelude.{Bool, true, false, List, [], ◌∷◌, ℕ, zero, suc}
use Rattle.rules.specs.Codes.{Code, OK, WAITS}
use Rattle.rules.specs.State.{Wait}
use Rattle.rules.specs.Acts.{Act, wait}

pub record Verdict : Type 0 where
  pub code : Code
  pub w1 : ℕ
  pub w2 : ℕ
  pub acts : List Act

-- A negative code has w1 = w2 = 0 and changes nothing.
abbrev pub refuse : Code → Verdict
refuse c = record { code = c; w1 = 0; w2 = 0; acts = [] }

-- code 0 with words
abbrev pub gives : ℕ → ℕ → List Act → Verdict
gives x y l = record { code = OK; w1 = x; w2 = y; acts = l }

-- code 0 with no words
abbrev pub done : List Act → Verdict
done l = gives 0 0 l

-- A caller that must wait gets code 1.
abbrev pub waits : ℕ → Wait → Verdict
waits i w = record { code = WAITS; w1 = 0; w2 = 0; acts = wait i w ∷ [] }

-- refused with the code if the test holds
unfoldable pub check : Bool → Code → Verdict → Verdict
check true c r = refuse c
check false c r = r

-- one or the other
unfoldable pub choose : Bool → Verdict → Verdict → Verdict
choose true r s = r
choose false r s = s

-- by the first of a queue, if there is one
unfoldable pub on_first : List ℕ → Verdict → (ℕ → Verdict) → Verdict
on_first [] r f = r
on_first (x ∷ l) r f = f x

-- by a number above 0, of which f gets one less
unfoldable pub on_count : ℕ → Verdict → (ℕ → Verdict) → Verdict
on_count zero r f = r
on_count (suc n) r f = f n
