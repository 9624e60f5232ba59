-- Lines read off links that may be damaged, for any links: do all of their nodes show numbers of what there is, and does an id stand where it belongs?
use Rattle.std.specs.Prelude.{Bool, true, false, cond, ◌&&◌, List, [], ◌∷◌, ℕ, zero, suc, ◌+◌, ◌-◌, eqb, leb}
use Rattle.rules.specs.Ids.{once, times}
use Rattle.memory_rings.specs.Rings.{line_of}
use Rattle.check_ranges.specs.Ranges.{within}

-- a node shows one of the numbers 1 to m, behind the nodes up to `low`
abbrev pub shows : ℕ → ℕ → ℕ → Bool
shows low m x = within (x - low) m

-- every node of the line does
unfoldable pub known : ℕ → ℕ → List ℕ → Bool
known low m [] = true
known low m (x ∷ l) = shows low m x && known low m l

-- i stands in the line of anchor a once if that is its home, else not at all
unfoldable pub stands_right : ℕ → List ℕ → ℕ → ℕ → ℕ → Bool
stands_right n nx home i a = eqb (times i (line_of n nx a)) (once (eqb home a))

-- i, found k times so far, stands once at most in the lines of the anchors from number o behind `before` on, so many, taken together
unfoldable pub at_most_once : ℕ → List ℕ → ℕ → ℕ → ℕ → ℕ → ℕ → Bool
at_most_once n nx i before k o zero = true
at_most_once n nx i before k o (suc left) =
    cond (leb (k + times i (line_of n nx (before + o))) 1) (at_most_once n nx i before (k + times i (line_of n nx (before + o))) (suc o) left) false
