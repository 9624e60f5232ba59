-- `word_within`: each return goes by the tests that led to it. Assumes nothing.
use mathlib.Core.Bool.{true, false}
use mathlib.Core.Path.{◌≡◌, sym, ◌∙◌}
use Prim.Native.Nat.{◌+◌}
use lib.Dec.{leb}
use lib.ListN.{length}
use borrow.Author.Tests.{le-leb, lt-leb}
use Rattle.rules.specs.Setup.{word_at, to, within, read_word}
use Rattle.setup_sections.proofs.word_within.Goals as goal
use Rattle.setup_sections.proofs.word_within.Given.{Over}
use Rattle.setup_sections.proofs.word_within.Goals.{Else-not-has_word, then-w-r-via-then-w-r, then-w-r-via-else-w-r+then-r-w}

-- whether the word is whole
held : (g : Over) (c : Else-not-has_word g) → let a = c.args in leb (a.at + 4) (length a.bytes.now) ≡ true
held g c = sym c.has_word.ensures ∙ c.if-not-has_word.false

pub returns-then-not-has_word : goal.returns-then-not-has_word
unfolding read_word
returns-then-not-has_word g c = simp (← c.has_word.ensures, c.if-not-has_word.true)

pub returns-then-w-r : goal.returns-then-w-r
unfolding read_word
returns-then-w-r g c = simp (held g (goal.at.returns-then-w-r g c).Else-not-has_word, outside)
  where
    outside : let a = c.args in within (to a.r.least a.r.most) (word_at a.bytes.now a.at) ≡ false
    outside = elim c.then-w-r.branch [
      | then-w-r-via-then-w-r w ↦ simp (← c.word-w.ensures, lt-leb _ _ w.if-w-r.true)
      | then-w-r-via-else-w-r+then-r-w w ↦ simp (← c.word-w.ensures, le-leb _ _ w.if-w-r.false, lt-leb _ _ w.if-r-w.true)
    ]

pub returns : goal.returns
unfolding read_word
returns g c =
    simp (held g (goal.at.returns g c).Else-not-has_word, ← c.word-w.ensures, le-leb _ _ c.if-w-r.false, le-leb _ _ c.if-r-w.false)
