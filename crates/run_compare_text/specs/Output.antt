-- What a lent output holds after a text was to be written to it.
use Rattle.std.specs.Prelude.{cond, List, ◌≡◌, ℕ, ◌≤◌, leb, length, Result, Ok, Err}
use Rattle.run_text.specs.Output.{over}
use Rattle.run_compare_text.specs.declared.Short.{Short}

-- two lines of at most 61 bytes for each of 3,000 events, and their number
abbrev pub longest_text : ℕ
longest_text = 366005

-- the text at the front and all behind it as it was, if there is room; else the output as it was
unfoldable pub output_of : List ℕ → List ℕ → List ℕ
output_of text old = cond (leb (length text) (length old)) (over text old) old

-- and its length
unfoldable pub told_of : List ℕ → List ℕ → Result ℕ Short
told_of text old = cond (leb (length text) (length old)) (Ok (length text)) (Err (record { needed = length text }))

-- this text was written, or there was no room for it
pub record Shown (text : List ℕ) (r : Result ℕ Short) (old new : List ℕ) : Type 0 where
  pub says : r ≡ told_of text old
  pub holds : new ≡ output_of text old
  pub fits : length text ≤ longest_text
