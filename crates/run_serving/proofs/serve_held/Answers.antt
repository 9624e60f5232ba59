-- `serve_held`: the words of the bytes held. Assumes nothing.
use borrow.Author.Rules.{rules}
use native.Mathlib.Omega.{arith}
use mathlib.Core.Path.{◌≡◌, ap, ◌∙◌}
use Prim.Native.Nat.{ℕ, ◌<◌, ◌^◌}
use lib.IntN.{ℤ}
use lib.ListN.{length-take}
use lib.Signed.{mag}
use mir.Syntax.{w32}
use mir.Val.{to_z, of_z}
use mir.Facts.{to_z-of_z}
use Rattle.run_reading.specs.Recorded.{signed_word}
use Rattle.run_serving.proofs.serve_held.Goals as goal

-- a word that was read as a signed one
read : {z : ℤ} {w x : ℕ} → mag z < 2 ^ 31 → z ≡ signed_word w → w ≡ x → to_z w32 (of_z w32 z) ≡ signed_word x
read h e q = to_z-of_z {w = w32} (record { sfits = h }) ∙ e ∙ ap signed_word q

pub slice_bounds-event-end : goal.slice_bounds-event-end
slice_bounds-event-end c = omega (arith, length-take 20 c.args.held.now, c.all-1.given)

pub returns : goal.returns
returns c = λ k.
    (rw (
      read c.signed.type_inv c.signed.ensures c.word.ensures,
      read c.signed-2.type_inv c.signed-2.ensures c.word-2.ensures,
      read c.signed-3.type_inv c.signed-3.ensures c.word-3.ensures,
      read c.signed-4.type_inv c.signed-4.ensures c.word-4.ensures,
      read c.signed-5.type_inv c.signed-5.ensures c.word-5.ensures,
    ) at c.serve.ensures)
    (search rules)
