-- `flat`: the states stay, and the codes stand behind them. Assumes nothing.
use mathlib.Core.Path.{◌≡◌, ◌∙◌}
use Prim.Native.Nat.{◌+◌, ◌*◌}
use native.Mathlib.Omega.{arith}
use lib.ListN.{length}
use borrow.Author.Rules.{rules}
use Rattle.run_tally.proofs.Tables.{put_before, put_behind}
use Rattle.run_tally.proofs.flat.Goals as goal

pub returns : goal.returns
returns c =
    let e = c.copy_from_slice.ensures.after in
    let n : length c.states_flat-out.result ≡ 253 = search rules in
    let m : length c.args.codes ≡ 29 = search rules in
    rw e (record {
      states = λ i s h k. put_before 224 29 c.states_flat-out.result c.args.codes (omega (arith, n)) (7 * i + s) (omega (arith, h, k)) ∙ c.states_flat-out.ensures i s h k;
      codes = λ k h. put_behind 224 29 c.states_flat-out.result c.args.codes (omega (arith, n)) k (omega (arith, m, h));
    })
