-- What each item does to the memory, and its line: from what the functions that do it promise. Assumes nothing.
use mathlib.Core.List.{List, [], ◌∷◌, append-nil}
use mathlib.Core.Path.{◌≡◌, refl, sym, ap, ◌∙◌}
use Prim.Native.Nat.{ℕ, ◌≤◌}
use native.Mathlib.Omega.{arith}
use lib.ListN.{length, take}
use Rattle.std.proofs.Common.{Result, Ok, Err, Option, None, Some}
use Rattle.std.specs.Result.{result_and}
use Rattle.rules.specs.Setup.{Fault, S1, S2, S3, S4, digit}
use Rattle.rules.specs.View.{running}
use Rattle.rules.specs.Kernel.{fresh}
use Rattle.memory_picture.specs.Picture.{Memory, memory}
use Rattle.memory_running.specs.Running.{running_of}
use Rattle.memory_running.proofs.Running.{running_law}
use Rattle.check_damage.specs.declared.Breach.{Breach}
use Rattle.setup_sections.specs.Judging.{Refusal, coded, digit_of}
use Rattle.kernel_start.specs.Starting.{Starts, Holds}
use Rattle.kernel_steps.specs.Steps.{Reply}
use Rattle.kernel_steps.specs.Serving.{Known, Serves}
use Rattle.kernel_serving.proofs.Served.{known_on}
use Rattle.kernel_demands.specs.Demands.{figures}
use Rattle.kernel_demands.proofs.Chains.{start_holds}
use Rattle.run_reading.specs.Recorded.{event_in, Item, begins, occurs, refuses}
use Rattle.run_stream.specs.declared.Item.TheVariants.{Nothing, Begins, Occurs}
use Rattle.run_text.specs.Lines.{start_line, event_line, refusal, longest_line}
use Rattle.run_text.specs.Output.{laid, Wrote}
use Rattle.run_recorder.specs.declared.Turn.{Turn}
use Rattle.run_recorder.specs.Running.{Does, Ran}
use Rattle.run_stream.specs.Lent.{Tells, said}
use Rattle.run_recorder.specs.Recording.{Plays, PlaysTold}

pub digit_coded : (f : Fault) → digit_of (coded f) ≡ digit f
digit_coded S1 = refl
digit_coded S2 = refl
digit_coded S3 = refl
digit_coded S4 = refl

-- a line that was written is as long as what was counted
long : {line t t' : List ℕ} {w : ℕ} → Wrote line 0 t t' w → w ≤ longest_line → length line ≤ longest_line
long W h = omega (arith, W.next, h)

pub ran_one : (i : Item) {old new : Memory} {line : List ℕ} → Does i old line new → length line ≤ longest_line → Ran (i ∷ []) old line new
ran_one i {old} {new} {line} D h = record { line = line; middle = new; more = []; first = D; short = h; rest = (refl, refl); joins = sym (append-nil line) }

abbrev turn_of : Result ℕ Breach → ℕ → Option Refusal → Turn
turn_of k w e = record { known = k; written = w; refusal = e }

module _ (h : List ℕ) (k : Result ℕ Breach) (old : Memory) (text : List ℕ) where
  pub plays_nothing : PlaysTold Nothing h k old old text text (turn_of k 0 None)
  unfolding laid
  plays_nothing l t K = rw t (record { line = []; ran = (refl, refl); wrote = record { holds = refl; next = refl }; short = omega arith; known = K; says = refl })

  pub plays_begins : (end : ℕ) (r : Result (Unit {0}) Refusal) {b m : List ℕ} → Starts (take end h) r old (memory b m) → {g : Result ℕ Breach} → Known g (memory b m) → {runs : ℕ} → runs ≡ running_of b
      → {text' : List ℕ} {w : ℕ} → Wrote (start_line runs) 0 text text' w × (w ≤ longest_line) → PlaysTold (Begins end) h k old (memory b m) text text' (turn_of g w None)
  plays_begins end r {b} {m} S {g} Q {runs} e {text'} {w} W l t K =
      let x = t.0 in
      let H : Holds (memory b m) (fresh x.setup) = start_holds (take end h) x.setup end t.2 r old (memory b m) S in
      let q : runs ≡ running (fresh x.setup) = e ∙ running_law b m H.accepted ∙ ap running H.view in
      rw t.1
      (record {
        line = start_line runs;
        ran = ran_one (begins x) (H, ap start_line q) (long W.0 W.1);
        wrote = W.0;
        short = W.1;
        known = Q;
        says = refl;
      })

  pub plays_occurs : (i : ℕ) {r : Reply} {new : Memory} → Serves (event_in (take 20 h)) k old r new
      → {text' : List ℕ} {w : ℕ} → Wrote (event_line i (figures r)) 0 text text' w × (w ≤ longest_line) → PlaysTold (Occurs i) h k old new text text' (turn_of (result_and k (Ok r.runs)) w None)
  plays_occurs i {r} {new} S {text'} {w} W l t K =
      rw t
      (record {
        line = event_line i (figures r);
        ran = ran_one (occurs i (event_in (take 20 h))) (record { reply = r; step = S K; line = refl }) (long W.0 W.1);
        wrote = W.0;
        short = W.1;
        known = known_on k K (S K);
        says = refl;
      })

  pub plays_refuses : (e : Refusal) {d : ℕ} → d ≡ digit_of e.fault → {text' : List ℕ} {w : ℕ} → Wrote (refusal d e.place) 0 text text' w × (w ≤ longest_line)
      → (l : List Item) → Tells (Err e) h l → Known k old → Plays l old old text text' (turn_of k w (Some e))
  plays_refuses e {d} q {text'} {w} W l t K =
      let f : d ≡ digit t.0 = q ∙ ap digit_of t.2 ∙ digit_coded t.0 in
      rw t.1
      (record {
        line = refusal d e.place;
        ran = ran_one (refuses t.0 e.place) (refl, ap (λ (x : ℕ). refusal x e.place) f) (long W.0 W.1);
        wrote = W.0;
        short = W.1;
        known = K;
        says = ap (λ (x : ℕ). said x e.place) (sym q ∙ f);
      })
