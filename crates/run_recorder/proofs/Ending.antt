-- The end of the input: what it says, and its line. Assumes nothing.
use mathlib.Core.Bool.{Bool, true, false, cond, true≢false}
use mathlib.Core.List.{List, [], ◌∷◌}
use mathlib.Core.Path.{◌≡◌, refl, sym, ap, ◌∙◌}
use Prim.Native.Nat.{ℕ, zero, suc, ◌≤◌, ◌<◌}
use native.Mathlib.Omega.{arith}
use lib.Dec.{leb}
use lib.ListN.{length, take}
use borrow.Author.Tests.{le-leb, lt-leb, leb-true, leb-false}
use Rattle.std.proofs.Common.{Ok, Err}
use Rattle.rules.specs.Setup.{Fault, S1, S2, S3, S4, digit, Read, got, refused}
use Rattle.memory_picture.specs.Picture.{Memory}
use Rattle.run_reading.specs.Recorded.{Head, read_head, event_bytes, event_in, Item, begins, occurs, refuses}
use Rattle.run_reading.specs.Recorder.{Recorder, heading, running, stopped, ended, is_ended, on_end, at_input_end}
use Rattle.setup_sections.specs.Judging.{Refusal, digit_of}
use Rattle.run_stream.specs.declared.Item.{Item as Completed}
use Rattle.run_stream.specs.declared.Item.TheVariants.{Nothing, Begins, Occurs}
use Rattle.run_stream.specs.Lent.{recorder_of, Is, Tells}
use Rattle.run_text.specs.Lines.{refusal, longest_line}
use Rattle.run_text.specs.Output.{Wrote}
use Rattle.run_text.proofs.Laid.{laid_over}
use Rattle.run_recorder.specs.declared.Parted.{Parted}
use Rattle.run_recorder.specs.Running.{Ran}
use Rattle.run_recorder.specs.Recording.{Ends, EndsRefused, EndsQuiet}
use Rattle.run_recorder.proofs.Items.{digit_coded, ran_one}

-- ---- a refusal's line

module _ (d place : ℕ) {t₀ t₁ : List ℕ} {k : ℕ} (counted : Wrote (refusal d place) 0 t₀ t₁ k × (k ≤ longest_line)) (n text : List ℕ) where
  size : k ≡ length (refusal d place)
  size = counted.0.next ∙ omega arith

  pub refused_full : length text < k → EndsRefused d place n n text text (record { number = 6; place = 0; taken = 0; written = 0 })
  refused_full h = record {
    nothing = refl;
    short = omega (arith, counted.1, size);
    says = rw (lt-leb (length (refusal d place)) (length text) (omega (arith, h, size))) (refl, refl);
    done = λ l. absurd (omega (arith, h, l, size));
    kept = λ l. (refl, refl, refl);
  }

  pub refused_written : k ≤ length text → {n' text' : List ℕ} {j : ℕ} → Is n' ended → Wrote (refusal d place) 0 text text' j × (j ≤ longest_line)
      → EndsRefused d place n n' text text' (record { number = d; place = place; taken = 0; written = k })
  refused_written h I W = record {
    nothing = refl;
    short = omega (arith, counted.1, size);
    says = rw (le-leb (length (refusal d place)) (length text) (omega (arith, h, size))) (refl, refl);
    done = λ l. (I, W.0.holds ∙ laid_over (refusal d place) text l, size);
    kept = λ l. absurd (omega (arith, h, l, size));
  }

-- ---- the end

digit_small : (f : Fault) → digit f ≤ 4
digit_small S1 = omega arith
digit_small S2 = omega arith
digit_small S3 = omega arith
digit_small S4 = omega arith

-- an end completes a refusal or nothing
abbrev Ending : List Item → Type 0
Ending [] = Unit {0}
Ending (begins h ∷ l) = ⊥
Ending (occurs i e ∷ l) = ⊥
Ending (refuses f place ∷ l) = l ≡ []

ending : (r : Recorder) → Ending (at_input_end r)
unfolding at_input_end
ending (heading l) = go (read_head l)
  where
    go : (x : Read Head) → Ending (on_end x)
    go (got h i) = tt
    go (refused f p) = refl
ending (running zero k p l) = tt
ending (running (suc n) k p l) = refl
ending stopped = tt
ending ended = tt

module _ (n h text : List ℕ) where
  pub ended_again : is_ended (recorder_of n h) ≡ true → Ends n h n text text (record { number = 5; place = 0; taken = 0; written = 0 })
  unfolding at_input_end
  ended_again e = record {
    lines = [];
    ran = λ m. none (recorder_of n h) e m;
    nothing = refl;
    fits = omega arith;
    says = rw e (refl, refl);
    done = λ l. absurd (omega (arith, l));
    kept = λ l. (refl, refl, refl);
  }
    where
      none : (r : Recorder) → is_ended r ≡ true → (m : Memory) → Ran (at_input_end r) m [] m
      none (heading l) e m = absurd (true≢false (sym e))
      none (running k i p l) e m = absurd (true≢false (sym e))
      none stopped e m = absurd (true≢false (sym e))
      none ended e m = (refl, refl)

  module _ (going : is_ended (recorder_of n h) ≡ false) where
    end_none : Tells (Ok Nothing) h (at_input_end (recorder_of n h)) → {n' : List ℕ} {a : Parted} → EndsQuiet n' a → Ends n h n' text text a
    end_none e Q =
        let z = le-leb 0 (length text) (omega arith) in
        rw Q.1
        (record {
          lines = [];
          ran = λ m. rw e (refl, refl);
          nothing = refl;
          fits = omega arith;
          says = rw (going, z, e) (refl, refl);
          done = λ l. (Q.0 h, refl, refl);
          kept = λ l. absurd (omega (arith, l));
        })

    never : (l : List Item) → at_input_end (recorder_of n h) ≡ l → Ending l
    never l q = rw q at (ending (recorder_of n h))

    pub end_ok : (c : Completed) → Tells (Ok c) h (at_input_end (recorder_of n h)) → {n' : List ℕ} {a : Parted} → EndsQuiet n' a → Ends n h n' text text a
    end_ok Nothing T Q = end_none T Q
    end_ok (Begins i) T Q = absurd (never (begins T.0 ∷ []) T.1)
    end_ok (Occurs i) T Q = absurd (never (occurs i (event_in (take event_bytes h)) ∷ []) T)

    end_says : (d place : ℕ) → (f : Fault) × (at_input_end (recorder_of n h) ≡ refuses f place ∷ []) × (d ≡ digit f) → {n' text' : List ℕ} {a : Parted} → EndsRefused d place n n' text text' a → Ends n h n' text text' a
    end_says d place T {n'} {text'} {a} R = go (leb (length (refusal d place)) (length text)) refl
      where
        e : at_input_end (recorder_of n h) ≡ refuses T.0 place ∷ []
        e = T.1

        runs : (m : Memory) → Ran (at_input_end (recorder_of n h)) m (refusal d place) m
        runs m = rw e (ran_one (refuses T.0 place) (refl, ap (λ (x : ℕ). refusal x place) T.2) R.short)

        says : (s : Bool) → leb (length (refusal d place)) (length text) ≡ s → (a.number ≡ cond s d 6) × (a.place ≡ cond s place 0)
        says true q = rw q at R.says
        says false q = rw q at R.says

        go : (s : Bool) → leb (length (refusal d place)) (length text) ≡ s → Ends n h n' text text' a
        go true q =
            let w = says true q in
            let k : length (refusal d place) ≤ length text = leb-true _ _ q in
            let D = R.done k in
            record {
              lines = refusal d place;
              ran = runs;
              nothing = R.nothing;
              fits = omega (arith, D.2, k);
              says = rw (going, q, e) (w.0 ∙ T.2, w.1);
              done = λ l. (D.0 h, D.1, D.2);
              kept = λ l. absurd (omega (arith, l, w.0, T.2, digit_small T.0));
            }
        go false q =
            let w = says false q in
            let k : length text < length (refusal d place) = leb-false _ _ q in
            record {
              lines = refusal d place;
              ran = runs;
              nothing = R.nothing;
              fits = omega (arith, (R.kept k).2);
              says = rw (going, q) w;
              done = λ l. absurd (omega (arith, l, w.0));
              kept = λ l. R.kept k;
            }

    pub end_refuses : (e : Refusal) {d : ℕ} → d ≡ digit_of e.fault → Tells (Err e) h (at_input_end (recorder_of n h)) → {n' text' : List ℕ} {a : Parted} → EndsRefused d e.place n n' text text' a → Ends n h n' text text' a
    end_refuses e {d} q T R = end_says d e.place (T.0, T.1, q ∙ ap digit_of T.2 ∙ digit_coded T.0) R
