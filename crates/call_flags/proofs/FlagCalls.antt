-- The calls on flags but set_flg: at each return of the code the rule's verdict is what was answered and done. Assumes nothing.
use mathlib.Core.Bool.{Bool, true, false}
use mathlib.Core.List.{List}
use mathlib.Core.Path.{◌≡◌, refl, sym, ap, ◌∙◌}
use Prim.Native.Nat.{ℕ}
use lib.Bits.{bit_and}
use lib.IntN.{pos}
use Rattle.rules.specs.Acts.{pattern}
use Rattle.rules.specs.State.{flag}
use Rattle.rules.specs.Verdicts.{Verdict}
use Rattle.rules.specs.Objects.{pattern_of, met, left, clr_flg, take_flg}
use Rattle.rules.proofs.Ids.{of_ids}
use Rattle.memory_columns.specs.Layout as Layout
use Rattle.memory_columns.specs.Layout.{entry}
use Rattle.memory_picture.specs.Perform.{performed, performed_marks}
use Rattle.memory_picture.specs.Picture.{store_shown, body_shown, view_shown, Accepted}
use Rattle.call_words.specs.declared.Outcome.{Outcome}
use Rattle.call_words.specs.Outcomes.{outcome}
use Rattle.call_words.specs.Doing.{Does, DoesOnWords}
use Rattle.call_words.specs.Naming.{NamesObject}
use Rattle.call_words.proofs.Verdicts.{choose_first, choose_second, gives_one}
use Rattle.call_objects.proofs.Waiters.{counted}

module _ (i : ℕ) {b : List ℕ} where
  pub pattern_read : (m : List ℕ) → Accepted b m → NamesObject flag i (view_shown b m) → pattern_of (view_shown b m) (pos i) ≡ entry Layout.flag b i
  unfolding view_shown body_shown store_shown
  pattern_read m A k = of_ids (entry Layout.flag b) _ i 0 (counted flag i b m A k)

  module _ {n : ℕ} (en : n ≡ entry Layout.flag b i) (p : ℕ) where
    pub clr_done : {s : Outcome} {b' : List ℕ} → b' ≡ Layout.put Layout.flag i (bit_and n p) b → s ≡ outcome (pos 0) 0 0 0 → DoesOnWords (NamesObject flag i) (λ v. clr_flg v (pos i) (pos p)) s b b'
    unfolding clr_flg performed performed_marks
    clr_done g e m A k = gives_one (pattern i _) refl e (rw (pattern_read m A k, ← en) g)

    -- ---- wai_flg, pol_flg: the pattern is taken, or as r says

    module _ (t : ℕ) {y : Bool} (ey : y ≡ met n p t) where
      met_is : (m : List ℕ) → Accepted b m → NamesObject flag i (view_shown b m) → met (pattern_of (view_shown b m) (pos i)) p t ≡ y
      met_is m A k = rw (pattern_read m A k, ← en) (sym ey)

      pub pattern_taken : {s : Outcome} (r : Verdict) → y ≡ true → {q : ℕ} → q ≡ left n t → {b' : List ℕ} → b' ≡ Layout.put Layout.flag i q b → s ≡ outcome (pos 0) n 0 0
          → DoesOnWords (NamesObject flag i) (λ v. take_flg v (pos i) (pos p) (pos t) r) s b b'
      unfolding take_flg performed performed_marks
      pattern_taken r z f g e m A k = choose_first _ _ (met_is m A k ∙ z)
          (gives_one (pattern i _) refl (e ∙ ap (λ (x : ℕ). outcome (pos 0) x 0 0) (en ∙ sym (pattern_read m A k))) (rw (pattern_read m A k, ← en, ← f) g))

      pub unmet : {s : Outcome} (r : Verdict) → y ≡ false → {b' : List ℕ} → ((m : List ℕ) → Does r s b m b' m) → DoesOnWords (NamesObject flag i) (λ v. take_flg v (pos i) (pos p) (pos t) r) s b b'
      unfolding take_flg
      unmet r z d m A k = choose_second _ _ (met_is m A k ∙ z) (d m)
