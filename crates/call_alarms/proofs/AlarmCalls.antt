-- The calls on alarms: at each return of the code the rule's verdict is what was answered and done. Assumes nothing.
use mathlib.Core.Bool.{Bool, true, false, not}
use mathlib.Core.List.{List}
use mathlib.Core.Path.{◌≡◌, refl, ap, ◌∙◌}
use Prim.Native.Nat.{ℕ, zero, suc, ◌+◌, ◌%◌, ◌^◌, ◌<◌}
use native.Mathlib.Nat.{mod-lt}
use native.Mathlib.Omega.{arith}
use lib.Dec.{eqb}
use lib.IntN.{pos}
use mir.Syntax.{w32}
use mir.Val.{Fits, bool_byte}
use borrow.Author.Tests.{ne_eqb, eqb-true, eqb-false}
use Rattle.rules.specs.Codes.{number, H-USED, H-IDLE}
use Rattle.rules.specs.State.{unset, due, in_use, Alarm, alarm_of}
use Rattle.rules.specs.Acts.{alarm}
use Rattle.rules.specs.Alarms.{set_alm, set_abs, set_rel, can_alm, alm_sts}
use Rattle.memory_columns.specs.Layout as Layout
use Rattle.memory_columns.specs.Layout.{counter, alarm_code, alarm_due, alarm_period, entry}
use Rattle.memory_objects.specs.Moves.{alarmed}
use Rattle.memory_picture.specs.Picture.{setting_shown, alarm_shown, view_shown}
use Rattle.memory_picture.specs.Perform.{kept_number, performed, performed_marks}
use Rattle.call_words.specs.declared.Outcome.{Outcome}
use Rattle.call_words.specs.Outcomes.{outcome}
use Rattle.call_words.specs.Doing.{DoesOnWords}
use Rattle.call_words.specs.Naming.{NamesAlarm}
use Rattle.call_words.proofs.Verdicts.{check_stops, check_passes, gives_none, gives_one}
use Rattle.call_words.proofs.Alarms.{size_shown, alarm_shown_lem, some_size, now_shown, code_shown}
use Rattle.call_alarms.specs.Setting.{SetsAlarm, due_after}

-- ---- whether it is in use

use_shown : (d p : ℕ) → in_use (setting_shown d p) ≡ not (eqb d 0)
use_shown zero p = refl
use_shown (suc d) p = rw (ne_eqb (suc d) 0 (λ q. omega arith))

-- by the expiry as the code has read it
module _ (b m : List ℕ) (k : ℕ) (r : NamesAlarm k (view_shown b m)) {d : ℕ} (e : d ≡ entry alarm_due b k) where
  used : in_use (alarm_of (view_shown b m).body.counter k).setting ≡ not (eqb d 0)
  unfolding alarm_shown
  used = ap (λ (x : Alarm). in_use x.setting) (alarm_shown_lem b m k r) ∙ use_shown (entry alarm_due b k) (entry alarm_period b k) ∙ rw e

  reads_used : (d ≡ 0 → ⊥) → in_use (alarm_of (view_shown b m).body.counter k).setting ≡ true
  reads_used n = used ∙ rw (ne_eqb d 0 n)

  reads_idle : d ≡ 0 → in_use (alarm_of (view_shown b m).body.counter k).setting ≡ false
  reads_idle z = used ∙ rw z

module _ (k : ℕ) {b : List ℕ} {s : Outcome} where
  -- ---- set_abs, set_rel

  module _ {d : ℕ} (e : d ≡ entry alarm_due b k) (x p : ℕ) where
    pub set_used : (d ≡ 0 → ⊥) → s ≡ outcome (number H-USED) 0 0 0 → SetsAlarm k x p s b b
    unfolding set_alm
    set_used z f y q m A r = check_stops H-USED _ (reads_used b m k r e z) f

    pub set_done : d ≡ 0 → {c : ℕ} {b' : List ℕ} → c ≡ entry alarm_code b k → b' ≡ alarmed k c x p b → s ≡ outcome (pos 0) 0 0 0 → SetsAlarm k x p s b b'
    unfolding set_alm performed performed_marks
    set_done z g h f y q m A r = check_passes H-USED _ (reads_idle b m k r e z) (gives_one (alarm k _ (due y p)) refl f (h ∙ rw (g, q, ← code_shown b m k r A)))

  module _ (n p : ℕ) {b' : List ℕ} {z d : ℕ} (ez : z ≡ entry counter b Layout.counter_size) (S : SetsAlarm k d p s b b') where
    -- so many ticks after a count
    after : (c : ℕ) → d ≡ due_after c n z → (m : List ℕ) → NamesAlarm k (view_shown b m) → d ≡ suc ((c + n) % (view_shown b m).body.counter.size)
    unfolding due_after
    after c ed m r = ed ∙ rw (ez, ne_eqb _ 0 (some_size b m k r), size_shown b m)

    pub abs_done : d ≡ due_after 0 n z → DoesOnWords (NamesAlarm k) (λ v. set_abs v (pos k) (pos n) (pos p)) s b b'
    unfolding set_abs
    abs_done ed m A r = S _ (after 0 ed m r ∙ ap (λ (x : ℕ). suc (x % (view_shown b m).body.counter.size)) (omega arith)) m A r

    pub rel_done : {c : ℕ} → c ≡ entry counter b Layout.counter_now → d ≡ due_after c n z → DoesOnWords (NamesAlarm k) (λ v. set_rel v (pos k) (pos n) (pos p)) s b b'
    unfolding set_rel
    rel_done ec ed m A r = S _ (after _ (ed ∙ rw (ec, ← now_shown b m k r)) m r) m A r

  -- ---- can_alm, alm_sts

  module _ {d : ℕ} (e : d ≡ entry alarm_due b k) where
    pub can_idle : d ≡ 0 → s ≡ outcome (number H-IDLE) 0 0 0 → DoesOnWords (NamesAlarm k) (λ v. can_alm v (pos k)) s b b
    unfolding can_alm
    can_idle z f m A r = check_stops H-IDLE _ (ap not (reads_idle b m k r e z)) f

    pub can_done : (d ≡ 0 → ⊥) → {c : ℕ} {b' : List ℕ} → c ≡ entry alarm_code b k → b' ≡ alarmed k c 0 0 b → s ≡ outcome (pos 0) 0 0 0 → DoesOnWords (NamesAlarm k) (λ v. can_alm v (pos k)) s b b'
    unfolding can_alm performed performed_marks
    can_done z g h f m A r = check_passes H-IDLE _ (ap not (reads_used b m k r e z)) (gives_one (alarm k _ unset) refl f (h ∙ rw (g, ← code_shown b m k r A)))

    module _ {c : ℕ} (ec : c ≡ entry alarm_code b k) where
      sts_idle : d ≡ 0 → s ≡ outcome (pos 0) 0 c 0 → DoesOnWords (NamesAlarm k) (λ v. alm_sts v (pos k)) s b b
      unfolding alm_sts kept_number
      sts_idle z f m A r = gives_none (f ∙ rw (ec, ← code_shown b m k r A, reads_idle b m k r e z))

      sts_used : (d ≡ 0 → ⊥) → s ≡ outcome (pos 0) 1 c 0 → DoesOnWords (NamesAlarm k) (λ v. alm_sts v (pos k)) s b b
      unfolding alm_sts kept_number
      sts_used z f m A r = gives_none (f ∙ rw (ec, ← code_shown b m k r A, reads_used b m k r e z))

      -- by the test of the code
      pub sts_told : {n : ℕ} → n ≡ bool_byte (not (eqb d 0)) → s ≡ outcome (pos 0) n c 0 → DoesOnWords (NamesAlarm k) (λ v. alm_sts v (pos k)) s b b
      sts_told {n} q f = go (eqb d 0) refl
        where
          go : (t : Bool) → eqb d 0 ≡ t → DoesOnWords (NamesAlarm k) (λ v. alm_sts v (pos k)) s b b
          go true z = sts_idle (eqb-true d 0 z) (f ∙ rw (q, z))
          go false z = sts_used (λ y. let h = eqb-false d 0 z in omega arith) (f ∙ rw (q, z))

-- a remainder of a word, and one more, are words
pub fits_due : (m n : ℕ) → m < 2 ^ 32 → (m ≡ 0 → ⊥) → Fits w32 (n % m) × Fits w32 (n % m + 1)
fits_due m n h ne = let l : n % m < m = mod-lt n (omega arith) in (record { fits = omega arith }, record { fits = omega arith })
