-- The calls on tasks: at each return of the code the rule's verdict is what was answered and done. Assumes nothing.
use mathlib.Core.Bool.{Bool, true, false, not}
use mathlib.Core.List.{List}
use mathlib.Core.Path.{◌≡◌, refl, sym, ap, ◌∙◌}
use Prim.Native.Nat.{ℕ, ◌+◌, ◌*◌, ◌/◌, ◌%◌, ◌^◌, ◌<◌}
use native.Mathlib.Omega.{arith}
use lib.IntN.{pos}
use Rattle.rules.specs.Acts.{start, retire, create, delete, rotate, regrade, release, suspend, resume}
use Rattle.rules.specs.Codes.{number, H-NODMT, H-EXIST, E-NOWAI, E-RLWAI, H-SUS, E-NOSUS}
use Rattle.rules.specs.Tasks.{starting, ext_tsk, chg_pri, rot_rdq, rel_wai, sus_tsk, rsm_tsk, get_tid, tsk_sts, cre_tsk, del_tsk, exd_tsk}
use Rattle.rules.specs.Time.{get_tim}
use Rattle.memory_columns.specs.Layout as Layout
use Rattle.memory_columns.specs.Layout.{entry}
use Rattle.memory_tasks.specs.Moves.{started, retired, created, deleted, rotated, regraded}
use Rattle.memory_waits.specs.Waits.{released, halted, resumed}
use Rattle.memory_picture.specs.Picture.{store_shown, body_shown, view_shown}
use Rattle.memory_picture.specs.Perform.{performed, performed_marks}
use Rattle.memory_running.specs.Running.{running_of}
use Rattle.memory_running.proofs.Running.{running_law}
use Rattle.call_words.specs.declared.Outcome.{Outcome}
use Rattle.call_words.specs.Outcomes.{outcome}
use Rattle.call_words.specs.Doing.{Anything, DoesOnWords}
use Rattle.call_words.proofs.Verdicts.{check_stops, check_passes, gives_none, gives_one, first_none, first_some}
use Rattle.call_words.specs.Naming.{NamesTask, NamesQueue}
use Rattle.call_reading.specs.Reading.{waits_at, halted_at, number_at, turn_at}
use Rattle.call_reading.proofs.Heads.{turn_head}
use Rattle.call_reading.proofs.Readings.{reads_dormant, reads_alive, reads_absent, reads_there, waiting_read, suspended_read, number_read, priority_read}

module _ {b : List ℕ} {s : Outcome} where
  -- ---- the task that is named

  module _ (i : ℕ) where
    pub sta_alive : {t : ℕ} → t ≡ entry Layout.status b i → (t ≡ 0 → ⊥) → s ≡ outcome (number H-NODMT) 0 0 0 → DoesOnWords (NamesTask i) (λ v. starting v.body i) s b b
    unfolding starting
    sta_alive f z e m A k = check_stops H-NODMT _ (ap not (reads_alive b m i k f z)) e

    pub sta_done : {t : ℕ} → t ≡ entry Layout.status b i → t ≡ 0 → {b' : List ℕ} → b' ≡ started i b → s ≡ outcome (pos 0) 0 0 0 → DoesOnWords (NamesTask i) (λ v. starting v.body i) s b b'
    unfolding starting performed performed_marks
    sta_done f z g e m A k = check_passes H-NODMT _ (ap not (reads_dormant b m i k f z)) (gives_one (start i) refl e g)

    pub ter_done : {b' : List ℕ} → b' ≡ retired i b → s ≡ outcome (pos 0) 0 0 0 → DoesOnWords Anything (λ v. ext_tsk i) s b b'
    unfolding ext_tsk performed performed_marks
    ter_done g e m A k = gives_one (retire i) refl e g

    pub cre_there : (p : ℕ) {t : ℕ} → t ≡ entry Layout.status b i → (t ≡ 6 → ⊥) → s ≡ outcome (number H-EXIST) 0 0 0 → DoesOnWords (NamesTask i) (λ v. cre_tsk v (pos i) (pos p)) s b b
    unfolding cre_tsk
    cre_there p f z e m A k = check_stops H-EXIST _ (ap not (reads_there b m i k f z)) e

    pub cre_done : (p : ℕ) {t : ℕ} → t ≡ entry Layout.status b i → t ≡ 6 → {b' : List ℕ} → b' ≡ created i p b → s ≡ outcome (pos 0) 0 0 0
        → DoesOnWords (NamesTask i) (λ v. cre_tsk v (pos i) (pos p)) s b b'
    unfolding cre_tsk performed performed_marks
    cre_done p f z g e m A k = check_passes H-EXIST _ (ap not (reads_absent b m i k f z)) (gives_one (create i p) refl e g)

    pub del_alive : {t : ℕ} → t ≡ entry Layout.status b i → (t ≡ 0 → ⊥) → s ≡ outcome (number H-NODMT) 0 0 0 → DoesOnWords (NamesTask i) (λ v. del_tsk v (pos i)) s b b
    unfolding del_tsk
    del_alive f z e m A k = check_stops H-NODMT _ (ap not (reads_alive b m i k f z)) e

    pub del_done : {t : ℕ} → t ≡ entry Layout.status b i → t ≡ 0 → {b' : List ℕ} → b' ≡ deleted i b → s ≡ outcome (pos 0) 0 0 0 → DoesOnWords (NamesTask i) (λ v. del_tsk v (pos i)) s b b'
    unfolding del_tsk performed performed_marks
    del_done f z g e m A k = check_passes H-NODMT _ (ap not (reads_dormant b m i k f z)) (gives_one (delete i) refl e g)

    pub exd_done : {b' : List ℕ} → b' ≡ deleted i b → s ≡ outcome (pos 0) 0 0 0 → DoesOnWords Anything (λ v. exd_tsk i) s b b'
    unfolding exd_tsk performed performed_marks
    exd_done g e m A k = gives_one (delete i) refl e g

    pub chg_done : (p : ℕ) {b' : List ℕ} → b' ≡ regraded i p b → s ≡ outcome (pos 0) 0 0 0 → DoesOnWords Anything (λ v. chg_pri (pos i) (pos p)) s b b'
    unfolding chg_pri performed performed_marks
    chg_done p g e m A k = gives_one (regrade i p) refl e g

    pub rel_free : {t : Bool} → t ≡ waits_at b i → not t ≡ true → s ≡ outcome (number E-NOWAI) 0 0 0 → DoesOnWords (NamesTask i) (λ v. rel_wai v (pos i)) s b b
    unfolding rel_wai
    rel_free f z e m A k = check_stops E-NOWAI _ (rw (waiting_read b m i k A, ← f) z) e

    pub rel_done : {t : Bool} → t ≡ waits_at b i → not t ≡ false → {b' : List ℕ} → b' ≡ released i 2 0 b → s ≡ outcome (pos 0) 0 0 1 → DoesOnWords (NamesTask i) (λ v. rel_wai v (pos i)) s b b'
    unfolding rel_wai performed performed_marks
    rel_done f z g e m A k = check_passes E-NOWAI _ (rw (waiting_read b m i k A, ← f) z) (gives_one (release i E-RLWAI 0) refl e g)

    pub sus_held : {t : Bool} → t ≡ halted_at b i → t ≡ true → s ≡ outcome (number H-SUS) 0 0 0 → DoesOnWords (NamesTask i) (λ v. sus_tsk v (pos i)) s b b
    unfolding sus_tsk
    sus_held f z e m A k = check_stops H-SUS _ (suspended_read b m i k A ∙ sym f ∙ z) e

    pub sus_done : {t : Bool} → t ≡ halted_at b i → t ≡ false → {b' : List ℕ} → b' ≡ halted i b → s ≡ outcome (pos 0) 0 0 0 → DoesOnWords (NamesTask i) (λ v. sus_tsk v (pos i)) s b b'
    unfolding sus_tsk performed performed_marks
    sus_done f z g e m A k = check_passes H-SUS _ (suspended_read b m i k A ∙ sym f ∙ z) (gives_one (suspend i) refl e g)

    pub rsm_free : {t : Bool} → t ≡ halted_at b i → not t ≡ true → s ≡ outcome (number E-NOSUS) 0 0 0 → DoesOnWords (NamesTask i) (λ v. rsm_tsk v (pos i)) s b b
    unfolding rsm_tsk
    rsm_free f z e m A k = check_stops E-NOSUS _ (rw (suspended_read b m i k A, ← f) z) e

    pub rsm_done : {t : Bool} → t ≡ halted_at b i → not t ≡ false → {b' : List ℕ} → b' ≡ resumed i b → s ≡ outcome (pos 0) 0 0 0 → DoesOnWords (NamesTask i) (λ v. rsm_tsk v (pos i)) s b b'
    unfolding rsm_tsk performed performed_marks
    rsm_done f z g e m A k = check_passes E-NOSUS _ (rw (suspended_read b m i k A, ← f) z) (gives_one (resume i) refl e g)

    pub sts_done : {x y : ℕ} → x ≡ number_at b i → y ≡ entry Layout.priority b i → s ≡ outcome (pos 0) x y 0 → DoesOnWords (NamesTask i) (λ v. tsk_sts v (pos i)) s b b
    unfolding tsk_sts
    sts_done f g e m A k = gives_none (e ∙ rw (f, g, ← number_read b m i k A, ← priority_read b m i k))

  -- ---- rot_rdq

  module _ (p : ℕ) {x : ℕ} (f : x ≡ turn_at b p) where
    pub rot_empty : x ≡ 0 → {b' : List ℕ} → b' ≡ b → s ≡ outcome (pos 0) 0 0 0 → DoesOnWords (NamesQueue p) (λ v. rot_rdq v (pos p)) s b b'
    unfolding rot_rdq
    rot_empty z g e m A k = rw g (first_none _ _ _ (sym f ∙ z) (turn_head b m A p k) (gives_none e))

    pub rot_turns : (x ≡ 0 → ⊥) → {b' : List ℕ} → b' ≡ rotated x b → s ≡ outcome (pos 0) 0 0 0 → DoesOnWords (NamesQueue p) (λ v. rot_rdq v (pos p)) s b b'
    unfolding rot_rdq performed performed_marks
    rot_turns z g e m A k = first_some _ _ _ (λ y. z (f ∙ y)) (turn_head b m A p k) (gives_one (rotate _) refl e (rw f at g))

  -- ---- get_tid, get_tim

  pub tid_done : {t : ℕ} → t ≡ running_of b → s ≡ outcome (pos 0) t 0 0 → DoesOnWords Anything get_tid s b b
  unfolding get_tid
  tid_done f e m A k = gives_none (e ∙ ap (λ (x : ℕ). outcome (pos 0) x 0 0) (f ∙ running_law b m A))

  pub tim_done : {x y : ℕ} → x ≡ entry Layout.system b 8 → y ≡ entry Layout.system b 7 → s ≡ outcome (pos 0) x y 0 → DoesOnWords Anything get_tim s b b
  unfolding get_tim view_shown body_shown store_shown
  tim_done f g e m A k = gives_none (e ∙ rw (f, g) (rw (← (halves A.whole.low).0, ← (halves A.whole.low).1)))
    where
      halves : {x y : ℕ} → x < 2 ^ 32 → (y ≡ (x + 2 ^ 32 * y) / 2 ^ 32) × (x ≡ (x + 2 ^ 32 * y) % 2 ^ 32)
      halves l = (omega arith, omega arith)
