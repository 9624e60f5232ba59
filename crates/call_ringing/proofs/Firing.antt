-- One alarm that fires: whether it is due, what it does to its task, and what it is set to. Assumes nothing.
use mathlib.Core.Bool.{Bool, true, false, not}
use mathlib.Core.List.{List, [], ◌∷◌, ◌++◌}
use mathlib.Core.Path.{◌≡◌, refl, sym, ap, ◌∙◌, subst}
use Prim.Native.Nat.{ℕ, zero, suc, ◌-◌, ◌≤◌}
use native.Mathlib.Numerals.{sub-one}
use native.Mathlib.Omega.{arith}
use lib.Dec.{eqb, eqb-zero-suc, eqb-suc-suc}
use lib.IntN.{nat_abs}
use lib.ListN.{length}
use borrow.Author.Tests.{eqb-true, eq-eqb, ne_eqb, le-leb, not-true, not-false}
use Rattle.rules.specs.Ids.{In}
use Rattle.rules.specs.Codes.{number, E-NOEXS, E-DMT}
use Rattle.rules.specs.State.{Alarm, Counter, alarm_of, Body, task, is_dormant, is_absent}
use Rattle.rules.specs.Acts.{alarm}
use Rattle.rules.specs.Releases.{releases}
use Rattle.rules.specs.Tasks.{starting, waking}
use Rattle.rules.specs.Alarms.{fires, again, fired, firing, rings}
use Rattle.rules.proofs.Judge.{OnActs, on_acts, acts_check, acts_choose}
use Rattle.memory_columns.specs.Layout as Layout
use Rattle.memory_columns.specs.Layout.{counter, alarm_task, alarm_wakes, alarm_due, alarm_period, entry, at_most}
use Rattle.memory_objects.specs.Moves.{alarmed}
use Rattle.memory_picture.specs.Picture.{setting_shown, alarm_shown, view_shown, Accepted}
use Rattle.memory_picture.specs.Perform.{kept_number, due_kept, period_kept, performed}
use Rattle.call_words.specs.declared.Outcome.{Outcome}
use Rattle.call_words.specs.Outcomes.{outcome}
use Rattle.call_words.specs.Doing.{performs, Does, DoesOnWords}
use Rattle.call_words.specs.Naming.{NamesTask, NamesAlarm}
use Rattle.call_words.proofs.Verdicts.{check_stops, check_passes, choose_first, choose_second}
use Rattle.call_words.proofs.Tasks.{tasks_count, dormant_read, absent_read}
use Rattle.call_words.proofs.Alarms.{size_shown, alarm_shown_lem, some_size, now_shown, told_which, alarm_task_lem, task_there}
use Rattle.call_words.proofs.Performing.{performs_append, releases_append}
use Rattle.call_alarms.specs.Setting.{due_after}
use Rattle.call_ringing.specs.Ringing.{due_again, due_at, PerformsOnWords}

-- ---- what it does to its task

-- the alarm that is read
module _ (k : ℕ) (b m : List ℕ) (A : Accepted b m) (r : NamesAlarm k (view_shown b m)) where
  wakes_by : {w : ℕ} → w ≡ entry alarm_wakes b k → (alarm_of (view_shown b m).body.counter k).wakes ≡ eqb w 1
  unfolding alarm_shown
  wakes_by e = ap (λ (y : Alarm). y.wakes) (alarm_shown_lem b m k r) ∙ rw e

  wakes_one : {w : ℕ} → w ≡ entry alarm_wakes b k → (w ≡ 0 → ⊥) → (alarm_of (view_shown b m).body.counter k).wakes ≡ true
  wakes_one {w} e z = wakes_by e ∙ eq-eqb w 1 (omega (arith, e, told_which b m k r A))

  -- and its task, which is there
  module _ {i t : ℕ} (ei : i ≡ entry alarm_task b k) (et : t ≡ entry Layout.status b i) where
    it : (alarm_of (view_shown b m).body.counter k).task ≡ i
    it = alarm_task_lem b m k r A ∙ sym ei

    names : NamesTask i (view_shown b m)
    names = subst (λ (j : ℕ). In j (length (view_shown b m).body.tasks)) (sym ei) (task_there b m k r A)

    absent_by : is_absent (task (view_shown b m).body (alarm_of (view_shown b m).body.counter k).task).state ≡ eqb t 6
    absent_by = ap (λ (j : ℕ). is_absent (task (view_shown b m).body j).state) it ∙ absent_read b m i (subst (In i) (tasks_count b m) names) ∙ rw et

    dormant_by : is_dormant (task (view_shown b m).body (alarm_of (view_shown b m).body.counter k).task).state ≡ eqb t 0
    dormant_by = ap (λ (j : ℕ). is_dormant (task (view_shown b m).body j).state) it ∙ dormant_read b m i (subst (In i) (tasks_count b m) names) ∙ rw et

abbrev Strikes : ℕ → Outcome → List ℕ → List ℕ → Type 0
Strikes k s b b' = DoesOnWords (NamesAlarm k) (λ v. fired v.body (alarm_of v.body.counter k)) s b b'

module _ (k : ℕ) (b : List ℕ) {i t : ℕ} (ei : i ≡ entry alarm_task b k) (et : t ≡ entry Layout.status b i) {s : Outcome} where
  pub strike_absent : t ≡ 6 → s ≡ outcome (number E-NOEXS) 0 0 0 → Strikes k s b b
  unfolding fired
  strike_absent z e m A r = check_stops E-NOEXS _ (absent_by k b m A r ei et ∙ rw z) e

  module _ (n : t ≡ 6 → ⊥) {w : ℕ} (ew : w ≡ entry alarm_wakes b k) where
    pub strike_starts : w ≡ 0 → {b' : List ℕ} → DoesOnWords (NamesTask i) (λ v. starting v.body i) s b b' → Strikes k s b b'
    unfolding fired
    strike_starts z d m A r =
        check_passes E-NOEXS _ (absent_by k b m A r ei et ∙ ne_eqb t 6 n)
        (choose_second _ _ (wakes_by k b m A r ew ∙ rw z) (rw (it k b m A r ei et) (d m A (names k b m A r ei et))))

    module _ (z : w ≡ 0 → ⊥) where
      pub strike_dormant : t ≡ 0 → s ≡ outcome (number E-DMT) 0 0 0 → Strikes k s b b
      unfolding fired
      strike_dormant y e m A r =
          check_passes E-NOEXS _ (absent_by k b m A r ei et ∙ ne_eqb t 6 n)
          (choose_first _ _ (wakes_one k b m A r ew z) (check_stops E-DMT _ (dormant_by k b m A r ei et ∙ rw y) e))

      pub strike_wakes : (t ≡ 0 → ⊥) → {b' : List ℕ} → DoesOnWords (NamesTask i) (λ v. waking v.body i) s b b' → Strikes k s b b'
      unfolding fired
      strike_wakes y d m A r =
          check_passes E-NOEXS _ (absent_by k b m A r ei et ∙ ne_eqb t 6 n)
          (choose_first _ _ (wakes_one k b m A r ew z) (check_passes E-DMT _ (dormant_by k b m A r ei et ∙ ne_eqb t 0 y) (rw (it k b m A r ei et) (d m A (names k b m A r ei et)))))

-- ---- whether it fires

fires_by : (c : Counter) (d p : ℕ) → fires c (setting_shown d p) ≡ eqb d (suc c.now)
fires_by c zero p = sym (eqb-zero-suc c.now)
fires_by c (suc e) p = sym (eqb-suc-suc e c.now)

module _ (k : ℕ) (b m : List ℕ) (r : NamesAlarm k (view_shown b m)) where
  abbrev count : Counter
  count = (view_shown b m).body.counter

  pub fires_shown : fires count (alarm_of count k).setting ≡ due_at b k
  unfolding alarm_shown due_at
  fires_shown = ap (λ (x : Alarm). fires count x.setting) (alarm_shown_lem b m k r) ∙ fires_by count (entry alarm_due b k) (entry alarm_period b k) ∙ rw (now_shown b m k r)

  -- what it is then set to, as the memory keeps it
  again_by : (d p : ℕ) → (d ≡ 0 → ⊥) → (due_kept (again count (setting_shown d p)) ≡ due_again b p) × (period_kept (again count (setting_shown d p)) ≡ p)
  unfolding due_again due_after
  again_by zero p ne = absurd (ne refl)
  again_by (suc e) zero ne = (refl, refl)
  again_by (suc e) (suc p) ne = (rw (ne_eqb (suc p) 0 (λ q. omega arith), ne_eqb (entry counter b Layout.counter_size) 0 (some_size b m k r), now_shown b m k r, size_shown b m), refl)

  again_shown : due_at b k ≡ true → (due_kept (again count (alarm_of count k).setting) ≡ due_again b (entry alarm_period b k)) × (period_kept (again count (alarm_of count k).setting) ≡ entry alarm_period b k)
  unfolding alarm_shown due_at
  again_shown e = rw (alarm_shown_lem b m k r) (again_by (entry alarm_due b k) (entry alarm_period b k) zero_suc)
    where
      zero_suc : entry alarm_due b k ≡ 0 → ⊥
      zero_suc z = omega (arith, z, eqb-true (entry alarm_due b k) (suc (entry counter b Layout.counter_now)) e)

-- the code's test
module _ (k : ℕ) (b : List ℕ) {d : ℕ} (e : d ≡ entry alarm_due b k) where
  pub due_idle : d ≡ 0 → false ≡ due_at b k
  unfolding due_at
  due_idle z = sym (ne_eqb (entry alarm_due b k) (suc (entry counter b Layout.counter_now)) (λ q. omega (arith, e, z, q)))

  pub due_now : (d ≡ 0 → ⊥) → {n : ℕ} → n ≡ entry counter b Layout.counter_now → eqb (d - 1) n ≡ due_at b k
  unfolding due_at
  due_now ne {n} f = rw (← e, ← f) (go d ne)
    where
      go : (d : ℕ) → (d ≡ 0 → ⊥) → eqb (d - 1) n ≡ eqb d (suc n)
      go zero ne = absurd (ne refl)
      go (suc d) ne = rw sub-one (sym (eqb-suc-suc d n))

-- the code's choice of the next expiry
module _ (b : List ℕ) {p : ℕ} where
  pub again_once : p ≡ 0 → 0 ≡ due_again b p
  unfolding due_again
  again_once z = rw z

  pub again_more : (p ≡ 0 → ⊥) → {n s d : ℕ} → n ≡ entry counter b Layout.counter_now → s ≡ entry counter b Layout.counter_size → d ≡ due_after n p s → d ≡ due_again b p
  unfolding due_again
  again_more ne f g h = h ∙ rw (f, g, ne_eqb p 0 ne)

-- ---- the firing

-- it releases one task at most
fired_few : (b : Body) (x : Alarm) → releases (fired b x).acts ≤ 1
fired_few b x = elim few [ on_acts h ↦ h ]
  where
    few : OnActs (λ l. releases l ≤ 1) (fired b x)
    few = unfold fired starting waking in
        acts_check _ (omega arith) (λ n. acts_choose
        (λ w. acts_check _ (omega arith) (λ d. acts_choose (λ s. on_acts (omega arith)) (λ s. acts_check _ (omega arith) (λ m. on_acts (omega arith)))))
        (λ w. acts_check _ (omega arith) (λ d. on_acts (omega arith))))

-- the one alarm
one_ring : (b : Body) (k : ℕ) → fires b.counter (alarm_of b.counter k).setting ≡ true → rings b 1 k ≡ firing b k (alarm_of b.counter k) ++ []
unfolding rings
one_ring b k e = rw e

no_ring : (b : Body) (k : ℕ) → fires b.counter (alarm_of b.counter k).setting ≡ false → rings b 1 k ≡ []
unfolding rings
no_ring b k e = rw e

module _ (k : ℕ) (b : List ℕ) {t : Bool} (et : t ≡ due_at b k) where
  pub fire_not : not t ≡ true → PerformsOnWords (NamesAlarm k) (λ v. rings v.body 1 k) 0 b b
  unfolding performs
  fire_not z m A r = rw (no_ring (view_shown b m).body k (fires_shown k b m r ∙ sym et ∙ not-true t z)) (record { words = refl; released = refl })

  module _ (z : not t ≡ false) {p d : ℕ} (ep : p ≡ entry alarm_period b k) (ed : d ≡ due_again b p) {s : Outcome} {b₁ : List ℕ}
      (D : DoesOnWords (NamesAlarm k) (λ v. fired v.body (alarm_of v.body.counter k)) s b b₁)
      {c : ℕ} (ec : c ≡ nat_abs s.code) {b₂ : List ℕ} (eb : b₂ ≡ alarmed k c d p b₁) {n : ℕ} (en : n ≡ at_most s.released 1) where
    module _ (m : List ℕ) (A : Accepted b m) (r : NamesAlarm k (view_shown b m)) where
      abbrev B : Body
      B = (view_shown b m).body

      abbrev y : Alarm
      y = alarm_of B.counter k

      rang : due_at b k ≡ true
      rang = sym et ∙ not-false t z

      struck : Does (fired B y) s b m b₁ m
      struck = D m A r

      words : b₂ ≡ performs (firing B k y ++ []) b
      unfolding performs performed kept_number
      words =
          let g = again_shown k b m r rang in
          eb ∙ rw (ec, ed, ep, struck.words, struck.says, ← g.0, ← g.1) (sym (performs_append (firing B k y) [] b ∙ performs_append (fired B y).acts _ b))

      released : n ≡ releases (firing B k y ++ [])
      released =
          let q : s.released ≡ releases (fired B y).acts = ap (λ (o : Outcome). o.released) struck.says in
          en ∙ rw (q, le-leb _ 1 (fired_few B y)) (sym (releases_append (firing B k y) [] ∙ omega (arith, releases_append (fired B y).acts (alarm k (fired B y).code (again B.counter y.setting) ∷ []))))

    pub fire_done : PerformsOnWords (NamesAlarm k) (λ v. rings v.body 1 k) n b b₂
    fire_done m A r = rw (one_ring (view_shown b m).body k (fires_shown k b m r ∙ rang m A r)) (record { words = words m A r; released = released m A r })
