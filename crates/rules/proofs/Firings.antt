-- What the firings of a tick are made of, act by act: a start of a dormant task, a release of a sleeper, a wake-up stored, or nothing; then
-- the alarm. Assumes nothing.
use mathlib.Core.Bool.{Bool, true, false, cond}
use mathlib.Core.List.{List, [], ◌∷◌, ◌++◌}
use mathlib.Core.Logic.{inl, inr}
use mathlib.Core.Path.{◌≡◌, refl}
use Prim.Native.Nat.{ℕ, zero, suc}
use lib.Dec.{leb}
use borrow.Author.Tests.{not-false}
use Rattle.rules.specs.Codes.{Code, OK, E-NOEXS, E-DMT, H-NODMT, E-QOVR}
use Rattle.rules.specs.State.{Alarm, alarm_of, Body, task, wait_of, is_dormant, is_absent, sleeps}
use Rattle.rules.specs.Acts.{Act, start, release, wakeups, alarm, after, afters}
use Rattle.rules.specs.Verdicts.{Verdict, done, check, choose}
use Rattle.rules.specs.Tasks.{starting, waking}
use Rattle.rules.specs.Alarms.{fires, again, fired, firing, rings}
use Rattle.rules.specs.Sound.{KeptFits}

-- ---- lists of acts, each with what holds of it in the state that it finds

module _ (Q : Body → Act → Type 0) where
  abbrev pub Along : Body → List Act → Type 0
  Along b [] = Unit {0}
  Along b (a ∷ l) = Q b a × Along (after a b) l

  pub along_append : (l m : List Act) (b : Body) → Along b l → Along (afters l b) m → Along b (l ++ m)
  unfolding afters
  along_append [] m b h g = g
  along_append (a ∷ l) m b h g = (h.0, along_append l m (after a b) h.1 g)

pub along_map : (Q R : Body → Act → Type 0) → ((b : Body) (a : Act) → Q b a → R b a) → (l : List Act) (b : Body) → Along Q b l → Along R b l
along_map Q R f [] b h = tt
along_map Q R f (a ∷ l) b h = (f b a h.0, along_map Q R f l (after a b) h.1)

pub along_both : (Q R : Body → Act → Type 0) (l : List Act) (b : Body) → Along Q b l → Along R b l → Along (λ b a. Q b a × R b a) b l
along_both Q R [] b h g = tt
along_both Q R (a ∷ l) b h g = ((h.0, g.0), along_both Q R l (after a b) h.1 g.1)

-- what each act keeps, the list keeps; and each act finds it kept
pub along_keeps : (Q R : Body → Act → Type 0) (I : Body → Type 0) → ((b : Body) (a : Act) → I b → Q b a → R b a × I (after a b))
    → (l : List Act) (b : Body) → I b → Along Q b l → Along R b l × I (afters l b)
unfolding afters
along_keeps Q R I f [] b h g = (tt, h)
along_keeps Q R I f (a ∷ l) b h g =
    let s = f b a h g.0 in
    let r = along_keeps Q R I f l (after a b) s.1 g.1 in
    ((s.0, r.0), r.1)

pub afters_append : (l m : List Act) (b : Body) → afters (l ++ m) b ≡ afters m (afters l b)
unfolding afters
afters_append [] m b = refl
afters_append (a ∷ l) m b = afters_append l m (after a b)

-- ---- an act of an alarm that fires

pub data FiringAct (b : Body) : Act → Type 0 where
  starts : (i : ℕ) → is_dormant (task b i).state ≡ true → FiringAct b (start i)
  wakes : (i : ℕ) → sleeps (wait_of (task b i).state) ≡ true → FiringAct b (release i OK 0)
  stores : (i : ℕ) → is_absent (task b i).state ≡ false → is_dormant (task b i).state ≡ false → sleeps (wait_of (task b i).state) ≡ false → leb 15 (task b i).wakeups ≡ false
      → FiringAct b (wakeups i (suc (task b i).wakeups))
  keeps : (k : ℕ) (c : Code) → KeptFits (alarm_of b.counter k).wakes c → fires b.counter (alarm_of b.counter k).setting ≡ true
      → FiringAct b (alarm k c (again b.counter (alarm_of b.counter k).setting))

module _ (b : Body) (k : ℕ) (f : fires b.counter (alarm_of b.counter k).setting ≡ true) where
  abbrev x : Alarm
  x = alarm_of b.counter k

  data Fired (r : Verdict) : Type 0 where
    fires_so : Along FiringAct b (r.acts ++ alarm k r.code (again b.counter x.setting) ∷ []) → Fired r

  fired_check : (t : Bool) (c : Code) (r : Verdict) → KeptFits x.wakes c → (t ≡ false → Fired r) → Fired (check t c r)
  unfolding check
  fired_check true c r e h = fires_so (keeps k c e f, tt)
  fired_check false c r e h = h refl

  fired_choose : (t : Bool) (r s : Verdict) → (t ≡ true → Fired r) → (t ≡ false → Fired s) → Fired (choose t r s)
  unfolding choose
  fired_choose true r s h g = h refl
  fired_choose false r s h g = g refl

  kept_ok_lem : (t : Bool) → KeptFits t OK
  kept_ok_lem false = inl refl
  kept_ok_lem true = inl refl

  kept_absent : (t : Bool) → KeptFits t E-NOEXS
  kept_absent false = inr (inl refl)
  kept_absent true = inr (inl refl)

  -- done, by one act that leaves the alarms alone
  fired_done : (a : Act) → (after a b).counter ≡ b.counter → FiringAct b a → Fired (done (a ∷ []))
  fired_done a e h = fires_so (h, (rw e (keeps k OK (kept_ok_lem x.wakes) f), tt))

  pub firing_acts : Along FiringAct b (firing b k x)
  unfolding fired starting waking after
  firing_acts =
      elim (fired_check _ E-NOEXS _ (kept_absent x.wakes) (λ n. fired_choose x.wakes _ _
      (λ w. fired_check _ E-DMT _ (rw w (inr (inr (inl refl)))) (λ d. fired_choose _ _ _
      (λ s. fired_done (release x.task OK 0) refl (wakes x.task s))
      (λ s. fired_check _ E-QOVR _ (rw w (inr (inr (inr refl)))) (λ m. fired_done (wakeups x.task _) refl (stores x.task n d s m)))))
      (λ w. fired_check _ H-NODMT _ (rw w (inr (inr refl))) (λ d. fired_done (start x.task) refl (starts x.task (not-false _ d))))))
      [ fires_so h ↦ h ]

-- ---- all that fire at a tick

pub rings_acts : (n k : ℕ) (b : Body) → Along FiringAct b (rings b n k)
unfolding rings
rings_acts zero k b = tt
rings_acts (suc n) k b = go (fires b.counter (alarm_of b.counter k).setting) refl (rings_acts n (suc k) (afters acts b)) (rings_acts n (suc k) b)
  where
    acts : List Act
    acts = firing b k (alarm_of b.counter k)

    go : (t : Bool) → fires b.counter (alarm_of b.counter k).setting ≡ t → Along FiringAct (afters acts b) (rings (afters acts b) n (suc k)) → Along FiringAct b (rings b n (suc k))
        → Along FiringAct b (cond t (acts ++ rings (afters acts b) n (suc k)) (rings b n (suc k)))
    go true e g h = along_append FiringAct acts _ b (firing_acts b k e) g
    go false e g h = h

-- what holds of each act of a firing
pub rings_along : (Q : Body → Act → Type 0) → ((b : Body) (a : Act) → FiringAct b a → Q b a) → (n k : ℕ) (b : Body) → Along Q b (rings b n k)
rings_along Q f n k b = along_map FiringAct Q f (rings b n k) b (rings_acts n k b)
