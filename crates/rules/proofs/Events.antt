-- An event on a sound state: the guard lets it through, and the state after it is sound. And the fresh state is sound. Assumes nothing.
use mathlib.Core.List.{List, [], ◌∷◌}
use mathlib.Core.Path.{◌≡◌, refl, ap}
use Prim.Native.Nat.{ℕ}
use lib.IntN.{ℤ}
use Rattle.rules.specs.Setup.{got, setup, Setup}
use Rattle.rules.specs.Events.{Event, Words, AllWords}
use Rattle.rules.specs.View.{View}
use Rattle.rules.specs.Answers.{read_cell}
use Rattle.rules.specs.Sound.{Sound}
use Rattle.rules.specs.Check.{sound?}
use Rattle.rules.specs.State.{pool}
use Rattle.rules.specs.Places.{waiters, belongs}
use Rattle.rules.specs.Kernel.{begins, fresh, next, served, damaged, guarded, event, guarded_cell, cell}
use Rattle.rules.specs.Runs.{states}
use Rattle.rules.proofs.Accepted.{setup_good, nobody_belongs, all_there, unstarted_sound}
use Rattle.rules.proofs.Calls.{sound_acts, sound_next, begins_steps}

-- on a sound state an event is served, on any other it is told what is broken
pub event_served : (v : View) (e : Event) → Sound v → event v e ≡ served v e
unfolding event guarded
event_served v e s = go (sound? v)
  where
    go : (d : Dec (Sound v)) → guarded v e d ≡ served v e
    go (yes t) = refl
    go (no h) = absurd (h s)

pub event_damaged : (v : View) (e : Event) → (Sound v → ⊥) → event v e ≡ damaged v
unfolding event guarded
event_damaged v e h = go (sound? v)
  where
    go : (d : Dec (Sound v)) → guarded v e d ≡ damaged v
    go (yes t) = absurd (h t)
    go (no k) = refl

pub cell_reads : (v : View) (a : ℤ) → Sound v → cell v a ≡ read_cell v.body a
unfolding cell guarded_cell
cell_reads v a s = go (sound? v)
  where
    go : (d : Dec (Sound v)) → guarded_cell v a d ≡ read_cell v.body a
    go (yes t) = refl
    go (no h) = absurd (h s)

pub event_next : (v : View) (e : Event) → Sound v → (event v e).next ≡ next v e
unfolding served
event_next v e s = ap (λ o. o.next) (event_served v e s)

-- every event keeps soundness
pub sound_event : (v : View) (e : Event) → Sound v → Words e → Sound (event v e).next
sound_event v e s w = rw (event_next v e s) (sound_next v e s w)

pub sound_states : (v : View) (l : List Event) → Sound v → AllWords l → Sound (states v l)
unfolding states
sound_states v [] s w = s
sound_states v (e ∷ l) s w = sound_states (event v e).next l (sound_event v e s w.0) w.1

-- the fresh state of an accepted setup is sound
pub fresh_sound : (s : List ℕ) (u : Setup) (i : ℕ) → setup s ≡ got u i → Sound (fresh u)
unfolding fresh belongs
fresh_sound s u i e = sound_acts (begins u) _ (unstarted_sound u (setup_good s u i e)) (begins_steps _ u (λ q j. nobody_belongs u (waiters pool q) j, all_there u))
