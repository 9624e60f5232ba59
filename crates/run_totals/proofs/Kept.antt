-- A run keeps the number of tasks of its setup: so what is seen of its events has a task exactly if the setup has it. Assumes nothing.
use mathlib.Core.Bool.{Bool, true, false, cond}
use mathlib.Core.List.{List, [], ◌∷◌}
use mathlib.Core.Path.{◌≡◌, refl, sym, ap, ◌∙◌}
use Prim.Native.Nat.{ℕ, zero, suc, ◌+◌, ◌*◌, ◌/◌, ◌<◌, min}
use native.Mathlib.Omega.{arith}
use lib.Dec.{leb, ltb}
use lib.ListN.{length, take, drop, length-map}
use borrow.Author.Tests.{lt-ltb, le-ltb, ltb-true, ltb-false}
use Rattle.rules.specs.Ids.{once}
use Rattle.rules.specs.Setup.{S1, Read, got, refused, Setup}
use Rattle.rules.specs.Events.{Event}
use Rattle.rules.specs.View.{View}
use Rattle.rules.specs.Sound.{Sound}
use Rattle.rules.specs.Check.{sound?}
use Rattle.rules.specs.Kernel as Kernel
use Rattle.rules.specs.Kernel.{idle_task, idle, fresh, guarded, served, damaged, event}
use Rattle.rules.proofs.Sizes.{sizes_afters}
use Rattle.rules.proofs.Cells.{body_acts}
use Rattle.rules.proofs.Broken.{tasks_next}
use Rattle.run_reading.specs.Recorded.{Head, Item, begins, occurs, refuses, event_bytes, event_in, event_items, items_behind, read_head, items_of}
use Rattle.run_text.specs.Text.{unstarted, at, onward}
use Rattle.run_figures.specs.Figures.{Seen, seen_from}
use Rattle.run_totals.specs.Adding.{tasks_of, occurring, ran, ran_with}
use Rattle.run_totals.proofs.Rows.{having}

-- ---- states

abbrev tasks_in : View → ℕ
tasks_in v = length v.body.tasks

fresh_tasks : (u : Setup) → tasks_in (fresh u) ≡ length u.tasks
unfolding fresh idle
fresh_tasks u = rw (body_acts (Kernel.begins u) _) ((sizes_afters (Kernel.begins u) (idle u)).tasks ∙ length-map u.tasks idle_task)

guarded_tasks : (v : View) (e : Event) (d : Dec (Sound v)) → tasks_in (guarded v e d).next ≡ tasks_in v
unfolding guarded served damaged
guarded_tasks v e (yes s) = tasks_next v e
guarded_tasks v e (no h) = refl

event_tasks : (v : View) (e : Event) → tasks_in (event v e).next ≡ tasks_in v
unfolding event
event_tasks v e = guarded_tasks v e (sound? v)

-- ---- items behind a setup

abbrev Later : List Item → Type 0
Later [] = Unit {0}
Later (begins h ∷ l) = ⊥
Later (occurs n e ∷ l) = Later l
Later (refuses f p ∷ l) = Later l

one_more : (t : Bool) (n : ℕ) → once t + cond t n 0 ≡ cond t (suc n) 0
one_more true n = omega arith
one_more false n = refl

later_having : (i : ℕ) (t : Bool) (v : View) (l : List Item) → Later l → ltb i (min (tasks_in v) 32) ≡ t → having i (seen_from (at v) l) ≡ cond t (occurring l) 0
unfolding having seen_from onward occurring
later_having i true v [] o e = refl
later_having i false v [] o e = refl
later_having i t v (begins h ∷ l) o e = absurd o
later_having i t v (occurs n x ∷ l) o e =
    let q : ltb i (min (tasks_in (event v x).next) 32) ≡ t = ap (λ (m : ℕ). ltb i (min m 32)) (event_tasks v x) ∙ e in
    ap (λ (m : ℕ). once (ltb i (min (tasks_in (event v x).next) 32)) + m) (later_having i t (event v x).next l o q) ∙ ap (λ (b : Bool). once b + cond t (occurring l) 0) q ∙ one_more t (occurring l)
later_having i t v (refuses f p ∷ l) o e = later_having i t v l o e

later_seen : (v : View) (l : List Item) → Later l → length (seen_from (at v) l) ≡ occurring l
unfolding seen_from onward occurring
later_seen v [] o = refl
later_seen v (begins h ∷ l) o = absurd o
later_seen v (occurs n e ∷ l) o = ap suc (later_seen (event v e).next l o)
later_seen v (refuses f p ∷ l) o = later_seen v l o

events_later : (n number place : ℕ) (s : List ℕ) → Later (event_items n number place s)
unfolding event_items
events_later zero number place [] = tt
events_later zero number place (b ∷ s) = tt
events_later (suc n) number place s = go (leb event_bytes (length s)) (events_later n (suc number) (place + event_bytes) (drop event_bytes s))
  where
    go : (t : Bool) → Later (event_items n (suc number) (place + event_bytes) (drop event_bytes s))
        → Later (cond t (occurs number (event_in (take event_bytes s)) ∷ event_items n (suc number) (place + event_bytes) (drop event_bytes s)) (refuses S1 (place + 4 * (length s / 4)) ∷ []))
    go true r = r
    go false r = tt

-- ---- a run

within : (i n : ℕ) → i < 32 → ltb i (min n 32) ≡ ltb i n
within i n h = go (ltb i n) refl
  where
    go : (t : Bool) → ltb i n ≡ t → ltb i (min n 32) ≡ ltb i n
    go true e = lt-ltb i (min n 32) (omega (arith, h, ltb-true i n e)) ∙ sym e
    go false e = le-ltb i (min n 32) (omega (arith, ltb-false i n e)) ∙ sym e

behind_having : (s : List ℕ) (r : Read Head) (i : ℕ) → i < 32 → having i (seen_from unstarted (items_behind s r)) ≡ cond (ltb i (tasks_of r)) (occurring (items_behind s r)) 0
unfolding items_behind having seen_from onward occurring
behind_having s (refused f place) i h = rw (le-ltb i 0 (omega arith)) refl
behind_having s (got x j) i h =
    later_having i (ltb i (length x.setup.tasks)) (fresh x.setup) (event_items x.events 1 j (drop j s)) (events_later x.events 1 j (drop j s))
    (ap (λ (m : ℕ). ltb i (min m 32)) (fresh_tasks x.setup) ∙ within i (length x.setup.tasks) h)

behind_seen : (s : List ℕ) (r : Read Head) → length (seen_from unstarted (items_behind s r)) ≡ occurring (items_behind s r)
unfolding items_behind seen_from onward occurring
behind_seen s (refused f place) = refl
behind_seen s (got x j) = later_seen (fresh x.setup) (event_items x.events 1 j (drop j s)) (events_later x.events 1 j (drop j s))

-- what was seen of the events of a run
abbrev pub seen : List ℕ → List Seen
seen s = seen_from unstarted (items_of s)

-- those that left a state with a task are all of them if the setup has it, else none
pub run_having : (s : List ℕ) (i : ℕ) → i < 32 → having i (seen s) ≡ ran_with i s
unfolding items_of
run_having s i h = behind_having s (read_head s) i h

pub run_seen : (s : List ℕ) → length (seen s) ≡ ran s
unfolding items_of
run_seen s = behind_seen s (read_head s)
