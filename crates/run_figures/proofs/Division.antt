-- Whatever the division of a run into parts, its figures are those that the rules give from the joined bytes. Assumes nothing.
use mathlib.Core.Bool.{Bool, true, false, cond}
use mathlib.Core.List.{List, [], ◌∷◌, ◌++◌, map}
use mathlib.Core.Path.{◌≡◌, refl, sym, ap, ◌∙◌, subst}
use Prim.Native.Nat.{ℕ, zero, suc, ◌+◌, ◌*◌, ◌/◌, ◌<◌, min}
use native.Mathlib.Omega.{arith}
use lib.Dec.{leb}
use lib.IntN.{ℤ}
use lib.ListN.{length, take, drop}
use Rattle.rules.specs.Setup.{S1, Read, got, refused}
use Rattle.rules.specs.Codes.{number}
use Rattle.rules.specs.Events.{Event}
use Rattle.rules.specs.View.{View}
use Rattle.rules.specs.Kernel.{fresh, event}
use Rattle.rules.specs.Writing.{joined}
use Rattle.memory_picture.specs.Picture.{tasks_shown, Memory, view_in}
use Rattle.kernel_start.specs.Starting.{Holds}
use Rattle.kernel_steps.specs.Steps.{Reply, Step, Link}
use Rattle.call_words.proofs.Tasks.{tasks_count}
use Rattle.call_reading.specs.Reading.{number_at}
use Rattle.call_reading.proofs.Readings.{number_read}
use Rattle.run_reading.specs.Recorded.{Head, Item, begins, occurs, refuses, event_bytes, event_in, event_items, items_behind, read_head, items_of}
use Rattle.run_reading.specs.Recorder.{Recorder, heading, running, stopped, ended, begun, items, after, on_end, at_input_end, items_in, after_all}
use Rattle.run_reading.proofs.Division as Reading
use Rattle.run_tally.specs.Tables.{table_counted, codes_counted}
use Rattle.run_text.specs.Text.{Stage, unstarted, at, onward, queues}
use Rattle.run_figures.specs.Figures.{Seen, Figures, figures, none, counted, counted_all, state_in, seen_behind, seen_of, seen_from, figures_of}
use Rattle.run_figures.specs.Counting.{Lent, seen_in, seen_link, Went, Taken}
use Rattle.run_figures.proofs.Going.{counted_alike, map_append, counted_append, went_append}

-- ---- parts in turn

pub record Gone (l : List Item) (old new : Lent) : Type 0 where
  pub links : List Link
  pub went : Went l old.memory links new.memory
  pub counts : new.figures ≡ counted_all old.figures (map seen_link links)

gone_then : (a b : List Item) (old mid new : Lent) → Gone a old mid → Gone b mid new → Gone (a ++ b) old new
gone_then a b old mid new G H = record {
  links = G.links ++ H.links;
  went = went_append a b old.memory mid.memory new.memory G.links H.links G.went H.went;
  counts = H.counts ∙ ap (λ (f : Figures). counted_all f (map seen_link H.links)) G.counts ∙ sym (counted_append old.figures (map seen_link G.links) (map seen_link H.links)) ∙ ap (counted_all old.figures) (sym (map_append G.links H.links));
}

taken_gone : (l : List (List ℕ)) (old new : Lent) → Taken l old new → Gone (items_in old.recorder l) old new
unfolding items_in counted_all
taken_gone [] old new e = record { links = []; went = (refl, ap (λ (x : Lent). x.memory) e); counts = ap (λ (x : Lent). x.figures) e }
taken_gone (s ∷ l) old new T =
    let mid : Lent = T.0 in
    let C = T.2 in
    let r : Gone (items_in mid.recorder l) mid new = taken_gone l mid new T.3 in
    gone_then (items old.recorder s) (items_in (after old.recorder s) l) old mid new (record { links = C.links; went = C.went; counts = C.counts })
    (subst (λ (x : Recorder). Gone (items_in x l) mid new) C.recorder r)

-- ---- what is seen in the memory is what the rules show

seen_alike : (m : Memory) (v : View) → Holds m v → (c d : ℤ) → c ≡ d → (f : Figures) → counted f (seen_in c m.words) ≡ counted f (seen_behind d v)
seen_alike m v H c d e f = subst (λ (x : View). counted f (seen_in c m.words) ≡ counted f (seen_behind d x)) H.view shown
  where
    n : length (view_in m).body.tasks ≡ tasks_shown m.words
    n = tasks_count m.words m.marks

    state : (i : ℕ) → i < min (tasks_shown m.words) 32 → number_at m.words (suc i) ≡ state_in (view_in m) (suc i)
    state i h = sym (number_read m.words m.marks (suc i) (omega arith, omega (arith, h, n)) H.accepted)

    rows : table_counted (min (tasks_shown m.words) 32) (λ i. number_at m.words (suc i)) f.table ≡ table_counted (min (length (view_in m).body.tasks) 32) (λ i. state_in (view_in m) (suc i)) f.table
    rows =
        counted_alike (min (tasks_shown m.words) 32) (λ i. number_at m.words (suc i)) (λ i. state_in (view_in m) (suc i)) state f.table
        ∙ ap (λ (k : ℕ). table_counted (min k 32) (λ i. state_in (view_in m) (suc i)) f.table) (sym n)

    shown : counted f (seen_in c m.words) ≡ counted f (seen_behind d (view_in m))
    shown = λ z. figures (rows z) (codes_counted f.codes (e z))

-- ---- the stages of a run

-- the memory is that of the stage
abbrev Stands : Stage View → Memory → Type 0
Stands unstarted m = Unit {0}
Stands (at v) m = Holds m v

-- no event comes before the setup
abbrev Ordered : Stage View → List Item → Type 0
Ordered x [] = Unit {0}
Ordered x (begins h ∷ l) = Ordered (at (fresh h.setup)) l
Ordered unstarted (occurs n e ∷ l) = ⊥
Ordered (at v) (occurs n e ∷ l) = Ordered (at (event v e).next) l
Ordered x (refuses f p ∷ l) = Ordered x l

step_holds : (e : Event) (v : View) (old : Memory) (r : Reply) (new : Memory) → Holds old v → Step e old r new → Holds new (event v e).next × (r.code ≡ number (event v e).answer.code)
step_holds e v old r new H S = (
  record { accepted = S.accepted H.accepted; view = S.shows H.accepted ∙ ap (λ (x : View). (event x e).next) H.view },
  ap (λ (x : Reply). x.code) (S.answers H.accepted) ∙ ap (λ (x : View). number (event x e).answer.code) H.view,
)

seen_law : (l : List Item) (x : Stage View) (old new : Memory) (k : List Link) → Went l old k new → Stands x old → Ordered x l → (f : Figures) → counted_all f (map seen_link k) ≡ counted_all f (seen_from x l)
unfolding seen_from onward counted_all
seen_law [] unstarted old new k w s o f = ap (λ (z : List Link). counted_all f (map seen_link z)) w.0
seen_law [] (at v) old new k w s o f = ap (λ (z : List Link). counted_all f (map seen_link z)) w.0
seen_law (begins h ∷ l) unstarted old new k w s o f = seen_law l (at (fresh h.setup)) w.0 new k w.2 w.1 o f
seen_law (begins h ∷ l) (at v) old new k w s o f = seen_law l (at (fresh h.setup)) w.0 new k w.2 w.1 o f
seen_law (occurs n e ∷ l) unstarted old new k w s o f = absurd o
seen_law (occurs n e ∷ l) (at v) old new k w s o f =
    let a : Link = w.0 in
    let q = step_holds e v old a.reply a.left s w.4 in
    ap (λ (z : List Link). counted_all f (map seen_link z)) w.2
    ∙ ap (λ (g : Figures). counted_all g (map seen_link w.1)) (seen_alike a.left (event v e).next q.0 a.reply.code (number (event v e).answer.code) q.1 f)
    ∙ seen_law l (at (event v e).next) a.left new w.1 w.5 q.0 o (counted f (seen_behind (number (event v e).answer.code) (event v e).next))
seen_law (refuses g p ∷ l) unstarted old new k w s o f = seen_law l unstarted old new k w s o f
seen_law (refuses g p ∷ l) (at v) old new k w s o f = seen_law l (at v) old new k w s o f

-- ---- a whole input

events_ordered : (n number place : ℕ) (s : List ℕ) (v : View) → Ordered (at v) (event_items n number place s)
unfolding event_items
events_ordered zero number place [] v = tt
events_ordered zero number place (b ∷ s) v = tt
events_ordered (suc n) number place s v = go (leb event_bytes (length s)) (λ w. events_ordered n (suc number) (place + event_bytes) (drop event_bytes s) w)
  where
    go : (t : Bool) → ((w : View) → Ordered (at w) (event_items n (suc number) (place + event_bytes) (drop event_bytes s)))
        → Ordered (at v) (cond t (occurs number (event_in (take event_bytes s)) ∷ event_items n (suc number) (place + event_bytes) (drop event_bytes s)) (refuses S1 (place + 4 * (length s / 4)) ∷ []))
    go true r = r (event v (event_in (take event_bytes s))).next
    go false r = tt

behind_ordered : (s : List ℕ) (r : Read Head) → Ordered unstarted (items_behind s r)
unfolding items_behind
behind_ordered s (refused f place) = tt
behind_ordered s (got h i) = events_ordered h.events 1 i (drop i s) (fresh h.setup)

run_ordered : (s : List ℕ) → Ordered unstarted (items_of s)
unfolding items_of
run_ordered s = behind_ordered s (read_head s)

ordered_front : (a b : List Item) (x : Stage View) → Ordered x (a ++ b) → Ordered x a
ordered_front [] b x o = tt
ordered_front (begins h ∷ a) b x o = ordered_front a b (at (fresh h.setup)) o
ordered_front (occurs n e ∷ a) b unstarted o = o
ordered_front (occurs n e ∷ a) b (at v) o = ordered_front a b (at (event v e).next) o
ordered_front (refuses f p ∷ a) b x o = ordered_front a b x o

-- nothing is seen of the end
abbrev Quiet : List Item → Type 0
Quiet [] = Unit {0}
Quiet (begins h ∷ l) = ⊥
Quiet (occurs n e ∷ l) = ⊥
Quiet (refuses f p ∷ l) = Quiet l

end_read : (r : Read Head) → Quiet (on_end r)
end_read (got h i) = tt
end_read (refused f place) = tt

end_quiet : (r : Recorder) → Quiet (at_input_end r)
unfolding at_input_end
end_quiet (heading l) = end_read (read_head l)
end_quiet (running zero number place l) = tt
end_quiet (running (suc n) number place l) = tt
end_quiet stopped = tt
end_quiet ended = tt

quiet_unseen : (x : Stage View) (l : List Item) → Quiet l → seen_from x l ≡ []
unfolding seen_from onward
quiet_unseen x [] q = refl
quiet_unseen x (begins h ∷ l) q = absurd q
quiet_unseen x (occurs n e ∷ l) q = absurd q
quiet_unseen unstarted (refuses f p ∷ l) q = quiet_unseen unstarted l q
quiet_unseen (at v) (refuses f p ∷ l) q = quiet_unseen (at v) l q

seen_front : (x : Stage View) (a b : List Item) → Quiet b → seen_from x (a ++ b) ≡ seen_from x a
unfolding seen_from
seen_front x [] b q = quiet_unseen x b q
seen_front x (i ∷ a) b q = ap (λ (l : List Seen). seen_of x i ++ l) (seen_front (onward queues x i) a b q)

-- whatever the division, the figures are those of the joined bytes
pub any_division : (l : List (List ℕ)) (old new : Lent) → old.recorder ≡ begun → old.figures ≡ none → Taken l old new → new.figures ≡ figures_of (joined l)
unfolding figures_of
any_division l old new e z T =
    let G : Gone (items_in begun l) old new = subst (λ (r : Recorder). Gone (items_in r l) old new) e (taken_gone l old new T) in
    let w : items_in begun l ++ at_input_end (after_all begun l) ≡ items_of (joined l) = Reading.any_division l in
    let o : Ordered unstarted (items_in begun l) = ordered_front (items_in begun l) (at_input_end (after_all begun l)) unstarted (subst (Ordered unstarted) (sym w) (run_ordered (joined l))) in
    G.counts ∙ ap (λ (f : Figures). counted_all f (map seen_link G.links)) z
    ∙ seen_law (items_in begun l) unstarted old.memory new.memory G.links G.went tt o none
    ∙ ap (counted_all none) (sym (seen_front unstarted (items_in begun l) (at_input_end (after_all begun l)) (end_quiet (after_all begun l))) ∙ ap (seen_from unstarted) w)
