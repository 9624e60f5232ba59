-- The check of a memory is exact: it passes just where the links are whole and the view shown is sound. Assumes nothing.
use mathlib.Core.Bool.{true}
use mathlib.Core.List.{List}
use mathlib.Core.Logic.{◌↔◌}
use mathlib.Core.Path.{◌≡◌, refl, sym, ◌∙◌, subst}
use Prim.Native.Nat.{ℕ}
use lib.ListN.{length}
use Rattle.rules.specs.Ids.{In}
use Rattle.rules.specs.State.{wait_of}
use Rattle.rules.specs.Places.{Place, Exists}
use Rattle.rules.specs.View.{line}
use Rattle.rules.specs.Sound.{Unserved, AllUnserved, SoundTask, SoundBody, Queue}
use Rattle.rules.proofs.Ids.{length_ids}
use Rattle.rules.proofs.Lines.{line_tabulate, shape_tabulate}
use Rattle.memory_columns.specs.declared.Rings.{Rings}
use Rattle.memory_columns.specs.declared.Rings.TheVariants.{Tasks, Messages, Blocks}
use Rattle.memory_columns.specs.Layout as Layout
use Rattle.memory_columns.specs.Layout.{state_words, max_messages, entry}
use Rattle.memory_picture.specs.Picture.{task_shown, tasks_shown, store_shown, body_shown, rings_at, line_shown, view_shown, nonempty_shown, WholeRings, Whole, Accepted}
use Rattle.memory_running.specs.Running.{ready_marks}
use Rattle.memory_running.proofs.Running.{marks_law}
use Rattle.check_state.specs.Unserved.{ready_marked, accepts}
use Rattle.check_ranges.proofs.Decisions.{Decides, decides_as, decides_and, decides_eq}
use Rattle.check_ranges.proofs.Ranges.{Ranges, ranges_law}
use Rattle.check_queues.proofs.Standing.{task_is, InRings, queued_law}
use Rattle.check_state.proofs.Unserved.{unserved_law}

module _ (b msgs : List ℕ) where
  -- ---- what is shown

  pub line_is : (q : Place) → Exists (store_shown b msgs) q → line (view_shown b msgs) q ≡ line_shown b q
  unfolding view_shown
  line_is q h = line_tabulate (store_shown b msgs) (line_shown b) q h

  -- ---- the queues' rule, of each sort

  abbrev Kept : Rings → Type 0
  Kept r = (q : Place) → InRings (store_shown b msgs) r q → Queue (body_shown b msgs) q (line_shown b q)

  queues : ((r : Rings) → Kept r) → (q : Place) → Exists (store_shown b msgs) q → Queue (body_shown b msgs) q (line (view_shown b msgs) q)
  queues f q h = subst (Queue (body_shown b msgs) q) (sym (line_is q h)) (f (rings_at q) q (h, refl))

  kept : ((q : Place) → Exists (store_shown b msgs) q → Queue (body_shown b msgs) q (line (view_shown b msgs) q)) → (r : Rings) → Kept r
  kept f r q h = subst (Queue (body_shown b msgs) q) (line_is q h.0) (f q h.0)

  -- what holds of each sort
  each_sort : (P : Rings → Type 0) → P Tasks → P Messages → P Blocks → (r : Rings) → P r
  each_sort P t m k Tasks = t
  each_sort P t m k Messages = m
  each_sort P t m k Blocks = k

  -- ---- the body

  abbrev NobodyServed : Type 0
  NobodyServed = (i : ℕ) → In i (tasks_shown b) → Unserved (store_shown b msgs) (wait_of (task_shown b i).state)

  pub count : (i : ℕ) → In i (length (body_shown b msgs).tasks) → In i (tasks_shown b)
  unfolding body_shown
  count i h = subst (In i) (length_ids (task_shown b) (tasks_shown b)) h

  pub recount : (i : ℕ) → In i (tasks_shown b) → In i (length (body_shown b msgs).tasks)
  unfolding body_shown
  recount i h = subst (In i) (sym (length_ids (task_shown b) (tasks_shown b))) h

  pub body_sound : Ranges b msgs → SoundBody (body_shown b msgs)
  unfolding body_shown
  body_sound R = record {
    sizes = R.sizes;
    store = R.store;
    tasks = λ i h. subst (SoundTask (store_shown b msgs)) (sym (task_is b msgs i (count i h))) (R.tasks i (count i h));
    handlers = R.handlers;
    counter = R.counter;
  }

  pub sound_shown : SoundBody (body_shown b msgs) → (i : ℕ) → In i (tasks_shown b) → SoundTask (store_shown b msgs) (task_shown b i)
  unfolding body_shown
  sound_shown S i h = subst (SoundTask (store_shown b msgs)) (task_is b msgs i h) (S.tasks i (recount i h))

  all_unserved : NobodyServed → AllUnserved (body_shown b msgs)
  unfolding body_shown
  all_unserved f i h = subst (λ t. Unserved (store_shown b msgs) (wait_of t.state)) (sym (task_is b msgs i (count i h))) (f i (count i h))

  -- ---- the check

  accepted_of : Whole b msgs → Ranges b msgs → NobodyServed → ((r : Rings) → Kept r) → Accepted b msgs
  unfolding view_shown body_shown
  accepted_of W R f k = record { whole = W; sound = record { body = body_sound R; shape = shape_tabulate (store_shown b msgs) (line_shown b); queues = queues k; unserved = all_unserved f } }

  ranges_of_lem : Accepted b msgs → Ranges b msgs
  unfolding view_shown body_shown
  ranges_of_lem A = let S = A.sound.body in record { sizes = S.sizes; low = A.whole.low; store = S.store; tasks = sound_shown S; handlers = S.handlers; counter = S.counter }

  nobody_of : Accepted b msgs → NobodyServed
  unfolding view_shown
  nobody_of A i h = subst (λ t. Unserved (store_shown b msgs) (wait_of t.state)) (task_is b msgs i h) (unfold body_shown in A.sound.unserved i (recount i h))

  queues_of : Accepted b msgs → (q : Place) → Exists (store_shown b msgs) q → Queue (body_shown b msgs) q (line (view_shown b msgs) q)
  unfolding view_shown body_shown
  queues_of A q h = A.sound.queues q h

-- ---- the word of nonempty ready queues

ready_law : (b msgs : List ℕ) → Ranges b msgs → WholeRings b msgs Tasks → Decides (ready_marked b) (entry Layout.nonempty b 0 ≡ nonempty_shown b)
unfolding body_shown store_shown
ready_law b msgs R W = let e = marks_law b msgs W R.sizes.priorities.1 in decides_as (decides_eq (entry Layout.nonempty b 0) (ready_marks b)) (λ h. h ∙ e) (λ h. h ∙ sym e)

-- THE THEOREM

pub accepts_law : (b msgs : List ℕ) → length b ≡ state_words → length msgs ≡ max_messages → (accepts b msgs ≡ true) ↔ Accepted b msgs
unfolding accepts
accepts_law b msgs size marks = decides_as
    (decides_and (ranges_law b msgs) (λ R. decides_and (queued_law b msgs size R Tasks) (λ T. decides_and (ready_law b msgs R T.0) (λ N. decides_and (queued_law b msgs size R Messages)
    (λ M. decides_and (queued_law b msgs size R Blocks) (λ B. unserved_law b msgs size R M.0 M.1))))))
    (λ h. accepted_of b msgs
    (record { size = size; marks = marks; low = h.0.low; rings = each_sort b msgs (WholeRings b msgs) h.1.0.0 h.1.1.1.0.0 h.1.1.1.1.0.0; word = h.1.1.0 })
    h.0 h.1.1.1.1.1 (each_sort b msgs (Kept b msgs) h.1.0.1 h.1.1.1.0.1 h.1.1.1.1.0.1))
    (λ A. let q : (r : Rings) → WholeRings b msgs r × Kept b msgs r = λ r. (A.whole.rings r, kept b msgs (queues_of b msgs A) r) in
    (ranges_of_lem b msgs A, (q Tasks, (A.whole.word, (q Messages, (q Blocks, nobody_of b msgs A))))))
