-- In a sound view each task, each message and each block has a home: the one queue to which it belongs, if any. So the link columns of its form are whole rings
-- that hold its lines. Assumes nothing.
use mathlib.Core.Bool.{Bool, true, false, ◌&&◌, false≢true}
use mathlib.Core.List.{List, [], ◌∷◌, map, reverse}
use mathlib.Core.Logic.{◌⊎◌, inl, inr}
use mathlib.Core.Option.{Option, none, some}
use mathlib.Core.Path.{◌≡◌, refl, sym, ap, subst}
use Prim.Native.Nat.{ℕ, zero, suc, ◌+◌, ◌-◌, ◌*◌, ◌/◌, ◌%◌, ◌^◌, ◌≤◌, ◌<◌}
use native.Mathlib.Omega.{arith}
use lib.Dec.{eqb, leb, lit≤}
use lib.ListN.{length}
use borrow.Author.Tests.{eq-eqb, eqb-true, le-leb, lt-leb}
use Rattle.rules.specs.Ids.{of, In}
use Rattle.rules.specs.State.{Kind, semaphore, flag, mailbox, pool, asleep, timed, on, State, dormant, ready, suspended, absent, waiting, waiting_suspended, Store, Body, task, nobody, objects, wait_of, is_absent, is_ready}
use Rattle.rules.specs.Places.{Place, ready_at, waiters, mail, free_in, Sort, tasks, messages, blocks, sort_at, same_kind, awaits, lies, belongs, at, line_at, Exists, population}
use Rattle.rules.specs.View.{View}
use Rattle.rules.specs.Sound.{Sizes, LiesWell, WaitNumbers, Known, Sound}
use Rattle.rules.proofs.Ids.{inside}
use Rattle.rules.proofs.Queues.{belongs_stands, stands_belongs}
use Rattle.rules_runs.proofs.Rising.{one_line}
use Rattle.rules.proofs.Waits.{both_true, same_kind_true}
use Rattle.memory_rings.specs.Rings.{IsId, All, Out, Stands, Distinct, line_of, Linked}
use Rattle.memory_rings.proofs.Lists.{all_map, all_reverse, all_at}
use Rattle.memory_columns.specs.declared.Rings.{Rings}
use Rattle.memory_columns.specs.declared.Rings.TheVariants.{Tasks, Messages, Blocks}
use Rattle.memory_columns.specs.Layout as Layout
use Rattle.memory_columns.specs.Layout.{max_priorities, max_tasks, max_objects, max_messages, max_blocks, block_nodes, ready_node, wait_node, before_pool, block_node, next_of}
use Rattle.memory_picture.specs.Picture.{anchor, rings_at, numbers_of, Used}
use Rattle.memory_picture.specs.Form.{task_home, mail_home, block_home, home_of, ids_kept, task_place, mail_place, free_place, place_of, nodes_of, node_lines, ring_link, run}
use Rattle.memory_picture.proofs.Counts.{stands_times, times_stands, few_distinct}
use Rattle.memory_picture.proofs.FormLinks.{Housed, Lives, link_below, linked_lines, line_back}

-- ---- lines of nodes

known_ids : (m n : ℕ) → m ≤ n → (l : List ℕ) → Known m l → All (IsId n) l
known_ids m n r [] h = tt
known_ids m n r (x ∷ l) h = ((h.0.0, omega (arith, h.0.1)), known_ids m n r l h.1)

-- the numbers of nodes are the line again
pub numbers_nodes : (s : Sort) (l : List ℕ) → numbers_of s (nodes_of s l) ≡ l
numbers_nodes tasks l = refl
numbers_nodes messages l = refl
numbers_nodes (blocks p) [] = refl
numbers_nodes (blocks p) (k ∷ l) = let e : block_node p k - before_pool p ≡ k = omega arith in rw e (ap (λ (m : List ℕ). k ∷ m) (numbers_nodes (blocks p) l))

module _ (p : ℕ) where
  block_stands : (i : ℕ) (l : List ℕ) → Stands i (map (block_node p) l) → (k : ℕ) × Stands k l × (block_node p k ≡ i)
  block_stands i [] s = absurd s
  block_stands i (x ∷ l) (inl e) = (x, inl refl, e)
  block_stands i (x ∷ l) (inr s) = let r = block_stands i l s in (r.0, inr r.1, r.2)

  stands_block : (k : ℕ) (l : List ℕ) → Stands k l → Stands (block_node p k) (map (block_node p) l)
  stands_block k [] s = absurd s
  stands_block k (x ∷ l) (inl e) = inl (ap (block_node p) e)
  stands_block k (x ∷ l) (inr s) = inr (stands_block k l s)

  blocks_distinct : (l : List ℕ) → Distinct l → Distinct (map (block_node p) l)
  blocks_distinct [] d = tt
  blocks_distinct (x ∷ l) d = (out l d.0, blocks_distinct l d.1)
    where
      out : (m : List ℕ) → Out x m → Out (block_node p x) (map (block_node p) m)
      out [] o = tt
      out (y ∷ m) o = ((λ e. o.0 (omega arith)), out m o.1)

  -- of a pool that there is
  blocks_ids : (n m : ℕ) → In p n → m ≤ max_blocks → (l : List ℕ) → Known m l → All (IsId (max_blocks * n)) (map (block_node p) l)
  blocks_ids n m h r [] k = tt
  blocks_ids n m h r (x ∷ l) k = ((omega (arith, k.0.0), omega (arith, k.0.1, h.0, h.1)), blocks_ids n m h r l k.1)

-- ---- anchors

-- the anchors of wait queues lie behind those of the ready queues, and those of a kind behind those of the kinds before it
not_ready : (k o : ℕ) → 2 ≤ k → 1 ≤ o → leb (wait_node k o) (ready_node max_priorities) ≡ false
not_ready k o h r = lt-leb (wait_node k o) (ready_node max_priorities) (omega arith)

not_before : (j k o : ℕ) → j < k → 1 ≤ o → leb (wait_node k o) (wait_node j max_objects) ≡ false
not_before j k o h r = lt-leb (wait_node k o) (wait_node j max_objects) (omega arith)

-- the largest number of nodes that are ids
abbrev max_ids : Rings → ℕ
max_ids Tasks = max_tasks
max_ids Messages = max_messages
max_ids Blocks = block_nodes

module _ (b : Body) (S : Sizes b) where
  anchored : (q : Place) → Exists b.store q → (max_ids (rings_at q) < anchor q) × (anchor q < (next_of (rings_at q)).width)
  unfolding anchor
  anchored (ready_at p) h = (omega (arith, h.0), omega (arith, h.1, S.priorities.1))
  anchored (waiters semaphore o) h = (omega (arith, h.0), omega (arith, h.1, S.semaphores))
  anchored (waiters flag o) h = (omega (arith, h.0), omega (arith, h.1, S.flags))
  anchored (waiters mailbox o) h = (omega (arith, h.0), omega (arith, h.1, S.mailboxes))
  anchored (waiters pool o) h = (omega (arith, h.0), omega (arith, h.1, S.pools))
  anchored (mail m) h = (omega (arith, h.0), omega (arith, h.1, S.mailboxes))
  anchored (free_in p) h = (omega (arith, h.0), omega (arith, h.1, S.pools))

  pub few_ids : (r : Rings) → ids_kept b r ≤ max_ids r
  few_ids Tasks = S.tasks.1
  few_ids Messages = S.messages
  few_ids Blocks = omega (arith, S.pools)

  ids_room : (r : Rings) → ids_kept b r < (next_of r).width
  ids_room Tasks = omega (arith, S.tasks.1)
  ids_room Messages = omega (arith, S.messages)
  ids_room Blocks = omega (arith, S.pools)

  pub place_back : (q : Place) → Exists b.store q → place_of (rings_at q) (anchor q) ≡ q
  unfolding anchor task_place mail_place free_place
  place_back (ready_at p) h = rw (le-leb (ready_node p) (ready_node max_priorities) (omega (arith, h.1, S.priorities.1))) (ap ready_at (omega arith))
  place_back (waiters semaphore o) h =
      rw (not_ready Layout.semaphores o (lit≤ tt) h.0, le-leb (wait_node Layout.semaphores o) (wait_node Layout.semaphores max_objects) (omega (arith, h.1, S.semaphores))) (ap (waiters semaphore) (omega arith))
  place_back (waiters flag o) h =
      rw (
        not_ready Layout.flags o (lit≤ tt) h.0,
        not_before Layout.semaphores Layout.flags o (lit≤ tt) h.0,
        le-leb (wait_node Layout.flags o) (wait_node Layout.flags max_objects) (omega (arith, h.1, S.flags)),
      ) (ap (waiters flag) (omega arith))
  place_back (waiters mailbox o) h =
      rw (
        not_ready Layout.mailboxes o (lit≤ tt) h.0,
        not_before Layout.semaphores Layout.mailboxes o (lit≤ tt) h.0,
        not_before Layout.flags Layout.mailboxes o (lit≤ tt) h.0,
        le-leb (wait_node Layout.mailboxes o) (wait_node Layout.mailboxes max_objects) (omega (arith, h.1, S.mailboxes)),
      ) (ap (waiters mailbox) (omega arith))
  place_back (waiters pool o) h =
      rw (
        not_ready Layout.pools o (lit≤ tt) h.0,
        not_before Layout.semaphores Layout.pools o (lit≤ tt) h.0,
        not_before Layout.flags Layout.pools o (lit≤ tt) h.0,
        not_before Layout.mailboxes Layout.pools o (lit≤ tt) h.0,
      ) (ap (waiters pool) (omega arith))
  place_back (mail m) h = ap (λ (n : ℕ). mail n) (omega arith)
  place_back (free_in p) h = ap (λ (n : ℕ). free_in n) (omega arith)

-- ---- homes

pub ready_home : (s : State) (p r : ℕ) → (is_ready s && eqb p r) ≡ true → task_home s p ≡ some (ready_at r)
ready_home dormant p r e = absurd (false≢true e)
ready_home ready p r e = ap (λ (n : ℕ). some (ready_at n)) (eqb-true p r e)
ready_home suspended p r e = absurd (false≢true e)
ready_home absent p r e = absurd (false≢true e)
ready_home (waiting w) p r e = absurd (false≢true e)
ready_home (waiting_suspended w) p r e = absurd (false≢true e)

same_waiters : (k' k : Kind) (o' o : ℕ) → (same_kind k' k && eqb o' o) ≡ true → waiters k' o' ≡ waiters k o
same_waiters k' k o' o e = let h = both_true (same_kind k' k) (eqb o' o) e in λ z. waiters (same_kind_true k' k h.0 z) (eqb-true o' o h.1 z)

pub wait_home_lem : (s : State) (p : ℕ) (k : Kind) (o : ℕ) → awaits s k o ≡ true → task_home s p ≡ some (waiters k o)
wait_home_lem dormant p k o e = absurd (false≢true e)
wait_home_lem ready p k o e = absurd (false≢true e)
wait_home_lem suspended p k o e = absurd (false≢true e)
wait_home_lem absent p k o e = absurd (false≢true e)
wait_home_lem (waiting asleep) p k o e = absurd (false≢true e)
wait_home_lem (waiting (timed t)) p k o e = absurd (false≢true e)
wait_home_lem (waiting (on k' o' x m)) p k o e = ap (λ (q : Place). some q) (same_waiters k' k o' o e)
wait_home_lem (waiting_suspended asleep) p k o e = absurd (false≢true e)
wait_home_lem (waiting_suspended (timed t)) p k o e = absurd (false≢true e)
wait_home_lem (waiting_suspended (on k' o' x m)) p k o e = ap (λ (q : Place). some q) (same_waiters k' k o' o e)

pub lies_home : (x : Option ℕ) (m : ℕ) → lies x m ≡ true → mail_home x ≡ some (mail m)
lies_home none m e = absurd (false≢true e)
lies_home (some n) m e = ap (λ (r : ℕ). some (mail r)) (eqb-true n m e)

-- the home of a node is that of the block that has it
pub block_home_lem : (b : Body) (p k : ℕ) → 1 ≤ p → In k max_blocks → of (of b.store.pools p []) k false ≡ true → home_of b Blocks (block_node p k) ≡ some (free_in p)
block_home_lem b zero k h r e = absurd (omega arith)
block_home_lem b (suc p) zero h r e = absurd (omega (arith, r.0))
block_home_lem b (suc p) (suc k) h r e =
    let y : max_blocks * p + suc k ≡ suc (max_blocks * p + k) = omega arith in
    let d : (max_blocks * p + k) / max_blocks ≡ p = omega (arith, r.1) in
    let m : (max_blocks * p + k) % max_blocks ≡ k = omega (arith, r.1) in
    rw (y, d, m, e)

-- a home is a queue that there is, and the task belongs to it
abbrev pub TaskHolds : Store → State → ℕ → Option Place → Type 0
TaskHolds u s p none = Unit {0}
TaskHolds u s p (some (ready_at r)) = In r u.priorities × ((is_ready s && eqb p r) ≡ true)
TaskHolds u s p (some (waiters k o)) = In o (objects u k) × (awaits s k o ≡ true)
TaskHolds u s p (some (mail m)) = ⊥
TaskHolds u s p (some (free_in n)) = ⊥

same_kind_lem : (k : Kind) → same_kind k k ≡ true
same_kind_lem semaphore = refl
same_kind_lem flag = refl
same_kind_lem mailbox = refl
same_kind_lem pool = refl

pub task_holds : (u : Store) (s : State) (p : ℕ) → (is_absent s ≡ false → In p u.priorities) → WaitNumbers u (wait_of s) → TaskHolds u s p (task_home s p)
task_holds u dormant p h w = tt
task_holds u ready p h w = (h refl, eq-eqb p p refl)
task_holds u suspended p h w = tt
task_holds u absent p h w = tt
task_holds u (waiting asleep) p h w = tt
task_holds u (waiting (timed t)) p h w = tt
task_holds u (waiting (on k o x m)) p h w = (w.0, rw (same_kind_lem k) (eq-eqb o o refl))
task_holds u (waiting_suspended asleep) p h w = tt
task_holds u (waiting_suspended (timed t)) p h w = tt
task_holds u (waiting_suspended (on k o x m)) p h w = (w.0, rw (same_kind_lem k) (eq-eqb o o refl))

-- ---- a sound view

module _ (v : View) (S : Sound v) where
  abbrev lines : Place → List ℕ
  lines = line_at v.lines

  abbrev body : Body
  body = v.body

  -- the queues of these rings
  abbrev Queued : Rings → Place → Type 0
  Queued r q = Exists body.store q × (rings_at q ≡ r)

  belongs_there : (q : Place) → Exists body.store q → (i : ℕ) → Stands i (lines q) → belongs body q i ≡ true
  belongs_there q u i s = stands_belongs v S q u i (stands_times i (lines q) s)

  at_home : (q : Place) → Exists body.store q → (i : ℕ) → Stands i (node_lines lines q) → home_of body (rings_at q) i ≡ some q
  unfolding belongs population
  at_home (ready_at p) u i s = ready_home (task body i).state (task body i).priority p (belongs_there (ready_at p) u i s)
  at_home (waiters k o) u i s = wait_home_lem (task body i).state (task body i).priority k o (belongs_there (waiters k o) u i s)
  at_home (mail m) u i s = lies_home (of body.store.messages i none) m (belongs_there (mail m) u i s)
  at_home (free_in p) u i s =
      let r = block_stands p i (lines (free_in p)) s in
      let k = all_at (IsId max_blocks) (lines (free_in p)) r.0 r.1 (known_ids _ max_blocks (S.body.store.pools p u).1 (lines (free_in p)) (S.queues (free_in p) u).known) in
      subst (λ (x : ℕ). home_of body Blocks x ≡ some (free_in p)) r.2 (block_home_lem body p r.0 u.0 k (belongs_there (free_in p) u r.0 r.1))

  known_nodes : (q : Place) → Exists body.store q → All (IsId (ids_kept body (rings_at q))) (node_lines lines q)
  unfolding population
  known_nodes (ready_at p) u = known_ids _ _ (omega arith) (lines (ready_at p)) (S.queues (ready_at p) u).known
  known_nodes (waiters k o) u = known_ids _ _ (omega arith) (lines (waiters k o)) (S.queues (waiters k o) u).known
  known_nodes (mail m) u = known_ids _ _ (omega arith) (lines (mail m)) (S.queues (mail m) u).known
  known_nodes (free_in p) u = blocks_ids p (length body.store.pools) _ u (S.body.store.pools p u).1 (lines (free_in p)) (S.queues (free_in p) u).known

  apart_ids : (q : Place) → Exists body.store q → Distinct (lines q)
  apart_ids q u = few_distinct (lines q) ((one_line v S).once q u)

  apart_nodes : (q : Place) → Exists body.store q → Distinct (node_lines lines q)
  apart_nodes (ready_at p) u = apart_ids (ready_at p) u
  apart_nodes (waiters k o) u = apart_ids (waiters k o) u
  apart_nodes (mail m) u = apart_ids (mail m) u
  apart_nodes (free_in p) u = blocks_distinct p (lines (free_in p)) (apart_ids (free_in p) u)

  housed : (r : Rings) → Housed (ids_kept body r) (next_of r).width (home_of body r) (place_of r) (Queued r) (node_lines lines)
  housed r = record {
    room = ids_room body S.body.sizes r;
    anchored = λ q u. let a = anchored body S.body.sizes q u.0 in subst (λ (x : Rings). (ids_kept body x < anchor q) × (anchor q < (next_of x).width)) u.1 (omega (arith, a.0, few_ids body S.body.sizes (rings_at q)), a.1);
    place_back = λ q u. subst (λ (x : Rings). place_of x (anchor q) ≡ q) u.1 (place_back body S.body.sizes q u.0);
    known = λ q u. subst (λ (x : Rings). All (IsId (ids_kept body x)) (node_lines lines q)) u.1 (known_nodes q u.0);
    apart = λ q u. apart_nodes q u.0;
    at_home = λ q u i s. subst (λ (x : Rings). home_of body x i ≡ some q) u.1 (at_home q u.0 i s);
  }

  -- who belongs to a queue stands in its line
  there : (q : Place) → Exists v.body.store q → (i : ℕ) → belongs v.body q i ≡ true → Stands i (lines q)
  there q e i h = times_stands i (lines q) (belongs_stands v.body q (lines q) (S.queues q e) i h)

  live : (r : Rings) (i : ℕ) → Lives (Queued r) (node_lines lines) i (home_of body r i)
  unfolding belongs
  live Tasks i = go (inside body.tasks i nobody)
    where
      holds : (h : Option Place) → TaskHolds body.store (task body i).state (task body i).priority h → Lives (Queued Tasks) (node_lines lines) i h
      holds none t = tt
      holds (some (ready_at p)) t = ((t.0, refl), there (ready_at p) t.0 i t.1)
      holds (some (waiters k o)) t = ((t.0, refl), there (waiters k o) t.0 i t.1)
      holds (some (mail m)) t = absurd t
      holds (some (free_in p)) t = absurd t

      go : In i (length body.tasks) ⊎ (task body i ≡ nobody) → Lives (Queued Tasks) (node_lines lines) i (home_of body Tasks i)
      go (inl r) = let g = S.body.tasks i r in holds (home_of body Tasks i) (task_holds body.store (task body i).state (task body i).priority g.priority g.wait)
      go (inr e) = rw e tt
  live Messages j = go (inside body.store.messages j none)
    where
      holds : (x : Option ℕ) → of body.store.messages j none ≡ x → LiesWell body.store.mailboxes x → Lives (Queued Messages) (node_lines lines) j (mail_home x)
      holds none e h = tt
      holds (some m) e h = ((h, refl), there (mail m) h j (rw e (eq-eqb m m refl)))

      go : In j (length body.store.messages) ⊎ (of body.store.messages j none ≡ none) → Lives (Queued Messages) (node_lines lines) j (home_of body Messages j)
      go (inl r) = holds (of body.store.messages j none) refl (S.body.store.messages j r)
      go (inr e) = rw e tt
  live Blocks zero = tt
  live Blocks (suc x) = go (of (of body.store.pools (suc (x / max_blocks)) []) (suc (x % max_blocks)) false) refl
    where
      there_is : (p k : ℕ) → of (of body.store.pools p []) k false ≡ true → In p (length body.store.pools)
      there_is p k e = elim (inside body.store.pools p []) [ inl r ↦ r | inr d ↦ absurd (none_free k (subst (λ (l : List Bool). of l k false ≡ true) d e)) ]
        where
          none_free : (k : ℕ) → of {A = Bool} [] k false ≡ true → ⊥
          none_free zero z = false≢true z
          none_free (suc k) z = false≢true z

      go : (t : Bool) → of (of body.store.pools (suc (x / max_blocks)) []) (suc (x % max_blocks)) false ≡ t → Lives (Queued Blocks) (node_lines lines) (suc x) (block_home (suc (x / max_blocks)) t)
      go false e = tt
      go true e =
          let h : In (suc (x / max_blocks)) (length body.store.pools) = there_is (suc (x / max_blocks)) (suc (x % max_blocks)) e in
          let y : block_node (suc (x / max_blocks)) (suc (x % max_blocks)) ≡ suc x = omega arith in
          ((h, refl), subst (λ (i : ℕ). Stands i (node_lines lines (free_in (suc (x / max_blocks))))) y (stands_block (suc (x / max_blocks)) (suc (x % max_blocks)) (lines (free_in (suc (x / max_blocks)))) (there (free_in (suc (x / max_blocks))) h (suc (x % max_blocks)) e)))

  -- ---- the link columns

  from_anchor : (r : Rings) (a : ℕ) → Used body.store r a → (q : Place) × Queued r q × (anchor q ≡ a)
  from_anchor r a u = (u.place, (u.there, u.among), u.here)

  to_anchor : (r : Rings) (q : Place) → Queued r q → Used body.store r (anchor q)
  to_anchor r q u = record { place = q; there = u.0; among = u.1; here = refl }

  abbrev next_column : Rings → List ℕ
  next_column r = run (next_of r).width (ring_link body r (node_lines lines))

  pub rings_linked : (r : Rings) → Linked (ids_kept v.body r) (Used v.body.store r) (run (next_of r).width (ring_link v.body r (node_lines (line_at v.lines))))
      (run (next_of r).width (ring_link v.body r (λ q. reverse (node_lines (line_at v.lines) q)))) (line_of (ids_kept v.body r) (run (next_of r).width (ring_link v.body r (node_lines (line_at v.lines)))))
  unfolding ring_link
  rings_linked r = linked_lines (node_lines lines) (housed r) (live r) (Used body.store r) (from_anchor r) (to_anchor r)

  pub ring_line : (q : Place) → Exists v.body.store q
      → line_of (ids_kept v.body (rings_at q)) (run (next_of (rings_at q)).width (ring_link v.body (rings_at q) (node_lines (line_at v.lines)))) (anchor q) ≡ node_lines (line_at v.lines) q
  unfolding ring_link
  ring_line q e = line_back (node_lines lines) (housed (rings_at q)) (live (rings_at q)) (Used body.store (rings_at q)) (from_anchor (rings_at q)) (to_anchor (rings_at q)) q (e, refl)

  -- ---- small

  -- at a place that the view lacks no line stands
  line_or_none : (q : Place) → Exists v.body.store q ⊎ (line_at v.lines q ≡ [])
  unfolding line_at
  line_or_none (ready_at p) = elim (inside v.lines.ready p []) [ inl r ↦ inl (rw S.shape.ready at r) | inr e ↦ inr e ]
  line_or_none (waiters k o) = elim (inside (at v.lines.waiting k) o []) [ inl r ↦ inl (rw (S.shape.waiting k) at r) | inr e ↦ inr e ]
  line_or_none (mail m) = elim (inside v.lines.mail m []) [ inl r ↦ inl (rw S.shape.mail at r) | inr e ↦ inr e ]
  line_or_none (free_in p) = elim (inside v.lines.free p []) [ inl r ↦ inl (rw S.shape.free at r) | inr e ↦ inr e ]

  no_nodes : (s : Sort) → nodes_of s [] ≡ []
  no_nodes tasks = refl
  no_nodes messages = refl
  no_nodes (blocks p) = refl

  ids_small : (r : Rings) → ids_kept body r < 2 ^ 32
  ids_small r = omega (arith, ids_room body S.body.sizes r, wide r)
    where
      wide : (r : Rings) → (next_of r).width ≤ 273
      wide Tasks = lit≤ tt
      wide Messages = lit≤ tt
      wide Blocks = lit≤ tt

  pub nodes_small : (q : Place) → All (λ y. y < 2 ^ 32) (node_lines (line_at v.lines) q)
  nodes_small q = go (line_or_none q)
    where
      go : Exists v.body.store q ⊎ (line_at v.lines q ≡ []) → All (λ y. y < 2 ^ 32) (node_lines (line_at v.lines) q)
      go (inl e) = all_map (λ y k. omega (arith, k.1, ids_small (rings_at q))) (node_lines lines q) (known_nodes q e)
      go (inr e) = subst (λ (l : List ℕ). All (λ y. y < 2 ^ 32) (nodes_of (sort_at q) l)) (sym e) (subst (All (λ y. y < 2 ^ 32)) (sym (no_nodes (sort_at q))) tt)

  pub back_small : (q : Place) → All (λ y. y < 2 ^ 32) (reverse (node_lines (line_at v.lines) q))
  back_small q = all_reverse (λ y. y < 2 ^ 32) (node_lines lines q) (nodes_small q)

  pub ring_link_small : (r : Rings) (M : Place → List ℕ) → ((q : Place) → All (λ y. y < 2 ^ 32) (M q)) → (x : ℕ) → x < (next_of r).width → ring_link v.body r M x < 2 ^ 32
  unfolding ring_link
  ring_link_small r = link_below (node_lines lines) (housed r) (live r) (Used body.store r) (from_anchor r) (to_anchor r) (2 ^ 32) (wide r)
    where
      wide : (r : Rings) → (next_of r).width ≤ 2 ^ 32
      wide Tasks = lit≤ tt
      wide Messages = lit≤ tt
      wide Blocks = lit≤ tt
