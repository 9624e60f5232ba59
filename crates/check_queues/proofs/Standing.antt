-- The check of the queues of a sort decides that their links are rings and that each line shown holds just those that belong to it, once the
-- numbers lie in their ranges. Assumes nothing.
use mathlib.Core.Bool.{Bool, true, false, cond, not, ◌||◌, false≢true}
use mathlib.Core.List.{List, []}
use mathlib.Core.Logic.{inl, inr, ◌↔◌}
use mathlib.Core.Option.{Option, none, some}
use mathlib.Core.Path.{◌≡◌, refl, sym, ap, ◌∙◌, subst}
use Prim.Native.Nat.{ℕ, zero, suc, ◌+◌, ◌-◌, ◌*◌, ◌/◌, ◌%◌, ◌^◌, ◌≤◌, ◌<◌}
use native.Mathlib.Omega.{arith}
use lib.Dec.{eqb, leb, lit≤}
use lib.ListN.{length}
use borrow.Author.Tests.{eqb-true, eq-eqb, ne_eqb, le-leb}
use Rattle.rules.specs.Ids.{of, In}
use Rattle.rules.specs.State.{Kind, semaphore, flag, mailbox, pool, Wait, on, Store, Body, task, nobody, objects, wait_of, is_absent}
use Rattle.rules.specs.Places.{Place, ready_at, waiters, mail, free_in, many as many_at, lies, belongs, Exists, population}
use Rattle.rules.specs.Sound.{LiesWell, WaitNumbers, SoundTask, Queue}
use Rattle.rules.proofs.Ids.{of_ids, length_ids, inside}
use Rattle.memory_rings.specs.Links.{half}
use Rattle.memory_rings.specs.Rings.{Stands, line_of}
use Rattle.memory_columns.specs.declared.Rings.{Rings}
use Rattle.memory_columns.specs.declared.Rings.TheVariants.{Tasks, Messages, Blocks}
use Rattle.memory_columns.specs.Layout as Layout
use Rattle.memory_columns.specs.Layout.{state_words, max_priorities, max_tasks, max_objects, max_messages, max_pools, max_blocks, ready_node, wait_node, mail_node, free_node, next_of, prev_of, links_of, words, entry}
use Rattle.memory_columns.proofs.Frame.{words_length}
use Rattle.memory_queues.specs.Moves.{ready_anchor, wait_anchor, mail_anchor, free_anchor}
use Rattle.memory_picture.specs.Picture.{wait_shown, state_shown, task_shown, message_shown, pool_shown, tasks_shown, messages_shown, pools_shown, store_shown, body_shown, kind_number, anchor, rings_at, ids_shown, nodes_shown, line_shown, Used, WholeRings}
use Rattle.memory_picture.specs.Form as Form
use Rattle.memory_picture.specs.Form.{home_of, place_of}
use Rattle.memory_queues.proofs.Parts.{nexts_links, prevs_links}
use Rattle.memory_picture.proofs.PoolBits.{pool_at}
use Rattle.memory_picture.proofs.FormWords.{few_objects}
use Rattle.memory_picture.proofs.FormHomes.{place_back, ready_home, wait_home_lem, lies_home, block_home_lem, TaskHolds, task_holds}
use Rattle.check_links.specs.declared.Table.TheVariants.{Masks}
use Rattle.check_links.specs.Survey.{bits, is_set, ids_of, housed, marked, owns, most_entries}
use Rattle.check_links.proofs.Steps.{own_id}
use Rattle.check_ranges.specs.Ranges.{many}
use Rattle.check_queues.specs.Queues.{wait_home, home, mark_anchor, block_home, home_in, ids_in, count_in, entry_in, table_in, table_of, ranges_of, queued_in}
use Rattle.check_ranges.proofs.Decisions.{Decides, decides_as}
use Rattle.memory_picture.proofs.Cases.{asked, kind_cases, status_cases}
use Rattle.check_ranges.proofs.Ranges.{many_of, objects_shown, Ranges}
use Rattle.check_queues.proofs.Homes.{anchors_of, InRange, anchor_range, range_anchor, Rising, rising_from, rising_distinct, Told, anchor_of, Belongs, Homes, Keeps, homed_by}
use Rattle.check_queues.proofs.Homes as Laws
use Rattle.check_queues.proofs.Masks.{mark_free, free_mark}
use Rattle.check_queues.proofs.BlockLines.{node_has, block_has, lines_numbers, numbers_lines}

-- ---- the home of a task, by its words

module _ (u : Store) (few : (k : Kind) → objects u k ≤ max_objects) where
  on_home : (k : Kind) (n o p m : ℕ) → n ≡ kind_number k → WaitNumbers u (some (on k o p m)) → wait_home n o ≡ anchor (waiters k o)
  unfolding wait_home wait_anchor anchor
  on_home semaphore n o p m e h = rw (e, le-leb o max_objects (omega (arith, h.0.1, few semaphore)))
  on_home flag n o p m e h = rw (e, le-leb o max_objects (omega (arith, h.0.1, few flag)))
  on_home mailbox n o p m e h = rw (e, le-leb o max_objects (omega (arith, h.0.1, few mailbox)))
  on_home pool n o p m e h = rw (e, le-leb o max_objects (omega (arith, h.0.1, few pool)))

  wait_home_is : (k o p m t : ℕ) → WaitNumbers u (some (wait_shown k o p m t)) → wait_home k o ≡ anchor_of (Form.wait_home (wait_shown k o p m t))
  unfolding wait_home
  wait_home_is k o p m t = kind_cases k o p m t (λ w. WaitNumbers u (some w) → wait_home k o ≡ anchor_of (Form.wait_home w))
      (λ e h. rw e) (λ e h. rw e) (λ c e h. on_home c k o (asked c p) (asked c m) e h) (λ h. absurd (omega (arith, h.0)))

  state_home : (s p x : ℕ) (w : Wait) → (s ≡ 1 → p ≤ max_priorities) → (WaitNumbers u (some w) → x ≡ anchor_of (Form.wait_home w)) → WaitNumbers u (wait_of (state_shown s w))
      → cond (eqb s 1) (ready_anchor p) (cond (eqb s 3 || eqb s 5) x 0) ≡ anchor_of (Form.task_home (state_shown s w) p)
  unfolding anchor
  state_home s p x w hp hw =
      status_cases s w (λ y. WaitNumbers u (wait_of y) → cond (eqb s 1) (ready_anchor p) (cond (eqb s 3 || eqb s 5) x 0) ≡ anchor_of (Form.task_home y p))
      (λ e h. rw e) (λ e h. rw (e, le-leb p max_priorities (hp e))) (λ e h. rw e (hw h)) (λ e h. rw e) (λ e h. rw e (hw h)) (λ e h. rw e) (λ h. absurd (omega (arith, h.0)))

-- ---- entries

module _ (b msgs : List ℕ) where
  pub task_is : (i : ℕ) → In i (tasks_shown b) → task (body_shown b msgs) i ≡ task_shown b i
  unfolding body_shown
  task_is i h = of_ids (task_shown b) (tasks_shown b) i nobody h

  message_is : (j : ℕ) → In j (messages_shown b) → of (store_shown b msgs).messages j none ≡ message_shown (of msgs j 0)
  unfolding store_shown
  message_is j h = of_ids (λ j. message_shown (of msgs j 0)) (messages_shown b) j none h

  pub pool_is : (p : ℕ) → In p (pools_shown b) → of (store_shown b msgs).pools p [] ≡ pool_shown (entry Layout.size b p) (entry Layout.free b p)
  unfolding store_shown
  pool_is p h = of_ids (λ p. pool_shown (entry Layout.size b p) (entry Layout.free b p)) (pools_shown b) p [] h

-- ---- who belongs to a queue, by its node

abbrev pub belongs_at : Body → Place → ℕ → Bool
belongs_at c (ready_at p) i = belongs c (ready_at p) i
belongs_at c (waiters k o) i = belongs c (waiters k o) i
belongs_at c (mail m) j = belongs c (mail m) j
belongs_at c (free_in p) x = node_has p (belongs c (free_in p)) x

-- the queues of these rings
abbrev pub InRings : Store → Rings → Place → Type 0
InRings u r q = Exists u q × (rings_at q ≡ r)

-- ---- the queues

module _ (b msgs : List ℕ) (size : length b ≡ state_words) (R : Ranges b msgs) where
  abbrev body : Body
  body = body_shown b msgs

  abbrev store : Store
  store = store_shown b msgs

  -- ---- how many there are

  pub tasks_few : tasks_shown b ≤ max_tasks
  unfolding body_shown
  tasks_few = omega (arith, R.sizes.tasks.1, length_ids (task_shown b) (tasks_shown b))

  pub messages_few : messages_shown b ≤ max_messages
  unfolding body_shown store_shown
  messages_few = omega (arith, R.sizes.messages, length_ids (λ j. message_shown (of msgs j 0)) (messages_shown b))

  pub priorities_few : many b Layout.priorities ≤ max_priorities
  unfolding body_shown store_shown
  priorities_few = R.sizes.priorities.1

  shown_few : (k : Kind) → objects (store_shown b msgs) k ≤ max_objects
  unfolding body_shown
  shown_few k = few_objects (body_shown b msgs) R.sizes k

  pub objects_few : (k : Kind) → many_of b k ≤ max_objects
  objects_few k = subst (λ (n : ℕ). n ≤ max_objects) (objects_shown b msgs k) (shown_few k)

  pub pools_few : pools_shown b ≤ max_pools
  unfolding body_shown
  pools_few = subst (λ (n : ℕ). n ≤ max_pools) (objects_shown b msgs pool) R.sizes.pools

  pub ids_are : (r : Rings) → ids_in b r ≡ ids_shown b r
  ids_are Tasks = refl
  ids_are Messages = refl
  ids_are Blocks = rw (le-leb (pools_shown b) max_pools pools_few)

  -- the entries of a table
  abbrev entries_shown : Rings → ℕ
  entries_shown Tasks = tasks_shown b
  entries_shown Messages = messages_shown b
  entries_shown Blocks = pools_shown b

  count_is : (r : Rings) → count_in b r ≡ entries_shown r
  count_is Tasks = rw (le-leb (tasks_shown b) max_tasks tasks_few)
  count_is Messages = rw (le-leb (messages_shown b) max_messages messages_few)
  count_is Blocks = rw (le-leb (pools_shown b) max_pools pools_few)

  table_long : (r : Rings) → length (table_in b msgs r) ≡ entries_shown r
  table_long r = length_ids (entry_in b msgs r) (count_in b r) ∙ count_is r

  table_at : (r : Rings) (i : ℕ) → In i (entries_shown r) → of (table_in b msgs r) i 0 ≡ entry_in b msgs r i
  table_at r i h = of_ids (entry_in b msgs r) (count_in b r) i 0 (subst (In i) (sym (count_is r)) h)

  table_few : (r : Rings) → length (table_in b msgs r) ≤ most_entries
  table_few Tasks = omega (arith, table_long Tasks, tasks_few)
  table_few Messages = omega (arith, table_long Messages, messages_few)
  table_few Blocks = omega (arith, table_long Blocks, pools_few)

  table_ids : (r : Rings) → ids_of (table_of r) (table_in b msgs r) ≡ ids_shown b r
  table_ids Tasks = table_long Tasks
  table_ids Messages = table_long Messages
  table_ids Blocks = ap (λ (k : ℕ). bits * k) (table_long Blocks)

  there : (k : Kind) (o : ℕ) → In o (objects (store_shown b msgs) k) → In o (many_of b k)
  there k o h = subst (In o) (objects_shown b msgs k) h

  back : (k : Kind) (o : ℕ) → In o (many_of b k) → In o (objects (store_shown b msgs) k)
  back k o h = subst (In o) (sym (objects_shown b msgs k)) h

  -- ---- the anchors in use

  -- the first node that can be an anchor
  abbrev first : Rings → ℕ
  first Tasks = ready_node 1
  first Messages = mail_node 1
  first Blocks = free_node 1

  -- the nodes are half as many as the links
  nodes_are : (r : Rings) → half (words (links_of r) b) ≡ (next_of r).width
  nodes_are Tasks = rw (words_length (links_of Tasks) b size refl)
  nodes_are Messages = rw (words_length (links_of Messages) b size refl)
  nodes_are Blocks = rw (words_length (links_of Blocks) b size refl)

  ids_nodes : (r : Rings) → ids_shown b r < (next_of r).width
  ids_nodes Tasks = omega (arith, tasks_few)
  ids_nodes Messages = omega (arith, messages_few)
  ids_nodes Blocks = omega (arith, pools_few)

  first_behind : (r : Rings) → ids_shown b r < first r
  first_behind Tasks = omega (arith, tasks_few)
  first_behind Messages = omega (arith, messages_few)
  first_behind Blocks = omega (arith, pools_few)

  rising : (r : Rings) → Rising (next_of r).width (first r) (ranges_of b r)
  rising Tasks = (
    lit≤ tt,
    omega (arith, priorities_few),
    (
      omega (arith, priorities_few),
      omega (arith, objects_few semaphore),
      (
        omega (arith, objects_few semaphore),
        omega (arith, objects_few flag),
        (omega (arith, objects_few flag), omega (arith, objects_few mailbox), (omega (arith, objects_few mailbox), omega (arith, pools_few), tt)),
      ),
    ),
  )
  rising Messages = (lit≤ tt, omega (arith, objects_few mailbox), tt)
  rising Blocks = (lit≤ tt, omega (arith, pools_few), tt)

  to_anchor : (q : Place) → Exists (store_shown b msgs) q → Stands (anchor q) (anchors_of (ranges_of b (rings_at q)))
  unfolding anchor store_shown
  to_anchor q h = range_anchor (anchor q) (ranges_of b (rings_at q)) (go q h)
    where
      go : (q : Place) → Exists (store_shown b msgs) q → InRange (anchor q) (ranges_of b (rings_at q))
      go (ready_at p) h = inl (omega (arith, h.0), omega (arith, h.1))
      go (waiters semaphore o) h = let k = there semaphore o h in inr (inl (omega (arith, k.0), omega (arith, k.1)))
      go (waiters flag o) h = let k = there flag o h in inr (inr (inl (omega (arith, k.0), omega (arith, k.1))))
      go (waiters mailbox o) h = let k = there mailbox o h in inr (inr (inr (inl (omega (arith, k.0), omega (arith, k.1)))))
      go (waiters pool o) h = let k = there pool o h in inr (inr (inr (inr (inl (omega (arith, k.0), omega (arith, k.1))))))
      go (mail m) h = inl (omega (arith, h.0), omega (arith, h.1))
      go (free_in p) h = let k = there pool p h in inl (omega (arith, k.0), omega (arith, k.1))

  from_anchor : (r : Rings) (a : ℕ) → Stands a (anchors_of (ranges_of b r)) → (q : Place) × InRings (store_shown b msgs) r q × (anchor q ≡ a)
  unfolding anchor store_shown
  from_anchor r a s = go r (anchor_range a (ranges_of b r) s)
    where
      go : (r : Rings) → InRange a (ranges_of b r) → (q : Place) × InRings (store_shown b msgs) r q × (anchor q ≡ a)
      go Tasks (inl h) = (ready_at (a - ready_node 0), ((omega (arith, h.0), omega (arith, h.1)), refl), omega (arith, h.0))
      go Tasks (inr (inl h)) = (waiters semaphore (a - wait_node Layout.semaphores 0), (back semaphore (a - wait_node Layout.semaphores 0) (omega (arith, h.0), omega (arith, h.1)), refl), omega (arith, h.0))
      go Tasks (inr (inr (inl h))) = (waiters flag (a - wait_node Layout.flags 0), (back flag (a - wait_node Layout.flags 0) (omega (arith, h.0), omega (arith, h.1)), refl), omega (arith, h.0))
      go Tasks (inr (inr (inr (inl h)))) = (waiters mailbox (a - wait_node Layout.mailboxes 0), (back mailbox (a - wait_node Layout.mailboxes 0) (omega (arith, h.0), omega (arith, h.1)), refl), omega (arith, h.0))
      go Tasks (inr (inr (inr (inr (inl h))))) = (waiters pool (a - wait_node Layout.pools 0), (back pool (a - wait_node Layout.pools 0) (omega (arith, h.0), omega (arith, h.1)), refl), omega (arith, h.0))
      go Tasks (inr (inr (inr (inr (inr h))))) = absurd h
      go Messages (inl h) = (mail (a - mail_node 0), ((omega (arith, h.0), omega (arith, h.1)), refl), omega (arith, h.0))
      go Messages (inr h) = absurd h
      go Blocks (inl h) = (free_in (a - free_node 0), (back pool (a - free_node 0) (omega (arith, h.0), omega (arith, h.1)), refl), omega (arith, h.0))
      go Blocks (inr h) = absurd h

  -- ---- homes

  task_numbers : (i : ℕ) → In i (tasks_shown b) → SoundTask (store_shown b msgs) (task (body_shown b msgs) i)
  task_numbers i h = subst (SoundTask (store_shown b msgs)) (sym (task_is b msgs i h)) (R.tasks i h)

  message_well : (j : ℕ) → In j (messages_shown b) → LiesWell (many b Layout.mailboxes) (of (store_shown b msgs).messages j none)
  unfolding store_shown
  message_well j h = R.store.messages j (subst (In j) (sym (length_ids (λ j. message_shown (of msgs j 0)) (messages_shown b))) h)

  blocks_few : (p : ℕ) → In p (pools_shown b) → In (length (of (store_shown b msgs).pools p [])) max_blocks
  blocks_few p h = R.store.pools p (back pool p h)

  -- only a block that there is is free
  free_in_lem : (p k : ℕ) → belongs (body_shown b msgs) (free_in p) k ≡ true → In p (length (store_shown b msgs).pools) × In k (length (of (store_shown b msgs).pools p []))
  unfolding belongs body_shown
  free_in_lem p k e = (
    elim (inside (store_shown b msgs).pools p []) [ inl r ↦ r | inr d ↦ absurd (no_block k (subst (λ (l : List Bool). of l k false ≡ true) d e)) ],
    elim (inside (of (store_shown b msgs).pools p []) k false) [ inl r ↦ r | inr d ↦ absurd (false≢true (sym d ∙ e)) ],
  )
    where
      no_block : (k : ℕ) → of {A = Bool} [] k false ≡ true → ⊥
      no_block zero z = false≢true z
      no_block (suc k) z = false≢true z

  holds : (r : Rings) (i : ℕ) → In i (ids_shown b r) → Belongs (InRings (store_shown b msgs) r) (belongs_at (body_shown b msgs)) i (home_of (body_shown b msgs) r i)
  unfolding belongs body_shown store_shown
  holds Tasks i h = let t = task_numbers i h in belong (home_of body Tasks i) (task_holds (store_shown b msgs) (task body i).state (task body i).priority t.priority t.wait)
    where
      belong : (x : Option Place) → TaskHolds (store_shown b msgs) (task body i).state (task body i).priority x → Belongs (InRings (store_shown b msgs) Tasks) (belongs_at body) i x
      belong none h = tt
      belong (some (ready_at p)) h = ((h.0, refl), h.1)
      belong (some (waiters k o)) h = ((h.0, refl), h.1)
      belong (some (mail m)) h = absurd h
      belong (some (free_in p)) h = absurd h
  holds Messages j h = belong (of (store_shown b msgs).messages j none) refl (message_well j h)
    where
      belong : (x : Option ℕ) → of (store_shown b msgs).messages j none ≡ x → LiesWell (store_shown b msgs).mailboxes x → Belongs (InRings (store_shown b msgs) Messages) (belongs_at body) j (Form.mail_home x)
      belong none e h = tt
      belong (some m) e h = ((h, refl), ap (λ (x : Option ℕ). lies x m) e ∙ eq-eqb m m refl)
  holds Blocks zero h = tt
  holds Blocks (suc x) h = belong (of (of (store_shown b msgs).pools (suc (x / max_blocks)) []) (suc (x % max_blocks)) false) refl
    where
      belong : (t : Bool) → of (of (store_shown b msgs).pools (suc (x / max_blocks)) []) (suc (x % max_blocks)) false ≡ t → Belongs (InRings (store_shown b msgs) Blocks) (belongs_at body) (suc x) (Form.block_home (suc (x / max_blocks)) t)
      belong false e = tt
      belong true e = (((free_in_lem (suc (x / max_blocks)) (suc (x % max_blocks)) e).0, refl), rw (eq-eqb (suc (x / max_blocks)) (suc (x / max_blocks)) refl) e)

  only : (q : Place) → Exists (store_shown b msgs) q → (i : ℕ) → belongs_at (body_shown b msgs) q i ≡ true → home_of (body_shown b msgs) (rings_at q) i ≡ some q
  unfolding belongs body_shown
  only (ready_at p) h i e = ready_home (task body i).state (task body i).priority p e
  only (waiters k o) h i e = wait_home_lem (task body i).state (task body i).priority k o e
  only (mail m) h j e = lies_home (of (store_shown b msgs).messages j none) m e
  only (free_in p) h x e =
      let r = block_has p (belongs body (free_in p)) h.0 x e in
      subst (λ (y : ℕ). home_of body Blocks y ≡ some (free_in p)) (sym r.3) (block_home_lem body p r.0 h.0 r.1 r.2)

  homes : (r : Rings) → Homes (ids_shown b r) (anchors_of (ranges_of b r)) (InRings (store_shown b msgs) r) (belongs_at (body_shown b msgs)) (home_of (body_shown b msgs) r)
  unfolding body_shown
  homes r = record {
    anchored = λ a s. omega (arith, first_behind r, rising_from (next_of r).width (first r) (ranges_of b r) (rising r) a s);
    apart = rising_distinct (next_of r).width (first r) (ranges_of b r) (rising r);
    to = λ q h. subst (λ (x : Rings). Stands (anchor q) (anchors_of (ranges_of b x))) h.1 (to_anchor q h.0);
    from = from_anchor r;
    one = λ q p h k e.
        sym (subst (λ (x : Rings). place_of x (anchor q) ≡ q) h.1 (place_back (body_shown b msgs) R.sizes q h.0)) ∙ ap (place_of r) e
        ∙ subst (λ (x : Rings). place_of x (anchor p) ≡ p) k.1 (place_back (body_shown b msgs) R.sizes p k.0);
    holds = holds r;
    only = λ q h i e. subst (λ (x : Rings). home_of (body_shown b msgs) x i ≡ some q) h.1 (only q h.0 i e);
  }

  mark_home : (m : ℕ) → LiesWell (many b Layout.mailboxes) (message_shown m) → mark_anchor m ≡ anchor_of (Form.mail_home (message_shown m))
  unfolding anchor
  mark_home m = go (eqb m 0)
    where
      go : (t : Bool) → LiesWell (many b Layout.mailboxes) (cond t none (some m)) → cond t 0 (mail_anchor m) ≡ anchor_of (Form.mail_home (cond t none (some m)))
      go true h = refl
      go false h = rw (le-leb m max_objects (omega (arith, h.1, objects_few mailbox)))

  block_home_is : (x : ℕ) → In x (ids_shown b Blocks) → block_home b x ≡ anchor_of (home_of (body_shown b msgs) Blocks x)
  unfolding block_home body_shown
  block_home_is zero h = absurd (omega (arith, h.0))
  block_home_is (suc x) h =
      let r : In (suc (x / max_blocks)) (pools_shown b) = (omega arith, omega (arith, h.1)) in
      rw (ne_eqb (suc x) 0 (λ e. omega arith), pool_is b msgs (suc (x / max_blocks)) r, pool_at (entry Layout.size b (suc (x / max_blocks))) (entry Layout.free b (suc (x / max_blocks))) (x % max_blocks) (subst (λ (l : List Bool). In (length l) max_blocks) (pool_is b msgs (suc (x / max_blocks)) r) (blocks_few (suc (x / max_blocks)) r)))
      (go (eqb ((entry Layout.free b (suc (x / max_blocks)) / 2 ^ (x % max_blocks)) % 2) 1) (omega (arith, r.1, pools_few)))
    where
      go : (t : Bool) → suc (x / max_blocks) ≤ max_pools → cond t (free_anchor (suc (x / max_blocks))) 0 ≡ anchor_of (Form.block_home (suc (x / max_blocks)) t)
      go true k = unfold anchor in rw (le-leb (suc (x / max_blocks)) max_pools k)
      go false k = refl

  pub home_is : (r : Rings) (i : ℕ) → In i (ids_shown b r) → home_in b msgs r i ≡ anchor_of (home_of (body_shown b msgs) r i)
  unfolding home task_shown state_shown store_shown body_shown
  home_is Tasks i h = rw (task_is b msgs i h) (state_home (store_shown b msgs) shown_few (entry Layout.status b i) (entry Layout.priority b i) _ _ (λ e. omega (arith, ((R.tasks i h).priority (there e)).1, priorities_few))
      (wait_home_is (store_shown b msgs) shown_few (entry Layout.kind b i) (entry Layout.object b i) (entry Layout.wish b i) (entry Layout.mode b i) (entry Layout.ticks b i)) (R.tasks i h).wait)
    where
      there : entry Layout.status b i ≡ 1 → is_absent (task_shown b i).state ≡ false
      there e = rw e
  home_is Messages j h = mark_home (of msgs j 0) (subst (LiesWell (many b Layout.mailboxes)) (message_is b msgs j h) (message_well j h)) ∙ ap (λ (x : Option ℕ). anchor_of (Form.mail_home x)) (sym (message_is b msgs j h))
  home_is Blocks x h = block_home_is x h

  -- one belongs to a queue just where its home is that queue's anchor
  pub belongs_home : (r : Rings) (q : Place) → InRings (store_shown b msgs) r q → (i : ℕ) → In i (ids_shown b r) → Decides (belongs_at (body_shown b msgs) q i) (home_in b msgs r i ≡ anchor q)
  belongs_home r = Laws.belongs_home (ids_shown b r) (anchors_of (ranges_of b r)) (InRings (store_shown b msgs) r) (belongs_at (body_shown b msgs)) (home_of (body_shown b msgs) r) (homes r) (home_in b msgs r) (home_is r)

  -- ---- the law, over nodes

  abbrev NodesKept : Rings → Type 0
  NodesKept r = (q : Place) → InRings (store_shown b msgs) r q → Keeps (ids_shown b r) (belongs_at (body_shown b msgs) q) (line_of (ids_shown b r) (words (next_of r) b) (anchor q))

  columns_long : (r : Rings) → length (words (prev_of r) b) ≡ length (words (next_of r) b)
  columns_long Tasks = words_length (prev_of Tasks) b size refl ∙ sym (words_length (next_of Tasks) b size refl)
  columns_long Messages = words_length (prev_of Messages) b size refl ∙ sym (words_length (next_of Messages) b size refl)
  columns_long Blocks = words_length (prev_of Blocks) b size refl ∙ sym (words_length (next_of Blocks) b size refl)

  -- ---- what the tables tell

  abbrev owns_in : Rings → ℕ → ℕ → Bool
  owns_in r = owns (table_of r) (table_in b msgs r) (first r)

  told : (r : Rings) → Told (table_of r) (table_in b msgs r) (owns_in r) (ranges_of b r)
  told Tasks = (refl, refl, (refl, refl, (refl, refl, (refl, refl, (refl, refl, tt)))))
  told Messages = (refl, refl, tt)
  told Blocks = (le-leb (pools_shown b) (length (table_in b msgs Blocks)) (omega (arith, table_long Blocks)), refl, tt)

  -- a message has no mailbox where it has no home, and the same where it has one
  mail_none : (j : ℕ) → In j (messages_shown b) → eqb (of msgs j 0) 0 ≡ eqb (mark_anchor (of msgs j 0)) 0
  mail_none j h = go (eqb (of msgs j 0) 0) refl (subst (LiesWell (many b Layout.mailboxes)) (message_is b msgs j h) (message_well j h))
    where
      go : (t : Bool) → eqb (of msgs j 0) 0 ≡ t → LiesWell (many b Layout.mailboxes) (cond t none (some (of msgs j 0))) → t ≡ eqb (cond t 0 (mail_anchor (of msgs j 0))) 0
      go true e k = refl
      go false e k = rw (le-leb (of msgs j 0) max_objects (omega (arith, k.1, objects_few mailbox))) (sym (ne_eqb (mail_node (of msgs j 0)) 0 (λ z. omega (arith, z))))

  mail_own : (a j : ℕ) → InRange a (ranges_of b Messages) → (of msgs j 0 ≡ a - mail_node 0) ↔ (mark_anchor (of msgs j 0) ≡ a)
  mail_own a j s = go (eqb (of msgs j 0) 0) refl s
    where
      go : (t : Bool) → eqb (of msgs j 0) 0 ≡ t → InRange a (ranges_of b Messages) → (of msgs j 0 ≡ a - mail_node 0) ↔ (cond t 0 (mail_anchor (of msgs j 0)) ≡ a)
      go true e (inl k) = ((λ z. absurd (omega (arith, z, eqb-true (of msgs j 0) 0 e, k.0))), λ z. absurd (omega (arith, z, k.0)))
      go false e (inl k) = (
        (λ z. rw (le-leb (of msgs j 0) max_objects (omega (arith, z, k.1, objects_few mailbox))) (omega (arith, z, k.0))),
        λ z. back (leb (of msgs j 0) max_objects) z,
      )
        where
          back : (t : Bool) → cond t (mail_node (of msgs j 0)) 0 ≡ a → of msgs j 0 ≡ a - mail_node 0
          back true z = omega (arith, z)
          back false z = absurd (omega (arith, z, k.0))
      go t e (inr k) = absurd k

  -- a block is free by its pool's mask
  block_none : (x : ℕ) → In x (ids_shown b Blocks) → housed Masks (table_in b msgs Blocks) x ≡ not (eqb (block_home b x) 0)
  unfolding block_home
  block_none zero h = absurd (omega (arith, h.0))
  block_none (suc x) h =
      let q : suc (x / max_blocks) ≤ pools_shown b = omega (arith, h.1) in
      rw (table_at Blocks (suc (x / max_blocks)) (omega arith, q), ne_eqb (suc x) 0 (λ e. omega arith), le-leb (suc (x / max_blocks)) max_pools (omega (arith, q, pools_few)))
      (go (is_set (entry Layout.free b (suc (x / max_blocks))) (x % max_blocks)))
    where
      go : (t : Bool) → t ≡ not (eqb (cond t (free_node (suc (x / max_blocks))) 0) 0)
      go true = sym (ap not (ne_eqb (free_node (suc (x / max_blocks))) 0 (λ e. omega (arith, e))))
      go false = refl

  block_own : (a x : ℕ) → InRange a (ranges_of b Blocks) → In x (ids_shown b Blocks) → (owns_in Blocks a x ≡ true) ↔ (block_home b x ≡ a)
  unfolding block_home
  block_own a zero s h = absurd (omega (arith, h.0))
  block_own a (suc x) (inr s) h = absurd s
  block_own a (suc x) (inl s) h =
      let q : suc (x / max_blocks) ≤ pools_shown b = omega (arith, h.1) in
      let p : In (suc (a - free_node 1)) (pools_shown b) = (omega arith, omega (arith, s.0, s.1)) in
      rw (table_at Blocks (suc (a - free_node 1)) p, ne_eqb (suc x) 0 (λ e. omega arith), le-leb (suc (x / max_blocks)) max_pools (omega (arith, q, pools_few)))
      (to, back (is_set (entry Layout.free b (suc (x / max_blocks))) (x % max_blocks)) refl)
    where
      to : marked (entry Layout.free b (suc (a - free_node 1))) (bits * (a - free_node 1) + 1) (suc x) ≡ true
          → cond (is_set (entry Layout.free b (suc (x / max_blocks))) (x % max_blocks)) (free_node (suc (x / max_blocks))) 0 ≡ a
      to e = let m = mark_free (entry Layout.free b) (a - free_node 1) x e in rw m.1 (omega (arith, m.0, s.0))

      back : (t : Bool) → is_set (entry Layout.free b (suc (x / max_blocks))) (x % max_blocks) ≡ t → cond t (free_node (suc (x / max_blocks))) 0 ≡ a
          → marked (entry Layout.free b (suc (a - free_node 1))) (bits * (a - free_node 1) + 1) (suc x) ≡ true
      back true e z = free_mark (entry Layout.free b) (a - free_node 1) x (omega (arith, z)) e
      back false e z = absurd (omega (arith, z, s.0))

  housed_is : (r : Rings) (i : ℕ) → In i (ids_shown b r) → housed (table_of r) (table_in b msgs r) i ≡ not (eqb (home_in b msgs r i) 0)
  housed_is Tasks i h = ap (λ (x : ℕ). not (eqb x 0)) (table_at Tasks i h)
  housed_is Messages j h = ap (λ (x : ℕ). not (eqb x 0)) (table_at Messages j h) ∙ ap not (mail_none j h)
  housed_is Blocks x h = block_none x h

  own_is : (r : Rings) (a i : ℕ) → Stands a (anchors_of (ranges_of b r)) → In i (ids_shown b r) → (owns_in r a i ≡ true) ↔ (home_in b msgs r i ≡ a)
  own_is Tasks a i s h = homed_by (table_in b msgs Tasks) (a - 0) i (home b i) (home b i ≡ a) (subst (In i) (sym (table_long Tasks)) h) (table_at Tasks i h) ((λ e. omega (arith, e)), λ e. omega (arith, e))
  own_is Messages a j s h = homed_by (table_in b msgs Messages) (a - mail_node 0) j (of msgs j 0) (mark_anchor (of msgs j 0) ≡ a) (subst (In j) (sym (table_long Messages)) h) (table_at Messages j h) (mail_own a j (anchor_range a (ranges_of b Messages) s))
  own_is Blocks a x s h = block_own a x (anchor_range a (ranges_of b Blocks) s) h

  nodes_law : (r : Rings) → Decides (queued_in b msgs r) (WholeRings b msgs r × NodesKept r)
  unfolding queued_in
  nodes_law r = Laws.queued_law (ids_shown b r) (first r) (words (links_of r) b) (table_of r) (table_in b msgs r) (words (next_of r) b) (words (prev_of r) b) (ranges_of b r) (owns_in r)
      (table_few r) (table_ids r) (rw (nodes_are r) (ids_nodes r)) (nexts_links b size r) (prevs_links b size r) (columns_long r)
      (subst (λ (top : ℕ). Rising top (first r) (ranges_of b r)) (sym (nodes_are r)) (rising r)) (told r)
      (InRings (store_shown b msgs) r) (belongs_at (body_shown b msgs)) (home_of (body_shown b msgs) r) (homes r) (home_in b msgs r) (home_is r)
      (λ a i e. subst (λ (n : ℕ). In i n) (table_ids r) (own_id (table_of r) (table_in b msgs r) (first r) a i e)) (own_is r) (housed_is r)
      (Used (store_shown b msgs) r) (λ a u. (u.place, (u.there, u.among), u.here)) (λ q u. record { place = q; there = u.0; among = u.1; here = refl })

  -- ---- the lines shown

  counted : (q : Place) (n : ℕ) (l : List ℕ) → many_at (body_shown b msgs) q ≡ n → Keeps n (belongs (body_shown b msgs) q) l → Queue (body_shown b msgs) q l
  counted q n l e k = let k' : Keeps (many_at (body_shown b msgs) q) (belongs (body_shown b msgs) q) l = subst (λ (x : ℕ). Keeps x (belongs (body_shown b msgs) q) l) (sym e) k in record { known = k'.0; stands = k'.1 }

  recounted : (q : Place) (n : ℕ) (l : List ℕ) → many_at (body_shown b msgs) q ≡ n → Queue (body_shown b msgs) q l → Keeps n (belongs (body_shown b msgs) q) l
  recounted q n l e k = subst (λ (x : ℕ). Keeps x (belongs (body_shown b msgs) q) l) e (k.known, k.stands)

  many_tasks : length (body_shown b msgs).tasks ≡ tasks_shown b
  unfolding body_shown
  many_tasks = length_ids (task_shown b) (tasks_shown b)

  pub many_messages : length (store_shown b msgs).messages ≡ messages_shown b
  unfolding store_shown
  many_messages = length_ids _ (messages_shown b)

  line_kept : (q : Place) → Exists (store_shown b msgs) q → Keeps (ids_shown b (rings_at q)) (belongs_at (body_shown b msgs) q) (nodes_shown b q) → Queue (body_shown b msgs) q (line_shown b q)
  unfolding line_shown population body_shown
  line_kept (ready_at p) h k = counted (ready_at p) (tasks_shown b) _ (unfold body_shown in many_tasks) k
  line_kept (waiters i o) h k = counted (waiters i o) (tasks_shown b) _ (unfold body_shown in many_tasks) k
  line_kept (mail m) h k = counted (mail m) (messages_shown b) _ many_messages k
  line_kept (free_in p) h k =
      counted (free_in p) (length (of (store_shown b msgs).pools p [])) _ refl
      (lines_numbers p (belongs (body_shown b msgs) (free_in p)) h.0 (pools_shown b) _ (there pool p h).1 (blocks_few p (there pool p h)).1 (λ i e. (free_in_lem p i e).1) (nodes_shown b (free_in p)) k)

  kept_line : (q : Place) → Exists (store_shown b msgs) q → Queue (body_shown b msgs) q (line_shown b q) → Keeps (ids_shown b (rings_at q)) (belongs_at (body_shown b msgs) q) (nodes_shown b q)
  unfolding line_shown population body_shown
  kept_line (ready_at p) h k = recounted (ready_at p) (tasks_shown b) _ (unfold body_shown in many_tasks) k
  kept_line (waiters i o) h k = recounted (waiters i o) (tasks_shown b) _ (unfold body_shown in many_tasks) k
  kept_line (mail m) h k = recounted (mail m) (messages_shown b) _ many_messages k
  kept_line (free_in p) h k =
      numbers_lines p (belongs (body_shown b msgs) (free_in p)) h.0 (pools_shown b) _ (there pool p h).1 (blocks_few p (there pool p h)).1 (λ i e. (free_in_lem p i e).1) (nodes_shown b (free_in p))
      (recounted (free_in p) (length (of (store_shown b msgs).pools p [])) _ refl k)

  -- each line of these rings holds just those that belong to it
  abbrev pub QueuesKept : Rings → Type 0
  QueuesKept r = (q : Place) → InRings (store_shown b msgs) r q → Queue (body_shown b msgs) q (line_shown b q)

  -- THE LAW
  pub queued_law : (r : Rings) → Decides (queued_in b msgs r) (WholeRings b msgs r × QueuesKept r)
  queued_law r = decides_as (nodes_law r)
      (λ h. (h.0, λ q u. line_kept q u.0 (subst (λ (x : Rings). Keeps (ids_shown b x) (belongs_at (body_shown b msgs) q) (line_of (ids_shown b x) (words (next_of x) b) (anchor q))) (sym u.1) (h.1 q u))))
      (λ h. (h.0, λ q u. subst (λ (x : Rings). Keeps (ids_shown b x) (belongs_at (body_shown b msgs) q) (line_of (ids_shown b x) (words (next_of x) b) (anchor q))) u.1 (kept_line q u.0 (h.1 q u))))
