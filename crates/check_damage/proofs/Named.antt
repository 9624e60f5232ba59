-- What the naming tells of a memory is what the rules tell of the view that it shows. Assumes nothing.
use mathlib.Core.Bool.{Bool, true, false, cond, ◌&&◌, true≢false, false≢true, Bool-discrete}
use mathlib.Core.List.{List, [], ◌∷◌, map}
use mathlib.Core.Option.{some}
use mathlib.Core.Path.{◌≡◌, refl, sym, ap, ◌∙◌, subst}
use Prim.Native.Nat.{ℕ, zero, suc, ◌+◌, ◌-◌, ◌/◌, ◌≤◌, ◌<◌, ◌^◌}
use native.Mathlib.Decide.{dec_le}
use native.Mathlib.Omega.{arith}
use lib.Dec.{eqb, leb}
use lib.ListN.{length, get_or}
use borrow.Author.Tests.{eq-eqb, ne_eqb, eqb-true, le-leb, leb-true, leb-false}
use Rattle.rules.specs.Ids.{of, from, ids, In, once, times}
use Rattle.rules.specs.Codes.{Code, number, H-NUMBER, H-QUEUE, H-SERVED, H-TWICE, H-FREE}
use Rattle.rules.specs.State.{Kind, semaphore, flag, mailbox, pool, on, Store}
use Rattle.rules.specs.Places.{Place, ready_at, waiters, mail, free_in, many, belongs, Exists, tabulate, population}
use Rattle.rules.specs.View.{View, line}
use Rattle.rules.specs.Sound.{Known, SoundBody}
use Rattle.rules.specs.Breach.{Breach, breach_at, Ranged, ranged?, Stands, InPlace, in_place?, Alone, some?, served_beside, held, HeldOnce, Listed, listed?, rules_of, is_yes, first_bad, unless, first_of, breach_by, breach}
use Rattle.rules.proofs.Ids.{length_ids}
use Rattle.rules.proofs.Lines.{shape_tabulate}
use Rattle.rules.proofs.Breach.{breach_number}
use Rattle.memory_rings.specs.Links.{first_of as head_node}
use Rattle.memory_rings.specs.Rings.{walk, line_of}
use Rattle.memory_columns.specs.declared.Rings.{Rings}
use Rattle.memory_columns.specs.declared.Rings.TheVariants.{Tasks, Messages, Blocks}
use Rattle.memory_columns.specs.Layout as Layout
use Rattle.memory_columns.specs.Layout.{state_words, max_messages, max_objects, max_pools, max_blocks, wait_node, mail_node, before_pool, block_node, words, entry}
use Rattle.memory_queues.specs.Moves.{mail_anchor, free_anchor, node_of_block}
use Rattle.memory_picture.specs.Picture.{task_shown, tasks_shown, messages_shown, pools_shown, bits_of, pool_shown, store_shown, body_shown, kind_number, anchor, ids_shown, line_shown, view_shown}
use Rattle.memory_picture.proofs.Cases.{asked}
use Rattle.memory_picture.proofs.Lines.{differ}
use Rattle.memory_picture.proofs.PoolBits.{length_bits}
use Rattle.check_ranges.specs.Ranges.{every}
use Rattle.check_ranges.specs.Ranges as Counts
use Rattle.check_ranges.proofs.Decisions.{Decides, decides_as, decides_and, decides_yes, decides_eq, decides_in, decides_every}
use Rattle.check_ranges.proofs.Ranges.{many_of, objects_shown, Ranges, ranges_law}
use Rattle.check_queues.specs.Queues.{home, block_home, home_in}
use Rattle.check_queues.proofs.BlockLines.{has_block, times_block}
use Rattle.check_queues.proofs.Standing.{task_is, pool_is, belongs_at, InRings, tasks_few, messages_few, priorities_few, objects_few, pools_few, ids_are, belongs_home, many_messages}
use Rattle.check_state.specs.Unserved.{wait_free, unserved_ok}
use Rattle.check_state.proofs.Unserved.{semaphore_law, flag_law, pool_law, waiter_law}
use Rattle.check_state.proofs.Accepted.{line_is, body_sound, sound_shown}
use Rattle.check_lines.specs.Lists.{known, stands_right, at_most_once}
use Rattle.check_lines.specs.Lines.{few, every_in, task_lines, mail_lines, line_known, tasks_known, mails_known, pool_known, pools_known, numbers_ok, placed, message_once, block_listed, pool_listed}
use Rattle.check_damage.specs.Damage.{Told, told, ids_from, first_broken}

-- ---- lists

known_law : (low m : ℕ) (l : List ℕ) → Decides (known low m l) (Known m (map (λ x. x - low) l))
unfolding known
known_law low m [] = decides_yes tt
known_law low m (x ∷ l) = decides_and (decides_in (x - low) m) (λ h. known_law low m l)

less_none : (l : List ℕ) → map (λ x. x - 0) l ≡ l
less_none [] = refl
less_none (x ∷ l) = let e : x - 0 ≡ x = omega arith in rw e (ap (λ (m : List ℕ). x ∷ m) (less_none l))

known_ids : (n : ℕ) (l : List ℕ) → Decides (known 0 n l) (Known n l)
known_ids n l = decides_as (known_law 0 n l) (λ h. rw (less_none l) at h) (λ h. rw (less_none l) h)

pool_long : (n m : ℕ) → In (length (pool_shown n m)) max_blocks → length (pool_shown n m) ≡ n
unfolding pool_shown
pool_long n m = go (eqb (m / 2 ^ n) 0)
  where
    go : (t : Bool) → In (length (cond t (bits_of n m) [])) max_blocks → length (cond t (bits_of n m) []) ≡ n
    go true h = length_bits n m
    go false h = absurd (omega (arith, h.0))

-- the line of an anchor is empty just where no node is its first
first_law : (n : ℕ) (nx : List ℕ) (a : ℕ) → Known n (line_of n nx a) → Decides (eqb (head_node nx a) 0) (some? (line_of n nx a) ≡ false)
unfolding line_of walk head_node
first_law n nx a = go (eqb (get_or nx a 0) a) refl
  where
    go : (t : Bool) → eqb (get_or nx a 0) a ≡ t
        → Known n (cond t [] (get_or nx a 0 ∷ cond (leb 1 (get_or nx a 0) && leb (get_or nx a 0) n) (walk n n nx a (get_or nx (get_or nx a 0) 0)) []))
        → Decides (eqb (cond t 0 (get_or nx a 0)) 0) (some? (cond t [] (get_or nx a 0 ∷ cond (leb 1 (get_or nx a 0) && leb (get_or nx a 0) n) (walk n n nx a (get_or nx (get_or nx a 0) 0)) [])) ≡ false)
    go true e k = decides_yes refl
    go false e k = ((λ z. absurd (omega (arith, k.0.0, eqb-true (get_or nx a 0) 0 z))), (λ z. absurd (true≢false z)))

-- a sum over lines, from some found before on
sum_law : (n : ℕ) (nx : List ℕ) (i before k o left : ℕ) → k ≤ 1 → Decides (at_most_once n nx i before k o left) (k + held i (map (λ m. line_of n nx (before + m)) (from o left)) ≤ 1)
unfolding at_most_once held
sum_law n nx i before k o zero h = decides_yes (omega arith)
sum_law n nx i before k o (suc left) h = go (leb (k + times i (line_of n nx (before + o))) 1) refl (sum_law n nx i before (k + times i (line_of n nx (before + o))) (suc o) left)
  where
    rest : ℕ
    rest = held i (map (λ m. line_of n nx (before + m)) (from (suc o) left))

    go : (t : Bool) → leb (k + times i (line_of n nx (before + o))) 1 ≡ t
        → (k + times i (line_of n nx (before + o)) ≤ 1 → Decides (at_most_once n nx i before (k + times i (line_of n nx (before + o))) (suc o) left) (k + times i (line_of n nx (before + o)) + rest ≤ 1))
        → Decides (cond t (at_most_once n nx i before (k + times i (line_of n nx (before + o))) (suc o) left) false) (k + (times i (line_of n nx (before + o)) + rest) ≤ 1)
    go true e d = decides_as (d (leb-true _ 1 e)) (λ z. omega (arith, z)) (λ z. omega (arith, z))
    go false e d = ((λ z. absurd (false≢true z)), (λ z. absurd (omega (arith, leb-false (k + times i (line_of n nx (before + o))) 1 e, z))))

module _ (b msgs : List ℕ) (size : length b ≡ state_words) (R : Ranges b msgs) where
  abbrev u : Store
  u = store_shown b msgs

  abbrev v : View
  v = view_shown b msgs

  -- ---- the counts are whole

  whole : (k : ℕ) → Counts.many b k ≤ max_messages → few b k ≡ Counts.many b k
  whole k h = rw (le-leb (Counts.many b k) max_messages h)

  few_objects : (k : Kind) → many_of b k ≤ max_messages
  few_objects k = omega (arith, objects_few b msgs size R k)

  -- ---- all queues of tasks, all mailboxes, and all pools

  -- the node of an object's waiters
  node_is : (k : Kind) (o : ℕ) → wait_node (kind_number k) 0 + o ≡ anchor (waiters k o)
  unfolding anchor
  node_is semaphore o = omega arith
  node_is flag o = omega arith
  node_is mailbox o = omega arith
  node_is pool o = omega arith

  ranged_over : (f : ℕ → Bool) (node k : ℕ) → Counts.many b k ≤ max_messages → Decides (every (few b k) 1 (λ o. f (node + o))) ((o : ℕ) → In o (Counts.many b k) → f (node + o) ≡ true)
  ranged_over f node k h = rw (whole k h) (decides_every (Counts.many b k) (λ o. f (node + o)) (λ o _. ((λ e. e), (λ e. e))))

  tasks_in_lem : (f : ℕ → Bool) → Decides (every_in (task_lines b) f) ((q : Place) → InRings u Tasks q → f (anchor q) ≡ true)
  unfolding every_in anchor store_shown
  tasks_in_lem f = decides_as
      (decides_and (ranged_over f _ Layout.priorities (omega (arith, priorities_few b msgs size R)))
      (λ _. decides_and (ranged_over f _ Layout.semaphores (few_objects semaphore)) (λ _. decides_and (ranged_over f _ Layout.flags (few_objects flag))
      (λ _. decides_and (ranged_over f _ Layout.mailboxes (few_objects mailbox)) (λ _. decides_and (ranged_over f _ Layout.pools (few_objects pool)) (λ _. decides_yes tt))))))
      to
      (λ h. ((λ p r. h (ready_at p) (r, refl)), (back semaphore h, (back flag h, (back mailbox h, (back pool h, tt))))))
    where
      Waiting : Kind → Type 0
      Waiting k = (o : ℕ) → In o (many_of b k) → f (wait_node (kind_number k) 0 + o) ≡ true

      at : (k : Kind) → Waiting k → (o : ℕ) → In o (many_of b k) → f (anchor (waiters k o)) ≡ true
      at k h o r = subst (λ (a : ℕ). f a ≡ true) (node_is k o) (h o r)

      to : ((o : ℕ) → In o (Counts.many b Layout.priorities) → f (32 + o) ≡ true) × (Waiting semaphore × (Waiting flag × (Waiting mailbox × (Waiting pool × Unit {0}))))
          → (q : Place) → InRings u Tasks q → f (anchor q) ≡ true
      to h (ready_at p) r = h.0 p r.0
      to h (waiters semaphore o) r = at semaphore h.1.0 o (subst (In o) (objects_shown b msgs semaphore) r.0)
      to h (waiters flag o) r = at flag h.1.1.0 o (subst (In o) (objects_shown b msgs flag) r.0)
      to h (waiters mailbox o) r = at mailbox h.1.1.1.0 o (subst (In o) (objects_shown b msgs mailbox) r.0)
      to h (waiters pool o) r = at pool h.1.1.1.1.0 o (subst (In o) (objects_shown b msgs pool) r.0)
      to h (mail m) r = absurd (differ r.1 (λ z. omega arith))
      to h (free_in p) r = absurd (differ r.1 (λ z. omega arith))

      back : (k : Kind) → ((q : Place) → InRings u Tasks q → f (anchor q) ≡ true) → Waiting k
      back k h o r = subst (λ (a : ℕ). f a ≡ true) (sym (node_is k o)) (h (waiters k o) (subst (In o) (sym (objects_shown b msgs k)) r, refl))

  mails_in : (f : ℕ → Bool) → Decides (every_in (mail_lines b) f) ((m : ℕ) → In m u.mailboxes → f (anchor (mail m)) ≡ true)
  unfolding every_in anchor store_shown
  mails_in f = decides_as (decides_and (ranged_over f _ Layout.mailboxes (few_objects mailbox)) (λ _. decides_yes {A = Unit {0}} tt)) (λ h. h.0) (λ h. (h, tt))

  pools_in : (f : ℕ → Bool) → Decides (every (few b Layout.pools) 1 f) ((p : ℕ) → In p (pools_shown b) → f p ≡ true)
  pools_in f = rw (whole Layout.pools (few_objects pool)) (decides_every (pools_shown b) f (λ p _. ((λ e. e), (λ e. e))))

  pool_there : (p : ℕ) → In p (length u.pools) → In p (pools_shown b)
  pool_there p r = subst (In p) (objects_shown b msgs pool) r

  there_pool : (p : ℕ) → In p (pools_shown b) → In p (length u.pools)
  there_pool p r = subst (In p) (sym (objects_shown b msgs pool)) r

  pool_many : (p : ℕ) → In p (length u.pools) → length (of u.pools p []) ≡ entry Layout.size b p
  pool_many p r =
      let e = pool_is b msgs p (pool_there p r) in
      ap (λ (l : List Bool). length l) e ∙ pool_long _ _ (subst (λ (l : List Bool). In (length l) max_blocks) e (R.store.pools p r))

  -- ---- numbers

  abbrev Each : Place → Type 0
  Each q = Known (many (body_shown b msgs) q) (line v q)

  task_known : (q : Place) → InRings u Tasks q → Decides (line_known b Tasks (anchor q)) (Each q)
  unfolding population body_shown line_shown
  task_known (ready_at p) r = rw (line_is b msgs (ready_at p) r.0, length_ids (task_shown b) (tasks_shown b)) (known_ids (tasks_shown b) _)
  task_known (waiters k o) r = rw (line_is b msgs (waiters k o) r.0, length_ids (task_shown b) (tasks_shown b)) (known_ids (tasks_shown b) _)
  task_known (mail m) r = absurd (differ r.1 (λ z. omega arith))
  task_known (free_in p) r = absurd (differ r.1 (λ z. omega arith))

  mail_known : (m : ℕ) → In m u.mailboxes → Decides (line_known b Messages (anchor (mail m))) (Each (mail m))
  unfolding population line_shown body_shown
  mail_known m r = rw (line_is b msgs (mail m) r, many_messages b msgs size R) (known_ids (messages_shown b) _)

  free_known : (p : ℕ) → In p (length u.pools) → Decides (pool_known b p) (Each (free_in p))
  unfolding population line_shown body_shown anchor
  free_known p r = rw (line_is b msgs (free_in p) r, pool_many p r, ids_are b msgs size R Blocks) (known_law (before_pool p) (entry Layout.size b p) _)

  numbers_law : Decides (tasks_known b && (mails_known b && pools_known b)) ((q : Place) → Exists u q → Each q)
  numbers_law = decides_as (decides_and (tasks_in_lem _) (λ _. decides_and (mails_in _) (λ _. pools_in _))) (λ h q e. to h.0 h.1.0 h.1.1 q e)
      (λ h. ((λ q r. (task_known q r).1 (h q r.0)), ((λ m r. (mail_known m r).1 (h (mail m) r)), (λ p r. (free_known p (there_pool p r)).1 (h (free_in p) (there_pool p r))))))
    where
      to : ((q : Place) → InRings u Tasks q → line_known b Tasks (anchor q) ≡ true) → ((m : ℕ) → In m u.mailboxes → line_known b Messages (anchor (mail m)) ≡ true) → ((p : ℕ) → In p (pools_shown b) → pool_known b p ≡ true)
          → (q : Place) → Exists u q → Each q
      to f g k (ready_at p) r = (task_known (ready_at p) (r, refl)).0 (f (ready_at p) (r, refl))
      to f g k (waiters i o) r = (task_known (waiters i o) (r, refl)).0 (f (waiters i o) (r, refl))
      to f g k (mail m) r = (mail_known m r).0 (g m r)
      to f g k (free_in p) r = (free_known p r).0 (k p (pool_there p r))

  -- ---- a task in its queue

  -- an id stands in a line as its home says just where it stands there as it belongs
  home_stands : (r : Rings) (q : Place) → InRings u r q → (i : ℕ) → In i (ids_shown b r) → (k : ℕ) → k ≡ once (eqb (home_in b msgs r i) (anchor q)) → k ≡ once (belongs_at (body_shown b msgs) q i)
  home_stands r q e i h k z = z ∙ ap once (same (belongs_at (body_shown b msgs) q i) refl)
    where
      B : Decides (belongs_at (body_shown b msgs) q i) (home_in b msgs r i ≡ anchor q)
      B = belongs_home b msgs size R r q e i h

      same : (t : Bool) → belongs_at (body_shown b msgs) q i ≡ t → eqb (home_in b msgs r i) (anchor q) ≡ t
      same true x = eq-eqb _ _ (B.0 x)
      same false x = ne_eqb _ _ (λ y. false≢true (sym x ∙ B.1 y))

  placed_law : (i : ℕ) → In i (tasks_shown b) → Decides (placed b (home b i) i) (InPlace v i)
  unfolding placed stands_right view_shown body_shown
  placed_law i h = decides_as (tasks_in_lem _) (λ f q e t. to f q e t) from_place
    where
      once_is : (q : Place) → InRings u Tasks q → once (eqb (home b i) (anchor q)) ≡ once (belongs_at (body_shown b msgs) q i)
      once_is q r = home_stands Tasks q r i h (once (eqb (home b i) (anchor q))) refl

      stands : (q : Place) → InRings u Tasks q → once (belongs_at (body_shown b msgs) q i) ≡ once (belongs (body_shown b msgs) q i) → line_shown b q ≡ line_of (tasks_shown b) (words Layout.next b) (anchor q)
          → Decides (eqb (times i (line_of (tasks_shown b) (words Layout.next b) (anchor q))) (once (eqb (home b i) (anchor q)))) (Stands v q i)
      stands q r x y = rw (line_is b msgs q r.0, y, once_is q r, x) (decides_eq _ _)

      ready : (p : ℕ) → Exists u (ready_at p) → Decides (eqb (times i (line_of (tasks_shown b) (words Layout.next b) (anchor (ready_at p)))) (once (eqb (home b i) (anchor (ready_at p))))) (Stands v (ready_at p) i)
      ready p e = stands (ready_at p) (e, refl) refl (unfold line_shown in refl)

      wait : (k : Kind) (o : ℕ) → Exists u (waiters k o) → Decides (eqb (times i (line_of (tasks_shown b) (words Layout.next b) (anchor (waiters k o)))) (once (eqb (home b i) (anchor (waiters k o))))) (Stands v (waiters k o) i)
      wait k o e = stands (waiters k o) (e, refl) refl (unfold line_shown in refl)

      to : ((q : Place) → InRings u Tasks q → eqb (times i (line_of (tasks_shown b) (words Layout.next b) (anchor q))) (once (eqb (home b i) (anchor q))) ≡ true) → InPlace v i
      to f (ready_at p) e t = (ready p e).0 (f (ready_at p) (e, refl))
      to f (waiters k o) e t = (wait k o e).0 (f (waiters k o) (e, refl))
      to f (mail m) e t = absurd (false≢true t)
      to f (free_in p) e t = absurd (false≢true t)

      from_place : InPlace v i → (q : Place) → InRings u Tasks q → eqb (times i (line_of (tasks_shown b) (words Layout.next b) (anchor q))) (once (eqb (home b i) (anchor q))) ≡ true
      from_place f (ready_at p) e = (ready p e.0).1 (f (ready_at p) e.0 refl)
      from_place f (waiters k o) e = (wait k o e.0).1 (f (waiters k o) e.0 refl)
      from_place f (mail m) e = absurd (differ e.1 (λ z. omega arith))
      from_place f (free_in p) e = absurd (differ e.1 (λ z. omega arith))

  -- ---- a waiter

  module _ (K : (q : Place) → Exists u q → Known (many (body_shown b msgs) q) (line v q)) where
    mailbox_law : (o : ℕ) → In o (Counts.many b Layout.mailboxes) → Decides (eqb (head_node (words Layout.mail_next b) (mail_anchor o)) 0) (some? (line v (mail o)) ≡ false)
    mailbox_law o h = rw (at, line_is b msgs (mail o) r, is_line) (first_law (messages_shown b) (words Layout.mail_next b) (anchor (mail o)) k)
      where
        r : Exists u (mail o)
        r = unfold store_shown in h

        at : mail_anchor o ≡ anchor (mail o)
        at = rw (le-leb o max_objects (omega (arith, h.1, objects_few b msgs size R mailbox))) (unfold anchor in refl)

        is_line : line_shown b (mail o) ≡ line_of (messages_shown b) (words Layout.mail_next b) (anchor (mail o))
        is_line = unfold line_shown in refl

        k : Known (messages_shown b) (line_of (messages_shown b) (words Layout.mail_next b) (anchor (mail o)))
        k = unfold population body_shown in rw (line_is b msgs (mail o) r, is_line, many_messages b msgs size R) at (K (mail o) r)

    object_law : (c : Kind) (n o p m : ℕ) → n ≡ kind_number c → In o (many_of b c) → Decides (wait_free b n o p m) (served_beside v (some (on c o (asked c p) (asked c m))) ≡ false)
    unfolding wait_free view_shown body_shown
    object_law semaphore n o p m e h = rw e (semaphore_law b msgs R o h)
    object_law flag n o p m e h = rw e (flag_law b msgs R o p m h)
    object_law mailbox n o p m e h = rw e (mailbox_law o h)
    object_law pool n o p m e h = rw e (pool_law b msgs R o h)

    alone_law : (i : ℕ) → In i (tasks_shown b) → Decides (unserved_ok b i) (Alone v i)
    unfolding view_shown
    alone_law i h = rw (task_is b msgs i h) (waiter_law b msgs R (λ w. served_beside v w ≡ false) refl refl (λ t. refl) object_law i h)

  -- ---- a message

  once_law : (j : ℕ) → Decides (message_once b j) (HeldOnce v j)
  unfolding message_once view_shown tabulate store_shown line_shown anchor ids
  once_law j = rw (whole Layout.mailboxes (few_objects mailbox)) (decides_as (sum_law (messages_shown b) (words Layout.mail_next b) j (mail_node 0) 0 1 (Counts.many b Layout.mailboxes) (omega arith)) (λ h. omega (arith, h)) (λ h. omega (arith, h)))

  -- ---- a pool

  block_law : (p k : ℕ) → In p (length u.pools) → In k (entry Layout.size b p) → Decides (block_listed b p k) (Stands v (free_in p) k)
  unfolding stands_right view_shown
  block_law p k r h =
      rw (node, is_anchor, ids_are b msgs size R Blocks, line_is b msgs (free_in p) r, is_line, times_block p (belongs (body_shown b msgs) (free_in p)) r.0 k h.0 (line_of (ids_shown b Blocks) (words Layout.block_next b) (anchor (free_in p))), said) (decides_eq _ _)
    where
      few_blocks : k ≤ max_blocks
      few_blocks = omega (arith, h.1, pool_many p r, (R.store.pools p r).1)

      few_pools : p ≤ max_pools
      few_pools = omega (arith, pools_few b msgs size R, (pool_there p r).1)

      node : node_of_block p k ≡ block_node p k
      node = rw (le-leb 1 p r.0, le-leb p max_pools few_pools, le-leb k max_blocks few_blocks)

      is_anchor : free_anchor p ≡ anchor (free_in p)
      is_anchor = unfold anchor in rw (le-leb p max_pools few_pools)

      is_line : line_shown b (free_in p) ≡ map (λ x. x - before_pool p) (line_of (ids_shown b Blocks) (words Layout.block_next b) (anchor (free_in p)))
      is_line = unfold line_shown in refl

      said : once (eqb (block_home b (block_node p k)) (anchor (free_in p))) ≡ once (belongs (body_shown b msgs) (free_in p) k)
      said =
          home_stands Blocks (free_in p) (r, refl) (block_node p k) (omega (arith, h.0), omega (arith, few_blocks, r.0, (pool_there p r).1)) (once (eqb (block_home b (block_node p k)) (anchor (free_in p)))) refl
          ∙ ap once (has_block p (belongs (body_shown b msgs) (free_in p)) r.0 k (h.0, few_blocks))

  listed_law : (p : ℕ) → In p (length u.pools) → Decides (pool_listed b p) (Listed v p)
  unfolding pool_listed view_shown population body_shown
  listed_law p r = decides_as (decides_every (entry Layout.size b p) (block_listed b p) (λ k h. block_law p k r h)) (λ f k h. f k (subst (In k) (pool_many p r) h)) (λ f k h. f k (subst (In k) (sym (pool_many p r)) h))

-- ---- the rules in order

abbrev pub says : Breach → Told
says x = told (number x.code) x.id

same_test : {A : Type 0} {t : Bool} → Decides t A → (d : Dec A) → is_yes d ≡ t
same_test {t = true} h (yes a) = refl
same_test {t = true} h (no k) = absurd (k (h.0 refl))
same_test {t = false} h (yes a) = absurd (false≢true (h.1 a))
same_test {t = false} h (no k) = refl

-- the ids of one rule, from k on
ids_law : (f g : ℕ → Bool) (c : Code) (x : Breach) (y : Told) → says x ≡ y → (n k : ℕ) → 1 ≤ k → ((i : ℕ) → k ≤ i → i < k + n → f i ≡ g i)
    → says (unless (first_bad f (from k n)) c x) ≡ ids_from g (number c) k n y
unfolding first_bad ids_from
ids_law f g c x y e zero k h same = e
ids_law f g c x y e (suc n) zero h same = absurd (omega (arith, h))
ids_law f g c x y e (suc n) (suc k) h same =
    go (f (suc k)) (g (suc k)) (same (suc k) (omega arith) (omega arith)) (ids_law f g c x y e n (suc (suc k)) (omega arith) (λ i a b. same i (omega arith) (omega arith)))
  where
    go : (s t : Bool) → s ≡ t → says (unless (first_bad f (from (suc (suc k)) n)) c x) ≡ ids_from g (number c) (suc (suc k)) n y
        → says (unless (cond s (first_bad f (from (suc (suc k)) n)) (suc k)) c x) ≡ cond t (ids_from g (number c) (suc (suc k)) n y) (told (number c) (suc k))
    go true true d r = r
    go false false d r = refl
    go true false d r = absurd (true≢false d)
    go false true d r = absurd (false≢true d)

-- one rule, over its ids
rule_law : (P : ℕ → Type 0) (d : (i : ℕ) → Dec (P i)) (g : ℕ → Bool) (c : Code) (n m : ℕ) (x : Breach) (y : Told) → says x ≡ y → n ≡ m → ((i : ℕ) → In i m → Decides (g i) (P i))
    → says (unless (first_bad (λ i. is_yes (d i)) (ids n)) c x) ≡ ids_from g (number c) 1 m y
unfolding ids
rule_law P d g c n m x y e q h = rw q (ids_law (λ i. is_yes (d i)) g c x y e m 1 (omega arith) (λ i a b. same_test (h i (a, omega arith)) (d i)))

ranged_is : (v : View) → Ranged v → breach v ≡ first_of (rules_of v)
unfolding breach breach_by
ranged_is v r = go (ranged? v)
  where
    go : (d : Dec (Ranged v)) → breach_by v d ≡ first_of (rules_of v)
    go (yes s) = refl
    go (no k) = absurd (k r)

-- THE THEOREM

module _ (b msgs : List ℕ) (size : length b ≡ state_words) (low : entry Layout.system b Layout.clock_low < 2 ^ 32) where
  ranges_by : SoundBody (body_shown b msgs) → Ranges b msgs
  unfolding body_shown
  ranges_by S = record { sizes = S.sizes; low = low; store = S.store; tasks = sound_shown b msgs S; handlers = S.handlers; counter = S.counter }

  ranged_law : Decides (numbers_ok b msgs) (Ranged (view_shown b msgs))
  unfolding numbers_ok view_shown body_shown
  ranged_law = decides_as (decides_and (ranges_law b msgs) (λ R. numbers_law b msgs size R))
      (λ h. record { body = body_sound b msgs h.0; shape = shape_tabulate (store_shown b msgs) (line_shown b); known = h.1 })
      (λ h. (ranges_by h.body, h.known))

  pub number_told : numbers_ok b msgs ≡ false → breach (view_shown b msgs) ≡ breach_at H-NUMBER 0
  number_told e = breach_number (view_shown b msgs) (λ h. true≢false (sym (ranged_law.1 h) ∙ e))

  pub rule_told : numbers_ok b msgs ≡ true → says (breach (view_shown b msgs)) ≡ first_broken b
  unfolding rules_of first_of first_broken view_shown body_shown store_shown
  rule_told e =
      ap says (ranged_is v (ranged_law.0 e))
      ∙ rule_law (InPlace v) (in_place? v) (λ i. placed b (home b i) i) H-QUEUE (length v.body.tasks) (few b Layout.tasks) _ _
      (rule_law (Alone v) (λ i. Bool-discrete _ false) (unserved_ok b) H-SERVED (length v.body.tasks) (few b Layout.tasks) _ _
      (rule_law (HeldOnce v) (λ j. dec_le (held j v.lines.mail) 1) (message_once b) H-TWICE (length v.body.store.messages) (few b Layout.messages) _ _
      (rule_law (Listed v) (listed? v) (pool_listed b) H-FREE (length v.body.store.pools) (few b Layout.pools) _ _ refl
      pools (λ p h. listed_law b msgs size R p (subst (In p) (sym pools) h)))
      messages (λ j h. once_law b msgs size R j))
      tasks (λ i h. alone_law b msgs size R (ranged_law.0 e).known i (subst (In i) whole_tasks h)))
      tasks (λ i h. placed_law b msgs size R i (subst (In i) whole_tasks h))
    where
      v : View
      v = view_shown b msgs

      R : Ranges b msgs
      R = ranges_by (ranged_law.0 e).body

      whole_tasks : few b Layout.tasks ≡ tasks_shown b
      whole_tasks = whole b msgs size R Layout.tasks (omega (arith, tasks_few b msgs size R))

      tasks : length v.body.tasks ≡ few b Layout.tasks
      tasks = length_ids (task_shown b) (tasks_shown b) ∙ sym whole_tasks

      messages : length v.body.store.messages ≡ few b Layout.messages
      messages = length_ids _ (messages_shown b) ∙ sym (whole b msgs size R Layout.messages (messages_few b msgs size R))

      pools : length v.body.store.pools ≡ few b Layout.pools
      pools = length_ids _ (pools_shown b) ∙ sym (whole b msgs size R Layout.pools (omega (arith, pools_few b msgs size R)))
