-- The acts on objects: a count, a pattern; and messages and blocks, which move in their rings.
use mathlib.Core.Bool.{Bool, true, false, true≢false}
use mathlib.Core.List.{List, [], ◌∷◌, map}
use mathlib.Core.Logic.{◌≢◌}
use mathlib.Core.Option.{Option, none, some}
use mathlib.Core.Path.{◌≡◌, refl, sym, ap, ◌∙◌, subst}
use Prim.Native.Nat.{ℕ, pred, ◌-◌, ◌*◌, ◌≤◌, ◌<◌}
use native.Mathlib.Omega.{arith}
use lib.Dec.{eqb}
use lib.ListN.{length, get_or}
use borrow.Author.Tests.{le-leb, ne_eqb, eq-eqb}
use Rattle.rules.specs.Ids.{of, put, ids, In, once, times}
use Rattle.rules.specs.State.{semaphore, flag, Store}
use Rattle.rules.specs.Places.{Place, ready_at, waiters, mail, free_in, lies, belongs, population, Exists}
use Rattle.rules.specs.Acts.{Act, count, pattern, post, receive, mark, after, stay, move, with_store, with_semaphores, with_flags, with_messages, with_pools}
use Rattle.rules.specs.Objects.{laid}
use Rattle.rules.specs.Sound.{Known}
use Rattle.rules.proofs.Ids.{of_ids, length_ids, length_put, of_put_same, of_put_other}
use Rattle.rules.proofs.Lines.{line_tabulate}
use Rattle.memory_rings.specs.Links.{push_next, push_prev, left_next, left_prev}
use Rattle.memory_rings.specs.Rings.{IsId, Out, line_of}
use Rattle.memory_rings.proofs.Laws.{free_law}
use Rattle.memory_columns.specs.declared.Rings.{Rings}
use Rattle.memory_columns.specs.declared.Rings.TheVariants.{Tasks, Messages, Blocks}
use Rattle.memory_columns.specs.Layout as Layout
use Rattle.memory_columns.specs.Layout.{Column, max_objects, max_messages, max_pools, max_blocks, before_pool, block_node, next_of, prev_of, links_of, object_columns, same, among, clear, words, entry, Only}
use Rattle.memory_columns.proofs.Tiling.{either_right, column_fits}
use Rattle.memory_columns.proofs.Frame.{Sized, put_size, put_apart, entry_put, entry_other, only_first, only_on, object_column, clear_apart, put_among}
use Rattle.memory_queues.specs.Moves.{mail_anchor, free_anchor, node_of_block, linked, unlinked}
use Rattle.memory_columns.specs.Bits.{masked}
use Rattle.memory_objects.specs.Moves.{listed, marked}
use Rattle.memory_picture.specs.Picture.{messages_shown, pools_shown, message_shown, pool_shown, store_shown, body_shown, anchor, rings_at, ids_shown, nodes_shown, line_shown, view_shown, Used, Accepted}
use Rattle.memory_queues.proofs.Relinks.{Relinked, linked_law, unlinked_law}
use Rattle.memory_picture.proofs.Lines.{Step, rest, out, to, next_after, prev_after, Fine, differ, only_in, Follows, rest_follows, message_leaves, message_goes, block_leaves, block_goes}
use Rattle.memory_picture.proofs.Done.{Done, used_at}
use Rattle.memory_picture.proofs.Touched.{map_put, tasks_kept, store_put, store_stays, handlers_kept, counter_kept}
use Rattle.memory_picture.proofs.PoolBits.{pool_masked}
use Rattle.memory_picture.proofs.OneTask.{sizes, few, small}
use Rattle.memory_picture.proofs.Counts.{times_out}

-- a message that lies nowhere lies in no mailbox
unlaid : (x : Option ℕ) (m : ℕ) → laid x ≡ false → once (lies x m) ≡ 0
unlaid none m e = refl
unlaid (some n) m e = absurd (true≢false e)

-- what an act on an object may write
abbrev writable : List Column
writable = links_of Messages ∷ links_of Blocks ∷ object_columns

-- what is clear of all of these is clear of the links of blocks
links_clear : (d : Column) → clear writable d ≡ true → clear (links_of Blocks ∷ []) d ≡ true
links_clear d z = rw (clear_apart writable (links_of Blocks) d z refl)

-- a line that shows only blocks of pool n has no node of another pool's block
strange : {p k : ℕ} (m n : ℕ) (l : List ℕ) → m ≤ max_blocks → 1 ≤ p → 1 ≤ n → 1 ≤ k → k ≤ max_blocks → n ≢ p → Known m (map (λ x. x - before_pool n) l) → Out (block_node p k) l
strange m n [] a b c d e ne f = tt
strange m n (x ∷ l) a b c d e ne f = ((λ z. ne (omega (arith, f.0.0, f.0.1))), strange m n l a b c d e ne f.1)

writes : (x : Column) → among object_columns x ≡ true → among writable x ≡ true
writes x h = either_right (same (links_of Messages) x) (among (links_of Blocks ∷ object_columns) x) (either_right (same (links_of Blocks) x) (among object_columns x) h)

module _ (b msgs : List ℕ) (A : Accepted b msgs) where
  size : Sized b
  size = A.whole.size

  -- the store becomes w, and those of one sort, not the tasks, make a step
  objects_done : (a : Act) (c marks : List ℕ) (w : Store) (r : Rings) (s : Step) → Sized c → length marks ≡ max_messages → Only writable b c
      → store_shown c marks ≡ w → after a (body_shown b msgs) ≡ with_store w (body_shown b msgs)
      → only_in r s Tasks ≡ rest → ((x : Rings) → Fine (ids_shown b x) (Used (store_shown b msgs) x) (only_in r s x))
      → ((x : Rings) → words (next_of x) c ≡ next_after (only_in r s x) (words (next_of x) b) (words (prev_of x) b))
      → ((x : Rings) → words (prev_of x) c ≡ prev_after (only_in r s x) (words (next_of x) b) (words (prev_of x) b))
      → Follows (store_shown b msgs) (after a (body_shown b msgs)) (move (body_shown b msgs) a) (nodes_shown b) (only_in r s) → Done a b msgs c marks
  objects_done a c marks w r s e k F g i o n x y l = record {
    size = e;
    many = k;
    body = body ∙ sym i;
    steps = only_in r s;
    fine = n;
    next = x;
    prev = y;
    word = ap (λ (l : List ℕ). get_or l 0 0) (F.kept Layout.nonempty refl) ∙ rw o;
    counts = λ i h. ap (λ (l : List ℕ). get_or l i 0) (F.kept Layout.system refl);
    low_half = λ k. rw (F.kept Layout.system refl) k;
    lines = l;
  }
    where
      body : body_shown c marks ≡ with_store w (body_shown b msgs)
      body = unfold body_shown in λ z. record { tasks = tasks_kept F refl refl z; store = g z; handlers = handlers_kept F refl z; counter = counter_kept F refl refl z }

  -- a word in one of the columns of objects
  put_done : (a : Act) (x : Column) (i v : ℕ) (w : Store) → among object_columns x ≡ true → store_shown (Layout.put x i v b) msgs ≡ w → after a (body_shown b msgs) ≡ with_store w (body_shown b msgs)
      → move (body_shown b msgs) a ≡ stay → Done a b msgs (Layout.put x i v b) msgs
  put_done a x i v w h g e m =
      objects_done a (Layout.put x i v b) msgs w Messages rest (put_size x i v b size) A.whole.marks (put_among writable x i v b (writes x h))
      g e refl fine next prev (rw m (rest_follows (store_shown b msgs) _ _ Messages))
    where
      kept : (d : Column) → clear object_columns d ≡ true → words d (Layout.put x i v b) ≡ words d b
      kept d k = put_apart x i v b d (clear_apart object_columns x d k h)

      fine : (r : Rings) → Fine (ids_shown b r) (Used (store_shown b msgs) r) (only_in Messages rest r)
      fine Tasks = tt
      fine Messages = tt
      fine Blocks = tt

      next : (r : Rings) → words (next_of r) (Layout.put x i v b) ≡ next_after (only_in Messages rest r) (words (next_of r) b) (words (prev_of r) b)
      next Tasks = kept Layout.next refl
      next Messages = kept Layout.mail_next refl
      next Blocks = kept Layout.block_next refl

      prev : (r : Rings) → words (prev_of r) (Layout.put x i v b) ≡ prev_after (only_in Messages rest r) (words (next_of r) b) (words (prev_of r) b)
      prev Tasks = kept Layout.prev refl
      prev Messages = kept Layout.mail_prev refl
      prev Blocks = kept Layout.block_prev refl

  -- what was just written
  written : (x : Column) (i v : ℕ) → among object_columns x ≡ true → i < x.width → entry x (Layout.put x i v b) i ≡ v
  written x i v k = entry_put x i v b size (column_fits x (object_column x k))

  -- a table of objects with one entry changed
  changed : (x : Column) (n s v : ℕ) → among object_columns x ≡ true → In s n → n < x.width → map (entry x (Layout.put x s v b)) (ids n) ≡ put (map (entry x b) (ids n)) s v
  changed x n s v k h l =
      map_put (entry x b) (entry x (Layout.put x s v b)) n s h (entry_other x s v b x (object_column x k) (object_column x k))
      ∙ ap (put (map (entry x b) (ids n)) s) (written x s v k (omega (arith, h.1)))

  -- how many there are
  semaphores_many : length (store_shown b msgs).semaphores ≡ entry Layout.system b Layout.semaphores
  unfolding store_shown
  semaphores_many = length_ids (entry Layout.semaphore b) (entry Layout.system b Layout.semaphores)

  flags_many : length (store_shown b msgs).flags ≡ entry Layout.system b Layout.flags
  unfolding store_shown
  flags_many = length_ids (entry Layout.flag b) (entry Layout.system b Layout.flags)

  messages_many : length (store_shown b msgs).messages ≡ entry Layout.system b Layout.messages
  unfolding store_shown
  messages_many = length_ids (λ j. message_shown (of msgs j 0)) (entry Layout.system b Layout.messages)

  pools_many : length (store_shown b msgs).pools ≡ entry Layout.system b Layout.pools
  unfolding store_shown
  pools_many = length_ids (λ p. pool_shown (entry Layout.size b p) (entry Layout.free b p)) (entry Layout.system b Layout.pools)

  pub count_done : (s n : ℕ) → In s (length (store_shown b msgs).semaphores) → Done (count s n) b msgs (Layout.put Layout.semaphore s n b) msgs
  unfolding body_shown store_shown after move
  count_done s n h = put_done (count s n) Layout.semaphore s n _ refl (store_put b msgs Layout.semaphore s n refl ∙ ap (λ (l : List ℕ). with_semaphores l (store_shown b msgs))
      (changed Layout.semaphore (entry Layout.system b Layout.semaphores) s n refl (subst (In s) semaphores_many h) (omega (arith, few b msgs A semaphore, semaphores_many)))) refl refl

  pub pattern_done : (f n : ℕ) → In f (length (store_shown b msgs).flags) → Done (pattern f n) b msgs (Layout.put Layout.flag f n b) msgs
  unfolding body_shown store_shown after move
  pattern_done f n h = put_done (pattern f n) Layout.flag f n _ refl (store_put b msgs Layout.flag f n refl ∙ ap (λ (l : List ℕ). with_flags l (store_shown b msgs))
      (changed Layout.flag (entry Layout.system b Layout.flags) f n refl (subst (In f) flags_many h) (omega (arith, few b msgs A flag, flags_many)))) refl refl

  -- ---- blocks

  module _ (p : ℕ) (h : In p (length (store_shown b msgs).pools)) where
    here : In p (entry Layout.system b Layout.pools)
    here = subst (In p) pools_many h

    low : p < (Layout.free).width
    unfolding body_shown
    low = omega (arith, h.1, (sizes b msgs A).pools)

    pool_is : of (store_shown b msgs).pools p [] ≡ pool_shown (entry Layout.size b p) (entry Layout.free b p)
    unfolding store_shown
    pool_is = of_ids (λ p. pool_shown (entry Layout.size b p) (entry Layout.free b p)) (entry Layout.system b Layout.pools) p [] here

    pool_size : In (length (of (store_shown b msgs).pools p [])) max_blocks
    unfolding view_shown body_shown
    pool_size = A.sound.body.store.pools p h

    -- the table of pools with another mask
    refreed : (m : ℕ) (l : List Bool) → pool_shown (entry Layout.size b p) m ≡ l
        → map (λ i. pool_shown (entry Layout.size b i) (entry Layout.free (Layout.put Layout.free p m b) i)) (ids (entry Layout.system b Layout.pools)) ≡ put (store_shown b msgs).pools p l
    unfolding store_shown
    refreed m l e =
        map_put (λ i. pool_shown (entry Layout.size b i) (entry Layout.free b i)) (λ i. pool_shown (entry Layout.size b i) (entry Layout.free (Layout.put Layout.free p m b) i)) (entry Layout.system b Layout.pools) p here
        (λ i ne. ap (pool_shown (entry Layout.size b i)) (entry_other Layout.free p m b Layout.free refl refl i ne))
        ∙ ap (put (store_shown b msgs).pools p) (ap (pool_shown (entry Layout.size b p)) (written Layout.free p m refl low) ∙ e)

    -- the blocks of pool p have nodes of their own: no other pool's queue has one of them
    module _ (k : ℕ) (g : In k (length (of (store_shown b msgs).pools p []))) where
      low_block : k ≤ max_blocks
      low_block = omega (arith, g.1, pool_size.1)

      foreign : (n : ℕ) → Exists (store_shown b msgs) (free_in n) → n ≢ p → Out (block_node p k) (nodes_shown b (free_in n))
      unfolding view_shown body_shown line_shown population
      foreign n e ne =
          strange (length (of (store_shown b msgs).pools n [])) n (nodes_shown b (free_in n)) (A.sound.body.store.pools n e).1 h.0 e.0 g.0 low_block ne
          (subst (Known (length (of (store_shown b msgs).pools n []))) (line_tabulate (store_shown b msgs) (line_shown b) (free_in n) e) (A.sound.queues (free_in n) e).known)

      node : IsId (max_blocks * pools_shown b) (block_node p k)
      node = (omega (arith, g.0), omega (arith, here.1, h.0, low_block))

      abbrev m : Bool → ℕ
      m t = masked (entry Layout.free b p) (pred k) t

      abbrev marks : Bool → List ℕ
      marks t = Layout.put Layout.free p (m t) b

      shown : (t : Bool) → pool_shown (entry Layout.size b p) (m t) ≡ put (of (store_shown b msgs).pools p []) k t
      shown t = rw pool_is (pool_masked (entry Layout.size b p) (entry Layout.free b p) k t (rw pool_is at g) (rw pool_is at pool_size.1))

      stores : (t : Bool) → store_shown (marks t) msgs ≡ with_pools (put (store_shown b msgs).pools p (put (of (store_shown b msgs).pools p []) k t)) (store_shown b msgs)
      unfolding store_shown
      stores t = store_put b msgs Layout.free p (m t) refl ∙ ap (λ (l : List (List Bool)). with_pools l (store_shown b msgs)) (refreed (m t) _ (shown t))

      kept : (t : Bool) (d : Column) → clear object_columns d ≡ true → words d (marks t) ≡ words d b
      kept t d e = put_apart Layout.free p (m t) b d (clear_apart object_columns Layout.free d e refl)

      -- its mark is written, then it makes a step in the rings of blocks
      block_done : (t : Bool) (c nx pv : List ℕ) (s : Step) → Relinked Layout.block_next (marks t) c nx pv
          → Fine (max_blocks * pools_shown b) (Used (store_shown b msgs) Blocks) s → nx ≡ next_after s (words Layout.block_next b) (words Layout.block_prev b) → pv ≡ prev_after s (words Layout.block_next b) (words Layout.block_prev b)
          → Follows (store_shown b msgs) (after (mark p k t) (body_shown b msgs)) (move (body_shown b msgs) (mark p k t)) (nodes_shown b) (only_in Blocks s) → Done (mark p k t) b msgs c msgs
      unfolding body_shown after
      block_done t c nx pv s R n f e l =
          objects_done (mark p k t) c msgs _ Blocks s R.size A.whole.marks only
          (same_store ∙ stores t) refl refl fine next prev l
        where
          same_store : store_shown c msgs ≡ store_shown (marks t) msgs
          same_store = unfold store_shown in store_stays (marks t) c msgs msgs R.only refl refl

          only : Only writable b c
          only = only_on (put_among writable Layout.free p (m t) b refl) (record { kept = λ d z. R.only.kept d (links_clear d z) })

          fine : (x : Rings) → Fine (ids_shown b x) (Used (store_shown b msgs) x) (only_in Blocks s x)
          fine Tasks = tt
          fine Messages = tt
          fine Blocks = n

          next : (x : Rings) → words (next_of x) c ≡ next_after (only_in Blocks s x) (words (next_of x) b) (words (prev_of x) b)
          next Tasks = R.only.kept Layout.next refl ∙ kept t Layout.next refl
          next Messages = R.only.kept Layout.mail_next refl ∙ kept t Layout.mail_next refl
          next Blocks = R.next ∙ f

          prev : (x : Rings) → words (prev_of x) c ≡ prev_after (only_in Blocks s x) (words (next_of x) b) (words (prev_of x) b)
          prev Tasks = R.only.kept Layout.prev refl ∙ kept t Layout.prev refl
          prev Messages = R.only.kept Layout.mail_prev refl ∙ kept t Layout.mail_prev refl
          prev Blocks = R.prev ∙ e

      there : Exists (store_shown b msgs) (free_in p)
      there = h

      is_node : node_of_block p k ≡ block_node p k
      is_node = rw (le-leb 1 p h.0, le-leb p max_pools (small b msgs A (free_in p) h).1, le-leb k max_blocks low_block)

      is_anchor : free_anchor p ≡ anchor (free_in p)
      unfolding anchor
      is_anchor = rw (le-leb p max_pools (small b msgs A (free_in p) h).1)

      out_of : (t : Bool) → Relinked Layout.block_next (marks t) (unlinked Blocks (block_node p k) (marks t))
          (left_next (words Layout.block_next b) (words Layout.block_prev b) (block_node p k)) (left_prev (words Layout.block_next b) (words Layout.block_prev b) (block_node p k))
      out_of t = rw (← kept t Layout.block_next refl, ← kept t Layout.block_prev refl) (unlinked_law (marks t) (put_size Layout.free p (m t) b size) Blocks (block_node p k))

      listed_done : (t : Bool) → Done (mark p k t) b msgs (listed p k t (marks t)) msgs
      unfolding listed
      listed_done false = rw is_node (block_done false _ _ _ (out (block_node p k)) (out_of false) node refl refl (unfold move in block_leaves (store_shown b msgs) _ _ (small b msgs A) p k g.0 there foreign))
      listed_done true =
          rw (is_node, is_anchor)
          (block_done true _ _ _ (to (free_in p) (block_node p k)) last_in (node, used_at (free_in p) there) refl refl
          (unfold move in block_goes (store_shown b msgs) _ _ (small b msgs A) p k g.0 there foreign free_then))
        where
          last_in : Relinked Layout.block_next (marks true) (linked Blocks (anchor (free_in p)) (block_node p k) (unlinked Blocks (block_node p k) (marks true)))
              (push_next (left_next (words Layout.block_next b) (words Layout.block_prev b) (block_node p k)) (left_prev (words Layout.block_next b) (words Layout.block_prev b) (block_node p k)) (anchor (free_in p)) (block_node p k))
              (push_prev (left_prev (words Layout.block_next b) (words Layout.block_prev b) (block_node p k)) (anchor (free_in p)) (block_node p k))
          last_in =
              let O = out_of true in
              let L = linked_law (unlinked Blocks (block_node p k) (marks true)) O.size Blocks (anchor (free_in p)) (block_node p k) in
              record { size = L.size; only = only_on O.only L.only; next = L.next ∙ rw (O.next, O.prev); prev = L.prev ∙ rw O.prev }

          free_then : belongs (after (mark p k true) (body_shown b msgs)) (free_in p) k ≡ true
          free_then = unfold belongs body_shown after in
              ap (λ (l : List Bool). of l k false) (of_put_same (store_shown b msgs).pools p _ [] h) ∙ of_put_same (of (store_shown b msgs).pools p []) k true false g

    pub mark_done : (k : ℕ) (t : Bool) → In k (length (of (store_shown b msgs).pools p [])) → Done (mark p k t) b msgs (marked p k t b) msgs
    unfolding marked
    mark_done k t g = rw (le-leb 1 k g.0, le-leb k max_blocks (low_block k g)) (listed_done k g t)

  -- ---- messages

  -- the table of messages with one mark changed
  remarked : (j v : ℕ) → In j (length (store_shown b msgs).messages)
      → map (λ i. message_shown (of (put msgs j v) i 0)) (ids (entry Layout.system b Layout.messages)) ≡ put (map (λ i. message_shown (of msgs i 0)) (ids (entry Layout.system b Layout.messages))) j (message_shown v)
  unfolding body_shown
  remarked j v h =
      map_put (λ i. message_shown (of msgs i 0)) (λ i. message_shown (of (put msgs j v) i 0)) (entry Layout.system b Layout.messages) j (subst (In j) messages_many h)
      (λ i ne. ap (λ (x : ℕ). message_shown x) (of_put_other msgs j i v 0 (ne_eqb j i (λ e. ne (sym e)))))
      ∙ ap (λ (x : ℕ). put (map (λ i. message_shown (of msgs i 0)) (ids (entry Layout.system b Layout.messages))) j (message_shown x))
      (of_put_same msgs j v 0 (h.0, omega (arith, h.1, (sizes b msgs A).messages, A.whole.marks)))

  -- message j makes a step in the rings of mailboxes, and gets the mark v
  message_done : (a : Act) (j v : ℕ) (c nx pv : List ℕ) (r : Step) (x : Option ℕ) → In j (length (store_shown b msgs).messages) → Relinked Layout.mail_next b c nx pv → message_shown v ≡ x
      → after a (body_shown b msgs) ≡ with_store (with_messages (put (store_shown b msgs).messages j x) (store_shown b msgs)) (body_shown b msgs)
      → Fine (messages_shown b) (Used (store_shown b msgs) Messages) r → nx ≡ next_after r (words Layout.mail_next b) (words Layout.mail_prev b) → pv ≡ prev_after r (words Layout.mail_next b) (words Layout.mail_prev b)
      → Follows (store_shown b msgs) (after a (body_shown b msgs)) (move (body_shown b msgs) a) (nodes_shown b) (only_in Messages r) → Done a b msgs c (put msgs j v)
  unfolding store_shown
  message_done a j v c nx pv r x h R k e n f g l =
      objects_done a c (put msgs j v) _ Messages r R.size (length_put msgs j v ∙ A.whole.marks) (only_first (links_of Messages ∷ []) (links_of Blocks ∷ object_columns) R.only)
      (store_stays b c msgs (put msgs j v) R.only refl refl
      ∙ ap (λ (t : List (Option ℕ)). with_messages t (store_shown b msgs)) (remarked j v h ∙ ap (put (map (λ i. message_shown (of msgs i 0)) (ids (entry Layout.system b Layout.messages))) j) k))
      e refl fine next prev l
    where
      fine : (x : Rings) → Fine (ids_shown b x) (Used (store_shown b msgs) x) (only_in Messages r x)
      fine Tasks = tt
      fine Messages = n
      fine Blocks = tt

      next : (x : Rings) → words (next_of x) c ≡ next_after (only_in Messages r x) (words (next_of x) b) (words (prev_of x) b)
      next Tasks = R.only.kept Layout.next refl
      next Messages = R.next ∙ f
      next Blocks = R.only.kept Layout.block_next refl

      prev : (x : Rings) → words (prev_of x) c ≡ prev_after (only_in Messages r x) (words (next_of x) b) (words (prev_of x) b)
      prev Tasks = R.only.kept Layout.prev refl
      prev Messages = R.prev ∙ g
      prev Blocks = R.only.kept Layout.block_prev refl

  module _ (j : ℕ) (h : In j (length (store_shown b msgs).messages)) where
    id : IsId (messages_shown b) j
    id = subst (In j) messages_many h

    pub receive_done : Done (receive j) b msgs (unlinked Messages j b) (put msgs j 0)
    unfolding after move body_shown
    receive_done = message_done (receive j) j 0 (unlinked Messages j b) _ _ (out j) none h (unlinked_law b size Messages j) refl refl id refl refl (message_leaves (store_shown b msgs) _ _ j)

    -- a message that lies nowhere has no link
    module _ (e : laid (of (store_shown b msgs).messages j none) ≡ false) where
      absent : (m : ℕ) → In m (store_shown b msgs).mailboxes → times j (line_of (messages_shown b) (words Layout.mail_next b) (anchor (mail m))) ≡ 0
      unfolding view_shown line_shown body_shown belongs population
      absent m k = ap (times j) (sym (line_tabulate (store_shown b msgs) (line_shown b) (mail m) k)) ∙ (A.sound.queues (mail m) k).stands j h ∙ unlaid (of (store_shown b msgs).messages j none) m e

      lone : (a : ℕ) → Used (store_shown b msgs) Messages a → Out j (line_of (messages_shown b) (words Layout.mail_next b) a)
      lone a u = go u.place u.there u.among u.here
        where
          go : (q : Place) → Exists (store_shown b msgs) q → rings_at q ≡ Messages → anchor q ≡ a → Out j (line_of (messages_shown b) (words Layout.mail_next b) a)
          go (ready_at p) k m z = absurd (differ m (λ y. omega arith))
          go (waiters i o) k m z = absurd (differ m (λ y. omega arith))
          go (mail n) k m z = subst (λ (c : ℕ). Out j (line_of (messages_shown b) (words Layout.mail_next b) c)) z (times_out j _ (absent n k))
          go (free_in p) k m z = absurd (differ m (λ y. omega arith))

      not_linked : eqb (get_or (words Layout.mail_next b) j 0) 0 ≡ true
      not_linked = eq-eqb _ 0 ((free_law (A.whole.rings Messages) j id).1 lone)

      not_left : left_next (words Layout.mail_next b) (words Layout.mail_prev b) j ≡ words Layout.mail_next b
      unfolding left_next
      not_left = rw not_linked

      nor_left : left_prev (words Layout.mail_next b) (words Layout.mail_prev b) j ≡ words Layout.mail_prev b
      unfolding left_prev
      nor_left = rw not_linked

    mail_anchor_lem : (m : ℕ) → In m (store_shown b msgs).mailboxes → mail_anchor m ≡ anchor (mail m)
    unfolding anchor
    mail_anchor_lem m k = rw (le-leb m max_objects (small b msgs A (mail m) k).1)

    pub post_done : (m : ℕ) → In m (store_shown b msgs).mailboxes → laid (of (store_shown b msgs).messages j none) ≡ false → Done (post j m) b msgs (linked Messages (mail_anchor m) j b) (put msgs j m)
    unfolding after move body_shown
    post_done m k e =
        message_done (post j m) j m (linked Messages (mail_anchor m) j b) _ _ (to (mail m) j) (some m) h (linked_law b size Messages (mail_anchor m) j) (rw (ne_eqb m 0 (λ z. omega (arith, k.0)))) refl (id, used_at (mail m) k)
        (rw (mail_anchor_lem m k, not_left e, nor_left e)) (rw (mail_anchor_lem m k, nor_left e))
        (message_goes (store_shown b msgs) _ _ (small b msgs A) j m k (lies_there m))
      where
        lies_there : (m n : ℕ) → belongs (with_store (with_messages (put (store_shown b msgs).messages j (some m)) (store_shown b msgs)) (body_shown b msgs)) (mail n) j ≡ eqb m n
        lies_there m n = unfold belongs in ap (λ (x : Option ℕ). lies x n) (of_put_same (store_shown b msgs).messages j (some m) none h)
