-- The acts on a task: what is written of it shows what the rules make of it, and it moves as they say.
use mathlib.Core.Bool.{false}
use mathlib.Core.List.{List, map}
use mathlib.Core.Path.{◌≡◌, refl, sym, ap, ◌∙◌, subst}
use Prim.Native.Nat.{ℕ, ◌≤◌, ◌<◌}
use native.Mathlib.Omega.{arith}
use lib.ListN.{length, get_or}
use borrow.Author.Tests.{le-leb}
use Rattle.rules.specs.Ids.{of, put, ids, In}
use Rattle.rules.specs.State.{Kind, semaphore, flag, mailbox, pool, Wait, on, ready, waiting, Task, task, nobody, objects}
use Rattle.rules.specs.Places.{Place, ready_at, waiters, mail, free_in, a_task, Exists}
use Rattle.rules.specs.Acts.{Act, after, stay, leave, last, move, change}
use Rattle.rules.specs.Sound.{Sizes, SoundTask}
use Rattle.rules.proofs.Ids.{of_put_same, of_ids, length_ids}
use Rattle.rules.proofs.Fits.{stands}
use Rattle.memory_rings.specs.Rings.{IsId}
use Rattle.memory_columns.specs.declared.Rings.{Rings}
use Rattle.memory_columns.specs.declared.Rings.TheVariants.{Tasks, Messages, Blocks}
use Rattle.memory_columns.specs.Layout as Layout
use Rattle.memory_columns.specs.Layout.{max_priorities, max_objects, next_of, prev_of, words, entry}
use Rattle.memory_queues.specs.Moves.{ready_anchor, wait_anchor, queued, unqueued}
use Rattle.memory_tasks.specs.Moves.{rotated}
use Rattle.memory_picture.specs.Picture.{tasks_shown, wait_shown, task_shown, store_shown, body_shown, view_shown, kind_number, anchor, rings_at, ids_shown, nodes_shown, Used, Accepted}
use Rattle.memory_queues.proofs.Relinks.{queued_law, unqueued_law}
use Rattle.memory_picture.proofs.Lines.{Step, rest, out, to, next_after, prev_after, Fine, Small, same_place, ready_stands, wait_stands, only_in, Follows, rest_follows, task_leaves, task_lost, task_goes}
use Rattle.memory_picture.proofs.Done.{Done}
use Rattle.memory_picture.proofs.Touched.{map_put, kept_shown, store_stays, handlers_kept, counter_kept, Touched, touched_left, touched_last}

-- the wait in the entries of a task
abbrev pub wait_at : List ℕ → ℕ → Wait
wait_at b t = wait_shown (entry Layout.kind b t) (entry Layout.object b t) (entry Layout.wish b t) (entry Layout.mode b t) (entry Layout.ticks b t)

-- ---- anchors

ready_anchor_lem : (p : ℕ) → In p max_priorities → ready_anchor p ≡ anchor (ready_at p)
unfolding anchor
ready_anchor_lem p h = rw (le-leb p max_priorities h.1)

wait_anchor_lem : (k : Kind) (o : ℕ) → In o max_objects → wait_anchor (kind_number k) o ≡ anchor (waiters k o)
unfolding anchor wait_anchor
wait_anchor_lem semaphore o h = rw (le-leb o max_objects h.1)
wait_anchor_lem flag o h = rw (le-leb o max_objects h.1)
wait_anchor_lem mailbox o h = rw (le-leb o max_objects h.1)
wait_anchor_lem pool o h = rw (le-leb o max_objects h.1)

module _ (b msgs : List ℕ) (A : Accepted b msgs) where
  -- what is known of an accepted memory

  pub sizes : Sizes (body_shown b msgs)
  unfolding view_shown
  sizes = A.sound.body.sizes

  pub few : (k : Kind) → objects (store_shown b msgs) k ≤ max_objects
  unfolding body_shown
  few semaphore = sizes.semaphores
  few flag = sizes.flags
  few mailbox = sizes.mailboxes
  few pool = omega (arith, sizes.pools)

  pub small : (q : Place) → Exists (store_shown b msgs) q → Small q
  unfolding body_shown
  small (ready_at p) e = (e.0, omega (arith, e.1, sizes.priorities.1))
  small (waiters k o) e = (e.0, omega (arith, e.1, few k))
  small (mail m) e = (e.0, omega (arith, e.1, sizes.mailboxes))
  small (free_in p) e = (e.0, omega (arith, e.1, sizes.pools))

  module _ (t : ℕ) (h : In t (length (body_shown b msgs).tasks)) where
    pub inside : In t (entry Layout.system b Layout.tasks)
    unfolding body_shown
    inside = rw (length_ids (task_shown b) (entry Layout.system b Layout.tasks)) at h

    pub low : t < (Layout.status).width
    low = omega (arith, h.1, sizes.tasks.1)

    pub before : task (body_shown b msgs) t ≡ task_shown b t
    unfolding body_shown
    before = of_ids (task_shown b) (entry Layout.system b Layout.tasks) t nobody inside

    pub sound_before : SoundTask (store_shown b msgs) (task_shown b t)
    unfolding body_shown view_shown
    sound_before = subst (SoundTask (store_shown b msgs)) before (A.sound.body.tasks t h)

    -- the act a changes the task by F
    module _ (a : Act) (F : Task → Task) (e : after a (body_shown b msgs) ≡ change F t (body_shown b msgs)) where
      now : task (after a (body_shown b msgs)) t ≡ F (task_shown b t)
      now = rw e (of_put_same (body_shown b msgs).tasks t _ nobody h ∙ ap F before)

      done : (s : Step) (c : List ℕ) → Touched t s b c → task_shown c t ≡ F (task_shown b t) → Fine (tasks_shown b) (Used (store_shown b msgs) Tasks) s
          → Follows (store_shown b msgs) (after a (body_shown b msgs)) (move (body_shown b msgs) a) (nodes_shown b) (only_in Tasks s) → Done a b msgs c msgs
      done s c T f g l = record {
        size = T.size;
        many = A.whole.marks;
        body = body ∙ sym e;
        steps = only_in Tasks s;
        fine = fine;
        next = next;
        prev = prev;
        word = T.word;
        counts = λ i k. ap (λ (l : List ℕ). get_or l i 0) system;
        low_half = λ k. rw system k;
        lines = l;
      }
        where
          fine : (r : Rings) → Fine (ids_shown b r) (Used (store_shown b msgs) r) (only_in Tasks s r)
          fine Tasks = g
          fine Messages = tt
          fine Blocks = tt

          next : (r : Rings) → words (next_of r) c ≡ next_after (only_in Tasks s r) (words (next_of r) b) (words (prev_of r) b)
          next Tasks = T.next
          next Messages = T.only.kept (next_of Messages) refl
          next Blocks = T.only.kept (next_of Blocks) refl

          prev : (r : Rings) → words (prev_of r) c ≡ prev_after (only_in Tasks s r) (words (next_of r) b) (words (prev_of r) b)
          prev Tasks = T.prev
          prev Messages = T.only.kept (prev_of Messages) refl
          prev Blocks = T.only.kept (prev_of Blocks) refl

          system : words Layout.system c ≡ words Layout.system b
          system = T.only.kept Layout.system refl

          tasks : map (task_shown c) (ids (entry Layout.system c Layout.tasks)) ≡ put (map (task_shown b) (ids (entry Layout.system b Layout.tasks))) t (F (of (map (task_shown b) (ids (entry Layout.system b Layout.tasks))) t nobody))
          tasks =
              ap (λ (l : List ℕ). map (task_shown c) (ids (get_or l Layout.tasks 0))) system
              ∙ map_put (task_shown b) (task_shown c) (entry Layout.system b Layout.tasks) t inside T.others
              ∙ ap (put (map (task_shown b) (ids (entry Layout.system b Layout.tasks))) t) (f ∙ ap F (sym (of_ids (task_shown b) (entry Layout.system b Layout.tasks) t nobody inside)))

          stores : store_shown c msgs ≡ store_shown b msgs
          stores = unfold store_shown in store_stays b c msgs msgs T.only refl refl

          body : body_shown c msgs ≡ change F t (body_shown b msgs)
          body = unfold body_shown in λ z. record { tasks = tasks z; store = stores z; handlers = handlers_kept T.only refl z; counter = counter_kept T.only refl refl z }

      id : IsId (tasks_shown b) t
      id = inside

      -- c has the task's entries written, and it is to make its move
      module _ (c : List ℕ) (T : Touched t rest b c) (f : task_shown c t ≡ F (task_shown b t)) where
        pub stay_done : move (body_shown b msgs) a ≡ stay → Done a b msgs c msgs
        stay_done m = done rest c T f tt (rw m (rest_follows (store_shown b msgs) _ _ Tasks))

        left_shown : task_shown (unqueued t c) t ≡ F (task_shown b t)
        left_shown = kept_shown (unqueued_law c T.size t).only refl t ∙ f

        pub leave_done : move (body_shown b msgs) a ≡ leave (a_task t) → Done a b msgs (unqueued t c) msgs
        leave_done m = done (out t) (unqueued t c) (touched_left T) left_shown id (rw m (task_leaves (store_shown b msgs) _ _ t))

        -- it then belongs to no queue
        pub lost_done : move (body_shown b msgs) a ≡ last (a_task t) → ((q : Place) → stands (F (task_shown b t)) q ≡ false) → Done a b msgs (unqueued t c) msgs
        lost_done m g = done (out t) (unqueued t c) (touched_left T) left_shown id (rw m (task_lost (store_shown b msgs) _ _ t (rw now g)))

        -- it then belongs to the queue at a place
        goes_done : (p : Place) (n : ℕ) → n ≡ anchor p → Exists (store_shown b msgs) p → rings_at p ≡ Tasks
            → move (body_shown b msgs) a ≡ last (a_task t) → ((q : Place) → stands (F (task_shown b t)) q ≡ same_place p q) → Done a b msgs (queued n t (unqueued t c)) msgs
        goes_done p n k x y m g =
            done (to p t) (queued n t (unqueued t c)) (touched_last n p k (touched_left T)) (kept_shown (queued_law (unqueued t c) (unqueued_law c T.size t).size n t).only refl t ∙ left_shown) (id, record { place = p; there = x; among = y; here = refl })
            (rw m (task_goes (store_shown b msgs) _ _ small t p x y (rw now g)))

        written : entry Layout.priority c t ≡ (F (task_shown b t)).priority
        unfolding task_shown
        written = ap (λ (x : Task). x.priority) f

        pub ready_done : move (body_shown b msgs) a ≡ last (a_task t) → (F (task_shown b t)).state ≡ ready → In (F (task_shown b t)).priority (store_shown b msgs).priorities
            → Done a b msgs (rotated t c) msgs
        unfolding rotated
        ready_done m s r = goes_done (ready_at (F (task_shown b t)).priority) _ (ap ready_anchor written ∙ ready_anchor_lem _ (small (ready_at _) r)) r refl m (ready_stands (F (task_shown b t)) s)

        pub wait_done : (k : Kind) (o p n : ℕ) → move (body_shown b msgs) a ≡ last (a_task t) → (F (task_shown b t)).state ≡ waiting (on k o p n) → In o (objects (store_shown b msgs) k)
            → Done a b msgs (queued (wait_anchor (kind_number k) o) t (unqueued t c)) msgs
        wait_done k o p n m s r = goes_done (waiters k o) _ (wait_anchor_lem k o (small (waiters k o) r)) r refl m (wait_stands (F (task_shown b t)) k o p n s)
