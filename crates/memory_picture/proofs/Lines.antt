-- A move in the rings, of any sort: what it makes of the links is what the rules' move makes of the lines.
use mathlib.Core.Bool.{Bool, true, false, cond, not, ◌&&◌}
use mathlib.Core.List.{List, [], ◌∷◌, ◌++◌, map, append-nil}
use mathlib.Core.Logic.{◌≢◌}
use mathlib.Core.Path.{◌≡◌, refl, sym, ap, ◌∙◌}
use Prim.Native.Nat.{ℕ, ◌+◌, ◌-◌, ◌≤◌}
use native.Mathlib.Decide.{ℕ_discrete}
use native.Mathlib.Omega.{arith}
use lib.Dec.{eqb}
use lib.ListN.{get_or}
use borrow.Author.Tests.{eqb-true, eqb-false, eq-eqb, ne_eqb}
use Rattle.rules.specs.Ids.{In, keep}
use Rattle.rules.specs.State.{Kind, semaphore, flag, mailbox, pool, on, ready, waiting, Task, Store, Body, task}
use Rattle.rules.specs.Places.{Place, ready_at, waiters, mail, free_in, sort_at, a_task, a_message, a_block, same_kind, belongs, Exists}
use Rattle.rules.specs.Acts.{Move, stay, leave, last}
use Rattle.rules.specs.View.{moved}
use Rattle.rules.proofs.Fits.{stands}
use Rattle.memory_rings.specs.Links.{push_next, push_prev, left_next, left_prev}
use Rattle.memory_rings.specs.Rings.{IsId, Out, Linked, without, upd}
use Rattle.memory_rings.proofs.Laws.{linked_ext, push_law, leave_law, left_free}
use Rattle.memory_rings.proofs.Lists.{upd_at, without_out}
use Rattle.memory_columns.specs.declared.Rings.{Rings}
use Rattle.memory_columns.specs.declared.Rings.TheVariants.{Tasks, Messages, Blocks}
use Rattle.memory_columns.specs.Layout.{max_priorities, max_objects, max_pools, ready_node, wait_node, mail_node, free_node, before_pool, block_node}
use Rattle.memory_queues.specs.Moves.{noted, inhabited}
use Rattle.memory_picture.specs.Picture.{kind_number, anchor, rings_at, numbers_of}

-- nobody moves, an id leaves its queue, an id goes last in the queue at a place
pub data Step : Type 0 where
  rest : Step
  out : ℕ → Step
  to : Place → ℕ → Step

abbrev pub next_after : Step → List ℕ → List ℕ → List ℕ
next_after rest nx pv = nx
next_after (out t) nx pv = left_next nx pv t
next_after (to q t) nx pv = push_next (left_next nx pv t) (left_prev nx pv t) (anchor q) t

abbrev pub prev_after : Step → List ℕ → List ℕ → List ℕ
prev_after rest nx pv = pv
prev_after (out t) nx pv = left_prev nx pv t
prev_after (to q t) nx pv = push_prev (left_prev nx pv t) (anchor q) t

-- the word of nonempty ready queues
abbrev pub word_after : Step → List ℕ → List ℕ → ℕ → ℕ
word_after rest nx pv w = w
word_after (out t) nx pv w = noted (get_or nx t 0) (inhabited (left_next nx pv t) (get_or nx t 0)) w
word_after (to q t) nx pv w = noted (anchor q) true (noted (get_or nx t 0) (inhabited (left_next nx pv t) (get_or nx t 0)) w)

-- the line of anchor a
abbrev pub line_after : Step → ℕ → List ℕ → List ℕ
line_after rest a l = l
line_after (out t) a l = without t l
line_after (to q t) a l = without t l ++ cond (eqb a (anchor q)) (t ∷ []) []

-- who moves is an id, and goes to an anchor that is in use
abbrev pub Fine : ℕ → (ℕ → Type 0) → Step → Type 0
Fine n U rest = Unit {0}
Fine n U (out t) = IsId n t
Fine n U (to q t) = IsId n t × U (anchor q)

pub step_law : {n : ℕ} {U : ℕ → Type 0} {nx pv : List ℕ} {L : ℕ → List ℕ} → Linked n U nx pv L → (s : Step) → Fine n U s
    → Linked n U (next_after s nx pv) (prev_after s nx pv) (λ a. line_after s a (L a))
step_law M rest h = M
step_law M (out t) h = leave_law M t h
step_law {L} M (to q t) h = linked_ext (push_law (leave_law M t h.0) (anchor q) h.1 t h.0 (left_free M t h.0)) _ (λ a u. one a)
  where
    one : (a : ℕ) → upd (λ a. without t (L a)) (anchor q) (without t (L (anchor q)) ++ t ∷ []) a ≡ without t (L a) ++ cond (eqb a (anchor q)) (t ∷ []) []
    one a = upd_at _ (anchor q) _ (λ l. l ≡ without t (L a) ++ cond (eqb a (anchor q)) (t ∷ []) []) a
        (λ e. rw (e, eq-eqb (anchor q) (anchor q) refl))
        (λ ne. rw (ne_eqb a (anchor q) ne) (sym (append-nil _)))

-- ---- anchors

eqb_iff : (a b c d : ℕ) → (a ≡ b → c ≡ d) → (c ≡ d → a ≡ b) → eqb a b ≡ eqb c d
eqb_iff a b c d f g = go (eqb c d) refl
  where
    go : (t : Bool) → eqb c d ≡ t → eqb a b ≡ t
    go true e = eq-eqb a b (g (eqb-true c d e))
    go false e = ne_eqb a b (λ p. eqb-false c d e (f p))

abbrev pub same_place : Place → Place → Bool
same_place (ready_at p) (ready_at n) = eqb p n
same_place (ready_at p) (waiters j n) = false
same_place (ready_at p) (mail n) = false
same_place (ready_at p) (free_in n) = false
same_place (waiters k o) (ready_at n) = false
same_place (waiters k o) (waiters j n) = same_kind k j && eqb o n
same_place (waiters k o) (mail n) = false
same_place (waiters k o) (free_in n) = false
same_place (mail m) (ready_at n) = false
same_place (mail m) (waiters j n) = false
same_place (mail m) (mail n) = eqb m n
same_place (mail m) (free_in n) = false
same_place (free_in p) (ready_at n) = false
same_place (free_in p) (waiters j n) = false
same_place (free_in p) (mail n) = false
same_place (free_in p) (free_in n) = eqb p n

same_kind_lem : (k j : Kind) → same_kind k j ≡ eqb (kind_number k) (kind_number j)
same_kind_lem semaphore semaphore = refl
same_kind_lem semaphore flag = refl
same_kind_lem semaphore mailbox = refl
same_kind_lem semaphore pool = refl
same_kind_lem flag semaphore = refl
same_kind_lem flag flag = refl
same_kind_lem flag mailbox = refl
same_kind_lem flag pool = refl
same_kind_lem mailbox semaphore = refl
same_kind_lem mailbox flag = refl
same_kind_lem mailbox mailbox = refl
same_kind_lem mailbox pool = refl
same_kind_lem pool semaphore = refl
same_kind_lem pool flag = refl
same_kind_lem pool mailbox = refl
same_kind_lem pool pool = refl

pub object_kind : (k : Kind) → 2 ≤ kind_number k
object_kind semaphore = omega arith
object_kind flag = omega arith
object_kind mailbox = omega arith
object_kind pool = omega arith

-- a place has a number from 1 to 16
abbrev pub Small : Place → Type 0
Small (ready_at p) = In p max_priorities
Small (waiters k o) = In o max_objects
Small (mail m) = In m max_objects
Small (free_in p) = In p max_pools

-- the sorts of rings are different
abbrev ring_number : Rings → ℕ
ring_number Tasks = 0
ring_number Messages = 1
ring_number Blocks = 2

pub differ : {r s : Rings} → r ≡ s → ring_number r ≢ ring_number s → ⊥
differ e ne = ne (ap ring_number e)

pair_anchor : (x y o n : ℕ) → In o max_objects → In n max_objects → eqb (wait_node y n) (wait_node x o) ≡ (eqb x y && eqb o n)
pair_anchor x y o n h k = go (eqb x y) (eqb o n) refl refl
  where
    first : wait_node y n ≡ wait_node x o → x ≡ y
    first q = omega arith

    second : x ≡ y → wait_node y n ≡ wait_node x o → o ≡ n
    second e q = omega arith

    go : (s t : Bool) → eqb x y ≡ s → eqb o n ≡ t → eqb (wait_node y n) (wait_node x o) ≡ (s && t)
    go true true e f = eq-eqb _ _ (sym (λ z. wait_node (eqb-true x y e z) (eqb-true o n f z)))
    go true false e f = ne_eqb _ _ (λ q. eqb-false o n f (second (eqb-true x y e) q))
    go false t e f = ne_eqb _ _ (λ q. eqb-false x y e (first q))

apart : (p x o : ℕ) → In p max_priorities → In o max_objects → 2 ≤ x → ready_node p ≡ wait_node x o → ⊥
apart p x o h k l e = omega arith

-- different queues of the same rings have different anchors
pub anchor_same : (h q : Place) → Small h → Small q → rings_at h ≡ rings_at q → eqb (anchor q) (anchor h) ≡ same_place h q
unfolding anchor
anchor_same (ready_at p) (ready_at n) k l e = eqb_iff (ready_node n) (ready_node p) p n (λ z. omega arith) (λ z. omega arith)
anchor_same (ready_at p) (waiters j n) k l e = ne_eqb _ _ (λ z. apart p (kind_number j) n k l (object_kind j) (sym z))
anchor_same (ready_at p) (mail n) k l e = absurd (differ e (λ z. omega arith))
anchor_same (ready_at p) (free_in n) k l e = absurd (differ e (λ z. omega arith))
anchor_same (waiters j o) (ready_at n) k l e = ne_eqb _ _ (λ z. apart n (kind_number j) o l k (object_kind j) z)
anchor_same (waiters j o) (waiters i n) k l e = rw (same_kind_lem j i) (pair_anchor (kind_number j) (kind_number i) o n k l)
anchor_same (waiters j o) (mail n) k l e = absurd (differ e (λ z. omega arith))
anchor_same (waiters j o) (free_in n) k l e = absurd (differ e (λ z. omega arith))
anchor_same (mail m) (ready_at n) k l e = absurd (differ e (λ z. omega arith))
anchor_same (mail m) (waiters i n) k l e = absurd (differ e (λ z. omega arith))
anchor_same (mail m) (mail n) k l e = eqb_iff (mail_node n) (mail_node m) m n (λ z. omega arith) (λ z. omega arith)
anchor_same (mail m) (free_in n) k l e = absurd (differ e (λ z. omega arith))
anchor_same (free_in p) (ready_at n) k l e = absurd (differ e (λ z. omega arith))
anchor_same (free_in p) (waiters i n) k l e = absurd (differ e (λ z. omega arith))
anchor_same (free_in p) (mail n) k l e = absurd (differ e (λ z. omega arith))
anchor_same (free_in p) (free_in n) k l e = eqb_iff (free_node n) (free_node p) p n (λ z. omega arith) (λ z. omega arith)

-- a ready task belongs to the queue of its priority, a waiter on an object to that object's, no other task to any
pub ready_stands : (t : Task) → t.state ≡ ready → (q : Place) → stands t q ≡ same_place (ready_at t.priority) q
ready_stands t e (ready_at p) = rw e
ready_stands t e (waiters k o) = rw e
ready_stands t e (mail m) = refl
ready_stands t e (free_in p) = refl

pub wait_stands : (t : Task) (k : Kind) (o p m : ℕ) → t.state ≡ waiting (on k o p m) → (q : Place) → stands t q ≡ same_place (waiters k o) q
wait_stands t k o p m e (ready_at n) = rw e
wait_stands t k o p m e (waiters j n) = rw e
wait_stands t k o p m e (mail n) = refl
wait_stands t k o p m e (free_in n) = refl

-- ---- the lines that the rules' move makes

-- a step in the rings of one sort alone
abbrev pub only_in : Rings → Step → Rings → Step
only_in Tasks s Tasks = s
only_in Tasks s Messages = rest
only_in Tasks s Blocks = rest
only_in Messages s Tasks = rest
only_in Messages s Messages = s
only_in Messages s Blocks = rest
only_in Blocks s Tasks = rest
only_in Blocks s Messages = rest
only_in Blocks s Blocks = s

-- the moves of the rings make of each line, with the nodes N, what the rules make of it; u tells which places there are, c is the state afterwards
abbrev pub Follows : Store → Body → Move → (Place → List ℕ) → (Rings → Step) → Type 0
Follows u c m N s = (q : Place) → Exists u q → moved c m q (numbers_of (sort_at q) (N q)) ≡ numbers_of (sort_at q) (line_after (s (rings_at q)) (anchor q) (N q))

pub keep_without : (t : ℕ) (l : List ℕ) → keep (λ j. not (eqb t j)) l ≡ without t l
unfolding keep without
keep_without t [] = refl
keep_without t (x ∷ l) = go (ℕ_discrete x t) (keep_without t l)
  where
    go : Dec (x ≡ t) → keep (λ j. not (eqb t j)) l ≡ without t l → cond (not (eqb t x)) (x ∷ keep (λ j. not (eqb t j)) l) (keep (λ j. not (eqb t j)) l) ≡ cond (eqb x t) (without t l) (x ∷ without t l)
    go (yes e) ih = rw (eq-eqb x t e, eq-eqb t x (sym e)) ih
    go (no ne) ih = rw (ne_eqb x t ne, ne_eqb t x (λ e. ne (sym e))) (ap (λ (m : List ℕ). x ∷ m) ih)

keep_all : (l : List ℕ) → keep (λ j. true) l ≡ l
unfolding keep
keep_all [] = refl
keep_all (x ∷ l) = ap (λ (m : List ℕ). x ∷ m) (keep_all l)

-- ---- blocks: their nodes are numbers moved by what comes before their pool

less_without : (d k : ℕ) → 1 ≤ k → (l : List ℕ) → keep (λ j. not (eqb k j)) (map (λ x. x - d) l) ≡ map (λ x. x - d) (without (d + k) l)
unfolding keep without
less_without d k h [] = refl
less_without d k h (x ∷ l) = go (ℕ_discrete x (d + k)) (less_without d k h l)
  where
    go : Dec (x ≡ d + k) → keep (λ j. not (eqb k j)) (map (λ x. x - d) l) ≡ map (λ x. x - d) (without (d + k) l)
        → cond (not (eqb k (x - d))) ((x - d) ∷ keep (λ j. not (eqb k j)) (map (λ x. x - d) l)) (keep (λ j. not (eqb k j)) (map (λ x. x - d) l)) ≡ map (λ x. x - d) (cond (eqb x (d + k)) (without (d + k) l) (x ∷ without (d + k) l))
    go (yes e) ih = rw (eq-eqb x (d + k) e, eq-eqb k (x - d) (omega arith)) ih
    go (no ne) ih = rw (ne_eqb x (d + k) ne, ne_eqb k (x - d) (λ e. ne (omega arith))) (ap (λ (m : List ℕ). (x - d) ∷ m) ih)

less_append : (d : ℕ) (l m : List ℕ) → map (λ x. x - d) (l ++ m) ≡ map (λ x. x - d) l ++ map (λ x. x - d) m
less_append d [] m = refl
less_append d (x ∷ l) m = ap (λ (n : List ℕ). (x - d) ∷ n) (less_append d l m)

module _ (u : Store) (c : Body) (N : Place → List ℕ) where
  pub follows_stay : Follows u c stay N (λ r. rest)
  unfolding moved
  follows_stay q e = refl

  pub rest_follows : (r : Rings) → Follows u c stay N (only_in r rest)
  unfolding moved
  rest_follows r q e = rw (rests r (rings_at q))
    where
      rests : (r x : Rings) → only_in r rest x ≡ rest
      rests Tasks Tasks = refl
      rests Tasks Messages = refl
      rests Tasks Blocks = refl
      rests Messages Tasks = refl
      rests Messages Messages = refl
      rests Messages Blocks = refl
      rests Blocks Tasks = refl
      rests Blocks Messages = refl
      rests Blocks Blocks = refl

  pub task_leaves : (t : ℕ) → Follows u c (leave (a_task t)) N (only_in Tasks (out t))
  unfolding moved
  task_leaves t (ready_at p) e = keep_without t _
  task_leaves t (waiters k o) e = keep_without t _
  task_leaves t (mail m) e = keep_all _
  task_leaves t (free_in p) e = keep_all _

  pub message_leaves : (j : ℕ) → Follows u c (leave (a_message j)) N (only_in Messages (out j))
  unfolding moved
  message_leaves j (ready_at p) e = keep_all _
  message_leaves j (waiters k o) e = keep_all _
  message_leaves j (mail m) e = keep_without j _
  message_leaves j (free_in p) e = keep_all _

  -- a task that then belongs to no queue
  pub task_lost : (t : ℕ) → ((q : Place) → stands (task c t) q ≡ false) → Follows u c (last (a_task t)) N (only_in Tasks (out t))
  unfolding moved keep belongs
  task_lost t h (ready_at p) e = rw (h (ready_at p)) (append-nil _ ∙ keep_without t _)
  task_lost t h (waiters k o) e = rw (h (waiters k o)) (append-nil _ ∙ keep_without t _)
  task_lost t h (mail m) e = append-nil _ ∙ keep_all _
  task_lost t h (free_in p) e = append-nil _ ∙ keep_all _

  module _ (small : (q : Place) → Exists u q → Small q) where
    -- one that then belongs to the queue at a place
    pub task_goes : (t : ℕ) (h : Place) → Exists u h → rings_at h ≡ Tasks → ((q : Place) → stands (task c t) q ≡ same_place h q) → Follows u c (last (a_task t)) N (only_in Tasks (to h t))
    unfolding moved keep belongs
    task_goes t h x y g (ready_at p) e = rw (g (ready_at p), keep_without t (N (ready_at p)), ← anchor_same h (ready_at p) (small h x) (small (ready_at p) e) y)
    task_goes t h x y g (waiters k o) e = rw (g (waiters k o), keep_without t (N (waiters k o)), ← anchor_same h (waiters k o) (small h x) (small (waiters k o) e) y)
    task_goes t h x y g (mail m) e = append-nil _ ∙ keep_all _
    task_goes t h x y g (free_in p) e = append-nil _ ∙ keep_all _

    pub message_goes : (j n : ℕ) → Exists u (mail n) → ((m : ℕ) → belongs c (mail m) j ≡ eqb n m) → Follows u c (last (a_message j)) N (only_in Messages (to (mail n) j))
    unfolding moved keep
    message_goes j n x g (ready_at p) e = append-nil _ ∙ keep_all _
    message_goes j n x g (waiters k o) e = append-nil _ ∙ keep_all _
    message_goes j n x g (mail m) e = rw (g m, keep_without j (N (mail m)), ← anchor_same (mail n) (mail m) (small (mail n) x) (small (mail m) e) refl)
    message_goes j n x g (free_in p) e = append-nil _ ∙ keep_all _

    -- block k of pool p, which stands in no other pool's queue
    module _ (p k : ℕ) (h : 1 ≤ k) (x : Exists u (free_in p)) (foreign : (n : ℕ) → Exists u (free_in n) → n ≢ p → Out (block_node p k) (N (free_in n))) where
      left_line : (n : ℕ) → Exists u (free_in n) → keep (λ i. not (eqb p n && eqb k i)) (map (λ y. y - before_pool n) (N (free_in n))) ≡ map (λ y. y - before_pool n) (without (block_node p k) (N (free_in n)))
      left_line n e = go (ℕ_discrete n p)
        where
          go : Dec (n ≡ p) → keep (λ i. not (eqb p n && eqb k i)) (map (λ y. y - before_pool n) (N (free_in n))) ≡ map (λ y. y - before_pool n) (without (block_node p k) (N (free_in n)))
          go (yes z) = rw (z, eq-eqb p p refl) (less_without (before_pool p) k h (N (free_in p)))
          go (no ne) = rw (ne_eqb p n (λ z. ne (sym z)), without_out (block_node p k) (N (free_in n)) (foreign n e ne)) (keep_all _)

      pub block_leaves : Follows u c (leave (a_block p k)) N (only_in Blocks (out (block_node p k)))
      unfolding moved
      block_leaves (ready_at n) e = keep_all _
      block_leaves (waiters j o) e = keep_all _
      block_leaves (mail m) e = keep_all _
      block_leaves (free_in n) e = left_line n e

      pub block_goes : belongs c (free_in p) k ≡ true → Follows u c (last (a_block p k)) N (only_in Blocks (to (free_in p) (block_node p k)))
      unfolding moved keep
      block_goes g (ready_at n) e = append-nil _ ∙ keep_all _
      block_goes g (waiters j o) e = append-nil _ ∙ keep_all _
      block_goes g (mail m) e = append-nil _ ∙ keep_all _
      block_goes g (free_in n) e =
          rw (left_line n e) (ap (λ (m : List ℕ). map (λ y. y - before_pool n) (without (block_node p k) (N (free_in n))) ++ m) (end (ℕ_discrete n p))
          ∙ sym (less_append (before_pool n) (without (block_node p k) (N (free_in n))) (cond (eqb (anchor (free_in n)) (anchor (free_in p))) (block_node p k ∷ []) [])))
        where
          end : Dec (n ≡ p) → keep (belongs c (free_in n)) (cond (eqb p n) (k ∷ []) []) ≡ map (λ y. y - before_pool n) (cond (eqb (anchor (free_in n)) (anchor (free_in p))) (block_node p k ∷ []) [])
          end (yes z) =
              let w : block_node p k - before_pool p ≡ k = omega arith in
              rw (z, eq-eqb p p refl, eq-eqb (anchor (free_in p)) (anchor (free_in p)) refl, w) (unfold keep in rw g)
          end (no ne) =
              rw (ne_eqb p n (λ z. ne (sym z)), anchor_same (free_in p) (free_in n) (small (free_in p) x) (small (free_in n) e) refl, ne_eqb p n (λ z. ne (sym z))) (unfold keep in refl)
