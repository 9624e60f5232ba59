-- The queues' places, who belongs where (it follows from the state), and the table of the lines at all places.
use Rattle.std.specs.Prelude.{Bool, true, false, ◌&&◌, List, [], map, ℕ, eqb, length}
use Rattle.std.proofs.Math.Option.{Option, none, some}
use Rattle.rules.specs.Ids.{of, ids, In}
use Rattle.rules.specs.State.{Kind, semaphore, flag, mailbox, pool, Wait, asleep, timed, on, State, Store, Body, task, objects, wait_of, is_ready}

-- the ready queue of a priority, the waiters on an object, the messages of a mailbox, the free blocks of a pool
pub data Place : Type 0 where
  ready_at : ℕ → Place
  waiters : Kind → ℕ → Place
  mail : ℕ → Place
  free_in : ℕ → Place

-- what stands in queues: tasks, messages, the blocks of a pool
pub data Sort : Type 0 where
  tasks messages : Sort
  blocks : ℕ → Sort

abbrev pub same_sort : Sort → Sort → Bool
same_sort tasks tasks = true
same_sort tasks messages = false
same_sort tasks (blocks q) = false
same_sort messages tasks = false
same_sort messages messages = true
same_sort messages (blocks q) = false
same_sort (blocks p) tasks = false
same_sort (blocks p) messages = false
same_sort (blocks p) (blocks q) = eqb p q

-- what stands in the queue at that place
abbrev pub sort_at : Place → Sort
sort_at (ready_at p) = tasks
sort_at (waiters k o) = tasks
sort_at (mail m) = messages
sort_at (free_in p) = blocks p

-- one of a sort, by its id
pub record Item : Type 0 where
  pub sort : Sort
  pub id : ℕ

abbrev pub a_task : ℕ → Item
a_task i = record { sort = tasks; id = i }

abbrev pub a_message : ℕ → Item
a_message j = record { sort = messages; id = j }

-- block k of pool p
abbrev pub a_block : ℕ → ℕ → Item
a_block p k = record { sort = blocks p; id = k }

-- whose id i is in the queue at that place
abbrev pub item : Place → ℕ → Item
item q i = record { sort = sort_at q; id = i }

abbrev pub same : Item → Item → Bool
same x y = same_sort x.sort y.sort && eqb x.id y.id

-- how many there are of a sort
unfoldable pub population : Body → Sort → ℕ
population b tasks = length b.tasks
population b messages = length b.store.messages
population b (blocks p) = length (of b.store.pools p [])

-- how many there are of what stands in that queue
abbrev pub many : Body → Place → ℕ
many b q = population b (sort_at q)

abbrev pub same_kind : Kind → Kind → Bool
same_kind semaphore semaphore = true
same_kind semaphore flag = false
same_kind semaphore mailbox = false
same_kind semaphore pool = false
same_kind flag semaphore = false
same_kind flag flag = true
same_kind flag mailbox = false
same_kind flag pool = false
same_kind mailbox semaphore = false
same_kind mailbox flag = false
same_kind mailbox mailbox = true
same_kind mailbox pool = false
same_kind pool semaphore = false
same_kind pool flag = false
same_kind pool mailbox = false
same_kind pool pool = true

-- the wait is for object o of kind k
abbrev pub waits_on : Option Wait → Kind → ℕ → Bool
waits_on none k o = false
waits_on (some asleep) k o = false
waits_on (some (timed t)) k o = false
waits_on (some (on k' o' p m)) k o = same_kind k' k && eqb o' o

abbrev pub awaits : State → Kind → ℕ → Bool
awaits s k o = waits_on (wait_of s) k o

-- the message lies in mailbox m
abbrev pub lies : Option ℕ → ℕ → Bool
lies none m = false
lies (some n) m = eqb n m

-- A queue is the READY and RUN tasks of a priority, the waiters on an object, suspended or not, the messages of a mailbox, or the
-- blocks of a pool that are marked free.
unfoldable pub belongs : Body → Place → ℕ → Bool
belongs b (ready_at p) i = is_ready (task b i).state && eqb (task b i).priority p
belongs b (waiters k o) i = awaits (task b i).state k o
belongs b (mail m) i = lies (of b.store.messages i none) m
belongs b (free_in p) i = of (of b.store.pools p []) i false

-- ---- the lines: what stands in each queue, first to last, as a table of the setup's places

-- something for each kind of object
pub record EachKind {ℓ} (A : Type ℓ) : Type ℓ where
  pub semaphores : A
  pub flags : A
  pub mailboxes : A
  pub pools : A

module _ {ℓ} {A : Type ℓ} where
  abbrev pub at : EachKind A → Kind → A
  at e semaphore = e.semaphores
  at e flag = e.flags
  at e mailbox = e.mailboxes
  at e pool = e.pools

  abbrev pub each : (Kind → A) → EachKind A
  each f = record { semaphores = f semaphore; flags = f flag; mailboxes = f mailbox; pools = f pool }

-- ready queues by priority, wait queues by kind and object, messages by mailbox, free blocks by pool
pub record Lines : Type 0 where
  pub ready : List (List ℕ)
  pub waiting : EachKind (List (List ℕ))
  pub mail : List (List ℕ)
  pub free : List (List ℕ)

-- the line at a place; no line stands at a place that the setup lacks
unfoldable pub line_at : Lines → Place → List ℕ
line_at l (ready_at p) = of l.ready p []
line_at l (waiters k o) = of (at l.waiting k) o []
line_at l (mail m) = of l.mail m []
line_at l (free_in p) = of l.free p []

-- the places that there are
abbrev pub Exists : Store → Place → Type 0
Exists u (ready_at p) = In p u.priorities
Exists u (waiters k o) = In o (objects u k)
Exists u (mail m) = In m u.mailboxes
Exists u (free_in p) = In p (length u.pools)

-- the table that has f's line at each of them
unfoldable pub tabulate : Store → (Place → List ℕ) → Lines
tabulate u f = record {
  ready = map (λ p. f (ready_at p)) (ids u.priorities);
  waiting = each (λ k. map (λ o. f (waiters k o)) (ids (objects u k)));
  mail = map (λ m. f (mail m)) (ids u.mailboxes);
  free = map (λ p. f (free_in p)) (ids (length u.pools));
}
