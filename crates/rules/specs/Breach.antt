-- What a damaged state is told as: the first rule broken, and the smallest id at which it is.
use Rattle.std.specs.Prelude.{Bool, true, false, cond, List, [], ◌∷◌, ◌⊎◌, ◌≡◌, ℕ, zero, suc, ◌+◌, ◌≤◌, ◌<◌, length}
use Rattle.std.proofs.Math.Bool.{Bool-discrete}
use Rattle.std.proofs.Math.Option.{Option, none, some}
use Rattle.std.proofs.Math.Decide.{dec_le, ℕ_discrete}
use Rattle.rules.specs.Ids.{ids, In, once, times}
use Rattle.rules.specs.Codes.{Code, H-NUMBER, H-QUEUE, H-SERVED, H-TWICE, H-FREE}
use Rattle.rules.specs.State.{Kind, semaphore, flag, mailbox, pool, Wait, asleep, timed, on, task, wait_of}
use Rattle.rules.specs.Places.{Place, mail, free_in, tasks, same_sort, sort_at, many, belongs, Exists}
use Rattle.rules.specs.View.{View, line}
use Rattle.rules.specs.Sound.{would_serve, SoundBody, Shape, Known}
use Rattle.rules.specs.Check.{convert, both?, if?, every?, body?, shape?, known?, places?}

-- the code of the rule, and the id at which it is broken (0: the code names none)
pub record Breach : Type 0 where
  pub code : Code
  pub id : ℕ

abbrev pub breach_at : Code → ℕ → Breach
breach_at c i = record { code = c; id = i }

-- ---- -20: a number out of range anywhere

-- numbers lie in their ranges, there is a line for each place, and nobody stands in it but those that exist
pub record Ranged (v : View) : Type 0 where
  pub body : SoundBody v.body
  pub shape : Shape v.body.store v.lines
  pub known : (q : Place) → Exists v.body.store q → Known (many v.body q) (line v q)

unfoldable pub ranged? : (v : View) → Dec (Ranged v)
unfolding convert both? body? shape? known? places?
ranged? v =
    convert (λ t. record { body = t.0; shape = t.1.0; known = t.1.1 }) (λ r. (r.body, (r.shape, r.known)))
    (both? (body? v.body) (both? (shape? v.body.store v.lines) (places? v.body.store (λ q. known? (many v.body q) (line v q)))))

-- ---- -21: a task missing from, doubled in or foreign to a queue

-- i stands in the queue once if it belongs there, and else not at all
abbrev pub Stands : View → Place → ℕ → Type 0
Stands v q i = times i (line v q) ≡ once (belongs v.body q i)

-- tasks stand there
abbrev pub of_tasks : Place → Bool
of_tasks q = same_sort (sort_at q) tasks

-- of a task, in each queue of tasks
abbrev pub InPlace : View → ℕ → Type 0
InPlace v i = (q : Place) → Exists v.body.store q → of_tasks q ≡ true → Stands v q i

unfoldable pub in_place? : (v : View) (i : ℕ) → Dec (InPlace v i)
unfolding if? places? ℕ_discrete
in_place? v i = places? v.body.store (λ q. if? (of_tasks q) (ℕ_discrete (times i (line v q)) _))

-- ---- -22: a waiter on an object, first in line or not, beside what would serve it

-- somebody stands there
abbrev pub some? : List ℕ → Bool
some? [] = false
some? (x ∷ l) = true

-- Of a mailbox its line is read, not the messages' marks: where the two disagree, the line is what a receiver would get. Of a pool the marks are
-- read, not its line: they decide what is free.
abbrev pub beside : View → Kind → ℕ → ℕ → ℕ → Bool
beside v semaphore o p m = would_serve v.body.store semaphore o p m
beside v flag o p m = would_serve v.body.store flag o p m
beside v mailbox o p m = some? (line v (mail o))
beside v pool o p m = would_serve v.body.store pool o p m

abbrev pub served_beside : View → Option Wait → Bool
served_beside v none = false
served_beside v (some asleep) = false
served_beside v (some (timed t)) = false
served_beside v (some (on k o p m)) = beside v k o p m

-- of a waiter
abbrev pub Alone : View → ℕ → Type 0
Alone v i = served_beside v (wait_of (task v.body i).state) ≡ false

-- ---- -23: a message held twice

-- how often a message stands in the mailboxes' lines, taken together
unfoldable pub held : ℕ → List (List ℕ) → ℕ
held j [] = 0
held j (l ∷ ls) = times j l + held j ls

-- of a message
abbrev pub HeldOnce : View → ℕ → Type 0
HeldOnce v j = held j v.lines.mail ≤ 1

-- ---- -24: a free block missing from, doubled in or foreign to the queue of its pool

-- of a pool: each of its blocks stands in the queue once if it is marked free, and else not at all
abbrev pub Listed : View → ℕ → Type 0
Listed v p = (k : ℕ) → In k (many v.body (free_in p)) → Stands v (free_in p) k

unfoldable pub listed? : (v : View) (p : ℕ) → Dec (Listed v p)
unfolding every? ℕ_discrete
listed? v p = every? (many v.body (free_in p)) (λ k. ℕ_discrete (times k (line v (free_in p))) _)

-- ---- the rules in order

-- a code, the ids 1 to count, and what is to hold at each
pub record Rule : Type 1 where
  pub code : Code
  pub count : ℕ
  pub Keeps : ℕ → Type 0
  pub keeps? : (i : ℕ) → Dec (Keeps i)

abbrev pub rule : Code → ℕ → (P : ℕ → Type 0) → ((i : ℕ) → Dec (P i)) → Rule
rule c n P d = record { code = c; count = n; Keeps = P; keeps? = d }

unfoldable pub rules_of : View → List Rule
unfolding in_place? dec_le listed?
rules_of v =
    rule H-QUEUE (length v.body.tasks) (InPlace v) (in_place? v)
    ∷ rule H-SERVED (length v.body.tasks) (Alone v) (λ i. Bool-discrete _ false)
    ∷ rule H-TWICE (length v.body.store.messages) (HeldOnce v) (λ j. dec_le (held j v.lines.mail) 1)
    ∷ rule H-FREE (length v.body.store.pools) (Listed v) (listed? v)
    ∷ []

-- ---- the first broken

abbrev pub is_yes : {A : Type 0} → Dec A → Bool
is_yes (yes a) = true
is_yes (no h) = false

-- the first of a list at which the test fails, 0 if there is none (no id is 0)
unfoldable pub first_bad : (ℕ → Bool) → List ℕ → ℕ
first_bad f [] = 0
first_bad f (x ∷ l) = cond (f x) (first_bad f l) x

-- that id with the code; where there is none, what else is broken
abbrev pub unless : ℕ → Code → Breach → Breach
unless zero c other = other
unless (suc i) c other = breach_at c (suc i)

-- Each rule is tried over all ids before the next. Any breach but those named is told behind them, without an id.
unfoldable pub first_of : List Rule → Breach
unfolding first_bad
first_of [] = breach_at H-NUMBER 0
first_of (r ∷ l) = unless (first_bad (λ i. is_yes (r.keeps? i)) (ids r.count)) r.code (first_of l)

-- A number out of range anywhere comes first.
unfoldable pub breach_by : (v : View) → Dec (Ranged v) → Breach
breach_by v (yes r) = first_of (rules_of v)
breach_by v (no h) = breach_at H-NUMBER 0

unfoldable pub breach : View → Breach
breach v = breach_by v (ranged? v)

-- ---- the same as a claim

-- P holds at each of the ids 1 to n
abbrev pub Kept : ℕ → (ℕ → Type 0) → Type 0
Kept n P = (i : ℕ) → In i n → P i

-- i is the smallest of them at which it does not
pub record BrokenAt (n : ℕ) (P : ℕ → Type 0) (i : ℕ) : Type 0 where
  pub there : In i n
  pub fails : P i → ⊥
  pub least : (j : ℕ) → 1 ≤ j → j < i → P j

abbrev pub AllKept : List Rule → Type 0
AllKept [] = Unit {0}
AllKept (r ∷ l) = Kept r.count r.Keeps × AllKept l

-- the first rule of a list that is broken, with the smallest id at which it is
abbrev pub First : List Rule → Breach → Type 0
First [] x = ⊥
First (r ∷ l) x = ((x.code ≡ r.code) × BrokenAt r.count r.Keeps x.id) ⊎ (Kept r.count r.Keeps × First l x)

-- each message stands once in the line of the mailbox that its mark names, and in no other
abbrev pub MarksFit : View → Type 0
MarksFit v = (m : ℕ) → Exists v.body.store (mail m) → (j : ℕ) → In j (many v.body (mail m)) → Stands v (mail m) j

-- What a state is told as: a number out of range; else the first rule broken, with its id; and where all these rules are kept, that marks
-- and lines disagree.
pub data Named (v : View) : Breach → Type 0 where
  by_number : (Ranged v → ⊥) → Named v (breach_at H-NUMBER 0)
  by_rule : (x : Breach) → Ranged v → First (rules_of v) x → Named v x
  by_mark : Ranged v → AllKept (rules_of v) → (MarksFit v → ⊥) → Named v (breach_at H-NUMBER 0)
