-- Even wear: free blocks stand in a line, a grant takes the first and a returned one goes last. So between a return of a block to the free
-- ones and its next grant every block of the pool that was free at that return is granted.
use Rattle.std.specs.Prelude.{true, List, [], ◌∷◌, ◌++◌, ◌≢◌, ◌≡◌, ℕ, ◌<◌, length}
use Rattle.rules.specs.Ids.{of, In, times}
use Rattle.rules.specs.Codes.{number}
use Rattle.rules.specs.State.{Body}
use Rattle.rules.specs.Places.{a_block}
use Rattle.rules.specs.Events.{Event}
use Rattle.rules.specs.View.{View}
use Rattle.rules.specs.Kernel.{event}
use Rattle.rules.specs.Plain.{Plain, number_of}
use Rattle.rules.specs.Blocks.{is_free, Happened, granted, gave_back, grants}
use Rattle.rules_runs.specs.Demand3.{happened}

-- ---- a run as the blocks' accounts read it

abbrev pub happening : View → Event → Happened
happening v e = record { event = e; code = number (event v e).answer.code; w1 = (event v e).answer.w1; before = v.body; after = (event v e).next.body }

-- first to last
abbrev pub history : View → List Event → List Happened
history v [] = []
history v (e ∷ l) = happening v e ∷ history (event v e).next l

-- ---- one event

-- none of these blocks of pool p is granted
abbrev pub NoneGranted : Happened → ℕ → List ℕ → Type 0
NoneGranted h p l = (j : ℕ) → times j l ≢ 0 → granted h p j ≡ 0

-- What an event makes of the line of the free blocks of pool p, longest free first: none of them is granted, and the line stays or a
-- returned block goes last; or the first is granted, no other, and leaves.
pub data Turn (h : Happened) (p : ℕ) (before after : List ℕ) : Type 0 where
  stays : NoneGranted h p before → after ≡ before → Turn h p before after
  returns_last : (k : ℕ) → gave_back h p k ≡ 1 → NoneGranted h p before → after ≡ before ++ k ∷ [] → Turn h p before after
  grants_first : (k : ℕ) → granted h p k ≡ 1 → NoneGranted h p after → before ≡ k ∷ after → Turn h p before after

-- ---- a run

-- block k of pool p exists and is free
abbrev pub FreeBlock : Body → ℕ → ℕ → Type 0
FreeBlock b p k = In p (length b.store.pools) × In k (length (of b.store.pools p [])) × (is_free b p k ≡ true)

-- it is returned by this event to the free ones, not to a waiter
abbrev pub ReturnedFree : Happened → ℕ → ℕ → Type 0
ReturnedFree h p k = (gave_back h p k ≢ 0) × (is_free h.after p k ≡ true)

-- whichever event of the run grants block k of pool p, block j has been granted before it
abbrev pub GrantedBefore : ℕ → ℕ → ℕ → List Happened → Type 0
GrantedBefore p j k l = (between rest : List Happened) (h : Happened) → l ≡ between ++ h ∷ rest → granted h p k ≢ 0 → grants between p j ≢ 0

-- at each return of a block k to the free ones: every block j that was free then is granted before k is granted again
abbrev pub WornEvenly : List Happened → Type 0
WornEvenly [] = Unit {0}
WornEvenly (h ∷ l) = ((p k : ℕ) → ReturnedFree h p k → (j : ℕ) → FreeBlock h.before p j → GrantedBefore p j k l) × WornEvenly l

-- ---- in the plain kernel's terms

-- a free block that the event grants has a smaller arrival number than every other free block of its pool: it is the one longest free
abbrev pub LongestFree : Plain → Event → Type 0
LongestFree s e =
    (p k : ℕ) → FreeBlock s.body p k → granted (happened s e) p k ≢ 0 → (j : ℕ) → FreeBlock s.body p j → j ≢ k → number_of s (a_block p k) < number_of s (a_block p j)
