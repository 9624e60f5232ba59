-- What the customer demands of runs holds of every chain of steps, by the theorems of the rules. Assumes nothing.
use mathlib.Core.Bool.{Bool, true, false, not, false≢true}
use mathlib.Core.List.{List, [], ◌∷◌, map}
use mathlib.Core.Logic.{◌≢◌}
use mathlib.Core.Path.{◌≡◌, refl, sym, ap, ◌∙◌, subst}
use Prim.Native.Nat.{ℕ, ◌≤◌}
use native.Mathlib.Omega.{arith}
use lib.Dec.{lit≤}
use lib.IntN.{ℤ, pos}
use lib.ListN.{length}
use Rattle.rules.specs.Ids.{of, In, once}
use Rattle.rules.specs.Codes.{E-RLWAI, number, own_number, in_damage, tells_damage}
use Rattle.rules.specs.Breach.{breach}
use Rattle.rules.specs.State.{Body, task}
use Rattle.rules.specs.Setup.{got, setup, Setup}
use Rattle.rules.specs.Events.{Event, call, nat, AllWords}
use Rattle.rules.specs.View.{View, running}
use Rattle.rules.specs.Kernel.{Outcome, served, event}
use Rattle.rules.specs.Plain.{Plain, view_of, plain_fresh, plain_next, plain_answer}
use Rattle.rules.specs.Blocks.{is_free, Happened, granted, gave_back, AllAccounted}
use Rattle.rules_runs.specs.Wear.{happening, history, WornEvenly}
use Rattle.rules_runs.specs.Demand3.{Agree, Alike, happened, Demand3}
use Rattle.rules.specs.Broken.{is_fresh, Unless, StaysBroken}
use Rattle.rules.proofs.Breach.{breach_tells}
use Rattle.rules.proofs.Events.{event_served, event_next}
use Rattle.rules.proofs.Blocks.{event_balance}
use Rattle.rules_runs.proofs.Wear.{worn_evenly}
use Rattle.rules_runs.proofs.Demand3.{demand3}
use Rattle.rules.proofs.Broken.{stays_broken}
use Rattle.rules.proofs.OnlyBroken.{only_rel_wai, never_answered}
use Rattle.memory_picture.specs.Picture.{Memory, view_in, SoundIn}
use Rattle.kernel_start.specs.Starting.{Starts, Holds}
use Rattle.std.specs.Prelude.{Result}
use Rattle.setup_sections.specs.Judging.{Refusal}
use Rattle.kernel_steps.specs.Steps.{Reply, told, unsound, Step, Link, Chain}
use Rattle.kernel_demands.specs.Demands.{Same, seen, Demand3OnCode, Balanced, OutNotGranted, BlocksOnce, seen_all, WornEvenlyOnCode, state_in, StaysBrokenOnCode, BrokenOnCode, OnlyRelWaiOnCode}
use Rattle.kernel_demands.proofs.Chains.{start_holds, chain_words, runs_is, cell_is, step_holds, step_says}

-- ---- demand 3

-- the claim begins with what holds now
now_alike : {past : List Happened} {v : View} {s : Plain} (l : List Event) → Demand3 past v s l → Alike past v s
now_alike [] D = D
now_alike (e ∷ l) D = D.0

same_body : {m : Memory} {v : View} {s : Plain} → Holds m v → Agree v s → (view_in m).body ≡ s.body
same_body H A = ap (λ (w : View). w.body) H.view ∙ A.body

-- states that agree are one view
same_view : {v : View} {s : Plain} → Agree v s → v ≡ view_of s
unfolding view_of
same_view A = λ z. record { body = A.body z; lines = A.lines z }

same : {past : List Happened} {m : Memory} {v : View} {s : Plain} → Holds m v → Alike past v s → Same past m s
same {past} {s = s} H A = record {
  accepted = H.accepted;
  agree = subst (λ (w : View). Agree w s) (sym H.view) A.agree;
  runs = λ r R. runs_is H R ∙ ap running (same_view A.agree);
  cells = λ a. cell_is H a (A.cells a);
  blocks = subst (λ (x : Body). AllAccounted past x) (sym (same_body H A.agree)) A.blocks;
}

-- the rules' claim along a chain is the claim of the code
on_code : (past : List Happened) {m : Memory} {v : View} (s : Plain) (l : List Link) → Holds m v → Chain m l → Demand3 past v s (map (λ k. k.event) l) → Demand3OnCode past m s l
unfolding tells_damage
on_code past s [] H C D = same H D
on_code past {m} {v} s (k ∷ l) H C D = (
  same H D.0,
  step_says H C.0 ∙ ap told D.1,
  ap (λ (r : Reply). in_damage r.code) (step_says H C.0) ∙ D.2,
  subst (λ (x : Happened). Demand3OnCode (x ∷ past) k.left (plain_next s k.event) l) (sym was)
      (on_code (happened s k.event ∷ past) (plain_next s k.event) l after C.1 D.3),
)
  where
    after : Holds k.left (event v k.event).next
    after = step_holds H C.0

    says : k.reply ≡ told (plain_answer s k.event)
    says = step_says H C.0 ∙ ap told D.1

    -- the replies are the plain kernel's, and the memories show its tasks
    was : seen m k ≡ happened s k.event
    was = λ z. record {
      event = k.event;
      code = (says z).code;
      w1 = (says z).w1;
      before = same_body H D.0.agree z;
      after = same_body after (now_alike (map (λ k. k.event) l) D.3).agree z;
    }

-- from every start on a setup that is accepted
pub demand3_on_code : (s : List ℕ) (u : Setup) (i : ℕ) → setup s ≡ got u i → (r : Result (Unit {0}) Refusal) (old m : Memory) → Starts s r old m
    → (l : List Link) → Chain m l → Demand3OnCode [] m (plain_fresh u) l
demand3_on_code s u i e r old m S l C =
    on_code [] (plain_fresh u) l (start_holds s u i e r old m S) C (demand3 s u i e (map (λ k. k.event) l) (chain_words m l C))

-- ---- a block is given to one at a time

once_most : (t : Bool) → once t ≤ 1
once_most true = lit≤ tt
once_most false = lit≤ tt

-- the rules' account of a block, in the numbers that came back
block_balance : {m : Memory} → SoundIn m → (k : Link) → Step k.event m k.reply k.left
    → (p : ℕ) → In p (length (view_in m).body.store.pools) → (j : ℕ) → In j (length (of (view_in m).body.store.pools p [])) → Balanced m k p j
unfolding granted gave_back
block_balance {m} A k S p rp j rj = rw (S.shows A ∙ event_next (view_in m) k.event A.sound, given) (event_balance (view_in m) A.sound k.event p j rp rj)
  where
    given : k.reply ≡ told (served (view_in m) k.event).answer
    given = S.answers A ∙ ap (λ (o : Outcome). told o.answer) (event_served (view_in m) k.event A.sound)

-- for one that is out there is no room in it for a grant
not_granted : (m : Memory) (k : Link) (p j : ℕ) → Balanced m k p j → OutNotGranted m k p j
not_granted m k p j B out back = omega (arith, B, back, ap (λ (t : Bool). once (not t)) out, once_most (not (is_free (view_in k.left).body p j)))

-- from every accepted memory
pub chain_block_once : (m : Memory) → SoundIn m → (l : List Link) → Chain m l → BlocksOnce m l
chain_block_once m A [] C = tt
chain_block_once m A (k ∷ l) C = (
  (λ p rp j rj. let B = block_balance A k C.0 p rp j rj in (B, not_granted m k p j B)),
  chain_block_once k.left (C.0.accepted A) l C.1,
)

-- ---- blocks wear evenly

-- what is seen of a chain is the rules' history
history_seen : {m : Memory} {v : View} (l : List Link) → Holds m v → Chain m l → seen_all m l ≡ history v (map (λ k. k.event) l)
history_seen [] H C = refl
history_seen {m} {v} (k ∷ l) H C = λ z. one z ∷ history_seen {m = k.left} {v = (event v k.event).next} l (step_holds H C.0) C.1 z
  where
    one : seen m k ≡ happening v k.event
    one = λ z. record {
      event = k.event;
      code = (step_says H C.0 z).code;
      w1 = (step_says H C.0 z).w1;
      before = (H.view z).body;
      after = ((step_holds H C.0).view z).body;
    }

-- from every accepted memory
pub chain_worn_evenly : (m : Memory) → SoundIn m → (l : List Link) → Chain m l → WornEvenlyOnCode m l
chain_worn_evenly m A l C =
    subst WornEvenly (sym (history_seen l (record { accepted = A; view = refl }) C)) (worn_evenly (view_in m) A.sound (map (λ k. k.event) l) (chain_words m l C))

-- ---- a broken wait

unless : (t : Bool) {A B : Type 0} → (A → B) → Unless t A → Unless t B
unless true f h = tt
unless false f h = f h

broken_on_code : (a : ℤ) {m : Memory} {v : View} (l : List Link) → Holds m v → Chain m l → StaysBroken a v (map (λ k. k.event) l) → StaysBrokenOnCode a m l
broken_on_code a [] H C B = cell_is H a B
broken_on_code a {m} {v} (k ∷ l) H C B = (
  cell_is H a B.0,
  rw (shown H, shown after) (unless (is_fresh (task v.body (nat a)).state (task (event v k.event).next.body (nat a)).state) (broken_on_code a {m = k.left} {v = (event v k.event).next} l after C.1) B.1),
)
  where
    after : Holds k.left (event v k.event).next
    after = step_holds H C.0

    shown : {m : Memory} {v : View} → Holds m v → state_in m a ≡ (task v.body (nat a)).state
    shown H = ap (λ (w : View). (task w.body (nat a)).state) H.view

-- after a rel_wai that is answered with 0
pub stays_broken_on_code : (m : Memory) → SoundIn m → (k : Link) (l : List Link) → Chain m (k ∷ l) → (x a y z : ℤ) → k.event ≡ call x (pos 6) a y z → k.reply.code ≡ pos 0
    → StaysBrokenOnCode a k.left l
stays_broken_on_code m A k l C x a y z e c =
    broken_on_code a l (rw e at (step_holds H C.0)) C.1
    (stays_broken (view_in m) x a y z A.sound (rw e at w.0) (rw e at (ap (λ (r : Reply). r.code) (sym (step_says H C.0)) ∙ c)) (map (λ k. k.event) l) w.1)
  where
    w : AllWords (map (λ k. k.event) (k ∷ l))
    w = chain_words m (k ∷ l) C

    H : Holds m (view_in m)
    H = record { accepted = A; view = refl }

-- after each of them
pub chain_broken : (m : Memory) → SoundIn m → (l : List Link) → Chain m l → BrokenOnCode l
chain_broken m A [] C = tt
chain_broken m A (k ∷ l) C = (λ x a y z e c. stays_broken_on_code m A k l C x a y z e c, chain_broken k.left (C.0.accepted A) l C.1)

-- ---- nothing else breaks a wait off

damage_not_broken : (v : View) → number (breach v).code ≢ number E-RLWAI
unfolding number tells_damage
damage_not_broken v h = false≢true (sym (ap in_damage h) ∙ breach_tells v)

-- whatever the memory holds
pub never_answered_on_code : {e : Event} {m : Memory} {r : Reply} {new : Memory} → Step e m r new → r.code ≢ number E-RLWAI
never_answered_on_code {e} {m} {r} S h = damage_not_broken (view_in m) (sym (ap (λ (q : Reply). q.code) damaged) ∙ h)
  where
    damaged : r ≡ unsound m
    damaged = S.refuses (λ A. never_answered (view_in m) e (own_number _ E-RLWAI (ap (λ (q : Reply). q.code) (sym (S.answers A)) ∙ h)))

pub chain_only_rel_wai : (m : Memory) → SoundIn m → (l : List Link) → Chain m l → OnlyRelWaiOnCode m l
chain_only_rel_wai m A [] C = tt
chain_only_rel_wai m A (k ∷ l) C = (
  never_answered_on_code C.0,
  (λ i. rw (C.0.shows A, C.0.answers A) (only_rel_wai (view_in m) k.event i)),
  chain_only_rel_wai k.left (C.0.accepted A) l C.1,
)
