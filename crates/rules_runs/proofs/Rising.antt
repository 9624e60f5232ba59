-- In each line of the plain kernel numbers rise, each task and message stands in one line at most, and who runs follows from the two.
use mathlib.Core.Bool.{Bool, true, false, cond, not, false≢true}
use mathlib.Core.List.{List, [], ◌∷◌, ◌++◌, map}
use mathlib.Core.Logic.{◌⊎◌, inl, inr, ◌≢◌}
use mathlib.Core.Option.{Option, none, some}
use mathlib.Core.Path.{◌≡◌, refl, sym, ap, ◌∙◌, subst}
use Prim.Native.Nat.{ℕ, zero, suc, ◌+◌, ◌≤◌, ◌<◌}
use native.Mathlib.Decide.{ℕ_discrete, dec_lt}
use native.Mathlib.Omega.{arith}
use lib.Dec.{eqb}
use lib.ListN.{length}
use borrow.Author.Tests.{eqb-true, eq-eqb, ne_eqb, not-true}
use Rattle.rules.specs.Ids.{of, from, ids, In, keep, once, times, first}
use Rattle.rules.specs.State.{no_handler, Kind, Wait, asleep, timed, on, Body, task, wait_of, is_ready}
use Rattle.rules.specs.Places.{Place, ready_at, waiters, mail, free_in, Sort, tasks, messages, blocks, same_sort, sort_at, Item, a_task, item, same, population, many, belongs, waits_on, lies, Exists, tabulate}
use Rattle.rules.specs.Setup.{Setup}
use Rattle.rules.specs.Events.{Event}
use Rattle.rules.specs.Acts.{Act, after, Move, stay, leave, last, move}
use Rattle.rules.specs.View.{View, line, nonempty, running, alone, without, moved}
use Rattle.rules.specs.Table.{judge}
use Rattle.rules.specs.Sound.{Sound}
use Rattle.rules.specs.Kernel.{begins}
use Rattle.rules.specs.Plain.{Plain, number_of, queue_of, view_of, renumbered, plain_act, plain_acts, unstarted, plain_fresh, plain_next}
use Rattle.rules_runs.specs.Order.{Rising, Ordered, OneLine, Ready, Before, HeadRuns, WhoRuns}
use Rattle.rules.proofs.Ids.{Each, times_append, times_keep, has_keep, kept_passes, times_ids, times_head, times_tail}
use Rattle.rules.proofs.Fits.{population_after, in_range_lem}
use Rattle.rules.proofs.Sorting.{all_has, times_by_number}
use Rattle.rules.proofs.States.{there_by, waits_by, waiting_tells}
use Rattle.rules.proofs.Waits.{both_true, waits_asks}
use Rattle.rules.proofs.Queues.{stands_known, stands_belongs}
use Rattle.rules.proofs.Agree.{Numbers, numbers_act, numbers_unstarted, number_body, number_other, number_new, queue_act, queue_unstarted}

-- ---- lists whose numbers rise

rising_keep : (f : ℕ → ℕ) (p : ℕ → Bool) (l : List ℕ) → Rising f l → Rising f (keep p l)
unfolding keep
rising_keep f p [] h = tt
rising_keep f p (x ∷ l) h = go (p x) (rising_keep f p l h.1)
  where
    go : (t : Bool) → Rising f (keep p l) → Rising f (cond t (x ∷ keep p l) (keep p l))
    go true r = (λ y t. h.0 y (has_keep p l y t), r)
    go false r = r

-- numbers that agree on the members
rising_same : (f g : ℕ → ℕ) (l : List ℕ) → ((y : ℕ) → times y l ≢ 0 → g y ≡ f y) → Rising f l → Rising g l
rising_same f g [] e h = tt
rising_same f g (x ∷ l) e h = (
  λ y t. omega (arith, e x (times_head x l), e y (times_tail x y l t), h.0 y t),
  rising_same f g l (λ y t. e y (times_tail x y l t)) h.1,
)

rising_append : (f : ℕ → ℕ) (l m : List ℕ) → Rising f l → Rising f m → ((x y : ℕ) → times x l ≢ 0 → times y m ≢ 0 → f x < f y) → Rising f (l ++ m)
rising_append f [] m a b h = b
rising_append f (x ∷ l) m a b h = (λ y t. go y t (ℕ_discrete (times y l) 0), rising_append f l m a.1 b (λ z y s t. h z y (times_tail x z l s) t))
  where
    go : (y : ℕ) → times y (l ++ m) ≢ 0 → Dec (times y l ≡ 0) → f x < f y
    go y t (yes e) = h x y (times_head x l) (λ k. t (times_append y l m ∙ rw (e, k)))
    go y t (no e) = a.0 y e

-- ---- an act keeps the order

-- who stands alone is of the place's sort
alone_is : (x : Item) (q : Place) → Each (λ z. (same_sort x.sort (sort_at q) ≡ true) × (x.id ≡ z)) (alone x q)
alone_is x q = go (same_sort x.sort (sort_at q)) refl
  where
    go : (t : Bool) → same_sort x.sort (sort_at q) ≡ t → Each (λ z. (same_sort x.sort (sort_at q) ≡ true) × (x.id ≡ z)) (cond t (x.id ∷ []) [])
    go true e = ((e, refl), tt)
    go false e = tt

alone_rises : (f : ℕ → ℕ) (x : Item) (q : Place) → Rising f (alone x q)
unfolding times
alone_rises f x q = go (same_sort x.sort (sort_at q))
  where
    go : (t : Bool) → Rising f (cond t (x.id ∷ []) [])
    go true = (λ y t. absurd (t refl), tt)
    go false = tt

module _ (c : Body) (s : Plain) (h : Numbers s) (q : Place) (few : many c q ≡ many s.body q) where
  -- one that goes last has the largest number
  module _ (x : Item) where
    stayed : (l : List ℕ) (y : ℕ) → times y (without x q l) ≢ 0 → number_of (renumbered c (last x) s) (item q y) ≡ number_of s (item q y)
    stayed l y t = number_other c x s (item q y) (not-true _ (kept_passes (λ i. not (same x (item q i))) y l t))

    newest : (z : ℕ) → times z (keep (belongs c q) (alone x q)) ≢ 0 → number_of (renumbered c (last x) s) (item q z) ≡ s.count
    newest z t =
        let w : (same_sort x.sort (sort_at q) ≡ true) × (x.id ≡ z) = all_has _ (alone x q) (alone_is x q) z (has_keep (belongs c q) (alone x q) z t) in
        subst (λ (i : ℕ). number_of (renumbered c (last x) s) (item q i) ≡ s.count) w.1
        (number_new c s h x q w.0 (rw (← few) (in_range_lem c q x.id (subst (λ (i : ℕ). belongs c q i ≡ true) (sym w.1) (kept_passes (belongs c q) z (alone x q) t)))))

  rising_move : (m : Move) (l : List ℕ) → Rising (λ i. number_of s (item q i)) l → Rising (λ i. number_of (renumbered c m s) (item q i)) (moved c m q l)
  unfolding moved renumbered
  rising_move stay l r = rising_same _ _ l (λ y t. number_body c s (item q y)) r
  rising_move (leave x) l r = rising_same _ _ (without x q l) (λ y t. number_body c s (item q y)) (rising_keep _ _ l r)
  rising_move (last x) l r =
      rising_append _ (without x q l) (keep (belongs c q) (alone x q))
      (rising_same _ _ (without x q l) (stayed x l) (rising_keep _ _ l r)) (rising_keep _ (belongs c q) (alone x q) (alone_rises _ x q))
      (λ y z t n. omega (arith, stayed x l y t, newest x z n, h.below (item q y)))

pub ordered_act : (a : Act) (s : Plain) → Numbers s → Ordered s → Ordered (plain_act a s)
unfolding plain_act
ordered_act a s h o q =
    subst (λ (l : List ℕ). Rising (λ i. number_of (plain_act a s) (item q i)) l) (sym (queue_act a s h q))
    (rising_move (after a s.body) s h q (population_after a s.body (sort_at q)) (move s.body a) (queue_of s q) (o q))

pub ordered_acts : (l : List Act) (s : Plain) → Numbers s → Ordered s → Ordered (plain_acts l s)
unfolding plain_acts
ordered_acts [] s h o = o
ordered_acts (a ∷ l) s h o = ordered_acts l (plain_act a s) (numbers_act a s h) (ordered_act a s h o)

pub ordered_fresh : (u : Setup) → Ordered (plain_fresh u)
unfolding plain_fresh
ordered_fresh u = ordered_acts (begins u) (unstarted u) (numbers_unstarted u) (λ q. rw (queue_unstarted u q) tt)

pub ordered_next : (s : Plain) (e : Event) → Numbers s → Ordered s → Ordered (plain_next s e)
unfolding plain_next
ordered_next s e h o = ordered_acts (judge (view_of s) e).acts s h o

-- ---- each stands in one line at most

-- a task that belongs to a ready queue is READY or RUN, of that priority
ready_is : (b : Body) (p i : ℕ) → belongs b (ready_at p) i ≡ true → (is_ready (task b i).state ≡ true) × ((task b i).priority ≡ p)
unfolding belongs
ready_is b p i e =
    let h : (is_ready (task b i).state ≡ true) × (eqb (task b i).priority p ≡ true) = both_true (is_ready (task b i).state) (eqb (task b i).priority p) e in
    (h.0, eqb-true (task b i).priority p h.1)

-- the place follows from the state: where one of a sort can stand
abbrev wait_home : Option Wait → Place
wait_home none = ready_at 0
wait_home (some asleep) = ready_at 0
wait_home (some (timed t)) = ready_at 0
wait_home (some (on k o p m)) = waiters k o

abbrev mail_home : Option ℕ → Place
mail_home none = mail 0
mail_home (some m) = mail m

abbrev home : Body → Sort → ℕ → Place
home b tasks i = cond (is_ready (task b i).state) (ready_at (task b i).priority) (wait_home (wait_of (task b i).state))
home b messages j = mail_home (of b.store.messages j none)
home b (blocks p) k = free_in p

waits_home : (w : Option Wait) (k : Kind) (o : ℕ) → waits_on w k o ≡ true → wait_home w ≡ waiters k o
waits_home w k o e = ap wait_home (waits_asks w k o e).2

lies_home : (x : Option ℕ) (m : ℕ) → lies x m ≡ true → mail_home x ≡ mail m
lies_home none m e = absurd (false≢true e)
lies_home (some k) m e = ap mail (eqb-true k m e)

at_home : (b : Body) (q : Place) (i : ℕ) → belongs b q i ≡ true → home b (sort_at q) i ≡ q
unfolding belongs
at_home b (ready_at p) i e = rw ((ready_is b p i e).0, (ready_is b p i e).1)
at_home b (waiters k o) i e = rw (waiting_tells (task b i).state (waits_by (λ w. waits_on w k o) refl (task b i).state e)).0 (waits_home (wait_of (task b i).state) k o e)
at_home b (mail m) i e = lies_home (of b.store.messages i none) m e
at_home b (free_in p) i e = refl

pub one_place : (b : Body) (q r : Place) (i j : ℕ) → item q i ≡ item r j → belongs b q i ≡ true → belongs b r j ≡ true → q ≡ r
one_place b q r i j e f g = sym (at_home b q i f) ∙ ap (λ (x : Item). home b x.sort x.id) e ∙ at_home b r j g

stands_once : (v : View) → Sound v → (q : Place) → Exists v.body.store q → (i : ℕ) → times i (line v q) ≤ 1
stands_once v g q e i = go (ℕ_discrete (times i (line v q)) 0)
  where
    once_le : (b : Bool) → once b ≤ 1
    once_le true = omega arith
    once_le false = omega arith

    go : Dec (times i (line v q) ≡ 0) → times i (line v q) ≤ 1
    go (yes k) = omega arith
    go (no k) = rw ((g.queues q e).stands i (stands_known v g q e i k)) (once_le (belongs v.body q i))

pub one_line : (v : View) → Sound v → OneLine v
one_line v g = record {
  once = λ q e i. stands_once v g q e i;
  one = λ q r a b i j e s t. one_place v.body q r i j e (stands_belongs v g q a i s) (stands_belongs v g r b j t);
}

-- ---- the first nonempty list

-- of F k to F (k + n - 1), all are empty; or one is not, and those before it are
record Nowhere (F : ℕ → List ℕ) (k n : ℕ) (found : List ℕ) : Type 0 where
  empty : (p : ℕ) → k ≤ p → p < k + n → F p ≡ []
  none_found : found ≡ []

record Somewhere (F : ℕ → List ℕ) (k n : ℕ) (found : List ℕ) : Type 0 where
  place : ℕ
  head : ℕ
  tail : List ℕ
  holds : F place ≡ head ∷ tail
  before : (p : ℕ) → k ≤ p → p < place → F p ≡ []
  is_found : found ≡ head ∷ tail

nonempty_from : (F : ℕ → List ℕ) (k n : ℕ) → Nowhere F k n (nonempty (map F (from k n))) ⊎ Somewhere F k n (nonempty (map F (from k n)))
nonempty_from F k zero = inl (record { empty = λ p a b. absurd (omega arith); none_found = refl })
nonempty_from F k (suc n) = go (F k) refl (nonempty_from F (suc k) n)
  where
    at_first : {P : Type 0} (p : ℕ) → k ≤ p → (p ≡ k → P) → (suc k ≤ p → P) → P
    at_first p a f g = elim (ℕ_discrete p k) [ yes e ↦ f e | no e ↦ g (omega arith) ]

    go : (l : List ℕ) → F k ≡ l → Nowhere F (suc k) n (nonempty (map F (from (suc k) n))) ⊎ Somewhere F (suc k) n (nonempty (map F (from (suc k) n)))
        → Nowhere F k (suc n) (nonempty (l ∷ map F (from (suc k) n))) ⊎ Somewhere F k (suc n) (nonempty (l ∷ map F (from (suc k) n)))
    go [] e (inl h) = inl (record { empty = λ p a b. at_first p a (λ c. rw c e) (λ c. h.empty p c (omega arith)); none_found = h.none_found })
    go [] e (inr h) = inr (record {
      place = h.place;
      head = h.head;
      tail = h.tail;
      holds = h.holds;
      before = λ p a b. at_first p a (λ c. rw c e) (λ c. h.before p c b);
      is_found = h.is_found;
    })
    go (x ∷ l) e h = inr (record {
      place = k;
      head = x;
      tail = l;
      holds = e;
      before = λ p a b. absurd (omega arith);
      is_found = refl;
    })

-- ---- who runs

-- whoever belongs to a queue of the plain kernel stands in it once, and nobody else does
pub times_queue : (s : Plain) (q : Place) (i : ℕ) → times i (queue_of s q) ≡ once (belongs s.body q i)
unfolding queue_of
times_queue s q i =
    times_by_number i (λ j. number_of s (item q j)) (keep (belongs s.body q) (ids (many s.body q))) ∙ times_keep i (belongs s.body q) (ids (many s.body q))
    ∙ go (belongs s.body q i) refl
  where
    go : (t : Bool) → belongs s.body q i ≡ t → cond t (times i (ids (many s.body q))) 0 ≡ once t
    go true e = times_ids i (many s.body q) (in_range_lem s.body q i e)
    go false e = refl

-- the first of a queue has the smallest number: of free blocks it is the one longest free
pub first_least : (s : Plain) → Ordered s → (q : Place) (x : ℕ) (m : List ℕ) → queue_of s q ≡ x ∷ m → (j : ℕ) → belongs s.body q j ≡ true → j ≢ x → number_of s (item q x) < number_of s (item q j)
unfolding times
first_least s o q x m e j b n =
    (subst (λ (l : List ℕ). Rising (λ i. number_of s (item q i)) l) e (o q)).0 j (λ k. absurd (omega (arith, sym (rw (e, ne_eqb x j (λ d. n (sym d)), k) at (times_queue s q j)) ∙ refl, ap once b)))

module _ (s : Plain) (g : Sound (view_of s)) (o : Ordered s) (z : s.body.handlers ≡ no_handler) where
  -- the ready queue of a priority
  abbrev queue : ℕ → List ℕ
  queue p = queue_of s (ready_at p)

  abbrev rank : ℕ → ℕ
  rank i = (task s.body i).priority

  ready_belongs : (j : ℕ) → Ready s j → belongs s.body (ready_at (rank j)) j ≡ true
  unfolding belongs
  ready_belongs j r = rw (r, eq-eqb (rank j) (rank j) refl)

  ready_stands : (j : ℕ) → Ready s j → times j (queue (rank j)) ≢ 0
  ready_stands j r e = go (sym e ∙ times_queue s (ready_at (rank j)) j ∙ ap once (ready_belongs j r))
    where
      go : ◌≡◌ {A = ℕ} 0 1 → ⊥
      go k = omega arith

  stands_ready : (p j : ℕ) → times j (queue p) ≢ 0 → Ready s j × (rank j ≡ p)
  stands_ready p j t = go (belongs s.body (ready_at p) j) refl (times_queue s (ready_at p) j)
    where
      go : (b : Bool) → belongs s.body (ready_at p) j ≡ b → times j (queue p) ≡ once b → Ready s j × (rank j ≡ p)
      go true e k = ready_is s.body p j e
      go false e k = absurd (t k)

  ready_id : (j : ℕ) → Ready s j → In j (length s.body.tasks)
  unfolding population
  ready_id j r = in_range_lem s.body (ready_at (rank j)) j (ready_belongs j r)

  ready_rank : (j : ℕ) → Ready s j → In (rank j) s.body.store.priorities
  unfolding view_of
  ready_rank j r = (g.body.tasks j (ready_id j r)).priority (there_by is_ready refl (task s.body j).state r)

  abbrev found : List ℕ
  found = nonempty (map queue (from 1 s.body.store.priorities))

  runs_found : running (view_of s) ≡ first found
  unfolding running view_of tabulate ids
  runs_found = rw z

  -- a queue in which a READY or RUN task stands is not empty
  not_empty : (j : ℕ) → Ready s j → queue (rank j) ≡ [] → ⊥
  unfolding times
  not_empty j r e = ready_stands j r (rw e)

  module _ (h : Nowhere queue 1 s.body.store.priorities found) where
    none_ready : (j : ℕ) → Ready s j → ⊥
    none_ready j r = not_empty j r (h.empty (rank j) (ready_rank j r).0 (omega (arith, (ready_rank j r).1)))

    none_runs : running (view_of s) ≡ 0
    none_runs = runs_found ∙ ap (λ (l : List ℕ). first l) h.none_found

  module _ (h : Somewhere queue 1 s.body.store.priorities found) where
    head_runs : running (view_of s) ≡ h.head
    head_runs = runs_found ∙ ap (λ (l : List ℕ). first l) h.is_found

    head_ready : Ready s h.head × (rank h.head ≡ h.place)
    head_ready = stands_ready h.place h.head (rw h.holds (times_head h.head h.tail))

    -- the others of its queue have larger numbers
    behind : (j : ℕ) → Ready s j → rank j ≡ h.place → j ≢ h.head → number_of s (a_task h.head) < number_of s (a_task j)
    unfolding times
    behind j r e n =
        (subst (λ (l : List ℕ). Rising (λ i. number_of s (a_task i)) l) h.holds (o (ready_at h.place))).0 j
        (λ k. ready_stands j r (rw (e, h.holds, ne_eqb h.head j (λ d. n (sym d)), k)))

    head_least : (j : ℕ) → Ready s j → Before s j h.head → ⊥
    head_least j r (inl a) = not_empty j r (h.before (rank j) (ready_rank j r).0 (omega (arith, head_ready.1)))
    head_least j r (inr a) = go (ℕ_discrete j h.head)
      where
        go : Dec (j ≡ h.head) → ⊥
        go (yes e) = omega (arith, a.1, ap (λ (k : ℕ). number_of s (a_task k)) e)
        go (no e) = omega (arith, behind j r (a.0 ∙ head_ready.1) e, a.1)

    least_head : (r : ℕ) → Ready s r → ((j : ℕ) → Ready s j → Before s j r → ⊥) → h.head ≡ r
    least_head r k f = go (ℕ_discrete r h.head) (dec_lt (rank r) h.place) (dec_lt h.place (rank r))
      where
        go : Dec (r ≡ h.head) → Dec (rank r < h.place) → Dec (h.place < rank r) → h.head ≡ r
        go (yes e) b c = sym e
        go (no e) (yes b) c = absurd (not_empty r k (h.before (rank r) (ready_rank r k).0 b))
        go (no e) (no b) (yes c) = absurd (f h.head head_ready.0 (inl (omega (arith, head_ready.1))))
        go (no e) (no b) (no c) =
            absurd (f h.head head_ready.0 (inr (omega (arith, head_ready.1), behind r k (omega arith) e)))

pub who_runs : (s : Plain) → Sound (view_of s) → Ordered s → WhoRuns s
who_runs s g o out = go (nonempty_from (queue s g o out) 1 s.body.store.priorities)
  where
    unready : (i : ℕ) → (Ready s i → ⊥) → is_ready (task s.body i).state ≡ false
    unready i h = side (is_ready (task s.body i).state) h
      where
        side : (t : Bool) → (t ≡ true → ⊥) → t ≡ false
        side true k = absurd (k refl)
        side false k = refl

    go : Nowhere (queue s g o out) 1 s.body.store.priorities (found s g o out) ⊎ Somewhere (queue s g o out) 1 s.body.store.priorities (found s g o out) → HeadRuns s
    go (inl h) = record {
      somebody = λ r. (λ e. absurd (e.0 (sym e.1 ∙ none_runs s g o out h)), λ e. absurd (none_ready s g o out h r e.0));
      nobody = (λ e j. unready j (none_ready s g o out h j), λ e. none_runs s g o out h);
    }
    go (inr h) = record {
      somebody = λ r. (
        λ e. let k : h.head ≡ r = sym (head_runs s g o out h) ∙ e.1 in (rw (← k) (head_ready s g o out h).0, λ j a b. head_least s g o out h j a (rw k b)),
        λ e. (λ z. omega (arith, (ready_id s g o out r e.0).0), head_runs s g o out h ∙ least_head s g o out h r e.0 e.1),
      );
      nobody = (λ e j. absurd (omega (arith, (ready_id s g o out h.head (head_ready s g o out h).0).0, e, head_runs s g o out h)), λ e. absurd (false≢true (sym (e h.head) ∙ (head_ready s g o out h).0)));
    }
