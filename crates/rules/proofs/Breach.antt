-- What `breach` tells: the first rule broken, and the smallest id at which it is; and that there is one exactly if the state is not sound.
-- A list of rules is taken rule by rule, a rule id by id. Assumes nothing.
use mathlib.Core.Bool.{Bool, true, false, cond, ◌||◌, false≢true}
use mathlib.Core.List.{List, [], ◌∷◌}
use mathlib.Core.Logic.{◌⊎◌, inl, inr, ◌≢◌, ◌↔◌}
use mathlib.Core.Option.{Option, none, some}
use mathlib.Core.Path.{◌≡◌, refl, sym, ap, ◌∙◌, subst}
use Prim.Native.Nat.{ℕ, zero, suc, ◌+◌, ◌≤◌, ◌<◌}
use native.Mathlib.Decide.{dec_lt}
use native.Mathlib.Omega.{arith}
use lib.Dec.{eqb}
use lib.IntN.{ℤ}
use lib.ListN.{length, get_or}
use borrow.Author.Tests.{eqb-true, eqb-false, ne_eqb}
use Rattle.rules.specs.Ids.{of, from, ids, In, once, times}
use Rattle.rules.specs.Codes.{tells_damage, H-NUMBER, H-QUEUE, H-SERVED, H-TWICE, H-FREE}
use Rattle.rules.specs.State.{semaphore, flag, mailbox, pool, Wait, asleep, timed, on, Body, task, wait_of}
use Rattle.rules.specs.Places.{Place, ready_at, waiters, mail, free_in, population, many, belongs, lies, line_at, Exists}
use Rattle.rules.specs.Events.{Event}
use Rattle.rules.specs.View.{View, line}
use Rattle.rules.specs.Answers.{answer}
use Rattle.rules.specs.Sound.{WaitNumbers, any_lies, Unserved, Queue, Sound}
use Rattle.rules.specs.Check.{sound?}
use Rattle.rules.specs.Breach.{Breach, breach_at, Ranged, ranged?, of_tasks, InPlace, some?, served_beside, Alone, held, HeldOnce, Listed, Rule, is_yes, rules_of, first_bad, unless, first_of, breach_by, breach, BrokenAt, Kept, AllKept, First, MarksFit, Named, by_number, by_rule, by_mark}
use Rattle.rules.specs.Kernel.{served, damaged, guarded, event, guarded_cell, cell}
use Rattle.rules.proofs.Queues.{empty_line_belongs, first_belongs}
use Rattle.rules.proofs.Waiters.{nowhere_lies}
use Rattle.rules.proofs.Events.{event_damaged}
use Rattle.rules.proofs.Clean.{judge_not_damage}

-- ---- the first id

-- the test passes everywhere and 0 is found, or it fails at i and passes below
abbrev Found : (ℕ → Bool) → ℕ → ℕ → ℕ → Type 0
Found f k n i =
    (((j : ℕ) → k ≤ j → j < k + n → f j ≡ true) × (i ≡ 0))
    ⊎ ((k ≤ i) × (i < k + n) × (f i ≡ false) × ((j : ℕ) → k ≤ j → j < i → f j ≡ true))

found : (f : ℕ → Bool) (k n : ℕ) → Found f k n (first_bad f (from k n))
unfolding first_bad
found f k zero = inl (λ j a b. absurd (omega arith), refl)
found f k (suc n) = go (f k) refl (first_bad f (from (suc k) n)) (found f (suc k) n)
  where
    below : (j : ℕ) → k ≤ j → f k ≡ true → (suc k ≤ j → f j ≡ true) → f j ≡ true
    below j a e h = side (eqb k j) refl
      where
        side : (t : Bool) → eqb k j ≡ t → f j ≡ true
        side true d = rw (← eqb-true k j d) e
        side false d = h (omega (arith, eqb-false k j d))

    go : (t : Bool) → f k ≡ t → (i : ℕ) → Found f (suc k) n i → Found f k (suc n) (cond t i k)
    go true e i (inl h) = inl (λ j a b. below j a e (λ c. h.0 j c (omega arith)), h.1)
    go true e i (inr h) = inr (omega (arith, h.0), omega (arith, h.1), h.2, λ j a b. below j a e (λ c. h.3 j c b))
    go false e i h = inr (omega arith, omega arith, e, λ j a b. absurd (omega arith))

is_true : {A : Type 0} (d : Dec A) → A → is_yes d ≡ true
is_true (yes a) h = refl
is_true (no k) h = absurd (k h)

yes_by : {A : Type 0} (d : Dec A) → is_yes d ≡ true → A
yes_by (yes a) e = a
yes_by (no k) e = absurd (false≢true e)

module _ (r : Rule) where
  -- the rule is kept and 0 is found, or i is the smallest id at which it is broken
  abbrev Tried : ℕ → Type 0
  Tried i = (Kept r.count r.Keeps × (i ≡ 0)) ⊎ BrokenAt r.count r.Keeps i

  bad_id : ℕ
  bad_id = first_bad (λ i. is_yes (r.keeps? i)) (ids r.count)

  tried : Tried bad_id
  unfolding bad_id ids
  tried = elim (found (λ i. is_yes (r.keeps? i)) 1 r.count) [
    | inl h ↦ inl (λ i b. yes_by (r.keeps? i) (h.0 i b.0 (omega (arith, b.1))), h.1)
    | inr h ↦ inr (record {
      there = (h.0, omega (arith, h.1));
      fails = λ k. false≢true (sym h.2 ∙ is_true (r.keeps? _) k);
      least = λ j a b. yes_by (r.keeps? j) (h.3 j a b);
    })
  ]

  -- two ids that are both the first are one
  one_id : (i j : ℕ) → BrokenAt r.count r.Keeps i → BrokenAt r.count r.Keeps j → i ≡ j
  one_id i j a b = elim (dec_lt i j) [
    | yes l ↦ absurd (a.fails (b.least i a.there.0 l))
    | no n ↦ elim (dec_lt j i) [ yes l ↦ absurd (b.fails (a.least j b.there.0 l)) | no m ↦ omega (arith, n, m) ]
  ]

-- ---- the first rule

-- all are kept and the code without an id is told, or the first one broken is
first_told : (l : List Rule) → (AllKept l × (first_of l ≡ breach_at H-NUMBER 0)) ⊎ First l (first_of l)
unfolding first_of bad_id
first_told [] = inl (tt, refl)
first_told (r ∷ l) = go (bad_id r) (tried r) (first_of l) (first_told l)
  where
    go : (n : ℕ) → Tried r n → (x : Breach) → (AllKept l × (x ≡ breach_at H-NUMBER 0)) ⊎ First l x
        → (AllKept (r ∷ l) × (unless n r.code x ≡ breach_at H-NUMBER 0)) ⊎ First (r ∷ l) (unless n r.code x)
    go zero (inl k) x (inl h) = inl ((k.0, h.0), h.1)
    go zero (inl k) x (inr h) = inr (inr (k.0, h))
    go zero (inr b) x h = absurd (omega (arith, b.there.0))
    go (suc n) (inl k) x h = absurd (omega (arith, k.1))
    go (suc n) (inr b) x h = inr (inl (refl, b))

-- nothing else is the first
first_only : (l : List Rule) (x : Breach) → First l x → first_of l ≡ x
unfolding first_of bad_id
first_only [] x h = elim h [ ]
first_only (r ∷ l) x h = go (bad_id r) (tried r) h (λ f. first_only l x f)
  where
    go : (n : ℕ) → Tried r n → First (r ∷ l) x → (First l x → first_of l ≡ x) → unless n r.code (first_of l) ≡ x
    go zero (inl k) (inl h) g = absurd (h.1.fails (k.0 x.id h.1.there))
    go zero (inl k) (inr h) g = g h.1
    go zero (inr b) h g = absurd (omega (arith, b.there.0))
    go (suc n) (inl k) h g = absurd (omega (arith, k.1))
    go (suc n) (inr b) (inl h) g = λ z. record { code = sym h.0 z; id = one_id r (suc n) x.id b h.1 z }
    go (suc n) (inr b) (inr h) g = absurd (b.fails (h.0 (suc n) b.there))

-- and the rules are not all kept
first_broken_lem : (l : List Rule) (x : Breach) → First l x → AllKept l → ⊥
first_broken_lem [] x h k = elim h [ ]
first_broken_lem (r ∷ l) x (inl h) k = h.1.fails (k.0 x.id h.1.there)
first_broken_lem (r ∷ l) x (inr h) k = first_broken_lem l x h.1 k.1

-- ---- what a state is told as

-- a number out of range comes first
pub breach_number : (v : View) → (Ranged v → ⊥) → breach v ≡ breach_at H-NUMBER 0
unfolding breach breach_by
breach_number v h = go (ranged? v)
  where
    go : (d : Dec (Ranged v)) → breach_by v d ≡ breach_at H-NUMBER 0
    go (yes r) = absurd (h r)
    go (no k) = refl

in_order : (v : View) → Ranged v → breach v ≡ first_of (rules_of v)
unfolding breach breach_by
in_order v h = go (ranged? v)
  where
    go : (d : Dec (Ranged v)) → breach_by v d ≡ first_of (rules_of v)
    go (yes r) = refl
    go (no k) = absurd (k h)

-- then the first rule broken is told, with the smallest id at which it is
pub breach_first : (v : View) → Ranged v → (AllKept (rules_of v) → ⊥) → First (rules_of v) (breach v)
breach_first v r h = elim (first_told (rules_of v)) [ inl k ↦ absurd (h k.0) | inr f ↦ rw (in_order v r) f ]

-- ---- code by code, in order

module _ (v : View) (r : Ranged v) where
  told_first : (x : Breach) → First (rules_of v) x → breach v ≡ x
  told_first x f = in_order v r ∙ first_only (rules_of v) x f

  told_kept : AllKept (rules_of v) → breach v ≡ breach_at H-NUMBER 0
  told_kept k = in_order v r ∙ elim (first_told (rules_of v)) [ inl h ↦ h.1 | inr f ↦ absurd (first_broken_lem (rules_of v) _ f k) ]

  pub told_queue : (i : ℕ) → BrokenAt (length v.body.tasks) (InPlace v) i → breach v ≡ breach_at H-QUEUE i
  unfolding rules_of
  told_queue i h = told_first (breach_at H-QUEUE i) (inl (refl, h))

  module _ (q : Kept (length v.body.tasks) (InPlace v)) where
    pub told_served : (i : ℕ) → BrokenAt (length v.body.tasks) (Alone v) i → breach v ≡ breach_at H-SERVED i
    unfolding rules_of
    told_served i h = told_first (breach_at H-SERVED i) (inr (q, inl (refl, h)))

    module _ (s : Kept (length v.body.tasks) (Alone v)) where
      pub told_twice : (j : ℕ) → BrokenAt (length v.body.store.messages) (HeldOnce v) j → breach v ≡ breach_at H-TWICE j
      unfolding rules_of
      told_twice j h = told_first (breach_at H-TWICE j) (inr (q, inr (s, inl (refl, h))))

      module _ (t : Kept (length v.body.store.messages) (HeldOnce v)) where
        pub told_free : (p : ℕ) → BrokenAt (length v.body.store.pools) (Listed v) p → breach v ≡ breach_at H-FREE p
        unfolding rules_of
        told_free p h = told_first (breach_at H-FREE p) (inr (q, inr (s, inr (t, inl (refl, h)))))

        -- any breach but these, which no rule over the ids names
        pub told_rest : Kept (length v.body.store.pools) (Listed v) → breach v ≡ breach_at H-NUMBER 0
        unfolding rules_of
        told_rest f = told_kept (q, (s, (t, (f, tt))))

-- ---- a code of damage is told

abbrev Tells : List Rule → Type 0
Tells [] = Unit {0}
Tells (r ∷ l) = (tells_damage r.code ≡ true) × Tells l

tells_of : (l : List Rule) → Tells l → tells_damage (first_of l).code ≡ true
unfolding first_of tells_damage bad_id
tells_of [] h = refl
tells_of (r ∷ l) h = go (bad_id r) (tells_of l h.1)
  where
    go : (n : ℕ) → tells_damage (first_of l).code ≡ true → tells_damage (unless n r.code (first_of l)).code ≡ true
    go zero k = k
    go (suc i) k = h.0

pub breach_tells : (v : View) → tells_damage (breach v).code ≡ true
unfolding breach breach_by tells_damage rules_of
breach_tells v = go (ranged? v)
  where
    go : (d : Dec (Ranged v)) → tells_damage (breach_by v d).code ≡ true
    go (yes r) = tells_of (rules_of v) (refl, (refl, (refl, (refl, tt))))
    go (no k) = refl

-- ---- messages: by their marks, and by the lines

lies_any : (l : List (Option ℕ)) (j m : ℕ) → lies (of l j none) m ≡ true → any_lies l m ≡ true
lies_any l zero m e = absurd (false≢true e)
lies_any [] (suc j) m e = absurd (false≢true e)
lies_any (x ∷ l) (suc zero) m e = rw e
lies_any (x ∷ l) (suc (suc j)) m e = rw (lies_any l (suc j) m e) (go (lies x m))
  where
    go : (t : Bool) → (t || true) ≡ true
    go true = refl
    go false = refl

lies_apart : (x : Option ℕ) (m n : ℕ) → lies x m ≡ true → m ≢ n → lies x n ≡ false
lies_apart none m n e d = refl
lies_apart (some y) m n e d = ne_eqb y n (λ k. d (sym (eqb-true y m e) ∙ k))

held_none : (j : ℕ) (ls : List (List ℕ)) → ((i : ℕ) → i < length ls → times j (get_or ls i []) ≡ 0) → held j ls ≡ 0
unfolding held
held_none j [] h = refl
held_none j (l ∷ ls) h = omega (arith, h 0 (omega arith), held_none j ls (λ i r. h (suc i) (omega arith)))

held_in : (j : ℕ) (ls : List (List ℕ)) (i : ℕ) → times j (get_or ls i []) ≤ held j ls
unfolding held times
held_in j [] i = omega arith
held_in j (l ∷ ls) zero = omega arith
held_in j (l ∷ ls) (suc i) = omega (arith, held_in j ls i)

held_in_both : (j : ℕ) (ls : List (List ℕ)) (i k : ℕ) → i < k → times j (get_or ls i []) + times j (get_or ls k []) ≤ held j ls
unfolding held times
held_in_both j [] i k h = omega arith
held_in_both j (l ∷ ls) zero zero h = absurd (omega arith)
held_in_both j (l ∷ ls) zero (suc k) h = omega (arith, held_in j ls k)
held_in_both j (l ∷ ls) (suc i) zero h = absurd (omega arith)
held_in_both j (l ∷ ls) (suc i) (suc k) h = omega (arith, held_in_both j ls i k (omega arith))

-- held twice: twice in one mailbox, or in two
pub twice_in_one : (v : View) (j m : ℕ) → 2 ≤ times j (line v (mail m)) → HeldOnce v j → ⊥
unfolding line_at times
twice_in_one v j zero t h = omega arith
twice_in_one v j (suc m) t h = omega (arith, held_in j v.lines.mail m)

pub once_in_two : (v : View) (j m n : ℕ) → m < n → 1 ≤ times j (line v (mail m)) → 1 ≤ times j (line v (mail n)) → HeldOnce v j → ⊥
unfolding line_at times
once_in_two v j zero n e s t h = omega arith
once_in_two v j (suc m) zero e s t h = omega arith
once_in_two v j (suc m) (suc n) e s t h = omega (arith, held_in_both j v.lines.mail m n (omega arith))

-- a message that stands once, in the line of the mailbox that its mark names from k on
held_once : (j : ℕ) (x : Option ℕ) (k : ℕ) (ls : List (List ℕ)) → ((i : ℕ) → i < length ls → times j (get_or ls i []) ≡ once (lies x (k + i))) → held j ls ≤ 1
unfolding held
held_once j x k [] h = omega arith
held_once j x k (l ∷ ls) h = go (lies x k) refl (held_once j x (suc k) ls (λ i r. let e : k + suc i ≡ suc k + i = omega arith in h (suc i) (omega arith) ∙ ap (λ (n : ℕ). once (lies x n)) e))
  where
    at_first : times j l ≡ once (lies x k)
    at_first = let e : k + 0 ≡ k = omega arith in h 0 (omega arith) ∙ ap (λ (n : ℕ). once (lies x n)) e

    go : (t : Bool) → lies x k ≡ t → held j ls ≤ 1 → times j l + held j ls ≤ 1
    go true e n = let r : times j l ≡ 1 = at_first ∙ ap once e in
        omega (arith, r, held_none j ls (λ i b. h (suc i) (omega arith) ∙ ap once (lies_apart x k (k + suc i) e (λ d. omega arith))))
    go false e n = let r : times j l ≡ 0 = at_first ∙ ap once e in omega (arith, r, n)

-- ---- a sound state keeps the rules

in_tasks : (b : Body) (q : Place) (i : ℕ) → of_tasks q ≡ true → In i (length b.tasks) → In i (many b q)
unfolding population
in_tasks b (ready_at p) i e r = r
in_tasks b (waiters k o) i e r = r
in_tasks b (mail m) i e r = absurd (false≢true e)
in_tasks b (free_in p) i e r = absurd (false≢true e)

module _ (v : View) (s : Sound v) where
  sound_ranged : Ranged v
  sound_ranged = record { body = s.body; shape = s.shape; known = λ q e. (s.queues q e).known }

  unserved_beside : (w : Option Wait) → WaitNumbers v.body.store w → Unserved v.body.store w → served_beside v w ≡ false
  unfolding belongs
  unserved_beside none n e = refl
  unserved_beside (some asleep) n e = refl
  unserved_beside (some (timed t)) n e = refl
  unserved_beside (some (on semaphore o p m)) n e = e
  unserved_beside (some (on flag o p m)) n e = e
  unserved_beside (some (on mailbox o p m)) n e = go (line v (mail o)) refl
    where
      go : (l : List ℕ) → line v (mail o) ≡ l → some? l ≡ false
      go [] d = refl
      go (x ∷ l) d = absurd (false≢true (sym e ∙ lies_any v.body.store.messages x o (first_belongs v s (mail o) n.0 x l d)))
  unserved_beside (some (on pool o p m)) n e = e

  sound_held : Kept (length v.body.store.messages) (HeldOnce v)
  unfolding belongs line_at population
  sound_held j r =
      held_once j (of v.body.store.messages j none) 1 v.lines.mail
      (λ i b. let e : 1 + i ≡ suc i = omega arith in rw e ((s.queues (mail (suc i)) (omega arith, subst (λ (n : ℕ). suc i ≤ n) s.shape.mail b)).stands j r))

  sound_kept : AllKept (rules_of v)
  unfolding rules_of population
  sound_kept = (
    λ i r q e t. (s.queues q e).stands i (in_tasks v.body q i t r),
    (λ i r. unserved_beside (wait_of (task v.body i).state) (s.body.tasks i r).wait (s.unserved i r), (sound_held, (λ p r k i. (s.queues (free_in p) r).stands k i, tt))),
  )

  sound_marks : MarksFit v
  sound_marks m e j r = (s.queues (mail m) e).stands j r

-- ---- and a state that keeps them is sound

module _ (v : View) (r : Ranged v) (k : AllKept (rules_of v)) (f : MarksFit v) where
  queue : (q : Place) → Exists v.body.store q → Queue v.body q (line v q)
  unfolding rules_of population
  queue q e = record { known = r.known q e; stands = by q e }
    where
      by : (q : Place) → Exists v.body.store q → (i : ℕ) → In i (many v.body q) → times i (line v q) ≡ once (belongs v.body q i)
      by (ready_at p) e i n = k.0 i n (ready_at p) e refl
      by (waiters c o) e i n = k.0 i n (waiters c o) e refl
      by (mail m) e i n = f m e i n
      by (free_in p) e i n = k.1.1.1.0 p e i n

  beside_unserved : (w : Option Wait) → WaitNumbers v.body.store w → served_beside v w ≡ false → Unserved v.body.store w
  unfolding belongs
  beside_unserved none n e = tt
  beside_unserved (some asleep) n e = tt
  beside_unserved (some (timed t)) n e = tt
  beside_unserved (some (on semaphore o p m)) n e = e
  beside_unserved (some (on flag o p m)) n e = e
  beside_unserved (some (on mailbox o p m)) n e =
      nowhere_lies v.body.store.messages o (λ j. empty_line_belongs v.body (mail o) j (subst (Queue v.body (mail o)) (empty (line v (mail o)) e) (queue (mail o) n.0)))
    where
      empty : (l : List ℕ) → some? l ≡ false → l ≡ []
      empty [] d = refl
      empty (x ∷ l) d = absurd (false≢true (sym d))
  beside_unserved (some (on pool o p m)) n e = e

  rules_sound : Sound v
  unfolding rules_of
  rules_sound = record {
    body = r.body;
    shape = r.shape;
    queues = queue;
    unserved = λ i n. beside_unserved (wait_of (task v.body i).state) (r.body.tasks i n).wait (k.1.0 i n);
  }

-- The rules in order are those of a sound state, no more and no less.
pub sound_rules : (v : View) → Sound v ↔ (Ranged v × AllKept (rules_of v) × MarksFit v)
sound_rules v = (λ s. (sound_ranged v s, sound_kept v s, sound_marks v s), λ h. rules_sound v h.0 h.1 h.2)

-- ---- some rule is named exactly if the state is not sound

pub breach_names : (v : View) → (Sound v → ⊥) → Named v (breach v)
breach_names v h = go (ranged? v)
  where
    go : Dec (Ranged v) → Named v (breach v)
    go (no n) = rw (breach_number v n) (by_number n)
    go (yes r) = elim (first_told (rules_of v)) [
      | inl k ↦ rw (in_order v r, k.1) (by_mark r k.0 (λ f. h (rules_sound v r k.0 f)))
      | inr f ↦ rw (in_order v r) (by_rule _ r f)
    ]

named_told : (v : View) (x : Breach) → Named v x → (Sound v → ⊥) × (x ≡ breach v)
named_told v x (by_number n) = (λ s. n (sound_ranged v s), sym (breach_number v n))
named_told v x (by_rule y r f) = (λ s. first_broken_lem (rules_of v) y f (sound_kept v s), sym (told_first v r y f))
named_told v x (by_mark r k n) = (λ s. n (sound_marks v s), sym (told_kept v r k))

-- Some rule is named exactly if the state is not sound, and it is the one that is told.
pub breach_exactly : (v : View) (x : Breach) → Named v x ↔ ((Sound v → ⊥) × (x ≡ breach v))
breach_exactly v x = (named_told v x, λ h. subst (Named v) (sym h.1) (breach_names v h.0))

-- ---- what is read off a damaged state

-- An event gets a code of damage exactly if the state is not sound.
pub damage_exactly : (v : View) (e : Event) → (tells_damage (event v e).answer.code ≡ true) ↔ (Sound v → ⊥)
unfolding event guarded served damaged answer
damage_exactly v e = go (sound? v)
  where
    go : (d : Dec (Sound v)) → (tells_damage (guarded v e d).answer.code ≡ true) ↔ (Sound v → ⊥)
    go (yes s) = (λ t n. false≢true (sym (judge_not_damage v e) ∙ t), λ n. absurd (n s))
    go (no n) = (λ t. n, λ m. breach_tells v)

-- Code and w1 name the rule and the id; w2 is 0, the running task is given as 0, nobody is released and nothing changes.
pub event_tells : (v : View) (e : Event) → (Sound v → ⊥)
    → Named v (breach_at (event v e).answer.code (event v e).answer.w1)
    × ((event v e).answer.w2 ≡ 0) × ((event v e).answer.runs ≡ 0) × ((event v e).answer.released ≡ 0) × ((event v e).next ≡ v)
unfolding damaged
event_tells v e h = rw (event_damaged v e h) (breach_names v h, refl, refl, refl, refl)

-- A cell read gives the code with word 0.
pub cell_tells : (v : View) (a : ℤ) → (Sound v → ⊥) → ((cell v a).code ≡ (breach v).code) × ((cell v a).word ≡ 0)
unfolding cell guarded_cell
cell_tells v a h = go (sound? v)
  where
    go : (d : Dec (Sound v)) → ((guarded_cell v a d).code ≡ (breach v).code) × ((guarded_cell v a d).word ≡ 0)
    go (yes s) = absurd (h s)
    go (no n) = (refl, refl)
