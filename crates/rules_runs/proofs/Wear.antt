-- Even wear: an event grants the first of the free blocks of a pool or none of them, and a returned one goes last. So a block that stands before
-- another in the line is granted before it. Assumes nothing.
use mathlib.Core.Bool.{Bool, true, false, not, cond, ◌&&◌, false≢true}
use mathlib.Core.List.{List, [], ◌∷◌, ◌++◌, append-nil}
use mathlib.Core.Logic.{◌⊎◌, inl, inr, ◌≢◌}
use mathlib.Core.Path.{◌≡◌, refl, sym, ap, ◌∙◌, subst}
use Prim.Native.Nat.{ℕ, suc, ◌+◌, ◌≤◌, ◌<◌}
use native.Mathlib.Decide.{ℕ_discrete}
use native.Mathlib.Omega.{arith}
use lib.Dec.{eqb}
use lib.ListN.{length}
use borrow.Author.Tests.{eqb-true, eq-eqb}
use Rattle.rules.specs.Ids.{of, In, keep, once, times}
use Rattle.rules.specs.Codes.{number}
use Rattle.rules.specs.State.{pool}
use Rattle.rules.specs.Setup.{got, setup, Setup}
use Rattle.rules.specs.Places.{free_in, a_block, population, belongs}
use Rattle.rules.specs.Events.{Event, Words, AllWords}
use Rattle.rules.specs.Acts.{mark, move}
use Rattle.rules.specs.View.{View, line, moved, acts}
use Rattle.rules.specs.Verdicts.{Verdict}
use Rattle.rules.specs.Table.{judge}
use Rattle.rules.specs.Answers.{answer}
use Rattle.rules.specs.Sound.{Sound}
use Rattle.rules.specs.Kernel.{Outcome, fresh, next, served, event}
use Rattle.rules.specs.Plain.{Plain, number_of, view_of, plain_answer}
use Rattle.rules_runs.specs.Order.{Ordered}
use Rattle.rules_runs.specs.Demand3.{happened}
use Rattle.rules.specs.Blocks.{is_free, Happened, taken, returned, granted, gave_back, grants}
use Rattle.rules_runs.specs.Wear.{happening, history, NoneGranted, Turn, stays, returns_last, grants_first, ReturnedFree, FreeBlock, GrantedBefore, WornEvenly, LongestFree}
use Rattle.rules.proofs.Ids.{times_append, times_head, times_tail, keep_all, absent_leaves}
use Rattle.rules.proofs.Sizes.{SameSizes, sizes_afters}
use Rattle.rules.proofs.Waits.{both_true}
use Rattle.rules.proofs.Lines.{line_act}
use Rattle.rules.proofs.Queues.{stands_known, mark_there, stands_free}
use Rattle.rules.proofs.Cells.{body_acts}
use Rattle.rules_runs.proofs.Fresh.{mark_line}
use Rattle.rules.proofs.Events.{event_served, event_next, sound_event, fresh_sound}
use Rattle.rules_runs.proofs.Rising.{one_line, first_least}
use Rattle.rules.proofs.Agree.{Numbers, line_view_of, next_shows, same_answer}
use Rattle.rules.proofs.Ways.{OutBlock}
use Rattle.rules.proofs.Blocks.{Deal, nothing, grant, free, hand, event_deal, Balance, event_balance, release_unmoved}

-- ---- a line that one leaves or joins

-- it stays, its first leaves it, or one more comes last
abbrev Shifts : List ℕ → List ℕ → Type 0
Shifts l m = (m ≡ l) ⊎ (((k : ℕ) × (l ≡ k ∷ m)) ⊎ ((k : ℕ) × (m ≡ l ++ k ∷ [])))

first_leaves : (j : ℕ) (m : List ℕ) → times j (j ∷ m) ≤ 1 → keep (λ i. not (eqb j i)) (j ∷ m) ≡ m
unfolding keep times
first_leaves j m h = rw (eq-eqb j j refl) (absent_leaves j m (omega (arith, h, ap once (eq-eqb j j refl))))

-- ---- what an event makes of the line of the free blocks of pool p

module _ (v : View) (s : Sound v) (p : ℕ) (rp : In p (length v.body.store.pools)) where
  granted_shifts : (q j : ℕ) (m : List ℕ) → line v (free_in q) ≡ j ∷ m → Shifts (line v (free_in p)) (line (acts (mark q j false ∷ []) v) (free_in p))
  unfolding acts move moved
  granted_shifts q j m e = subst (Shifts (line v (free_in p))) (sym (line_act (mark q j false) v (free_in p) rp)) (go (eqb q p) refl)
    where
      first : eqb q p ≡ true → line v (free_in p) ≡ j ∷ m
      first d = subst (λ (n : ℕ). line v (free_in n) ≡ j ∷ m) (eqb-true q p d) e

      go : (t : Bool) → eqb q p ≡ t → Shifts (line v (free_in p)) (keep (λ i. not (t && eqb j i)) (line v (free_in p)))
      go true d = inr (inl (j, first d ∙ ap (λ (l : List ℕ). j ∷ l) (sym (first_leaves j m (subst (λ (l : List ℕ). times j l ≤ 1) (first d) ((one_line v s).once (free_in p) rp j)))) ∙ rw (first d)))
      go false d = inl (keep_all _)

  freed_shifts : (q j : ℕ) → OutBlock v.body q j → Shifts (line v (free_in p)) (line (acts (mark q j true ∷ []) v) (free_in p))
  unfolding acts
  freed_shifts q j b = subst (Shifts (line v (free_in p))) (sym (mark_line p q j v rp absent)) (go (eqb q p))
    where
      absent : eqb q p ≡ true → In j (length (of v.body.store.pools p [])) × (times j (line v (free_in p)) ≡ 0)
      absent d =
          let h : OutBlock v.body p j = subst (λ (n : ℕ). OutBlock v.body n j) (eqb-true q p d) b in
          (h.block, stands_free v s p j rp h.block ∙ ap once h.out)

      go : (t : Bool) → Shifts (line v (free_in p)) (line v (free_in p) ++ cond t (j ∷ []) [])
      go true = inr (inr (j, refl))
      go false = inl (append-nil _)

  deal_shifts : (e : Event) (r : Verdict) → Deal v e r → Shifts (line v (free_in p)) (line (acts r.acts v) (free_in p))
  deal_shifts e r (nothing w t g h) = inl (h.unmoved v p rp)
  deal_shifts e r (grant q j m t g i l) = granted_shifts q j m l
  deal_shifts e r (free q j t g b) = freed_shifts q j b
  deal_shifts e r (hand q j i t g b w) = inl (release_unmoved i _ j v p rp)

-- a block that is returned exists and was out
deal_out : (v : View) (e : Event) (r : Verdict) → Deal v e r → (p k : ℕ) → returned e (number r.code) p k ≡ true → OutBlock v.body p k
deal_out v e r (nothing w t g h) p k d = absurd (false≢true (sym (g p k) ∙ d))
deal_out v e r (grant q j m t g i l) p k d = absurd (false≢true (sym (g p k) ∙ d))
deal_out v e r (free q j t g b) p k d = let w = both_true (eqb q p) (eqb j k) (sym (g p k) ∙ d) in rw (← eqb-true q p w.0, ← eqb-true j k w.1) b
deal_out v e r (hand q j i t g b w) p k d = let w = both_true (eqb q p) (eqb j k) (sym (g p k) ∙ d) in rw (← eqb-true q p w.0, ← eqb-true j k w.1) b

once_some : (t : Bool) → once t ≢ 0 → t ≡ true
once_some true n = refl
once_some false n = absurd (n refl)

once_most : (t : Bool) → once t ≤ 1
once_most true = omega arith
once_most false = omega arith

-- where a block stands, and what is granted and returned of it: x and y are its marks, l and m how often it stands in the line, before and after
record Tally (l m given back : ℕ) : Type 0 where
  kept : l ≢ 0 → m ≢ 0 → given ≡ 0
  left : l ≢ 0 → m ≡ 0 → given ≡ 1
  came : l ≡ 0 → m ≢ 0 → back ≡ 1

tally : (x y : Bool) (l m given back : ℕ) → l ≡ once x → m ≡ once y → once (not x) + given ≡ once (not y) + back → back ≤ 1 → (back ≡ 0) ⊎ (x ≡ false) → Tally l m given back
tally true y l m given back a b e u (inr d) = absurd (false≢true (sym d))
tally true true l m given back a b e u (inl d) = record { kept = λ n o. omega arith; left = λ n o. absurd (omega arith); came = λ n o. absurd (omega arith) }
tally true false l m given back a b e u (inl d) = record { kept = λ n o. absurd (o b); left = λ n o. omega arith; came = λ n o. absurd (omega arith) }
tally false true l m given back a b e u h = record { kept = λ n o. absurd (n a); left = λ n o. absurd (n a); came = λ n o. omega arith }
tally false false l m given back a b e u h = record { kept = λ n o. absurd (n a); left = λ n o. absurd (n a); came = λ n o. absurd (o b) }

module _ (v : View) (s : Sound v) (e : Event) (w : Words e) where
  abbrev after_it : View
  after_it = (event v e).next

  abbrev it : Happened
  it = happening v e

  same_sizes : SameSizes v.body after_it.body
  unfolding next
  same_sizes = rw (event_next v e s, body_acts (judge v e).acts v) (sizes_afters (judge v e).acts v.body)

  returned_out : (p k : ℕ) → gave_back it p k ≢ 0 → OutBlock v.body p k
  unfolding gave_back served answer
  returned_out p k n = deal_out v e (judge v e) (event_deal v s e) p k (once_some _ (rw (event_served v e s) at n))

  module _ (p : ℕ) (rp : In p (length v.body.store.pools)) where
    shifts : Shifts (line v (free_in p)) (line after_it (free_in p))
    unfolding next
    shifts = rw (event_next v e s) (deal_shifts v s p rp e (judge v e) (event_deal v s e))

    rp' : In p (length after_it.body.store.pools)
    rp' = rw (same_sizes.objects pool) rp

    balance : (k : ℕ) → In k (length (of v.body.store.pools p []))
        → once (not (is_free v.body p k)) + granted it p k ≡ once (not (is_free after_it.body p k)) + gave_back it p k
    unfolding gave_back granted served
    balance k rk =
        subst (λ (o : Outcome). Balance v.body o.next.body (taken e (number o.answer.code) o.answer.w1 p k) (returned e (number o.answer.code) p k) p k)
        (sym (event_served v e s)) (event_balance v s e p k rp rk)

    block_tally : (k : ℕ) → In k (length (of v.body.store.pools p [])) → Tally (times k (line v (free_in p))) (times k (line after_it (free_in p))) (granted it p k) (gave_back it p k)
    unfolding gave_back
    block_tally k rk =
        tally (is_free v.body p k) (is_free after_it.body p k) _ _ _ _ (stands_free v s p k rp rk) (stands_free after_it (sound_event v e s w) p k rp' (rw (same_sizes.blocks p) rk))
        (balance k rk) (once_most (returned e it.code p k)) (elim (ℕ_discrete (gave_back it p k) 0) [ yes d ↦ inl d | no d ↦ inr (returned_out p k d).out ])

    -- who stands in the line exists
    known : (k : ℕ) → times k (line v (free_in p)) ≢ 0 → In k (length (of v.body.store.pools p []))
    unfolding population
    known k t = stands_known v s (free_in p) rp k t

    known' : (k : ℕ) → times k (line after_it (free_in p)) ≢ 0 → In k (length (of v.body.store.pools p []))
    unfolding population
    known' k t = rw (same_sizes.blocks p) at (stands_known after_it (sound_event v e s w) (free_in p) rp' k t)

    stays_ungranted : (j : ℕ) → times j (line v (free_in p)) ≢ 0 → times j (line after_it (free_in p)) ≢ 0 → granted it p j ≡ 0
    stays_ungranted j t u = (block_tally j (known j t)).kept t u

    -- What every event on a sound state makes of the line.
    pub event_turn : Turn it p (line v (free_in p)) (line after_it (free_in p))
    unfolding times
    event_turn = elim shifts [
      | inl d ↦ stays (λ j t. stays_ungranted j t (rw d t)) d
      | inr (inl (k, d)) ↦ grants_first k (gone k d) (λ j t. stays_ungranted j (rw d (times_tail k j (line after_it (free_in p)) t)) t) d
      | inr (inr (k, d)) ↦ returns_last k (come k d) (λ j t. stays_ungranted j t (before_last j k d t)) d
    ]
      where
        gone : (k : ℕ) → line v (free_in p) ≡ k ∷ line after_it (free_in p) → granted it p k ≡ 1
        gone k d =
            let t : times k (line v (free_in p)) ≢ 0 = rw d (times_head k (line after_it (free_in p))) in
            (block_tally k (known k t)).left t
            (omega (arith, subst (λ (l : List ℕ). times k l ≤ 1) d ((one_line v s).once (free_in p) rp k), ap once (eq-eqb k k refl)))

        before_last : (j k : ℕ) → line after_it (free_in p) ≡ line v (free_in p) ++ k ∷ [] → times j (line v (free_in p)) ≢ 0 → times j (line after_it (free_in p)) ≢ 0
        before_last j k d t = rw (d, times_append j (line v (free_in p)) (k ∷ [])) (λ z. t (omega (arith, z)))

        come : (k : ℕ) → line after_it (free_in p) ≡ line v (free_in p) ++ k ∷ [] → gave_back it p k ≡ 1
        come k d =
            let c : times k (line after_it (free_in p)) ≡ times k (line v (free_in p)) + times k (k ∷ []) = ap (times k) d ∙ times_append k (line v (free_in p)) (k ∷ []) in
            let o : times k (line after_it (free_in p)) ≤ 1 = (one_line after_it (sound_event v e s w)).once (free_in p) rp' k in
            let n : times k (k ∷ []) ≡ 1 = rw (eq-eqb k k refl) in
            let t : times k (line after_it (free_in p)) ≢ 0 = λ z. omega (arith, c, n, z) in
            (block_tally k (known' k t)).came (omega (arith, c, n, o)) t

-- ---- a run

-- j stands in the line, and k behind it
abbrev Ahead : ℕ → ℕ → List ℕ → Type 0
Ahead j k [] = ⊥
Ahead j k (x ∷ l) = ((x ≡ j) × (times k l ≢ 0)) ⊎ Ahead j k l

ahead_stands : (j k : ℕ) (l : List ℕ) → Ahead j k l → times k l ≢ 0
ahead_stands j k [] h = elim h [ ]
ahead_stands j k (x ∷ l) (inl h) = times_tail x k l h.1
ahead_stands j k (x ∷ l) (inr h) = times_tail x k l (ahead_stands j k l h)

ahead_more : (j k x : ℕ) (l : List ℕ) → Ahead j k l → Ahead j k (l ++ x ∷ [])
ahead_more j k x [] h = elim h [ ]
ahead_more j k x (y ∷ l) (inl h) = inl (h.0, rw (times_append k l (x ∷ [])) (λ z. h.1 (omega (arith, z))))
ahead_more j k x (y ∷ l) (inr h) = inr (ahead_more j k x l h)

-- whoever stands in the line stands before one that comes last
ahead_last : (j k : ℕ) (l : List ℕ) → times j l ≢ 0 → Ahead j k (l ++ k ∷ [])
unfolding times
ahead_last j k [] t = absurd (t refl)
ahead_last j k (x ∷ l) t = go (eqb x j) refl (λ n. ahead_last j k l n)
  where
    go : (b : Bool) → eqb x j ≡ b → (times j l ≢ 0 → Ahead j k (l ++ k ∷ [])) → Ahead j k (x ∷ (l ++ k ∷ []))
    go true d h = inl (eqb-true x j d, rw (times_append k l (k ∷ [])) (λ z. times_head k [] (omega (arith, z))))
    go false d h = inr (h (λ z. t (omega (arith, z, ap once d))))

-- an event grants j, or leaves it ahead of k; it does not grant k
ahead_turn : (h : Happened) (p j k : ℕ) (l m : List ℕ) → Turn h p l m → Ahead j k l → (granted h p k ≡ 0) × ((granted h p j ≡ 1) ⊎ Ahead j k m)
ahead_turn h p j k l m (stays n d) a = (n k (ahead_stands j k l a), inr (rw d a))
ahead_turn h p j k l m (returns_last x g n d) a = (n k (ahead_stands j k l a), inr (rw d (ahead_more j k x l a)))
ahead_turn h p j k l m (grants_first x g n d) a = go (subst (Ahead j k) d a)
  where
    go : Ahead j k (x ∷ m) → (granted h p k ≡ 0) × ((granted h p j ≡ 1) ⊎ Ahead j k m)
    go (inl b) = (n k b.1, inl (subst (λ (i : ℕ). granted h p i ≡ 1) b.0 g))
    go (inr b) = (n k (ahead_stands j k m b), inr b)

-- lists of events, taken apart
abbrev head_or : Happened → List Happened → Happened
head_or d [] = d
head_or d (h ∷ l) = h

abbrev tail : List Happened → List Happened
tail [] = []
tail (h ∷ l) = l

-- nobody is granted in an empty run
none_happened : (p j k : ℕ) → GrantedBefore p j k []
none_happened p j k [] rest h e n = let d : 0 ≡ suc (length rest) = ap (λ (l : List Happened). length l) e in absurd (omega (arith, d))
none_happened p j k (x ∷ between) rest h e n = let d : 0 ≡ suc (length (between ++ h ∷ rest)) = ap (λ (l : List Happened). length l) e in absurd (omega (arith, d))

one_more : (g : Happened) (l : List Happened) (p j k : ℕ) → granted g p k ≡ 0 → (granted g p j ≡ 1) ⊎ GrantedBefore p j k l → GrantedBefore p j k (g ∷ l)
unfolding grants
one_more g l p j k n a [] rest h e m = absurd (m (subst (λ (x : Happened). granted x p k ≡ 0) (ap (head_or g) e) n))
one_more g l p j k n a (x ∷ between) rest h e m = go a
  where
    same : g ≡ x
    same = ap (head_or g) e

    go : (granted g p j ≡ 1) ⊎ GrantedBefore p j k l → granted x p j + grants between p j ≢ 0
    go (inl d) = λ z. omega (arith, z, subst (λ (y : Happened). granted y p j ≡ 1) same d)
    go (inr b) = λ z. b between rest h (ap tail e) m (omega (arith, z))

-- as long as j stands ahead of k
ahead_run : (v : View) (l : List Event) (p j k : ℕ) → Sound v → AllWords l → In p (length v.body.store.pools) → Ahead j k (line v (free_in p)) → GrantedBefore p j k (history v l)
ahead_run v [] p j k s w r a = none_happened p j k
ahead_run v (e ∷ l) p j k s w r a =
    let t = ahead_turn (happening v e) p j k _ _ (event_turn v s e w.0 p r) a in
    one_more (happening v e) (history (event v e).next l) p j k t.0
    (elim t.1 [ inl d ↦ inl d | inr b ↦ inr (ahead_run (event v e).next l p j k (sound_event v e s w.0) w.1 (rp' v s e w.0 p r) b) ])

-- a return to the free ones puts the block behind all that are free
return_behind : (v : View) (s : Sound v) (e : Event) (w : Words e) (p k : ℕ) → ReturnedFree (happening v e) p k → (j : ℕ) → FreeBlock v.body p j → Ahead j k (line (event v e).next (free_in p))
unfolding times
return_behind v s e w p k r j f = go (event_turn v s e w p f.0)
  where
    was_out : OutBlock v.body p k
    was_out = returned_out v s e w p k r.0

    -- it did not stand in the line, and now it does
    absent : times k (line v (free_in p)) ≡ 0
    absent = stands_free v s p k f.0 was_out.block ∙ ap once was_out.out

    present : times k (line (event v e).next (free_in p)) ≡ 1
    present = stands_free (event v e).next (sound_event v e s w) p k (rp' v s e w p f.0) (rw ((same_sizes v s e w).blocks p) was_out.block) ∙ ap once r.1

    stands : times j (line v (free_in p)) ≡ 1
    stands = stands_free v s p j f.0 f.1 ∙ ap once f.2

    is_last : (x : ℕ) → line (event v e).next (free_in p) ≡ line v (free_in p) ++ x ∷ [] → x ≡ k
    is_last x d = side (eqb x k) refl
      where
        side : (t : Bool) → eqb x k ≡ t → x ≡ k
        side true c = eqb-true x k c
        side false c = absurd (omega (arith, absent, present, ap (times k) d ∙ times_append k (line v (free_in p)) (x ∷ []), ap once c))

    go : Turn (happening v e) p (line v (free_in p)) (line (event v e).next (free_in p)) → Ahead j k (line (event v e).next (free_in p))
    go (stays n d) = absurd (omega (arith, absent, present, ap (times k) d))
    go (returns_last x g n d) = rw d (subst (λ (i : ℕ). Ahead j k (line v (free_in p) ++ i ∷ [])) (sym (is_last x d)) (ahead_last j k (line v (free_in p)) (λ z. omega (arith, stands, z))))
    go (grants_first x g n d) = absurd (omega (arith, absent, present, ap (times k) d))

-- Along every run from a sound state: at each return of a block to the free ones, every block of the pool that was free then is granted before
-- it is granted again.
pub worn_evenly : (v : View) → Sound v → (l : List Event) → AllWords l → WornEvenly (history v l)
worn_evenly v s [] w = tt
worn_evenly v s (e ∷ l) w = (
  (λ p k r j f. ahead_run (event v e).next l p j k (sound_event v e s w.0) w.1 (rp' v s e w.0 p f.0) (return_behind v s e w.0 p k r j f)),
  worn_evenly (event v e).next (sound_event v e s w.0) l w.1,
)

-- so from every fresh start
pub fresh_worn_evenly : (s : List ℕ) (u : Setup) (i : ℕ) → setup s ≡ got u i → (l : List Event) → AllWords l → WornEvenly (history (fresh u) l)
fresh_worn_evenly s u i e l w = worn_evenly (fresh u) (fresh_sound s u i e) l w

-- ---- in the plain kernel's terms

plain_happens : (s : Plain) (e : Event) → Numbers s → Sound (view_of s) → happening (view_of s) e ≡ happened s e
unfolding view_of
plain_happens s e n g = λ z. record {
  event = e;
  code = number (says z).code;
  w1 = (says z).w1;
  before = s.body;
  after = ((event_next (view_of s) e g ∙ sym (next_shows s e n)) z).body;
}
  where
    says : (event (view_of s) e).answer ≡ plain_answer s e
    says = ap (λ (o : Outcome). o.answer) (event_served (view_of s) e g) ∙ sym (same_answer s e n)

pub longest_free : (s : Plain) (e : Event) → Numbers s → Ordered s → Sound (view_of s) → Words e → LongestFree s e
unfolding view_of belongs times
longest_free s e n o g w p k f t j h d = go (event_turn (view_of s) g e w p f.0)
  where
    stands : times k (line (view_of s) (free_in p)) ≢ 0
    stands = λ z. omega (arith, z, stands_free (view_of s) g p k f.0 f.1 ∙ ap once f.2)

    granted_now : granted (happening (view_of s) e) p k ≢ 0
    granted_now = rw (plain_happens s e n g) t

    free_too : of (of s.body.store.pools p []) j false ≡ true
    free_too = mark_there (of s.body.store.pools p []) j h.1 ∙ h.2

    is_first : (x : ℕ) (m : List ℕ) → NoneGranted (happening (view_of s) e) p m → line (view_of s) (free_in p) ≡ x ∷ m → x ≡ k
    is_first x m c q = side (eqb x k) refl
      where
        side : (y : Bool) → eqb x k ≡ y → x ≡ k
        side true b = eqb-true x k b
        side false b = absurd (granted_now (c k (λ z. stands (ap (times k) q ∙ rw (b, z)))))

    go : Turn (happening (view_of s) e) p (line (view_of s) (free_in p)) (line (event (view_of s) e).next (free_in p)) → number_of s (a_block p k) < number_of s (a_block p j)
    go (stays c q) = absurd (granted_now (c k stands))
    go (returns_last x r c q) = absurd (granted_now (c k stands))
    go (grants_first x r c q) = first_least s o (free_in p) k (line (event (view_of s) e).next (free_in p)) (sym (line_view_of s (free_in p) f.0) ∙ q ∙ ap (λ (i : ℕ). i ∷ line (event (view_of s) e).next (free_in p)) (is_first x _ c q)) j free_too d
