-- How many waiters set_flg looks at: as many as the walk that ends at the first clearing does; at most 31 in task context, where the caller
-- is no waiter, and 32 from a handler. For every sound state.
use mathlib.Core.Bool.{Bool, true, false, cond, not, false≢true}
use mathlib.Core.List.{List, [], ◌∷◌, ◌++◌}
use mathlib.Core.Logic.{◌⊎◌, inl, inr, ◌≢◌}
use mathlib.Core.Option.{some}
use mathlib.Core.Path.{◌≡◌, refl, sym, ap, ◌∙◌, subst}
use Prim.Native.Nat.{ℕ, zero, suc, ◌+◌, ◌≤◌}
use native.Mathlib.Omega.{arith}
use lib.Bits.{bit_or}
use lib.Dec.{eqb}
use lib.IntN.{ℤ, pos}
use lib.ListN.{length}
use borrow.Author.Tests.{eqb-true, eqb-false, eq-eqb, ne_eqb}
use Rattle.rules.specs.Ids.{In, keep, once, times, place}
use Rattle.rules.specs.Codes.{Code, OK}
use Rattle.rules.specs.State.{Kind, flag, State, dormant, ready, suspended, waiting, waiting_suspended, absent, Body, task, nobody, objects, is_ready}
use Rattle.rules.specs.Places.{waiters, population, belongs, awaits}
use Rattle.rules.specs.Events.{call, nat, bits}
use Rattle.rules.specs.Acts.{Act, release, pattern}
use Rattle.rules.specs.View.{View, line}
use Rattle.rules.specs.Verdicts.{Verdict}
use Rattle.rules.specs.Objects.{pattern_of, meets, asks_clear, cleared_by, place_or_length, looks, serve_flag, set_flg}
use Rattle.rules.specs.FlagWalk.{serve_until_clear, looked_at, Releasing, Looks}
use Rattle.rules.specs.Rows.{both, set_flg_row}
use Rattle.rules.specs.Table.{misplaced, handler, caller, handles, judge}
use Rattle.rules.specs.Answers.{answer}
use Rattle.rules.specs.Sound.{Known, Sound}
use Rattle.rules.specs.Kernel.{served, event}
use Rattle.rules.proofs.Ids.{tested, times_keep, kept_passes, times_head}
use Rattle.rules.proofs.Waits.{in_by}
use Rattle.rules.proofs.Judge.{bad}
use Rattle.rules.proofs.Handling.{caller_ready}
use Rattle.rules.proofs.FlagWalk.{pattern_alone, walk_stops, by_set_flg}
use Rattle.rules.proofs.Events.{event_served}

-- ---- the place, or the length, is how many the shorter walk looks at

first_place : (x : ℕ) (l : List ℕ) → place x (x ∷ l) ≡ 1
first_place x l = rw (eq-eqb x x refl)

later_place : (x y : ℕ) (l : List ℕ) → x ≢ y → place y (x ∷ l) ≡ suc (place y l)
later_place x y l n = rw (ne_eqb x y n)

module _ (b : Body) (have : ℕ) where
  pub looks_counted : (l : List ℕ) → looks b have l ≡ looked_at b have l
  unfolding looks keep
  looks_counted [] = refl
  looks_counted (x ∷ l) = go (cleared_by b have x) refl (keep (cleared_by b have) l) refl (looks_counted l)
    where
      go : (t : Bool) → cleared_by b have x ≡ t → (k : List ℕ) → keep (cleared_by b have) l ≡ k → place_or_length k l ≡ looked_at b have l
          → place_or_length (cond t (x ∷ k) k) (x ∷ l) ≡ suc (cond t 0 (looked_at b have l))
      go true e k f h = first_place x l
      go false e [] f h = ap suc h
      go false e (y ∷ k) f h = later_place x y l other ∙ ap suc h
        where
          other : x ≢ y
          other d =
              false≢true (sym e ∙ ap (cleared_by b have) d
              ∙ kept_passes (cleared_by b have) y l (subst (λ (m : List ℕ). times y m ≢ 0) (sym f) (times_head y k)))

  looked_few : (l : List ℕ) → looked_at b have l ≤ length l
  looked_few [] = omega arith
  looked_few (x ∷ l) = go (cleared_by b have x) (looked_few l)
    where
      go : (t : Bool) → looked_at b have l ≤ length l → suc (cond t 0 (looked_at b have l)) ≤ suc (length l)
      go true h = omega arith
      go false h = omega arith

  -- no more than there are
  pub looks_few : (l : List ℕ) → looks b have l ≤ length l
  looks_few l = rw (looks_counted l) (looked_few l)

-- ---- by the acts of the shorter walk

-- whoever is released with clearing stands at the last place looked at
module _ (b : Body) (f have i : ℕ) (c : Code) (w : ℕ) (after : List Act) (k : asks_clear b i ≡ true) where
  abbrev Releases : List Act → List Act → Type 0
  Releases m before = m ≡ before ++ release i c w ∷ after

  abbrev LastLooked : List ℕ → Type 0
  LastLooked l = (looked_at b have l ≡ place i l) × (meets b have i ≡ true)

  last_later : (x : ℕ) (l : List ℕ) → x ≢ i → cleared_by b have x ≡ false → LastLooked l → LastLooked (x ∷ l)
  last_later x l n d h = (rw (d, ne_eqb x i n) (ap suc h.0), h.1)

  cleared_place : (l : List ℕ) (before : List Act) → Releases (serve_until_clear b f have l) before → LastLooked l
  cleared_place [] before e = absurd (pattern_alone b f i c w after have before e)
  cleared_place (x ∷ l) before e = go (meets b have x) (asks_clear b x) refl refl before e (λ before e. cleared_place l before e)
    where
      rest : List Act
      rest = serve_until_clear b f have l

      go : (s t : Bool) → meets b have x ≡ s → asks_clear b x ≡ t → (before : List Act) → Releases (serve_until_clear b f have (x ∷ l)) before
          → ((before : List Act) → Releases rest before → LastLooked l) → LastLooked (x ∷ l)
      go true true p q [] e h =
          let g = rw (p, q) at e in
          let r : x ≡ i = cc in
          (rw (p, q, eq-eqb x i r), ap (meets b have) (sym r) ∙ p)
      go true true p q (a ∷ before) e h =
          let g = rw (p, q) at e in
          let r : Releases (pattern f 0 ∷ []) before = cc in
          absurd (pattern_alone b f i c w after 0 before r)
      go true false p q [] e h =
          let g = rw (p, q) at e in
          let r : x ≡ i = cc in
          absurd (false≢true (sym q ∙ ap (asks_clear b) r ∙ k))
      go true false p q (a ∷ before) e h =
          let g = rw (p, q) at e in
          let r : Releases rest before = cc in
          last_later x l (λ d. false≢true (sym q ∙ ap (asks_clear b) d ∙ k)) (rw (p, q)) (h before r)
      go false t p q before e h =
          let r = h before (rw p at e) in
          last_later x l (λ d. false≢true (sym p ∙ ap (meets b have) d ∙ r.1)) (rw p) r

module _ (b : Body) (f have : ℕ) where
  -- somebody is released with clearing, or all are looked at
  abbrev ClearedOrAll : List ℕ → Type 0
  ClearedOrAll l = ((i : ℕ) × Releasing (serve_until_clear b f have l) i × (asks_clear b i ≡ true)) ⊎ (looked_at b have l ≡ length l)

  cleared_or_all : (l : List ℕ) → ClearedOrAll l
  cleared_or_all [] = inr refl
  cleared_or_all (x ∷ l) = go (meets b have x) (asks_clear b x) refl refl (cleared_or_all l)
    where
      go : (s t : Bool) → meets b have x ≡ s → asks_clear b x ≡ t → ClearedOrAll l → ClearedOrAll (x ∷ l)
      go true true p q h = inl (x, ([], pattern f 0 ∷ [], OK, have, rw (p, q)), q)
      go true false p q (inl (i, (before, after, c, w, e), k)) =
          inl (i, (release x OK have ∷ before, after, c, w, rw (p, q) (ap (λ (m : List Act). release x OK have ∷ m) e)), k)
      go false t p q (inl (i, (before, after, c, w, e), k)) = inl (i, (before, after, c, w, rw p e), k)
      go true false p q (inr e) = inr (rw (p, q) (ap suc e))
      go false t p q (inr e) = inr (rw p (ap suc e))

-- ---- how many can stand in a line

-- the others, and x as often as it stands there
length_split : (x : ℕ) (l : List ℕ) → length l ≡ times x l + length (keep (λ i. not (eqb i x)) l)
unfolding times keep
length_split x [] = refl
length_split x (y ∷ l) = go (eqb y x) (length_split x l)
  where
    rest : List ℕ
    rest = keep (λ i. not (eqb i x)) l

    go : (t : Bool) → length l ≡ times x l + length rest → suc (length l) ≡ once t + times x l + length (cond (not t) (y ∷ rest) rest)
    go true h = omega arith
    go false h = omega arith

known_others : (n : ℕ) (l : List ℕ) → Known (suc n) l → Known n (keep (λ i. not (eqb i (suc n))) l)
unfolding keep
known_others n [] h = tt
known_others n (x ∷ l) h = go (eqb x (suc n)) refl (known_others n l h.1)
  where
    rest : List ℕ
    rest = keep (λ i. not (eqb i (suc n))) l

    go : (t : Bool) → eqb x (suc n) ≡ t → Known n rest → Known n (cond (not t) (x ∷ rest) rest)
    go true e k = k
    go false e k = ((h.0.0, omega (arith, h.0.1, eqb-false x (suc n) e)), k)

-- where each of n stands once at most, no more than n stand
few_stand : (n : ℕ) (l : List ℕ) → Known n l → ((i : ℕ) → In i n → times i l ≤ 1) → length l ≤ n
few_stand zero [] k h = omega arith
few_stand zero (x ∷ l) k h = absurd (omega (arith, k.0.0, k.0.1))
few_stand (suc n) l k h =
    let r = few_stand n (keep (λ i. not (eqb i (suc n))) l) (known_others n l k) (λ i r. fewer i (h i (r.0, omega (arith, r.1)))) in
    omega (arith, length_split (suc n) l, h (suc n) (omega arith, omega arith), r)
  where
    fewer : (i : ℕ) → times i l ≤ 1 → times i (keep (λ j. not (eqb j (suc n))) l) ≤ 1
    fewer i r = rw (times_keep i (λ j. not (eqb j (suc n))) l) (go (not (eqb i (suc n))))
      where
        go : (t : Bool) → cond t (times i l) 0 ≤ 1
        go true = r
        go false = omega arith

once_few : (t : Bool) → once t ≤ 1
once_few true = omega arith
once_few false = omega arith

ready_waits : (s : State) (k : Kind) (o : ℕ) → is_ready s ≡ true → awaits s k o ≡ false
ready_waits dormant k o e = refl
ready_waits absent k o e = refl
ready_waits ready k o e = refl
ready_waits suspended k o e = refl
ready_waits (waiting w) k o e = absurd (false≢true e)
ready_waits (waiting_suspended w) k o e = absurd (false≢true e)

module _ (v : View) (s : Sound v) (k : Kind) (o : ℕ) (r : In o (objects v.body.store k)) where
  abbrev queue : List ℕ
  queue = line v (waiters k o)

  abbrev n : ℕ
  n = length v.body.tasks

  known : Known n queue
  unfolding population
  known = (s.queues (waiters k o) r).known

  stands : (i : ℕ) → In i n → times i queue ≡ once (awaits (task v.body i).state k o)
  unfolding population belongs
  stands i t = (s.queues (waiters k o) r).stands i t

  once_each : (i : ℕ) → In i n → times i queue ≤ 1
  once_each i t = rw (stands i t) (once_few (awaits (task v.body i).state k o))

  -- there are 32 tasks at most
  waiters_few : length queue ≤ 32
  waiters_few = omega (arith, few_stand n queue known once_each, s.body.sizes.tasks.1)

  -- a READY or RUN task is no waiter, so one less can wait
  waiters_fewer : (j : ℕ) → is_ready (task v.body j).state ≡ true → length queue ≤ 31
  unfolding times
  waiters_fewer j e = omega (arith, few_stand n (j ∷ queue) (there, known) each, s.body.sizes.tasks.1)
    where
      there : In j n
      there = tested (λ t. is_ready t.state) v.body.tasks j nobody refl e

      each : (i : ℕ) → In i n → times i (j ∷ queue) ≤ 1
      each i t = go (eqb j i) refl
        where
          go : (u : Bool) → eqb j i ≡ u → once u + times i queue ≤ 1
          go true d = rw (stands i t, ← eqb-true j i d, ready_waits (task v.body j).state k o e) (omega arith)
          go false d = omega (arith, once_each i t)

-- ---- every set_flg

module _ (v : View) (s : Sound v) (x a b c : ℤ) where
  abbrev have : ℕ
  have = bit_or (pattern_of v a) (bits b)

  abbrev wait_line : List ℕ
  wait_line = line v (waiters flag (nat a))

  abbrev There : Type 0
  There = In (nat a) (objects v.body.store flag)

  rule_looks : There → Looks v.body wait_line (set_flg v a b).acts (set_flg v a b).w1
  unfolding set_flg
  rule_looks r = record { clearing = at_clearing; none = at_none }
    where
      short : serve_flag v.body (nat a) have wait_line ≡ serve_until_clear v.body (nat a) have wait_line
      short = walk_stops v s (nat a) r have

      whole : List Act
      whole = serve_flag v.body (nat a) have wait_line

      at_clearing : (i : ℕ) → Releasing whole i → asks_clear v.body i ≡ true → looks v.body have wait_line ≡ place i wait_line
      at_clearing i h k =
          looks_counted v.body have wait_line ∙ (cleared_place v.body (nat a) have i h.2 h.3 h.1 k wait_line h.0 (sym short ∙ h.4)).0

      at_none : ((i : ℕ) → Releasing whole i → asks_clear v.body i ≡ false) → looks v.body have wait_line ≡ length wait_line
      at_none h = looks_counted v.body have wait_line ∙ elim (cleared_or_all v.body (nat a) have wait_line) [
        | inl z ↦ absurd (false≢true (sym (h z.0 (subst (λ (l : List Act). Releasing l z.0) (sym short) z.1)) ∙ z.2))
        | inr e ↦ e
      ]

  abbrev verdict : Verdict
  verdict = judge v (call x (pos 16) a b c)

  -- w1 is the place in the queue, before the call, of the waiter released with clearing, or the whole queue's length if there is none
  pub looks_by_acts : verdict.code ≡ OK → Looks v.body wait_line verdict.acts verdict.w1
  unfolding set_flg_row bad
  looks_by_acts =
      by_set_flg (λ r. r.code ≡ OK → Looks v.body wait_line r.acts r.w1) (λ d e k. absurd (false≢true (ap bad (sym k) ∙ e)))
      v x a b c (λ h o t k. rule_looks (in_by a _ t.words.0))

  rule_few : (n : ℕ) → length wait_line ≤ n → (set_flg v a b).w1 ≤ n
  unfolding set_flg
  rule_few n h = omega (arith, looks_few v.body have wait_line, h)

  judge_most : verdict.w1 ≤ 32
  unfolding set_flg_row
  judge_most =
      by_set_flg (λ r. r.w1 ≤ 32) (λ d e. omega arith) v x a b c
      (λ h o t. rule_few 32 (waiters_few v s flag (nat a) (in_by a _ t.words.0)))

  judge_from_task : x ≡ pos 0 → verdict.w1 ≤ 31
  unfolding set_flg_row
  judge_from_task e =
      by_set_flg (λ r. r.w1 ≤ 31) (λ d e. omega arith) v x a b c
      (λ h o t. rule_few 31 (waiters_fewer v s flag (nat a) (in_by a _ t.words.0) (caller v h) (calls h (sym (ap handler e) ∙ o) t.context)))
    where
      calls : (h : Bool) → some false ≡ some h → misplaced both (handles v h) (caller v h) ≡ false → is_ready (task v.body (caller v h)).state ≡ true
      calls false d k = caller_ready v false k s
      calls true d k = absurd (false≢true cc)

-- set_flg looks at no more than 32 waiters, and in task context at no more than 31
pub looks_at_most : (v : View) → Sound v → (x a b c : ℤ) → (event v (call x (pos 16) a b c)).answer.w1 ≤ 32
unfolding served answer
looks_at_most v s x a b c = rw (event_served v (call x (pos 16) a b c) s) (judge_most v s x a b c)

pub looks_from_task : (v : View) → Sound v → (a b c : ℤ) → (event v (call (pos 0) (pos 16) a b c)).answer.w1 ≤ 31
unfolding served answer
looks_from_task v s a b c = rw (event_served v (call (pos 0) (pos 16) a b c) s) (judge_from_task v s (pos 0) a b c refl)
