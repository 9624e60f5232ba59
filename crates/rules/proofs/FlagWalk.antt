-- After a waiter released with clearing, set_flg releases nobody: the pattern is then 0 and nobody waits for an empty one. So the walk
-- that ends there does all that the whole walk does. For every sound state.
use mathlib.Core.Bool.{Bool, true, false, false≢true}
use mathlib.Core.List.{List, [], ◌∷◌, ◌++◌}
use mathlib.Core.Logic.{◌≢◌}
use mathlib.Core.Option.{Option, none, some}
use mathlib.Core.Path.{◌≡◌, refl, sym, ap, ◌∙◌, subst}
use Prim.Native.Nat.{ℕ}
use native.Mathlib.Omega.{arith}
use lib.IntN.{ℤ, pos}
use Rattle.rules.specs.Ids.{In, Each, times}
use Rattle.rules.specs.Codes.{Code, OK, H-CALL}
use Rattle.rules.specs.State.{flag, Body, task, objects, wait_of, wish}
use Rattle.rules.specs.Places.{waiters, population, belongs}
use Rattle.rules.specs.Events.{call, nat}
use Rattle.rules.specs.Acts.{Act, release, pattern}
use Rattle.rules.specs.View.{View, line}
use Rattle.rules.specs.Verdicts.{Verdict, refuse}
use Rattle.rules.specs.Objects.{serve_flag, meets, asks_clear, set_flg}
use Rattle.rules.specs.FlagWalk.{serve_until_clear, EndsAtClear}
use Rattle.rules.specs.Rows.{set_flg_row}
use Rattle.rules.specs.Table.{table, handler, caller, handles, looked_up, numbered, called, judge}
use Rattle.rules.specs.Sound.{WaitNumbers, Sound}
use Rattle.rules.proofs.Ids.{times_head, times_tail}
use Rattle.rules.proofs.Waits.{in_by, waits_asks}
use Rattle.rules.proofs.Judge.{bad, Passes, by_row}
use Rattle.rules.proofs.Queues.{stands_known, stands_belongs}
use Rattle.rules.proofs.Waiters.{met_zero}

-- ---- the two walks, over a list of waiters each of whom asks for something

module _ (b : Body) (f : ℕ) where
  abbrev Asking : List ℕ → Type 0
  Asking l = Each (λ x. (wish (wait_of (task b x).state)).0 ≢ 0) l

  -- an empty pattern releases nobody
  empty_serves : (l : List ℕ) → Asking l → serve_flag b f 0 l ≡ pattern f 0 ∷ []
  empty_serves [] h = refl
  empty_serves (x ∷ l) h = rw (met_zero _ (wish (wait_of (task b x).state)).1 h.0) (empty_serves l h.1)

  same_walk : (have : ℕ) (l : List ℕ) → Asking l → serve_flag b f have l ≡ serve_until_clear b f have l
  same_walk have [] h = refl
  same_walk have (x ∷ l) h = go (meets b have x) (asks_clear b x) refl refl (same_walk have l h.1)
    where
      go : (s t : Bool) → meets b have x ≡ s → asks_clear b x ≡ t → serve_flag b f have l ≡ serve_until_clear b f have l
          → serve_flag b f have (x ∷ l) ≡ serve_until_clear b f have (x ∷ l)
      go true true p q k = rw (p, q) (ap (λ (m : List Act). release x OK have ∷ m) (empty_serves l h.1))
      go true false p q k = rw (p, q) (ap (λ (m : List Act). release x OK have ∷ m) k)
      go false t p q k = rw p k

-- ---- what stands behind the release of i, if i asked for clearing

module _ (b : Body) (f i : ℕ) (d : Code) (w : ℕ) (after : List Act) where
  -- the acts release i, and then there are those after it
  abbrev Releases : List Act → List Act → Type 0
  Releases l before = l ≡ before ++ release i d w ∷ after

  -- the walk over nobody releases nobody
  pub pattern_alone : (n : ℕ) (before : List Act) → Releases (pattern f n ∷ []) before → ⊥
  pattern_alone n [] e = let z : ◌≡◌ {A = ℕ} 0 1 = cc in omega arith
  pattern_alone n (a ∷ []) e = let z : ◌≡◌ {A = ℕ} 0 1 = cc in omega arith
  pattern_alone n (a ∷ a' ∷ before) e = let z : ◌≡◌ {A = ℕ} 0 1 = cc in omega arith

  behind_clear : (have : ℕ) (l : List ℕ) (before : List Act) → Releases (serve_until_clear b f have l) before → asks_clear b i ≡ true
      → after ≡ pattern f 0 ∷ []
  behind_clear have [] before e c = absurd (pattern_alone have before e)
  behind_clear have (x ∷ l) before e c = go (meets b have x) (asks_clear b x) refl refl before e (λ before e. behind_clear have l before e c)
    where
      rest : List Act
      rest = serve_until_clear b f have l

      go : (s t : Bool) → meets b have x ≡ s → asks_clear b x ≡ t → (before : List Act) → Releases (serve_until_clear b f have (x ∷ l)) before
          → ((before : List Act) → Releases rest before → after ≡ pattern f 0 ∷ []) → after ≡ pattern f 0 ∷ []
      go true true p q [] e h = let g = rw (p, q) at e in cc
      go true true p q (a ∷ before) e h =
          let g = rw (p, q) at e in
          let r : Releases (pattern f 0 ∷ []) before = cc in
          absurd (pattern_alone 0 before r)
      go true false p q [] e h =
          let g = rw (p, q) at e in
          let r : x ≡ i = cc in
          absurd (false≢true (sym q ∙ ap (asks_clear b) r ∙ c))
      go true false p q (a ∷ before) e h = let g = rw (p, q) at e in let r : Releases rest before = cc in h before r
      go false t p q before e h = h before (rw p at e)

-- ---- on a sound state each waiter asks for something

each_by : (P : ℕ → Type 0) (l : List ℕ) → ((x : ℕ) → times x l ≢ 0 → P x) → Each P l
each_by P [] h = tt
each_by P (x ∷ l) h = (h x (times_head x l), each_by P l (λ y n. h y (times_tail x y l n)))

module _ (v : View) (s : Sound v) (f : ℕ) (r : In f (objects v.body.store flag)) where
  asking : Asking v.body f (line v (waiters flag f))
  unfolding population belongs
  asking = each_by _ (line v (waiters flag f)) asks
    where
      asks : (x : ℕ) → times x (line v (waiters flag f)) ≢ 0 → (wish (wait_of (task v.body x).state)).0 ≢ 0
      asks x n =
          let w = waits_asks (wait_of (task v.body x).state) flag f (stands_belongs v s (waiters flag f) r x n) in
          rw w.2 (subst (WaitNumbers v.body.store) w.2 (s.body.tasks x (stands_known v s (waiters flag f) r x n)).wait).1.0

  -- the walk may stop at the first clearing
  pub walk_stops : (have : ℕ)
      → serve_flag v.body f have (line v (waiters flag f)) ≡ serve_until_clear v.body f have (line v (waiters flag f))
  walk_stops have = same_walk v.body f have (line v (waiters flag f)) asking

-- ---- every set_flg, whatever its context and its words

-- what holds of a refusal, and of set_flg's rule where its row's tests have passed, holds of each verdict of call 16
module _ (P : Verdict → Type 0) (no_way : (c : Code) → bad c ≡ true → P (refuse c)) (v : View) (x a b c : ℤ) where
  pub by_set_flg : ((h : Bool) → handler x ≡ some h → Passes v (handles v h) (caller v h) (set_flg_row v a b) → P (set_flg v a b))
      → P (judge v (call x (pos 16) a b c))
  unfolding judge called numbered looked_up table set_flg_row bad
  by_set_flg rule = go (handler x) refl
    where
      go : (o : Option Bool) → handler x ≡ o → P (called v o (pos 16) a b c)
      go none e = no_way H-CALL refl
      go (some h) e = by_row (λ n r. P r) (λ n c e. no_way c e) v (handles v h) (caller v h) 16 (set_flg_row v a b) refl (rule h e)

nothing_ends : (b : Body) (f : ℕ) → EndsAtClear b f []
nothing_ends b f [] after i d w e = let z : ◌≡◌ {A = ℕ} 0 1 = cc in absurd (omega arith)
nothing_ends b f (a ∷ before) after i d w e = let z : ◌≡◌ {A = ℕ} 0 1 = cc in absurd (omega arith)

module _ (v : View) (s : Sound v) (a b : ℤ) where
  rule_ends : In (nat a) (objects v.body.store flag) → EndsAtClear v.body (nat a) (set_flg v a b).acts
  unfolding set_flg
  rule_ends r before after i d w e =
      behind_clear v.body (nat a) i d w after _ (line v (waiters flag (nat a))) before (sym (walk_stops v s (nat a) r _) ∙ e)

  -- after a waiter released with clearing, set_flg releases nobody
  pub clear_ends : (x c : ℤ) → EndsAtClear v.body (nat a) (judge v (call x (pos 16) a b c)).acts
  unfolding set_flg_row
  clear_ends x c =
      by_set_flg (λ r. EndsAtClear v.body (nat a) r.acts) (λ d e. nothing_ends v.body (nat a)) v x a b c
      (λ h o t. rule_ends (in_by a _ t.words.0))
