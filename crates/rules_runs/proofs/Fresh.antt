-- The fresh state: every block is free, and the free blocks of each pool stand in the order of their numbers. Assumes nothing.
use mathlib.Core.Bool.{Bool, true, false, not, cond, ◌&&◌}
use mathlib.Core.List.{List, [], ◌∷◌, ◌++◌, map, append-nil, append_assoc}
use mathlib.Core.Path.{◌≡◌, refl, sym, ap, ◌∙◌}
use Prim.Native.Nat.{ℕ, zero, suc, ◌+◌, ◌≤◌, ◌<◌}
use native.Mathlib.Omega.{arith}
use lib.Dec.{eqb}
use lib.ListN.{length, get_or, replicate, length-map, length-replicate}
use borrow.Author.Tests.{eqb-true, eq-eqb, ne_eqb}
use Rattle.rules.specs.Ids.{of, from, ids, In, keep, once, times}
use Rattle.rules.specs.State.{pool, Body}
use Rattle.rules.specs.Setup.{got, setup, Entry, Setup}
use Rattle.rules.specs.Places.{free_in, belongs, tabulate}
use Rattle.rules.specs.Acts.{Act, start, mark, move, after}
use Rattle.rules.specs.View.{View, line, moved, act, acts}
use Rattle.rules.specs.Kernel.{idle_counter, idle, frees, starts, begins, fresh}
use Rattle.rules.specs.Blocks.{is_free}
use Rattle.rules.proofs.Ids.{of_put_same, times_append, times_ids, keep_all, absent_leaves}
use Rattle.rules.proofs.Sizes.{SameSizes, sizes_after, sizes_afters}
use Rattle.rules.proofs.Fits.{marked}
use Rattle.rules.proofs.Lines.{line_tabulate, line_act}
use Rattle.rules.proofs.Queues.{body_act, stands_free}
use Rattle.rules.proofs.Cells.{body_acts, acts_join}
use Rattle.rules.proofs.Events.{fresh_sound}
use Rattle.rules.proofs.Blocks.{Unmoved, start_unmoved}

acts_sizes : (l : List Act) (v : View) → SameSizes v.body (acts l v).body
acts_sizes l v = rw (body_acts l v) (sizes_afters l v.body)

-- ---- the line of pool p

module _ (p : ℕ) where
  -- how many blocks the pool has
  abbrev pub size : View → ℕ
  size v = length (of v.body.store.pools p [])

  abbrev pub There : View → Type 0
  There v = In p (length v.body.store.pools)

  -- of what is freed in pool q: that in pool p
  abbrev pub here : ℕ → List ℕ → List ℕ
  here q l = cond (eqb q p) l []

  -- block j of pool q, which does not stand in the line, comes last
  pub mark_line : (q j : ℕ) (v : View) → There v → (eqb q p ≡ true → In j (size v) × (times j (line v (free_in p)) ≡ 0)) → line (act (mark q j true) v) (free_in p) ≡ line v (free_in p) ++ here q (j ∷ [])
  unfolding move moved belongs keep
  mark_line q j v r h = line_act (mark q j true) v (free_in p) r ∙ go (eqb q p) refl
    where
      free_now : eqb q p ≡ true → of (of (after (mark q j true) v.body).store.pools p []) j false ≡ true
      free_now d = ap (λ (l : List Bool). of l j false) (marked v.body q j true p) ∙ rw d (of_put_same (of v.body.store.pools p []) j true false (h d).0)

      go : (t : Bool) → eqb q p ≡ t
          → keep (λ i. not (t && eqb j i)) (line v (free_in p)) ++ keep (belongs (after (mark q j true) v.body) (free_in p)) (cond t (j ∷ []) []) ≡ line v (free_in p) ++ cond t (j ∷ []) []
      go true d = rw (free_now d, absent_leaves j (line v (free_in p)) (h d).1)
      go false d = ap (λ (l : List ℕ). l ++ []) (keep_all (line v (free_in p)))

  -- n blocks of pool q from j on
  marks_line : (q j n : ℕ) (v : View) → There v → 1 ≤ j → (eqb q p ≡ true → (j + n ≤ suc (size v)) × ((i : ℕ) → j ≤ i → times i (line v (free_in p)) ≡ 0))
      → line (acts (map (λ k. mark q k true) (from j n)) v) (free_in p) ≡ line v (free_in p) ++ here q (from j n)
  unfolding acts times
  marks_line q j zero v r o h = go (eqb q p)
    where
      go : (t : Bool) → line v (free_in p) ≡ line v (free_in p) ++ cond t [] []
      go true = sym (append-nil _)
      go false = sym (append-nil _)
  marks_line q j (suc n) v r o h =
      marks_line q (suc j) n (act (mark q j true) v) (rw (body_act (mark q j true) v, (sizes_after (mark q j true) v.body).objects pool) r) (omega arith) later
      ∙ ap (λ (l : List ℕ). l ++ here q (from (suc j) n)) one ∙ go (eqb q p)
    where
      one : line (act (mark q j true) v) (free_in p) ≡ line v (free_in p) ++ here q (j ∷ [])
      one = mark_line q j v r (λ d. ((o, omega (arith, (h d).0)), (h d).1 j (omega arith)))

      later : eqb q p ≡ true → (suc j + n ≤ suc (size (act (mark q j true) v))) × ((i : ℕ) → suc j ≤ i → times i (line (act (mark q j true) v) (free_in p)) ≡ 0)
      later d = (
        rw (body_act (mark q j true) v, (sizes_after (mark q j true) v.body).blocks p) (omega (arith, (h d).0)),
        λ i b. ap (times i) one ∙ times_append i (line v (free_in p)) (here q (j ∷ [])) ∙ rw (d, (h d).1 i (omega arith), ne_eqb j i (λ c. omega arith)),
      )

      go : (t : Bool) → (line v (free_in p) ++ cond t (j ∷ []) []) ++ cond t (from (suc j) n) [] ≡ line v (free_in p) ++ cond t (j ∷ from (suc j) n) []
      go true = append_assoc (line v (free_in p)) (j ∷ []) (from (suc j) n)
      go false = append-nil _

  -- the blocks of the pools from q on that are pool p's
  abbrev mine : ℕ → List ℕ → List ℕ
  mine q [] = []
  mine q (n ∷ l) = here q (ids n) ++ mine (suc q) l

  frees_line : (q : ℕ) (l : List ℕ) (v : View) → There v → ((i : ℕ) → p ≡ q + i → i < length l → size v ≡ get_or l i 0) → (q ≤ p → line v (free_in p) ≡ [])
      → line (acts (frees q l) v) (free_in p) ≡ line v (free_in p) ++ mine q l
  unfolding frees acts ids times
  frees_line q [] v r h e = sym (append-nil _)
  frees_line q (n ∷ l) v r h e =
      ap (λ (w : View). line w (free_in p)) (acts_join marks (frees (suc q) l) v)
      ∙ frees_line (suc q) l (acts marks v) (rw ((acts_sizes marks v).objects pool) r) (λ i d b. rw ((acts_sizes marks v).blocks p) (h (suc i) (omega (arith, d)) (omega arith))) (λ b. now ∙ before b)
      ∙ ap (λ (m : List ℕ). m ++ mine (suc q) l) now ∙ append_assoc (line v (free_in p)) (here q (from 1 n)) (mine (suc q) l)
    where
      marks : List Act
      marks = map (λ k. mark q k true) (from 1 n)

      now : line (acts marks v) (free_in p) ≡ line v (free_in p) ++ here q (from 1 n)
      now = marks_line q 1 n v r (omega arith) (λ d. (omega (arith, h 0 (omega (arith, eqb-true q p d)) (omega arith)), λ i b. ap (times i) (e (omega (arith, eqb-true q p d)))))

      before : suc q ≤ p → line v (free_in p) ++ here q (from 1 n) ≡ []
      before b = rw (e (omega arith), ne_eqb q p (λ d. omega arith))

  -- once pool p is past, none is its
  none_left : (q : ℕ) (l : List ℕ) → p < q → mine q l ≡ []
  none_left q [] b = refl
  none_left q (n ∷ l) b = rw (ne_eqb q p (λ d. omega arith)) (none_left (suc q) l (omega arith))

  mine_ids : (q : ℕ) (l : List ℕ) (i : ℕ) → p ≡ q + i → mine q l ≡ ids (get_or l i 0)
  unfolding ids
  mine_ids q [] i e = refl
  mine_ids q (n ∷ l) zero e = rw (eq-eqb q p (omega arith), none_left (suc q) l (omega arith)) (append-nil _)
  mine_ids q (n ∷ l) (suc i) e = rw (ne_eqb q p (λ d. omega arith)) (mine_ids (suc q) l i (omega arith))

starts_unmoved : (k : ℕ) (l : List Entry) → Unmoved (starts k l)
unfolding starts acts
starts_unmoved k [] v p r = refl
starts_unmoved k (e ∷ l) v p r =
    go e.started (starts_unmoved (suc k) l (act (start k) v) p (rw (body_act (start k) v, (sizes_after (start k) v.body).objects pool) r) ∙ start_unmoved k v p r) (starts_unmoved (suc k) l v p r)
  where
    go : (t : Bool) → line (acts (starts (suc k) l) (act (start k) v)) (free_in p) ≡ line v (free_in p) → line (acts (starts (suc k) l) v) (free_in p) ≡ line v (free_in p)
        → line (acts (cond t (start k ∷ starts (suc k) l) (starts (suc k) l)) v) (free_in p) ≡ line v (free_in p)
    go true a b = a
    go false a b = b

sized : (l : List ℕ) (i : ℕ) → length (get_or (map (λ n. replicate n false) l) i []) ≡ get_or l i 0
sized [] i = refl
sized (n ∷ l) zero = length-replicate n false
sized (n ∷ l) (suc i) = sized l i

abbrev unstarted_view : Setup → View
unstarted_view u = record { body = idle u; lines = tabulate (idle u).store (λ q. []) }

pools_there : (u : Setup) (p : ℕ) → (length (fresh u).body.store.pools ≡ length u.pools) × (length (of (fresh u).body.store.pools (suc p) []) ≡ get_or u.pools p 0)
unfolding fresh idle
pools_there u p = let z = acts_sizes (begins u) (unstarted_view u) in (z.objects pool ∙ length-map u.pools _, z.blocks (suc p) ∙ sized u.pools p)

-- Fresh order is by number, and every block of the pool is there.
pub fresh_in_order : (u : Setup) (p : ℕ) → In p (length u.pools) → line (fresh u) (free_in p) ≡ ids (of u.pools p 0)
unfolding fresh begins idle
fresh_in_order u zero r = absurd (omega (arith, r.0))
fresh_in_order u (suc i) r =
    ap (λ (w : View). line w (free_in (suc i))) (acts_join (frees 1 u.pools) (starts 1 u.tasks) (unstarted_view u))
    ∙ starts_unmoved 1 u.tasks (acts (frees 1 u.pools) (unstarted_view u)) (suc i) (rw ((acts_sizes (frees 1 u.pools) (unstarted_view u)).objects pool) there)
    ∙ frees_line (suc i) 1 u.pools (unstarted_view u) there (λ k d b. ap (λ (n : ℕ). length (get_or (map (λ n. replicate n false) u.pools) n [])) (same_place_lem k d) ∙ sized u.pools k) (λ b. empty)
    ∙ ap (λ (l : List ℕ). l ++ mine (suc i) 1 u.pools) empty ∙ mine_ids (suc i) 1 u.pools i (omega arith)
  where
    there : In (suc i) (length (map (λ n. replicate n false) u.pools))
    there = rw (length-map u.pools (λ n. replicate n false)) r

    same_place_lem : (k : ℕ) → suc i ≡ 1 + k → i ≡ k
    same_place_lem k d = omega (arith, d)

    empty : line (unstarted_view u) (free_in (suc i)) ≡ []
    empty = line_tabulate (idle u).store (λ q. []) (free_in (suc i)) there

-- ---- the counter: blocks and started tasks leave it alone

marks_counter : (p : ℕ) (l : List ℕ) (v : View) → (acts (map (λ k. mark p k true) l) v).body.counter ≡ v.body.counter
unfolding acts after
marks_counter p [] v = refl
marks_counter p (k ∷ l) v = marks_counter p l (act (mark p k true) v) ∙ ap (λ (b : Body). b.counter) (body_act (mark p k true) v)

frees_counter : (p : ℕ) (l : List ℕ) (v : View) → (acts (frees p l) v).body.counter ≡ v.body.counter
unfolding frees acts
frees_counter p [] v = refl
frees_counter p (n ∷ l) v =
    ap (λ (w : View). w.body.counter) (acts_join (map (λ k. mark p k true) (ids n)) (frees (suc p) l) v)
    ∙ frees_counter (suc p) l (acts (map (λ k. mark p k true) (ids n)) v) ∙ marks_counter p (ids n) v

starts_counter : (i : ℕ) (l : List Entry) (v : View) → (acts (starts i l) v).body.counter ≡ v.body.counter
unfolding starts acts after
starts_counter i [] v = refl
starts_counter i (e ∷ l) v = go e.started (starts_counter (suc i) l (act (start i) v) ∙ ap (λ (b : Body). b.counter) (body_act (start i) v)) (starts_counter (suc i) l v)
  where
    go : (t : Bool) → (acts (starts (suc i) l) (act (start i) v)).body.counter ≡ v.body.counter → (acts (starts (suc i) l) v).body.counter ≡ v.body.counter
        → (acts (cond t (start i ∷ starts (suc i) l) (starts (suc i) l)) v).body.counter ≡ v.body.counter
    go true a b = a
    go false a b = b

-- Fresh at 0 with all alarms idle.
pub fresh_counter : (u : Setup) → (fresh u).body.counter ≡ idle_counter u.counters
unfolding fresh begins idle
fresh_counter u =
    ap (λ (w : View). w.body.counter) (acts_join (frees 1 u.pools) (starts 1 u.tasks) (unstarted_view u))
    ∙ starts_counter 1 u.tasks (acts (frees 1 u.pools) (unstarted_view u)) ∙ frees_counter 1 u.pools (unstarted_view u)

-- ---- the blocks

-- Every block is free.
pub fresh_free : (s : List ℕ) (u : Setup) (i : ℕ) → setup s ≡ got u i
    → (p k : ℕ) → In p (length (fresh u).body.store.pools) → In k (length (of (fresh u).body.store.pools p [])) → is_free (fresh u).body p k ≡ true
fresh_free s u i e p k rp rk = once_true (is_free (fresh u).body p k) (sym (stands_free (fresh u) (fresh_sound s u i e) p k rp rk) ∙ ap (times k) (fresh_in_order u p there) ∙ times_ids k _ (block p rp rk))
  where
    once_true : (t : Bool) → once t ≡ 1 → t ≡ true
    once_true true d = refl
    once_true false d = absurd (omega (arith, d))

    there : In p (length u.pools)
    there = rw (pools_there u 0).0 at rp

    block : (p : ℕ) → In p (length (fresh u).body.store.pools) → In k (length (of (fresh u).body.store.pools p [])) → In k (of u.pools p 0)
    block zero h r = absurd (omega (arith, h.0))
    block (suc j) h r = rw (pools_there u j).1 at r
