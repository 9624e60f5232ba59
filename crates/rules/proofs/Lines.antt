-- Laws of the table of lines: what is read at a place, when two tables are the same, that an act changes no place, and that whoever goes
-- last leaves the others in their order.
use mathlib.Core.Bool.{Bool, true, false, not, cond, ◌&&◌, and-false}
use mathlib.Core.List.{List, [], ◌∷◌, ◌++◌, map, append-nil}
use mathlib.Core.Path.{◌≡◌, refl, sym, ap, ◌∙◌, subst}
use Prim.Native.Nat.{ℕ}
use lib.Dec.{eqb}
use lib.IntN.{ℤ}
use lib.ListN.{length}
use borrow.Author.Tests.{eq-eqb}
use Rattle.rules.specs.Ids.{of, ids, In, keep}
use Rattle.rules.specs.Codes.{H-NODMT}
use Rattle.rules.specs.State.{Kind, semaphore, flag, mailbox, pool, Store, Body, task, objects, is_dormant}
use Rattle.rules.specs.Places.{Place, ready_at, waiters, mail, free_in, same_sort, sort_at, Item, a_task, item, same, belongs, at, each, Lines, line_at, Exists, tabulate}
use Rattle.rules.specs.Events.{nat}
use Rattle.rules.specs.Acts.{Act, start, after, last, move}
use Rattle.rules.specs.View.{View, line, alone, without, moved, act, acts}
use Rattle.rules.specs.Verdicts.{done, check}
use Rattle.rules.specs.Tasks.{starting, sta_tsk}
use Rattle.rules.specs.Sound.{Shape}
use Rattle.rules.proofs.Sizes.{sizes_after}
use Rattle.rules.proofs.Ids.{of_ids, length_ids, ids_of_lem, map_ids, keep_keep, keep_append, keep_same}

-- ---- something for each kind

module _ {ℓ} {A : Type ℓ} where
  pub at_each : (f : Kind → A) (k : Kind) → at (each f) k ≡ f k
  at_each f semaphore = refl
  at_each f flag = refl
  at_each f mailbox = refl
  at_each f pool = refl

-- ---- the table made from f

-- at a place that there is, f's line is read
pub line_tabulate : (u : Store) (f : Place → List ℕ) (q : Place) → Exists u q → line_at (tabulate u f) q ≡ f q
unfolding line_at tabulate
line_tabulate u f (ready_at p) h = of_ids (λ n. f (ready_at n)) u.priorities p [] h
line_tabulate u f (waiters k o) h =
    ap (λ (t : List (List ℕ)). of t o []) (at_each (λ k. map (λ n. f (waiters k n)) (ids (objects u k))) k) ∙ of_ids (λ n. f (waiters k n)) (objects u k) o [] h
line_tabulate u f (mail m) h = of_ids (λ n. f (mail n)) u.mailboxes m [] h
line_tabulate u f (free_in p) h = of_ids (λ n. f (free_in n)) (length u.pools) p [] h

-- functions that agree at the places that there are make the same table
pub tabulate_same : (u : Store) (f g : Place → List ℕ) → ((q : Place) → Exists u q → f q ≡ g q) → tabulate u f ≡ tabulate u g
unfolding tabulate
tabulate_same u f g h = λ z. record {
  ready = map_ids (λ p. f (ready_at p)) (λ p. g (ready_at p)) u.priorities (λ p e. h (ready_at p) e) z;
  waiting = each (λ k. map_ids (λ o. f (waiters k o)) (λ o. g (waiters k o)) (objects u k) (λ o e. h (waiters k o) e) z);
  mail = map_ids (λ m. f (mail m)) (λ m. g (mail m)) u.mailboxes (λ m e. h (mail m) e) z;
  free = map_ids (λ p. f (free_in p)) (λ p. g (free_in p)) (length u.pools) (λ p e. h (free_in p) e) z;
}

pub shape_tabulate : (u : Store) (f : Place → List ℕ) → Shape u (tabulate u f)
unfolding tabulate
shape_tabulate u f = record {
  ready = length_ids (λ p. f (ready_at p)) u.priorities;
  waiting = λ k. ap (λ (t : List (List ℕ)). length t) (at_each (λ k. map (λ n. f (waiters k n)) (ids (objects u k))) k) ∙ length_ids (λ o. f (waiters k o)) (objects u k);
  mail = length_ids (λ m. f (mail m)) u.mailboxes;
  free = length_ids (λ p. f (free_in p)) (length u.pools);
}

-- a table that has a line for each place and for no other is the one made from its own lines
pub tabulate_lines : (u : Store) (l : Lines) → Shape u l → tabulate u (line_at l) ≡ l
unfolding tabulate line_at
tabulate_lines u l h = λ z. record {
  ready = (ap (λ (n : ℕ). map (λ p. of l.ready p []) (ids n)) (sym h.ready) ∙ ids_of_lem l.ready []) z;
  waiting = record { semaphores = waits semaphore z; flags = waits flag z; mailboxes = waits mailbox z; pools = waits pool z };
  mail = (ap (λ (n : ℕ). map (λ m. of l.mail m []) (ids n)) (sym h.mail) ∙ ids_of_lem l.mail []) z;
  free = (ap (λ (n : ℕ). map (λ p. of l.free p []) (ids n)) (sym h.free) ∙ ids_of_lem l.free []) z;
}
  where
    waits : (k : Kind) → map (λ o. of (at l.waiting k) o []) (ids (objects u k)) ≡ at l.waiting k
    waits k = ap (λ (n : ℕ). map (λ o. of (at l.waiting k) o []) (ids n)) (sym (h.waiting k)) ∙ ids_of_lem (at l.waiting k) []

-- ---- an act changes no place

pub exists_after : (a : Act) (b : Body) (q : Place) → Exists (after a b).store q → Exists b.store q
exists_after a b (ready_at p) h = subst (In p) (sizes_after a b).priorities h
exists_after a b (waiters k o) h = subst (In o) ((sizes_after a b).objects k) h
exists_after a b (mail m) h = subst (In m) ((sizes_after a b).objects mailbox) h
exists_after a b (free_in p) h = subst (In p) ((sizes_after a b).objects pool) h

pub exists_before : (a : Act) (b : Body) (q : Place) → Exists b.store q → Exists (after a b).store q
exists_before a b (ready_at p) h = subst (In p) (sym (sizes_after a b).priorities) h
exists_before a b (waiters k o) h = subst (In o) (sym ((sizes_after a b).objects k)) h
exists_before a b (mail m) h = subst (In m) (sym ((sizes_after a b).objects mailbox)) h
exists_before a b (free_in p) h = subst (In p) (sym ((sizes_after a b).objects pool)) h

-- a line after an act
pub line_act : (a : Act) (v : View) (q : Place) → Exists v.body.store q → line (act a v) q ≡ moved (after a v.body) (move v.body a) q (line v q)
unfolding act
line_act a v q h = line_tabulate (after a v.body).store (λ q. moved (after a v.body) (move v.body a) q (line v q)) q (exists_before a v.body q h)

-- ---- who goes last leaves the others in their order

-- x's own id is taken out, whoever belongs
alone_gone : (r : ℕ → Bool) (x : Item) (q : Place) → without x q (keep r (alone x q)) ≡ []
unfolding keep
alone_gone r x q = keep_keep (λ i. not (same x (item q i))) r (alone x q) ∙ go (same_sort x.sort (sort_at q))
  where
    go : (t : Bool) → keep (λ i. r i && not (t && eqb x.id i)) (cond t (x.id ∷ []) []) ≡ []
    go true = rw (eq-eqb x.id x.id refl, and-false)
    go false = refl

others_stay : (b : Body) (x : Item) (q : Place) (l : List ℕ) → without x q (moved b (last x) q l) ≡ without x q l
unfolding moved
others_stay b x q l =
    keep_append _ (without x q l) _ ∙ ap (λ (k : List ℕ). without x q (without x q l) ++ k) (alone_gone (belongs b q) x q) ∙ append-nil _
    ∙ keep_keep _ _ l ∙ keep_same l (λ i. twice (not (same x (item q i))))
  where
    twice : (t : Bool) → (t && t) ≡ t
    twice true = refl
    twice false = refl

-- sta_tsk: a running task that the new one preempts keeps its place, and so does everybody else
pub start_keeps_places : (v : View) (a : ℤ) (q : Place) → Exists v.body.store q → without (a_task (nat a)) q (line (acts (sta_tsk v a).acts v) q) ≡ without (a_task (nat a)) q (line v q)
unfolding sta_tsk starting check acts move
start_keeps_places v a q r = go (not (is_dormant (task v.body (nat a)).state))
  where
    go : (t : Bool) → without (a_task (nat a)) q (line (acts (check t H-NODMT (done (start (nat a) ∷ []))).acts v) q) ≡ without (a_task (nat a)) q (line v q)
    go true = refl
    go false = ap (without (a_task (nat a)) q) (line_act (start (nat a)) v q r) ∙ others_stay _ (a_task (nat a)) q (line v q)
