-- The acts of a tick: what they name is there, and they touch no message. Assumes nothing.
use mathlib.Core.List.{List, [], ◌∷◌, ◌++◌, map}
use mathlib.Core.Logic.{◌≢◌}
use mathlib.Core.Path.{◌≡◌, refl, sym, ap, ◌∙◌, subst}
use Prim.Native.Nat.{ℕ}
use lib.ListN.{length}
use Rattle.rules.specs.Ids.{ids, In, times}
use Rattle.rules.specs.State.{Body, task, nobody, wait_of}
use Rattle.rules.specs.Acts.{Act, elapse, after}
use Rattle.rules.specs.View.{View}
use Rattle.rules.specs.Alarms.{rings}
use Rattle.rules.specs.Time.{ending, endings, timeout, lapse, ticked}
use Rattle.rules.specs.Sound.{Known}
use Rattle.rules.proofs.Ids.{length_put, tested, kept_passes, times_head, times_tail}
use Rattle.rules.proofs.Keeps.{Names}
use Rattle.rules.proofs.Calls.{firing_names}
use Rattle.rules.proofs.Firings.{Along, along_append, FiringAct, starts, wakes, stores, keeps, rings_along}
use Rattle.memory_picture.specs.Perform.{performed_marks}
use Rattle.call_words.specs.Doing.{performs_marks}
use Rattle.call_words.proofs.Performing.{AllNames}

-- ---- timeouts

timeout_names : (c : Body) (n : ℕ) (l : List ℕ) → length c.tasks ≡ n → Known n l → AllNames c (map timeout l ++ elapse ∷ [])
unfolding after
timeout_names c n [] e k = (tt, tt)
timeout_names c n (x ∷ l) e k = (subst (In x) (sym e) k.0, timeout_names (after (timeout x) c) n l (length_put c.tasks x _ ∙ e) k.1)

known_by : (n : ℕ) (l : List ℕ) → ((i : ℕ) → times i l ≢ 0 → In i n) → Known n l
known_by n [] f = tt
known_by n (x ∷ l) f = (f x (times_head x l), known_by n l (λ i z. f i (times_tail x i l z)))

pub lapse_names : (b : Body) → AllNames b (lapse b)
lapse_names b = timeout_names b _ (endings b) refl (known_by _ (endings b) there)
  where
    there : (i : ℕ) → times i (endings b) ≢ 0 → In i (length b.tasks)
    there i z = tested (λ t. ending (wait_of t.state)) b.tasks i nobody refl (kept_passes (λ j. ending (wait_of (task b j).state)) i (ids (length b.tasks)) z)

timeout_marks : (l : List ℕ) (m : List ℕ) → performs_marks (map timeout l ++ elapse ∷ []) m ≡ m
unfolding performs_marks performed_marks
timeout_marks [] m = refl
timeout_marks (x ∷ l) m = timeout_marks l m

pub lapse_marks : (b : Body) (m : List ℕ) → performs_marks (lapse b) m ≡ m
lapse_marks b m = timeout_marks (endings b) m

-- ---- alarms

pub rings_names : (n k : ℕ) (b : Body) → AllNames b (rings b n k)
rings_names n k b = rings_along Names firing_names n k b

firing_marks : (b : Body) (a : Act) (m : List ℕ) → FiringAct b a → performed_marks a m ≡ m
unfolding performed_marks
firing_marks b a m (starts i d) = refl
firing_marks b a m (wakes i d) = refl
firing_marks b a m (stores i n d s f) = refl
firing_marks b a m (keeps k c f e) = refl

pub rings_marks : (n k : ℕ) (b : Body) (m : List ℕ) → performs_marks (rings b n k) m ≡ m
unfolding performs_marks
rings_marks n k b m = go (rings b n k) b (rings_along (λ c a. performed_marks a m ≡ m) (λ c a f. firing_marks c a m f) n k b)
  where
    go : (l : List Act) (b : Body) → Along (λ c a. performed_marks a m ≡ m) b l → performs_marks l m ≡ m
    go [] b h = refl
    go (a ∷ l) b h = ap (performs_marks l) h.0 ∙ go l (after a b) h.1

-- ---- all of them

pub tick_names : (v : View) → AllNames v.body (ticked v).acts
unfolding ticked
tick_names v = along_append Names (lapse v.body) _ v.body (lapse_names v.body) (rings_names _ 1 _)
