-- What the tests on words and on waits tell. Assumes nothing.
use mathlib.Core.Bool.{Bool, true, false, not, ◌&&◌, ◌||◌, false≢true}
use mathlib.Core.Option.{Option, none, some}
use mathlib.Core.Path.{◌≡◌, refl, sym}
use Prim.Native.Nat.{ℕ}
use lib.Dec.{eqb, leb}
use lib.IntN.{ℤ}
use borrow.Author.Tests.{eqb-true, leb-true}
use Rattle.rules.specs.Ids.{In}
use Rattle.rules.specs.State.{Kind, semaphore, flag, mailbox, pool, Wait, asleep, timed, on}
use Rattle.rules.specs.Places.{same_kind, waits_on}
use Rattle.rules.specs.Events.{nat, outside}

pub both_true : (s t : Bool) → (s && t) ≡ true → (s ≡ true) × (t ≡ true)
both_true true true e = (refl, refl)
both_true true false e = absurd (false≢true e)
both_true false true e = absurd (false≢true e)
both_true false false e = absurd (false≢true e)

pub neither : (s t : Bool) → (s || t) ≡ false → (s ≡ false) × (t ≡ false)
neither true t e = absurd (false≢true (sym e))
neither false t e = (refl, e)

-- a word that is not outside 1 to n names one of them
pub in_by : (a : ℤ) (n : ℕ) → outside a n ≡ false → In (nat a) n
in_by a n e = go (leb 1 (nat a)) (leb (nat a) n) refl refl e
  where
    go : (s t : Bool) → leb 1 (nat a) ≡ s → leb (nat a) n ≡ t → not (s && t) ≡ false → In (nat a) n
    go true true p q e = (leb-true 1 (nat a) p, leb-true (nat a) n q)
    go true false p q e = absurd (false≢true (sym e))
    go false true p q e = absurd (false≢true (sym e))
    go false false p q e = absurd (false≢true (sym e))

pub same_kind_true : (k l : Kind) → same_kind k l ≡ true → k ≡ l
same_kind_true semaphore semaphore e = refl
same_kind_true semaphore flag e = absurd (false≢true e)
same_kind_true semaphore mailbox e = absurd (false≢true e)
same_kind_true semaphore pool e = absurd (false≢true e)
same_kind_true flag semaphore e = absurd (false≢true e)
same_kind_true flag flag e = refl
same_kind_true flag mailbox e = absurd (false≢true e)
same_kind_true flag pool e = absurd (false≢true e)
same_kind_true mailbox semaphore e = absurd (false≢true e)
same_kind_true mailbox flag e = absurd (false≢true e)
same_kind_true mailbox mailbox e = refl
same_kind_true mailbox pool e = absurd (false≢true e)
same_kind_true pool semaphore e = absurd (false≢true e)
same_kind_true pool flag e = absurd (false≢true e)
same_kind_true pool mailbox e = absurd (false≢true e)
same_kind_true pool pool e = refl

-- a waiter on an object asks something of it
pub waits_asks : (x : Option Wait) (k : Kind) (o : ℕ) → waits_on x k o ≡ true → (p : ℕ) × (m : ℕ) × (x ≡ some (on k o p m))
waits_asks none k o e = absurd (false≢true e)
waits_asks (some asleep) k o e = absurd (false≢true e)
waits_asks (some (timed t)) k o e = absurd (false≢true e)
waits_asks (some (on k' o' p m)) k o e =
    let h : (same_kind k' k ≡ true) × (eqb o' o ≡ true) = both_true _ _ e in
    (p, m, λ z. some (on (same_kind_true k' k h.0 z) (eqb-true o' o h.1 z) p m))

-- whoever waits on object o of kind k waits on another just if it is the same
pub waits_other : (x : Option Wait) (k l : Kind) (o q : ℕ) → waits_on x k o ≡ true → waits_on x l q ≡ (same_kind k l && eqb o q)
waits_other x k l o q e = rw (waits_asks x k o e).2
