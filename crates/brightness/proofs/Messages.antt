-- What rcv_msg and snd_msg do by the rules, where they are not refused. Assumes nothing.
use mathlib.Core.Bool.{Bool, true, false, false≢true}
use mathlib.Core.List.{List, [], ◌∷◌}
use mathlib.Core.Option.{Option, none, some}
use mathlib.Core.Path.{◌≡◌, refl, sym, ap, ◌∙◌}
use Prim.Native.Nat.{ℕ, ◌≤◌}
use native.Mathlib.Nat.{le_trans}
use lib.IntN.{ℤ, pos, negsuc}
use borrow.Author.Tests.{le-leb}
use Rattle.rules.specs.Ids.{In}
use Rattle.rules.specs.Codes.{Code, OK, H-CALL, H-MSG, number, negative}
use Rattle.rules.specs.State.{mailbox, Body, task, nobody, is_waiting}
use Rattle.rules.specs.Places.{waiters, mail, waits_on, belongs}
use Rattle.rules.specs.Events.{call, nat}
use Rattle.rules.specs.Acts.{Act, release, released_task, after, afters}
use Rattle.rules.specs.View.{View, line}
use Rattle.rules.specs.Verdicts.{Verdict, refuse, on_first}
use Rattle.rules.specs.Objects.{to_first, snd_msg, take_msg}
use Rattle.rules.specs.Rows.{snd_msg_row, rcv_msg_row}
use Rattle.rules.specs.Table.{table, handler, caller, handles, looked_up, numbered, called, judge}
use Rattle.rules.specs.Answers.{read_cell}
use Rattle.rules.specs.Sound.{Sound}
use Rattle.rules.specs.Kernel.{next}
use Rattle.rules.proofs.Cells.{body_acts}
use Rattle.rules.proofs.Ids.{of_put_same, length_put, tested}
use Rattle.rules.proofs.Judge.{bad, by_check, by_row}
use Rattle.rules.proofs.Queues.{first_belongs}
use Rattle.rules.proofs.States.{freed_tells, waits_by}
use Rattle.rules.proofs.Waits.{in_by}

-- a refusal's code is negative
pub bad_negative : (c : Code) → bad c ≡ true → negative (number c) ≡ true
unfolding bad
bad_negative c h = go (number c) refl
  where
    go : (n : ℤ) → number c ≡ n → negative n ≡ true
    go (pos k) e = absurd (false≢true (rw e at h))
    go (negsuc k) e = refl

-- ---- rcv_msg

-- the verdict is a refusal, or gives message j
abbrev GivesMessage : ℕ → ℤ → Verdict → Type 0
GivesMessage j n r = negative (number r.code) ≡ false → (r.code ≡ OK) × (r.w1 ≡ j)

no_message : (j : ℕ) (n : ℤ) (c : Code) → bad c ≡ true → GivesMessage j n (refuse c)
no_message j n c h e = absurd (false≢true (sym e ∙ bad_negative c h))

pub receives_first : (v : View) (x a b c : ℤ) {j : ℕ} {l : List ℕ} → line v (mail (nat a)) ≡ j ∷ l → GivesMessage j (pos 21) (judge v (call x (pos 21) a b c))
unfolding judge called numbered looked_up table rcv_msg_row take_msg on_first bad number
receives_first v x a b c {j} e = go (handler x)
  where
    go : (h : Option Bool) → GivesMessage j (pos 21) (called v h (pos 21) a b c)
    go none = no_message j (pos 21) H-CALL refl
    go (some h) = by_row (GivesMessage j) (no_message j) v (handles v h) (caller v h) 21 (rcv_msg_row v (caller v h) a) refl (λ p. rw e (λ q. (refl, refl)))

-- ---- snd_msg

-- it is accepted only if there is such a mailbox, and then it releases task t with that word
abbrev Releases : View → ℤ → ℕ → ℕ → ℤ → Verdict → Type 0
Releases v a t w n r = number r.code ≡ pos 0 → In (nat a) v.body.store.mailboxes × (r.acts ≡ release t OK w ∷ [])

module _ (v : View) (a : ℤ) (t w : ℕ) where
  no_release : (n : ℤ) (c : Code) → bad c ≡ true → Releases v a t w n (refuse c)
  no_release n c h e = absurd (false≢true (ap negative (sym e) ∙ bad_negative c h))

sends_to_first : (v : View) (x a b c : ℤ) {t : ℕ} {l : List ℕ} → line v (waiters mailbox (nat a)) ≡ t ∷ l → Releases v a t (nat b) (pos 20) (judge v (call x (pos 20) a b c))
unfolding judge called numbered looked_up table snd_msg_row snd_msg to_first on_first bad number
sends_to_first v x a b c {t} e = go (handler x)
  where
    go : (h : Option Bool) → Releases v a t (nat b) (pos 20) (called v h (pos 20) a b c)
    go none = no_release v a t (nat b) (pos 20) H-CALL refl
    go (some h) =
        by_row (Releases v a t (nat b)) (no_release v a t (nat b)) v (handles v h) (caller v h) 20 (snd_msg_row v a b) refl
        (λ p. by_check (Releases v a t (nat b)) (no_release v a t (nat b)) {n = pos 20} H-MSG refl (λ q. rw e (λ s. (in_by a _ p.words.0, refl))))

-- ---- the cell of the task that it releases

released_cell : (b : Body) (t : ℕ) (c : Code) (w : ℕ) → is_waiting (task b t).state ≡ true → read_cell (after (release t c w) b) (pos t) ≡ record { code = c; word = w }
unfolding read_cell after
released_cell b t c w h =
    let i = tested (λ u. is_waiting u.state) b.tasks t nobody refl h in
    let new = released_task c w (task b t) in
    rw (length_put b.tasks t new, le-leb _ _ i.0, le-leb _ _ i.1, of_put_same b.tasks t new nobody i, h, (freed_tells (task b t).state h).3)

-- the first in a mailbox's queue waits
first_waits : (v : View) (o : ℕ) {t : ℕ} {l : List ℕ} → Sound v → In o v.body.store.mailboxes → line v (waiters mailbox o) ≡ t ∷ l → is_waiting (task v.body t).state ≡ true
unfolding belongs
first_waits v o {t} {l} h i e = waits_by (λ w. waits_on w mailbox o) refl (task v.body t).state (first_belongs v h (waiters mailbox o) i t l e)

-- after an accepted snd_msg the cell of the first waiter is 0 and the message
pub sent_cell : (v : View) (x a b c : ℤ) {t : ℕ} {l : List ℕ} → Sound v → line v (waiters mailbox (nat a)) ≡ t ∷ l → number (judge v (call x (pos 20) a b c)).code ≡ pos 0
    → read_cell (next v (call x (pos 20) a b c)).body (pos t) ≡ record { code = OK; word = nat b }
unfolding next afters
sent_cell v x a b c {t} h e k =
    let s = sends_to_first v x a b c e k in
    ap (λ (y : Body). read_cell y (pos t)) (body_acts _ v ∙ ap (λ (y : List Act). afters y v.body) s.1)
    ∙ released_cell v.body t OK (nat b) (first_waits v (nat a) h s.0 e)

-- and it has the id of a task
pub sent_id : (v : View) (x a b c : ℤ) {t : ℕ} {l : List ℕ} → Sound v → line v (waiters mailbox (nat a)) ≡ t ∷ l → number (judge v (call x (pos 20) a b c)).code ≡ pos 0 → t ≤ 32
sent_id v x a b c {t} h e k =
    let i = tested (λ u. is_waiting u.state) v.body.tasks t nobody refl (first_waits v (nat a) h (sends_to_first v x a b c e k).0 e) in
    le_trans i.1 h.body.sizes.tasks.1
