-- The calls on mailboxes: at each return of the code the rule's verdict is what was answered and done. Assumes nothing.
use mathlib.Core.List.{List}
use mathlib.Core.Option.{none}
use mathlib.Core.Path.{◌≡◌, sym, ap, ◌∙◌, subst}
use Prim.Native.Nat.{ℕ}
use native.Mathlib.Omega.{arith}
use lib.IntN.{pos}
use borrow.Author.Tests.{le-leb, ne_eqb}
use Rattle.rules.specs.Ids.{of, In, put}
use Rattle.rules.specs.Codes.{number, H-MSG}
use Rattle.rules.specs.State.{mailbox}
use Rattle.rules.specs.Places.{mail}
use Rattle.rules.specs.View.{line}
use Rattle.rules.specs.Verdicts.{Verdict}
use Rattle.rules.specs.Objects.{laid, snd_msg, take_msg}
use Rattle.rules.proofs.Ids.{of_ids, length_ids}
use Rattle.memory_columns.specs.declared.Rings.TheVariants.{Messages}
use Rattle.memory_queues.specs.Moves.{mail_anchor, linked, unlinked}
use Rattle.memory_waits.specs.Waits.{released}
use Rattle.memory_picture.specs.Perform.{performed, performed_marks}
use Rattle.memory_picture.specs.Picture.{message_shown, store_shown, body_shown, view_shown, anchor, Accepted}
use Rattle.memory_running.proofs.Lowest.{HeadOf}
use Rattle.call_words.specs.declared.Outcome.{Outcome}
use Rattle.call_words.specs.Outcomes.{outcome}
use Rattle.call_words.specs.Doing.{performs, performs_marks, Does, DoesOnBoth}
use Rattle.call_words.specs.Naming.{NamesObject, NamesMessage}
use Rattle.call_words.proofs.Verdicts.{check_stops, check_passes, first_none, first_some}
use Rattle.call_objects.specs.Waiting.{first_waiter, first_message}
use Rattle.call_objects.proofs.First.{first_at}
use Rattle.call_objects.proofs.Waiters.{to_nobody, to_waiter}

-- the first message stands first in the mailbox; in an empty one stands none
pub message_law : (o : ℕ) (b m : List ℕ) → Accepted b m → NamesObject mailbox o (view_shown b m) → HeadOf (first_message o b) (line (view_shown b m) (mail o))
unfolding first_message view_shown body_shown anchor
message_law o b m A h = first_at b m A (mail o) h (rw (le-leb o 16 (omega (arith, h.1, A.sound.body.sizes.mailboxes))) (omega arith))

-- a message's mark
mark_read : (j : ℕ) (b m : List ℕ) {x : ℕ} → x ≡ of m j 0 → NamesMessage j (view_shown b m) → of (view_shown b m).body.store.messages j none ≡ message_shown x
unfolding view_shown body_shown store_shown
mark_read j b m ex k = of_ids (λ n. message_shown (of m n 0)) _ j none (subst (In j) (length_ids _ _) k) ∙ ap message_shown (sym ex)

module _ (i : ℕ) {b : List ℕ} {s : Outcome} where
  -- ---- rcv_msg, prcv_msg: the first message is taken, or as r says

  module _ {j : ℕ} (ej : j ≡ first_message i b) {m : List ℕ} (r : Verdict) where
    pub none_taken : j ≡ 0 → {b' m' : List ℕ} → Does r s b m b' m' → DoesOnBoth (NamesObject mailbox i) (λ v. take_msg v (pos i) r) s b m b' m'
    unfolding take_msg
    none_taken z d A k = first_none _ r _ z (rw ej (message_law i b m A k)) d

    pub message_taken : (j ≡ 0 → ⊥) → {b' m' : List ℕ} → (b' ≡ unlinked Messages j b) × (m' ≡ put m j 0) → s ≡ outcome (pos 0) j 0 0 → DoesOnBoth (NamesObject mailbox i) (λ v. take_msg v (pos i) r) s b m b' m'
    unfolding take_msg performs performs_marks performed performed_marks number
    message_taken z g e A k = first_some _ r _ z (rw ej (message_law i b m A k)) (record { says = e; words = g.0; marks = g.1 })

  -- ---- snd_msg: the mark of message j is x

  module _ (j : ℕ) {m : List ℕ} {x : ℕ} (ex : x ≡ of m j 0) where
    pub snd_laid : (x ≡ 0 → ⊥) → s ≡ outcome (number H-MSG) 0 0 0 → DoesOnBoth (λ v. NamesObject mailbox i v × NamesMessage j v) (λ v. snd_msg v (pos i) (pos j)) s b m b m
    unfolding snd_msg
    snd_laid z e A k = check_stops H-MSG _ (ap laid (mark_read j b m ex k.1) ∙ rw (ne_eqb x 0 z)) e

    module _ (z : x ≡ 0) {w : ℕ} (ew : w ≡ first_waiter 4 i b) where
      pub snd_serves : (w ≡ 0 → ⊥) → {b' : List ℕ} → b' ≡ released w 0 j b → s ≡ outcome (pos 0) 0 0 1 → DoesOnBoth (λ v. NamesObject mailbox i v × NamesMessage j v) (λ v. snd_msg v (pos i) (pos j)) s b m b' m
      unfolding snd_msg
      snd_serves ne g e A k = check_passes H-MSG _ (ap laid (mark_read j b m ex k.1) ∙ rw z) (to_waiter mailbox i b m A k.0 ew ne j _ g e)

      pub snd_posts : w ≡ 0 → {b' m' : List ℕ} → (b' ≡ linked Messages (mail_anchor i) j b) × (m' ≡ put m j i) → s ≡ outcome (pos 0) 0 0 0
          → DoesOnBoth (λ v. NamesObject mailbox i v × NamesMessage j v) (λ v. snd_msg v (pos i) (pos j)) s b m b' m'
      unfolding snd_msg performs performs_marks performed performed_marks number
      snd_posts y g e A k = check_passes H-MSG _ (ap laid (mark_read j b m ex k.1) ∙ rw z) (to_nobody mailbox i b m A k.0 ew y j _ (record { says = e; words = g.0; marks = g.1 }))
