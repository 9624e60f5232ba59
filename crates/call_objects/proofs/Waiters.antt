-- An object that a call names, over the kind: how many there are, and the first waiter. Assumes nothing.
use mathlib.Core.List.{List}
use mathlib.Core.Path.{◌≡◌, refl, ap, ◌∙◌, subst}
use Prim.Native.Nat.{ℕ, ◌≤◌}
use native.Mathlib.Omega.{arith}
use lib.IntN.{pos}
use borrow.Author.Tests.{le-leb}
use Rattle.rules.specs.Ids.{In}
use Rattle.rules.specs.Acts.{release}
use Rattle.rules.specs.Codes.{OK}
use Rattle.rules.specs.State.{Kind, semaphore, flag, mailbox, pool, objects}
use Rattle.rules.specs.Places.{waiters}
use Rattle.rules.specs.View.{line}
use Rattle.rules.specs.Verdicts.{Verdict}
use Rattle.rules.specs.Objects.{to_first, obj_sts}
use Rattle.memory_rings.specs.Links.{first_of}
use Rattle.memory_columns.specs.Layout as Layout
use Rattle.memory_columns.specs.Layout.{words, entry}
use Rattle.memory_queues.specs.Moves.{wait_anchor}
use Rattle.memory_waits.specs.Waits.{released}
use Rattle.memory_picture.specs.Picture.{kind_number, store_shown, body_shown, anchor, line_shown, view_shown, Accepted}
use Rattle.memory_picture.specs.Perform.{performed, performed_marks}
use Rattle.memory_running.proofs.Lowest.{HeadOf}
use Rattle.call_words.specs.declared.Outcome.{Outcome}
use Rattle.call_words.specs.Outcomes.{outcome}
use Rattle.call_words.specs.Doing.{Does}
use Rattle.call_words.specs.Naming.{NamesObject}
use Rattle.call_words.proofs.Tasks.{objects_count}
use Rattle.call_words.proofs.Verdicts.{gives_none, gives_one, first_none, first_some}
use Rattle.call_objects.specs.Waiting.{first_waiter}
use Rattle.call_objects.proofs.First.{head_first, line_at, first_at}

kind_small : (k : Kind) → kind_number k ≤ 5
kind_small semaphore = omega arith
kind_small flag = omega arith
kind_small mailbox = omega arith
kind_small pool = omega arith

module _ (k : Kind) (o : ℕ) (b m : List ℕ) (A : Accepted b m) (h : NamesObject k o (view_shown b m)) where
  -- as the column counts it
  pub counted : In o (entry Layout.system b (kind_number k))
  counted = subst (In o) (objects_count k b m) h

  few : (k : Kind) → objects (view_shown b m).body.store k ≤ 16
  few semaphore = A.sound.body.sizes.semaphores
  few flag = A.sound.body.sizes.flags
  few mailbox = A.sound.body.sizes.mailboxes
  few pool = let e = A.sound.body.sizes.pools in omega (arith, e)

  pub there : In o (objects (store_shown b m) k)
  unfolding view_shown body_shown
  there = h

  pub anchor_is : wait_anchor (kind_number k) o ≡ anchor (waiters k o)
  unfolding wait_anchor anchor
  anchor_is = rw (le-leb (kind_number k) 5 (kind_small k), le-leb o 16 (omega (arith, h.1, few k)))

  pub line_is : line (view_shown b m) (waiters k o) ≡ line_shown b (waiters k o)
  line_is = line_at b m A (waiters k o) there

  -- what stands first in the queue is the first waiter; in an empty queue stands nobody
  waiter_law : HeadOf (first_waiter (kind_number k) o b) (line (view_shown b m) (waiters k o))
  unfolding first_waiter
  waiter_law = first_at b m A (waiters k o) there (omega (arith, ap (first_of (words Layout.next b)) anchor_is))

  -- by the first waiter x, as the code has read it
  module _ {x : ℕ} (ex : x ≡ first_waiter (kind_number k) o b) where
    head : HeadOf x (line (view_shown b m) (waiters k o))
    head = rw ex waiter_law

    pub to_nobody : x ≡ 0 → {s : Outcome} {b' m' : List ℕ} (w : ℕ) (r : Verdict) → Does r s b m b' m' → Does (to_first (view_shown b m) k (pos o) w r) s b m b' m'
    unfolding to_first
    to_nobody z w r d = first_none (line (view_shown b m) (waiters k o)) r _ z head d

    pub to_waiter : (x ≡ 0 → ⊥) → {s : Outcome} {b' : List ℕ} (w : ℕ) (r : Verdict) → b' ≡ released x 0 w b → s ≡ outcome (pos 0) 0 0 1 → Does (to_first (view_shown b m) k (pos o) w r) s b m b' m
    unfolding to_first performed performed_marks
    to_waiter ne w r g e = first_some (line (view_shown b m) (waiters k o)) r _ ne head (gives_one (release x OK w) refl e g)

    pub status_is : {s : Outcome} {y z : ℕ} → y ≡ z → s ≡ outcome (pos 0) x y 0 → Does (obj_sts (view_shown b m) k (pos o) z) s b m b m
    unfolding obj_sts
    status_is f e = gives_none (e ∙ rw (f, head_first x (line (view_shown b m) (waiters k o)) head))
