-- What the words say is stored in an object is what the view shows there, over the kind. Assumes nothing.
use mathlib.Core.List.{List}
use mathlib.Core.Path.{◌≡◌, sym, ◌∙◌}
use Prim.Native.Nat.{ℕ}
use lib.IntN.{pos}
use Rattle.rules.specs.State.{Kind, semaphore, flag, mailbox, pool}
use Rattle.rules.specs.Places.{mail}
use Rattle.rules.specs.View.{line}
use Rattle.memory_picture.specs.Picture.{kind_number, view_shown, Accepted}
use Rattle.call_words.specs.declared.Outcome.{Outcome}
use Rattle.call_words.specs.Outcomes.{outcome}
use Rattle.call_words.specs.Naming.{NamesObject}
use Rattle.call_objects.specs.Waiting.{first_waiter}
use Rattle.call_objects.proofs.First.{head_first}
use Rattle.call_objects.proofs.Waiters.{status_is}
use Rattle.call_semaphores.proofs.SemaphoreCalls.{count_read}
use Rattle.call_flags.proofs.FlagCalls.{pattern_read}
use Rattle.call_mailboxes.proofs.MailboxCalls.{message_law}
use Rattle.call_pools.proofs.Blocks.{free_read}
use Rattle.call_status.specs.Status.{stored, stored_at, TellsStatus}

stored_is : (k : Kind) (i : ℕ) (b m : List ℕ) → Accepted b m → NamesObject k i (view_shown b m) → stored_at (kind_number k) i b ≡ stored (view_shown b m) k (pos i)
unfolding stored_at
stored_is semaphore i b m A h = sym (count_read i m A h)
stored_is flag i b m A h = sym (pattern_read i m A h)
stored_is mailbox i b m A h = head_first _ (line (view_shown b m) (mail i)) (message_law i b m A h)
stored_is pool i b m A h = free_read i b m A h

pub status_told : (kind i : ℕ) {b : List ℕ} {s : Outcome} {x n : ℕ} → x ≡ first_waiter kind i b → n ≡ stored_at kind i b → s ≡ outcome (pos 0) x n 0 → TellsStatus kind i s b
status_told kind i {b = b} ex en e k z m A h = status_is k i b m A h (rw z at ex) (rw z at en ∙ stored_is k i b m A h) e
