-- The status calls, over the kind: what is stored in an object, by the rules and for any words.
use Rattle.std.specs.Prelude.{cond, List, ◌≡◌, ℕ, eqb, ℤ, pos}
use Rattle.rules.specs.Ids.{first}
use Rattle.rules.specs.State.{Kind, semaphore, flag, mailbox, pool}
use Rattle.rules.specs.Places.{mail}
use Rattle.rules.specs.Events.{nat}
use Rattle.rules.specs.View.{View, line}
use Rattle.rules.specs.Objects.{count_of, pattern_of, blocks_of, free, obj_sts}
use Rattle.memory_columns.specs.Layout as Layout
use Rattle.memory_columns.specs.Layout.{entry}
use Rattle.memory_picture.specs.Picture.{kind_number}
use Rattle.call_words.specs.declared.Outcome.{Outcome}
use Rattle.call_words.specs.Doing.{DoesOnWords}
use Rattle.call_words.specs.Naming.{NamesObject}
use Rattle.call_objects.specs.Waiting.{first_message}
use Rattle.call_pools.specs.Blocks.{bit_count}

-- the second word of the rows sem_sts_row, flg_sts_row, mbx_sts_row, mpl_sts_row
abbrev pub stored : View → Kind → ℤ → ℕ
stored v semaphore a = count_of v a
stored v flag a = pattern_of v a
stored v mailbox a = first (line v (mail (nat a)))
stored v pool a = free (blocks_of v a)

-- as the words have it, of the kind with number n; whatever is no other kind's number is a pool's
unfoldable pub stored_at : ℕ → ℕ → List ℕ → ℕ
stored_at n i b =
    cond (eqb n Layout.semaphores) (entry Layout.semaphore b i)
    (cond (eqb n Layout.flags) (entry Layout.flag b i) (cond (eqb n Layout.mailboxes) (first_message i b) (bit_count 32 (entry Layout.free b i))))

-- The status of object i of that kind is told: the first waiter, and what is stored. Nothing changes.
abbrev pub TellsStatus : ℕ → ℕ → Outcome → List ℕ → Type 0
TellsStatus n i s b = (k : Kind) → n ≡ kind_number k → DoesOnWords (NamesObject k i) (λ v. obj_sts v k (pos i) (stored v k (pos i))) s b b
