-- Who stands first: among the waiters on an object, the messages of a mailbox, the free blocks of a pool.
use Rattle.std.specs.Prelude.{List, ℕ, ◌-◌}
use Rattle.memory_rings.specs.Links.{first_of}
use Rattle.memory_columns.specs.Layout as Layout
use Rattle.memory_columns.specs.Layout.{words}
use Rattle.memory_queues.specs.Moves.{wait_anchor, mail_anchor, free_anchor, node_of_block}

-- the first task that waits on object o of the kind with number k, 0 if none does
unfoldable pub first_waiter : ℕ → ℕ → List ℕ → ℕ
first_waiter k o b = first_of (words Layout.next b) (wait_anchor k o)

-- the first message in mailbox o, 0 if it is empty
unfoldable pub first_message : ℕ → List ℕ → ℕ
first_message o b = first_of (words Layout.mail_next b) (mail_anchor o)

-- the first free block of pool o, 0 if none is free: of its node what comes before the pool's is taken off
unfoldable pub first_block : ℕ → List ℕ → ℕ
first_block o b = first_of (words Layout.block_next b) (free_anchor o) - node_of_block o 0
