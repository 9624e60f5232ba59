-- An act changes no number of the setup: as many priorities, tasks, objects, messages, blocks and alarms as before, and the counter's m.
use mathlib.Core.List.{List, [], ◌∷◌}
use mathlib.Core.Path.{◌≡◌, refl, ◌∙◌}
use Prim.Native.Nat.{ℕ}
use lib.ListN.{length, length-map}
use Rattle.rules.specs.Ids.{of}
use Rattle.rules.specs.State.{Kind, semaphore, flag, mailbox, pool, Task, Store, Counter, Body, objects}
use Rattle.rules.specs.Acts.{Act, start, retire, create, delete, rotate, regrade, wait, release, suspend, resume, wakeups, count, pattern, post, receive, mark, elapse, nest, alarm, with_clock, with_tasks, with_store, with_counter, after, afters}
use Rattle.rules.proofs.Ids.{length_put, of_put_test}

pub record SameSizes (b c : Body) : Type 0 where
  pub priorities : c.store.priorities ≡ b.store.priorities
  pub tasks : length c.tasks ≡ length b.tasks
  pub objects : (k : Kind) → objects c.store k ≡ objects b.store k
  pub messages : length c.store.messages ≡ length b.store.messages
  pub blocks : (p : ℕ) → length (of c.store.pools p []) ≡ length (of b.store.pools p [])
  pub counter : c.counter.size ≡ b.counter.size
  pub alarms : length c.counter.alarms ≡ length b.counter.alarms

pub sizes_then : {b c d : Body} → SameSizes b c → SameSizes c d → SameSizes b d
sizes_then h g = record {
  priorities = g.priorities ∙ h.priorities;
  tasks = g.tasks ∙ h.tasks;
  objects = λ k. g.objects k ∙ h.objects k;
  messages = g.messages ∙ h.messages;
  blocks = λ p. g.blocks p ∙ h.blocks p;
  counter = g.counter ∙ h.counter;
  alarms = g.alarms ∙ h.alarms;
}

-- as many tasks
pub sizes_tasks : (b : Body) (l : List Task) → length l ≡ length b.tasks → SameSizes b (with_tasks l b)
sizes_tasks b l e = record { priorities = refl; tasks = e; objects = λ k. refl; messages = refl; blocks = λ p. refl; counter = refl; alarms = refl }

-- as many objects of each kind, as many messages and blocks
sizes_store : (b : Body) (w : Store) → w.priorities ≡ b.store.priorities → length w.semaphores ≡ length b.store.semaphores → length w.flags ≡ length b.store.flags
    → w.mailboxes ≡ b.store.mailboxes → length w.messages ≡ length b.store.messages → length w.pools ≡ length b.store.pools
    → ((p : ℕ) → length (of w.pools p []) ≡ length (of b.store.pools p [])) → SameSizes b (with_store w b)
sizes_store b w n s f m j p k = record { priorities = n; tasks = refl; objects = each; messages = j; blocks = k; counter = refl; alarms = refl }
  where
    each : (k : Kind) → objects w k ≡ objects b.store k
    each semaphore = s
    each flag = f
    each mailbox = m
    each pool = p

pub sizes_clock : (b : Body) (n : ℕ) → SameSizes b (with_store (with_clock n b.store) b)
sizes_clock b n = sizes_store b _ refl refl refl refl refl refl (λ p. refl)

sizes_counter : (b : Body) (r : Counter) → r.size ≡ b.counter.size → length r.alarms ≡ length b.counter.alarms → SameSizes b (with_counter r b)
sizes_counter b r m n = record { priorities = refl; tasks = refl; objects = λ k. refl; messages = refl; blocks = λ p. refl; counter = m; alarms = n }

pub sizes_after : (a : Act) (b : Body) → SameSizes b (after a b)
unfolding after
sizes_after (start i) b = sizes_tasks b _ (length_put b.tasks i _)
sizes_after (retire i) b = sizes_tasks b _ (length_put b.tasks i _)
sizes_after (create i p) b = sizes_tasks b _ (length_put b.tasks i _)
sizes_after (delete i) b = sizes_tasks b _ (length_put b.tasks i _)
sizes_after (rotate i) b = sizes_tasks b b.tasks refl
sizes_after (regrade i p) b = sizes_tasks b _ (length_put b.tasks i _)
sizes_after (wait i w) b = sizes_tasks b _ (length_put b.tasks i _)
sizes_after (release i c w) b = sizes_tasks b _ (length_put b.tasks i _)
sizes_after (suspend i) b = sizes_tasks b _ (length_put b.tasks i _)
sizes_after (resume i) b = sizes_tasks b _ (length_put b.tasks i _)
sizes_after (wakeups i n) b = sizes_tasks b _ (length_put b.tasks i _)
sizes_after (count s n) b = sizes_store b _ refl (length_put b.store.semaphores s n) refl refl refl refl (λ p. refl)
sizes_after (pattern f n) b = sizes_store b _ refl refl (length_put b.store.flags f n) refl refl refl (λ p. refl)
sizes_after (post j m) b = sizes_store b _ refl refl refl refl (length_put b.store.messages j _) refl (λ p. refl)
sizes_after (receive j) b = sizes_store b _ refl refl refl refl (length_put b.store.messages j _) refl (λ p. refl)
sizes_after (mark q k t) b =
    sizes_store b _ refl refl refl refl refl (length_put b.store.pools q _) (λ p. of_put_test length b.store.pools q p _ [] (length_put (of b.store.pools q []) k t))
sizes_after elapse b = sizes_then (sizes_then (sizes_tasks b _ (length-map b.tasks _)) (sizes_clock _ _)) (sizes_counter _ _ refl refl)
sizes_after (nest h) b = record { priorities = refl; tasks = refl; objects = λ k. refl; messages = refl; blocks = λ p. refl; counter = refl; alarms = refl }
sizes_after (alarm k c s) b = sizes_counter b _ refl (length_put b.counter.alarms k _)

pub sizes_afters : (l : List Act) (b : Body) → SameSizes b (afters l b)
unfolding afters
sizes_afters [] b = sizes_tasks b b.tasks refl
sizes_afters (a ∷ l) b = sizes_then (sizes_after a b) (sizes_afters l (after a b))
