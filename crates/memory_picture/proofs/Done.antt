-- What an act done on a memory has to be, part by part, so that the memory afterwards shows the view after the act.
use mathlib.Core.List.{List, map}
use mathlib.Core.Path.{◌≡◌, refl, sym, ap, ◌∙◌, subst}
use Prim.Native.Nat.{ℕ, ◌*◌, ◌≤◌, ◌<◌, ◌^◌}
use native.Mathlib.Omega.{arith}
use lib.Dec.{lit≤}
use lib.ListN.{length}
use Rattle.rules.specs.Ids.{ids, In}
use Rattle.rules.specs.State.{Store, Body}
use Rattle.rules.specs.Places.{Place, ready_at, waiters, mail, free_in, sort_at, line_at, Exists, tabulate}
use Rattle.rules.specs.Acts.{Act, after, move}
use Rattle.rules.specs.View.{moved, act}
use Rattle.rules.proofs.Ids.{length_ids, map_ids}
use Rattle.rules.proofs.Lines.{line_tabulate, tabulate_same, exists_after, exists_before}
use Rattle.memory_rings.specs.Rings.{line_of, Linked}
use Rattle.memory_rings.proofs.Laws.{linked_ext, linked_use, line_is}
use Rattle.memory_columns.specs.declared.Rings.{Rings}
use Rattle.memory_columns.specs.declared.Rings.TheVariants.{Tasks, Messages, Blocks}
use Rattle.memory_columns.specs.Layout as Layout
use Rattle.memory_columns.specs.Layout.{state_words, max_priorities, max_tasks, max_messages, max_blocks, ready_node, next_of, prev_of, words, entry}
use Rattle.memory_picture.specs.Picture.{task_shown, tasks_shown, store_shown, body_shown, anchor, rings_at, ids_shown, numbers_of, nodes_shown, line_shown, view_shown, mask_of, occupied, nonempty_shown, Used, Whole, Shows, Accepted}
use Rattle.memory_picture.proofs.Lines.{Step, next_after, prev_after, word_after, line_after, Fine, step_law, object_kind, differ, Follows}
use Rattle.memory_picture.proofs.Nonempty.{word_law}

-- the clock's low half is a word
abbrev pub LowClock : List ℕ → Type 0
LowClock b = entry Layout.system b Layout.clock_low < 2 ^ 32

-- act a takes the memory b with the marks msgs to c with the marks marks
pub record Done (a : Act) (b msgs c marks : List ℕ) : Type 0 where
  pub size : length c ≡ state_words
  pub many : length marks ≡ max_messages
  pub body : body_shown c marks ≡ after a (body_shown b msgs)
  -- who moves in the rings of each sort
  pub steps : Rings → Step
  pub fine : (r : Rings) → Fine (ids_shown b r) (Used (store_shown b msgs) r) (steps r)
  pub next : (r : Rings) → words (next_of r) c ≡ next_after (steps r) (words (next_of r) b) (words (prev_of r) b)
  pub prev : (r : Rings) → words (prev_of r) c ≡ prev_after (steps r) (words (next_of r) b) (words (prev_of r) b)
  pub word : entry Layout.nonempty c 0 ≡ word_after (steps Tasks) (words Layout.next b) (words Layout.prev b) (entry Layout.nonempty b 0)
  pub counts : (i : ℕ) → i < Layout.clock_low → entry Layout.system c i ≡ entry Layout.system b i
  -- the clock's low half stays a word
  pub low_half : LowClock b → LowClock c
  pub lines : Follows (store_shown b msgs) (after a (body_shown b msgs)) (move (body_shown b msgs) a) (nodes_shown b) steps

-- the anchor of a queue that there is, is in use
pub used_at : {u : Store} (q : Place) → Exists u q → Used u (rings_at q) (anchor q)
used_at q e = record { place = q; there = e; among = refl; here = refl }

-- the same anchors are in use where the same queues are
pub used_by : {u w : Store} → ((q : Place) → Exists u q → Exists w q) → (r : Rings) (x : ℕ) → Used u r x → Used w r x
used_by f r x h = record { place = h.place; there = f h.place h.there; among = h.among; here = h.here }

module _ (a : Act) (b msgs c marks : List ℕ) (A : Accepted b msgs) (D : Done a b msgs c marks) where
  same_store : store_shown c marks ≡ (after a (body_shown b msgs)).store
  unfolding body_shown
  same_store = ap (λ (x : Body). x.store) D.body

  there : (q : Place) → Exists (store_shown b msgs) q → Exists (store_shown c marks) q
  unfolding body_shown
  there q e = subst (λ (u : Store). Exists u q) (sym same_store) (exists_before a (body_shown b msgs) q e)

  here : (q : Place) → Exists (store_shown c marks) q → Exists (store_shown b msgs) q
  unfolding body_shown
  here q e = exists_after a (body_shown b msgs) q (subst (λ (u : Store). Exists u q) same_store e)

  -- as many ids
  same_ids : (r : Rings) → ids_shown c r ≡ ids_shown b r
  same_ids Tasks = D.counts Layout.tasks (lit≤ tt)
  same_ids Messages = D.counts Layout.messages (lit≤ tt)
  same_ids Blocks = ap (λ (n : ℕ). max_blocks * n) (D.counts Layout.pools (lit≤ tt))

  rings_linked : (r : Rings) → Linked (ids_shown b r) (Used (store_shown b msgs) r) (words (next_of r) c) (words (prev_of r) c) (λ x. line_after (D.steps r) x (line_of (ids_shown b r) (words (next_of r) b) x))
  rings_linked r = rw (D.next r, D.prev r) (step_law (A.whole.rings r) (D.steps r) (D.fine r))

  -- the word of nonempty ready queues
  ready_used : (p : ℕ) → In p (entry Layout.system b Layout.priorities) → Used (store_shown b msgs) Tasks (ready_node p)
  unfolding anchor store_shown
  ready_used p r = used_at (ready_at p) r

  ready_known : (q : ℕ) → In q max_priorities → Used (store_shown b msgs) Tasks (ready_node q) → q ≤ entry Layout.system b Layout.priorities
  unfolding anchor store_shown
  ready_known q r h = go h.place h.there h.among h.here
    where
      go : (p : Place) → Exists (store_shown b msgs) p → rings_at p ≡ Tasks → anchor p ≡ ready_node q → q ≤ entry Layout.system b Layout.priorities
      go (ready_at p) e m k = omega (arith, e.1)
      go (waiters j o) e m k = absurd (omega (arith, e.0, r.1, object_kind j))
      go (mail n) e m k = absurd (differ m (λ z. omega arith))
      go (free_in n) e m k = absurd (differ m (λ z. omega arith))

  few_tasks : tasks_shown b ≤ max_tasks
  unfolding view_shown body_shown
  few_tasks = omega (arith, A.sound.body.sizes.tasks.1, length_ids (task_shown b) (tasks_shown b))

  few_priorities : entry Layout.system b Layout.priorities ≤ max_priorities
  unfolding view_shown body_shown store_shown
  few_priorities = A.sound.body.sizes.priorities.1

  word : entry Layout.nonempty c 0 ≡ nonempty_shown c
  unfolding nonempty_shown line_shown anchor
  word =
      D.word
      ∙ word_law (A.whole.rings Tasks) few_tasks (entry Layout.system b Layout.priorities) few_priorities ready_used ready_known (D.steps Tasks) (D.fine Tasks) (entry Layout.nonempty b 0) A.whole.word
      ∙ ap mask_of (map_ids _ (λ p. occupied (line_of (tasks_shown c) (words Layout.next c) (ready_node p))) (entry Layout.system b Layout.priorities)
      (λ p r. ap occupied (sym (ap (λ (n : ℕ). line_of n (words Layout.next c) (ready_node p)) (same_ids Tasks) ∙ line_is (rings_linked Tasks) (ready_node p) (ready_used p r)))))
      ∙ ap (λ (n : ℕ). mask_of (map (λ p. occupied (line_of (tasks_shown c) (words Layout.next c) (ready_node p))) (ids n))) (sym (D.counts Layout.priorities (lit≤ tt)))

  whole : Whole c marks
  whole = record {
    word = word;
    size = D.size;
    marks = D.many;
    low = D.low_half A.whole.low;
    rings = λ r. let M = linked_use (rings_linked r) (Used (store_shown c marks) r) (used_by there r) (used_by here r) in
        subst (λ (n : ℕ). Linked n (Used (store_shown c marks) r) (words (next_of r) c) (words (prev_of r) c) (line_of n (words (next_of r) c))) (sym (same_ids r)) (linked_ext M _ (λ x w. sym (line_is M x w)));
  }

  line : (q : Place) → Exists (store_shown b msgs) q → line_shown c q ≡ moved (after a (body_shown b msgs)) (move (body_shown b msgs) a) q (line_shown b q)
  unfolding line_shown
  line q e =
      ap (λ (n : ℕ). numbers_of (sort_at q) (line_of n (words (next_of (rings_at q)) c) (anchor q))) (same_ids (rings_at q))
      ∙ ap (numbers_of (sort_at q)) (line_is (rings_linked (rings_at q)) (anchor q) (used_at q e)) ∙ sym (D.lines q e)

  pub shows_done : Shows c marks (act a (view_shown b msgs))
  unfolding view_shown body_shown act
  shows_done = record { whole = whole; view = λ z. record { body = D.body z; lines = tables z } }
    where
      tables : tabulate (store_shown c marks) (line_shown c)
          ≡ tabulate (after a (body_shown b msgs)).store (λ q. moved (after a (body_shown b msgs)) (move (body_shown b msgs) a) q (line_at (tabulate (store_shown b msgs) (line_shown b)) q))
      tables =
          ap (λ (u : Store). tabulate u (line_shown c)) same_store
          ∙ tabulate_same _ _ _ (λ q e. let f = exists_after a (body_shown b msgs) q e in
          line q f ∙ ap (λ (l : List ℕ). moved (after a (body_shown b msgs)) (move (body_shown b msgs) a) q l) (sym (line_tabulate (store_shown b msgs) (line_shown b) q f)))
