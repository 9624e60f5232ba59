-- Each sound view has an accepted form, of 32-bit words; the fresh view of every accepted setup among them. Assumes nothing.
use mathlib.Core.Bool.{true, false≢true}
use mathlib.Core.List.{List, [], ◌∷◌, map, reverse}
use mathlib.Core.Logic.{◌⊎◌, inl, inr}
use mathlib.Core.Option.{none}
use mathlib.Core.Path.{◌≡◌, refl, sym, ap, ◌∙◌, subst}
use Prim.Native.Nat.{ℕ, zero, suc, ◌^◌, ◌<◌}
use native.Mathlib.Nat.{zero-add}
use native.Mathlib.Omega.{arith}
use lib.Dec.{lit<, lit≤}
use lib.ListN.{length, get_or}
use Rattle.rules.specs.Ids.{of, ids, In}
use Rattle.rules.specs.State.{Task, Store, Handlers, no_handler, in_handler, depth, alarm_of, no_alarm, task, nobody, objects, is_freed}
use Rattle.rules.specs.Places.{Place, ready_at, sort_at, at, each, Lines, line_at, Exists, tabulate}
use Rattle.rules.specs.View.{View}
use Rattle.rules.specs.Sound.{Shape, HandlersFit, Sound}
use Rattle.rules.proofs.Ids.{inside, length_ids, map_ids}
use Rattle.rules.proofs.Lines.{tabulate_same}
use Rattle.memory_columns.specs.declared.Rings.{Rings}
use Rattle.memory_columns.specs.declared.Rings.TheVariants.{Tasks, Messages, Blocks}
use Rattle.memory_columns.specs.Layout as Layout
use Rattle.memory_columns.specs.Layout.{max_messages, next_of, prev_of, words, entry}
use Rattle.memory_columns.proofs.Tiling.{columns_tile}
use Rattle.memory_rings.specs.Rings.{line_of, Linked}
use Rattle.memory_picture.specs.Picture.{store_shown, anchor, rings_at, ids_shown, numbers_of, line_shown, view_shown, mask_of, occupied, nonempty_shown, Used, Whole, Accepted}
use Rattle.memory_picture.specs.Perform.{interrupted_kept}
use Rattle.memory_picture.specs.Form.{Fits32, box_number, system_words, handling_words, counter_words, node_lines, ring_link, entries, parts, form_of, marks_of}
use Rattle.memory_picture.proofs.FormPile.{length_run, run_all, length_pile, pile_all, entries_all, table_is}
use Rattle.memory_picture.proofs.FormWords.{mask_small, message_small, Small, task_small, nobody_small, SmallAlarm, alarm_small, no_alarm_small}
use Rattle.memory_picture.proofs.FormBody.{marks, form, ids_count, priorities_count, low_clock, at_nonempty, next_words, prev_words, store_shown_lem, body_shown_lem}
use Rattle.memory_picture.proofs.FormHomes.{numbers_nodes, rings_linked, ring_line, nodes_small, back_small, ring_link_small}

-- a table of lines is made from its lines
pub tabulate_shape : (u : Store) (l : Lines) → Shape u l → tabulate u (line_at l) ≡ l
unfolding tabulate line_at
tabulate_shape u l h = λ z. record {
  ready = table_is l.ready u.priorities (λ p. of l.ready p []) [] (sym h.ready) (λ p r. refl) z;
  waiting = each (λ k. table_is (at l.waiting k) (objects u k) (λ o. of (at l.waiting k) o []) [] (sym (h.waiting k)) (λ o r. refl) z);
  mail = table_is l.mail u.mailboxes (λ m. of l.mail m []) [] (sym h.mail) (λ m r. refl) z;
  free = table_is l.free (length u.pools) (λ p. of l.free p []) [] (sym h.free) (λ p r. refl) z;
}

-- ---- 32-bit words

infixr 20 ◌also◌
abbrev ◌also◌ : {A B : Type 0} → A → B → A × B
a also b = (a, b)

-- the entry of any id, if that of each id that there is and the default are small
entries_small : {A : Type 0} (f : A → ℕ) (l : List A) (d : A) → f d < 2 ^ 32 → ((i : ℕ) → In i (length l) → f (of l i d) < 2 ^ 32) → (i : ℕ) → f (of l i d) < 2 ^ 32
entries_small f l d z h i = elim (inside l i d) [ inl r ↦ h i r | inr e ↦ rw e z ]

word_small : (l : List ℕ) → Fits32 l → (k : ℕ) → get_or l k 0 < 2 ^ 32
word_small [] h k = lit< tt
word_small (x ∷ l) h zero = h.0
word_small (x ∷ l) h (suc k) = word_small l h.1 k

-- the same count of ids and the same tables
same_rings : {n m : ℕ} {U : ℕ → Type 0} {nx nx' pv pv' : List ℕ} → n ≡ m → nx ≡ nx' → pv ≡ pv' → Linked n U nx pv (line_of n nx) → Linked m U nx' pv' (line_of m nx')
same_rings {n} {m} {U} {nx} {nx'} {pv} {pv'} e f g L =
    subst (λ (k : ℕ). Linked k U nx' pv' (line_of k nx')) e (subst (λ (l : List ℕ). Linked n U l pv' (line_of n l)) f (subst (λ (l : List ℕ). Linked n U nx l (line_of n nx)) g L))

-- ---- a sound view

module _ (v : View) (S : Sound v) where
  abbrev lines : Place → List ℕ
  lines = line_at v.lines

  -- ---- the view

  line_shown_lem : (q : Place) → Exists v.body.store q → line_shown (form v.body lines) q ≡ lines q
  unfolding line_shown
  line_shown_lem q e =
      (λ z. numbers_of (sort_at q) (line_of (ids_count v.body lines (rings_at q) z) (next_words v.body lines (rings_at q) z) (anchor q)))
      ∙ ap (numbers_of (sort_at q)) (ring_line v S q e) ∙ numbers_nodes (sort_at q) (lines q)

  pub form_shows : view_shown (form_of v) (marks_of v) ≡ v
  unfolding form_of marks_of view_shown
  form_shows = λ z. record { body = body_shown_lem v.body lines S.body z; lines = lines_shown z }
    where
      lines_shown : tabulate (store_shown (form v.body lines) (marks v.body)) (line_shown (form v.body lines)) ≡ v.lines
      lines_shown =
          ap (λ (u : Store). tabulate u (line_shown (form v.body lines))) (store_shown_lem v.body lines S.body)
          ∙ tabulate_same v.body.store (line_shown (form v.body lines)) lines line_shown_lem
          ∙ tabulate_shape v.body.store v.lines S.shape

  -- ---- whole

  nonempty_word : entry Layout.nonempty (form v.body lines) 0 ≡ nonempty_shown (form v.body lines)
  unfolding nonempty_shown
  nonempty_word =
      at_nonempty v.body lines
      ∙ ap mask_of (map_ids (λ p. occupied (lines (ready_at p))) (λ p. occupied (line_shown (form v.body lines) (ready_at p))) v.body.store.priorities (λ p r. ap occupied (sym (line_shown_lem (ready_at p) r))))
      ∙ ap (λ (n : ℕ). mask_of (map (λ p. occupied (line_shown (form v.body lines) (ready_at p))) (ids n))) (sym (priorities_count v.body lines))

  pub form_whole : Whole (form_of v) (marks_of v)
  unfolding form_of marks_of
  form_whole = record {
    size = rw zero-add at (length_pile (entries (parts v.body lines)) 0 Layout.columns Layout.state_words columns_tile);
    marks = length_run max_messages _;
    word = nonempty_word;
    low = rw (low_clock v.body lines) (omega arith);
    rings = λ r.
        subst (λ (u : Store). Linked (ids_shown (form v.body lines) r) (Used u r) (words (next_of r) (form v.body lines)) (words (prev_of r) (form v.body lines)) (line_of (ids_shown (form v.body lines) r) (words (next_of r) (form v.body lines))))
        (sym (store_shown_lem v.body lines S.body)) (same_rings (sym (ids_count v.body lines r)) (sym (next_words v.body lines r)) (sym (prev_words v.body lines r)) (rings_linked v S r));
  }

  pub form_accepted : Accepted (form_of v) (marks_of v)
  form_accepted = record { whole = form_whole; sound = rw form_shows S }

  -- ---- its words

  small : (i : ℕ) → Small (task v.body i)
  small i = elim (inside v.body.tasks i nobody) [
    | inl r ↦ task_small v.body S.body.sizes (task v.body i) (S.body.tasks i r)
    | inr e ↦ rw e nobody_small
  ]

  system_small : Fits32 (system_words v.body)
  system_small =
      let z = S.body.sizes in
      let c = S.body.store.clock in
      omega (arith, z.priorities.1) also omega (arith, z.tasks.1) also omega (arith, z.semaphores) also omega (arith, z.flags) also omega (arith, z.mailboxes)
      also omega (arith, z.pools) also omega (arith, z.messages) also omega arith also omega (arith, c) also tt

  -- the interrupted task is one of the tasks, or none
  task_number : (i : ℕ) → (i ≡ 0) ⊎ (is_freed (task v.body i).state ≡ true) → i < 2 ^ 32
  task_number i (inl e) = rw e (lit< tt)
  task_number i (inr e) = elim (inside v.body.tasks i nobody) [
    | inl r ↦ omega (arith, r.1, S.body.sizes.tasks.1)
    | inr k ↦ absurd (false≢true (subst (λ (t : Task). is_freed t.state ≡ true) k e))
  ]

  handling_small : Fits32 (handling_words v.body)
  handling_small = go v.body.handlers S.body.handlers
    where
      go : (h : Handlers) → HandlersFit v.body.tasks h → Fits32 (depth h ∷ interrupted_kept h ∷ [])
      go no_handler f = lit< tt also lit< tt also tt
      go (in_handler n i) f = omega (arith, f.0) also task_number i f.1 also tt

  counter_small : Fits32 (counter_words v.body)
  counter_small = let c = S.body.counter in omega (arith, c.size) also elim c.now [ inl e ↦ omega (arith, e) | inr h ↦ omega (arith, h, c.size) ] also tt

  small_alarm : (k : ℕ) → SmallAlarm (alarm_of v.body.counter k)
  small_alarm k = elim (inside v.body.counter.alarms k no_alarm) [
    | inl r ↦ alarm_small (length v.body.tasks) v.body.counter.size _ S.body.sizes.tasks.1 S.body.counter.size (S.body.counter.alarms k r)
    | inr e ↦ rw e no_alarm_small
  ]

  link_small : (r : Rings) (x : ℕ) → x < (next_of r).width → ring_link v.body r (node_lines lines) x < 2 ^ 32
  link_small r = ring_link_small v S r (node_lines lines) (nodes_small v S)

  back_link_small : (r : Rings) (x : ℕ) → x < (next_of r).width → ring_link v.body r (λ q. reverse (node_lines lines q)) x < 2 ^ 32
  back_link_small r = ring_link_small v S r (λ q. reverse (node_lines lines q)) (back_small v S)

  pub form_fits : Fits32 (form_of v)
  unfolding form_of
  form_fits = pile_all (entries (parts v.body lines)) (λ x. x < 2 ^ 32) Layout.columns (entries_all (λ x. x < 2 ^ 32) (lit< tt) (parts v.body lines)
      ((λ i r. (small i).status) also (λ i r. (small i).priority) also (λ i r. (small i).start) also (λ i r. (small i).wakeups)
      also (λ i r. (small i).code) also (λ i r. (small i).word)
      also (λ i r. (small i).wait.kind) also (λ i r. (small i).wait.object) also (λ i r. (small i).wait.wish) also (λ i r. (small i).wait.mode) also (λ i r. (small i).wait.ticks)
      also link_small Tasks also back_link_small Tasks
      also (λ i r. entries_small (λ n. n) v.body.store.semaphores 0 (lit< tt) (λ s e. omega (arith, S.body.store.semaphores s e)) i)
      also (λ i r. entries_small (λ n. n) v.body.store.flags 0 (lit< tt) S.body.store.flags i)
      also (λ i r. entries_small mask_of v.body.store.pools [] (mask_small [] (lit≤ tt)) (λ p e. mask_small (of v.body.store.pools p []) (S.body.store.pools p e).1) i)
      also (λ i r. entries_small length v.body.store.pools [] (lit< tt) (λ p e. omega (arith, (S.body.store.pools p e).1)) i)
      also link_small Messages also back_link_small Messages
      also (λ k r. word_small (system_words v.body) system_small k) also (λ k r. word_small (handling_words v.body) handling_small k)
      also (λ k r. mask_small (map (λ p. occupied (lines (ready_at p))) (ids v.body.store.priorities)) (omega (arith, length_ids (λ p. occupied (lines (ready_at p))) v.body.store.priorities, S.body.sizes.priorities.1)))
      also link_small Blocks also back_link_small Blocks
      also (λ k r. word_small (counter_words v.body) counter_small k)
      also (λ k r. (small_alarm k).task) also (λ k r. (small_alarm k).wakes) also (λ k r. (small_alarm k).code) also (λ k r. (small_alarm k).due) also (λ k r. (small_alarm k).period) also tt))

  pub marks_fit : Fits32 (marks_of v)
  unfolding marks_of
  marks_fit = run_all (λ x. x < 2 ^ 32) max_messages _ (λ j r. entries_small box_number v.body.store.messages none (lit< tt)
      (λ i e. message_small v.body.store.mailboxes (of v.body.store.messages i none) S.body.sizes.mailboxes (S.body.store.messages i e)) (suc j))

-- THE THEOREM
pub every_view : (v : View) → Sound v → (b : List ℕ) × (msgs : List ℕ) × Accepted b msgs × (view_shown b msgs ≡ v) × Fits32 b × Fits32 msgs
every_view v S = (form_of v, marks_of v, form_accepted v S, form_shows v S, form_fits v S, marks_fit v S)
