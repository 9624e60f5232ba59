-- A memory with another clock written is accepted still, and shows what it showed but for the clock. Assumes nothing.
use mathlib.Core.Bool.{true, cond}
use mathlib.Core.List.{List, map}
use mathlib.Core.Path.{◌≡◌, refl, ap, ◌∙◌}
use Prim.Native.Nat.{ℕ, zero, suc, pred, ◌/◌, ◌%◌, ◌^◌, ◌<◌}
use native.Mathlib.Omega.{arith}
use lib.Bits.{bit_or}
use lib.Dec.{eqb, ltb}
use lib.ListN.{length, get_or, set, length-set}
use lib.Seq.{get_or-set_same, get_or-set_other}
use borrow.Author.Tests.{ltb-true, lt-ltb}
use Rattle.rules.specs.Ids.{of, ids}
use Rattle.rules.specs.Places.{tabulate}
use Rattle.rules_examples.specs.BenchSheet.{at_clock}
use Rattle.memory_rings.specs.Links.{first_of}
use Rattle.memory_rings.proofs.Columns.{col_store, length_store}
use Rattle.memory_columns.specs.declared.Rings.{Rings}
use Rattle.memory_columns.specs.declared.Rings.TheVariants.{Tasks, Messages, Blocks}
use Rattle.memory_columns.specs.Layout as Layout
use Rattle.memory_columns.specs.Layout.{links_of, words, entry}
use Rattle.memory_columns.proofs.Frame.{words_length}
use Rattle.memory_queues.specs.Moves.{ready_anchor}
use Rattle.memory_running.specs.Running.{head_at, marks_of, ready_marks}
use Rattle.memory_picture.specs.Picture.{task_shown, store_shown, handlers_shown, alarm_shown, counter_shown, body_shown, line_shown, view_shown, Accepted}
use Rattle.memory_picture.proofs.FormWords.{back_clock}
use Rattle.check_ranges.specs.Ranges.{sizes_ok, present_ok, vacant_ok, task_ok, wait_ok, state_ok, semaphore_ok, flag_ok, pool_ok, message_ok, open_ok, interrupted_ok, alarm_ok, count_ok, ranges_ok}
use Rattle.check_links.specs.Survey.{budget}
use Rattle.check_queues.specs.Queues.{home, count_in, table_in, table_of, ranges, ranges_of, queued_in}
use Rattle.check_state.specs.Unserved.{wait_free, unserved_ok, accepts}
use Rattle.check_state.proofs.Accepted.{accepts_law}
use Rattle.kernel_demands.specs.Demands.{clock_set}

-- ---- the words of the system

-- the counts stay
counts : (w : List ℕ) (x y i : ℕ) → ltb i 7 ≡ true → get_or (set (set w 7 x) 8 y) i 0 ≡ get_or w i 0
counts w x y i h = let k = ltb-true i 7 h in get_or-set_other (set w 7 x) 8 i y 0 (λ e. omega arith) ∙ get_or-set_other w 7 i x 0 (λ e. omega arith)

low_half : (w : List ℕ) (x y : ℕ) → length w ≡ (Layout.system).width → get_or (set (set w 7 x) 8 y) 7 0 ≡ x
low_half w x y h = get_or-set_other (set w 7 x) 8 7 y 0 (λ e. omega arith) ∙ get_or-set_same w 7 x 0 (omega arith)

high_half : (w : List ℕ) (x y : ℕ) → length w ≡ (Layout.system).width → get_or (set (set w 7 x) 8 y) 8 0 ≡ y
high_half w x y h = get_or-set_same (set w 7 x) 8 y 0 (rw (length-set w 7 x) (omega arith))

-- ---- the memory

module _ {b m : List ℕ} (A : Accepted b m) (t : ℕ) where
  wide : length (words Layout.system b) ≡ (Layout.system).width
  wide = words_length Layout.system b A.whole.size refl

  pub clock_shown_lem : view_shown (clock_set t b) m ≡ record { body = at_clock t (view_shown b m).body; lines = (view_shown b m).lines }
  unfolding view_shown body_shown store_shown task_shown handlers_shown alarm_shown counter_shown line_shown tabulate
  clock_shown_lem = simp (col_store, counts, low_half, high_half, wide, back_clock, task_shown, alarm_shown, entry)

  module _ (h : t < 2 ^ 48) where
    -- the clock's halves are in range, before and after
    halves : (ltb (entry Layout.system b 7) (2 ^ 32) ≡ true) × (ltb (entry Layout.system b 8) (2 ^ 16) ≡ true) × (ltb (t % 2 ^ 32) (2 ^ 32) ≡ true) × (ltb (t / 2 ^ 32) (2 ^ 16) ≡ true)
    unfolding view_shown body_shown store_shown
    halves = (
      lt-ltb _ _ A.whole.low,
      lt-ltb (entry Layout.system b 8) (2 ^ 16) (omega (arith, A.sound.body.store.clock)),
      lt-ltb (t % 2 ^ 32) (2 ^ 32) (omega arith),
      lt-ltb (t / 2 ^ 32) (2 ^ 16) (omega arith),
    )

    sizes : sizes_ok (clock_set t b) ≡ sizes_ok b
    unfolding sizes_ok
    sizes = simp (col_store, counts, low_half, high_half, wide, halves.0, halves.1, halves.2, halves.3)

    next_kept : words Layout.next (clock_set t b) ≡ words Layout.next b
    next_kept = simp col_store

    marks_kept : (n p w : ℕ) → marks_of n p w (clock_set t b) ≡ marks_of n p w b
    unfolding marks_of
    marks_kept zero p w = refl
    marks_kept (suc n) p w =
        marks_kept n (suc p) (cond (eqb (head_at (clock_set t b) p) 0) w (bit_or w (2 ^ pred p)))
        ∙ ap (λ (l : List ℕ). marks_of n (suc p) (cond (eqb (first_of l (ready_anchor p)) 0) w (bit_or w (2 ^ pred p))) b) next_kept

    ready : ready_marks (clock_set t b) ≡ ready_marks b
    unfolding ready_marks
    ready = simp (marks_kept, col_store, counts)

    -- nor do the homes and the queues move
    home_kept : (i : ℕ) → home (clock_set t b) i ≡ home b i
    unfolding home
    home_kept i = simp col_store

    mask_kept : (p : ℕ) → entry Layout.free (clock_set t b) p ≡ entry Layout.free b p
    mask_kept p = simp col_store

    count_kept : (r : Rings) → count_in (clock_set t b) r ≡ count_in b r
    count_kept Tasks = simp (col_store, counts)
    count_kept Messages = simp (col_store, counts)
    count_kept Blocks = simp (col_store, counts)

    tables_kept : (r : Rings) → table_in (clock_set t b) m r ≡ table_in b m r
    tables_kept Tasks = λ z. map (λ i. home_kept i z) (ids (count_kept Tasks z))
    tables_kept Messages = λ z. map (λ j. of m j 0) (ids (count_kept Messages z))
    tables_kept Blocks = λ z. map (λ p. mask_kept p z) (ids (count_kept Blocks z))

    links_kept : (r : Rings) → words (links_of r) (clock_set t b) ≡ words (links_of r) b
    links_kept Tasks = simp col_store
    links_kept Messages = simp col_store
    links_kept Blocks = simp col_store

    ranges_kept : (r : Rings) → ranges_of (clock_set t b) r ≡ ranges_of b r
    ranges_kept Tasks = simp (col_store, counts)
    ranges_kept Messages = simp (col_store, counts)
    ranges_kept Blocks = simp (col_store, counts)

    queues_kept : (r : Rings) → queued_in (clock_set t b) m r ≡ queued_in b m r
    unfolding queued_in
    queues_kept r = λ z. eqb (ranges (links_kept r z) (table_of r) (tables_kept r z) (ranges_kept r z) (budget (links_kept r z) (table_of r) (tables_kept r z))) 1

    -- no other test reads the clock
    tests : accepts (clock_set t b) m ≡ accepts b m
    unfolding accepts ranges_ok present_ok vacant_ok task_ok state_ok wait_ok pool_ok open_ok interrupted_ok alarm_ok count_ok unserved_ok wait_free
    tests = simp (sizes, ready, queues_kept, col_store, counts, present_ok, vacant_ok, task_ok, semaphore_ok, flag_ok, pool_ok, message_ok, alarm_ok, unserved_ok)

    pub clock_accepted : Accepted (clock_set t b) m
    clock_accepted = (accepts_law (clock_set t b) m (simp length_store A.whole.size) A.whole.marks).0 (tests ∙ (accepts_law b m A.whole.size A.whole.marks).1 A)
