-- The act on the handlers: two words of their column are written, and nobody moves.
use mathlib.Core.List.{List, [], ◌∷◌}
use mathlib.Core.Path.{◌≡◌, refl, ap, ◌∙◌}
use Prim.Native.Nat.{ℕ}
use native.Mathlib.Omega.{arith}
use lib.Dec.{lit<}
use lib.ListN.{get_or}
use Rattle.rules.specs.State.{Handlers, depth}
use Rattle.rules.specs.Acts.{nest, after, move}
use Rattle.memory_columns.specs.Layout as Layout
use Rattle.memory_columns.specs.Layout.{handling, next_of, prev_of, entry, Only}
use Rattle.memory_columns.proofs.Frame.{put_size, put_only, entry_put, entry_other, only_on}
use Rattle.memory_objects.specs.Moves.{nested}
use Rattle.memory_picture.specs.Picture.{open_shown, handlers_shown, store_shown, body_shown, Accepted}
use Rattle.memory_picture.specs.Perform.{interrupted_kept}
use Rattle.memory_picture.proofs.Lines.{rest, follows_stay}
use Rattle.memory_picture.proofs.Done.{Done}
use Rattle.memory_picture.proofs.Touched.{tasks_kept, store_stays, counter_kept, rings_clear}
use Rattle.memory_picture.proofs.FormWords.{back_handlers}

module _ (b msgs : List ℕ) (A : Accepted b msgs) (d i : ℕ) where
  abbrev deep : List ℕ
  deep = Layout.put handling Layout.depth d b

  nested_only : Only (handling ∷ []) b (nested d i b)
  unfolding nested
  nested_only = only_on (put_only handling Layout.depth d b) (put_only handling Layout.interrupted i deep)

  nested_depth : entry handling (nested d i b) Layout.depth ≡ d
  unfolding nested
  nested_depth = entry_other handling Layout.interrupted i deep handling refl refl Layout.depth (λ e. omega arith) ∙ entry_put handling Layout.depth d b A.whole.size refl (lit< tt)

  nested_interrupted : entry handling (nested d i b) Layout.interrupted ≡ i
  unfolding nested
  nested_interrupted = entry_put handling Layout.interrupted i deep (put_size handling Layout.depth d b A.whole.size) refl (lit< tt)

  nested_shown : handlers_shown (nested d i b) ≡ open_shown d i
  unfolding handlers_shown
  nested_shown = λ z. open_shown (nested_depth z) (nested_interrupted z)

module _ (b msgs : List ℕ) (A : Accepted b msgs) (h : Handlers) where
  abbrev words_after : List ℕ
  words_after = nested (depth h) (interrupted_kept h) b

  abbrev only : Only (handling ∷ []) b words_after
  only = nested_only b msgs A (depth h) (interrupted_kept h)

  body : body_shown words_after msgs ≡ after (nest h) (body_shown b msgs)
  unfolding body_shown store_shown after
  body = λ z. record {
    tasks = tasks_kept only refl refl z;
    store = store_stays b words_after msgs msgs only refl refl z;
    handlers = (nested_shown b msgs A (depth h) (interrupted_kept h) ∙ back_handlers h) z;
    counter = counter_kept only refl refl z;
  }

  pub nest_done : Done (nest h) b msgs words_after msgs
  unfolding move nested
  nest_done = record {
    size = put_size handling Layout.interrupted (interrupted_kept h) _ (put_size handling Layout.depth (depth h) b A.whole.size);
    many = A.whole.marks;
    body = body;
    steps = λ r. rest;
    fine = λ r. tt;
    next = λ r. only.kept (next_of r) (rings_clear (handling ∷ []) refl r).0;
    prev = λ r. only.kept (prev_of r) (rings_clear (handling ∷ []) refl r).1;
    word = ap (λ (l : List ℕ). get_or l 0 0) (only.kept Layout.nonempty refl);
    counts = λ i k. ap (λ (l : List ℕ). get_or l i 0) (only.kept Layout.system refl);
    low_half = λ k. rw (only.kept Layout.system refl) k;
    lines = follows_stay (store_shown b msgs) _ _;
  }
