-- However a recorded run is divided into parts, the items of the parts and of the end are those of its whole bytes. Assumes nothing.
use mathlib.Core.Bool.{Bool, true, false, true≢false}
use mathlib.Core.List.{List, [], ◌∷◌, ◌++◌}
use mathlib.Core.Path.{◌≡◌, refl, sym, ap, ◌∙◌}
use Prim.Native.Nat.{ℕ, zero, suc, ◌+◌, ◌≤◌, ◌<◌}
use native.Mathlib.Omega.{arith}
use lib.Dec.{leb}
use lib.ListN.{length, take, drop, length-append}
use borrow.Author.Tests.{le-leb, lt-leb, leb-true, leb-false}
use Rattle.rules.specs.Setup.{Fault, S1, S2, S3, S4, Read, got, refused, and_then, read_word, read_section, read_with, read_setup}
use Rattle.rules.specs.Writing.{joined}
use Rattle.run_reading.specs.Recorded.{Head, read_head, event_bytes, event_in, Item, begins, occurs, refuses, event_items, items_behind, items_of}
use Rattle.run_reading.specs.Recorder.{Recorder, heading, running, stopped, ended, begun, closed, on_head, eat, items, after, at_input_end, items_in, after_all}
use Rattle.run_reading.proofs.Reach.{got_stays, refused_stays, head_exact}

-- ---- lists

module _ {A : Type 0} where
  pub append_nil : (a : List A) → a ++ [] ≡ a
  append_nil [] = refl
  append_nil (x ∷ a) = ap (λ (l : List A). x ∷ l) (append_nil a)

  pub append_assoc : (a b c : List A) → (a ++ b) ++ c ≡ a ++ (b ++ c)
  append_assoc [] b c = refl
  append_assoc (x ∷ a) b c = ap (λ (l : List A). x ∷ l) (append_assoc a b c)

  take_front : (a b : List A) → take (length a) (a ++ b) ≡ a
  take_front [] b = refl
  take_front (x ∷ a) b = ap (λ (l : List A). x ∷ l) (take_front a b)

  drop_front : (a b : List A) → drop (length a) (a ++ b) ≡ b
  drop_front [] b = refl
  drop_front (x ∷ a) b = drop_front a b

-- ---- one part behind the other

pub items_append : (r : Recorder) (s t : List ℕ) → items r (s ++ t) ≡ items r s ++ items (after r s) t
unfolding items after
items_append r [] t = refl
items_append r (b ∷ s) t = ap (λ (l : List Item). (eat r b).items ++ l) (items_append (eat r b).next s t) ∙ sym (append_assoc (eat r b).items (items (eat r b).next s) (items (after (eat r b).next s) t))

pub after_append : (r : Recorder) (s t : List ℕ) → after r (s ++ t) ≡ after (after r s) t
unfolding after
after_append r [] t = refl
after_append r (b ∷ s) t = after_append (eat r b).next s t

-- ---- a recorder that is closed

pub closed_items : (r : Recorder) → closed r ≡ true → (s : List ℕ) → (items r s ≡ []) × (after r s ≡ r)
unfolding items after eat
closed_items r h [] = (refl, refl)
closed_items (heading l) h (b ∷ s) = absurd (true≢false (sym h))
closed_items (running n k p l) h (b ∷ s) = absurd (true≢false (sym h))
closed_items stopped h (b ∷ s) = closed_items stopped h s
closed_items ended h (b ∷ s) = closed_items ended h s

-- ---- from a recorder to the end

rest : Recorder → List ℕ → List Item
rest r s = items r s ++ at_input_end (after r s)

rest_next : (r : Recorder) (b : ℕ) (s : List ℕ) → rest r (b ∷ s) ≡ (eat r b).items ++ rest (eat r b).next s
unfolding rest items after
rest_next r b s = append_assoc (eat r b).items (items (eat r b).next s) (at_input_end (after (eat r b).next s))

rest_stopped : (s : List ℕ) → rest stopped s ≡ []
unfolding rest items after at_input_end eat
rest_stopped [] = refl
rest_stopped (b ∷ s) = rest_stopped s

-- fewer than event_bytes bytes of an event are kept; none where no event is to come
abbrev Few : ℕ → List ℕ → Type 0
Few zero l = l ≡ []
Few (suc n) l = length l < event_bytes

few_none : (n : ℕ) → Few n []
few_none zero = refl
few_none (suc n) = omega arith

rest_running : (n k p : ℕ) (l s : List ℕ) → Few n l → rest (running n k p l) s ≡ event_items n k p (l ++ s)
unfolding rest items after at_input_end eat event_items
rest_running zero k p l [] f = rw f
rest_running zero k p l (b ∷ s) f = rw f (ap (λ (x : List Item). refuses S4 p ∷ x) (rest_stopped s))
rest_running (suc n) k p l [] f = rw (append_nil l, lt-leb event_bytes (length l) f)
rest_running (suc n) k p l (b ∷ s) f =
    rest_next (running (suc n) k p l) b s
    ∙ go (rest_running n (suc k) (p + event_bytes) [] s (few_none n)) (λ g. rest_running (suc n) k p (l ++ (b ∷ [])) s g) (leb event_bytes (length (l ++ (b ∷ [])))) refl
  where
    h : List ℕ
    h = l ++ (b ∷ [])

    size : length h ≡ length l + 1
    size = length-append l (b ∷ [])

    joins : h ++ s ≡ l ++ (b ∷ s)
    joins = append_assoc l (b ∷ []) s

    go : rest (running n (suc k) (p + event_bytes) []) s ≡ event_items n (suc k) (p + event_bytes) s → (Few (suc n) h → rest (running (suc n) k p h) s ≡ event_items (suc n) k p (h ++ s))
        → (t : Bool) → leb event_bytes (length h) ≡ t → (eat (running (suc n) k p l) b).items ++ rest (eat (running (suc n) k p l) b).next s ≡ event_items (suc n) k p (l ++ (b ∷ s))
    go x y true e =
        let a : event_bytes ≤ length h = leb-true event_bytes (length h) e in
        let m : length h ≡ event_bytes = omega (arith, a, size, f) in
        let big : leb event_bytes (length (h ++ s)) ≡ true = le-leb event_bytes (length (h ++ s)) (omega (arith, length-append h s, m)) in
        let a : take event_bytes (h ++ s) ≡ h = ap (λ (j : ℕ). take j (h ++ s)) (sym m) ∙ take_front h s in
        let d : drop event_bytes (h ++ s) ≡ s = ap (λ (j : ℕ). drop j (h ++ s)) (sym m) ∙ drop_front h s in
        rw (e, ← joins, big, a, d) (ap (λ (z : List Item). occurs k (event_in h) ∷ z) x)
    go x y false e = rw (e, ← joins) (y (leb-false _ _ e))

rest_heading : (l s : List ℕ) (p : ℕ) → read_head l ≡ refused S1 p → rest (heading l) s ≡ items_of (l ++ s)
unfolding rest items after at_input_end eat items_of items_behind
rest_heading l [] p e = rw (append_nil l, e)
rest_heading l (b ∷ s) p e = rest_next (heading l) b s ∙ go (λ p' q. rest_heading (l ++ (b ∷ [])) s p' q) (read_head (l ++ (b ∷ []))) refl
  where
    h : List ℕ
    h = l ++ (b ∷ [])

    joins : h ++ s ≡ l ++ (b ∷ s)
    joins = append_assoc l (b ∷ []) s

    stops : (f : Fault) (p : ℕ) → read_head (h ++ s) ≡ refused f p → refuses f p ∷ rest stopped s ≡ items_of (l ++ (b ∷ s))
    stops f p q = rw (← joins, q, rest_stopped s)

    go : ((p' : ℕ) → read_head h ≡ refused S1 p' → rest (heading h) s ≡ items_of (h ++ s)) → (r : Read Head) → read_head h ≡ r → (on_head h r).items ++ rest (on_head h r).next s ≡ items_of (l ++ (b ∷ s))
    go on (got x i) q =
        let d : drop i (h ++ s) ≡ s = ap (λ (j : ℕ). drop j (h ++ s)) (head_exact l b p e x i q) ∙ drop_front h s in
        rw (← joins, got_stays h s x i q, d) (ap (λ (y : List Item). begins x ∷ y) (rest_running x.events 1 i [] s (few_none x.events)))
    go on (refused S1 p') q = on p' q ∙ ap items_of joins
    go on (refused S2 p') q = stops S2 p' (refused_stays h s S2 tt p' q)
    go on (refused S3 p') q = stops S3 p' (refused_stays h s S3 tt p' q)
    go on (refused S4 p') q = stops S4 p' (refused_stays h s S4 tt p' q)

-- the recorder, fed the whole, says what the bytes hold
pub whole : (s : List ℕ) → items begun s ++ at_input_end (after begun s) ≡ items_of s
unfolding rest read_head read_setup read_with read_section read_word and_then
whole s = rest_heading [] s 0 refl

-- ---- parts

parts_items : (r : Recorder) (l : List (List ℕ)) → items_in r l ≡ items r (joined l)
unfolding items_in items
parts_items r [] = refl
parts_items r (s ∷ l) = ap (λ (x : List Item). items r s ++ x) (parts_items (after r s) l) ∙ sym (items_append r s (joined l))

parts_after : (r : Recorder) (l : List (List ℕ)) → after_all r l ≡ after r (joined l)
unfolding after_all after
parts_after r [] = refl
parts_after r (s ∷ l) = parts_after (after r s) l ∙ sym (after_append r s (joined l))

-- however the bytes are divided
pub any_division : (l : List (List ℕ)) → items_in begun l ++ at_input_end (after_all begun l) ≡ items_of (joined l)
any_division l = rw (parts_items begun l, parts_after begun l) (whole (joined l))

-- what follows a refusal changes nothing
pub after_refusal : (s t : List ℕ) → closed (after begun s) ≡ true → items_of (s ++ t) ≡ items_of s
after_refusal s t h =
    let c = closed_items (after begun s) h t in
    sym (whole (s ++ t))
    ∙ rw (items_append begun s t, after_append begun s t, c.0, c.1, append_nil (items begun s)) (whole s)
