-- The text in an output: line by line, the number of events, and the whole where there is room. Assumes nothing.
use mathlib.Core.Bool.{Bool, true, false, cond}
use mathlib.Core.List.{List, [], ◌∷◌, ◌++◌, append_assoc, append-nil}
use mathlib.Core.Path.{◌≡◌, refl, sym, ap, ◌∙◌}
use Prim.Native.Nat.{ℕ, suc, ◌+◌, ◌-◌, ◌*◌, ◌≤◌, ◌<◌}
use native.Mathlib.Decide.{dec_le}
use native.Mathlib.Omega.{arith}
use lib.Dec.{leb}
use lib.IntN.{ℤ}
use lib.ListN.{length, take, drop, length-append, length-take}
use borrow.Author.Tests.{le-leb, lt-leb, leb-true}
use Rattle.std.proofs.Common.{Result, Ok, Err}
use Rattle.run_text.specs.Lines.{event_line, count_line}
use Rattle.run_text.specs.Output.{laid, Wrote}
use Rattle.run_text.proofs.Laid.{laid_append, laid_length, laid_over, wrote_then}
use Rattle.run_compare_reading.specs.Compared.{most_compared}
use Rattle.run_compare_text.specs.Changes.{differ, Change, change, changes, change_lines, changes_text, compared_text}
use Rattle.run_compare_text.specs.Rows.{row_at, rows, changes_in, text_in, Lent, lent_count, lent_in}
use Rattle.run_compare_text.specs.Output.{longest_text, output_of, told_of, Shown}
use Rattle.run_compare_text.specs.declared.Short.{Short}

-- ---- a line

take_front : (a b : List ℕ) → take (length a) (a ++ b) ≡ a
take_front [] b = refl
take_front (x ∷ a) b = ap (λ (l : List ℕ). x ∷ l) (take_front a b)

-- a line that was written apart, laid from a place on
pub line_laid : (line old new : List ℕ) {n : ℕ} → Wrote line 0 old new n → n ≤ length old → (at : ℕ) (t t' : List ℕ) → t' ≡ laid (take n new) at t → Wrote line at t t' (at + n)
line_laid line old new {n} w h at t t' e =
    let q : n ≡ length line = w.next ∙ omega arith in
    let f : take n new ≡ line = rw (q, w.holds, laid_over line old (omega (arith, h, q))) (take_front line (drop (length line) old)) in
    record { holds = e ∙ ap (λ (x : List ℕ). laid x at t) f; next = ap (λ (x : ℕ). at + x) q }

-- it is as long as was told
pub line_taken : (line old new : List ℕ) {n : ℕ} → Wrote line 0 old new n → n ≤ length old → n ≡ length (take n new)
line_taken line old new {n} w h = let q : n ≡ length line = w.next ∙ omega arith in omega (arith, length-take n new, ap length w.holds, laid_length line 0 old, h)

-- ---- changes

lines_append : (a b : List Change) → change_lines (a ++ b) ≡ change_lines a ++ change_lines b
unfolding change_lines
lines_append [] b = refl
lines_append (c ∷ a) b =
    let two = event_line c.number c.first ++ event_line c.number c.second in
    ap (λ (l : List ℕ). two ++ l) (lines_append a b) ∙ sym (append_assoc two (change_lines a) (change_lines b))

-- the first event, then the others
changes_next : (n : ℕ) (a b : List ℤ) (k l : List (List ℤ)) → changes n (a ∷ k) (b ∷ l) ≡ changes n (a ∷ []) (b ∷ []) ++ changes (suc n) k l
unfolding changes
changes_next n a b k l = go (differ a b)
  where
    go : (t : Bool) → cond t (change n a b ∷ changes (suc n) k l) (changes (suc n) k l) ≡ cond t (change n a b ∷ []) [] ++ changes (suc n) k l
    go true = refl
    go false = refl

-- ---- an event, listed or not

module _ (n : ℕ) (a b : List ℤ) where
  abbrev one : List Change
  one = changes n (a ∷ []) (b ∷ [])

  -- what is promised of it, behind m others
  abbrev Lists : ℕ → ℕ → List ℕ → List ℕ → ℕ → ℕ → Type 0
  Lists at m t t' at' m' = Wrote (change_lines one) at t t' at' × (m' ≡ m + length one) × (at' ≤ at + 122) × (m' ≤ m + 1)

  pub event_listed : differ a b ≡ true → (m : ℕ) {at at' : ℕ} {t t' : List ℕ} → Wrote (event_line n a ++ event_line n b) at t t' at' → at' ≤ at + 122 → Lists at m t t' at' (m + 1)
  unfolding changes change_lines
  event_listed e m w h = rw e (rw (append-nil (event_line n a ++ event_line n b)) w, refl, h, omega arith)

  pub event_passed : differ a b ≡ false → (m at : ℕ) (t : List ℕ) → Lists at m t t at m
  unfolding changes change_lines laid
  event_passed e m at t = rw e (record { holds = refl; next = omega arith }, omega arith, omega arith, omega arith)

-- ---- all events

module _ (n : ℕ) (c : List ℤ) (w : List ℕ) (d : List ℤ) (v : List ℕ) (t₀ : List ℕ) where
  -- what is left of them
  abbrev rest : ℕ → List Change
  rest i = changes (suc i) (rows c w (n - i) i) (rows d v (n - i) i)

  -- what is left, from where the loop stands, is all from the start
  pub record Listing (at events : ℕ) (t : List ℕ) (i : ℕ) : Type 0 where
    pub within : i ≤ n
    pub short : at ≤ 122 * i
    pub few : events ≤ i
    pub same : length t ≡ length t₀
    pub holds : laid (change_lines (rest i)) at t ≡ laid (change_lines (changes_in n c w d v)) 0 t₀
    pub count : at + length (change_lines (rest i)) ≡ length (change_lines (changes_in n c w d v))
    pub counted : events + length (rest i) ≡ length (changes_in n c w d v)

  pub listing_first : Listing 0 0 t₀ 0
  listing_first =
      let e : n - 0 ≡ n = omega arith in
      record { within = omega arith; short = omega arith; few = omega arith; same = refl; holds = rw e refl; count = rw e (omega arith); counted = rw e (omega arith) }

  rest_next : (i : ℕ) → i < n → rest i ≡ one (i + 1) (row_at c w i) (row_at d v i) ++ rest (i + 1)
  unfolding rows
  rest_next i h =
      let e : n - i ≡ suc (n - (i + 1)) = omega (arith, h) in
      let f : suc i ≡ i + 1 = omega arith in
      rw (e, f) (changes_next (i + 1) (row_at c w i) (row_at d v i) (rows c w (n - (i + 1)) (i + 1)) (rows d v (n - (i + 1)) (i + 1)))

  rest_none : (i : ℕ) → n ≤ i → rest i ≡ []
  unfolding rows changes
  rest_none i h = let e : n - i ≡ 0 = omega (arith, h) in rw e

  pub listing_next : (i : ℕ) → i < n → {a b : List ℤ} → a ≡ row_at c w i → b ≡ row_at d v i → {at events at' events' : ℕ} {t t' : List ℕ} → Listing at events t i
      → Lists (i + 1) a b at events t t' at' events' → Listing at' events' t' (i + 1)
  listing_next i h {a} {b} ea eb {at} {events} {at'} {events'} {t} {t'} L S₀ =
      let S : Lists (i + 1) (row_at c w i) (row_at d v i) at events t t' at' events' = rw (ea, eb) at S₀ in
      let x : List Change = one (i + 1) (row_at c w i) (row_at d v i) in
      let r : change_lines (rest i) ≡ change_lines x ++ change_lines (rest (i + 1)) = ap change_lines (rest_next i h) ∙ lines_append x (rest (i + 1)) in
      let q : at' ≡ at + length (change_lines x) = S.0.next in
      record {
        within = omega (arith, h);
        short = omega (arith, L.short, S.2);
        few = omega (arith, L.few, S.3);
        same = ap length S.0.holds ∙ laid_length (change_lines x) at t ∙ L.same;
        holds = rw (q, S.0.holds) (sym (laid_append (change_lines x) (change_lines (rest (i + 1))) at t) ∙ ap (λ (y : List ℕ). laid y at t) (sym r) ∙ L.holds);
        count = omega (arith, q, L.count, ap length r, length-append (change_lines x) (change_lines (rest (i + 1))));
        counted = omega (arith, S.1, L.counted, ap length (rest_next i h), length-append x (rest (i + 1)));
      }

  pub listing_all : (i : ℕ) → n ≤ i → {at events : ℕ} {t : List ℕ} → Listing at events t i
      → Wrote (change_lines (changes_in n c w d v)) 0 t₀ t at × (events ≡ length (changes_in n c w d v)) × (at ≤ 122 * n) × (events ≤ n)
  unfolding laid change_lines
  listing_all i h {at} {events} {t} L =
      let e = rest_none i h in (
        record { holds = rw e at L.holds; next = omega (arith, rw e at L.count) },
        omega (arith, rw e at L.counted),
        omega (arith, L.short, L.within),
        omega (arith, L.few, L.within),
      )

-- the number of events behind them
pub text_ended : (n : ℕ) (c : List ℤ) (w : List ℕ) (d : List ℤ) (v : List ℕ) {t t' t'' : List ℕ} {at events end : ℕ} → Wrote (change_lines (changes_in n c w d v)) 0 t t' at
    → events ≡ length (changes_in n c w d v) → Wrote (count_line events) at t' t'' end → Wrote (text_in n c w d v) 0 t t'' end
unfolding compared_text changes_text
text_ended n c w d v x e y = wrote_then x (rw e at y)

-- ---- the whole

-- its length was counted first
module _ {text t₀ t₁ : List ℕ} {n : ℕ} (counted : Wrote text 0 t₀ t₁ n) (h : n ≤ longest_text) (old : List ℕ) where
  pub shown_short : length old < n → Shown text (Err (record { needed = n })) old old
  unfolding told_of output_of
  shown_short l =
      let e : n ≡ length text = counted.next ∙ omega arith in
      let s = lt-leb (length text) (length old) (omega (arith, l, e)) in
      let E : ℕ → Result ℕ Short = λ k. Err (record { needed = k }) in
      record { says = rw s (ap E e); holds = rw s; fits = omega (arith, h, e) }

  pub shown_written : n ≤ length old → {new : List ℕ} {m : ℕ} → Wrote text 0 old new m → Shown text (Ok m) old new
  unfolding told_of output_of
  shown_written l {m = m} w =
      let e : n ≡ length text = counted.next ∙ omega arith in
      let f : m ≡ length text = w.next ∙ omega arith in
      let s = le-leb (length text) (length old) (omega (arith, l, e)) in
      let O : ℕ → Result ℕ Short = λ k. Ok k in
      record { says = rw s (ap O f); holds = rw s (w.holds ∙ laid_over text old (omega (arith, l, e))); fits = omega (arith, h, e) }

-- what is written lies within the output, and there is room for it in one that is long enough
module _ {text : List ℕ} {r : Result ℕ Short} {old new : List ℕ} (S : Shown text r old new) where
  pub written_within : (k : ℕ) → r ≡ Ok k → k ≤ length old
  unfolding told_of
  written_within k e = go (leb (length text) (length old)) refl (sym e ∙ S.says)
    where
      go : (t : Bool) → leb (length text) (length old) ≡ t → ◌≡◌ {A = Result ℕ Short} (Ok k) (cond t (Ok (length text)) (Err (record { needed = length text }))) → k ≤ length old
      go true q z = let y : k ≡ length text = cc in omega (arith, y, leb-true (length text) (length old) q)
      go false q z = cc

  pub never_short : (k : Short) → longest_text ≤ length old → r ≡ Err k → ⊥
  unfolding told_of
  never_short k h e =
      let q = le-leb (length text) (length old) (omega (arith, S.fits, h)) in
      let z : Err k ≡ Ok (length text) = sym e ∙ (rw q at S.says) in
      cc

-- ---- the answers that are lent

module _ (n codes words : ℕ) where
  pub lent_all : n ≤ most_compared → n ≤ codes → 4 * n ≤ words → lent_count n codes words ≡ n
  unfolding lent_count
  lent_all h k l = rw (le-leb n most_compared h, le-leb n codes k, le-leb (4 * n) words l)

  pub lent_many : most_compared < n → lent_count n codes words ≡ 0
  unfolding lent_count
  lent_many h = rw (lt-leb n most_compared h)

  pub lent_few_codes : n ≤ most_compared → codes < n → lent_count n codes words ≡ 0
  unfolding lent_count
  lent_few_codes h k = rw (le-leb n most_compared h, lt-leb n codes k)

  pub lent_few_words : n ≤ most_compared → n ≤ codes → words < 4 * n → lent_count n codes words ≡ 0
  unfolding lent_count
  lent_few_words h k l = rw (le-leb n most_compared h, le-leb n codes k, lt-leb (4 * n) words l)

  lent_fits : {k : ℕ} → k ≡ lent_count n codes words → (k ≤ most_compared) × (k ≤ codes) × (4 * k ≤ words) × (k ≤ n)
  lent_fits {k} e = elim (dec_le n most_compared) [ no h ↦ none (e ∙ lent_many (omega (arith, h))) | yes h ↦ elim (dec_le n codes) [ no g ↦ none (e ∙ lent_few_codes h (omega (arith, g))) | yes g ↦ elim (dec_le (4 * n) words) [ no f ↦ none (e ∙ lent_few_words h g (omega (arith, f))) | yes f ↦ rw (e ∙ lent_all h g f) (h, g, f, omega arith) ] ] ]
    where
      none : {k : ℕ} → k ≡ 0 → (k ≤ most_compared) × (k ≤ codes) × (4 * k ≤ words) × (k ≤ n)
      none e = (omega (arith, e), omega (arith, e), omega (arith, e), omega (arith, e))

module _ (n : ℕ) (c : List ℤ) (w : List ℕ) (d : List ℤ) (v : List ℕ) where
  -- of both runs
  pub both_lent : {m k : ℕ} → m ≡ lent_count n (length c) (length w) → k ≡ lent_count m (length d) (length v) → Lent k c w d v
  both_lent e f =
      let M = lent_fits n (length c) (length w) e in
      let K = lent_fits _ (length d) (length v) f in
      (K.0, omega (arith, K.3, M.1), omega (arith, K.3, M.2), K.1, K.2)

  pub lent_is : {m k : ℕ} → m ≡ lent_count n (length c) (length w) → k ≡ lent_count m (length d) (length v) → lent_in n c w d v ≡ k
  lent_is e f = sym (rw e at f)

  pub lent_in_lem : Lent n c w d v → lent_in n c w d v ≡ n
  lent_in_lem L = rw (lent_all n (length c) (length w) L.0 L.1 L.2) (lent_all n (length d) (length v) L.0 L.3 L.4)
