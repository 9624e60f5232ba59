-- Reading from an offset is reading the rest from its front, with the places moved. Assumes nothing.
use mathlib.Core.Bool.{Bool, true, false, cond}
use mathlib.Core.List.{List, [], ◌∷◌}
use mathlib.Core.Path.{◌≡◌, refl, sym, ap, ◌∙◌}
use Prim.Native.Nat.{ℕ, zero, suc, ◌+◌, ◌-◌, ◌≤◌}
use native.Mathlib.Omega.{arith}
use lib.Dec.{leb}
use lib.ListN.{length, drop, get_or, length-drop}
use borrow.Author.Tests.{le-leb, lt-leb, leb-true, leb-false}
use Rattle.rules.specs.Setup.{Fault, S1, S2, S3, Read, got, refused, and_then, word_at, Range, within, read_word, Section, priorities, sections, counters, read_entry, read_entries, read_section, read_sections, Setup, entries_of, read_with, read_setup}

-- places and offsets d further on
abbrev pub moved : {A : Type 0} → ℕ → Read A → Read A
moved d (got a i) = got a (d + i)
moved d (refused f p) = refused f (d + p)

moved_then : {A B : Type 0} (d : ℕ) (r r' : Read A) (f f' : A → ℕ → Read B) → r ≡ moved d r' → ((a : A) (k : ℕ) → f a (d + k) ≡ moved d (f' a k)) → and_then r f ≡ moved d (and_then r' f')
unfolding and_then
moved_then d r (got a k) f f' e g = ap (λ x. and_then x f) e ∙ g a k
moved_then d r (refused q p) f f' e g = ap (λ x. and_then x f) e

get_d_drop : (d : ℕ) (s : List ℕ) (k : ℕ) → get_or s (d + k) 0 ≡ get_or (drop d s) k 0
get_d_drop zero s k = ap (λ (n : ℕ). get_or s n 0) (omega arith)
get_d_drop (suc d) [] k = refl
get_d_drop (suc d) (x ∷ s) k = let e : suc d + k ≡ suc (d + k) = omega arith in rw e (get_d_drop d s k)

module _ (s : List ℕ) (d : ℕ) where
  abbrev rest : List ℕ
  rest = drop d s

  same_word : (i : ℕ) → word_at s (d + i) ≡ word_at rest i
  same_word i =
      let a : d + i + 1 ≡ d + (i + 1) = omega arith in
      let b : d + i + 2 ≡ d + (i + 2) = omega arith in
      let c : d + i + 3 ≡ d + (i + 3) = omega arith in
      rw (a, b, c, get_d_drop d s i, get_d_drop d s (i + 1), get_d_drop d s (i + 2), get_d_drop d s (i + 3))

  same_room : (i : ℕ) → leb (d + i + 4) (length s) ≡ leb (i + 4) (length rest)
  same_room i = go (leb (i + 4) (length rest)) refl
    where
      go : (t : Bool) → leb (i + 4) (length rest) ≡ t → leb (d + i + 4) (length s) ≡ t
      go true e = le-leb (d + i + 4) (length s) (omega (arith, leb-true (i + 4) (length rest) e, length-drop d s))
      go false e = lt-leb (d + i + 4) (length s) (omega (arith, leb-false (i + 4) (length rest) e, length-drop d s))

  word_moved : (r : Range) (f : Fault) (i : ℕ) → read_word s r f (d + i) ≡ moved d (read_word rest r f i)
  unfolding read_word
  word_moved r f i = rw (same_room i, same_word i) (go (leb (i + 4) (length rest)) (within r (word_at rest i)))
    where
      go : (e m : Bool) → cond {A = Read ℕ} e (cond m (got (word_at rest i) (d + i + 4)) (refused f (d + i))) (refused S1 (d + i))
          ≡ moved d (cond e (cond m (got (word_at rest i) (i + 4)) (refused f i)) (refused S1 i))
      go true true = ap (got (word_at rest i)) (omega arith)
      go true false = refl
      go false m = refl

  entry_moved : (e : List Range) (i : ℕ) → read_entry s e (d + i) ≡ moved d (read_entry rest e i)
  unfolding read_entry
  entry_moved [] i = refl
  entry_moved (r ∷ e) i =
      moved_then d (read_word s r S3 (d + i)) (read_word rest r S3 i) _ _ (word_moved r S3 i)
      (λ w j. moved_then d (read_entry s e (d + j)) (read_entry rest e j) _ _ (entry_moved e j) (λ ws k. refl))

  entries_moved : (e : List Range) (n i : ℕ) → read_entries s e n (d + i) ≡ moved d (read_entries rest e n i)
  unfolding read_entries
  entries_moved e zero i = refl
  entries_moved e (suc n) i =
      moved_then d (read_entry s e (d + i)) (read_entry rest e i) _ _ (entry_moved e i)
      (λ x j. moved_then d (read_entries s e n (d + j)) (read_entries rest e n j) _ _ (entries_moved e n j) (λ xs k. refl))

  section_moved : (t : Section) (i : ℕ) → read_section s t (d + i) ≡ moved d (read_section rest t i)
  unfolding read_section
  section_moved t i = moved_then d (read_word s t.count S2 (d + i)) (read_word rest t.count S2 i) _ _ (word_moved t.count S2 i) (λ n j. entries_moved t.entry n j)

  sections_moved : (l : List Section) (i : ℕ) → read_sections s l (d + i) ≡ moved d (read_sections rest l i)
  unfolding read_sections
  sections_moved [] i = refl
  sections_moved (t ∷ l) i =
      moved_then d (read_section s t (d + i)) (read_section rest t i) _ _ (section_moved t i)
      (λ x j. moved_then d (read_sections s l (d + j)) (read_sections rest l j) _ _ (sections_moved l j) (λ xs k. refl))

  setup_moved : (i : ℕ) → read_setup s (d + i) ≡ moved d (read_setup rest i)
  unfolding read_setup read_with
  setup_moved i =
      moved_then d (read_section s priorities (d + i)) (read_section rest priorities i) _ _ (section_moved priorities i)
      (λ p j. moved_then d (read_sections s (sections (length p)) (d + j)) (read_sections rest (sections (length p)) j) _ _ (sections_moved (sections (length p)) j)
      (λ l k. let x : Section = counters (length (entries_of l 0)) in moved_then d (read_section s x (d + k)) (read_section rest x k) _ _ (section_moved x k) (λ c n. refl)))

  -- from any offset
  pub rest_read : read_setup s d ≡ moved d (read_setup (drop d s) 0)
  rest_read = let e : d ≡ d + 0 = omega arith in ap (read_setup s) e ∙ setup_moved 0

  pub rest_got : (u : Setup) (j : ℕ) → read_setup s d ≡ got u j → (d ≤ j) × (read_setup (drop d s) 0 ≡ got u (j - d))
  rest_got u j e = go (read_setup (drop d s) 0) (sym rest_read ∙ e)
    where
      go : (r : Read Setup) → moved d r ≡ got u j → (d ≤ j) × (r ≡ got u (j - d))
      go (got v k) q = let a : v ≡ u = cc in let b : d + k ≡ j = cc in (omega (arith, b), λ z. got (a z) (let c : k ≡ j - d = omega (arith, b) in c z))
      go (refused f p) q = absurd (let z : ◌≡◌ {A = ℕ} 0 1 = cc in omega arith)
