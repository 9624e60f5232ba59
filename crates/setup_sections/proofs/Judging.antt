-- What the reader gives without what it read: a fault is passed on, and the rest goes by the offset alone. Assumes nothing.
use mathlib.Core.Bool.{Bool, true, false, cond}
use mathlib.Core.List.{List, [], ◌∷◌}
use mathlib.Core.Path.{◌≡◌, refl, sym, ap, ◌∙◌}
use Prim.Native.Nat.{ℕ, zero, suc, ◌+◌, ◌-◌, ◌<◌}
use native.Mathlib.Omega.{arith}
use lib.Dec.{leb}
use lib.ListN.{length, replicate}
use Rattle.rules.specs.Setup.{Fault, S1, S2, S3, Read, got, refused, and_then, word_at, Range, within, read_word, Section, read_entry, read_entries, read_section}
use Rattle.rules.proofs.Accepted.{from_read}
use Rattle.std.specs.Prelude.{Result, Ok, Err}
use Rattle.std.specs.Result.{IsErrAnd}
use Rattle.std.proofs.lemmas.Result.{err_from_is_err_and}
use Rattle.setup_sections.specs.Judging.{Refusal, refusal, coded, judged_of, told_as, told_by, on_good, ranges}
use Rattle.setup_sections.proofs.Reading.{word_lies}

module _ {A B : Type 0} where
  -- where what follows goes by the offset alone
  pub then_judged : (r : Read A) (f : A → ℕ → Read B) (g : ℕ → Result ℕ Refusal) → ((a : A) (i : ℕ) → r ≡ got a i → judged_of (f a i) ≡ g i) → judged_of (and_then r f) ≡ on_good (judged_of r) g
  unfolding and_then
  then_judged (got a i) f g h = h a i refl
  then_judged (refused d i) f g h = refl

  -- where nothing follows
  pub map_judged : (r : Read A) (f : A → B) → judged_of (and_then r (λ a i. got (f a) i)) ≡ judged_of r
  unfolding and_then
  map_judged (got a i) f = refl
  map_judged (refused d i) f = refl

module _ {A : Type 0} where
  -- what was judged tells what the reader gave
  pub good_read : (r : Read A) (k : ℕ) → judged_of r ≡ Ok k → (a : A) × (r ≡ got a k)
  good_read (got a i) k e = (a, let z : i ≡ k = cc in ap (got a) z)
  good_read (refused f i) k e = absurd (let z : ◌≡◌ {A = ℕ} 0 1 = cc in omega arith)

  pub bad_read : (r : Read A) (e : Refusal) → judged_of r ≡ Err e → (f : Fault) × (r ≡ refused f e.place) × (e.fault ≡ coded f)
  bad_read (got a k) e h = absurd (let z : ◌≡◌ {A = ℕ} 0 1 = cc in omega arith)
  bad_read (refused f k) e h = let z : refusal f k ≡ e = cc in (f, ap (λ (x : Refusal). let q : Read A = refused f x.place in q) z, sym (ap (λ (x : Refusal). x.fault) z))

-- what a `?` hands on
pub passed : {T E : Type 0} (r : Result T E) (e : E) → IsErrAnd r (λ y. y ≡ e) → r ≡ Err e
passed r e h = let p = err_from_is_err_and r h in p.1 ∙ ap Err p.2

pub on_good_lem : (x : Result ℕ Refusal) → on_good x Ok ≡ x
on_good_lem (Ok i) = refl
on_good_lem (Err e) = refl

pub on_same : (x : Result ℕ Refusal) (f g : ℕ → Result ℕ Refusal) → ((i : ℕ) → f i ≡ g i) → on_good x f ≡ on_good x g
on_same (Ok i) f g h = h i
on_same (Err e) f g h = refl

pub on_twice : (x : Result ℕ Refusal) (f g : ℕ → Result ℕ Refusal) → on_good (on_good x f) g ≡ on_good x (λ i. on_good (f i) g)
on_twice (Ok i) f g = refl
on_twice (Err e) f g = refl

module _ (s : List ℕ) where
  pub nothing_judged : (i : ℕ) → judged_of (read_entry s [] i) ≡ Ok i
  unfolding read_entry
  nothing_judged i = refl

  pub words_judged : (r : Range) (e : List Range) (i : ℕ) → judged_of (read_entry s (r ∷ e) i) ≡ on_good (judged_of (read_word s r S3 i)) (λ j. judged_of (read_entry s e j))
  unfolding read_entry
  words_judged r e i = then_judged (read_word s r S3 i) _ _ (λ w j q. map_judged (read_entry s e j) _)

  word_judged : (r : Range) (i : ℕ) → judged_of (read_entry s (r ∷ []) i) ≡ judged_of (read_word s r S3 i)
  unfolding read_entry
  word_judged r i = words_judged r [] i ∙ on_good_lem (judged_of (read_word s r S3 i))

  pub pair_judged : (a b : Range) (i : ℕ) → judged_of (read_entry s (a ∷ b ∷ []) i) ≡ on_good (judged_of (read_word s a S3 i)) (λ j. judged_of (read_word s b S3 j))
  pair_judged a b i = words_judged a (b ∷ []) i ∙ simp (word_judged b)

  -- n words in a range
  pub next_word : (r : Range) (n i : ℕ) → 0 < n
      → judged_of (read_entry s (replicate n r) i) ≡ on_good (judged_of (read_word s r S3 i)) (λ j. judged_of (read_entry s (replicate (n - 1) r) j))
  next_word r zero i h = absurd (omega (arith, h))
  next_word r (suc n) i h = let e : suc n - 1 ≡ n = omega arith in rw e (words_judged r (replicate n r) i)

  pub no_words_lem : (r : Range) (n i : ℕ) → n ≡ 0 → judged_of (read_entry s (replicate n r) i) ≡ Ok i
  no_words_lem r n i e = rw e (nothing_judged i)

  -- an entry goes by what was judged of its first word
  pub entry_judged : (n : ℕ) (a b : Range) (i : ℕ) → (n ≡ 0 → ⊥)
      → judged_of (read_entry s (ranges n a b) i) ≡ on_good (judged_of (read_word s a S3 i)) (λ j. judged_of (read_entry s (replicate (n - 1) b) j))
  entry_judged zero a b i h = absurd (h refl)
  entry_judged (suc n) a b i h = let e : suc n - 1 ≡ n = omega arith in rw e (words_judged a (replicate n b) i)

  pub entries_judged : (e : List Range) (n i : ℕ) → 0 < n → judged_of (read_entries s e n i) ≡ on_good (judged_of (read_entry s e i)) (λ j. judged_of (read_entries s e (n - 1) j))
  unfolding read_entries
  entries_judged e zero i l = absurd (omega (arith, l))
  entries_judged e (suc n) i l =
      let m : suc n - 1 ≡ n = omega arith in
      rw m (then_judged (read_entry s e i) _ _ (λ x j q. map_judged (read_entries s e n j) _))

  pub no_entries_judged : (e : List Range) (n i : ℕ) → n ≡ 0 → judged_of (read_entries s e n i) ≡ Ok i
  unfolding read_entries
  no_entries_judged e n i z = rw z

  pub section_judged : (t : Section) (i : ℕ) → judged_of (read_section s t i) ≡ on_good (judged_of (read_word s t.count S2 i)) (λ j. judged_of (read_entries s t.entry (word_at s i) j))
  unfolding read_section
  section_judged t i =
      then_judged (read_word s t.count S2 i) _ _
      (λ n j q. ap (λ m. judged_of (read_entries s t.entry m j)) (from_read _ _ n j q (word_lies s t.count S2 i)).0)

-- ---- a word

-- a word out of range may be told by any fault; n: the name of each fault
pub told_so : {F : Type 0} (n : Fault → F) (s : List ℕ) (r : Range) (d : F) (i : ℕ) → told_by (record { fault = n S1; place = i }) (record { fault = d; place = i }) (read_word s r S3 i) ≡ told_as n d (read_word s r S3 i)
unfolding read_word
told_so {F} n s r d i = go (leb (i + 4) (length s)) (within r (word_at s i))
  where
    read : Bool → Bool → Read ℕ
    read t u = cond t (cond u (got (word_at s i) (i + 4)) (refused S3 i)) (refused S1 i)

    go : (t u : Bool) → told_by (record { fault = n S1; place = i }) (record { fault = d; place = i }) (read t u) ≡ told_as n d (read t u)
    go true true = refl
    go true false = refl
    go false u = refl

-- told by the digit of a fault, it is the word read with that fault
pub word_told : (s : List ℕ) (r : Range) (f : Fault) (i : ℕ) {j : Result ℕ Refusal} → j ≡ told_as coded (coded f) (read_word s r S3 i) → j ≡ judged_of (read_word s r f i)
unfolding read_word
word_told s r f i e = e ∙ go (leb (i + 4) (length s)) (within r (word_at s i))
  where
    go : (t u : Bool) → told_as coded (coded f) (cond t (cond u (got (word_at s i) (i + 4)) (refused S3 i)) (refused S1 i)) ≡ judged_of (cond t (cond u (got (word_at s i) (i + 4)) (refused f i)) (refused S1 i))
    go true true = refl
    go true false = refl
    go false u = refl
