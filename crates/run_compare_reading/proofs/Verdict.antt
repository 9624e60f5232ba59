-- What was judged, part by part, is what the definition reads of the whole. Assumes nothing.
use mathlib.Core.Bool.{Bool, true, false, cond}
use mathlib.Core.List.{List}
use mathlib.Core.Path.{◌≡◌, refl, sym, ◌∙◌}
use Prim.Native.Nat.{ℕ}
use native.Mathlib.Omega.{arith}
use lib.Dec.{leb}
use lib.IntN.{ℤ}
use lib.ListN.{length}
use Rattle.rules.specs.Setup.{Fault, S4, Read, got, refused, and_then, Setup, read_setup, at_end}
use Rattle.rules.proofs.Accepted.{Reads, reads_itself, reads_then, from_read}
use Rattle.setup_sections.specs.Judging.{Refusal, judged_of}
use Rattle.std.specs.Prelude.{Result, Ok, Err}
use Rattle.setup_sections.proofs.Judging.{good_read, bad_read}
use Rattle.run_compare_reading.specs.Compared.{Compared, read_events, compared, Refuses, Lies}
use Rattle.run_compare_reading.proofs.Events.{Lie, events_lie}

module _ (s : List ℕ) where
  -- ---- the end of the input

  end_then : {A B : Type 0} (r : Read A) (f : A → B) → at_end s (and_then r (λ a i. got (f a) i)) ≡ and_then (at_end s r) (λ a i. got (f a) i)
  unfolding at_end and_then
  end_then {A} {B} (got a i) f = go (leb (length s) i)
    where
      go : (t : Bool) → cond {A = Read B} t (got (f a) i) (refused S4 i) ≡ and_then (cond {A = Read A} t (got a i) (refused S4 i)) (λ a i. got (f a) i)
      go true = refl
      go false = refl
  end_then (refused d i) f = refl

  end_got : {A : Type 0} (r : Read A) (a : A) (i : ℕ) → at_end s r ≡ got a i → r ≡ got a i
  unfolding at_end
  end_got {A} (got b j) a i e = go (leb (length s) j) e
    where
      go : (t : Bool) → cond {A = Read A} t (got b j) (refused S4 j) ≡ got a i → got b j ≡ got a i
      go true e = e
      go false e = absurd (let z : ◌≡◌ {A = ℕ} 0 1 = cc in omega arith)
  end_got (refused d j) a i e = e

  -- ---- what is read, part by part

  abbrev both : Setup → Setup → List ℤ → Compared
  both u v w = record { first = u; second = v; words = w }

  no_first : (f : Fault) (p : ℕ) → read_setup s 0 ≡ refused f p → compared s ≡ refused f p
  unfolding compared at_end and_then
  no_first f p e = rw e

  module _ (u : Setup) (i : ℕ) (e : read_setup s 0 ≡ got u i) where
    no_second : (f : Fault) (p : ℕ) → read_setup s i ≡ refused f p → compared s ≡ refused f p
    unfolding compared at_end and_then
    no_second f p g = rw (e, g)

    behind : (v : Setup) (j : ℕ) → read_setup s i ≡ got v j → compared s ≡ and_then (at_end s (read_events s j)) (λ w k. got (both u v w) k)
    unfolding compared and_then
    behind v j g = rw (e, g) (end_then (read_events s j) (both u v))

  then_refused : {A B : Type 0} (r : Read A) (g : A → ℕ → Read B) (f : Fault) (p : ℕ) → r ≡ refused f p → and_then r g ≡ refused f p
  unfolding and_then
  then_refused r g f p e = rw e

  then_read : {A B : Type 0} (r : Read A) (g : A → ℕ → Read B) (a : A) (k : ℕ) → r ≡ got a k → and_then r g ≡ g a k
  unfolding and_then
  then_read r g a k e = rw e

  -- ---- what is judged

  pub first_refused : {x : Result ℕ Refusal} → x ≡ judged_of (read_setup s 0) → (d : Refusal) → x ≡ Err d → Refuses s d
  first_refused e d h =
      let b = bad_read (read_setup s 0) d (sym e ∙ h) in
      record { fault = b.0; read = no_first b.0 d.place b.1; told = b.2 }

  pub first_good : {x : Result ℕ Refusal} → x ≡ judged_of (read_setup s 0) → (i : ℕ) → x ≡ Ok i → (u : Setup) × (read_setup s 0 ≡ got u i)
  first_good e i h = good_read (read_setup s 0) i (sym e ∙ h)

  module _ (u : Setup) (i : ℕ) (e : read_setup s 0 ≡ got u i) {x : Result ℕ Refusal} (g : x ≡ judged_of (read_setup s i)) where
    pub second_refused : (d : Refusal) → x ≡ Err d → Refuses s d
    second_refused d h =
        let b = bad_read (read_setup s i) d (sym g ∙ h) in
        record { fault = b.0; read = no_second u i e b.0 d.place b.1; told = b.2 }

    module _ (j : ℕ) (h : x ≡ Ok j) {y : Result ℕ Refusal} (f : y ≡ judged_of (at_end s (read_events s j))) where
      abbrev second : (v : Setup) × (read_setup s i ≡ got v j)
      second = good_read (read_setup s i) j (sym g ∙ h)

      pub events_refused : (d : Refusal) → y ≡ Err d → Refuses s d
      events_refused d k =
          let b = bad_read (at_end s (read_events s j)) d (sym f ∙ k) in
          record { fault = b.0; read = behind u i e second.0 j second.1 ∙ then_refused _ _ b.0 d.place b.1; told = b.2 }

      pub all_good : (end : ℕ) → y ≡ Ok end → Lies s i j
      all_good end k =
          let r = good_read (at_end s (read_events s j)) end (sym f ∙ k) in
          let L : Lie s j r.0 = from_read _ (read_events s j) r.0 end (end_got (read_events s j) r.0 end r.1) (events_lie s j) in
          record {
            all = both u second.0 r.0;
            end = end;
            read = behind u i e second.0 j second.1 ∙ then_read _ _ r.0 end r.1;
            first = e;
            second = second.1;
            room = L.room;
            few = L.few;
            words = L.words;
          }

  -- ---- what is accepted

  -- where its parts lie
  pub record Found (c : Compared) : Type 0 where
    pub second_at : ℕ
    pub events_at : ℕ
    pub first : read_setup s 0 ≡ got c.first second_at
    pub second : read_setup s second_at ≡ got c.second events_at
    pub events : Lie s events_at c.words

  end_reads : {A : Type 0} (P : A → ℕ → Type 0) (r : Read A) → Reads P r → Reads P (at_end s r)
  unfolding at_end
  end_reads P (got a i) h = go (leb (length s) i)
    where
      go : (t : Bool) → Reads P (cond t (got a i) (refused S4 i))
      go true = h
      go false = tt
  end_reads P (refused d i) h = tt

  all_found : Reads (λ c k. Found c) (compared s)
  unfolding compared
  all_found =
      end_reads _ _
      (reads_then (λ u i. read_setup s 0 ≡ got u i) _ (read_setup s 0) _ (reads_itself (read_setup s 0))
      (λ u i e. reads_then (λ v j. read_setup s i ≡ got v j) _ (read_setup s i) _ (reads_itself (read_setup s i))
      (λ v j f. reads_then (λ w k. Lie s j w) _ (read_events s j) _ (events_lie s j)
      (λ w k L. record { second_at = i; events_at = j; first = e; second = f; events = L }))))

  pub found : (c : Compared) (end : ℕ) → compared s ≡ got c end → Found c
  found c end e = from_read (λ c k. Found c) (compared s) c end e all_found
