-- The first bytes decide: nothing that is read depends on a byte behind them, since no input that is accepted has so many. Assumes nothing.
use mathlib.Core.Bool.{Bool, true, false}
use mathlib.Core.List.{List, [], ◌∷◌, map}
use mathlib.Core.Path.{◌≡◌, refl, ap, ◌∙◌}
use Prim.Native.Nat.{ℕ, zero, suc, ◌+◌, ◌-◌, ◌*◌, ◌≤◌, ◌<◌}
use native.Mathlib.Omega.{arith}
use lib.Dec.{leb}
use lib.ListN.{length, take, get_or, length-take}
use borrow.Author.Tests.{lt-leb, leb-true, leb-false}
use Rattle.rules.specs.Setup.{Read, got, refused, and_then, read_section, read_setup, at_end}
use Rattle.rules.specs.Writing.{joined}
use Rattle.run_reading.specs.Recorded.{head_bytes, signed_word}
use Rattle.run_reading.proofs.Reach.{reach, Steady, steady_got, steady_then, section_steady, setup_steady, get_d_take}
use Rattle.run_compare_reading.specs.Compared.{Compared, input_bytes, events, read_events, compared}

-- all but the end
unfoldable read_all : List ℕ → Read Compared
read_all s = and_then (read_setup s 0) (λ u i. and_then (read_setup s i) (λ v j. and_then (read_events s j) (λ w k. got (record { first = u; second = v; words = w }) k)))

module _ (s t : List ℕ) (n : ℕ) (hs : n ≤ length s) (ht : n ≤ length t) (agree : (k : ℕ) → k < n → get_or t k 0 ≡ get_or s k 0) where
  events_steady : (i : ℕ) → Steady s t n hs ht agree i 60004 (read_events s i) (read_events t i)
  unfolding read_events
  events_steady i =
      steady_then s t n hs ht agree (read_section s events i) (read_section t events i) (section_steady s t n hs ht agree events i) (λ l j q. steady_got s t n hs ht agree (map signed_word (joined l)) j)

  all_steady : Steady s t n hs ht agree 0 (2 * (head_bytes - 4) + 60004) (read_all s) (read_all t)
  unfolding read_all
  all_steady =
      steady_then s t n hs ht agree (read_setup s 0) (read_setup t 0) (setup_steady s t n hs ht agree 0)
      (λ u i q. steady_then s t n hs ht agree (read_setup s i) (read_setup t i) (setup_steady s t n hs ht agree i)
      (λ v j r. steady_then s t n hs ht agree (read_events s j) (read_events t j) (events_steady j) (λ w k p. steady_got s t n hs ht agree (record { first = u; second = v; words = w }) k)))

-- where both are longer than what was read, both end alike
end_alike : {A : Type 0} (s t : List ℕ) (r : Read A) → reach r < length s → reach r < length t → at_end t r ≡ at_end s r
unfolding at_end
end_alike s t (got a i) h k = rw (lt-leb (length s) i h, lt-leb (length t) i k)
end_alike s t (refused d i) h k = refl

take_all : (s : List ℕ) (n : ℕ) → length s < n → take n s ≡ s
take_all [] zero h = refl
take_all [] (suc n) h = refl
take_all (x ∷ s) zero h = absurd (omega (arith, h))
take_all (x ∷ s) (suc n) h = ap (λ (l : List ℕ). x ∷ l) (take_all s n (omega (arith, h)))

-- what comes after so many bytes changes nothing
pub later_bytes : (s : List ℕ) → compared (take input_bytes s) ≡ compared s
unfolding compared read_all
later_bytes s = go (leb input_bytes (length s)) refl
  where
    go : (t : Bool) → leb input_bytes (length s) ≡ t → compared (take input_bytes s) ≡ compared s
    go true e =
        let h = leb-true input_bytes (length s) e in
        let l : length (take input_bytes s) ≡ input_bytes = length-take input_bytes s ∙ omega (arith, h) in
        let S = all_steady s (take input_bytes s) input_bytes h (omega (arith, l)) (λ j q. get_d_take s input_bytes j q) in
        let m = S.most in
        ap (at_end (take input_bytes s)) (S.same (omega (arith, m))) ∙ end_alike s (take input_bytes s) (read_all s) (omega (arith, m, h)) (omega (arith, m, l))
    go false e = ap compared (take_all s input_bytes (leb-false input_bytes (length s) e))
