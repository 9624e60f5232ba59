-- A run by the code: the answers in their places are the rules' answers. Assumes nothing.
use mathlib.Core.List.{List, [], ◌∷◌, ◌++◌, map}
use mathlib.Core.Path.{◌≡◌, refl, sym, ap, ◌∙◌, subst}
use Prim.Native.Nat.{ℕ, zero, suc, ◌+◌, ◌-◌, ◌*◌, ◌/◌, ◌%◌, ◌≤◌}
use native.Mathlib.Omega.{arith}
use lib.IntN.{ℤ}
use lib.ListN.{length, take, drop, length-map, length-drop}
use Rattle.std.proofs.lemmas.List.{length-take-le}
use borrow.Author.Tests.{eq-eqb, le-leb}
use Rattle.std.proofs.Common.{Result, Ok}
use Rattle.rules.specs.Setup.{got, Setup, read_setup, setup}
use Rattle.rules.specs.Events.{Event, events_of}
use Rattle.rules.specs.Answers.{numbers}
use Rattle.rules.specs.Kernel.{fresh}
use Rattle.rules.specs.Runs.{answers}
use Rattle.kernel_start.specs.Starting.{Holds}
use Rattle.kernel_batches.specs.declared.Unfit.{Unfit}
use Rattle.kernel_batches.specs.declared.RunError.{RunError}
use Rattle.kernel_steps.specs.Steps.{Link, told}
use Rattle.kernel_batches.specs.Batches.{fit_of, fitted, Lent, over, codes_of, words_of, RanFresh, RunsFrom}
use Rattle.kernel_demands.specs.Demands.{figures}
use Rattle.kernel_demands.proofs.Chains.{start_holds, chain_says}
use Rattle.run_reading.specs.Recorded.{signed_word}
use Rattle.run_reading.proofs.Reach.{setup_prefix}
use Rattle.run_compare_reading.specs.Compared.{words_from}
use Rattle.run_compare_reading.proofs.Offset.{rest_got}
use Rattle.run_compare_text.specs.Rows.{row_at, rows}
use Rattle.run_compare.specs.Playing.{given, RanFrom, BothRan}

-- ---- the places

-- behind one answer
rows_behind : (x : ℤ) (a b d e : ℕ) (c : List ℤ) (w : List ℕ) (n i : ℕ) → rows (x ∷ c) (a ∷ b ∷ d ∷ e ∷ w) n (suc i) ≡ rows c w n i
unfolding rows
rows_behind x a b d e c w zero i = refl
rows_behind x a b d e c w (suc n) i =
    let e0 : 4 * suc i ≡ suc (suc (suc (suc (4 * i)))) = omega arith in
    let e1 : suc (suc (suc (suc (4 * i)))) + 1 ≡ suc (suc (suc (suc (4 * i + 1)))) = omega arith in
    let e2 : suc (suc (suc (suc (4 * i)))) + 2 ≡ suc (suc (suc (suc (4 * i + 2)))) = omega arith in
    let e3 : suc (suc (suc (suc (4 * i)))) + 3 ≡ suc (suc (suc (suc (4 * i + 3)))) = omega arith in
    rw (e0, e1, e2, e3) (ap (λ (l : List (List ℤ)). row_at c w i ∷ l) (rows_behind x a b d e c w n (suc i)))

rows_links : (l : List Link) (c : List ℤ) (w : List ℕ) → rows (codes_of l ++ c) (words_of l ++ w) (length l) 0 ≡ map (λ k. figures k.reply) l
unfolding rows
rows_links [] c w = refl
rows_links (k ∷ l) c w =
    ap (λ (r : List (List ℤ)). figures k.reply ∷ r)
    (rows_behind k.reply.code k.reply.w1 k.reply.w2 k.reply.runs k.reply.released (codes_of l ++ c) (words_of l ++ w) (length l) 0 ∙ rows_links l c w)

-- ---- the events

events_length : (n : ℕ) (w : List ℤ) → length w ≡ 5 * n → length (events_of w) ≡ n
events_length zero [] h = refl
events_length (suc n) [] h = absurd (omega (arith, h))
events_length n (a ∷ []) h = absurd (omega (arith, h))
events_length n (a ∷ b ∷ []) h = absurd (omega (arith, h))
events_length n (a ∷ b ∷ c ∷ []) h = absurd (omega (arith, h))
events_length n (a ∷ b ∷ c ∷ d ∷ []) h = absurd (omega (arith, h))
events_length zero (a ∷ b ∷ c ∷ d ∷ e ∷ w) h = absurd (omega (arith, h))
events_length (suc n) (a ∷ b ∷ c ∷ d ∷ e ∷ w) h = ap suc (events_length n w (omega (arith, h)))

words_length : (s : List ℕ) (n i : ℕ) → length (words_from s n i) ≡ n
unfolding words_from
words_length s zero i = refl
words_length s (suc n) i = ap suc (words_length s n (i + 4))

take_front : {A : Type 0} (a b : List A) → take (length a) (a ++ b) ≡ a
take_front [] b = refl
take_front (x ∷ a) b = ap (λ l. x ∷ l) (take_front a b)

take_first : {A : Type 0} (a b : List A) (n : ℕ) → n ≡ length a → take n (a ++ b) ≡ a
take_first a b n e = rw e (take_front a b)

module _ (s : List ℕ) (at n : ℕ) where
  given_length : length (given s at n) ≡ 5 * n
  given_length = length-map (words_from s (5 * n) (at + 4)) signed_word ∙ words_length s (5 * n) (at + 4)

  -- the events that are handed on are those that were decoded
  pub given_part : {t : List ℤ} (old rest : List ℤ) → 5 * n ≤ length old → t ≡ map signed_word (words_from s (length (take (5 * n) old)) (at + 4)) → take (5 * n) (t ++ rest) ≡ given s at n
  given_part old rest h e =
      rw (e, length-take-le (5 * n) old h) (take_first (given s at n) rest (5 * n) (sym given_length))

-- ---- a run

fits : (n c a : ℕ) → n ≤ c → 4 * n ≤ a → ◌≡◌ {A = Result (Unit {0}) Unfit} (fit_of (5 * n) c a) (Ok tt)
unfolding fit_of
fits n c a h k =
    let e : 5 * n / 5 ≡ n = omega arith in
    rw (eq-eqb (5 * n % 5) 0 (omega arith), e, le-leb n c h, le-leb (4 * n) a k)

-- the setup by itself
pub alone : (s : List ℕ) (i j : ℕ) → j ≤ length s → (u : Setup) → read_setup s i ≡ got u j → setup (take (j - i) (drop i s)) ≡ got u (j - i)
alone s i j h u e = let r = rest_got s i u j e in setup_prefix (drop i s) u (j - i) r.1 (omega (arith, length-drop i s, h, r.0))

module _ (s : List ℕ) (i j : ℕ) (h : j ≤ length s) (events : List ℤ) (n : ℕ) (k : length events ≡ 5 * n) (u : Setup) (e : read_setup s i ≡ got u j) where
  module _ (old : Lent) (fc : n ≤ length old.codes) (fw : 4 * n ≤ length old.answers) (new : Lent) where
    ran_answers : RanFresh (take (j - i) (drop i s)) events old new → rows new.codes new.answers n 0 ≡ map numbers (answers (fresh u) (events_of events))
    unfolding over
    ran_answers F =
        let H : Holds F.started (fresh u) = start_holds (take (j - i) (drop i s)) u (j - i) (alone s i j h u e) (Ok tt) old.memory F.started F.starts in
        let R = F.ran in
        let l : List Link = R.links in
        let m : n ≡ length l = sym (events_length n events k) ∙ ap (λ (x : List Event). length x) (sym R.events) ∙ length-map l (λ x. x.event) in
        rw (R.codes, R.answers, m) (rows_links l (drop (length (codes_of l)) old.codes) (drop (length (words_of l)) old.answers))
        ∙ chain_says figures l H R.chain ∙ ap (λ (x : List Event). map (λ a. figures (told a)) (answers (fresh u) x)) R.events

    pub ran_law : (d : Result (Unit {0}) RunError) → RunsFrom (take (j - i) (drop i s)) events d old new → rows new.codes new.answers n 0 ≡ map numbers (answers (fresh u) (events_of events))
    unfolding RunsFrom
    ran_law d B =
        let f : ◌≡◌ {A = Result (Unit {0}) Unfit} (fitted events old) (Ok tt) = ap (λ (x : ℕ). fit_of x (length old.codes) (length old.answers)) k ∙ fits n (length old.codes) (length old.answers) fc fw in
        ran_answers (rw (f, alone s i j h u e) at B).1

-- both
pub both_ran : (s : List ℕ) (i j n : ℕ) (events : List ℤ) → events ≡ given s j n → (c : List ℤ) (w : List ℕ) (d : List ℤ) (v : List ℕ) → RanFrom s 0 i events n c w → RanFrom s i j events n d v
    → BothRan s i j n c w d v
both_ran s i j n events q c w d v F G = record { first = subst (λ (x : List ℤ). RanFrom s 0 i x n c w) q F; second = subst (λ (x : List ℤ). RanFrom s i j x n d v) q G }
