-- Events served one after the other: what has run so far, and one event more. Assumes nothing.
use mathlib.Core.List.{List, [], ◌∷◌, ◌++◌, map, append-nil, append_assoc}
use mathlib.Core.Path.{◌≡◌, refl, sym, ap, ◌∙◌, subst}
use Prim.Native.Nat.{ℕ, zero, suc, ◌+◌, ◌*◌, ◌/◌, ◌≤◌, ◌<◌}
use native.Mathlib.Omega.{arith}
use lib.IntN.{ℤ, pos}
use lib.ListN.{length, drop, get_or, set, length-append, length-map, drop_of_length-le}
use Rattle.std.specs.Prelude.{Result, Ok}
use Rattle.std.specs.Result.{result_and}
use Rattle.rules.specs.Events.{Event, tick, event_of, events_of}
use Rattle.memory_picture.specs.Picture.{Memory}
use Rattle.check_damage.specs.declared.Breach.{Breach}
use Rattle.kernel_steps.specs.Serving.{Known}
use Rattle.kernel_steps.specs.Steps.{Reply, reply, Step, Link, Chain, last_memory}
use Rattle.kernel_steps.specs.Written.{Lent, over, codes_of, words_of, answered, event_at, EventRan, RanThrough, Room}
use Rattle.kernel_serving.proofs.Served.{known_on}

-- ---- lists

module _ {A : Type 0} where
  -- what stands behind i entries begins with entry i
  drop_entry : (d : A) (i : ℕ) (l : List A) → i < length l → drop i l ≡ get_or l i d ∷ drop (suc i) l
  drop_entry d i [] h = absurd (omega (arith, h))
  drop_entry d zero (x ∷ l) h = refl
  drop_entry d (suc i) (x ∷ l) h = drop_entry d i l (omega (arith, h))

  set_append : (l : List A) (x y : A) (m : List A) → set (l ++ (x ∷ m)) (length l) y ≡ l ++ (y ∷ m)
  set_append [] x y m = refl
  set_append (z ∷ l) x y m = ap (λ (k : List A). z ∷ k) (set_append l x y m)

  -- one entry more at the front
  pub over_more : (new old : List A) (x : A) {i : ℕ} → length new ≡ i → i < length old → set (over new old) i x ≡ over (new ++ (x ∷ [])) old
  unfolding over
  over_more new old x {i} e h =
      let g : drop (length new) old ≡ get_or old (length new) x ∷ drop (suc (length new)) old = drop_entry x (length new) old (subst (λ (k : ℕ). k < length old) (sym e) h) in
      let n : length (new ++ (x ∷ [])) ≡ suc (length new) = length-append new (x ∷ []) ∙ omega arith in
      subst (λ (k : ℕ). set (new ++ drop (length new) old) k x ≡ (new ++ (x ∷ [])) ++ drop (length (new ++ (x ∷ []))) old) e
      (ap (λ (k : List A). set (new ++ k) (length new) x) g ∙ set_append new (get_or old (length new) x) x (drop (suc (length new)) old) ∙ sym (append_assoc new (x ∷ []) (drop (suc (length new)) old)) ∙ ap (λ (k : ℕ). (new ++ (x ∷ [])) ++ drop k old) (sym n))

  pub over_none : (old : List A) → over [] old ≡ old
  unfolding over
  over_none old = refl

-- ---- chains

module _ (k : Link) where
  pub more_chain : (m : Memory) (l : List Link) → Chain m l → Step k.event (last_memory m l) k.reply k.left → Chain m (l ++ (k ∷ []))
  more_chain m [] C S = (S, tt)
  more_chain m (j ∷ l) C S = (C.0, more_chain j.left l C.1 S)

  pub more_left : (m : Memory) (l : List Link) → last_memory m (l ++ (k ∷ [])) ≡ k.left
  more_left m [] = refl
  more_left m (j ∷ l) = more_left j.left l

  pub more_mapped : {B : Type 0} (f : Link → B) (l : List Link) → map f (l ++ (k ∷ [])) ≡ map f l ++ (f k ∷ [])
  more_mapped f [] = refl
  more_mapped f (j ∷ l) = ap (λ (r : List _). f j ∷ r) (more_mapped f l)

  pub more_answers : (l : List Link) → words_of (l ++ (k ∷ [])) ≡ words_of l ++ (k.reply.w1 ∷ k.reply.w2 ∷ k.reply.runs ∷ k.reply.released ∷ [])
  more_answers [] = refl
  more_answers (j ∷ l) = ap (λ (r : List ℕ). j.reply.w1 ∷ j.reply.w2 ∷ j.reply.runs ∷ j.reply.released ∷ r) (more_answers l)

pub length_answers : (l : List Link) → length (words_of l) ≡ 4 * length l
length_answers [] = refl
length_answers (k ∷ l) = let h = length_answers l in omega (arith, h)

-- ---- events

-- five words are an event
five : (i : ℕ) (g : List ℤ) → 5 * i + 5 ≤ length g
    → events_of (drop (5 * i) g) ≡ event_at g i ∷ events_of (drop (5 * suc i) g)
five i g h =
    let x0 : ℤ = get_or g (5 * i) (pos 0) in
    let x1 : ℤ = get_or g (5 * i + 1) (pos 0) in
    let x2 : ℤ = get_or g (5 * i + 2) (pos 0) in
    let x3 : ℤ = get_or g (5 * i + 3) (pos 0) in
    ap events_of
    (next (5 * i) (5 * i + 1) (omega arith) (omega (arith, h))
    ∙ ap (λ (l : List ℤ). x0 ∷ l) (next (5 * i + 1) (5 * i + 2) (omega arith) (omega (arith, h)))
    ∙ ap (λ (l : List ℤ). x0 ∷ x1 ∷ l) (next (5 * i + 2) (5 * i + 3) (omega arith) (omega (arith, h)))
    ∙ ap (λ (l : List ℤ). x0 ∷ x1 ∷ x2 ∷ l) (next (5 * i + 3) (5 * i + 4) (omega arith) (omega (arith, h)))
    ∙ ap (λ (l : List ℤ). x0 ∷ x1 ∷ x2 ∷ x3 ∷ l) (next (5 * i + 4) (5 * suc i) (omega arith) (omega (arith, h))))
  where
    next : (j n : ℕ) → suc j ≡ n → j < length g → drop j g ≡ get_or g j (pos 0) ∷ drop n g
    next j n e q = drop_entry (pos 0) j g q ∙ ap (λ (k : ℕ). get_or g j (pos 0) ∷ drop k g) e

-- ---- so far

-- i events have run
pub record SoFar (given : List ℤ) (i : ℕ) (old new : Lent) : Type 0 where
  pub links : List Link
  pub chain : Chain old.memory links
  pub count : length links ≡ i
  pub events : map (λ k. k.event) links ++ events_of (drop (5 * i) given) ≡ events_of given
  pub left : new.memory ≡ last_memory old.memory links
  pub codes : new.codes ≡ over (codes_of links) old.codes
  pub answers : new.answers ≡ over (words_of links) old.answers

pub none_yet : (given : List ℤ) (old : Lent) → SoFar given 0 old old
none_yet given old = record {
  links = [];
  chain = tt;
  count = refl;
  events = refl;
  left = refl;
  codes = sym (over_none old.codes);
  answers = sym (over_none old.answers);
}

-- the last one has run
pub all_run : (given : List ℤ) (i : ℕ) (old new : Lent) → length given ≤ 5 * i → SoFar given i old new → RanThrough given old new
all_run given i old new h S = record {
  links = S.links;
  chain = S.chain;
  events = sym (append-nil _) ∙ ap (λ (l : List ℤ). map (λ k. k.event) S.links ++ events_of l) (sym (drop_of_length-le given h)) ∙ S.events;
  left = S.left;
  codes = S.codes;
  answers = S.answers;
}

answers_more : (l : List Link) (k : Link) (old : List ℕ) {i : ℕ} → length l ≡ i → 4 * i + 4 ≤ length old → answered i k.reply.w1 k.reply.w2 k.reply.runs k.reply.released (over (words_of l) old) ≡ over (words_of (l ++ (k ∷ []))) old
answers_more l k old {i} e h =
    let w : List ℕ = words_of l in
    let n : length w ≡ 4 * i = length_answers l ∙ ap (λ (x : ℕ). 4 * x) e in
    let p1 = over_more w old k.reply.w1 n (omega (arith, h)) in
    let n1 : length (w ++ (k.reply.w1 ∷ [])) ≡ 4 * i + 1 = length-append w _ ∙ omega (arith, n) in
    let p2 = over_more (w ++ (k.reply.w1 ∷ [])) old k.reply.w2 n1 (omega (arith, h)) in
    let n2 : length ((w ++ (k.reply.w1 ∷ [])) ++ (k.reply.w2 ∷ [])) ≡ 4 * i + 2 = length-append (w ++ (k.reply.w1 ∷ [])) _ ∙ omega (arith, n1) in
    let p3 = over_more ((w ++ (k.reply.w1 ∷ [])) ++ (k.reply.w2 ∷ [])) old k.reply.runs n2 (omega (arith, h)) in
    let n3 : length (((w ++ (k.reply.w1 ∷ [])) ++ (k.reply.w2 ∷ [])) ++ (k.reply.runs ∷ [])) ≡ 4 * i + 3 = length-append ((w ++ (k.reply.w1 ∷ [])) ++ (k.reply.w2 ∷ [])) _ ∙ omega (arith, n2) in
    let p4 = over_more (((w ++ (k.reply.w1 ∷ [])) ++ (k.reply.w2 ∷ [])) ++ (k.reply.runs ∷ [])) old k.reply.released n3 (omega (arith, h)) in
    rw (p1, p2, p3, p4) (ap (λ (x : List ℕ). over x old)
    (append_assoc ((w ++ (k.reply.w1 ∷ [])) ++ (k.reply.w2 ∷ [])) (k.reply.runs ∷ []) (k.reply.released ∷ []) ∙ append_assoc (w ++ (k.reply.w1 ∷ [])) (k.reply.w2 ∷ []) _ ∙ append_assoc w (k.reply.w1 ∷ []) _ ∙ sym (more_answers k l)))

-- one event more
module _ (given : List ℤ) (i : ℕ) (old new : Lent) (S : SoFar given i old new) (e5 : 5 * i + 5 ≤ length given) (c1 : i < length old.codes) (a4 : 4 * i + 4 ≤ length old.answers) where
  pub one_more : (later : Lent) {now : ℕ} → EventRan given i new later now → SoFar given (suc i) old later
  one_more later R =
      let k : Link = record { event = event_at given i; reply = R.reply; left = later.memory } in
      let l : List Link = S.links in
      let r : Reply = R.reply in
      record {
        links = l ++ (k ∷ []);
        chain = more_chain k old.memory l S.chain (subst (λ (x : Memory). Step (event_at given i) x r later.memory) S.left R.step);
        count = length-append l (k ∷ []) ∙ omega (arith, S.count);
        events = ap (λ (x : List Event). x ++ events_of (drop (5 * suc i) given)) (more_mapped k (λ j. j.event) l) ∙ append_assoc (map (λ j. j.event) l) (event_at given i ∷ []) _ ∙ ap (λ (x : List Event). map (λ j. j.event) l ++ x) (sym (five i given e5)) ∙ S.events;
        left = sym (more_left k old.memory l);
        codes = R.codes ∙ ap (λ (x : List ℤ). set x i r.code) S.codes ∙ over_more (codes_of l) old.codes r.code (length-map l (λ j. j.reply.code) ∙ S.count) c1 ∙ ap (λ (x : List ℤ). over x old.codes) (sym (more_mapped k (λ j. j.reply.code) l));
        answers = R.answers ∙ ap (answered i r.w1 r.w2 r.runs r.released) S.answers ∙ answers_more l k old.answers S.count a4;
      }

-- ---- the loop

-- what holds where i events have run: so much is done, and it is known whether the state is sound and who runs
pub record Running (given : List ℤ) (k : Result ℕ Breach) (i : ℕ) (old new : Lent) : Type 0 where
  pub so_far : SoFar given i old new
  pub known : Known k new.memory

pub begins : (given : List ℤ) (old : Lent) {k : Result ℕ Breach} → Known k old.memory → Running given k 0 old old
begins given old K = record { so_far = none_yet given old; known = K }

pub goes_on : {given : List ℤ} {k : Result ℕ Breach} {i now : ℕ} {old new later : Lent} → Room given old → i < length given / 5 → Running given k i old new → EventRan given i new later now
    → {k' : Result ℕ Breach} → k' ≡ result_and k (Ok now) → Running given k' (i + 1) old later
goes_on {given} {k} {i} {now} {old} {new} {later} P h R E {k'} n = let e : suc i ≡ i + 1 = omega arith in subst (λ (j : ℕ). Running given k' j old later) e (record {
  so_far = one_more given i old new R.so_far (omega (arith, h)) (omega (arith, h, P.codes)) (omega (arith, h, P.answers)) later E;
  known = subst (λ (x : Result ℕ Breach). Known x later.memory) (ap (λ (x : ℕ). result_and k (Ok x)) (sym E.runs) ∙ sym n) (known_on k R.known E.step);
})

pub ends : {given : List ℤ} {k : Result ℕ Breach} {i : ℕ} {old new : Lent} → Room given old → length given / 5 ≤ i → Running given k i old new → RanThrough given old new
ends {given} {i = i} {old = old} {new = new} P h R = all_run given i old new (omega (arith, h, P.whole)) R.so_far

-- in the loop: the same, for who knows what is known before the first and that there is room; and the lent places keep their lengths
pub record Turning (given : List ℤ) (k now : Result ℕ Breach) (i : ℕ) (old new : Lent) : Type 0 where
  pub running : Known k old.memory → Room given old → Running given now i old new
  pub codes : length new.codes ≡ length old.codes
  pub answers : length new.answers ≡ length old.answers

-- ---- one event

-- a batch of one is a step, and its answer is what was written
pub one_ran : {k n a b c : ℤ} {old new : Lent} → RanThrough (k ∷ n ∷ a ∷ b ∷ c ∷ []) old new
    → Step (event_of k n a b c) old.memory (reply (get_or new.codes 0 (pos 0)) (get_or new.answers 0 0) (get_or new.answers 1 0) (get_or new.answers 2 0) (get_or new.answers 3 0)) new.memory
unfolding over
one_ran {k} {n} {a} {b} {c} {old} {new} R = go R.links R.chain R.events R.left R.codes R.answers
  where
    go : (l : List Link) → Chain old.memory l → map (λ j. j.event) l ≡ event_of k n a b c ∷ [] → new.memory ≡ last_memory old.memory l
        → new.codes ≡ over (codes_of l) old.codes → new.answers ≡ over (words_of l) old.answers
        → Step (event_of k n a b c) old.memory (reply (get_or new.codes 0 (pos 0)) (get_or new.answers 0 0) (get_or new.answers 1 0) (get_or new.answers 2 0) (get_or new.answers 3 0)) new.memory
    go [] C e m x y = let z : ◌≡◌ {A = ℕ} 0 1 = ap length e in absurd (omega (arith, z))
    go (j ∷ []) C e m x y = rw (m, x, y) (subst (λ (o : Event). Step o old.memory j.reply j.left) (ap (λ (q : List Event). get_or q 0 tick) e) C.0)
    go (j ∷ h ∷ l) C e m x y = let z : suc (suc (length (map (λ (i : Link). i.event) l))) ≡ 1 = ap length e in absurd (omega (arith, z))
