-- What a byte makes of the lent numbers and bytes is what it makes of the recorder that they are. Assumes nothing.
use mathlib.Core.Bool.{Bool, cond}
use mathlib.Core.List.{List, [], ◌∷◌, ◌++◌}
use mathlib.Core.Logic.{◌≢◌}
use mathlib.Core.Path.{◌≡◌, refl, sym, ap, ◌∙◌}
use Prim.Native.Nat.{ℕ, zero, suc, ◌+◌, ◌-◌, ◌*◌, ◌/◌, ◌≤◌, ◌<◌, min}
use native.Mathlib.Omega.{arith}
use native.Mathlib.Numerals.{add-one}
use lib.Dec.{leb}
use lib.ListN.{length, take, set, length-take}
use borrow.Author.Tests.{le-leb, lt-leb}
use Rattle.rules.specs.Setup.{Fault, S1, S2, S3, S4, Read, got, refused, word_at}
use Rattle.rules.proofs.Accepted.{from_read}
use Rattle.std.specs.Prelude.{Result, Ok, Err}
use Rattle.setup_sections.specs.Judging.{Refusal, coded, refusal, judged_of}
use Rattle.setup_sections.specs.declared.Fault.TheVariants as code
use Rattle.setup_sections.proofs.Judging.{good_read, bad_read}
use Rattle.run_reading.specs.Recorded.{head_bytes, event_bytes, event_in, Head, read_head, begins, occurs, refuses}
use Rattle.run_reading.specs.Recorder.{heading, running, stopped, ended, begun, closed, is_ended, Fed, fed, on_fault, on_head, eat, on_end, at_input_end}
use Rattle.run_reading.proofs.Reach.{setup_prefix, needs_more, Parts, head_parts}
use Rattle.run_stream.specs.declared.Item.{Item as Completed}
use Rattle.run_stream.specs.declared.Item.TheVariants.{Nothing, Begins, Occurs}
use Rattle.run_stream.specs.Lent.{phase, size, total, done, base, place_of, numbers_of, held_of, by_phase, recorder_of, Is, Tells, Takes}

-- ---- lists

take_take : (s : List ℕ) (i n : ℕ) → i ≤ n → take i (take n s) ≡ take i s
take_take [] zero zero h = refl
take_take [] zero (suc n) h = refl
take_take [] (suc i) zero h = refl
take_take [] (suc i) (suc n) h = refl
take_take (x ∷ s) zero zero h = refl
take_take (x ∷ s) zero (suc n) h = refl
take_take (x ∷ s) (suc i) zero h = absurd (omega (arith, h))
take_take (x ∷ s) (suc i) (suc n) h = ap (λ (l : List ℕ). x ∷ l) (take_take s i n (omega (arith, h)))

pub take_set : (s : List ℕ) (n b : ℕ) → n < length s → take (n + 1) (set s n b) ≡ take n s ++ (b ∷ [])
take_set [] n b h = absurd (omega (arith, h))
take_set (x ∷ s) zero b h = refl
take_set (x ∷ s) (suc n) b h = let e : suc n + 1 ≡ suc (n + 1) = omega arith in rw e (ap (λ (l : List ℕ). x ∷ l) (take_set s n b (omega (arith, h))))

-- ---- phases

module _ (n h : List ℕ) where
  pub is_heading : phase n ≡ 0 → recorder_of n h ≡ heading (held_of head_bytes n h)
  unfolding recorder_of
  is_heading e = rw e

  pub is_running : phase n ≡ 1 → recorder_of n h ≡ running (total n - done n) (suc (done n)) (place_of n) (held_of event_bytes n h)
  unfolding recorder_of
  is_running e = rw e

  pub closed_tests : {t : Bool} → t ≡ leb 2 (phase n) → t ≡ closed (recorder_of n h)
  unfolding recorder_of
  closed_tests e = e ∙ go (phase n)
    where
      go : (p : ℕ) → leb 2 p ≡ closed (by_phase p n h)
      go zero = refl
      go (suc zero) = refl
      go (suc (suc zero)) = refl
      go (suc (suc (suc k))) = le-leb 2 (suc (suc (suc k))) (omega arith)

  pub ended_tests : {t : Bool} → t ≡ leb 3 (phase n) → t ≡ is_ended (recorder_of n h)
  unfolding recorder_of
  ended_tests e = e ∙ go (phase n)
    where
      go : (p : ℕ) → leb 3 p ≡ is_ended (by_phase p n h)
      go zero = refl
      go (suc zero) = refl
      go (suc (suc zero)) = refl
      go (suc (suc (suc k))) = le-leb 3 (suc (suc (suc k))) (omega arith)

pub begun_is : (n : List ℕ) → n ≡ numbers_of 0 0 0 0 0 → Is n begun
unfolding recorder_of
begun_is n e h = rw e

pub ended_is : (n : List ℕ) → n ≡ numbers_of 3 0 0 0 0 → Is n ended
unfolding recorder_of
ended_is n e h = rw e

-- ---- setup and count

-- S1 alone is told as S1
fault_one : (f : Fault) → coded f ≡ code.S1 → f ≡ S1
fault_one S1 e = refl
fault_one S2 e = absurd (let z : ◌≡◌ {A = ℕ} 0 1 = cc in omega arith)
fault_one S3 e = absurd (let z : ◌≡◌ {A = ℕ} 0 1 = cc in omega arith)
fault_one S4 e = absurd (let z : ◌≡◌ {A = ℕ} 0 1 = cc in omega arith)

fault_final : (l : List ℕ) (f : Fault) (p : ℕ) → coded f ≢ code.S1 → on_fault l f p ≡ fed stopped (refuses f p ∷ [])
fault_final l S1 p h = absurd (h refl)
fault_final l S2 p h = refl
fault_final l S3 p h = refl
fault_final l S4 p h = refl

-- the count stands behind the setup, within the bytes
pub good_sizes : (s : List ℕ) {j : Result ℕ Refusal} → j ≡ judged_of (read_head s) → (i : ℕ) → j ≡ Ok i → (4 ≤ i) × (i ≤ length s)
good_sizes s q i z =
    let r = good_read (read_head s) i (sym q ∙ z) in
    let P : Parts s r.0 i = from_read (Parts s) (read_head s) r.0 i r.1 (head_parts s) in
    (omega (arith, P.whole), P.within)

module _ (n h h' : List ℕ) (b : ℕ) (e : phase n ≡ 0) (k : ℕ) (few : k ≡ min (size n) (head_bytes - 1)) (room : head_bytes ≤ length h') (held : take (k + 1) h' ≡ take k h ++ (b ∷ [])) where
  front : List ℕ
  front = take (k + 1) h'

  front_length : length front ≡ k + 1
  unfolding front
  front_length = length-take (k + 1) h' ∙ omega (arith, few, room)

  eaten : eat (recorder_of n h) b ≡ on_head (take (k + 1) h') (read_head (take (k + 1) h'))
  unfolding eat
  eaten = rw (is_heading n h e, ← few, ← held)

  pub head_more : {j : Result ℕ Refusal} → j ≡ judged_of (read_head (take (k + 1) h')) → (d : Refusal) → j ≡ Err d → d.fault ≡ code.S1 → Takes b n h (Ok Nothing) (numbers_of 0 (k + 1) 0 0 0) h'
  unfolding recorder_of front
  head_more q d z w =
      let r = bad_read (read_head front) d (sym q ∙ z) in
      let s : read_head front ≡ refused S1 d.place = r.1 ∙ ap (λ (f : Fault). refused f d.place) (fault_one r.0 (sym r.2 ∙ w)) in
      let l : length front < head_bytes = needs_more front d.place s in
      let m : min (k + 1) (head_bytes - 1) ≡ k + 1 = omega (arith, l, front_length) in
      let g : eat (recorder_of n h) b ≡ fed (heading front) [] = eaten ∙ rw s in
      record { next = rw m (sym (ap (λ (x : Fed). x.next) g)); tells = ap (λ (x : Fed). x.items) g; sized = tt }

  pub head_refused : {j : Result ℕ Refusal} → j ≡ judged_of (read_head (take (k + 1) h')) → (d : Refusal) → j ≡ Err d → d.fault ≢ code.S1 → Takes b n h (Err d) (numbers_of 2 0 0 0 0) h'
  unfolding recorder_of front
  head_refused q d z w =
      let r = bad_read (read_head front) d (sym q ∙ z) in
      let g : eat (recorder_of n h) b ≡ fed stopped (refuses r.0 d.place ∷ []) =
      eaten ∙ ap (λ (y : Read Head). on_head front y) r.1 ∙ fault_final front r.0 d.place (λ (x : coded r.0 ≡ code.S1). w (r.2 ∙ x)) in
      record { next = sym (ap (λ (x : Fed). x.next) g); tells = (r.0, ap (λ (x : Fed). x.items) g, r.2); sized = tt }

  module _ {j : Result ℕ Refusal} (q : j ≡ judged_of (read_head (take (k + 1) h'))) (i : ℕ) (z : j ≡ Ok i) where
    abbrev read : (x : Head) × (read_head (take (k + 1) h') ≡ got x i)
    read = good_read (read_head (take (k + 1) h')) i (sym q ∙ z)

    parts : Parts (take (k + 1) h') read.0 i
    parts = from_read (Parts (take (k + 1) h')) (read_head (take (k + 1) h')) read.0 i read.1 (head_parts (take (k + 1) h'))

    pub head_begins : (events : ℕ) → events ≡ word_at (take (k + 1) h') (i - 4) → Takes b n h (Ok (Begins (i - 4))) (numbers_of 1 0 events 0 i) h'
    unfolding recorder_of front
    head_begins events c =
        let P = parts in
        let x : Head = read.0 in
        let end : i - 4 ≡ P.end = omega (arith, P.whole) in
        let g : eat (recorder_of n h) b ≡ fed (running x.events 1 i []) (begins x ∷ []) = eaten ∙ ap (λ (y : Read Head). on_head front y) read.1 in
        let t : events - 0 ≡ x.events = omega (arith, c ∙ ap (λ (y : ℕ). word_at (take (k + 1) h') y) end, P.events) in
        let p : i + event_bytes * 0 ≡ i = omega arith in
        let m : P.end ≤ k + 1 = omega (arith, P.whole, P.within, front_length) in
        record {
          next = rw (t, p) (sym (ap (λ (y : Fed). y.next) g));
          tells = (x, ap (λ (y : Fed). y.items) g, rw (end, ← (take_take h' P.end (k + 1) m)) (setup_prefix (take (k + 1) h') x.setup P.end P.setup (omega (arith, P.whole, P.within))));
          sized = omega (arith, P.whole, P.within, front_length, room, few);
        }

-- ---- events

module _ (n h : List ℕ) (b : ℕ) (e : phase n ≡ 1) where
  pub event_left_over : total n ≤ done n → {p : ℕ} → p ≡ place_of n → Takes b n h (Err (refusal S4 p)) (numbers_of 2 0 0 0 0) h
  unfolding recorder_of eat
  event_left_over l {p} q =
      let z : total n - done n ≡ 0 = omega (arith, l) in
      let g : eat (recorder_of n h) b ≡ fed stopped (refuses S4 p ∷ []) = rw (e, z, q) in
      record { next = sym (ap (λ (x : Fed). x.next) g); tells = (S4, ap (λ (x : Fed). x.items) g, refl); sized = tt }

  module _ (l : done n < total n) (k : ℕ) (few : k ≡ min (size n) (event_bytes - 1)) (h' : List ℕ) (room : head_bytes ≤ length h') (held : take (k + 1) h' ≡ take k h ++ (b ∷ [])) where
    next : ℕ
    next = total n - (done n + 1)

    some : total n - done n ≡ suc next
    unfolding next
    some = omega (arith, l)

    long : length (take (k + 1) h') ≡ k + 1
    long = length-take (k + 1) h' ∙ omega (arith, few, room)

    grown : eat (recorder_of n h) b
        ≡ cond (leb event_bytes (k + 1))
        (fed (running next (suc (suc (done n))) (place_of n + event_bytes) []) (occurs (suc (done n)) (event_in (take (k + 1) h')) ∷ []))
        (fed (running (suc next) (suc (done n)) (place_of n) (take (k + 1) h')) [])
    unfolding eat
    grown = rw (is_running n h e, some, ← few, ← held, long)

    pub event_more : k + 1 < event_bytes → Takes b n h (Ok Nothing) (numbers_of 1 (k + 1) (total n) (done n) (base n)) h'
    unfolding recorder_of
    event_more c =
        let g : eat (recorder_of n h) b ≡ fed (running (suc next) (suc (done n)) (place_of n) (take (k + 1) h')) [] = grown ∙ rw (lt-leb event_bytes (k + 1) c) in
        let m : min (k + 1) (event_bytes - 1) ≡ k + 1 = omega (arith, c) in
        record { next = rw (m, some) (sym (ap (λ (x : Fed). x.next) g)); tells = ap (λ (x : Fed). x.items) g; sized = tt }

    pub event_whole : event_bytes ≤ k + 1 → {i : ℕ} → i ≡ done n + 1 → Takes b n h (Ok (Occurs i)) (numbers_of 1 0 (total n) i (base n)) h'
    unfolding recorder_of next
    event_whole c {i} a =
        let j : k + 1 ≡ event_bytes = omega (arith, c, few) in
        let g : eat (recorder_of n h) b ≡ fed (running next (suc (suc (done n))) (place_of n + event_bytes) []) (occurs (suc (done n)) (event_in (take (k + 1) h')) ∷ []) = grown ∙ rw (le-leb event_bytes (k + 1) c) in
        let s : i ≡ suc (done n) = a ∙ add-one (done n) in
        let t : total n - i ≡ next = ap (λ (m : ℕ). total n - m) a in
        let p : base n + event_bytes * i ≡ place_of n + event_bytes = omega (arith, a) in
        let r : recorder_of (numbers_of 1 0 (total n) i (base n)) h' ≡ running next (suc (suc (done n))) (place_of n + event_bytes) [] = λ z. running (t z) (suc (s z)) (p z) [] in
        record { next = r ∙ sym (ap (λ (x : Fed). x.next) g); tells = ap (λ (x : Fed). x.items) g ∙ (λ z. occurs (sym s z) (event_in (take (j z) h')) ∷ []); sized = tt }

-- ---- a recorder that is closed, and the end

pub closed_byte : (n h : List ℕ) (b : ℕ) → phase n ≢ 0 → phase n ≢ 1 → Takes b n h (Ok Nothing) n h
unfolding recorder_of eat
closed_byte n h b x y = go (phase n) refl
  where
    go : (p : ℕ) → phase n ≡ p → Takes b n h (Ok Nothing) n h
    go zero e = absurd (x e)
    go (suc zero) e = absurd (y e)
    go (suc (suc zero)) e = record { next = rw e; tells = rw e; sized = tt }
    go (suc (suc (suc k))) e = record { next = rw e; tells = rw e; sized = tt }

pub closed_end : (n h : List ℕ) → phase n ≢ 0 → phase n ≢ 1 → Tells (Ok Nothing) h (at_input_end (recorder_of n h))
unfolding recorder_of at_input_end
closed_end n h x y = go (phase n) refl
  where
    go : (p : ℕ) → phase n ≡ p → at_input_end (by_phase (phase n) n h) ≡ []
    go zero e = absurd (x e)
    go (suc zero) e = absurd (y e)
    go (suc (suc zero)) e = rw e
    go (suc (suc (suc k))) e = rw e

module _ (n h : List ℕ) (e : phase n ≡ 0) {k : ℕ} (few : k ≡ min (size n) (head_bytes - 1)) {j : Result ℕ Refusal} (q : j ≡ judged_of (read_head (take k h))) where
  ends : at_input_end (recorder_of n h) ≡ on_end (read_head (take k h))
  unfolding at_input_end
  ends = rw (is_heading n h e, ← few)

  pub head_end_refused : (d : Refusal) → j ≡ Err d → Tells (Err d) h (at_input_end (recorder_of n h))
  head_end_refused d z =
      let r = bad_read (read_head (take k h)) d (sym q ∙ z) in
      (r.0, ends ∙ ap (λ (y : Read Head). on_end y) r.1, r.2)

  pub head_end_whole : (i : ℕ) → j ≡ Ok i → Tells (Ok Nothing) h (at_input_end (recorder_of n h))
  head_end_whole i z =
      let r = good_read (read_head (take k h)) i (sym q ∙ z) in
      ends ∙ ap (λ (y : Read Head). on_end y) r.1

module _ (n h : List ℕ) (e : phase n ≡ 1) where
  pub event_end_none : total n ≤ done n → Tells (Ok Nothing) h (at_input_end (recorder_of n h))
  unfolding at_input_end
  event_end_none l = let z : total n - done n ≡ 0 = omega (arith, l) in rw (is_running n h e, z)

  pub event_end_short : done n < total n → {k p : ℕ} → k ≡ min (size n) (event_bytes - 1) → k ≤ length h → p ≡ place_of n → Tells (Err (refusal S1 (p + 4 * (k / 4)))) h (at_input_end (recorder_of n h))
  unfolding at_input_end
  event_end_short l {k} {p} few room q =
      let z : total n - done n ≡ suc (total n - (done n + 1)) = omega (arith, l) in
      let m : length (take k h) ≡ k = length-take k h ∙ omega (arith, room) in
      (S1, rw (is_running n h e, z, ← few, q, m), refl)

-- the numbers that were written
pub takes_with : {b : ℕ} {n h : List ℕ} {t : Result Completed Refusal} {n' m h' : List ℕ} → m ≡ n' → Takes b n h t n' h' → Takes b n h t m h'
takes_with e T = rw e T
