-- What a task's cell reads along a chain: of a task that an event neither releases nor starts nor deletes it reads as before. Assumes nothing.
use mathlib.Core.Bool.{Bool, true, false, false≢true}
use mathlib.Core.List.{List, [], ◌∷◌}
use mathlib.Core.Logic.{◌≢◌}
use mathlib.Core.Path.{◌≡◌, refl, sym, ap, ◌∙◌}
use Prim.Native.Nat.{ℕ}
use native.Mathlib.Decide.{ℕ_discrete}
use lib.IntN.{ℤ, pos, negsuc, ℤ_discrete}
use Rattle.rules.specs.Codes.{E-NOEXS, number, negative, in_damage, tells_damage}
use Rattle.rules.specs.State.{Cell, task}
use Rattle.rules.specs.Events.{Event}
use Rattle.rules.specs.View.{View}
use Rattle.rules.specs.Answers.{read_cell}
use Rattle.rules.specs.Breach.{breach}
use Rattle.rules.specs.Kernel.{next}
use Rattle.rules.specs.Broken.{is_fresh, Unless}
use Rattle.rules.proofs.Breach.{breach_tells}
use Rattle.rules.proofs.Broken.{read_kept, read_there}
use Rattle.rules.proofs.Events.{event_next}
use Rattle.memory_picture.specs.Picture.{Memory, view_in, SoundIn}
use Rattle.kernel_steps.specs.Steps.{Reply, Link, Step, Chain}
use Rattle.kernel_cells.specs.Promises.{Reads}
use Rattle.brightness.specs.DarkRoom.{state_in, UntilFreed}

-- ---- one event

-- the cell of task t in a state
abbrev pub cell_of : View → ℕ → Cell
cell_of v t = read_cell v.body (pos t)

-- the memory is sound, and the cell of task t is this one
pub record Holds (t : ℕ) (x : Cell) (m : Memory) : Type 0 where
  pub accepted : SoundIn m
  pub cell : cell_of (view_in m) t ≡ x

holds_on : {t : ℕ} {x : Cell} {m : Memory} (k : Link) → x.code ≢ E-NOEXS → Holds t x m → Step k.event m k.reply k.left
    → is_fresh (state_in m t) (state_in k.left t) ≡ false → Holds t x k.left
holds_on {t} {m = m} k n H S f =
    let A = H.accepted in
    let e : view_in k.left ≡ next (view_in m) k.event = S.shows A ∙ event_next (view_in m) k.event A.sound in
    let g = ap (λ (v : View). is_fresh (state_in m t) (task v.body t).state) (sym e) ∙ f in
    let there = read_there (view_in m).body (pos t) (λ c. n (ap (λ (y : Cell). y.code) (sym H.cell) ∙ c)) in
    record { accepted = S.accepted A; cell = ap (λ (v : View). cell_of v t) e ∙ read_kept (view_in m) k.event (pos t) there g ∙ H.cell }

-- ---- a chain

-- whatever `cell` reads of task t is this
abbrev pub CellIs : ℕ → Cell → Memory → Type 0
CellIs t x m = (code : ℤ) (word : ℕ) → Reads m (pos t) code word → (code ≡ number x.code) × (word ≡ x.word)

cell_is : {t : ℕ} {x : Cell} {m : Memory} → Holds t x m → CellIs t x m
cell_is H code word R =
    let r = R.sound H.accepted in
    (r.0 ∙ ap (λ (y : Cell). number y.code) H.cell, r.1 ∙ ap (λ (y : Cell). y.word) H.cell)

pub cell_until : {t : ℕ} {x : Cell} {m : Memory} (l : List Link) → x.code ≢ E-NOEXS → Holds t x m → Chain m l → UntilFreed t (CellIs t x) m l
cell_until [] n H C = cell_is H
cell_until {t} {x} {m} (k ∷ l) n H C = (cell_is H, go (is_fresh (state_in m t) (state_in k.left t)) refl (λ f. cell_until l n (holds_on k n H C.0 f) C.1))
  where
    go : (u : Bool) {A : Type 0} → is_fresh (state_in m t) (state_in k.left t) ≡ u → (is_fresh (state_in m t) (state_in k.left t) ≡ false → A) → Unless u A
    go true f h = tt
    go false f h = h f

-- what follows from P holds as long
unless : (u : Bool) {A B : Type 0} → (A → B) → Unless u A → Unless u B
unless true f h = tt
unless false f h = f h

pub until_map : (t : ℕ) {P Q : Memory → Type 0} → ((m : Memory) → P m → Q m) → (m : Memory) (l : List Link) → UntilFreed t P m l → UntilFreed t Q m l
until_map t f m [] U = f m U
until_map t f m (k ∷ l) U = (f m U.0, unless (is_fresh (state_in m t) (state_in k.left t)) (until_map t f k.left l) U.1)

-- ---- an event that is not refused

-- A cell's reading is decided, so what follows from a fact that cannot fail holds.
module _ {A : Type 0} (n : (A → ⊥) → ⊥) where
  pub sureℤ : (x y : ℤ) → (A → x ≡ y) → x ≡ y
  sureℤ x y f = elim (ℤ_discrete x y) [ yes e ↦ e | no h ↦ absurd (n (λ a. h (f a))) ]

  sureℕ : (x y : ℕ) → (A → x ≡ y) → x ≡ y
  sureℕ x y f = elim (ℕ_discrete x y) [ yes e ↦ e | no h ↦ absurd (n (λ a. h (f a))) ]

  sure_unless : (u : Bool) {B : Type 0} → ((A → B) → B) → (A → Unless u B) → Unless u B
  sure_unless true s f = tt
  sure_unless false s f = s f

  pub sure_words : {x y : ℤ} {p q : ℕ} → (A → (x ≡ y) × (p ≡ q)) → (x ≡ y) × (p ≡ q)
  sure_words f = (sureℤ _ _ (λ a. (f a).0), sureℕ _ _ (λ a. (f a).1))

  pub sure_until : (t : ℕ) (x : Cell) (m : Memory) (l : List Link) → (A → UntilFreed t (CellIs t x) m l) → UntilFreed t (CellIs t x) m l
  sure_until t x m [] f = λ code word R. sure_words (λ a. f a code word R)
  sure_until t x m (k ∷ l) f =
      ((λ code word R. sure_words (λ a. (f a).0 code word R)), sure_unless (is_fresh (state_in m t) (state_in k.left t)) (sure_until t x k.left l) (λ a. (f a).1))

damage_negative : (z : ℤ) → in_damage z ≡ true → negative z ≡ true
damage_negative (pos k) e = absurd (false≢true e)
damage_negative (negsuc k) e = refl

-- its memory is sound
pub not_refused : {e : Event} {old new : Memory} {r : Reply} → Step e old r new → negative r.code ≡ false → (SoundIn old → ⊥) → ⊥
unfolding tells_damage
not_refused {old = old} S p n =
    false≢true (sym p ∙ ap (λ (q : Reply). negative q.code) (S.refuses n) ∙ damage_negative (number (breach (view_in old)).code) (breach_tells (view_in old)))
