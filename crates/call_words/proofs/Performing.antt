-- Acts performed one after the other on an accepted memory: it stays accepted, and shows what the acts make of the view. `Pre` says what keeps
-- a state sound, and is silent on whether what an act names is there: `Names` adds that.
use mathlib.Core.List.{List, [], ◌∷◌, ◌++◌}
use mathlib.Core.Logic.{inl, inr}
use mathlib.Core.Path.{◌≡◌, refl, sym, ap, ◌∙◌, subst}
use Prim.Native.Nat.{ℕ, ◌+◌}
use native.Mathlib.Omega.{arith}
use Rattle.rules.specs.Codes.{Code}
use Rattle.rules.specs.State.{alarm_of, Body, nobody, is_ready}
use Rattle.rules.specs.Acts.{Act, start, retire, create, delete, rotate, regrade, wait, release, suspend, resume, wakeups, count, pattern, post, receive, mark, elapse, nest, alarm, after, afters}
use Rattle.rules.specs.Releases.{releases}
use Rattle.rules.specs.View.{View, act, acts}
use Rattle.rules.specs.Sound.{CellNumbers, Sound}
use Rattle.rules.proofs.Ids.{tested}
use Rattle.rules.proofs.Keeps.{Pre, Names}
use Rattle.rules.proofs.Queues.{sound_act, body_act}
use Rattle.rules.proofs.Cells.{body_acts}
use Rattle.rules.proofs.Firings.{Along}
use Rattle.rules.proofs.Calls.{Steps}
use Rattle.memory_picture.specs.Picture.{code_of, body_shown, view_shown, Accepted, Shows}
use Rattle.memory_picture.specs.Perform.{code_kept, performed, performed_marks, Fit}
use Rattle.memory_picture.proofs.FormWords.{back_kept}
use Rattle.memory_picture.proofs.Perform.{perform_law}
use Rattle.call_words.specs.Doing.{performs, performs_marks}

-- ---- what an act names is there

-- of each act of a list, at its time
abbrev pub AllNames : Body → List Act → Type 0
AllNames = Along Names

-- a cell's code is one that the memory keeps
cell_kept : (c : Code) (w : ℕ) → CellNumbers (record { code = c; word = w }) → code_of (code_kept c) ≡ c
unfolding code_of
cell_kept c w (inl h) = subst (λ (x : Code). code_of (code_kept x) ≡ x) (sym h.0) refl
cell_kept c w (inr h) = elim h.0 [ inl e ↦ subst (λ (x : Code). code_of (code_kept x) ≡ x) (sym e) refl | inr e ↦ subst (λ (x : Code). code_of (code_kept x) ≡ x) (sym e) refl ]

pub pre_fits : (b : Body) (a : Act) → Pre b a → Names b a → Fit b a
pre_fits b (start i) p n = (n, p n)
pre_fits b (retire i) p n = n
pre_fits b (create i k) p n = n
pre_fits b (delete i) p n = n
pre_fits b (rotate i) p n = (tested (λ t. is_ready t.state) b.tasks i nobody refl p, p)
pre_fits b (regrade i k) p n = (n, p.0)
pre_fits b (wait i w) p n = (n, (p.1 n).0)
pre_fits b (release i c w) p n = (n, cell_kept c w p)
pre_fits b (suspend i) p n = n
pre_fits b (resume i) p n = n
pre_fits b (wakeups i k) p n = n
pre_fits b (count s k) p n = n
pre_fits b (pattern f k) p n = n
pre_fits b (post j m) p n = (n.0, p.0, n.1)
pre_fits b (receive j) p n = n
pre_fits b (mark q k t) p n = n
pre_fits b elapse p n = n
pre_fits b (nest h) p n = n
pre_fits b (alarm k c s) p n = (n, back_kept (alarm_of b.counter k).wakes c p.0)

-- ---- acts performed one after the other

pub performs_append : (l r : List Act) (b : List ℕ) → performs (l ++ r) b ≡ performs r (performs l b)
unfolding performs
performs_append [] r b = refl
performs_append (a ∷ l) r b = performs_append l r (performed a b)

pub marks_append : (l r : List Act) (m : List ℕ) → performs_marks (l ++ r) m ≡ performs_marks r (performs_marks l m)
unfolding performs_marks
marks_append [] r m = refl
marks_append (a ∷ l) r m = marks_append l r (performed_marks a m)

pub releases_append : (l r : List Act) → releases (l ++ r) ≡ releases l + releases r
releases_append [] r = omega arith
releases_append (a ∷ l) r = rw (releases_append l r) (omega arith)

pub shown_body : (b m : List ℕ) → (view_shown b m).body ≡ body_shown b m
unfolding view_shown
shown_body b m = refl

-- one act
module _ (a : Act) (b m : List ℕ) (A : Accepted b m) (p : Pre (body_shown b m) a) (n : Names (body_shown b m) a) where
  pub shows : Shows (performed a b) (performed_marks a m) (act a (view_shown b m))
  shows = perform_law a b m A (pre_fits (body_shown b m) a p n)

  pub accepts : Accepted (performed a b) (performed_marks a m)
  accepts = record {
    whole = shows.whole;
    sound = subst Sound (sym shows.view) (sound_act a (view_shown b m) A.sound (subst (λ (c : Body). Pre c a) (sym (shown_body b m)) p));
  }

  body_then : after a (body_shown b m) ≡ body_shown (performed a b) (performed_marks a m)
  body_then = ap (after a) (sym (shown_body b m)) ∙ sym (body_act a (view_shown b m)) ∙ ap (λ (v : View). v.body) (sym shows.view) ∙ shown_body _ _

pub performs_law : (l : List Act) (b m : List ℕ) → Accepted b m → Steps (body_shown b m) l → AllNames (body_shown b m) l
    → Accepted (performs l b) (performs_marks l m) × (view_shown (performs l b) (performs_marks l m) ≡ acts l (view_shown b m))
unfolding performs performs_marks acts
performs_law [] b m A s n = (A, refl)
performs_law (a ∷ l) b m A s n =
    let e = body_then a b m A s.0 n.0 in
    let r =
    performs_law l (performed a b) (performed_marks a m) (accepts a b m A s.0 n.0) (subst (λ (c : Body). Steps c l) e s.1)
    (subst (λ (c : Body). AllNames c l) e n.1) in
    (r.0, r.1 ∙ ap (acts l) (shows a b m A s.0 n.0).view)

-- of acts that touch no message
pub words_law : (l : List Act) (b m : List ℕ) → Accepted b m → Steps (view_shown b m).body l → AllNames (view_shown b m).body l → performs_marks l m ≡ m
    → Accepted (performs l b) m × ((view_shown (performs l b) m).body ≡ afters l (view_shown b m).body)
words_law l b m A s n e =
    let r = performs_law l b m A (subst (λ (c : Body). Steps c l) (shown_body b m) s) (subst (λ (c : Body). AllNames c l) (shown_body b m) n) in
    subst (λ (x : List ℕ). Accepted (performs l b) x × ((view_shown (performs l b) x).body ≡ afters l (view_shown b m).body)) e (r.0, ap (λ (v : View). v.body) r.1 ∙ body_acts l (view_shown b m))
