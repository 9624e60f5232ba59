-- The refusals before a call's own rule: the code of the first that applies, if one does.
use Rattle.std.specs.Prelude.{Bool, false, cond, List, [], ◌∷◌, ◌++◌, ◌≡◌, ℕ, zero, suc, eqb, pos, Option, None, Some, Result, Ok, Err}
use Rattle.rules.specs.Codes.{Code, E-CTX, E-NOEXS, E-SELF, E-DMT, E-TPRI, E-ILTIME, H-PAR}
use Rattle.rules.specs.State.{Kind}
use Rattle.rules.specs.View.{View}
use Rattle.rules.specs.Rows.{Refusal, Context, T, both, Target, unnamed, anyone, alive, another, Row, object_id}
use Rattle.rules.specs.Table.{misplaced, names_absent, names_self, names_dormant}
use Rattle.memory_picture.specs.Picture.{kind_number, view_shown, Accepted}
use Rattle.call_judging.specs.declared.Reason.{Reason}
use Rattle.call_judging.specs.declared.Reason.TheVariants as Why
use Rattle.call_judging.specs.declared.Context as Declared
use Rattle.call_judging.specs.declared.Context.TheVariants.{TaskOnly, Both}
use Rattle.call_judging.specs.declared.Target as Named
use Rattle.call_judging.specs.declared.Target.TheVariants.{Unnamed, Anyone, Alive, Another}

unfoldable pub first_code : List Refusal → Option Code
first_code [] = None
first_code (x ∷ l) = cond x.applies (Some x.code) (first_code l)

abbrev pub code_of : Reason → Code
code_of Why.Misplaced = E-CTX
code_of Why.Absent = E-NOEXS
code_of Why.Oneself = E-SELF
code_of Why.Dormant = E-DMT
code_of Why.BadPriority = E-TPRI
code_of Why.BadTime = E-ILTIME
code_of Why.BadParameter = H-PAR

-- what is told: the code, if the call is refused
abbrev pub told : {A : Type 0} → Result A Reason → Option Code
told (Ok a) = None
told (Err e) = Some (code_of e)

-- ---- E_CTX, E_NOEXS of a task that is not there, E_SELF, E_DMT

abbrev pub context_of : Declared.Context → Context
context_of TaskOnly = T
context_of Both = both

-- by a number, whatever it is
abbrev pub numbered : ℕ → Named.Target
numbered zero = Unnamed
numbered (suc zero) = Anyone
numbered (suc (suc zero)) = Alive
numbered (suc (suc (suc n))) = Another

-- of task i
abbrev pub target_of : Named.Target → ℕ → Target
target_of Unnamed i = unnamed
target_of Anyone i = anyone i
target_of Alive i = alive i
target_of Another i = another i

-- d: the task that is named is dormant
abbrev pub dormant_if : Target → Bool → Bool
dormant_if unnamed d = false
dormant_if (anyone i) d = false
dormant_if (alive i) d = d
dormant_if (another i) d = d

-- a: the task that is named is not there
abbrev pub absent_if : Target → Bool → Bool
absent_if unnamed a = false
absent_if (anyone i) a = a
absent_if (alive i) a = a
absent_if (another i) a = a

-- a: E_NOEXS applies; d: E_DMT does
abbrev pub common : Context → Target → Bool → ℕ → Bool → Bool → List Refusal
common c t handler me a d =
    record { applies = misplaced c handler me; code = E-CTX }
    ∷ record { applies = a; code = E-NOEXS }
    ∷ record { applies = names_self t me; code = E-SELF }
    ∷ record { applies = d; code = E-DMT }
    ∷ []

-- s: the status of the task that is named
abbrev pub common_code : Context → Target → Bool → ℕ → ℕ → Option Code
common_code c t handler me s = first_code (common c t handler me (absent_if t (eqb s 6)) (dormant_if t (eqb s 0)))

-- ---- a row: its words, then these

abbrev pub refusals_of : View → Bool → ℕ → List Refusal → Context → Target → List Refusal
refusals_of v handler me words c t = words ++ common c t handler me (names_absent v.body t) (names_dormant v.body t)

-- z is the row's code, if it has one, on any accepted memory
abbrev pub Judges : (View → List Refusal) → Context → Target → Bool → ℕ → Option Code → List ℕ → Type 0
Judges words c t handler me z b = (m : List ℕ) → Accepted b m → z ≡ first_code (refusals_of (view_shown b m) handler me (words (view_shown b m)) c t)

-- the same of a call that names object i, of the kind that is counted at n, and judges no other word
abbrev pub JudgesObject : ℕ → Context → Bool → ℕ → ℕ → Option Code → List ℕ → Type 0
JudgesObject n c handler me i z b = (k : Kind) → kind_number k ≡ n → Judges (λ v. object_id v k (pos i) ∷ []) c unnamed handler me z b

-- ---- a row of the table

abbrev pub row_code : View → Bool → ℕ → Row → Option Code
row_code v handler me r = first_code (refusals_of v handler me r.words r.context r.target)
