-- The order of the refusals, row by row: the first word that fails, then E_CTX, E_NOEXS, E_SELF, E_DMT, then the rule. Which calls are task-only.
-- And a message that lies in a mailbox cannot be sent again. Assumes nothing.
use mathlib.Core.Bool.{Bool, true, false}
use mathlib.Core.List.{List, [], ◌∷◌, map}
use mathlib.Core.Option.{none, some}
use mathlib.Core.Path.{◌≡◌, refl}
use Prim.Native.Nat.{ℕ}
use lib.IntN.{ℤ}
use Rattle.rules.specs.Ids.{of}
use Rattle.rules.specs.Codes.{E-NOEXS, E-CTX, E-SELF, E-DMT, H-MSG}
use Rattle.rules.specs.Events.{nat}
use Rattle.rules.specs.View.{View}
use Rattle.rules.specs.Verdicts.{Verdict, refuse, check}
use Rattle.rules.specs.Objects.{snd_msg}
use Rattle.rules.specs.Rows.{Refusal, T, both, Row}
use Rattle.rules.specs.Table.{refusals, misplaced, names_absent, names_self, names_dormant, judged, table, calls_shown}
use Rattle.rules.proofs.Judge.{Passed, Passes}

passed : (l : List Refusal) (r : Verdict) → Passed l → refusals l r ≡ r
unfolding refusals check
passed [] r p = refl
passed (x ∷ l) r p = rw p.0 (passed l r p.1)

module _ (v : View) (h : Bool) (me : ℕ) (r : Row) where
  -- a word that fails decides, before the words behind it and whatever else applies
  pub word_decides : (x : Refusal) (l : List Refusal) → r.words ≡ x ∷ l → x.applies ≡ true → judged v h me r ≡ refuse x.code
  unfolding judged refusals check
  word_decides x l e t = rw (e, t)

  pub context_decides : Passed r.words → misplaced r.context h me ≡ true → judged v h me r ≡ refuse E-CTX
  unfolding judged refusals check
  context_decides p t = rw (passed r.words _ p, t)

  pub absent_decides : Passed r.words → misplaced r.context h me ≡ false → names_absent v.body r.target ≡ true → judged v h me r ≡ refuse E-NOEXS
  unfolding judged refusals check
  absent_decides p c t = rw (passed r.words _ p, c, t)

  pub self_decides : Passed r.words → misplaced r.context h me ≡ false → names_absent v.body r.target ≡ false → names_self r.target me ≡ true → judged v h me r ≡ refuse E-SELF
  unfolding judged refusals check
  self_decides p c n t = rw (passed r.words _ p, c, n, t)

  pub dormant_decides : Passed r.words → misplaced r.context h me ≡ false → names_absent v.body r.target ≡ false → names_self r.target me ≡ false
      → names_dormant v.body r.target ≡ true → judged v h me r ≡ refuse E-DMT
  unfolding judged refusals check
  dormant_decides p c n s t = rw (passed r.words _ p, c, n, s, t)

  pub rule_decides : Passes v h me r → judged v h me r ≡ r.rule
  unfolding judged refusals check
  rule_decides p = rw (passed r.words _ p.words, p.context, p.there, p.self, p.dormant)

-- the calls marked T are ext_tsk, ter_tsk, slp_tsk, wai_tsk, those that wait on an object, cre_tsk, del_tsk and exd_tsk
pub contexts : (v : View) (me : ℕ) (a b c : ℤ)
    → map (λ r. r.context) (table v me a b c)
    ≡ both ∷ T ∷ T ∷ both ∷ both ∷ both ∷ both ∷ both ∷ T ∷ T ∷ both ∷ both
    ∷ both ∷ T ∷ both ∷ both ∷ both ∷ T ∷ both ∷ both ∷ T ∷ both ∷ T ∷ both ∷ both
    ∷ both ∷ both ∷ both ∷ both ∷ both ∷ both ∷ both ∷ T ∷ T ∷ T ∷ both ∷ both ∷ both ∷ both ∷ []
unfolding calls_shown
contexts v me a b c = refl

pub lying_not_sent : (v : View) (a b : ℤ) (m : ℕ) → of v.body.store.messages (nat b) none ≡ some m → snd_msg v a b ≡ refuse H-MSG
unfolding snd_msg check
lying_not_sent v a b m e = rw e
