-- The shape of every verdict: a bare refusal, an accepted call, a wait, or handlers that change. What is proved of refusals and of cells needs no more.
-- Assumes nothing.
use mathlib.Core.Bool.{Bool, true, false, false≢true}
use mathlib.Core.List.{List, [], ◌∷◌}
use mathlib.Core.Logic.{◌≢◌}
use mathlib.Core.Path.{◌≡◌, refl, sym, ap, ◌∙◌}
use Prim.Native.Nat.{ℕ}
use native.Mathlib.Omega.{arith}
use lib.IntN.{ℤ}
use lib.ListN.{length}
use Rattle.rules.specs.Codes.{Code, OK, E-CTX, H-NEST, E-RLWAI, tells_damage}
use Rattle.rules.specs.State.{flag, Wait, Handlers, Body}
use Rattle.rules.specs.Places.{waiters}
use Rattle.rules.specs.Events.{Event, tick, enter, exit, call, nat}
use Rattle.rules.specs.Acts.{Act, nest}
use Rattle.rules.specs.View.{View, line}
use Rattle.rules.specs.Verdicts.{Verdict, refuse, gives, done, waits, check}
use Rattle.rules.specs.Time.{ticked}
use Rattle.rules.specs.Handling.{entered, exited}
use Rattle.rules.specs.Table.{judge}
use Rattle.rules.proofs.Judge.{bad, bad_not_damage}
use Rattle.rules.proofs.Cells.{Careful-list, nothing, one, several, breaks as broken_off, marks, Gentle, releases, rung, served_whole, firing_gentle, flag_gentle, tick_gentle}
use Rattle.rules.proofs.Ways.{Finds, simple, rouses, breaks, serves, sets, Way, refused as way-refused, looked, acted, waited as way-waited, walked, granted, freed, handed, call_way}

-- of a call or a tick: a bare refusal, an accepted call with its words and careful acts, or a wait
pub data Clean (b : Body) : Verdict → Type 0 where
  refused : (c : Code) → bad c ≡ true → Clean b (refuse c)
  given : (x y : ℕ) (l : List Act) → Careful-list b l → Clean b (gives x y l)
  waited : (i : ℕ) (w : Wait) → Clean b (waits i w)

-- of any event: such a verdict, or the handlers change and nothing else
pub data CleanEvent (b : Body) : Verdict → Type 0 where
  clean_verdict : {r : Verdict} → Clean b r → CleanEvent b r
  nests : (h : Handlers) → CleanEvent b (done (nest h ∷ []))

-- ---- a call

gentle_one : {b : Body} {d : Act} → Gentle b d → Careful-list b (d ∷ [])
gentle_one {d} g = several (d ∷ []) (g, tt)

finds_careful : {v : View} {a p n : ℤ} {d : Act} → Finds v a p n d → Careful-list v.body (d ∷ [])
finds_careful (simple g f) = one g
finds_careful {v} (rouses g e) = gentle_one (firing_gentle v.body _ g)
finds_careful (breaks e w) = broken_off _
finds_careful (serves k {w} {i} o r z e) = gentle_one (releases i OK w served_whole)
finds_careful (sets {c} {s} o f) = gentle_one (rung _ c s)

way_clean : {v : View} {a p n : ℤ} {r : Verdict} → Way v a p n r → Clean v.body r
way_clean (way-refused c e) = refused c e
way_clean (looked {x} {y} q) = given x y [] nothing
way_clean (acted {x} {y} q f) = given x y _ (finds_careful f)
way_clean (way-waited {i} {w} f) = waited i w
way_clean {v} {a} (walked {x} have q i z) = given x 0 _ (several _ (flag_gentle v.body v.body (nat a) have (line v (waiters flag (nat a)))))
way_clean (granted {j} y z i e) = given j 0 _ (marks _ j false)
way_clean (freed e o l) = given 0 0 _ (marks _ _ true)
way_clean (handed {i} e o l) = given 0 0 _ (gentle_one (releases i OK _ served_whole))

pub tick_clean : (v : View) → Clean v.body (judge v tick)
unfolding judge ticked
tick_clean v = given 0 0 _ (several _ (tick_gentle v.body (length v.body.counter.alarms)))

pub call_clean : (v : View) (x n a b c : ℤ) → Clean v.body (judge v (call x n a b c))
call_clean v x n a b c = way_clean (call_way v x n a b c)

nests_check : (b : Body) (t : Bool) (c : Code) (h : Handlers) → bad c ≡ true → CleanEvent b (check t c (done (nest h ∷ [])))
unfolding check
nests_check b true c h n = clean_verdict (refused c n)
nests_check b false c h n = nests h

pub judge_clean : (v : View) (e : Event) → CleanEvent v.body (judge v e)
unfolding judge entered exited bad
judge_clean v tick = clean_verdict (tick_clean v)
judge_clean v enter = nests_check v.body _ H-NEST _ refl
judge_clean v exit = nests_check v.body _ E-CTX _ refl
judge_clean v (call x n a b c) = clean_verdict (call_clean v x n a b c)

-- no verdict tells damage
clean_not_damage : (b : Body) (r : Verdict) → CleanEvent b r → tells_damage r.code ≡ false
unfolding tells_damage
clean_not_damage b r (clean_verdict (refused c n)) = bad_not_damage c n
clean_not_damage b r (clean_verdict (given x y l g)) = refl
clean_not_damage b r (clean_verdict (waited i w)) = refl
clean_not_damage b r (nests x) = refl

pub judge_not_damage : (v : View) (e : Event) → tells_damage (judge v e).code ≡ false
judge_not_damage v e = clean_not_damage v.body (judge v e) (judge_clean v e)

-- and none is E_RLWAI
clean_not_broken : (b : Body) (r : Verdict) → CleanEvent b r → r.code ≢ E-RLWAI
unfolding bad
clean_not_broken b r (clean_verdict (refused c n)) h = false≢true (ap bad (sym h) ∙ n)
clean_not_broken b r (clean_verdict (given x y l g)) h = let z : ◌≡◌ {A = ℕ} 0 1 = cc in omega arith
clean_not_broken b r (clean_verdict (waited i w)) h = let z : ◌≡◌ {A = ℕ} 0 1 = cc in omega arith
clean_not_broken b r (nests x) h = let z : ◌≡◌ {A = ℕ} 0 1 = cc in omega arith

pub judge_not_broken : (v : View) (e : Event) → (judge v e).code ≢ E-RLWAI
judge_not_broken v e = clean_not_broken v.body (judge v e) (judge_clean v e)
