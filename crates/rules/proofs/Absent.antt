-- Every call on a task that is not there is refused, but cre_tsk; and its cell is not read. (An id outside 1..count is not there either.)
-- What cre_tsk and del_tsk do and refuse. Assumes nothing.
use mathlib.Core.Bool.{Bool, true, false, cond, ◌&&◌, ◌||◌, false≢true}
use mathlib.Core.List.{List, [], ◌∷◌, map}
use mathlib.Core.Path.{◌≡◌, refl, sym, ◌∙◌}
use Prim.Native.Nat.{ℕ, zero, suc}
use native.Mathlib.Omega.{arith}
use lib.IntN.{ℤ, pos}
use lib.ListN.{length}
use Rattle.rules.specs.Ids.{from}
use Rattle.rules.specs.Codes.{E-NOEXS, H-EXIST, H-NODMT, refuses}
use Rattle.rules.specs.State.{Body, task, is_dormant, is_absent}
use Rattle.rules.specs.Events.{call, nat, outside}
use Rattle.rules.specs.Acts.{create, delete}
use Rattle.rules.specs.View.{View}
use Rattle.rules.specs.Verdicts.{Verdict, refuse, done, check}
use Rattle.rules.specs.Tasks.{state_of, cre_tsk, del_tsk}
use Rattle.rules.specs.Rows.{Row}
use Rattle.rules.specs.Table.{names_absent, table, calls_shown, call_count, caller, handles, judge}
use Rattle.rules.specs.Answers.{read_cell}
use Rattle.rules.specs.Blocks.{is}
use Rattle.rules.proofs.Judge.{bad_refuses, AllRows, by_call}

-- the calls whose word a names a task, but cre_tsk
abbrev pub names_task : ℤ → Bool
names_task n = is n 1 || (is n 3 || (is n 4 || (is n 6 || (is n 7 || (is n 8 || (is n 11 || (is n 12 || (is n 27 || is n 34))))))))

module _ (v : View) (a : ℤ) where
  abbrev asks_there : Row → Bool
  asks_there r = names_absent v.body r.target

  abbrev is_not_there : ℕ → Bool
  is_not_there k = names_task (pos k) && is_absent (state_of v a)

  -- row k asks whether task a is there just if call k names it
  table_asks : (me : ℕ) (b c : ℤ) → map asks_there (table v me a b c) ≡ map is_not_there (from 1 call_count)
  unfolding calls_shown
  table_asks me b c = refl

  abbrev Denied : ℤ → Verdict → Type 0
  Denied n r = names_task n ≡ true → refuses r.code ≡ true

  rows : is_absent (state_of v a) ≡ true → (h : Bool) (me k n : ℕ) (l : List Row) → map asks_there l ≡ map is_not_there (from k n) → AllRows Denied v h me k l
  rows x h me k n [] e = tt
  rows x h me k zero (r ∷ l) e = absurd (let z : ◌≡◌ {A = ℕ} 0 1 = cc in omega arith)
  rows x h me k (suc n) (r ∷ l) e =
      let q : asks_there r ≡ is_not_there k = cc in
      let m : map asks_there l ≡ map is_not_there (from (suc k) n) = cc in
      ((λ t d. absurd (false≢true (sym t.there ∙ q ∙ rw (d, x)))), rows x h me (suc k) n l m)

pub absent_refused : (v : View) (k n a b c : ℤ) → is_absent (state_of v a) ≡ true → names_task n ≡ true → refuses (judge v (call k n a b c)).code ≡ true
absent_refused v k n a b c x =
    by_call (Denied v a) (λ n c e d. bad_refuses c e) v a b c (λ h. rows v a x (handles v h) (caller v h) 1 call_count (table v (caller v h) a b c) (table_asks v a (caller v h) b c)) k n

pub absent_unread : (b : Body) (a : ℤ) → is_absent (task b (nat a)).state ≡ true → read_cell b a ≡ record { code = E-NOEXS; word = 0 }
unfolding read_cell
absent_unread b a x = rw x (go (outside a (length b.tasks)))
  where
    go : (o : Bool) → cond (o || true) (record { code = E-NOEXS; word = 0 }) (task b (nat a)).cell ≡ record { code = E-NOEXS; word = 0 }
    go true = refl
    go false = refl

-- ---- cre_tsk makes a task where there is none, and del_tsk deletes a dormant one; no other

module _ (v : View) (a b : ℤ) where
  pub made_where_none : is_absent (state_of v a) ≡ true → cre_tsk v a b ≡ done (create (nat a) (nat b) ∷ [])
  unfolding cre_tsk check
  made_where_none x = rw x

  pub existing_not_made : is_absent (state_of v a) ≡ false → cre_tsk v a b ≡ refuse H-EXIST
  unfolding cre_tsk check
  existing_not_made x = rw x

  pub dormant_deleted : is_dormant (state_of v a) ≡ true → del_tsk v a ≡ done (delete (nat a) ∷ [])
  unfolding del_tsk check
  dormant_deleted d = rw d

  pub undormant_kept : is_dormant (state_of v a) ≡ false → del_tsk v a ≡ refuse H-NODMT
  unfolding del_tsk check
  undormant_kept d = rw d
