-- Demand 3: for every accepted setup and every list of events the claim of specs/Demand3.antt holds. Assumes nothing.
use mathlib.Core.Bool.{Bool, true, false, not, false≢true}
use mathlib.Core.List.{List, [], ◌∷◌}
use mathlib.Core.Path.{◌≡◌, refl, sym, ap, ◌∙◌, subst}
use Prim.Native.Nat.{ℕ, ◌+◌}
use native.Mathlib.Nat.{add_comm}
use native.Mathlib.Omega.{arith}
use lib.ListN.{length}
use Rattle.rules.specs.Ids.{of, In, once}
use Rattle.rules.specs.Codes.{tells_damage}
use Rattle.rules.specs.State.{pool, Body}
use Rattle.rules.specs.Setup.{got, setup, Setup}
use Rattle.rules.specs.Events.{Event, AllWords}
use Rattle.rules.specs.Acts.{afters}
use Rattle.rules.specs.View.{View}
use Rattle.rules.specs.Table.{judge}
use Rattle.rules.specs.Answers.{answer, read_cell}
use Rattle.rules.specs.Sound.{Sound}
use Rattle.rules.specs.Kernel.{fresh, next, served, event}
use Rattle.rules.specs.Plain.{Plain, view_of, plain_fresh, plain_next, plain_answer}
use Rattle.rules.specs.Blocks.{is_free, Happened, granted, gave_back, grants, returns, Accounted}
use Rattle.rules_runs.specs.Demand3.{Agree, Alike, happened, Demand3}
use Rattle.rules.proofs.Sizes.{SameSizes, sizes_afters}
use Rattle.rules.proofs.Agree.{Numbers, fresh_shows, numbers_fresh, next_shows, numbers_next, same_answer}
use Rattle.rules.proofs.Blocks.{event_balance}
use Rattle.rules.proofs.Cells.{body_acts}
use Rattle.rules.proofs.Clean.{judge_not_damage}
use Rattle.rules_runs.proofs.Fresh.{fresh_free}
use Rattle.rules.proofs.Events.{event_served, event_next, cell_reads, sound_event, fresh_sound}

-- ---- the ledger of one block: its grants are its returns, and one more if it is out

Ledger : List Happened → Body → ℕ → ℕ → Type 0
Ledger past b p k = grants past p k ≡ returns past p k + once (not (is_free b p k))

accounted : (past : List Happened) (b : Body) (p k : ℕ) → Ledger past b p k → Accounted past b p k
unfolding Ledger
accounted past b p k h = go (is_free b p k) refl h
  where
    go : (t : Bool) → is_free b p k ≡ t → grants past p k ≡ returns past p k + once (not t) → Accounted past b p k
    go true e h = record { out = (λ c. absurd (false≢true (sym c ∙ e)), λ c. absurd (omega arith)); free = (λ c. omega arith, λ c. e) }
    go false e h = record { out = (λ c. omega arith, λ c. e); free = (λ c. absurd (false≢true (sym e ∙ c)), λ c. absurd (omega arith)) }

-- the ledgers of all blocks
abbrev Ledgers : List Happened → Body → Type 0
Ledgers past b = (p : ℕ) → In p (length b.store.pools) → (k : ℕ) → In k (length (of b.store.pools p [])) → Ledger past b p k

module _ (s : Plain) (e : Event) (n : Numbers s) (g : Sound (view_of s)) where
  -- the plain kernel's state after the event is the one that the acts leave
  body_next : (plain_next s e).body ≡ afters (judge (view_of s) e).acts s.body
  unfolding view_of next
  body_next = ap (λ (v : View). v.body) (next_shows s e n) ∙ body_acts (judge (view_of s) e).acts (view_of s)

  pub plain_balance : (p k : ℕ) → In p (length s.body.store.pools) → In k (length (of s.body.store.pools p []))
      → granted (happened s e) p k + once (not (is_free s.body p k)) ≡ gave_back (happened s e) p k + once (not (is_free (plain_next s e).body p k))
  unfolding granted gave_back view_of
  plain_balance p k rp rk = add_comm _ _ ∙ rw (same_answer s e n, ap (λ (v : View). v.body) (next_shows s e n)) (event_balance (view_of s) g e p k rp rk) ∙ add_comm _ _

  ledgers_next : (past : List Happened) → Ledgers past s.body → Ledgers (happened s e ∷ past) (plain_next s e).body
  unfolding Ledger grants returns
  ledgers_next past h p rp k rk = omega (arith, plain_balance p k was_pool was_block, h p was_pool k was_block)
    where
      sizes : SameSizes s.body (plain_next s e).body
      sizes = rw body_next (sizes_afters (judge (view_of s) e).acts s.body)

      was_pool : In p (length s.body.store.pools)
      was_pool = rw (sizes.objects pool) at rp

      was_block : In k (length (of s.body.store.pools p []))
      was_block = rw (sizes.blocks p) at rk

-- ---- a run

agrees : (s : Plain) → Agree (view_of s) s
unfolding view_of
agrees s = record { body = refl; lines = refl }

module _ (past : List Happened) (v : View) (s : Plain) (p : v ≡ view_of s) (g : Sound v) where
  alike : Ledgers past s.body → Alike past v s
  unfolding view_of
  alike h = record {
    agree = rw p (agrees s);
    cells = λ a. cell_reads v a g ∙ ap (λ (w : View). read_cell w.body a) p;
    blocks = λ q rq k rk. accounted past s.body q k (h q rq k rk);
  }

module _ (v : View) (s : Plain) (e : Event) (p : v ≡ view_of s) (n : Numbers s) (g : Sound v) where
  both_answer : (event v e).answer ≡ plain_answer s e
  both_answer = ap (λ o. o.answer) (event_served v e g) ∙ ap (λ (w : View). (served w e).answer) p ∙ sym (same_answer s e n)

  both_next : (event v e).next ≡ view_of (plain_next s e)
  both_next = event_next v e g ∙ ap (λ (w : View). next w e) p ∙ sym (next_shows s e n)

  not_damage : tells_damage (event v e).answer.code ≡ false
  unfolding served answer
  not_damage = ap (λ o. tells_damage o.answer.code) (event_served v e g) ∙ judge_not_damage v e

run : (past : List Happened) (v : View) (s : Plain) (l : List Event) → v ≡ view_of s → Numbers s → Sound v → Ledgers past s.body → AllWords l → Demand3 past v s l
run past v s [] p n g h w = alike past v s p g h
run past v s (e ∷ l) p n g h w = (
  alike past v s p g h,
  both_answer v s e p n g,
  not_damage v s e p n g,
  run (happened s e ∷ past) (event v e).next (plain_next s e) l (both_next v s e p n g) (numbers_next s e n) (sound_event v e g w.0)
      (ledgers_next s e n (subst Sound p g) past h) w.1,
)

-- ---- from the fresh start: no block is out, and none was granted or returned

fresh_ledgers : (s : List ℕ) (u : Setup) (i : ℕ) → setup s ≡ got u i → Ledgers [] (plain_fresh u).body
unfolding Ledger grants returns view_of
fresh_ledgers s u i e = subst (λ (v : View). Ledgers [] v.body) (sym (fresh_shows u)) (λ p rp k rk. rw (fresh_free s u i e p k rp rk))

-- For every byte string that the setup's definition accepts and every list of events with 32-bit words.
pub demand3 : (s : List ℕ) (u : Setup) (i : ℕ) → setup s ≡ got u i → (l : List Event) → AllWords l → Demand3 [] (fresh u) (plain_fresh u) l
demand3 s u i e l w = run [] (fresh u) (plain_fresh u) l (sym (fresh_shows u)) (numbers_fresh u) (fresh_sound s u i e) (fresh_ledgers s u i e) w
