-- What `run` promises, and what a start and any mix of `call`, `tick`, `enter`, `leave` and `events` after it promise, is a chain from a fresh memory, so all that
-- is demanded of chains holds of it. Assumes nothing.
use mathlib.Core.List.{List, [], ◌∷◌, ◌++◌}
use mathlib.Core.Path.{◌≡◌, refl, ap, subst}
use Prim.Native.Nat.{ℕ}
use native.Mathlib.Omega.{arith}
use lib.IntN.{ℤ}
use Rattle.rules.specs.Setup.{Read, got, refused, Setup, setup}
use Rattle.memory_picture.specs.Picture.{Memory, SoundIn}
use Rattle.kernel_start.specs.Starting.{Starts, StartsAs}
use Rattle.kernel_steps.specs.Steps.{Link, Chain, last_memory}
use Rattle.std.specs.Prelude.{Result, Ok, Err}
use Rattle.kernel_batches.specs.declared.Unfit.{Unfit}
use Rattle.kernel_batches.specs.declared.RunError.{RunError}
use Rattle.kernel_batches.specs.Batches.{Lent, lent, fitted, BatchedAs, Batched, RunsAs, RunsFrom}
use Rattle.kernel_demands.specs.Uses.{Kept, Demanded, RunDemanded, Turn, one, many, Mix, batch_links, mix_links, MixDemanded}
use Rattle.kernel_demands.proofs.Chains.{start_holds}
use Rattle.kernel_demands.proofs.Demands.{demand3_on_code, chain_broken, chain_only_rel_wai, chain_block_once, chain_worn_evenly}
use Rattle.kernel_demands.proofs.Interrupted.{chain_interrupted}
use Rattle.kernel_demands.proofs.Turns.{chain_in_turn}

-- ---- a chain

chain_kept : (m : Memory) → SoundIn m → (l : List Link) → Chain m l → Kept m l
chain_kept m A l C = record { broken = chain_broken m A l C; only = chain_only_rel_wai m A l C; blocks = chain_block_once m A l C; wear = chain_worn_evenly m A l C; interrupted = chain_interrupted m A l C; turns = chain_in_turn m A l C }

chain_demanded : (s : List ℕ) (u : Setup) (i : ℕ) → setup s ≡ got u i → (old m : Memory) → Starts s (Ok tt) old m → (l : List Link) → Chain m l → Demanded u m l
chain_demanded s u i e old m S l C = record {
  plain = demand3_on_code s u i e (Ok tt) old m S l C;
  kept = chain_kept m (start_holds s u i e (Ok tt) old m S).accepted l C;
}

-- a start that was not refused has read a setup
start_read : (s : List ℕ) (old m : Memory) → Starts s (Ok tt) old m → (u : Setup) × (i : ℕ) × (setup s ≡ got u i)
unfolding Starts
start_read s old m S = go (setup s) refl S
  where
    go : (r : Read Setup) → setup s ≡ r → StartsAs r (Ok tt) old m → (u : Setup) × (i : ℕ) × (setup s ≡ got u i)
    go (got u i) e h = (u, i, e)
    go (refused f p) e h = absurd (let z : ◌≡◌ {A = ℕ} 0 1 = cc (h.0) in omega arith)

-- ---- `run`

pub run_demanded : (s : List ℕ) (given : List ℤ) (old new : Lent) → RunsFrom s given (Ok tt) old new → RunDemanded s given old new
unfolding RunsFrom
run_demanded s given old new R = go (fitted given old) (setup s) refl R
  where
    not_done : {x : RunError} → ◌≡◌ {A = Result (Unit {0}) RunError} (Ok tt) (Err x) → RunDemanded s given old new
    not_done e = absurd (let z : ◌≡◌ {A = ℕ} 0 1 = cc in omega arith)

    go : (q : Result (Unit {0}) Unfit) (r : Read Setup) → setup s ≡ r → RunsAs q r s given (Ok tt) old new → RunDemanded s given old new
    go (Ok t) (got u i) e h =
        let F = h.1 in
        record {
          read = u;
          end = i;
          accepted = e;
          started = F.started;
          starts = F.starts;
          ran = F.ran;
          demanded = chain_demanded s u i e old.memory F.started F.starts F.ran.links F.ran.chain;
        }
    go (Ok t) (refused f p) e h = not_done h.0
    go (Err u) r e h = not_done h.0

-- ---- a mix

chain_append : (m : Memory) (l k : List Link) → Chain m l → Chain (last_memory m l) k → Chain m (l ++ k)
chain_append m [] k C D = D
chain_append m (x ∷ l) k C D = (C.0, chain_append x.left l k C.1 D)

-- a batch ran in its links, to the memory that it left
module _ (given : List ℤ) (old new : Lent) where
  abbrev links : (q : Result (Unit {0}) Unfit) → BatchedAs q given old new → List Link
  links q R = batch_links q given old new R

  batch_chain : (q : Result (Unit {0}) Unfit) (R : BatchedAs q given old new) → Chain old.memory (links q R) × (new.memory ≡ last_memory old.memory (links q R))
  batch_chain (Ok t) R = (R.chain, R.left)
  batch_chain (Err u) R = (tt, ap (λ (x : Lent). x.memory) R)

pub mix_chain : (m : Memory) (t : List Turn) (M : Mix m t) → Chain m (mix_links m t M)
unfolding mix_links Batched
mix_chain m [] M = tt
mix_chain m (one e r new ∷ t) M = (M.0, mix_chain new t M.1)
mix_chain m (many given q codes answers new ∷ t) M =
    let old : Lent = lent m codes answers in
    let B = batch_chain given old new (fitted given old) M.0.1 in
    let rest : List Link = mix_links new.memory t M.1 in
    chain_append m (links given old new (fitted given old) M.0.1) rest B.0
    (subst (λ (x : Memory). Chain x rest) B.1 (mix_chain new.memory t M.1))

-- from any accepted memory
pub mix_kept : (m : Memory) → SoundIn m → (t : List Turn) (M : Mix m t) → Kept m (mix_links m t M)
mix_kept m A t M = chain_kept m A (mix_links m t M) (mix_chain m t M)

-- after a start
pub mix_demanded : (s : List ℕ) (old m : Memory) → Starts s (Ok tt) old m → (t : List Turn) (M : Mix m t) → MixDemanded s m t M
mix_demanded s old m S t M =
    let r = start_read s old m S in
    record { read = r.0; end = r.1; accepted = r.2; demanded = chain_demanded s r.0 r.1 r.2 old m S (mix_links m t M) (mix_chain m t M) }
