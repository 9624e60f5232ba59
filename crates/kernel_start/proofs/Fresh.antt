-- The start: the memory that it lays for an accepted setup shows the fresh state. Each freed block and each started task is an act of the rules. Assumes nothing.
use Prim.Native.Nat.{ℕ, zero, suc, ◌+◌, ◌-◌, ◌*◌, ◌≤◌}
use mathlib.Core.Bool.{Bool, true, false, cond}
use mathlib.Core.List.{List, [], ◌∷◌, map}
use mathlib.Core.Logic.{inr}
use mathlib.Core.Path.{◌≡◌, refl, sym, ap, ◌∙◌, subst}
use native.Mathlib.Omega.{arith}
use lib.Dec.{eqb}
use lib.ListN.{length, replicate, length-replicate, length-map}
use borrow.Author.Tests.{le-leb}
use Rattle.rules.specs.Ids.{of, from, ids, In}
use Rattle.rules.specs.State.{pool, Task, Body, task, nobody, is_absent}
use Rattle.rules.specs.Setup.{word_at, Entry, Read, got, refused, Setup, setup}
use Rattle.rules.specs.Acts.{start, mark, after}
use Rattle.rules.specs.Places.{awaits, tabulate}
use Rattle.rules.specs.View.{View, act, acts}
use Rattle.rules.specs.Kernel.{idle_task, idle, frees, starts, begins, fresh}
use Rattle.rules.proofs.Ids.{of_replicate}
use Rattle.rules.proofs.Sizes.{SameSizes, sizes_then, sizes_tasks, sizes_after}
use Rattle.rules.proofs.Cells.{acts_join}
use Rattle.rules.proofs.Keeps.{NoneAt}
use Rattle.rules.proofs.Queues.{sound_act, body_act}
use Rattle.rules.proofs.Accepted.{GoodSetup, setup_good, idle_sound, all_there}
use Rattle.rules.proofs.Calls.{AllThere, start_there}
use Rattle.setup_plan.specs.declared.Plan.{Plan}
use Rattle.std.specs.Prelude.{Result, Ok, Err}
use Rattle.setup_sections.specs.Judging.{Refusal, judged_of}
use Rattle.setup_plan.specs.Layout.{plan_of, PlanShows}
use Rattle.setup_plan.proofs.Plans.{whole_plan_law, plan_fits}
use Rattle.memory_columns.specs.Layout.{state_words, max_messages, max_blocks, at_most}
use Rattle.memory_tasks.specs.Moves.{started}
use Rattle.memory_objects.specs.Moves.{marked}
use Rattle.memory_picture.specs.Picture.{view_shown, Shows, Memory, memory}
use Rattle.memory_picture.specs.Perform.{performed, performed_marks}
use Rattle.memory_picture.proofs.Perform.{perform_law}
use Rattle.kernel_fresh.specs.Laying.{in_turn, word_of_id, counted, entered, emptied, laid}
use Rattle.kernel_start.specs.Starting.{StartsAs, Starts, Holds, freed, freed_pool, begun, fresh_words}
use Rattle.kernel_start.proofs.Shown.{Blank, zeros_blank, idle_shown, idle_accepted}

same_sizes : (b : Body) → SameSizes b b
same_sizes b = sizes_tasks b b.tasks refl

-- the first turn
turn_one : (f : ℕ → List ℕ → List ℕ) (n i : ℕ) (b : List ℕ) → in_turn f (suc n) i b ≡ in_turn f n (suc i) (f i b)
unfolding in_turn
turn_one f n i b = refl

module _ (msgs : List ℕ) where
  holds_as : {b c : List ℕ} {v w : View} → b ≡ c → v ≡ w → Holds (memory c msgs) w → Holds (memory b msgs) v
  holds_as {b} {c} {v} {w} e f H = subst (λ (x : List ℕ). Holds (memory x msgs) v) (sym e) (subst (λ (y : View). Holds (memory c msgs) y) (sym f) H)

  start_holds : (i : ℕ) (b : List ℕ) (v : View) → Holds (memory b msgs) v → In i (length v.body.tasks) → is_absent (task v.body i).state ≡ false → Holds (memory (started i b) msgs) (act (start i) v)
  unfolding performed performed_marks view_shown
  start_holds i b v H h t =
      let S : Shows (started i b) msgs (act (start i) (view_shown b msgs)) = perform_law (start i) b msgs H.accepted (rw (← H.view) at h, rw (← H.view) at t) in
      let e : view_shown (started i b) msgs ≡ act (start i) v = S.view ∙ ap (act (start i)) H.view in
      record { accepted = record { whole = S.whole; sound = rw S.view (sound_act (start i) (view_shown b msgs) H.accepted.sound (λ r. rw (← H.view) at t)) }; view = e }

  -- a block is freed, where nobody waits on a pool
  abbrev NobodyWaits : View → Type 0
  NobodyWaits v = (q : ℕ) → NoneAt v.body pool q

  mark_holds : (p k : ℕ) (b : List ℕ) (v : View) → Holds (memory b msgs) v → NobodyWaits v → In p (length v.body.store.pools) → In k (length (of v.body.store.pools p [])) → Holds (memory (marked p k true b) msgs) (act (mark p k true) v)
  unfolding performed performed_marks view_shown
  mark_holds p k b v H n h g =
      let S : Shows (marked p k true b) msgs (act (mark p k true) (view_shown b msgs)) = perform_law (mark p k true) b msgs H.accepted (rw (← H.view) at h, rw (← H.view) at g) in
      let e : view_shown (marked p k true b) msgs ≡ act (mark p k true) v = S.view ∙ ap (act (mark p k true)) H.view in
      record { accepted = record { whole = S.whole; sound = rw S.view (sound_act (mark p k true) (view_shown b msgs) H.accepted.sound (inr (rw (← H.view) at (n p)))) }; view = e }

  -- what marks leave of a view
  record Kept (v w : View) : Type 0 where
    sizes : SameSizes v.body w.body
    tasks : w.body.tasks ≡ v.body.tasks

  mark_kept : (p k : ℕ) (v : View) → Kept v (act (mark p k true) v)
  mark_kept p k v = record { sizes = rw (body_act (mark p k true) v) (sizes_after (mark p k true) v.body); tasks = rw (body_act (mark p k true) v) (unfold after in refl) }

  kept_then : {v w x : View} → Kept v w → Kept w x → Kept v x
  kept_then h g = record { sizes = sizes_then h.sizes g.sizes; tasks = g.tasks ∙ h.tasks }

  kept_nobody : {v w : View} → Kept v w → NobodyWaits v → NobodyWaits w
  kept_nobody {v} {w} K n q i = subst (λ (l : List Task). awaits (of l i nobody).state pool q ≡ false) (sym K.tasks) (n q i)

  -- n blocks of pool p from k on
  blocks_hold : (p n k : ℕ) (b : List ℕ) (v : View) → Holds (memory b msgs) v → NobodyWaits v → In p (length v.body.store.pools) → 1 ≤ k → k + n ≤ suc (length (of v.body.store.pools p []))
      → Holds (memory (in_turn (freed p) n k b) msgs) (acts (map (λ j. mark p j true) (from k n)) v) × Kept v (acts (map (λ j. mark p j true) (from k n)) v)
  unfolding in_turn acts
  blocks_hold p zero k b v H w h r e = (H, record { sizes = same_sizes v.body; tasks = refl })
  blocks_hold p (suc n) k b v H w h r e =
      let K = mark_kept p k v in
      let g = blocks_hold p n (suc k) (marked p k true b) (act (mark p k true) v) (mark_holds p k b v H w h (r, omega arith)) (kept_nobody K w)
      (subst (In p) (sym (K.sizes.objects pool)) h) (omega arith) (omega (arith, K.sizes.blocks p)) in
      (g.0, kept_then K g.1)

  frees_are : (p n : ℕ) (l : List ℕ) (v : View) → acts (frees p (n ∷ l)) v ≡ acts (frees (suc p) l) (acts (map (λ j. mark p j true) (from 1 n)) v)
  unfolding frees ids
  frees_are p n l v = acts_join (map (λ j. mark p j true) (from 1 n)) (frees (suc p) l) v

  pool_words : (s : List ℕ) (at p : ℕ) (b : List ℕ) (n : ℕ) → n ≡ word_of_id s at 4 p → n ≤ max_blocks → freed_pool s at p b ≡ in_turn (freed p) n 1 b
  unfolding freed_pool
  pool_words s at p b n e h = ap (λ (k : ℕ). in_turn (freed p) (at_most k max_blocks) 1 b) (sym e) ∙ ap (λ (t : Bool). in_turn (freed p) (cond t n 0) 1 b) (le-leb n max_blocks h)

  -- the pools from p on, which have l blocks
  pools_hold : (s : List ℕ) (at : ℕ) (l : List ℕ) (p : ℕ) (b : List ℕ) (v : View) → Holds (memory b msgs) v → NobodyWaits v
      → ((j : ℕ) → In j (length l) → (of l j 0 ≡ word_of_id s at 4 (p + j - 1)) × (of l j 0 ≤ max_blocks) × (of l j 0 ≡ length (of v.body.store.pools (p + j - 1) [])))
      → 1 ≤ p → p + length l ≡ suc (length v.body.store.pools)
      → Holds (memory (in_turn (freed_pool s at) (length l) p b) msgs) (acts (frees p l) v) × Kept v (acts (frees p l) v)
  pools_hold s at [] p b v H w f r e = unfold in_turn frees acts in (H, record { sizes = same_sizes v.body; tasks = refl })
  pools_hold s at (n ∷ l) p b v H w f r e =
      let q : p + 1 - 1 ≡ p = omega arith in
      let x : (n ≡ word_of_id s at 4 p) × (n ≤ max_blocks) × (n ≡ length (of v.body.store.pools p [])) = rw q at (f 1 (omega arith, omega arith)) in
      let g = blocks_hold p n 1 b v H w (r, omega arith) (omega arith) (omega (arith, x.2)) in
      let h = pools_hold s at l (suc p) (in_turn (freed p) n 1 b) (acts (map (λ j. mark p j true) (from 1 n)) v) g.0 (kept_nobody g.1 w) (rest g.1) (omega arith) (omega (arith, g.1.sizes.objects pool)) in (
        holds_as (turn_one (freed_pool s at) (length l) p b ∙ ap (in_turn (freed_pool s at) (length l) (suc p)) (pool_words s at p b n x.0 x.1)) (frees_are p n l v) h.0,
        subst (Kept v) (sym (frees_are p n l v)) (kept_then g.1 h.1),
      )
    where
      rest : {w : View} → Kept v w → (j : ℕ) → In j (length l) → (of l j 0 ≡ word_of_id s at 4 (suc p + j - 1)) × (of l j 0 ≤ max_blocks) × (of l j 0 ≡ length (of w.body.store.pools (suc p + j - 1) []))
      rest K zero d = absurd (omega (arith, d.0))
      rest {w} K (suc j) d =
          let y : p + suc (suc j) - 1 ≡ suc p + suc j - 1 = omega arith in
          let z = f (suc (suc j)) (omega arith, omega (arith, d.1)) in
          (rw y at z.0, z.1, rw y at z.2 ∙ sym (K.sizes.blocks (suc p + suc j - 1)))

  -- a task is started or not
  one_holds : (t : Bool) (i : ℕ) (b : List ℕ) (v : View) → Holds (memory b msgs) v → AllThere v.body → In i (length v.body.tasks)
      → Holds (memory (cond t (started i b) b) msgs) (acts (cond t (start i ∷ []) []) v) × (length (acts (cond t (start i ∷ []) []) v).body.tasks ≡ length v.body.tasks) × AllThere (acts (cond t (start i ∷ []) []) v).body
  unfolding acts
  one_holds true i b v H a h = (start_holds i b v H h (a i h), rw (body_act (start i) v) (sizes_after (start i) v.body).tasks, subst AllThere (sym (body_act (start i) v)) (start_there i v.body a))
  one_holds false i b v H a h = (H, refl, a)

  starts_are : (i : ℕ) (x : Entry) (l : List Entry) (v : View) → acts (starts i (x ∷ l)) v ≡ acts (starts (suc i) l) (acts (cond x.started (start i ∷ []) []) v)
  unfolding starts acts
  starts_are i x l v = go x.started
    where
      go : (t : Bool) → acts (cond t (start i ∷ starts (suc i) l) (starts (suc i) l)) v ≡ acts (starts (suc i) l) (acts (cond t (start i ∷ []) []) v)
      go true = refl
      go false = refl

  begun_is : (s : List ℕ) (at i : ℕ) (b : List ℕ) (t : Bool) → t ≡ eqb (word_at s (at + (8 * (i - 1) + 4))) 1 → begun s at i b ≡ cond t (started i b) b
  unfolding begun
  begun_is s at i b t e = ap (λ (x : Bool). cond x (started i b) b) (sym e)

  -- the tasks from id i on, whose entries are l
  turns_hold : (s : List ℕ) (at : ℕ) (l : List Entry) (i : ℕ) (b : List ℕ) (v : View) → Holds (memory b msgs) v → AllThere v.body
      → ((j : ℕ) (d : Entry) → In j (length l) → (of l j d).started ≡ eqb (word_at s (at + (8 * (i + j - 1 - 1) + 4))) 1)
      → 1 ≤ i → i + length l ≡ suc (length v.body.tasks) → Holds (memory (in_turn (begun s at) (length l) i b) msgs) (acts (starts i l) v)
  turns_hold s at [] i b v H a f r e = unfold in_turn starts acts in H
  turns_hold s at (x ∷ l) i b v H a f r e =
      let o = one_holds x.started i b v H a (r, omega arith) in
      holds_as (turn_one (begun s at) (length l) i b ∙ ap (in_turn (begun s at) (length l) (suc i)) (begun_is s at i b x.started says)) (starts_are i x l v)
      (turns_hold s at l (suc i) (cond x.started (started i b) b) (acts (cond x.started (start i ∷ []) []) v) o.0 o.2 rest (omega arith) (omega (arith, o.1)))
    where
      says : x.started ≡ eqb (word_at s (at + (8 * (i - 1) + 4))) 1
      says = f 1 x (omega arith, omega arith) ∙ ap (λ (n : ℕ). eqb (word_at s (at + (8 * n + 4))) 1) (omega arith)

      rest : (j : ℕ) (d : Entry) → In j (length l) → (of l j d).started ≡ eqb (word_at s (at + (8 * (suc i + j - 1 - 1) + 4))) 1
      rest zero d h = absurd (omega (arith, h.0))
      rest (suc j) d h = f (suc (suc j)) d (omega arith, omega (arith, h.1)) ∙ ap (λ (n : ℕ). eqb (word_at s (at + (8 * n + 4))) 1) (omega arith)

idle_tasks : (u : Setup) → length (idle u).tasks ≡ length u.tasks
unfolding idle
idle_tasks u = length-map u.tasks idle_task

idle_pools : (u : Setup) → length (idle u).store.pools ≡ length u.pools
unfolding idle
idle_pools u = length-map u.pools (λ n. replicate n false)

idle_pool : (u : Setup) (p : ℕ) → length (of (idle u).store.pools p []) ≡ of u.pools p 0
unfolding idle
idle_pool u p = go u.pools p
  where
    go : (l : List ℕ) (p : ℕ) → length (of (map (λ n. replicate n false) l) p []) ≡ of l p 0
    go l zero = refl
    go [] (suc p) = refl
    go (n ∷ l) (suc zero) = length-replicate n false
    go (n ∷ l) (suc (suc p)) = go l (suc p)

-- nobody waits
idle_nobody : (u : Setup) (q i : ℕ) → awaits (task (idle u) i).state pool q ≡ false
unfolding idle
idle_nobody u q i = go u.tasks i
  where
    go : (l : List Entry) (i : ℕ) → awaits (of (map idle_task l) i nobody).state pool q ≡ false
    go l zero = refl
    go [] (suc i) = refl
    go (x ∷ l) (suc zero) = refl
    go (x ∷ l) (suc (suc i)) = go l (suc i)

pools_are : {s : List ℕ} (u : Setup) → GoodSetup u → (p : Plan) → PlanShows p s u → (j : ℕ) → In j (length u.pools)
    → (of u.pools j 0 ≡ word_of_id s p.at.pools 4 (1 + j - 1)) × (of u.pools j 0 ≤ max_blocks) × (of u.pools j 0 ≡ length (of (idle u).store.pools (1 + j - 1) []))
pools_are u G p S j h =
    let e : 1 + j - 1 ≡ j = omega arith in
    rw e (S.blocks j 0 (h.0, omega (arith, h.1, S.pools)), omega (arith, ((idle_sound u G).store.pools j (subst (In j) (sym (idle_pools u)) h)).1, idle_pool u j), sym (idle_pool u j))

-- over any zeros
module _ (s : List ℕ) (u : Setup) (k : ℕ) (e : setup s ≡ got u k) (z : List ℕ) (hz : length z ≡ state_words) (blank : Blank z)
    (marks : List ℕ) (hm : length marks ≡ max_messages) (unlaid : (j : ℕ) → of marks j 0 ≡ 0) where
  abbrev plan : Plan
  plan = plan_of s 0

  abbrev unstarted : List ℕ
  unstarted = emptied plan (entered s plan (counted plan z))

  abbrev rested : View
  rested = record { body = idle u; lines = tabulate (idle u).store (λ q. []) }

  abbrev free_words : List ℕ
  free_words = in_turn (freed_pool s plan.at.pools) plan.pools 1 unstarted

  fresh_over : Holds (memory (in_turn (begun s plan.at.tasks) plan.tasks 1 free_words) marks) (fresh u)
  unfolding fresh begins
  fresh_over =
      holds_as marks (ap (λ (n : ℕ). in_turn (begun s plan.at.tasks) n 1 free_words) S.tasks) (acts_join (frees 1 u.pools) (starts 1 u.tasks) rested)
      (turns_hold marks s plan.at.tasks u.tasks 1 free_words (acts (frees 1 u.pools) rested) freed_all.0 there
      (λ j d h. ap (λ (x : Entry). x.started) (S.starts j d (h.0, omega (arith, h.1, S.tasks))) ∙ ap (λ (n : ℕ). eqb (word_at s n) 1) (omega arith)) (omega arith) (omega (arith, idle_tasks u, freed_all.1.sizes.tasks)))
    where
      S : PlanShows plan s u
      S = whole_plan_law s u k e

      G : GoodSetup u
      G = setup_good s u k e

      rests : Holds (memory unstarted marks) rested
      rests = record {
        accepted = idle_accepted s u G plan S (plan_fits s 0) z hz blank marks hm unlaid;
        view = idle_shown s u G plan S (plan_fits s 0) z hz blank marks hm unlaid;
      }

      freed_all : Holds (memory free_words marks) (acts (frees 1 u.pools) rested) × Kept marks rested (acts (frees 1 u.pools) rested)
      freed_all = subst (λ (n : ℕ). Holds (memory (in_turn (freed_pool s plan.at.pools) n 1 unstarted) marks) (acts (frees 1 u.pools) rested) × Kept marks rested (acts (frees 1 u.pools) rested)) (sym S.pools)
          (pools_hold marks s plan.at.pools u.pools 1 unstarted rested rests (idle_nobody u) (pools_are u G plan S) (omega arith) (omega (arith, idle_pools u)))

      there : AllThere (acts (frees 1 u.pools) rested).body
      there i r = subst (λ (l : List Task). is_absent (of l i nobody).state ≡ false) (sym freed_all.1.tasks) (all_there u i (subst (λ (l : List Task). In i (length l)) freed_all.1.tasks r))

pub fresh_held : (s : List ℕ) (u : Setup) (k : ℕ) → setup s ≡ got u k → Holds (memory (fresh_words s) (replicate max_messages 0)) (fresh u)
unfolding fresh_words laid
fresh_held s u k e =
    fresh_over s u k e (replicate state_words 0) (length-replicate {A = ℕ} state_words 0) zeros_blank (replicate max_messages 0) (length-replicate {A = ℕ} max_messages 0) (λ j. of_replicate max_messages j 0)

-- ---- the contract: what was judged decides

module _ (s : List ℕ) (old : Memory) {j : Result ℕ Refusal} (e : j ≡ judged_of (setup s)) where
  pub start_refused : (d : Refusal) → j ≡ Err d → Starts s (Err d) old old
  unfolding Starts
  start_refused d h = go (setup s) e
    where
      go : (r : Read Setup) → j ≡ judged_of r → StartsAs r (Err d) old old
      go (got u k) f = absurd (let x : ◌≡◌ {A = ℕ} 0 1 = cc in omega arith)
      go (refused q k) f = (cc, refl)

  pub start_fresh : (i : ℕ) {words' marks' : List ℕ} → j ≡ Ok i → words' ≡ fresh_words s → marks' ≡ replicate max_messages 0 → Starts s (Ok tt) old (memory words' marks')
  unfolding Starts
  start_fresh i {words'} {marks'} h w m = go (setup s) refl e
    where
      go : (r : Read Setup) → setup s ≡ r → j ≡ judged_of r → StartsAs r (Ok tt) old (memory words' marks')
      go (got u k) q f = let H = fresh_held s u k q in rw (w, m) (refl, H.accepted, H.view)
      go (refused d k) q f = absurd (let x : ◌≡◌ {A = ℕ} 0 1 = cc in omega arith)
