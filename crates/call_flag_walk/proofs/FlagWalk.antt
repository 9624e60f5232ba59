-- set_flg: on an accepted memory the walk along the links performs the acts of the rule. Each release leaves an accepted memory, whose line
-- of waiters is the old one without the released task, so that the rest of the line is as it was. Assumes nothing.
use mathlib.Core.Bool.{Bool, true, false, cond, ◌&&◌, false≢true}
use mathlib.Core.List.{List, [], ◌∷◌, ◌++◌, append-nil}
use mathlib.Core.Logic.{inl, inr, ◌≢◌}
use mathlib.Core.Option.{Option, some}
use mathlib.Core.Path.{◌≡◌, refl, sym, ap, ◌∙◌, subst}
use Prim.Native.Nat.{ℕ, zero, suc, ◌+◌, ◌^◌, ◌≤◌, ◌<◌}
use native.Mathlib.Nat.{add-zero, zero-add}
use native.Mathlib.Omega.{arith}
use lib.Bits.{bit_or, or_lt}
use lib.Dec.{leb}
use lib.IntN.{pos}
use lib.ListN.{length}
use lib.Seq.{append_snoc}
use borrow.Author.Tests.{ne_eqb, le-leb, lt-leb}
use Rattle.rules.specs.Ids.{In, keep, times}
use Rattle.rules.specs.Codes.{Code, OK}
use Rattle.rules.specs.State.{Kind, semaphore, flag, mailbox, pool, Wait, on, State, dormant, ready, suspended, absent, waiting, waiting_suspended, Body, task, nobody, objects, wait_of, wish}
use Rattle.rules.specs.Places.{waiters, a_task, waits_on, awaits, belongs, population}
use Rattle.rules.specs.Acts.{Act, release, pattern, after, move, released_move}
use Rattle.rules.specs.Releases.{releases}
use Rattle.rules.specs.View.{View, line, moved, act}
use Rattle.rules.specs.Objects.{clears, serve_flag, looks, set_flg}
use Rattle.rules.specs.FlagWalk.{serve_until_clear, looked_at}
use Rattle.rules.proofs.Ids.{length_put, of_put_other, times_append, times_head}
use Rattle.rules.proofs.Lines.{line_act}
use Rattle.rules.proofs.Queues.{stands_belongs, stands_known, body_act}
use Rattle.rules.proofs.Calls.{released_self}
use Rattle.rules.proofs.FlagWalk.{walk_stops}
use Rattle.rules.proofs.Looks.{looks_counted}
use Rattle.memory_rings.specs.Rings.{Out, Stands, Distinct, head_of, without, line_of, Ring}
use Rattle.memory_rings.proofs.Lists.{stands_out, out_rest, without_mid, few}
use Rattle.memory_rings.proofs.Ways.{head_link}
use Rattle.memory_rings.proofs.Laws.{once_law, follow_law}
use Rattle.memory_columns.specs.declared.Rings.TheVariants.{Tasks}
use Rattle.memory_columns.specs.Layout as Layout
use Rattle.memory_columns.specs.Layout.{words}
use Rattle.memory_columns.specs.Layout.{entry}
use Rattle.memory_waits.specs.Waits.{released}
use Rattle.memory_picture.specs.Picture.{wait_shown, state_shown, task_shown, tasks_shown, store_shown, Used, anchor, line_shown, view_shown, Accepted}
use Rattle.memory_picture.proofs.Done.{used_at}
use Rattle.memory_picture.specs.Perform.{performed, performed_marks}
use Rattle.memory_picture.proofs.Lines.{keep_without}
use Rattle.memory_picture.proofs.Cases.{asked, kind_cases, status_cases}
use Rattle.call_words.specs.declared.Outcome.{Outcome}
use Rattle.call_words.specs.Outcomes.{outcome}
use Rattle.call_words.specs.Doing.{performs, performs_marks, DoesOnWords}
use Rattle.call_words.specs.Naming.{NamesObject}
use Rattle.call_words.proofs.Verdicts.{gives_acts}
use Rattle.call_words.proofs.Tasks.{tasks_count, task_shown_lem, few_tasks}
use Rattle.call_words.proofs.Performing.{shows, accepts}
use Rattle.call_objects.proofs.Waiters.{there, anchor_is, line_is}
use Rattle.call_flag_walk.specs.Serving.{Walk, made, met_at, looked_at_next, walked, served, left_by}
use Rattle.call_flag_walk.proofs.FlagSteps.{walk_cleared}
use Rattle.call_flags.proofs.FlagCalls.{pattern_read}

-- ---- what a waiter on a flag asks for

wait_wish : (k o p m t i : ℕ) → waits_on (some (wait_shown k o p m t)) flag i ≡ true → wish (some (wait_shown k o p m t)) ≡ (p, m)
wait_wish k o p m t i = kind_cases k o p m t (λ w. waits_on (some w) flag i ≡ true → wish (some w) ≡ (p, m)) (λ e h. absurd (false≢true h)) (λ e h. absurd (false≢true h)) (λ c e. by c) (λ h. absurd (false≢true h))
  where
    by : (c : Kind) → waits_on (some (on c o (asked c p) (asked c m))) flag i ≡ true → wish (some (on c o (asked c p) (asked c m))) ≡ (p, m)
    by semaphore h = absurd (false≢true h)
    by flag h = refl
    by mailbox h = absurd (false≢true h)
    by pool h = absurd (false≢true h)

shown_wish : (s k o p m t i : ℕ) → awaits (state_shown s (wait_shown k o p m t)) flag i ≡ true → wish (wait_of (state_shown s (wait_shown k o p m t))) ≡ (p, m)
shown_wish s k o p m t i =
    status_cases s (wait_shown k o p m t) (λ st. awaits st flag i ≡ true → wish (wait_of st) ≡ (p, m))
    (λ e h. absurd (false≢true h)) (λ e h. absurd (false≢true h)) (λ e. wait_wish k o p m t i) (λ e h. absurd (false≢true h)) (λ e. wait_wish k o p m t i) (λ e h. absurd (false≢true h)) (λ h. absurd (false≢true h))

-- ---- a waiter that is released leaves its line, and nobody comes

released_line : (k : Kind) (o x : ℕ) (c : Code) (w : ℕ) (b : Body) (l : List ℕ) → belongs b (waiters k o) x ≡ true
    → moved (after (release x c w) b) (move b (release x c w)) (waiters k o) l ≡ without x l
unfolding moved move belongs keep
released_line k o x c w b l h = go (task b x).state h
  where
    gone : belongs (after (release x c w) b) (waiters k o) x ≡ false
    gone = ap (λ (y : Option Wait). waits_on y k o) (released_self x c w b)

    go : (s : State) → awaits s k o ≡ true → moved (after (release x c w) b) (released_move s (a_task x)) (waiters k o) l ≡ without x l
    go dormant e = absurd (false≢true e)
    go ready e = absurd (false≢true e)
    go suspended e = absurd (false≢true e)
    go absent e = absurd (false≢true e)
    go (waiting y) e = rw gone (append-nil _ ∙ keep_without x l)
    go (waiting_suspended y) e = keep_without x l

-- ---- a moment of the walk

-- `seen` were looked at and wait on, `rest` are to come; they wait as in the state b before the call. `have` is the pattern.
record At (b : Body) (m : List ℕ) (i n : ℕ) (c : List ℕ) (have : ℕ) (seen rest : List ℕ) : Type 0 where
  accepted : Accepted c m
  exists : In i (objects (view_shown c m).body.store flag)
  count : length (view_shown c m).body.tasks ≡ n
  queue : line (view_shown c m) (waiters flag i) ≡ seen ++ rest
  same : (y : ℕ) → Stands y rest → task (view_shown c m).body y ≡ task b y
  small : have < 2 ^ 32

module _ {b : Body} {m : List ℕ} {i n : ℕ} {c : List ℕ} {have : ℕ} {seen : List ℕ} {x : ℕ} {rest : List ℕ} (P : At b m i n c have seen (x ∷ rest)) where
  abbrev v : View
  v = view_shown c m

  stands : times x (line v (waiters flag i)) ≢ 0
  stands = rw (P.queue, times_append x seen (x ∷ rest)) (λ e. times_head x rest (omega arith))

  belongs_there : belongs v.body (waiters flag i) x ≡ true
  belongs_there = stands_belongs v P.accepted.sound (waiters flag i) P.exists x stands

  known : In x (length v.body.tasks)
  unfolding population
  known = stands_known v P.accepted.sound (waiters flag i) P.exists x stands

  -- what it asks for stands in its words
  asks : wish (wait_of (task b x).state) ≡ (entry Layout.wish c x, entry Layout.mode c x)
  unfolding belongs task_shown
  asks =
      let e : task v.body x ≡ task_shown c x = task_shown_lem c m x (subst (In x) (tasks_count c m) known) in
      ap (λ t. wish (wait_of t.state)) (sym (P.same x (inl refl)) ∙ e) ∙ shown_wish _ _ _ _ _ _ i (ap (λ t. awaits t.state flag i) (sym e) ∙ belongs_there)

  -- it is skipped
  skipped : At b m i n c have (seen ++ x ∷ []) rest
  skipped = record {
    accepted = P.accepted;
    exists = P.exists;
    count = P.count;
    queue = P.queue ∙ sym (append_snoc seen x rest);
    same = λ y s. P.same y (inr s);
    small = P.small;
  }

  used : Used (store_shown c m) Tasks (anchor (waiters flag i))
  used = used_at (waiters flag i) (there flag i c m P.accepted P.exists)

  shown : line_of (tasks_shown c) (words Layout.next c) (anchor (waiters flag i)) ≡ seen ++ x ∷ rest
  unfolding line_shown
  shown = sym (line_is flag i c m P.accepted P.exists) ∙ P.queue

  -- the node behind it is the next of the line, or the anchor
  behind : entry Layout.next c x ≡ head_of rest (anchor (waiters flag i))
  behind = follow_law (P.accepted.whole.rings Tasks) (anchor (waiters flag i)) seen x rest used shown

  distinct : Distinct (seen ++ x ∷ rest)
  distinct = subst Distinct shown (once_law (P.accepted.whole.rings Tasks) (anchor (waiters flag i)) used)

  -- it is released
  A' : Accepted (released x 0 have c) m
  unfolding performed performed_marks view_shown
  A' = accepts (release x OK have) c m P.accepted (inl (refl, P.small)) known

  view : view_shown (released x 0 have c) m ≡ act (release x OK have) v
  unfolding performed performed_marks
  view = (shows (release x OK have) c m P.accepted (inl (refl, P.small)) (unfold view_shown in known)).view

  body : (view_shown (released x 0 have c) m).body ≡ after (release x OK have) v.body
  body = ap (λ (w : View). w.body) view ∙ body_act (release x OK have) v

  freed : At b m i n (released x 0 have c) have seen rest
  unfolding after
  freed = record {
    accepted = A';
    exists = rw body P.exists;
    count = ap (λ (d : Body). length d.tasks) body ∙ length_put v.body.tasks x _ ∙ P.count;
    queue =
        ap (λ (w : View). line w (waiters flag i)) view ∙ line_act (release x OK have) v (waiters flag i) P.exists
        ∙ released_line flag i x OK have v.body _ belongs_there ∙ ap (without x) P.queue ∙ without_mid x seen rest distinct;
    same = λ y s. ap (λ (d : Body). task d y) body ∙ of_put_other v.body.tasks x y _ nobody (ne_eqb x y (other y s)) ∙ P.same y (inr s);
    small = P.small;
  }
    where
      other : (y : ℕ) → Stands y rest → x ≢ y
      other y s e = stands_out y rest s (subst (λ (z : ℕ). Out z rest) e (out_rest seen x rest distinct))

-- ---- the walk performs the acts of the rule

-- an anchor is no task
past_tasks : (i n : ℕ) → n ≤ 32 → leb (anchor (waiters flag i)) n ≡ false
unfolding anchor
past_tasks i n h = lt-leb _ n (omega arith)

-- what the walk with the pattern p has made in the end from the memory c on, where k were released and j looked at before: the acts l, of which none
-- touches a message, and h looks
abbrev Serves : ℕ → ℕ → List ℕ → Walk → List ℕ → ℕ → List Act → ℕ → ℕ → Type 0
Serves i p m w c k l j h = (w.looked ≡ j + h) × (Layout.put Layout.flag i (left_by p w.cleared) w.words ≡ performs l c) × (w.released ≡ k + releases l) × (performs_marks l m ≡ m)

none_left : (i : ℕ) (m c : List ℕ) (have k j : ℕ) → Serves i have m (made c k j false) c k (pattern i have ∷ []) j 0
unfolding performs performed performs_marks performed_marks
none_left i m c have k j = (sym (add-zero j), refl, sym (add-zero k), refl)

module _ (b : Body) (m : List ℕ) (i n : ℕ) where
  walk_serves : (s : ℕ) (seen rest c : List ℕ) (have k j : ℕ) → At b m i n c have seen rest → length rest ≤ s
      → Serves i have m (walked s n have (head_of rest (anchor (waiters flag i))) (made c k j false)) c k (serve_until_clear b i have rest) j (looked_at b have rest)
  unfolding walked looked_at_next performs performed performs_marks performed_marks
  walk_serves zero seen [] c have k j P h = none_left i m c have k j
  walk_serves zero seen (x ∷ rest) c have k j P h = absurd (omega arith)
  walk_serves (suc s) seen [] c have k j P h = rw (past_tasks i n (omega (arith, P.count, P.accepted.sound.body.sizes.tasks.1))) (none_left i m c have k j)
  walk_serves (suc s) seen (x ∷ rest) c have k j P h =
      rw (le-leb x n (omega (arith, (known P).1, P.count)), behind P, asks P)
      (go (met_at have x c) (clears (entry Layout.mode c x)) (walk_serves s seen rest (released x 0 have c) have (suc k) (suc j) (freed P) (omega arith))
      (walk_serves s (seen ++ x ∷ []) rest c have k (suc j) (skipped P) (omega arith)))
    where
      -- the acts of those behind x
      A : List Act
      A = serve_until_clear b i have rest

      -- at how many of them it looks
      H : ℕ
      H = looked_at b have rest

      next : Walk → Walk
      next w = walked s n have (head_of rest (anchor (waiters flag i))) w

      -- whether x is released, and whether that clears the pattern
      go : (t e : Bool) → Serves i have m (next (made (released x 0 have c) (suc k) (suc j) false)) (released x 0 have c) (suc k) A (suc j) H → Serves i have m (next (made c k (suc j) false)) c k A (suc j) H
          → Serves i have m (next (cond t (made (released x 0 have c) (suc k) (suc j) e) (made c k (suc j) false))) c k (cond t (release x OK have ∷ cond e (pattern i 0 ∷ []) A) A) j (suc (cond (t && e) 0 H))
      go true true f g = subst (λ (w : Walk). Serves i have m w c k (release x OK have ∷ pattern i 0 ∷ []) j 1) (walk_cleared n have (head_of rest (anchor (waiters flag i))) (made (released x 0 have c) (suc k) (suc j) true) s refl)
          (omega arith, refl, omega arith, refl)
      go true false f g = (f.0 ∙ omega arith, f.1, f.2 ∙ omega arith, f.3)
      go false e f g = (g.0 ∙ omega arith, g.1, g.2, g.3)

-- ---- the call

-- from the anchor on, on an accepted memory
module _ (b m : List ℕ) (A : Accepted b m) (i : ℕ) (h : NamesObject flag i (view_shown b m)) where
  queue : List ℕ
  queue = line (view_shown b m) (waiters flag i)

  start : (have : ℕ) → have < 2 ^ 32 → At (view_shown b m).body m i (tasks_shown b) b have [] queue
  unfolding queue
  start have r = record { accepted = A; exists = h; count = tasks_count b m; queue = refl; same = λ y s. refl; small = r }

  ring : Ring (tasks_shown b) (words Layout.next b) (words Layout.prev b) (anchor (waiters flag i)) queue × Distinct queue
  unfolding queue line_shown
  ring = rw (line_is flag i b m A h)
      ((A.whole.rings Tasks).ring (anchor (waiters flag i)) (used_at (waiters flag i) (there flag i b m A h)), once_law (A.whole.rings Tasks) (anchor (waiters flag i)) (used_at (waiters flag i) (there flag i b m A h)))

  flag_serves : (have : ℕ) → have < 2 ^ 32
      → Serves i have m (served i have b) b 0 (serve_until_clear (view_shown b m).body i have (line (view_shown b m) (waiters flag i))) 0 (looked_at (view_shown b m).body have (line (view_shown b m) (waiters flag i)))
  unfolding queue served
  flag_serves have r =
      rw (le-leb (tasks_shown b) 32 (few_tasks b m A), anchor_is flag i b m A h, head_link (words Layout.next b) (anchor (waiters flag i)) queue (anchor (waiters flag i)) ring.0.forth)
      (walk_serves (view_shown b m).body m i (tasks_shown b) (tasks_shown b) [] queue b have 0 0 (start have r) (few (tasks_shown b) queue ring.1 ring.0.ids))

-- ---- at the return of the code the rule's verdict is what was answered and done

module _ (i p : ℕ) (r : p < 2 ^ 32) {b : List ℕ} {old : ℕ} (eo : old ≡ entry Layout.flag b i) {b₁ : List ℕ} {n j : ℕ} {e : Bool} (ew : made b₁ n j e ≡ served i (bit_or old p) b) where
  -- the walk that ends early performs the acts of the whole one, and looks at as many as the rule says
  walks : (m : List ℕ) (A : Accepted b m) → NamesObject flag i (view_shown b m) → bit_or old p < 2 ^ 32
      → let q : List ℕ = line (view_shown b m) (waiters flag i) in
      Serves i (bit_or old p) m (served i (bit_or old p) b) b 0 (serve_flag (view_shown b m).body i (bit_or old p) q) 0 (looks (view_shown b m).body (bit_or old p) q)
  walks m A k small =
      let v : View = view_shown b m in
      let q : List ℕ = line v (waiters flag i) in
      subst (λ (h : ℕ). Serves i (bit_or old p) m (served i (bit_or old p) b) b 0 (serve_flag v.body i (bit_or old p) q) 0 h) (sym (looks_counted v.body (bit_or old p) q))
      (subst (λ (l : List Act). Serves i (bit_or old p) m (served i (bit_or old p) b) b 0 l 0 (looked_at v.body (bit_or old p) q)) (sym (walk_stops v A.sound i k (bit_or old p))) (flag_serves b m A i k (bit_or old p) small))

  serves : (m : List ℕ) → Accepted b m → NamesObject flag i (view_shown b m)
      → Serves i (bit_or old p) m (made b₁ n j e) b 0 (set_flg (view_shown b m) (pos i) (pos p)).acts 0 (set_flg (view_shown b m) (pos i) (pos p)).w1
  unfolding set_flg
  serves m A k = subst (λ (w : Walk). Serves i (bit_or old p) m w b 0 (set_flg (view_shown b m) (pos i) (pos p)).acts 0 (set_flg (view_shown b m) (pos i) (pos p)).w1) (sym ew)
      (rw (pattern_read i m A k, ← eo) (walks m A k (or_lt 32 old p small r)))
    where
      small : old < 2 ^ 32
      small = rw (eo, ← pattern_read i m A k) (A.sound.body.store.flags i k)

  pub set_done : {left : ℕ} → left ≡ left_by (bit_or old p) e → {b' : List ℕ} → b' ≡ Layout.put Layout.flag i left b₁ → {s : Outcome} → s ≡ outcome (pos 0) j 0 n → DoesOnWords (NamesObject flag i) (λ v. set_flg v (pos i) (pos p)) s b b'
  unfolding set_flg
  set_done f g e m A k =
      let w = serves m A k in
      gives_acts (set_flg (view_shown b m) (pos i) (pos p)).acts w.3 (e ∙ (λ z. outcome (pos 0) ((w.0 ∙ zero-add _) z) 0 ((w.2 ∙ zero-add _) z))) (g ∙ rw f w.1)
