-- There and back: the words of a sound task, a pool, a message and the clock show them again, and each is a 32-bit word. Assumes nothing.
use mathlib.Core.Bool.{Bool, true, false, cond}
use mathlib.Core.List.{List, [], ◌∷◌}
use mathlib.Core.Logic.{◌⊎◌, inl, inr}
use mathlib.Core.Option.{Option, none, some}
use mathlib.Core.Path.{◌≡◌, refl, sym, ap}
use Prim.Native.Nat.{ℕ, zero, suc, ◌+◌, ◌*◌, ◌/◌, ◌%◌, ◌^◌, ◌≤◌, ◌<◌}
use native.Mathlib.Nat.{pow-suc, div-eq_of_lt, lt_of_lt_of_le}
use native.Mathlib.Omega.{arith}
use lib.Dec.{eqb, leb, lit<}
use lib.ListN.{length}
use lib.Pow.{pow_mono}
use borrow.Author.Tests.{eqb-true, eq-eqb, ne_eqb}
use Rattle.rules.specs.Ids.{In, once}
use Rattle.rules.specs.Codes.{Code, OK, H-NUMBER, E-NOEXS, E-DMT, H-NODMT, E-QOVR}
use Rattle.rules.specs.State.{Kind, semaphore, flag, mailbox, pool, Wait, asleep, timed, on, State, dormant, ready, suspended, absent, waiting, waiting_suspended, Cell, Task, Store, Handlers, no_handler, in_handler, depth, Setting, unset, due, Alarm, no_alarm, Body, nobody, objects, wait_of, is_absent}
use Rattle.rules.specs.Sound.{Sizes, LiesWell, CellNumbers, WishNumbers, WaitNumbers, SoundTask, KeptFits, SettingFits, AlarmFits}
use Rattle.memory_columns.specs.Layout.{max_tasks, max_objects, max_blocks}
use Rattle.memory_picture.specs.Picture.{code_of, wait_shown, state_shown, message_shown, bits_of, pool_shown, open_shown, kept_of, setting_shown, count_shown, mask_of, kind_number}
use Rattle.memory_picture.specs.Perform.{code_kept, interrupted_kept, kept_number, due_kept, period_kept}
use Rattle.memory_picture.specs.Form.{status_number, WaitWords, no_words, wait_words, words_of, box_number}

-- ---- back

abbrev pub shown_wait : WaitWords → Wait
shown_wait w = wait_shown w.kind w.object w.wish w.mode w.ticks

back_wait : (u : Store) (w : Wait) → WaitNumbers u (some w) → shown_wait (wait_words w) ≡ w
unfolding wait_shown
back_wait u asleep h = refl
back_wait u (timed t) h = refl
back_wait u (on semaphore o p m) h = rw (h.1.0, h.1.1)
back_wait u (on flag o p m) h = refl
back_wait u (on mailbox o p m) h = rw (h.1.0, h.1.1)
back_wait u (on pool o p m) h = rw (h.1.0, h.1.1)

pub back_state : (u : Store) (s : State) → WaitNumbers u (wait_of s) → state_shown (status_number s) (shown_wait (words_of s)) ≡ s
unfolding state_shown
back_state u dormant h = refl
back_state u ready h = refl
back_state u suspended h = refl
back_state u absent h = refl
back_state u (waiting w) h = ap waiting (back_wait u w h)
back_state u (waiting_suspended w) h = ap waiting_suspended (back_wait u w h)

pub back_code : (c : Cell) → CellNumbers c → code_of (code_kept c.code) ≡ c.code
unfolding code_of
back_code c (inl h) = rw h.0
back_code c (inr (inl e, z)) = rw e
back_code c (inr (inr e, z)) = rw e

half : (t : Bool) (n : ℕ) → (once t + 2 * n) / 2 ≡ n
half true n = omega arith
half false n = omega arith

odd : (t : Bool) (n : ℕ) → eqb ((once t + 2 * n) % 2) 1 ≡ t
odd true n = eq-eqb ((1 + 2 * n) % 2) 1 (omega arith)
odd false n = ne_eqb ((0 + 2 * n) % 2) 1 (λ e. omega arith)

pub back_bits : (l : List Bool) → bits_of (length l) (mask_of l) ≡ l
unfolding bits_of mask_of
back_bits [] = refl
back_bits (t ∷ l) = rw (odd t (mask_of l), half t (mask_of l)) (ap (λ (r : List Bool). t ∷ r) (back_bits l))

pub mask_below : (l : List Bool) → mask_of l < 2 ^ length l
unfolding mask_of
mask_below [] = omega arith
mask_below (true ∷ l) = rw (pow-suc 2 (length l)) (omega (arith, mask_below l))
mask_below (false ∷ l) = rw (pow-suc 2 (length l)) (omega (arith, mask_below l))

pub back_pool : (l : List Bool) → pool_shown (length l) (mask_of l) ≡ l
unfolding pool_shown
back_pool l = rw (eq-eqb (mask_of l / 2 ^ length l) 0 (div-eq_of_lt (mask_below l))) (back_bits l)

pub back_message : (n : ℕ) (x : Option ℕ) → LiesWell n x → message_shown (box_number x) ≡ x
back_message n none h = refl
back_message n (some m) h = rw (ne_eqb m 0 (λ e. omega arith))

pub back_clock : (n : ℕ) → n % 2 ^ 32 + 2 ^ 32 * (n / 2 ^ 32) ≡ n
back_clock n = omega arith

pub back_handlers : (h : Handlers) → open_shown (depth h) (interrupted_kept h) ≡ h
back_handlers no_handler = refl
back_handlers (in_handler n i) = refl

-- a statement holds of the codes that an alarm keeps, if of these five
pub kept_cases : (t : Bool) (c : Code) (P : Code → Type 0) → KeptFits t c → P OK → P E-NOEXS → P H-NODMT → P E-DMT → P E-QOVR → P c
kept_cases false c P (inl e) x0 x1 x2 x3 x4 = rw e x0
kept_cases false c P (inr (inl e)) x0 x1 x2 x3 x4 = rw e x1
kept_cases false c P (inr (inr e)) x0 x1 x2 x3 x4 = rw e x2
kept_cases true c P (inl e) x0 x1 x2 x3 x4 = rw e x0
kept_cases true c P (inr (inl e)) x0 x1 x2 x3 x4 = rw e x1
kept_cases true c P (inr (inr (inl e))) x0 x1 x2 x3 x4 = rw e x3
kept_cases true c P (inr (inr (inr e))) x0 x1 x2 x3 x4 = rw e x4

pub back_kept : (t : Bool) (c : Code) → KeptFits t c → kept_of (kept_number c) ≡ c
unfolding kept_of kept_number
back_kept t c h = kept_cases t c (λ x. kept_of (kept_number x) ≡ x) h refl refl refl refl refl

-- the other way round: a number that shows such a code is its number
not_kept : (t : Bool) → KeptFits t H-NUMBER → ⊥
unfolding kept_number
not_kept t h = kept_cases t H-NUMBER (λ x. kept_number x ≡ 20 → ⊥) h (λ e. omega (arith, e)) (λ e. omega (arith, e)) (λ e. omega (arith, e)) (λ e. omega (arith, e)) (λ e. omega (arith, e)) refl

pub kept_number_lem : (t : Bool) (x : ℕ) → KeptFits t (kept_of x) → kept_number (kept_of x) ≡ x
unfolding kept_of kept_number
kept_number_lem t x = go (eqb x 0) (eqb x 3) (eqb x 2100) (eqb x 2101) (eqb x 2889) refl refl refl refl refl
  where
    K : Bool → Bool → Bool → Bool → Bool → Code
    K a b c d e = cond a OK (cond b H-NODMT (cond c E-NOEXS (cond d E-DMT (cond e E-QOVR H-NUMBER))))

    go : (a b c d e : Bool) → eqb x 0 ≡ a → eqb x 3 ≡ b → eqb x 2100 ≡ c → eqb x 2101 ≡ d → eqb x 2889 ≡ e → KeptFits t (K a b c d e) → kept_number (K a b c d e) ≡ x
    go true b c d e p q r s u f = sym (eqb-true x 0 p)
    go false true c d e p q r s u f = sym (eqb-true x 3 q)
    go false false true d e p q r s u f = sym (eqb-true x 2100 r)
    go false false false true e p q r s u f = sym (eqb-true x 2101 s)
    go false false false false true p q r s u f = sym (eqb-true x 2889 u)
    go false false false false false p q r s u f = absurd (not_kept t f)

pub back_setting : (s : Setting) → setting_shown (due_kept s) (period_kept s) ≡ s
back_setting unset = refl
back_setting (due e p) = refl

pub back_wakes : (t : Bool) → (leb (once t) 1 ≡ true) × (eqb (once t) 1 ≡ t)
back_wakes true = (refl, refl)
back_wakes false = (refl, refl)

pub back_count : (m n : ℕ) → (n ≡ 0) ⊎ (n < m) → count_shown m n ≡ n
back_count zero n (inl e) = sym e
back_count zero n (inr h) = absurd (omega arith)
back_count (suc m) n h = refl

-- ---- small

pub record SmallWords (w : WaitWords) : Type 0 where
  pub kind : w.kind < 2 ^ 32
  pub object : w.object < 2 ^ 32
  pub wish : w.wish < 2 ^ 32
  pub mode : w.mode < 2 ^ 32
  pub ticks : w.ticks < 2 ^ 32

-- the words of a task are 32-bit words
pub record Small (t : Task) : Type 0 where
  pub status : status_number t.state < 2 ^ 32
  pub priority : t.priority < 2 ^ 32
  pub start : t.start < 2 ^ 32
  pub wakeups : t.wakeups < 2 ^ 32
  pub code : code_kept t.cell.code < 2 ^ 32
  pub word : t.cell.word < 2 ^ 32
  pub wait : SmallWords (words_of t.state)

status_small : (s : State) → status_number s < 2 ^ 32
status_small dormant = lit< tt
status_small ready = lit< tt
status_small suspended = lit< tt
status_small absent = lit< tt
status_small (waiting w) = lit< tt
status_small (waiting_suspended w) = lit< tt

code_small : (c : Cell) → CellNumbers c → code_kept c.code < 2 ^ 32
code_small c (inl h) = rw h.0 (lit< tt)
code_small c (inr (inl e, z)) = rw e (lit< tt)
code_small c (inr (inr e, z)) = rw e (lit< tt)

word_small : (c : Cell) → CellNumbers c → c.word < 2 ^ 32
word_small c (inl h) = h.1
word_small c (inr h) = rw h.1 (lit< tt)

none_small : SmallWords no_words
none_small = record { kind = lit< tt; object = lit< tt; wish = lit< tt; mode = lit< tt; ticks = lit< tt }

kind_small : (k : Kind) → kind_number k < 2 ^ 32
kind_small semaphore = lit< tt
kind_small flag = lit< tt
kind_small mailbox = lit< tt
kind_small pool = lit< tt

wish_small : (k : Kind) (p m : ℕ) → WishNumbers k p m → (p < 2 ^ 32) × (m < 2 ^ 32)
wish_small semaphore p m h = (omega arith, omega arith)
wish_small flag p m h = (h.1, omega (arith, h.2))
wish_small mailbox p m h = (omega arith, omega arith)
wish_small pool p m h = (omega arith, omega arith)

pub mask_small : (l : List Bool) → length l ≤ max_blocks → mask_of l < 2 ^ 32
mask_small l h = lt_of_lt_of_le (mask_below l) (pow_mono h)

pub message_small : (n : ℕ) (x : Option ℕ) → n ≤ max_objects → LiesWell n x → box_number x < 2 ^ 32
message_small n none r h = lit< tt
message_small n (some m) r h = omega (arith, h.1)

module _ (b : Body) (z : Sizes b) where
  -- there are few objects of a kind
  pub few_objects : (k : Kind) → objects b.store k ≤ max_objects
  few_objects semaphore = z.semaphores
  few_objects flag = z.flags
  few_objects mailbox = z.mailboxes
  few_objects pool = omega (arith, z.pools)

  wait_small : (w : Wait) → WaitNumbers b.store (some w) → SmallWords (wait_words w)
  wait_small asleep h = none_small
  wait_small (timed t) h = record { kind = lit< tt; object = lit< tt; wish = lit< tt; mode = lit< tt; ticks = omega (arith, h.1) }
  wait_small (on k o p m) h = record {
    kind = kind_small k;
    object = omega (arith, h.0.1, few_objects k);
    wish = (wish_small k p m h.1).0;
    mode = (wish_small k p m h.1).1;
    ticks = lit< tt;
  }

  words_small : (s : State) → WaitNumbers b.store (wait_of s) → SmallWords (words_of s)
  words_small dormant h = none_small
  words_small ready h = none_small
  words_small suspended h = none_small
  words_small absent h = none_small
  words_small (waiting w) h = wait_small w h
  words_small (waiting_suspended w) h = wait_small w h

  -- a priority, or none
  rank_small : (n : ℕ) (t : Bool) → (t ≡ false → In n b.store.priorities) → (t ≡ true → n ≡ 0) → n < 2 ^ 32
  rank_small n false f g = omega (arith, (f refl).1, z.priorities.1)
  rank_small n true f g = omega (arith, g refl)

  pub task_small : (t : Task) → SoundTask b.store t → Small t
  task_small t h = record {
    status = status_small t.state;
    priority = rank_small t.priority (is_absent t.state) h.priority (λ e. (h.absent e).0);
    start = rank_small t.start (is_absent t.state) h.start (λ e. (h.absent e).1);
    wakeups = omega (arith, h.wakeups);
    code = code_small t.cell h.cell;
    word = word_small t.cell h.cell;
    wait = words_small t.state h.wait;
  }

pub nobody_small : Small nobody
nobody_small = record { status = lit< tt; priority = lit< tt; start = lit< tt; wakeups = lit< tt; code = lit< tt; word = lit< tt; wait = none_small }

-- the words of an alarm
pub record SmallAlarm (x : Alarm) : Type 0 where
  pub task : x.task < 2 ^ 32
  pub wakes : once x.wakes < 2 ^ 32
  pub code : kept_number x.kept < 2 ^ 32
  pub due : due_kept x.setting < 2 ^ 32
  pub period : period_kept x.setting < 2 ^ 32

kept_small : (t : Bool) (c : Code) → KeptFits t c → kept_number c < 2 ^ 32
unfolding kept_number
kept_small t c h = kept_cases t c (λ x. kept_number x < 2 ^ 32) h (lit< tt) (lit< tt) (lit< tt) (lit< tt) (lit< tt)

once_small : (t : Bool) → once t < 2 ^ 32
once_small true = lit< tt
once_small false = lit< tt

setting_small : (m : ℕ) (s : Setting) → m ≤ 65535 → SettingFits m s → (due_kept s < 2 ^ 32) × (period_kept s < 2 ^ 32)
setting_small m unset r h = (lit< tt, lit< tt)
setting_small m (due e p) r h = (omega (arith, h.0), omega (arith, h.1))

pub alarm_small : (n m : ℕ) (x : Alarm) → n ≤ max_tasks → m ≤ 65535 → AlarmFits n m x → SmallAlarm x
alarm_small n m x a r h = record {
  task = omega (arith, h.task.1);
  wakes = once_small x.wakes;
  code = kept_small x.wakes x.kept h.kept;
  due = (setting_small m x.setting r h.setting).0;
  period = (setting_small m x.setting r h.setting).1;
}

pub no_alarm_small : SmallAlarm no_alarm
unfolding kept_number
no_alarm_small = record { task = lit< tt; wakes = lit< tt; code = lit< tt; due = lit< tt; period = lit< tt }
