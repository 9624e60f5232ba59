-- Worked cases, and the bench sheet as one table of them. A case starts from the fresh state of its sheet's setup.
use Rattle.std.specs.Prelude.{List, [], ◌∷◌, ◌++◌, map, ◌≡◌, ℕ, ◌-◌, ◌^◌, ℤ, pos, length, replicate}
use Rattle.rules.specs.Codes.{minus, number}
use Rattle.rules.specs.Setup.{Read, got, and_then, setup, Setup}
use Rattle.rules.specs.Events.{Event, tick, enter, exit, call}
use Rattle.rules.specs.State.{Cell, Body}
use Rattle.rules.specs.Acts.{with_clock, with_store}
use Rattle.rules.specs.View.{View, running}
use Rattle.rules.specs.Answers.{Answer, numbers, read_cell}
use Rattle.rules.specs.Kernel.{fresh, cell}
use Rattle.rules.specs.Plain.{Plain, view_of, plain_fresh}
use Rattle.rules.specs.Runs.{answers, states, plain_answers, plain_states}

-- ---- cases

-- an event, and the five numbers that come back: code, w1, w2, the running task, the number released
pub record Step : Type 0 where
  pub event : Event
  pub says : List ℤ

abbrev pub step_of : Event → ℤ → ℕ → ℕ → ℕ → ℕ → Step
step_of e c x y r n = record { event = e; says = c ∷ pos x ∷ pos y ∷ pos r ∷ pos n ∷ [] }

-- the calls by name, in the order of their numbers
pub data Call : Type 0 where
  sta_tsk ext_tsk ter_tsk chg_pri rot_rdq rel_wai sus_tsk rsm_tsk slp_tsk wai_tsk wup_tsk can_wup : Call
  sig_sem wai_sem preq_sem set_flg clr_flg wai_flg pol_flg snd_msg rcv_msg prcv_msg get_blk pget_blk rel_blk : Call
  get_tid tsk_sts sem_sts flg_sts mbx_sts mpl_sts get_tim : Call
  cre_tsk del_tsk exd_tsk : Call
  set_abs set_rel can_alm alm_sts : Call

abbrev pub call_number : Call → ℕ
call_number sta_tsk = 1
call_number ext_tsk = 2
call_number ter_tsk = 3
call_number chg_pri = 4
call_number rot_rdq = 5
call_number rel_wai = 6
call_number sus_tsk = 7
call_number rsm_tsk = 8
call_number slp_tsk = 9
call_number wai_tsk = 10
call_number wup_tsk = 11
call_number can_wup = 12
call_number sig_sem = 13
call_number wai_sem = 14
call_number preq_sem = 15
call_number set_flg = 16
call_number clr_flg = 17
call_number wai_flg = 18
call_number pol_flg = 19
call_number snd_msg = 20
call_number rcv_msg = 21
call_number prcv_msg = 22
call_number get_blk = 23
call_number pget_blk = 24
call_number rel_blk = 25
call_number get_tid = 26
call_number tsk_sts = 27
call_number sem_sts = 28
call_number flg_sts = 29
call_number mbx_sts = 30
call_number mpl_sts = 31
call_number get_tim = 32
call_number cre_tsk = 33
call_number del_tsk = 34
call_number exd_tsk = 35
call_number set_abs = 36
call_number set_rel = 37
call_number can_alm = 38
call_number alm_sts = 39

-- a call from task context, and one from a handler
abbrev pub task_call : Call → ℤ → ℤ → ℤ → Event
task_call n a b c = call (pos 0) (pos (call_number n)) a b c

abbrev pub handler_call : Call → ℤ → ℤ → ℤ → Event
handler_call n a b c = call (pos 1) (pos (call_number n)) a b c

-- what a line of a sheet is about: an event alone, or one between the entry of a handler and its return
pub data Happening : Type 0 where
  alone inside : Event → Happening

-- X> is a call from task context, H> means entry, call, return; I> is a handler's call alone
abbrev pub X± : Call → ℤ → ℤ → ℤ → Happening
X± n a b c = alone (task_call n a b c)

abbrev pub H± : Call → ℤ → ℤ → ℤ → Happening
H± n a b c = inside (handler_call n a b c)

-- with words that are not negative
abbrev pub X : Call → ℕ → ℕ → ℕ → Happening
X n a b c = X± n (pos a) (pos b) (pos c)

abbrev pub H : Call → ℕ → ℕ → ℕ → Happening
H n a b c = H± n (pos a) (pos b) (pos c)

abbrev pub I : Call → ℕ → ℕ → ℕ → Happening
I n a b c = alone (handler_call n (pos a) (pos b) (pos c))

-- A line: what happens, then code, w1, w2, the running task (after H> read at the return), the number released.
pub record Line : Type 0 where
  pub what : Happening
  pub code : ℤ
  pub w1 : ℕ
  pub w2 : ℕ
  pub runs : ℕ
  pub released : ℕ

abbrev pub step : Happening → ℤ → ℕ → ℕ → ℕ → ℕ → Line
step e c x y r n = record { what = e; code = c; w1 = x; w2 = y; runs = r; released = n }

-- The steps of a line before which task r was reported. Entry and return give code 0 and no words; between them r is still reported.
abbrev pub line_steps : Happening → ℕ → Line → List Step
line_steps (alone e) r k = step_of e k.code k.w1 k.w2 k.runs k.released ∷ []
line_steps (inside e) r k = step_of enter (pos 0) 0 0 r 0 ∷ step_of e k.code k.w1 k.w2 r k.released ∷ step_of exit (pos 0) 0 0 k.runs 0 ∷ []

abbrev pub steps : ℕ → List Line → List Step
steps r [] = []
steps r (k ∷ l) = line_steps k.what r k ++ steps k.runs l

-- the clock to begin with, the running task before any event, the steps, and at the end the cell of a task: code and word
pub record Case : Type 0 where
  pub clock : ℕ
  pub runs : ℕ
  pub steps : List Step
  pub who : ℕ
  pub code : ℤ
  pub word : ℕ

-- by lines
abbrev pub case : ℕ → ℕ → List Line → ℕ → ℤ → ℕ → Case
case t r l i c w = record { clock = t; runs = r; steps = steps r l; who = i; code = c; word = w }

-- a setup as bytes, and cases over it
pub record Sheet : Type 0 where
  pub bytes : List ℕ
  pub cases : List Case

-- ---- what a case gives

pub record Ran : Type 0 where
  pub runs : ℕ
  pub says : List (List ℤ)
  pub code : ℤ
  pub word : ℕ

-- as the case says
abbrev pub expected_case : Case → Ran
expected_case c = record { runs = c.runs; says = map (λ s. s.says) c.steps; code = c.code; word = c.word }

-- as a kernel does it, by its running rule, its answers, its states and its reading of a cell
abbrev pub ran_case : {S : Type 0} → (S → ℕ) → (S → List Event → List Answer) → (S → List Event → S) → (S → ℤ → Cell) → (ℕ → S) → Case → Ran
ran_case run say end read begin c =
    let l : List Event = map (λ s. s.event) c.steps in
    let r : Cell = read (end (begin c.clock) l) (pos c.who) in
    record { runs = run (begin c.clock); says = map numbers (say (begin c.clock) l); code = number r.code; word = r.word }

abbrev pub at_clock : ℕ → Body → Body
at_clock t b = with_store (with_clock t b.store) b

-- the fresh states, with another clock
abbrev pub fresh_at : Setup → ℕ → View
fresh_at u t = record { body = at_clock t (fresh u).body; lines = (fresh u).lines }

abbrev pub plain_fresh_at : Setup → ℕ → Plain
plain_fresh_at u t = record { body = at_clock t (plain_fresh u).body; tasks = (plain_fresh u).tasks; messages = (plain_fresh u).messages; blocks = (plain_fresh u).blocks; count = (plain_fresh u).count }

-- ---- what a sheet gives: its setup is accepted, all of its bytes read, and then

unfoldable pub expected : Sheet → Read (List Ran)
expected s = got (map expected_case s.cases) (length s.bytes)

unfoldable pub ran : Sheet → Read (List Ran)
unfolding answers states
ran s = and_then (setup s.bytes) (λ u i. got (map (ran_case running answers states cell (fresh_at u)) s.cases) i)

unfoldable pub plain_ran : Sheet → Read (List Ran)
unfolding plain_answers plain_states
plain_ran s = and_then (setup s.bytes) (λ u i. got (map (ran_case (λ p. running (view_of p)) plain_answers plain_states (λ p. read_cell p.body) (plain_fresh_at u)) s.cases) i)

-- on both kernels
abbrev pub Holds : Sheet → Type 0
Holds s = (ran s ≡ expected s) × (plain_ran s ≡ expected s)

-- ---- the bench sheet

-- 4; 3, 2,1, 2,1, 1,0; 1,0; 1,0; 1; 2; 1,2
abbrev pub bench_bytes : List ℕ
bench_bytes =
    4 ∷ 0 ∷ 0 ∷ 0
    ∷ 3 ∷ 0 ∷ 0 ∷ 0 ∷ 2 ∷ 0 ∷ 0 ∷ 0 ∷ 1 ∷ 0 ∷ 0 ∷ 0 ∷ 2 ∷ 0 ∷ 0 ∷ 0 ∷ 1 ∷ 0 ∷ 0 ∷ 0 ∷ 1 ∷ 0 ∷ 0 ∷ 0 ∷ 0 ∷ 0 ∷ 0 ∷ 0
    ∷ 1 ∷ 0 ∷ 0 ∷ 0 ∷ 0 ∷ 0 ∷ 0 ∷ 0
    ∷ 1 ∷ 0 ∷ 0 ∷ 0 ∷ 0 ∷ 0 ∷ 0 ∷ 0
    ∷ 1 ∷ 0 ∷ 0 ∷ 0
    ∷ 2 ∷ 0 ∷ 0 ∷ 0
    ∷ 1 ∷ 0 ∷ 0 ∷ 0 ∷ 2 ∷ 0 ∷ 0 ∷ 0
    ∷ []

abbrev pub bench_sheet : Sheet
bench_sheet = record {
  bytes = bench_bytes;
  cases =
      -- B1 running task 1.
      case 0 1 [] 1 (pos 0) 0
      -- B2 X>sta_tsk(3): 0, runs 3.
      ∷ case 0 1 (step (X sta_tsk 3 0 0) (pos 0) 0 0 3 0 ∷ []) 3 (pos 0) 0
      -- B3 after B2, X>slp_tsk: 1, runs 1.
      ∷ case 0 1 (step (X sta_tsk 3 0 0) (pos 0) 0 0 3 0 ∷ step (X slp_tsk 0 0 0) (pos 1) 0 0 1 0 ∷ []) 3 (pos 0) 0
      -- B4 then H>wup_tsk(3): 0, released 1, runs 3.
      ∷ case 0 1 (step (X sta_tsk 3 0 0) (pos 0) 0 0 3 0 ∷ step (X slp_tsk 0 0 0) (pos 1) 0 0 1 0 ∷ step (H wup_tsk 3 0 0) (pos 0) 0 0 3 1 ∷ []) 3 (pos 0) 0
      -- B5 X>wai_sem(1): 1, runs 2; X>sig_sem(1): 0, released 1, runs 2, count 0.
      ∷ case 0 1 (step (X wai_sem 1 0 0) (pos 1) 0 0 2 0 ∷ step (X sig_sem 1 0 0) (pos 0) 0 0 2 1 ∷ step (X sem_sts 1 0 0) (pos 0) 0 0 2 0 ∷ []) 1 (pos 0) 0
      -- B6 X>rot_rdq(0): runs 2.
      ∷ case 0 1 (step (X rot_rdq 0 0 0) (pos 0) 0 0 2 0 ∷ []) 1 (pos 0) 0
      -- B7 X>chg_pri(1,2): runs 2.
      ∷ case 0 1 (step (X chg_pri 1 2 0) (pos 0) 0 0 2 0 ∷ []) 1 (pos 0) 0
      -- B8 X>wai_tsk(2), tick, tick: the second releases 1, cell -3413, runs 2.
      ∷ case 0 1 (step (X wai_tsk 2 0 0) (pos 1) 0 0 2 0 ∷ step (alone tick) (pos 0) 0 0 2 0 ∷ step (alone tick) (pos 0) 0 0 2 1 ∷ []) 1 (minus 3413) 0
      -- B9 three X>pget_blk(1): w1 1, w1 2, code -5; X>rel_blk(1,1), X>pget_blk(1): w1 1.
      ∷ case 0 1
      (step (X pget_blk 1 0 0) (pos 0) 1 0 1 0
      ∷ step (X pget_blk 1 0 0) (pos 0) 2 0 1 0
      ∷ step (X pget_blk 1 0 0) (minus 5) 0 0 1 0
      ∷ step (X rel_blk 1 1 0) (pos 0) 0 0 1 0
      ∷ step (X pget_blk 1 0 0) (pos 0) 1 0 1 0
      ∷ [])
      1 (pos 0) 0
      -- B10 X>wup_tsk(1): -2097.
      ∷ case 0 1 (step (X wup_tsk 1 0 0) (minus 2097) 0 0 1 0 ∷ []) 1 (pos 0) 0
      -- B11 H>wup_tsk(1): 0 fifteen times, then -2889.
      ∷ case 0 1 (replicate 15 (step (H wup_tsk 1 0 0) (pos 0) 0 0 1 0) ++ step (H wup_tsk 1 0 0) (minus 2889) 0 0 1 0 ∷ []) 1 (pos 0) 0
      -- B12 X>wai_flg(1,3,2); X>set_flg(1,1): released 0; X>set_flg(1,6): released 1, cell word 7, pattern 0.
      -- (Each set_flg looks at the one waiter: w1 1.)
      ∷ case 0 1
      (step (X wai_flg 1 3 2) (pos 1) 0 0 2 0
      ∷ step (X set_flg 1 1 0) (pos 0) 1 0 2 0
      ∷ step (X set_flg 1 6 0) (pos 0) 1 0 2 1
      ∷ step (X flg_sts 1 0 0) (pos 0) 0 0 2 0
      ∷ [])
      1 (pos 0) 7
      -- B13 H>wai_sem(9): -2100, not -2629.
      ∷ case 0 1 (step (H wai_sem 9 0 0) (minus 2100) 0 0 1 0 ∷ []) 1 (pos 0) 0
      -- X>slp_tsk, X>sus_tsk(1), X>rel_wai(1) gives SUSPEND with cell -3414;
      ∷ case 0 1
      (step (X slp_tsk 0 0 0) (pos 1) 0 0 2 0
      ∷ step (X sus_tsk 1 0 0) (pos 0) 0 0 2 0
      ∷ step (X rel_wai 1 0 0) (pos 0) 0 0 2 1
      ∷ step (X tsk_sts 1 0 0) (pos 0) 4 2 2 0
      ∷ [])
      1 (minus 3414) 0
      -- wai_tsk(-2) is -1831;
      ∷ case 0 1 (step (X± wai_tsk (minus 2) (pos 0) (pos 0)) (minus 1831) 0 0 1 0 ∷ []) 1 (pos 0) 0
      -- clock wrap.
      ∷ case (2 ^ 48 - 1) 1
      (step (X get_tim 0 0 0) (pos 0) 65535 4294967295 1 0 ∷ step (alone tick) (pos 0) 0 0 1 0 ∷ step (X get_tim 0 0 0) (pos 0) 0 0 1 0 ∷ [])
      1 (pos 0) 0
      -- Request K7: gets 1 and 2, returns 2, then 1, and is granted 2.
      ∷ case 0 1
      (step (X pget_blk 1 0 0) (pos 0) 1 0 1 0
      ∷ step (X pget_blk 1 0 0) (pos 0) 2 0 1 0
      ∷ step (X rel_blk 1 2 0) (pos 0) 0 0 1 0
      ∷ step (X rel_blk 1 1 0) (pos 0) 0 0 1 0 ∷ step (X pget_blk 1 0 0) (pos 0) 2 0 1 0 ∷ [])
      1 (pos 0) 0
      ∷ [];
}
