-- Calls 1 to 12, 26, 27 and 33 to 35: tasks. A rule here is what is left of a call once the common refusals are out of the way (Rows.antt):
-- the task that a word names is there, and is neither oneself nor dormant where that would be refused. `me` is the caller.
use Rattle.std.specs.Prelude.{Bool, not, cond, [], ◌∷◌, ℕ, zero, suc, eqb, leb, ℤ, pos, negsuc}
use Rattle.rules.specs.Codes.{OK, H-EXIST, H-NODMT, H-SUS, E-NOSUS, E-NOWAI, E-QOVR, E-TMOUT, E-RLWAI}
use Rattle.rules.specs.State.{asleep, timed, State, dormant, ready, suspended, absent, waiting, waiting_suspended, Body, task, wait_of, is_dormant, is_absent, is_suspended, is_waiting, sleeps}
use Rattle.rules.specs.Places.{ready_at}
use Rattle.rules.specs.Events.{nat}
use Rattle.rules.specs.Acts.{start, retire, create, delete, rotate, regrade, release, suspend, resume, wakeups}
use Rattle.rules.specs.View.{View, line, best, running}
use Rattle.rules.specs.Verdicts.{Verdict, refuse, gives, done, waits, check, choose, on_first, on_count}

-- the state of the task that a word names
abbrev pub state_of : View → ℤ → State
state_of v a = (task v.body (nat a)).state

-- task i is started
unfoldable pub starting : Body → ℕ → Verdict
starting b i = check (not (is_dormant (task b i).state)) H-NODMT (done (start i ∷ []))

-- 1 sta_tsk(a): ready at its starting priority, cell 0 and 0.
unfoldable pub sta_tsk : View → ℤ → Verdict
sta_tsk v a = starting v.body (nat a)

-- 2 ext_tsk T: the caller goes dormant, code 0.
unfoldable pub ext_tsk : ℕ → Verdict
ext_tsk me = done (retire me ∷ [])

-- 3 ter_tsk(a) T: leaves every queue, goes dormant.
unfoldable pub ter_tsk : ℤ → Verdict
ter_tsk a = done (retire (nat a) ∷ [])

-- 4 chg_pri(a, b): new priority.
unfoldable pub chg_pri : ℤ → ℤ → Verdict
chg_pri a b = done (regrade (nat a) (nat b) ∷ [])

-- 5 rot_rdq(a): the head of that queue goes last; 0 means the best nonempty ready queue, whoever is reported as running; an empty queue
-- is code 0.
unfoldable pub rot_rdq : View → ℤ → Verdict
rot_rdq v a = on_first (cond (eqb (nat a) 0) (best v) (line v (ready_at (nat a)))) (done []) (λ x. done (rotate x ∷ []))

-- 6 rel_wai(a): the waiting task is released, cell E_RLWAI and 0.
unfoldable pub rel_wai : View → ℤ → Verdict
rel_wai v a = check (not (is_waiting (state_of v a))) E-NOWAI (done (release (nat a) E-RLWAI 0 ∷ []))

-- 7 sus_tsk(a): a READY or RUN task leaves its ready queue; a waiting task keeps its place.
unfoldable pub sus_tsk : View → ℤ → Verdict
sus_tsk v a = check (is_suspended (state_of v a)) H-SUS (done (suspend (nat a) ∷ []))

-- 8 rsm_tsk(a): SUSPEND is made ready, WAIT-SUSPEND becomes WAIT.
unfoldable pub rsm_tsk : View → ℤ → Verdict
rsm_tsk v a = check (not (is_suspended (state_of v a))) E-NOSUS (done (resume (nat a) ∷ []))

-- with a stored wake-up, takes one, code 0; else as r says
unfoldable pub take_wakeup : View → ℕ → Verdict → Verdict
take_wakeup v me r = on_count (task v.body me).wakeups r (λ n. done (wakeups me n ∷ []))

-- 9 slp_tsk T: with a stored wake-up, takes one, code 0; else waits.
unfoldable pub slp_tsk : View → ℕ → Verdict
slp_tsk v me = take_wakeup v me (waits me asleep)

-- 10 wai_tsk(a) T: the same, but with none stored 0 gives E_TMOUT, -1 waits for ever, and 1 to 2147483647 waits so many ticks.
unfoldable pub wai_for : ℕ → ℤ → Verdict
wai_for me (pos zero) = refuse E-TMOUT
wai_for me (pos (suc t)) = waits me (timed (suc t))
wai_for me (negsuc t) = waits me asleep

unfoldable pub wai_tsk : View → ℕ → ℤ → Verdict
wai_tsk v me a = take_wakeup v me (wai_for me a)

-- task i is woken up: a sleeper is released, cell 0 and 0; any other task's count rises.
unfoldable pub waking : Body → ℕ → Verdict
waking b i =
    choose (sleeps (wait_of (task b i).state)) (done (release i OK 0 ∷ []))
    (check (leb 15 (task b i).wakeups) E-QOVR (done (wakeups i (suc (task b i).wakeups) ∷ [])))

-- 11 wup_tsk(a): wakes it up.
unfoldable pub wup_tsk : View → ℤ → Verdict
wup_tsk v a = waking v.body (nat a)

-- 12 can_wup(a): w1 the old count, which becomes 0.
unfoldable pub can_wup : View → ℤ → Verdict
can_wup v a = gives (task v.body (nat a)).wakeups 0 (wakeups (nat a) 0 ∷ [])

-- 26 get_tid: w1 the running task.
unfoldable pub get_tid : View → Verdict
get_tid v = gives (running v) 0 []

-- 0 DORMANT, 1 READY, 2 RUN, 3 WAIT, 4 SUSPEND, 5 WAIT-SUSPEND, 6 not there; `run` says that it is the running task
unfoldable pub state_number : State → Bool → ℕ
state_number dormant run = 0
state_number absent run = 6
state_number ready run = cond run 2 1
state_number suspended run = 4
state_number (waiting w) run = 3
state_number (waiting_suspended w) run = 5

-- 27 tsk_sts(a): w1 state, w2 priority.
unfoldable pub tsk_sts : View → ℤ → Verdict
tsk_sts v a = gives (state_number (state_of v a) (eqb (nat a) (running v))) (task v.body (nat a)).priority []

-- 33 cre_tsk(a, b) T: a task is made, dormant, with starting priority b. An existing id is refused.
unfoldable pub cre_tsk : View → ℤ → ℤ → Verdict
cre_tsk v a b = check (not (is_absent (state_of v a))) H-EXIST (done (create (nat a) (nat b) ∷ []))

-- 34 del_tsk(a) T: a dormant task is deleted.
unfoldable pub del_tsk : View → ℤ → Verdict
del_tsk v a = check (not (is_dormant (state_of v a))) H-NODMT (done (delete (nat a) ∷ []))

-- 35 exd_tsk T: ext_tsk followed by deletion (proofs/Deleted.antt: one deletion is both).
unfoldable pub exd_tsk : ℕ → Verdict
exd_tsk me = done (delete me ∷ [])
