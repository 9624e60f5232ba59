-- The rows of the calls: what of a call is judged before its own rule, and the rule. Each call stands here once, by its name.
use Rattle.std.specs.Prelude.{Bool, List, [], ◌∷◌, ℕ, eqb, ℤ, length}
use Rattle.rules.specs.Ids.{first}
use Rattle.rules.specs.Codes.{Code, H-PAR, E-NOEXS, E-TPRI, E-ILTIME}
use Rattle.rules.specs.State.{Kind, semaphore, flag, mailbox, pool, on, objects}
use Rattle.rules.specs.Places.{mail}
use Rattle.rules.specs.Events.{nat, bits, outside, above, below_for_ever}
use Rattle.rules.specs.View.{View, line}
use Rattle.rules.specs.Verdicts.{Verdict, waits}
use Rattle.rules.specs.Tasks.{sta_tsk, ext_tsk, ter_tsk, chg_pri, rot_rdq, rel_wai, sus_tsk, rsm_tsk, slp_tsk, wai_tsk, wup_tsk, can_wup, get_tid, tsk_sts, cre_tsk, del_tsk, exd_tsk}
use Rattle.rules.specs.Objects.{polls, wait_on, obj_sts, count_of, sig_sem, take_sem, pattern_of, set_flg, clr_flg, take_flg, snd_msg, take_msg, blocks_of, free, take_blk, rel_blk}
use Rattle.rules.specs.Time.{get_tim}
use Rattle.rules.specs.Alarms.{set_abs, set_rel, can_alm, alm_sts}

-- a reason to refuse, if it applies
pub record Refusal : Type 0 where
  pub applies : Bool
  pub code : Code

-- T marks task-only.
pub data Context : Type 0 where
  T both : Context

-- Which task a call names, and what is asked of it: none is named, or one that is not to be there; one that is there; one that is not dormant
-- either; one that is not oneself either.
pub data Target : Type 0 where
  unnamed : Target
  anyone alive another : ℕ → Target

pub record Row : Type 0 where
  -- the words that it judges, left to right
  pub words : List Refusal
  pub context : Context
  pub target : Target
  pub rule : Verdict

abbrev pub row : List Refusal → Context → Target → Verdict → Row
row w c t r = record { words = w; context = c; target = t; rule = r }

-- ---- the words

-- wai_tsk time below -1
abbrev pub time : ℤ → Refusal
time t = record { applies = below_for_ever t; code = E-ILTIME }

-- flag pattern 0 in a wait or poll, mode not 0..3
abbrev pub asked : ℤ → Refusal
asked p = record { applies = eqb (bits p) 0; code = H-PAR }

abbrev pub mode : ℤ → Refusal
mode m = record { applies = above m 3; code = H-PAR }

module _ (v : View) where
  -- id outside 1..count
  abbrev pub task_id : ℤ → Refusal
  task_id a = record { applies = outside a (length v.body.tasks); code = E-NOEXS }

  abbrev pub object_id : Kind → ℤ → Refusal
  object_id k a = record { applies = outside a (objects v.body.store k); code = E-NOEXS }

  -- priority outside 1..P (rot_rdq: 0..P)
  abbrev pub priority : ℤ → Refusal
  priority p = record { applies = outside p v.body.store.priorities; code = E-TPRI }

  abbrev pub queue : ℤ → Refusal
  queue p = record { applies = above p v.body.store.priorities; code = E-TPRI }

  -- message number outside 1..count
  abbrev pub message : ℤ → Refusal
  message j = record { applies = outside j (length v.body.store.messages); code = H-PAR }

  -- alarm number outside 1..8, or no counter
  abbrev pub alarm_number : ℤ → Refusal
  alarm_number a = record { applies = outside a (length v.body.counter.alarms); code = H-PAR }

  -- count or period outside 0..m
  abbrev pub ticks : ℤ → Refusal
  ticks n = record { applies = above n v.body.counter.size; code = H-PAR }

  -- ---- the calls on tasks. `me` is the caller.

  unfoldable pub sta_tsk_row : ℤ → Row
  sta_tsk_row a = row (task_id a ∷ []) both (anyone (nat a)) (sta_tsk v a)

  unfoldable pub ext_tsk_row : ℕ → Row
  ext_tsk_row me = row [] T unnamed (ext_tsk me)

  unfoldable pub ter_tsk_row : ℤ → Row
  ter_tsk_row a = row (task_id a ∷ []) T (another (nat a)) (ter_tsk a)

  unfoldable pub chg_pri_row : ℤ → ℤ → Row
  chg_pri_row a b = row (task_id a ∷ priority b ∷ []) both (alive (nat a)) (chg_pri a b)

  unfoldable pub rot_rdq_row : ℤ → Row
  rot_rdq_row a = row (queue a ∷ []) both unnamed (rot_rdq v a)

  unfoldable pub rel_wai_row : ℤ → Row
  rel_wai_row a = row (task_id a ∷ []) both (anyone (nat a)) (rel_wai v a)

  unfoldable pub sus_tsk_row : ℤ → Row
  sus_tsk_row a = row (task_id a ∷ []) both (another (nat a)) (sus_tsk v a)

  unfoldable pub rsm_tsk_row : ℤ → Row
  rsm_tsk_row a = row (task_id a ∷ []) both (anyone (nat a)) (rsm_tsk v a)

  unfoldable pub slp_tsk_row : ℕ → Row
  slp_tsk_row me = row [] T unnamed (slp_tsk v me)

  unfoldable pub wai_tsk_row : ℕ → ℤ → Row
  wai_tsk_row me a = row (time a ∷ []) T unnamed (wai_tsk v me a)

  unfoldable pub wup_tsk_row : ℤ → Row
  wup_tsk_row a = row (task_id a ∷ []) both (another (nat a)) (wup_tsk v a)

  unfoldable pub can_wup_row : ℤ → Row
  can_wup_row a = row (task_id a ∷ []) both (alive (nat a)) (can_wup v a)

  -- ---- the calls on objects

  unfoldable pub sig_sem_row : ℤ → Row
  sig_sem_row a = row (object_id semaphore a ∷ []) both unnamed (sig_sem v a)

  unfoldable pub wai_sem_row : ℕ → ℤ → Row
  wai_sem_row me a = row (object_id semaphore a ∷ []) T unnamed (take_sem v a (wait_on me semaphore a))

  unfoldable pub preq_sem_row : ℤ → Row
  preq_sem_row a = row (object_id semaphore a ∷ []) both unnamed (take_sem v a polls)

  unfoldable pub set_flg_row : ℤ → ℤ → Row
  set_flg_row a b = row (object_id flag a ∷ []) both unnamed (set_flg v a b)

  unfoldable pub clr_flg_row : ℤ → ℤ → Row
  clr_flg_row a b = row (object_id flag a ∷ []) both unnamed (clr_flg v a b)

  unfoldable pub wai_flg_row : ℕ → ℤ → ℤ → ℤ → Row
  wai_flg_row me a b c = row (object_id flag a ∷ asked b ∷ mode c ∷ []) T unnamed (take_flg v a b c (waits me (on flag (nat a) (bits b) (nat c))))

  unfoldable pub pol_flg_row : ℤ → ℤ → ℤ → Row
  pol_flg_row a b c = row (object_id flag a ∷ asked b ∷ mode c ∷ []) both unnamed (take_flg v a b c polls)

  unfoldable pub snd_msg_row : ℤ → ℤ → Row
  snd_msg_row a b = row (object_id mailbox a ∷ message b ∷ []) both unnamed (snd_msg v a b)

  unfoldable pub rcv_msg_row : ℕ → ℤ → Row
  rcv_msg_row me a = row (object_id mailbox a ∷ []) T unnamed (take_msg v a (wait_on me mailbox a))

  unfoldable pub prcv_msg_row : ℤ → Row
  prcv_msg_row a = row (object_id mailbox a ∷ []) both unnamed (take_msg v a polls)

  unfoldable pub get_blk_row : ℕ → ℤ → Row
  get_blk_row me a = row (object_id pool a ∷ []) T unnamed (take_blk v a (wait_on me pool a))

  unfoldable pub pget_blk_row : ℤ → Row
  pget_blk_row a = row (object_id pool a ∷ []) both unnamed (take_blk v a polls)

  unfoldable pub rel_blk_row : ℤ → ℤ → Row
  rel_blk_row a b = row (object_id pool a ∷ []) both unnamed (rel_blk v a b)

  -- ---- the calls that only look

  unfoldable pub get_tid_row : Row
  get_tid_row = row [] both unnamed (get_tid v)

  unfoldable pub tsk_sts_row : ℤ → Row
  tsk_sts_row a = row (task_id a ∷ []) both (anyone (nat a)) (tsk_sts v a)

  unfoldable pub sem_sts_row : ℤ → Row
  sem_sts_row a = row (object_id semaphore a ∷ []) both unnamed (obj_sts v semaphore a (count_of v a))

  unfoldable pub flg_sts_row : ℤ → Row
  flg_sts_row a = row (object_id flag a ∷ []) both unnamed (obj_sts v flag a (pattern_of v a))

  unfoldable pub mbx_sts_row : ℤ → Row
  mbx_sts_row a = row (object_id mailbox a ∷ []) both unnamed (obj_sts v mailbox a (first (line v (mail (nat a)))))

  unfoldable pub mpl_sts_row : ℤ → Row
  mpl_sts_row a = row (object_id pool a ∷ []) both unnamed (obj_sts v pool a (free (blocks_of v a)))

  unfoldable pub get_tim_row : Row
  get_tim_row = row [] both unnamed (get_tim v)

  -- ---- tasks that come and go

  unfoldable pub cre_tsk_row : ℤ → ℤ → Row
  cre_tsk_row a b = row (task_id a ∷ priority b ∷ []) T unnamed (cre_tsk v a b)

  unfoldable pub del_tsk_row : ℤ → Row
  del_tsk_row a = row (task_id a ∷ []) T (anyone (nat a)) (del_tsk v a)

  unfoldable pub exd_tsk_row : ℕ → Row
  exd_tsk_row me = row [] T unnamed (exd_tsk me)

  -- ---- the calls on alarms

  unfoldable pub set_abs_row : ℤ → ℤ → ℤ → Row
  set_abs_row a b c = row (alarm_number a ∷ ticks b ∷ ticks c ∷ []) both unnamed (set_abs v a b c)

  unfoldable pub set_rel_row : ℤ → ℤ → ℤ → Row
  set_rel_row a b c = row (alarm_number a ∷ ticks b ∷ ticks c ∷ []) both unnamed (set_rel v a b c)

  unfoldable pub can_alm_row : ℤ → Row
  can_alm_row a = row (alarm_number a ∷ []) both unnamed (can_alm v a)

  unfoldable pub alm_sts_row : ℤ → Row
  alm_sts_row a = row (alarm_number a ∷ []) both unnamed (alm_sts v a)
