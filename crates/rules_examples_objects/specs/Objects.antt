-- Worked examples of calls 13 to 32, and of the refusals that all calls share.
use Rattle.std.specs.Prelude.{[], ◌∷◌, ◌++◌, map, ◌-◌, ◌^◌, pos, replicate}
use Rattle.rules.specs.Codes.{minus}
use Rattle.rules.specs.Events.{tick, call}
use Rattle.rules_examples.specs.Bytes.{example_bytes}
use Rattle.rules_examples.specs.BenchSheet.{X±, H±, X, H, step, case, Sheet, sta_tsk, ext_tsk, ter_tsk, chg_pri, rot_rdq, rel_wai, sus_tsk, rsm_tsk, slp_tsk, wai_tsk, wup_tsk, can_wup, sig_sem, wai_sem, preq_sem, set_flg, clr_flg, wai_flg, pol_flg, snd_msg, rcv_msg, prcv_msg, get_blk, pget_blk, rel_blk, get_tid, tsk_sts, sem_sts, flg_sts, mbx_sts, mpl_sts, get_tim, alone}

-- Calls 13 to 32: semaphores, flags, mailboxes, pools, states and the clock; then the refusals that all calls share.
abbrev pub object_examples : Sheet
object_examples = record {
  bytes = example_bytes;
  cases =
      -- 13 sig_sem(a): releases the first waiter, else adds one. Wait queues are first come, first served, whatever the priority.
      case 0 1
      (step (X wai_sem 1 0 0) (pos 1) 0 0 2 0
      ∷ step (X wai_sem 1 0 0) (pos 1) 0 0 5 0
      ∷ step (X chg_pri 2 1 0) (pos 0) 0 0 5 0
      ∷ step (X sem_sts 1 0 0) (pos 0) 1 0 5 0
      ∷ step (X sig_sem 1 0 0) (pos 0) 0 0 5 1
      ∷ step (X sem_sts 1 0 0) (pos 0) 2 0 5 0
      ∷ step (X sig_sem 1 0 0) (pos 0) 0 0 2 1
      ∷ step (X sem_sts 1 0 0) (pos 0) 0 0 2 0
      ∷ step (X sig_sem 1 0 0) (pos 0) 0 0 2 0
      ∷ step (X sem_sts 1 0 0) (pos 0) 0 1 2 0
      ∷ [])
      2 (pos 0) 0
      -- First come is whose wait began first: task 5 before task 4, which was made ready before it.
      ∷ case 0 1
      (step (X slp_tsk 0 0 0) (pos 1) 0 0 2 0
      ∷ step (X slp_tsk 0 0 0) (pos 1) 0 0 5 0
      ∷ step (X wai_sem 1 0 0) (pos 1) 0 0 4 0
      ∷ step (X wai_sem 1 0 0) (pos 1) 0 0 0 0
      ∷ step (H sem_sts 1 0 0) (pos 0) 5 0 0 0
      ∷ step (H sig_sem 1 0 0) (pos 0) 0 0 5 1
      ∷ [])
      5 (pos 0) 0
      -- 14 wai_sem(a), 15 preq_sem(a): takes one if the count is above 0. H_POLL: a poll that can't be served at once. E_QOVR: semaphore
      -- already 65535.
      ∷ case 0 1
      (step (X wai_sem 2 0 0) (pos 0) 0 0 1 0
      ∷ step (X sem_sts 2 0 0) (pos 0) 0 0 1 0
      ∷ step (X preq_sem 2 0 0) (minus 5) 0 0 1 0
      ∷ step (X sig_sem 3 0 0) (minus 2889) 0 0 1 0
      ∷ step (H preq_sem 3 0 0) (pos 0) 0 0 1 0
      ∷ step (H sem_sts 3 0 0) (pos 0) 0 65534 1 0
      ∷ step (H sig_sem 3 0 0) (pos 0) 0 0 1 0
      ∷ step (H sem_sts 3 0 0) (pos 0) 0 65535 1 0
      ∷ step (H wai_sem 2 0 0) (minus 2629) 0 0 1 0
      ∷ step (H wai_sem 9 0 0) (minus 2100) 0 0 1 0
      ∷ [])
      1 (pos 0) 0
      -- 16 set_flg(a, b): ORs b in. 17 clr_flg(a, b): ANDs. A flag pattern is the unsigned number with the same bits. 29 flg_sts: w2 pattern.
      ∷ case 0 1
      (step (X set_flg 2 0 0) (pos 0) 0 0 1 0
      ∷ step (X flg_sts 2 0 0) (pos 0) 0 5 1 0
      ∷ step (X set_flg 2 2 0) (pos 0) 0 0 1 0
      ∷ step (X flg_sts 2 0 0) (pos 0) 0 7 1 0
      ∷ step (X clr_flg 2 6 0) (pos 0) 0 0 1 0
      ∷ step (X flg_sts 2 0 0) (pos 0) 0 6 1 0
      ∷ step (X clr_flg 2 12 0) (pos 0) 0 0 1 0
      ∷ step (X flg_sts 2 0 0) (pos 0) 0 4 1 0
      ∷ step (X± set_flg (pos 2) (minus 1) (pos 0)) (pos 0) 0 0 1 0
      ∷ step (X flg_sts 2 0 0) (pos 0) 0 4294967295 1 0
      ∷ step (X± clr_flg (pos 2) (minus 2) (pos 0)) (pos 0) 0 0 1 0
      ∷ step (X flg_sts 2 0 0) (pos 0) 0 4294967294 1 0
      ∷ step (X clr_flg 2 0 0) (pos 0) 0 0 1 0
      ∷ step (X flg_sts 2 0 0) (pos 0) 0 0 1 0
      ∷ step (H set_flg 3 1 0) (minus 2100) 0 0 1 0
      ∷ step (H clr_flg 0 1 0) (minus 2100) 0 0 1 0
      ∷ [])
      1 (pos 0) 0
      -- 18 wai_flg(a, b, c), 19 pol_flg: mode 1-bit set means any bit of b, unset means all bits; mode 2-bit set means clear the whole pattern
      -- on success. w1 is the pattern before clearing. (Flag 2 starts as 5.)
      ∷ case 0 1
      (step (X wai_flg 2 5 0) (pos 0) 5 0 1 0
      ∷ step (X flg_sts 2 0 0) (pos 0) 0 5 1 0
      ∷ step (X pol_flg 2 6 0) (minus 5) 0 0 1 0
      ∷ step (X pol_flg 2 6 1) (pos 0) 5 0 1 0
      ∷ step (X pol_flg 2 2 3) (minus 5) 0 0 1 0
      ∷ step (X flg_sts 2 0 0) (pos 0) 0 5 1 0
      ∷ step (X pol_flg 2 4 2) (pos 0) 5 0 1 0
      ∷ step (X flg_sts 2 0 0) (pos 0) 0 0 1 0
      ∷ step (X set_flg 2 12 0) (pos 0) 0 0 1 0
      ∷ step (H± pol_flg (pos 2) (minus 1) (pos 3)) (pos 0) 12 0 1 0
      ∷ step (X flg_sts 2 0 0) (pos 0) 0 0 1 0
      ∷ [])
      1 (pos 0) 0
      -- H_PAR: flag pattern 0 in a wait or poll, mode not 0..3. The parameters left to right, then E_CTX.
      ∷ case 0 1
      (step (X wai_flg 99 0 9) (minus 2100) 0 0 1 0
      ∷ step (X pol_flg 99 0 9) (minus 2100) 0 0 1 0
      ∷ step (X wai_flg 1 0 9) (minus 2) 0 0 1 0
      ∷ step (X wai_flg 1 1 4) (minus 2) 0 0 1 0
      ∷ step (X pol_flg 1 0 0) (minus 2) 0 0 1 0
      ∷ step (X± pol_flg (pos 1) (pos 1) (minus 1)) (minus 2) 0 0 1 0
      ∷ step (H wai_flg 1 0 0) (minus 2) 0 0 1 0
      ∷ step (H wai_flg 1 1 0) (minus 2629) 0 0 1 0
      ∷ [])
      1 (pos 0) 0
      -- set_flg goes through the waiters in order; each whose condition holds is released with the pattern of that moment, and if it asked for
      -- clearing the pattern becomes 0 before the next is looked at: task 2, which asks for the same bit, is not served.
      ∷ case 0 1
      (step (X wai_flg 1 1 3) (pos 1) 0 0 2 0
      ∷ step (X wai_flg 1 1 0) (pos 1) 0 0 5 0
      ∷ step (X set_flg 1 1 0) (pos 0) 1 0 5 1
      ∷ step (X flg_sts 1 0 0) (pos 0) 2 0 5 0
      ∷ step (X tsk_sts 2 0 0) (pos 0) 3 2 5 0
      ∷ [])
      1 (pos 0) 1
      -- Two waiters that ask for no clearing are both served, each with the whole pattern.
      ∷ case 0 1
      (step (X wai_flg 1 1 0) (pos 1) 0 0 2 0
      ∷ step (X wai_flg 1 6 1) (pos 1) 0 0 5 0
      ∷ step (X set_flg 1 3 0) (pos 0) 2 0 5 2
      ∷ step (X flg_sts 1 0 0) (pos 0) 0 3 5 0
      ∷ [])
      2 (pos 0) 3
      -- A waiter whose condition does not hold keeps its place, and the next is looked at.
      ∷ case 0 1
      (step (X wai_flg 1 4 0) (pos 1) 0 0 2 0
      ∷ step (X wai_flg 1 1 2) (pos 1) 0 0 5 0
      ∷ step (X set_flg 1 1 0) (pos 0) 2 0 5 1
      ∷ step (X flg_sts 1 0 0) (pos 0) 1 0 5 0
      ∷ [])
      2 (pos 0) 1
      -- After a waiter released with clearing nobody is released. In the queue: 3, released; 1, not met; 2, released with clearing; 5 and 4,
      -- who ask for the bit too and stay.
      ∷ case 0 1
      (step (X sta_tsk 3 0 0) (pos 0) 0 0 3 0
      ∷ step (X wai_flg 1 1 0) (pos 1) 0 0 1 0
      ∷ step (X wai_flg 1 4 0) (pos 1) 0 0 2 0
      ∷ step (X wai_flg 1 1 2) (pos 1) 0 0 5 0
      ∷ step (X wai_flg 1 1 0) (pos 1) 0 0 4 0
      ∷ step (X wai_flg 1 3 3) (pos 1) 0 0 0 0
      ∷ step (H set_flg 1 1 0) (pos 0) 3 0 3 2
      ∷ step (X flg_sts 1 0 0) (pos 0) 1 0 3 0
      ∷ step (X tsk_sts 5 0 0) (pos 0) 3 2 3 0
      ∷ step (X tsk_sts 4 0 0) (pos 0) 3 3 3 0
      ∷ [])
      2 (pos 0) 1
      -- A waiter keeps its pattern and its mode while it is suspended and resumed and time goes by.
      ∷ case 0 1
      (step (X wai_flg 1 6 3) (pos 1) 0 0 2 0
      ∷ step (X wai_flg 1 2 0) (pos 1) 0 0 5 0
      ∷ step (X sus_tsk 1 0 0) (pos 0) 0 0 5 0
      ∷ step (alone tick) (pos 0) 0 0 5 0
      ∷ step (X rsm_tsk 1 0 0) (pos 0) 0 0 5 0
      ∷ step (alone tick) (pos 0) 0 0 5 0
      ∷ step (X sus_tsk 1 0 0) (pos 0) 0 0 5 0
      ∷ step (X set_flg 1 2 0) (pos 0) 1 0 5 1
      ∷ step (X flg_sts 1 0 0) (pos 0) 2 0 5 0
      ∷ step (X tsk_sts 1 0 0) (pos 0) 4 2 5 0
      ∷ [])
      1 (pos 0) 2
      -- A waiter's pattern is the unsigned number with the same bits too: here bit 31.
      ∷ case 0 1
      (step (X± wai_flg (pos 1) (minus 2147483648) (pos 0)) (pos 1) 0 0 2 0
      ∷ step (X set_flg 1 1 0) (pos 0) 1 0 2 0
      ∷ step (X± set_flg (pos 1) (minus 2147483648) (pos 0)) (pos 0) 1 0 2 1
      ∷ [])
      1 (pos 0) 2147483649
      -- 20 snd_msg(a, b): to the first waiter, else last in the mailbox. 21 rcv_msg(a), 22 prcv_msg(a): w1 the first message. A received
      -- message may be sent again. 30 mbx_sts: w1 the first waiter or 0, w2 the first message or 0.
      ∷ case 0 1
      (step (X snd_msg 1 1 0) (pos 0) 0 0 1 0
      ∷ step (H snd_msg 1 2 0) (pos 0) 0 0 1 0
      ∷ step (X mbx_sts 1 0 0) (pos 0) 0 1 1 0
      ∷ step (X rcv_msg 1 0 0) (pos 0) 1 0 1 0
      ∷ step (X snd_msg 1 1 0) (pos 0) 0 0 1 0
      ∷ step (X prcv_msg 1 0 0) (pos 0) 2 0 1 0
      ∷ step (H prcv_msg 1 0 0) (pos 0) 1 0 1 0
      ∷ step (X prcv_msg 1 0 0) (minus 5) 0 0 1 0
      ∷ step (H rcv_msg 1 0 0) (minus 2629) 0 0 1 0
      ∷ step (X rcv_msg 1 0 0) (pos 1) 0 0 2 0
      ∷ step (X mbx_sts 1 0 0) (pos 0) 1 0 2 0
      ∷ step (X snd_msg 1 3 0) (pos 0) 0 0 2 1
      ∷ step (X mbx_sts 1 0 0) (pos 0) 0 0 2 0
      ∷ [])
      1 (pos 0) 3
      -- H_PAR: message number outside 1..count. H_MSG: the message already lies in a mailbox, be it another one than a that has a waiter.
      ∷ case 0 1
      (step (X snd_msg 1 4 0) (minus 2) 0 0 1 0
      ∷ step (X snd_msg 1 0 0) (minus 2) 0 0 1 0
      ∷ step (X snd_msg 3 4 0) (minus 2100) 0 0 1 0
      ∷ step (X snd_msg 2 1 0) (pos 0) 0 0 1 0
      ∷ step (X snd_msg 2 1 0) (minus 6) 0 0 1 0
      ∷ step (X mbx_sts 2 0 0) (pos 0) 0 1 1 0
      ∷ step (X rcv_msg 1 0 0) (pos 1) 0 0 2 0
      ∷ step (X snd_msg 1 1 0) (minus 6) 0 0 2 0
      ∷ step (X mbx_sts 1 0 0) (pos 0) 1 0 2 0
      ∷ step (X prcv_msg 2 0 0) (pos 0) 1 0 2 0
      ∷ step (X snd_msg 1 1 0) (pos 0) 0 0 2 1
      ∷ [])
      1 (pos 0) 1
      -- Two tasks wait on a mailbox: first come, first served.
      ∷ case 0 1
      (step (X rcv_msg 1 0 0) (pos 1) 0 0 2 0
      ∷ step (X rcv_msg 1 0 0) (pos 1) 0 0 5 0
      ∷ step (X snd_msg 1 3 0) (pos 0) 0 0 5 1
      ∷ step (X mbx_sts 1 0 0) (pos 0) 2 0 5 0
      ∷ step (X snd_msg 1 2 0) (pos 0) 0 0 5 1
      ∷ [])
      2 (pos 0) 2
      -- 23 get_blk(a), 24 pget_blk(a): w1 is the block longest free. 25 rel_blk(a, b): to the first waiter, else free, behind the other free
      -- ones. H_ILBLK: block number outside the pool, or free. 31 mpl_sts: w2 number of free blocks.
      ∷ case 0 1
      (step (X mpl_sts 1 0 0) (pos 0) 0 2 1 0
      ∷ step (X get_blk 1 0 0) (pos 0) 1 0 1 0
      ∷ step (H pget_blk 1 0 0) (pos 0) 2 0 1 0
      ∷ step (X pget_blk 1 0 0) (minus 5) 0 0 1 0
      ∷ step (X mpl_sts 1 0 0) (pos 0) 0 0 1 0
      ∷ step (X rel_blk 1 3 0) (minus 10) 0 0 1 0
      ∷ step (X rel_blk 1 0 0) (minus 10) 0 0 1 0
      ∷ step (X± rel_blk (pos 1) (minus 1) (pos 0)) (minus 10) 0 0 1 0
      ∷ step (X rel_blk 1 2 0) (pos 0) 0 0 1 0
      ∷ step (X mpl_sts 1 0 0) (pos 0) 0 1 1 0
      ∷ step (X rel_blk 1 2 0) (minus 10) 0 0 1 0
      ∷ step (H rel_blk 1 1 0) (pos 0) 0 0 1 0
      ∷ step (X pget_blk 1 0 0) (pos 0) 2 0 1 0
      ∷ step (H get_blk 1 0 0) (minus 2629) 0 0 1 0
      ∷ step (H rel_blk 3 9 0) (minus 2100) 0 0 1 0
      ∷ [])
      1 (pos 0) 0
      -- Blocks wear evenly: one that is got and returned again and again takes turns with the one that stays free. Each pool has its own
      -- queue, and a refused return or poll moves nothing in it.
      ∷ case 0 1
      (step (X get_blk 1 0 0) (pos 0) 1 0 1 0
      ∷ step (X rel_blk 1 1 0) (pos 0) 0 0 1 0
      ∷ step (X get_blk 1 0 0) (pos 0) 2 0 1 0
      ∷ step (X rel_blk 1 2 0) (pos 0) 0 0 1 0
      ∷ step (X rel_blk 1 1 0) (minus 10) 0 0 1 0
      ∷ step (X get_blk 2 0 0) (pos 0) 1 0 1 0
      ∷ step (X rel_blk 2 1 0) (pos 0) 0 0 1 0
      ∷ step (X pget_blk 1 0 0) (pos 0) 1 0 1 0
      ∷ step (X rel_blk 1 1 0) (pos 0) 0 0 1 0
      ∷ step (X pget_blk 1 0 0) (pos 0) 2 0 1 0
      ∷ step (X pget_blk 1 0 0) (pos 0) 1 0 1 0
      ∷ step (X pget_blk 1 0 0) (minus 5) 0 0 1 0
      ∷ step (X rel_blk 1 1 0) (pos 0) 0 0 1 0
      ∷ step (X rel_blk 1 2 0) (pos 0) 0 0 1 0
      ∷ step (X pget_blk 1 0 0) (pos 0) 1 0 1 0
      ∷ step (X pget_blk 1 0 0) (pos 0) 2 0 1 0
      ∷ [])
      1 (pos 0) 0
      -- One that goes to a waiter does not stand in the queue: block 2, handed over and then returned, comes behind block 1, returned before.
      ∷ case 0 1
      (step (X get_blk 1 0 0) (pos 0) 1 0 1 0
      ∷ step (X get_blk 1 0 0) (pos 0) 2 0 1 0
      ∷ step (X get_blk 1 0 0) (pos 1) 0 0 2 0
      ∷ step (X rel_blk 1 2 0) (pos 0) 0 0 2 1
      ∷ step (X rel_blk 1 1 0) (pos 0) 0 0 2 0
      ∷ step (X rel_blk 1 2 0) (pos 0) 0 0 2 0
      ∷ step (X mpl_sts 1 0 0) (pos 0) 0 2 2 0
      ∷ step (X pget_blk 1 0 0) (pos 0) 1 0 2 0
      ∷ step (X pget_blk 1 0 0) (pos 0) 2 0 2 0
      ∷ [])
      1 (pos 0) 2
      -- A returned block goes straight to the first waiter: it is never free in between.
      ∷ case 0 1
      (step (X get_blk 1 0 0) (pos 0) 1 0 1 0
      ∷ step (X get_blk 1 0 0) (pos 0) 2 0 1 0
      ∷ step (X get_blk 1 0 0) (pos 1) 0 0 2 0
      ∷ step (X mpl_sts 1 0 0) (pos 0) 1 0 2 0
      ∷ step (X rel_blk 1 2 0) (pos 0) 0 0 2 1
      ∷ step (X mpl_sts 1 0 0) (pos 0) 0 0 2 0
      ∷ step (X pget_blk 1 0 0) (minus 5) 0 0 2 0
      ∷ [])
      1 (pos 0) 2
      -- H_ILBLK though a task waits: a number outside the pool is given to nobody. Two tasks wait: first come, first served.
      ∷ case 0 1
      (step (X get_blk 2 0 0) (pos 0) 1 0 1 0
      ∷ step (X get_blk 2 0 0) (pos 1) 0 0 2 0
      ∷ step (X get_blk 2 0 0) (pos 1) 0 0 5 0
      ∷ step (X rel_blk 2 2 0) (minus 10) 0 0 5 0
      ∷ step (X rel_blk 2 0 0) (minus 10) 0 0 5 0
      ∷ step (X mpl_sts 2 0 0) (pos 0) 1 0 5 0
      ∷ step (X rel_blk 2 1 0) (pos 0) 0 0 5 1
      ∷ step (X mpl_sts 2 0 0) (pos 0) 2 0 5 0
      ∷ step (X ter_tsk 2 0 0) (pos 0) 0 0 5 0
      ∷ step (X rel_blk 2 1 0) (pos 0) 0 0 5 0
      ∷ step (X mpl_sts 2 0 0) (pos 0) 0 1 5 0
      ∷ [])
      1 (pos 0) 1
      -- A wait is for the object that the call names: the second of each kind.
      ∷ case 0 1
      (step (X wai_sem 2 0 0) (pos 0) 0 0 1 0
      ∷ step (X wai_sem 2 0 0) (pos 1) 0 0 2 0
      ∷ step (X rcv_msg 2 0 0) (pos 1) 0 0 5 0
      ∷ step (X wai_flg 2 8 0) (pos 1) 0 0 4 0
      ∷ step (X get_blk 2 0 0) (pos 0) 1 0 4 0
      ∷ step (X get_blk 2 0 0) (pos 1) 0 0 0 0
      ∷ step (H sem_sts 2 0 0) (pos 0) 1 0 0 0
      ∷ step (H mbx_sts 2 0 0) (pos 0) 2 0 0 0
      ∷ step (H flg_sts 2 0 0) (pos 0) 5 5 0 0
      ∷ step (H mpl_sts 2 0 0) (pos 0) 4 0 0 0
      ∷ step (H rel_blk 2 1 0) (pos 0) 0 0 4 1
      ∷ step (H set_flg 2 8 0) (pos 0) 1 0 5 1
      ∷ step (H snd_msg 2 3 0) (pos 0) 0 0 5 1
      ∷ step (H sig_sem 2 0 0) (pos 0) 0 0 5 1
      ∷ step (X sem_sts 2 0 0) (pos 0) 0 0 5 0
      ∷ [])
      5 (pos 0) 13
      -- 26 get_tid: w1 the running task. 27 tsk_sts(a): w1 state (0 DORMANT, 1 READY, 2 RUN), w2 priority.
      ∷ case 0 1
      (step (X get_tid 0 0 0) (pos 0) 1 0 1 0
      ∷ step (H get_tid 0 0 0) (pos 0) 1 0 1 0
      ∷ step (X tsk_sts 1 0 0) (pos 0) 2 2 1 0
      ∷ step (X tsk_sts 2 0 0) (pos 0) 1 2 1 0
      ∷ step (X tsk_sts 3 0 0) (pos 0) 0 1 1 0
      ∷ step (X tsk_sts 6 0 0) (minus 2100) 0 0 1 0
      ∷ [])
      1 (pos 0) 0
      -- 32 get_tim: the clock, w1 its quotient by 2^32, w2 the remainder. Tick: the clock rises by one.
      ∷ case 4294967295 1
      (step (X get_tim 0 0 0) (pos 0) 0 4294967295 1 0
      ∷ step (alone tick) (pos 0) 0 0 1 0
      ∷ step (H get_tim 0 0 0) (pos 0) 1 0 1 0
      ∷ step (alone tick) (pos 0) 0 0 1 0
      ∷ step (X get_tim 0 0 0) (pos 0) 1 1 1 0
      ∷ [])
      1 (pos 0) 0
      -- After 2^48 - 1 comes 0, and not sooner.
      ∷ case (2 ^ 47 - 1) 1
      (step (alone tick) (pos 0) 0 0 1 0 ∷ step (X get_tim 0 0 0) (pos 0) 32768 0 1 0 ∷ [])
      1 (pos 0) 0
      -- E_NOEXS: id outside 1..count, in every call that names a task or an object.
      ∷ case 0 1
      (step (X sta_tsk 6 0 0) (minus 2100) 0 0 1 0
      ∷ step (X ter_tsk 6 0 0) (minus 2100) 0 0 1 0
      ∷ step (X chg_pri 6 1 0) (minus 2100) 0 0 1 0
      ∷ step (X rel_wai 6 0 0) (minus 2100) 0 0 1 0
      ∷ step (X sus_tsk 6 0 0) (minus 2100) 0 0 1 0
      ∷ step (X rsm_tsk 6 0 0) (minus 2100) 0 0 1 0
      ∷ step (X wup_tsk 6 0 0) (minus 2100) 0 0 1 0
      ∷ step (X can_wup 6 0 0) (minus 2100) 0 0 1 0
      ∷ step (X sig_sem 4 0 0) (minus 2100) 0 0 1 0
      ∷ step (X wai_sem 4 0 0) (minus 2100) 0 0 1 0
      ∷ step (X preq_sem 4 0 0) (minus 2100) 0 0 1 0
      ∷ step (X set_flg 3 1 0) (minus 2100) 0 0 1 0
      ∷ step (X clr_flg 3 1 0) (minus 2100) 0 0 1 0
      ∷ step (X wai_flg 3 1 0) (minus 2100) 0 0 1 0
      ∷ step (X pol_flg 3 1 0) (minus 2100) 0 0 1 0
      ∷ step (X snd_msg 3 1 0) (minus 2100) 0 0 1 0
      ∷ step (X rcv_msg 3 0 0) (minus 2100) 0 0 1 0
      ∷ step (X prcv_msg 3 0 0) (minus 2100) 0 0 1 0
      ∷ step (X get_blk 3 0 0) (minus 2100) 0 0 1 0
      ∷ step (X pget_blk 3 0 0) (minus 2100) 0 0 1 0
      ∷ step (X rel_blk 3 1 0) (minus 2100) 0 0 1 0
      ∷ step (X tsk_sts 6 0 0) (minus 2100) 0 0 1 0
      ∷ step (X sem_sts 4 0 0) (minus 2100) 0 0 1 0
      ∷ step (X flg_sts 3 0 0) (minus 2100) 0 0 1 0
      ∷ step (X mbx_sts 3 0 0) (minus 2100) 0 0 1 0
      ∷ step (X mpl_sts 3 0 0) (minus 2100) 0 0 1 0
      ∷ [])
      1 (pos 0) 0
      -- T marks task-only: every other call is served from a handler too.
      ∷ case 7 1
      (step (X slp_tsk 0 0 0) (pos 1) 0 0 2 0
      ∷ step (H rel_wai 1 0 0) (pos 0) 0 0 2 1
      ∷ step (H sta_tsk 3 0 0) (pos 0) 0 0 3 0
      ∷ step (H chg_pri 3 4 0) (pos 0) 0 0 2 0
      ∷ step (H rot_rdq 2 0 0) (pos 0) 0 0 5 0
      ∷ step (H sus_tsk 5 0 0) (pos 0) 0 0 1 0
      ∷ step (H rsm_tsk 5 0 0) (pos 0) 0 0 1 0
      ∷ step (H wup_tsk 5 0 0) (pos 0) 0 0 1 0
      ∷ step (H can_wup 5 0 0) (pos 0) 1 0 1 0
      ∷ step (H sig_sem 1 0 0) (pos 0) 0 0 1 0
      ∷ step (H sem_sts 1 0 0) (pos 0) 0 1 1 0
      ∷ step (H preq_sem 1 0 0) (pos 0) 0 0 1 0
      ∷ step (H set_flg 1 3 0) (pos 0) 0 0 1 0
      ∷ step (H clr_flg 1 1 0) (pos 0) 0 0 1 0
      ∷ step (H flg_sts 1 0 0) (pos 0) 0 1 1 0
      ∷ step (H pol_flg 1 1 0) (pos 0) 1 0 1 0
      ∷ step (H snd_msg 1 2 0) (pos 0) 0 0 1 0
      ∷ step (H mbx_sts 1 0 0) (pos 0) 0 2 1 0
      ∷ step (H prcv_msg 1 0 0) (pos 0) 2 0 1 0
      ∷ step (H pget_blk 1 0 0) (pos 0) 1 0 1 0
      ∷ step (H mpl_sts 1 0 0) (pos 0) 0 1 1 0
      ∷ step (H rel_blk 1 1 0) (pos 0) 0 0 1 0
      ∷ step (H get_tid 0 0 0) (pos 0) 1 0 1 0
      ∷ step (H tsk_sts 3 0 0) (pos 0) 1 4 1 0
      ∷ step (H get_tim 0 0 0) (pos 0) 0 7 1 0
      ∷ [])
      1 (minus 3414) 0
      -- E_SELF before E_QOVR. While nothing runs, every call in task context is E_CTX, and one of task context alone from a handler: before what
      -- the rule of the call would refuse (task 1 is suspended, with 15 wake-ups; message 1 lies in mailbox 1; pool 2 has no block free).
      ∷ case 0 1
      (replicate 15 (step (H wup_tsk 1 0 0) (pos 0) 0 0 1 0) ++
      step (X wup_tsk 1 0 0) (minus 2097) 0 0 1 0
      ∷ step (X snd_msg 1 1 0) (pos 0) 0 0 1 0
      ∷ step (X pget_blk 2 0 0) (pos 0) 1 0 1 0
      ∷ step (H sus_tsk 1 0 0) (pos 0) 0 0 2 0
      ∷ step (X slp_tsk 0 0 0) (pos 1) 0 0 5 0
      ∷ step (X slp_tsk 0 0 0) (pos 1) 0 0 4 0
      ∷ step (X slp_tsk 0 0 0) (pos 1) 0 0 0 0
      ∷ map (λ e. step e (minus 2629) 0 0 0 0)
      (X sta_tsk 2 0 0 ∷ X ext_tsk 0 0 0 ∷ X ter_tsk 2 0 0 ∷ X chg_pri 2 2 0
      ∷ X rot_rdq 0 0 0 ∷ X rel_wai 1 0 0 ∷ X sus_tsk 1 0 0 ∷ X rsm_tsk 2 0 0
      ∷ X slp_tsk 0 0 0 ∷ X wai_tsk 0 0 0 ∷ X wup_tsk 1 0 0 ∷ X can_wup 1 0 0
      ∷ X sig_sem 3 0 0 ∷ X wai_sem 2 0 0 ∷ X preq_sem 1 0 0 ∷ X set_flg 1 1 0
      ∷ X clr_flg 2 0 0 ∷ X wai_flg 2 5 0 ∷ X pol_flg 1 1 0 ∷ X snd_msg 1 1 0
      ∷ X rcv_msg 1 0 0 ∷ X prcv_msg 2 0 0 ∷ X get_blk 1 0 0 ∷ X pget_blk 2 0 0
      ∷ X rel_blk 1 1 0 ∷ X get_tid 0 0 0 ∷ X tsk_sts 1 0 0 ∷ X sem_sts 1 0 0
      ∷ X flg_sts 1 0 0 ∷ X mbx_sts 1 0 0 ∷ X mpl_sts 1 0 0 ∷ X get_tim 0 0 0
      ∷ H wai_tsk 0 0 0 ∷ []))
      1 (pos 0) 0
      -- H_CALL: call number not 1..39, or context not 0 or 1; before the parameters.
      ∷ case 0 1
      (step (alone (call (pos 0) (pos 0) (pos 0) (pos 0) (pos 0))) (minus 1) 0 0 1 0
      ∷ step (alone (call (pos 0) (pos 40) (pos 0) (pos 0) (pos 0))) (minus 1) 0 0 1 0
      ∷ step (alone (call (pos 1) (minus 1) (pos 0) (pos 0) (pos 0))) (minus 1) 0 0 1 0
      ∷ step (alone (call (pos 2) (pos 26) (pos 0) (pos 0) (pos 0))) (minus 1) 0 0 1 0
      ∷ step (alone (call (minus 1) (pos 26) (pos 0) (pos 0) (pos 0))) (minus 1) 0 0 1 0
      ∷ step (alone (call (pos 2) (pos 14) (pos 9) (pos 0) (pos 0))) (minus 1) 0 0 1 0
      ∷ [])
      1 (pos 0) 0
      -- A negative code leaves the state unchanged and the running task as before, as status calls show.
      ∷ case 41 1
      (step (X preq_sem 1 0 0) (minus 5) 0 0 1 0
      ∷ step (X sem_sts 1 0 0) (pos 0) 0 0 1 0
      ∷ step (X pol_flg 2 2 2) (minus 5) 0 0 1 0
      ∷ step (X flg_sts 2 0 0) (pos 0) 0 5 1 0
      ∷ step (X snd_msg 2 9 0) (minus 2) 0 0 1 0
      ∷ step (X mbx_sts 2 0 0) (pos 0) 0 0 1 0
      ∷ step (X rel_blk 1 1 0) (minus 10) 0 0 1 0
      ∷ step (X mpl_sts 1 0 0) (pos 0) 0 2 1 0
      ∷ step (X wai_tsk 0 0 0) (minus 3413) 0 0 1 0
      ∷ step (X tsk_sts 1 0 0) (pos 0) 2 2 1 0
      ∷ step (X get_tim 0 0 0) (pos 0) 0 41 1 0
      ∷ [])
      1 (pos 0) 0
      -- A cell is read by task id: E_NOEXS for a bad id, with word 0.
      ∷ case 0 1
      (step (X wai_sem 1 0 0) (pos 1) 0 0 2 0
      ∷ [])
      6 (minus 2100) 0
      ∷ [];
}
