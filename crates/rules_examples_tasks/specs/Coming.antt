-- Worked examples of tasks that come and go.
use Rattle.std.specs.Prelude.{[], ◌∷◌, ◌++◌, map, pos, replicate}
use Rattle.rules.specs.Codes.{minus}
use Rattle.rules_examples.specs.Bytes.{example_bytes}
use Rattle.rules_examples.specs.BenchSheet.{X, H, step, case, Sheet, sta_tsk, ext_tsk, ter_tsk, chg_pri, rot_rdq, rel_wai, sus_tsk, rsm_tsk, slp_tsk, wup_tsk, can_wup, get_blk, pget_blk, tsk_sts, mpl_sts, cre_tsk, del_tsk, exd_tsk}

-- Calls 33 to 35: tasks that come and go.
abbrev pub coming_examples : Sheet
coming_examples = record {
  bytes = example_bytes;
  cases =
      -- All tasks of the setup exist when fresh. H_EXIST: cre_tsk on an existing id.
      case 0 1
      (step (X cre_tsk 1 1 0) (minus 8) 0 0 1 0
      ∷ step (X cre_tsk 2 1 0) (minus 8) 0 0 1 0
      ∷ step (X cre_tsk 3 1 0) (minus 8) 0 0 1 0
      ∷ step (X cre_tsk 4 1 0) (minus 8) 0 0 1 0
      ∷ step (X cre_tsk 5 1 0) (minus 8) 0 0 1 0
      ∷ [])
      3 (pos 0) 0
      -- 34 del_tsk(a) for a dormant task; 33 cre_tsk(a, b), id and starting priority, leaving the task dormant. The id may be made again.
      ∷ case 0 1
      (step (X del_tsk 3 0 0) (pos 0) 0 0 1 0
      ∷ step (X cre_tsk 3 4 0) (pos 0) 0 0 1 0
      ∷ step (X tsk_sts 3 0 0) (pos 0) 0 4 1 0
      ∷ step (X cre_tsk 3 4 0) (minus 8) 0 0 1 0
      ∷ step (X chg_pri 3 1 0) (minus 2101) 0 0 1 0
      ∷ step (X sta_tsk 3 0 0) (pos 0) 0 0 1 0
      ∷ step (X tsk_sts 3 0 0) (pos 0) 1 4 1 0
      ∷ step (X chg_pri 3 1 0) (pos 0) 0 0 3 0
      ∷ step (X ext_tsk 0 0 0) (pos 0) 0 0 1 0
      ∷ step (X tsk_sts 3 0 0) (pos 0) 0 4 1 0
      ∷ step (X del_tsk 3 0 0) (pos 0) 0 0 1 0
      ∷ step (X cre_tsk 3 1 0) (pos 0) 0 0 1 0
      ∷ step (X sta_tsk 3 0 0) (pos 0) 0 0 3 0
      ∷ [])
      3 (pos 0) 0
      -- H_NODMT: del_tsk on a task not dormant, be it oneself, ready, waiting or suspended.
      ∷ case 0 1
      (step (X del_tsk 1 0 0) (minus 3) 0 0 1 0
      ∷ step (X del_tsk 2 0 0) (minus 3) 0 0 1 0
      ∷ step (X sus_tsk 4 0 0) (pos 0) 0 0 1 0
      ∷ step (X del_tsk 4 0 0) (minus 3) 0 0 1 0
      ∷ step (X slp_tsk 0 0 0) (pos 1) 0 0 2 0
      ∷ step (X del_tsk 1 0 0) (minus 3) 0 0 2 0
      ∷ step (X del_tsk 6 0 0) (minus 2100) 0 0 2 0
      ∷ [])
      1 (pos 0) 0
      -- 35 exd_tsk, ext_tsk followed by deletion: the caller stands in no queue. Every call on a task not there but cre_tsk is E_NOEXS, reading
      -- its cell and tsk_sts included.
      ∷ case 0 1
      (step (X exd_tsk 0 0 0) (pos 0) 0 0 2 0
      ∷ map (λ e. step e (minus 2100) 0 0 2 0)
      (X sta_tsk 1 0 0 ∷ X ter_tsk 1 0 0 ∷ X chg_pri 1 2 0 ∷ X rel_wai 1 0 0 ∷ X sus_tsk 1 0 0 ∷ X rsm_tsk 1 0 0
      ∷ X wup_tsk 1 0 0 ∷ X can_wup 1 0 0 ∷ X tsk_sts 1 0 0 ∷ X del_tsk 1 0 0 ∷ [])
      ++ map (λ e. step e (minus 2100) 0 0 2 0)
      (H sta_tsk 1 0 0 ∷ H chg_pri 1 2 0 ∷ H rel_wai 1 0 0 ∷ H sus_tsk 1 0 0 ∷ H rsm_tsk 1 0 0 ∷ H wup_tsk 1 0 0
      ∷ H can_wup 1 0 0 ∷ H tsk_sts 1 0 0 ∷ [])
      ++ (step (X rot_rdq 2 0 0) (pos 0) 0 0 5 0
      ∷ step (X rot_rdq 2 0 0) (pos 0) 0 0 2 0
      ∷ []))
      1 (minus 2100) 0
      -- Task-only. E_NOEXS of a task not there comes after the words and E_CTX: a bad priority, a handler's ter_tsk and del_tsk. A handler's
      -- cre_tsk on an existing id is E_CTX too; an id outside 1..count comes before both.
      ∷ case 0 1
      (step (X del_tsk 3 0 0) (pos 0) 0 0 1 0
      ∷ step (X chg_pri 3 9 0) (minus 1830) 0 0 1 0
      ∷ step (X cre_tsk 3 5 0) (minus 1830) 0 0 1 0
      ∷ step (X cre_tsk 3 0 0) (minus 1830) 0 0 1 0
      ∷ step (X cre_tsk 6 9 0) (minus 2100) 0 0 1 0
      ∷ step (X cre_tsk 0 1 0) (minus 2100) 0 0 1 0
      ∷ step (H ter_tsk 3 0 0) (minus 2629) 0 0 1 0
      ∷ step (H del_tsk 3 0 0) (minus 2629) 0 0 1 0
      ∷ step (H cre_tsk 3 1 0) (minus 2629) 0 0 1 0
      ∷ step (H cre_tsk 2 1 0) (minus 2629) 0 0 1 0
      ∷ step (H exd_tsk 0 0 0) (minus 2629) 0 0 1 0
      ∷ step (H cre_tsk 6 1 0) (minus 2100) 0 0 1 0
      ∷ step (H cre_tsk 2 9 0) (minus 1830) 0 0 1 0
      ∷ [])
      3 (minus 2100) 0
      -- No wake-ups and its own new priority: three are stored, and none is left when the id is made again.
      ∷ case 0 1
      (replicate 3 (step (H wup_tsk 1 0 0) (pos 0) 0 0 1 0) ++ (step (X exd_tsk 0 0 0) (pos 0) 0 0 2 0
      ∷ step (X cre_tsk 1 1 0) (pos 0) 0 0 2 0
      ∷ step (X sta_tsk 1 0 0) (pos 0) 0 0 1 0
      ∷ step (X can_wup 1 0 0) (pos 0) 0 0 1 0
      ∷ step (X tsk_sts 1 0 0) (pos 0) 2 1 1 0
      ∷ []))
      1 (pos 0) 0
      -- Deletion ends the broken mark. ter_tsk keeps the cell, del_tsk makes it unreadable, and made again the task has 0 and 0 in it.
      ∷ case 0 1
      (step (X slp_tsk 0 0 0) (pos 1) 0 0 2 0
      ∷ step (X rel_wai 1 0 0) (pos 0) 0 0 2 1
      ∷ step (X ter_tsk 1 0 0) (pos 0) 0 0 2 0
      ∷ [])
      1 (minus 3414) 0
      ∷ case 0 1
      (step (X slp_tsk 0 0 0) (pos 1) 0 0 2 0
      ∷ step (X rel_wai 1 0 0) (pos 0) 0 0 2 1
      ∷ step (X ter_tsk 1 0 0) (pos 0) 0 0 2 0
      ∷ step (X del_tsk 1 0 0) (pos 0) 0 0 2 0
      ∷ [])
      1 (minus 2100) 0
      ∷ case 0 1
      (step (X slp_tsk 0 0 0) (pos 1) 0 0 2 0
      ∷ step (X rel_wai 1 0 0) (pos 0) 0 0 2 1
      ∷ step (X ter_tsk 1 0 0) (pos 0) 0 0 2 0
      ∷ step (X del_tsk 1 0 0) (pos 0) 0 0 2 0
      ∷ step (X cre_tsk 1 3 0) (pos 0) 0 0 2 0
      ∷ [])
      1 (pos 0) 0
      -- A deleted task's blocks are not returned, as with ext_tsk.
      ∷ case 0 1
      (step (X get_blk 2 0 0) (pos 0) 1 0 1 0
      ∷ step (X exd_tsk 0 0 0) (pos 0) 0 0 2 0
      ∷ step (X mpl_sts 2 0 0) (pos 0) 0 0 2 0
      ∷ step (X pget_blk 2 0 0) (minus 5) 0 0 2 0
      ∷ [])
      1 (minus 2100) 0
      ∷ [];
}
