-- `call_judging::Reason::code` meets its contract. Arm by arm. Assumes nothing.
use Rattle.rules.specs.Codes.{number}
use Rattle.call_judging.proofs.Reason.code.Goals as goal

pub returns-in-Misplaced : goal.returns-in-Misplaced
unfolding number
returns-in-Misplaced c = rw c.in-Misplaced.is

pub returns-in-Absent : goal.returns-in-Absent
unfolding number
returns-in-Absent c = rw c.in-Absent.is

pub returns-in-Oneself : goal.returns-in-Oneself
unfolding number
returns-in-Oneself c = rw c.in-Oneself.is

pub returns-in-Dormant : goal.returns-in-Dormant
unfolding number
returns-in-Dormant c = rw c.in-Dormant.is

pub returns-in-BadPriority : goal.returns-in-BadPriority
unfolding number
returns-in-BadPriority c = rw c.in-BadPriority.is

pub returns-in-BadTime : goal.returns-in-BadTime
unfolding number
returns-in-BadTime c = rw c.in-BadTime.is

pub returns-in-BadParameter : goal.returns-in-BadParameter
unfolding number
returns-in-BadParameter c = rw c.in-BadParameter.is
