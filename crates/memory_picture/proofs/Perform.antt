-- Each act of the rules, done on a memory, keeps the links whole and takes the view that the memory shows to the view after the act.
use mathlib.Core.List.{List}
use Prim.Native.Nat.{ℕ}
use Rattle.rules.specs.Acts.{Act, start, retire, create, delete, rotate, regrade, wait, release, suspend, resume, wakeups, count, pattern, post, receive, mark, elapse, nest, alarm}
use Rattle.rules.specs.View.{act}
use Rattle.memory_picture.specs.Picture.{body_shown, view_shown, Accepted, Shows}
use Rattle.memory_picture.specs.Perform.{performed, performed_marks, Fit}
use Rattle.memory_picture.proofs.Done.{Done, shows_done}
use Rattle.memory_picture.proofs.TaskActs.{start_done, retire_done, create_done, delete_done, rotate_done, regrade_done, wait_act_done, release_done, suspend_done, resume_done, wakeups_done}
use Rattle.memory_picture.proofs.StoreActs.{count_done, pattern_done, post_done, receive_done, mark_done}
use Rattle.memory_picture.proofs.Ages.{elapse_done}
use Rattle.memory_picture.proofs.HandlerActs.{nest_done}
use Rattle.memory_picture.proofs.AlarmActs.{alarm_done}

act_done : (a : Act) (b msgs : List ℕ) → Accepted b msgs → Fit (body_shown b msgs) a → Done a b msgs (performed a b) (performed_marks a msgs)
unfolding performed performed_marks body_shown
act_done (start i) b msgs A f = start_done b msgs A i f.0 f.1
act_done (retire i) b msgs A f = retire_done b msgs A i f
act_done (create i p) b msgs A f = create_done b msgs A i f p
act_done (delete i) b msgs A f = delete_done b msgs A i f
act_done (rotate i) b msgs A f = rotate_done b msgs A i f.0 f.1
act_done (regrade i p) b msgs A f = regrade_done b msgs A i f.0 p f.1
act_done (wait i w) b msgs A f = wait_act_done b msgs A i f.0 w f.1
act_done (release i c w) b msgs A f = release_done b msgs A i f.0 c w f.1
act_done (suspend i) b msgs A f = suspend_done b msgs A i f
act_done (resume i) b msgs A f = resume_done b msgs A i f
act_done (wakeups i n) b msgs A f = wakeups_done b msgs A i f n
act_done (count s n) b msgs A f = count_done b msgs A s n f
act_done (pattern p n) b msgs A f = pattern_done b msgs A p n f
act_done (post j m) b msgs A f = post_done b msgs A j f.0 m f.1 f.2
act_done (receive j) b msgs A f = receive_done b msgs A j f
act_done (mark p k t) b msgs A f = mark_done b msgs A p f.0 k t f.1
act_done elapse b msgs A f = elapse_done b msgs A A.whole.low
act_done (nest h) b msgs A f = nest_done b msgs A h
act_done (alarm k c s) b msgs A f = alarm_done b msgs A k f.0 c f.1 s

pub perform_law : (a : Act) (b msgs : List ℕ) → Accepted b msgs → Fit (body_shown b msgs) a → Shows (performed a b) (performed_marks a msgs) (act a (view_shown b msgs))
perform_law a b msgs A f = shows_done a b msgs (performed a b) (performed_marks a msgs) A (act_done a b msgs A f)
