-- Alarms: what they do when they fire, and calls 36 to 39.
use Rattle.std.specs.Prelude.{Bool, false, not, cond, List, [], ◌∷◌, ◌++◌, ℕ, zero, suc, ◌+◌, ◌%◌, eqb, ℤ, nat_abs}
use Rattle.rules.specs.Ids.{once}
use Rattle.rules.specs.Codes.{E-NOEXS, E-DMT, H-USED, H-IDLE, number}
use Rattle.rules.specs.State.{Setting, unset, due, in_use, Alarm, Counter, alarm_of, Body, task, is_dormant, is_absent}
use Rattle.rules.specs.Events.{nat}
use Rattle.rules.specs.Acts.{Act, alarm, afters}
use Rattle.rules.specs.View.{View}
use Rattle.rules.specs.Verdicts.{Verdict, gives, done, check, choose}
use Rattle.rules.specs.Tasks.{starting, waking}

-- ---- firing

-- It fires at a tick that brings the counter to its expiry.
abbrev pub fires : Counter → Setting → Bool
fires c unset = false
fires c (due e p) = eqb e c.now

-- the present count and n more, by remainder of m
abbrev pub count_from : Counter → ℕ → ℕ
count_from c n = (c.now + n) % c.size

-- It goes idle, or with a period is set again by that relative count.
abbrev pub again : Counter → Setting → Setting
again c unset = unset
again c (due e zero) = unset
again c (due e (suc p)) = due (count_from c (suc p)) (suc p)

-- It starts or wakes its task as a handler would (proofs/Alarms.antt: what the handler's call would do).
unfoldable pub fired : Body → Alarm → Verdict
fired b x =
    check (is_absent (task b x.task).state) E-NOEXS
    (choose x.wakes (check (is_dormant (task b x.task).state) E-DMT (waking b x.task)) (starting b x.task))

-- and keeps that code.
abbrev pub firing : Body → ℕ → Alarm → List Act
firing b k x = (fired b x).acts ++ alarm k (fired b x).code (again b.counter x.setting) ∷ []

-- n alarms from number k on, each on what the earlier ones left
unfoldable pub rings : Body → ℕ → ℕ → List Act
rings b zero k = []
rings b (suc n) k =
    cond (fires b.counter (alarm_of b.counter k).setting) (firing b k (alarm_of b.counter k) ++ rings (afters (firing b k (alarm_of b.counter k)) b) n (suc k))
    (rings b n (suc k))

-- ---- the calls

-- the alarm that a word names
abbrev pub alarm_at : View → ℤ → Alarm
alarm_at v a = alarm_of v.body.counter (nat a)

-- An idle alarm is set, to an expiry and a period.
unfoldable pub set_alm : View → ℤ → ℕ → ℤ → Verdict
set_alm v a e c = check (in_use (alarm_at v a).setting) H-USED (done (alarm (nat a) (alarm_at v a).kept (due e (nat c)) ∷ []))

-- 36 set_abs(a, b, c): the expiry is the absolute count b, by remainder of m; period c, 0 for once.
unfoldable pub set_abs : View → ℤ → ℤ → ℤ → Verdict
set_abs v a b c = set_alm v a (nat b % v.body.counter.size) c

-- 37 set_rel(a, b, c): the expiry is the present plus the relative count b, by remainder of m.
unfoldable pub set_rel : View → ℤ → ℤ → ℤ → Verdict
set_rel v a b c = set_alm v a (count_from v.body.counter (nat b)) c

-- 38 can_alm(a): an alarm in use goes idle.
unfoldable pub can_alm : View → ℤ → Verdict
can_alm v a = check (not (in_use (alarm_at v a).setting)) H-IDLE (done (alarm (nat a) (alarm_at v a).kept unset ∷ []))

-- 39 alm_sts(a): w1 1 if it is in use, w2 its kept code without the sign.
unfoldable pub alm_sts : View → ℤ → Verdict
unfolding number
alm_sts v a = gives (once (in_use (alarm_at v a).setting)) (nat_abs (number (alarm_at v a).kept)) []
