-- Calls 13 to 25 and 28 to 31: semaphores, flags, mailboxes and pools. Wait queues are first come, first served.
-- The kinds have one shape: a call that gives (sig, set, snd, rel) serves the first waiter, else stores; a call that takes is
-- served at once, or else waits (wai, rcv, get) or is refused (the polls); a status call gives the first waiter and what is stored.
use Rattle.std.specs.Prelude.{Bool, true, false, not, cond, ◌&&◌, ◌||◌, List, [], ◌∷◌, ℕ, suc, ◌%◌, eqb, leb, ℤ, length}
use Rattle.std.proofs.Math.Option.{Option, none, some}
use Rattle.std.specs.Int.Bits.{bit_and, bit_or}
use Rattle.rules.specs.Ids.{of, keep, first, place}
use Rattle.rules.specs.Codes.{OK, E-QOVR, H-POLL, H-MSG, H-ILBLK}
use Rattle.rules.specs.State.{Kind, semaphore, flag, mailbox, pool, on, Body, task, wait_of, wish}
use Rattle.rules.specs.Places.{waiters, mail, free_in}
use Rattle.rules.specs.Events.{nat, bits, outside}
use Rattle.rules.specs.Acts.{Act, release, count, pattern, post, receive, mark}
use Rattle.rules.specs.View.{View, line}
use Rattle.rules.specs.Verdicts.{Verdict, refuse, gives, done, waits, check, choose, on_first, on_count}

-- ---- over the kind

-- the first waiter on object a is released with the word w; if there is none, as r says
unfoldable pub to_first : View → Kind → ℤ → ℕ → Verdict → Verdict
to_first v k a w r = on_first (line v (waiters k (nat a))) r (λ x. done (release x OK w ∷ []))

-- A poll that can't be served at once.
abbrev pub polls : Verdict
polls = refuse H-POLL

-- the caller waits on object a
abbrev pub wait_on : ℕ → Kind → ℤ → Verdict
wait_on me k a = waits me (on k (nat a) 0 0)

-- w1 the first waiter or 0, w2 n
unfoldable pub obj_sts : View → Kind → ℤ → ℕ → Verdict
obj_sts v k a n = gives (first (line v (waiters k (nat a)))) n []

-- ---- semaphores

abbrev pub count_of : View → ℤ → ℕ
count_of v a = of v.body.store.semaphores (nat a) 0

-- 13 sig_sem(a): releases the first waiter, else adds one.
unfoldable pub sig_sem : View → ℤ → Verdict
sig_sem v a = to_first v semaphore a 0 (check (leb 65535 (count_of v a)) E-QOVR (done (count (nat a) (suc (count_of v a)) ∷ [])))

-- 14 wai_sem(a) T, 15 preq_sem(a): takes one if the count is above 0.
unfoldable pub take_sem : View → ℤ → Verdict → Verdict
take_sem v a other = on_count (count_of v a) other (λ n. done (count (nat a) n ∷ []))

-- ---- flags

abbrev pub pattern_of : View → ℤ → ℕ
pattern_of v a = of v.body.store.flags (nat a) 0

-- Mode 1-bit set means any bit of what is asked for, unset means all bits.
abbrev pub met : ℕ → ℕ → ℕ → Bool
met have want mode = cond (eqb (mode % 2) 1) (not (eqb (bit_and have want) 0)) (eqb (bit_and have want) want)

-- Mode 2-bit set means clear the whole pattern on success.
abbrev pub clears : ℕ → Bool
clears mode = leb 2 mode

abbrev pub left : ℕ → ℕ → ℕ
left have mode = cond (clears mode) 0 have

-- Goes through the waiters in order; each whose condition holds is released with the pattern of that moment, and if it asked for
-- clearing the pattern becomes 0 before the next is looked at.
abbrev pub serve_flag : Body → ℕ → ℕ → List ℕ → List Act
serve_flag b f have [] = pattern f have ∷ []
serve_flag b f have (x ∷ l) =
    let w : ℕ × ℕ = wish (wait_of (task b x).state) in
    cond (met have w.0 w.1) (release x OK have ∷ serve_flag b f (left have w.1) l) (serve_flag b f have l)

-- the pattern meets what waiter x asks for
abbrev pub meets : Body → ℕ → ℕ → Bool
meets b have x = let w : ℕ × ℕ = wish (wait_of (task b x).state) in met have w.0 w.1

-- waiter x asks for clearing
abbrev pub asks_clear : Body → ℕ → Bool
asks_clear b x = clears (wish (wait_of (task b x).state)).1

-- waiter x is released with clearing by the pattern
abbrev pub cleared_by : Body → ℕ → ℕ → Bool
cleared_by b have x = meets b have x && asks_clear b x

-- the place in a queue of the first of some, or the whole queue's length if there is none
abbrev pub place_or_length : List ℕ → List ℕ → ℕ
place_or_length [] l = length l
place_or_length (x ∷ m) l = place x l

-- How many waiters set_flg looks at: the place in the queue, before the call, of the first waiter released with clearing, or the whole
-- queue's length if there is none. Until that waiter the pattern is as it was set.
unfoldable pub looks : Body → ℕ → List ℕ → ℕ
looks b have l = place_or_length (keep (cleared_by b have) l) l

-- 16 set_flg(a, b): ORs b in, then goes through the waiters; w1 is how many it looks at.
unfoldable pub set_flg : View → ℤ → ℤ → Verdict
set_flg v a b =
    let have : ℕ = bit_or (pattern_of v a) (bits b) in
    let l : List ℕ = line v (waiters flag (nat a)) in
    gives (looks v.body have l) 0 (serve_flag v.body (nat a) have l)

-- 17 clr_flg(a, b): ANDs.
unfoldable pub clr_flg : View → ℤ → ℤ → Verdict
clr_flg v a b = done (pattern (nat a) (bit_and (pattern_of v a) (bits b)) ∷ [])

-- 18 wai_flg(a, b, c) T, 19 pol_flg: w1 is the pattern before clearing.
unfoldable pub take_flg : View → ℤ → ℤ → ℤ → Verdict → Verdict
take_flg v a b c other = choose (met (pattern_of v a) (bits b) (nat c)) (gives (pattern_of v a) 0 (pattern (nat a) (left (pattern_of v a) (nat c)) ∷ [])) other

-- ---- mailboxes

-- the message lies in some mailbox
abbrev pub laid : Option ℕ → Bool
laid none = false
laid (some m) = true

-- 20 snd_msg(a, b): to the first waiter, else last in the mailbox.
unfoldable pub snd_msg : View → ℤ → ℤ → Verdict
snd_msg v a b = check (laid (of v.body.store.messages (nat b) none)) H-MSG (to_first v mailbox a (nat b) (done (post (nat b) (nat a) ∷ [])))

-- 21 rcv_msg(a) T, 22 prcv_msg(a): w1 the first message.
unfoldable pub take_msg : View → ℤ → Verdict → Verdict
take_msg v a other = on_first (line v (mail (nat a))) other (λ m. gives m 0 (receive m ∷ []))

-- ---- pools

-- the marks of a pool's blocks: true is free
abbrev pub blocks_of : View → ℤ → List Bool
blocks_of v a = of v.body.store.pools (nat a) []

-- the number of free blocks
abbrev pub free : List Bool → ℕ
free [] = 0
free (true ∷ l) = suc (free l)
free (false ∷ l) = free l

-- 23 get_blk(a) T, 24 pget_blk(a): w1 is the block longest free.
unfoldable pub take_blk : View → ℤ → Verdict → Verdict
take_blk v a other = on_first (line v (free_in (nat a))) other (λ k. gives k 0 (mark (nat a) k false ∷ []))

-- 25 rel_blk(a, b): to the first waiter, else free, behind the other free ones. A block number outside the pool, or free, is refused.
unfoldable pub rel_blk : View → ℤ → ℤ → Verdict
rel_blk v a b =
    check (outside b (length (blocks_of v a)) || of (blocks_of v a) (nat b) true) H-ILBLK
    (to_first v pool a (nat b) (done (mark (nat a) (nat b) true ∷ [])))
