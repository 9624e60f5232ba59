-- The release acts of a list: the count of tasks that they release (proofs/Released.antt shows that it is the count of the states before and after).
use Rattle.std.specs.Prelude.{Bool, true, false, List, [], ◌∷◌, ℕ, ◌+◌}
use Rattle.rules.specs.Ids.{once}
use Rattle.rules.specs.Acts.{Act, start, retire, create, delete, rotate, regrade, wait, release, suspend, resume, wakeups, count, pattern, post, receive, mark, elapse, nest, alarm}

abbrev pub is_release : Act → Bool
is_release (start i) = false
is_release (retire i) = false
is_release (create i p) = false
is_release (delete i) = false
is_release (rotate i) = false
is_release (regrade i p) = false
is_release (wait i w) = false
is_release (release i c w) = true
is_release (suspend i) = false
is_release (resume i) = false
is_release (wakeups i n) = false
is_release (count s n) = false
is_release (pattern f n) = false
is_release (post j m) = false
is_release (receive j) = false
is_release (mark p k t) = false
is_release elapse = false
is_release (nest h) = false
is_release (alarm k c s) = false

abbrev pub releases : List Act → ℕ
releases [] = 0
releases (a ∷ l) = once (is_release a) + releases l
