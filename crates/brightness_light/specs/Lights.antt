-- A light, and what an arrival makes of it.
use Rattle.std.specs.Prelude.{Bool, true, false, cond, ◌&&◌, List, ◌≡◌, ℕ, zero, suc, eqb, leb, ℤ, pos, negsuc, length, get_or, Ok, Err}
use Rattle.brightness_curve.specs.declared.Curve.{Curve}
use Rattle.brightness_curve.specs.Curves.{Judged, point_at, judged_of, level_on}
use Rattle.brightness_light.specs.declared.Light.{Light}
use Rattle.brightness_light.specs.declared.News.{News}
use Rattle.brightness_light.specs.declared.News.TheVariants.{Set, Waits, Stays, NoSlot, BadCurve}
use Rattle.brightness_light.specs.declared.Shown.{Shown}

-- ---- numbers

-- what became of an arrival, by its number
abbrev pub news_number : News → ℕ
news_number Set = 0
news_number Waits = 1
news_number Stays = 2
news_number NoSlot = 3
news_number (BadCurve k) = 4

-- the curve's first bad point, 0 for a bad count and where the curve is good
abbrev pub news_point : News → ℕ
news_point Set = 0
news_point Waits = 0
news_point Stays = 0
news_point NoSlot = 0
news_point (BadCurve k) = k

-- ---- slots

-- There are 0 to 256 slots, counted from 1; later ones are ignored.
abbrev pub is_slot : ℕ → ℕ → Bool
is_slot word count = leb 1 word && leb word 256 && leb word count

-- the lux of a slot; 0 where there is none
abbrev pub lux_at : List ℕ → ℕ → ℕ
lux_at s zero = 0
lux_at s (suc k) = get_or s k 0

-- ---- a light

abbrev pub shown : Light → News → Shown
shown l n = record { light = l; news = n }

-- with another level
abbrev pub lit : Light → ℕ → Light
lit l y = record { level = y; waits = l.waits }

-- with that task waiting
abbrev pub awaited : Light → ℕ → Light
awaited l t = record { level = l.level; waits = t }

-- with nobody waiting
abbrev pub idle : Light → Light
idle l = awaited l 0

-- a bad curve is refused with its first bad point
abbrev pub on_good : Judged → Light → Shown → Shown
on_good (Ok u) l s = s
on_good (Err k) l s = shown l (BadCurve k.0)

-- the level starts at the first point's
abbrev pub first_shown : Curve → Shown
first_shown c = on_good (judged_of c) (record { level = 0; waits = 0 }) (shown (record { level = (point_at c 0).level; waits = 0 }) Set)

-- ---- arrivals

-- the codes of the kernel that count here: 0, and 1
abbrev pub is_ok : ℤ → Bool
is_ok (pos zero) = true
is_ok (pos (suc n)) = false
is_ok (negsuc n) = false

abbrev pub is_waits : ℤ → Bool
is_waits (pos zero) = false
is_waits (pos (suc zero)) = true
is_waits (pos (suc (suc n))) = false
is_waits (negsuc n) = false

-- a message whose number names a slot with its lux: the level becomes the curve's there; a number that names none leaves it
unfoldable pub read_of : Curve → List ℕ → Light → ℕ → Shown
read_of c s l word = cond (is_slot word (length s)) (shown (lit l (level_on c (lux_at s word))) Set) (shown l NoSlot)

-- When the code isn't 0, the level stays as it was.
unfoldable pub taken_of : Curve → List ℕ → Light → ℤ → ℕ → Shown
taken_of c s l code word = on_good (judged_of c) l (cond (is_ok code) (read_of c s l word) (shown l Stays))

-- What rcv_msg answered task me at once: it waits; or a reading, and nobody waits; or it was refused, and nothing has changed.
unfoldable pub heard_of : Curve → List ℕ → Light → ℕ → ℤ → ℕ → Shown
heard_of c s l me code word = cond (is_waits code) (shown (awaited l me) Waits) (taken_of c s (cond (is_ok code) (idle l) l) code word)

-- What the cell of the running task me holds: how its wait ended, if it is the task that waits for a reading. The wait is over then.
unfoldable pub woken_of : Curve → List ℕ → Light → ℕ → ℤ → ℕ → Shown
woken_of c s l me code word = cond (eqb l.waits me) (taken_of c s (idle l) code word) (shown l Waits)

-- ---- a level that the curve can give

pub record Given (c : Curve) (y : ℕ) : Type 0 where
  pub lux : ℕ
  pub level : y ≡ level_on c lux
