-- What counting promises of any lent memory.
use Rattle.std.specs.Prelude.{cond, ◌&&◌, List, [], ◌∷◌, map, ◌≡◌, ℕ, suc, leb, ℤ, length, Result, Ok}
use Rattle.rules.specs.Setup.{digit}
use Rattle.rules.specs.Kernel.{fresh}
use Rattle.memory_picture.specs.Picture.{tasks_shown, Memory}
use Rattle.call_reading.specs.Reading.{number_at}
use Rattle.check_damage.specs.declared.Breach.{Breach}
use Rattle.kernel_start.specs.Starting.{Holds}
use Rattle.kernel_steps.specs.Steps.{Step, Link}
use Rattle.kernel_steps.specs.Serving.{Known}
use Rattle.run_reading.specs.Recorded.{Item, begins, occurs, refuses}
use Rattle.run_reading.specs.Recorder.{Recorder, closed, items, after}
use Rattle.run_stream.specs.declared.Item.{Item as Completed}
use Rattle.run_stream.specs.Lent.{recorder_of, Tells, Said, said}
use Rattle.run_figures.specs.declared.Counted.{Counted}
use Rattle.run_figures.specs.Figures.{Seen, Figures, counted_all}

-- ---- what is lent

pub record Lent : Type 0 where
  pub recorder : Recorder
  pub memory : Memory
  pub figures : Figures

abbrev pub lent : List ℕ → List ℕ → Memory → Figures → Lent
lent n h m f = record { recorder = recorder_of n h; memory = m; figures = f }

-- ---- what is seen

-- by the words that an event has left, whatever they are
abbrev pub seen_in : ℤ → List ℕ → Seen
seen_in c b = record { code = c; tasks = tasks_shown b; state = λ i. number_at b (suc i) }

abbrev pub seen_link : Link → Seen
seen_link k = seen_in k.reply.code k.left.words

-- items in turn: a setup leaves its fresh state, whatever the memory held; each event makes a step, which is a link; a refusal leaves the memory as it was
abbrev pub Went : List Item → Memory → List Link → Memory → Type 0
Went [] old l new = (l ≡ []) × (new ≡ old)
Went (begins h ∷ i) old l new = (m : Memory) × Holds m (fresh h.setup) × Went i m l new
Went (occurs n e ∷ i) old l new = (k : Link) × (r : List Link) × (l ≡ k ∷ r) × (k.event ≡ e) × Step e old k.reply k.left × Went i k.left r new
Went (refuses f place ∷ i) old l new = Went i old l new

-- ---- what is said

-- what is said behind items: their refusal by its fault's digit and its place, if there is one; else what was said before
abbrev pub refusal_from : Said → List Item → Said
refusal_from s [] = s
refusal_from s (begins h ∷ l) = refusal_from s l
refusal_from s (occurs number e ∷ l) = refusal_from s l
refusal_from s (refuses f place ∷ l) = refusal_from (said (digit f) place) l

-- S5 where nothing is taken any more
abbrev pub first_said : Recorder → ℕ → Said
first_said r size = said (cond (closed r && leb 1 size) 5 0) 0

-- ---- a part

-- its items went on from the memory, and what was seen of their events was counted
pub record Counts (bytes : List ℕ) (old new : Lent) (a : Counted) : Type 0 where
  pub recorder : new.recorder ≡ after old.recorder bytes
  pub links : List Link
  pub went : Went (items old.recorder bytes) old.memory links new.memory
  pub counts : new.figures ≡ counted_all old.figures (map seen_link links)
  pub says : said a.number a.place ≡ refusal_from (first_said old.recorder (length bytes)) (items old.recorder bytes)

-- parts in turn, each from what the last one left
abbrev pub Taken : List (List ℕ) → Lent → Lent → Type 0
Taken [] old new = new ≡ old
Taken (s ∷ l) old new = (mid : Lent) × (a : Counted) × Counts s old mid a × Taken l mid new

-- ---- what the private functions promise

-- the items that were told went on, and this is known of the memory then
pub record Goes (l : List Item) (old new : Memory) (f f' : Figures) (k : Result ℕ Breach) : Type 0 where
  pub links : List Link
  pub went : Went l old links new
  pub counts : f' ≡ counted_all f (map seen_link links)
  pub known : Known k new

abbrev pub CountsTold : Completed → List ℕ → Result ℕ Breach → Memory → Memory → Figures → Figures → Result ℕ Breach → Type 0
CountsTold c h k old new f f' k' = (l : List Item) → Tells (Ok c) h l → Known k old → Goes l old new f f' k'
