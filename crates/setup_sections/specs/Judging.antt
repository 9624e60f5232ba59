-- What judging gives: what the rules' reader gives, without what was read.
use Rattle.std.specs.Prelude.{List, [], ◌∷◌, ℕ, zero, suc, ◌+◌, min, length, replicate, Result, Ok, Err}
use Rattle.rules.specs.Setup.{Fault, S1, S2, S3, S4, digit, Read, got, refused, Range, to}
use Rattle.setup_sections.specs.declared.Fault.{Fault as Code}
use Rattle.setup_sections.specs.declared.Fault.TheVariants as code
use Rattle.setup_sections.specs.declared.Refusal.{Refusal as RefusalBy}
use Rattle.setup_sections.specs.declared.Shape.{Shape}

-- n bytes behind i, at most the end
abbrev pub onward : List ℕ → ℕ → ℕ → ℕ
onward s i n = min (i + n) (length s)

-- the fault of the code that has the rules' name
abbrev pub coded : Fault → Code
coded S1 = code.S1
coded S2 = code.S2
coded S3 = code.S3
coded S4 = code.S4

-- the rules' digit
abbrev pub digit_of : Code → ℕ
digit_of code.S1 = digit S1
digit_of code.S2 = digit S2
digit_of code.S3 = digit S3
digit_of code.S4 = digit S4

-- of a fault by its name
abbrev pub Refusal : Type 0
Refusal = RefusalBy Code

abbrev pub refusal : Fault → ℕ → Refusal
refusal f i = record { fault = coded f; place = i }

-- the fault and its place, or the offset behind what was read
abbrev pub judged_of : {A : Type 0} → Read A → Result ℕ Refusal
judged_of (got a next) = Ok next
judged_of (refused f place) = Err (refusal f place)

-- the same of a word, whose fault S3 is told as another, whatever that is; n: the name of each fault
abbrev pub told_as : {A F : Type 0} → (Fault → F) → F → Read A → Result ℕ (RefusalBy F)
told_as n d (got a next) = Ok next
told_as n d (refused S1 place) = Err (record { fault = n S1; place = place })
told_as n d (refused S2 place) = Err (record { fault = n S2; place = place })
told_as n d (refused S3 place) = Err (record { fault = d; place = place })
told_as n d (refused S4 place) = Err (record { fault = n S4; place = place })

-- the same of a word, with whatever errors a caller has for one that is not whole and for one out of range
abbrev pub told_by : {A E : Type 0} → E → E → Read A → Result ℕ E
told_by short outside (got a next) = Ok next
told_by short outside (refused S1 place) = Err short
told_by short outside (refused S2 place) = Err outside
told_by short outside (refused S3 place) = Err outside
told_by short outside (refused S4 place) = Err outside

-- an earlier fault stays
abbrev pub on_good : {E : Type 0} → Result ℕ E → (ℕ → Result ℕ E) → Result ℕ E
on_good (Ok i) f = f i
on_good (Err e) f = Err e

-- n ranges: the first, and the other for each further word
abbrev pub ranges : ℕ → Range → Range → List Range
ranges zero a b = []
ranges (suc n) a b = a ∷ replicate n b

-- the ranges of the words of an entry
abbrev pub ranges_of : Shape → List Range
ranges_of e = ranges e.words (to e.first.least e.first.most) (to e.others.least e.others.most)
