-- What is promised of a judged memory.
use Rattle.std.specs.Prelude.{List, ◌≡◌, ℕ, Result, Ok, Err}
use Rattle.rules.specs.Codes.{number}
use Rattle.rules.specs.Breach.{breach}
use Rattle.memory_picture.specs.Picture.{view_shown, Accepted}
use Rattle.check_damage.specs.declared.Breach.{Breach}

-- Nothing is broken exactly of a memory that is accepted; of a damaged one code and id are those that the rules tell of the view shown.
abbrev pub Judged : List ℕ → List ℕ → Result (Unit {0}) Breach → Type 0
Judged b msgs (Ok u) = Accepted b msgs
Judged b msgs (Err f) = (Accepted b msgs → ⊥) × (f.code ≡ number (breach (view_shown b msgs)).code) × (f.id ≡ (breach (view_shown b msgs)).id)
