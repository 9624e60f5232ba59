-- What judging the setup and the count gives. Assumes nothing.
use mathlib.Core.List.{List}
use mathlib.Core.Path.{◌≡◌}
use Prim.Native.Nat.{ℕ}
use Rattle.rules.specs.Setup.{S2, to, read_word, read_setup}
use Rattle.setup_sections.specs.Judging.{judged_of, on_good}
use Rattle.setup_sections.proofs.Judging.{then_judged, map_judged}
use Rattle.run_reading.specs.Recorded.{most_events, read_head}

pub head_judged : (s : List ℕ) → judged_of (read_head s) ≡ on_good (judged_of (read_setup s 0)) (λ i. judged_of (read_word s (to 0 most_events) S2 i))
unfolding read_head
head_judged s = then_judged (read_setup s 0) _ _ (λ u i q. map_judged (read_word s (to 0 most_events) S2 i) _)
