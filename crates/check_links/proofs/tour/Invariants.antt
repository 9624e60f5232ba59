use Rattle.std.proofs.Common.{◌≡◌, ◌<◌}
use Rattle.check_links.specs.Survey.{owns, toured}
use Rattle.memory_rings.specs.Links.{half, nexts, prevs}
use Rattle.check_links.proofs.tour.Given as goal

abbrev pub invariant-loop-k : goal.invariant-loop-k
invariant-loop-k l =
    (toured l.k (owns l.table l.words l.first l.a) (nexts l.links) (prevs l.links) l.a l.x ≡ toured l.budget (owns l.table l.words l.first l.a) (nexts l.links) (prevs l.links) l.a l.a)
    × (l.x < half l.links)

abbrev pub decreases-loop-k : goal.decreases-loop-k
decreases-loop-k l = l.k
