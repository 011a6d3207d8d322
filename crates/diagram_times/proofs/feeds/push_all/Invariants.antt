use Rattle.std.proofs.Common.{◌≡◌, ◌++◌, map, take}
use Rattle.diagram_times.proofs.feeds.push_all.Given as goal

abbrev pub invariant-loop-a : goal.invariant-loop-a
invariant-loop-a l = l.edges.items ≡ l.fn.edges.items ++ map (λ a. (a, l.b)) (take l.a-index l.rows)
