use Rattle.std.proofs.Common.{◌≡◌, map}
use Rattle.lustre_expressions.specs.Found.{place_in}
use Rattle.lustre_emitter.specs.RootParts.{numbered_names}
use Rattle.lustre_emitter.proofs.root_names.numbered_places.Given as goal

abbrev pub invariant-loop-k : goal.invariant-loop-k
invariant-loop-k l = l.found.items ≡ map (place_in l.places) (numbered_names l.outputs l.k)
