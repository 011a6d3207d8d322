-- At each tick of a run there are values for the names of each system.
use Rattle.std.proofs.Common.{None}
use Rattle.diagram_meaning.specs.ResolvedTree.{diagram_of}
use Rattle.diagram_meaning.specs.SystemRuns.{system_tick}
use Rattle.lustre_right.specs.Systems.{system_texts, place_in}
use Rattle.lustre_right.specs.TickLaws.{ExpectedValues}
use Rattle.lustre_expected.proofs.HeldNames.{numbers, number-found, each-found, count-of_numbers}
use Rattle.lustre_expected.proofs.SystemNames.{held, held-named}
use Rattle.lustre_expected.proofs.NamesHeld.{names-held}
use Rattle.lustre_expected.proofs.DistinctNames.{names-distinct}

pub expected_values : ExpectedValues
expected_values r xs run n t at lawful =
    let d = diagram_of r in
    let hyper = r.times.hyper in
    let m = system_tick d None xs run n t in
    let hs = held d hyper n m in
    let same = held-named d hyper n m in
    let distinct = names-distinct d hyper n at.system lawful in (
      numbers hs,
      count-of_numbers (system_texts d n) hs same,
      record {
        names = names-held r at.resolved hyper n m (numbers hs) (place_in d n)
            (λ h here. number-found (system_texts d n) hs h same distinct here);
        whole = each-found (system_texts d n) hs same distinct;
      },
    )
