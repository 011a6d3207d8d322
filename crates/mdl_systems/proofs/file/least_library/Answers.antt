use Rattle.std.proofs.Common.{ap, ◌∙◌}
use Rattle.base_refusals.specs.FirstRefusal.{as_plain, earlier_of}
use Rattle.mdl_tree.specs.Values.{section_tree}
use Rattle.mdl_systems.specs.Models.{library}
use Rattle.mdl_systems.proofs.PassLemmas.{least-at, least-end}
use Rattle.mdl_systems.proofs.file.least_library.Goals as goal

pub loop-library-preserved : goal.loop-library-preserved
loop-library-preserved c =
    least-at library (λ s. section_tree s.now) c.args.libraries.now c.loop-library.library-index c.library-item.result
    (as_plain c.loop-library.least) (as_plain c.earlier-least.result) _
    c.loop-library-test.true (c.earlier-least.ensures
    ∙ ap (λ s. earlier_of (as_plain c.loop-library.least) (library (section_tree s.now))) c.library-item.is)
    c.loop-library.invariant

pub returns : goal.returns
returns c =
    least-end library (λ s. section_tree s.now) c.args.libraries.now c.loop-library.library-index
    (as_plain c.loop-library.least) _ c.loop-library-test.false c.loop-library.invariant
