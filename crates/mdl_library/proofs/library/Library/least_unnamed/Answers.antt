use Rattle.mdl_library.specs.Held.{given_seen, library_seen}
use Rattle.mdl_library.proofs.UnnamedLemmas.{least_more, least_end}
use Rattle.mdl_library.proofs.library.Library.least_unnamed.Goals as goal

pub loop-reference-preserved : goal.loop-reference-preserved
loop-reference-preserved c =
    least_more (library_seen c.args.self.now).sources (given_seen c.args.given.now) c.args.references.now c.loop-reference.reference-index
    c.reference-item.result c.loop-reference-test.true c.reference-item.is c.loop-reference.least c.unnamed_line.result c.lesser-least.result _
    c.lesser-least.ensures c.unnamed_line.ensures c.loop-reference.invariant

pub returns : goal.returns
returns c =
    least_end (library_seen c.args.self.now).sources (given_seen c.args.given.now) c.args.references.now c.loop-reference.reference-index
    c.loop-reference-test.false c.loop-reference.least _ c.loop-reference.invariant
