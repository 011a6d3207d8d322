-- Models that have right code.
use Rattle.diagram_meaning.specs.Needs.{needs_of, HasNoLoop}
use Rattle.diagram_meaning.specs.ResolvedTree.{ResolvedTree, IsResolvedTree, diagram_of}
use Rattle.c_syntax.specs.Tree.{ProgramTree}
use Rattle.right_linking.specs.Whole.{IsAssembled}
use Rattle.right_sample_model.specs.RichModel.{RichModel}

-- each resolved model without a loop has a program that is lawful and code for it
abbrev pub EachModelHasCode : Type 0
EachModelHasCode = (r : ResolvedTree) → IsResolvedTree r → HasNoLoop (needs_of (diagram_of r)) →
    (p : ProgramTree) × IsAssembled r r.times.hyper p

-- the model of many parts, and a program that is right code for it
abbrev pub RichModelHasCode : Type 0
RichModelHasCode =
    (rich : RichModel) × (p : ProgramTree) × IsAssembled rich.model rich.model.times.hyper p
