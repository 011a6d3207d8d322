-- The law of the files of models.
use Rattle.std.specs.Prelude.{◌≡◌, None}
use Rattle.diagram_meaning.specs.Needs.{HasNoLoop, needs_of}
use Rattle.diagram_meaning.specs.ResolvedTree.{ResolvedTree, IsResolvedTree, diagram_of}
use Rattle.lustre_system.specs.File.{lustre_file}
use Rattle.lustre_right.specs.LongDelays.{long_delay}
use Rattle.lustre_right.specs.Right.{IsLustreOf}

-- the file of a model without a loop, and without a delay that is too long, is right for it
abbrev pub FilesAreRight : Type 0
FilesAreRight =
    (r : ResolvedTree) → IsResolvedTree r → HasNoLoop (needs_of (diagram_of r)) →
    long_delay (diagram_of r) ≡ None →
    IsLustreOf (lustre_file (diagram_of r) r.times.hyper) (diagram_of r)
