-- Why a file gives no model.
use Rattle.std.specs.Prelude.{ℕ, List, Option, MatchOption, ⊤}
use Rattle.base_refusals.specs.declared.refusal.Refusal.{Refusal}
use Rattle.base_refusals.specs.declared.refusal.Refusal.TheVariants as refusal
use Rattle.base_refusals.specs.Refusals.{plain_refusal}
use Rattle.diagram_meaning.specs.Diagram.{Diagram}
use Rattle.diagram_meaning.specs.Needs.{needs_of, HasNoLoop}
use Rattle.diagram_meaning.specs.declared.BuildFault.{BuildFault}
use Rattle.diagram_meaning.specs.declared.BuildFault.TheVariants as build
use Rattle.mdl_reader.specs.declared.ReadFault.{ReadFault}
use Rattle.mdl_reader.specs.declared.ReadFault.TheVariants as read
use Rattle.diagram_verdict.specs.declared.fault.ModelFault.{ModelFault}
use Rattle.diagram_verdict.specs.declared.fault.ModelFault.TheVariants.{Refused, Memory}
use Rattle.diagram_verdict.specs.Verdict as verdict
use Rattle.diagram_verdict.specs.Verdict.{TellsLoop, HasVerdict}

-- an error of reading, reported of the file
abbrev pub as_read_fault : ReadFault → ModelFault
as_read_fault (read.Syntax line kind) = Refused (refusal.Syntax line kind)
as_read_fault read.Memory = Memory

-- an error of the tree, of types or of sample times, reported of the file
abbrev pub as_built_fault : BuildFault → ModelFault
as_built_fault (build.Refused refusal) = Refused refusal
as_built_fault build.Memory = Memory

-- the loop of the diagram is reported so, if it has one
abbrev pub TellsLoopOf : Diagram → Option Refusal → Type 0
TellsLoopOf d found =
    MatchOption found (HasNoLoop (needs_of d)) (λ refusal. TellsLoop d (plain_refusal refusal))

-- the file is refused so; nothing is said where memory runs out
abbrev pub IsFaultOf : List ℕ → ModelFault → Type 0
IsFaultOf bytes (Refused refusal) = HasVerdict bytes (verdict.Refused (plain_refusal refusal))
IsFaultOf bytes Memory = ⊤
