-- The verdict on a tree, which may be that of no text: its first refusal, or the resolved table of
-- its model. That on a file is one for its length and its text, and then this one.
use Rattle.std.specs.Prelude.{◌≡◌, ℕ, List, None, Some, ⊤}
use Rattle.base_refusals.specs.Refusals.{PlainRefusal, plain_refusal}
use Rattle.mdl_tree.specs.Spelling.{Items}
use Rattle.diagram_meaning.specs.RowTable.{RowTable}
use Rattle.diagram_meaning.specs.ResolvedTable.{ResolvedTable, diagram_of_table, IsResolvedTable}
use Rattle.diagram_meaning.specs.TypeRefusals.{type_refusal}
use Rattle.diagram_meaning.specs.TimeRefusals.{HasTimeRefusal}
use Rattle.diagram_meaning.specs.DelayRefusals.{delay_refusal}
use Rattle.diagram_meaning.specs.Needs.{needs_of, HasNoLoop}
use Rattle.mdl_rows.specs.Refusals.{tree_refusal}
use Rattle.mdl_table.specs.Tables.{TableOf}
use Rattle.diagram_verdict.specs.declared.fault.ModelFault.{ModelFault}
use Rattle.diagram_verdict.specs.declared.fault.ModelFault.TheVariants as fault
use Rattle.diagram_verdict.specs.Files.{IsFile}
use Rattle.diagram_verdict.specs.Verdict.{TellsLoop, Verdict, Refused, Accepted, HasVerdict}

-- nothing is wrong with the tree, and this is its table
pub record IsTreeWith (file : Items) (table : RowTable) : Type 0 where
  pub unrefused : tree_refusal file ≡ None
  pub table_of : TableOf file table

-- the same, and this is its table with types, operations and sample times, with which nothing is
-- wrong
pub record IsTreeOf (file : Items) (r : ResolvedTable) : Type 0 where
  pub table : IsTreeWith file r.table
  pub resolved : IsResolvedTable r

-- what is first wrong: with the tree, with types, with sample times, a loop, or delays that together
-- remember too many samples
pub data IsRefusedTree (file : Items) : PlainRefusal → Type 0 where
  for_tree : (refusal : PlainRefusal) → tree_refusal file ≡ Some refusal →
      IsRefusedTree file refusal
  for_types : (refusal : PlainRefusal) (table : RowTable) → IsTreeWith file table →
      type_refusal table.rows ≡ Some refusal → IsRefusedTree file refusal
  for_times : (refusal : PlainRefusal) (table : RowTable) → IsTreeWith file table →
      type_refusal table.rows ≡ None → HasTimeRefusal table (Some refusal) →
      IsRefusedTree file refusal
  for_loop : (refusal : PlainRefusal) (r : ResolvedTable) → IsTreeOf file r →
      TellsLoop (diagram_of_table r) refusal → IsRefusedTree file refusal
  for_delays : (refusal : PlainRefusal) (r : ResolvedTable) → IsTreeOf file r →
      HasNoLoop (needs_of (diagram_of_table r)) → delay_refusal r.table.rows ≡ Some refusal →
      IsRefusedTree file refusal

-- nothing is wrong: no rows form a loop, and the delays don't remember too much
pub record IsAcceptedTree (file : Items) (r : ResolvedTable) : Type 0 where
  pub model : IsTreeOf file r
  pub no_loop : HasNoLoop (needs_of (diagram_of_table r))
  pub short_delays : delay_refusal r.table.rows ≡ None

abbrev pub HasTreeVerdict : Items → Verdict → Type 0
HasTreeVerdict file (Refused refusal) = IsRefusedTree file refusal
HasTreeVerdict file (Accepted r) = IsAcceptedTree file r

-- the tree is refused so; nothing is said where memory runs out
abbrev pub IsTreeFaultOf : Items → ModelFault → Type 0
IsTreeFaultOf file (fault.Refused refusal) = HasTreeVerdict file (Refused (plain_refusal refusal))
IsTreeFaultOf file fault.Memory = ⊤

-- ---- Laws

-- the tree has one verdict and no other
abbrev pub HasOneTreeVerdict : Items → Type 0
HasOneTreeVerdict file = (verdict : Verdict) × HasTreeVerdict file verdict
    × ((other : Verdict) → HasTreeVerdict file other → other ≡ verdict)

-- the verdict on the tree of a file is the verdict on the file
abbrev pub TreeVerdictIsOfFile : Type 0
TreeVerdictIsOfFile =
    (bytes : List ℕ) (file : Items) (verdict : Verdict) → IsFile bytes file →
    HasTreeVerdict file verdict → HasVerdict bytes verdict
