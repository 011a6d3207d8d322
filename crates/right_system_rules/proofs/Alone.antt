-- The code of a system is lawful by itself.
use Rattle.diagram_meaning.specs.ResolvedLaws.{ResolvedRowsAreNarrow}
use Rattle.modules_profile.specs.NodeFacts.{LocalsAreLawful}
use Rattle.emit_row_code.specs.Resolved.{RowOpsAreWritable}
use Rattle.right_relation.specs.RunTickLaws.{CycleIsOfLocals}
use Rattle.right_system_rules.specs.Laws.{StructsAreLawful, ProceduresDiffer, ProceduresAreLawful, ProceduresFit, CallsStayWithin, EmittedIsLawful, EmittedHasShortChains}
use Rattle.right_system_rules.proofs.SystemFacts.{system_facts}
use Rattle.right_system_rules.proofs.Structs as struct
use Rattle.right_system_rules.proofs.ProcedureNames as name
use Rattle.right_system_rules.proofs.LeafRules.{BlockLaws}
use Rattle.right_system_rules.proofs.OwnProcedures as own
use Rattle.right_system_rules.proofs.CalledProcedures as called
use Rattle.right_system_rules.proofs.ShortChains as chain
use Rattle.right_system_rules.proofs.Procedures as procedure

module _ (lawful : LocalsAreLawful) (narrow : ResolvedRowsAreNarrow) (writable : RowOpsAreWritable) (cycles : CycleIsOfLocals) where
  pub structs_are_lawful : StructsAreLawful
  structs_are_lawful local profile schedule is =
      struct.structs_are_lawful local profile schedule (system_facts lawful narrow writable cycles local profile schedule is)

  pub procedures_differ : ProceduresDiffer
  procedures_differ local profile schedule is =
      name.names_differ local profile schedule (system_facts lawful narrow writable cycles local profile schedule is)

  module _ (laws : BlockLaws) where
    pub procedures_are_lawful : ProceduresAreLawful
    procedures_are_lawful local profile schedule is pures prelude =
        procedure.procedures_are_lawful local profile schedule
        (system_facts lawful narrow writable cycles local profile schedule is) laws pures prelude

    pub procedures_fit : ProceduresFit
    procedures_fit local profile schedule is =
        own.procedures_fit local profile schedule (system_facts lawful narrow writable cycles local profile schedule is) laws

    pub calls_stay_within : CallsStayWithin
    calls_stay_within local profile schedule is =
        called.calls_within local profile schedule (system_facts lawful narrow writable cycles local profile schedule is) laws

    pub emitted_has_short_chains : EmittedHasShortChains
    emitted_has_short_chains local profile schedule is =
        chain.short_chains local profile schedule (system_facts lawful narrow writable cycles local profile schedule is) laws

pub emitted_is_lawful : StructsAreLawful → ProceduresDiffer → ProceduresAreLawful → ProceduresFit → CallsStayWithin → EmittedIsLawful
emitted_is_lawful structs names procedures fits calls local profile schedule is = record {
  names = names local profile schedule is;
  structs = structs local profile schedule is;
  procedures = procedures local profile schedule is;
  calls = calls local profile schedule is;
  fits = fits local profile schedule is;
}
