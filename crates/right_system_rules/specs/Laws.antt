-- The code of a system keeps the rules and limits of C by itself.
use Rattle.std.specs.Prelude.{List, [], ◌++◌}
use Rattle.std.specs.List.{AllByRecursion}
use Rattle.modules_profile.specs.LocalSystem.{LocalSystem}
use Rattle.modules_profile.specs.SystemProfile.{SystemProfile}
use Rattle.modules_schedule.specs.SystemSchedule.{SystemSchedule}
use Rattle.c_syntax.specs.Tree.{PureTree}
use Rattle.c_syntax.specs.Lawful.{AreDistinct, pure_names, procedure_names, AreStructs, AreProcedures}
use Rattle.c_syntax.specs.Limits.{ProcedureFits}
use Rattle.emit_prelude.specs.Rules.{IsPrelude}
use Rattle.emit_shape.specs.SystemTree.{SystemTree}
use Rattle.right_claim.specs.Alone.{alone, CallsWithin, IsLawfulAlone, HasShortChains}
use Rattle.emit_system_spec.specs.Emitted.{IsEmitted}
use Rattle.emit_system_spec.specs.EmittedCode.{system_code}

-- so it is of the code of each system from which code is made
abbrev OfEmitted : (LocalSystem → SystemTree → Type 0) → Type 0
OfEmitted Holds =
    (local : LocalSystem) (profile : SystemProfile) (schedule : SystemSchedule) →
    IsEmitted local profile schedule → Holds local (system_code local profile schedule)

-- and after whatever functions of the prelude
abbrev BehindPrelude : (LocalSystem → SystemTree → List PureTree → Type 0) → Type 0
BehindPrelude Holds =
    OfEmitted (λ local code. (pures : List PureTree) → IsPrelude pures → Holds local code pures)

-- ---- Its parts

-- the struct and those of the children have fields of different names, and of kinds that are there
abbrev pub StructsAreLawful : Type 0
StructsAreLawful = OfEmitted (λ local code. AreStructs 0 (alone local code []).structs)

-- the names of its procedures, of its children's and of the prelude's functions differ
abbrev pub ProceduresDiffer : Type 0
ProceduresDiffer =
    BehindPrelude (λ local code pures.
    AreDistinct (pure_names pures ++ procedure_names (alone local code pures).procedures))

-- each procedure has parameters of different names, and what it reads, stores and calls is there
abbrev pub ProceduresAreLawful : Type 0
ProceduresAreLawful =
    BehindPrelude (λ local code pures.
    AreProcedures pures (alone local code pures).structs [] (alone local code pures).procedures)

-- each procedure is within the limits on depths and parameters
abbrev pub ProceduresFit : Type 0
ProceduresFit = OfEmitted (λ local code. AllByRecursion ProcedureFits code.procedures)

-- each procedure calls those of the system and of its children alone
abbrev pub CallsStayWithin : Type 0
CallsStayWithin = OfEmitted (λ local code. AllByRecursion (CallsWithin local code) code.procedures)

-- ---- The whole

-- it is lawful and within the limits, but that it has no root
abbrev pub EmittedIsLawful : Type 0
EmittedIsLawful = OfEmitted IsLawfulAlone

-- calls on `s` go through at most three procedures
abbrev pub EmittedHasShortChains : Type 0
EmittedHasShortChains = OfEmitted HasShortChains
