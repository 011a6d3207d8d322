-- What a program that is put together keeps of the rules and limits of C, by its parts.
use Rattle.std.specs.Prelude.{◌≡◌, ℕ, ◌≤◌, [], ◌++◌, map, flat_map, slice_get, Option, Some}
use Rattle.std.specs.List.{AllByRecursion}
use Rattle.modules_profile.specs.declared.ChildUse.{ChildUse}
use Rattle.c_syntax.specs.Lawful.{AreDistinct, pure_names, procedure_names, AreStructs, AreProcedures, chains_of, HasRoot}
use Rattle.c_syntax.specs.Chains.{chain_limit}
use Rattle.c_syntax.specs.Limits.{IsWithinLimits}
use Rattle.emit_shape.specs.Heads.{Head, public_heads}
use Rattle.emit_shape.specs.Programs.{procedure_place}
use Rattle.emit_shape.specs.Assembled.{relocation_of}
use Rattle.right_linking.specs.Parts.{Parts, program_of, all_systems, Views}
use Rattle.right_linking.specs.Whole.{AssembledIsLawful}

-- what the children of a system offer comes, in the order in which the system counts it, where the
-- names say
abbrev pub OfferedStandByName : Type 0
OfferedStandByName = (a : Parts) (v : Views a) (place : ℕ) (s : Option ℕ) (i : ℕ) (head : Head) →
    slice_get (all_systems a) place ≡ Some s →
    slice_get (flat_map (λ (u : ChildUse). public_heads u.header) (v.at s).local.children) i
    ≡ Some head →
    (relocation_of a.codes place).offered i ≡ procedure_place (program_of a) head.name

-- ---- Its parts

-- structs have fields of different names, and of kinds that are there, and differ by name
abbrev pub StructsAreKept : Type 0
StructsAreKept =
    (a : Parts) →
    AreStructs 0 (program_of a).structs × AreDistinct (map (λ d. d.name) (program_of a).structs)

-- the names of all functions and procedures differ
abbrev pub NamesAreKept : Type 0
NamesAreKept =
    (a : Parts) →
    AreDistinct (pure_names (program_of a).pures ++ procedure_names (program_of a).procedures)

-- each procedure has parameters of different names, and what it reads, stores and calls is there
abbrev pub ProceduresAreKept : Type 0
ProceduresAreKept =
    (a : Parts) →
    AreProcedures (program_of a).pures (program_of a).structs [] (program_of a).procedures

-- no chain of calls is too long
abbrev pub ChainsAreKept : Type 0
ChainsAreKept =
    (a : Parts) → AllByRecursion (λ n. n ≤ chain_limit) (chains_of [] (program_of a).procedures)

-- depths and numbers are within the limits
abbrev pub LimitsAreKept : Type 0
LimitsAreKept = (a : Parts) → IsWithinLimits (program_of a)

-- the root's struct and procedures are there
abbrev pub RootIsKept : Type 0
RootIsKept = (a : Parts) → HasRoot (program_of a)

-- ---- The whole

-- the program keeps all rules and limits
abbrev pub ProgramsAreLawful : Type 0
ProgramsAreLawful = (a : Parts) → AssembledIsLawful a
