-- A system's code as a program of its own, in which each child is nothing but its outputs and the
-- heads of its procedures: so the rules and limits of C are said of it by itself.
use Rattle.std.specs.Prelude.{ℕ, ◌<◌, ◌≤◌, List, [], ◌∷◌, ◌++◌, map, flat_map, drop, length, replicate}
use Rattle.std.specs.List.{AllByRecursion, enumerate_from}
use Rattle.modules_profile.specs.declared.ChildUse.{ChildUse}
use Rattle.modules_profile.specs.LocalSystem.{LocalSystem}
use Rattle.modules_profile.specs.Systems.{system_name}
use Rattle.c_syntax.specs.declared.CType.TheVariants.{I8}
use Rattle.c_syntax.specs.declared.FieldKind.TheVariants.{Number}
use Rattle.c_syntax.specs.Tree.{FieldTree, StructTree, PureTree, ProcedureTree, ProgramTree, no_stmts}
use Rattle.c_syntax.specs.Lawful.{AreDistinct, pure_names, procedure_names, AreStructs, AreProcedures, chains_of}
use Rattle.c_syntax.specs.Limits.{ProcedureFits}
use Rattle.emit_prelude.specs.Rules.{IsPrelude}
use Rattle.emit_shape.specs.Names.{container, value_name, filler_name}
use Rattle.emit_shape.specs.Heads.{Head, public_heads}
use Rattle.emit_shape.specs.LocalShape.{callable}
use Rattle.emit_shape.specs.Reads.{calls_in}
use Rattle.emit_shape.specs.SystemTree.{SystemTree}
use Rattle.emit_shape.specs.Relocation.{Relocation, behind_children, moved_procedure}

-- a struct without outputs has the one field that nothing uses
abbrev pub or_filler_field : List FieldTree → List FieldTree
or_filler_field [] = record { name = filler_name; kind = Number I8 } ∷ []
or_filler_field (f ∷ fs) = f ∷ fs

-- a child's struct with its outputs alone, so that a field's position is the output's number
abbrev pub bare_struct : ChildUse → StructTree
bare_struct u =
    record {
      name = system_name u.header.row;
      fields =
          or_filler_field
          (map (λ o. record { name = value_name o.0; kind = Number (container o.1) })
          u.header.outputs);
    }

-- a procedure of the k-th child that does nothing
abbrev pub bare_procedure : ℕ → Head → ProcedureTree
bare_procedure k h =
    record { name = h.name; private = h.private; of = k; params = h.params; body = no_stmts }

abbrev pub bare_procedures : LocalSystem → List ProcedureTree
bare_procedures local =
    flat_map (λ e. map (bare_procedure e.0) (public_heads e.1.header))
    (enumerate_from 0 local.children)

-- the system's own procedures are after those of bare children, whose outputs stay
abbrev pub behind_bare : LocalSystem → SystemTree → Relocation
behind_bare local code =
    behind_children (length code.procedures) (length (bare_procedures local)) (λ f o. o)
    (length local.children)

-- the system's code among bare children
abbrev pub alone : LocalSystem → SystemTree → List PureTree → ProgramTree
alone local code pures = record {
  pures = pures;
  structs = map bare_struct local.children ++ code.structure ∷ [];
  procedures =
      bare_procedures local ++ map (moved_procedure (behind_bare local code)) code.procedures;
}

-- a procedure calls those of the system and of its children alone
abbrev pub CallsWithin : LocalSystem → SystemTree → ProcedureTree → Type 0
CallsWithin local code q =
    AllByRecursion (λ c. c.procedure < length (callable local code)) (calls_in q.body)

-- after whatever functions of the prelude, that is lawful and within the limits, but that it has
-- no root
pub record IsLawfulAlone (local : LocalSystem) (code : SystemTree) : Type 0 where
  pub names : (pures : List PureTree) → IsPrelude pures →
      AreDistinct (pure_names pures ++ procedure_names (alone local code pures).procedures)
  pub structs : AreStructs 0 (alone local code []).structs
  pub procedures : (pures : List PureTree) → IsPrelude pures →
      AreProcedures pures (alone local code pures).structs [] (alone local code pures).procedures
  pub calls : AllByRecursion (CallsWithin local code) code.procedures
  pub fits : AllByRecursion ProcedureFits code.procedures

-- no chain of calls on `s` has more than three procedures; a child's counts for none
abbrev pub HasShortChains : LocalSystem → SystemTree → Type 0
HasShortChains local code =
    AllByRecursion (λ n. n ≤ 3)
    (drop (length (bare_procedures local))
    (chains_of (replicate (length (bare_procedures local)) 0)
    (map (moved_procedure (behind_bare local code)) code.procedures)))
