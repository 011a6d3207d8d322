-- What holds of each system of a resolved model by its own rows, on which the fields of its
-- instances rest.
use Rattle.std.specs.Prelude.{◌≡◌, ℕ, ◌^◌, ◌<◌, ◌≤◌, length, Contains, IsTrue, Option, None}
use Rattle.base_fixed_point.specs.declared.FixType.{FixType}
use Rattle.diagram_blocks.specs.Meaning.{delay_length}
use Rattle.diagram_meaning.specs.ResolvedTree.{ResolvedTree, IsResolvedTree}
use Rattle.modules_profile.specs.declared.ChildUse.{ChildUse}
use Rattle.modules_profile.specs.declared.LocalRow.{LocalRow}
use Rattle.modules_profile.specs.LocalSystem.{LocalSystem}
use Rattle.modules_profile.specs.LawfulLocals.{IsLocal}
use Rattle.base_core.specs.Ports.{has_bit}
use Rattle.modules_profile.specs.Headers.{header_functions, header_function}
use Rattle.modules_profile.specs.Locals.{row_of, outports, entering}
use Rattle.modules_profile.specs.NodeFacts.{IsLocalOf}

-- A lawful system. A delay has at most 65,535 samples; an output of a child is no own row, and a
-- function of the child gives it; and nothing inside reads an own output.
pub record IsSoundLocal (local : LocalSystem) : Type 0 where
  pub lawful : IsLocal local
  pub lengths : (r : LocalRow) → Contains local.rows r → delay_length r.op < 2 ^ 16
  pub not_own : (u : ChildUse) (o : ℕ × FixType) → Contains local.children u →
      Contains u.header.outputs o → row_of local o.0 ≡ None
  pub given : (u : ChildUse) (k : ℕ) → Contains local.children u → k < length u.header.outputs →
      (j : ℕ) × (0 < j) × (j ≤ length (header_functions u.header))
      × IsTrue (has_bit (header_function u.header j).outputs k)
  pub no_row_reads : (o r : LocalRow) → Contains (outports local) o → Contains local.rows r →
      Contains r.inputs o.row → ⊥
  pub no_child_reads : (o : LocalRow) (u : ChildUse) → Contains (outports local) o →
      Contains local.children u →
      Contains (entering u) o.row → ⊥

-- a system of a resolved model is sound by its own rows
abbrev pub LocalsAreSound : Type 0
LocalsAreSound = (r : ResolvedTree) (s : Option ℕ) (local : LocalSystem) → IsResolvedTree r →
    IsLocalOf r s local → IsSoundLocal local
