-- Each value is stored, and each procedure of a child is called, by one statement of a system's
-- code.
use Rattle.std.specs.Prelude.{◌≡◌, ℕ, ◌≤◌, not, ◌||◌, if◌then◌else◌, List, filter, flat_map, count_by, bytes_eq}
use Rattle.std.specs.List.{AllByRecursion}
use Rattle.diagram_blocks.specs.Meaning.{has_value}
use Rattle.diagram_blocks.specs.Kinds.{is_reset_outport}
use Rattle.modules_profile.specs.LocalSystem.{LocalSystem}
use Rattle.c_syntax.specs.Tree.{ProcedureTree}
use Rattle.emit_shape.specs.Names.{value_name, start_name, reset_name, update_name}
use Rattle.emit_shape.specs.Heads.{out_heads}
use Rattle.emit_shape.specs.CodeNames.{CodeNames}
use Rattle.emit_shape.specs.Reads.{stores_in, calls_in}

-- the procedures of a system but those that start and reset it
abbrev pub of_ticks : LocalSystem → List ProcedureTree → List ProcedureTree
of_ticks local procedures =
    filter (λ q.
    not (bytes_eq q.name (start_name local.row) || bytes_eq q.name (reset_name local.row)))
    procedures

-- how many statements of these procedures store in the own field of this name
abbrev pub store_sites : CodeNames → List ProcedureTree → List ℕ → ℕ
store_sites n procedures name =
    count_by (λ st. bytes_eq (n.own st.field) name) (flat_map (λ q. stores_in q.body) procedures)

-- how many call the procedure of this name
abbrev pub call_sites : CodeNames → List ProcedureTree → List ℕ → ℕ
call_sites n procedures name =
    count_by (λ c. bytes_eq (n.callee c.procedure).name name)
    (flat_map (λ q. calls_in q.body) procedures)

-- outside start and reset each value is the target of at most one statement, of an Outport whose
-- output is reset while disabled of two, and each function and update of a child is called by
-- exactly one
pub record StatesOnce (n : CodeNames) (local : LocalSystem) (procedures : List ProcedureTree) : Type
    0 where
  pub values : AllByRecursion (λ r. store_sites n (of_ticks local procedures) (value_name r.row)
      ≤ (if is_reset_outport r.kind then 2 else 1)) (filter (λ r. has_value r.kind) local.rows)
  pub functions : AllByRecursion
      (λ u. AllByRecursion (λ h. call_sites n (of_ticks local procedures) h.name ≡ 1)
      (out_heads u.header)) local.children
  pub updates : AllByRecursion
      (λ u. call_sites n (of_ticks local procedures) (update_name u.header.row) ≡ 1) local.children
