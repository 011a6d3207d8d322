use Rattle.std.proofs.Common.{sym, ap, ◌∙◌, ◌<◌, subst, refl, Contains, Option, Some, ℕ}
use Rattle.diagram_meaning.specs.declared.table.Row.{Row}
use Rattle.diagram_meaning.specs.ResolvedTable.{table_of_tree}
use Rattle.diagram_meaning.specs.Rows.{row_at}
use Rattle.modules_profile.specs.Systems.{systems, system_name}
use Rattle.c_interpreter.specs.States.{tree_of}
use Rattle.right_driving.specs.Found.{IsInstanceOf}
use Rattle.tool_system_driver.proofs.SystemRows.{of-systems, owner-in, owner-before, rank}
use Rattle.tool_system_driver.proofs.FoundInstances.{root-found, inner-found}
use Rattle.tool_system_driver.proofs.instance.+instance_of.Goals as goal

pub row-requires : goal.row-requires
row-requires t c =
    let rows = c.args.r.now.tree.table.rows in
    (of-systems rows c.in-Some.e (subst (λ (s : Option ℕ). Contains (systems rows) s) c.in-Some.is c.requires.system)).0

pub instance_of-requires : goal.instance_of-requires
instance_of-requires t c =
    let rows = c.args.r.now.tree.table.rows in
    let e = c.in-Some.e in
    let nested = c.is_resolved.ensures.tree.table.nested in
    let below = (of-systems rows e (subst (λ (s : Option ℕ). Contains (systems rows) s) c.in-Some.is c.requires.system)).0 in
    let owner = sym {A = Option ℕ} (ap (λ (row : Row). row.owner) c.row.ensures.row) in (
      subst (λ n. rank c.row.result.now.owner < n) c.decreases
          (subst (λ (o : Option ℕ). rank o < rank c.args.system) owner
          (subst (λ (s : Option ℕ). rank (row_at rows e).owner < rank s) (sym {A = Option ℕ} c.in-Some.is)
          (owner-before rows nested e below))),
      (c.requires.machine, subst (λ (o : Option ℕ). Contains (systems rows) o) owner (owner-in rows nested e below)),
    )

pub found-requires : goal.found-requires
found-requires t c =
    root-found c.machines_can_be_driven.ensures c.args.machine.now (table_of_tree c.args.r.now) c.requires.machine c.args.system
    c.bytes.result.now c.child.result c.in-None.is (c.bytes.ensures ∙ c.in_ok-name.ensures) c.child.ensures.child

pub found-requires-in-Some : goal.found-requires-in-Some
found-requires-in-Some t c =
    let rows = c.args.r.now.tree.table.rows in
    let has = subst (λ (s : Option ℕ). Contains (systems rows) s) c.in-Some.is c.requires.system in
    let around =
    subst (λ (row : Row). IsInstanceOf (tree_of c.args.machine.now) rows row.owner c.in_ok-around-in-Some.around) c.row.ensures.row
    c.in_ok-around-in-Some.ensures in
    inner-found c.machines_can_be_driven.ensures c.args.machine.now (table_of_tree c.args.r.now) c.requires.machine (Some c.in-Some.e)
    c.in-Some.e c.in_ok-around-in-Some.around c.bytes-in-Some.result.now c.child-in-Some.result refl has around
    (c.bytes-in-Some.ensures ∙ c.in_ok-name.ensures ∙ ap system_name c.in-Some.is) c.child-in-Some.ensures.child
