-- What a machine answers for the instance of a system is there.
use Rattle.std.specs.Prelude.{◌≡◌, ℕ, List, Contains, Option, Some, None}
use Rattle.std.proofs.Common.{sym, ap, ◌∙◌, subst}
use Rattle.diagram_meaning.specs.ResolvedTable.{ResolvedTable}
use Rattle.diagram_meaning.specs.Rows.{row_at}
use Rattle.modules_profile.specs.Systems.{systems, system_name}
use Rattle.c_interpreter.specs.States.{MachineState, tree_of}
use Rattle.right_driving.specs.DrivenMachines.{MachinesCanBeDriven}
use Rattle.right_driving.specs.Found.{IsChildAnswer, IsFound, IsInstanceOf}
use Rattle.tool_system_driver.specs.Driving.{IsMachineOf}
use Rattle.tool_system_driver.proofs.SystemRows.{of-systems}

module _ (laws : MachinesCanBeDriven) (m : MachineState) (r : ResolvedTable) (of : IsMachineOf m r) (s : Option ℕ) where
  pub root-found : (field : List ℕ) (child : Option ℕ) → s ≡ None → field ≡ system_name s → IsChildAnswer (tree_of m) 0 field child →
      IsFound (tree_of m) r.table.rows s child
  root-found field child root named answer =
      subst (λ (o : Option ℕ). IsFound (tree_of m) r.table.rows o child) (sym root)
      (laws.top m of.bytes r child of.of_right
      (subst (λ (name : List ℕ). IsChildAnswer (tree_of m) 0 name child) (named ∙ ap system_name root) answer))

  pub inner-found : (e number : ℕ) (field : List ℕ) (child : Option ℕ) → s ≡ Some e → Contains (systems r.table.rows) s →
      IsInstanceOf (tree_of m) r.table.rows (row_at r.table.rows e).owner number → field ≡ system_name s →
      IsChildAnswer (tree_of m) number field child → IsFound (tree_of m) r.table.rows s child
  inner-found e number field child inner has around named answer =
      let row = of-systems r.table.rows e (subst (λ (o : Option ℕ). Contains (systems r.table.rows) o) inner has) in
      subst (λ (o : Option ℕ). IsFound (tree_of m) r.table.rows o child) (sym inner)
      (laws.inside m of.bytes r e number child of.of_right row.0 row.1 around
      (subst (λ (name : List ℕ). IsChildAnswer (tree_of m) number name child) (named ∙ ap system_name inner) answer))
