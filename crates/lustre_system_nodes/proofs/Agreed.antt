-- What a nested system has from its table, and what its node is made from.
use Rattle.std.proofs.Common.{◌≡◌, ℕ, true, false, List, ◌++◌, map, length, Option, None, Some, sym, ap, ap₂, ◌∙◌}
use Rattle.std.specs.List.{range_with_len}
use Rattle.base_core.specs.declared.Control.{Control}
use Rattle.base_core.specs.declared.Port.TheVariants.{Number}
use Rattle.base_core.specs.Ports.{control_ports}
use Rattle.diagram_meaning.specs.declared.table.Row.{Row}
use Rattle.diagram_meaning.specs.Nested.{System, system, row_of, HasPlace, Agrees}
use Rattle.diagram_meaning.specs.Rows.{rows_of, system_control, inports_of, outports_of}
use Rattle.modules_profile.specs.Systems.{own_of, control_of_system}
use Rattle.lustre_expressions.specs.PortKinds.{ports_among, ordered}
use Rattle.lustre_system_nodes.specs.declared.parts.Parts.{Parts}
use Rattle.lustre_system_nodes.specs.OwnRows.{own_row}
use Rattle.lustre_system_nodes.specs.Parts.{ArePartsOf}

pub agreed-own : (rows : List Row) (s : System) → Agrees rows s → own_of s ≡ rows_of rows (row_of s)
agreed-own rows (system row line control own children) agrees = agrees.1

agreed-control : (rows : List Row) (s : System) → Agrees rows s → control_of_system s ≡ system_control rows (row_of s)
agreed-control rows (system row line control own children) agrees = by row agrees.0
  where
    by : (row : Option ℕ) → HasPlace rows row line control → control ≡ system_control rows row
    by None place = place
    by (Some e) place = place.1

-- the ports among the own rows of a system are its Inports and its Outports
module _ (rows : List Row) (s : Option ℕ) (own : List ℕ) (is : own ≡ rows_of rows s) where
  inports-are : ordered rows (ports_among rows own false) ≡ inports_of rows s
  inports-are = ap (λ own. ordered rows (ports_among rows own false)) is

  outports-are : ordered rows (ports_among rows own true) ≡ outports_of rows s
  outports-are = ap (λ own. ordered rows (ports_among rows own true)) is

-- the parts that are made for a system
module _ (table : List Row) (s : System) (agrees : Agrees table s) (parts : Parts) (row : parts.row ≡ row_of s) where
  own-rows : (own : List ℕ) → own ≡ own_of s → own ≡ rows_of table parts.row
  own-rows own are = are ∙ agreed-own table s agrees ∙ ap (rows_of table) (sym row)

  pub parts-are : (rows : List Row) (own again inports : List ℕ) (count : ℕ) → rows ≡ table → own ≡ own_of s → again ≡ own_of s →
      parts.control ≡ control_of_system s → inports ≡ ordered rows (ports_among rows own false) → count ≡ length inports →
      parts.ports.items ≡ map Number (range_with_len 1 count) ++ control_ports parts.control →
      parts.outputs ≡ ordered rows (ports_among rows again true) →
      parts.own.items ≡ map (own_row table) (rows_of table (row_of s)) → ArePartsOf table parts
  parts-are rows own again inports count same are too controlled into counted ports outs list =
      let control : parts.control ≡ system_control table parts.row =
      controlled ∙ agreed-control table s agrees ∙ ap (system_control table) (sym row) in
      let all : inports ≡ inports_of table parts.row =
      into ∙ ap (λ rows. ordered rows (ports_among rows own false)) same
      ∙ inports-are table parts.row own (own-rows own are) in
      record {
        control = control;
        ports = ports ∙ ap₂ (λ (n : ℕ) (c : Control). map Number (range_with_len 1 n) ++ control_ports c)
            (counted ∙ ap length all) control;
        outputs = outs ∙ ap (λ rows. ordered rows (ports_among rows again true)) same
            ∙ outports-are table parts.row again (own-rows again too);
        own = list ∙ ap (λ o. map (own_row table) (rows_of table o)) (sym row);
      }
