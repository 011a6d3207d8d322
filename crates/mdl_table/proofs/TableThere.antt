-- A tree that isn't refused has a table.
use Rattle.std.proofs.Common.{◌≡◌, refl, sym, subst, ℕ, nat_le, Bool, true, false, ◌&&◌, cond, true≢false, List, [], ◌∷◌, Option, None, Some, ℤ, pos, negsuc, unsigned_abs, codes}
use Rattle.std.specs.Prelude.{◌==◌, option_and_then, option_map, Result, Ok, Err}
use Rattle.std.specs.List.{AllByRecursion, AllZip}
use Rattle.std.specs.Result.{result_ok}
use Rattle.base_core.specs.Numbers.{AreLowest}
use Rattle.base_numerals.specs.Literals.{Ratio, ratio_of, frac_parts, parts_of}
use Rattle.base_core.specs.declared.Control.{Control}
use Rattle.base_core.specs.declared.Decimal.{Decimal}
use Rattle.base_core.specs.declared.Frac.{Frac}
use Rattle.base_core.specs.declared.NumFault.TheVariants.{Range}
use Rattle.base_core.specs.declared.TimeText.{TimeText}
use Rattle.base_fixed_point.specs.declared.TypeText.{TypeText}
use Rattle.diagram_blocks.specs.declared.Kind.{Kind}
use Rattle.diagram_blocks.specs.declared.Kind.TheVariants as row
use Rattle.diagram_meaning.specs.declared.table.Row.{Row}
use Rattle.diagram_meaning.specs.RowTable.{RowTable}
use Rattle.mdl_tree.specs.Spelling.{Items}
use Rattle.mdl_params.specs.declared.ParamFault.{ParamFault}
use Rattle.mdl_params.specs.Forms.{number_form}
use Rattle.mdl_blocks.specs.Meanings.{TypeSaid, known_type, float_type, TimeSaid, known_time, zero_time}
use Rattle.mdl_blocks.specs.Blocks.{KindText, inport, outport, subsystem, constant, ground, terminator, gain, sum, product, unit_delay, delay, zero_order_hold, switch, relational, logic, convert, rate_transition, enable_port, trigger_port}
use Rattle.mdl_blocks.specs.Rows.{gain_with}
use Rattle.mdl_rows.specs.Models.{Block, Model, kind_of, model_with}
use Rattle.mdl_rows.specs.Interiors.{control_of}
use Rattle.mdl_rows.specs.Wires.{row_wires}
use Rattle.mdl_rows.specs.RowTexts.{IsKind, IsType, IsTime, is_zero, is_float, has_zero_output, has_float_parameter}
use Rattle.mdl_rows.specs.Refusals.{defaults_of}
use Rattle.mdl_rows.specs.Tables.{IsRowOf}
use Rattle.mdl_table.specs.Steps.{first_outside_system, positive_parts, IsStepOf}
use Rattle.mdl_table.specs.Tables.{IsTableBy}
use Rattle.mdl_table.specs.Laws.{TreeHasTable}
use Rattle.mdl_table.proofs.NumberValues.{IsDecimal, number-decimal}
use Rattle.mdl_table.proofs.TypeValues.{type-by}
use Rattle.mdl_table.proofs.TimeValues.{time-by}
use Rattle.mdl_table.proofs.SaidValues.{IsSoundType, IsSoundTime}
use Rattle.mdl_table.proofs.SaidBodies.{IsSoundKind}
use Rattle.mdl_table.proofs.lemmas.RowBlocks.{IsGood, has-model}
use Rattle.mdl_table.proofs.LawfulRows.{faultless}

-- ---- What is said has a value

decimal-there : (r : Ratio) → IsDecimal r → (d : Decimal) × (ratio_of d ≡ r)
decimal-there r is = (record { num = r.num; den = r.den; lowest = is.lowest; num_bound = is.num_bound; den_bound = is.den_bound }, refl)

type-there : (said : TypeSaid) → IsSoundType said → is_float said ≡ false → (t : TypeText) × IsType said t
type-there (known_type meaning) is none = type-by meaning is
type-there float_type is none = absurd (true≢false none)

time-there : (said : TimeSaid) → IsSoundTime said → is_zero said ≡ false → (t : TimeText) × IsTime said t
time-there (known_time meaning) is none = time-by meaning is
time-there zero_time is none = absurd (true≢false none)

kind-there : (text : KindText) (c : Control) (said : TypeSaid) → IsSoundKind text → has_zero_output text ≡ false →
    has_float_parameter said text ≡ false →
    (k : Kind) × IsKind text c k
kind-there (inport port) c said s zero float = (row.Inport port, refl)
kind-there (outport port reset initial) c said s zero float =
    let d = decimal-there initial s in (row.Outport port reset d.0, (d.0, d.1, refl))
kind-there (subsystem system) c said s zero float = (row.SubSystem c, refl)
kind-there (constant own) c said s zero float = let d = decimal-there own.value s.0 in (row.Constant d.0, (d.0, d.1, refl))
kind-there ground c said s zero float = (row.Ground, refl)
kind-there terminator c said s zero float = (row.Terminator, refl)
kind-there (gain factor factor_type how) c said s zero float =
    let d = decimal-there factor s.0.0 in
    let t = type-there factor_type s.1 float in
    (row.Gain (gain_with d.0 t.0) how, (d.0, t.0, d.1, t.1, refl))
kind-there (sum count minus how) c said s zero float = (row.Sum count minus how, refl)
kind-there (product count how) c said s zero float = (row.Product count how, refl)
kind-there (unit_delay initial) c said s zero float = let d = decimal-there initial s in (row.UnitDelay d.0, (d.0, d.1, refl))
kind-there (delay length initial) c said s zero float = let d = decimal-there initial s.1 in (row.Delay length d.0, (d.0, d.1, refl))
kind-there zero_order_hold c said s zero float = (row.ZeroOrderHold, refl)
kind-there (switch criterion threshold how) c said s zero float =
    let d = decimal-there threshold s in (row.Switch criterion d.0 how, (d.0, d.1, refl))
kind-there (relational comparison) c said s zero float = (row.Relational comparison, refl)
kind-there (logic op count) c said s zero float = (row.Logic op count, refl)
kind-there (convert how) c said s zero float = (row.Convert how, refl)
kind-there (rate_transition initial out) c said s zero float =
    let d = decimal-there initial s.0 in
    let t = time-there out s.1.0 zero in
    (row.RateTransition d.0 t.0, (d.0, t.0, d.1, t.1, refl))
kind-there (enable_port reset) c said s zero float = (row.EnablePort, refl)
kind-there (trigger_port edge) c said s zero float = (row.TriggerPort, refl)

-- ---- The rows

row-there : (m : Model) (b : Block) → IsGood b → (row : Row) × IsRowOf m b row
row-there m b good =
    let sound = good.sound in
    let none = faultless b.text.body good.no_fault in
    let k = kind-there (kind_of b) (control_of m.blocks b.number) b.text.body.type_text sound.kind none.output none.parameter in
    let type = type-there b.text.body.type_text sound.type none.type in
    let time = time-there b.text.body.time_text sound.time none.time in (
      record {
        place = record { row = b.number; line = b.text.line };
        owner = b.owner;
        kind = k.0;
        inputs = row_wires m b;
        type_text = type.0;
        time_text = time.0;
      },
      record { place = refl; owner = refl; kind = k.1; inputs = refl; type_text = type.1; time_text = time.1 },
    )

rows-there : (m : Model) (blocks : List Block) → AllByRecursion IsGood blocks → (rows : List Row) × AllZip (IsRowOf m) blocks rows
rows-there m [] good = ([], tt)
rows-there m (b ∷ blocks) good =
    let row = row-there m b good.0 in
    let rest = rows-there m blocks good.1 in
    (row.0 ∷ rest.0, (row.1, rest.1))

-- ---- The step

fraction-there : (num : ℤ) (den : ℕ) → AreLowest (unsigned_abs num) den →
    (step : Option Frac) ×
    (option_map parts_of step ≡ option_and_then (λ (parts : ℕ × ℕ). cond (parts.0 == 0) None (Some parts)) (result_ok (frac_parts num den)))
fraction-there (negsuc n) den is = (None, refl)
fraction-there (pos n) den is = by (nat_le n 1_000_000_000 && nat_le den 1_000_000_000)
  where
    positive : (t : Bool) → (step : Option Frac) × (option_map parts_of step ≡ cond t None (Some (n, den)))
    positive true = (None, refl)
    positive false = (Some (record { num = n; den = den; lowest = is }), refl)

    by : (t : Bool) → (step : Option Frac) ×
        (option_map parts_of step ≡ option_and_then (λ (parts : ℕ × ℕ). cond (parts.0 == 0) None (Some parts))
        (result_ok (cond t (Ok (n, den)) (Err Range))))
    by true = positive (n == 0)
    by false = (None, refl)

step-there : (items : Items) → (step : Option Frac) × IsStepOf items step
step-there items = by_text (first_outside_system (codes "FixedStep") items)
  where
    by_number : (text : List ℕ) (r : Result Ratio ParamFault) → number_form text ≡ r →
        (step : Option Frac) × (option_map parts_of step ≡ option_and_then positive_parts (result_ok r))
    by_number text (Ok r) e = fraction-there r.num r.den (number-decimal text r e).lowest
    by_number text (Err fault) e = (None, refl)

    by_text : (o : Option (List ℕ)) → (step : Option Frac) ×
        (option_map parts_of step ≡ option_and_then positive_parts (option_and_then (λ text. result_ok (number_form text)) o))
    by_text None = (None, refl)
    by_text (Some text) = by_number text (number_form text) refl

-- a tree that isn't refused has a table
pub tree_has_table : TreeHasTable
tree_has_table file e =
    let own = has-model file e in
    let m = model_with (defaults_of own.model) own.model.system in
    let rows = rows-there m m.blocks own.good in
    let step = step-there own.model.section.items in
    let table : RowTable = record { rows = rows.0; fixed_step = step.0 } in
    (table, subst (λ r. IsTableBy r table) (sym own.is) (record { rows = rows.1; fixed_step = step.1 }))
