-- The equations for the value of a row hold.
use Rattle.std.proofs.Common.{sym, subst, List, [], ◌∷◌, map, ℤ}
use Rattle.base_fixed_point.specs.Rounding.{RoundingIsOne}
use Rattle.diagram_blocks.specs.Evaluation.{IsEvaluable}
use Rattle.diagram_blocks.specs.Laws.{NarrowRowsFit}
use Rattle.diagram_meaning.specs.Rows.{row_at}
use Rattle.diagram_meaning.specs.Diagram.{type_at, op_at}
use Rattle.diagram_meaning.specs.Run.{first_of}
use Rattle.diagram_meaning.specs.SystemRuns.{own_inputs}
use Rattle.c_syntax.specs.declared.Leaf.TheVariants.{Child}
use Rattle.c_syntax.specs.Tree.{read}
use Rattle.emit_prelude.specs.Rules.{WholeNumbersStay}
use Rattle.emit_row_code.specs.KnownTypes.{AreTypesOf}
use Rattle.emit_row_code.specs.Laws.{RowsAreComputed}
use Rattle.diagram_blocks.specs.Value.{rhs}
use Rattle.emit_shape.specs.Names.{value_name}
use Rattle.lustre_syntax.specs.Tree.{set}
use Rattle.lustre_system.specs.FromC.{calls_of}
use Rattle.lustre_system.specs.Functions.{function_name}
use Rattle.lustre_system.specs.Names.{part_name, leaf_name, leaves_of}
use Rattle.lustre_system.specs.RowEquations.{row_code, row_value}
use Rattle.lustre_functions.specs.FunctionLaws.{NodesGiveTheSame}
use Rattle.lustre_rows.specs.NamesOfTick.{tick_reads}
use Rattle.lustre_rows.specs.EquationLaws.{GivesItsName, ValueEquationsHold}
use Rattle.lustre_rows.proofs.lemmas.Lists.{all-after}
use Rattle.lustre_rows.proofs.Calls.{CallsGive, calls-given}
use Rattle.lustre_rows.proofs.RowCalls.{row-calls-give}
use Rattle.lustre_rows.proofs.Values.{own-leaves, code_end, code-comes, names-given, value-given}

pub value_equations_hold : RowsAreComputed → NodesGiveTheSame → WholeNumbersStay → RoundingIsOne → NarrowRowsFit → ValueEquationsHold
value_equations_hold law same stay one narrow_fit d hyper s m before values place b tick system row computed =
    let o = op_at d b in
    let leaves = leaves_of d.rows s b in
    let types = map (type_at d.types) (row_at d.rows b).inputs in
    let memory = first_of (m.memory b) in
    let reads_own = own-leaves d s m b row.row in
    let give : CallsGive (tick_reads m) (row_code d s b) =
    row-calls-give (tick_reads m) stay one narrow_fit leaves types (read (Child b 0)) tt o memory
    (subst (λ (vs : List ℤ). IsEvaluable o vs memory) (sym reads_own) computed.evaluable)
    (subst (λ (vs : List ℤ). AreTypesOf o types vs) (sym reads_own) computed.typed)
    (code_end law d s m b row.row computed, rhs o (own_inputs d s m b) memory, code-comes law d s m b row.row computed) in
    all-after (GivesItsName before values place) (calls_of (leaf_name d.rows s) function_name (part_name b) (row_code d s b))
    (set 0 (value_name b) (row_value d s b) ∷ [])
    (calls-given same (tick_reads m) before values (leaf_name d.rows s) (part_name b) place 0 (row_code d s b)
    (names-given d hyper s m before values place b tick row.row computed) give) (
      (
        m.value b,
        tick.names.rows b row.row computed.valued,
        value-given law d hyper s m before values place b tick system row computed,
      ),
      tt,
    )
