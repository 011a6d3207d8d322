-- Each call in the code of a row gives a number.
use Rattle.std.proofs.Common.{◌≡◌, refl, subst, sym, ℕ, zero, suc, ◌+◌, ◌≤◌, Bool, true, false, if◌then◌else◌, List, [], ◌∷◌, take, sum, map, ℤ, pos, unsigned_abs, arith}
use Rattle.std.specs.Option.{option_and_then}
use Rattle.base_fixed_point.specs.declared.FixType.{FixType}
use Rattle.base_fixed_point.specs.Conversion.{quantize}
use Rattle.base_fixed_point.specs.Rounding.{RoundingIsOne}
use Rattle.diagram_blocks.specs.declared.How.{How}
use Rattle.diagram_blocks.specs.declared.Kind.{Kind}
use Rattle.diagram_blocks.specs.declared.Kind.TheVariants as kind
use Rattle.diagram_blocks.specs.declared.Op.{Op}
use Rattle.diagram_blocks.specs.Evaluation.{ReadsInTypes, IsEvaluable}
use Rattle.diagram_blocks.specs.Laws.{ConversionFits, NarrowRowsFit}
use Rattle.diagram_blocks.specs.Limits.{HasInputTypes}
use Rattle.diagram_blocks.specs.Meaning.{op_of, sum_fracs}
use Rattle.diagram_blocks.specs.Value.{input, greatest_in, conversion}
use Rattle.diagram_blocks.specs.Width.{gain_of, input_type, wide_bits}
use Rattle.c_syntax.specs.declared.BinOp.TheVariants.{Mul}
use Rattle.c_syntax.specs.declared.Leaf.{Leaf}
use Rattle.c_syntax.specs.Tree.{ExprTree, CondTree, binary}
use Rattle.c_semantics.specs.Values.{Reads, gives, eval}
use Rattle.c_semantics.specs.EvaluationLaws.{Gives}
use Rattle.c_semantics.proofs.lemmas.WithoutSteps.{gives_literal, gives_read}
use Rattle.emit_prelude.specs.Bodies.{function_trees}
use Rattle.emit_prelude.specs.Rules.{WholeNumbersStay}
use Rattle.emit_prelude.proofs.lemmas.PreludeLaws.{prelude_is}
use Rattle.emit_row_code.specs.Computed.{conversion_returns}
use Rattle.emit_row_code.specs.KnownTypes.{IsOfType, AreTypesOf}
use Rattle.emit_row_code.specs.Ranges.{just, input_range, gain_range, sum_range, product_range, surely_holds}
use Rattle.emit_row_code.specs.RowCode.{written, rounded_code, cast, sum_code, product_code, passes_code, passes_all, input_code, converted_input, rhs_code}
use Rattle.emit_row_code.proofs.lemmas.Conversions.{converted_gives}
use Rattle.emit_row_code.proofs.lemmas.RangeLaws.{input_in}
use Rattle.lustre_functions.proofs.lemmas.RoundingPlaces.{place-of_rounding}
use Rattle.lustre_rows.specs.NamesOfTick.{c_functions}
use Rattle.lustre_rows.proofs.lemmas.CodeWalks.{IsKept, AreKept, ConversionsKeep, written-kept, input-kept, aligned-kept, sum-kept, product-kept, logic-kept, passes-kept, converted-kept, either-kept}
use Rattle.lustre_rows.proofs.Calls.{NoChoice, CallsGive, TestCallsGive, calls-give}

-- ---- Codes without a choice

plain : ConversionsKeep NoChoice
plain = record {
  kept = record {
    number = λ v. tt;
    leaf = λ l. tt;
    minus = λ e p. p;
    joined = λ o a b p q. (p, q);
  };
  rounded = λ how e unit p q. ((p, (q, tt)), place-of_rounding how.round);
  clamped = λ e least greatest p q r. ((p, (q, (r, tt))), (omega arith, refl));
  wrapped = λ e least size p q r. ((p, (q, (r, tt))), (omega arith, refl));
}

converted-plain : (held : Bool) (e : ExprTree) (f : ℕ) (to : FixType) (how : How) → NoChoice e →
    NoChoice (if held then rounded_code e f to.frac how else cast how.over to (rounded_code e f to.frac how))
converted-plain = converted-kept NoChoice plain

-- ---- Codes with one

module _ (reads : Reads) where
  abbrev Give : ExprTree → Type 0
  Give = CallsGive reads

  abbrev TestGives : CondTree → Type 0
  TestGives = TestCallsGive reads

  gives_kept : IsKept Give
  gives_kept = record {
    number = λ v. tt;
    leaf = λ l. tt;
    minus = λ e p. p;
    joined = λ o a b p q. (p, q);
  }

  tests_kept : AreKept TestGives
  tests_kept = record {
    truth = λ l. (tt, tt);
    all_of_none = (tt, tt);
    some_of_none = (tt, tt);
    conjunction = λ a b p q. (p, q);
    disjunction = λ a b p q. (p, q);
    difference = λ a b p q. ((p, tt, tt), (q, tt, tt));
    negation = λ a p. p;
  }

  input-comes : (leaves : List Leaf) (i : ℕ) → Gives c_functions reads 0 (input_code leaves i) (input (map reads.leaf leaves) i)
  input-comes [] i = gives_literal c_functions reads 0 (pos 0)
  input-comes (l ∷ leaves) zero = gives_read c_functions reads 0 l
  input-comes (l ∷ leaves) (suc i) = input-comes leaves i

  -- ---- Rows

  module _ (stay : WholeNumbersStay) (one : RoundingIsOne) (narrow_fit : NarrowRowsFit) (leaves : List Leaf) (types : List FixType)
      (memory : ExprTree) (plain_memory : NoChoice memory) where
    abbrev vs : List ℤ
    vs = map reads.leaf leaves

    abbrev code : Op → ExprTree
    code o = rhs_code o leaves types memory

    -- the code gives some number
    abbrev Comes : Op → Type 0
    Comes o = (end : ℕ) × (v : ℤ) × (eval c_functions reads 0 (code o) 0 ≡ gives v end)

    input-gives : (i : ℕ) → Give (input_code leaves i)
    input-gives = input-kept Give gives_kept leaves

    input-plain : (i : ℕ) → NoChoice (input_code leaves i)
    input-plain = input-kept NoChoice plain.kept leaves

    at-once : (o : Op) → NoChoice (code o) → Comes o → Give (code o)
    at-once o plain (end, v, is) = calls-give reads (code o) plain 0 end v is

    converted-gives : (i f : ℕ) (to : FixType) (how : How) → IsOfType types vs i → ConversionFits (unsigned_abs (input vs i)) f to →
        Give (converted_input leaves types i f to how)
    converted-gives i f to how of_type fits =
        let v = input vs i in
        let range = input_range types i in
        calls-give reads (converted_input leaves types i f to how)
        (converted-plain (surely_holds to f range) (input_code leaves i) f to how (input-plain i)) 0
        (0 + conversion_returns f range to)
        (conversion v f to how)
        (converted_gives function_trees prelude_is stay one reads 0 (input_code leaves i) v f range to how (input-comes leaves i) fits
        (input_in types vs i of_type) 0 (omega arith))

    by-kind : (k : Kind) (ts : List FixType) (out : FixType) (delays : Bool) → HasInputTypes k ts → wide_bits k ts out ≤ 62 →
        ReadsInTypes k ts vs → AreTypesOf (op_of k ts out delays) types vs → Comes (op_of k ts out delays) →
        Give (code (op_of k ts out delays))
    by-kind (kind.Inport port) ts out delays has narrow reads_in typed comes = input-gives 0
    by-kind (kind.Outport port reset initial) ts out delays has narrow reads_in typed comes = input-gives 0
    by-kind (kind.SubSystem control) ts out delays has narrow reads_in typed comes = tt
    by-kind (kind.Constant value) ts out delays has narrow reads_in typed comes = written-kept Give gives_kept (quantize value out)
    by-kind kind.Ground ts out delays has narrow reads_in typed comes = tt
    by-kind kind.Terminator ts out delays has narrow reads_in typed comes = tt
    by-kind (kind.Gain gain how) ts out delays has narrow reads_in typed comes =
        let g = gain_of gain in
        let f = (input_type ts 0).frac + g.1 in
        at-once (op_of (kind.Gain gain how) ts out delays)
        (converted-plain (surely_holds out f (gain_range g.0 types)) (binary Mul (input_code leaves 0) (written g.0)) f out how
        (input-plain 0, written-kept NoChoice plain.kept g.0)) comes
    by-kind (kind.Sum count minus how) ts out delays has narrow reads_in typed comes =
        let fs = take count (sum_fracs ts) in
        let f = greatest_in fs in
        at-once (op_of (kind.Sum count minus how) ts out delays)
        (converted-plain (surely_holds out f (sum_range minus f 0 fs types (just (pos 0)))) (sum_code minus f fs leaves) f out how
        (sum-kept NoChoice plain.kept minus f fs leaves)) comes
    by-kind (kind.Product count how) ts out delays has narrow reads_in typed comes =
        let f = sum (map (λ (t : FixType). t.frac) ts) in
        at-once (op_of (kind.Product count how) ts out delays)
        (converted-plain (surely_holds out f (product_range count types)) (product_code leaves) f out how
        (product-kept NoChoice plain.kept leaves)) comes
    by-kind (kind.UnitDelay initial) ts out delays has narrow reads_in typed comes =
        at-once (op_of (kind.UnitDelay initial) ts out delays) plain_memory comes
    by-kind (kind.Delay samples initial) ts out delays has narrow reads_in typed comes =
        at-once (op_of (kind.Delay samples initial) ts out delays) plain_memory comes
    by-kind kind.ZeroOrderHold ts out delays has narrow reads_in typed comes = input-gives 0
    by-kind (kind.Switch criterion threshold how) ts out delays has narrow reads_in typed comes =
        let level = quantize threshold (input_type ts 1) in
        let f = (input_type ts 0).frac in
        let g = (input_type ts 2).frac in
        let fits = narrow_fit (kind.Switch criterion threshold how) ts out delays vs has reads_in narrow in
        either-kept Give TestGives (λ test a b t p q. (t, p, q)) (option_and_then (passes_all criterion level) (input_range types 1))
        (passes_code criterion (input_code leaves 1) level) (converted_input leaves types 0 f out how)
        (converted_input leaves types 2 g out how)
        (passes-kept Give TestGives gives_kept (λ c a b p q. (p, q)) leaves criterion level)
        (converted-gives 0 f out how (typed 0) fits.0) (converted-gives 2 g out how (typed 2) fits.1)
    by-kind (kind.Relational how) ts out delays has narrow reads_in typed comes =
        let f = (input_type ts 0).frac in
        let g = (input_type ts 1).frac in
        let F = greatest_in (f ∷ g ∷ []) in (
          (
            aligned-kept Give gives_kept (input_code leaves 0) f F (input-gives 0),
            aligned-kept Give gives_kept (input_code leaves 1) g F (input-gives 1),
          ),
          tt,
          tt,
        )
    by-kind (kind.Logic o count) ts out delays has narrow reads_in typed comes = (logic-kept TestGives tests_kept leaves o, tt, tt)
    by-kind (kind.Convert how) ts out delays has narrow reads_in typed comes =
        let f = (input_type ts 0).frac in
        at-once (op_of (kind.Convert how) ts out delays)
        (converted-plain (surely_holds out f (input_range types 0)) (input_code leaves 0) f out how (input-plain 0)) comes
    by-kind (kind.RateTransition initial time) ts out true has narrow reads_in typed comes =
        at-once (op_of (kind.RateTransition initial time) ts out true) plain_memory comes
    by-kind (kind.RateTransition initial time) ts out false has narrow reads_in typed comes = input-gives 0
    by-kind kind.EnablePort ts out delays has narrow reads_in typed comes = tt
    by-kind kind.TriggerPort ts out delays has narrow reads_in typed comes = tt

    pub row-calls-give : (o : Op) (m : ℤ) → IsEvaluable o vs m → AreTypesOf o types vs → Comes o → Give (code o)
    row-calls-give o m h typed comes =
        subst (λ o. Give (code o)) (sym h.is_op)
        (by-kind h.kind h.types h.out h.delays h.has_types h.narrow h.reads (subst (λ o. AreTypesOf o types vs) h.is_op typed)
        (subst Comes h.is_op comes))
