-- A call that isn't refused is one that the machine can make.
use Rattle.std.specs.Prelude.{◌≡◌, ℕ, ◌<◌, ◌^◌, Bool, true, false, List, [], ◌∷◌, zip, length, slice_get, None, unwrap_or, ℤ, pos, int_le, ◌≤ℤ◌, refl}
use Rattle.std.specs.List.{AllZip}
use Rattle.std.proofs.Common.{sym, ap, subst, ◌∙◌, arith}
use Rattle.std.proofs.lemmas.Bool.{and_from, and_parts}
use Rattle.std.proofs.lemmas.Int.{ints}
use Rattle.base_fixed_point.specs.Conversion.{InType, least_of, greatest_of}
use Rattle.c_syntax.specs.declared.CType.TheVariants.{I32}
use Rattle.c_syntax.specs.Tree.{ParamTree}
use Rattle.c_semantics.specs.Values.{is_in_type}
use Rattle.c_semantics.specs.Values as machine
use Rattle.emit_shape.specs.Programs.{procedure_place}
use Rattle.c_interpreter.specs.Machines.{IsCallable}
use Rattle.c_interpreter.specs.States.{MachineState, tree_of}
use Rattle.tool_driver.specs.declared.inputs.Input.{Input}
use Rattle.tool_driver.specs.declared.fault.DriveFault.TheVariants.{Value}
use Rattle.tool_driver.specs.Shapes.{Shape}
use Rattle.tool_driver.specs.Drivable.{IsWide, HasProcedure, IsDrivable}
use Rattle.tool_driver.specs.Judging.{first_fault, value_fault, is_of_type}
use Rattle.tool_driver.proofs.Ticks.{no-first, no-second, fault-unless}

int-le : (a b : ℤ) → a ≤ℤ b → int_le a b ≡ true
int-le a b h = by (int_le a b) refl
  where
    by : (t : Bool) → int_le a b ≡ t → t ≡ true
    by true e = refl
    by false e = absurd (omega (arith, ints, h, e))

int-le-true : (a b : ℤ) → int_le a b ≡ true → a ≤ℤ b
int-le-true a b h = omega (arith, ints, h)

-- the number of a tick is an int32_t
tick-fits : (now : ℕ) → now < 2 ^ 30 → is_in_type I32 (pos now) ≡ true
tick-fits now few =
    and_from _ _ (int-le (machine.least_of I32) (pos now) (omega (arith, ints)))
    (int-le (pos now) (machine.greatest_of I32) (omega (arith, ints, few)))

-- values that aren't refused are in their types
pub typed-all : (ins : List Input) (vs : List ℤ) → length vs ≡ length ins →
    first_fault value_fault (zip ins vs) ≡ None → AllZip (λ (i : Input) v. InType i.of v) ins vs
typed-all [] [] same none = tt
typed-all [] (v ∷ vs) same none = absurd (omega (arith, same))
typed-all (i ∷ ins) [] same none = absurd (omega (arith, same))
typed-all (i ∷ ins) (v ∷ vs) same none =
    let here = no-first (value_fault (i, v)) (first_fault value_fault (zip ins vs)) none in
    let rest = no-second (value_fault (i, v)) (first_fault value_fault (zip ins vs)) none in
    let within =
    and_parts (int_le (least_of i.of) v) (int_le v (greatest_of i.of))
    (fault-unless (is_of_type i.of v) (Value i.port) here) in
    ((int-le-true (least_of i.of) v within.0, int-le-true v (greatest_of i.of) within.1), typed-all ins vs (omega (arith, same)) rest)

-- so they fit parameters that are wide enough
pub fit-all : (ins : List Input) (qs : List ParamTree) (vs : List ℤ) → AllZip (λ (i : Input) (q : ParamTree). IsWide q.type i.of) ins qs →
    AllZip (λ (i : Input) v. InType i.of v) ins vs → AllZip (λ (q : ParamTree) v. is_in_type q.type v ≡ true) qs vs
fit-all [] [] [] wide typed = tt
fit-all [] [] (v ∷ vs) wide typed = absurd typed
fit-all [] (q ∷ qs) vs wide typed = absurd wide
fit-all (i ∷ ins) [] vs wide typed = absurd wide
fit-all (i ∷ ins) (q ∷ qs) [] wide typed = absurd typed
fit-all (i ∷ ins) (q ∷ qs) (v ∷ vs) wide typed = (wide.0 v typed.0, fit-all ins qs vs wide.1 typed.1)

-- of a drivable instance: a procedure with these inputs
pub callable_with : (m : MachineState) (instance : ℕ) (s : Shape) (name : List ℕ) (ins : List Input) (now : ℕ)
    (vs : List ℤ) (d : IsDrivable (tree_of m) instance s) →
    HasProcedure (tree_of m) d.instance_is.struct name ins → now < s.hyper → length vs ≡ length ins →
    first_fault value_fault (zip ins vs) ≡ None →
    IsCallable m (procedure_place (tree_of m) name) instance (pos now ∷ vs)
callable_with m instance s name ins now vs d has cycle same none = record {
  instance_is = d.instance_is;
  instance_there = d.there;
  procedure_is = has.procedure;
  procedure_there = ap (λ o. slice_get (tree_of m).procedures (unwrap_or o 0)) has.named ∙ has.there;
  of_is = has.of_is;
  fit = subst (λ qs. AllZip (λ (q : ParamTree) v. is_in_type q.type v ≡ true) qs (pos now ∷ vs)) (sym has.params_are) (
    subst (λ t. is_in_type t (pos now) ≡ true) (sym has.tick_type)
        (tick-fits now (omega (arith, cycle, d.shape.few_ticks))),
    fit-all ins has.others vs has.wide (typed-all ins vs same none),
  );
}
