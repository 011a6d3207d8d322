-- A driver that stands for a script: what its state says of the script, and what the machine's call is in right code.
use Rattle.std.specs.Prelude.{◌≡◌, ℕ, Bool, true, false, cond, ◌%◌, List, [], ◌∷◌, ◌++◌, map, filter, zip, length, slice_get, slice_index_or, Option, Some, None, option_and_then, unwrap_or, ℤ, pos, refl}
use Rattle.std.specs.List.{AllByRecursion, AllZip}
use Rattle.std.proofs.Common.{sym, ap, subst, ◌∙◌, arith}
use Rattle.base_core.specs.declared.Port.{Port}
use Rattle.base_fixed_point.specs.declared.FixType.{FixType}
use Rattle.base_fixed_point.specs.Conversion.{InType}
use Rattle.diagram_meaning.specs.Rows.{outports_of}
use Rattle.diagram_meaning.specs.Inputs.{input_ports}
use Rattle.diagram_meaning.specs.Laws.{Run}
use Rattle.diagram_meaning.specs.Run.{value_at}
use Rattle.diagram_meaning.specs.Traces.{input_type_of}
use Rattle.modules_profile.specs.declared.Function.{Function}
use Rattle.base_core.specs.Ports.{has_bit, bit_of, ports_in}
use Rattle.modules_profile.specs.Headers.{numbered_function, given_by_function}
use Rattle.modules_profile.specs.Systems.{systems}
use Rattle.c_syntax.specs.Tree.{ProgramTree, struct_fields}
use Rattle.c_syntax.specs.RootFields.{field_position}
use Rattle.c_semantics.specs.Cells.{Cells, number_at, fields_at, cells_at}
use Rattle.c_semantics.specs.Machine.{After, Outcome, done, stuck, call_from_outside}
use Rattle.c_semantics.specs.Rows.{start_run}
use Rattle.c_interpreter.specs.Instances.{StructInstance, instance_at, number_named, field_number}
use Rattle.c_interpreter.specs.States.{MachineState, tree_of, fields_of}
use Rattle.emit_shape.specs.Names.{value_name}
use Rattle.emit_shape.specs.Programs.{procedure_place, struct_place}
use Rattle.right_relation.specs.Instances.{OnDone}
use Rattle.right_claim.specs.Paths.{path_to, number_in}
use Rattle.right_claim.specs.Scripts.{Call, out_with, given_of, TickSoFar, nothing_yet, tick_after, IsLike, IsLawfulScript}
use Rattle.right_claim.specs.Driving.{DrivenFrom, AnswersScripts}
use Rattle.right_claim.specs.Right.{AnswersAnyOrder}
use Rattle.right_claim.specs.DriveLaws.{tick_behind}
use Rattle.tool_driver.specs.declared.inputs.Input.{Input}
use Rattle.tool_driver.specs.Shapes.{Shape, inputs_of, inputs_taken, function_outputs}
use Rattle.tool_driver.specs.Drivable.{HasNumberField, IsDrivable}
use Rattle.tool_driver.specs.States.{DriverState, program_of, number_of}
use Rattle.tool_driver.specs.Judging.{values_fault, first_fault, value_fault, unlike_fault}
use Rattle.tool_driver.specs.Calling.{given_with}
use Rattle.tool_driver.specs.Driven.{Driven, functions_of, shape_of, path_of, updates, LeavesFields, StandsFor, RunsOver, functions_called, values_given, call_at, IsDrivenOver}
use Rattle.tool_driver.proofs.Lists.{all-kept, all-at, all-numbered, map-filter, kept-mapped}
use Rattle.tool_driver.proofs.Fields.{on-done, HasOutputs, driven-more}
use Rattle.tool_driver.proofs.Ports.{AreIn, AreApart, AreOther, all_inputs, ports-are, types-are, inputs-apart, inputs-there}
use Rattle.tool_driver.proofs.Ticks.{no-first, no-second, ports_of, HasOneEach, values-kept, one-each-more, like-all}
use Rattle.tool_driver.proofs.Callable.{typed-all}

pub both-out : (o : Outcome) (P Q : After → Type 0) (R : Type 0) → ((a : After) → P a → Q a → R) → OnDone o P → OnDone o Q → R
both-out (done a) P Q R f h k = f a h k
both-out (stuck at cells) P Q R f h k = absurd h

pub some-same : {A : Type 0} (x y : A) → Some x ≡ Some y → x ≡ y
some-same x y e = cc

-- ---- Numbers by name

under-at : (path : List ℕ) (cells : Cells) → cells_at path cells ≡ cells_at path cells
under-at [] cells = refl
under-at (f ∷ path) cells = under-at path (fields_at cells f)

number-in : (p : ProgramTree) (cells : Cells) (instance : ℕ) (name : List ℕ) (i : StructInstance) →
    instance_at p instance ≡ Some i → HasNumberField p i.struct name →
    unwrap_or (option_and_then (number_named p cells name) (instance_at p instance)) (pos 0)
    ≡ number_at (cells_at i.path cells) (field_position (struct_fields p.structs i.struct) name)
number-in p cells instance name i there has =
    let fields = struct_fields p.structs i.struct in
    ap (λ (o : Option StructInstance). unwrap_or (option_and_then (number_named p cells name) o) (pos 0)) there
    ∙ ap (λ (o : Option ℕ). unwrap_or
    (option_and_then (λ f. option_and_then (λ x. field_number (cells_at i.path cells) f x.kind)
    (slice_get fields f)) o) (pos 0)) has.named
    ∙ ap (λ o. unwrap_or (option_and_then (λ x. field_number (cells_at i.path cells) has.position x.kind) o) (pos 0)) has.there
    ∙ ap (λ k. unwrap_or (field_number (cells_at i.path cells) has.position k) (pos 0)) has.is_number
    ∙ ap (λ cs. number_at cs has.position) (under-at i.path cells)
    ∙ ap (λ (o : Option ℕ). number_at (cells_at i.path cells) (unwrap_or o 0)) (sym has.named)

-- ---- The tick after one more call

pub behind-more : (w : Driven) (tick : TickSoFar) (script : List Call) (c : Call) →
    tick_behind w.diagram w.system (functions_of w) tick (script ++ c ∷ [])
    ≡ tick_after w.diagram w.system (functions_of w) (tick_behind w.diagram w.system (functions_of w) tick script) c
behind-more w tick [] c = refl
behind-more w tick (b ∷ script) c = behind-more w (tick_after w.diagram w.system (functions_of w) tick b) script c

-- values in the types of inputs, by their ports
typed-ports : (T : Port → FixType) (ins : List Input) (vs : List ℤ) →
    AllByRecursion (λ (i : Input). i.of ≡ T i.port) ins → AllZip (λ (i : Input) v. InType i.of v) ins vs →
    AllZip (λ p v. InType (T p) v) (ports_of ins) vs
typed-ports T [] [] same h = tt
typed-ports T [] (v ∷ vs) same h = absurd h
typed-ports T (i ∷ ins) [] same h = absurd h
typed-ports T (i ∷ ins) (v ∷ vs) same h = (subst (λ (t : FixType). InType t v) same.0 h.0, typed-ports T ins vs same.1 h.1)

apart-kept : (p : Input → Bool) (ins : List Input) → AreApart ins → AreApart (filter p ins)
apart-kept p [] h = tt
apart-kept p (i ∷ ins) h = by (p i) (all-kept (AreOther i) p ins h.0) (apart-kept p ins h.1)
  where
    by : (b : Bool) → AllByRecursion (AreOther i) (filter p ins) → AreApart (filter p ins) →
        AreApart (cond b (i ∷ filter p ins) (filter p ins))
    by true here rest = (here, rest)
    by false here rest = rest

module _ (w : Driven) (before : DriverState) (script : List Call) (stands : StandsFor w before script) where
  abbrev pub tick : TickSoFar
  tick = tick_behind w.diagram w.system (functions_of w) nothing_yet script

  abbrev pub place : StructInstance
  place = record { path = path_to w.program w.diagram.rows w.system; struct = struct_place w.program w.system }

  pub called-is : before.called ≡ functions_called (length (functions_of w)) tick.called
  called-is = stands.tick.called ∙ ap (λ (s : Shape). functions_called (length s.functions) tick.called) stands.shape

  pub given-is : before.given ≡ values_given (all_inputs w) tick.given
  given-is = stands.tick.given ∙ ap (λ (s : Shape). values_given (inputs_of s) tick.given) stands.shape

  -- ---- Values that aren't refused

  -- inputs of the system, which have these ports
  pub record AreInputsOf (ins : List Input) (ports : List Port) : Type 0 where
    pub ports_are : ports_of ins ≡ ports
    pub inside : AreIn (all_inputs w) ins
    pub types_are : AllByRecursion (λ (i : Input). i.of ≡ input_type_of w.diagram w.system i.port) ins
    pub apart : AreApart ins

  pub all-are : AreInputsOf (all_inputs w) (input_ports w.diagram.rows w.system)
  all-are = record { ports_are = ports-are w; inside = inputs-there (shape_of w); types_are = types-are w; apart = inputs-apart w }

  pub taken-are : (f : Function) → AreInputsOf (inputs_taken f (all_inputs w)) (ports_in f.inputs (input_ports w.diagram.rows w.system))
  taken-are f = record {
    ports_are = map-filter (λ (i : Input). i.port) (λ p. has_bit f.inputs (bit_of p)) (all_inputs w)
        ∙ ap (λ ps. ports_in f.inputs ps) (ports-are w);
    inside = all-kept (λ (i : Input). slice_get (all_inputs w) i.place ≡ Some i) (λ i. has_bit f.inputs (bit_of i.port))
        (all_inputs w) (inputs-there (shape_of w));
    types_are =
        all-kept (λ (i : Input). i.of ≡ input_type_of w.diagram w.system i.port) (λ i. has_bit f.inputs (bit_of i.port))
        (all_inputs w) (types-are w);
    apart = apart-kept (λ i. has_bit f.inputs (bit_of i.port)) (all_inputs w) (inputs-apart w);
  }

  module _ (ins : List Input) (ports : List Port) (are : AreInputsOf ins ports) (values : List ℤ) (same : length values
      ≡ length ins) (none : values_fault before.given ins values ≡ None) where
    typed-none : first_fault value_fault (zip ins values) ≡ None
    typed-none = no-first (first_fault value_fault (zip ins values)) (first_fault (unlike_fault before.given) (zip ins values)) none

    like-none : first_fault (unlike_fault (values_given (all_inputs w) tick.given)) (zip ins values) ≡ None
    like-none =
        ap (λ (g : List (Option ℤ)). first_fault (unlike_fault g) (zip ins values)) (sym given-is)
        ∙ no-second (first_fault value_fault (zip ins values)) (first_fault (unlike_fault before.given) (zip ins values)) none

    pub in-types : AllZip (λ p v. InType (input_type_of w.diagram w.system p) v) ports values
    in-types = subst (λ ps. AllZip (λ p v. InType (input_type_of w.diagram w.system p) v) ps values) are.ports_are
        (typed-ports (input_type_of w.diagram w.system) ins values are.types_are (typed-all ins values same typed-none))

    likes : AllByRecursion (IsLike w.diagram w.system (functions_of w) tick.given) (given_of (ports_of ins) values)
    likes = like-all w.diagram w.system (functions_of w) tick.given (all_inputs w) ins values stands.tick.one_each are.inside like-none

    pub alike : AllByRecursion (IsLike w.diagram w.system (functions_of w) tick.given) (given_of ports values)
    alike = subst (λ ps. AllByRecursion (IsLike w.diagram w.system (functions_of w) tick.given) (given_of ps values)) are.ports_are likes

    pub kept : given_with before.given (zip ins values) ≡ values_given (all_inputs w) (given_of ports values ++ tick.given)
    kept =
        ap (λ (g : List (Option ℤ)). given_with g (zip ins values)) given-is
        ∙ values-kept tick.given (all_inputs w) (inputs-apart w) ins values are.inside
        ∙ ap (λ ps. values_given (all_inputs w) (given_of ps values ++ tick.given)) are.ports_are

    pub one-each : HasOneEach (given_of ports values ++ tick.given)
    one-each = subst (λ ps. HasOneEach (given_of ps values ++ tick.given)) are.ports_are
        (one-each-more w.diagram w.system (functions_of w) tick.given ins values are.apart stands.tick.one_each likes)

  -- ---- The machine's call

  pub is-place : (i : StructInstance) → instance_at (program_of before) before.instance ≡ Some i → i ≡ place
  is-place i there = some-same i place (sym there ∙ ap (λ p. instance_at p before.instance) stands.program ∙ stands.instance)

  pub call-is : (name_of : Shape → List ℕ) (i : StructInstance) (values : List ℤ) (cells : Cells) → i ≡ place →
      call_from_outside (program_of before) (procedure_place (program_of before) (name_of before.shape)) i.path
      (pos before.now ∷ values) cells
      ≡ call_from_outside w.program (procedure_place w.program (name_of (shape_of w)))
      (path_to w.program w.diagram.rows w.system) (pos (updates script % w.hyper) ∷ values) cells
  call-is name_of i values cells same =
      ap (λ p. call_from_outside p (procedure_place p (name_of before.shape)) i.path (pos before.now ∷ values) cells) stands.program
      ∙ ap (λ s. call_from_outside w.program (procedure_place w.program (name_of s)) i.path (pos before.now ∷ values) cells) stands.shape
      ∙ ap (λ (j : StructInstance). call_from_outside w.program (procedure_place w.program (name_of (shape_of w)))
      j.path (pos before.now ∷ values) cells) same
      ∙ ap (λ n. call_from_outside w.program (procedure_place w.program (name_of (shape_of w)))
      (path_to w.program w.diagram.rows w.system) (pos n ∷ values) cells) stands.now

  -- in right code a lawful script is answered over each run over a fitting trace
  pub driven-over : (longer : List Call) (xs : List (List ℤ)) (run : Run) → IsLawfulScript w.diagram w.system (functions_of w) longer →
      RunsOver w longer xs run → IsDrivenOver w longer xs run
  driven-over longer xs run lawful over =
      on-done (start_run w.program) (λ started. AnswersScripts w.program w.diagram w.hyper (path_of w) w.system started.cells)
      (λ started. DrivenFrom w.program w.diagram w.hyper (path_of w) w.system (functions_of w) xs run 0 started.cells [] [] [] longer)
      (λ started answers. answers w.needs longer xs run w.are_needs lawful over.is_trace over.fits over.is_run)
      (all-at (AnswersAnyOrder w.program w.diagram w.hyper) (systems w.diagram.rows) w.system w.code.any_order w.in_diagram)

  -- one more call is done, and gives what each such run has
  pub answered : (c : Call) (xs : List (List ℤ)) (run : Run) →
      IsLawfulScript w.diagram w.system (functions_of w) (script ++ c ∷ []) → RunsOver w (script ++ c ∷ []) xs run →
      OnDone (call_at w (updates script) c (fields_of before.machine)) (λ a. HasOutputs w xs run (updates script) c a.cells)
  answered c xs run lawful over =
      both-out (start_run w.program)
      (λ a. DrivenFrom w.program w.diagram w.hyper (path_of w) w.system (functions_of w) xs run 0 a.cells [] [] [] (script ++ c ∷ []))
      (λ a. LeavesFields w 0 a.cells script (fields_of before.machine))
      (OnDone (call_at w (updates script) c (fields_of before.machine)) (λ a. HasOutputs w xs run (updates script) c a.cells))
      (λ a rest left. driven-more w xs run script 0 (updates script) a.cells (fields_of before.machine) [] [] [] c (omega arith) rest left)
      (driven-over (script ++ c ∷ []) xs run lawful over)
      stands.fields

  -- ---- Outputs

  -- the outputs' fields, by rows
  fields-by-row : IsDrivable (program_of before) before.instance before.shape →
      AllByRecursion (HasNumberField w.program (struct_place w.program w.system))
      (map value_name (outports_of w.diagram.rows w.system))
  fields-by-row d =
      let in_program : AllByRecursion (HasNumberField w.program d.instance_is.struct) before.shape.outputs =
      subst (λ p. AllByRecursion (HasNumberField p d.instance_is.struct) before.shape.outputs) stands.program
      d.outputs in
      let in_struct : AllByRecursion (HasNumberField w.program (struct_place w.program w.system)) before.shape.outputs =
      subst (λ (i : StructInstance). AllByRecursion (HasNumberField w.program i.struct) before.shape.outputs)
      (is-place d.instance_is d.there) in_program in
      subst (λ (s : Shape). AllByRecursion (HasNumberField w.program (struct_place w.program w.system)) s.outputs) stands.shape in_struct

  numbers-of-rows : (m : MachineState) (instance : ℕ) (cells : Cells) (f : ℕ → ℤ) (rows : List ℕ) →
      tree_of m ≡ w.program → instance ≡ before.instance → fields_of m ≡ cells →
      AllByRecursion (HasNumberField w.program (struct_place w.program w.system)) (map value_name rows) →
      AllByRecursion (λ o. number_in w.program w.system (cells_at (path_of w) cells) (value_name o) ≡ f o) rows →
      map (number_of m instance) (map value_name rows) ≡ map f rows
  numbers-of-rows m instance cells f [] program at left fields gives = refl
  numbers-of-rows m instance cells f (o ∷ rows) program at left fields gives =
      ap (λ v. v ∷ map (number_of m instance) (map value_name rows))
      (ap (λ p. unwrap_or (option_and_then (number_named p (fields_of m) (value_name o)) (instance_at p instance)) (pos 0)) program
      ∙ ap (λ n. unwrap_or (option_and_then (number_named w.program (fields_of m) (value_name o)) (instance_at w.program n)) (pos 0)) at
      ∙ ap (λ cs.
      unwrap_or (option_and_then (number_named w.program cs (value_name o)) (instance_at w.program before.instance))
      (pos 0)) left
      ∙ number-in w.program cells before.instance (value_name o) place stands.instance fields.0 ∙ gives.0)
      ∙ ap (λ vs. f o ∷ vs) (numbers-of-rows m instance cells f rows program at left fields.1 gives.1)

  all-named : (P : List ℕ → Type 0) (f : Function) (rows : List ℕ) → AllByRecursion P (map value_name rows) →
      AllByRecursion P (map value_name (given_by_function f rows))
  all-named P f rows h =
      subst (λ names. AllByRecursion P names) (kept-mapped value_name (λ k. has_bit f.outputs k) 0 rows)
      (all-numbered P (λ k. has_bit f.outputs k) 0 (map value_name rows) h)

  pub outputs-are : IsDrivable (program_of before) before.instance before.shape →
      (m : MachineState) (instance : ℕ) (cells : Cells) (xs : List (List ℤ)) (run : Run) (j : ℕ) (values : List ℤ) →
      tree_of m ≡ w.program → instance ≡ before.instance → fields_of m ≡ cells →
      HasOutputs w xs run (updates script) (out_with j values) cells →
      map (number_of m instance) (function_outputs before.shape j)
      ≡ map (value_at (slice_index_or run.values (updates script) []))
      (given_by_function (numbered_function (functions_of w) j) (outports_of w.diagram.rows w.system))
  outputs-are d m instance cells xs run j values program at left gives =
      let f : Function = numbered_function (functions_of w) j in
      let rows : List ℕ = outports_of w.diagram.rows w.system in
      ap (λ (s : Shape). map (number_of m instance) (function_outputs s j)) stands.shape
      ∙ ap (map (number_of m instance)) (kept-mapped value_name (λ k. has_bit f.outputs k) 0 rows)
      ∙ numbers-of-rows m instance cells (value_at (slice_index_or run.values (updates script) []))
      (given_by_function f rows) program at left
      (all-named (HasNumberField w.program (struct_place w.program w.system)) f rows (fields-by-row d)) gives
