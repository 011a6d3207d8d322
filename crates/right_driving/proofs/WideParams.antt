-- The parameters of a system's procedures are wide enough for the inputs that they take.
use Rattle.std.specs.Prelude.{ℕ, Bool, true, false, cond, List, [], ◌∷◌, map, filter, zip}
use Rattle.std.specs.List.{AllZip}
use Rattle.std.proofs.Common.{sym, subst, ◌∙◌}
use Rattle.base_core.specs.declared.Control.{Control}
use Rattle.base_core.specs.declared.Port.{Port}
use Rattle.base_fixed_point.specs.declared.FixType.{FixType}
use Rattle.diagram_meaning.specs.Rows.{system_control}
use Rattle.diagram_meaning.specs.WellFormed.{IsWired}
use Rattle.modules_profile.specs.Headers.{ports_of_header, header_function, taken}
use Rattle.base_core.specs.Ports.{bit_of, has_bit}
use Rattle.modules_profile.specs.SystemHeader.{SystemHeader}
use Rattle.c_syntax.specs.Tree.{ParamTree}
use Rattle.emit_shape.specs.Heads.{input_params}
use Rattle.emit_shape.specs.Names.{container, port_name}
use Rattle.right_relation.proofs.lemmas.Containers.{container-has}
use Rattle.tool_driver.specs.declared.inputs.Input.{Input}
use Rattle.tool_driver.specs.Drivable.{IsWide}
use Rattle.tool_driver.specs.Driven.{Driven, shape_of}
use Rattle.tool_driver.specs.Shapes.{inputs_of, function_inputs}
use Rattle.right_driving.proofs.InputTypes.{port_of_input, type_of_input, ports-are, types-are, header-types, header-ports}
use Rattle.right_driving.proofs.SystemHeads.{header_for}

-- each parameter is wide enough for its input
abbrev pub AreWide : List Input → List ParamTree → Type 0
AreWide inputs params = AllZip (λ (i : Input) (q : ParamTree). IsWide q.type i.of) inputs params

-- the parameters for these ports and types
abbrev params_for : Control → List Port → List FixType → List ParamTree
params_for control ports types =
    map (λ (e : Port × FixType). record { name = port_name control e.0; type = container e.1 }) (zip ports types)

all-wide : (control : Control) (inputs : List Input) →
    AreWide inputs (params_for control (map port_of_input inputs) (map type_of_input inputs))
all-wide control [] = tt
all-wide control (i ∷ inputs) = (λ v fits. container-has i.of v fits, all-wide control inputs)

-- those that a function takes, of inputs and of parameters
abbrev inputs_in : ℕ → List Input → List Input
inputs_in mask inputs = filter (λ (i : Input). has_bit mask (bit_of i.port)) inputs

abbrev passed_in : ℕ → List (Port × ParamTree) → List ParamTree
passed_in mask passed = map (λ (e : Port × ParamTree). e.1) (filter (λ (e : Port × ParamTree). has_bit mask (bit_of e.0)) passed)

taken-wide : (mask : ℕ) (inputs : List Input) (params : List ParamTree) → AreWide inputs params →
    AreWide (inputs_in mask inputs) (passed_in mask (zip (map port_of_input inputs) params))
taken-wide mask [] [] wide = tt
taken-wide mask [] (q ∷ params) wide = absurd wide
taken-wide mask (i ∷ inputs) [] wide = absurd wide
taken-wide mask (i ∷ inputs) (q ∷ params) wide =
    by (has_bit mask (bit_of i.port)) (inputs_in mask inputs)
    (filter (λ (e : Port × ParamTree). has_bit mask (bit_of e.0)) (zip (map port_of_input inputs) params))
    (taken-wide mask inputs params wide.1)
  where
    by : (t : Bool) (kept : List Input) (passed : List (Port × ParamTree)) → AreWide kept (map (λ (e : Port × ParamTree). e.1) passed) →
        AreWide (cond t (i ∷ kept) kept) (map (λ (e : Port × ParamTree). e.1) (cond t ((i.port, q) ∷ passed) passed))
    by true kept passed rest = (wide.0, rest)
    by false kept passed rest = rest

module _ (w : Driven) (wired : IsWired w.diagram.rows) where
  abbrev header : SystemHeader
  header = header_for w.diagram w.system w.needs

  pub update-wide : AreWide (inputs_of (shape_of w)) (input_params header)
  update-wide =
      let control : Control = system_control w.diagram.rows w.system in
      let types = types-are w ∙ sym (header-types w.diagram wired w.system w.needs w.in_diagram) in
      let ports = ports-are w ∙ sym (header-ports w.diagram wired w.system w.needs) in
      subst (λ ts. AreWide (inputs_of (shape_of w)) (params_for control (ports_of_header header) ts)) types
      (subst (λ ps. AreWide (inputs_of (shape_of w)) (params_for control ps (map type_of_input (inputs_of (shape_of w))))) ports
      (all-wide control (inputs_of (shape_of w))))

  pub function-wide : (j : ℕ) → AreWide (function_inputs (shape_of w) j) (taken header j (input_params header))
  function-wide j =
      let mask : ℕ = (header_function header j).inputs in
      let ports = ports-are w ∙ sym (header-ports w.diagram wired w.system w.needs) in
      subst (λ ps. AreWide (function_inputs (shape_of w) j) (passed_in mask (zip ps (input_params header)))) ports
      (taken-wide mask (inputs_of (shape_of w)) (input_params header) update-wide)
