-- Of a block's parameters the first that is out of form is reported.
use Rattle.std.proofs.Common.{◌≡◌, refl, sym, ◌∙◌, ap, ℕ, Bool, true, false, not, cond, List, Option, None, Some, is_some, map, codes}
use Rattle.std.specs.Prelude.{Result, Ok, Err, ok_or, option_map, option_and_then, find, bytes_eq}
use Rattle.std.specs.Result.{result_ok, result_err}
use Rattle.base_core.specs.declared.ParamName.{ParamName}
use Rattle.base_core.specs.declared.ParamName.TheVariants.{Name, OutDataTypeStr, SampleTime, PortDimensions, OutputWhenDisabled, InitialOutput, SystemSampleTime, ParamDataTypeStr, RndMeth, SaturateOnIntegerOverflow, Inputs, InitialCondition, Criteria, Threshold, Operator, ConvertRealWorld, Integrity, Deterministic, OutPortSampleTimeOpt, OutPortSampleTime, StatesWhenEnabling, TriggerType, DelayLength, DelayLengthSource, InitialConditionSource, ExternalReset}
use Rattle.base_core.specs.declared.ParamName.TheVariants as param
use Rattle.base_fixed_point.specs.declared.Round.{Round}
use Rattle.base_fixed_point.specs.declared.Over.{Over}
use Rattle.diagram_blocks.specs.declared.How.{How}
use Rattle.mdl_tree.specs.Walks.{SectionTree, first_section}
use Rattle.mdl_params.specs.declared.BlockType.{BlockType}
use Rattle.mdl_params.specs.declared.BlockType.TheVariants.{Inport, Outport, SubSystem, Constant, Ground, Terminator, Gain, Sum, Product, UnitDelay, Delay, ZeroOrderHold, Switch, RelationalOperator, DataTypeConversion, RateTransition, EnablePort, TriggerPort}
use Rattle.mdl_params.specs.declared.BlockType.TheVariants as block
use Rattle.mdl_params.specs.BlockTypes.{beside}
use Rattle.mdl_params.specs.Language.{parameters}
use Rattle.mdl_params.specs.Defaults.{parameter_text}
use Rattle.mdl_blocks.specs.declared.fault.Fault.{Fault}
use Rattle.mdl_blocks.specs.declared.fault.Fault.TheVariants.{Unsupported, Parameter}
use Rattle.mdl_blocks.specs.declared.peers.Peers.{Peers}
use Rattle.base_core.specs.Results.{◌>>=◌, ◌>>◌}
use Rattle.mdl_blocks.specs.Words.{number_in, number_up_to, samples_in, writes_minus_one, factor_in, initial_output_in, rounds, overs, edges, resets, inheritances, comparisons, logics, criteria}
use Rattle.mdl_blocks.specs.Signs.{sum_signs, product_count, logic_count}
use Rattle.mdl_blocks.specs.Meanings.{type_in, whole_type_in, any_time_in, time_in, constant_in}
use Rattle.mdl_blocks.specs.Blocks.{Texts, texts_by, required, named, unless_fault, checked, is_single, keeps_value, body_of, BodyText, BlockText, unless_hollow}
use Rattle.mdl_blocks.specs.FirstFaults.{passes, is_inputs_form, has_form, first_bad, TellsFirstParameter}

-- a result is there where a test passes, and else is the error of a parameter
abbrev Tells : {A : Type 0} → Result A Fault → Bool → ParamName → Type 0
Tells (Ok value) ok parameter = ok ≡ true
Tells (Err fault) ok parameter = (ok ≡ false) × (fault ≡ Parameter parameter)

-- a text, or the error of its own parameter
abbrev IsOwn : Result (List ℕ) Fault → ParamName → Type 0
IsOwn (Ok text) parameter = Unit {0}
IsOwn (Err fault) parameter = fault ≡ Parameter parameter

abbrev first_of : Bool → ParamName → Option ParamName → Option Fault
first_of ok name rest = option_map Parameter (cond (not ok) (Some name) rest)

bind : {A B : Type 0} (r : Result A Fault) (go : A → Result B Fault) (ok : Bool) (name : ParamName)
    (rest : Option ParamName) → Tells r ok name →
    ((v : A) → r ≡ Ok v → result_err (go v) ≡ option_map Parameter rest) → result_err (r >>= go) ≡ first_of ok name rest
bind (Ok v) go ok name rest tells more = more v refl ∙ ap (λ t. first_of t name rest) (sym tells)
bind (Err f) go ok name rest tells more = ap Some tells.1 ∙ ap (λ t. first_of t name rest) (sym tells.0)

next : {A B : Type 0} (r : Result A Fault) (go : Result B Fault) (ok : Bool) (name : ParamName)
    (rest : Option ParamName) → Tells r ok name →
    result_err go ≡ option_map Parameter rest → result_err (r >> go) ≡ first_of ok name rest
next (Ok v) go ok name rest tells more = more ∙ ap (λ t. first_of t name rest) (sym tells)
next (Err f) go ok name rest tells more = ap Some tells.1 ∙ ap (λ t. first_of t name rest) (sym tells.0)

how-bind : {B : Type 0} (r : Result Round Fault) (o : Result Over Fault) (go : How → Result B Fault)
    (round_ok over_ok : Bool) (rest : Option ParamName) →
    Tells r round_ok RndMeth → Tells o over_ok SaturateOnIntegerOverflow → ((how : How) → result_err (go how) ≡ option_map Parameter rest) →
    result_err ((r >>= λ round. o >>= λ over. Ok (let how : How = record { round = round; over = over } in how)) >>= go)
    ≡ first_of round_ok RndMeth (cond (not over_ok) (Some SaturateOnIntegerOverflow) rest)
how-bind (Ok r) (Ok o) go round_ok over_ok rest tells told more =
    more (record { round = r; over = o }) ∙ ap (λ t. first_of t SaturateOnIntegerOverflow rest) (sym told)
    ∙ ap (λ t. first_of t RndMeth (cond (not over_ok) (Some SaturateOnIntegerOverflow) rest)) (sym tells)
how-bind (Ok r) (Err f) go round_ok over_ok rest tells told more =
    ap Some told.1 ∙ ap (λ t. first_of t SaturateOnIntegerOverflow rest) (sym told.0)
    ∙ ap (λ t. first_of t RndMeth (cond (not over_ok) (Some SaturateOnIntegerOverflow) rest)) (sym tells)
how-bind (Err f) o go round_ok over_ok rest tells told more =
    ap Some tells.1 ∙ ap (λ t. first_of t RndMeth (cond (not over_ok) (Some SaturateOnIntegerOverflow) rest)) (sym tells.0)

required-by : {A : Type 0} (meaning : List ℕ → Option A) (test : List ℕ → Bool) (text : Result (List ℕ) Fault)
    (name : ParamName) → IsOwn text name →
    ((t : List ℕ) → is_some (meaning t) ≡ test t) → Tells (text >>= λ t. ok_or (meaning t) (Parameter name)) (passes test text) name
required-by meaning test (Ok t) parameter own same = by (meaning t) (same t)
  where
    by : {A : Type 0} (o : Option A) → is_some o ≡ test t → Tells (ok_or o (Parameter parameter)) (test t) parameter
    by (Some v) e = sym e
    by None e = (sym e, refl)
required-by meaning test (Err f) parameter own same = (refl, own)

checked-by : (test : List ℕ → Bool) (text : Result (List ℕ) Fault) (name : ParamName) → IsOwn text name →
    Tells (text >>= λ t. unless_fault (test t) name) (passes test text) name
checked-by test (Ok t) parameter own = by (test t)
  where
    by : (b : Bool) → Tells (unless_fault b parameter) b parameter
    by true = refl
    by false = (refl, refl)
checked-by test (Err f) parameter own = (refl, own)

module _ (peers : Peers) (texts : Texts) (own : (name : ParamName) → IsOwn (texts name) name) where
  must : {A : Type 0} (meaning : List ℕ → Option A) (name : ParamName) →
      Tells (required meaning texts name) (passes (λ t. is_some (meaning t)) (texts name)) name
  must meaning name = required-by meaning (λ t. is_some (meaning t)) (texts name) name (own name) (λ t. refl)

  word : {A : Type 0} (words : List (List ℕ × A)) (name : ParamName) →
      Tells (named words texts name) (passes (λ t. is_some (beside t words)) (texts name)) name
  word words name = must (λ t. beside t words) name

  ask : (test : List ℕ → Bool) (name : ParamName) → Tells (checked test texts name) (passes test (texts name)) name
  ask test name = checked-by test (texts name) name (own name)

  abbrev bad : BlockType → ParamName → Bool
  bad type name = not (has_form peers texts type name)

  abbrev names_of : BlockType → List ParamName
  names_of type = map (λ (p : ParamName × List ℕ). p.0) (parameters type)

  abbrev IsTold : Option SectionTree → BlockType → Type 0
  IsTold system type = result_err (body_of peers system texts type) ≡ option_map Parameter (find (bad type) (names_of type))

  operands : (op : _) → named logics texts Operator ≡ Ok op →
      Tells (required (logic_count op) texts Inputs) (passes (is_inputs_form texts block.Logic) (texts Inputs)) Inputs
  operands op e =
      required-by (logic_count op) (is_inputs_form texts block.Logic) (texts Inputs) Inputs (own Inputs)
      (λ t. ap (λ r. is_some (option_and_then (λ op. logic_count op t) (result_ok r))) (sym e))

  pub body-told : (type : BlockType) (system : Option SectionTree) → unless_hollow system type ≡ Ok type → IsTold system type
  body-told Inport system h =
      bind _ _ _ _ _ (must (number_up_to peers.inports) param.Port) (λ port e. bind _ _ _ _ _ (must type_in OutDataTypeStr)
      (λ type e. bind _ _ _ _ _ (must time_in SampleTime) (λ time e. next _ _ _ _ _ (ask is_single PortDimensions) refl)))
  body-told Outport system h =
      bind _ _ _ _ _ (must (number_up_to peers.outports) param.Port) (λ port e. bind _ _ _ _ _ (must type_in OutDataTypeStr)
      (λ type e. bind _ _ _ _ _ (must time_in SampleTime) (λ time e. next _ _ _ _ _ (ask is_single PortDimensions)
      (bind _ _ _ _ _ (word resets OutputWhenDisabled)
      (λ reset e. bind _ _ _ _ _ (must initial_output_in InitialOutput) (λ initial e. refl))))))
  body-told SubSystem None h = absurd (let wrong : ⊥ = cc h in wrong)
  body-told SubSystem (Some system) h = next _ _ _ _ _ (ask writes_minus_one SystemSampleTime) refl
  body-told Constant system h =
      bind _ _ _ _ _ (must constant_in param.Value) (λ value e. bind _ _ _ _ _ (must type_in OutDataTypeStr)
      (λ type e. bind _ _ _ _ _ (must any_time_in SampleTime) (λ time e. refl)))
  body-told Ground system h = refl
  body-told Terminator system h = refl
  body-told Gain system h =
      bind _ _ _ _ _ (must factor_in param.Gain) (λ factor e. bind _ _ _ _ _ (must type_in ParamDataTypeStr)
      (λ factor_type e. bind _ _ _ _ _ (must type_in OutDataTypeStr)
      (λ type e. how-bind _ _ _ _ _ _ (word rounds RndMeth) (word overs SaturateOnIntegerOverflow)
      (λ how. bind _ _ _ _ _ (must time_in SampleTime) (λ time e. refl)))))
  body-told Sum system h =
      bind _ _ _ _ _ (must sum_signs Inputs) (λ signs e. bind _ _ _ _ _ (must type_in OutDataTypeStr)
      (λ type e. how-bind _ _ _ _ _ _ (word rounds RndMeth) (word overs SaturateOnIntegerOverflow)
      (λ how. bind _ _ _ _ _ (must time_in SampleTime) (λ time e. refl))))
  body-told Product system h =
      bind _ _ _ _ _ (must product_count Inputs) (λ count e. bind _ _ _ _ _ (must type_in OutDataTypeStr)
      (λ type e. how-bind _ _ _ _ _ _ (word rounds RndMeth) (word overs SaturateOnIntegerOverflow)
      (λ how. bind _ _ _ _ _ (must time_in SampleTime) (λ time e. refl))))
  body-told UnitDelay system h =
      bind _ _ _ _ _ (must number_in InitialCondition) (λ initial e. bind _ _ _ _ _ (must time_in SampleTime) (λ time e. refl))
  body-told Delay system h =
      bind _ _ _ _ _ (must samples_in DelayLength) (λ length e. next _ _ _ _ _ (ask (bytes_eq (codes "Dialog")) DelayLengthSource)
      (bind _ _ _ _ _ (must number_in InitialCondition)
      (λ initial e. next _ _ _ _ _ (ask (bytes_eq (codes "Dialog")) InitialConditionSource)
      (next _ _ _ _ _ (ask (bytes_eq (codes "None")) ExternalReset) (bind _ _ _ _ _ (must time_in SampleTime) (λ time e. refl))))))
  body-told ZeroOrderHold system h = bind _ _ _ _ _ (must time_in SampleTime) (λ time e. refl)
  body-told Switch system h =
      bind _ _ _ _ _ (word criteria Criteria) (λ criterion e. bind _ _ _ _ _ (must number_in Threshold)
      (λ threshold e. bind _ _ _ _ _ (must type_in OutDataTypeStr)
      (λ type e. how-bind _ _ _ _ _ _ (word rounds RndMeth) (word overs SaturateOnIntegerOverflow)
      (λ how. bind _ _ _ _ _ (must time_in SampleTime) (λ time e. refl)))))
  body-told RelationalOperator system h =
      bind _ _ _ _ _ (word comparisons Operator) (λ comparison e. bind _ _ _ _ _ (must whole_type_in OutDataTypeStr)
      (λ type e. bind _ _ _ _ _ (must time_in SampleTime) (λ time e. refl)))
  body-told block.Logic system h =
      bind _ _ _ _ _ (word logics Operator) (λ op e. bind _ _ _ _ _ (operands op e)
      (λ count e. bind _ _ _ _ _ (must whole_type_in OutDataTypeStr) (λ type e. bind _ _ _ _ _ (must time_in SampleTime) (λ time e. refl))))
  body-told DataTypeConversion system h =
      bind _ _ _ _ _ (must type_in OutDataTypeStr) (λ type e. next _ _ _ _ _ (ask keeps_value ConvertRealWorld)
      (how-bind _ _ _ _ _ _ (word rounds RndMeth) (word overs SaturateOnIntegerOverflow)
      (λ how. bind _ _ _ _ _ (must time_in SampleTime) (λ time e. refl))))
  body-told RateTransition system h =
      next _ _ _ _ _ (ask (bytes_eq (codes "on")) Integrity) (next _ _ _ _ _ (ask (bytes_eq (codes "on")) Deterministic)
      (bind _ _ _ _ _ (must number_in InitialCondition) (λ initial e. bind _ _ _ _ _ (word inheritances OutPortSampleTimeOpt)
      (λ inherits e. bind _ _ _ _ _ (must time_in OutPortSampleTime) (λ time e. refl)))))
  body-told EnablePort system h = bind _ _ _ _ _ (word resets StatesWhenEnabling) (λ reset e. refl)
  body-told TriggerPort system h = bind _ _ _ _ _ (word edges TriggerType) (λ edge e. refl)

  name-told : Tells (texts Name) (passes (λ t. true) (texts Name)) Name
  name-told = by (texts Name) (own Name)
    where
      by : (text : Result (List ℕ) Fault) → IsOwn text Name → Tells text (passes (λ t. true) text) Name
      by (Ok text) own = refl
      by (Err fault) own = (refl, own)

  -- a block says what is wrong with its body
  kept : (r : Result BodyText Fault) (block : BodyText → BlockText) → result_err (r >>= λ body. Ok (block body)) ≡ result_err r
  kept (Ok body) block = refl
  kept (Err fault) block = refl

  pub named-told : (type : BlockType) (system : Option SectionTree) (line : ℕ) → unless_hollow system type ≡ Ok type →
      result_err (texts Name >>= λ name. body_of peers system texts type
      >>= λ body. Ok (let b : BlockText = record { name = name; line = line; body = body } in b))
      ≡ option_map Parameter (first_bad peers texts type)
  named-told type system line h =
      bind _ _ _ _ _ name-told
      (λ name e. kept (body_of peers system texts type) (λ body. record { name = name; line = line; body = body })
      ∙ body-told type system h)

own-text : (o : Option (List ℕ)) (name : ParamName) → IsOwn (ok_or o (Parameter name)) name
own-text (Some text) parameter = tt
own-text None parameter = refl

pub first_told : TellsFirstParameter
first_told defaults peers section type_name type typed whole =
    ap (λ o. result_err (ok_or o Unsupported >>= behind)) typed ∙ ap (λ r. result_err (r >>= from)) whole
    ∙ named-told peers texts (λ name. own-text (parameter_text defaults section.items type_name name) name) type system section.line whole
  where
    texts : Texts
    texts = texts_by defaults section.items type_name

    system : Option SectionTree
    system = first_section (codes "System") section.items

    from : BlockType → Result BlockText Fault
    from type = texts Name >>= λ name. body_of peers system texts type
        >>= λ body. Ok (record { name = name; line = section.line; body = body })

    behind : BlockType → Result BlockText Fault
    behind known = unless_hollow system known >>= from
