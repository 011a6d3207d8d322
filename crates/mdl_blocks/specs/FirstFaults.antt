-- The first parameter of a block whose text isn't of its form, in the order of the table of the
-- parameters of its type.
use Rattle.std.specs.Prelude.{◌≡◌, ℕ, Bool, true, false, not, ◌||◌, if◌then◌else◌, List, ◌∷◌, map, find, Option, Some, is_some, option_map, option_and_then, Result, Ok, Err, bytes_eq, codes}
use Rattle.std.specs.Result.{result_ok, result_err}
use Rattle.base_core.specs.declared.ParamName.{ParamName}
use Rattle.base_core.specs.declared.ParamName.TheVariants.{Name, OutDataTypeStr, SampleTime, PortDimensions, OutputWhenDisabled, InitialOutput, SystemSampleTime, ParamDataTypeStr, RndMeth, SaturateOnIntegerOverflow, Inputs, InitialCondition, Criteria, Threshold, Operator, ConvertRealWorld, Integrity, Deterministic, OutPortSampleTimeOpt, OutPortSampleTime, StatesWhenEnabling, TriggerType, DelayLength, DelayLengthSource, InitialConditionSource, ExternalReset}
use Rattle.base_core.specs.declared.ParamName.TheVariants as param
use Rattle.mdl_tree.specs.Walks.{SectionTree, first_section}
use Rattle.mdl_params.specs.declared.BlockType.{BlockType}
use Rattle.mdl_params.specs.declared.BlockType.TheVariants.{Inport, Constant, Sum, Product, RelationalOperator}
use Rattle.mdl_params.specs.declared.BlockType.TheVariants as block
use Rattle.mdl_params.specs.BlockTypes.{block_type_of, beside}
use Rattle.mdl_params.specs.Language.{parameters}
use Rattle.mdl_params.specs.Defaults.{DefaultTexts}
use Rattle.mdl_blocks.specs.declared.fault.Fault.{Fault}
use Rattle.mdl_blocks.specs.declared.fault.Fault.TheVariants.{Parameter}
use Rattle.mdl_blocks.specs.declared.peers.Peers.{Peers}
use Rattle.mdl_blocks.specs.Words.{number_in, number_up_to, samples_in, writes_minus_one, factor_in, initial_output_in, rounds, overs, edges, resets, inheritances, comparisons, logics, criteria}
use Rattle.mdl_blocks.specs.Signs.{sum_signs, product_count, logic_count}
use Rattle.mdl_blocks.specs.Meanings.{type_in, whole_type_in, any_time_in, time_in, constant_in}
use Rattle.mdl_blocks.specs.Blocks.{Texts, texts_by, named, is_single, keeps_value, is_same_type, unless_hollow, block_typed}

-- the parameters of a type of block, in the order in which they are checked
abbrev pub checked_parameters : BlockType → List ParamName
checked_parameters type = Name ∷ map (λ (p : ParamName × List ℕ). p.0) (parameters type)

-- how many blocks of a port's type its system has
abbrev pub most_ports : Peers → BlockType → ℕ
most_ports peers type = if is_same_type type Inport then peers.inports else peers.outports

-- whether the text for a block's inputs has its form, by its type
abbrev pub is_inputs_form : Texts → BlockType → List ℕ → Bool
is_inputs_form texts type text =
    if is_same_type type Sum then is_some (sum_signs text)
    else if is_same_type type Product then is_some (product_count text)
    else is_some
    (option_and_then (λ op. logic_count op text) (result_ok (named logics texts Operator)))

-- whether the text of a block's output type has its form, by its type
abbrev pub is_output_form : BlockType → List ℕ → Bool
is_output_form type text =
    if is_same_type type RelationalOperator || is_same_type type block.Logic
    then is_some (whole_type_in text) else is_some (type_in text)

-- whether the text of a block's sample time has its form, by its type
abbrev pub is_time_form : BlockType → List ℕ → Bool
is_time_form type text =
    if is_same_type type Constant then is_some (any_time_in text) else is_some (time_in text)

-- whether the text of a block's operator has its form, by its type
abbrev pub is_operator_form : BlockType → List ℕ → Bool
is_operator_form type text =
    if is_same_type type block.Logic then is_some (beside text logics)
    else is_some (beside text comparisons)

-- whether a text is of the form of this parameter of a block of this type
abbrev pub is_form : Peers → Texts → BlockType → ParamName → List ℕ → Bool
is_form peers texts type Name text = true
is_form peers texts type param.Port text = is_some (number_up_to (most_ports peers type) text)
is_form peers texts type OutDataTypeStr text = is_output_form type text
is_form peers texts type ParamDataTypeStr text = is_some (type_in text)
is_form peers texts type SampleTime text = is_time_form type text
is_form peers texts type OutPortSampleTime text = is_some (time_in text)
is_form peers texts type SystemSampleTime text = writes_minus_one text
is_form peers texts type PortDimensions text = is_single text
is_form peers texts type OutputWhenDisabled text = is_some (beside text resets)
is_form peers texts type StatesWhenEnabling text = is_some (beside text resets)
is_form peers texts type TriggerType text = is_some (beside text edges)
is_form peers texts type InitialOutput text = is_some (initial_output_in text)
is_form peers texts type InitialCondition text = is_some (number_in text)
is_form peers texts type param.Value text = is_some (constant_in text)
is_form peers texts type Threshold text = is_some (number_in text)
is_form peers texts type param.Gain text = is_some (factor_in text)
is_form peers texts type RndMeth text = is_some (beside text rounds)
is_form peers texts type SaturateOnIntegerOverflow text = is_some (beside text overs)
is_form peers texts type Integrity text = bytes_eq (codes "on") text
is_form peers texts type Deterministic text = bytes_eq (codes "on") text
is_form peers texts type Inputs text = is_inputs_form texts type text
is_form peers texts type Criteria text = is_some (beside text criteria)
is_form peers texts type Operator text = is_operator_form type text
is_form peers texts type ConvertRealWorld text = keeps_value text
is_form peers texts type OutPortSampleTimeOpt text = is_some (beside text inheritances)
is_form peers texts type DelayLength text = is_some (samples_in text)
is_form peers texts type DelayLengthSource text = bytes_eq (codes "Dialog") text
is_form peers texts type InitialConditionSource text = bytes_eq (codes "Dialog") text
is_form peers texts type ExternalReset text = bytes_eq (codes "None") text

-- whether what stands for a parameter passes a test
abbrev pub passes : (List ℕ → Bool) → Result (List ℕ) Fault → Bool
passes test (Ok text) = test text
passes test (Err fault) = false

-- whether a parameter of a block of this type has a text of its form
abbrev pub has_form : Peers → Texts → BlockType → ParamName → Bool
has_form peers texts type name = passes (is_form peers texts type name) (texts name)

-- the first parameter of a block of this type that has none
abbrev pub first_bad : Peers → Texts → BlockType → Option ParamName
first_bad peers texts type =
    find (λ name. not (has_form peers texts type name)) (checked_parameters type)

-- of a block of a type that is read the first parameter out of form is reported, and there is no other
-- error
abbrev pub TellsFirstParameter : Type 0
TellsFirstParameter =
    (defaults : DefaultTexts) (peers : Peers) (section : SectionTree) (type_name : List ℕ)
    (type : BlockType) →
    block_type_of type_name ≡ Some type →
    unless_hollow (first_section (codes "System") section.items) type ≡ Ok type →
    result_err (block_typed defaults peers section type_name)
    ≡ option_map Parameter (first_bad peers (texts_by defaults section.items type_name) type)
