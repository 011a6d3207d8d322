-- What a block's section says, or what is wrong with it.
use Rattle.std.specs.Prelude.{ℕ, Bool, true, false, ◌||◌, ◌&&◌, if◌then◌else◌, List, Option, is_some, is_none, ok_or, Result, Ok, Err, bytes_eq, codes, nat_eq}
use Rattle.std.specs.List.{starts_with}
use Rattle.base_core.specs.declared.ParamName.{ParamName}
use Rattle.base_core.specs.declared.ParamName.TheVariants.{Name, OutDataTypeStr, SampleTime, PortDimensions, OutputWhenDisabled, InitialOutput, SystemSampleTime, ParamDataTypeStr, RndMeth, SaturateOnIntegerOverflow, Inputs, InitialCondition, Criteria, Threshold, Operator, ConvertRealWorld, Integrity, Deterministic, OutPortSampleTimeOpt, OutPortSampleTime, StatesWhenEnabling, TriggerType, DelayLength, DelayLengthSource, InitialConditionSource, ExternalReset}
use Rattle.base_core.specs.declared.ParamName.TheVariants as param
use Rattle.base_core.specs.declared.Edge.{Edge}
use Rattle.base_core.specs.declared.Compare.{Compare}
use Rattle.base_numerals.specs.Literals.{Ratio}
use Rattle.mdl_type_texts.specs.TypeTexts.{Inherit}
use Rattle.diagram_blocks.specs.declared.How.{How}
use Rattle.diagram_blocks.specs.declared.Logic.{Logic}
use Rattle.diagram_blocks.specs.declared.Criterion.{Criterion}
use Rattle.mdl_tree.specs.Spelling.{Items}
use Rattle.mdl_tree.specs.Walks.{SectionTree, first_section, first_value}
use Rattle.mdl_params.specs.declared.BlockType.{BlockType}
use Rattle.mdl_params.specs.declared.BlockType.TheVariants.{Inport, Outport, SubSystem, Constant, Ground, Terminator, Gain, Sum, Product, UnitDelay, Delay, ZeroOrderHold, Switch, RelationalOperator, DataTypeConversion, RateTransition, EnablePort, TriggerPort}
use Rattle.mdl_params.specs.declared.BlockType.TheVariants as block
use denote.Enum.Bare.{sameb}
use Rattle.mdl_params.specs.contracts.block_type.BlockType.{the_type}
use Rattle.mdl_params.specs.BlockTypes.{block_type_of, beside}
use Rattle.mdl_params.specs.Defaults.{DefaultTexts, parameter_text}
use Rattle.mdl_params.specs.Times as time
use Rattle.mdl_blocks.specs.declared.fault.Fault.{Fault}
use Rattle.mdl_blocks.specs.declared.fault.Fault.TheVariants.{Unsupported, Parameter}
use Rattle.mdl_blocks.specs.declared.peers.Peers.{Peers}
use Rattle.base_core.specs.Results.{◌>>=◌, ◌>>◌}
use Rattle.mdl_blocks.specs.Words.{number_in, number_up_to, samples_in, writes_minus_one, factor_in, initial_output_in, rounds, overs, edges, resets, inheritances, comparisons, logics, criteria}
use Rattle.mdl_blocks.specs.Signs.{sum_signs, product_count, logic_count}
use Rattle.mdl_blocks.specs.Meanings.{TypeSaid, known_type, TimeSaid, known_time, type_in, whole_type_in, any_time_in, time_in, out_time, ConstantSaid, constant_in}

-- ---- What a section says

-- What a block is, with its parameters.
pub data KindText : Type 0 where
  inport : (port : ℕ) → KindText
  outport : (port : ℕ) (reset : Bool) (initial : Ratio) → KindText
  subsystem : (system : SectionTree) → KindText
  constant : ConstantSaid → KindText
  ground : KindText
  terminator : KindText
  gain : (factor : Ratio) (factor_type : TypeSaid) (how : How) → KindText
  sum : (count : ℕ) (minus : ℕ) (how : How) → KindText
  product : (count : ℕ) (how : How) → KindText
  unit_delay : (initial : Ratio) → KindText
  delay : (length : ℕ) (initial : Ratio) → KindText
  zero_order_hold : KindText
  switch : (criterion : Criterion) (threshold : Ratio) (how : How) → KindText
  relational : Compare → KindText
  logic : (op : Logic) (count : ℕ) → KindText
  convert : How → KindText
  rate_transition : (initial : Ratio) (out : TimeSaid) → KindText
  enable_port : (reset : Bool) → KindText
  trigger_port : Edge → KindText

-- What a block is, and what is written for its type and its time.
pub record BodyText : Type 0 where
  pub kind : KindText
  pub type_text : TypeSaid
  pub time_text : TimeSaid

-- A block: its name, the line of its section, and what it is.
pub record BlockText : Type 0 where
  pub name : List ℕ
  pub line : ℕ
  pub body : BodyText

-- what is said for a type and a time of a block that has no such parameters: both are inherited
abbrev pub untyped : TypeSaid
untyped = known_type Inherit

abbrev pub untimed : TimeSaid
untimed = known_time time.Inherit

-- a block without a type and a time of its own
abbrev pub bare : KindText → BodyText
bare kind = record { kind = kind; type_text = untyped; time_text = untimed }

-- a block with a time of its own, and no type
abbrev pub timed : KindText → TimeSaid → BodyText
timed kind time = record { kind = kind; type_text = untyped; time_text = time }

-- a block with a type and a time of its own
abbrev pub typed : KindText → TypeSaid → TimeSaid → BodyText
typed kind type time = record { kind = kind; type_text = type; time_text = time }

-- ---- Parameters

-- The text that stands for each parameter of a block, or the error of one for which none does.
abbrev pub Texts : Type 0
Texts = ParamName → Result (List ℕ) Fault

-- the texts of a block of this type with these items, by the model's defaults
abbrev pub texts_by : DefaultTexts → Items → (type_name : List ℕ) → Texts
texts_by defaults items type_name name =
    ok_or (parameter_text defaults items type_name name) (Parameter name)

-- what a parameter's text means, or the error of that parameter
abbrev pub required : {A : Type 0} → (List ℕ → Option A) → Texts → ParamName → Result A Fault
required meaning texts name = do
  text ← texts name
  ok_or (meaning text) (Parameter name)

-- what a parameter's word means, or the error of that parameter
abbrev pub named : {A : Type 0} → List (List ℕ × A) → Texts → ParamName → Result A Fault
named words texts name = required (λ text. beside text words) texts name

-- nothing where a test passes, else the error of this parameter
abbrev pub unless_fault : Bool → ParamName → Result (Unit {0}) Fault
unless_fault true parameter = Ok tt
unless_fault false parameter = Err (Parameter parameter)

-- the error of a parameter whose text doesn't pass a test
abbrev pub checked : (List ℕ → Bool) → Texts → ParamName → Result (Unit {0}) Fault
checked test texts name = do
  text ← texts name
  unless_fault (test text) name

-- the error of a parameter whose text isn't this word
abbrev pub only : List ℕ → Texts → ParamName → Result (Unit {0}) Fault
only word texts name = checked (bytes_eq word) texts name

-- whether a signal has one element, by the text of its dimensions: -1 or 1
abbrev pub is_single : List ℕ → Bool
is_single text = writes_minus_one text || is_some (number_up_to 1 text)

-- whether a conversion keeps the real value, by its text
abbrev pub keeps_value : List ℕ → Bool
keeps_value text = starts_with nat_eq text (codes "Real World Value")

-- how a result is brought into its type
abbrev pub how_of : Texts → Result How Fault
how_of texts = do
  round ← named rounds texts RndMeth
  over ← named overs texts SaturateOnIntegerOverflow
  Ok (record { round = round; over = over })

-- ---- Each type of block, with its parameters in the order in which they are checked

abbrev pub inport_body : (inports : ℕ) → Texts → Result BodyText Fault
inport_body inports texts = do
  port ← required (number_up_to inports) texts param.Port
  type ← required type_in texts OutDataTypeStr
  time ← required time_in texts SampleTime
  checked is_single texts PortDimensions
  Ok (typed (inport port) type time)

abbrev pub outport_body : (outports : ℕ) → Texts → Result BodyText Fault
outport_body outports texts = do
  port ← required (number_up_to outports) texts param.Port
  type ← required type_in texts OutDataTypeStr
  time ← required time_in texts SampleTime
  checked is_single texts PortDimensions
  reset ← named resets texts OutputWhenDisabled
  initial ← required initial_output_in texts InitialOutput
  Ok (typed (outport port reset initial) type time)

abbrev pub subsystem_body : Option SectionTree → Texts → Result BodyText Fault
subsystem_body system texts = do
  inside ← ok_or system Unsupported
  checked writes_minus_one texts SystemSampleTime
  Ok (bare (subsystem inside))

abbrev pub constant_body : Texts → Result BodyText Fault
constant_body texts = do
  value ← required constant_in texts param.Value
  type ← required type_in texts OutDataTypeStr
  time ← required any_time_in texts SampleTime
  Ok (typed (constant value) type time)

abbrev pub gain_body : Texts → Result BodyText Fault
gain_body texts = do
  factor ← required factor_in texts param.Gain
  factor_type ← required type_in texts ParamDataTypeStr
  type ← required type_in texts OutDataTypeStr
  how ← how_of texts
  time ← required time_in texts SampleTime
  Ok (typed (gain factor factor_type how) type time)

abbrev pub sum_body : Texts → Result BodyText Fault
sum_body texts = do
  signs ← required sum_signs texts Inputs
  type ← required type_in texts OutDataTypeStr
  how ← how_of texts
  time ← required time_in texts SampleTime
  Ok (typed (sum signs.count signs.minus how) type time)

abbrev pub product_body : Texts → Result BodyText Fault
product_body texts = do
  count ← required product_count texts Inputs
  type ← required type_in texts OutDataTypeStr
  how ← how_of texts
  time ← required time_in texts SampleTime
  Ok (typed (product count how) type time)

abbrev pub unit_delay_body : Texts → Result BodyText Fault
unit_delay_body texts = do
  initial ← required number_in texts InitialCondition
  time ← required time_in texts SampleTime
  Ok (timed (unit_delay initial) time)

abbrev pub delay_body : Texts → Result BodyText Fault
delay_body texts = do
  length ← required samples_in texts DelayLength
  only (codes "Dialog") texts DelayLengthSource
  initial ← required number_in texts InitialCondition
  only (codes "Dialog") texts InitialConditionSource
  only (codes "None") texts ExternalReset
  time ← required time_in texts SampleTime
  Ok (timed (delay length initial) time)

abbrev pub hold_body : Texts → Result BodyText Fault
hold_body texts = do
  time ← required time_in texts SampleTime
  Ok (timed zero_order_hold time)

abbrev pub switch_body : Texts → Result BodyText Fault
switch_body texts = do
  criterion ← named criteria texts Criteria
  threshold ← required number_in texts Threshold
  type ← required type_in texts OutDataTypeStr
  how ← how_of texts
  time ← required time_in texts SampleTime
  Ok (typed (switch criterion threshold how) type time)

abbrev pub relational_body : Texts → Result BodyText Fault
relational_body texts = do
  comparison ← named comparisons texts Operator
  type ← required whole_type_in texts OutDataTypeStr
  time ← required time_in texts SampleTime
  Ok (typed (relational comparison) type time)

abbrev pub logic_body : Texts → Result BodyText Fault
logic_body texts = do
  op ← named logics texts Operator
  count ← required (logic_count op) texts Inputs
  type ← required whole_type_in texts OutDataTypeStr
  time ← required time_in texts SampleTime
  Ok (typed (logic op count) type time)

abbrev pub conversion_body : Texts → Result BodyText Fault
conversion_body texts = do
  type ← required type_in texts OutDataTypeStr
  checked keeps_value texts ConvertRealWorld
  how ← how_of texts
  time ← required time_in texts SampleTime
  Ok (typed (convert how) type time)

abbrev pub transition_body : Texts → Result BodyText Fault
transition_body texts = do
  only (codes "on") texts Integrity
  only (codes "on") texts Deterministic
  initial ← required number_in texts InitialCondition
  inherits ← named inheritances texts OutPortSampleTimeOpt
  time ← required time_in texts OutPortSampleTime
  Ok (bare (rate_transition initial (out_time inherits time)))

abbrev pub enable_body : Texts → Result BodyText Fault
enable_body texts = do
  reset ← named resets texts StatesWhenEnabling
  Ok (bare (enable_port reset))

abbrev pub trigger_body : Texts → Result BodyText Fault
trigger_body texts = do
  edge ← named edges texts TriggerType
  Ok (bare (trigger_port edge))

-- what a block of this type is, in a system with so many Inports and Outports, with this System
-- inside it if there is one
abbrev pub body_of : Peers → Option SectionTree → Texts → BlockType → Result BodyText Fault
body_of peers system texts Inport = inport_body peers.inports texts
body_of peers system texts Outport = outport_body peers.outports texts
body_of peers system texts SubSystem = subsystem_body system texts
body_of peers system texts Constant = constant_body texts
body_of peers system texts Ground = Ok (bare ground)
body_of peers system texts Terminator = Ok (bare terminator)
body_of peers system texts Gain = gain_body texts
body_of peers system texts Sum = sum_body texts
body_of peers system texts Product = product_body texts
body_of peers system texts UnitDelay = unit_delay_body texts
body_of peers system texts Delay = delay_body texts
body_of peers system texts ZeroOrderHold = hold_body texts
body_of peers system texts Switch = switch_body texts
body_of peers system texts RelationalOperator = relational_body texts
body_of peers system texts block.Logic = logic_body texts
body_of peers system texts DataTypeConversion = conversion_body texts
body_of peers system texts RateTransition = transition_body texts
body_of peers system texts EnablePort = enable_body texts
body_of peers system texts TriggerPort = trigger_body texts

-- ---- Blocks

-- whether two types are the same
abbrev pub is_same_type : BlockType → BlockType → Bool
is_same_type = sameb the_type

-- the type of a block with this System inside it: a subsystem without one isn't read
abbrev pub unless_hollow : Option SectionTree → BlockType → Result BlockType Fault
unless_hollow system type =
    if is_same_type type SubSystem && is_none system then Err Unsupported else Ok type

-- what a block with these items says, whose BlockType has this text
abbrev pub block_typed : DefaultTexts → Peers → SectionTree → (type_name : List ℕ) →
    Result BlockText Fault
block_typed defaults peers section type_name =
    let texts : Texts = texts_by defaults section.items type_name in
    let system : Option SectionTree = first_section (codes "System") section.items in do
      known ← ok_or (block_type_of type_name) Unsupported
      type ← unless_hollow system known
      name ← texts Name
      body ← body_of peers system texts type
      Ok (record { name = name; line = section.line; body = body })

-- what a block's section says, by the model's defaults, in a system with so many Inports and
-- Outports; or what is wrong with the block: that it isn't read, or else its first parameter
-- without a text of its form
abbrev pub block_of : DefaultTexts → Peers → SectionTree → Result BlockText Fault
block_of defaults peers section = do
  type_name ← ok_or (first_value (codes "BlockType") section.items) Unsupported
  block_typed defaults peers section type_name
