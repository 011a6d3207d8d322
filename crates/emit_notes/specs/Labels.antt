-- What the text of a model says of its blocks, as far as notes repeat it.
use Rattle.std.specs.Prelude.{◌≡◌, ℕ, List, map, Option, Ok}
use Rattle.mdl_tree.specs.Spelling.{Items}
use Rattle.mdl_params.specs.declared.BlockType.{BlockType}
use Rattle.mdl_params.specs.declared.BlockType.TheVariants.{Inport, Outport, SubSystem, Constant, Ground, Terminator, Gain, Sum, Product, UnitDelay, Delay, ZeroOrderHold, Switch, RelationalOperator, Logic, DataTypeConversion, RateTransition, EnablePort, TriggerPort}
use Rattle.mdl_blocks.specs.Blocks.{BlockText, KindText, inport, outport, subsystem, constant, ground, terminator, gain, sum, product, unit_delay, delay, zero_order_hold, switch, relational, logic, convert, rate_transition, enable_port, trigger_port}
use Rattle.mdl_systems.specs.Models as found
use Rattle.mdl_rows.specs.Models.{Block, model_with}
use Rattle.mdl_rows.specs.Interiors.{inport_number, outport_number}
use Rattle.mdl_rows.specs.Refusals.{defaults_of}
use Rattle.diagram_verdict.specs.Files.{IsFile}
use Rattle.emit_notes.specs.declared.labels.Label.{Label}
use Rattle.emit_notes.specs.declared.labels.Labels.{Labels}

-- the BlockType of a block
abbrev pub type_of_kind : KindText → BlockType
type_of_kind (inport port) = Inport
type_of_kind (outport port reset initial) = Outport
type_of_kind (subsystem system) = SubSystem
type_of_kind (constant value) = Constant
type_of_kind ground = Ground
type_of_kind terminator = Terminator
type_of_kind (gain factor factor_type how) = Gain
type_of_kind (sum count minus how) = Sum
type_of_kind (product count how) = Product
type_of_kind (unit_delay initial) = UnitDelay
type_of_kind (delay length initial) = Delay
type_of_kind zero_order_hold = ZeroOrderHold
type_of_kind (switch criterion threshold how) = Switch
type_of_kind (relational comparison) = RelationalOperator
type_of_kind (logic op count) = Logic
type_of_kind (convert how) = DataTypeConversion
type_of_kind (rate_transition initial out) = RateTransition
type_of_kind (enable_port reset) = EnablePort
type_of_kind (trigger_port edge) = TriggerPort

-- the label of a block in a subsystem, or in the root
abbrev pub label_with : Option ℕ → BlockText → Label
label_with owner b = record {
  block_type = type_of_kind b.body.kind;
  inport = inport_number b.body.kind;
  outport = outport_number b.body.kind;
  name = b.name;
  line = b.line;
  owner = owner;
}

abbrev pub label_of : Block → Label
label_of b = label_with b.owner b.text

-- ---- Of a model

-- the blocks of a model of a file, by their rows
abbrev pub model_blocks : found.Model → List Block
model_blocks model = (model_with (defaults_of model) model.system).blocks

abbrev pub model_labels : found.Model → List Label
model_labels model = map label_of (model_blocks model)

-- the labels that these values hold
abbrev pub labels_seen : Labels → List Label
labels_seen labels = labels.rows.items

-- they are those of the blocks of the model in a text
pub record AreLabelsOf (text : List ℕ) (labels : Labels) : Type 0 where
  pub file : Items
  pub is_file : IsFile text file
  pub model : found.Model
  pub is_model : found.model_of file ≡ Ok model
  pub labels_are : labels_seen labels ≡ model_labels model
