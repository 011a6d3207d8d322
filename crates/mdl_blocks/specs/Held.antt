-- Blocks in memory, as plain ones.
use Rattle.std.specs.Prelude.{Option, option_map}
use denote.Ref.{Bor}
use Rattle.base_numerals.specs.Literals.{ratio_of}
use Rattle.mdl_type_texts.specs.TypeTexts.{meaning_of}
use Rattle.mdl_tree.specs.declared.tree.Section.{Section}
use Rattle.mdl_tree.specs.Walks.{SectionTree}
use Rattle.mdl_tree.specs.Values.{section_tree}
use Rattle.mdl_params.specs.Times.{time_of}
use Rattle.mdl_blocks.specs.declared.written.WrittenType.{WrittenType}
use Rattle.mdl_blocks.specs.declared.written.WrittenType.TheVariants as a_type
use Rattle.mdl_blocks.specs.declared.written.WrittenTime.{WrittenTime}
use Rattle.mdl_blocks.specs.declared.written.WrittenTime.TheVariants as a_time
use Rattle.mdl_blocks.specs.declared.written.WrittenConstant.{WrittenConstant}
use Rattle.mdl_blocks.specs.declared.kind.BlockKind.{BlockKind}
use Rattle.mdl_blocks.specs.declared.kind.BlockKind.TheVariants as held
use Rattle.mdl_blocks.specs.declared.block.Body.{Body}
use Rattle.mdl_blocks.specs.declared.block.Block.{Block}
use Rattle.mdl_blocks.specs.declared.texts.BlockTexts.{BlockTexts}
use Rattle.mdl_blocks.specs.Meanings.{TypeSaid, known_type, float_type, TimeSaid, known_time, zero_time, ConstantSaid}
use Rattle.mdl_blocks.specs.Blocks.{KindText, inport, outport, subsystem, constant, ground, terminator, gain, sum, product, unit_delay, delay, zero_order_hold, switch, relational, logic, convert, rate_transition, enable_port, trigger_port, BodyText, BlockText, Texts, texts_by}

-- what is written for a type
abbrev pub type_said : WrittenType → TypeSaid
type_said (a_type.Known text) = known_type (meaning_of text)
type_said a_type.Float = float_type

-- what is written for a time
abbrev pub time_said : WrittenTime → TimeSaid
time_said (a_time.Known text) = known_time (time_of text)
time_said a_time.Zero = zero_time

-- what is written for a constant
abbrev pub constant_said : WrittenConstant → ConstantSaid
constant_said c = record { value = ratio_of c.value; is_truth = c.is_truth }

-- what a block is
abbrev pub kind_text : BlockKind → KindText
kind_text (held.Inport port) = inport port
kind_text (held.Outport port reset initial) = outport port reset (ratio_of initial)
kind_text (held.SubSystem system) = subsystem (section_tree system.now)
kind_text (held.Constant value) = constant (constant_said value)
kind_text held.Ground = ground
kind_text held.Terminator = terminator
kind_text (held.Gain factor factor_type how) = gain (ratio_of factor) (type_said factor_type) how
kind_text (held.Sum signs how) = sum signs.count signs.minus how
kind_text (held.Product count how) = product count how
kind_text (held.UnitDelay initial) = unit_delay (ratio_of initial)
kind_text (held.Delay length initial) = delay length (ratio_of initial)
kind_text held.ZeroOrderHold = zero_order_hold
kind_text (held.Switch criterion threshold how) = switch criterion (ratio_of threshold) how
kind_text (held.Relational comparison) = relational comparison
kind_text (held.Logic op count) = logic op count
kind_text (held.Convert how) = convert how
kind_text (held.RateTransition initial out) = rate_transition (ratio_of initial) (time_said out)
kind_text (held.EnablePort reset) = enable_port reset
kind_text (held.TriggerPort edge) = trigger_port edge

-- the same with its type and its time
abbrev pub body_text : Body → BodyText
body_text b =
    record {
      kind = kind_text b.kind;
      type_text = type_said b.type_text;
      time_text = time_said b.time_text;
    }

-- a block
abbrev pub block_text : Block → BlockText
block_text b = record { name = b.name.now; line = b.line; body = body_text b.body }

-- the texts of a block's parameters
abbrev pub texts_of : BlockTexts → Texts
texts_of t = texts_by t.defaults.now (section_tree t.section.now).items t.type_name.now

-- the System inside a block, if there is one
abbrev pub system_tree : Option (Bor Section) → Option SectionTree
system_tree system = option_map (λ s. section_tree s.now) system
