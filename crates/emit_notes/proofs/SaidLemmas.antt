-- The label that a block's section says is that of what is read of the block.
use Rattle.std.proofs.Common.{◌≡◌, refl, sym, ◌∙◌, ap, ap₂, subst, ℕ, ◌+◌, ◌<◌, Bool, true, false, ◌&&◌, cond, List, [], ◌∷◌, ◌++◌, length, map, take, slice_index_or, Option, None, Some, codes, nat_le, leb-true, ◌≤◌, arith}
use Rattle.std.proofs.lemmas.Bool.{le-leb}
use Rattle.std.specs.Prelude.{filter_map, option_map, option_and_then, option_to_list, is_none, ok_or, Result, Ok, Err}
use Rattle.std.specs.List.{AllByRecursion, cons_option}
use Rattle.std.specs.Result.{result_ok}
use Rattle.std.proofs.lemmas.List.{map-append, take_more}
use Rattle.std.proofs.lemmas.List.Elements.{filter_map-append}
use Rattle.base_core.specs.declared.ParamName.TheVariants.{Name, OutDataTypeStr, SampleTime, PortDimensions, OutputWhenDisabled, InitialOutput, SystemSampleTime, ParamDataTypeStr, Inputs, InitialCondition, Criteria, Threshold, Operator, ConvertRealWorld, Integrity, Deterministic, OutPortSampleTimeOpt, OutPortSampleTime, StatesWhenEnabling, TriggerType, DelayLength, DelayLengthSource, InitialConditionSource, ExternalReset}
use Rattle.base_core.specs.declared.ParamName.TheVariants as param
use Rattle.base_core.specs.Results.{◌>>=◌, ◌>>◌}
use Rattle.mdl_tree.specs.Walks.{SectionTree, first_section, first_value}
use Rattle.mdl_params.specs.declared.BlockType.{BlockType}
use Rattle.mdl_params.specs.declared.BlockType.TheVariants.{Inport, Outport, SubSystem, Constant, Ground, Terminator, Gain, Sum, Product, UnitDelay, Delay, ZeroOrderHold, Switch, RelationalOperator, Logic, DataTypeConversion, RateTransition, EnablePort, TriggerPort}
use Rattle.mdl_params.specs.BlockTypes.{block_type_of}
use Rattle.mdl_params.specs.Defaults.{DefaultTexts, parameter_text}
use Rattle.mdl_blocks.specs.declared.fault.Fault.{Fault}
use Rattle.mdl_blocks.specs.declared.fault.Fault.TheVariants.{Unsupported, Parameter}
use Rattle.mdl_blocks.specs.declared.peers.Peers.{Peers}
use Rattle.mdl_blocks.specs.Meanings.{type_in, whole_type_in, any_time_in, time_in, constant_in}
use Rattle.mdl_blocks.specs.Words.{number_in, number_up_to, whole_number, samples_in, writes_minus_one, factor_in, initial_output_in, edges, resets, inheritances, comparisons, logics, criteria}
use Rattle.mdl_blocks.specs.Signs.{sum_signs, product_count, logic_count}
use Rattle.mdl_blocks.specs.Blocks.{BodyText, BlockText, Texts, texts_by, required, named, checked, only, is_single, keeps_value, how_of, inport_body, outport_body, subsystem_body, constant_body, gain_body, sum_body, product_body, unit_delay_body, delay_body, hold_body, switch_body, relational_body, logic_body, conversion_body, transition_body, enable_body, trigger_body, body_of, is_same_type, unless_hollow, block_typed, block_of}
use Rattle.mdl_systems.specs.Outlines.{Outline}
use Rattle.mdl_systems.specs.Refusals.{read}
use Rattle.mdl_rows.specs.Models.{Block, block_read}
use Rattle.mdl_rows.specs.Interiors.{inport_number, outport_number}
use Rattle.mdl_table.proofs.lemmas.RowBlocks.{IsReadable}
use Rattle.emit_notes.specs.declared.labels.Label.{Label}
use Rattle.emit_notes.specs.declared.sections.PlacedSection.{PlacedSection}
use Rattle.emit_notes.specs.Labels.{label_of, label_with, type_of_kind}
use Rattle.emit_notes.proofs.SectionLemmas.{AllFit32, Fits32}
use Rattle.emit_notes.specs.Sections.{BlockSection, all_seen, section_of, section_seen, inport_said, outport_said, port_said, label_named, label_typed, label_said}

-- ---- Results one after another

-- a result that is there has a property
abbrev Gives : {A E : Type 0} (P : A → Type 0) → Result A E → Type 0
Gives P (Ok a) = P a
Gives P (Err fault) = Unit {0}

given : {A E : Type 0} (P : A → Type 0) (r : Result A E) (a : A) → Gives P r → r ≡ Ok a → P a
given P (Ok b) a h e = subst P (ap (λ x. elim x [ Ok y ↦ y | Err fault ↦ b ]) e) h
given P (Err fault) a h e = cc e

with-result : {A B E : Type 0} (P : B → Type 0) (r : Result A E) (go : A → Result B E) → ((a : A) → r ≡ Ok a → Gives P (go a)) → Gives P (r >>= go)
with-result P (Ok a) go h = h a refl
with-result P (Err fault) go h = tt

after : {A B E : Type 0} (P : B → Type 0) (r : Result A E) (go : A → Result B E) → ((a : A) → Gives P (go a)) → Gives P (r >>= go)
after P r go h = with-result P r go (λ a e. h a)

behind : {A B E : Type 0} (P : B → Type 0) (r : Result A E) (rest : Result B E) → Gives P rest → Gives P (r >> rest)
behind P (Ok a) rest h = h
behind P (Err fault) rest h = tt

-- a number up to a greatest one that fits 32 bits does too
number-fits : (most port : ℕ) (text : List ℕ) → most ≤ 4_294_967_295 → number_up_to most text ≡ Some port →
    number_up_to 4_294_967_295 text ≡ Some port
number-fits most port text fits e = by (whole_number text) e
  where
    within : (n : ℕ) (some few : Bool) → nat_le n most ≡ few → cond (some && few) (Some n) None ≡ Some port →
        cond (some && nat_le n 4_294_967_295) (Some n) None ≡ Some port
    within n true true p e =
        ap (λ t. cond t (Some n) None) (le-leb n 4_294_967_295 (let low = leb-true n most p in omega (arith, low, fits))) ∙ e
    within n true false p e = cc e
    within n false few p e = e

    by : (o : Option ℕ) → option_and_then (λ n. cond (nat_le 1 n && nat_le n most) (Some n) None) o ≡ Some port →
        option_and_then (λ n. cond (nat_le 1 n && nat_le n 4_294_967_295) (Some n) None) o ≡ Some port
    by None e = e
    by (Some n) e = within n (nat_le 1 n) (nat_le n most) refl e

-- a number that is required is said
number-there : (most port : ℕ) (text : Option (List ℕ)) → most ≤ 4_294_967_295 →
    (ok_or text (Parameter param.Port) >>= λ t. ok_or (number_up_to most t) (Parameter param.Port)) ≡ Ok port →
    option_and_then (number_up_to 4_294_967_295) text ≡ Some port
number-there most port None fits e = cc e
number-there most port (Some text) fits e = number-fits most port text fits (by (number_up_to most text) e)
  where
    by : (n : Option ℕ) → ok_or n (Parameter param.Port) ≡ Ok port → n ≡ Some port
    by None e = cc e
    by (Some n) e = ap (λ x. elim x [ Ok y ↦ Some y | Err fault ↦ Some n ]) e

-- ---- Each type of block

-- what is read of a block of this type, which says this port, has the type and the ports of its label
record IsSaid (said : Option ℕ) (type : BlockType) (body : BodyText) : Type 0 where
  is : type_of_kind body.kind ≡ type
  inport : inport_number body.kind ≡ inport_said type said
  outport : outport_number body.kind ≡ outport_said type said

module _ (said : Option ℕ) (texts : Texts) where
  abbrev Said : BlockType → BodyText → Type 0
  Said = IsSaid said

  inport-said : (inports : ℕ) → ((port : ℕ) → required (number_up_to inports) texts param.Port ≡ Ok port → said ≡ Some port) →
      Gives (Said Inport) (inport_body inports texts)
  inport-said inports h =
      with-result (Said Inport) (required (number_up_to inports) texts param.Port) _ (λ port e.
      after (Said Inport) (required type_in texts OutDataTypeStr) _ (λ type.
      after (Said Inport) (required time_in texts SampleTime) _ (λ time.
      behind (Said Inport) (checked is_single texts PortDimensions) _ (
      record { is = refl; inport = sym (h port e); outport = refl }))))

  outport-said : (outports : ℕ) → ((port : ℕ) → required (number_up_to outports) texts param.Port ≡ Ok port → said ≡ Some port) →
      Gives (Said Outport) (outport_body outports texts)
  outport-said outports h =
      with-result (Said Outport) (required (number_up_to outports) texts param.Port) _ (λ port e.
      after (Said Outport) (required type_in texts OutDataTypeStr) _ (λ type.
      after (Said Outport) (required time_in texts SampleTime) _ (λ time.
      behind (Said Outport) (checked is_single texts PortDimensions) _ (
      after (Said Outport) (named resets texts OutputWhenDisabled) _ (λ reset.
      after (Said Outport) (required initial_output_in texts InitialOutput) _ (λ initial.
      record { is = refl; inport = refl; outport = sym (h port e) }))))))

  subsystem-said : (system : Option SectionTree) → Gives (Said SubSystem) (subsystem_body system texts)
  subsystem-said system =
      after (Said SubSystem) (ok_or system Unsupported) _ (λ inside.
      behind (Said SubSystem) (checked writes_minus_one texts SystemSampleTime) _ (
      record { is = refl; inport = refl; outport = refl }))

  constant-said : Gives (Said Constant) (constant_body texts)
  constant-said =
      after (Said Constant) (required constant_in texts param.Value) _ (λ value.
      after (Said Constant) (required type_in texts OutDataTypeStr) _ (λ type.
      after (Said Constant) (required any_time_in texts SampleTime) _ (λ time.
      record { is = refl; inport = refl; outport = refl })))

  gain-said : Gives (Said Gain) (gain_body texts)
  gain-said =
      after (Said Gain) (required factor_in texts param.Gain) _ (λ factor.
      after (Said Gain) (required type_in texts ParamDataTypeStr) _ (λ factor_type.
      after (Said Gain) (required type_in texts OutDataTypeStr) _ (λ type.
      after (Said Gain) (how_of texts) _ (λ how.
      after (Said Gain) (required time_in texts SampleTime) _ (λ time.
      record { is = refl; inport = refl; outport = refl })))))

  sum-said : Gives (Said Sum) (sum_body texts)
  sum-said =
      after (Said Sum) (required sum_signs texts Inputs) _ (λ signs.
      after (Said Sum) (required type_in texts OutDataTypeStr) _ (λ type.
      after (Said Sum) (how_of texts) _ (λ how.
      after (Said Sum) (required time_in texts SampleTime) _ (λ time.
      record { is = refl; inport = refl; outport = refl }))))

  product-said : Gives (Said Product) (product_body texts)
  product-said =
      after (Said Product) (required product_count texts Inputs) _ (λ count.
      after (Said Product) (required type_in texts OutDataTypeStr) _ (λ type.
      after (Said Product) (how_of texts) _ (λ how.
      after (Said Product) (required time_in texts SampleTime) _ (λ time.
      record { is = refl; inport = refl; outport = refl }))))

  unit_delay-said : Gives (Said UnitDelay) (unit_delay_body texts)
  unit_delay-said =
      after (Said UnitDelay) (required number_in texts InitialCondition) _ (λ initial.
      after (Said UnitDelay) (required time_in texts SampleTime) _ (λ time.
      record { is = refl; inport = refl; outport = refl }))

  delay-said : Gives (Said Delay) (delay_body texts)
  delay-said =
      after (Said Delay) (required samples_in texts DelayLength) _ (λ length.
      behind (Said Delay) (only (codes "Dialog") texts DelayLengthSource) _ (
      after (Said Delay) (required number_in texts InitialCondition) _ (λ initial.
      behind (Said Delay) (only (codes "Dialog") texts InitialConditionSource) _ (
      behind (Said Delay) (only (codes "None") texts ExternalReset) _ (
      after (Said Delay) (required time_in texts SampleTime) _ (λ time.
      record { is = refl; inport = refl; outport = refl }))))))

  hold-said : Gives (Said ZeroOrderHold) (hold_body texts)
  hold-said =
      after (Said ZeroOrderHold) (required time_in texts SampleTime) _ (λ time.
      record { is = refl; inport = refl; outport = refl })

  switch-said : Gives (Said Switch) (switch_body texts)
  switch-said =
      after (Said Switch) (named criteria texts Criteria) _ (λ criterion.
      after (Said Switch) (required number_in texts Threshold) _ (λ threshold.
      after (Said Switch) (required type_in texts OutDataTypeStr) _ (λ type.
      after (Said Switch) (how_of texts) _ (λ how.
      after (Said Switch) (required time_in texts SampleTime) _ (λ time.
      record { is = refl; inport = refl; outport = refl })))))

  relational-said : Gives (Said RelationalOperator) (relational_body texts)
  relational-said =
      after (Said RelationalOperator) (named comparisons texts Operator) _ (λ comparison.
      after (Said RelationalOperator) (required whole_type_in texts OutDataTypeStr) _ (λ type.
      after (Said RelationalOperator) (required time_in texts SampleTime) _ (λ time.
      record { is = refl; inport = refl; outport = refl })))

  logic-said : Gives (Said Logic) (logic_body texts)
  logic-said =
      after (Said Logic) (named logics texts Operator) _ (λ op.
      after (Said Logic) (required (logic_count op) texts Inputs) _ (λ count.
      after (Said Logic) (required whole_type_in texts OutDataTypeStr) _ (λ type.
      after (Said Logic) (required time_in texts SampleTime) _ (λ time.
      record { is = refl; inport = refl; outport = refl }))))

  conversion-said : Gives (Said DataTypeConversion) (conversion_body texts)
  conversion-said =
      after (Said DataTypeConversion) (required type_in texts OutDataTypeStr) _ (λ type.
      behind (Said DataTypeConversion) (checked keeps_value texts ConvertRealWorld) _ (
      after (Said DataTypeConversion) (how_of texts) _ (λ how.
      after (Said DataTypeConversion) (required time_in texts SampleTime) _ (λ time.
      record { is = refl; inport = refl; outport = refl }))))

  transition-said : Gives (Said RateTransition) (transition_body texts)
  transition-said =
      behind (Said RateTransition) (only (codes "on") texts Integrity) _ (
      behind (Said RateTransition) (only (codes "on") texts Deterministic) _ (
      after (Said RateTransition) (required number_in texts InitialCondition) _ (λ initial.
      after (Said RateTransition) (named inheritances texts OutPortSampleTimeOpt) _ (λ inherits.
      after (Said RateTransition) (required time_in texts OutPortSampleTime) _ (λ time.
      record { is = refl; inport = refl; outport = refl })))))

  enable-said : Gives (Said EnablePort) (enable_body texts)
  enable-said =
      after (Said EnablePort) (named resets texts StatesWhenEnabling) _ (λ reset.
      record { is = refl; inport = refl; outport = refl })

  trigger-said : Gives (Said TriggerPort) (trigger_body texts)
  trigger-said =
      after (Said TriggerPort) (named edges texts TriggerType) _ (λ edge.
      record { is = refl; inport = refl; outport = refl })

  body-said : (peers : Peers) (system : Option SectionTree) →
      ((port : ℕ) → required (number_up_to peers.inports) texts param.Port ≡ Ok port → said ≡ Some port) →
      ((port : ℕ) → required (number_up_to peers.outports) texts param.Port ≡ Ok port → said ≡ Some port) →
      (type : BlockType) → Gives (Said type) (body_of peers system texts type)
  body-said peers system i o Inport = inport-said peers.inports i
  body-said peers system i o Outport = outport-said peers.outports o
  body-said peers system i o SubSystem = subsystem-said system
  body-said peers system i o Constant = constant-said
  body-said peers system i o Ground = record { is = refl; inport = refl; outport = refl }
  body-said peers system i o Terminator = record { is = refl; inport = refl; outport = refl }
  body-said peers system i o Gain = gain-said
  body-said peers system i o Sum = sum-said
  body-said peers system i o Product = product-said
  body-said peers system i o UnitDelay = unit_delay-said
  body-said peers system i o Delay = delay-said
  body-said peers system i o ZeroOrderHold = hold-said
  body-said peers system i o Switch = switch-said
  body-said peers system i o RelationalOperator = relational-said
  body-said peers system i o Logic = logic-said
  body-said peers system i o DataTypeConversion = conversion-said
  body-said peers system i o RateTransition = transition-said
  body-said peers system i o EnablePort = enable-said
  body-said peers system i o TriggerPort = trigger-said

-- ---- Blocks

module _ (defaults : DefaultTexts) (b : BlockSection) (peers : Peers) (fit : Fits32 peers) where
  -- the label that is said is that of what is read
  abbrev IsLabelled : Option Label → BlockText → Type 0
  IsLabelled label text = label ≡ Some (label_with b.owner text)

  typed-said : (type_name : List ℕ) → Gives (IsLabelled (label_typed defaults b type_name)) (block_typed defaults peers b.section type_name)
  typed-said type_name = known (block_type_of type_name)
    where
      texts : Texts
      texts = texts_by defaults b.section.items type_name

      system : Option SectionTree
      system = first_section (codes "System") b.section.items

      as_port : Option ℕ
      as_port = port_said defaults b.section type_name

      there : (most : ℕ) → most ≤ 4_294_967_295 → (port : ℕ) → required (number_up_to most) texts param.Port ≡ Ok port → as_port ≡ Some port
      there most fits port e = number-there most port (parameter_text defaults b.section.items type_name param.Port) fits e

      labelled : (type : BlockType) (name : List ℕ) (body : BodyText) →
          IsSaid as_port type body →
          label_named defaults b type_name type name
          ≡ label_with b.owner (record { name = name; line = b.section.line; body = body })
      labelled type name body said =
          ap₂ (λ t i. record {
            block_type = t;
            inport = i;
            outport = outport_said type as_port;
            name = name;
            line = b.section.line;
            owner = b.owner;
          }) (sym said.is) (sym said.inport)
          ∙ ap (λ o. record {
            block_type = type_of_kind body.kind;
            inport = inport_number body.kind;
            outport = o;
            name = name;
            line = b.section.line;
            owner = b.owner;
          }) (sym said.outport)

      with-name : (type : BlockType) (name : Option (List ℕ)) →
          Gives (IsLabelled (option_map (label_named defaults b type_name type) name))
          (ok_or name (Parameter Name) >>= λ name. body_of peers system texts type >>= λ body.
          Ok (record { name = name; line = b.section.line; body = body }))
      with-name type None = tt
      with-name type (Some name) =
          with-result (IsLabelled (Some (label_named defaults b type_name type name))) (body_of peers system texts type) _ (λ body e.
          ap Some (labelled type name body
          (given (IsSaid as_port type) (body_of peers system texts type) body
          (body-said as_port texts peers system
          (there peers.inports fit.0) (there peers.outports fit.1) type) e)))

      hollow : (type : BlockType) (is : Bool) (name : Option (List ℕ)) →
          Gives (IsLabelled (option_map (label_named defaults b type_name type) name))
          ((cond is (Err Unsupported) (Ok type)) >>= λ type. ok_or name (Parameter Name) >>= λ name.
          body_of peers system texts type >>= λ body. Ok (record { name = name; line = b.section.line; body = body }))
      hollow type true name = tt
      hollow type false name = with-name type name

      known : (o : Option BlockType) →
          Gives (IsLabelled (option_and_then (λ type. option_map (label_named defaults b type_name type)
          (parameter_text defaults b.section.items type_name Name)) o))
          (ok_or o Unsupported >>= λ own. unless_hollow system own >>= λ type. texts Name >>= λ name.
          body_of peers system texts type >>= λ body. Ok (record { name = name; line = b.section.line; body = body }))
      known None = tt
      known (Some type) =
          hollow type (is_same_type type SubSystem && is_none system) (parameter_text defaults b.section.items type_name Name)

  block-said : Gives (IsLabelled (label_said defaults b)) (block_of defaults peers b.section)
  block-said = by (first_value (codes "BlockType") b.section.items)
    where
      by : (type_name : Option (List ℕ)) →
          Gives (IsLabelled (option_and_then (label_typed defaults b) type_name))
          (ok_or type_name Unsupported >>= λ type_name. block_typed defaults peers b.section type_name)
      by None = tt
      by (Some type_name) = typed-said type_name

-- the labels that the sections of blocks say are those of what is read
pub labels-said : (defaults : DefaultTexts) (os : List Outline) → AllFit32 os → AllByRecursion (IsReadable defaults) os →
    filter_map (label_said defaults) (map section_of os) ≡ map label_of (filter_map (block_read defaults) os)
labels-said defaults [] fit all = refl
labels-said defaults (o ∷ os) fit all =
    let text : BlockText = all.0.0 in
    let more : List Block = filter_map (block_read defaults) os in
    ap₂ cons_option
    (given (IsLabelled defaults (section_of o) o.peers fit.0 (label_said defaults (section_of o))) (read defaults o) text
    (block-said defaults (section_of o) o.peers fit.0) all.0.1)
    (labels-said defaults os fit.1 all.1)
    ∙ sym (ap (λ r. map label_of (cons_option (seen r) more)) all.0.1)
  where
    seen : Result BlockText Fault → Option Block
    seen r = option_map (λ text. record { number = o.number; owner = o.owner; text = text }) (result_ok r)

-- the label that one section more says
pub more-said : (defaults : DefaultTexts) (ps : List PlacedSection) (i : ℕ) (p : PlacedSection) (label : Option Label) →
    i < length ps → p ≡ slice_index_or ps i p → label ≡ label_said defaults (section_seen p) →
    filter_map (label_said defaults) (all_seen (take i ps)) ++ option_to_list label
    ≡ filter_map (label_said defaults) (all_seen (take (i + 1) ps))
more-said defaults ps i p label h is e =
    ap (λ o. before ++ option_to_list o) e ∙ ap (λ xs. before ++ xs) (one (label_said defaults (section_seen p)))
    ∙ sym (ap (λ xs. filter_map (label_said defaults) (all_seen xs)) (take_more ps i p h ∙ ap (λ x. take i ps ++ x ∷ []) (sym is))
    ∙ ap (filter_map (label_said defaults)) (map-append section_seen (take i ps) (p ∷ []))
    ∙ filter_map-append (label_said defaults) (all_seen (take i ps)) (section_seen p ∷ []))
  where
    before : List Label
    before = filter_map (label_said defaults) (all_seen (take i ps))

    one : (o : Option Label) → option_to_list o ≡ cons_option o []
    one None = refl
    one (Some l) = refl
