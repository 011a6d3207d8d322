-- What a block that is read says is within its limits.
use Rattle.std.proofs.Common.{◌≡◌, refl, sym, ◌∙◌, ap, subst, ℕ, ◌^◌, ◌<◌, Bool, true, false, ◌&&◌, cond, List, Option, None, Some, is_some, codes}
use Rattle.std.specs.Prelude.{[], ◌∷◌, find, bytes_eq, ok_or, is_none, Result, Ok, Err}
use Rattle.std.specs.Option.{option_map_or}
use Rattle.std.proofs.lemmas.Slice.Eq.{bytes_eq-Decides}
use Rattle.base_core.specs.declared.ParamName.{ParamName}
use Rattle.base_core.specs.declared.ParamName.TheVariants.{Name, OutDataTypeStr, SampleTime, PortDimensions, OutputWhenDisabled, InitialOutput, SystemSampleTime, ParamDataTypeStr, Inputs, InitialCondition, Criteria, Threshold, Operator, ConvertRealWorld, Integrity, Deterministic, OutPortSampleTimeOpt, OutPortSampleTime, StatesWhenEnabling, TriggerType, DelayLength, DelayLengthSource, InitialConditionSource, ExternalReset}
use Rattle.base_core.specs.declared.ParamName.TheVariants as param
use Rattle.diagram_blocks.specs.declared.Kind.TheVariants as row
use Rattle.diagram_blocks.specs.Limits.{IsCount, IsDelayLength}
use Rattle.diagram_meaning.specs.WellFormed.{IsKind}
use Rattle.mdl_tree.specs.Walks.{SectionTree, first_section, first_value}
use Rattle.mdl_params.specs.declared.BlockType.{BlockType}
use Rattle.mdl_params.specs.declared.BlockType.TheVariants.{Inport, Outport, SubSystem, Constant, Ground, Terminator, Gain, Sum, Product, UnitDelay, Delay, ZeroOrderHold, Switch, RelationalOperator, Logic, DataTypeConversion, RateTransition, EnablePort, TriggerPort}
use Rattle.mdl_params.specs.BlockTypes.{block_types, block_type_name, block_type_of}
use Rattle.mdl_params.specs.Defaults.{DefaultTexts}
use Rattle.mdl_blocks.specs.declared.fault.Fault.TheVariants.{Unsupported}
use Rattle.mdl_blocks.specs.declared.peers.Peers.{Peers}
use Rattle.mdl_blocks.specs.Peers.{writes_type}
use Rattle.base_core.specs.Results.{◌>>=◌, ◌>>◌}
use Rattle.mdl_blocks.specs.Meanings.{TypeSaid, type_in, whole_type_in, TimeSaid, any_time_in, time_in, constant_in}
use Rattle.mdl_blocks.specs.Words.{number_in, number_up_to, samples_in, writes_minus_one, factor_in, initial_output_in, edges, resets, inheritances, comparisons, logics, criteria}
use Rattle.mdl_blocks.specs.Signs.{sum_signs, product_count, logic_count}
use Rattle.mdl_blocks.specs.Blocks.{KindText, inport, outport, subsystem, constant, ground, terminator, gain, sum, product, unit_delay, delay, zero_order_hold, switch, relational, logic, convert, rate_transition, enable_port, trigger_port, BodyText, BlockText, untyped, untimed, Texts, texts_by, required, named, checked, only, is_single, keeps_value, how_of, inport_body, outport_body, subsystem_body, constant_body, gain_body, sum_body, product_body, unit_delay_body, delay_body, hold_body, switch_body, relational_body, logic_body, conversion_body, transition_body, enable_body, trigger_body, body_of, is_same_type, unless_hollow, block_typed, block_of}
use Rattle.mdl_rows.specs.Models.{system_in}
use Rattle.mdl_table.proofs.NumberValues.{IsDecimal}
use Rattle.mdl_table.proofs.SaidValues.{none-some, some-same, err-ok, text-of, number-sound, initial-sound, IsFactor, factor-sound, number-up-to, IsMask, signs-sound, factors-sound, logic-sound, IsSoundConstant, constant-sound, IsSoundType, IsWhole, IsWholeType, type-sound, whole-sound, IsSoundTime, IsVarying, IsVaryingTime, any-time-sound, time-sound, out-sound}

-- ---- What bodies say

-- the numbers of a kind are within their limits
abbrev pub IsSoundKind : KindText → Type 0
IsSoundKind (outport port reset initial) = IsDecimal initial
IsSoundKind (constant said) = IsSoundConstant said
IsSoundKind (gain factor factor_type how) = IsFactor factor × IsSoundType factor_type
IsSoundKind (sum count minus how) = IsCount count × (minus < 2 ^ count)
IsSoundKind (product count how) = IsCount count
IsSoundKind (unit_delay initial) = IsDecimal initial
IsSoundKind (delay length initial) = IsDelayLength length × IsDecimal initial
IsSoundKind (switch criterion threshold how) = IsDecimal threshold
IsSoundKind (logic op count) = IsKind (row.Logic op count)
IsSoundKind (rate_transition initial out) = IsDecimal initial × IsVaryingTime out
IsSoundKind _ = Unit {0}

-- the types that may be said for a kind
abbrev pub IsTypeFor : KindText → TypeSaid → Type 0
IsTypeFor (inport port) type = Unit {0}
IsTypeFor (outport port reset initial) type = Unit {0}
IsTypeFor (constant said) type = Unit {0}
IsTypeFor (gain factor factor_type how) type = Unit {0}
IsTypeFor (sum count minus how) type = Unit {0}
IsTypeFor (product count how) type = Unit {0}
IsTypeFor (switch criterion threshold how) type = Unit {0}
IsTypeFor (relational comparison) type = IsWhole type
IsTypeFor (logic op count) type = IsWhole type
IsTypeFor (convert how) type = Unit {0}
IsTypeFor _ type = type ≡ untyped

-- the times that may be said for a kind
abbrev pub IsTimeFor : KindText → TimeSaid → Type 0
IsTimeFor (subsystem system) time = time ≡ untimed
IsTimeFor (constant said) time = Unit {0}
IsTimeFor ground time = time ≡ untimed
IsTimeFor terminator time = time ≡ untimed
IsTimeFor (rate_transition initial out) time = time ≡ untimed
IsTimeFor (enable_port reset) time = time ≡ untimed
IsTimeFor (trigger_port edge) time = time ≡ untimed
IsTimeFor _ time = IsVarying time

-- whether two types have one name
abbrev pub is_named : BlockType → BlockType → Bool
is_named type t = bytes_eq (block_type_name type) (block_type_name t)

-- what a block of this type says is within its limits; it has a System inside where it is a subsystem
pub record IsSound (t : BlockType) (b : BodyText) : Type 0 where
  pub kind : IsSoundKind b.kind
  pub inside : is_some (system_in b.kind) ≡ is_named SubSystem t
  pub type : IsSoundType b.type_text
  pub type_for : IsTypeFor b.kind b.type_text
  pub time : IsSoundTime b.time_text
  pub time_for : IsTimeFor b.kind b.time_text

-- ---- Results one after another

-- a result that is there has a property
abbrev pub Gives : {A E : Type 0} (P : A → Type 0) → Result A E → Type 0
Gives P (Ok a) = P a
Gives P (Err fault) = Unit {0}

bind : {A B E : Type 0} (P : B → Type 0) (r : Result A E) (go : A → Result B E) → ((a : A) → r ≡ Ok a → Gives P (go a)) → Gives P (r >>= go)
bind P (Ok a) go h = h a refl
bind P (Err fault) go h = tt

behind : {A B E : Type 0} (P : B → Type 0) (r : Result A E) (next : Result B E) → Gives P next → Gives P (r >> next)
behind P (Ok a) next h = h
behind P (Err fault) next h = tt

pub given : {A E : Type 0} (P : A → Type 0) (r : Result A E) (a : A) → Gives P r → r ≡ Ok a → P a
given P (Ok b) a h e = subst P (ap (λ x. elim x [ Ok y ↦ y | Err fault ↦ b ]) e) h
given P (Err fault) a h e = absurd (err-ok fault a e)

-- what holds of what a text means holds of what is required
of-text : {A : Type 0} (P : A → Type 0) (meaning : List ℕ → Option A) (texts : Texts) (name : ParamName) (a : A) →
    ((text : List ℕ) (a : A) → meaning text ≡ Some a → P a) → required meaning texts name ≡ Ok a → P a
of-text P meaning texts name a h e = let text = text-of meaning texts name a e in h text.0 a text.1

-- ---- Each type of block

module _ (texts : Texts) where
  typed-by : (said : TypeSaid) → required type_in texts OutDataTypeStr ≡ Ok said → IsSoundType said
  typed-by said e = of-text IsSoundType type_in texts OutDataTypeStr said type-sound e

  whole-by : (said : TypeSaid) → required whole_type_in texts OutDataTypeStr ≡ Ok said → IsWholeType said
  whole-by said e = of-text IsWholeType whole_type_in texts OutDataTypeStr said whole-sound e

  timed-by : (said : TimeSaid) → required time_in texts SampleTime ≡ Ok said → IsVaryingTime said
  timed-by said e = of-text IsVaryingTime time_in texts SampleTime said time-sound e

  inport-sound : (inports : ℕ) → Gives (IsSound Inport) (inport_body inports texts)
  inport-sound inports =
      bind (IsSound Inport) (required (number_up_to inports) texts param.Port) _ (λ port p.
      bind (IsSound Inport) (required type_in texts OutDataTypeStr) _ (λ type t.
      bind (IsSound Inport) (required time_in texts SampleTime) _ (λ time u.
      behind (IsSound Inport) (checked is_single texts PortDimensions) _ (
      let varying = timed-by time u in
      record { kind = tt; inside = refl; type = typed-by type t; type_for = tt; time = varying.0; time_for = varying.1 }))))

  outport-sound : (outports : ℕ) → Gives (IsSound Outport) (outport_body outports texts)
  outport-sound outports =
      bind (IsSound Outport) (required (number_up_to outports) texts param.Port) _ (λ port p.
      bind (IsSound Outport) (required type_in texts OutDataTypeStr) _ (λ type t.
      bind (IsSound Outport) (required time_in texts SampleTime) _ (λ time u.
      behind (IsSound Outport) (checked is_single texts PortDimensions) _ (
      bind (IsSound Outport) (named resets texts OutputWhenDisabled) _ (λ reset r.
      bind (IsSound Outport) (required initial_output_in texts InitialOutput) _ (λ initial i.
      let varying = timed-by time u in
      record {
        kind = of-text IsDecimal initial_output_in texts InitialOutput initial initial-sound i;
        inside = refl;
        type = typed-by type t;
        type_for = tt;
        time = varying.0;
        time_for = varying.1;
      }))))))

  subsystem-sound : (system : Option SectionTree) → Gives (IsSound SubSystem) (subsystem_body system texts)
  subsystem-sound system =
      bind (IsSound SubSystem) (ok_or system Unsupported) _ (λ inside s.
      behind (IsSound SubSystem) (checked writes_minus_one texts SystemSampleTime) _
      (record { kind = tt; inside = refl; type = tt; type_for = refl; time = tt; time_for = refl }))

  constant-body-sound : Gives (IsSound Constant) (constant_body texts)
  constant-body-sound =
      bind (IsSound Constant) (required constant_in texts param.Value) _ (λ value v.
      bind (IsSound Constant) (required type_in texts OutDataTypeStr) _ (λ type t.
      bind (IsSound Constant) (required any_time_in texts SampleTime) _ (λ time u.
      record {
        kind = of-text IsSoundConstant constant_in texts param.Value value constant-sound v;
        inside = refl;
        type = typed-by type t;
        type_for = tt;
        time = of-text IsSoundTime any_time_in texts SampleTime time any-time-sound u;
        time_for = tt;
      })))

  gain-sound : Gives (IsSound Gain) (gain_body texts)
  gain-sound =
      bind (IsSound Gain) (required factor_in texts param.Gain) _ (λ factor f.
      bind (IsSound Gain) (required type_in texts ParamDataTypeStr) _ (λ factor_type g.
      bind (IsSound Gain) (required type_in texts OutDataTypeStr) _ (λ type t.
      bind (IsSound Gain) (how_of texts) _ (λ how h.
      bind (IsSound Gain) (required time_in texts SampleTime) _ (λ time u.
      let varying = timed-by time u in
      record {
        kind = (
          of-text IsFactor factor_in texts param.Gain factor factor-sound f,
          of-text IsSoundType type_in texts ParamDataTypeStr factor_type type-sound g,
        );
        inside = refl;
        type = typed-by type t;
        type_for = tt;
        time = varying.0;
        time_for = varying.1;
      })))))

  sum-sound : Gives (IsSound Sum) (sum_body texts)
  sum-sound =
      bind (IsSound Sum) (required sum_signs texts Inputs) _ (λ signs s.
      bind (IsSound Sum) (required type_in texts OutDataTypeStr) _ (λ type t.
      bind (IsSound Sum) (how_of texts) _ (λ how h.
      bind (IsSound Sum) (required time_in texts SampleTime) _ (λ time u.
      let varying = timed-by time u in
      record {
        kind = of-text IsMask sum_signs texts Inputs signs signs-sound s;
        inside = refl;
        type = typed-by type t;
        type_for = tt;
        time = varying.0;
        time_for = varying.1;
      }))))

  product-sound : Gives (IsSound Product) (product_body texts)
  product-sound =
      bind (IsSound Product) (required product_count texts Inputs) _ (λ count c.
      bind (IsSound Product) (required type_in texts OutDataTypeStr) _ (λ type t.
      bind (IsSound Product) (how_of texts) _ (λ how h.
      bind (IsSound Product) (required time_in texts SampleTime) _ (λ time u.
      let varying = timed-by time u in
      record {
        kind = of-text IsCount product_count texts Inputs count factors-sound c;
        inside = refl;
        type = typed-by type t;
        type_for = tt;
        time = varying.0;
        time_for = varying.1;
      }))))

  initial-by : (initial : _) → required number_in texts InitialCondition ≡ Ok initial → IsDecimal initial
  initial-by initial e = of-text IsDecimal number_in texts InitialCondition initial number-sound e

  unit_delay-sound : Gives (IsSound UnitDelay) (unit_delay_body texts)
  unit_delay-sound =
      bind (IsSound UnitDelay) (required number_in texts InitialCondition) _ (λ initial i.
      bind (IsSound UnitDelay) (required time_in texts SampleTime) _ (λ time u.
      let varying = timed-by time u in
      record { kind = initial-by initial i; inside = refl; type = tt; type_for = refl; time = varying.0; time_for = varying.1 }))

  delay-sound : Gives (IsSound Delay) (delay_body texts)
  delay-sound =
      bind (IsSound Delay) (required samples_in texts DelayLength) _ (λ length n.
      behind (IsSound Delay) (only (codes "Dialog") texts DelayLengthSource) _ (
      bind (IsSound Delay) (required number_in texts InitialCondition) _ (λ initial i.
      behind (IsSound Delay) (only (codes "Dialog") texts InitialConditionSource) _ (
      behind (IsSound Delay) (only (codes "None") texts ExternalReset) _ (
      bind (IsSound Delay) (required time_in texts SampleTime) _ (λ time u.
      let varying = timed-by time u in
      record {
        kind = (of-text IsDelayLength samples_in texts DelayLength length (number-up-to 65_535) n, initial-by initial i);
        inside = refl;
        type = tt;
        type_for = refl;
        time = varying.0;
        time_for = varying.1;
      }))))))

  hold-sound : Gives (IsSound ZeroOrderHold) (hold_body texts)
  hold-sound =
      bind (IsSound ZeroOrderHold) (required time_in texts SampleTime) _ (λ time u.
      let varying = timed-by time u in
      record { kind = tt; inside = refl; type = tt; type_for = refl; time = varying.0; time_for = varying.1 })

  switch-sound : Gives (IsSound Switch) (switch_body texts)
  switch-sound =
      bind (IsSound Switch) (named criteria texts Criteria) _ (λ criterion c.
      bind (IsSound Switch) (required number_in texts Threshold) _ (λ threshold r.
      bind (IsSound Switch) (required type_in texts OutDataTypeStr) _ (λ type t.
      bind (IsSound Switch) (how_of texts) _ (λ how h.
      bind (IsSound Switch) (required time_in texts SampleTime) _ (λ time u.
      let varying = timed-by time u in
      record {
        kind = of-text IsDecimal number_in texts Threshold threshold number-sound r;
        inside = refl;
        type = typed-by type t;
        type_for = tt;
        time = varying.0;
        time_for = varying.1;
      })))))

  relational-sound : Gives (IsSound RelationalOperator) (relational_body texts)
  relational-sound =
      bind (IsSound RelationalOperator) (named comparisons texts Operator) _ (λ comparison c.
      bind (IsSound RelationalOperator) (required whole_type_in texts OutDataTypeStr) _ (λ type t.
      bind (IsSound RelationalOperator) (required time_in texts SampleTime) _ (λ time u.
      let whole = whole-by type t in
      let varying = timed-by time u in
      record { kind = tt; inside = refl; type = whole.0; type_for = whole.1; time = varying.0; time_for = varying.1 })))

  logic-body-sound : Gives (IsSound Logic) (logic_body texts)
  logic-body-sound =
      bind (IsSound Logic) (named logics texts Operator) _ (λ op o.
      bind (IsSound Logic) (required (logic_count op) texts Inputs) _ (λ count n.
      bind (IsSound Logic) (required whole_type_in texts OutDataTypeStr) _ (λ type t.
      bind (IsSound Logic) (required time_in texts SampleTime) _ (λ time u.
      let whole = whole-by type t in
      let varying = timed-by time u in
      record {
        kind = of-text (λ n. IsKind (row.Logic op n)) (logic_count op) texts Inputs count (logic-sound op) n;
        inside = refl;
        type = whole.0;
        type_for = whole.1;
        time = varying.0;
        time_for = varying.1;
      }))))

  conversion-sound : Gives (IsSound DataTypeConversion) (conversion_body texts)
  conversion-sound =
      bind (IsSound DataTypeConversion) (required type_in texts OutDataTypeStr) _ (λ type t.
      behind (IsSound DataTypeConversion) (checked keeps_value texts ConvertRealWorld) _ (
      bind (IsSound DataTypeConversion) (how_of texts) _ (λ how h.
      bind (IsSound DataTypeConversion) (required time_in texts SampleTime) _ (λ time u.
      let varying = timed-by time u in
      record { kind = tt; inside = refl; type = typed-by type t; type_for = tt; time = varying.0; time_for = varying.1 }))))

  transition-sound : Gives (IsSound RateTransition) (transition_body texts)
  transition-sound =
      behind (IsSound RateTransition) (only (codes "on") texts Integrity) _ (
      behind (IsSound RateTransition) (only (codes "on") texts Deterministic) _ (
      bind (IsSound RateTransition) (required number_in texts InitialCondition) _ (λ initial i.
      bind (IsSound RateTransition) (named inheritances texts OutPortSampleTimeOpt) _ (λ inherits h.
      bind (IsSound RateTransition) (required time_in texts OutPortSampleTime) _ (λ time u.
      record {
        kind = (initial-by initial i, out-sound inherits time (of-text IsVaryingTime time_in texts OutPortSampleTime time time-sound u));
        inside = refl;
        type = tt;
        type_for = refl;
        time = tt;
        time_for = refl;
      })))))

  enable-sound : Gives (IsSound EnablePort) (enable_body texts)
  enable-sound =
      bind (IsSound EnablePort) (named resets texts StatesWhenEnabling) _ (λ reset r.
      record { kind = tt; inside = refl; type = tt; type_for = refl; time = tt; time_for = refl })

  trigger-sound : Gives (IsSound TriggerPort) (trigger_body texts)
  trigger-sound =
      bind (IsSound TriggerPort) (named edges texts TriggerType) _ (λ edge r.
      record { kind = tt; inside = refl; type = tt; type_for = refl; time = tt; time_for = refl })

  body-sound : (peers : Peers) (system : Option SectionTree) (t : BlockType) → Gives (IsSound t) (body_of peers system texts t)
  body-sound peers system Inport = inport-sound peers.inports
  body-sound peers system Outport = outport-sound peers.outports
  body-sound peers system SubSystem = subsystem-sound system
  body-sound peers system Constant = constant-body-sound
  body-sound peers system Ground = record { kind = tt; inside = refl; type = tt; type_for = refl; time = tt; time_for = refl }
  body-sound peers system Terminator = record { kind = tt; inside = refl; type = tt; type_for = refl; time = tt; time_for = refl }
  body-sound peers system Gain = gain-sound
  body-sound peers system Sum = sum-sound
  body-sound peers system Product = product-sound
  body-sound peers system UnitDelay = unit_delay-sound
  body-sound peers system Delay = delay-sound
  body-sound peers system ZeroOrderHold = hold-sound
  body-sound peers system Switch = switch-sound
  body-sound peers system RelationalOperator = relational-sound
  body-sound peers system Logic = logic-body-sound
  body-sound peers system DataTypeConversion = conversion-sound
  body-sound peers system RateTransition = transition-sound
  body-sound peers system EnablePort = enable-sound
  body-sound peers system TriggerPort = trigger-sound

-- ---- Blocks

-- what a block with these items says is within its limits; it is a subsystem where its BlockType says so
pub record IsSoundBlock (section : SectionTree) (b : BlockText) : Type 0 where
  pub type : BlockType
  pub sound : IsSound type b.body
  pub named : writes_type SubSystem section.items ≡ is_named SubSystem type

-- the name that a type is found by is its own
find-named : (text : List ℕ) (t : BlockType) (types : List BlockType) →
    find (λ type. bytes_eq (block_type_name type) text) types ≡ Some t → bytes_eq (block_type_name t) text ≡ true
find-named text t [] e = absurd (none-some t e)
find-named text t (own ∷ types) e = by (bytes_eq (block_type_name own) text) refl e (find-named text t types)
  where
    by : (b : Bool) → bytes_eq (block_type_name own) text ≡ b →
        cond b (Some own) (find (λ type. bytes_eq (block_type_name type) text) types) ≡ Some t →
        (find (λ type. bytes_eq (block_type_name type) text) types ≡ Some t → bytes_eq (block_type_name t) text ≡ true) →
        bytes_eq (block_type_name t) text ≡ true
    by true p e more = subst (λ type. bytes_eq (block_type_name type) text ≡ true) (some-same own t e) p
    by false p e more = more e

module _ (defaults : DefaultTexts) (peers : Peers) (section : SectionTree) where
  type-there : (r : Option (List ℕ)) → first_value (codes "BlockType") section.items ≡ r →
      Gives (IsSoundBlock section) (ok_or r Unsupported >>= λ type_name. block_typed defaults peers section type_name)
  type-there None e = tt
  type-there (Some text) e = known (block_type_of text) refl
    where
      texts : Texts
      texts = texts_by defaults section.items text

      system : Option SectionTree
      system = first_section (codes "System") section.items

      is-subsystem : (t : BlockType) → block_type_of text ≡ Some t → writes_type SubSystem section.items ≡ is_named SubSystem t
      is-subsystem t p =
          ap (λ o. option_map_or (bytes_eq (block_type_name SubSystem)) o false) e
          ∙ ap (bytes_eq (block_type_name SubSystem))
          (sym ((bytes_eq-Decides (block_type_name t) text).0 (find-named text t block_types p)))

      rest : (t : BlockType) → block_type_of text ≡ Some t →
          Gives (IsSoundBlock section)
          (texts Name >>= λ name. body_of peers system texts t >>= λ body. Ok (record { name = name; line = section.line; body = body }))
      rest t p =
          bind (IsSoundBlock section) (texts Name) _ (λ name n.
          bind (IsSoundBlock section) (body_of peers system texts t) _ (λ body b.
          record {
            type = t;
            sound = given (IsSound t) (body_of peers system texts t) body (body-sound texts peers system t) b;
            named = is-subsystem t p;
          }))

      hollow : (t : BlockType) (is : Bool) → block_type_of text ≡ Some t →
          Gives (IsSoundBlock section) ((cond is (Err Unsupported) (Ok t)) >>= λ type.
          texts Name >>= λ name. body_of peers system texts type >>= λ body. Ok (record { name = name; line = section.line; body = body }))
      hollow t true p = tt
      hollow t false p = rest t p

      known : (o : Option BlockType) → block_type_of text ≡ o →
          Gives (IsSoundBlock section) (ok_or o Unsupported >>= λ own. unless_hollow system own >>= λ type.
          texts Name >>= λ name. body_of peers system texts type >>= λ body. Ok (record { name = name; line = section.line; body = body }))
      known None p = tt
      known (Some t) p = hollow t (is_same_type t SubSystem && is_none system) p

  -- what a block that is read says
  pub block-sound : (b : BlockText) → block_of defaults peers section ≡ Ok b → IsSoundBlock section b
  block-sound b e =
      given (IsSoundBlock section) (block_of defaults peers section) b (type-there (first_value (codes "BlockType") section.items) refl) e
