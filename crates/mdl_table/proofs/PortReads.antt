-- What a block that is read says of its BlockType and its port.
use Rattle.std.proofs.Common.{◌≡◌, refl, sym, ◌∙◌, ap, subst, ℕ, ◌<◌, ◌≤◌, nat_le, Bool, true, false, ◌&&◌, cond, List, [], ◌∷◌, Option, None, Some, is_some, codes, leb-true, true≢false}
use Rattle.std.specs.Prelude.{find, bytes_eq, ok_or, is_none, option_and_then, Result, Ok, Err}
use Rattle.std.specs.Option.{option_map_or}
use Rattle.std.proofs.lemmas.Slice.Eq.{bytes_eq-Decides}
use Rattle.base_core.specs.declared.ParamName.{ParamName}
use Rattle.base_core.specs.declared.ParamName.TheVariants.{Name, OutDataTypeStr, SampleTime, PortDimensions, OutputWhenDisabled, InitialOutput, SystemSampleTime, ParamDataTypeStr, Inputs, InitialCondition, Criteria, Threshold, Operator, ConvertRealWorld, Integrity, Deterministic, OutPortSampleTimeOpt, OutPortSampleTime, StatesWhenEnabling, TriggerType, DelayLength, DelayLengthSource, InitialConditionSource, ExternalReset}
use Rattle.base_core.specs.declared.ParamName.TheVariants as param
use Rattle.mdl_tree.specs.Spelling.{Items}
use Rattle.mdl_tree.specs.Walks.{SectionTree, first_section, first_value}
use Rattle.mdl_params.specs.declared.BlockType.{BlockType}
use Rattle.mdl_params.specs.declared.BlockType.TheVariants.{Inport, Outport, SubSystem, Constant, Ground, Terminator, Gain, Sum, Product, UnitDelay, Delay, ZeroOrderHold, Switch, RelationalOperator, Logic, DataTypeConversion, RateTransition, EnablePort, TriggerPort}
use Rattle.mdl_params.specs.BlockTypes.{block_types, block_type_name, block_type_of}
use Rattle.mdl_params.specs.Defaults.{DefaultTexts}
use Rattle.mdl_blocks.specs.declared.fault.Fault.{Fault}
use Rattle.mdl_blocks.specs.declared.fault.Fault.TheVariants.{Unsupported, Parameter}
use Rattle.mdl_blocks.specs.declared.peers.Peers.{Peers}
use Rattle.mdl_blocks.specs.Peers.{writes_type}
use Rattle.base_core.specs.Results.{◌>>=◌, ◌>>◌}
use Rattle.mdl_blocks.specs.Meanings.{type_in, whole_type_in, any_time_in, time_in, constant_in}
use Rattle.mdl_blocks.specs.Words.{number_in, number_up_to, whole_number, samples_in, writes_minus_one, factor_in, initial_output_in, edges, resets, inheritances, comparisons, logics, criteria}
use Rattle.mdl_blocks.specs.Signs.{sum_signs, product_count, logic_count}
use Rattle.mdl_blocks.specs.Blocks.{BodyText, BlockText, Texts, texts_by, required, named, checked, only, is_single, keeps_value, how_of, inport_body, outport_body, body_of, is_same_type, unless_hollow, block_typed, block_of}
use Rattle.mdl_rows.specs.Models.{system_in}
use Rattle.mdl_rows.specs.Interiors.{inport_number, outport_number}

-- ---- Values that are there

pub none-some : {A : Type 0} (x : A) → None ≡ Some x → ⊥
none-some x e = cc e

pub some-same : {A : Type 0} (x y : A) → Some x ≡ Some y → x ≡ y
some-same x y e = cc e

err-ok : {A E : Type 0} (fault : E) (x : A) → Err fault ≡ Ok x → ⊥
err-ok fault x e = cc e

ok-same : {A E : Type 0} (x y : A) → (let one : Result A E = Ok x in one) ≡ Ok y → x ≡ y
ok-same x y e = cc e

pub both-left : (a b : Bool) → (a && b) ≡ true → a ≡ true
both-left true b e = refl
both-left false b e = absurd (true≢false (sym e))

pub both-right : (a b : Bool) → (a && b) ≡ true → b ≡ true
both-right true b e = e
both-right false b e = absurd (true≢false (sym e))

-- ---- Ports

-- a port that is there is from 1 up to a greatest one
abbrev pub IsInRange : Option ℕ → (most : ℕ) → Type 0
IsInRange None most = Unit {0}
IsInRange (Some port) most = (0 < port) × (port ≤ most)

pub number-up-to : (most : ℕ) (text : List ℕ) (n : ℕ) → number_up_to most text ≡ Some n → IsInRange (Some n) most
number-up-to most text n e = by (whole_number text) e
  where
    up-to : (k : ℕ) → (nat_le 1 k && nat_le k most) ≡ true → IsInRange (Some k) most
    up-to k e = (leb-true 1 k (both-left (nat_le 1 k) (nat_le k most) e), leb-true k most (both-right (nat_le 1 k) (nat_le k most) e))

    within : (k : ℕ) (t : Bool) → (nat_le 1 k && nat_le k most) ≡ t → cond t (Some k) None ≡ Some n → IsInRange (Some n) most
    within k true p e = subst (λ n. IsInRange (Some n) most) (some-same k n e) (up-to k p)
    within k false p e = absurd (none-some n e)

    by : (o : Option ℕ) → option_and_then (λ n. cond (nat_le 1 n && nat_le n most) (Some n) None) o ≡ Some n → IsInRange (Some n) most
    by None e = absurd (none-some n e)
    by (Some k) e = within k (nat_le 1 k && nat_le k most) refl e

text-of : {A : Type 0} (meaning : List ℕ → Option A) (texts : Texts) (name : ParamName) (a : A) → required meaning texts name ≡ Ok a →
    (text : List ℕ) × (meaning text ≡ Some a)
text-of {A} meaning texts name a e = by (texts name) e
  where
    means : (text : List ℕ) (o : Option A) → meaning text ≡ o → ok_or o (Parameter name) ≡ Ok a → (text : List ℕ) × (meaning text ≡ Some a)
    means text None p e = absurd (err-ok (Parameter name) a e)
    means text (Some b) p e = (text, p ∙ ap Some (ok-same b a e))

    by : (r : Result (List ℕ) Fault) → (r >>= λ text. ok_or (meaning text) (Parameter name)) ≡ Ok a →
        (text : List ℕ) × (meaning text ≡ Some a)
    by (Ok text) e = means text (meaning text) refl e
    by (Err fault) e = absurd (err-ok fault a e)

port-range : (most : ℕ) (texts : Texts) (port : ℕ) → required (number_up_to most) texts param.Port ≡ Ok port → IsInRange (Some port) most
port-range most texts port e = let found = text-of (number_up_to most) texts param.Port port e in number-up-to most found.0 port found.1

-- ---- Each type of block

-- whether a type has this name
abbrev is_named : BlockType → BlockType → Bool
is_named type t = bytes_eq (block_type_name type) (block_type_name t)

-- what a block of this type is, in a system with so many Inports and Outports
record IsTyped (t : BlockType) (peers : Peers) (b : BodyText) : Type 0 where
  of_inport : is_named Inport t ≡ is_some (inport_number b.kind)
  of_outport : is_named Outport t ≡ is_some (outport_number b.kind)
  of_system : is_named SubSystem t ≡ is_some (system_in b.kind)
  in_range : IsInRange (inport_number b.kind) peers.inports
  out_range : IsInRange (outport_number b.kind) peers.outports

-- a result that is there has a property
abbrev Gives : {A E : Type 0} (P : A → Type 0) → Result A E → Type 0
Gives P (Ok a) = P a
Gives P (Err fault) = Unit {0}

bind : {A B E : Type 0} (P : B → Type 0) (r : Result A E) (go : A → Result B E) → ((a : A) → r ≡ Ok a → Gives P (go a)) → Gives P (r >>= go)
bind P (Ok a) go h = h a refl
bind P (Err fault) go h = tt

behind : {A B E : Type 0} (P : B → Type 0) (r : Result A E) (next : Result B E) → Gives P next → Gives P (r >> next)
behind P (Ok a) next h = h
behind P (Err fault) next h = tt

given : {A E : Type 0} (P : A → Type 0) (r : Result A E) (a : A) → Gives P r → r ≡ Ok a → P a
given P (Ok b) a h e = subst P (ap (λ x. elim x [ Ok y ↦ y | Err fault ↦ b ]) e) h
given P (Err fault) a h e = absurd (err-ok fault a e)

module _ (texts : Texts) (peers : Peers) where
  typed-inport : Gives (IsTyped Inport peers) (inport_body peers.inports texts)
  typed-inport =
      bind (IsTyped Inport peers) (required (number_up_to peers.inports) texts param.Port) _ (λ port p.
      bind (IsTyped Inport peers) (required type_in texts OutDataTypeStr) _ (λ type t.
      bind (IsTyped Inport peers) (required time_in texts SampleTime) _ (λ time u.
      behind (IsTyped Inport peers) (checked is_single texts PortDimensions) _
      (record {
        of_inport = refl;
        of_outport = refl;
        of_system = refl;
        in_range = port-range peers.inports texts port p;
        out_range = tt;
      }))))

  typed-outport : Gives (IsTyped Outport peers) (outport_body peers.outports texts)
  typed-outport =
      bind (IsTyped Outport peers) (required (number_up_to peers.outports) texts param.Port) _ (λ port p.
      bind (IsTyped Outport peers) (required type_in texts OutDataTypeStr) _ (λ type t.
      bind (IsTyped Outport peers) (required time_in texts SampleTime) _ (λ time u.
      behind (IsTyped Outport peers) (checked is_single texts PortDimensions) _ (
      bind (IsTyped Outport peers) (named resets texts OutputWhenDisabled) _ (λ reset r.
      bind (IsTyped Outport peers) (required initial_output_in texts InitialOutput) _ (λ initial i.
      record {
        of_inport = refl;
        of_outport = refl;
        of_system = refl;
        in_range = tt;
        out_range = port-range peers.outports texts port p;
      }))))))

  typed-body : (system : Option SectionTree) (t : BlockType) → Gives (IsTyped t peers) (body_of peers system texts t)
  typed-body system Inport = typed-inport
  typed-body system Outport = typed-outport
  typed-body system SubSystem =
      bind (IsTyped SubSystem peers) (ok_or system Unsupported) _ (λ inside s.
      behind (IsTyped SubSystem peers) (checked writes_minus_one texts SystemSampleTime) _
      (record { of_inport = refl; of_outport = refl; of_system = refl; in_range = tt; out_range = tt }))
  typed-body system Constant =
      bind (IsTyped Constant peers) (required constant_in texts param.Value) _ (λ value v.
      bind (IsTyped Constant peers) (required type_in texts OutDataTypeStr) _ (λ type t.
      bind (IsTyped Constant peers) (required any_time_in texts SampleTime) _ (λ time u.
      record { of_inport = refl; of_outport = refl; of_system = refl; in_range = tt; out_range = tt })))
  typed-body system Ground = record { of_inport = refl; of_outport = refl; of_system = refl; in_range = tt; out_range = tt }
  typed-body system Terminator = record { of_inport = refl; of_outport = refl; of_system = refl; in_range = tt; out_range = tt }
  typed-body system Gain =
      bind (IsTyped Gain peers) (required factor_in texts param.Gain) _ (λ factor f.
      bind (IsTyped Gain peers) (required type_in texts ParamDataTypeStr) _ (λ factor_type g.
      bind (IsTyped Gain peers) (required type_in texts OutDataTypeStr) _ (λ type t.
      bind (IsTyped Gain peers) (how_of texts) _ (λ how h.
      bind (IsTyped Gain peers) (required time_in texts SampleTime) _ (λ time u.
      record { of_inport = refl; of_outport = refl; of_system = refl; in_range = tt; out_range = tt })))))
  typed-body system Sum =
      bind (IsTyped Sum peers) (required sum_signs texts Inputs) _ (λ signs s.
      bind (IsTyped Sum peers) (required type_in texts OutDataTypeStr) _ (λ type t.
      bind (IsTyped Sum peers) (how_of texts) _ (λ how h.
      bind (IsTyped Sum peers) (required time_in texts SampleTime) _ (λ time u.
      record { of_inport = refl; of_outport = refl; of_system = refl; in_range = tt; out_range = tt }))))
  typed-body system Product =
      bind (IsTyped Product peers) (required product_count texts Inputs) _ (λ count c.
      bind (IsTyped Product peers) (required type_in texts OutDataTypeStr) _ (λ type t.
      bind (IsTyped Product peers) (how_of texts) _ (λ how h.
      bind (IsTyped Product peers) (required time_in texts SampleTime) _ (λ time u.
      record { of_inport = refl; of_outport = refl; of_system = refl; in_range = tt; out_range = tt }))))
  typed-body system UnitDelay =
      bind (IsTyped UnitDelay peers) (required number_in texts InitialCondition) _ (λ initial i.
      bind (IsTyped UnitDelay peers) (required time_in texts SampleTime) _ (λ time u.
      record { of_inport = refl; of_outport = refl; of_system = refl; in_range = tt; out_range = tt }))
  typed-body system Delay =
      bind (IsTyped Delay peers) (required samples_in texts DelayLength) _ (λ length n.
      behind (IsTyped Delay peers) (only (codes "Dialog") texts DelayLengthSource) _ (
      bind (IsTyped Delay peers) (required number_in texts InitialCondition) _ (λ initial i.
      behind (IsTyped Delay peers) (only (codes "Dialog") texts InitialConditionSource) _ (
      behind (IsTyped Delay peers) (only (codes "None") texts ExternalReset) _ (
      bind (IsTyped Delay peers) (required time_in texts SampleTime) _ (λ time u.
      record { of_inport = refl; of_outport = refl; of_system = refl; in_range = tt; out_range = tt }))))))
  typed-body system ZeroOrderHold =
      bind (IsTyped ZeroOrderHold peers) (required time_in texts SampleTime) _ (λ time u.
      record { of_inport = refl; of_outport = refl; of_system = refl; in_range = tt; out_range = tt })
  typed-body system Switch =
      bind (IsTyped Switch peers) (named criteria texts Criteria) _ (λ criterion c.
      bind (IsTyped Switch peers) (required number_in texts Threshold) _ (λ threshold r.
      bind (IsTyped Switch peers) (required type_in texts OutDataTypeStr) _ (λ type t.
      bind (IsTyped Switch peers) (how_of texts) _ (λ how h.
      bind (IsTyped Switch peers) (required time_in texts SampleTime) _ (λ time u.
      record { of_inport = refl; of_outport = refl; of_system = refl; in_range = tt; out_range = tt })))))
  typed-body system RelationalOperator =
      bind (IsTyped RelationalOperator peers) (named comparisons texts Operator) _ (λ comparison c.
      bind (IsTyped RelationalOperator peers) (required whole_type_in texts OutDataTypeStr) _ (λ type t.
      bind (IsTyped RelationalOperator peers) (required time_in texts SampleTime) _ (λ time u.
      record { of_inport = refl; of_outport = refl; of_system = refl; in_range = tt; out_range = tt })))
  typed-body system Logic =
      bind (IsTyped Logic peers) (named logics texts Operator) _ (λ op o.
      bind (IsTyped Logic peers) (required (logic_count op) texts Inputs) _ (λ count n.
      bind (IsTyped Logic peers) (required whole_type_in texts OutDataTypeStr) _ (λ type t.
      bind (IsTyped Logic peers) (required time_in texts SampleTime) _ (λ time u.
      record { of_inport = refl; of_outport = refl; of_system = refl; in_range = tt; out_range = tt }))))
  typed-body system DataTypeConversion =
      bind (IsTyped DataTypeConversion peers) (required type_in texts OutDataTypeStr) _ (λ type t.
      behind (IsTyped DataTypeConversion peers) (checked keeps_value texts ConvertRealWorld) _ (
      bind (IsTyped DataTypeConversion peers) (how_of texts) _ (λ how h.
      bind (IsTyped DataTypeConversion peers) (required time_in texts SampleTime) _ (λ time u.
      record { of_inport = refl; of_outport = refl; of_system = refl; in_range = tt; out_range = tt }))))
  typed-body system RateTransition =
      behind (IsTyped RateTransition peers) (only (codes "on") texts Integrity) _ (
      behind (IsTyped RateTransition peers) (only (codes "on") texts Deterministic) _ (
      bind (IsTyped RateTransition peers) (required number_in texts InitialCondition) _ (λ initial i.
      bind (IsTyped RateTransition peers) (named inheritances texts OutPortSampleTimeOpt) _ (λ inherits h.
      bind (IsTyped RateTransition peers) (required time_in texts OutPortSampleTime) _ (λ time u.
      record { of_inport = refl; of_outport = refl; of_system = refl; in_range = tt; out_range = tt })))))
  typed-body system EnablePort =
      bind (IsTyped EnablePort peers) (named resets texts StatesWhenEnabling) _ (λ reset r.
      record { of_inport = refl; of_outport = refl; of_system = refl; in_range = tt; out_range = tt })
  typed-body system TriggerPort =
      bind (IsTyped TriggerPort peers) (named edges texts TriggerType) _ (λ edge r.
      record { of_inport = refl; of_outport = refl; of_system = refl; in_range = tt; out_range = tt })

-- ---- Blocks

-- what a block with these items is, in a system with so many Inports and Outports
pub record IsReadAs (peers : Peers) (items : Items) (b : BlockText) : Type 0 where
  pub of_inport : writes_type Inport items ≡ is_some (inport_number b.body.kind)
  pub of_outport : writes_type Outport items ≡ is_some (outport_number b.body.kind)
  pub of_system : writes_type SubSystem items ≡ is_some (system_in b.body.kind)
  pub in_range : IsInRange (inport_number b.body.kind) peers.inports
  pub out_range : IsInRange (outport_number b.body.kind) peers.outports

-- the name that a type is found by is its own
find-named : (text : List ℕ) (t : BlockType) (types : List BlockType) →
    find (λ type. bytes_eq (block_type_name type) text) types ≡ Some t → bytes_eq (block_type_name t) text ≡ true
find-named text t [] e = absurd (none-some t e)
find-named text t (own ∷ types) e = by (bytes_eq (block_type_name own) text) refl e (find-named text t types)
  where
    by : (b : Bool) → bytes_eq (block_type_name own) text ≡ b →
        cond b (Some own) (find (λ type. bytes_eq (block_type_name type) text) types) ≡ Some t →
        (find (λ type. bytes_eq (block_type_name type) text) types ≡ Some t → bytes_eq (block_type_name t) text ≡ true) →
        bytes_eq (block_type_name t) text ≡ true
    by true p e more = subst (λ type. bytes_eq (block_type_name type) text ≡ true) (some-same own t e) p
    by false p e more = more e

module _ (defaults : DefaultTexts) (peers : Peers) (section : SectionTree) where
  type-there : (r : Option (List ℕ)) → first_value (codes "BlockType") section.items ≡ r →
      Gives (IsReadAs peers section.items) (ok_or r Unsupported >>= λ type_name. block_typed defaults peers section type_name)
  type-there None e = tt
  type-there (Some text) e = known (block_type_of text) refl
    where
      texts : Texts
      texts = texts_by defaults section.items text

      system : Option SectionTree
      system = first_section (codes "System") section.items

      writes : (type t : BlockType) → block_type_of text ≡ Some t → writes_type type section.items ≡ is_named type t
      writes type t p =
          ap (λ o. option_map_or (bytes_eq (block_type_name type)) o false) e
          ∙ ap (bytes_eq (block_type_name type)) (sym ((bytes_eq-Decides (block_type_name t) text).0 (find-named text t block_types p)))

      rest : (t : BlockType) → block_type_of text ≡ Some t →
          Gives (IsReadAs peers section.items) (texts Name >>= λ name. body_of peers system texts t >>= λ body. Ok
          (record { name = name; line = section.line; body = body }))
      rest t p =
          bind (IsReadAs peers section.items) (texts Name) _ (λ name n.
          bind (IsReadAs peers section.items) (body_of peers system texts t) _ (λ body b.
          let is = given (IsTyped t peers) (body_of peers system texts t) body (typed-body texts peers system t) b in
          record {
            of_inport = writes Inport t p ∙ is.of_inport;
            of_outport = writes Outport t p ∙ is.of_outport;
            of_system = writes SubSystem t p ∙ is.of_system;
            in_range = is.in_range;
            out_range = is.out_range;
          }))

      hollow : (t : BlockType) (is : Bool) → block_type_of text ≡ Some t →
          Gives (IsReadAs peers section.items) ((cond is (Err Unsupported) (Ok t)) >>= λ type.
          texts Name >>= λ name. body_of peers system texts type >>= λ body. Ok (record { name = name; line = section.line; body = body }))
      hollow t true p = tt
      hollow t false p = rest t p

      known : (o : Option BlockType) → block_type_of text ≡ o →
          Gives (IsReadAs peers section.items) (ok_or o Unsupported >>= λ own. unless_hollow system own >>= λ type.
          texts Name >>= λ name. body_of peers system texts type >>= λ body. Ok (record { name = name; line = section.line; body = body }))
      known None p = tt
      known (Some t) p = hollow t (is_same_type t SubSystem && is_none system) p

  -- what a block that is read is
  pub block-read : (b : BlockText) → block_of defaults peers section ≡ Ok b → IsReadAs peers section.items b
  block-read b e = given (IsReadAs peers section.items) (block_of defaults peers section) b
      (type-there (first_value (codes "BlockType") section.items) refl) e
