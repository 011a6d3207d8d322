-- What the leaves of a system's parameters read in a tick.
use Rattle.std.specs.Prelude.{◌≡◌, ℕ, ◌+◌, ◌-◌, ◌%◌, ◌<◌, ◌≤◌, true, List, ◌++◌, map, length, ℤ, pos, refl}
use Rattle.std.specs.List.{AllZip}
use Rattle.std.proofs.Common.{sym, ap, ◌∙◌, arith, true≢false}
use Rattle.std.proofs.lemmas.List.{length-map}
use Rattle.base_core.specs.declared.base.Control.{Control}
use Rattle.base_core.specs.declared.base.Control.TheVariants.{Plain, Enabled, Triggered, Both}
use Rattle.base_core.specs.declared.base.Port.{Port}
use Rattle.base_core.specs.declared.base.Port.TheVariants.{Number, Enable, Trigger}
use Rattle.base_fixed_point.specs.Conversion.{InType}
use Rattle.diagram_meaning.specs.ControlValues.{enable_in, trigger_in}
use Rattle.base_core.specs.Numbers.{int_at}
use Rattle.diagram_meaning.specs.Rows.{is_enabled, is_triggered}
use Rattle.modules_profile.specs.declared.local.LocalRow.{LocalRow}
use Rattle.modules_profile.specs.LocalSystem.{LocalSystem}
use Rattle.modules_profile.specs.Locals.{inports}
use Rattle.c_syntax.specs.Tree.{ParamTree}
use Rattle.c_semantics.specs.Cells.{Cells}
use Rattle.c_semantics.specs.Values.{leaf_reads}
use Rattle.c_semantics.specs.Machine.{Scope}
use Rattle.emit_shape.specs.Names.{now_name, input_name, control_name, trigger_param, port_name}
use Rattle.emit_shape.specs.Slots.{Slot}
use Rattle.right_relation.specs.LocalTicks.{LocalTick, IsTypedTick}
use Rattle.right_relation.specs.Instances.{InstanceTick, Offer}
use Rattle.right_relation.specs.NodeStatements.{IsArgument, now, input}
use Rattle.emit_system_spec.specs.Places.{param_leaf, now_leaf}
use Rattle.right_system_nodes.specs.PieceLaws.{HasParam}
use Rattle.right_system_nodes.proofs.lemmas.SlotLists.{index-left, index-right, zip-long}
use Rattle.right_system_nodes.proofs.Params.{IsRead, param-reads, no-input-control, no-now, same-input, trigger_place, PortAt, port-at, first_byte}

-- the controls by their places
enable-first : (control : Control) (controls : List ℤ) → is_enabled control ≡ true →
    int_at controls 0 ≡ enable_in control controls
enable-first Plain controls is = absurd (true≢false (sym is))
enable-first (Enabled reset) controls is = refl
enable-first (Triggered edge) controls is = absurd (true≢false (sym is))
enable-first (Both reset edge) controls is = refl

trigger-there : (control : Control) (controls : List ℤ) → is_triggered control ≡ true →
    int_at controls (trigger_place control) ≡ trigger_in control controls
trigger-there Plain controls is = absurd (true≢false (sym is))
trigger-there (Enabled reset) controls is = absurd (true≢false (sym is))
trigger-there (Triggered edge) controls is = refl
trigger-there (Both reset edge) controls is = refl

-- where a system has both controls, their parameters have different names
no-trigger : (control : Control) → is_enabled control ≡ true → is_triggered control ≡ true → trigger_param control ≡ control_name →
    ⊥
no-trigger Plain enabled triggered same = true≢false (sym enabled)
no-trigger (Enabled reset) enabled triggered same = true≢false (sym triggered)
no-trigger (Triggered edge) enabled triggered same = true≢false (sym enabled)
no-trigger (Both reset edge) enabled triggered same = let wrong : 116 ≡ 99 = ap first_byte same in omega (arith, wrong)

no-input-enable : (j : ℕ) → input_name j ≡ control_name → ⊥
no-input-enable j same = let wrong : 117 ≡ 99 = ap first_byte same in omega (arith, wrong)

module _ (local : LocalSystem) (slots : List Slot) (offers : List Offer) (children : List InstanceTick) (cycle : ℕ) (m : LocalTick)
    (params : List ParamTree) (scope : List ℤ → Scope) where
  abbrev Argument : ParamTree → ℤ → Type 0
  Argument = IsArgument local slots offers children cycle m params scope

  module _ (typed : IsTypedTick local m) (values : List ℤ) (cells : Cells) (arguments : AllZip Argument params values) where
    abbrev inputs : ℕ
    inputs = length (map (λ (r : LocalRow). r.out) (inports local))

    long : inputs ≡ length m.tick.inputs
    long = length-map (inports local) (λ (r : LocalRow). r.out)
        ∙ zip-long (λ (r : LocalRow) v. InType r.out v) (inports local) m.tick.inputs typed.inputs

    pub now-reads : HasParam params now_name → leaf_reads values cells (now_leaf params) ≡ pos (m.tick.t % cycle)
    now-reads has = by read.param read.value read.named read.related read.is
      where
        read : IsRead Argument now_name (leaf_reads values cells (now_leaf params))
        read = param-reads Argument now_name params values cells arguments has

        by : (p : ParamTree) (v : ℤ) → p.name ≡ now_name → Argument p v → leaf_reads values cells (now_leaf params) ≡ v →
            leaf_reads values cells (now_leaf params) ≡ pos (m.tick.t % cycle)
        by p v named (now is_now is) reads = reads ∙ is
        by p v named (input k i at is_port is) reads = absurd (no-now local.control i (sym named ∙ is_port))

    pub input-reads : (k : ℕ) → 0 < k → k ≤ 32 → length (inports local) ≤ 32 → HasParam params (input_name k) →
        leaf_reads values cells (param_leaf params (input_name k)) ≡ int_at m.tick.inputs (k - 1)
    input-reads k some low few has = by read.param read.value read.named read.related read.is
      where
        leaf_value : ℤ
        leaf_value = leaf_reads values cells (param_leaf params (input_name k))

        read : IsRead Argument (input_name k) leaf_value
        read = param-reads Argument (input_name k) params values cells arguments has

        short : inputs ≤ 32
        short = let size = length-map (inports local) (λ (r : LocalRow). r.out) in omega (arith, size, few)

        of-port : (n : ℕ) (i : Port) → PortAt local.control inputs n i → port_name local.control i ≡ input_name k →
            int_at (m.tick.inputs ++ m.tick.controls) n ≡ int_at m.tick.inputs (k - 1)
        of-port n (Number j) place named =
            let first = place.0 in let number = place.1 in
            let same : j ≡ k = same-input j k (omega (arith, first, number, short)) (omega (arith, low)) named in
            let below : n < length m.tick.inputs = omega (arith, first, long) in
            let is : n ≡ k - 1 = omega (arith, number, same) in
            index-left m.tick.inputs m.tick.controls n (pos 0) below ∙ ap (int_at m.tick.inputs) is
        of-port n Enable place named = absurd (no-input-enable k (sym named))
        of-port n Trigger place named = absurd (no-input-control local.control k named)

        by : (p : ParamTree) (v : ℤ) → p.name ≡ input_name k → Argument p v → leaf_value ≡ v →
            leaf_value ≡ int_at m.tick.inputs (k - 1)
        by p v named (now is_now is) reads = absurd (no-now local.control (Number k) (sym is_now ∙ named))
        by p v named (input n i at is_port is) reads =
            reads ∙ is ∙ of-port n i (port-at local.control inputs n i at) (sym is_port ∙ named)

    -- a control after the inputs
    control-there : (n i : ℕ) → n ≡ inputs + i → int_at (m.tick.inputs ++ m.tick.controls) n ≡ int_at m.tick.controls i
    control-there n i is =
        let same : n ≡ length m.tick.inputs + i = omega (arith, is, long) in
        ap (int_at (m.tick.inputs ++ m.tick.controls)) same ∙ index-right m.tick.inputs m.tick.controls i (pos 0)

    pub enable-reads : is_enabled local.control ≡ true → HasParam params control_name →
        leaf_reads values cells (param_leaf params control_name) ≡ enable_in local.control m.tick.controls
    enable-reads enabled has = by read.param read.value read.named read.related read.is
      where
        leaf_value : ℤ
        leaf_value = leaf_reads values cells (param_leaf params control_name)

        read : IsRead Argument control_name leaf_value
        read = param-reads Argument control_name params values cells arguments has

        of-port : (n : ℕ) (i : Port) → PortAt local.control inputs n i → port_name local.control i ≡ control_name →
            int_at (m.tick.inputs ++ m.tick.controls) n ≡ enable_in local.control m.tick.controls
        of-port n (Number j) place named = absurd (no-input-enable j named)
        of-port n Enable place named =
            let first = place.0 in
            control-there n 0 (omega (arith, first)) ∙ enable-first local.control m.tick.controls enabled
        of-port n Trigger place named = absurd (no-trigger local.control enabled place.1 named)

        by : (p : ParamTree) (v : ℤ) → p.name ≡ control_name → Argument p v → leaf_value ≡ v →
            leaf_value ≡ enable_in local.control m.tick.controls
        by p v named (now is_now is) reads = absurd (no-now local.control Enable (sym is_now ∙ named))
        by p v named (input n i at is_port is) reads =
            reads ∙ is ∙ of-port n i (port-at local.control inputs n i at) (sym is_port ∙ named)

    pub trigger-reads : is_triggered local.control ≡ true → HasParam params (trigger_param local.control) →
        leaf_reads values cells (param_leaf params (trigger_param local.control)) ≡ trigger_in local.control m.tick.controls
    trigger-reads triggered has = by read.param read.value read.named read.related read.is
      where
        leaf_value : ℤ
        leaf_value = leaf_reads values cells (param_leaf params (trigger_param local.control))

        read : IsRead Argument (trigger_param local.control) leaf_value
        read = param-reads Argument (trigger_param local.control) params values cells arguments has

        of-port : (n : ℕ) (i : Port) → PortAt local.control inputs n i → port_name local.control i ≡ trigger_param local.control →
            int_at (m.tick.inputs ++ m.tick.controls) n ≡ trigger_in local.control m.tick.controls
        of-port n (Number j) place named = absurd (no-input-control local.control j (sym named))
        of-port n Enable place named = absurd (no-trigger local.control place.1 triggered (sym named))
        of-port n Trigger place named =
            control-there n (trigger_place local.control) place.0 ∙ trigger-there local.control m.tick.controls triggered

        by : (p : ParamTree) (v : ℤ) → p.name ≡ trigger_param local.control → Argument p v → leaf_value ≡ v →
            leaf_value ≡ trigger_in local.control m.tick.controls
        by p v named (now is_now is) reads = absurd (no-now local.control Trigger (sym is_now ∙ named))
        by p v named (input n i at is_port is) reads =
            reads ∙ is ∙ of-port n i (port-at local.control inputs n i at) (sym is_port ∙ named)
