-- What the code of a system reads is there, and its tests keep the rules of C and are shallow.
use Rattle.std.specs.Prelude.{◌≡◌, ℕ, suc, ◌+◌, ◌^◌, ◌<◌, ◌≤◌, Bool, true, false, cond, if◌then◌else◌, bytes_eq, List, [], ◌∷◌, map, flat_map, length, get_or, slice_get, unwrap_or, Contains, Option, Some, None}
use Rattle.std.specs.List.{AllByRecursion, enumerate_from, position_from}
use Rattle.std.specs.Option.{option_map_or, option_and_then}
use Rattle.std.proofs.Common.{refl, sym, ap, subst, ◌∙◌, arith, inl, inr}
use Rattle.std.proofs.lemmas.List.{length-map}
use Rattle.std.proofs.lemmas.List.Elements.{Contains-append_cases}
use Rattle.base_core.specs.declared.base.Control.{Control}
use Rattle.base_core.specs.declared.base.Control.TheVariants.{Plain, Enabled, Triggered, Both}
use Rattle.diagram_meaning.specs.Rows.{is_triggered}
use Rattle.diagram_blocks.specs.Kinds.{is_inport, port_of, is_delay}
use Rattle.diagram_meaning.specs.SampleTimes.{every_tick}
use Rattle.diagram_meaning.specs.declared.times.Time.{Time}
use Rattle.modules_profile.specs.declared.local.LocalRow.{LocalRow}
use Rattle.modules_profile.specs.LocalSystem.{LocalSystem}
use Rattle.modules_profile.specs.SystemProfile.{SystemProfile}
use Rattle.modules_profile.proofs.lemmas.Members.{of-map, in-at, of-enumerate}
use Rattle.modules_profile.proofs.lemmas.OwnRows.{of-flat_map}
use Rattle.modules_schedule.specs.SystemSchedule.{SystemSchedule}
use Rattle.c_syntax.specs.declared.Leaf.{Leaf}
use Rattle.c_syntax.specs.declared.Leaf.TheVariants.{Own}
use Rattle.c_syntax.specs.Tree.{CondTree, both, PureTree, ParamTree, ProcedureTree}
use Rattle.c_syntax.specs.Lawful.{Reach, IsNumberAt, IsLawfulLeaf, IsLawfulCond}
use Rattle.c_syntax.specs.Limits.{cond_depth}
use Rattle.emit_row_code.specs.declared.leaves.ControlLeaves.{ControlLeaves}
use Rattle.emit_row_code.specs.Laws.{RowsAreShallow}
use Rattle.emit_row_code.specs.LawfulLaws.{RowsAreLawful, AreLawfulTests, TestsAreLawful}
use Rattle.emit_row_code.specs.LawfulStatements.{StatementsAreLawful, AllStatementsAreShallow}
use Rattle.emit_row_code.specs.TestCode.{both_tests, disabled_by, hit_test}
use Rattle.emit_row_code.specs.TestLaws.{OnTest, IsPlainTest, TestsArePlain, AllTestsArePlain}
use Rattle.emit_row_code.specs.TestLaws.{control_leaves as leaves_of_control}
use Rattle.emit_shape.specs.Names.{now_name, control_name, trigger_param, input_name}
use Rattle.emit_system_spec.specs.declared.source.Source.{Source}
use Rattle.emit_system_spec.specs.EmittedCode.{system_code}
use Rattle.emit_system_spec.specs.Fields.{value_rows, child_field, first_place}
use Rattle.emit_system_spec.specs.NodeCode.{active_test, off_test, runs_test, input_leaves, first_input}
use Rattle.emit_system_spec.specs.NodeCode.{control_leaves}
use Rattle.emit_system_spec.specs.Places.{param_leaf, now_leaf}
use Rattle.emit_system_spec.specs.Sources.{child_sources, value_source, sources, output_source, wire_leaf}
use Rattle.right_system_rules.proofs.Lists.{placed, each-mapped}
use Rattle.right_system_rules.proofs.Wires.{source_rows}
use Rattle.right_system_rules.proofs.SystemFacts.{SystemFacts}
use Rattle.right_system_rules.proofs.FieldPlaces.{value-number, trigger-number, child-struct}
use Rattle.right_system_rules.proofs.BareChildren.{child-fields, output-number}
use Rattle.right_system_rules.proofs.Reaches.{reach}

-- the laws of the statements of rows and children
pub record BlockLaws : Type 0 where
  pub statements : StatementsAreLawful
  pub shallow : AllStatementsAreShallow
  pub rows : RowsAreLawful
  pub depth : RowsAreShallow
  pub tests : TestsAreLawful
  pub plain : AllTestsArePlain

module _ (local : LocalSystem) (profile : SystemProfile) (schedule : SystemSchedule) (pures : List PureTree) (later : List ProcedureTree)
    (params : List ParamTree) where
  abbrev pub within : Reach
  within = reach local profile schedule pures later (length params)

  abbrev pub Leaves : List Leaf → Type 0
  Leaves = AllByRecursion (IsLawfulLeaf within)

  abbrev pub Lawful : Option CondTree → Type 0
  Lawful test = OnTest (IsLawfulCond within) test

  abbrev pub Shallow : Option CondTree → Type 0
  Shallow test = OnTest (λ t. cond_depth t ≤ 40) test

  abbrev pub disabled_test : Option CondTree
  disabled_test = disabled_by local.control (control_leaves local params)

  -- in a procedure with these parameters
  pub record LeafRules : Type 0 where
    pub param : (name : List ℕ) → IsLawfulLeaf within (param_leaf params name)
    pub wires : (cs : List ℕ) → ((c : ℕ) → Contains cs c → Contains (source_rows local) c) → Leaves (map (wire_leaf local) cs)
    pub inputs : (r : LocalRow) → Contains local.rows r → Leaves (input_leaves local params r)
    pub delay_input : (r : LocalRow) → Contains local.rows r → is_delay r.op ≡ true → IsLawfulLeaf within (first_input local params r)
    pub active : Lawful (active_test local params)
    pub off : Lawful (off_test local params)
    pub disabled : Lawful disabled_test
    pub runs : (r : LocalRow) → Contains local.rows r → Lawful (runs_test local params r)
    pub shallow_active : Shallow (active_test local params)
    pub shallow_off : Shallow (off_test local params)
    pub shallow_disabled : Shallow disabled_test
    pub shallow_runs : (r : LocalRow) → Shallow (runs_test local params r)

-- ---- Tests

test-weaker : (P Q : CondTree → Type 0) → ((t : CondTree) → P t → Q t) → (test : Option CondTree) → OnTest P test → OnTest Q test
test-weaker P Q gives None h = tt
test-weaker P Q gives (Some t) h = gives t h

both-on : (P Q : CondTree → Type 0) → ((t : CondTree) → P t → Q t) → ((a b : CondTree) → P a → P b → Q (both a b)) →
    (first second : Option CondTree) →
    OnTest P first → OnTest P second → OnTest Q (both_tests first second)
both-on P Q gives joins None second p q = test-weaker P Q gives second q
both-on P Q gives joins (Some a) None p q = gives a p
both-on P Q gives joins (Some a) (Some b) p q = joins a b p q

-- ---- Places of parameters

pub position-below : {A : Type 0} (test : A → Bool) (i : ℕ) (xs : List A) (k : ℕ) → position_from test i xs ≡ Some k → k < i + length xs
position-below test i [] k e = absurd (let wrong : ⊥ = cc e in wrong)
position-below {A} test i (x ∷ xs) k e = by (test x) e (position-below test (i + 1) xs k)
  where
    by : (t : Bool) → cond t (Some i) (position_from test (i + 1) xs) ≡ Some k →
        (position_from test (i + 1) xs ≡ Some k → k < i + 1 + length xs) → k < i + suc (length xs)
    by true e later = let same : i ≡ k = cc e in omega arith
    by false e later = let below = later e in omega (arith, below)

pub param-below : (params : List ParamTree) → 0 < length params → (name : List ℕ) →
    unwrap_or (position_from (λ (q : ParamTree). bytes_eq q.name name) 0 params) 0 < length params
param-below params some name = by (position_from (λ (q : ParamTree). bytes_eq q.name name) 0 params) refl
  where
    by : (o : Option ℕ) → position_from (λ (q : ParamTree). bytes_eq q.name name) 0 params ≡ o → unwrap_or o 0 < length params
    by None e = some
    by (Some k) e = let below = position-below (λ (q : ParamTree). bytes_eq q.name name) 0 params k e in omega (arith, below)

-- ---- A system

module _ (local : LocalSystem) (profile : SystemProfile) (schedule : SystemSchedule) (facts : SystemFacts local profile schedule)
    (laws : BlockLaws)
    (pures : List PureTree) (later : List ProcedureTree) (params : List ParamTree) (some : 0 < length params) where
  abbrev here : Reach
  here = reach local profile schedule pures later (length params)

  param-leaf : (name : List ℕ) → IsLawfulLeaf here (param_leaf params name)
  param-leaf name = param-below params some name

  -- ---- Wires

  source-leaf : (x : Source) → Contains (sources local) x → IsLawfulLeaf here x.leaf
  source-leaf x h =
      elim (Contains-append_cases (flat_map (child_sources local) (enumerate_from 0 local.children))
      (map (value_source local) (value_rows local)) x h) [
        | inl inside ↦ (
            let e = of-flat_map (child_sources local) (enumerate_from 0 local.children) x inside in
            let m = of-enumerate 0 local.children e.0 e.1 in
            let o = of-map (output_source (child_field local e.0.0)) (enumerate_from 0 e.0.1.header.outputs) x e.2 in
            let n = of-enumerate 0 e.0.1.header.outputs o.0 o.1 in
            let first = m.1 in
            let place : m.0 ≡ e.0.0 = omega (arith, first) in
            let second = n.1 in
            let number : n.0 ≡ o.0.0 = omega (arith, second) in
            let child : slice_get local.children e.0.0 ≡ Some e.0.1 = subst (λ k. slice_get local.children k ≡ Some e.0.1) place m.2 in
            let output : slice_get e.0.1.header.outputs o.0.0 ≡ Some o.0.1 =
            subst (λ k. slice_get e.0.1.header.outputs k ≡ Some o.0.1) number n.2 in
            subst (λ (y : Source). IsLawfulLeaf here y.leaf) o.2 (
              e.0.0,
              child-struct local schedule e.0.0 e.0.1 child,
              subst (λ fs. IsNumberAt fs o.0.0)
                  (sym (child-fields local.children ((system_code local profile schedule).structure ∷ []) e.0.0 e.0.1 child))
                  (output-number e.0.1 o.0.0 o.0.1 output),
            ))
        | inr own ↦
            let r = of-map (value_source local) (value_rows local) x own in
            subst (λ (y : Source). IsLawfulLeaf here y.leaf) r.2 (value-number local schedule r.0 r.1)
      ]

  wire : (c : ℕ) → Contains (source_rows local) c → IsLawfulLeaf here (wire_leaf local c)
  wire c h =
      let p = placed (λ (x : Source). x.row) (sources local) 0 c h in
      let start : 0 + p.place ≡ p.place = omega arith in
      let place : first_place (source_rows local) c ≡ Some p.place = p.found ∙ ap Some start in
      let is : wire_leaf local c ≡ p.at.leaf =
      ap (λ o. option_map_or (λ (x : Source). x.leaf) (option_and_then (slice_get (sources local)) o) (Own 0)) place
      ∙ ap (λ o. option_map_or (λ (x : Source). x.leaf) o (Own 0)) p.stands in
      subst (IsLawfulLeaf here) (sym is) (source-leaf p.at (in-at (sources local) p.place p.at p.stands))

  wires : (cs : List ℕ) → ((c : ℕ) → Contains cs c → Contains (source_rows local) c) →
      AllByRecursion (IsLawfulLeaf here) (map (wire_leaf local) cs)
  wires cs are = each-mapped (IsLawfulLeaf here) (wire_leaf local) cs (λ c h. wire c (are c h))

  inputs : (r : LocalRow) → Contains local.rows r → AllByRecursion (IsLawfulLeaf here) (input_leaves local params r)
  inputs r h = by (is_inport r.kind)
    where
      by : (t : Bool) →
          AllByRecursion (IsLawfulLeaf here)
          (if t then param_leaf params (input_name (port_of r.kind)) ∷ [] else map (wire_leaf local) r.inputs)
      by true = (param-leaf (input_name (port_of r.kind)), tt)
      by false = wires r.inputs (facts.rows r h).wires

  first-of : (leaves : List Leaf) → 0 < length leaves → AllByRecursion (IsLawfulLeaf here) leaves →
      IsLawfulLeaf here (get_or leaves 0 (Own 0))
  first-of [] one all = absurd (omega (arith, one))
  first-of (l ∷ leaves) one all = all.0

  delay-input : (r : LocalRow) → Contains local.rows r → is_delay r.op ≡ true → IsLawfulLeaf here (first_input local params r)
  delay-input r h delay = first-of (input_leaves local params r) (by (is_inport r.kind) refl) (inputs r h)
    where
      by : (t : Bool) → is_inport r.kind ≡ t →
          0 < length (if t then param_leaf params (input_name (port_of r.kind)) ∷ [] else map (wire_leaf local) r.inputs)
      by true e = omega arith
      by false e = let one = (facts.rows r h).input delay e in let made = length-map r.inputs (wire_leaf local) in omega (arith, one, made)

  -- ---- Tests

  controls : (control : Control) (leaves : ControlLeaves) → IsLawfulLeaf here leaves.enable → IsLawfulLeaf here leaves.trigger →
      (is_triggered control ≡ true → IsLawfulLeaf here leaves.remembers) →
      AllByRecursion (IsLawfulLeaf here) (leaves_of_control control leaves)
  controls Plain leaves enable trigger remembers = tt
  controls (Enabled reset) leaves enable trigger remembers = (enable, tt)
  controls (Triggered edge) leaves enable trigger remembers = (trigger, (remembers refl, tt))
  controls (Both reset edge) leaves enable trigger remembers = (enable, (trigger, (remembers refl, tt)))

  lawful-at : (time : Time) → time.period < 2 ^ 63 → AreLawfulTests here local.control (control_leaves local params) time (now_leaf params)
  lawful-at time short =
      laws.tests here local.control (control_leaves local params) time (now_leaf params)
      (controls local.control (control_leaves local params) (param-leaf control_name) (param-leaf (trigger_param local.control))
      (trigger-number local schedule))
      (param-leaf now_name) short

  active-lawful : OnTest (IsLawfulCond here) (active_test local params)
  active-lawful = (lawful-at every_tick (omega arith)).active

  off-lawful : OnTest (IsLawfulCond here) (off_test local params)
  off-lawful = (lawful-at every_tick (omega arith)).off

  runs-lawful : (r : LocalRow) → Contains local.rows r → OnTest (IsLawfulCond here) (runs_test local params r)
  runs-lawful r h =
      both-on (IsLawfulCond here) (IsLawfulCond here) (λ t p. p) (λ a b p q. (p, q)) (active_test local params)
      (hit_test r.time (now_leaf params))
      active-lawful (lawful-at r.time (facts.rows r h).period).hit

  plain-at : (time : Time) → TestsArePlain local.control (control_leaves local params) time (now_leaf params)
  plain-at time = laws.plain local.control (control_leaves local params) time (now_leaf params)

  shallow-test : (leaves : List Leaf) (test : Option CondTree) → IsPlainTest leaves test → OnTest (λ t. cond_depth t ≤ 40) test
  shallow-test leaves test is = test-weaker _ (λ t. cond_depth t ≤ 40) (λ t p. let low = p.1 in omega (arith, low)) test is

  active-shallow : OnTest (λ t. cond_depth t ≤ 40) (active_test local params)
  active-shallow = shallow-test _ (active_test local params) (plain-at every_tick).active

  off-shallow : OnTest (λ t. cond_depth t ≤ 40) (off_test local params)
  off-shallow = shallow-test _ (off_test local params) (plain-at every_tick).off

  runs-shallow : (r : LocalRow) → OnTest (λ t. cond_depth t ≤ 40) (runs_test local params r)
  runs-shallow r =
      both-on (λ t. cond_depth t ≤ 10) (λ t. cond_depth t ≤ 40) (λ t p. omega (arith, p)) (λ a b p q. omega (arith, p, q))
      (active_test local params) (hit_test r.time (now_leaf params))
      (test-weaker _ (λ t. cond_depth t ≤ 10) (λ t p. p.1) (active_test local params) (plain-at r.time).active)
      (test-weaker _ (λ t. cond_depth t ≤ 10) (λ t p. p.1) (hit_test r.time (now_leaf params)) (plain-at r.time).hit)

  pub leaf_rules : LeafRules local profile schedule pures later params
  leaf_rules = record {
    param = param-leaf;
    wires = wires;
    inputs = inputs;
    delay_input = delay-input;
    active = active-lawful;
    off = off-lawful;
    disabled = (lawful-at every_tick (omega arith)).disabled;
    runs = runs-lawful;
    shallow_active = active-shallow;
    shallow_off = off-shallow;
    shallow_disabled = shallow-test _ (disabled_by local.control (control_leaves local params)) (plain-at every_tick).disabled;
    shallow_runs = runs-shallow;
  }
