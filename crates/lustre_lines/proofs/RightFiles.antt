-- A file on other lines is right where the file is.
use Rattle.std.proofs.Common.{◌≡◌, ℕ, ◌-◌, List, [], ◌∷◌, Bool, true, map, take, length, refl, sym, ap, subst, ◌∙◌, Option, Some, ℤ, pos}
use Rattle.std.specs.Prelude.{Contains, ◌&&◌, ◌^◌, filter, nat_le, slice_index_or, unwrap_or, ◌==◌, option_and_then}
use Rattle.std.specs.List.{AllByRecursion, list_all, position_from}
use Rattle.base_fixed_point.specs.declared.FixType.{FixType}
use Rattle.base_fixed_point.specs.declared.Over.{Over}
use Rattle.base_fixed_point.specs.declared.Over.TheVariants.{Saturate, Wrap}
use Rattle.base_fixed_point.specs.Conversion.{least_of, greatest_of}
use Rattle.emit_prelude.specs.Rules.{rounding_position}
use Rattle.diagram_meaning.specs.Diagram.{Diagram}
use Rattle.diagram_meaning.specs.Rows.{subsystems_of}
use Rattle.emit_shape.specs.Names.{value_name, root_name}
use Rattle.modules_profile.specs.Systems.{systems, system_name}
use Rattle.lustre_syntax.specs.Tree.{Declared, EquationTree, set, call, NodeTree, node_at, FileTree, texts_of, node_texts, equation_without_lines, node_without_lines, without_lines}
use Rattle.lustre_syntax.specs.Named.{place_of}
use Rattle.lustre_syntax.specs.Typing.{input_types, output_types}
use Rattle.lustre_flows.specs.Flows.{Flows, flows, outputs}
use Rattle.lustre_flows.specs.Instances.{Instance, no_instance, outputs_of, values_in}
use Rattle.lustre_flows.specs.Ticks.{last_place, last_node, root_outputs, inside}
use Rattle.lustre_flows.specs.Values.{value_at}
use Rattle.lustre_system.specs.Functions.{int_name}
use Rattle.lustre_system.specs.FunctionRules.{called, cast_call, is_function, AreFunctions}
use Rattle.lustre_right.specs.Paths.{node_place, node_named, name_place, callees, call_place, path_through, systems_to}
use Rattle.lustre_right.specs.Right.{function_count, HasSystem, HasNodes, GivesFlows}
use Rattle.lustre_lines.specs.LineLaws.{LinesMeanNothing}
use Rattle.lustre_lines.proofs.Nodes.{alike, alike-at, each-aside, texts-aside, callees-aside}
use Rattle.lustre_lines.proofs.Passes.{called-aside}
use Rattle.lustre_lines.proofs.Flows.{last-same, flows-same}

-- ---- Functions

function-aside : (e : EquationTree) → is_function (equation_without_lines e) ≡ is_function e
function-aside (set line given value) = refl
function-aside (call line given callee values) = refl

functions-aside : (es : List EquationTree) → list_all is_function (map equation_without_lines es) ≡ list_all is_function es
functions-aside [] = refl
functions-aside (e ∷ es) = λ i. function-aside e i && functions-aside es i

-- all of a list pass, where each test comes out true
all-true : {A : Type 0} (p : A → Bool) (xs ys : List A) → map p xs ≡ map p ys → AllByRecursion (λ x. p x ≡ true) xs →
    AllByRecursion (λ x. p x ≡ true) ys
all-true p xs [] same h = tt
all-true p [] (y ∷ ys) same h = absurd (cc same)
all-true p (x ∷ xs) (y ∷ ys) same h =
    let first : p x ≡ p y = cc same in
    let rest : map p xs ≡ map p ys = cc same in
    (sym first ∙ h.0, all-true p xs ys rest h.1)

module _ (f g : FileTree) (same : without_lines f ≡ without_lines g) where
  called-same : (k : ℕ) (arguments : List ℤ) → called f.nodes k arguments ≡ called g.nodes k arguments
  called-same k arguments = alike f g same (λ ns. called ns k arguments) (λ ns. called-aside ns k arguments)

  cast-same : (o : Over) (t : FixType) (v : ℤ) → cast_call f.nodes o t v ≡ cast_call g.nodes o t v
  cast-same Saturate t v = called-same 6 (v ∷ least_of t ∷ greatest_of t ∷ [])
  cast-same Wrap t v = called-same 7 (v ∷ least_of t ∷ pos (2 ^ t.bits) ∷ [])

  first-same : {A : Type 0} (of : NodeTree → A) → ((n : NodeTree) → of (node_without_lines n) ≡ of n) →
      map of (take 8 f.nodes) ≡ map of (take 8 g.nodes)
  first-same of aside = alike f g same (λ ns. map of (take 8 ns)) (λ ns. each-aside of aside 8 ns)

  functions-same : AreFunctions f.nodes → AreFunctions g.nodes
  functions-same are = record {
    inputs = sym (first-same input_types (λ n. refl)) ∙ are.inputs;
    outputs = sym (first-same output_types (λ n. refl)) ∙ are.outputs;
    stateless = all-true (λ (n : NodeTree). list_all is_function n.equations) (take 8 f.nodes) (take 8 g.nodes)
        (first-same (λ n. list_all is_function n.equations) (λ n. functions-aside n.equations)) are.stateless;
    rounds = λ r v k low high few. sym (called-same (rounding_position r) (v ∷ pos (2 ^ k) ∷ [])) ∙ are.rounds r v k low high few;
    clamps = λ v lo hi. sym (called-same 6 (v ∷ lo ∷ hi ∷ [])) ∙ are.clamps v lo hi;
    wraps = λ v lo w low high least above few. sym (called-same 7 (v ∷ lo ∷ pos (2 ^ w) ∷ [])) ∙ are.wraps v lo w low high least above few;
    converts = λ case there t v n signed low high few.
        sym (λ i. option_and_then (λ x. cast-same case.over t x i)
        (called-same (rounding_position case.round) (v ∷ pos (2 ^ (n - t.frac)) ∷ []) i))
        ∙ are.converts case there t v n signed low high few;
  }

  -- ---- Nodes

  texts-same : node_texts f.nodes ≡ node_texts g.nodes
  texts-same = alike f g same node_texts texts-aside

  place-same : (text : List ℕ) → node_place f text ≡ node_place g text
  place-same text = ap (λ ts. place_of ts text) texts-same

  named-same : {A : Type 0} (of : NodeTree → A) → ((n : NodeTree) → of (node_without_lines n) ≡ of n) → (text : List ℕ) →
      of (node_named f text) ≡ of (node_named g text)
  named-same of aside text =
      alike-at f g same of aside (node_place f text) ∙ ap (λ k. of (node_at g.nodes k)) (place-same text)

  last-node-same : {A : Type 0} (of : NodeTree → A) → ((n : NodeTree) → of (node_without_lines n) ≡ of n) →
      of (last_node f) ≡ of (last_node g)
  last-node-same of aside =
      alike-at f g same of aside (last_place f) ∙ ap (λ k. of (node_at g.nodes k)) (last-same f g same)

  system-same : (d : Diagram) (s : Option ℕ) → HasSystem f d s → HasSystem g d s
  system-same d s has = record {
    values = λ b own valued. subst (λ (names : List Declared). Contains names (int_name (value_name b)))
        (named-same (λ n. n.names) (λ n. refl) (system_name s)) (has.values b own valued);
    calls = ap (filter (nat_le function_count)) (sym (named-same callees callees-aside (system_name s))) ∙ has.calls
        ∙ (λ i. map (λ e. place-same (system_name (Some e)) i) (subsystems_of d.rows s));
  }

  systems-same : (d : Diagram) (ss : List (Option ℕ)) → AllByRecursion (HasSystem f d) ss → AllByRecursion (HasSystem g d) ss
  systems-same d [] has = tt
  systems-same d (s ∷ ss) has = (system-same d s has.0, systems-same d ss has.1)

  nodes-same : (d : Diagram) → HasNodes f d → HasNodes g d
  nodes-same d has = record {
    texts = sym texts-same ∙ has.texts;
    ports = record {
      inputs = sym (last-node-same (λ n. n.inputs) (λ n. refl)) ∙ has.ports.inputs;
      outputs = sym (last-node-same (λ n. n.outputs) (λ n. refl)) ∙ has.ports.outputs;
    };
    functions = functions-same has.functions;
    systems_there = systems-same d (systems d.rows) has.systems_there;
  }

  -- ---- Flows

  call-same : (text next : List ℕ) →
      call_place (node_named f text) (node_place f next) ≡ call_place (node_named g text) (node_place g next)
  call-same text next =
      let made = named-same callees callees-aside text in
      λ i. unwrap_or (position_from (λ j. j == place-same next i) 0 (made i)) (length (made i))

  path-same : (text : List ℕ) (names : List (List ℕ)) → path_through f text names ≡ path_through g text names
  path-same text [] = refl
  path-same text (next ∷ more) = λ i. call-same text next i ∷ path-same next more i

  name-same : (text name : List ℕ) → name_place (node_named f text) name ≡ name_place (node_named g text) name
  name-same text name = ap (λ names. place_of (texts_of names) name) (named-same (λ n. n.names) (λ n. refl) text)

  outputs-same : (i : Instance) → root_outputs f i ≡ root_outputs g i
  outputs-same i = last-node-same (λ n. map (λ v. unwrap_or v (pos 0)) (outputs_of n i)) (λ n. refl)

  gives-same : (d : Diagram) (xs : List (List ℤ)) → GivesFlows f d xs → GivesFlows g d xs
  gives-same d xs gives =
      let both = flows-same f g same xs gives.not_stuck in
      record {
        one_run = gives.one_run;
        not_stuck = sym (ap (λ (fl : Flows). fl.stuck_place) both) ∙ gives.not_stuck;
        outputs_are = sym (λ i. map (λ left. outputs-same left i) (both i).ticks) ∙ gives.outputs_are;
        values_are = λ t below s there b own valued.
            sym (λ i. value_at (values_in (inside (path-same root_name (systems_to d.rows s) i)
            (slice_index_or (both i).ticks t no_instance))) (name-same (system_name s) (value_name b) i))
            ∙ gives.values_are t below s there b own valued;
      }

pub lines-mean-nothing : LinesMeanNothing
lines-mean-nothing f g d same lawful right = record {
  lawful = lawful;
  nodes = nodes-same f g same d right.nodes;
  runs = λ xs trace. gives-same f g same d xs (right.runs xs trace);
}
