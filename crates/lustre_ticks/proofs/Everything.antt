-- Every name of a system's node is known: an input, or what an equation gives.
use Rattle.std.proofs.Common.{◌≡◌, refl, sym, ap, ◌∙◌, subst, ℕ, zero, suc, ◌+◌, ◌-◌, ◌<◌, true, List, [], ◌∷◌, map, length, flat_map, Option, None, Some, ℤ, arith, inl, inr}
use Rattle.std.specs.List.{AllByRecursion}
use Rattle.std.proofs.lemmas.Bool.{cases_eq, cases_lt}
use Rattle.std.proofs.lemmas.List.{length-map, get_or_past}
use Rattle.std.proofs.lemmas.Option.{none-some}
use Rattle.base_core.specs.Ports.{control_ports}
use Rattle.base_core.specs.declared.Control.{Control}
use Rattle.base_core.specs.declared.Control.TheVariants.{Plain, Enabled, Triggered, Both}
use Rattle.diagram_blocks.specs.Kinds.{is_inport}
use Rattle.diagram_meaning.specs.Rows.{system_control, inports_of, is_enabled, is_triggered, enable_count}
use Rattle.diagram_meaning.proofs.lemmas.Ports.{ported-at}
use Rattle.diagram_typed_runs.specs.TypedRuns.{IsSystem}
use Rattle.c_syntax.specs.declared.Leaf.TheVariants.{Param}
use Rattle.emit_shape.specs.Names.{control_name, second_control_name, trigger_param}
use Rattle.lustre_syntax.specs.Tree.{Declared, set, call, given_by}
use Rattle.lustre_syntax.specs.Named.{NamedEquation, renamed_equation, place_of, all_names}
use Rattle.lustre_flows.specs.Values.{value_at}
use Rattle.lustre_settling.proofs.lemmas.Given.{times, times-other, other-given}
use Rattle.lustre_system.specs.Functions.{int_name}
use Rattle.lustre_system.specs.Names.{port_names, leaf_name}
use Rattle.lustre_system.specs.SystemNodes.{system_inputs, system_equations, system_node}
use Rattle.lustre_rows.proofs.lemmas.Lists.{all-after, all-mapped}
use Rattle.lustre_rows.proofs.lemmas.ParamNames.{enable-named, trigger-named}
use Rattle.lustre_right.specs.Reads.{KnownControls}
use Rattle.lustre_right.specs.Systems.{system_texts}
use Rattle.lustre_ticks.proofs.Setting.{Setting, d, rows, solved, place, KnownAt, IsKnown, known-value}
use Rattle.lustre_ticks.proofs.Agreement.{Given}
use Rattle.lustre_ticks.proofs.NodeNames.{callees, node, lawful-node}
use Rattle.lustre_ticks.proofs.Inputs.{now-place, on-place, off-place, port-total, param-place}
use Rattle.lustre_ticks.proofs.Inports.{inport-known}
use Rattle.lustre_ticks.proofs.Rows.{row-known}
use Rattle.lustre_ticks.proofs.Given.{activity-of, all-given}

once-among : (P : ℕ → Type 0) (ks : List ℕ) (k : ℕ) → AllByRecursion P ks → times k ks ≡ 1 → P k
once-among P [] k all one = absurd (omega (arith, one))
once-among P (j ∷ js) k all one = elim (cases_eq j k) [
  | inl same ↦ subst P same all.0
  | inr other ↦ once-among P js k all.1 (sym (times-other j k js other) ∙ one)
]

module _ (g : Setting) (s : Option ℕ) (system : IsSystem (rows g) s) where
  -- ---- What equations give

  given-places : (es : List NamedEquation) → AllByRecursion (Given g s) es →
      AllByRecursion (KnownAt g s) (flat_map given_by (map (renamed_equation (place g s) (place_of (callees g s system))) es))
  given-places [] all = tt
  given-places (set line text value ∷ es) all = (all.0.0, given-places es all.1)
  given-places (call line texts callee values ∷ es) all =
      all-after (KnownAt g s) (map (place g s) texts)
      (flat_map given_by (map (renamed_equation (place g s) (place_of (callees g s system))) es))
      (all-mapped (KnownAt g s) (place g s) texts all.0) (given-places es all.1)

  -- ---- Inputs

  abbrev many : ℕ
  many = length (inports_of (rows g) s)

  abbrev control : Control
  control = system_control (rows g) s

  named-at : (k : ℕ) (text : List ℕ) → k < length (port_names (rows g) s) → leaf_name (rows g) s (Param k) ≡ text → IsKnown g s text →
      KnownAt g s (suc (suc (suc k)))
  named-at k text below named known =
      subst (KnownAt g s) (ap (place g s) (sym named) ∙ param-place g s system k below) known

  inport-at-place : (k : ℕ) → k < length (port_names (rows g) s) → k < many → KnownAt g s (suc (suc (suc k)))
  inport-at-place k below inport =
      let (b, found, ported, port) = ported-at (rows g) is_inport s (g.tick.resolved.tree.table.inports s) k inport in
      let known = inport-known g s system b (record { in_table = ported.in_table; own = ported.is_own }) ported.passing
      (λ c m. row-known g c) in
      let same : suc k - 1 ≡ k = omega arith in
      named-at k (leaf_name (rows g) s (Param k)) below refl
      (subst (λ j. IsKnown g s (leaf_name (rows g) s (Param j))) (ap (λ p. p - 1) port ∙ same) known)

  enable-at : (k : ℕ) → k ≡ many → is_enabled control ≡ true → leaf_name (rows g) s (Param k) ≡ control_name
  enable-at k at is = ap (λ j. leaf_name (rows g) s (Param j)) at ∙ enable-named control many is

  edge-at : (k : ℕ) → k ≡ many + enable_count control → is_triggered control ≡ true → leaf_name (rows g) s (Param k) ≡ trigger_param control
  edge-at k at is = ap (λ j. leaf_name (rows g) s (Param j)) at ∙ trigger-named control many is

  control-at-place : (c : Control) → control ≡ c → KnownControls (IsKnown g s) c → (k i : ℕ) → k < length (port_names (rows g) s) →
      k ≡ many + i → i < length (control_ports c) → KnownAt g s (suc (suc (suc k)))
  control-at-place Plain q known k i below at within = absurd (omega (arith, within))
  control-at-place (Enabled reset) q known k zero below at within =
      named-at k control_name below (enable-at k (omega (arith, at)) (ap is_enabled q)) known
  control-at-place (Enabled reset) q known k (suc i) below at within = absurd (omega (arith, within))
  control-at-place (Triggered edge) q known k zero below at within =
      let count : enable_count control ≡ 0 = ap enable_count q in
      named-at k control_name below (edge-at k (omega (arith, at, count)) (ap is_triggered q) ∙ ap trigger_param q) known.0
  control-at-place (Triggered edge) q known k (suc i) below at within = absurd (omega (arith, within))
  control-at-place (Both reset edge) q known k zero below at within =
      named-at k control_name below (enable-at k (omega (arith, at)) (ap is_enabled q)) known.0
  control-at-place (Both reset edge) q known k (suc zero) below at within =
      let count : enable_count control ≡ 1 = ap enable_count q in
      named-at k second_control_name below (edge-at k (omega (arith, at, count)) (ap is_triggered q) ∙ ap trigger_param q) known.1
  control-at-place (Both reset edge) q known k (suc (suc i)) below at within = absurd (omega (arith, within))

  input-at-place : (k : ℕ) → k < suc (suc (suc (length (port_names (rows g) s)))) → KnownAt g s k
  input-at-place zero below = subst (KnownAt g s) (now-place g s system) (activity-of g s system).around.now
  input-at-place (suc zero) below = subst (KnownAt g s) (on-place g s system) (activity-of g s system).around.on
  input-at-place (suc (suc zero)) below = subst (KnownAt g s) (off-place g s system) (activity-of g s system).around.off
  input-at-place (suc (suc (suc k))) below =
      let within : k < length (port_names (rows g) s) = omega (arith, below) in
      let total = port-total (rows g) s in
      elim (cases_lt k many) [
        | inl inport ↦ inport-at-place k within inport
        | inr past ↦ control-at-place control refl (activity-of g s system).around.controls k (k - many) within (omega (arith, past))
            (omega (arith, past, within, total))
      ]

  -- ---- All

  pub known-at : (k : ℕ) → k < length (system_texts (d g) s) → KnownAt g s k
  known-at k below = elim (cases_lt k (length (system_inputs (d g) s))) [
    | inl input ↦
        let count = length-map (port_names (rows g) s) int_name in
        let bound : k < suc (suc (suc (length (map int_name (port_names (rows g) s))))) = input in
        input-at-place k (omega (arith, bound, count))
    | inr past ↦
        once-among (KnownAt g s) (flat_map given_by (node g s system).equations) k
        (given-places (system_equations (d g) s) (all-given g s system))
        (other-given (lawful-node g s system).0 (node g s system) (lawful-node g s system).1 k past
        (subst (λ n. k < n) (length-map (all_names (system_node (d g) s)) (λ (x : Declared). x.text)) below))
  ]

  -- so what is expected of a name is there
  pub carried : (text : List ℕ) (v : ℤ) → value_at (g.expected s) (place g s text) ≡ Some v →
      value_at (solved g s) (place g s text) ≡ Some v
  carried text v is = elim (cases_lt (place g s text) (length (system_texts (d g) s))) [
    | inl below ↦ known-value g s (place g s text) v (known-at (place g s text) below) is
    | inr past ↦
        let long = g.long s system in
        absurd (none-some v (sym (get_or_past (g.expected s) (place g s text) None (omega (arith, past, long))) ∙ is))
  ]
