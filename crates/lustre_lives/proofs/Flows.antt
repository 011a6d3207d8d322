-- Over a trace the file of a model is never stuck, gives the outputs of the run, and its names have the values of rows.
use Rattle.std.proofs.Common.{◌≡◌, refl, sym, ap, ap₂, subst, ◌∙◌, ℕ, zero, suc, ◌+◌, ◌<◌, true, List, [], ◌∷◌, ◌++◌, length, map, slice_index_or, Option, None, Some, unwrap_or, ℤ, pos, arith, length-append, append_assoc}
use Rattle.std.specs.Prelude.{Contains, ⊤}
use Rattle.std.specs.List.{AllByRecursion}
use Rattle.std.proofs.lemmas.List.{get_or_at}
use Rattle.base_fixed_point.specs.Conversion.{InType}
use Rattle.diagram_activity.specs.declared.TrigMem.{TrigMem}
use Rattle.diagram_blocks.specs.Kinds.{is_outport}
use Rattle.diagram_blocks.specs.Meaning.{has_value}
use Rattle.diagram_meaning.specs.Rows.{row_at, rows_of, outports_of}
use Rattle.diagram_meaning.specs.Inputs.{input_ports}
use Rattle.diagram_meaning.specs.Diagram.{Diagram}
use Rattle.diagram_meaning.specs.ResolvedTree.{ResolvedTree, IsResolvedTree, diagram_of}
use Rattle.diagram_meaning.specs.Needs.{needs_of, HasNoLoop}
use Rattle.diagram_meaning.specs.Run as run_of
use Rattle.diagram_meaning.specs.Run.{RunFrom, IsRun, outs}
use Rattle.diagram_meaning.specs.Laws.{Run, IsRunOver}
use Rattle.diagram_meaning.specs.Traces.{IsTrace, IsTraceRow, input_type_of}
use Rattle.diagram_meaning.proofs.lemmas.Resolving.{all-at}
use Rattle.modules_profile.specs.Systems.{systems}
use Rattle.modules_profile.proofs.lemmas.PortRows.{of-rows, of-ports}
use Rattle.emit_shape.specs.Names.{value_name}
use Rattle.lustre_syntax.specs.Lawful.{IsLawful}
use Rattle.lustre_flows.specs.Values.{value_at}
use Rattle.lustre_flows.specs.Instances.{Instance, no_instance}
use Rattle.lustre_flows.specs.Ticks.{Tick, done, tick, last_node, root_outputs}
use Rattle.lustre_flows.specs.FlowLaws.{FollowsWhole, IsTickOf}
use Rattle.lustre_flows.specs.Flows.{Flows, flows_after, flows_from, flows, outputs}
use Rattle.lustre_rows.proofs.lemmas.Lists.{all-members}
use Rattle.lustre_rows.proofs.lemmas.Wires.{outport-valued}
use Rattle.lustre_rows.specs.RunLaws.{IsRunTick}
use Rattle.lustre_right.specs.Paths.{name_place}
use Rattle.lustre_right.specs.Systems.{place_in, values_of_system}
use Rattle.lustre_right.specs.TickLaws.{HadRun}
use Rattle.lustre_right.specs.Right.{HasValue, GivesFlows}
use Rattle.lustre_lives.proofs.Lists.{zip-length, same-maps}
use Rattle.lustre_lives.proofs.Nodes.{is-system, system-there, ports-are, port-count}
use Rattle.lustre_lives.proofs.Laws.{Laws}
use Rattle.lustre_lives.proofs.Ticks.{file_of, IsLeft, tick-done}

-- ---- Runs

values-from : (d : Diagram) (s : Option ℕ) (t : ℕ) (before : List ℤ) (m : List (List ℤ)) (g : List TrigMem) (xs vs : List (List ℤ))
    (ms : List (List (List ℤ))) (gs : List (List TrigMem)) → RunFrom d s t before m g xs vs ms gs → length vs ≡ length xs
values-from d s t before m g [] [] [] [] is = refl
values-from d s t before m g (x ∷ xs) (v ∷ vs) (m' ∷ ms) (g' ∷ gs) is = ap suc (values-from d s (suc t) v m' g' xs vs ms gs is.1)
values-from d s t before m g _ _ _ _ is = absurd is

-- a run has values for each row of its trace
values-many : (d : Diagram) (s : Option ℕ) (xs vs : List (List ℤ)) (ms : List (List (List ℤ))) (gs : List (List TrigMem)) →
    IsRun d s xs vs ms gs → length vs ≡ length xs
values-many d s xs vs [] gs is = absurd is
values-many d s xs vs (m ∷ ms) [] is = absurd is
values-many d s xs vs (m ∷ ms) (g ∷ gs) is =
    values-from d s 0 (run_of.values_by d s (run_of.start_of d)) m g xs vs ms gs is.2

module _ (laws : Laws) (r : ResolvedTree) (resolved : IsResolvedTree r) (no_loop : HasNoLoop (needs_of (diagram_of r)))
    (lawful : IsLawful (file_of r)) (xs : List (List ℤ)) (trace : IsTrace (diagram_of r) None xs) (run : Run)
    (is_run : IsRunOver (diagram_of r) None xs run) where
  abbrev d : Diagram
  d = diagram_of r

  run-tick : (t : ℕ) → t < length xs → IsRunTick r xs run None t
  run-tick t within = record {
    resolved = resolved;
    no_loop = no_loop;
    trace = trace;
    is_run = is_run;
    within = within;
    system = tt;
  }

  row-length : (t : ℕ) → t < length xs → length (slice_index_or xs t []) ≡ (last_node (file_of r)).inputs
  row-length t within =
      sym (zip-length (λ p v. InType (input_type_of d None p) v) (input_ports d.rows None) (slice_index_or xs t [])
      (all-at (IsTraceRow d None) xs t [] trace within))
      ∙ port-count d r.times.hyper ∙ sym (ports-are d r.times.hyper).inputs

  -- ---- All ticks

  -- instances that have what the run has, from tick t on
  abbrev AreLeft : ℕ → List Instance → Type 0
  AreLeft t [] = ⊤
  AreLeft t (left ∷ more) = IsLeft r xs run t left × AreLeft (suc t) more

  -- flows from tick t on, over so many ticks
  record AreWhole (t count : ℕ) (all : Flows) : Type 0 where
    pub many : length all.ticks ≡ count
    pub not_stuck : all.stuck_place ≡ None
    pub left : AreLeft t all.ticks

  flows-whole : (t : ℕ) (earlier rows : List (List ℤ)) (before : Option Instance) → earlier ++ rows ≡ xs → length earlier ≡ t →
      HadRun r xs run t before → FollowsWhole (file_of r) before → AreWhole t (length rows) (flows_from (file_of r) rows before)
  flows-whole t earlier [] before is many had follows = record { many = refl; not_stuck = refl; left = tt }
  flows-whole t earlier (row ∷ rows) before is many had follows =
      let long = length-append earlier (row ∷ rows) in
      let all = ap length is in
      let within : t < length xs = omega arith in
      let same : slice_index_or xs t [] ≡ row = ap (λ ys. slice_index_or ys t []) (sym is) ∙ get_or_at earlier row rows [] t many in
      let of : IsTickOf (file_of r) before (slice_index_or xs t []) =
      record { lawful = lawful; inputs = row-length t within; follows = follows } in
      let this = tick-done laws r xs run t before (run-tick t within) of had in
      let one = length-append earlier (row ∷ []) in
      let rest = flows-whole (suc t) (earlier ++ row ∷ []) rows (Some this.left) (append_assoc earlier (row ∷ []) rows ∙ is) (omega arith)
      this.is_left.has_run this.follows in
      let whole : AreWhole t (length (row ∷ rows)) (flows_after (done this.left) (λ left. flows_from (file_of r) rows (Some left))) =
      record { many = ap suc rest.many; not_stuck = rest.not_stuck; left = (this.is_left, rest.left) } in
      subst (λ (a : Tick). AreWhole t (length (row ∷ rows)) (flows_after a (λ left. flows_from (file_of r) rows (Some left))))
      (sym this.is_done ∙ ap (λ x. tick (file_of r) before x) same) whole

  all-whole : AreWhole 0 (length xs) (flows (file_of r) xs)
  all-whole = flows-whole 0 [] xs None refl refl refl tt

  left-from : (t k : ℕ) (all : List Instance) → AreLeft t all → k < length all → IsLeft r xs run (t + k) (slice_index_or all k no_instance)
  left-from t k [] are below = absurd (omega arith)
  left-from t zero (left ∷ more) are below =
      let same : t ≡ t + 0 = omega arith in subst (λ n. IsLeft r xs run n left) same are.0
  left-from t (suc k) (left ∷ more) are below =
      let same : suc t + k ≡ t + suc k = omega arith in
      subst (λ n. IsLeft r xs run n (slice_index_or more k no_instance)) same (left-from (suc t) k more are.1 (omega arith))

  abbrev left_at : ℕ → Instance
  left_at t = slice_index_or (flows (file_of r) xs).ticks t no_instance

  left-at : (t : ℕ) → t < length xs → IsLeft r xs run t (left_at t)
  left-at t within =
      let many = all-whole.many in
      let same : 0 + t ≡ t = omega arith in
      subst (λ n. IsLeft r xs run n (left_at t)) same (left-from 0 t (flows (file_of r) xs).ticks all-whole.left (omega arith))

  -- ---- Values

  value-is : (t : ℕ) → t < length xs → (s : Option ℕ) → Contains (systems d.rows) s → (b : ℕ) → Contains (rows_of d.rows s) b →
      has_value (row_at d.rows b).kind ≡ true →
      value_at (values_of_system d r.times.hyper s (left_at t)) (place_in d s (value_name b))
      ≡ Some (run_of.value_at (slice_index_or run.values t []) b)
  value-is t within s there b own valued =
      let row = of-rows d.rows s b own in
      ((left-at t within).has_run.systems s (is-system d.rows s there)).names.rows b (record { in_table = row.0; own = row.1 }) valued

  has-value : (t : ℕ) → t < length xs → (s : Option ℕ) → Contains (systems d.rows) s → (b : ℕ) → Contains (rows_of d.rows s) b →
      has_value (row_at d.rows b).kind ≡ true → HasValue (file_of r) d xs run t s b
  has-value t within s there b own valued =
      ap (λ n. value_at (values_of_system d r.times.hyper s (left_at t)) (name_place n (value_name b)))
      (system-there d r.times.hyper lawful s there)
      ∙ value-is t within s there b own valued

  -- ---- Outputs

  outputs-from : (values : List (Option ℤ)) (row : List ℤ) (os : List ℕ) →
      AllByRecursion (λ o. value_at values (place_in d None (value_name o)) ≡ Some (run_of.value_at row o)) os →
      map (λ v. unwrap_or v (pos 0)) (map (λ o. value_at values (place_in d None (value_name o))) os) ≡ map (run_of.value_at row) os
  outputs-from values row [] all = refl
  outputs-from values row (o ∷ os) all =
      ap₂ {C = List ℤ} (λ v vs. v ∷ vs) (ap (λ v. unwrap_or v (pos 0)) all.0) (outputs-from values row os all.1)

  output-is : (t : ℕ) → t < length xs → root_outputs (file_of r) (left_at t) ≡ outs d None (slice_index_or run.values t [])
  output-is t within =
      ap (map (λ v. unwrap_or v (pos 0))) (left-at t within).outputs
      ∙ outputs-from (values_of_system d r.times.hyper None (left_at t)) (slice_index_or run.values t []) (outports_of d.rows None)
      (all-members (λ o. value_at (values_of_system d r.times.hyper None (left_at t)) (place_in d None (value_name o))
      ≡ Some (run_of.value_at (slice_index_or run.values t []) o)) (outports_of d.rows None)
      (λ o h. let (below, own, outport) = of-ports d.rows None is_outport o h in
      ((left-at t within).has_run.systems None tt).names.rows o (record { in_table = below; own = own })
      (outport-valued (row_at d.rows o).kind outport)))

  outputs-are : outputs (file_of r) xs ≡ map (outs d None) run.values
  outputs-are =
      let many = all-whole.many in
      let values = values-many d None xs run.values run.memories run.triggers is_run in
      same-maps (root_outputs (file_of r)) (outs d None) (flows (file_of r) xs).ticks run.values no_instance [] (omega arith)
      (λ k below. output-is k (omega arith))

pub gives-flows : Laws → (r : ResolvedTree) → IsResolvedTree r → HasNoLoop (needs_of (diagram_of r)) → IsLawful (file_of r) →
    (xs : List (List ℤ)) → IsTrace (diagram_of r) None xs → GivesFlows (file_of r) (diagram_of r) xs
gives-flows laws r resolved no_loop lawful xs trace =
    let one = laws.one (diagram_of r) None xs no_loop in record {
      one_run = one;
      not_stuck = (all-whole laws r resolved no_loop lawful xs trace one.run one.is_run).not_stuck;
      outputs_are = outputs-are laws r resolved no_loop lawful xs trace one.run one.is_run;
      values_are = has-value laws r resolved no_loop lawful xs trace one.run one.is_run;
    }
