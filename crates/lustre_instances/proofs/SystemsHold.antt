-- The equations of the root and of each system hold.
use Rattle.std.specs.Prelude.{◌≡◌, ℕ, ℤ, pos, true, List, [], ◌∷◌, map, take, length, slice_get, Option, Some, None, refl}
use Rattle.std.proofs.Common.{sym, ap, ap₂, subst, ◌∙◌}
use Rattle.diagram_blocks.specs.Kinds.{is_subsystem}
use Rattle.diagram_meaning.specs.Rows.{row_at, outports_of}
use Rattle.diagram_meaning.specs.WellFormed.{IsNested}
use Rattle.diagram_meaning.specs.Diagram.{Diagram}
use Rattle.diagram_meaning.specs.ResolvedTree.{diagram_of}
use Rattle.diagram_meaning.specs.SystemRuns.{IsRowOf}
use Rattle.diagram_typed_runs.specs.TypedRuns.{IsSystem}
use Rattle.modules_profile.specs.Systems.{system_name}
use Rattle.emit_shape.specs.Names.{value_name, now_name}
use Rattle.lustre_syntax.specs.Tree.{name, set, call, NodeTree, FileTree}
use Rattle.lustre_syntax.specs.Named.{NamedExpr, NamedEquation, NamedNode}
use Rattle.lustre_flows.specs.Values.{read, value_of}
use Rattle.lustre_flows.specs.Instances.{Instance, values_in, outputs_of}
use Rattle.lustre_flows.specs.Ticks.{inside, last_node}
use Rattle.lustre_settling.specs.Solutions.{IsSolution}
use Rattle.lustre_rows.proofs.lemmas.Lists.{all-by-place}
use Rattle.lustre_system.specs.Functions.{function_name}
use Rattle.lustre_system.specs.FunctionRules.{called}
use Rattle.lustre_system.specs.Names.{port_names}
use Rattle.lustre_system.specs.SystemNodes.{system_inputs, system_node, system_equations}
use Rattle.lustre_system.specs.File.{lustre_file, next_now, output_names, root_node}
use Rattle.lustre_rows.proofs.lemmas.NamePlaces.{texts-int}
use Rattle.lustre_right.specs.Paths.{node_place, path_to}
use Rattle.lustre_right.specs.Systems.{EquationHolds}
use Rattle.lustre_right.specs.SystemLaws.{SystemsHold}
use Rattle.lustre_instances.proofs.NamedValues.{map-twice, inputs-named, outputs-named}
use Rattle.lustre_instances.proofs.FileNodes.{IsFileOf, file-of}
use Rattle.lustre_instances.proofs.Opened.{value_in, outcome_in, IsOpenedAt, IsCalled, set-at}
use Rattle.lustre_instances.proofs.FunctionCalls.{function-called}
use Rattle.lustre_instances.proofs.Instances.{top_arguments, root-opened, top-called, system-opened, child-called, has-instance, system-outputs}

value-of_read : (v : Option ℤ) → value_of (read v) ≡ v
value-of_read None = refl
value-of_read (Some v) = refl

all-read : {A : Type 0} (g : A → Option ℤ) (xs : List A) → map (λ x. value_of (read (g x))) xs ≡ map g xs
all-read g [] = refl
all-read g (x ∷ xs) = ap₂ {C = List (Option ℤ)} (λ y ys. y ∷ ys) (value-of_read (g x)) (all-read g xs)

module _ (d : Diagram) (hyper : ℕ) (f : FileTree) (before : Option Instance) (row : List ℤ) (left : Instance)
    (file : IsFileOf d hyper f) (nested : IsNested d.rows) (solution : IsSolution f before row left) where
  abbrev root : NamedNode
  root = root_node d hyper

  abbrev at_root : List ℕ → Option ℤ
  at_root text = value_in f before left [] root text

  abbrev from_root : NamedExpr → Option ℤ
  from_root e = outcome_in f before left [] root e

  abbrev path : Option ℕ → List ℕ
  path s = path_to f d.rows s

  abbrev value : Option ℕ → List ℕ → Option ℤ
  value s text = value_in f before left (path s) (system_node d s) text

  abbrev outcome : Option ℕ → NamedExpr → Option ℤ
  outcome s e = outcome_in f before left (path s) (system_node d s) e

  -- ---- The root

  opened-root : IsOpenedAt f before left [] root (map Some row)
  opened-root = root-opened d hyper f before row left file nested solution

  called-top : IsCalled f before left (path None) (system_name None) (map at_root (output_names d)) (map from_root (top_arguments d))
  called-top = top-called d hyper f before row left file nested solution

  opened-top : IsOpenedAt f before left (path None) (system_node d None) (map from_root (top_arguments d))
  opened-top =
      system-opened d hyper f before row left file nested solution None tt (map at_root (output_names d)) (map from_root (top_arguments d))
      called-top

  root-now : at_root now_name ≡ from_root (next_now hyper)
  root-now = set-at f before left [] root (map Some row) 0 0 now_name (next_now hyper) opened-root refl

  ports-read : map from_root (map name (port_names d.rows None)) ≡ map Some row
  ports-read =
      let ports = port_names d.rows None in
      map-twice name from_root ports ∙ all-read at_root ports
      ∙ ap (map at_root) (sym (texts-int ports))
      ∙ inputs-named root (values_in left) opened-root.apart opened-root.names ∙ opened-root.takes

  root-inputs : take (length (system_inputs d None)) (values_in (inside (path None) left))
      ≡ at_root now_name ∷ Some (pos 1) ∷ Some (pos 0) ∷ map Some row
  root-inputs =
      opened-top.takes
      ∙ ap₂ {C = List (Option ℤ)} (λ x xs. x ∷ Some (pos 1) ∷ Some (pos 0) ∷ xs) (value-of_read (at_root now_name)) ports-read

  pub root-outputs : outputs_of (last_node f) left ≡ map (λ o. value None (value_name o)) (outports_of d.rows None)
  root-outputs =
      ap (λ (n : NodeTree). outputs_of n left) file.root.node
      ∙ sym (outputs-named root (values_in left) opened-root.apart opened-root.names)
      ∙ ap (map at_root) (texts-int (output_names d))
      ∙ called-top.outputs
      ∙ system-outputs d hyper f before row left file nested solution None (map from_root (top_arguments d)) tt opened-top

  -- ---- The systems

  -- an equation of a system holds
  abbrev HoldsIn : Option ℕ → NamedEquation → Type 0
  HoldsIn s (set line text e) = value s text ≡ outcome s e
  HoldsIn s (call line texts callee arguments) =
      ((k : ℕ) (numbers : List ℤ) (v : ℤ) → callee ≡ function_name k → map (outcome s) arguments ≡ map Some numbers →
      called f.nodes k numbers ≡ Some v → map (value s) texts ≡ Some v ∷ [])
      × ((e : ℕ) → IsRowOf d.rows s e → is_subsystem (row_at d.rows e).kind ≡ true → callee ≡ system_name (Some e) →
      (take (length (system_inputs d (Some e))) (values_in (inside (path (Some e)) left)) ≡ map (outcome s) arguments)
      × (map (value s) texts ≡ map (λ o. value (Some e) (value_name o)) (outports_of d.rows (Some e))))

  equation-holds : (s : Option ℕ) → IsSystem d.rows s → (m : ℕ) (x : NamedEquation) → slice_get (system_equations d s) m ≡ Some x →
      HoldsIn s x
  equation-holds s is m (set line text e) there =
      let (inputs, o) = has-instance d hyper f before row left file nested solution s is in
      set-at f before left (path s) (system_node d s) inputs m line text e o there
  equation-holds s is m (call line texts callee arguments) there =
      let (inputs, o) = has-instance d hyper f before row left file nested solution s is in (
        function-called f file.lawful file.functions before left (path s) (system_node d s) (node_place f (system_name s))
            (file.systems s is) inputs o m line texts callee arguments there,
        λ e own subsystem named.
            let c =
            child-called d hyper f before row left file nested solution s inputs e is o own subsystem m line texts arguments
            (subst (λ (t : List ℕ). slice_get (system_equations d s) m ≡ Some (call line texts t arguments)) named there) in
            let inner =
            system-opened d hyper f before row left file nested solution (Some e) subsystem (map (value s) texts)
            (map (outcome s) arguments) c in (
              inner.takes,
              c.outputs
                  ∙ system-outputs d hyper f before row left file nested solution (Some e) (map (outcome s) arguments) subsystem inner,
            ),
      )

pub systems_hold : SystemsHold
systems_hold r before row left is =
    let d = diagram_of r in
    let hyper = r.times.hyper in
    let f = lustre_file d hyper in
    let file = file-of d hyper is.tick.lawful in
    let nested = is.resolved.tree.table.nested in (
      record {
        now = root-now d hyper f before row left file nested is.solution;
        inputs = root-inputs d hyper f before row left file nested is.solution;
        outputs = root-outputs d hyper f before row left file nested is.solution;
      },
      λ s system. all-by-place (EquationHolds d hyper before left s) (system_equations d s)
          (equation-holds d hyper f before row left file nested is.solution s system),
    )
