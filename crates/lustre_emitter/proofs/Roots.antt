-- The parts of the root's node.
use Rattle.std.proofs.Common.{◌≡◌, ℕ, ◌+◌, Bool, true, false, List, [], ◌∷◌, ◌++◌, map, length, refl, sym, ap, ◌∙◌, append-nil, append_assoc, arith, None}
use Rattle.std.specs.List.{range_with_len}
use Rattle.std.proofs.lemmas.List.{map-append, length-map}
use Rattle.std.proofs.lemmas.List.FromFn.{length-range_with_len}
use Rattle.base_core.specs.declared.Control.TheVariants.{Plain}
use Rattle.base_core.specs.declared.Port.TheVariants.{Number}
use Rattle.diagram_meaning.specs.Diagram.{Diagram}
use Rattle.diagram_meaning.specs.Rows.{rows_of}
use Rattle.modules_profile.specs.Systems.{system_name}
use Rattle.emit_shape.specs.Names.{now_name, port_name}
use Rattle.emit_row_facts.proofs.lemmas.Steps.{map-map, range-more}
use Rattle.lustre_syntax.specs.Tree.{name, truth, call}
use Rattle.lustre_syntax.specs.Named.{renamed, all_names}
use Rattle.lustre_system.specs.File.{root_node, output_names}
use Rattle.lustre_system.specs.Functions.{int_name}
use Rattle.lustre_system.specs.Names.{port_names}
use Rattle.lustre_expressions.specs.PortKinds.{ordered, ports_among}
use Rattle.lustre_emitter.specs.RootParts.{port_count, numbered_name, numbered_names, now_equation, equations_of}

-- ---- Names by number

pub length-numbered : (outputs : Bool) (n : ℕ) → length (map int_name (numbered_names outputs n)) ≡ n
length-numbered outputs n =
    length-map (numbered_names outputs n) int_name ∙ length-map (range_with_len 1 n) (numbered_name outputs) ∙ length-range_with_len 1 n

-- one more
pub numbered-next : {A : Type 0} (f : List ℕ → A) (outputs : Bool) (k : ℕ) (first so_far now : List A) (x : A) →
    so_far ≡ first ++ map f (numbered_names outputs k) → now ≡ so_far ++ x ∷ [] → x ≡ f (numbered_name outputs (k + 1)) →
    now ≡ first ++ map f (numbered_names outputs (k + 1))
numbered-next f outputs k first so_far now x before pushed is =
    let all = numbered_names outputs k in
    let last = numbered_name outputs (k + 1) in
    let more : numbered_names outputs (k + 1) ≡ all ++ last ∷ [] =
    ap (map (numbered_name outputs)) (range-more 1 k (k + 1) (omega arith))
    ∙ map-append (numbered_name outputs) (range_with_len 1 k) ((k + 1) ∷ []) in
    pushed ∙ (λ i. before i ++ is i ∷ []) ∙ append_assoc first (map f all) (f last ∷ [])
    ∙ ap (λ l. first ++ l) (sym (ap (map f) more ∙ map-append f all (last ∷ [])))

-- names that are read
pub read-alike : (place : List ℕ → ℕ) (texts : List (List ℕ)) → map name (map place texts) ≡ map (renamed place) (map name texts)
read-alike place texts = map-map name place texts ∙ sym (map-map (renamed place) name texts)

-- ---- The root

module _ (d : Diagram) where
  pub ports-counted : (outputs : Bool) →
      length (ordered d.rows (ports_among d.rows (rows_of d.rows None) outputs)) ≡ port_count d outputs
  ports-counted true = refl
  ports-counted false = refl

  pub inputs-named : numbered_names false (port_count d false) ≡ port_names d.rows None
  inputs-named =
      sym (map-append (port_name Plain) (map Number (range_with_len 1 (port_count d false))) []
      ∙ append-nil (map (port_name Plain) (map Number (range_with_len 1 (port_count d false))))
      ∙ map-map (port_name Plain) Number (range_with_len 1 (port_count d false)))

  module _ (hyper inputs outputs : ℕ) (some : inputs ≡ port_count d false) (given : outputs ≡ port_count d true) where
    pub root-inputs : inputs ≡ length (root_node d hyper).inputs
    root-inputs = some ∙ sym (length-numbered false (port_count d false))
        ∙ ap (λ (ts : List (List ℕ)). length (map int_name ts)) inputs-named

    pub root-outputs : outputs ≡ length (root_node d hyper).outputs
    root-outputs = given ∙ sym (length-numbered true (port_count d true))

    inputs-are : numbered_names false inputs ≡ port_names d.rows None
    inputs-are = ap (numbered_names false) some ∙ inputs-named

    outputs-are : numbered_names true outputs ≡ output_names d
    outputs-are = ap (numbered_names true) given

    pub root-names : map int_name (numbered_names false inputs) ++ map int_name (numbered_names true outputs) ++ int_name now_name ∷ []
        ≡ all_names (root_node d hyper)
    root-names = λ i. map int_name (inputs-are i) ++ map int_name (outputs-are i) ++ int_name now_name ∷ []

    pub root-equations : equations_of hyper inputs outputs ≡ (root_node d hyper).equations
    root-equations = λ i.
        now_equation hyper
        ∷ call 0 (outputs-are i) (system_name None) (name now_name ∷ truth true ∷ truth false ∷ map name (inputs-are i)) ∷ []
