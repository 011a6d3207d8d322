-- The node that one by names stands for, from its parts.
use Rattle.std.proofs.Common.{◌≡◌, ℕ, List, [], ◌∷◌, Bool, map, length, refl, ap, ◌∙◌}
use Rattle.lustre_syntax.specs.Tree.{EquationTree, texts_of}
use Rattle.lustre_syntax.specs.Named.{NamedExpr, NamedEquation, NamedNode, renamed, renamed_equation, place_of, all_names}
use Rattle.lustre_syntax.specs.Plain.{declared_names}
use Rattle.lustre_expressions.specs.Placed.{placed_by}

-- the texts of declared names
pub texts-declared : (names : List (List ℕ × Bool)) → map (λ x. x.0) names ≡ texts_of (declared_names names)
texts-declared [] = refl
texts-declared (x ∷ xs) = ap (λ rest. x.0 ∷ rest) (texts-declared xs)

module _ (f g : List ℕ → ℕ) (same : (text : List ℕ) → f text ≡ g text) where
  -- the same places give the same expressions, equations and nodes
  pub renamed-alike : (e : NamedExpr) → renamed f e ≡ renamed g e
  renamed-alike e = λ i. renamed (λ text. same text i) e

  pub equation-alike : (callee : List ℕ → ℕ) (e : NamedEquation) → renamed_equation f callee e ≡ renamed_equation g callee e
  equation-alike callee e = λ i. renamed_equation (λ text. same text i) callee e

  pub placed-alike : (ns : List NamedNode) → map (placed_by f) ns ≡ map (placed_by g) ns
  placed-alike ns = λ i. map (placed_by (λ text. same text i)) ns

-- a node made of these parts
pub node-made : (callee : List ℕ → ℕ) (n : NamedNode) (text : List ℕ) (inputs outputs : ℕ) (names : List (List ℕ × Bool))
    (equations : List EquationTree) → text ≡ n.text → inputs ≡ length n.inputs → outputs ≡ length n.outputs →
    declared_names names ≡ all_names n →
    equations ≡ map (renamed_equation (place_of (map (λ x. x.0) names)) callee) n.equations →
    record {
      text = text;
      line = 0;
      inputs = inputs;
      outputs = outputs;
      names = declared_names names;
      equations = equations;
    } ≡ placed_by callee n
node-made callee n text inputs outputs names equations is_text many_inputs many_outputs named made =
    let texts : map (λ x. x.0) names ≡ texts_of (all_names n) = texts-declared names ∙ ap texts_of named in
    let placed : equations ≡ map (renamed_equation (place_of (texts_of (all_names n))) callee) n.equations =
    made ∙ ap (λ (ts : List (List ℕ)). map (renamed_equation (place_of ts) callee) n.equations) texts in
    λ i. record {
      text = is_text i;
      line = 0;
      inputs = many_inputs i;
      outputs = many_outputs i;
      names = named i;
      equations = placed i;
    }
