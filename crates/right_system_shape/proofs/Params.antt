-- A parameter that a procedure has is read by its name.
use Rattle.std.specs.Prelude.{◌≡◌, refl, ℕ, suc, ◌+◌, Bool, true, false, cond, List, [], ◌∷◌, map, slice_index_or, Contains, Some, unwrap_or, bytes_eq, ◌⊎◌}
use Rattle.std.specs.List.{position_from}
use Rattle.std.specs.Cmp.Lexicographic.{same_text, other_text}
use Rattle.std.proofs.Common.{sym, ap, ◌∙◌, arith, inl, inr, true≢false}
use Rattle.modules_profile.proofs.lemmas.Members.{in-none, in-cases}
use Rattle.c_syntax.specs.Tree.{ParamTree}
use Rattle.emit_shape.specs.NamedLeaf.{param}
use Rattle.emit_shape.specs.CodeNames.{CodeNames, named_leaf, no_param}
use Rattle.emit_system_spec.specs.Places.{param_leaf}

pub bytes-same : (a b : List ℕ) → a ≡ b → bytes_eq a b ≡ true
bytes-same a b e = by (bytes_eq a b) refl
  where
    by : (t : Bool) → bytes_eq a b ≡ t → t ≡ true
    by true q = refl
    by false q = absurd (other_text a b (sym q) e)

pub bytes-one : (a b : List ℕ) → bytes_eq a b ≡ true → a ≡ b
bytes-one a b e = same_text a b (sym e)

pub bytes-apart : (a b : List ℕ) → (a ≡ b → ⊥) → bytes_eq a b ≡ false
bytes-apart a b apart = by (bytes_eq a b) refl
  where
    by : (t : Bool) → bytes_eq a b ≡ t → t ≡ false
    by true q = absurd (apart (same_text a b (sym q)))
    by false q = refl

abbrev pub HasParam : List ParamTree → List ℕ → Type 0
HasParam params name = Contains (map (λ (p : ParamTree). p.name) params) name

first-param : (i : ℕ) (params : List ParamTree) (name : List ℕ) → HasParam params name →
    (k : ℕ) × (position_from (λ (q : ParamTree). bytes_eq q.name name) i params ≡ Some (i + k)) × ((slice_index_or params k no_param).name
    ≡ name)
first-param i [] name h = absurd (in-none name h)
first-param i (p ∷ params) name h = by (bytes_eq p.name name) refl (in-cases p.name name (map (λ (p : ParamTree). p.name) params) h)
    (λ more. first-param (i + 1) params name more)
  where
    by : (t : Bool) → bytes_eq p.name name ≡ t → (p.name ≡ name) ⊎ HasParam params name →
        (HasParam params name → (k : ℕ) × (position_from (λ (q : ParamTree). bytes_eq q.name name) (i + 1) params ≡ Some (i + 1 + k)) ×
        ((slice_index_or params k no_param).name ≡ name)) →
        (k : ℕ) × (cond t (Some i) (position_from (λ (q : ParamTree). bytes_eq q.name name) (i + 1) params) ≡ Some (i + k)) ×
        ((slice_index_or (p ∷ params) k no_param).name ≡ name)
    by true e h later = (0, ap Some (let stay : i ≡ i + 0 = omega arith in stay), bytes-one p.name name e)
    by false e (inl same) later = absurd (true≢false (sym (bytes-same p.name name same) ∙ e))
    by false e (inr more) later =
        let m = later more in
        (suc m.0, m.1 ∙ ap Some (let next : i + 1 + m.0 ≡ i + suc m.0 = omega arith in next), m.2)

pub param-named : (n : CodeNames) (params : List ParamTree) (name : List ℕ) → HasParam params name →
    named_leaf n params (param_leaf params name) ≡ param name
param-named n params name h =
    let m = first-param 0 params name h in
    ap (λ o. param (slice_index_or params (unwrap_or o 0) no_param).name) m.1
    ∙ ap (λ k. param (slice_index_or params k no_param).name) (let same : 0 + m.0 ≡ m.0 = omega arith in same) ∙ ap param m.2
