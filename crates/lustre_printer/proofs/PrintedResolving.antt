-- What printed equations spell is resolved to what they are printed from.
use Rattle.std.proofs.Common.{◌≡◌, refl, sym, ◌∙◌, ap, subst, ℕ, ◌+◌, ◌<◌, List, [], ◌∷◌, ◌++◌, length, map, Some, Ok, slice_get}
use Rattle.std.specs.Prelude.{flat_map}
use Rattle.std.specs.List.{AllByRecursion}
use Rattle.std.proofs.lemmas.List.{length-map}
use Rattle.std.proofs.lemmas.Option.{slice_get_within}
use Rattle.base_core.specs.Numbers.{reported_number}
use Rattle.c_syntax.specs.Names.{name_at}
use Rattle.lustre_syntax.specs.Tree.{EquationTree, set, call, Declared, NodeTree, texts_of, types_of, node_texts, given_by, expressions_of}
use Rattle.lustre_syntax.specs.Typing.{type_at, fits, input_types}
use Rattle.lustre_syntax.specs.Lawful.{AreDistinct, Agrees}
use Rattle.lustre_rules.specs.Resolve.{Scope, place_named, resolve_given, resolve_all_given, node_named, resolve_equation, resolve_equations}
use Rattle.lustre_printer.proofs.Names.{place-name}
use Rattle.lustre_printer.proofs.PrintedTrees.{written_equation, read_equation, written_equations, read_equations, read_node}
use Rattle.lustre_printer.proofs.PrintedValues.{IsWithin, expr-resolved, exprs-resolved, expr-fits, exprs-fit}
use Rattle.lustre_printer.proofs.PrintedGiven.{Wants, wants-next, wants-after, next-may}

-- the nodes before, as they are read
pub record AreRead (nodes : List (List ℕ)) (earlier done : List NodeTree) : Type 0 where
  pub texts : node_texts done ≡ node_texts earlier
  pub distinct : AreDistinct (node_texts earlier)
  pub there : (k : ℕ) (n : NodeTree) → slice_get earlier k ≡ Some n → (l : ℕ) × (slice_get done k ≡ Some (read_node l n))
  pub names : (k : ℕ) → k < length earlier → name_at nodes k ≡ name_at (node_texts earlier) k

-- an equation's places are those of its node
pub record HasPlaces (names : List Declared) (e : EquationTree) : Type 0 where
  pub given : AllByRecursion (λ k. k < length names) (given_by e)
  pub values : AllByRecursion (IsWithin names) (expressions_of e)

module _ (nodes : List (List ℕ)) (earlier done : List NodeTree) (read : AreRead nodes earlier done) (n : NodeTree)
    (distinct : AreDistinct (texts_of n.names)) where
  abbrev texts : List (List ℕ)
  texts = texts_of n.names

  abbrev scope : List ℕ → Scope
  scope before = record { earlier = done; names = n.names; inputs = n.inputs; given = before }

  given-resolved : (before later : List ℕ) (k : ℕ) → k < length n.names → Wants n before (k ∷ later) →
      resolve_given (scope before) (name_at texts k) ≡ Ok k
  given-resolved before later k within wants =
      rw (
        place-name texts k distinct (subst (λ m. k < m) (sym (length-map n.names (λ x. x.text))) within),
        next-may n.names done n before later k within wants,
      ) refl

  all_given-resolved : (before later : List ℕ) (ks : List ℕ) → AllByRecursion (λ k. k < length n.names) ks →
      Wants n before (ks ++ later) → resolve_all_given (scope before) (map (name_at texts) ks) ≡ Ok ks
  all_given-resolved before later [] within wants = refl
  all_given-resolved before later (k ∷ ks) within wants =
      rw (
        given-resolved before (ks ++ later) k within.0 wants,
        all_given-resolved (before ++ k ∷ []) later ks within.1 (wants-next n before (ks ++ later) k wants),
      ) refl

  callee-resolved : (callee : ℕ) (of : NodeTree) → slice_get earlier callee ≡ Some of →
      (l : ℕ) × (node_named done (name_at nodes callee) ≡ Ok (callee, read_node l of))
  callee-resolved callee of there =
      let found : _ = read.there callee of there in
      let within : callee < length earlier = slice_get_within earlier callee of there in
      let place : place_named (node_texts done) (name_at nodes callee) ≡ Ok callee =
      ap (λ ts. place_named ts (name_at nodes callee)) read.texts ∙ ap (place_named (node_texts earlier)) (read.names callee within)
      ∙ place-name (node_texts earlier) callee read.distinct
      (subst (λ m. callee < m) (sym (length-map earlier (λ x. x.text))) within) in
      (found.0, rw (place, found.1) refl)

  equation-resolved : (l : ℕ) (e : EquationTree) → Agrees earlier n e → HasPlaces n.names e → (before later : List ℕ) →
      Wants n before (given_by e ++ later) →
      resolve_equation (scope before) (written_equation nodes texts (reported_number l) e) ≡ Ok (read_equation (reported_number l) e)
  equation-resolved l (set line given value) agrees places before later wants =
      rw (
        given-resolved before later given places.given.0 wants,
        expr-fits n.names distinct (reported_number l) value (type_at (types_of n.names) given) places.values.0,
        agrees,
        expr-resolved n.names distinct (reported_number l) value places.values.0,
      ) refl
  equation-resolved l (call line given callee values) agrees places before later wants =
      let found : _ = callee-resolved callee agrees.0 agrees.1 in
      rw (
        all_given-resolved before later given places.given wants,
        found.1,
        agrees.2,
        exprs-fit n.names distinct (reported_number l) values (input_types agrees.0) places.values,
        agrees.3,
        exprs-resolved n.names distinct (reported_number l) values places.values,
      ) refl

  same-given : (line : ℕ) (e : EquationTree) → given_by (read_equation line e) ≡ given_by e
  same-given line (set old given value) = refl
  same-given line (call old given callee values) = refl

  pub equations-resolved : (l : ℕ) (es : List EquationTree) → AllByRecursion (Agrees earlier n) es →
      AllByRecursion (HasPlaces n.names) es → (before : List ℕ) → Wants n before (flat_map given_by es) →
      resolve_equations (scope before) (written_equations nodes texts l es) ≡ Ok (read_equations l es)
  equations-resolved l [] agree places before wants = refl
  equations-resolved l (e ∷ es) agree places before wants =
      rw (
        equation-resolved l e agree.0 places.0 before (flat_map given_by es) wants,
        same-given (reported_number l) e,
        equations-resolved (l + 1) es agree.1 places.1 (before ++ given_by e)
            (wants-after n before (given_by e) (flat_map given_by es) wants),
      ) refl
