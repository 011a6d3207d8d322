-- The number of a model's output functions, by the profiles of its systems.
use Rattle.std.specs.Prelude.{◌≡◌, ℕ, suc, ◌+◌, ◌*◌, ◌&&◌, ◌^◌, ◌<◌, ◌≤◌, Bool, true, false, List, [], ◌∷◌, map, filter, length, sum, sum_by, All, Option, Some, None, refl}
use Rattle.std.specs.List.{AllZip, AllByRecursion}
use Rattle.std.proofs.Common.{sym, ap, ap₂, subst, ◌∙◌, arith, lit≤}
use Rattle.std.proofs.lemmas.List.{length-map}
use Rattle.std.proofs.lemmas.List.FromFn.{length-range_with_len}
use Rattle.std.proofs.lemmas.List.Elements.{All-head, All-tail}
use Rattle.std.proofs.lemmas.List.Sums.{sum_by-cons}
use Rattle.base_core.specs.Interface.{different}
use Rattle.diagram_meaning.specs.Diagram.{Diagram}
use Rattle.diagram_meaning.specs.Rows.{is_inside, row_at, row_numbers, outports_of}
use Rattle.diagram_blocks.specs.Kinds.{is_outport, is_subsystem}
use Rattle.diagram_meaning.specs.Needs.{AreTrueNeeds}
use Rattle.diagram_meaning.specs.ResolvedTree.{ResolvedTree, IsResolvedTree, diagram_of}
use Rattle.modules_clusters.specs.Classes.{class_count}
use Rattle.modules_profile.specs.SystemProfile.{SystemProfile}
use Rattle.modules_profile.specs.Functions.{IsProfileOf, function_for, functions_for}
use Rattle.modules_profile.specs.Systems.{systems, systems_inside}
use Rattle.modules_profile.proofs.lemmas.LawfulSteps.{short-different, short-filter}
use Rattle.modules_profile.proofs.lemmas.PortRows.{few-ports}
use Rattle.right_claim.specs.Right.{IsFunctionCount}

abbrev functions_in : SystemProfile → ℕ
functions_in p = length p.functions

-- a profile has as many functions as its outputs have different needs
one-count : (d : Diagram) (s : Option ℕ) (p : SystemProfile) (is : IsProfileOf d s p) → functions_in p ≡ class_count is.needs
one-count d s p is = ap length is.functions ∙ length-map (different is.needs) (function_for is.needs)

-- ---- The sum

abbrev Counted : Diagram → List (Option ℕ) → List SystemProfile → Type 0
Counted d ss ps = (needs : List (List ℕ)) × AllZip (AreTrueNeeds d) ss needs × (sum_by functions_in ps ≡ sum (map class_count needs))

all-counted : (d : Diagram) (ps : List SystemProfile) → All (λ p. IsProfileOf d p.row p) ps → Counted d (map (λ p. p.row) ps) ps
all-counted d [] each = ([], tt, refl)
all-counted d (p ∷ ps) each =
    let is = All-head (λ q. IsProfileOf d q.row q) p ps each in
    let (needs, are, total) = all-counted d ps (All-tail (λ q. IsProfileOf d q.row q) p ps each) in (
      is.needs ∷ needs,
      (is.are_needs, are),
      sum_by-cons functions_in p ps
          ∙ ap₂ (λ n m. n + m) (one-count d p.row p is) total
          ∙ sym (sum_by-cons (λ (n : ℕ). n) (class_count is.needs) (map class_count needs)),
    )

pub functions-counted : (d : Diagram) (ps : List SystemProfile) → map (λ p. p.row) ps ≡ systems d.rows →
    All (λ p. IsProfileOf d p.row p) ps →
    IsFunctionCount d (sum_by functions_in ps)
functions-counted d ps rows each =
    let (needs, are, total) = subst (λ ss. Counted d ss ps) rows (all-counted d ps each) in
    record { needs = needs; are_needs = are; count = total }

-- ---- How great it can be

zip-length : {A B : Type 0} (R : A → B → Type 0) (xs : List A) (ys : List B) → AllZip R xs ys → length xs ≡ length ys
zip-length R [] [] all = refl
zip-length R [] (y ∷ ys) all = absurd all
zip-length R (x ∷ xs) [] all = absurd all
zip-length R (x ∷ xs) (y ∷ ys) all = ap suc (zip-length R xs ys all.1)

module _ (r : ResolvedTree) (is : IsResolvedTree r) where
  few-functions : (s : Option ℕ) (p : SystemProfile) → IsProfileOf (diagram_of r) s p → functions_in p ≤ 32
  few-functions s p of =
      let made = one-count (diagram_of r) s p of in
      let short = short-different of.needs in
      let long = zip-length _ (outports_of r.tree.table.rows s) of.needs of.are_needs in
      let ports = few-ports r.tree.table.rows s is_outport (is.tree.table.outports s) in
      omega (arith, made, short, long, ports)

  all-few : (ps : List SystemProfile) → All (λ p. IsProfileOf (diagram_of r) p.row p) ps → sum_by functions_in ps ≤ 32 * length ps
  all-few [] each = omega arith
  all-few (p ∷ ps) each =
      let one = few-functions p.row p (All-head (λ q. IsProfileOf (diagram_of r) q.row q) p ps each) in
      let rest = all-few ps (All-tail (λ q. IsProfileOf (diagram_of r) q.row q) p ps each) in
      let made = sum_by-cons functions_in p ps in
      omega (arith, one, rest, made)

  -- a model has few systems, and each of them few functions
  pub few-systems : length (systems r.tree.table.rows) ≤ 20001
  few-systems =
      let rows = r.tree.table.rows in
      let inner = short-filter (λ e. is_subsystem (row_at rows e).kind && is_inside rows None e) (row_numbers rows) in
      let mapped = length-map (systems_inside rows None) Some in
      let numbers = length-range_with_len 0 (length rows) in
      let most = is.tree.table.nested.at_most in
      omega (arith, inner, mapped, numbers, most)

  pub functions-fit : (ps : List SystemProfile) → map (λ p. p.row) ps ≡ systems r.tree.table.rows →
      All (λ p. IsProfileOf (diagram_of r) p.row p) ps →
      sum_by functions_in ps < 2 ^ 32
  functions-fit ps rows each =
      let few = all-few ps each in
      let same = sym (length-map ps (λ (p : SystemProfile). p.row)) ∙ ap length rows in
      let most = few-systems in
      omega (arith, few, same, most)
