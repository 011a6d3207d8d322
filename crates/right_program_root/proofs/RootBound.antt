-- The steps of a tick are within the bound, and the bound is within the machine's limit.
use Rattle.std.specs.Prelude.{◌≡◌, ℕ, suc, max, ◌+◌, ◌*◌, ◌≤◌, not, ◌==◌, List, [], ◌∷◌, map, length, sum_by, Contains, Option, None, refl}
use Rattle.std.specs.List.{AllZip, fold}
use Rattle.std.proofs.Common.{sym, ap, ◌∙◌, arith}
use Rattle.std.proofs.Math.Nat.{max-le}
use Rattle.std.proofs.lemmas.Nat.{mul-le}
use Rattle.std.proofs.lemmas.List.Sums.{sum_by-cons, length-filter, count_by-le-length}
use Rattle.base_core.specs.Interface.{different}
use Rattle.diagram_blocks.specs.Value.{greatest_in}
use Rattle.diagram_meaning.specs.Rows.{row_at, rows_of, outports_of}
use Rattle.diagram_blocks.specs.Kinds.{is_outport}
use Rattle.diagram_meaning.specs.Diagram.{Diagram}
use Rattle.diagram_meaning.proofs.lemmas.Ports.{length-by_port}
use Rattle.modules_profile.specs.SystemProfile.{SystemProfile}
use Rattle.modules_profile.specs.Functions.{function_for, IsProfileOf}
use Rattle.modules_profile.specs.NodeFacts.{IsLocalOf}
use Rattle.modules_profile.specs.Systems.{systems}
use Rattle.modules_profile.proofs.lemmas.Members.{in-first, in-rest, at-in}
use Rattle.c_semantics.specs.Values.{step_limit}
use Rattle.right_relation.specs.Budgets.{own_budget, step_bound}
use Rattle.right_relation.specs.BudgetLaws.{BudgetsSumToBound}
use Rattle.right_linking.specs.Parts.{Parts, diagram, all_systems, Views}
use Rattle.right_linking.specs.Starts.{budget_inside}
use Rattle.right_program_root.proofs.PortedRows.{mapped-length}

-- ---- Functions and outputs

different-few : (xs : List ℕ) → length (different xs) ≤ length xs
different-few [] = omega arith
different-few (x ∷ xs) =
    let long = length-filter (λ y. not (y == x)) (different xs) in
    let few = count_by-le-length (λ y. not (y == x)) (different xs) in
    let rest = different-few xs in
    omega (arith, long, few, rest)

zip-long : {A B : Type 0} (R : A → B → Type 0) (xs : List A) (ys : List B) → AllZip R xs ys → length xs ≡ length ys
zip-long R [] [] all = refl
zip-long R [] (y ∷ ys) all = absurd all
zip-long R (x ∷ xs) [] all = absurd all
zip-long R (x ∷ xs) (y ∷ ys) all = ap suc (zip-long R xs ys all.1)

-- a system has at most as many functions as outputs
pub functions-few : (d : Diagram) (s : Option ℕ) (profile : SystemProfile) → IsProfileOf d s profile →
    length profile.functions ≤ length (outports_of d.rows s)
functions-few d s profile is =
    let made = ap length is.functions ∙ mapped-length (function_for is.needs) (different is.needs) in
    let few = different-few is.needs in
    let long = zip-long _ (outports_of d.rows s) is.needs is.are_needs in
    omega (arith, made, few, long)

-- ---- The bound

sum-map : {A B : Type 0} (f : B → ℕ) (g : A → B) (xs : List A) → sum_by f (map g xs) ≡ sum_by (λ x. f (g x)) xs
sum-map f g [] = refl
sum-map f g (x ∷ xs) = sum_by-cons f (g x) (map g xs) ∙ ap (λ n. f (g x) + n) (sum-map f g xs) ∙ sym (sum_by-cons (λ y. f (g y)) x xs)

zip-mapped : {A B : Type 0} (P : A → B → Type 0) (f : A → B) (xs : List A) → ((x : A) → Contains xs x → P x (f x)) → AllZip P xs (map f xs)
zip-mapped P f [] each = tt
zip-mapped P f (x ∷ xs) each = (each x (in-first x xs), zip-mapped P f xs (λ y has. each y (in-rest x y xs has)))

greatest-most : {A : Type 0} (f : A → ℕ) (m a : ℕ) (xs : List A) → a ≤ m → ((x : A) → f x ≤ m) → fold max a (map f xs) ≤ m
greatest-most f m a [] low each = low
greatest-most f m a (x ∷ xs) low each = greatest-most f m (max a (f x)) xs (max-le low (each x)) each

module _ (a : Parts) (v : Views a) where
  -- how many outputs the root has
  abbrev pub outputs : ℕ
  outputs = length (outports_of (diagram a).rows None)

  pub within-bound : BudgetsSumToBound → budget_inside a v None + 2 * (1 + outputs) ≤ step_bound (diagram a).rows
  within-bound sums =
      let local = λ (s : Option ℕ). (v.at s).local in
      let sum = sums a.model (map local (all_systems a)) a.can.resolved
      (zip-mapped (IsLocalOf a.model) local (all_systems a)
      (λ s has. let at = at-in (all_systems a) s has in (v.each at.0 s at.1).local)) in
      let same : sum_by own_budget (map local (all_systems a)) ≡ budget_inside a v None = sum-map own_budget local (all_systems a) in
      omega (arith, sum, same)

  pub within-limit : step_bound (diagram a).rows ≤ step_limit
  within-limit =
      let rows = a.can.resolved.tree.table.nested.at_most in
      let outs : greatest_in (map (λ s. length (outports_of (diagram a).rows s)) (systems (diagram a).rows)) ≤ 32 =
      greatest-most (λ s. length (outports_of (diagram a).rows s)) 32 0 (systems (diagram a).rows) (omega arith) few in
      let many : 12 * (length (diagram a).rows + 1) ≤ 240012 = omega (arith, rows) in
      let more : 1 + greatest_in (map (λ s. length (outports_of (diagram a).rows s)) (systems (diagram a).rows)) ≤ 33 =
      omega (arith, outs) in
      let product : 12 * (length (diagram a).rows + 1) *
      (1 + greatest_in (map (λ s. length (outports_of (diagram a).rows s)) (systems (diagram a).rows))) ≤ 240012 * 33 =
      mul-le (12 * (length (diagram a).rows + 1))
      (1 + greatest_in (map (λ s. length (outports_of (diagram a).rows s)) (systems (diagram a).rows))) 240012 33 many more in
      omega (arith, product)
    where
      few : (s : Option ℕ) → length (outports_of (diagram a).rows s) ≤ 32
      few s =
          let ports = a.can.resolved.tree.table.outports s in
          let long = length-by_port (diagram a).rows is_outport s ports in
          let count = length-filter (λ b. is_outport (row_at (diagram a).rows b).kind) (rows_of (diagram a).rows s) in
          let most = ports.at_most in
          omega (arith, long, count, most)
