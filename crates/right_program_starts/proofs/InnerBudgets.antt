-- The budgets of a system and of all inside it: they hold those of its children, and are within the machine's limit.
use Rattle.std.specs.Prelude.{◌≡◌, ℕ, ◌+◌, ◌*◌, ◌≤◌, ◌∷◌, map, length, sum_by, slice_get, Contains, Option, Some, None}
use Rattle.std.specs.List.{AllZip}
use Rattle.std.proofs.Common.{sym, ap, subst, ◌∙◌, arith, inl, inr}
use Rattle.std.proofs.lemmas.Nat.{mul-le}
use Rattle.diagram_blocks.specs.Value.{greatest_in}
use Rattle.diagram_meaning.specs.Rows.{outports_of, subsystems_of}
use Rattle.diagram_blocks.specs.Kinds.{is_outport}
use Rattle.modules_profile.specs.declared.ChildUse.{ChildUse}
use Rattle.modules_profile.specs.NodeFacts.{IsLocalOf}
use Rattle.modules_profile.specs.Systems.{systems, systems_inside}
use Rattle.modules_profile.proofs.lemmas.Members.{of-map, in-cases, at-in}
use Rattle.modules_profile.proofs.lemmas.PortRows.{few-ports}
use Rattle.c_semantics.specs.Values.{step_limit}
use Rattle.right_relation.specs.Budgets.{own_budget, step_bound}
use Rattle.right_relation.specs.BudgetLaws.{BudgetsSumToBound}
use Rattle.right_linking.specs.Parts.{Parts, diagram, all_systems, Views}
use Rattle.right_linking.specs.Starts.{budget_inside}
use Rattle.right_program_starts.proofs.Everywhere.{zip-along}
use Rattle.right_program_starts.proofs.Sums.{total, total-is, total-map, total-le, fold-below}
use Rattle.right_program_starts.proofs.InnerSums.{whole, children-within, part-of-all}
use Rattle.right_program_starts.proofs.SystemPlaces.{nested, children-rows}

module _ (a : Parts) (v : Views a) where
  -- the budget of a system, and of a subsystem
  abbrev own : Option ℕ → ℕ
  own o = own_budget (v.at o).local

  abbrev weigh : ℕ → ℕ
  weigh e = own (Some e)

  budget-is : (n : Option ℕ) → budget_inside a v n ≡ own n + total weigh (systems_inside (diagram a).rows n)
  budget-is n =
      total-is own (n ∷ map Some (systems_inside (diagram a).rows n))
      ∙ ap (λ k. own n + k) (total-map own Some (systems_inside (diagram a).rows n))

  -- a system's own budget, and those of its children and of all inside them
  pub children-budgets : (place : ℕ) (s : Option ℕ) → slice_get (all_systems a) place ≡ Some s →
      own_budget (v.at s).local + total (λ (u : ChildUse). budget_inside a v u.header.row) (v.at s).local.children ≤ budget_inside a v s
  children-budgets place s stands =
      let rows = (diagram a).rows in
      let by_rows : total (λ (u : ChildUse). budget_inside a v u.header.row) (v.at s).local.children
      ≡ total (λ e. budget_inside a v (Some e)) (subsystems_of rows s) =
      sym (total-map (budget_inside a v) (λ (u : ChildUse). u.header.row) (v.at s).local.children)
      ∙ ap (total (budget_inside a v)) (children-rows a v place s stands)
      ∙ total-map (budget_inside a v) Some (subsystems_of rows s) in
      let each = total-le (λ e. budget_inside a v (Some e)) (whole rows (nested a) weigh) (subsystems_of rows s)
      (λ e at. let is = budget-is (Some e) in omega (arith, is)) in
      let sums = children-within rows (nested a) weigh s in
      let outer = budget-is s in
      omega (arith, by_rows, each, sums, outer)

  -- ---- Within the limit

  -- no system has more than 32 outputs
  few-outputs : greatest_in (map (λ s. length (outports_of (diagram a).rows s)) (systems (diagram a).rows)) ≤ 32
  few-outputs =
      fold-below (map (λ s. length (outports_of (diagram a).rows s)) (systems (diagram a).rows)) 0 32 (omega arith) (λ x has.
      let from = of-map (λ s. length (outports_of (diagram a).rows s)) (systems (diagram a).rows) x has in
      subst (λ n. n ≤ 32) from.2 (few-ports (diagram a).rows from.0 is_outport (a.can.resolved.tree.table.outports from.0)))

  bound-below : step_bound (diagram a).rows ≤ step_limit
  bound-below =
      let few = few-outputs in
      let long = (nested a).at_most in
      let most = greatest_in (map (λ s. length (outports_of (diagram a).rows s)) (systems (diagram a).rows)) in
      let product = mul-le (12 * (length (diagram a).rows + 1)) (1 + most) 240012 33 (omega (arith, long)) (omega (arith, few)) in
      omega (arith, product)

  module _ (sums : BudgetsSumToBound) where
    all-below : own None + total weigh (systems_inside (diagram a).rows None) ≤ step_limit
    all-below =
        let locals = map (λ (s : Option ℕ). (v.at s).local) (all_systems a) in
        let are : AllZip (IsLocalOf a.model) (all_systems a) locals = zip-along (IsLocalOf a.model) (λ s. (v.at s).local) (all_systems a)
        (λ s has. let at = at-in (all_systems a) s has in (v.each at.0 s at.1).local) in
        let bound = sums a.model locals a.can.resolved are in
        let same : sum_by own_budget locals ≡ own None + total weigh (systems_inside (diagram a).rows None) =
        total-is own_budget locals
        ∙ total-map own_budget (λ (s : Option ℕ). (v.at s).local) (all_systems a)
        ∙ ap (λ k. own None + k) (total-map own Some (systems_inside (diagram a).rows None)) in
        let low = bound-below in
        omega (arith, bound, same, low)

    -- so are those of each system and of all inside it
    pub budget-below : (n : Option ℕ) → Contains (all_systems a) n → budget_inside a v n ≤ step_limit
    budget-below None has = let all = all-below in let is = budget-is None in omega (arith, all, is)
    budget-below (Some e) has = elim (in-cases None (Some e) (map Some (systems_inside (diagram a).rows None)) has) [
      | inl same ↦ absurd (let wrong : ⊥ = cc same in wrong)
      | inr more ↦
          let from = of-map Some (systems_inside (diagram a).rows None) (Some e) more in
          let row : from.0 ≡ e = cc from.2 in
          let one = part-of-all (diagram a).rows (nested a) weigh e (subst (Contains (systems_inside (diagram a).rows None)) row from.1) in
          let all = all-below in
          let is = budget-is (Some e) in
          omega (arith, one, all, is)
    ]
