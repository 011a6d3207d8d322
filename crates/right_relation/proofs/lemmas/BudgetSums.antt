-- The budgets of all systems, and a tick's own steps of the root, sum to the bound.
use Rattle.std.specs.Prelude.{◌≡◌, ℕ, suc, ◌+◌, ◌*◌, ◌<◌, ◌≤◌, ◌==◌, Bool, true, cond, ◌&&◌, List, [], ◌∷◌, map, filter, find, length, sum_by, Contains, Option, Some, None}
use Rattle.std.specs.List.{AllZip, range_with_len}
use Rattle.std.proofs.Common.{refl, sym, ap, ap₂, subst, ◌∙◌, arith, inl, inr}
use Rattle.std.proofs.lemmas.Nat.{mul-le}
use Rattle.std.proofs.lemmas.List.Sums.{sum_by-cons}
use Rattle.diagram_blocks.specs.Value.{greatest_in}
use Rattle.diagram_meaning.specs.declared.table.Row.{Row}
use Rattle.diagram_meaning.specs.Rows.{row_at, row_numbers, same_system, rows_of, subsystems_of, outports_of, is_inside}
use Rattle.diagram_blocks.specs.Kinds.{is_subsystem, is_outport, port_of}
use Rattle.diagram_meaning.specs.Diagram.{Diagram, type_at}
use Rattle.diagram_meaning.specs.ResolvedTree.{ResolvedTree, diagram_of}
use Rattle.modules_profile.specs.declared.ChildUse.{ChildUse}
use Rattle.modules_profile.specs.declared.LocalRow.{LocalRow}
use Rattle.modules_profile.specs.LocalSystem.{LocalSystem}
use Rattle.modules_profile.specs.SystemHeader.{SystemHeader}
use Rattle.modules_profile.specs.Systems.{systems, systems_inside}
use Rattle.modules_profile.specs.Headers.{header_of}
use Rattle.modules_profile.specs.Locals.{local_row, local_of, child_use, outports}
use Rattle.modules_profile.specs.NodeFacts.{AreHeaders, IsLocalOf, HeaderIsOfOwnRows}
use Rattle.right_relation.specs.Budgets.{most_outputs, own_budget}
use Rattle.right_relation.specs.BudgetLaws.{BudgetsSumToBound}
use Rattle.right_relation.proofs.Lists.{in-first, in-rest, in-cases, in-map, of-map, in-filter, in-range}
use Rattle.right_relation.proofs.lemmas.ChildTicks.{child-header}
use Rattle.right_relation.proofs.Totals.{total, total-is, total-cons, total-map, total-le, total-add, total-times, total-one, total-kept, by-owner, one-owner, kept-shorter, chosen-shorter, length-range, fold-has, fold-below}

length-made : {A B : Type 0} (f : A → B) (xs : List A) → length (map f xs) ≡ length xs
length-made f [] = refl
length-made f (x ∷ xs) = ap suc (length-made f xs)

-- the bound, split by what it allows
parts : (k n : ℕ) → 12 * (n + 1) * k ≡ 8 * k * n + 4 * k * n + 12 * k
parts k n = omega arith

module _ (r : ResolvedTree) where
  abbrev d : Diagram
  d = diagram_of r

  abbrev rows : List Row
  rows = d.rows

  -- how many outputs a system has
  abbrev outs : Option ℕ → ℕ
  outs s = length (outports_of rows s)

  abbrev greatest : ℕ
  greatest = greatest_in (map outs (systems rows))

  among : (s : Option ℕ) → Contains (systems rows) s → outs s ≤ greatest
  among s at = fold-has (map outs (systems rows)) 0 (outs s) (in-map outs (systems rows) s at)

  -- ---- The rows of all systems, and the outputs of all children

  fewer-outs : (s : Option ℕ) → outs s ≤ length (rows_of rows s)
  fewer-outs s =
      let chosen =
      chosen-shorter
      (λ k. find (λ b. port_of (row_at rows b).kind == k)
      (filter (λ b. is_outport (row_at rows b).kind) (rows_of rows s)))
      (range_with_len 1 (length (filter (λ b. is_outport (row_at rows b).kind) (rows_of rows s)))) in
      let long = length-range 1 (length (filter (λ b. is_outport (row_at rows b).kind) (rows_of rows s))) in
      let kept = kept-shorter (λ b. is_outport (row_at rows b).kind) (rows_of rows s) in
      omega arith

  abbrev owns : ℕ → Option ℕ → Bool
  owns b s = same_system (row_at rows b).owner s

  in-systems : (e : ℕ) → e < length rows → is_subsystem (row_at rows e).kind ≡ true → Contains (systems rows) (Some e)
  in-systems e inside sub =
      in-rest None (Some e) (map Some (systems_inside rows None)) (in-map Some (systems_inside rows None) e
      (in-filter (λ b. is_subsystem (row_at rows b).kind && is_inside rows None b) (row_numbers rows) e
      (in-range 0 (length rows) e (omega arith) (omega arith)) (ap (λ q. q && true) sub)))

  one : (b : ℕ) → total (λ s. cond (owns b s) 1 0) (systems rows) ≤ 1
  one b = one-owner (row_at rows b).owner (length rows) (λ e. is_subsystem (row_at rows e).kind && is_inside rows None e)

  all-rows : total (λ s. length (rows_of rows s)) (systems rows) ≤ length rows
  all-rows =
      let sums = by-owner owns (λ b. 1) (systems rows) one (row_numbers rows) in
      let whole = total-one (row_numbers rows) ∙ length-range 0 (length rows) in
      let each =
      total-le (λ s. length (rows_of rows s)) (λ s. total (λ b. 1) (rows_of rows s)) (systems rows)
      (λ s at. let ones = total-one (rows_of rows s) in omega arith) in
      omega arith

  -- the outputs of the children of a system
  abbrev child_outs : Option ℕ → ℕ
  child_outs s = total (λ e. outs (Some e)) (subsystems_of rows s)

  all-child-outs : total child_outs (systems rows) ≤ length rows
  all-child-outs =
      let weigh = λ (b : ℕ). cond (is_subsystem (row_at rows b).kind) (outs (Some b)) 0 in
      let each =
      total-le child_outs (λ s. total weigh (rows_of rows s)) (systems rows)
      (λ s at. let same = total-kept (λ e. outs (Some e)) (λ b. is_subsystem (row_at rows b).kind)
      (rows_of rows s) in omega arith) in
      let sums = by-owner owns weigh (systems rows) one (row_numbers rows) in
      let back = total-kept (λ e. outs (Some e)) (λ b. is_subsystem (row_at rows b).kind) (row_numbers rows) in
      let fewer =
      total-le (λ e. outs (Some e)) (λ e. length (rows_of rows (Some e)))
      (filter (λ b. is_subsystem (row_at rows b).kind) (row_numbers rows)) (λ e at. fewer-outs (Some e)) in
      let made = total-map (λ s. length (rows_of rows s)) Some (filter (λ b. is_subsystem (row_at rows b).kind) (row_numbers rows)) in
      let within = inner-rows in
      omega arith
    where
      inner-rows : total (λ s. length (rows_of rows s))
          (map Some (filter (λ b. is_subsystem (row_at rows b).kind) (row_numbers rows))) ≤ length rows
      inner-rows =
          let owners = None ∷ map Some (filter (λ b. is_subsystem (row_at rows b).kind) (row_numbers rows)) in
          let sums =
          by-owner owns (λ b. 1) owners
          (λ b. one-owner (row_at rows b).owner (length rows) (λ e. is_subsystem (row_at rows e).kind))
          (row_numbers rows) in
          let whole = total-one (row_numbers rows) ∙ length-range 0 (length rows) in
          let first =
          total-cons (λ s. length (rows_of rows s)) None
          (map Some (filter (λ b. is_subsystem (row_at rows b).kind) (row_numbers rows))) in
          let each =
          total-le (λ s. length (rows_of rows s)) (λ s. total (λ b. 1) (rows_of rows s)) owners
          (λ s at. let ones = total-one (rows_of rows s) in omega arith) in
          omega arith

  -- ---- The budget of one system

  module _ (own : HeaderIsOfOwnRows) where
    outputs-by-rows : (s : Option ℕ) (headers : List SystemHeader) → length (outports (local_of d r.times.delays s headers)) ≡ outs s
    outputs-by-rows s headers =
        sym (length-made (λ (q : LocalRow). (q.row, q.out)) (outports (local_of d r.times.delays s headers)))
        ∙ ap (λ (h : SystemHeader). length h.outputs) (own d r.times.delays s headers (record { row = s; functions = [] }))
        ∙ length-made (λ o. (o, type_at d.types o)) (outports_of rows s)

    child-outputs : (h : SystemHeader) → h ≡ header_of d h.row h.profile → length h.outputs ≡ outs h.row
    child-outputs h is = ap (λ (g : SystemHeader). length g.outputs) is ∙ length-made (λ o. (o, type_at d.types o)) (outports_of rows h.row)

    -- the outputs of all children by the headers
    sum-outputs : (s : Option ℕ) (headers : List SystemHeader) → AreHeaders d s headers →
        sum_by (λ (u : ChildUse). length u.header.outputs) (map (child_use d) headers) ≡ child_outs s
    sum-outputs s headers are =
        total-is (λ (u : ChildUse). length u.header.outputs) (map (child_use d) headers)
        ∙ total-map (λ (u : ChildUse). length u.header.outputs) (child_use d) headers
        ∙ same headers (λ h inside. child-outputs h (are.each h inside).0)
        ∙ sym (total-map outs (λ (h : SystemHeader). h.row) headers)
        ∙ ap (total outs) are.rows
        ∙ total-map outs Some (subsystems_of rows s)
      where
        same : (hs : List SystemHeader) → ((h : SystemHeader) → Contains hs h → length h.outputs ≡ outs h.row) →
            total (λ (h : SystemHeader). length h.outputs) hs ≡ total (λ (h : SystemHeader). outs h.row) hs
        same [] each = refl
        same (h ∷ hs) each =
            total-cons (λ (g : SystemHeader). length g.outputs) h hs
            ∙ ap₂ (λ a b. a + b) (each h (in-first h hs)) (same hs (λ g at. each g (in-rest h g hs at)))
            ∙ sym (total-cons (λ (g : SystemHeader). outs g.row) h hs)

    most-below : (s : Option ℕ) (headers : List SystemHeader) → AreHeaders d s headers → Contains (systems rows) s →
        most_outputs (local_of d r.times.delays s headers) ≤ greatest
    most-below s headers are at =
        fold-below (length (outports (local_of d r.times.delays s headers))
        ∷ map (λ (u : ChildUse). length u.header.outputs) (map (child_use d) headers)) 0 greatest (omega arith) each
      where
        each : (x : ℕ) →
            Contains (length (outports (local_of d r.times.delays s headers))
            ∷ map (λ (u : ChildUse). length u.header.outputs) (map (child_use d) headers)) x → x ≤ greatest
        each x h =
            elim (in-cases (length (outports (local_of d r.times.delays s headers))) x
            (map (λ (u : ChildUse). length u.header.outputs) (map (child_use d) headers)) h) [
              | inl first ↦ let own_outs = outputs-by-rows s headers in let few = among s at in omega (arith, first)
              | inr more ↦
                  let u = of-map (λ (w : ChildUse). length w.header.outputs) (map (child_use d) headers) x more in
                  let g = of-map (child_use d) headers u.0 u.1 in
                  let child = child-header d s headers are g.0 g.1 in
                  let same : length g.0.outputs ≡ x = ap (λ (w : ChildUse). length w.header.outputs) g.2 ∙ u.2 in
                  let its = child-outputs g.0 child.is_header in
                  let few =
                  among g.0.row
                  (subst (Contains (systems rows)) (sym child.is_row)
                  (in-systems child.row child.own.in_table child.subsystem)) in
                  omega arith
            ]

    -- the budget of a system by the greatest number of outputs
    below : (s : Option ℕ) (headers : List SystemHeader) → AreHeaders d s headers → Contains (systems rows) s →
        own_budget (local_of d r.times.delays s headers) ≤ 8 * (1 + greatest) * length (rows_of rows s) + 4 * (1 + greatest) * child_outs s
    below s headers are at =
        let most = most-below s headers are at in
        let long = length-made (local_row d r.times.delays) (rows_of rows s) in
        let sums = sum-outputs s headers are in
        let first =
        mul-le (8 * (1 + most_outputs (local_of d r.times.delays s headers)))
        (length (map (local_row d r.times.delays) (rows_of rows s))) (8 * (1 + greatest)) (length (rows_of rows s))
        (omega arith) (omega arith) in
        let second =
        mul-le (4 * (1 + most_outputs (local_of d r.times.delays s headers)))
        (sum_by (λ (u : ChildUse). length u.header.outputs) (map (child_use d) headers)) (4 * (1 + greatest))
        (child_outs s) (omega arith) (omega arith) in
        omega (arith, first, second)

    all-below : (ss : List (Option ℕ)) (locals : List LocalSystem) →
        ((s : Option ℕ) → Contains ss s → Contains (systems rows) s) → AllZip (IsLocalOf r) ss locals →
        sum_by own_budget locals ≤ total (λ s. 8 * (1 + greatest) * length (rows_of rows s) + 4 * (1 + greatest) * child_outs s) ss
    all-below [] [] among_all h = omega arith
    all-below [] (l ∷ locals) among_all h = absurd h
    all-below (s ∷ ss) [] among_all h = absurd h
    all-below (s ∷ ss) (l ∷ locals) among_all h =
        let is = h.0 in
        let one_budget =
        subst (λ (x : LocalSystem). own_budget x ≤ 8 * (1 + greatest) * length (rows_of rows s)
        + 4 * (1 + greatest) * child_outs s) (sym is.is_local)
        (below s is.headers is.are_headers (among_all s (in-first s ss))) in
        let rest = all-below ss locals (λ o at. among_all o (in-rest s o ss at)) h.1 in
        let split = sum_by-cons own_budget l locals in
        omega (arith, one_budget, rest, split)

pub budgets_sum_to_bound : HeaderIsOfOwnRows → BudgetsSumToBound
budgets_sum_to_bound own r locals resolved are =
    let y = greatest r in
    let n = length (rows r) in
    let all = all-below r own (systems (rows r)) locals (λ s at. at) are in
    let split = total-add (λ s. 8 * (1 + y) * length (rows_of (rows r) s)) (λ s. 4 * (1 + y) * child_outs r s) (systems (rows r)) in
    let by_rows = total-times (8 * (1 + y)) (λ s. length (rows_of (rows r) s)) (systems (rows r)) in
    let by_children = total-times (4 * (1 + y)) (child_outs r) (systems (rows r)) in
    let few_rows = mul-le (8 * (1 + y)) (total (λ s. length (rows_of (rows r) s)) (systems (rows r))) (8 * (1 + y)) n
    (omega arith) (all-rows r) in
    let few_children = mul-le (4 * (1 + y)) (total (child_outs r) (systems (rows r))) (4 * (1 + y)) n (omega arith) (all-child-outs r) in
    let root = among r None (in-first None (map Some (systems_inside (rows r) None))) in
    let whole = parts (1 + y) n in
    omega (arith, all, split, by_rows, by_children, few_rows, few_children, root, whole)
