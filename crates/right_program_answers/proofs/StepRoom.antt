-- The budgets of a system and of all inside it leave room for each tick.
use Rattle.std.specs.Prelude.{◌≡◌, ℕ, suc, ◌+◌, ◌*◌, ◌<◌, ◌≤◌, ◌&&◌, max, Bool, true, false, cond, List, [], ◌∷◌, map, filter, fold, length, slice_get, sum_by, Contains, Option, Some, None, refl}
use Rattle.std.specs.List.{AllZip}
use Rattle.std.proofs.Common.{sym, ap, subst, ◌∙◌, arith, lit≤, inl, inr, le_refl}
use Rattle.std.proofs.lemmas.Bool.{and_parts, and_from, and_right}
use Rattle.std.proofs.lemmas.List.Sums.{sum_by-cons}
use Rattle.std.proofs.lemmas.Nat.{mul-le}
use Rattle.diagram_blocks.specs.Value.{greatest_in}
use Rattle.diagram_meaning.specs.declared.table.Row.{Row}
use Rattle.diagram_meaning.specs.Rows.{row_at, row_numbers, is_inside, outports_of}
use Rattle.diagram_blocks.specs.Kinds.{is_subsystem, is_outport}
use Rattle.diagram_meaning.specs.WellFormed.{IsNested}
use Rattle.modules_profile.specs.NodeFacts.{IsLocalOf}
use Rattle.modules_profile.specs.Systems.{systems, systems_inside}
use Rattle.modules_profile.proofs.lemmas.Members.{in-none, in-first, in-rest, in-cases, of-map, of-filter, of-range}
use Rattle.modules_profile.proofs.lemmas.PortRows.{few-ports}
use Rattle.c_semantics.specs.Values.{step_limit}
use Rattle.right_relation.specs.Budgets.{own_budget, step_bound}
use Rattle.right_relation.specs.BudgetLaws.{BudgetsSumToBound}
use Rattle.right_linking.specs.Parts.{Parts, diagram, all_systems, Views}
use Rattle.right_linking.specs.Starts.{budget_inside}
use Rattle.right_linking.proofs.lemmas.SystemsUnder.{under-later, inside-under}

-- ---- Sums

-- what those that pass a test weigh
abbrev weighed : (ℕ → Bool) → (ℕ → ℕ) → List ℕ → ℕ
weighed test w [] = 0
weighed test w (x ∷ xs) = cond (test x) (w x) 0 + weighed test w xs

weighed-is : (test : ℕ → Bool) (w : ℕ → ℕ) (xs : List ℕ) → sum_by w (filter test xs) ≡ weighed test w xs
weighed-is test w [] = refl
weighed-is test w (x ∷ xs) = by (test x) (weighed-is test w xs)
  where
    by : (b : Bool) → sum_by w (filter test xs) ≡ weighed test w xs →
        sum_by w (cond b (x ∷ filter test xs) (filter test xs)) ≡ cond b (w x) 0 + weighed test w xs
    by true rest = sum_by-cons w x (filter test xs) ∙ ap (λ n. w x + n) rest
    by false rest = let same : weighed test w xs ≡ 0 + weighed test w xs = omega arith in rest ∙ same

module _ (w : ℕ → ℕ) (p q : ℕ → Bool) (less : (y : ℕ) → p y ≡ true → q y ≡ true) where
  one-less : (x : ℕ) → cond (p x) (w x) 0 ≤ cond (q x) (w x) 0
  one-less x = by (p x) refl
    where
      by : (b : Bool) → p x ≡ b → cond b (w x) 0 ≤ cond (q x) (w x) 0
      by true e = subst (λ c. w x ≤ cond c (w x) 0) (sym (less x e)) (le_refl (w x))
      by false e = omega arith

  all-less : (xs : List ℕ) → weighed p w xs ≤ weighed q w xs
  all-less [] = omega arith
  all-less (x ∷ xs) = let one = one-less x in let rest = all-less xs in omega (arith, one, rest)

  -- one that passes the wider test alone
  with-one : (xs : List ℕ) (x : ℕ) → Contains xs x → p x ≡ false → q x ≡ true → w x + weighed p w xs ≤ weighed q w xs
  with-one [] x has narrow wide = absurd (in-none x has)
  with-one (y ∷ ys) x has narrow wide = elim (in-cases y x ys has) [
    | inl same ↦
        let rest = all-less ys in
        let none : cond (p y) (w y) 0 ≡ 0 = ap (λ b. cond b (w y) 0) (ap p same ∙ narrow) in
        let some : cond (q y) (w y) 0 ≡ w x = ap (λ b. cond b (w y) 0) (ap q same ∙ wide) ∙ ap w same in
        omega (arith, rest, none, some)
    | inr more ↦ let one = one-less y in let rest = with-one ys x more narrow wide in omega (arith, one, rest)
  ]

sum-made : {A B : Type 0} (w : B → ℕ) (f : A → B) (xs : List A) → sum_by w (map f xs) ≡ sum_by (λ x. w (f x)) xs
sum-made w f [] = refl
sum-made w f (x ∷ xs) = sum_by-cons w (f x) (map f xs) ∙ ap (λ n. w (f x) + n) (sum-made w f xs) ∙ sym (sum_by-cons (λ y. w (f y)) x xs)

-- ---- A system and all inside it are among all systems

-- a subsystem isn't inside itself
not-inside-itself : (rows : List Row) → IsNested rows → (f : ℕ) → f < length rows → is_inside rows (Some f) f ≡ false
not-inside-itself rows nested f below = by (is_inside rows (Some f) f) refl
  where
    by : (b : Bool) → is_inside rows (Some f) f ≡ b → b ≡ false
    by false e = refl
    by true e =
        let u = inside-under rows nested f (suc f) f (omega arith) below e in
        let later = under-later rows nested f u.0 f below u.1 in absurd (omega (arith, later))

module _ (a : Parts) where
  abbrev rows : List Row
  rows = (diagram a).rows

  some-same : (e f : ℕ) → Some e ≡ Some f → e ≡ f
  some-same e f same = cc same

  row-of : (f : ℕ) → Contains (all_systems a) (Some f) → Contains (row_numbers rows) f × (is_subsystem (row_at rows f).kind ≡ true)
  row-of f has = elim (in-cases None (Some f) (map Some (systems_inside rows None)) has) [
    | inl wrong ↦ absurd (let no : ⊥ = cc wrong in no)
    | inr more ↦
        let m = of-map Some (systems_inside rows None) (Some f) more in
        let same = some-same m.0 f m.2 in
        let kept =
        of-filter (λ e. is_subsystem (row_at rows e).kind && is_inside rows None e) (row_numbers rows) f
        (subst (Contains (systems_inside rows None)) same m.1) in
        (kept.0, (and_parts (is_subsystem (row_at rows f).kind) (is_inside rows None f) kept.1).0)
  ]

  pub sum-inside : (w : Option ℕ → ℕ) (s : Option ℕ) → Contains (all_systems a) s →
      sum_by w (s ∷ map Some (systems_inside rows s)) ≤ sum_by w (all_systems a)
  sum-inside w None has = le_refl (sum_by w (all_systems a))
  sum-inside w (Some f) has =
      let row = row-of f has in
      let inner = λ (e : ℕ). is_subsystem (row_at rows e).kind && is_inside rows (Some f) e in
      let any = λ (e : ℕ). is_subsystem (row_at rows e).kind && is_inside rows None e in
      let apart : inner f ≡ false = and_right (is_subsystem (row_at rows f).kind) (is_inside rows (Some f) f)
      (not-inside-itself rows a.can.resolved.tree.table.nested f
      (let low = (of-range 0 (length rows) f row.0).1 in omega (arith, low))) in
      let wide : any f ≡ true = and_from (is_subsystem (row_at rows f).kind) (is_inside rows None f) row.1 refl in
      let less =
      λ (e : ℕ) (h : inner e ≡ true). and_from (is_subsystem (row_at rows e).kind) true
      (and_parts (is_subsystem (row_at rows e).kind) (is_inside rows (Some f) e) h).0 refl in
      let among = with-one (λ e. w (Some e)) inner any less (row_numbers rows) f row.0 apart wide in
      let left : sum_by w (Some f ∷ map Some (systems_inside rows (Some f)))
      ≡ w (Some f) + weighed inner (λ e. w (Some e)) (row_numbers rows) =
      sum_by-cons w (Some f) (map Some (systems_inside rows (Some f)))
      ∙ ap (λ n. w (Some f) + n) (sum-made w Some (systems_inside rows (Some f)) ∙ weighed-is inner (λ e. w (Some e)) (row_numbers rows)) in
      let right : sum_by w (all_systems a) ≡ w None + weighed any (λ e. w (Some e)) (row_numbers rows) =
      sum_by-cons w None (map Some (systems_inside rows None))
      ∙ ap (λ n. w None + n) (sum-made w Some (systems_inside rows None) ∙ weighed-is any (λ e. w (Some e)) (row_numbers rows)) in
      omega (arith, among, left, right)

  -- ---- The bound is within the limit

  fold-below : (xs : List ℕ) (first most : ℕ) → first ≤ most → ((x : ℕ) → Contains xs x → x ≤ most) → fold max first xs ≤ most
  fold-below [] first most low all = low
  fold-below (x ∷ xs) first most low all =
      fold-below xs (max first x) most (let one = all x (in-first x xs) in omega (arith, low, one)) (λ y has. all y (in-rest x y xs has))

  bound-within : step_bound rows ≤ step_limit
  bound-within =
      let greatest = greatest_in (map (λ s. length (outports_of rows s)) (systems rows)) in
      let few : greatest ≤ 32 = fold-below (map (λ s. length (outports_of rows s)) (systems rows)) 0 32 (omega arith)
      (λ n has.
      let m = of-map (λ s. length (outports_of rows s)) (systems rows) n has in
      let ports = few-ports rows m.0 is_outport (a.can.resolved.tree.table.outports m.0) in
      subst (λ k. k ≤ 32) m.2 ports) in
      let long = a.can.resolved.tree.table.nested.at_most in
      let product = mul-le (12 * (length rows + 1)) (1 + greatest) 240012 33 (omega (arith, long)) (omega (arith, few)) in
      let number : 240012 * 33 ≤ step_limit = lit≤ tt in
      omega (arith, product, number)

  module _ (v : Views a) where
    each-local : (ss : List (Option ℕ)) → ((k : ℕ) (s : Option ℕ) → slice_get ss k ≡ Some s → IsLocalOf a.model s (v.at s).local) →
        AllZip (IsLocalOf a.model) ss (map (λ s. (v.at s).local) ss)
    each-local [] all = tt
    each-local (s ∷ ss) all = (all 0 s refl, each-local ss (λ k. all (suc k)))

    -- the budget of a tick
    pub budget-within : BudgetsSumToBound → (s : Option ℕ) → Contains (all_systems a) s → budget_inside a v s ≤ step_limit
    budget-within sums s has =
        let all =
        sums a.model (map (λ o. (v.at o).local) (all_systems a)) a.can.resolved
        (each-local (all_systems a) (λ k o at. (v.each k o at).local)) in
        let made = sum-made own_budget (λ o. (v.at o).local) (all_systems a) in
        let inside = sum-inside (λ o. own_budget (v.at o).local) s has in
        let within = bound-within in
        omega (arith, all, made, inside, within)
