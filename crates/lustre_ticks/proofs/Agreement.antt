-- An expression has what is expected where the names that it reads have; so equations in order give what is expected.
use Rattle.std.proofs.Common.{◌≡◌, refl, sym, ap, ap₂, ◌∙◌, ℕ, List, [], ◌∷◌, ◌++◌, map, reverse, flat_map, Option, Some, ℤ, inl, inr}
use Rattle.std.specs.List.{AllByRecursion}
use Rattle.modules_profile.specs.Systems.{systems}
use Rattle.lustre_syntax.specs.Tree.{number, truth, name, negative, negation, two, choice, arrow, previous, set, call, given_by}
use Rattle.lustre_syntax.specs.Named.{NamedExpr, NamedEquation, NamedNode, renamed}
use Rattle.lustre_flows.specs.Values.{Outcome, and_then, value_of, read, checked, tests, holds, operate, chosen, by_tick, value_at, evaluate}
use Rattle.std.specs.Prelude.{neg_ℤ, not}
use Rattle.lustre_system.specs.File.{root_node}
use Rattle.lustre_system.specs.SystemNodes.{system_node}
use Rattle.lustre_rows.specs.EquationLaws.{GivesItsName}
use Rattle.lustre_right.specs.Reads.{names_now, equation_reads, Known, KnownAfter, InOrder}
use Rattle.lustre_right.specs.Systems.{named_value, named_outcome, EquationHolds, HasArguments}
use Rattle.diagram_meaning.proofs.lemmas.Agreement.{All-append_left, All-append_right}
use Rattle.lustre_rows.proofs.lemmas.Lists.{all-map, all-member}
use Rattle.lustre_ticks.proofs.Setting.{Setting, d, hyper, solved, olds, place, IsKnown}

-- ---- Expressions

module _ (before : Option (List (Option ℤ))) (values others : List (Option ℤ)) (place : List ℕ → ℕ) where
  abbrev Same : List ℕ → Type 0
  Same text = value_at values (place text) ≡ value_at others (place text)

  pub evaluate-same : (e : NamedExpr) → AllByRecursion Same (names_now e) →
      evaluate before values (renamed place e) ≡ evaluate before others (renamed place e)
  evaluate-same (number value) all = refl
  evaluate-same (truth value) all = refl
  evaluate-same (name x) all = ap read all.0
  evaluate-same (negative a) all = ap (λ (o : Outcome). and_then o (λ v. checked (neg_ℤ v))) (evaluate-same a all)
  evaluate-same (negation a) all = ap (λ (o : Outcome). and_then o (λ v. tests (not (holds v)))) (evaluate-same a all)
  evaluate-same (two op a b) all =
      ap₂ (λ (o p : Outcome). and_then o (λ x. and_then p (operate op x)))
      (evaluate-same a (All-append_left Same (names_now a) (names_now b) all))
      (evaluate-same b (All-append_right Same (names_now a) (names_now b) all))
  evaluate-same (choice test a b) all =
      let front = All-append_left Same (names_now test ++ names_now a) (names_now b) all in
      ap₂ (λ (o : Outcome) (go : ℤ → Outcome). and_then o go)
      (evaluate-same test (All-append_left Same (names_now test) (names_now a) front))
      (ap₂ (λ (p q : Outcome). λ (v : ℤ). chosen (holds v) p q)
      (evaluate-same a (All-append_right Same (names_now test) (names_now a) front))
      (evaluate-same b (All-append_right Same (names_now test ++ names_now a) (names_now b) all)))
  evaluate-same (arrow a b) all =
      ap₂ (by_tick before)
      (evaluate-same a (All-append_left Same (names_now a) (names_now b) all))
      (evaluate-same b (All-append_right Same (names_now a) (names_now b) all))
  evaluate-same (previous x) all = refl

-- ---- Lists of values

pub all-some : {A : Type 0} (f : A → Option ℤ) (xs : List A) (vs : List ℤ) → map f xs ≡ map Some vs →
    AllByRecursion (λ x. (v : ℤ) × (f x ≡ Some v)) xs
all-some f [] vs same = tt
all-some f (x ∷ xs) [] same = absurd (cc)
all-some f (x ∷ xs) (v ∷ vs) same =
    let first : f x ≡ Some v = cc in
    let later : map f xs ≡ map Some vs = cc in
    ((v, first), all-some f xs vs later)

one-known : {A : Type 0} (f h : A → Option ℤ) (xs : List A) (v : ℤ) → map f xs ≡ Some v ∷ [] → map h xs ≡ Some v ∷ [] →
    AllByRecursion (λ x. (w : ℤ) × (f x ≡ Some w) × (h x ≡ Some w)) xs
one-known f h [] v first second = tt
one-known f h (x ∷ []) v first second =
    let here : f x ≡ Some v = cc in
    let there : h x ≡ Some v = cc in
    ((v, here, there), tt)
one-known f h (x ∷ y ∷ xs) v first second = absurd (cc)

-- ---- Equations

module _ (g : Setting) (s : Option ℕ) where
  -- what is expected of an expression
  abbrev pub expected_outcome : NamedExpr → Option ℤ
  expected_outcome e = value_of (evaluate (olds g s) (g.expected s) (renamed (place g s) e))

  abbrev pub outcome : NamedExpr → Option ℤ
  outcome e = named_outcome (d g) (hyper g) g.before g.left s e

  pub outcome-same : (e : NamedExpr) → AllByRecursion (IsKnown g s) (names_now e) → outcome e ≡ expected_outcome e
  outcome-same e all =
      ap value_of (evaluate-same (olds g s) (solved g s) (g.expected s) (place g s) e
      (all-map (IsKnown g s) (λ text. value_at (solved g s) (place g s text) ≡ value_at (g.expected s) (place g s text))
      (λ text known. known.1 ∙ sym known.2) (names_now e) all))

  -- of several
  pub outcomes-same : (es : List NamedExpr) → AllByRecursion (IsKnown g s) (flat_map names_now es) →
      map outcome es ≡ map expected_outcome es
  outcomes-same [] all = refl
  outcomes-same (e ∷ es) all =
      ap₂ (λ (x : Option ℤ) (xs : List (Option ℤ)). x ∷ xs)
      (outcome-same e (All-append_left (IsKnown g s) (names_now e) (flat_map names_now es) all))
      (outcomes-same es (All-append_right (IsKnown g s) (names_now e) (flat_map names_now es) all))

  -- an equation holds in the instance, and its names are known
  abbrev pub Holds : NamedEquation → Type 0
  Holds e = EquationHolds (d g) (hyper g) g.before g.left s e

  abbrev pub Gives : NamedEquation → Type 0
  Gives e = GivesItsName (olds g s) (g.expected s) (place g s) e

  abbrev pub Given : NamedEquation → Type 0
  Given e = AllByRecursion (IsKnown g s) (given_by e)

  abbrev pub Argued : NamedEquation → Type 0
  Argued e = HasArguments (d g) (hyper g) g.before g.left s e

  abbrev pub Done : NamedEquation → Type 0
  Done e = Given e × Argued e

  abbrev nodes_after : List NamedNode
  nodes_after = map (system_node (d g)) (reverse (systems (d g).rows)) ++ root_node (d g) (hyper g) ∷ []

  one-done : (e : NamedEquation) → Holds e → Gives e → AllByRecursion (IsKnown g s) (equation_reads e) → Done e
  one-done (set line text x) hold (v, is, gives_it) all =
      let same = outcome-same x (All-append_left (IsKnown g s) (names_now x) [] all) in
      ((((v, hold ∙ same ∙ ap value_of gives_it, is), tt)), tt)
  one-done (call line texts callee arguments) hold gives_it all =
      let same : map outcome arguments ≡ map Some gives_it.numbers = outcomes-same arguments all ∙ gives_it.is_given in
      let has = hold.0 gives_it.function gives_it.numbers gives_it.result gives_it.named same (gives_it.gives_result nodes_after) in (
        one-known (named_value (d g) (hyper g) g.before g.left s) (λ text. value_at (g.expected s) (place g s text)) texts gives_it.result
            has gives_it.has_result,
        all-some outcome arguments gives_it.numbers same,
      )

  -- where each reads what is known, or what those before it give, all are
  pub in-order : (known : Known) → ((text : List ℕ) → known text → IsKnown g s text) → (es : List NamedEquation) →
      AllByRecursion Holds es → AllByRecursion Gives es → InOrder known es → AllByRecursion Done es
  in-order known into [] hold gives_them order = tt
  in-order known into (e ∷ es) hold gives_them order =
      let done = one-done e hold.0 gives_them.0 (all-map known (IsKnown g s) into (equation_reads e) order.0) in (
        done,
        in-order (KnownAfter known e) (λ text after. elim after [
          | inl early ↦ into text early
          | inr given ↦ all-member (IsKnown g s) (given_by e) done.0 text given
        ]) es hold.1 gives_them.1 order.1,
      )
