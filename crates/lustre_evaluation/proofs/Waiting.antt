-- Expressions wait for the names for which the parts wait that are evaluated.
use Rattle.std.proofs.Common.{◌≡◌, refl, sym, ◌∙◌, ap, subst, ℕ, ◌+◌, ◌<◌, ◌≤◌, ℤ, Bool, true, false, List, length, take, drop, map, Option, Some, None, Result, Ok, Err, arith, length-take, length-drop}
use Rattle.std.specs.Prelude.{IfErr, option_map}
use Rattle.std.specs.List.{take-map, drop-map}
use Rattle.std.proofs.Math.ListN.{get_or-eq_default}
use Rattle.lustre_syntax.specs.declared.code.LusExpr.{LusExpr}
use Rattle.lustre_syntax.specs.declared.LusOp.{LusOp}
use Rattle.lustre_syntax.specs.Plain.{expr_tree}
use Rattle.lustre_syntax.specs.Tree.{ExprTree, two, choice, previous, node_at, FileTree}
use Rattle.lustre_flows.specs.Values.{gives, waits, read, read_before, and_then, chosen, holds, operate, evaluate, value_at}
use Rattle.lustre_flows.specs.FlowLaws.{ValuesStay}
use Rattle.lustre_settling.proofs.lemmas.Monotone.{evaluated-kept}
use Rattle.lustre_settling.proofs.lemmas.Order.{values-stay-length, values-stay-take, values-stay-drop}
use Rattle.lustre_slots.specs.declared.placed.Placed.{Placed}
use Rattle.lustre_slot_laws.specs.Outcomes.{names_of, outcome_of}
use Rattle.lustre_slot_laws.proofs.lemmas.Laying.{name-value}
use Rattle.lustre_evaluation.specs.declared.outcome.Unmet.{Unmet}
use Rattle.lustre_evaluation.specs.declared.outcome.Unmet.TheVariants.{Waits, Never, Fails}
use Rattle.lustre_evaluation.specs.Results.{IsWaiting, WaitsFor, WaitsAlways}
use Rattle.lustre_evaluation.specs.Views.{before_by}

-- a name
pub name_waits : (values : List (Option ℤ)) (k : ℕ) → WaitsFor (λ later. read (value_at later k)) values k
name_waits values k = λ later stay none. ap read none

pub name_never : (values : List (Option ℤ)) (k : ℕ) → length values ≤ k → WaitsAlways (λ later. read (value_at later k)) values
name_never values k past = λ later stay. ap read (get_or-eq_default later None (omega (arith, values-stay-length values later stay)))

module _ (before : Option (List (Option ℤ))) (vs : List (Option ℤ)) where
  -- the value before
  pub previous_waits : (e : LusExpr) (k : ℕ) (r : Result ℤ Unmet) → expr_tree e ≡ previous k →
      IfErr r (IsWaiting (λ values. read_before before k) vs) →
      IfErr r (IsWaiting (λ values. evaluate before values (expr_tree e)) vs)
  previous_waits e k r shape waiting =
      subst (λ t. IfErr r (IsWaiting (λ values. evaluate before values t) vs)) (sym shape) waiting

  -- the second operand, where the first one has its value
  second-then : (op : LusOp) (e a b a' b' : LusExpr) (x : ℤ) (later : List (Option ℤ)) → expr_tree e ≡ two op (expr_tree a) (expr_tree b) →
      a' ≡ a → b' ≡ b → gives x ≡ evaluate before vs (expr_tree a') → ValuesStay vs later → evaluate before later (expr_tree b') ≡ waits →
      evaluate before later (expr_tree e) ≡ waits
  second-then op e a b a' b' x later shape first second gave stay waiting =
      let left : evaluate before later (expr_tree a) ≡ gives x =
      evaluated-kept before vs later (expr_tree a) x stay (ap (λ t. evaluate before vs (expr_tree t)) (sym first) ∙ sym gave) in
      let right : evaluate before later (expr_tree b) ≡ waits = ap (λ t. evaluate before later (expr_tree t)) (sym second) ∙ waiting in
      ap (evaluate before later) shape
      ∙ ap (λ o. and_then o (λ v. and_then (evaluate before later (expr_tree b)) (operate op v))) left
      ∙ ap (λ o. and_then o (operate op x)) right

  pub second_waits : (op : LusOp) (e a b a' b' : LusExpr) (x : ℤ) (why : Unmet) → expr_tree e ≡ two op (expr_tree a) (expr_tree b) →
      a' ≡ a → b' ≡ b → gives x ≡ evaluate before vs (expr_tree a') → IsWaiting (λ values. evaluate before values (expr_tree b')) vs why →
      IsWaiting (λ values. evaluate before values (expr_tree e)) vs why
  second_waits op e a b a' b' x (Fails cause) shape first second gave waiting = tt
  second_waits op e a b a' b' x Never shape first second gave waiting =
      λ later stay. second-then op e a b a' b' x later shape first second gave stay (waiting later stay)
  second_waits op e a b a' b' x (Waits name) shape first second gave waiting = (
    waiting.0,
    waiting.1,
    λ later stay none. second-then op e a b a' b' x later shape first second gave stay (waiting.2 later stay none),
  )

  -- the side of a choice that its test takes
  chosen-then : (e test a b : ExprTree) (v : ℤ) (t : Bool) (later : List (Option ℤ)) → e ≡ choice test a b →
      gives v ≡ evaluate before vs test → holds v ≡ t → ValuesStay vs later →
      chosen t (evaluate before later a) (evaluate before later b) ≡ waits → evaluate before later e ≡ waits
  chosen-then e test a b v t later shape gave is stay waiting =
      ap (evaluate before later) shape
      ∙ ap (λ o. and_then o (λ w. chosen (holds w) (evaluate before later a) (evaluate before later b)))
      (evaluated-kept before vs later test v stay (sym gave))
      ∙ ap (λ s. chosen s (evaluate before later a) (evaluate before later b)) is ∙ waiting

  chosen_waits : (e test a b : ExprTree) (v : ℤ) (t : Bool) (why : Unmet) → e ≡ choice test a b → gives v ≡ evaluate before vs test →
      holds v ≡ t → IsWaiting (λ values. chosen t (evaluate before values a) (evaluate before values b)) vs why →
      IsWaiting (λ values. evaluate before values e) vs why
  chosen_waits e test a b v t (Fails cause) shape gave is waiting = tt
  chosen_waits e test a b v t Never shape gave is waiting =
      λ later stay. chosen-then e test a b v t later shape gave is stay (waiting later stay)
  chosen_waits e test a b v t (Waits name) shape gave is waiting =
      (waiting.0, waiting.1, λ later stay none. chosen-then e test a b v t later shape gave is stay (waiting.2 later stay none))

  pub true_waits : (e test a b test' a' : LusExpr) (v : ℤ) (r : Result ℤ Unmet) →
      expr_tree e ≡ choice (expr_tree test) (expr_tree a) (expr_tree b) → test' ≡ test → a' ≡ a →
      gives v ≡ evaluate before vs (expr_tree test') → holds v ≡ true →
      IfErr r (IsWaiting (λ values. evaluate before values (expr_tree a')) vs) →
      IfErr r (IsWaiting (λ values. evaluate before values (expr_tree e)) vs)
  true_waits e test a b test' a' v (Ok x) shape same first gave is waiting = tt
  true_waits e test a b test' a' v (Err why) shape same first gave is waiting =
      chosen_waits (expr_tree e) (expr_tree test) (expr_tree a) (expr_tree b) v true why shape
      (gave ∙ ap (λ t. evaluate before vs (expr_tree t)) same) is
      (subst (λ t. IsWaiting (λ values. evaluate before values (expr_tree t)) vs why) first waiting)

  pub false_waits : (e test a b test' b' : LusExpr) (v : ℤ) (r : Result ℤ Unmet) →
      expr_tree e ≡ choice (expr_tree test) (expr_tree a) (expr_tree b) → test' ≡ test → b' ≡ b →
      gives v ≡ evaluate before vs (expr_tree test') → holds v ≡ false →
      IfErr r (IsWaiting (λ values. evaluate before values (expr_tree b')) vs) →
      IfErr r (IsWaiting (λ values. evaluate before values (expr_tree e)) vs)
  false_waits e test a b test' b' v (Ok x) shape same second gave is waiting = tt
  false_waits e test a b test' b' v (Err why) shape same second gave is waiting =
      chosen_waits (expr_tree e) (expr_tree test) (expr_tree a) (expr_tree b) v false why shape
      (gave ∙ ap (λ t. evaluate before vs (expr_tree t)) same) is
      (subst (λ t. IsWaiting (λ values. evaluate before values (expr_tree t)) vs why) second waiting)

-- ---- Slots

pub before_part : (begun : Bool) (m b : ℕ) (xs ys : List ℤ) → ys ≡ take m (drop b xs) →
    before_by begun ys ≡ option_map (λ v. take m (drop b v)) (before_by begun xs)
before_part false m b xs ys is = refl
before_part true m b xs ys is =
    ap (λ zs. Some (map Some zs)) is ∙ ap Some (sym (take-map Some m (drop b xs)) ∙ ap (take m) (sym (drop-map Some b xs)))

-- the slot of a name of an instance
slot-value : (f : FileTree) (p : Placed) (k : ℕ) (now later : List (Option ℤ)) → k < length (names_of f p now) → length now ≡ length later →
    value_at (names_of f p later) k ≡ value_at later (p.base + k)
slot-value f p k now later small same =
    let m = length (node_at f.nodes p.node).names in
    name-value f p later k (omega (arith, length-take m (drop p.base now)))

module _ (f : FileTree) (p : Placed) (before past : Option (List (Option ℤ))) (now vs : List (Option ℤ)) (o : Option ExprTree) (e : ExprTree)
    (there : Some e ≡ o) (same : past ≡ before) (are : vs ≡ names_of f p now) where
  slot-then : (later : List (Option ℤ)) → evaluate past (names_of f p later) e ≡ waits →
      outcome_of before (names_of f p later) o ≡ waits
  slot-then later waiting =
      ap (outcome_of before (names_of f p later)) (sym there) ∙ ap (λ b. evaluate b (names_of f p later) e) (sym same) ∙ waiting

  names-stay : (later : List (Option ℤ)) → ValuesStay now later → ValuesStay vs (names_of f p later)
  names-stay later stay =
      subst (λ xs. ValuesStay xs (names_of f p later)) (sym are)
      (values-stay-take (length (node_at f.nodes p.node).names) (drop p.base now) (drop p.base later)
      (values-stay-drop p.base now later stay))

  pub slot_never : WaitsAlways (λ values. evaluate past values e) vs → WaitsAlways (λ later. outcome_of before (names_of f p later) o) now
  slot_never waiting = λ later stay. slot-then later (waiting (names_of f p later) (names-stay later stay))

  pub slot_waits : (k slot : ℕ) → slot ≡ p.base + k → IsWaiting (λ values. evaluate past values e) vs (Waits k) →
      IsWaiting (λ later. outcome_of before (names_of f p later) o) now (Waits slot)
  slot_waits k slot at waiting =
      let count = ap length are in
      let small : k < length (names_of f p now) = omega (arith, waiting.0) in
      let cut = length-take (length (node_at f.nodes p.node).names) (drop p.base now) in
      let rest = length-drop p.base now in (
        omega arith,
        ap (value_at now) at ∙ sym (slot-value f p k now now small refl) ∙ ap (λ xs. value_at xs k) (sym are) ∙ waiting.1,
        λ later stay none.
            slot-then later (waiting.2 (names_of f p later) (names-stay later stay)
            (slot-value f p k now later small (values-stay-length now later stay) ∙ ap (value_at later) (sym at) ∙ none)),
      )
