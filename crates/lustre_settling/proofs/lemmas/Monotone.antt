-- The more values there are, the more an expression, an equation and a pass give.
use Rattle.std.specs.Prelude.{◌≡◌, ⊤, ℕ, zero, suc, ℤ, neg_ℤ, not, Bool, true, false, List, [], ◌∷◌, ◌++◌, map, drop, length, slice_set, Option, Some, None, option_map, refl}
use Rattle.std.proofs.Common.{sym, ap, subst}
use Rattle.lustre_syntax.specs.Tree.{ExprTree, number, truth, name, negative, negation, two, choice, arrow, previous, EquationTree, set, call, NodeTree, node_at}
use Rattle.lustre_flows.specs.Values.{Outcome, gives, waits, fails, and_then, value_of, read, checked, tests, holds, operate, chosen, value_at, by_tick, read_before, evaluate}
use Rattle.lustre_flows.specs.Instances.{by_node, Instance, Instances, instance, no_calls, more_calls, values_in, calls_in, first_call, later_calls, no_instance, with_items, outputs_of, Pass, pass_at, pass_equations, pass_of, passes_of}
use Rattle.lustre_flows.specs.FlowLaws.{ValueStays, ValuesStay, Stays, AllStay}
use Rattle.lustre_settling.proofs.lemmas.Order.{values-stay-at, values-stay-length, values-stay-append, values-stay-take, values-stay-drop, values-stay-set, values-stay-items, stays-self, values-of-staying, with-call-stays}

-- ---- Outcomes

-- an outcome that doesn't wait stays
abbrev pub OutcomeStays : Outcome → Outcome → Type 0
OutcomeStays (gives v) later = later ≡ gives v
OutcomeStays waits later = ⊤
OutcomeStays (fails why) later = later ≡ fails why

pub outcome-stays-self : (o : Outcome) → OutcomeStays o o
outcome-stays-self (gives v) = refl
outcome-stays-self waits = tt
outcome-stays-self (fails why) = refl

pub read-stays : (v w : Option ℤ) → ValueStays v w → OutcomeStays (read v) (read w)
read-stays None w stay = tt
read-stays (Some v) w stay = ap read stay

and-then-stays : (a b : Outcome) (f g : ℤ → Outcome) → OutcomeStays a b → ((v : ℤ) → OutcomeStays (f v) (g v)) →
    OutcomeStays (and_then a f) (and_then b g)
and-then-stays (gives v) b f g stay each = subst (λ o. OutcomeStays (f v) (and_then o g)) (sym stay) (each v)
and-then-stays waits b f g stay each = tt
and-then-stays (fails why) b f g stay each = ap (λ o. and_then o g) stay

chosen-stays : (t : Bool) (a b c d : Outcome) → OutcomeStays a c → OutcomeStays b d → OutcomeStays (chosen t a b) (chosen t c d)
chosen-stays true a b c d first second = first
chosen-stays false a b c d first second = second

by-tick-stays : (before : Option (List (Option ℤ))) (a b c d : Outcome) → OutcomeStays a c → OutcomeStays b d →
    OutcomeStays (by_tick before a b) (by_tick before c d)
by-tick-stays None a b c d first later = first
by-tick-stays (Some before) a b c d first later = later

pub value-of-staying : (a b : Outcome) → OutcomeStays a b → ValueStays (value_of a) (value_of b)
value-of-staying (gives v) b stay = ap value_of stay
value-of-staying waits b stay = tt
value-of-staying (fails why) b stay = tt

-- what an expression gives stays where values stay
module _ (before : Option (List (Option ℤ))) (vs ws : List (Option ℤ)) (stay : ValuesStay vs ws) where
  pub evaluate-stays : (e : ExprTree) → OutcomeStays (evaluate before vs e) (evaluate before ws e)
  evaluate-stays (number value) = refl
  evaluate-stays (truth value) = refl
  evaluate-stays (name k) = read-stays (value_at vs k) (value_at ws k) (values-stay-at vs ws k stay)
  evaluate-stays (negative a) =
      and-then-stays (evaluate before vs a) (evaluate before ws a) _ _ (evaluate-stays a) (λ v. outcome-stays-self (checked (neg_ℤ v)))
  evaluate-stays (negation a) =
      and-then-stays (evaluate before vs a) (evaluate before ws a) _ _ (evaluate-stays a) (λ v. outcome-stays-self (tests (not (holds v))))
  evaluate-stays (two op a b) =
      and-then-stays (evaluate before vs a) (evaluate before ws a) _ _ (evaluate-stays a)
      (λ x. and-then-stays (evaluate before vs b) (evaluate before ws b) _ _ (evaluate-stays b) (λ y. outcome-stays-self (operate op x y)))
  evaluate-stays (choice test a b) =
      and-then-stays (evaluate before vs test) (evaluate before ws test) _ _ (evaluate-stays test)
      (λ v. chosen-stays (holds v) (evaluate before vs a) (evaluate before vs b) (evaluate before ws a) (evaluate before ws b)
      (evaluate-stays a) (evaluate-stays b))
  evaluate-stays (arrow a b) =
      by-tick-stays before (evaluate before vs a) (evaluate before vs b) (evaluate before ws a) (evaluate before ws b)
      (evaluate-stays a) (evaluate-stays b)
  evaluate-stays (previous k) = outcome-stays-self (read_before before k)

  pub evaluated-value-stays : (e : ExprTree) → ValueStays (value_of (evaluate before vs e)) (value_of (evaluate before ws e))
  evaluated-value-stays e = value-of-staying (evaluate before vs e) (evaluate before ws e) (evaluate-stays e)

  pub arguments-stay : (es : List ExprTree) →
      ValuesStay (map (λ e. value_of (evaluate before vs e)) es) (map (λ e. value_of (evaluate before ws e)) es)
  arguments-stay [] = tt
  arguments-stay (e ∷ es) = (evaluated-value-stays e, arguments-stay es)

-- a value that an expression gives, it gives too where values stay
pub evaluated-kept : (before : Option (List (Option ℤ))) (vs ws : List (Option ℤ)) (e : ExprTree) (v : ℤ) → ValuesStay vs ws →
    evaluate before vs e ≡ gives v → evaluate before ws e ≡ gives v
evaluated-kept before vs ws e v stay is =
    subst (λ o. OutcomeStays o (evaluate before ws e)) is (evaluate-stays before vs ws stay e)

-- ---- Passes

-- more values before a pass, and more inputs, are more values after it
abbrev pub KeepsOrder : Pass → Type 0
KeepsOrder pass = (before : Option Instance) (inputs others : List (Option ℤ)) (i j : Instance) → ValuesStay inputs others →
    Stays i j → Stays (pass before inputs i) (pass before others j)

outputs-stay : (n : NodeTree) (i j : Instance) → Stays i j → ValuesStay (outputs_of n i) (outputs_of n j)
outputs-stay n i j stay =
    values-stay-take n.outputs (drop n.inputs (values_in i)) (drop n.inputs (values_in j))
    (values-stay-drop n.inputs (values_in i) (values_in j) (values-of-staying i j stay))

first-call-stays : (cs ds : Instances) → AllStay cs ds → Stays (first_call cs) (first_call ds)
first-call-stays no_calls no_calls stay = stays-self no_instance
first-call-stays no_calls (more_calls d ds) stay = absurd stay
first-call-stays (more_calls c cs) no_calls stay = absurd stay
first-call-stays (more_calls c cs) (more_calls d ds) stay = stay.0

later-calls-stay : (cs ds : Instances) → AllStay cs ds → AllStay (later_calls cs) (later_calls ds)
later-calls-stay no_calls no_calls stay = tt
later-calls-stay no_calls (more_calls d ds) stay = absurd stay
later-calls-stay (more_calls c cs) no_calls stay = absurd stay
later-calls-stay (more_calls c cs) (more_calls d ds) stay = stay.1

module _ (nodes : List NodeTree) (passes : List Pass) (each : (k : ℕ) → KeepsOrder (pass_at passes k)) where
  pass-equations-stay : (before : Option (List (Option ℤ))) (calls_before : Option Instances) (vs ws : List (Option ℤ))
      (cs ds : Instances) (es : List EquationTree) → ValuesStay vs ws → AllStay cs ds →
      Stays (pass_equations nodes passes before calls_before vs cs es) (pass_equations nodes passes before calls_before ws ds es)
  pass-equations-stay before cb vs ws cs ds [] stay calls = (stay, tt)
  pass-equations-stay before cb vs ws cs ds (set line given value ∷ es) stay calls =
      pass-equations-stay before cb (slice_set vs given (value_of (evaluate before vs value)))
      (slice_set ws given (value_of (evaluate before ws value))) cs ds es
      (values-stay-set vs ws given _ _ stay (evaluated-value-stays before vs ws stay value)) calls
  pass-equations-stay before cb vs ws cs ds (call line given callee arguments ∷ es) stay calls =
      let i = pass_at passes callee (option_map first_call cb) (map (λ e. value_of (evaluate before vs e)) arguments) (first_call cs) in
      let j = pass_at passes callee (option_map first_call cb) (map (λ e. value_of (evaluate before ws e)) arguments) (first_call ds) in
      let first : Stays i j =
      each callee (option_map first_call cb) _ _ (first_call cs) (first_call ds)
      (arguments-stay before vs ws stay arguments) (first-call-stays cs ds calls) in
      with-call-stays i j _ _ first
      (pass-equations-stay before (option_map later_calls cb) (with_items vs given (outputs_of (node_at nodes callee) i))
      (with_items ws given (outputs_of (node_at nodes callee) j)) (later_calls cs) (later_calls ds) es
      (values-stay-items vs ws given _ _ stay (outputs-stay (node_at nodes callee) i j first)) (later-calls-stay cs ds calls))

  pass-of-stays : (n : NodeTree) → KeepsOrder (pass_of nodes passes n)
  pass-of-stays n before inputs others (instance vs cs) (instance ws ds) given stay =
      pass-equations-stay (option_map values_in before) (option_map calls_in before) (inputs ++ drop (length inputs) vs)
      (others ++ drop (length others) ws) cs ds n.equations
      (values-stay-append inputs others _ _ given
      (subst (λ m. ValuesStay (drop (length inputs) vs) (drop m ws)) (values-stay-length inputs others given)
      (values-stay-drop (length inputs) vs ws stay.0))) stay.1

one-more : (passes : List Pass) (pass : Pass) (k : ℕ) → ((j : ℕ) → KeepsOrder (pass_at passes j)) → KeepsOrder pass →
    KeepsOrder (pass_at (passes ++ pass ∷ []) k)
one-more [] pass zero each one = one
one-more [] pass (suc k) each one = each (suc k)
one-more (p ∷ ps) pass zero each one = each zero
one-more (p ∷ ps) pass (suc k) each one = one-more ps pass k (λ j. each (suc j)) one

pub passes-stay : (nodes : List NodeTree) (k : ℕ) → KeepsOrder (pass_at (passes_of nodes) k)
passes-stay nodes k = from [] nodes (λ j before inputs others i l given stay. stay) k
  where
    from : (earlier : List Pass) (ns : List NodeTree) → ((j : ℕ) → KeepsOrder (pass_at earlier j)) → (k : ℕ) →
        KeepsOrder (pass_at (by_node (pass_of nodes) earlier ns) k)
    from earlier [] each k = each k
    from earlier (n ∷ ns) each k =
        from (earlier ++ pass_of nodes earlier n ∷ []) ns
        (λ j. one-more earlier (pass_of nodes earlier n) j each (pass-of-stays nodes earlier each n)) k
