-- What stays of a search as values are found.
use Rattle.std.proofs.Common.{◌≡◌, ◌≢◌, refl, sym, ap, subst, ℕ, zero, suc, ◌+◌, ◌<◌, ℤ, Bool, true, false, List, [], ◌∷◌, length, arith, Option, Some, None, ◌⊎◌}
use Rattle.std.specs.List.{slice_set}
use Rattle.lustre_syntax.specs.Tree.{ExprTree, FileTree}
use Rattle.lustre_syntax.specs.Plain.{file_tree}
use Rattle.lustre_flows.specs.Values.{gives, value_of, value_at}
use Rattle.lustre_flows.specs.FlowLaws.{ValueStays, ValuesStay}
use Rattle.lustre_settling.proofs.lemmas.Order.{value-stays-self, values-stay-self, values-stay-on, values-stay-at, values-stay-take, values-stay-drop}
use Rattle.lustre_settling.proofs.lemmas.Monotone.{OutcomeStays, read-stays, evaluate-stays, value-of-staying}
use Rattle.lustre_slots.specs.declared.placed.Source.{Source}
use Rattle.lustre_slots.specs.declared.placed.Source.TheVariants.{Row, Expression, Slot}
use Rattle.lustre_slot_laws.specs.Outcomes.{names_of, expression_at, outcome_of, outcome, source_at}
use Rattle.lustre_evaluation.specs.declared.frames.Frame.{Frame}
use Rattle.lustre_evaluation.specs.Views.{before_by}
use Rattle.lustre_solver.specs.Searching.{comes, was_tried, untried, WaitsOn}
use Rattle.lustre_syntax.specs.Tree.{node_at}

-- ---- Outcomes

outcome-of-stays : (before : Option (List (Option ℤ))) (vs ws : List (Option ℤ)) (o : Option ExprTree) → ValuesStay vs ws →
    OutcomeStays (outcome_of before vs o) (outcome_of before ws o)
outcome-of-stays before vs ws None stay = tt
outcome-of-stays before vs ws (Some e) stay = evaluate-stays before vs ws stay e

outcome-stays : (f : FileTree) (before : Option (List (Option ℤ))) (vs ws : List (Option ℤ)) (slot : ℕ) (source : Source) → ValuesStay vs ws →
    OutcomeStays (outcome f before vs slot source) (outcome f before ws slot source)
outcome-stays f before vs ws slot Row stay = read-stays (value_at vs slot) (value_at ws slot) (values-stay-at vs ws slot stay)
outcome-stays f before vs ws slot (Slot other) stay = read-stays (value_at vs other) (value_at ws other) (values-stay-at vs ws other stay)
outcome-stays f before vs ws slot (Expression p i k) stay =
    outcome-of-stays _ (names_of f p vs) (names_of f p ws) (expression_at f p.node i k)
    (values-stay-take (length (node_at f.nodes p.node).names) _ _ (values-stay-drop p.base vs ws stay))

pub comes-stay : (frame : Frame) (vs ws : List (Option ℤ)) (slot : ℕ) → ValuesStay vs ws →
    OutcomeStays (comes frame vs slot) (comes frame ws slot)
comes-stay frame vs ws slot stay =
    outcome-stays (file_tree frame.file.now) (before_by frame.begun frame.before.now) vs ws slot (source_at frame.sources.now slot) stay

-- a slot that comes to a value comes to it later too
pub given-later : (frame : Frame) (vs ws : List (Option ℤ)) (slot : ℕ) (v : ℤ) → ValuesStay vs ws → comes frame vs slot ≡ gives v →
    comes frame ws slot ≡ gives v
given-later frame vs ws slot v stay is = subst (λ o. OutcomeStays o (comes frame ws slot)) is (comes-stay frame vs ws slot stay)

pub value-later : (frame : Frame) (vs ws : List (Option ℤ)) (slot : ℕ) (v : ℤ) → ValuesStay vs ws →
    value_of (comes frame vs slot) ≡ Some v → value_of (comes frame ws slot) ≡ Some v
value-later frame vs ws slot v stay is =
    subst (λ o. ValueStays o (value_of (comes frame ws slot))) is
    (value-of-staying (comes frame vs slot) (comes frame ws slot) (comes-stay frame vs ws slot stay))

pub waits-later : (frame : Frame) (vs ws : List (Option ℤ)) (slot other : ℕ) → ValuesStay vs ws → WaitsOn frame vs slot other →
    WaitsOn frame ws slot other
waits-later frame vs ws slot other stay waits = λ later more none. waits later (values-stay-on vs ws later stay more) none

-- ---- One value more

pub set-stays : (vs : List (Option ℤ)) (k : ℕ) (w : Option ℤ) → value_at vs k ≡ None → ValuesStay vs (slice_set vs k w)
set-stays [] k w none = tt
set-stays (v ∷ vs) zero w none = (subst (λ u. ValueStays u w) (sym none) tt, values-stay-self vs)
set-stays (v ∷ vs) (suc k) w none = (value-stays-self v, set-stays vs k w none)

pub set-below : (vs ws : List (Option ℤ)) (k : ℕ) (v : ℤ) → ValuesStay vs ws → value_at ws k ≡ Some v →
    ValuesStay (slice_set vs k (Some v)) ws
set-below [] ws k v stay is = stay
set-below (x ∷ xs) [] k v stay is = absurd stay
set-below (x ∷ xs) (w ∷ ws) zero v stay is = (is, stay.1)
set-below (x ∷ xs) (w ∷ ws) (suc k) v stay is = (stay.0, set-below xs ws k v stay.1 is)

-- ---- One slot more that was tried

pub untried-there : (tried : List Bool) (slot : ℕ) → was_tried tried slot ≡ false → slot < length tried
untried-there [] slot new = absurd (cc)
untried-there (t ∷ ts) zero new = omega arith
untried-there (t ∷ ts) (suc slot) new = omega (arith, untried-there ts slot new)

pub one-tried : (tried : List Bool) (slot : ℕ) → was_tried tried slot ≡ false → untried (slice_set tried slot true) + 1 ≡ untried tried
one-tried [] slot new = absurd (cc)
one-tried (true ∷ ts) zero new = absurd (cc)
one-tried (false ∷ ts) zero new = refl
one-tried (true ∷ ts) (suc slot) new = one-tried ts slot new
one-tried (false ∷ ts) (suc slot) new = ap (λ n. n + 1) (one-tried ts slot new)

pub equal-or-not : (x y : ℕ) → (x ≡ y) ⊎ (x ≢ y)
equal-or-not x y = grind arith

pub less-or-last : (i d : ℕ) → i < d + 1 → (i < d) ⊎ (i ≡ d)
less-or-last i d small = grind arith
