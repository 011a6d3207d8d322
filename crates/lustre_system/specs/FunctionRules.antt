-- What the eight nodes are for: each gives what the pure function of its name gives.
use Rattle.std.specs.Prelude.{◌≡◌, ℕ, ◌-◌, ◌^◌, ◌≤◌, Bool, true, false, ◌&&◌, List, [], ◌∷◌, map, take, replicate, Contains, Option, Some, None, option_and_then, slice_index_or, ℤ, pos, neg_ℤ, ◌+ℤ◌, ◌-ℤ◌, ◌≤ℤ◌, int_lt, unsigned_abs, if◌then◌else◌}
use Rattle.std.specs.Int.{int_rem_euclid}
use Rattle.std.specs.List.{AllByRecursion, list_all}
use Rattle.base_fixed_point.specs.declared.Case.{Case}
use Rattle.base_fixed_point.specs.declared.FixType.{FixType}
use Rattle.base_fixed_point.specs.declared.Over.{Over}
use Rattle.base_fixed_point.specs.declared.Over.TheVariants.{Saturate, Wrap}
use Rattle.base_fixed_point.specs.declared.Round.{Round}
use Rattle.base_fixed_point.specs.Rounding.{rounded}
use Rattle.base_fixed_point.specs.Conversion.{conv, all_cases, least_of, greatest_of}
use Rattle.emit_prelude.specs.Rules.{rounding_position}
use Rattle.lustre_syntax.specs.Tree.{ValueType, int, Expr, number, truth, name, negative, negation, two, choice, arrow, previous, EquationTree, set, call, NodeTree, node_at}
use Rattle.lustre_syntax.specs.Typing.{input_types, output_types}
use Rattle.lustre_flows.specs.Values.{value_at}
use Rattle.lustre_flows.specs.Instances.{no_instance, fresh_instances, outputs_of, pass_at, passes_of}

-- what the node at a place gives as its first output in one pass, at the first tick of an instance
abbrev pub called : List NodeTree → ℕ → List ℤ → Option ℤ
called nodes k arguments =
    value_at
    (outputs_of (node_at nodes k) (pass_at (passes_of nodes) k None (map Some arguments)
    (slice_index_or (fresh_instances nodes) k no_instance))) 0

-- the node divides by 2 ^ k and rounds by the rule
abbrev pub Rounds : List NodeTree → Round → Type 0
Rounds nodes r =
    (v : ℤ) (k : ℕ) → 1 ≤ k → k ≤ 62 → unsigned_abs v ≤ 2 ^ 62 →
    called nodes (rounding_position r) (v ∷ pos (2 ^ k) ∷ []) ≡ Some (rounded r v (2 ^ k))

-- the node gives the nearer end of a range for a number outside it
abbrev pub Clamps : List NodeTree → Type 0
Clamps nodes =
    (v lo hi : ℤ) →
    called nodes 6 (v ∷ lo ∷ hi ∷ [])
    ≡ Some (if int_lt v lo then lo else if int_lt hi v then hi else v)

-- the node gives the number from lo on that differs from v by a multiple of 2 ^ w, and by less than
-- that from lo
abbrev pub Wraps : List NodeTree → Type 0
Wraps nodes =
    (v lo : ℤ) (w : ℕ) → 1 ≤ w → w ≤ 32 → neg_ℤ (pos (2 ^ 31)) ≤ℤ lo → lo ≤ℤ pos 0 →
    unsigned_abs v ≤ 2 ^ 62 →
    called nodes 7 (v ∷ lo ∷ pos (2 ^ w) ∷ []) ≡ Some (lo +ℤ int_rem_euclid (v -ℤ lo) (pos (2 ^ w)))

-- a whole number brought into a type by the node of an overflow rule
abbrev pub cast_call : List NodeTree → Over → FixType → ℤ → Option ℤ
cast_call nodes Saturate t v = called nodes 6 (v ∷ least_of t ∷ greatest_of t ∷ [])
cast_call nodes Wrap t v = called nodes 7 (v ∷ least_of t ∷ pos (2 ^ t.bits) ∷ [])

-- for this case a number with more bits after the point than a type has is converted by two nodes
abbrev pub Converts : List NodeTree → Case → Type 0
Converts nodes case =
    (t : FixType) (v : ℤ) (f : ℕ) → t.signed ≡ case.signed → 1 ≤ f - t.frac →
    f - t.frac ≤ 62 → unsigned_abs v ≤ 2 ^ 62 →
    option_and_then (cast_call nodes case.over t)
    (called nodes (rounding_position case.round) (v ∷ pos (2 ^ (f - t.frac)) ∷ []))
    ≡ Some (conv v f t case.round case.over)

-- an expression that says the same at every tick
abbrev pub is_stateless : {N : Type 0} → Expr N → Bool
is_stateless (number value) = true
is_stateless (truth value) = true
is_stateless (name x) = true
is_stateless (negative a) = is_stateless a
is_stateless (negation a) = is_stateless a
is_stateless (two op a b) = is_stateless a && is_stateless b
is_stateless (choice test a b) = is_stateless test && (is_stateless a && is_stateless b)
is_stateless (arrow a b) = false
is_stateless (previous x) = false

-- a node whose equations do, and call no other node
abbrev pub is_function : EquationTree → Bool
is_function (set line given value) = is_stateless value
is_function (call line given callee values) = false

-- the inputs of the eight nodes
abbrev pub function_inputs : List (List ValueType)
function_inputs =
    map (λ n. replicate n int) (2 ∷ 2 ∷ 2 ∷ 2 ∷ 2 ∷ 2 ∷ 3 ∷ 3 ∷ [])

-- the first eight of these nodes; each has one output
pub record AreFunctions (nodes : List NodeTree) : Type 0 where
  pub inputs : map input_types (take 8 nodes) ≡ function_inputs
  pub outputs : map output_types (take 8 nodes) ≡ replicate 8 (int ∷ [])
  pub stateless : AllByRecursion (λ (n : NodeTree). list_all is_function n.equations ≡ true)
      (take 8 nodes)
  pub rounds : (r : Round) → Rounds nodes r
  pub clamps : Clamps nodes
  pub wraps : Wraps nodes
  pub converts : (case : Case) → Contains all_cases case → Converts nodes case
