-- Edges to each row from those that feed it.
use Rattle.std.proofs.Common.{◌≡◌, refl, ℕ, zero, suc, ◌+◌, ◌<◌, ◌⊎◌, List, [], ◌∷◌, ◌++◌, length, map, Contains, Option, None, Some, sym, ap, subst, ◌∙◌, arith, inl, inr}
use Rattle.std.specs.Prelude.{slice_get}
use Rattle.std.specs.List.{AllByRecursion}
use Rattle.std.proofs.lemmas.Bool.{cases_eq}
use Rattle.std.proofs.lemmas.List.Elements.{Contains-append_left, Contains-append_right, Contains-append_cases}
use Rattle.base_core.specs.declared.Control.{Control}
use Rattle.base_core.specs.declared.Control.TheVariants.{Plain, Enabled, Triggered, Both}
use Rattle.base_core.specs.declared.TimeText.{TimeText}
use Rattle.base_core.specs.declared.TimeText.TheVariants.{Inherit, Constant, Each}
use Rattle.base_graph.specs.NeedsGraph.{IsGraph}
use Rattle.diagram_meaning.specs.declared.table.Row.{Row}
use Rattle.diagram_meaning.specs.Rows.{row_at, control_at, trigger_among}
use Rattle.diagram_meaning.specs.SampleTimes.{search_time, search_inputs, search_inputs_in, wire_in, outermost_trigger}
use Rattle.diagram_times.specs.Feeding.{where_inherited, fed_by, AreFeedsBelow, AreInputsInside, IsFeeding}

contains-front : {X : Type 0} (x : X) (xs : List X) → Contains (x ∷ xs) x
contains-front x xs = (0, omega arith, refl)

contains-behind : {X : Type 0} (y : X) (xs : List X) (x : X) → Contains xs x → Contains (y ∷ xs) x
contains-behind y xs x (k, below, same) = (suc k, omega arith, same)

contains-cases : {X : Type 0} (y : X) (xs : List X) (x : X) → Contains (y ∷ xs) x → (y ≡ x) ⊎ Contains xs x
contains-cases y xs x (zero, below, same) = inl same
contains-cases y xs x (suc k, below, same) = inr (k, omega arith, same)

-- edges to row b from these rows
abbrev pub edges_to : ℕ → List ℕ → List (ℕ × ℕ)
edges_to b xs = map (λ a. (a, b)) xs

edge-from : (b : ℕ) (xs : List ℕ) (a c : ℕ) → Contains (edges_to b xs) (a, c) → (c ≡ b) × Contains xs a
edge-from b [] a c h = absurd (let l = h.1 in omega arith)
edge-from b (x ∷ xs) a c h = elim (contains-cases (x, b) (edges_to b xs) (a, c) h) [
  | inl same ↦ (sym (ap (λ (e : ℕ × ℕ). e.1) same), subst (λ y. Contains (x ∷ xs) y) (ap (λ (e : ℕ × ℕ). e.0) same) (contains-front x xs))
  | inr more ↦ let r = edge-from b xs a c more in (r.0, contains-behind x xs a r.1)
]

edge-to : (b : ℕ) (xs : List ℕ) (a : ℕ) → Contains xs a → Contains (edges_to b xs) (a, b)
edge-to b [] a h = absurd (let l = h.1 in omega arith)
edge-to b (x ∷ xs) a h = elim (contains-cases x xs a h) [
  | inl same ↦ subst (λ y. Contains ((x, b) ∷ edges_to b xs) (y, b)) same (contains-front (x, b) (edges_to b xs))
  | inr more ↦ contains-behind (x, b) (edges_to b xs) (a, b) (edge-to b xs a more)
]

pub feeds-none : (rows : List Row) (edges : List (ℕ × ℕ)) → edges ≡ [] → AreFeedsBelow rows 0 edges
feeds-none rows edges e b a = (
  λ h. absurd (let c : Contains [] (a, b) = subst (λ l. Contains l (a, b)) e h in let l = c.1 in omega arith),
  λ h. absurd (let l = h.0 in omega arith),
)

pub feeds-more : (rows : List Row) (n : ℕ) (edges later : List (ℕ × ℕ)) (fed : List ℕ) → fed ≡ fed_by rows n →
    later ≡ edges ++ edges_to n fed →
    AreFeedsBelow rows n edges → AreFeedsBelow rows (n + 1) later
feeds-more rows n edges later fed e f are b a =
    let all : edges ++ edges_to n (fed_by rows n) ≡ later = ap (λ l. edges ++ edges_to n l) (sym e) ∙ sym f in (
      λ h. elim (Contains-append_cases edges (edges_to n (fed_by rows n)) (a, b) (subst (λ l. Contains l (a, b)) (sym all) h)) [
        | inl l ↦ let r = (are b a).0 l in ((let q = r.0 in omega arith), r.1)
        | inr k ↦ let r = edge-from n (fed_by rows n) a b k in
            ((let q = r.0 in omega arith), subst (λ m. Contains (fed_by rows m) a) (sym r.0) r.1)
      ],
      λ h. subst (λ l. Contains l (a, b)) all (elim (cases_eq b n) [
        | inl same ↦
            Contains-append_right edges (edges_to n (fed_by rows n)) (a, b)
            (subst (λ m. Contains (edges_to n (fed_by rows n)) (a, m)) (sym same)
            (edge-to n (fed_by rows n) a (subst (λ m. Contains (fed_by rows m) a) same h.1)))
        | inr differ ↦ Contains-append_left edges (edges_to n (fed_by rows n)) (a, b) ((are b a).1 ((let q = h.0 in omega arith), h.1))
      ]),
    )

-- ---- What feeds a row is a row

got-contained : (xs : List ℕ) (k a : ℕ) → Contains (wire_in (slice_get xs k)) a → Contains xs a
got-contained [] k a h = absurd (let l = h.1 in omega arith)
got-contained (x ∷ xs) zero a h = elim (contains-cases x [] a h) [
  | inl same ↦ subst (Contains (x ∷ xs)) same (contains-front x xs)
  | inr none ↦ absurd (let l = none.1 in omega arith)
]
got-contained (x ∷ xs) (suc k) a h = contains-behind x xs a (got-contained xs k a h)

trigger-contained : (control : Control) (xs : List ℕ) (a : ℕ) → Contains (wire_in (trigger_among control xs)) a → Contains xs a
trigger-contained Plain xs a h = absurd (let l = h.1 in omega arith)
trigger-contained (Enabled reset) xs a h = absurd (let l = h.1 in omega arith)
trigger-contained (Triggered edge) xs a h = got-contained xs 0 a h
trigger-contained (Both reset edge) xs a h = got-contained xs 1 a h

-- a row at which the search goes on
pub search-inside : (rows : List Row) → AreInputsInside rows → (b a : ℕ) → Contains (search_inputs rows b) a → a < length rows
search-inside rows inside b a h = by (outermost_trigger rows b) h
  where
    by : (o : Option ℕ) → Contains (search_inputs_in rows o (row_at rows b).inputs) a → a < length rows
    by None k = inside b a k
    by (Some e) k = inside e a (trigger-contained (control_at rows e) (row_at rows e).inputs a k)

pub fed-inside : (rows : List Row) → AreInputsInside rows → (b a : ℕ) → Contains (fed_by rows b) a → a < length rows
fed-inside rows inside b a h = by (search_time rows b) h
  where
    by : (text : TimeText) → Contains (where_inherited text (search_inputs rows b)) a → a < length rows
    by Inherit k = search-inside rows inside b a k
    by Constant k = absurd (let l = k.1 in omega arith)
    by (Each period offset) k = absurd (let l = k.1 in omega arith)

all-edges : (n : ℕ) (edges : List (ℕ × ℕ)) → ((b a : ℕ) → Contains edges (a, b) → (a < n) × (b < n)) →
    AllByRecursion (λ (edge : ℕ × ℕ). (edge.0 < n) × (edge.1 < n)) edges
all-edges n [] h = tt
all-edges n (edge ∷ edges) h = (
  h edge.1 edge.0 (contains-front edge edges),
  all-edges n edges (λ b a k. h b a (contains-behind edge edges (a, b) k)),
)

pub feeds-graph : (rows : List Row) (edges : List (ℕ × ℕ)) (n : ℕ) → AreInputsInside rows → n ≡ length rows →
    AreFeedsBelow rows (length rows) edges → IsGraph (record { n = n; edges = edges })
feeds-graph rows edges n inside e are =
    all-edges n edges (λ b a k. let r = (are b a).0 k in let l = fed-inside rows inside b a r.1 in
    ((let q = l in omega arith), (let q = r.0 in omega arith)))

pub feeds-done : (rows : List Row) (edges : List (ℕ × ℕ)) (n : ℕ) → n ≡ length rows →
    AreFeedsBelow rows (length rows) edges → IsFeeding rows (record { n = n; edges = edges })
feeds-done rows edges n e are = record { size = e; edges = are }
