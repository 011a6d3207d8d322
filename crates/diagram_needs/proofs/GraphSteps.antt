-- The edges of a diagram's needs, row by row.
use Rattle.std.specs.Prelude.{◌≡◌, ℕ, suc, ◌+◌, ◌<◌, ◌≤◌, ◌&&◌, Bool, true, false, not, cond, if◌then◌else◌, List, [], ◌∷◌, ◌++◌, map, filter, length, slice_index_or, Contains, MatchOption, Option, Some, None, ◌⊎◌, refl}
use Rattle.std.specs.List.{AllByRecursion}
use Rattle.std.proofs.Common.{arith, true≢false, sym, ap, subst, ◌∙◌, inl, inr, append_assoc}
use Rattle.std.proofs.lemmas.List.{map-append, get_or_default}
use Rattle.std.proofs.lemmas.List.Elements.{Contains-append_left, Contains-append_right, Contains-append_cases, All-from_recursion, recursion_from_All}
use Rattle.diagram_blocks.specs.declared.Kind.{Kind}
use Rattle.diagram_blocks.specs.declared.Kind.TheVariants.{Inport}
use Rattle.diagram_blocks.specs.Value.{feeds_through}
use Rattle.base_graph.specs.NeedsGraph.{NeedsGraph}
use Rattle.base_graph.specs.Reaching as graph
use Rattle.diagram_meaning.specs.declared.table.Row.{Row}
use Rattle.diagram_meaning.specs.Rows.{row_at, no_row, is_system, same_system, enclosing, around, around_inside, is_inport_of}
use Rattle.diagram_blocks.specs.Kinds.{is_inport}
use Rattle.diagram_meaning.specs.WellFormed.{IsNested, IsWired, IsWireIn, IsOwner, wires_wanted}
use Rattle.diagram_meaning.specs.Diagram.{Diagram, op_at}
use Rattle.diagram_meaning.specs.Needs.{inputs_used, needs_of, needs_inside}
use Rattle.diagram_meaning.specs.Inputs.{wires_of_rows}
use Rattle.diagram_meaning.specs.Walk.{Walk, IsLoop, HasNoLoop, IsLeastLoop}
use Rattle.diagram_meaning.proofs.lemmas.Enclosing.{enclosing-step}
use Rattle.diagram_meaning.proofs.lemmas.Inside.{Contains-nil, needs_inside-among}
use Rattle.diagram_meaning.proofs.lemmas.Tick.{row_at-past, needs-bounded}
use Rattle.diagram_needs.specs.Needed.{needed, IsGraphOf, AreEdgesBelow}
use Rattle.diagram_needs.proofs.NeededSteps.{needed-edge, edge-needed, Contains-front, Contains-behind, Contains-cases, walk-to_graph}
use Rattle.diagram_needs.proofs.Comparing.{le-or-above}

-- the subsystems outward, one after another
abbrev pub inside_wires : List Row → Option ℕ → List ℕ → List ℕ
inside_wires rows s es = wires_of_rows rows (filter (λ e. not (is_system s e)) es)

around-of : (rows : List Row) (s : Option ℕ) (e : ℕ) (t : Bool) → is_system s e ≡ t →
    inside_wires rows s (e ∷ (if t then [] else enclosing rows s (row_at rows e).owner))
    ≡ inside_wires rows s (e ∷ around rows s e)
around-of rows s e t q = ap (λ b. inside_wires rows s (e ∷ (if b then [] else enclosing rows s (row_at rows e).owner))) (sym q)

wires-by : (rows : List Row) (s : Option ℕ) (e : ℕ) (rest : List ℕ) (t : Bool) → is_system s e ≡ t →
    inside_wires rows s (e ∷ rest)
    ≡ wires_of_rows rows
    (cond (not t) (e ∷ filter (λ k. not (is_system s k)) rest) (filter (λ k. not (is_system s k)) rest))
wires-by rows s e rest t q =
    ap (λ b.
    wires_of_rows rows
    (cond (not b) (e ∷ filter (λ k. not (is_system s k)) rest) (filter (λ k. not (is_system s k)) rest))) q

module _ (rows : List Row) (s : Option ℕ) (nested : IsNested rows) (e : ℕ) (below : e < length rows) where
  pub wires-on : is_system s e ≡ false → inside_wires rows s (enclosing rows s (Some e)) ≡ (row_at rows e).inputs
      ++ inside_wires rows s (enclosing rows s (row_at rows e).owner)
  wires-on q =
      ap (inside_wires rows s) (enclosing-step rows s nested e below)
      ∙ sym (around-of rows s e false q)
      ∙ wires-by rows s e (enclosing rows s (row_at rows e).owner) false q

-- a system's number is below n
abbrev pub IsBelow : ℕ → Option ℕ → Type 0
IsBelow n None = Unit {0}
IsBelow n (Some e) = e < n

pub owner-below : (rows : List Row) → IsNested rows → (b : ℕ) → b < length rows → IsBelow b (row_at rows b).owner
owner-below rows nested b h = by (row_at rows b).owner (nested.owned b h)
  where
    by : (o : Option ℕ) → IsOwner rows b o → IsBelow b o
    by None i = tt
    by (Some e) i = i.0

pub below-more : (n m : ℕ) (o : Option ℕ) → n ≤ m → IsBelow n o → IsBelow m o
below-more n m None le h = tt
below-more n m (Some e) le h = omega arith

-- how far a system is from none
abbrev pub rank : Option ℕ → ℕ
rank None = 0
rank (Some e) = suc e

-- edges to row b from these rows
abbrev pub edges_to : ℕ → List ℕ → List (ℕ × ℕ)
edges_to b xs = map (λ a. (a, b)) xs

pub edges-more : (b : ℕ) (edges later more : List (ℕ × ℕ)) (xs ys zs : List ℕ) → more ≡ edges ++ edges_to b xs →
    ys ≡ xs ++ zs → later ≡ edges ++ edges_to b ys → more ++ edges_to b zs ≡ later
edges-more b edges later more xs ys zs e f g =
    ap (λ l. l ++ edges_to b zs) e ∙ append_assoc edges (edges_to b xs) (edges_to b zs)
    ∙ ap (λ l. edges ++ l) (sym (map-append (λ a. (a, b)) xs zs)) ∙ ap (λ l. edges ++ edges_to b l) (sym f) ∙ sym g

-- what edges to a row hold
edge-from : (b : ℕ) (xs : List ℕ) (a c : ℕ) → Contains (edges_to b xs) (a, c) → (c ≡ b) × Contains xs a
edge-from b [] a c h = absurd (let l = h.1 in omega arith)
edge-from b (x ∷ xs) a c h = elim (Contains-cases (x, b) (edges_to b xs) (a, c) h) [
  | inl same ↦ (sym (ap (λ (e : ℕ × ℕ). e.1) same), subst (λ y. Contains (x ∷ xs) y) (ap (λ (e : ℕ × ℕ). e.0) same) (Contains-front x xs))
  | inr more ↦ let r = edge-from b xs a c more in (r.0, Contains-behind x xs a r.1)
]

edge-to : (b : ℕ) (xs : List ℕ) (a : ℕ) → Contains xs a → Contains (edges_to b xs) (a, b)
edge-to b [] a h = absurd (let l = h.1 in omega arith)
edge-to b (x ∷ xs) a h = elim (Contains-cases x xs a h) [
  | inl same ↦ subst (λ y. Contains ((x, b) ∷ edges_to b xs) (y, b)) same (Contains-front (x, b) (edges_to b xs))
  | inr more ↦ Contains-behind (x, b) (edges_to b xs) (a, b) (edge-to b xs a more)
]

pub edges-step : (needs : ℕ → List ℕ) (n : ℕ) (edges half later : List (ℕ × ℕ)) (xs ys : List ℕ) → needs n ≡ xs ++ ys →
    half ≡ edges ++ edges_to n xs → later ≡ half ++ edges_to n ys →
    AreEdgesBelow needs n edges → AreEdgesBelow needs (n + 1) later
edges-step needs n edges half later xs ys e f g are =
    let all : edges ++ edges_to n (needs n) ≡ later =
    ap (λ l. edges ++ edges_to n l) e ∙ ap (λ l. edges ++ l) (map-append (λ a. (a, n)) xs ys)
    ∙ sym (append_assoc edges (edges_to n xs) (edges_to n ys)) ∙ ap (λ l. l ++ edges_to n ys) (sym f) ∙ sym g in
    λ b a. (
      λ h. elim (Contains-append_cases edges (edges_to n (needs n)) (a, b) (subst (λ l. Contains l (a, b)) (sym all) h)) [
        | inl l ↦ let r = (are b a).0 l in ((let q = r.0 in omega arith), r.1)
        | inr k ↦ let r = edge-from n (needs n) a b k in ((let q = r.0 in omega arith), subst (λ m. Contains (needs m) a) (sym r.0) r.1)
      ],
      λ h. subst (λ l. Contains l (a, b)) all (elim (le-or-above n b) [
        | inl last ↦ let same : b ≡ n = (let q = h.0 in omega arith) in
            Contains-append_right edges (edges_to n (needs n)) (a, b)
            (subst (λ m. Contains (edges_to n (needs n)) (a, m)) (sym same)
            (edge-to n (needs n) a (subst (λ m. Contains (needs m) a) same h.1)))
        | inr before ↦ Contains-append_left edges (edges_to n (needs n)) (a, b) ((are b a).1 (before, h.1))
      ]),
    )

-- a wire is a row of the table
module _ (rows : List Row) (wired : IsWired rows) where
  wire-inside : (b a : ℕ) → Contains (row_at rows b).inputs a → a < length rows
  wire-inside b a h = elim (row_at-past rows b) [
    | inl below ↦
        (subst (IsWireIn rows _) h.2
        (All-from_recursion (IsWireIn rows _) (row_at rows b).inputs (wired.wires b below) h.0 a h.1)).0
    | inr past ↦ absurd (Contains-nil a (subst (λ (r : Row). Contains r.inputs a) past h))
  ]

  control-inside : (es : List ℕ) (a : ℕ) → Contains (wires_of_rows rows es) a → a < length rows
  control-inside [] a h = absurd (Contains-nil a h)
  control-inside (e ∷ es) a h =
      elim (Contains-append_cases (row_at rows e).inputs (wires_of_rows rows es) a h) [
        | inl l ↦
            wire-inside e a l
        | inr r ↦ control-inside es a r
      ]

  used-inside : (b a : ℕ) (own feeds : Bool) →
      Contains (if own then [] else (if feeds then (row_at rows b).inputs else [])) a → a < length rows
  used-inside b a true feeds h = absurd (Contains-nil a h)
  used-inside b a false true h = wire-inside b a h
  used-inside b a false false h = absurd (Contains-nil a h)

pub needs-in_table : (d : Diagram) (s : Option ℕ) → IsWired d.rows → (b a : ℕ) → Contains (needs_inside d s b) a → a < length d.rows
needs-in_table d s wired b a h =
    elim (Contains-append_cases (if is_inport_of d.rows s b then [] else inputs_used d b)
    (wires_of_rows d.rows (around_inside d.rows s b)) a h) [
      | inl l ↦ used-inside d.rows wired b a (is_inport_of d.rows s b) (feeds_through (op_at d b)) l
      | inr r ↦ control-inside d.rows wired (around_inside d.rows s b) a r
    ]

module _ (d : Diagram) (s : Option ℕ) (wired : IsWired d.rows) (edges : List (ℕ × ℕ))
    (are : AreEdgesBelow (needs_inside d s) (length d.rows) edges) where
  ends-inside : (edge : ℕ × ℕ) → Contains edges edge → (edge.0 < length d.rows) × (edge.1 < length d.rows)
  ends-inside edge h = let r = (are edge.1 edge.0).0 h in (needs-in_table d s wired edge.1 edge.0 r.1, r.0)

  pub edges-graph : (n : ℕ) → n ≡ length d.rows → AllByRecursion (λ edge. (edge.0 < n) × (edge.1 < n)) edges
  edges-graph n e = recursion_from_All (λ (edge : ℕ × ℕ). (edge.0 < n) × (edge.1 < n)) edges
      (λ k o below. subst (λ m. ((slice_index_or edges k o).0 < m) × ((slice_index_or edges k o).1 < m)) (sym e)
      (ends-inside (slice_index_or edges k o) (k, below, at k o below)))
    where
      at : (k : ℕ) (o : ℕ × ℕ) → k < length edges → slice_index_or edges k (slice_index_or edges k o) ≡ slice_index_or edges k o
      at k o below = get_or_default edges k (slice_index_or edges k o) o below

  pub edges-graph_of : (n : ℕ) → n ≡ length d.rows → IsGraphOf d.rows (needs_inside d s) (record { n = n; edges = edges })
  edges-graph_of n e = record {
    size = e;
    edges = λ b a. (λ h. ((are b a).0 h).1, λ h. (are b a).1 (needs-bounded d s b a h, h));
  }

-- The needs in the root are all needs.
filter-all : (es : List ℕ) → filter (λ e. true) es ≡ es
filter-all [] = refl
filter-all (e ∷ es) = ap (λ l. e ∷ l) (filter-all es)

no-inputs : (xs : List ℕ) → length xs ≡ 0 → (c : ℕ) → Contains xs c → ⊥
no-inputs xs e c h = let l = h.1 in omega arith

root-inport : (rows : List Row) → IsWired rows → (b : ℕ) → b < length rows → is_inport_of rows None b ≡ true →
    length (row_at rows b).inputs ≡ 0
root-inport rows wired b below q = wired.counts b below ∙ by (row_at rows b).kind (row_at rows b).owner q
  where
    by : (kind : Kind) (o : Option ℕ) → (is_inport kind && same_system o None) ≡ true → wires_wanted kind o ≡ 0
    by (Inport port) None e = refl
    by (Inport port) (Some f) e = absurd (true≢false (sym e))
    by _ o e = absurd (true≢false (sym e))

no-used : (d : Diagram) → IsWired d.rows → (b c : ℕ) → is_inport_of d.rows None b ≡ true →
    (b < length d.rows) ⊎ (row_at d.rows b ≡ no_row) → (t : Bool) →
    Contains (if t then (row_at d.rows b).inputs else []) c → ⊥
no-used d wired b c q p false h = Contains-nil c h
no-used d wired b c q (inl below) true h = no-inputs (row_at d.rows b).inputs (root-inport d.rows wired b below q) c h
no-used d wired b c q (inr past) true h = Contains-nil c (subst (λ (r : Row). Contains r.inputs c) past h)

used-root : (d : Diagram) → IsWired d.rows → (b c : ℕ) (t : Bool) → is_inport_of d.rows None b ≡ t →
    Contains (inputs_used d b) c → Contains (if t then [] else inputs_used d b) c
used-root d wired b c false q k = k
used-root d wired b c true q k = absurd (no-used d wired b c q (row_at-past d.rows b) (feeds_through (op_at d b)) k)

pub all-needs : (d : Diagram) → IsWired d.rows → (b c : ℕ) → Contains (needs_of d b) c → Contains (needs_inside d None b) c
all-needs d wired b c h = elim (Contains-append_cases (inputs_used d b) (wires_of_rows d.rows (around d.rows None b)) c h) [
  | inl l ↦ Contains-append_left (if is_inport_of d.rows None b then [] else inputs_used d b)
      (wires_of_rows d.rows (around_inside d.rows None b)) c (used-root d wired b c (is_inport_of d.rows None b) refl l)
  | inr r ↦ Contains-append_right (if is_inport_of d.rows None b then [] else inputs_used d b)
      (wires_of_rows d.rows (around_inside d.rows None b)) c
      (subst (λ es. Contains (wires_of_rows d.rows es) c) (sym (filter-all (around d.rows None b))) r)
]

-- Needs with the same members have the same loops.
module _ (needs others : ℕ → List ℕ) (to : (b a : ℕ) → Contains (needs b) a → Contains (others b) a) where
  pub walk-to : (a : ℕ) (path : List ℕ) (z : ℕ) → Walk needs a path z → Walk others a path z
  walk-to a [] z w = to a z w
  walk-to a (b ∷ path) z w = (to a b w.0, walk-to b path z w.1)

  pub loop-to : (loop : List ℕ) → IsLoop needs loop → IsLoop others loop
  loop-to [] w = w
  loop-to (a ∷ path) w = walk-to a path a w

pub least_loop-to : (needs others : ℕ → List ℕ) → ((b a : ℕ) → Contains (needs b) a → Contains (others b) a) →
    ((b a : ℕ) → Contains (others b) a → Contains (needs b) a) →
    (loop : List ℕ) → IsLeastLoop needs loop → IsLeastLoop others loop
least_loop-to needs others to from [] l = l
least_loop-to needs others to from (a ∷ path) l = record {
  is_loop = walk-to needs others to a path a l.is_loop;
  least_row = λ loop w. l.least_row loop (loop-to others needs from loop w);
  shortest = λ other w. l.shortest other (walk-to others needs from a other a w);
  least = λ other w e. l.least other (walk-to others needs from a other a w) e;
}

-- the graph of the root's needs is that of all needs
pub graph-whole : (d : Diagram) (s : Option ℕ) → s ≡ None → IsWired d.rows → (g : NeedsGraph) →
    IsGraphOf d.rows (needs_inside d s) g → IsGraphOf d.rows (needs_of d) g
graph-whole d s none wired g is =
    let at : IsGraphOf d.rows (needs_inside d None) g = subst (λ o. IsGraphOf d.rows (needs_inside d o) g) none is in
    record {
      size = at.size;
      edges = λ b a. (λ h. needs_inside-among d None b a ((at.edges b a).0 h), λ h. (at.edges b a).1 (all-needs d wired b a h));
    }

-- what is found in a graph holds of what it shows
module _ (rows : List Row) (needs : ℕ → List ℕ) (g : NeedsGraph) (is : IsGraphOf rows needs g) where
  pub graph-to : (b a : ℕ) → Contains (needed g b) a → Contains (needs b) a
  graph-to b a h = (is.edges b a).0 (needed-edge b a g.edges h)

  pub graph-from : (b a : ℕ) → Contains (needs b) a → Contains (needed g b) a
  graph-from b a h = edge-needed b a g.edges ((is.edges b a).1 h)

  pub found-to : {V : Type 0} (items : V → List ℕ) (found : Option V) →
      MatchOption found (HasNoLoop (needed g)) (λ v. IsLeastLoop (needed g) (items v)) →
      MatchOption found (HasNoLoop needs) (λ v. IsLeastLoop needs (items v))
  found-to items None none = λ loop w. none loop (loop-to needs (needed g) graph-from loop w)
  found-to items (Some v) l = least_loop-to (needed g) needs graph-to graph-from (items v) l

-- a graph without a cycle has no loop
pub no_cycle-no_loop : (g : NeedsGraph) → graph.HasNoCycle g → HasNoLoop (needed g)
no_cycle-no_loop g none [] w = w
no_cycle-no_loop g none (a ∷ path) w = none (a ∷ path) (walk-to_graph g a path a w)
