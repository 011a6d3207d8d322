-- Counts of edges, one edge at a time.
use Rattle.std.proofs.Common.{◌≡◌, ℕ, zero, suc, ◌+◌, ◌-◌, ◌<◌, ◌≤◌, Bool, true, false, cond, not, ◌&&◌, ◌||◌, eqb, List, [], ◌∷◌, ◌++◌, length, get_or, take, set, Contains, count_by, refl, sym, ap, subst, ◌∙◌, arith, inl, inr, true≢false, take_all, add-zero, replicate, length-set, get_or-set_same, get_or-set_other, ◌⊎◌}
use Rattle.std.specs.List.{list_any}
use Rattle.std.proofs.lemmas.Bool.{cases_eq, cases_lt, eqb-true, eq-eqb, ne_eqb, cases_Bool}
use Rattle.std.proofs.lemmas.List.{get_or_default, length-replicate}
use Rattle.std.proofs.lemmas.List.Sums.{sum_by-cons, sum_by_more, sum_by-take-le, get_or-le-sum_by}
use Rattle.std.proofs.lemmas.List.Folds.{list_any-append}
use Rattle.std.proofs.lemmas.Map.Views.{Contains-from_any, list_any-from_Contains, exact_unsigned_eq}
use Rattle.std.proofs.lemmas.Cmp.{nat_eq_equiv}
use Rattle.base_graph.proofs.ChainSteps.{edge-inside}
use Rattle.base_graph.proofs.SpreadSteps.{needs-at}
use Rattle.base_graph.specs.NeedsGraph.{NeedsGraph, IsGraph, Needs}
use Rattle.base_graph.specs.EdgeChains.{from, to, IsLast}
use Rattle.base_graph.specs.Counts.{edges_between, unmet_needs}
use Rattle.base_graph.specs.Placing.{AreUnmet}

each-edge : (t r s : Bool) → (s ≡ true → r ≡ false) → cond (t && not r) 1 0 ≡ cond (t && not (r || (s || false))) 1 0 + cond (s && t) 1 0
each-edge true true true h = absurd (true≢false (h refl))
each-edge true true false h = refl
each-edge true false true h = refl
each-edge true false false h = refl
each-edge false true true h = refl
each-edge false true false h = refl
each-edge false false true h = refl
each-edge false false false h = refl

-- where x is placed too, the edges from x are no needs any more
pub unmet-placed : (placed : List ℕ) (x b : ℕ) → list_any (eqb x) placed ≡ false → (edges : List (ℕ × ℕ)) →
    unmet_needs edges placed b ≡ unmet_needs edges (placed ++ x ∷ []) b + edges_between edges x b
unmet-placed placed x b new [] = refl
unmet-placed placed x b new (e ∷ edges) =
    let here : cond (eqb e.1 b && not (list_any (eqb e.0) placed)) 1 0
    ≡ cond (eqb e.1 b && not (list_any (eqb e.0) (placed ++ x ∷ []))) 1 0 + cond (eqb e.0 x && eqb e.1 b) 1 0
    = subst (λ r. cond (eqb e.1 b && not (list_any (eqb e.0) placed)) 1 0 ≡ cond (eqb e.1 b && not r) 1 0
    + cond (eqb e.0 x && eqb e.1 b) 1 0) (sym (list_any-append (eqb e.0) placed (x ∷ [])))
    (each-edge (eqb e.1 b) (list_any (eqb e.0) placed) (eqb e.0 x)
    (λ same. ap (λ i. list_any (eqb i) placed) (eqb-true e.0 x same) ∙ new)) in
    let rest : unmet_needs edges placed b ≡ unmet_needs edges (placed ++ x ∷ []) b + edges_between edges x b =
    unmet-placed placed x b new edges in
    let c1 : unmet_needs (e ∷ edges) placed b ≡ cond (eqb e.1 b && not (list_any (eqb e.0) placed)) 1 0
    + unmet_needs edges placed b =
    sum_by-cons (λ (e : ℕ × ℕ). cond (eqb e.1 b && not (list_any (eqb e.0) placed)) 1 0) e edges in
    let c2 : unmet_needs (e ∷ edges) (placed ++ x ∷ []) b
    ≡ cond (eqb e.1 b && not (list_any (eqb e.0) (placed ++ x ∷ []))) 1 0 + unmet_needs edges (placed ++ x ∷ []) b =
    sum_by-cons (λ (e : ℕ × ℕ). cond (eqb e.1 b && not (list_any (eqb e.0) (placed ++ x ∷ []))) 1 0) e edges in
    let c3 : edges_between (e ∷ edges) x b ≡ cond (eqb e.0 x && eqb e.1 b) 1 0 + edges_between edges x b =
    sum_by-cons (λ (e : ℕ × ℕ). cond (eqb e.0 x && eqb e.1 b) 1 0) e edges in
    omega (arith, here, rest, c1, c2, c3)

between-more : (edges : List (ℕ × ℕ)) (x b i : ℕ) → i < length edges →
    edges_between (take (i + 1) edges) x b ≡ edges_between (take i edges) x b
    + cond (eqb (from edges i) x && eqb (to edges i) b) 1 0
between-more edges x b i below = sum_by_more (λ (e : ℕ × ℕ). cond (eqb e.0 x && eqb e.1 b) 1 0) edges i (0, 0) below

no-edges : (edges : List (ℕ × ℕ)) (x b h d : ℕ) → h + d ≤ length edges →
    ((e : ℕ) → h ≤ e → e < h + d → from edges e ≡ x → ⊥) →
    edges_between (take (h + d) edges) x b ≡ edges_between (take h edges) x b
no-edges edges x b h zero below none = ap (λ m. edges_between (take m edges) x b) (omega arith)
no-edges edges x b h (suc d) below none =
    ap (λ m. edges_between (take m edges) x b) (omega arith)
    ∙ between-more edges x b (h + d) (omega arith)
    ∙ ap (λ t. edges_between (take (h + d) edges) x b + cond (t && eqb (to edges (h + d)) b) 1 0)
    (ne_eqb (from edges (h + d)) x (none (h + d) (omega arith) (omega arith)))
    ∙ add-zero (edges_between (take (h + d) edges) x b)
    ∙ no-edges edges x b h d (omega arith) (λ e low high. none e low (omega arith))

-- only the edges of the chain count
pub between-last : (edges : List (ℕ × ℕ)) (x b k h : ℕ) → k ≤ length edges → IsLast edges x k h →
    edges_between (take k edges) x b ≡ edges_between (take h edges) x b
between-last edges x b k h below l =
    let split : h + (k - h) ≡ k = let bound = l.bound in omega arith in
    ap (λ m. edges_between (take m edges) x b) (sym split)
    ∙ no-edges edges x b h (k - h) (subst (λ m. m ≤ length edges) (sym split) below)
    (λ e low high. l.none e low (subst (λ m. e < m) split high))

pub between-step : (edges : List (ℕ × ℕ)) (x b c at h : ℕ) → 0 < at → at ≤ length edges → from edges (at - 1) ≡ x →
    b ≡ to edges (at - 1) → IsLast edges x (at - 1) h →
    edges_between (take at edges) x c ≡ edges_between (take h edges) x c + cond (eqb b c) 1 0
between-step edges x b c at h above below leads goes l =
    ap (λ m. edges_between (take m edges) x c) (omega arith) ∙ between-more edges x c (at - 1) (omega arith)
    ∙ ap (λ t. edges_between (take (at - 1) edges) x c + cond (t && eqb (to edges (at - 1)) c) 1 0)
    (ap (λ i. eqb i x) leads ∙ eq-eqb x x refl)
    ∙ ap (λ m. m + cond (eqb (to edges (at - 1)) c) 1 0) (between-last edges x c (at - 1) h (omega arith) l)
    ∙ ap (λ i. edges_between (take h edges) x c + cond (eqb i c) 1 0) (sym goes)

pub between-take-le : (edges : List (ℕ × ℕ)) (x b k : ℕ) → edges_between (take k edges) x b ≤ edges_between edges x b
between-take-le edges x b k = sum_by-take-le (λ (e : ℕ × ℕ). cond (eqb e.0 x && eqb e.1 b) 1 0) edges k

pub between-all : (edges : List (ℕ × ℕ)) (x b h : ℕ) → IsLast edges x (length edges) h →
    edges_between (take h edges) x b ≡ edges_between edges x b
between-all edges x b h l = sym (between-last edges x b (length edges) h (omega arith) l)
    ∙ ap (λ es. edges_between es x b) (take_all (length edges) edges (omega arith))

-- some element passes, where the count is not 0
pub some-counted : {X : Type 0} (p : X → Bool) (xs : List X) (d : X) → 0 < count_by p xs →
    (i : ℕ) × (i < length xs) × (p (get_or xs i d) ≡ true)
some-counted p [] d h = absurd (omega arith)
some-counted {X} p (x ∷ xs) d h = by (p x) refl (some-counted p xs d)
  where
    by : (r : Bool) → p x ≡ r → (0 < count_by p xs → (i : ℕ) × (i < length xs) × (p (get_or xs i d) ≡ true)) →
        (i : ℕ) × (i < length (x ∷ xs)) × (p (get_or (x ∷ xs) i d) ≡ true)
    by true e rest = (0, omega arith, e)
    by false e rest = let more : 0 < 0 + count_by p xs =
        subst (λ r. 0 < cond r 1 0 + count_by p xs) e (subst (λ m. 0 < m) (sum_by-cons (λ y. cond (p y) 1 0) x xs) h) in
        let s = rest (omega arith) in (suc s.0, (let b = s.1 in omega arith), s.2)

and-both : (x y : Bool) → (x && y) ≡ true → (x ≡ true) × (y ≡ true)
and-both true true e = (refl, refl)
and-both true false e = absurd (true≢false (sym e))
and-both false true e = absurd (true≢false (sym e))
and-both false false e = absurd (true≢false (sym e))

not-true : (r : Bool) → not r ≡ true → r ≡ false
not-true true e = absurd (true≢false (sym e))
not-true false e = refl

-- no edge leads to what is no node
pub far-none : (g : NeedsGraph) (x b : ℕ) → IsGraph g → g.n ≤ b → edges_between g.edges x b ≡ 0
far-none g x b inside far = elim (cases_lt 0 (edges_between g.edges x b)) [
  | inl some ↦ absurd (
      let s = some-counted (λ (e : ℕ × ℕ). eqb e.0 x && eqb e.1 b) g.edges (0, 0) some in
      let goes : to g.edges s.0 ≡ b = eqb-true (to g.edges s.0) b (and-both (eqb (from g.edges s.0) x) (eqb (to g.edges s.0) b) s.2).1 in
      let node : to g.edges s.0 < g.n = (edge-inside g s.0 inside s.1).1 in
      omega arith)
  | inr none ↦ omega arith
]

-- a node that needs something yet needs a node that is not placed
pub unmet-need : (g : NeedsGraph) (placed : List ℕ) (b : ℕ) → IsGraph g → 0 < unmet_needs g.edges placed b →
    (a : ℕ) × Needs g b a × (a < g.n) × (list_any (eqb a) placed ≡ false)
unmet-need g placed b inside some =
    let s = some-counted (λ (e : ℕ × ℕ). eqb e.1 b && not (list_any (eqb e.0) placed)) g.edges (0, 0) some in
    let both = and-both (eqb (to g.edges s.0) b) (not (list_any (eqb (from g.edges s.0)) placed)) s.2 in (
      from g.edges s.0,
      needs-at g s.0 (from g.edges s.0) b s.1 refl (sym (eqb-true (to g.edges s.0) b both.0)),
      (edge-inside g s.0 inside s.1).0,
      not-true (list_any (eqb (from g.edges s.0)) placed) both.1,
    )

-- a node that needs nothing more has its needs placed
pub needs-met : (g : NeedsGraph) (placed : List ℕ) (b a : ℕ) → unmet_needs g.edges placed b ≡ 0 → Needs g b a → Contains placed a
needs-met g placed b a none (e, below, same) = elim (cases_Bool (list_any (eqb a) placed)) [
  | inl there ↦ Contains-from_any exact_unsigned_eq a placed there
  | inr missing ↦ absurd (
      let at : get_or g.edges e (0, 0) ≡ (a, b) = get_or_default g.edges e (0, 0) (a, b) below ∙ same in
      let one : cond (eqb (get_or g.edges e (0, 0)).1 b && not (list_any (eqb (get_or g.edges e (0, 0)).0) placed)) 1 0 ≡ 1
      = ap (λ (p : ℕ × ℕ). cond (eqb p.1 b && not (list_any (eqb p.0) placed)) 1 0) at
      ∙ ap (λ t. cond (t && not (list_any (eqb a) placed)) 1 0) (eq-eqb b b refl)
      ∙ ap (λ t. cond (not t) 1 0) missing in
      let low = get_or-le-sum_by (λ (p : ℕ × ℕ). cond (eqb p.1 b && not (list_any (eqb p.0) placed)) 1 0) g.edges e (0, 0) below in
      let low' : 1 ≤ unmet_needs g.edges placed b = subst (λ m. m ≤ unmet_needs g.edges placed b) one low in
      omega arith)
]

pub none-unmet : (g : NeedsGraph) (placed : List ℕ) (b : ℕ) → IsGraph g → ((a : ℕ) → Needs g b a → Contains placed a) →
    unmet_needs g.edges placed b ≡ 0
none-unmet g placed b inside met = elim (cases_lt 0 (unmet_needs g.edges placed b)) [
  | inl some ↦ absurd (
      let s = unmet-need g placed b inside some in
      true≢false (sym (list_any-from_Contains nat_eq_equiv s.0 placed (met s.0 s.1)) ∙ s.3))
  | inr none ↦ omega arith
]

and-true : (t : Bool) → (t && true) ≡ t
and-true true = refl
and-true false = refl

-- the needs along the first k edges, counted
pub record CountsUpTo (g : NeedsGraph) (k : ℕ) (unmet : List ℕ) : Type 0 where
  pub len : length unmet ≡ g.n
  pub counts : (b : ℕ) → get_or unmet b 0 ≡ unmet_needs (take k g.edges) [] b ⊎ (g.n ≤ b)
  pub small : (b : ℕ) → get_or unmet b 0 ≤ k

pub counts_start : (g : NeedsGraph) (unmet : List ℕ) (n : ℕ) → unmet ≡ replicate {A = ℕ} n 0 → n ≡ g.n → CountsUpTo g 0 unmet
counts_start g unmet n zeros same = record {
  len = ap length zeros ∙ length-replicate n 0 ∙ same;
  counts = λ b. inl (none b);
  small = λ b. (let z = none b in omega arith);
}
  where
    of-zeros : (n b : ℕ) → get_or (replicate {A = ℕ} n 0) b 0 ≡ 0
    of-zeros zero b = refl
    of-zeros (suc n) zero = refl
    of-zeros (suc n) (suc b) = of-zeros n b

    none : (b : ℕ) → get_or unmet b 0 ≡ 0
    none b = ap (λ xs. get_or xs b 0) zeros ∙ of-zeros n b

pub counts_step : (g : NeedsGraph) → IsGraph g → (k b v : ℕ) (unmet : List ℕ) → k < length g.edges → b ≡ to g.edges k →
    v ≡ get_or unmet b v → CountsUpTo g k unmet → CountsUpTo g (k + 1) (set unmet b (v + 1))
counts_step g inside k b v unmet below goes read l = record {
  len = length-set unmet b (v + 1) ∙ l.len;
  counts = counts';
  small = small';
}
  where
    b-in : b < length unmet
    b-in = let e = l.len in let i : to g.edges k < g.n = (edge-inside g k inside below).1 in omega arith

    is : v ≡ get_or unmet b 0
    is = read ∙ get_or_default unmet b v 0 b-in

    more : (c : ℕ) → unmet_needs (take (k + 1) g.edges) [] c ≡ unmet_needs (take k g.edges) [] c + cond {A = ℕ} (eqb b c) 1 0
    more c = sum_by_more (λ (e : ℕ × ℕ). cond (eqb e.1 c && not (list_any (eqb e.0) [])) 1 0) g.edges k (0, 0) below
        ∙ ap (λ t. unmet_needs (take k g.edges) [] c + cond {A = ℕ} t 1 0) (and-true (eqb (to g.edges k) c) ∙ ap (λ i. eqb i c) (sym goes))

    counts' : (c : ℕ) → get_or (set unmet b (v + 1)) c 0 ≡ unmet_needs (take (k + 1) g.edges) [] c ⊎ (g.n ≤ c)
    counts' c = elim (cases_eq c b) [
      | inl here ↦ elim (l.counts c) [
        | inl same ↦
            inl (let s : get_or (set unmet b (v + 1)) c 0 ≡ v + 1 = ap (λ i. get_or (set unmet b (v + 1)) i 0) here
            ∙ get_or-set_same unmet b (v + 1) 0 b-in in
            let m = more c in let one : cond {A = ℕ} (eqb b c) 1 0 ≡ 1 = ap (λ t. cond {A = ℕ} t 1 0) (eq-eqb b c (sym here)) in
            let w : v ≡ get_or unmet c 0 = is ∙ ap (λ i. get_or unmet i 0) (sym here) in omega arith)
        | inr far ↦ inr far
      ]
      | inr there ↦ elim (l.counts c) [
        | inl same ↦ inl (let s = get_or-set_other unmet b c (v + 1) 0 there in
            let m = more c in let none : cond {A = ℕ} (eqb b c) 1 0 ≡ 0 =
            ap (λ t. cond {A = ℕ} t 1 0) (ne_eqb b c (λ e. there (sym e))) in omega arith)
        | inr far ↦ inr far
      ]
    ]

    small' : (c : ℕ) → get_or (set unmet b (v + 1)) c 0 ≤ k + 1
    small' c = elim (cases_eq c b) [
      | inl here ↦ (let s : get_or (set unmet b (v + 1)) c 0 ≡ v + 1 = ap (λ i. get_or (set unmet b (v + 1)) i 0) here
          ∙ get_or-set_same unmet b (v + 1) 0 b-in in let m = l.small b in let w = is in omega arith)
      | inr there ↦ (let s = get_or-set_other unmet b c (v + 1) 0 there in let m = l.small c in omega arith)
    ]

pub counts_done : (g : NeedsGraph) (k : ℕ) (unmet : List ℕ) → length g.edges ≤ k → CountsUpTo g k unmet → AreUnmet g [] unmet
counts_done g k unmet all l = record {
  len = l.len;
  counts = λ b below. elim (l.counts b) [
    | inl same ↦ same ∙ ap (λ es. unmet_needs es [] b) (take_all k g.edges all)
    | inr far ↦ absurd (omega arith)
  ];
}
