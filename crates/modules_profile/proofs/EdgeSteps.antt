-- Edges of nodes by a table that says what gives each wire.
use Rattle.std.specs.Prelude.{◌≡◌, ◌⊎◌, ◌↔◌, ℕ, zero, suc, ◌+◌, ◌<◌, Bool, true, false, ◌==◌, cond, List, [], ◌∷◌, ◌++◌, filter_map, length, slice_get, get_or, take, Contains, Option, Some, None, refl, option_map, ◌||◌}
use Rattle.std.specs.List.{list_any, cons_option}
use Rattle.std.specs.Option.{option_to_list}
use Rattle.std.proofs.Common.{sym, ap, ap₂, subst, ◌∙◌, arith, inl, inr, true≢false, append-nil, append_assoc}
use Rattle.std.proofs.lemmas.Bool.{eq-eqb, eqb-true, cases_Bool}
use Rattle.std.proofs.lemmas.List.{length-append, get_or_append_left, length-take-le, take_more}
use Rattle.std.proofs.lemmas.List.Elements.{Contains-append_left, Contains-append_right, Contains-append_cases, Contains-get_or, recursion_from_All}
use Rattle.std.proofs.lemmas.Option.{slice_get_within, slice_get-get_or, get_or_from_slice_get, same_Some, none-some}
use Rattle.base_graph.specs.NeedsGraph.{IsGraph}
use Rattle.modules_profile.specs.declared.node_wires.NodeWires.{NodeWires}
use Rattle.modules_profile.specs.NodeWires.{edge_to, edge_by, edges_from, IsEdge, AreGivenOnce, AreGivers}
use Rattle.modules_profile.proofs.Found.{kept-more}
use Rattle.modules_profile.proofs.NodeLists.{first-member, later-member}

-- ---- Members that a map keeps

no-member : {A : Type 0} (x : A) → Contains [] x → ⊥
no-member x (k, below, is) = omega (arith, below)

kept-cases : {B : Type 0} (o : Option B) (ys : List B) (y : B) → Contains (cons_option o ys) y → (o ≡ Some y) ⊎ Contains ys y
kept-cases None ys y h = inr h
kept-cases (Some x) ys y (zero, below, is) = inl (ap Some is)
kept-cases (Some x) ys y (suc k, below, is) = inr (k, omega (arith, below), is)

kept-first : {B : Type 0} (o : Option B) (ys : List B) (y : B) → o ≡ Some y → Contains (cons_option o ys) y
kept-first None ys y e = absurd (none-some y e)
kept-first (Some x) ys y e = subst (λ z. Contains (x ∷ ys) z) (same_Some x y e) (first-member x ys)

kept-later : {B : Type 0} (o : Option B) (ys : List B) (y : B) → Contains ys y → Contains (cons_option o ys) y
kept-later None ys y h = h
kept-later (Some x) ys y h = later-member x y ys h

pub kept-from : {A B : Type 0} (f : A → Option B) (xs : List A) (y : B) → Contains (filter_map f xs) y →
    (x : A) × Contains xs x × (f x ≡ Some y)
kept-from f [] y h = absurd (no-member y h)
kept-from f (x ∷ xs) y h = elim (kept-cases (f x) (filter_map f xs) y h) [
  | inl here ↦ (x, first-member x xs, here)
  | inr later ↦ let rest = kept-from f xs y later in (rest.0, later-member x rest.0 xs rest.1, rest.2)
]

pub kept-to : {A B : Type 0} (f : A → Option B) (xs : List A) (x : A) (y : B) → Contains xs x → f x ≡ Some y → Contains (filter_map f xs) y
kept-to f [] x y h e = absurd (no-member x h)
kept-to f (z ∷ xs) x y (zero, below, is) e = kept-first (f z) (filter_map f xs) y (ap f is ∙ e)
kept-to f (z ∷ xs) x y (suc k, below, is) e = kept-later (f z) (filter_map f xs) y (kept-to f xs x y (k, omega (arith, below), is) e)

-- ---- Edges

module _ (giver : ℕ → Option ℕ) where
  pub edges-more : (n m : ℕ) (xs : List NodeWires) (x : NodeWires) → n + length xs ≡ m →
      edges_from giver n (xs ++ x ∷ []) ≡ edges_from giver n xs ++ filter_map (edge_by giver m) x.needs
  edges-more n m [] x e = append-nil (filter_map (edge_by giver n) x.needs)
      ∙ ap (λ k. filter_map (edge_by giver k) x.needs) (let same : n ≡ m = omega (arith, e) in same)
  edges-more n m (y ∷ xs) x e =
      ap (λ es. filter_map (edge_by giver n) y.needs ++ es) (edges-more (n + 1) m xs x (omega (arith, e)))
      ∙ sym (append_assoc (filter_map (edge_by giver n) y.needs) (edges_from giver (n + 1) xs) (filter_map (edge_by giver m) x.needs))

  edge-parts : (o : Option ℕ) (a b n : ℕ) → option_map (edge_to n) o ≡ Some (a, b) → (o ≡ Some a) × (n ≡ b)
  edge-parts None a b n e = absurd (none-some (a, b) e)
  edge-parts (Some k) a b n e = let same : edge_to n k ≡ (a, b) = same_Some (edge_to n k) (a, b) e in
      (ap (λ (p : ℕ × ℕ). Some p.0) same, ap (λ (p : ℕ × ℕ). p.1) same)

  -- node b needs a wire that the table says node a gives
  pub record Told (xs : List NodeWires) (n a b : ℕ) : Type 0 where
    pub place : ℕ
    pub is_place : n + place ≡ b
    pub taker : NodeWires
    pub at : slice_get xs place ≡ Some taker
    pub wire : ℕ
    pub needed : Contains taker.needs wire
    pub gives : giver wire ≡ Some a

  pub told-from : (n : ℕ) (xs : List NodeWires) (a b : ℕ) → Contains (edges_from giver n xs) (a, b) → Told xs n a b
  told-from n [] a b h = absurd (no-member (a, b) h)
  told-from n (x ∷ xs) a b h = elim (Contains-append_cases (filter_map (edge_by giver n) x.needs) (edges_from giver (n + 1) xs) (a, b) h) [
    | inl here ↦
        let k = kept-from (edge_by giver n) x.needs (a, b) here in
        let parts = edge-parts (giver k.0) a b n k.2 in
        record { place = 0; is_place = omega (arith, parts.1); taker = x; at = refl; wire = k.0; needed = k.1; gives = parts.0 }
    | inr later ↦
        let t = told-from (n + 1) xs a b later in
        record {
          place = suc t.place;
          is_place = let p = t.is_place in omega (arith, p);
          taker = t.taker;
          at = t.at;
          wire = t.wire;
          needed = t.needed;
          gives = t.gives;
        }
  ]

  pub told-to : (n k b : ℕ) (xs : List NodeWires) (x : NodeWires) (a c : ℕ) → n + k ≡ b → slice_get xs k ≡ Some x →
      Contains x.needs c → giver c ≡ Some a → Contains (edges_from giver n xs) (a, b)
  told-to n k b [] x a c e at needed gives = absurd (none-some x at)
  told-to n zero b (y ∷ xs) x a c e at needed gives =
      let same : y ≡ x = same_Some y x at in
      Contains-append_left (filter_map (edge_by giver n) y.needs) (edges_from giver (n + 1) xs) (a, b)
      (kept-to (edge_by giver n) y.needs c (a, b) (subst (λ (z : NodeWires). Contains z.needs c) (sym same) needed)
      (ap (option_map (edge_to n)) gives ∙ ap (λ k. Some (edge_to k a)) (let here : n ≡ b = omega (arith, e) in here)))
  told-to n (suc k) b (y ∷ xs) x a c e at needed gives =
      Contains-append_right (filter_map (edge_by giver n) y.needs) (edges_from giver (n + 1) xs) (a, b)
      (told-to (n + 1) k b xs x a c (omega (arith, e)) at needed gives)

-- one wire more, and one node more
pub edge-pushed : (giver : ℕ → Option ℕ) (b : ℕ) (needs : List ℕ) (i : ℕ) (old so_far : List (ℕ × ℕ)) (o : Option ℕ) →
    i < length needs → giver (get_or needs i 0) ≡ o → so_far ≡ old ++ filter_map (edge_by giver b) (take i needs) →
    so_far ++ option_to_list (option_map (edge_to b) o) ≡ old ++ filter_map (edge_by giver b) (take (i + 1) needs)
edge-pushed giver b needs i old so_far o inside is before =
    ap₂ (λ (es : List (ℕ × ℕ)) (p : Option ℕ). es ++ option_to_list (option_map (edge_to b) p)) before (sym is)
    ∙ append_assoc old (filter_map (edge_by giver b) (take i needs)) (option_to_list (edge_by giver b (get_or needs i 0)))
    ∙ ap (λ es. old ++ es) (sym (kept-more (edge_by giver b) needs i 0 inside))

pub edges-step : (giver : ℕ → Option ℕ) (nodes : List NodeWires) (b : ℕ) (x : NodeWires) → b < length nodes → x ≡ get_or nodes b x →
    edges_from giver 0 (take b nodes) ++ filter_map (edge_by giver b) x.needs ≡ edges_from giver 0 (take (b + 1) nodes)
edges-step giver nodes b x inside read =
    sym (ap (edges_from giver 0) (take_more nodes b x inside ∙ ap (λ y. take b nodes ++ y ∷ []) (sym read))
    ∙ edges-more giver 0 b (take b nodes) x (let l = length-take-le b nodes (omega arith) in omega (arith, l)))

pub edges-are : (nodes : List NodeWires) (giver : ℕ → Option ℕ) → AreGivenOnce nodes → AreGivers nodes giver →
    (a b : ℕ) → Contains (edges_from giver 0 nodes) (a, b) ↔ IsEdge nodes a b
edges-are nodes giver once are a b = (to, from)
  where
    to : Contains (edges_from giver 0 nodes) (a, b) → IsEdge nodes a b
    to h =
        let t = told-from giver 0 nodes a b h in
        let g = are.right a t.wire t.gives in
        let same : t.place ≡ b = let p = t.is_place in omega (arith, p) in
        record {
          giver = g.0;
          taker = t.taker;
          from = g.1;
          to = subst (λ k. slice_get nodes k ≡ Some t.taker) same t.at;
          wire = t.wire;
          given = g.2;
          needed = t.needed;
        }

    from : IsEdge nodes a b → Contains (edges_from giver 0 nodes) (a, b)
    from e =
        let told = are.each a e.wire e.giver e.from e.given in
        let other = are.right told.0 e.wire told.1 in
        let same : told.0 ≡ a = once told.0 a e.wire other.0 e.giver other.1 e.from other.2 e.given in
        told-to giver 0 b b nodes e.taker a e.wire (omega arith) e.to e.needed (told.1 ∙ ap Some same)

-- ---- The table

at-before : {A : Type 0} (xs ys : List A) (k : ℕ) (x : A) → slice_get xs k ≡ Some x → slice_get (xs ++ ys) k ≡ Some x
at-before xs ys k x e =
    let inside = slice_get_within xs k x e in
    slice_get-get_or (xs ++ ys) k x (let l = length-append xs ys in omega (arith, l, inside))
    ∙ ap Some (get_or_append_left xs ys x k inside ∙ get_or_from_slice_get xs k x x e)

at-end : {A : Type 0} (xs : List A) (x : A) → slice_get (xs ++ x ∷ []) (length xs) ≡ Some x
at-end [] x = refl
at-end (y ∷ xs) x = at-end xs x

at-cases : {A : Type 0} (xs : List A) (x y : A) (k : ℕ) → slice_get (xs ++ x ∷ []) k ≡ Some y →
    (slice_get xs k ≡ Some y) ⊎ ((k ≡ length xs) × (x ≡ y))
at-cases [] x y zero e = inr (refl, same_Some x y e)
at-cases [] x y (suc k) e = absurd (none-some y e)
at-cases (z ∷ xs) x y zero e = inl e
at-cases (z ∷ xs) x y (suc k) e = elim (at-cases xs x y k e) [ inl before ↦ inl before | inr last ↦ inr (ap suc last.0, last.1) ]

any-of : (xs : List ℕ) (c : ℕ) → list_any (λ d. d == c) xs ≡ true → Contains xs c
any-of [] c e = absurd (true≢false (sym e))
any-of (x ∷ xs) c e = by (x == c) refl (λ rest. any-of xs c rest)
  where
    by : (t : Bool) → (x == c) ≡ t → (list_any (λ d. d == c) xs ≡ true → Contains xs c) → Contains (x ∷ xs) c
    by true f more = subst (Contains (x ∷ xs)) (eqb-true x c f) (first-member x xs)
    by false f more = later-member x c xs (more (sym (ap (λ t. t || list_any (λ d. d == c) xs) f) ∙ e))

of-any : (xs : List ℕ) (c : ℕ) → Contains xs c → list_any (λ d. d == c) xs ≡ true
of-any [] c h = absurd (no-member c h)
of-any (x ∷ xs) c (zero, below, is) = ap (λ t. t || list_any (λ d. d == c) xs) (eq-eqb x c is)
of-any (x ∷ xs) c (suc k, below, is) = ap (λ t. (x == c) || t) (of-any xs c (k, omega (arith, below), is)) ∙ either (x == c)
  where
    either : (t : Bool) → (t || true) ≡ true
    either true = refl
    either false = refl

pub givers-none : (giver : ℕ → Option ℕ) → ((c : ℕ) → giver c ≡ None) → AreGivers [] giver
givers-none giver none = record {
  each = λ a c x at given. absurd (none-some x at);
  right = λ a c e. absurd (none-some a (sym (none c) ∙ e));
}

-- one node more, at the end
pub givers-more : (nodes : List NodeWires) (x : NodeWires) (n : ℕ) (old new : ℕ → Option ℕ) → n ≡ length nodes →
    ((c : ℕ) → new c ≡ cond (list_any (λ d. d == c) x.gives) (Some n) (old c)) → AreGivers nodes old →
    AreGivers (nodes ++ x ∷ []) new
givers-more nodes x n old new last is are = record { each = each; right = right }
  where
    by-table : (c : ℕ) (t : Bool) → list_any (λ d. d == c) x.gives ≡ t → new c ≡ cond t (Some n) (old c)
    by-table c t e = is c ∙ ap (λ r. cond r (Some n) (old c)) e

    each : (a c : ℕ) (y : NodeWires) → slice_get (nodes ++ x ∷ []) a ≡ Some y → Contains y.gives c → (b : ℕ) × (new c ≡ Some b)
    each a c y at given = elim (cases_Bool (list_any (λ d. d == c) x.gives)) [
      | inl now ↦ (n, by-table c true now)
      | inr not ↦ elim (at-cases nodes x y a at) [
        | inl before ↦ let told = are.each a c y before given in (told.0, by-table c false not ∙ told.1)
        | inr here ↦ absurd (true≢false (sym (of-any x.gives c (subst (λ (z : NodeWires). Contains z.gives c) (sym here.1) given)) ∙ not))
      ]
    ]

    right : (a c : ℕ) → new c ≡ Some a → (y : NodeWires) × (slice_get (nodes ++ x ∷ []) a ≡ Some y) × Contains y.gives c
    right a c e = elim (cases_Bool (list_any (λ d. d == c) x.gives)) [
      | inl now ↦
          let same : n ≡ a = same_Some n a (sym (by-table c true now) ∙ e) in
          (x, subst (λ k. slice_get (nodes ++ x ∷ []) k ≡ Some x) (sym last ∙ same) (at-end nodes x), any-of x.gives c now)
      | inr not ↦
          let told = are.right a c (sym (by-table c false not) ∙ e) in
          (told.0, at-before nodes (x ∷ []) a told.0 told.1, told.2)
    ]

-- ---- The graph

pub edges-inside : (nodes : List NodeWires) (edges : List (ℕ × ℕ)) →
    ((a b : ℕ) → Contains edges (a, b) ↔ IsEdge nodes a b) → IsGraph (record { n = length nodes; edges = edges })
edges-inside nodes edges are = recursion_from_All (λ (edge : ℕ × ℕ). (edge.0 < length nodes) × (edge.1 < length nodes)) edges each
  where
    each : (k : ℕ) (d : ℕ × ℕ) → k < length edges → ((get_or edges k d).0 < length nodes) × ((get_or edges k d).1 < length nodes)
    each k d below =
        let e = (are (get_or edges k d).0 (get_or edges k d).1).0 (Contains-get_or edges k d below) in
        (slice_get_within nodes (get_or edges k d).0 e.giver e.from, slice_get_within nodes (get_or edges k d).1 e.taker e.to)
