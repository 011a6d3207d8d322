-- How times spread: the beginning, a node that is taken up, an edge, and the end.
use Rattle.std.proofs.Common.{◌≡◌, refl, ℕ, zero, suc, ◌+◌, ◌-◌, ◌<◌, ◌≤◌, ◌⊎◌, true, false, List, [], ◌∷◌, ◌++◌, length, get_or, set, All, Contains, Option, Some, None, sum_by, sym, ap, subst, ◌∙◌, arith, inl, inr, length-append, length-set, get_or-set_same, get_or-set_other}
use Rattle.std.proofs.lemmas.Bool.{cases_eq, cases_lt}
use Rattle.std.proofs.lemmas.List.{get_or_default, get_or_append_left}
use Rattle.std.proofs.lemmas.List.Sums.{sum_by-set}
use Rattle.std.proofs.lemmas.List.Elements.{All-push, Contains-push, Contains-push_cases, Contains-append_left, Contains-get_or}
use Rattle.base_graph.specs.NeedsGraph.{NeedsGraph, IsGraph, Needs}
use Rattle.base_graph.specs.Reaching.{Walk, Reaches}
use Rattle.base_graph.specs.EdgeChains.{from, to, IsLast, AreChains}
use Rattle.diagram_meaning.specs.declared.times.Time.{Time}
use Rattle.diagram_meaning.specs.SampleTimes.{Includes}
use Rattle.diagram_times.specs.Hulls.{Covers, CoversAll, IsWidened, room}
use Rattle.diagram_times.specs.Searching.{found_at, Comes, IsFound, AreFound, IsWithin, TakesUp, IsSpread}
use Rattle.diagram_times.proofs.HullLemmas.{Includes-trans, Includes-self}

-- ---- What was found covers more and more

covers-trans : (o : Option Time) (b c : Time) → Covers o b → Includes b c → Covers o c
covers-trans None b c p q = p
covers-trans (Some a) b c p q = Includes-trans a b c p q

covers-all : (o p : Option Time) (time : Time) → CoversAll o p → Covers p time → Covers o time
covers-all o None time all c = absurd c
covers-all o (Some a) time all c = covers-trans o a time all c

covers-all-trans : (o p q : Option Time) → CoversAll o p → CoversAll p q → CoversAll o q
covers-all-trans o p None h k = tt
covers-all-trans o p (Some time) h k = covers-all o p time h k

covers-self : (o : Option Time) → CoversAll o o
covers-self None = tt
covers-self (Some a) = Includes-self a

-- what is widened includes what it was, and the time by which it is widened
wider-old : (o : Option Time) (time wider : Time) → IsWidened o time wider → CoversAll (Some wider) o
wider-old None time wider w = tt
wider-old (Some found) time wider w = w.0.first

wider-time : (o : Option Time) (time wider : Time) → IsWidened o time wider → Includes wider time
wider-time None time wider w = subst (λ t. Includes t time) (sym w.0) (Includes-self time)
wider-time (Some found) time wider w = w.0.second

wider-room : (o : Option Time) (time wider : Time) → IsWidened o time wider → wider.period < room o
wider-room None time wider w = w.1
wider-room (Some found) time wider w = w.1

-- what comes to a node comes to those that it feeds
pub comes-on : (g : NeedsGraph) (given : List (Option Time)) (a b : ℕ) (time : Time) → Needs g b a →
    Comes g given a time → Comes g given b time
comes-on g given a b time needs (z, below, reach, is) = (z, below, on reach, is)
  where
    on : Reaches g z a → Reaches g z b
    on (inl same) = inr ([], subst (λ x. Needs g b x) (sym same) needs)
    on (inr (path, walk)) = inr (a ∷ path, (needs, walk))

within-on : (g : NeedsGraph) (given : List (Option Time)) (a b : ℕ) (time : Time) → Needs g b a →
    IsWithin (Comes g given a) time → IsWithin (Comes g given b) time
within-on g given a b time needs is = record {
  some = (is.some.0, comes-on g given a b is.some.0 needs is.some.1);
  smaller = λ other all. is.smaller other (λ found c. all found (comes-on g given a b found needs c));
}

within-wider : (Found : Time → Type 0) (o : Option Time) (time wider : Time) →
    ((t : Time) → o ≡ Some t → IsWithin Found t) → IsWithin Found time → IsWidened o time wider →
    IsWithin Found wider
within-wider Found None time wider old is w = subst (IsWithin Found) (sym w.0) is
within-wider Found (Some found) time wider old is w = record {
  some = is.some;
  smaller = λ other all. w.0.smallest other ((old found refl).smaller other all) (is.smaller other all);
}

-- ---- The beginning

edge-inside : (g : NeedsGraph) (e : ℕ) → IsGraph g → e < length g.edges → (from g.edges e < g.n) × (to g.edges e < g.n)
edge-inside g e inside below = at g.edges e inside below
  where
    at : (edges : List (ℕ × ℕ)) (e : ℕ) → IsGraph (record { n = g.n; edges = edges }) → e < length edges →
        (from edges e < g.n) × (to edges e < g.n)
    at [] e inside below = absurd (omega arith)
    at (edge ∷ edges) zero inside below = inside.0
    at (edge ∷ edges) (suc e) inside below = at edges e inside.1 (omega arith)

pub begin : (g : NeedsGraph) (given : List (Option Time)) (waiting : List ℕ) → IsGraph g → length given ≡ g.n → All (λ b. b < g.n) waiting →
    ((a : ℕ) → a < g.n → Contains waiting a) → IsSpread g given given waiting 0 0
begin g given waiting inside len nodes all = record {
  len = len;
  are_nodes = nodes;
  begins = λ b time below is. subst (λ o. Covers o time) (sym is) (Includes-self time);
  comes = λ b time below is. record { some = (time, (b, below, inl refl, is)); smaller = λ other h. h time (b, below, inl refl, is) };
  settled = λ e below. inr (inl (all (from g.edges e) (edge-inside g e inside below).0));
}

take-up : (g : NeedsGraph) (given found : List (Option Time)) (waiting last before : List ℕ) (a : ℕ) → AreChains g last before → a < g.n →
    IsSpread g given found (waiting ++ a ∷ []) 0 0 → IsSpread g given found waiting a (get_or last a 0)
take-up g given found waiting last before a chains within s = record {
  len = s.len;
  are_nodes = All-front (λ b. b < g.n) waiting a s.are_nodes;
  begins = s.begins;
  comes = s.comes;
  settled = λ e below. elim (s.settled e below) [
    | inl (same, low) ↦ absurd (omega arith)
    | inr (inr covers) ↦ inr (inr covers)
    | inr (inl waits) ↦ elim (Contains-push_cases waiting a (from g.edges e) waits) [
      | inl still ↦ inr (inl still)
      | inr here ↦ inl (sym here, low-end e below (sym here))
    ]
  ];
}
  where
    All-front : (P : ℕ → Type 0) (xs : List ℕ) (x : ℕ) → All P (xs ++ x ∷ []) → All P xs
    All-front P xs x all k d below =
        subst P (get_or_append_left xs (x ∷ []) d k below) (all k d (let e = length-append xs (x ∷ []) in omega arith))

    low-end : (e : ℕ) → e < length g.edges → from g.edges e ≡ a → e < get_or last a 0
    low-end e below same = elim (cases_lt e (get_or last a 0)) [
      | inl low ↦ low
      | inr high ↦ absurd ((chains.is_last a within).none e high below same)
    ]

-- ---- One edge

-- what the step along the edge before a place is given
pub record IsEdgeStep (g : NeedsGraph) (a b place h : ℕ) : Type 0 where
  pub above : 0 < place
  pub below : place ≤ length g.edges
  pub from_is : a ≡ from g.edges (place - 1)
  pub to_is : b ≡ to g.edges (place - 1)
  pub last : IsLast g.edges a (place - 1) h
  pub from_inside : a < g.n
  pub inside : b < g.n

-- an edge by its place
needs-at : (g : NeedsGraph) (e a b : ℕ) → e < length g.edges → a ≡ from g.edges e → b ≡ to g.edges e → Needs g b a
needs-at g e a b below p q =
    subst (λ x. Needs g b x) (sym p)
    (subst (λ y. Needs g y (from g.edges e)) (sym q) (Contains-get_or g.edges e (0, 0) below))

module _ (g : NeedsGraph) (given found : List (Option Time)) (waiting : List ℕ) (a b place h : ℕ)
    (d : IsEdgeStep g a b place h) (s : IsSpread g given found waiting a place) where
  needs : Needs g b a
  needs = needs-at g (place - 1) a b (let l = d.below in let p = d.above in omega arith) d.from_is d.to_is

  -- an edge that was done, or that of the step
  done-or-here : (i : ℕ) → from g.edges i ≡ a → i < place → (i ≡ place - 1) ⊎ (i < h)
  done-or-here i same low = elim (cases_eq i (place - 1)) [
    | inl here ↦ inl here
    | inr there ↦ elim (cases_lt i h) [
      | inl before ↦ inr before
      | inr high ↦ absurd (d.last.none i high (omega arith) same)
    ]
  ]

  -- b includes what was found at a
  pub step-same : CoversAll (found_at found b) (found_at found a) → IsSpread g given found waiting a h
  step-same full = record {
    len = s.len;
    are_nodes = s.are_nodes;
    begins = s.begins;
    comes = s.comes;
    settled = λ i below. elim (s.settled i below) [
      | inl (same, low) ↦ elim (done-or-here i same low) [
        | inl here ↦
            inr (inr (subst (λ x. CoversAll (found_at found x) (found_at found (from g.edges i))) (d.to_is
            ∙ ap (to g.edges) (sym here))
            (subst (λ x. CoversAll (found_at found b) (found_at found x)) (sym same) full)))
        | inr before ↦ inl (same, before)
      ]
      | inr rest ↦ inr rest
    ];
  }

  module _ (time wider : Time) (is : found_at found a ≡ Some time) (w : IsWidened (found_at found b) time wider) where
    in_list : b < length found
    in_list = let e = s.len in let i = d.inside in omega arith

    here-at : (c : ℕ) → c ≡ b → found_at (set found b (Some wider)) c ≡ Some wider
    here-at c same = ap (λ n. found_at (set found b (Some wider)) n) same ∙ get_or-set_same found b (Some wider) None in_list

    there-at : (c : ℕ) → (c ≡ b → ⊥) → found_at (set found b (Some wider)) c ≡ found_at found c
    there-at c differ = get_or-set_other found b c (Some wider) None differ

    -- each node includes what it included
    grows : (c : ℕ) → CoversAll (found_at (set found b (Some wider)) c) (found_at found c)
    grows c = elim (cases_eq c b) [
      | inl same ↦ subst (λ o. CoversAll o (found_at found c)) (sym (here-at c same))
          (subst (λ n. CoversAll (Some wider) (found_at found n)) (sym same) (wider-old (found_at found b) time wider w))
      | inr differ ↦ subst (λ o. CoversAll o (found_at found c)) (sym (there-at c (λ e. differ e))) (covers-self (found_at found c))
    ]

    -- b now includes what was found at a
    takes : CoversAll (found_at (set found b (Some wider)) b) (found_at (set found b (Some wider)) a)
    takes = elim (cases_eq a b) [
      | inl same ↦
          subst (λ n. CoversAll (found_at (set found b (Some wider)) b) (found_at (set found b (Some wider)) n))
          (sym same) (covers-self (found_at (set found b (Some wider)) b))
      | inr differ ↦ subst (λ o. CoversAll o (found_at (set found b (Some wider)) a)) (sym (here-at b refl))
          (subst (λ o. CoversAll (Some wider) o) (sym (there-at a (λ e. differ e) ∙ is)) (wider-time (found_at found b) time wider w))
    ]

    pub step-wider : (more : List ℕ) → more ≡ waiting ++ b ∷ [] → IsSpread g given (set found b (Some wider)) more a h
    step-wider more pushed = record {
      len = length-set found b (Some wider) ∙ s.len;
      are_nodes = subst (λ xs. All (λ c. c < g.n) xs) (sym pushed) (All-push (λ c. c < g.n) waiting b s.are_nodes d.inside);
      begins = λ c t below e. covers-all (found_at (set found b (Some wider)) c) (found_at found c) t (grows c) (s.begins c t below e);
      comes = λ c t below e. elim (cases_eq c b) [
        | inl same ↦ subst (IsWithin (Comes g given c)) (let q = sym (here-at c same) ∙ e in
            cc) (subst (λ n. IsWithin (Comes g given n) wider) (sym same)
            (within-wider (Comes g given b) (found_at found b) time wider (λ u k. s.comes b u d.inside k)
            (within-on g given a b time needs (s.comes a time d.from_inside is)) w))
        | inr differ ↦ s.comes c t below (sym (there-at c (λ k. differ k)) ∙ e)
      ];
      settled = λ i below. elim (s.settled i below) [
        | inl (same, low) ↦ elim (done-or-here i same low) [
          | inl here ↦
              inr (inr
              (subst (λ x. CoversAll (found_at (set found b (Some wider)) x)
              (found_at (set found b (Some wider)) (from g.edges i))) (d.to_is ∙ ap (to g.edges) (sym here))
              (subst (λ x. CoversAll (found_at (set found b (Some wider)) b) (found_at (set found b (Some wider)) x)) (sym same) takes)))
          | inr before ↦ inl (same, before)
        ]
        | inr (inl waits) ↦
            inr (inl
            (subst (λ xs. Contains xs (from g.edges i)) (sym pushed)
            (Contains-append_left waiting (b ∷ []) (from g.edges i) waits)))
        | inr (inr covers) ↦ elim (cases_eq (from g.edges i) b) [
          | inl here ↦
              inr (inl
              (subst (λ xs. Contains xs (from g.edges i)) (sym pushed)
              (subst (Contains (waiting ++ b ∷ [])) (sym here) (Contains-push waiting b))))
          | inr differ ↦
              inr (inr (subst (λ o. CoversAll (found_at (set found b (Some wider)) (to g.edges i)) o)
              (sym (there-at (from g.edges i) (λ k. differ k)))
              (covers-all-trans (found_at (set found b (Some wider)) (to g.edges i)) (found_at found (to g.edges i))
              (found_at found (from g.edges i)) (grows (to g.edges i)) covers)))
        ]
      ];
    }

-- what was found shrinks where it is widened
room-falls : (found : List (Option Time)) (b : ℕ) (time wider : Time) → b < length found → IsWidened (found_at found b) time wider →
    sum_by room (set found b (Some wider)) + 1 ≤ sum_by room found
room-falls found b time wider inside w = let e = sum_by-set room found b (Some wider) None inside in let l =
    wider-room (found_at found b) time wider w in omega arith

-- what the loop along the edges from node a keeps
pub record SpreadLoop (g : NeedsGraph) (a place : ℕ) (old : List (Option Time)) (waited : List ℕ)
    (found : List (Option Time)) (waiting : List ℕ) : Type 0 where
  pub below : place ≤ length g.edges
  pub from_is : 0 < place → from g.edges (place - 1) ≡ a
  pub spread : (given : List (Option Time)) → IsSpread g given old (waited ++ a ∷ []) 0 0 → IsSpread g given found waiting a place
  pub shrunk : length waiting + sum_by room found ≤ length waited + sum_by room old

pub spread_begins : (g : NeedsGraph) (a place : ℕ) (found : List (Option Time)) (waiting last before : List ℕ) →
    AreChains g last before → a < g.n → place ≡ get_or last a place →
    SpreadLoop g a place found waiting found waiting
spread_begins g a place found waiting last before chains within read = record {
  below = subst (λ h. h ≤ length g.edges) (sym same) (chains.is_last a within).bound;
  from_is = subst (λ h. 0 < h → from g.edges (h - 1) ≡ a) (sym same) (chains.is_last a within).leads;
  spread =
      λ given s. subst (λ h. IsSpread g given found waiting a h) (sym same)
      (take-up g given found waiting last before a chains within s);
  shrunk = omega arith;
}
  where
    same : place ≡ get_or last a 0
    same = read ∙ get_or_default last a place 0 (let e = chains.last_len in omega arith)

module _ (g : NeedsGraph) (inside : IsGraph g) (last before : List ℕ) (chains : AreChains g last before)
    (a b place h : ℕ) (old : List (Option Time)) (waited : List ℕ) (found later : List (Option Time))
    (waiting more : List ℕ) (within : a < g.n) (len : length found ≡ g.n) (above : 0 < place) (to_is : b
    ≡ to g.edges (place - 1)) (read : h ≡ get_or before (place - 1) h)
    (l : SpreadLoop g a place old waited found waiting) where
  below : place - 1 < length g.edges
  below = let b = l.below in omega arith

  last-is : IsLast g.edges a (place - 1) h
  last-is = subst (λ x. IsLast g.edges x (place - 1) h) (l.from_is above)
      (subst (λ x. IsLast g.edges (from g.edges (place - 1)) (place - 1) x)
      (sym (read ∙ get_or_default before (place - 1) h 0 (let e = chains.before_len in let b = below in omega arith)))
      (chains.is_before (place - 1) below))

  edge : IsEdgeStep g a b place h
  edge = record {
    above = above;
    below = l.below;
    from_is = sym (l.from_is above);
    to_is = to_is;
    last = last-is;
    from_inside = within;
    inside = subst (λ x. x < g.n) (sym to_is) (edge-inside g (place - 1) inside below).1;
  }

  pub spread_same : TakesUp found later a b false → more ≡ waiting → SpreadLoop g a h old waited later more
  spread_same takes same = record {
    below = (let e = last-is.bound in let b = below in omega arith);
    from_is = last-is.leads;
    spread = λ given s. subst (λ xs. IsSpread g given xs more a h) (sym takes.0) (subst (λ ys. IsSpread g given found ys a h) (sym same)
        (step-same g given found waiting a b place h edge (l.spread given s) takes.1));
    shrunk = let k = l.shrunk in let m : length more ≡ length waiting = ap length same in let f : sum_by room later
        ≡ sum_by room found = ap (sum_by room) takes.0 in omega arith;
  }

  pub spread_wider : TakesUp found later a b true → more ≡ waiting ++ b ∷ [] → SpreadLoop g a h old waited later more
  spread_wider takes pushed = record {
    below = (let e = last-is.bound in let b = below in omega arith);
    from_is = last-is.leads;
    spread = λ given s. subst (λ xs. IsSpread g given xs more a h) (sym takes.3)
        (step-wider g given found waiting a b place h edge (l.spread given s) takes.0 takes.1 takes.2 takes.4 more pushed);
    shrunk =
        let k = l.shrunk in
        let m : length more ≡ length waiting + 1 = ap length pushed ∙ length-append waiting (b ∷ []) in
        let f : sum_by room later ≡ sum_by room (set found b (Some takes.1)) = ap (sum_by room) takes.3 in
        let r = room-falls found b takes.0 takes.1 (let e = edge.inside in omega arith) takes.4 in
        omega arith;
  }

-- where no edge from a is left
pub all_done : (g : NeedsGraph) (given found : List (Option Time)) (waiting : List ℕ) (a place : ℕ) → place ≤ 0 →
    IsSpread g given found waiting a place → IsSpread g given found waiting 0 0
all_done g given found waiting a place none s = record {
  len = s.len;
  are_nodes = s.are_nodes;
  begins = s.begins;
  comes = s.comes;
  settled = λ e below. elim (s.settled e below) [
    | inl (same, low) ↦ absurd (omega arith)
    | inr done ↦ inr done
  ];
}

-- ---- The end: with no node waiting, times have come along every walk

module _ (g : NeedsGraph) (given found : List (Option Time)) (waiting : List ℕ) (s : IsSpread g given found waiting 0 0)
    (empty : length waiting ≡ 0) where
  came : (b a : ℕ) → Needs g b a → CoversAll (found_at found b) (found_at found a)
  came b a (e, below, same) = elim (s.settled e below) [
    | inl (here, low) ↦ absurd (omega arith)
    | inr (inl (i, none, there)) ↦ absurd (omega arith)
    | inr (inr covers) ↦ subst (λ x. CoversAll (found_at found x) (found_at found a)) (ap (λ (p : ℕ × ℕ). p.1) at)
        (subst (λ x. CoversAll (found_at found (to g.edges e)) (found_at found x)) (ap (λ (p : ℕ × ℕ). p.0) at) covers)
  ]
    where
      at : get_or g.edges e (0, 0) ≡ (a, b)
      at = get_or_default g.edges e (0, 0) (a, b) below ∙ same

  along : (b : ℕ) (path : List ℕ) (a : ℕ) → Walk g b path a → CoversAll (found_at found b) (found_at found a)
  along b [] a needs = came b a needs
  along b (c ∷ path) a walk =
      covers-all-trans (found_at found b) (found_at found c) (found_at found a) (came b c walk.0)
      (along c path a walk.1)

  covered : (b : ℕ) (time : Time) → Comes g given b time → Covers (found_at found b) time
  covered b time (a, below, inl same, is) = subst (λ x. Covers (found_at found x) time) same (s.begins a time below is)
  covered b time (a, below, inr (path, walk), is) =
      covers-all (found_at found b) (found_at found a) time (along b path a walk) (s.begins a time below is)

  each : (b : ℕ) (o : Option Time) → b < g.n → found_at found b ≡ o → IsFound (Comes g given b) o
  each b None inside e = λ time c. subst (λ o. Covers o time) e (covered b time c)
  each b (Some time) inside e =
      let is = s.comes b time inside e in
      (is.some, record { includes = λ t c. subst (λ o. Covers o t) e (covered b t c); smallest = is.smaller })

  pub finish : AreFound g given found
  finish = record { len = s.len; each = λ b below. each b (found_at found b) below refl }

pub nodes_step : (n a : ℕ) (nodes more : List ℕ) → a < n → more ≡ nodes ++ a ∷ [] →
    All (λ b. b < n) nodes × ((b : ℕ) → b < a → Contains nodes b) →
    All (λ b. b < n) more × ((b : ℕ) → b < a + 1 → Contains more b)
nodes_step n a nodes more below pushed h = (
  subst (λ xs. All (λ b. b < n) xs) (sym pushed) (All-push (λ b. b < n) nodes a h.0 below),
  λ b low. subst (λ xs. Contains xs b) (sym pushed) (elim (cases_eq b a) [
    | inl here ↦ subst (λ x. Contains (nodes ++ a ∷ []) x) (sym here) (Contains-push nodes a)
    | inr there ↦ Contains-append_left nodes (a ∷ []) b (h.1 b (omega arith))
  ]),
)

-- the last node that waits is a node
pub last-node : (g : NeedsGraph) (given found : List (Option Time)) (waiting : List ℕ) (a : ℕ) →
    IsSpread g given found (waiting ++ a ∷ []) 0 0 → a < g.n
last-node g given found waiting a s = let k = Contains-push waiting a in subst (λ n. n < g.n) k.2 (s.are_nodes k.0 a k.1)
