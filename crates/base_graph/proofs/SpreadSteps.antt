-- How masks spread: the beginning, a node that is taken up, an edge, and the end.
use Rattle.std.proofs.Common.{◌≡◌, ℕ, ◌+◌, ◌-◌, ◌*◌, ◌^◌, ◌<◌, ◌≤◌, ◌⊎◌, ◌≢◌, List, [], ◌∷◌, ◌++◌, length, get_or, set, All, Contains, bit_or, IsBitSet, sum_by, refl, sym, ap, subst, ◌∙◌, arith, inl, inr, le_of_lt, length-append, length-set, get_or-set_same, get_or-set_other}
use Rattle.std.proofs.lemmas.Bool.{cases_eq, cases_lt}
use Rattle.std.proofs.lemmas.Nat.{le_or_l, or_lt}
use Rattle.std.proofs.lemmas.List.{get_or_default, get_or_append_left}
use Rattle.std.proofs.lemmas.List.Sums.{sum_by-set, sum_by-le}
use Rattle.std.proofs.lemmas.List.Elements.{All-push, All-set, Contains-push, Contains-push_cases, Contains-append_left, Contains-get_or}
use Rattle.base_graph.specs.NeedsGraph.{NeedsGraph, IsGraph, Needs}
use Rattle.base_graph.specs.Reaching.{Walk, Reaches}
use Rattle.base_graph.specs.Masks.{ReachesWithBit, AreMasks}
use Rattle.base_graph.specs.EdgeChains.{from, to, IsLast, AreChains}
use Rattle.base_graph.specs.Spread.{Covers, IsSpread}
use Rattle.base_graph.proofs.lemmas.Bits.{or-left, or-right, or-cases}
use Rattle.base_graph.proofs.ChainSteps.{edge-inside}

-- what reaches a node reaches those that need it
reaches-on : (g : NeedsGraph) (source : List ℕ) (a b k : ℕ) → Needs g b a → ReachesWithBit g source a k → ReachesWithBit g source b k
reaches-on g source a b k needs (z, below, reach, bit) = (z, below, on reach, bit)
  where
    on : Reaches g z a → Reaches g z b
    on (inl same) = inr ([], subst (λ x. Needs g b x) (sym same) needs)
    on (inr (path, walk)) = inr (a ∷ path, (needs, walk))

pub begin : (g : NeedsGraph) (source waiting : List ℕ) → IsGraph g → length source ≡ g.n →
    ((i : ℕ) → get_or source i 0 < 2 ^ 64) → All (λ b. b < g.n) waiting → ((a : ℕ) → a < g.n → Contains waiting a) →
    IsSpread g source source waiting 0 0
begin g source waiting inside len small nodes all = record {
  len = len;
  fits = λ k d below. subst (λ m. m < 2 ^ 64) (get_or_default source k 0 d below) (small k);
  are_nodes = nodes;
  begins = λ b k below bit. bit;
  comes = λ b k below bit. (b, below, inl refl, bit);
  settled = λ e below. inr (inl (all (from g.edges e) (edge-inside g e inside below).0));
}

pub take-up : (g : NeedsGraph) (source masks waiting last before : List ℕ) (a : ℕ) → AreChains g last before → a < g.n →
    IsSpread g source masks (waiting ++ a ∷ []) 0 0 → IsSpread g source masks waiting a (get_or last a 0)
take-up g source masks waiting last before a chains within s = record {
  len = s.len;
  fits = s.fits;
  are_nodes = All-front (λ b. b < g.n) waiting a s.are_nodes;
  begins = s.begins;
  comes = s.comes;
  settled = λ e below. elim (s.settled e below) [
    | inl (same, low) ↦ absurd (omega arith)
    | inr (inr covers) ↦ inr (inr covers)
    | inr (inl waits) ↦ elim (Contains-push_cases waiting a (from g.edges e) waits) [
      | inl still ↦ inr (inl still)
      | inr here ↦ inl (sym here, low-end e below (sym here))
    ]
  ];
}
  where
    All-front : (P : ℕ → Type 0) (xs : List ℕ) (x : ℕ) → All P (xs ++ x ∷ []) → All P xs
    All-front P xs x all k d below =
        subst P (get_or_append_left xs (x ∷ []) d k below) (all k d (let e = length-append xs (x ∷ []) in omega arith))

    low-end : (e : ℕ) → e < length g.edges → from g.edges e ≡ a → e < get_or last a 0
    low-end e below same = elim (cases_lt e (get_or last a 0)) [
      | inl low ↦ low
      | inr high ↦ absurd ((chains.is_last a within).none e high below same)
    ]

-- a mask that takes bits up keeps its own
grows : (masks : List ℕ) (a b c k : ℕ) → b < length masks → IsBitSet (get_or masks c 0) k →
    IsBitSet (get_or (set masks b (bit_or (get_or masks b 0) (get_or masks a 0))) c 0) k
grows masks a b c k within bit = elim (cases_eq c b) [
  | inl here ↦
      subst (λ m. IsBitSet m k)
      (sym (ap (λ i. get_or (set masks b (bit_or (get_or masks b 0) (get_or masks a 0))) i 0) here
      ∙ get_or-set_same masks b (bit_or (get_or masks b 0) (get_or masks a 0)) 0 within))
      (or-left (get_or masks b 0) (get_or masks a 0) k (subst (λ i. IsBitSet (get_or masks i 0) k) here bit))
  | inr there ↦ subst (λ m. IsBitSet m k) (sym (get_or-set_other masks b c (bit_or (get_or masks b 0) (get_or masks a 0)) 0 there)) bit
]

-- a node that took nothing up, or another, has the bits that it had
keeps-bits : (masks : List ℕ) (a b c k : ℕ) → b < length masks → (c ≡ b → bit_or (get_or masks b 0) (get_or masks a 0) ≡ get_or masks b 0) →
    IsBitSet (get_or (set masks b (bit_or (get_or masks b 0) (get_or masks a 0))) c 0) k → IsBitSet (get_or masks c 0) k
keeps-bits masks a b c k within same bit = elim (cases_eq c b) [
  | inl here ↦ subst (λ m. IsBitSet m k)
      (ap (λ i. get_or (set masks b (bit_or (get_or masks b 0) (get_or masks a 0))) i 0) here
      ∙ get_or-set_same masks b (bit_or (get_or masks b 0) (get_or masks a 0)) 0 within ∙ same here
      ∙ sym (ap (λ i. get_or masks i 0) here)) bit
  | inr there ↦ subst (λ m. IsBitSet m k) (get_or-set_other masks b c (bit_or (get_or masks b 0) (get_or masks a 0)) 0 there) bit
]

-- the bits of a are now in b
takes : (masks : List ℕ) (a b k : ℕ) → b < length masks →
    IsBitSet (get_or (set masks b (bit_or (get_or masks b 0) (get_or masks a 0))) a 0) k →
    IsBitSet (get_or (set masks b (bit_or (get_or masks b 0) (get_or masks a 0))) b 0) k
takes masks a b k within bit = elim (cases_eq a b) [
  | inl here ↦ subst (λ i. IsBitSet (get_or (set masks b (bit_or (get_or masks b 0) (get_or masks a 0))) i 0) k) here bit
  | inr there ↦ subst (λ m. IsBitSet m k) (sym (get_or-set_same masks b (bit_or (get_or masks b 0) (get_or masks a 0)) 0 within))
      (or-right (get_or masks b 0) (get_or masks a 0) k
      (subst (λ m. IsBitSet m k) (get_or-set_other masks b a (bit_or (get_or masks b 0) (get_or masks a 0)) 0 there)
      bit))
]

-- an edge by its place
pub needs-at : (g : NeedsGraph) (e a b : ℕ) → e < length g.edges → a ≡ from g.edges e → b ≡ to g.edges e → Needs g b a
needs-at g e a b below p q =
    subst (λ x. Needs g b x) (sym p)
    (subst (λ y. Needs g y (from g.edges e)) (sym q) (Contains-get_or g.edges e (0, 0) below))

-- what the step along the edge before place at is given
pub record IsEdgeStep (g : NeedsGraph) (a b at h : ℕ) : Type 0 where
  pub above : 0 < at
  pub below : at ≤ length g.edges
  pub from_is : a ≡ from g.edges (at - 1)
  pub to_is : b ≡ to g.edges (at - 1)
  pub last : IsLast g.edges a (at - 1) h
  pub from_inside : a < g.n
  pub inside : b < g.n

pub step : (g : NeedsGraph) (source masks waiting more : List ℕ) (a b at h : ℕ) → IsEdgeStep g a b at h →
    IsSpread g source masks waiting a at →
    ((c : ℕ) → Contains waiting c → Contains more c) → All (λ c. c < g.n) more →
    (Contains more b ⊎ (bit_or (get_or masks b 0) (get_or masks a 0) ≡ get_or masks b 0)) →
    IsSpread g source (set masks b (bit_or (get_or masks b 0) (get_or masks a 0))) more a h
step g source masks waiting more a b at h d s keeps nodes grown = record {
  len = length-set masks b (bit_or (get_or masks b 0) (get_or masks a 0)) ∙ s.len;
  fits = All-set (λ mask. mask < 2 ^ 64) masks b (bit_or (get_or masks b 0) (get_or masks a 0))
      (or_lt 64 (get_or masks b 0) (get_or masks a 0) (s.fits b 0 within) (s.fits a 0 a-in)) s.fits;
  are_nodes = nodes;
  begins = λ c k below bit. grows masks a b c k within (s.begins c k below bit);
  comes = comes';
  settled = settled';
}
  where
    within : b < length masks
    within = let e = s.len in let i = d.inside in omega arith

    a-in : a < length masks
    a-in = let e = s.len in let i = d.from_inside in omega arith

    needs : Needs g b a
    needs = needs-at g (at - 1) a b (let l = d.below in let p = d.above in omega arith) d.from_is d.to_is

    comes' : (c k : ℕ) → c < g.n →
        IsBitSet (get_or (set masks b (bit_or (get_or masks b 0) (get_or masks a 0))) c 0) k →
        ReachesWithBit g source c k
    comes' c k below bit = elim (cases_eq c b) [
      | inl here ↦
          elim (or-cases (get_or masks b 0) (get_or masks a 0) k
          (subst (λ m. IsBitSet m k)
          (ap (λ i. get_or (set masks b (bit_or (get_or masks b 0) (get_or masks a 0))) i 0) here
          ∙ get_or-set_same masks b (bit_or (get_or masks b 0) (get_or masks a 0)) 0 within) bit)) [
            | inl own ↦ s.comes c k below (subst (λ i. IsBitSet (get_or masks i 0) k) (sym here) own)
            | inr other ↦ reaches-on g source a c k (subst (λ i. Needs g i a) (sym here) needs) (s.comes a k d.from_inside other)
          ]
      | inr there ↦ s.comes c k below (keeps-bits masks a b c k within (λ e. absurd (there e)) bit)
    ]

    settled' : (i : ℕ) → i < length g.edges →
        ((from g.edges i ≡ a) × (i < h))
        ⊎ (Contains more (from g.edges i) ⊎ Covers (set masks b (bit_or (get_or masks b 0) (get_or masks a 0)))
        (from g.edges i) (to g.edges i))
    settled' i below = elim (s.settled i below) [
      | inl (same, low) ↦ elim (cases_eq i (at - 1)) [
        | inl here ↦ inr (inr (λ k bit.
            subst (λ x. IsBitSet (get_or (set masks b (bit_or (get_or masks b 0) (get_or masks a 0))) x 0) k) (d.to_is
            ∙ ap (to g.edges) (sym here))
            (takes masks a b k within
            (subst (λ x. IsBitSet (get_or (set masks b (bit_or (get_or masks b 0) (get_or masks a 0))) x 0) k) same
            bit))))
        | inr there ↦ elim (cases_lt i h) [
          | inl before ↦ inl (same, before)
          | inr high ↦ absurd (d.last.none i high (omega arith) same)
        ]
      ]
      | inr (inl waits) ↦ inr (inl (keeps (from g.edges i) waits))
      | inr (inr covers) ↦ elim (cases_eq (from g.edges i) b) [
        | inl here ↦ elim grown [
          | inl waits ↦ inr (inl (subst (Contains more) (sym here) waits))
          | inr full ↦
              inr (inr
              (λ k bit. grows masks a b (to g.edges i) k within
              (covers k (keeps-bits masks a b (from g.edges i) k within (λ _. full) bit))))
        ]
        | inr there ↦
            inr (inr
            (λ k bit. grows masks a b (to g.edges i) k within
            (covers k (keeps-bits masks a b (from g.edges i) k within (λ e. absurd (there e)) bit))))
      ]
    ]

-- masks that take bits up sum to no less, and to more where one grew
pub sum-grows : (masks : List ℕ) (a b : ℕ) → b < length masks →
    sum_by (λ mask. mask) masks ≤ sum_by (λ mask. mask) (set masks b (bit_or (get_or masks b 0) (get_or masks a 0)))
sum-grows masks a b within = let e =
    sum_by-set (λ (mask : ℕ). mask) masks b (bit_or (get_or masks b 0) (get_or masks a 0)) 0 within in let l =
    le_or_l (get_or masks b 0) (get_or masks a 0) in omega arith

pub sum-grows_more : (masks : List ℕ) (a b : ℕ) → b < length masks → (bit_or (get_or masks b 0) (get_or masks a 0) ≡ get_or masks b 0 → ⊥) →
    sum_by (λ mask. mask) masks + 1 ≤ sum_by (λ mask. mask) (set masks b (bit_or (get_or masks b 0) (get_or masks a 0)))
sum-grows_more masks a b within grew = let e =
    sum_by-set (λ (mask : ℕ). mask) masks b (bit_or (get_or masks b 0) (get_or masks a 0)) 0 within in let l =
    le_or_l (get_or masks b 0) (get_or masks a 0) in
    let ne : bit_or (get_or masks b 0) (get_or masks a 0) ≢ get_or masks b 0 = grew in omega arith

-- what the loop along the edges from node a keeps
pub record SpreadLoop (g : NeedsGraph) (a at : ℕ) (old waited masks waiting : List ℕ) : Type 0 where
  pub below : at ≤ length g.edges
  pub from_is : 0 < at → from g.edges (at - 1) ≡ a
  pub spread : (source : List ℕ) → IsSpread g source old (waited ++ a ∷ []) 0 0 → IsSpread g source masks waiting a at
  pub grown : length waiting + sum_by (λ mask. mask) old ≤ length waited + sum_by (λ mask. mask) masks

pub spread_begins : (g : NeedsGraph) (a at : ℕ) (masks waiting last before : List ℕ) → AreChains g last before →
    a < g.n → at ≡ get_or last a at →
    SpreadLoop g a at masks waiting masks waiting
spread_begins g a at masks waiting last before chains within read = record {
  below = subst (λ h. h ≤ length g.edges) (sym same) (chains.is_last a within).bound;
  from_is = subst (λ h. 0 < h → from g.edges (h - 1) ≡ a) (sym same) (chains.is_last a within).leads;
  spread =
      λ source s. subst (λ h. IsSpread g source masks waiting a h) (sym same)
      (take-up g source masks waiting last before a chains within s);
  grown = omega arith;
}
  where
    same : at ≡ get_or last a 0
    same = read ∙ get_or_default last a at 0 (let e = chains.last_len in omega arith)

-- the waiting list after an edge, by whether the mask of b grew
abbrev pub WaitsIfGrown : List ℕ → List ℕ → List ℕ → ℕ → ℕ → Type 0
WaitsIfGrown masks waiting more a b =
    ((more ≡ waiting ++ b ∷ []) × (bit_or (get_or masks b 0) (get_or masks a 0) ≡ get_or masks b 0 → ⊥))
    ⊎ ((more ≡ waiting) × (bit_or (get_or masks b 0) (get_or masks a 0) ≡ get_or masks b 0))

module _ (g : NeedsGraph) (inside : IsGraph g) (last before : List ℕ) (chains : AreChains g last before) (a b at h : ℕ)
    (old waited masks waiting more : List ℕ)
    (within : a < g.n) (len : length masks ≡ g.n) (above : 0 < at) (to_is : b ≡ to g.edges (at - 1)) (read : h ≡ get_or before (at - 1) h)
    (l : SpreadLoop g a at old waited masks waiting) where
  below : at - 1 < length g.edges
  below = let b = l.below in omega arith

  last-is : IsLast g.edges a (at - 1) h
  last-is = subst (λ x. IsLast g.edges x (at - 1) h) (l.from_is above)
      (subst (λ x. IsLast g.edges (from g.edges (at - 1)) (at - 1) x)
      (sym (read ∙ get_or_default before (at - 1) h 0 (let e = chains.before_len in let b = below in omega arith)))
      (chains.is_before (at - 1) below))

  edge : IsEdgeStep g a b at h
  edge = record {
    above = above;
    below = l.below;
    from_is = sym (l.from_is above);
    to_is = to_is;
    last = last-is;
    from_inside = within;
    inside = subst (λ x. x < g.n) (sym to_is) (edge-inside g (at - 1) inside below).1;
  }

  b-in : b < length masks
  b-in = let i = edge.inside in omega arith

  spread-on : (source : List ℕ) → WaitsIfGrown masks waiting more a b → IsSpread g source masks waiting a at →
      IsSpread g source (set masks b (bit_or (get_or masks b 0) (get_or masks a 0))) more a h
  spread-on source (inl (pushed, grew)) s = step g source masks waiting more a b at h edge s
      (λ c k. subst (λ xs. Contains xs c) (sym pushed) (Contains-append_left waiting (b ∷ []) c k))
      (subst (λ xs. All (λ c. c < g.n) xs) (sym pushed) (All-push (λ c. c < g.n) waiting b s.are_nodes edge.inside))
      (inl (subst (λ xs. Contains xs b) (sym pushed) (Contains-push waiting b)))
  spread-on source (inr (same, full)) s = step g source masks waiting more a b at h edge s
      (λ c k. subst (λ xs. Contains xs c) (sym same) k) (subst (λ xs. All (λ c. c < g.n) xs) (sym same) s.are_nodes) (inr full)

  grown-on : WaitsIfGrown masks waiting more a b → length more + sum_by (λ mask. mask) old ≤ length waited
      + sum_by (λ mask. mask) (set masks b (bit_or (get_or masks b 0) (get_or masks a 0)))
  grown-on (inl (pushed, grew)) = let m = sum-grows_more masks a b b-in grew in let k = l.grown in
      let e : length more ≡ length waiting + 1 = ap length pushed ∙ length-append waiting (b ∷ []) in omega arith
  grown-on (inr (same, full)) = let m = sum-grows masks a b b-in in let k = l.grown in
      let e : length more ≡ length waiting = ap length same in omega arith

  pub spread_step : WaitsIfGrown masks waiting more a b →
      SpreadLoop g a h old waited (set masks b (bit_or (get_or masks b 0) (get_or masks a 0))) more
  spread_step waits = record {
    below = (let e = last-is.bound in let b = below in omega arith);
    from_is = last-is.leads;
    spread = λ source s. spread-on source waits (l.spread source s);
    grown = grown-on waits;
  }

-- where no edge from a is left
pub all_done : (g : NeedsGraph) (source masks waiting : List ℕ) (a at : ℕ) → at ≤ 0 →
    IsSpread g source masks waiting a at → IsSpread g source masks waiting 0 0
all_done g source masks waiting a at none s = record {
  len = s.len;
  fits = s.fits;
  are_nodes = s.are_nodes;
  begins = s.begins;
  comes = s.comes;
  settled = λ e below. elim (s.settled e below) [
    | inl (same, low) ↦ absurd (omega arith)
    | inr done ↦ inr done
  ];
}

-- with no node waiting, the bits have come along every walk
module _ (g : NeedsGraph) (source masks waiting : List ℕ) (s : IsSpread g source masks waiting 0 0) (empty : length waiting ≡ 0) where
  came : (b a : ℕ) → Needs g b a → Covers masks a b
  came b a (e, below, same) k bit = elim (s.settled e below) [
    | inl (here, low) ↦ absurd (omega arith)
    | inr (inl (i, none, there)) ↦ absurd (omega arith)
    | inr (inr covers) ↦ subst (λ x. IsBitSet (get_or masks x 0) k) (ap (λ (p : ℕ × ℕ). p.1) at)
        (covers k (subst (λ x. IsBitSet (get_or masks x 0) k) (sym (ap (λ (p : ℕ × ℕ). p.0) at)) bit))
  ]
    where
      at : get_or g.edges e (0, 0) ≡ (a, b)
      at = get_or_default g.edges e (0, 0) (a, b) below ∙ same

  along : (b : ℕ) (path : List ℕ) (a : ℕ) → Walk g b path a → Covers masks a b
  along b [] a needs k bit = came b a needs k bit
  along b (c ∷ path) a walk k bit = came b c walk.0 k (along c path a walk.1 k bit)

  reached : (b k : ℕ) → ReachesWithBit g source b k → IsBitSet (get_or masks b 0) k
  reached b k (a, below, inl same, bit) = subst (λ x. IsBitSet (get_or masks x 0) k) same (s.begins a k below bit)
  reached b k (a, below, inr (path, walk), bit) = along b path a walk k (s.begins a k below bit)

  pub finish : AreMasks g source masks
  finish = record { len = s.len; bits = λ b k below. (s.comes b k below, reached b k) }

pub nodes_step : (n a : ℕ) (nodes more : List ℕ) → a < n → more ≡ nodes ++ a ∷ [] →
    All (λ b. b < n) nodes × ((b : ℕ) → b < a → Contains nodes b) →
    All (λ b. b < n) more × ((b : ℕ) → b < a + 1 → Contains more b)
nodes_step n a nodes more below pushed h = (
  subst (λ xs. All (λ b. b < n) xs) (sym pushed) (All-push (λ b. b < n) nodes a h.0 below),
  λ b low. subst (λ xs. Contains xs b) (sym pushed) (elim (cases_eq b a) [
    | inl here ↦ subst (λ x. Contains (nodes ++ a ∷ []) x) (sym here) (Contains-push nodes a)
    | inr there ↦ Contains-append_left nodes (a ∷ []) b (h.1 b (omega arith))
  ]),
)

pub sum-bound : (n : ℕ) (masks : List ℕ) → length masks ≡ n → All (λ mask. mask < 2 ^ 64) masks → sum_by (λ mask. mask) masks ≤ n * 2 ^ 64
sum-bound n masks len all =
    subst (λ m. sum_by (λ mask. mask) masks ≤ m * 2 ^ 64) len
    (sum_by-le (λ (mask : ℕ). mask) (2 ^ 64) masks (λ k d below. le_of_lt (all k d below)))

-- the measure of the loop: what the masks can still grow by, and the nodes that wait
pub measure-falls : (n sum more waiting left rest : ℕ) → more ≤ n * 2 ^ 64 → waiting + sum ≤ rest + more →
    rest + 1 ≡ left → (n * 2 ^ 64 - more) + waiting < (n * 2 ^ 64 - sum) + left
measure-falls n sum more waiting left rest bound grown popped = omega arith
