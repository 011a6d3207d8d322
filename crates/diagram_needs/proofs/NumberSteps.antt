-- Rows that get their number of steps, edge by edge and row by row.
use Rattle.std.specs.Prelude.{◌≡◌, ℕ, zero, suc, ◌-◌, ◌<◌, ◌≤◌, ◌↔◌, List, [], ◌∷◌, ◌++◌, length, Contains, ◌⊎◌, refl}
use Rattle.std.proofs.Common.{cond, eqb, get_or, set, sym, ap, subst, ◌∙◌, arith, inl, inr, length-set, get_or-set_same, get_or-set_other}
use Rattle.std.proofs.lemmas.Bool.{eq-eqb, ne_eqb}
use Rattle.std.proofs.lemmas.List.{get_or_default, get_or_past}
use Rattle.std.proofs.lemmas.List.Elements.{Contains-push, Contains-push_cases, Contains-append_left}
use Rattle.std.proofs.lemmas.List.Sums.{sum_by-set}
use Rattle.base_graph.specs.NeedsGraph.{NeedsGraph, IsGraph}
use Rattle.base_graph.specs.EdgeChains.{from, to, IsLast, AreChains}
use Rattle.diagram_needs.specs.Levels.{AreLevels, IsFront, IsLookedAt, IsNumbering, unreached}
use Rattle.diagram_needs.specs.Needed.{needed}
use Rattle.diagram_needs.proofs.BlockSteps.{edge-inside}
use Rattle.diagram_needs.proofs.Comparing.{le-or-above}
use Rattle.diagram_needs.proofs.LevelSteps.{IsAdvancing, edge-at}

-- a row without a number gets it and is listed, or it has one
abbrev pub Gets : ℕ → (steps next later listed : List ℕ) → ℕ → Type 0
Gets number steps next later listed b =
    ((get_or steps b 0 ≡ 0) × (later ≡ set steps b number) × (listed ≡ next ++ b ∷ []))
    ⊎ ((0 < get_or steps b 0) × (later ≡ steps) × (listed ≡ next))

-- ---- One edge

module _ (g : NeedsGraph) (number : ℕ) (positive : 0 < number) (front before steps next : List ℕ) (i place p h a b : ℕ)
    (at : place ≡ suc p) (inside : p < length g.edges) (leads : from g.edges p ≡ a) (goes : b ≡ to g.edges p)
    (in_front : i < length front) (own : get_or front i 0 ≡ a) (chain : IsLast g.edges (from g.edges p) p h)
    (num : IsNumbering g number front before steps next i place) where
  -- what is looked at from place h on
  looked : (e : ℕ) → IsLookedAt g.edges front i h e → (e ≡ p) ⊎ IsLookedAt g.edges front i place e
  looked e (inl earlier) = inr (inl earlier)
  looked e (inr (from_h, same)) = elim (le-or-above place e) [
    | inl behind ↦ inr (inr (behind, same))
    | inr up ↦ elim (le-or-above p e) [
      | inl last ↦ inl (omega arith)
      | inr between ↦ absurd (chain.none e from_h between (sym same ∙ own ∙ sym leads))
    ]
  ]

  pub number-pass : 0 < get_or steps b 0 → IsNumbering g number front before steps next i h
  number-pass there = record {
    len = num.len;
    kept = num.kept;
    fresh = num.fresh;
    listed = num.listed;
    done = λ e below is. elim (looked e is) [
      | inl same ↦ subst (λ n. 0 < get_or steps n 0) (goes ∙ ap (to g.edges) (sym same)) there
      | inr was ↦ num.done e below was
    ];
    moved = num.moved;
  }

  module _ (free : get_or steps b 0 ≡ 0) (in_list : b < length steps) where
    same-at : get_or (set steps b number) b 0 ≡ number
    same-at = get_or-set_same steps b number 0 in_list

    cases : (c : ℕ) → (c ≡ b) ⊎ (get_or (set steps b number) c 0 ≡ get_or steps c 0)
    cases c = elim (le-or-above c b) [
      | inl low ↦ elim (le-or-above b c) [
        | inl high ↦ inl (omega arith)
        | inr below ↦ inr (get_or-set_other steps b c number 0 (λ e. omega arith))
      ]
      | inr above ↦ inr (get_or-set_other steps b c number 0 (λ e. omega arith))
    ]

    here-at : (c : ℕ) → c ≡ b → get_or (set steps b number) c 0 ≡ number
    here-at c same = ap (λ n. get_or (set steps b number) n 0) same ∙ same-at

    grows : (c : ℕ) → 0 < get_or steps c 0 → 0 < get_or (set steps b number) c 0
    grows c some = elim (cases c) [
      | inl same ↦ let e = here-at c same in omega arith
      | inr other ↦ omega arith
    ]

    fewer : unreached (set steps b number) < unreached steps
    fewer =
        let e = sum_by-set (λ count. cond (eqb count 0) 1 0) steps b number 0 in_list in
        let one : cond {A = ℕ} (eqb (get_or steps b 0) 0) 1 0 ≡ 1 = ap (λ t. cond {A = ℕ} t 1 0) (eq-eqb (get_or steps b 0) 0 free) in
        let none : cond {A = ℕ} (eqb number 0) 1 0 ≡ 0 = ap (λ t. cond {A = ℕ} t 1 0) (ne_eqb number 0 (λ q. omega arith)) in
        omega (arith, e, one, none)

    edge-of : (c : ℕ) → c ≡ b → Contains g.edges (a, c)
    edge-of c same =
        subst (λ n. Contains g.edges (n, c)) leads
        (subst (λ n. Contains g.edges (from g.edges p, n)) (sym (same ∙ goes)) (edge-at g.edges p inside))

    pub number-take : IsNumbering g number front before (set steps b number) (next ++ b ∷ []) i h
    number-take = record {
      len = length-set steps b number ∙ num.len;
      kept = λ c some. elim (cases c) [
        | inl same ↦ absurd (let e : get_or steps c 0 ≡ 0 = ap (λ n. get_or steps n 0) same ∙ free in
            let was = num.kept c some in omega arith)
        | inr other ↦ other ∙ num.kept c some
      ];
      fresh = λ c some. elim (cases c) [
        | inl same ↦ inr (
          here-at c same,
          subst (λ n. Contains (next ++ b ∷ []) n) (sym same) (Contains-push next b),
          (a, edge-of c same, (i, in_front, get_or_default front i a 0 in_front ∙ own)),
        )
        | inr other ↦ elim (num.fresh c (omega arith)) [
          | inl was ↦ inl was
          | inr now ↦ inr (other ∙ now.0, Contains-append_left next (b ∷ []) c now.1, now.2)
        ]
      ];
      listed = λ c is. elim (cases c) [
        | inl same ↦ here-at c same
        | inr other ↦ elim (Contains-push_cases next b c is) [
          | inl was ↦ other ∙ num.listed c was
          | inr now ↦ here-at c (sym now)
        ]
      ];
      done = λ e below is. elim (looked e is) [
        | inl same ↦ let q = here-at (to g.edges e) (ap (to g.edges) same ∙ sym goes) in omega arith
        | inr was ↦ grows (to g.edges e) (num.done e below was)
      ];
      moved = inr (elim num.moved [
        | inl same ↦ let f = fewer in let s : unreached steps ≡ unreached before = ap unreached same in omega (arith, f, s)
        | inr less ↦ let f = fewer in omega (arith, f, less)
      ]);
    }

-- ---- The edges from one row

-- the edges from row a are looked at down to a place
pub record NumberLoop (g : NeedsGraph) (a number place : ℕ) (old first steps next : List ℕ) : Type 0 where
  pub below : place ≤ length g.edges
  pub leads : 0 < place → from g.edges (place - 1) ≡ a
  pub numbers : (front before : List ℕ) (i : ℕ) → i < length front → get_or front i 0 ≡ a →
      IsNumbering g number front before old first i (length g.edges) →
      IsNumbering g number front before steps next i place

module _ (g : NeedsGraph) (last chained : List ℕ) (chains : AreChains g last chained) (a number : ℕ) where
  pub number_begins : (place : ℕ) (steps next : List ℕ) → a < g.n → place ≡ get_or last a place →
      NumberLoop g a number place steps next steps next
  number_begins place steps next row read = record {
    below = (let l = is.bound in let e = at in omega arith);
    leads = λ some. ap (λ n. from g.edges (n - 1)) at ∙ is.leads (let e = at in omega arith);
    numbers = begins;
  }
    where
      at : place ≡ get_or last a 0
      at = read ∙ get_or_default last a place 0 (let l = chains.last_len in omega arith)

      is : IsLast g.edges a (length g.edges) (get_or last a 0)
      is = chains.is_last a row

      begins : (front before : List ℕ) (i : ℕ) → i < length front → get_or front i 0 ≡ a →
          IsNumbering g number front before steps next i (length g.edges) →
          IsNumbering g number front before steps next i place
      begins front before i below own num = record {
        len = num.len;
        kept = num.kept;
        fresh = num.fresh;
        listed = num.listed;
        done = λ e inside looked. elim looked [
          | inl earlier ↦ num.done e inside (inl earlier)
          | inr later ↦ absurd (is.none e (let l = later.0 in let q = at in omega arith) inside (sym later.1 ∙ own))
        ];
        moved = num.moved;
      }

  pub number_goes_on : IsGraph g → 0 < number → (place h b : ℕ) (old first steps next later listed : List ℕ) →
      length steps ≡ g.n → 0 < place → b ≡ to g.edges (place - 1) →
      h ≡ get_or chained (place - 1) h → NumberLoop g a number place old first steps next →
      Gets number steps next later listed b → NumberLoop g a number h old first later listed
  number_goes_on graph positive place h b old first steps next later listed len some goes read loop gets = record {
    below = (let l = is.bound in let e = at in let m = inside in omega arith);
    leads = λ more. ap (λ n. from g.edges (n - 1)) at ∙ is.leads (let e = at in omega arith) ∙ loop.leads some;
    numbers = λ front before i in_front own num. by front before i in_front own (loop.numbers front before i in_front own num) gets;
  }
    where
      inside : place - 1 < length g.edges
      inside = let l = loop.below in omega arith

      at : h ≡ get_or chained (place - 1) 0
      at = read ∙ get_or_default chained (place - 1) h 0 (let l = chains.before_len in omega arith)

      is : IsLast g.edges (from g.edges (place - 1)) (place - 1) (get_or chained (place - 1) 0)
      is = chains.is_before (place - 1) inside

      in_list : b < length steps
      in_list = let below =
          (edge-inside g.n g.edges graph (from g.edges (place - 1)) (to g.edges (place - 1))
          (edge-at g.edges (place - 1) inside)).1 in omega arith

      by : (front before : List ℕ) (i : ℕ) → i < length front → get_or front i 0 ≡ a →
          IsNumbering g number front before steps next i place → Gets number steps next later listed b →
          IsNumbering g number front before later listed i h
      by front before i in_front own num (inl (free, set_is, listed_is)) =
          subst (λ xs. IsNumbering g number front before xs listed i h) (sym set_is)
          (subst (λ ys. IsNumbering g number front before (set steps b number) ys i h) (sym listed_is)
          (number-take g number positive front before steps next i place (place - 1) h a b (omega arith) inside
          (loop.leads some) goes in_front own
          (subst (IsLast g.edges (from g.edges (place - 1)) (place - 1)) (sym at) is) num free in_list))
      by front before i in_front own num (inr (there, same, as_before)) =
          subst (λ xs. IsNumbering g number front before xs listed i h) (sym same)
          (subst (λ ys. IsNumbering g number front before steps ys i h) (sym as_before)
          (number-pass g number positive front before steps next i place (place - 1) h a b (omega arith) inside
          (loop.leads some) goes in_front own
          (subst (IsLast g.edges (from g.edges (place - 1)) (place - 1)) (sym at) is) num there))

  pub number_ends : (place : ℕ) (old first steps next : List ℕ) → place ≤ 0 → NumberLoop g a number place old first steps next →
      (front before : List ℕ) (i : ℕ) → i < length front → get_or front i 0 ≡ a →
      IsNumbering g number front before old first i (length g.edges) →
      IsNumbering g number front before steps next (suc i) (length g.edges)
  number_ends place old first steps next none loop front before i below own num = by (loop.numbers front before i below own num)
    where
      by : IsNumbering g number front before steps next i place → IsNumbering g number front before steps next (suc i) (length g.edges)
      by num = record {
        len = num.len;
        kept = num.kept;
        fresh = num.fresh;
        listed = num.listed;
        done = λ e inside looked. elim looked [
          | inl earlier ↦ elim (le-or-above i earlier.0) [
            | inl now ↦ let same : earlier.0 ≡ i = (let l = earlier.1 in omega arith) in
                num.done e inside (inr ((let l = none in omega arith), subst (λ j. get_or front j 0 ≡ from g.edges e) same earlier.2))
            | inr before ↦ num.done e inside (inl (earlier.0, before, earlier.2))
          ]
          | inr later ↦ absurd (let l = later.0 in omega arith)
        ];
        moved = num.moved;
      }

-- ---- All rows in front

module _ (g : NeedsGraph) (number : ℕ) (front before : List ℕ) where
  pub front-begins : IsNumbering g number front before before [] 0 (length g.edges)
  front-begins = record {
    len = refl;
    kept = λ b some. refl;
    fresh = λ b some. inl some;
    listed = λ b is. absurd (let l = is.1 in omega arith);
    done = λ e inside looked. elim looked [
      | inl earlier ↦ absurd (let l = earlier.1 in omega arith)
      | inr later ↦ absurd (let l = later.0 in omega arith)
    ];
    moved = inl refl;
  }

  module _ (z k : ℕ) (steps next : List ℕ) (i : ℕ) (all : i ≡ length front) (next_number : number ≡ suc k)
      (levels : AreLevels (needed g) z k before) (exact : IsFront z k before front)
      (num : IsNumbering g number front before steps next i (length g.edges)) where
    pub front-advances : IsAdvancing g.edges z k before steps (length g.edges)
    front-advances = record {
      len = num.len;
      kept = num.kept;
      fresh = λ b some. elim (num.fresh b some) [
        | inl was ↦ inl was
        | inr now ↦ inr (now.0 ∙ next_number, (now.2.0, now.2.1, (exact now.2.0).0 now.2.2))
      ];
      done = λ e inside at.
          let c = (exact (from g.edges e)).1 at in
          num.done e inside (inl (c.0, (let l = c.1 in omega arith), get_or_default front c.0 0 (from g.edges e) c.1 ∙ c.2));
      moved = num.moved;
    }

    pub next-exact : IsFront z (suc k) steps next
    next-exact b = (
      λ is. num.listed b is ∙ next_number,
      λ at. elim (num.fresh b (omega arith)) [
        | inl was ↦ absurd (let e = num.kept b was in let l = (levels.walks b was).0 in omega arith)
        | inr now ↦ now.1
      ],
    )

-- ---- All levels

pub front-first : (z : ℕ) (steps front : List ℕ) → front ≡ z ∷ [] → IsFront z 0 steps front
front-first z steps front e a = subst (λ xs. Contains xs a ↔ (a ≡ z)) (sym e) (
  λ is. elim (Contains-push_cases [] z a is) [ inl none ↦ absurd (let l = none.1 in omega arith) | inr same ↦ sym same ],
  λ same. subst (λ n. Contains (z ∷ []) n) (sym same) (Contains-push [] z),
)

pub front-inside : (n z k : ℕ) (steps front : List ℕ) → z < n → length steps ≡ n → IsFront z k steps front → (a : ℕ) →
    Contains front a → a < n
front-inside n z zero steps front below len exact a is = let same = (exact a).0 is in omega arith
front-inside n z (suc k) steps front below len exact a is = elim (le-or-above n a) [
  | inl past ↦ absurd (let none = get_or_past steps a 0 (omega arith) in let some = (exact a).0 is in omega arith)
  | inr inside ↦ inside
]
