-- How an order grows by the least ready node, and what holds when none is ready.
use Rattle.std.proofs.Common.{◌≡◌, ℕ, zero, suc, ◌+◌, ◌<◌, ◌≤◌, ◌⊎◌, ◌↔◌, false, eqb, List, [], ◌∷◌, ◌++◌, length, get_or, Contains, refl, sym, ap, subst, ◌∙◌, arith, inl, inr, true≢false}
use Rattle.std.specs.List.{list_any}
use Rattle.std.proofs.lemmas.Bool.{cases_lt, cases_Bool}
use Rattle.std.proofs.lemmas.Cmp.{nat_eq_equiv}
use Rattle.std.proofs.lemmas.Map.Views.{Contains-from_any, list_any-from_Contains, exact_unsigned_eq}
use Rattle.std.proofs.lemmas.List.Elements.{Contains-push, Contains-push_cases, Contains-append_left}
use Rattle.base_graph.specs.NeedsGraph.{NeedsGraph, IsGraph, Needs}
use Rattle.base_graph.specs.OneOrder.{IsNext}
use Rattle.base_graph.specs.Counts.{edges_between, unmet_needs}
use Rattle.base_graph.specs.Placing.{AreUnmet, IsPlacing, ArePlaced, IsBlocked}
use Rattle.base_graph.proofs.Counts.{unmet-placed, unmet-need, needs-met, none-unmet, far-none}
use Rattle.base_graph.proofs.Orders.{follows-push}

cons-cases : (x : ℕ) (rest : List ℕ) (b : ℕ) → Contains (x ∷ rest) b → (x ≡ b) ⊎ Contains rest b
cons-cases x rest b (zero, below, same) = inl same
cons-cases x rest b (suc k, below, same) = inr (k, omega arith, same)

cons-there : (x : ℕ) (rest : List ℕ) (b : ℕ) → Contains rest b → Contains (x ∷ rest) b
cons-there x rest b (k, below, same) = (suc k, omega arith, same)

is-missing : (xs : List ℕ) (x : ℕ) → (Contains xs x → ⊥) → list_any (eqb x) xs ≡ false
is-missing xs x none = elim (cases_Bool (list_any (eqb x) xs)) [
  | inl there ↦ absurd (none (Contains-from_any exact_unsigned_eq x xs there))
  | inr missing ↦ missing
]

pub place_begins : (g : NeedsGraph) (unmet ready : List ℕ) → AreUnmet g [] unmet →
    ((b : ℕ) → Contains ready b ↔ ((b < g.n) × (get_or unmet b 0 ≡ 0))) → IsPlacing g [] unmet ready
place_begins g unmet ready counted all = record {
  follows = tt;
  are_unmet = counted;
  are_ready = λ b. (λ h. let r = (all b).0 h in (r.0, r.1, nothing b), λ h. (all b).1 (h.0, h.1));
  are_done = λ b h. absurd (nothing b h);
}
  where
    nothing : (b : ℕ) → Contains [] b → ⊥
    nothing b (k, below, same) = omega arith

module _ (g : NeedsGraph) (inside : IsGraph g) (placed unmet ready : List ℕ) (p : IsPlacing g placed unmet ready) where
  -- where nothing is ready
  module _ (empty : ready ≡ []) where
    not-ready : (b : ℕ) → Contains ready b → ⊥
    not-ready b h = nothing (subst (λ xs. Contains xs b) empty h)
      where
        nothing : Contains [] b → ⊥
        nothing (k, below, same) = omega arith

    is-placed : (b : ℕ) → b < g.n → get_or unmet b 0 ≡ 0 → Contains placed b
    is-placed b below none = elim (cases_Bool (list_any (eqb b) placed)) [
      | inl there ↦ Contains-from_any exact_unsigned_eq b placed there
      | inr missing ↦
          absurd (not-ready b
          ((p.are_ready b).1 (
            below,
            none,
            λ h. true≢false (sym (list_any-from_Contains nat_eq_equiv b placed h)
                ∙ missing),
          )))
    ]

    blocked : (b : ℕ) → IsBlocked g unmet b → (a : ℕ) × Needs g b a × IsBlocked g unmet a
    blocked b (below, above) =
        let n = unmet-need g placed b inside (subst (λ m. 0 < m) (p.are_unmet.counts b below) above) in (
          n.0,
          n.1,
          (
            n.2,
            elim (cases_lt 0 (get_or unmet n.0 0)) [
              | inl some ↦ some
              | inr none ↦
                  absurd (true≢false
                  (sym (list_any-from_Contains nat_eq_equiv n.0 placed (is-placed n.0 n.2 (omega arith))) ∙ n.3))
            ],
          ),
        )

    pub place_ends : ArePlaced g placed unmet
    place_ends = record {
      len = p.are_unmet.len;
      is_order = λ all. record { has_all = λ b below. is-placed b below (all b below); is_least_first = p.follows };
      blocked_needs = blocked;
    }

  -- the least ready node is placed
  module _ (x : ℕ) (rest : List ℕ) (head : ready ≡ x ∷ rest) (least : (c : ℕ) → Contains rest c → x < c) where
    is-ready : (x < g.n) × (get_or unmet x 0 ≡ 0) × (Contains placed x → ⊥)
    is-ready = (p.are_ready x).0 (subst (λ xs. Contains xs x) (sym head) (0, omega arith, refl))

    pub node-ready : x < g.n
    node-ready = is-ready.0

    counted : (b : ℕ) → b < g.n → get_or unmet b 0 ≡ unmet_needs g.edges (placed ++ x ∷ []) b + edges_between g.edges x b
    counted b below = p.are_unmet.counts b below ∙ unmet-placed placed x b (is-missing placed x is-ready.2) g.edges

    pub enough : (b : ℕ) → edges_between g.edges x b ≤ get_or unmet b 0
    enough b = elim (cases_lt b g.n) [
      | inl below ↦ (let e = counted b below in omega arith)
      | inr far ↦ (let e = far-none g x b inside far in omega arith)
    ]

    next : IsNext g placed x
    next = record {
      may_stand =
          record {
            is_node = is-ready.0;
            is_new = is-ready.2;
            needs_placed = λ a. needs-met g placed x a (sym (p.are_unmet.counts x is-ready.0) ∙ is-ready.1);
          };
      is_least =
          λ c may.
          elim (cons-cases x rest c
          (subst (λ xs. Contains xs c) head
          ((p.are_ready c).1 (
            may.is_node,
            p.are_unmet.counts c may.is_node
                ∙ none-unmet g placed c inside may.needs_placed,
            may.is_new,
          )))) [
            | inl same ↦ omega arith
            | inr later ↦ (let l = least c later in omega arith)
          ];
    }

    module _ (left more : List ℕ) (len : length left ≡ g.n) (taken : (b : ℕ) →
        get_or left b 0 + edges_between g.edges x b ≡ get_or unmet b 0)
        (more-is : (b : ℕ) → Contains more b ↔ (Contains rest b ⊎ ((0 < edges_between g.edges x b) × (get_or left b 0 ≡ 0)))) where
      new-in : (b : ℕ) → Contains more b → (b < g.n) × (get_or left b 0 ≡ 0) × (Contains (placed ++ x ∷ []) b → ⊥)
      new-in b h = elim ((more-is b).0 h) [
        | inl old ↦ (let r = (p.are_ready b).0 (subst (λ xs. Contains xs b) (sym head) (cons-there x rest b old)) in (
          r.0,
          (let t = taken b in let z = r.1 in omega arith),
          λ k. elim (Contains-push_cases placed x b k) [
            | inl there ↦ r.2 there
            | inr here ↦ (let l = least b old in omega arith)
          ],
        ))
        | inr (some, none) ↦ (
          elim (cases_lt b g.n) [ inl below ↦ below | inr far ↦ absurd (let e = far-none g x b inside far in omega arith) ],
          none,
          λ k. elim (Contains-push_cases placed x b k) [
            | inl there ↦ (let d = (p.are_done b there).1 in let t = taken b in omega arith)
            | inr here ↦ (let d : get_or unmet b 0 ≡ 0 = ap (λ i. get_or unmet i 0) (sym here) ∙ is-ready.1 in
                let t = taken b in omega arith)
          ],
        )
      ]

      new-out : (b : ℕ) → (b < g.n) × (get_or left b 0 ≡ 0) × (Contains (placed ++ x ∷ []) b → ⊥) → Contains more b
      new-out b (below, none, missing) = (more-is b).1 (elim (cases_lt 0 (edges_between g.edges x b)) [
        | inl some ↦ inr (some, none)
        | inr nil ↦
            inl (elim
            (cons-cases x rest b
            (subst (λ xs. Contains xs b) head
            ((p.are_ready b).1 (
              below,
              (let t = taken b in omega arith),
              λ k. missing (Contains-append_left placed (x ∷ []) b k),
            )))) [
              | inl here ↦ absurd (missing (subst (λ i. Contains (placed ++ x ∷ []) i) here (Contains-push placed x)))
              | inr there ↦ there
            ])
      ])

      pub place_step : IsPlacing g (placed ++ x ∷ []) left more
      place_step = record {
        follows = follows-push g [] placed x p.follows next;
        are_unmet = record { len = len; counts = λ b below. let t = taken b in let c = counted b below in omega arith };
        are_ready = λ b. (new-in b, new-out b);
        are_done = λ b h. elim (Contains-push_cases placed x b h) [
          | inl there ↦ (let d = p.are_done b there in (d.0, (let t = taken b in let z = d.1 in omega arith)))
          | inr here ↦ (
            subst (λ i. i < g.n) here is-ready.0,
            (let d : get_or unmet b 0 ≡ 0 = ap (λ i. get_or unmet i 0) (sym here) ∙ is-ready.1 in let t = taken b in
                omega arith),
          )
        ];
      }
