-- The needs of one placed node are taken from the counts, an edge at a time.
use Rattle.std.proofs.Common.{◌≡◌, ℕ, ◌+◌, ◌-◌, ◌<◌, ◌≤◌, ◌⊎◌, ◌↔◌, cond, eqb, List, length, get_or, take, set, Contains, sum_by, refl, sym, ap, subst, ◌∙◌, arith, inl, inr, length-set, get_or-set_same, get_or-set_other, add-zero}
use Rattle.std.proofs.lemmas.Bool.{cases_eq, eq-eqb, ne_eqb}
use Rattle.std.proofs.lemmas.List.{get_or_default}
use Rattle.std.proofs.lemmas.List.Sums.{sum_by-set}
use Rattle.base_graph.specs.NeedsGraph.{NeedsGraph, IsGraph}
use Rattle.base_graph.specs.EdgeChains.{from, to, IsLast, AreChains}
use Rattle.base_graph.specs.Counts.{edges_between}
use Rattle.base_graph.proofs.ChainSteps.{edge-inside}
use Rattle.base_graph.proofs.Counts.{between-all, between-step, between-take-le}

-- what the loop along the edges from node x keeps
pub record ReleaseLoop (g : NeedsGraph) (x at : ℕ) (old was unmet ready : List ℕ) : Type 0 where
  pub below : at ≤ length g.edges
  pub from_is : 0 < at → from g.edges (at - 1) ≡ x
  pub len : length unmet ≡ g.n
  pub enough : (b : ℕ) → edges_between g.edges x b ≤ get_or old b 0
  pub counts : (b : ℕ) → get_or unmet b 0 + edges_between g.edges x b ≡ get_or old b 0 + edges_between (take at g.edges) x b
  pub are_ready : (b : ℕ) →
      Contains ready b
      ↔ (Contains was b ⊎ ((edges_between (take at g.edges) x b < edges_between g.edges x b) × (get_or unmet b 0 ≡ 0)))
  pub falls : length ready + sum_by (λ count. count) unmet ≤ length was + sum_by (λ count. count) old

pub release_begins : (g : NeedsGraph) (x at : ℕ) (unmet ready last before : List ℕ) → AreChains g last before →
    x < g.n → at ≡ get_or last x at → length unmet ≡ g.n →
    ((b : ℕ) → edges_between g.edges x b ≤ get_or unmet b 0) → ReleaseLoop g x at unmet ready unmet ready
release_begins g x at unmet ready last before chains within read len enough = record {
  below = is-last.bound;
  from_is = is-last.leads;
  len = len;
  enough = enough;
  counts = λ b. ap (λ m. get_or unmet b 0 + m) (sym (between-all g.edges x b at is-last));
  are_ready =
      λ b. (
        λ h. inl h,
        λ h. elim h [
          | inl old ↦ old
          | inr (low, none) ↦
              absurd (let e = between-all g.edges x b at is-last in omega arith)
        ],
      );
  falls = omega arith;
}
  where
    is-last : IsLast g.edges x (length g.edges) at
    is-last =
        subst (λ h. IsLast g.edges x (length g.edges) h)
        (sym (read ∙ get_or_default last x at 0 (let e = chains.last_len in omega arith))) (chains.is_last x within)

-- the ready nodes after an edge, by whether its node needs nothing more
abbrev pub ReadyIfNone : List ℕ → List ℕ → ℕ → ℕ → Type 0
ReadyIfNone ready more left b =
    ((left ≡ 0) × ((c : ℕ) → Contains more c ↔ (Contains ready c ⊎ (c ≡ b))) × (length more ≤ length ready + 1))
    ⊎ ((left ≡ 0 → ⊥) × (more ≡ ready))

module _ (g : NeedsGraph) (inside : IsGraph g) (last before : List ℕ) (chains : AreChains g last before) (x b at h : ℕ)
    (old was unmet ready : List ℕ)
    (above : 0 < at) (to_is : b ≡ to g.edges (at - 1)) (l : ReleaseLoop g x at old was unmet ready) where
  pub at-below : at - 1 < length g.edges
  at-below = let b = l.below in omega arith

  pub b-below : b < length unmet
  b-below = let e = l.len in let i = (edge-inside g (at - 1) inside at-below).1 in omega arith

  module _ (is-last : IsLast g.edges x (at - 1) h) where
    split : (c : ℕ) → edges_between (take at g.edges) x c ≡ edges_between (take h g.edges) x c + cond (eqb b c) 1 0
    split c = between-step g.edges x b c at h above l.below (l.from_is above) to_is is-last

    split-same : edges_between (take at g.edges) x b ≡ edges_between (take h g.edges) x b + 1
    split-same = split b ∙ ap (λ t. edges_between (take h g.edges) x b + cond t 1 0) (eq-eqb b b refl)

    split-other : (c : ℕ) → (c ≡ b → ⊥) → edges_between (take at g.edges) x c ≡ edges_between (take h g.edges) x c
    split-other c ne =
        split c ∙ ap (λ t. edges_between (take h g.edges) x c + cond t 1 0) (ne_eqb b c (λ e. ne (sym e)))
        ∙ add-zero (edges_between (take h g.edges) x c)

    pub some-left : 0 < get_or unmet b 0
    some-left = let c = l.counts b in let e = l.enough b in let s = split-same in omega arith

    counts' : (c : ℕ) → get_or (set unmet b (get_or unmet b 0 - 1)) c 0 + edges_between g.edges x c ≡ get_or old c 0
        + edges_between (take h g.edges) x c
    counts' c = elim (cases_eq c b) [
      | inl here ↦ subst (λ i. get_or (set unmet b (get_or unmet b 0 - 1)) i 0 + edges_between g.edges x i
          ≡ get_or old i 0 + edges_between (take h g.edges) x i) (sym here)
          (let s = get_or-set_same unmet b (get_or unmet b 0 - 1) 0 b-below in let k = l.counts b in
          let p = some-left in let t = split-same in omega arith)
      | inr there ↦ (let s = get_or-set_other unmet b c (get_or unmet b 0 - 1) 0 there in let k = l.counts c in
          let t = split-other c there in omega arith)
    ]

    module _ (more : List ℕ) where
      ready-none : (get_or unmet b 0 - 1 ≡ 0) → ((c : ℕ) → Contains more c ↔ (Contains ready c ⊎ (c ≡ b))) → (c : ℕ) →
          Contains more c
          ↔ (Contains was c
          ⊎ ((edges_between (take h g.edges) x c < edges_between g.edges x c)
          × (get_or (set unmet b (get_or unmet b 0 - 1)) c 0 ≡ 0)))
      ready-none none more-is c = elim (cases_eq c b) [
        | inl here ↦ (
          λ _. inr (
            subst (λ i. edges_between (take h g.edges) x i < edges_between g.edges x i) (sym here)
                (let t = split-same in let u = between-take-le g.edges x b at in omega arith),
            ap (λ i. get_or (set unmet b (get_or unmet b 0 - 1)) i 0) here
                ∙ get_or-set_same unmet b (get_or unmet b 0 - 1) 0 b-below ∙ none,
          ),
          λ _. (more-is c).1 (inr here),
        )
        | inr there ↦ (
          λ k. elim ((more-is c).0 k) [
            | inl old ↦ elim ((l.are_ready c).0 old) [
              | inl first ↦ inl first
              | inr (low, gone) ↦
                  inr (
                    (let t = split-other c there in omega arith),
                    get_or-set_other unmet b c (get_or unmet b 0 - 1) 0 there ∙ gone,
                  )
            ]
            | inr here ↦ absurd (there here)
          ],
          λ k. (more-is c).1 (inl ((l.are_ready c).1 (elim k [
            | inl first ↦ inl first
            | inr (low, gone) ↦
                inr (
                  (let t = split-other c there in omega arith),
                  sym (get_or-set_other unmet b c (get_or unmet b 0 - 1) 0 there) ∙ gone,
                )
          ]))),
        )
      ]

      ready-some : (get_or unmet b 0 - 1 ≡ 0 → ⊥) → (c : ℕ) →
          Contains ready c
          ↔ (Contains was c
          ⊎ ((edges_between (take h g.edges) x c < edges_between g.edges x c)
          × (get_or (set unmet b (get_or unmet b 0 - 1)) c 0 ≡ 0)))
      ready-some some c = elim (cases_eq c b) [
        | inl here ↦ (
          λ k. elim ((l.are_ready c).0 k) [
            | inl first ↦ inl first
            | inr (low, gone) ↦
                absurd (let p = some-left in let z : get_or unmet b 0 ≡ 0 = ap (λ i. get_or unmet i 0) (sym here)
                ∙ gone in omega arith)
          ],
          λ k. (l.are_ready c).1 (elim k [
            | inl first ↦ inl first
            | inr (low, gone) ↦
                absurd (some (sym (get_or-set_same unmet b (get_or unmet b 0 - 1) 0 b-below)
                ∙ ap (λ i. get_or (set unmet b (get_or unmet b 0 - 1)) i 0) (sym here) ∙ gone))
          ]),
        )
        | inr there ↦ (
          λ k. elim ((l.are_ready c).0 k) [
            | inl first ↦ inl first
            | inr (low, gone) ↦
                inr (
                  (let t = split-other c there in omega arith),
                  get_or-set_other unmet b c (get_or unmet b 0 - 1) 0 there ∙ gone,
                )
          ],
          λ k. (l.are_ready c).1 (elim k [
            | inl first ↦ inl first
            | inr (low, gone) ↦
                inr (
                  (let t = split-other c there in omega arith),
                  sym (get_or-set_other unmet b c (get_or unmet b 0 - 1) 0 there) ∙ gone,
                )
          ]),
        )
      ]

      sum-less : sum_by (λ count. count) (set unmet b (get_or unmet b 0 - 1)) + 1 ≡ sum_by (λ count. count) unmet
      sum-less = let e = sum_by-set (λ (count : ℕ). count) unmet b (get_or unmet b 0 - 1) 0 b-below in let p = some-left in omega arith

      pub release_step : ReadyIfNone ready more (get_or unmet b 0 - 1) b →
          ReleaseLoop g x h old was (set unmet b (get_or unmet b 0 - 1)) more
      release_step (inl (none, more-is, short)) = record {
        below = (let u = is-last.bound in let k = at-below in omega arith);
        from_is = is-last.leads;
        len = length-set unmet b (get_or unmet b 0 - 1) ∙ l.len;
        enough = l.enough;
        counts = counts';
        are_ready = ready-none none more-is;
        falls = (let s = sum-less in let f = l.falls in omega arith);
      }
      release_step (inr (some, same)) = record {
        below = (let u = is-last.bound in let k = at-below in omega arith);
        from_is = is-last.leads;
        len = length-set unmet b (get_or unmet b 0 - 1) ∙ l.len;
        enough = l.enough;
        counts = counts';
        are_ready =
            subst (λ xs. (c : ℕ) →
            Contains xs c
            ↔ (Contains was c
            ⊎ ((edges_between (take h g.edges) x c < edges_between g.edges x c)
            × (get_or (set unmet b (get_or unmet b 0 - 1)) c 0 ≡ 0)))) (sym same) (ready-some some);
        falls = (let s = sum-less in let f = l.falls in let e = ap length same in omega arith);
      }

module _ (g : NeedsGraph) (inside : IsGraph g) (last before : List ℕ) (chains : AreChains g last before) (x b at : ℕ)
    (old was unmet ready : List ℕ)
    (above : 0 < at) (to_is : b ≡ to g.edges (at - 1)) (l : ReleaseLoop g x at old was unmet ready) (v : ℕ) (count : v
    ≡ get_or unmet b v) where
  place : at - 1 < length g.edges
  place = let b = l.below in omega arith

  is-last' : IsLast g.edges x (at - 1) (get_or before (at - 1) 0)
  is-last' = subst (λ i. IsLast g.edges i (at - 1) (get_or before (at - 1) 0)) (l.from_is above) (chains.is_before (at - 1) place)

  count' : v ≡ get_or unmet b 0
  count' =
      count ∙ get_or_default unmet b v 0
      (b-below g inside last before chains x b at (get_or before (at - 1) 0) old was unmet ready above to_is l)

  pub release_enough : 1 ≤ v
  release_enough = let p =
      some-left g inside last before chains x b at (get_or before (at - 1) 0) old was unmet ready above to_is l
      is-last' in let c = count' in omega arith

  pub release_done : (h : ℕ) → h ≡ get_or before (at - 1) h → (more : List ℕ) → ReadyIfNone ready more (v - 1) b →
      ReleaseLoop g x h old was (set unmet b (v - 1)) more
  release_done h read more goes =
      subst (λ k. ReleaseLoop g x k old was (set unmet b (v - 1)) more)
      (sym (read ∙ get_or_default before (at - 1) h 0 (let e = chains.before_len in let p = place in omega arith)))
      (subst (λ m. ReleaseLoop g x (get_or before (at - 1) 0) old was (set unmet b (m - 1)) more) (sym count')
      (release_step g inside last before chains x b at (get_or before (at - 1) 0) old was unmet ready above to_is l
      is-last' more (subst (λ m. ReadyIfNone ready more (m - 1) b) count' goes)))

pub release_ready : (g : NeedsGraph) (x at : ℕ) (old was unmet ready : List ℕ) → at ≤ 0 → ReleaseLoop g x at old was unmet ready → (b : ℕ) →
    Contains ready b ↔ (Contains was b ⊎ ((0 < edges_between g.edges x b) × (get_or unmet b 0 ≡ 0)))
release_ready g x at old was unmet ready none l b =
    subst (λ k. Contains ready b
    ↔ (Contains was b ⊎ ((edges_between (take k g.edges) x b < edges_between g.edges x b) × (get_or unmet b 0 ≡ 0))))
    nil (l.are_ready b)
  where
    nil : at ≡ 0
    nil = omega arith
