-- The chains of the first k edges, one edge at a time.
use Rattle.std.proofs.Common.{◌≡◌, ℕ, ◌+◌, ◌<◌, List, [], ◌∷◌, ◌++◌, length, get_or, set, sym, ap, subst, ◌∙◌, arith, inl, inr, length-append, length-set, get_or-set_same, get_or-set_other}
use Rattle.std.proofs.lemmas.Bool.{cases_eq}
use Rattle.std.proofs.lemmas.List.{get_or_append_left, get_or_at, get_or_default}
use Rattle.std.proofs.lemmas.List.Elements.{All-from_recursion}
use Rattle.base_graph.specs.NeedsGraph.{NeedsGraph, IsGraph}
use Rattle.base_graph.specs.EdgeChains.{from, to, IsLast}

-- the chains of the first k edges
pub record ChainsUpTo (n : ℕ) (edges : List (ℕ × ℕ)) (k : ℕ) (last before : List ℕ) : Type 0 where
  pub last_len : length last ≡ n
  pub before_len : length before ≡ k
  pub is_last : (a : ℕ) → a < n → IsLast edges a k (get_or last a 0)
  pub is_before : (e : ℕ) → e < k → IsLast edges (from edges e) e (get_or before e 0)

-- the next edge leads from this node
last-here : (edges : List (ℕ × ℕ)) (k : ℕ) → IsLast edges (from edges k) (k + 1) (k + 1)
last-here edges k =
    record {
      bound = omega arith;
      leads = λ above. ap (from edges) (omega arith);
      none = λ e low high same. absurd (omega arith);
    }

-- the next edge leads from another node
last-other : (edges : List (ℕ × ℕ)) (a k h : ℕ) → (a ≡ from edges k → ⊥) → IsLast edges a k h → IsLast edges a (k + 1) h
last-other edges a k h apart l = record {
  bound = (let b = l.bound in omega arith);
  leads = l.leads;
  none = λ e low high same. elim (cases_eq e k) [
    | inl here ↦ apart (sym same ∙ ap (from edges) here)
    | inr there ↦ l.none e low (omega arith) same
  ];
}

-- edges lead from and to nodes
pub edge-inside : (g : NeedsGraph) (e : ℕ) → IsGraph g → e < length g.edges → (from g.edges e < g.n) × (to g.edges e < g.n)
edge-inside g e inside below = All-from_recursion (λ (edge : ℕ × ℕ). (edge.0 < g.n) × (edge.1 < g.n)) g.edges inside e (0, 0) below

chains-step : (n : ℕ) (edges : List (ℕ × ℕ)) (k a : ℕ) (last before : List ℕ) → ChainsUpTo n edges k last before →
    a ≡ from edges k → a < n →
    ChainsUpTo n edges (k + 1) (set last a (k + 1)) (before ++ get_or last a 0 ∷ [])
chains-step n edges k a last before c same within = record {
  last_len = length-set last a (k + 1) ∙ c.last_len;
  before_len = length-append before (get_or last a 0 ∷ []) ∙ ap (λ m. m + 1) c.before_len;
  is_last = is_last';
  is_before = is_before';
}
  where
    a-in : a < length last
    a-in = let e = c.last_len in omega arith

    is_last' : (b : ℕ) → b < n → IsLast edges b (k + 1) (get_or (set last a (k + 1)) b 0)
    is_last' b below = elim (cases_eq b a) [
      | inl here ↦
          subst (λ h. IsLast edges b (k + 1) h)
          (sym (ap (λ i. get_or (set last a (k + 1)) i 0) here ∙ get_or-set_same last a (k + 1) 0 a-in))
          (subst (λ i. IsLast edges i (k + 1) (k + 1)) (sym (here ∙ same)) (last-here edges k))
      | inr there ↦ subst (λ h. IsLast edges b (k + 1) h) (sym (get_or-set_other last a b (k + 1) 0 there))
          (last-other edges b k (get_or last b 0) (λ e. there (e ∙ sym same)) (c.is_last b below))
    ]

    is_before' : (e : ℕ) → e < k + 1 → IsLast edges (from edges e) e (get_or (before ++ get_or last a 0 ∷ []) e 0)
    is_before' e below = elim (cases_eq e k) [
      | inl here ↦ subst (λ h. IsLast edges (from edges e) e h) (sym (get_or_at before (get_or last a 0) [] 0 e (c.before_len ∙ sym here)))
          (subst (λ i. IsLast edges (from edges e) e (get_or last i 0)) (ap (from edges) here ∙ sym same)
          (subst (λ m. IsLast edges (from edges e) m (get_or last (from edges e) 0)) (sym here)
          (c.is_last (from edges e) (subst (λ i. i < n) (same ∙ ap (from edges) (sym here)) within))))
      | inr there ↦
          subst (λ h. IsLast edges (from edges e) e h)
          (sym (get_or_append_left before (get_or last a 0 ∷ []) 0 e (let l = c.before_len in omega arith)))
          (c.is_before e (omega arith))
    ]

pub chains_step : (g : NeedsGraph) (k a x : ℕ) (last before more : List ℕ) → IsGraph g → k < length g.edges →
    ChainsUpTo g.n g.edges k last before → a ≡ from g.edges k →
    x ≡ get_or last a x → more ≡ before ++ x ∷ [] → ChainsUpTo g.n g.edges (k + 1) (set last a (k + 1)) more
chains_step g k a x last before more inside below c same read pushed =
    subst (λ xs. ChainsUpTo g.n g.edges (k + 1) (set last a (k + 1)) xs)
    (sym (pushed ∙ ap (λ y. before ++ y ∷ []) (read ∙ get_or_default last a x 0 within)))
    (chains-step g.n g.edges k a last before c same here)
  where
    here : a < g.n
    here = subst (λ i. i < g.n) (sym same) (edge-inside g k inside below).0

    within : a < length last
    within = let e = c.last_len in let h = here in omega arith
