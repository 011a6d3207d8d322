-- A path along blocked nodes until one comes again.
use Rattle.std.proofs.Common.{◌≡◌, ◌≢◌, ℕ, zero, suc, ◌+◌, ◌-◌, ◌<◌, ◌≤◌, cond, eqb, List, [], ◌∷◌, ◌++◌, length, get_or, set, drop, replicate, sum_by, refl, sym, ap, subst, ◌∙◌, arith, inl, inr, length-set, length-append, get_or-set_same, get_or-set_other}
use Rattle.std.proofs.lemmas.Bool.{cases_eq, eq-eqb, ne_eqb}
use Rattle.std.proofs.lemmas.List.{get_or_default, get_or_append_left, get_or_at}
use Rattle.std.proofs.lemmas.List.Sums.{sum_by-set}
use Rattle.base_graph.specs.NeedsGraph.{NeedsGraph, IsGraph, Needs}
use Rattle.base_graph.specs.Reaching.{Walk, IsCycle}
use Rattle.base_graph.specs.EdgeChains.{from, to}
use Rattle.base_graph.specs.Placing.{IsBlocked, EachBlockedNeeds, AreBlockedNeeds}
use Rattle.base_graph.proofs.ChainSteps.{edge-inside}
use Rattle.base_graph.proofs.SpreadSteps.{needs-at}

-- of the first k edges, each from a blocked node has given its end a blocked need
pub record NeedsUpTo (g : NeedsGraph) (unmet needs : List ℕ) (k : ℕ) : Type 0 where
  pub len : length needs ≡ g.n
  pub need : (e : ℕ) → e < k → 0 < get_or unmet (from g.edges e) 0 → Needs g (to g.edges e) (get_or needs (to g.edges e) 0)
  pub blocked : (e : ℕ) → e < k → 0 < get_or unmet (from g.edges e) 0 → IsBlocked g unmet (get_or needs (to g.edges e) 0)

pub needs_start : (g : NeedsGraph) (unmet needs : List ℕ) → length needs ≡ g.n → NeedsUpTo g unmet needs 0
needs_start g unmet needs len =
    record { len = len; need = λ e low above. absurd (omega arith); blocked = λ e low above. absurd (omega arith) }

pub needs_skip : (g : NeedsGraph) (unmet needs : List ℕ) (k : ℕ) → get_or unmet (from g.edges k) 0 ≤ 0 →
    NeedsUpTo g unmet needs k → NeedsUpTo g unmet needs (k + 1)
needs_skip g unmet needs k none l = record {
  len = l.len;
  need = λ e low above. elim (cases_eq e k) [
    | inl here ↦
        absurd (let n : get_or unmet (from g.edges e) 0 ≤ 0 = subst (λ i. get_or unmet (from g.edges i) 0 ≤ 0)
        (sym here) none in omega arith)
    | inr there ↦ l.need e (omega arith) above
  ];
  blocked = λ e low above. elim (cases_eq e k) [
    | inl here ↦
        absurd (let n : get_or unmet (from g.edges e) 0 ≤ 0 = subst (λ i. get_or unmet (from g.edges i) 0 ≤ 0)
        (sym here) none in omega arith)
    | inr there ↦ l.blocked e (omega arith) above
  ];
}

pub needs_take : (g : NeedsGraph) → IsGraph g → (unmet needs : List ℕ) (k a b : ℕ) → k < length g.edges →
    a ≡ from g.edges k → b ≡ to g.edges k → 0 < get_or unmet a 0 →
    NeedsUpTo g unmet needs k → NeedsUpTo g unmet (set needs b a) (k + 1)
needs_take g inside unmet needs k a b below from_is to_is some l =
    record { len = length-set needs b a ∙ l.len; need = need'; blocked = blocked' }
  where
    b-in : b < length needs
    b-in = let e = l.len in let i : to g.edges k < g.n = (edge-inside g k inside below).1 in omega arith

    a-blocked : IsBlocked g unmet a
    a-blocked = (subst (λ i. i < g.n) (sym from_is) (edge-inside g k inside below).0, some)

    at-b : (c : ℕ) → c ≡ b → get_or (set needs b a) c 0 ≡ a
    at-b c here = ap (λ i. get_or (set needs b a) i 0) here ∙ get_or-set_same needs b a 0 b-in

    need' : (e : ℕ) → e < k + 1 → 0 < get_or unmet (from g.edges e) 0 → Needs g (to g.edges e) (get_or (set needs b a) (to g.edges e) 0)
    need' e low above = elim (cases_eq (to g.edges e) b) [
      | inl here ↦
          subst (λ x. Needs g (to g.edges e) x) (sym (at-b (to g.edges e) here))
          (subst (λ y. Needs g y a) (sym here) (needs-at g k a b below from_is to_is))
      | inr there ↦ subst (λ x. Needs g (to g.edges e) x) (sym (get_or-set_other needs b (to g.edges e) a 0 there))
          (l.need e (not-last e low there) above)
    ]
      where
        not-last : (e : ℕ) → e < k + 1 → (to g.edges e ≡ b → ⊥) → e < k
        not-last e low there = let ne : e ≢ k = λ same. there (ap (to g.edges) same ∙ sym to_is) in omega arith

    blocked' : (e : ℕ) → e < k + 1 → 0 < get_or unmet (from g.edges e) 0 → IsBlocked g unmet (get_or (set needs b a) (to g.edges e) 0)
    blocked' e low above = elim (cases_eq (to g.edges e) b) [
      | inl here ↦ subst (λ x. IsBlocked g unmet x) (sym (at-b (to g.edges e) here)) a-blocked
      | inr there ↦ subst (λ x. IsBlocked g unmet x) (sym (get_or-set_other needs b (to g.edges e) a 0 there))
          (l.blocked e (not-last e low there) above)
    ]
      where
        not-last : (e : ℕ) → e < k + 1 → (to g.edges e ≡ b → ⊥) → e < k
        not-last e low there = let ne : e ≢ k = λ same. there (ap (to g.edges) same ∙ sym to_is) in omega arith

pub needs_done : (g : NeedsGraph) (unmet needs : List ℕ) (k : ℕ) → length g.edges ≤ k → EachBlockedNeeds g unmet →
    NeedsUpTo g unmet needs k → AreBlockedNeeds g unmet needs
needs_done g unmet needs k all each l = record { len = l.len; need = need'; blocked = blocked' }
  where
    edge-is : (a b e : ℕ) → e < length g.edges → get_or g.edges e (a, b) ≡ (a, b) → (from g.edges e ≡ a) × (to g.edges e ≡ b)
    edge-is a b e below same = let at : get_or g.edges e (0, 0) ≡ (a, b) = get_or_default g.edges e (0, 0) (a, b) below ∙ same in
        (ap (λ (p : ℕ × ℕ). p.0) at, ap (λ (p : ℕ × ℕ). p.1) at)

    need' : (b : ℕ) → IsBlocked g unmet b → Needs g b (get_or needs b 0)
    need' b h = let n = each b h in let e = n.1 in let at = edge-is n.0 b e.0 e.1 e.2 in
        subst (λ y. Needs g y (get_or needs y 0)) at.1
        (l.need e.0 (let x = e.1 in omega arith) (subst (λ i. 0 < get_or unmet i 0) (sym at.0) n.2.1))

    blocked' : (b : ℕ) → IsBlocked g unmet b → IsBlocked g unmet (get_or needs b 0)
    blocked' b h = let n = each b h in let e = n.1 in let at = edge-is n.0 b e.0 e.1 e.2 in
        subst (λ y. IsBlocked g unmet (get_or needs y 0)) at.1
        (l.blocked e.0 (let x = e.1 in omega arith) (subst (λ i. 0 < get_or unmet i 0) (sym at.0) n.2.1))

-- each of the path needs the next one, and the last needs this node
abbrev pub Trail : NeedsGraph → List ℕ → ℕ → Type 0
Trail g [] at = Unit {0}
Trail g (p ∷ path) at = Walk g p path at

walk-push : (g : NeedsGraph) (b : ℕ) (path : List ℕ) (a c : ℕ) → Walk g b path a → Needs g a c → Walk g b (path ++ a ∷ []) c
walk-push g b [] a c w n = (w, n)
walk-push g b (p ∷ path) a c w n = (w.0, walk-push g p path a c w.1 n)

trail-push : (g : NeedsGraph) (path : List ℕ) (a c : ℕ) → Trail g path a → Needs g a c → Trail g (path ++ a ∷ []) c
trail-push g [] a c t n = n
trail-push g (p ∷ path) a c t n = walk-push g p path a c t n

-- from where the node is in the path on, the path is a cycle
cycle-from : (g : NeedsGraph) (path : List ℕ) (at first : ℕ) → Trail g path at → first < length path →
    get_or path first 0 ≡ at → IsCycle g (drop first path)
cycle-from g [] at first t below same = absurd (omega arith)
cycle-from g (p ∷ path) at zero t below same = subst (λ z. Walk g p path z) (sym same) t
cycle-from g (p ∷ []) at (suc first) t below same = absurd (omega arith)
cycle-from g (p ∷ q ∷ path) at (suc first) t below same = cycle-from g (q ∷ path) at first t.1 (omega arith) same

-- what the loop along the path keeps: places count from 1
pub record PathLoop (g : NeedsGraph) (unmet places path : List ℕ) (at : ℕ) : Type 0 where
  pub len : length places ≡ g.n
  pub blocked : IsBlocked g unmet at
  pub trail : Trail g path at
  pub within : (b : ℕ) → 0 < get_or places b 0 → get_or places b 0 ≤ length path
  pub stands : (b : ℕ) → 0 < get_or places b 0 → get_or path (get_or places b 0 - 1) 0 ≡ b

pub path_start : (g : NeedsGraph) (unmet places : List ℕ) (at n : ℕ) → places ≡ replicate {A = ℕ} n 0 →
    length places ≡ g.n → IsBlocked g unmet at → PathLoop g unmet places [] at
path_start g unmet places at n zeros len blocked = record {
  len = len;
  blocked = blocked;
  trail = tt;
  within = λ b above. absurd (let z = none b in omega arith);
  stands = λ b above. absurd (let z = none b in omega arith);
}
  where
    none : (b : ℕ) → get_or places b 0 ≡ 0
    none b = ap (λ xs. get_or xs b 0) zeros ∙ of-zeros n b
      where
        of-zeros : (n b : ℕ) → get_or (replicate {A = ℕ} n 0) b 0 ≡ 0
        of-zeros zero b = refl
        of-zeros (suc n) zero = refl
        of-zeros (suc n) (suc b) = of-zeros n b

module _ (g : NeedsGraph) (unmet needs places path : List ℕ) (at next : ℕ) (are : AreBlockedNeeds g unmet needs)
    (new : get_or places at 0 ≡ 0)
    (read : next ≡ get_or needs at next) (l : PathLoop g unmet places path at) where
  at-in : at < length places
  at-in = let e = l.len in let b = l.blocked.0 in omega arith

  next-is : next ≡ get_or needs at 0
  next-is = read ∙ get_or_default needs at next 0 (let e = are.len in let b = l.blocked.0 in omega arith)

  pub path_step : PathLoop g unmet (set places at (length path + 1)) (path ++ at ∷ []) next
  path_step = record {
    len = length-set places at (length path + 1) ∙ l.len;
    blocked = subst (λ i. IsBlocked g unmet i) (sym next-is) (are.blocked at l.blocked);
    trail = trail-push g path at next l.trail (subst (λ i. Needs g at i) (sym next-is) (are.need at l.blocked));
    within = λ b above. elim (cases_eq b at) [
      | inl here ↦ (let e = here-is b here in let n = length-append path (at ∷ []) in omega arith)
      | inr there ↦ (let e = get_or-set_other places at b (length path + 1) 0 there in
          let n = length-append path (at ∷ []) in let w = l.within b (omega arith) in omega arith)
    ];
    stands = λ b above. elim (cases_eq b at) [
      | inl here ↦ ap (λ m. get_or (path ++ at ∷ []) (m - 1) 0) (here-is b here)
          ∙ get_or_at path at [] 0 (length path + 1 - 1) (omega arith) ∙ sym here
      | inr there ↦ (let e = get_or-set_other places at b (length path + 1) 0 there in
          ap (λ m. get_or (path ++ at ∷ []) (m - 1) 0) e
          ∙ get_or_append_left path (at ∷ []) 0 (get_or places b 0 - 1) (let w = l.within b (omega arith) in
          omega arith) ∙ l.stands b (omega arith))
    ];
  }
    where
      here-is : (b : ℕ) → b ≡ at → get_or (set places at (length path + 1)) b 0 ≡ length path + 1
      here-is b here = ap (λ i. get_or (set places at (length path + 1)) i 0) here ∙ get_or-set_same places at (length path + 1) 0 at-in

  pub path_smaller : sum_by (λ place. cond (eqb place 0) 1 0) (set places at (length path + 1))
      < sum_by (λ place. cond (eqb place 0) 1 0) places
  path_smaller =
      let e = sum_by-set (λ place. cond (eqb place 0) 1 0) places at (length path + 1) 0 at-in in
      let one : cond {A = ℕ} (eqb (get_or places at 0) 0) 1 0 ≡ 1 = ap (λ t. cond {A = ℕ} t 1 0) (eq-eqb (get_or places at 0) 0 new) in
      let none : cond {A = ℕ} (eqb (length path + 1) 0) 1 0 ≡ 0 =
      ap (λ t. cond {A = ℕ} t 1 0) (ne_eqb (length path + 1) 0 (λ z. omega arith)) in
      omega (arith, e, one, none)

pub path_done : (g : NeedsGraph) (unmet places path : List ℕ) (at v : ℕ) → v ≡ get_or places at v →
    0 < get_or places at 0 → PathLoop g unmet places path at → IsCycle g (drop (v - 1) path)
path_done g unmet places path at v read above l = subst (λ m. IsCycle g (drop (m - 1) path)) (sym same)
    (cycle-from g path at (get_or places at 0 - 1) l.trail (let w = l.within at above in omega arith) (l.stands at above))
  where
    same : v ≡ get_or places at 0
    same = read ∙ get_or_default places at v 0 (let e = l.len in let b = l.blocked.0 in omega arith)

pub path_new : (places : List ℕ) (at v : ℕ) → v ≡ get_or places at v → v ≡ 0 → get_or places at 0 ≡ 0
path_new places at v read nil = sym (subst (λ d. d ≡ get_or places at d) nil read)

pub place_above : (g : NeedsGraph) (unmet places path : List ℕ) (at v : ℕ) → v ≡ get_or places at v → (v ≡ 0 → ⊥) →
    PathLoop g unmet places path at → 0 < get_or places at 0
place_above g unmet places path at v read some l = let e : v ≡ get_or places at 0 =
    read ∙ get_or_default places at v 0 (let e = l.len in let b = l.blocked.0 in omega arith) in let ne : v ≢ 0 =
    some in omega arith

pub place_within : (g : NeedsGraph) (unmet places path : List ℕ) (at v : ℕ) → v ≡ get_or places at v →
    0 < get_or places at 0 → PathLoop g unmet places path at → (0 < v) × (v ≤ length path)
place_within g unmet places path at v read above l = let e : v ≡ get_or places at 0 =
    read ∙ get_or_default places at v 0 (let e = l.len in let b = l.blocked.0 in omega arith) in let w =
    l.within at above in (omega arith, omega arith)
