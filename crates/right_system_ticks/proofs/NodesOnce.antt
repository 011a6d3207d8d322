-- Each node of a system is at one place.
use Rattle.std.specs.Prelude.{◌≡◌, ℕ, suc, ◌==◌, true, List, [], ◌∷◌, ◌++◌, map, flat_map, length, slice_get, Contains, Option, Some, None, refl}
use Rattle.std.specs.List.{range_with_len}
use Rattle.std.proofs.Common.{sym, ap, ◌∙◌, arith, inl, inr}
use Rattle.std.proofs.lemmas.Bool.{eqb-true, eq-eqb}
use Rattle.std.proofs.lemmas.Option.{none-some}
use Rattle.modules_profile.specs.declared.local.ChildUse.{ChildUse}
use Rattle.modules_profile.specs.declared.local.LocalRow.{LocalRow}
use Rattle.modules_profile.specs.declared.nodes.Node.{Node}
use Rattle.modules_profile.specs.declared.nodes.Node.TheVariants.{Row, Call}
use Rattle.modules_profile.specs.LocalSystem.{LocalSystem}
use Rattle.modules_profile.specs.LawfulLocals.{IsLocal}
use Rattle.modules_profile.specs.Headers.{header_functions}
use Rattle.modules_profile.specs.LocalNodes.{same_node, calls_of, call_nodes, node_list}
use Rattle.modules_profile.proofs.lemmas.Members.{in-none, of-map, in-at, at-in, at-map, map-at, at-append, range-at}
use Rattle.modules_profile.proofs.lemmas.OwnRows.{differ-at, of-flat_map}
use Rattle.right_system_ticks.proofs.Tests.{both-true, true-both, true-false}

-- ---- The test whether two nodes are one

pub one-node : (x y : Node) → same_node x y ≡ true → x ≡ y
one-node (Row b) (Row c) h = ap Row (eqb-true b c h)
one-node (Row b) (Call e j) h = absurd (true-false true refl (sym h))
one-node (Call e j) (Row c) h = absurd (true-false true refl (sym h))
one-node (Call e j) (Call f i) h =
    let parts = both-true (e == f) (j == i) h in
    ap (λ k. Call k j) (eqb-true e f parts.0) ∙ ap (Call f) (eqb-true j i parts.1)

pub node-itself : (x : Node) → same_node x x ≡ true
node-itself (Row b) = eq-eqb b b refl
node-itself (Call e j) = true-both (e == e) (j == j) (eq-eqb e e refl) (eq-eqb j j refl)

-- ---- Lists in which each member occurs once

abbrev pub Once : {A : Type 0} → List A → Type 0
Once {A} xs = (i k : ℕ) (x : A) → slice_get xs i ≡ Some x → slice_get xs k ≡ Some x → i ≡ k

once-append : {A : Type 0} (xs ys : List A) → Once xs → Once ys → ((x : A) → Contains xs x → Contains ys x → ⊥) → Once (xs ++ ys)
once-append xs ys first second apart i k x e f = elim (at-append xs ys i x e) [
  | inl here ↦ elim (at-append xs ys k x f) [
    | inl there ↦ first i k x here there
    | inr there ↦ absurd (apart x (in-at xs i x here) (in-at ys there.0 x there.2))
  ]
  | inr here ↦ elim (at-append xs ys k x f) [
    | inl there ↦ absurd (apart x (in-at xs k x there) (in-at ys here.0 x here.2))
    | inr there ↦
        let one = second here.0 there.0 x here.2 there.2 in
        let p = here.1 in
        let q = there.1 in
        omega (arith, one, p, q)
  ]
]

row-number : Node → ℕ
row-number (Row b) = b
row-number (Call e j) = 0

abbrev row-of : LocalRow → Node
row-of r = Row r.row

module _ (local : LocalSystem) (is : IsLocal local) where
  rows-once : Once (map row-of local.rows)
  rows-once i k x e f =
      let r = map-at row-of local.rows i x e in
      let q = map-at row-of local.rows k x f in
      let same : r.0.row ≡ q.0.row = cc (r.2, q.2) in
      differ-at (map (λ (r : LocalRow). r.row) local.rows) i k q.0.row is.rows_differ
      (at-map (λ (r : LocalRow). r.row) local.rows i r.0 r.1 ∙ ap Some same) (at-map (λ (r : LocalRow). r.row) local.rows k q.0 q.1)

  -- children of one row are one
  abbrev Apart : List ChildUse → Type 0
  Apart us = (i k e : ℕ) (u v : ChildUse) → slice_get us i ≡ Some u → slice_get us k ≡ Some v → u.header.row ≡ Some e →
      v.header.row ≡ Some e →
      i ≡ k

  pub children-apart : Apart local.children
  children-apart i k e u v at_i at_k one two =
      differ-at is.numbers i k e is.children_differ (number i u at_i one) (number k v at_k two)
    where
      number : (i : ℕ) (u : ChildUse) → slice_get local.children i ≡ Some u → u.header.row ≡ Some e → slice_get is.numbers i ≡ Some e
      number i u at row =
          let n = map-at Some is.numbers i (Some e)
          (ap (λ os. slice_get os i) (sym is.have_numbers) ∙ at-map (λ (u : ChildUse). u.header.row) local.children i u at ∙ ap Some row) in
          n.1 ∙ n.2

  calls-once : (o : Option ℕ) (n : ℕ) → Once (calls_of o n)
  calls-once None n i k x e f = absurd (none-some x e)
  calls-once (Some r) n i k x e f =
      let a = map-at (Call r) (range_with_len 1 n) i x e in
      let b = map-at (Call r) (range_with_len 1 n) k x f in
      let same : a.0 ≡ b.0 = cc (a.2, b.2) in
      let p = (range-at 1 n i a.0 a.1).1 in
      let q = (range-at 1 n k b.0 b.1).1 in
      omega (arith, same, p, q)

  -- a call is that of a child
  pub call-of : (o : Option ℕ) (n : ℕ) (x : Node) → Contains (calls_of o n) x → (e : ℕ) × (j : ℕ) × (o ≡ Some e) × (x ≡ Call e j)
  call-of None n x h = absurd (in-none x h)
  call-of (Some e) n x h = let m = of-map (Call e) (range_with_len 1 n) x h in (e, m.0, refl, sym m.2)

  all-calls-once : (us : List ChildUse) → Apart us → Once (flat_map call_nodes us)
  all-calls-once [] apart = λ i k x e f. absurd (none-some x e)
  all-calls-once (u ∷ us) apart =
      once-append (call_nodes u) (flat_map call_nodes us) (calls-once u.header.row (length (header_functions u.header)))
      (all-calls-once us (λ i k e v w a b one two.
      let more : suc i ≡ suc k = apart (suc i) (suc k) e v w a b one two in omega (arith, more)))
      (λ x here there.
      let c = call-of u.header.row (length (header_functions u.header)) x here in
      let v = of-flat_map call_nodes us x there in
      let d = call-of v.0.header.row (length (header_functions v.0.header)) x v.2 in
      let at = at-in us v.0 v.1 in
      let same : d.0 ≡ c.0 = cc (c.3, d.3) in
      let one : 0 ≡ suc at.0 = apart 0 (suc at.0) c.0 u v.0 refl at.1 c.2 (d.2 ∙ ap Some same) in
      omega (arith, one))

  pub nodes-once : Once (node_list local)
  nodes-once =
      once-append (map row-of local.rows) (flat_map call_nodes local.children) rows-once (all-calls-once local.children children-apart)
      (λ x here there.
      let r = of-map row-of local.rows x here in
      let v = of-flat_map call_nodes local.children x there in
      let d = call-of v.0.header.row (length (header_functions v.0.header)) x v.2 in
      let wrong : Row r.0.row ≡ Call d.0 d.1 = r.2 ∙ d.3 in
      absurd (let no : ⊥ = cc wrong in no))
