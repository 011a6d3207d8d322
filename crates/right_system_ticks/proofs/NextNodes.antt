-- Nodes in the one order that pass a test can be executed one after another.
use Rattle.std.specs.Prelude.{◌≡◌, ◌⊎◌, ℕ, ◌<◌, Bool, true, false, cond, List, [], ◌∷◌, ◌++◌, filter, slice_get, Contains, IsFalse, Option, Some, None, refl}
use Rattle.std.specs.Option.{option_map_or}
use Rattle.std.proofs.Common.{sym, ap, subst, ◌∙◌, inl, inr}
use Rattle.std.proofs.lemmas.List.Elements.{Contains-append_left, Contains-append_right, Contains-append_cases}
use Rattle.base_graph.specs.NeedsGraph.{NeedsGraph, Needs}
use Rattle.base_graph.specs.OneOrder.{Follows}
use Rattle.modules_profile.specs.declared.nodes.Node.{Node}
use Rattle.modules_profile.specs.LocalSystem.{LocalSystem}
use Rattle.modules_profile.specs.SystemNodes.{SystemNodes}
use Rattle.modules_profile.specs.LawfulLocals.{IsLocal}
use Rattle.modules_profile.specs.LocalNodes.{same_node, node_list, AreNodesOf}
use Rattle.modules_profile.proofs.lemmas.Members.{in-none, in-first, in-cases, at-in, below-at}
use Rattle.right_relation.specs.Standing.{with_node}
use Rattle.right_system_ticks.specs.Holding.{with_node_at}
use Rattle.right_system_ticks.specs.ScheduleLaws.{IsNextAt, AreNext}
use Rattle.right_system_ticks.proofs.Tests.{one-true, true-first, true-second, not-true, true-false}
use Rattle.right_system_ticks.proofs.NodesOnce.{one-node, node-itself, nodes-once}

-- ---- The one order

-- what is in an order is a node
pub are-nodes : (g : NeedsGraph) (placed list : List ℕ) (b : ℕ) → Follows g placed list → Contains list b → b < g.n
are-nodes g placed [] b follows h = absurd (in-none b h)
are-nodes g placed (c ∷ list) b follows h = elim (in-cases c b list h) [
  | inl same ↦ subst (λ k. k < g.n) same follows.0.may_stand.is_node
  | inr more ↦ are-nodes g (placed ++ c ∷ []) list b follows.1 more
]

-- ---- One node more

module _ (local : LocalSystem) where
  -- this node is at this place
  abbrev pub At : ℕ → Node → Type 0
  At n x = slice_get (node_list local) n ≡ Some x

  pub with-before : (executed : Node → Bool) (n : ℕ) (x : Node) → executed x ≡ true → with_node_at local executed n x ≡ true
  with-before executed n x h = by (slice_get (node_list local) n)
    where
      by : (o : Option Node) → option_map_or (with_node executed) o executed x ≡ true
      by None = h
      by (Some y) = true-second (same_node x y) (executed x) h

  pub with-here : (executed : Node → Bool) (n : ℕ) (x : Node) → At n x → with_node_at local executed n x ≡ true
  with-here executed n x at =
      ap (λ o. option_map_or (with_node executed) o executed x) at ∙ true-first (same_node x x) (executed x) (node-itself x)

  pub with-of : (executed : Node → Bool) (n : ℕ) (x : Node) → with_node_at local executed n x ≡ true → (executed x ≡ true) ⊎ At n x
  with-of executed n x h = by (slice_get (node_list local) n) h
    where
      by : (o : Option Node) → option_map_or (with_node executed) o executed x ≡ true → (executed x ≡ true) ⊎ (o ≡ Some x)
      by None h = inl h
      by (Some y) h = elim (one-true (same_node x y) (executed x) h) [
        | inl same ↦ inr (ap Some (sym (one-node x y same)))
        | inr before ↦ inl before
      ]

  -- there is a node at this place, which was not executed
  pub record IsNewAt (executed : Node → Bool) (n : ℕ) : Type 0 where
    pub node : Node
    pub at : At n node
    pub is_new : IsFalse (executed node)

  -- so it is with each of these, one after another
  abbrev pub AreNew : (Node → Bool) → List ℕ → Type 0
  AreNew executed [] = Unit {0}
  AreNew executed (n ∷ nodes) = IsNewAt executed n × AreNew (with_node_at local executed n) nodes

-- ---- Nodes that pass a test, from these executed on

module _ (local : LocalSystem) (is : IsLocal local) (nodes : SystemNodes) (are : AreNodesOf local nodes) (start : Node → Bool)
    (test : ℕ → Bool)
    (new : (b : ℕ) (y : Node) → test b ≡ true → At local b y → start y ≡ false) where
  record Walked (placed : List ℕ) (executed : Node → Bool) : Type 0 where
    kept : (x : Node) → start x ≡ true → executed x ≡ true
    made : (a : ℕ) (x : Node) → Contains placed a → test a ≡ true → At local a x → executed x ≡ true
    only : (x : Node) → executed x ≡ true → (start x ≡ true) ⊎ ((a : ℕ) × Contains placed a × At local a x)

  begun : Walked [] start
  begun = record { kept = λ x h. h; made = λ a x h. absurd (in-none a h); only = λ x h. inl h }

  passed : (placed : List ℕ) (executed : Node → Bool) (b : ℕ) → test b ≡ false → Walked placed executed → Walked (placed ++ b ∷ []) executed
  passed placed executed b fails w = record {
    kept = w.kept;
    made = λ a x h passes at. elim (Contains-append_cases placed (b ∷ []) a h) [
      | inl before ↦ w.made a x before passes at
      | inr last ↦ elim (in-cases b a [] last) [
        | inl same ↦ absurd (true-false (test b) (ap test same ∙ passes) fails)
        | inr none ↦ absurd (in-none a none)
      ]
    ];
    only = λ x h. elim (w.only x h) [
      | inl before ↦ inl before
      | inr there ↦ inr (there.0, Contains-append_left placed (b ∷ []) there.0 there.1, there.2)
    ];
  }

  taken : (placed : List ℕ) (executed : Node → Bool) (b : ℕ) → Walked placed executed →
      Walked (placed ++ b ∷ []) (with_node_at local executed b)
  taken placed executed b w = record {
    kept = λ x h. with-before local executed b x (w.kept x h);
    made = λ a x h passes at. elim (Contains-append_cases placed (b ∷ []) a h) [
      | inl before ↦ with-before local executed b x (w.made a x before passes at)
      | inr last ↦ elim (in-cases b a [] last) [
        | inl same ↦ with-here local executed b x (subst (λ n. At local n x) (sym same) at)
        | inr none ↦ absurd (in-none a none)
      ]
    ];
    only = λ x h. elim (with-of local executed b x h) [
      | inl old ↦ elim (w.only x old) [
        | inl before ↦ inl before
        | inr there ↦ inr (there.0, Contains-append_left placed (b ∷ []) there.0 there.1, there.2)
      ]
      | inr here ↦ inr (b, Contains-append_right placed (b ∷ []) b (in-first b []), here)
    ];
  }

  -- what passes was not executed yet
  is-new : (placed : List ℕ) (executed : Node → Bool) (b : ℕ) (y : Node) → Walked placed executed → test b ≡ true → At local b y →
      (Contains placed b → ⊥) → executed y ≡ false
  is-new placed executed b y w passes at apart = not-true (executed y) (λ h. elim (w.only y h) [
    | inl before ↦ true-false (start y) before (new b y passes at)
    | inr there ↦ apart (subst (Contains placed) (nodes-once local is there.0 b y there.2 at) there.1)
  ])

  node-here : (b : ℕ) → b < nodes.graph.n → (y : Node) × At local b y
  node-here b below = below-at (node_list local) b (let many = are.count in subst (λ n. b < n) many below)

  news : (placed list : List ℕ) (executed : Node → Bool) → Follows nodes.graph placed list → Walked placed executed →
      AreNew local executed (filter test list)
  news placed [] executed follows w = tt
  news placed (b ∷ list) executed follows w =
      by (test b) refl (λ e. news (placed ++ b ∷ []) list e follows.1)
    where
      by : (t : Bool) → test b ≡ t →
          ((e : Node → Bool) → Walked (placed ++ b ∷ []) e → AreNew local e (filter test list)) →
          AreNew local executed (cond t (b ∷ filter test list) (filter test list))
      by true passes rest =
          let y = node-here b follows.0.may_stand.is_node in (
            record { node = y.0; at = y.1; is_new = is-new placed executed b y.0 w passes y.1 follows.0.may_stand.is_new },
            rest (with_node_at local executed b) (taken placed executed b w),
          )
      by false fails rest = rest executed (passed placed executed b fails w)

  -- they are new, one after another
  pub are-new : (order : List ℕ) → Follows nodes.graph [] order → AreNew local start (filter test order)
  are-new order follows = news [] order start follows begun

  module _ (needed : (a b : ℕ) (x : Node) → b < nodes.graph.n → a < nodes.graph.n → test b ≡ true → Needs nodes.graph b a → At local a x →
      (test a ≡ true) ⊎ (start x ≡ true)) where
    nexts : (placed list : List ℕ) (executed : Node → Bool) → ((a : ℕ) → Contains placed a → a < nodes.graph.n) →
        Follows nodes.graph placed list → Walked placed executed → AreNext local executed (filter test list)
    nexts placed [] executed inside follows w = tt
    nexts placed (b ∷ list) executed inside follows w =
        by (test b) refl (λ e. nexts (placed ++ b ∷ []) list e more follows.1)
      where
        more : (a : ℕ) → Contains (placed ++ b ∷ []) a → a < nodes.graph.n
        more a h = elim (Contains-append_cases placed (b ∷ []) a h) [
          | inl before ↦ inside a before
          | inr last ↦ elim (in-cases b a [] last) [
            | inl same ↦ subst (λ k. k < nodes.graph.n) same follows.0.may_stand.is_node
            | inr none ↦ absurd (in-none a none)
          ]
        ]

        here : test b ≡ true → IsNextAt local executed b
        here passes =
            let y = node-here b follows.0.may_stand.is_node in record {
              node = y.0;
              at = y.1;
              next = record {
                is_new = is-new placed executed b y.0 w passes y.1 follows.0.may_stand.is_new;
                needs = λ x among needs.
                    let a = at-in (node_list local) x among in
                    let edge = (are.edges a.0 b x y.0 a.1 y.1).1 needs in
                    let before = follows.0.may_stand.needs_placed a.0 edge in
                    elim (needed a.0 b x follows.0.may_stand.is_node (inside a.0 before) passes edge a.1) [
                      | inl its ↦ w.made a.0 x before its a.1
                      | inr old ↦ w.kept x old
                    ];
              };
            }

        by : (t : Bool) → test b ≡ t →
            ((e : Node → Bool) → Walked (placed ++ b ∷ []) e → AreNext local e (filter test list)) →
            AreNext local executed (cond t (b ∷ filter test list) (filter test list))
        by true passes rest = (here passes, rest (with_node_at local executed b) (taken placed executed b w))
        by false fails rest = rest executed (passed placed executed b fails w)

    -- where all that they need passes too or was executed, each can be executed after those before it
    pub are-next : (order : List ℕ) → Follows nodes.graph [] order → AreNext local start (filter test order)
    are-next order follows = nexts [] order start (λ a h. absurd (in-none a h)) follows begun
