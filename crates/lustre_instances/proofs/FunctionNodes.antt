-- The nodes of the eight functions: each gives at every tick what it gives of its inputs.
use Rattle.std.specs.Prelude.{◌≡◌, ℕ, zero, suc, ◌<◌, ℤ, List, [], ◌∷◌, map, take, drop, length, slice_index_or, Option, Some, None, option_map, refl}
use Rattle.std.proofs.Common.{sym, ap, ap₂, ◌∙◌, arith}
use Rattle.c_syntax.specs.Tree.{PureTree}
use Rattle.emit_prelude.specs.Bodies.{function_with, zero_body, function_trees}
use Rattle.lustre_syntax.specs.Tree.{ExprTree, NodeTree, node_at, texts_of}
use Rattle.lustre_syntax.specs.Named.{renamed, place_of, all_names, placed_node}
use Rattle.lustre_syntax.specs.Lawful.{AreNodes}
use Rattle.lustre_flows.specs.Values.{value_at, value_of, evaluate}
use Rattle.lustre_flows.specs.Instances.{Instance, Instances, instance, values_in, outputs_of, fresh, fresh_instances, pass_at, pass_of, passes_of}
use Rattle.lustre_settling.specs.Solutions.{holding_of, holdings_of}
use Rattle.lustre_settling.proofs.lemmas.Unfolded.{fresh-unfolded, pass-unfolded}
use Rattle.lustre_system.specs.FromC.{value_from}
use Rattle.lustre_system.specs.Functions.{param_name, function_name, function_node}
use Rattle.lustre_system.specs.FunctionRules.{called}

-- the function at a place, its node, and the value of that node's one equation
abbrev pub tree_at : ℕ → PureTree
tree_at k = slice_index_or function_trees k (function_with [] [] zero_body)

abbrev pub function_at : List (List ℕ) → ℕ → NodeTree
function_at texts k = placed_node texts (function_node (tree_at k))

abbrev body : ℕ → ExprTree
body k =
    renamed (place_of (texts_of (all_names (function_node (tree_at k)))))
    (value_from (param_name (tree_at k).params) function_name (λ n. []) 0 (tree_at k).body)

-- ---- Lists of inputs and an output

module _ (e : ExprTree) (before : Option (List (Option ℤ))) (w : Option ℤ) where
  -- the value of the expression over two numbers, and over three
  abbrev OfTwo : List ℤ → Type 0
  OfTwo numbers =
      (x y : ℤ) (r : Option ℤ) → numbers ≡ x ∷ y ∷ [] → value_of (evaluate before (Some x ∷ Some y ∷ r ∷ []) e) ≡ w

  abbrev OfThree : List ℤ → Type 0
  OfThree numbers =
      (x y z : ℤ) (r : Option ℤ) → numbers ≡ x ∷ y ∷ z ∷ [] →
      value_of (evaluate before (Some x ∷ Some y ∷ Some z ∷ r ∷ []) e) ≡ w

  two-outputs : (vs : List (Option ℤ)) (numbers : List ℤ) → length vs ≡ 3 → take 2 vs ≡ map Some numbers →
      value_at vs 2 ≡ value_of (evaluate before vs e) → OfTwo numbers → take 1 (drop 2 vs) ≡ w ∷ []
  two-outputs [] numbers many first second same = absurd (omega arith)
  two-outputs (a ∷ []) numbers many first second same = absurd (omega arith)
  two-outputs (a ∷ c ∷ []) numbers many first second same = absurd (omega arith)
  two-outputs (a ∷ c ∷ r ∷ u ∷ vs) numbers many first second same = absurd (omega arith)
  two-outputs (a ∷ c ∷ r ∷ []) [] many first second same = absurd (let wrong : ⊥ = cc first in wrong)
  two-outputs (a ∷ c ∷ r ∷ []) (x ∷ []) many first second same = absurd (let wrong : ⊥ = cc first in wrong)
  two-outputs (a ∷ c ∷ r ∷ []) (x ∷ y ∷ z ∷ numbers) many first second same = absurd (let wrong : ⊥ = cc first in wrong)
  two-outputs (a ∷ c ∷ r ∷ []) (x ∷ y ∷ []) many first second same =
      let one : a ≡ Some x = cc first in
      let two : c ≡ Some y = cc first in
      ap (λ (o : Option ℤ). o ∷ [])
      (second ∙ ap₂ (λ (p q : Option ℤ). value_of (evaluate before (p ∷ q ∷ r ∷ []) e)) one two ∙ same x y r refl)

  three-outputs : (vs : List (Option ℤ)) (numbers : List ℤ) → length vs ≡ 4 → take 3 vs ≡ map Some numbers →
      value_at vs 3 ≡ value_of (evaluate before vs e) → OfThree numbers → take 1 (drop 3 vs) ≡ w ∷ []
  three-outputs [] numbers many first second same = absurd (omega arith)
  three-outputs (a ∷ []) numbers many first second same = absurd (omega arith)
  three-outputs (a ∷ c ∷ []) numbers many first second same = absurd (omega arith)
  three-outputs (a ∷ c ∷ d ∷ []) numbers many first second same = absurd (omega arith)
  three-outputs (a ∷ c ∷ d ∷ r ∷ u ∷ vs) numbers many first second same = absurd (omega arith)
  three-outputs (a ∷ c ∷ d ∷ r ∷ []) [] many first second same = absurd (let wrong : ⊥ = cc first in wrong)
  three-outputs (a ∷ c ∷ d ∷ r ∷ []) (x ∷ []) many first second same = absurd (let wrong : ⊥ = cc first in wrong)
  three-outputs (a ∷ c ∷ d ∷ r ∷ []) (x ∷ y ∷ []) many first second same = absurd (let wrong : ⊥ = cc first in wrong)
  three-outputs (a ∷ c ∷ d ∷ r ∷ []) (x ∷ y ∷ z ∷ u ∷ numbers) many first second same = absurd (let wrong : ⊥ = cc first in wrong)
  three-outputs (a ∷ c ∷ d ∷ r ∷ []) (x ∷ y ∷ z ∷ []) many first second same =
      let one : a ≡ Some x = cc first in
      let two : c ≡ Some y = cc first in
      let three : d ≡ Some z = cc first in
      ap (λ (o : Option ℤ). o ∷ [])
      (second
      ∙ ap (λ (p : Option ℤ). value_of (evaluate before (p ∷ c ∷ d ∷ r ∷ []) e)) one
      ∙ ap₂ (λ (p q : Option ℤ). value_of (evaluate before (Some x ∷ p ∷ q ∷ r ∷ []) e)) two three ∙ same x y z r refl)

-- ---- The nodes

module _ (nodes : List NodeTree) (lawful : AreNodes [] nodes) (texts : List (List ℕ)) where
  -- what a node gives in one pass
  abbrev passed : NodeTree → List ℤ → Option ℤ
  passed n numbers =
      value_at
      (outputs_of n
      (pass_of nodes (passes_of nodes) n None (map Some numbers) (fresh (fresh_instances nodes) n))) 0

  called-is : (k : ℕ) (n : NodeTree) → k < length nodes → node_at nodes k ≡ n → (numbers : List ℤ) →
      passed n numbers ≡ called nodes k numbers
  called-is k n below is numbers =
      sym
      (ap (λ (i : Instance). value_at (outputs_of (node_at nodes k) i) 0)
      (ap (pass_at (passes_of nodes) k None (map Some numbers)) (fresh-unfolded nodes lawful k below)
      ∙ pass-unfolded nodes lawful k below None (map Some numbers) (fresh (fresh_instances nodes) (node_at nodes k)))
      ∙ ap (λ m. passed m numbers) is)

  -- an instance of the node of function k, at any tick, gives what is called
  abbrev pub GivesTheCalled : ℕ → Type 0
  GivesTheCalled k =
      (numbers : List ℤ) (before : Option Instance) (vs : List (Option ℤ)) (cs : Instances) → k < length nodes →
      node_at nodes k ≡ function_at texts k → length vs ≡ length (function_at texts k).names →
      holding_of nodes (holdings_of nodes) (function_at texts k) before (map Some numbers) (instance vs cs) →
      outputs_of (function_at texts k) (instance vs cs) ≡ called nodes k numbers ∷ []

  -- where the node has two inputs, or three
  abbrev SameOfTwo : ℕ → Type 0
  SameOfTwo k =
      (before : Option (List (Option ℤ))) (x y : ℤ) (r : Option ℤ) →
      value_of (evaluate before (Some x ∷ Some y ∷ r ∷ []) (body k)) ≡ passed (function_at texts k) (x ∷ y ∷ [])

  abbrev SameOfThree : ℕ → Type 0
  SameOfThree k =
      (before : Option (List (Option ℤ))) (x y z : ℤ) (r : Option ℤ) →
      value_of (evaluate before (Some x ∷ Some y ∷ Some z ∷ r ∷ []) (body k)) ≡ passed (function_at texts k) (x ∷ y ∷ z ∷ [])

  of-two : (k : ℕ) (numbers : List ℤ) (before : Option (List (Option ℤ))) → k < length nodes → node_at nodes k ≡ function_at texts k →
      SameOfTwo k → OfTwo (body k) before (called nodes k numbers) numbers
  of-two k numbers before below is same x y r list =
      same before x y r ∙ called-is k (function_at texts k) below is (x ∷ y ∷ []) ∙ ap (called nodes k) (sym list)

  of-three : (k : ℕ) (numbers : List ℤ) (before : Option (List (Option ℤ))) → k < length nodes → node_at nodes k ≡ function_at texts k →
      SameOfThree k → OfThree (body k) before (called nodes k numbers) numbers
  of-three k numbers before below is same x y z r list =
      same before x y z r ∙ called-is k (function_at texts k) below is (x ∷ y ∷ z ∷ []) ∙ ap (called nodes k) (sym list)

  pub gives-the-called : (k : ℕ) → k < 8 → GivesTheCalled k
  gives-the-called zero few numbers before vs cs below is many hold =
      two-outputs (body 0) (option_map values_in before) (called nodes 0 numbers) vs numbers many hold.0 hold.1.0
      (of-two 0 numbers (option_map values_in before) below is (λ b x y r. refl))
  gives-the-called (suc zero) few numbers before vs cs below is many hold =
      two-outputs (body 1) (option_map values_in before) (called nodes 1 numbers) vs numbers many hold.0 hold.1.0
      (of-two 1 numbers (option_map values_in before) below is (λ b x y r. refl))
  gives-the-called (suc (suc zero)) few numbers before vs cs below is many hold =
      two-outputs (body 2) (option_map values_in before) (called nodes 2 numbers) vs numbers many hold.0 hold.1.0
      (of-two 2 numbers (option_map values_in before) below is (λ b x y r. refl))
  gives-the-called (suc (suc (suc zero))) few numbers before vs cs below is many hold =
      two-outputs (body 3) (option_map values_in before) (called nodes 3 numbers) vs numbers many hold.0 hold.1.0
      (of-two 3 numbers (option_map values_in before) below is (λ b x y r. refl))
  gives-the-called (suc (suc (suc (suc zero)))) few numbers before vs cs below is many hold =
      two-outputs (body 4) (option_map values_in before) (called nodes 4 numbers) vs numbers many hold.0 hold.1.0
      (of-two 4 numbers (option_map values_in before) below is (λ b x y r. refl))
  gives-the-called (suc (suc (suc (suc (suc zero))))) few numbers before vs cs below is many hold =
      two-outputs (body 5) (option_map values_in before) (called nodes 5 numbers) vs numbers many hold.0 hold.1.0
      (of-two 5 numbers (option_map values_in before) below is (λ b x y r. refl))
  gives-the-called (suc (suc (suc (suc (suc (suc zero)))))) few numbers before vs cs below is many hold =
      three-outputs (body 6) (option_map values_in before) (called nodes 6 numbers) vs numbers many hold.0 hold.1.0
      (of-three 6 numbers (option_map values_in before) below is (λ b x y z r. refl))
  gives-the-called (suc (suc (suc (suc (suc (suc (suc zero))))))) few numbers before vs cs below is many hold =
      three-outputs (body 7) (option_map values_in before) (called nodes 7 numbers) vs numbers many hold.0 hold.1.0
      (of-three 7 numbers (option_map values_in before) below is (λ b x y z r. refl))
  gives-the-called (suc (suc (suc (suc (suc (suc (suc (suc k)))))))) few numbers before vs cs below is many hold =
      absurd (omega arith)
