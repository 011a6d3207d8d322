-- Code that is moved calls its private procedures and tests its counters, where positions stand for the same names.
use Rattle.std.specs.Prelude.{◌≡◌, ℕ, ◌<◌, MatchBool, List, map, flat_map, Contains, ⊤, refl}
use Rattle.std.specs.List.{AllByRecursion}
use Rattle.std.proofs.Common.{sym, subst, ◌∙◌}
use Rattle.modules_profile.proofs.lemmas.LawfulSteps.{of-flat_map}
use Rattle.modules_profile.proofs.lemmas.Members.{in-map, of-map}
use Rattle.c_syntax.specs.declared.Leaf.{Leaf}
use Rattle.c_syntax.specs.Tree.{CondTree, ParamTree, ProcedureTree}
use Rattle.emit_shape.specs.NamedLeaf.{own}
use Rattle.emit_shape.specs.CodeNames.{CodeNames, named_leaf, named_leaves}
use Rattle.emit_shape.specs.Once.{call_sites}
use Rattle.emit_shape.specs.Reads.{CallSite, cond_leaves, tests_in, calls_in}
use Rattle.emit_shape.specs.Relocation.{Relocation, moved_number, moved_leaf, moved_cond, moved_procedure}
use Rattle.emit_shape.specs.Used.{tested_in, AreUsed}
use Rattle.right_linking.proofs.lemmas.AssembledPlaces.{member}
use Rattle.right_program_interfaces.proofs.AllowedReads.{IsNamed}
use Rattle.right_program_interfaces.proofs.Lists.{each, each-mapped, flat-kept}
use Rattle.right_program_interfaces.proofs.MovedRules.{sites-same}
use Rattle.right_program_interfaces.proofs.MovedSites.{cond-leaves, tests-moved}

module _ (n l : CodeNames) (m : Relocation) (count : ℕ)
    (own-same : (f : ℕ) → n.own f ≡ l.own f)
    (leaf-same : (params : List ParamTree) (leaf : Leaf) → IsNamed (named_leaf l params leaf) → named_leaf n params (moved_leaf m leaf)
    ≡ named_leaf l params leaf)
    (callee-same : (k : ℕ) → k < count → n.callee (moved_number m k) ≡ l.callee k) where
  -- a field that a test reads
  test-kept : (params : List ParamTree) (name : List ℕ) (test : CondTree) → Contains (named_leaves l params (cond_leaves test)) (own name) →
      Contains (named_leaves n params (cond_leaves (moved_cond m test))) (own name)
  test-kept params name test has =
      let (leaf, there, is) = of-map (named_leaf l params) (cond_leaves test) (own name) has in
      subst (λ leaves. Contains (named_leaves n params leaves) (own name)) (sym (cond-leaves m test))
      (subst (Contains (named_leaves n params (map (moved_leaf m) (cond_leaves test))))
      (leaf-same params leaf (subst IsNamed (sym is) refl) ∙ is)
      (in-map (named_leaf n params) (map (moved_leaf m) (cond_leaves test)) (moved_leaf m leaf)
      (in-map (moved_leaf m) (cond_leaves test) leaf there)))

  tested-kept : (name : List ℕ) (q : ProcedureTree) → Contains (tested_in l q) (own name) →
      Contains (tested_in n (moved_procedure m q)) (own name)
  tested-kept name q has =
      subst (λ tests. Contains (flat_map (λ test. named_leaves n q.params (cond_leaves test)) tests) (own name))
      (sym (tests-moved m q.body))
      (flat-kept (λ test. named_leaves l q.params (cond_leaves test)) (λ test. named_leaves n q.params (cond_leaves test))
      (moved_cond m) (own name) (λ test read. test-kept q.params name test read) (tests_in q.body) has)

  module _ (counters : List (List ℕ)) (qs : List ProcedureTree)
      (within : AllByRecursion (λ (q : ProcedureTree). AllByRecursion (λ (c : CallSite). c.procedure < count) (calls_in q.body)) qs) where
    call-within : (c : CallSite) → Contains (flat_map (λ (q : ProcedureTree). calls_in q.body) qs) c → c.procedure < count
    call-within c has =
        let (q, among, there) = of-flat_map (λ (q : ProcedureTree). calls_in q.body) qs c has in
        member (λ (z : CallSite). z.procedure < count) (calls_in q.body) c
        (member (λ (z : ProcedureTree). AllByRecursion (λ (c : CallSite). c.procedure < count) (calls_in z.body)) qs q within among) there

    pub used-kept : AreUsed l counters qs → AreUsed n counters (map (moved_procedure m) qs)
    used-kept used = record {
      called = each-mapped (λ (q : ProcedureTree). MatchBool q.private (0 < call_sites l qs q.name) ⊤)
          (λ (q : ProcedureTree). MatchBool q.private (0 < call_sites n (map (moved_procedure m) qs) q.name) ⊤)
          (moved_procedure m) qs
          (λ q some. subst (λ k. MatchBool q.private (0 < k) ⊤)
          (sym (sites-same n l m count own-same leaf-same callee-same qs call-within q.name)) some) used.called;
      read = each (λ name. Contains (flat_map (tested_in l) qs) (own name))
          (λ name. Contains (flat_map (tested_in n) (map (moved_procedure m) qs)) (own name)) counters
          (λ name has read. flat-kept (tested_in l) (tested_in n) (moved_procedure m) (own name) (λ q tested. tested-kept name q tested) qs
          read) used.read;
    }
