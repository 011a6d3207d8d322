-- Calls of helpers whose bodies go where they are called: the helper is there, and each of its parameters is the caller's of that name.
use Rattle.std.specs.Prelude.{◌≡◌, ℕ, zero, suc, ◌<◌, true, false, List, [], ◌∷◌, length, Some, slice_get, slice_index_or}
use Rattle.std.specs.List.{AllZip}
use Rattle.std.proofs.Common.{refl, sym, ap, subst, ◌∙◌, arith}
use Rattle.c_syntax.specs.declared.code.Leaf.{Leaf}
use Rattle.c_syntax.specs.declared.code.Leaf.TheVariants.{Param, Own, Child}
use Rattle.c_syntax.specs.declared.code.Target.TheVariants as target
use Rattle.c_syntax.specs.Tree.{ExprTree, read, ExprTrees, no_exprs, more_exprs, StmtTree, call, ParamTree, ProcedureTree, ProgramTree, list_of_exprs}
use Rattle.c_syntax.specs.Lawful.{IsLawfulStmt}
use Rattle.c_semantics.specs.Machine.{is_interface}
use Rattle.emit_shape.specs.NamedLeaf.{param}
use Rattle.emit_shape.specs.CodeNames.{CodeNames, no_param, named_leaf, IsReadOf}
use Rattle.emit_inlined.specs.Inlined.{helper_call, moved_leaf}
use Rattle.emit_inlined.proofs.lemmas.AtPositions.{reach_of}
use Rattle.emit_inlined.proofs.lemmas.CallCounts.{CallsHelper, helper_call-found, helper-is}
use Rattle.emit_inlined.proofs.lemmas.KeptPlaces.{take-found}
use Rattle.emit_inlined.proofs.lemmas.PassedParams.{ReadParams, params_of-read}
use Rattle.emit_inlined.proofs.lemmas.Staying.{procedure-at}
use Rattle.right_inlined.proofs.LawfulSites.{IsInside}

-- a statement of a procedure x at position k calls the helper `found.0` on `s` with the parameters `found.1`
pub record HasHelper (p : ProgramTree) (k : ℕ) (x : ProcedureTree) (s : StmtTree) (found : ℕ × List ℕ) : Type 0 where
  pub line : ℕ
  pub values : ExprTrees
  pub is : s ≡ call line found.0 target.Own values
  pub reads : ReadParams values found.1
  pub helper : ProcedureTree
  pub there : slice_get p.procedures found.0 ≡ Some helper
  pub before : found.0 < k
  pub of : helper.of ≡ x.of
  pub private : helper.private ≡ true
  pub unlogged : is_interface helper.name ≡ false

pub has-helper : (p : ProgramTree) (k : ℕ) (x : ProcedureTree) (s : StmtTree) (found : ℕ × List ℕ) → IsLawfulStmt (reach_of p k x) s →
    helper_call p s ≡ Some found → HasHelper p k x s found
has-helper p k x s found lawful h =
    let c = helper_call-found p s found h in
    by c (subst (IsLawfulStmt (reach_of p k x)) c.is lawful)
  where
    by : (c : CallsHelper p s found) → IsLawfulStmt (reach_of p k x) (call c.line found.0 target.Own c.values) → HasHelper p k x s found
    by c (helper, there, of, count, all) =
        let place = take-found p.procedures found.0 k helper there in
        let at = procedure-at p found.0 helper place.1 in
        let what = helper-is p found.0 c.helper in record {
          line = c.line;
          values = c.values;
          is = c.is;
          reads = params_of-read c.values found.1 c.params;
          helper = helper;
          there = place.1;
          before = place.0;
          of = sym of;
          private = ap (λ (y : ProcedureTree). y.private) (sym at) ∙ what.private;
          unlogged = ap (λ (y : ProcedureTree). is_interface y.name) (sym at) ∙ what.unlogged;
        }

-- ---- Names of parameters

-- a plain read of a parameter is of the name that it has
name-read : (n : CodeNames) (params : List ParamTree) (name : List ℕ) (e : ExprTree) (k : ℕ) → IsReadOf n params (param name) e →
    e ≡ read (Param k) → (slice_index_or params k no_param).name ≡ name
name-read n params name e k (leaf, is, named) same =
    let leaves : leaf ≡ Param k = cc in
    let names : param (slice_index_or params k no_param).name ≡ param name = ap (named_leaf n params) (sym leaves) ∙ named in cc

passed-names : (n : CodeNames) (params wanted : List ParamTree) (es : ExprTrees) (ks : List ℕ) →
    AllZip (λ (w : ParamTree) e. IsReadOf n params (param w.name) e) wanted (list_of_exprs es) → ReadParams es ks → (i : ℕ) → i < length wanted →
    (slice_index_or params (slice_index_or ks i 0) no_param).name ≡ (slice_index_or wanted i no_param).name
passed-names n params [] es ks h reads i inside = absurd (omega (arith, inside))
passed-names n params (w ∷ wanted) no_exprs ks h reads i inside = absurd h
passed-names n params (w ∷ wanted) (more_exprs e es) [] h reads i inside = absurd reads
passed-names n params (w ∷ wanted) (more_exprs e es) (k ∷ ks) h reads zero inside = name-read n params w.name e k h.0 reads.0
passed-names n params (w ∷ wanted) (more_exprs e es) (k ∷ ks) h reads (suc i) inside =
    passed-names n params wanted es ks h.1 reads.1 i (omega (arith, inside))

-- so each leaf of the helper is named as before
pub leaf-names : (n : CodeNames) (params wanted : List ParamTree) (es : ExprTrees) (ks : List ℕ) (place : ℕ → ℕ) →
    AllZip (λ (w : ParamTree) e. IsReadOf n params (param w.name) e) wanted (list_of_exprs es) → ReadParams es ks → (leaf : Leaf) →
    IsInside (length wanted) leaf → named_leaf n params (moved_leaf (λ i. slice_index_or ks i 0) place leaf) ≡ named_leaf n wanted leaf
leaf-names n params wanted es ks place h reads (Param i) inside = ap param (passed-names n params wanted es ks h reads i inside)
leaf-names n params wanted es ks place h reads (Own f) inside = refl
leaf-names n params wanted es ks place h reads (Child f g) inside = refl
