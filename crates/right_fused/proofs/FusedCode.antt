-- Lawful code for a diagram is code for it when it is fused.
use Rattle.std.specs.Prelude.{◌≡◌, ℕ, List, [], map, slice_get, Some}
use Rattle.std.proofs.Common.{refl, sym, subst, ◌∙◌}
use Rattle.modules_profile.proofs.lemmas.Members.{at-map, map-at}
use Rattle.c_syntax.specs.Tree.{ProcedureTree, ProgramTree}
use Rattle.c_refinement.specs.Refinement.{kept_all, in_place}
use Rattle.emit_shape.specs.Faces.{stores}
use Rattle.emit_shape.specs.Programs.{procedure_at, field_in}
use Rattle.emit_shape.specs.Stored.{stored_names, has_stored}
use Rattle.emit_fused.specs.Fused.{fused_procedure, fused}
use Rattle.emit_fused.specs.Laws.{FusedIsLawful, FusedRefines}
use Rattle.right_refined.specs.Refined.{DifferInBodies, ComesFrom, OffersSame, RefinedIsCode}
use Rattle.right_fused.specs.Laws.{FusedIsCode}
use Rattle.right_fused.proofs.FusedRules.{stored-at}
use Rattle.right_fused.proofs.FusedShape.{same-head, shape-fused}

module _ (p : ProgramTree) where
  same-stored : (name : List ℕ) (k : ℕ) → stores (fused p) name k ≡ stores p name k
  same-stored name k =
      (λ i. has_stored (stored_names (λ j. (sym (same-head p j) i).private) (λ x f. (field_in p x.of f).name) []
      (map fused_procedure p.procedures)) k name)
      ∙ stored-at (λ j. (procedure_at p j).private) (λ of f. (field_in p of f).name) name p.procedures k

  alike : (h : ProcedureTree) → DifferInBodies h (fused_procedure h)
  alike h = record { heads = refl; of = refl }

  comes : (j : ℕ) (g : ProcedureTree) →
      ((h : ProcedureTree) × (slice_get p.procedures j ≡ Some h) × (fused_procedure h ≡ g)) → ComesFrom in_place p j g
  comes j g (h, there, is) = record {
    position = j;
    original = h;
    there = there;
    place_is = refl;
    alike = subst (DifferInBodies h) is (alike h);
  }

  offers-same : OffersSame kept_all in_place p (fused p)
  offers-same = record {
    kept = λ k h there offered. refl;
    found = λ k h there keeps. record { moved = fused_procedure h; there = at-map fused_procedure p.procedures k h there; alike = alike h };
    known = λ j g there. comes j g (map-at fused_procedure p.procedures j g there);
    stored = λ k h there offered name. same-stored name k;
  }

pub fused_is_code : FusedIsLawful → FusedRefines → RefinedIsCode → FusedIsCode
fused_is_code lawful refines refined p d delays hyper is code =
    refined p (map fused_procedure p.procedures) kept_all in_place d delays hyper is (lawful p is) (refines p) (offers-same p) code
    (shape-fused p d delays hyper code.shape)
