-- Lawful code for a diagram is code for it when its helpers are inlined.
use Rattle.std.specs.Prelude.{◌≡◌, ℕ, not, ◌||◌, Bool, true, false, map, slice_get, Some}
use Rattle.std.proofs.Common.{refl, ap, subst, ◌∙◌}
use Rattle.c_syntax.specs.Tree.{ProcedureTree, ProgramTree}
use Rattle.c_syntax.specs.Lawful.{IsLawful}
use Rattle.c_semantics.specs.Machine.{is_interface}
use Rattle.emit_inlined.specs.Inlined.{procedure_at, stays, place, kept_from, inlined_procedure, inlined}
use Rattle.emit_inlined.specs.Laws.{InlinedIsLawful, InlinedRefines}
use Rattle.emit_inlined.proofs.lemmas.CallCounts.{public-stays, logged-stays}
use Rattle.emit_inlined.proofs.lemmas.Staying.{Was, procedure-at, stays-at, was}
use Rattle.right_refined.specs.Refined.{DifferInBodies, is_offered, ComesFrom, OffersSame, RefinedIsCode}
use Rattle.right_inlined.specs.Laws.{InlinedIsCode}
use Rattle.right_inlined.proofs.InlinedShape.{shape-inlined}
use Rattle.right_inlined.proofs.InlinedStored.{same-stored}

module _ (p : ProgramTree) where
  alike : (h : ProcedureTree) → DifferInBodies h (inlined_procedure p h)
  alike h = record { heads = refl; of = refl }

  -- what is public or logged stays
  offered-stays : (k : ℕ) (h : ProcedureTree) → slice_get p.procedures k ≡ Some h → is_offered h ≡ true → stays p k ≡ true
  offered-stays k h there offered =
      by h.private refl (is_interface h.name) refl offered
    where
      at : procedure_at p k ≡ h
      at = procedure-at p k h there

      by : (b : Bool) → h.private ≡ b → (c : Bool) → is_interface h.name ≡ c → (not b || c) ≡ true → stays p k ≡ true
      by false public c logged is = public-stays p k (ap (λ (y : ProcedureTree). y.private) at ∙ public)
      by true private true logged is = logged-stays p k (ap (λ (y : ProcedureTree). is_interface y.name) at ∙ logged)
      by true private false unlogged is = absurd (let wrong : ⊥ = cc is in wrong)

  comes : (j : ℕ) (g : ProcedureTree) → Was p j g → ComesFrom (place p) p j g
  comes j g w = record {
    position = w.position;
    original = w.procedure;
    there = w.there;
    place_is = w.at;
    alike = subst (DifferInBodies w.procedure) w.is (alike w.procedure);
  }

  offers-same : IsLawful p → IsLawful (inlined p) → OffersSame (stays p) (place p) p (inlined p)
  offers-same lawful moved = record {
    kept = offered-stays;
    found = λ k h there keep. record { moved = inlined_procedure p h; there = stays-at p k h there keep; alike = alike h };
    known = λ j g there. comes j g (was p j g there);
    stored = λ k h there offered name. same-stored p lawful.procedures moved.procedures name k h there (offered-stays k h there offered);
  }

pub inlined_is_code : InlinedIsLawful → InlinedRefines → RefinedIsCode → InlinedIsCode
inlined_is_code lawful refines refined p d delays hyper is code =
    refined p (map (inlined_procedure p) (kept_from (stays p) 0 p.procedures)) (stays p) (place p) d delays hyper is (lawful p is) (refines p is)
    (offers-same p is (lawful p is)) code (shape-inlined p is d delays hyper code.shape)
