-- What a program offers is at its place in the one that refines it: by name, and each system's output procedures.
use Rattle.std.specs.Prelude.{◌≡◌, ℕ, ◌+◌, ◌<◌, ◌≤◌, not, Bool, true, false, ◌||◌, List, map, length, slice_get, Contains, Option, Some, unwrap_or}
use Rattle.std.specs.List.{range_with_len}
use Rattle.std.proofs.Common.{sym, ap, subst, ◌∙◌, arith}
use Rattle.std.proofs.lemmas.Simd.{map-map}
use Rattle.diagram_meaning.specs.Diagram.{Diagram}
use Rattle.diagram_meaning.specs.Needs.{AreTrueNeeds}
use Rattle.modules_profile.specs.Functions.{functions_for}
use Rattle.modules_profile.specs.Systems.{systems}
use Rattle.modules_profile.proofs.lemmas.Members.{of-map, of-range}
use Rattle.c_syntax.specs.Tree.{ProcedureTree, ProgramTree}
use Rattle.c_syntax.specs.Lawful.{pure_names, procedure_names}
use Rattle.c_syntax.proofs.lemmas.NameFacts.{AreDistinct-back}
use Rattle.emit_shape.specs.Names.{out_name, update_name, start_name, reset_name, root_start_name, root_step_name}
use Rattle.emit_shape.specs.Heads.{Head}
use Rattle.emit_shape.specs.Faces.{out_places}
use Rattle.emit_shape.specs.Programs.{procedure_place}
use Rattle.c_refinement.specs.Laws.{KeepsNamed}
use Rattle.right_refined.specs.Refined.{with_procedures, is_offered, OffersSame}
use Rattle.right_refined.proofs.Lists.{map-same, name-place}
use Rattle.right_refined.proofs.OutCounts.{counted}
use Rattle.right_refined.proofs.PublicProcedures.{IsShaped, StandsNamed, place-is, start-stands, step-stands, count, count-is, needs, are-needs, out-stands, update-stands, start_procedure-stands, reset-stands}

-- a procedure at a position of p that others may call
pub record OfferedAt (p : ProgramTree) (k : ℕ) : Type 0 where
  pub procedure : ProcedureTree
  pub there : slice_get p.procedures k ≡ Some procedure
  pub offered : is_offered procedure ≡ true

-- what a system has: its public procedures at their places, and all its output procedures
pub record KeepsSystem (place : ℕ → ℕ) (keeps : ℕ → Bool) (p q : ProgramTree) (d : Diagram) (s : Option ℕ) : Type 0 where
  pub out : (needs : List ℕ) → AreTrueNeeds d s needs → (j : ℕ) → 0 < j → j ≤ length (functions_for needs) →
      KeepsNamed place keeps p q (out_name s j)
  pub update : KeepsNamed place keeps p q (update_name s)
  pub start : KeepsNamed place keeps p q (start_name s)
  pub reset : KeepsNamed place keeps p q (reset_name s)
  pub outs : out_places q s ≡ map place (out_places p s)
  pub offered : (k : ℕ) → Contains (out_places p s) k → OfferedAt p k

pub record KeepsAll (place : ℕ → ℕ) (keeps : ℕ → Bool) (p q : ProgramTree) (d : Diagram) : Type 0 where
  pub root_start : KeepsNamed place keeps p q root_start_name
  pub root_step : KeepsNamed place keeps p q root_step_name
  pub system : (s : Option ℕ) → Contains (systems d.rows) s → KeepsSystem place keeps p q d s

private-offered : (h : ProcedureTree) (t : Bool) → h.private ≡ false → (not h.private || t) ≡ true
private-offered h t public = ap (λ b. not b || t) public

module _ (p : ProgramTree) (procedures : List ProcedureTree) (keeps : ℕ → Bool) (place : ℕ → ℕ) (d : Diagram) (shaped : IsShaped p d)
    (others : IsShaped (with_procedures p procedures) d) (offers : OffersSame keeps place p (with_procedures p procedures)) where
  abbrev q : ProgramTree
  q = with_procedures p procedures

  offered : (name : List ℕ) (w : StandsNamed p name) → is_offered w.procedure ≡ true
  offered name w = private-offered w.procedure _ w.public

  kept-named : (name : List ℕ) → StandsNamed p name → KeepsNamed place keeps p q name
  kept-named name w =
      let number = place-is p d shaped name w in
      let kept = offers.kept w.number w.procedure w.there (offered name w) in
      let found = offers.found w.number w.procedure w.there kept in
      let there = name-place (λ (h : ProcedureTree). h.name) procedures (place w.number) found.moved name
      (AreDistinct-back (pure_names p.pures) (procedure_names procedures) others.lawful.functions) found.there
      (ap (λ (z : Head). z.name) found.alike.heads ∙ w.named) in record {
        kept = ap keeps number ∙ kept;
        moved = ap (λ k. unwrap_or k 0) there ∙ ap place (sym number);
      }

  module _ (s : Option ℕ) (has : Contains (systems d.rows) s) where
    abbrev many : ℕ
    many = count p d shaped s has

    out-kept : (j : ℕ) → 1 ≤ j → j < 1 + many → KeepsNamed place keeps p q (out_name s j)
    out-kept j low high = kept-named (out_name s j) (out-stands p d shaped s has j low high)

    -- both have as many output procedures
    as-many : count q d others s has ≡ many
    as-many =
        let wanted = needs p d shaped s has in
        let are = are-needs p d shaped s has in
        count-is q d others s has wanted are
        ∙ sym (count-is p d shaped s has wanted are)

    abbrev places_in : ProgramTree → ℕ → List ℕ
    places_in x n = map (λ j. procedure_place x (out_name s j)) (range_with_len 1 n)

    here-counted : out_places p s ≡ places_in p many
    here-counted = ap (places_in p) (counted p d shaped s has)

    there-counted : out_places q s ≡ places_in q many
    there-counted = ap (places_in q) (counted q d others s has ∙ as-many)

    outs-moved : out_places q s ≡ map place (out_places p s)
    outs-moved =
        there-counted
        ∙ map-same (λ j. place (procedure_place p (out_name s j))) (λ j. procedure_place q (out_name s j)) (range_with_len 1 many)
        (λ j among. let within = of-range 1 many j among in (out-kept j within.0 within.1).moved)
        ∙ sym (map-map place (λ j. procedure_place p (out_name s j)) (range_with_len 1 many)) ∙ ap (map place) (sym here-counted)

    out-offered : (k : ℕ) → Contains (out_places p s) k → OfferedAt p k
    out-offered k among =
        let made = of-map (λ j. procedure_place p (out_name s j)) (range_with_len 1 many) k
        (subst (λ ks. Contains ks k) here-counted among) in
        let within = of-range 1 many made.0 made.1 in
        let w = out-stands p d shaped s has made.0 within.0 within.1 in
        let at = place-is p d shaped (out_name s made.0) w in
        subst (OfferedAt p) (sym at ∙ made.2)
        (record { procedure = w.procedure; there = w.there; offered = offered (out_name s made.0) w })

    system-kept : KeepsSystem place keeps p q d s
    system-kept = record {
      out = λ wanted are j low high. out-kept j (omega (arith, low))
          (let same = count-is p d shaped s has wanted are in omega (arith, high, same));
      update = kept-named (update_name s) (update-stands p d shaped s has);
      start = kept-named (start_name s) (start_procedure-stands p d shaped s has);
      reset = kept-named (reset_name s) (reset-stands p d shaped s has);
      outs = outs-moved;
      offered = out-offered;
    }

  pub all-kept : KeepsAll place keeps p q d
  all-kept = record {
    root_start = kept-named root_start_name (start-stands p d shaped);
    root_step = kept-named root_step_name (step-stands p d shaped);
    system = system-kept;
  }
