-- The program of a delay is started and reset right, whatever its fields hold; one whose reset does nothing is refused.
use Rattle.std.specs.Prelude.{◌≡◌, refl, ℕ, ◌==◌, false, [], ◌∷◌, None, pos, nat_abs}
use Rattle.std.specs.Fmt.{digits}
use Rattle.std.proofs.Common.{sym, ap, ◌∙◌, lit≤, true≢false}
use Rattle.std.proofs.lemmas.Bool.{eq-eqb}
use Rattle.c_syntax.specs.declared.CType.TheVariants.{I32}
use Rattle.c_semantics.specs.Cells.{Cells, number, no_cells, more_cells}
use Rattle.emit_shape.specs.Names.{start_name, reset_name}
use Rattle.emit_shape.specs.Programs.{procedure_place, struct_place}
use Rattle.right_relation.specs.Forms.{Forms, holds_number, forms_of}
use Rattle.right_claim.specs.Anew.{AreStarted, AreReset, HoldsInside, FromAnyFields, RenewsAll}
use Rattle.right_claim.specs.DelaySamples.{one_delay, delay_program, empty_reset}
use Rattle.right_claim.proofs.SharedRenewals.{from-spelled}

-- three values and the memory
abbrev top_forms : Forms
top_forms = forms_of (holds_number I32 ∷ holds_number I32 ∷ holds_number I32 ∷ holds_number I32 ∷ [])

starts : FromAnyFields delay_program (struct_place delay_program None) (procedure_place delay_program (start_name None))
    (HoldsInside delay_program one_delay None (λ n old new. AreStarted delay_program one_delay n new))
unfolding digits
starts =
    from-spelled delay_program (procedure_place delay_program (start_name None)) top_forms
    (HoldsInside delay_program one_delay None (λ n old new. AreStarted delay_program one_delay n new))
    (λ c. (
      lit≤ tt,
      record {
        here = record {
          forgotten = record { memories = (refl, tt); places = tt; taken = tt; trigger = λ h. absurd (true≢false (sym h)) };
          values = (refl, (refl, (refl, tt)));
          counters = tt;
        };
        inside = tt;
      },
    ))

resets : FromAnyFields delay_program (struct_place delay_program None) (procedure_place delay_program (reset_name None))
    (HoldsInside delay_program one_delay None (AreReset delay_program one_delay))
unfolding digits
resets =
    from-spelled delay_program (procedure_place delay_program (reset_name None)) top_forms
    (HoldsInside delay_program one_delay None (AreReset delay_program one_delay))
    (λ c. (
      lit≤ tt,
      record {
        here = record {
          forgotten = record { memories = (refl, tt); places = tt; taken = tt; trigger = λ h. absurd (true≢false (sym h)) };
          values = (refl, (refl, (refl, tt)));
          counters = tt;
        };
        inside = tt;
      },
    ))

-- the memory holds 9
abbrev midst : Cells
midst = more_cells (number (pos 9)) (more_cells (number (pos 9)) (more_cells (number (pos 9)) (more_cells (number (pos 9)) no_cells)))

apart : (a b : ℕ) → (a == b) ≡ false → pos a ≡ pos b → ⊥
apart a b differ e = true≢false (sym (eq-eqb a b (ap nat_abs e)) ∙ differ)

empty : RenewsAll empty_reset one_delay 1 None → ⊥
unfolding digits
empty h = apart 9 0 refl (h.resets midst (refl, (refl, (refl, (refl, tt))))).1.here.forgotten.memories.0
