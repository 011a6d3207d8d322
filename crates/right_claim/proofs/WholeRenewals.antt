-- The sample of whole right code starts and resets each system right, whatever its fields hold, and answers traces and scripts from
-- there.
use Rattle.std.specs.Prelude.{refl, ℕ, [], ◌∷◌, Option, Some, None}
use Rattle.std.specs.Fmt.{digits}
use Rattle.std.proofs.Common.{sym, true≢false, inr, lit≤}
use Rattle.diagram_meaning.specs.Laws.{LoopFreeHasOneRun}
use Rattle.modules_profile.specs.NodeFacts.{ProfilesAreOne}
use Rattle.c_syntax.specs.declared.CType.TheVariants.{I32, U8}
use Rattle.c_semantics.specs.Cells.{Cells}
use Rattle.emit_shape.specs.Names.{start_name, reset_name}
use Rattle.emit_shape.specs.Programs.{procedure_place}
use Rattle.right_relation.specs.Forms.{Forms, holds_number, holds_instance, forms_of}
use Rattle.right_claim.specs.Driving.{AnswersScripts}
use Rattle.right_claim.specs.Anew.{AreStarted, AreReset, HoldsInside, RenewsAll, AreRestarted, Restarts}
use Rattle.right_claim.specs.WholeSamples.{later_five, whole_program}
use Rattle.right_claim.proofs.SharedRenewals.{from-spelled}
use Rattle.right_claim.proofs.WholeRuns.{whole-takes}
use Rattle.right_claim.proofs.WholeScripts.{child_scripts, top_scripts, inner_scripts, whole_scripts}

abbrev child_forms : Forms
child_forms = forms_of (holds_number I32 ∷ holds_number I32 ∷ holds_number I32 ∷ holds_number I32 ∷ holds_number U8 ∷ [])

abbrev top_forms : Forms
top_forms = forms_of (holds_number I32 ∷ holds_instance child_forms ∷ holds_number U8 ∷ [])

abbrev whole_forms : Forms
whole_forms = forms_of (holds_number I32 ∷ holds_number I32 ∷ holds_instance top_forms ∷ [])

-- what is left of a system and of those inside
abbrev Started : Option ℕ → Cells → Cells → Type 0
Started s before after =
    HoldsInside whole_program later_five s (λ n old new. AreStarted whole_program later_five n new) before after
    × AnswersScripts whole_program later_five 1 [] s after

abbrev Reset : Option ℕ → Cells → Cells → Type 0
Reset s before after = HoldsInside whole_program later_five s (AreReset whole_program later_five) before after

module _ (law : LoopFreeHasOneRun) (profiles : ProfilesAreOne) where
  pub child_renews : RenewsAll whole_program later_five 1 (Some 0)
  unfolding digits
  child_renews = record {
    starts = from-spelled whole_program (procedure_place whole_program (start_name (Some 0))) child_forms (Started (Some 0))
        (λ c. (
          lit≤ tt,
          (
            record {
              here = record {
                forgotten = record { memories = (refl, tt); places = tt; taken = tt; trigger = λ h. absurd (true≢false (sym h)) };
                values = (refl, (refl, (refl, tt)));
                counters = (refl, tt);
              };
              inside = tt;
            },
            child_scripts law profiles,
          ),
        ));
    resets = from-spelled whole_program (procedure_place whole_program (reset_name (Some 0))) child_forms (Reset (Some 0))
        (λ c. (
          lit≤ tt,
          record {
            here = record {
              forgotten = record { memories = (refl, tt); places = tt; taken = tt; trigger = λ h. absurd (true≢false (sym h)) };
              values = (refl, (refl, (refl, tt)));
              counters = (inr refl, tt);
            };
            inside = tt;
          },
        ));
  }

  pub top_renews : RenewsAll whole_program later_five 1 None
  unfolding digits
  top_renews = record {
    starts = from-spelled whole_program (procedure_place whole_program (start_name None)) top_forms (Started None)
        (λ c. (
          lit≤ tt,
          (
            record {
              here = record {
                forgotten = record { memories = tt; places = tt; taken = tt; trigger = λ h. absurd (true≢false (sym h)) };
                values = (refl, tt);
                counters = (refl, tt);
              };
              inside = (
                record {
                  forgotten = record { memories = (refl, tt); places = tt; taken = tt; trigger = λ h. absurd (true≢false (sym h)) };
                  values = (refl, (refl, (refl, tt)));
                  counters = (refl, tt);
                },
                tt,
              );
            },
            top_scripts law profiles,
          ),
        ));
    resets = from-spelled whole_program (procedure_place whole_program (reset_name None)) top_forms (Reset None)
        (λ c. (
          lit≤ tt,
          record {
            here = record {
              forgotten = record { memories = tt; places = tt; taken = tt; trigger = λ h. absurd (true≢false (sym h)) };
              values = (refl, tt);
              counters = (inr refl, tt);
            };
            inside = (
              record {
                forgotten = record { memories = (refl, tt); places = tt; taken = tt; trigger = λ h. absurd (true≢false (sym h)) };
                values = (refl, (refl, (refl, tt)));
                counters = (inr refl, tt);
              },
              tt,
            );
          },
        ));
  }

  pub whole_restarts : Restarts whole_program later_five 1
  unfolding digits
  whole_restarts =
      from-spelled whole_program 10 whole_forms (AreRestarted whole_program later_five 1)
      (λ c. (
        lit≤ tt,
        record {
          tick = refl;
          top = record {
            here = record {
              forgotten = record { memories = tt; places = tt; taken = tt; trigger = λ h. absurd (true≢false (sym h)) };
              values = (refl, tt);
              counters = (refl, tt);
            };
            inside = (
              record {
                forgotten = record { memories = (refl, tt); places = tt; taken = tt; trigger = λ h. absurd (true≢false (sym h)) };
                values = (refl, (refl, (refl, tt)));
                counters = (refl, tt);
              },
              tt,
            );
          };
          outputs = refl;
          traces = whole-takes law _;
          scripts = (whole_scripts law profiles _, (inner_scripts law profiles _, tt));
        },
      ))
