-- The program of a root and its shared child starts and resets each system right, whatever its fields hold.
use Rattle.std.specs.Prelude.{◌≡◌, refl, ℕ, ◌≤◌, [], ◌∷◌, Option, Some, None}
use Rattle.std.specs.Fmt.{digits}
use Rattle.std.proofs.Common.{sym, ap, ap₂, subst, inr, lit≤, true≢false}
use Rattle.modules_profile.specs.LocalSamples.{shared_child}
use Rattle.c_syntax.specs.declared.CType.TheVariants.{I32, U8}
use Rattle.c_semantics.specs.Cells.{Cell, number, items, object, Cells, no_cells, more_cells, cell_value, cell_items, cell_fields, cell_at}
use Rattle.c_syntax.specs.Tree.{ProgramTree}
use Rattle.c_semantics.specs.Machine.{routine_at, program_routines}
use Rattle.emit_shape.specs.Names.{start_name, reset_name}
use Rattle.emit_shape.specs.Programs.{procedure_place, struct_place}
use Rattle.right_relation.specs.Forms.{Form, Forms, holds_number, holds_array, holds_instance, no_forms, more_forms, HasForm, HasForms, forms_of}
use Rattle.right_relation.specs.Instances.{OnDone}
use Rattle.right_claim.specs.Anew.{field_count, AreStarted, AreReset, HoldsInside, FromAnyFields}
use Rattle.right_claim.specs.SharedSamples.{shared_program}

-- ---- Fields of a form, spelled out

-- the fields after the first
abbrev behind_first : Cells → Cells
behind_first no_cells = no_cells
behind_first (more_cells c cells) = cells

abbrev mutual
  pub spelled_cell : Form → Cell → Cell
  spelled_cell (holds_number type) c = number (cell_value c)
  spelled_cell (holds_array type count) c = items (cell_items c)
  spelled_cell (holds_instance fields) c = object (spelled fields (cell_fields c))

  -- the numbers of these fields, in fields of the form
  pub spelled : Forms → Cells → Cells
  spelled no_forms cells = no_cells
  spelled (more_forms form forms) cells = more_cells (spelled_cell form (cell_at cells 0)) (spelled forms (behind_first cells))

mutual
  pub spelled_cell-is : (form : Form) (c : Cell) → HasForm form c → spelled_cell form c ≡ c
  spelled_cell-is (holds_number type) (number v) h = refl
  spelled_cell-is (holds_number type) (items vs) h = absurd h
  spelled_cell-is (holds_number type) (object cells) h = absurd h
  spelled_cell-is (holds_array type count) (number v) h = absurd h
  spelled_cell-is (holds_array type count) (items vs) h = refl
  spelled_cell-is (holds_array type count) (object cells) h = absurd h
  spelled_cell-is (holds_instance fields) (number v) h = absurd h
  spelled_cell-is (holds_instance fields) (items vs) h = absurd h
  spelled_cell-is (holds_instance fields) (object cells) h = ap object (spelled-is fields cells h)

  -- fields of the form are these
  pub spelled-is : (forms : Forms) (cells : Cells) → HasForms forms cells → spelled forms cells ≡ cells
  spelled-is no_forms no_cells h = refl
  spelled-is no_forms (more_cells c cells) h = absurd h
  spelled-is (more_forms form forms) no_cells h = absurd h
  spelled-is (more_forms form forms) (more_cells c cells) h = ap₂ more_cells (spelled_cell-is form c h.0) (spelled-is forms cells h.1)

-- so what a procedure makes of any fields of the form is what it makes of fields that are spelled out
pub from-spelled : (p : ProgramTree) (procedure : ℕ) (forms : Forms) (P : Cells → Cells → Type 0) →
    ((c : Cells) → OnDone ((routine_at (program_routines p) procedure).run [] (spelled forms c) 0)
    (λ a. (a.steps ≤ field_count forms) × P (spelled forms c) a.cells)) →
    (before : Cells) → HasForms forms before →
    OnDone ((routine_at (program_routines p) procedure).run [] before 0) (λ a. (a.steps ≤ field_count forms) × P before a.cells)
from-spelled p procedure forms P of_spelled before has =
    subst (λ c. OnDone ((routine_at (program_routines p) procedure).run [] c 0) (λ a. (a.steps ≤ field_count forms) × P c a.cells))
    (spelled-is forms before has) (of_spelled before)

-- ---- The forms of the child, of `top` and of `root`

abbrev child_forms : Forms
child_forms = forms_of (holds_number I32 ∷ holds_number I32 ∷ holds_number U8 ∷ [])

abbrev top_forms : Forms
top_forms =
    forms_of (holds_number I32 ∷ holds_number I32 ∷ holds_number I32 ∷ holds_number I32 ∷ holds_number I32
    ∷ holds_instance child_forms ∷ holds_number U8 ∷ holds_number U8 ∷ holds_number U8 ∷ [])

-- ---- Starts and resets

-- from any fields a system and those inside are started, and reset
abbrev Starts : Option ℕ → Type 0
Starts s =
    FromAnyFields shared_program (struct_place shared_program s) (procedure_place shared_program (start_name s))
    (HoldsInside shared_program shared_child s (λ n old new. AreStarted shared_program shared_child n new))

abbrev Resets : Option ℕ → Type 0
Resets s =
    FromAnyFields shared_program (struct_place shared_program s) (procedure_place shared_program (reset_name s))
    (HoldsInside shared_program shared_child s (AreReset shared_program shared_child))

child_starts : Starts (Some 2)
unfolding digits
child_starts =
    from-spelled shared_program (procedure_place shared_program (start_name (Some 2))) child_forms
    (HoldsInside shared_program shared_child (Some 2) (λ n old new. AreStarted shared_program shared_child n new))
    (λ c. (
      lit≤ tt,
      record {
        here = record {
          forgotten = record { memories = tt; places = tt; taken = tt; trigger = λ h. absurd (true≢false (sym h)) };
          values = (refl, (refl, tt));
          counters = (refl, tt);
        };
        inside = tt;
      },
    ))

child_resets : Resets (Some 2)
unfolding digits
child_resets =
    from-spelled shared_program (procedure_place shared_program (reset_name (Some 2))) child_forms
    (HoldsInside shared_program shared_child (Some 2) (AreReset shared_program shared_child))
    (λ c. (
      lit≤ tt,
      record {
        here = record {
          forgotten = record { memories = tt; places = tt; taken = tt; trigger = λ h. absurd (true≢false (sym h)) };
          values = (refl, (refl, tt));
          counters = (inr refl, tt);
        };
        inside = tt;
      },
    ))

top_starts : Starts None
unfolding digits
top_starts =
    from-spelled shared_program (procedure_place shared_program (start_name None)) top_forms
    (HoldsInside shared_program shared_child None (λ n old new. AreStarted shared_program shared_child n new))
    (λ c. (
      lit≤ tt,
      record {
        here = record {
          forgotten = record { memories = tt; places = tt; taken = tt; trigger = λ h. absurd (true≢false (sym h)) };
          values = (refl, (refl, (refl, (refl, (refl, tt)))));
          counters = (refl, (refl, (refl, tt)));
        };
        inside = (
          record {
            forgotten = record { memories = tt; places = tt; taken = tt; trigger = λ h. absurd (true≢false (sym h)) };
            values = (refl, (refl, tt));
            counters = (refl, tt);
          },
          tt,
        );
      },
    ))

top_resets : Resets None
unfolding digits
top_resets =
    from-spelled shared_program (procedure_place shared_program (reset_name None)) top_forms
    (HoldsInside shared_program shared_child None (AreReset shared_program shared_child))
    (λ c. (
      lit≤ tt,
      record {
        here = record {
          forgotten = record { memories = tt; places = tt; taken = tt; trigger = λ h. absurd (true≢false (sym h)) };
          values = (refl, (refl, (refl, (refl, (refl, tt)))));
          counters = (inr refl, (inr refl, (inr refl, tt)));
        };
        inside = (
          record {
            forgotten = record { memories = tt; places = tt; taken = tt; trigger = λ h. absurd (true≢false (sym h)) };
            values = (refl, (refl, tt));
            counters = (inr refl, tt);
          },
          tt,
        );
      },
    ))
