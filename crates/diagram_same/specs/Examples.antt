-- Two accumulators in a chain, which are the same; and with a conversion between them, which are
-- not.
use Rattle.std.specs.Prelude.{set, ◌≡◌, refl, ℕ, ◌+◌, false, List, [], ◌∷◌, ◌++◌, replicate, Some, None}
use Rattle.std.proofs.Common.{ap, true≢false, ◌==◌}
use Rattle.diagram_blocks.specs.declared.Kind.TheVariants.{Inport, Outport, SubSystem, Sum, UnitDelay, Convert}
use Rattle.base_core.specs.declared.Control.TheVariants.{Plain}
use Rattle.base_fixed_point.specs.Types.{int16, int32}
use Rattle.base_fixed_point.specs.declared.FixType.{FixType}
use Rattle.diagram_meaning.specs.declared.table.Row.{Row}
use Rattle.diagram_meaning.specs.SampleTimes.{every_tick}
use Rattle.diagram_meaning.specs.Diagram.{Diagram, op_in}
use Rattle.diagram_meaning.specs.Rows.{by_row}
use Rattle.diagram_meaning.specs.RunExamples.{simple, row, how, zero_initial}
use Rattle.diagram_same.specs.Same.{AreSame, rows_inside, subsystem_rows}

-- subsystem e with its input x, the sum of x and of the sum before, that sum a tick later, and the
-- output; row c enters it
abbrev pub accumulator : (e c : ℕ) → List Row
accumulator e c =
    row None (SubSystem Plain) [] ∷ row (Some e) (Inport 1) (c ∷ [])
    ∷ row (Some e) (Sum 2 0 how) ((e + 1) ∷ (e + 3) ∷ [])
    ∷ row (Some e) (UnitDelay zero_initial) ((e + 2) ∷ [])
    ∷ row (Some e) (Outport 1 false zero_initial) ((e + 2) ∷ []) ∷ []

-- In1, A, B, Out1
abbrev pub chain : Diagram
chain =
    simple (row None (Inport 1) [] ∷ accumulator 1 0 ++ accumulator 6 5
    ++ row None (Outport 1 false zero_initial) (10 ∷ []) ∷ [])

inside_a : rows_inside chain.rows 1 ≡ 2 ∷ 3 ∷ 4 ∷ 5 ∷ []
inside_a = refl

inside_b : rows_inside chain.rows 6 ≡ 7 ∷ 8 ∷ 9 ∷ 10 ∷ []
inside_b = refl

subsystems : subsystem_rows chain.rows ≡ 1 ∷ 6 ∷ []
subsystems = refl

pub chain_same : AreSame chain 1 6
chain_same = record {
  rows = (
    record {
      op = refl;
      role = refl;
      type = refl;
      time = record { period = refl; offset = refl };
      inputs = tt;
      owner = refl;
    },
    (
      record {
        op = refl;
        role = refl;
        type = refl;
        time = record { period = refl; offset = refl };
        inputs = (refl, (refl, tt));
        owner = refl;
      },
      (
        record {
          op = refl;
          role = refl;
          type = refl;
          time = record { period = refl; offset = refl };
          inputs = (refl, tt);
          owner = refl;
        },
        (
          record {
            op = refl;
            role = refl;
            type = refl;
            time = record { period = refl; offset = refl };
            inputs = (refl, tt);
            owner = refl;
          },
          tt,
        ),
      ),
    ),
  );
  control = refl;
  control_types = refl;
}

-- ---- One type differs

-- In1, A, C to int16, B, Out1
abbrev converted_rows : List Row
converted_rows =
    row None (Inport 1) [] ∷ accumulator 1 0 ++ row None (Convert how) (5 ∷ []) ∷ accumulator 7 6
    ++ row None (Outport 1 false zero_initial) (11 ∷ []) ∷ []

abbrev converted_types : List FixType
converted_types = replicate 6 int32 ++ replicate 7 int16

abbrev pub converted : Diagram
converted =
    record {
      rows = converted_rows;
      types = converted_types;
      ops = by_row converted_rows (op_in converted_rows converted_types []);
      run = replicate 13 every_tick;
    }

-- the inputs of A and B, the first rows inside, have 32 and 16 bits
pub converted_differ : AreSame converted 1 7 → ⊥
converted_differ same = true≢false (ap (λ (t : FixType). t.bits == 32) same.rows.0.type)

-- ---- One type alone differs

-- the chain with an output of B in 16 bits
abbrev pub narrow_output : Diagram
narrow_output =
    record {
      rows = chain.rows;
      types = set chain.types 10 int16;
      ops = chain.ops;
      run = chain.run;
    }

-- the outputs, the fourth rows inside, differ
pub narrow_output_differs : AreSame narrow_output 1 6 → ⊥
narrow_output_differs same =
    true≢false (ap (λ (t : FixType). t.bits == 32) same.rows.1.1.1.0.type)
