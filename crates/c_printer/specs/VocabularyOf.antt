-- The vocabulary of a scope, and its notes.
use Rattle.std.specs.Prelude.{ℕ, List, map}
use Rattle.c_printer.specs.declared.printing.names.Params.{Params}
use Rattle.c_printer.specs.declared.printing.names.Params.TheVariants.{Pure, Procedure}
use Rattle.c_printer.specs.declared.printing.names.Scope.{Scope}
use Rattle.c_syntax.specs.PlainField.{field_trees}
use Rattle.c_syntax.specs.Plain.{program_tree}
use Rattle.c_printer.specs.Printing.{Vocabulary}

-- the names of parameters
abbrev pub param_names : Params → List (List ℕ)
param_names (Pure params) = params.now
param_names (Procedure params) = map (λ q. q.0) params.now

-- the words of a scope
abbrev pub vocabulary_of : Scope → Vocabulary
vocabulary_of s =
    record {
      program = program_tree s.program.now;
      fields = field_trees s.fields.now;
      params = param_names s.params;
    }

-- the notes on the fields of a scope
abbrev pub scope_notes : Scope → List (List ℕ)
scope_notes s = map (λ note. note.items) s.notes.now
