-- A driver of a system, over a machine of the code that a model was compiled to.
use Rattle.std.proofs.Common.{◌≡◌, ℕ, List, refl, sym, ◌∙◌}
use Rattle.std.specs.Prelude.{Option}
use Rattle.diagram_meaning.specs.ResolvedTable.{ResolvedTable}
use Rattle.diagram_verdict.specs.Files.{AcceptedTablesAreWellFormed}
use Rattle.diagram_verdict.specs.Verdict.{HasVerdict, Accepted}
use Rattle.c_rules.specs.Reading.{CText}
use Rattle.c_reading_laws.specs.Agreement.{ReadingsAgree}
use Rattle.c_interpreter.specs.States.{MachineState, tree_of}
use Rattle.tool_compiled.specs.Compilation.{Compilation, IsCompilationOf}
use Rattle.tool_driver.specs.Driven.{Driven}
use Rattle.tool_system_driver.specs.Driving.{IsMachineOf, IsDrivenIn}
use Rattle.tool_system_driver.specs.SystemShapes.{IsSystemOfModel}
use Rattle.tool_endings.specs.declared.ending.Ending.{Ending}
use Rattle.tool_endings.specs.declared.ending.Ending.TheVariants.{CodeRefused, Stuck as IsStuck, NoMemory}
use Rattle.tool_endings.specs.Acting.{StartsFrom, NotStarted}
use Rattle.tool_steps.proofs.lemmas.RightStarts.{starts-right}

module _ (r : ResolvedTable) (c : Compilation) (bytes : List ℕ) (verdict : HasVerdict bytes (Accepted r))
    (right : IsCompilationOf r c) where
  -- a machine of the code can be driven
  pub machine-of : AcceptedTablesAreWellFormed → (m : MachineState) → StartsFrom c.code m → IsMachineOf m r
  machine-of formed m starts = record {
    bytes = c.code;
    of_right = record {
      program = m.program;
      read = starts.reading;
      started = record { same = refl; after = starts.started.0; run = starts.started.1; cells = starts.started.2 };
      right = right.code;
      formed = formed bytes r.table verdict.model.0;
      resolved = verdict.model.1;
      no_loop = verdict.no_loop;
    };
  }

  -- and what is driven in a program that the code is, in that machine
  pub driven-in : (m : MachineState) → StartsFrom c.code m → (s : Option ℕ) (w : Driven) → IsSystemOfModel r s w → CText c.code w.program →
      IsDrivenIn m r s w
  driven-in m starts s w same text =
      record { program = right.code.only w.program text ∙ sym (right.code.only (tree_of m) starts.reading); of_model = same }

  -- that there is none comes of memory alone
  pub not-driven : ReadingsAgree → (e : Ending) → NotStarted c.code e → e ≡ NoMemory
  not-driven agree NoMemory none = refl
  not-driven agree (CodeRefused fault) none = absurd (agree.apart c.code right.code.program fault right.code.reads none)
  not-driven agree (IsStuck at) none =
      absurd (starts-right r c right none.0 at none.2.0 none.1 none.2.1)
  not-driven agree _ none = absurd none
