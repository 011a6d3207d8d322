use Rattle.std.proofs.Common.{map}
use Rattle.c_syntax.specs.Plain.{pure_tree}
use Rattle.emit_linker.proofs.program.program_of.Goals as goal

pub returns : goal.returns
returns c =
    let pures = map pure_tree c.in_ok-prelude.field-0.items in (
      pures,
      c.in_ok-prelude.ensures.rules,
      c.in_ok-prelude.ensures.trees,
      λ j. record { pures = pures; structs = c.in_ok-structs.ensures j; procedures = c.in_ok-procedures.ensures j },
    )
