-- What holds of a lawful program holds of the one without helpers.
use Rattle.std.specs.Prelude.{◌≡◌}
use Rattle.c_syntax.specs.Tree.{ProgramTree}
use Rattle.c_syntax.specs.Lawful.{IsLawful, without_lines}
use Rattle.c_refinement.specs.Refinement.{RefinesBy}
use Rattle.emit_inlined.specs.Inlined.{stays, place, inlined}

-- it keeps the static rules and the limits: a helper's body is no deeper than it was
abbrev pub InlinedIsLawful : Type 0
InlinedIsLawful = (p : ProgramTree) → IsLawful p → IsLawful (inlined p)

-- it does the same in no more steps, at each call of a procedure that stays
abbrev pub InlinedRefines : Type 0
InlinedRefines = (p : ProgramTree) → IsLawful p → RefinesBy (place p) (stays p) p (inlined p)

-- what is inlined isn't a matter of lines
abbrev pub InliningMindsNoLines : Type 0
InliningMindsNoLines = (p q : ProgramTree) → without_lines p ≡ without_lines q →
    without_lines (inlined p) ≡ without_lines (inlined q)
