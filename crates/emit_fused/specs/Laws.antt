-- What holds of a lawful program holds of the fused one.
use Rattle.std.specs.Prelude.{◌≡◌}
use Rattle.c_syntax.specs.Tree.{ProgramTree}
use Rattle.c_syntax.specs.Lawful.{IsLawful, without_lines}
use Rattle.c_refinement.specs.Refinement.{RefinesBy, kept_all, in_place}
use Rattle.emit_fused.specs.Fused.{fused}

-- it keeps the static rules and the limits: nothing of it is deeper
abbrev pub FusedIsLawful : Type 0
FusedIsLawful = (p : ProgramTree) → IsLawful p → IsLawful (fused p)

-- it does the same in no more steps, lawful or not
abbrev pub FusedRefines : Type 0
FusedRefines = (p : ProgramTree) → RefinesBy in_place kept_all p (fused p)

-- what is fused isn't a matter of lines
abbrev pub FusingMindsNoLines : Type 0
FusingMindsNoLines = (p q : ProgramTree) → without_lines p ≡ without_lines q →
    without_lines (fused p) ≡ without_lines (fused q)
