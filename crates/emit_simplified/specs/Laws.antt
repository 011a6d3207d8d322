-- What holds of a lawful program holds of the simplified one.
use Rattle.c_syntax.specs.Tree.{ProgramTree}
use Rattle.c_syntax.specs.Lawful.{IsLawful}
use Rattle.c_refinement.specs.Refinement.{RefinesBy}
use Rattle.emit_pruned.specs.Calls.{NoneIdle}
use Rattle.emit_inlined.specs.Inlined.{stays, place}
use Rattle.emit_simplified.specs.Simplified.{simplified}

abbrev pub SimplifiedIsLawful : Type 0
SimplifiedIsLawful = (p : ProgramTree) → IsLawful p → IsLawful (simplified p)

-- it does the same in no more steps
abbrev pub SimplifiedRefines : Type 0
SimplifiedRefines = (p : ProgramTree) → IsLawful p → RefinesBy (place p) (stays p) p (simplified p)

-- each pure function of it is called
abbrev pub SimplifiedHasNoneIdle : Type 0
SimplifiedHasNoneIdle = (p : ProgramTree) → IsLawful p → NoneIdle (simplified p)
