use Rattle.std.proofs.Common.{◌≡◌, ◌++◌, map, drop}
use Rattle.c_syntax.specs.Plain.{expr_tree}
use Rattle.emit_row_code.specs.RowCode as code
use Rattle.emit_row_code.proofs.exact.terms.Given as goal

abbrev pub invariant-loop-i : goal.invariant-loop-i
invariant-loop-i l =
    map expr_tree l.terms.items ++ code.term_codes l.minus l.common l.i (drop l.i l.fracs) (drop l.i l.inputs)
    ≡ code.term_codes l.minus l.common 0 l.fracs l.inputs
