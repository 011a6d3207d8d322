use Rattle.std.proofs.Common.{rules, ◌≤◌, drop, length, map, arith}
use Rattle.c_syntax.specs.Plain.{expr_tree}
use Rattle.emit_row_code.specs.RowCode as code
use Rattle.emit_row_code.proofs.Terms.{terms_end}
use Rattle.emit_row_code.proofs.lemmas.Writable.{at_most_greatest}
use Rattle.emit_row_code.proofs.exact.terms.Goals as goal

pub returns-in_default : goal.returns-in_default
returns-in_default c =
    let a = c.args in
    let i = c.loop-i.i in
    let over : length a.inputs.now ≤ i = search rules in
    terms_end (map expr_tree c.loop-i.terms.items) (code.term_codes a.minus a.common 0 a.fracs.now a.inputs.now) a.minus
    a.common i (drop i a.fracs.now) a.inputs.now over c.loop-i.invariant

pub aligned-requires-clause-finer : goal.aligned-requires-clause-finer
aligned-requires-clause-finer c =
    omega (arith, at_most_greatest c.args.fracs.now c.loop-i.i, c.requires.finest, c.from.ensures, c.from-in-loop-i.ensures)
