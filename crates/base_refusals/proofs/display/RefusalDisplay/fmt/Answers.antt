use Rattle.std.proofs.Common.{rules, sym, ◌++◌, ◌∷◌, flat_map, codes}
use Rattle.std.specs.Fmt.{HasWritten}
use Rattle.std.proofs.Output.{has_written_of_eq}
use Rattle.base_refusals.specs.Refusals.{line_word}
use Rattle.base_refusals.proofs.PhraseLaws.{refusal_phrase-Loop}
use Rattle.base_refusals.proofs.display.RefusalDisplay.fmt.Goals as goal

pub returns-in-Loop-clause-writes : goal.returns-in-Loop-clause-writes
returns-in-Loop-clause-writes g c = λ plain ok.
    let rows = c.in-Loop.rows.items in
    let written : HasWritten {W = g.row.W.Denot} g.W.Write.write_str_gives c.args.f.now
    (codes "F23 Loop" ++ flat_map (λ place. 32 ∷ line_word place) rows) c.write-in-Loop.new.self = search rules in
    has_written_of_eq _ _ _ _ _ (rw c.in-Loop.is (sym (refusal_phrase-Loop rows))) written
