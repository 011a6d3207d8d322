use Rattle.std.proofs.Common.{◌≡◌, ℕ, List, Option, None, length, get_or, ap, ◌∙◌, rules, arith}
use Rattle.std.proofs.lemmas.List.FromFn.{get_or-map-range_with_len}
use Rattle.diagram_meaning.specs.SampleTimes.{outermost_trigger}
use Rattle.diagram_times.proofs.triggers.trigger_at.Goals as goal

pub returns : goal.returns
returns c =
    let rows = c.args.rows.now in
    let read : c.unwrap_or.result ≡ get_or c.args.triggers.now c.args.b None = search rules in
    read ∙ ap (λ (xs : List (Option ℕ)). get_or xs c.args.b None) c.requires.triggers
    ∙ get_or-map-range_with_len (outermost_trigger rows) 0 (length rows) c.args.b c.args.b None c.requires.row (omega arith)
