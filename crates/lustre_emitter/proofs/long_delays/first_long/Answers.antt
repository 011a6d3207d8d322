use Rattle.std.proofs.Common.{◌≡◌, sym, ap, ◌∙◌, true, Bool, ℕ, nat_lt, option_map, get_or, Some}
use Rattle.std.proofs.lemmas.Bool.{lt-ltb}
use Rattle.std.proofs.lemmas.List.{get_or_default}
use Rattle.diagram_blocks.specs.declared.Op.TheVariants.{Nothing}
use Rattle.diagram_blocks.specs.Meaning.{delay_length}
use Rattle.diagram_meaning.specs.declared.table.Row.{Row}
use Rattle.diagram_meaning.specs.Rows.{row_at, no_row}
use Rattle.lustre_emitter.proofs.Searches.{first-row, no-row as none-long}
use Rattle.lustre_emitter.proofs.long_delays.first_long.Goals as goal

pub returns-then-samples_at-gt-SAMPLE_LIMIT : goal.returns-then-samples_at-gt-SAMPLE_LIMIT
returns-then-samples_at-gt-SAMPLE_LIMIT c =
    let rows = c.args.rows.now in
    let b = c.loop-b.b in
    let long : ℕ → Bool = λ k. nat_lt 64 (delay_length (get_or c.args.ops.now k Nothing)) in
    let here = c.index-rows-b.is ∙ get_or_default rows b c.index-rows-b.result no_row c.loop-b-test.true in
    let is : long b ≡ true =
    ap (nat_lt 64) (sym c.samples_at.ensures) ∙ lt-ltb _ _ c.if-samples_at-gt-SAMPLE_LIMIT.true in
    ap (λ (row : Row). Some row.place) here
    ∙ ap (option_map (λ k. (row_at rows k).place)) (sym (first-row rows long b c.loop-b-test.true c.loop-b.invariant is))

pub returns : goal.returns
returns c =
    let rows = c.args.rows.now in
    ap (option_map (λ k. (row_at rows k).place))
    (sym (none-long rows (λ k. nat_lt 64 (delay_length (get_or c.args.ops.now k Nothing))) c.loop-b.b c.loop-b-test.false
    c.loop-b.invariant))
