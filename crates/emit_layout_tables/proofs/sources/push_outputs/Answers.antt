use Rattle.std.proofs.Common.{ℕ, List, ◌++◌, ◌∷◌, [], map, take, append_assoc, sym, ap, ◌∙◌}
use Rattle.std.specs.List.{enumerate_from}
use Rattle.base_fixed_point.specs.declared.types.FixType.{FixType}
use Rattle.emit_system_spec.specs.declared.source.Source.{Source}
use Rattle.emit_system_spec.specs.Sources.{output_source}
use Rattle.emit_row_facts.proofs.lemmas.Steps.{map-enumerate-more}
use Rattle.emit_layout_tables.proofs.sources.push_outputs.Goals as goal

pub loop-k-preserved : goal.loop-k-preserved
loop-k-preserved c =
    let source = output_source c.args.field in
    let k = c.loop-k.k in
    let outputs = c.args.outputs.now in
    let x = c.index-outputs-k.result in
    let front = map source (enumerate_from 0 (take k outputs)) in
    c.in_ok-push.ensures.items ∙ ap (λ (l : List Source). l ++ source (k, x) ∷ []) c.loop-k.invariant
    ∙ append_assoc c.args.list.now.items front (source (k, x) ∷ [])
    ∙ ap (λ (y : ℕ × FixType). c.args.list.now.items ++ (front ++ source (k, y) ∷ [])) c.index-outputs-k.is
    ∙ ap (λ (l : List Source). c.args.list.now.items ++ l) (sym (map-enumerate-more source outputs k x c.loop-k-test.true))
