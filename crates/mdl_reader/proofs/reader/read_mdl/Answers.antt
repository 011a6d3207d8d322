use Rattle.std.proofs.Common.{◌≡◌, ◌+◌, length, ◌∙◌, ap, refl, arith}
use Rattle.std.proofs.lemmas.List.{length_push}
use Rattle.std.proofs.lemmas.Result.{err_from_is_err_and}
use Rattle.std.specs.Str.Lines.{lines}
use Rattle.base_core.specs.Numbers.{reported_number}
use Rattle.mdl_tree.specs.Text.{statements_from}
use Rattle.mdl_reader.specs.Builders.{within_begun, outcome}
use Rattle.mdl_reader.proofs.LinesLemmas.{lines_is}
use Rattle.mdl_reader.proofs.ReaderLemmas.{outcome-start, outcome-line, fault_at_line, tree_at_end}
use Rattle.mdl_reader.proofs.reader.read_mdl.Goals as goal

pub loop-text-init : goal.loop-text-init
loop-text-init c =
    let texts = lines c.args.bytes.now in
    let builder = c.new-builder.result in
    let given = c.into_iter-text-iterator.ensures.into_iter_gives ∙ c.lines-text-items.ensures.value ∙ lines_is c.args.bytes.now in
    record {
      number = refl;
      count = omega (arith, ap length given);
      read = ap
          (λ ts. outcome (reported_number (length texts)) builder (statements_from (within_begun builder.begun) 1 ts))
          given ∙ outcome-start builder texts c.new-builder.ensures;
    }

pub loop-text-preserved : goal.loop-text-preserved
loop-text-preserved c =
    let last = reported_number (length (lines c.args.bytes.now)) in
    let old = c.loop-text.builder in
    let new = c.take_line.new.self in
    let n = length c.loop-text.yielded in
    let more = length_push c.loop-text.yielded c.in-Some.text in
    let number : c.saturating_add-line.result ≡ reported_number (n + 1) = omega arith in
    record {
      number = omega arith;
      count = omega (arith, ap length c.in-Some.ensures.steps);
      read = ap (λ k. outcome last new (statements_from (within_begun new.begun) (k + 1) c.next.new.self)) more
          ∙ outcome-line last (n + 1) _ old new _ _ _ _ number c.trim.ensures c.in-Some.ensures.steps
          c.in_ok-take_line.ensures ∙ c.loop-text.invariant.read;
    }

pub returns-in_err-take_line-clause-fault : goal.returns-in_err-take_line-clause-fault
returns-in_err-take_line-clause-fault c =
    let p = err_from_is_err_and c.from_residual.result c.from_residual.ensures.1 in
    let n = length c.loop-text.yielded in
    let number : c.saturating_add-line.result ≡ reported_number (n + 1) = omega arith in
    rw (p.1, p.2)
    (fault_at_line _ c.args.bytes.now (n + 1) _ c.loop-text.builder _ _ _ _ _ number c.trim.ensures
    c.in-Some.ensures.steps c.loop-text.invariant.read
    c.in_err-take_line.ensures)

pub returns-clause-tree : goal.returns-clause-tree
returns-clause-tree c =
    let number : c.loop-text.line ≡ reported_number (length (lines c.args.bytes.now)) =
    omega (arith, ap length c.in-None.ensures.steps.0) in
    (tree_at_end c.args.bytes.now _ _ c.loop-text.builder _ c.finish.result number c.in-None.ensures.steps.0
    c.loop-text.invariant.read c.finish.ensures).0

pub returns-clause-fault : goal.returns-clause-fault
returns-clause-fault c =
    let number : c.loop-text.line ≡ reported_number (length (lines c.args.bytes.now)) =
    omega (arith, ap length c.in-None.ensures.steps.0) in
    (tree_at_end c.args.bytes.now _ _ c.loop-text.builder _ c.finish.result number c.in-None.ensures.steps.0
    c.loop-text.invariant.read c.finish.ensures).1
