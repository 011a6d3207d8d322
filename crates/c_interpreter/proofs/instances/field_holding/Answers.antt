use Rattle.std.proofs.Common.{arith, ◌∙◌, ◌+◌, ap}
use Rattle.c_syntax.specs.declared.program.Field.{Field}
use Rattle.c_syntax.specs.PlainField.{field_tree}
use Rattle.c_interpreter.specs.Numbering.{kind_count, fields_count}
use Rattle.c_interpreter.proofs.Numbered.{count_more, tree_there, take_trees}
use Rattle.c_interpreter.proofs.instances.field_holding.Goals as goal

pub returns-then-left-count-clause-found : goal.returns-then-left-count-clause-found
returns-then-left-count-clause-found c =
    record {
      field = field_tree c.index-fields-i.result;
      there = tree_there c.args.fields.now c.loop-i.i c.index-fields-i.result (omega arith) c.index-fields-i.is;
      inside = omega (arith, c.kind_count-count.ensures, ap (λ (f : Field). kind_count c.args.counts.now f.kind) c.index-fields-i.is);
      sum = c.loop-i.invariant ∙ ap (λ xs. fields_count c.args.counts.now xs + c.loop-i.left) (take_trees c.args.fields.now c.loop-i.i);
    }

pub loop-i-preserved : goal.loop-i-preserved
loop-i-preserved c =
    let more = count_more c.args.counts.now c.args.fields.now c.loop-i.i c.index-fields-i.result (omega arith) c.index-fields-i.is in
    omega (
      arith,
      c.kind_count-count.ensures,
      c.loop-i.invariant,
      ap (λ (f : Field). kind_count c.args.counts.now f.kind) c.index-fields-i.is,
    )
