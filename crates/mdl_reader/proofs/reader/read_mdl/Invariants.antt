use Rattle.std.proofs.Common.{◌≡◌, ◌+◌, length}
use Rattle.std.specs.Str.Lines.{lines}
use Rattle.base_core.specs.Numbers.{reported_number}
use Rattle.mdl_tree.specs.Text.{statements_from}
use Rattle.mdl_reader.specs.Builders.{outcome, within_begun}
use Rattle.mdl_reader.proofs.TreeLemmas.{text_outcome}
use Rattle.mdl_reader.proofs.reader.read_mdl.Given as goal

abbrev pub invariant-loop-text : goal.invariant-loop-text
invariant-loop-text l = record {
  number : l.line ≡ reported_number (length l.yielded);
  count : length l.yielded + length l.text-iterator ≡ length (lines l.fn.bytes);
  read : outcome (reported_number (length (lines l.fn.bytes))) l.builder
      (statements_from (within_begun l.builder.begun) (length l.yielded + 1) l.text-iterator)
      ≡ text_outcome (lines l.fn.bytes);
}
