use Rattle.std.proofs.Common.{◌≡◌, map}
use Rattle.c_syntax.specs.Outputs.{has_name, output_name, numbers_from}
use Rattle.c_outputs.proofs.OutputLaws.{Pass}
use Rattle.c_outputs.proofs.outputs.outputs_among.Given as goal

abbrev pub invariant-loop-before : goal.invariant-loop-before
invariant-loop-before l = record {
  found : l.found.items ≡ map output_name (numbers_from 1 l.before);
  passed : Pass (λ k. has_name (map (λ n. n.now) l.names) (output_name k)) l.before;
}
