use Rattle.std.proofs.Common.{◌≡◌, ℕ, List, map, drop, length}
use Rattle.c_syntax.specs.Plain.{pure_tree}
use Rattle.emit_pruned.specs.Needed.{needed_from}
use Rattle.emit_pruned.specs.Marks.{flags_of}
use Rattle.emit_pruned.proofs.marks.mark_pures.Given as goal

abbrev pub invariant-loop-position : goal.invariant-loop-position
invariant-loop-position l = record {
  long : length l.needed ≡ length l.pures;
  marks : (later : List ℕ) → l.initial.needed ≡ flags_of (length l.pures) later →
      l.needed ≡ flags_of (length l.pures) (needed_from later l.position (drop l.position (map pure_tree l.pures)));
}
