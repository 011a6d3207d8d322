use Rattle.std.proofs.Common.{◌≡◌, ◌++◌, take, drop, map, []}
use Rattle.c_syntax.specs.Tree.{exprs_of_list}
use Rattle.c_syntax.specs.Plain.{expr_tree, program_tree}
use Rattle.c_semantics.specs.Machine.{arguments}
use Rattle.c_semantics.specs.Values.{and_then, gives, functions_of, reads}
use Rattle.c_interpreter.specs.Answers.{IsLater}
use Rattle.c_interpreter.specs.Reads.{AreNarrowExprs}
use Rattle.c_interpreter.specs.Frames.{cells_in}
use Rattle.c_interpreter.proofs.frames.Environment.put_arguments.Given as goal

abbrev pub invariant-loop-i : goal.invariant-loop-i
invariant-loop-i l =
    let p = program_tree l.self.frame.now.code.program in
    let leaf = reads l.self.frame.now.values.now (cells_in l.self.frame.now l.self.numbers.now) in
    record {
      narrow : AreNarrowExprs (exprs_of_list (map expr_tree (drop l.i l.values)));
      later : IsLater l.initial.steps l.steps;
      value : arguments (functions_of [] p.pures) leaf l.self.line (map (λ q. q.1) l.params)
          (exprs_of_list (map expr_tree l.values)) l.initial.steps
          ≡ and_then (arguments (functions_of [] p.pures) leaf l.self.line (map (λ q. q.1) (drop l.i l.params))
          (exprs_of_list (map expr_tree (drop l.i l.values))) l.steps) (λ vs end. gives (take l.i l.out ++ vs) end);
    }
