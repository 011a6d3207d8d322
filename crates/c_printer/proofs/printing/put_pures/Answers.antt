use Rattle.std.proofs.Common.{arith, rules}
use Rattle.std.proofs.lemmas.Grind.{common_steps}
use Rattle.std.proofs.lemmas.List.Folds.{flat_map-map}
use Rattle.c_syntax.specs.Plain.{pure_tree, program_tree}
use Rattle.c_printer.specs.Printing.{pure_bytes}
use Rattle.c_printer.proofs.lemmas.ItemTexts.{flat_map-put}
use Rattle.c_printer.proofs.printing.put_pures.Goals as goal

pub loop-pure-preserved : goal.loop-pure-preserved
loop-pure-preserved c =
    let p = c.args.program.now in
    flat_map-put (λ q. pure_bytes (program_tree p) (pure_tree q)) p.pure.items c.loop-pure.pure-index c.pure-item.result
    c.args.out.now.items c.loop-pure.out.items c.put_pure.new.out.items (search rules)
    (search rules) c.loop-pure.invariant c.in_ok-put_pure.ensures

pub returns : goal.returns
returns c = grind (arith, common_steps, flat_map-map)
