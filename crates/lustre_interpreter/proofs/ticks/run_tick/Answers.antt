use Rattle.std.proofs.Common.{ap, sym, ◌∙◌}
use Rattle.std.specs.List.{list_all}
use Rattle.lustre_flows.specs.Instances.{has_value}
use Rattle.lustre_solver.specs.Searching.{searching}
use Rattle.lustre_interpreter.proofs.Runs.{searches, whole_run, other_run}
use Rattle.lustre_interpreter.proofs.ticks.run_tick.Goals as goal

pub settle-requires-clause-search : goal.settle-requires-clause-search
settle-requires-clause-search c =
    searches c.args.frame.now c.args.instances.now (searching c.args.search.now) c.requires.ready c.args.row.now c.requires.row
    (searching c.start.new.self) c.start.ensures.room c.start.ensures.started

pub returns-then-are_whole-clause-run : goal.returns-then-are_whole-clause-run
returns-then-are_whole-clause-run c =
    whole_run c.args.frame.now c.args.instances.now (searching c.args.search.now) c.requires.ready c.args.row.now c.requires.row
    (searching c.start.new.self) (searching c.settle.new.self) c.start.ensures.room c.start.ensures.started c.settle.ensures.on
    c.settle.ensures.solves
    (ap (list_all has_value) (sym c.values.ensures) ∙ sym c.are_whole.ensures ∙ c.if-are_whole.true)

pub returns-else-are_whole-clause-run : goal.returns-else-are_whole-clause-run
returns-else-are_whole-clause-run c =
    other_run c.args.frame.now c.args.instances.now (searching c.args.search.now) c.requires.ready c.args.row.now c.requires.row
    (searching c.start.new.self) (searching c.settle.new.self) c.start.ensures.room c.start.ensures.started c.settle.ensures.on
    c.settle.ensures.solves c.place_of.result c.place_of.ensures
