-- The cycle of a resolved model is one of each of its systems.
use Rattle.std.specs.Prelude.{◌≡◌, ◌%◌, slice_index_or}
use Rattle.std.proofs.Common.{sym, subst}
use Rattle.std.proofs.lemmas.Nat.Gcd.{mod-eq-zero_of_dvd}
use Rattle.diagram_meaning.specs.SampleTimes.{every_tick}
use Rattle.diagram_meaning.specs.ResolvedTree.{diagram_of}
use Rattle.diagram_meaning.specs.ResolvedLaws.{PeriodsDivideCycle, CyclesHaveTicks, ResolvedCyclesAreShort}
use Rattle.modules_profile.specs.declared.LocalRow.{LocalRow}
use Rattle.modules_profile.specs.LocalSystem.{LocalSystem}
use Rattle.modules_profile.specs.Locals.{local_row}
use Rattle.right_relation.specs.Relation.{IsCycleOf}
use Rattle.right_relation.specs.RunTickLaws.{CycleIsOfLocals}
use Rattle.right_relation.proofs.Lists.{each-row}

pub cycle_is_of_locals : PeriodsDivideCycle → CyclesHaveTicks → ResolvedCyclesAreShort → CycleIsOfLocals
cycle_is_of_locals divide some short r s local resolved is_local =
    subst (λ (system : LocalSystem). IsCycleOf system r.times.hyper) (sym is_local.is_local) (record {
      some = some r.tree.table r.types r.ops r.times resolved.resolved;
      short = short r.tree.table r.types r.ops r.times resolved.resolved;
      repeats =
          each-row (λ (row : LocalRow). r.times.hyper % row.time.period ≡ 0)
          (local_row (diagram_of r) r.times.delays) r.tree.table.rows s
          (λ b own. mod-eq-zero_of_dvd (slice_index_or r.times.run b every_tick).period
          (divide r.tree.table r.times b resolved.resolved.are_times own.in_table));
    })
