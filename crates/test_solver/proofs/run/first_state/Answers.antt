use Rattle.std.proofs.Common.{◌≡◌, ◌∙◌, None, List, map, length, if◌then◌else◌, [], refl, sym, ap, subst, arith, rules, FitsSigned, w64}
use Rattle.std.specs.List.{range_with_len}
use Rattle.std.proofs.lemmas.Int.{to_z-of_z}
use Rattle.diagram_activity.specs.declared.TrigMem.{TrigMem}
use Rattle.diagram_activity.specs.declared.TrigMem.TheVariants.{NotYet}
use Rattle.diagram_meaning.specs.ResolvedTree.{diagram_of}
use Rattle.diagram_meaning.specs.Run.{start_of, initial_memory, has_memory}
use Rattle.diagram_meaning.proofs.lemmas.ByRow.{length-by_row}
use Rattle.diagram_typed_runs.specs.Fitting.{AreFit, AreInTypes}
use Rattle.diagram_typed_runs.proofs.lemmas.Kept.{first-fit, first-or-none}
use Rattle.test_solver.proofs.RowLists.{row-more}
use Rattle.test_solver.proofs.run.first_state.Goals as goal

pub loop-b-preserved : goal.loop-b-preserved
loop-b-preserved c =
    let d = diagram_of c.args.r.now in
    let value_fits : FitsSigned w64 c.start.result = search rules in record {
      values =
          row-more (start_of d) c.loop-b.b c.loop-b.values.items _ _ c.loop-b.invariant.values
          c.in_ok-push.ensures.items (to_z-of_z w64 _ value_fits ∙ c.start.ensures);
      memories =
          row-more (λ b. if has_memory d None b then initial_memory d b else []) c.loop-b.b c.loop-b.memories.items _ _
          c.loop-b.invariant.memories c.in_ok-push-2.ensures.items (c.in_ok-first_memory.ensures
          ∙ sym (first-or-none d c.loop-b.b));
      triggers =
          row-more (λ b. NotYet) c.loop-b.b c.loop-b.triggers.items _ NotYet c.loop-b.invariant.triggers
          c.in_ok-push-3.ensures.items refl;
    }

pub returns-clause-fit : goal.returns-clause-fit
returns-clause-fit c =
    let d = diagram_of c.args.r.now in
    let low = c.loop-b-test.false in
    let high = c.loop-b.auto.b-end in
    let all : c.loop-b.b ≡ length c.args.r.now.tree.table.rows = omega (arith, c.row_count-b-end.ensures.count, low, high) in
    let values = c.loop-b.invariant.values ∙ ap (λ n. map (start_of d) (range_with_len 0 n)) all in
    let memories = c.loop-b.invariant.memories
    ∙ ap (λ n. map (λ b. if has_memory d None b then initial_memory d b else []) (range_with_len 0 n)) all in
    let triggers =
    ap (λ (l : List TrigMem). length l) (c.loop-b.invariant.triggers
    ∙ ap (λ n. map (λ b. NotYet) (range_with_len 0 n)) all) in
    let first = first-fit c.args.r.now c.row_count-b-end.ensures.resolved None in record {
      values = subst (AreFit d) (sym values) first.values;
      memories = subst (AreInTypes d) (sym memories) first.memories;
      triggers = triggers ∙ length-by_row c.args.r.now.tree.table.rows (λ b. NotYet);
    }
