use Rattle.std.proofs.Common.{arith, ap, map, ◌+◌, ◌∙◌}
use Rattle.lustre_syntax.specs.Plain.{expr_tree, equation_tree, file_tree}
use Rattle.lustre_slots.specs.Sources.{argument_links, output_links, linked}
use Rattle.lustre_slots.proofs.lemmas.Links.{set-step, call-step}
use Rattle.lustre_slots.proofs.sources.link_instance.Goals as goal
use Rattle.lustre_slots.proofs.sources.link_instance.Goals.{in-Set+in_ok-sum-in-Set, in-Call+in_ok-link_arguments-in-Call+in_ok-outputs-in-Call+in_ok-link_outputs-in-Call+in_ok-at-in-Call}

pub loop-i-preserved : goal.loop-i-preserved
loop-i-preserved c =
    let f = file_tree c.args.plan.now.file.now in
    elim c.match-equations-i.branch [
      | in-Set+in_ok-sum-in-Set w ↦
          set-step f c.args.of c.loop-i.at c.loop-i.i c.loop-i.sources c.equations-equations.result.now
          c.index-equations-i.result _ _ _ w.in_ok-sum-in-Set.field-0 c.match-equations-i.at c.match-equations-i.sources
          (omega arith) c.index-equations-i.is (ap equation_tree w.in-Set.is) w.in_ok-sum-in-Set.ensures
          (w.sources-is ∙ w.link.ensures) w.at-is
          ∙ c.loop-i.invariant
      | in-Call+in_ok-link_arguments-in-Call+in_ok-outputs-in-Call+in_ok-link_outputs-in-Call+in_ok-at-in-Call w ↦
          call-step f c.args.of c.loop-i.at c.loop-i.i c.loop-i.sources c.equations-equations.result.now
          c.index-equations-i.result _ _ _ _ w.link_arguments.new.sources c.match-equations-i.sources
          w.in_ok-outputs-in-Call.outputs c.match-equations-i.at (omega arith) c.index-equations-i.is
          (ap equation_tree w.in-Call.is)
          (w.in_ok-link_arguments-in-Call.ensures
          ∙ ap (λ vs. linked c.loop-i.sources (argument_links c.args.of c.loop-i.i c.loop-i.at 0 (map expr_tree vs))) w.deref.ensures.value)
          (w.in_ok-outputs-in-Call.ensures ∙ ap (λ n. c.loop-i.at + n) w.inputs.ensures)
          (w.sources-is ∙ w.in_ok-link_outputs-in-Call.ensures
          ∙ ap (λ ks. linked w.link_arguments.new.sources (output_links c.args.of w.in_ok-outputs-in-Call.outputs ks)) w.wires.ensures)
          (w.at-is ∙ w.in_ok-at-in-Call.ensures ∙ ap (λ n. c.loop-i.at + n) w.size.ensures)
          ∙ c.loop-i.invariant
    ]
