use Rattle.std.proofs.Common.{rules, ◌∙◌, ◌++◌, ◌∷◌, [], ap₂, sym, arith}
use Rattle.std.proofs.lemmas.List.FromFn.{map-range_with_len_more}
use Rattle.diagram_meaning.specs.TypeRefusals.{followed_type}
use Rattle.diagram_types.proofs.PathLemmas.{all-new}
use Rattle.diagram_types.proofs.follow.follow_types.Goals as goal

pub loop-b-init : goal.loop-b-init
loop-b-init c = record {
  marks = all-new c.args.rows.now c.as_mut_slice-marks.result.now
      (c.as_mut_slice-marks.ensures.value ∙ c.in_ok-all.ensures.items_if_clones_equal (λ y h. search rules));
  types = c.new-types.ensures.items;
}

pub loop-b-preserved : goal.loop-b-preserved
loop-b-preserved c = record {
  marks = c.in_ok-settle.ensures.marks;
  types =
      c.in_ok-push.ensures.items ∙ ap₂ (λ xs x. xs ++ x ∷ []) c.loop-b.invariant.types c.in_ok-settle.ensures.met
      ∙ sym (map-range_with_len_more (followed_type c.args.rows.now) 0 c.loop-b.b c.loop-b.b (omega arith));
}
