use Rattle.std.proofs.Common.{◌≡◌, ◌∙◌, ◌<◌, ◌++◌, ◌∷◌, [], true, false, length, ap, sym, arith}
use Rattle.std.proofs.lemmas.List.{append-nil, get_or_default}
use Rattle.diagram_meaning.specs.Rows.{no_row}
use Rattle.diagram_needs.proofs.OutportSteps.{own_below, own-more}
use Rattle.diagram_needs.proofs.outports.own_outports.Goals as goal
use Rattle.diagram_needs.proofs.outports.own_outports.Goals.{then-is_outport_of+in_ok-push, else-is_outport_of}

pub loop-b-preserved : goal.loop-b-preserved
loop-b-preserved c =
    let inside : c.loop-b.b < length c.args.rows.now = c.loop-b-test.true in
    let read = c.index-rows-b.is ∙ get_or_default c.args.rows.now c.loop-b.b c.index-rows-b.result no_row inside in
    elim c.if-is_outport_of.branch [
      | then-is_outport_of+in_ok-push w ↦
          ap (λ v. v.items) w.own-is ∙ w.in_ok-push.ensures.items ∙ ap (λ l. l ++ c.loop-b.b ∷ []) c.loop-b.invariant
          ∙ sym (own-more c.args.rows.now c.args.system c.loop-b.b c.index-rows-b.result true read
          (sym w.if-is_outport_of.true ∙ c.is_outport_of.ensures))
      | else-is_outport_of w ↦
          ap (λ v. v.items) w.own-is ∙ c.loop-b.invariant
          ∙ sym (own-more c.args.rows.now c.args.system c.loop-b.b c.index-rows-b.result false read
          (sym w.if-is_outport_of.false ∙ c.is_outport_of.ensures)
          ∙ append-nil (own_below c.args.rows.now c.args.system c.loop-b.b))
    ]

pub returns : goal.returns
returns c =
    let low = c.loop-b-test.false in
    let high = c.loop-b.auto.b-end in
    let all : c.loop-b.b ≡ length c.args.rows.now = omega arith in
    c.loop-b.invariant ∙ ap (own_below c.args.rows.now c.args.system) all
