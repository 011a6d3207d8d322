use Rattle.std.proofs.Common.{arith, sym, ◌∙◌, ap, length}
use Rattle.std.proofs.lemmas.List.{length-map}
use Rattle.std.specs.Prelude.{is_some}
use Rattle.mdl_rows.specs.Interiors.{control_by, outport_number}
use Rattle.mdl_rows.specs.Held.{all_seen, port_seen, seen}
use Rattle.mdl_rows.proofs.InteriorLemmas.{count-at-most, outports-counted}
use Rattle.mdl_rows.proofs.interiors.interior_of.Goals as goal

pub overflow_cast-result : goal.overflow_cast-result
overflow_cast-result c =
    let own = all_seen c.args.own.now in
    let count = sym (length-map c.in_ok-outports.outports.items port_seen) ∙ ap length c.in_ok-outports.ensures ∙ outports-counted own in
    let most = count-at-most outport_number own in
    let long = length-map c.args.own.now seen in
    let result = ap length c.as_slice.ensures.value in
    let short = c.requires in omega (arith, count, most, long, result, short)

pub returns : goal.returns
returns c = record {
  inside =
      let count = ap length c.as_slice.ensures.value ∙ sym (length-map c.in_ok-outports.outports.items port_seen)
      ∙ ap length c.in_ok-outports.ensures
      ∙ outports-counted (all_seen c.args.own.now) in
      λ k. record {
        inports = c.inports_among.ensures k;
        outports = count k;
        enable = (c.is_some.ensures ∙ ap is_some c.reset_among-reset.ensures) k;
        trigger = (c.is_some-2.ensures ∙ ap is_some c.edge_among-edge.ensures) k;
      };
  control = c.control_by.ensures ∙ ap (λ reset. control_by reset c.edge_among-edge.result) c.reset_among-reset.ensures
      ∙ ap (control_by _) c.edge_among-edge.ensures;
  outports = c.in_ok-outports.ensures;
}
