use Rattle.std.proofs.lemmas.List.Elements.{All-push}
use Rattle.std.proofs.Common.{ℕ, ◌<◌, ◌++◌, All, subst, eqb, List, Option, find, length, ap, sym, ◌∙◌}
use Rattle.std.specs.List.{filter_map, range_with_len}
use Rattle.std.specs.Option.{option_to_list}
use Rattle.std.proofs.lemmas.List.{append-nil}
use Rattle.diagram_meaning.specs.Rows.{row_at}
use Rattle.diagram_blocks.specs.Kinds.{port_of}
use Rattle.modules_profile.proofs.Found.{found-more, none-from}
use Rattle.modules_profile.proofs.ports.by_port.Goals as goal
use Rattle.modules_profile.proofs.ports.by_port.Goals.{in-Some+in_ok-push, in_default}

pub loop-k-preserved : goal.loop-k-preserved
loop-k-preserved c =
    let with : List ℕ → ℕ → Option ℕ = λ own q. find (λ b. eqb (port_of (row_at c.args.r.now.tree.table.rows b).kind) q) own in
    let told = c.row_with_port.ensures.first in
    let step =
    ap (λ l. l ++ option_to_list c.row_with_port.result) c.loop-k.invariant.found_is
    ∙ ap (λ o. filter_map (with c.args.rows.now) (range_with_len 1 c.loop-k.k) ++ option_to_list o) told
    ∙ sym (found-more (with c.args.rows.now) c.loop-k.k) in
    elim c.match-row_with_port.branch [
      | in-Some+in_ok-push w ↦ record {
        found_is = ap (λ v. v.items) w.found-is ∙ w.in_ok-push.ensures.items
            ∙ ap (λ o. c.loop-k.found.items ++ option_to_list o) (sym w.in-Some.is) ∙ step;
        are_rows =
            subst (All (λ b. b < length c.args.r.now.tree.table.rows))
            (sym (ap (λ v. v.items) w.found-is ∙ w.in_ok-push.ensures.items))
            (All-push (λ b. b < length c.args.r.now.tree.table.rows) c.loop-k.found.items w.in-Some.b
            c.loop-k.invariant.are_rows w.in-Some.ensures.rows);
      }
      | in_default w ↦ record {
        found_is = ap (λ v. v.items) w.found-is ∙ sym (append-nil c.loop-k.found.items)
            ∙ ap (λ o. c.loop-k.found.items ++ option_to_list o) (sym (none-from c.row_with_port.result w.in_default.not-Some)) ∙ step;
        are_rows =
            subst (All (λ b. b < length c.args.r.now.tree.table.rows))
            (sym (ap (λ v. v.items) w.found-is)) c.loop-k.invariant.are_rows;
      }
    ]
