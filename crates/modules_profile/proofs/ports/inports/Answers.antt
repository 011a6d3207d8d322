use Rattle.std.proofs.Common.{◌≡◌, ℕ, eqb, find, length, List, subst, ◌∙◌}
use Rattle.std.specs.List.{filter_map, range_with_len}
use Rattle.std.specs.Result.{IfOk}
use Rattle.diagram_meaning.specs.Rows.{row_at}
use Rattle.diagram_blocks.specs.Kinds.{port_of}
use Rattle.modules_profile.proofs.ports.inports.Goals as goal

pub returns-clause-inports : goal.returns-clause-inports
returns-clause-inports c =
    subst (λ (own : List ℕ). IfOk c.by_port.result (λ v. v.items
    ≡ filter_map (λ k. find (λ b. eqb (port_of (row_at c.args.r.now.tree.table.rows b).kind) k) own)
    (range_with_len 1 (length own))))
    (c.deref.ensures.value ∙ c.in_ok-inports.ensures.inports) c.by_port.ensures.found
