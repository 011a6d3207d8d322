use Rattle.std.proofs.Common.{◌≡◌, ◌+◌, ℕ, List, length, get_or, vec_len, arith, ap, ◌∙◌}
use Rattle.std.proofs.lemmas.List.FromFn.{length-map-range_with_len, get_or-map-range_with_len}
use Rattle.emit_system_spec.specs.Groups.{own_count}
use Rattle.emit_system_spec.specs.Places.{child_base}
use Rattle.emit_layout.proofs.LaidTables.{has-tables}
use Rattle.emit_layout.proofs.layout.Layout.child_base.Goals as goal

pub index-requires : goal.index-requires
index-requires c =
    let self = c.args.self.now in
    let has = has-tables c.self.inside self c.self.invariant c.self.view_is in
    let long : vec_len c.self.inside.tables.bases ≡ length c.self.inside.tables.bases.items = c.self.inside.tables.bases.ok.0 in
    let count = ap length has.bases ∙ length-map-range_with_len (child_base self.local (own_count self.schedule)) 0
    (length self.local.children + 1) in
    omega (arith, long, count)

pub returns : goal.returns
returns c =
    let self = c.args.self.now in
    let has = has-tables c.self.inside self c.self.invariant c.self.view_is in
    let base = child_base self.local (own_count self.schedule) in
    c.index.ensures ∙ ap (λ (bs : List ℕ). get_or bs c.args.place c.index.result.now) has.bases
    ∙ get_or-map-range_with_len base 0 (length self.local.children + 1) c.args.place c.args.place c.index.result.now
    (omega arith) (omega arith)
