use Rattle.std.proofs.Common.{◌≡◌, refl, sym, ap, ◌∙◌, slice_get, Some, length}
use Rattle.std.proofs.lemmas.Option.{slice_get_read, slice_get_past, same_Some, none-some}
use Rattle.modules_profile.specs.declared.local.LocalRow.{LocalRow}
use Rattle.modules_profile.proofs.needs.place_bit.Goals as goal

pub returns-then-a-rows : goal.returns-then-a-rows
returns-then-a-rows c k =
    let rows = c.args.rows.now in
    let row = c.index-rows-a.result in
    let at : slice_get rows c.args.a ≡ Some row =
    slice_get_read rows (length rows) c.args.a row refl c.if-a-rows.true c.index-rows-a.is in (
      λ set. let b = (c.kind_bit.ensures k).0 set in
          (b.0, record { row = row; at = at; is_inport = ap (λ (q : LocalRow). q.kind) c.index-rows-a.is ∙ b.1 }),
      λ h. (c.kind_bit.ensures k).1 (
        h.0,
        sym (ap (λ (q : LocalRow). q.kind) c.index-rows-a.is)
            ∙ ap (λ (q : LocalRow). q.kind) (same_Some row h.1.row (sym at ∙ h.1.at)) ∙ h.1.is_inport,
      ),
    )

pub returns-else-a-rows : goal.returns-else-a-rows
returns-else-a-rows c k = (
  λ set. absurd (set refl),
  λ h e. none-some h.1.row (sym (slice_get_past c.args.rows.now c.args.a c.if-a-rows.false) ∙ h.1.at),
)
