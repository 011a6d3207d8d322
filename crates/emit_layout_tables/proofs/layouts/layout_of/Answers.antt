use Rattle.std.proofs.Common.{ap, ◌∙◌}
use Rattle.emit_layout.specs.Laid.{Laid, Scheduled}
use Rattle.emit_layout_tables.proofs.layouts.layout_of.Goals as goal

pub fields_of-requires : goal.fields_of-requires
fields_of-requires c = c.requires

pub new-requires : goal.new-requires
new-requires c = c.in_ok-tables.ensures c.args.profile.now

pub returns : goal.returns
returns c =
    let laid : Scheduled → Laid = λ f. record { local = f.local; profile = c.args.profile.now; schedule = f.schedule } in
    c.new.ensures ∙ ap laid c.in_ok-fields.ensures
