use Rattle.std.proofs.Common.{ap, ◌∙◌}
use Rattle.std.specs.Prelude.{slice_index}
use Rattle.emit_linker.proofs.CodePlaces.{first-at}
use Rattle.emit_linker.proofs.codes.Codes.first_procedure.Goals as goal

pub returns : goal.returns
returns c =
    let self = c.args.self.now in
    c.number_at.ensures ∙ ap (λ l. slice_index l c.args.i) c.deref.ensures.value
    ∙ first-at self.list.now self.firsts.items c.args.i self.found.firsts
