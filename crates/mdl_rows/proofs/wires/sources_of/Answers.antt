use Rattle.std.proofs.Common.{sym, ◌∙◌, ap, []}
use Rattle.std.specs.Prelude.{option_map, slice_index_or}
use Rattle.mdl_wiring.specs.Wiring.{wiring_seen}
use Rattle.mdl_rows.specs.Held.{seen}
use Rattle.mdl_rows.specs.HeldModels.{model_of}
use Rattle.mdl_rows.proofs.WiredLemmas.{sources-some, sources-none}
use Rattle.mdl_rows.proofs.wires.sources_of.Goals as goal

pub returns-in-Some : goal.returns-in-Some
returns-in-Some c =
    let m = model_of c.args.model.now in
    let b = seen c.args.block.now in
    c.sources.ensures ∙ ap (λ k. slice_index_or (wiring_seen c.in-Some.wiring.now) k []) c.place.ensures
    ∙ sources-some m c.args.wirings.now b c.in-Some.wiring.now c.requires.model.blocks c.requires.wirings
    c.requires.accepted c.requires.among
    (sym c.of.ensures ∙ ap (option_map (λ w. w.now)) c.in-Some.is)

pub returns-in-None : goal.returns-in-None
returns-in-None c =
    sym (sources-none (model_of c.args.model.now) c.args.wirings.now (seen c.args.block.now) c.requires.model.blocks
    c.requires.wirings c.requires.accepted
    c.requires.among (sym c.of.ensures ∙ ap (option_map (λ w. w.now)) c.in-None.is))
