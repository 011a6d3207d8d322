use Rattle.std.proofs.Common.{ap, sym, ◌∙◌, false, take}
use Rattle.std.specs.Option.{option_map_or}
use Rattle.std.specs.List.{list_any}
use Rattle.mdl_wiring.specs.NameMaps.{is_before}
use Rattle.mdl_wiring.specs.Ports.{leads_to}
use Rattle.mdl_wiring.specs.Held.{ends_seen}
use Rattle.mdl_wiring.proofs.InputLemmas.{led-before}
use Rattle.mdl_wiring.proofs.inputs.is_led_before.Goals as goal

pub returns-in-Some : goal.returns-in-Some
returns-in-Some c =
    let ends = ends_seen c.args.ends.now in
    let at = c.args.at in
    c.is_before.ensures ∙ ap (λ o. is_before o at) c.end_at.ensures ∙ led-before ends c.args.inputs.now c.in-Some.input at c.requires
    ∙ ap (λ o. option_map_or (λ input. list_any (leads_to input) (take at ends)) o false) (sym (sym c.input_at.ensures ∙ c.in-Some.is))
