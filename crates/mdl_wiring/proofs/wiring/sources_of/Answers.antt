use Rattle.std.proofs.Common.{◌++◌, ap, ◌∙◌}
use Rattle.std.specs.Prelude.{option_to_list}
use Rattle.mdl_wiring.specs.Held.{ends_seen}
use Rattle.mdl_wiring.specs.Wiring.{source_into}
use Rattle.mdl_wiring.proofs.InputLemmas.{sources-more}
use Rattle.mdl_wiring.proofs.wiring.sources_of.Goals as goal

pub loop-index-preserved : goal.loop-index-preserved
loop-index-preserved c =
    let olds = c.loop-index.sources.items in
    sources-more (λ number. source_into (ends_seen c.args.ends.now) (record { member = c.args.at; number = number }))
    c.loop-index.index c.port_count-index-end.result olds _ _ c.loop-index-test.true
    (c.in_ok-take_source.ensures ∙ ap (λ o. olds ++ option_to_list o) c.source_into.ensures) c.loop-index.invariant
