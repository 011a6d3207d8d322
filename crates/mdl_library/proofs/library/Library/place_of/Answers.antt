use Rattle.std.proofs.Common.{ap, ◌∙◌, map, option_and_then, position}
use Rattle.std.specs.Prelude.{bytes_eq}
use Rattle.mdl_library.specs.Library.{Source}
use Rattle.mdl_library.specs.Held.{source_seen}
use Rattle.mdl_library.proofs.SourceLemmas.{place_named}
use Rattle.mdl_library.proofs.library.Library.place_of.Goals as goal

pub returns : goal.returns
returns c =
    let entries = c.args.self.now.sources.entries in
    c.get_index_of.ensures.index ∙ place_named c.in_ok-source_of.field-0.now entries
    ∙ ap (option_and_then (λ text. position (λ (source : Source). bytes_eq text source.0) (map source_seen entries))) c.in_ok-source_of.ensures
