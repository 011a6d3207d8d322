use Rattle.std.proofs.Common.{sym, ap, ◌∙◌, is_some, Vec, Global, ℕ, Bool}
use Rattle.std.specs.Map.{lookup}
use Rattle.indexmap.proofs.CallerLemmas.{insert_entry-new}
use Rattle.mdl_tree.specs.Values.{section_tree}
use Rattle.mdl_params.proofs.lemmas.KindLemmas.{named, is_none}
use Rattle.mdl_library.proofs.SourceLemmas.{source_known, source_new}
use Rattle.mdl_library.proofs.library.add_source.Goals as goal

pub returns-then-contains_key : goal.returns-then-contains_key
returns-then-contains_key c =
    source_known c.args.sources.now.entries c.args.text.items (section_tree c.args.block.now)
    (ap (λ n. is_some (lookup (named n) c.args.sources.now.entries)) (sym c.as_slice.ensures.value)
    ∙ sym c.contains_key.ensures ∙ c.if-contains_key.true)

pub returns : goal.returns
returns c =
    let entries = c.args.sources.now.entries in
    let same : Vec ℕ Global → Vec ℕ Global → Bool = λ a b. named a.items b in
    let none = ap (λ n. is_some (lookup (named n) entries)) (sym c.as_slice.ensures.value)
    ∙ sym c.contains_key.ensures ∙ c.if-contains_key.false in
    source_new entries c.insert.new.self.entries c.args.text c.args.block none
    (c.in_ok-insert.ensures.entries
    ∙ insert_entry-new same c.args.sources.now c.args.text c.args.block (is_none (lookup (named c.args.text.items) entries) none))
