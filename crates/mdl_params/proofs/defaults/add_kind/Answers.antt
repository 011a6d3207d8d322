use Rattle.std.proofs.Common.{sym, ap, ◌∙◌, Some, is_some, Vec, Global, ℕ, Bool}
use Rattle.std.specs.Map.{lookup}
use Rattle.indexmap.proofs.CallerLemmas.{insert_entry-new}
use Rattle.mdl_tree.specs.Values.{items_of}
use Rattle.mdl_params.proofs.lemmas.KindLemmas.{named, is_none, AddsKind-known, AddsKind-new}
use Rattle.mdl_params.proofs.defaults.add_kind.Goals as goal

pub returns-then-contains_key : goal.returns-then-contains_key
returns-then-contains_key c =
    AddsKind-known c.args.kinds.now.entries c.bytes.result.now (items_of c.args.block.now.items.items)
    (sym c.in-Some.ensures ∙ ap Some (sym c.bytes.ensures))
    (sym c.contains_key.ensures ∙ c.if-contains_key.true)

pub returns : goal.returns
returns c =
    let entries = c.args.kinds.now.entries in
    let key = c.in_ok-name.name in
    let texts = c.in_ok-texts.texts in
    let same : Vec ℕ Global → Vec ℕ Global → Bool = λ a b. named a.items b in
    let copied = c.in_ok-name.ensures.items ∙ c.bytes-2.ensures in
    let none = is_none (lookup (named key.items) entries)
    (ap (λ n. is_some (lookup (named n) entries)) (copied ∙ sym c.bytes.ensures) ∙ sym c.contains_key.ensures ∙ c.if-contains_key.false) in
    AddsKind-new entries _ key texts (items_of c.args.block.now.items.items) (sym c.in-Some.ensures
    ∙ ap Some (sym copied)) c.in_ok-texts.ensures
    (c.in_ok-insert.ensures.entries ∙ insert_entry-new same c.args.kinds.now key texts none)
