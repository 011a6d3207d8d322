use Rattle.std.proofs.Common.{[], sym, ap, ◌∙◌, flat_map}
use Rattle.std.specs.Option.{option_map_or}
use Rattle.mdl_tree.specs.Spelling.{append_items, End}
use Rattle.mdl_tree.specs.Values.{items_of, section_tree}
use Rattle.mdl_tree.proofs.lemmas.OneTree.{append_items-End}
use Rattle.mdl_params.specs.BlockTypes.{block_type_of}
use Rattle.mdl_params.specs.Language.{parameters, plain_parameters}
use Rattle.mdl_library.specs.Items.{set_on}
use Rattle.mdl_library.specs.Written.{settled_as}
use Rattle.mdl_library.specs.Held.{given_seen}
use Rattle.mdl_library.proofs.HeadingLemmas.{text_of, settle_set, settle_end}
use Rattle.mdl_library.proofs.given.Given.settle.Goals as goal

pub returns-in_default : goal.returns-in_default
returns-in_default c =
    let olds = items_of c.args.items.now.items in
    let block = (section_tree c.args.block.now).items in
    sym (append_items-End olds)
    ∙ ap (λ o. append_items olds (set_on c.args.line (option_map_or (settled_as (given_seen c.args.self.now) block) o []) End))
    c.in_default.ensures

pub returns : goal.returns
returns c =
    let given = given_seen c.args.self.now in
    let block = (section_tree c.args.block.now).items in
    let kind = c.in-Some.kind.now in
    let olds = items_of c.args.items.now.items in
    settle_end given block kind c.args.line c.parameters_of-parameter-items.result.now c.loop-parameter.parameter-index
    c.loop-parameter-test.false (items_of c.loop-parameter.items.items) _ c.loop-parameter.invariant
    ∙ settle_set given block kind c.args.line olds (plain_parameters c.parameters_of-parameter-items.result.now)
    ∙ ap (λ ps. append_items olds (set_on c.args.line (flat_map (text_of given block kind) ps) End))
    (c.parameters_of-parameter-items.ensures ∙ ap (λ k. option_map_or parameters (block_type_of k) []) c.bytes.ensures)
    ∙ ap (λ o. append_items olds (set_on c.args.line (option_map_or (settled_as given block) o []) End)) c.in-Some.ensures
