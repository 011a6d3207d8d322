use Rattle.std.proofs.Common.{ap, ◌∙◌, [], Vec, Global, unwrap_or}
use Rattle.std.specs.Prelude.{option_map}
use Rattle.mdl_params.specs.declared.texts.ParamText.{ParamText}
use Rattle.mdl_params.specs.Texts.{plain_texts}
use Rattle.mdl_params.proofs.lemmas.KindLemmas.{lookup-plain}
use Rattle.mdl_params.proofs.defaults.texts_for.Goals as goal

pub returns-in-Some : goal.returns-in-Some
returns-in-Some c =
    let shown = λ (texts : Vec ParamText Global). plain_texts texts.items in
    ap plain_texts c.as_slice.ensures.value
    ∙ ap (λ o. unwrap_or o []) (ap (option_map shown) c.in-Some.ensures.value ∙ lookup-plain c.args.kind.now c.args.kinds.now.entries)

pub returns-in-None : goal.returns-in-None
returns-in-None c =
    let shown = λ (texts : Vec ParamText Global). plain_texts texts.items in
    ap (λ o. unwrap_or o []) (ap (option_map shown) c.in-None.ensures.value ∙ lookup-plain c.args.kind.now c.args.kinds.now.entries)
