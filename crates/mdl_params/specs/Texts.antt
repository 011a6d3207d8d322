-- Texts of parameters in memory, as plain ones.
use Rattle.std.specs.Prelude.{ℕ, List, Vec, map}
use Rattle.std.specs.declared.alloc.Global.{Global}
use Rattle.mdl_params.specs.Defaults.{DefaultTexts}
use Rattle.mdl_params.specs.declared.texts.ParamText.{ParamText}

-- the names and values
abbrev pub plain_texts : List ParamText → List (List ℕ × List ℕ)
plain_texts texts = map (λ (text : ParamText). (text.name, text.value)) texts

-- the parameters of each type of block
abbrev pub plain_kinds : List (Vec ℕ Global × Vec ParamText Global) → DefaultTexts
plain_kinds kinds =
    map (λ (kind : Vec ℕ Global × Vec ParamText Global). (kind.0.items, plain_texts kind.1.items))
    kinds
