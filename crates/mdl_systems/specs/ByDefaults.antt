-- What a block says, by what a model's defaults give.
use Rattle.std.specs.Prelude.{◌≡◌, ℕ, List}
use Rattle.mdl_params.specs.BlockTypes.{beside}
use Rattle.mdl_params.specs.Defaults.{DefaultTexts}
use Rattle.mdl_systems.specs.Outlines.{Outline}
use Rattle.mdl_systems.specs.Refusals.{read}

-- both give the same parameters for each type of block
abbrev pub GiveTheSame : DefaultTexts → DefaultTexts → Type 0
GiveTheSame defaults other = (kind : List ℕ) → beside kind defaults ≡ beside kind other

-- a block says the same by defaults that give the same
abbrev pub ReadingIsByDefaults : Type 0
ReadingIsByDefaults =
    (defaults other : DefaultTexts) → GiveTheSame defaults other → (b : Outline) →
    read defaults b ≡ read other b
