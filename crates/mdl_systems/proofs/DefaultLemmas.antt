-- What a block says rests on a model's defaults by what they give alone.
use Rattle.std.proofs.Common.{◌≡◌, ap, ℕ, List, [], Ok, codes}
use Rattle.std.proofs.Math.Path.{fun_ext}
use Rattle.std.specs.Prelude.{Result, ok_or, unwrap_or}
use Rattle.std.specs.Option.{option_or}
use Rattle.base_core.specs.declared.ParamName.{ParamName}
use Rattle.base_core.specs.declared.ParamName.TheVariants.{Name}
use Rattle.mdl_tree.specs.Spelling.{Items}
use Rattle.mdl_tree.specs.Walks.{SectionTree, first_section, first_value}
use Rattle.mdl_params.specs.BlockTypes.{block_type_of, beside}
use Rattle.mdl_params.specs.Language.{default_text}
use Rattle.mdl_params.specs.Defaults.{DefaultTexts, by_names, parameter_text}
use Rattle.mdl_blocks.specs.declared.fault.Fault.{Fault}
use Rattle.mdl_blocks.specs.declared.fault.Fault.TheVariants.{Unsupported, Parameter}
use Rattle.mdl_blocks.specs.declared.peers.Peers.{Peers}
use Rattle.base_core.specs.Results.{◌>>=◌}
use Rattle.mdl_blocks.specs.Blocks.{BlockText, Texts, texts_by, unless_hollow, body_of, block_typed}
use Rattle.mdl_systems.specs.Outlines.{Outline}
use Rattle.mdl_systems.specs.Refusals.{read}
use Rattle.mdl_systems.specs.ByDefaults.{GiveTheSame}

-- the text of a parameter, where these stand for the block's type among the defaults
text-same : (defaults other : DefaultTexts) (items : Items) (kind : List ℕ) (name : ParamName) → beside kind defaults ≡ beside kind other →
    parameter_text defaults items kind name ≡ parameter_text other items kind name
text-same defaults other items kind name same =
    ap (λ found.
    option_or
    (option_or (by_names (λ wanted. first_value wanted items) kind name)
    (by_names (λ wanted. beside wanted (unwrap_or found [])) kind name))
    (default_text kind name)) same

texts-same : (defaults other : DefaultTexts) (items : Items) (kind : List ℕ) → beside kind defaults ≡ beside kind other →
    texts_by defaults items kind ≡ texts_by other items kind
texts-same defaults other items kind same =
    fun_ext (λ name. ap (λ text. ok_or text (Parameter name)) (text-same defaults other items kind name same))

-- what a block of this type says, by the texts of its parameters
abbrev typed-by : Peers → SectionTree → List ℕ → Texts → Result BlockText Fault
typed-by peers section type_name texts = do
  known ← ok_or (block_type_of type_name) Unsupported
  type ← unless_hollow (first_section (codes "System") section.items) known
  name ← texts Name
  body ← body_of peers (first_section (codes "System") section.items) texts type
  Ok (record { name = name; line = section.line; body = body })

typed-same : (defaults other : DefaultTexts) (peers : Peers) (section : SectionTree) (kind : List ℕ) →
    beside kind defaults ≡ beside kind other →
    block_typed defaults peers section kind ≡ block_typed other peers section kind
typed-same defaults other peers section kind same = ap (typed-by peers section kind) (texts-same defaults other section.items kind same)

pub reading-same : (defaults other : DefaultTexts) → GiveTheSame defaults other → (b : Outline) → read defaults b ≡ read other b
reading-same defaults other same b =
    ap (λ go. ok_or (first_value (codes "BlockType") b.section.items) Unsupported >>= go)
    (fun_ext (λ kind. typed-same defaults other b.peers b.section kind (same kind)))
