-- Codes of systems with the tables by which they are found.
use Rattle.std.specs.Prelude.{◌≡◌, ℕ, ◌<◌, ◌^◌, List, [], map, length, Option, bytes_eq}
use Rattle.std.specs.List.{position_from, range_with_len}
use denote.Ref.{Bor}
use Rattle.indexmap.specs.IndexMap.{IndexMap, get_by}
use Rattle.c_syntax.specs.Tree.{no_struct}
use Rattle.emit_shape.specs.declared.code.SystemCode.{SystemCode}
use Rattle.emit_shape.specs.SystemTree.{SystemTree, system_tree}
use Rattle.emit_shape.specs.Assembled.{first_procedure}

-- the plain trees of codes
abbrev pub trees : List SystemCode → List SystemTree
trees codes = map system_tree codes

-- the place that a map gives to a name
abbrev pub place_in : {S : Type 0} → IndexMap (Bor (List ℕ)) ℕ S → List ℕ → Option ℕ
place_in names name = get_by (λ k. bytes_eq name k.now) names

-- a table gives the first code of each name from a place on, where these are the codes from there
abbrev pub TellsCodes : ℕ → List SystemCode → (List ℕ → Option ℕ) → Type 0
TellsCodes from codes told = (name : List ℕ) →
    told name ≡ position_from (λ c. bytes_eq c.structure.name name) from (trees codes)

-- a code with no name, no fields, no outputs and no procedures
pub record IsNoCode (code : SystemCode) : Type 0 where
  pub structure : code.structure ≡ no_struct
  pub outputs : code.outputs.items ≡ []
  pub procedures : length code.procedures.items ≡ 0

-- the codes are few, an empty one stands for those past the end, and tables give each name's code
-- and each code's first procedure
pub record AreFound (codes : List SystemCode) (empty : SystemCode) (told : List ℕ → Option ℕ)
    (numbers : List ℕ) : Type 0 where
  pub few : length codes < 2 ^ 32
  pub none : IsNoCode empty
  pub places : TellsCodes 0 codes told
  pub firsts : numbers ≡ map (first_procedure (trees codes)) (range_with_len 0 (length codes))
