-- The texts of blocks and lines, each line with its end.
use Rattle.std.specs.Prelude.{ℕ, List, [], ◌∷◌, ◌++◌, flat_map, codes, decimal}

-- lines, each with its end
abbrev pub text_of : List (List ℕ) → List ℕ
text_of lines = flat_map (λ line. line ++ 10 ∷ []) lines

-- a parameter with a quoted value
abbrev pub quoted : List ℕ → List ℕ → List ℕ
quoted name value = name ++ codes " \"" ++ value ++ codes "\""

-- a block of this type and name with one further parameter
unfoldable pub block_text : List ℕ → List ℕ → List ℕ → List ℕ → List ℕ
block_text type name param value =
    text_of (codes "Block {" ∷ (codes "BlockType " ++ type) ∷ quoted (codes "Name") name
    ∷ quoted param value ∷ codes "}" ∷ [])

-- a line from a port of one block to a port of another
unfoldable pub source_text : List ℕ → ℕ → List ℕ
source_text from port =
    text_of (codes "Line {" ∷ quoted (codes "SrcBlock") from ∷ (codes "SrcPort " ++ decimal port)
    ∷ [])

unfoldable pub target_text : List ℕ → ℕ → List ℕ
target_text to port =
    text_of (quoted (codes "DstBlock") to ∷ (codes "DstPort " ++ decimal port) ∷ codes "}" ∷ [])

unfoldable pub line_text : List ℕ → ℕ → List ℕ → ℕ → List ℕ
line_text from from_port to to_port = source_text from from_port ++ target_text to to_port

-- the only input of the model
unfoldable pub input_text : List ℕ
input_text =
    text_of (codes "Block {" ∷ codes "BlockType Inport" ∷ quoted (codes "Name") (codes "In1")
    ∷ quoted (codes "Port") (codes "1") ∷ quoted (codes "OutDataTypeStr") (codes "int32")
    ∷ codes "}" ∷ [])

abbrev pub inport_text : List ℕ → ℕ → List ℕ
inport_text name port = block_text (codes "Inport") name (codes "Port") (decimal port)

abbrev pub outport_text : List ℕ → ℕ → List ℕ
outport_text name port = block_text (codes "Outport") name (codes "Port") (decimal port)

-- the end of a section in a section
unfoldable pub ends_text : List ℕ
ends_text = text_of (codes "}" ∷ codes "}" ∷ [])
