-- Worked models and libraries.
use Rattle.std.specs.Prelude.{◌≡◌, refl, ℕ, zero, suc, true, false, List, [], ◌∷◌, ◌++◌, map, flat_map, length, Option, Some, None, codes, decimal, option_map}
use Rattle.std.specs.Fmt.{digits}
use Rattle.std.specs.Option.{option_map_or}
use Rattle.std.specs.List.{range_with_len}
use Rattle.std.specs.Str.Lines.{lines}
use Rattle.mdl_tree.specs.Text.{Statement, Opens, Closes, Sets, Adds, Faulty, statements_of}
use Rattle.mdl_tree.specs.Spelling.{Items, End, Param, Section}
use Rattle.mdl_tree.specs.Walks.{first_value}
use Rattle.mdl_systems.specs.Outlines.{Outline}
use Rattle.mdl_library.specs.Library.{Library, library_of}
use Rattle.mdl_library.specs.Sizes.{Size, model_size}
use Rattle.mdl_library.specs.declared.refusal.LibraryRefusal.{LibraryRefusal}
use Rattle.mdl_library.specs.declared.refusal.LibraryRefusal.TheVariants.{BadLibrary, NoReference, Circular, Expanded}
use Rattle.mdl_library.specs.Texts.{refusal_phrase}
use Rattle.mdl_library.specs.Written.{expanded}
use Rattle.mdl_library.specs.Refusals.{refusal_by}
use Rattle.mdl_library.specs.Laws.{blocks_of}

-- ---- Items of a text

abbrev section_before : List ℕ → (line : ℕ) → Items → Items × List Statement → Items ×
    List Statement
section_before name line items rest = (Section name line items rest.0, rest.1)

abbrev section_then : List ℕ → (line : ℕ) → (List Statement → Items × List Statement) → Items ×
    List Statement → Items × List Statement
section_then name line go inside = section_before name line inside.0 (go inside.1)

abbrev param_before : List ℕ → List ℕ → (line : ℕ) → Items × List Statement → Items ×
    List Statement
param_before name value line rest = (Param name value line rest.0, rest.1)

-- the items that so many statements at most spell, up to the end of their section, and the
-- statements after it
items_from : ℕ → List Statement → Items × List Statement
items_from zero statements = (End, statements)
items_from (suc n) [] = (End, [])
items_from (suc n) (Sets line name value quoted ∷ rest) =
    param_before name value line (items_from n rest)
items_from (suc n) (Opens line name ∷ rest) =
    section_then name line (items_from n) (items_from n rest)
items_from (suc n) (Closes line ∷ rest) = (End, rest)
items_from (suc n) (Adds line value ∷ rest) = (End, rest)
items_from (suc n) (Faulty line kind ∷ rest) = (End, rest)

abbrev items_in : List Statement → Items
unfolding items_from
items_in statements = (items_from (length statements) statements).0

abbrev items_of_text : List ℕ → Items
items_of_text text = items_in (statements_of (lines text))

-- ---- Texts

-- a block of a type with a name and further lines
abbrev block : (kind name more : List ℕ) → List ℕ
block kind name more = codes "Block {\nBlockType " ++ kind ++ codes "\nName \"" ++ name
    ++ codes "\"\n" ++ more ++ codes "}\n"

abbrev subsystem : (name system : List ℕ) → List ℕ
subsystem name system =
    block (codes "SubSystem") name (codes "System {\n" ++ system ++ codes "}\n")

abbrev reference : (name source : List ℕ) → List ℕ
reference name source =
    block (codes "Reference") name (codes "SourceBlock \"" ++ source ++ codes "\"\n")

abbrev model : (system : List ℕ) → List ℕ
model system = codes "Model {\nSystem {\n" ++ system ++ codes "}\n}\n"

abbrev library : (system : List ℕ) → List ℕ
library system = codes "Library {\nName lib\nSystem {\n" ++ system ++ codes "}\n}\n"

-- the sum of the input and of the sum before
abbrev accumulator : List ℕ
accumulator =
    subsystem (codes "Acc")
    (block (codes "Inport") (codes "x") [] ++ block (codes "Sum") (codes "s") []
    ++ block (codes "UnitDelay") (codes "d") [] ++ block (codes "Outport") (codes "y") [])

abbrev in_one : List ℕ
in_one = block (codes "Inport") (codes "In1") []

abbrev out_one : List ℕ
out_one = block (codes "Outport") (codes "Out1") []

-- two accumulators in a chain
abbrev chained : (between : List ℕ) → List ℕ
chained between =
    model (in_one ++ reference (codes "A") (codes "lib/Acc") ++ between
    ++ reference (codes "B") (codes "lib/Acc") ++ out_one)

-- the first refusal of a model by a library
abbrev refused : (library model : List ℕ) → Option LibraryRefusal
refused library model = refusal_by (items_of_text library) (items_of_text model)

-- how many blocks the model has with its references written out, and how deep
abbrev size : (library model : List ℕ) → Option Size
size library model =
    option_map (λ (l : Library). model_size l (items_of_text model))
    (library_of (items_of_text library))

-- the blocks of the model with its references written out
abbrev blocks : (library model : List ℕ) → List Outline
blocks library model =
    option_map_or (λ (l : Library). blocks_of (expanded l (items_of_text model)))
    (library_of (items_of_text library)) []

-- a block by its number, the number of the subsystem around it, and its line
abbrev place : Outline → ℕ × Option ℕ × ℕ
place b = (b.number, b.owner, b.section.line)

abbrev places : (library model : List ℕ) → List (ℕ × Option ℕ × ℕ)
places library model = map place (blocks library model)

-- what each block says itself of a parameter
abbrev values : (name library model : List ℕ) → List (Option (List ℕ))
values name library model =
    map (λ (b : Outline). first_value name b.section.items) (blocks library model)

-- ---- Two accumulators

chain-accepted : refused (library accumulator) (chained []) ≡ None
unfolding items_from
chain-accepted = refl

chain-size : size (library accumulator) (chained []) ≡ Some (record { blocks = 12; depth = 1 })
unfolding items_from
chain-size = refl

-- the rows of a copy are on the line of its reference
chain-places : places (library accumulator) (chained [])
    ≡ (0, None, 3) ∷ (1, None, 7) ∷ (2, Some 1, 7) ∷ (3, Some 1, 7) ∷ (4, Some 1, 7)
    ∷ (5, Some 1, 7) ∷ (6, None, 12) ∷ (7, Some 6, 12) ∷ (8, Some 6, 12) ∷ (9, Some 6, 12)
    ∷ (10, Some 6, 12)
    ∷ (11, None, 17) ∷ []
unfolding items_from
chain-places = refl

chain-names : values (codes "Name") (library accumulator) (chained [])
    ≡ map Some (codes "In1" ∷ codes "A" ∷ codes "x" ∷ codes "s" ∷ codes "d" ∷ codes "y"
    ∷ codes "B" ∷ codes "x" ∷ codes "s" ∷ codes "d" ∷ codes "y" ∷ codes "Out1" ∷ [])
unfolding items_from
chain-names = refl

converted-size : size (library accumulator)
    (chained (block (codes "DataTypeConversion") (codes "C") []))
    ≡ Some (record { blocks = 13; depth = 1 })
unfolding items_from
converted-size = refl

-- ---- Refusals

missing-source : refused (library accumulator)
    (model (in_one ++ reference (codes "A") (codes "lib/None")))
    ≡ Some (NoReference 7 false)
unfolding items_from
missing-source = refl

missing-line : refusal_phrase (NoReference 7 false) ≡ codes "F26 NoReference line 7 model"
unfolding digits
missing-line = refl

-- one that names nothing in the model counts before one in the library
missing-both : refused (library (reference (codes "R") (codes "lib/R")))
    (model (reference (codes "A") (codes "lib/R"))) ≡ Some (NoReference 3 false)
unfolding items_from
missing-both = refl

missing-inside : refused
    (library (subsystem (codes "P") (reference (codes "R") (codes "other/P")) ++ accumulator))
    (model in_one) ≡ Some (NoReference 8 true)
unfolding items_from
missing-inside = refl

nameless-library : refused (codes "Library {\nSystem {\n}\n}\n") (model in_one) ≡ Some (BadLibrary 0)
unfolding items_from
nameless-library = refl

no-library : refused (model in_one) (model in_one) ≡ Some (BadLibrary 0)
unfolding items_from
no-library = refl

-- Q names P, which names Q; R, which comes first, leads to both and not to itself
circular : refused
    (library (subsystem (codes "R") (reference (codes "a") (codes "lib/P"))
    ++ subsystem (codes "P") (reference (codes "a") (codes "lib/Q"))
    ++ subsystem (codes "Q") (subsystem (codes "in") (reference (codes "a") (codes "lib/P")))))
    (model in_one) ≡ Some (Circular 15)
unfolding items_from
circular = refl

-- ---- References in references, and names

-- a subsystem of the library holds a reference, which is written out on the line of the outer one
nested-places : places
    (library (accumulator ++ subsystem (codes "Twice") (reference (codes "a") (codes "lib/Acc"))))
    (model (in_one ++ reference (codes "T") (codes "lib/Twice")))
    ≡ (0, None, 3) ∷ (1, None, 7) ∷ (2, Some 1, 7) ∷ (3, Some 2, 7) ∷ (4, Some 2, 7) ∷ (5, Some 2, 7)
    ∷ (6, Some 2, 7) ∷ []
unfolding items_from
nested-places = refl

-- each `/` of a block's name is doubled
slashed-name : refused (library (subsystem (codes "a/b") []))
    (model (reference (codes "A") (codes "lib/a//b"))) ≡ None
unfolding items_from
slashed-name = refl

single-slash : refused (library (subsystem (codes "a/b") []))
    (model (reference (codes "A") (codes "lib/a/b"))) ≡ Some (NoReference 3 false)
unfolding items_from
single-slash = refl

-- ---- Parameters

-- a library whose Gains are 3 by default, and a model whose Gains are 5
abbrev tripling : List ℕ
tripling =
    codes "Library {\nName lib\nBlockParameterDefaults {\nBlock {\nBlockType Gain\nGain 3\n}\n}\nSystem {\n"
    ++ subsystem (codes "G") (block (codes "Gain") (codes "g") []) ++ codes "}\n}\n"

abbrev fivefold : List ℕ
fivefold =
    codes "Model {\nBlockParameterDefaults {\nBlock {\nBlockType Gain\nGain 5\n}\n}\nSystem {\n"
    ++ reference (codes "A") (codes "lib/G") ++ block (codes "Gain") (codes "g") [] ++ codes "}\n}\n"

-- in the copy the library's default is the block's own text; the model's own block has none
settled-gain : values (codes "Gain") tripling fivefold ≡ None ∷ Some (codes "3") ∷ None ∷ []
unfolding items_from
settled-gain = refl

settled-rounding : values (codes "RndMeth") tripling fivefold
    ≡ None ∷ Some (codes "Floor") ∷ None ∷ []
unfolding items_from
settled-rounding = refl

-- ---- Growth

-- so many subsystems, each but the last with so many references to the next
abbrev links_to : (count : ℕ) → (next : ℕ) → List ℕ
links_to count next =
    flat_map (λ k. reference (codes "r" ++ decimal k) (codes "lib/c" ++ decimal next))
    (range_with_len 0 count)

growing : (n count : ℕ) → List ℕ
growing zero count = subsystem (codes "c0") []
growing (suc n) count = subsystem (codes "c" ++ decimal (suc n)) (links_to count n)
    ++ growing n count

abbrev grown : (n count : ℕ) → Option LibraryRefusal
unfolding growing
grown n count = refused (library (growing n count))
    (model (reference (codes "A") (codes "lib/c" ++ decimal n)))

-- twenty subsystems that double come to more than a million blocks
doubling : grown 19 2 ≡ Some Expanded
unfolding items_from growing digits
doubling = refl

-- a chain of 32 is not too deep, and one of 33 is
chain_of_32 : grown 31 1 ≡ None
unfolding items_from growing digits
chain_of_32 = refl

chain_of_33 : grown 32 1 ≡ Some Expanded
unfolding items_from growing digits
chain_of_33 = refl
