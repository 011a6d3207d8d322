-- The references of a System, those that name nothing, and the sources that reach themselves.
use Rattle.std.specs.Prelude.{ℕ, min, Bool, true, false, ◌||◌, ◌==◌, is_some, if◌then◌else◌, List, [], ◌∷◌, ◌++◌, length, map, filter, flat_map, filter_map, find, slice_get, slice_index_or, Option, Some, None, option_map, bytes_eq, codes}
use Rattle.std.specs.Option.{option_map_or}
use Rattle.std.specs.List.{enumerate_from, list_any, range_with_len}
use Rattle.std.specs.Fn.{iterate}
use Rattle.base_graph.specs.NeedsGraph.{NeedsGraph}
use Rattle.mdl_tree.specs.Spelling.{Items, End, Param, Section}
use Rattle.mdl_tree.specs.Walks.{SectionTree}
use Rattle.mdl_params.specs.declared.BlockType.TheVariants.{SubSystem}
use Rattle.mdl_blocks.specs.Peers.{writes_type}
use Rattle.mdl_library.specs.Given.{Given, is_reference}
use Rattle.mdl_library.specs.Library.{Library, Source, named_by}

-- ---- References

abbrev mutual
  -- the references among the blocks of a System's items, and those inside its subsystems
  pub references_in : Items → List SectionTree
  references_in End = []
  references_in (Param name value line rest) = references_in rest
  references_in (Section name line items rest) = elim (bytes_eq name (codes "Block")) [
    | true ↦
        let own : List SectionTree = elim (is_reference items) [
          | true ↦ record { name = name; line = line; items = items } ∷ []
          | false ↦ elim (writes_type SubSystem items) [
            | true ↦ references_inside items
            | false ↦ []
          ]
        ] in
        own ++ references_in rest
    | false ↦ references_in rest
  ]

  -- those in the first System among a block's items
  pub references_inside : Items → List SectionTree
  references_inside End = []
  references_inside (Param name value line rest) = references_inside rest
  references_inside (Section name line items rest) = elim (bytes_eq name (codes "System")) [
    | true ↦ references_in items
    | false ↦ references_inside rest
  ]

-- those of one block: itself, or those inside it
abbrev pub references_at : SectionTree → List SectionTree
references_at block = elim (is_reference block.items) [
  | true ↦ block ∷ []
  | false ↦ elim (writes_type SubSystem block.items) [
    | true ↦ references_inside block.items
    | false ↦ []
  ]
]

-- ---- References that name nothing

-- the lesser of two lines that may be there
abbrev pub lesser : Option ℕ → Option ℕ → Option ℕ
lesser None line = line
lesser (Some line) None = Some line
lesser (Some line) (Some other) = Some (min line other)

-- the line of a reference that names no source, by what its file gives
abbrev pub unnamed_line : List Source → Given → SectionTree → Option ℕ
unnamed_line sources given reference =
    if is_some (named_by sources given reference.items) then None else Some reference.line

-- the least line of such a reference among some
abbrev pub least_unnamed : List Source → Given → List SectionTree → Option ℕ
least_unnamed sources given [] = None
least_unnamed sources given (reference ∷ rest) =
    lesser (unnamed_line sources given reference) (least_unnamed sources given rest)

-- ---- Sources that reach themselves

-- the needs of the source at a place with these references inside it: those that they name, each
-- with it
abbrev pub needs_by : Library → (place : ℕ) → List SectionTree → List (ℕ × ℕ)
needs_by library place references =
    map (λ named. (named, place))
    (filter_map (λ (reference : SectionTree).
    named_by library.sources library.given reference.items) references)

abbrev pub needs_of : Library → ℕ × Source → List (ℕ × ℕ)
needs_of library source =
    needs_by library source.0 (references_inside source.1.1.items)

-- the same of the source at a place, if there is one
abbrev pub needs_at : Library → (place : ℕ) → List (ℕ × ℕ)
needs_at library place =
    option_map_or (λ (source : Source). needs_of library (place, source))
    (slice_get library.sources place) []

-- the sources as a graph: each needs those that references inside it name
abbrev pub source_graph : Library → NeedsGraph
source_graph library =
    record {
      n = length library.sources;
      edges = flat_map (needs_of library) (enumerate_from 0 library.sources);
    }

-- what a node of a graph needs
abbrev pub needed_by : NeedsGraph → ℕ → List ℕ
needed_by g b = map (λ (edge : ℕ × ℕ). edge.0) (filter (λ (edge : ℕ × ℕ). edge.1 == b) g.edges)

-- flags of the nodes that need node k
abbrev pub needing : NeedsGraph → (k : ℕ) → List Bool
needing g k = map (λ b. list_any (λ a. a == k) (needed_by g b)) (range_with_len 0 g.n)

-- the flags, with those of nodes that need a node with a flag
abbrev pub further : NeedsGraph → List Bool → List Bool
further g flags =
    map (λ b. slice_index_or flags b false
    || list_any (λ a. slice_index_or flags a false) (needed_by g b)) (range_with_len 0 g.n)

-- whether a node needs itself, along some edges
abbrev pub needs_itself : NeedsGraph → ℕ → Bool
needs_itself g k = slice_index_or (iterate (further g) g.n (needing g k)) k false

-- the line of the first source that reaches itself
abbrev pub circular_line : Library → Option ℕ
circular_line library =
    option_map (λ (source : ℕ × Source). source.1.1.line)
    (find (λ (source : ℕ × Source). needs_itself (source_graph library) source.0)
    (enumerate_from 0 library.sources))
