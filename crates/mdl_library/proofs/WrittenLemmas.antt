-- What is written of items in memory, one by one.
use Rattle.std.proofs.Common.{zero, suc, ◌-◌, ◌<◌, is_some, slice_get, option_and_then, ◌≡◌, refl, sym, ◌∙◌, ap, ℕ, Bool, true, false, true≢false, cond, [], ◌∷◌, Option, Some, None, codes, arith}
use Rattle.std.specs.Prelude.{bytes_eq, unwrap_or}
use Rattle.std.specs.Option.{option_map_or}
use Rattle.mdl_tree.specs.declared.tree.Item.{Item, Param, Section'}
use Rattle.mdl_tree.specs.Spelling.{Items, End, append_items}
use Rattle.mdl_tree.specs.Spelling as spelling
use Rattle.mdl_tree.specs.Walks.{SectionTree, sections_named, first_section}
use Rattle.mdl_tree.specs.Values.{with_row, item_alone}
use Rattle.mdl_params.specs.declared.BlockType.TheVariants.{SubSystem}
use Rattle.mdl_blocks.specs.Peers.{writes_type}
use Rattle.mdl_library.specs.Items.{moved, inside_first}
use Rattle.mdl_library.specs.Given.{Given, is_reference}
use Rattle.mdl_library.specs.Library.{Library, Source}
use Rattle.mdl_library.specs.Written.{system_written, inner_written, reference_written, block_written, source_written}
use Rattle.mdl_library.specs.Held.{given_seen, library_seen}
use Rattle.mdl_library.specs.HeldWriting.{system_of, inner_of}
use Rattle.mdl_library.specs.declared.writing.Writing as held
use Rattle.mdl_library.proofs.ItemLemmas.{IsByItem, none-some}

module _ (library : Library) (given : Given) (system : (line : ℕ) → ℕ → Items) (copy : Option ℕ) where
  abbrev written : Items → Items
  written items = system_written library given system copy items

  pub written_by_item : IsByItem (system_written library given system copy)
  written_by_item (Param name value line) rest = refl
  written_by_item (Section' name line shape row) rest = by_test (bytes_eq name (codes "Block"))
    where
      block : (line : ℕ) → Items → Items
      block line items = elim (is_reference items) [
        | true ↦ reference_written library given system copy line items
        | false ↦
            let inner : Option Items = elim (writes_type SubSystem items) [
              | true ↦ inner_written library given system copy items
              | false ↦ None
            ] in
            block_written library given system copy items inner
      ]

      by_test : (t : Bool) →
          elim t [
            | true ↦ spelling.Section name (unwrap_or copy line) (block (unwrap_or copy line) (with_row row)) (written rest)
            | false ↦ spelling.Section name (unwrap_or copy line) (moved copy (with_row row)) (written rest)
          ]
          ≡ append_items (elim t [
            | true ↦ spelling.Section name (unwrap_or copy line) (block (unwrap_or copy line) (with_row row)) End
            | false ↦ spelling.Section name (unwrap_or copy line) (moved copy (with_row row)) End
          ]) (written rest)
      by_test true = refl
      by_test false = refl

  -- an item that is no Block
  pub written_other : (item : Item) → [] ≡ sections_named (codes "Block") (item_alone item) →
      moved copy (item_alone item) ≡ system_written library given system copy (item_alone item)
  written_other (Param name value line) e = refl
  written_other (Section' name line shape row) e = by_test (bytes_eq name (codes "Block")) e
    where
      here : SectionTree
      here = record { name = name; line = line; items = with_row row }

      block : Items
      block = elim (is_reference (with_row row)) [
        | true ↦ reference_written library given system copy (unwrap_or copy line) (with_row row)
        | false ↦
            let inner : Option Items = elim (writes_type SubSystem (with_row row)) [
              | true ↦ inner_written library given system copy (with_row row)
              | false ↦ None
            ] in
            block_written library given system copy (with_row row) inner
      ]

      by_test : (t : Bool) → [] ≡ cond t (here ∷ []) [] →
          spelling.Section name (unwrap_or copy line) (moved copy (with_row row)) End
          ≡ elim t [
            | true ↦ spelling.Section name (unwrap_or copy line) block End
            | false ↦ spelling.Section name (unwrap_or copy line) (moved copy (with_row row)) End
          ]
      by_test true e = absurd (none-some here (sym e))
      by_test false e = refl

  -- a Block
  pub written_block : (s : SectionTree) → bytes_eq s.name (codes "Block") ≡ true →
      system_written library given system copy (spelling.Section s.name s.line s.items End)
      ≡ spelling.Section s.name (unwrap_or copy s.line) (elim (is_reference s.items) [
        | true ↦ reference_written library given system copy (unwrap_or copy s.line) s.items
        | false ↦
            block_written library given system copy s.items (elim (writes_type SubSystem s.items) [
              | true ↦ inner_written library given system copy s.items
              | false ↦ None
            ])
      ]) End
  written_block s named = ap (λ t. elim t [
    | true ↦ spelling.Section s.name (unwrap_or copy s.line) (elim (is_reference s.items) [
      | true ↦ reference_written library given system copy (unwrap_or copy s.line) s.items
      | false ↦
          block_written library given system copy s.items (elim (writes_type SubSystem s.items) [
            | true ↦ inner_written library given system copy s.items
            | false ↦ None
          ])
    ]) End
    | false ↦ spelling.Section s.name (unwrap_or copy s.line) (moved copy s.items) End
  ]) named

  -- the first System of a block
  pub inner_first : (items : Items) →
      inner_written library given system copy items
      ≡ option_map_or (λ (s : SectionTree). Some (written s.items)) (first_section (codes "System") items) None
  inner_first End = refl
  inner_first (spelling.Param name value line rest) = inner_first rest
  inner_first (spelling.Section name line items rest) = by_test (bytes_eq name (codes "System")) (inner_first rest)
    where
      inner : Option SectionTree → Option Items
      inner o = option_map_or (λ (s : SectionTree). Some (written s.items)) o None

      by_test : (t : Bool) → inner_written library given system copy rest ≡ inner (first_section (codes "System") rest) →
          elim t [
            | true ↦ Some (written items)
            | false ↦ inner_written library given system copy rest
          ] ≡ inner (cond t (Some (record { name = name; line = line; items = items })) (first_section (codes "System") rest))
      by_test true more = refl
      by_test false more = more

-- ---- What a file in memory has

pub inner_of-subsystem : (w : held.Writing) (s : SectionTree) → writes_type SubSystem s.items ≡ true → (o : Option SectionTree) →
    o ≡ first_section (codes "System") s.items →
    option_map_or (λ (system : SectionTree). Some (system_of w system.items)) o None ≡ inner_of w s
inner_of-subsystem w s e o is =
    ap (λ p. option_map_or (λ (system : SectionTree). Some (system_of w system.items)) p None) is
    ∙ sym (inner_first (library_seen w.library.now) (given_seen w.given.now) (source_written (library_seen w.library.now) w.depth) w.copy
    s.items)
    ∙ sym (ap (λ t. elim t [
      | true ↦
          inner_written (library_seen w.library.now) (given_seen w.given.now) (source_written (library_seen w.library.now) w.depth) w.copy
          s.items
      | false ↦ None
    ]) e)

-- the System of the source at a place
pub source_at_place : (library : Library) (depth line k : ℕ) (system : SectionTree) → 0 < depth →
    Some system ≡ option_and_then (λ (source : Source). first_section (codes "System") source.1.items) (slice_get library.sources k) →
    system_written library library.given (source_written library (depth - 1)) (Some line) system.items ≡ source_written library depth line k
source_at_place library zero line k system h e = absurd (omega (arith, h))
source_at_place library (suc depth) line k system h e =
    ap (λ d. system_written library library.given (source_written library d) (Some line) system.items) (less depth)
    ∙ by_source (slice_get library.sources k) e
  where
    less : (d : ℕ) → suc d - 1 ≡ d
    less d = omega arith

    by_source : (o : Option Source) →
        Some system ≡ option_and_then (λ (source : Source). first_section (codes "System") source.1.items) o →
        system_written library library.given (source_written library depth) (Some line) system.items
        ≡ option_map_or (λ (source : Source).
        system_written library library.given (source_written library depth) (Some line) (inside_first (codes "System") source.1.items)) o End
    by_source None e = absurd (true≢false (ap is_some e))
    by_source (Some source) e =
        ap (system_written library library.given (source_written library depth) (Some line))
        (ap (λ o. option_map_or (λ (s : SectionTree). s.items) o End) e)
