-- The size that is found for a System is that of the System written out.
use Rattle.std.proofs.Common.{◌≡◌, refl, sym, ◌∙◌, ap, ap₂, ℕ, zero, suc, ◌+◌, ◌<◌, Bool, true, false, true≢false, is_some, cond, List, [], ◌∷◌, ◌++◌, length, slice_index_or, slice_get, map, Option, Some, None, codes, arith}
use Rattle.std.specs.Prelude.{bytes_eq, unwrap_or}
use Rattle.std.specs.Option.{option_map_or}
use Rattle.std.proofs.lemmas.Slice.Eq.{bytes_eq-Decides}
use Rattle.mdl_tree.specs.Spelling.{Items, End, Param, Section}
use Rattle.mdl_tree.specs.Walks.{SectionTree, first_section, first_value}
use Rattle.mdl_params.specs.declared.BlockType.TheVariants.{SubSystem}
use Rattle.mdl_params.specs.BlockTypes.{block_type_name}
use Rattle.mdl_blocks.specs.Peers.{writes_type, peers_in}
use Rattle.mdl_library.specs.Items.{inside_first, with_inside, moved, set_on, titled}
use Rattle.mdl_library.specs.Given.{Given, given_by, is_reference, name_given}
use Rattle.mdl_library.specs.Library.{Library, Source, named_by}
use Rattle.mdl_library.specs.Written.{kept, settled_as, settled, source_written, model_written, expanded_to, block_on, inside_on, reference_written, block_written, system_written, inner_written}
use Rattle.mdl_library.specs.Sizes.{next_sizes, source_sizes, size_in, Size, no_size, beside_size, plain_size, subsystem_size, reference_size, system_size, inner_size}
use Rattle.mdl_library.specs.Laws.{SizesAreRight}
use Rattle.mdl_library.proofs.TreeSizes.{tree_size, tree_inner, tree_own, model-size}
use Rattle.mdl_library.proofs.Blocks.{size_system}
use Rattle.mdl_library.proofs.SizeLemmas.{iterate_more}
use Rattle.mdl_library.proofs.GraphLemmas.{get-some, named-below}
use Rattle.mdl_library.proofs.WrittenLemmas.{inner_first}

-- ---- The type and the System of what is written

-- parameters in front of items change no size
inner-set : (line : ℕ) (texts : List (List ℕ × List ℕ)) (rest : Items) → tree_inner (set_on line texts rest) ≡ tree_inner rest
inner-set line [] rest = refl
inner-set line (text ∷ texts) rest = inner-set line texts rest

pub first-with : (name wanted : List ℕ) (inside items : Items) → first_value name (with_inside wanted inside items) ≡ first_value name items
first-with name wanted inside End = refl
first-with name wanted inside (Param own value line rest) = ap (λ o. cond (bytes_eq own name) (Some value) o) (first-with name wanted inside rest)
first-with name wanted inside (Section own line items rest) = by_test (bytes_eq own wanted) (first-with name wanted inside rest)
  where
    by_test : (t : Bool) → first_value name (with_inside wanted inside rest) ≡ first_value name rest →
        first_value name (cond t (Section own line inside rest) (Section own line items (with_inside wanted inside rest)))
        ≡ first_value name rest
    by_test true more = refl
    by_test false more = more

inner-with : (inside items : Items) →
    tree_inner (with_inside (codes "System") inside items)
    ≡ option_map_or (λ (s : SectionTree). tree_size inside) (first_section (codes "System") items) no_size
inner-with inside End = refl
inner-with inside (Param name value line rest) = inner-with inside rest
inner-with inside (Section name line items rest) = by_test (bytes_eq name (codes "System")) refl (inner-with inside rest)
  where
    found : Option SectionTree → Size
    found o = option_map_or (λ (s : SectionTree). tree_size inside) o no_size

    by_test : (t : Bool) → bytes_eq name (codes "System") ≡ t →
        tree_inner (with_inside (codes "System") inside rest) ≡ found (first_section (codes "System") rest) →
        tree_inner (cond t (Section name line inside rest) (Section name line items (with_inside (codes "System") inside rest)))
        ≡ found (cond t (Some (record { name = name; line = line; items = items })) (first_section (codes "System") rest))
    by_test true e more = ap (λ t. elim t [
      | true ↦ tree_size inside
      | false ↦ tree_inner rest
    ]) e
    by_test false e more = ap (λ t. elim t [
      | true ↦ tree_size items
      | false ↦ tree_inner (with_inside (codes "System") inside rest)
    ]) e ∙ more

pub first-moved : (name : List ℕ) (copy : Option ℕ) (items : Items) → first_value name (moved copy items) ≡ first_value name items
first-moved name copy End = refl
first-moved name copy (Param own value line rest) = ap (λ o. cond (bytes_eq own name) (Some value) o) (first-moved name copy rest)
first-moved name copy (Section own line items rest) = first-moved name copy rest

-- a block without a System has nothing inside it
inner-none : (items : Items) → first_section (codes "System") items ≡ None → tree_inner items ≡ no_size
inner-none End e = refl
inner-none (Param name value line rest) e = inner-none rest e
inner-none (Section name line items rest) e = by_test (bytes_eq name (codes "System")) (inner-none rest) e
  where
    by_test : (t : Bool) → (first_section (codes "System") rest ≡ None → tree_inner rest ≡ no_size) →
        cond t (Some (record { name = name; line = line; items = items })) (first_section (codes "System") rest) ≡ None →
        elim t [
          | true ↦ tree_size items
          | false ↦ tree_inner rest
        ] ≡ no_size
    by_test true more e = absurd (true≢false (ap is_some e))
    by_test false more e = more e

-- ---- One block

-- a reference's type is no SubSystem
reference-plain : (kind : Option (List ℕ)) → option_map_or (bytes_eq (codes "Reference")) kind false ≡ true →
    option_map_or (bytes_eq (block_type_name SubSystem)) kind false ≡ false
reference-plain None e = refl
reference-plain (Some kind) e =
    ap (bytes_eq (block_type_name SubSystem)) (sym ((bytes_eq-Decides (codes "Reference") kind).0 e))

-- where no type is written there is none in a copy
pub no-kind : (line : ℕ) (name : Option (List ℕ)) (given : Given) (block : Items) (inside : Option Items) →
    first_value (codes "BlockType") block ≡ None →
    first_value (codes "BlockType") (block_on line None name given block (inside_on line inside)) ≡ None
no-kind line name given block inside e =
    ap (λ o. first_value (codes "BlockType") (set_on line (titled (codes "Name") name ++ option_map_or (settled_as given block) o [])
    (inside_on line inside))) e ∙ by_name name inside
  where
    by_name : (name : Option (List ℕ)) (inside : Option Items) →
        first_value (codes "BlockType") (set_on line (titled (codes "Name") name ++ []) (inside_on line inside)) ≡ None
    by_name None None = refl
    by_name None (Some system) = refl
    by_name (Some name) None = refl
    by_name (Some name) (Some system) = refl

pub on-type : (line : ℕ) (kind : Option (List ℕ)) (name : Option (List ℕ)) (given : Given) (block : Items) (inside : Option Items) →
    first_value (codes "BlockType") block ≡ kind →
    writes_type SubSystem (block_on line kind name given block (inside_on line inside))
    ≡ option_map_or (bytes_eq (block_type_name SubSystem)) kind false
on-type line None name given block inside e =
    ap (λ o. option_map_or (bytes_eq (block_type_name SubSystem)) o false) (no-kind line name given block inside e)
on-type line (Some kind) name given block inside e = refl

-- the size inside a block of a copy
inside-size-on : (line : ℕ) (inside : Option Items) → tree_inner (inside_on line inside) ≡ option_map_or tree_size inside no_size
inside-size-on line None = refl
inside-size-on line (Some system) = refl

-- the parts of a block of a copy
inner-on : (line : ℕ) (kind name : Option (List ℕ)) (given : Given) (block : Items) (inside : Option Items) →
    tree_inner (block_on line kind name given block (inside_on line inside)) ≡ option_map_or tree_size inside no_size
inner-on line kind name given block inside =
    inner-set line ((titled (codes "BlockType") kind ++ titled (codes "Name") name) ++ settled given block) (inside_on line inside)
    ∙ inside-size-on line inside

-- ---- A System written out

own-size : (items : Items) (u : Bool) → writes_type SubSystem items ≡ u → (inside : Size) → tree_inner items ≡ inside →
    tree_own items ≡ cond u (subsystem_size inside) plain_size
own-size items u e inside f =
    ap (λ t. elim t [
      | true ↦ subsystem_size (tree_inner items)
      | false ↦ plain_size
    ]) e ∙ by_test u
  where
    by_test : (u : Bool) → elim u [
      | true ↦ subsystem_size (tree_inner items)
      | false ↦ plain_size
    ] ≡ cond u (subsystem_size inside) plain_size
    by_test true = ap subsystem_size f
    by_test false = refl

module _ (library : Library) (given : Given) (system : (line : ℕ) → ℕ → Items) (copy : Option ℕ) (sizes : List Size)
    (right : (line k : ℕ) → k < length library.sources → tree_size (system line k) ≡ slice_index_or sizes k no_size) where
  -- a reference
  reference-size : (line : ℕ) (items : Items) → is_reference items ≡ true →
      tree_own (reference_written library given system copy line items) ≡ reference_size library.sources given sizes items
  reference-size line items e = by_place (named_by library.sources given items) refl
    where
      stays : tree_own (moved copy items) ≡ plain_size
      stays = own-size (moved copy items) false
          (ap (λ o. option_map_or (bytes_eq (block_type_name SubSystem)) o false) (first-moved (codes "BlockType") copy items)
          ∙ reference-plain (first_value (codes "BlockType") items) e) (tree_inner (moved copy items)) refl

      copied : ℕ → Source → Items
      copied k source =
          block_on line (Some (block_type_name SubSystem)) (name_given given items) library.given source.1.items
          (inside_on line (Some (system line k)))

      by_source : (k : ℕ) → k < length library.sources → (o : Option Source) → slice_get library.sources k ≡ o →
          tree_own (option_map_or (copied k) o (moved copy items)) ≡ subsystem_size (slice_index_or sizes k no_size)
      by_source k h None found = absurd (get-some library.sources k h found)
      by_source k h (Some source) found =
          own-size (copied k source) true refl (slice_index_or sizes k no_size)
          (inner-on line (Some (block_type_name SubSystem)) (name_given given items) library.given source.1.items (Some (system line k))
          ∙ right line k h)

      by_place : (o : Option ℕ) → named_by library.sources given items ≡ o →
          tree_own (option_map_or (λ k. option_map_or (copied k) (slice_get library.sources k) (moved copy items)) o (moved copy items))
          ≡ option_map_or (λ k. subsystem_size (slice_index_or sizes k no_size)) o plain_size
      by_place None e = stays
      by_place (Some k) e = by_source k (named-below library.sources given items k e) (slice_get library.sources k) refl

  -- another block of the model
  kept-size : (items : Items) (inner : Option Items) (o : Option SectionTree) → first_section (codes "System") items ≡ o →
      inner ≡ option_map_or (λ (s : SectionTree). Some (system_written library given system copy s.items)) o None →
      writes_type SubSystem items ≡ true → tree_own (kept items inner) ≡ subsystem_size (option_map_or tree_size inner no_size)
  kept-size items inner None found is e =
      ap (λ i. tree_own (kept items i)) is ∙ own-size items true e no_size (inner-none items found)
      ∙ ap (λ i. subsystem_size (option_map_or tree_size i no_size)) (sym is)
  kept-size items inner (Some s) found is e =
      let system = system_written library given system copy s.items in
      ap (λ i. tree_own (kept items i)) is
      ∙ own-size (with_inside (codes "System") system items) true
      (ap (λ o. option_map_or (bytes_eq (block_type_name SubSystem)) o false) (first-with (codes "BlockType") (codes "System") system items)
      ∙ e) (tree_size system)
      (inner-with system items ∙ ap (λ o. option_map_or (λ (t : SectionTree). tree_size system) o no_size) found)
      ∙ ap (λ i. subsystem_size (option_map_or tree_size i no_size)) (sym is)

  -- another block
  other-size : (items : Items) (inner : Option Items) →
      inner ≡ option_map_or (λ (s : SectionTree). Some (system_written library given system copy s.items))
      (first_section (codes "System") items) None →
      (u : Bool) → writes_type SubSystem items ≡ u → (p : Option ℕ) →
      tree_own (block_written library given system p items (cond u inner None))
      ≡ cond u (subsystem_size (option_map_or tree_size inner no_size)) plain_size
  other-size items inner from true e None = kept-size items inner (first_section (codes "System") items) refl from e
  other-size items inner from false e None = own-size items false e (tree_inner items) refl
  other-size items inner from u e (Some line) =
      own-size (block_on line (first_value (codes "BlockType") items) (name_given given items) given items (inside_on line (cond u inner None))) u
      (on-type line (first_value (codes "BlockType") items) (name_given given items) given items (cond u inner None) refl ∙ e)
      (option_map_or tree_size (cond u inner None) no_size)
      (inner-on line (first_value (codes "BlockType") items) (name_given given items) given items (cond u inner None)) ∙ last u
    where
      last : (u : Bool) →
          cond u (subsystem_size (option_map_or tree_size (cond u inner None) no_size)) plain_size
          ≡ cond u (subsystem_size (option_map_or tree_size inner no_size)) plain_size
      last true = refl
      last false = refl

  -- one block
  block-size : (line : ℕ) (items : Items) →
      option_map_or tree_size (inner_written library given system copy items) no_size ≡ inner_size library.sources given sizes items →
      (t u : Bool) → is_reference items ≡ t → writes_type SubSystem items ≡ u →
      tree_own (elim t [
        | true ↦ reference_written library given system copy line items
        | false ↦
            let inner : Option Items = elim u [
              | true ↦ inner_written library given system copy items
              | false ↦ None
            ] in
            block_written library given system copy items inner
      ])
      ≡ elim t [
        | true ↦ reference_size library.sources given sizes items
        | false ↦ elim u [
          | true ↦ subsystem_size (inner_size library.sources given sizes items)
          | false ↦ plain_size
        ]
      ]
  block-size line items is true u e f = reference-size line items e
  block-size line items is false true e f =
      other-size items (inner_written library given system copy items) (inner_first library given system copy items) true f copy
      ∙ ap subsystem_size is
  block-size line items is false false e f =
      other-size items (inner_written library given system copy items) (inner_first library given system copy items) false f copy

  mutual
    pub written-size : (items : Items) →
        tree_size (system_written library given system copy items) ≡ system_size library.sources given sizes items
    written-size End = refl
    written-size (Param name value line rest) = written-size rest
    written-size (Section name line items rest) =
        by_test (bytes_eq name (codes "Block")) refl (is_reference items) (writes_type SubSystem items) refl refl (inner-size items)
        (written-size rest)
      where
        own : (t u : Bool) → Items
        own t u = elim t [
          | true ↦ reference_written library given system copy (unwrap_or copy line) items
          | false ↦
              let inner : Option Items = elim u [
                | true ↦ inner_written library given system copy items
                | false ↦ None
              ] in
              block_written library given system copy items inner
        ]

        size : (t u : Bool) → Size
        size t u = elim t [
          | true ↦ reference_size library.sources given sizes items
          | false ↦ elim u [
            | true ↦ subsystem_size (inner_size library.sources given sizes items)
            | false ↦ plain_size
          ]
        ]

        by_test : (b : Bool) → bytes_eq name (codes "Block") ≡ b → (t u : Bool) → is_reference items ≡ t → writes_type SubSystem items ≡ u →
            option_map_or tree_size (inner_written library given system copy items) no_size ≡ inner_size library.sources given sizes items →
            tree_size (system_written library given system copy rest) ≡ system_size library.sources given sizes rest →
            tree_size (elim b [
              | true ↦ Section name (unwrap_or copy line) (own t u) (system_written library given system copy rest)
              | false ↦ Section name (unwrap_or copy line) (moved copy items) (system_written library given system copy rest)
            ])
            ≡ elim b [
              | true ↦ beside_size (size t u) (system_size library.sources given sizes rest)
              | false ↦ system_size library.sources given sizes rest
            ]
        by_test true named t u e f inner more = ap (λ b. elim b [
          | true ↦ beside_size (tree_own (own t u)) (tree_size (system_written library given system copy rest))
          | false ↦ tree_size (system_written library given system copy rest)
        ]) named ∙ ap₂ beside_size (block-size (unwrap_or copy line) items inner t u e f) more
        by_test false named t u e f inner more = ap (λ b. elim b [
          | true ↦ beside_size (tree_own (moved copy items)) (tree_size (system_written library given system copy rest))
          | false ↦ tree_size (system_written library given system copy rest)
        ]) named ∙ more

    inner-size : (items : Items) →
        option_map_or tree_size (inner_written library given system copy items) no_size ≡ inner_size library.sources given sizes items
    inner-size End = refl
    inner-size (Param name value line rest) = inner-size rest
    inner-size (Section name line items rest) = by_test (bytes_eq name (codes "System")) (written-size items) (inner-size rest)
      where
        by_test : (t : Bool) → tree_size (system_written library given system copy items) ≡ system_size library.sources given sizes items →
            option_map_or tree_size (inner_written library given system copy rest) no_size ≡ inner_size library.sources given sizes rest →
            option_map_or tree_size (elim t [
              | true ↦ Some (system_written library given system copy items)
              | false ↦ inner_written library given system copy rest
            ]) no_size
            ≡ elim t [
              | true ↦ system_size library.sources given sizes items
              | false ↦ inner_size library.sources given sizes rest
            ]
        by_test true inner more = inner
        by_test false inner more = more

-- ---- A model written out

get-map : {X Y : Type 0} (f : X → Y) (xs : List X) (k : ℕ) (x : X) (d : Y) → slice_get xs k ≡ Some x → slice_index_or (map f xs) k d ≡ f x
get-map f [] k x d e = absurd (true≢false (sym (ap is_some e)))
get-map f (y ∷ ys) zero x d e = ap f (ap (λ o. unwrap_or o x) e)
get-map f (y ∷ ys) (suc k) x d e = get-map f ys k x d e

-- the size of the first System
first-size : (sources : List Source) (given : Given) (sizes : List Size) (items : Items) →
    system_size sources given sizes (inside_first (codes "System") items) ≡ inner_size sources given sizes items
first-size sources given sizes items = by_first (first_section (codes "System") items) ∙ sym (size_system sources given sizes items)
  where
    by_first : (o : Option SectionTree) →
        system_size sources given sizes (option_map_or (λ (s : SectionTree). s.items) o End)
        ≡ option_map_or (λ (s : SectionTree). system_size sources given sizes s.items) o no_size
    by_first None = refl
    by_first (Some s) = refl

-- the Systems of the sources, to any number of references inside one another
source-size : (library : Library) (depth line k : ℕ) → k < length library.sources →
    tree_size (source_written library depth line k) ≡ slice_index_or (source_sizes library depth) k no_size
source-size library zero line k h = refl
source-size library (suc depth) line k h =
    by_source (slice_get library.sources k) refl
    (written-size library library.given (source_written library depth) (Some line) (source_sizes library depth) (source-size library depth))
    ∙ ap (λ sizes. slice_index_or sizes k no_size) (iterate_more (next_sizes library) depth [] ∙ ap (source_sizes library) (one_more depth))
  where
    one_more : (n : ℕ) → n + 1 ≡ suc n
    one_more n = omega arith

    sizes : List Size
    sizes = source_sizes library depth

    by_source : (o : Option Source) → slice_get library.sources k ≡ o →
        ((items : Items) → tree_size (system_written library library.given (source_written library depth) (Some line) items)
        ≡ system_size library.sources library.given sizes items) →
        tree_size (option_map_or (λ (source : Source).
        system_written library library.given (source_written library depth) (Some line) (inside_first (codes "System") source.1.items)) o End)
        ≡ slice_index_or (next_sizes library sizes) k no_size
    by_source None found written = absurd (get-some library.sources k h found)
    by_source (Some source) found written =
        written (inside_first (codes "System") source.1.items) ∙ first-size library.sources library.given sizes source.1.items
        ∙ sym (get-map (λ (s : Source). inner_size library.sources library.given sizes s.1.items) library.sources k source no_size found)

pub inside-with : (wanted : List ℕ) (inside items : Items) →
    inside_first wanted (with_inside wanted inside items) ≡ option_map_or (λ (s : SectionTree). inside) (first_section wanted items) End
inside-with wanted inside End = refl
inside-with wanted inside (Param name value line rest) = inside-with wanted inside rest
inside-with wanted inside (Section name line items rest) = by_test (bytes_eq name wanted) refl (inside-with wanted inside rest)
  where
    found : Option SectionTree → Items
    found o = option_map_or (λ (s : SectionTree). inside) o End

    by_test : (t : Bool) → bytes_eq name wanted ≡ t → inside_first wanted (with_inside wanted inside rest) ≡ found (first_section wanted rest) →
        inside_first wanted (cond t (Section name line inside rest) (Section name line items (with_inside wanted inside rest)))
        ≡ found (cond t (Some (record { name = name; line = line; items = items })) (first_section wanted rest))
    by_test true e more =
        ap (λ t. option_map_or (λ (s : SectionTree). s.items)
        (cond t (Some (record { name = name; line = line; items = inside })) (first_section wanted rest)) End) e
    by_test false e more =
        ap (λ t. option_map_or (λ (s : SectionTree). s.items)
        (cond t (Some (record { name = name; line = line; items = items })) (first_section wanted (with_inside wanted inside rest))) End) e
        ∙ more

-- the size of a Model written out
written-model-size : (library : Library) (model : Items) (depth : ℕ) →
    tree_size (inside_first (codes "System") (model_written depth library model)) ≡ size_in depth library model
written-model-size library model depth =
    ap tree_size (inside-with (codes "System") written model) ∙ by_first (first_section (codes "System") model) refl
  where
    sizes : List Size
    sizes = source_sizes library depth

    written : Items
    written = system_written library (given_by model) (source_written library depth) None (inside_first (codes "System") model)

    by_first : (o : Option SectionTree) → first_section (codes "System") model ≡ o →
        tree_size (option_map_or (λ (s : SectionTree). written) o End) ≡ inner_size library.sources (given_by model) sizes model
    by_first None e =
        sym (size_system library.sources (given_by model) sizes model
        ∙ ap (λ o. option_map_or (λ (s : SectionTree). system_size library.sources (given_by model) sizes s.items) o no_size) e)
    by_first (Some s) e =
        written-size library (given_by model) (source_written library depth) None sizes (source-size library depth)
        (inside_first (codes "System") model)
        ∙ first-size library.sources (given_by model) sizes model

pub sizes_are_right : SizesAreRight
sizes_are_right library file depth =
    sym (model-size (inside_first (codes "System") (inside_first (codes "Model") (expanded_to depth library file)))
    (peers_in (inside_first (codes "System") (inside_first (codes "Model") (expanded_to depth library file))))
    ∙ ap (λ items. tree_size (inside_first (codes "System") items))
    (inside-with (codes "Model") (model_written depth library (inside_first (codes "Model") file)) file)
    ∙ by_model (first_section (codes "Model") file) refl)
  where
    by_model : (o : Option SectionTree) → first_section (codes "Model") file ≡ o →
        tree_size (inside_first (codes "System")
        (option_map_or (λ (s : SectionTree). model_written depth library (inside_first (codes "Model") file)) o End))
        ≡ size_in depth library (inside_first (codes "Model") file)
    by_model None e = ap (λ o. size_in depth library (option_map_or (λ (s : SectionTree). s.items) o End)) (sym e)
    by_model (Some s) e = written-model-size library (inside_first (codes "Model") file) depth
