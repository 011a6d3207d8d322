-- No reference is left in what is written out.
use Rattle.std.proofs.Common.{◌≡◌, refl, sym, ◌∙◌, ap, subst, ℕ, zero, suc, ◌<◌, Bool, true, false, true≢false, is_some, cond, List, [], ◌∷◌, ◌++◌, length, slice_get, filter_map, fold, flat_map, option_map, option_and_then, Option, Some, None, codes}
use Rattle.std.specs.Prelude.{bytes_eq, unwrap_or}
use Rattle.std.specs.Option.{option_map_or, option_or}
use Rattle.std.specs.List.{AllByRecursion, cons_option}
use Rattle.std.proofs.lemmas.Slice.Eq.{bytes_eq-Decides}
use Rattle.mdl_tree.specs.Spelling.{Items, End, Param, Section}
use Rattle.mdl_tree.specs.Walks.{SectionTree, first_section, first_value, sections_named}
use Rattle.mdl_params.specs.declared.BlockType.TheVariants.{SubSystem}
use Rattle.mdl_params.specs.BlockTypes.{block_type_name, beside}
use Rattle.mdl_blocks.specs.Peers.{writes_type}
use Rattle.mdl_library.specs.Items.{inside_first, with_inside, moved, set_on, titled}
use Rattle.mdl_library.specs.Given.{Given, given_by, is_reference, name_given}
use Rattle.mdl_library.specs.Library.{Library, Source, named_by, doubled, source_of, with_source, sources_among, library_with, library_in, library_of}
use Rattle.mdl_library.specs.References.{references_in, references_inside, references_at, lesser, least_unnamed}
use Rattle.mdl_library.specs.Written.{kept, settled, block_on, inside_on, reference_written, block_written, system_written, inner_written, source_written, model_written, most_inside}
use Rattle.mdl_library.specs.Refusals.{unnamed_in_model, unnamed_in_library}
use Rattle.mdl_library.specs.Laws.{NoReferenceIsLeft}
use Rattle.mdl_library.specs.declared.refusal.LibraryRefusal.TheVariants.{NoReference}
use Rattle.mdl_library.proofs.Blocks.{references_blocks, references_system, references_none, at_other}
use Rattle.mdl_library.proofs.GraphLemmas.{get-some, named-below}
use Rattle.mdl_library.proofs.WrittenLemmas.{inner_first}
use Rattle.mdl_library.proofs.WrittenSizes.{first-with, no-kind, on-type, inside-with}

-- ---- References in what is written

refs-set : (line : ℕ) (texts : List (List ℕ × List ℕ)) (rest : Items) → references_inside (set_on line texts rest) ≡ references_inside rest
refs-set line [] rest = refl
refs-set line (text ∷ texts) rest = refs-set line texts rest

refs-inside : (line : ℕ) (inside : Option Items) → references_inside (inside_on line inside) ≡ option_map_or references_in inside []
refs-inside line None = refl
refs-inside line (Some system) = refl

refs-on : (line : ℕ) (kind name : Option (List ℕ)) (given : Given) (block : Items) (inside : Option Items) →
    references_inside (block_on line kind name given block (inside_on line inside)) ≡ option_map_or references_in inside []
refs-on line kind name given block inside =
    refs-set line ((titled (codes "BlockType") kind ++ titled (codes "Name") name) ++ settled given block) (inside_on line inside)
    ∙ refs-inside line inside

refs-with : (inside items : Items) →
    references_inside (with_inside (codes "System") inside items)
    ≡ option_map_or (λ (s : SectionTree). references_in inside) (first_section (codes "System") items) []
refs-with inside End = refl
refs-with inside (Param name value line rest) = refs-with inside rest
refs-with inside (Section name line items rest) = by_test (bytes_eq name (codes "System")) refl (refs-with inside rest)
  where
    found : Option SectionTree → List SectionTree
    found o = option_map_or (λ (s : SectionTree). references_in inside) o []

    by_test : (t : Bool) → bytes_eq name (codes "System") ≡ t →
        references_inside (with_inside (codes "System") inside rest) ≡ found (first_section (codes "System") rest) →
        references_inside (cond t (Section name line inside rest) (Section name line items (with_inside (codes "System") inside rest)))
        ≡ found (cond t (Some (record { name = name; line = line; items = items })) (first_section (codes "System") rest))
    by_test true e more = ap (λ t. elim t [
      | true ↦ references_in inside
      | false ↦ references_inside rest
    ]) e
    by_test false e more = ap (λ t. elim t [
      | true ↦ references_in items
      | false ↦ references_inside (with_inside (codes "System") inside rest)
    ]) e ∙ more

on-reference : (line : ℕ) (kind : Option (List ℕ)) (name : Option (List ℕ)) (given : Given) (block : Items) (inside : Option Items) →
    first_value (codes "BlockType") block ≡ kind →
    is_reference (block_on line kind name given block (inside_on line inside)) ≡ option_map_or (bytes_eq (codes "Reference")) kind false
on-reference line None name given block inside e =
    ap (λ o. option_map_or (bytes_eq (codes "Reference")) o false) (no-kind line name given block inside e)
on-reference line (Some kind) name given block inside e = refl

-- a block that is no reference, and has none inside it
own-none : (block : SectionTree) (u : Bool) → is_reference block.items ≡ false → writes_type SubSystem block.items ≡ u →
    (u ≡ true → references_inside block.items ≡ []) → references_at block ≡ []
own-none block true e f g = at_other block true e f ∙ g refl
own-none block false e f g = at_other block false e f

-- ---- All are named

abbrev AllNamed : List Source → Given → List SectionTree → Type 0
AllNamed sources given references = AllByRecursion (λ (r : SectionTree). is_some (named_by sources given r.items) ≡ true) references

named-front : (sources : List Source) (given : Given) (xs ys : List SectionTree) → AllNamed sources given (xs ++ ys) → AllNamed sources given xs
named-front sources given [] ys h = tt
named-front sources given (x ∷ xs) ys h = (h.0, named-front sources given xs ys h.1)

named-back : (sources : List Source) (given : Given) (xs ys : List SectionTree) → AllNamed sources given (xs ++ ys) → AllNamed sources given ys
named-back sources given [] ys h = h
named-back sources given (x ∷ xs) ys h = named-back sources given xs ys h.1

-- where no least line is found
all-named : (sources : List Source) (given : Given) (references : List SectionTree) → least_unnamed sources given references ≡ None →
    AllNamed sources given references
all-named sources given [] e = tt
all-named sources given (r ∷ rest) e =
    by_place (is_some (named_by sources given r.items)) refl (least_unnamed sources given rest) (all-named sources given rest) e
  where
    by_place : (t : Bool) → is_some (named_by sources given r.items) ≡ t → (o : Option ℕ) →
        (o ≡ None → AllNamed sources given rest) → lesser (cond t None (Some r.line)) o ≡ None →
        (is_some (named_by sources given r.items) ≡ true) × AllNamed sources given rest
    by_place true found o more e = (found, more e)
    by_place false found None more e = absurd (true≢false (ap is_some e))
    by_place false found (Some line) more e = absurd (true≢false (ap is_some e))

-- ---- A System written out

module _ (library : Library) (given : Given) (system : (line : ℕ) → ℕ → Items) (copy : Option ℕ)
    (empty : (line k : ℕ) → references_in (system line k) ≡ []) where
  abbrev pub named-all : List SectionTree → Type 0
  named-all references = AllNamed library.sources given references

  -- a reference
  reference-none : (name : List ℕ) (at line : ℕ) (items : Items) → is_some (named_by library.sources given items) ≡ true →
      references_at (record { name = name; line = at; items = reference_written library given system copy line items }) ≡ []
  reference-none name at line items named = by_place (named_by library.sources given items) refl named
    where
      copied : ℕ → Source → Items
      copied k source =
          block_on line (Some (block_type_name SubSystem)) (name_given given items) library.given source.1.items
          (inside_on line (Some (system line k)))

      own : Items → SectionTree
      own inside = record { name = name; line = at; items = inside }

      by_source : (k : ℕ) → k < length library.sources → (o : Option Source) → slice_get library.sources k ≡ o →
          references_at (own (option_map_or (copied k) o (moved copy items))) ≡ []
      by_source k h None found = absurd (get-some library.sources k h found)
      by_source k h (Some source) found =
          own-none (own (copied k source)) true refl refl
          (λ _. refs-on line (Some (block_type_name SubSystem)) (name_given given items) library.given source.1.items (Some (system line k))
          ∙ empty line k)

      by_place : (o : Option ℕ) → named_by library.sources given items ≡ o → is_some o ≡ true →
          references_at (own (option_map_or (λ k. option_map_or (copied k) (slice_get library.sources k) (moved copy items)) o
          (moved copy items)))
          ≡ []
      by_place None e named = absurd (true≢false (sym named))
      by_place (Some k) e named = by_source k (named-below library.sources given items k e) (slice_get library.sources k) refl

  -- a block of the model
  kept-none : (name : List ℕ) (at : ℕ) (items : Items) (inner : Option Items) (o : Option SectionTree) →
      first_section (codes "System") items ≡ o →
      inner ≡ option_map_or (λ (s : SectionTree). Some (system_written library given system copy s.items)) o None →
      is_reference items ≡ false → writes_type SubSystem items ≡ true → option_map_or references_in inner [] ≡ [] →
      references_at (record { name = name; line = at; items = kept items inner }) ≡ []
  kept-none name at items inner None found is e f none =
      ap (λ i. references_at (record { name = name; line = at; items = kept items i })) is
      ∙ own-none (record { name = name; line = at; items = items }) true e f (λ _. sym (references_none items (sym found)))
  kept-none name at items inner (Some s) found is e f none =
      let written = system_written library given system copy s.items in
      ap (λ i. references_at (record { name = name; line = at; items = kept items i })) is
      ∙ own-none (record { name = name; line = at; items = with_inside (codes "System") written items }) true
      (ap (λ o. option_map_or (bytes_eq (codes "Reference")) o false) (first-with (codes "BlockType") (codes "System") written items) ∙ e)
      (ap (λ o. option_map_or (bytes_eq (block_type_name SubSystem)) o false)
      (first-with (codes "BlockType") (codes "System") written items)
      ∙ f)
      (λ _. refs-with written items ∙ ap (λ o. option_map_or (λ (t : SectionTree). references_in written) o []) found
      ∙ sym (ap (λ i. option_map_or references_in i []) is) ∙ none)

  -- another block
  other-none : (name : List ℕ) (at : ℕ) (items : Items) (inner : Option Items) →
      inner ≡ option_map_or (λ (s : SectionTree). Some (system_written library given system copy s.items))
      (first_section (codes "System") items) None →
      is_reference items ≡ false → (u : Bool) → writes_type SubSystem items ≡ u →
      (u ≡ true → option_map_or references_in inner [] ≡ []) → (p : Option ℕ) →
      references_at (record { name = name; line = at; items = block_written library given system p items (cond u inner None) }) ≡ []
  other-none name at items inner from e true f none None =
      kept-none name at items inner (first_section (codes "System") items) refl from e f (none refl)
  other-none name at items inner from e false f none None =
      own-none (record { name = name; line = at; items = items }) false e f (λ t. absurd (true≢false (sym t)))
  other-none name at items inner from e u f none (Some line) =
      own-none (record {
        name = name;
        line = at;
        items = block_on line (first_value (codes "BlockType") items) (name_given given items) given items
            (inside_on line (cond u inner None));
      }) u
      (on-reference line (first_value (codes "BlockType") items) (name_given given items) given items (cond u inner None) refl ∙ e)
      (on-type line (first_value (codes "BlockType") items) (name_given given items) given items (cond u inner None) refl ∙ f)
      (λ t. refs-on line (first_value (codes "BlockType") items) (name_given given items) given items (cond u inner None)
      ∙ ap (λ b. option_map_or references_in (cond b inner None) []) t ∙ none t)

  block-none : (name : List ℕ) (line : ℕ) (items : Items) (t u : Bool) → is_reference items ≡ t → writes_type SubSystem items ≡ u →
      named-all (elim t [
        | true ↦ record { name = name; line = line; items = items } ∷ []
        | false ↦ elim u [
          | true ↦ references_inside items
          | false ↦ []
        ]
      ]) →
      (named-all (references_inside items) → option_map_or references_in (inner_written library given system copy items) [] ≡ []) →
      references_at (record {
        name = name;
        line = unwrap_or copy line;
        items = elim t [
          | true ↦ reference_written library given system copy (unwrap_or copy line) items
          | false ↦
              let inner : Option Items = elim u [
                | true ↦ inner_written library given system copy items
                | false ↦ None
              ] in
              block_written library given system copy items inner
        ];
      })
      ≡ []
  block-none name line items true u e f named inner = reference-none name (unwrap_or copy line) (unwrap_or copy line) items named.0
  block-none name line items false true e f named inner =
      other-none name (unwrap_or copy line) items (inner_written library given system copy items) (inner_first library given system copy items)
      e true f (λ _. inner named) copy
  block-none name line items false false e f named inner =
      other-none name (unwrap_or copy line) items (inner_written library given system copy items) (inner_first library given system copy items)
      e false f (λ t. absurd (true≢false (sym t))) copy

  mutual
    pub written-none : (items : Items) → named-all (references_in items) → references_in (system_written library given system copy items) ≡ []
    written-none End named = refl
    written-none (Param name value line rest) named = written-none rest named
    written-none (Section name line items rest) named =
        by_test (bytes_eq name (codes "Block")) refl (is_reference items) (writes_type SubSystem items) refl refl named (inner-none items)
        (written-none rest)
      where
        here : (t u : Bool) → List SectionTree
        here t u = elim t [
          | true ↦ record { name = name; line = line; items = items } ∷ []
          | false ↦ elim u [
            | true ↦ references_inside items
            | false ↦ []
          ]
        ]

        own : (t u : Bool) → Items
        own t u = elim t [
          | true ↦ reference_written library given system copy (unwrap_or copy line) items
          | false ↦
              let inner : Option Items = elim u [
                | true ↦ inner_written library given system copy items
                | false ↦ None
              ] in
              block_written library given system copy items inner
        ]

        by_test : (b : Bool) → bytes_eq name (codes "Block") ≡ b → (t u : Bool) → is_reference items ≡ t → writes_type SubSystem items ≡ u →
            named-all (elim b [
              | true ↦ here t u ++ references_in rest
              | false ↦ references_in rest
            ]) →
            (named-all (references_inside items) → option_map_or references_in (inner_written library given system copy items) [] ≡ []) →
            (named-all (references_in rest) → references_in (system_written library given system copy rest) ≡ []) →
            references_in (elim b [
              | true ↦ Section name (unwrap_or copy line) (own t u) (system_written library given system copy rest)
              | false ↦ Section name (unwrap_or copy line) (moved copy items) (system_written library given system copy rest)
            ]) ≡ []
        by_test true is t u e f all inner more =
            ap (λ b. elim b [
              | true ↦
                  references_at (record { name = name; line = unwrap_or copy line; items = own t u })
                  ++ references_in (system_written library given system copy rest)
              | false ↦ references_in (system_written library given system copy rest)
            ]) is
            ∙ ap (λ xs. xs ++ references_in (system_written library given system copy rest))
            (block-none name line items t u e f (named-front library.sources given (here t u) (references_in rest) all) inner)
            ∙ more (named-back library.sources given (here t u) (references_in rest) all)
        by_test false is t u e f all inner more =
            ap (λ b. elim b [
              | true ↦
                  references_at (record { name = name; line = unwrap_or copy line; items = moved copy items })
                  ++ references_in (system_written library given system copy rest)
              | false ↦ references_in (system_written library given system copy rest)
            ]) is
            ∙ more all

    inner-none : (items : Items) → named-all (references_inside items) →
        option_map_or references_in (inner_written library given system copy items) [] ≡ []
    inner-none End named = refl
    inner-none (Param name value line rest) named = inner-none rest named
    inner-none (Section name line items rest) named =
        by_test (bytes_eq name (codes "System")) named (written-none items) (inner-none rest)
      where
        by_test : (t : Bool) → named-all (elim t [
          | true ↦ references_in items
          | false ↦ references_inside rest
        ]) →
            (named-all (references_in items) → references_in (system_written library given system copy items) ≡ []) →
            (named-all (references_inside rest) → option_map_or references_in (inner_written library given system copy rest) [] ≡ []) →
            option_map_or references_in (elim t [
              | true ↦ Some (system_written library given system copy items)
              | false ↦ inner_written library given system copy rest
            ]) [] ≡ []
        by_test true all inner more = inner all
        by_test false all inner more = more all

-- ---- The sources

first-refs : (items : Items) → references_in (inside_first (codes "System") items) ≡ references_inside items
first-refs items = by_first (first_section (codes "System") items) ∙ sym (references_system items)
  where
    by_first : (o : Option SectionTree) →
        references_in (option_map_or (λ (s : SectionTree). s.items) o End)
        ≡ option_map_or (λ (s : SectionTree). references_in s.items) o []
    by_first None = refl
    by_first (Some s) = refl

-- the references of each source are named
SourcesNamed : Library → Type 0
SourcesNamed library =
    (k : ℕ) (source : Source) → slice_get library.sources k ≡ Some source →
    AllNamed library.sources library.given (references_inside source.1.items)

source-none : (library : Library) → SourcesNamed library → (depth line k : ℕ) → references_in (source_written library depth line k) ≡ []
unfolding SourcesNamed
source-none library named zero line k = refl
source-none library named (suc depth) line k = by_source (slice_get library.sources k) (named k) (source-none library named depth)
  where
    by_source : (o : Option Source) →
        ((source : Source) → o ≡ Some source → AllNamed library.sources library.given (references_inside source.1.items)) →
        ((line k : ℕ) → references_in (source_written library depth line k) ≡ []) →
        references_in (option_map_or (λ (source : Source).
        system_written library library.given (source_written library depth) (Some line) (inside_first (codes "System") source.1.items)) o End)
        ≡ []
    by_source None own less = refl
    by_source (Some source) own less =
        written-none library library.given (source_written library depth) (Some line) less (inside_first (codes "System") source.1.items)
        (subst (AllNamed library.sources library.given) (sym (first-refs source.1.items)) (own source refl))

-- a subsystem is no reference
subsystem-plain : (kind : Option (List ℕ)) → option_map_or (bytes_eq (block_type_name SubSystem)) kind false ≡ true →
    option_map_or (bytes_eq (codes "Reference")) kind false ≡ false
subsystem-plain None e = refl
subsystem-plain (Some kind) e = ap (bytes_eq (codes "Reference")) (sym ((bytes_eq-Decides (block_type_name SubSystem) kind).0 e))

module _ (S : List Source) (G : Given) where
  IsNamed : Source → Type 0
  IsNamed source = AllNamed S G (references_inside source.1.items)

  all-push : (xs : List Source) (x : Source) → AllByRecursion IsNamed xs → IsNamed x → AllByRecursion IsNamed (xs ++ x ∷ [])
  all-push [] x h k = (k, tt)
  all-push (y ∷ ys) x h k = (h.0, all-push ys x h.1 k)

  all-fold : (olds news : List Source) → AllByRecursion IsNamed olds → AllByRecursion IsNamed news →
      AllByRecursion IsNamed (fold with_source olds news)
  all-fold olds [] h k = h
  all-fold olds (x ∷ news) h k = all-fold (with_source olds x) news (by_test (is_some (beside x.0 olds))) k.1
    where
      by_test : (t : Bool) → AllByRecursion IsNamed (cond t olds (olds ++ x ∷ []))
      by_test true = h
      by_test false = all-push olds x h k.0

  source-named : (name : List ℕ) (given : Given) (block : SectionTree) (source : Source) → source_of name given block ≡ Some source →
      AllNamed S G (references_at block) → IsNamed source
  unfolding IsNamed
  source-named name given block source e named = by_type (writes_type SubSystem block.items) refl (name_given given block.items) e
    where
      text : List ℕ → Source
      text own = (name ++ 47 ∷ doubled own, block)

      by_type : (t : Bool) → writes_type SubSystem block.items ≡ t → (o : Option (List ℕ)) →
          cond t (option_map text o) None ≡ Some source → AllNamed S G (references_inside source.1.items)
      by_type true f None e = absurd (true≢false (sym (ap is_some e)))
      by_type true f (Some own) e =
          subst (λ (s : Source). AllNamed S G (references_inside s.1.items)) (ap (λ o. unwrap_or o source) e)
          (subst (AllNamed S G) (at_other block true (subsystem-plain (first_value (codes "BlockType") block.items) f) f) named)
      by_type false f o e = absurd (true≢false (sym (ap is_some e)))

  all-sources : (name : List ℕ) (given : Given) (blocks : List SectionTree) → AllNamed S G (flat_map references_at blocks) →
      AllByRecursion IsNamed (filter_map (source_of name given) blocks)
  all-sources name given [] h = tt
  all-sources name given (block ∷ blocks) h =
      by_source (source_of name given block) refl
      (all-sources name given blocks (named-back S G (references_at block) (flat_map references_at blocks) h))
    where
      by_source : (o : Option Source) → source_of name given block ≡ o →
          AllByRecursion IsNamed (filter_map (source_of name given) blocks) →
          AllByRecursion IsNamed (cons_option o (filter_map (source_of name given) blocks))
      by_source None e more = more
      by_source (Some source) e more =
          (source-named name given block source e (named-front S G (references_at block) (flat_map references_at blocks) h), more)

  all-at : (xs : List Source) (k : ℕ) (x : Source) → AllByRecursion IsNamed xs → slice_get xs k ≡ Some x → IsNamed x
  all-at [] k x h e = absurd (true≢false (sym (ap is_some e)))
  all-at (y ∷ ys) zero x h e = subst IsNamed (ap (λ o. unwrap_or o x) e) h.0
  all-at (y ∷ ys) (suc k) x h e = all-at ys k x h.1 e

  among-named : (name : List ℕ) (given : Given) (items : Items) → AllNamed S G (references_in items) → (k : ℕ) (source : Source) →
      slice_get (sources_among name given (sections_named (codes "Block") items)) k ≡ Some source →
      AllNamed S G (references_inside source.1.items)
  unfolding IsNamed
  among-named name given items named k source e =
      all-at (sources_among name given (sections_named (codes "Block") items)) k source
      (all-fold [] (filter_map (source_of name given) (sections_named (codes "Block") items)) tt
      (all-sources name given (sections_named (codes "Block") items) (subst (AllNamed S G) (references_blocks items) named))) e

-- a library is that of a section with a name
library-parts : (file : Items) (library : Library) → library_of file ≡ Some library →
    (name : List ℕ) × (items : Items) × (system : SectionTree) × (library_with name items system ≡ library)
library-parts file library e = by_section (first_section (codes "Library") file) e
  where
    by_system : (name : List ℕ) (items : Items) (o : Option SectionTree) → option_map (library_with name items) o ≡ Some library →
        (name : List ℕ) × (items : Items) × (system : SectionTree) × (library_with name items system ≡ library)
    by_system name items None e = absurd (true≢false (sym (ap is_some e)))
    by_system name items (Some system) e = (name, items, system, ap (λ o. unwrap_or o library) e)

    by_name : (section : SectionTree) (o : Option (List ℕ)) →
        option_and_then (λ name. option_map (library_with name section.items) (first_section (codes "System") section.items)) o
        ≡ Some library →
        (name : List ℕ) × (items : Items) × (system : SectionTree) × (library_with name items system ≡ library)
    by_name section None e = absurd (true≢false (sym (ap is_some e)))
    by_name section (Some name) e = by_system name section.items (first_section (codes "System") section.items) e

    by_section : (o : Option SectionTree) → option_and_then library_in o ≡ Some library →
        (name : List ℕ) × (items : Items) × (system : SectionTree) × (library_with name items system ≡ library)
    by_section None e = absurd (true≢false (sym (ap is_some e)))
    by_section (Some section) e = by_name section (first_value (codes "Name") section.items) e

sources-named : (file : Items) (library : Library) → library_of file ≡ Some library →
    AllNamed library.sources library.given (references_in library.system.items) → SourcesNamed library
unfolding SourcesNamed
sources-named file library e named k source found =
    let parts = library-parts file library e in
    let name = parts.0 in
    let items = parts.1 in
    let system = parts.2 in
    let same = parts.3 in
    among-named library.sources library.given name (given_by items) system.items
    (subst (λ (l : Library). AllNamed library.sources library.given (references_in l.system.items)) (sym same) named) k source
    (ap (λ (l : Library). slice_get l.sources k) same ∙ found)

-- ---- A model

model-none : (library : Library) → SourcesNamed library → (depth : ℕ) (model : Items) →
    AllNamed library.sources (given_by model) (references_inside model) → references_inside (model_written depth library model) ≡ []
model-none library sources depth model named = refs-with written model ∙ by_first (first_section (codes "System") model)
  where
    written : Items
    written = system_written library (given_by model) (source_written library depth) None (inside_first (codes "System") model)

    by_first : (o : Option SectionTree) → option_map_or (λ (s : SectionTree). references_in written) o [] ≡ []
    by_first None = refl
    by_first (Some s) =
        written-none library (given_by model) (source_written library depth) None (source-none library sources depth)
        (inside_first (codes "System") model) (subst (AllNamed library.sources (given_by model)) (sym (first-refs model)) named)

no-told : {A : Type 0} (told : ℕ → A) (found : Option ℕ) (rest : Option A) → option_or (option_map told found) rest ≡ None →
    (found ≡ None) × (rest ≡ None)
no-told told None rest e = (refl, e)
no-told told (Some line) rest e = absurd (true≢false (ap is_some e))

pub no_reference_is_left : NoReferenceIsLeft
no_reference_is_left file bytes written is =
    let library = is.library in
    let model = inside_first (codes "Model") file in
    let first = no-told (λ line. NoReference line false) (unnamed_in_model library model) _ is.accepted in
    let second = no-told (λ line. NoReference line true) (unnamed_in_library library) _ first.1 in
    let sources = sources-named is.file library is.is_library
    (all-named library.sources library.given (references_in library.system.items) second.0) in
    ap (λ items. references_inside (inside_first (codes "Model") items)) is.is_written
    ∙ ap references_inside (inside-with (codes "Model") (model_written most_inside library model) file)
    ∙ by_model library sources (all-named library.sources (given_by model) (references_inside model) first.0)
    (first_section (codes "Model") file)
  where
    by_model : (library : Library) → SourcesNamed library →
        AllNamed library.sources (given_by (inside_first (codes "Model") file)) (references_inside (inside_first (codes "Model") file)) →
        (o : Option SectionTree) →
        references_inside (option_map_or (λ (s : SectionTree).
        model_written most_inside library (inside_first (codes "Model") file)) o End)
        ≡ []
    by_model library sources named None = refl
    by_model library sources named (Some s) = model-none library sources most_inside (inside_first (codes "Model") file) named
