-- The nested systems of a tree are those of its rows, and their numbers fit into 32 bits.
use Rattle.std.proofs.Common.{◌≡◌, refl, sym, ◌∙◌, ap, ap₂, subst, ℕ, zero, suc, ◌+◌, ◌<◌, ◌≤◌, ◌^◌, Bool, true, false, cond, true≢false, List, [], ◌∷◌, ◌++◌, length, map, slice_get, Option, None, Some, arith, codes}
use Rattle.std.specs.Prelude.{bytes_eq, filter, flat_map, option_map, option_to_list, ok_or, IfOk, Result, Ok, Err}
use Rattle.std.specs.List.{AllByRecursion, AllZip, range_with_len}
use Rattle.std.specs.Option.{option_map_or}
use Rattle.std.proofs.lemmas.List.Elements.{All-from_recursion}
use Rattle.std.proofs.lemmas.Slice.Eq.{bytes_eq-Decides}
use Rattle.base_core.specs.declared.Place.{Place}
use Rattle.base_core.specs.declared.ParamName.TheVariants.{Name}
use Rattle.base_refusals.specs.declared.Many.TheVariants.{Blocks}
use Rattle.base_core.specs.Numbers.{reported_number}
use Rattle.base_refusals.specs.Refusals.{TooMany}
use Rattle.diagram_meaning.specs.declared.table.Row.{Row}
use Rattle.diagram_meaning.specs.declared.subsystem.Subsystem.{Subsystem}
use Rattle.diagram_meaning.specs.declared.subsystem.Subsystem.TheViews.{out-Subsystem}
use Rattle.diagram_meaning.specs.declared.subsystem.Subsystem.TheFolds.{fold_out-Subsystem}
use Rattle.diagram_meaning.specs.Nested as nested
use Rattle.diagram_meaning.specs.Nested.{heads, HasPlace, Agrees, AllAgree, AreSystemsOf}
use Rattle.diagram_blocks.specs.Kinds as kinds
use Rattle.diagram_meaning.specs.Rows as rows
use Rattle.diagram_meaning.specs.Rows.{row_at, rows_of, subsystems_of, same_system, system_control}
use Rattle.mdl_tree.specs.Walks.{SectionTree, first_section, first_value}
use Rattle.mdl_params.specs.declared.BlockType.TheVariants.{SubSystem}
use Rattle.mdl_params.specs.BlockTypes.{block_type_name, block_type_of}
use Rattle.mdl_params.specs.Defaults.{DefaultTexts}
use Rattle.mdl_blocks.specs.declared.fault.Fault.{Fault}
use Rattle.mdl_blocks.specs.declared.fault.Fault.TheVariants.{Unsupported}
use Rattle.mdl_blocks.specs.declared.peers.Peers.{Peers}
use Rattle.mdl_blocks.specs.Peers.{writes_type}
use Rattle.base_core.specs.Results.{◌>>=◌}
use Rattle.mdl_blocks.specs.Blocks.{BlockText, texts_by, body_of, unless_hollow, block_typed, block_of}
use Rattle.mdl_systems.specs.Nesting.{OutlinesAreNumbered}
use Rattle.mdl_systems.specs.Outlines.{Outline, SystemText, outlines_of, is_subsystem, inner_system, systems_inside}
use Rattle.mdl_systems.specs.Owners.{of_owner, owned_by, OwnByOwner, AllOwnByOwner, OwnIsByOwner}
use Rattle.mdl_systems.specs.Subsystems.{text_of, texts_of, systems_owned, ChildrenByOwner, AllChildrenByOwner, ChildrenAreBySubsystems}
use Rattle.mdl_systems.specs.declared.system.SystemText as held
use Rattle.mdl_systems.specs.Systems as text
use Rattle.mdl_systems.specs.Systems.{SystemTree, SystemTrees, system, no_more, next, tree_of_model}
use Rattle.mdl_systems.specs.Refusals.{too_many_blocks, model_refusal}
use Rattle.mdl_rows.specs.Models.{Model, model_with}
use Rattle.mdl_rows.specs.Tables.{AreRowsOf}
use Rattle.mdl_table.specs.Nesting.{AreShort, IsShort, SystemIsShort, AllAreShort, nested_by, all_nested}
use Rattle.mdl_table.proofs.lemmas.RowBlocks.{IsReadable, accepted, IsOutlineRow, outline-rows, IsRowAt, row-there, same-kind, some-none, zip-length, get-below}
use Rattle.mdl_table.proofs.SaidBodies.{Gives, given}

-- ---- What is read of a block

behind : {A B E : Type 0} (P : B → Type 0) (r : Result A E) (go : A → Result B E) → ((a : A) → Gives P (go a)) → Gives P (r >>= go)
behind P (Ok a) go h = h a
behind P (Err fault) go h = tt

-- its line is that of its section
read-line : (defaults : DefaultTexts) (peers : Peers) (section : SectionTree) (b : BlockText) → block_of defaults peers section ≡ Ok b →
    b.line ≡ section.line
read-line defaults peers section b e =
    given HasLine (block_of defaults peers section) b
    (behind HasLine (ok_or (first_value (codes "BlockType") section.items) Unsupported) _ (λ text.
    behind HasLine (ok_or (block_type_of text) Unsupported) _ (λ known.
    behind HasLine (unless_hollow (first_section (codes "System") section.items) known) _ (λ type.
    behind HasLine (texts_by defaults section.items text Name) _ (λ name.
    behind HasLine
    (body_of peers (first_section (codes "System") section.items) (texts_by defaults section.items text) type) _
    (λ body. refl)))))) e
  where
    HasLine : BlockText → Type 0
    HasLine b = b.line ≡ section.line

-- a subsystem without a System isn't read
hollow : (defaults : DefaultTexts) (peers : Peers) (section : SectionTree) →
    first_value (codes "BlockType") section.items ≡ Some (block_type_name SubSystem) → first_section (codes "System") section.items ≡ None →
    block_of defaults peers section ≡ Err Unsupported
hollow defaults peers section named none =
    ap (λ text. ok_or text Unsupported >>= λ text. block_typed defaults peers section text) named ∙ ap typed none
  where
    typed : Option SectionTree → Result BlockText Fault
    typed inside = unless_hollow inside SubSystem >>= λ type. texts_by defaults section.items (block_type_name SubSystem) Name >>= λ name.
        body_of peers (first_section (codes "System") section.items)
        (texts_by defaults section.items (block_type_name SubSystem)) type >>= λ body.
        Ok (record { name = name; line = section.line; body = body })

-- the type that a subsystem writes
type-written : (value : Option (List ℕ)) → option_map_or (bytes_eq (block_type_name SubSystem)) value false ≡ true →
    value ≡ Some (block_type_name SubSystem)
type-written None e = absurd (true≢false (sym e))
type-written (Some text) e = ap Some (sym ((bytes_eq-Decides (block_type_name SubSystem) text).0 e))

-- a subsystem that is read has a System
system-there : (defaults : DefaultTexts) (peers : Peers) (section : SectionTree) (b : BlockText) → block_of defaults peers section ≡ Ok b →
    writes_type SubSystem section.items ≡ true →
    (inside : SectionTree) × (first_section (codes "System") section.items ≡ Some inside)
system-there defaults peers section b e is = by (first_section (codes "System") section.items) refl
  where
    err-ok : (fault : Fault) (b : BlockText) → Err fault ≡ Ok b → ⊥
    err-ok fault b e = cc e

    by : (o : Option SectionTree) → first_section (codes "System") section.items ≡ o →
        (inside : SectionTree) × (first_section (codes "System") section.items ≡ Some inside)
    by (Some inside) p = (inside, p)
    by None p =
        absurd (err-ok Unsupported b
        (sym (hollow defaults peers section (type-written (first_value (codes "BlockType") section.items) is) p) ∙ e))

-- ---- Lists

filter-map : {A B : Type 0} (f : A → B) (p : B → Bool) (q : A → Bool) (xs : List A) → AllByRecursion (λ x. p (f x) ≡ q x) xs →
    filter p (map f xs) ≡ map f (filter q xs)
filter-map f p q [] all = refl
filter-map f p q (x ∷ xs) all =
    ap (λ t. cond t (f x ∷ filter p (map f xs)) (filter p (map f xs))) all.0 ∙ by (q x) (filter-map f p q xs all.1)
  where
    by : (t : Bool) → filter p (map f xs) ≡ map f (filter q xs) →
        cond t (f x ∷ filter p (map f xs)) (filter p (map f xs)) ≡ map f (cond t (x ∷ filter q xs) (filter q xs))
    by true e = ap (λ ys. f x ∷ ys) e
    by false e = e

all-filter : {A : Type 0} (P : A → Type 0) (q : A → Bool) (xs : List A) → AllByRecursion P xs → AllByRecursion P (filter q xs)
all-filter P q [] all = tt
all-filter P q (x ∷ xs) all = by (q x) (all-filter P q xs all.1)
  where
    by : (t : Bool) → AllByRecursion P (filter q xs) → AllByRecursion P (cond t (x ∷ filter q xs) (filter q xs))
    by true more = (all.0, more)
    by false more = more

all-mapped : {A B : Type 0} (P : B → Type 0) (f : A → B) (xs : List A) → AllByRecursion (λ x. P (f x)) xs → AllByRecursion P (map f xs)
all-mapped P f [] all = tt
all-mapped P f (x ∷ xs) all = (all.0, all-mapped P f xs all.1)

all-by : {A : Type 0} (P Q : A → Type 0) (xs : List A) → ((x : A) → P x → Q x) → AllByRecursion P xs → AllByRecursion Q xs
all-by P Q [] h all = tt
all-by P Q (x ∷ xs) h all = (h x all.0, all-by P Q xs h all.1)

-- what holds at each place holds of each
pub all-places : {A : Type 0} (P : A → Type 0) (xs : List A) → ((k : ℕ) (x : A) → slice_get xs k ≡ Some x → P x) → AllByRecursion P xs
all-places P [] h = tt
all-places P (x ∷ xs) h = (h zero x refl, all-places P xs (λ k y e. h (suc k) y e))

-- numbers that are places, in order
places : (n : ℕ) (os : List Outline) → ((k : ℕ) (o : Outline) → slice_get os k ≡ Some o → o.number ≡ n + k) →
    map (λ (o : Outline). o.number) os ≡ range_with_len n (length os)
places n [] h = refl
places n (o ∷ os) h =
    ap₂ ◌∷◌ (h zero o refl ∙ here) (places (n + 1) os (λ k b e. h (suc k) b e ∙ later k))
  where
    here : n + 0 ≡ n
    here = omega arith

    later : (k : ℕ) → n + suc k ≡ (n + 1) + k
    later k = omega arith

-- ---- Systems inside blocks

inside-there : (b : Outline) (s : SectionTree) → is_subsystem b ≡ true → first_section (codes "System") b.section.items ≡ Some s →
    systems_inside b ≡ inner_system b s ∷ []
inside-there b s is e =
    ap (λ t. cond t (map (inner_system b) (option_to_list (first_section (codes "System") b.section.items))) []) is
    ∙ ap (λ o. map (inner_system b) (option_to_list o)) e

inside-none : (b : Outline) → is_subsystem b ≡ false → systems_inside b ≡ []
inside-none b is = ap (λ t. cond t (map (inner_system b) (option_to_list (first_section (codes "System") b.section.items))) []) is

-- a block that is read has a System where it is a subsystem
abbrev HasInside : Outline → Type 0
HasInside b = is_subsystem b ≡ true → (s : SectionTree) × (first_section (codes "System") b.section.items ≡ Some s)

-- the systems inside these blocks have the rows of those that are subsystems
inside-rows : (bs : List Outline) → AllByRecursion HasInside bs →
    map (λ (s : SystemText). s.row) (flat_map systems_inside bs) ≡ map Some (map (λ (b : Outline). b.number) (filter is_subsystem bs))
inside-rows [] all = refl
inside-rows (b ∷ bs) all = by (is_subsystem b) refl (inside-rows bs all.1)
  where
    more : List SystemText
    more = flat_map systems_inside bs

    by : (t : Bool) → is_subsystem b ≡ t →
        map (λ (s : SystemText). s.row) more ≡ map Some (map (λ (b : Outline). b.number) (filter is_subsystem bs)) →
        map (λ (s : SystemText). s.row) (flat_map systems_inside (b ∷ bs))
        ≡ map Some (map (λ (b : Outline). b.number) (cond t (b ∷ filter is_subsystem bs) (filter is_subsystem bs)))
    by true p e = let s = all.0 p in
        ap (λ xs. map (λ (s : SystemText). s.row) (xs ++ more)) (inside-there b s.0 p s.1) ∙ ap (λ xs. Some b.number ∷ xs) e
    by false p e = ap (λ xs. map (λ (s : SystemText). s.row) (xs ++ more)) (inside-none b p) ∙ e

-- what holds of the system inside each of these blocks
all-inside : (P : SystemText → Type 0) (bs : List Outline) → AllByRecursion (λ b. (s : SectionTree) → P (inner_system b s)) bs →
    AllByRecursion HasInside bs → AllByRecursion P (flat_map systems_inside bs)
all-inside P [] all has = tt
all-inside P (b ∷ bs) all has = by (is_subsystem b) refl (all-inside P bs all.1 has.1)
  where
    more : List SystemText
    more = flat_map systems_inside bs

    by : (t : Bool) → is_subsystem b ≡ t → AllByRecursion P more → AllByRecursion P (flat_map systems_inside (b ∷ bs))
    by true p rest = let s = has.0 p in subst (λ xs. AllByRecursion P (xs ++ more)) (sym (inside-there b s.0 p s.1)) (all.0 s.0, rest)
    by false p rest = subst (λ xs. AllByRecursion P (xs ++ more)) (sym (inside-none b p)) rest

-- ---- Systems of rows

-- the line of a system's row
abbrev HasRowLine : List Row → Option ℕ → ℕ → Type 0
HasRowLine rs None line = Unit {0}
HasRowLine rs (Some e) line = line ≡ (row_at rs e).place.line

-- the row of a block says its owner, its line, and whether it is a subsystem
pub record IsOwn (rs : List Row) (b : Outline) : Type 0 where
  pub owner : (row_at rs b.number).owner ≡ b.owner
  pub kind : kinds.is_subsystem (row_at rs b.number).kind ≡ is_subsystem b
  pub line : b.section.line ≡ (row_at rs b.number).place.line
  pub inside : HasInside b

place-by : (rs : List Row) (row : Option ℕ) (line : ℕ) → HasRowLine rs row line → HasPlace rs row line (system_control rs row)
place-by rs None line h = refl
place-by rs (Some e) line h = (h, refl)

nested-row : (rs : List Row) (t : SystemTree) → nested.row_of (nested_by rs t) ≡ (text_of t).row
nested-row rs (system row line section own children) = refl

nested-heads : (rs : List Row) (ts : SystemTrees) → heads (all_nested rs ts) ≡ map (λ (s : SystemText). s.row) (texts_of ts)
nested-heads rs no_more = refl
nested-heads rs (next t ts) = ap₂ ◌∷◌ (nested-row rs t) (nested-heads rs ts)

module _ (rs : List Row) (os : List Outline) (numbers : map (λ (b : Outline). b.number) os
    ≡ range_with_len 0 (length rs)) (all : AllByRecursion (IsOwn rs) os) where
  own-rows : (o : Option ℕ) → rows_of rs o ≡ owned_by o os
  own-rows o =
      ap (filter (λ b. same_system (row_at rs b).owner o)) (sym numbers)
      ∙ filter-map (λ (b : Outline). b.number) (λ b. same_system (row_at rs b).owner o) (λ (b : Outline). same_system b.owner o) os
      (all-by (IsOwn rs) (λ (b : Outline). same_system (row_at rs b.number).owner o ≡ same_system b.owner o) os
      (λ b is. ap (λ owner. same_system owner o) is.owner) all)

  owned : (o : Option ℕ) → AllByRecursion (IsOwn rs) (of_owner o os)
  owned o = all-filter (IsOwn rs) (λ (b : Outline). same_system b.owner o) os all

  own-subsystems : (o : Option ℕ) → subsystems_of rs o ≡ map (λ (b : Outline). b.number) (filter is_subsystem (of_owner o os))
  own-subsystems o =
      ap (filter (λ b. kinds.is_subsystem (row_at rs b).kind)) (own-rows o)
      ∙ filter-map (λ (b : Outline). b.number) (λ b. kinds.is_subsystem (row_at rs b).kind) is_subsystem (of_owner o os)
      (all-by (IsOwn rs) (λ (b : Outline). kinds.is_subsystem (row_at rs b.number).kind ≡ is_subsystem b) (of_owner o os)
      (λ b is. is.kind) (owned o))

  have-inside : (o : Option ℕ) → AllByRecursion HasInside (of_owner o os)
  have-inside o = all-by (IsOwn rs) HasInside (of_owner o os) (λ b is. is.inside) (owned o)

  own-heads : (o : Option ℕ) (ts : SystemTrees) → texts_of ts ≡ systems_owned o os →
      heads (all_nested rs ts) ≡ map Some (subsystems_of rs o)
  own-heads o ts e =
      nested-heads rs ts ∙ ap (map (λ (s : SystemText). s.row)) e ∙ inside-rows (of_owner o os) (have-inside o)
      ∙ ap (map Some) (sym (own-subsystems o))

  own-lines : (o : Option ℕ) → AllByRecursion (λ (s : SystemText). HasRowLine rs s.row s.line) (systems_owned o os)
  own-lines o =
      all-inside (λ (s : SystemText). HasRowLine rs s.row s.line) (of_owner o os)
      (all-by (IsOwn rs) (λ (b : Outline). (s : SectionTree) → b.section.line ≡ (row_at rs b.number).place.line)
      (of_owner o os) (λ b is s. is.line) (owned o))
      (have-inside o)

  mutual
    pub agrees : (t : SystemTree) → OwnByOwner os t → ChildrenByOwner os t →
        HasRowLine rs (text_of t).row (text_of t).line → Agrees rs (nested_by rs t)
    agrees (system row line section own children) by_owner kids place = (
      place-by rs row line place,
      by_owner.0 ∙ sym (own-rows row),
      own-heads row children kids.0,
      all-agree children by_owner.1 kids.1
          (subst (AllByRecursion (λ (s : SystemText). HasRowLine rs s.row s.line)) (sym kids.0) (own-lines row)),
    )

    all-agree : (ts : SystemTrees) → AllOwnByOwner os ts → AllChildrenByOwner os ts →
        AllByRecursion (λ (s : SystemText). HasRowLine rs s.row s.line) (texts_of ts) → AllAgree rs (all_nested rs ts)
    all-agree no_more by_owner kids places = tt
    all-agree (next t ts) by_owner kids places = (agrees t by_owner.0 kids.0 places.0, all-agree ts by_owner.1 kids.1 places.1)

-- ---- Numbers that fit into 32 bits

abbrev Fits : Outline → Type 0
Fits b = b.number < 2 ^ 32

module _ (os : List Outline) (fit : AllByRecursion Fits os) (has : AllByRecursion HasInside os) where
  own-short : (o : Option ℕ) → AreShort (owned_by o os)
  own-short o =
      All-from_recursion (λ n. n < 2 ^ 32) (owned_by o os)
      (all-mapped (λ n. n < 2 ^ 32) (λ (b : Outline). b.number) (of_owner o os)
      (all-filter Fits (λ (b : Outline). same_system b.owner o) os fit))

  heads-short : (o : Option ℕ) → AllByRecursion (λ (s : SystemText). IsShort s.row) (systems_owned o os)
  heads-short o =
      all-inside (λ (s : SystemText). IsShort s.row) (of_owner o os)
      (all-by Fits (λ (b : Outline). (s : SectionTree) → b.number < 2 ^ 32) (of_owner o os) (λ b h s. h)
      (all-filter Fits (λ (b : Outline). same_system b.owner o) os fit))
      (all-filter HasInside (λ (b : Outline). same_system b.owner o) os has)

  mutual
    pub short : (t : SystemTree) → OwnByOwner os t → ChildrenByOwner os t → IsShort (text_of t).row → SystemIsShort t
    short (system row line section own children) by_owner kids is = (
      is,
      subst AreShort (sym by_owner.0) (own-short row),
      all-short children by_owner.1 kids.1 (subst (AllByRecursion (λ (s : SystemText). IsShort s.row)) (sym kids.0) (heads-short row)),
    )

    all-short : (ts : SystemTrees) → AllOwnByOwner os ts → AllChildrenByOwner os ts →
        AllByRecursion (λ (s : SystemText). IsShort s.row) (texts_of ts) → AllAreShort ts
    all-short no_more by_owner kids are = tt
    all-short (next t ts) by_owner kids are = (short t by_owner.0 kids.0 are.0, all-short ts by_owner.1 kids.1 are.1)

-- ---- Of a model

-- the row of a block is at its number
own-row : (defaults : DefaultTexts) (m : Model) (os : List Outline) (rs : List Row) → AllZip (IsOutlineRow defaults m) os rs →
    ((k : ℕ) (b : Outline) → slice_get os k ≡ Some b → b.number ≡ k) →
    (k : ℕ) (b : Outline) → slice_get os k ≡ Some b → IsOwn rs b
own-row defaults m os rs zip numbered k b at =
    let found : IsRowAt defaults m os rs k =
    row-there defaults m os rs k zip (subst (λ n. k < n) (sym (zip-length (IsOutlineRow defaults m) os rs zip)) (get-below os k b at)) in
    let same : found.outline ≡ b = some-same (sym found.at ∙ at) in
    let is : IsOutlineRow defaults m b (row_at rs b.number) =
    subst (λ n. IsOutlineRow defaults m b (row_at rs n)) (sym (numbered k b at))
    (subst (λ o. IsOutlineRow defaults m o (row_at rs k)) same found.row) in
    record {
      owner = is.has.owner;
      kind = same-kind defaults m b (row_at rs b.number) is;
      line = sym (ap (λ (p : Place). p.line) is.has.place ∙ read-line defaults b.peers b.section is.text is.is);
      inside = system-there defaults b.peers b.section is.text is.is;
    }
  where
    some-same : {x y : Outline} → Some x ≡ Some y → x ≡ y
    some-same e = cc e

-- the nested systems of a model are those of its rows
pub are-systems : OutlinesAreNumbered → OwnIsByOwner → ChildrenAreBySubsystems →
    (defaults : DefaultTexts) (m : Model) (section : SectionTree) (rs : List Row) →
    AllZip (IsOutlineRow defaults m) (outlines_of section) rs →
    AreSystemsOf rs (nested_by rs (tree_of_model section))
are-systems numbered by_owner kids defaults m section rs zip =
    let os : List Outline = outlines_of section in
    record {
      is_root = refl;
      agrees =
          agrees rs os (places 0 os (λ k b at. numbered section k b at ∙ from_start k)
          ∙ ap (range_with_len 0) (sym (zip-length (IsOutlineRow defaults m) os rs zip)))
          (all-places (IsOwn rs) os (own-row defaults m os rs zip (numbered section)))
          (tree_of_model section) (by_owner section) (kids section) tt;
    }
  where
    from_start : (k : ℕ) → k ≡ 0 + k
    from_start k = omega arith

past-none : {A : Type 0} (xs : List A) (k : ℕ) → slice_get xs k ≡ None → length xs ≤ k
past-none [] k e = omega arith
past-none (x ∷ xs) zero e = absurd (some-none x e)
past-none (x ∷ xs) (suc k) e = let h : length xs ≤ k = past-none xs k e in omega (arith, h)

-- a model that isn't refused has at most 20,000 blocks
pub at-most : (os : List Outline) → too_many_blocks os ≡ None → length os ≤ 20000
at-most os e = past-none os 20_000 (by (slice_get os 20_000) e)
  where
    by : (o : Option Outline) → option_map (λ (b : Outline). TooMany b.section.line Blocks (reported_number (length os))) o ≡ None →
        o ≡ None
    by None e = refl
    by (Some b) e = absurd (some-none _ e)

-- the numbers of its systems fit into 32 bits
pub are-short : OutlinesAreNumbered → OwnIsByOwner → ChildrenAreBySubsystems →
    (defaults : DefaultTexts) (section : SectionTree) → model_refusal defaults section ≡ None →
    SystemIsShort (tree_of_model section)
are-short numbered by_owner kids defaults section e =
    let os : List Outline = outlines_of section in
    let is = accepted defaults section e in
    short os (all-places Fits os (λ k b at.
    let below = get-below os k b at in
    let few = at-most os is.few in
    let same = numbered section k b at in
    omega (arith, below, few, same)))
    (all-by (IsReadable defaults) HasInside os (λ b read. system-there defaults b.peers b.section read.0 read.1) is.each)
    (tree_of_model section) (by_owner section) (kids section) tt

-- the nested systems of its text are those of its rows
pub are-nested : OutlinesAreNumbered → OwnIsByOwner → ChildrenAreBySubsystems →
    (defaults : DefaultTexts) (section : SectionTree) (rs : List Row) → model_refusal defaults section ≡ None →
    AreRowsOf (model_with defaults section) rs → AreSystemsOf rs (nested_by rs (tree_of_model section))
are-nested numbered by_owner kids defaults section rs e are =
    let m = model_with defaults section in
    let is = accepted defaults section e in
    are-systems numbered by_owner kids defaults m section rs (outline-rows defaults m (outlines_of section) rs is.each are)

-- ---- The root

abbrev line-of : nested.System → ℕ
line-of (nested.system row line control own children) = line

-- the line of a system in memory
pub root-line : (s : Subsystem) (rs : List Row) (section : SectionTree) → nested.system_of s ≡ nested_by rs (tree_of_model section) →
    (out-Subsystem s).line ≡ section.line
root-line s rs section e = sym (ap line-of (fold_out-Subsystem nested.System nested.system_from s)) ∙ ap line-of e

-- the system that is made of the root's text, if one is, is that of the rows
pub systems-made : {E : Type 0} (rs : List Row) (s : held.SystemText) (section : SectionTree) (made : Result Subsystem E) →
    text.system_of s ≡ tree_of_model section → AreSystemsOf rs (nested_by rs (tree_of_model section)) →
    IfOk made (λ x. nested.system_of x ≡ nested_by rs (text.system_of s)) → IfOk made (λ x. AreSystemsOf rs (nested.system_of x))
systems-made rs s section (Ok x) is are e = subst (AreSystemsOf rs) (sym (e ∙ ap (nested_by rs) is)) are
systems-made rs s section (Err fault) is are e = e
