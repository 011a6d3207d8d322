-- A model that isn't refused: its outlines, blocks, rows and systems.
use Rattle.std.proofs.Common.{◌≡◌, refl, sym, ◌∙◌, ap, subst, ℕ, Bool, true, false, cond, true≢false, List, [], ◌∷◌, Option, None, Some, is_some, is_none}
use Rattle.std.specs.Prelude.{filter_map, option_map, slice_get, Result, Ok}
use Rattle.std.specs.List.{AllByRecursion, AllZip, cons_option}
use Rattle.std.specs.Result.{result_ok}
use Rattle.base_refusals.specs.Refusals.{PlainRefusal}
use Rattle.diagram_meaning.specs.RowTable.{RowTable}
use Rattle.diagram_meaning.specs.declared.table.Row.{Row}
use Rattle.mdl_tree.specs.Spelling.{Items}
use Rattle.mdl_tree.specs.Walks.{SectionTree}
use Rattle.mdl_params.specs.Defaults.{DefaultTexts}
use Rattle.mdl_blocks.specs.declared.fault.Fault.{Fault}
use Rattle.mdl_blocks.specs.Blocks.{BlockText}
use Rattle.base_refusals.specs.Order.{is_before, first_of}
use Rattle.mdl_wiring.specs.Refusals.{wiring_refusal}
use Rattle.mdl_systems.specs.Outlines.{Outline, outlines_of, is_subsystem}
use Rattle.mdl_systems.specs.Nesting.{OutlinesAreNumbered, OwnersAreBefore, StandsIn}
use Rattle.mdl_systems.specs.Owners.{of_owner}
use Rattle.mdl_systems.specs.Refusals.{read, model_refusal}
use Rattle.mdl_rows.specs.Models.{Block, Model, System, kind_of, system_in, block_read, model_with, inner_system, systems_of}
use Rattle.mdl_rows.specs.Wires.{members_of}
use Rattle.mdl_rows.specs.Refusals.{first_in, system_refusal, systems_refusal, row_refusal, rows_refusal, defaults_of, refusal_by, tree_refusal}
use Rattle.mdl_rows.specs.Tables.{IsRowOf}
use Rattle.mdl_table.specs.Tables.{TableOf}
use Rattle.mdl_table.proofs.lemmas.RowBlocks.{IsReadable, IsOutlineRow, outline-rows, HasModel, table-of, some-none, all-none, none-found}
use Rattle.mdl_table.proofs.PortLists.{given-at, zip-left}
use Rattle.mdl_table.proofs.PortReads.{IsReadAs, block-read}
use Rattle.mdl_table.proofs.PortGroups.{IsGroup, all-groups}

-- the block that is read of an outline
pub record IsOutlineBlock (defaults : DefaultTexts) (o : Outline) (b : Block) : Type 0 where
  pub number : b.number ≡ o.number
  pub owner : b.owner ≡ o.owner
  pub is : read defaults o ≡ Ok b.text

outline-blocks : (defaults : DefaultTexts) (os : List Outline) → AllByRecursion (IsReadable defaults) os →
    AllZip (IsOutlineBlock defaults) os (filter_map (block_read defaults) os)
outline-blocks defaults [] all = tt
outline-blocks defaults (o ∷ os) all =
    subst (λ b. AllZip (IsOutlineBlock defaults) (o ∷ os) (cons_option b (filter_map (block_read defaults) os))) (sym (ap seen all.0.1))
    (record { number = refl; owner = refl; is = all.0.1 }, outline-blocks defaults os all.1)
  where
    seen : Result BlockText Fault → Option Block
    seen r = option_map (λ text. record { number = o.number; owner = o.owner; text = text }) (result_ok r)

first-none : (a b : Option PlainRefusal) → first_of a b ≡ None → a ≡ None
first-none None b e = refl
first-none (Some a) None e = absurd (some-none a e)
first-none (Some a) (Some b) e = by (is_before b a) e
  where
    by : (t : Bool) → cond t (Some b) (Some a) ≡ None → Some a ≡ None
    by true e = absurd (some-none b e)
    by false e = e

-- a model that isn't refused, and its rows
pub record IsFine (defaults : DefaultTexts) (system : SectionTree) (rs : List Row) : Type 0 where
  pub rows : AllZip (IsOutlineRow defaults (model_with defaults system)) (outlines_of system) rs
  pub blocks : AllZip (IsOutlineBlock defaults) (outlines_of system) (model_with defaults system).blocks
  pub has : AllZip (IsRowOf (model_with defaults system)) (model_with defaults system).blocks rs
  pub groups : (z : Option ℕ) → IsGroup (of_owner z (outlines_of system))
  pub systems : AllByRecursion (λ s. system_refusal (model_with defaults system) s ≡ None) (systems_of (model_with defaults system))

pub fine : (file : Items) (table : RowTable) (own : HasModel file) → tree_refusal file ≡ None → TableOf file table →
    IsFine (defaults_of own.model) own.model.system table.rows
fine file table own none is =
    let defaults : DefaultTexts = defaults_of own.model in
    let system : SectionTree = own.model.system in
    let m : Model = model_with defaults system in
    let has = (table-of file table own is).rows in
    let e : refusal_by (Ok own.model) ≡ None = subst (λ r. refusal_by r ≡ None) own.is none in
    let both : AllByRecursion (λ o. o ≡ None) (model_refusal defaults system ∷ rows_refusal m ∷ []) =
    all-none (model_refusal defaults system ∷ rows_refusal m ∷ []) e in
    record {
      rows = outline-rows defaults m (outlines_of system) table.rows own.accepted.each has;
      blocks = outline-blocks defaults (outlines_of system) own.accepted.each;
      has = has;
      groups = all-groups system own.accepted.uncrowded;
      systems = none-found (system_refusal m) (systems_of m) (first-none (systems_refusal m) (first_in row_refusal m.blocks) both.1.0);
    }

-- ---- Systems

-- a system's blocks and some items aren't refused
abbrev pub IsLawful : Model → Option ℕ → Items → Type 0
IsLawful m z items = wiring_refusal (is_none z) (members_of m.blocks z) items ≡ None

-- the system inside a subsystem block
pub inner-lawful : (defaults : DefaultTexts) (section : SectionTree) (rs : List Row) → IsFine defaults section rs → OutlinesAreNumbered →
    (e : ℕ) (c : Outline) → slice_get (outlines_of section) e ≡ Some c → is_subsystem c ≡ true →
    (items : Items) × IsLawful (model_with defaults section) (Some e) items
inner-lawful defaults section rs is numbered e c at sub = by (system_in (kind_of b)) refl (sym read-as.of_system ∙ sub)
  where
    m : Model
    m = model_with defaults section

    found : (b : Block) × (slice_get m.blocks e ≡ Some b) × IsOutlineBlock defaults c b
    found = zip-left (IsOutlineBlock defaults) (outlines_of section) m.blocks e c is.blocks at

    b : Block
    b = found.0

    read-as : IsReadAs c.peers c.section.items b.text
    read-as = block-read defaults c.peers c.section b.text found.2.is

    by : (o : Option SectionTree) → system_in (kind_of b) ≡ o → is_some o ≡ true → (items : Items) × IsLawful m (Some e) items
    by None p some = absurd (true≢false (sym some))
    by (Some inside) p some =
        let own : System = record { row = Some b.number; items = inside.items } in
        let inner : inner_system b ≡ Some own = ap (option_map
        (λ (section : SectionTree). record { row = Some b.number; items = section.items })) p in (
          inside.items,
          subst (λ n. IsLawful m (Some n) inside.items) (found.2.number ∙ numbered section e c at)
              (given-at (λ s. system_refusal m s ≡ None) inner_system m.blocks e b own is.systems.1 found.1 inner),
        )

-- the system of a block
pub system-lawful : (defaults : DefaultTexts) (section : SectionTree) (rs : List Row) → IsFine defaults section rs →
    OutlinesAreNumbered → OwnersAreBefore →
    (z : Option ℕ) (k : ℕ) (o : Outline) → slice_get (outlines_of section) k ≡ Some o → o.owner ≡ z →
    (items : Items) × IsLawful (model_with defaults section) z items
system-lawful defaults section rs is numbered before None k o at own = (section.items, is.systems.0)
system-lawful defaults section rs is numbered before (Some e) k o at own =
    let stands = subst (λ w. StandsIn (outlines_of section) k o.depth w) own (before section k o at) in
    inner-lawful defaults section rs is numbered e stands.1.0 stands.1.1 stands.1.2
