-- The rows of a tree that isn't refused are nested in preorder.
use Rattle.std.proofs.Common.{◌≡◌, refl, sym, ◌∙◌, ap, ap₂, subst, ℕ, zero, suc, ◌<◌, ◌≤◌, nat_lt, nat_le, Bool, true, false, ◌&&◌, cond, true≢false, List, [], ◌∷◌, length, slice_get, Option, None, Some, Contains, arith, ltb-true, ltb-false, leb-false}
use Rattle.std.specs.Prelude.{option_and_then, option_map}
use Rattle.std.specs.List.{AllZip}
use Rattle.std.proofs.lemmas.List.{get_or_past}
use Rattle.base_core.specs.declared.Place.{Place}
use Rattle.base_refusals.specs.declared.Many.TheVariants.{Blocks}
use Rattle.base_core.specs.Numbers.{reported_number}
use Rattle.base_refusals.specs.Refusals.{PlainRefusal, TooDeep, TooMany}
use Rattle.diagram_meaning.specs.declared.table.Row.{Row}
use Rattle.diagram_blocks.specs.Kinds as kinds
use Rattle.diagram_meaning.specs.Rows as rows
use Rattle.diagram_meaning.specs.Rows.{no_row, row_at, around}
use Rattle.diagram_meaning.specs.WellFormed.{IsOwner, FollowsIn, IsNested}
use Rattle.mdl_tree.specs.Walks.{SectionTree}
use Rattle.mdl_params.specs.Defaults.{DefaultTexts}
use Rattle.mdl_systems.specs.Outlines.{Outline, outlines_of, is_subsystem}
use Rattle.mdl_systems.specs.Refusals.{deep, too_many_blocks}
use Rattle.mdl_systems.specs.Nesting.{OutlinesAreNumbered, StandsIn, OwnersAreBefore, owner_at, outward, owners_around, FollowsBlock, OutlinesAreInPreorder, DepthsAreOwnersAround}
use Rattle.mdl_rows.specs.Models.{Model, model_with}
use Rattle.mdl_rows.specs.Refusals.{defaults_of}
use Rattle.mdl_table.specs.Laws.{TreeIsNested}
use Rattle.mdl_table.proofs.lemmas.RowBlocks.{some-none, IsAccepted, IsOutlineRow, outline-rows, zip-length, get-below, all-at, IsRowAt, row-there, same-kind, has-model, table-of}

-- ---- Past the end

get-past : {A : Type 0} (xs : List A) (k : ℕ) → length xs ≤ k → slice_get xs k ≡ None
get-past [] k h = refl
get-past (x ∷ xs) zero h = absurd (omega (arith, h))
get-past (x ∷ xs) (suc k) h = get-past xs k (omega (arith, h))

past-none : {A : Type 0} (xs : List A) (k : ℕ) → slice_get xs k ≡ None → length xs ≤ k
past-none [] k e = omega arith
past-none (x ∷ xs) zero e = absurd (some-none x e)
past-none (x ∷ xs) (suc k) e = let h : length xs ≤ k = past-none xs k e in omega (arith, h)

-- a model that isn't refused has at most 20,000 blocks
few-blocks : (os : List Outline) → too_many_blocks os ≡ None → length os ≤ 20000
few-blocks os e = past-none os 20_000 (by (slice_get os 20_000) e)
  where
    by : (o : Option Outline) → option_map (λ (b : Outline). TooMany b.section.line Blocks (reported_number (length os))) o ≡ None →
        o ≡ None
    by None e = refl
    by (Some b) e = absurd (some-none _ e)

-- a subsystem of it is inside fewer than 32 others
shallow : (o : Outline) → deep o ≡ None → is_subsystem o ≡ true → o.depth < 32
shallow o e is = by (nat_le 32 o.depth) refl (sym (ap (λ t. fault (t && nat_le 32 o.depth)) is) ∙ e)
  where
    fault : Bool → Option PlainRefusal
    fault t = cond t (Some (TooDeep o.section.line)) None

    by : (t : Bool) → nat_le 32 o.depth ≡ t → cond t (Some (TooDeep o.section.line)) None ≡ None → o.depth < 32
    by true p e = absurd (some-none _ e)
    by false p e = leb-false 32 o.depth p

-- ---- What is known of a model and its rows

pub record AreNested (defaults : DefaultTexts) (m : Model) (section : SectionTree) (rs : List Row) : Type 0 where
  pub numbered : OutlinesAreNumbered
  pub owned : OwnersAreBefore
  pub in_order : OutlinesAreInPreorder
  pub depths : DepthsAreOwnersAround
  pub accepted : IsAccepted defaults section
  pub of_blocks : AllZip (IsOutlineRow defaults m) (outlines_of section) rs

module _ (defaults : DefaultTexts) (m : Model) (section : SectionTree) (rs : List Row) (are : AreNested defaults m section rs) where
  abbrev os : List Outline
  os = outlines_of section

  as_many : length rs ≡ length os
  as_many = zip-length (IsOutlineRow defaults m) os rs are.of_blocks

  at : (k : ℕ) → k < length rs → IsRowAt defaults m os rs k
  at k h = row-there defaults m os rs k are.of_blocks h

  -- the row at the number of a block is its row
  own-row : (k : ℕ) (o : Outline) → slice_get os k ≡ Some o → IsOutlineRow defaults m o (row_at rs k)
  own-row k o e =
      let is = at k (subst (λ n. k < n) (sym as_many) (get-below os k o e)) in
      subst (λ o. IsOutlineRow defaults m o (row_at rs k)) (let same : is.outline ≡ o = some-same (sym is.at ∙ e) in same) is.row
    where
      some-same : {x y : Outline} → Some x ≡ Some y → x ≡ y
      some-same e = cc e

  -- the owner of a row is that of its block
  same-owner : (k : ℕ) → (row_at rs k).owner ≡ owner_at os k
  same-owner k = by (nat_lt k (length rs)) refl
    where
      by : (t : Bool) → nat_lt k (length rs) ≡ t → (row_at rs k).owner ≡ owner_at os k
      by true p =
          let is = at k (ltb-true k (length rs) p) in
          is.row.has.owner ∙ sym (ap (option_and_then (λ (b : Outline). b.owner)) is.at)
      by false p =
          let h = ltb-false k (length rs) p in
          ap (λ (row : Row). row.owner) (get_or_past rs k no_row h)
          ∙ sym (ap (option_and_then (λ (b : Outline). b.owner)) (get-past os k (subst (λ n. n ≤ k) as_many h)))

  -- the subsystems outward from a system
  same-outward : (n : ℕ) (o : Option ℕ) → rows.outward rs None n o ≡ outward os n o
  same-outward zero o = refl
  same-outward (suc n) None = refl
  same-outward (suc n) (Some e) =
      ap (λ o. e ∷ rows.outward rs None n o) (same-owner e) ∙ ap (λ xs. e ∷ xs) (same-outward n (owner_at os e))

  -- the subsystems around a row are those around its block
  same-around : (k : ℕ) (o : Outline) → slice_get os k ≡ Some o → around rs None k ≡ owners_around os o
  same-around k o e =
      ap (rows.outward rs None (length rs)) (own-row k o e).has.owner ∙ ap (λ n. rows.outward rs None n o.owner) as_many
      ∙ same-outward (length os) o.owner

  owner-by : (k depth : ℕ) (owner : Option ℕ) → StandsIn os k depth owner → IsOwner rs k owner
  owner-by k depth None is = tt
  owner-by k depth (Some e) is =
      let c = is.1.0 in (is.0, same-kind defaults m c (row_at rs e) (own-row e c is.1.1) ∙ is.1.2)

  follows-by : (k : ℕ) (o : Outline) → slice_get os k ≡ Some o → (owner : Option ℕ) → FollowsBlock os o owner → FollowsIn rs k owner
  follows-by k o here None is = tt
  follows-by k o here (Some e) is =
      subst (λ xs. Contains xs e) (ap₂ ◌∷◌ (are.numbered section k o here) (sym (same-around k o here))) is

  few-around : (k : ℕ) → kinds.is_subsystem (row_at rs k).kind ≡ true → length (around rs None k) < 32
  few-around k e = by (nat_lt k (length rs)) refl
    where
      by : (t : Bool) → nat_lt k (length rs) ≡ t → length (around rs None k) < 32
      by false p =
          absurd (true≢false (sym e ∙ ap (λ (row : Row). kinds.is_subsystem row.kind) (get_or_past rs k no_row (ltb-false k (length rs) p))))
      by true p =
          let is = at k (ltb-true k (length rs) p) in
          let o = is.outline in
          subst (λ n. n < 32) (are.depths section k o is.at ∙ ap length (sym (same-around k o is.at)))
          (shallow o (all-at (λ o. deep o ≡ None) os k o are.accepted.not_deep is.at)
          (sym (same-kind defaults m o (row_at rs k) is.row) ∙ e))

  pub nested : IsNested rs
  nested = record {
    numbered = λ k h. let is = at k h in ap (λ (p : Place). p.row) is.row.has.place ∙ are.numbered section k is.outline is.at;
    owned = λ k h.
        let is = at k h in
        subst (IsOwner rs k) (sym is.row.has.owner) (owner-by k is.outline.depth is.outline.owner (are.owned section k is.outline is.at));
    in_order = λ k h.
        let is = at k (omega (arith, h)) in
        let next = at (suc k) h in
        subst (FollowsIn rs k) (sym next.row.has.owner)
        (follows-by k is.outline is.at next.outline.owner (are.in_order section k is.outline next.outline is.at next.at));
    at_most = subst (λ n. n ≤ 20000) (sym as_many) (few-blocks os are.accepted.few);
    not_deep = few-around;
  }

-- the rows of a tree that isn't refused are nested, where blocks are
pub tree_is_nested : OutlinesAreNumbered → OwnersAreBefore → OutlinesAreInPreorder → DepthsAreOwnersAround → TreeIsNested
tree_is_nested numbered owned in_order depths file table e is =
    let own = has-model file e in
    let has = table-of file table own is in
    let defaults = defaults_of own.model in
    let section = own.model.system in
    let m = model_with defaults section in
    nested defaults m section table.rows (record {
      numbered = numbered;
      owned = owned;
      in_order = in_order;
      depths = depths;
      accepted = own.accepted;
      of_blocks = outline-rows defaults m (outlines_of section) table.rows own.accepted.each has.rows;
    })
