-- The systems of a table have the control ports of their controls, one each.
use Rattle.std.proofs.Common.{◌≡◌, refl, sym, ◌∙◌, ap, ap₂, subst, ℕ, zero, suc, ◌+◌, ◌<◌, ◌≤◌, Bool, true, false, ◌&&◌, ◌||◌, cond, true≢false, List, [], ◌∷◌, length, map, slice_index_or, Option, None, Some, is_some, inl, inr, arith}
use Rattle.std.specs.Prelude.{◌⊎◌, count_by, filter, filter_map, option_map, slice_get}
use Rattle.std.specs.List.{cons_option}
use Rattle.std.proofs.lemmas.List.Sums.{length-filter}
use Rattle.std.proofs.lemmas.Bool.Decides.{nat_tests}
use Rattle.base_core.specs.declared.Control.{Control}
use Rattle.base_core.specs.declared.Control.TheVariants.{Plain}
use Rattle.base_core.specs.declared.Edge.{Edge}
use Rattle.diagram_blocks.specs.declared.Kind.{Kind}
use Rattle.base_refusals.specs.FirstRefusal.{least_in, found_where}
use Rattle.diagram_meaning.specs.declared.table.Row.{Row}
use Rattle.diagram_blocks.specs.Kinds as kinds
use Rattle.diagram_meaning.specs.Rows as table
use Rattle.diagram_meaning.specs.Rows.{no_row, row_at, rows_of, same_system, system_control, is_enabled, is_triggered}
use Rattle.diagram_meaning.specs.WellFormed.{HasControlPorts, is_enable_port, is_trigger_port}
use Rattle.base_refusals.proofs.lemmas.FirstRefusals.{none-first, none-later}
use Rattle.mdl_tree.specs.Spelling.{Items}
use Rattle.mdl_tree.specs.Walks.{SectionTree}
use Rattle.mdl_params.specs.Defaults.{DefaultTexts}
use Rattle.mdl_blocks.specs.Blocks.{KindText}
use Rattle.mdl_wiring.specs.declared.member.Shape.{Shape}
use Rattle.mdl_wiring.specs.declared.shape.Inside.{Inside}
use Rattle.mdl_wiring.specs.Shapes.{shape_of}
use Rattle.mdl_wiring.specs.Members.{Member}
use Rattle.mdl_wiring.specs.Lines.{sources_in, ends_in}
use Rattle.mdl_wiring.specs.Refusals.{double_names, missing_blocks, missing_ports, double_sources, unconnected_ports, double_controls, is_control, control_port, lines_refusal, wiring_refusal}
use Rattle.mdl_systems.specs.Outlines.{Outline, outlines_of, is_subsystem}
use Rattle.mdl_systems.specs.Nesting.{OutlinesAreNumbered, OwnersAreBefore, StandsIn}
use Rattle.mdl_rows.specs.Models.{Block, kind_of, blocks_of, model_with}
use Rattle.mdl_rows.specs.Interiors.{states_reset, edge_waited, first_that, control_by, control_among, control_of, inside_of}
use Rattle.mdl_rows.specs.Wires.{member_of, members_of}
use Rattle.mdl_rows.specs.RowTexts.{IsKind}
use Rattle.mdl_rows.specs.Refusals.{defaults_of}
use Rattle.mdl_rows.specs.Tables.{IsRowOf}
use Rattle.mdl_table.specs.PortLaws.{TreeControlPortsAreOne}
use Rattle.mdl_table.proofs.lemmas.RowBlocks.{IsOutlineRow, all-none, row-there, zip-length, has-model}
use Rattle.mdl_table.proofs.PortLists.{count-cons, count-map, count-rows, count-filter, count-zip, count-none, item-below, zip-right}
use Rattle.mdl_table.proofs.PortKinds.{same-class, same-shape, is_enable, is_trigger}
use Rattle.mdl_table.proofs.PortReads.{block-read}
use Rattle.mdl_table.proofs.PortModels.{IsOutlineBlock, IsFine, fine, inner-lawful}

-- ---- Controls of a lawful system

no-controls : (is_root : Bool) (ms : List Member) (items : Items) → wiring_refusal is_root ms items ≡ None →
    double_controls is_root ms ≡ None
no-controls is_root ms items none =
    let sources = sources_in ms items in
    let ends = ends_in ms items in
    let both = all-none (double_names ms ∷ lines_refusal is_root ms sources ends ∷ []) none in
    let each = all-none (missing_blocks sources ends ∷ missing_ports sources ends ∷ double_sources ends ∷ unconnected_ports ends ms
    ∷ double_controls is_root ms ∷ []) both.1.0 in
    each.1.1.1.1.0

unfound : (m : Member) → found_where is_control control_port m ≡ None → is_control m ≡ false
unfound m none = by (is_control m) none
  where
    by : (t : Bool) → cond t (Some (control_port m)) None ≡ None → t ≡ false
    by true none = absurd cc
    by false none = refl

or-left : (a b : Bool) → (a || b) ≡ false → a ≡ false
or-left true b e = e
or-left false b e = refl

or-right : (a b : Bool) → (a || b) ≡ false → b ≡ false
or-right true b e = absurd (true≢false e)
or-right false b e = e

-- the root has none
root-none : {B : Type 0} (at : Shape → Bool) → ((m : Member) → is_control m ≡ false → at m.shape ≡ false) →
    (member : B → Member) (own : List B) →
    least_in (found_where is_control control_port) (map member own) ≡ None → count_by (λ b. at (member b).shape) own ≡ 0
root-none at covers member [] none = refl
root-none at covers member (b ∷ own) none =
    count-cons (λ b. at (member b).shape) b own
    ∙ ap₂ (λ t n. cond t 1 0 + n)
    (covers (member b) (unfound (member b) (none-first (found_where is_control control_port (member b))
    (least_in (found_where is_control control_port) (map member own)) none)))
    (root-none at covers member own (none-later (found_where is_control control_port (member b))
    (least_in (found_where is_control control_port) (map member own)) none))

-- another system has at most one of each
one-most : {B : Type 0} (at : Shape → Bool) (member : B → Member) (own : List B) →
    option_map control_port (slice_get (filter (λ (m : Member). at m.shape) (map member own)) 1) ≡ None →
    count_by (λ b. at (member b).shape) own ≤ 1
one-most at member own none =
    let passing = filter (λ (m : Member). at m.shape) (map member own) in
    let count = count-map member (λ (m : Member). at m.shape) own ∙ sym (length-filter (λ (m : Member). at m.shape) (map member own)) in
    subst (λ n. n ≤ 1) (sym count) (short passing (no-second (slice_get passing 1) none))
  where
    no-second : (o : Option Member) → option_map control_port o ≡ None → o ≡ None
    no-second None e = refl
    no-second (Some m) e = absurd cc

    short : (xs : List Member) → slice_get xs 1 ≡ None → length xs ≤ 1
    short [] e = omega arith
    short (x ∷ []) e = omega arith
    short (x ∷ y ∷ xs) e = absurd cc

-- where at most one has this, the first says how many
first-tells : {A B : Type 0} (f : B → Option A) (own : List B) → count_by (λ b. is_some (f b)) own ≤ 1 →
    count_by (λ b. is_some (f b)) own ≡ cond (is_some (slice_get (filter_map f own) 0)) 1 0
first-tells f [] most = refl
first-tells {A} f (b ∷ own) most =
    count-cons (λ b. is_some (f b)) b own
    ∙ by (f b) (subst (λ n. n ≤ 1) (count-cons (λ b. is_some (f b)) b own) most) (first-tells f own)
  where
    by : (o : Option A) → cond (is_some o) 1 0 + count_by (λ b. is_some (f b)) own ≤ 1 →
        (count_by (λ b. is_some (f b)) own ≤ 1 → count_by (λ b. is_some (f b)) own ≡ cond (is_some (slice_get (filter_map f own) 0)) 1 0) →
        cond (is_some o) 1 0 + count_by (λ b. is_some (f b)) own ≡ cond (is_some (slice_get (cons_option o (filter_map f own)) 0)) 1 0
    by None h later = omega arith ∙ later (omega (arith, h))
    by (Some a) h later = omega (arith, h)

-- ---- Controls of tables

-- What the two kinds of controls have alike: the test of a kind, what a block says, the test of a shape and of a control.
record IsControl {A : Type 0} (test : Kind → Bool) (said : KindText → Option A) (at : Shape → Bool) (wants : Control → Bool) : Type 0 where
  kind : (text : KindText) (control : Control) (k : Kind) → IsKind text control k → test k ≡ is_some (said text)
  shape : (inside : Inside) (text : KindText) → at (shape_of inside text) ≡ is_some (said text)
  wanted : (own : List Block) → wants (control_among own) ≡ is_some (first_that said own)
  plain : wants Plain ≡ false
  covered : (m : Member) → is_control m ≡ false → at m.shape ≡ false
  second : (ms : List Member) → double_controls false ms ≡ None →
      option_map control_port (slice_get (filter (λ (m : Member). at m.shape) ms) 1) ≡ None

wanted-enable : (a : Option Bool) (b : Option Edge) → is_enabled (control_by a b) ≡ is_some a
wanted-enable None None = refl
wanted-enable (Some reset) None = refl
wanted-enable None (Some edge) = refl
wanted-enable (Some reset) (Some edge) = refl

wanted-trigger : (a : Option Bool) (b : Option Edge) → is_triggered (control_by a b) ≡ is_some b
wanted-trigger None None = refl
wanted-trigger (Some reset) None = refl
wanted-trigger None (Some edge) = refl
wanted-trigger (Some reset) (Some edge) = refl

enable-control : IsControl is_enable_port states_reset is_enable is_enabled
enable-control = record {
  kind = λ text control k is. (same-class text control k is).of_enable;
  shape = λ inside text. (same-shape inside text).enables;
  wanted = λ own. wanted-enable (first_that states_reset own) (first_that edge_waited own);
  plain = refl;
  covered = λ m none. or-left (is_enable m.shape) (is_trigger m.shape) none;
  second = λ ms none. none-first _ _ none;
}

trigger-control : IsControl is_trigger_port edge_waited is_trigger is_triggered
trigger-control = record {
  kind = λ text control k is. (same-class text control k is).of_trigger;
  shape = λ inside text. (same-shape inside text).triggers;
  wanted = λ own. wanted-trigger (first_that states_reset own) (first_that edge_waited own);
  plain = refl;
  covered = λ m none. or-right (is_enable m.shape) (is_trigger m.shape) none;
  second = λ ms none. none-later _ _ none;
}

same-place : (w z : Option ℕ) → same_system w z ≡ true → w ≡ z
same-place None None is = refl
same-place None (Some k) is = absurd (true≢false (sym is))
same-place (Some j) None is = absurd (true≢false (sym is))
same-place (Some j) (Some k) is = grind (arith, nat_tests)

-- no row is past the end
past : {A : Type 0} (xs : List A) (k : ℕ) (d : A) → length xs ≤ k → slice_index_or xs k d ≡ d
past [] k d h = refl
past (x ∷ xs) zero d h = absurd (omega (arith, h))
past (x ∷ xs) (suc k) d h = past xs k d (omega (arith, h))

-- the blocks of a model, and those of one of its systems
abbrev blocks_in : DefaultTexts → SectionTree → List Block
blocks_in defaults section = (model_with defaults section).blocks

abbrev own_in : DefaultTexts → SectionTree → Option ℕ → List Block
own_in defaults section z = blocks_of (blocks_in defaults section) z

module _ (defaults : DefaultTexts) (section : SectionTree) (rs : List Row) (is : IsFine defaults section rs)
    (numbered : OutlinesAreNumbered) (before : OwnersAreBefore) where
  -- a system that no outline is
  no-system : (e : ℕ) → ((c : Outline) → slice_get (outlines_of section) e ≡ Some c → is_subsystem c ≡ true → ⊥) →
      (k : ℕ) (b : Block) → slice_get (blocks_in defaults section) k ≡ Some b → same_system b.owner (Some e) ≡ false
  no-system e absent k b at = by (same_system b.owner (Some e)) refl
    where
      found : (o : Outline) × (slice_get (outlines_of section) k ≡ Some o) × IsOutlineBlock defaults o b
      found = zip-right (IsOutlineBlock defaults) (outlines_of section) (blocks_in defaults section) k b is.blocks at

      clash : b.owner ≡ Some e → ⊥
      clash own =
          let stands = subst (λ w. StandsIn (outlines_of section) k found.0.depth w) (sym found.2.owner ∙ own)
          (before section k found.0 found.1) in
          absent stands.1.0 stands.1.1 stands.1.2

      by : (t : Bool) → same_system b.owner (Some e) ≡ t → same_system b.owner (Some e) ≡ false
      by true t = absurd (clash (same-place b.owner (Some e) t))
      by false t = t

  module _ {A : Type 0} (test : Kind → Bool) (said : KindText → Option A) (at : Shape → Bool) (wants : Control → Bool)
      (one : IsControl test said at wants) where
    -- the rows of a system that pass are its blocks that say so
    counted : (z : Option ℕ) → count_by (λ b. test (row_at rs b).kind) (rows_of rs z)
        ≡ count_by (λ (b : Block). is_some (said (kind_of b))) (own_in defaults section z)
    counted z =
        count-rows rs (λ r. test r.kind) (λ r. same_system r.owner z)
        ∙ sym (count-zip (IsRowOf (model_with defaults section)) (λ (b : Block). same_system b.owner z && is_some (said (kind_of b)))
        (λ (r : Row). same_system r.owner z && test r.kind)
        (λ b r row. ap₂ (λ a b. a && b) (ap (λ w. same_system w z) (sym row.owner))
        (sym (one.kind (kind_of b) (control_of (blocks_in defaults section) b.number) r.kind row.kind)))
        (blocks_in defaults section) rs is.has)
        ∙ sym (count-filter (λ (b : Block). is_some (said (kind_of b))) (λ (b : Block). same_system b.owner z) (blocks_in defaults section))

    -- by their shapes
    shaped : (own : List Block) → count_by (λ (b : Block). at (member_of (blocks_in defaults section) b).shape) own
        ≡ count_by (λ (b : Block). is_some (said (kind_of b))) own
    shaped [] = refl
    shaped (b ∷ own) =
        count-cons (λ (b : Block). at (member_of (blocks_in defaults section) b).shape) b own
        ∙ ap₂ (λ t n. cond t 1 0 + n) (one.shape (inside_of (blocks_in defaults section) b.number) (kind_of b)) (shaped own)
        ∙ sym (count-cons (λ (b : Block). is_some (said (kind_of b))) b own)

    root : count_by (λ b. test (row_at rs b).kind) (rows_of rs None) ≡ cond (wants Plain) 1 0
    root =
        counted None ∙ sym (shaped (own_in defaults section None))
        ∙ root-none at one.covered (member_of (blocks_in defaults section)) (own_in defaults section None)
        (no-controls true (members_of (blocks_in defaults section) None) section.items is.systems.0)
        ∙ ap (λ t. cond t 1 0) (sym one.plain)

    none-inside : (e : ℕ) → ((c : Outline) → slice_get (outlines_of section) e ≡ Some c → is_subsystem c ≡ true → ⊥) →
        (control : Control) → control ≡ Plain →
        count_by (λ b. test (row_at rs b).kind) (rows_of rs (Some e)) ≡ cond (wants control) 1 0
    none-inside e absent control plain =
        counted (Some e)
        ∙ count-filter (λ (b : Block). is_some (said (kind_of b))) (λ (b : Block). same_system b.owner (Some e))
        (blocks_in defaults section)
        ∙ count-none (λ (b : Block). same_system b.owner (Some e) && is_some (said (kind_of b))) (blocks_in defaults section)
        (λ k b at. ap (λ t. t && is_some (said (kind_of b))) (no-system e absent k b at))
        ∙ ap (λ t. cond t 1 0) (sym (ap wants plain ∙ one.plain))

    inside : (e : ℕ) (c : Outline) → slice_get (outlines_of section) e ≡ Some c → is_subsystem c ≡ true → (control : Control) →
        control ≡ control_of (blocks_in defaults section) e →
        count_by (λ b. test (row_at rs b).kind) (rows_of rs (Some e)) ≡ cond (wants control) 1 0
    inside e c here sub control is_control =
        let own = own_in defaults section (Some e) in
        let lawful = inner-lawful defaults section rs is numbered e c here sub in
        let none = one.second (members_of (blocks_in defaults section) (Some e))
        (no-controls false (members_of (blocks_in defaults section) (Some e)) lawful.0 lawful.1) in
        let most = one-most at (member_of (blocks_in defaults section)) own none in
        counted (Some e) ∙ first-tells (λ (b : Block). said (kind_of b)) own (subst (λ n. n ≤ 1) (shaped own) most)
        ∙ ap (λ t. cond t 1 0) (sym (ap wants is_control ∙ one.wanted own))

    controlled : (z : Option ℕ) → count_by (λ b. test (row_at rs b).kind) (rows_of rs z) ≡ cond (wants (system_control rs z)) 1 0
    controlled None = root
    controlled (Some e) = by (compare e (length rs))
      where
        compare : (a b : ℕ) → (a < b) ⊎ (b ≤ a)
        compare a b = grind arith

        of-kind : (o : Outline) → slice_get (outlines_of section) e ≡ Some o →
            IsOutlineRow defaults (model_with defaults section) o (row_at rs e) →
            (t : Bool) → is_subsystem o ≡ t → count_by (λ b. test (row_at rs b).kind) (rows_of rs (Some e))
            ≡ cond (wants (kinds.control_of (row_at rs e).kind)) 1 0
        of-kind o here row true sub =
            let class = same-class row.text.body.kind (control_of (blocks_in defaults section) o.number) (row_at rs e).kind row.has.kind in
            let system = block-read defaults o.peers o.section row.text row.is in
            inside e o here sub (kinds.control_of (row_at rs e).kind)
            (class.of_control ∙ ap (λ t. cond t (control_of (blocks_in defaults section) o.number) Plain) (sym system.of_system ∙ sub)
            ∙ ap (control_of (blocks_in defaults section)) (numbered section e o here))
        of-kind o here row false sub =
            let class = same-class row.text.body.kind (control_of (blocks_in defaults section) o.number) (row_at rs e).kind row.has.kind in
            let system = block-read defaults o.peers o.section row.text row.is in
            none-inside e (λ c at is_sub. true≢false (sym is_sub ∙ ap is_subsystem (same c o at here) ∙ sub))
            (kinds.control_of (row_at rs e).kind)
            (class.of_control ∙ ap (λ t. cond t (control_of (blocks_in defaults section) o.number) Plain) (sym system.of_system ∙ sub))
          where
            same : (c o : Outline) → slice_get (outlines_of section) e ≡ Some c → slice_get (outlines_of section) e ≡ Some o → c ≡ o
            same c o p q = cc

        by : (e < length rs) ⊎ (length rs ≤ e) → count_by (λ b. test (row_at rs b).kind) (rows_of rs (Some e))
            ≡ cond (wants (kinds.control_of (row_at rs e).kind)) 1 0
        by (inl low) =
            let found = row-there defaults (model_with defaults section) (outlines_of section) rs e is.rows low in
            of-kind found.outline found.at found.row (is_subsystem found.outline) refl
        by (inr high) =
            none-inside e (λ c at sub. let h = item-below (outlines_of section) e c at in
            let same = zip-length (IsOutlineRow defaults (model_with defaults section)) (outlines_of section) rs is.rows in
            omega (arith, h, same, high))
            (kinds.control_of (row_at rs e).kind) (ap (λ (r : Row). kinds.control_of r.kind) (past rs e no_row high))

  pub control-ports : (z : Option ℕ) → HasControlPorts rs z
  control-ports z = record {
    enables = controlled is_enable_port states_reset is_enable is_enabled enable-control z;
    triggers = controlled is_trigger_port edge_waited is_trigger is_triggered trigger-control z;
  }

pub controls_are_one : OutlinesAreNumbered → OwnersAreBefore → TreeControlPortsAreOne
controls_are_one are before file table none is =
    let own = has-model file none in
    control-ports (defaults_of own.model) own.model.system table.rows (fine file table own none is) are before
