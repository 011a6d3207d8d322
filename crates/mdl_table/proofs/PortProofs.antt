-- The ports of a table are numbered.
use Rattle.std.proofs.Common.{◌≡◌, sym, ◌∙◌, ap, ap₂, subst, ℕ, ◌<◌, ◌≤◌, Bool, true, false, ◌&&◌, true≢false, List, length, Option, None, Some, is_some, inl, inr, arith}
use Rattle.std.specs.Prelude.{◌⊎◌, count_by, slice_get}
use Rattle.std.specs.List.{AllByRecursion}
use Rattle.base_core.specs.declared.Control.{Control}
use Rattle.diagram_blocks.specs.declared.Kind.{Kind}
use Rattle.diagram_meaning.specs.declared.table.Row.{Row}
use Rattle.diagram_meaning.specs.Rows.{no_row, row_at, rows_of, same_system}
use Rattle.diagram_blocks.specs.Kinds.{is_inport, is_outport, port_of}
use Rattle.diagram_meaning.specs.WellFormed.{HasPorts}
use Rattle.mdl_tree.specs.Walks.{SectionTree}
use Rattle.mdl_params.specs.declared.BlockType.{BlockType}
use Rattle.mdl_params.specs.declared.BlockType.TheVariants.{Inport, Outport}
use Rattle.mdl_params.specs.Defaults.{DefaultTexts}
use Rattle.mdl_blocks.specs.declared.peers.Peers.{Peers}
use Rattle.mdl_blocks.specs.Blocks.{KindText}
use Rattle.mdl_blocks.specs.Peers.{writes_type}
use Rattle.mdl_wiring.specs.declared.member.Shape.{Shape}
use Rattle.mdl_wiring.specs.declared.shape.Inside.{Inside}
use Rattle.mdl_wiring.specs.Shapes.{shape_of}
use Rattle.mdl_systems.specs.Outlines.{Outline, outlines_of}
use Rattle.mdl_systems.specs.Nesting.{OutlinesAreNumbered, OwnersAreBefore}
use Rattle.mdl_systems.specs.Owners.{of_owner}
use Rattle.mdl_rows.specs.Models.{Block, kind_of, blocks_of, model_with}
use Rattle.mdl_rows.specs.Interiors.{inport_number, outport_number, control_of, inside_of}
use Rattle.mdl_rows.specs.Wires.{member_of}
use Rattle.mdl_rows.specs.RowTexts.{IsKind}
use Rattle.mdl_rows.specs.Refusals.{defaults_of}
use Rattle.mdl_rows.specs.Tables.{IsRowOf}
use Rattle.mdl_table.specs.PortLaws.{TreePortsAreNumbered}
use Rattle.mdl_table.proofs.lemmas.RowBlocks.{IsOutlineRow, row-there, zip-at, has-model}
use Rattle.mdl_table.proofs.PortLists.{AllPaired, count-rows, count-filter, count-zip, filter-at, filter-paired}
use Rattle.mdl_table.proofs.PortKinds.{IsPort, same-class, same-shape, inport_of, outport_of}
use Rattle.mdl_table.proofs.PortReads.{IsInRange, block-read}
use Rattle.mdl_table.proofs.PortGroups.{count_of, same-self}
use Rattle.mdl_table.proofs.PortModels.{IsFine, fine, system-lawful}
use Rattle.mdl_table.proofs.PortDoubles.{same_by, ports-apart, one-port}

-- a port that is said is in range
port-bound : (said : Option ℕ) (n most : ℕ) → is_some said ≡ true → IsPort said n → IsInRange said most → (0 < n) × (n ≤ most)
port-bound None n most some is range = absurd (true≢false (sym some))
port-bound (Some p) n most some is range = subst (λ n. (0 < n) × (n ≤ most)) (sym is) range

-- What Inports and Outports have alike: the test of a kind, the port of a block, that of a shape, the BlockType, and how
-- many a block says that its system has.
record IsSide (type : BlockType) (test : Kind → Bool) (said : KindText → Option ℕ) (port : Shape → Option ℕ)
    (told : Peers → ℕ) : Type 0 where
  kind : (text : KindText) (control : Control) (k : Kind) → IsKind text control k →
      (test k ≡ is_some (said text)) × IsPort (said text) (port_of k)
  shape : (inside : Inside) (text : KindText) → port (shape_of inside text) ≡ said text

input-side : IsSide Inport is_inport inport_number inport_of (λ p. p.inports)
input-side = record {
  kind = λ text control k is. let class = same-class text control k is in (class.of_inport, class.in_port);
  shape = λ inside text. (same-shape inside text).on_input;
}

output-side : IsSide Outport is_outport outport_number outport_of (λ p. p.outports)
output-side = record {
  kind = λ text control k is. let class = same-class text control k is in (class.of_outport, class.out_port);
  shape = λ inside text. (same-shape inside text).on_output;
}

module _ (defaults : DefaultTexts) (section : SectionTree) (rs : List Row) (is : IsFine defaults section rs) where
  module _ (type : BlockType) (test : Kind → Bool) (said : KindText → Option ℕ) (port : Shape → Option ℕ) (told : Peers → ℕ)
      (one : IsSide type test said port told)
      (writes : (o : Outline) (r : Row) → IsOutlineRow defaults (model_with defaults section) o r →
      test r.kind ≡ writes_type type o.section.items) where
    -- the rows of a system that pass are those outlines of it that write the type
    counted : (z : Option ℕ) → count_by (λ b. test (row_at rs b).kind) (rows_of rs z) ≡ count_of type (of_owner z (outlines_of section))
    counted z =
        count-rows rs (λ r. test r.kind) (λ r. same_system r.owner z)
        ∙ sym (count-zip (IsOutlineRow defaults (model_with defaults section))
        (λ (o : Outline). same_system o.owner z && writes_type type o.section.items)
        (λ (r : Row). same_system r.owner z && test r.kind)
        (λ o r row. ap₂ (λ a b. a && b) (ap (λ w. same_system w z) (sym row.has.owner)) (sym (writes o r row)))
        (outlines_of section) rs is.rows)
        ∙ sym (count-filter (λ (o : Outline). writes_type type o.section.items) (λ (o : Outline). same_system o.owner z)
        (outlines_of section))

    in-range : (ranges : (o : Outline) (r : Row) (row : IsOutlineRow defaults (model_with defaults section) o r) →
        IsInRange (said row.text.body.kind) (told o.peers)) →
        (z : Option ℕ) → AllByRecursion (λ (o : Outline). told o.peers ≡ count_of type (of_owner z (outlines_of section)))
        (of_owner z (outlines_of section)) →
        (b : ℕ) → b < length rs → (row_at rs b).owner ≡ z → test (row_at rs b).kind ≡ true →
        (0 < port_of (row_at rs b).kind) × (port_of (row_at rs b).kind ≤ count_by (λ c. test (row_at rs c).kind) (rows_of rs z))
    in-range ranges z all b h own passes =
        let found = row-there defaults (model_with defaults section) (outlines_of section) rs b is.rows h in
        let kind = one.kind found.row.text.body.kind (control_of (model_with defaults section).blocks found.outline.number)
        (row_at rs b).kind found.row.has.kind in
        let here : same_system found.outline.owner z ≡ true = ap (λ w. same_system w z) (sym found.row.has.owner ∙ own) ∙ same-self z in
        let most = filter-at (λ (o : Outline). told o.peers ≡ count_of type (of_owner z (outlines_of section)))
        (λ (o : Outline). same_system o.owner z) (outlines_of section) b found.outline all found.at here in
        subst (λ n. (0 < port_of (row_at rs b).kind) × (port_of (row_at rs b).kind ≤ n)) (most ∙ sym (counted z))
        (port-bound (said found.row.text.body.kind) (port_of (row_at rs b).kind) (told found.outline.peers)
        (sym kind.0 ∙ passes) kind.1 (ranges found.outline (row_at rs b) found.row))

    -- two rows of a system, one after the other, don't have one port
    clash : (z : Option ℕ) → AllPaired (λ x y. same_by port (member_of (model_with defaults section).blocks y)
        (member_of (model_with defaults section).blocks x) ≡ false) (blocks_of (model_with defaults section).blocks z) →
        (b c : ℕ) → b < c → c < length rs → (row_at rs b).owner ≡ z → (row_at rs c).owner ≡ z →
        test (row_at rs b).kind ≡ true → test (row_at rs c).kind ≡ true → port_of (row_at rs b).kind ≡ port_of (row_at rs c).kind → ⊥
    clash z apart b c less h own other passes also same =
        let blocks : List Block = (model_with defaults section).blocks in
        let x = zip-at (IsRowOf (model_with defaults section)) blocks rs b no_row is.has (omega (arith, less, h)) in
        let y = zip-at (IsRowOf (model_with defaults section)) blocks rs c no_row is.has h in
        let here : same_system x.0.owner z ≡ true = ap (λ w. same_system w z) (sym x.2.owner ∙ own) ∙ same-self z in
        let there : same_system y.0.owner z ≡ true = ap (λ w. same_system w z) (sym y.2.owner ∙ other) ∙ same-self z in
        let no = filter-paired (λ (x y : Block). same_by port (member_of blocks y) (member_of blocks x) ≡ false)
        (λ (o : Block). same_system o.owner z) blocks b c x.0 y.0 apart less x.1 y.1 here there in
        let kind = one.kind (kind_of x.0) (control_of blocks x.0.number) (row_at rs b).kind x.2.kind in
        let kind_y = one.kind (kind_of y.0) (control_of blocks y.0.number) (row_at rs c).kind y.2.kind in
        let yes = one-port (port (member_of blocks x.0).shape) (port (member_of blocks y.0).shape) (port_of (row_at rs b).kind)
        (port_of (row_at rs c).kind)
        (ap is_some (one.shape (inside_of blocks x.0.number) (kind_of x.0)) ∙ sym kind.0 ∙ passes)
        (ap is_some (one.shape (inside_of blocks y.0.number) (kind_of y.0)) ∙ sym kind_y.0 ∙ also)
        (subst (λ o. IsPort o (port_of (row_at rs b).kind)) (sym (one.shape (inside_of blocks x.0.number) (kind_of x.0))) kind.1)
        (subst (λ o. IsPort o (port_of (row_at rs c).kind)) (sym (one.shape (inside_of blocks y.0.number) (kind_of y.0))) kind_y.1)
        same in
        true≢false (sym yes ∙ no)

    one-each : ((z : Option ℕ) (k : ℕ) (o : Outline) → slice_get (outlines_of section) k ≡ Some o → o.owner ≡ z →
        AllPaired (λ x y. same_by port (member_of (model_with defaults section).blocks y)
        (member_of (model_with defaults section).blocks x) ≡ false) (blocks_of (model_with defaults section).blocks z)) →
        (z : Option ℕ) (b c : ℕ) → b < length rs → c < length rs → (row_at rs b).owner ≡ z → (row_at rs c).owner ≡ z →
        test (row_at rs b).kind ≡ true → test (row_at rs c).kind ≡ true → port_of (row_at rs b).kind ≡ port_of (row_at rs c).kind → b ≡ c
    one-each apart z b c h g own other passes also same =
        let found = row-there defaults (model_with defaults section) (outlines_of section) rs b is.rows h in
        let pairs = apart z b found.outline found.at (sym found.row.has.owner ∙ own) in
        by (order b c)
        (λ less. clash z pairs b c less g own other passes also same)
        (λ less. clash z pairs c b less h other own also passes (sym same))
      where
        order : (b c : ℕ) → (b ≡ c) ⊎ ((b < c) ⊎ (c < b))
        order b c = grind arith

        by : (b ≡ c) ⊎ ((b < c) ⊎ (c < b)) → (b < c → ⊥) → (c < b → ⊥) → b ≡ c
        by (inl is) left right = is
        by (inr (inl less)) left right = absurd (left less)
        by (inr (inr less)) left right = absurd (right less)

  in-writes : (o : Outline) (r : Row) → IsOutlineRow defaults (model_with defaults section) o r →
      is_inport r.kind ≡ writes_type Inport o.section.items
  in-writes o r row =
      (same-class row.text.body.kind (control_of (model_with defaults section).blocks o.number) r.kind row.has.kind).of_inport
      ∙ sym (block-read defaults o.peers o.section row.text row.is).of_inport

  out-writes : (o : Outline) (r : Row) → IsOutlineRow defaults (model_with defaults section) o r →
      is_outport r.kind ≡ writes_type Outport o.section.items
  out-writes o r row =
      (same-class row.text.body.kind (control_of (model_with defaults section).blocks o.number) r.kind row.has.kind).of_outport
      ∙ sym (block-read defaults o.peers o.section row.text row.is).of_outport

  pub inports : OutlinesAreNumbered → OwnersAreBefore → (z : Option ℕ) → HasPorts rs is_inport z
  inports numbered before z = record {
    at_most = subst (λ n. n ≤ 32) (sym (counted Inport is_inport inport_number inport_of (λ p. p.inports) input-side in-writes z))
        (is.groups z).inports;
    in_range = in-range Inport is_inport inport_number inport_of (λ p. p.inports) input-side in-writes
        (λ o r row. (block-read defaults o.peers o.section row.text row.is).in_range) z (is.groups z).told_inports;
    one_each = one-each Inport is_inport inport_number inport_of (λ p. p.inports) input-side in-writes
        (λ w k o at own. let lawful = system-lawful defaults section rs is numbered before w k o at own in
        (ports-apart _ (member_of (model_with defaults section).blocks)
        (blocks_of (model_with defaults section).blocks w) lawful.0 lawful.1).0) z;
  }

  pub outports : OutlinesAreNumbered → OwnersAreBefore → (z : Option ℕ) → HasPorts rs is_outport z
  outports numbered before z = record {
    at_most = subst (λ n. n ≤ 32) (sym (counted Outport is_outport outport_number outport_of
        (λ p. p.outports) output-side out-writes z)) (is.groups z).outports;
    in_range = in-range Outport is_outport outport_number outport_of (λ p. p.outports) output-side out-writes
        (λ o r row. (block-read defaults o.peers o.section row.text row.is).out_range) z (is.groups z).told_outports;
    one_each = one-each Outport is_outport outport_number outport_of (λ p. p.outports) output-side out-writes
        (λ w k o at own. let lawful = system-lawful defaults section rs is numbered before w k o at own in
        (ports-apart _ (member_of (model_with defaults section).blocks)
        (blocks_of (model_with defaults section).blocks w) lawful.0 lawful.1).1) z;
  }

pub numbered : OutlinesAreNumbered → OwnersAreBefore → TreePortsAreNumbered
numbered are before file table none is =
    let own = has-model file none in
    let good = fine file table own none is in (
      inports (defaults_of own.model) own.model.system table.rows good are before,
      outports (defaults_of own.model) own.model.system table.rows good are before,
    )
