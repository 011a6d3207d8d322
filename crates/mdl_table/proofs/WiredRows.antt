-- The rows of a tree that isn't refused are wired.
use Rattle.std.proofs.Common.{◌≡◌, refl, sym, ◌∙◌, ap, ap₂, subst, ℕ, suc, ◌+◌, ◌-◌, ◌<◌, ◌≤◌, Bool, true, false, ◌&&◌, true≢false, List, [], ◌∷◌, length, drop, Option, None, Some, is_some, is_none, inl, inr, arith}
use Rattle.std.specs.Prelude.{◌==◌, count_by, find, slice_get, option_map, option_and_then, option_to_list}
use Rattle.std.specs.Option.{option_map_or}
use Rattle.std.specs.List.{AllByRecursion}
use Rattle.std.proofs.lemmas.Bool.{eq-eqb}
use Rattle.std.proofs.lemmas.List.{length-drop}
use Rattle.std.proofs.lemmas.List.Sums.{length-filter}
use Rattle.std.proofs.lemmas.Option.{slice_get-map}
use Rattle.base_core.specs.declared.Control.{Control}
use Rattle.diagram_blocks.specs.declared.Kind.{Kind}
use Rattle.diagram_blocks.specs.declared.Kind.TheVariants as row
use Rattle.diagram_meaning.specs.declared.table.Row.{Row}
use Rattle.diagram_meaning.specs.Rows.{no_row, row_at, rows_of, by_port, same_system}
use Rattle.diagram_blocks.specs.Kinds.{is_inport, is_outport, port_of}
use Rattle.diagram_meaning.specs.WellFormed.{IsWireIn, IsWired}
use Rattle.diagram_meaning.proofs.lemmas.Ports.{length-by_port, ported-at}
use Rattle.diagram_meaning.proofs.lemmas.RestsOnNeeds.{same_system-equal}
use Rattle.mdl_tree.specs.Spelling.{End}
use Rattle.mdl_tree.specs.Walks.{SectionTree}
use Rattle.mdl_params.specs.Defaults.{DefaultTexts}
use Rattle.mdl_blocks.specs.Blocks.{KindText, inport, subsystem}
use Rattle.mdl_wiring.specs.declared.ports.Source.{Source}
use Rattle.mdl_wiring.specs.declared.shape.Inside.{Inside}
use Rattle.mdl_wiring.specs.Members.{Member, one_if, port_count, output_count}
use Rattle.mdl_wiring.specs.Shapes.{shape_of}
use Rattle.mdl_wiring.specs.Laws.{EachInputHasOneSource}
use Rattle.mdl_systems.specs.Outlines.{Outline, outlines_of}
use Rattle.mdl_systems.specs.Nesting.{OutlinesAreNumbered, OwnersAreBefore, StandsIn}
use Rattle.mdl_rows.specs.Models.{Block, Model, System, kind_of, system_in, blocks_of, model_with, inner_system, items_inside, items_of}
use Rattle.mdl_rows.specs.Interiors.{inport_number, outport_number, states_reset, edge_waited, count_that, first_that, inside_of, control_of, is_outport_at, outport_of}
use Rattle.mdl_rows.specs.Wires.{member_of, members_of, place_of, block_sources, output_row, source_row, source_rows, entering_row, entering, controlling, row_wires}
use Rattle.mdl_rows.specs.RowTexts.{IsKind}
use Rattle.mdl_rows.specs.Refusals.{defaults_of, system_refusal}
use Rattle.mdl_rows.specs.Tables.{IsRowOf}
use Rattle.mdl_table.specs.WireLaws.{TreeIsWired}
use Rattle.mdl_table.proofs.lemmas.RowBlocks.{zip-at, all-at, has-model}
use Rattle.mdl_table.proofs.PortLists.{count-rows, count-filter, count-zip, zip-right, zip-left, item-below, item-is, given-at}
use Rattle.mdl_table.proofs.PortKinds.{IsPort, IsClass, same-class}
use Rattle.mdl_table.proofs.PortReads.{block-read}
use Rattle.mdl_table.proofs.PortGroups.{same-self}
use Rattle.mdl_table.proofs.PortModels.{IsOutlineBlock, IsFine, IsLawful, fine}
use Rattle.mdl_table.proofs.PortProofs.{inports, outports}
use Rattle.mdl_table.proofs.WiredLists.{filter-place, filter-from, find-there, find-from, map-from, get-there, all-drop, all-mapped, all-found}
use Rattle.mdl_table.proofs.WiredSources.{IsOutput, sources-there}
use Rattle.mdl_table.proofs.WiredKinds.{HasOutputs, outputs-of, HasWires, control-count, wires-by-kind}

-- ---- Ports that are said

-- a port that is said and this number
said-at : (said : Option ℕ) (n port : ℕ) → is_some said ≡ true → IsPort said n → n ≡ port →
    option_map_or (λ own. own == port) said false ≡ true
said-at None n port some is same = absurd (true≢false (sym some))
said-at (Some p) n port some is same = eq-eqb p port (sym is ∙ same)

said-there : (said : Option ℕ) (port : ℕ) → option_map_or (λ own. own == port) said false ≡ true → is_some said ≡ true
said-there None port e = e
said-there (Some p) port e = refl

module _ (defaults : DefaultTexts) (section : SectionTree) (rs : List Row) (is : IsFine defaults section rs)
    (numbered : OutlinesAreNumbered) (before : OwnersAreBefore) (one : EachInputHasOneSource) where
  abbrev m : Model
  m = model_with defaults section

  -- the blocks of a system
  abbrev own_of : Option ℕ → List Block
  own_of z = blocks_of m.blocks z

  -- whether a block is in a system
  abbrev is_in : Option ℕ → Block → Bool
  is_in z b = same_system b.owner z

  -- the port blocks inside a block, and its control
  abbrev inside : Block → Inside
  inside b = inside_of m.blocks b.number

  abbrev control : Block → Control
  control b = control_of m.blocks b.number

  -- what lines see of a block
  abbrev member : Block → Member
  member b = member_of m.blocks b

  -- the kind of row k
  abbrev kind_at : ℕ → Kind
  kind_at k = (row_at rs k).kind

  -- block b is at k
  abbrev At : ℕ → Block → Type 0
  At k b = slice_get m.blocks k ≡ Some b

  outline-at : (k : ℕ) (b : Block) → At k b → (o : Outline) × (slice_get (outlines_of section) k ≡ Some o) × IsOutlineBlock defaults o b
  outline-at k b at = zip-right (IsOutlineBlock defaults) (outlines_of section) m.blocks k b is.blocks at

  number-is : (k : ℕ) (b : Block) → At k b → b.number ≡ k
  number-is k b at = let f = outline-at k b at in f.2.number ∙ numbered section k f.0 f.1

  at-number : (k : ℕ) (b : Block) → At k b → At b.number b
  at-number k b at = subst (λ n. At n b) (sym (number-is k b at)) at

  row-below : (k : ℕ) (b : Block) → At k b → k < length rs
  row-below k b at = let f = zip-left (IsRowOf m) m.blocks rs k b is.has at in item-below rs k f.0 f.1

  row-is : (k : ℕ) (b : Block) → At k b → IsRowOf m b (row_at rs k)
  row-is k b at =
      let f = zip-left (IsRowOf m) m.blocks rs k b is.has at in
      subst (IsRowOf m b) (sym (item-is rs k f.0 no_row f.1)) f.2

  class-is : (k : ℕ) (b : Block) → At k b → IsClass (kind_of b) (control b) (kind_at k)
  class-is k b at = same-class (kind_of b) (control b) (kind_at k) (row-is k b at).kind

  outputs-is : (k : ℕ) (b : Block) → At k b → HasOutputs (inside b) (kind_of b) (kind_at k) (system_in (kind_of b))
  outputs-is k b at = outputs-of (inside b) (kind_of b) (control b) (kind_at k) (row-is k b at).kind

  -- ---- Systems

  -- whether a block is a subsystem
  abbrev is_system : Block → Bool
  is_system b = is_some (system_in (kind_of b))

  -- the subsystem block around a block
  inner-there : (k : ℕ) (b : Block) (e : ℕ) → At k b → b.owner ≡ Some e → (c : Block) × At e c × (is_system c ≡ true)
  inner-there k b e at own =
      let f = outline-at k b at in
      let stands = subst (λ w. StandsIn (outlines_of section) k f.0.depth w) (sym f.2.owner ∙ own) (before section k f.0 f.1) in
      let o = stands.1.0 in
      let g = zip-left (IsOutlineBlock defaults) (outlines_of section) m.blocks e o is.blocks stands.1.1 in
      (g.0, g.1, sym (block-read defaults o.peers o.section g.0.text g.2.is).of_system ∙ stands.1.2)

  inner-lawful : (e : ℕ) (c : Block) → At e c → is_system c ≡ true → IsLawful m (Some e) (items_of m (Some e))
  inner-lawful e c at some = by (system_in (kind_of c)) refl some
    where
      system_of : SectionTree → System
      system_of section = record { row = Some c.number; items = section.items }

      by : (o : Option SectionTree) → system_in (kind_of c) ≡ o → is_some o ≡ true → IsLawful m (Some e) (items_of m (Some e))
      by None p some = absurd (true≢false (sym some))
      by (Some inside) p some =
          let inner : inner_system c ≡ Some (system_of inside) = ap (option_map system_of) p in
          let items : items_of m (Some e) ≡ inside.items =
          ap (λ o. option_map_or items_inside o End) at ∙ ap (λ s. option_map_or (λ (section : SectionTree). section.items) s End) p in
          subst (IsLawful m (Some e)) (sym items) (subst (λ n. IsLawful m (Some n) inside.items) (number-is e c at)
          (given-at (λ s. system_refusal m s ≡ None) inner_system m.blocks e c (system_of inside) is.systems.1 at inner))

  lawful : (k : ℕ) (b : Block) → At k b → IsLawful m b.owner (items_of m b.owner)
  lawful k b at = by b.owner refl
    where
      by : (z : Option ℕ) → b.owner ≡ z → IsLawful m z (items_of m z)
      by None own = is.systems.0
      by (Some e) own = let f = inner-there k b e at own in inner-lawful e f.0 f.1 f.2

  -- ---- Sources

  -- each input of a block has a source
  many-sources : (k : ℕ) (b : Block) → At k b → length (block_sources m b) ≡ port_count (member b).shape
  many-sources k b at =
      one (is_none b.owner) (members_of m.blocks b.owner) (items_of m b.owner) (lawful k b at) (place_of m.blocks b) (member b)
      (slice_get-map (member_of m.blocks) (own_of b.owner) (place_of m.blocks b)
      ∙ ap (option_map (member_of m.blocks))
      (filter-place (is_in b.owner) m.blocks b.number b (at-number k b at) (same-self b.owner)))

  -- whether a block says this
  abbrev says : {A : Type 0} → (KindText → Option A) → Block → Bool
  says said b = is_some (said (kind_of b))

  -- as many blocks of a system as rows of it pass a test
  counted : {A : Type 0} (said : KindText → Option A) (test : Kind → Bool) →
      ((text : KindText) (c : Control) (k : Kind) → IsKind text c k → test k ≡ is_some (said text)) →
      (z : Option ℕ) → count_that said (own_of z) ≡ count_by (λ b. test (kind_at b)) (rows_of rs z)
  counted said test same z =
      length-filter (says said) (own_of z) ∙ count-filter (says said) (is_in z) m.blocks
      ∙ count-zip (IsRowOf m) (λ (b : Block). is_in z b && says said b) (λ (r : Row). same_system r.owner z && test r.kind)
      (λ b r row. ap₂ (λ a b. a && b) (ap (λ w. same_system w z) (sym row.owner)) (sym (same (kind_of b) (control b) r.kind row.kind)))
      m.blocks rs is.has
      ∙ sym (count-rows rs (λ (r : Row). test r.kind) (λ (r : Row). same_system r.owner z))

  many-inports : (z : Option ℕ) → count_that inport_number (own_of z) ≡ count_by (λ b. is_inport (kind_at b)) (rows_of rs z)
  many-inports z = counted inport_number is_inport (λ text c k is. (same-class text c k is).of_inport) z

  many-outports : (z : Option ℕ) → count_that outport_number (own_of z) ≡ count_by (λ b. is_outport (kind_at b)) (rows_of rs z)
  many-outports z = counted outport_number is_outport (λ text c k is. (same-class text c k is).of_outport) z

  -- ---- Outputs

  -- a row that is found is a wire of a system
  abbrev IsRowIn : Option ℕ → Option ℕ → Type 0
  IsRowIn z found = (r : ℕ) × (found ≡ Some r) × IsWireIn rs z r

  -- an Outport inside a subsystem of the system
  outport-wire : (z : Option ℕ) (e : ℕ) (x : Block) → At e x → x.owner ≡ z → (j : ℕ) (w : Block) → At j w → is_in (Some e) w ≡ true →
      is_some (outport_number (kind_of w)) ≡ true → IsWireIn rs z j
  outport-wire z e x at own j w there in_e some =
      let owner = (row-is j w there).owner ∙ same_system-equal w.owner (Some e) in_e in
      (row-below j w there, inr ((class-is j w there).of_outport ∙ some, (e, owner, (row-is e x at).owner ∙ own)))

  outport-found : (z : Option ℕ) (e : ℕ) (x : Block) → At e x → x.owner ≡ z → (port : ℕ) (y : Block) →
      find (is_outport_at port) (own_of (Some e)) ≡ Some y → IsRowIn z (outport_of m.blocks e port)
  outport-found z e x at own port y found =
      let f = find-from (is_outport_at port) (own_of (Some e)) y found in
      let g = filter-from (is_in (Some e)) m.blocks f.0 y f.1 in
      let wire = outport-wire z e x at own g.0 y g.1 g.2 (said-there (outport_number (kind_of y)) port f.2) in
      (y.number, ap (option_map (λ (b : Block). b.number)) found, subst (IsWireIn rs z) (sym (number-is g.0 y g.1)) wire)

  -- the block of an Outport's row is found by its port
  outport-by : (e port j : ℕ) (y : Block) → At j y → (row_at rs j).owner ≡ Some e → is_outport (kind_at j) ≡ true →
      port_of (kind_at j) ≡ port → (w : Block) × (find (is_outport_at port) (own_of (Some e)) ≡ Some w)
  outport-by e port j y at own passing same =
      let class = class-is j y at in
      let in_e : is_in (Some e) y ≡ true = ap (λ w. same_system w (Some e)) (sym (row-is j y at).owner ∙ own) ∙ same-self (Some e) in
      find-there (is_outport_at port) (own_of (Some e)) _ y (filter-place (is_in (Some e)) m.blocks j y at in_e)
      (said-at (outport_number (kind_of y)) (port_of (kind_at j)) port (sym class.of_outport ∙ passing) class.out_port same)

  -- each output of a subsystem has its Outport
  outport-there : (e port : ℕ) → 0 < port → port ≤ (inside_of m.blocks e).outports →
      (w : Block) × (find (is_outport_at port) (own_of (Some e)) ≡ Some w)
  outport-there e port low high =
      let ports = outports defaults section rs is numbered before (Some e) in
      let many : length (by_port rs (Some e) is_outport) ≡ (inside_of m.blocks e).outports =
      length-by_port rs is_outport (Some e) ports ∙ length-filter (λ b. is_outport (kind_at b)) (rows_of rs (Some e))
      ∙ sym (many-outports (Some e)) in
      let p = ported-at rs is_outport (Some e) ports (port - 1) (omega (arith, low, high, many)) in
      let f = zip-at (IsRowOf m) m.blocks rs p.0 no_row is.has p.2.in_table in
      outport-by e port p.0 f.0 f.1 p.2.is_own p.2.passing (let same : suc (port - 1) ≡ port = omega (arith, low) in p.3 ∙ same)

  -- the wire of an output of a block
  output-wire : (z : Option ℕ) (k : ℕ) (x : Block) → At k x → x.owner ≡ z → (n : ℕ) → 0 < n → n ≤ output_count (member x).shape →
      IsRowIn z (output_row m.blocks x (system_in (kind_of x)) n)
  output-wire z k x at own n low high = by (system_in (kind_of x)) (outputs-is k x at)
    where
      by : (o : Option SectionTree) → HasOutputs (inside x) (kind_of x) (kind_at k) o → IsRowIn z (output_row m.blocks x o n)
      by None has =
          let wire : IsWireIn rs z k = (row-below k x at, inl ((row-is k x at).owner ∙ own, has (omega (arith, low, high)))) in
          (x.number, refl, subst (IsWireIn rs z) (sym (number-is k x at)) wire)
      by (Some system) has =
          let found = outport-there x.number n low (omega (arith, high, has.0)) in
          outport-found z x.number x (at-number k x at) own n found.0 found.1

  -- the wire of a source
  source-wire : (z : Option ℕ) (s : Source) → IsOutput (members_of m.blocks z) s → IsRowIn z (source_row m.blocks z s)
  source-wire z s out =
      let f = map-from (member_of m.blocks) (own_of z) s.member out.0 out.1 in
      let x = f.0 in
      let g = filter-from (is_in z) m.blocks s.member x f.1 in
      let high = subst (λ (mem : Member). s.output ≤ output_count mem.shape) (sym f.2) out.3 in
      let wire = output-wire z g.0 x g.1 (same_system-equal x.owner z g.2) s.output out.2 high in
      (wire.0, ap (option_and_then (λ (b : Block). output_row m.blocks b (system_in (kind_of b)) s.output)) f.1 ∙ wire.1, wire.2)

  -- the wires of some sources
  source-wires : (z : Option ℕ) (sources : List Source) → AllByRecursion (IsOutput (members_of m.blocks z)) sources →
      (length (source_rows m.blocks z sources) ≡ length sources) × AllByRecursion (IsWireIn rs z) (source_rows m.blocks z sources)
  source-wires z sources all =
      all-found (source_row m.blocks z) (IsWireIn rs z) sources
      (all-mapped (IsOutput (members_of m.blocks z)) (λ s. IsRowIn z (source_row m.blocks z s)) (source-wire z) sources all)

  all-sources : (b : Block) → AllByRecursion (IsOutput (members_of m.blocks b.owner)) (block_sources m b)
  all-sources b = sources-there (members_of m.blocks b.owner) (items_of m b.owner) (place_of m.blocks b) (member b)

  -- ---- Inports

  -- the port of an Inport inside a subsystem is that of an input
  port-below : (k : ℕ) (b : Block) → At k b → (e : ℕ) → b.owner ≡ Some e → (port : ℕ) → kind_at k ≡ row.Inport port →
      (0 < port) × (port ≤ (inside_of m.blocks e).inports)
  port-below k b at e own port kind =
      let ports = inports defaults section rs is numbered before (Some e) in
      let range = ports.in_range k (row-below k b at) ((row-is k b at).owner ∙ own) (ap is_inport kind) in
      let same : port_of (kind_at k) ≡ port = ap port_of kind in
      (subst (λ n. 0 < n) same range.0, omega (arith, range.1, same, many-inports (Some e)))

  inputs-there : (e : ℕ) (c : Block) → At e c → is_system c ≡ true → (inside_of m.blocks e).inports ≤ port_count (member c).shape
  inputs-there e c at some =
      subst (λ n. (inside_of m.blocks n).inports ≤ port_count (member c).shape) (number-is e c at)
      (by (system_in (kind_of c)) some (outputs-is e c at))
    where
      by : (o : Option SectionTree) → is_some o ≡ true → HasOutputs (inside c) (kind_of c) (kind_at e) o →
          (inside c).inports ≤ port_count (member c).shape
      by None some has = absurd (true≢false (sym some))
      by (Some system) some has = has.1

  -- what a source of a subsystem leads into its Inport
  enters-by : (e : ℕ) (c : Block) → At e c → (port : ℕ) (s : Source) → slice_get (block_sources m c) (port - 1) ≡ Some s →
      (r : ℕ) → source_row m.blocks c.owner s ≡ Some r → IsWireIn rs c.owner r →
      HasWires rs (row.Inport port) (Some e) (entering m port (Some e))
  enters-by e c at port s got r found wire =
      let entered : entering m port (Some e) ≡ r ∷ [] =
      ap (λ o. option_to_list (option_and_then (entering_row m port) o)) at
      ∙ ap option_to_list (ap (option_and_then (source_row m.blocks c.owner)) got ∙ found) in
      let read : IsWireIn rs (row_at rs e).owner r = subst (λ w. IsWireIn rs w r) (sym (row-is e c at).owner) wire in
      subst (HasWires rs (row.Inport port) (Some e)) (sym entered) (refl, (read, tt))

  -- what enters an Inport
  enters : (k : ℕ) (b : Block) → At k b → (port : ℕ) → kind_of b ≡ inport port → (z : Option ℕ) → b.owner ≡ z →
      HasWires rs (row.Inport port) z (entering m port z)
  enters k b at port kind None own = (refl, tt)
  enters k b at port kind (Some e) own =
      let f = inner-there k b e at own in
      let c = f.0 in
      let here : kind_at k ≡ row.Inport port = subst (λ text. IsKind text (control b) (kind_at k)) kind (row-is k b at).kind in
      let range = port-below k b at e own port here in
      let below : port - 1 < length (block_sources m c) =
      omega (arith, range.0, range.1, inputs-there e c f.1 f.2, many-sources e c f.1) in
      let got = get-there (block_sources m c) (port - 1) below in
      let output = all-at (IsOutput (members_of m.blocks c.owner)) (block_sources m c) (port - 1) got.0 (all-sources c) got.1 in
      let wire = source-wire c.owner got.0 output in
      enters-by e c f.1 port got.0 got.1 wire.0 wire.1 wire.2

  -- ---- Rows

  -- what controls a subsystem
  controls : (k : ℕ) (b : Block) → At k b → (system : SectionTree) → kind_of b ≡ subsystem system →
      HasWires rs (row.SubSystem (control b)) b.owner (controlling m b)
  controls k b at system kind =
      let inports = (inside b).inports in
      let sources = block_sources m b in
      let outputs = all-drop (IsOutput (members_of m.blocks b.owner)) inports sources (all-sources b) in
      let wires = source-wires b.owner (drop inports sources) outputs in
      let many : length sources ≡ inports + one_if (inside b).enable + one_if (inside b).trigger =
      many-sources k b at ∙ ap (λ text. port_count (shape_of (inside b) text)) kind in
      let left : length sources - inports ≡ one_if (inside b).enable + one_if (inside b).trigger = omega (arith, many) in
      let own = own_of (Some b.number) in
      let counted = control-count (first_that states_reset own) (first_that edge_waited own) b.owner in
      (wires.0 ∙ length-drop inports sources ∙ left ∙ counted, wires.1)

  -- the wires of a row
  row-wired : (k : ℕ) → k < length rs → HasWires rs (kind_at k) (row_at rs k).owner (row_at rs k).inputs
  row-wired k h =
      let f = zip-at (IsRowOf m) m.blocks rs k no_row is.has h in
      let b = f.0 in
      let wires = source-wires b.owner (block_sources m b) (all-sources b) in
      let of_block : HasWires rs (kind_at k) b.owner (row_wires m b) =
      wires-by-kind rs m b (inside b) (kind_of b) (control b) (kind_at k) f.2.kind
      (λ port kind. enters k b f.1 port kind b.owner refl) (controls k b f.1) (wires.0 ∙ many-sources k b f.1) wires.1 in
      subst (λ o. HasWires rs (kind_at k) o (row_at rs k).inputs) (sym f.2.owner)
      (subst (HasWires rs (kind_at k) b.owner) (sym f.2.inputs) of_block)

  pub wired : IsWired rs
  wired = record { counts = λ k h. (row-wired k h).0; wires = λ k h. (row-wired k h).1 }

-- the rows of a tree that isn't refused are wired, where blocks are numbered and nested and each input has a source
pub tree_is_wired : OutlinesAreNumbered → OwnersAreBefore → EachInputHasOneSource → TreeIsWired
tree_is_wired numbered before one file table none is =
    let own = has-model file none in
    wired (defaults_of own.model) own.model.system table.rows (fine file table own none is) numbered before one
