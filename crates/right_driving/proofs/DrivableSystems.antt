-- The instance of a system of right code has all that a driver of the system needs.
use Rattle.std.specs.Prelude.{◌≡◌, ℕ, true, ◌^◌, ◌<◌, ◌≤◌, List, [], ◌∷◌, length, Contains, refl}
use Rattle.std.specs.List.{range_with_len}
use Rattle.std.proofs.Common.{sym, ap, subst, arith, true≢false}
use Rattle.std.proofs.lemmas.List.Elements.{Contains-append_left, Contains-append_right}
use Rattle.diagram_blocks.specs.declared.Kind.{Kind}
use Rattle.diagram_blocks.specs.declared.Kind.TheVariants.{Outport}
use Rattle.diagram_blocks.specs.Meaning.{has_value}
use Rattle.diagram_meaning.specs.Diagram.{Diagram, type_at}
use Rattle.diagram_meaning.specs.ResolvedLaws.{CyclesHaveTicks, ResolvedCyclesAreShort}
use Rattle.diagram_meaning.specs.Rows.{row_at, outports_of}
use Rattle.diagram_blocks.specs.Kinds.{is_inport, is_outport}
use Rattle.diagram_meaning.specs.WellFormed.{HasPorts, IsWired}
use Rattle.modules_profile.specs.Headers.{taken, header_functions}
use Rattle.modules_profile.specs.NodeFacts.{HeaderIsOfOwnRows, ProfilesAreOne}
use Rattle.modules_profile.specs.SystemHeader.{SystemHeader}
use Rattle.modules_profile.specs.Systems.{systems}
use Rattle.modules_profile.proofs.lemmas.Members.{in-first, in-map, in-range}
use Rattle.modules_profile.proofs.lemmas.PortRows.{in-rows, of-ports}
use Rattle.c_syntax.specs.Lawful.{IsLawful}
use Rattle.emit_shape.specs.Heads.{Head, out_head, out_heads, update_head, start_head, reset_head, public_heads, input_params, now_param}
use Rattle.emit_shape.specs.Names.{container, value_name, function_name, named_update}
use Rattle.emit_shape.specs.ProgramShape.{HasSystemShape}
use Rattle.emit_shape.specs.Programs.{struct_place}
use Rattle.tool_driver.specs.Drivable.{HasProcedure, HasNumberField}
use Rattle.tool_driver.specs.Driven.{Driven, functions_of, shape_of}
use Rattle.tool_driver.specs.Shapes.{inputs_of, function_inputs}
use Rattle.right_driving.specs.DrivenSystems.{RightCodeIsDrivable}
use Rattle.right_driving.specs.Found.{system_instance}
use Rattle.right_driving.proofs.Lists.{member-holds, all-mapped}
use Rattle.right_driving.proofs.NamedFields.{number-field}
use Rattle.right_driving.proofs.ShapeLimits.{within-limits}
use Rattle.right_driving.proofs.SystemHeads.{HasHead, header_for, has-head}
use Rattle.right_driving.proofs.SystemSlots.{value-declared}
use Rattle.right_driving.proofs.WideParams.{update-wide, function-wide}

outport-value : (kind : Kind) → is_outport kind ≡ true → has_value kind ≡ true
outport-value (Outport port reset initial) is = refl
outport-value _ is = absurd (true≢false (sym is))

module _ (headers : HeaderIsOfOwnRows) (profiles : ProfilesAreOne) (w : Driven) (lawful : IsLawful w.program)
    (wired : IsWired w.diagram.rows) where
  abbrev header : SystemHeader
  header = header_for w.diagram w.system w.needs

  abbrev structure : ℕ
  structure = struct_place w.program w.system

  shape-there : HasSystemShape w.program w.diagram w.delays w.system
  shape-there = member-holds (HasSystemShape w.program w.diagram w.delays) (systems w.diagram.rows) w.system
      w.code.shape.each w.in_diagram

  head-there : (head : Head) → Contains (public_heads header) head → HasHead w.program structure head
  head-there = has-head headers profiles w.program w.diagram w.delays w.system w.needs w.are_needs lawful shape-there

  -- the heads after those of the functions
  abbrev others : List Head
  others = update_head header ∷ start_head header ∷ reset_head header ∷ []

  pub function-there : (j : ℕ) → 0 < j → j ≤ length (functions_of w) →
      HasProcedure w.program structure (function_name (shape_of w).name j) (function_inputs (shape_of w) j)
  function-there j least most =
      let listed = in-map (out_head header) (range_with_len 1 (length (header_functions header))) j
      (in-range 1 (length (header_functions header)) j (omega (arith, least)) (omega (arith, most))) in
      let h = head-there (out_head header j) (Contains-append_left (out_heads header) others (out_head header j) listed) in
      record {
        position = h.place;
        named = h.named;
        procedure = h.procedure;
        there = h.there;
        of_is = h.of_is;
        tick = now_param;
        others = taken header j (input_params header);
        params_are = h.params;
        tick_type = refl;
        wide = function-wide w wired j;
      }

  pub update-there : HasProcedure w.program structure (named_update (shape_of w).name) (inputs_of (shape_of w))
  update-there =
      let h = head-there (update_head header) (Contains-append_right (out_heads header) others (update_head header)
      (in-first (update_head header) (start_head header ∷ reset_head header ∷ []))) in
      record {
        position = h.place;
        named = h.named;
        procedure = h.procedure;
        there = h.there;
        of_is = h.of_is;
        tick = now_param;
        others = input_params header;
        params_are = h.params;
        tick_type = refl;
        wide = update-wide w wired;
      }

  pub output-there : (o : ℕ) → Contains (outports_of w.diagram.rows w.system) o → HasNumberField w.program structure (value_name o)
  output-there o has =
      let own = of-ports w.diagram.rows w.system is_outport o has in
      number-field w.program structure lawful (value_name o) (container (type_at w.diagram.types o))
      (value-declared w.program w.diagram w.delays w.system shape-there o (in-rows w.diagram.rows w.system o own.0 own.1)
      (outport-value (row_at w.diagram.rows o).kind own.2))

pub right_code_is_drivable : ProfilesAreOne → HeaderIsOfOwnRows → ResolvedCyclesAreShort → CyclesHaveTicks → RightCodeIsDrivable
right_code_is_drivable profiles headers short ticks w r number of_model lawful found =
    let rows : w.diagram.rows ≡ r.table.rows = sym (ap (λ (d : Diagram). d.rows) of_model.diagram) in
    let wired = subst IsWired (sym rows) of_model.formed.wired in
    let inports = subst (λ rs. HasPorts rs is_inport w.system) (sym rows) (of_model.formed.inports w.system) in
    let outports = subst (λ rs. HasPorts rs is_outport w.system) (sym rows) (of_model.formed.outports w.system) in
    let some = subst (λ n. 0 < n) of_model.hyper (ticks r.table r.types r.ops r.times of_model.resolved) in
    let few = subst (λ n. n ≤ 2 ^ 30) of_model.hyper (short r.table r.types r.ops r.times of_model.resolved) in
    record {
      shape = within-limits w inports outports some few;
      instance_is = system_instance w.program w.diagram.rows w.system;
      there = found;
      functions = function-there headers profiles w lawful wired;
      update = update-there headers profiles w lawful wired;
      outputs = all-mapped (HasNumberField w.program (struct_place w.program w.system)) value_name (outports_of w.diagram.rows w.system)
          (output-there headers profiles w lawful wired);
    }
