-- Each output procedure of a system in the program takes the inputs that its function takes.
use Rattle.std.specs.Prelude.{◌≡◌, ℕ, ◌+◌, ◌<◌, ◌≤◌, Bool, List, ◌∷◌, ◌++◌, map, filter, zip, length, slice_get, Contains, Option, Some, bytes_eq}
use Rattle.std.specs.List.{list_any, range_with_len}
use Rattle.std.proofs.Common.{ap, ◌∙◌, arith}
use Rattle.std.proofs.lemmas.List.{length-append}
use Rattle.std.proofs.lemmas.List.FromFn.{length-range_with_len}
use Rattle.base_core.specs.declared.Port.{Port}
use Rattle.base_core.specs.declared.Port.TheVariants.{Number}
use Rattle.base_fixed_point.specs.declared.FixType.{FixType}
use Rattle.diagram_meaning.specs.Diagram.{type_at}
use Rattle.diagram_meaning.specs.Rows.{inports_of, system_control}
use Rattle.diagram_blocks.specs.Kinds.{is_inport}
use Rattle.modules_profile.specs.Headers.{header_of, header_function, ports_of_header}
use Rattle.modules_profile.specs.Locals.{own_header}
use Rattle.modules_profile.specs.NodeFacts.{HeaderIsOfOwnRows}
use Rattle.base_core.specs.Ports.{bit_of, has_bit, control_ports, ports_in, ports_mask}
use Rattle.diagram_meaning.specs.Inputs.{input_ports}
use Rattle.modules_profile.specs.SystemHeader.{SystemHeader}
use Rattle.modules_profile.proofs.lemmas.Members.{in-at}
use Rattle.c_syntax.specs.Tree.{ParamTree}
use Rattle.emit_shape.specs.Faces.{takes}
use Rattle.emit_shape.specs.Heads.{Head, now_param, out_head}
use Rattle.emit_shape.specs.Names.{container, out_name, port_name}
use Rattle.emit_shape.specs.Programs.{procedure_at, procedure_place}
use Rattle.right_linking.specs.Parts.{Parts, program_of, diagram, all_systems, coded_header, Views}
use Rattle.right_linking.specs.Places.{SystemsHavePlaces}
use Rattle.right_linking.proofs.lemmas.AssembledPlaces.{mapped-length}
use Rattle.right_program_interfaces.proofs.FunctionPlaces.{count, out-there}
use Rattle.right_program_interfaces.proofs.Lists.{filter-same}
use Rattle.right_program_interfaces.proofs.NeedMasks.{controls-counted}
use Rattle.right_program_interfaces.proofs.PortedRows.{few-ports}
use Rattle.right_program_interfaces.proofs.PortParams.{Fits, ports-fit, shows-taken}
use Rattle.right_program_interfaces.proofs.StandingCode.{procedure-here}

module _ (places : SystemsHavePlaces) (headers : HeaderIsOfOwnRows) (a : Parts) (v : Views a) (place : ℕ) (s : Option ℕ)
    (stands : slice_get (all_systems a) place ≡ Some s) where
  abbrev pub seen : SystemHeader
  seen = header_of (diagram a) s (v.at s).profile

  pub header-seen : coded_header (v.at s) ≡ seen
  header-seen =
      let known = (v.each place s stands).local in
      ap (λ l. own_header l (v.at s).profile) known.is_local ∙ headers (diagram a) a.model.times.delays s known.headers (v.at s).profile

  abbrev inputs : List ℕ
  inputs = inports_of (diagram a).rows s

  abbrev ports : List Port
  ports = input_ports (diagram a).rows s

  abbrev types : List FixType
  types = seen.inputs ++ seen.controls

  ports-same : ports_of_header seen ≡ ports
  ports-same = ap (λ n. map Number (range_with_len 1 n) ++ control_ports (system_control (diagram a).rows s))
      (mapped-length (type_at (diagram a).types) inputs)

  enough : length ports ≤ length types
  enough =
      let counted = controls-counted (diagram a) a.can.resolved.tree.table.wired s (in-at (all_systems a) place s stands) in
      let typed = mapped-length (type_at (diagram a).types) inputs in
      let numbered = mapped-length Number (range_with_len 1 (length inputs)) in
      let long = length-range_with_len 1 (length inputs) in
      omega (
        arith,
        counted,
        typed,
        numbered,
        long,
        length-append (map Number (range_with_len 1 (length inputs))) (control_ports (system_control (diagram a).rows s)),
        length-append seen.inputs seen.controls,
      )

  fit : (p : Port) → Contains ports p → Fits seen.control p
  fit = ports-fit seen.control (length inputs) (few-ports (diagram a).rows s is_inport (a.can.resolved.tree.table.inports s))

  -- the parameters of function k
  params-are : (k : ℕ) → 1 ≤ k → k < 1 + count places a v place s stands →
      (procedure_at (program_of a) (procedure_place (program_of a) (out_name s k))).params ≡ (out_head seen k).params
  params-are k low high =
      let out = out-there places a v place s stands k low high in
      ap (λ n. (procedure_at (program_of a) n).params) out.found
      ∙ ap (λ q. q.params) (procedure-here places a v place s stands out.number out.own out.at)
      ∙ ap (λ (z : Head). z.params) out.head ∙ ap (λ h. (out_head h k).params) header-seen

  abbrev shown : List ParamTree → Port → Bool
  shown qs i = list_any (λ (q : ParamTree). bytes_eq q.name (port_name (system_control (diagram a).rows s) i)) qs

  -- the parameters of function k, by the system's inputs
  abbrev taken_with : ℕ → List Port → List ParamTree
  taken_with k ps =
      now_param
      ∷ map (λ (e : Port × ParamTree). e.1) (filter (λ (e : Port × ParamTree). has_bit (header_function seen k).inputs (bit_of e.0))
      (zip ps (map (λ (e : Port × FixType). record { name = port_name seen.control e.0; type = container e.1 }) (zip ps types))))

  pub takes-own : (k : ℕ) → 1 ≤ k → k < 1 + count places a v place s stands →
      ports_mask (ports_in (header_function seen k).inputs ports) ≡ (header_function seen k).inputs →
      takes (program_of a) (diagram a) s (procedure_place (program_of a) (out_name s k)) ≡ (header_function seen k).inputs
  takes-own k low high own =
      ap (λ (qs : List ParamTree). ports_mask (filter (shown qs) ports)) (params-are k low high)
      ∙ ap ports_mask (filter-same (shown (out_head seen k).params) (λ i. has_bit (header_function seen k).inputs (bit_of i)) ports taken)
      ∙ own
    where
      taken : (i : Port) → Contains ports i → shown (out_head seen k).params i ≡ has_bit (header_function seen k).inputs (bit_of i)
      taken i has =
          ap (λ ps. shown (taken_with k ps) i) ports-same
          ∙ shows-taken seen.control ports types enough fit (header_function seen k).inputs i has
