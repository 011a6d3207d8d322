-- The functions of a system are no more than its outputs, and their names are those of its code.
use Rattle.std.specs.Prelude.{◌≡◌, ℕ, ◌≤◌, map, length, slice_get, Option, Some}
use Rattle.std.specs.List.{range_with_len}
use Rattle.std.proofs.Common.{sym, ap, ◌∙◌, arith}
use Rattle.base_core.specs.Interface.{different}
use Rattle.diagram_meaning.specs.Needs.{TrueNeeds, IsMaskOf}
use Rattle.diagram_meaning.specs.Rows.{outports_of}
use Rattle.diagram_blocks.specs.Kinds.{is_outport}
use Rattle.modules_profile.specs.Functions.{function_for}
use Rattle.modules_profile.specs.Headers.{header_functions}
use Rattle.modules_profile.proofs.lemmas.LawfulSteps.{short-different}
use Rattle.emit_shape.specs.Heads.{Head, out_head, out_heads}
use Rattle.emit_shape.specs.Assembled.{numbered_name, out_names}
use Rattle.right_linking.specs.Parts.{Parts, diagram, all_systems, coded_header, Views}
use Rattle.right_linking.proofs.lemmas.AssembledPlaces.{mapped-length}
use Rattle.right_linking.proofs.lemmas.AssembledChildren.{numbered-is, prefix-is}
use Rattle.right_program_interfaces.proofs.Lists.{map-same, map-map, zip-long}
use Rattle.right_program_interfaces.proofs.PortedRows.{few-ports}

module _ (a : Parts) (v : Views a) (place : ℕ) (s : Option ℕ) (stands : slice_get (all_systems a) place ≡ Some s) where
  pub few-functions : length (header_functions (coded_header (v.at s))) ≤ 32
  few-functions =
      let profile = (v.each place s stands).profile in
      let outs = few-ports (diagram a).rows s is_outport (a.can.resolved.tree.table.outports s) in
      let long = zip-long (λ o mask. IsMaskOf (TrueNeeds (diagram a) s o) mask) (outports_of (diagram a).rows s) profile.needs
      profile.are_needs in
      let few = short-different profile.needs in
      let made = ap length profile.functions ∙ mapped-length (function_for profile.needs) (different profile.needs) in
      omega (arith, outs, long, few, made)

  pub out-names-are : out_names (v.at s).code ≡ map (λ (h : Head). h.name) (out_heads (coded_header (v.at s)))
  out-names-are =
      let header = coded_header (v.at s) in
      let ks = range_with_len 1 (length (header_functions header)) in
      ap (λ n. map (numbered_name (v.at s).code) (range_with_len 1 n)) (prefix-is a v place s stands few-functions)
      ∙ map-same (numbered_name (v.at s).code) (λ j. (out_head header j).name) ks (λ j has. numbered-is a v place s stands j)
      ∙ sym (map-map (λ (h : Head). h.name) (out_head header) ks)
