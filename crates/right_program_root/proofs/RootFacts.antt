-- Where the root's fields are in its struct.
use Rattle.std.specs.Prelude.{◌≡◌, ◌+◌, length, None}
use Rattle.std.specs.List.{range_with_len}
use Rattle.std.proofs.Common.{ap, ◌∙◌}
use Rattle.modules_profile.specs.Systems.{system_name}
use Rattle.c_syntax.specs.RootFields.{field_position, output_fields, root_fields}
use Rattle.emit_shape.specs.Names.{now_name}
use Rattle.emit_shape.specs.Assembled.{struct_position}
use Rattle.right_linking.specs.Parts.{Parts, program_of, Views}
use Rattle.right_linking.specs.Places.{RootHasPlaces}
use Rattle.right_linking.specs.Root.{top_place}
use Rattle.right_program_root.proofs.RootStruct.{fields, count-fields, now-at, top-at, outputs-are}
use Rattle.right_program_root.proofs.TopFacts.{os, out-ports, few-outs}

module _ (root : RootHasPlaces) (a : Parts) (v : Views a) where
  pub root-fields : root_fields (program_of a) ≡ fields (os a v) (struct_position a.codes 0) (out-ports a v) (few-outs a v)
  root-fields = (root a).fields

  pub top-here : top_place (program_of a) ≡ length (os a v) + 1
  top-here =
      ap (λ fs. field_position fs (system_name None)) root-fields
      ∙ top-at (os a v) (struct_position a.codes 0) (out-ports a v) (few-outs a v)

  pub now-here : field_position (root_fields (program_of a)) now_name ≡ 0
  now-here =
      ap (λ fs. field_position fs now_name) root-fields ∙ now-at (os a v) (struct_position a.codes 0) (out-ports a v) (few-outs a v)

  pub outputs-here : output_fields (root_fields (program_of a)) ≡ range_with_len 1 (length (os a v))
  outputs-here = ap output_fields root-fields ∙ outputs-are (os a v) (struct_position a.codes 0) (out-ports a v) (few-outs a v)

  pub long : length (root_fields (program_of a)) ≡ length (os a v) + 2
  long = ap length root-fields ∙ count-fields (os a v) (struct_position a.codes 0) (out-ports a v) (few-outs a v)
