-- Where code goes, by tables.
use Rattle.std.specs.Prelude.{ℕ, List, map, slice_index, slice_index_or}
use Rattle.emit_shape.specs.Relocation.{Relocation}
use Rattle.emit_linker.specs.declared.links.Links.{Links}

-- the outputs of the child at a field, which past the last field are others
abbrev pub linked_outputs : Links → ℕ → List ℕ
linked_outputs links f = slice_index_or (map (λ x. x.now) links.outputs.items) f links.beyond.now

-- what the tables of a code say, as a relocation
abbrev pub relocation : Links → Relocation
relocation links = record {
  own = links.own;
  first = links.first;
  offered = λ k. slice_index links.offered.items k;
  output = λ f o. slice_index (linked_outputs links f) o;
  of = links.of;
}
