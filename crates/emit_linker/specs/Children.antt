-- The names of children among fields.
use Rattle.std.specs.Prelude.{ℕ, List, map, filter_map, find, length, Option, option_map}
use Rattle.std.specs.List.{range_with_len}
use denote.Ref.{Bor}
use Rattle.c_syntax.specs.Tree.{FieldTree}
use Rattle.emit_shape.specs.Assembled.{is_child_kind}

-- the name of the first field that is the child at a position
abbrev pub child_at : List FieldTree → ℕ → Option (List ℕ)
child_at fields k =
    option_map (λ (f : FieldTree). f.name) (find (λ f. is_child_kind k f.kind) fields)

-- the same for so many positions
abbrev pub children_at : List FieldTree → ℕ → List (Option (List ℕ))
children_at fields count = map (child_at fields) (range_with_len 0 count)

-- the names of the children of a code with these fields
abbrev pub children_among : List FieldTree → List (List ℕ)
children_among fields = filter_map (child_at fields) (range_with_len 0 (length fields))

-- names that references lead to
abbrev pub told_name : Option (Bor (List ℕ)) → Option (List ℕ)
told_name name = option_map (λ (n : Bor (List ℕ)). n.now) name

abbrev pub told_names : List (Option (Bor (List ℕ))) → List (Option (List ℕ))
told_names names = map told_name names
