-- The program of a root and its shared child, put together from their codes, and its rows.
use Rattle.std.specs.Prelude.{◌≡◌, refl, [], ◌∷◌, map, pos}
use Rattle.std.specs.Fmt.{digits}
use Rattle.modules_profile.specs.LocalSamples.{outer_local}
use Rattle.c_syntax.specs.Tree.{ProgramTree}
use Rattle.c_semantics.specs.Rows.{c_rows, interface_calls}
use Rattle.emit_shape.specs.Assembled.{assembled, public_positions, first_procedure}
use Rattle.emit_shape.specs.TinySamples.{child_code, outer_code}

abbrev shared_program : ProgramTree
shared_program = assembled (outer_code ∷ child_code ∷ []) outer_local 1 []

-- the child's procedures are first, and its function, update, start and reset are the second to
-- the fifth
child_first : first_procedure (outer_code ∷ child_code ∷ []) 0 ≡ 5
child_first = refl

child_offers : public_positions (outer_code ∷ child_code ∷ []) 1 ≡ 1 ∷ 2 ∷ 3 ∷ 4 ∷ []
unfolding digits
child_offers = refl

-- over 1 10 and 2 20 it gives 1 11 and 2 22
rows : map (λ row. row.outputs)
    (c_rows shared_program ((pos 1 ∷ pos 10 ∷ []) ∷ (pos 2 ∷ pos 20 ∷ []) ∷ [])).ticks
    ≡ (pos 1 ∷ pos 11 ∷ []) ∷ (pos 2 ∷ pos 22 ∷ []) ∷ []
unfolding digits
rows = refl

-- the child's function is called once in each tick though both functions of the root hold its call
calls : map (λ row. interface_calls row)
    (c_rows shared_program ((pos 1 ∷ pos 10 ∷ []) ∷ (pos 2 ∷ pos 20 ∷ []) ∷ [])).ticks ≡ 5 ∷ 5 ∷ []
unfolding digits
calls = refl
