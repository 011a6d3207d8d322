-- Each of the eight pure functions is one of them on any line, and a ninth isn't.
use Rattle.std.specs.Prelude.{refl, ℕ, zero, suc, [], ◌∷◌, slice_index_or, Contains, codes}
use Rattle.std.proofs.Common.{ap, arith, lit<}
use Rattle.c_syntax.specs.Tree.{PureTree}
use Rattle.emit_prelude.specs.Bodies.{argument, clamp_body, function_trees, function_with}
use Rattle.emit_shape.specs.ProgramShape.{AreOfPrelude}
use Rattle.emit_shape.proofs.RefusedShapes.{apart}

on_any_line : AreOfPrelude (record { name = codes "clamp"; params = codes "v" ∷ codes "lo" ∷ codes "hi" ∷ []; body = clamp_body; line = 7 }
    ∷ [])
on_any_line = ((6, lit< tt, refl), tt)

-- a ninth, which gives what it takes
abbrev same : PureTree
same = function_with (codes "same") (codes "v" ∷ []) (argument 0)

abbrev initial : PureTree → ℕ
initial f = slice_index_or f.name 0 0

-- its name begins with another letter
no-ninth : Contains function_trees same → ⊥
no-ninth (zero, below, is) = apart 114 115 refl (ap initial is)
no-ninth (suc zero, below, is) = apart 114 115 refl (ap initial is)
no-ninth (suc (suc zero), below, is) = apart 114 115 refl (ap initial is)
no-ninth (suc (suc (suc zero)), below, is) = apart 114 115 refl (ap initial is)
no-ninth (suc (suc (suc (suc zero))), below, is) = apart 114 115 refl (ap initial is)
no-ninth (suc (suc (suc (suc (suc zero)))), below, is) = apart 114 115 refl (ap initial is)
no-ninth (suc (suc (suc (suc (suc (suc zero))))), below, is) = apart 99 115 refl (ap initial is)
no-ninth (suc (suc (suc (suc (suc (suc (suc zero)))))), below, is) = apart 119 115 refl (ap initial is)
no-ninth (suc (suc (suc (suc (suc (suc (suc (suc k))))))), below, is) = omega arith

ninth : AreOfPrelude (same ∷ []) → ⊥
ninth h = no-ninth h.0
