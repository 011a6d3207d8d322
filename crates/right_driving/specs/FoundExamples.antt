-- The way to the one subsystem of a model, and the instances of a program for it: the root's, that
-- of `top` in the root's third field, and that of the subsystem in the second field of `top`.
use Rattle.std.specs.Prelude.{◌≡◌, refl, [], ◌∷◌, Some, None, codes}
use Rattle.std.specs.Fmt.{digits}
use Rattle.c_interpreter.specs.Instances.{whole_instance, instances, instance_at}
use Rattle.right_claim.specs.WholeSamples.{later_five, whole_program}
use Rattle.right_driving.specs.Found.{system_instance, way_to, instance_behind}

inner_way : way_to later_five.rows (Some 0) ≡ codes "top" ∷ codes "s0" ∷ []
unfolding digits
inner_way = refl

all_instances : instances whole_program
    ≡ whole_instance 2 ∷ record { path = 2 ∷ []; struct = 1 }
    ∷ record { path = 2 ∷ 1 ∷ []; struct = 0 } ∷ []
unfolding digits
all_instances = refl

inner_behind : instance_behind whole_program (instance_at whole_program 0)
    (codes "top" ∷ codes "s0" ∷ [])
    ≡ Some (record { path = 2 ∷ 1 ∷ []; struct = 0 })
unfolding digits
inner_behind = refl

top_instance : system_instance whole_program later_five.rows None
    ≡ record { path = 2 ∷ []; struct = 1 }
unfolding digits
top_instance = refl

inner_instance : system_instance whole_program later_five.rows (Some 0)
    ≡ record { path = 2 ∷ 1 ∷ []; struct = 0 }
unfolding digits
inner_instance = refl
