-- The code of a child that passes its input on has the shape of a system's code.
use Rattle.std.specs.Prelude.{refl, [], ◌∷◌}
use Rattle.std.specs.Fmt.{digits}
use Rattle.std.proofs.Common.{lit<, lit≤}
use Rattle.modules_profile.specs.LocalSamples.{inner_local, inner_profile}
use Rattle.c_syntax.specs.declared.CType.TheVariants.{U8}
use Rattle.c_syntax.specs.declared.Leaf.TheVariants.{Param}
use Rattle.emit_shape.specs.Names.{counter_name}
use Rattle.emit_shape.specs.LocalShape.{HasLocalShape}
use Rattle.emit_shape.specs.TinySamples.{x1, y1, inner_slots, child_code}

child_has_shape : HasLocalShape inner_local inner_profile (inner_slots x1 y1) child_code
unfolding digits
child_has_shape = record {
  slots_right =
      record {
        counters = record { name = counter_name 0; type = U8 } ∷ [];
        named = (refl, tt);
        all = record { moves = []; below = tt; is = refl };
      };
  structure = refl;
  places = (refl, tt);
  heads = record { moves = []; below = tt; is = refl };
  gives = (refl, tt);
  rules = (
    record {
      private_name = (0, refl);
      params = ((1, lit< tt, refl), tt);
      calls = tt;
      stores = (tt, (((3, lit< tt, refl), tt), (((3, lit< tt, refl), tt), tt)));
      indices = tt;
      tests =
          (((4, lit< tt, refl), tt), tt);
    },
    (
      record { private_name = tt; params = tt; calls = (((Param 1, refl, refl), tt), tt); stores = tt; indices = tt; tests = tt },
      (
        record { private_name = tt; params = tt; calls = tt; stores = (tt, tt); indices = tt; tests = tt },
        (
          record { private_name = tt; params = tt; calls = tt; stores = (tt, (tt, (tt, tt))); indices = tt; tests = tt },
          (record { private_name = tt; params = tt; calls = tt; stores = tt; indices = tt; tests = tt }, tt),
        ),
      ),
    ),
  );
  once = record { values = (lit≤ tt, (lit≤ tt, tt)); functions = tt; updates = tt };
  used = record { called = (lit< tt, (tt, (tt, (tt, (tt, tt))))); read = ((0, lit< tt, refl), tt) };
}
