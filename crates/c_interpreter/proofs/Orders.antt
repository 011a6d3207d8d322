-- Comparisons by the order of two numbers.
use Rattle.std.proofs.Common.{◌≡◌, ℤ, pos, ◌&&◌, ◌||◌, arith}
use Rattle.std.specs.Prelude.{int_lt}
use Rattle.std.specs.Ordering.{int_eq}
use Rattle.std.proofs.lemmas.Int.{ints}
use Rattle.base_core.specs.declared.base.Compare.{Compare}
use Rattle.base_core.specs.declared.base.Compare.TheVariants.{Eq, Ne, Lt, Le, Ge, Gt}
use Rattle.c_semantics.specs.Values.{compares}

pub by_order : (how : Compare) (x y : ℤ) →
    ((int_lt x y && compares how (pos 0) (pos 1)) || (int_eq x y && compares how (pos 0) (pos 0)))
    || (int_lt y x && compares how (pos 1) (pos 0)) ≡ compares how x y
by_order Eq x y = grind (arith, ints)
by_order Ne x y = grind (arith, ints)
by_order Lt x y = grind (arith, ints)
by_order Le x y = grind (arith, ints)
by_order Ge x y = grind (arith, ints)
by_order Gt x y = grind (arith, ints)
