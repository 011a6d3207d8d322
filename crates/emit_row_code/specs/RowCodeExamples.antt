-- Expressions of rows over a few numbers, by the eight functions; the last number of each line
-- counts their calls.
use Rattle.std.specs.Prelude.{◌≡◌, refl, ℕ, true, false, List, [], ◌∷◌, map, length, ℤ, pos, neg_ℤ}
use Rattle.std.specs.List.{range_with_len}
use Rattle.std.proofs.Common.{lit≤}
use Rattle.base_core.specs.declared.Compare.TheVariants.{Lt}
use Rattle.base_fixed_point.specs.declared.FixType.{FixType}
use Rattle.base_fixed_point.specs.declared.Round.TheVariants.{Floor, Nearest, Zero, Convergent}
use Rattle.base_fixed_point.specs.declared.Over.{Over}
use Rattle.base_fixed_point.specs.declared.Over.TheVariants.{Saturate, Wrap}
use Rattle.base_fixed_point.specs.Types.{uint8, uint16, int16, int32}
use Rattle.diagram_blocks.specs.declared.How.{How}
use Rattle.diagram_blocks.specs.declared.Logic.TheVariants.{Xor, Nand}
use Rattle.diagram_blocks.specs.declared.Criterion.TheVariants.{Ge, Gt, NotZero}
use Rattle.diagram_blocks.specs.declared.Op.{Op}
use Rattle.diagram_blocks.specs.declared.Op.TheVariants.{Delay, Line, Gain, Sum, Product, Switch, Relational, Logic, Convert}
use Rattle.c_syntax.specs.declared.Leaf.TheVariants.{Param, Own}
use Rattle.c_syntax.specs.Tree.{read}
use Rattle.c_semantics.specs.Cells.{Cells, no_cells, more_cells, number}
use Rattle.c_semantics.specs.Values.{gives, eval, reads, functions_of}
use Rattle.emit_prelude.specs.Bodies.{function_trees}
use Rattle.emit_row_code.specs.RowCode.{rhs_code}

-- 11 is remembered, in one field
abbrev memory : Cells
memory = more_cells (number (pos 11)) no_cells

-- over these inputs, as the parameters of a procedure, the expression gives a number in so many
-- calls
abbrev GivesFrom : List FixType → Op → List ℤ → ℤ → ℕ → Type 0
GivesFrom types op vs v calls =
    eval (functions_of [] function_trees) (reads vs memory) 0
    (rhs_code op (map Param (range_with_len 0 (length vs))) types (read (Own 0))) 0 ≡ gives v calls

abbrev Gives : Op → List ℤ → ℤ → ℕ → Type 0
Gives op vs v calls = GivesFrom [] op vs v calls

-- 8 bits with a sign and one bit after the point
abbrev halves8 : FixType
halves8 = record { signed = true; bits = 8; frac = 1; in_profile = (lit≤ tt, lit≤ tt, lit≤ tt) }

-- -3/32 of 100 is -9.375, that is -18.75 halves
gain : Gives (Gain (neg_ℤ (pos 3)) 5 halves8 (record { round = Nearest; over = Wrap }))
    (pos 100 ∷ []) (neg_ℤ (pos 19)) 2
gain = refl

-- 5 - 7/4 + 9/2 is 15.5 halves
sum : Gives (Sum 3 2 (0 ∷ 2 ∷ 1 ∷ []) halves8 (record { round = Floor; over = Saturate }))
    (pos 5 ∷ pos 7 ∷ pos 9 ∷ []) (pos 15) 2
sum = refl

-- without bits to round, beyond the type
sum_above : Gives (Sum 2 0 (0 ∷ 0 ∷ []) uint8 (record { round = Floor; over = Wrap }))
    (pos 200 ∷ pos 100 ∷ []) (pos 44) 1
sum_above = refl

-- 1 - 2 + 3 - 4 + 5
five_terms : Gives (Sum 5 10 (0 ∷ 0 ∷ 0 ∷ 0 ∷ 0 ∷ []) uint8 (record { round = Floor; over = Wrap }))
    (pos 1 ∷ pos 2 ∷ pos 3 ∷ pos 4 ∷ pos 5 ∷ []) (pos 3) 1
five_terms = refl

-- -54/8 is -13.5 halves, halfway between two
product : Gives (Product 2 3 halves8 (record { round = Convergent; over = Saturate }))
    (pos 9 ∷ neg_ℤ (pos 6) ∷ []) (neg_ℤ (pos 14)) 2
product = refl

-- 140 halves are beyond the type
first_passes : Gives
    (Switch Gt (pos 4) (0 ∷ 2 ∷ []) halves8 (record { round = Zero; over = Saturate }))
    (pos 70 ∷ pos 5 ∷ pos 9 ∷ []) (pos 127) 1
first_passes = refl

-- -9/4 is -4.5 halves
third_passes : Gives
    (Switch NotZero (pos 0) (0 ∷ 2 ∷ []) halves8 (record { round = Zero; over = Saturate }))
    (pos 70 ∷ pos 0 ∷ neg_ℤ (pos 9) ∷ []) (neg_ℤ (pos 4)) 2
third_passes = refl

-- 3/2 isn't below 11/8
less : Gives (Relational Lt (1 ∷ 3 ∷ [])) (pos 3 ∷ pos 11 ∷ []) (pos 0) 0
less = refl

two_true : Gives (Logic Xor 3) (pos 1 ∷ pos 0 ∷ neg_ℤ (pos 5) ∷ []) (pos 0) 0
two_true = refl

three_true : Gives (Logic Xor 4) (pos 1 ∷ pos 7 ∷ pos 0 ∷ pos 2 ∷ []) (pos 1) 0
three_true = refl

not_both : Gives (Logic Nand 2) (pos 1 ∷ pos 0 ∷ []) (pos 1) 0
not_both = refl

-- 200 halves are -56 halves modulo 256
finer : Gives (Convert 0 halves8 (record { round = Floor; over = Wrap })) (pos 100 ∷ [])
    (neg_ℤ (pos 56)) 1
finer = refl

-- 16 bits with a sign and 2 bits after the point hold each uint8 and no greater number
abbrev quarters16 : FixType
quarters16 = record { signed = true; bits = 16; frac = 2; in_profile = (lit≤ tt, lit≤ tt, lit≤ tt) }

held_whole : GivesFrom (uint8 ∷ []) (Convert 0 quarters16 (record { round = Floor; over = Wrap }))
    (pos 255 ∷ []) (pos 1020) 0
held_whole = refl

not_held : GivesFrom (int16 ∷ []) (Convert 0 quarters16 (record { round = Floor; over = Wrap }))
    (pos 8192 ∷ []) (neg_ℤ (pos 32768)) 1
not_held = refl

-- a sign needs a sign
signed_into_unsigned : GivesFrom (halves8 ∷ []) (Convert 1 (record
    { signed = false; bits = 32; frac = 1; in_profile = (lit≤ tt, lit≤ tt, lit≤ tt) })
    (record { round = Floor; over = Saturate }))
    (neg_ℤ (pos 1) ∷ []) (pos 0) 1
signed_into_unsigned = refl

-- ---- Results that the type holds

abbrev floor : Over → How
floor mode = record { round = Floor; over = mode }

-- -3 times an int16 is an int32
gain_held : GivesFrom (int16 ∷ []) (Gain (neg_ℤ (pos 3)) 0 int32 (floor Wrap)) (pos 32767 ∷ [])
    (neg_ℤ (pos 98301)) 0
gain_held = refl

-- about a tenth of an int32 is one, and is rounded
gain_rounded : GivesFrom (int32 ∷ []) (Gain (pos 214748365) 31 int32 (floor Wrap))
    (pos 2147483647 ∷ []) (pos 214748364) 1
gain_rounded = refl

-- a difference of two uint8 is an int16, and no uint16
sum_held : GivesFrom (uint8 ∷ uint8 ∷ []) (Sum 2 2 (0 ∷ 0 ∷ []) int16 (floor Wrap))
    (pos 3 ∷ pos 255 ∷ []) (neg_ℤ (pos 252)) 0
sum_held = refl

sum_below : GivesFrom (uint8 ∷ uint8 ∷ []) (Sum 2 2 (0 ∷ 0 ∷ []) uint16 (floor Saturate))
    (pos 3 ∷ pos 255 ∷ []) (pos 0) 1
sum_below = refl

-- of an input whose type isn't known nothing is
half_known : GivesFrom (uint8 ∷ []) (Sum 2 0 (0 ∷ 0 ∷ []) int16 (floor Wrap)) (pos 3 ∷ pos 255 ∷ [])
    (pos 258) 1
half_known = refl

product_held : GivesFrom (uint8 ∷ uint8 ∷ []) (Product 2 0 uint16 (floor Wrap))
    (pos 255 ∷ pos 255 ∷ []) (pos 65025) 0
product_held = refl

-- 2^30 is beyond an int16
product_above : GivesFrom (int16 ∷ int16 ∷ [])
    (Product 2 0 int16 (floor Saturate)) (neg_ℤ (pos 32768) ∷ neg_ℤ (pos 32768) ∷ []) (pos 32767) 1
product_above = refl

-- ---- Switches that ask nothing

at_least_0 : rhs_code (Switch Ge (pos 0) (0 ∷ 0 ∷ []) uint8 (floor Wrap))
    (Param 0 ∷ Param 1 ∷ Param 2 ∷ [])
    (uint8 ∷ uint8 ∷ uint8 ∷ []) (read (Own 0)) ≡ read (Param 0)
at_least_0 = refl

above_255 : rhs_code (Switch Gt (pos 255) (0 ∷ 0 ∷ []) uint8 (floor Wrap))
    (Param 0 ∷ Param 1 ∷ Param 2 ∷ [])
    (uint8 ∷ uint8 ∷ uint8 ∷ []) (read (Own 0)) ≡ read (Param 2)
above_255 = refl

above_254 : GivesFrom (uint8 ∷ uint8 ∷ uint8 ∷ [])
    (Switch Gt (pos 254) (0 ∷ 0 ∷ []) uint8 (floor Wrap)) (pos 1 ∷ pos 255 ∷ pos 3 ∷ []) (pos 1) 0
above_254 = refl

-- ---- Memories

held : Gives (Delay (pos 7)) (pos 5 ∷ []) (pos 11) 0
held = refl

oldest : Gives (Line 3 (neg_ℤ (pos 7))) (pos 5 ∷ []) (pos 11) 0
oldest = refl
