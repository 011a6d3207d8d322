-- Worked rows.
use Rattle.std.specs.Prelude.{◌≡◌, refl, [], ◌∷◌, Ok, Err, pos, neg_ℤ, codes}
use Rattle.tool_traces.specs.declared.rows.BadWhy.TheVariants.{Count, Form, Range}
use Rattle.tool_plain_rows.specs.PlainRows.{plain_row_of}

pub both_ends : plain_row_of 2 (codes " -2147483648\t4294967295 ")
    ≡ Ok (neg_ℤ (pos 2147483648) ∷ pos 4294967295 ∷ [])
both_ends = refl

pub below : plain_row_of 1 (codes "-2147483649") ≡ Err (Range 1)
below = refl

pub above : plain_row_of 2 (codes "0 4294967296") ≡ Err (Range 2)
above = refl

pub few : plain_row_of 2 (codes "7") ≡ Err (Count 1)
few = refl

pub none : plain_row_of 0 [] ≡ Ok []
none = refl

pub form : plain_row_of 2 (codes "5000000000 x") ≡ Err (Range 1)
form = refl

pub leftmost : plain_row_of 2 (codes "x 5000000000") ≡ Err (Form 1)
leftmost = refl
