-- Worked reads.
use Rattle.std.proofs.Common.{arith}
use Rattle.std.specs.Prelude.{◌-◌, ◌^◌, refl, [], ◌∷◌, Some, codes}
use Rattle.base_host.specs.Reading.{RoseBy, source, HasRead, ReadsWhole, OpensNone}

three-more : RoseBy 3 5 8
three-more = refl

none-more : RoseBy 0 5 5
none-more = refl

-- at its greatest value a count stays the same
full : RoseBy 3 (2 ^ 64 - 2) (2 ^ 64 - 1)
full = refl

two-read : HasRead (codes "ab") (source (Some (codes "abc")) 4) (source (Some (codes "c")) 6)
two-read = record { front = refl; count = refl }

none-read : HasRead [] (source (Some (codes "abc")) 4) (source (Some (codes "abc")) 4)
none-read = record { front = refl; count = refl }

none-opened : OpensNone (source (Some (codes "abc")) 4) (source (Some []) 4)
none-opened = record { rest = refl; given = refl }

whole-read : ReadsWhole 2 (Some (record { name = codes "a"; bytes = codes "bc" } ∷ [])) (codes "a")
    (codes "bc") (source (Some (codes "z")) 4) (source (Some []) 6)
whole-read = record { file = refl; end = refl; count = refl; fits = omega arith }
