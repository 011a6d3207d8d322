-- Sixteen parts at most, joined two by two in four rounds: no part is deeper than four joints.
use Rattle.std.specs.Prelude.{List, [], ◌∷◌}

-- each two neighbours joined; the last one stays as it is where it has none
abbrev pub pairs : {E : Type 0} → (E → E → E) → List E → List E
pairs join [] = []
pairs join (a ∷ []) = a ∷ []
pairs join (a ∷ b ∷ es) = join a b ∷ pairs join es

-- the first of a list, and this one where there is none
abbrev pub first_or : {E : Type 0} → E → List E → E
first_or none [] = none
first_or none (e ∷ es) = e

-- the parts after four rounds, in which sixteen become one
abbrev pub rounds : {E : Type 0} → (E → E → E) → List E → List E
rounds join es = pairs join (pairs join (pairs join (pairs join es)))

-- all parts joined; `none` where there are none
abbrev pub balanced : {E : Type 0} → (E → E → E) → E → List E → E
balanced join none es = first_or none (rounds join es)
