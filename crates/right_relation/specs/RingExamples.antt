-- A ring of three items that starts at 7 and takes 1, 2, 3, 4, and one that lies elsewhere and has
-- old items.
use Rattle.std.specs.Prelude.{◌≡◌, refl, List, [], ◌∷◌, ℤ, pos}
use Rattle.diagram_meaning.specs.Run.{moved_on}
use Rattle.right_relation.specs.Rings.{Ring, ring_list, begun_ring, moved_ring}

abbrev noughts : List ℤ
noughts = pos 0 ∷ pos 0 ∷ pos 0 ∷ []

abbrev one_taken : Ring
one_taken = moved_ring 3 (begun_ring noughts) (pos 1)

abbrev four_taken : Ring
four_taken = moved_ring 3 (moved_ring 3 (moved_ring 3 one_taken (pos 2)) (pos 3)) (pos 4)

begun_holds : ring_list 3 (pos 7) (begun_ring noughts) ≡ pos 7 ∷ pos 7 ∷ pos 7 ∷ []
begun_holds = refl

one_holds : ring_list 3 (pos 7) one_taken ≡ pos 7 ∷ pos 7 ∷ pos 1 ∷ []
one_holds = refl

four_hold : ring_list 3 (pos 7) four_taken ≡ pos 2 ∷ pos 3 ∷ pos 4 ∷ []
four_hold = refl

-- the oldest at place 2, one taken, and what is elsewhere is old
abbrev elsewhere : Ring
elsewhere = record { items = pos 40 ∷ pos 5 ∷ pos 60 ∷ []; place = 2; taken = 1 }

elsewhere_holds : ring_list 3 (pos 7) elsewhere ≡ pos 7 ∷ pos 7 ∷ pos 5 ∷ []
elsewhere_holds = refl

elsewhere_moves : ring_list 3 (pos 7) (moved_ring 3 elsewhere (pos 9))
    ≡ moved_on (ring_list 3 (pos 7) elsewhere) (pos 9)
elsewhere_moves = refl
