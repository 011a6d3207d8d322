-- The schedule of nodes of which one is shared by two functions.
use Rattle.std.specs.Prelude.{◌≡◌, refl, [], ◌∷◌}
use Rattle.modules_schedule.specs.Scheduling.{schedule_for}

-- nodes 0 and 2 belong to function 1, node 1 to function 2, node 4 to both, and node 3 to none
shared_node : schedule_for (0 ∷ 1 ∷ 4 ∷ 2 ∷ 3 ∷ [])
    (record { of = 1 ∷ 2 ∷ 1 ∷ 3 ∷ 0 ∷ []; holds = 3 ∷ 1 ∷ 2 ∷ 0 ∷ [] }) 2
    ≡ record {
      groups = (4 ∷ []) ∷ (0 ∷ 2 ∷ []) ∷ (1 ∷ []) ∷ [] ∷ [];
      functions = (0 ∷ 1 ∷ []) ∷ (0 ∷ 2 ∷ []) ∷ [];
      update = 3 ∷ [];
    }
shared_node = refl

-- In1, In2, a subsystem row, a Sum, Out1, Out2 and the call of a child: both functions hold In1 and
-- the call
shared_child : schedule_for (0 ∷ 1 ∷ 2 ∷ 6 ∷ 3 ∷ 4 ∷ 5 ∷ [])
    (record { of = 0 ∷ 1 ∷ 3 ∷ 1 ∷ 2 ∷ 1 ∷ 0 ∷ []; holds = 3 ∷ 2 ∷ 1 ∷ 0 ∷ [] }) 2
    ≡ record {
      groups = (0 ∷ 6 ∷ []) ∷ (1 ∷ 3 ∷ 5 ∷ []) ∷ (4 ∷ []) ∷ [] ∷ [];
      functions = (0 ∷ 2 ∷ []) ∷ (0 ∷ 1 ∷ []) ∷ [];
      update = 2 ∷ [];
    }
shared_child = refl
