-- What the functions of this crate keep in lists: which pure functions are needed, and where those
-- go that stay.
use Rattle.std.specs.Prelude.{ℕ, Bool, true, false, List, [], ◌∷◌, length, map, replicate, slice_index_or}
use Rattle.std.specs.List.{slice_set}
use Rattle.c_syntax.specs.declared.program.Procedure.{Procedure}
use Rattle.c_syntax.specs.declared.program.Pure.{Pure}
use Rattle.c_syntax.specs.Plain.{pure_tree, procedure_tree}
use Rattle.emit_pruned.specs.declared.places.Places.{Places}
use Rattle.emit_pruned.specs.Calls.{procedures_functions}
use Rattle.emit_pruned.specs.Needed.{needed_from}

-- flags of which those at these positions are set; past the end there is none to set
abbrev pub marked : List Bool → List ℕ → List Bool
marked flags [] = flags
marked flags (k ∷ ks) = marked (slice_set flags k true) ks

-- whether the flag at a position is there, and set
abbrev pub flag_at : List Bool → ℕ → Bool
flag_at flags k = slice_index_or flags k false

-- so many flags, of which those at these positions are set
abbrev pub flags_of : ℕ → List ℕ → List Bool
flags_of count ks = marked (replicate count false) ks

-- which functions are needed
abbrev pub needed_flags : List Pure → List Procedure → List Bool
needed_flags pures procedures =
    flags_of (length pures)
    (needed_from (procedures_functions (map procedure_tree procedures)) 0 (map pure_tree pures))

-- the new position of the function at a position
abbrev pub place_in : Places → ℕ → ℕ
place_in places k = slice_index_or places.before.items k places.kept
