-- The code of a delay of several samples: an array of its items, the place of the oldest one, and
-- how many were taken since the start. Until so many were taken as it has items, the oldest sample
-- is the start, whatever is in its place.
use Rattle.std.specs.Prelude.{ℕ, [], ◌∷◌, ℤ, pos}
use Rattle.base_core.specs.declared.Compare.TheVariants.{Lt}
use Rattle.c_syntax.specs.declared.BinOp.TheVariants.{Add, Rem}
use Rattle.c_syntax.specs.declared.Leaf.{Leaf}
use Rattle.c_syntax.specs.declared.Leaf.TheVariants.{Own}
use Rattle.c_syntax.specs.Tree.{ExprTree, literal, read, binary, pick, item, CondTree, compare, assign, assign_at, StmtTrees, stmts_of_list}
use Rattle.emit_row_code.specs.declared.leaves.RingFields.{RingFields}
use Rattle.emit_row_code.specs.RowCode.{written, nought}

abbrev pub place_read : RingFields → ExprTree
place_read ring = read (Own ring.place)

abbrev pub taken_read : RingFields → ExprTree
taken_read ring = read (Own ring.taken)

-- fewer than n samples were taken
abbrev pub is_filling_code : RingFields → ℕ → CondTree
is_filling_code ring n = compare Lt (taken_read ring) (literal (pos n))

-- the oldest of n samples
abbrev pub oldest_code : RingFields → (n : ℕ) (start : ℤ) → ExprTree
oldest_code ring n start =
    pick (is_filling_code ring n) (written start) (item ring.items (place_read ring))

-- one more was taken, until there are n
abbrev pub next_taken_code : RingFields → ℕ → ExprTree
next_taken_code ring n =
    pick (is_filling_code ring n) (binary Add (taken_read ring) (literal (pos 1))) (taken_read ring)

-- the next of n places, and the first one after the last
abbrev pub next_place_code : RingFields → ℕ → ExprTree
next_place_code ring n =
    binary Rem (binary Add (place_read ring) (literal (pos 1))) (literal (pos n))

-- a sample takes the place of the oldest one; the item first, since its index reads the place
abbrev pub taken_in : RingFields → ℕ → Leaf → StmtTrees
taken_in ring n input =
    stmts_of_list (assign_at 0 ring.items (place_read ring) (read input) ∷ assign 0 ring.taken
    (next_taken_code ring n) ∷ assign 0 ring.place (next_place_code ring n) ∷ [])

-- none was taken; the items stay
abbrev pub emptied : RingFields → StmtTrees
emptied ring = stmts_of_list (assign 0 ring.place nought ∷ assign 0 ring.taken nought ∷ [])
