-- The pure functions that a program needs: those that its procedures call, and those that functions
-- call which it needs.
use Rattle.std.specs.Prelude.{ℕ, suc, ◌==◌, ◌&&◌, nat_lt, if◌then◌else◌, Bool, List, [], ◌∷◌, ◌++◌, length}
use Rattle.std.specs.List.{list_any}
use Rattle.c_syntax.specs.Tree.{PureTree, ProgramTree}
use Rattle.emit_pruned.specs.Calls.{expr_functions, procedures_functions}

-- whether a number is one of these
abbrev pub has_number : List ℕ → ℕ → Bool
has_number numbers k = list_any (λ j. j == k) numbers

-- after what later code calls, what the function at position n does, if that code calls it
abbrev pub with_calls : List ℕ → ℕ → PureTree → List ℕ
with_calls later n f = later ++ (if has_number later n then expr_functions f.body else [])

-- the functions that are called by later code, which calls these, and by those of the functions
-- from position n on that are called themselves; a function is called by later code alone
abbrev pub needed_from : List ℕ → ℕ → List PureTree → List ℕ
needed_from later n [] = later
needed_from later n (f ∷ fs) = with_calls (needed_from later (suc n) fs) n f

-- the functions that a program needs
abbrev pub needed : ProgramTree → List ℕ
needed p = needed_from (procedures_functions p.procedures) 0 p.pures

-- whether there is a function at a position, and it is needed
abbrev pub is_needed : ProgramTree → ℕ → Bool
is_needed p k = nat_lt k (length p.pures) && has_number (needed p) k
