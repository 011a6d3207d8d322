-- Nothing in a system's code is idle: what it has of its own beside its public procedures and the
-- fields of its rows is there because its procedures use it.
use Rattle.std.specs.Prelude.{ℕ, ◌<◌, MatchBool, List, flat_map, Contains, ⊤}
use Rattle.std.specs.List.{AllByRecursion}
use Rattle.c_syntax.specs.Tree.{ProcedureTree}
use Rattle.emit_shape.specs.NamedLeaf.{NamedLeaf, own}
use Rattle.emit_shape.specs.CodeNames.{CodeNames, named_leaves}
use Rattle.emit_shape.specs.Reads.{tests_in, cond_leaves}
use Rattle.emit_shape.specs.Once.{call_sites}

-- what the `if` tests of a procedure read
abbrev pub tested_in : CodeNames → ProcedureTree → List NamedLeaf
tested_in n q = flat_map (λ test. named_leaves n q.params (cond_leaves test)) (tests_in q.body)

-- each private procedure is called, and each counter read by a test, in one of these procedures
pub record AreUsed (n : CodeNames) (counters : List (List ℕ))
    (procedures : List ProcedureTree) : Type 0 where
  pub called : AllByRecursion (λ q. MatchBool q.private (0 < call_sites n procedures q.name) ⊤)
      procedures
  pub read : AllByRecursion (λ name. Contains (flat_map (tested_in n) procedures) (own name)) counters
