-- A system with helpers: one that is called at one place, and others that stay.
use Rattle.std.specs.Prelude.{◌≡◌, ℕ, true, false, pos, List, [], ◌∷◌, ◌++◌, codes, refl}
use Rattle.base_core.specs.declared.base.Compare.TheVariants.{Gt}
use Rattle.c_syntax.specs.declared.code.CType.TheVariants.{I32}
use Rattle.c_syntax.specs.declared.code.Leaf.TheVariants.{Param}
use Rattle.c_syntax.specs.declared.code.Target.TheVariants.{Own as OnSelf}
use Rattle.c_syntax.specs.declared.program.FieldKind.TheVariants.{Number}
use Rattle.c_syntax.specs.Tree.{literal, neg, read, compare, StmtTree, assign, branch, call, exprs_of_list, no_stmts, stmts_of_list, ProcedureTree, ProgramTree}
use Rattle.emit_inlined.specs.Inlined.{inlined_helpers, inlined}

-- `void NAME(struct top *s, int32_t a, int32_t b) { BODY }`, or a private one
abbrev procedure : List ℕ → List StmtTree → ProcedureTree
procedure name body = record {
  name = codes "top_" ++ name;
  private = false;
  of = 0;
  params = record { name = codes "a"; type = I32 } ∷ record { name = codes "b"; type = I32 } ∷ [];
  body = stmts_of_list body;
}

abbrev helper : List ℕ → List StmtTree → ProcedureTree
helper name body = record {
  name = codes "top_" ++ name;
  private = true;
  of = 0;
  params = record { name = codes "b"; type = I32 } ∷ [];
  body = stmts_of_list body;
}

abbrev program : List ProcedureTree → ProgramTree
program procedures = record {
  pures = [];
  structs =
      record {
        name = codes "top";
        fields = record { name = codes "v0"; kind = Number I32 }
            ∷ record { name = codes "v1"; kind = Number I32 } ∷ [];
      } ∷ [];
  procedures = procedures;
}

-- `s->vF = p;`, where p is the parameter at a position
abbrev store : (field param : ℕ) → StmtTree
store f k = assign 0 f (read (Param k))

-- a call on `s` that passes on one of the caller's parameters
abbrev call_with : (procedure param : ℕ) → StmtTree
call_with k j = call 0 k OnSelf (exprs_of_list (read (Param j) ∷ []))

-- g1 and g2 are called at one place, g1 with the caller's second parameter; g0 at two
abbrev before : ProgramTree
before = program
    (helper (codes "g0") (store 0 0 ∷ []) ∷ helper (codes "g1") (store 1 0 ∷ call_with 0 0 ∷ [])
    ∷ helper (codes "g2") (store 1 0 ∷ [])
    ∷ procedure (codes "out1") (call_with 0 1 ∷ call_with 1 1 ∷ [])
    ∷ procedure (codes "update") (store 0 0 ∷ call_with 2 0 ∷ []) ∷ [])

helpers_found : inlined_helpers before ≡ 1 ∷ 2 ∷ []
helpers_found = refl

-- their bodies are there, and read the parameter that was passed
bodies_in_place : inlined before ≡ program
    (helper (codes "g0") (store 0 0 ∷ [])
    ∷ procedure (codes "out1") (call_with 0 1 ∷ store 1 1 ∷ call_with 0 1 ∷ [])
    ∷ procedure (codes "update") (store 0 0 ∷ store 1 0 ∷ []) ∷ [])
bodies_in_place = refl

-- ---- What stays

-- nothing is inlined
abbrev Stays : List ProcedureTree → Type 0
Stays procedures = inlined (program procedures) ≡ program procedures

-- a helper that is called twice, by one procedure too
called_twice : Stays (helper (codes "g0") (store 0 0 ∷ [])
    ∷ procedure (codes "out1") (call_with 0 1 ∷ call_with 0 0 ∷ []) ∷ [])
called_twice = refl

-- below an `if`, where its statements would be deeper
below_if : Stays (helper (codes "g0") (store 0 0 ∷ [])
    ∷ procedure (codes "out1") (branch 0 (compare Gt (read (Param 0)) (literal (pos 0)))
    (stmts_of_list (call_with 0 1 ∷ [])) no_stmts ∷ []) ∷ [])
below_if = refl

-- with another value than a parameter, which could leave its type
other_value : Stays (helper (codes "g0") (store 0 0 ∷ [])
    ∷ procedure (codes "out1") (call 0 0 OnSelf (exprs_of_list (neg (read (Param 1)) ∷ [])) ∷ [])
    ∷ [])
other_value = refl

-- in a start, whose stores and calls are none of a tick
in_start : Stays (helper (codes "g0") (store 0 0 ∷ [])
    ∷ procedure (codes "start") (call_with 0 1 ∷ []) ∷ [])
in_start = refl

-- in another helper
in_helper : inlined (program (helper (codes "g0") (store 0 0 ∷ [])
    ∷ helper (codes "g1") (call_with 0 0 ∷ []) ∷ procedure (codes "out1") (call_with 1 1 ∷ [])
    ∷ []))
    ≡ program (helper (codes "g0") (store 0 0 ∷ [])
    ∷ procedure (codes "out1") (call_with 0 1 ∷ []) ∷ [])
in_helper = refl

-- a public procedure
public_stays : Stays (procedure (codes "g0") (store 0 0 ∷ [])
    ∷ procedure (codes "out1") (call 0 0 OnSelf (exprs_of_list (read (Param 0) ∷ read (Param 1)
    ∷ [])) ∷ []) ∷ [])
public_stays = refl

-- a private one whose calls are counted
counted_stays : Stays (helper (codes "out2") (store 0 0 ∷ [])
    ∷ procedure (codes "out1") (call_with 0 1 ∷ []) ∷ [])
counted_stays = refl
