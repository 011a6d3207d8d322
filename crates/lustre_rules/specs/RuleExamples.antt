-- Texts of the grammar: what they are read as, or the first construct that breaks a rule.
use Rattle.std.specs.Prelude.{◌≡◌, ℕ, false, true, List, [], ◌∷◌, codes, pos, Result, Ok, Err, refl}
use Rattle.std.proofs.Common.{lit≤}
use Rattle.c_syntax.specs.declared.fault.CFault.{CFault}
use Rattle.c_syntax.specs.declared.fault.CKind.TheVariants.{Name, TypeRule}
use Rattle.c_grammar.specs.Prefix.{fault_at}
use Rattle.c_grammar.specs.TextLines.{text_of_lines}
use Rattle.lustre_syntax.specs.declared.LusOp.TheVariants.{Add, Eq, And}
use Rattle.lustre_syntax.specs.Tree.{ValueType, int, bool, number, truth, name, two, choice, arrow, previous, set, call, FileTree}
use Rattle.lustre_grammar.specs.Written.{Word, WrittenExpr, WrittenEquation, WrittenDeclared, WrittenNode, WrittenFile}
use Rattle.lustre_rules.specs.Resolve.{resolve_file}
use Rattle.lustre_rules.specs.Reading.{LustreText, LustreFaultOf}

-- a name that is read, a declared name, and a number, as they are written
abbrev pub at : ℕ → List ℕ → WrittenExpr
at line text = name (record { line = line; text = text })

abbrev pub declared : ℕ → List ℕ → ValueType → WrittenDeclared
declared line text type = record { line = line; text = text; type = type }

abbrev pub number_of : ℕ → WrittenExpr
number_of n = number (pos n)

-- ---- Two names that wait for each other: a lawful text

abbrev pub waiting_text : List ℕ
waiting_text = text_of_lines
    (codes "node root (u1: int) returns (y1: int);"
    ∷ codes "var x: int;"
    ∷ codes "let"
    ∷ codes "x = y1;"
    ∷ codes "y1 = x;"
    ∷ codes "tel;"
    ∷ [])

-- the root of that text, where the equation of line 4 reads this name
abbrev pub waiting_written : List ℕ → WrittenFile
waiting_written read = record {
  nodes =
      record {
        line = 1;
        text = codes "root";
        inputs = declared 1 (codes "u1") int ∷ [];
        outputs = declared 1 (codes "y1") int ∷ [];
        others = declared 2 (codes "x") int ∷ [];
        equations = WrittenEquation.set 4 (codes "x") (at 4 read)
            ∷ WrittenEquation.set 5 (codes "y1") (at 5 (codes "x")) ∷ [];
      }
      ∷ [];
}

abbrev pub waiting_file : FileTree
waiting_file = record {
  nodes =
      record {
        text = codes "root";
        line = 1;
        inputs = 1;
        outputs = 1;
        names = record { text = codes "u1"; type = int } ∷ record { text = codes "y1"; type = int }
            ∷ record { text = codes "x"; type = int } ∷ [];
        equations = set 4 2 (name 1) ∷ set 5 1 (name 2) ∷ [];
      }
      ∷ [];
}

pub waiting_is_read : LustreText waiting_text waiting_file
waiting_is_read = record {
  written = waiting_written (codes "y1");
  spelled = refl;
  resolved = refl;
  limit = (((lit≤ tt, tt), ((lit≤ tt, tt), tt)), tt);
}

-- ---- The same with a name that stands for nothing

abbrev pub unknown_text : List ℕ
unknown_text = text_of_lines
    (codes "node root (u1: int) returns (y1: int);"
    ∷ codes "var x: int;"
    ∷ codes "let"
    ∷ codes "x = z;"
    ∷ codes "y1 = x;"
    ∷ codes "tel;"
    ∷ [])

pub unknown_is_refused : LustreFaultOf unknown_text (fault_at 4 Name)
unknown_is_refused = (waiting_written (codes "z"), refl, refl)

-- ---- Rules, on written files: a node f before a root whose lines are these

-- node f (a: int; b: bool) returns (c: bool);
-- let
-- c = (b and (a = 0));
-- tel;
abbrev pub node_f : WrittenNode
node_f = record {
  line = 1;
  text = codes "f";
  inputs = declared 1 (codes "a") int ∷ declared 1 (codes "b") bool ∷ [];
  outputs = declared 1 (codes "c") bool ∷ [];
  others = [];
  equations = WrittenEquation.set 3 (codes "c")
      (two And (at 3 (codes "b")) (two Eq (at 3 (codes "a")) (number_of 0))) ∷ [];
}

-- node root (u1: int) returns (y1: int);
-- var (these)
-- let
-- (these)
-- tel;
abbrev pub root_with : List WrittenDeclared → List WrittenEquation → WrittenNode
root_with others equations = record {
  line = 5;
  text = codes "root";
  inputs = declared 5 (codes "u1") int ∷ [];
  outputs = declared 5 (codes "y1") int ∷ [];
  others = others;
  equations = equations;
}

-- `y1 = u1;`
abbrev pub y1_is_u1 : WrittenEquation
y1_is_u1 = WrittenEquation.set 8 (codes "y1") (at 8 (codes "u1"))

abbrev pub resolved : List WrittenNode → Result FileTree CFault
resolved nodes = resolve_file (record { nodes = nodes })

-- the first error of f and a root with a bool x, whose first equation is this
abbrev pub with_x : WrittenEquation → Result FileTree CFault
with_x e = resolved (node_f ∷ root_with (declared 6 (codes "x") bool ∷ []) (e ∷ y1_is_u1 ∷ []) ∷ [])

-- `x = call f(u1, true);`
pub a_call_is_read : with_x (WrittenEquation.call 7 (codes "x" ∷ []) (codes "f")
    (at 7 (codes "u1") ∷ truth true ∷ []))
    ≡ Ok (record {
      nodes =
          record {
            text = codes "f";
            line = 1;
            inputs = 2;
            outputs = 1;
            names = record { text = codes "a"; type = int }
                ∷ record { text = codes "b"; type = bool }
                ∷ record { text = codes "c"; type = bool } ∷ [];
            equations = set 3 2 (two And (name 1) (two Eq (name 0) (number (pos 0)))) ∷ [];
          }
          ∷ record {
            text = codes "root";
            line = 5;
            inputs = 1;
            outputs = 1;
            names = record { text = codes "u1"; type = int }
                ∷ record { text = codes "y1"; type = int }
                ∷ record { text = codes "x"; type = bool } ∷ [];
            equations = call 7 (2 ∷ []) 0 (name 0 ∷ truth true ∷ []) ∷ set 8 1 (name 0) ∷ [];
          }
          ∷ [];
    })
a_call_is_read = refl

-- a call with an argument too few, with one of another type, of too many names, of no node before
pub few_arguments : with_x (WrittenEquation.call 7 (codes "x" ∷ []) (codes "f")
    (at 7 (codes "u1") ∷ [])) ≡ Err (fault_at 7 TypeRule)
few_arguments = refl

pub unlike_argument : with_x (WrittenEquation.call 7 (codes "x" ∷ []) (codes "f")
    (at 7 (codes "u1") ∷ number_of 1 ∷ [])) ≡ Err (fault_at 7 TypeRule)
unlike_argument = refl

pub many_names : with_x (WrittenEquation.call 7 (codes "x" ∷ codes "y1" ∷ []) (codes "f")
    (at 7 (codes "u1") ∷ truth true ∷ [])) ≡ Err (fault_at 7 TypeRule)
many_names = refl

pub no_such_node : with_x (WrittenEquation.call 7 (codes "x" ∷ []) (codes "g") [])
    ≡ Err (fault_at 7 Name)
no_such_node = refl

-- a node can't call itself
pub own_call : with_x (WrittenEquation.call 7 (codes "x" ∷ []) (codes "root")
    (at 7 (codes "u1") ∷ [])) ≡ Err (fault_at 7 Name)
own_call = refl

-- `x = u1;`, `x = (u1 = true);`, `x = (u1 = 1);`
pub unlike_value : with_x (WrittenEquation.set 7 (codes "x") (at 7 (codes "u1")))
    ≡ Err (fault_at 7 TypeRule)
unlike_value = refl

pub unlike_sides : with_x (WrittenEquation.set 7 (codes "x")
    (two Eq (at 7 (codes "u1")) (truth true))) ≡ Err (fault_at 7 TypeRule)
unlike_sides = refl

-- `x =` and then `(z + 1);`: what the equation gives comes before the names that it reads
pub type_before_reads : with_x (WrittenEquation.set 7 (codes "x")
    (two Add (at 8 (codes "z")) (number_of 1))) ≡ Err (fault_at 7 TypeRule)
type_before_reads = refl

-- where only the unknown name could say, it is no error of types
pub name_alone : with_x (WrittenEquation.set 7 (codes "x")
    (two Eq (at 8 (codes "z")) (number_of 1))) ≡ Err (fault_at 8 Name)
name_alone = refl

-- a second equation, one for an input, and one for a name that isn't declared
pub given_twice : resolved (root_with [] (y1_is_u1 ∷ WrittenEquation.set 9 (codes "y1") (number_of 1)
    ∷ []) ∷ []) ≡ Err (fault_at 9 Name)
given_twice = refl

pub given_input : resolved (root_with [] (y1_is_u1 ∷ WrittenEquation.set 9 (codes "u1") (number_of 1)
    ∷ []) ∷ []) ≡ Err (fault_at 9 Name)
given_input = refl

pub given_unknown : resolved (root_with [] (y1_is_u1 ∷ WrittenEquation.set 9 (codes "z") (number_of 1)
    ∷ []) ∷ []) ≡ Err (fault_at 9 Name)
given_unknown = refl

-- an output or a further name without an equation: at the node, before all that is in it
pub missing_equation : resolved (root_with (declared 6 (codes "x") int ∷ declared 6 (codes "x") int
    ∷ []) (y1_is_u1 ∷ []) ∷ []) ≡ Err (fault_at 5 Name)
missing_equation = refl

-- two names of a node that are equal, and two nodes
pub name_twice : resolved (root_with (declared 6 (codes "u1") int ∷ []) (y1_is_u1
    ∷ WrittenEquation.set 9 (codes "u1") (number_of 1) ∷ []) ∷ []) ≡ Err (fault_at 6 Name)
name_twice = refl

pub node_twice : resolved (root_with [] (y1_is_u1 ∷ []) ∷ root_with [] (y1_is_u1 ∷ []) ∷ [])
    ≡ Err (fault_at 5 Name)
node_twice = refl

-- the last node has `int` inputs and outputs alone
pub last_is_bool : resolved (node_f ∷ []) ≡ Err (fault_at 1 TypeRule)
last_is_bool = refl
