-- A small file printed.
use Rattle.std.specs.Prelude.{◌≡◌, true, [], ◌∷◌, Some, codes, pos, refl}
use Rattle.std.specs.Fmt.{digits}
use Rattle.c_syntax.specs.declared.fault.CKind.TheVariants.{Syntax}
use Rattle.c_grammar.specs.Prefix.{fault_at}
use Rattle.c_grammar.specs.TextLines.{text_of_lines}
use Rattle.lustre_syntax.specs.declared.code.LusOp.TheVariants.{Add, And}
use Rattle.lustre_syntax.specs.Tree.{int, bool, number, truth, name, negative, negation, two, choice, arrow, previous, set, call, FileTree}
use Rattle.lustre_grammar.specs.Tokens.{tokens_of, last_line}
use Rattle.lustre_grammar.specs.Prefix.{file_needs, token_fault}
use Rattle.lustre_printer.specs.Printing.{file_bytes}

abbrev pub small : FileTree
small = record {
  nodes =
      record { text = codes "g"; line = 0; inputs = 0; outputs = 0; names = []; equations = [] }
      ∷ record {
        text = codes "h";
        line = 0;
        inputs = 2;
        outputs = 1;
        names = record { text = codes "a"; type = int } ∷ record { text = codes "b"; type = bool }
            ∷ record { text = codes "c"; type = bool } ∷ [];
        equations = call 0 [] 0 [] ∷ set 0 2 (two And (name 1) (negation (truth true))) ∷ [];
      }
      ∷ record {
        text = codes "root";
        line = 0;
        inputs = 1;
        outputs = 1;
        names = record { text = codes "u1"; type = int } ∷ record { text = codes "y1"; type = int }
            ∷ record { text = codes "x"; type = bool } ∷ record { text = codes "s"; type = int }
            ∷ [];
        equations = call 0 (2 ∷ []) 1 (name 0 ∷ truth true ∷ [])
            ∷ set 0 3 (arrow (negative (number (pos 7))) (previous 0))
            ∷ set 0 1 (choice (name 2) (two Add (name 3) (number (pos 10))) (name 0)) ∷ [];
      }
      ∷ [];
}

pub small_text : file_bytes small ≡ text_of_lines
    (codes "node g ()"
    ∷ codes "returns ();"
    ∷ codes "let"
    ∷ codes "tel;"
    ∷ codes "node h (a: int; b: bool)"
    ∷ codes "returns (c: bool);"
    ∷ codes "let"
    ∷ codes " = call g();"
    ∷ codes "c = (b and (not true));"
    ∷ codes "tel;"
    ∷ codes "node root (u1: int)"
    ∷ codes "returns (y1: int);"
    ∷ codes "var"
    ∷ codes "x: bool;"
    ∷ codes "s: int;"
    ∷ codes "let"
    ∷ codes "x = call h(u1, true);"
    ∷ codes "s = ((- 7) -> (pre u1));"
    ∷ codes "y1 = (if x then (s + 10) else u1);"
    ∷ codes "tel;"
    ∷ [])
unfolding digits
small_text = refl

-- a file that has an equation for a name that its node doesn't have: its text is none of the
-- grammar, so a lawful file has no such equation
abbrev pub stray : FileTree
stray = record {
  nodes =
      record {
        text = codes "root";
        line = 0;
        inputs = 0;
        outputs = 1;
        names = record { text = codes "y1"; type = int } ∷ [];
        equations = set 0 0 (number (pos 1)) ∷ set 0 9 (number (pos 2)) ∷ [];
      }
      ∷ [];
}

pub stray_text :
    token_fault file_needs (last_line (file_bytes stray)) (tokens_of (file_bytes stray))
    ≡ Some (fault_at 5 Syntax)
unfolding digits
stray_text = refl
