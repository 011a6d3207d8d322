-- The tokens of a small file that open expressions.
use Rattle.std.specs.Prelude.{◌≡◌, false, [], ◌∷◌, Some, None, codes, pos, refl, length}
use Rattle.std.specs.Fmt.{digits}
use Rattle.c_grammar.specs.TextLines.{text_of_lines}
use Rattle.lustre_syntax.specs.Tree.{number, negative, choice, previous, truth}
use Rattle.lustre_grammar.specs.Tokens.{tokens_of}
use Rattle.lustre_grammar.specs.Written.{WrittenFile, set, call}
use Rattle.lustre_grammar.specs.Grammar.{Spells}
use Rattle.lustre_grammar.specs.Openings.{openings, expr_openings}

-- node f (a: int; b: int) returns (c: int);
-- var d: int; e: int;
-- let
-- d, e = call g(1, (- 2));
-- = call h();
-- c = (pre a);
-- tel;
abbrev pub small : WrittenFile
small = record {
  nodes =
      record {
        line = 1;
        text = codes "f";
        inputs = record { line = 1; text = codes "a"; type = false }
            ∷ record { line = 1; text = codes "b"; type = false } ∷ [];
        outputs = record { line = 1; text = codes "c"; type = false } ∷ [];
        others = record { line = 2; text = codes "d"; type = false }
            ∷ record { line = 2; text = codes "e"; type = false } ∷ [];
        equations = call 4 (codes "d" ∷ codes "e" ∷ []) (codes "g")
            (number (pos 1) ∷ negative (number (pos 2)) ∷ [])
            ∷ call 5 [] (codes "h") []
            ∷ set 6 (codes "c") (previous (record { line = 6; text = codes "a" })) ∷ [];
      }
      ∷ [];
}

pub small_spelled : Spells (tokens_of (text_of_lines
    (codes "node f (a: int; b: int) returns (c: int);" ∷ codes "var d: int; e: int;"
    ∷ codes "let" ∷ codes "d, e = call g(1, (- 2));" ∷ codes "= call h();" ∷ codes "c = (pre a);"
    ∷ codes "tel;" ∷ []))) small
unfolding digits
small_spelled = refl

-- as many as there are tokens
pub small_count : length (openings small) ≡ length (tokens_of (text_of_lines
    (codes "node f (a: int; b: int) returns (c: int);" ∷ codes "var d: int; e: int;"
    ∷ codes "let" ∷ codes "d, e = call g(1, (- 2));" ∷ codes "= call h();" ∷ codes "c = (pre a);"
    ∷ codes "tel;" ∷ [])))
small_count = refl

pub choice_openings : expr_openings 1
    (choice (truth false) (number (pos 1)) (negative (number (pos 2))))
    ≡ Some 1 ∷ None ∷ Some 2 ∷ None ∷ Some 2 ∷ None ∷ Some 2 ∷ None ∷ Some 3 ∷ None ∷ None ∷ []
choice_openings = refl
