-- Comments with texts that mean harm, and a program with notes.
use Rattle.std.specs.Prelude.{◌≡◌, ℕ, zero, suc, false, pos, [], ◌∷◌, ◌++◌, replicate, codes, refl}
use Rattle.std.specs.Fmt.{digits}
use Rattle.std.specs.Char.{encode_utf8}
use Rattle.std.specs.Str.{chars, is_utf8}
use Rattle.c_syntax.specs.declared.code.BinOp.TheVariants.{Add}
use Rattle.c_syntax.specs.declared.code.Leaf.TheVariants.{Param, Own}
use Rattle.c_syntax.specs.Tree.{ExprTree, literal, read, binary, assign, stmts_of_list, ProgramTree}
use Rattle.c_syntax.specs.ProgramExamples.{field, param}
use Rattle.c_grammar.specs.TextLines.{text_of_lines}
use Rattle.c_printer.specs.Comments.{comment_text, comment_bytes}
use Rattle.c_printer.specs.Notes.{Notes}
use Rattle.c_printer.specs.Printing.{noted_bytes}

-- ---- Comments

name_shown : comment_bytes (codes "Gain \"K p\"") ≡ codes "/* Gain \"K p\" */"
unfolding comment_text is_utf8 chars encode_utf8
name_shown = refl

path_shown : comment_text (codes "Cruise/Speed control (1/s)") ≡ codes "Cruise/Speed control (1/s)"
unfolding comment_text is_utf8 chars encode_utf8
path_shown = refl

-- `*/`, `/*`, `//`, a joined line, a trigraph, and control bytes
end_shown : comment_text (codes "a*/b") ≡ codes "a./b"
unfolding comment_text is_utf8 chars encode_utf8
end_shown = refl

start_shown : comment_text (codes "a/*b") ≡ codes "a/.b"
unfolding comment_text is_utf8 chars encode_utf8
start_shown = refl

slashes_shown : comment_text (codes "a////b") ≡ codes "a/./.b"
unfolding comment_text is_utf8 chars encode_utf8
slashes_shown = refl

joined_shown : comment_text (97 ∷ 92 ∷ 10 ∷ 98 ∷ []) ≡ codes "a. b"
unfolding comment_text is_utf8 chars encode_utf8
joined_shown = refl

trigraph_shown : comment_text (codes "a??/b") ≡ codes "a../b"
unfolding comment_text is_utf8 chars encode_utf8
trigraph_shown = refl

control_shown : comment_text (0 ∷ 9 ∷ 127 ∷ 27 ∷ []) ≡ codes ". .."
unfolding comment_text is_utf8 chars encode_utf8
control_shown = refl

-- a letter of two bytes stays, and its bytes are dots where the text is no UTF-8
letter_shown : comment_text (97 ∷ 195 ∷ 164 ∷ []) ≡ 97 ∷ 195 ∷ 164 ∷ []
unfolding comment_text is_utf8 chars encode_utf8
letter_shown = refl

others_shown : comment_text (97 ∷ 195 ∷ 164 ∷ 255 ∷ []) ≡ codes "a..."
unfolding comment_text is_utf8 chars encode_utf8
others_shown = refl

-- 60 bytes stay as they are, and of 61 the first 57
sixty_shown : comment_text (replicate 60 97) ≡ replicate 60 97
unfolding comment_text is_utf8 chars encode_utf8
sixty_shown = refl

longer_cut : comment_text (replicate 61 97) ≡ replicate 57 97 ++ codes "..."
unfolding comment_text is_utf8 chars encode_utf8
longer_cut = refl

-- but no part of a letter
letter_cut : comment_text (replicate 56 97 ++ 195 ∷ 164 ∷ replicate 5 97) ≡ replicate 56 97
    ++ codes "..."
unfolding comment_text is_utf8 chars encode_utf8
letter_cut = refl

-- ---- A program

abbrev sum_of : ℕ → ExprTree
sum_of zero = read (Param 0)
sum_of (suc n) = binary Add (sum_of n) (read (Own 0))

-- the second store is too long for a note on its line
abbrev long_program : ProgramTree
long_program = record {
  pures = [];
  structs = record { name = codes "root"; fields = field (codes "y1") ∷ [] } ∷ [];
  procedures =
      record {
        name = codes "root_start";
        private = false;
        of = 0;
        params = [];
        body = stmts_of_list (assign 0 0 (literal (pos 0)) ∷ []);
      }
      ∷ record {
        name = codes "root_step";
        private = false;
        of = 0;
        params = param (codes "u1")
            ∷ [];
        body = stmts_of_list (assign 0 0 (sum_of 3) ∷ []);
      }
      ∷ [];
}

abbrev some_notes : Notes
some_notes =
    record {
      structs = record { above = codes "the root"; fields = codes "Outport \"Out*/1\"" ∷ [] } ∷ [];
      procedures = [] ∷ codes "a tick" ∷ [];
    }

with_notes : noted_bytes some_notes long_program ≡ text_of_lines
    (codes "#include <stdint.h>"
    ∷ []
    ∷ codes "/* the root */"
    ∷ codes "struct root {"
    ∷ codes "    int32_t y1; /* Outport \"Out./1\" */"
    ∷ codes "};"
    ∷ []
    ∷ codes "void root_start(struct root *s) {"
    ∷ codes "    s->y1 = (int32_t)INT64_C(0); /* Outport \"Out./1\" */"
    ∷ codes "}"
    ∷ []
    ∷ codes "/* a tick */"
    ∷ codes "void root_step(struct root *s, int32_t u1) {"
    ∷ codes "    /* Outport \"Out./1\" */"
    ∷ codes "    s->y1 = (int32_t)((((int64_t)u1 + (int64_t)s->y1) + (int64_t)s->y1) + (int64_t)s->y1);"
    ∷ codes "}"
    ∷ [])
unfolding digits comment_text is_utf8 chars encode_utf8
with_notes = refl
