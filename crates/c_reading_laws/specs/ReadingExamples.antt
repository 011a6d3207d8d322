-- Texts read: one with a division by zero, one with an unknown name, and the code of a model with
-- one input and one output.
use Rattle.std.specs.Prelude.{◌≡◌, ℕ, false, List, [], ◌∷◌, None, Ok, codes, refl}
use Rattle.std.specs.Fmt.{digits}
use Rattle.std.proofs.Common.{lit≤}
use Rattle.c_syntax.specs.declared.code.BinOp.TheVariants.{Add, Div, Rem}
use Rattle.c_syntax.specs.declared.code.CType.TheVariants.{I32}
use Rattle.c_syntax.specs.declared.fault.CKind.TheVariants.{Syntax, Name}
use Rattle.c_grammar.specs.Tokens.{tokens_of, last_line}
use Rattle.c_syntax.specs.Kinds.{number_kind, struct_kind}
use Rattle.c_grammar.specs.Written.{param, own, child, literal, read, binary, field_target, WrittenArguments, no_arguments, more_arguments, assign, call, no_stmts, more_stmts, WrittenParam, WrittenField, WrittenProgram}
use Rattle.c_grammar.specs.Grammar.{Spells}
use Rattle.c_grammar.specs.Prefix.{file_needs, token_fault, fault_at}
use Rattle.c_rules.specs.Resolve.{resolve_program}
use Rattle.c_rules.specs.Reading.{CText, CFaultOf}
use Rattle.c_syntax.specs.ProgramExamples.{zero_program, one_program}
use Rattle.c_grammar.specs.TextLines.{text_of_lines}

abbrev pub zero_text : List ℕ
zero_text = text_of_lines
    (codes "#include <stdint.h>"
    ∷ codes "struct root { int32_t y1; };"
    ∷ codes "void root_start(struct root *s) { }"
    ∷ codes "void root_step(struct root *s, int32_t u1) {"
    ∷ codes "s->y1 = (int32_t)(INT64_C(1) / INT64_C(0));"
    ∷ codes "}"
    ∷ [])

abbrev pub i32_param : ℕ → List ℕ → WrittenParam
i32_param l n = record { line = l; type = I32; name = n }

abbrev pub zero_written : WrittenProgram
zero_written = record {
  pures = [];
  structs =
      record {
        line = 2;
        name = codes "root";
        fields = record { line = 2; kind = number_kind I32; name = codes "y1" } ∷ [];
      } ∷ [];
  procedures =
      record {
        line = 3;
        private = false;
        name = codes "root_start";
        of = codes "root";
        params = [];
        body = no_stmts;
      }
      ∷ record {
        line = 4;
        private = false;
        name = codes "root_step";
        of = codes "root";
        params = i32_param 4 (codes "u1") ∷ [];
        body =
            more_stmts (assign 5 (codes "y1") I32 (binary Div (literal 1) (literal 0))) no_stmts;
      }
      ∷ [];
}

-- the text is one of the program whose run is stuck
pub zero_text-read : CText zero_text zero_program
unfolding digits
zero_text-read = record {
  header = refl;
  written = zero_written;
  spelled = refl;
  resolved = refl;
  limits =
      record {
        count = lit≤ tt;
        pures = tt;
        procedures = (
          record { params = lit≤ tt; statements = lit≤ tt; expressions = lit≤ tt },
          (record { params = lit≤ tt; statements = lit≤ tt; expressions = lit≤ tt }, tt),
        );
      };
}

abbrev pub name_text : List ℕ
name_text = text_of_lines
    (codes "#include <stdint.h>"
    ∷ codes "struct root { int32_t y1; };"
    ∷ codes "void root_start(struct root *s) { }"
    ∷ codes "void root_step(struct root *s, int32_t u1) {"
    ∷ codes "s->y1 = (int32_t)(int64_t)q;"
    ∷ codes "}"
    ∷ [])

abbrev pub name_written : WrittenProgram
name_written = record {
  pures = [];
  structs =
      record {
        line = 2;
        name = codes "root";
        fields = record { line = 2; kind = number_kind I32; name = codes "y1" } ∷ [];
      } ∷ [];
  procedures =
      record {
        line = 3;
        private = false;
        name = codes "root_start";
        of = codes "root";
        params = [];
        body = no_stmts;
      }
      ∷ record {
        line = 4;
        private = false;
        name = codes "root_step";
        of = codes "root";
        params = i32_param 4 (codes "u1") ∷ [];
        body =
            more_stmts (assign 5 (codes "y1") I32 (read 5 (param (codes "q")))) no_stmts;
      }
      ∷ [];
}

-- an unknown name is refused at its line
pub name_text-refused : CFaultOf name_text (fault_at 5 Name)
unfolding digits
name_text-refused = (name_written, refl, refl)

-- a first line that is another, a token with which no file can go on, and a text that ends too soon
pub no_header-refused : CFaultOf (codes "struct root { int32_t y1; };") (fault_at 1 Syntax)
no_header-refused = refl

pub no_token-refused : CFaultOf
    (text_of_lines (codes "#include <stdint.h>" ∷ codes "struct root { int32_t y1; };"
    ∷ codes "/* a comment" ∷ codes "*/ void root_start() { }" ∷ [])) (fault_at 4 Syntax)
no_token-refused = refl

pub early_end-refused : CFaultOf
    (text_of_lines (codes "#include <stdint.h>" ∷ codes "struct root { int32_t y1; };" ∷ []))
    (fault_at 2 Syntax)
early_end-refused = refl

abbrev pub one_text : List ℕ
one_text = text_of_lines
    (codes "#include <stdint.h>"
    ∷ codes "struct top { int32_t v0; int32_t v1; };"
    ∷ codes "struct root { int32_t now; int32_t y1; struct top top; };"
    ∷ codes "void top_start(struct top *s) {"
    ∷ codes "s->v0 = (int32_t)INT64_C(0);"
    ∷ codes "s->v1 = (int32_t)INT64_C(0);"
    ∷ codes "}"
    ∷ codes "void top_reset(struct top *s) {"
    ∷ codes "}"
    ∷ codes "void top_out1(struct top *s, int32_t now, int32_t u1) {"
    ∷ codes "s->v0 = (int32_t)(int64_t)u1;"
    ∷ codes "s->v1 = (int32_t)(int64_t)s->v0;"
    ∷ codes "}"
    ∷ codes "void top_update(struct top *s, int32_t now, int32_t u1) {"
    ∷ codes "}"
    ∷ codes "void root_start(struct root *s) {"
    ∷ codes "s->now = (int32_t)INT64_C(0);"
    ∷ codes "s->y1 = (int32_t)INT64_C(0);"
    ∷ codes "top_start(&s->top);"
    ∷ codes "}"
    ∷ codes "void root_step(struct root *s, int32_t u1) {"
    ∷ codes "top_out1(&s->top, (int32_t)(int64_t)s->now, (int32_t)(int64_t)u1);"
    ∷ codes "top_update(&s->top, (int32_t)(int64_t)s->now, (int32_t)(int64_t)u1);"
    ∷ codes "s->y1 = (int32_t)(int64_t)s->top.v1;"
    ∷ codes "s->now = (int32_t)(((int64_t)s->now + INT64_C(1)) % INT64_C(1));"
    ∷ codes "}"
    ∷ [])

abbrev pub i32_field : ℕ → List ℕ → WrittenField
i32_field l n = record { line = l; kind = number_kind I32; name = n }

abbrev pub now_and_u1 : ℕ → WrittenArguments
now_and_u1 l =
    more_arguments I32 (read l (own (codes "now")))
    (more_arguments I32 (read l (param (codes "u1"))) no_arguments)

abbrev pub one_written : WrittenProgram
one_written = record {
  pures = [];
  structs =
      record {
        line = 2;
        name = codes "top";
        fields = i32_field 2 (codes "v0")
            ∷ i32_field 2 (codes "v1") ∷ [];
      }
      ∷ record {
        line = 3;
        name = codes "root";
        fields = i32_field 3 (codes "now")
            ∷ i32_field 3 (codes "y1") ∷ record {
              line = 3;
              kind = struct_kind (codes "top");
              name = codes "top";
            } ∷ [];
      }
      ∷ [];
  procedures =
      record {
        line = 4;
        private = false;
        name = codes "top_start";
        of = codes "top";
        params = [];
        body = more_stmts (assign 5 (codes "v0") I32 (literal 0))
            (more_stmts (assign 6 (codes "v1") I32 (literal 0)) no_stmts);
      }
      ∷ record {
        line = 8;
        private = false;
        name = codes "top_reset";
        of = codes "top";
        params = [];
        body = no_stmts;
      }
      ∷ record {
        line = 10;
        private = false;
        name = codes "top_out1";
        of = codes "top";
        params = i32_param 10 (codes "now") ∷ i32_param 10 (codes "u1") ∷ [];
        body =
            more_stmts (assign 11 (codes "v0") I32 (read 11 (param (codes "u1"))))
            (more_stmts (assign 12 (codes "v1") I32 (read 12 (own (codes "v0")))) no_stmts);
      }
      ∷ record {
        line = 14;
        private = false;
        name = codes "top_update";
        of = codes "top";
        params = i32_param 14 (codes "now") ∷ i32_param 14 (codes "u1") ∷ [];
        body = no_stmts;
      }
      ∷ record {
        line = 16;
        private = false;
        name = codes "root_start";
        of = codes "root";
        params = [];
        body =
            more_stmts (assign 17 (codes "now") I32 (literal 0))
            (more_stmts (assign 18 (codes "y1") I32 (literal 0))
            (more_stmts (call 19 (codes "top_start") (field_target (codes "top")) no_arguments)
            no_stmts));
      }
      ∷ record {
        line = 21;
        private = false;
        name = codes "root_step";
        of = codes "root";
        params = i32_param 21 (codes "u1") ∷ [];
        body =
            more_stmts (call 22 (codes "top_out1") (field_target (codes "top")) (now_and_u1 22))
            (more_stmts (call 23 (codes "top_update") (field_target (codes "top")) (now_and_u1 23))
            (more_stmts (assign 24 (codes "y1") I32 (read 24 (child (codes "top") (codes "v1"))))
            (more_stmts
            (assign 25 (codes "now") I32
            (binary Rem (binary Add (read 25 (own (codes "now"))) (literal 1)) (literal 1)))
            no_stmts)));
      }
      ∷ [];
}

-- the text of a model with one input and one output has no error of tokens, and is one of its
-- program
pub one_text-no_token_fault : token_fault file_needs (last_line one_text) (tokens_of one_text)
    ≡ None
one_text-no_token_fault = refl

pub one_text-spelled : Spells (tokens_of one_text) one_written
unfolding digits
one_text-spelled = refl

pub one_text-resolved : resolve_program (last_line one_text) one_written ≡ Ok one_program
unfolding digits
one_text-resolved = refl
