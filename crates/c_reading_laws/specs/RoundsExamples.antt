-- A program with pure functions, conditions, a private procedure and a field that is a struct,
-- read.
use Rattle.std.specs.Prelude.{◌≡◌, ℕ, true, false, List, [], ◌∷◌, None, Ok, codes, refl}
use Rattle.std.specs.Fmt.{digits}
use Rattle.base_core.specs.declared.base.Compare.TheVariants.{Eq, Lt, Ge, Gt}
use Rattle.c_syntax.specs.declared.code.BinOp.TheVariants.{Add, Sub, Mul, Div, Rem}
use Rattle.c_syntax.specs.declared.code.CType.TheVariants.{I8, U8, I16, I32}
use Rattle.c_grammar.specs.Tokens.{tokens_of, last_line}
use Rattle.c_syntax.specs.Kinds.{number_kind, struct_kind}
use Rattle.c_grammar.specs.Written.{param, own, child, literal, neg, read, binary, pick, pure, no_exprs, more_exprs, compare, both, either, negated, own_target, field_target, no_arguments, more_arguments, assign, branch, branch_else, call, no_stmts, more_stmts, WrittenProgram}
use Rattle.c_grammar.specs.Grammar.{Spells}
use Rattle.c_grammar.specs.Prefix.{file_needs, token_fault}
use Rattle.c_rules.specs.Resolve.{resolve_program}
use Rattle.c_syntax.specs.RoundsProgram.{rounds_program}
use Rattle.c_grammar.specs.TextLines.{text_of_lines}

abbrev pub rounds_text : List ℕ
rounds_text = text_of_lines
    (codes "#include <stdint.h>"
    ∷ codes "static int64_t round_floor(int64_t v, int64_t d) { return ((((int64_t)v % (int64_t)d) < INT64_C(0)) ? (((int64_t)v / (int64_t)d) - INT64_C(1)) : ((int64_t)v / (int64_t)d)); }"
    ∷ codes "static int64_t round_ceiling(int64_t v, int64_t d) { return ((((int64_t)v % (int64_t)d) > INT64_C(0)) ? (((int64_t)v / (int64_t)d) + INT64_C(1)) : ((int64_t)v / (int64_t)d)); }"
    ∷ codes "static int64_t round_zero(int64_t v, int64_t d) { return ((int64_t)v / (int64_t)d); }"
    ∷ codes "static int64_t round_nearest(int64_t v, int64_t d) { return ((((int64_t)v % (int64_t)d) >= ((int64_t)d / INT64_C(2))) ? (((int64_t)v / (int64_t)d) + INT64_C(1)) : ((((int64_t)v % (int64_t)d) < (-((int64_t)d / INT64_C(2)))) ? (((int64_t)v / (int64_t)d) - INT64_C(1)) : ((int64_t)v / (int64_t)d))); }"
    ∷ codes "static int64_t clamp(int64_t v, int64_t lo, int64_t hi) { return (((int64_t)v < (int64_t)lo) ? (int64_t)lo : (((int64_t)v > (int64_t)hi) ? (int64_t)hi : (int64_t)v)); }"
    ∷ codes "static int64_t wrap(int64_t v, int64_t lo, int64_t n) { return (((((int64_t)v - (int64_t)lo) % (int64_t)n) < INT64_C(0)) ? (((((int64_t)v - (int64_t)lo) % (int64_t)n) + (int64_t)n) + (int64_t)lo) : ((((int64_t)v - (int64_t)lo) % (int64_t)n) + (int64_t)lo)); }"
    ∷ codes "struct inner { int8_t v0; uint8_t k1; };"
    ∷ codes "struct root { int32_t y2; struct inner one; int8_t y1; int32_t y3; };"
    ∷ codes "static void inner_step(struct inner *s, int16_t u1) {"
    ∷ codes "if (((int64_t)u1 > INT64_C(2000)) && (!((int64_t)s->k1 == INT64_C(3)))) { s->v0 = (int8_t)clamp(round_nearest((int64_t)u1, INT64_C(16)), (-INT64_C(128)), INT64_C(127)); }"
    ∷ codes "else { s->v0 = (int8_t)wrap(round_ceiling((int64_t)u1, INT64_C(16)), (-INT64_C(128)), INT64_C(256)); }"
    ∷ codes "if (((int64_t)s->k1 < INT64_C(3)) || ((int64_t)u1 == INT64_C(0))) { s->k1 = (uint8_t)(((int64_t)s->k1 + INT64_C(1)) % INT64_C(4)); }"
    ∷ codes "}"
    ∷ codes "void inner_out1(struct inner *s, int16_t u1) { inner_step(s, (int16_t)(int64_t)u1); }"
    ∷ codes "void root_start(struct root *s) { }"
    ∷ codes "void root_step(struct root *s, int16_t u1) {"
    ∷ codes "inner_out1(&s->one, (int16_t)(int64_t)u1);"
    ∷ codes "s->y1 = (int8_t)(int64_t)s->one.v0;"
    ∷ codes "s->y2 = (int32_t)round_floor((int64_t)u1, INT64_C(16));"
    ∷ codes "s->y3 = (int32_t)(INT64_C(1000) * ((int64_t)s->one.k1 + (int64_t)u1));"
    ∷ codes "}"
    ∷ [])

abbrev pub rounds_written : WrittenProgram
rounds_written = record {
  pures = record {
    line = 2;
    name = codes "round_floor";
    params = record { line = 2; name = codes "v" } ∷ record { line = 2; name = codes "d" } ∷ [];
    return_line = 2;
    body =
        (pick (compare Lt (binary Rem (read 2 (param (codes "v"))) (read 2 (param (codes "d"))))
        (literal 0))
        (binary Sub (binary Div (read 2 (param (codes "v"))) (read 2 (param (codes "d"))))
        (literal 1)) (binary Div (read 2 (param (codes "v"))) (read 2 (param (codes "d")))));
  }
      ∷ record {
        line = 3;
        name = codes "round_ceiling";
        params = record { line = 3; name = codes "v" } ∷ record { line = 3; name = codes "d" }
            ∷ [];
        return_line = 3;
        body =
            (pick (compare Gt (binary Rem (read 3 (param (codes "v"))) (read 3 (param (codes "d"))))
            (literal 0))
            (binary Add (binary Div (read 3 (param (codes "v"))) (read 3 (param (codes "d"))))
            (literal 1)) (binary Div (read 3 (param (codes "v"))) (read 3 (param (codes "d")))));
      }
      ∷ record {
        line = 4;
        name = codes "round_zero";
        params = record { line = 4; name = codes "v" }
            ∷ record { line = 4; name = codes "d" } ∷ [];
        return_line = 4;
        body =
            (binary Div (read 4 (param (codes "v"))) (read 4 (param (codes "d"))));
      }
      ∷ record {
        line = 5;
        name = codes "round_nearest";
        params = record { line = 5; name = codes "v" } ∷ record { line = 5; name = codes "d" }
            ∷ [];
        return_line = 5;
        body =
            (pick (compare Ge (binary Rem (read 5 (param (codes "v"))) (read 5 (param (codes "d"))))
            (binary Div (read 5 (param (codes "d"))) (literal 2)))
            (binary Add (binary Div (read 5 (param (codes "v"))) (read 5 (param (codes "d"))))
            (literal 1))
            (pick (compare Lt (binary Rem (read 5 (param (codes "v"))) (read 5 (param (codes "d"))))
            (neg (binary Div (read 5 (param (codes "d"))) (literal 2))))
            (binary Sub (binary Div (read 5 (param (codes "v"))) (read 5 (param (codes "d"))))
            (literal 1)) (binary Div (read 5 (param (codes "v"))) (read 5 (param (codes "d"))))));
      }
      ∷ record {
        line = 6;
        name = codes "clamp";
        params = record { line = 6; name = codes "v" }
            ∷ record { line = 6; name = codes "lo" } ∷ record { line = 6; name = codes "hi" } ∷ [];
        return_line = 6;
        body =
            (pick (compare Lt (read 6 (param (codes "v"))) (read 6 (param (codes "lo"))))
            (read 6 (param (codes "lo")))
            (pick (compare Gt (read 6 (param (codes "v"))) (read 6 (param (codes "hi"))))
            (read 6 (param (codes "hi"))) (read 6 (param (codes "v")))));
      }
      ∷ record {
        line = 7;
        name = codes "wrap";
        params = record { line = 7; name = codes "v" }
            ∷ record { line = 7; name = codes "lo" } ∷ record { line = 7; name = codes "n" } ∷ [];
        return_line = 7;
        body =
            (pick (compare Lt
            (binary Rem (binary Sub (read 7 (param (codes "v"))) (read 7 (param (codes "lo"))))
            (read 7 (param (codes "n")))) (literal 0))
            (binary Add
            (binary Add
            (binary Rem (binary Sub (read 7 (param (codes "v"))) (read 7 (param (codes "lo"))))
            (read 7 (param (codes "n")))) (read 7 (param (codes "n"))))
            (read 7 (param (codes "lo"))))
            (binary Add
            (binary Rem (binary Sub (read 7 (param (codes "v"))) (read 7 (param (codes "lo"))))
            (read 7 (param (codes "n")))) (read 7 (param (codes "lo")))));
      }
      ∷ [];
  structs =
      record {
        line = 8;
        name = codes "inner";
        fields = record { line = 8; kind = number_kind I8; name = codes "v0" }
            ∷ record { line = 8; kind = number_kind U8; name = codes "k1" } ∷ [];
      }
      ∷ record {
        line = 9;
        name = codes "root";
        fields = record { line = 9; kind = number_kind I32; name = codes "y2" }
            ∷ record { line = 9; kind = struct_kind (codes "inner"); name = codes "one" }
            ∷ record { line = 9; kind = number_kind I8; name = codes "y1" }
            ∷ record { line = 9; kind = number_kind I32; name = codes "y3" } ∷ [];
      }
      ∷ [];
  procedures = record {
    line = 10;
    private = true;
    name = codes "inner_step";
    of = codes "inner";
    params = record { line = 10; type = I16; name = codes "u1" } ∷ [];
    body =
        (more_stmts
        (branch_else 11 (both (compare Gt (read 11 (param (codes "u1"))) (literal 2000))
        (negated (compare Eq (read 11 (own (codes "k1"))) (literal 3))))
        (more_stmts
        (assign 11 (codes "v0") I8
        (pure 11 (codes "clamp")
        (more_exprs
        (pure 11 (codes "round_nearest")
        (more_exprs (read 11 (param (codes "u1"))) (more_exprs (literal 16) no_exprs)))
        (more_exprs (neg (literal 128)) (more_exprs (literal 127) no_exprs))))) no_stmts)
        (more_stmts
        (assign 12 (codes "v0") I8
        (pure 12 (codes "wrap")
        (more_exprs
        (pure 12 (codes "round_ceiling")
        (more_exprs (read 12 (param (codes "u1"))) (more_exprs (literal 16) no_exprs)))
        (more_exprs (neg (literal 128)) (more_exprs (literal 256) no_exprs))))) no_stmts))
        (more_stmts
        (branch 13
        (either (compare Lt (read 13 (own (codes "k1"))) (literal 3))
        (compare Eq (read 13 (param (codes "u1"))) (literal 0)))
        (more_stmts
        (assign 13 (codes "k1") U8 (binary Rem (binary Add (read 13 (own (codes "k1"))) (literal 1))
        (literal 4))) no_stmts)) no_stmts));
  }
      ∷ record {
        line = 15;
        private = false;
        name = codes "inner_out1";
        of = codes "inner";
        params = record { line = 15; type = I16; name = codes "u1" } ∷ [];
        body =
            (more_stmts
            (call 15 (codes "inner_step") own_target
            (more_arguments I16 (read 15 (param (codes "u1"))) no_arguments)) no_stmts);
      }
      ∷ record {
        line = 16;
        private = false;
        name = codes "root_start";
        of = codes "root";
        params = [];
        body = no_stmts;
      }
      ∷ record {
        line = 17;
        private = false;
        name = codes "root_step";
        of = codes "root";
        params = record { line = 17; type = I16; name = codes "u1" } ∷ [];
        body =
            (more_stmts
            (call 18 (codes "inner_out1") (field_target (codes "one"))
            (more_arguments I16 (read 18 (param (codes "u1"))) no_arguments))
            (more_stmts (assign 19 (codes "y1") I8 (read 19 (child (codes "one") (codes "v0"))))
            (more_stmts
            (assign 20 (codes "y2") I32
            (pure 20 (codes "round_floor")
            (more_exprs (read 20 (param (codes "u1"))) (more_exprs (literal 16) no_exprs))))
            (more_stmts
            (assign 21 (codes "y3") I32
            (binary Mul (literal 1000)
            (binary Add (read 21 (child (codes "one") (codes "k1")))
            (read 21 (param (codes "u1"))))))
            no_stmts))));
      }
      ∷ [];
}

pub rounds-no_token_fault : token_fault file_needs (last_line rounds_text) (tokens_of rounds_text)
    ≡ None
rounds-no_token_fault = refl

pub rounds-spelled : Spells (tokens_of rounds_text) rounds_written
unfolding digits
rounds-spelled = refl

pub rounds-resolved : resolve_program (last_line rounds_text) rounds_written ≡ Ok rounds_program
unfolding digits
rounds-resolved = refl
