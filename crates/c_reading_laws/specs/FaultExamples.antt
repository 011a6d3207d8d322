-- Texts of the grammar that break a static rule, with their first errors.
use Rattle.std.specs.Prelude.{ℕ, false, List, [], ◌∷◌, codes, refl}
use Rattle.std.specs.Fmt.{digits}
use Rattle.c_syntax.specs.declared.code.CType.TheVariants.{I16, I32, I64}
use Rattle.c_syntax.specs.declared.fault.CKind.TheVariants.{Name, TypeRule}
use Rattle.c_syntax.specs.Kinds.{number_kind, struct_kind}
use Rattle.c_grammar.specs.Written.{param, own, read, pure, no_exprs, more_exprs, own_target, no_arguments, assign, call, no_stmts, more_stmts, WrittenProgram}
use Rattle.c_grammar.specs.Prefix.{fault_at}
use Rattle.c_rules.specs.Reading.{CFaultOf}
use Rattle.c_grammar.specs.TextLines.{text_of_lines}

abbrev pub twice_named_field_text : List ℕ
twice_named_field_text = text_of_lines
    (codes "#include <stdint.h>"
    ∷ codes "struct root { int32_t y1;"
    ∷ codes "int32_t y1; };"
    ∷ codes "void root_start(struct root *s) { }"
    ∷ codes "void root_step(struct root *s, int32_t u1) { }"
    ∷ [])

abbrev pub twice_named_field_written : WrittenProgram
twice_named_field_written = record {
  pures = [];
  structs =
      record {
        line = 2;
        name = codes "root";
        fields = record { line = 2; kind = number_kind I32; name = codes "y1" }
            ∷ record { line = 3; kind = number_kind I32; name = codes "y1" } ∷ [];
      }
      ∷ [];
  procedures = record {
    line = 4;
    private = false;
    name = codes "root_start";
    of = codes "root";
    params = [];
    body = no_stmts;
  }
      ∷ record {
        line = 5;
        private = false;
        name = codes "root_step";
        of = codes "root";
        params = record { line = 5; type = I32; name = codes "u1" } ∷ [];
        body = no_stmts;
      }
      ∷ [];
}

pub twice_named_field-refused : CFaultOf twice_named_field_text (fault_at 3 Name)
unfolding digits
twice_named_field-refused = (twice_named_field_written, refl, refl)

abbrev pub output_gap_text : List ℕ
output_gap_text = text_of_lines
    (codes "#include <stdint.h>"
    ∷ codes "struct root { int32_t y1;"
    ∷ codes "int32_t y3; };"
    ∷ codes "void root_start(struct root *s) { }"
    ∷ codes "void root_step(struct root *s, int32_t u1) { }"
    ∷ [])

abbrev pub output_gap_written : WrittenProgram
output_gap_written = record {
  pures = [];
  structs =
      record {
        line = 2;
        name = codes "root";
        fields = record { line = 2; kind = number_kind I32; name = codes "y1" }
            ∷ record { line = 3; kind = number_kind I32; name = codes "y3" } ∷ [];
      }
      ∷ [];
  procedures = record {
    line = 4;
    private = false;
    name = codes "root_start";
    of = codes "root";
    params = [];
    body = no_stmts;
  }
      ∷ record {
        line = 5;
        private = false;
        name = codes "root_step";
        of = codes "root";
        params = record { line = 5; type = I32; name = codes "u1" } ∷ [];
        body = no_stmts;
      }
      ∷ [];
}

pub output_gap-refused : CFaultOf output_gap_text (fault_at 3 TypeRule)
unfolding digits
output_gap-refused = (output_gap_written, refl, refl)

abbrev pub output_struct_text : List ℕ
output_struct_text = text_of_lines
    (codes "#include <stdint.h>"
    ∷ codes "struct one { int32_t v0; };"
    ∷ codes "struct root {"
    ∷ codes "struct one y1; };"
    ∷ codes "void root_start(struct root *s) { }"
    ∷ codes "void root_step(struct root *s, int32_t u1) { }"
    ∷ [])

abbrev pub output_struct_written : WrittenProgram
output_struct_written = record {
  pures = [];
  structs =
      record {
        line = 2;
        name = codes "one";
        fields = record { line = 2; kind = number_kind I32; name = codes "v0" } ∷ [];
      }
      ∷ record {
        line = 3;
        name = codes "root";
        fields = record { line = 4; kind = struct_kind (codes "one"); name = codes "y1" } ∷ [];
      }
      ∷ [];
  procedures = record {
    line = 5;
    private = false;
    name = codes "root_start";
    of = codes "root";
    params = [];
    body = no_stmts;
  }
      ∷ record {
        line = 6;
        private = false;
        name = codes "root_step";
        of = codes "root";
        params = record { line = 6; type = I32; name = codes "u1" } ∷ [];
        body = no_stmts;
      }
      ∷ [];
}

pub output_struct-refused : CFaultOf output_struct_text (fault_at 4 TypeRule)
unfolding digits
output_struct-refused = (output_struct_written, refl, refl)

abbrev pub struct_in_itself_text : List ℕ
struct_in_itself_text = text_of_lines
    (codes "#include <stdint.h>"
    ∷ codes "struct root { int32_t y1;"
    ∷ codes "struct root one; };"
    ∷ codes "void root_start(struct root *s) { }"
    ∷ codes "void root_step(struct root *s, int32_t u1) { }"
    ∷ [])

abbrev pub struct_in_itself_written : WrittenProgram
struct_in_itself_written = record {
  pures = [];
  structs =
      record {
        line = 2;
        name = codes "root";
        fields = record { line = 2; kind = number_kind I32; name = codes "y1" }
            ∷ record { line = 3; kind = struct_kind (codes "root"); name = codes "one" } ∷ [];
      }
      ∷ [];
  procedures = record {
    line = 4;
    private = false;
    name = codes "root_start";
    of = codes "root";
    params = [];
    body = no_stmts;
  }
      ∷ record {
        line = 5;
        private = false;
        name = codes "root_step";
        of = codes "root";
        params = record { line = 5; type = I32; name = codes "u1" } ∷ [];
        body = no_stmts;
      }
      ∷ [];
}

pub struct_in_itself-refused : CFaultOf struct_in_itself_text (fault_at 3 Name)
unfolding digits
struct_in_itself-refused = (struct_in_itself_written, refl, refl)

abbrev pub param_named_as_function_text : List ℕ
param_named_as_function_text = text_of_lines
    (codes "#include <stdint.h>"
    ∷ codes "static int64_t f(int64_t v) { return (int64_t)v; }"
    ∷ codes "struct root { int32_t y1; };"
    ∷ codes "void root_start(struct root *s) { }"
    ∷ codes "void root_step(struct root *s, int32_t u1,"
    ∷ codes "int32_t f) { }"
    ∷ [])

abbrev pub param_named_as_function_written : WrittenProgram
param_named_as_function_written = record {
  pures = record {
    line = 2;
    name = codes "f";
    params = record { line = 2; name = codes "v" } ∷ [];
    return_line = 2;
    body = (read 2 (param (codes "v")));
  }
      ∷ [];
  structs =
      record {
        line = 3;
        name = codes "root";
        fields = record { line = 3; kind = number_kind I32; name = codes "y1" } ∷ [];
      }
      ∷ [];
  procedures = record {
    line = 4;
    private = false;
    name = codes "root_start";
    of = codes "root";
    params = [];
    body = no_stmts;
  }
      ∷ record {
        line = 5;
        private = false;
        name = codes "root_step";
        of = codes "root";
        params = record { line = 5; type = I32; name = codes "u1" }
            ∷ record { line = 6; type = I32; name = codes "f" } ∷ [];
        body = no_stmts;
      }
      ∷ [];
}

pub param_named_as_function-refused : CFaultOf param_named_as_function_text (fault_at 6 Name)
unfolding digits
param_named_as_function-refused = (param_named_as_function_written, refl, refl)

abbrev pub field_in_pure_text : List ℕ
field_in_pure_text = text_of_lines
    (codes "#include <stdint.h>"
    ∷ codes "static int64_t f(int64_t v) { return"
    ∷ codes "(int64_t)s->y1; }"
    ∷ codes "struct root { int32_t y1; };"
    ∷ codes "void root_start(struct root *s) { }"
    ∷ codes "void root_step(struct root *s, int32_t u1) { }"
    ∷ [])

abbrev pub field_in_pure_written : WrittenProgram
field_in_pure_written = record {
  pures = record {
    line = 2;
    name = codes "f";
    params = record { line = 2; name = codes "v" } ∷ [];
    return_line = 2;
    body = (read 3 (own (codes "y1")));
  }
      ∷ [];
  structs =
      record {
        line = 4;
        name = codes "root";
        fields = record { line = 4; kind = number_kind I32; name = codes "y1" } ∷ [];
      }
      ∷ [];
  procedures = record {
    line = 5;
    private = false;
    name = codes "root_start";
    of = codes "root";
    params = [];
    body = no_stmts;
  }
      ∷ record {
        line = 6;
        private = false;
        name = codes "root_step";
        of = codes "root";
        params = record { line = 6; type = I32; name = codes "u1" } ∷ [];
        body = no_stmts;
      }
      ∷ [];
}

pub field_in_pure-refused : CFaultOf field_in_pure_text (fault_at 3 Name)
unfolding digits
field_in_pure-refused = (field_in_pure_written, refl, refl)

abbrev pub other_cast_text : List ℕ
other_cast_text = text_of_lines
    (codes "#include <stdint.h>"
    ∷ codes "struct root { int32_t y1; };"
    ∷ codes "void root_start(struct root *s) { }"
    ∷ codes "void root_step(struct root *s, int32_t u1) {"
    ∷ codes "s->y1 = (int16_t)(int64_t)q; }"
    ∷ [])

abbrev pub other_cast_written : WrittenProgram
other_cast_written = record {
  pures = [];
  structs =
      record {
        line = 2;
        name = codes "root";
        fields = record { line = 2; kind = number_kind I32; name = codes "y1" } ∷ [];
      }
      ∷ [];
  procedures = record {
    line = 3;
    private = false;
    name = codes "root_start";
    of = codes "root";
    params = [];
    body = no_stmts;
  }
      ∷ record {
        line = 4;
        private = false;
        name = codes "root_step";
        of = codes "root";
        params = record { line = 4; type = I32; name = codes "u1" } ∷ [];
        body =
            (more_stmts (assign 5 (codes "y1") I16 (read 5 (param (codes "q")))) no_stmts);
      }
      ∷ [];
}

pub other_cast-refused : CFaultOf other_cast_text (fault_at 5 TypeRule)
unfolding digits
other_cast-refused = (other_cast_written, refl, refl)

abbrev pub value_count_text : List ℕ
value_count_text = text_of_lines
    (codes "#include <stdint.h>"
    ∷ codes "static int64_t f(int64_t v) { return (int64_t)v; }"
    ∷ codes "struct root { int32_t y1; };"
    ∷ codes "void root_start(struct root *s) { }"
    ∷ codes "void root_step(struct root *s, int32_t u1) {"
    ∷ codes "s->y1 = (int32_t)f((int64_t)u1, (int64_t)q); }"
    ∷ [])

abbrev pub value_count_written : WrittenProgram
value_count_written = record {
  pures = record {
    line = 2;
    name = codes "f";
    params = record { line = 2; name = codes "v" } ∷ [];
    return_line = 2;
    body = (read 2 (param (codes "v")));
  }
      ∷ [];
  structs =
      record {
        line = 3;
        name = codes "root";
        fields = record { line = 3; kind = number_kind I32; name = codes "y1" } ∷ [];
      }
      ∷ [];
  procedures = record {
    line = 4;
    private = false;
    name = codes "root_start";
    of = codes "root";
    params = [];
    body = no_stmts;
  }
      ∷ record {
        line = 5;
        private = false;
        name = codes "root_step";
        of = codes "root";
        params = record { line = 5; type = I32; name = codes "u1" } ∷ [];
        body =
            (more_stmts
            (assign 6 (codes "y1") I32
            (pure 6 (codes "f")
            (more_exprs (read 6 (param (codes "u1")))
            (more_exprs (read 6 (param (codes "q"))) no_exprs)))) no_stmts);
      }
      ∷ [];
}

pub value_count-refused : CFaultOf value_count_text (fault_at 6 TypeRule)
unfolding digits
value_count-refused = (value_count_written, refl, refl)

abbrev pub call_of_itself_text : List ℕ
call_of_itself_text = text_of_lines
    (codes "#include <stdint.h>"
    ∷ codes "struct root { int32_t y1; };"
    ∷ codes "void root_start(struct root *s) {"
    ∷ codes "root_start(s); }"
    ∷ codes "void root_step(struct root *s, int32_t u1) { }"
    ∷ [])

abbrev pub call_of_itself_written : WrittenProgram
call_of_itself_written = record {
  pures = [];
  structs =
      record {
        line = 2;
        name = codes "root";
        fields = record { line = 2; kind = number_kind I32; name = codes "y1" } ∷ [];
      }
      ∷ [];
  procedures = record {
    line = 3;
    private = false;
    name = codes "root_start";
    of = codes "root";
    params = [];
    body =
        (more_stmts (call 4 (codes "root_start") own_target no_arguments) no_stmts);
  }
      ∷ record {
        line = 5;
        private = false;
        name = codes "root_step";
        of = codes "root";
        params = record { line = 5; type = I32; name = codes "u1" } ∷ [];
        body = no_stmts;
      }
      ∷ [];
}

pub call_of_itself-refused : CFaultOf call_of_itself_text (fault_at 4 Name)
unfolding digits
call_of_itself-refused = (call_of_itself_written, refl, refl)

abbrev pub wide_step_param_text : List ℕ
wide_step_param_text = text_of_lines
    (codes "#include <stdint.h>"
    ∷ codes "struct root { int32_t y1; };"
    ∷ codes "void root_start(struct root *s) { }"
    ∷ codes "void root_step(struct root *s,"
    ∷ codes "int64_t u1) { }"
    ∷ [])

abbrev pub wide_step_param_written : WrittenProgram
wide_step_param_written = record {
  pures = [];
  structs =
      record {
        line = 2;
        name = codes "root";
        fields = record { line = 2; kind = number_kind I32; name = codes "y1" } ∷ [];
      }
      ∷ [];
  procedures = record {
    line = 3;
    private = false;
    name = codes "root_start";
    of = codes "root";
    params = [];
    body = no_stmts;
  }
      ∷ record {
        line = 4;
        private = false;
        name = codes "root_step";
        of = codes "root";
        params = record { line = 5; type = I64; name = codes "u1" } ∷ [];
        body = no_stmts;
      }
      ∷ [];
}

pub wide_step_param-refused : CFaultOf wide_step_param_text (fault_at 4 TypeRule)
unfolding digits
wide_step_param-refused = (wide_step_param_written, refl, refl)

abbrev pub no_step_text : List ℕ
no_step_text = text_of_lines
    (codes "#include <stdint.h>"
    ∷ codes "struct root { int32_t y1; };"
    ∷ codes "void root_start(struct root *s) {"
    ∷ codes "}"
    ∷ [])

abbrev pub no_step_written : WrittenProgram
no_step_written = record {
  pures = [];
  structs =
      record {
        line = 2;
        name = codes "root";
        fields = record { line = 2; kind = number_kind I32; name = codes "y1" } ∷ [];
      }
      ∷ [];
  procedures = record {
    line = 3;
    private = false;
    name = codes "root_start";
    of = codes "root";
    params = [];
    body = no_stmts;
  }
      ∷ [];
}

pub no_step-refused : CFaultOf no_step_text (fault_at 4 Name)
unfolding digits
no_step-refused = (no_step_written, refl, refl)
