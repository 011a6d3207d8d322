-- Lawful programs, and their texts.
use Rattle.std.specs.Prelude.{◌≡◌, false, pos, [], ◌∷◌, codes, refl}
use Rattle.std.specs.Fmt.{digits}
use Rattle.std.proofs.Common.{lit≤}
use Rattle.c_syntax.specs.declared.code.CType.TheVariants.{I16}
use Rattle.c_syntax.specs.declared.code.Leaf.TheVariants.{Param}
use Rattle.c_syntax.specs.declared.program.FieldKind.TheVariants.{Array}
use Rattle.c_syntax.specs.Tree.{literal, read, item, assign, assign_at, stmts_of_list, FieldTree, StmtTrees, StructTree, ProgramTree}
use Rattle.c_syntax.specs.Lawful.{IsLawful, IsArrayAt}
use Rattle.c_printer.specs.Printing.{program_bytes}
use Rattle.c_grammar.specs.TextLines.{text_of_lines}
use Rattle.c_syntax.specs.ProgramExamples.{field, param}

-- the output is the input
abbrev pub small_program : ProgramTree
small_program = record {
  pures = [];
  structs = record { name = codes "root"; fields = field (codes "y1") ∷ [] } ∷ [];
  procedures =
      record {
        name = codes "root_start";
        private = false;
        of = 0;
        params = [];
        body = stmts_of_list [];
      }
      ∷ record {
        name = codes "root_step";
        private = false;
        of = 0;
        params = param (codes "u1")
            ∷ [];
        body = stmts_of_list (assign 0 0 (read (Param 0)) ∷ []);
      }
      ∷ [];
}

pub small_program-printed : program_bytes small_program ≡ text_of_lines
    (codes "#include <stdint.h>"
    ∷ []
    ∷ codes "struct root {"
    ∷ codes "    int32_t y1;"
    ∷ codes "};"
    ∷ []
    ∷ codes "void root_start(struct root *s) {"
    ∷ codes "}"
    ∷ []
    ∷ codes "void root_step(struct root *s, int32_t u1) {"
    ∷ codes "    s->y1 = (int32_t)(int64_t)u1;"
    ∷ codes "}"
    ∷ [])
small_program-printed = refl

pub small_program-lawful : IsLawful small_program
unfolding digits
small_program-lawful = record {
  functions = (refl, refl, (refl, refl, tt));
  struct_names = (refl, refl, tt);
  pures = tt;
  structs = (
    record {
      fields = (refl, refl, tt);
      some = lit≤ tt;
      kinds = (tt, tt);
      outputs = λ root. (refl, tt);
    },
    tt,
  );
  procedures = (
    record { of = lit≤ tt; params = tt; apart = tt; body = tt },
    (
      record {
        of = lit≤ tt;
        params = (refl, refl, tt);
        apart = (refl, tt);
        body = (((field (codes "y1"), refl, refl), lit≤ tt), tt);
      },
      tt,
    ),
  );
  root = record {
    of = 0;
    struct = record { name = codes "root"; fields = field (codes "y1") ∷ [] };
    struct_there = refl;
    struct_name = refl;
    start = 0;
    start_procedure =
        record {
          name = codes "root_start";
          private = false;
          of = 0;
          params = [];
          body = stmts_of_list [];
        };
    start_there = refl;
    start_name = refl;
    start_of = refl;
    start_params = refl;
    step = 1;
    step_procedure =
        record {
          name = codes "root_step";
          private = false;
          of = 0;
          params = param (codes "u1")
              ∷ [];
          body = stmts_of_list (assign 0 0 (read (Param 0)) ∷ []);
        };
    step_there = refl;
    step_name = refl;
    step_of = refl;
    step_params = ((λ same. cc), tt);
  };
  chains = (lit≤ tt, (lit≤ tt, tt));
  limits =
      record {
        count = lit≤ tt;
        pures = tt;
        procedures = (
          record { params = lit≤ tt; statements = lit≤ tt; expressions = lit≤ tt },
          (record { params = lit≤ tt; statements = lit≤ tt; expressions = lit≤ tt }, tt),
        );
      };
}

-- three items: the last is stored in one of them, and the first is the output
abbrev items_field : FieldTree
items_field = record { name = codes "a"; kind = Array I16 3 }

abbrev items_struct : StructTree
items_struct = record { name = codes "root"; fields = field (codes "y1") ∷ items_field ∷ [] }

abbrev items_body : StmtTrees
items_body =
    stmts_of_list (assign_at 0 1 (read (Param 0)) (item 1 (literal (pos 2)))
    ∷ assign 0 0 (item 1 (literal (pos 0))) ∷ [])

abbrev pub items_program : ProgramTree
items_program = record {
  pures = [];
  structs = items_struct ∷ [];
  procedures =
      record {
        name = codes "root_start";
        private = false;
        of = 0;
        params = [];
        body = stmts_of_list [];
      }
      ∷ record {
        name = codes "root_step";
        private = false;
        of = 0;
        params = param (codes "u1")
            ∷ [];
        body = items_body;
      }
      ∷ [];
}

pub items_program-printed : program_bytes items_program ≡ text_of_lines
    (codes "#include <stdint.h>"
    ∷ []
    ∷ codes "struct root {"
    ∷ codes "    int32_t y1;"
    ∷ codes "    int16_t a[3];"
    ∷ codes "};"
    ∷ []
    ∷ codes "void root_start(struct root *s) {"
    ∷ codes "}"
    ∷ []
    ∷ codes "void root_step(struct root *s, int32_t u1) {"
    ∷ codes "    s->a[(int64_t)u1] = (int16_t)(int64_t)s->a[INT64_C(2)];"
    ∷ codes "    s->y1 = (int32_t)(int64_t)s->a[INT64_C(0)];"
    ∷ codes "}"
    ∷ [])
unfolding digits
items_program-printed = refl

items-there : IsArrayAt items_struct.fields 1
items-there = (items_field, I16, 3, refl, refl)

pub items_program-lawful : IsLawful items_program
unfolding digits
items_program-lawful = record {
  functions = (refl, refl, (refl, refl, tt));
  struct_names = (refl, refl, tt);
  pures = tt;
  structs = (
    record {
      fields = (refl, refl, (refl, refl, tt));
      some = lit≤ tt;
      kinds = (tt, ((lit≤ tt, lit≤ tt), tt));
      outputs = λ root. (refl, (refl, tt));
    },
    tt,
  );
  procedures = (
    record { of = lit≤ tt; params = tt; apart = tt; body = tt },
    (
      record {
        of = lit≤ tt;
        params = (refl, refl, tt);
        apart = (refl, tt);
        body = (
          (items-there, lit≤ tt, (items-there, (2, refl, lit≤ tt))),
          (((field (codes "y1"), refl, refl), (items-there, (0, refl, lit≤ tt))), tt),
        );
      },
      tt,
    ),
  );
  root = record {
    of = 0;
    struct = items_struct;
    struct_there = refl;
    struct_name = refl;
    start = 0;
    start_procedure =
        record {
          name = codes "root_start";
          private = false;
          of = 0;
          params = [];
          body = stmts_of_list [];
        };
    start_there = refl;
    start_name = refl;
    start_of = refl;
    start_params = refl;
    step = 1;
    step_procedure =
        record {
          name = codes "root_step";
          private = false;
          of = 0;
          params = param (codes "u1")
              ∷ [];
          body = items_body;
        };
    step_there = refl;
    step_name = refl;
    step_of = refl;
    step_params = ((λ same. cc), tt);
  };
  chains = (lit≤ tt, (lit≤ tt, tt));
  limits =
      record {
        count = lit≤ tt;
        pures = tt;
        procedures = (
          record { params = lit≤ tt; statements = lit≤ tt; expressions = lit≤ tt },
          (record { params = lit≤ tt; statements = lit≤ tt; expressions = lit≤ tt }, tt),
        );
      };
}
