-- What the tokens of small texts open, by hand.
use Rattle.std.specs.Prelude.{◌≡◌, false, [], ◌∷◌, codes, refl}
use Rattle.base_core.specs.declared.base.Compare.TheVariants.{Lt}
use Rattle.c_syntax.specs.declared.code.BinOp.TheVariants.{Add}
use Rattle.c_syntax.specs.declared.code.CType.TheVariants.{I32}
use Rattle.c_grammar.specs.Written.{param, own, WrittenExpr, literal, neg, read, binary, pick, pure, item, no_exprs, more_exprs, compare, field_target, no_arguments, more_arguments, WrittenStmt, assign, assign_at, branch, call, no_stmts, more_stmts, WrittenPure, WrittenStruct, WrittenProcedure}
use Rattle.c_syntax.specs.Kinds.{array_kind}
use Rattle.c_grammar.specs.Openings.{none, operand, statement, pure_function, parameter, expr_openings, stmt_openings, pure_openings, structs_openings, procedures_openings}

-- `(-(INT64_C(1) + f(INT64_C(2))))`
abbrev pub nested : WrittenExpr
nested = neg (binary Add (literal 1) (pure 1 (codes "f") (more_exprs (literal 2) no_exprs)))

pub nested-opens : expr_openings 1 nested ≡
    operand 1 ∷ none
    ∷ operand 2 ∷ operand 3 ∷ none ∷ none ∷ none ∷ none
    ∷ operand 3 ∷ none ∷ operand 4 ∷ none ∷ none ∷ none ∷ none ∷ none ∷ none ∷ []
nested-opens = refl

-- `((INT64_C(1) < (int64_t)s->y) ? INT64_C(2) : INT64_C(3))`
pub choice-opens : expr_openings 1
    (pick (compare Lt (literal 1) (read 1 (own (codes "y")))) (literal 2) (literal 3)) ≡
    operand 1
    ∷ operand 2 ∷ operand 3 ∷ none ∷ none ∷ none ∷ none ∷ operand 3 ∷ none ∷ none ∷ none ∷ none
    ∷ none ∷ none
    ∷ none ∷ operand 2 ∷ none ∷ none ∷ none ∷ none ∷ operand 2 ∷ none ∷ none ∷ none ∷ none ∷ []
choice-opens = refl

-- `if (INT64_C(1) < INT64_C(2)) { s->y = (int32_t)INT64_C(3); p(&s->c, (int32_t)INT64_C(4)); }`
abbrev pub test_and-two : WrittenStmt
test_and-two =
    branch 1 (compare Lt (literal 1) (literal 2))
    (more_stmts (assign 1 (codes "y") I32 (literal 3))
    (more_stmts
    (call 1 (codes "p") (field_target (codes "c"))
    (more_arguments I32 (literal 4) no_arguments)) no_stmts))

pub test_and-two-opens : stmt_openings 1 test_and-two ≡
    statement 1
    ∷ operand 1 ∷ operand 2 ∷ none ∷ none ∷ none ∷ none ∷ operand 2 ∷ none ∷ none ∷ none ∷ none
    ∷ none
    ∷ statement 2 ∷ none ∷ none ∷ none ∷ none ∷ none ∷ none ∷ operand 1 ∷ none ∷ none ∷ none ∷ none
    ∷ statement 2 ∷ none ∷ none ∷ none ∷ none ∷ none ∷ none ∷ none ∷ none ∷ none ∷ operand 1 ∷ none
    ∷ none ∷ none ∷ none ∷ none
    ∷ none ∷ []
test_and-two-opens = refl

-- `static int64_t f(int64_t a, int64_t b) { return (int64_t)a; }`, the third pure function
abbrev pub two_params : WrittenPure
two_params =
    record {
      line = 1;
      name = codes "f";
      params = record { line = 1; name = codes "a" }
          ∷ record { line = 1; name = codes "b" } ∷ [];
      return_line = 1;
      body =
          read 1 (param (codes "a"));
    }

pub two_params-open : pure_openings 3 two_params ≡
    pure_function 3 ∷ none ∷ none ∷ none
    ∷ parameter 1 ∷ none ∷ none ∷ parameter 2 ∷ none ∷ none
    ∷ none ∷ none ∷ operand 1 ∷ none ∷ none ∷ none ∷ none ∷ none ∷ []
two_params-open = refl

-- `void p(struct c *s, int32_t a) { }`: the `s` is no parameter
abbrev pub one_param : WrittenProcedure
one_param =
    record {
      line = 1;
      private = false;
      name = codes "p";
      of = codes "c";
      params = record { line = 1; type = I32; name = codes "a" } ∷ [];
      body = no_stmts;
    }

pub one_param-opens : procedures_openings (one_param ∷ []) ≡
    none ∷ none ∷ none ∷ none ∷ none ∷ none ∷ none ∷ none ∷ parameter 1 ∷ none ∷ none ∷ none ∷ none
    ∷ []
one_param-opens = refl

-- `s->a[(-INT64_C(1))] = (int32_t)(int64_t)s->a[INT64_C(2)];`: the index of a store is outermost,
-- that of an item one deeper
abbrev pub two_items : WrittenStmt
two_items = assign_at 1 (codes "a") (neg (literal 1)) I32 (item 1 (codes "a") (literal 2))

pub two_items-open : stmt_openings 1 two_items ≡
    statement 1 ∷ none ∷ none ∷ none
    ∷ operand 1 ∷ none ∷ operand 2 ∷ none ∷ none ∷ none ∷ none
    ∷ none ∷ none ∷ none ∷ none ∷ none
    ∷ operand 1 ∷ none ∷ none ∷ none ∷ none ∷ none ∷ none ∷ operand 2 ∷ none ∷ none ∷ none ∷ none
    ∷ none ∷ []
two_items-open = refl

-- `struct c { int32_t a[3]; };`
abbrev pub one_array : WrittenStruct
one_array =
    record {
      line = 1;
      name = codes "c";
      fields = record { line = 1; kind = array_kind I32 3; name = codes "a" } ∷ [];
    }

pub one_array-opens : structs_openings (one_array ∷ []) ≡ none ∷ none ∷ none ∷ none ∷ none ∷ none
    ∷ none ∷ none ∷ none ∷ none ∷ none ∷ []
one_array-opens = refl
