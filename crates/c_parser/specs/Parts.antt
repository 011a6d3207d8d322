-- Pure functions and procedures by their parts.
use Rattle.std.specs.Prelude.{ℕ, Bool, suc, List, ◌∷◌, length, codes, bytes_eq, Ok}
use Rattle.base_core.specs.Results.{◌>>=◌, ◌>>◌}
use Rattle.c_grammar.specs.Tokens.{Token}
use Rattle.c_grammar.specs.Written.{WrittenExpr, WrittenPure, WrittenPureParam, WrittenProcedure}
use Rattle.c_grammar.specs.Parsing.{Parsed, Limits, many, or_syntax_unless, next, parse_word, parse_name, parse_expr, parse_pure_param, pure_params_step, params_step, parse_block, parse_stmt}
use Rattle.c_grammar.specs.declared.written.WrittenExpr.{WrittenExpr as Expr}
use Rattle.c_grammar.specs.WrittenTrees.{expr_of}

-- a line with an expression
abbrev pub returned_of : ℕ × Expr → ℕ × WrittenExpr
returned_of read = (read.0, expr_of read.1)

module _ (last : ℕ) where
  -- the struct of a procedure's instance
  abbrev pub instance : List Token → Parsed (List ℕ)
  instance tokens = do
    struct_word ← parse_word last (codes "struct") tokens
    of ← parse_name last struct_word.1
    star ← parse_word last (codes "*") of.1
    name ← parse_word last (codes "s") star.1
    Ok (of.0, name.1)

  module _ (limits : Limits) where
    -- the parameters of a pure function, of which there is one at least, and the `)`
    abbrev pub pure_params : List Token → Parsed (List WrittenPureParam)
    pure_params tokens = do
      first ← parse_pure_param last limits 0 tokens
      later ← many (pure_params_step last limits) (suc (length first.1)) 1 first.1
      Ok (first.0 ∷ later.0, later.1)

    -- what a pure function returns, with the line of its `return`, and the `}`
    abbrev pub returned : List Token → Parsed (ℕ × WrittenExpr)
    returned tokens = do
      r ← next last tokens
      or_syntax_unless r.0 (bytes_eq r.0.text (codes "return"))
      body ← parse_expr last limits.exprs r.1
      end ← parse_word last (codes ";") body.1
      close ← parse_word last (codes "}") end.1
      Ok ((r.0.line, body.0), close.1)

    -- a pure function after its `static`
    abbrev pub pure_parts : Token → List Token → Parsed WrittenPure
    pure_parts t tokens = do
      type ← parse_word last (codes "int64_t") tokens
      name ← parse_name last type.1
      opened ← parse_word last (codes "(") name.1
      params ← pure_params opened.1
      open_body ← parse_word last (codes "{") params.1
      body ← returned open_body.1
      Ok (
        record {
          line = t.line;
          name = name.0;
          params = params.0;
          return_line = body.0.0;
          body = body.0.1;
        },
        body.1,
      )

    -- a procedure after its `void`
    abbrev pub procedure_parts : (line : ℕ) → (private : Bool) → List Token →
        Parsed WrittenProcedure
    procedure_parts line private tokens = do
      name ← parse_name last tokens
      opened ← parse_word last (codes "(") name.1
      of ← instance opened.1
      params ← many (params_step last limits) (suc (length of.1)) 0 of.1
      body ← parse_block last limits (parse_stmt last limits limits.stmts) params.1
      Ok (
        record {
          line = line;
          private = private;
          name = name.0;
          of = of.0;
          params = params.0;
          body = body.0;
        },
        body.1,
      )
