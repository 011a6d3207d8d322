-- Behind statements and definitions there are fewer tokens.
use Rattle.std.proofs.Common.{◌≡◌, refl, ℕ, zero, suc, ◌+◌, ◌<◌, List, [], ◌∷◌, length, Bool, true, false, codes, bytes_eq, nat_le, Result, Ok, Err, arith}
use Rattle.c_syntax.specs.declared.code.CType.{CType}
use Rattle.c_syntax.specs.declared.fault.CFault.{CFault}
use Rattle.c_grammar.specs.Tokens.{Token}
use Rattle.c_grammar.specs.Written.{WrittenCond, WrittenStmt, WrittenStmts, own_target, WrittenPureParam, WrittenParam, WrittenPure, WrittenField, WrittenStruct, WrittenProcedure}
use Rattle.base_core.specs.Results.{◌>>=◌, ◌>>◌}
use Rattle.c_grammar.specs.Parsing.{Parsed, Limits, Argument, Step, one_more, many, or_syntax, or_syntax_unless, or_deep_unless, next, parse_word, parse_name, parse_literal, parse_cast, parse_field_name, parse_index, parse_operand, parse_expr, parse_cond, first_text, comma_of, type_of_text, parse_target_from, parse_target, target_opener_of, stmt_opener_of, definition_of, arguments_step_by, arguments_step, parse_stored, parse_store_in, parse_store, parse_call, stmts_step_by, stmts_step, parse_block, parse_second, parse_if, parse_stmt_opened, stmt_too_deep, parse_stmt, parse_pure_param, pure_params_step_by, pure_params_step, parse_param, params_step_by, params_step, parse_pure, parse_length, parse_field_from, parse_field, fields_step_by, fields_step, parse_struct, parse_procedure_behind, parse_procedure, pures_step_by, pures_step, structs_step_by, structs_step, procedures_step}
use Rattle.c_grammar.specs.declared.openers.Comma.{Comma}
use Rattle.c_grammar.specs.declared.openers.Comma.TheVariants.{Another as another, Closed as closed, Nothing as no_comma}
use Rattle.c_grammar.specs.declared.openers.Definition.{Definition}
use Rattle.c_grammar.specs.declared.openers.Definition.TheVariants.{Static as static_definition, Struct as struct_definition, Void as void_definition, Nothing as no_definition}
use Rattle.c_grammar.specs.declared.openers.StmtOpener.{StmtOpener}
use Rattle.c_grammar.specs.declared.openers.StmtOpener.TheVariants.{Store as store_opener, If as if_opener, Call as invoke_opener, Nothing as no_stmt}
use Rattle.c_grammar.specs.declared.openers.TargetOpener.{TargetOpener}
use Rattle.c_grammar.specs.declared.openers.TargetOpener.TheVariants.{Own as own_opener, Field as field_opener, Nothing as no_target}
use Rattle.c_tokens.proofs.Fewer.{Below, StepBelow, below-ok, below-err, below-then, below-after, below-unless, below-more, step-more, step-err, step-end, step-then, step-wider, many-below, next-below, word-below, name-below, literal-below, cast-below, field_name-below, expr-below, outer_index-below, cond-below}

step-unless : {X Y : Type 0} (n : ℕ) (r : Result X CFault) (s : Result (Step Y) CFault) → StepBelow n s → StepBelow n (r >> s)
step-unless n (Ok x) s later = later
step-unless n (Err fault) s later = step-err n fault

step-ok : {X Y : Type 0} (n : ℕ) (y : Y) (r : Parsed X) → Below n r →
    StepBelow {X = Y × X} n (r >>= (λ (x : X × List Token). Ok (one_more (y, x.0) x.1)))
step-ok {X} {Y} n y (Ok read) below =
    step-more {X = Y × X} n (Ok ((y, read.0), read.1))
    (below-ok {X = Y × X} n (y, read.0) read.1 (below.by read.0 read.1 refl))
step-ok n y (Err fault) below = step-err n fault

module _ (last : ℕ) where
  target_from-below : (t : Token) (tokens : List Token) (opener : TargetOpener) →
      Below (suc (length tokens)) (parse_target_from last t tokens opener)
  target_from-below t tokens own_opener = below-ok (suc (length tokens)) own_target tokens (omega arith)
  target_from-below t tokens field_opener =
      below-then (length tokens) (suc (length tokens)) (parse_word last (codes "s") tokens) _
      (word-below last (codes "s") tokens) (λ instance h.
      below-then (length instance.1) (suc (length tokens)) (parse_field_name last instance.1) _
      (field_name-below last instance.1) (λ field k.
      below-ok (suc (length tokens)) _ field.1 (omega arith)))
  target_from-below t tokens no_target = below-err (suc (length tokens)) _

  target-below : (tokens : List Token) → Below (length tokens) (parse_target last tokens)
  target-below tokens =
      below-then (length tokens) (length tokens) (next last tokens) _ (next-below last tokens) (λ t h.
      below-more (suc (length t.1)) (length tokens) (parse_target_from last t.0 t.1 (target_opener_of t.0.text))
      (omega arith) (target_from-below t.0 t.1 (target_opener_of t.0.text)))

  module _ (limits : Limits) where
    arguments_step_by-below : (t : Token) (tokens : List Token) (comma : Comma) →
        StepBelow (suc (length tokens)) (arguments_step_by last limits t tokens comma)
    arguments_step_by-below t tokens another =
        step-then (length tokens) (suc (length tokens)) (parse_cast last tokens) _ (cast-below last tokens) (λ type h.
        step-ok (suc (length tokens)) type.0 (parse_expr last limits.exprs type.1)
        (below-more (length type.1) (suc (length tokens)) (parse_expr last limits.exprs type.1) (omega arith)
        (expr-below last limits.exprs type.1)))
    arguments_step_by-below t tokens closed = step-end (suc (length tokens)) tokens (omega arith)
    arguments_step_by-below t tokens no_comma = step-err (suc (length tokens)) _

    arguments_step-below : (count : ℕ) (tokens : List Token) → StepBelow (length tokens) (arguments_step last limits count tokens)
    arguments_step-below count tokens =
        step-then (length tokens) (length tokens) (next last tokens) _ (next-below last tokens) (λ t h.
        step-wider (suc (length t.1)) (length tokens) (arguments_step_by last limits t.0 t.1 (comma_of t.0.text))
        (omega arith) (arguments_step_by-below t.0 t.1 (comma_of t.0.text)))

    pub arguments_step-falls : (count : ℕ) (tokens : List Token) (x : Argument) (rest : List Token) →
        arguments_step last limits count tokens ≡ Ok (one_more x rest) → length rest < length tokens
    arguments_step-falls count tokens x rest e = (arguments_step-below count tokens).more x rest e

    stored-below : (tokens : List Token) → Below (length tokens) (parse_stored last limits tokens)
    stored-below tokens =
        below-then (length tokens) (length tokens) (parse_word last (codes "=") tokens) _ (word-below last (codes "=") tokens) (λ equals k.
        below-then (length equals.1) (length tokens) (parse_cast last equals.1) _ (cast-below last equals.1) (λ type j.
        below-then (length type.1) (length tokens) (parse_expr last limits.exprs type.1) _ (expr-below last limits.exprs type.1) (λ e i.
        below-then (length e.1) (length tokens) (parse_word last (codes ";") e.1) _ (word-below last (codes ";") e.1) (λ end g.
        below-ok (length tokens) _ end.1 (omega arith)))))

    store_in-below : (t : Token) (field : List ℕ) (tokens : List Token) (has_index : Bool)
        → Below (length tokens) (parse_store_in last limits t field tokens has_index)
    store_in-below t field tokens true =
        below-then (length tokens) (length tokens) (parse_index last (parse_operand last limits.exprs) tokens) _
        (outer_index-below last limits.exprs tokens) (λ index h.
        below-then (length index.1) (length tokens) (parse_stored last limits index.1) _ (stored-below index.1) (λ stored k.
        below-ok (length tokens) _ stored.1 (omega arith)))
    store_in-below t field tokens false =
        below-then (length tokens) (length tokens) (parse_stored last limits tokens) _ (stored-below tokens) (λ stored h.
        below-ok (length tokens) _ stored.1 h)

    store-below : (t : Token) (tokens : List Token) → Below (length tokens) (parse_store last limits t tokens)
    store-below t tokens =
        below-then (length tokens) (length tokens) (parse_field_name last tokens) _ (field_name-below last tokens) (λ field h.
        below-more (length field.1) (length tokens) (parse_store_in last limits t field.0 field.1
        (bytes_eq (first_text field.1) (codes "["))) (omega arith)
        (store_in-below t field.0 field.1 (bytes_eq (first_text field.1) (codes "["))))

    call-below : (t : Token) (tokens : List Token) → Below (length tokens) (parse_call last limits t tokens)
    call-below t tokens =
        below-then (length tokens) (length tokens) (parse_word last (codes "(") tokens) _ (word-below last (codes "(") tokens) (λ opened h.
        below-then (length opened.1) (length tokens) (parse_target last opened.1) _ (target-below opened.1) (λ target k.
        below-then (suc (length target.1)) (length tokens)
        (many (arguments_step last limits) (suc (length target.1)) 0 target.1) _
        (many-below (arguments_step last limits) arguments_step-below (suc (length target.1)) 0 target.1)
        (λ arguments j.
        below-then (length arguments.1) (length tokens) (parse_word last (codes ";") arguments.1) _
        (word-below last (codes ";") arguments.1) (λ end i.
        below-ok (length tokens) _ end.1 (omega arith)))))

    module _ (statement : List Token → Parsed WrittenStmt) (each : (tokens : List Token) → Below (length tokens) (statement tokens)) where
      stmts_step_by-below : (tokens : List Token) (is_closed : Bool) →
          StepBelow (length tokens) (stmts_step_by last limits statement tokens is_closed)
      stmts_step_by-below tokens true =
          step-then (length tokens) (length tokens) (next last tokens) _ (next-below last tokens)
          (λ close h. step-end (length tokens) close.1 (omega arith))
      stmts_step_by-below tokens false = step-more (length tokens) (statement tokens) (each tokens)

      stmts_step-below : (count : ℕ) (tokens : List Token) → StepBelow (length tokens) (stmts_step last limits statement count tokens)
      stmts_step-below count tokens = stmts_step_by-below tokens (bytes_eq (first_text tokens) (codes "}"))

      block-below : (tokens : List Token) → Below (length tokens) (parse_block last limits statement tokens)
      block-below tokens =
          below-then (length tokens) (length tokens) (parse_word last (codes "{") tokens) _
          (word-below last (codes "{") tokens) (λ opened h.
          below-then (suc (length opened.1)) (length tokens)
          (many (stmts_step last limits statement) (suc (length opened.1)) 0 opened.1) _
          (many-below (stmts_step last limits statement) stmts_step-below (suc (length opened.1)) 0 opened.1)
          (λ ss k.
          below-ok (length tokens) _ ss.1 (omega arith)))

      second-below : (t : Token) (c : WrittenCond) (on_true : WrittenStmts) (tokens : List Token) (has_else : Bool) →
          Below (suc (length tokens)) (parse_second last limits statement t c on_true tokens has_else)
      second-below t c on_true tokens true =
          below-then (length tokens) (suc (length tokens)) (next last tokens) _ (next-below last tokens) (λ else_word h.
          below-then (length else_word.1) (suc (length tokens)) (parse_block last limits statement else_word.1) _
          (block-below else_word.1) (λ on_false k.
          below-ok (suc (length tokens)) _ on_false.1 (omega arith)))
      second-below t c on_true tokens false = below-ok (suc (length tokens)) _ tokens (omega arith)

      if-below : (t : Token) (tokens : List Token) → Below (length tokens) (parse_if last limits statement t tokens)
      if-below t tokens =
          below-then (length tokens) (length tokens) (parse_cond last limits.exprs tokens) _ (cond-below last limits.exprs tokens) (λ c h.
          below-then (length c.1) (length tokens) (parse_block last limits statement c.1) _ (block-below c.1) (λ on_true k.
          below-more (suc (length on_true.1)) (length tokens)
          (parse_second last limits statement t c.0 on_true.0 on_true.1
          (bytes_eq (first_text on_true.1) (codes "else"))) (omega arith)
          (second-below t c.0 on_true.0 on_true.1 (bytes_eq (first_text on_true.1) (codes "else")))))

      stmt_opened-below : (t : Token) (tokens : List Token) (opener : StmtOpener) →
          Below (length tokens) (parse_stmt_opened last limits statement t tokens opener)
      stmt_opened-below t tokens store_opener = store-below t tokens
      stmt_opened-below t tokens if_opener = if-below t tokens
      stmt_opened-below t tokens invoke_opener = call-below t tokens
      stmt_opened-below t tokens no_stmt = below-err (length tokens) _

    stmt_too_deep-below : (n : ℕ) (t : Token) (opener : StmtOpener) →
        Below n (stmt_too_deep last limits {X = WrittenStmt × List Token} t opener)
    stmt_too_deep-below n t store_opener = below-err n _
    stmt_too_deep-below n t if_opener = below-err n _
    stmt_too_deep-below n t invoke_opener = below-err n _
    stmt_too_deep-below n t no_stmt = below-err n _

    stmt-below : (levels : ℕ) (tokens : List Token) → Below (length tokens) (parse_stmt last limits levels tokens)
    stmt-below zero tokens =
        below-then (length tokens) (length tokens) (next last tokens) _ (next-below last tokens)
        (λ t h. stmt_too_deep-below (length tokens) t.0 (stmt_opener_of t.0.text))
    stmt-below (suc levels) tokens =
        below-then (length tokens) (length tokens) (next last tokens) _ (next-below last tokens) (λ t h.
        below-more (length t.1) (length tokens)
        (parse_stmt_opened last limits (parse_stmt last limits levels) t.0 t.1 (stmt_opener_of t.0.text))
        (omega arith) (stmt_opened-below (parse_stmt last limits levels) (stmt-below levels) t.0 t.1
        (stmt_opener_of t.0.text)))

    pub stmts_step-falls : (levels : ℕ) (count : ℕ) (tokens : List Token) (x : WrittenStmt) (rest : List Token) →
        stmts_step last limits (parse_stmt last limits levels) count tokens ≡ Ok (one_more x rest) →
        length rest < length tokens
    stmts_step-falls levels count tokens x rest e =
        (stmts_step-below (parse_stmt last limits levels) (stmt-below levels) count tokens).more x rest e

    pure_param-below : (count : ℕ) (tokens : List Token) → Below (length tokens) (parse_pure_param last limits count tokens)
    pure_param-below count tokens =
        below-then (length tokens) (length tokens) (next last tokens) _ (next-below last tokens) (λ t h.
        below-unless (length tokens) (or_syntax_unless t.0 (bytes_eq t.0.text (codes "int64_t"))) _
        (below-unless (length tokens) (or_deep_unless t.0 (nat_le (count + 1) limits.params)) _ (
        below-then (length t.1) (length tokens) (parse_name last t.1) _ (name-below last t.1) (λ name k.
        below-ok (length tokens) _ name.1 (omega arith)))))

    pure_params_step_by-below : (count : ℕ) (t : Token) (tokens : List Token) (comma : Comma) →
        StepBelow (suc (length tokens)) (pure_params_step_by last limits count t tokens comma)
    pure_params_step_by-below count t tokens another =
        step-more (suc (length tokens)) (parse_pure_param last limits count tokens)
        (below-more (length tokens) (suc (length tokens)) (parse_pure_param last limits count tokens) (omega arith)
        (pure_param-below count tokens))
    pure_params_step_by-below count t tokens closed = step-end (suc (length tokens)) tokens (omega arith)
    pure_params_step_by-below count t tokens no_comma = step-err (suc (length tokens)) _

    pure_params_step-below : (count : ℕ) (tokens : List Token) → StepBelow (length tokens) (pure_params_step last limits count tokens)
    pure_params_step-below count tokens =
        step-then (length tokens) (length tokens) (next last tokens) _ (next-below last tokens) (λ t h.
        step-wider (suc (length t.1)) (length tokens)
        (pure_params_step_by last limits count t.0 t.1 (comma_of t.0.text)) (omega arith)
        (pure_params_step_by-below count t.0 t.1 (comma_of t.0.text)))

    pub pure_params_step-falls : (count : ℕ) (tokens : List Token) (x : WrittenPureParam) (rest : List Token) →
        pure_params_step last limits count tokens ≡ Ok (one_more x rest) → length rest < length tokens
    pure_params_step-falls count tokens x rest e = (pure_params_step-below count tokens).more x rest e

    param-below : (count : ℕ) (tokens : List Token) → Below (length tokens) (parse_param last limits count tokens)
    param-below count tokens =
        below-then (length tokens) (length tokens) (next last tokens) _ (next-below last tokens) (λ t h.
        below-after (length tokens) (or_syntax t.0 (type_of_text t.0.text)) _ (λ type.
        below-unless (length tokens) (or_deep_unless t.0 (nat_le (count + 1) limits.params)) _ (
        below-then (length t.1) (length tokens) (parse_name last t.1) _ (name-below last t.1) (λ name k.
        below-ok (length tokens) _ name.1 (omega arith)))))

    params_step_by-below : (count : ℕ) (t : Token) (tokens : List Token) (comma : Comma) →
        StepBelow (suc (length tokens)) (params_step_by last limits count t tokens comma)
    params_step_by-below count t tokens another =
        step-more (suc (length tokens)) (parse_param last limits count tokens)
        (below-more (length tokens) (suc (length tokens)) (parse_param last limits count tokens) (omega arith)
        (param-below count tokens))
    params_step_by-below count t tokens closed = step-end (suc (length tokens)) tokens (omega arith)
    params_step_by-below count t tokens no_comma = step-err (suc (length tokens)) _

    params_step-below : (count : ℕ) (tokens : List Token) → StepBelow (length tokens) (params_step last limits count tokens)
    params_step-below count tokens =
        step-then (length tokens) (length tokens) (next last tokens) _ (next-below last tokens) (λ t h.
        step-wider (suc (length t.1)) (length tokens) (params_step_by last limits count t.0 t.1 (comma_of t.0.text))
        (omega arith) (params_step_by-below count t.0 t.1 (comma_of t.0.text)))

    pub params_step-falls : (count : ℕ) (tokens : List Token) (x : WrittenParam) (rest : List Token) →
        params_step last limits count tokens ≡ Ok (one_more x rest) → length rest < length tokens
    params_step-falls count tokens x rest e = (params_step-below count tokens).more x rest e

    pure-below : (t : Token) (tokens : List Token) → Below (length tokens) (parse_pure last limits t tokens)
    pure-below t tokens =
        below-then (length tokens) (length tokens) (parse_word last (codes "int64_t") tokens) _
        (word-below last (codes "int64_t") tokens) (λ type h1.
        below-then (length type.1) (length tokens) (parse_name last type.1) _ (name-below last type.1) (λ name h2.
        below-then (length name.1) (length tokens) (parse_word last (codes "(") name.1) _ (word-below last (codes "(") name.1) (λ opened h3.
        below-then (length opened.1) (length tokens) (parse_pure_param last limits 0 opened.1) _ (pure_param-below 0 opened.1) (λ first h4.
        below-then (suc (length first.1)) (length tokens)
        (many (pure_params_step last limits) (suc (length first.1)) 1 first.1) _
        (many-below (pure_params_step last limits) pure_params_step-below (suc (length first.1)) 1 first.1)
        (λ later h5.
        below-then (length later.1) (length tokens) (parse_word last (codes "{") later.1) _
        (word-below last (codes "{") later.1) (λ open_body h6.
        below-then (length open_body.1) (length tokens) (next last open_body.1) _ (next-below last open_body.1) (λ r h7.
        below-unless (length tokens) (or_syntax_unless r.0 (bytes_eq r.0.text (codes "return"))) _ (
        below-then (length r.1) (length tokens) (parse_expr last limits.exprs r.1) _ (expr-below last limits.exprs r.1) (λ body h8.
        below-then (length body.1) (length tokens) (parse_word last (codes ";") body.1) _ (word-below last (codes ";") body.1) (λ end h9.
        below-then (length end.1) (length tokens) (parse_word last (codes "}") end.1) _ (word-below last (codes "}") end.1) (λ close h0.
        below-ok (length tokens) _ close.1 (omega arith))))))))))))

    length-below : (type : CType) (tokens : List Token) (has_length : Bool)
        → Below (suc (length tokens)) (parse_length last limits type tokens has_length)
    length-below type tokens true =
        below-then (length tokens) (suc (length tokens)) (next last tokens) _ (next-below last tokens) (λ opened h.
        below-then (length opened.1) (suc (length tokens)) (parse_literal last opened.1) _ (literal-below last opened.1) (λ count k.
        below-then (length count.1) (suc (length tokens)) (parse_word last (codes "]") count.1) _ (word-below last (codes "]") count.1)
        (λ close j.
        below-ok (suc (length tokens)) _ close.1 (omega arith))))
    length-below type tokens false = below-ok (suc (length tokens)) _ tokens (omega arith)

    field_from-below : (t : Token) (tokens : List Token) (is_struct : Bool)
        → Below (length tokens) (parse_field_from last limits t tokens is_struct)
    field_from-below t tokens true =
        below-then (length tokens) (length tokens) (parse_name last tokens) _ (name-below last tokens) (λ of h.
        below-then (length of.1) (length tokens) (parse_name last of.1) _ (name-below last of.1) (λ name k.
        below-then (length name.1) (length tokens) (parse_word last (codes ";") name.1) _ (word-below last (codes ";") name.1) (λ end j.
        below-ok (length tokens) _ end.1 (omega arith))))
    field_from-below t tokens false =
        below-after (length tokens) (or_syntax t (type_of_text t.text)) _ (λ type.
        below-then (length tokens) (length tokens) (parse_name last tokens) _ (name-below last tokens) (λ name h.
        below-then (suc (length name.1)) (length tokens) (parse_length last limits type name.1 (bytes_eq (first_text name.1) (codes "["))) _
        (length-below type name.1 (bytes_eq (first_text name.1) (codes "["))) (λ kind k.
        below-then (length kind.1) (length tokens) (parse_word last (codes ";") kind.1) _ (word-below last (codes ";") kind.1) (λ end j.
        below-ok (length tokens) _ end.1 (omega arith)))))

    field-below : (tokens : List Token) → Below (length tokens) (parse_field last limits tokens)
    field-below tokens =
        below-then (length tokens) (length tokens) (next last tokens) _ (next-below last tokens) (λ t h.
        below-more (length t.1) (length tokens) (parse_field_from last limits t.0 t.1 (bytes_eq t.0.text (codes "struct"))) (omega arith)
        (field_from-below t.0 t.1 (bytes_eq t.0.text (codes "struct"))))

    fields_step_by-below : (tokens : List Token) (is_closed : Bool) →
        StepBelow (length tokens) (fields_step_by last limits tokens is_closed)
    fields_step_by-below tokens true =
        step-then (length tokens) (length tokens) (next last tokens) _ (next-below last tokens)
        (λ close h. step-end (length tokens) close.1 (omega arith))
    fields_step_by-below tokens false = step-more (length tokens) (parse_field last limits tokens) (field-below tokens)

    fields_step-below : (count : ℕ) (tokens : List Token) → StepBelow (length tokens) (fields_step last limits count tokens)
    fields_step-below count tokens = fields_step_by-below tokens (bytes_eq (first_text tokens) (codes "}"))

    pub fields_step-falls : (count : ℕ) (tokens : List Token) (x : WrittenField) (rest : List Token) →
        fields_step last limits count tokens ≡ Ok (one_more x rest) → length rest < length tokens
    fields_step-falls count tokens x rest e = (fields_step-below count tokens).more x rest e

    struct-below : (t : Token) (tokens : List Token) → Below (length tokens) (parse_struct last limits t tokens)
    struct-below t tokens =
        below-then (length tokens) (length tokens) (parse_name last tokens) _ (name-below last tokens) (λ name h.
        below-then (length name.1) (length tokens) (parse_word last (codes "{") name.1) _ (word-below last (codes "{") name.1) (λ opened k.
        below-then (length opened.1) (length tokens) (parse_field last limits opened.1) _ (field-below opened.1) (λ first j.
        below-then (suc (length first.1)) (length tokens)
        (many (fields_step last limits) (suc (length first.1)) 0 first.1) _
        (many-below (fields_step last limits) fields_step-below (suc (length first.1)) 0 first.1) (λ later i.
        below-then (length later.1) (length tokens) (parse_word last (codes ";") later.1) _ (word-below last (codes ";") later.1) (λ end g.
        below-ok (length tokens) _ end.1 (omega arith))))))

    procedure_behind-below : (line : ℕ) (private : Bool) (tokens : List Token) →
        Below (length tokens) (parse_procedure_behind last limits line private tokens)
    procedure_behind-below line private tokens =
        below-then (length tokens) (length tokens) (parse_name last tokens) _ (name-below last tokens) (λ name h1.
        below-then (length name.1) (length tokens) (parse_word last (codes "(") name.1) _ (word-below last (codes "(") name.1) (λ opened h2.
        below-then (length opened.1) (length tokens) (parse_word last (codes "struct") opened.1) _
        (word-below last (codes "struct") opened.1) (λ struct_word h3.
        below-then (length struct_word.1) (length tokens) (parse_name last struct_word.1) _ (name-below last struct_word.1) (λ of h4.
        below-then (length of.1) (length tokens) (parse_word last (codes "*") of.1) _ (word-below last (codes "*") of.1) (λ star h5.
        below-then (length star.1) (length tokens) (parse_word last (codes "s") star.1) _
        (word-below last (codes "s") star.1) (λ instance h6.
        below-then (suc (length instance.1)) (length tokens)
        (many (params_step last limits) (suc (length instance.1)) 0 instance.1) _
        (many-below (params_step last limits) params_step-below (suc (length instance.1)) 0 instance.1)
        (λ params h7.
        below-then (length params.1) (length tokens)
        (parse_block last limits (parse_stmt last limits limits.stmts) params.1) _
        (block-below (parse_stmt last limits limits.stmts) (stmt-below limits.stmts) params.1) (λ body h8.
        below-ok (length tokens) _ body.1 (omega arith)))))))))

    procedure-below : (t : Token) (tokens : List Token) (definition : Definition) →
        Below (length tokens) (parse_procedure last limits t tokens definition)
    procedure-below t tokens static_definition =
        below-then (length tokens) (length tokens) (parse_word last (codes "void") tokens) _
        (word-below last (codes "void") tokens) (λ void_word h.
        below-more (length void_word.1) (length tokens) (parse_procedure_behind last limits t.line true void_word.1)
        (omega arith) (procedure_behind-below t.line true void_word.1))
    procedure-below t tokens void_definition = procedure_behind-below t.line false tokens
    procedure-below t tokens struct_definition = below-err (length tokens) _
    procedure-below t tokens no_definition = below-err (length tokens) _

    pures_step_by-below : (count : ℕ) (t : Token) (tokens all : List Token) (definition : Definition) →
        length tokens < length all → StepBelow (length all) (pures_step_by last limits count t tokens all definition)
    pures_step_by-below count t tokens all static_definition h =
        step-unless (length all) (or_deep_unless t (nat_le (count + 1) limits.pures)) _
        (step-more (length all) (parse_pure last limits t tokens)
        (below-more (length tokens) (length all) (parse_pure last limits t tokens) (omega arith) (pure-below t tokens)))
    pures_step_by-below count t tokens all struct_definition h = step-end (length all) all (omega arith)
    pures_step_by-below count t tokens all void_definition h = step-err (length all) _
    pures_step_by-below count t tokens all no_definition h = step-err (length all) _

    pub pures_step-falls : (count : ℕ) (tokens : List Token) (x : WrittenPure) (rest : List Token) →
        pures_step last limits count tokens ≡ Ok (one_more x rest) → length rest < length tokens
    pures_step-falls count tokens x rest e =
        (step-then (length tokens) (length tokens) (next last tokens) _ (next-below last tokens)
        (λ t h. pures_step_by-below count t.0 t.1 tokens (definition_of t.0.text) h)).more x rest e

    structs_step_by-below : (t : Token) (tokens all : List Token) (definition : Definition) →
        length tokens < length all → StepBelow (length all) (structs_step_by last limits t tokens all definition)
    structs_step_by-below t tokens all struct_definition h =
        step-more (length all) (parse_struct last limits t tokens)
        (below-more (length tokens) (length all) (parse_struct last limits t tokens) (omega arith)
        (struct-below t tokens))
    structs_step_by-below t tokens all static_definition h = step-end (length all) all (omega arith)
    structs_step_by-below t tokens all void_definition h = step-end (length all) all (omega arith)
    structs_step_by-below t tokens all no_definition h = step-err (length all) _

    pub structs_step-falls : (count : ℕ) (tokens : List Token) (x : WrittenStruct) (rest : List Token) →
        structs_step last limits count tokens ≡ Ok (one_more x rest) → length rest < length tokens
    structs_step-falls count tokens x rest e =
        (step-then (length tokens) (length tokens) (next last tokens) _ (next-below last tokens)
        (λ t h. structs_step_by-below t.0 t.1 tokens (definition_of t.0.text) h)).more x rest e

    procedures_step-below : (count : ℕ) (tokens : List Token) → StepBelow (length tokens) (procedures_step last limits count tokens)
    procedures_step-below count [] = step-end 0 [] (omega arith)
    procedures_step-below count (t ∷ tokens) =
        step-more (suc (length tokens)) (parse_procedure last limits t tokens (definition_of t.text))
        (below-more (length tokens) (suc (length tokens)) (parse_procedure last limits t tokens (definition_of t.text))
        (omega arith) (procedure-below t tokens (definition_of t.text)))

    pub procedures_step-falls : (count : ℕ) (tokens : List Token) (x : WrittenProcedure) (rest : List Token) →
        procedures_step last limits count tokens ≡ Ok (one_more x rest) → length rest < length tokens
    procedures_step-falls count tokens x rest e = (procedures_step-below count tokens).more x rest e
