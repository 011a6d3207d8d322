-- What the grammar spells is parsed: statements.
use Rattle.std.proofs.Common.{◌≡◌, refl, ◌∙◌, ap, ℕ, zero, suc, ◌+◌, ◌<◌, ◌≤◌, max, List, [], ◌∷◌, length, true, false, Some, Ok, codes, bytes_eq, arith}
use Rattle.std.proofs.lemmas.Slice.Eq.{bytes_eq-Decides}
use Rattle.c_grammar.specs.Tokens.{Token}
use Rattle.c_grammar.specs.Written.{WrittenExpr, WrittenCond, WrittenTarget, own_target, field_target, WrittenArguments, no_arguments, more_arguments, WrittenStmt, assign, assign_at, branch, branch_else, call, WrittenStmts, no_stmts, more_stmts}
use Rattle.c_grammar.specs.Grammar.{Spelling, ◌⨾◌, word, at_line, name_word, in_parens, in_brackets, in_braces, own_spelling, cast_spelling, expr_spelling, cond_spelling, target_spelling, arguments_spelling, stmt_spelling, stmts_spelling}
use Rattle.c_grammar.specs.Parsing.{Limits, stmt_opener_of, first_text, many, stmts_from, Argument, arguments_from, parse_operand, parse_expr, parse_cond, parse_target, target_opener_of, arguments_step, stmts_step, parse_block, parse_stmt}
use Rattle.c_grammar.specs.declared.openers.StmtOpener.TheVariants.{Call as invoke_opener}
use Rattle.c_grammar.specs.declared.openers.TargetOpener.TheVariants.{Own as own_opener}
use Rattle.c_grammar.specs.declared.openers.Want.TheVariants.{Value as want_value, Test as want_test}
use Rattle.c_grammar.proofs.lemmas.PrefixLaws.{Front, word-front, seq-parts, at_line-inner, name_word-inner, not_word, Parens, parens-parts, Brackets, brackets-parts, Firm, word-firm, some_same}
use Rattle.c_reading_laws.proofs.FileWalks.{Braces, braces-parts, NoElse, arguments-firm, stmts-no_else}
use Rattle.c_grammar.proofs.lemmas.Shrinking.{Shrinks, ◌▹◌, word-shrinks, name-shrinks, parens-shrink, brackets-shrink, braces-shrink, cast-shrinks, expr-shrinks, cond-shrinks, target-shrinks, arguments-shrink, stmts-shrink}
use Rattle.c_rules.proofs.lemmas.SpelledWords.{word-parsed, LineFront, line-front, word-rest}
use Rattle.c_reading_laws.proofs.ParsedWords.{name-parsed, cast-parsed, field_name-parsed, index-parsed}
use Rattle.c_reading_laws.proofs.ParsedBodies.{expr_levels, cond_levels, word-text, word-shorter, comma-another, comma-closed, operand-expr, operand-cond}

-- how many levels the expressions of arguments open, and those of statements; and how many levels statements open
abbrev pub arguments_levels : WrittenArguments → ℕ
arguments_levels no_arguments = 0
arguments_levels (more_arguments cast e rest) = max (expr_levels e) (arguments_levels rest)

abbrev mutual
  pub stmt_exprs_levels : WrittenStmt → ℕ
  stmt_exprs_levels (assign line field cast e) = expr_levels e
  stmt_exprs_levels (assign_at line field index cast e) = max (expr_levels index) (expr_levels e)
  stmt_exprs_levels (branch line c on_true) = max (cond_levels c) (stmts_exprs_levels on_true)
  stmt_exprs_levels (branch_else line c on_true on_false) =
      max (cond_levels c) (max (stmts_exprs_levels on_true) (stmts_exprs_levels on_false))
  stmt_exprs_levels (call line procedure target values) = arguments_levels values

  pub stmts_exprs_levels : WrittenStmts → ℕ
  stmts_exprs_levels no_stmts = 0
  stmts_exprs_levels (more_stmts s ss) = max (stmt_exprs_levels s) (stmts_exprs_levels ss)

abbrev mutual
  pub stmt_levels : WrittenStmt → ℕ
  stmt_levels (assign line field cast e) = 1
  stmt_levels (assign_at line field index cast e) = 1
  stmt_levels (branch line c on_true) = stmts_levels on_true + 1
  stmt_levels (branch_else line c on_true on_false) = max (stmts_levels on_true) (stmts_levels on_false) + 1
  stmt_levels (call line procedure target values) = 1

  pub stmts_levels : WrittenStmts → ℕ
  stmts_levels no_stmts = 0
  stmts_levels (more_stmts s ss) = max (stmt_levels s) (stmts_levels ss)

abbrev pub arguments_in : WrittenArguments → List Argument
arguments_in no_arguments = []
arguments_in (more_arguments cast e rest) = (cast, e) ∷ arguments_in rest

arguments_from-in : (values : WrittenArguments) → arguments_from (arguments_in values) ≡ values
arguments_from-in no_arguments = refl
arguments_from-in (more_arguments cast e rest) = ap (more_arguments cast e) (arguments_from-in rest)

arguments-few : (values : WrittenArguments) (tokens rest : List Token) → arguments_spelling values tokens ≡ Some rest →
    length (arguments_in values) + length rest ≤ length tokens
arguments-few no_arguments tokens rest h = rw (some_same tokens rest h) (omega arith)
arguments-few (more_arguments cast e values) tokens rest h =
    let p : _ = seq-parts (word (codes ",")) (cast_spelling cast ⨾ expr_spelling e ⨾ arguments_spelling values) tokens rest h in
    let q : _ = seq-parts (cast_spelling cast) (expr_spelling e ⨾ arguments_spelling values) p.0 rest p.2 in
    let r : _ = seq-parts (expr_spelling e) (arguments_spelling values) q.0 rest q.2 in
    let one : length p.0 < length tokens = word-shorter (codes ",") tokens p.0 p.1 in
    let two : length q.0 ≤ length p.0 = (cast-shrinks cast).by p.0 q.0 q.1 in
    let three : length r.0 ≤ length q.0 = (expr-shrinks e).by q.0 r.0 r.1 in
    let four : length (arguments_in values) + length rest ≤ length r.0 = arguments-few values r.0 rest r.2 in
    omega arith

abbrev pub stmts_in : WrittenStmts → List WrittenStmt
stmts_in no_stmts = []
stmts_in (more_stmts s ss) = s ∷ stmts_in ss

stmts_from-in : (ss : WrittenStmts) → stmts_from (stmts_in ss) ≡ ss
stmts_from-in no_stmts = refl
stmts_from-in (more_stmts s ss) = ap (more_stmts s) (stmts_from-in ss)

-- a spelling that begins with a word takes a token at least
begins-shorter : (line : ℕ) (text : List ℕ) (a : Spelling) (tokens rest : List Token) → Shrinks a →
    (at_line line (word text) ⨾ a) tokens ≡ Some rest → length rest < length tokens
begins-shorter line text a tokens rest shrinks h =
    let p : _ = seq-parts (at_line line (word text)) a tokens rest h in
    let one : length p.0 < length tokens = word-shorter text tokens p.0 (at_line-inner line (word text) tokens p.0 p.1) in
    let two : length rest ≤ length p.0 = shrinks.by p.0 rest p.2 in
    omega arith

stmt-shorter : (s : WrittenStmt) (tokens rest : List Token) → stmt_spelling s tokens ≡ Some rest → length rest < length tokens
stmt-shorter (assign line field cast e) tokens rest h =
    begins-shorter line (codes "s") (word (codes "->") ⨾ name_word field ⨾ word (codes "=") ⨾ cast_spelling cast
    ⨾ expr_spelling e ⨾ word (codes ";")) tokens rest
    (word-shrinks (codes "->") ▹ name-shrinks field ▹ word-shrinks (codes "=") ▹ cast-shrinks cast ▹ expr-shrinks e
    ▹ word-shrinks (codes ";")) h
stmt-shorter (assign_at line field index cast e) tokens rest h =
    let p : _ =
    seq-parts (at_line line (own_spelling field)) (in_brackets (expr_spelling index) ⨾ word (codes "=")
    ⨾ cast_spelling cast ⨾ expr_spelling e ⨾ word (codes ";")) tokens rest h in
    let q : _ =
    seq-parts (word (codes "s")) (word (codes "->") ⨾ name_word field) tokens p.0
    (at_line-inner line (own_spelling field) tokens p.0 p.1) in
    let name : Shrinks (word (codes "->") ⨾ name_word field) = word-shrinks (codes "->") ▹ name-shrinks field in
    let later : Shrinks (in_brackets (expr_spelling index) ⨾ word (codes "=") ⨾ cast_spelling cast ⨾ expr_spelling e
    ⨾ word (codes ";")) = brackets-shrink (expr-shrinks index) ▹ word-shrinks
    (codes "=") ▹ cast-shrinks cast ▹ expr-shrinks e ▹ word-shrinks (codes ";") in
    let one : length q.0 < length tokens = word-shorter (codes "s") tokens q.0 q.1 in
    let two : length p.0 ≤ length q.0 = name.by q.0 p.0 q.2 in
    let three : length rest ≤ length p.0 = later.by p.0 rest p.2 in
    omega arith
stmt-shorter (branch line c on_true) tokens rest h =
    begins-shorter line (codes "if") (cond_spelling c ⨾ in_braces (stmts_spelling on_true)) tokens rest
    (cond-shrinks c ▹ braces-shrink (stmts-shrink on_true)) h
stmt-shorter (branch_else line c on_true on_false) tokens rest h =
    begins-shorter line (codes "if") (cond_spelling c ⨾ in_braces (stmts_spelling on_true) ⨾ word (codes "else")
    ⨾ in_braces (stmts_spelling on_false)) tokens rest
    (cond-shrinks c ▹ braces-shrink (stmts-shrink on_true) ▹ word-shrinks (codes "else") ▹ braces-shrink
    (stmts-shrink on_false)) h
stmt-shorter (call line procedure target values) tokens rest h =
    let p : _ =
    seq-parts (at_line line (name_word procedure)) (in_parens (target_spelling target ⨾ arguments_spelling values)
    ⨾ word (codes ";")) tokens rest h in
    let n : _ = name_word-inner procedure tokens p.0 (at_line-inner line (name_word procedure) tokens p.0 p.1) in
    let shrinks : Shrinks (in_parens (target_spelling target ⨾ arguments_spelling values) ⨾ word (codes ";")) =
    parens-shrink (target-shrinks target ▹ arguments-shrink values) ▹ word-shrinks (codes ";") in
    let one : length p.0 < length tokens = word-shorter procedure tokens p.0 n.1 in
    let two : length rest ≤ length p.0 = shrinks.by p.0 rest p.2 in
    omega arith

stmts-few : (ss : WrittenStmts) (tokens rest : List Token) → stmts_spelling ss tokens ≡ Some rest →
    length (stmts_in ss) + length rest ≤ length tokens
stmts-few no_stmts tokens rest h = rw (some_same tokens rest h) (omega arith)
stmts-few (more_stmts s ss) tokens rest h =
    let p : _ = seq-parts (stmt_spelling s) (stmts_spelling ss) tokens rest h in
    let one : length p.0 < length tokens = stmt-shorter s tokens p.0 p.1 in
    let two : length (stmts_in ss) + length rest ≤ length p.0 = stmts-few ss p.0 rest p.2 in
    omega arith

-- a statement doesn't begin with `}`
stmt-text : (s : WrittenStmt) (tokens rest : List Token) → stmt_spelling s tokens ≡ Some rest →
    bytes_eq (first_text tokens) (codes "}") ≡ false
stmt-text (assign line field cast e) tokens rest h =
    let p : _ =
    seq-parts (at_line line (word (codes "s"))) (word (codes "->") ⨾ name_word field ⨾ word (codes "=")
    ⨾ cast_spelling cast ⨾ expr_spelling e ⨾ word (codes ";")) tokens rest h in
    ap (λ x. bytes_eq x (codes "}")) (word-text (codes "s") tokens p.0 (at_line-inner line (word (codes "s")) tokens p.0 p.1))
stmt-text (assign_at line field index cast e) tokens rest h =
    let p : _ =
    seq-parts (at_line line (own_spelling field)) (in_brackets (expr_spelling index) ⨾ word (codes "=")
    ⨾ cast_spelling cast ⨾ expr_spelling e ⨾ word (codes ";")) tokens rest h in
    let q : _ =
    seq-parts (word (codes "s")) (word (codes "->") ⨾ name_word field) tokens p.0
    (at_line-inner line (own_spelling field) tokens p.0 p.1) in
    ap (λ x. bytes_eq x (codes "}")) (word-text (codes "s") tokens q.0 q.1)
stmt-text (branch line c on_true) tokens rest h =
    let p : _ = seq-parts (at_line line (word (codes "if"))) (cond_spelling c ⨾ in_braces (stmts_spelling on_true)) tokens rest h in
    ap (λ x. bytes_eq x (codes "}")) (word-text (codes "if") tokens p.0 (at_line-inner line (word (codes "if")) tokens p.0 p.1))
stmt-text (branch_else line c on_true on_false) tokens rest h =
    let p : _ =
    seq-parts (at_line line (word (codes "if"))) (cond_spelling c ⨾ in_braces (stmts_spelling on_true)
    ⨾ word (codes "else") ⨾ in_braces (stmts_spelling on_false)) tokens rest h in
    ap (λ x. bytes_eq x (codes "}")) (word-text (codes "if") tokens p.0 (at_line-inner line (word (codes "if")) tokens p.0 p.1))
stmt-text (call line procedure target values) tokens rest h =
    let p : _ =
    seq-parts (at_line line (name_word procedure)) (in_parens (target_spelling target ⨾ arguments_spelling values)
    ⨾ word (codes ";")) tokens rest h in
    let n : _ = name_word-inner procedure tokens p.0 (at_line-inner line (name_word procedure) tokens p.0 p.1) in
    ap (λ x. bytes_eq x (codes "}")) (word-text procedure tokens p.0 n.1) ∙ not_word procedure (codes "}") n.0 refl

else-text : (rest : List Token) → NoElse rest → bytes_eq (first_text rest) (codes "else") ≡ false
unfolding NoElse
else-text rest none = ap (λ ts. bytes_eq (first_text ts) (codes "else")) none.2 ∙ none.3

opens-own : target_opener_of (codes "s") ≡ own_opener
opens-own = refl

module _ (last : ℕ) (limits : Limits) where
  pub expr-parsed : (e : WrittenExpr) (tokens rest : List Token) → expr_spelling e tokens ≡ Some rest → Firm rest →
      expr_levels e ≤ limits.exprs → parse_expr last limits.exprs tokens ≡ Ok (e, rest)
  expr-parsed e tokens rest h firm fits = rw (operand-expr last e limits.exprs want_value tokens rest refl h firm fits) refl

  cond-parsed : (c : WrittenCond) (tokens rest : List Token) → cond_spelling c tokens ≡ Some rest → Firm rest →
      cond_levels c ≤ limits.exprs → parse_cond last limits.exprs tokens ≡ Ok (c, rest)
  cond-parsed c tokens rest h firm fits = rw (operand-cond last c limits.exprs want_test tokens rest refl h firm fits) refl

  target-parsed : (target : WrittenTarget) (tokens rest : List Token) → target_spelling target tokens ≡ Some rest →
      parse_target last tokens ≡ Ok (target, rest)
  target-parsed own_target tokens rest h =
      let f : Front (codes "s") tokens rest = word-front (codes "s") tokens rest h in
      ap (parse_target last) f.list ∙ rw (ap target_opener_of f.same) refl
  target-parsed (field_target field) tokens rest h =
      let p : _ = seq-parts (word (codes "&")) (word (codes "s") ⨾ word (codes "->") ⨾ name_word field) tokens rest h in
      let q : _ = seq-parts (word (codes "s")) (word (codes "->") ⨾ name_word field) p.0 rest p.2 in
      let f : Front (codes "&") tokens p.0 = word-front (codes "&") tokens p.0 p.1 in
      ap (parse_target last) f.list
      ∙ rw (
        ap target_opener_of f.same,
        word-parsed last (codes "s") p.0 q.0 q.1,
        field_name-parsed last field q.0 rest q.2,
      ) refl

  arguments-parsed : (values : WrittenArguments) (most count : ℕ) (tokens mid rest : List Token) →
      arguments_spelling values tokens ≡ Some mid → word (codes ")") mid ≡ Some rest →
      arguments_levels values ≤ limits.exprs → length (arguments_in values) < most →
      many (arguments_step last limits) most count tokens ≡ Ok (arguments_in values, rest)
  arguments-parsed no_arguments zero count tokens mid rest h close fits enough = absurd (omega (arith, enough))
  arguments-parsed (more_arguments cast e values) zero count tokens mid rest h close fits enough = absurd (omega (arith, enough))
  arguments-parsed no_arguments (suc most) count tokens mid rest h close fits enough =
      let f : Front (codes ")") mid rest = word-front (codes ")") mid rest close in
      ap (many (arguments_step last limits) (suc most) count) (some_same tokens mid h ∙ f.list) ∙ rw (comma-closed f.token f.same) refl
  arguments-parsed (more_arguments cast e values) (suc most) count tokens mid rest h close fits enough =
      let p : _ = seq-parts (word (codes ",")) (cast_spelling cast ⨾ expr_spelling e ⨾ arguments_spelling values) tokens mid h in
      let q : _ = seq-parts (cast_spelling cast) (expr_spelling e ⨾ arguments_spelling values) p.0 mid p.2 in
      let r : _ = seq-parts (expr_spelling e) (arguments_spelling values) q.0 mid q.2 in
      let f : Front (codes ",") tokens p.0 = word-front (codes ",") tokens p.0 p.1 in
      ap (many (arguments_step last limits) (suc most) count) f.list
      ∙ rw (
        comma-another f.token f.same,
        cast-parsed last cast p.0 q.0 q.1,
        expr-parsed e q.0 r.0 r.1 (arguments-firm values r.0 mid rest r.2 close) (omega (arith, fits)),
        arguments-parsed values most (count + 1) r.0 mid rest r.2 close (omega (arith, fits)) (omega (arith, enough)),
      )
      refl

  -- a block, by its statements
  block-from : (ss : WrittenStmts) (levels : ℕ) (tokens rest : List Token)
      (b : Braces (stmts_spelling ss) tokens rest) →
      ((most : ℕ) → length (stmts_in ss) < most →
      many (stmts_step last limits (parse_stmt last limits levels)) most 0 b.inner ≡ Ok (stmts_in ss, rest)) →
      parse_block last limits (parse_stmt last limits levels) tokens ≡ Ok (ss, rest)
  block-from ss levels tokens rest b parsed =
      let few : length (stmts_in ss) + length b.behind ≤ length b.inner = stmts-few ss b.inner b.behind b.body in
      rw (word-parsed last (codes "{") tokens b.inner b.start, parsed (suc (length b.inner)) (omega (arith, few)), stmts_from-in ss) refl

  mutual
    pub stmt-parsed : (s : WrittenStmt) (levels : ℕ) (tokens rest : List Token) → stmt_spelling s tokens ≡ Some rest →
        NoElse rest → stmt_levels s ≤ levels → stmt_exprs_levels s ≤ limits.exprs →
        parse_stmt last limits levels tokens ≡ Ok (s, rest)
    stmt-parsed (assign line field cast e) zero tokens rest h none fits shallow = absurd (omega (arith, fits))
    stmt-parsed (assign_at line field index cast e) zero tokens rest h none fits shallow = absurd (omega (arith, fits))
    stmt-parsed (branch line c on_true) zero tokens rest h none fits shallow = absurd (omega (arith, fits))
    stmt-parsed (branch_else line c on_true on_false) zero tokens rest h none fits shallow = absurd (omega (arith, fits))
    stmt-parsed (call line procedure target values) zero tokens rest h none fits shallow = absurd (omega (arith, fits))
    stmt-parsed (assign line field cast e) (suc levels) tokens rest h none fits shallow =
        let p : _ =
        seq-parts (at_line line (word (codes "s"))) (word (codes "->") ⨾ name_word field ⨾ word (codes "=")
        ⨾ cast_spelling cast ⨾ expr_spelling e ⨾ word (codes ";")) tokens rest h in
        let f : LineFront line (word (codes "s")) tokens p.0 = line-front line (word (codes "s")) tokens p.0 p.1 in
        let o : _ = word-rest (codes "s") f.token f.later p.0 f.inner in
        let q : _ =
        seq-parts (word (codes "->")) (name_word field ⨾ word (codes "=") ⨾ cast_spelling cast ⨾ expr_spelling e
        ⨾ word (codes ";")) p.0 rest p.2 in
        let r : _ = seq-parts (name_word field) (word (codes "=") ⨾ cast_spelling cast ⨾ expr_spelling e ⨾ word (codes ";")) q.0 rest q.2 in
        let t : _ = seq-parts (word (codes "=")) (cast_spelling cast ⨾ expr_spelling e ⨾ word (codes ";")) r.0 rest r.2 in
        let u : _ = seq-parts (cast_spelling cast) (expr_spelling e ⨾ word (codes ";")) t.0 rest t.2 in
        let x : _ = seq-parts (expr_spelling e) (word (codes ";")) u.0 rest u.2 in
        ap (parse_stmt last limits (suc levels)) f.list
        ∙ rw (
          ap stmt_opener_of o.0,
          o.1,
          word-parsed last (codes "->") p.0 q.0 q.1,
          name-parsed last field q.0 r.0 r.1,
          ap (λ y. bytes_eq y (codes "[")) (word-text (codes "=") r.0 t.0 t.1),
          word-parsed last (codes "=") r.0 t.0 t.1,
          cast-parsed last cast t.0 u.0 u.1,
          expr-parsed e u.0 x.0 x.1 (word-firm (codes ";") x.0 rest refl x.2) shallow,
          word-parsed last (codes ";") x.0 rest x.2,
          f.is,
        ) refl
    stmt-parsed (assign_at line field index cast e) (suc levels) tokens rest h none fits shallow =
        let p : _ =
        seq-parts (at_line line (own_spelling field)) (in_brackets (expr_spelling index) ⨾ word (codes "=")
        ⨾ cast_spelling cast ⨾ expr_spelling e ⨾ word (codes ";")) tokens rest h in
        let f : LineFront line (own_spelling field) tokens p.0 = line-front line (own_spelling field) tokens p.0 p.1 in
        let o : _ = seq-parts (word (codes "s")) (word (codes "->") ⨾ name_word field) (f.token ∷ f.later) p.0 f.inner in
        let w : _ = word-rest (codes "s") f.token f.later o.0 o.1 in
        let r : _ =
        seq-parts (in_brackets (expr_spelling index)) (word (codes "=") ⨾ cast_spelling cast ⨾ expr_spelling e
        ⨾ word (codes ";")) p.0 rest p.2 in
        let b : Brackets (expr_spelling index) p.0 r.0 = brackets-parts (expr_spelling index) p.0 r.0 r.1 in
        let t : _ = seq-parts (word (codes "=")) (cast_spelling cast ⨾ expr_spelling e ⨾ word (codes ";")) r.0 rest r.2 in
        let u : _ = seq-parts (cast_spelling cast) (expr_spelling e ⨾ word (codes ";")) t.0 rest t.2 in
        let x : _ = seq-parts (expr_spelling e) (word (codes ";")) u.0 rest u.2 in
        ap (parse_stmt last limits (suc levels)) f.list
        ∙ rw (
          ap stmt_opener_of w.0,
          w.1,
          field_name-parsed last field o.0 p.0 o.2,
          ap (λ y. bytes_eq y (codes "[")) (word-text (codes "[") p.0 b.inner b.start),
          index-parsed last (parse_operand last limits.exprs) index p.0 b.inner b.behind r.0 b.start
              (rw (operand-expr last index limits.exprs want_value b.inner b.behind refl b.body
              (word-firm (codes "]") b.behind r.0 refl b.close) (omega (arith, shallow))) refl) b.close,
          word-parsed last (codes "=") r.0 t.0 t.1,
          cast-parsed last cast t.0 u.0 u.1,
          expr-parsed e u.0 x.0 x.1 (word-firm (codes ";") x.0 rest refl x.2) (omega (arith, shallow)),
          word-parsed last (codes ";") x.0 rest x.2,
          f.is,
        ) refl
    stmt-parsed (branch line c on_true) (suc levels) tokens rest h none fits shallow =
        let p : _ = seq-parts (at_line line (word (codes "if"))) (cond_spelling c ⨾ in_braces (stmts_spelling on_true)) tokens rest h in
        let f : LineFront line (word (codes "if")) tokens p.0 = line-front line (word (codes "if")) tokens p.0 p.1 in
        let o : _ = word-rest (codes "if") f.token f.later p.0 f.inner in
        let q : _ = seq-parts (cond_spelling c) (in_braces (stmts_spelling on_true)) p.0 rest p.2 in
        let b : Braces (stmts_spelling on_true) q.0 rest = braces-parts (stmts_spelling on_true) q.0 rest q.2 in
        ap (parse_stmt last limits (suc levels)) f.list
        ∙ rw (
          ap stmt_opener_of o.0,
          o.1,
          cond-parsed c p.0 q.0 q.1 (word-firm (codes "{") q.0 b.inner refl b.start)
              (omega (arith, shallow)),
          block-from on_true levels q.0 rest b
              (λ most enough. stmts-parsed on_true levels most 0 b.inner b.behind rest b.body b.close
              (omega (arith, fits)) (omega (arith, shallow)) enough),
          else-text rest none,
          f.is,
        ) refl
    stmt-parsed (branch_else line c on_true on_false) (suc levels) tokens rest h none fits shallow =
        let p : _ =
        seq-parts (at_line line (word (codes "if"))) (cond_spelling c ⨾ in_braces (stmts_spelling on_true)
        ⨾ word (codes "else") ⨾ in_braces (stmts_spelling on_false)) tokens rest h in
        let f : LineFront line (word (codes "if")) tokens p.0 = line-front line (word (codes "if")) tokens p.0 p.1 in
        let o : _ = word-rest (codes "if") f.token f.later p.0 f.inner in
        let q : _ =
        seq-parts (cond_spelling c) (in_braces (stmts_spelling on_true) ⨾ word (codes "else")
        ⨾ in_braces (stmts_spelling on_false)) p.0 rest p.2 in
        let r : _ =
        seq-parts (in_braces (stmts_spelling on_true)) (word (codes "else") ⨾ in_braces (stmts_spelling on_false))
        q.0 rest q.2 in
        let t : _ = seq-parts (word (codes "else")) (in_braces (stmts_spelling on_false)) r.0 rest r.2 in
        let b : Braces (stmts_spelling on_true) q.0 r.0 = braces-parts (stmts_spelling on_true) q.0 r.0 r.1 in
        let d : Braces (stmts_spelling on_false) t.0 rest = braces-parts (stmts_spelling on_false) t.0 rest t.2 in
        let g : Front (codes "else") r.0 t.0 = word-front (codes "else") r.0 t.0 t.1 in
        let is_else : bytes_eq g.token.text (codes "else") ≡ true = (bytes_eq-Decides g.token.text (codes "else")).1 g.same in
        ap (parse_stmt last limits (suc levels)) f.list
        ∙ rw (
          ap stmt_opener_of o.0,
          o.1,
          cond-parsed c p.0 q.0 q.1 (word-firm (codes "{") q.0 b.inner refl b.start)
              (omega (arith, shallow)),
          block-from on_true levels q.0 r.0 b
              (λ most enough. stmts-parsed on_true levels most 0 b.inner b.behind r.0 b.body b.close (omega (arith, fits))
              (omega (arith, shallow)) enough),
          g.list,
          is_else,
          block-from on_false levels t.0 rest d
              (λ most enough. stmts-parsed on_false levels most 0 d.inner d.behind rest d.body d.close
              (omega (arith, fits)) (omega (arith, shallow)) enough),
          f.is,
        ) refl
    stmt-parsed (call line procedure target values) (suc levels) tokens rest h none fits shallow =
        let p : _ =
        seq-parts (at_line line (name_word procedure))
        (in_parens (target_spelling target ⨾ arguments_spelling values) ⨾ word (codes ";")) tokens rest h in
        let f : LineFront line (name_word procedure) tokens p.0 = line-front line (name_word procedure) tokens p.0 p.1 in
        let n : _ = name_word-inner procedure (f.token ∷ f.later) p.0 f.inner in
        let o : _ = word-rest procedure f.token f.later p.0 n.1 in
        let t : _ = seq-parts (in_parens (target_spelling target ⨾ arguments_spelling values)) (word (codes ";")) p.0 rest p.2 in
        let q : Parens (target_spelling target ⨾ arguments_spelling values) p.0 t.0 =
        parens-parts (target_spelling target ⨾ arguments_spelling values) p.0 t.0 t.1 in
        let r : _ = seq-parts (target_spelling target) (arguments_spelling values) q.inner q.behind q.body in
        let few : length (arguments_in values) + length q.behind ≤ length r.0 = arguments-few values r.0 q.behind r.2 in
        let opener : stmt_opener_of procedure ≡ invoke_opener =
        rw (n.0, not_word procedure (codes "s") n.0 refl, not_word procedure (codes "if") n.0 refl) refl in
        ap (parse_stmt last limits (suc levels)) f.list
        ∙ rw (
          ap stmt_opener_of o.0 ∙ opener,
          o.1,
          word-parsed last (codes "(") p.0 q.inner q.start,
          target-parsed target q.inner r.0 r.1,
          arguments-parsed values (suc (length r.0)) 0 r.0 q.behind t.0 r.2 q.close shallow (omega (arith, few)),
          word-parsed last (codes ";") t.0 rest t.2,
          arguments_from-in values,
          f.is,
          o.0,
        ) refl

    stmts-parsed : (ss : WrittenStmts) (levels most count : ℕ) (tokens mid rest : List Token) →
        stmts_spelling ss tokens ≡ Some mid → word (codes "}") mid ≡ Some rest → stmts_levels ss ≤ levels →
        stmts_exprs_levels ss ≤ limits.exprs → length (stmts_in ss) < most →
        many (stmts_step last limits (parse_stmt last limits levels)) most count tokens ≡ Ok (stmts_in ss, rest)
    stmts-parsed no_stmts levels zero count tokens mid rest h close fits shallow enough = absurd (omega (arith, enough))
    stmts-parsed (more_stmts s ss) levels zero count tokens mid rest h close fits shallow enough = absurd (omega (arith, enough))
    stmts-parsed no_stmts levels (suc most) count tokens mid rest h close fits shallow enough =
        let f : Front (codes "}") mid rest = word-front (codes "}") mid rest close in
        let is_close : bytes_eq f.token.text (codes "}") ≡ true = (bytes_eq-Decides f.token.text (codes "}")).1 f.same in
        ap (many (stmts_step last limits (parse_stmt last limits levels)) (suc most) count) (some_same tokens mid h
        ∙ f.list) ∙ rw is_close refl
    stmts-parsed (more_stmts s ss) levels (suc most) count tokens mid rest h close fits shallow enough =
        let p : _ = seq-parts (stmt_spelling s) (stmts_spelling ss) tokens mid h in
        rw (
          stmt-text s tokens p.0 p.1,
          stmt-parsed s levels tokens p.0 p.1 (stmts-no_else ss p.0 mid rest p.2 close)
              (omega (arith, fits)) (omega (arith, shallow)),
          stmts-parsed ss levels most (count + 1) p.0 mid rest p.2 close (omega (arith, fits))
              (omega (arith, shallow)) (omega (arith, enough)),
        ) refl

  pub block-parsed : (ss : WrittenStmts) (levels : ℕ) (tokens rest : List Token) →
      in_braces (stmts_spelling ss) tokens ≡ Some rest → stmts_levels ss ≤ levels →
      stmts_exprs_levels ss ≤ limits.exprs →
      parse_block last limits (parse_stmt last limits levels) tokens ≡ Ok (ss, rest)
  block-parsed ss levels tokens rest h fits shallow =
      let b : Braces (stmts_spelling ss) tokens rest = braces-parts (stmts_spelling ss) tokens rest h in
      block-from ss levels tokens rest b
      (λ most enough. stmts-parsed ss levels most 0 b.inner b.behind rest b.body b.close fits shallow enough)
