-- One step back: what a token leaves needed, given, is with the token what was needed.
use Rattle.std.proofs.Common.{◌≡◌, refl, ◌∙◌, ap, ℕ, ◌+◌, ◌⊎◌, inl, inr, List, [], ◌∷◌, Some, Bool, true, false, if◌then◌else◌, codes, bytes_eq, subst}
use Rattle.c_syntax.specs.declared.code.CType.{CType}
use Rattle.c_grammar.specs.Tokens.{Token}
use Rattle.c_syntax.specs.Names.{is_name}
use Rattle.c_grammar.specs.Grammar.{Spelling, ◌⨾◌, more_exprs_spelling, word, at_line, name_word, in_parens, in_brackets, in_braces, literal_word, type_text, own_spelling, expr_spelling, cond_spelling, target_spelling, cast_spelling, arguments_spelling, stmt_spelling, stmts_spelling, param_spelling, more_params_spelling, pure_param_spelling, more_pure_params_spelling, pure_params_spelling, pure_spelling, kind_spelling, length_spelling, field_spelling, all_spelling, some_spelling, struct_spelling, private_spelling, procedure_spelling}
use Rattle.c_syntax.specs.Kinds.{WrittenKind}
use Rattle.c_grammar.specs.Written.{WrittenLeaf, WrittenExpr, WrittenExprs, WrittenTarget, WrittenArguments, WrittenStmt, WrittenStmts, WrittenParam, WrittenPureParam, WrittenPure, WrittenField, WrittenStruct, WrittenProcedure, WrittenProgram}
use Rattle.c_grammar.specs.Prefix.{Need, Reply, leaves, with_needs, only_if, within_limit, first_reply, is_type, is_literal, expr_need, cond_need, stmt_reply, field_reply, procedures_reply, comma_reply, struct_needs, procedure_needs, pure_needs, reply_of, text_need, name_need, literal_need, type_need, operand_need, inside_need, joint_need, values_need, leaf_need, tail_need, index_need, length_need, index_needs, length_needs, target_need, arguments_need, stmts_need, else_need, pure_param_need, pure_params_need, param_need, params_need, field_need, fields_need, pures_need, structs_need, procedures_need}
use Rattle.c_syntax.specs.Limits.{stmt_limit, param_limit, pure_limit, expr_limit}
use Rattle.c_grammar.proofs.lemmas.Texts.{is_type-text, is_literal-text}
use Rattle.c_grammar.proofs.lemmas.PrefixLaws.{seq-parts}
use Rattle.c_reading_laws.proofs.Completions.{Fills, FillsAll, Given, Chosen, operand_entries, chosen, only-given, limit-given, with-given, same_text, word-put, name-put, seq-put, parens-put, brackets-put, braces-put, line-put, line-some, literal-put, operand-back, inside-back, joint-back}

abbrev pub stmt_entries : ℕ → List ℕ → List (Bool × Reply)
stmt_entries depth text = (
  bytes_eq text (codes "s"),
  leaves (text_need (codes "->") ∷ name_need ∷ index_need ∷ text_need (codes "=") ∷ text_need (codes "(")
      ∷ type_need ∷ text_need (codes ")") ∷ expr_need 1 ∷ text_need (codes ";") ∷ []),
)
    ∷ (bytes_eq text (codes "if"), leaves (cond_need 1 ∷ text_need (codes "{") ∷ stmts_need (depth + 1) ∷ else_need depth ∷ []))
    ∷ (is_name text, leaves (text_need (codes "(") ∷ target_need ∷ arguments_need ∷ text_need (codes ";") ∷ []))
    ∷ []

own-put : (field : List ℕ) (tokens behind mid rest : List Token) → word (codes "s") tokens ≡ Some behind →
    word (codes "->") behind ≡ Some mid → name_word field mid ≡ Some rest → own_spelling field tokens ≡ Some rest
own-put field tokens behind mid rest self arrow name =
    seq-put (word (codes "s")) (word (codes "->") ⨾ name_word field) tokens behind rest self
    (seq-put (word (codes "->")) (name_word field) behind mid rest arrow name)

-- what is stored, after the field or the item
stored-back : (tokens rest : List Token) →
    FillsAll (text_need (codes "=") ∷ text_need (codes "(") ∷ type_need ∷ text_need (codes ")") ∷ expr_need 1
    ∷ text_need (codes ";") ∷ []) tokens rest →
    (cast : CType) × (value : WrittenExpr)
    × ((word (codes "=") ⨾ cast_spelling cast ⨾ expr_spelling value ⨾ word (codes ";")) tokens ≡ Some rest)
stored-back tokens rest (a, equals, (b, paren, (c, type, (d, close, (e, value, (f, semi, same)))))) =
    let cast : cast_spelling type.0 a ≡ Some d = parens-put (word (type_text type.0)) a b c d paren type.1 close in (
      type.0,
      value.0,
      seq-put (word (codes "=")) (cast_spelling type.0 ⨾ expr_spelling value.0 ⨾ word (codes ";")) tokens a rest
          equals (seq-put (cast_spelling type.0) (expr_spelling value.0 ⨾ word (codes ";")) a d rest cast
          (seq-put (expr_spelling value.0) (word (codes ";")) d e rest value.1 (semi ∙ ap Some same))),
    )

pub stmt-back : (depth : ℕ) (t : Token) (tokens rest : List Token) → Chosen (stmt_entries depth t.text) tokens rest →
    (s : WrittenStmt) × (stmt_spelling s (t ∷ tokens) ≡ Some rest)
stmt-back depth t tokens rest (inl h) = by h.1
  where
    self : word (codes "s") (t ∷ tokens) ≡ Some tokens
    self = word-put (codes "s") t tokens (same_text t.text (codes "s") h.0)

    by : FillsAll (text_need (codes "->") ∷ name_need ∷ index_need ∷ text_need (codes "=") ∷ text_need (codes "(")
        ∷ type_need ∷ text_need (codes ")") ∷ expr_need 1 ∷ text_need (codes ";") ∷ []) tokens rest →
        (s : WrittenStmt) × (stmt_spelling s (t ∷ tokens) ≡ Some rest)
    by (m, arrow, (k, n, (l, inl out, f))) =
        let v : _ = stored-back l rest f in
        let stored : Spelling = word (codes "=") ⨾ cast_spelling v.0 ⨾ expr_spelling v.1 ⨾ word (codes ";") in (
          WrittenStmt.assign t.line n.0 v.0 v.1,
          seq-put (at_line t.line (word (codes "s"))) (word (codes "->") ⨾ name_word n.0 ⨾ stored)
              (t ∷ tokens) tokens rest (line-put (word (codes "s")) t tokens tokens self)
              (seq-put (word (codes "->")) (name_word n.0 ⨾ stored) tokens m rest arrow
              (seq-put (name_word n.0) stored m k rest n.1 (ap stored out ∙ v.2))),
        )
    by (m, arrow, (k, n, (l, inr (index, spelled), f))) =
        let v : _ = stored-back l rest f in
        let stored : Spelling = word (codes "=") ⨾ cast_spelling v.0 ⨾ expr_spelling v.1 ⨾ word (codes ";") in (
          WrittenStmt.assign_at t.line n.0 index v.0 v.1,
          seq-put (at_line t.line (own_spelling n.0)) (in_brackets (expr_spelling index) ⨾ stored) (t ∷ tokens) k rest
              (line-put (own_spelling n.0) t tokens k (own-put n.0 (t ∷ tokens) tokens m k self arrow n.1))
              (seq-put (in_brackets (expr_spelling index)) stored k l rest spelled v.2),
        )
stmt-back depth t tokens rest (inr (inl h)) = by h.1
  where
    open_if : at_line t.line (word (codes "if")) (t ∷ tokens) ≡ Some tokens
    open_if = line-put (word (codes "if")) t tokens tokens (word-put (codes "if") t tokens (same_text t.text (codes "if") h.0))

    by : FillsAll (cond_need 1 ∷ text_need (codes "{") ∷ stmts_need (depth + 1) ∷ else_need depth ∷ []) tokens rest →
        (s : WrittenStmt) × (stmt_spelling s (t ∷ tokens) ≡ Some rest)
    by (m, c, (n, open_brace, (k, body, (l, inl out, e)))) = (
      WrittenStmt.branch t.line c.0 body.0,
      seq-put (at_line t.line (word (codes "if"))) (cond_spelling c.0 ⨾ in_braces (stmts_spelling body.0))
          (t ∷ tokens) tokens rest open_if
          (seq-put (cond_spelling c.0) (in_braces (stmts_spelling body.0)) tokens m rest c.1
          (braces-put (stmts_spelling body.0) m n body.1 rest open_brace body.2
          (subst (λ r. word (codes "}") body.1 ≡ Some r) (out ∙ e) body.3))),
    )
    by (m, c, (n, open_brace, (k, body, (l, inr more, e)))) = (
      WrittenStmt.branch_else t.line c.0 body.0 more.0,
      seq-put (at_line t.line (word (codes "if"))) (cond_spelling c.0 ⨾ in_braces (stmts_spelling body.0)
          ⨾ word (codes "else") ⨾ in_braces (stmts_spelling more.0)) (t ∷ tokens) tokens rest open_if
          (seq-put (cond_spelling c.0) (in_braces (stmts_spelling body.0) ⨾ word (codes "else")
          ⨾ in_braces (stmts_spelling more.0)) tokens m rest c.1
          (seq-put (in_braces (stmts_spelling body.0)) (word (codes "else") ⨾ in_braces (stmts_spelling more.0)) m k
          rest (braces-put (stmts_spelling body.0) m n body.1 k open_brace body.2 body.3)
          (subst (λ r. (word (codes "else") ⨾ in_braces (stmts_spelling more.0)) k ≡ Some r) e more.1))),
    )
stmt-back depth t tokens rest (inr (inr (inl h))) =
    let f : FillsAll (text_need (codes "(") ∷ target_need ∷ arguments_need ∷ text_need (codes ";") ∷ []) tokens rest = h.1 in
    let g : _ = f.2.1.0 in
    let vs : _ = f.2.2.1.0 in (
      WrittenStmt.call t.line t.text g vs,
      seq-put (at_line t.line (name_word t.text)) (in_parens (target_spelling g ⨾ arguments_spelling vs)
          ⨾ word (codes ";")) (t ∷ tokens) tokens rest
          (line-put (name_word t.text) t tokens tokens (name-put t tokens h.0))
          (seq-put (in_parens (target_spelling g ⨾ arguments_spelling vs)) (word (codes ";")) tokens f.2.2.0 rest
          (parens-put (target_spelling g ⨾ arguments_spelling vs) tokens f.0 f.2.2.1.1 f.2.2.0 f.1
          (seq-put (target_spelling g) (arguments_spelling vs) f.0 f.2.0 f.2.2.1.1 f.2.1.1 f.2.2.1.2) f.2.2.1.3)
          (subst (λ r. word (codes ";") f.2.2.0 ≡ Some r) f.2.2.2.2 f.2.2.2.1)),
    )
stmt-back depth t tokens rest (inr (inr (inr h))) = absurd h

field-back : (t : Token) (tokens rest : List Token) → Given (field_reply t.text) tokens rest →
    (f : WrittenField) × (field_spelling f (t ∷ tokens) ≡ Some rest)
field-back t tokens rest g =
    by (chosen ((is_type t.text, leaves (name_need ∷ length_need ∷ text_need (codes ";") ∷ []))
    ∷ (bytes_eq t.text (codes "struct"), leaves (name_need ∷ name_need ∷ text_need (codes ";") ∷ [])) ∷ []) tokens rest
    g)
  where
    put : (kind : WrittenKind) (name : List ℕ) (mid behind after end : List Token) →
        kind_spelling kind (t ∷ tokens) ≡ Some mid → name_word name mid ≡ Some behind →
        length_spelling kind behind ≡ Some after → word (codes ";") after ≡ Some end → end ≡ rest →
        (f : WrittenField) × (field_spelling f (t ∷ tokens) ≡ Some rest)
    put kind name mid behind after end h k l m e = (
      record { line = t.line; kind = kind; name = name },
      seq-put (at_line t.line (kind_spelling kind)) (name_word name ⨾ length_spelling kind ⨾ word (codes ";"))
          (t ∷ tokens) mid rest (line-put (kind_spelling kind) t tokens mid h)
          (seq-put (name_word name) (length_spelling kind ⨾ word (codes ";")) mid behind rest k
          (seq-put (length_spelling kind) (word (codes ";")) behind after rest l (m ∙ ap Some e))),
    )

    by : Chosen ((is_type t.text, leaves (name_need ∷ length_need ∷ text_need (codes ";") ∷ []))
        ∷ (bytes_eq t.text (codes "struct"), leaves (name_need ∷ name_need ∷ text_need (codes ";") ∷ [])) ∷ []) tokens
        rest → (f : WrittenField) × (field_spelling f (t ∷ tokens) ≡ Some rest)
    by (inl (test, (m, n, (l, inl out, (k, semi, e))))) =
        let type : _ = is_type-text t.text test in
        put (WrittenKind.number_kind type.0) n.0 tokens m l k (word-put (type_text type.0) t tokens type.1) n.1 (ap Some out) semi e
    by (inl (test, (m, n, (l, inr (count, spelled), (k, semi, e))))) =
        let type : _ = is_type-text t.text test in
        put (WrittenKind.array_kind type.0 count) n.0 tokens m l k (word-put (type_text type.0) t tokens type.1) n.1 spelled semi e
    by (inr (inl (test, (m, of, (k, n, (l, semi, e)))))) =
        put (WrittenKind.struct_kind of.0) n.0 m k k l
        (seq-put (word (codes "struct")) (name_word of.0) (t ∷ tokens) tokens m
        (word-put (codes "struct") t tokens (same_text t.text (codes "struct") test)) of.1) n.1 refl semi e
    by (inr (inr h)) = absurd h

struct-back : (t : Token) (tokens rest : List Token) → t.text ≡ codes "struct" → FillsAll struct_needs tokens rest →
    (d : WrittenStruct) × (behind : List Token) × (struct_spelling d (t ∷ tokens) ≡ Some behind)
    × Fills structs_need behind rest
struct-back t tokens rest is (m, n, (k, open_brace, (l, f, (o, fs, (p, semi, (q, more, e)))))) =
    let fields : List WrittenField = f.0 ∷ fs.0 in (
      record { line = t.line; name = n.0; fields = fields },
      p,
      seq-put (at_line t.line (word (codes "struct")))
          (name_word n.0 ⨾ in_braces (some_spelling field_spelling fields) ⨾ word (codes ";")) (t ∷ tokens) tokens p
          (line-put (word (codes "struct")) t tokens tokens (word-put (codes "struct") t tokens is))
          (seq-put (name_word n.0) (in_braces (some_spelling field_spelling fields) ⨾ word (codes ";")) tokens m p n.1
          (seq-put (in_braces (some_spelling field_spelling fields)) (word (codes ";")) m o p
          (braces-put (some_spelling field_spelling fields) m k fs.1 o open_brace
          (seq-put (field_spelling f.0) (all_spelling field_spelling fs.0) k l fs.1 f.1 fs.2) fs.3) semi)),
      subst (λ r. Fills structs_need p r) e more,
    )

procedure-rest : (private : Bool) (t : Token) (tokens start rest : List Token) →
    private_spelling private (t ∷ tokens) ≡ Some start → FillsAll procedure_needs start rest →
    (p : WrittenProcedure) × (behind : List Token) × (procedure_spelling p (t ∷ tokens) ≡ Some behind)
    × Fills procedures_need behind rest
procedure-rest private t tokens start rest h (
  a,
  n,
  (
    b,
    paren,
    (c, word_struct, (d, of, (e, star, (f, self, (g, ps, (i, open_brace, (j, body, (k, more, same)))))))),
  ),
) =
    let head : _ = word (codes "struct") ⨾ name_word of.0 ⨾ word (codes "*") ⨾ word (codes "s") ⨾ more_params_spelling ps.0 in
    let inner : head b ≡ Some ps.1 =
    seq-put (word (codes "struct")) (name_word of.0 ⨾ word (codes "*") ⨾ word (codes "s")
    ⨾ more_params_spelling ps.0) b c ps.1 word_struct
    (seq-put (name_word of.0) (word (codes "*") ⨾ word (codes "s") ⨾ more_params_spelling ps.0) c d ps.1 of.1
    (seq-put (word (codes "*")) (word (codes "s") ⨾ more_params_spelling ps.0) d e ps.1 star
    (seq-put (word (codes "s")) (more_params_spelling ps.0) e f ps.1 self ps.2))) in (
      record { line = t.line; private = private; name = n.0; of = of.0; params = ps.0; body = body.0 },
      j,
      seq-put (at_line t.line (private_spelling private)) (name_word n.0 ⨾ in_parens head
          ⨾ in_braces (stmts_spelling body.0)) (t ∷ tokens) start j (line-put (private_spelling private) t tokens start h)
          (seq-put (name_word n.0) (in_parens head ⨾ in_braces (stmts_spelling body.0)) start a j n.1
          (seq-put (in_parens head) (in_braces (stmts_spelling body.0)) a g j
          (parens-put head a b ps.1 g paren inner ps.3)
          (braces-put (stmts_spelling body.0) g i body.1 j open_brace body.2 body.3))),
      subst (λ r. Fills procedures_need j r) same more,
    )

procedure-back : (t : Token) (tokens rest : List Token) → Given (procedures_reply t.text) tokens rest →
    (p : WrittenProcedure) × (behind : List Token) × (procedure_spelling p (t ∷ tokens) ≡ Some behind)
    × Fills procedures_need behind rest
procedure-back t tokens rest g =
    by (chosen ((bytes_eq t.text (codes "static"), leaves (text_need (codes "void") ∷ procedure_needs))
    ∷ (bytes_eq t.text (codes "void"), leaves procedure_needs) ∷ []) tokens rest g)
  where
    by : Chosen ((bytes_eq t.text (codes "static"), leaves (text_need (codes "void") ∷ procedure_needs))
        ∷ (bytes_eq t.text (codes "void"), leaves procedure_needs) ∷ []) tokens rest →
        (p : WrittenProcedure) × (behind : List Token) × (procedure_spelling p (t ∷ tokens) ≡ Some behind)
        × Fills procedures_need behind rest
    by (inl (test, (m, void, f))) =
        procedure-rest true t tokens m rest (seq-put (word (codes "static")) (word (codes "void")) (t ∷ tokens) tokens m
        (word-put (codes "static") t tokens (same_text t.text (codes "static") test)) void) f
    by (inr (inl (test, f))) =
        procedure-rest false t tokens tokens rest
        (word-put (codes "void") t tokens (same_text t.text (codes "void") test)) f
    by (inr (inr h)) = absurd h

pure-back : (number : ℕ) (t : Token) (tokens rest : List Token) → t.text ≡ codes "static" →
    FillsAll (pure_needs number) tokens rest →
    (p : WrittenPure) × (behind : List Token) × (pure_spelling p (t ∷ tokens) ≡ Some behind)
    × Fills (pures_need number) behind rest
pure-back number t tokens rest is (
  a,
  int,
  (
    b,
    n,
    (
      c,
      paren,
      (d, p, (e, ps, (f, open_brace, (g, return, (i, body, (j, semi, (k, close, (l, more, same)))))))),
    ),
  ),
) =
    let params : List WrittenPureParam = p.0 ∷ ps.0 in
    let place : _ = line-some (word (codes "return")) refl f g return in
    let tail : _ = at_line place.0 (word (codes "return")) ⨾ expr_spelling body.0 ⨾ word (codes ";") in
    let inner : tail f ≡ Some j =
    seq-put (at_line place.0 (word (codes "return"))) (expr_spelling body.0 ⨾ word (codes ";")) f g j place.1
    (seq-put (expr_spelling body.0) (word (codes ";")) g i j body.1 semi) in (
      record { line = t.line; name = n.0; params = params; return_line = place.0; body = body.0 },
      k,
      seq-put (at_line t.line (word (codes "static"))) (word (codes "int64_t") ⨾ name_word n.0
          ⨾ in_parens (pure_params_spelling params) ⨾ in_braces tail) (t ∷ tokens) tokens k
          (line-put (word (codes "static")) t tokens tokens (word-put (codes "static") t tokens is))
          (seq-put (word (codes "int64_t")) (name_word n.0 ⨾ in_parens (pure_params_spelling params) ⨾ in_braces tail)
          tokens a k int (seq-put (name_word n.0) (in_parens (pure_params_spelling params) ⨾ in_braces tail) a b k n.1
          (seq-put (in_parens (pure_params_spelling params)) (in_braces tail) b e k
          (parens-put (pure_params_spelling params) b c ps.1 e paren
          (seq-put (pure_param_spelling p.0) (more_pure_params_spelling ps.0) c d ps.1 p.1 ps.2) ps.3)
          (braces-put tail e f j k open_brace inner close)))),
      subst (λ r. Fills (pures_need number) k r) same more,
    )

comma-back : (needs : List Need) (t : Token) (tokens rest : List Token) → Given (comma_reply needs t.text) tokens rest →
    ((word (codes ",") (t ∷ tokens) ≡ Some tokens) × FillsAll needs tokens rest)
    ⊎ (word (codes ")") (t ∷ tokens) ≡ Some rest)
comma-back needs t tokens rest g =
    by (chosen ((bytes_eq t.text (codes ","), leaves needs) ∷ (bytes_eq t.text (codes ")"), leaves []) ∷ []) tokens rest
    g)
  where
    by : Chosen ((bytes_eq t.text (codes ","), leaves needs) ∷ (bytes_eq t.text (codes ")"), leaves []) ∷ []) tokens
        rest → ((word (codes ",") (t ∷ tokens) ≡ Some tokens) × FillsAll needs tokens rest)
        ⊎ (word (codes ")") (t ∷ tokens) ≡ Some rest)
    by (inl (test, f)) = inl (word-put (codes ",") t tokens (same_text t.text (codes ",") test), f)
    by (inr (inl (test, same))) = inr (word-put (codes ")") t tokens (same_text t.text (codes ")") test) ∙ ap Some same)
    by (inr (inr h)) = absurd h

-- an index after its `[`
index-back : (depth : ℕ) (t : Token) (tokens rest : List Token) → bytes_eq t.text (codes "[") ≡ true →
    FillsAll (index_needs depth) tokens rest →
    (index : WrittenExpr) × (in_brackets (expr_spelling index) (t ∷ tokens) ≡ Some rest)
index-back depth t tokens rest is (m, e, (k, close, same)) = (
  e.0,
  brackets-put (expr_spelling e.0) (t ∷ tokens) tokens m rest
      (word-put (codes "[") t tokens (same_text t.text (codes "[") is)) e.1 (close ∙ ap Some same),
)

-- the length of an array after its `[`
length-back : (t : Token) (tokens rest : List Token) → bytes_eq t.text (codes "[") ≡ true →
    FillsAll length_needs tokens rest → (count : ℕ) × (in_brackets (literal_word count) (t ∷ tokens) ≡ Some rest)
length-back t tokens rest is (m, count, (k, close, same)) = (
  count.0,
  brackets-put (literal_word count.0) (t ∷ tokens) tokens m rest
      (word-put (codes "[") t tokens (same_text t.text (codes "[") is)) count.1 (close ∙ ap Some same),
)

leaf-back : (depth : ℕ) (t : Token) (tokens rest : List Token) → Given (reply_of (leaf_need depth) t.text) tokens rest →
    Fills (leaf_need depth) (t ∷ tokens) rest
leaf-back depth t tokens rest g =
    by (chosen ((bytes_eq t.text (codes "s"), leaves (text_need (codes "->") ∷ name_need ∷ tail_need depth ∷ []))
    ∷ (is_name t.text, leaves []) ∷ []) tokens rest g)
  where
    self : bytes_eq t.text (codes "s") ≡ true → word (codes "s") (t ∷ tokens) ≡ Some tokens
    self test = word-put (codes "s") t tokens (same_text t.text (codes "s") test)

    by : Chosen ((bytes_eq t.text (codes "s"), leaves (text_need (codes "->") ∷ name_need ∷ tail_need depth ∷ []))
        ∷ (is_name t.text, leaves []) ∷ []) tokens rest → Fills (leaf_need depth) (t ∷ tokens) rest
    by (inl (test, (m, arrow, (k, n, (l, inl out, same))))) =
        inl (WrittenLeaf.own n.0, own-put n.0 (t ∷ tokens) tokens m rest (self test) arrow (n.1 ∙ ap Some (out ∙ same)))
    by (inl (test, (m, arrow, (k, n, (l, inr (inl inner), same))))) =
        inl (
          WrittenLeaf.child n.0 inner.0,
          seq-put (word (codes "s")) (word (codes "->") ⨾ name_word n.0 ⨾ word (codes ".") ⨾ name_word inner.0)
              (t ∷ tokens) tokens rest (self test)
              (seq-put (word (codes "->")) (name_word n.0 ⨾ word (codes ".") ⨾ name_word inner.0) tokens m rest arrow
              (seq-put (name_word n.0) (word (codes ".") ⨾ name_word inner.0) m k rest n.1 (inner.1 ∙ ap Some same))),
        )
    by (inl (test, (m, arrow, (k, n, (l, inr (inr index), same))))) =
        inr (
          n.0,
          index.0,
          seq-put (own_spelling n.0) (in_brackets (expr_spelling index.0)) (t ∷ tokens) k rest
              (own-put n.0 (t ∷ tokens) tokens m k (self test) arrow n.1) (index.1 ∙ ap Some same),
        )
    by (inr (inl (test, same))) = inl (WrittenLeaf.param t.text, name-put t tokens test ∙ ap Some same)
    by (inr (inr h)) = absurd h

tail-back : (depth : ℕ) (t : Token) (tokens rest : List Token) → Given (reply_of (tail_need depth) t.text) tokens rest →
    Fills (tail_need depth) (t ∷ tokens) rest
tail-back depth t tokens rest g =
    by (chosen ((bytes_eq t.text (codes "."), leaves (name_need ∷ []))
    ∷ (bytes_eq t.text (codes "["), leaves (index_needs depth)) ∷ []) tokens rest g)
  where
    by : Chosen ((bytes_eq t.text (codes "."), leaves (name_need ∷ []))
        ∷ (bytes_eq t.text (codes "["), leaves (index_needs depth)) ∷ []) tokens rest →
        Fills (tail_need depth) (t ∷ tokens) rest
    by (inl (test, (m, n, same))) =
        inr (inl (
          n.0,
          seq-put (word (codes ".")) (name_word n.0) (t ∷ tokens) tokens rest
              (word-put (codes ".") t tokens (same_text t.text (codes ".") test)) (n.1 ∙ ap Some same),
        ))
    by (inr (inl (test, f))) = inr (inr (index-back depth t tokens rest test f))
    by (inr (inr h)) = absurd h

target-back : (t : Token) (tokens rest : List Token) → Given (reply_of target_need t.text) tokens rest →
    (target : WrittenTarget) × (target_spelling target (t ∷ tokens) ≡ Some rest)
target-back t tokens rest g =
    by (chosen ((bytes_eq t.text (codes "s"), leaves [])
    ∷ (bytes_eq t.text (codes "&"), leaves (text_need (codes "s") ∷ text_need (codes "->") ∷ name_need ∷ []))
    ∷ []) tokens rest g)
  where
    by : Chosen ((bytes_eq t.text (codes "s"), leaves [])
        ∷ (bytes_eq t.text (codes "&"), leaves (text_need (codes "s") ∷ text_need (codes "->") ∷ name_need ∷ []))
        ∷ []) tokens rest → (target : WrittenTarget) × (target_spelling target (t ∷ tokens) ≡ Some rest)
    by (inl (test, same)) = (WrittenTarget.own_target, word-put (codes "s") t tokens (same_text t.text (codes "s") test) ∙ ap Some same)
    by (inr (inl (test, (m, self, (k, arrow, (l, n, same)))))) = (
      WrittenTarget.field_target n.0,
      seq-put (word (codes "&")) (word (codes "s") ⨾ word (codes "->") ⨾ name_word n.0) (t ∷ tokens) tokens rest
          (word-put (codes "&") t tokens (same_text t.text (codes "&") test))
          (seq-put (word (codes "s")) (word (codes "->") ⨾ name_word n.0) tokens m rest self
          (seq-put (word (codes "->")) (name_word n.0) m k rest arrow (n.1 ∙ ap Some same))),
    )
    by (inr (inr h)) = absurd h

pub stmts-back : (depth : ℕ) (t : Token) (tokens rest : List Token) →
    Given (reply_of (stmts_need depth) t.text) tokens rest → Fills (stmts_need depth) (t ∷ tokens) rest
stmts-back depth t tokens rest g = by (bytes_eq t.text (codes "}")) refl g
  where
    by : (b : Bool) → bytes_eq t.text (codes "}") ≡ b →
        Given (if b then leaves [] else with_needs (stmt_reply depth t.text) (stmts_need depth ∷ [])) tokens rest →
        Fills (stmts_need depth) (t ∷ tokens) rest
    by true is same = (
      WrittenStmts.no_stmts,
      t ∷ tokens,
      refl,
      word-put (codes "}") t tokens (same_text t.text (codes "}") is)
          ∙ ap Some same,
    )
    by false is k =
        let w : _ = with-given (stmt_reply depth t.text) (stmts_need depth ∷ []) tokens rest k in
        let s : _ =
        stmt-back depth t tokens w.0
        (chosen (stmt_entries depth t.text) tokens w.0
        (limit-given depth stmt_limit (first_reply (stmt_entries depth t.text)) tokens w.0 w.1)) in
        let ss : _ = w.2.1 in (
          WrittenStmts.more_stmts s.0 ss.0,
          ss.1,
          seq-put (stmt_spelling s.0) (stmts_spelling ss.0) (t ∷ tokens) w.0 ss.1 s.1 ss.2,
          subst (λ r. word (codes "}") ss.1 ≡ Some r) w.2.2 ss.3,
        )

fields-back : (t : Token) (tokens rest : List Token) → Given (reply_of fields_need t.text) tokens rest → Fills fields_need (t ∷ tokens) rest
fields-back t tokens rest g = by (bytes_eq t.text (codes "}")) refl g
  where
    by : (b : Bool) → bytes_eq t.text (codes "}") ≡ b →
        Given (if b then leaves [] else with_needs (field_reply t.text) (fields_need ∷ [])) tokens rest →
        Fills fields_need (t ∷ tokens) rest
    by true is same = ([], t ∷ tokens, refl, word-put (codes "}") t tokens (same_text t.text (codes "}") is) ∙ ap Some same)
    by false is k =
        let w : _ = with-given (field_reply t.text) (fields_need ∷ []) tokens rest k in
        let f : _ = field-back t tokens w.0 w.1 in
        let fs : _ = w.2.1 in (
          f.0 ∷ fs.0,
          fs.1,
          seq-put (field_spelling f.0) (all_spelling field_spelling fs.0)
              (t ∷ tokens) w.0 fs.1 f.1 fs.2,
          subst (λ r. word (codes "}") fs.1 ≡ Some r) w.2.2 fs.3,
        )

structs-back : (t : Token) (tokens rest : List Token) → Given (reply_of structs_need t.text) tokens rest →
    Fills structs_need (t ∷ tokens) rest
structs-back t tokens rest g = by (bytes_eq t.text (codes "struct")) refl g
  where
    by : (b : Bool) → bytes_eq t.text (codes "struct") ≡ b →
        Given (if b then leaves struct_needs else procedures_reply t.text) tokens rest →
        Fills structs_need (t ∷ tokens) rest
    by true is f =
        let d : _ = struct-back t tokens rest (same_text t.text (codes "struct") is) f in (
          d.0 ∷ d.3.0,
          d.3.1,
          d.3.2,
          seq-put (struct_spelling d.0) (all_spelling struct_spelling d.3.0)
              (t ∷ tokens) d.1 d.3.2 d.2 d.3.3,
          d.3.4,
        )
    by false is k =
        let p : _ = procedure-back t tokens rest k in (
          [],
          p.0 ∷ p.3.0,
          t ∷ tokens,
          refl,
          seq-put (procedure_spelling p.0) (all_spelling procedure_spelling p.3.0)
              (t ∷ tokens) p.1 rest p.2 p.3.1,
        )

pub pures-back : (count : ℕ) (t : Token) (tokens rest : List Token) →
    Chosen ((bytes_eq t.text (codes "static"), leaves (pure_needs (count + 1)))
    ∷ (bytes_eq t.text (codes "struct"), leaves struct_needs) ∷ []) tokens rest →
    Fills (pures_need count) (t ∷ tokens) rest
pures-back count t tokens rest (inl (test, f)) =
    let x : _ = pure-back (count + 1) t tokens rest (same_text t.text (codes "static") test) f in
    let p : WrittenProgram = x.3.0 in
    let q : _ =
    seq-parts (all_spelling pure_spelling p.pures) (some_spelling struct_spelling p.structs
    ⨾ some_spelling procedure_spelling p.procedures) x.1 rest x.3.1 in (
      record { pures = x.0 ∷ p.pures; structs = p.structs; procedures = p.procedures },
      seq-put (all_spelling pure_spelling (x.0 ∷ p.pures)) (some_spelling struct_spelling p.structs
          ⨾ some_spelling procedure_spelling p.procedures) (t ∷ tokens) q.0 rest
          (seq-put (pure_spelling x.0) (all_spelling pure_spelling p.pures) (t ∷ tokens) x.1 q.0 x.2 q.1) q.2,
    )
pures-back count t tokens rest (inr (inl (test, f))) =
    let d : _ = struct-back t tokens rest (same_text t.text (codes "struct") test) f in (
      record { pures = []; structs = d.0 ∷ d.3.0; procedures = d.3.1 },
      seq-put (some_spelling struct_spelling (d.0 ∷ d.3.0)) (some_spelling procedure_spelling d.3.1)
          (t ∷ tokens) d.3.2 rest
          (seq-put (struct_spelling d.0) (all_spelling struct_spelling d.3.0) (t ∷ tokens) d.1 d.3.2 d.2 d.3.3) d.3.4,
    )
pures-back count t tokens rest (inr (inr h)) = absurd h

pures-given : (count : ℕ) (t : Token) (tokens rest : List Token) →
    Given (reply_of (pures_need count) t.text) tokens rest → Fills (pures_need count) (t ∷ tokens) rest
pures-given count t tokens rest g =
    by (chosen
    ((bytes_eq t.text (codes "static"), within_limit (count + 1) pure_limit (leaves (pure_needs (count + 1))))
    ∷ (bytes_eq t.text (codes "struct"), leaves struct_needs) ∷ []) tokens rest g)
  where
    by : Chosen
        ((bytes_eq t.text (codes "static"), within_limit (count + 1) pure_limit (leaves (pure_needs (count + 1))))
        ∷ (bytes_eq t.text (codes "struct"), leaves struct_needs) ∷ []) tokens rest →
        Fills (pures_need count) (t ∷ tokens) rest
    by (inl (test, f)) =
        pures-back count t tokens rest
        (inl (test, limit-given (count + 1) pure_limit (leaves (pure_needs (count + 1))) tokens rest f))
    by (inr h) = pures-back count t tokens rest (inr h)

pub pure_param-back : (t : Token) (tokens rest : List Token) →
    Given (only_if (bytes_eq t.text (codes "int64_t")) (leaves (name_need ∷ []))) tokens rest →
    (p : WrittenPureParam) × (pure_param_spelling p (t ∷ tokens) ≡ Some rest)
pure_param-back t tokens rest g =
    let k : _ = only-given (bytes_eq t.text (codes "int64_t")) (leaves (name_need ∷ [])) tokens rest g in
    let n : _ = k.1.1 in (
      record { line = t.line; name = n.0 },
      seq-put (at_line t.line (word (codes "int64_t"))) (name_word n.0)
          (t ∷ tokens) tokens rest
          (line-put (word (codes "int64_t")) t tokens tokens
          (word-put (codes "int64_t") t tokens (same_text t.text (codes "int64_t") k.0))) (n.1 ∙ ap Some k.1.2),
    )

pub param-back : (t : Token) (tokens rest : List Token) →
    Given (only_if (is_type t.text) (leaves (name_need ∷ []))) tokens rest →
    (p : WrittenParam) × (param_spelling p (t ∷ tokens) ≡ Some rest)
param-back t tokens rest g =
    let k : _ = only-given (is_type t.text) (leaves (name_need ∷ [])) tokens rest g in
    let type : _ = is_type-text t.text k.0 in
    let n : _ = k.1.1 in (
      record { line = t.line; type = type.0; name = n.0 },
      seq-put (at_line t.line (word (type_text type.0))) (name_word n.0) (t ∷ tokens) tokens rest
          (line-put (word (type_text type.0)) t tokens tokens (word-put (type_text type.0) t tokens type.1))
          (n.1 ∙ ap Some k.1.2),
    )

-- the token gives what is needed, with what it leaves
pub back : (need : Need) (t : Token) (tokens rest : List Token) → Given (reply_of need t.text) tokens rest → Fills need (t ∷ tokens) rest
back (text_need wanted) t tokens rest g =
    let k : _ = only-given (bytes_eq t.text wanted) (leaves []) tokens rest g in
    word-put wanted t tokens (same_text t.text wanted k.0) ∙ ap Some k.1
back name_need t tokens rest g =
    let k : _ = only-given (is_name t.text) (leaves []) tokens rest g in
    (t.text, name-put t tokens k.0 ∙ ap Some k.1)
back literal_need t tokens rest g =
    let k : _ = only-given (is_literal t.text) (leaves []) tokens rest g in
    let v : _ = is_literal-text t.text k.0 in
    (v.0, literal-put v.0 t tokens v.1 v.2 ∙ ap Some k.1)
back type_need t tokens rest g =
    let k : _ = only-given (is_type t.text) (leaves []) tokens rest g in
    let type : _ = is_type-text t.text k.0 in
    (type.0, word-put (type_text type.0) t tokens type.1 ∙ ap Some k.1)
back (operand_need role depth) t tokens rest g =
    operand-back role depth t tokens rest
    (chosen (operand_entries role depth t.text) tokens rest
    (limit-given depth expr_limit (first_reply (operand_entries role depth t.text)) tokens rest g))
back (inside_need role depth) t tokens rest g = inside-back role depth t tokens rest g
back (joint_need kind role depth) t tokens rest g = joint-back kind role depth t tokens rest g
back (values_need depth) t tokens rest g = by (comma-back (expr_need depth ∷ values_need depth ∷ []) t tokens rest g)
  where
    by : ((word (codes ",") (t ∷ tokens) ≡ Some tokens)
        × FillsAll (expr_need depth ∷ values_need depth ∷ []) tokens rest) ⊎ (word (codes ")") (t ∷ tokens)
        ≡ Some rest) → Fills (values_need depth) (t ∷ tokens) rest
    by (inl (comma, (m, e, (k, es, same)))) = (
      WrittenExprs.more_exprs e.0 es.0,
      es.1,
      seq-put (word (codes ",")) (expr_spelling e.0 ⨾ more_exprs_spelling es.0) (t ∷ tokens) tokens es.1 comma
          (seq-put (expr_spelling e.0) (more_exprs_spelling es.0) tokens m es.1 e.1 es.2),
      subst (λ r. word (codes ")") es.1 ≡ Some r) same es.3,
    )
    by (inr close) = (WrittenExprs.no_exprs, t ∷ tokens, refl, close)
back (leaf_need depth) t tokens rest g = leaf-back depth t tokens rest g
back (tail_need depth) t tokens rest g = tail-back depth t tokens rest g
back index_need t tokens rest g =
    let k : _ = only-given (bytes_eq t.text (codes "[")) (leaves (index_needs 1)) tokens rest g in
    inr (index-back 1 t tokens rest k.0 k.1)
back length_need t tokens rest g =
    let k : _ = only-given (bytes_eq t.text (codes "[")) (leaves length_needs) tokens rest g in
    inr (length-back t tokens rest k.0 k.1)
back target_need t tokens rest g = target-back t tokens rest g
back arguments_need t tokens rest g =
    by (comma-back (text_need (codes "(") ∷ type_need ∷ text_need (codes ")") ∷ expr_need 1 ∷ arguments_need
    ∷ []) t tokens rest g)
  where
    by : ((word (codes ",") (t ∷ tokens) ≡ Some tokens)
        × FillsAll (text_need (codes "(") ∷ type_need ∷ text_need (codes ")") ∷ expr_need 1 ∷ arguments_need
        ∷ []) tokens rest) ⊎ (word (codes ")") (t ∷ tokens) ≡ Some rest) → Fills arguments_need (t ∷ tokens) rest
    by (inl (comma, (a, open_paren, (b, type, (c, close, (d, e, (f, values, same))))))) = (
      WrittenArguments.more_arguments type.0 e.0 values.0,
      values.1,
      seq-put (word (codes ",")) (cast_spelling type.0 ⨾ expr_spelling e.0 ⨾ arguments_spelling values.0)
          (t ∷ tokens) tokens values.1 comma
          (seq-put (cast_spelling type.0) (expr_spelling e.0 ⨾ arguments_spelling values.0) tokens c values.1
          (parens-put (word (type_text type.0)) tokens a b c open_paren type.1 close)
          (seq-put (expr_spelling e.0) (arguments_spelling values.0) c d values.1 e.1 values.2)),
      subst (λ r. word (codes ")") values.1 ≡ Some r) same values.3,
    )
    by (inr close) = (WrittenArguments.no_arguments, t ∷ tokens, refl, close)
back (stmts_need depth) t tokens rest g = stmts-back depth t tokens rest g
back (else_need depth) t tokens rest g =
    let k : _ = only-given (bytes_eq t.text (codes "else")) (leaves (text_need (codes "{") ∷ stmts_need (depth + 1) ∷ [])) tokens rest g in
    let f : FillsAll (text_need (codes "{") ∷ stmts_need (depth + 1) ∷ []) tokens rest = k.1 in
    let ss : _ = f.2.1 in
    inr (
      ss.0,
      seq-put (word (codes "else")) (in_braces (stmts_spelling ss.0)) (t ∷ tokens) tokens rest
          (word-put (codes "else") t tokens (same_text t.text (codes "else") k.0))
          (braces-put (stmts_spelling ss.0) tokens f.0 ss.1 rest f.1 ss.2 (ss.3 ∙ ap Some f.2.2)),
    )
back (pure_param_need number) t tokens rest g =
    pure_param-back t tokens rest
    (limit-given number param_limit (only_if (bytes_eq t.text (codes "int64_t")) (leaves (name_need ∷ []))) tokens
    rest g)
back (pure_params_need count) t tokens rest g =
    by (comma-back (pure_param_need (count + 1) ∷ pure_params_need (count + 1) ∷ []) t tokens rest g)
  where
    by : ((word (codes ",") (t ∷ tokens) ≡ Some tokens)
        × FillsAll (pure_param_need (count + 1) ∷ pure_params_need (count + 1) ∷ []) tokens rest)
        ⊎ (word (codes ")") (t ∷ tokens) ≡ Some rest) → Fills (pure_params_need count) (t ∷ tokens) rest
    by (inl (comma, (m, p, (k, ps, same)))) = (
      p.0 ∷ ps.0,
      ps.1,
      seq-put (word (codes ",")) (pure_param_spelling p.0 ⨾ more_pure_params_spelling ps.0)
          (t ∷ tokens) tokens ps.1 comma
          (seq-put (pure_param_spelling p.0) (more_pure_params_spelling ps.0) tokens m ps.1 p.1 ps.2),
      subst (λ r. word (codes ")") ps.1 ≡ Some r) same ps.3,
    )
    by (inr close) = ([], t ∷ tokens, refl, close)
back (param_need number) t tokens rest g =
    param-back t tokens rest (limit-given number param_limit (only_if (is_type t.text) (leaves (name_need ∷ []))) tokens rest g)
back (params_need count) t tokens rest g = by (comma-back (param_need (count + 1) ∷ params_need (count + 1) ∷ []) t tokens rest g)
  where
    by : ((word (codes ",") (t ∷ tokens) ≡ Some tokens)
        × FillsAll (param_need (count + 1) ∷ params_need (count + 1) ∷ []) tokens rest) ⊎ (word (codes ")") (t ∷ tokens)
        ≡ Some rest) → Fills (params_need count) (t ∷ tokens) rest
    by (inl (comma, (m, p, (k, ps, same)))) = (
      p.0 ∷ ps.0,
      ps.1,
      seq-put (word (codes ",")) (param_spelling p.0 ⨾ more_params_spelling ps.0)
          (t ∷ tokens) tokens ps.1 comma
          (seq-put (param_spelling p.0) (more_params_spelling ps.0) tokens m ps.1 p.1 ps.2),
      subst (λ r. word (codes ")") ps.1 ≡ Some r) same ps.3,
    )
    by (inr close) = ([], t ∷ tokens, refl, close)
back field_need t tokens rest g = field-back t tokens rest g
back fields_need t tokens rest g = fields-back t tokens rest g
back (pures_need count) t tokens rest g = pures-given count t tokens rest g
back structs_need t tokens rest g = structs-back t tokens rest g
back procedures_need t tokens rest g =
    let p : _ = procedure-back t tokens rest g in
    (p.0 ∷ p.3.0, seq-put (procedure_spelling p.0) (all_spelling procedure_spelling p.3.0) (t ∷ tokens) p.1 rest p.2 p.3.1)
