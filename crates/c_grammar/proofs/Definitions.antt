-- What the parse of definitions answers is what the needs say.
use Rattle.std.proofs.Common.{◌≡◌, refl, sym, ◌∙◌, ap, ℕ, suc, ◌+◌, List, [], ◌∷◌, ◌++◌, append_assoc, length, Bool, true, false, nat_le, Option, Some, None, Result, Ok, codes, bytes_eq, arith, if◌then◌else◌}
use Rattle.std.proofs.lemmas.Bool.{eq-eqb}
use Rattle.std.proofs.lemmas.Slice.Eq.{bytes_eq-Decides}
use Rattle.c_syntax.specs.declared.code.CType.{CType}
use Rattle.c_syntax.specs.declared.fault.CFault.{CFault}
use Rattle.c_grammar.specs.Tokens.{Token}
use Rattle.c_syntax.specs.Kinds.{WrittenKind}
use Rattle.c_grammar.specs.Written.{WrittenParam, WrittenPureParam, WrittenField, WrittenProcedure}
use Rattle.c_grammar.specs.Grammar.{◌⨾◌, word, at_line, type_text, pure_param_spelling, more_pure_params_spelling, param_spelling, more_params_spelling, kind_spelling, length_spelling, field_spelling, all_spelling, pure_spelling, struct_spelling, private_spelling, procedure_spelling}
use Rattle.c_grammar.specs.Prefix.{Need, text_need, name_need, expr_need, stmts_need, pure_param_need, pure_params_need, param_need, params_need, length_need, length_needs, field_need, fields_need, pures_need, structs_need, procedures_need, Reply, refuses, too_deep, leaves, with_needs, within_limit, only_if, first_reply, field_reply, procedures_reply, struct_needs, procedure_needs, pure_needs, is_type, step_needs, on_reply, may_end, token_fault}
use Rattle.c_syntax.specs.Limits.{expr_limit, stmt_limit, param_limit}
use Rattle.base_core.specs.Results.{◌>>=◌, ◌>>◌}
use Rattle.c_grammar.specs.Parsing.{Limits, next, or_syntax, or_syntax_unless, or_deep_unless, type_of_text, first_text, parse_word, parse_name, parse_stmt, parse_pure_param, pure_params_step, pure_params_step_by, parse_param, params_step, params_step_by, parse_pure, parse_length, parse_field_from, parse_field, fields_step, fields_step_by, parse_struct, parse_procedure_behind, parse_procedure, definition_of}
use Rattle.c_grammar.specs.declared.openers.Definition.TheVariants.{Static as static_definition, Struct as struct_definition, Void as void_definition, Nothing as no_definition}
use Rattle.c_grammar.proofs.lemmas.Shrinking.{◌▸◌, word-takes, field-takes, param-shrinks, pure_param-shrinks}
use Rattle.c_grammar.proofs.Answering.{Answers, Reads, chain, turned}
use Rattle.c_grammar.proofs.Words.{Found, type-found, word-reads, name-reads, literal-reads}
use Rattle.c_grammar.proofs.Lists.{Stepped, many-reads, comma-reads}
use Rattle.c_grammar.proofs.Exprs.{expr-reads}
use Rattle.c_grammar.proofs.Statements.{stmt-reads, block-reads}

-- a text that is one word is no other
pub no_other : (text one other : List ℕ) → bytes_eq text one ≡ true → bytes_eq one other ≡ false → bytes_eq text other ≡ false
no_other text one other e f = ap (λ x. bytes_eq x other) ((bytes_eq-Decides text one).0 e) ∙ f

-- needs after needs
with_both : (reply : Reply) (before behind : List Need) → with_needs (with_needs reply before) behind ≡ with_needs reply (before ++ behind)
with_both refuses before behind = refl
with_both too_deep before behind = refl
with_both (leaves needs) before behind = ap leaves (append_assoc needs before behind)

-- one token with a text, and then a parse that is given the token
token-chain : {Y : Type 0} {now : Option CFault} {aim : Y → Type 0} (last : ℕ) (text : List ℕ) (more : List Need)
    (tokens : List Token) (go : Token × List Token → Result Y CFault) →
    now ≡ token_fault (text_need text ∷ more) last tokens →
    ((t : Token) (rest : List Token) → tokens ≡ t ∷ rest → bytes_eq t.text text ≡ true →
    now ≡ token_fault more last rest → Answers now aim (go (t, rest))) →
    Answers now aim (next last tokens >>= λ t. or_syntax_unless t.0 (bytes_eq t.0.text text) >> go t)
token-chain last text more [] go h later = record { is = h }
token-chain {Y} {now} {aim} last text more (t ∷ tokens) go h later = by (bytes_eq t.text text) refl h
  where
    by : (b : Bool) → bytes_eq t.text text ≡ b →
        now ≡ on_reply (with_needs (only_if b (leaves [])) more) t.line (λ left. token_fault left last tokens) →
        Answers now aim (or_syntax_unless t b >> go (t, tokens))
    by true e k = later t tokens refl e k
    by false e k = record { is = k }

module _ (last : ℕ) (limits : Limits) (exprs : limits.exprs ≡ expr_limit) (stmts : limits.stmts ≡ stmt_limit)
    (params : limits.params ≡ param_limit) where
  pure_param-reads : (count : ℕ) (now : Option CFault) (more : List Need) (tokens : List Token) →
      now ≡ token_fault (pure_param_need (count + 1) ∷ more) last tokens →
      Answers now (Reads last now pure_param_spelling more tokens) (parse_pure_param last limits count tokens)
  pure_param-reads count now more [] h = record { is = h }
  pure_param-reads count now more (t ∷ tokens) h = by (bytes_eq t.text (codes "int64_t")) refl h
    where
      deep : (b : Bool) → bytes_eq t.text (codes "int64_t") ≡ true →
          now ≡ on_reply (with_needs (if b then leaves (name_need ∷ []) else too_deep) more) t.line
          (λ left. token_fault left last tokens) →
          Answers now (Reads last now pure_param_spelling more (t ∷ tokens))
          (or_deep_unless t b >>
          (parse_name last tokens >>= λ name. Ok (record { line = t.line; name = name.0 }, name.1)))
      deep true e k =
          chain _ _ (name-reads last now more tokens k)
          (λ x rx.
          record { is = record { spelled = rw (eq-eqb t.line t.line refl, e, rx.spelled) refl; goes = rx.goes } })
      deep false e k = record { is = k }

      by : (b : Bool) → bytes_eq t.text (codes "int64_t") ≡ b →
          now ≡ on_reply (with_needs (within_limit (count + 1) param_limit (only_if b (leaves (name_need ∷ [])))) more)
          t.line (λ left. token_fault left last tokens) →
          Answers now (Reads last now pure_param_spelling more (t ∷ tokens))
          (or_syntax_unless t b >>
          (or_deep_unless t (nat_le (count + 1) limits.params) >>
          (parse_name last tokens >>= λ name. Ok (record { line = t.line; name = name.0 }, name.1))))
      by true e k = deep (nat_le (count + 1) limits.params) e (rw params k)
      by false e k = record { is = k }

  abbrev PureParams : List WrittenPureParam → List Token → List Token → Type 0
  PureParams ps tokens rest = (more_pure_params_spelling ps ⨾ word (codes ")")) tokens ≡ Some rest

  pure_params_step-reads : (more : List Need) (now : Option CFault) (count : ℕ) (tokens : List Token) →
      now ≡ token_fault (pure_params_need count ∷ more) last tokens →
      Answers now (Stepped last (λ n. pure_params_need n ∷ more) more PureParams now count tokens)
      (pure_params_step last limits count tokens)
  pure_params_step-reads more now count [] h = record { is = h }
  pure_params_step-reads more now count (t ∷ tokens) h =
      comma-reads last now (pure_param_need (count + 1) ∷ pure_params_need (count + 1) ∷ []) more t tokens _
      (pure_params_step_by last limits count t tokens) h
      (λ comma k. chain _ _ (pure_param-reads count now (pure_params_need (count + 1) ∷ more) tokens k) (λ p r.
      record {
        is = record {
          grows = λ ps end later. rw (comma, r.spelled) later;
          shorter = (word-takes (codes ",") ▸ pure_param-shrinks p.0).by (t ∷ tokens) p.1 (rw (comma, r.spelled) refl);
          goes = r.goes;
        };
      }))
      (λ close k. record { is = record { none = rw close refl; goes = k } })
      refl

  param-reads : (count : ℕ) (now : Option CFault) (more : List Need) (tokens : List Token) →
      now ≡ token_fault (param_need (count + 1) ∷ more) last tokens →
      Answers now (Reads last now param_spelling more tokens) (parse_param last limits count tokens)
  param-reads count now more [] h = record { is = h }
  param-reads count now more (t ∷ tokens) h = by (type_of_text t.text) (is_type t.text) (type-found t.text) h
    where
      deep : (b : Bool) (type : CType) → t.text ≡ type_text type →
          now ≡ on_reply (with_needs (if b then leaves (name_need ∷ []) else too_deep) more) t.line
          (λ left. token_fault left last tokens) →
          Answers now (Reads last now param_spelling more (t ∷ tokens))
          (or_deep_unless t b >>
          (parse_name last tokens >>= λ name. Ok (record { line = t.line; type = type; name = name.0 }, name.1)))
      deep true type e k =
          chain _ _ (name-reads last now more tokens k)
          (λ x rx.
          record {
            is = record {
              spelled = rw (
                eq-eqb t.line t.line refl,
                (bytes_eq-Decides t.text (type_text type)).1 e,
                rx.spelled,
              ) refl;
              goes = rx.goes;
            };
          })
      deep false type e k = record { is = k }

      by : (o : Option CType) (b : Bool) → Found type_text t.text o b →
          now ≡ on_reply (with_needs (within_limit (count + 1) param_limit (only_if b (leaves (name_need ∷ [])))) more)
          t.line (λ left. token_fault left last tokens) →
          Answers now (Reads last now param_spelling more (t ∷ tokens))
          (or_syntax t o >>= λ type. or_deep_unless t (nat_le (count + 1) limits.params) >>
          (parse_name last tokens >>= λ name. Ok (record { line = t.line; type = type; name = name.0 }, name.1)))
      by (Some type) b f k = deep (nat_le (count + 1) limits.params) type f.0 (rw params (rw f.1 at k))
      by None b f k = record { is = rw f at k }

  abbrev Params : List WrittenParam → List Token → List Token → Type 0
  Params ps tokens rest = (more_params_spelling ps ⨾ word (codes ")")) tokens ≡ Some rest

  params_step-reads : (more : List Need) (now : Option CFault) (count : ℕ) (tokens : List Token) →
      now ≡ token_fault (params_need count ∷ more) last tokens →
      Answers now (Stepped last (λ n. params_need n ∷ more) more Params now count tokens)
      (params_step last limits count tokens)
  params_step-reads more now count [] h = record { is = h }
  params_step-reads more now count (t ∷ tokens) h =
      comma-reads last now (param_need (count + 1) ∷ params_need (count + 1) ∷ []) more t tokens _
      (params_step_by last limits count t tokens) h
      (λ comma k. chain _ _ (param-reads count now (params_need (count + 1) ∷ more) tokens k) (λ p r.
      record {
        is = record {
          grows = λ ps end later. rw (comma, r.spelled) later;
          shorter = (word-takes (codes ",") ▸ param-shrinks p.0).by (t ∷ tokens) p.1 (rw (comma, r.spelled) refl);
          goes = r.goes;
        };
      }))
      (λ close k. record { is = record { none = rw close refl; goes = k } })
      refl

  -- the length of an array, or nothing for a number, after the name of a field of this type
  record ReadsLength (type : CType) (now : Option CFault) (more : List Need) (tokens : List Token)
      (x : WrittenKind × List Token) : Type 0 where
    typed : (start : List Token) → kind_spelling x.0 start ≡ word (type_text type) start
    spelled : length_spelling x.0 tokens ≡ Some x.1
    goes : now ≡ token_fault more last x.1

  length-reads : (type : CType) (now : Option CFault) (more : List Need) (tokens : List Token) → may_end more ≡ false
      → now ≡ token_fault (length_need ∷ more) last tokens
      → Answers now (ReadsLength type now more tokens) (parse_length last limits type tokens (bytes_eq (first_text tokens) (codes "[")))
  length-reads type now more [] goes_on h = record { is = record { typed = λ start. refl; spelled = refl; goes = rw goes_on h } }
  length-reads type now more (t ∷ tokens) goes_on h = by (bytes_eq t.text (codes "[")) refl h
    where
      by : (b : Bool)
          → bytes_eq t.text (codes "[") ≡ b → now ≡ on_reply (if b then leaves (length_needs ++ more) else step_needs more t.text) t.line
          (λ left. token_fault left last tokens) → Answers now (ReadsLength type now more (t ∷ tokens))
          (parse_length last limits type (t ∷ tokens) b)
      by true opened k =
          chain _ _ (literal-reads last now (text_need (codes "]") ∷ more) tokens k) (λ count rc.
          chain _ _ (word-reads last (codes "]") now more count.1 rc.goes) (λ close rl.
          record { is = record { typed = λ start. refl; spelled = rw (opened, rc.spelled, rl.spelled) refl; goes = rl.goes } }))
      by false opened k = record { is = record { typed = λ start. refl; spelled = refl; goes = k } }

  field-reads : (now : Option CFault) (more : List Need) (t : Token) (tokens : List Token) →
      now ≡ on_reply (with_needs (field_reply t.text) more) t.line (λ left. token_fault left last tokens) →
      Answers now (Reads last now field_spelling more (t ∷ tokens)) (parse_field last limits (t ∷ tokens))
  field-reads now more t tokens h = by (bytes_eq t.text (codes "struct")) refl h
    where
      typed : (o : Option CType) (b : Bool) → Found type_text t.text o b
          → now ≡ on_reply (with_needs (first_reply ((b, leaves (name_need ∷ length_need ∷ text_need (codes ";") ∷ []))
          ∷ (false, leaves (name_need ∷ name_need ∷ text_need (codes ";") ∷ [])) ∷ [])) more) t.line
          (λ left. token_fault left last tokens)
          → Answers now (Reads last now field_spelling more (t ∷ tokens))
          (or_syntax t o >>= λ type. parse_name last tokens >>= λ name. parse_length last limits type name.1
          (bytes_eq (first_text name.1) (codes "[")) >>= λ kind. parse_word last (codes ";") kind.1 >>= λ end. Ok
          (record { line = t.line; kind = kind.0; name = name.0 }, end.1))
      typed (Some type) b f k =
          chain _ _ (name-reads last now (length_need ∷ text_need (codes ";") ∷ more) tokens (rw f.1 at k)) (λ name rn.
          chain _ _ (length-reads type now (text_need (codes ";") ∷ more) name.1 refl rn.goes) (λ kind rk.
          chain _ _ (word-reads last (codes ";") now more kind.1 rk.goes) (λ end re.
          record {
            is = record {
              spelled = rw (
                eq-eqb t.line t.line refl,
                rk.typed (t ∷ tokens),
                (bytes_eq-Decides t.text (type_text type)).1 f.0,
                rn.spelled,
                rk.spelled,
                re.spelled,
              ) refl;
              goes = re.goes;
            };
          })))
      typed None b f k = record { is = rw f at k }

      by : (b : Bool) → bytes_eq t.text (codes "struct") ≡ b
          → now ≡ on_reply (with_needs (first_reply ((is_type t.text, leaves (name_need ∷ length_need ∷ text_need (codes ";") ∷ []))
          ∷ (b, leaves (name_need ∷ name_need ∷ text_need (codes ";") ∷ [])) ∷ [])) more) t.line (λ left. token_fault left last tokens)
          → Answers now (Reads last now field_spelling more (t ∷ tokens)) (parse_field_from last limits t tokens b)
      by true e k =
          let no_type : is_type t.text ≡ false = ap is_type ((bytes_eq-Decides t.text (codes "struct")).0 e) in
          chain _ _ (name-reads last now (name_need ∷ text_need (codes ";") ∷ more) tokens (rw no_type at k)) (λ of ro.
          chain _ _ (name-reads last now (text_need (codes ";") ∷ more) of.1 ro.goes) (λ name rn.
          chain _ _ (word-reads last (codes ";") now more name.1 rn.goes) (λ end re.
          record { is = record { spelled = rw (eq-eqb t.line t.line refl, e, ro.spelled, rn.spelled, re.spelled) refl; goes = re.goes } })))
      by false e k = typed (type_of_text t.text) (is_type t.text) (type-found t.text) k

  first_field-reads : (now : Option CFault) (more : List Need) (tokens : List Token) →
      now ≡ token_fault (field_need ∷ more) last tokens →
      Answers now (Reads last now field_spelling more tokens) (parse_field last limits tokens)
  first_field-reads now more [] h = record { is = h }
  first_field-reads now more (t ∷ tokens) h = field-reads now more t tokens h

  abbrev Fields : List WrittenField → List Token → List Token → Type 0
  Fields fs tokens rest = (all_spelling field_spelling fs ⨾ word (codes "}")) tokens ≡ Some rest

  fields_step-reads : (more : List Need) (now : Option CFault) (count : ℕ) (tokens : List Token) →
      now ≡ token_fault (fields_need ∷ more) last tokens →
      Answers now (Stepped last (λ n. fields_need ∷ more) more Fields now count tokens)
      (fields_step last limits count tokens)
  fields_step-reads more now count [] h = record { is = h }
  fields_step-reads more now count (t ∷ tokens) h = by (bytes_eq t.text (codes "}")) refl h
    where
      by : (b : Bool) → bytes_eq t.text (codes "}") ≡ b →
          now ≡ on_reply (with_needs (if b then leaves [] else with_needs (field_reply t.text) (fields_need ∷ [])) more)
          t.line (λ left. token_fault left last tokens) →
          Answers now (Stepped last (λ n. fields_need ∷ more) more Fields now count (t ∷ tokens))
          (fields_step_by last limits (t ∷ tokens) b)
      by true e k = record { is = record { none = rw e refl; goes = k } }
      by false e k =
          chain _ _
          (field-reads now (fields_need ∷ more) t tokens
          (k ∙ ap (λ r. on_reply r t.line (λ left. token_fault left last tokens))
          (with_both (field_reply t.text) (fields_need ∷ []) more))) (λ f r.
          record {
            is = record {
              grows = λ fs end later. rw r.spelled later;
              shorter = (field-takes f.0).by (t ∷ tokens) f.1 r.spelled;
              goes = r.goes;
            };
          })

  pub struct-reads : (now : Option CFault) (t : Token) (tokens : List Token) → bytes_eq t.text (codes "struct") ≡ true →
      now ≡ token_fault struct_needs last tokens →
      Answers now (Reads last now struct_spelling (structs_need ∷ []) (t ∷ tokens)) (parse_struct last limits t tokens)
  struct-reads now t tokens begins h =
      chain _ _
      (name-reads last now (text_need (codes "{") ∷ field_need ∷ fields_need ∷ text_need (codes ";") ∷ structs_need
      ∷ []) tokens h) (λ name rn.
      chain _ _
      (word-reads last (codes "{") now (field_need ∷ fields_need ∷ text_need (codes ";") ∷ structs_need ∷ []) name.1
      rn.goes) (λ x rx.
      chain _ _ (first_field-reads now (fields_need ∷ text_need (codes ";") ∷ structs_need ∷ []) x.1 rx.goes) (λ f rf.
      chain _ _ (many-reads last (λ n. fields_need ∷ text_need (codes ";") ∷ structs_need ∷ [])
      (text_need (codes ";") ∷ structs_need ∷ []) Fields (fields_step last limits)
      (fields_step-reads (text_need (codes ";") ∷ structs_need ∷ [])) (suc (length f.1)) 0 now f.1
      (omega arith) rf.goes) (λ fs rs.
      chain _ _ (word-reads last (codes ";") now (structs_need ∷ []) fs.1 rs.goes) (λ end re.
      record {
        is = record {
          spelled = rw (
            eq-eqb t.line t.line refl,
            begins,
            rn.spelled,
            rx.spelled,
            rf.spelled,
            rs.elements,
            re.spelled,
          ) refl;
          goes = re.goes;
        };
      })))))

  pub pure-reads : (number : ℕ) (now : Option CFault) (t : Token) (tokens : List Token) →
      bytes_eq t.text (codes "static") ≡ true → now ≡ token_fault (pure_needs number) last tokens →
      Answers now (Reads last now pure_spelling (pures_need number ∷ []) (t ∷ tokens)) (parse_pure last limits t tokens)
  pure-reads number now t tokens begins h =
      let after : List Need = text_need (codes ";") ∷ text_need (codes "}") ∷ pures_need number ∷ [] in
      let body : List Need = text_need (codes "{") ∷ text_need (codes "return") ∷ expr_need 1 ∷ after in
      chain _ _
      (word-reads last (codes "int64_t") now (name_need ∷ text_need (codes "(") ∷ pure_param_need 1
      ∷ pure_params_need 1 ∷ body) tokens h) (λ type rt.
      chain _ _ (name-reads last now (text_need (codes "(") ∷ pure_param_need 1 ∷ pure_params_need 1 ∷ body) type.1 rt.goes) (λ name rn.
      chain _ _ (word-reads last (codes "(") now (pure_param_need 1 ∷ pure_params_need 1 ∷ body) name.1 rn.goes) (λ x rx.
      chain _ _ (pure_param-reads 0 now (pure_params_need 1 ∷ body) x.1 rx.goes) (λ p rp.
      chain _ _ (many-reads last (λ n. pure_params_need n ∷ body) body PureParams (pure_params_step last limits)
      (pure_params_step-reads body) (suc (length p.1)) 1 now p.1 (omega arith) rp.goes) (λ ps rs.
      chain _ _ (word-reads last (codes "{") now (text_need (codes "return") ∷ expr_need 1 ∷ after) ps.1 rs.goes) (λ y ry.
      token-chain last (codes "return") (expr_need 1 ∷ after) y.1 _ ry.goes (λ r rest list returns k.
      chain _ _ (expr-reads last limits.exprs exprs now after rest refl k) (λ e re.
      chain _ _ (word-reads last (codes ";") now (text_need (codes "}") ∷ pures_need number ∷ []) e.1 re.goes) (λ end rd.
      chain _ _ (word-reads last (codes "}") now (pures_need number ∷ []) end.1 rd.goes) (λ close rc.
      record {
        is = record {
          spelled = rw (
            eq-eqb t.line t.line refl,
            begins,
            rt.spelled,
            rn.spelled,
            rx.spelled,
            rp.spelled,
            rs.elements,
            ry.spelled,
            list,
            eq-eqb r.line r.line refl,
            returns,
            re.spelled,
            rd.spelled,
            rc.spelled,
          ) refl;
          goes = rc.goes;
        };
      }))))))))))

  -- a procedure, after what it begins with
  record ReadsProcedure (line : ℕ) (private : Bool) (now : Option CFault) (tokens : List Token) (x : WrittenProcedure
      × List Token) : Type 0 where
    spelled : (start : List Token) → at_line line (private_spelling private) start ≡ Some tokens → procedure_spelling x.0 start ≡ Some x.1
    goes : now ≡ token_fault (procedures_need ∷ []) last x.1

  behind-reads : (line : ℕ) (private : Bool) (now : Option CFault) (tokens : List Token) →
      now ≡ token_fault procedure_needs last tokens →
      Answers now (ReadsProcedure line private now tokens) (parse_procedure_behind last limits line private tokens)
  behind-reads line private now tokens h =
      let body : List Need = text_need (codes "{") ∷ stmts_need 1 ∷ procedures_need ∷ [] in
      chain _ _
      (name-reads last now (text_need (codes "(") ∷ text_need (codes "struct") ∷ name_need ∷ text_need (codes "*")
      ∷ text_need (codes "s") ∷ params_need 0 ∷ body) tokens h) (λ name rn.
      chain _ _
      (word-reads last (codes "(") now (text_need (codes "struct") ∷ name_need ∷ text_need (codes "*")
      ∷ text_need (codes "s") ∷ params_need 0 ∷ body) name.1 rn.goes) (λ x rx.
      chain _ _
      (word-reads last (codes "struct") now (name_need ∷ text_need (codes "*") ∷ text_need (codes "s")
      ∷ params_need 0 ∷ body) x.1 rx.goes) (λ y ry.
      chain _ _ (name-reads last now (text_need (codes "*") ∷ text_need (codes "s") ∷ params_need 0 ∷ body) y.1 ry.goes) (λ of ro.
      chain _ _ (word-reads last (codes "*") now (text_need (codes "s") ∷ params_need 0 ∷ body) of.1 ro.goes) (λ star rs.
      chain _ _ (word-reads last (codes "s") now (params_need 0 ∷ body) star.1 rs.goes) (λ instance ri.
      chain _ _ (many-reads last (λ n. params_need n ∷ body) body Params (params_step last limits)
      (params_step-reads body) (suc (length instance.1)) 0 now instance.1 (omega arith) ri.goes) (λ ps rp.
      chain _ _
      (block-reads last limits exprs 1 (parse_stmt last limits limits.stmts)
      (stmt-reads last limits exprs limits.stmts 1 (omega (arith, stmts))) now (procedures_need ∷ []) ps.1 rp.goes)
      (λ ss rb.
      record {
        is = record {
          spelled = λ start begins. rw (
            begins,
            rn.spelled,
            rx.spelled,
            ry.spelled,
            ro.spelled,
            rs.spelled,
            ri.spelled,
            rp.elements,
            rb.spelled,
          ) refl;
          goes = rb.goes;
        };
      }))))))))

  pub procedure-reads : (now : Option CFault) (t : Token) (tokens : List Token) →
      now ≡ on_reply (with_needs (procedures_reply t.text) []) t.line (λ left. token_fault left last tokens) →
      Answers now (Reads last now procedure_spelling (procedures_need ∷ []) (t ∷ tokens))
      (parse_procedure last limits t tokens (definition_of t.text))
  procedure-reads now t tokens h =
      by (bytes_eq t.text (codes "static")) (bytes_eq t.text (codes "struct"))
      (bytes_eq t.text (codes "void")) refl refl refl h
    where
      by : (a b c : Bool) → bytes_eq t.text (codes "static") ≡ a → bytes_eq t.text (codes "struct") ≡ b →
          bytes_eq t.text (codes "void") ≡ c →
          now ≡ on_reply
          (with_needs
          (first_reply ((a, leaves (text_need (codes "void") ∷ procedure_needs)) ∷ (c, leaves procedure_needs) ∷ []))
          []) t.line (λ left. token_fault left last tokens) →
          Answers now (Reads last now procedure_spelling (procedures_need ∷ []) (t ∷ tokens))
          (parse_procedure last limits t tokens (if a then static_definition
          else (if b then struct_definition else (if c then void_definition else no_definition))))
      by true b c a_is b_is c_is k =
          chain _ _ (word-reads last (codes "void") now procedure_needs tokens k) (λ x rx.
          turned _ (behind-reads t.line true now x.1 rx.goes) (λ p rp.
          record { spelled = rp.spelled (t ∷ tokens) (rw (eq-eqb t.line t.line refl, a_is, rx.spelled) refl); goes = rp.goes }))
      by false true true a_is b_is c_is k = cc (sym c_is ∙ no_other t.text (codes "struct") (codes "void") b_is refl)
      by false true false a_is b_is c_is k = record { is = k }
      by false false true a_is b_is c_is k =
          turned _ (behind-reads t.line false now tokens k) (λ p rp.
          record { spelled = rp.spelled (t ∷ tokens) (rw (eq-eqb t.line t.line refl, c_is) refl); goes = rp.goes })
      by false false false a_is b_is c_is k = record { is = k }
