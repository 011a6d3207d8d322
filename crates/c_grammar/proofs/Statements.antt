-- What the parse of statements answers is what the needs say.
use Rattle.std.proofs.Common.{◌≡◌, refl, ℕ, zero, suc, ◌+◌, List, [], ◌∷◌, ◌++◌, length, Bool, true, false, nat_le, Option, Some, codes, bytes_eq, arith, if◌then◌else◌}
use Rattle.std.proofs.lemmas.Bool.{le-leb, eq-eqb}
use Rattle.c_syntax.specs.declared.fault.CFault.{CFault}
use Rattle.c_grammar.specs.Tokens.{Token}
use Rattle.c_syntax.specs.Names.{is_name}
use Rattle.c_grammar.specs.Written.{WrittenStmt, assign, assign_at, branch, branch_else, call, WrittenCond, WrittenStmts}
use Rattle.c_grammar.specs.Grammar.{Spelling, ◌⨾◌, word, name_word, never, own_spelling, in_braces, cast_spelling, expr_spelling, cond_spelling, target_spelling, arguments_spelling, stmt_spelling, stmts_spelling}
use Rattle.c_grammar.specs.Prefix.{Need, text_need, name_need, type_need, index_need, index_needs, target_need, arguments_need, stmts_need, else_need, expr_need, cond_need, leaves, with_needs, within_limit, first_reply, step_needs, on_reply, token_fault}
use Rattle.c_syntax.specs.Limits.{expr_limit, stmt_limit}
use Rattle.c_grammar.specs.Parsing.{Parsed, Limits, stmt_opener_of, first_text, stmts_from, Argument, arguments_from, parse_target, parse_target_from, arguments_step, arguments_step_by, parse_stored, parse_store_in, parse_store, parse_call, stmts_step, stmts_step_by, parse_block, parse_second, parse_if, parse_stmt_opened, stmt_too_deep, parse_stmt}
use Rattle.c_grammar.specs.declared.openers.StmtOpener.TheVariants.{Store as store_opener, If as if_opener, Call as invoke_opener, Nothing as no_stmt}
use Rattle.c_grammar.specs.declared.openers.TargetOpener.TheVariants.{Own as own_opener, Field as field_opener, Nothing as no_target}
use Rattle.c_grammar.proofs.lemmas.Shrinking.{Takes, ◌▸◌, ◌▹◌, word-takes, line-takes, word-shrinks, name-shrinks, cast-shrinks, expr-shrinks, cond-shrinks, target-shrinks, arguments-shrink, parens-shrink, brackets-shrink, braces-shrink, stmts-shrink}
use Rattle.c_grammar.proofs.Answering.{Answers, Reads, chain}
use Rattle.c_grammar.proofs.Words.{same-text, word-reads, cast-reads, field_name-reads}
use Rattle.c_grammar.proofs.Lists.{Stepped, many-reads, comma-reads}
use Rattle.c_grammar.proofs.Exprs.{beyond-limit, expr-reads, outer_index-reads, cond-reads}

-- a name and a statement take a token at least
name-takes : (name : List ℕ) → Takes (name_word name)
name-takes name = by (is_name name)
  where
    by : (b : Bool) → Takes (if b then word name else never)
    by true = word-takes name
    by false = record { by = λ tokens rest h. cc }

own-takes : (field : List ℕ) → Takes (own_spelling field)
own-takes field = word-takes (codes "s") ▸ word-shrinks (codes "->") ▹ name-shrinks field

stmt-takes : (s : WrittenStmt) → Takes (stmt_spelling s)
stmt-takes (assign line field cast e) =
    line-takes line (word-takes (codes "s")) ▸ word-shrinks (codes "->") ▹ name-shrinks field ▹ word-shrinks
    (codes "=") ▹ cast-shrinks cast ▹ expr-shrinks e ▹ word-shrinks (codes ";")
stmt-takes (assign_at line field index cast e) =
    line-takes line (own-takes field) ▸ brackets-shrink (expr-shrinks index) ▹ word-shrinks (codes "=") ▹ cast-shrinks cast ▹ expr-shrinks e
    ▹ word-shrinks (codes ";")
stmt-takes (branch line c on_true) =
    line-takes line (word-takes (codes "if")) ▸ cond-shrinks c ▹ braces-shrink (stmts-shrink on_true)
stmt-takes (branch_else line c on_true on_false) =
    line-takes line (word-takes (codes "if")) ▸ cond-shrinks c ▹ braces-shrink (stmts-shrink on_true) ▹ word-shrinks
    (codes "else") ▹ braces-shrink (stmts-shrink on_false)
stmt-takes (call line procedure target values) =
    line-takes line (name-takes procedure) ▸ parens-shrink (target-shrinks target ▹ arguments-shrink values) ▹ word-shrinks (codes ";")

module _ (last : ℕ) where
  target-reads : (now : Option CFault) (more : List Need) (tokens : List Token) →
      now ≡ token_fault (target_need ∷ more) last tokens →
      Answers now (Reads last now target_spelling more tokens) (parse_target last tokens)
  target-reads now more [] h = record { is = h }
  target-reads now more (t ∷ tokens) h = by (bytes_eq t.text (codes "s")) (bytes_eq t.text (codes "&")) refl refl h
    where
      by : (a b : Bool) → bytes_eq t.text (codes "s") ≡ a → bytes_eq t.text (codes "&") ≡ b →
          now ≡ on_reply
          (with_needs
          (first_reply ((a, leaves []) ∷ (b, leaves (text_need (codes "s") ∷ text_need (codes "->") ∷ name_need ∷ []))
          ∷ [])) more) t.line (λ left. token_fault left last tokens) →
          Answers now (Reads last now target_spelling more (t ∷ tokens))
          (parse_target_from last t tokens (if a then own_opener else (if b then field_opener else no_target)))
      by true b e f k = record { is = record { spelled = rw e refl; goes = k } }
      by false true e f k =
          chain _ _ (word-reads last (codes "s") now (text_need (codes "->") ∷ name_need ∷ more) tokens k) (λ x rx.
          chain _ _ (field_name-reads last now more x.1 rx.goes) (λ y ry.
          record { is = record { spelled = rw (f, rx.spelled, ry.arrow, ry.name) refl; goes = ry.goes } }))
      by false false e f k = record { is = k }

  module _ (limits : Limits) (exprs : limits.exprs ≡ expr_limit) where
    abbrev Arguments : List Argument → List Token → List Token → Type 0
    Arguments values tokens rest = (arguments_spelling (arguments_from values) ⨾ word (codes ")")) tokens ≡ Some rest

    arguments_step-reads : (more : List Need) (now : Option CFault) (count : ℕ) (tokens : List Token) →
        now ≡ token_fault (arguments_need ∷ more) last tokens →
        Answers now (Stepped last (λ n. arguments_need ∷ more) more Arguments now count tokens)
        (arguments_step last limits count tokens)
    arguments_step-reads more now count [] h = record { is = h }
    arguments_step-reads more now count (t ∷ tokens) h =
        comma-reads last now (text_need (codes "(") ∷ type_need ∷ text_need (codes ")") ∷ expr_need 1 ∷ arguments_need
        ∷ []) more t tokens _ (arguments_step_by last limits t tokens) h
        (λ comma k. chain _ _ (cast-reads last now (expr_need 1 ∷ arguments_need ∷ more) tokens k) (λ type rt.
        chain _ _ (expr-reads last limits.exprs exprs now (arguments_need ∷ more) type.1 refl rt.goes) (λ e re.
        record {
          is = record {
            grows = λ values end later. rw (comma, rt.spelled, re.spelled) later;
            shorter =
                (word-takes (codes ",") ▸ cast-shrinks type.0 ▹ expr-shrinks e.0).by (t ∷ tokens) e.1
                (rw (comma, rt.spelled, re.spelled) refl);
            goes = re.goes;
          };
        })))
        (λ close k. record { is = record { none = rw close refl; goes = k } })
        refl

    -- what is needed, and what is spelled, after the field of a store or its index
    abbrev stored_needs : List Need → List Need
    stored_needs more = text_need (codes "=") ∷ text_need (codes "(") ∷ type_need ∷ text_need (codes ")") ∷ expr_need 1
        ∷ text_need (codes ";") ∷ more

    abbrev stored_spelling : Argument → Spelling
    stored_spelling stored = word (codes "=") ⨾ cast_spelling stored.0 ⨾ expr_spelling stored.1 ⨾ word (codes ";")

    stored-reads : (now : Option CFault) (more : List Need) (tokens : List Token) → now ≡ token_fault (stored_needs more) last tokens
        → Answers now (Reads last now stored_spelling more tokens) (parse_stored last limits tokens)
    stored-reads now more tokens h =
        chain _ _ (word-reads last (codes "=") now (text_need (codes "(") ∷ type_need ∷ text_need (codes ")") ∷ expr_need 1
        ∷ text_need (codes ";") ∷ more) tokens h) (λ equals rs.
        chain _ _ (cast-reads last now (expr_need 1 ∷ text_need (codes ";") ∷ more) equals.1 rs.goes) (λ type rt.
        chain _ _ (expr-reads last limits.exprs exprs now (text_need (codes ";") ∷ more) type.1 refl rt.goes) (λ e re.
        chain _ _ (word-reads last (codes ";") now more e.1 re.goes) (λ end rn.
        record { is = record { spelled = rw (rs.spelled, rt.spelled, re.spelled, rn.spelled) refl; goes = rn.goes } }))))

    store_in-reads : (now : Option CFault) (more : List Need) (t : Token) (behind middle : List Token) (field : List ℕ)
        (tokens : List Token)
        → bytes_eq t.text (codes "s") ≡ true → word (codes "->") behind ≡ Some middle → name_word field middle ≡ Some tokens
        → now ≡ token_fault (index_need ∷ stored_needs more) last tokens
        → Answers now (Reads last now stmt_spelling more (t ∷ behind))
        (parse_store_in last limits t field tokens (bytes_eq (first_text tokens) (codes "[")))
    store_in-reads now more t behind middle field [] begins arrow name h = record { is = h }
    store_in-reads now more t behind middle field (u ∷ tokens) begins arrow name h = by (bytes_eq u.text (codes "[")) refl h
      where
        by : (b : Bool)
            → bytes_eq u.text (codes "[") ≡ b → now ≡ on_reply
            (if b then leaves (index_needs 1 ++ stored_needs more) else step_needs (stored_needs more) u.text) u.line
            (λ left. token_fault left last tokens) → Answers now (Reads last now stmt_spelling more (t ∷ behind))
            (parse_store_in last limits t field (u ∷ tokens) b)
        by true opened k =
            chain _ _ (outer_index-reads last limits.exprs exprs now (stored_needs more) u tokens opened k) (λ index ri.
            chain _ _ (stored-reads now more index.1 ri.goes) (λ stored rs.
            record {
              is = record {
                spelled = rw (eq-eqb t.line t.line refl, begins, arrow, name, ri.spelled) rs.spelled;
                goes = rs.goes;
              };
            }))
        by false opened k =
            chain _ _ (stored-reads now more (u ∷ tokens) k) (λ stored rs.
            record { is = record { spelled = rw (eq-eqb t.line t.line refl, begins, arrow, name) rs.spelled; goes = rs.goes } })

    store-reads : (d : ℕ) (now : Option CFault) (more : List Need) (t : Token) (tokens : List Token) → bytes_eq t.text (codes "s") ≡ true
        → now ≡ token_fault (text_need (codes "->") ∷ name_need ∷ index_need ∷ stored_needs (stmts_need d ∷ more)) last tokens
        → Answers now (Reads last now stmt_spelling (stmts_need d ∷ more) (t ∷ tokens)) (parse_store last limits t tokens)
    store-reads d now more t tokens begins h =
        chain _ _ (field_name-reads last now (index_need ∷ stored_needs (stmts_need d ∷ more)) tokens h) (λ field rf.
        store_in-reads now (stmts_need d ∷ more) t tokens rf.middle field.0 field.1 begins rf.arrow rf.name rf.goes)

    call-reads : (d : ℕ) (now : Option CFault) (more : List Need) (t : Token) (tokens : List Token) →
        is_name t.text ≡ true →
        now ≡ token_fault (text_need (codes "(") ∷ target_need ∷ arguments_need ∷ text_need (codes ";") ∷ stmts_need d
        ∷ more) last tokens → Answers now (Reads last now stmt_spelling (stmts_need d ∷ more) (t ∷ tokens))
        (parse_call last limits t tokens)
    call-reads d now more t tokens named h =
        chain _ _
        (word-reads last (codes "(") now (target_need ∷ arguments_need ∷ text_need (codes ";") ∷ stmts_need d
        ∷ more) tokens h) (λ x rx.
        chain _ _ (target-reads now (arguments_need ∷ text_need (codes ";") ∷ stmts_need d ∷ more) x.1 rx.goes) (λ target rt.
        chain _ _ (many-reads last (λ n. arguments_need ∷ text_need (codes ";") ∷ stmts_need d ∷ more)
        (text_need (codes ";") ∷ stmts_need d ∷ more) Arguments (arguments_step last limits)
        (arguments_step-reads (text_need (codes ";") ∷ stmts_need d ∷ more)) (suc (length target.1)) 0 now target.1
        (omega arith) rt.goes) (λ values rv.
        chain _ _ (word-reads last (codes ";") now (stmts_need d ∷ more) values.1 rv.goes) (λ end rn.
        record {
          is = record {
            spelled = rw (
              eq-eqb t.line t.line refl,
              named,
              same-text t.text,
              rx.spelled,
              rt.spelled,
              rv.elements,
              rn.spelled,
            ) refl;
            goes = rn.goes;
          };
        }))))

    -- `statement` answers what the needs say at a depth
    abbrev pub StatementReads : ℕ → (List Token → Parsed WrittenStmt) → Type 0
    StatementReads d statement =
        (now : Option CFault) (more : List Need) (tokens : List Token) →
        bytes_eq (first_text tokens) (codes "}") ≡ false → now ≡ token_fault (stmts_need d ∷ more) last tokens →
        Answers now (Reads last now stmt_spelling (stmts_need d ∷ more) tokens) (statement tokens)

    abbrev Statements : List WrittenStmt → List Token → List Token → Type 0
    Statements ss tokens rest = (stmts_spelling (stmts_from ss) ⨾ word (codes "}")) tokens ≡ Some rest

    module _ (d : ℕ) (statement : List Token → Parsed WrittenStmt) (each : StatementReads d statement) where
      stmts_step-reads : (more : List Need) (now : Option CFault) (count : ℕ) (tokens : List Token) →
          now ≡ token_fault (stmts_need d ∷ more) last tokens →
          Answers now (Stepped last (λ n. stmts_need d ∷ more) more Statements now count tokens)
          (stmts_step last limits statement count tokens)
      stmts_step-reads more now count [] h = chain _ _ (each now more [] refl h) (λ s r.
          record {
            is = record {
              grows = λ ss end later. rw r.spelled later;
              shorter = (stmt-takes s.0).by [] s.1 r.spelled;
              goes = r.goes;
            };
          })
      stmts_step-reads more now count (t ∷ tokens) h = by (bytes_eq t.text (codes "}")) refl
        where
          by : (b : Bool) → bytes_eq t.text (codes "}") ≡ b →
              Answers now (Stepped last (λ n. stmts_need d ∷ more) more Statements now count (t ∷ tokens))
              (stmts_step_by last limits statement (t ∷ tokens) b)
          by true e = record { is = record { none = rw e refl; goes = rw e at h } }
          by false e = chain _ _ (each now more (t ∷ tokens) e h) (λ s r.
              record {
                is = record {
                  grows = λ ss end later. rw r.spelled later;
                  shorter = (stmt-takes s.0).by (t ∷ tokens) s.1 r.spelled;
                  goes = r.goes;
                };
              })

      pub block-reads : (now : Option CFault) (more : List Need) (tokens : List Token) →
          now ≡ token_fault (text_need (codes "{") ∷ stmts_need d ∷ more) last tokens →
          Answers now (Reads last now (λ ss. in_braces (stmts_spelling ss)) more tokens)
          (parse_block last limits statement tokens)
      block-reads now more tokens h =
          chain _ _ (word-reads last (codes "{") now (stmts_need d ∷ more) tokens h) (λ x rx.
          chain _ _ (many-reads last (λ n. stmts_need d ∷ more) more Statements (stmts_step last limits statement)
          (stmts_step-reads more) (suc (length x.1)) 0 now x.1 (omega arith) rx.goes) (λ ss rs.
          record { is = record { spelled = rw rx.spelled rs.elements; goes = rs.goes } }))

    module _ (d : ℕ) (statement : List Token → Parsed WrittenStmt) (deeper : StatementReads (d + 1) statement) where
      second-reads : (now : Option CFault) (more : List Need) (t : Token) (start middle : List Token) (c : WrittenCond)
          (on_true : WrittenStmts) (tokens : List Token) → word (codes "if") (t ∷ start) ≡ Some start →
          cond_spelling c start ≡ Some middle → in_braces (stmts_spelling on_true) middle ≡ Some tokens →
          now ≡ token_fault (else_need d ∷ stmts_need d ∷ more) last tokens →
          Answers now (Reads last now stmt_spelling (stmts_need d ∷ more) (t ∷ start))
          (parse_second last limits statement t c on_true tokens (bytes_eq (first_text tokens) (codes "else")))
      second-reads now more t start middle c on_true [] begins test body h =
          record { is = record { spelled = rw (eq-eqb t.line t.line refl, begins, test, body) refl; goes = h } }
      second-reads now more t start middle c on_true (u ∷ tokens) begins test body h = by (bytes_eq u.text (codes "else")) refl h
        where
          by : (b : Bool) → bytes_eq u.text (codes "else") ≡ b →
              now ≡ on_reply (if b then leaves (text_need (codes "{") ∷ stmts_need (d + 1) ∷ stmts_need d ∷ more)
              else step_needs (stmts_need d ∷ more) u.text) u.line (λ left. token_fault left last tokens) →
              Answers now (Reads last now stmt_spelling (stmts_need d ∷ more) (t ∷ start))
              (parse_second last limits statement t c on_true (u ∷ tokens) b)
          by true e k =
              chain _ _ (block-reads (d + 1) statement deeper now (stmts_need d ∷ more) tokens k) (λ ss r.
              record { is = record { spelled = rw (eq-eqb t.line t.line refl, begins, test, body, e, r.spelled) refl; goes = r.goes } })
          by false e k = record { is = record { spelled = rw (eq-eqb t.line t.line refl, begins, test, body) refl; goes = k } }

      if-reads : (now : Option CFault) (more : List Need) (t : Token) (tokens : List Token) →
          bytes_eq t.text (codes "if") ≡ true →
          now ≡ token_fault (cond_need 1 ∷ text_need (codes "{") ∷ stmts_need (d + 1) ∷ else_need d ∷ stmts_need d
          ∷ more) last tokens → Answers now (Reads last now stmt_spelling (stmts_need d ∷ more) (t ∷ tokens))
          (parse_if last limits statement t tokens)
      if-reads now more t tokens begins h =
          chain _ _
          (cond-reads last limits.exprs exprs now (text_need (codes "{") ∷ stmts_need (d + 1) ∷ else_need d
          ∷ stmts_need d ∷ more) tokens refl h) (λ c rc.
          chain _ _ (block-reads (d + 1) statement deeper now (else_need d ∷ stmts_need d ∷ more) c.1 rc.goes) (λ ss rs.
          second-reads now more t tokens c.1 c.0 ss.0 ss.1 (rw begins refl) rc.spelled rs.spelled rs.goes))

      stmt_opened-reads : (now : Option CFault) (more : List Need) (t : Token) (tokens : List Token) →
          nat_le d stmt_limit ≡ true → bytes_eq t.text (codes "}") ≡ false →
          now ≡ token_fault (stmts_need d ∷ more) last (t ∷ tokens) →
          Answers now (Reads last now stmt_spelling (stmts_need d ∷ more) (t ∷ tokens))
          (parse_stmt_opened last limits statement t tokens (stmt_opener_of t.text))
      stmt_opened-reads now more t tokens fits goes_on h =
          by (bytes_eq t.text (codes "s")) (bytes_eq t.text (codes "if")) (is_name t.text) refl refl refl
          (rw goes_on at h)
        where
          by : (a b c : Bool) → bytes_eq t.text (codes "s") ≡ a → bytes_eq t.text (codes "if") ≡ b → is_name t.text ≡ c
              → now ≡ on_reply (with_needs (with_needs (within_limit d stmt_limit
              (first_reply ((
                a,
                leaves (text_need (codes "->") ∷ name_need ∷ index_need ∷ text_need (codes "=") ∷ text_need (codes "(")
                    ∷ type_need ∷ text_need (codes ")") ∷ expr_need 1 ∷ text_need (codes ";") ∷ []),
              )
              ∷ (b, leaves (cond_need 1 ∷ text_need (codes "{") ∷ stmts_need (d + 1) ∷ else_need d ∷ []))
              ∷ (c, leaves (text_need (codes "(") ∷ target_need ∷ arguments_need ∷ text_need (codes ";") ∷ [])) ∷ [])))
              (stmts_need d ∷ [])) more) t.line (λ left. token_fault left last tokens)
              → Answers now (Reads last now stmt_spelling (stmts_need d ∷ more) (t ∷ tokens))
              (parse_stmt_opened last limits statement t tokens
              (if a then store_opener else (if b then if_opener else (if c then invoke_opener else no_stmt))))
          by true b c a_is b_is c_is k = store-reads d now more t tokens a_is (rw fits at k)
          by false true c a_is b_is c_is k = if-reads now more t tokens b_is (rw fits at k)
          by false false true a_is b_is c_is k = call-reads d now more t tokens c_is (rw fits at k)
          by false false false a_is b_is c_is k = record { is = k }

    stmt_too_deep-reads : (d : ℕ) (now : Option CFault) (more : List Need) (t : Token) (tokens : List Token) →
        nat_le d stmt_limit ≡ false → bytes_eq t.text (codes "}") ≡ false →
        now ≡ token_fault (stmts_need d ∷ more) last (t ∷ tokens) →
        Answers now (Reads last now stmt_spelling (stmts_need d ∷ more) (t ∷ tokens))
        (stmt_too_deep last limits t (stmt_opener_of t.text))
    stmt_too_deep-reads d now more t tokens beyond goes_on h =
        by (bytes_eq t.text (codes "s")) (bytes_eq t.text (codes "if")) (is_name t.text) (rw goes_on at h)
      where
        by : (a b c : Bool)
            → now ≡ on_reply (with_needs (with_needs (within_limit d stmt_limit
            (first_reply ((
              a,
              leaves (text_need (codes "->") ∷ name_need ∷ index_need ∷ text_need (codes "=") ∷ text_need (codes "(")
                  ∷ type_need ∷ text_need (codes ")") ∷ expr_need 1 ∷ text_need (codes ";") ∷ []),
            )
            ∷ (b, leaves (cond_need 1 ∷ text_need (codes "{") ∷ stmts_need (d + 1) ∷ else_need d ∷ []))
            ∷ (c, leaves (text_need (codes "(") ∷ target_need ∷ arguments_need ∷ text_need (codes ";") ∷ [])) ∷ [])))
            (stmts_need d ∷ [])) more) t.line (λ left. token_fault left last tokens)
            → Answers now (Reads last now stmt_spelling (stmts_need d ∷ more) (t ∷ tokens))
            (stmt_too_deep last limits t (if a then store_opener else
            (if b then if_opener else (if c then invoke_opener else no_stmt))))
        by true b c k = record { is = rw beyond at k }
        by false true c k = record { is = rw beyond at k }
        by false false true k = record { is = rw beyond at k }
        by false false false k = record { is = k }

    pub stmt-reads : (levels d : ℕ) → levels + d ≡ suc stmt_limit → StatementReads d (parse_stmt last limits levels)
    stmt-reads zero d e now more [] goes_on h = record { is = h }
    stmt-reads zero d e now more (t ∷ tokens) goes_on h =
        stmt_too_deep-reads d now more t tokens (beyond-limit d stmt_limit (omega (arith, e))) goes_on h
    stmt-reads (suc levels) d e now more [] goes_on h = record { is = h }
    stmt-reads (suc levels) d e now more (t ∷ tokens) goes_on h =
        stmt_opened-reads d (parse_stmt last limits levels) (stmt-reads levels (d + 1) (omega (arith, e))) now more t
        tokens (le-leb d stmt_limit (omega (arith, e))) goes_on h
