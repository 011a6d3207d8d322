-- What the parse of expressions and conditions answers is what the needs say.
use Rattle.std.proofs.Common.{◌≡◌, refl, sym, subst, ℕ, zero, suc, ◌+◌, ◌-◌, ◌<◌, List, [], ◌∷◌, ◌++◌, length, Bool, true, false, ◌&&◌, ◌||◌, nat_le, Option, Some, None, Ok, codes, bytes_eq, arith, if◌then◌else◌}
use Rattle.std.proofs.lemmas.Bool.{leb-true, le-leb, eq-eqb}
use Rattle.std.proofs.lemmas.Slice.Eq.{bytes_eq-Decides}
use Rattle.base_core.specs.declared.base.Compare.{Compare}
use Rattle.c_syntax.specs.declared.code.BinOp.{BinOp}
use Rattle.c_syntax.specs.declared.fault.CFault.{CFault}
use Rattle.c_grammar.specs.Tokens.{Token}
use Rattle.c_syntax.specs.Names.{is_name}
use Rattle.c_grammar.specs.Written.{param, WrittenExpr, read, WrittenCond}
use Rattle.c_grammar.specs.Grammar.{◌⨾◌, word, name_word, in_parens, in_brackets, op_text, compare_text, expr_spelling, more_exprs_spelling, cond_spelling}
use Rattle.c_grammar.specs.Prefix.{Need, Role, as_kind, as_first, Kind, expression, condition, allows, follow, text_need, name_need, literal_need, leaf_need, tail_need, index_needs, operand_need, inside_need, joint_need, values_need, expr_need, cond_need, leaves, with_needs, within_limit, first_reply, operand_reply, step_needs, on_reply, may_end, is_op, is_comparison, token_fault}
use Rattle.c_syntax.specs.Limits.{expr_limit}
use Rattle.base_core.specs.Results.{◌>>=◌, ◌>>◌}
use Rattle.c_grammar.specs.Parsing.{Parsed, or_syntax_unless, parse_word, Operand, value, test, opener_of, inside_of, tail_of, next, value_joint, test_joint, first_joint, op_of_text, compare_of_text, first_text, exprs_from, value_only, test_only, deeper_value, deeper_test, parse_index, parse_tail, parse_leaf_from, parse_leaf, parse_number, values_step, values_step_by, parse_values, join_value, join_test, join, parse_inside, parse_opened, opened_too_deep, parse_operand, parse_expr, parse_cond}
use Rattle.c_grammar.specs.declared.openers.Inside.TheVariants.{Minus as minus_inside, Not as not_inside, Cast as cast_inside, First as first_inside}
use Rattle.c_grammar.specs.declared.openers.Opener.TheVariants.{Number as number_opener, Call as call_opener, Paren as paren_opener, Nothing as no_opener}
use Rattle.c_grammar.specs.declared.openers.Tail.TheVariants.{Dot as dot_tail, Bracket as bracket_tail, Nothing as no_tail}
use Rattle.c_grammar.specs.declared.openers.TestJoint.TheVariants.{And as and_joint, Or as or_joint, Pick as pick_joint, Nothing as no_test_joint}
use Rattle.c_grammar.specs.declared.openers.Want.{Want}
use Rattle.c_grammar.specs.declared.openers.Want.TheVariants.{Value as want_value, Test as want_test, Any as want_any}
use Rattle.c_grammar.proofs.lemmas.PrefixLaws.{one_less}
use Rattle.c_grammar.proofs.lemmas.Shrinking.{◌▸◌, word-takes, expr-shrinks}
use Rattle.c_grammar.proofs.Answering.{Answers, Reads, chain}
use Rattle.c_grammar.proofs.Words.{same-text, Found, op-found, compare-found, word-reads, name-reads, literal-reads, field_name-reads}
use Rattle.c_grammar.proofs.Lists.{Stepped, many-reads, comma-reads}

-- what is wanted in a role
abbrev pub want_of : Role → Want
want_of (as_kind expression) = want_value
want_of (as_kind condition) = want_test
want_of (as_first outer) = want_any

follow-goes_on : (kind : Kind) (role : Role) (d : ℕ) (more : List Need) → may_end more ≡ false →
    may_end (follow kind role d ++ more) ≡ false
follow-goes_on kind (as_kind same) d more g = g
follow-goes_on kind (as_first outer) d more g = refl

value_joint-is : (role : Role) (text : List ℕ) →
    value_joint (want_of role) text ≡ first_joint (if allows role expression then op_of_text text else None)
    (if allows role condition then compare_of_text text else None)
value_joint-is (as_kind expression) text = refl
value_joint-is (as_kind condition) text = refl
value_joint-is (as_first outer) text = refl

test_joint-is : (role : Role) (text : List ℕ) →
    test_joint (want_of role) text
    ≡ (if allows role condition && bytes_eq text (codes "&&") then and_joint
    else (if allows role condition && bytes_eq text (codes "||") then or_joint
    else (if allows role expression && bytes_eq text (codes "?") then pick_joint else no_test_joint)))
test_joint-is (as_kind expression) text = refl
test_joint-is (as_kind condition) text = refl
test_joint-is (as_first outer) text = refl

inside-is : (role : Role) (text : List ℕ) →
    inside_of (want_of role) text
    ≡ (if allows role expression && bytes_eq text (codes "-") then minus_inside
    else (if allows role condition && bytes_eq text (codes "!") then not_inside
    else (if allows role expression && bytes_eq text (codes "int64_t") then cast_inside else first_inside)))
inside-is (as_kind expression) text = refl
inside-is (as_kind condition) text = refl
inside-is (as_first outer) text = refl

nothing-inside : (role : Role) → inside_of (want_of role) [] ≡ first_inside
nothing-inside (as_kind expression) = refl
nothing-inside (as_kind condition) = refl
nothing-inside (as_first outer) = refl

opener-is : (role : Role) (text : List ℕ) →
    opener_of (want_of role) text
    ≡ (if allows role expression && bytes_eq text (codes "INT64_C") then number_opener
    else (if allows role expression && is_name text then call_opener
    else (if bytes_eq text (codes "(") then paren_opener else no_opener)))
opener-is (as_kind expression) text = refl
opener-is (as_kind condition) text = refl
opener-is (as_first outer) text = refl

both-hold : (a b : Bool) → (a && b) ≡ true → (a ≡ true) × (b ≡ true)
both-hold true b e = (refl, e)
both-hold false b e = cc

-- an operand that is an expression, and one that is a condition
pub record ReadsValue (last : ℕ) (role : Role) (d : ℕ) (now : Option CFault) (more : List Need) (start : List Token)
    (e : WrittenExpr) (rest : List Token) : Type 0 where
  pub allowed : allows role expression ≡ true
  pub spelled : expr_spelling e start ≡ Some rest
  pub goes : now ≡ token_fault (follow expression role d ++ more) last rest

pub record ReadsTest (last : ℕ) (role : Role) (d : ℕ) (now : Option CFault) (more : List Need) (start : List Token)
    (c : WrittenCond) (rest : List Token) : Type 0 where
  pub allowed : allows role condition ≡ true
  pub spelled : cond_spelling c start ≡ Some rest
  pub goes : now ≡ token_fault (follow condition role d ++ more) last rest

abbrev pub ReadsOperand : (last : ℕ) (role : Role) (d : ℕ) (now : Option CFault) (more : List Need)
    (start : List Token) → Operand × List Token → Type 0
ReadsOperand last role d now more start (value e, rest) = ReadsValue last role d now more start e rest
ReadsOperand last role d now more start (test c, rest) = ReadsTest last role d now more start c rest

-- one whose `)` is not read yet
record InnerValue (last : ℕ) (role : Role) (d : ℕ) (now : Option CFault) (more : List Need) (start : List Token)
    (e : WrittenExpr) (rest : List Token) : Type 0 where
  allowed : allows role expression ≡ true
  spelled : (end : List Token) → word (codes ")") rest ≡ Some end → expr_spelling e start ≡ Some end
  goes : now ≡ token_fault (text_need (codes ")") ∷ (follow expression role d ++ more)) last rest

record InnerTest (last : ℕ) (role : Role) (d : ℕ) (now : Option CFault) (more : List Need) (start : List Token)
    (c : WrittenCond) (rest : List Token) : Type 0 where
  allowed : allows role condition ≡ true
  spelled : (end : List Token) → word (codes ")") rest ≡ Some end → cond_spelling c start ≡ Some end
  goes : now ≡ token_fault (text_need (codes ")") ∷ (follow condition role d ++ more)) last rest

abbrev ReadsInner : (last : ℕ) (role : Role) (d : ℕ) (now : Option CFault) (more : List Need) (start : List Token) →
    Operand × List Token → Type 0
ReadsInner last role d now more start (value e, rest) = InnerValue last role d now more start e rest
ReadsInner last role d now more start (test c, rest) = InnerTest last role d now more start c rest

-- `operand` answers what the needs say at a depth
abbrev pub OperandReads : (last d : ℕ) → (Want → List Token → Parsed Operand) → Type 0
OperandReads last d operand =
    (role : Role) (now : Option CFault) (more : List Need) (tokens : List Token) → may_end more ≡ false →
    now ≡ token_fault (operand_need role d ∷ more) last tokens →
    Answers now (ReadsOperand last role d now more tokens) (operand (want_of role) tokens)

module _ (last d : ℕ) (operand : Want → List Token → Parsed Operand) (deeper : OperandReads last (d + 1) operand) where
  deeper_value-reads : (now : Option CFault) (more : List Need) (tokens : List Token) → may_end more ≡ false →
      now ≡ token_fault (expr_need (d + 1) ∷ more) last tokens →
      Answers now (Reads last now expr_spelling more tokens) (deeper_value last operand tokens)
  deeper_value-reads now more tokens g h = chain _ _ (deeper (as_kind expression) now more tokens g h) by
    where
      by : (x : Operand × List Token) → ReadsOperand last (as_kind expression) (d + 1) now more tokens x →
          Answers now (Reads last now expr_spelling more tokens) (value_only last x)
      by (value e, rest) r = record { is = record { spelled = r.spelled; goes = r.goes } }
      by (test c, rest) r = cc r.allowed

  deeper_test-reads : (now : Option CFault) (more : List Need) (tokens : List Token) → may_end more ≡ false →
      now ≡ token_fault (cond_need (d + 1) ∷ more) last tokens →
      Answers now (Reads last now cond_spelling more tokens) (deeper_test last operand tokens)
  deeper_test-reads now more tokens g h = chain _ _ (deeper (as_kind condition) now more tokens g h) by
    where
      by : (x : Operand × List Token) → ReadsOperand last (as_kind condition) (d + 1) now more tokens x →
          Answers now (Reads last now cond_spelling more tokens) (test_only last x)
      by (value e, rest) r = cc r.allowed
      by (test c, rest) r = record { is = record { spelled = r.spelled; goes = r.goes } }

  pub index-reads : (now : Option CFault) (more : List Need) (t : Token) (tokens : List Token)
      → bytes_eq t.text (codes "[") ≡ true → now ≡ token_fault (index_needs (d + 1) ++ more) last tokens
      → Answers now (Reads last now (λ e. in_brackets (expr_spelling e)) more (t ∷ tokens)) (parse_index last operand (t ∷ tokens))
  index-reads now more t tokens opened h =
      chain _ _ (deeper_value-reads now (text_need (codes "]") ∷ more) tokens refl h) (λ e re.
      chain _ _ (word-reads last (codes "]") now more e.1 re.goes) (λ close rc.
      record { is = record { spelled = rw (opened, re.spelled, rc.spelled) refl; goes = rc.goes } }))

  -- a leaf is spelled after its cast
  record ReadsLeaf (now : Option CFault) (more : List Need) (tokens : List Token) (x : WrittenExpr × List Token) : Type 0 where
    spelled : (start : List Token) → in_parens (word (codes "int64_t")) start ≡ Some tokens → expr_spelling x.0 start ≡ Some x.1
    goes : now ≡ token_fault more last x.1

  tail-reads : (now : Option CFault) (more : List Need) (t : Token) (behind middle : List Token) (field : List ℕ) (tokens : List Token)
      → bytes_eq t.text (codes "s") ≡ true → word (codes "->") behind ≡ Some middle → name_word field middle ≡ Some tokens
      → may_end more ≡ false → now ≡ token_fault (tail_need (d + 1) ∷ more) last tokens
      → Answers now (ReadsLeaf now more (t ∷ behind)) (parse_tail last operand t.line field tokens (tail_of (first_text tokens)))
  tail-reads now more t behind middle field [] begins arrow name goes_on h =
      record { is = record { spelled = λ start cast. rw (cast, eq-eqb t.line t.line refl, begins, arrow, name) refl; goes = rw goes_on h } }
  tail-reads now more t behind middle field (u ∷ tokens) begins arrow name goes_on h = by (bytes_eq u.text (codes "."))
      (bytes_eq u.text (codes "[")) refl refl h
    where
      by : (a b : Bool) → bytes_eq u.text (codes ".") ≡ a
          → bytes_eq u.text (codes "[") ≡ b → now ≡ on_reply (if a then leaves (name_need ∷ more) else
          (if b then leaves (index_needs (d + 1) ++ more) else step_needs more u.text)) u.line (λ left. token_fault left last tokens)
          → Answers now (ReadsLeaf now more (t ∷ behind))
          (parse_tail last operand t.line field (u ∷ tokens) (if a then dot_tail else (if b then bracket_tail else no_tail)))
      by true b dot opened k =
          chain _ _ (name-reads last now more tokens k) (λ x rx.
          record {
            is = record {
              spelled = λ start cast. rw (cast, eq-eqb t.line t.line refl, begins, arrow, name, dot, rx.spelled) refl;
              goes = rx.goes;
            };
          })
      by false true dot opened k =
          chain _ _ (index-reads now more u tokens opened k) (λ x rx.
          record {
            is = record {
              spelled = λ start cast. rw (cast, eq-eqb t.line t.line refl, begins, arrow, name) rx.spelled;
              goes = rx.goes;
            };
          })
      by false false dot opened k =
          record { is = record { spelled = λ start cast. rw (cast, eq-eqb t.line t.line refl, begins, arrow, name) refl; goes = k } }

  leaf-reads : (now : Option CFault) (more : List Need) (tokens : List Token) → may_end more ≡ false
      → now ≡ token_fault (leaf_need (d + 1) ∷ more) last tokens → Answers now (ReadsLeaf now more tokens) (parse_leaf last operand tokens)
  leaf-reads now more [] goes_on h = record { is = h }
  leaf-reads now more (t ∷ tokens) goes_on h = by (bytes_eq t.text (codes "s")) refl h
    where
      named : (b : Bool) → is_name t.text ≡ b
          → now ≡ on_reply (with_needs (first_reply ((b, leaves []) ∷ [])) more) t.line (λ left. token_fault left last tokens)
          → Answers now (ReadsLeaf now more (t ∷ tokens)) (or_syntax_unless t b >> Ok (read t.line (param t.text), tokens))
      named true e k = record {
        is = record {
          spelled = λ start cast. rw (cast, eq-eqb t.line t.line refl, e, same-text t.text) refl;
          goes = k;
        };
      }
      named false e k = record { is = k }

      by : (b : Bool) → bytes_eq t.text (codes "s") ≡ b
          → now ≡ on_reply (with_needs (first_reply ((b, leaves (text_need (codes "->") ∷ name_need ∷ tail_need (d + 1) ∷ []))
          ∷ (is_name t.text, leaves []) ∷ [])) more) t.line (λ left. token_fault left last tokens)
          → Answers now (ReadsLeaf now more (t ∷ tokens)) (parse_leaf_from last operand t tokens b)
      by true e k =
          chain _ _ (field_name-reads last now (tail_need (d + 1) ∷ more) tokens k) (λ field f.
          tail-reads now more t tokens f.middle field.0 field.1 e f.arrow f.name goes_on f.goes)
      by false e k = named (is_name t.text) refl k

  number-reads : (role : Role) (now : Option CFault) (more : List Need) (start tokens : List Token) →
      allows role expression ≡ true → word (codes "INT64_C") start ≡ Some tokens →
      now ≡ token_fault (text_need (codes "(") ∷ literal_need ∷ text_need (codes ")")
      ∷ (follow expression role d ++ more)) last tokens →
      Answers now (ReadsOperand last role d now more start) (parse_number last operand tokens)
  number-reads role now more start tokens a begins h =
      chain _ _
      (word-reads last (codes "(") now (literal_need ∷ text_need (codes ")") ∷ (follow expression role d ++ more))
      tokens h) (λ x rx.
      chain _ _ (literal-reads last now (text_need (codes ")") ∷ (follow expression role d ++ more)) x.1 rx.goes) (λ n rn.
      chain _ _ (word-reads last (codes ")") now (follow expression role d ++ more) n.1 rn.goes) (λ y ry.
      record { is = record { allowed = a; spelled = rw (begins, rx.spelled, rn.spelled, ry.spelled) refl; goes = ry.goes } })))

  abbrev Values : List WrittenExpr → List Token → List Token → Type 0
  Values es tokens rest = (more_exprs_spelling (exprs_from es) ⨾ word (codes ")")) tokens ≡ Some rest

  values_step-reads : (more : List Need) (now : Option CFault) (count : ℕ) (tokens : List Token) →
      now ≡ token_fault (values_need (d + 1) ∷ more) last tokens →
      Answers now (Stepped last (λ n. values_need (d + 1) ∷ more) more Values now count tokens)
      (values_step last operand count tokens)
  values_step-reads more now count [] h = record { is = h }
  values_step-reads more now count (t ∷ tokens) h =
      comma-reads last now (expr_need (d + 1) ∷ values_need (d + 1) ∷ []) more t tokens _ (values_step_by last operand t tokens) h
      (λ e k. chain _ _ (deeper_value-reads now (values_need (d + 1) ∷ more) tokens refl k) (λ x r.
      record {
        is = record {
          grows = λ es end later. rw (e, r.spelled) later;
          shorter = (word-takes (codes ",") ▸ expr-shrinks x.0).by (t ∷ tokens) x.1 (rw (e, r.spelled) refl);
          goes =
              r.goes;
        };
      }))
      (λ e k. record { is = record { none = rw e refl; goes = k } })
      refl

  values-reads : (role : Role) (now : Option CFault) (more : List Need) (t : Token) (tokens : List Token) →
      allows role expression ≡ true → is_name t.text ≡ true →
      now ≡ token_fault (text_need (codes "(") ∷ expr_need (d + 1) ∷ values_need (d + 1)
      ∷ (follow expression role d ++ more)) last tokens →
      Answers now (ReadsOperand last role d now more (t ∷ tokens)) (parse_values last operand t tokens)
  values-reads role now more t tokens a named h =
      chain _ _
      (word-reads last (codes "(") now (expr_need (d + 1) ∷ values_need (d + 1)
      ∷ (follow expression role d ++ more)) tokens h) (λ x rx.
      chain _ _ (deeper_value-reads now (values_need (d + 1) ∷ (follow expression role d ++ more)) x.1 refl rx.goes) (λ e re.
      chain _ _ (many-reads last (λ n. values_need (d + 1) ∷ (follow expression role d ++ more))
      (follow expression role d ++ more) Values (values_step last operand)
      (values_step-reads (follow expression role d ++ more)) (suc (length e.1)) 0 now e.1 (omega arith) re.goes)
      (λ es res.
      record {
        is = record {
          allowed = a;
          spelled = rw (eq-eqb t.line t.line refl, named, same-text t.text, rx.spelled, re.spelled) res.elements;
          goes =
              res.goes;
        };
      })))

  join_value-reads : (role : Role) (now : Option CFault) (more : List Need) (start inner : List Token) (a : WrittenExpr)
      (t : Token) (tokens : List Token) → word (codes "(") start ≡ Some inner →
      expr_spelling a inner ≡ Some (t ∷ tokens) →
      now ≡ token_fault (joint_need expression role (d + 1) ∷ more) last (t ∷ tokens) →
      Answers now (ReadsInner last role (d + 1 - 1) now more start)
      (join last operand (want_of role) (value a) (t, tokens))
  join_value-reads role now more start inner a t tokens begins first h =
      subst (λ j. Answers now (ReadsInner last role (d + 1 - 1) now more start) (join_value last operand a t tokens j))
      (sym (value_joint-is role t.text))
      (by (allows role expression) (allows role condition) refl refl (op_of_text t.text) (is_op t.text)
      (op-found t.text) (compare_of_text t.text) (is_comparison t.text) (compare-found t.text) h)
    where
      by : (v c : Bool) → allows role expression ≡ v → allows role condition ≡ c → (o : Option BinOp) (b : Bool) →
          Found op_text t.text o b → (p : Option Compare) (q : Bool) → Found compare_text t.text p q →
          now ≡ on_reply
          (with_needs
          (first_reply
          ((v && b, leaves (expr_need (d + 1) ∷ text_need (codes ")") ∷ follow expression role (d + 1 - 1)))
          ∷ (c && q, leaves (expr_need (d + 1) ∷ text_need (codes ")") ∷ follow condition role (d + 1 - 1))) ∷ []))
          more) t.line (λ left. token_fault left last tokens) →
          Answers now (ReadsInner last role (d + 1 - 1) now more start)
          (join_value last operand a t tokens (first_joint (if v then o else None) (if c then p else None)))
      by true c v_is c_is (Some op) b found p q other k =
          chain _ _
          (deeper_value-reads now (text_need (codes ")") ∷ (follow expression role (d + 1 - 1) ++ more)) tokens refl
          (rw found.1 at k)) (λ y r.
          record {
            is = record {
              allowed = v_is;
              spelled =
                  λ end close. rw (begins, first, (bytes_eq-Decides t.text (op_text op)).1 found.0, r.spelled, close) refl;
              goes = r.goes;
            };
          })
      by true true v_is c_is None b found (Some how) q other k =
          chain _ _
          (deeper_value-reads now (text_need (codes ")") ∷ (follow condition role (d + 1 - 1) ++ more)) tokens refl
          (rw (found, other.1) at k)) (λ y r.
          record {
            is = record {
              allowed = c_is;
              spelled =
                  λ end close. rw (
                    begins,
                    first,
                    (bytes_eq-Decides t.text (compare_text how)).1 other.0,
                    r.spelled,
                    close,
                  ) refl;
              goes = r.goes;
            };
          })
      by true true v_is c_is None b found None q other k = record { is = rw (found, other) at k }
      by true false v_is c_is None b found p q other k = record { is = rw found at k }
      by false true v_is c_is o b found (Some how) q other k =
          chain _ _
          (deeper_value-reads now (text_need (codes ")") ∷ (follow condition role (d + 1 - 1) ++ more)) tokens refl
          (rw other.1 at k)) (λ y r.
          record {
            is = record {
              allowed = c_is;
              spelled =
                  λ end close. rw (
                    begins,
                    first,
                    (bytes_eq-Decides t.text (compare_text how)).1 other.0,
                    r.spelled,
                    close,
                  ) refl;
              goes = r.goes;
            };
          })
      by false true v_is c_is o b found None q other k = record { is = rw other at k }
      by false false v_is c_is o b found p q other k = record { is = k }

  join_test-reads : (role : Role) (now : Option CFault) (more : List Need) (start inner : List Token) (x : WrittenCond)
      (t : Token) (tokens : List Token) → word (codes "(") start ≡ Some inner →
      cond_spelling x inner ≡ Some (t ∷ tokens) →
      now ≡ token_fault (joint_need condition role (d + 1) ∷ more) last (t ∷ tokens) →
      Answers now (ReadsInner last role (d + 1 - 1) now more start)
      (join last operand (want_of role) (test x) (t, tokens))
  join_test-reads role now more start inner x t tokens begins first h =
      subst (λ j. Answers now (ReadsInner last role (d + 1 - 1) now more start) (join_test last operand x t tokens j))
      (sym (test_joint-is role t.text))
      (by (allows role condition) (bytes_eq t.text (codes "&&")) (bytes_eq t.text (codes "||"))
      (allows role expression) (bytes_eq t.text (codes "?")) refl refl refl refl refl h)
    where
      picks : allows role expression ≡ true → bytes_eq t.text (codes "?") ≡ true →
          now ≡ token_fault (expr_need (d + 1) ∷ text_need (codes ":") ∷ expr_need (d + 1) ∷ text_need (codes ")")
          ∷ (follow expression role (d + 1 - 1) ++ more)) last tokens →
          Answers now (ReadsInner last role (d + 1 - 1) now more start) (join_test last operand x t tokens pick_joint)
      picks v_is q_is k =
          chain _ _
          (deeper_value-reads now (text_need (codes ":") ∷ expr_need (d + 1) ∷ text_need (codes ")")
          ∷ (follow expression role (d + 1 - 1) ++ more)) tokens refl k) (λ y ry.
          chain _ _
          (word-reads last (codes ":") now (expr_need (d + 1) ∷ text_need (codes ")")
          ∷ (follow expression role (d + 1 - 1) ++ more)) y.1 ry.goes) (λ colon rc.
          chain _ _
          (deeper_value-reads now (text_need (codes ")") ∷ (follow expression role (d + 1 - 1) ++ more)) colon.1
          refl rc.goes) (λ z rz.
          record {
            is = record {
              allowed = v_is;
              spelled = λ end close. rw (begins, first, q_is, ry.spelled, rc.spelled, rz.spelled, close) refl;
              goes =
                  rz.goes;
            };
          })))

      by : (c a b v q : Bool) → allows role condition ≡ c → bytes_eq t.text (codes "&&") ≡ a →
          bytes_eq t.text (codes "||") ≡ b → allows role expression ≡ v → bytes_eq t.text (codes "?") ≡ q →
          now ≡ on_reply
          (with_needs
          (first_reply
          ((
            c && (a || (b || false)),
            leaves (cond_need (d + 1) ∷ text_need (codes ")") ∷ follow condition role (d + 1 - 1)),
          )
          ∷ (
            v && q,
            leaves (expr_need (d + 1) ∷ text_need (codes ":") ∷ expr_need (d + 1) ∷ text_need (codes ")")
                ∷ follow expression role (d + 1 - 1)),
          ) ∷ [])) more) t.line (λ left. token_fault left last tokens) →
          Answers now (ReadsInner last role (d + 1 - 1) now more start)
          (join_test last operand x t tokens (if c && a then and_joint
          else (if c && b then or_joint else (if v && q then pick_joint else no_test_joint))))
      by true true b v q c_is a_is b_is v_is q_is k =
          chain _ _ (deeper_test-reads now (text_need (codes ")") ∷ (follow condition role (d + 1 - 1) ++ more)) tokens refl k) (λ y r.
          record { is = record { allowed = c_is; spelled = λ end close. rw (begins, first, a_is, r.spelled, close) refl; goes = r.goes } })
      by true false true v q c_is a_is b_is v_is q_is k =
          chain _ _ (deeper_test-reads now (text_need (codes ")") ∷ (follow condition role (d + 1 - 1) ++ more)) tokens refl k) (λ y r.
          record { is = record { allowed = c_is; spelled = λ end close. rw (begins, first, b_is, r.spelled, close) refl; goes = r.goes } })
      by true false false true true c_is a_is b_is v_is q_is k = picks v_is q_is k
      by true false false true false c_is a_is b_is v_is q_is k = record { is = k }
      by true false false false q c_is a_is b_is v_is q_is k = record { is = k }
      by false a b true true c_is a_is b_is v_is q_is k = picks v_is q_is k
      by false a b true false c_is a_is b_is v_is q_is k = record { is = k }
      by false a b false q c_is a_is b_is v_is q_is k = record { is = k }

  first-reads : (role : Role) (now : Option CFault) (more : List Need) (start tokens : List Token) →
      word (codes "(") start ≡ Some tokens → may_end more ≡ false →
      now ≡ token_fault (operand_need (as_first role) (d + 1) ∷ more) last tokens →
      Answers now (ReadsOperand last role d now more start)
      (parse_inside last operand (want_of role) tokens first_inside)
  first-reads role now more start tokens begins g h = chain _ _ (deeper (as_first role) now more tokens g h) by
    where
      closing : (x : Operand × List Token) → ReadsInner last role d now more start x →
          Answers now (ReadsOperand last role d now more start) (parse_word last (codes ")") x.1 >>= λ close.
          Ok (x.0, close.1))
      closing (value e, rest) r =
          chain _ _ (word-reads last (codes ")") now (follow expression role d ++ more) rest r.goes)
          (λ y ry.
          record { is = record { allowed = r.allowed; spelled = r.spelled y.1 ry.spelled; goes = ry.goes } })
      closing (test c, rest) r =
          chain _ _ (word-reads last (codes ")") now (follow condition role d ++ more) rest r.goes)
          (λ y ry.
          record { is = record { allowed = r.allowed; spelled = r.spelled y.1 ry.spelled; goes = ry.goes } })

      by : (x : Operand × List Token) → ReadsOperand last (as_first role) (d + 1) now more tokens x →
          Answers now (ReadsOperand last role d now more start)
          (next last x.1 >>= λ t. join last operand (want_of role) x.0 t >>= λ joined.
          parse_word last (codes ")") joined.1 >>= λ close. Ok (joined.0, close.1))
      by (value a, []) r = record { is = r.goes }
      by (test c, []) r = record { is = r.goes }
      by (value a, t ∷ ts) r =
          chain _ _
          (subst (λ n. Answers now (ReadsInner last role n now more start)
          (join last operand (want_of role) (value a) (t, ts))) (one_less d)
          (join_value-reads role now more start tokens a t ts begins r.spelled r.goes)) closing
      by (test c, t ∷ ts) r =
          chain _ _
          (subst (λ n. Answers now (ReadsInner last role n now more start)
          (join last operand (want_of role) (test c) (t, ts))) (one_less d)
          (join_test-reads role now more start tokens c t ts begins r.spelled r.goes)) closing

  inside-reads : (role : Role) (now : Option CFault) (more : List Need) (start tokens : List Token) →
      word (codes "(") start ≡ Some tokens → may_end more ≡ false →
      now ≡ token_fault (inside_need role d ∷ more) last tokens →
      Answers now (ReadsOperand last role d now more start)
      (parse_inside last operand (want_of role) tokens (inside_of (want_of role) (first_text tokens)))
  inside-reads role now more start [] begins g h =
      subst (λ i. Answers now (ReadsOperand last role d now more start) (parse_inside last operand (want_of role) [] i))
      (sym (nothing-inside role)) (first-reads role now more start [] begins g h)
  inside-reads role now more start (t ∷ tokens) begins g h =
      subst (λ i. Answers now (ReadsOperand last role d now more start)
      (parse_inside last operand (want_of role) (t ∷ tokens) i)) (sym (inside-is role t.text))
      (by (allows role expression && bytes_eq t.text (codes "-"))
      (allows role condition && bytes_eq t.text (codes "!"))
      (allows role expression && bytes_eq t.text (codes "int64_t")) refl refl refl h)
    where
      by : (a b c : Bool) → (allows role expression && bytes_eq t.text (codes "-")) ≡ a
          → (allows role condition && bytes_eq t.text (codes "!")) ≡ b → (allows role expression && bytes_eq t.text (codes "int64_t")) ≡ c
          → now ≡ on_reply (with_needs (first_reply ((a, leaves (expr_need (d + 1) ∷ text_need (codes ")") ∷ follow expression role d))
          ∷ (b, leaves (cond_need (d + 1) ∷ text_need (codes ")") ∷ follow condition role d))
          ∷ (c, leaves (text_need (codes ")") ∷ leaf_need (d + 1) ∷ follow expression role d))
          ∷ (true, operand_reply (as_first role) (d + 1) t.text) ∷ [])) more) t.line (λ left. token_fault left last tokens)
          → Answers now (ReadsOperand last role d now more start)
          (parse_inside last operand (want_of role) (t ∷ tokens)
          (if a then minus_inside else (if b then not_inside else (if c then cast_inside else first_inside))))
      by true b c a_is b_is c_is k =
          let s : _ = both-hold (allows role expression) (bytes_eq t.text (codes "-")) a_is in
          chain _ _ (deeper_value-reads now (text_need (codes ")") ∷ (follow expression role d ++ more)) tokens refl k) (λ x rx.
          chain _ _ (word-reads last (codes ")") now (follow expression role d ++ more) x.1 rx.goes) (λ y ry.
          record { is = record { allowed = s.0; spelled = rw (begins, s.1, rx.spelled, ry.spelled) refl; goes = ry.goes } }))
      by false true c a_is b_is c_is k =
          let s : _ = both-hold (allows role condition) (bytes_eq t.text (codes "!")) b_is in
          chain _ _ (deeper_test-reads now (text_need (codes ")") ∷ (follow condition role d ++ more)) tokens refl k) (λ x rx.
          chain _ _ (word-reads last (codes ")") now (follow condition role d ++ more) x.1 rx.goes) (λ y ry.
          record { is = record { allowed = s.0; spelled = rw (begins, s.1, rx.spelled, ry.spelled) refl; goes = ry.goes } }))
      by false false true a_is b_is c_is k =
          let s : _ = both-hold (allows role expression) (bytes_eq t.text (codes "int64_t")) c_is in
          chain _ _ (word-reads last (codes ")") now (leaf_need (d + 1) ∷ (follow expression role d ++ more)) tokens k) (λ x rx.
          chain _ _ (leaf-reads now (follow expression role d ++ more) x.1 (follow-goes_on expression role d more g) rx.goes) (λ y ry.
          record { is = record { allowed = s.0; spelled = ry.spelled start (rw (begins, s.1, rx.spelled) refl); goes = ry.goes } }))
      by false false false a_is b_is c_is k = first-reads role now more start (t ∷ tokens) begins g k

  opened-reads : (role : Role) (now : Option CFault) (more : List Need) (t : Token) (tokens : List Token) →
      nat_le d expr_limit ≡ true → may_end more ≡ false →
      now ≡ token_fault (operand_need role d ∷ more) last (t ∷ tokens) →
      Answers now (ReadsOperand last role d now more (t ∷ tokens))
      (parse_opened last operand (want_of role) t tokens (opener_of (want_of role) t.text))
  opened-reads role now more t tokens fits g h =
      subst (λ o. Answers now (ReadsOperand last role d now more (t ∷ tokens))
      (parse_opened last operand (want_of role) t tokens o)) (sym (opener-is role t.text))
      (by (allows role expression && bytes_eq t.text (codes "INT64_C")) (allows role expression && is_name t.text)
      (bytes_eq t.text (codes "(")) refl refl refl h)
    where
      by : (a b c : Bool) → (allows role expression && bytes_eq t.text (codes "INT64_C")) ≡ a →
          (allows role expression && is_name t.text) ≡ b → bytes_eq t.text (codes "(") ≡ c →
          now ≡ on_reply
          (with_needs
          (within_limit d expr_limit
          (first_reply
          ((a, leaves (text_need (codes "(") ∷ literal_need ∷ text_need (codes ")") ∷ follow expression role d))
          ∷ (b, leaves (text_need (codes "(") ∷ expr_need (d + 1) ∷ values_need (d + 1) ∷ follow expression role d))
          ∷ (c, leaves (inside_need role d ∷ [])) ∷ []))) more) t.line (λ left. token_fault left last tokens) →
          Answers now (ReadsOperand last role d now more (t ∷ tokens))
          (parse_opened last operand (want_of role) t tokens (if a then number_opener
          else (if b then call_opener else (if c then paren_opener else no_opener))))
      by true b c a_is b_is c_is k =
          let s : _ = both-hold (allows role expression) (bytes_eq t.text (codes "INT64_C")) a_is in
          number-reads role now more (t ∷ tokens) tokens s.0 (rw s.1 refl) (rw fits at k)
      by false true c a_is b_is c_is k =
          let s : _ = both-hold (allows role expression) (is_name t.text) b_is in
          values-reads role now more t tokens s.0 s.1 (rw fits at k)
      by false false true a_is b_is c_is k = inside-reads role now more (t ∷ tokens) tokens (rw c_is refl) g (rw fits at k)
      by false false false a_is b_is c_is k = record { is = k }

pub beyond-limit : (d n : ℕ) → n < d → nat_le d n ≡ false
beyond-limit d n h = by (nat_le d n) refl
  where
    by : (b : Bool) → nat_le d n ≡ b → b ≡ false
    by false e = refl
    by true e = absurd (omega (arith, h, leb-true d n e))

too_deep-reads : (last d : ℕ) (role : Role) (now : Option CFault) (more : List Need) (t : Token) (tokens : List Token) →
    nat_le d expr_limit ≡ false → now ≡ token_fault (operand_need role d ∷ more) last (t ∷ tokens) →
    Answers now (ReadsOperand last role d now more (t ∷ tokens))
    (opened_too_deep last t (opener_of (want_of role) t.text))
too_deep-reads last d role now more t tokens beyond h =
    subst (λ o. Answers now (ReadsOperand last role d now more (t ∷ tokens)) (opened_too_deep last t o))
    (sym (opener-is role t.text))
    (by (allows role expression && bytes_eq t.text (codes "INT64_C")) (allows role expression && is_name t.text)
    (bytes_eq t.text (codes "(")) h)
  where
    by : (a b c : Bool) →
        now ≡ on_reply
        (with_needs
        (within_limit d expr_limit
        (first_reply
        ((a, leaves (text_need (codes "(") ∷ literal_need ∷ text_need (codes ")") ∷ follow expression role d))
        ∷ (b, leaves (text_need (codes "(") ∷ expr_need (d + 1) ∷ values_need (d + 1) ∷ follow expression role d))
        ∷ (c, leaves (inside_need role d ∷ [])) ∷ []))) more) t.line (λ left. token_fault left last tokens) →
        Answers now (ReadsOperand last role d now more (t ∷ tokens))
        (opened_too_deep last t (if a then number_opener
        else (if b then call_opener else (if c then paren_opener else no_opener))))
    by true b c k = record { is = rw beyond at k }
    by false true c k = record { is = rw beyond at k }
    by false false true k = record { is = rw beyond at k }
    by false false false k = record { is = k }

pub operand-reads : (last levels d : ℕ) → levels + d ≡ suc expr_limit → OperandReads last d (parse_operand last levels)
operand-reads last zero d e role now more [] g h = record { is = h }
operand-reads last zero d e role now more (t ∷ tokens) g h =
    too_deep-reads last d role now more t tokens (beyond-limit d expr_limit (omega (arith, e))) h
operand-reads last (suc levels) d e role now more [] g h = record { is = h }
operand-reads last (suc levels) d e role now more (t ∷ tokens) g h =
    opened-reads last d (parse_operand last levels) (operand-reads last levels (d + 1) (omega (arith, e))) role now more
    t tokens (le-leb d expr_limit (omega (arith, e))) g h

pub expr-reads : (last exprs : ℕ) → exprs ≡ expr_limit →
    (now : Option CFault) (more : List Need) (tokens : List Token) → may_end more ≡ false →
    now ≡ token_fault (expr_need 1 ∷ more) last tokens →
    Answers now (Reads last now expr_spelling more tokens) (parse_expr last exprs tokens)
expr-reads last exprs e now more tokens g h =
    chain _ _ (operand-reads last exprs 1 (omega (arith, e)) (as_kind expression) now more tokens g h) by
  where
    by : (x : Operand × List Token) → ReadsOperand last (as_kind expression) 1 now more tokens x →
        Answers now (Reads last now expr_spelling more tokens) (value_only last x)
    by (value y, rest) r = record { is = record { spelled = r.spelled; goes = r.goes } }
    by (test c, rest) r = cc r.allowed

-- an index that opens at the outermost depth
pub outer_index-reads : (last exprs : ℕ) → exprs ≡ expr_limit → (now : Option CFault) (more : List Need) (t : Token) (tokens : List Token)
    → bytes_eq t.text (codes "[") ≡ true → now ≡ token_fault (index_needs 1 ++ more) last tokens
    → Answers now (Reads last now (λ e. in_brackets (expr_spelling e)) more (t ∷ tokens))
    (parse_index last (parse_operand last exprs) (t ∷ tokens))
outer_index-reads last exprs e = index-reads last 0 (parse_operand last exprs) (operand-reads last exprs 1 (omega (arith, e)))

pub cond-reads : (last exprs : ℕ) → exprs ≡ expr_limit →
    (now : Option CFault) (more : List Need) (tokens : List Token) → may_end more ≡ false →
    now ≡ token_fault (cond_need 1 ∷ more) last tokens →
    Answers now (Reads last now cond_spelling more tokens) (parse_cond last exprs tokens)
cond-reads last exprs e now more tokens g h =
    chain _ _ (operand-reads last exprs 1 (omega (arith, e)) (as_kind condition) now more tokens g h) by
  where
    by : (x : Operand × List Token) → ReadsOperand last (as_kind condition) 1 now more tokens x →
        Answers now (Reads last now cond_spelling more tokens) (test_only last x)
    by (value y, rest) r = cc r.allowed
    by (test c, rest) r = record { is = record { spelled = r.spelled; goes = r.goes } }
