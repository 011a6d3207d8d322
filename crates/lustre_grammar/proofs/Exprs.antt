-- What the parse of expressions answers is what the needs say.
use Rattle.std.proofs.Common.{◌≡◌, refl, ◌∙◌, ap, ℕ, zero, suc, ◌+◌, ◌≤◌, ◌<◌, List, [], ◌∷◌, ◌++◌, append_assoc, Bool, true, false, ◌||◌, nat_le, Option, Some, None, Ok, codes, bytes_eq, if◌then◌else◌, arith}
use Rattle.std.proofs.lemmas.Bool.{le-leb, leb-true}
use Rattle.c_syntax.specs.declared.fault.CFault.{CFault}
use Rattle.c_grammar.specs.Tokens.{Token}
use Rattle.c_grammar.specs.Grammar.{◌⨾◌, word, in_parens}
use Rattle.c_grammar.specs.Parsing.{Parsed, or_syntax, or_syntax_unless, deep_at, next}
use Rattle.base_core.specs.Results.{◌>>=◌, ◌>>◌}
use Rattle.lustre_syntax.specs.Lawful.{expr_limit}
use Rattle.lustre_grammar.specs.Written.{WrittenExpr}
use Rattle.lustre_grammar.specs.Grammar.{expr_spelling}
use Rattle.lustre_grammar.specs.Prefix.{Need, text_need, expr_need, inside_need, joint_need, Reply, refuses, too_deep, leaves, with_needs, only_if, within_limit, first_reply, expr_reply, operand_needs, choice_needs, previous_needs, is_leaf, is_joint, on_reply, token_fault}
use Rattle.lustre_grammar.specs.Parsing.{joint_text, joint_of_text, joined, leaf_of, parse_closed, parse_choice, parse_previous, parse_joined, parse_inside, parse_parens, parse_opened, parse_expr, parse_value}
use Rattle.lustre_grammar.specs.declared.openers.Inside.TheVariants.{Minus as minus_inside, Not as not_inside, If as if_inside, Pre as pre_inside, First as first_inside}
use Rattle.lustre_grammar.specs.declared.openers.Joint.{Joint}
use Rattle.lustre_grammar.specs.declared.openers.Joint.TheVariants.{Operator as op_joint, Arrow as arrow_joint}
use Rattle.lustre_grammar.proofs.Answering.{Answers, Reads, chain, turned}
use Rattle.lustre_grammar.proofs.Words.{Found, joint-found, LeafFound, leaf-found, word-reads, name-reads}

pub more-needs : (reply : Reply) (needs more : List Need) → with_needs (with_needs reply needs) more ≡ with_needs reply (needs ++ more)
more-needs refuses needs more = refl
more-needs too_deep needs more = refl
more-needs (leaves left) needs more = ap leaves (append_assoc left needs more)

joined-spelling : (joint : Joint) (a b : WrittenExpr) (tokens : List Token) →
    expr_spelling (joined joint a b) tokens ≡ in_parens (expr_spelling a ⨾ word (joint_text joint) ⨾ expr_spelling b) tokens
joined-spelling (op_joint op) a b tokens = refl
joined-spelling arrow_joint a b tokens = refl

-- an expression that is opened by a `(` before these tokens
record ReadsInside (last : ℕ) (now : Option CFault) (more : List Need) (tokens : List Token) (x : WrittenExpr × List Token) : Type 0 where
  spelled : (t : Token) → bytes_eq t.text (codes "(") ≡ true → expr_spelling x.0 (t ∷ tokens) ≡ Some x.1
  goes : now ≡ token_fault more last x.1

-- a parse of expressions that open at a depth
abbrev pub ExprReads : (last depth : ℕ) → (List Token → Parsed WrittenExpr) → Type 0
ExprReads last depth parse =
    (now : Option CFault) (more : List Need) (tokens : List Token) → now ≡ token_fault (expr_need depth ∷ more) last tokens →
    Answers now (Reads last now expr_spelling more tokens) (parse tokens)

module _ (last depth : ℕ) (deeper : List Token → Parsed WrittenExpr) (reads : ExprReads last (depth + 1) deeper) where
  closed-reads : (now : Option CFault) (more : List Need) (tokens : List Token) →
      now ≡ token_fault (operand_needs (depth + 1) ++ more) last tokens →
      Answers now (Reads last now (λ e. expr_spelling e ⨾ word (codes ")")) more tokens) (parse_closed last deeper tokens)
  closed-reads now more tokens h =
      chain _ _ (reads now (text_need (codes ")") ∷ more) tokens h) (λ a ra.
      chain _ _ (word-reads last (codes ")") now more a.1 ra.goes) (λ close rc.
      record { is = record { spelled = rw ra.spelled rc.spelled; goes = rc.goes } }))

  choice-reads : (now : Option CFault) (more : List Need) (s : Token) (tokens : List Token) → bytes_eq s.text (codes "if") ≡ true →
      now ≡ token_fault (choice_needs (depth + 1) ++ more) last tokens →
      Answers now (ReadsInside last now more (s ∷ tokens)) (parse_choice last deeper tokens)
  choice-reads now more s tokens e h =
      chain _ _ (reads now _ tokens h) (λ test rt.
      chain _ _ (word-reads last (codes "then") now _ test.1 rt.goes) (λ then_word rw1.
      chain _ _ (reads now _ then_word.1 rw1.goes) (λ a ra.
      chain _ _ (word-reads last (codes "else") now _ a.1 ra.goes) (λ else_word rw2.
      chain _ _ (closed-reads now more else_word.1 rw2.goes) (λ b rb.
      record {
        is = record {
          spelled = λ t opens. rw (opens, e, rt.spelled, rw1.spelled, ra.spelled, rw2.spelled) rb.spelled;
          goes = rb.goes;
        };
      })))))

  previous-reads : (now : Option CFault) (more : List Need) (s : Token) (tokens : List Token) → bytes_eq s.text (codes "pre") ≡ true →
      now ≡ token_fault (previous_needs ++ more) last tokens →
      Answers now (ReadsInside last now more (s ∷ tokens)) (parse_previous last deeper tokens)
  previous-reads now more s tokens e h =
      chain _ _ (name-reads last now _ tokens h) (λ w rn.
      chain _ _ (word-reads last (codes ")") now more w.1 rn.goes) (λ close rc.
      record { is = record { spelled = λ t opens. rw (opens, e, rn.spelled) rc.spelled; goes = rc.goes } }))

  -- two operands after the first
  second-reads : (now : Option CFault) (more : List Need) (start : List Token) (a : WrittenExpr) (tokens : List Token) →
      expr_spelling a start ≡ Some tokens → now ≡ token_fault (joint_need (depth + 1) ∷ more) last tokens →
      Answers now (ReadsInside last now more start)
      (next last tokens >>= λ t. or_syntax t.0 (joint_of_text t.0.text) >>= λ joint. parse_closed last deeper t.1
      >>= λ b. Ok (joined joint a b.0, b.1))
  second-reads now more start a [] first h = record { is = h }
  second-reads now more start a (t ∷ tokens) first h = by (joint_of_text t.text) (is_joint t.text) (joint-found t.text) h
    where
      by : (o : Option Joint) (b : Bool) → Found joint_text t.text o b →
          now ≡ on_reply (with_needs (only_if b (leaves (operand_needs (depth + 1)))) more) t.line (λ left. token_fault left last tokens) →
          Answers now (ReadsInside last now more start)
          (or_syntax t o >>= λ joint. parse_closed last deeper tokens >>= λ b. Ok (joined joint a b.0, b.1))
      by (Some joint) b f k =
          chain _ _ (closed-reads now more tokens (k ∙ rw f.1 refl)) (λ b rb.
          record {
            is = record {
              spelled = λ s opens. joined-spelling joint a b.0 (s ∷ start) ∙ rw (opens, first, f.0) rb.spelled;
              goes = rb.goes;
            };
          })
      by None b f k = record { is = k ∙ rw f refl }

  joined-reads : (now : Option CFault) (more : List Need) (tokens : List Token) →
      now ≡ token_fault (expr_need (depth + 1) ∷ joint_need (depth + 1) ∷ more) last tokens →
      Answers now (ReadsInside last now more tokens) (parse_joined last deeper tokens)
  joined-reads now more tokens h =
      chain _ _ (reads now _ tokens h) (λ a ra. second-reads now more tokens a.0 a.1 ra.spelled ra.goes)

  parens-read : (now : Option CFault) (more : List Need) (tokens : List Token) →
      now ≡ token_fault (inside_need depth ∷ more) last tokens →
      Answers now (ReadsInside last now more tokens) (parse_parens last deeper tokens)
  parens-read now more [] h = record { is = h }
  parens-read now more (t ∷ tokens) h =
      by (bytes_eq t.text (codes "-")) (bytes_eq t.text (codes "not")) (bytes_eq t.text (codes "if"))
      (bytes_eq t.text (codes "pre")) refl refl refl refl h
    where
      by : (a b c d : Bool) → bytes_eq t.text (codes "-") ≡ a → bytes_eq t.text (codes "not") ≡ b →
          bytes_eq t.text (codes "if") ≡ c → bytes_eq t.text (codes "pre") ≡ d →
          now ≡ on_reply
          (with_needs (first_reply ((a || b, leaves (operand_needs (depth + 1))) ∷ (c, leaves (choice_needs (depth + 1)))
          ∷ (d, leaves previous_needs)
          ∷ (true, with_needs (expr_reply (depth + 1) t.text) (joint_need (depth + 1) ∷ [])) ∷ [])) more) t.line
          (λ left. token_fault left last tokens) →
          Answers now (ReadsInside last now more (t ∷ tokens))
          (parse_inside last deeper (t ∷ tokens) tokens (if a then minus_inside
          else (if b then not_inside else (if c then if_inside else (if d then pre_inside else first_inside)))))
      by true b c d is1 is2 is3 is4 k = chain _ _ (closed-reads now more tokens k) (λ a ra.
          record { is = record { spelled = λ s opens. rw (opens, is1) ra.spelled; goes = ra.goes } })
      by false true c d is1 is2 is3 is4 k = chain _ _ (closed-reads now more tokens k) (λ a ra.
          record { is = record { spelled = λ s opens. rw (opens, is2) ra.spelled; goes = ra.goes } })
      by false false true d is1 is2 is3 is4 k = choice-reads now more t tokens is3 k
      by false false false true is1 is2 is3 is4 k = previous-reads now more t tokens is4 k
      by false false false false is1 is2 is3 is4 k =
          joined-reads now more (t ∷ tokens) (k ∙ ap (λ r. on_reply r t.line (λ left. token_fault left last tokens))
          (more-needs (expr_reply (depth + 1) t.text) (joint_need (depth + 1) ∷ []) more))

  opened-reads : (now : Option CFault) (more : List Need) (t : Token) (tokens : List Token) → nat_le depth expr_limit ≡ true →
      now ≡ token_fault (expr_need depth ∷ more) last (t ∷ tokens) →
      Answers now (Reads last now expr_spelling more (t ∷ tokens)) (parse_opened last deeper t tokens (leaf_of t))
  opened-reads now more t tokens within h =
      by (leaf_of t) (is_leaf t.text) (leaf-found t) (bytes_eq t.text (codes "(")) refl h
    where
      by : (o : Option WrittenExpr) (a : Bool) → LeafFound t o a → (b : Bool) → bytes_eq t.text (codes "(") ≡ b →
          now ≡ on_reply
          (with_needs (within_limit depth (first_reply ((a, leaves []) ∷ (b, leaves (inside_need depth ∷ [])) ∷ []))) more)
          t.line (λ left. token_fault left last tokens) →
          Answers now (Reads last now expr_spelling more (t ∷ tokens)) (parse_opened last deeper t tokens o)
      by (Some leaf) a f b e k = record { is = record { spelled = f.0 tokens; goes = k ∙ rw (f.1, within) refl } }
      by None a f true e k =
          rw e (turned _ (parens-read now more tokens (k ∙ rw (f, within) refl))
          (λ x r. record { spelled = r.spelled t e; goes = r.goes }))
      by None a f false e k = rw e (record { is = k ∙ rw f refl })

-- a token that would open an expression beyond the limit
too_deep-reads : (last depth : ℕ) (now : Option CFault) (more : List Need) (t : Token) (tokens : List Token) →
    nat_le depth expr_limit ≡ false → now ≡ token_fault (expr_need depth ∷ more) last (t ∷ tokens) →
    Answers now (Reads last now expr_spelling more (t ∷ tokens))
    (or_syntax_unless t (is_leaf t.text || bytes_eq t.text (codes "(")) >> deep_at t)
too_deep-reads last depth now more t tokens beyond h = by (is_leaf t.text) (bytes_eq t.text (codes "(")) h
  where
    by : (a b : Bool) →
        now ≡ on_reply
        (with_needs (within_limit depth (first_reply ((a, leaves []) ∷ (b, leaves (inside_need depth ∷ [])) ∷ []))) more)
        t.line (λ left. token_fault left last tokens) →
        Answers now (Reads last now expr_spelling more (t ∷ tokens)) (or_syntax_unless t (a || b) >> deep_at t)
    by true b k = record { is = rw beyond at k }
    by false true k = record { is = rw beyond at k }
    by false false k = record { is = k }

beyond-limit : (n m : ℕ) → m < n → nat_le n m ≡ false
beyond-limit n m h = by (nat_le n m) refl
  where
    by : (b : Bool) → nat_le n m ≡ b → b ≡ false
    by true e = let le : n ≤ m = leb-true n m e in absurd (omega (arith, h, le))
    by false e = refl

expr-reads : (last levels depth : ℕ) → levels + depth ≡ suc expr_limit → ExprReads last depth (parse_expr last levels)
expr-reads last zero depth e now more [] h = record { is = h }
expr-reads last zero depth e now more (t ∷ tokens) h =
    too_deep-reads last depth now more t tokens (beyond-limit depth expr_limit (omega (arith, e))) h
expr-reads last (suc levels) depth e now more [] h = record { is = h }
expr-reads last (suc levels) depth e now more (t ∷ tokens) h =
    opened-reads last depth (parse_expr last levels) (expr-reads last levels (depth + 1) (omega (arith, e))) now more t
    tokens (le-leb depth expr_limit (omega (arith, e))) h

pub value-reads : (last : ℕ) → ExprReads last 1 (parse_value last)
value-reads last = expr-reads last expr_limit 1 refl
