-- The error of tokens along a walk: that of what is after it, where nothing opens too deep.
use Rattle.std.proofs.Common.{◌≡◌, refl, ◌∙◌, ap, ℕ, List, [], ◌∷◌, Some, None, Bool, true, false, ◌&&◌, if◌then◌else◌}
use Rattle.std.specs.List.{list_all}
use Rattle.c_grammar.specs.Tokens.{Token}
use Rattle.c_grammar.specs.Written.{WrittenExpr, WrittenCond, WrittenStmt}
use Rattle.c_grammar.specs.Grammar.{expr_spelling, cond_spelling, stmt_spelling}
use Rattle.c_grammar.specs.Prefix.{Need, too_deep, leaves, step_needs, token_fault, on_reply, fault_at, expr_need, cond_need, stmts_need, as_kind, expression, condition}
use Rattle.c_syntax.specs.declared.fault.CKind.TheVariants.{Syntax}
use Rattle.c_grammar.specs.Openings.{Opening, is_within, expr_openings, cond_openings, stmt_openings}
use Rattle.c_grammar.proofs.lemmas.PrefixLaws.{Firm}
use Rattle.c_reading_laws.proofs.Walks.{AgreeOn, Steps, Walk}
use Rattle.c_reading_laws.proofs.ExprWalks.{expr-walk, cond-walk}
use Rattle.c_reading_laws.proofs.FileWalks.{NoElse, stmt-walk}

agree-fault : (tokens : List Token) (needs left : List Need) (last : ℕ) → AgreeOn tokens needs left →
    token_fault needs last tokens ≡ token_fault left last tokens
agree-fault [] needs left last a = ap (λ b. if b then None else Some (fault_at last Syntax)) a
agree-fault (t ∷ tokens) needs left last a = ap (λ r. on_reply r t.line (λ more. token_fault more last tokens)) a

steps-fault : (os : List Opening) (tokens : List Token) (needs : List Need) (rest : List Token) (left : List Need)
    (last : ℕ) → list_all is_within os ≡ true → Steps os tokens needs rest left →
    token_fault needs last tokens ≡ token_fault left last rest
steps-fault [] tokens needs rest left last w s = agree-fault tokens needs left last s.1 ∙ ap (token_fault left last) s.0
steps-fault (opening ∷ os) [] needs rest left last w s = absurd s
steps-fault (opening ∷ os) (t ∷ tokens) needs rest left last w s =
    by (is_within opening) w s.1 (λ k. steps-fault os tokens s.0 rest left last k s.2)
  where
    by : (b : Bool) → (b && list_all is_within os) ≡ true →
        step_needs needs t.text ≡ (if b then leaves s.0 else too_deep) →
        (list_all is_within os ≡ true → token_fault s.0 last tokens ≡ token_fault left last rest) →
        token_fault needs last (t ∷ tokens) ≡ token_fault left last rest
    by true k step later = ap (λ r. on_reply r t.line (λ more. token_fault more last tokens)) step ∙ later k
    by false k step later = cc

-- along a walk that opens nothing beyond a limit, the error stays
pub walk-fault : {os : List Opening} {tokens : List Token} {needs : List Need} {rest : List Token} {left : List Need} →
    Walk os tokens needs rest left → list_all is_within os ≡ true → (last : ℕ) →
    token_fault needs last tokens ≡ token_fault left last rest
walk-fault {os} {tokens} {needs} {rest} {left} walk w last = steps-fault os tokens needs rest left last w walk.steps

-- so for an expression, a condition and a statement at a depth, and whatever is needed after them
pub expr-fault : (e : WrittenExpr) (d : ℕ) (tokens rest : List Token) → expr_spelling e tokens ≡ Some rest → Firm rest →
    list_all is_within (expr_openings d e) ≡ true → (more : List Need) (last : ℕ) →
    token_fault (expr_need d ∷ more) last tokens ≡ token_fault more last rest
expr-fault e d tokens rest h firm w more last = walk-fault (expr-walk e (as_kind expression) d more tokens rest refl h firm) w last

pub cond-fault : (c : WrittenCond) (d : ℕ) (tokens rest : List Token) → cond_spelling c tokens ≡ Some rest → Firm rest →
    list_all is_within (cond_openings d c) ≡ true → (more : List Need) (last : ℕ) →
    token_fault (cond_need d ∷ more) last tokens ≡ token_fault more last rest
cond-fault c d tokens rest h firm w more last = walk-fault (cond-walk c (as_kind condition) d more tokens rest refl h firm) w last

pub stmt-fault : (s : WrittenStmt) (d : ℕ) (tokens rest : List Token) → stmt_spelling s tokens ≡ Some rest →
    NoElse rest → list_all is_within (stmt_openings d s) ≡ true → (more : List Need) (last : ℕ) →
    token_fault (stmts_need d ∷ more) last tokens ≡ token_fault (stmts_need d ∷ more) last rest
stmt-fault s d tokens rest h other w more last = walk-fault (stmt-walk s d more tokens rest h other) w last
