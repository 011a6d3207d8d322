-- What led to a list of needs can go on, and so can what opens something too deep.
use Rattle.std.proofs.Common.{◌≡◌, refl, sym, ◌∙◌, ap, ℕ, ◌+◌, ◌-◌, inl, inr, List, [], ◌∷◌, ◌++◌, Some, Bool, true, false, ◌&&◌, if◌then◌else◌, codes, bytes_eq, subst, append_assoc, append-nil}
use Rattle.std.specs.Prelude.{⊤}
use Rattle.c_syntax.specs.declared.code.CType.TheVariants.{I64}
use Rattle.c_grammar.specs.Tokens.{Token}
use Rattle.c_syntax.specs.Names.{is_name}
use Rattle.c_grammar.specs.Grammar.{word, name_word, literal_word, in_braces, expr_spelling, stmt_spelling, stmts_spelling, CanGoOn, Spells}
use Rattle.c_grammar.specs.Written.{WrittenStmts, WrittenProgram}
use Rattle.c_grammar.specs.Prefix.{Need, Reply, Role, Kind, as_kind, as_first, expression, condition, allows, follow, refuses, too_deep, leaves, with_needs, only_if, within_limit, first_reply, is_type, is_literal, is_op, is_comparison, is_connective, expr_need, cond_need, operand_reply, inside_reply, joint_reply, stmt_reply, field_reply, procedures_reply, comma_reply, struct_needs, procedure_needs, pure_needs, reply_of, step_needs, file_needs, may_end, text_need, name_need, literal_need, type_need, operand_need, inside_need, joint_need, values_need, leaf_need, tail_need, index_need, length_need, index_needs, length_needs, target_need, arguments_need, stmts_need, else_need, pure_param_need, pure_params_need, param_need, params_need, field_need, fields_need, pures_need, structs_need, procedures_need}
use Rattle.c_syntax.specs.Limits.{stmt_limit, param_limit, pure_limit, expr_limit}
use Rattle.c_reading_laws.specs.Agreement.{Leads}
use Rattle.c_reading_laws.proofs.Completions.{Operand, Fills, FillsAll, Given, operand_entries, chosen, with-given, same_text, word-put, seq-put, brackets-put, braces-put, operand-back}
use Rattle.c_reading_laws.proofs.StepBack.{back, stmt_entries, stmt-back, pures-back, pure_param-back, param-back}

-- something can be given in front of any tokens
record Fillable (need : Need) : Type 0 where
  fill : (rest : List Token) → (tokens : List Token) × Fills need tokens rest

record FillableAll (needs : List Need) : Type 0 where
  fill : (rest : List Token) → (tokens : List Token) × FillsAll needs tokens rest

abbrev bare : List ℕ → Token
bare text = record { text = text; line = 0 }

nil : FillableAll []
nil = record { fill = λ rest. (rest, refl) }

infixr 20 ◌◃◌
◌◃◌ : {need : Need} {needs : List Need} → Fillable need → FillableAll needs → FillableAll (need ∷ needs)
first ◃ later = record { fill = λ rest. let l : _ = later.fill rest in let f : _ = first.fill l.0 in (f.0, (l.0, f.1, l.1)) }

-- by a token that leaves what can be given
by_step : (need : Need) (text : List ℕ) (left : List Need) → reply_of need text ≡ leaves left → FillableAll left → Fillable need
by_step need text left e later =
    record {
      fill = λ rest. let f : _ = later.fill rest in
          (bare text ∷ f.0, back need (bare text) f.0 rest (subst (λ r. Given r f.0 rest) (sym e) f.1));
    }

text-fillable : (text : List ℕ) → Fillable (text_need text)
text-fillable text = record { fill = λ rest. (bare text ∷ rest, word-put text (bare text) rest refl) }

name-fillable : Fillable name_need
name-fillable = by_step name_need (codes "a") [] refl nil

type-fillable : Fillable type_need
type-fillable = by_step type_need (codes "int8_t") [] refl nil

literal-fillable : Fillable literal_need
literal-fillable = by_step literal_need (codes "0") [] refl nil

number-fillable : (role : Role) (depth : ℕ) → allows role expression ≡ true →
    FillableAll (follow expression role depth) → Fillable (operand_need role depth)
number-fillable role depth a later = record { fill = by }
  where
    by : (rest : List Token) → (tokens : List Token) × Operand role tokens rest
    by rest =
        let f : _ = (text-fillable (codes "(") ◃ literal-fillable ◃ text-fillable (codes ")") ◃ later).fill rest in
        (bare (codes "INT64_C") ∷ f.0, operand-back role depth (bare (codes "INT64_C")) f.0 rest (inl (ap (λ b. b && true) a, f.1)))

expr-fillable : (depth : ℕ) → Fillable (expr_need depth)
expr-fillable depth = number-fillable (as_kind expression) depth refl nil

compare-fillable : (depth : ℕ) → Fillable (joint_need expression (as_kind condition) depth)
compare-fillable depth =
    by_step (joint_need expression (as_kind condition) depth) (codes "==") (expr_need depth ∷ text_need (codes ")")
    ∷ []) refl (expr-fillable depth ◃ text-fillable (codes ")") ◃ nil)

cond-fillable : (depth : ℕ) → Fillable (cond_need depth)
cond-fillable depth = record { fill = by }
  where
    by : (rest : List Token) → (tokens : List Token) × Operand (as_kind condition) tokens rest
    by rest =
        let f : _ = (number-fillable (as_first (as_kind condition)) depth refl (compare-fillable depth ◃ nil)).fill rest in (
          bare (codes "(") ∷ f.0,
          operand-back (as_kind condition) depth (bare (codes "(")) f.0 rest
              (inr (inr (inl (refl, (rest, f.1, refl))))),
        )

joint-fillable : (kind : Kind) (role : Role) (depth : ℕ) → Fillable (joint_need kind role depth)
joint-fillable expression (as_kind expression) depth =
    by_step (joint_need expression (as_kind expression) depth) (codes "+") (expr_need depth ∷ text_need (codes ")")
    ∷ []) refl (expr-fillable depth ◃ text-fillable (codes ")") ◃ nil)
joint-fillable expression (as_kind condition) depth = compare-fillable depth
joint-fillable condition (as_kind expression) depth =
    by_step (joint_need condition (as_kind expression) depth) (codes "?") (expr_need depth ∷ text_need (codes ":")
    ∷ expr_need depth ∷ text_need (codes ")") ∷ []) refl
    (expr-fillable depth ◃ text-fillable (codes ":") ◃ expr-fillable depth ◃ text-fillable (codes ")") ◃ nil)
joint-fillable condition (as_kind condition) depth =
    by_step (joint_need condition (as_kind condition) depth) (codes "&&") (cond_need depth ∷ text_need (codes ")")
    ∷ []) refl (cond-fillable depth ◃ text-fillable (codes ")") ◃ nil)
joint-fillable expression (as_first outer) depth =
    by_step (joint_need expression (as_first outer) depth) (codes "+") (expr_need depth ∷ text_need (codes ")")
    ∷ joint_need expression outer (depth - 1) ∷ []) refl
    (expr-fillable depth ◃ text-fillable (codes ")") ◃ joint-fillable expression outer (depth - 1) ◃ nil)
joint-fillable condition (as_first outer) depth =
    by_step (joint_need condition (as_first outer) depth) (codes "?") (expr_need depth ∷ text_need (codes ":")
    ∷ expr_need depth ∷ text_need (codes ")") ∷ joint_need expression outer (depth - 1) ∷ []) refl
    (expr-fillable depth ◃ text-fillable (codes ":") ◃ expr-fillable depth ◃ text-fillable
    (codes ")") ◃ joint-fillable expression outer (depth - 1) ◃ nil)

operand-fillable : (role : Role) (depth : ℕ) → Fillable (operand_need role depth)
operand-fillable (as_kind expression) depth = expr-fillable depth
operand-fillable (as_kind condition) depth = cond-fillable depth
operand-fillable (as_first outer) depth = number-fillable (as_first outer) depth refl (joint-fillable expression outer depth ◃ nil)

params-fillable : (count : ℕ) → Fillable (params_need count)
params-fillable count = by_step (params_need count) (codes ")") [] refl nil

stmts-fillable : (depth : ℕ) → Fillable (stmts_need depth)
stmts-fillable depth = by_step (stmts_need depth) (codes "}") [] refl nil

procedures-fillable : Fillable procedures_need
procedures-fillable = record { fill = λ rest. (rest, ([], refl)) }

structs-fillable : Fillable structs_need
structs-fillable =
    by_step structs_need (codes "void") procedure_needs refl
    (name-fillable ◃ text-fillable (codes "(") ◃ text-fillable (codes "struct") ◃ name-fillable ◃ text-fillable
    (codes "*") ◃ text-fillable (codes "s") ◃ params-fillable 0 ◃ text-fillable
    (codes "{") ◃ stmts-fillable 1 ◃ procedures-fillable ◃ nil)

length-fillable : Fillable length_need
length-fillable = record { fill = λ rest. (rest, inl refl) }

field-fillable : Fillable field_need
field-fillable =
    by_step field_need (codes "int8_t") (name_need ∷ length_need ∷ text_need (codes ";") ∷ []) refl
    (name-fillable ◃ length-fillable ◃ text-fillable (codes ";") ◃ nil)

fields-fillable : Fillable fields_need
fields-fillable = by_step fields_need (codes "}") [] refl nil

fillable : (need : Need) → Fillable need
fillable (text_need text) = text-fillable text
fillable name_need = name-fillable
fillable literal_need = literal-fillable
fillable type_need = type-fillable
fillable (operand_need role depth) = operand-fillable role depth
fillable (inside_need role depth) = record { fill = (operand-fillable (as_first role) depth).fill }
fillable (joint_need kind role depth) = joint-fillable kind role depth
fillable (values_need depth) = by_step (values_need depth) (codes ")") [] refl nil
fillable (leaf_need depth) = by_step (leaf_need depth) (codes "a") [] refl nil
fillable (tail_need depth) = record { fill = λ rest. (rest, inl refl) }
fillable index_need = record { fill = λ rest. (rest, inl refl) }
fillable length_need = length-fillable
fillable target_need = by_step target_need (codes "s") [] refl nil
fillable arguments_need = by_step arguments_need (codes ")") [] refl nil
fillable (stmts_need depth) = stmts-fillable depth
fillable (else_need depth) = record { fill = λ rest. (rest, inl refl) }
fillable (pure_param_need number) =
    record {
      fill = λ rest. (
        bare (codes "int64_t") ∷ bare (codes "a") ∷ rest,
        (record { line = 0; name = codes "a" }, refl),
      );
    }
fillable (pure_params_need count) = by_step (pure_params_need count) (codes ")") [] refl nil
fillable (param_need number) =
    record {
      fill = λ rest. (
        bare (codes "int64_t") ∷ bare (codes "a") ∷ rest,
        (record { line = 0; type = I64; name = codes "a" }, refl),
      );
    }
fillable (params_need count) = params-fillable count
fillable field_need = field-fillable
fillable fields_need = fields-fillable
fillable (pures_need count) =
    by_step (pures_need count) (codes "struct") struct_needs refl
    (name-fillable ◃ text-fillable (codes "{") ◃ field-fillable ◃ fields-fillable ◃ text-fillable
    (codes ";") ◃ structs-fillable ◃ nil)
fillable structs_need = structs-fillable
fillable procedures_need = procedures-fillable

-- every list of needs can be given
pub fillable-all : (needs : List Need) (rest : List Token) → (tokens : List Token) × FillsAll needs tokens rest
fillable-all [] rest = (rest, refl)
fillable-all (need ∷ needs) rest =
    let l : _ = fillable-all needs rest in
    let f : _ = (fillable need).fill l.0 in
    (f.0, (l.0, f.1, l.1))

-- the same step back, in a list of needs
pub step-back : (needs : List Need) (t : Token) (tokens rest : List Token) →
    Given (step_needs needs t.text) tokens rest → FillsAll needs (t ∷ tokens) rest
step-back [] t tokens rest g = absurd g
step-back (tail_need depth ∷ needs) t tokens rest g =
    by (bytes_eq t.text (codes ".")) (bytes_eq t.text (codes "[")) refl refl (λ k. step-back needs t tokens rest k) g
  where
    by : (a b : Bool) → bytes_eq t.text (codes ".") ≡ a → bytes_eq t.text (codes "[") ≡ b →
        (Given (step_needs needs t.text) tokens rest → FillsAll needs (t ∷ tokens) rest) →
        Given (if a then leaves (name_need ∷ needs)
        else (if b then leaves (index_needs depth ++ needs) else step_needs needs t.text)) tokens rest →
        FillsAll (tail_need depth ∷ needs) (t ∷ tokens) rest
    by true b is other later (m, n, f) = (
      m,
      inr (inl (
        n.0,
        seq-put (word (codes ".")) (name_word n.0) (t ∷ tokens) tokens m
            (word-put (codes ".") t tokens (same_text t.text (codes ".") is)) n.1,
      )),
      f,
    )
    by false true is other later (m, e, (k, close, f)) = (
      k,
      inr (inr (
        e.0,
        brackets-put (expr_spelling e.0) (t ∷ tokens) tokens m k
            (word-put (codes "[") t tokens (same_text t.text (codes "[") other)) e.1 close,
      )),
      f,
    )
    by false false is other later k = (t ∷ tokens, inl refl, later k)
step-back (index_need ∷ needs) t tokens rest g = by (bytes_eq t.text (codes "[")) refl (λ k. step-back needs t tokens rest k) g
  where
    by : (b : Bool) → bytes_eq t.text (codes "[") ≡ b →
        (Given (step_needs needs t.text) tokens rest → FillsAll needs (t ∷ tokens) rest) →
        Given (if b then leaves (index_needs 1 ++ needs) else step_needs needs t.text) tokens rest →
        FillsAll (index_need ∷ needs) (t ∷ tokens) rest
    by true is later (m, e, (k, close, f)) = (
      k,
      inr (
        e.0,
        brackets-put (expr_spelling e.0) (t ∷ tokens) tokens m k
            (word-put (codes "[") t tokens (same_text t.text (codes "[") is)) e.1 close,
      ),
      f,
    )
    by false is later k = (t ∷ tokens, inl refl, later k)
step-back (length_need ∷ needs) t tokens rest g = by (bytes_eq t.text (codes "[")) refl (λ k. step-back needs t tokens rest k) g
  where
    by : (b : Bool) → bytes_eq t.text (codes "[") ≡ b →
        (Given (step_needs needs t.text) tokens rest → FillsAll needs (t ∷ tokens) rest) →
        Given (if b then leaves (length_needs ++ needs) else step_needs needs t.text) tokens rest →
        FillsAll (length_need ∷ needs) (t ∷ tokens) rest
    by true is later (m, count, (k, close, f)) = (
      k,
      inr (
        count.0,
        brackets-put (literal_word count.0) (t ∷ tokens) tokens m k
            (word-put (codes "[") t tokens (same_text t.text (codes "[") is)) count.1 close,
      ),
      f,
    )
    by false is later k = (t ∷ tokens, inl refl, later k)
step-back (else_need depth ∷ needs) t tokens rest g = by (bytes_eq t.text (codes "else")) refl (λ k. step-back needs t tokens rest k) g
  where
    by : (b : Bool) → bytes_eq t.text (codes "else") ≡ b →
        (Given (step_needs needs t.text) tokens rest → FillsAll needs (t ∷ tokens) rest) →
        Given (if b then leaves (text_need (codes "{") ∷ stmts_need (depth + 1) ∷ needs) else step_needs needs t.text)
        tokens rest → FillsAll (else_need depth ∷ needs) (t ∷ tokens) rest
    by true is later (m, open_brace, (k, ss, f)) = (
      k,
      inr (
        ss.0,
        seq-put (word (codes "else")) (in_braces (stmts_spelling ss.0)) (t ∷ tokens) tokens k
            (word-put (codes "else") t tokens (same_text t.text (codes "else") is))
            (braces-put (stmts_spelling ss.0) tokens m ss.1 k open_brace ss.2 ss.3),
      ),
      f,
    )
    by false is later k = (t ∷ tokens, inl refl, later k)
step-back (need ∷ needs) t tokens rest g =
    let w : _ = with-given (reply_of need t.text) needs tokens rest g in
    (w.0, back need t tokens w.0 w.1, w.2)

-- a reply that only leaves needs, whatever the test

abbrev Leaves : Reply → Type 0
Leaves refuses = ⊥
Leaves too_deep = ⊥
Leaves (leaves needs) = ⊤

abbrev LeaveAll : List (Bool × Reply) → Type 0
LeaveAll [] = ⊤
LeaveAll (entry ∷ entries) = Leaves entry.1 × LeaveAll entries

leaves-shallow : (reply : Reply) → Leaves reply → reply ≡ too_deep → ⊥
leaves-shallow refuses l e = l
leaves-shallow too_deep l e = l
leaves-shallow (leaves needs) l e = cc

first-shallow : (entries : List (Bool × Reply)) → LeaveAll entries → first_reply entries ≡ too_deep → ⊥
first-shallow [] l e = cc
first-shallow (entry ∷ entries) l e = by entry.0 (λ k. first-shallow entries l.1 k) e
  where
    by : (b : Bool) → (first_reply entries ≡ too_deep → ⊥) → (if b then entry.1 else first_reply entries) ≡ too_deep → ⊥
    by true later k = leaves-shallow entry.1 l.0 k
    by false later k = later k

-- what is too deep is something that could be given, were there no limit
limit-deep : (depth limit : ℕ) (reply : Reply) (rest : List Token) → (reply ≡ too_deep → ⊥) →
    within_limit depth limit reply ≡ too_deep → (tokens : List Token) × Given reply tokens rest
limit-deep depth limit refuses rest n e = cc
limit-deep depth limit too_deep rest n e = absurd (n refl)
limit-deep depth limit (leaves needs) rest n e = fillable-all needs rest

operand-deep : (role : Role) (depth : ℕ) (t : Token) (rest : List Token) → operand_reply role depth t.text ≡ too_deep →
    (tokens : List Token) × Operand role (t ∷ tokens) rest
operand-deep role depth t rest e =
    let d : _ =
    limit-deep depth expr_limit (first_reply (operand_entries role depth t.text)) rest
    (λ k. first-shallow (operand_entries role depth t.text) (tt, (tt, (tt, tt))) k) e in
    (d.0, operand-back role depth t d.0 rest (chosen (operand_entries role depth t.text) d.0 rest d.1))

-- a row of replies that only leave needs, with one more for all else
last-deep : (entries : List (Bool × Reply)) (last : Reply) → LeaveAll entries →
    first_reply (entries ++ (true, last) ∷ []) ≡ too_deep → last ≡ too_deep
last-deep [] last l e = e
last-deep (entry ∷ entries) last l e = by entry.0 (λ k. last-deep entries last l.1 k) e
  where
    by : (b : Bool) → (first_reply (entries ++ (true, last) ∷ []) ≡ too_deep → last ≡ too_deep) →
        (if b then entry.1 else first_reply (entries ++ (true, last) ∷ [])) ≡ too_deep → last ≡ too_deep
    by true later k = absurd (leaves-shallow entry.1 l.0 k)
    by false later k = later k

inside-deep : (role : Role) (depth : ℕ) (t : Token) (rest : List Token) → inside_reply role depth t.text ≡ too_deep →
    (tokens : List Token) × Operand (as_first role) (t ∷ tokens) rest
inside-deep role depth t rest e =
    operand-deep (as_first role) (depth + 1) t rest
    (last-deep
    ((
      allows role expression && bytes_eq t.text (codes "-"),
      leaves (expr_need (depth + 1) ∷ text_need (codes ")") ∷ follow expression role depth),
    )
    ∷ (
      allows role condition && bytes_eq t.text (codes "!"),
      leaves (cond_need (depth + 1) ∷ text_need (codes ")") ∷ follow condition role depth),
    )
    ∷ (
      allows role expression && bytes_eq t.text (codes "int64_t"),
      leaves (text_need (codes ")") ∷ leaf_need (depth + 1) ∷ follow expression role depth),
    ) ∷ [])
    (operand_reply (as_first role) (depth + 1) t.text) (tt, (tt, (tt, tt))) e)

joint-shallow : (kind : Kind) (role : Role) (depth : ℕ) (text : List ℕ) → joint_reply kind role depth text ≡ too_deep → ⊥
joint-shallow expression role depth text e =
    first-shallow
    ((
      allows role expression && is_op text,
      leaves (expr_need depth ∷ text_need (codes ")") ∷ follow expression role (depth - 1)),
    )
    ∷ (
      allows role condition && is_comparison text,
      leaves (expr_need depth ∷ text_need (codes ")") ∷ follow condition role (depth - 1)),
    ) ∷ []) (tt, (tt, tt)) e
joint-shallow condition role depth text e =
    first-shallow
    ((
      allows role condition && is_connective text,
      leaves (cond_need depth ∷ text_need (codes ")") ∷ follow condition role (depth - 1)),
    )
    ∷ (
      allows role expression && bytes_eq text (codes "?"),
      leaves (expr_need depth ∷ text_need (codes ":") ∷ expr_need depth ∷ text_need (codes ")")
          ∷ follow expression role (depth - 1)),
    ) ∷ []) (tt, (tt, tt)) e

only-shallow : (test : Bool) (needs : List Need) → only_if test (leaves needs) ≡ too_deep → ⊥
only-shallow true needs e = cc
only-shallow false needs e = cc

comma-shallow : (needs : List Need) (text : List ℕ) → comma_reply needs text ≡ too_deep → ⊥
comma-shallow needs text e =
    first-shallow ((bytes_eq text (codes ","), leaves needs) ∷ (bytes_eq text (codes ")"), leaves []) ∷ [])
    (tt, (tt, tt)) e

field-shallow : (text : List ℕ) → field_reply text ≡ too_deep → ⊥
field-shallow text e =
    first-shallow ((is_type text, leaves (name_need ∷ length_need ∷ text_need (codes ";") ∷ []))
    ∷ (bytes_eq text (codes "struct"), leaves (name_need ∷ name_need ∷ text_need (codes ";") ∷ [])) ∷ [])
    (tt, (tt, tt)) e

procedures-shallow : (text : List ℕ) → procedures_reply text ≡ too_deep → ⊥
procedures-shallow text e =
    first-shallow ((bytes_eq text (codes "static"), leaves (text_need (codes "void") ∷ procedure_needs))
    ∷ (bytes_eq text (codes "void"), leaves procedure_needs) ∷ []) (tt, (tt, tt)) e

with-deep : (reply : Reply) (more : List Need) → with_needs reply more ≡ too_deep → reply ≡ too_deep
with-deep refuses more e = cc
with-deep too_deep more e = refl
with-deep (leaves needs) more e = cc

stmts-deep : (depth : ℕ) (t : Token) (rest : List Token) → reply_of (stmts_need depth) t.text ≡ too_deep →
    (tokens : List Token) × Fills (stmts_need depth) (t ∷ tokens) rest
stmts-deep depth t rest e = by (bytes_eq t.text (codes "}")) e
  where
    by : (b : Bool) → (if b then leaves [] else with_needs (stmt_reply depth t.text) (stmts_need depth ∷ []))
        ≡ too_deep → (tokens : List Token) × Fills (stmts_need depth) (t ∷ tokens) rest
    by true k = cc
    by false k =
        let more : _ = (stmts-fillable depth).fill rest in
        let d : _ =
        limit-deep depth stmt_limit (first_reply (stmt_entries depth t.text)) more.0
        (λ j. first-shallow (stmt_entries depth t.text) (tt, (tt, (tt, tt))) j)
        (with-deep (stmt_reply depth t.text) (stmts_need depth ∷ []) k) in
        let s : _ = stmt-back depth t d.0 more.0 (chosen (stmt_entries depth t.text) d.0 more.0 d.1) in (
          d.0,
          (
            WrittenStmts.more_stmts s.0 more.1.0,
            more.1.1,
            seq-put (stmt_spelling s.0) (stmts_spelling more.1.0) (t ∷ d.0) more.0 more.1.1 s.1 more.1.2,
            more.1.3,
          ),
        )

fields-shallow : (text : List ℕ) → reply_of fields_need text ≡ too_deep → ⊥
fields-shallow text e = by (bytes_eq text (codes "}")) e
  where
    by : (b : Bool) → (if b then leaves [] else with_needs (field_reply text) (fields_need ∷ [])) ≡ too_deep → ⊥
    by true k = cc
    by false k = field-shallow text (with-deep (field_reply text) (fields_need ∷ []) k)

structs-shallow : (text : List ℕ) → reply_of structs_need text ≡ too_deep → ⊥
structs-shallow text e = by (bytes_eq text (codes "struct")) e
  where
    by : (b : Bool) → (if b then leaves struct_needs else procedures_reply text) ≡ too_deep → ⊥
    by true k = cc
    by false k = procedures-shallow text k

pures-deep : (count : ℕ) (t : Token) (rest : List Token) → reply_of (pures_need count) t.text ≡ too_deep →
    (tokens : List Token) × Fills (pures_need count) (t ∷ tokens) rest
pures-deep count t rest e = by (bytes_eq t.text (codes "static")) refl e
  where
    by : (b : Bool) → bytes_eq t.text (codes "static") ≡ b →
        (if b then within_limit (count + 1) pure_limit (leaves (pure_needs (count + 1)))
        else first_reply ((bytes_eq t.text (codes "struct"), leaves struct_needs) ∷ [])) ≡ too_deep →
        (tokens : List Token) × Fills (pures_need count) (t ∷ tokens) rest
    by true is k =
        let f : _ = fillable-all (pure_needs (count + 1)) rest in
        (f.0, pures-back count t f.0 rest (inl (is, f.1)))
    by false is k = absurd (first-shallow ((bytes_eq t.text (codes "struct"), leaves struct_needs) ∷ []) (tt, tt) k)

-- a token that opens something too deep is in front of what could be given, were there no limit
deep : (need : Need) (t : Token) (rest : List Token) → reply_of need t.text ≡ too_deep →
    (tokens : List Token) × Fills need (t ∷ tokens) rest
deep (text_need wanted) t rest e = absurd (only-shallow (bytes_eq t.text wanted) [] e)
deep name_need t rest e = absurd (only-shallow (is_name t.text) [] e)
deep literal_need t rest e = absurd (only-shallow (is_literal t.text) [] e)
deep type_need t rest e = absurd (only-shallow (is_type t.text) [] e)
deep (operand_need role depth) t rest e = operand-deep role depth t rest e
deep (inside_need role depth) t rest e = inside-deep role depth t rest e
deep (joint_need kind role depth) t rest e = absurd (joint-shallow kind role depth t.text e)
deep (values_need depth) t rest e = absurd (comma-shallow (expr_need depth ∷ values_need depth ∷ []) t.text e)
deep (leaf_need depth) t rest e =
    absurd (first-shallow
    ((bytes_eq t.text (codes "s"), leaves (text_need (codes "->") ∷ name_need ∷ tail_need depth ∷ []))
    ∷ (is_name t.text, leaves []) ∷ []) (tt, (tt, tt)) e)
deep (tail_need depth) t rest e =
    absurd (first-shallow ((bytes_eq t.text (codes "."), leaves (name_need ∷ []))
    ∷ (bytes_eq t.text (codes "["), leaves (index_needs depth)) ∷ []) (tt, (tt, tt)) e)
deep index_need t rest e = absurd (only-shallow (bytes_eq t.text (codes "[")) (index_needs 1) e)
deep length_need t rest e = absurd (only-shallow (bytes_eq t.text (codes "[")) length_needs e)
deep target_need t rest e =
    absurd (first-shallow ((bytes_eq t.text (codes "s"), leaves [])
    ∷ (bytes_eq t.text (codes "&"), leaves (text_need (codes "s") ∷ text_need (codes "->") ∷ name_need ∷ [])) ∷ [])
    (tt, (tt, tt)) e)
deep arguments_need t rest e =
    absurd (comma-shallow (text_need (codes "(") ∷ type_need ∷ text_need (codes ")") ∷ expr_need 1 ∷ arguments_need
    ∷ []) t.text e)
deep (stmts_need depth) t rest e = stmts-deep depth t rest e
deep (else_need depth) t rest e =
    absurd (only-shallow (bytes_eq t.text (codes "else")) (text_need (codes "{") ∷ stmts_need (depth + 1) ∷ []) e)
deep (pure_param_need number) t rest e =
    let d : _ =
    limit-deep number param_limit (only_if (bytes_eq t.text (codes "int64_t")) (leaves (name_need ∷ []))) rest
    (λ k. only-shallow (bytes_eq t.text (codes "int64_t")) (name_need ∷ []) k) e in
    (d.0, pure_param-back t d.0 rest d.1)
deep (pure_params_need count) t rest e = absurd (comma-shallow (pure_param_need (count + 1) ∷ pure_params_need (count + 1) ∷ []) t.text e)
deep (param_need number) t rest e =
    let d : _ =
    limit-deep number param_limit (only_if (is_type t.text) (leaves (name_need ∷ []))) rest
    (λ k. only-shallow (is_type t.text) (name_need ∷ []) k) e in
    (d.0, param-back t d.0 rest d.1)
deep (params_need count) t rest e = absurd (comma-shallow (param_need (count + 1) ∷ params_need (count + 1) ∷ []) t.text e)
deep field_need t rest e = absurd (field-shallow t.text e)
deep fields_need t rest e = absurd (fields-shallow t.text e)
deep (pures_need count) t rest e = pures-deep count t rest e
deep structs_need t rest e = absurd (structs-shallow t.text e)
deep procedures_need t rest e = absurd (procedures-shallow t.text e)

pub step-deep : (needs : List Need) (t : Token) (rest : List Token) → step_needs needs t.text ≡ too_deep →
    (tokens : List Token) × FillsAll needs (t ∷ tokens) rest
step-deep [] t rest e = cc
step-deep (tail_need depth ∷ needs) t rest e =
    by (bytes_eq t.text (codes ".")) (bytes_eq t.text (codes "[")) (λ k. step-deep needs t rest k) e
  where
    by : (a b : Bool) →
        (step_needs needs t.text ≡ too_deep → (tokens : List Token) × FillsAll needs (t ∷ tokens) rest) →
        (if a then leaves (name_need ∷ needs)
        else (if b then leaves (index_needs depth ++ needs) else step_needs needs t.text)) ≡ too_deep →
        (tokens : List Token) × FillsAll (tail_need depth ∷ needs) (t ∷ tokens) rest
    by true b later k = cc
    by false true later k = cc
    by false false later k = let f : _ = later k in (f.0, (t ∷ f.0, inl refl, f.1))
step-deep (index_need ∷ needs) t rest e = by (bytes_eq t.text (codes "[")) (λ k. step-deep needs t rest k) e
  where
    by : (b : Bool) → (step_needs needs t.text ≡ too_deep → (tokens : List Token) × FillsAll needs (t ∷ tokens) rest) →
        (if b then leaves (index_needs 1 ++ needs) else step_needs needs t.text) ≡ too_deep →
        (tokens : List Token) × FillsAll (index_need ∷ needs) (t ∷ tokens) rest
    by true later k = cc
    by false later k = let f : _ = later k in (f.0, (t ∷ f.0, inl refl, f.1))
step-deep (length_need ∷ needs) t rest e = by (bytes_eq t.text (codes "[")) (λ k. step-deep needs t rest k) e
  where
    by : (b : Bool) → (step_needs needs t.text ≡ too_deep → (tokens : List Token) × FillsAll needs (t ∷ tokens) rest) →
        (if b then leaves (length_needs ++ needs) else step_needs needs t.text) ≡ too_deep →
        (tokens : List Token) × FillsAll (length_need ∷ needs) (t ∷ tokens) rest
    by true later k = cc
    by false later k = let f : _ = later k in (f.0, (t ∷ f.0, inl refl, f.1))
step-deep (else_need depth ∷ needs) t rest e = by (bytes_eq t.text (codes "else")) (λ k. step-deep needs t rest k) e
  where
    by : (b : Bool) → (step_needs needs t.text ≡ too_deep → (tokens : List Token) × FillsAll needs (t ∷ tokens) rest) →
        (if b then leaves (text_need (codes "{") ∷ stmts_need (depth + 1) ∷ needs) else step_needs needs t.text)
        ≡ too_deep → (tokens : List Token) × FillsAll (else_need depth ∷ needs) (t ∷ tokens) rest
    by true later k = cc
    by false later k = let f : _ = later k in (f.0, (t ∷ f.0, inl refl, f.1))
step-deep (need ∷ needs) t rest e =
    let f : _ = fillable-all needs rest in
    let d : _ = deep need t f.0 (with-deep (reply_of need t.text) needs e) in
    (d.0, (f.0, d.1, f.1))

-- back along the tokens that lead from needs to others
pub leads-back : (tokens : List Token) (needs left : List Need) (more : List Token) → Leads needs tokens left →
    FillsAll left more [] → FillsAll needs (tokens ++ more) []
leads-back [] needs left more h f = subst (λ n. FillsAll n more []) (sym h) f
leads-back (t ∷ tokens) needs left more h f =
    step-back needs t (tokens ++ more) [] (subst (λ r. Given r (tokens ++ more) []) (sym h.1) (leads-back tokens h.0 left more h.2 f))

file-filled : (tokens : List Token) → FillsAll file_needs tokens [] → (p : WrittenProgram) × Spells tokens p
file-filled tokens (mid, p, same) = (p.0, p.1 ∙ ap Some same)

pub leads-go_on : (tokens : List Token) (needs : List Need) → Leads file_needs tokens needs → CanGoOn tokens
leads-go_on tokens needs h =
    let f : _ = fillable-all needs [] in
    let p : _ = file-filled (tokens ++ f.0) (leads-back tokens file_needs needs f.0 h f.1) in
    (f.0, p.0, p.1)

pub deep-goes_on : (tokens : List Token) (needs : List Need) (t : Token) → Leads file_needs tokens needs →
    step_needs needs t.text ≡ too_deep → CanGoOn (tokens ++ t ∷ [])
deep-goes_on tokens needs t h e =
    let f : _ = step-deep needs t [] e in
    let p : _ = file-filled (tokens ++ t ∷ f.0) (leads-back tokens file_needs needs (t ∷ f.0) h f.1) in
    (f.0, p.0, subst (λ ts. Spells ts p.0) (sym (append_assoc tokens (t ∷ []) f.0)) p.1)

ending : (needs : List Need) → may_end needs ≡ true → FillsAll needs [] []
ending [] e = cc
ending (procedures_need ∷ []) e = ([], ([], refl), refl)
ending (procedures_need ∷ need ∷ needs) e = cc
ending (text_need text ∷ needs) e = cc
ending (name_need ∷ needs) e = cc
ending (literal_need ∷ needs) e = cc
ending (type_need ∷ needs) e = cc
ending (operand_need role depth ∷ needs) e = cc
ending (inside_need role depth ∷ needs) e = cc
ending (joint_need kind role depth ∷ needs) e = cc
ending (values_need depth ∷ needs) e = cc
ending (leaf_need depth ∷ needs) e = cc
ending (tail_need depth ∷ needs) e = cc
ending (index_need ∷ needs) e = cc
ending (length_need ∷ needs) e = cc
ending (target_need ∷ needs) e = cc
ending (arguments_need ∷ needs) e = cc
ending (stmts_need depth ∷ needs) e = cc
ending (else_need depth ∷ needs) e = cc
ending (pure_param_need number ∷ needs) e = cc
ending (pure_params_need count ∷ needs) e = cc
ending (param_need number ∷ needs) e = cc
ending (params_need count ∷ needs) e = cc
ending (field_need ∷ needs) e = cc
ending (fields_need ∷ needs) e = cc
ending (pures_need count ∷ needs) e = cc
ending (structs_need ∷ needs) e = cc

pub leads-end : (tokens : List Token) (needs : List Need) → Leads file_needs tokens needs → may_end needs ≡ true →
    (p : WrittenProgram) × Spells tokens p
leads-end tokens needs h e =
    let p : _ = file-filled (tokens ++ []) (leads-back tokens file_needs needs [] h (ending needs e)) in
    (p.0, subst (λ ts. Spells ts p.0) (append-nil tokens) p.1)
