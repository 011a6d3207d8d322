-- What is needed can be given: for each list of needs, the tokens that give it, and a step back from what a token leaves.
use Rattle.std.proofs.Common.{◌≡◌, refl, sym, ◌∙◌, ap, ℕ, ◌+◌, ◌-◌, ◌^◌, ◌⊎◌, inl, inr, List, [], ◌∷◌, ◌++◌, Some, None, Bool, true, false, ◌&&◌, nat_le, nat_lt, if◌then◌else◌, codes, bytes_eq, decimal, subst, option_and_then, eq-eqb}
use Rattle.std.proofs.lemmas.Slice.Eq.{bytes_eq-Decides}
use Rattle.c_syntax.specs.declared.code.CType.{CType}
use Rattle.c_grammar.specs.Tokens.{Token}
use Rattle.c_syntax.specs.Names.{is_name}
use Rattle.c_grammar.specs.Grammar.{Spelling, ◌⨾◌, word, at_line, name_word, literal_word, never, in_parens, in_brackets, in_braces, type_text, op_text, compare_text, own_spelling, leaf_spelling, expr_spelling, more_exprs_spelling, cond_spelling, target_spelling, arguments_spelling, stmts_spelling, param_spelling, more_params_spelling, pure_param_spelling, more_pure_params_spelling, field_spelling, all_spelling, struct_spelling, some_spelling, procedure_spelling, program_spelling}
use Rattle.c_grammar.specs.Written.{WrittenLeaf, WrittenExpr, WrittenExprs, WrittenCond, WrittenTarget, WrittenArguments, WrittenStmts, WrittenParam, WrittenPureParam, WrittenField, WrittenStruct, WrittenProcedure, WrittenProgram}
use Rattle.c_grammar.specs.Prefix.{Need, Reply, refuses, too_deep, leaves, with_needs, only_if, within_limit, first_reply, operand_reply, inside_reply, joint_reply, expr_need, cond_need, Role, Kind, as_kind, as_first, expression, condition, allows, follow, is_op, is_comparison, is_connective, text_need, name_need, literal_need, type_need, operand_need, inside_need, joint_need, values_need, leaf_need, tail_need, index_need, length_need, target_need, arguments_need, stmts_need, else_need, pure_param_need, pure_params_need, param_need, params_need, field_need, fields_need, pures_need, structs_need, procedures_need}
use Rattle.c_syntax.specs.Limits.{expr_limit}
use Rattle.c_grammar.proofs.lemmas.PrefixLaws.{seq-parts}
use Rattle.c_grammar.proofs.lemmas.Texts.{is_op-text, is_comparison-text, connective_text, is_connective-text}

-- an operand in a role is in front; a first operand is what completes a `(` with the role around it
abbrev pub Operand : Role → List Token → List Token → Type 0
Operand (as_kind expression) tokens rest = (e : WrittenExpr) × (expr_spelling e tokens ≡ Some rest)
Operand (as_kind condition) tokens rest = (c : WrittenCond) × (cond_spelling c tokens ≡ Some rest)
Operand (as_first outer) tokens rest = (t : Token) → t.text ≡ codes "(" → Operand outer (t ∷ tokens) rest

-- the tokens up to the rest are what is needed
abbrev pub Fills : Need → List Token → List Token → Type 0
Fills (text_need text) tokens rest = word text tokens ≡ Some rest
Fills name_need tokens rest = (name : List ℕ) × (name_word name tokens ≡ Some rest)
Fills literal_need tokens rest = (value : ℕ) × (literal_word value tokens ≡ Some rest)
Fills type_need tokens rest = (type : CType) × (word (type_text type) tokens ≡ Some rest)
Fills (operand_need role depth) tokens rest = Operand role tokens rest
Fills (inside_need role depth) tokens rest = Operand (as_first role) tokens rest
Fills (joint_need kind role depth) tokens rest =
    (first : List Token) → Operand (as_kind kind) first tokens → Operand (as_first role) first rest
Fills (values_need depth) tokens rest = (es : WrittenExprs) × (mid : List Token)
    × (more_exprs_spelling es tokens ≡ Some mid) × (word (codes ")") mid ≡ Some rest)
Fills (leaf_need depth) tokens rest =
    ((leaf : WrittenLeaf) × (leaf_spelling leaf tokens ≡ Some rest))
    ⊎ ((field : List ℕ) × (index : WrittenExpr)
    × ((own_spelling field ⨾ in_brackets (expr_spelling index)) tokens ≡ Some rest))
Fills (tail_need depth) tokens rest =
    (tokens ≡ rest) ⊎ ((name : List ℕ) × ((word (codes ".") ⨾ name_word name) tokens ≡ Some rest))
    ⊎ ((index : WrittenExpr) × (in_brackets (expr_spelling index) tokens ≡ Some rest))
Fills index_need tokens rest = (tokens ≡ rest) ⊎ ((index : WrittenExpr) × (in_brackets (expr_spelling index) tokens ≡ Some rest))
Fills length_need tokens rest = (tokens ≡ rest) ⊎ ((count : ℕ) × (in_brackets (literal_word count) tokens ≡ Some rest))
Fills target_need tokens rest = (target : WrittenTarget) × (target_spelling target tokens ≡ Some rest)
Fills arguments_need tokens rest = (values : WrittenArguments) × (mid : List Token)
    × (arguments_spelling values tokens ≡ Some mid) × (word (codes ")") mid ≡ Some rest)
Fills (stmts_need depth) tokens rest = (ss : WrittenStmts) × (mid : List Token) × (stmts_spelling ss tokens ≡ Some mid)
    × (word (codes "}") mid ≡ Some rest)
Fills (else_need depth) tokens rest =
    (tokens ≡ rest) ⊎ ((ss : WrittenStmts) × ((word (codes "else") ⨾ in_braces (stmts_spelling ss)) tokens ≡ Some rest))
Fills (pure_param_need number) tokens rest = (p : WrittenPureParam) × (pure_param_spelling p tokens ≡ Some rest)
Fills (pure_params_need count) tokens rest = (ps : List WrittenPureParam) × (mid : List Token)
    × (more_pure_params_spelling ps tokens ≡ Some mid) × (word (codes ")") mid ≡ Some rest)
Fills (param_need number) tokens rest = (p : WrittenParam) × (param_spelling p tokens ≡ Some rest)
Fills (params_need count) tokens rest = (ps : List WrittenParam) × (mid : List Token)
    × (more_params_spelling ps tokens ≡ Some mid) × (word (codes ")") mid ≡ Some rest)
Fills field_need tokens rest = (f : WrittenField) × (field_spelling f tokens ≡ Some rest)
Fills fields_need tokens rest = (fs : List WrittenField) × (mid : List Token)
    × (all_spelling field_spelling fs tokens ≡ Some mid) × (word (codes "}") mid ≡ Some rest)
Fills (pures_need count) tokens rest = (p : WrittenProgram) × (program_spelling p tokens ≡ Some rest)
Fills structs_need tokens rest = (ds : List WrittenStruct) × (ps : List WrittenProcedure) × (mid : List Token)
    × (all_spelling struct_spelling ds tokens ≡ Some mid) × (some_spelling procedure_spelling ps mid ≡ Some rest)
Fills procedures_need tokens rest = (ps : List WrittenProcedure) × (all_spelling procedure_spelling ps tokens ≡ Some rest)

abbrev pub FillsAll : List Need → List Token → List Token → Type 0
FillsAll [] tokens rest = tokens ≡ rest
FillsAll (need ∷ needs) tokens rest = (mid : List Token) × Fills need tokens mid × FillsAll needs mid rest

-- what a reply leaves is given
abbrev pub Given : Reply → List Token → List Token → Type 0
Given refuses tokens rest = ⊥
Given too_deep tokens rest = ⊥
Given (leaves needs) tokens rest = FillsAll needs tokens rest

-- one of the entries is chosen, and what it leaves is given
abbrev pub Chosen : List (Bool × Reply) → List Token → List Token → Type 0
Chosen [] tokens rest = ⊥
Chosen (entry ∷ entries) tokens rest = ((entry.0 ≡ true) × Given entry.1 tokens rest) ⊎ Chosen entries tokens rest

pub chosen : (entries : List (Bool × Reply)) (tokens rest : List Token) → Given (first_reply entries) tokens rest →
    Chosen entries tokens rest
chosen [] tokens rest h = h
chosen (entry ∷ entries) tokens rest h = by entry.0 refl (λ k. chosen entries tokens rest k) h
  where
    by : (b : Bool) → entry.0 ≡ b → (Given (first_reply entries) tokens rest → Chosen entries tokens rest) →
        Given (if b then entry.1 else first_reply entries) tokens rest → Chosen (entry ∷ entries) tokens rest
    by true is later k = inl (is, k)
    by false is later k = inr (later k)

pub only-given : (test : Bool) (reply : Reply) (tokens rest : List Token) → Given (only_if test reply) tokens rest →
    (test ≡ true) × Given reply tokens rest
only-given true reply tokens rest h = (refl, h)
only-given false reply tokens rest h = absurd h

pub limit-given : (depth limit : ℕ) (reply : Reply) (tokens rest : List Token) →
    Given (within_limit depth limit reply) tokens rest → Given reply tokens rest
limit-given depth limit refuses tokens rest h = h
limit-given depth limit too_deep tokens rest h = h
limit-given depth limit (leaves needs) tokens rest h = by (nat_le depth limit) h
  where
    by : (b : Bool) → Given (if b then leaves needs else too_deep) tokens rest → FillsAll needs tokens rest
    by true k = k
    by false k = absurd k

pub fills-split : (needs more : List Need) (tokens rest : List Token) → FillsAll (needs ++ more) tokens rest →
    (mid : List Token) × FillsAll needs tokens mid × FillsAll more mid rest
fills-split [] more tokens rest h = (tokens, refl, h)
fills-split (need ∷ needs) more tokens rest h =
    let later : _ = fills-split needs more h.0 rest h.2 in
    (later.0, (h.0, h.1, later.1), later.2)

pub with-given : (reply : Reply) (more : List Need) (tokens rest : List Token) →
    Given (with_needs reply more) tokens rest → (mid : List Token) × Given reply tokens mid × FillsAll more mid rest
with-given refuses more tokens rest h = absurd h
with-given too_deep more tokens rest h = absurd h
with-given (leaves needs) more tokens rest h = fills-split needs more tokens rest h

pub both_true : (a b : Bool) → (a && b) ≡ true → (a ≡ true) × (b ≡ true)
both_true true b e = (refl, e)
both_true false b e = cc

pub same_text : (a b : List ℕ) → bytes_eq a b ≡ true → a ≡ b
same_text a b e = (bytes_eq-Decides a b).0 e

-- spellings, put together

pub word-put : (text : List ℕ) (t : Token) (rest : List Token) → t.text ≡ text → word text (t ∷ rest) ≡ Some rest
word-put text t rest e = ap (λ b. if b then Some rest else None) ((bytes_eq-Decides t.text text).1 e)

pub name-put : (t : Token) (rest : List Token) → is_name t.text ≡ true → name_word t.text (t ∷ rest) ≡ Some rest
name-put t rest h = ap (λ b. (if b then word t.text else never) (t ∷ rest)) h ∙ word-put t.text t rest refl

pub seq-put : (a b : Spelling) (tokens mid rest : List Token) → a tokens ≡ Some mid → b mid ≡ Some rest → (a ⨾ b) tokens ≡ Some rest
seq-put a b tokens mid rest h k = ap (option_and_then b) h ∙ k

pub parens-put : (a : Spelling) (tokens inner behind rest : List Token) → word (codes "(") tokens ≡ Some inner →
    a inner ≡ Some behind → word (codes ")") behind ≡ Some rest → in_parens a tokens ≡ Some rest
parens-put a tokens inner behind rest h k l =
    seq-put (word (codes "(")) (a ⨾ word (codes ")")) tokens inner rest h
    (seq-put a (word (codes ")")) inner behind rest k l)

pub brackets-put : (a : Spelling) (tokens inner behind rest : List Token) → word (codes "[") tokens ≡ Some inner →
    a inner ≡ Some behind → word (codes "]") behind ≡ Some rest → in_brackets a tokens ≡ Some rest
brackets-put a tokens inner behind rest h k l =
    seq-put (word (codes "[")) (a ⨾ word (codes "]")) tokens inner rest h
    (seq-put a (word (codes "]")) inner behind rest k l)

pub braces-put : (a : Spelling) (tokens inner behind rest : List Token) → word (codes "{") tokens ≡ Some inner →
    a inner ≡ Some behind → word (codes "}") behind ≡ Some rest → in_braces a tokens ≡ Some rest
braces-put a tokens inner behind rest h k l =
    seq-put (word (codes "{")) (a ⨾ word (codes "}")) tokens inner rest h
    (seq-put a (word (codes "}")) inner behind rest k l)

pub line-put : (spelling : Spelling) (t : Token) (tokens rest : List Token) → spelling (t ∷ tokens) ≡ Some rest →
    at_line t.line spelling (t ∷ tokens) ≡ Some rest
line-put spelling t tokens rest h = ap (λ b. if b then spelling (t ∷ tokens) else None) (eq-eqb t.line t.line refl) ∙ h

-- some line is that of the first token
pub line-some : (spelling : Spelling) → spelling [] ≡ None → (tokens rest : List Token) → spelling tokens ≡ Some rest →
    (line : ℕ) × (at_line line spelling tokens ≡ Some rest)
line-some spelling none [] rest h = cc
line-some spelling none (t ∷ tokens) rest h = (t.line, line-put spelling t tokens rest h)

pub literal-put : (value : ℕ) (t : Token) (rest : List Token) → nat_lt value (2 ^ 63) ≡ true → decimal value ≡ t.text →
    literal_word value (t ∷ rest) ≡ Some rest
literal-put value t rest small e =
    ap (λ b. (if b then word (decimal value) else never) (t ∷ rest)) small ∙ word-put (decimal value) t rest (sym e)

-- an expression or condition that has ended, and what is to follow it
pub closing : (kind : Kind) (role : Role) (depth : ℕ) → allows role kind ≡ true → (tokens mid rest : List Token) →
    Operand (as_kind kind) tokens mid → FillsAll (follow kind role depth) mid rest → Operand role tokens rest
closing expression (as_kind expression) depth a tokens mid rest x f = subst (λ r. Operand (as_kind expression) tokens r) f x
closing condition (as_kind condition) depth a tokens mid rest x f = subst (λ r. Operand (as_kind condition) tokens r) f x
closing expression (as_kind condition) depth a tokens mid rest x f = cc
closing condition (as_kind expression) depth a tokens mid rest x f = cc
closing kind (as_first outer) depth a tokens mid rest x f = subst (λ r. Operand (as_first outer) tokens r) f.2 (f.1 tokens x)

-- one step back in an operand

abbrev pub operand_entries : Role → ℕ → List ℕ → List (Bool × Reply)
operand_entries role depth text = (
  allows role expression && bytes_eq text (codes "INT64_C"),
  leaves (text_need (codes "(") ∷ literal_need ∷ text_need (codes ")") ∷ follow expression role depth),
)
    ∷ (
      allows role expression && is_name text,
      leaves (text_need (codes "(") ∷ expr_need (depth + 1) ∷ values_need (depth + 1) ∷ follow expression role depth),
    )
    ∷ (bytes_eq text (codes "("), leaves (inside_need role depth ∷ []))
    ∷ []

pub operand-back : (role : Role) (depth : ℕ) (t : Token) (tokens rest : List Token) →
    Chosen (operand_entries role depth t.text) tokens rest → Operand role (t ∷ tokens) rest
operand-back role depth t tokens rest (inl h) =
    let k : _ = both_true (allows role expression) (bytes_eq t.text (codes "INT64_C")) h.0 in
    let f : FillsAll (text_need (codes "(") ∷ literal_need ∷ text_need (codes ")") ∷ follow expression role depth) tokens rest = h.1 in
    let v : ℕ = f.2.1.0 in
    closing expression role depth k.0 (t ∷ tokens) f.2.2.0 rest (
      WrittenExpr.literal v,
      seq-put (word (codes "INT64_C")) (in_parens (literal_word v)) (t ∷ tokens) tokens f.2.2.0
          (word-put (codes "INT64_C") t tokens (same_text t.text (codes "INT64_C") k.1))
          (parens-put (literal_word v) tokens f.0 f.2.0 f.2.2.0 f.1 f.2.1.1 f.2.2.1),
    ) f.2.2.2
operand-back role depth t tokens rest (inr (inl h)) =
    let k : _ = both_true (allows role expression) (is_name t.text) h.0 in
    let f : FillsAll (text_need (codes "(") ∷ expr_need (depth + 1) ∷ values_need (depth + 1)
    ∷ follow expression role depth) tokens rest = h.1 in
    let e : WrittenExpr = f.2.1.0 in
    let es : WrittenExprs = f.2.2.1.0 in
    closing expression role depth k.0 (t ∷ tokens) f.2.2.0 rest (
      WrittenExpr.pure t.line t.text (WrittenExprs.more_exprs e es),
      seq-put (at_line t.line (name_word t.text)) (in_parens (expr_spelling e ⨾ more_exprs_spelling es))
          (t ∷ tokens) tokens f.2.2.0 (line-put (name_word t.text) t tokens tokens (name-put t tokens k.1))
          (parens-put (expr_spelling e ⨾ more_exprs_spelling es) tokens f.0 f.2.2.1.1 f.2.2.0 f.1
          (seq-put (expr_spelling e) (more_exprs_spelling es) f.0 f.2.0 f.2.2.1.1 f.2.1.1 f.2.2.1.2) f.2.2.1.3),
    ) f.2.2.2
operand-back role depth t tokens rest (inr (inr (inl h))) =
    subst (λ r. Operand role (t ∷ tokens) r) h.1.2 (h.1.1 t (same_text t.text (codes "(") h.0))
operand-back role depth t tokens rest (inr (inr (inr h))) = absurd h

leaf-none : (leaf : WrittenLeaf) → leaf_spelling leaf [] ≡ None
leaf-none (WrittenLeaf.param name) = by (is_name name)
  where
    by : (b : Bool) → (if b then word name else never) [] ≡ None
    by true = refl
    by false = refl
leaf-none (WrittenLeaf.own field) = refl
leaf-none (WrittenLeaf.child field inner) = refl

-- the cast before a leaf
cast-put : (p t : Token) (tokens rest : List Token) → p.text ≡ codes "(" → bytes_eq t.text (codes "int64_t") ≡ true →
    word (codes ")") tokens ≡ Some rest → in_parens (word (codes "int64_t")) (p ∷ t ∷ tokens) ≡ Some rest
cast-put p t tokens rest is seen close =
    parens-put (word (codes "int64_t")) (p ∷ t ∷ tokens) (t ∷ tokens) tokens rest
    (word-put (codes "(") p (t ∷ tokens) is)
    (word-put (codes "int64_t") t tokens (same_text t.text (codes "int64_t") seen)) close

pub inside-back : (role : Role) (depth : ℕ) (t : Token) (tokens rest : List Token) →
    Given (inside_reply role depth t.text) tokens rest → Operand (as_first role) (t ∷ tokens) rest
inside-back role depth t tokens rest g =
    by (chosen
    ((
      allows role expression && bytes_eq t.text (codes "-"),
      leaves (expr_need (depth + 1) ∷ text_need (codes ")") ∷ follow expression role depth),
    )
    ∷ (
      allows role condition && bytes_eq t.text (codes "!"),
      leaves (cond_need (depth + 1) ∷ text_need (codes ")") ∷ follow condition role depth),
    )
    ∷ (
      allows role expression && bytes_eq t.text (codes "int64_t"),
      leaves (text_need (codes ")") ∷ leaf_need (depth + 1) ∷ follow expression role depth),
    )
    ∷ (true, operand_reply (as_first role) (depth + 1) t.text) ∷ []) tokens rest g)
  where
    by : Chosen
        ((
          allows role expression && bytes_eq t.text (codes "-"),
          leaves (expr_need (depth + 1) ∷ text_need (codes ")") ∷ follow expression role depth),
        )
        ∷ (
          allows role condition && bytes_eq t.text (codes "!"),
          leaves (cond_need (depth + 1) ∷ text_need (codes ")") ∷ follow condition role depth),
        )
        ∷ (
          allows role expression && bytes_eq t.text (codes "int64_t"),
          leaves (text_need (codes ")") ∷ leaf_need (depth + 1) ∷ follow expression role depth),
        )
        ∷ (true, operand_reply (as_first role) (depth + 1) t.text) ∷ []) tokens rest →
        Operand (as_first role) (t ∷ tokens) rest
    by (inl h) p is =
        let k : _ = both_true (allows role expression) (bytes_eq t.text (codes "-")) h.0 in
        let f : FillsAll (expr_need (depth + 1) ∷ text_need (codes ")") ∷ follow expression role depth) tokens rest = h.1 in
        let e : WrittenExpr = f.1.0 in
        closing expression role depth k.0 (p ∷ t ∷ tokens) f.2.0 rest (
          WrittenExpr.neg e,
          parens-put (word (codes "-") ⨾ expr_spelling e) (p ∷ t ∷ tokens) (t ∷ tokens) f.0 f.2.0
              (word-put (codes "(") p (t ∷ tokens) is)
              (seq-put (word (codes "-")) (expr_spelling e) (t ∷ tokens) tokens f.0
              (word-put (codes "-") t tokens (same_text t.text (codes "-") k.1)) f.1.1) f.2.1,
        ) f.2.2
    by (inr (inl h)) p is =
        let k : _ = both_true (allows role condition) (bytes_eq t.text (codes "!")) h.0 in
        let f : FillsAll (cond_need (depth + 1) ∷ text_need (codes ")") ∷ follow condition role depth) tokens rest = h.1 in
        let c : WrittenCond = f.1.0 in
        closing condition role depth k.0 (p ∷ t ∷ tokens) f.2.0 rest (
          WrittenCond.negated c,
          parens-put (word (codes "!") ⨾ cond_spelling c) (p ∷ t ∷ tokens) (t ∷ tokens) f.0 f.2.0
              (word-put (codes "(") p (t ∷ tokens) is)
              (seq-put (word (codes "!")) (cond_spelling c) (t ∷ tokens) tokens f.0
              (word-put (codes "!") t tokens (same_text t.text (codes "!") k.1)) f.1.1) f.2.1,
        ) f.2.2
    by (inr (inr (inl (seen, (m, close, (k, inl (leaf, spelled), more)))))) p is =
        let a : _ = both_true (allows role expression) (bytes_eq t.text (codes "int64_t")) seen in
        let cast : in_parens (word (codes "int64_t")) (p ∷ t ∷ tokens) ≡ Some m = cast-put p t tokens m is a.1 close in
        let place : _ = line-some (leaf_spelling leaf) (leaf-none leaf) m k spelled in
        closing expression role depth a.0 (p ∷ t ∷ tokens) k rest (
          WrittenExpr.read place.0 leaf,
          seq-put (in_parens (word (codes "int64_t"))) (at_line place.0 (leaf_spelling leaf))
              (p ∷ t ∷ tokens) m k cast place.1,
        ) more
    by (inr (inr (inl (seen, (m, close, (k, inr (field, index, spelled), more)))))) p is =
        let a : _ = both_true (allows role expression) (bytes_eq t.text (codes "int64_t")) seen in
        let cast : in_parens (word (codes "int64_t")) (p ∷ t ∷ tokens) ≡ Some m = cast-put p t tokens m is a.1 close in
        let parts : _ = seq-parts (own_spelling field) (in_brackets (expr_spelling index)) m k spelled in
        let place : _ = line-some (own_spelling field) refl m parts.0 parts.1 in
        closing expression role depth a.0 (p ∷ t ∷ tokens) k rest (
          WrittenExpr.item place.0 field index,
          seq-put (in_parens (word (codes "int64_t"))) (at_line place.0 (own_spelling field)
              ⨾ in_brackets (expr_spelling index)) (p ∷ t ∷ tokens) m k cast
              (seq-put (at_line place.0 (own_spelling field)) (in_brackets (expr_spelling index)) m parts.0 k place.1
              parts.2),
        ) more
    by (inr (inr (inr (inl h)))) p is =
        operand-back (as_first role) (depth + 1) t tokens rest
        (chosen (operand_entries (as_first role) (depth + 1) t.text) tokens rest
        (limit-given (depth + 1) expr_limit (first_reply (operand_entries (as_first role) (depth + 1) t.text))
        tokens rest h.1)) p is
    by (inr (inr (inr (inr h)))) p is = absurd h

-- an operand, an operator, a second operand of the same kind, and a `)`
pair-put : (a o b : Spelling) (p : Token) (first mid behind close rest : List Token) → p.text ≡ codes "(" →
    a first ≡ Some mid → o mid ≡ Some behind → b behind ≡ Some close → word (codes ")") close ≡ Some rest →
    in_parens (a ⨾ o ⨾ b) (p ∷ first) ≡ Some rest
pair-put a o b p first mid behind close rest is x y z w =
    parens-put (a ⨾ o ⨾ b) (p ∷ first) first close rest (word-put (codes "(") p first is)
    (seq-put a (o ⨾ b) first mid close x (seq-put o b mid behind close y z)) w

pub joint-back : (kind : Kind) (role : Role) (depth : ℕ) (t : Token) (tokens rest : List Token) →
    Given (joint_reply kind role depth t.text) tokens rest → (first : List Token) →
    Operand (as_kind kind) first (t ∷ tokens) → Operand (as_first role) first rest
joint-back expression role depth t tokens rest g first x =
    by (chosen
    ((
      allows role expression && is_op t.text,
      leaves (expr_need depth ∷ text_need (codes ")") ∷ follow expression role (depth - 1)),
    )
    ∷ (
      allows role condition && is_comparison t.text,
      leaves (expr_need depth ∷ text_need (codes ")") ∷ follow condition role (depth - 1)),
    ) ∷ []) tokens rest g)
  where
    by : Chosen
        ((
          allows role expression && is_op t.text,
          leaves (expr_need depth ∷ text_need (codes ")") ∷ follow expression role (depth - 1)),
        )
        ∷ (
          allows role condition && is_comparison t.text,
          leaves (expr_need depth ∷ text_need (codes ")") ∷ follow condition role (depth - 1)),
        ) ∷ []) tokens rest →
        Operand (as_first role) first rest
    by (inl h) p is =
        let k : _ = both_true (allows role expression) (is_op t.text) h.0 in
        let f : FillsAll (expr_need depth ∷ text_need (codes ")") ∷ follow expression role (depth - 1)) tokens rest = h.1 in
        let o : _ = is_op-text t.text k.1 in
        closing expression role (depth - 1) k.0 (p ∷ first) f.2.0 rest (
          WrittenExpr.binary o.0 x.0 f.1.0,
          pair-put (expr_spelling x.0) (word (op_text o.0)) (expr_spelling f.1.0) p first
              (t ∷ tokens) tokens f.0 f.2.0 is x.1 (word-put (op_text o.0) t tokens o.1) f.1.1 f.2.1,
        ) f.2.2
    by (inr (inl h)) p is =
        let k : _ = both_true (allows role condition) (is_comparison t.text) h.0 in
        let f : FillsAll (expr_need depth ∷ text_need (codes ")") ∷ follow condition role (depth - 1)) tokens rest = h.1 in
        let o : _ = is_comparison-text t.text k.1 in
        closing condition role (depth - 1) k.0 (p ∷ first) f.2.0 rest (
          WrittenCond.compare o.0 x.0 f.1.0,
          pair-put (expr_spelling x.0) (word (compare_text o.0)) (expr_spelling f.1.0) p first
              (t ∷ tokens) tokens f.0 f.2.0 is x.1 (word-put (compare_text o.0) t tokens o.1) f.1.1 f.2.1,
        ) f.2.2
    by (inr (inr h)) p is = absurd h
joint-back condition role depth t tokens rest g first x =
    by (chosen
    ((
      allows role condition && is_connective t.text,
      leaves (cond_need depth ∷ text_need (codes ")") ∷ follow condition role (depth - 1)),
    )
    ∷ (
      allows role expression && bytes_eq t.text (codes "?"),
      leaves (expr_need depth ∷ text_need (codes ":") ∷ expr_need depth ∷ text_need (codes ")")
          ∷ follow expression role (depth - 1)),
    ) ∷ []) tokens rest g)
  where
    connect : (both : Bool) (c : WrittenCond) (p : Token) (mid close : List Token) → t.text ≡ connective_text both →
        p.text ≡ codes "(" → cond_spelling c tokens ≡ Some mid → word (codes ")") mid ≡ Some close →
        Operand (as_kind condition) (p ∷ first) close
    connect true c p mid close o is y z = (
      WrittenCond.both x.0 c,
      pair-put (cond_spelling x.0) (word (codes "&&")) (cond_spelling c) p first
          (t ∷ tokens) tokens mid close is x.1 (word-put (codes "&&") t tokens o) y z,
    )
    connect false c p mid close o is y z = (
      WrittenCond.either x.0 c,
      pair-put (cond_spelling x.0) (word (codes "||")) (cond_spelling c) p first
          (t ∷ tokens) tokens mid close is x.1 (word-put (codes "||") t tokens o) y z,
    )

    by : Chosen
        ((
          allows role condition && is_connective t.text,
          leaves (cond_need depth ∷ text_need (codes ")") ∷ follow condition role (depth - 1)),
        )
        ∷ (
          allows role expression && bytes_eq t.text (codes "?"),
          leaves (expr_need depth ∷ text_need (codes ":") ∷ expr_need depth ∷ text_need (codes ")")
              ∷ follow expression role (depth - 1)),
        ) ∷ []) tokens rest → Operand (as_first role) first rest
    by (inl h) p is =
        let k : _ = both_true (allows role condition) (is_connective t.text) h.0 in
        let f : FillsAll (cond_need depth ∷ text_need (codes ")") ∷ follow condition role (depth - 1)) tokens rest = h.1 in
        let o : _ = is_connective-text t.text k.1 in
        closing condition role (depth - 1) k.0 (p ∷ first) f.2.0 rest (connect o.0 f.1.0 p f.0 f.2.0 o.1 is f.1.1 f.2.1) f.2.2
    by (inr (inl h)) p is =
        let k : _ = both_true (allows role expression) (bytes_eq t.text (codes "?")) h.0 in
        let f : FillsAll (expr_need depth ∷ text_need (codes ":") ∷ expr_need depth ∷ text_need (codes ")")
        ∷ follow expression role (depth - 1)) tokens rest = h.1 in
        let a : WrittenExpr = f.1.0 in
        let b : WrittenExpr = f.2.2.1.0 in
        closing expression role (depth - 1) k.0 (p ∷ first) f.2.2.2.0 rest (
          WrittenExpr.pick x.0 a b,
          pair-put (cond_spelling x.0) (word (codes "?")) (expr_spelling a ⨾ word (codes ":") ⨾ expr_spelling b) p
              first (t ∷ tokens) tokens f.2.2.0 f.2.2.2.0 is x.1
              (word-put (codes "?") t tokens (same_text t.text (codes "?") k.1))
              (seq-put (expr_spelling a) (word (codes ":") ⨾ expr_spelling b) tokens f.0 f.2.2.0 f.1.1
              (seq-put (word (codes ":")) (expr_spelling b) f.0 f.2.0 f.2.2.0 f.2.1 f.2.2.1.1)) f.2.2.2.1,
        ) f.2.2.2.2
    by (inr (inr h)) p is = absurd h
