-- The texts of expressions and statements spell what they are printed from.
use Rattle.std.proofs.Common.{◌≡◌, refl, sym, ◌∙◌, ap, subst, ℕ, ◌+◌, ◌^◌, ◌<◌, List, [], ◌∷◌, ◌++◌, length, true, false, ◌==◌, Some, take_while, slice_get, unsigned_abs, codes, decimal, arith}
use Rattle.std.proofs.lemmas.List.{append_assoc}
use Rattle.base_core.specs.Numbers.{reported_number}
use Rattle.c_syntax.specs.declared.code.CType.{CType}
use Rattle.c_syntax.specs.declared.code.Leaf.{Leaf}
use Rattle.c_syntax.specs.declared.code.Leaf.TheVariants.{Param, Own, Child}
use Rattle.c_syntax.specs.declared.code.Target.{Target}
use Rattle.c_syntax.specs.declared.code.Target.TheVariants.{Own as OwnTarget, Child as ChildTarget}
use Rattle.c_syntax.specs.Tree.{ExprTree, literal, neg, read, binary, pick, pure, item, ExprTrees, no_exprs, more_exprs, CondTree, compare, both, either, negated, StmtTree, assign, assign_at, branch, call, StmtTrees, no_stmts, more_stmts, field_types, type_at, PureTree, ProcedureTree}
use Rattle.c_grammar.specs.Tokens.{token}
use Rattle.c_syntax.specs.Names.{is_lower, is_word_byte, is_name, name_at}
use Rattle.c_grammar.specs.Written.{WrittenLeaf}
use Rattle.c_grammar.specs.Grammar.{word, at_line, op_text, compare_text, type_text, own_spelling, leaf_spelling, expr_spelling, exprs_spelling, more_exprs_spelling, cond_spelling, target_spelling, arguments_spelling, stmt_spelling, stmts_spelling}
use Rattle.c_syntax.specs.Lawful.{Reach, IsLawfulLeaf, IsLawfulExpr, AreLawfulExprs, IsLawfulCond, IsLawfulTarget, IsLawfulStmt, AreLawfulStmts, IsNumberAt, IsArrayAt, IsStructAt, exprs_length}
use Rattle.c_printer.specs.Lines.{margin_bytes, ended}
use Rattle.c_printer.specs.Notes.{note_at}
use Rattle.c_printer.specs.Printing.{Vocabulary, pure_name, procedure_name, procedure_types, field_name, inner_fields, leaf_bytes, expr_bytes, exprs_bytes, later_exprs_bytes, cond_bytes, target_bytes, arguments_bytes, deeper, store_bytes, item_store_bytes, call_bytes, target_note, noted_stmt_bytes, noted_else_bytes, noted_stmts_bytes}
use Rattle.c_printer.proofs.Lexing.{IsTokenBefore, name-token}
use Rattle.c_printer.proofs.lemmas.Bytes.{NameParts, name-parts, differs}
use Rattle.c_printer.proofs.TextReading.{Reads, ◌▸◌, along, ending, reads-nothing, spaced, lined, line_ended, margined, margin_passed, reads-word, reads-line, reads-name, reads-literal, comma, question, colon, dot, semicolon, sign, parens, brackets, braces, op-token, compare-token, cast, own_start}
use Rattle.c_printer.proofs.NotedLines.{noted-read}
use Rattle.c_printer.proofs.PrintedTrees.{written_leaf, written_expr, written_exprs, written_cond, written_target, written_arguments, written_store, written_item_store, written_call, Above, stmt_above, stmt_lines, stmts_lines, else_line, written_stmt, written_stmts}

-- each name in a leaf is one
abbrev pub HasNames : WrittenLeaf → Type 0
HasNames (WrittenLeaf.param name) = is_name name ≡ true
HasNames (WrittenLeaf.own field) = is_name field ≡ true
HasNames (WrittenLeaf.child field inner) = (is_name field ≡ true) × (is_name inner ≡ true)

-- what is in reach of a body has names
pub record Speaks (v : Vocabulary) (reach : Reach) : Type 0 where
  pub leaf : (leaf : Leaf) → IsLawfulLeaf reach leaf → HasNames (written_leaf v leaf)
  pub number : (f : ℕ) → IsNumberAt reach.fields f → is_name (field_name v.fields f) ≡ true
  pub array : (f : ℕ) → IsArrayAt reach.fields f → is_name (field_name v.fields f) ≡ true
  pub instance : (f of : ℕ) → IsStructAt reach.fields f of → is_name (field_name v.fields f) ≡ true
  pub pure : (k : ℕ) (p : PureTree) → slice_get reach.pures k ≡ Some p → (is_name (pure_name v.program k) ≡ true) × (0 < length p.params)
  pub procedure : (k : ℕ) (p : ProcedureTree) → slice_get reach.procedures k ≡ Some p →
      (is_name (procedure_name v.program k) ≡ true) × (length (procedure_types v.program k) ≡ length p.params)

-- no letter, digit or `_` comes next
abbrev pub Ends : List ℕ → Type 0
Ends rest = take_while is_word_byte rest ≡ []

leaf-read : (v : Vocabulary) (l : ℕ) (leaf : Leaf) (rest : List ℕ) → HasNames (written_leaf v leaf) → Ends rest →
    Reads (leaf_spelling (written_leaf v leaf)) l (leaf_bytes v leaf ++ rest) l rest
leaf-read v l (Param k) rest names ends = reads-name (name_at v.params k) rest names ends
leaf-read v l (Own f) rest names ends = own_start (reads-name (field_name v.fields f) rest names ends)
leaf-read v l (Child f g) rest names ends =
    let n : List ℕ = field_name v.fields f in
    let i : List ℕ = field_name (inner_fields v f) g in
    along (regrouped n i rest) (own_start (reads-name n (46 ∷ (i ++ rest)) names.0 refl ▸ sign dot ▸ reads-name i rest names.1 ends))
  where
    regrouped : (a b z : List ℕ) → (((codes "s->" ++ a) ++ codes ".") ++ b) ++ z ≡ 115 ∷ 45 ∷ 62 ∷ (a ++ 46 ∷ (b ++ z))
    regrouped a b z = simp append_assoc

s-token : (rest : List ℕ) → IsTokenBefore (codes "s") (45 ∷ rest)
s-token rest = record { first = 115; later = []; list = refl; piece = refl; one_line = λ line. refl }

-- a leaf, where its line is asked for
leaf_line-read : (v : Vocabulary) (l : ℕ) (leaf : Leaf) (rest : List ℕ) → HasNames (written_leaf v leaf) → Ends rest →
    Reads (at_line (reported_number l) (leaf_spelling (written_leaf v leaf))) l (leaf_bytes v leaf ++ rest) l rest
leaf_line-read v l (Param k) rest names ends =
    reads-line (name_at v.params k) rest (name-token (name_at v.params k) rest names ends)
    (leaf-read v l (Param k) rest names ends)
leaf_line-read v l (Own f) rest names ends =
    reads-line (codes "s") (45 ∷ 62 ∷ (field_name v.fields f ++ rest)) (s-token (62 ∷ (field_name v.fields f ++ rest)))
    (leaf-read v l (Own f) rest names ends)
leaf_line-read v l (Child f g) rest names ends =
    let behind : List ℕ = ((field_name v.fields f ++ codes ".") ++ field_name (inner_fields v f) g) ++ rest in
    reads-line (codes "s") (45 ∷ 62 ∷ behind) (s-token (62 ∷ behind)) (leaf-read v l (Child f g) rest names ends)

-- an own field, where its line is asked for
own_line-read : (l : ℕ) (name rest : List ℕ) → is_name name ≡ true → Ends rest →
    Reads (at_line (reported_number l) (own_spelling name)) l (115 ∷ 45 ∷ 62 ∷ (name ++ rest)) l rest
own_line-read l name rest named ends =
    reads-line (codes "s") (45 ∷ 62 ∷ (name ++ rest)) (s-token (62 ∷ (name ++ rest))) (own_start (reads-name name rest named ends))

-- a minus sign before what is no `>`
minus-token : (c : ℕ) (cs : List ℕ) → (c == 62) ≡ false → IsTokenBefore (codes "-") (c ∷ cs)
minus-token c cs other = record { first = 45; later = []; list = refl; piece = rw other refl; one_line = λ line. refl }

later-ends : (v : Vocabulary) (es : ExprTrees) (z : List ℕ) → Ends (later_exprs_bytes v es ++ 41 ∷ z)
later-ends v no_exprs z = refl
later-ends v (more_exprs e es) z = refl

-- the shapes of texts
around : (a b z : List ℕ) → (a ++ b) ++ z ≡ a ++ (b ++ z)
around a b z = append_assoc a b z

closed : (a z : List ℕ) → (a ++ codes ")") ++ z ≡ a ++ 41 ∷ z
closed a z = append_assoc a (codes ")") z

between : (a o b z : List ℕ) → ((((a ++ codes " ") ++ o) ++ codes " ") ++ b) ++ codes ")" ++ z ≡ a ++ 32 ∷ (o ++ 32 ∷ (b ++ 41 ∷ z))
between a o b z = simp append_assoc

picked : (t a b z : List ℕ) → ((((t ++ codes " ? ") ++ a) ++ codes " : ") ++ b) ++ codes ")" ++ z ≡ t ++ 32 ∷ 63 ∷ 32
    ∷ (a ++ 32 ∷ 58 ∷ 32 ∷ (b ++ 41 ∷ z))
picked t a b z = simp append_assoc

called : (n a z : List ℕ) → ((n ++ codes "(") ++ a) ++ codes ")" ++ z ≡ n ++ 40 ∷ (a ++ 41 ∷ z)
called n a z = simp append_assoc

both_signs : (a b z : List ℕ) → ((a ++ codes " && ") ++ b) ++ codes ")" ++ z ≡ a ++ 32 ∷ 38 ∷ 38 ∷ 32 ∷ (b ++ 41 ∷ z)
both_signs a b z = simp append_assoc

either_signs : (a b z : List ℕ) → ((a ++ codes " || ") ++ b) ++ codes ")" ++ z ≡ a ++ 32 ∷ 124 ∷ 124 ∷ 32 ∷ (b ++ 41 ∷ z)
either_signs a b z = simp append_assoc

-- a condition begins with `(`
cond-head : (v : Vocabulary) (c : CondTree) (z : List ℕ) → (cs : List ℕ) × (cond_bytes v c ++ z ≡ 40 ∷ cs)
cond-head v (compare how a b) z = (_, refl)
cond-head v (both a b) z = (_, refl)
cond-head v (either a b) z = (_, refl)
cond-head v (negated a) z = (_, refl)

seven : (a f b t c e d z : List ℕ) → (((a ++ f) ++ b) ++ (((t ++ c) ++ e) ++ d)) ++ z
    ≡ a ++ (f ++ (b ++ (t ++ (c ++ (e ++ (d ++ z))))))
seven a f b t c e d z = simp append_assoc

nine : (a f b i g t c e d z : List ℕ) → (((((a ++ f) ++ b) ++ i) ++ g) ++ (((t ++ c) ++ e) ++ d)) ++ z
    ≡ a ++ (f ++ (b ++ (i ++ (g ++ (t ++ (c ++ (e ++ (d ++ z))))))))
nine a f b i g t c e d z = simp append_assoc

stored : (f t e z : List ℕ) → (((codes "s->" ++ f) ++ codes " = (") ++ (((t ++ codes ")") ++ e) ++ codes ";")) ++ z
    ≡ 115 ∷ 45 ∷ 62 ∷ (f ++ 32 ∷ 61 ∷ 32 ∷ 40 ∷ (t ++ 41 ∷ (e ++ 59 ∷ z)))
stored f t e z = seven (codes "s->") f (codes " = (") t (codes ")") e (codes ";") z

stored_at : (f i t e z : List ℕ) →
    (((((codes "s->" ++ f) ++ codes "[") ++ i) ++ codes "] = (") ++ (((t ++ codes ")") ++ e) ++ codes ";")) ++ z
    ≡ 115 ∷ 45 ∷ 62 ∷ (f ++ 91 ∷ (i ++ 93 ∷ 32 ∷ 61 ∷ 32 ∷ 40 ∷ (t ++ 41 ∷ (e ++ 59 ∷ z))))
stored_at f i t e z = nine (codes "s->") f (codes "[") i (codes "] = (") t (codes ")") e (codes ";") z

itemed : (n i z : List ℕ) → (((codes "(int64_t)s->" ++ n) ++ codes "[") ++ i) ++ codes "]" ++ z ≡ codes "(int64_t)s->"
    ++ (n ++ 91 ∷ (i ++ 93 ∷ z))
itemed n i z = simp append_assoc

tested : (m c y n z : List ℕ) → (((((m ++ codes "if ") ++ c) ++ ended (codes " {")) ++ y) ++ n ++ m)
    ++ ended (codes "}") ++ z ≡ m ++ 105 ∷ 102 ∷ 32 ∷ (c ++ 32 ∷ 123 ∷ 10 ∷ (y ++ (n ++ (m ++ 125 ∷ 10 ∷ z))))
tested m c y n z = simp append_assoc

otherwise : (m s ss z : List ℕ) → ((m ++ ended (codes "} else {")) ++ (s ++ ss)) ++ z ≡ m ++ 125 ∷ 32 ∷ 101 ∷ 108 ∷ 115
    ∷ 101 ∷ 32 ∷ 123 ∷ 10 ∷ (s ++ (ss ++ z))
otherwise m s ss z = simp append_assoc

invoked : (n t a z : List ℕ) → ((((n ++ codes "(") ++ t) ++ a) ++ codes ");") ++ z ≡ n ++ 40 ∷ (t ++ (a ++ 41 ∷ 59 ∷ z))
invoked n t a z = simp append_assoc

argued : (t e a z : List ℕ) → (((codes ", (" ++ t) ++ codes ")") ++ e ++ a) ++ z ≡ 44 ∷ 32 ∷ 40 ∷ (t ++ 41 ∷ (e ++ (a ++ z)))
argued t e a z = simp append_assoc

-- a call's arguments are followed by `,` or `)`
arguments-ends : (v : Vocabulary) (types : List CType) (es : ExprTrees) (z : List ℕ) → Ends (arguments_bytes v types es ++ 41 ∷ z)
arguments-ends v types no_exprs z = refl
arguments-ends v [] (more_exprs e es) z = refl
arguments-ends v (t ∷ types) (more_exprs e es) z = refl

-- `s` where no word goes on
pub s-ends : (rest : List ℕ) → Ends rest → IsTokenBefore (codes "s") rest
s-ends rest ends = record { first = 115; later = []; list = refl; piece = ap (λ x. token (115 ∷ x)) ends; one_line = λ line. refl }

-- `if` before a space
if-read : (l : ℕ) (rest : List ℕ) → Reads (at_line (reported_number l) (word (codes "if"))) l (105 ∷ 102 ∷ 32 ∷ rest) l (32 ∷ rest)
if-read l rest = reads-line (codes "if") (32 ∷ rest) if-token (reads-word (codes "if") (32 ∷ rest) if-token)
  where
    if-token : IsTokenBefore (codes "if") (32 ∷ rest)
    if-token = record { first = 105; later = 102 ∷ []; list = refl; piece = refl; one_line = λ line. refl }

module _ (v : Vocabulary) (reach : Reach) (speaks : Speaks v reach) where
  -- an expression begins with no `>`
  expr-head : (e : ExprTree) → IsLawfulExpr reach e → (z : List ℕ) →
      (c : ℕ) × (cs : List ℕ) × (expr_bytes v e ++ z ≡ c ∷ cs) × ((c == 62) ≡ false)
  expr-head (literal value) h z = (73, _, refl, refl)
  expr-head (pure k es) h z =
      let p : NameParts (pure_name v.program k) = name-parts (pure_name v.program k) (speaks.pure k h.0 h.1).0 in (
        p.first,
        ((p.later ++ codes "(") ++ exprs_bytes v es) ++ codes ")" ++ z,
        ap (λ n. ((n ++ codes "(") ++ exprs_bytes v es) ++ codes ")" ++ z) p.list,
        differs is_lower p.first 62 p.lower refl,
      )
  expr-head _ h z = (40, _, refl, refl)

  mutual
    pub expr-read : (l : ℕ) (e : ExprTree) (rest : List ℕ) → IsLawfulExpr reach e → Ends rest →
        Reads (expr_spelling (written_expr v (reported_number l) e)) l (expr_bytes v e ++ rest) l rest
    expr-read l (literal value) rest h ends =
        let small : unsigned_abs value < 2 ^ 63 = subst (λ n. n < 2 ^ 63) (sym (ap unsigned_abs h.1)) h.2 in
        let digits : List ℕ = decimal (unsigned_abs value) in
        reads-word (codes "INT64_C") (40 ∷ ((digits ++ codes ")") ++ rest))
        (record { first = 73; later = codes "NT64_C"; list = refl; piece = refl; one_line = λ line. refl }) ▸ along
        (ap (λ x. 40 ∷ x) (closed digits rest)) (parens (reads-literal (unsigned_abs value) (41 ∷ rest) small refl))
    expr-read l (neg e) rest h ends =
        let head : _ = expr-head e h (41 ∷ rest) in
        along (ap (λ x. 40 ∷ 45 ∷ x) (closed (expr_bytes v e) rest))
        (parens (along (ap (λ x. 45 ∷ x) head.2)
        (reads-word (codes "-") (head.0 ∷ head.1) (minus-token head.0 head.1 head.3)) ▸ along (sym head.2)
        (expr-read l e (41 ∷ rest) h refl)))
    expr-read l (read leaf) rest h ends =
        parens (reads-word (codes "int64_t") (41 ∷ (leaf_bytes v leaf ++ rest))
        (record { first = 105; later = codes "nt64_t"; list = refl; piece = refl; one_line = λ line. refl })) ▸
        leaf_line-read v l leaf rest (speaks.leaf leaf h) ends
    expr-read l (binary op a b) rest h ends =
        along (ap (λ x. 40 ∷ x) (between (expr_bytes v a) (op_text op) (expr_bytes v b) rest))
        (parens (expr-read l a (32 ∷ (op_text op ++ 32 ∷ (expr_bytes v b ++ 41 ∷ rest))) h.0 refl ▸ spaced
        (reads-word (op_text op) (32 ∷ (expr_bytes v b ++ 41 ∷ rest)) (op-token op (expr_bytes v b ++ 41 ∷ rest))) ▸
        spaced (expr-read l b (41 ∷ rest) h.1 refl)))
    expr-read l (pick test a b) rest h ends =
        along (ap (λ x. 40 ∷ x) (picked (cond_bytes v test) (expr_bytes v a) (expr_bytes v b) rest))
        (parens (cond-read l test (32 ∷ 63 ∷ 32 ∷ (expr_bytes v a ++ 32 ∷ 58 ∷ 32 ∷ (expr_bytes v b ++ 41 ∷ rest)))
        h.0 ▸ spaced (sign question) ▸ spaced
        (expr-read l a (32 ∷ 58 ∷ 32 ∷ (expr_bytes v b ++ 41 ∷ rest)) h.1 refl) ▸ spaced (sign colon) ▸ spaced
        (expr-read l b (41 ∷ rest) h.2 refl)))
    expr-read l (pure k es) rest h ends =
        let name : List ℕ = pure_name v.program k in
        let named : is_name name ≡ true = (speaks.pure k h.0 h.1).0 in
        let behind : List ℕ = 40 ∷ (exprs_bytes v es ++ 41 ∷ rest) in
        along (called name (exprs_bytes v es) rest)
        (reads-line name behind (name-token name behind named refl) (reads-name name behind named refl) ▸ parens
        (exprs-read l es rest (subst (λ n. 0 < n) h.2 (speaks.pure k h.0 h.1).1) h.3))
    expr-read l (item f index) rest h ends =
        let name : List ℕ = field_name v.fields f in
        let behind : List ℕ = 91 ∷ (expr_bytes v index ++ 93 ∷ rest) in
        along (itemed name (expr_bytes v index) rest)
        (parens (reads-word (codes "int64_t") (41 ∷ 115 ∷ 45 ∷ 62 ∷ (name ++ behind))
        (record { first = 105; later = codes "nt64_t"; list = refl; piece = refl; one_line = λ line. refl })) ▸
        own_line-read l name behind (speaks.array f h.0) refl ▸ brackets (expr-read l index (93 ∷ rest) h.1 refl))

    exprs-read : (l : ℕ) (es : ExprTrees) (z : List ℕ) → 0 < exprs_length es → AreLawfulExprs reach es →
        Reads (exprs_spelling (written_exprs v (reported_number l) es)) l (exprs_bytes v es ++ 41 ∷ z) l (41 ∷ z)
    exprs-read l no_exprs z some h = absurd (omega (arith, some))
    exprs-read l (more_exprs e es) z some h =
        along (around (expr_bytes v e) (later_exprs_bytes v es) (41 ∷ z))
        (expr-read l e (later_exprs_bytes v es ++ 41 ∷ z) h.0 (later-ends v es z) ▸ later-read l es z h.1)

    later-read : (l : ℕ) (es : ExprTrees) (z : List ℕ) → AreLawfulExprs reach es →
        Reads (more_exprs_spelling (written_exprs v (reported_number l) es)) l (later_exprs_bytes v es ++ 41 ∷ z) l
        (41 ∷ z)
    later-read l no_exprs z h = reads-nothing
    later-read l (more_exprs e es) z h =
        along (ap (λ x. 44 ∷ 32 ∷ x) (around (expr_bytes v e) (later_exprs_bytes v es) (41 ∷ z)))
        (sign comma ▸ spaced (expr-read l e (later_exprs_bytes v es ++ 41 ∷ z) h.0 (later-ends v es z)) ▸ later-read
        l es z h.1)

    pub cond-read : (l : ℕ) (c : CondTree) (rest : List ℕ) → IsLawfulCond reach c →
        Reads (cond_spelling (written_cond v (reported_number l) c)) l (cond_bytes v c ++ rest) l rest
    cond-read l (compare how a b) rest h =
        along (ap (λ x. 40 ∷ x) (between (expr_bytes v a) (compare_text how) (expr_bytes v b) rest))
        (parens (expr-read l a (32 ∷ (compare_text how ++ 32 ∷ (expr_bytes v b ++ 41 ∷ rest))) h.0 refl ▸ spaced
        (reads-word (compare_text how) (32 ∷ (expr_bytes v b ++ 41 ∷ rest))
        (compare-token how (expr_bytes v b ++ 41 ∷ rest))) ▸ spaced (expr-read l b (41 ∷ rest) h.1 refl)))
    cond-read l (both a b) rest h =
        along (ap (λ x. 40 ∷ x) (both_signs (cond_bytes v a) (cond_bytes v b) rest))
        (parens (cond-read l a (32 ∷ 38 ∷ 38 ∷ 32 ∷ (cond_bytes v b ++ 41 ∷ rest)) h.0 ▸ spaced
        (reads-word (codes "&&") (32 ∷ (cond_bytes v b ++ 41 ∷ rest))
        (record { first = 38; later = 38 ∷ []; list = refl; piece = refl; one_line = λ line. refl })) ▸ spaced
        (cond-read l b (41 ∷ rest) h.1)))
    cond-read l (either a b) rest h =
        along (ap (λ x. 40 ∷ x) (either_signs (cond_bytes v a) (cond_bytes v b) rest))
        (parens (cond-read l a (32 ∷ 124 ∷ 124 ∷ 32 ∷ (cond_bytes v b ++ 41 ∷ rest)) h.0 ▸ spaced
        (reads-word (codes "||") (32 ∷ (cond_bytes v b ++ 41 ∷ rest))
        (record { first = 124; later = 124 ∷ []; list = refl; piece = refl; one_line = λ line. refl })) ▸ spaced
        (cond-read l b (41 ∷ rest) h.1)))
    cond-read l (negated a) rest h =
        let head : _ = cond-head v a (41 ∷ rest) in
        along (ap (λ x. 40 ∷ 33 ∷ x) (closed (cond_bytes v a) rest))
        (parens (along (ap (λ x. 33 ∷ x) head.1)
        (reads-word (codes "!") (40 ∷ head.0)
        (record { first = 33; later = []; list = refl; piece = refl; one_line = λ line. refl })) ▸ along
        (sym head.1) (cond-read l a (41 ∷ rest) h)))

  target-read : (l : ℕ) (target : Target) (of : ℕ) (rest : List ℕ) → IsLawfulTarget reach target of → Ends rest →
      Reads (target_spelling (written_target v target)) l (target_bytes v target ++ rest) l rest
  target-read l OwnTarget of rest h ends = reads-word (codes "s") rest (s-ends rest ends)
  target-read l (ChildTarget f) of rest h ends =
      let name : List ℕ = field_name v.fields f in
      reads-word (codes "&") (115 ∷ 45 ∷ 62 ∷ (name ++ rest))
      (record { first = 38; later = []; list = refl; piece = refl; one_line = λ line. refl }) ▸ own_start
      (reads-name name rest (speaks.instance f of h) ends)

  arguments-read : (l : ℕ) (types : List CType) (es : ExprTrees) (z : List ℕ) → AreLawfulExprs reach es →
      Reads (arguments_spelling (written_arguments v (reported_number l) types es)) l (arguments_bytes v types es ++ 41
      ∷ z) l (41 ∷ z)
  arguments-read l types no_exprs z h = reads-nothing
  arguments-read l [] (more_exprs e es) z h = reads-nothing
  arguments-read l (t ∷ types) (more_exprs e es) z h =
      along (argued (type_text t) (expr_bytes v e) (arguments_bytes v types es) (41 ∷ z))
      (sign comma ▸ spaced (cast t) ▸ expr-read l e (arguments_bytes v types es ++ 41 ∷ z) h.0
      (arguments-ends v types es z) ▸ arguments-read l types es z h.1)

  -- stores and calls, whatever follows them
  store-read : (f : ℕ) (e : ExprTree) → is_name (field_name v.fields f) ≡ true → IsLawfulExpr reach e → (l : ℕ) (z : List ℕ) →
      Reads (stmt_spelling (written_store v l f e)) l (store_bytes v f e ++ z) l z
  store-read f e named h l z =
      let name : List ℕ = field_name v.fields f in
      let type : CType = type_at (field_types v.fields) f in
      let value : List ℕ = 32 ∷ 40 ∷ (type_text type ++ 41 ∷ (expr_bytes v e ++ 59 ∷ z)) in
      let behind : List ℕ = name ++ 32 ∷ 61 ∷ value in
      along (stored name (type_text type) (expr_bytes v e) z)
      (reads-line (codes "s") (45 ∷ 62 ∷ behind) (s-token (62 ∷ behind))
      (reads-word (codes "s") (45 ∷ 62 ∷ behind) (s-token (62 ∷ behind))) ▸ reads-word (codes "->") behind
      (record { first = 45; later = 62 ∷ []; list = refl; piece = refl; one_line = λ line. refl }) ▸ reads-name
      name (32 ∷ 61 ∷ value) named refl ▸ spaced
      (reads-word (codes "=") value
      (record { first = 61; later = []; list = refl; piece = refl; one_line = λ line. refl })) ▸ spaced
      (cast type) ▸ expr-read l e (59 ∷ z) h refl ▸ sign semicolon)

  item_store-read : (f : ℕ) (index e : ExprTree) → is_name (field_name v.fields f) ≡ true → IsLawfulExpr reach index →
      IsLawfulExpr reach e → (l : ℕ) (z : List ℕ) →
      Reads (stmt_spelling (written_item_store v l f index e)) l (item_store_bytes v f index e ++ z) l z
  item_store-read f index e named i h l z =
      let name : List ℕ = field_name v.fields f in
      let type : CType = type_at (field_types v.fields) f in
      let value : List ℕ = 32 ∷ 40 ∷ (type_text type ++ 41 ∷ (expr_bytes v e ++ 59 ∷ z)) in
      let behind : List ℕ = 91 ∷ (expr_bytes v index ++ 93 ∷ 32 ∷ 61 ∷ value) in
      along (stored_at name (expr_bytes v index) (type_text type) (expr_bytes v e) z)
      (own_line-read l name behind named refl ▸ brackets
      (expr-read l index (93 ∷ 32 ∷ 61 ∷ value) i refl) ▸ spaced
      (reads-word (codes "=") value
      (record { first = 61; later = []; list = refl; piece = refl; one_line = λ line. refl })) ▸ spaced
      (cast type) ▸ expr-read l e (59 ∷ z) h refl ▸ sign semicolon)

  call-read : (k of : ℕ) (target : Target) (es : ExprTrees) → is_name (procedure_name v.program k) ≡ true →
      IsLawfulTarget reach target of → AreLawfulExprs reach es → (l : ℕ) (z : List ℕ) →
      Reads (stmt_spelling (written_call v l k target es)) l (call_bytes v k target es ++ z) l z
  call-read k of target es named on h l z =
      let name : List ℕ = procedure_name v.program k in
      let types : List CType = procedure_types v.program k in
      let arguments : List ℕ = arguments_bytes v types es ++ 41 ∷ 59 ∷ z in
      let behind : List ℕ = 40 ∷ (target_bytes v target ++ arguments) in
      along (invoked name (target_bytes v target) (arguments_bytes v types es) z)
      (reads-line name behind (name-token name behind named refl) (reads-name name behind named refl) ▸ parens
      (target-read l target of arguments on (arguments-ends v types es (59 ∷ z)) ▸ arguments-read l
      types es (59 ∷ z) h) ▸ sign semicolon)

  module _ (notes : List (List ℕ)) where
    abbrev above : Above
    above = stmt_above notes v

    mutual
      pub stmt-read : (l margin : ℕ) (s : StmtTree) (rest : List ℕ) → IsLawfulStmt reach s →
          Reads (stmt_spelling (written_stmt above v margin l s)) l (noted_stmt_bytes notes v margin s ++ rest)
          (l + stmt_lines above margin s) rest
      stmt-read l margin (assign own f e) rest h =
          ending (omega arith)
          (noted-read (λ k. stmt_spelling (written_store v k f e)) margin (store_bytes v f e)
          (store-read f e (speaks.number f h.0) h.1) (note_at notes f) l rest)
      stmt-read l margin (assign_at own f index e) rest h =
          ending (omega arith)
          (noted-read (λ k. stmt_spelling (written_item_store v k f index e)) margin (item_store_bytes v f index e)
          (item_store-read f index e (speaks.array f h.0) h.1 h.2) (note_at notes f) l rest)
      stmt-read l margin (branch own test on_true no_stmts) rest h =
          let close : List ℕ = margin_bytes margin ++ 125 ∷ 10 ∷ rest in
          let first : List ℕ = noted_stmts_bytes notes v (deeper margin) on_true in
          along (tested (margin_bytes margin) (cond_bytes v test) first [] rest)
          (margined margin
          (ending (omega arith)
          (line_ended
          (if-read l (cond_bytes v test ++ 32 ∷ 123 ∷ 10 ∷ (first ++ close)) ▸ spaced
          (cond-read l test (32 ∷ 123 ∷ 10 ∷ (first ++ close)) h.0) ▸ spaced
          (braces (lined (margin_passed margin (stmts-read (l + 1) (deeper margin) on_true close h.1))))))))
      stmt-read l margin (branch own test on_true (more_stmts s ss)) rest h =
          let close : List ℕ = margin_bytes margin ++ 125 ∷ 10 ∷ rest in
          let k : ℕ = else_line above margin l on_true in
          let one : List ℕ = noted_stmt_bytes notes v (deeper margin) s in
          let later : List ℕ = noted_stmts_bytes notes v (deeper margin) ss in
          let second : List ℕ = one ++ (later ++ close) in
          let middle : List ℕ = margin_bytes margin ++ 125 ∷ 32 ∷ 101 ∷ 108 ∷ 115 ∷ 101 ∷ 32 ∷ 123 ∷ 10 ∷ second in
          let first : List ℕ = noted_stmts_bytes notes v (deeper margin) on_true in
          along (tested (margin_bytes margin) (cond_bytes v test) first (noted_else_bytes notes v margin (more_stmts s ss)) rest
          ∙ ap (λ x. margin_bytes margin ++ 105 ∷ 102 ∷ 32 ∷ (cond_bytes v test ++ 32 ∷ 123 ∷ 10 ∷ (first ++ x)))
          (otherwise (margin_bytes margin) one later close))
          (margined margin
          (ending (omega arith)
          (line_ended
          (if-read l (cond_bytes v test ++ 32 ∷ 123 ∷ 10 ∷ (first ++ middle)) ▸ spaced
          (cond-read l test (32 ∷ 123 ∷ 10 ∷ (first ++ middle)) h.0) ▸ spaced
          (braces (lined (margin_passed margin (stmts-read (l + 1) (deeper margin) on_true middle h.1)))) ▸ spaced
          (reads-word (codes "else") (32 ∷ 123 ∷ 10 ∷ second)
          (record { first = 101; later = codes "lse"; list = refl; piece = refl; one_line = λ line. refl })) ▸ spaced
          (braces (lined
          (margin_passed margin
          (stmt-read k (deeper margin) s (later ++ close) h.2.0 ▸ stmts-read
          (k + stmt_lines above (deeper margin) s) (deeper margin) ss close h.2.1))))))))
      stmt-read l margin (call own k target es) rest h =
          ending (omega arith)
          (noted-read (λ j. stmt_spelling (written_call v j k target es)) margin (call_bytes v k target es)
          (call-read k h.0.of target es (speaks.procedure k h.0 h.1).0 h.2 h.4) (target_note notes target) l rest)

      pub stmts-read : (l margin : ℕ) (ss : StmtTrees) (rest : List ℕ) → AreLawfulStmts reach ss →
          Reads (stmts_spelling (written_stmts above v margin l ss)) l (noted_stmts_bytes notes v margin ss ++ rest)
          (l + stmts_lines above margin ss) rest
      stmts-read l margin no_stmts rest h = ending (omega arith) reads-nothing
      stmts-read l margin (more_stmts s ss) rest h =
          along (around (noted_stmt_bytes notes v margin s) (noted_stmts_bytes notes v margin ss) rest)
          (ending (omega arith) (stmt-read l margin s (noted_stmts_bytes notes v margin ss ++ rest) h.0 ▸ stmts-read
          (l + stmt_lines above margin s) margin ss rest h.1))
