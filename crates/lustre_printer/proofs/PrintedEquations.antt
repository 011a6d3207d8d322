-- Printed expressions and equations spell what they are printed from.
use Rattle.std.proofs.Common.{◌≡◌, refl, sym, subst, ℕ, ◌+◌, ◌<◌, List, [], ◌∷◌, ◌++◌, Bool, true, false, map, unsigned_abs, decimal, codes}
use Rattle.std.specs.Prelude.{⊤}
use Rattle.std.specs.List.{AllByRecursion}
use Rattle.std.proofs.lemmas.List.{append_assoc}
use Rattle.base_core.specs.Numbers.{reported_number}
use Rattle.c_syntax.specs.Names.{name_at}
use Rattle.c_grammar.specs.Grammar.{◌⨾◌, word, at_line}
use Rattle.lustre_syntax.specs.Names.{is_lustre_name}
use Rattle.lustre_syntax.specs.Tree.{ExprTree, number, truth, name, negative, negation, two, choice, arrow, previous, EquationTree, set, call, names_read, given_by, expressions_of}
use Rattle.lustre_syntax.specs.declared.code.LusOp.TheVariants.{Eq, Sub}
use Rattle.lustre_syntax.specs.Lawful.{HasLiterals}
use Rattle.lustre_grammar.specs.Grammar.{truth_text, op_text, number_word, expr_spelling, given_spelling, equation_spelling, name_word}
use Rattle.lustre_printer.specs.Printing.{expr_bytes, parted, equation_bytes}
use Rattle.lustre_printer.proofs.Lexing.{Ends, name-token}
use Rattle.lustre_printer.proofs.PrintedTrees.{written_expr, written_equation}
use Rattle.lustre_printer.proofs.TextReading.{Reads, ◌▸◌, along, reads-nothing, spaced, line_ended, reads-word, reads-line, keyword, reads-name, reads-name_line, reads-literal, semicolon, comma, open_paren, close_paren, sign, ends-space, ends-sign, parens, op-token, arrow-token, later_text, ends-later, parted-read}

pub all-front : {A : Type 0} (P : A → Type 0) (xs ys : List A) → AllByRecursion P (xs ++ ys) → AllByRecursion P xs
all-front P [] ys h = tt
all-front P (x ∷ xs) ys h = (h.0, all-front P xs ys h.1)

pub all-back : {A : Type 0} (P : A → Type 0) (xs ys : List A) → AllByRecursion P (xs ++ ys) → AllByRecursion P ys
all-back P [] ys h = h
all-back P (x ∷ xs) ys h = all-back P xs ys h.1

truth-read : {l : ℕ} (value : Bool) (rest : List ℕ) → Ends rest → Reads (word (truth_text value)) l (truth_text value ++ rest) l rest
truth-read true rest ends = keyword (codes "true") rest refl refl ends
truth-read false rest ends = keyword (codes "false") rest refl refl ends

-- the sign of an equation, before a space
equals : {l : ℕ} (rest : List ℕ) → Reads (word (codes "=")) l (61 ∷ 32 ∷ rest) l (32 ∷ rest)
equals rest = reads-word (codes "=") (32 ∷ rest) (op-token Eq rest)

-- regrouped texts
pub enclosed : (front a z : List ℕ) → ((front ++ a) ++ codes ")") ++ z ≡ front ++ (a ++ 41 ∷ z)
enclosed front a z = simp append_assoc

joined : (a op b z : List ℕ) → ((((((codes "(" ++ a) ++ codes " ") ++ op) ++ codes " ") ++ b) ++ codes ")") ++ z
    ≡ 40 ∷ (a ++ 32 ∷ (op ++ 32 ∷ (b ++ 41 ∷ z)))
joined a op b z = simp append_assoc

arrowed : (a b z : List ℕ) → ((((codes "(" ++ a) ++ codes " -> ") ++ b) ++ codes ")") ++ z
    ≡ 40 ∷ (a ++ 32 ∷ (codes "->" ++ 32 ∷ (b ++ 41 ∷ z)))
arrowed a b z = simp append_assoc

chosen : (test a b z : List ℕ) → ((((((codes "(if " ++ test) ++ codes " then ") ++ a) ++ codes " else ") ++ b) ++ codes ")") ++ z
    ≡ 40 ∷ (codes "if" ++ 32 ∷ (test ++ 32 ∷ (codes "then" ++ 32 ∷ (a ++ 32 ∷ (codes "else" ++ 32 ∷ (b ++ 41 ∷ z))))))
chosen test a b z = simp append_assoc

-- a node has so many names
module _ (names : List (List ℕ)) (count : ℕ) (named : (k : ℕ) → k < count → is_lustre_name (name_at names k) ≡ true) where
  -- an expression of such a node
  pub record CanBePrinted (e : ExprTree) : Type 0 where
    pub reads : AllByRecursion (λ k. k < count) (names_read e)
    pub literals : HasLiterals e

  pub expr-read : (l : ℕ) (e : ExprTree) → CanBePrinted e → (rest : List ℕ) → Ends rest →
      Reads (expr_spelling (written_expr names (reported_number l) e)) l (expr_bytes names e ++ rest) l rest
  expr-read l (number value) h rest ends =
      subst (λ v. Reads (number_word v) l (decimal (unsigned_abs v) ++ rest) l rest) (sym h.literals.1)
      (reads-literal h.literals.0 rest h.literals.2 ends)
  expr-read l (truth value) h rest ends = truth-read value rest ends
  expr-read l (name k) h rest ends = reads-name_line (name_at names k) rest (named k h.reads.0) ends
  expr-read l (negative a) h rest ends =
      along (enclosed (codes "(- ") (expr_bytes names a) rest)
      (parens
      (reads-word (codes "-") (32 ∷ (expr_bytes names a ++ 41 ∷ rest)) (op-token Sub (expr_bytes names a ++ 41 ∷ rest)) ▸
      spaced (expr-read l a (record { reads = h.reads; literals = h.literals }) (41 ∷ rest) (ends-sign close_paren rest))))
  expr-read l (negation a) h rest ends =
      along (enclosed (codes "(not ") (expr_bytes names a) rest)
      (parens
      (keyword (codes "not") (32 ∷ (expr_bytes names a ++ 41 ∷ rest)) refl refl (ends-space (expr_bytes names a ++ 41 ∷ rest)) ▸
      spaced (expr-read l a (record { reads = h.reads; literals = h.literals }) (41 ∷ rest) (ends-sign close_paren rest))))
  expr-read l (two op a b) h rest ends =
      let tail : List ℕ = expr_bytes names b ++ 41 ∷ rest in
      along (joined (expr_bytes names a) (op_text op) (expr_bytes names b) rest)
      (parens
      (expr-read l a (left a b h.reads h.literals.0) (32 ∷ (op_text op ++ 32 ∷ tail)) (ends-space (op_text op ++ 32 ∷ tail)) ▸
      spaced (reads-word (op_text op) (32 ∷ tail) (op-token op tail)) ▸
      spaced (expr-read l b (right a b h.reads h.literals.1) (41 ∷ rest) (ends-sign close_paren rest))))
    where
      left : (a b : ExprTree) → AllByRecursion (λ k. k < count) (names_read a ++ names_read b) → HasLiterals a → CanBePrinted a
      left a b reads literals = record { reads = all-front (λ k. k < count) (names_read a) (names_read b) reads; literals = literals }

      right : (a b : ExprTree) → AllByRecursion (λ k. k < count) (names_read a ++ names_read b) → HasLiterals b → CanBePrinted b
      right a b reads literals = record { reads = all-back (λ k. k < count) (names_read a) (names_read b) reads; literals = literals }
  expr-read l (choice test a b) h rest ends =
      let within : ℕ → Type 0 = λ k. k < count in
      let front : AllByRecursion within (names_read test ++ names_read a) =
      all-front within (names_read test ++ names_read a) (names_read b) h.reads in
      let of_test : CanBePrinted test =
      record { reads = all-front within (names_read test) (names_read a) front; literals = h.literals.0 } in
      let of_a : CanBePrinted a =
      record { reads = all-back within (names_read test) (names_read a) front; literals = h.literals.1 } in
      let of_b : CanBePrinted b =
      record { reads = all-back within (names_read test ++ names_read a) (names_read b) h.reads; literals = h.literals.2 } in
      let after_else : List ℕ = expr_bytes names b ++ 41 ∷ rest in
      let after_then : List ℕ = expr_bytes names a ++ 32 ∷ (codes "else" ++ 32 ∷ after_else) in
      let after_if : List ℕ = expr_bytes names test ++ 32 ∷ (codes "then" ++ 32 ∷ after_then) in
      along (chosen (expr_bytes names test) (expr_bytes names a) (expr_bytes names b) rest)
      (parens
      (keyword (codes "if") (32 ∷ after_if) refl refl (ends-space after_if) ▸
      spaced (expr-read l test of_test (32 ∷ (codes "then" ++ 32 ∷ after_then)) (ends-space (codes "then" ++ 32 ∷ after_then))) ▸
      spaced (keyword (codes "then") (32 ∷ after_then) refl refl (ends-space after_then)) ▸
      spaced (expr-read l a of_a (32 ∷ (codes "else" ++ 32 ∷ after_else)) (ends-space (codes "else" ++ 32 ∷ after_else))) ▸
      spaced (keyword (codes "else") (32 ∷ after_else) refl refl (ends-space after_else)) ▸
      spaced (expr-read l b of_b (41 ∷ rest) (ends-sign close_paren rest))))
  expr-read l (arrow a b) h rest ends =
      let within : ℕ → Type 0 = λ k. k < count in
      let of_a : CanBePrinted a = record { reads = all-front within (names_read a) (names_read b) h.reads; literals = h.literals.0 } in
      let of_b : CanBePrinted b = record { reads = all-back within (names_read a) (names_read b) h.reads; literals = h.literals.1 } in
      let tail : List ℕ = expr_bytes names b ++ 41 ∷ rest in
      along (arrowed (expr_bytes names a) (expr_bytes names b) rest)
      (parens
      (expr-read l a of_a (32 ∷ (codes "->" ++ 32 ∷ tail)) (ends-space (codes "->" ++ 32 ∷ tail)) ▸
      spaced (reads-word (codes "->") (32 ∷ tail) (arrow-token tail)) ▸
      spaced (expr-read l b of_b (41 ∷ rest) (ends-sign close_paren rest))))
  expr-read l (previous k) h rest ends =
      along (enclosed (codes "(pre ") (name_at names k) rest)
      (parens
      (keyword (codes "pre") (32 ∷ (name_at names k ++ 41 ∷ rest)) refl refl (ends-space (name_at names k ++ 41 ∷ rest)) ▸
      spaced (reads-name_line (name_at names k) (41 ∷ rest) (named k h.reads.0) (ends-sign close_paren rest))))

  -- the names that an equation gives and the `=` after them, on one line
  given-read : (l : ℕ) (given : List ℕ) → AllByRecursion (λ k. k < count) given → (rest : List ℕ) →
      Reads (at_line (reported_number l) (given_spelling (map (name_at names) given) ⨾ word (codes "="))) l
      (parted (codes ", ") (map (name_at names) given) ++ 32 ∷ 61 ∷ 32 ∷ rest) l (32 ∷ rest)
  given-read l [] h rest = spaced (reads-line (codes "=") (32 ∷ rest) (op-token Eq rest) (reads-nothing ▸ equals rest))
  given-read l (k ∷ ks) h rest =
      let later : List ℕ = later_text comma (name_at names) name_word (name_at names) within l one ks in
      let end : List ℕ = 32 ∷ 61 ∷ 32 ∷ rest in
      let tail : List ℕ = later ++ end in
      along (append_assoc (name_at names k) later end)
      (reads-line (name_at names k) tail
      (name-token (name_at names k) tail (named k h.0)
      (ends-later comma (name_at names) name_word (name_at names) within l one ks end (ends-space (61 ∷ 32 ∷ rest))))
      (along (sym (append_assoc (name_at names k) later end))
      (parted-read comma (name_at names) name_word (name_at names) within l one (k ∷ ks) h end (ends-space (61 ∷ 32 ∷ rest)) ▸
      spaced (equals rest))))
    where
      within : ℕ → Type 0
      within k = k < count

      one : (k : ℕ) → within k → (rest : List ℕ) → Ends rest → Reads (name_word (name_at names k)) l (name_at names k ++ rest) l rest
      one k h rest ends = reads-name (name_at names k) rest (named k h) ends

  set_shape : (n e z : List ℕ) → (((n ++ codes " = ") ++ e) ++ codes ";\n") ++ z ≡ n ++ 32 ∷ 61 ∷ 32 ∷ (e ++ 59 ∷ 10 ∷ z)
  set_shape n e z = simp append_assoc

  call_shape : (g c v z : List ℕ) → (((((g ++ codes " = call ") ++ c) ++ codes "(") ++ v) ++ codes ");\n") ++ z
      ≡ g ++ 32 ∷ 61 ∷ 32 ∷ (codes "call" ++ 32 ∷ (c ++ 40 ∷ (v ++ 41 ∷ 59 ∷ 10 ∷ z)))
  call_shape g c v z = simp append_assoc

  -- the callee of an equation is named
  abbrev pub HasCallee : List (List ℕ) → EquationTree → Type 0
  HasCallee nodes (set line given value) = ⊤
  HasCallee nodes (call line given callee values) = is_lustre_name (name_at nodes callee) ≡ true

  pub equation-read : (nodes : List (List ℕ)) (l : ℕ) (e : EquationTree) → AllByRecursion (λ k. k < count) (given_by e) →
      AllByRecursion CanBePrinted (expressions_of e) → HasCallee nodes e → (rest : List ℕ) →
      Reads (equation_spelling (written_equation nodes names (reported_number l) e)) l (equation_bytes nodes names e ++ rest) (l + 1) rest
  equation-read nodes l (set line given value) within fine callee rest =
      let tail : List ℕ = 61 ∷ 32 ∷ (expr_bytes names value ++ 59 ∷ 10 ∷ rest) in
      along (set_shape (name_at names given) (expr_bytes names value) rest)
      (line_ended
      (reads-name_line (name_at names given) (32 ∷ tail) (named given within.0) (ends-space tail) ▸
      spaced (equals (expr_bytes names value ++ 59 ∷ 10 ∷ rest)) ▸
      spaced (expr-read l value fine.0 (59 ∷ 10 ∷ rest) (ends-sign semicolon (10 ∷ rest))) ▸ sign semicolon))
  equation-read nodes l (call line given callee values) within fine named_callee rest =
      let arguments : List ℕ = parted (codes ", ") (map (expr_bytes names) values) ++ 41 ∷ 59 ∷ 10 ∷ rest in
      let tail : List ℕ = codes "call" ++ 32 ∷ (name_at nodes callee ++ 40 ∷ arguments) in
      along (call_shape (parted (codes ", ") (map (name_at names) given)) (name_at nodes callee)
      (parted (codes ", ") (map (expr_bytes names) values)) rest)
      (line_ended
      (given-read l given within tail ▸
      spaced (keyword (codes "call") (32 ∷ (name_at nodes callee ++ 40 ∷ arguments)) refl refl
      (ends-space (name_at nodes callee ++ 40 ∷ arguments))) ▸
      spaced (reads-name (name_at nodes callee) (40 ∷ arguments) named_callee (ends-sign open_paren arguments)) ▸
      parens (parted-read comma (expr_bytes names) expr_spelling (written_expr names (reported_number l)) CanBePrinted l (expr-read l)
      values fine (41 ∷ 59 ∷ 10 ∷ rest) (ends-sign close_paren (59 ∷ 10 ∷ rest))) ▸ sign semicolon))
