-- What is spelled takes a token at least.
use Rattle.std.proofs.Common.{ℕ, pos, negsuc, ◌^◌, ◌<◌, ◌≤◌, List, [], ◌∷◌, length, Bool, true, false, codes, decimal, nat_lt, if◌then◌else◌, arith}
use Rattle.c_grammar.specs.Grammar.{Spelling, ◌⨾◌, word, never, literal_word, in_parens}
use Rattle.c_grammar.proofs.lemmas.PrefixLaws.{seq-parts}
use Rattle.c_grammar.proofs.lemmas.Shrinking.{Shrinks, ◌▹◌, word-shrinks, nothing-shrinks, parens-shrink, all-shrink, Takes, ◌▸◌, word-takes, line-takes}
use Rattle.lustre_syntax.specs.Names.{is_lustre_name}
use Rattle.lustre_syntax.specs.Tree.{number, truth, name, negative, negation, two, choice, arrow, previous}
use Rattle.lustre_grammar.specs.Written.{Word, WrittenExpr, WrittenEquation, set, call, WrittenDeclared, WrittenNode}
use Rattle.lustre_grammar.specs.Grammar.{name_word, read_word, truth_text, type_text, op_text, expr_spelling, each_after, parted_by, declared_spelling, given_spelling, arguments_spelling, equation_spelling, ports_spelling, other_spelling, others_spelling, node_spelling}

-- what is left by one that takes a token is no longer
pub takes-shrinks : {a : Spelling} → Takes a → Shrinks a
takes-shrinks a = record { by = λ tokens rest h. let fewer : length rest < length tokens = a.by tokens rest h in omega arith }

pub then-takes : {a b : Spelling} → Shrinks a → Takes b → Takes (a ⨾ b)
then-takes {a} {b} first second = record {
  by = λ tokens rest h. let p : _ = seq-parts a b tokens rest h in let one : length p.0 ≤ length tokens =
      first.by tokens p.0 p.1 in let two : length rest < length p.0 = second.by p.0 rest p.2 in omega arith;
}

never-takes : Takes never
never-takes = record { by = λ tokens rest h. cc h }

pub name-takes : (text : List ℕ) → Takes (name_word text)
name-takes text = by (is_lustre_name text)
  where
    by : (b : Bool) → Takes (if b then word text else never)
    by true = word-takes text
    by false = never-takes

pub read-takes : (w : Word) → Takes (read_word w)
read-takes w = line-takes w.line (name-takes w.text)

parens-take : {a : Spelling} → Shrinks a → Takes (in_parens a)
parens-take inner = word-takes (codes "(") ▸ inner ▹ word-shrinks (codes ")")

literal-takes : (v : ℕ) → Takes (literal_word v)
literal-takes v = by (nat_lt v (2 ^ 63))
  where
    by : (b : Bool) → Takes (if b then word (decimal v) else never)
    by true = word-takes (decimal v)
    by false = never-takes

pub expr-takes : (e : WrittenExpr) → Takes (expr_spelling e)
expr-takes (number (pos n)) = literal-takes n
expr-takes (number (negsuc n)) = never-takes
expr-takes (truth value) = word-takes (truth_text value)
expr-takes (name w) = read-takes w
expr-takes (negative a) = parens-take (word-shrinks (codes "-") ▹ takes-shrinks (expr-takes a))
expr-takes (negation a) = parens-take (word-shrinks (codes "not") ▹ takes-shrinks (expr-takes a))
expr-takes (two op a b) =
    parens-take (takes-shrinks (expr-takes a) ▹ word-shrinks (op_text op) ▹ takes-shrinks (expr-takes b))
expr-takes (choice test a b) =
    parens-take (word-shrinks (codes "if") ▹ takes-shrinks (expr-takes test) ▹ word-shrinks (codes "then") ▹ takes-shrinks
    (expr-takes a) ▹ word-shrinks (codes "else") ▹ takes-shrinks (expr-takes b))
expr-takes (arrow a b) =
    parens-take (takes-shrinks (expr-takes a) ▹ word-shrinks (codes "->") ▹ takes-shrinks (expr-takes b))
expr-takes (previous w) = parens-take (word-shrinks (codes "pre") ▹ takes-shrinks (read-takes w))

each-shrink : {A : Type 0} (mark : List ℕ) {spelling : A → Spelling} → ((x : A) → Shrinks (spelling x)) → (xs : List A) →
    Shrinks (each_after mark spelling xs)
each-shrink mark each [] = nothing-shrinks
each-shrink mark each (x ∷ xs) = word-shrinks mark ▹ each x ▹ each-shrink mark each xs

parted-shrink : {A : Type 0} (mark : List ℕ) {spelling : A → Spelling} → ((x : A) → Shrinks (spelling x)) → (xs : List A) →
    Shrinks (parted_by mark spelling xs)
parted-shrink mark each [] = nothing-shrinks
parted-shrink mark each (x ∷ xs) = each x ▹ each-shrink mark each xs

pub declared-takes : (d : WrittenDeclared) → Takes (declared_spelling d)
declared-takes d = line-takes d.line (name-takes d.text) ▸ word-shrinks (codes ":") ▹ word-shrinks (type_text d.type)

given-shrinks : (texts : List (List ℕ)) → Shrinks (given_spelling texts)
given-shrinks texts = parted-shrink (codes ",") (λ text. takes-shrinks (name-takes text)) texts

arguments-shrink : (values : List WrittenExpr) → Shrinks (arguments_spelling values)
arguments-shrink values = parens-shrink (parted-shrink (codes ",") (λ e. takes-shrinks (expr-takes e)) values)

pub equation-takes : (e : WrittenEquation) → Takes (equation_spelling e)
equation-takes (set line given value) =
    line-takes line (name-takes given) ▸ word-shrinks (codes "=") ▹ takes-shrinks (expr-takes value) ▹ word-shrinks (codes ";")
equation-takes (call line given callee values) =
    line-takes line (then-takes (given-shrinks given) (word-takes (codes "="))) ▸ word-shrinks
    (codes "call") ▹ takes-shrinks (name-takes callee) ▹ arguments-shrink values ▹ word-shrinks (codes ";")

ports-shrink : (ds : List WrittenDeclared) → Shrinks (ports_spelling ds)
ports-shrink ds = parens-shrink (parted-shrink (codes ";") (λ d. takes-shrinks (declared-takes d)) ds)

other-shrinks : (d : WrittenDeclared) → Shrinks (other_spelling d)
other-shrinks d = takes-shrinks (declared-takes d) ▹ word-shrinks (codes ";")

others-shrink : (ds : List WrittenDeclared) → Shrinks (others_spelling ds)
others-shrink [] = nothing-shrinks
others-shrink (d ∷ ds) = word-shrinks (codes "var") ▹ other-shrinks d ▹ all-shrink other-shrinks ds

pub node-takes : (n : WrittenNode) → Takes (node_spelling n)
node-takes n =
    line-takes n.line (word-takes (codes "node")) ▸ takes-shrinks
    (name-takes n.text) ▹ ports-shrink n.inputs ▹ word-shrinks (codes "returns") ▹ ports-shrink n.outputs ▹ word-shrinks
    (codes ";") ▹ others-shrink n.others ▹ word-shrinks (codes "let") ▹ all-shrink
    (λ e. takes-shrinks (equation-takes e)) n.equations ▹ word-shrinks (codes "tel") ▹ word-shrinks (codes ";")
