-- What the grammar says of a written file itself: its names are names, and its numbers have at most 63 bits.
use Rattle.std.proofs.Common.{◌≡◌, refl, ℕ, ℤ, pos, negsuc, suc, ◌^◌, ◌<◌, List, [], ◌∷◌, Some, Bool, true, false, if◌then◌else◌, nat_lt, decimal, codes, leb-true}
use Rattle.std.specs.List.{AllByRecursion}
use Rattle.c_grammar.specs.Tokens.{Token}
use Rattle.c_grammar.specs.Grammar.{Spelling, ◌⨾◌, never, word, at_line, literal_word, all_spelling, some_spelling}
use Rattle.c_grammar.proofs.lemmas.PrefixLaws.{parens-parts, seq-parts, at_line-inner}
use Rattle.lustre_syntax.specs.Names.{is_lustre_name}
use Rattle.lustre_syntax.specs.Tree.{number, truth, name, negative, negation, two, choice, arrow, previous}
use Rattle.lustre_syntax.specs.Lawful.{HasLiterals}
use Rattle.lustre_grammar.specs.Written.{WrittenExpr, WrittenEquation, set, call, WrittenDeclared, WrittenNode, WrittenFile}
use Rattle.lustre_grammar.specs.Grammar.{name_word, type_text, op_text, number_word, expr_spelling, each_after, parted_by, declared_spelling, given_spelling, arguments_spelling, equation_spelling, ports_spelling, other_spelling, others_spelling, node_spelling, Spells}

-- each name in a list of declared ones is lawful
abbrev pub AreNamed : List WrittenDeclared → Type 0
AreNamed ds = AllByRecursion (λ d. is_lustre_name d.text ≡ true) ds

-- each number of an equation is one that a literal has
abbrev pub HasSmall : WrittenEquation → Type 0
HasSmall (set line given value) = HasLiterals value
HasSmall (call line given callee values) = AllByRecursion HasLiterals values

pub record WellNode (n : WrittenNode) : Type 0 where
  pub name : is_lustre_name n.text ≡ true
  pub inputs : AreNamed n.inputs
  pub outputs : AreNamed n.outputs
  pub others : AreNamed n.others
  pub equations : AllByRecursion HasSmall n.equations

literal-small : (value : ℕ) (tokens rest : List Token) → literal_word value tokens ≡ Some rest → value < 2 ^ 63
literal-small value tokens rest h = by (nat_lt value (2 ^ 63)) refl h
  where
    by : (b : Bool) → nat_lt value (2 ^ 63) ≡ b → (if b then word (decimal value) else never) tokens ≡ Some rest → value < 2 ^ 63
    by true e k = leb-true (suc value) (2 ^ 63) e
    by false e k = cc

number-small : (value : ℤ) (tokens rest : List Token) → number_word value tokens ≡ Some rest → HasLiterals {N = ℕ} (number value)
number-small (pos n) tokens rest h = (n, refl, literal-small n tokens rest h)
number-small (negsuc n) tokens rest h = cc

name-lawful : (text : List ℕ) (tokens rest : List Token) → name_word text tokens ≡ Some rest → is_lustre_name text ≡ true
name-lawful text tokens rest h = by (is_lustre_name text) refl h
  where
    by : (b : Bool) → is_lustre_name text ≡ b → (if b then word text else never) tokens ≡ Some rest → is_lustre_name text ≡ true
    by true e k = e
    by false e k = cc

expr-small : (e : WrittenExpr) (tokens rest : List Token) → expr_spelling e tokens ≡ Some rest → HasLiterals e
expr-small (number value) tokens rest h = number-small value tokens rest h
expr-small (truth value) tokens rest h = tt
expr-small (name w) tokens rest h = tt
expr-small (negative a) tokens rest h =
    let q : _ = parens-parts (word (codes "-") ⨾ expr_spelling a) tokens rest h in
    let p : _ = seq-parts (word (codes "-")) (expr_spelling a) q.inner q.behind q.body in
    expr-small a p.0 q.behind p.2
expr-small (negation a) tokens rest h =
    let q : _ = parens-parts (word (codes "not") ⨾ expr_spelling a) tokens rest h in
    let p : _ = seq-parts (word (codes "not")) (expr_spelling a) q.inner q.behind q.body in
    expr-small a p.0 q.behind p.2
expr-small (two op a b) tokens rest h =
    let q : _ = parens-parts (expr_spelling a ⨾ word (op_text op) ⨾ expr_spelling b) tokens rest h in
    let p : _ = seq-parts (expr_spelling a) (word (op_text op) ⨾ expr_spelling b) q.inner q.behind q.body in
    let r : _ = seq-parts (word (op_text op)) (expr_spelling b) p.0 q.behind p.2 in
    (expr-small a q.inner p.0 p.1, expr-small b r.0 q.behind r.2)
expr-small (choice test a b) tokens rest h =
    let q : _ =
    parens-parts (word (codes "if") ⨾ expr_spelling test ⨾ word (codes "then") ⨾ expr_spelling a
    ⨾ word (codes "else") ⨾ expr_spelling b) tokens rest h in
    let o : _ =
    seq-parts (word (codes "if")) (expr_spelling test ⨾ word (codes "then") ⨾ expr_spelling a ⨾ word (codes "else")
    ⨾ expr_spelling b) q.inner q.behind q.body in
    let p : _ =
    seq-parts (expr_spelling test) (word (codes "then") ⨾ expr_spelling a ⨾ word (codes "else") ⨾ expr_spelling b)
    o.0 q.behind o.2 in
    let r : _ = seq-parts (word (codes "then")) (expr_spelling a ⨾ word (codes "else") ⨾ expr_spelling b) p.0 q.behind p.2 in
    let t : _ = seq-parts (expr_spelling a) (word (codes "else") ⨾ expr_spelling b) r.0 q.behind r.2 in
    let u : _ = seq-parts (word (codes "else")) (expr_spelling b) t.0 q.behind t.2 in
    (expr-small test o.0 p.0 p.1, expr-small a r.0 t.0 t.1, expr-small b u.0 q.behind u.2)
expr-small (arrow a b) tokens rest h =
    let q : _ = parens-parts (expr_spelling a ⨾ word (codes "->") ⨾ expr_spelling b) tokens rest h in
    let p : _ = seq-parts (expr_spelling a) (word (codes "->") ⨾ expr_spelling b) q.inner q.behind q.body in
    let r : _ = seq-parts (word (codes "->")) (expr_spelling b) p.0 q.behind p.2 in
    (expr-small a q.inner p.0 p.1, expr-small b r.0 q.behind r.2)
expr-small (previous w) tokens rest h = tt

-- what holds of each thing in a list that is spelled
module _ {A : Type 0} (spelling : A → Spelling) (Well : A → Type 0)
    (one : (x : A) (tokens rest : List Token) → spelling x tokens ≡ Some rest → Well x) where
  each-well : (mark : List ℕ) (xs : List A) (tokens rest : List Token) →
      each_after mark spelling xs tokens ≡ Some rest → AllByRecursion Well xs
  each-well mark [] tokens rest h = tt
  each-well mark (x ∷ xs) tokens rest h =
      let p : _ = seq-parts (word mark) (spelling x ⨾ each_after mark spelling xs) tokens rest h in
      let q : _ = seq-parts (spelling x) (each_after mark spelling xs) p.0 rest p.2 in
      (one x p.0 q.0 q.1, each-well mark xs q.0 rest q.2)

  parted-well : (mark : List ℕ) (xs : List A) (tokens rest : List Token) →
      parted_by mark spelling xs tokens ≡ Some rest → AllByRecursion Well xs
  parted-well mark [] tokens rest h = tt
  parted-well mark (x ∷ xs) tokens rest h =
      let q : _ = seq-parts (spelling x) (each_after mark spelling xs) tokens rest h in
      (one x tokens q.0 q.1, each-well mark xs q.0 rest q.2)

  all-well : (xs : List A) (tokens rest : List Token) → all_spelling spelling xs tokens ≡ Some rest → AllByRecursion Well xs
  all-well [] tokens rest h = tt
  all-well (x ∷ xs) tokens rest h =
      let q : _ = seq-parts (spelling x) (all_spelling spelling xs) tokens rest h in
      (one x tokens q.0 q.1, all-well xs q.0 rest q.2)

declared-named : (d : WrittenDeclared) (tokens rest : List Token) → declared_spelling d tokens ≡ Some rest →
    is_lustre_name d.text ≡ true
declared-named d tokens rest h =
    let p : _ = seq-parts (at_line d.line (name_word d.text)) (word (codes ":") ⨾ word (type_text d.type)) tokens rest h in
    name-lawful d.text tokens p.0 (at_line-inner d.line (name_word d.text) tokens p.0 p.1)

ports-named : (ds : List WrittenDeclared) (tokens rest : List Token) → ports_spelling ds tokens ≡ Some rest → AreNamed ds
ports-named ds tokens rest h =
    let q : _ = parens-parts (parted_by (codes ";") declared_spelling ds) tokens rest h in
    parted-well declared_spelling (λ d. is_lustre_name d.text ≡ true) declared-named (codes ";") ds q.inner q.behind q.body

other-named : (d : WrittenDeclared) (tokens rest : List Token) → other_spelling d tokens ≡ Some rest → is_lustre_name d.text ≡ true
other-named d tokens rest h =
    let p : _ = seq-parts (declared_spelling d) (word (codes ";")) tokens rest h in
    declared-named d tokens p.0 p.1

others-named : (ds : List WrittenDeclared) (tokens rest : List Token) → others_spelling ds tokens ≡ Some rest → AreNamed ds
others-named [] tokens rest h = tt
others-named (d ∷ ds) tokens rest h =
    let p : _ = seq-parts (word (codes "var")) (other_spelling d ⨾ all_spelling other_spelling ds) tokens rest h in
    let q : _ = seq-parts (other_spelling d) (all_spelling other_spelling ds) p.0 rest p.2 in (
      other-named d p.0 q.0 q.1,
      all-well other_spelling (λ x. is_lustre_name x.text ≡ true) other-named ds q.0 rest q.2,
    )

equation-small : (e : WrittenEquation) (tokens rest : List Token) → equation_spelling e tokens ≡ Some rest → HasSmall e
equation-small (set line given value) tokens rest h =
    let p : _ =
    seq-parts (at_line line (name_word given)) (word (codes "=") ⨾ expr_spelling value ⨾ word (codes ";")) tokens rest
    h in
    let q : _ = seq-parts (word (codes "=")) (expr_spelling value ⨾ word (codes ";")) p.0 rest p.2 in
    let r : _ = seq-parts (expr_spelling value) (word (codes ";")) q.0 rest q.2 in
    expr-small value q.0 r.0 r.1
equation-small (call line given callee values) tokens rest h =
    let p : _ =
    seq-parts (at_line line (given_spelling given ⨾ word (codes "="))) (word (codes "call") ⨾ name_word callee
    ⨾ arguments_spelling values ⨾ word (codes ";")) tokens rest h in
    let q : _ =
    seq-parts (word (codes "call")) (name_word callee ⨾ arguments_spelling values ⨾ word (codes ";")) p.0 rest p.2 in
    let r : _ = seq-parts (name_word callee) (arguments_spelling values ⨾ word (codes ";")) q.0 rest q.2 in
    let t : _ = seq-parts (arguments_spelling values) (word (codes ";")) r.0 rest r.2 in
    let u : _ = parens-parts (parted_by (codes ",") expr_spelling values) r.0 t.0 t.1 in
    parted-well expr_spelling HasLiterals expr-small (codes ",") values u.inner u.behind u.body

node-well : (n : WrittenNode) (tokens rest : List Token) → node_spelling n tokens ≡ Some rest → WellNode n
node-well n tokens rest h =
    let after_equations : Spelling = word (codes "tel") ⨾ word (codes ";") in
    let after_let : Spelling = all_spelling equation_spelling n.equations ⨾ after_equations in
    let after_others : Spelling = word (codes "let") ⨾ after_let in
    let after_head : Spelling = others_spelling n.others ⨾ after_others in
    let after_outputs : Spelling = word (codes ";") ⨾ after_head in
    let after_returns : Spelling = ports_spelling n.outputs ⨾ after_outputs in
    let after_inputs : Spelling = word (codes "returns") ⨾ after_returns in
    let after_name : Spelling = ports_spelling n.inputs ⨾ after_inputs in
    let a : _ = seq-parts (at_line n.line (word (codes "node"))) (name_word n.text ⨾ after_name) tokens rest h in
    let b : _ = seq-parts (name_word n.text) after_name a.0 rest a.2 in
    let c : _ = seq-parts (ports_spelling n.inputs) after_inputs b.0 rest b.2 in
    let d : _ = seq-parts (word (codes "returns")) after_returns c.0 rest c.2 in
    let e : _ = seq-parts (ports_spelling n.outputs) after_outputs d.0 rest d.2 in
    let f : _ = seq-parts (word (codes ";")) after_head e.0 rest e.2 in
    let g : _ = seq-parts (others_spelling n.others) after_others f.0 rest f.2 in
    let i : _ = seq-parts (word (codes "let")) after_let g.0 rest g.2 in
    let j : _ = seq-parts (all_spelling equation_spelling n.equations) after_equations i.0 rest i.2 in
    record {
      name = name-lawful n.text a.0 b.0 b.1;
      inputs = ports-named n.inputs b.0 c.0 c.1;
      outputs = ports-named n.outputs d.0 e.0 e.1;
      others = others-named n.others f.0 g.0 g.1;
      equations = all-well equation_spelling HasSmall equation-small n.equations i.0 j.0 j.1;
    }

-- a file that is spelled has a node, and each is well written
pub file-well : (f : WrittenFile) (tokens : List Token) → Spells tokens f →
    (n : WrittenNode) × (ns : List WrittenNode) × (f.nodes ≡ n ∷ ns) × AllByRecursion WellNode f.nodes
file-well f tokens h = by f.nodes refl h
  where
    by : (nodes : List WrittenNode) → f.nodes ≡ nodes → some_spelling node_spelling nodes tokens ≡ Some [] →
        (n : WrittenNode) × (ns : List WrittenNode) × (f.nodes ≡ n ∷ ns) × AllByRecursion WellNode f.nodes
    by [] is k = cc
    by (n ∷ ns) is k =
        let p : _ = seq-parts (node_spelling n) (all_spelling node_spelling ns) tokens [] k in (
          n,
          ns,
          is,
          rw is (node-well n tokens p.0 p.1, all-well node_spelling WellNode node-well ns p.0 [] p.2),
        )
