-- Walks along expressions and conditions.
use Rattle.std.proofs.Common.{◌≡◌, refl, sym, ap, ℕ, ◌+◌, ◌-◌, ◌^◌, List, [], ◌∷◌, ◌++◌, Some, Bool, true, false, if◌then◌else◌, nat_lt, codes, decimal, subst, append_assoc}
use Rattle.c_grammar.specs.Tokens.{Token}
use Rattle.c_grammar.specs.Grammar.{◌⨾◌, word, at_line, name_word, literal_word, in_parens, in_brackets, never, op_text, compare_text, own_spelling, leaf_spelling, expr_spelling, exprs_spelling, more_exprs_spelling, cond_spelling}
use Rattle.c_grammar.specs.Written.{WrittenLeaf, param, own, child, WrittenExpr, literal, neg, read, binary, pick, pure, item, WrittenExprs, no_exprs, more_exprs, WrittenCond, compare, both, either, negated}
use Rattle.c_grammar.specs.Prefix.{Need, Role, Kind, as_kind, as_first, expression, condition, allows, follow, operand_need, inside_need, joint_need, text_need, literal_need, leaf_need, tail_need, values_need, name_need, expr_need, cond_need}
use Rattle.c_grammar.specs.Openings.{none, operand, leaf_openings, expr_openings, more_exprs_openings, cond_openings}
use Rattle.c_grammar.proofs.lemmas.PrefixLaws.{some_same, seq-parts, at_line-inner, name_word-inner, not_word, operand-number, operand-paren, operand-name, Opens, inside-opener, expr-opens, cond-opens, joint-op, joint-compare, joint-connective, joint-question, inside-minus, inside-not, inside-cast, Parens, parens-parts, Brackets, brackets-parts, Firm, tail-skipped, word-firm, op-firm, compare-firm, one_less, values-firm}
use Rattle.c_grammar.proofs.lemmas.LiteralLaws.{literals-agree}
use Rattle.c_reading_laws.proofs.Walks.{AgreeOn, Walk, ◌▸◌, opening-walk, word-walk, agree-walk, same-walk, reopened}

-- after a `(` an opener is that of a first operand
inside-opens : (role : Role) (d : ℕ) (more : List Need) (tokens : List Token) → Opens tokens →
    Walk [] tokens (inside_need role d ∷ more) tokens (operand_need (as_first role) (d + 1) ∷ more)
inside-opens role d more tokens o =
    agree-walk tokens (inside_need role d ∷ more) (operand_need (as_first role) (d + 1) ∷ more)
    (subst (λ ts. AgreeOn ts (inside_need role d ∷ more) (operand_need (as_first role) (d + 1) ∷ more)) (sym o.list)
    (inside-opener role d more o.token.text o.opener))

-- what may follow an own field, and is left out
tail-left_out : (d : ℕ) (more : List Need) (tokens : List Token) → Firm tokens → Walk [] tokens (tail_need d ∷ more) tokens more
unfolding Firm
tail-left_out d more tokens firm =
    agree-walk tokens (tail_need d ∷ more) more
    (subst (λ ts. AgreeOn ts (tail_need d ∷ more) more) (sym firm.2) (tail-skipped d more firm.0.text firm.3))

less-walk : (kind : Kind) (role : Role) (d : ℕ) (more : List Need) (rest : List Token) →
    Walk [] rest (follow kind role (d + 1 - 1) ++ more) rest (follow kind role d ++ more)
less-walk kind role d more rest =
    subst (λ n. Walk [] rest (follow kind role (d + 1 - 1) ++ more) rest (follow kind role n ++ more)) (one_less d)
    (same-walk rest rest refl (follow kind role (d + 1 - 1) ++ more))

pub name-walk : (name : List ℕ) (tokens rest : List Token) → name_word name tokens ≡ Some rest → (more : List Need) →
    Walk (none ∷ []) tokens (name_need ∷ more) rest more
name-walk name tokens rest h more =
    let n : _ = name_word-inner name tokens rest h in
    word-walk name tokens rest n.1 (name_need ∷ more) more (rw n.0 refl)

-- an own field, and what may follow it
own-walk : (field : List ℕ) (tokens rest : List Token) → own_spelling field tokens ≡ Some rest →
    (d : ℕ) (more : List Need) → Walk (none ∷ none ∷ none ∷ []) tokens (leaf_need d ∷ more) rest (tail_need d ∷ more)
own-walk field tokens rest h d more =
    let p : _ = seq-parts (word (codes "s")) (word (codes "->") ⨾ name_word field) tokens rest h in
    let q : _ = seq-parts (word (codes "->")) (name_word field) p.0 rest p.2 in
    word-walk (codes "s") tokens p.0 p.1 (leaf_need d ∷ more) (text_need (codes "->") ∷ name_need ∷ tail_need d
    ∷ more) refl ▸ word-walk (codes "->") p.0 q.0 q.1 (text_need (codes "->") ∷ name_need ∷ tail_need d ∷ more)
    (name_need ∷ tail_need d ∷ more) refl ▸ name-walk field q.0 rest q.2 (tail_need d ∷ more)

leaf-walk : (leaf : WrittenLeaf) (tokens rest : List Token) → leaf_spelling leaf tokens ≡ Some rest → Firm rest →
    (d : ℕ) (more : List Need) → Walk (leaf_openings leaf) tokens (leaf_need d ∷ more) rest more
leaf-walk (param name) tokens rest h firm d more =
    let n : _ = name_word-inner name tokens rest h in
    word-walk name tokens rest n.1 (leaf_need d ∷ more) more (rw (n.0, not_word name (codes "s") n.0 refl) refl)
leaf-walk (own field) tokens rest h firm d more = own-walk field tokens rest h d more ▸ tail-left_out d more rest firm
leaf-walk (child field inner) tokens rest h firm d more =
    let p : _ = seq-parts (word (codes "s")) (word (codes "->") ⨾ name_word field ⨾ word (codes ".") ⨾ name_word inner) tokens rest h in
    let q : _ = seq-parts (word (codes "->")) (name_word field ⨾ word (codes ".") ⨾ name_word inner) p.0 rest p.2 in
    let r : _ = seq-parts (name_word field) (word (codes ".") ⨾ name_word inner) q.0 rest q.2 in
    let t : _ = seq-parts (word (codes ".")) (name_word inner) r.0 rest r.2 in
    word-walk (codes "s") tokens p.0 p.1 (leaf_need d ∷ more) (text_need (codes "->") ∷ name_need ∷ tail_need d
    ∷ more) refl ▸ word-walk (codes "->") p.0 q.0 q.1 (text_need (codes "->") ∷ name_need ∷ tail_need d ∷ more)
    (name_need ∷ tail_need d ∷ more) refl ▸ name-walk field q.0 r.0 r.1 (tail_need d ∷ more) ▸ word-walk
    (codes ".") r.0 t.0 t.1 (tail_need d ∷ more) (name_need ∷ more) refl ▸ name-walk inner t.0 rest t.2 more

pub literal-walk : (v : ℕ) (tokens rest : List Token) → literal_word v tokens ≡ Some rest → (more : List Need) →
    Walk (none ∷ []) tokens (literal_need ∷ more) rest more
literal-walk v tokens rest h more = by (nat_lt v (2 ^ 63)) refl h
  where
    by : (b : Bool) → nat_lt v (2 ^ 63) ≡ b → (if b then word (decimal v) else never) tokens ≡ Some rest →
        Walk (none ∷ []) tokens (literal_need ∷ more) rest more
    by true e k = word-walk (decimal v) tokens rest k (literal_need ∷ more) more (rw (literals-agree v e) refl)
    by false e k = cc

mutual
  -- along an operand that is an expression, and along one that is a condition
  pub expr-walk : (e : WrittenExpr) (role : Role) (d : ℕ) (more : List Need) (tokens rest : List Token) →
      allows role expression ≡ true → expr_spelling e tokens ≡ Some rest → Firm rest →
      Walk (expr_openings d e) tokens (operand_need role d ∷ more) rest (follow expression role d ++ more)
  expr-walk (literal v) role d more tokens rest a h firm =
      let p : _ = seq-parts (word (codes "INT64_C")) (in_parens (literal_word v)) tokens rest h in
      let q : Parens (literal_word v) p.0 rest = parens-parts (literal_word v) p.0 rest p.2 in
      opening-walk (operand d) (codes "INT64_C") tokens p.0 p.1 (operand_need role d ∷ more)
      (text_need (codes "(") ∷ literal_need ∷ text_need (codes ")") ∷ (follow expression role d ++ more))
      (operand-number role d more a) ▸ word-walk (codes "(") p.0 q.inner q.start
      (text_need (codes "(") ∷ literal_need ∷ text_need (codes ")") ∷ (follow expression role d ++ more))
      (literal_need ∷ text_need (codes ")") ∷ (follow expression role d ++ more)) refl ▸ literal-walk v q.inner
      q.behind q.body (text_need (codes ")") ∷ (follow expression role d ++ more)) ▸ word-walk
      (codes ")") q.behind rest q.close (text_need (codes ")") ∷ (follow expression role d ++ more))
      (follow expression role d ++ more) refl
  expr-walk (neg e) role d more tokens rest a h firm =
      let q : Parens (word (codes "-") ⨾ expr_spelling e) tokens rest = parens-parts (word (codes "-") ⨾ expr_spelling e) tokens rest h in
      let p : _ = seq-parts (word (codes "-")) (expr_spelling e) q.inner q.behind q.body in
      opening-walk (operand d) (codes "(") tokens q.inner q.start (operand_need role d ∷ more)
      (inside_need role d ∷ more) (operand-paren role d more) ▸ word-walk (codes "-") q.inner p.0 p.1
      (inside_need role d ∷ more) (expr_need (d + 1) ∷ text_need (codes ")") ∷ (follow expression role d ++ more))
      (inside-minus role d more a) ▸ expr-walk e (as_kind expression) (d + 1)
      (text_need (codes ")") ∷ (follow expression role d ++ more)) p.0 q.behind refl p.2
      (word-firm (codes ")") q.behind rest refl q.close) ▸ word-walk (codes ")") q.behind rest q.close
      (text_need (codes ")") ∷ (follow expression role d ++ more)) (follow expression role d ++ more) refl
  expr-walk (read line leaf) role d more tokens rest a h firm =
      let p : _ = seq-parts (in_parens (word (codes "int64_t"))) (at_line line (leaf_spelling leaf)) tokens rest h in
      let q : Parens (word (codes "int64_t")) tokens p.0 = parens-parts (word (codes "int64_t")) tokens p.0 p.1 in
      opening-walk (operand d) (codes "(") tokens q.inner q.start (operand_need role d ∷ more)
      (inside_need role d ∷ more) (operand-paren role d more) ▸ word-walk (codes "int64_t") q.inner q.behind q.body
      (inside_need role d ∷ more) (text_need (codes ")") ∷ leaf_need (d + 1) ∷ (follow expression role d ++ more))
      (inside-cast role d more a) ▸ word-walk (codes ")") q.behind p.0 q.close
      (text_need (codes ")") ∷ leaf_need (d + 1) ∷ (follow expression role d ++ more))
      (leaf_need (d + 1) ∷ (follow expression role d ++ more)) refl ▸ leaf-walk leaf p.0 rest
      (at_line-inner line (leaf_spelling leaf) p.0 rest p.2) firm (d + 1) (follow expression role d ++ more)
  expr-walk (binary op x y) role d more tokens rest a h firm =
      let q : Parens (expr_spelling x ⨾ word (op_text op) ⨾ expr_spelling y) tokens rest =
      parens-parts (expr_spelling x ⨾ word (op_text op) ⨾ expr_spelling y) tokens rest h in
      let p : _ = seq-parts (expr_spelling x) (word (op_text op) ⨾ expr_spelling y) q.inner q.behind q.body in
      let r : _ = seq-parts (word (op_text op)) (expr_spelling y) p.0 q.behind p.2 in
      opening-walk (operand d) (codes "(") tokens q.inner q.start (operand_need role d ∷ more)
      (inside_need role d ∷ more) (operand-paren role d more) ▸ inside-opens role d more q.inner
      (expr-opens x q.inner p.0 p.1) ▸ expr-walk x (as_first role) (d + 1) more q.inner p.0 refl p.1
      (word-firm (op_text op) p.0 r.0 (op-firm op) r.1) ▸ word-walk (op_text op) p.0 r.0 r.1
      (joint_need expression role (d + 1) ∷ more) (expr_need (d + 1) ∷ text_need (codes ")")
      ∷ (follow expression role (d + 1 - 1) ++ more)) (joint-op op role (d + 1) more a) ▸ expr-walk y
      (as_kind expression) (d + 1) (text_need (codes ")") ∷ (follow expression role (d + 1 - 1) ++ more)) r.0
      q.behind refl r.2 (word-firm (codes ")") q.behind rest refl q.close) ▸ word-walk
      (codes ")") q.behind rest q.close (text_need (codes ")") ∷ (follow expression role (d + 1 - 1) ++ more))
      (follow expression role (d + 1 - 1) ++ more) refl ▸ less-walk expression role d more rest
  expr-walk (pick test x y) role d more tokens rest a h firm =
      let q : Parens (cond_spelling test ⨾ word (codes "?") ⨾ expr_spelling x ⨾ word (codes ":") ⨾ expr_spelling y)
      tokens rest =
      parens-parts (cond_spelling test ⨾ word (codes "?") ⨾ expr_spelling x ⨾ word (codes ":") ⨾ expr_spelling y)
      tokens rest h in
      let p : _ =
      seq-parts (cond_spelling test) (word (codes "?") ⨾ expr_spelling x ⨾ word (codes ":") ⨾ expr_spelling y)
      q.inner q.behind q.body in
      let r : _ = seq-parts (word (codes "?")) (expr_spelling x ⨾ word (codes ":") ⨾ expr_spelling y) p.0 q.behind p.2 in
      let t : _ = seq-parts (expr_spelling x) (word (codes ":") ⨾ expr_spelling y) r.0 q.behind r.2 in
      let u : _ = seq-parts (word (codes ":")) (expr_spelling y) t.0 q.behind t.2 in
      let after : List Need = text_need (codes ")") ∷ (follow expression role (d + 1 - 1) ++ more) in
      opening-walk (operand d) (codes "(") tokens q.inner q.start (operand_need role d ∷ more)
      (inside_need role d ∷ more) (operand-paren role d more) ▸ inside-opens role d more q.inner
      (cond-opens test q.inner p.0 p.1) ▸ cond-walk test (as_first role) (d + 1) more q.inner p.0 refl p.1
      (word-firm (codes "?") p.0 r.0 refl r.1) ▸ word-walk (codes "?") p.0 r.0 r.1
      (joint_need condition role (d + 1) ∷ more) (expr_need (d + 1) ∷ text_need (codes ":") ∷ expr_need (d + 1)
      ∷ after) (joint-question role (d + 1) more a) ▸ expr-walk x (as_kind expression) (d + 1)
      (text_need (codes ":") ∷ expr_need (d + 1) ∷ after) r.0 t.0 refl t.1
      (word-firm (codes ":") t.0 u.0 refl u.1) ▸ word-walk (codes ":") t.0 u.0 u.1
      (text_need (codes ":") ∷ expr_need (d + 1) ∷ after) (expr_need (d + 1) ∷ after) refl ▸ expr-walk y
      (as_kind expression) (d + 1) after u.0 q.behind refl u.2 (word-firm (codes ")") q.behind rest refl q.close) ▸
      word-walk (codes ")") q.behind rest q.close after (follow expression role (d + 1 - 1) ++ more) refl ▸
      less-walk expression role d more rest
  expr-walk (pure line function no_exprs) role d more tokens rest a h firm =
      let p : _ = seq-parts (at_line line (name_word function)) (in_parens (exprs_spelling no_exprs)) tokens rest h in
      let q : Parens never p.0 rest = parens-parts never p.0 rest p.2 in
      cc q.body
  expr-walk (pure line function (more_exprs e es)) role d more tokens rest a h firm =
      let p : _ = seq-parts (at_line line (name_word function)) (in_parens (exprs_spelling (more_exprs e es))) tokens rest h in
      let n : _ = name_word-inner function tokens p.0 (at_line-inner line (name_word function) tokens p.0 p.1) in
      let q : Parens (expr_spelling e ⨾ more_exprs_spelling es) p.0 rest =
      parens-parts (expr_spelling e ⨾ more_exprs_spelling es) p.0 rest p.2 in
      let r : _ = seq-parts (expr_spelling e) (more_exprs_spelling es) q.inner q.behind q.body in
      let left : List Need = values_need (d + 1) ∷ (follow expression role d ++ more) in
      reopened
      (ap (λ os. operand d ∷ none ∷ os)
      (sym (append_assoc (expr_openings (d + 1) e) (more_exprs_openings (d + 1) es) (none ∷ []))))
      (opening-walk (operand d) function tokens p.0 n.1 (operand_need role d ∷ more)
      (text_need (codes "(") ∷ expr_need (d + 1) ∷ left) (operand-name role d more function n.0 a) ▸ word-walk
      (codes "(") p.0 q.inner q.start (text_need (codes "(") ∷ expr_need (d + 1) ∷ left)
      (expr_need (d + 1) ∷ left) refl ▸ expr-walk e (as_kind expression) (d + 1) left q.inner r.0 refl r.1
      (values-firm es r.0 q.behind rest r.2 q.close) ▸ values-walk es (d + 1)
      (follow expression role d ++ more) r.0 q.behind rest r.2 q.close)
  expr-walk (item line field index) role d more tokens rest a h firm =
      let p : _ =
      seq-parts (in_parens (word (codes "int64_t"))) (at_line line (own_spelling field)
      ⨾ in_brackets (expr_spelling index)) tokens rest h in
      let q : Parens (word (codes "int64_t")) tokens p.0 = parens-parts (word (codes "int64_t")) tokens p.0 p.1 in
      let r : _ = seq-parts (at_line line (own_spelling field)) (in_brackets (expr_spelling index)) p.0 rest p.2 in
      let b : Brackets (expr_spelling index) r.0 rest = brackets-parts (expr_spelling index) r.0 rest r.2 in
      let after : List Need = follow expression role d ++ more in
      opening-walk (operand d) (codes "(") tokens q.inner q.start (operand_need role d ∷ more)
      (inside_need role d ∷ more) (operand-paren role d more) ▸ word-walk (codes "int64_t") q.inner q.behind q.body
      (inside_need role d ∷ more) (text_need (codes ")") ∷ leaf_need (d + 1) ∷ after)
      (inside-cast role d more a) ▸ word-walk (codes ")") q.behind p.0 q.close
      (text_need (codes ")") ∷ leaf_need (d + 1) ∷ after) (leaf_need (d + 1) ∷ after) refl ▸ own-walk field p.0 r.0
      (at_line-inner line (own_spelling field) p.0 r.0 r.1) (d + 1) after ▸ word-walk
      (codes "[") r.0 b.inner b.start (tail_need (d + 1) ∷ after) (expr_need (d + 1) ∷ text_need (codes "]")
      ∷ after) refl ▸ expr-walk index (as_kind expression) (d + 1) (text_need (codes "]") ∷ after) b.inner b.behind
      refl b.body (word-firm (codes "]") b.behind rest refl b.close) ▸ word-walk (codes "]") b.behind rest b.close
      (text_need (codes "]") ∷ after) after refl

  pub values-walk : (es : WrittenExprs) (d : ℕ) (more : List Need) (tokens mid rest : List Token) →
      more_exprs_spelling es tokens ≡ Some mid → word (codes ")") mid ≡ Some rest →
      Walk (more_exprs_openings d es ++ none ∷ []) tokens (values_need d ∷ more) rest more
  values-walk no_exprs d more tokens mid rest h k =
      same-walk tokens mid (some_same tokens mid h) (values_need d ∷ more) ▸ word-walk (codes ")") mid rest k
      (values_need d ∷ more) more refl
  values-walk (more_exprs e es) d more tokens mid rest h k =
      let p : _ = seq-parts (word (codes ",")) (expr_spelling e ⨾ more_exprs_spelling es) tokens mid h in
      let r : _ = seq-parts (expr_spelling e) (more_exprs_spelling es) p.0 mid p.2 in
      reopened (ap (λ os. none ∷ os) (sym (append_assoc (expr_openings d e) (more_exprs_openings d es) (none ∷ []))))
      (word-walk (codes ",") tokens p.0 p.1 (values_need d ∷ more) (expr_need d ∷ values_need d ∷ more) refl ▸
      expr-walk e (as_kind expression) d (values_need d ∷ more) p.0 r.0 refl r.1
      (values-firm es r.0 mid rest r.2 k) ▸ values-walk es d more r.0 mid rest r.2 k)

  pub cond-walk : (c : WrittenCond) (role : Role) (d : ℕ) (more : List Need) (tokens rest : List Token) →
      allows role condition ≡ true → cond_spelling c tokens ≡ Some rest → Firm rest →
      Walk (cond_openings d c) tokens (operand_need role d ∷ more) rest (follow condition role d ++ more)
  cond-walk (compare how x y) role d more tokens rest a h firm =
      let q : Parens (expr_spelling x ⨾ word (compare_text how) ⨾ expr_spelling y) tokens rest =
      parens-parts (expr_spelling x ⨾ word (compare_text how) ⨾ expr_spelling y) tokens rest h in
      let p : _ = seq-parts (expr_spelling x) (word (compare_text how) ⨾ expr_spelling y) q.inner q.behind q.body in
      let r : _ = seq-parts (word (compare_text how)) (expr_spelling y) p.0 q.behind p.2 in
      opening-walk (operand d) (codes "(") tokens q.inner q.start (operand_need role d ∷ more)
      (inside_need role d ∷ more) (operand-paren role d more) ▸ inside-opens role d more q.inner
      (expr-opens x q.inner p.0 p.1) ▸ expr-walk x (as_first role) (d + 1) more q.inner p.0 refl p.1
      (word-firm (compare_text how) p.0 r.0 (compare-firm how) r.1) ▸ word-walk (compare_text how) p.0 r.0 r.1
      (joint_need expression role (d + 1) ∷ more) (expr_need (d + 1) ∷ text_need (codes ")")
      ∷ (follow condition role (d + 1 - 1) ++ more)) (joint-compare how role (d + 1) more a) ▸ expr-walk y
      (as_kind expression) (d + 1) (text_need (codes ")") ∷ (follow condition role (d + 1 - 1) ++ more)) r.0
      q.behind refl r.2 (word-firm (codes ")") q.behind rest refl q.close) ▸ word-walk
      (codes ")") q.behind rest q.close (text_need (codes ")") ∷ (follow condition role (d + 1 - 1) ++ more))
      (follow condition role (d + 1 - 1) ++ more) refl ▸ less-walk condition role d more rest
  cond-walk (both x y) role d more tokens rest a h firm =
      let q : Parens (cond_spelling x ⨾ word (codes "&&") ⨾ cond_spelling y) tokens rest =
      parens-parts (cond_spelling x ⨾ word (codes "&&") ⨾ cond_spelling y) tokens rest h in
      let p : _ = seq-parts (cond_spelling x) (word (codes "&&") ⨾ cond_spelling y) q.inner q.behind q.body in
      let r : _ = seq-parts (word (codes "&&")) (cond_spelling y) p.0 q.behind p.2 in
      opening-walk (operand d) (codes "(") tokens q.inner q.start (operand_need role d ∷ more)
      (inside_need role d ∷ more) (operand-paren role d more) ▸ inside-opens role d more q.inner
      (cond-opens x q.inner p.0 p.1) ▸ cond-walk x (as_first role) (d + 1) more q.inner p.0 refl p.1
      (word-firm (codes "&&") p.0 r.0 refl r.1) ▸ word-walk (codes "&&") p.0 r.0 r.1
      (joint_need condition role (d + 1) ∷ more) (cond_need (d + 1) ∷ text_need (codes ")")
      ∷ (follow condition role (d + 1 - 1) ++ more)) (joint-connective (codes "&&") refl role (d + 1) more a) ▸
      cond-walk y (as_kind condition) (d + 1) (text_need (codes ")") ∷ (follow condition role (d + 1 - 1) ++ more))
      r.0 q.behind refl r.2 (word-firm (codes ")") q.behind rest refl q.close) ▸ word-walk
      (codes ")") q.behind rest q.close (text_need (codes ")") ∷ (follow condition role (d + 1 - 1) ++ more))
      (follow condition role (d + 1 - 1) ++ more) refl ▸ less-walk condition role d more rest
  cond-walk (either x y) role d more tokens rest a h firm =
      let q : Parens (cond_spelling x ⨾ word (codes "||") ⨾ cond_spelling y) tokens rest =
      parens-parts (cond_spelling x ⨾ word (codes "||") ⨾ cond_spelling y) tokens rest h in
      let p : _ = seq-parts (cond_spelling x) (word (codes "||") ⨾ cond_spelling y) q.inner q.behind q.body in
      let r : _ = seq-parts (word (codes "||")) (cond_spelling y) p.0 q.behind p.2 in
      opening-walk (operand d) (codes "(") tokens q.inner q.start (operand_need role d ∷ more)
      (inside_need role d ∷ more) (operand-paren role d more) ▸ inside-opens role d more q.inner
      (cond-opens x q.inner p.0 p.1) ▸ cond-walk x (as_first role) (d + 1) more q.inner p.0 refl p.1
      (word-firm (codes "||") p.0 r.0 refl r.1) ▸ word-walk (codes "||") p.0 r.0 r.1
      (joint_need condition role (d + 1) ∷ more) (cond_need (d + 1) ∷ text_need (codes ")")
      ∷ (follow condition role (d + 1 - 1) ++ more)) (joint-connective (codes "||") refl role (d + 1) more a) ▸
      cond-walk y (as_kind condition) (d + 1) (text_need (codes ")") ∷ (follow condition role (d + 1 - 1) ++ more))
      r.0 q.behind refl r.2 (word-firm (codes ")") q.behind rest refl q.close) ▸ word-walk
      (codes ")") q.behind rest q.close (text_need (codes ")") ∷ (follow condition role (d + 1 - 1) ++ more))
      (follow condition role (d + 1 - 1) ++ more) refl ▸ less-walk condition role d more rest
  cond-walk (negated x) role d more tokens rest a h firm =
      let q : Parens (word (codes "!") ⨾ cond_spelling x) tokens rest = parens-parts (word (codes "!") ⨾ cond_spelling x) tokens rest h in
      let p : _ = seq-parts (word (codes "!")) (cond_spelling x) q.inner q.behind q.body in
      opening-walk (operand d) (codes "(") tokens q.inner q.start (operand_need role d ∷ more)
      (inside_need role d ∷ more) (operand-paren role d more) ▸ word-walk (codes "!") q.inner p.0 p.1
      (inside_need role d ∷ more) (cond_need (d + 1) ∷ text_need (codes ")") ∷ (follow condition role d ++ more))
      (inside-not role d more a) ▸ cond-walk x (as_kind condition) (d + 1)
      (text_need (codes ")") ∷ (follow condition role d ++ more)) p.0 q.behind refl p.2
      (word-firm (codes ")") q.behind rest refl q.close) ▸ word-walk (codes ")") q.behind rest q.close
      (text_need (codes ")") ∷ (follow condition role d ++ more)) (follow condition role d ++ more) refl
