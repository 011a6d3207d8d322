-- What the grammar spells is parsed: words and leaves.
use Rattle.std.proofs.Common.{◌≡◌, refl, ◌∙◌, ap, ℕ, suc, ◌^◌, ◌<◌, List, [], ◌∷◌, Bool, true, false, ◌==◌, nat_lt, Some, None, Ok, codes, bytes_eq, decimal, if◌then◌else◌, unwrap_or, arith}
use Rattle.std.proofs.lemmas.Bool.{leb-true, eqb-true}
use Rattle.std.proofs.lemmas.Slice.Eq.{bytes_eq-Decides}
use Rattle.c_syntax.specs.declared.code.CType.{CType}
use Rattle.c_syntax.specs.declared.code.CType.TheVariants.{I8, U8, I16, U16, I32, U32, I64}
use Rattle.c_grammar.specs.Tokens.{Token}
use Rattle.c_syntax.specs.Names.{is_name}
use Rattle.c_grammar.specs.Written.{WrittenLeaf, param, own, child, WrittenExpr, read, item}
use Rattle.c_grammar.specs.Grammar.{Spelling, ◌⨾◌, word, at_line, name_word, literal_word, never, type_text, cast_spelling, own_spelling, leaf_spelling}
use Rattle.c_grammar.specs.Prefix.{is_literal, digits_value}
use Rattle.c_grammar.specs.Parsing.{parse_word, parse_name, parse_type, parse_literal, parse_cast, parse_field_name, parse_leaf_from, parse_leaf, parse_index, deeper_value, first_text, type_of_text, tail_of, Parsed, Operand}
use Rattle.c_grammar.specs.declared.openers.Tail.TheVariants.{Dot as dot_tail, Bracket as bracket_tail, Nothing as no_tail}
use Rattle.c_grammar.specs.declared.openers.Want.{Want}
use Rattle.c_grammar.proofs.lemmas.PrefixLaws.{Front, word-front, seq-parts, name_word-inner, not_word, Parens, parens-parts, Firm}
use Rattle.c_grammar.proofs.lemmas.LiteralLaws.{numeral, literals-agree}
use Rattle.c_rules.proofs.lemmas.SpelledWords.{LineFront, line-front, word-rest, word-parsed}

module _ (last : ℕ) where
  pub name-parsed : (name : List ℕ) (tokens rest : List Token) → name_word name tokens ≡ Some rest →
      parse_name last tokens ≡ Ok (name, rest)
  name-parsed name tokens rest h =
      let n : _ = name_word-inner name tokens rest h in
      let f : Front name tokens rest = word-front name tokens rest n.1 in
      ap (parse_name last) f.list ∙ rw (ap is_name f.same ∙ n.0) (ap (λ x. Ok (x, rest)) f.same)

  pub type-known : (type : CType) → type_of_text (type_text type) ≡ Some type
  type-known I8 = refl
  type-known U8 = refl
  type-known I16 = refl
  type-known U16 = refl
  type-known I32 = refl
  type-known U32 = refl
  type-known I64 = refl

  pub type-parsed : (type : CType) (tokens rest : List Token) → word (type_text type) tokens ≡ Some rest →
      parse_type last tokens ≡ Ok (type, rest)
  type-parsed type tokens rest h =
      let f : Front (type_text type) tokens rest = word-front (type_text type) tokens rest h in
      ap (parse_type last) f.list ∙ rw (ap type_of_text f.same ∙ type-known type) refl

  pub literal-parsed : (v : ℕ) (tokens rest : List Token) → literal_word v tokens ≡ Some rest → parse_literal last tokens ≡ Ok (v, rest)
  literal-parsed v tokens rest h = by (nat_lt v (2 ^ 63)) refl h
    where
      by : (b : Bool) → nat_lt v (2 ^ 63) ≡ b → (if b then word (decimal v) else never) tokens ≡ Some rest →
          parse_literal last tokens ≡ Ok (v, rest)
      by false e k = cc
      by true e k =
          let small : v < 2 ^ 63 = leb-true (suc v) (2 ^ 63) e in
          let f : Front (decimal v) tokens rest = word-front (decimal v) tokens rest k in
          ap (parse_literal last) f.list
          ∙ rw (ap is_literal f.same ∙ literals-agree v e) (ap (λ x. Ok (digits_value 0 x, rest)) f.same
          ∙ ap (λ n. Ok (n, rest)) (numeral v (omega (arith, small))).value)

  pub cast-parsed : (type : CType) (tokens rest : List Token) → cast_spelling type tokens ≡ Some rest →
      parse_cast last tokens ≡ Ok (type, rest)
  cast-parsed type tokens rest h =
      let q : Parens (word (type_text type)) tokens rest = parens-parts (word (type_text type)) tokens rest h in
      rw (
        word-parsed last (codes "(") tokens q.inner q.start,
        type-parsed type q.inner q.behind q.body,
        word-parsed last (codes ")") q.behind rest q.close,
      ) refl

  -- a field after `s`
  pub field_name-parsed : (name : List ℕ) (tokens rest : List Token) →
      (word (codes "->") ⨾ name_word name) tokens ≡ Some rest → parse_field_name last tokens ≡ Ok (name, rest)
  field_name-parsed name tokens rest h =
      let p : _ = seq-parts (word (codes "->")) (name_word name) tokens rest h in
      rw (word-parsed last (codes "->") tokens p.0 p.1, name-parsed name p.0 rest p.2) refl

  firm-text : (rest : List Token) → Firm rest → tail_of (first_text rest) ≡ no_tail
  unfolding Firm
  firm-text rest firm = ap (λ ts. tail_of (first_text ts)) firm.2 ∙ firm.3

  module _ (operand : Want → List Token → Parsed Operand) where
    leaf_from-parsed : (leaf : WrittenLeaf) (t : Token) (tokens rest : List Token) →
        leaf_spelling leaf (t ∷ tokens) ≡ Some rest → Firm rest →
        parse_leaf_from last operand t tokens (bytes_eq t.text (codes "s")) ≡ Ok (read t.line leaf, rest)
    leaf_from-parsed (param name) t tokens rest h firm =
        let n : _ = name_word-inner name (t ∷ tokens) rest h in
        let w : _ = word-rest name t tokens rest n.1 in
        let named : is_name t.text ≡ true = ap is_name w.0 ∙ n.0 in
        rw (not_word t.text (codes "s") named refl, named) (ap (λ x. Ok (read t.line (param x), tokens)) w.0
        ∙ ap (λ ts. Ok (read t.line (param name), ts)) w.1)
    leaf_from-parsed (own field) t tokens rest h firm =
        let p : _ = seq-parts (word (codes "s")) (word (codes "->") ⨾ name_word field) (t ∷ tokens) rest h in
        let w : _ = word-rest (codes "s") t tokens p.0 p.1 in
        let is_own : bytes_eq t.text (codes "s") ≡ true = (bytes_eq-Decides t.text (codes "s")).1 w.0 in
        rw (is_own, w.1, field_name-parsed field p.0 rest p.2, firm-text rest firm) refl
    leaf_from-parsed (child field inner) t tokens rest h firm =
        let p : _ =
        seq-parts (word (codes "s")) (word (codes "->") ⨾ name_word field ⨾ word (codes ".") ⨾ name_word inner)
        (t ∷ tokens) rest h in
        let q : _ = seq-parts (word (codes "->")) (name_word field ⨾ word (codes ".") ⨾ name_word inner) p.0 rest p.2 in
        let r : _ = seq-parts (name_word field) (word (codes ".") ⨾ name_word inner) q.0 rest q.2 in
        let d : _ = seq-parts (word (codes ".")) (name_word inner) r.0 rest r.2 in
        let f : Front (codes ".") r.0 d.0 = word-front (codes ".") r.0 d.0 d.1 in
        let w : _ = word-rest (codes "s") t tokens p.0 p.1 in
        let is_own : bytes_eq t.text (codes "s") ≡ true = (bytes_eq-Decides t.text (codes "s")).1 w.0 in
        let is_dot : tail_of f.token.text ≡ dot_tail = ap tail_of f.same in
        rw (
          is_own,
          w.1,
          word-parsed last (codes "->") p.0 q.0 q.1,
          name-parsed field q.0 r.0 r.1,
          f.list,
          is_dot,
          name-parsed inner d.0 rest d.2,
        ) refl

    pub leaf-parsed : (line : ℕ) (leaf : WrittenLeaf) (tokens rest : List Token) →
        at_line line (leaf_spelling leaf) tokens ≡ Some rest → Firm rest →
        parse_leaf last operand tokens ≡ Ok (read line leaf, rest)
    leaf-parsed line leaf tokens rest h firm =
        let f : LineFront line (leaf_spelling leaf) tokens rest = line-front line (leaf_spelling leaf) tokens rest h in
        ap (parse_leaf last operand) f.list
        ∙ rw (leaf_from-parsed leaf f.token f.later rest f.inner firm) (ap (λ n. Ok (read n leaf, rest)) f.is)

    -- an index, where what is between the brackets is parsed
    pub index-parsed : (index : WrittenExpr) (tokens inner behind rest : List Token) →
        word (codes "[") tokens ≡ Some inner → deeper_value last operand inner ≡ Ok (index, behind) →
        word (codes "]") behind ≡ Some rest → parse_index last operand tokens ≡ Ok (index, rest)
    index-parsed index tokens inner behind rest start parsed close =
        let f : Front (codes "[") tokens inner = word-front (codes "[") tokens inner start in
        ap (parse_index last operand) f.list ∙ rw (parsed, word-parsed last (codes "]") behind rest close) refl

    -- an item of an own field
    pub item-parsed : (line : ℕ) (field : List ℕ) (index : WrittenExpr) (tokens mid inner behind rest : List Token) →
        at_line line (own_spelling field) tokens ≡ Some mid → word (codes "[") mid ≡ Some inner →
        deeper_value last operand inner ≡ Ok (index, behind) → word (codes "]") behind ≡ Some rest →
        parse_leaf last operand tokens ≡ Ok (item line field index, rest)
    item-parsed line field index tokens mid inner behind rest h start parsed close =
        let l : LineFront line (own_spelling field) tokens mid = line-front line (own_spelling field) tokens mid h in
        let o : _ = seq-parts (word (codes "s")) (word (codes "->") ⨾ name_word field) (l.token ∷ l.later) mid l.inner in
        let w : _ = word-rest (codes "s") l.token l.later o.0 o.1 in
        let is_own : bytes_eq l.token.text (codes "s") ≡ true = (bytes_eq-Decides l.token.text (codes "s")).1 w.0 in
        let b : Front (codes "[") mid inner = word-front (codes "[") mid inner start in
        let is_bracket : tail_of (first_text mid) ≡ bracket_tail = ap (λ ts. tail_of (first_text ts)) b.list ∙ ap tail_of b.same in
        ap (parse_leaf last operand) l.list
        ∙ rw (
          is_own,
          w.1,
          field_name-parsed field o.0 mid o.2,
          is_bracket,
          index-parsed index mid inner behind rest start parsed close,
          l.is,
        ) refl
