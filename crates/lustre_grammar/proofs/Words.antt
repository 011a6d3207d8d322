-- What the parse of words answers is what the needs say.
use Rattle.std.proofs.Common.{◌≡◌, refl, sym, ◌∙◌, ap, ℕ, suc, pos, ◌^◌, ◌<◌, List, [], ◌∷◌, map, find, Bool, true, false, ◌||◌, cond, nat_lt, Option, Some, None, Ok, codes, bytes_eq, decimal, if◌then◌else◌, arith}
use Rattle.std.proofs.lemmas.Slice.Eq.{bytes_eq-Decides}
use Rattle.std.proofs.lemmas.Bool.{leb-true, eq-eqb}
use Rattle.c_syntax.specs.declared.fault.CFault.{CFault}
use Rattle.c_grammar.specs.Tokens.{Token}
use Rattle.c_grammar.specs.Grammar.{word}
use Rattle.c_grammar.specs.Prefix.{is_one_of, is_literal, digits_value}
use Rattle.c_grammar.specs.Parsing.{or_syntax_unless, parse_word}
use Rattle.c_grammar.proofs.lemmas.Texts.{is_literal-text}
use Rattle.c_grammar.proofs.lemmas.LiteralLaws.{numeral}
use Rattle.base_core.specs.Results.{◌>>◌}
use Rattle.lustre_syntax.specs.Names.{is_lustre_name}
use Rattle.lustre_syntax.specs.Tree.{number, truth, name}
use Rattle.lustre_grammar.specs.Written.{WrittenExpr}
use Rattle.lustre_grammar.specs.Grammar.{read_word, type_text, expr_spelling}
use Rattle.lustre_grammar.specs.Prefix.{Need, text_need, name_need, leaves, with_needs, only_if, on_reply, is_joint, is_type, is_leaf, token_fault}
use Rattle.lustre_grammar.specs.Parsing.{joints, joint_text, joint_of_text, type_of_text, word_at, leaf_of, parse_name}
use Rattle.lustre_grammar.proofs.Answering.{Answers, Reads}

pub same-text : (text : List ℕ) → bytes_eq text text ≡ true
same-text text = (bytes_eq-Decides text text).1 refl

-- what a table finds is written so, and only what it finds passes the test
abbrev pub Found : {X : Type 0} → (X → List ℕ) → List ℕ → Option X → Bool → Type 0
Found text_of text (Some x) b = (bytes_eq text (text_of x) ≡ true) × (b ≡ true)
Found text_of text None b = b ≡ false

pub in-table : {X : Type 0} (text_of : X → List ℕ) (text : List ℕ) (xs : List X) →
    Found text_of text (find (λ x. bytes_eq text (text_of x)) xs) (is_one_of (map text_of xs) text)
in-table text_of text [] = refl
in-table {X} text_of text (x ∷ xs) = by (bytes_eq text (text_of x)) refl (in-table text_of text xs)
  where
    by : (b : Bool) → bytes_eq text (text_of x) ≡ b →
        Found text_of text (find (λ y. bytes_eq text (text_of y)) xs) (is_one_of (map text_of xs) text) →
        Found text_of text (cond b (Some x) (find (λ y. bytes_eq text (text_of y)) xs)) (b || is_one_of (map text_of xs) text)
    by true e later = (e, refl)
    by false e later = later

pub joint-found : (text : List ℕ) → Found joint_text text (joint_of_text text) (is_joint text)
joint-found text = in-table joint_text text joints

pub type-found : (text : List ℕ) → Found type_text text (type_of_text text) (is_type text)
type-found text = in-table type_text text (false ∷ true ∷ [])

-- the expression that one token is, and only what it finds is one
abbrev pub LeafFound : Token → Option WrittenExpr → Bool → Type 0
LeafFound t (Some leaf) b = ((tokens : List Token) → expr_spelling leaf (t ∷ tokens) ≡ Some tokens) × (b ≡ true)
LeafFound t None b = b ≡ false

number-spelled : (t : Token) (tokens : List Token) → is_literal t.text ≡ true →
    expr_spelling (number (pos (digits_value 0 t.text))) (t ∷ tokens) ≡ Some tokens
number-spelled t tokens e =
    let v : (value : ℕ) × (nat_lt value (2 ^ 63) ≡ true) × (decimal value ≡ t.text) = is_literal-text t.text e in
    let small : v.0 < 2 ^ 63 = leb-true (suc v.0) (2 ^ 63) v.1 in
    let same : digits_value 0 t.text ≡ v.0 = ap (digits_value 0) (sym v.2) ∙ (numeral v.0 (omega (arith, small))).value in
    rw (same, v.1, v.2, same-text t.text) refl

word-spelled : (t : Token) (tokens : List Token) → is_lustre_name t.text ≡ true → read_word (word_at t) (t ∷ tokens) ≡ Some tokens
word-spelled t tokens e = rw (eq-eqb t.line t.line refl, e, same-text t.text) refl

pub leaf-found : (t : Token) → LeafFound t (leaf_of t) (is_leaf t.text)
leaf-found t =
    by (is_literal t.text) (bytes_eq t.text (codes "true")) (bytes_eq t.text (codes "false")) (is_lustre_name t.text) refl
    refl refl refl
  where
    by : (a b c d : Bool) → is_literal t.text ≡ a → bytes_eq t.text (codes "true") ≡ b →
        bytes_eq t.text (codes "false") ≡ c → is_lustre_name t.text ≡ d →
        LeafFound t (if a then Some (number (pos (digits_value 0 t.text)))
        else (if b then Some (truth true)
        else (if c then Some (truth false) else (if d then Some (name (word_at t)) else None))))
        (a || (b || (c || false)) || d)
    by true b c d is1 is2 is3 is4 = (λ tokens. number-spelled t tokens is1, refl)
    by false true c d is1 is2 is3 is4 = (λ tokens. rw is2 refl, refl)
    by false false true d is1 is2 is3 is4 = (λ tokens. rw is3 refl, refl)
    by false false false true is1 is2 is3 is4 = (λ tokens. word-spelled t tokens is4, refl)
    by false false false false is1 is2 is3 is4 = refl

module _ (last : ℕ) where
  pub word-reads : (text : List ℕ) (now : Option CFault) (more : List Need) (tokens : List Token) →
      now ≡ token_fault (text_need text ∷ more) last tokens →
      Answers now (Reads last now (λ _. word text) more tokens) (parse_word last text tokens)
  word-reads text now more [] h = record { is = h }
  word-reads text now more (t ∷ tokens) h = by (bytes_eq t.text text) refl h
    where
      by : (b : Bool) → bytes_eq t.text text ≡ b →
          now ≡ on_reply (with_needs (only_if b (leaves [])) more) t.line (λ left. token_fault left last tokens) →
          Answers now (Reads last now (λ _. word text) more (t ∷ tokens)) (or_syntax_unless t b >> Ok (tt {0}, tokens))
      by true e k = record { is = record { spelled = rw e refl; goes = k } }
      by false e k = record { is = k }

  pub name-reads : (now : Option CFault) (more : List Need) (tokens : List Token) →
      now ≡ token_fault (name_need ∷ more) last tokens →
      Answers now (Reads last now read_word more tokens) (parse_name last tokens)
  name-reads now more [] h = record { is = h }
  name-reads now more (t ∷ tokens) h = by (is_lustre_name t.text) refl h
    where
      by : (b : Bool) → is_lustre_name t.text ≡ b →
          now ≡ on_reply (with_needs (only_if b (leaves [])) more) t.line (λ left. token_fault left last tokens) →
          Answers now (Reads last now read_word more (t ∷ tokens)) (or_syntax_unless t b >> Ok (word_at t, tokens))
      by true e k = record { is = record { spelled = word-spelled t tokens e; goes = k } }
      by false e k = record { is = k }
