-- Spellings that read the front of a text.
use Rattle.std.proofs.Common.{◌≡◌, refl, sym, ◌∙◌, ap, subst, ℕ, zero, suc, ◌+◌, ◌^◌, ◌<◌, List, [], ◌∷◌, ◌++◌, true, Some, None, take_while, replicate, codes, decimal, bytes_eq, if◌then◌else◌, option_and_then}
use Rattle.std.specs.Char.{is_ascii_digit}
use Rattle.std.proofs.lemmas.Bool.{le-leb, eq-eqb}
use Rattle.std.proofs.lemmas.Slice.Eq.{bytes_eq-Decides}
use Rattle.base_core.specs.Numbers.{reported_number}
use Rattle.base_core.specs.declared.base.Compare.{Compare}
use Rattle.base_core.specs.declared.base.Compare.TheVariants.{Eq, Ne, Lt, Le, Ge, Gt}
use Rattle.c_syntax.specs.declared.code.BinOp.{BinOp}
use Rattle.c_syntax.specs.declared.code.BinOp.TheVariants.{Add, Sub, Mul, Div, Rem}
use Rattle.c_syntax.specs.declared.code.CType.{CType}
use Rattle.c_syntax.specs.declared.code.CType.TheVariants.{I8, U8, I16, U16, I32, U32, I64}
use Rattle.c_grammar.specs.Tokens.{Token, tokens_from}
use Rattle.c_syntax.specs.Names.{is_word_byte, is_name}
use Rattle.c_grammar.specs.Grammar.{Spelling, ◌⨾◌, nothing, never, word, at_line, name_word, literal_word, in_parens, in_brackets, in_braces, type_text, op_text, compare_text, cast_spelling}
use Rattle.c_printer.proofs.Lexing.{IsTokenBefore, tokens_from-token, name-token, decimal-token}

-- from this text at this line the spelling leaves that one at that line
pub record Reads (spelling : Spelling) (line : ℕ) (text : List ℕ) (end_line : ℕ) (rest : List ℕ) : Type 0 where
  pub is : spelling (tokens_from 0 line text) ≡ Some (tokens_from 0 end_line rest)

-- one spelling and then another
infixr 25 ◌▸◌
pub ◌▸◌ : {a b : Spelling} {l m n : ℕ} {x y z : List ℕ} → Reads a l x m y → Reads b m y n z → Reads (a ⨾ b) l x n z
◌▸◌ {a} {b} first second = record { is = ap (option_and_then b) first.is ∙ second.is }

-- the same text, otherwise put together
pub along : {a : Spelling} {l m : ℕ} {x y z : List ℕ} → x ≡ y → Reads a l y m z → Reads a l x m z
along {a} {l} {m} {x} {y} {z} same reads = subst (λ t. Reads a l t m z) (sym same) reads

-- the same end
pub ending : {a : Spelling} {l m n : ℕ} {x z : List ℕ} → m ≡ n → Reads a l x m z → Reads a l x n z
ending {a} {l} {m} {n} {x} {z} same reads = subst (λ k. Reads a l x k z) same reads

-- nothing is read
pub reads-nothing : {l : ℕ} {x : List ℕ} → Reads nothing l x l x
reads-nothing = record { is = refl }

-- a space before a text
pub spaced : {a : Spelling} {l m : ℕ} {x z : List ℕ} → Reads a l x m z → Reads a l (32 ∷ x) m z
spaced reads = record { is = reads.is }

-- a line end before a text, and after it
pub lined : {a : Spelling} {l m : ℕ} {x z : List ℕ} → Reads a (l + 1) x m z → Reads a l (10 ∷ x) m z
lined reads = record { is = reads.is }

pub line_ended : {a : Spelling} {l m : ℕ} {x z : List ℕ} → Reads a l x m (10 ∷ z) → Reads a l x (m + 1) z
line_ended reads = record { is = reads.is }

-- blanks before a text, and after it
pub margined : {a : Spelling} {l m : ℕ} {x z : List ℕ} (margin : ℕ) → Reads a l x m z → Reads a l (replicate margin 32 ++ x) m z
margined zero reads = reads
margined (suc n) reads = spaced (margined n reads)

pub margin_passed : {a : Spelling} {l m : ℕ} {x z : List ℕ} (margin : ℕ) → Reads a l x m (replicate margin 32 ++ z) → Reads a l x m z
margin_passed zero reads = reads
margin_passed (suc n) reads = margin_passed n (record { is = reads.is })

same_bytes : (x : List ℕ) → bytes_eq x x ≡ true
same_bytes x = (bytes_eq-Decides x x).1 refl

-- one token
pub reads-word : {l : ℕ} (text rest : List ℕ) → IsTokenBefore text rest → Reads (word text) l (text ++ rest) l rest
reads-word {l} text rest t = record {
  is = ap (word text) (tokens_from-token text rest l t) ∙ ap (λ b. if b then Some (tokens_from 0 l rest) else None) (same_bytes text);
}

-- the same, where its line is asked for
pub reads-line : {a : Spelling} {l m : ℕ} {z : List ℕ} (text rest : List ℕ) → IsTokenBefore text rest →
    Reads a l (text ++ rest) m z → Reads (at_line (reported_number l) a) l (text ++ rest) m z
reads-line {a} {l} {m} {z} text rest t reads = record {
  is = ap (at_line (reported_number l) a) front
      ∙ ap (λ b. if b then a (first ∷ tokens_from 0 l rest) else None)
      (eq-eqb (reported_number l) (reported_number l) refl) ∙ sym (ap a front) ∙ reads.is;
}
  where
    first : Token
    first = record { text = text; line = reported_number l }

    front : tokens_from 0 l (text ++ rest) ≡ first ∷ tokens_from 0 l rest
    front = tokens_from-token text rest l t

-- a name
pub reads-name : {l : ℕ} (name rest : List ℕ) → is_name name ≡ true → take_while is_word_byte rest ≡ [] →
    Reads (name_word name) l (name ++ rest) l rest
reads-name {l} name rest h none = record {
  is = ap (λ b. (if b then word name else never) (tokens_from 0 l (name ++ rest))) h
      ∙ (reads-word name rest (name-token name rest h none)).is;
}

-- a number
pub reads-literal : {l : ℕ} (n : ℕ) (rest : List ℕ) → n < 2 ^ 63 → take_while is_ascii_digit rest ≡ [] →
    Reads (literal_word n) l (decimal n ++ rest) l rest
reads-literal {l} n rest small none = record {
  is = ap (λ b. (if b then word (decimal n) else never) (tokens_from 0 l (decimal n ++ rest)))
      (le-leb (suc n) (2 ^ 63) small) ∙ (reads-word (decimal n) rest (decimal-token n rest small none)).is;
}

-- a sign that is part of no longer one, whatever follows
pub data LoneSign : ℕ → Type 0 where
  open_paren : LoneSign 40
  close_paren : LoneSign 41
  open_bracket : LoneSign 91
  close_bracket : LoneSign 93
  open_brace : LoneSign 123
  close_brace : LoneSign 125
  semicolon : LoneSign 59
  comma : LoneSign 44
  question : LoneSign 63
  colon : LoneSign 58
  dot : LoneSign 46
  star : LoneSign 42

pub sign-token : {b : ℕ} → LoneSign b → (rest : List ℕ) → IsTokenBefore (b ∷ []) rest
sign-token open_paren [] = record { first = 40; later = []; list = refl; piece = refl; one_line = λ line. refl }
sign-token open_paren (c ∷ cs) = record { first = 40; later = []; list = refl; piece = refl; one_line = λ line. refl }
sign-token close_paren [] = record { first = 41; later = []; list = refl; piece = refl; one_line = λ line. refl }
sign-token close_paren (c ∷ cs) = record { first = 41; later = []; list = refl; piece = refl; one_line = λ line. refl }
sign-token open_bracket [] = record { first = 91; later = []; list = refl; piece = refl; one_line = λ line. refl }
sign-token open_bracket (c ∷ cs) = record { first = 91; later = []; list = refl; piece = refl; one_line = λ line. refl }
sign-token close_bracket [] = record { first = 93; later = []; list = refl; piece = refl; one_line = λ line. refl }
sign-token close_bracket (c ∷ cs) = record { first = 93; later = []; list = refl; piece = refl; one_line = λ line. refl }
sign-token open_brace [] = record { first = 123; later = []; list = refl; piece = refl; one_line = λ line. refl }
sign-token open_brace (c ∷ cs) = record { first = 123; later = []; list = refl; piece = refl; one_line = λ line. refl }
sign-token close_brace [] = record { first = 125; later = []; list = refl; piece = refl; one_line = λ line. refl }
sign-token close_brace (c ∷ cs) = record { first = 125; later = []; list = refl; piece = refl; one_line = λ line. refl }
sign-token semicolon [] = record { first = 59; later = []; list = refl; piece = refl; one_line = λ line. refl }
sign-token semicolon (c ∷ cs) = record { first = 59; later = []; list = refl; piece = refl; one_line = λ line. refl }
sign-token comma [] = record { first = 44; later = []; list = refl; piece = refl; one_line = λ line. refl }
sign-token comma (c ∷ cs) = record { first = 44; later = []; list = refl; piece = refl; one_line = λ line. refl }
sign-token question [] = record { first = 63; later = []; list = refl; piece = refl; one_line = λ line. refl }
sign-token question (c ∷ cs) = record { first = 63; later = []; list = refl; piece = refl; one_line = λ line. refl }
sign-token colon [] = record { first = 58; later = []; list = refl; piece = refl; one_line = λ line. refl }
sign-token colon (c ∷ cs) = record { first = 58; later = []; list = refl; piece = refl; one_line = λ line. refl }
sign-token dot [] = record { first = 46; later = []; list = refl; piece = refl; one_line = λ line. refl }
sign-token dot (c ∷ cs) = record { first = 46; later = []; list = refl; piece = refl; one_line = λ line. refl }
sign-token star [] = record { first = 42; later = []; list = refl; piece = refl; one_line = λ line. refl }
sign-token star (c ∷ cs) = record { first = 42; later = []; list = refl; piece = refl; one_line = λ line. refl }

pub sign : {b l : ℕ} {rest : List ℕ} → LoneSign b → Reads (word (b ∷ [])) l (b ∷ rest) l rest
sign {b} {l} {rest} s = reads-word (b ∷ []) rest (sign-token s rest)

-- a spelling in parentheses, in brackets, and in braces
pub parens : {a : Spelling} {l m : ℕ} {x z : List ℕ} → Reads a l x m (41 ∷ z) → Reads (in_parens a) l (40 ∷ x) m z
parens reads = sign open_paren ▸ reads ▸ sign close_paren

pub brackets : {a : Spelling} {l m : ℕ} {x z : List ℕ} → Reads a l x m (93 ∷ z) → Reads (in_brackets a) l (91 ∷ x) m z
brackets reads = sign open_bracket ▸ reads ▸ sign close_bracket

pub braces : {a : Spelling} {l m : ℕ} {x z : List ℕ} → Reads a l x m (125 ∷ z) → Reads (in_braces a) l (123 ∷ x) m z
braces reads = sign open_brace ▸ reads ▸ sign close_brace

-- the signs of operators and comparisons, before a space
pub op-token : (op : BinOp) (rest : List ℕ) → IsTokenBefore (op_text op) (32 ∷ rest)
op-token Add rest = record { first = 43; later = []; list = refl; piece = refl; one_line = λ line. refl }
op-token Sub rest = record { first = 45; later = []; list = refl; piece = refl; one_line = λ line. refl }
op-token Mul rest = record { first = 42; later = []; list = refl; piece = refl; one_line = λ line. refl }
op-token Div rest = record { first = 47; later = []; list = refl; piece = refl; one_line = λ line. refl }
op-token Rem rest = record { first = 37; later = []; list = refl; piece = refl; one_line = λ line. refl }

pub compare-token : (how : Compare) (rest : List ℕ) → IsTokenBefore (compare_text how) (32 ∷ rest)
compare-token Eq rest = record { first = 61; later = 61 ∷ []; list = refl; piece = refl; one_line = λ line. refl }
compare-token Ne rest = record { first = 33; later = 61 ∷ []; list = refl; piece = refl; one_line = λ line. refl }
compare-token Lt rest = record { first = 60; later = []; list = refl; piece = refl; one_line = λ line. refl }
compare-token Le rest = record { first = 60; later = 61 ∷ []; list = refl; piece = refl; one_line = λ line. refl }
compare-token Ge rest = record { first = 62; later = 61 ∷ []; list = refl; piece = refl; one_line = λ line. refl }
compare-token Gt rest = record { first = 62; later = []; list = refl; piece = refl; one_line = λ line. refl }

-- a type before a `)` or a space
pub type-token_paren : (type : CType) (rest : List ℕ) → IsTokenBefore (type_text type) (41 ∷ rest)
type-token_paren I8 rest = record { first = 105; later = codes "nt8_t"; list = refl; piece = refl; one_line = λ line. refl }
type-token_paren U8 rest = record { first = 117; later = codes "int8_t"; list = refl; piece = refl; one_line = λ line. refl }
type-token_paren I16 rest = record { first = 105; later = codes "nt16_t"; list = refl; piece = refl; one_line = λ line. refl }
type-token_paren U16 rest = record { first = 117; later = codes "int16_t"; list = refl; piece = refl; one_line = λ line. refl }
type-token_paren I32 rest = record { first = 105; later = codes "nt32_t"; list = refl; piece = refl; one_line = λ line. refl }
type-token_paren U32 rest = record { first = 117; later = codes "int32_t"; list = refl; piece = refl; one_line = λ line. refl }
type-token_paren I64 rest = record { first = 105; later = codes "nt64_t"; list = refl; piece = refl; one_line = λ line. refl }

pub type-token_space : (type : CType) (rest : List ℕ) → IsTokenBefore (type_text type) (32 ∷ rest)
type-token_space I8 rest = record { first = 105; later = codes "nt8_t"; list = refl; piece = refl; one_line = λ line. refl }
type-token_space U8 rest = record { first = 117; later = codes "int8_t"; list = refl; piece = refl; one_line = λ line. refl }
type-token_space I16 rest = record { first = 105; later = codes "nt16_t"; list = refl; piece = refl; one_line = λ line. refl }
type-token_space U16 rest = record { first = 117; later = codes "int16_t"; list = refl; piece = refl; one_line = λ line. refl }
type-token_space I32 rest = record { first = 105; later = codes "nt32_t"; list = refl; piece = refl; one_line = λ line. refl }
type-token_space U32 rest = record { first = 117; later = codes "int32_t"; list = refl; piece = refl; one_line = λ line. refl }
type-token_space I64 rest = record { first = 105; later = codes "nt64_t"; list = refl; piece = refl; one_line = λ line. refl }

-- a cast
pub cast : {l : ℕ} {rest : List ℕ} (type : CType) → Reads (cast_spelling type) l (40 ∷ (type_text type ++ 41 ∷ rest)) l rest
cast {l} {rest} type = parens (reads-word (type_text type) (41 ∷ rest) (type-token_paren type rest))

-- `s->` and a name
pub own_start : {l : ℕ} {a : Spelling} {m : ℕ} {x z : List ℕ} → Reads a l x m z →
    Reads (word (codes "s") ⨾ word (codes "->") ⨾ a) l (115 ∷ 45 ∷ 62 ∷ x) m z
own_start {l} {a} {m} {x} {z} reads =
    reads-word (codes "s") (45 ∷ 62 ∷ x)
    (record { first = 115; later = []; list = refl; piece = refl; one_line = λ line. refl }) ▸ reads-word
    (codes "->") x (record { first = 45; later = 62 ∷ []; list = refl; piece = refl; one_line = λ line. refl }) ▸
    reads
