-- Spellings that read the front of a text.
use Rattle.std.proofs.Common.{◌≡◌, refl, sym, ◌∙◌, ap, subst, ℕ, suc, ◌+◌, ◌^◌, ◌<◌, List, [], ◌∷◌, ◌++◌, true, Some, None, map, codes, decimal, if◌then◌else◌, option_and_then}
use Rattle.std.specs.Prelude.{flat_map}
use Rattle.std.specs.List.{list_all, AllByRecursion}
use Rattle.std.proofs.lemmas.Bool.{le-leb, eq-eqb}
use Rattle.std.proofs.lemmas.List.{append_assoc}
use Rattle.base_core.specs.Numbers.{reported_number}
use Rattle.c_grammar.specs.Tokens.{Token}
use Rattle.c_grammar.specs.Grammar.{Spelling, ◌⨾◌, nothing, never, word, at_line, literal_word, in_parens}
use Rattle.c_syntax.specs.Names.{is_word_byte, starts_lower}
use Rattle.c_syntax.proofs.lemmas.NamePlaces.{bytes_eq-same}
use Rattle.lustre_syntax.specs.Names.{is_lustre_name}
use Rattle.lustre_syntax.specs.declared.code.LusOp.{LusOp}
use Rattle.lustre_syntax.specs.declared.code.LusOp.TheVariants.{Add, Sub, Mul, Div, Mod, Eq, Ne, Lt, Le, Gt, Ge, And, Or}
use Rattle.lustre_grammar.specs.Tokens.{tokens_from}
use Rattle.lustre_grammar.specs.Grammar.{name_word, op_text, each_after, parted_by}
use Rattle.lustre_printer.specs.Printing.{parted}
use Rattle.lustre_printer.proofs.Lexing.{IsTokenBefore, tokens_from-token, Ends, word-token, name-token, decimal-token}

-- from this text at this line the spelling leaves that one at that line
pub record Reads (spelling : Spelling) (line : ℕ) (text : List ℕ) (end_line : ℕ) (rest : List ℕ) : Type 0 where
  pub is : spelling (tokens_from 0 line text) ≡ Some (tokens_from 0 end_line rest)

-- one spelling and then another
infixr 25 ◌▸◌
pub ◌▸◌ : {a b : Spelling} {l m n : ℕ} {x y z : List ℕ} → Reads a l x m y → Reads b m y n z → Reads (a ⨾ b) l x n z
◌▸◌ {a} {b} first second = record { is = ap (option_and_then b) first.is ∙ second.is }

-- the same text, otherwise put together
pub along : {a : Spelling} {l m : ℕ} {x y z : List ℕ} → x ≡ y → Reads a l y m z → Reads a l x m z
along {a} {l} {m} {x} {y} {z} same reads = subst (λ t. Reads a l t m z) (sym same) reads

-- the same end
pub ending : {a : Spelling} {l m n : ℕ} {x z : List ℕ} → m ≡ n → Reads a l x m z → Reads a l x n z
ending {a} {l} {m} {n} {x} {z} same reads = subst (λ k. Reads a l x k z) same reads

-- nothing is read
pub reads-nothing : {l : ℕ} {x : List ℕ} → Reads nothing l x l x
reads-nothing = record { is = refl }

-- a space before a text
pub spaced : {a : Spelling} {l m : ℕ} {x z : List ℕ} → Reads a l x m z → Reads a l (32 ∷ x) m z
spaced reads = record { is = reads.is }

-- a line end before a text, and after it
pub lined : {a : Spelling} {l m : ℕ} {x z : List ℕ} → Reads a (l + 1) x m z → Reads a l (10 ∷ x) m z
lined reads = record { is = reads.is }

pub line_ended : {a : Spelling} {l m : ℕ} {x z : List ℕ} → Reads a l x m (10 ∷ z) → Reads a l x (m + 1) z
line_ended reads = record { is = reads.is }

-- one token
pub reads-word : {l : ℕ} (text rest : List ℕ) → IsTokenBefore text rest → Reads (word text) l (text ++ rest) l rest
reads-word {l} text rest t = record {
  is = ap (word text) (tokens_from-token text rest l t) ∙ ap (λ b. if b then Some (tokens_from 0 l rest) else None) (bytes_eq-same text);
}

-- the same, where its line is asked for
pub reads-line : {a : Spelling} {l m : ℕ} {z : List ℕ} (text rest : List ℕ) → IsTokenBefore text rest →
    Reads a l (text ++ rest) m z → Reads (at_line (reported_number l) a) l (text ++ rest) m z
reads-line {a} {l} {m} {z} text rest t reads = record {
  is = ap (at_line (reported_number l) a) front
      ∙ ap (λ b. if b then a (first ∷ tokens_from 0 l rest) else None)
      (eq-eqb (reported_number l) (reported_number l) refl) ∙ sym (ap a front) ∙ reads.is;
}
  where
    first : Token
    first = record { text = text; line = reported_number l }

    front : tokens_from 0 l (text ++ rest) ≡ first ∷ tokens_from 0 l rest
    front = tokens_from-token text rest l t

-- a word of the grammar
pub keyword : {l : ℕ} (text rest : List ℕ) → starts_lower text ≡ true → list_all is_word_byte text ≡ true → Ends rest →
    Reads (word text) l (text ++ rest) l rest
keyword text rest lower bytes ends = reads-word text rest (word-token text rest lower bytes ends)

-- a name, and one on its line
pub reads-name : {l : ℕ} (name rest : List ℕ) → is_lustre_name name ≡ true → Ends rest → Reads (name_word name) l (name ++ rest) l rest
reads-name {l} name rest h ends = record {
  is = ap (λ b. (if b then word name else never) (tokens_from 0 l (name ++ rest))) h
      ∙ (reads-word name rest (name-token name rest h ends)).is;
}

pub reads-name_line : {l : ℕ} (name rest : List ℕ) → is_lustre_name name ≡ true → Ends rest →
    Reads (at_line (reported_number l) (name_word name)) l (name ++ rest) l rest
reads-name_line name rest h ends = reads-line name rest (name-token name rest h ends) (reads-name name rest h ends)

-- a number
pub reads-literal : {l : ℕ} (n : ℕ) (rest : List ℕ) → n < 2 ^ 63 → Ends rest → Reads (literal_word n) l (decimal n ++ rest) l rest
reads-literal {l} n rest small ends = record {
  is = ap (λ b. (if b then word (decimal n) else never) (tokens_from 0 l (decimal n ++ rest)))
      (le-leb (suc n) (2 ^ 63) small) ∙ (reads-word (decimal n) rest (decimal-token n rest small ends)).is;
}

-- a sign that is part of no longer one, whatever follows
pub data LoneSign : ℕ → Type 0 where
  open_paren : LoneSign 40
  close_paren : LoneSign 41
  semicolon : LoneSign 59
  comma : LoneSign 44
  colon : LoneSign 58

sign-token : {b : ℕ} → LoneSign b → (rest : List ℕ) → IsTokenBefore (b ∷ []) rest
sign-token open_paren [] = record { first = 40; later = []; list = refl; piece = refl; one_line = λ line. refl }
sign-token open_paren (c ∷ cs) = record { first = 40; later = []; list = refl; piece = refl; one_line = λ line. refl }
sign-token close_paren [] = record { first = 41; later = []; list = refl; piece = refl; one_line = λ line. refl }
sign-token close_paren (c ∷ cs) = record { first = 41; later = []; list = refl; piece = refl; one_line = λ line. refl }
sign-token semicolon [] = record { first = 59; later = []; list = refl; piece = refl; one_line = λ line. refl }
sign-token semicolon (c ∷ cs) = record { first = 59; later = []; list = refl; piece = refl; one_line = λ line. refl }
sign-token comma [] = record { first = 44; later = []; list = refl; piece = refl; one_line = λ line. refl }
sign-token comma (c ∷ cs) = record { first = 44; later = []; list = refl; piece = refl; one_line = λ line. refl }
sign-token colon [] = record { first = 58; later = []; list = refl; piece = refl; one_line = λ line. refl }
sign-token colon (c ∷ cs) = record { first = 58; later = []; list = refl; piece = refl; one_line = λ line. refl }

pub sign : {b l : ℕ} {rest : List ℕ} → LoneSign b → Reads (word (b ∷ [])) l (b ∷ rest) l rest
sign {b} {l} {rest} s = reads-word (b ∷ []) rest (sign-token s rest)

-- words and numbers end before these bytes
pub ends-space : (z : List ℕ) → Ends (32 ∷ z)
ends-space z = record { word = refl; number = refl }

pub ends-line : (z : List ℕ) → Ends (10 ∷ z)
ends-line z = record { word = refl; number = refl }

pub ends-sign : {b : ℕ} → LoneSign b → (z : List ℕ) → Ends (b ∷ z)
ends-sign open_paren z = record { word = refl; number = refl }
ends-sign close_paren z = record { word = refl; number = refl }
ends-sign semicolon z = record { word = refl; number = refl }
ends-sign comma z = record { word = refl; number = refl }
ends-sign colon z = record { word = refl; number = refl }

-- a spelling in parentheses
pub parens : {a : Spelling} {l m : ℕ} {x z : List ℕ} → Reads a l x m (41 ∷ z) → Reads (in_parens a) l (40 ∷ x) m z
parens reads = sign open_paren ▸ reads ▸ sign close_paren

-- operators, the sign of an equation, and an arrow, before a space
pub op-token : (op : LusOp) (rest : List ℕ) → IsTokenBefore (op_text op) (32 ∷ rest)
op-token Add rest = record { first = 43; later = []; list = refl; piece = refl; one_line = λ line. refl }
op-token Sub rest = record { first = 45; later = []; list = refl; piece = refl; one_line = λ line. refl }
op-token Mul rest = record { first = 42; later = []; list = refl; piece = refl; one_line = λ line. refl }
op-token Div rest = word-token (codes "div") (32 ∷ rest) refl refl (ends-space rest)
op-token Mod rest = word-token (codes "mod") (32 ∷ rest) refl refl (ends-space rest)
op-token Eq rest = record { first = 61; later = []; list = refl; piece = refl; one_line = λ line. refl }
op-token Ne rest = record { first = 60; later = 62 ∷ []; list = refl; piece = refl; one_line = λ line. refl }
op-token Lt rest = record { first = 60; later = []; list = refl; piece = refl; one_line = λ line. refl }
op-token Le rest = record { first = 60; later = 61 ∷ []; list = refl; piece = refl; one_line = λ line. refl }
op-token Gt rest = record { first = 62; later = []; list = refl; piece = refl; one_line = λ line. refl }
op-token Ge rest = record { first = 62; later = 61 ∷ []; list = refl; piece = refl; one_line = λ line. refl }
op-token And rest = word-token (codes "and") (32 ∷ rest) refl refl (ends-space rest)
op-token Or rest = word-token (codes "or") (32 ∷ rest) refl refl (ends-space rest)

pub arrow-token : (rest : List ℕ) → IsTokenBefore (codes "->") (32 ∷ rest)
arrow-token rest = record { first = 45; later = 62 ∷ []; list = refl; piece = refl; one_line = λ line. refl }

-- things with a sign and a space between each two
module _ {A B : Type 0} {mark : ℕ} (is_sign : LoneSign mark) (text : A → List ℕ) (spelling : B → Spelling) (written : A → B)
    (Fine : A → Type 0) (l : ℕ)
    (one : (x : A) → Fine x → (rest : List ℕ) → Ends rest → Reads (spelling (written x)) l (text x ++ rest) l rest) where
  -- what is after the first thing
  abbrev pub later_text : List A → List ℕ
  later_text xs = flat_map (λ u. (mark ∷ 32 ∷ []) ++ u) (map text xs)

  pub ends-later : (xs : List A) (rest : List ℕ) → Ends rest → Ends (later_text xs ++ rest)
  ends-later [] rest ends = ends
  ends-later (x ∷ xs) rest ends = ends-sign is_sign (32 ∷ (text x ++ later_text xs) ++ rest)

  pub later-read : (xs : List A) → AllByRecursion Fine xs → (rest : List ℕ) → Ends rest →
      Reads (each_after (mark ∷ []) spelling (map written xs)) l (later_text xs ++ rest) l rest
  later-read [] fine rest ends = reads-nothing
  later-read (x ∷ xs) fine rest ends =
      along (ap (λ t. mark ∷ 32 ∷ t) (append_assoc (text x) (later_text xs) rest))
      (sign is_sign ▸ spaced (one x fine.0 (later_text xs ++ rest) (ends-later xs rest ends)) ▸ later-read xs fine.1 rest ends)

  pub parted-read : (xs : List A) → AllByRecursion Fine xs → (rest : List ℕ) → Ends rest →
      Reads (parted_by (mark ∷ []) spelling (map written xs)) l (parted (mark ∷ 32 ∷ []) (map text xs) ++ rest) l rest
  parted-read [] fine rest ends = reads-nothing
  parted-read (x ∷ xs) fine rest ends =
      along (append_assoc (text x) (later_text xs) rest)
      (one x fine.0 (later_text xs ++ rest) (ends-later xs rest ends) ▸ later-read xs fine.1 rest ends)
