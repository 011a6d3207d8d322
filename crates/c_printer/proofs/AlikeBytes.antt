-- Bytes that C99 reads alike, whatever is before them and whatever of the same sort is after them.
use Rattle.std.proofs.Common.{◌≡◌, refl, sym, ◌∙◌, ap, subst, ℕ, zero, suc, ◌^◌, ◌<◌, Bool, true, false, not, ◌&&◌, ◌||◌, ◌==◌, List, [], ◌∷◌, ◌++◌, replicate, codes, decimal, eqb-true}
use Rattle.std.specs.List.{list_all, list_any}
use Rattle.std.specs.Char.{is_ascii_digit}
use Rattle.std.proofs.lemmas.List.{append_assoc}
use Rattle.base_core.specs.declared.base.Compare.{Compare}
use Rattle.base_core.specs.declared.base.Compare.TheVariants.{Eq, Ne, Lt, Le, Ge, Gt}
use Rattle.c_syntax.specs.declared.code.BinOp.{BinOp}
use Rattle.c_syntax.specs.declared.code.BinOp.TheVariants.{Add, Sub, Mul, Div, Rem}
use Rattle.c_syntax.specs.declared.code.CType.{CType}
use Rattle.c_syntax.specs.declared.code.CType.TheVariants.{I8, U8, I16, U16, I32, U32, I64}
use Rattle.c_syntax.specs.Names.{is_word_byte, is_name}
use Rattle.c_grammar.specs.Grammar.{type_text, op_text, compare_text}
use Rattle.c_rules.specs.AlikeTexts.{is_joining, joins, is_splice, begins_comment, is_alike_from}
use Rattle.c_printer.specs.Lines.{ended}
use Rattle.c_grammar.proofs.lemmas.LiteralLaws.{and_first, and_second, numeral}
use Rattle.c_printer.proofs.lemmas.Bytes.{differs, NameParts, name-parts}

-- after this byte no byte is joined to the one before it, and none joins lines
abbrev pub stands_apart : ℕ → List ℕ → Bool
stands_apart a [] = true
stands_apart a (b ∷ bs) = not (is_splice b) && (not (joins a b) && stands_apart b bs)

-- so there is no comment, and C99 reads it alike
comment-joins : (b c : ℕ) → ((b == 47) && (c == 42)) ≡ true → joins b c ≡ true
comment-joins b c both =
    let first : b ≡ 47 = eqb-true b 47 (and_first (b == 47) (c == 42) both) in
    let second : c ≡ 42 = eqb-true c 42 (and_second (b == 47) (c == 42) both) in
    subst (λ x. joins x c ≡ true) (sym first) (subst (λ y. joins 47 y ≡ true) (sym second) refl)

no-comment : (b c : ℕ) → not (joins b c) ≡ true → ((b == 47) && (c == 42)) ≡ false
no-comment b c apart = by ((b == 47) && (c == 42)) refl
  where
    by : (t : Bool) → ((b == 47) && (c == 42)) ≡ t → t ≡ false
    by false e = refl
    by true e = let wrong : false ≡ true = sym (ap not (comment-joins b c e)) ∙ apart in cc

-- whatever byte is before it, what begins with this byte and goes on with these is read alike
pub record GoesOn (b : ℕ) (bs : List ℕ) : Type 0 where
  pub alike : (before : ℕ) → not (is_splice b) ≡ true → is_alike_from 0 before (b ∷ bs) ≡ true

pub at-end : (b : ℕ) → GoesOn b []
at-end b = record { alike = λ before plain. ap (λ t. t && true) plain }

pub one-more : (a b : ℕ) (bs : List ℕ) → not (is_splice b) ≡ true → not (joins a b) ≡ true → GoesOn b bs →
    GoesOn a (b ∷ bs)
one-more a b bs plain free rest = record {
  alike = λ before whole.
      let none : begins_comment a (b ∷ bs) ≡ false = no-comment a b free in
      rw (none, whole, free) (rest.alike a plain);
}

-- ---- Bytes that go anywhere, and lines

-- where bytes begin: anywhere, or at the start of a line
pub data Place : Type 0 where
  anywhere line_start : Place

-- what begins there is read alike
abbrev pub IsAlikeAt : Place → List ℕ → Type 0
IsAlikeAt anywhere ys = (b : ℕ) → GoesOn b ys
IsAlikeAt line_start ys = GoesOn 10 ys

-- bytes from one place to another, before what is read alike there
pub record Spans (from to : Place) (xs : List ℕ) : Type 0 where
  pub apart : (ys : List ℕ) → IsAlikeAt to ys → IsAlikeAt from (xs ++ ys)

abbrev pub IsFree : List ℕ → Type 0
IsFree xs = Spans anywhere anywhere xs

abbrev pub AreLines : List ℕ → Type 0
AreLines xs = Spans line_start line_start xs

pub free-none : {place : Place} → Spans place place []
free-none = record { apart = λ ys behind. behind }

infixl 25 ◌◃◌
pub ◌◃◌ : {from by to : Place} {xs ys : List ℕ} → Spans from by xs → Spans by to ys → Spans from to (xs ++ ys)
◌◃◌ {from} {by} {to} {xs} {ys} f g = record {
  apart = λ zs behind. subst (IsAlikeAt from) (sym (append_assoc xs ys zs)) (f.apart (ys ++ zs) (g.apart zs behind));
}

-- what goes anywhere goes where a line begins
pub at-start : {to : Place} {xs : List ℕ} → Spans anywhere to xs → Spans line_start to xs
at-start f = record { apart = λ ys behind. f.apart ys behind 10 }

-- a text that begins with a byte that joins nothing, and has no joined ones
abbrev begins_free : List ℕ → Bool
begins_free [] = true
begins_free (b ∷ bs) = not (is_joining b) && (not (is_splice b) && stands_apart b bs)

pub goes-on : (a : ℕ) (xs ys : List ℕ) → stands_apart a xs ≡ true → ((b : ℕ) → GoesOn b ys) → GoesOn a (xs ++ ys)
goes-on a [] ys first behind = behind a
goes-on a (b ∷ bs) ys first behind =
    let rest : (not (joins a b) && stands_apart b bs) ≡ true =
    and_second (not (is_splice b)) (not (joins a b) && stands_apart b bs) first in
    one-more a b (bs ++ ys) (and_first (not (is_splice b)) (not (joins a b) && stands_apart b bs) first)
    (and_first (not (joins a b)) (stands_apart b bs) rest)
    (goes-on b bs ys (and_second (not (joins a b)) (stands_apart b bs) rest) behind)

-- what joins nothing isn't joined
pub not-joined : (a b : ℕ) → not (is_joining b) ≡ true → not (joins a b) ≡ true
not-joined a b free = by (is_joining b) refl
  where
    by : (t : Bool) → is_joining b ≡ t → not (joins a b) ≡ true
    by false e = rw e refl
    by true e = let wrong : false ≡ true = sym (ap not e) ∙ free in cc

pub text-free : (xs : List ℕ) → begins_free xs ≡ true → IsFree xs
text-free [] h = free-none
text-free (b ∷ bs) h = record {
  apart = λ ys behind a.
      let rest : (not (is_splice b) && stands_apart b bs) ≡ true =
      and_second (not (is_joining b)) (not (is_splice b) && stands_apart b bs) h in
      one-more a b (bs ++ ys) (and_first (not (is_splice b)) (stands_apart b bs) rest)
      (not-joined a b (and_first (not (is_joining b)) (not (is_splice b) && stands_apart b bs) h))
      (goes-on b bs ys (and_second (not (is_splice b)) (stands_apart b bs) rest) behind);
}

-- the end of a line
pub line-end : Spans anywhere line_start (10 ∷ [])
line-end = record { apart = λ ys behind a. one-more a 10 ys refl (not-joined a 10 refl) behind }

-- a text and the end of its line
pub line-free : (xs : List ℕ) → begins_free xs ≡ true → Spans anywhere line_start (ended xs)
line-free xs h = text-free xs h ◃ line-end

-- ---- Words and numbers

-- a byte that passes a test is none of those that fail it
none-of : (test : ℕ → Bool) (signs : List ℕ) (b : ℕ) → test b ≡ true → list_all (λ s. not (test s)) signs ≡ true →
    list_any (λ s. s == b) signs ≡ false
none-of test [] b passes fail = refl
none-of test (s ∷ signs) b passes fail =
    let here : test s ≡ false = not-true (test s) (and_first (not (test s)) (list_all (λ t. not (test t)) signs) fail) in
    let apart : (s == b) ≡ false = other s here in
    ap (λ t. t || list_any (λ t. t == b) signs) apart
    ∙ none-of test signs b passes (and_second (not (test s)) (list_all (λ t. not (test t)) signs) fail)
  where
    not-true : (t : Bool) → not t ≡ true → t ≡ false
    not-true false e = refl
    not-true true e = cc

    other : (s : ℕ) → test s ≡ false → (s == b) ≡ false
    other s fails = by (s == b) refl
      where
        by : (t : Bool) → (s == b) ≡ t → t ≡ false
        by false e = refl
        by true e = let wrong : false ≡ true = sym fails ∙ ap test (eqb-true s b e) ∙ passes in cc

passing-free : (test : ℕ → Bool) → list_all (λ s. not (test s)) (codes "!#%&*+-/:<=>?^|") ≡ true → test 92 ≡ false →
    (xs : List ℕ) → list_all test xs ≡ true → IsFree xs
passing-free test signs splice [] all = free-none
passing-free test signs splice (b ∷ bs) all =
    let here : test b ≡ true = and_first (test b) (list_all test bs) all in
    let rest : IsFree bs = passing-free test signs splice bs (and_second (test b) (list_all test bs) all) in
    record {
      apart = λ ys behind a.
          one-more a b (bs ++ ys) (ap not (differs test b 92 here splice))
          (not-joined a b (ap not (none-of test (codes "!#%&*+-/:<=>?^|") b here signs))) (rest.apart ys behind b);
    }

-- letters, digits and `_` alone
abbrev pub AreWordBytes : List ℕ → Type 0
AreWordBytes xs = list_all is_word_byte xs ≡ true

pub word-free : (xs : List ℕ) → AreWordBytes xs → IsFree xs
word-free xs all = passing-free is_word_byte refl refl xs all

pub name-bytes : (name : List ℕ) → is_name name ≡ true → AreWordBytes name
name-bytes name h = let p : NameParts name = name-parts name h in subst AreWordBytes (sym p.list) p.bytes

pub decimal-free : (n : ℕ) → n < 2 ^ 64 → IsFree (decimal n)
decimal-free n small = passing-free is_ascii_digit refl refl (decimal n) (numeral n small).all

pub margin-free : (n : ℕ) → IsFree (replicate n 32)
margin-free zero = free-none
margin-free (suc n) = text-free (32 ∷ []) refl ◃ margin-free n

-- ---- Texts of types and operators

pub type-free : (type : CType) → IsFree (type_text type)
type-free I8 = text-free (type_text I8) refl
type-free U8 = text-free (type_text U8) refl
type-free I16 = text-free (type_text I16) refl
type-free U16 = text-free (type_text U16) refl
type-free I32 = text-free (type_text I32) refl
type-free U32 = text-free (type_text U32) refl
type-free I64 = text-free (type_text I64) refl

-- after free bytes, two texts that are free together
pub joined : {from : Place} {xs : List ℕ} (t u : List ℕ) → Spans from anywhere xs → begins_free (t ++ u) ≡ true →
    Spans from anywhere (xs ++ t ++ u)
joined {from} {xs} t u f both = subst (Spans from anywhere) (sym (append_assoc xs t u)) (f ◃ text-free (t ++ u) both)

pub op-free : (op : BinOp) {xs : List ℕ} → IsFree xs → IsFree (xs ++ codes " " ++ op_text op ++ codes " ")
op-free Add f = joined (codes " ") (op_text Add) f refl ◃ text-free (codes " ") refl
op-free Sub f = joined (codes " ") (op_text Sub) f refl ◃ text-free (codes " ") refl
op-free Mul f = joined (codes " ") (op_text Mul) f refl ◃ text-free (codes " ") refl
op-free Div f = joined (codes " ") (op_text Div) f refl ◃ text-free (codes " ") refl
op-free Rem f = joined (codes " ") (op_text Rem) f refl ◃ text-free (codes " ") refl

pub compare-free : (how : Compare) {xs : List ℕ} → IsFree xs → IsFree (xs ++ codes " " ++ compare_text how ++ codes " ")
compare-free Eq f = joined (codes " ") (compare_text Eq) f refl ◃ text-free (codes " ") refl
compare-free Ne f = joined (codes " ") (compare_text Ne) f refl ◃ text-free (codes " ") refl
compare-free Lt f = joined (codes " ") (compare_text Lt) f refl ◃ text-free (codes " ") refl
compare-free Le f = joined (codes " ") (compare_text Le) f refl ◃ text-free (codes " ") refl
compare-free Ge f = joined (codes " ") (compare_text Ge) f refl ◃ text-free (codes " ") refl
compare-free Gt f = joined (codes " ") (compare_text Gt) f refl ◃ text-free (codes " ") refl
