-- Each text that the needs let through is one that the grammar takes.
use Rattle.std.proofs.Common.{◌≡◌, refl, sym, ◌∙◌, ap, ℕ, suc, ◌^◌, ◌<◌, List, [], ◌∷◌, length, map, Bool, true, false, not, ◌&&◌, ◌||◌, ◌==◌, nat_lt, nat_le, codes, bytes_eq, decimal, arith}
use Rattle.std.specs.List.{list_all}
use Rattle.std.specs.Char.{is_ascii_digit}
use Rattle.std.proofs.lemmas.Bool.{leb-true, le-leb, eq-eqb}
use Rattle.std.proofs.lemmas.Str.Parse.{IsDigitsTest, FoldsDigits, numerals_by_fold}
use Rattle.std.proofs.lemmas.Fmt.{decimal-digits_value}
use Rattle.std.proofs.lemmas.Slice.Eq.{bytes_eq-Decides}
use Rattle.base_core.specs.declared.base.Compare.{Compare}
use Rattle.base_core.specs.declared.base.Compare.TheVariants.{Eq, Ne, Lt, Le, Ge, Gt}
use Rattle.c_syntax.specs.declared.code.BinOp.{BinOp}
use Rattle.c_syntax.specs.declared.code.BinOp.TheVariants.{Add, Sub, Mul, Div, Rem}
use Rattle.c_syntax.specs.declared.code.CType.{CType}
use Rattle.c_syntax.specs.declared.code.CType.TheVariants.{I8, U8, I16, U16, I32, U32, I64}
use Rattle.c_grammar.specs.Grammar.{type_text, op_text, compare_text}
use Rattle.c_grammar.specs.Prefix.{is_one_of, is_type, is_op, is_comparison, is_connective, is_literal, digits_value}

-- a text among those of some things is that of one of them
found : {A : Type 0} (f : A → List ℕ) (xs : List A) (text : List ℕ) → is_one_of (map f xs) text ≡ true → (x : A) × (text ≡ f x)
found f [] text e = cc
found f (x ∷ xs) text e = by (bytes_eq text (f x)) refl e (λ k. found f xs text k)
  where
    by : (b : Bool) → bytes_eq text (f x) ≡ b → (b || is_one_of (map f xs) text) ≡ true →
        (is_one_of (map f xs) text ≡ true → (y : _) × (text ≡ f y)) → (y : _) × (text ≡ f y)
    by true is k later = (x, (bytes_eq-Decides text (f x)).0 is)
    by false is k later = later k

pub is_type-text : (text : List ℕ) → is_type text ≡ true → (type : CType) × (text ≡ type_text type)
is_type-text text e = found type_text (I8 ∷ U8 ∷ I16 ∷ U16 ∷ I32 ∷ U32 ∷ I64 ∷ []) text e

pub is_op-text : (text : List ℕ) → is_op text ≡ true → (op : BinOp) × (text ≡ op_text op)
is_op-text text e = found op_text (Add ∷ Sub ∷ Mul ∷ Div ∷ Rem ∷ []) text e

pub is_comparison-text : (text : List ℕ) → is_comparison text ≡ true → (how : Compare) × (text ≡ compare_text how)
is_comparison-text text e = found compare_text (Eq ∷ Ne ∷ Lt ∷ Le ∷ Gt ∷ Ge ∷ []) text e

abbrev pub connective_text : Bool → List ℕ
connective_text true = codes "&&"
connective_text false = codes "||"

pub is_connective-text : (text : List ℕ) → is_connective text ≡ true → (both : Bool) × (text ≡ connective_text both)
is_connective-text text e = found connective_text (true ∷ false ∷ []) text e

split : (a b : Bool) → (a && b) ≡ true → (a ≡ true) × (b ≡ true)
split true b e = (refl, e)
split false b e = cc

join : (a b : Bool) → a ≡ true → b ≡ true → (a && b) ≡ true
join true b e d = d
join false b e d = e

digits_test : IsDigitsTest (λ ds. list_all is_ascii_digit ds ≡ true)
digits_test = record {
  empty = refl;
  parts = λ c cs e. let k : _ = split (is_ascii_digit c) (list_all is_ascii_digit cs) e in let m : _ =
      split (nat_le 48 c) (nat_le c 57) k.0 in ((leb-true 48 c m.0, leb-true c 57 m.1), k.1);
  more = λ c cs k e. join (is_ascii_digit c) (list_all is_ascii_digit cs)
      (join (nat_le 48 c) (nat_le c 57) (le-leb 48 c k.0) (le-leb c 57 k.1)) e;
}

digits_fold : FoldsDigits digits_value
digits_fold = record { empty = λ n. refl; more = λ n c cs k. ap (λ m. digits_value m cs) (omega arith) }

-- digits without a leading 0 are their value, written in decimal
pub is_literal-text : (text : List ℕ) → is_literal text ≡ true → (value : ℕ) × (nat_lt value (2 ^ 63) ≡ true) × (decimal value ≡ text)
is_literal-text [] e = cc
is_literal-text (d ∷ ds) e =
    let k : _ =
    split (list_all is_ascii_digit (d ∷ ds) && (bytes_eq (d ∷ ds) (codes "0") || not (d == 48)))
    (nat_lt (digits_value 0 (d ∷ ds)) (2 ^ 63)) e in
    let m : _ = split (list_all is_ascii_digit (d ∷ ds)) (bytes_eq (d ∷ ds) (codes "0") || not (d == 48)) k.0 in
    let small : digits_value 0 (d ∷ ds) < 2 ^ 63 = leb-true (suc (digits_value 0 (d ∷ ds))) (2 ^ 63) k.1 in (
      digits_value 0 (d ∷ ds),
      k.1,
      decimal-digits_value
          (numerals_by_fold (λ xs. list_all is_ascii_digit xs ≡ true) digits_test digits_value digits_fold) (d ∷ ds) m.0
          (omega arith) (λ zero. alone (bytes_eq (d ∷ ds) (codes "0")) refl zero m.1) (omega (arith, small)),
    )
  where
    alone : (b : Bool) → bytes_eq (d ∷ ds) (codes "0") ≡ b → d ≡ 48 → (b || not (d == 48)) ≡ true → length (d ∷ ds) ≡ 1
    alone true is zero h = ap length ((bytes_eq-Decides (d ∷ ds) (codes "0")).0 is)
    alone false is zero h = cc (sym h ∙ ap not (eq-eqb d 48 zero))
