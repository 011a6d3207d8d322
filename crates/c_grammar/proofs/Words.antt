-- What the parse of words and leaves answers is what the needs say.
use Rattle.std.proofs.Common.{suc, ◌<◌, arith, ◌≡◌, refl, sym, ◌∙◌, ap, ℕ, ◌^◌, List, [], ◌∷◌, Bool, true, false, ◌||◌, nat_lt, Option, Some, None, Ok, codes, bytes_eq, decimal, if◌then◌else◌}
use Rattle.std.proofs.lemmas.Slice.Eq.{bytes_eq-Decides}
use Rattle.base_core.specs.declared.base.Compare.TheVariants.{Eq, Ne, Lt, Le, Ge, Gt}
use Rattle.c_syntax.specs.declared.code.BinOp.TheVariants.{Add, Sub, Mul, Div, Rem}
use Rattle.c_syntax.specs.declared.code.CType.{CType}
use Rattle.c_syntax.specs.declared.code.CType.TheVariants.{I8, U8, I16, U16, I32, U32, I64}
use Rattle.c_syntax.specs.declared.fault.CFault.{CFault}
use Rattle.c_grammar.specs.Tokens.{Token}
use Rattle.c_syntax.specs.Names.{is_name}
use Rattle.c_grammar.specs.Grammar.{word, name_word, literal_word, type_text, op_text, compare_text, cast_spelling}
use Rattle.c_grammar.specs.Prefix.{Need, text_need, name_need, literal_need, type_need, leaves, with_needs, only_if, on_reply, is_type, is_op, is_comparison, is_literal, digits_value, token_fault}
use Rattle.base_core.specs.Results.{◌>>=◌, ◌>>◌}
use Rattle.c_grammar.specs.Parsing.{or_syntax, or_syntax_unless, type_of_text, op_of_text, compare_of_text, parse_word, parse_name, parse_type, parse_literal, parse_cast, parse_field_name}
use Rattle.c_grammar.proofs.lemmas.Texts.{is_literal-text}
use Rattle.c_grammar.proofs.lemmas.LiteralLaws.{numeral}
use Rattle.std.proofs.lemmas.Bool.{leb-true}
use Rattle.c_grammar.proofs.Answering.{Answers, Reads, chain, turned}

pub same-text : (text : List ℕ) → bytes_eq text text ≡ true
same-text text = (bytes_eq-Decides text text).1 refl

-- what a table finds is written so, and only what it finds passes the test
abbrev pub Found : {X : Type 0} → (X → List ℕ) → List ℕ → Option X → Bool → Type 0
Found text_of text (Some x) b = (text ≡ text_of x) × (b ≡ true)
Found text_of text None b = b ≡ false

pub type-found : (text : List ℕ) → Found type_text text (type_of_text text) (is_type text)
type-found text =
    by (bytes_eq text (codes "int8_t")) (bytes_eq text (codes "uint8_t")) (bytes_eq text (codes "int16_t"))
    (bytes_eq text (codes "uint16_t")) (bytes_eq text (codes "int32_t")) (bytes_eq text (codes "uint32_t"))
    (bytes_eq text (codes "int64_t")) ((bytes_eq-Decides text (codes "int8_t")).0)
    ((bytes_eq-Decides text (codes "uint8_t")).0) ((bytes_eq-Decides text (codes "int16_t")).0)
    ((bytes_eq-Decides text (codes "uint16_t")).0) ((bytes_eq-Decides text (codes "int32_t")).0)
    ((bytes_eq-Decides text (codes "uint32_t")).0) ((bytes_eq-Decides text (codes "int64_t")).0)
  where
    by : (a b c d e f g : Bool) → (a ≡ true → text ≡ codes "int8_t") → (b ≡ true → text ≡ codes "uint8_t") →
        (c ≡ true → text ≡ codes "int16_t") → (d ≡ true → text ≡ codes "uint16_t") →
        (e ≡ true → text ≡ codes "int32_t") → (f ≡ true → text ≡ codes "uint32_t") →
        (g ≡ true → text ≡ codes "int64_t") →
        Found type_text text (if a then Some I8
        else (if b then Some U8
        else (if c then Some I16
        else (if d then Some U16
        else (if e then Some I32 else (if f then Some U32 else (if g then Some I64 else None)))))))
        (a || (b || (c || (d || (e || (f || (g || false)))))))
    by true b c d e f g p q r s t u v = (p refl, refl)
    by false true c d e f g p q r s t u v = (q refl, refl)
    by false false true d e f g p q r s t u v = (r refl, refl)
    by false false false true e f g p q r s t u v = (s refl, refl)
    by false false false false true f g p q r s t u v = (t refl, refl)
    by false false false false false true g p q r s t u v = (u refl, refl)
    by false false false false false false true p q r s t u v = (v refl, refl)
    by false false false false false false false p q r s t u v = refl

pub op-found : (text : List ℕ) → Found op_text text (op_of_text text) (is_op text)
op-found text =
    by (bytes_eq text (codes "+")) (bytes_eq text (codes "-")) (bytes_eq text (codes "*")) (bytes_eq text (codes "/"))
    (bytes_eq text (codes "%")) ((bytes_eq-Decides text (codes "+")).0) ((bytes_eq-Decides text (codes "-")).0)
    ((bytes_eq-Decides text (codes "*")).0) ((bytes_eq-Decides text (codes "/")).0)
    ((bytes_eq-Decides text (codes "%")).0)
  where
    by : (a b c d e : Bool) → (a ≡ true → text ≡ codes "+") → (b ≡ true → text ≡ codes "-") →
        (c ≡ true → text ≡ codes "*") → (d ≡ true → text ≡ codes "/") → (e ≡ true → text ≡ codes "%") →
        Found op_text text (if a then Some Add
        else (if b then Some Sub
        else (if c then Some Mul else (if d then Some Div else (if e then Some Rem else None)))))
        (a || (b || (c || (d || (e || false)))))
    by true b c d e p q r s t = (p refl, refl)
    by false true c d e p q r s t = (q refl, refl)
    by false false true d e p q r s t = (r refl, refl)
    by false false false true e p q r s t = (s refl, refl)
    by false false false false true p q r s t = (t refl, refl)
    by false false false false false p q r s t = refl

pub compare-found : (text : List ℕ) → Found compare_text text (compare_of_text text) (is_comparison text)
compare-found text =
    by (bytes_eq text (codes "==")) (bytes_eq text (codes "!=")) (bytes_eq text (codes "<"))
    (bytes_eq text (codes "<=")) (bytes_eq text (codes ">=")) (bytes_eq text (codes ">"))
    ((bytes_eq-Decides text (codes "==")).0) ((bytes_eq-Decides text (codes "!=")).0)
    ((bytes_eq-Decides text (codes "<")).0) ((bytes_eq-Decides text (codes "<=")).0)
    ((bytes_eq-Decides text (codes ">=")).0) ((bytes_eq-Decides text (codes ">")).0)
  where
    by : (a b c d e f : Bool) → (a ≡ true → text ≡ codes "==") → (b ≡ true → text ≡ codes "!=") →
        (c ≡ true → text ≡ codes "<") → (d ≡ true → text ≡ codes "<=") → (e ≡ true → text ≡ codes ">=") →
        (f ≡ true → text ≡ codes ">") →
        Found compare_text text (if a then Some Eq
        else (if b then Some Ne
        else (if c then Some Lt else (if d then Some Le else (if e then Some Ge else (if f then Some Gt else None))))))
        (a || (b || (c || (d || (f || (e || false))))))
    by true b c d e f p q r s t u = (p refl, refl)
    by false true c d e f p q r s t u = (q refl, refl)
    by false false true d e f p q r s t u = (r refl, refl)
    by false false false true e f p q r s t u = (s refl, refl)
    by false false false false true true p q r s t u = (t refl, refl)
    by false false false false true false p q r s t u = (t refl, refl)
    by false false false false false true p q r s t u = (u refl, refl)
    by false false false false false false p q r s t u = refl

module _ (last : ℕ) where
  pub word-reads : (text : List ℕ) (now : Option CFault) (more : List Need) (tokens : List Token) →
      now ≡ token_fault (text_need text ∷ more) last tokens →
      Answers now (Reads last now (λ _. word text) more tokens) (parse_word last text tokens)
  word-reads text now more [] h = record { is = h }
  word-reads text now more (t ∷ tokens) h = by (bytes_eq t.text text) refl h
    where
      by : (b : Bool) → bytes_eq t.text text ≡ b →
          now ≡ on_reply (with_needs (only_if b (leaves [])) more) t.line (λ left. token_fault left last tokens) →
          Answers now (Reads last now (λ _. word text) more (t ∷ tokens)) (or_syntax_unless t b >> Ok (tt {0}, tokens))
      by true e k = record { is = record { spelled = rw e refl; goes = k } }
      by false e k = record { is = k }

  pub name-reads : (now : Option CFault) (more : List Need) (tokens : List Token) →
      now ≡ token_fault (name_need ∷ more) last tokens →
      Answers now (Reads last now name_word more tokens) (parse_name last tokens)
  name-reads now more [] h = record { is = h }
  name-reads now more (t ∷ tokens) h = by (is_name t.text) refl h
    where
      by : (b : Bool) → is_name t.text ≡ b →
          now ≡ on_reply (with_needs (only_if b (leaves [])) more) t.line (λ left. token_fault left last tokens) →
          Answers now (Reads last now name_word more (t ∷ tokens)) (or_syntax_unless t b >> Ok (t.text, tokens))
      by true e k = record { is = record { spelled = rw (e, same-text t.text) refl; goes = k } }
      by false e k = record { is = k }

  pub type-reads : (now : Option CFault) (more : List Need) (tokens : List Token) →
      now ≡ token_fault (type_need ∷ more) last tokens →
      Answers now (Reads last now (λ type. word (type_text type)) more tokens) (parse_type last tokens)
  type-reads now more [] h = record { is = h }
  type-reads now more (t ∷ tokens) h = by (type_of_text t.text) (is_type t.text) (type-found t.text) h
    where
      by : (o : Option CType) (b : Bool) → Found type_text t.text o b →
          now ≡ on_reply (with_needs (only_if b (leaves [])) more) t.line (λ left. token_fault left last tokens) →
          Answers now (Reads last now (λ type. word (type_text type)) more (t ∷ tokens))
          (or_syntax t o >>= λ type. Ok (type, tokens))
      by (Some type) b f k =
          record {
            is = record {
              spelled = rw ((bytes_eq-Decides t.text (type_text type)).1 f.0) refl;
              goes = k
                  ∙ rw f.1 refl;
            };
          }
      by None b f k = record { is = k ∙ rw f refl }

  pub literal-reads : (now : Option CFault) (more : List Need) (tokens : List Token) →
      now ≡ token_fault (literal_need ∷ more) last tokens →
      Answers now (Reads last now literal_word more tokens) (parse_literal last tokens)
  literal-reads now more [] h = record { is = h }
  literal-reads now more (t ∷ tokens) h = by (is_literal t.text) refl h
    where
      by : (b : Bool) → is_literal t.text ≡ b →
          now ≡ on_reply (with_needs (only_if b (leaves [])) more) t.line (λ left. token_fault left last tokens) →
          Answers now (Reads last now literal_word more (t ∷ tokens))
          (or_syntax_unless t b >> Ok (digits_value 0 t.text, tokens))
      by true e k =
          let v : (value : ℕ) × (nat_lt value (2 ^ 63) ≡ true) × (decimal value ≡ t.text) = is_literal-text t.text e in
          let small : v.0 < 2 ^ 63 = leb-true (suc v.0) (2 ^ 63) v.1 in
          let same : digits_value 0 t.text ≡ v.0 = ap (digits_value 0) (sym v.2) ∙ (numeral v.0 (omega (arith, small))).value in
          record { is = record { spelled = rw (same, v.1, v.2, same-text t.text) refl; goes = k } }
      by false e k = record { is = k }

  pub cast-reads : (now : Option CFault) (more : List Need) (tokens : List Token) →
      now ≡ token_fault (text_need (codes "(") ∷ type_need ∷ text_need (codes ")") ∷ more) last tokens →
      Answers now (Reads last now cast_spelling more tokens) (parse_cast last tokens)
  cast-reads now more tokens h =
      chain _ _ (word-reads (codes "(") now (type_need ∷ text_need (codes ")") ∷ more) tokens h) (λ a ra.
      chain _ _ (type-reads now (text_need (codes ")") ∷ more) a.1 ra.goes) (λ b rb.
      chain _ _ (word-reads (codes ")") now more b.1 rb.goes) (λ c rc.
      record { is = record { spelled = rw (ra.spelled, rb.spelled, rc.spelled) refl; goes = rc.goes } })))

  -- a field after `s`
  pub record ReadsField (start : List Token) (now : Option CFault) (more : List Need) (x : List ℕ × List Token) : Type 0 where
    pub middle : List Token
    pub arrow : word (codes "->") start ≡ Some middle
    pub name : name_word x.0 middle ≡ Some x.1
    pub goes : now ≡ token_fault more last x.1

  pub field_name-reads : (now : Option CFault) (more : List Need) (tokens : List Token) →
      now ≡ token_fault (text_need (codes "->") ∷ name_need ∷ more) last tokens →
      Answers now (ReadsField tokens now more) (parse_field_name last tokens)
  field_name-reads now more tokens h =
      chain _ _ (word-reads (codes "->") now (name_need ∷ more) tokens h) (λ a ra.
      turned _ (name-reads now more a.1 ra.goes) (λ b rb.
      record { middle = a.1; arrow = ra.spelled; name = rb.spelled; goes = rb.goes }))
