-- What the grammar spells is parsed: definitions and whole files. So tokens spell one program at most.
use Rattle.std.proofs.Common.{◌≡◌, refl, sym, ◌∙◌, ap, subst, ℕ, zero, suc, ◌+◌, ◌<◌, ◌≤◌, ◌⊎◌, inl, inr, List, [], ◌∷◌, length, Bool, true, false, Some, None, Ok, codes, bytes_eq, arith}
use Rattle.std.specs.List.{AllByRecursion}
use Rattle.std.proofs.lemmas.Bool.{le-leb}
use Rattle.std.proofs.lemmas.Slice.Eq.{bytes_eq-Decides}
use Rattle.c_syntax.specs.declared.code.CType.{CType}
use Rattle.c_syntax.specs.declared.code.CType.TheVariants.{I8, U8, I16, U16, I32, U32, I64}
use Rattle.c_grammar.specs.Tokens.{Token}
use Rattle.c_syntax.specs.Kinds.{WrittenKind, number_kind, array_kind, struct_kind}
use Rattle.c_grammar.specs.Written.{WrittenExpr, WrittenParam, WrittenPureParam, WrittenPure, WrittenField, WrittenStruct, WrittenProcedure, WrittenProgram}
use Rattle.c_grammar.specs.Grammar.{Spelling, ◌⨾◌, word, at_line, name_word, in_parens, in_brackets, in_braces, literal_word, type_text, expr_spelling, stmts_spelling, param_spelling, more_params_spelling, pure_param_spelling, more_pure_params_spelling, pure_params_spelling, pure_spelling, kind_spelling, length_spelling, field_spelling, all_spelling, some_spelling, struct_spelling, private_spelling, procedure_spelling, Spells}
use Rattle.c_grammar.specs.Parsing.{Limits, type_of_text, definition_of, first_text, many, parse_pure_param, pure_params_step, parse_param, params_step, parse_pure, parse_length, parse_field_from, parse_field, fields_step, parse_struct, parse_procedure, parse_procedure_behind, pures_step, structs_step, procedures_step, parse_file}
use Rattle.c_grammar.specs.declared.openers.Definition.TheVariants.{Static as static_definition, Struct as struct_definition, Void as void_definition}
use Rattle.c_grammar.proofs.lemmas.PrefixLaws.{Front, word-front, seq-parts, at_line-inner, Parens, parens-parts, Brackets, brackets-parts, word-firm, some_same}
use Rattle.c_reading_laws.proofs.FileWalks.{Braces, braces-parts}
use Rattle.c_rules.proofs.lemmas.Resolved.{ok-same}
use Rattle.c_grammar.proofs.lemmas.Shrinking.{all-few, field-takes, pure-takes, struct-takes, procedure-takes, more_params-few, more_pure_params-few}
use Rattle.c_rules.proofs.lemmas.SpelledWords.{word-parsed, LineFront, line-front, word-rest}
use Rattle.c_reading_laws.proofs.ParsedWords.{name-parsed, literal-parsed, type-known}
use Rattle.c_reading_laws.proofs.ParsedBodies.{expr_levels, word-text, comma-another, comma-closed}
use Rattle.c_reading_laws.proofs.ParsedStatements.{stmts_levels, stmts_exprs_levels, expr-parsed, block-parsed}

-- a written program keeps these limits
pub record KeepsPure (limits : Limits) (p : WrittenPure) : Type 0 where
  pub params : length p.params ≤ limits.params
  pub body : expr_levels p.body ≤ limits.exprs

pub record KeepsProcedure (limits : Limits) (p : WrittenProcedure) : Type 0 where
  pub params : length p.params ≤ limits.params
  pub statements : stmts_levels p.body ≤ limits.stmts
  pub expressions : stmts_exprs_levels p.body ≤ limits.exprs

pub record Keeps (limits : Limits) (p : WrittenProgram) : Type 0 where
  pub count : length p.pures ≤ limits.pures
  pub pures : AllByRecursion (KeepsPure limits) p.pures
  pub procedures : AllByRecursion (KeepsProcedure limits) p.procedures

type-no_struct : (type : CType) → bytes_eq (type_text type) (codes "struct") ≡ false
type-no_struct I8 = refl
type-no_struct U8 = refl
type-no_struct I16 = refl
type-no_struct U16 = refl
type-no_struct I32 = refl
type-no_struct U32 = refl
type-no_struct I64 = refl

type-no_brace : (type : CType) → bytes_eq (type_text type) (codes "}") ≡ false
type-no_brace I8 = refl
type-no_brace U8 = refl
type-no_brace I16 = refl
type-no_brace U16 = refl
type-no_brace I32 = refl
type-no_brace U32 = refl
type-no_brace I64 = refl

-- what a field begins with
field-text : (f : WrittenField) (tokens rest : List Token) → field_spelling f tokens ≡ Some rest →
    bytes_eq (first_text tokens) (codes "}") ≡ false
field-text f tokens rest h = by f.kind (at_line-inner f.line (kind_spelling f.kind) tokens p.0 p.1)
  where
    p : (mid : List Token) × (at_line f.line (kind_spelling f.kind) tokens ≡ Some mid)
        × ((name_word f.name ⨾ length_spelling f.kind ⨾ word (codes ";")) mid ≡ Some rest)
    p = seq-parts (at_line f.line (kind_spelling f.kind)) (name_word f.name ⨾ length_spelling f.kind ⨾ word (codes ";")) tokens rest h

    by : (kind : WrittenKind) → kind_spelling kind tokens ≡ Some p.0 → bytes_eq (first_text tokens) (codes "}") ≡ false
    by (number_kind type) k = ap (λ x. bytes_eq x (codes "}")) (word-text (type_text type) tokens p.0 k) ∙ type-no_brace type
    by (array_kind type count) k = ap (λ x. bytes_eq x (codes "}")) (word-text (type_text type) tokens p.0 k) ∙ type-no_brace type
    by (struct_kind name) k =
        let q : _ = seq-parts (word (codes "struct")) (name_word name) tokens p.0 k in
        ap (λ x. bytes_eq x (codes "}")) (word-text (codes "struct") tokens q.0 q.1)

module _ (last : ℕ) (limits : Limits) where
  pure_param-parsed : (x : WrittenPureParam) (count : ℕ) (tokens rest : List Token) →
      pure_param_spelling x tokens ≡ Some rest → count + 1 ≤ limits.params →
      parse_pure_param last limits count tokens ≡ Ok (x, rest)
  pure_param-parsed x count tokens rest h few =
      let p : _ = seq-parts (at_line x.line (word (codes "int64_t"))) (name_word x.name) tokens rest h in
      let f : LineFront x.line (word (codes "int64_t")) tokens p.0 = line-front x.line (word (codes "int64_t")) tokens p.0 p.1 in
      let o : _ = word-rest (codes "int64_t") f.token f.later p.0 f.inner in
      ap (parse_pure_param last limits count) f.list
      ∙ rw (
        ap (λ t. bytes_eq t (codes "int64_t")) o.0,
        le-leb (count + 1) limits.params few,
        o.1,
        name-parsed last x.name p.0 rest p.2,
        f.is,
      ) refl

  pure_params-parsed : (xs : List WrittenPureParam) (most count : ℕ) (tokens mid rest : List Token) →
      more_pure_params_spelling xs tokens ≡ Some mid → word (codes ")") mid ≡ Some rest →
      count + length xs ≤ limits.params → length xs < most →
      many (pure_params_step last limits) most count tokens ≡ Ok (xs, rest)
  pure_params-parsed [] zero count tokens mid rest h close few enough = absurd (omega (arith, enough))
  pure_params-parsed (x ∷ xs) zero count tokens mid rest h close few enough = absurd (omega (arith, enough))
  pure_params-parsed [] (suc most) count tokens mid rest h close few enough =
      let f : Front (codes ")") mid rest = word-front (codes ")") mid rest close in
      ap (many (pure_params_step last limits) (suc most) count) (some_same tokens mid h ∙ f.list) ∙ rw (comma-closed f.token f.same) refl
  pure_params-parsed (x ∷ xs) (suc most) count tokens mid rest h close few enough =
      let p : _ = seq-parts (word (codes ",")) (pure_param_spelling x ⨾ more_pure_params_spelling xs) tokens mid h in
      let q : _ = seq-parts (pure_param_spelling x) (more_pure_params_spelling xs) p.0 mid p.2 in
      let f : Front (codes ",") tokens p.0 = word-front (codes ",") tokens p.0 p.1 in
      ap (many (pure_params_step last limits) (suc most) count) f.list
      ∙ rw (
        comma-another f.token f.same,
        pure_param-parsed x count p.0 q.0 q.1 (omega (arith, few)),
        pure_params-parsed xs most (count + 1) q.0 mid rest q.2 close (omega (arith, few)) (omega (arith, enough)),
      )
      refl

  param-parsed : (x : WrittenParam) (count : ℕ) (tokens rest : List Token) → param_spelling x tokens ≡ Some rest →
      count + 1 ≤ limits.params → parse_param last limits count tokens ≡ Ok (x, rest)
  param-parsed x count tokens rest h few =
      let p : _ = seq-parts (at_line x.line (word (type_text x.type))) (name_word x.name) tokens rest h in
      let f : LineFront x.line (word (type_text x.type)) tokens p.0 = line-front x.line (word (type_text x.type)) tokens p.0 p.1 in
      let o : _ = word-rest (type_text x.type) f.token f.later p.0 f.inner in
      ap (parse_param last limits count) f.list
      ∙ rw (
        ap type_of_text o.0 ∙ type-known last x.type,
        le-leb (count + 1) limits.params few,
        o.1,
        name-parsed last x.name p.0 rest p.2,
        f.is,
      ) refl

  params-parsed : (xs : List WrittenParam) (most count : ℕ) (tokens mid rest : List Token) →
      more_params_spelling xs tokens ≡ Some mid → word (codes ")") mid ≡ Some rest → count + length xs ≤ limits.params →
      length xs < most → many (params_step last limits) most count tokens ≡ Ok (xs, rest)
  params-parsed [] zero count tokens mid rest h close few enough = absurd (omega (arith, enough))
  params-parsed (x ∷ xs) zero count tokens mid rest h close few enough = absurd (omega (arith, enough))
  params-parsed [] (suc most) count tokens mid rest h close few enough =
      let f : Front (codes ")") mid rest = word-front (codes ")") mid rest close in
      ap (many (params_step last limits) (suc most) count) (some_same tokens mid h ∙ f.list) ∙ rw (comma-closed f.token f.same) refl
  params-parsed (x ∷ xs) (suc most) count tokens mid rest h close few enough =
      let p : _ = seq-parts (word (codes ",")) (param_spelling x ⨾ more_params_spelling xs) tokens mid h in
      let q : _ = seq-parts (param_spelling x) (more_params_spelling xs) p.0 mid p.2 in
      let f : Front (codes ",") tokens p.0 = word-front (codes ",") tokens p.0 p.1 in
      ap (many (params_step last limits) (suc most) count) f.list
      ∙ rw (
        comma-another f.token f.same,
        param-parsed x count p.0 q.0 q.1 (omega (arith, few)),
        params-parsed xs most (count + 1) q.0 mid rest q.2 close (omega (arith, few)) (omega (arith, enough)),
      ) refl

  -- a pure function after its `static`
  pure-parsed : (line return_line : ℕ) (name : List ℕ) (body : WrittenExpr) (params : List WrittenPureParam) (t : Token)
      (tokens rest : List Token) → t.line ≡ line →
      (word (codes "int64_t") ⨾ name_word name ⨾ in_parens (pure_params_spelling params)
      ⨾ in_braces (at_line return_line (word (codes "return")) ⨾ expr_spelling body ⨾ word (codes ";"))) tokens
      ≡ Some rest → length params ≤ limits.params → expr_levels body ≤ limits.exprs →
      parse_pure last limits t tokens
      ≡ Ok (record { line = line; name = name; params = params; return_line = return_line; body = body }, rest)
  pure-parsed line return_line name body [] t tokens rest on h few shallow =
      let tail : Spelling = at_line return_line (word (codes "return")) ⨾ expr_spelling body ⨾ word (codes ";") in
      let p : _ =
      seq-parts (word (codes "int64_t")) (name_word name ⨾ in_parens (pure_params_spelling []) ⨾ in_braces tail)
      tokens rest h in
      let q : _ = seq-parts (name_word name) (in_parens (pure_params_spelling []) ⨾ in_braces tail) p.0 rest p.2 in
      let r : _ = seq-parts (in_parens (pure_params_spelling [])) (in_braces tail) q.0 rest q.2 in
      let s : Parens (pure_params_spelling []) q.0 r.0 = parens-parts (pure_params_spelling []) q.0 r.0 r.1 in
      let none : None ≡ Some s.behind = s.body in
      cc
  pure-parsed line return_line name body (x ∷ xs) t tokens rest on h few shallow =
      let tail : Spelling = at_line return_line (word (codes "return")) ⨾ expr_spelling body ⨾ word (codes ";") in
      let p : _ =
      seq-parts (word (codes "int64_t")) (name_word name ⨾ in_parens (pure_params_spelling (x ∷ xs))
      ⨾ in_braces tail) tokens rest h in
      let q : _ = seq-parts (name_word name) (in_parens (pure_params_spelling (x ∷ xs)) ⨾ in_braces tail) p.0 rest p.2 in
      let r : _ = seq-parts (in_parens (pure_params_spelling (x ∷ xs))) (in_braces tail) q.0 rest q.2 in
      let s : Parens (pure_params_spelling (x ∷ xs)) q.0 r.0 = parens-parts (pure_params_spelling (x ∷ xs)) q.0 r.0 r.1 in
      let u : _ = seq-parts (pure_param_spelling x) (more_pure_params_spelling xs) s.inner s.behind s.body in
      let b : Braces tail r.0 rest = braces-parts tail r.0 rest r.2 in
      let v : _ = seq-parts (at_line return_line (word (codes "return"))) (expr_spelling body ⨾ word (codes ";")) b.inner b.behind b.body in
      let w : _ = seq-parts (expr_spelling body) (word (codes ";")) v.0 b.behind v.2 in
      let f : LineFront return_line (word (codes "return")) b.inner v.0 = line-front return_line (word (codes "return")) b.inner v.0 v.1 in
      let o : _ = word-rest (codes "return") f.token f.later v.0 f.inner in
      let enough : length xs + length s.behind ≤ length u.0 = more_pure_params-few xs u.0 s.behind u.2 in
      rw (
        word-parsed last (codes "int64_t") tokens p.0 p.1,
        name-parsed last name p.0 q.0 q.1,
        word-parsed last (codes "(") q.0 s.inner s.start,
        pure_param-parsed x 0 s.inner u.0 u.1 (omega (arith, few)),
        pure_params-parsed xs (suc (length u.0)) 1 u.0 s.behind r.0 u.2 s.close (omega (arith, few))
            (omega (arith, enough)),
        word-parsed last (codes "{") r.0 b.inner b.start,
        f.list,
        ap (λ y. bytes_eq y (codes "return")) o.0,
        o.1,
        expr-parsed last limits body v.0 w.0 w.1 (word-firm (codes ";") w.0 b.behind refl w.2) shallow,
        word-parsed last (codes ";") w.0 b.behind w.2,
        word-parsed last (codes "}") b.behind rest b.close,
        on,
        f.is,
      ) refl

  pures-parsed : (xs : List WrittenPure) (most count : ℕ) (tokens mid : List Token) →
      all_spelling pure_spelling xs tokens ≡ Some mid → definition_of (first_text mid) ≡ struct_definition →
      AllByRecursion (KeepsPure limits) xs → count + length xs ≤ limits.pures → length xs < most →
      many (pures_step last limits) most count tokens ≡ Ok (xs, mid)
  pures-parsed [] zero count tokens mid h then keeps few enough = absurd (omega (arith, enough))
  pures-parsed (x ∷ xs) zero count tokens mid h then keeps few enough = absurd (omega (arith, enough))
  pures-parsed [] (suc most) count tokens mid h then keeps few enough =
      ap (many (pures_step last limits) (suc most) count) (some_same tokens mid h) ∙ by mid then
    where
      by : (ts : List Token) → definition_of (first_text ts) ≡ struct_definition →
          many (pures_step last limits) (suc most) count ts ≡ Ok ([], ts)
      by [] k = cc
      by (t ∷ ts) k = rw k refl
  pures-parsed (x ∷ xs) (suc most) count tokens mid h then keeps few enough =
      let p : _ = seq-parts (pure_spelling x) (all_spelling pure_spelling xs) tokens mid h in
      let behind : Spelling = word (codes "int64_t") ⨾ name_word x.name ⨾ in_parens (pure_params_spelling x.params)
      ⨾ in_braces (at_line x.return_line (word (codes "return")) ⨾ expr_spelling x.body ⨾ word (codes ";")) in
      let q : _ = seq-parts (at_line x.line (word (codes "static"))) behind tokens p.0 p.1 in
      let f : LineFront x.line (word (codes "static")) tokens q.0 = line-front x.line (word (codes "static")) tokens q.0 q.1 in
      let o : _ = word-rest (codes "static") f.token f.later q.0 f.inner in
      ap (many (pures_step last limits) (suc most) count) f.list
      ∙ rw (
        ap definition_of o.0,
        le-leb (count + 1) limits.pures (omega (arith, few)),
        o.1,
        pure-parsed x.line x.return_line x.name x.body x.params f.token q.0 p.0 f.is q.2 keeps.0.params keeps.0.body,
        pures-parsed xs most (count + 1) p.0 mid p.2 then keeps.1 (omega (arith, few)) (omega (arith, enough)),
      ) refl

  -- after the name of a field: no length, or that of an array
  no_length-parsed : (type : CType) (tokens rest : List Token) → word (codes ";") tokens ≡ Some rest →
      parse_length last limits type tokens (bytes_eq (first_text tokens) (codes "[")) ≡ Ok (number_kind type, tokens)
  no_length-parsed type tokens rest semi = rw (ap (λ x. bytes_eq x (codes "[")) (word-text (codes ";") tokens rest semi)) refl

  length-parsed : (type : CType) (count : ℕ) (tokens rest : List Token) →
      in_brackets (literal_word count) tokens ≡ Some rest →
      parse_length last limits type tokens (bytes_eq (first_text tokens) (codes "[")) ≡ Ok (array_kind type count, rest)
  length-parsed type count tokens rest h =
      let b : Brackets (literal_word count) tokens rest = brackets-parts (literal_word count) tokens rest h in
      let f : Front (codes "[") tokens b.inner = word-front (codes "[") tokens b.inner b.start in
      ap (λ ts. parse_length last limits type ts (bytes_eq (first_text ts) (codes "["))) f.list
      ∙ rw (
        ap (λ x. bytes_eq x (codes "[")) f.same,
        literal-parsed last count b.inner b.behind b.body,
        word-parsed last (codes "]") b.behind rest b.close,
      ) refl

  field_from-parsed : (kind : WrittenKind) (name : List ℕ) (t : Token) (tokens mid after behind rest : List Token) →
      kind_spelling kind (t ∷ tokens) ≡ Some mid → name_word name mid ≡ Some after →
      length_spelling kind after ≡ Some behind → word (codes ";") behind ≡ Some rest →
      parse_field_from last limits t tokens (bytes_eq t.text (codes "struct"))
      ≡ Ok (record { line = t.line; kind = kind; name = name }, rest)
  field_from-parsed (number_kind type) name t tokens mid after behind rest h named long semi =
      let o : _ = word-rest (type_text type) t tokens mid h in
      let end : word (codes ";") after ≡ Some rest = ap (word (codes ";")) (some_same after behind long) ∙ semi in
      rw (
        ap (λ x. bytes_eq x (codes "struct")) o.0 ∙ type-no_struct type,
        ap type_of_text o.0 ∙ type-known last type,
        o.1,
        name-parsed last name mid after named,
        no_length-parsed type after rest end,
        word-parsed last (codes ";") after rest end,
      ) refl
  field_from-parsed (array_kind type count) name t tokens mid after behind rest h named long semi =
      let o : _ = word-rest (type_text type) t tokens mid h in
      rw (
        ap (λ x. bytes_eq x (codes "struct")) o.0 ∙ type-no_struct type,
        ap type_of_text o.0 ∙ type-known last type,
        o.1,
        name-parsed last name mid after named,
        length-parsed type count after behind long,
        word-parsed last (codes ";") behind rest semi,
      ) refl
  field_from-parsed (struct_kind of) name t tokens mid after behind rest h named long semi =
      let p : _ = seq-parts (word (codes "struct")) (name_word of) (t ∷ tokens) mid h in
      let o : _ = word-rest (codes "struct") t tokens p.0 p.1 in
      let end : word (codes ";") after ≡ Some rest = ap (word (codes ";")) (some_same after behind long) ∙ semi in
      rw (
        ap (λ x. bytes_eq x (codes "struct")) o.0,
        o.1,
        name-parsed last of p.0 mid p.2,
        name-parsed last name mid after named,
        word-parsed last (codes ";") after rest end,
      ) refl

  field-parsed : (x : WrittenField) (tokens rest : List Token) → field_spelling x tokens ≡ Some rest →
      parse_field last limits tokens ≡ Ok (x, rest)
  field-parsed x tokens rest h =
      let p : _ =
      seq-parts (at_line x.line (kind_spelling x.kind)) (name_word x.name ⨾ length_spelling x.kind
      ⨾ word (codes ";")) tokens rest h in
      let f : LineFront x.line (kind_spelling x.kind) tokens p.0 = line-front x.line (kind_spelling x.kind) tokens p.0 p.1 in
      let q : _ = seq-parts (name_word x.name) (length_spelling x.kind ⨾ word (codes ";")) p.0 rest p.2 in
      let r : _ = seq-parts (length_spelling x.kind) (word (codes ";")) q.0 rest q.2 in
      ap (parse_field last limits) f.list
      ∙ rw (field_from-parsed x.kind x.name f.token f.later p.0 q.0 r.0 rest f.inner q.1 r.1 r.2, f.is) refl

  fields-parsed : (xs : List WrittenField) (most count : ℕ) (tokens mid rest : List Token) →
      all_spelling field_spelling xs tokens ≡ Some mid → word (codes "}") mid ≡ Some rest → length xs < most →
      many (fields_step last limits) most count tokens ≡ Ok (xs, rest)
  fields-parsed [] zero count tokens mid rest h close enough = absurd (omega (arith, enough))
  fields-parsed (x ∷ xs) zero count tokens mid rest h close enough = absurd (omega (arith, enough))
  fields-parsed [] (suc most) count tokens mid rest h close enough =
      let f : Front (codes "}") mid rest = word-front (codes "}") mid rest close in
      let is_close : bytes_eq f.token.text (codes "}") ≡ true = (bytes_eq-Decides f.token.text (codes "}")).1 f.same in
      ap (many (fields_step last limits) (suc most) count) (some_same tokens mid h ∙ f.list) ∙ rw is_close refl
  fields-parsed (x ∷ xs) (suc most) count tokens mid rest h close enough =
      let p : _ = seq-parts (field_spelling x) (all_spelling field_spelling xs) tokens mid h in
      rw (
        field-text x tokens p.0 p.1,
        field-parsed x tokens p.0 p.1,
        fields-parsed xs most (count + 1) p.0 mid rest p.2 close (omega (arith, enough)),
      ) refl

  -- a struct after its `struct`
  struct-parsed : (line : ℕ) (name : List ℕ) (fields : List WrittenField) (t : Token) (tokens rest : List Token) →
      t.line ≡ line → (name_word name ⨾ in_braces (some_spelling field_spelling fields) ⨾ word (codes ";")) tokens
      ≡ Some rest → parse_struct last limits t tokens ≡ Ok (record { line = line; name = name; fields = fields }, rest)
  struct-parsed line name [] t tokens rest on h =
      let p : _ = seq-parts (name_word name) (in_braces (some_spelling field_spelling []) ⨾ word (codes ";")) tokens rest h in
      let q : _ = seq-parts (in_braces (some_spelling field_spelling [])) (word (codes ";")) p.0 rest p.2 in
      let b : Braces (some_spelling field_spelling []) p.0 q.0 = braces-parts (some_spelling field_spelling []) p.0 q.0 q.1 in
      let none : None ≡ Some b.behind = b.body in
      cc
  struct-parsed line name (x ∷ xs) t tokens rest on h =
      let p : _ = seq-parts (name_word name) (in_braces (some_spelling field_spelling (x ∷ xs)) ⨾ word (codes ";")) tokens rest h in
      let q : _ = seq-parts (in_braces (some_spelling field_spelling (x ∷ xs))) (word (codes ";")) p.0 rest p.2 in
      let b : Braces (some_spelling field_spelling (x ∷ xs)) p.0 q.0 = braces-parts (some_spelling field_spelling (x ∷ xs)) p.0 q.0 q.1 in
      let r : _ = seq-parts (field_spelling x) (all_spelling field_spelling xs) b.inner b.behind b.body in
      let enough : length xs + length b.behind ≤ length r.0 = all-few field_spelling field-takes xs r.0 b.behind r.2 in
      rw (
        name-parsed last name tokens p.0 p.1,
        word-parsed last (codes "{") p.0 b.inner b.start,
        field-parsed x b.inner r.0 r.1,
        fields-parsed xs (suc (length r.0)) 0 r.0 b.behind q.0 r.2 b.close
            (omega (arith, enough)),
        word-parsed last (codes ";") q.0 rest q.2,
        on,
      ) refl

  structs-parsed : (xs : List WrittenStruct) (most count : ℕ) (tokens mid : List Token) →
      all_spelling struct_spelling xs tokens ≡ Some mid →
      (definition_of (first_text mid) ≡ static_definition) ⊎ (definition_of (first_text mid) ≡ void_definition) →
      length xs < most → many (structs_step last limits) most count tokens ≡ Ok (xs, mid)
  structs-parsed [] zero count tokens mid h then enough = absurd (omega (arith, enough))
  structs-parsed (x ∷ xs) zero count tokens mid h then enough = absurd (omega (arith, enough))
  structs-parsed [] (suc most) count tokens mid h then enough =
      ap (many (structs_step last limits) (suc most) count) (some_same tokens mid h) ∙ by mid then
    where
      by : (ts : List Token) → (definition_of (first_text ts) ≡ static_definition) ⊎ (definition_of (first_text ts)
          ≡ void_definition) → many (structs_step last limits) (suc most) count ts ≡ Ok ([], ts)
      by [] (inl k) = cc
      by [] (inr k) = cc
      by (t ∷ ts) (inl k) = rw k refl
      by (t ∷ ts) (inr k) = rw k refl
  structs-parsed (x ∷ xs) (suc most) count tokens mid h then enough =
      let p : _ = seq-parts (struct_spelling x) (all_spelling struct_spelling xs) tokens mid h in
      let q : _ =
      seq-parts (at_line x.line (word (codes "struct")))
      (name_word x.name ⨾ in_braces (some_spelling field_spelling x.fields) ⨾ word (codes ";")) tokens p.0 p.1 in
      let f : LineFront x.line (word (codes "struct")) tokens q.0 = line-front x.line (word (codes "struct")) tokens q.0 q.1 in
      let o : _ = word-rest (codes "struct") f.token f.later q.0 f.inner in
      ap (many (structs_step last limits) (suc most) count) f.list
      ∙ rw (
        ap definition_of o.0,
        o.1,
        struct-parsed x.line x.name x.fields f.token q.0 p.0 f.is q.2,
        structs-parsed xs most (count + 1) p.0 mid p.2 then (omega (arith, enough)),
      ) refl

  -- a procedure after its `void`
  behind-parsed : (x : WrittenProcedure) (line : ℕ) (tokens rest : List Token) → line ≡ x.line →
      (name_word x.name ⨾ in_parens (word (codes "struct") ⨾ name_word x.of ⨾ word (codes "*") ⨾ word (codes "s")
      ⨾ more_params_spelling x.params) ⨾ in_braces (stmts_spelling x.body)) tokens ≡ Some rest →
      KeepsProcedure limits x → parse_procedure_behind last limits line x.private tokens ≡ Ok (x, rest)
  behind-parsed x line tokens rest on h keeps =
      let head : Spelling = word (codes "struct") ⨾ name_word x.of ⨾ word (codes "*") ⨾ word (codes "s") ⨾ more_params_spelling x.params in
      let p : _ = seq-parts (name_word x.name) (in_parens head ⨾ in_braces (stmts_spelling x.body)) tokens rest h in
      let q : _ = seq-parts (in_parens head) (in_braces (stmts_spelling x.body)) p.0 rest p.2 in
      let a : Parens head p.0 q.0 = parens-parts head p.0 q.0 q.1 in
      let r : _ =
      seq-parts (word (codes "struct")) (name_word x.of ⨾ word (codes "*") ⨾ word (codes "s")
      ⨾ more_params_spelling x.params) a.inner a.behind a.body in
      let s : _ = seq-parts (name_word x.of) (word (codes "*") ⨾ word (codes "s") ⨾ more_params_spelling x.params) r.0 a.behind r.2 in
      let u : _ = seq-parts (word (codes "*")) (word (codes "s") ⨾ more_params_spelling x.params) s.0 a.behind s.2 in
      let v : _ = seq-parts (word (codes "s")) (more_params_spelling x.params) u.0 a.behind u.2 in
      let enough : length x.params + length a.behind ≤ length v.0 = more_params-few x.params v.0 a.behind v.2 in
      rw (
        name-parsed last x.name tokens p.0 p.1,
        word-parsed last (codes "(") p.0 a.inner a.start,
        word-parsed last (codes "struct") a.inner r.0 r.1,
        name-parsed last x.of r.0 s.0 s.1,
        word-parsed last (codes "*") s.0 u.0 u.1,
        word-parsed last (codes "s") u.0 v.0 v.1,
        params-parsed x.params (suc (length v.0)) 0 v.0 a.behind q.0 v.2 a.close (omega (arith, keeps.params))
            (omega (arith, enough)),
        block-parsed last limits x.body limits.stmts q.0 rest q.2 keeps.statements keeps.expressions,
        on,
      ) refl

  procedure-parsed : (x : WrittenProcedure) (t : Token) (tokens rest : List Token) →
      procedure_spelling x (t ∷ tokens) ≡ Some rest → KeepsProcedure limits x →
      parse_procedure last limits t tokens (definition_of t.text) ≡ Ok (x, rest)
  procedure-parsed x t tokens rest h keeps =
      by x.private refl (subst (λ ts. private_spelling x.private ts ≡ Some p.0) (sym f.list) f.inner)
      (ap (λ u. u.line) (heads t f.token tokens f.later f.list) ∙ f.is)
    where
      behind : Spelling
      behind =
          name_word x.name ⨾ in_parens (word (codes "struct") ⨾ name_word x.of ⨾ word (codes "*") ⨾ word (codes "s")
          ⨾ more_params_spelling x.params) ⨾ in_braces (stmts_spelling x.body)

      p : (mid : List Token) × (at_line x.line (private_spelling x.private) (t ∷ tokens) ≡ Some mid) × (behind mid ≡ Some rest)
      p = seq-parts (at_line x.line (private_spelling x.private)) behind (t ∷ tokens) rest h

      f : LineFront x.line (private_spelling x.private) (t ∷ tokens) p.0
      f = line-front x.line (private_spelling x.private) (t ∷ tokens) p.0 p.1

      heads : (a b : Token) (later others : List Token) → (a ∷ later) ≡ (b ∷ others) → a ≡ b
      heads a b later others e = cc

      by : (b : Bool) → b ≡ x.private → private_spelling b (t ∷ tokens) ≡ Some p.0 → t.line ≡ x.line →
          parse_procedure last limits t tokens (definition_of t.text) ≡ Ok (x, rest)
      by true e k on =
          let q : _ = seq-parts (word (codes "static")) (word (codes "void")) (t ∷ tokens) p.0 k in
          let o : _ = word-rest (codes "static") t tokens q.0 q.1 in
          rw (ap definition_of o.0, o.1, word-parsed last (codes "void") q.0 p.0 q.2)
          (ap (λ b. parse_procedure_behind last limits t.line b p.0) e
          ∙ behind-parsed x t.line p.0 rest on p.2 keeps)
      by false e k on =
          let o : _ = word-rest (codes "void") t tokens p.0 k in
          rw (ap definition_of o.0, o.1) (ap (λ b. parse_procedure_behind last limits t.line b p.0) e
          ∙ behind-parsed x t.line p.0 rest on p.2 keeps)

  procedures-parsed : (xs : List WrittenProcedure) (most count : ℕ) (tokens : List Token) →
      all_spelling procedure_spelling xs tokens ≡ Some [] → AllByRecursion (KeepsProcedure limits) xs →
      length xs < most → many (procedures_step last limits) most count tokens ≡ Ok (xs, [])
  procedures-parsed [] zero count tokens h keeps enough = absurd (omega (arith, enough))
  procedures-parsed (x ∷ xs) zero count tokens h keeps enough = absurd (omega (arith, enough))
  procedures-parsed [] (suc most) count tokens h keeps enough =
      ap (many (procedures_step last limits) (suc most) count) (some_same tokens [] h)
  procedures-parsed (x ∷ xs) (suc most) count [] h keeps enough =
      let p : _ = seq-parts (procedure_spelling x) (all_spelling procedure_spelling xs) [] [] h in
      absurd (omega (arith, (procedure-takes x).by [] p.0 p.1))
  procedures-parsed (x ∷ xs) (suc most) count (t ∷ tokens) h keeps enough =
      let p : _ = seq-parts (procedure_spelling x) (all_spelling procedure_spelling xs) (t ∷ tokens) [] h in
      rw (procedure-parsed x t tokens p.0 p.1 keeps.0, procedures-parsed xs most (count + 1) p.0 p.2 keeps.1 (omega (arith, enough))) refl

  -- what a struct and a procedure begin with
  struct-begins : (x : WrittenStruct) (tokens rest : List Token) → struct_spelling x tokens ≡ Some rest →
      definition_of (first_text tokens) ≡ struct_definition
  struct-begins x tokens rest h =
      let q : _ =
      seq-parts (at_line x.line (word (codes "struct")))
      (name_word x.name ⨾ in_braces (some_spelling field_spelling x.fields) ⨾ word (codes ";")) tokens rest h in
      ap definition_of (word-text (codes "struct") tokens q.0 (at_line-inner x.line (word (codes "struct")) tokens q.0 q.1))

  procedure-begins : (x : WrittenProcedure) (tokens rest : List Token) → procedure_spelling x tokens ≡ Some rest →
      (definition_of (first_text tokens) ≡ static_definition) ⊎ (definition_of (first_text tokens) ≡ void_definition)
  procedure-begins x tokens rest h = by x.private (at_line-inner x.line (private_spelling x.private) tokens p.0 p.1)
    where
      p : (mid : List Token) × (at_line x.line (private_spelling x.private) tokens ≡ Some mid)
          × ((name_word x.name ⨾ in_parens (word (codes "struct") ⨾ name_word x.of ⨾ word (codes "*") ⨾ word (codes "s")
          ⨾ more_params_spelling x.params) ⨾ in_braces (stmts_spelling x.body)) mid ≡ Some rest)
      p = seq-parts (at_line x.line (private_spelling x.private))
          (name_word x.name ⨾ in_parens (word (codes "struct") ⨾ name_word x.of ⨾ word (codes "*") ⨾ word (codes "s")
          ⨾ more_params_spelling x.params) ⨾ in_braces (stmts_spelling x.body)) tokens rest h

      by : (b : Bool) → private_spelling b tokens ≡ Some p.0 →
          (definition_of (first_text tokens) ≡ static_definition)
          ⊎ (definition_of (first_text tokens) ≡ void_definition)
      by true k =
          let q : _ = seq-parts (word (codes "static")) (word (codes "void")) tokens p.0 k in
          inl (ap definition_of (word-text (codes "static") tokens q.0 q.1))
      by false k = inr (ap definition_of (word-text (codes "void") tokens p.0 k))

  -- the first token of a procedure
  record Begun (x : WrittenProcedure) (tokens rest : List Token) : Type 0 where
    token : Token
    later : List Token
    list : tokens ≡ token ∷ later
    spelled : procedure_spelling x (token ∷ later) ≡ Some rest

  begun : (x : WrittenProcedure) (tokens rest : List Token) → procedure_spelling x tokens ≡ Some rest → Begun x tokens rest
  begun x [] rest h = absurd (omega (arith, (procedure-takes x).by [] rest h))
  begun x (t ∷ tokens) rest h = record { token = t; later = tokens; list = refl; spelled = h }

  file-parsed_of : (pures : List WrittenPure) (structs : List WrittenStruct) (procedures : List WrittenProcedure)
      (tokens : List Token) → Spells tokens (record { pures = pures; structs = structs; procedures = procedures }) →
      Keeps limits (record { pures = pures; structs = structs; procedures = procedures }) →
      parse_file last limits tokens ≡ Ok (record { pures = pures; structs = structs; procedures = procedures })
  file-parsed_of pures [] procedures tokens h keeps =
      let p : _ =
      seq-parts (all_spelling pure_spelling pures) (some_spelling struct_spelling []
      ⨾ some_spelling procedure_spelling procedures) tokens [] h in
      let none : None ≡ Some [] = p.2 in
      cc
  file-parsed_of pures (d ∷ ds) [] tokens h keeps =
      let p : _ =
      seq-parts (all_spelling pure_spelling pures) (some_spelling struct_spelling (d ∷ ds)
      ⨾ some_spelling procedure_spelling []) tokens [] h in
      let q : _ = seq-parts (some_spelling struct_spelling (d ∷ ds)) (some_spelling procedure_spelling []) p.0 [] p.2 in
      let none : None ≡ Some [] = q.2 in
      cc
  file-parsed_of pures (d ∷ ds) (x ∷ xs) tokens h keeps =
      let p : _ =
      seq-parts (all_spelling pure_spelling pures) (some_spelling struct_spelling (d ∷ ds)
      ⨾ some_spelling procedure_spelling (x ∷ xs)) tokens [] h in
      let q : _ = seq-parts (some_spelling struct_spelling (d ∷ ds)) (some_spelling procedure_spelling (x ∷ xs)) p.0 [] p.2 in
      let r : _ = seq-parts (struct_spelling d) (all_spelling struct_spelling ds) p.0 q.0 q.1 in
      let s : _ = seq-parts (procedure_spelling x) (all_spelling procedure_spelling xs) q.0 [] q.2 in
      let pures_few : length pures + length p.0 ≤ length tokens = all-few pure_spelling pure-takes pures tokens p.0 p.1 in
      let structs_few : length (d ∷ ds) + length q.0 ≤ length p.0 = all-few struct_spelling struct-takes (d ∷ ds) p.0 q.0 q.1 in
      let few : length xs + 0 ≤ length s.0 = all-few procedure_spelling procedure-takes xs s.0 [] s.2 in
      let begins : _ = procedure-begins x q.0 s.0 s.1 in
      let f : Begun x q.0 s.0 = begun x q.0 s.0 s.1 in
      rw (
        pures-parsed pures (suc (length tokens)) 0 tokens p.0 p.1 (struct-begins d p.0 r.0 r.1) keeps.pures
            (omega (arith, keeps.count)) (omega (arith, pures_few)),
        structs-parsed (d ∷ ds) (suc (length p.0)) 0 p.0 q.0 q.1 begins (omega (arith, structs_few)),
        f.list,
        procedure-parsed x f.token f.later s.0 f.spelled keeps.procedures.0,
        procedures-parsed xs (suc (length s.0)) 0 s.0 s.2 keeps.procedures.1 (omega (arith, few)),
      ) refl

  file-parsed : (w : WrittenProgram) (tokens : List Token) → Spells tokens w → Keeps limits w → parse_file last limits tokens ≡ Ok w
  file-parsed w tokens h keeps = file-parsed_of w.pures w.structs w.procedures tokens h keeps

-- a number that is no less than any depth and any number of a written program
abbrev pures_bound : List WrittenPure → ℕ
pures_bound [] = 0
pures_bound (p ∷ ps) = length p.params + expr_levels p.body + pures_bound ps

abbrev procedures_bound : List WrittenProcedure → ℕ
procedures_bound [] = 0
procedures_bound (p ∷ ps) = length p.params + stmts_levels p.body + stmts_exprs_levels p.body + procedures_bound ps

abbrev program_bound : WrittenProgram → ℕ
program_bound w = length w.pures + pures_bound w.pures + procedures_bound w.procedures

-- limits that are all this number
abbrev level_limits : ℕ → Limits
level_limits n = record { exprs = n; stmts = n; params = n; pures = n }

pures-keep : (ps : List WrittenPure) (n : ℕ) → pures_bound ps ≤ n → AllByRecursion (KeepsPure (level_limits n)) ps
pures-keep [] n h = record {}
pures-keep (p ∷ ps) n h =
    let e : length p.params + expr_levels p.body + pures_bound ps ≤ n = h in
    (record { params = omega (arith, h); body = omega (arith, h) }, pures-keep ps n (omega (arith, h)))

procedures-keep : (ps : List WrittenProcedure) (n : ℕ) → procedures_bound ps ≤ n → AllByRecursion (KeepsProcedure (level_limits n)) ps
procedures-keep [] n h = record {}
procedures-keep (p ∷ ps) n h =
    let e : length p.params + stmts_levels p.body + stmts_exprs_levels p.body + procedures_bound ps ≤ n = h in (
      record { params = omega (arith, h); statements = omega (arith, h); expressions = omega (arith, h) },
      procedures-keep ps n (omega (arith, h)),
    )

program-keeps : (w : WrittenProgram) (n : ℕ) → program_bound w ≤ n → Keeps (level_limits n) w
program-keeps w n h =
    let e : length w.pures + pures_bound w.pures + procedures_bound w.procedures ≤ n = h in
    record {
      count = omega (arith, h);
      pures = pures-keep w.pures n (omega (arith, h));
      procedures = procedures-keep w.procedures n (omega (arith, h));
    }

-- tokens spell one program at most
pub one_written : (tokens : List Token) (p q : WrittenProgram) → Spells tokens p → Spells tokens q → p ≡ q
one_written tokens p q a b =
    let n : ℕ = program_bound p + program_bound q in
    ok-same p q (sym (file-parsed 0 (level_limits n) p tokens a (program-keeps p n (omega (arith))))
    ∙ file-parsed 0 (level_limits n) q tokens b (program-keeps q n (omega (arith))))
