-- What the parse of a file answers is what the needs say.
use Rattle.std.proofs.Common.{◌≡◌, refl, ◌∙◌, subst, ℕ, suc, ◌+◌, List, [], ◌∷◌, length, Bool, true, false, nat_le, Option, Some, None, Ok, Err, codes, bytes_eq, arith, if◌then◌else◌}
use Rattle.c_syntax.specs.declared.fault.CFault.{CFault}
use Rattle.c_grammar.specs.Tokens.{Token}
use Rattle.c_grammar.specs.Written.{WrittenPure, WrittenStruct, WrittenProcedure, WrittenProgram}
use Rattle.c_grammar.specs.Grammar.{all_spelling, some_spelling, pure_spelling, struct_spelling, procedure_spelling, Spells}
use Rattle.c_grammar.specs.Prefix.{pures_need, structs_need, procedures_need, too_deep, leaves, with_needs, within_limit, first_reply, struct_needs, pure_needs, file_needs, on_reply, token_fault}
use Rattle.c_syntax.specs.Limits.{expr_limit, stmt_limit, pure_limit, param_limit}
use Rattle.base_core.specs.Results.{◌>>=◌, ◌>>◌}
use Rattle.c_grammar.specs.Parsing.{Limits, the_limits, next, or_deep_unless, first_text, many, one_more, definition_of, parse_pure, pures_step, pures_step_by, structs_step, structs_step_by, parse_procedure, procedures_step, parse_file}
use Rattle.c_grammar.specs.declared.openers.Definition.TheVariants.{Static as static_definition, Struct as struct_definition, Void as void_definition, Nothing as no_definition}
use Rattle.c_grammar.proofs.lemmas.Shrinking.{pure-takes, struct-takes, procedure-takes}
use Rattle.c_grammar.specs.ParsedText.{ParsingAgrees}
use Rattle.c_grammar.proofs.Answering.{Answers, chain}
use Rattle.c_grammar.proofs.Lists.{Stepped, many-reads}
use Rattle.c_grammar.proofs.Definitions.{no_other, struct-reads, pure-reads, procedure-reads}

-- the elements of a file, after which a struct comes, or a procedure, or the end
abbrev Pures : List WrittenPure → List Token → List Token → Type 0
Pures ps tokens rest = (all_spelling pure_spelling ps tokens ≡ Some rest) × (bytes_eq (first_text rest) (codes "struct") ≡ true)

abbrev Structs : List WrittenStruct → List Token → List Token → Type 0
Structs ds tokens rest =
    (all_spelling struct_spelling ds tokens ≡ Some rest)
    × (bytes_eq (first_text tokens) (codes "struct") ≡ true → some_spelling struct_spelling ds tokens ≡ Some rest)
    × (bytes_eq (first_text rest) (codes "struct") ≡ false)

abbrev Procedures : List WrittenProcedure → List Token → List Token → Type 0
Procedures ps tokens rest = (all_spelling procedure_spelling ps tokens ≡ Some rest) × (rest ≡ [])

module _ (last : ℕ) (limits : Limits) (exprs : limits.exprs ≡ expr_limit) (stmts : limits.stmts ≡ stmt_limit)
    (params : limits.params ≡ param_limit) (pures : limits.pures ≡ pure_limit) where
  pures_step-reads : (now : Option CFault) (count : ℕ) (tokens : List Token) →
      now ≡ token_fault (pures_need count ∷ []) last tokens →
      Answers now (Stepped last (λ n. pures_need n ∷ []) (structs_need ∷ []) Pures now count tokens)
      (pures_step last limits count tokens)
  pures_step-reads now count [] h = record { is = h }
  pures_step-reads now count (t ∷ tokens) h =
      by (bytes_eq t.text (codes "static")) (bytes_eq t.text (codes "struct"))
      (bytes_eq t.text (codes "void")) refl refl h
    where
      deep : (b : Bool) → bytes_eq t.text (codes "static") ≡ true →
          now ≡ on_reply (with_needs (if b then leaves (pure_needs (count + 1)) else too_deep) []) t.line
          (λ left. token_fault left last tokens) →
          Answers now (Stepped last (λ n. pures_need n ∷ []) (structs_need ∷ []) Pures now count (t ∷ tokens))
          (or_deep_unless t b >> (parse_pure last limits t tokens >>= λ p. Ok (one_more p.0 p.1)))
      deep true e k = chain _ _ (pure-reads last limits exprs stmts params (count + 1) now t tokens e k) (λ p r.
          record {
            is = record {
              grows = λ ps end later. (rw r.spelled later.0, later.1);
              shorter = (pure-takes p.0).by (t ∷ tokens) p.1 r.spelled;
              goes = r.goes;
            };
          })
      deep false e k = record { is = k }

      by : (a b c : Bool) → bytes_eq t.text (codes "static") ≡ a → bytes_eq t.text (codes "struct") ≡ b →
          now ≡ on_reply
          (with_needs
          (first_reply ((a, within_limit (count + 1) pure_limit (leaves (pure_needs (count + 1))))
          ∷ (b, leaves struct_needs) ∷ [])) []) t.line (λ left. token_fault left last tokens) →
          Answers now (Stepped last (λ n. pures_need n ∷ []) (structs_need ∷ []) Pures now count (t ∷ tokens))
          (pures_step_by last limits count t tokens (t ∷ tokens) (if a then static_definition
          else (if b then struct_definition else (if c then void_definition else no_definition))))
      by true b c a_is b_is k = deep (nat_le (count + 1) limits.pures) a_is (rw pures k)
      by false true c a_is b_is k = record { is = record { none = (refl, b_is); goes = rw b_is k } }
      by false false true a_is b_is k = record { is = k }
      by false false false a_is b_is k = record { is = k }

  structs_step-reads : (now : Option CFault) (count : ℕ) (tokens : List Token) →
      now ≡ token_fault (structs_need ∷ []) last tokens →
      Answers now (Stepped last (λ n. structs_need ∷ []) (structs_need ∷ []) Structs now count tokens)
      (structs_step last limits count tokens)
  structs_step-reads now count [] h = record { is = h }
  structs_step-reads now count (t ∷ tokens) h =
      by (bytes_eq t.text (codes "static")) (bytes_eq t.text (codes "struct"))
      (bytes_eq t.text (codes "void")) refl refl refl
    where
      ended : bytes_eq t.text (codes "struct") ≡ false → Structs [] (t ∷ tokens) (t ∷ tokens)
      ended e = (refl, λ f. cc, e)

      by : (a b c : Bool) → bytes_eq t.text (codes "static") ≡ a → bytes_eq t.text (codes "struct") ≡ b →
          bytes_eq t.text (codes "void") ≡ c →
          Answers now (Stepped last (λ n. structs_need ∷ []) (structs_need ∷ []) Structs now count (t ∷ tokens))
          (structs_step_by last limits t tokens (t ∷ tokens) (if a then static_definition
          else (if b then struct_definition else (if c then void_definition else no_definition))))
      by true b c a_is b_is c_is =
          record {
            is = record {
              none = ended (no_other t.text (codes "static") (codes "struct") a_is refl);
              goes = h;
            };
          }
      by false true c a_is b_is c_is = chain _ _ (struct-reads last limits exprs stmts params now t tokens b_is (rw b_is at h)) (λ d r.
          record {
            is = record {
              grows = λ ds end later. (rw r.spelled later.0, λ f. rw r.spelled later.0, later.2);
              shorter = (struct-takes d.0).by (t ∷ tokens) d.1 r.spelled;
              goes = r.goes;
            };
          })
      by false false true a_is b_is c_is = record { is = record { none = ended b_is; goes = h } }
      by false false false a_is b_is c_is = record { is = rw (b_is, a_is, c_is) at h }

  procedures_step-reads : (now : Option CFault) (count : ℕ) (tokens : List Token) →
      now ≡ token_fault (procedures_need ∷ []) last tokens →
      Answers now (Stepped last (λ n. procedures_need ∷ []) (procedures_need ∷ []) Procedures now count tokens)
      (procedures_step last limits count tokens)
  procedures_step-reads now count [] h = record { is = record { none = (refl, refl); goes = h } }
  procedures_step-reads now count (t ∷ tokens) h =
      chain _ _ (procedure-reads last limits exprs stmts params now t tokens h) (λ p r.
      record {
        is = record {
          grows = λ ps end later. (rw r.spelled later.0, later.1);
          shorter = (procedure-takes p.0).by (t ∷ tokens) p.1 r.spelled;
          goes = r.goes;
        };
      })

  -- a program that is spelled, without an error
  record IsFileOf (now : Option CFault) (tokens : List Token) (w : WrittenProgram) : Type 0 where
    spelled : Spells tokens w
    none : now ≡ None

  -- the procedures of a file after its pure functions and structs
  procedures-read : (now : Option CFault) (tokens middle : List Token) (ps : List WrittenPure) (ds : List WrittenStruct)
      (later : List Token) → all_spelling pure_spelling ps tokens ≡ Some middle →
      some_spelling struct_spelling ds middle ≡ Some later → bytes_eq (first_text later) (codes "struct") ≡ false →
      now ≡ token_fault (structs_need ∷ []) last later →
      Answers now (IsFileOf now tokens)
      (next last later >>= λ t. parse_procedure last limits t.0 t.1 (definition_of t.0.text) >>= λ first.
      many (procedures_step last limits) (suc (length first.1)) 0 first.1 >>= λ later.
      Ok (record { pures = ps; structs = ds; procedures = first.0 ∷ later.0 }))
  procedures-read now tokens middle ps ds [] pures_are structs_are e h = record { is = h }
  procedures-read now tokens middle ps ds (t ∷ rest) pures_are structs_are e h =
      chain _ _ (procedure-reads last limits exprs stmts params now t rest (rw e at h)) (λ first rf.
      chain _ _ (many-reads last (λ n. procedures_need ∷ []) (procedures_need ∷ []) Procedures
      (procedures_step last limits) procedures_step-reads (suc (length first.1)) 0 now first.1
      (omega arith) rf.goes) (λ later rl.
      record {
        is = record {
          spelled = rw (pures_are, structs_are, rf.spelled) (rl.elements.0 ∙ rw rl.elements.1 refl);
          none = rl.goes ∙ rw rl.elements.1 refl;
        };
      }))

  file-reads : (now : Option CFault) (tokens : List Token) → now ≡ token_fault file_needs last tokens →
      Answers now (IsFileOf now tokens) (parse_file last limits tokens)
  file-reads now tokens h =
      chain _ _
      (many-reads last (λ n. pures_need n ∷ []) (structs_need ∷ []) Pures (pures_step last limits) pures_step-reads
      (suc (length tokens)) 0 now tokens (omega arith) h) (λ ps rp.
      chain _ _
      (many-reads last (λ n. structs_need ∷ []) (structs_need ∷ []) Structs
      (structs_step last limits) structs_step-reads (suc (length ps.1)) 0 now ps.1 (omega arith) rp.goes) (λ ds rd.
      procedures-read now tokens ps.1 ps.0 ds.0 ds.1 rp.elements.0 (rd.elements.1 rp.elements.1) rd.elements.2 rd.goes))

pub parsing_agrees : ParsingAgrees
parsing_agrees = record { read = read; refused = refused }
  where
    answers : (last : ℕ) (tokens : List Token) →
        Answers (token_fault file_needs last tokens)
        (IsFileOf last the_limits refl refl refl refl (token_fault file_needs last tokens) tokens)
        (parse_file last the_limits tokens)
    answers last tokens = file-reads last the_limits refl refl refl refl (token_fault file_needs last tokens) tokens refl

    read : (last : ℕ) (tokens : List Token) (w : WrittenProgram) → parse_file last the_limits tokens ≡ Ok w →
        Spells tokens w × (token_fault file_needs last tokens ≡ None)
    read last tokens w e =
        let a : _ =
        (subst (Answers (token_fault file_needs last tokens)
        (IsFileOf last the_limits refl refl refl refl (token_fault file_needs last tokens) tokens)) e
        (answers last tokens)).is in
        (a.spelled, a.none)

    refused : (last : ℕ) (tokens : List Token) (fault : CFault) → parse_file last the_limits tokens ≡ Err fault →
        token_fault file_needs last tokens ≡ Some fault
    refused last tokens fault e =
        (subst (Answers (token_fault file_needs last tokens)
        (IsFileOf last the_limits refl refl refl refl (token_fault file_needs last tokens) tokens)) e
        (answers last tokens)).is
