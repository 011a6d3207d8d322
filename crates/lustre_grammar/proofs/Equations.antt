-- What the parse of declared names and equations answers is what the needs say.
use Rattle.std.proofs.Common.{◌≡◌, refl, sym, ◌∙◌, ap, ℕ, zero, suc, List, [], ◌∷◌, ◌++◌, drop, Bool, true, false, Option, Some, None, option_and_then, Ok, ◌==◌, codes, bytes_eq, if◌then◌else◌}
use Rattle.std.proofs.lemmas.Bool.{eq-eqb}
use Rattle.std.proofs.lemmas.Slice.Eq.{bytes_eq-Decides}
use Rattle.c_syntax.specs.declared.fault.CFault.{CFault}
use Rattle.c_syntax.specs.declared.fault.CKind.TheVariants.{Syntax}
use Rattle.c_grammar.specs.Tokens.{Token}
use Rattle.c_grammar.specs.Grammar.{◌⨾◌, nothing, word, at_line}
use Rattle.c_grammar.specs.Prefix.{fault_at}
use Rattle.c_grammar.specs.Parsing.{or_syntax, or_syntax_unless, parse_word}
use Rattle.c_grammar.proofs.lemmas.PrefixLaws.{at_line-inner}
use Rattle.base_core.specs.Results.{◌>>=◌, ◌>>◌}
use Rattle.lustre_syntax.specs.Names.{is_lustre_name}
use Rattle.lustre_syntax.specs.Tree.{ValueType}
use Rattle.lustre_grammar.specs.Written.{WrittenEquation}
use Rattle.lustre_grammar.specs.Grammar.{name_word, type_text, expr_spelling, parted_by, declared_spelling, given_spelling, equation_spelling}
use Rattle.lustre_grammar.specs.Prefix.{Need, text_need, name_need, type_need, expr_need, given_need, more_given_need, value_need, arguments_need, more_arguments_need, leaves, with_needs, only_if, first_reply, expr_reply, callee_needs, call_needs, is_type, on_reply, token_fault}
use Rattle.lustre_grammar.specs.Parsing.{given_form, arguments_form, is_closed, type_of_text, parse_value, parse_call, parse_set, parse_right, parse_right_by, parse_given, parse_equation, parse_equation_from, parse_type, parse_declared, parse_list, parse_mark, lead_of}
use Rattle.lustre_grammar.proofs.Answering.{Answers, Reads, chain, turned}
use Rattle.lustre_grammar.proofs.Words.{same-text, Found, type-found, word-reads, name-reads}
use Rattle.lustre_grammar.proofs.Exprs.{more-needs, value-reads}
use Rattle.lustre_grammar.proofs.Lists.{FormLaw, Begun, counted, ReadsList, list-reads}
use Rattle.lustre_grammar.proofs.lemmas.Forms.{then-spelled, parted-formed, also-formed}
use Rattle.lustre_grammar.proofs.lemmas.Taking.{name-takes, expr-takes}

-- a text that is one of two isn't the other
pub not-other : (text one other : List ℕ) → bytes_eq text one ≡ true → bytes_eq one other ≡ false → bytes_eq text other ≡ false
not-other text one other e d = ap (λ t. bytes_eq t other) ((bytes_eq-Decides text one).0 e) ∙ d

-- what starts an element that these needs begin
abbrev pub Needed : (last : ℕ) → (ℕ → List Need) → Option CFault → ℕ → List Token → Type 0
Needed last needs now count tokens = now ≡ token_fault (needs count) last tokens

-- a mark before an element, where nothing else may be
pub mark-begins : (last : ℕ) (mark : List ℕ) (needs more : List Need) (now : Option CFault) (t : Token) (tokens : List Token) →
    now ≡ on_reply (with_needs (first_reply ((bytes_eq t.text mark, leaves needs) ∷ [])) more) t.line
    (λ left. token_fault left last tokens) →
    Answers now (Reads last now (λ _. word mark) (needs ++ more) (t ∷ tokens)) (parse_word last mark (t ∷ tokens))
mark-begins last mark needs more now t tokens h = by (bytes_eq t.text mark) refl h
  where
    by : (b : Bool) → bytes_eq t.text mark ≡ b →
        now ≡ on_reply (with_needs (first_reply ((b, leaves needs) ∷ [])) more) t.line (λ left. token_fault left last tokens) →
        Answers now (Reads last now (λ _. word mark) (needs ++ more) (t ∷ tokens)) (or_syntax_unless t b >> Ok (tt {0}, tokens))
    by true e k = record { is = record { spelled = rw e refl; goes = k } }
    by false e k = record { is = k }

module _ (last : ℕ) where
  -- ---- Declared names

  type-reads : (now : Option CFault) (more : List Need) (tokens : List Token) →
      now ≡ token_fault (type_need ∷ more) last tokens →
      Answers now (Reads last now (λ type. word (type_text type)) more tokens) (parse_type last tokens)
  type-reads now more [] h = record { is = h }
  type-reads now more (t ∷ tokens) h = by (type_of_text t.text) (is_type t.text) (type-found t.text) h
    where
      by : (o : Option ValueType) (b : Bool) → Found type_text t.text o b →
          now ≡ on_reply (with_needs (only_if b (leaves [])) more) t.line (λ left. token_fault left last tokens) →
          Answers now (Reads last now (λ type. word (type_text type)) more (t ∷ tokens)) (or_syntax t o >>= λ type. Ok (type, tokens))
      by (Some type) b f k = record { is = record { spelled = rw f.0 refl; goes = k ∙ rw f.1 refl } }
      by None b f k = record { is = k ∙ rw f refl }

  pub declared-reads : (now : Option CFault) (more : List Need) (tokens : List Token) →
      now ≡ token_fault (name_need ∷ text_need (codes ":") ∷ type_need ∷ more) last tokens →
      Answers now (Reads last now declared_spelling more tokens) (parse_declared last tokens)
  declared-reads now more tokens h =
      chain _ _ (name-reads last now _ tokens h) (λ w rn.
      chain _ _ (word-reads last (codes ":") now _ w.1 rn.goes) (λ colon rc.
      chain _ _ (type-reads now more colon.1 rc.goes) (λ type rt.
      record { is = record { spelled = rw (rn.spelled, rc.spelled, rt.spelled) refl; goes = rt.goes } })))

  -- ---- Calls

  pub given-reads : (now : Option CFault) (more : List Need) (tokens : List Token) → now ≡ token_fault (name_need ∷ more) last tokens →
      Answers now (Reads last now name_word more tokens) (parse_given last tokens)
  given-reads now more tokens h =
      chain _ _ (name-reads last now more tokens h) (λ w rn.
      record { is = record { spelled = at_line-inner w.0.line (name_word w.0.text) tokens w.1 rn.spelled; goes = rn.goes } })

  module _ (more : List Need) where
    abbrev arguments_stack : ℕ → List Need
    arguments_stack zero = arguments_need ∷ more
    arguments_stack (suc count) = more_arguments_need ∷ more

    abbrev ArgumentsLaw : Type 0
    ArgumentsLaw = FormLaw last arguments_form expr_spelling arguments_stack (λ count. more)
        (Needed last (λ count. expr_need 1 ∷ more_arguments_need ∷ more)) (parse_value last)

    arguments-law : ArgumentsLaw
    arguments-law = record { takes = expr-takes; ends = ends; begins = begins; reads = reads }
      where
        reads : (now : Option CFault) (count : ℕ) (tokens : List Token) →
            now ≡ token_fault (expr_need 1 ∷ more_arguments_need ∷ more) last tokens →
            Answers now (Reads last now expr_spelling (more_arguments_need ∷ more) tokens) (parse_value last tokens)
        reads now count tokens h = value-reads last now (more_arguments_need ∷ more) tokens h

        ends : (now : Option CFault) (count : ℕ) (tokens : List Token) → is_closed (Some (codes ")")) tokens ≡ true →
            now ≡ token_fault (arguments_stack count) last tokens → now ≡ token_fault more last (drop 1 tokens)
        ends now count [] e h = cc e
        ends now zero (t ∷ tokens) e h = h ∙ rw e refl
        ends now (suc count) (t ∷ tokens) e h = h ∙ rw e refl

        begins : (now : Option CFault) (count : ℕ) (tokens : List Token) → is_closed (Some (codes ")")) tokens ≡ false →
            now ≡ token_fault (arguments_stack count) last tokens →
            Answers now (Begun last arguments_form expr_spelling arguments_stack (λ count. more)
            (Needed last (λ count. expr_need 1 ∷ more_arguments_need ∷ more)) now count tokens)
            (parse_mark last (lead_of arguments_form count) tokens)
        begins now zero [] e h = record { is = record { spelled = refl; start = h } }
        begins now zero (t ∷ tokens) e h =
            record {
              is = record {
                spelled = refl;
                start = h ∙ rw e (ap (λ r. on_reply r t.line (λ left. token_fault left last tokens))
                    (more-needs (expr_reply 1 t.text) (more_arguments_need ∷ []) more));
              };
            }
        begins now (suc count) [] e h = record { is = h }
        begins now (suc count) (t ∷ tokens) e h =
            turned _ (mark-begins last (codes ",") (expr_need 1 ∷ more_arguments_need ∷ []) more now t tokens (h ∙ rw e refl))
            (λ x r. record { spelled = r.spelled; start = r.goes })

    abbrev given_stack : ℕ → List Need
    given_stack zero = given_need ∷ more
    given_stack (suc count) = more_given_need ∷ more

    -- what is needed after the `=`; one name may be given an expression
    abbrev given_ended : ℕ → List Need
    given_ended zero = value_need ∷ more
    given_ended (suc count) = call_needs ++ more

    abbrev GivenLaw : Type 0
    GivenLaw = FormLaw last given_form name_word given_stack given_ended
        (Needed last (λ count. name_need ∷ more_given_need ∷ more)) (parse_given last)

    given-law : GivenLaw
    given-law = record { takes = name-takes; ends = ends; begins = begins; reads = reads }
      where
        reads : (now : Option CFault) (count : ℕ) (tokens : List Token) →
            now ≡ token_fault (name_need ∷ more_given_need ∷ more) last tokens →
            Answers now (Reads last now name_word (more_given_need ∷ more) tokens) (parse_given last tokens)
        reads now count tokens h = given-reads now (more_given_need ∷ more) tokens h

        ends : (now : Option CFault) (count : ℕ) (tokens : List Token) → is_closed (Some (codes "=")) tokens ≡ true →
            now ≡ token_fault (given_stack count) last tokens → now ≡ token_fault (given_ended count) last (drop 1 tokens)
        ends now count [] e h = cc e
        ends now zero (t ∷ tokens) e h = h ∙ rw (not-other t.text (codes "=") (codes ",") e refl, e) refl
        ends now (suc count) (t ∷ tokens) e h = h ∙ rw (not-other t.text (codes "=") (codes ",") e refl, e) refl

        -- a `,`, where there is no `=`
        further : (now : Option CFault) (count : ℕ) (other : List Need) (t : Token) (tokens : List Token) →
            bytes_eq t.text (codes "=") ≡ false →
            now ≡ on_reply (with_needs (first_reply ((bytes_eq t.text (codes ","), leaves (name_need ∷ more_given_need ∷ []))
            ∷ (bytes_eq t.text (codes "="), leaves other) ∷ [])) more) t.line (λ left. token_fault left last tokens) →
            Answers now (Reads last now (λ _. word (codes ",")) (name_need ∷ more_given_need ∷ more) (t ∷ tokens))
            (parse_word last (codes ",") (t ∷ tokens))
        further now count other t tokens e h =
            mark-begins last (codes ",") (name_need ∷ more_given_need ∷ []) more now t tokens (h ∙ rw e refl)

        begins : (now : Option CFault) (count : ℕ) (tokens : List Token) → is_closed (Some (codes "=")) tokens ≡ false →
            now ≡ token_fault (given_stack count) last tokens →
            Answers now (Begun last given_form name_word given_stack given_ended
            (Needed last (λ count. name_need ∷ more_given_need ∷ more)) now count tokens)
            (parse_mark last (lead_of given_form count) tokens)
        begins now zero [] e h = record { is = h }
        begins now zero (t ∷ tokens) e h =
            turned _ (further now zero (value_need ∷ []) t tokens e h) (λ x r. record { spelled = r.spelled; start = r.goes })
        begins now (suc count) [] e h = record { is = h }
        begins now (suc count) (t ∷ tokens) e h =
            turned _ (further now (suc count) call_needs t tokens e h) (λ x r. record { spelled = r.spelled; start = r.goes })

  arguments-read : (now : Option CFault) (more : List Need) (tokens : List Token) →
      now ≡ token_fault (arguments_need ∷ more) last tokens →
      Answers now (Reads last now (λ values. parted_by (codes ",") expr_spelling values ⨾ word (codes ")")) more tokens)
      (parse_list last arguments_form (parse_value last) tokens)
  arguments-read now more tokens h =
      turned _ (list-reads last arguments_form expr_spelling (arguments_stack more) (λ count. more)
      (Needed last (λ count. expr_need 1 ∷ more_arguments_need ∷ more)) (parse_value last) (arguments-law more) now tokens h)
      (λ x r. record { spelled = sym (parted-formed (codes ",") (codes ")") expr_spelling x.0 tokens) ∙ r.spelled; goes = r.goes })

  module _ (more : List Need) where
    -- an equation that the tokens before these begin, up to its `=`
    record ReadsRight (now : Option CFault) (line : ℕ) (given : List (List ℕ)) (tokens : List Token)
        (x : WrittenEquation × List Token) : Type 0 where
      spelled : (start : List Token) → at_line line (given_spelling given ⨾ word (codes "=")) start ≡ Some tokens →
          equation_spelling x.0 start ≡ Some x.1
      goes : now ≡ token_fault more last x.1

    call-reads : (now : Option CFault) (line : ℕ) (given : List (List ℕ)) (tokens : List Token) →
        now ≡ token_fault (call_needs ++ more) last tokens →
        Answers now (ReadsRight now line given tokens) (parse_call last line given tokens)
    call-reads now line given tokens h =
        chain _ _ (word-reads last (codes "call") now _ tokens h) (λ call_word rc.
        chain _ _ (name-reads last now _ call_word.1 rc.goes) (λ callee rn.
        chain _ _ (word-reads last (codes "(") now _ callee.1 rn.goes) (λ opened ro.
        chain _ _ (arguments-read now _ opened.1 ro.goes) (λ values rv.
        chain _ _ (word-reads last (codes ";") now more values.1 rv.goes) (λ end re.
        record {
          is = record {
            spelled = λ start s. rw (
              s,
              rc.spelled,
              at_line-inner callee.0.line (name_word callee.0.text) call_word.1 callee.1 rn.spelled,
              ro.spelled,
              rv.spelled,
            ) re.spelled;
            goes = re.goes;
          };
        })))))

    -- what one name is given
    and-nothing : (o : Option (List Token)) → option_and_then nothing o ≡ o
    and-nothing (Some tokens) = refl
    and-nothing None = refl

    one-spelled : (line : ℕ) (given : List ℕ) (start tokens : List Token) →
        at_line line (given_spelling (given ∷ []) ⨾ word (codes "=")) start ≡ Some tokens →
        (at_line line (name_word given) ⨾ word (codes "=")) start ≡ Some tokens
    one-spelled line given [] tokens h = cc h
    one-spelled line given (t ∷ start) tokens h = by (t.line == line) h
      where
        by : (b : Bool) → (if b then (given_spelling (given ∷ []) ⨾ word (codes "=")) (t ∷ start) else None) ≡ Some tokens →
            option_and_then (word (codes "=")) (if b then name_word given (t ∷ start) else None) ≡ Some tokens
        by true k = ap (option_and_then (word (codes "="))) (sym (and-nothing (name_word given (t ∷ start)))) ∙ k
        by false k = cc k

    set-reads : (now : Option CFault) (line : ℕ) (given : List ℕ) (tokens : List Token) →
        now ≡ token_fault (expr_need 1 ∷ text_need (codes ";") ∷ more) last tokens →
        Answers now (ReadsRight now line (given ∷ []) tokens) (parse_set last line given tokens)
    set-reads now line given tokens h =
        chain _ _ (value-reads last now _ tokens h) (λ value rv.
        chain _ _ (word-reads last (codes ";") now more value.1 rv.goes) (λ end re.
        record {
          is = record {
            spelled = λ start s. then-spelled (at_line line (name_word given)) (word (codes "="))
                (expr_spelling value.0 ⨾ word (codes ";")) start tokens (one-spelled line given start tokens s)
                ∙ rw rv.spelled re.spelled;
            goes = re.goes;
          };
        }))

    right-reads : (now : Option CFault) (line : ℕ) (given : List ℕ) (texts : List (List ℕ)) (tokens : List Token) →
        now ≡ token_fault (given_ended more (counted 0 texts)) last tokens →
        Answers now (ReadsRight now line (given ∷ texts) tokens) (parse_right last line given texts tokens)
    right-reads now line given [] [] h = record { is = h }
    right-reads now line given [] (t ∷ tokens) h = by (bytes_eq t.text (codes "call")) refl h
      where
        by : (b : Bool) → bytes_eq t.text (codes "call") ≡ b →
            now ≡ on_reply (with_needs (if b then leaves callee_needs
            else with_needs (expr_reply 1 t.text) (text_need (codes ";") ∷ [])) more) t.line (λ left. token_fault left last tokens) →
            Answers now (ReadsRight now line (given ∷ []) (t ∷ tokens)) (parse_right_by last line given (t ∷ tokens) b)
        by true e k = call-reads now line (given ∷ []) (t ∷ tokens) (k ∙ rw e refl)
        by false e k =
            set-reads now line given (t ∷ tokens) (k ∙ ap (λ r. on_reply r t.line (λ left. token_fault left last tokens))
            (more-needs (expr_reply 1 t.text) (text_need (codes ";") ∷ []) more))
    right-reads now line given (text ∷ texts) tokens h =
        call-reads now line (given ∷ text ∷ texts) tokens (h ∙ ap (λ needs. token_fault needs last tokens) (several 0 texts))
      where
        several : (n : ℕ) (texts : List (List ℕ)) → given_ended more (counted (suc n) texts) ≡ call_needs ++ more
        several n [] = refl
        several n (text ∷ texts) = several (suc n) texts

    -- what starts an equation
    abbrev pub Starts : Option CFault → List Token → Type 0
    Starts now [] = now ≡ Some (fault_at last Syntax)
    Starts now (t ∷ tokens) =
        now ≡ on_reply (with_needs (first_reply ((bytes_eq t.text (codes "="), leaves call_needs)
        ∷ (is_lustre_name t.text, leaves (given_need ∷ [])) ∷ [])) more) t.line (λ left. token_fault left last tokens)

    pub equation-reads : (now : Option CFault) (tokens : List Token) → Starts now tokens →
        Answers now (Reads last now equation_spelling more tokens) (parse_equation last tokens)
    equation-reads now [] h = record { is = h }
    equation-reads now (t ∷ tokens) h = by (bytes_eq t.text (codes "=")) (is_lustre_name t.text) refl refl h
      where
        by : (a b : Bool) → bytes_eq t.text (codes "=") ≡ a → is_lustre_name t.text ≡ b →
            now ≡ on_reply (with_needs (first_reply ((a, leaves call_needs) ∷ (b, leaves (given_need ∷ [])) ∷ [])) more) t.line
            (λ left. token_fault left last tokens) →
            Answers now (Reads last now equation_spelling more (t ∷ tokens)) (parse_equation_from last t tokens a)
        by true b e d k =
            turned _ (call-reads now t.line [] tokens k)
            (λ x r. record { spelled = r.spelled (t ∷ tokens) (rw (eq-eqb t.line t.line refl, e) refl); goes = r.goes })
        by false true e d k =
            rw d (chain _ _ (given-list k) (λ given rg.
            turned _ (right-reads now t.line t.text given.0 given.1 rg.goes)
            (λ x r. record {
              spelled = r.spelled (t ∷ tokens) (rw (eq-eqb t.line t.line refl, d, same-text t.text)
                  (sym (also-formed (codes ",") (codes "=") name_word given.0 tokens) ∙ rg.spelled));
              goes = r.goes;
            })))
          where
            given-list : now ≡ token_fault (given_need ∷ more) last tokens →
                Answers now (ReadsList last given_form name_word (given_stack more) (given_ended more)
                (Needed last (λ count. name_need ∷ more_given_need ∷ more)) now 0 tokens)
                (parse_list last given_form (parse_given last) tokens)
            given-list j = list-reads last given_form name_word (given_stack more) (given_ended more)
                (Needed last (λ count. name_need ∷ more_given_need ∷ more)) (parse_given last) (given-law more) now tokens j
        by false false e d k = rw d (record { is = k })
