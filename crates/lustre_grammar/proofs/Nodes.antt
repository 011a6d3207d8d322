-- What the parse of nodes answers is what the needs say.
use Rattle.std.proofs.Common.{◌≡◌, refl, sym, ◌∙◌, ℕ, zero, suc, List, [], ◌∷◌, ◌++◌, drop, Bool, true, false, Option, Some, Ok, codes, bytes_eq}
use Rattle.std.proofs.lemmas.Bool.{eq-eqb}
use Rattle.c_syntax.specs.declared.fault.CFault.{CFault}
use Rattle.c_grammar.specs.Tokens.{Token}
use Rattle.c_grammar.specs.Grammar.{◌⨾◌, word, all_spelling}
use Rattle.c_grammar.specs.Parsing.{or_syntax_unless}
use Rattle.c_grammar.proofs.lemmas.PrefixLaws.{at_line-inner}
use Rattle.base_core.specs.Results.{◌>>=◌, ◌>>◌}
use Rattle.lustre_syntax.specs.Names.{is_lustre_name}
use Rattle.lustre_grammar.specs.Grammar.{name_word, declared_spelling, equation_spelling, ports_spelling, others_spelling, node_spelling}
use Rattle.lustre_grammar.specs.Prefix.{Need, text_need, name_need, type_need, ports_need, more_ports_need, others_need, more_others_need, equations_need, given_need, nodes_need, leaves, with_needs, only_if, first_reply, declared_reply, call_needs, node_needs, file_needs, on_reply, token_fault}
use Rattle.lustre_grammar.specs.Parsing.{ports_form, others_form, equations_form, lead_of, is_closed, parse_mark, parse_name, parse_equation, parse_declared, parse_ports, parse_interface, parse_body, Interface, Body, parse_node}
use Rattle.lustre_grammar.proofs.Answering.{Answers, Reads, chain, turned}
use Rattle.lustre_grammar.proofs.Words.{word-reads, name-reads}
use Rattle.lustre_grammar.proofs.Lists.{FormLaw, Begun, list-reads}
use Rattle.lustre_grammar.proofs.lemmas.Forms.{then-spelled, fourth-spelled, parted-formed, others-formed, all-formed}
use Rattle.lustre_grammar.proofs.Equations.{Needed, mark-begins, declared-reads, Starts, equation-reads}
use Rattle.lustre_grammar.proofs.lemmas.Taking.{declared-takes, equation-takes}

module _ (last : ℕ) where
  module _ (more : List Need) where
    abbrev ports_stack : ℕ → List Need
    ports_stack zero = ports_need ∷ more
    ports_stack (suc count) = more_ports_need ∷ more

    abbrev port_needs : List Need
    port_needs = name_need ∷ text_need (codes ":") ∷ type_need ∷ more_ports_need ∷ more

    abbrev PortsLaw : Type 0
    PortsLaw = FormLaw last ports_form declared_spelling ports_stack (λ count. more) (Needed last (λ count. port_needs))
        (parse_declared last)

    ports-law : PortsLaw
    ports-law = record { takes = declared-takes; ends = ends; begins = begins; reads = reads }
      where
        reads : (now : Option CFault) (count : ℕ) (tokens : List Token) → now ≡ token_fault port_needs last tokens →
            Answers now (Reads last now declared_spelling (more_ports_need ∷ more) tokens) (parse_declared last tokens)
        reads now count tokens h = declared-reads last now (more_ports_need ∷ more) tokens h

        ends : (now : Option CFault) (count : ℕ) (tokens : List Token) → is_closed (Some (codes ")")) tokens ≡ true →
            now ≡ token_fault (ports_stack count) last tokens → now ≡ token_fault more last (drop 1 tokens)
        ends now count [] e h = cc e
        ends now zero (t ∷ tokens) e h = h ∙ rw e refl
        ends now (suc count) (t ∷ tokens) e h = h ∙ rw e refl

        name-begins : (now : Option CFault) (t : Token) (tokens : List Token) →
            now ≡ on_reply (with_needs (declared_reply (more_ports_need ∷ []) t.text) more) t.line
            (λ left. token_fault left last tokens) → now ≡ token_fault port_needs last (t ∷ tokens)
        name-begins now t tokens h = by (is_lustre_name t.text) h
          where
            by : (b : Bool) →
                now ≡ on_reply (with_needs (only_if b (leaves (text_need (codes ":") ∷ type_need ∷ more_ports_need ∷ []))) more)
                t.line (λ left. token_fault left last tokens) →
                now ≡ on_reply (with_needs (only_if b (leaves [])) (text_need (codes ":") ∷ type_need ∷ more_ports_need ∷ more))
                t.line (λ left. token_fault left last tokens)
            by true k = k
            by false k = k

        begins : (now : Option CFault) (count : ℕ) (tokens : List Token) → is_closed (Some (codes ")")) tokens ≡ false →
            now ≡ token_fault (ports_stack count) last tokens →
            Answers now (Begun last ports_form declared_spelling ports_stack (λ count. more)
            (Needed last (λ count. port_needs)) now count tokens) (parse_mark last (lead_of ports_form count) tokens)
        begins now zero [] e h = record { is = record { spelled = refl; start = h } }
        begins now zero (t ∷ tokens) e h =
            record { is = record { spelled = refl; start = name-begins now t tokens (h ∙ rw e refl) } }
        begins now (suc count) [] e h = record { is = h }
        begins now (suc count) (t ∷ tokens) e h =
            turned _ (mark-begins last (codes ";") (name_need ∷ text_need (codes ":") ∷ type_need ∷ more_ports_need ∷ []) more
            now t tokens (h ∙ rw e refl)) (λ x r. record { spelled = r.spelled; start = r.goes })

    abbrev others_stack : ℕ → List Need
    others_stack zero = others_need ∷ more
    others_stack (suc count) = more_others_need ∷ more

    abbrev other_needs : List Need
    other_needs = name_need ∷ text_need (codes ":") ∷ type_need ∷ text_need (codes ";") ∷ more_others_need ∷ more

    abbrev OthersLaw : Type 0
    OthersLaw = FormLaw last others_form declared_spelling others_stack (λ count. more) (Needed last (λ count. other_needs))
        (parse_declared last)

    others-law : OthersLaw
    others-law = record { takes = declared-takes; ends = ends; begins = begins; reads = reads }
      where
        reads : (now : Option CFault) (count : ℕ) (tokens : List Token) → now ≡ token_fault other_needs last tokens →
            Answers now (Reads last now declared_spelling (text_need (codes ";") ∷ more_others_need ∷ more) tokens)
            (parse_declared last tokens)
        reads now count tokens h = declared-reads last now (text_need (codes ";") ∷ more_others_need ∷ more) tokens h

        ends : (now : Option CFault) (count : ℕ) (tokens : List Token) → is_closed (Some (codes "let")) tokens ≡ true →
            now ≡ token_fault (others_stack count) last tokens → now ≡ token_fault more last (drop 1 tokens)
        ends now count [] e h = cc e
        ends now zero (t ∷ tokens) e h = h ∙ rw e refl
        ends now (suc count) (t ∷ tokens) e h = h ∙ rw e refl

        name-begins : (now : Option CFault) (t : Token) (tokens : List Token) →
            now ≡ on_reply (with_needs (declared_reply (text_need (codes ";") ∷ more_others_need ∷ []) t.text) more) t.line
            (λ left. token_fault left last tokens) → now ≡ token_fault other_needs last (t ∷ tokens)
        name-begins now t tokens h = by (is_lustre_name t.text) h
          where
            by : (b : Bool) →
                now ≡ on_reply (with_needs (only_if b (leaves (text_need (codes ":") ∷ type_need ∷ text_need (codes ";")
                ∷ more_others_need ∷ []))) more) t.line (λ left. token_fault left last tokens) →
                now ≡ on_reply (with_needs (only_if b (leaves []))
                (text_need (codes ":") ∷ type_need ∷ text_need (codes ";") ∷ more_others_need ∷ more))
                t.line (λ left. token_fault left last tokens)
            by true k = k
            by false k = k

        begins : (now : Option CFault) (count : ℕ) (tokens : List Token) → is_closed (Some (codes "let")) tokens ≡ false →
            now ≡ token_fault (others_stack count) last tokens →
            Answers now (Begun last others_form declared_spelling others_stack (λ count. more)
            (Needed last (λ count. other_needs)) now count tokens) (parse_mark last (lead_of others_form count) tokens)
        begins now zero [] e h = record { is = h }
        begins now zero (t ∷ tokens) e h =
            turned _ (mark-begins last (codes "var") (name_need ∷ text_need (codes ":") ∷ type_need ∷ text_need (codes ";")
            ∷ more_others_need ∷ []) more now t tokens (h ∙ rw e refl)) (λ x r. record { spelled = r.spelled; start = r.goes })
        begins now (suc count) [] e h = record { is = record { spelled = refl; start = h } }
        begins now (suc count) (t ∷ tokens) e h =
            record { is = record { spelled = refl; start = name-begins now t tokens (h ∙ rw e refl) } }

    abbrev EquationsLaw : Type 0
    EquationsLaw = FormLaw last equations_form equation_spelling (λ count. equations_need ∷ more) (λ count. more)
        (λ now count tokens. Starts last (equations_need ∷ more) now tokens) (parse_equation last)

    equations-law : EquationsLaw
    equations-law = record { takes = equation-takes; ends = ends; begins = begins; reads = reads }
      where
        reads : (now : Option CFault) (count : ℕ) (tokens : List Token) → Starts last (equations_need ∷ more) now tokens →
            Answers now (Reads last now equation_spelling (equations_need ∷ more) tokens) (parse_equation last tokens)
        reads now count tokens h = equation-reads last (equations_need ∷ more) now tokens h

        ends : (now : Option CFault) (count : ℕ) (tokens : List Token) → is_closed (Some (codes "tel")) tokens ≡ true →
            now ≡ token_fault (equations_need ∷ more) last tokens → now ≡ token_fault more last (drop 1 tokens)
        ends now count [] e h = cc e
        ends now count (t ∷ tokens) e h = h ∙ rw e refl

        equation-begins : (now : Option CFault) (t : Token) (tokens : List Token) →
            now ≡ on_reply (with_needs (first_reply ((bytes_eq t.text (codes "="), leaves (call_needs ++ equations_need ∷ []))
            ∷ (is_lustre_name t.text, leaves (given_need ∷ equations_need ∷ [])) ∷ [])) more) t.line
            (λ left. token_fault left last tokens) → Starts last (equations_need ∷ more) now (t ∷ tokens)
        equation-begins now t tokens h = by (bytes_eq t.text (codes "=")) (is_lustre_name t.text) h
          where
            by : (a b : Bool) →
                now ≡ on_reply (with_needs (first_reply ((a, leaves (call_needs ++ equations_need ∷ []))
                ∷ (b, leaves (given_need ∷ equations_need ∷ [])) ∷ [])) more) t.line (λ left. token_fault left last tokens) →
                now ≡ on_reply (with_needs (first_reply ((a, leaves call_needs) ∷ (b, leaves (given_need ∷ [])) ∷ []))
                (equations_need ∷ more)) t.line (λ left. token_fault left last tokens)
            by true b k = k
            by false true k = k
            by false false k = k

        begins : (now : Option CFault) (count : ℕ) (tokens : List Token) → is_closed (Some (codes "tel")) tokens ≡ false →
            now ≡ token_fault (equations_need ∷ more) last tokens →
            Answers now (Begun last equations_form equation_spelling (λ count. equations_need ∷ more) (λ count. more)
            (λ now count tokens. Starts last (equations_need ∷ more) now tokens) now count tokens)
            (parse_mark last (lead_of equations_form count) tokens)
        begins now zero [] e h = record { is = record { spelled = refl; start = h } }
        begins now (suc count) [] e h = record { is = record { spelled = refl; start = h } }
        begins now zero (t ∷ tokens) e h =
            record { is = record { spelled = refl; start = equation-begins now t tokens (h ∙ rw e refl) } }
        begins now (suc count) (t ∷ tokens) e h =
            record { is = record { spelled = refl; start = equation-begins now t tokens (h ∙ rw e refl) } }

  -- ---- The parts of a node

  ports-read : (now : Option CFault) (more : List Need) (tokens : List Token) →
      now ≡ token_fault (text_need (codes "(") ∷ ports_need ∷ more) last tokens →
      Answers now (Reads last now ports_spelling more tokens) (parse_ports last tokens)
  ports-read now more tokens h =
      chain _ _ (word-reads last (codes "(") now _ tokens h) (λ opened ro.
      turned _ (list-reads last ports_form declared_spelling (ports_stack more) (λ count. more)
      (Needed last (λ count. port_needs more)) (parse_declared last) (ports-law more) now opened.1 ro.goes)
      (λ x r. record {
        spelled = rw ro.spelled (sym (parted-formed (codes ";") (codes ")") declared_spelling x.0 opened.1) ∙ r.spelled);
        goes = r.goes;
      }))

  abbrev interface_spelling : Interface → List Token → Option (List Token)
  interface_spelling p = ports_spelling p.0 ⨾ word (codes "returns") ⨾ ports_spelling p.1 ⨾ word (codes ";")

  interface-reads : (now : Option CFault) (more : List Need) (tokens : List Token) →
      now ≡ token_fault (text_need (codes "(") ∷ ports_need ∷ text_need (codes "returns") ∷ text_need (codes "(") ∷ ports_need
      ∷ text_need (codes ";") ∷ more) last tokens →
      Answers now (Reads last now interface_spelling more tokens) (parse_interface last tokens)
  interface-reads now more tokens h =
      chain _ _ (ports-read now _ tokens h) (λ inputs ri.
      chain _ _ (word-reads last (codes "returns") now _ inputs.1 ri.goes) (λ returns rr.
      chain _ _ (ports-read now _ returns.1 rr.goes) (λ outputs ro.
      chain _ _ (word-reads last (codes ";") now more outputs.1 ro.goes) (λ end re.
      record { is = record { spelled = rw (ri.spelled, rr.spelled, ro.spelled) re.spelled; goes = re.goes } }))))

  abbrev body_spelling : Body → List Token → Option (List Token)
  body_spelling b = others_spelling b.0 ⨾ word (codes "let") ⨾ all_spelling equation_spelling b.1 ⨾ word (codes "tel")
      ⨾ word (codes ";")

  body-reads : (now : Option CFault) (more : List Need) (tokens : List Token) →
      now ≡ token_fault (others_need ∷ equations_need ∷ text_need (codes ";") ∷ more) last tokens →
      Answers now (Reads last now body_spelling more tokens) (parse_body last tokens)
  body-reads now more tokens h =
      chain _ _ (list-reads last others_form declared_spelling (others_stack _) (λ count. _)
      (Needed last (λ count. other_needs _)) (parse_declared last) (others-law _) now tokens h) (λ others ro.
      chain _ _ (list-reads last equations_form equation_spelling (λ count. equations_need ∷ text_need (codes ";") ∷ more)
      (λ count. text_need (codes ";") ∷ more)
      (λ now count tokens. Starts last (equations_need ∷ text_need (codes ";") ∷ more) now tokens)
      (parse_equation last) (equations-law (text_need (codes ";") ∷ more)) now others.1 ro.goes) (λ equations re.
      chain _ _ (word-reads last (codes ";") now more equations.1 re.goes) (λ end rw1.
      record {
        is = record {
          spelled = then-spelled (others_spelling others.0) (word (codes "let"))
              (all_spelling equation_spelling equations.0 ⨾ word (codes "tel") ⨾ word (codes ";")) tokens others.1
              (sym (others-formed others.0 tokens) ∙ ro.spelled)
              ∙ then-spelled (all_spelling equation_spelling equations.0) (word (codes "tel")) (word (codes ";")) others.1
              equations.1 (sym (all-formed (Some (codes "tel")) equation_spelling equations.0 others.1) ∙ re.spelled)
              ∙ rw1.spelled;
          goes = rw1.goes;
        };
      })))

  pub node-reads : (now : Option CFault) (tokens : List Token) → now ≡ token_fault file_needs last tokens →
      Answers now (Reads last now node_spelling (nodes_need ∷ []) tokens) (parse_node last tokens)
  node-reads now [] h = record { is = h }
  node-reads now (t ∷ tokens) h = by (bytes_eq t.text (codes "node")) refl h
    where
      by : (b : Bool) → bytes_eq t.text (codes "node") ≡ b →
          now ≡ on_reply (with_needs (only_if b (leaves [])) node_needs) t.line (λ left. token_fault left last tokens) →
          Answers now (Reads last now node_spelling (nodes_need ∷ []) (t ∷ tokens))
          (or_syntax_unless t b >> (parse_name last tokens >>= λ w. parse_interface last w.1
          >>= λ ports. parse_body last ports.1 >>= λ body. Ok (
            record {
              line = t.line;
              text = w.0.text;
              inputs = ports.0.0;
              outputs = ports.0.1;
              others = body.0.0;
              equations = body.0.1;
            },
            body.1,
          )))
      by false e k = record { is = k }
      by true e k =
          chain _ _ (name-reads last now _ tokens k) (λ w rn.
          chain _ _ (interface-reads now _ w.1 rn.goes) (λ ports rp.
          chain _ _ (body-reads now (nodes_need ∷ []) ports.1 rp.goes) (λ body rb.
          record {
            is = record {
              spelled = rw (eq-eqb t.line t.line refl, e, at_line-inner w.0.line (name_word w.0.text) tokens w.1 rn.spelled)
                  (fourth-spelled (ports_spelling ports.0.0) (word (codes "returns")) (ports_spelling ports.0.1)
                  (word (codes ";")) (body_spelling body.0) w.1 ports.1 rp.spelled ∙ rb.spelled);
              goes = rb.goes;
            };
          })))
