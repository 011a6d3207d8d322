-- What the parse of a file answers is what the needs say.
use Rattle.std.proofs.Common.{◌≡◌, refl, ◌∙◌, sym, ap, ℕ, zero, suc, List, [], ◌∷◌, drop, Bool, true, false, Option, Some, None, option_and_then, codes, bytes_eq}
use Rattle.c_syntax.specs.declared.fault.CFault.{CFault}
use Rattle.c_grammar.specs.Tokens.{Token}
use Rattle.c_grammar.specs.Grammar.{all_spelling}
use Rattle.c_grammar.proofs.lemmas.PrefixLaws.{seq-parts}
use Rattle.lustre_grammar.specs.Written.{WrittenNode, WrittenFile}
use Rattle.lustre_grammar.specs.Grammar.{node_spelling, Spells}
use Rattle.lustre_grammar.specs.Prefix.{Need, nodes_need, leaves, with_needs, only_if, node_needs, file_needs, on_reply, token_fault}
use Rattle.lustre_grammar.specs.Parsing.{nodes_form, lead_of, is_closed, parse_mark, parse_node, file_of_nodes, parse_file}
use Rattle.lustre_grammar.specs.ParsedText.{ParsingAgrees}
use Rattle.lustre_grammar.proofs.Answering.{Answers, Reads, chain, claimed, refused}
use Rattle.lustre_grammar.proofs.lemmas.Forms.{at_end}
use Rattle.lustre_grammar.proofs.Lists.{FormLaw, Begun, counted, list-reads}
use Rattle.lustre_grammar.proofs.lemmas.Forms.{all-formed}
use Rattle.lustre_grammar.proofs.Equations.{Needed}
use Rattle.lustre_grammar.proofs.Nodes.{node-reads}
use Rattle.lustre_grammar.proofs.lemmas.Taking.{node-takes}

-- a node is needed, or a node or the end
abbrev nodes_stack : ℕ → List Need
nodes_stack zero = file_needs
nodes_stack (suc count) = nodes_need ∷ []

module _ (last : ℕ) where
  abbrev NodesLaw : Type 0
  NodesLaw = FormLaw last nodes_form node_spelling nodes_stack nodes_stack (Needed last (λ count. file_needs)) (parse_node last)

  nodes-law : NodesLaw
  nodes-law = record { takes = node-takes; ends = ends; begins = begins; reads = reads }
    where
      reads : (now : Option CFault) (count : ℕ) (tokens : List Token) → now ≡ token_fault file_needs last tokens →
          Answers now (Reads last now node_spelling (nodes_need ∷ []) tokens) (parse_node last tokens)
      reads now count tokens h = node-reads last now tokens h

      ends : (now : Option CFault) (count : ℕ) (tokens : List Token) → is_closed None tokens ≡ true →
          now ≡ token_fault (nodes_stack count) last tokens → now ≡ token_fault (nodes_stack count) last (drop 1 tokens)
      ends now count [] e h = h
      ends now count (t ∷ tokens) e h = cc e

      begins : (now : Option CFault) (count : ℕ) (tokens : List Token) → is_closed None tokens ≡ false →
          now ≡ token_fault (nodes_stack count) last tokens →
          Answers now (Begun last nodes_form node_spelling nodes_stack nodes_stack (Needed last (λ count. file_needs)) now count tokens)
          (parse_mark last (lead_of nodes_form count) tokens)
      begins now count [] e h = cc e
      begins now zero (t ∷ tokens) e h = record { is = record { spelled = refl; start = h } }
      begins now (suc count) (t ∷ tokens) e h = record { is = record { spelled = refl; start = by (bytes_eq t.text (codes "node")) h } }
        where
          by : (b : Bool) →
              now ≡ on_reply (with_needs (only_if b (leaves node_needs)) []) t.line (λ left. token_fault left last tokens) →
              now ≡ on_reply (with_needs (only_if b (leaves [])) node_needs) t.line (λ left. token_fault left last tokens)
          by true k = k
          by false k = k

  -- a file that is spelled, without an error
  record IsFileOf (now : Option CFault) (tokens : List Token) (w : WrittenFile) : Type 0 where
    spelled : Spells tokens w
    none : now ≡ None

  -- nothing is left at the end
  all-spelled : (ns : List WrittenNode) (tokens rest : List Token) →
      option_and_then at_end (all_spelling node_spelling ns tokens) ≡ Some rest →
      (all_spelling node_spelling ns tokens ≡ Some []) × (rest ≡ [])
  all-spelled ns tokens rest h =
      let p : _ = seq-parts (all_spelling node_spelling ns) at_end tokens rest h in by p.0 p.1 p.2
    where
      by : (left : List Token) → all_spelling node_spelling ns tokens ≡ Some left → at_end left ≡ Some rest →
          (all_spelling node_spelling ns tokens ≡ Some []) × (rest ≡ [])
      by [] e k = (e, cc k)
      by (t ∷ left) e k = cc k

  file-ends : (now : Option CFault) (tokens rest : List Token) (ns : List WrittenNode) →
      option_and_then at_end (all_spelling node_spelling ns tokens) ≡ Some rest →
      now ≡ token_fault (nodes_stack (counted 0 ns)) last rest → Answers now (IsFileOf now tokens) (file_of_nodes last ns)
  file-ends now tokens rest [] s h =
      record { is = h ∙ ap (token_fault file_needs last) (all-spelled [] tokens rest s).1 }
  file-ends now tokens rest (n ∷ ns) s h =
      let ends : _ = all-spelled (n ∷ ns) tokens rest s in
      record {
        is = record {
          spelled = ends.0;
          none = h ∙ ap (token_fault (nodes_stack (counted 1 ns)) last) ends.1 ∙ no-fault 0 ns;
        };
      }
    where
      no-fault : (count : ℕ) (ns : List WrittenNode) → token_fault (nodes_stack (counted (suc count) ns)) last [] ≡ None
      no-fault count [] = refl
      no-fault count (n ∷ ns) = no-fault (suc count) ns

  file-reads : (now : Option CFault) (tokens : List Token) → now ≡ token_fault file_needs last tokens →
      Answers now (IsFileOf now tokens) (parse_file last tokens)
  file-reads now tokens h =
      chain _ _ (list-reads last nodes_form node_spelling nodes_stack nodes_stack (Needed last (λ count. file_needs))
      (parse_node last) nodes-law now tokens h) (λ nodes r.
      file-ends now tokens nodes.1 nodes.0 (sym (all-formed None node_spelling nodes.0 tokens) ∙ r.spelled) r.goes)

pub parsing_agrees : ParsingAgrees
parsing_agrees =
    record {
      read = λ last tokens w e. let r : IsFileOf last (token_fault file_needs last tokens) tokens w =
          claimed (parse_file last tokens) w (file-reads last (token_fault file_needs last tokens) tokens refl) e in
          (r.spelled, r.none);
      refused = λ last tokens fault e. refused (parse_file last tokens) fault
          (file-reads last (token_fault file_needs last tokens) tokens refl) e;
    }
