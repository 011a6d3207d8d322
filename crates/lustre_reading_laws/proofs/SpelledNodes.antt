-- What the grammar spells is parsed, where it is within the limit, and has an error where it isn't: equations, nodes, files.
use Rattle.std.proofs.Common.{◌≡◌, refl, sym, ◌∙◌, ap, subst, ℕ, zero, suc, List, [], ◌∷◌, true, false, option_and_then, Some, None, Ok, Err, codes, bytes_eq}
use Rattle.std.specs.List.{list_all}
use Rattle.std.proofs.lemmas.Slice.Eq.{bytes_eq-Decides}
use Rattle.base_core.specs.Results.{◌>>=◌, ◌>>◌}
use Rattle.c_syntax.specs.declared.fault.CFault.{CFault}
use Rattle.c_grammar.specs.Tokens.{Token}
use Rattle.c_grammar.specs.Grammar.{Spelling, ◌⨾◌, nothing, word, at_line, all_spelling}
use Rattle.c_grammar.specs.Parsing.{Parsed, or_syntax_unless}
use Rattle.c_grammar.proofs.lemmas.PrefixLaws.{Front, word-front, seq-parts}
use Rattle.c_rules.proofs.lemmas.SpelledWords.{LineFront, line-front, word-rest, word-parsed}
use Rattle.lustre_syntax.specs.Names.{is_lustre_name}
use Rattle.lustre_syntax.specs.Tree.{ValueType}
use Rattle.lustre_syntax.specs.Lawful.{expr_limit}
use Rattle.lustre_grammar.specs.Written.{Word, WrittenExpr, WrittenEquation, set, call, WrittenDeclared, WrittenNode, WrittenFile}
use Rattle.lustre_grammar.specs.Grammar.{name_word, type_text, expr_spelling, each_after, parted_by, declared_spelling, arguments_spelling, equation_spelling, ports_spelling, others_spelling, node_spelling, Spells}
use Rattle.lustre_grammar.specs.Parsing.{lead_of, is_closed, ports_form, others_form, equations_form, given_form, arguments_form, nodes_form, type_of_text, parse_name, parse_list, parse_value, parse_callee, parse_call, parse_set, parse_right_by, parse_right, parse_given, parse_equation_from, parse_equation, parse_declared, parse_ports, parse_interface, parse_body, parse_node, file_of_nodes, parse_file}
use Rattle.lustre_grammar.proofs.lemmas.Forms.{mark_spelling, at_end, parted-formed, also-formed, all-formed, others-formed}
use Rattle.lustre_grammar.proofs.lemmas.Taking.{name-takes, expr-takes, declared-takes, equation-takes, node-takes}
use Rattle.lustre_reading_laws.proofs.Depths.{value_within, equation_within, node_within, file_within}
use Rattle.lustre_reading_laws.proofs.SpelledLists.{IsRead, moved, surely, after, read-as, ended, NameFront, name-front, WordFront, word-there, name-parsed, text-parsed, whole-read}
use Rattle.lustre_reading_laws.proofs.SpelledExprs.{not_name, Opens, opener-no, expr-opens, expr-read}

-- ---- What a list does not end with

word-begins : (mark close : List ℕ) (a : Spelling) (tokens rest : List Token) → bytes_eq mark close ≡ false →
    (word mark ⨾ a) tokens ≡ Some rest → is_closed (Some close) tokens ≡ false
word-begins mark close a tokens rest other h =
    let p : _ = seq-parts (word mark) a tokens rest h in
    let f : Front mark tokens p.0 = word-front mark tokens p.0 p.1 in
    ap (is_closed (Some close)) f.list ∙ ap (λ x. bytes_eq x close) f.same ∙ other

name-begins : (text close : List ℕ) (tokens rest : List Token) → is_lustre_name close ≡ false →
    name_word text tokens ≡ Some rest → is_closed (Some close) tokens ≡ false
name-begins text close tokens rest other h =
    let f : NameFront text tokens rest = name-front text tokens rest h in
    ap (is_closed (Some close)) f.list ∙ not_name f.token.text close f.lawful other

declared-begins : (d : WrittenDeclared) (close : List ℕ) (tokens rest : List Token) → is_lustre_name close ≡ false →
    declared_spelling d tokens ≡ Some rest → is_closed (Some close) tokens ≡ false
declared-begins d close tokens rest other h =
    let p : _ = seq-parts (at_line d.line (name_word d.text)) (word (codes ":") ⨾ word (type_text d.type)) tokens rest h in
    let f : WordFront (record { line = d.line; text = d.text }) tokens p.0 = word-there (record { line = d.line; text = d.text }) tokens p.0 p.1 in
    ap (is_closed (Some close)) f.list ∙ not_name f.token.text close f.lawful other

type-known : (type : ValueType) → type_of_text (type_text type) ≡ Some type
type-known true = refl
type-known false = refl

-- a node by its parts
abbrev node_of : ℕ → List ℕ → List WrittenDeclared × List WrittenDeclared → List WrittenDeclared × List WrittenEquation → WrittenNode
node_of line text ports body =
    record {
      line = line;
      text = text;
      inputs = ports.0;
      outputs = ports.1;
      others = body.0;
      equations = body.1;
    }

module _ (last : ℕ) where
  declared-parsed : (d : WrittenDeclared) (tokens rest : List Token) → declared_spelling d tokens ≡ Some rest →
      parse_declared last tokens ≡ Ok (d, rest)
  declared-parsed d tokens rest h =
      let w : Word = record { line = d.line; text = d.text } in
      let p : _ = seq-parts (at_line d.line (name_word d.text)) (word (codes ":") ⨾ word (type_text d.type)) tokens rest h in
      let q : _ = seq-parts (word (codes ":")) (word (type_text d.type)) p.0 rest p.2 in
      let f : Front (type_text d.type) q.0 rest = word-front (type_text d.type) q.0 rest q.2 in
      rw (
        name-parsed last w tokens p.0 p.1,
        word-parsed last (codes ":") p.0 q.0 q.1,
        f.list,
        ap type_of_text f.same ∙ type-known d.type,
      ) refl

  given-parsed : (text : List ℕ) (tokens rest : List Token) → name_word text tokens ≡ Some rest →
      parse_given last tokens ≡ Ok (text, rest)
  given-parsed text tokens rest h =
      let p : _ = text-parsed last text tokens rest h in
      rw p.1 (ap (λ x. Ok (x, rest)) p.2)

  given_names-parsed : (texts : List (List ℕ)) (tokens rest : List Token) →
      (each_after (codes ",") name_word texts ⨾ word (codes "=")) tokens ≡ Some rest →
      parse_list last given_form (parse_given last) tokens ≡ Ok (texts, rest)
  given_names-parsed texts tokens rest h =
      let r : IsRead (list_all (λ x. true) texts) texts rest (parse_list last given_form (parse_given last) tokens) =
      whole-read last given_form (parse_given last) name_word (λ x. true) name-takes
      (λ x ts us k. surely (given-parsed x ts us k)) begins texts tokens rest
      (also-formed (codes ",") (codes "=") name_word texts tokens ∙ h) in
      r.is (all texts)
    where
      begins : (count : ℕ) (x : List ℕ) (ts us : List Token) →
          (mark_spelling (lead_of given_form count) ⨾ name_word x) ts ≡ Some us → is_closed (Some (codes "=")) ts ≡ false
      begins zero x ts us k = word-begins (codes ",") (codes "=") (name_word x) ts us refl k
      begins (suc count) x ts us k = word-begins (codes ",") (codes "=") (name_word x) ts us refl k

      all : (xs : List (List ℕ)) → list_all (λ x. true) xs ≡ true
      all [] = refl
      all (x ∷ xs) = all xs

  arguments-read : (values : List WrittenExpr) (tokens rest : List Token) →
      (parted_by (codes ",") expr_spelling values ⨾ word (codes ")")) tokens ≡ Some rest →
      IsRead (list_all value_within values) values rest (parse_list last arguments_form (parse_value last) tokens)
  arguments-read values tokens rest h =
      whole-read last arguments_form (parse_value last) expr_spelling value_within expr-takes
      (λ v ts us k. expr-read last v expr_limit ts us k) begins values tokens rest
      (parted-formed (codes ",") (codes ")") expr_spelling values tokens ∙ h)
    where
      begins : (count : ℕ) (v : WrittenExpr) (ts us : List Token) →
          (mark_spelling (lead_of arguments_form count) ⨾ expr_spelling v) ts ≡ Some us → is_closed (Some (codes ")")) ts ≡ false
      begins zero v ts us k =
          let o : Opens ts = expr-opens v ts us k in
          ap (is_closed (Some (codes ")"))) o.list ∙ opener-no o.token.text (codes ")") o.opener refl refl refl refl refl
      begins (suc count) v ts us k = word-begins (codes ",") (codes ")") (expr_spelling v) ts us refl k

  -- ---- Equations

  callee-read : (line : ℕ) (given : List (List ℕ)) (callee : List ℕ) (values : List WrittenExpr) (tokens rest : List Token) →
      (name_word callee ⨾ arguments_spelling values ⨾ word (codes ";")) tokens ≡ Some rest →
      IsRead (list_all value_within values) (call line given callee values) rest (parse_callee last line given tokens)
  callee-read line given callee values tokens rest h =
      let inside : Spelling = parted_by (codes ",") expr_spelling values ⨾ word (codes ")") in
      let p : _ = seq-parts (name_word callee) (arguments_spelling values ⨾ word (codes ";")) tokens rest h in
      let q : _ = seq-parts (arguments_spelling values) (word (codes ";")) p.0 rest p.2 in
      let r : _ = seq-parts (word (codes "(")) inside p.0 q.0 q.1 in
      let t : _ = text-parsed last callee tokens p.0 p.1 in
      subst (λ x. IsRead (list_all value_within values) (call line given x values) rest (parse_callee last line given tokens)) t.2
      (after _ t.1
      (after _ (word-parsed last (codes "(") p.0 r.0 r.1)
      (ended last (codes ";") (λ vs. call line given (t.0).text vs) (arguments-read values r.0 q.0 r.2) q.2)))

  call-read : (line : ℕ) (given : List (List ℕ)) (callee : List ℕ) (values : List WrittenExpr) (tokens rest : List Token) →
      (word (codes "call") ⨾ name_word callee ⨾ arguments_spelling values ⨾ word (codes ";")) tokens ≡ Some rest →
      IsRead (list_all value_within values) (call line given callee values) rest (parse_call last line given tokens)
  call-read line given callee values tokens rest h =
      let p : _ = seq-parts (word (codes "call")) (name_word callee ⨾ arguments_spelling values ⨾ word (codes ";")) tokens rest h in
      after _ (word-parsed last (codes "call") tokens p.0 p.1) (callee-read line given callee values p.0 rest p.2)

  -- an equation that begins with a name
  named-parsed : (t : Token) (texts : List (List ℕ)) (tokens mid : List Token) → is_lustre_name t.text ≡ true →
      (each_after (codes ",") name_word texts ⨾ word (codes "=")) tokens ≡ Some mid →
      parse_equation last (t ∷ tokens) ≡ parse_right last t.line t.text texts mid
  named-parsed t texts tokens mid lawful h =
      rw (not_name t.text (codes "=") lawful refl, lawful, given_names-parsed texts tokens mid h) refl

  right-call : (line : ℕ) (text : List ℕ) (texts : List (List ℕ)) (tokens rest : List Token) →
      word (codes "call") tokens ≡ Some rest → parse_right last line text texts tokens ≡ parse_call last line (text ∷ texts) tokens
  right-call line text [] tokens rest h =
      let f : Front (codes "call") tokens rest = word-front (codes "call") tokens rest h in
      let closed : is_closed (Some (codes "call")) tokens ≡ true =
      ap (is_closed (Some (codes "call"))) f.list ∙ (bytes_eq-Decides f.token.text (codes "call")).1 f.same in
      rw closed refl
  right-call line text (other ∷ texts) tokens rest h = refl

  equation-read : (e : WrittenEquation) (tokens rest : List Token) → equation_spelling e tokens ≡ Some rest →
      IsRead (equation_within e) e rest (parse_equation last tokens)
  equation-read (set line given value) tokens rest h =
      let w : Word = record { line = line; text = given } in
      let p : _ =
      seq-parts (at_line line (name_word given)) (word (codes "=") ⨾ expr_spelling value ⨾ word (codes ";")) tokens rest h in
      let q : _ = seq-parts (word (codes "=")) (expr_spelling value ⨾ word (codes ";")) p.0 rest p.2 in
      let r : _ = seq-parts (expr_spelling value) (word (codes ";")) q.0 rest q.2 in
      let f : WordFront w tokens p.0 = word-there w tokens p.0 p.1 in
      let o : Opens q.0 = expr-opens value q.0 r.0 r.1 in
      let no_call : is_closed (Some (codes "call")) q.0 ≡ false =
      ap (is_closed (Some (codes "call"))) o.list ∙ opener-no o.token.text (codes "call") o.opener refl refl refl refl refl in
      moved (ap (parse_equation last) f.list ∙ named-parsed f.token [] p.0 q.0 f.lawful q.1
      ∙ ap (λ b. parse_right_by last f.token.line f.token.text q.0 b) no_call
      ∙ (λ i. parse_set last (f.same i).line (f.same i).text q.0))
      (ended last (codes ";") (set line given) (expr-read last value expr_limit q.0 r.0 r.1) r.2)
  equation-read (call line [] callee values) tokens rest h =
      let p : _ =
      seq-parts (at_line line (nothing ⨾ word (codes "="))) (word (codes "call") ⨾ name_word callee
      ⨾ arguments_spelling values ⨾ word (codes ";")) tokens rest h in
      let l : LineFront line (nothing ⨾ word (codes "=")) tokens p.0 = line-front line (nothing ⨾ word (codes "=")) tokens p.0 p.1 in
      let w : _ = word-rest (codes "=") l.token l.later p.0 l.inner in
      let is_call : bytes_eq l.token.text (codes "=") ≡ true = (bytes_eq-Decides l.token.text (codes "=")).1 w.0 in
      moved (ap (parse_equation last) l.list ∙ ap (parse_equation_from last l.token l.later) is_call
      ∙ (λ i. parse_call last (l.is i) [] (w.1 i)))
      (call-read line [] callee values p.0 rest p.2)
  equation-read (call line (text ∷ texts) callee values) tokens rest h =
      let names : Spelling = name_word text ⨾ each_after (codes ",") name_word texts in
      let p : _ =
      seq-parts (at_line line (names ⨾ word (codes "="))) (word (codes "call") ⨾ name_word callee
      ⨾ arguments_spelling values ⨾ word (codes ";")) tokens rest h in
      let c : _ = seq-parts (word (codes "call")) (name_word callee ⨾ arguments_spelling values ⨾ word (codes ";")) p.0 rest p.2 in
      let l : LineFront line (names ⨾ word (codes "=")) tokens p.0 = line-front line (names ⨾ word (codes "=")) tokens p.0 p.1 in
      let q : _ = seq-parts names (word (codes "=")) (l.token ∷ l.later) p.0 l.inner in
      let r : _ = seq-parts (name_word text) (each_after (codes ",") name_word texts) (l.token ∷ l.later) q.0 q.1 in
      let n : NameFront text (l.token ∷ l.later) r.0 = name-front text (l.token ∷ l.later) r.0 r.1 in
      let line_is : n.token.line ≡ line = ap (first_line l.token) (sym n.list) ∙ l.is in
      moved (ap (parse_equation last) (l.list ∙ n.list)
      ∙ named-parsed n.token texts r.0 p.0 n.lawful (ap (option_and_then (word (codes "="))) r.2 ∙ q.2)
      ∙ right-call n.token.line n.token.text texts p.0 c.0 c.1
      ∙ (λ i. parse_call last (line_is i) (n.same i ∷ texts) p.0))
      (call-read line (text ∷ texts) callee values p.0 rest p.2)
    where
      first_line : Token → List Token → ℕ
      first_line t [] = t.line
      first_line t (u ∷ us) = u.line

  equation-begins : (e : WrittenEquation) (tokens rest : List Token) → equation_spelling e tokens ≡ Some rest →
      is_closed (Some (codes "tel")) tokens ≡ false
  equation-begins (set line given value) tokens rest h =
      let w : Word = record { line = line; text = given } in
      let p : _ =
      seq-parts (at_line line (name_word given)) (word (codes "=") ⨾ expr_spelling value ⨾ word (codes ";")) tokens rest h in
      let f : WordFront w tokens p.0 = word-there w tokens p.0 p.1 in
      ap (is_closed (Some (codes "tel"))) f.list ∙ not_name f.token.text (codes "tel") f.lawful refl
  equation-begins (call line [] callee values) tokens rest h =
      let p : _ =
      seq-parts (at_line line (nothing ⨾ word (codes "="))) (word (codes "call") ⨾ name_word callee
      ⨾ arguments_spelling values ⨾ word (codes ";")) tokens rest h in
      let l : LineFront line (nothing ⨾ word (codes "=")) tokens p.0 = line-front line (nothing ⨾ word (codes "=")) tokens p.0 p.1 in
      let w : _ = word-rest (codes "=") l.token l.later p.0 l.inner in
      ap (is_closed (Some (codes "tel"))) l.list ∙ ap (λ x. bytes_eq x (codes "tel")) w.0
  equation-begins (call line (text ∷ texts) callee values) tokens rest h =
      let names : Spelling = name_word text ⨾ each_after (codes ",") name_word texts in
      let p : _ =
      seq-parts (at_line line (names ⨾ word (codes "="))) (word (codes "call") ⨾ name_word callee
      ⨾ arguments_spelling values ⨾ word (codes ";")) tokens rest h in
      let l : LineFront line (names ⨾ word (codes "=")) tokens p.0 = line-front line (names ⨾ word (codes "=")) tokens p.0 p.1 in
      let q : _ = seq-parts names (word (codes "=")) (l.token ∷ l.later) p.0 l.inner in
      let r : _ = seq-parts (name_word text) (each_after (codes ",") name_word texts) (l.token ∷ l.later) q.0 q.1 in
      let n : NameFront text (l.token ∷ l.later) r.0 = name-front text (l.token ∷ l.later) r.0 r.1 in
      ap (is_closed (Some (codes "tel"))) (l.list ∙ n.list) ∙ not_name n.token.text (codes "tel") n.lawful refl

  -- ---- Nodes

  ports-parsed : (ds : List WrittenDeclared) (tokens rest : List Token) → ports_spelling ds tokens ≡ Some rest →
      parse_ports last tokens ≡ Ok (ds, rest)
  ports-parsed ds tokens rest h =
      let p : _ = seq-parts (word (codes "(")) (parted_by (codes ";") declared_spelling ds ⨾ word (codes ")")) tokens rest h in
      let r : IsRead (list_all (λ x. true) ds) ds rest (parse_list last ports_form (parse_declared last) p.0) =
      whole-read last ports_form (parse_declared last) declared_spelling (λ x. true) declared-takes
      (λ x ts us k. surely (declared-parsed x ts us k)) begins ds p.0 rest
      (parted-formed (codes ";") (codes ")") declared_spelling ds p.0 ∙ p.2) in
      rw (word-parsed last (codes "(") tokens p.0 p.1) (r.is (all ds))
    where
      begins : (count : ℕ) (x : WrittenDeclared) (ts us : List Token) →
          (mark_spelling (lead_of ports_form count) ⨾ declared_spelling x) ts ≡ Some us → is_closed (Some (codes ")")) ts ≡ false
      begins zero x ts us k = declared-begins x (codes ")") ts us refl k
      begins (suc count) x ts us k = word-begins (codes ";") (codes ")") (declared_spelling x) ts us refl k

      all : (xs : List WrittenDeclared) → list_all (λ x. true) xs ≡ true
      all [] = refl
      all (x ∷ xs) = all xs

  others-parsed : (ds : List WrittenDeclared) (tokens rest : List Token) → (others_spelling ds ⨾ word (codes "let")) tokens ≡ Some rest →
      parse_list last others_form (parse_declared last) tokens ≡ Ok (ds, rest)
  others-parsed ds tokens rest h =
      let r : IsRead (list_all (λ x. true) ds) ds rest (parse_list last others_form (parse_declared last) tokens) =
      whole-read last others_form (parse_declared last) declared_spelling (λ x. true) declared-takes
      (λ x ts us k. surely (declared-parsed x ts us k)) begins ds tokens rest (others-formed ds tokens ∙ h) in
      r.is (all ds)
    where
      begins : (count : ℕ) (x : WrittenDeclared) (ts us : List Token) →
          (mark_spelling (lead_of others_form count) ⨾ declared_spelling x) ts ≡ Some us → is_closed (Some (codes "let")) ts ≡ false
      begins zero x ts us k = word-begins (codes "var") (codes "let") (declared_spelling x) ts us refl k
      begins (suc count) x ts us k = declared-begins x (codes "let") ts us refl k

      all : (xs : List WrittenDeclared) → list_all (λ x. true) xs ≡ true
      all [] = refl
      all (x ∷ xs) = all xs

  equations-read : (es : List WrittenEquation) (tokens rest : List Token) →
      (all_spelling equation_spelling es ⨾ word (codes "tel")) tokens ≡ Some rest →
      IsRead (list_all equation_within es) es rest (parse_list last equations_form (parse_equation last) tokens)
  equations-read es tokens rest h =
      whole-read last equations_form (parse_equation last) equation_spelling equation_within equation-takes equation-read begins es
      tokens rest (all-formed (Some (codes "tel")) equation_spelling es tokens ∙ h)
    where
      begins : (count : ℕ) (x : WrittenEquation) (ts us : List Token) →
          (mark_spelling (lead_of equations_form count) ⨾ equation_spelling x) ts ≡ Some us → is_closed (Some (codes "tel")) ts ≡ false
      begins zero x ts us k = equation-begins x ts us k
      begins (suc count) x ts us k = equation-begins x ts us k

  -- two spellings and a third after them, grouped otherwise
  paired : (a b c : Spelling) (tokens mid rest : List Token) → a tokens ≡ Some mid → (b ⨾ c) mid ≡ Some rest →
      (left : List Token) × ((a ⨾ b) tokens ≡ Some left) × (c left ≡ Some rest)
  paired a b c tokens mid rest first others =
      let p : _ = seq-parts b c mid rest others in
      (p.0, ap (option_and_then b) first ∙ p.1, p.2)

  -- what follows the first token of a node
  abbrev after_node : Token → List Token → Parsed WrittenNode
  after_node t tokens =
      parse_name last tokens >>= λ w. parse_interface last w.1 >>= λ ports. parse_body last ports.1
      >>= λ body. Ok (node_of t.line w.0.text ports.0 body.0, body.1)

  node-read : (n : WrittenNode) (tokens rest : List Token) → node_spelling n tokens ≡ Some rest →
      IsRead (node_within n) n rest (parse_node last tokens)
  node-read n tokens rest h =
      let at_equations : Spelling = all_spelling equation_spelling n.equations ⨾ word (codes "tel") ⨾ word (codes ";") in
      let at_others : Spelling = others_spelling n.others ⨾ word (codes "let") ⨾ at_equations in
      let at_outputs : Spelling = ports_spelling n.outputs ⨾ word (codes ";") ⨾ at_others in
      let at_inputs : Spelling = ports_spelling n.inputs ⨾ word (codes "returns") ⨾ at_outputs in
      let a : _ = seq-parts (at_line n.line (word (codes "node"))) (name_word n.text ⨾ at_inputs) tokens rest h in
      let b : _ = seq-parts (name_word n.text) at_inputs a.0 rest a.2 in
      let c : _ = seq-parts (ports_spelling n.inputs) (word (codes "returns") ⨾ at_outputs) b.0 rest b.2 in
      let d : _ = seq-parts (word (codes "returns")) at_outputs c.0 rest c.2 in
      let e : _ = seq-parts (ports_spelling n.outputs) (word (codes ";") ⨾ at_others) d.0 rest d.2 in
      let f : _ = seq-parts (word (codes ";")) at_others e.0 rest e.2 in
      let g : _ = seq-parts (others_spelling n.others) (word (codes "let") ⨾ at_equations) f.0 rest f.2 in
      let i : _ = paired (others_spelling n.others) (word (codes "let")) at_equations f.0 g.0 rest g.1 g.2 in
      let j : _ = seq-parts (all_spelling equation_spelling n.equations) (word (codes "tel") ⨾ word (codes ";")) i.0 rest i.2 in
      let k : _ = paired (all_spelling equation_spelling n.equations) (word (codes "tel")) (word (codes ";")) i.0 j.0 rest j.1 j.2 in
      let l : LineFront n.line (word (codes "node")) tokens a.0 = line-front n.line (word (codes "node")) tokens a.0 a.1 in
      let w : _ = word-rest (codes "node") l.token l.later a.0 l.inner in
      let t : _ = text-parsed last n.text a.0 b.0 b.1 in
      let is_node : bytes_eq l.token.text (codes "node") ≡ true = (bytes_eq-Decides l.token.text (codes "node")).1 w.0 in
      let ports : parse_interface last b.0 ≡ Ok ((n.inputs, n.outputs), f.0) =
      rw (
        ports-parsed n.inputs b.0 c.0 c.1,
        word-parsed last (codes "returns") c.0 d.0 d.1,
        ports-parsed n.outputs d.0 e.0 e.1,
        word-parsed last (codes ";") e.0 f.0 f.1,
      ) refl in
      let body : IsRead (node_within n) (n.others, n.equations) rest (parse_body last f.0) =
      after _ (others-parsed n.others f.0 i.0 i.1)
      (ended last (codes ";") (λ es. (n.others, es)) (equations-read n.equations i.0 k.0 k.1) k.2) in
      let starts : parse_node last tokens ≡ after_node l.token a.0 =
      ap (parse_node last) (l.list ∙ ap (λ ts. l.token ∷ ts) w.1)
      ∙ ap (λ b. or_syntax_unless l.token b >> after_node l.token a.0) is_node in
      subst (λ x. IsRead (node_within n) x rest (parse_node last tokens))
      (λ m. node_of (l.is m) (t.2 m) (n.inputs, n.outputs) (n.others, n.equations))
      (moved starts
      (after _ t.1
      (after _ ports (read-as (λ x. node_of l.token.line (t.0).text (n.inputs, n.outputs) x) body))))

  node-begins : (n : WrittenNode) (tokens rest : List Token) → node_spelling n tokens ≡ Some rest → is_closed None tokens ≡ false
  node-begins n [] rest h = cc
  node-begins n (t ∷ tokens) rest h = refl

  nodes-read : (ns : List WrittenNode) (tokens : List Token) → all_spelling node_spelling ns tokens ≡ Some [] →
      IsRead (list_all node_within ns) ns [] (parse_list last nodes_form (parse_node last) tokens)
  nodes-read ns tokens h =
      whole-read last nodes_form (parse_node last) node_spelling node_within node-takes node-read begins ns tokens []
      (all-formed None node_spelling ns tokens ∙ ap (option_and_then at_end) h)
    where
      begins : (count : ℕ) (x : WrittenNode) (ts us : List Token) →
          (mark_spelling (lead_of nodes_form count) ⨾ node_spelling x) ts ≡ Some us → is_closed None ts ≡ false
      begins zero x ts us k = node-begins x ts us k
      begins (suc count) x ts us k = node-begins x ts us k

  -- what the parse makes of the tokens of a file
  pub file-parsed : (w : WrittenFile) (tokens : List Token) → Spells tokens w → file_within w ≡ true →
      parse_file last tokens ≡ Ok w
  file-parsed w tokens h within = by w.nodes refl h within
    where
      by : (ns : List WrittenNode) → w.nodes ≡ ns → Spells tokens (record { nodes = ns }) → list_all node_within ns ≡ true →
          parse_file last tokens ≡ Ok w
      by [] is s e = cc
      by (n ∷ ns) is s e = rw ((nodes-read (n ∷ ns) tokens s).is e) (ap Ok (λ i. record { nodes = sym is i }))

  pub file-too_deep : (w : WrittenFile) (tokens : List Token) → Spells tokens w → file_within w ≡ false →
      (fault : CFault) × (parse_file last tokens ≡ Err fault)
  file-too_deep w tokens h beyond = by w.nodes h beyond
    where
      by : (ns : List WrittenNode) → Spells tokens (record { nodes = ns }) → list_all node_within ns ≡ false →
          (fault : CFault) × (parse_file last tokens ≡ Err fault)
      by [] s e = cc
      by (n ∷ ns) s e =
          let f : _ = (nodes-read (n ∷ ns) tokens s).isnt e in
          (f.0, ap (λ r. r >>= λ x. file_of_nodes last x.0) f.1)
