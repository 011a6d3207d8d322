-- Printed nodes and files spell what they are printed from.
use Rattle.std.proofs.Common.{◌≡◌, refl, sym, ◌∙◌, ap, subst, ℕ, ◌+◌, ◌<◌, List, [], ◌∷◌, ◌++◌, true, false, map, length, take, drop, codes, arith}
use Rattle.std.specs.Prelude.{flat_map}
use Rattle.std.specs.List.{AllByRecursion}
use Rattle.std.proofs.lemmas.List.{append_assoc, append-nil, take-append-drop}
use Rattle.base_core.specs.Numbers.{reported_number}
use Rattle.c_syntax.specs.Names.{name_at}
use Rattle.c_grammar.specs.Grammar.{word, all_spelling, some_spelling}
use Rattle.lustre_syntax.specs.Names.{is_lustre_name}
use Rattle.lustre_syntax.specs.Tree.{ValueType, EquationTree, Declared, NodeTree, FileTree, texts_of, node_texts, given_by, expressions_of}
use Rattle.lustre_grammar.specs.Tokens.{tokens_of}
use Rattle.lustre_grammar.specs.Grammar.{type_text, declared_spelling, equation_spelling, ports_spelling, other_spelling, others_spelling, node_spelling, Spells}
use Rattle.lustre_printer.specs.Printing.{parted, equation_bytes, declared_bytes, ports_bytes, others_bytes, inputs_of, outputs_of, others_of, interface_bytes, node_bytes, file_bytes}
use Rattle.lustre_printer.proofs.Lexing.{Ends, word-token}
use Rattle.lustre_printer.proofs.PrintedTrees.{written_equations, written_declared, written_others, others_lines, body_line, written_node, next_line, written_nodes, lines_after_nodes, written_file}
use Rattle.lustre_printer.proofs.PrintedEquations.{all-front, all-back, enclosed, CanBePrinted, HasCallee, equation-read}
use Rattle.lustre_printer.proofs.TextReading.{Reads, ◌▸◌, along, ending, reads-nothing, spaced, lined, line_ended, reads-line, keyword, reads-name, reads-name_line, semicolon, colon, close_paren, sign, ends-space, ends-line, ends-sign, parens, parted-read}

-- the name is one of the language
abbrev pub IsNamed : Declared → Type 0
IsNamed d = is_lustre_name d.text ≡ true

type-read : {l : ℕ} (type : ValueType) (rest : List ℕ) → Ends rest → Reads (word (type_text type)) l (type_text type ++ rest) l rest
type-read true rest ends = keyword (codes "bool") rest refl refl ends
type-read false rest ends = keyword (codes "int") rest refl refl ends

declared_shape : (n t z : List ℕ) → ((n ++ codes ": ") ++ t) ++ z ≡ n ++ 58 ∷ 32 ∷ (t ++ z)
declared_shape n t z = simp append_assoc

declared-read : (l : ℕ) (d : Declared) → IsNamed d → (rest : List ℕ) → Ends rest →
    Reads (declared_spelling (written_declared (reported_number l) d)) l (declared_bytes d ++ rest) l rest
declared-read l d h rest ends =
    along (declared_shape d.text (type_text d.type) rest)
    (reads-name_line d.text (58 ∷ 32 ∷ (type_text d.type ++ rest)) h (ends-sign colon (32 ∷ (type_text d.type ++ rest))) ▸
    sign colon ▸ spaced (type-read d.type rest ends))

ports-read : (l : ℕ) (ds : List Declared) → AllByRecursion IsNamed ds → (rest : List ℕ) →
    Reads (ports_spelling (map (written_declared (reported_number l)) ds)) l (ports_bytes ds ++ rest) l rest
ports-read l ds h rest =
    along (enclosed (codes "(") (parted (codes "; ") (map declared_bytes ds)) rest)
    (parens
    (parted-read semicolon declared_bytes declared_spelling (written_declared (reported_number l)) IsNamed l (declared-read l) ds h
    (41 ∷ rest) (ends-sign close_paren rest)))

other-read : (l : ℕ) (d : Declared) → IsNamed d → (rest : List ℕ) →
    Reads (other_spelling (written_declared (reported_number l) d)) l ((declared_bytes d ++ codes ";\n") ++ rest) (l + 1) rest
other-read l d h rest =
    along (append_assoc (declared_bytes d) (codes ";\n") rest)
    (line_ended (declared-read l d h (59 ∷ 10 ∷ rest) (ends-sign semicolon (10 ∷ rest)) ▸ sign semicolon))

more_others-read : (l : ℕ) (ds : List Declared) → AllByRecursion IsNamed ds → (rest : List ℕ) →
    Reads (all_spelling other_spelling (written_others l ds)) l
    (flat_map (λ e. declared_bytes e ++ codes ";\n") ds ++ rest) (l + length ds) rest
more_others-read l [] h rest = ending (omega arith) reads-nothing
more_others-read l (d ∷ ds) h rest =
    let later : List ℕ = flat_map (λ e. declared_bytes e ++ codes ";\n") ds in
    along (append_assoc (declared_bytes d ++ codes ";\n") later rest)
    (ending (omega arith) (other-read l d h.0 (later ++ rest) ▸ more_others-read (l + 1) ds h.1 rest))

others-read : (l : ℕ) (ds : List Declared) → AllByRecursion IsNamed ds → (rest : List ℕ) →
    Reads (others_spelling (written_others (l + 1) ds)) l (others_bytes ds ++ rest) (l + others_lines ds) rest
others-read l [] h rest = ending (omega arith) reads-nothing
others-read l (d ∷ ds) h rest =
    let later : List ℕ = flat_map (λ e. declared_bytes e ++ codes ";\n") ds in
    let tail : List ℕ = (declared_bytes d ++ codes ";\n") ++ (later ++ rest) in
    along (ap (λ t. codes "var" ++ 10 ∷ t) (append_assoc (declared_bytes d ++ codes ";\n") later rest))
    (ending (omega arith)
    (keyword (codes "var") (10 ∷ tail) refl refl (ends-line tail) ▸
    lined (other-read (l + 1) d h.0 (later ++ rest) ▸ more_others-read (l + 1 + 1) ds h.1 rest)))

-- an equation of a node with these names can be printed
pub record EquationCanBePrinted (nodes names : List (List ℕ)) (count : ℕ)
    (named : (k : ℕ) → k < count → is_lustre_name (name_at names k) ≡ true) (e : EquationTree) : Type 0 where
  pub given : AllByRecursion (λ k. k < count) (given_by e)
  pub values : AllByRecursion (CanBePrinted names count named) (expressions_of e)
  pub callee : HasCallee names count named nodes e

equations-read : (nodes names : List (List ℕ)) (count : ℕ) (named : (k : ℕ) → k < count → is_lustre_name (name_at names k) ≡ true)
    (l : ℕ) (es : List EquationTree) → AllByRecursion (EquationCanBePrinted nodes names count named) es → (rest : List ℕ) →
    Reads (all_spelling equation_spelling (written_equations nodes names l es)) l (flat_map (equation_bytes nodes names) es ++ rest)
    (l + length es) rest
equations-read nodes names count named l [] h rest = ending (omega arith) reads-nothing
equations-read nodes names count named l (e ∷ es) h rest =
    let later : List ℕ = flat_map (equation_bytes nodes names) es in
    along (append_assoc (equation_bytes nodes names e) later rest)
    (ending (omega arith)
    (equation-read names count named nodes l e h.0.given h.0.values h.0.callee (later ++ rest) ▸
    equations-read nodes names count named (l + 1) es h.1 rest))

-- a node can be printed
pub record NodeCanBePrinted (nodes : List (List ℕ)) (n : NodeTree) : Type 0 where
  pub named : IsNamed (record { text = n.text; type = false })
  pub names : (k : ℕ) → k < length n.names → is_lustre_name (name_at (texts_of n.names) k) ≡ true
  pub declared : AllByRecursion IsNamed n.names
  pub equations : AllByRecursion (EquationCanBePrinted nodes (texts_of n.names) (length n.names) names) n.equations

interface_shape : (n p q z : List ℕ) →
    ((((((codes "node " ++ n) ++ codes " ") ++ p) ++ codes "\nreturns ") ++ q) ++ codes ";\n") ++ z
    ≡ codes "node" ++ 32 ∷ (n ++ 32 ∷ (p ++ 10 ∷ (codes "returns" ++ 32 ∷ (q ++ 59 ∷ 10 ∷ z))))
interface_shape n p q z = simp append_assoc

node_shape : (i o e z : List ℕ) → ((((i ++ o) ++ codes "let\n") ++ e) ++ codes "tel;\n") ++ z
    ≡ i ++ (o ++ (codes "let" ++ 10 ∷ (e ++ (codes "tel" ++ 59 ∷ 10 ∷ z))))
node_shape i o e z = simp append_assoc

-- the parts of the names of a node
pub parts : (n : NodeTree) → inputs_of n ++ (outputs_of n ++ others_of n) ≡ n.names
parts n =
    ap (λ x. inputs_of n ++ x) (take-append-drop n.outputs (drop n.inputs n.names)) ∙ take-append-drop n.inputs n.names

node-read : (nodes : List (List ℕ)) (l : ℕ) (n : NodeTree) → NodeCanBePrinted nodes n → (rest : List ℕ) →
    Reads (node_spelling (written_node nodes l n)) l (node_bytes nodes n ++ rest) (next_line l n) rest
node-read nodes l n h rest =
    let names : List (List ℕ) = texts_of n.names in
    let whole : AllByRecursion IsNamed (inputs_of n ++ (outputs_of n ++ others_of n)) =
    subst (AllByRecursion IsNamed) (sym (parts n)) h.declared in
    let inputs : AllByRecursion IsNamed (inputs_of n) = all-front IsNamed (inputs_of n) (outputs_of n ++ others_of n) whole in
    let later : AllByRecursion IsNamed (outputs_of n ++ others_of n) = all-back IsNamed (inputs_of n) (outputs_of n ++ others_of n) whole in
    let outputs : AllByRecursion IsNamed (outputs_of n) = all-front IsNamed (outputs_of n) (others_of n) later in
    let others : AllByRecursion IsNamed (others_of n) = all-back IsNamed (outputs_of n) (others_of n) later in
    let end : List ℕ = codes "tel" ++ 59 ∷ 10 ∷ rest in
    let body : List ℕ = flat_map (equation_bytes nodes names) n.equations ++ end in
    let from_let : List ℕ = codes "let" ++ 10 ∷ body in
    let from_others : List ℕ = others_bytes (others_of n) ++ from_let in
    let from_outputs : List ℕ = ports_bytes (outputs_of n) ++ 59 ∷ 10 ∷ from_others in
    let from_returns : List ℕ = codes "returns" ++ 32 ∷ from_outputs in
    let from_inputs : List ℕ = ports_bytes (inputs_of n) ++ 10 ∷ from_returns in
    let from_name : List ℕ = n.text ++ 32 ∷ from_inputs in
    along (node_shape (interface_bytes n) (others_bytes (others_of n)) (flat_map (equation_bytes nodes names) n.equations) rest
    ∙ interface_shape n.text (ports_bytes (inputs_of n)) (ports_bytes (outputs_of n)) from_others)
    (reads-line (codes "node") (32 ∷ from_name) (word-token (codes "node") (32 ∷ from_name) refl refl (ends-space from_name))
    (keyword (codes "node") (32 ∷ from_name) refl refl (ends-space from_name)) ▸
    spaced (reads-name n.text (32 ∷ from_inputs) h.named (ends-space from_inputs)) ▸
    spaced (ports-read l (inputs_of n) inputs (10 ∷ from_returns)) ▸
    lined (keyword (codes "returns") (32 ∷ from_outputs) refl refl (ends-space from_outputs)) ▸
    spaced (ports-read (l + 1) (outputs_of n) outputs (59 ∷ 10 ∷ from_others)) ▸ line_ended (sign semicolon) ▸
    others-read (l + 1 + 1) (others_of n) others from_let ▸
    line_ended (keyword (codes "let") (10 ∷ body) refl refl (ends-line body)) ▸
    equations-read nodes names (length n.names) h.names (body_line l n) n.equations h.equations end ▸
    keyword (codes "tel") (59 ∷ 10 ∷ rest) refl refl (ends-sign semicolon (10 ∷ rest)) ▸ line_ended (sign semicolon))

nodes-read : (nodes : List (List ℕ)) (l : ℕ) (ns : List NodeTree) → AllByRecursion (NodeCanBePrinted nodes) ns → (rest : List ℕ) →
    Reads (all_spelling node_spelling (written_nodes nodes l ns)) l (flat_map (node_bytes nodes) ns ++ rest) (lines_after_nodes l ns) rest
nodes-read nodes l [] h rest = reads-nothing
nodes-read nodes l (n ∷ ns) h rest =
    along (append_assoc (node_bytes nodes n) (flat_map (node_bytes nodes) ns) rest)
    (node-read nodes l n h.0 (flat_map (node_bytes nodes) ns ++ rest) ▸ nodes-read nodes (next_line l n) ns h.1 rest)

-- the text of a file spells it
pub file-spelled : (f : FileTree) → 0 < length f.nodes → AllByRecursion (NodeCanBePrinted (node_texts f.nodes)) f.nodes →
    Spells (tokens_of (file_bytes f)) (written_file f)
file-spelled f some h =
    some_nodes f.nodes some ∙ (along (sym (append-nil (file_bytes f))) (nodes-read (node_texts f.nodes) 1 f.nodes h [])).is
  where
    some_nodes : (ns : List NodeTree) → 0 < length ns →
        some_spelling node_spelling (written_nodes (node_texts f.nodes) 1 ns) (tokens_of (file_bytes f))
        ≡ all_spelling node_spelling (written_nodes (node_texts f.nodes) 1 ns) (tokens_of (file_bytes f))
    some_nodes [] none = absurd (omega (arith, none))
    some_nodes (n ∷ ns) some = refl
