-- The text of a lawful file is read as it, lines aside.
use Rattle.std.proofs.Common.{◌≡◌, ◌⊎◌, inl, inr, refl, sym, ◌∙◌, ap, subst, ℕ, zero, suc, ◌+◌, ◌<◌, ◌≤◌, List, [], ◌∷◌, ◌++◌, length, map, true, Some, Ok, slice_get, arith}
use Rattle.std.specs.Prelude.{flat_map}
use Rattle.std.specs.List.{AllByRecursion}
use Rattle.std.proofs.lemmas.List.{append_assoc, append-nil, map-append, length-map, length-append, get_or_append_left}
use Rattle.std.proofs.lemmas.Option.{slice_get_within, same_Some}
use Rattle.base_core.specs.Numbers.{reported_number}
use Rattle.base_core.specs.Results.{◌>>=◌}
use Rattle.c_syntax.specs.Names.{name_at}
use Rattle.lustre_syntax.specs.Names.{is_lustre_name}
use Rattle.lustre_syntax.specs.Tree.{EquationTree, set, call, NodeTree, FileTree, texts_of, node_texts, given_by, expressions_of, equation_without_lines, node_without_lines}
use Rattle.lustre_syntax.specs.Lawful.{expr_depth, expr_limit, AreDistinct, Agrees, IsWritable, IsLawfulNode, AreNodes, EndsWithInts, IsLawful}
use Rattle.lustre_grammar.specs.Tokens.{tokens_of}
use Rattle.lustre_grammar.specs.Grammar.{Spells}
use Rattle.lustre_rules.specs.Resolve.{is_end, resolve_nodes, resolve_file}
use Rattle.lustre_rules.specs.Reading.{IsShallow, LustreText, IsTextOf}
use Rattle.lustre_reading_laws.specs.ReadingLaws.{HasOneReading, HasOneFault}
use Rattle.lustre_reading_laws.proofs.lemmas.Readings.{texts_are_judged}
use Rattle.lustre_printer.specs.Printing.{file_bytes}
use Rattle.lustre_printer.proofs.Names.{distinct-named, declared-named, distinct-more}
use Rattle.lustre_printer.proofs.PrintedTrees.{read_equation, read_equations, body_line, read_node, next_line, written_nodes, read_nodes, lines_after_nodes, written_file, read_file}
use Rattle.lustre_printer.proofs.PrintedEquations.{all-front, all-back, CanBePrinted, HasCallee}
use Rattle.lustre_printer.proofs.PrintedNodes.{EquationCanBePrinted, NodeCanBePrinted, file-spelled}
use Rattle.lustre_printer.proofs.PrintedValues.{IsWithin}
use Rattle.lustre_printer.proofs.PrintedResolving.{AreRead, HasPlaces}
use Rattle.lustre_printer.proofs.PrintedDefinitions.{HasInts, node-resolved}

-- ---- Places

all-map : {A : Type 0} (P Q : A → Type 0) → ((x : A) → P x → Q x) → (xs : List A) → AllByRecursion P xs → AllByRecursion Q xs
all-map P Q f [] h = tt
all-map P Q f (x ∷ xs) h = (f x h.0, all-map P Q f xs h.1)

-- an equation gives places below a count, and its expressions read such places
abbrev Has : ℕ → EquationTree → Type 0
Has count e = AllByRecursion (λ k. k < count) (given_by e) × AllByRecursion (IsWritable count) (expressions_of e)

-- the places that equations give, and what their expressions hold
equations-have : (count : ℕ) (es : List EquationTree) → AllByRecursion (λ k. k < count) (flat_map given_by es) →
    AllByRecursion (λ e. AllByRecursion (IsWritable count) (expressions_of e)) es →
    AllByRecursion (Has count) es
equations-have count [] given values = tt
equations-have count (e ∷ es) given values = (
  (all-front (λ k. k < count) (given_by e) (flat_map given_by es) given, values.0),
  equations-have count es (all-back (λ k. k < count) (given_by e) (flat_map given_by es) given) values.1,
)

places-have : (n : NodeTree) → AllByRecursion (Has (length n.names)) n.equations → AllByRecursion (HasPlaces n.names) n.equations
places-have n h =
    all-map (Has (length n.names)) (HasPlaces n.names)
    (λ e x. record {
      given = x.0;
      values = all-map (IsWritable (length n.names)) (IsWithin n.names) (λ v w. w.reads) (expressions_of e) x.1;
    })
    n.equations h

-- ---- Nodes that can be printed

more-distinct : (earlier : List NodeTree) (n : NodeTree) → AreDistinct (node_texts earlier) → IsLawfulNode earlier n →
    AreDistinct (node_texts (earlier ++ n ∷ []))
more-distinct earlier n distinct h =
    subst AreDistinct (sym (map-append (λ x. x.text) earlier (n ∷ []))) (distinct-more (node_texts earlier) n.text distinct h.named h.new)

-- the nodes of a file have different names
nodes-distinct : (earlier later : List NodeTree) → AreNodes earlier later → AreDistinct (node_texts earlier) →
    AreDistinct (node_texts (earlier ++ later))
nodes-distinct earlier [] h distinct = subst (λ ns. AreDistinct (node_texts ns)) (sym (append-nil earlier)) distinct
nodes-distinct earlier (n ∷ ns) h distinct =
    subst (λ xs. AreDistinct (node_texts xs)) (append_assoc earlier (n ∷ []) ns)
    (nodes-distinct (earlier ++ n ∷ []) ns h.1 (more-distinct earlier n distinct h.0))

-- a text that has a reading has one
one-reading : (bytes : List ℕ) (g h : FileTree) → HasOneReading bytes ⊎ HasOneFault bytes → LustreText bytes g →
    LustreText bytes h → g ≡ h
one-reading bytes g h (inl of) a b = of.one g a ∙ sym (of.one h b)
one-reading bytes g h (inr fault) a b = absurd (fault.unread g a)

module _ (f : FileTree) (lawful : IsLawful f) where
  abbrev nodes : List (List ℕ)
  nodes = node_texts f.nodes

  all-distinct : AreDistinct nodes
  all-distinct = nodes-distinct [] f.nodes lawful.nodes tt

  -- the name of a node before
  name-of : (earlier later : List NodeTree) → earlier ++ later ≡ f.nodes → (k : ℕ) → k < length earlier →
      name_at nodes k ≡ name_at (node_texts earlier) k
  name-of earlier later whole k within =
      ap (λ ns. name_at (node_texts ns) k) (sym whole) ∙ ap (λ ts. name_at ts k) (map-append (λ x. x.text) earlier later)
      ∙ get_or_append_left (node_texts earlier) (node_texts later) [] k (subst (λ m. k < m) (sym (length-map earlier (λ x. x.text))) within)

  callee-named : (earlier later : List NodeTree) → earlier ++ later ≡ f.nodes → (callee : ℕ) (of : NodeTree) →
      slice_get earlier callee ≡ Some of → is_lustre_name (name_at nodes callee) ≡ true
  callee-named earlier later whole callee of there =
      let within : callee < length f.nodes =
      omega (arith, slice_get_within earlier callee of there, ap length whole, length-append earlier later) in
      distinct-named nodes all-distinct callee (subst (λ m. callee < m) (sym (length-map f.nodes (λ x. x.text))) within)

  names-named : (n : NodeTree) → AreDistinct (texts_of n.names) → (k : ℕ) → k < length n.names →
      is_lustre_name (name_at (texts_of n.names) k) ≡ true
  names-named n h k within = distinct-named (texts_of n.names) h k (subst (λ m. k < m) (sym (length-map n.names (λ x. x.text))) within)

  equations-printed : (earlier later : List NodeTree) → earlier ++ later ≡ f.nodes → (n : NodeTree) (h : IsLawfulNode earlier n) →
      (es : List EquationTree) → AllByRecursion (Agrees earlier n) es → AllByRecursion (Has (length n.names)) es →
      AllByRecursion (EquationCanBePrinted nodes (texts_of n.names) (length n.names) (names-named n h.names)) es
  equations-printed earlier later whole n h [] agree has = tt
  equations-printed earlier later whole n h (e ∷ es) agree has = (
    record {
      given = has.0.0;
      values = all-map (IsWritable (length n.names)) (CanBePrinted (texts_of n.names) (length n.names) (names-named n h.names))
          (λ v w. record { reads = w.reads; literals = w.literals }) (expressions_of e) has.0.1;
      callee = callee e agree.0;
    },
    equations-printed earlier later whole n h es agree.1 has.1,
  )
    where
      callee : (e : EquationTree) → Agrees earlier n e → HasCallee (texts_of n.names) (length n.names) (names-named n h.names) nodes e
      callee (set line given value) agrees = tt
      callee (call line given k values) agrees = callee-named earlier later whole k agrees.0 agrees.1

  has-all : (earlier : List NodeTree) (n : NodeTree) → IsLawfulNode earlier n → AllByRecursion (Has (length n.names)) n.equations
  has-all earlier n h = equations-have (length n.names) n.equations h.within h.writable

  nodes-printed : (earlier later : List NodeTree) → earlier ++ later ≡ f.nodes → AreNodes earlier later →
      AllByRecursion (NodeCanBePrinted nodes) later
  nodes-printed earlier [] whole h = tt
  nodes-printed earlier (n ∷ ns) whole h = (
    record {
      named = h.0.named;
      names = names-named n h.0.names;
      declared = declared-named n.names h.0.names;
      equations = equations-printed earlier (n ∷ ns) whole n h.0 n.equations h.0.typed (has-all earlier n h.0);
    },
    nodes-printed (earlier ++ n ∷ []) ns (append_assoc earlier (n ∷ []) ns ∙ whole) h.1,
  )

  some-nodes : (ns : List NodeTree) → EndsWithInts ns → 0 < length ns
  some-nodes [] h = absurd h
  some-nodes (n ∷ ns) h = omega arith

  pub spelled : Spells (tokens_of (file_bytes f)) (written_file f)
  spelled = file-spelled f (some-nodes f.nodes lawful.last) (nodes-printed [] f.nodes refl lawful.nodes)

  -- ---- Reading

  read-texts : (l : ℕ) (ns : List NodeTree) → node_texts (read_nodes l ns) ≡ node_texts ns
  read-texts l [] = refl
  read-texts l (n ∷ ns) = ap (λ ts. n.text ∷ ts) (read-texts (next_line l n) ns)

  read-there : (l : ℕ) (ns : List NodeTree) (k : ℕ) (n : NodeTree) → slice_get ns k ≡ Some n →
      (m : ℕ) × (slice_get (read_nodes l ns) k ≡ Some (read_node m n))
  read-there l [] k n there = cc
  read-there l (x ∷ xs) zero n there = (l, ap (λ y. Some (read_node l y)) (same_Some x n there))
  read-there l (x ∷ xs) (suc k) n there = read-there (next_line l x) xs k n there

  read-more : (l : ℕ) (ns : List NodeTree) (n : NodeTree) →
      read_nodes l (ns ++ n ∷ []) ≡ read_nodes l ns ++ read_node (lines_after_nodes l ns) n ∷ []
  read-more l [] n = refl
  read-more l (x ∷ xs) n = ap (λ ys. read_node l x ∷ ys) (read-more (next_line l x) xs n)

  lines-more : (l : ℕ) (ns : List NodeTree) (n : NodeTree) → lines_after_nodes l (ns ++ n ∷ []) ≡ next_line (lines_after_nodes l ns) n
  lines-more l [] n = refl
  lines-more l (x ∷ xs) n = lines-more (next_line l x) xs n

  are-read : (earlier later : List NodeTree) → earlier ++ later ≡ f.nodes → AreDistinct (node_texts earlier) →
      AreRead nodes earlier (read_nodes 1 earlier)
  are-read earlier later whole distinct = record {
    texts = read-texts 1 earlier;
    distinct = distinct;
    there = read-there 1 earlier;
    names = name-of earlier later whole;
  }

  last-has : (l : ℕ) (n : NodeTree) (ns : List NodeTree) → EndsWithInts (n ∷ ns) → is_end (written_nodes nodes l ns) ≡ true → HasInts n
  last-has l n [] h e = h
  last-has l n (m ∷ ns) h e = cc

  later-ends : (n : NodeTree) (ns : List NodeTree) → EndsWithInts (n ∷ ns) → 0 < length ns → EndsWithInts ns
  later-ends n [] h some = absurd (omega (arith, some))
  later-ends n (m ∷ ns) h some = h

  nodes-resolved : (earlier later : List NodeTree) → earlier ++ later ≡ f.nodes → AreNodes earlier later →
      AreDistinct (node_texts earlier) → (0 < length later → EndsWithInts later) →
      resolve_nodes (read_nodes 1 earlier) (written_nodes nodes (lines_after_nodes 1 earlier) later) ≡ Ok (read_nodes 1 f.nodes)
  nodes-resolved earlier [] whole h distinct ends = ap (λ ns. Ok (read_nodes 1 ns)) (sym (append-nil earlier) ∙ whole)
  nodes-resolved earlier (n ∷ ns) whole h distinct ends =
      let l : ℕ = lines_after_nodes 1 earlier in
      let later : EndsWithInts (n ∷ ns) = ends (omega arith) in
      ap (λ r. r >>= (λ x. resolve_nodes (read_nodes 1 earlier ++ x ∷ []) (written_nodes nodes (next_line l n) ns)))
      (node-resolved nodes earlier (read_nodes 1 earlier) (are-read earlier (n ∷ ns) whole distinct) n h.0
      (places-have n (has-all earlier n h.0)) l (is_end (written_nodes nodes (next_line l n) ns)) (last-has (next_line l n) n ns later))
      ∙ ap (λ ms. resolve_nodes ms (written_nodes nodes (next_line l n) ns)) (sym (read-more 1 earlier n))
      ∙ ap (λ m. resolve_nodes (read_nodes 1 (earlier ++ n ∷ [])) (written_nodes nodes m ns)) (sym (lines-more 1 earlier n))
      ∙ nodes-resolved (earlier ++ n ∷ []) ns (append_assoc earlier (n ∷ []) ns ∙ whole) h.1 (more-distinct earlier n distinct h.0)
      (later-ends n ns later)

  resolved : resolve_file (written_file f) ≡ Ok (read_file f)
  resolved = rw (nodes-resolved [] f.nodes refl lawful.nodes tt (λ some. lawful.last)) refl

  -- ---- The limit, and the lines

  same-expressions : (line : ℕ) (e : EquationTree) → expressions_of (read_equation line e) ≡ expressions_of e
  same-expressions line (set old given value) = refl
  same-expressions line (call old given callee values) = refl

  equations-shallow : (count l : ℕ) (es : List EquationTree) →
      AllByRecursion (λ e. AllByRecursion (IsWritable count) (expressions_of e)) es → AllByRecursion IsShallow (read_equations l es)
  equations-shallow count l [] h = tt
  equations-shallow count l (e ∷ es) h = (
    subst (AllByRecursion (λ x. expr_depth x ≤ expr_limit)) (sym (same-expressions (reported_number l) e))
        (all-map (IsWritable count) (λ x. expr_depth x ≤ expr_limit) (λ x w. w.depth) (expressions_of e) h.0),
    equations-shallow count (l + 1) es h.1,
  )

  nodes-shallow : (earlier : List NodeTree) (l : ℕ) (ns : List NodeTree) → AreNodes earlier ns →
      AllByRecursion (λ (n : NodeTree). AllByRecursion IsShallow n.equations) (read_nodes l ns)
  nodes-shallow earlier l [] h = tt
  nodes-shallow earlier l (n ∷ ns) h = (
    equations-shallow (length n.names) (body_line l n) n.equations h.0.writable,
    nodes-shallow (earlier ++ n ∷ []) (next_line l n) ns h.1,
  )

  same-equations : (l : ℕ) (es : List EquationTree) → map equation_without_lines (read_equations l es) ≡ map equation_without_lines es
  same-equations l [] = refl
  same-equations l (e ∷ es) = λ i. one (reported_number l) e i ∷ same-equations (l + 1) es i
    where
      one : (line : ℕ) (e : EquationTree) → equation_without_lines (read_equation line e) ≡ equation_without_lines e
      one line (set old given value) = refl
      one line (call old given callee values) = refl

  same-nodes : (l : ℕ) (ns : List NodeTree) → map node_without_lines (read_nodes l ns) ≡ map node_without_lines ns
  same-nodes l [] = refl
  same-nodes l (n ∷ ns) =
      λ i. record {
        text = n.text;
        line = 0;
        inputs = n.inputs;
        outputs = n.outputs;
        names = n.names;
        equations = same-equations (body_line l n) n.equations i;
      } ∷ same-nodes (next_line l n) ns i

  text-read : LustreText (file_bytes f) (read_file f)
  text-read = record {
    written = written_file f;
    spelled = spelled;
    resolved = resolved;
    limit = nodes-shallow [] 1 f.nodes lawful.nodes;
  }

  pub text_printed : (bytes : List ℕ) → bytes ≡ file_bytes f → IsTextOf bytes f
  text_printed bytes same =
      subst (λ b. IsTextOf b f) (sym same)
      (record {
        reading = read_file f;
        read = text-read;
        one = λ other r. one-reading (file_bytes f) other (read_file f) (texts_are_judged (file_bytes f)) r text-read;
        same = λ i. record { nodes = same-nodes 1 f.nodes i };
      })
