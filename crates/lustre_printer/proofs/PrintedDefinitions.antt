-- What printed nodes spell is resolved to what they are printed from.
use Rattle.std.proofs.Common.{◌≡◌, refl, sym, ◌∙◌, ap, subst, ℕ, zero, suc, ◌+◌, ◌<◌, ◌≤◌, List, [], ◌∷◌, ◌++◌, length, map, take, drop, Bool, true, false, not, ◌&&◌, ◌||◌, if◌then◌else◌, Ok, arith}
use Rattle.std.specs.Prelude.{flat_map}
use Rattle.std.specs.List.{AllByRecursion, list_all}
use Rattle.std.proofs.lemmas.List.{append_assoc, map-append, length-map, length-take-le, length-drop, take-map, drop-map, take-append-drop}
use Rattle.std.proofs.lemmas.Bool.{le-ltb}
use Rattle.std.proofs.lemmas.Simd.{map-map}
use Rattle.base_core.specs.Numbers.{reported_number}
use Rattle.c_syntax.specs.Names.{name_at}
use Rattle.c_syntax.specs.Outputs.{has_name}
use Rattle.c_syntax.specs.Lawful.{AreApart}
use Rattle.c_syntax.proofs.lemmas.NameFacts.{AreApart-more, AreApart-none}
use Rattle.c_rules.specs.Resolve.{check_params}
use Rattle.lustre_syntax.specs.Tree.{ValueType, int, EquationTree, set, call, Declared, NodeTree, texts_of, given_by}
use Rattle.lustre_syntax.specs.Typing.{same_type, input_types, output_types}
use Rattle.lustre_syntax.specs.Lawful.{AreDistinct, IsLawfulNode}
use Rattle.lustre_grammar.specs.Written.{WrittenDeclared, WrittenNode}
use Rattle.lustre_rules.specs.Resolve.{written_given, all_given, has_ints, written_names, declared_names, resolve_head, resolve_node}
use Rattle.lustre_printer.specs.Printing.{inputs_of, outputs_of, others_of}
use Rattle.lustre_printer.proofs.PrintedTrees.{written_equation, written_equations, written_declared, written_others, body_line, written_node, read_node}
use Rattle.lustre_printer.proofs.PrintedNodes.{parts}
use Rattle.lustre_printer.proofs.PrintedGiven.{Wants, wants-all, times, times-some}
use Rattle.lustre_printer.proofs.PrintedResolving.{AreRead, HasPlaces, equations-resolved}

-- the names of a written list, and what is declared
abbrev declared_of : WrittenDeclared → Declared
declared_of d = record { text = d.text; type = d.type }

ports-declared : (line : ℕ) (ds : List Declared) → map declared_of (map (written_declared line) ds) ≡ ds
ports-declared line [] = refl
ports-declared line (d ∷ ds) = ap (λ xs. d ∷ xs) (ports-declared line ds)

others-declared : (l : ℕ) (ds : List Declared) → map declared_of (written_others l ds) ≡ ds
others-declared l [] = refl
others-declared l (d ∷ ds) = ap (λ xs. d ∷ xs) (others-declared (l + 1) ds)

outputs-declared : (nodes : List (List ℕ)) (l : ℕ) (n : NodeTree) →
    map declared_of ((written_node nodes l n).outputs ++ (written_node nodes l n).others) ≡ outputs_of n ++ others_of n
outputs-declared nodes l n =
    map-append declared_of (written_node nodes l n).outputs (written_node nodes l n).others
    ∙ ap (λ xs. xs ++ map declared_of (written_node nodes l n).others) (ports-declared (reported_number (l + 1)) (outputs_of n))
    ∙ ap (λ xs. outputs_of n ++ xs) (others-declared (l + 1 + 1 + 1) (others_of n))

all-declared : (nodes : List (List ℕ)) (l : ℕ) (n : NodeTree) → declared_names (written_node nodes l n) ≡ n.names
all-declared nodes l n =
    let w : WrittenNode = written_node nodes l n in
    ap (map declared_of) (append_assoc w.inputs w.outputs w.others) ∙ map-append declared_of w.inputs (w.outputs ++ w.others)
    ∙ ap (λ xs. xs ++ map declared_of (w.outputs ++ w.others)) (ports-declared (reported_number l) (inputs_of n))
    ∙ ap (λ xs. inputs_of n ++ xs) (outputs-declared nodes l n) ∙ parts n

-- different names pass
check-passes : (earlier : List (List ℕ)) (ps : List WrittenDeclared) → AreDistinct (map (λ d. d.text) ps) →
    AreApart (map (λ d. d.text) ps) earlier → check_params [] earlier (map (λ d. (d.line, d.text)) ps) ≡ Ok tt
check-passes earlier [] distinct apart = refl
check-passes earlier (p ∷ ps) distinct apart =
    rw (apart.0) (check-passes (p.text ∷ earlier) ps distinct.2 (AreApart-more (map (λ d. d.text) ps) p.text earlier distinct.1 apart.1))

-- the names that written equations give
given-written : (nodes names : List (List ℕ)) (l : ℕ) (es : List EquationTree) →
    flat_map written_given (written_equations nodes names l es) ≡ map (name_at names) (flat_map given_by es)
given-written nodes names l [] = refl
given-written nodes names l (e ∷ es) =
    ap (λ x. x ++ flat_map written_given (written_equations nodes names (l + 1) es)) (one e)
    ∙ ap (λ x. map (name_at names) (given_by e) ++ x) (given-written nodes names (l + 1) es)
    ∙ sym (map-append (name_at names) (given_by e) (flat_map given_by es))
  where
    one : (e : EquationTree) → written_given (written_equation nodes names (reported_number l) e) ≡ map (name_at names) (given_by e)
    one (set line given value) = refl
    one (call line given callee values) = refl

all-mapped : {A B : Type 0} (p : B → Bool) (f : A → B) (xs : List A) → list_all (λ x. p (f x)) xs ≡ list_all p (map f xs)
all-mapped p f [] = refl
all-mapped p f (x ∷ xs) = rw (all-mapped p f xs) refl

-- all names from a place on pass
all-from : (p : List ℕ → Bool) (texts : List (List ℕ)) (i : ℕ) →
    ((k : ℕ) → i ≤ k → k < length texts → p (name_at texts k) ≡ true) → list_all p (drop i texts) ≡ true
all-from p [] zero h = refl
all-from p [] (suc i) h = refl
all-from p (t ∷ ts) zero h =
    rw (
      h 0 (omega arith) (omega arith),
      all-from p ts 0 (λ k from within. h (suc k) (omega arith) (omega (arith, within))),
    ) refl
all-from p (t ∷ ts) (suc i) h = all-from p ts i (λ k from within. h (suc k) (omega (arith, from)) (omega (arith, within)))

ints-pass : (ts : List ValueType) → AllByRecursion (λ t. t ≡ int) ts → list_all (λ t. same_type t int) ts ≡ true
ints-pass [] h = refl
ints-pass (t ∷ ts) h = rw (h.0, ints-pass ts h.1) refl

all-joined : {A : Type 0} (p : A → Bool) (xs ys : List A) → list_all p xs ≡ true → list_all p ys ≡ true → list_all p (xs ++ ys) ≡ true
all-joined p [] ys h g = g
all-joined p (x ∷ xs) ys h g = by (p x) (λ e. all-joined p xs ys e g) h
  where
    by : (b : Bool) → (list_all p xs ≡ true → list_all p (xs ++ ys) ≡ true) → (b && list_all p xs) ≡ true →
        (b && list_all p (xs ++ ys)) ≡ true
    by true later e = later e
    by false later e = cc

-- the types of a node's inputs and outputs
abbrev pub HasInts : NodeTree → Type 0
HasInts n = AllByRecursion (λ t. t ≡ int) (input_types n) × AllByRecursion (λ t. t ≡ int) (output_types n)

module _ (nodes : List (List ℕ)) (earlier done : List NodeTree) (read : AreRead nodes earlier done) (n : NodeTree)
    (lawful : IsLawfulNode earlier n) (places : AllByRecursion (HasPlaces n.names) n.equations) (l : ℕ) where
  abbrev written : WrittenNode
  written = written_node nodes l n

  abbrev texts : List (List ℕ)
  texts = texts_of n.names

  wants : Wants n [] (flat_map given_by n.equations)
  wants = wants-all n lawful.given

  long : length texts ≡ length n.names
  long = length-map n.names (λ x. x.text)

  each-given : (k : ℕ) → n.inputs ≤ k → k < length texts → has_name (flat_map written_given written.equations) (name_at texts k) ≡ true
  each-given k from within =
      let count : times k [] + times k (flat_map given_by n.equations) ≡ 1 =
      wants k (subst (λ m. k < m) long within) ∙ ap (λ b. if b then 0 else 1) (le-ltb k n.inputs from) in
      ap (λ g. has_name g (name_at texts k)) (given-written nodes texts (body_line l n) n.equations)
      ∙ times-some texts k (flat_map given_by n.equations) (omega (arith, count))

  given-passes : all_given written ≡ true
  given-passes =
      all-mapped (λ d. has_name (flat_map written_given written.equations) d.text) declared_of (written.outputs ++ written.others)
      ∙ ap (list_all (λ d. has_name (flat_map written_given written.equations) d.text))
      (outputs-declared nodes l n ∙ take-append-drop n.outputs (drop n.inputs n.names))
      ∙ all-mapped (has_name (flat_map written_given written.equations)) (λ d. d.text) (drop n.inputs n.names)
      ∙ ap (list_all (has_name (flat_map written_given written.equations))) (sym (drop-map (λ d. d.text) n.inputs n.names))
      ∙ all-from (has_name (flat_map written_given written.equations)) texts n.inputs each-given

  ints-there : HasInts n → has_ints written ≡ true
  ints-there h =
      all-mapped (λ d. same_type d.type int) declared_of (written.inputs ++ written.outputs)
      ∙ ap (list_all (λ d. same_type d.type int)) (map-append declared_of written.inputs written.outputs
      ∙ ap (λ xs. xs ++ map declared_of written.outputs) (ports-declared (reported_number l) (inputs_of n))
      ∙ ap (λ xs. inputs_of n ++ xs) (ports-declared (reported_number (l + 1)) (outputs_of n)))
      ∙ all-joined (λ d. same_type d.type int) (inputs_of n) (outputs_of n)
      (all-mapped (λ t. same_type t int) (λ d. d.type) (inputs_of n)
      ∙ ap (list_all (λ t. same_type t int)) (sym (take-map (λ d. d.type) n.inputs n.names)) ∙ ints-pass (input_types n) h.0)
      (all-mapped (λ t. same_type t int) (λ d. d.type) (outputs_of n)
      ∙ ap (list_all (λ t. same_type t int)) (sym (ap (take n.outputs) (drop-map (λ d. d.type) n.inputs n.names)
      ∙ take-map (λ d. d.type) n.outputs (drop n.inputs n.names))) ∙ ints-pass (output_types n) h.1)

  ints-pass_unless : (is_last : Bool) → (is_last ≡ true → HasInts n) → (not is_last || has_ints written) ≡ true
  ints-pass_unless true h = ints-there (h refl)
  ints-pass_unless false h = refl

  head-resolved : (is_last : Bool) → (is_last ≡ true → HasInts n) → resolve_head done is_last written ≡ Ok tt
  head-resolved is_last h = rw (read.texts, lawful.new, given-passes, ints-pass_unless is_last h) refl

  names-pass : check_params [] [] (map (λ d. (d.line, d.text)) (written_names written)) ≡ Ok tt
  names-pass =
      let same : map (λ d. d.text) (written_names written) ≡ texts =
      sym (map-map (λ d. d.text) declared_of (written_names written)) ∙ ap texts_of (all-declared nodes l n) in
      check-passes [] (written_names written) (subst AreDistinct (sym same) lawful.names)
      (AreApart-none (map (λ d. d.text) (written_names written)))

  inputs-counted : length written.inputs ≡ n.inputs
  inputs-counted =
      length-map (inputs_of n) (written_declared (reported_number l))
      ∙ length-take-le n.inputs n.names (omega (arith, lawful.ports))

  outputs-counted : length written.outputs ≡ n.outputs
  outputs-counted =
      length-map (outputs_of n) (written_declared (reported_number (l + 1)))
      ∙ length-take-le n.outputs (drop n.inputs n.names) (omega (arith, lawful.ports, length-drop n.inputs n.names))

  pub node-resolved : (is_last : Bool) → (is_last ≡ true → HasInts n) → resolve_node done is_last written ≡ Ok (read_node l n)
  node-resolved is_last h =
      rw (
        head-resolved is_last h,
        names-pass,
        all-declared nodes l n,
        inputs-counted,
        outputs-counted,
        equations-resolved nodes earlier done read n lawful.names (body_line l n) n.equations lawful.typed places [] wants,
      ) refl
