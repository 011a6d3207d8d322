-- The nodes of the functions and of the systems, in the order of the file, are lawful.
use Rattle.std.specs.Prelude.{◌≡◌, ℕ, Bool, true, false, not, ◌||◌, List, [], ◌∷◌, ◌++◌, map, reverse, Contains, Option, Some, None}
use Rattle.std.specs.List.{AllByRecursion}
use Rattle.std.proofs.Common.{refl, sym, ◌∙◌, ap, subst, arith, inl, inr, true≢false}
use Rattle.std.proofs.lemmas.List.{append_assoc, append-nil, map-append, reverse-append}
use Rattle.std.proofs.lemmas.List.Elements.{Contains-append_right, Contains-append_cases}
use Rattle.c_syntax.specs.Outputs.{has_name}
use Rattle.diagram_meaning.specs.declared.Row.{Row}
use Rattle.diagram_meaning.specs.Diagram.{Diagram}
use Rattle.diagram_meaning.specs.ResolvedTree.{ResolvedTree, IsResolvedTree, diagram_of}
use Rattle.modules_profile.specs.Systems.{system_name, IsInTable}
use Rattle.modules_profile.proofs.lemmas.Members.{in-map}
use Rattle.emit_shape.specs.Names.{root_name}
use Rattle.lustre_syntax.specs.Names.{is_lustre_name}
use Rattle.lustre_syntax.specs.Tree.{NodeTree}
use Rattle.lustre_syntax.specs.Named.{NamedNode, placed_node}
use Rattle.lustre_syntax.specs.Lawful.{AreDistinct, IsLawfulNode, AreNodes}
use Rattle.lustre_system.specs.Functions.{function_nodes}
use Rattle.lustre_system.specs.SystemNodes.{system_node}
use Rattle.lustre_rows.proofs.lemmas.Lists.{all-member, in-reverse}
use Rattle.lustre_right.specs.LongDelays.{long_delay}
use Rattle.lustre_right.specs.NodeLaws.{GivesItsNames, CalleesAreThere, SystemsAreTyped}
use Rattle.lustre_lawful.proofs.Counts.{times, Once, times-append, times-here, times-of, once-beside, once-from, new-name}
use Rattle.lustre_lawful.proofs.FunctionNodes.{functions-lawful}
use Rattle.lustre_lawful.proofs.NodePlaces.{names_of, found-node, nodes-append, placed-texts, function-there}
use Rattle.lustre_lawful.proofs.Places.{all-mapped}
use Rattle.lustre_lawful.proofs.NumberedNames.{begins}
use Rattle.lustre_lawful.proofs.RowNames.{small}
use Rattle.lustre_lawful.proofs.SystemNames.{few-numbers, system_names_are_distinct, systems_give_their_names}
use Rattle.lustre_lawful.proofs.SystemOrder.{AreSorted, reversed-once}
use Rattle.lustre_lawful.proofs.Texts.{numbered-name, letter-number}

-- ---- Names of systems

-- `top`, or `s` and a number
abbrev is_system_text : List ℕ → Bool
is_system_text x = begins 115 x || begins 116 x

abbrev is_other_text : List ℕ → Bool
is_other_text x = not (is_system_text x)

system-text : (s : Option ℕ) → is_other_text (system_name s) ≡ false
system-text None = refl
system-text (Some e) = refl

functions-text : AllByRecursion (λ x. is_other_text x ≡ true) (names_of function_nodes)
functions-text = (refl, (refl, (refl, (refl, (refl, (refl, (refl, (refl, tt))))))))

functions-distinct : AreDistinct (names_of function_nodes)
functions-distinct =
    (refl, refl, (refl, refl, (refl, refl, (refl, refl, (refl, refl, (refl, refl, (refl, refl, (refl, refl, tt))))))))

once-last : (ts : List (List ℕ)) (t : List ℕ) → Once (ts ++ t ∷ []) → Contains ts t → ⊥
once-last ts t once there =
    let both = times-append t ts (t ∷ []) in
    let one = times-here t [] in
    let some = times-of t ts there in
    let most = once t in
    omega (arith, both, one, some, most)

module _ (typed : SystemsAreTyped) (r : ResolvedTree) (is : IsResolvedTree r) (short : long_delay (diagram_of r) ≡ None) where
  abbrev rows : List Row
  rows = r.tree.table.rows

  abbrev d : Diagram
  d = diagram_of r

  -- the nodes of the functions and of these systems, the last first
  abbrev pub nodes_before : List (Option ℕ) → List NamedNode
  nodes_before later = function_nodes ++ map (system_node d) (reverse later)

  system-names : (ss : List (Option ℕ)) → names_of (map (system_node d) ss) ≡ map system_name ss
  system-names [] = refl
  system-names (s ∷ ss) = ap (λ ts. system_name s ∷ ts) (system-names ss)

  names-before : (later : List (Option ℕ)) → names_of (nodes_before later) ≡ names_of function_nodes ++ map system_name (reverse later)
  names-before later =
      map-append (λ (n : NamedNode). n.text) function_nodes (map (system_node d) (reverse later))
      ∙ ap (λ ts. names_of function_nodes ++ ts) (system-names (reverse later))

  before-step : (s : Option ℕ) (later : List (Option ℕ)) → nodes_before (s ∷ later) ≡ nodes_before later ++ system_node d s ∷ []
  before-step s later =
      ap (λ ss. function_nodes ++ map (system_node d) ss) (reverse-append (s ∷ []) later)
      ∙ ap (λ ns. function_nodes ++ ns) (map-append (system_node d) (reverse later) (s ∷ []))
      ∙ sym (append_assoc function_nodes (map (system_node d) (reverse later)) (system_node d s ∷ []))

  systems-text : (later : List (Option ℕ)) → AllByRecursion (λ x. is_other_text x ≡ false) (map system_name (reverse later))
  systems-text later = all-mapped (λ x. is_other_text x ≡ false) system_name (reverse later) (λ s there. system-text s)

  pub before-once : (later : List (Option ℕ)) → AreSorted rows later → Once (names_of (nodes_before later))
  before-once later sorted =
      subst Once (sym (names-before later))
      (once-beside is_other_text (names_of function_nodes) (map system_name (reverse later)) functions-text (systems-text later)
      (once-from (names_of function_nodes) functions-distinct) (reversed-once rows is.tree.table.nested later sorted))

  system-named : (s : Option ℕ) → IsInTable rows s → is_lustre_name (system_name s) ≡ true
  system-named None below = refl
  system-named (Some e) below =
      numbered-name (system_name (Some e)) (letter-number 115 e refl (small d (few-numbers r is) e below))

  -- the root's name is none of theirs
  pub root-new : (later : List (Option ℕ)) → Contains (names_of (nodes_before later)) root_name → ⊥
  root-new later there =
      elim (Contains-append_cases (names_of function_nodes) (map system_name (reverse later)) root_name
      (subst (λ ts. Contains ts root_name) (names-before later) there)) [
        | inl here ↦
            let some = times-of root_name (names_of function_nodes) here in
            let none : times root_name (names_of function_nodes) ≡ 0 = refl in omega (arith, some, none)
        | inr there ↦
            true≢false (all-member (λ x. is_other_text x ≡ false) (map system_name (reverse later)) (systems-text later) root_name there)
      ]

  module _ (callees : List (List ℕ)) where
    abbrev placed : List NamedNode → List NodeTree
    placed ns = map (placed_node callees) ns

    callees-there : (s : Option ℕ) (later : List (Option ℕ)) (rest : List (List ℕ)) → callees ≡ names_of (nodes_before later) ++ rest →
        AreSorted rows (s ∷ later) → CalleesAreThere d s callees (placed (nodes_before later))
    callees-there s later rest are sorted =
        let once = before-once later sorted.1 in
        let nodes = map (system_node d) (reverse later) in
        record {
          functions = function-there callees nodes rest are once;
          children = λ e row sub.
              found-node callees (nodes_before later) rest (system_node d (Some e)) are once
              (Contains-append_right function_nodes nodes (system_node d (Some e))
              (in-map (system_node d) (reverse later) (Some e) (in-reverse later (Some e) (sorted.0.children e row sub))));
        }

    system-lawful : (s : Option ℕ) (later : List (Option ℕ)) (rest : List (List ℕ)) → callees ≡ names_of (nodes_before later) ++ rest →
        AreSorted rows (s ∷ later) → IsLawfulNode (placed (nodes_before later)) (placed_node callees (system_node d s))
    system-lawful s later rest are sorted =
        let distinct = system_names_are_distinct r s is sorted.0.system in
        let given : GivesItsNames (placed_node callees (system_node d s)) = systems_give_their_names r s callees is sorted.0.system in
        let right = typed r s callees (placed (nodes_before later)) is short sorted.0.system distinct
        (callees-there s later rest are sorted) in
        let once : Once (names_of (nodes_before later) ++ system_name s ∷ []) =
        subst Once
        (ap names_of (before-step s later) ∙ map-append (λ (n : NamedNode). n.text) (nodes_before later) (system_node d s ∷ []))
        (before-once (s ∷ later) sorted) in
        record {
          named = system-named s sorted.0.in_table;
          new = subst (λ ts. has_name ts (system_name s) ≡ false) (sym (placed-texts callees (nodes_before later)))
              (new-name (system_name s) (names_of (nodes_before later)) (once-last (names_of (nodes_before later)) (system_name s) once));
          names = distinct;
          ports = given.ports;
          within = given.within;
          given = given.given;
          typed = right.0;
          writable = right.1;
        }

    pub systems-lawful : (later : List (Option ℕ)) (rest : List (List ℕ)) → callees ≡ names_of (nodes_before later) ++ rest →
        AreSorted rows later → AreNodes [] (placed (nodes_before later))
    systems-lawful [] rest are sorted =
        subst (λ ns. AreNodes [] (placed ns)) (sym (append-nil function_nodes)) (functions-lawful callees)
    systems-lawful (s ∷ later) rest are sorted =
        let before = nodes_before later in
        let mine = system_node d s in
        let same : callees ≡ names_of before ++ system_name s ∷ rest =
        are ∙ ap (λ ns. names_of ns ++ rest) (before-step s later)
        ∙ ap (λ ts. ts ++ rest) (map-append (λ (n : NamedNode). n.text) before (mine ∷ []))
        ∙ append_assoc (names_of before) (system_name s ∷ []) rest in
        subst (λ ns. AreNodes [] (placed ns)) (sym (before-step s later))
        (subst (λ ns. AreNodes [] ns) (sym (map-append (placed_node callees) before (mine ∷ [])))
        (nodes-append [] (placed before) (placed_node callees mine ∷ []) (systems-lawful later (system_name s ∷ rest) same sorted.1)
        (system-lawful s later (system_name s ∷ rest) same sorted, tt)))
