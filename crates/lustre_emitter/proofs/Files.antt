-- The names of the nodes of a file.
use Rattle.std.proofs.Common.{◌≡◌, ℕ, List, [], ◌∷◌, ◌++◌, map, reverse, sym, ap, ◌∙◌}
use Rattle.std.proofs.lemmas.List.{map-append}
use Rattle.c_syntax.specs.declared.program.Pure.{Pure}
use Rattle.c_syntax.specs.Plain.{pure_tree}
use Rattle.c_syntax.specs.Tree.{PureTree}
use Rattle.diagram_meaning.specs.Diagram.{Diagram}
use Rattle.modules_profile.specs.Systems.{systems, system_name}
use Rattle.emit_prelude.specs.Bodies.{function_trees}
use Rattle.emit_row_facts.proofs.lemmas.Steps.{map-map}
use Rattle.emit_shape.specs.Names.{root_name}
use Rattle.lustre_syntax.specs.Named.{NamedNode}
use Rattle.lustre_system.specs.File.{named_file, root_node}
use Rattle.lustre_system.specs.Functions.{function_nodes}
use Rattle.lustre_system.specs.SystemNodes.{system_node}

abbrev text_of : NamedNode → List ℕ
text_of n = n.text

pub file-texts : (d : Diagram) (hyper : ℕ) →
    map (λ (p : PureTree). p.name) function_trees ++ map system_name (reverse (systems d.rows)) ++ root_name ∷ []
    ≡ map (λ n. n.text) (named_file d hyper)
file-texts d hyper =
    let ss = map (system_node d) (reverse (systems d.rows)) in
    let last = root_node d hyper ∷ [] in
    sym (map-append text_of function_nodes (ss ++ last)
    ∙ ap (λ l. map text_of function_nodes ++ l) (map-append text_of ss last
    ∙ ap (λ l. l ++ root_name ∷ []) (map-map text_of (system_node d) (reverse (systems d.rows)))))

-- the names of the functions
pub functions-named : (functions : List Pure) → map pure_tree functions ≡ function_trees →
    map (λ (f : Pure). f.name) functions ≡ map (λ (p : PureTree). p.name) function_trees
functions-named functions are =
    sym (map-map (λ (p : PureTree). p.name) pure_tree functions) ∙ ap (map (λ (p : PureTree). p.name)) are
