-- The root's struct and procedures, put together.
use Rattle.std.proofs.Common.{◌≡◌, ap, ◌∙◌, ℕ, false, List, [], ◌∷◌, ◌++◌, map, length}
use Rattle.std.proofs.lemmas.List.{map-append}
use Rattle.modules_profile.specs.LocalSystem.{LocalSystem}
use Rattle.modules_profile.specs.Locals.{outports}
use Rattle.c_syntax.specs.declared.program.Field.{Field}
use Rattle.c_syntax.specs.PlainField.{field_tree, field_trees}
use Rattle.c_syntax.specs.Tree.{StmtTree, stmts_of_list, FieldTree, ParamTree, ProcedureTree}
use Rattle.emit_shape.specs.SystemTree.{SystemTree}
use Rattle.emit_shape.specs.Assembled.{root_structure}
use Rattle.emit_row_facts.specs.declared.ported.Ported.{Ported}
use Rattle.emit_row_facts.specs.Ported.{ported_of}
use Rattle.emit_row_facts.proofs.lemmas.Steps.{map-map}
use Rattle.emit_linker.specs.Ports.{field_of}
use Rattle.emit_linker.specs.Roots.{root_procedure}

-- a procedure of its parts
pub procedure-is : (all : List SystemTree) (name : List ℕ) (of : ℕ) (params taken : List ParamTree) (body statements : List StmtTree) →
    of ≡ length all → params ≡ taken → body ≡ statements →
    ◌≡◌ {A = ProcedureTree} (record { name = name; private = false; of = of; params = params; body = stmts_of_list body })
    (root_procedure all name taken statements)
procedure-is all name of params taken body statements at same is =
    λ j. record { name = name; private = false; of = at j; params = same j; body = stmts_of_list (is j) }

-- the fields of the root's struct
pub fields-are : (all : List SystemTree) (root : LocalSystem) (none one two three : List Field) (ports : List Ported) (now top : Field) →
    none ≡ [] → one ≡ none ++ now ∷ [] → field_trees two ≡ field_trees one ++ map field_of ports → three ≡ two ++ top ∷ [] →
    ports ≡ map ported_of (outports root) →
    (front last : FieldTree) → field_tree now ≡ front → field_tree top ≡ last →
    front ∷ map (λ r. field_of (ported_of r)) (outports root) ++ last ∷ [] ≡ (root_structure all root 0).fields →
    field_trees three ≡ (root_structure all root 0).fields
fields-are all root none one two three ports now top empty first second third are front last is_now is_top whole =
    ap field_trees third ∙ map-append field_tree two (top ∷ [])
    ∙ (λ j. (second ∙ (λ k. field_trees ((first ∙ ap (λ (l : List Field). l ++ now ∷ []) empty) k) ++ map field_of (are k))) j ++ is_top
    j ∷ [])
    ∙ (λ j. is_now j ∷ map-map field_of ported_of (outports root) j ++ last ∷ [])
    ∙ whole
