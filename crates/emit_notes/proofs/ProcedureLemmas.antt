-- The notes on procedures, one procedure after another.
use Rattle.std.proofs.Common.{◌≡◌, ◌∙◌, ap, ap₂, ℕ, List, [], ◌∷◌, ◌++◌}
use Rattle.std.proofs.lemmas.List.{append_assoc}
use Rattle.c_syntax.specs.Tree.{ProcedureTree, StructTree}
use Rattle.emit_notes.specs.declared.labels.Label.{Label}
use Rattle.emit_notes.specs.FunctionNotes.{procedure_note, procedure_outports, procedure_notes}

-- one procedure more has its note
pub more-procedures : (labels : List Label) (structs : List StructTree) (notes next : List (List ℕ)) (earlier later : List (List ℕ))
    (q : ProcedureTree) (qs : List ProcedureTree) (whole : List (List ℕ)) (note outports : List ℕ) →
    note ≡ procedure_note labels structs q outports → outports ≡ procedure_outports labels structs earlier q →
    next ≡ notes ++ note ∷ [] → later ≡ earlier ++ outports ∷ [] →
    notes ++ procedure_notes labels structs earlier (q ∷ qs) ≡ whole →
    next ++ procedure_notes labels structs later qs ≡ whole
more-procedures labels structs notes next earlier later q qs whole note outports is_note is_stored one other is =
    ap₂ (λ ns es. ns ++ procedure_notes labels structs es qs) one other
    ∙ append_assoc notes (note ∷ []) (procedure_notes labels structs (earlier ++ outports ∷ []) qs)
    ∙ ap (λ n. notes ++ n ∷ procedure_notes labels structs (earlier ++ outports ∷ []) qs) is_note
    ∙ ap (λ os. notes ++ procedure_note labels structs q os ∷ procedure_notes labels structs (earlier ++ os ∷ []) qs) is_stored
    ∙ is
