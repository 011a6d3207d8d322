-- Notes that say the same are printed the same, and those that say nothing as none.
use Rattle.std.proofs.Common.{◌≡◌, refl, sym, ◌∙◌, ap, ap₂, ℕ, zero, suc, ◌+◌, List, [], ◌∷◌, ◌++◌, map, codes}
use Rattle.std.specs.List.{flat_map, enumerate_from}
use Rattle.c_syntax.specs.declared.code.Target.{Target}
use Rattle.c_syntax.specs.declared.code.Target.TheVariants.{Own, Child}
use Rattle.c_syntax.specs.Tree.{StmtTree, assign, assign_at, branch, call, StmtTrees, no_stmts, more_stmts, FieldTree, StructTree, struct_fields, ProcedureTree, ProgramTree}
use Rattle.c_grammar.specs.Tokens.{header_line}
use Rattle.c_printer.specs.Laws.{SaysNothing, NotesAreOptional}
use Rattle.c_printer.specs.Lines.{margin_bytes, ended, note_line, noted_line}
use Rattle.c_printer.specs.Notes.{Notes, note_at, no_struct_notes, notes_on, no_notes}
use Rattle.c_printer.specs.Printing.{Vocabulary, cond_bytes, deeper, store_bytes, item_store_bytes, call_bytes, target_note, noted_stmt_bytes, noted_else_bytes, noted_stmts_bytes, pure_bytes, field_bytes, noted_field_bytes, noted_struct_bytes, procedure_head_bytes, noted_procedure_bytes}

module _ (on other : List (List ℕ)) (same : (f : ℕ) → note_at on f ≡ note_at other f) where
  target-same : (target : Target) → target_note on target ≡ target_note other target
  target-same Own = refl
  target-same (Child f) = same f

  module _ (v : Vocabulary) where
    mutual
      stmt-same : (margin : ℕ) (s : StmtTree) → noted_stmt_bytes on v margin s ≡ noted_stmt_bytes other v margin s
      stmt-same margin (assign line f e) = ap (λ note. noted_line margin note (store_bytes v f e)) (same f)
      stmt-same margin (assign_at line f index e) = ap (λ note. noted_line margin note (item_store_bytes v f index e)) (same f)
      stmt-same margin (branch line test on_true on_false) =
          λ i. margin_bytes margin ++ codes "if " ++ cond_bytes v test ++ ended (codes " {")
          ++ stmts-same (deeper margin) on_true i ++ else-same margin on_false i ++ margin_bytes margin ++ ended (codes "}")
      stmt-same margin (call line k target es) = ap (λ note. noted_line margin note (call_bytes v k target es)) (target-same target)

      else-same : (margin : ℕ) (ss : StmtTrees) → noted_else_bytes on v margin ss ≡ noted_else_bytes other v margin ss
      else-same margin no_stmts = refl
      else-same margin (more_stmts s ss) =
          λ i. margin_bytes margin ++ ended (codes "} else {") ++ (stmt-same (deeper margin) s i ++ stmts-same (deeper margin) ss i)

      stmts-same : (margin : ℕ) (ss : StmtTrees) → noted_stmts_bytes on v margin ss ≡ noted_stmts_bytes other v margin ss
      stmts-same margin no_stmts = refl
      stmts-same margin (more_stmts s ss) = λ i. stmt-same margin s i ++ stmts-same margin ss i

  fields-same : (p : ProgramTree) (k : ℕ) (fs : List FieldTree) →
      flat_map (noted_field_bytes p on) (enumerate_from k fs) ≡ flat_map (noted_field_bytes p other) (enumerate_from k fs)
  fields-same p k [] = refl
  fields-same p k (f ∷ fs) = ap₂ ◌++◌ (ap (λ note. noted_line 4 note (field_bytes p f)) (same k)) (fields-same p (k + 1) fs)

none-on : (k : ℕ) → notes_on no_notes k ≡ no_struct_notes
none-on zero = refl
none-on (suc k) = refl

none-at : (f : ℕ) → note_at [] f ≡ []
none-at zero = refl
none-at (suc f) = refl

module _ (p : ProgramTree) (notes : Notes) (silent : SaysNothing notes) where
  above-same : (k : ℕ) → (notes_on notes k).above ≡ (notes_on no_notes k).above
  above-same k = silent.above k ∙ sym (ap (λ n. n.above) (none-on k))

  on-same : (k f : ℕ) → note_at (notes_on notes k).fields f ≡ note_at (notes_on no_notes k).fields f
  on-same k f = silent.fields k f ∙ sym (ap (λ n. note_at n.fields f) (none-on k) ∙ none-at f)

  structs-same : (k : ℕ) (ds : List StructTree) →
      flat_map (noted_struct_bytes p notes) (enumerate_from k ds) ≡ flat_map (noted_struct_bytes p no_notes) (enumerate_from k ds)
  structs-same k [] = refl
  structs-same k (d ∷ ds) =
      ap₂ ◌++◌ (λ i. ended [] ++ note_line 0 (above-same k i) ++ codes "struct " ++ d.name ++ ended (codes " {")
      ++ fields-same (notes_on notes k).fields (notes_on no_notes k).fields (on-same k) p 0 d.fields i ++ ended (codes "};"))
      (structs-same (k + 1) ds)

  procedures-same : (k : ℕ) (qs : List ProcedureTree) →
      flat_map (noted_procedure_bytes p notes) (enumerate_from k qs) ≡ flat_map (noted_procedure_bytes p no_notes) (enumerate_from k qs)
  procedures-same k [] = refl
  procedures-same k (q ∷ qs) =
      let v : Vocabulary = record { program = p; fields = struct_fields p.structs q.of; params = map (λ x. x.name) q.params } in
      let note : note_at notes.procedures k ≡ note_at [] k = silent.procedures k ∙ sym (none-at k) in
      ap₂ ◌++◌ (λ i. procedure_head_bytes p (note i) q
      ++ stmts-same (notes_on notes q.of).fields (notes_on no_notes q.of).fields (on-same q.of) v 4 q.body i ++ ended (codes "}"))
      (procedures-same (k + 1) qs)

pub notes_are_optional : NotesAreOptional
notes_are_optional notes p silent =
    λ i. ended header_line ++ flat_map (pure_bytes p) p.pures ++ structs-same p notes silent 0 p.structs i
    ++ procedures-same p notes silent 0 p.procedures i
