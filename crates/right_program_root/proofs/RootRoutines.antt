-- The root's procedures in the program: what their bodies see, and what they do.
use Rattle.std.specs.Prelude.{◌≡◌, ℕ, ◌+◌, ◌<◌, List, [], ◌∷◌, flat_map, take, length, sum_by, slice_get, Some, ℤ, refl}
use Rattle.std.proofs.Common.{sym, ap, ◌∙◌, arith}
use Rattle.std.proofs.lemmas.List.{length-append}
use Rattle.std.proofs.lemmas.List.Sums.{sum_by-cons}
use Rattle.std.proofs.lemmas.Option.{same_Some, none-some}
use Rattle.modules_profile.proofs.lemmas.Members.{at-right}
use Rattle.c_syntax.specs.RootFields.{root_fields}
use Rattle.c_syntax.specs.Tree.{ProcedureTree, struct_fields, field_types}
use Rattle.c_semantics.specs.Cells.{Cells}
use Rattle.c_semantics.specs.Values.{functions_of}
use Rattle.c_semantics.specs.Machine.{behind, call_entry, Routine, Scope, run_stmts, routine_at, routines_of, program_routines}
use Rattle.c_semantics.specs.CallLaws.{body_scope}
use Rattle.c_semantics.specs.NumberingLaws.{StandInOrder, ProceduresStandInOrder}
use Rattle.c_semantics.proofs.lemmas.Runs.{behind-nothing}
use Rattle.emit_shape.specs.SystemTree.{SystemTree}
use Rattle.emit_shape.specs.Assembled.{from_last, first_procedure, root_procedures}
use Rattle.right_linking.specs.Parts.{Parts, program_of}
use Rattle.right_linking.specs.Places.{RootHasPlaces}
use Rattle.right_program_root.proofs.OutCount.{moved_all, systems-procedures}

-- the procedures of all codes, by the first
flat-count : (cs : List SystemTree) → length (flat_map (λ (c : SystemTree). c.procedures) cs) ≡ sum_by
    (λ (c : SystemTree). length c.procedures) cs
flat-count [] = refl
flat-count (c ∷ cs) =
    length-append c.procedures (flat_map (λ (z : SystemTree). z.procedures) cs) ∙ ap (λ n. length c.procedures + n) (flat-count cs)
    ∙ sym (sum_by-cons (λ (z : SystemTree). length z.procedures) c cs)

pub first-sum : (cs : List SystemTree) (c : SystemTree) → slice_get cs 0 ≡ Some c → length c.procedures + first_procedure cs 0 ≡ length
    (flat_map (λ (z : SystemTree). z.procedures) cs)
first-sum [] c at = absurd (none-some c at)
first-sum (d ∷ cs) c at =
    let same : d ≡ c = same_Some d c at in
    ap (λ (z : SystemTree). length z.procedures + sum_by (λ (y : SystemTree). length y.procedures) cs) (sym same)
    ∙ sym (length-append d.procedures (flat_map (λ (z : SystemTree). z.procedures) cs) ∙ ap (λ n. length d.procedures + n) (flat-count cs))

module _ (order : ProceduresStandInOrder) (a : Parts) where
  -- how many procedures the systems have
  abbrev pub systems_count : ℕ
  systems_count = length (flat_map (λ (c : SystemTree). c.procedures) a.codes)

  in-order : StandInOrder (program_of a).structs (functions_of [] (program_of a).pures) [] (program_of a).procedures
  in-order = order (program_of a).structs (functions_of [] (program_of a).pures) [] (program_of a).procedures

  -- the procedures before the j-th of the root
  abbrev pub earlier : ℕ → List Routine
  earlier j = routines_of (program_of a).structs (functions_of [] (program_of a).pures) []
      (take (systems_count + j) (program_of a).procedures)

  -- what its body sees
  abbrev pub root_scope : ℕ → List ℤ → Scope
  root_scope j values = body_scope (functions_of [] (program_of a).pures) (earlier j)
      (field_types (struct_fields (program_of a).structs (length a.codes))) values

  pub same-routine : (j k : ℕ) → k < systems_count + j → routine_at (program_routines (program_of a)) k ≡ routine_at (earlier j) k
  same-routine j k below = in-order.found (systems_count + j) k (omega (arith, below))

  stands : (j : ℕ) (q : ProcedureTree) → slice_get (root_procedures a.codes a.root a.hyper) j ≡ Some q →
      slice_get (program_of a).procedures (systems_count + j) ≡ Some q
  stands j q at =
      ap (λ n. slice_get (program_of a).procedures (n + j)) (sym (systems-procedures a.codes))
      ∙ at-right (flat_map (moved_all a.codes) (from_last a.codes)) (root_procedures a.codes a.root a.hyper) j q at

  pub runs-body : (j : ℕ) (q : ProcedureTree) → slice_get (root_procedures a.codes a.root a.hyper) j ≡ Some q → q.of ≡ length a.codes →
      call_entry (0 + (systems_count + j)) q.name ≡ [] →
      (values : List ℤ) (cells : Cells) (steps : ℕ) →
      (routine_at (program_routines (program_of a)) (systems_count + j)).run values cells steps ≡ run_stmts
      (root_scope j values) q.body cells steps
  runs-body j q at of quiet values cells steps =
      let same : systems_count + j ≡ 0 + (systems_count + j) = omega arith in
      let is = in-order.routine (systems_count + j) q (stands j q at) in
      ap (λ k. (routine_at (program_routines (program_of a)) k).run values cells steps) same ∙ is.run values cells steps
      ∙ ap (λ entry. behind entry [] (run_stmts
      (body_scope (functions_of [] (program_of a).pures) (earlier j) (field_types (struct_fields (program_of a).structs q.of)) values)
      q.body cells steps)) quiet
      ∙ behind-nothing (run_stmts (body_scope (functions_of [] (program_of a).pures) (earlier j)
      (field_types (struct_fields (program_of a).structs q.of)) values) q.body cells steps)
      ∙ ap (λ k. run_stmts (body_scope (functions_of [] (program_of a).pures) (earlier j)
      (field_types (struct_fields (program_of a).structs k)) values) q.body cells steps) of

  -- the types are those of the root's fields
  pub types-are : RootHasPlaces → (values : List ℤ) (j : ℕ) → (root_scope j values).types ≡ field_types (root_fields (program_of a))
  types-are places values j = ap (λ k. field_types (struct_fields (program_of a).structs k)) (sym (places a).struct)
