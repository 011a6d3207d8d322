use Rattle.std.proofs.Common.{◌≡◌, ◌&&◌, nat_lt, length, map, sym, ap, ◌∙◌}
use Rattle.std.proofs.Math.Path.{fun_ext}
use Rattle.std.proofs.lemmas.List.{length-map}
use Rattle.c_syntax.specs.Plain.{procedure_tree, program_tree, pure_tree}
use Rattle.emit_pruned.specs.Calls.{procedures_functions}
use Rattle.emit_pruned.specs.Needed.{has_number, needed_from, is_needed}
use Rattle.emit_pruned.specs.Marks.{flag_at, flags_of, needed_flags, place_in}
use Rattle.emit_pruned.specs.Pruned.{kept_before, kept_from, renumbered_pure, renumbered_procedure}
use Rattle.emit_pruned.proofs.lemmas.Flags.{flags-length}
use Rattle.emit_pruned.proofs.FlagLaws.{flags-are}
use Rattle.emit_pruned.proofs.program.pruned.Goals as goal

pub kept_pures-requires : goal.kept_pures-requires
kept_pures-requires c =
    let program = c.args.program in
    let calls = needed_from (procedures_functions (map procedure_tree program.procedures.items)) 0 (map pure_tree program.pure.items) in
    let same : needed_flags c.as_slice.result.now c.as_slice-2.result.now ≡ flags_of (length program.pure.items) calls =
    (λ i. needed_flags (c.as_slice.ensures.value i) (c.as_slice-2.ensures.value i)) in
    ap length (c.as_slice-4.ensures.value ∙ c.in_ok-needed.ensures ∙ same) ∙ flags-length (length program.pure.items) calls

pub returns : goal.returns
returns c =
    let program = c.args.program in
    let p = program_tree program in
    let pures = program.pure.items in
    let calls = needed_from (procedures_functions (map procedure_tree program.procedures.items)) 0 (map pure_tree pures) in
    let flags : c.in_ok-needed.needed.items ≡ flags_of (length pures) calls =
    c.in_ok-needed.ensures ∙ (λ i. needed_flags (c.as_slice.ensures.value i) (c.as_slice-2.ensures.value i)) in
    let keeps : flag_at c.in_ok-needed.needed.items ≡ is_needed p =
    fun_ext (λ k. ap (λ bs. flag_at bs k) flags ∙ flags-are (length pures) calls k
    ∙ ap (λ n. nat_lt k n && has_number calls k) (sym (length-map pures pure_tree))) in
    let place : place_in c.in_ok-places.places ≡ kept_before (is_needed p) =
    fun_ext (λ k. c.in_ok-places.ensures k ∙ ap (λ bs. kept_before (flag_at bs) k) c.as_slice-3.ensures.value) ∙ ap kept_before keeps in
    let kept = c.in_ok-pure.ensures
    ∙ (λ i. kept_from (flag_at (c.as_slice-4.ensures.value i)) 0 (map pure_tree pures))
    ∙ (λ i. kept_from (keeps i) 0 (map pure_tree pures)) in
    let renumbered = c.rename_pures.ensures ∙ (λ i. map (renumbered_pure (place i)) (kept i)) in
    let moved = c.rename_procedures.ensures ∙ (λ i. map (renumbered_procedure (place i)) (map procedure_tree program.procedures.items)) in
    (λ i. record { pures = renumbered i; structs = program.structs.items; procedures = moved i })
