use Rattle.std.proofs.Common.{◌≡◌, List, length, map, sym, ap, ◌∙◌}
use Rattle.std.specs.List.{flat_map}
use Rattle.std.proofs.Math.Path.{fun_ext}
use Rattle.std.proofs.lemmas.List.{length-map}
use Rattle.c_syntax.specs.declared.program.Procedure.{Procedure}
use Rattle.c_syntax.specs.Plain.{procedure_tree, program_tree}
use Rattle.emit_pruned.specs.Marks.{flag_at}
use Rattle.emit_pruned.proofs.lemmas.Flags.{flags-length}
use Rattle.emit_inlined.specs.Inlined.{is_helper, stays, kept_before, kept_from, place}
use Rattle.emit_inlined.specs.Steps.{counts_of, helper_at, helpers_of, inlined_flags, is_kept, place_in, procedure_by}
use Rattle.emit_inlined.proofs.CountLaws.{counts-length}
use Rattle.emit_inlined.proofs.FoundHelpers.{helper-found, kept-as, as-inlined}
use Rattle.emit_inlined.proofs.program.inlined.Goals as goal

pub helpers-requires : goal.helpers-requires
helpers-requires c =
    ap length (c.as_slice-3.ensures.value ∙ c.in_ok-counts.ensures) ∙ counts-length (map procedure_tree c.as_slice.result.now)
    ∙ length-map c.as_slice.result.now procedure_tree ∙ ap length c.as_slice.ensures.value ∙ sym (ap length c.as_slice-2.ensures.value)

pub staying_procedures-requires : goal.staying_procedures-requires
staying_procedures-requires c =
    let procedures = c.as_slice-5.result.now in
    ap length (c.as_slice-9.ensures.value ∙ c.in_ok-inlined.ensures)
    ∙ flags-length (length (map procedure_tree procedures))
    (flat_map (helpers_of (flag_at c.as_slice-4.result.now)) (map procedure_tree procedures))
    ∙ length-map procedures procedure_tree ∙ ap length c.as_slice-5.ensures.value ∙ sym (ap length c.as_slice-7.ensures.value)

pub returns : goal.returns
returns c =
    let program = c.args.program in
    let p = program_tree program in
    let counts : c.in_ok-counts.counts.items ≡ counts_of p.procedures =
    c.in_ok-counts.ensures ∙ ap (λ (qs : List Procedure). counts_of (map procedure_tree qs)) c.as_slice.ensures.value in
    let helpers : flag_at c.in_ok-helpers.helpers.items ≡ is_helper p =
    fun_ext (λ k. c.in_ok-helpers.ensures k
    ∙ (λ i. helper_at ((c.as_slice-3.ensures.value ∙ counts) i) (map procedure_tree (c.as_slice-2.ensures.value i)) k)
    ∙ helper-found p k) in
    let inlined : c.in_ok-inlined.inlined.items ≡ inlined_flags (is_helper p) p.procedures =
    c.in_ok-inlined.ensures
    ∙ (λ i. inlined_flags (flag_at (c.as_slice-4.ensures.value i)) (map procedure_tree (c.as_slice-5.ensures.value i)))
    ∙ (λ i. inlined_flags (helpers i) p.procedures) in
    let keeps : is_kept c.in_ok-inlined.inlined.items ≡ stays p = ap is_kept inlined ∙ fun_ext (kept-as p) in
    let places : place_in c.in_ok-places.places ≡ place p =
    fun_ext (λ k. c.in_ok-places.ensures k ∙ ap (λ flags. kept_before (is_kept flags) k) c.as_slice-6.ensures.value)
    ∙ ap kept_before keeps in
    let procedures = c.in_ok-staying_procedures.ensures
    ∙ (λ i. map (procedure_by (map procedure_tree (c.as_slice-7.ensures.value i)) (flag_at (c.as_slice-8.ensures.value i))
    (place_in c.in_ok-places.places))
    (kept_from (is_kept (c.as_slice-9.ensures.value i)) 0 (map procedure_tree (c.as_slice-7.ensures.value i))))
    ∙ (λ i. map (procedure_by p.procedures (helpers i) (places i)) (kept_from (keeps i) 0 p.procedures))
    ∙ (λ i. map (as-inlined p i) (kept_from (stays p) 0 p.procedures)) in
    (λ i. record { pures = p.pures; structs = program.structs.items; procedures = procedures i })
