use Rattle.std.proofs.Common.{◌≡◌, [], sym, ◌∙◌, ap, ℕ, ◌+◌, ◌-◌, ◌≤◌, ℤ, List, ◌++◌, length, arith, rules, take, drop, Some, subst}
use Rattle.c_semantics.specs.Machine.{call_from_outside}
use Rattle.c_syntax.specs.Plain.{program_tree}
use Rattle.c_interpreter.specs.Instances.{StructInstance}
use Rattle.c_interpreter.specs.Roots.{root_ended}
use Rattle.c_interpreter.specs.Seen.{seen}
use Rattle.c_interpreter.specs.Sound.{zero_at, zeros_of, IsProcedureOf}
use Rattle.c_interpreter.specs.States.{filled}
use Rattle.c_interpreter.proofs.Paths.{reached_fits, ran_under}
use Rattle.c_interpreter.proofs.Places.{drop_more, part_length}
use Rattle.c_interpreter.proofs.Standing.{place_is}
use Rattle.c_interpreter.proofs.calls.run_instance.Goals as goal

pub overflow_add-inner : goal.overflow_add-inner
overflow_add-inner c =
    let n = c.args.numbering.now in
    let place = c.place_there-place.ensures in
    let fits =
    reached_fits (program_tree n.code.program).structs n.code.layouts
    (zeros_of (program_tree n.code.program)) c.requires.numbering.laid n.root place.path
    c.place_there-place.result.of c.place_there-place.result.at place.reached in
    omega (arith, c.size_at-size.ensures, c.requires.numbering.sized)

pub offset_bounds-numbers-place : goal.offset_bounds-numbers-place
offset_bounds-numbers-place c =
    let n = c.args.numbering.now in
    let place = c.place_there-place.ensures in
    let fits =
    reached_fits (program_tree n.code.program).structs n.code.layouts
    (zeros_of (program_tree n.code.program)) c.requires.numbering.laid n.root place.path
    c.place_there-place.result.of c.place_there-place.result.at place.reached in
    let w : c.place_there-place.result.at + c.size_at-size.result ≤ length c.args.numbers.now =
    omega (arith, c.size_at-size.ensures, c.requires.room) in
    omega arith

pub slice_bounds-inner-end : goal.slice_bounds-inner-end
slice_bounds-inner-end c =
    let n = c.args.numbering.now in
    let place = c.place_there-place.ensures in
    let fits =
    reached_fits (program_tree n.code.program).structs n.code.layouts
    (zeros_of (program_tree n.code.program)) c.requires.numbering.laid n.root place.path
    c.place_there-place.result.of c.place_there-place.result.at place.reached in
    let w : c.place_there-place.result.at + c.size_at-size.result ≤ length c.args.numbers.now =
    omega (arith, c.size_at-size.ensures, c.requires.room) in
    search rules

pub run_root-requires-clause-there : goal.run_root-requires-clause-there
run_root-requires-clause-there c =
    let n = c.args.numbering.now in
    let h = c.requires.there in
    let both : Some h.there_is
    ≡ Some (record { path = c.place_there-place.ensures.path; struct = c.place_there-place.result.of }) =
    sym h.there
    ∙ place_is (program_tree n.code.program) n.code.layouts n.counts.now c.requires.numbering.numbered n.root
    c.args.instance c.place_there-place.result.of c.place_there-place.result.at c.place_there-place.ensures in
    let same : h.there_is ≡ record { path = c.place_there-place.ensures.path; struct = c.place_there-place.result.of } = cc in
    subst (λ (x : StructInstance). IsProcedureOf (program_tree n.code.program) c.args.procedure x.struct) same h.procedure_of

pub returns : goal.returns
returns c =
    let n = c.args.numbering.now in
    let place = c.place_there-place.ensures in
    let at : ℕ = c.place_there-place.result.at in
    let of : ℕ = c.place_there-place.result.of in
    let size : ℕ = c.size_at-size.result in
    let s : List ℤ = c.args.numbers.now in
    let t : List ℤ = c.run_root.new.numbers in
    let fits =
    reached_fits (program_tree n.code.program).structs n.code.layouts
    (zeros_of (program_tree n.code.program)) c.requires.numbering.laid n.root place.path of at place.reached in
    let w : at + size ≤ length s = omega (arith, c.size_at-size.ensures, c.requires.room) in
    let k : at + size - at ≡ size = omega arith in
    let tail : drop (at + size - at) (drop at s) ≡ drop (at + size) s = ap (λ j. drop j (drop at s)) k ∙ drop_more at size s in
    let long : length t ≡ size = c.run_root.auto.numbers ∙ part_length s at size w in
    λ i there.
    let both : Some i ≡ Some (record { path = place.path; struct = of }) =
    sym there
    ∙ place_is (program_tree n.code.program) n.code.layouts n.counts.now c.requires.numbering.numbered n.root
    c.args.instance of at place in
    let same : i ≡ record { path = place.path; struct = of } = cc in
    ap (λ q. root_ended (zero_at (program_tree n.code.program) n.root) c.run_root.result (take at s ++ (t ++ q))) tail
    ∙ ran_under (program_tree n.code.program).structs n.code.layouts
    (zeros_of (program_tree n.code.program)) c.requires.numbering.laid
    (program_tree n.code.program) c.args.procedure n.root place.path of at size c.args.values.now s t
    c.run_root.result place.reached c.requires.room c.size_at-size.ensures long (c.run_root.ensures
    ∙ ap (λ j.
    seen 0 (call_from_outside (program_tree n.code.program) c.args.procedure [] c.args.values.now
    (filled (zero_at (program_tree n.code.program) of) (take j (drop at s))))) k)
    ∙ ap (λ (x : StructInstance). seen 0
    (call_from_outside (program_tree n.code.program) c.args.procedure x.path c.args.values.now
    (filled (zero_at (program_tree n.code.program) n.root) s))) (sym same)
