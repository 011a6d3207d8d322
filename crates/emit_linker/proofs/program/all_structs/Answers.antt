use Rattle.std.proofs.Common.{◌-◌, ℕ, ◌++◌, ◌∷◌, [], map, ap, ◌∙◌, arith}
use Rattle.c_syntax.specs.Tree.{StructTree}
use Rattle.emit_shape.specs.Assembled.{code_at, moved_struct, from_last}
use Rattle.emit_linker.specs.Places.{trees}
use Rattle.emit_linker.proofs.Programs.{structs-more}
use Rattle.emit_linker.proofs.program.all_structs.Goals as goal

pub loop-i-preserved : goal.loop-i-preserved
loop-i-preserved c =
    let all = trees c.args.codes.now.list.now in
    let i = c.loop-i.i in
    let done = c.loop-i.structs.items in
    let some = c.loop-i-test.true in
    let moved : ℕ → StructTree = λ k. moved_struct all (code_at all k) in
    structs-more moved i (i - 1) done c.push.new.self.items (map moved (from_last all)) (omega (arith, some)) c.loop-i.invariant
    (c.in_ok-push.ensures.items ∙ ap (λ (s : StructTree). done ++ s ∷ [])
    (c.in_ok-moved_struct.ensures ∙ ap (moved_struct all) c.at.ensures))
