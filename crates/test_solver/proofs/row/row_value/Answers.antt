use Rattle.std.proofs.Common.{◌≡◌, ◌∙◌, ◌<◌, [], length, sym, ap, subst, arith, rules, FitsSigned, w64}
use Rattle.std.proofs.lemmas.List.{get_or_default}
use Rattle.std.proofs.lemmas.Int.{to_z-of_z}
use Rattle.base_fixed_point.specs.Conversion.{InType}
use Rattle.diagram_meaning.specs.Diagram.{type_at}
use Rattle.diagram_meaning.specs.Run.{memory_at, first_of}
use Rattle.diagram_typed_runs.proofs.lemmas.Kept.{oldest-in}
use Rattle.test_solver.proofs.row.row_value.Goals as goal

-- the oldest number that a row remembers lies in its type
pub computed-requires-clause-memory : goal.computed-requires-clause-memory
computed-requires-clause-memory c =
    let b = c.args.b in
    let type = type_at c.args.tick.now.diagram.now.types b in
    let memories = c.args.tick.now.before.now.memories.items in
    let first_fits : FitsSigned w64 c.first.result = search rules in
    let in_memories : b < length memories = omega (arith, c.requires.before.memories.one_each, c.requires.row) in
    let first : c.first.result ≡ first_of (memory_at memories b) =
    c.first.ensures ∙ ap first_of (c.index-2.ensures ∙ get_or_default memories b c.index-2.result.now [] in_memories) in
    subst (InType type) (sym (to_z-of_z w64 c.first.result first_fits ∙ first))
    (oldest-in type (memory_at memories b) (c.requires.before.memories.each b))
