use Rattle.std.proofs.Common.{◌<◌, All, length, subst, sym, arith}
use Rattle.emit_system.proofs.CodeGroups.{code_groups_low, functions_low}
use Rattle.emit_system.proofs.procedures.procedures.Goals as goal

pub push_groups-requires-clause-groups : goal.push_groups-requires-clause-groups
push_groups-requires-clause-groups c =
    let schedule = c.args.layout.now.schedule in
    subst (All (λ g. g < length schedule.groups)) (sym c.code_groups.ensures) (code_groups_low schedule)

pub push_functions-requires-clause-few : goal.push_functions-requires-clause-few
push_functions-requires-clause-few c =
    let low = functions_low c.args.layout.now.local c.args.layout.now.schedule c.requires.emittable in
    omega (arith, low, c.requires.agree.functions)
