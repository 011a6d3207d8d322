use Rattle.std.proofs.Common.{◌≤◌, List, ℕ, length, subst, sym, ap, ◌∙◌}
use Rattle.diagram_meaning.specs.Nested.{row_of, system_of}
use Rattle.modules_profile.specs.Functions.{functions_for}
use Rattle.modules_profile.proofs.ProfileNeeds.{needs-of-nodes, few-needs}
use Rattle.modules_profile.proofs.profiles.profile_of.Goals as goal

pub functions_of-requires : goal.functions_of-requires
functions_of-requires c =
    let s = row_of (system_of c.args.s.now) in
    subst (λ (needs : List ℕ). length needs ≤ 32) (sym c.deref.ensures.value)
    (few-needs c.args.r.now s c.is_resolved.ensures c.in_ok-needs.needs.items
    (needs-of-nodes c.args.r.now s c.is_resolved.ensures c.in_ok-local.local c.in_ok-needs.needs.items
    c.in_ok-local.ensures.local c.in_ok-needs.ensures))

pub returns : goal.returns
returns c = record {
  needs = c.in_ok-needs.needs.items;
  are_needs =
      needs-of-nodes c.args.r.now (row_of (system_of c.args.s.now)) c.is_resolved.ensures c.in_ok-local.local
      c.in_ok-needs.needs.items c.in_ok-local.ensures.local c.in_ok-needs.ensures;
  row = c.row.ensures;
  functions = c.in_ok-functions_of.ensures ∙ ap functions_for c.deref.ensures.value;
}
