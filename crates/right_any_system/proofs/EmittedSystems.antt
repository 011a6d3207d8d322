-- Each system of a resolved model without a loop has what its code is made from.
use Rattle.std.specs.Prelude.{length, refl}
use Rattle.diagram_meaning.specs.Diagram.{Diagram}
use Rattle.diagram_meaning.specs.ResolvedTree.{diagram_of}
use Rattle.modules_profile.specs.LocalSystem.{LocalSystem}
use Rattle.modules_profile.specs.SystemProfile.{SystemProfile}
use Rattle.modules_profile.specs.Locals.{local_of}
use Rattle.modules_profile.specs.LocalNodes.{HasNoNodeLoop}
use Rattle.modules_profile.specs.LawfulLocals.{IsLocal}
use Rattle.modules_profile.specs.NodeFacts.{IsLocalOf, LocalsAreLawful, NodesHaveNoLoop}
use Rattle.modules_profile.proofs.lemmas.NodeReach.{no-cycle}
use Rattle.modules_schedule.specs.SystemSchedule.{SystemSchedule}
use Rattle.modules_schedule.specs.Scheduling.{schedule_for}
use Rattle.emit_system_spec.specs.Schedules.{giving_functions, IsScheduleOf}
use Rattle.right_any_system.specs.AnySystem.{EachSystemIsEmitted}
use Rattle.right_any_system.proofs.Profiles.{profile-there, headers-there}
use Rattle.right_any_system.proofs.Graphs.{nodes-there}
use Rattle.right_any_system.proofs.Clustered.{clusters-there}
use Rattle.right_any_system.proofs.Grouped.{groups-there}
use Rattle.right_any_system.proofs.Ordered.{order-there}

schedule-there : (local : LocalSystem) (profile : SystemProfile) → IsLocal local → HasNoNodeLoop local →
    (schedule : SystemSchedule) × IsScheduleOf local profile schedule
schedule-there local profile is none =
    let nodes = nodes-there local is in
    let graph = nodes.0.graph in
    let acyclic = no-cycle local nodes.0 nodes.1 none in
    let clusters = clusters-there graph nodes.1.inside acyclic nodes.0.outputs (giving_functions local profile) in
    let groups = groups-there clusters.0 in
    let order = order-there graph nodes.1.inside acyclic in (
      schedule_for order.0 groups.0 (length profile.functions),
      record {
        nodes = nodes.0;
        are_nodes = nodes.1;
        clusters = clusters.0;
        are_clusters = clusters.1;
        groups = groups.0;
        are_groups = groups.1;
        order = order.0;
        is_order = order.1;
        is_schedule = refl;
      },
    )

pub each_system_is_emitted : LocalsAreLawful → NodesHaveNoLoop → EachSystemIsEmitted
each_system_is_emitted lawful no_loops r s resolved none listed =
    let d : Diagram = diagram_of r in
    let headers = headers-there d none s in
    let local : LocalSystem = local_of d r.times.delays s headers.0 in
    let is : IsLocalOf r s local = record { headers = headers.0; are_headers = headers.1; is_local = refl } in
    let profile = profile-there d none s in
    let schedule = schedule-there local profile.0 (lawful r s local resolved is) (no_loops r s local resolved is none) in
    record {
      local = local;
      profile = profile.0;
      schedule = schedule.0;
      is_local = is;
      is_profile = profile.1;
      is_emitted = record {
        resolved = r;
        is_resolved = resolved;
        no_loop = none;
        is_system = listed;
        is_local = is;
        is_profile = profile.1;
        is_schedule = schedule.1;
      };
    }
