use Rattle.std.proofs.Common.{map, take}
use Rattle.std.specs.List.{AllZip}
use Rattle.diagram_meaning.specs.ResolvedTree.{diagram_of}
use Rattle.modules_profile.specs.SystemProfile.{SystemProfile}
use Rattle.modules_report.specs.Reports.{IsReportOn}
use Rattle.modules_interfaces.proofs.systems.reports_with.Given as goal

abbrev pub invariant-loop-profile : goal.invariant-loop-profile
invariant-loop-profile l =
    AllZip (IsReportOn (diagram_of l.r)) (map (λ (p : SystemProfile). p.row) (take l.profile-index l.profiles)) l.reports.items
