use Rattle.std.proofs.Common.{◌≡◌, ◌∙◌, sym, ap, subst, map, List}
use Rattle.std.specs.Prelude.{Option, ℕ, All}
use Rattle.std.specs.List.{AllZip}
use Rattle.diagram_meaning.specs.declared.table.Row.{Row}
use Rattle.diagram_meaning.specs.ResolvedTree.{diagram_of}
use Rattle.diagram_blocks.specs.Kinds.{is_inport, is_outport}
use Rattle.modules_profile.specs.Functions.{IsProfileOf}
use Rattle.modules_profile.specs.Systems.{systems}
use Rattle.modules_profile.specs.SystemProfile.{SystemProfile}
use Rattle.modules_report.specs.Reports.{IsReport, IsReportOn}
use Rattle.modules_interfaces.specs.PortCounts.{AreCounts}
use Rattle.modules_interfaces.proofs.ReportLists.{zip-all}
use Rattle.modules_interfaces.proofs.systems.reports_on_systems.Goals as goal

pub reports_with-requires-clause-inports : goal.reports_with-requires-clause-inports
reports_with-requires-clause-inports c =
    subst (λ (rows : List Row). AreCounts is_inport rows c.deref.result.now) c.rows_of-rows.ensures.rows
    (subst (λ (ns : List ℕ). AreCounts is_inport c.rows_of-rows.result.now ns) (sym c.deref.ensures.value) c.in_ok-inports.ensures)

pub reports_with-requires-clause-outports : goal.reports_with-requires-clause-outports
reports_with-requires-clause-outports c =
    subst (λ (rows : List Row). AreCounts is_outport rows c.deref-2.result.now) c.rows_of-rows.ensures.rows
    (subst (λ (ns : List ℕ). AreCounts is_outport c.rows_of-rows.result.now ns) (sym c.deref-2.ensures.value) c.in_ok-outports.ensures)

pub reports_with-requires-clause-profiles : goal.reports_with-requires-clause-profiles
reports_with-requires-clause-profiles c =
    subst (λ (ps : List SystemProfile). All (λ (p : SystemProfile). IsProfileOf (diagram_of c.args.r.now) p.row p) ps)
    (sym c.deref-3.ensures.value) c.in_ok-profiles.ensures.each

pub returns-clause-each : goal.returns-clause-each
returns-clause-each c =
    let rows : map (λ (p : SystemProfile). p.row) c.deref-3.result.now ≡ systems c.args.r.now.tree.table.rows =
    ap (map (λ (p : SystemProfile). p.row)) c.deref-3.ensures.value
    ∙ c.in_ok-profiles.ensures.rows
    ∙ c.tree_has_all_systems.ensures c.args.r.now c.is_resolved.ensures in
    subst (λ (ss : List (Option ℕ)). AllZip (IsReportOn (diagram_of c.args.r.now)) ss c.in_ok-reports.reports.items)
    rows c.in_ok-reports.ensures

pub returns-clause-right : goal.returns-clause-right
returns-clause-right c =
    let d = diagram_of c.args.r.now in
    let formed = c.is_resolved.ensures.tree.table in
    zip-all (IsReportOn d) IsReport (λ s r on. c.reports_on_are_right.ensures d s r (formed.inports s) (formed.outports s) on)
    (map (λ (p : SystemProfile). p.row) c.deref-3.result.now) c.in_ok-reports.reports.items c.in_ok-reports.ensures
