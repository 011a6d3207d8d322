use Rattle.std.proofs.Common.{◌≡◌, ◌∙◌, ◌+◌, sym, ap, subst, map, take, List, ◌++◌, ◌∷◌, []}
use Rattle.std.specs.Prelude.{Option, ℕ}
use Rattle.std.specs.List.{AllZip}
use Rattle.std.proofs.lemmas.List.{map_more}
use Rattle.diagram_meaning.specs.ResolvedTree.{diagram_of}
use Rattle.modules_profile.specs.SystemProfile.{SystemProfile}
use Rattle.modules_report.specs.PlainReport.{PlainReport}
use Rattle.modules_report.specs.Reports.{IsReportOn}
use Rattle.modules_interfaces.proofs.ReportLists.{zip-push}
use Rattle.modules_interfaces.proofs.systems.reports_with.Goals as goal

abbrev row_of : SystemProfile → Option ℕ
row_of p = p.row

pub loop-profile-preserved : goal.loop-profile-preserved
loop-profile-preserved c =
    let d = diagram_of c.args.r.now in
    let profiles = c.args.profiles.now in
    let i = c.loop-profile.profile-index in
    let before = c.loop-profile.reports.items in
    let profile = c.profile-item.result in
    let report = c.in_ok-report_on.field-0 in
    let rows : map row_of (take (i + 1) profiles) ≡ map row_of (take i profiles) ++ row_of profile ∷ [] =
    map_more row_of profiles i profile c.loop-profile-test.true
    ∙ ap (λ (p : SystemProfile). map row_of (take i profiles) ++ row_of p ∷ []) (sym {A = SystemProfile} c.profile-item.is) in
    subst (λ (rs : List PlainReport). AllZip (IsReportOn d) (map row_of (take (i + 1) profiles)) rs)
    (sym {A = List PlainReport} c.in_ok-push.ensures.items)
    (subst (λ (ss : List (Option ℕ)). AllZip (IsReportOn d) ss (before ++ report ∷ [])) (sym rows)
    (zip-push (IsReportOn d) (map row_of (take i profiles)) before (row_of profile) report
    c.loop-profile.invariant c.in_ok-report_on.ensures))
