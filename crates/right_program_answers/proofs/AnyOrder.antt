-- An instance of a system that is as its start left it answers its calls in any lawful order.
use Rattle.std.specs.Prelude.{◌≡◌, ℕ, ◌==◌, List, [], Contains, Option, Some, None, ℤ, refl}
use Rattle.std.proofs.Common.{sym, ap, subst, ◌∙◌, arith, eq-eqb}
use Rattle.std.proofs.lemmas.Bool.{or_left}
use Rattle.diagram_meaning.specs.declared.table.Row.{Row}
use Rattle.diagram_meaning.specs.Rows.{is_inside}
use Rattle.diagram_meaning.specs.Laws.{Run, IsRunOver}
use Rattle.diagram_meaning.specs.RunLaws.{IsSystemWithin}
use Rattle.diagram_meaning.specs.Traces.{IsTrace}
use Rattle.modules_profile.specs.declared.Function.{Function}
use Rattle.modules_profile.specs.SystemProfile.{SystemProfile}
use Rattle.modules_profile.specs.Functions.{functions_for}
use Rattle.modules_profile.specs.NodeFacts.{HeaderIsOfOwnRows, ProfilesAreOne}
use Rattle.modules_profile.proofs.lemmas.Members.{at-in}
use Rattle.c_semantics.specs.Cells.{Cells, cells_at}
use Rattle.right_relation.specs.Forms.{HasForms}
use Rattle.right_relation.specs.BudgetLaws.{BudgetsSumToBound}
use Rattle.right_claim.specs.Scripts.{Call, nothing_yet, IsLawfulScript, Fits}
use Rattle.right_claim.specs.Driving.{DrivenFrom, AnswersScripts}
use Rattle.right_linking.specs.Parts.{Parts, program_of, diagram, all_systems, Views}
use Rattle.right_linking.specs.Starts.{Renewed}
use Rattle.right_linking.specs.Lives.{EachInstanceLives}
use Rattle.right_linking.specs.Root.{HasPath}
use Rattle.right_linking.specs.Whole.{AnswersFollow}
use Rattle.right_program_answers.proofs.Drives.{begins, drive}

-- a system is within itself
within-itself : (rows : List Row) (s : Option ℕ) → IsSystemWithin rows s s
within-itself rows None = refl
within-itself rows (Some e) = or_left (e == e) (is_inside rows (Some e) e) (eq-eqb e e refl)

module _ (profiles : ProfilesAreOne) (headers : HeaderIsOfOwnRows) (sums : BudgetsSumToBound) (a : Parts) (v : Views a)
    (renewed : Renewed a v) (lives : EachInstanceLives a v renewed) (s : Option ℕ) (has : Contains (all_systems a) s) (path : List ℕ)
    (before cells : Cells) (forms : HasForms (renewed.started s).forms before) (there : HasPath path cells)
    (started : cells_at path cells ≡ (renewed.started s).renewed before) where
  module _ (script : List Call) (xs : List (List ℤ)) (run : Run) (trace : IsTrace (diagram a) s xs)
      (is_run : IsRunOver (diagram a) s xs run) where
    -- with the functions of its profile
    by-profile : IsLawfulScript (diagram a) s (v.at s).profile.functions script → Fits (diagram a) s (v.at s).profile.functions xs script →
        DrivenFrom (program_of a) (diagram a) a.hyper path s (v.at s).profile.functions xs run 0 cells [] [] [] script
    by-profile lawful fits =
        let stands = at-in (all_systems a) s has in
        let living = lives s xs run trace is_run s has (within-itself (diagram a).rows s) before forms in
        let long = fits.one_row_each in
        drive headers sums a v renewed stands.0 s stands.1 path xs run before living script 0 cells [] [] nothing_yet lawful fits.agrees
        (omega (arith, long))
        (λ some.
        begins headers sums a v renewed stands.0 s stands.1 path xs run before living 0 cells there
        (started ∙ sym (living.first some)))

  pub answers : AnswersScripts (program_of a) (diagram a) a.hyper path s cells
  answers needs script xs run are lawful trace fits is_run =
      let stands = at-in (all_systems a) s has in
      let same : (v.at s).profile.functions ≡ functions_for needs =
      ap (λ (q : SystemProfile). q.functions)
      (profiles (diagram a) s (v.at s).profile (record { row = s; functions = functions_for needs }) (v.each stands.0 s stands.1).profile
      (record { needs = needs; are_needs = are; row = refl; functions = refl })) in
      subst (λ (functions : List Function). IsLawfulScript (diagram a) s functions script → Fits (diagram a) s functions xs script →
      DrivenFrom (program_of a) (diagram a) a.hyper path s functions xs run 0 cells [] [] [] script) same
      (by-profile script xs run trace is_run) lawful fits

pub answers_follow : ProfilesAreOne → HeaderIsOfOwnRows → BudgetsSumToBound → AnswersFollow
answers_follow profiles headers sums a v renewed lives s has path before cells forms there started =
    answers profiles headers sums a v renewed lives s has path before cells forms there started
