-- What solves the equations of a model's file at a tick has what the run has, and is whole.
use Rattle.std.proofs.Common.{◌≡◌, refl, sym, ◌∙◌, ℕ, Bool, true, false, List, [], length, Option, None, Some, ℤ, true≢false}
use Rattle.diagram_blocks.specs.Kinds.{is_subsystem}
use Rattle.diagram_meaning.specs.Rows.{row_at}
use Rattle.diagram_meaning.specs.ResolvedTree.{ResolvedTree, diagram_of}
use Rattle.diagram_meaning.specs.Laws.{Run}
use Rattle.diagram_meaning.specs.SystemRuns.{system_tick}
use Rattle.diagram_typed_runs.specs.TypedRuns.{IsSystem}
use Rattle.lustre_rows.specs.RunLaws.{IsRunTick}
use Rattle.lustre_syntax.specs.Lawful.{IsLawful}
use Rattle.lustre_system.specs.File.{lustre_file}
use Rattle.lustre_right.specs.Systems.{system_texts}
use Rattle.lustre_right.specs.TickLaws.{IsExpected, SolutionsHaveTheRun}
pub use Rattle.lustre_ticks.proofs.Setting.{Laws}
use Rattle.lustre_ticks.proofs.Setting.{Setting}
use Rattle.lustre_ticks.proofs.Whole.{has-run, is-whole}

module _ (laws : Laws) (r : ResolvedTree) (xs : List (List ℤ)) (run : Run) (t : ℕ) (at : IsRunTick r xs run None t)
    (lawful : IsLawful (lustre_file (diagram_of r) r.times.hyper)) where
  -- these values are expected of the names of a system
  abbrev AreExpected : Option ℕ → List (Option ℤ) → Type 0
  AreExpected s values =
      (length values ≡ length (system_texts (diagram_of r) s))
      × IsExpected (diagram_of r) r.times.hyper s (system_tick (diagram_of r) None xs run s t) values

  expected-for : (s : Option ℕ) → IsSystem r.tree.table.rows s → (values : List (Option ℤ)) × AreExpected s values
  expected-for s system =
      let (values, long, right) = laws.expected r xs run s t (record {
        resolved = at.resolved;
        no_loop = at.no_loop;
        trace = at.trace;
        is_run = at.is_run;
        within = at.within;
        system = system;
      }) lawful in
      (values, (long, right))

  -- whether or not it is a system
  expected-of : (s : Option ℕ) → (values : List (Option ℤ)) × (IsSystem r.tree.table.rows s → AreExpected s values)
  expected-of None = let (values, right) = expected-for None tt in (values, λ system. right)
  expected-of (Some e) = by (is_subsystem (row_at r.tree.table.rows e).kind) refl
    where
      by : (b : Bool) → is_subsystem (row_at r.tree.table.rows e).kind ≡ b →
          (values : List (Option ℤ)) × (IsSystem r.tree.table.rows (Some e) → AreExpected (Some e) values)
      by true is = let (values, right) = expected-for (Some e) is in (values, λ system. right)
      by false is = ([], λ system. absurd (true≢false (sym system ∙ is)))

pub solutions_have_the_run : Laws → SolutionsHaveTheRun
solutions_have_the_run laws r xs run t before left at solution had =
    let of = expected-of laws r xs run t at solution.tick.lawful in
    let g : Setting = record {
      laws = laws;
      r = r;
      xs = xs;
      run = run;
      t = t;
      before = before;
      left = left;
      tick = at;
      solution = solution;
      had = had;
      expected = λ s. (of s).0;
      long = λ s system. ((of s).1 system).0;
      right = λ s system. ((of s).1 system).1;
    } in
    (has-run g, is-whole g)
