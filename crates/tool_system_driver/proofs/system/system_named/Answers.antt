use Rattle.std.proofs.Common.{sym, ◌∙◌, ap, subst, ◌≡◌, List, ℕ, Some, None, false, find, bytes_eq, codes}
use Rattle.diagram_meaning.specs.declared.table.Row.{Row}
use Rattle.diagram_meaning.specs.Rows.{row_numbers}
use Rattle.tool_system_driver.specs.Words.{is_named, system_named}
use Rattle.tool_system_driver.proofs.WordSystems.{row-named, named-there}
use Rattle.tool_system_driver.proofs.system.system_named.Goals as goal

row-is : (c : goal.In-Some) → Some (Some c.in-Some.e) ≡ system_named c.args.r.now.tree.table.rows c.args.word.now
row-is c =
    let word = c.args.word.now in
    let other : bytes_eq (codes "top") word ≡ false =
    ap (λ (front : List ℕ). bytes_eq front word) (sym c.as_slice.ensures) ∙ sym c.if-eq.ensures in
    row-named c.args.r.now.tree.table.rows word (Some c.in-Some.e) other
    (subst (λ (rows : List Row). Some c.in-Some.e ≡ find (is_named rows word) (row_numbers rows)) c.rows_of.ensures.rows
    (sym c.in-Some.is ∙ c.subsystem_named.ensures.found))

pub returns-in-Some-clause-named : goal.returns-in-Some-clause-named
returns-in-Some-clause-named c = row-is c

pub returns-in-Some-clause-there : goal.returns-in-Some-clause-there
returns-in-Some-clause-there c = named-there c.args.r.now.tree.table.rows c.args.word.now (Some c.in-Some.e) (row-is c)

pub returns-in-None-clause-named : goal.returns-in-None-clause-named
returns-in-None-clause-named c =
    let word = c.args.word.now in
    let other : bytes_eq (codes "top") word ≡ false =
    ap (λ (front : List ℕ). bytes_eq front word) (sym c.as_slice.ensures) ∙ sym c.if-eq.ensures in
    row-named c.args.r.now.tree.table.rows word None other
    (subst (λ (rows : List Row). None ≡ find (is_named rows word) (row_numbers rows)) c.rows_of.ensures.rows
    (sym c.in-None.is ∙ c.subsystem_named.ensures.found))
