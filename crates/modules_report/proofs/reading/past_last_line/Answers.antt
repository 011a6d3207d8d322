use Rattle.std.proofs.Common.{◌≡◌, ℕ, List, ◌++◌, subst, rules}
use Rattle.std.specs.Prelude.{IfNone}
use Rattle.modules_report.specs.Texts.{last_line}
use Rattle.modules_report.proofs.reading.past_last_line.Goals as goal

pub returns-clause-none : goal.returns-clause-none
returns-clause-none c =
    let told : c.as_bytes.result.now ≡ last_line c.args.systems = search rules in
    subst (λ (line : List ℕ). IfNone c.past.result ((more : List ℕ) → c.args.text.now ≡ line ++ more → ⊥)) told (search rules)
