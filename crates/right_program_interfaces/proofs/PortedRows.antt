-- The rows of a system by their ports: each is at its own, and there are at most 32.
use Rattle.std.specs.Prelude.{◌≡◌, ℕ, suc, ◌+◌, ◌≤◌, Bool, List, length, slice_get, Option, Some}
use Rattle.std.proofs.Common.{sym, ap, ◌∙◌, arith}
use Rattle.std.proofs.lemmas.List.Sums.{length-filter}
use Rattle.std.proofs.lemmas.Option.{same_Some}
use Rattle.diagram_blocks.specs.declared.Kind.{Kind}
use Rattle.diagram_meaning.specs.declared.table.Row.{Row}
use Rattle.diagram_meaning.specs.Rows.{row_at, rows_of, by_port}
use Rattle.diagram_blocks.specs.Kinds.{port_of}
use Rattle.diagram_meaning.specs.WellFormed.{HasPorts}
use Rattle.diagram_meaning.proofs.lemmas.Ports.{ported-at, length-by_port}
use Rattle.modules_profile.proofs.lemmas.Members.{at-below}

module _ (rows : List Row) (s : Option ℕ) (test : Kind → Bool) (ports : HasPorts rows test s) where
  pub port-at : (k b : ℕ) → slice_get (by_port rows s test) k ≡ Some b → port_of (row_at rows b).kind ≡ k + 1
  port-at k b at =
      let found = ported-at rows test s ports k (at-below (by_port rows s test) k b at) in
      let one : found.0 ≡ b = same_Some found.0 b (sym found.1 ∙ at) in
      let number : suc k ≡ k + 1 = omega arith in
      ap (λ c. port_of (row_at rows c).kind) (sym one) ∙ found.3 ∙ number

  pub few-ports : length (by_port rows s test) ≤ 32
  few-ports =
      let long = length-by_port rows test s ports in
      let count = length-filter (λ b. test (row_at rows b).kind) (rows_of rows s) in
      let most = ports.at_most in
      omega (arith, long, count, most)
