-- How passes come to rest.
use Rattle.std.specs.Prelude.{◌≡◌, ℕ, suc, ◌≤◌, ℤ, List, Option}
use Rattle.lustre_syntax.specs.Tree.{FileTree}
use Rattle.lustre_flows.specs.Instances.{Instance, name_count}
use Rattle.lustre_flows.specs.Ticks.{after_passes, fresh_root, root_pass, settled}
use Rattle.lustre_flows.specs.FlowLaws.{Stays, IsTickOf}

-- more values before a pass are more values after it, in any file
abbrev pub PassesKeepOrder : Type 0
PassesKeepOrder =
    (f : FileTree) (before : Option Instance) (row : List ℤ) (i j : Instance) →
    Stays i j → Stays (root_pass f before row i) (root_pass f before row j)

-- each pass of a tick keeps the values that there are; as many passes as there are names come to
-- rest; and what they then leave is what the tick leaves
pub record PassesComeToRest (f : FileTree) (before : Option Instance) (row : List ℤ) : Type 0 where
  pub grow : (n : ℕ) → Stays (after_passes f before row n) (after_passes f before row (suc n))
  pub rest : (n : ℕ) → name_count (fresh_root f) ≤ n →
      after_passes f before row n ≡ settled f before row
  pub kept : root_pass f before row (settled f before row) ≡ settled f before row

abbrev pub TicksComeToRest : Type 0
TicksComeToRest =
    (f : FileTree) (before : Option Instance) (row : List ℤ) → IsTickOf f before row →
    PassesComeToRest f before row
