-- What is known of the model: it is resolved, without a loop, and has two rates.
use Rattle.std.specs.Prelude.{◌≡◌, [], ◌∷◌, None}
use Rattle.std.proofs.Common.{lit≤}
use Rattle.diagram_meaning.specs.declared.times.Time.{Time}
use Rattle.diagram_meaning.specs.SampleTimes.{every_tick}
use Rattle.diagram_meaning.specs.Diagram.{time_at}
use Rattle.diagram_meaning.specs.Needs.{needs_of, HasNoLoop, AreTrueNeeds}
use Rattle.diagram_meaning.specs.ResolvedTree.{ResolvedTree, IsResolvedTree, diagram_of}
use Rattle.right_sample_model.specs.Rows.{rich_table}

-- every other tick
abbrev pub second_ticks : Time
second_ticks = record { period = 2; offset = 0; in_period = lit≤ tt }

pub record RichModel : Type 0 where
  pub model : ResolvedTree
  pub is_rich : model.tree.table ≡ rich_table
  pub is_resolved : IsResolvedTree model
  pub no_loop : HasNoLoop (needs_of (diagram_of model))
  -- the inputs come at each tick, and what is held changes at every other one
  pub fast : time_at (diagram_of model) 0 ≡ every_tick
  pub slow : time_at (diagram_of model) 11 ≡ second_ticks
  pub cycle : model.times.hyper ≡ 2
  -- Out1 needs In1, Out2 both inputs and Out3 In2, so each has a function of its own; the first two
  -- share In1 and what is held
  pub needs : AreTrueNeeds (diagram_of model) None (1 ∷ 3 ∷ 2 ∷ [])
