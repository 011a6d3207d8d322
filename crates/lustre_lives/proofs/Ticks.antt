-- A tick of the file of a model is done, and its names have what the run has at it.
use Rattle.std.proofs.Common.{◌≡◌, ap, ℕ, true, List, [], map, slice_index_or, Option, Some, None, ℤ}
use Rattle.diagram_meaning.specs.Rows.{outports_of}
use Rattle.diagram_meaning.specs.ResolvedTree.{ResolvedTree, diagram_of}
use Rattle.diagram_meaning.specs.Laws.{Run}
use Rattle.emit_shape.specs.Names.{value_name}
use Rattle.lustre_syntax.specs.Tree.{FileTree}
use Rattle.lustre_flows.specs.Values.{value_at}
use Rattle.lustre_flows.specs.Instances.{Instance, is_complete, outputs_of}
use Rattle.lustre_flows.specs.Ticks.{last_node, settled, stuck_place, done, tick_from, tick}
use Rattle.lustre_flows.specs.FlowLaws.{FollowsWhole, IsTickOf}
use Rattle.lustre_system.specs.File.{lustre_file}
use Rattle.lustre_rows.specs.RunLaws.{IsRunTick}
use Rattle.lustre_right.specs.Systems.{place_in, values_of_system}
use Rattle.lustre_right.specs.SystemLaws.{IsModelSolution}
use Rattle.lustre_right.specs.TickLaws.{HasRun, HadRun}
use Rattle.lustre_lives.proofs.Laws.{Laws}
use Rattle.lustre_lives.proofs.Fresh.{form-is}

abbrev pub file_of : ResolvedTree → FileTree
file_of r = lustre_file (diagram_of r) r.times.hyper

-- an instance has what the run has at tick t, and its outputs are those of the system `top`
pub record IsLeft (r : ResolvedTree) (xs : List (List ℤ)) (run : Run) (t : ℕ) (left : Instance) : Type 0 where
  pub has_run : HasRun r xs run t left
  pub outputs : outputs_of (last_node (file_of r)) left
      ≡ map (λ o. value_at (values_of_system (diagram_of r) r.times.hyper None left) (place_in (diagram_of r) None (value_name o)))
      (outports_of (diagram_of r).rows None)

-- a tick that is done, and leaves such an instance
pub record IsDoneTick (r : ResolvedTree) (xs : List (List ℤ)) (run : Run) (t : ℕ) (before : Option Instance) : Type 0 where
  pub left : Instance
  pub is_done : tick (file_of r) before (slice_index_or xs t []) ≡ done left
  pub is_left : IsLeft r xs run t left
  pub follows : FollowsWhole (file_of r) (Some left)

pub tick-done : Laws → (r : ResolvedTree) (xs : List (List ℤ)) (run : Run) (t : ℕ) (before : Option Instance) →
    IsRunTick r xs run None t → IsTickOf (file_of r) before (slice_index_or xs t []) → HadRun r xs run t before →
    IsDoneTick r xs run t before
tick-done laws r xs run t before at of had =
    let f = file_of r in
    let row = slice_index_or xs t [] in
    let left = settled f before row in
    let solution = laws.settled.solution f before row of in
    let model : IsModelSolution r before row left = record { resolved = at.resolved; tick = of; solution = solution } in
    let both = laws.have_run r xs run t before left at model had in
    let whole : is_complete left ≡ true = laws.whole r before row left model both.1 in
    let free : stuck_place f before left ≡ None = (laws.stuck f before row of).1 whole in
    record {
      left = left;
      is_done = ap (λ place. tick_from place left) free;
      is_left = record { has_run = both.0; outputs = (laws.hold r before row left model).0.outputs };
      follows = (form-is f left solution.form, whole);
    }
