-- What flows keep beside their file, and what a tick makes of it.
use Rattle.std.specs.Prelude.{◌≡◌, List, ℤ, length, true, Option, IfNone}
use Rattle.std.specs.List.{list_all}
use Rattle.lustre_syntax.specs.declared.file.LusFile.{LusFile}
use Rattle.lustre_syntax.specs.Lawful.{IsLawful}
use Rattle.lustre_syntax.specs.Plain.{file_tree}
use Rattle.lustre_syntax.specs.Tree.{FileTree}
use Rattle.lustre_flows.specs.declared.stuck.LusStuck.{LusStuck}
use Rattle.lustre_flows.specs.Instances.{Instance, has_value}
use Rattle.lustre_flows.specs.Ticks.{fresh_root, settled, stuck_place}
use Rattle.lustre_slots.specs.declared.placed.Placed.{Placed}
use Rattle.lustre_slots.specs.declared.placed.Source.{Source}
use Rattle.lustre_slots.specs.Layout.{instances_of}
use Rattle.lustre_slots.specs.Sources.{sources_of}
use Rattle.lustre_slot_laws.specs.Laid.{laid}
use Rattle.lustre_slot_laws.specs.SlotLaws.{laid_before}
use Rattle.lustre_evaluation.specs.declared.frames.Frame.{Frame}
use Rattle.lustre_evaluation.specs.Views.{before_by}
use Rattle.lustre_solver.specs.Searching.{Searching, HasRoom}

-- the slots of a file, with room for their values and those of the tick before
pub record AreTables (file : LusFile) (instances : List Placed) (sources : List Source)
    (search : Searching) (before : List ℤ) : Type 0 where
  pub lawful : IsLawful (file_tree file)
  pub instances_are : instances ≡ instances_of (file_tree file)
  pub sources_are : sources ≡ sources_of (file_tree file)
  pub room : HasRoom (length sources) search
  pub values : length before ≡ length sources

-- the same of a frame
abbrev pub IsReady : Frame → List Placed → Searching → Type 0
IsReady frame instances search =
    AreTables frame.file.now instances frame.sources.now search frame.before.now

-- its file, and what the tick before left
abbrev pub frame_tree : Frame → FileTree
frame_tree frame = file_tree frame.file.now

abbrev pub frame_before : Frame → Option Instance
frame_before frame =
    laid_before (frame_tree frame) (before_by frame.begun frame.before.now)

-- what is laid out of values
abbrev pub frame_laid : Frame → List (Option ℤ) → Instance
frame_laid frame now = laid now (fresh_root (frame_tree frame))

-- a tick on a row left these values, and this is where it is stuck, if it is
pub record IsRun (frame : Frame) (row : List ℤ) (now : List (Option ℤ)) (place : Option LusStuck) :
    Type 0 where
  pub settled_is : frame_laid frame now ≡ settled (frame_tree frame) (frame_before frame) row
  pub place_is : place ≡ stuck_place (frame_tree frame) (frame_before frame) (frame_laid frame now)
  pub whole : IfNone place (list_all has_value now ≡ true)
