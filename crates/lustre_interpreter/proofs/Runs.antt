-- A tick of a file, by its slots.
use Rattle.std.proofs.Common.{◌≡◌, refl, sym, ◌∙◌, ap, ap₂, subst, ℕ, zero, suc, ◌+◌, ◌<◌, ◌≤◌, ℤ, pos, Bool, true, false, List, [], ◌∷◌, length, take, drop, map, arith, Option, Some, None, slice_get, slice_index, get_or-take}
use Rattle.std.specs.Prelude.{unwrap_or, IfNone}
use Rattle.std.specs.List.{list_all, flat_map, take-map, drop-map}
use Rattle.std.proofs.lemmas.List.{length-map}
use Rattle.lustre_syntax.specs.Lawful.{IsLawful}
use Rattle.lustre_syntax.specs.Plain.{file_tree}
use Rattle.lustre_syntax.specs.Tree.{FileTree}
use Rattle.lustre_flows.specs.declared.stuck.LusStuck.{LusStuck}
use Rattle.lustre_flows.specs.Values.{value_of, value_at}
use Rattle.lustre_flows.specs.Instances.{Instance, has_value, is_complete, values_in}
use Rattle.lustre_flows.specs.Ticks.{last_place, last_node, fresh_root, settled, stuck_place, place_among, least_place, failures, waiting, root_outputs, tick, tick_from, done, stuck}
use Rattle.lustre_flows.specs.FlowLaws.{ValueStays, ValuesStay, FollowsWhole, IsTickOf}
use Rattle.lustre_settling.proofs.lemmas.Order.{values-stay-at, values-stay-length}
use Rattle.lustre_settling.proofs.lemmas.Stuck.{stuck_exactly}
use Rattle.lustre_settling.proofs.lemmas.Unfolded.{lawful-at}
use Rattle.lustre_slots.specs.declared.placed.Placed.{Placed}
use Rattle.lustre_slots.specs.declared.placed.Source.TheVariants.{Row}
use Rattle.lustre_slots.specs.Layout.{sizes_of, instances_of}
use Rattle.lustre_slots.specs.Sources.{sources_of}
use Rattle.lustre_slots.proofs.lemmas.Layouts.{size-is, root-there}
use Rattle.lustre_slot_laws.specs.Laid.{laid}
use Rattle.lustre_slot_laws.specs.Outcomes.{outcome, source_at, AllKeep}
use Rattle.lustre_slot_laws.specs.SlotLaws.{laid_before, told_in}
use Rattle.lustre_slot_laws.proofs.lemmas.Flat.{laid-complete, complete-laid, laid-follows}
use Rattle.lustre_slot_laws.proofs.lemmas.Laying.{size-counted, laid-at, piece}
use Rattle.lustre_slot_laws.proofs.lemmas.Least.{left, left-length, left-inputs, left-keeps, left-only}
use Rattle.lustre_slot_laws.proofs.lemmas.Tables.{sources-count, inputs-are-rows}
use Rattle.lustre_slot_laws.proofs.lemmas.Told.{slots_tell}
use Rattle.lustre_evaluation.specs.declared.frames.Frame.{Frame}
use Rattle.lustre_evaluation.specs.Views.{before_by}
use Rattle.lustre_solver.specs.Searching.{Searching, Solves, HasRoom, IsStarted, IsSearch, GoesOn}
use Rattle.lustre_solver.proofs.lemmas.Starts.{start-search}
use Rattle.lustre_syntax.specs.declared.file.LusFile.{LusFile}
use Rattle.lustre_interpreter.specs.States.{FlowState, next_tick, IsTicked}
use Rattle.lustre_interpreter.specs.Tables.{IsReady, frame_tree, frame_before, frame_laid, IsRun}

-- ---- Lists of values

whole-map : (xs : List ℤ) → list_all has_value (map Some xs) ≡ true
whole-map [] = refl
whole-map (x ∷ xs) = whole-map xs

stay-by-place : (vs ws : List (Option ℤ)) → length vs ≡ length ws →
    ((k : ℕ) → k < length vs → ValueStays (value_at vs k) (value_at ws k)) → ValuesStay vs ws
stay-by-place [] [] same each = tt
stay-by-place [] (w ∷ ws) same each = absurd (omega arith)
stay-by-place (v ∷ vs) [] same each = absurd (omega arith)
stay-by-place (v ∷ vs) (w ∷ ws) same each =
    (each 0 (omega arith), stay-by-place vs ws (omega arith) (λ k small. each (suc k) (omega arith)))

row-taken : (row : List ℤ) (vs : List (Option ℤ)) → length row ≤ length vs →
    ((k : ℕ) (x : ℤ) → slice_get row k ≡ Some x → value_at vs k ≡ Some x) → take (length row) vs ≡ map Some row
row-taken [] vs room each = refl
row-taken (x ∷ xs) [] room each = absurd (omega arith)
row-taken (x ∷ xs) (v ∷ vs) room each =
    ap₂ {C = List (Option ℤ)} (λ y ys. y ∷ ys) (each 0 x refl) (row-taken xs vs (omega arith) (λ k y is. each (suc k) y is))

row-at : (row : List ℤ) (k : ℕ) (x : ℤ) → slice_get row k ≡ Some x → value_at (map Some row) k ≡ Some x
row-at [] zero x is = absurd (cc)
row-at [] (suc k) x is = absurd (cc)
row-at (y ∷ ys) zero x is = is
row-at (y ∷ ys) (suc k) x is = row-at ys k x is

row-within : (row : List ℤ) (k : ℕ) (x : ℤ) → slice_get row k ≡ Some x → k < length row
row-within [] zero x is = absurd (cc)
row-within [] (suc k) x is = absurd (cc)
row-within (y ∷ ys) zero x is = omega arith
row-within (y ∷ ys) (suc k) x is = omega (arith, row-within ys k x is)

unwrapped : (xs : List ℤ) → map (λ v. unwrap_or v (pos 0)) (map Some xs) ≡ xs
unwrapped [] = refl
unwrapped (x ∷ xs) = ap (λ ys. x ∷ ys) (unwrapped xs)

-- ---- A tick of a frame that is ready

module _ (frame : Frame) (instances : List Placed) (search : Searching) (ready : IsReady frame instances search) (row : List ℤ)
    (fits : length row ≡ (last_node (frame_tree frame)).inputs) where
  abbrev f : FileTree
  f = frame_tree frame

  abbrev before : Option (List (Option ℤ))
  before = before_by frame.begun frame.before.now

  sources-size : length frame.sources.now ≡ slice_index (sizes_of f) (last_place f)
  sources-size = ap length ready.sources_are ∙ sources-count f

  ports : (last_node f).inputs + (last_node f).outputs ≤ slice_index (sizes_of f) (last_place f)
  ports =
      let good = (lawful-at f.nodes (last_place f) ready.lawful.nodes (root-there f ready.lawful)).ports in
      let size = size-is f (last_place f) ready.lawful (root-there f ready.lawful) in
      omega arith

  follows-by : (begun : Bool) → FollowsWhole f (laid_before f (before_by begun frame.before.now))
  follows-by false = tt
  follows-by true =
      laid-follows f (map Some frame.before.now) ready.lawful
      (length-map frame.before.now (λ v. Some v) ∙ ready.values ∙ sources-size) (whole-map frame.before.now)

  pub is-tick : IsTickOf f (frame_before frame) row
  is-tick = record { lawful = ready.lawful; inputs = fits; follows = follows-by frame.begun }

  rows : (slot : ℕ) → slot < length row → source_at frame.sources.now slot ≡ Row
  rows slot small =
      ap (λ sources. source_at sources slot) ready.sources_are
      ∙ inputs-are-rows f slot ready.lawful (omega arith)

  -- the search may begin
  pub searches : (started : Searching) → HasRoom (length search.now) started → IsStarted row started → IsSearch frame started
  searches started room begins =
      start-search frame row started (length search.now) room begins (sym ready.room.now) rows

  solved-by : (now : List (Option ℤ)) → Solves frame now → AllKeep f before now
  solved-by now solves =
      subst (λ sources. (slot : ℕ) → value_at now slot ≡ value_of (outcome f before now slot (source_at sources slot)))
      ready.sources_are solves

  solves-by : (now : List (Option ℤ)) → AllKeep f before now → Solves frame now
  solves-by now keeps =
      subst (λ sources. (slot : ℕ) → value_at now slot ≡ value_of (outcome f before now slot (source_at sources slot)))
      (sym ready.sources_are) keeps

  module _ (started after : Searching) (room : HasRoom (length search.now) started) (begins : IsStarted row started)
      (on : GoesOn frame started after) (solves : Solves frame after.now) where
    size : length after.now ≡ slice_index (sizes_of f) (last_place f)
    size = sym (values-stay-length started.now after.now on.stays) ∙ room.now ∙ ready.room.now ∙ sources-size

    started-below : ValuesStay started.now (left f before row is-tick)
    started-below =
        let all = left-length f before row is-tick in
        stay-by-place started.now (left f before row is-tick)
        (room.now ∙ ready.room.now ∙ sources-size ∙ sym all)
        (λ k small. subst (λ v. ValueStays v (value_at (left f before row is-tick) k)) (sym (begins.given k small)) (each k (slice_get row k) refl))
      where
        each : (k : ℕ) (o : Option ℤ) → slice_get row k ≡ o → ValueStays o (value_at (left f before row is-tick) k)
        each k None is = tt
        each k (Some x) is =
            let small = row-within row k x is in
            sym (get_or-take (last_node f).inputs (left f before row is-tick) k None (omega arith))
            ∙ ap (λ vs. value_at vs k) (left-inputs f before row is-tick) ∙ row-at row k x is

    inputs-are : take (last_node f).inputs after.now ≡ map Some row
    inputs-are =
        let fit = ports in
        let all = size in
        ap (λ n. take n after.now) (sym fits)
        ∙ row-taken row after.now (omega arith)
        (λ k x is.
        let inside : k < length started.now = let small = row-within row k x is in let same = values-stay-length started.now after.now on.stays in omega arith in
        let given : value_at started.now k ≡ Some x = begins.given k inside ∙ is in
        subst (λ v. ValueStays v (value_at after.now k)) given (values-stay-at started.now after.now k on.stays))

    pub settled-is : frame_laid frame after.now ≡ settled f (frame_before frame) row
    settled-is =
        left-only f before row is-tick after.now size inputs-are (solved-by after.now solves)
        (on.least (left f before row is-tick) (solves-by (left f before row is-tick) (left-keeps f before row is-tick)) started-below)

    -- nothing is reported exactly where all values are there
    none-told : list_all has_value after.now ≡ true → stuck_place f (frame_before frame) (frame_laid frame after.now) ≡ None
    none-told whole =
        subst (λ i. stuck_place f (frame_before frame) i ≡ None) (sym settled-is)
        ((stuck_exactly f (frame_before frame) row is-tick).1
        (ap is_complete (sym settled-is) ∙ laid-complete (fresh_root f) after.now whole))

    all-there : stuck_place f (frame_before frame) (frame_laid frame after.now) ≡ None → list_all has_value after.now ≡ true
    all-there none =
        complete-laid (fresh_root f) after.now (sym (size-counted f (last_place f)) ∙ sym size)
        (ap is_complete settled-is
        ∙ (stuck_exactly f (frame_before frame) row is-tick).0
        (subst (λ i. stuck_place f (frame_before frame) i ≡ None) settled-is none))

    pub whole_run : list_all has_value after.now ≡ true → IsRun frame row after.now None
    whole_run whole = record { settled_is = settled-is; place_is = sym (none-told whole); whole = whole }

    pub other_run : (place : Option LusStuck) → place ≡ stuck_place f (frame_before frame) (frame_laid frame after.now) →
        IsRun frame row after.now place
    other_run place is = record { settled_is = settled-is; place_is = is; whole = by place is }
      where
        by : (o : Option LusStuck) → o ≡ stuck_place f (frame_before frame) (frame_laid frame after.now) →
            IfNone o (list_all has_value after.now ≡ true)
        by None none = all-there (sym none)
        by (Some at) some = tt

-- ---- Where it is stuck

pub places_told : (f : FileTree) (before : Option (List (Option ℤ))) (now : List (Option ℤ)) (instances : List Placed) → IsLawful f →
    instances ≡ instances_of f →
    stuck_place f (laid_before f before) (laid now (fresh_root f))
    ≡ place_among (least_place (flat_map (told_in failures f before now) instances)) (least_place (flat_map (told_in waiting f before now) instances))
places_told f before now instances lawful all =
    ap₂ (λ xs ys. place_among (least_place xs) (least_place ys))
    (slots_tell failures f before now lawful ∙ ap (flat_map (told_in failures f before now)) (sym all))
    (slots_tell waiting f before now lawful ∙ ap (flat_map (told_in waiting f before now)) (sym all))

module _ (f : FileTree) (before : Option (List (Option ℤ))) (now : List (Option ℤ)) (instances : List Placed) (lawful : IsLawful f)
    (all : instances ≡ instances_of f) (seen : List (Option ℤ)) (same : seen ≡ now) where
  pub place_some : (at : LusStuck) → Some at ≡ least_place (flat_map (told_in failures f before seen) instances) →
      Some at ≡ stuck_place f (laid_before f before) (laid now (fresh_root f))
  place_some at told =
      let waits = least_place (flat_map (told_in waiting f before now) instances) in
      ap (λ o. place_among o waits) (told ∙ ap (λ vs. least_place (flat_map (told_in failures f before vs) instances)) same)
      ∙ sym (places_told f before now instances lawful all)

  pub place_none : (place : Option LusStuck) (seen-again : List (Option ℤ)) → seen-again ≡ now →
      None ≡ least_place (flat_map (told_in failures f before seen) instances) →
      place ≡ least_place (flat_map (told_in waiting f before seen-again) instances) →
      place ≡ stuck_place f (laid_before f before) (laid now (fresh_root f))
  place_none place seen-again same-again none told =
      told
      ∙ ap₂ (λ o vs. place_among o (least_place (flat_map (told_in waiting f before vs) instances)))
      (none ∙ ap (λ vs. least_place (flat_map (told_in failures f before vs) instances)) same) same-again
      ∙ sym (places_told f before now instances lawful all)

-- ---- Outputs

pub outputs_laid : (f : FileTree) (values : List ℤ) → IsLawful f →
    root_outputs f (laid (map Some values) (fresh_root f)) ≡ take (last_node f).outputs (drop (last_node f).inputs values)
outputs_laid f values lawful =
    let n = last_node f in
    let v = map Some values in
    let good = (lawful-at f.nodes (last_place f) lawful.nodes (root-there f lawful)).ports in
    ap (λ i. map (λ x. unwrap_or x (pos 0)) (take n.outputs (drop n.inputs (values_in i)))) (laid-at f (last_place f) v lawful (root-there f lawful))
    ∙ ap (map (λ x. unwrap_or x (pos 0)))
    (piece n.outputs n.inputs (length n.names) 0 v good
    ∙ ap (λ k. take n.outputs (drop k v)) (omega arith)
    ∙ ap (take n.outputs) (drop-map Some n.inputs values) ∙ take-map Some n.outputs (drop n.inputs values))
    ∙ unwrapped (take n.outputs (drop n.inputs values))

-- the inputs and outputs of the last node are among the slots
pub ports_fit : (f : FileTree) → IsLawful f → (last_node f).inputs + (last_node f).outputs ≤ length (sources_of f)
ports_fit f lawful =
    let good = (lawful-at f.nodes (last_place f) lawful.nodes (root-there f lawful)).ports in
    let size = size-is f (last_place f) lawful (root-there f lawful) in
    let count = sources-count f in
    omega arith

-- ---- Ticks

module _ (frame : Frame) (file : LusFile) (old row : List ℤ) (now : List (Option ℤ)) (same-file : frame.file.now ≡ file)
    (same-before : frame.before.now ≡ old) where
  abbrev state : Option LusStuck → FlowState
  state place = record { file = file; begun = frame.begun; values = old; stuck_place = place }

  tree-same : frame_tree frame ≡ file_tree file
  tree-same = ap file_tree same-file

  tick-same : tick (frame_tree frame) (frame_before frame) row ≡ next_tick (state None) row
  tick-same =
      ap₂ (λ (x : LusFile) (xs : List ℤ). tick (file_tree x) (laid_before (file_tree x) (before_by frame.begun xs)) row) same-file same-before

  tick-is : (place : Option LusStuck) → IsRun frame row now place →
      tick (frame_tree frame) (frame_before frame) row ≡ tick_from place (frame_laid frame now)
  tick-is place run =
      ap (λ i. tick_from (stuck_place (frame_tree frame) (frame_before frame) i) i) (sym run.settled_is)
      ∙ ap (λ o. tick_from o (frame_laid frame now)) (sym run.place_is)

  pub stuck_run : (at : LusStuck) → IsRun frame row now (Some at) → next_tick (state None) row ≡ stuck at
  stuck_run at run = sym tick-same ∙ tick-is (Some at) run

  pub ticked_run : (new outputs : List ℤ) (count : ℕ) → IsRun frame row now None → IsLawful (file_tree file) → map Some new ≡ now →
      count ≡ (last_node (file_tree file)).outputs → outputs ≡ take count (drop (last_node (file_tree file)).inputs new) →
      IsTicked (state None) (record { file = file; begun = true; values = new; stuck_place = None }) row outputs
  ticked_run new outputs count run lawful kept room put =
      let f = file_tree file in
      let left : Instance = laid (map Some new) (fresh_root f) in
      let laid-same : frame_laid frame now ≡ left =
      ap₂ (λ (v : List (Option ℤ)) (x : LusFile). laid v (fresh_root (file_tree x))) (sym kept) same-file in
      record {
        left = left;
        run = sym tick-same ∙ tick-is None run ∙ ap done laid-same;
        kept = refl;
        free = refl;
        outputs_are = put ∙ ap (λ n. take n (drop (last_node f).inputs new)) room ∙ sym (outputs_laid f new lawful);
      }
