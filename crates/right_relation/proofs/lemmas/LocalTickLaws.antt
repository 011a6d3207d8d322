-- Each tick of a run is a tick for the own rows of each system inside.
use Rattle.std.specs.Prelude.{◌≡◌, ℕ, zero, suc, ◌-◌, ◌<◌, Bool, true, false, not, ◌&&◌, ◌||◌, if◌then◌else◌, List, [], ◌∷◌, map, length, replicate, Option, ℤ, pos}
use Rattle.std.proofs.Common.{refl, sym, ◌∙◌, ap, ap₂, subst, arith, true≢false}
use Rattle.diagram_blocks.specs.declared.Op.{Op}
use Rattle.diagram_blocks.specs.declared.Op.TheVariants.{Delay, Line}
use Rattle.diagram_blocks.specs.Value.{rhs, input}
use Rattle.diagram_blocks.specs.Meaning.{has_value, delay_length}
use Rattle.diagram_meaning.specs.Rows.{row_at, system_control}
use Rattle.diagram_blocks.specs.Kinds.{is_inport, port_of, is_delay, is_reset_outport}
use Rattle.diagram_meaning.specs.Diagram.{Diagram, op_at, type_at}
use Rattle.diagram_meaning.specs.Laws.{Run, IsRunOver}
use Rattle.diagram_meaning.specs.RunLaws.{IsSystemWithin}
use Rattle.diagram_meaning.specs.ResolvedTree.{ResolvedTree, IsResolvedTree, diagram_of}
use Rattle.diagram_meaning.specs.Run.{start_by, start_of, initial_memory, first_of, moved_on}
use Rattle.base_core.specs.Numbers.{int_at}
use Rattle.diagram_meaning.specs.SystemRuns.{SystemTick, IsRowOf, IsSystemRun, system_tick, own_inputs, own_runs, own_value, own_memory, system_is_off, system_is_disabled}
use Rattle.diagram_meaning.proofs.lemmas.SystemRuns.{runs_are_of_systems}
use Rattle.modules_profile.specs.declared.LocalRow.{LocalRow}
use Rattle.modules_profile.specs.LocalSystem.{LocalSystem}
use Rattle.modules_profile.specs.SystemHeader.{SystemHeader}
use Rattle.modules_profile.specs.Locals.{local_row, local_of}
use Rattle.emit_shape.specs.Delays.{is_line}
use Rattle.right_relation.specs.Rings.{Ring, IsRing, begun_ring, emptied_ring, moved_ring}
use Rattle.emit_shape.specs.RowStarts.{row_start}
use Rattle.right_relation.specs.LocalTicks.{LocalTick, IsLocalTick, row_inputs, row_runs, value_of, memory_of, ring_of}
use Rattle.right_relation.specs.RunTicks.{Untouched, next_ring, ring_at, tick_at}
use Rattle.right_relation.specs.RunTickLaws.{AreItems, TicksAreLocal}
use Rattle.right_relation.proofs.Lists.{each-row, each-kept}
use Rattle.right_relation.proofs.lemmas.RingLaws.{begun_is_ring, emptied_is_ring, moved_is_ring}
use Rattle.right_relation.proofs.DelayLengths.{delays-are-some}

-- an Inport has no wires of its own system
inport-aside : (value : ℕ → ℤ) (q : Bool) (first : List ℤ) (wires : List ℕ) →
    (if q then first else map value (if q then [] else wires)) ≡ (if q then first else map value wires)
inport-aside value true first wires = refl
inport-aside value false first wires = refl

module _ (d : Diagram) (delays : List Bool) (n : Option ℕ) (headers : List SystemHeader) (m : LocalTick) where
  abbrev local : LocalSystem
  local = local_of d delays n headers

  abbrev row : ℕ → LocalRow
  row b = local_row d delays b

  pub inputs-are : (b : ℕ) → own_inputs d n m.tick b ≡ row_inputs local m (row b)
  inputs-are b =
      sym (inport-aside m.tick.value (is_inport (row_at d.rows b).kind)
      (int_at m.tick.inputs (port_of (row_at d.rows b).kind - 1) ∷ []) (row_at d.rows b).inputs)

  pub start-is : (b : ℕ) → IsRowOf d.rows n b → start_of d b ≡ row_start local (row b)
  start-is b own = ap (λ o. start_by (op_at d b) (row_at d.rows b).kind (system_control d.rows o) (type_at d.types b)) own.own

  value-is : (b : ℕ) → IsRowOf d.rows n b → own_value d n m.tick b ≡ value_of local m (row b)
  value-is b own =
      ap₂ (λ start ins.
      if not (has_value (row_at d.rows b).kind) then pos 0
      else (if is_reset_outport (row_at d.rows b).kind && system_is_disabled d n m.tick then start
      else (if own_runs d n m.tick b then rhs (op_at d b) ins (first_of (m.tick.memory b))
      else m.tick.before b))) (start-is b own) (inputs-are b)

  memory-is : (b : ℕ) → IsRowOf d.rows n b → own_memory d n m.tick b ≡ memory_of local m (row b)
  memory-is b own =
      ap₂ (λ start ins.
      if m.tick.is_off_around || system_is_off d n m.tick then replicate (delay_length (op_at d b)) start
      else (if own_runs d n m.tick b then moved_on (m.tick.memory b) (input ins 0)
      else m.tick.memory b)) (start-is b own) (inputs-are b)

  ring-is : (b : ℕ) → next_ring d n m.tick b (m.ring b) ≡
      (if m.tick.is_off_around || system_is_off d n m.tick then emptied_ring (m.ring b)
      else (if row_runs local m (row b) then moved_ring (delay_length (op_at d b)) (m.ring b) (input (row_inputs local m (row b)) 0)
      else m.ring b))
  ring-is b =
      ap (λ ins.
      if m.tick.is_off_around || system_is_off d n m.tick then emptied_ring (m.ring b)
      else (if own_runs d n m.tick b then moved_ring (delay_length (op_at d b)) (m.ring b) (input ins 0)
      else m.ring b)) (inputs-are b)

-- a delay of several samples is a delay
pub line-is_delay : (op : Op) → is_line op ≡ true → is_delay op ≡ true
line-is_delay (Delay initial) h = refl
line-is_delay (Line long start) h = refl
line-is_delay _ h = absurd (true≢false (sym h))

module _ (r : ResolvedTree) (s n : Option ℕ) (xs : List (List ℤ)) (run : Run) (untouched : Untouched) (resolved : IsResolvedTree r)
    (within : IsSystemWithin (diagram_of r).rows s n) (is : IsRunOver (diagram_of r) s xs run)
    (filled : AreItems (diagram_of r) untouched.items) where
  abbrev d : Diagram
  d = diagram_of r

  abbrev at : ℕ → SystemTick
  at t = system_tick d s xs run n t

  is_run : IsSystemRun d n (length xs) at
  is_run = runs_are_of_systems r s n xs run resolved within is

  -- a ring holds what its delay remembers
  step : (b t : ℕ) → IsRowOf d.rows n b → is_delay (op_at d b) ≡ true → t < length xs →
      IsRing (delay_length (op_at d b)) (start_of d b) (ring_at d s xs run n untouched t b) ((at t).memory b) →
      IsRing (delay_length (op_at d b)) (start_of d b) (ring_at d s xs run n untouched (suc t) b) ((at t).memory_after b)
  step b t own delay below so_far =
      subst (IsRing (delay_length (op_at d b)) (start_of d b) (ring_at d s xs run n untouched (suc t) b))
      (sym ((is_run.each t below).memories b own delay))
      (by ((at t).is_off_around || system_is_off d n (at t)) (own_runs d n (at t) b))
    where
      ring : Ring
      ring = ring_at d s xs run n untouched t b

      taken : ℤ
      taken = input (own_inputs d n (at t) b) 0

      by : (off moves : Bool) →
          IsRing (delay_length (op_at d b)) (start_of d b) (if off then emptied_ring ring
          else (if moves then moved_ring (delay_length (op_at d b)) ring taken else ring))
          (if off then initial_memory d b else (if moves then moved_on ((at t).memory b) taken else (at t).memory b))
      by true moves = emptied_is_ring (delay_length (op_at d b)) (start_of d b) ring ((at t).memory b) so_far
      by false true = moved_is_ring (delay_length (op_at d b)) (start_of d b) taken ring ((at t).memory b) so_far
      by false false = so_far

  holds : (b t : ℕ) → IsRowOf d.rows n b → is_delay (op_at d b) ≡ true → t < length xs →
      IsRing (delay_length (op_at d b)) (start_of d b) (ring_at d s xs run n untouched t b) ((at t).memory b)
  holds b zero own delay below =
      subst (IsRing (delay_length (op_at d b)) (start_of d b) (begun_ring (untouched.items b))) (sym (is_run.first.memories b own delay))
      (begun_is_ring (delay_length (op_at d b)) (start_of d b) (untouched.items b) (delays-are-some r b resolved own.in_table delay).0 (filled b))
  holds b (suc t) own delay below = step b t own delay (omega arith) (holds b t own delay (omega arith))

pub ticks_are_local : TicksAreLocal
ticks_are_local r s n local xs run untouched t resolved within is_local is filled below =
    let d = diagram_of r in
    let m = tick_at d s xs run n untouched t in
    let tick = (is_run r s n xs run untouched resolved within is filled).each t below in
    let delays = r.times.delays in
    let headers = is_local.headers in
    subst (λ (l : LocalSystem). IsLocalTick l m) (sym is_local.is_local) (record {
      values = each-row (λ q. m.tick.value q.row ≡ value_of (local_of d delays n headers) m q) (local_row d delays) d.rows n
          (λ b own. tick.values b own ∙ value-is d delays n headers m b own);
      memories =
          each-kept (λ q. m.tick.memory_after q.row ≡ memory_of (local_of d delays n headers) m q) (λ q. is_delay q.op)
          (local_of d delays n headers).rows
          (each-row (λ q. is_delay q.op ≡ true →
          m.tick.memory_after q.row ≡ memory_of (local_of d delays n headers) m q) (local_row d delays) d.rows n
          (λ b own delay. tick.memories b own delay ∙ memory-is d delays n headers m b own));
      lengths = each-kept (λ q. length (m.tick.memory q.row) ≡ delay_length q.op) (λ q. is_delay q.op) (local_of d delays n headers).rows
          (each-row (λ q. is_delay q.op ≡ true → length (m.tick.memory q.row) ≡ delay_length q.op)
          (local_row d delays) d.rows n tick.lengths);
      ring_holds =
          each-kept (λ q. IsRing (delay_length q.op) (row_start (local_of d delays n headers) q) (m.ring q.row)
          (m.tick.memory q.row)) (λ q. is_line q.op) (local_of d delays n headers).rows
          (each-row (λ q. is_line q.op ≡ true →
          IsRing (delay_length q.op) (row_start (local_of d delays n headers) q) (m.ring q.row)
          (m.tick.memory q.row)) (local_row d delays) d.rows n
          (λ b own line. subst (λ start. IsRing (delay_length (op_at d b)) start (m.ring b) (m.tick.memory b))
          (start-is d delays n headers m b own)
          (holds r s n xs run untouched resolved within is filled b t own (line-is_delay (op_at d b) line) below)));
      rings = each-kept (λ q. m.ring_after q.row ≡ ring_of (local_of d delays n headers) m q) (λ q. is_line q.op)
          (local_of d delays n headers).rows
          (each-row (λ q. is_line q.op ≡ true → m.ring_after q.row ≡ ring_of (local_of d delays n headers) m q)
          (local_row d delays) d.rows n
          (λ b own line. ring-is d delays n headers m b));
      trigger = λ h. tick.trigger h;
      at_rest = λ h. tick.at_rest h;
    })
