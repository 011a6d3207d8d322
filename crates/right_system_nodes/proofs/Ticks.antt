-- What the code of a system sees in a tick: what its leaves read, what its tests come to, and what its memories hold.
use Rattle.std.specs.Prelude.{◌≡◌, ℕ, zero, suc, ◌+◌, ◌-◌, ◌%◌, ◌<◌, nat_lt, Bool, true, false, if◌then◌else◌, List, [], ◌∷◌, map, length, Contains, ℤ, pos, refl}
use Rattle.std.specs.List.{AllZip, range_with_len}
use Rattle.std.proofs.Common.{sym, ap, ◌∙◌, arith, true≢false}
use Rattle.std.proofs.Math.Nat.{mod-eq_of_lt}
use Rattle.std.proofs.lemmas.Bool.Decides.{nat_tests}
use Rattle.diagram_blocks.specs.declared.op.Op.{Op}
use Rattle.diagram_blocks.specs.declared.op.Op.TheVariants.{Delay, Line}
use Rattle.diagram_blocks.specs.Meaning.{delay_length}
use Rattle.diagram_meaning.specs.SampleTimes.{hit}
use Rattle.diagram_meaning.specs.Rows.{is_triggered}
use Rattle.diagram_meaning.specs.Run.{first_of}
use Rattle.diagram_blocks.specs.Kinds.{is_delay}
use Rattle.modules_profile.specs.declared.local.LocalRow.{LocalRow}
use Rattle.modules_profile.specs.LocalSystem.{LocalSystem}
use Rattle.modules_profile.specs.LawfulLocals.{IsLocal}
use Rattle.modules_schedule.specs.SystemSchedule.{SystemSchedule}
use Rattle.c_syntax.specs.declared.code.Leaf.TheVariants.{Param, Own}
use Rattle.c_syntax.specs.Tree.{read, ParamTree}
use Rattle.c_semantics.specs.Cells.{Cells, number_at}
use Rattle.c_semantics.specs.Values.{gives, eval, Function, Reads, reads}
use Rattle.base_core.specs.Numbers.{int_at}
use Rattle.c_semantics.specs.Machine.{Scope}
use Rattle.emit_shape.specs.Delays.{is_single, is_line}
use Rattle.emit_shape.specs.Relocation.{Relocation}
use Rattle.emit_shape.specs.RowStarts.{row_start}
use Rattle.emit_shape.specs.Slots.{Slot}
use Rattle.emit_row_code.specs.RingCode.{oldest_code}
use Rattle.emit_row_code.specs.TestCode.{hit_test}
use Rattle.emit_row_code.specs.TestLaws.{TestIs, ActivityIsTested, HitsAreTested, BothAreTested}
use Rattle.emit_row_code.specs.StatementLaws.{HoldsRing, OldestIsRead}
use Rattle.right_relation.specs.Rings.{Ring, IsRing, ring_item}
use Rattle.right_relation.specs.LocalTicks.{LocalTick, IsLocalTick, IsTypedTick, is_active, row_runs}
use Rattle.right_relation.specs.Instances.{InstanceTick, Offer}
use Rattle.right_relation.specs.NodeStatements.{IsArgument, HoldsMemory}
use Rattle.right_relation.specs.Relation.{behind_offers, IsCycleOf}
use Rattle.diagram_activity.specs.Activity.{memory_number}
use Rattle.emit_system_spec.specs.Fields.{memory_field, ring_field, trigger_field, code_slots}
use Rattle.emit_system_spec.specs.Groups.{own_count}
use Rattle.emit_system_spec.specs.NodeCode.{ring_fields, memory_read, control_leaves, active_test, runs_test}
use Rattle.emit_system_spec.specs.Places.{now_leaf}
use Rattle.right_system_nodes.specs.PieceLaws.{HasParams}
use Rattle.right_system_nodes.proofs.Arguments.{now-reads, enable-reads, trigger-reads}
use Rattle.right_system_nodes.proofs.Facts.{IsSettled}
use Rattle.right_system_nodes.proofs.lemmas.SlotLists.{each-member, each-kept}
use Rattle.right_system_nodes.proofs.Moved.{seen, expr-moved, oldest-moved}
use Rattle.right_system_nodes.proofs.lemmas.SlotPlaces.{memory-at, ring_items-at, ring_place-at, ring_taken-at}
use Rattle.right_system_nodes.proofs.Tests.{number-is, AreRead, AreTests, are-tests, hit-is}

past-end : (values : List ℤ) → int_at values (length values) ≡ pos 0
past-end [] = refl
past-end (v ∷ values) = past-end values

-- a delay remembers one sample, or several
pub one-kind : (op : Op) → is_delay op ≡ true → is_line op ≡ false → is_single op ≡ true
one-kind (Delay initial) delay line = refl
one-kind (Line long start) delay line = absurd (true≢false line)
one-kind _ delay line = delay

-- the first of a ring is its oldest sample
first-range : (f : ℕ → ℤ) (n : ℕ) → 0 < n → first_of (map f (range_with_len 0 n)) ≡ f 0
first-range f zero some = absurd (omega (arith, some))
first-range f (suc n) some = refl

first-of-ring : (n : ℕ) (start : ℤ) (ring : Ring) (memory : List ℤ) → IsRing n start ring memory →
    (if nat_lt ring.taken n then start else int_at ring.items ring.place) ≡ first_of memory
first-of-ring n start ring memory is =
    let below = is.place in
    let some : 0 < n = omega (arith, below) in
    let same : nat_lt ring.taken n ≡ nat_lt 0 (n - ring.taken) = tests-alike ring.taken n in
    let first : ring.place ≡ (ring.place + 0) % n = at-start ring.place n below in
    (λ i. if same i then start else int_at ring.items (first i)) ∙ sym (first-range (ring_item n start ring) n some)
    ∙ ap first_of (sym is.holds)
  where
    tests-alike : (t n : ℕ) → nat_lt t n ≡ nat_lt 0 (n - t)
    tests-alike t n = by (nat_lt t n) (nat_lt 0 (n - t)) refl refl
      where
        by : (a b : Bool) → nat_lt t n ≡ a → nat_lt 0 (n - t) ≡ b → a ≡ b
        by true true e f = refl
        by false false e f = refl
        by true false e f = absurd (grind (arith, nat_tests))
        by false true e f = absurd (grind (arith, nat_tests))

    at-start : (k n : ℕ) → k < n → k ≡ (k + 0) % n
    at-start k n below = (let same : k ≡ k + 0 = omega arith in same)
        ∙ sym (mod-eq_of_lt (let less : k + 0 < n = omega (arith, below) in less))

module _ (local : LocalSystem) (schedule : SystemSchedule) (params : List ParamTree) (settled : IsSettled local)
    (has : HasParams local params)
    (functions : List Function) (cycle : ℕ) (is_cycle : IsCycleOf local cycle) (offers : List Offer) (m : LocalTick)
    (typed : IsTypedTick local m)
    (children : List InstanceTick) (scope : List ℤ → Scope) where
  abbrev pub slots : List Slot
  slots = code_slots local schedule

  abbrev pub away : Relocation
  away = behind_offers slots offers (own_count schedule)

  abbrev Argument : ParamTree → ℤ → Type 0
  Argument = IsArgument local slots offers children cycle m params scope

  module _ (values : List ℤ) (cells : Cells) (arguments : AllZip Argument params values) where
    abbrev pub given : Reads
    given = seen away (reads values cells)

    pub now-is : given.leaf (now_leaf params) ≡ pos (m.tick.t % cycle)
    now-is = now-reads local slots offers children cycle m params scope typed values cells arguments has.now

    -- ---- Tests

    module _ (callable : m.tick.parent ≡ true) (remembers : is_triggered local.control ≡ true →
        number_at cells (trigger_field local) ≡ memory_number m.tick.trigger) where
      are-read : AreRead local.control (control_leaves local params) m.tick.trigger m.tick.controls given
      are-read = record {
        enable = λ enabled. enable-reads local slots offers children cycle m params scope typed values cells arguments enabled
            (has.enable enabled);
        trigger = λ triggered. trigger-reads local slots offers children cycle m params scope typed values cells arguments triggered
            (has.trigger triggered);
        remembers = λ triggered. remembers triggered ∙ number-is m.tick.trigger;
        nothing = Param (length values);
        is_nothing = past-end values;
      }

      pub tests : ActivityIsTested → AreTests local.control
          (control_leaves local params) m.tick.trigger m.tick.controls functions given m.tick.parent
      tests law =
          are-tests law
          (control_leaves local params) m.tick.trigger m.tick.controls functions given m.tick.parent callable local.control are-read

      pub runs-is : ActivityIsTested → HitsAreTested → BothAreTested → (r : LocalRow) → Contains local.rows r →
          TestIs functions given 0 true (runs_test local params r) (row_runs local m r)
      runs-is activity hits both r own =
          both (active_test local params) (hit_test r.time (now_leaf params)) (is_active local m)
          (hit r.time m.tick.t) functions given 0
          (tests activity).active
          (hit-is hits r.time (now_leaf params) m.tick.t cycle functions given now-is is_cycle.some is_cycle.short
          (each-member (λ (r : LocalRow). cycle % r.time.period ≡ 0) local.rows r is_cycle.repeats own))

    -- ---- Memories

    module _ (tick : IsLocalTick local m) (r : LocalRow) (own : Contains local.rows r)
        (holds : HoldsMemory local slots offers children cycle m params scope cells r) where
      lawful : IsLocal local
      lawful = settled.sound.lawful

      pub ring-is : is_line r.op ≡ true → IsRing (delay_length r.op) (row_start local r) (m.ring r.row) (m.tick.memory r.row)
      ring-is line =
          each-kept (λ (r : LocalRow). IsRing (delay_length r.op) (row_start local r) (m.ring r.row) (m.tick.memory r.row))
          (λ (r : LocalRow). is_line r.op)
          local.rows r tick.ring_holds own line

      pub holds-ring : is_line r.op ≡ true → HoldsRing cells (ring_fields local r.row) (delay_length r.op) (m.ring r.row).place
          (m.ring r.row).taken
      holds-ring line =
          let ring = ring-is line in record {
            long = ap length (holds.array (ring_field local r.row) (ring_items-at local schedule lawful r own line)) ∙ ring.long;
            at_place = holds.place (ring_field local r.row + 1) (ring_place-at local schedule lawful r own line);
            count = holds.taken (ring_field local r.row + 2) (ring_taken-at local schedule lawful r own line);
            in_ring = ring.place;
            at_most = ring.taken;
            short = settled.sound.lengths r own;
          }

      -- what is remembered of the oldest sample
      pub memory-reads : OldestIsRead → is_delay r.op ≡ true → (count : ℕ) →
          eval functions given 0 (memory_read local r) count ≡ gives (first_of (m.tick.memory r.row)) count
      memory-reads law delay count = by (is_line r.op) refl
        where
          n : ℕ
          n = delay_length r.op

          by : (t : Bool) → is_line r.op ≡ t →
              eval functions given 0 (if t then oldest_code (ring_fields local r.row) n (row_start local r)
              else read (Own (memory_field local r.row))) count
              ≡ gives (first_of (m.tick.memory r.row)) count
          by false line =
              ap (λ v. gives v count) (holds.single (memory_field local r.row)
              (memory-at local schedule lawful r own (one-kind r.op delay line)))
          by true line =
              let f = ring_fields local r.row in
              let ring = ring-is line in
              sym (expr-moved away functions (reads values cells) 0 (oldest_code f n (row_start local r)) count)
              ∙ ap (λ e. eval functions (reads values cells) 0 e count) (oldest-moved away f n (row_start local r))
              ∙ law functions values cells f n (m.ring r.row).place (m.ring r.row).taken (row_start local r) 0 count
              (holds-ring line) (settled.starts r own)
              ∙ ap (λ v. gives v count)
              (ap (λ items. if nat_lt (m.ring r.row).taken n then row_start local r else int_at items (m.ring r.row).place)
              (holds.array (ring_field local r.row) (ring_items-at local schedule lawful r own line))
              ∙ first-of-ring n (row_start local r) (m.ring r.row) (m.tick.memory r.row) ring)
