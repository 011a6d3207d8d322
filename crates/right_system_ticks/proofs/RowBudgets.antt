-- What each row costs in a tick, with the children and the trigger, is at most eight steps.
use Rattle.std.specs.Prelude.{◌≡◌, ℕ, suc, ◌+◌, ◌*◌, ◌≤◌, ◌==◌, Bool, true, false, not, if◌then◌else◌, cond, List, [], ◌∷◌, map, filter, length, sum_by, count_by, Contains, Option, Some, refl}
use Rattle.std.proofs.Common.{sym, ap, subst, ◌∙◌, arith}
use Rattle.std.proofs.lemmas.List.{length-map}
use Rattle.std.proofs.lemmas.List.Sums.{sum_by-cons}
use Rattle.std.proofs.lemmas.Slice.Zip.{AllZip-long}
use Rattle.base_core.specs.Interface.{different}
use Rattle.diagram_blocks.specs.declared.Kind.{Kind}
use Rattle.diagram_blocks.specs.declared.Kind.TheVariants as block
use Rattle.diagram_blocks.specs.declared.Op.{Op}
use Rattle.diagram_blocks.specs.declared.Op.TheVariants as op
use Rattle.diagram_blocks.specs.Meaning.{has_value}
use Rattle.base_fixed_point.specs.declared.FixType.{FixType}
use Rattle.diagram_meaning.specs.Diagram.{Diagram, type_at}
use Rattle.diagram_meaning.specs.Needs.{TrueNeeds, IsMaskOf}
use Rattle.diagram_meaning.specs.ResolvedTree.{ResolvedTree, IsResolvedTree, diagram_of}
use Rattle.diagram_meaning.specs.Rows.{row_at, is_triggered, system_control, rows_of, subsystems_of, outports_of}
use Rattle.diagram_blocks.specs.Kinds.{is_subsystem, is_delay}
use Rattle.diagram_meaning.specs.WellFormed.{is_trigger_port}
use Rattle.modules_profile.specs.declared.local.ChildUse.{ChildUse}
use Rattle.modules_profile.specs.declared.local.LocalRow.{LocalRow}
use Rattle.modules_profile.specs.LocalSystem.{LocalSystem}
use Rattle.modules_profile.specs.SystemHeader.{SystemHeader}
use Rattle.modules_profile.specs.Functions.{IsProfileOf, function_for}
use Rattle.modules_profile.specs.Headers.{header_of, header_functions}
use Rattle.modules_profile.specs.Locals.{local_row, child_use, local_of}
use Rattle.modules_profile.specs.NodeFacts.{AreHeaders, IsLocalOf}
use Rattle.modules_profile.proofs.lemmas.Members.{in-first, in-rest}
use Rattle.emit_shape.specs.Delays.{is_line}
use Rattle.right_relation.specs.NodeCode.{value_steps, memory_steps, ring_steps}
use Rattle.right_system_ticks.proofs.SpentSteps.{value_weight}

-- the most steps of a delay's memory
abbrev pub memory_weight : LocalRow → ℕ
memory_weight r = if is_line r.op then ring_steps else memory_steps

-- what a row costs: its value, its memory, the update and the reset of a child, and the trigger
abbrev pub delay_weight : LocalRow → ℕ
delay_weight r = if is_delay r.op then memory_weight r else 0

abbrev pub child_weight : LocalRow → ℕ
child_weight r = if is_subsystem r.kind then 4 else 0

abbrev pub port_weight : LocalRow → ℕ
port_weight r = if is_trigger_port r.kind then 2 else 0

-- a value and a memory together
op-cost : (o : Op) → value_steps o + (if is_delay o then (if is_line o then ring_steps else memory_steps) else 0) ≤ 8
op-cost op.Copy = omega arith
op-cost _ = omega arith

memory-cost : (o : Op) → (if is_delay o then (if is_line o then ring_steps else memory_steps) else 0) ≤ 4
memory-cost op.Copy = omega arith
memory-cost _ = omega arith

row-cost : (k : Kind) (o : Op) →
    (if has_value k then value_steps o else 0) + (if is_delay o then (if is_line o then ring_steps else memory_steps) else 0)
    + (if is_subsystem k then 4 else 0) + (if is_trigger_port k then 2 else 0) ≤ 8
row-cost (block.SubSystem control) o = let cost = memory-cost o in omega (arith, cost)
row-cost block.Terminator o = let cost = memory-cost o in omega (arith, cost)
row-cost block.EnablePort o = let cost = memory-cost o in omega (arith, cost)
row-cost block.TriggerPort o = let cost = memory-cost o in omega (arith, cost)
row-cost _ o = let cost = op-cost o in omega (arith, cost)

pub rows-cost : (rows : List LocalRow) →
    sum_by value_weight rows + sum_by delay_weight rows + sum_by child_weight rows + sum_by port_weight rows ≤ 8 * length rows
rows-cost [] = omega arith
rows-cost (r ∷ rows) =
    let a = sum_by-cons value_weight r rows in
    let b = sum_by-cons delay_weight r rows in
    let c = sum_by-cons child_weight r rows in
    let d = sum_by-cons port_weight r rows in
    let here = row-cost r.kind r.op in
    let rest = rows-cost rows in
    omega (arith, a, b, c, d, here, rest)

-- the weights of those that are kept
pub kept-weights : {A : Type 0} (test : A → Bool) (weight : A → ℕ) (xs : List A) →
    sum_by weight (filter test xs) ≡ sum_by (λ x. if test x then weight x else 0) xs
kept-weights test weight [] = refl
kept-weights {A} test weight (x ∷ xs) =
    by (test x) (kept-weights test weight xs) ∙ sym (sum_by-cons (λ x. if test x then weight x else 0) x xs)
  where
    by : (t : Bool) → sum_by weight (filter test xs) ≡ sum_by (λ x. if test x then weight x else 0) xs →
        sum_by weight (cond t (x ∷ filter test xs) (filter test xs)) ≡ (if t then weight x else 0)
        + sum_by (λ x. if test x then weight x else 0) xs
    by true rest = let step = sum_by-cons weight x (filter test xs) in omega (arith, step, rest)
    by false rest = omega (arith, rest)

-- ---- What a system has for each row and each output of a child

-- a subsystem's row for each child, a trigger's port for a trigger, and a function only for an output
pub record IsRowed (local : LocalSystem) : Type 0 where
  pub children : 4 * length local.children ≤ sum_by child_weight local.rows
  pub trigger : (if is_triggered local.control then 2 else 0) ≤ sum_by port_weight local.rows
  pub functions : sum_by (λ (u : ChildUse). length (header_functions u.header)) local.children
      ≤ sum_by (λ (u : ChildUse). length u.header.outputs) local.children

pub filter-shorter : {A : Type 0} (test : A → Bool) (xs : List A) → length (filter test xs) ≤ length xs
filter-shorter test [] = omega arith
filter-shorter {A} test (x ∷ xs) = by (test x) (filter-shorter test xs)
  where
    by : (r : Bool) → length (filter test xs) ≤ length xs → length (cond r (x ∷ filter test xs) (filter test xs)) ≤ suc (length xs)
    by true less = omega (arith, less)
    by false less = omega (arith, less)

pub different-shorter : (xs : List ℕ) → length (different xs) ≤ length xs
different-shorter [] = omega arith
different-shorter (x ∷ xs) =
    let kept = filter-shorter (λ y. not (y == x)) (different xs) in
    let rest = different-shorter xs in
    omega (arith, kept, rest)

functions-few : (d : Diagram) (h : SystemHeader) → h ≡ header_of d h.row h.profile → IsProfileOf d h.row h.profile →
    length (header_functions h) ≤ length h.outputs
functions-few d h is profile =
    let functions = ap length profile.functions ∙ length-map (different profile.needs) (function_for profile.needs) in
    let fewer = different-shorter profile.needs in
    let needs = AllZip-long (λ o mask. IsMaskOf (TrueNeeds d h.row o) mask) (outports_of d.rows h.row) profile.needs profile.are_needs in
    let outputs = ap (λ (g : SystemHeader). length g.outputs) is
    ∙ length-map {B = ℕ × FixType} (outports_of d.rows h.row) (λ o. (o, type_at d.types o)) in
    omega (arith, functions, fewer, needs, outputs)

sums-few : (d : Diagram) (headers : List SystemHeader) →
    ((h : SystemHeader) → Contains headers h → length (header_functions h) ≤ length h.outputs) →
    sum_by (λ (u : ChildUse). length (header_functions u.header)) (map (child_use d) headers)
    ≤ sum_by (λ (u : ChildUse). length u.header.outputs) (map (child_use d) headers)
sums-few d [] few = omega arith
sums-few d (h ∷ headers) few =
    let here = few h (in-first h headers) in
    let rest = sums-few d headers (λ g m. few g (in-rest h g headers m)) in
    let functions = sum_by-cons (λ (u : ChildUse). length (header_functions u.header)) (child_use d h) (map (child_use d) headers) in
    let outputs = sum_by-cons (λ (u : ChildUse). length u.header.outputs) (child_use d h) (map (child_use d) headers) in
    omega (arith, here, rest, functions, outputs)

-- so much for each of the rows of a kind
four-each : (d : Diagram) (delays : List Bool) (test : Kind → Bool) (bs : List ℕ) →
    sum_by (λ (r : LocalRow). if test r.kind then 4 else 0) (map (local_row d delays) bs) ≡ 4 * count_by (λ b. test (row_at d.rows b).kind)
    bs
four-each d delays test [] = omega arith
four-each d delays test (b ∷ bs) =
    let a = sum_by-cons (λ (r : LocalRow). if test r.kind then 4 else 0) (local_row d delays b) (map (local_row d delays) bs) in
    let c = sum_by-cons (λ b. cond (test (row_at d.rows b).kind) 1 0) b bs in
    let rest = four-each d delays test bs in
    let here = by (test (row_at d.rows b).kind) in
    omega (arith, a, c, rest, here)
  where
    by : (t : Bool) → (if t then 4 else 0) ≡ 4 * cond t 1 0
    by true = omega arith
    by false = omega arith

two-each : (d : Diagram) (delays : List Bool) (test : Kind → Bool) (bs : List ℕ) →
    sum_by (λ (r : LocalRow). if test r.kind then 2 else 0) (map (local_row d delays) bs) ≡ 2 * count_by (λ b. test (row_at d.rows b).kind)
    bs
two-each d delays test [] = omega arith
two-each d delays test (b ∷ bs) =
    let a = sum_by-cons (λ (r : LocalRow). if test r.kind then 2 else 0) (local_row d delays b) (map (local_row d delays) bs) in
    let c = sum_by-cons (λ b. cond (test (row_at d.rows b).kind) 1 0) b bs in
    let rest = two-each d delays test bs in
    let here = by (test (row_at d.rows b).kind) in
    omega (arith, a, c, rest, here)
  where
    by : (t : Bool) → (if t then 2 else 0) ≡ 2 * cond t 1 0
    by true = omega arith
    by false = omega arith

count-kept : {A : Type 0} (test : A → Bool) (xs : List A) → length (filter test xs) ≡ count_by test xs
count-kept test [] = refl
count-kept {A} test (x ∷ xs) = by (test x) (count-kept test xs) ∙ sym (sum_by-cons (λ x. cond (test x) 1 0) x xs)
  where
    by : (t : Bool) → length (filter test xs) ≡ count_by test xs →
        length (cond t (x ∷ filter test xs) (filter test xs)) ≡ cond t 1 0 + count_by test xs
    by true e = omega (arith, e)
    by false e = omega (arith, e)

pub is-rowed : (r : ResolvedTree) (local : LocalSystem) → IsResolvedTree r → IsLocalOf r local.row local → IsRowed local
is-rowed r local resolved is = subst IsRowed (sym is.is_local) (by local.row is.headers is.are_headers)
  where
    by : (s : Option ℕ) (headers : List SystemHeader) → AreHeaders (diagram_of r) s headers →
        IsRowed (local_of (diagram_of r) r.times.delays s headers)
    by s headers are =
        let rows = r.tree.table.rows in
        record {
          children =
              let made = length-map headers (child_use (diagram_of r)) in
              let numbered = sym (length-map headers (λ (h : SystemHeader). h.row)) ∙ ap length are.rows
              ∙ length-map (subsystems_of rows s) Some in
              let kept = count-kept (λ b. is_subsystem (row_at rows b).kind) (rows_of rows s) in
              let weights = four-each (diagram_of r) r.times.delays is_subsystem (rows_of rows s) in
              omega (arith, made, numbered, kept, weights);
          trigger =
              let ports = (resolved.tree.table.controls s).triggers in
              let weights = two-each (diagram_of r) r.times.delays is_trigger_port (rows_of rows s) in
              twice (is_triggered (system_control rows s)) (count_by (λ b. is_trigger_port (row_at rows b).kind) (rows_of rows s))
              (sum_by port_weight (map (local_row (diagram_of r) r.times.delays) (rows_of rows s))) ports weights;
          functions = sums-few (diagram_of r) headers (λ h m. functions-few (diagram_of r) h (are.each h m).0 (are.each h m).1);
        }
      where
        twice : (t : Bool) (n all : ℕ) → n ≡ (if t then 1 else 0) → all ≡ 2 * n → (if t then 2 else 0) ≤ all
        twice true n all e w = omega (arith, e, w)
        twice false n all e w = omega arith
