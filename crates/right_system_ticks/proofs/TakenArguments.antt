-- What functions and the update are called with are arguments for their parameters.
use Rattle.std.specs.Prelude.{◌≡◌, ℕ, suc, ◌+◌, ◌%◌, ◌^◌, ◌<◌, ◌≤◌, Bool, true, false, cond, ◌&&◌, List, [], ◌∷◌, ◌++◌, map, filter, zip, length, slice_get, Contains, Option, Some, None, ℤ, pos, int_le, ◌≤ℤ◌, refl}
use Rattle.std.specs.List.{AllZip, range_with_len}
use Rattle.std.proofs.Common.{sym, ap, subst, ◌∙◌, arith, inl, inr, true≢false}
use Rattle.std.proofs.lemmas.Bool.{and_from}
use Rattle.std.proofs.lemmas.Int.{ints}
use Rattle.std.proofs.lemmas.List.{length-append, length-map}
use Rattle.std.proofs.lemmas.List.FromFn.{length-range_with_len}
use Rattle.std.proofs.lemmas.Option.{get_or_from_slice_get, same_Some, none-some}
use Rattle.base_core.specs.declared.Control.{Control}
use Rattle.base_core.specs.declared.Control.TheVariants.{Plain, Enabled, Triggered, Both}
use Rattle.base_core.specs.declared.base.Port.{Port}
use Rattle.base_core.specs.declared.base.Port.TheVariants.{Number}
use Rattle.base_fixed_point.specs.declared.FixType.{FixType}
use Rattle.base_fixed_point.specs.Conversion.{InType}
use Rattle.diagram_blocks.specs.declared.Kind.{Kind}
use Rattle.diagram_blocks.specs.declared.Kind.TheVariants.{SubSystem}
use Rattle.diagram_meaning.specs.Diagram.{Diagram, type_at}
use Rattle.diagram_meaning.specs.Inputs.{control_wires_of}
use Rattle.diagram_meaning.specs.ResolvedTree.{diagram_of}
use Rattle.diagram_meaning.specs.Rows.{row_at, row_numbers, is_inside, control_at, system_control}
use Rattle.diagram_blocks.specs.Kinds.{is_subsystem, control_of}
use Rattle.diagram_meaning.specs.WellFormed.{IsWired, wires_wanted}
use Rattle.modules_profile.specs.declared.local.LocalRow.{LocalRow}
use Rattle.modules_profile.specs.declared.profile.Function.{Function}
use Rattle.modules_profile.specs.LocalSystem.{LocalSystem}
use Rattle.modules_profile.specs.SystemProfile.{SystemProfile}
use Rattle.modules_profile.specs.Headers.{ports_of_header, header_function, taken_by_function}
use Rattle.modules_profile.specs.Locals.{inports, bare_header, own_header}
use Rattle.base_core.specs.Ports.{control_ports, has_bit, bit_of}
use Rattle.modules_profile.specs.Systems.{systems, systems_inside}
use Rattle.modules_profile.proofs.lemmas.Members.{in-cases, of-map, of-filter, of-range}
use Rattle.modules_schedule.specs.SystemSchedule.{SystemSchedule}
use Rattle.c_syntax.specs.declared.code.CType.TheVariants.{I32}
use Rattle.c_semantics.specs.Values.{is_in_type, least_of, greatest_of}
use Rattle.emit_shape.specs.Heads.{now_param, input_params}
use Rattle.emit_shape.specs.Names.{container, port_name}
use Rattle.right_relation.specs.LocalTicks.{LocalTick, IsTypedTick}
use Rattle.right_relation.specs.NodeStatements.{now, input}
use Rattle.right_relation.specs.Relation.{IsCycleOf}
use Rattle.right_relation.proofs.lemmas.Containers.{container-has}
use Rattle.emit_system_spec.specs.Emitted.{IsEmitted}
use Rattle.right_system_ticks.specs.PlaceLaws.{IsTypedArgument, ArgumentsAreTaken}
use Rattle.right_system_ticks.proofs.NodePlaces.{zip-append}
use Rattle.right_system_ticks.proofs.Tests.{both-true}

-- ---- Controls

-- a system has a type for each control
abbrev pub ControlsHaveTypes : Type 0
ControlsHaveTypes = (local : LocalSystem) (profile : SystemProfile) (schedule : SystemSchedule) → IsEmitted local profile schedule →
    length (control_ports local.control) ≡ length local.controls

subsystem-kind : (kind : Kind) → is_subsystem kind ≡ true → kind ≡ SubSystem (control_of kind)
subsystem-kind (SubSystem control) h = refl
subsystem-kind _ h = absurd (true≢false (sym h))

ports-wanted : (control : Control) (o : Option ℕ) → wires_wanted (SubSystem control) o ≡ length (control_ports control)
ports-wanted Plain o = refl
ports-wanted (Enabled reset) o = refl
ports-wanted (Triggered edge) o = refl
ports-wanted (Both reset edge) o = refl

controls-counted : (d : Diagram) → IsWired d.rows → (s : Option ℕ) → Contains (systems d.rows) s →
    length (control_ports (system_control d.rows s)) ≡ length (map (type_at d.types) (control_wires_of d.rows s))
controls-counted d wired None h = refl
controls-counted d wired (Some e) h = elim (in-cases None (Some e) (map Some (systems_inside d.rows None)) h) [
  | inl same ↦ absurd (none-some e same)
  | inr more ↦
      let m = of-map Some (systems_inside d.rows None) (Some e) more in
      subst (λ b. length (control_ports (control_at d.rows b)) ≡ length (map (type_at d.types) (row_at d.rows b).inputs))
      (same_Some m.0 e m.2)
      (counted m.0 (of-filter (λ b. is_subsystem (row_at d.rows b).kind && is_inside d.rows None b) (row_numbers d.rows) m.0 m.1))
]
  where
    counted : (b : ℕ) → Contains (row_numbers d.rows) b × ((is_subsystem (row_at d.rows b).kind && is_inside d.rows None b) ≡ true) →
        length (control_ports (control_at d.rows b)) ≡ length (map (type_at d.types) (row_at d.rows b).inputs)
    counted b (among, is) =
        let below = (of-range 0 (length d.rows) b among).1 in
        let kind = subsystem-kind (row_at d.rows b).kind (both-true (is_subsystem (row_at d.rows b).kind) (is_inside d.rows None b) is).0 in
        sym (length-map (row_at d.rows b).inputs (type_at d.types) ∙ wired.counts b (omega (arith, below))
        ∙ ap (λ k. wires_wanted k (row_at d.rows b).owner) kind ∙ ports-wanted (control_at d.rows b) (row_at d.rows b).owner)

pub controls_have_types : ControlsHaveTypes
controls_have_types local profile schedule emitted =
    let is = emitted.is_local.is_local in
    ap (λ (l : LocalSystem). length (control_ports l.control)) is
    ∙ controls-counted (diagram_of emitted.resolved) emitted.is_resolved.tree.table.wired local.row emitted.is_system
    ∙ sym (ap (λ (l : LocalSystem). length l.controls) is)

-- ---- Numbers and lists

int-le : (a b : ℤ) → a ≤ℤ b → int_le a b ≡ true
int-le a b h = by (int_le a b) refl
  where
    by : (t : Bool) → int_le a b ≡ t → t ≡ true
    by true e = refl
    by false e = absurd (omega (arith, ints, h, e))

tick-fits : (t cycle : ℕ) → 0 < cycle → cycle ≤ 2 ^ 30 → is_in_type I32 (pos (t % cycle)) ≡ true
tick-fits t cycle some short =
    let below : t % cycle < cycle = omega (arith, some) in
    and_from _ _ (int-le (least_of I32) (pos (t % cycle)) (omega (arith, ints)))
    (int-le (pos (t % cycle)) (greatest_of I32) (omega (arith, ints, below, short)))

-- what a function takes of two lists side by side
taken-zip : {A B : Type 0} (R : A → B → Type 0) (f : Function) (ports : List Port) (xs : List A) (ys : List B) → AllZip R xs ys →
    AllZip R (taken_by_function f ports xs) (taken_by_function f ports ys)
taken-zip R f [] xs ys all = tt
taken-zip R f (p ∷ ports) [] [] all = tt
taken-zip R f (p ∷ ports) [] (y ∷ ys) all = absurd all
taken-zip R f (p ∷ ports) (x ∷ xs) [] all = absurd all
taken-zip {A} {B} R f (p ∷ ports) (x ∷ xs) (y ∷ ys) all = by (has_bit f.inputs (bit_of p)) (taken-zip R f ports xs ys all.1)
  where
    by : (t : Bool) → AllZip R (taken_by_function f ports xs) (taken_by_function f ports ys) →
        AllZip R (map (λ (e : Port × A). e.1) (cond t ((p, x) ∷ filter (λ (e : Port × A). has_bit f.inputs (bit_of e.0)) (zip ports xs))
        (filter (λ (e : Port × A). has_bit f.inputs (bit_of e.0)) (zip ports xs))))
        (map (λ (e : Port × B). e.1) (cond t ((p, y) ∷ filter (λ (e : Port × B). has_bit f.inputs (bit_of e.0)) (zip ports ys))
        (filter (λ (e : Port × B). has_bit f.inputs (bit_of e.0)) (zip ports ys))))
    by true rest = (all.0, rest)
    by false rest = rest

zip-mapped : {A B C : Type 0} (R : B → C → Type 0) (f : A → B) (xs : List A) (ys : List C) → AllZip (λ x y. R (f x) y) xs ys →
    AllZip R (map f xs) ys
zip-mapped R f [] [] h = tt
zip-mapped R f [] (y ∷ ys) h = absurd h
zip-mapped R f (x ∷ xs) [] h = absurd h
zip-mapped R f (x ∷ xs) (y ∷ ys) h = (h.0, zip-mapped R f xs ys h.1)

module _ (local : LocalSystem) (profile : SystemProfile) (cycle : ℕ) (m : LocalTick) (is_cycle : IsCycleOf local cycle)
    (typed : IsTypedTick local m)
    (long : length (control_ports local.control) ≡ length local.controls) where
  abbrev values : List ℤ
  values = m.tick.inputs ++ m.tick.controls

  abbrev all_ports : List Port
  all_ports = ports_of_header (bare_header local)

  ports-typed : (ports : List Port) (types : List FixType) (vs : List ℤ) (a : ℕ) → length ports ≡ length types → AllZip InType types vs →
      ((k : ℕ) (i : Port) → slice_get ports k ≡ Some i → slice_get all_ports (a + k) ≡ Some i) →
      ((k : ℕ) (v : ℤ) → slice_get vs k ≡ Some v → slice_get values (a + k) ≡ Some v) →
      AllZip (IsTypedArgument local cycle m)
      (map (λ (e : Port × FixType). record { name = port_name local.control e.0; type = container e.1 }) (zip ports types)) vs
  ports-typed [] [] [] a same all there stand = tt
  ports-typed [] [] (v ∷ vs) a same all there stand = absurd all
  ports-typed [] (t ∷ types) vs a same all there stand = absurd (omega (arith, same))
  ports-typed (i ∷ ports) [] vs a same all there stand = absurd (omega (arith, same))
  ports-typed (i ∷ ports) (t ∷ types) [] a same all there stand = absurd all
  ports-typed (i ∷ ports) (t ∷ types) (v ∷ vs) a same all there stand = (
    record {
      in_type = container-has t v all.0;
      is_argument = λ slots offers children params scope.
          input (a + 0) i (there 0 i refl) refl (sym (get_or_from_slice_get values (a + 0) v (pos 0) (stand 0 v refl)));
    },
    ports-typed ports types vs (a + 1) (omega (arith, same)) all.1
        (λ k p at. subst (λ n. slice_get all_ports n ≡ Some p) (omega arith) (there (suc k) p at))
        (λ k w at. subst (λ n. slice_get values n ≡ Some w) (omega arith) (stand (suc k) w at)),
  )

  inputs-typed : AllZip (IsTypedArgument local cycle m) (input_params (own_header local profile)) values
  inputs-typed =
      ports-typed all_ports (map (λ (r : LocalRow). r.out) (inports local) ++ local.controls) values 0
      (let a = length-append (map Number (range_with_len 1 (length (map (λ (r : LocalRow). r.out) (inports local)))))
      (control_ports local.control) in
      let b = length-map (range_with_len 1 (length (map (λ (r : LocalRow). r.out) (inports local)))) Number in
      let c = length-range_with_len 1 (length (map (λ (r : LocalRow). r.out) (inports local))) in
      let d = length-append (map (λ (r : LocalRow). r.out) (inports local)) local.controls in
      omega (arith, a, b, c, d, long))
      (zip-append InType (map (λ (r : LocalRow). r.out) (inports local)) m.tick.inputs local.controls m.tick.controls
      (zip-mapped InType (λ (r : LocalRow). r.out) (inports local) m.tick.inputs typed.inputs) typed.controls)
      (λ k i at. subst (λ n. slice_get all_ports n ≡ Some i) (let e : k ≡ 0 + k = omega arith in e) at)
      (λ k v at. subst (λ n. slice_get values n ≡ Some v) (let e : k ≡ 0 + k = omega arith in e) at)

  now-typed : IsTypedArgument local cycle m now_param (pos (m.tick.t % cycle))
  now-typed = record {
    in_type = tick-fits m.tick.t cycle is_cycle.some is_cycle.short;
    is_argument = λ slots offers children params scope. now refl refl;
  }

pub arguments_are_taken : ArgumentsAreTaken
arguments_are_taken local profile schedule cycle m emitted is_cycle tick typed =
    let long = controls_have_types local profile schedule emitted in
    let first = now-typed local profile cycle m is_cycle typed long in
    let all = inputs-typed local profile cycle m is_cycle typed long in
    record {
      outs = λ j some most. (
        first,
        taken-zip (IsTypedArgument local cycle m) (header_function (own_header local profile) j)
            (ports_of_header (own_header local profile))
            (input_params (own_header local profile)) (m.tick.inputs ++ m.tick.controls) all,
      );
      update = (first, all);
    }
