-- The parameters of a function have different names, and each is found by its own.
use Rattle.std.specs.Prelude.{◌≡◌, ◌⊎◌, ℕ, zero, suc, ◌+◌, ◌<◌, ◌≤◌, Bool, true, false, List, [], ◌∷◌, ◌++◌, map, filter, zip, length, slice_get, Contains, Some, None, unwrap_or, codes, decimal, bytes_eq, refl}
use Rattle.std.specs.List.{position_from, range_with_len}
use Rattle.std.proofs.Common.{sym, ap, ◌∙◌, arith, inl, inr}
use Rattle.std.proofs.lemmas.Fmt.{decimal_injective}
use Rattle.std.proofs.lemmas.List.{append_cancel_left}
use Rattle.std.proofs.lemmas.Option.{same_Some, none-some}
use Rattle.std.proofs.lemmas.Slice.Eq.{bytes_eq-Decides}
use Rattle.base_core.specs.declared.Control.{Control}
use Rattle.base_core.specs.declared.Control.TheVariants.{Plain, Enabled, Triggered, Both}
use Rattle.base_core.specs.declared.Port.{Port}
use Rattle.base_core.specs.declared.Port.TheVariants.{Number, Enable, Trigger}
use Rattle.modules_profile.specs.SystemHeader.{SystemHeader}
use Rattle.modules_profile.specs.Headers.{ports_of_header, header_function, taken}
use Rattle.base_core.specs.Ports.{control_ports, has_bit, bit_of}
use Rattle.modules_profile.proofs.lemmas.Members.{in-cases, in-at, of-map, of-filter, map-at, range-at, at-append, of-zip}
use Rattle.c_syntax.specs.declared.code.Leaf.TheVariants.{Param}
use Rattle.c_syntax.specs.Tree.{ParamTree}
use Rattle.emit_shape.specs.Heads.{now_param, input_params, out_head}
use Rattle.emit_shape.specs.Names.{now_name, input_name, port_name}
use Rattle.emit_system_spec.specs.Heads.{port_types, port_param}
use Rattle.emit_system_spec.specs.Places.{param_leaf}
use Rattle.right_system_ticks.proofs.Tests.{first-place, true-false}

-- ---- Names

-- texts that differ somewhere are not one
apart : (a b : List ℕ) → bytes_eq a b ≡ false → a ≡ b → ⊥
apart a b differ same = true-false (bytes_eq a b) ((bytes_eq-Decides a b).1 same) differ

number-control : (control : Control) (k : ℕ) (p : Port) → ((i : ℕ) → Number i ≡ p → ⊥) → bytes_eq (input_name k) (port_name control p)
    ≡ false
number-control control k (Number i) none = absurd (none i refl)
number-control control k Enable none = refl
number-control Plain k Trigger none = refl
number-control (Enabled reset) k Trigger none = refl
number-control (Triggered edge) k Trigger none = refl
number-control (Both reset edge) k Trigger none = refl

now-port : (control : Control) (p : Port) → bytes_eq now_name (port_name control p) ≡ false
now-port control (Number k) = refl
now-port control Enable = refl
now-port Plain Trigger = refl
now-port (Enabled reset) Trigger = refl
now-port (Triggered edge) Trigger = refl
now-port (Both reset edge) Trigger = refl

-- ---- Ports

only : (x : Port) (a : ℕ) (p : Port) → slice_get (x ∷ []) a ≡ Some p → (a ≡ 0) × (x ≡ p)
only x zero p at = (refl, same_Some x p at)
only x (suc a) p at = absurd (none-some p at)

of-two : (x y : Port) (a : ℕ) (p : Port) → slice_get (x ∷ y ∷ []) a ≡ Some p → ((a ≡ 0) × (x ≡ p)) ⊎ ((a ≡ 1) × (y ≡ p))
of-two x y zero p at = inl (refl, same_Some x p at)
of-two x y (suc a) p at = let one = only y a p at in inr (ap suc one.0, one.1)

-- a port of a control is no number
control-number : (control : Control) (a : ℕ) (p : Port) → slice_get (control_ports control) a ≡ Some p → (i : ℕ) → Number i ≡ p → ⊥
control-number Plain a p at i is = absurd (none-some p at)
control-number (Enabled reset) a p at i is = let one = (only Enable a p at).1 in cc
control-number (Triggered edge) a p at i is = let one = (only Trigger a p at).1 in cc
control-number (Both reset edge) a p at i is = elim (of-two Enable Trigger a p at) [
  | inl (at, one) ↦ cc
  | inr (at, one) ↦ cc
]

controls-apart : (control : Control) (a b : ℕ) (p q : Port) → slice_get (control_ports control) a ≡ Some p →
    slice_get (control_ports control) b ≡ Some q → port_name control p ≡ port_name control q → a ≡ b
controls-apart Plain a b p q at to same = absurd (none-some p at)
controls-apart (Enabled reset) a b p q at to same = (only Enable a p at).0 ∙ sym (only Enable b q to).0
controls-apart (Triggered edge) a b p q at to same = (only Trigger a p at).0 ∙ sym (only Trigger b q to).0
controls-apart (Both reset edge) a b p q at to same = by (of-two Enable Trigger a p at) (of-two Enable Trigger b q to)
  where
    by : ((a ≡ 0) × (Enable ≡ p)) ⊎ ((a ≡ 1) × (Trigger ≡ p)) → ((b ≡ 0) × (Enable ≡ q)) ⊎ ((b ≡ 1) × (Trigger ≡ q)) → a ≡ b
    by (inl (zero_a, enable)) (inl (zero_b, also)) = zero_a ∙ sym zero_b
    by (inl (zero_a, enable)) (inr (one_b, trigger)) =
        absurd (apart (port_name (Both reset edge) Enable) (port_name (Both reset edge) Trigger) refl
        (ap (port_name (Both reset edge)) enable ∙ same ∙ ap (port_name (Both reset edge)) (sym trigger)))
    by (inr (one_a, trigger)) (inl (zero_b, enable)) =
        absurd (apart (port_name (Both reset edge) Trigger) (port_name (Both reset edge) Enable) refl
        (ap (port_name (Both reset edge)) trigger ∙ same ∙ ap (port_name (Both reset edge)) (sym enable)))
    by (inr (one_a, trigger)) (inr (one_b, also)) = one_a ∙ sym one_b

module _ (h : SystemHeader) (few : length h.inputs ≤ 32) where
  abbrev numbers : List Port
  numbers = map Number (range_with_len 1 (length h.inputs))

  number-at : (a : ℕ) (p : Port) → slice_get numbers a ≡ Some p → (a < length h.inputs) × (Number (1 + a) ≡ p)
  number-at a p at =
      let m = map-at Number (range_with_len 1 (length h.inputs)) a p at in
      let r = range-at 1 (length h.inputs) a m.0 m.1 in
      (r.0, ap Number r.1 ∙ m.2)

  -- ports with one name are at one place
  ports-apart : (a b : ℕ) (p q : Port) → slice_get (ports_of_header h) a ≡ Some p → slice_get (ports_of_header h) b ≡ Some q →
      port_name h.control p ≡ port_name h.control q → a ≡ b
  ports-apart a b p q at to same = by (at-append numbers (control_ports h.control) a p at)
      (at-append numbers (control_ports h.control) b q to)
    where
      Stands : ℕ → Port → Type 0
      Stands a p = (slice_get numbers a ≡ Some p) ⊎ ((i : ℕ) × (length numbers + i ≡ a) × (slice_get (control_ports h.control) i ≡ Some p))

      name : Port → List ℕ
      name = port_name h.control

      by : Stands a p → Stands b q → a ≡ b
      by (inl one) (inl two) =
          let m = number-at a p one in
          let n = number-at b q two in
          let below_m = m.0 in
          let below_n = n.0 in
          let digits : decimal (1 + a) ≡ decimal (1 + b) =
          append_cancel_left (codes "u") (decimal (1 + a)) (decimal (1 + b)) (ap name m.1 ∙ same ∙ ap name (sym n.1)) in
          let number : 1 + a ≡ 1 + b =
          decimal_injective (1 + a) (1 + b) (omega (arith, below_m, few)) (omega (arith, below_n, few)) digits in
          omega (arith, number)
      by (inl one) (inr (i, is, two)) =
          let m = number-at a p one in
          absurd (apart (name (Number (1 + a))) (name q) (number-control h.control (1 + a) q (control-number h.control i q two))
          (ap name m.1 ∙ same))
      by (inr (i, is, one)) (inl two) =
          let n = number-at b q two in
          absurd (apart (name (Number (1 + b))) (name p) (number-control h.control (1 + b) p (control-number h.control i p one))
          (ap name n.1 ∙ sym same))
      by (inr (i, is_a, one)) (inr (k, is_b, two)) =
          sym is_a ∙ ap (λ n. length numbers + n) (controls-apart h.control i k p q one two same) ∙ is_b

  -- ---- Parameters

  -- what is at a place of two lists side by side
  of-pairs : {A B : Type 0} (xs : List A) (ys : List B) (a : ℕ) (e : A × B) → slice_get (zip xs ys) a ≡ Some e → slice_get xs a ≡ Some e.0
  of-pairs [] ys a e at = absurd (none-some e at)
  of-pairs (x ∷ xs) [] a e at = absurd (none-some e at)
  of-pairs {A} {B} (x ∷ xs) (y ∷ ys) zero e at = ap (λ (f : A × B). Some f.0) (same_Some (x, y) e at)
  of-pairs (x ∷ xs) (y ∷ ys) (suc a) e at = of-pairs xs ys a e at

  -- an input's parameter, by its place
  record IsInputAt (q : ParamTree) : Type 0 where
    pub place : ℕ
    pub port : Port
    pub is_port : slice_get (ports_of_header h) place ≡ Some port
    pub is_param : slice_get (input_params h) place ≡ Some q
    pub name : port_name h.control port ≡ q.name

  of-taken : (j : ℕ) (q : ParamTree) → Contains (taken h j (input_params h)) q → IsInputAt q
  of-taken j q among =
      let test : Port × ParamTree → Bool = λ e. has_bit (header_function h j).inputs (bit_of e.0) in
      let pairs : List (Port × ParamTree) = zip (ports_of_header h) (input_params h) in
      let m = of-map (λ (e : Port × ParamTree). e.1) (filter test pairs) q among in
      let f = of-filter test pairs m.0 m.1 in
      let z = of-zip (ports_of_header h) (input_params h) m.0 f.0 in
      let at : slice_get (input_params h) z.0 ≡ Some q = z.2 ∙ ap Some m.2 in
      let t = map-at (port_param h.control) (port_types h) z.0 q at in
      let p = of-pairs (ports_of_header h) (h.inputs ++ h.controls) z.0 t.0 t.1 in
      record { place = z.0; port = t.0.0; is_port = p; is_param = at; name = ap (λ (q : ParamTree). q.name) t.2 }

  one-named : (j : ℕ) (q r : ParamTree) → Contains (out_head h j).params q → Contains (out_head h j).params r → q.name ≡ r.name → q ≡ r
  one-named j q r among also same =
      by (in-cases now_param q (taken h j (input_params h)) among) (in-cases now_param r (taken h j (input_params h)) also)
    where
      by : (now_param ≡ q) ⊎ Contains (taken h j (input_params h)) q → (now_param ≡ r) ⊎ Contains (taken h j (input_params h)) r → q ≡ r
      by (inl now_q) (inl now_r) = sym now_q ∙ now_r
      by (inl now_q) (inr more) =
          let at = of-taken j r more in
          absurd (apart now_name (port_name h.control at.port) (now-port h.control at.port)
          (ap (λ (q : ParamTree). q.name) now_q ∙ same ∙ sym at.name))
      by (inr more) (inl now_r) =
          let at = of-taken j q more in
          absurd (apart now_name (port_name h.control at.port) (now-port h.control at.port)
          (ap (λ (q : ParamTree). q.name) now_r ∙ sym same ∙ sym at.name))
      by (inr more) (inr rest) =
          let a = of-taken j q more in
          let b = of-taken j r rest in
          let one : a.place ≡ b.place = ports-apart a.place b.place a.port b.port a.is_port b.is_port (a.name ∙ same ∙ sym b.name) in
          same_Some q r (sym a.is_param ∙ ap (slice_get (input_params h)) one ∙ b.is_param)

  -- each is found by its name
  pub found-by-name : (j : ℕ) (wanted : ParamTree) → Contains (out_head h j).params wanted →
      (k : ℕ) × (slice_get (out_head h j).params k ≡ Some wanted) × (param_leaf (out_head h j).params wanted.name ≡ Param k)
  found-by-name j wanted among = by (first-place (λ (q : ParamTree). bytes_eq q.name wanted.name) 0 (out_head h j).params)
    where
      params : List ParamTree
      params = (out_head h j).params

      test : ParamTree → Bool
      test q = bytes_eq q.name wanted.name

      by : ((position_from test 0 params ≡ None) × ((x : ParamTree) → Contains params x → test x ≡ false))
          ⊎ ((k : ℕ) × (x : ParamTree) × (position_from test 0 params ≡ Some (0 + k)) × (slice_get params k ≡ Some x) × (test x ≡ true)) →
          (k : ℕ) × (slice_get params k ≡ Some wanted) × (param_leaf params wanted.name ≡ Param k)
      by (inl (none, fails)) =
          absurd (true-false (test wanted) ((bytes_eq-Decides wanted.name wanted.name).1 refl) (fails wanted among))
      by (inr (k, x, there, at, passes)) =
          let same : x ≡ wanted = one-named j x wanted (in-at params k x at) among ((bytes_eq-Decides x.name wanted.name).0 passes) in
          (k, at ∙ ap Some same, ap (λ o. Param (unwrap_or o 0)) there ∙ ap Param (let e : 0 + k ≡ k = omega arith in e))
