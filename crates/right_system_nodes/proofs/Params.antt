-- What the leaves of parameters read: the tick's number, an input, a control.
use Rattle.std.specs.Prelude.{◌≡◌, ℕ, zero, suc, ◌+◌, ◌^◌, ◌<◌, Bool, true, false, cond, List, [], ◌∷◌, ◌++◌, map, length, slice_get, unwrap_or, bytes_eq, Contains, Option, Some, ℤ, pos, refl}
use Rattle.std.specs.List.{position_from, range_with_len, AllZip}
use Rattle.std.proofs.Common.{sym, ap, subst, ◌∙◌, arith, inl, inr, true≢false}
use Rattle.std.proofs.lemmas.Fmt.{decimal_injective}
use Rattle.std.proofs.lemmas.List.{length-map}
use Rattle.std.proofs.lemmas.List.FromFn.{length-range_with_len}
use Rattle.std.proofs.lemmas.Option.{same_Some, none-some}
use Rattle.std.proofs.lemmas.Slice.Eq.{bytes_eq-Decides}
use Rattle.base_core.specs.declared.base.Control.{Control}
use Rattle.base_core.specs.declared.base.Control.TheVariants.{Plain, Enabled, Triggered, Both}
use Rattle.base_core.specs.declared.base.Port.{Port}
use Rattle.base_core.specs.declared.base.Port.TheVariants.{Number, Enable, Trigger}
use Rattle.base_core.specs.Ports.{control_ports}
use Rattle.diagram_meaning.specs.Rows.{is_enabled, is_triggered}
use Rattle.modules_profile.proofs.lemmas.Members.{in-none, in-cases, at-append, map-at, range-at}
use Rattle.c_syntax.specs.Tree.{ParamTree}
use Rattle.c_semantics.specs.Cells.{Cells}
use Rattle.c_semantics.specs.Values.{leaf_reads}
use Rattle.base_core.specs.Numbers.{int_at}
use Rattle.emit_shape.specs.Names.{now_name, input_name, trigger_param, port_name}
use Rattle.emit_system_spec.specs.Places.{param_leaf}
use Rattle.right_system_nodes.specs.PieceLaws.{HasParam}
use Rattle.right_system_nodes.proofs.lemmas.SlotLists.{index-or-at}

-- ---- A parameter by its name

-- what a search from a place on comes to
record IsFound (R : ParamTree → ℤ → Type 0) (name : List ℕ) (a : ℕ) (values : List ℤ) (place : Option ℕ) : Type 0 where
  pub at : ℕ
  pub param : ParamTree
  pub value : ℤ
  pub is_place : place ≡ Some (a + at)
  pub there : slice_get values at ≡ Some value
  pub named : param.name ≡ name
  pub related : R param value

finds : (R : ParamTree → ℤ → Type 0) (name : List ℕ) (a : ℕ) (params : List ParamTree) (values : List ℤ) (q : ParamTree) →
    AllZip R params values → Contains params q → q.name ≡ name →
    IsFound R name a values (position_from (λ (p : ParamTree). bytes_eq p.name name) a params)
finds R name a [] values q all h named = absurd (in-none q h)
finds R name a (p ∷ params) [] q all h named = absurd all
finds R name a (p ∷ params) (v ∷ values) q all h named =
    by (bytes_eq p.name name) refl (λ more. finds R name (a + 1) params values q all.1 more named)
  where
    rest : Option ℕ
    rest = position_from (λ (p : ParamTree). bytes_eq p.name name) (a + 1) params

    by : (t : Bool) → bytes_eq p.name name ≡ t → (Contains params q → IsFound R name (a + 1) values rest) →
        IsFound R name a (v ∷ values) (cond t (Some a) rest)
    by true is later = record {
      at = 0;
      param = p;
      value = v;
      is_place = (let same : a ≡ a + 0 = omega arith in ap Some same);
      there = refl;
      named = (bytes_eq-Decides p.name name).0 is;
      related = all.0;
    }
    by false is later = elim (in-cases p q params h) [
      | inl same ↦ absurd (true≢false (sym ((bytes_eq-Decides p.name name).1 (ap (λ (x : ParamTree). x.name) same ∙ named)) ∙ is))
      | inr more ↦ let f = later more in record {
        at = suc f.at;
        param = f.param;
        value = f.value;
        is_place = f.is_place ∙ (let same : a + 1 + f.at ≡ a + suc f.at = omega arith in ap Some same);
        there = f.there;
        named = f.named;
        related = f.related;
      }
    ]

-- a leaf reads the argument for a parameter of its name
pub record IsRead (R : ParamTree → ℤ → Type 0) (name : List ℕ) (v : ℤ) : Type 0 where
  pub param : ParamTree
  pub value : ℤ
  pub named : param.name ≡ name
  pub related : R param value
  pub is : v ≡ value

pub param-reads : (R : ParamTree → ℤ → Type 0) (name : List ℕ) (params : List ParamTree) (values : List ℤ) (cells : Cells) →
    AllZip R params values → HasParam params name → IsRead R name (leaf_reads values cells (param_leaf params name))
param-reads R name params values cells all (q, has, named) =
    let f = finds R name 0 params values q all has named in
    record {
      param = f.param;
      value = f.value;
      named = f.named;
      related = f.related;
      is = ap (λ o. int_at values (unwrap_or o 0)) f.is_place
          ∙ (let same : 0 + f.at ≡ f.at = omega arith in ap (int_at values) same) ∙ index-or-at values f.at (pos 0) f.value f.there;
    }

-- ---- Names

abbrev pub first_byte : List ℕ → ℕ
first_byte [] = 0
first_byte (b ∷ bs) = b

pub no-input-control : (control : Control) (j : ℕ) → trigger_param control ≡ input_name j → ⊥
no-input-control Plain j same = let wrong : 99 ≡ 117 = ap first_byte same in omega (arith, wrong)
no-input-control (Enabled reset) j same = let wrong : 99 ≡ 117 = ap first_byte same in omega (arith, wrong)
no-input-control (Triggered edge) j same = let wrong : 99 ≡ 117 = ap first_byte same in omega (arith, wrong)
no-input-control (Both reset edge) j same = let wrong : 116 ≡ 117 = ap first_byte same in omega (arith, wrong)

pub no-now : (control : Control) (i : Port) → now_name ≡ port_name control i → ⊥
no-now control (Number j) same = let wrong : 110 ≡ 117 = ap first_byte same in omega (arith, wrong)
no-now control Enable same = let wrong : 110 ≡ 99 = ap first_byte same in omega (arith, wrong)
no-now Plain Trigger same = let wrong : 110 ≡ 99 = ap first_byte same in omega (arith, wrong)
no-now (Enabled reset) Trigger same = let wrong : 110 ≡ 99 = ap first_byte same in omega (arith, wrong)
no-now (Triggered edge) Trigger same = let wrong : 110 ≡ 99 = ap first_byte same in omega (arith, wrong)
no-now (Both reset edge) Trigger same = let wrong : 110 ≡ 116 = ap first_byte same in omega (arith, wrong)

abbrev rest_of : List ℕ → List ℕ
rest_of [] = []
rest_of (b ∷ bs) = bs

pub same-input : (j k : ℕ) → j < 2 ^ 64 → k < 2 ^ 64 → input_name j ≡ input_name k → j ≡ k
same-input j k low high same = decimal_injective j k low high (ap rest_of same)

-- ---- Ports

-- the place of a trigger among controls
abbrev pub trigger_place : Control → ℕ
trigger_place Plain = 0
trigger_place (Enabled reset) = 0
trigger_place (Triggered edge) = 0
trigger_place (Both reset edge) = 1

-- a control is at its place
abbrev ControlAt : Control → ℕ → Port → Type 0
ControlAt control i (Number j) = ⊥
ControlAt control i Enable = (i ≡ 0) × (is_enabled control ≡ true)
ControlAt control i Trigger = (i ≡ trigger_place control) × (is_triggered control ≡ true)

control-at : (control : Control) (i : ℕ) (p : Port) → slice_get (control_ports control) i ≡ Some p → ControlAt control i p
control-at Plain i p at = absurd (none-some p at)
control-at (Enabled reset) zero p at = subst (ControlAt (Enabled reset) 0) (same_Some Enable p at) (refl, refl)
control-at (Enabled reset) (suc i) p at = absurd (none-some p at)
control-at (Triggered edge) zero p at = subst (ControlAt (Triggered edge) 0) (same_Some Trigger p at) (refl, refl)
control-at (Triggered edge) (suc i) p at = absurd (none-some p at)
control-at (Both reset edge) zero p at = subst (ControlAt (Both reset edge) 0) (same_Some Enable p at) (refl, refl)
control-at (Both reset edge) (suc zero) p at = subst (ControlAt (Both reset edge) 1) (same_Some Trigger p at) (refl, refl)
control-at (Both reset edge) (suc (suc i)) p at = absurd (none-some p at)

-- of n inputs and then the controls
abbrev pub ports : Control → ℕ → List Port
ports control n = map Number (range_with_len 1 n) ++ control_ports control

-- what is at a place among the ports
abbrev pub PortAt : Control → ℕ → ℕ → Port → Type 0
PortAt control n k (Number j) = (k < n) × (1 + k ≡ j)
PortAt control n k Enable = (k ≡ n) × (is_enabled control ≡ true)
PortAt control n k Trigger = (k ≡ n + trigger_place control) × (is_triggered control ≡ true)

pub port-at : (control : Control) (n k : ℕ) (p : Port) → slice_get (ports control n) k ≡ Some p → PortAt control n k p
port-at control n k p at = elim (at-append (map Number (range_with_len 1 n)) (control_ports control) k p at) [
  | inl here ↦
      let m = map-at Number (range_with_len 1 n) k p here in
      let r = range-at 1 n k m.0 m.1 in
      subst (PortAt control n k) m.2 r
  | inr there ↦ by p there.0 there.1 (control-at control there.0 p there.2)
]
  where
    long : length (map Number (range_with_len 1 n)) ≡ n
    long = length-map (range_with_len 1 n) Number ∙ length-range_with_len 1 n

    by : (p : Port) (i : ℕ) → length (map Number (range_with_len 1 n)) + i ≡ k → ControlAt control i p → PortAt control n k p
    by (Number j) i far is = absurd is
    by Enable i far is = let first = is.0 in (omega (arith, far, long, first), is.1)
    by Trigger i far is = let place = is.0 in (omega (arith, far, long, place), is.1)
