-- The parameters of a system's inputs have different names, so a procedure shows which inputs it takes.
use Rattle.std.specs.Prelude.{◌≡◌, ℕ, ◌≤◌, ◌==◌, Bool, true, false, List, [], ◌∷◌, ◌++◌, map, filter, zip, length, Contains, decimal, bytes_eq, refl, ⊤}
use Rattle.std.specs.List.{list_any, range_with_len}
use Rattle.std.proofs.Common.{sym, ap, subst, ◌∙◌, arith, inl, inr, true≢false}
use Rattle.std.proofs.lemmas.Bool.{eq-eqb}
use Rattle.std.proofs.lemmas.Fmt.{decimal_injective}
use Rattle.std.proofs.lemmas.Option.{same_Some}
use Rattle.std.proofs.lemmas.List.Elements.{Contains-append_cases}
use Rattle.base_core.specs.declared.Control.{Control}
use Rattle.base_core.specs.declared.Control.TheVariants.{Plain, Enabled, Triggered, Both}
use Rattle.base_core.specs.declared.Port.{Port}
use Rattle.base_core.specs.declared.Port.TheVariants.{Number, Enable, Trigger}
use Rattle.base_fixed_point.specs.declared.FixType.{FixType}
use Rattle.base_core.specs.Ports.{bit_of, has_bit, control_ports}
use Rattle.modules_profile.proofs.lemmas.Members.{in-none, in-rest, in-cases, in-map, in-filter, in-at, at-in, at-map, at-below, below-at, of-map, of-filter, of-range, map-at}
use Rattle.c_syntax.specs.Tree.{ParamTree}
use Rattle.emit_shape.specs.Heads.{now_param}
use Rattle.emit_shape.specs.Names.{container, input_name, port_name}
use Rattle.right_linking.proofs.lemmas.AssembledNames.{bytes-same, bytes-apart}
use Rattle.right_linking.proofs.lemmas.AssembledChildren.{any-true, any-false}
use Rattle.right_program_interfaces.proofs.Lists.{zip-get, get-zip}

-- an input that a system with this control can have
abbrev pub Fits : Control → Port → Type 0
Fits control (Number k) = k ≤ 32
Fits Plain Enable = ⊥
Fits (Enabled reset) Enable = ⊤
Fits (Triggered edge) Enable = ⊥
Fits (Both reset edge) Enable = ⊤
Fits Plain Trigger = ⊥
Fits (Enabled reset) Trigger = ⊥
Fits (Triggered edge) Trigger = ⊤
Fits (Both reset edge) Trigger = ⊤

abbrev first : List ℕ → ℕ
first [] = 0
first (b ∷ bs) = b

apart : (xs ys : List ℕ) → (first xs == first ys) ≡ false → xs ≡ ys → ⊥
apart xs ys differ same = true≢false (sym (ap (λ zs. first zs == first ys) same ∙ eq-eqb (first ys) (first ys) refl) ∙ differ)

number-one : (control : Control) (k l : ℕ) → k ≤ 32 → l ≤ 32 → input_name k ≡ input_name l → Number k ≡ Number l
number-one control k l few less same = let digits : decimal k ≡ decimal l = cc same in
    ap Number (decimal_injective k l (omega (arith, few)) (omega (arith, less)) digits)

-- different inputs have different names
pub port-one : (control : Control) (p q : Port) → Fits control p → Fits control q → port_name control p ≡ port_name control q → p ≡ q
port-one control (Number k) (Number l) fits suits same = number-one control k l fits suits same
port-one Plain (Number k) Enable fits suits same = absurd suits
port-one (Enabled reset) (Number k) Enable fits suits same = absurd
    (apart (port_name (Enabled reset) (Number k)) (port_name (Enabled reset) Enable) refl same)
port-one (Triggered edge) (Number k) Enable fits suits same = absurd suits
port-one (Both reset edge) (Number k) Enable fits suits same = absurd
    (apart (port_name (Both reset edge) (Number k)) (port_name (Both reset edge) Enable) refl same)
port-one Plain (Number k) Trigger fits suits same = absurd suits
port-one (Enabled reset) (Number k) Trigger fits suits same = absurd suits
port-one (Triggered edge) (Number k) Trigger fits suits same = absurd
    (apart (port_name (Triggered edge) (Number k)) (port_name (Triggered edge) Trigger) refl same)
port-one (Both reset edge) (Number k) Trigger fits suits same = absurd
    (apart (port_name (Both reset edge) (Number k)) (port_name (Both reset edge) Trigger) refl same)
port-one Plain Enable (Number l) fits suits same = absurd fits
port-one (Enabled reset) Enable (Number l) fits suits same = absurd
    (apart (port_name (Enabled reset) Enable) (port_name (Enabled reset) (Number l)) refl same)
port-one (Triggered edge) Enable (Number l) fits suits same = absurd fits
port-one (Both reset edge) Enable (Number l) fits suits same = absurd
    (apart (port_name (Both reset edge) Enable) (port_name (Both reset edge) (Number l)) refl same)
port-one control Enable Enable fits suits same = refl
port-one Plain Enable Trigger fits suits same = absurd fits
port-one (Enabled reset) Enable Trigger fits suits same = absurd suits
port-one (Triggered edge) Enable Trigger fits suits same = absurd fits
port-one (Both reset edge) Enable Trigger fits suits same = absurd
    (apart (port_name (Both reset edge) Enable) (port_name (Both reset edge) Trigger) refl same)
port-one Plain Trigger (Number l) fits suits same = absurd fits
port-one (Enabled reset) Trigger (Number l) fits suits same = absurd fits
port-one (Triggered edge) Trigger (Number l) fits suits same = absurd
    (apart (port_name (Triggered edge) Trigger) (port_name (Triggered edge) (Number l)) refl same)
port-one (Both reset edge) Trigger (Number l) fits suits same = absurd
    (apart (port_name (Both reset edge) Trigger) (port_name (Both reset edge) (Number l)) refl same)
port-one Plain Trigger Enable fits suits same = absurd fits
port-one (Enabled reset) Trigger Enable fits suits same = absurd fits
port-one (Triggered edge) Trigger Enable fits suits same = absurd suits
port-one (Both reset edge) Trigger Enable fits suits same = absurd
    (apart (port_name (Both reset edge) Trigger) (port_name (Both reset edge) Enable) refl same)
port-one control Trigger Trigger fits suits same = refl

now-apart : (control : Control) (p : Port) → bytes_eq now_param.name (port_name control p) ≡ false
now-apart control (Number k) = refl
now-apart control Enable = refl
now-apart Plain Trigger = refl
now-apart (Enabled reset) Trigger = refl
now-apart (Triggered edge) Trigger = refl
now-apart (Both reset edge) Trigger = refl

controls-fit : (control : Control) (p : Port) → Contains (control_ports control) p → Fits control p
controls-fit Plain p has = absurd (in-none p has)
controls-fit (Enabled reset) p has = elim (in-cases Enable p [] has) [
  | inl same ↦ subst (Fits (Enabled reset)) same tt
  | inr more ↦ absurd
      (in-none p more)
]
controls-fit (Triggered edge) p has = elim (in-cases Trigger p [] has) [
  | inl same ↦ subst (Fits (Triggered edge)) same tt
  | inr more ↦
      absurd (in-none p more)
]
controls-fit (Both reset edge) p has = elim (in-cases Enable p (Trigger ∷ []) has) [
  | inl same ↦ subst (Fits (Both reset edge)) same tt
  | inr more ↦ elim (in-cases Trigger p [] more) [ inl same ↦ subst (Fits (Both reset edge)) same tt | inr none ↦ absurd (in-none p none) ]
]

-- all inputs of a system are such
pub ports-fit : (control : Control) (inputs : ℕ) → inputs ≤ 32 → (p : Port) →
    Contains (map Number (range_with_len 1 inputs) ++ control_ports control) p → Fits control p
ports-fit control inputs few p has = elim (Contains-append_cases (map Number (range_with_len 1 inputs)) (control_ports control) p has) [
  | inl number ↦
      let k = of-map Number (range_with_len 1 inputs) p number in
      let high = (of-range 1 inputs k.0 k.1).1 in
      subst (Fits control) k.2 (let low : k.0 ≤ 32 = omega (arith, high, few) in low)
  | inr other ↦ controls-fit control p other
]

-- ---- What is taken

module _ (control : Control) (ports : List Port) (types : List FixType) (enough : length ports ≤ length types)
    (fit : (p : Port) → Contains ports p → Fits control p) where
  abbrev param_for : Port × FixType → ParamTree
  param_for e = record { name = port_name control e.0; type = container e.1 }

  abbrev pub all_params : List ParamTree
  all_params = map param_for (zip ports types)

  abbrev pub taken_params : ℕ → List ParamTree
  taken_params mask = map (λ (e : Port × ParamTree). e.1) (filter (λ (e : Port × ParamTree). has_bit mask (bit_of e.0))
      (zip ports all_params))

  abbrev has_name : Port → ParamTree → Bool
  has_name p q = bytes_eq q.name (port_name control p)

  param-of : (e : Port × ParamTree) → Contains (zip ports all_params) e → Contains ports e.0 × (e.1.name ≡ port_name control e.0)
  param-of e has =
      let (k, at) = at-in (zip ports all_params) e has in
      let (port, param) = zip-get ports all_params k e at in
      let (pair, there, is) = map-at param_for (zip ports types) k e.1 param in
      let same : pair.0 ≡ e.0 = same_Some pair.0 e.0 (sym (zip-get ports types k pair there).0 ∙ port) in
      (in-at ports k e.0 port, ap (λ (z : ParamTree). z.name) (sym is) ∙ ap (port_name control) same)

  -- an input is taken where its parameter is there
  pub shows-taken : (mask : ℕ) (p : Port) → Contains ports p → list_any (has_name p) (now_param ∷ taken_params mask) ≡ has_bit mask
      (bit_of p)
  shows-taken mask p has = by (has_bit mask (bit_of p)) refl
    where
      by : (t : Bool) → has_bit mask (bit_of p) ≡ t → list_any (has_name p) (now_param ∷ taken_params mask) ≡ t
      by true e =
          let (k, at) = at-in ports p has in
          let (type, there) = below-at types k (let below = at-below ports k p at in omega (arith, below, enough)) in
          let param = at-map param_for (zip ports types) k (p, type) (get-zip ports types k p type at there) in
          let pair = in-at (zip ports all_params) k (p, param_for (p, type))
          (get-zip ports all_params k p (param_for (p, type)) at param) in
          any-true (has_name p) (now_param ∷ taken_params mask) (param_for (p, type))
          (in-rest now_param (param_for (p, type)) (taken_params mask)
          (in-map (λ (e : Port × ParamTree). e.1) (filter (λ (e : Port × ParamTree). has_bit mask (bit_of e.0)) (zip ports all_params))
          (p, param_for (p, type))
          (in-filter (λ (e : Port × ParamTree). has_bit mask (bit_of e.0)) (zip ports all_params) (p, param_for (p, type)) pair e)))
          (bytes-same (port_name control p) (port_name control p) refl)
      by false e = any-false (has_name p) (now_param ∷ taken_params mask)
          (λ q among. elim (in-cases now_param q (taken_params mask) among) [
            | inl same ↦ ap (has_name p) (sym same) ∙ now-apart control p
            | inr more ↦
                let from = of-map (λ (e : Port × ParamTree). e.1) (filter (λ (e : Port × ParamTree). has_bit mask (bit_of e.0))
                (zip ports all_params)) q more in
                let kept = of-filter (λ (e : Port × ParamTree). has_bit mask (bit_of e.0)) (zip ports all_params) from.0 from.1 in
                let (port, named) = param-of from.0 kept.0 in
                ap (has_name p) (sym from.2)
                ∙ bytes-apart from.0.1.name (port_name control p)
                (λ same.
                let one = port-one control from.0.0 p (fit from.0.0 port) (fit p has) (sym named ∙ same) in
                true≢false (sym kept.1 ∙ ap (λ z. has_bit mask (bit_of z)) one ∙ e))
          ])
