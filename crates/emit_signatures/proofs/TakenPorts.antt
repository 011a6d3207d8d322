-- The inputs that a function takes, and their places in a mask.
use Rattle.std.proofs.Common.{◌≡◌, ℕ, zero, suc, ◌+◌, ◌-◌, ◌<◌, ◌≤◌, Bool, true, false, cond, List, [], ◌∷◌, ◌++◌, map, filter, All, length, take, get_or, refl, sym, ap, ◌∙◌, arith}
use Rattle.std.specs.List.{zip, range_with_len}
use Rattle.std.proofs.lemmas.List.{length-map, map-append, take_more}
use Rattle.std.proofs.lemmas.List.Elements.{All-nil, All-cons, All-head, All-tail, All-append, filter-append}
use Rattle.base_core.specs.declared.base.Control.{Control}
use Rattle.base_core.specs.declared.base.Control.TheVariants.{Plain, Enabled, Triggered, Both}
use Rattle.base_core.specs.declared.base.Port.{Port}
use Rattle.base_core.specs.declared.base.Port.TheVariants.{Number, Enable, Trigger}
use Rattle.base_fixed_point.specs.declared.types.FixType.{FixType}
use Rattle.modules_profile.specs.declared.local.LocalRow.{LocalRow}
use Rattle.modules_profile.specs.LocalSystem.{LocalSystem}
use Rattle.modules_profile.specs.SystemProfile.{SystemProfile}
use Rattle.modules_profile.specs.SystemHeader.{SystemHeader}
use Rattle.modules_profile.specs.Headers.{ports_of_header, header_function, taken}
use Rattle.modules_profile.specs.Locals.{inports, own_header}
use Rattle.base_core.specs.Ports.{bit_of, has_bit, control_ports}
use Rattle.c_syntax.specs.Tree.{ParamTree}
use Rattle.emit_shape.specs.Heads.{input_params}
use Rattle.emit_system_spec.specs.Heads.{port_types, port_param, params_where}

-- ---- Places in a mask

abbrev pub IsLowPort : Port → Type 0
IsLowPort p = bit_of p < 64

abbrev pub IsLow : Port × FixType → Type 0
IsLow e = bit_of e.0 < 64

zip-low : (ports : List Port) (types : List FixType) → All IsLowPort ports → All IsLow (zip ports types)
zip-low [] types h = All-nil IsLow
zip-low (p ∷ ports) [] h = All-nil IsLow
zip-low (p ∷ ports) (t ∷ types) h =
    All-cons IsLow (p, t) (zip ports types) (All-head IsLowPort p ports h)
    (zip-low ports types (All-tail IsLowPort p ports h))

numbers-low : (a n : ℕ) → a + n ≤ 64 → All IsLowPort (map Number (range_with_len a n))
numbers-low a zero h = All-nil IsLowPort
numbers-low a (suc n) h =
    All-cons IsLowPort (Number a) (map Number (range_with_len (a + 1) n)) (let low : a - 1 < 64 = omega arith in
    low) (numbers-low (a + 1) n (omega arith))

controls-low : (c : Control) → All IsLowPort (control_ports c)
controls-low Plain = All-nil IsLowPort
controls-low (Enabled reset) = All-cons IsLowPort Enable [] (omega arith) (All-nil IsLowPort)
controls-low (Triggered edge) = All-cons IsLowPort Trigger [] (omega arith) (All-nil IsLowPort)
controls-low (Both reset edge) =
    All-cons IsLowPort Enable (Trigger ∷ []) (omega arith)
    (All-cons IsLowPort Trigger [] (omega arith) (All-nil IsLowPort))

pub ports-low : (local : LocalSystem) (profile : SystemProfile) → length (inports local) ≤ 32 →
    All IsLow (port_types (own_header local profile))
ports-low local profile few =
    let types : List FixType = map (λ (r : LocalRow). r.out) (inports local) in
    let many : length types ≡ length (inports local) = length-map (inports local) (λ (r : LocalRow). r.out) in
    zip-low (ports_of_header (own_header local profile)) (types ++ local.controls)
    (All-append IsLowPort (map Number (range_with_len 1 (length types))) (control_ports local.control)
    (numbers-low 1 (length types) (omega (arith, many, few))) (controls-low local.control))

-- ---- What a function takes

taken-zip : (control : Control) (mask : ℕ) (ports : List Port) (types : List FixType) →
    map (λ (e : Port × ParamTree). e.1)
    (filter (λ (e : Port × ParamTree). has_bit mask (bit_of e.0))
    (zip ports (map (port_param control) (zip ports types))))
    ≡ params_where control (λ p. has_bit mask (bit_of p)) (zip ports types)
taken-zip control mask [] types = refl
taken-zip control mask (p ∷ ports) [] = refl
taken-zip control mask (p ∷ ports) (t ∷ types) = by (has_bit mask (bit_of p)) (taken-zip control mask ports types)
  where
    by : (b : Bool) →
        map (λ (e : Port × ParamTree). e.1)
        (filter (λ (e : Port × ParamTree). has_bit mask (bit_of e.0))
        (zip ports (map (port_param control) (zip ports types))))
        ≡ map (port_param control) (filter (λ (e : Port × FixType). has_bit mask (bit_of e.0)) (zip ports types)) →
        map (λ (e : Port × ParamTree). e.1)
        (cond b ((p, port_param control (p, t)) ∷ filter (λ (e : Port × ParamTree). has_bit mask (bit_of e.0))
        (zip ports (map (port_param control) (zip ports types))))
        (filter (λ (e : Port × ParamTree). has_bit mask (bit_of e.0))
        (zip ports (map (port_param control) (zip ports types)))))
        ≡ map (port_param control)
        (cond b ((p, t) ∷ filter (λ (e : Port × FixType). has_bit mask (bit_of e.0)) (zip ports types))
        (filter (λ (e : Port × FixType). has_bit mask (bit_of e.0)) (zip ports types)))
    by true later = ap (λ ys. port_param control (p, t) ∷ ys) later
    by false later = later

pub taken-is : (h : SystemHeader) (j : ℕ) →
    taken h j (input_params h) ≡ params_where h.control (λ p. has_bit (header_function h j).inputs (bit_of p))
    (port_types h)
taken-is h j = taken-zip h.control (header_function h j).inputs (ports_of_header h) (h.inputs ++ h.controls)

-- one input more
pub where-more : (control : Control) (test : Port → Bool) (xs : List (Port × FixType)) (i : ℕ) (x : Port × FixType)
    (t : Bool) → i < length xs → x ≡ get_or xs i x → test x.0 ≡ t →
    params_where control test (take (i + 1) xs) ≡ params_where control test (take i xs) ++ cond t (port_param control x ∷ []) []
where-more control test xs i x t inside read told =
    ap (λ (ys : List (Port × FixType)). map (port_param control) (filter (λ (e : Port × FixType). test e.0) ys))
    (take_more xs i x inside ∙ ap (λ (y : Port × FixType). take i xs ++ y ∷ []) (sym read))
    ∙ ap (map (port_param control)) (filter-append (λ (e : Port × FixType). test e.0) (take i xs) (x ∷ []))
    ∙ map-append (port_param control) (filter (λ (e : Port × FixType). test e.0) (take i xs))
    (filter (λ (e : Port × FixType). test e.0) (x ∷ []))
    ∙ ap (λ (ys : List ParamTree). params_where control test (take i xs) ++ ys) (last (test x.0) told)
  where
    last : (r : Bool) → r ≡ t → map (port_param control) (cond r (x ∷ []) []) ≡ cond t (port_param control x ∷ []) []
    last true e = ap (λ s. cond s (port_param control x ∷ []) []) e
    last false e = ap (λ s. cond s (port_param control x ∷ []) []) e
