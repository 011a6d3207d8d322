-- The parameters of a system's procedures have names that differ from each other and from those of all procedures and functions,
-- and they are few.
use Rattle.std.specs.Prelude.{◌≡◌, ℕ, ◌≤◌, Bool, true, false, cond, ◌&&◌, ◌||◌, ◌==◌, List, [], ◌∷◌, ◌++◌, map, filter, zip, length, decimal}
use Rattle.std.specs.List.{AllByRecursion, range_with_len}
use Rattle.std.proofs.Common.{refl, sym, ap, subst, ◌∙◌, arith, inl, inr, true≢false}
use Rattle.std.proofs.lemmas.Fmt.{decimal_injective}
use Rattle.std.proofs.lemmas.List.{length-map, length-append}
use Rattle.std.proofs.lemmas.List.FromFn.{length-range_with_len}
use Rattle.base_core.specs.declared.base.Control.{Control}
use Rattle.base_core.specs.declared.base.Control.TheVariants.{Plain, Enabled, Triggered, Both}
use Rattle.base_core.specs.declared.base.Port.{Port}
use Rattle.base_core.specs.declared.base.Port.TheVariants.{Number, Enable, Trigger}
use Rattle.base_fixed_point.specs.declared.types.FixType.{FixType}
use Rattle.modules_profile.specs.SystemHeader.{SystemHeader}
use Rattle.modules_profile.specs.Headers.{ports_of_header, taken, header_function}
use Rattle.base_core.specs.Ports.{control_ports, bit_of, has_bit}
use Rattle.modules_profile.proofs.lemmas.Members.{of-range}
use Rattle.c_syntax.specs.Tree.{ParamTree}
use Rattle.c_syntax.specs.Outputs.{has_name}
use Rattle.c_syntax.specs.Lawful.{AreDistinct, AreApart, param_names}
use Rattle.emit_shape.specs.Names.{now_name, input_name, port_name}
use Rattle.emit_shape.specs.Heads.{now_param, input_params}
use Rattle.emit_system_spec.specs.Heads.{port_types, port_param, params_where}
use Rattle.right_system_rules.proofs.NameTexts.{letter-name}
use Rattle.right_system_rules.proofs.Lists.{each-mapped}
use Rattle.right_system_rules.proofs.Different.{not-among, apart-by, distinct-append}
use Rattle.right_system_rules.proofs.DifferentNames.{distinct-map, apart-range, IsPart, part-skip, part-none, part-all, part-other, part-distinct}

-- ---- How names begin

abbrev pub first_is : ℕ → List ℕ → Bool
first_is b [] = false
first_is b (c ∷ cs) = c == b

-- as those of procedures and of functions of the prelude begin, and no parameter's
abbrev pub is_far : List ℕ → Bool
is_far [] = false
is_far (b ∷ bs) = (b == 115) || (b == 114) || (b == 119) || ((b == 116) && first_is 111 bs) || ((b == 99) && first_is 108 bs)

port-far : (control : Control) (port : Port) → is_far (port_name control port) ≡ false
port-far control (Number k) = refl
port-far control Enable = refl
port-far Plain Trigger = refl
port-far (Enabled reset) Trigger = refl
port-far (Triggered edge) Trigger = refl
port-far (Both reset edge) Trigger = refl

pub far-apart : (names others : List (List ℕ)) → AllByRecursion (λ a. is_far a ≡ false) names →
    AllByRecursion (λ b. is_far b ≡ true) others → AreApart names others
far-apart names others near far =
    apart-by (λ a. is_far a ≡ false) (λ b. is_far b ≡ true)
    (λ a b p q same. true≢false (sym q ∙ ap is_far (sym same) ∙ p)) names others near far

-- ---- All parameters of a system

port-names : (control : Control) (ks : List ℕ) (ports : List Port) →
    map (port_name control) (map Number ks ++ ports) ≡ map input_name ks ++ map (port_name control) ports
port-names control [] ports = refl
port-names control (k ∷ ks) ports = ap (λ rest. input_name k ∷ rest) (port-names control ks ports)

controls-distinct : (control : Control) → AreDistinct (map (port_name control) (control_ports control))
controls-distinct Plain = tt
controls-distinct (Enabled reset) = (refl, refl, tt)
controls-distinct (Triggered edge) = (refl, refl, tt)
controls-distinct (Both reset edge) = (refl, refl, (refl, refl, tt))

-- an input's name, and no other
abbrev IsInput : List ℕ → Type 0
IsInput a = first_is 117 a ≡ true

abbrev IsNoInput : List ℕ → Type 0
IsNoInput a = first_is 117 a ≡ false

controls-other : (control : Control) → AllByRecursion IsNoInput (map (port_name control) (control_ports control))
controls-other Plain = tt
controls-other (Enabled reset) = (refl, tt)
controls-other (Triggered edge) = (refl, tt)
controls-other (Both reset edge) = (refl, (refl, tt))

abbrev NotNow : List ℕ → Type 0
NotNow a = first_is 110 a ≡ false

port-not-now : (control : Control) (port : Port) → NotNow (port_name control port)
port-not-now control (Number k) = refl
port-not-now control Enable = refl
port-not-now Plain Trigger = refl
port-not-now (Enabled reset) Trigger = refl
port-not-now (Triggered edge) Trigger = refl
port-not-now (Both reset edge) Trigger = refl

all-ports : (P : List ℕ → Type 0) (control : Control) → ((port : Port) → P (port_name control port)) → (ports : List Port) →
    AllByRecursion P (map (port_name control) ports)
all-ports P control holds [] = tt
all-ports P control holds (p ∷ ps) = (holds p, all-ports P control holds ps)

inputs-distinct : (n : ℕ) → n ≤ 32 → AreDistinct (map input_name (range_with_len 1 n))
inputs-distinct n few =
    distinct-map (λ (k : ℕ). k) input_name (range_with_len 1 n) (λ k h. letter-name 117 k refl)
    (λ i k h j same.
    let low = (of-range 1 n i h).1 in
    let high = (of-range 1 n k j).1 in
    decimal_injective i k (omega (arith, low, few)) (omega (arith, high, few)) (let rest : decimal i ≡ decimal k = cc same in rest))
    (apart-range 1 n)

abbrev names_of : SystemHeader → List (List ℕ)
names_of h = map (port_name h.control) (ports_of_header h)

module _ (h : SystemHeader) (few : length h.inputs ≤ 32) where
  abbrev names : List (List ℕ)
  names = names_of h

  names-distinct : AreDistinct names
  names-distinct =
      let inputs = map input_name (range_with_len 1 (length h.inputs)) in
      let controls = map (port_name h.control) (control_ports h.control) in
      subst AreDistinct (sym (port-names h.control (range_with_len 1 (length h.inputs)) (control_ports h.control)))
      (distinct-append inputs controls (inputs-distinct (length h.inputs) few) (controls-distinct h.control)
      (apart-by IsInput IsNoInput (λ a b p q same. true≢false (sym p ∙ ap (first_is 117) same ∙ q)) inputs controls
      (each-mapped IsInput input_name (range_with_len 1 (length h.inputs)) (λ k m. refl)) (controls-other h.control)))

  not-now : has_name names now_name ≡ false
  not-now =
      not-among NotNow now_name (λ b other same. true≢false (ap (first_is 110) same ∙ other)) names
      (all-ports NotNow h.control (port-not-now h.control) (ports_of_header h))

  few-controls : (control : Control) → length (control_ports control) ≤ 2
  few-controls Plain = omega arith
  few-controls (Enabled reset) = omega arith
  few-controls (Triggered edge) = omega arith
  few-controls (Both reset edge) = omega arith

  names-few : length names ≤ 34
  names-few =
      let made = length-map (ports_of_header h) (port_name h.control) in
      let both = length-append (map Number (range_with_len 1 (length h.inputs))) (control_ports h.control) in
      let numbers = length-map (range_with_len 1 (length h.inputs)) Number in
      let long = length-range_with_len 1 (length h.inputs) in
      let controls = few-controls h.control in
      omega (arith, made, both, numbers, long, controls, few)

-- ---- Those of a procedure

pub record AreLawfulParams (params : List ParamTree) : Type 0 where
  pub distinct : AreDistinct (param_names params)
  pub near : AllByRecursion (λ a. is_far a ≡ false) (param_names params)
  pub few : length params ≤ 64

part-short : (xs ys : List (List ℕ)) → IsPart xs ys → length xs ≤ length ys
part-short [] ys part = omega arith
part-short (x ∷ xs) [] part = absurd (let wrong : ⊥ = cc part in wrong)
part-short (x ∷ xs) (y ∷ ys) (inl part) = let rest = part-short xs ys part.1 in omega (arith, rest)
part-short (x ∷ xs) (y ∷ ys) (inr part) = let rest = part-short (x ∷ xs) ys part in omega (arith, rest)

pub no-params : AreLawfulParams []
no-params = record { distinct = tt; near = tt; few = omega arith }

from-part : (h : SystemHeader) → length h.inputs ≤ 32 → (qs : List ParamTree) → IsPart (param_names qs) (names_of h) →
    AreLawfulParams (now_param ∷ qs)
from-part h few qs part = record {
  distinct = (
    refl,
    part-other now_name (param_names qs) (names_of h) part (not-now h few),
    part-distinct (param_names qs)
        (names_of h) part (names-distinct h few),
  );
  near = (
    refl,
    part-all (λ a. is_far a ≡ false) (param_names qs) (names_of h) part
        (all-ports (λ a. is_far a ≡ false) h.control (port-far h.control) (ports_of_header h)),
  );
  few = let short = part-short (param_names qs) (names_of h) part in let most = names-few h few in
      let made = length-map qs (λ (q : ParamTree). q.name) in omega (arith, short, most, made);
}

zip-part : (control : Control) (ports : List Port) (types : List FixType) →
    IsPart (param_names (map (port_param control) (zip ports types))) (map (port_name control) ports)
zip-part control [] types = refl
zip-part control (p ∷ ps) [] = tt
zip-part control (p ∷ ps) (t ∷ ts) = inl (refl, zip-part control ps ts)

where-part : (control : Control) (test : Port → Bool) (ports : List Port) (types : List FixType) →
    IsPart (param_names (params_where control test (zip ports types))) (map (port_name control) ports)
where-part control test [] types = refl
where-part control test (p ∷ ps) [] = tt
where-part control test (p ∷ ps) (t ∷ ts) =
    by (filter (λ (e : Port × FixType). test e.0) (zip ps ts)) (test p) (where-part control test ps ts)
  where
    by : (rest : List (Port × FixType)) (b : Bool) → IsPart (param_names (map (port_param control) rest)) (map (port_name control) ps) →
        IsPart (param_names (map (port_param control) (cond b ((p, t) ∷ rest) rest))) (port_name control p ∷ map (port_name control) ps)
    by rest true part = inl (refl, part)
    by rest false part = part-skip (param_names (map (port_param control) rest)) (port_name control p) (map (port_name control) ps) part

-- what a function takes of those of all inputs
taken-part : (control : Control) (test : Port × ParamTree → Bool) (others ports : List Port) (types : List FixType) →
    IsPart (param_names (map (λ (e : Port × ParamTree). e.1) (filter test (zip others (map (port_param control) (zip ports types))))))
    (map (port_name control) ports)
taken-part control test [] ports types = part-none (map (port_name control) ports)
taken-part control test (o ∷ others) [] types = refl
taken-part control test (o ∷ others) (p ∷ ps) [] = tt
taken-part control test (o ∷ others) (p ∷ ps) (t ∷ ts) =
    by (filter test (zip others (map (port_param control) (zip ps ts)))) (test (o, port_param control (p, t)))
    (taken-part control test others ps ts)
  where
    by : (rest : List (Port × ParamTree)) (b : Bool) →
        IsPart (param_names (map (λ (e : Port × ParamTree). e.1) rest)) (map (port_name control) ps) →
        IsPart (param_names (map (λ (e : Port × ParamTree). e.1) (cond b ((o, port_param control (p, t)) ∷ rest) rest)))
        (port_name control p ∷ map (port_name control) ps)
    by rest true part = inl (refl, part)
    by rest false part =
        part-skip (param_names (map (λ (e : Port × ParamTree). e.1) rest)) (port_name control p) (map (port_name control) ps) part

module _ (h : SystemHeader) (few : length h.inputs ≤ 32) where
  pub update-params : AreLawfulParams (now_param ∷ input_params h)
  update-params = from-part h few (input_params h) (zip-part h.control (ports_of_header h) (h.inputs ++ h.controls))

  pub out-params : (j : ℕ) → AreLawfulParams (now_param ∷ taken h j (input_params h))
  out-params j =
      from-part h few (taken h j (input_params h))
      (taken-part h.control (λ (e : Port × ParamTree). has_bit (header_function h j).inputs (bit_of e.0)) (ports_of_header h)
      (ports_of_header h) (h.inputs ++ h.controls))

  pub where-params : (test : Port → Bool) → AreLawfulParams (now_param ∷ params_where h.control test (port_types h))
  where-params test =
      from-part h few (params_where h.control test (port_types h)) (where-part h.control test (ports_of_header h) (h.inputs ++ h.controls))
