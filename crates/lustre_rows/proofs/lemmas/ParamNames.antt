-- The names of a system's parameters by their places.
use Rattle.std.proofs.Common.{◌≡◌, refl, sym, ap, ◌∙◌, ℕ, ◌+◌, true, List, [], ◌∷◌, ◌++◌, map, length, slice_index_or, arith, append_assoc, length-append}
use Rattle.std.specs.List.{range_with_len}
use Rattle.std.proofs.lemmas.List.{map-append, get_or-append-add, length-map}
use Rattle.std.proofs.lemmas.List.FromFn.{length-range_with_len}
use Rattle.base_core.specs.Ports.{control_ports}
use Rattle.base_core.specs.declared.Control.{Control}
use Rattle.base_core.specs.declared.Control.TheVariants.{Plain, Enabled, Triggered, Both}
use Rattle.base_core.specs.declared.Port.{Port}
use Rattle.base_core.specs.declared.Port.TheVariants.{Number}
use Rattle.diagram_meaning.specs.Rows.{is_enabled, is_triggered, enable_count}
use Rattle.emit_shape.specs.Names.{port_name, trigger_param, control_name, trigger_name, now_name}

-- of n inputs, then controls
abbrev pub ports_by : Control → ℕ → List Port
ports_by c n = map Number (range_with_len 1 n) ++ control_ports c

abbrev pub names_by : Control → ℕ → List (List ℕ)
names_by c n = map (port_name c) (ports_by c n) ++ trigger_name ∷ now_name ∷ []

abbrev pub later_names : Control → List (List ℕ)
later_names c = map (port_name c) (control_ports c) ++ trigger_name ∷ now_name ∷ []

count-of_inputs : (n : ℕ) → length (map Number (range_with_len 1 n)) ≡ n
count-of_inputs n = length-map (range_with_len 1 n) Number ∙ length-range_with_len 1 n

count-of_ports : (c : Control) (n : ℕ) → length (ports_by c n) ≡ n + length (control_ports c)
count-of_ports c n =
    length-append (map Number (range_with_len 1 n)) (control_ports c) ∙ ap (λ k. k + length (control_ports c)) (count-of_inputs n)

-- the names after those of the inputs
after-inputs : (c : Control) (n j : ℕ) → slice_index_or (names_by c n) (n + j) [] ≡ slice_index_or (later_names c) j []
after-inputs c n j =
    let inputs = map Number (range_with_len 1 n) in
    let front = map (port_name c) inputs in
    let rest = trigger_name ∷ now_name ∷ [] in
    let many : length front ≡ n = length-map inputs (port_name c) ∙ count-of_inputs n in
    ap (λ (xs : List (List ℕ)). slice_index_or (xs ++ rest) (n + j) []) (map-append (port_name c) inputs (control_ports c))
    ∙ ap (λ (xs : List (List ℕ)). slice_index_or xs (n + j) []) (append_assoc front (map (port_name c) (control_ports c)) rest)
    ∙ ap (λ k. slice_index_or (front ++ later_names c) (k + j) []) (sym many)
    ∙ get_or-append-add front (later_names c) j []

-- the names of the inputs and controls alone
pub trigger-port-named : (c : Control) (n : ℕ) → is_triggered c ≡ true →
    slice_index_or (map (port_name c) (ports_by c n)) (n + enable_count c) [] ≡ trigger_param c
trigger-port-named c n is =
    let inputs = map Number (range_with_len 1 n) in
    let front = map (port_name c) inputs in
    let later = map (port_name c) (control_ports c) in
    let many : length front ≡ n = length-map inputs (port_name c) ∙ count-of_inputs n in
    ap (λ (xs : List (List ℕ)). slice_index_or xs (n + enable_count c) []) (map-append (port_name c) inputs (control_ports c))
    ∙ ap (λ k. slice_index_or (front ++ later) (k + enable_count c) []) (sym many)
    ∙ get_or-append-add front later (enable_count c) [] ∙ here c is
  where
    here : (c : Control) → is_triggered c ≡ true →
        slice_index_or (map (port_name c) (control_ports c)) (enable_count c) [] ≡ trigger_param c
    here Plain is = absurd (cc)
    here (Enabled reset) is = absurd (cc)
    here (Triggered edge) is = refl
    here (Both reset edge) is = refl

pub enable-named : (c : Control) (n : ℕ) → is_enabled c ≡ true → slice_index_or (names_by c n) n [] ≡ control_name
enable-named c n is =
    let here : n ≡ n + 0 = omega arith in
    ap (λ k. slice_index_or (names_by c n) k []) here ∙ after-inputs c n 0 ∙ first c is
  where
    first : (c : Control) → is_enabled c ≡ true → slice_index_or (later_names c) 0 [] ≡ control_name
    first Plain is = absurd (cc)
    first (Enabled reset) is = refl
    first (Triggered edge) is = absurd (cc)
    first (Both reset edge) is = refl

pub trigger-named : (c : Control) (n : ℕ) → is_triggered c ≡ true → slice_index_or (names_by c n) (n + enable_count c) [] ≡ trigger_param c
trigger-named c n is = after-inputs c n (enable_count c) ∙ then_name c is
  where
    then_name : (c : Control) → is_triggered c ≡ true → slice_index_or (later_names c) (enable_count c) [] ≡ trigger_param c
    then_name Plain is = absurd (cc)
    then_name (Enabled reset) is = absurd (cc)
    then_name (Triggered edge) is = refl
    then_name (Both reset edge) is = refl

pub memory-named : (c : Control) (n : ℕ) → slice_index_or (names_by c n) (length (ports_by c n)) [] ≡ trigger_name
memory-named c n =
    ap (λ k. slice_index_or (names_by c n) k []) (count-of_ports c n) ∙ after-inputs c n (length (control_ports c)) ∙ after_ports c
  where
    after_ports : (c : Control) → slice_index_or (later_names c) (length (control_ports c)) [] ≡ trigger_name
    after_ports Plain = refl
    after_ports (Enabled reset) = refl
    after_ports (Triggered edge) = refl
    after_ports (Both reset edge) = refl

pub now-named : (c : Control) (n : ℕ) → slice_index_or (names_by c n) (length (ports_by c n) + 1) [] ≡ now_name
now-named c n =
    let many = count-of_ports c n in
    let here : length (ports_by c n) + 1 ≡ n + (length (control_ports c) + 1) = omega arith in
    ap (λ k. slice_index_or (names_by c n) k []) here ∙ after-inputs c n (length (control_ports c) + 1) ∙ last c
  where
    last : (c : Control) → slice_index_or (later_names c) (length (control_ports c) + 1) [] ≡ now_name
    last Plain = refl
    last (Enabled reset) = refl
    last (Triggered edge) = refl
    last (Both reset edge) = refl
