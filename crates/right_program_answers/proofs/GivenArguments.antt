-- The values that a script gives are the arguments that an act takes in a tick of the run that fits it.
use Rattle.std.specs.Prelude.{◌≡◌, ℕ, suc, Bool, true, false, cond, if◌then◌else◌, List, [], ◌∷◌, ◌++◌, map, filter, zip, length, slice_index_or, Option, Some, None, ℤ, refl}
use Rattle.std.specs.List.{AllByRecursion, AllZip, range_with_len}
use Rattle.std.proofs.Common.{sym, ap, ap₂, ◌∙◌}
use Rattle.std.proofs.lemmas.List.{map-append}
use Rattle.base_core.specs.declared.Port.{Port}
use Rattle.base_core.specs.declared.Port.TheVariants.{Number}
use Rattle.diagram_meaning.specs.Rows.{row_at, inports_of, system_control, enclosing, column}
use Rattle.diagram_meaning.specs.Inputs.{control_wires_of, entering_wires, input_ports}
use Rattle.base_core.specs.Ports.{control_ports, bit_of, has_bit, ports_in}
use Rattle.diagram_meaning.specs.Diagram.{Diagram, type_at}
use Rattle.diagram_meaning.specs.Run.{value_at, active_in}
use Rattle.diagram_meaning.specs.Laws.{Run}
use Rattle.diagram_meaning.specs.SystemRuns.{system_tick, around_system}
use Rattle.modules_profile.specs.declared.Function.{Function}
use Rattle.modules_profile.specs.SystemProfile.{SystemProfile}
use Rattle.modules_profile.specs.Headers.{header_of, ports_of_header, taken_by_function}
use Rattle.modules_profile.proofs.lemmas.PortRows.{same-self}
use Rattle.right_claim.specs.Scripts.{Given, given_of}

length-made : {A B : Type 0} (f : A → B) (xs : List A) → length (map f xs) ≡ length xs
length-made f [] = refl
length-made f (x ∷ xs) = ap suc (length-made f xs)

made-made : {A B C : Type 0} (f : B → C) (g : A → B) (xs : List A) → map f (map g xs) ≡ map (λ x. f (g x)) xs
made-made f g [] = refl
made-made f g (x ∷ xs) = ap (λ ys. f (g x) ∷ ys) (made-made f g xs)

-- values that are given are those that inputs have
pub given-values : (R : Port → ℤ → Type 0) (f : Port → ℤ) (ports : List Port) (values : List ℤ) → AllZip R ports values →
    AllByRecursion (λ (g : Given). f g.input ≡ g.value) (given_of ports values) → values ≡ map f ports
given-values R f [] [] types given = refl
given-values R f [] (v ∷ values) types given = absurd types
given-values R f (p ∷ ports) [] types given = absurd types
given-values R f (p ∷ ports) (v ∷ values) types given = ap₂ (λ w ws. w ∷ ws) (sym given.0) (given-values R f ports values types.1 given.1)

-- what a function takes of the values of all inputs
pub taken-values : (function : Function) (f : Port → ℤ) (ports : List Port) →
    taken_by_function function ports (map f ports) ≡ map f (ports_in function.inputs ports)
taken-values function f [] = refl
taken-values function f (p ∷ ports) = by (has_bit function.inputs (bit_of p)) (taken-values function f ports)
  where
    by : (b : Bool) → taken_by_function function ports (map f ports) ≡ map f (ports_in function.inputs ports) →
        map (λ (e : Port × ℤ). e.1)
        (cond b ((p, f p) ∷ filter (λ (e : Port × ℤ). has_bit function.inputs (bit_of e.0)) (zip ports (map f ports)))
        (filter (λ (e : Port × ℤ). has_bit function.inputs (bit_of e.0)) (zip ports (map f ports))))
        ≡ map f (cond b (p ∷ ports_in function.inputs ports) (ports_in function.inputs ports))
    by true rest = ap (λ vs. f p ∷ vs) rest
    by false rest = rest

-- the inputs of a header are those of its system
pub ports-are : (d : Diagram) (s : Option ℕ) (profile : SystemProfile) → ports_of_header (header_of d s profile) ≡ input_ports d.rows s
ports-are d s profile =
    ap (λ n. map Number (range_with_len 1 n) ++ control_ports (system_control d.rows s))
    (length-made (type_at d.types) (inports_of d.rows s))

module _ (d : Diagram) (s : Option ℕ) (xs : List (List ℤ)) (run : Run) (t : ℕ) where
  -- what an input has in the trace
  abbrev pub traced : Port → ℤ
  traced p = value_at (slice_index_or xs t []) (column d.rows s p)

  -- the tick of the system itself has those
  pub all-traced : (system_tick d s xs run s t).inputs ++ (system_tick d s xs run s t).controls ≡ map traced (input_ports d.rows s)
  all-traced =
      ap₂ (λ vs ws. vs ++ ws)
      (ap (λ b. if b then map (λ k. traced (Number k)) (range_with_len 1 (length (inports_of d.rows s))) else map
      (value_at (slice_index_or run.values t [])) (entering_wires d.rows s)) (same-self s)
      ∙ sym (made-made traced Number (range_with_len 1 (length (inports_of d.rows s)))))
      (ap (λ b. if b then map traced (control_ports (system_control d.rows s)) else map (value_at (slice_index_or run.values t []))
      (control_wires_of d.rows s)) (same-self s))
      ∙ sym (map-append traced (map Number (range_with_len 1 (length (inports_of d.rows s)))) (control_ports (system_control d.rows s)))

  -- nothing is around it
  none-around : (o : Option ℕ) → around_system d.rows o o ≡ []
  none-around None = refl
  none-around (Some e) = ap (λ b. if b then [] else enclosing d.rows (Some e) (row_at d.rows e).owner) (same-self (Some e))

  pub active-around : (system_tick d s xs run s t).parent ≡ true
  active-around =
      ap (active_in d s (slice_index_or xs t []) (slice_index_or run.values t []) (slice_index_or run.triggers t [])) (none-around s)
