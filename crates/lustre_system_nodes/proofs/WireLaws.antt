-- The wires that enter a subsystem: those of its Inports by number, and then those of its controls.
use Rattle.std.proofs.Common.{◌≡◌, ℕ, suc, ◌+◌, List, [], ◌∷◌, ◌++◌, map, length, Option, Some, refl, sym, ap, ap₂, ◌∙◌, arith}
use Rattle.std.specs.Prelude.{slice_get}
use Rattle.std.specs.List.{range_with_len}
use Rattle.std.specs.Option.{option_and_then}
use Rattle.std.proofs.lemmas.List.{map-append}
use Rattle.base_core.specs.declared.Control.{Control}
use Rattle.base_core.specs.declared.Control.TheVariants.{Plain, Enabled, Triggered, Both}
use Rattle.base_core.specs.declared.Port.TheVariants.{Number}
use Rattle.base_core.specs.Ports.{control_ports}
use Rattle.diagram_meaning.specs.declared.table.Row.{Row}
use Rattle.diagram_meaning.specs.Inputs.{input_ports, control_row}
use Rattle.diagram_meaning.specs.Rows.{row_at, control_at, inports_of}
use Rattle.modules_profile.specs.Systems.{entering_wire}

-- what belongs to numbers from one on, as what belongs to the members with these numbers
numbered-from : {A B : Type 0} (g : ℕ → B) (f : A → B) (xs : List A) (a : ℕ) →
    ((k : ℕ) (x : A) → slice_get xs k ≡ Some x → g (a + k) ≡ f x) → map g (range_with_len a (length xs)) ≡ map f xs
numbered-from g f [] a each = refl
numbered-from g f (x ∷ xs) a each =
    ap₂ (λ y ys. y ∷ ys) ((let here : a ≡ a + 0 = omega arith in ap g here) ∙ each 0 x refl)
    (numbered-from g f xs (a + 1) (λ k y at. (let next : a + 1 + k ≡ a + suc k = omega arith in ap g next) ∙ each (suc k) y at))

module _ (rows : List Row) (e : ℕ) where
  abbrev controls : Control → List (Option ℕ)
  controls c = map (control_row rows (Some e)) (control_ports c)

  abbrev first_wire : ℕ → Option ℕ
  first_wire i = slice_get (row_at rows i).inputs 0

  abbrev inports : List ℕ
  inports = inports_of rows (Some e)

  numbered : map (λ k. entering_wire rows e (Number k)) (range_with_len 1 (length inports)) ≡ map first_wire inports
  numbered =
      numbered-from (λ k. entering_wire rows e (Number k)) first_wire inports 1
      (λ k i at. (let next : 1 + k ≡ suc k = omega arith in ap (λ n. entering_wire rows e (Number n)) next)
      ∙ ap (option_and_then first_wire) at)

  of-controls : (c : Control) → map (entering_wire rows e) (control_ports c) ≡ controls c
  of-controls Plain = refl
  of-controls (Enabled reset) = refl
  of-controls (Triggered edge) = refl
  of-controls (Both reset edge) = refl

  mapped-twice : (ks : List ℕ) → map (entering_wire rows e) (map Number ks) ≡ map (λ k. entering_wire rows e (Number k)) ks
  mapped-twice [] = refl
  mapped-twice (k ∷ ks) = ap (λ ws. entering_wire rows e (Number k) ∷ ws) (mapped-twice ks)

  pub all-wires : (first all : List (Option ℕ)) (own : List ℕ) → own ≡ inports → first ≡ map first_wire own →
      all ≡ first ++ controls (control_at rows e) → all ≡ map (entering_wire rows e) (input_ports rows (Some e))
  all-wires first all own are read made =
      made
      ∙ ap₂ (λ (l m : List (Option ℕ)). l ++ m)
      (read ∙ ap (map first_wire) are ∙ sym numbered ∙ sym (mapped-twice (range_with_len 1 (length inports))))
      (sym (of-controls (control_at rows e)))
      ∙ sym (map-append (entering_wire rows e) (map Number (range_with_len 1 (length inports))) (control_ports (control_at rows e)))
