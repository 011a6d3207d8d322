-- Types found by following rules.
use Rattle.std.specs.Prelude.{◌≡◌, ℕ, zero, suc, false, List, [], ◌∷◌, None, refl}
use Rattle.base_core.specs.declared.TimeText.TheVariants.{Inherit as NoTime}
use Rattle.base_fixed_point.specs.declared.TypeText.{TypeText}
use Rattle.base_fixed_point.specs.declared.TypeText.TheVariants.{Inherit, Logical, Back, Fixed}
use Rattle.base_fixed_point.specs.Types.{int8, boolean}
use Rattle.diagram_blocks.specs.declared.Kind.{Kind}
use Rattle.diagram_blocks.specs.declared.Kind.TheVariants.{Inport, Outport, Ground, UnitDelay, Sum, Convert}
use Rattle.diagram_meaning.specs.declared.table.Row.{Row}
use Rattle.diagram_meaning.specs.Types.{type_within, HasType, HasNoType}
use Rattle.diagram_meaning.specs.RunExamples.{how, zero_initial}

abbrev typed : Kind → List ℕ → TypeText → Row
typed kind inputs text =
    record {
      place = record { row = 0; line = 0 };
      owner = None;
      kind = kind;
      inputs = inputs;
      type_text = text;
      time_text = NoTime;
    }

-- two delays that feed each other; an input, a sum of it and a delay; a ground after an output; a conversion without a type
abbrev rows : List Row
rows =
    typed (UnitDelay zero_initial) (1 ∷ []) Inherit ∷ typed (UnitDelay zero_initial) (0 ∷ []) Inherit
    ∷ typed (Inport 1) [] (Fixed int8) ∷ typed (Sum 2 0 how) (2 ∷ 0 ∷ []) Inherit ∷ typed (UnitDelay zero_initial) (3 ∷ []) Inherit
    ∷ typed Ground [] Inherit ∷ typed (Outport 1 false zero_initial) (5 ∷ []) Inherit
    ∷ typed (Convert how) (2 ∷ []) Back ∷ typed (Sum 2 0 how) (7 ∷ 2 ∷ []) Logical ∷ []

goes-round : (n : ℕ) → (type_within rows n 0 ≡ None) × (type_within rows n 1 ≡ None)
goes-round zero = (refl, refl)
goes-round (suc n) = ((goes-round n).1, (goes-round n).0)

pub delays_have_none : HasNoType rows 0
delays_have_none n = (goes-round n).0

pub sum_has_that_of_its_input : HasType rows 3 int8
sum_has_that_of_its_input = (2, refl)

pub so_has_its_delay : HasType rows 4 int8
so_has_its_delay = (3, refl)

pub ground_is_boolean : HasType rows 5 boolean
ground_is_boolean = refl

pub behind_ground_is_none : HasNoType rows 6
behind_ground_is_none zero = refl
behind_ground_is_none (suc zero) = refl
behind_ground_is_none (suc (suc n)) = refl

pub back_is_none : HasNoType rows 7
back_is_none zero = refl
back_is_none (suc n) = refl

pub logical_is_boolean : HasType rows 8 boolean
logical_is_boolean = (1, refl)
