-- How the instances of a program are started and reset: each system's procedure makes what it
-- should of any fields of its struct.
use Rattle.std.specs.Prelude.{◌≡◌, ℕ, ◌≤◌, List, ◌∷◌, map, sum_by, Contains, Option, Some}
use Rattle.std.specs.List.{AllByRecursion}
use Rattle.modules_profile.specs.LocalSystem.{LocalSystem}
use Rattle.modules_profile.specs.Systems.{systems_inside}
use Rattle.c_semantics.specs.Cells.{Cell, Cells, cells_at}
use Rattle.emit_shape.specs.Programs.{struct_place}
use Rattle.emit_shape.specs.Slots.{Slot}
use Rattle.right_relation.specs.Forms.{HasForms}
use Rattle.right_relation.specs.Instances.{Offered, Offer}
use Rattle.right_relation.specs.Budgets.{own_budget}
use Rattle.right_relation.specs.Renewals.{Renewal, Renews, IsStarted, IsReset, AllSlots}
use Rattle.right_claim.specs.Paths.{path_inside}
use Rattle.right_claim.specs.Anew.{field_count, forms_at}
use Rattle.right_linking.specs.Parts.{Parts, program_of, diagram, all_systems, Views}
use Rattle.right_linking.specs.Places.{FormsAreOfSlots}
use Rattle.right_linking.specs.Offers.{offer_of, SystemsOfferTheirs}

-- the budgets of a system and of all inside it
abbrev pub budget_inside : (a : Parts) → Views a → Option ℕ → ℕ
budget_inside a v n =
    sum_by (λ o. own_budget (v.at o).local) (n ∷ map Some (systems_inside (diagram a).rows n))

-- One of the procedures that the system n offers, from any fields of its struct, makes this of
-- them: of its own fields what it should, where its children are renewed so.
pub record IsRenewed (a : Parts) (v : Views a) (which : Offer → Offered) (IsSo : LocalSystem →
    List Renewal → Slot → Cell → Cell → Type 0)
    (renewals : Option ℕ → Renewal) (n : Option ℕ) : Type 0 where
  pub forms : (renewals n).forms ≡ forms_at (program_of a) (struct_place (program_of a) n)
  pub renews : Renews (which (offer_of a v n)) (renewals n)
  pub becomes : (before : Cells) → HasForms (renewals n).forms before →
      AllSlots (IsSo (v.at n).local (map (λ u. renewals u.header.row) (v.at n).local.children))
      (v.at n).slots before ((renewals n).renewed before)
  pub in_time : (renewals n).most ≤ budget_inside a v n
  pub short : (renewals n).most ≤ field_count (renewals n).forms

-- each system starts and is reset
pub record Renewed (a : Parts) (v : Views a) : Type 0 where
  pub started : Option ℕ → Renewal
  pub reset : Option ℕ → Renewal
  pub starts : AllByRecursion (IsRenewed a v (λ o. o.start) IsStarted started) (all_systems a)
  pub resets : AllByRecursion (IsRenewed a v (λ o. o.reset) IsReset reset) (all_systems a)

-- Given what each system offers, and what its fields hold.
abbrev pub SystemsAreRenewed : Type 0
SystemsAreRenewed = SystemsOfferTheirs → FormsAreOfSlots → (a : Parts) (v : Views a) → Renewed a v

-- where an instance is renewed, so is that of each system inside, at its path
abbrev pub ReachInside : Parts → (Option ℕ → Renewal) → Type 0
ReachInside a renewals = (n : Option ℕ) → Contains (all_systems a) n → (e : ℕ) →
    Contains (systems_inside (diagram a).rows n) e →
    (before : Cells) → HasForms (renewals n).forms before →
    cells_at (path_inside (program_of a) (diagram a).rows n e) ((renewals n).renewed before)
    ≡ (renewals (Some e)).renewed
    (cells_at (path_inside (program_of a) (diagram a).rows n e) before)

-- Given what the fields of systems hold: a start, and a reset, reach all systems inside.
abbrev pub RenewalsReachInside : Type 0
RenewalsReachInside = FormsAreOfSlots → (a : Parts) (v : Views a) (renewed : Renewed a v) →
    ReachInside a renewed.started × ReachInside a renewed.reset
