-- How an instance lives through a run of one of the systems around it, or of its own.
use Rattle.std.specs.Prelude.{◌≡◌, ◌⊎◌, ℕ, zero, suc, ◌<◌, ◌≤◌, Bool, List, [], ◌∷◌, ◌++◌, map, filter, length, slice_get, slice_index_or, Contains, IsPermutation, IsTrue, Option, Some, ℤ}
use Rattle.std.specs.List.{AllByRecursion, range_with_len}
use Rattle.diagram_blocks.specs.Meaning.{has_value}
use Rattle.diagram_meaning.specs.Rows.{row_at, rows_of, around}
use Rattle.diagram_meaning.specs.Run.{active_in}
use Rattle.diagram_meaning.specs.Laws.{Run, IsRunOver}
use Rattle.diagram_meaning.specs.RunLaws.{IsSystemWithin}
use Rattle.diagram_meaning.specs.Traces.{IsTrace}
use Rattle.modules_profile.specs.declared.ChildUse.{ChildUse}
use Rattle.modules_profile.specs.Headers.{header_functions}
use Rattle.modules_profile.specs.Systems.{systems_inside}
use Rattle.c_semantics.specs.Cells.{Cells}
use Rattle.emit_shape.specs.Names.{value_name}
use Rattle.right_relation.specs.Forms.{HasForms}
use Rattle.right_relation.specs.Instances.{Act, out, update, reset, none_called, OuterTick, InstanceTick, instance_at, calls_at}
use Rattle.right_relation.specs.Serving.{Serves}
use Rattle.right_relation.specs.Standing.{outer_tick_of}
use Rattle.right_relation.specs.Accounts.{log_along, most_along, stored_along}
use Rattle.right_relation.specs.Relation.{KeepsRelation}
use Rattle.right_relation.specs.RunTicks.{Untouched, nothing_untouched, tick_at}
use Rattle.right_relation.specs.RunTickLaws.{AreItems}
use Rattle.right_claim.specs.Paths.{place_in, path_inside}
use Rattle.right_claim.specs.Calls.{HasCallsOf}
use Rattle.right_claim.specs.Held.{HoldsRun}
use Rattle.right_linking.specs.Parts.{Parts, program_of, diagram, all_systems, coded_header, Views}
use Rattle.right_linking.specs.Places.{FormsAreOfSlots}
use Rattle.right_linking.specs.Offers.{offer_of, SystemsOfferTheirs}
use Rattle.right_linking.specs.Starts.{budget_inside, Renewed}

-- the acts of a tick in which the functions are called in this order
abbrev pub whole_tick : List ℕ → List Act
whole_tick js = map out js ++ update ∷ []

-- the numbers of a system's functions
abbrev pub function_numbers : (a : Parts) → Views a → Option ℕ → List ℕ
function_numbers a v n = range_with_len 1 (length (header_functions (coded_header (v.at n))))

-- A run of the system s over a trace.
module _ (a : Parts) (v : Views a) (s : Option ℕ) (xs : List (List ℤ)) (run : Run) where
  -- the tick as the code around the system n meets it; it shows no rings and no filler
  abbrev pub outer_at : Option ℕ → ℕ → OuterTick
  outer_at n t = outer_tick_of (v.at n).local (tick_at (diagram a) s xs run n nothing_untouched t)

  -- whether the system around subsystem e is active
  abbrev pub is_around_active : ℕ → ℕ → Bool
  is_around_active t e =
      active_in (diagram a) s (slice_index_or xs t []) (slice_index_or run.values t [])
      (slice_index_or run.triggers t []) (around (diagram a).rows s e)

  -- these acts store each value of the system o, which is at this path, as often as this at most
  abbrev pub StoredAtMost : InstanceTick → List Act → (path : List ℕ) → Option ℕ → ℕ → Type 0
  StoredAtMost i acts path o most =
      AllByRecursion
      (λ b. stored_along i none_called acts path (place_in (program_of a) o (value_name b))
      ≤ most) (filter (λ b. has_value (row_at (diagram a).rows b).kind)
      (rows_of (diagram a).rows o))

  -- What the acts of a whole tick t come to inside an instance of the system n: on each instance
  -- inside the calls of the tick and no others, each value stored once at most, within the budgets.
  pub record IsWhole (n : Option ℕ) (i : InstanceTick) (t : ℕ) (js : List ℕ) : Type 0 where
    pub calls : AllByRecursion (λ e. HasCallsOf (program_of a) (Some e) (is_around_active t e)
        (calls_at (path_inside (program_of a) (diagram a).rows n e)
        (log_along i none_called (whole_tick js)))) (systems_inside (diagram a).rows n)
    pub no_other : (path : List ℕ) → (calls_at path (log_along i none_called (whole_tick js)) ≡ [])
        ⊎ Contains
        ([] ∷ map (path_inside (program_of a) (diagram a).rows n)
        (systems_inside (diagram a).rows n)) path
    pub stored : StoredAtMost i (whole_tick js) [] n 1
    pub stored_inside : AllByRecursion
        (λ e. StoredAtMost i (whole_tick js) (path_inside (program_of a) (diagram a).rows n e)
        (Some e) 1) (systems_inside (diagram a).rows n)
    pub in_time : most_along i none_called (whole_tick js) ≤ budget_inside a v n

  -- a reset calls nothing that is logged and stores no value
  pub record IsQuiet (n : Option ℕ) (i : InstanceTick) : Type 0 where
    pub calls : i.log none_called reset ≡ []
    pub stored : StoredAtMost i (reset ∷ []) [] n 0
    pub stored_inside : AllByRecursion
        (λ e. StoredAtMost i (reset ∷ []) (path_inside (program_of a) (diagram a).rows n e)
        (Some e) 0) (systems_inside (diagram a).rows n)
    pub in_time : i.most none_called reset ≤ budget_inside a v n

  -- the accounts of an instance of the system n in tick t: of all its calls, and of a reset
  pub record HasAccounts (n : Option ℕ) (t : ℕ) (i : InstanceTick) : Type 0 where
    pub whole : IsTrue (outer_at n t).parent → (js : List ℕ) →
        IsPermutation (function_numbers a v n) js → IsWhole n i t js
    pub resets : IsTrue (outer_at n t).is_off_around → IsQuiet n i

  -- An instance of the system n that was started from these fields lives through the run: in each
  -- tick it serves, what it leaves is how it begins the next tick, in the first it is as
  -- its start left it, and what it leaves holds what the run has.
  pub record Lives (renewed : Renewed a v) (n : Option ℕ) (before : Cells) : Type 0 where
    pub at : ℕ → InstanceTick
    pub serves : (t : ℕ) → t < length xs →
        Serves (coded_header (v.at n)) (offer_of a v n) a.hyper (outer_at n t) (at t)
    pub follows : (t : ℕ) → suc t < length xs → (at t).after ≡ (at (suc t)).standing none_called
    pub first : 0 < length xs → (at zero).standing none_called ≡ (renewed.started n).renewed before
    pub accounts : (t : ℕ) → t < length xs → HasAccounts n t (at t)
    pub holds : (t : ℕ) → t < length xs → HoldsRun (program_of a) (diagram a) n run t (at t).after

-- each instance of a system lives through each run of the system, or of one around it
abbrev pub EachInstanceLives : (a : Parts) (v : Views a) → Renewed a v → Type 0
EachInstanceLives a v renewed = (s : Option ℕ) (xs : List (List ℤ)) (run : Run) →
    IsTrace (diagram a) s xs → IsRunOver (diagram a) s xs run →
    (n : Option ℕ) → Contains (all_systems a) n → IsSystemWithin (diagram a).rows s n →
    (before : Cells) → HasForms (renewed.started n).forms before →
    Lives a v s xs run renewed n before

-- Where an instance keeps the relation of its code in a tick, and each of its children serves and
-- has its accounts, it has its own. What a child logs of its own calls is known from its serving
-- alone.
abbrev pub AccountsFollow : Type 0
AccountsFollow = (a : Parts) (v : Views a) (s : Option ℕ) (xs : List (List ℤ)) (run : Run) →
    IsTrace (diagram a) s xs → IsRunOver (diagram a) s xs run →
    (place : ℕ) (n : Option ℕ) (stands : slice_get (all_systems a) place ≡ Some n) →
    IsSystemWithin (diagram a).rows s n →
    (untouched : Untouched) → AreItems (diagram a) untouched.items → (t : ℕ) → t < length xs →
    (children : List InstanceTick) →
    (kept : KeepsRelation (v.at n).local (coded_header (v.at n)) (v.at n).slots
    (v.each place n stands).behaves.held (v.each place n stands).behaves.counted a.hyper
    (tick_at (diagram a) s xs run n untouched t) (offer_of a v n) children) →
    ((k : ℕ) (u : ChildUse) → slice_get (v.at n).local.children k ≡ Some u →
    Serves (coded_header (v.at u.header.row)) (offer_of a v u.header.row) a.hyper
    (outer_at a v s xs run u.header.row t) (instance_at children k)) →
    ((k : ℕ) (u : ChildUse) → slice_get (v.at n).local.children k ≡ Some u →
    HasAccounts a v s xs run u.header.row t (instance_at children k)) →
    HasAccounts a v s xs run n t kept.own

-- Given that, what each system offers, and what its fields hold.
abbrev pub LivesFollow : Type 0
LivesFollow = SystemsOfferTheirs → FormsAreOfSlots → AccountsFollow →
    (a : Parts) (v : Views a) (renewed : Renewed a v) → EachInstanceLives a v renewed
