-- An instance of a system as the code around it meets it in a tick: its fields as a function of
-- what was called.
use Rattle.std.specs.Prelude.{◌≡◌, ℕ, ◌-◌, ◌+◌, ◌≤◌, Bool, true, false, ◌||◌, ◌&&◌, ◌==◌, List, [], ◌∷◌, map, filter, filter_map, count_by, slice_index_or, Option, Some, None, ℤ}
use Rattle.c_semantics.specs.Cells.{Cells, no_cells}
use Rattle.c_semantics.specs.Values.{step_limit}
use Rattle.c_semantics.specs.Machine.{LoggedCall, StoredField, After, Outcome, done, stuck, Routine, no_routine}

-- what is done to an instance in a tick: function j is called, or the update, or it is reset
pub data Act : Type 0 where
  out : (function : ℕ) → Act
  update : Act
  reset : Act

-- the functions called so far
abbrev pub none_called : ℕ → Bool
none_called j = false

abbrev pub with_called : (ℕ → Bool) → ℕ → ℕ → Bool
with_called called j i = (i == j) || called i

-- those called after an act; after an update or a reset the next tick begins
abbrev pub called_after : (ℕ → Bool) → Act → ℕ → Bool
called_after called (out j) = with_called called j
called_after called update = none_called
called_after called reset = none_called

-- A tick as an instance meets it from outside: whether the system around is active, and whether one
-- around is off. Values of outputs are by port, before the tick and in it.
pub record OuterTick : Type 0 where
  pub t : ℕ
  pub parent : Bool
  pub is_off_around : Bool
  pub inputs : List ℤ
  pub controls : List ℤ
  pub before : List ℤ
  pub outputs : List ℤ

-- An instance in a tick: its fields where these functions were called, and at the next tick; and
-- for each act from there the most steps that it takes, the calls that it logs, and how often at
-- most it stores a field of an instance inside.
pub record InstanceTick : Type 0 where
  pub standing : (ℕ → Bool) → Cells
  pub after : Cells
  pub most : (ℕ → Bool) → Act → ℕ
  pub log : (ℕ → Bool) → Act → List LoggedCall
  pub stored : (ℕ → Bool) → Act → List ℕ → ℕ → ℕ

abbrev pub no_instance : InstanceTick
no_instance =
    record {
      standing = λ called. no_cells;
      after = no_cells;
      most = λ called act. 0;
      log = λ called act. [];
      stored = λ called act path field. 0;
    }

abbrev pub instance_at : List InstanceTick → ℕ → InstanceTick
instance_at instances k = slice_index_or instances k no_instance

-- the fields after an act
abbrev pub fields_after : InstanceTick → (ℕ → Bool) → Act → Cells
fields_after i called (out j) = i.standing (with_called called j)
fields_after i called update = i.after
fields_after i called reset = i.after

-- a procedure with its number in the program
pub record Offered : Type 0 where
  pub routine : Routine
  pub number : ℕ

abbrev pub nothing_offered : Offered
nothing_offered = record { routine = no_routine; number = 0 }

-- the public procedures of an instance, and by port the positions of its outputs' fields
pub record Offer : Type 0 where
  pub outs : List Offered
  pub update : Offered
  pub start : Offered
  pub reset : Offered
  pub places : List ℕ

abbrev pub no_offer : Offer
no_offer =
    record {
      outs = [];
      update = nothing_offered;
      start = nothing_offered;
      reset = nothing_offered;
      places = [];
    }

abbrev pub offer_at : List Offer → ℕ → Offer
offer_at offers k = slice_index_or offers k no_offer

-- the procedure of an act
abbrev pub offered_for : Offer → Act → Offered
offered_for o (out j) = slice_index_or o.outs (j - 1) nothing_offered
offered_for o update = o.update
offered_for o reset = o.reset

-- ---- Logs and stores by paths

abbrev pub same_path : List ℕ → List ℕ → Bool
same_path [] [] = true
same_path [] (g ∷ gs) = false
same_path (f ∷ fs) [] = false
same_path (f ∷ fs) (g ∷ gs) = (f == g) && same_path fs gs

-- the procedures that were called on the instance at a path, in order
abbrev pub calls_at : List ℕ → List LoggedCall → List ℕ
calls_at path log = map (λ c. c.procedure) (filter (λ c. same_path path c.path) log)

-- how often a field of the instance at a path was stored
abbrev pub stores_at : List ℕ → ℕ → List StoredField → ℕ
stores_at path field stores = count_by (λ st. same_path path st.path && (st.field == field)) stores

-- a call inside the instance at a field, seen from there
abbrev pub call_inside : ℕ → LoggedCall → Option LoggedCall
call_inside f c = elim c.path as (λ path. Option LoggedCall) [
  | [] ↦ None
  | g ∷ path ↦ if_option (f == g) (record { path = path; procedure = c.procedure })
]
  where
    if_option : Bool → LoggedCall → Option LoggedCall
    if_option true d = Some d
    if_option false d = None

-- the calls inside the instance at a field, seen from there
abbrev pub calls_inside : ℕ → List LoggedCall → List LoggedCall
calls_inside f log = filter_map (call_inside f) log

-- ---- What a procedure does

-- an execution is done, and P holds of what it leaves
abbrev pub OnDone : Outcome → (After → Type 0) → Type 0
OnDone (done after) P = P after
OnDone (stuck at cells) P = ⊥

-- what an execution leaves: these fields, at most so many steps more, this log, and no field is
-- stored more often
pub record Leaves (cells : Cells) (steps : ℕ) (log : List LoggedCall) (stored : List ℕ → ℕ → ℕ)
    (a : After) : Type 0 where
  pub fields : a.cells ≡ cells
  pub in_time : a.steps ≤ steps
  pub calls : a.log ≡ log
  pub stores : (path : List ℕ) (field : ℕ) → stores_at path field a.stores ≤ stored path field

-- Wherever there is room for the steps, the procedure isn't stuck and leaves this.
abbrev pub Performs : Routine → List ℤ → (before after : Cells) → ℕ → List LoggedCall →
    (List ℕ → ℕ → ℕ) → Type 0
Performs r values before after most log stored =
    (steps : ℕ) → steps + most ≤ step_limit →
    OnDone (r.run values before steps) (Leaves after (steps + most) log stored)
