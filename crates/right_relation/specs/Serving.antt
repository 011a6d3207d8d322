-- What a system's procedures do in a tick by its header: the one statement that a system's code
-- takes of its children and gives of itself.
use Rattle.std.specs.Prelude.{◌≡◌, ℕ, ◌%◌, ◌<◌, ◌≤◌, Bool, ◌&&◌, if◌then◌else◌, List, [], ◌∷◌, ◌++◌, map, length, slice_index, IsTrue, IsFalse, ℤ, pos}
use Rattle.std.specs.List.{AllZip, list_any, range_with_len}
use Rattle.modules_profile.specs.SystemHeader.{SystemHeader}
use Rattle.base_core.specs.Ports.{has_bit}
use Rattle.modules_profile.specs.Headers.{header_functions, header_function, taken}
use Rattle.base_core.specs.Numbers.{int_at}
use Rattle.c_semantics.specs.Cells.{number_at}
use Rattle.emit_shape.specs.Heads.{Head, out_heads, update_head, start_head, reset_head}
use Rattle.right_relation.specs.Instances.{Act, out, update, reset, none_called, OuterTick, InstanceTick, fields_after, Offered, Offer, offered_for, calls_at, Performs}

-- the arguments of a call in a tick whose number counts modulo a cycle
abbrev pub act_values : SystemHeader → ℕ → OuterTick → Act → List ℤ
act_values h cycle outer (out j) =
    pos (outer.t % cycle) ∷ taken h j (outer.inputs ++ outer.controls)
act_values h cycle outer update = pos (outer.t % cycle) ∷ outer.inputs ++ outer.controls
act_values h cycle outer reset = []

-- The acts that may come: a function that wasn't called, the update after all functions, both
-- where the system around is active; a reset where a subsystem around is off, and then nothing
-- else.
abbrev pub MayCome : SystemHeader → OuterTick → (ℕ → Bool) → Act → Type 0
MayCome h outer called (out j) =
    IsTrue outer.parent × (0 < j) × (j ≤ length (header_functions h)) × IsFalse (called j)
MayCome h outer called update =
    IsTrue outer.parent × ((j : ℕ) → 0 < j → j ≤ length (header_functions h) → IsTrue (called j))
MayCome h outer called reset = IsTrue outer.is_off_around × (called ≡ none_called)

-- whether a called function gives output k, from 0
abbrev pub is_given : SystemHeader → (ℕ → Bool) → ℕ → Bool
is_given h called k =
    list_any (λ j. called j && has_bit (header_function h j).outputs k)
    (range_with_len 1 (length (header_functions h)))

-- what the log says of the call itself; a reset isn't logged
abbrev pub own_entry : Offer → Act → List ℕ
own_entry o (out j) = (offered_for o (out j)).number ∷ []
own_entry o update = o.update.number ∷ []
own_entry o reset = []

-- a procedure takes arguments of the types of a head
abbrev pub Takes : Offered → Head → Type 0
Takes o h = o.routine.params ≡ map (λ q. q.type) h.params

-- these procedures are those of the header, and there is a place for each output
pub record IsOfferOf (h : SystemHeader) (o : Offer) : Type 0 where
  pub outs : AllZip Takes o.outs (out_heads h)
  pub update : Takes o.update (update_head h)
  pub start : Takes o.start (start_head h)
  pub reset : Takes o.reset (reset_head h)
  pub places : length o.places ≡ length h.outputs

-- An instance of the system with this header in a tick as it is outside: outputs of called
-- functions have their values, the others those before, and at the next tick all have their values;
-- each act that may come does what the instance says; and without an act nothing changes.
pub record Serves (h : SystemHeader) (o : Offer) (cycle : ℕ) (outer : OuterTick)
    (i : InstanceTick) : Type 0 where
  pub outputs : (called : ℕ → Bool) (k : ℕ) → k < length h.outputs →
      number_at (i.standing called) (slice_index o.places k)
      ≡ int_at (if is_given h called k then outer.outputs else outer.before) k
  pub stay : (k : ℕ) → k < length h.outputs →
      number_at i.after (slice_index o.places k) ≡ int_at outer.outputs k
  pub acts : (called : ℕ → Bool) (act : Act) → MayCome h outer called act →
      Performs (offered_for o act).routine (act_values h cycle outer act) (i.standing called)
      (fields_after i called act) (i.most called act) (i.log called act) (i.stored called act)
  pub logged : (called : ℕ → Bool) (act : Act) → MayCome h outer called act →
      calls_at [] (i.log called act) ≡ own_entry o act
  pub rests : IsFalse outer.parent → IsFalse outer.is_off_around → i.after ≡ i.standing none_called
