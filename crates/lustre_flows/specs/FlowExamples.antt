-- Small files with their flows, and ticks that are stuck.
use Rattle.std.specs.Prelude.{◌≡◌, ℕ, false, ◌^◌, ◌-◌, List, [], ◌∷◌, map, slice_index_or, codes, ℤ, pos, neg_ℤ, Option, Some, None, refl}
use Rattle.lustre_syntax.specs.declared.LusOp.TheVariants.{Add, Sub, Div, Mod, Mul, Lt}
use Rattle.lustre_syntax.specs.Tree.{int, Declared, number, name, negative, two, choice, arrow, previous, EquationTree, set, call, NodeTree, FileTree}
use Rattle.lustre_flows.specs.declared.stuck.LusStuck.{LusStuck}
use Rattle.lustre_flows.specs.declared.stuck.LusWhy.TheVariants.{Overflow, ZeroDivisor, Pre, Cycle}
use Rattle.lustre_flows.specs.Instances.{Instance, instance, no_calls, more_calls, is_complete}
use Rattle.lustre_flows.specs.Ticks.{done, fresh_root, root_pass, settled, stuck_place, tick, stuck_at}
use Rattle.lustre_flows.specs.Flows.{flows, outputs, flow_at}
use Rattle.lustre_flows.specs.FlowLaws.{Ranks, below}

-- names of `int`
abbrev pub ints : List (List ℕ) → List Declared
ints texts = map (λ text. record { text = text; type = int }) texts

-- a node with one input and one output, and further names
abbrev pub root_of : List (List ℕ) → List EquationTree → NodeTree
root_of others equations = record {
  text = codes "root";
  line = 1;
  inputs = 1;
  outputs = 1;
  names = ints (codes "u1" ∷ codes "y1" ∷ others);
  equations = equations;
}

abbrev pub file_of : List EquationTree → FileTree
file_of equations = record { nodes = root_of (codes "x" ∷ []) equations ∷ [] }

-- the place where a file is stuck over 1, 2, 3
abbrev pub three : List (List ℤ)
three = (pos 1 ∷ []) ∷ (pos 2 ∷ []) ∷ (pos 3 ∷ []) ∷ []

abbrev pub stuck_over : List EquationTree → Option LusStuck
stuck_over equations = (flows (file_of equations) three).stuck_place

abbrev pub outputs_over : List EquationTree → List (List ℤ)
outputs_over equations = outputs (file_of equations) three

-- ---- Values

-- `y1 = x; x = (7 -> (pre u1));`: the order of equations does not matter
pub delayed : outputs_over (set 4 1 (name 2) ∷ set 5 2 (arrow (number (pos 7)) (previous 0)) ∷ [])
    ≡ (pos 7 ∷ []) ∷ (pos 1 ∷ []) ∷ (pos 2 ∷ []) ∷ []
delayed = refl

-- `x = (u1 + (0 -> (pre x))); y1 = x;`
pub summed : outputs_over
    (set 4 2 (two Add (name 0) (arrow (number (pos 0)) (previous 2))) ∷ set 5 1 (name 2) ∷ [])
    ≡ (pos 1 ∷ []) ∷ (pos 3 ∷ []) ∷ (pos 6 ∷ []) ∷ []
summed = refl

-- `x = (if (u1 < 3) then u1 else y1); y1 = (if (u1 < 3) then x else 9);`: who waits for whom may
-- change from tick to tick
pub changing : outputs_over
    (set 4 2 (choice (two Lt (name 0) (number (pos 3))) (name 0) (name 1))
    ∷ set 5 1 (choice (two Lt (name 0) (number (pos 3))) (name 2) (number (pos 9))) ∷ [])
    ≡ (pos 1 ∷ []) ∷ (pos 2 ∷ []) ∷ (pos 9 ∷ []) ∷ []
changing = refl

-- quotients are cut towards 0, and remainders have the sign of the left side
pub quotients : outputs_over
    (set 4 2 (two Div (negative (number (pos 7))) (number (pos 2)))
    ∷ set 5 1 (two Add (two Mul (number (pos 100)) (name 2))
    (two Mod (negative (number (pos 7))) (number (pos 2)))) ∷ [])
    ≡ (neg_ℤ (pos 301) ∷ []) ∷ (neg_ℤ (pos 301) ∷ []) ∷ (neg_ℤ (pos 301) ∷ []) ∷ []
quotients = refl

-- ---- Feedback around a call

-- `node both (x1, x2) returns (y1, y2)`: y1 = x1, y2 = x2
abbrev pub both_node : NodeTree
both_node = record {
  text = codes "both";
  line = 1;
  inputs = 2;
  outputs = 2;
  names = ints (codes "x1" ∷ codes "x2" ∷ codes "y1" ∷ codes "y2" ∷ []);
  equations = set 2 2 (name 0) ∷ set 3 3 (name 1) ∷ [];
}

-- `a, y1 = call both(u1, a);`: a call ties names one by one, so this is no cycle
abbrev pub crossed : FileTree
crossed = record {
  nodes = both_node ∷ root_of (codes "a" ∷ [])
      (call 6 (2 ∷ 1 ∷ []) 0 (name 0 ∷ name 2 ∷ []) ∷ []) ∷ [];
}

pub crossed_outputs : outputs crossed three ≡ three
crossed_outputs = refl

-- x1 of the one call, at the third tick
pub inner_flow : flow_at crossed three 2 (0 ∷ []) 0 ≡ Some (pos 3)
inner_flow = refl

-- `a, y1 = call both(a, u1);`: the least line of an equation without a value is one inside the call
abbrev pub waiting_call : FileTree
waiting_call = record {
  nodes = both_node ∷ root_of (codes "a" ∷ [])
      (call 6 (2 ∷ 1 ∷ []) 0 (name 2 ∷ name 0 ∷ []) ∷ []) ∷ [];
}

pub waiting_line : (flows waiting_call three).stuck_place ≡ Some (stuck_at 2 Cycle)
waiting_line = refl

-- ---- Stuck ticks

-- `x = y1; y1 = x;`
pub waits_for_itself : stuck_over (set 4 2 (name 1) ∷ set 5 1 (name 2) ∷ [])
    ≡ Some (stuck_at 4 Cycle)
waits_for_itself = refl

-- `x = (6 div (u1 + -3)); y1 = x;`: at the third tick, not before
pub divides : stuck_over
    (set 4 2 (two Div (number (pos 6)) (two Add (name 0) (negative (number (pos 3)))))
    ∷ set 5 1 (name 2) ∷ []) ≡ Some (stuck_at 4 ZeroDivisor)
divides = refl

pub divides_later : outputs_over
    (set 4 2 (two Div (number (pos 6)) (two Add (name 0) (negative (number (pos 3)))))
    ∷ set 5 1 (name 2) ∷ [])
    ≡ (neg_ℤ (pos 3) ∷ []) ∷ (neg_ℤ (pos 6) ∷ []) ∷ []
divides_later = refl

-- `x = (pre u1); y1 = (1 -> x);`: a name without a value, though no output needs it
pub unguarded : stuck_over
    (set 4 2 (previous 0) ∷ set 5 1 (arrow (number (pos 1)) (name 2)) ∷ [])
    ≡ Some (stuck_at 4 Pre)
unguarded = refl

-- the least and the greatest number
pub least_negative : stuck_over
    (set 4 2 (two Add (negative (number (pos (2 ^ 63 - 1)))) (negative (number (pos 1))))
    ∷ set 5 1 (negative (name 2)) ∷ []) ≡ Some (stuck_at 5 Overflow)
least_negative = refl

pub least_by_minus_one : stuck_over
    (set 4 2 (two Add (negative (number (pos (2 ^ 63 - 1)))) (negative (number (pos 1))))
    ∷ set 5 1 (two Mod (name 2) (negative (number (pos 1)))) ∷ []) ≡ Some (stuck_at 5 Overflow)
least_by_minus_one = refl

-- a failure counts before what waits, wherever it is: `x = y1; y1 = x; z = (1 div 0);`
pub failure_first : (flows (record {
  nodes = root_of (codes "x" ∷ codes "z" ∷ []) (set 4 2 (name 1) ∷ set 5 1 (name 2)
      ∷ set 6 3 (two Div (number (pos 1)) (number (pos 0))) ∷ []) ∷ [];
}) three).stuck_place ≡ Some (stuck_at 6 ZeroDivisor)
failure_first = refl

-- of equal lines the first in the text counts: `(pre u1)` before `(1 div 0)`
pub first_of_line : stuck_over
    (set 4 2 (previous 0) ∷ set 4 1 (two Div (number (pos 1)) (number (pos 0))) ∷ [])
    ≡ Some (stuck_at 4 Pre)
first_of_line = refl

-- the left side comes first: while that waits, a failure on the right isn't known
pub left_first : stuck_over
    (set 4 2 (two Add (name 1) (two Div (number (pos 1)) (number (pos 0)))) ∷ set 5 1 (name 2) ∷ [])
    ≡ Some (stuck_at 4 Cycle)
left_first = refl

pub fails_first : stuck_over
    (set 4 2 (two Add (two Div (number (pos 1)) (number (pos 0))) (name 1)) ∷ set 5 1 (name 2) ∷ [])
    ≡ Some (stuck_at 4 ZeroDivisor)
fails_first = refl

-- ---- An order

-- the first tick of the crossed ports on 5, with ranks: u1, x1 and the first output, then a, then
-- the second input, the second output and y1
abbrev pub crossed_at : Instance
crossed_at =
    instance (Some (pos 5) ∷ Some (pos 5) ∷ Some (pos 5) ∷ [])
    (more_calls (instance (Some (pos 5) ∷ Some (pos 5) ∷ Some (pos 5) ∷ Some (pos 5) ∷ []) no_calls)
    no_calls)

abbrev pub crossed_ranks : Ranks
crossed_ranks [] k = slice_index_or (0 ∷ 2 ∷ 1 ∷ []) k 0
crossed_ranks (p ∷ path) k = slice_index_or (0 ∷ 2 ∷ 0 ∷ 2 ∷ []) k 0

pub ranked_form : below crossed_ranks 0 crossed_at ≡ fresh_root crossed
ranked_form = refl

-- what a pass leaves of an instance with the names of the ranks below n
abbrev pub pass_from : ℕ → Instance
pass_from n = root_pass crossed None (pos 5 ∷ []) (below crossed_ranks n crossed_at)

-- the names of rank 0, and a with them
pub first_pass : pass_from 0
    ≡ instance (Some (pos 5) ∷ None ∷ Some (pos 5) ∷ [])
    (more_calls (instance (Some (pos 5) ∷ None ∷ Some (pos 5) ∷ None ∷ []) no_calls) no_calls)
first_pass = refl

pub second_pass : pass_from 1 ≡ below crossed_ranks 2 crossed_at
second_pass = refl

pub third_pass : pass_from 2 ≡ crossed_at
third_pass = refl

pub crossed_tick : tick crossed None (pos 5 ∷ []) ≡ done crossed_at
crossed_tick = refl

-- ---- What a tick needs

-- a row that is too short leaves an input that nothing reads without a value, and no equation waits
abbrev pub unread_input : FileTree
unread_input = file_of (set 4 2 (number (pos 1)) ∷ set 5 1 (name 2) ∷ [])

pub short_row_settled : is_complete (settled unread_input None []) ≡ false
short_row_settled = refl

pub short_row_place : stuck_place unread_input None (settled unread_input None []) ≡ None
short_row_place = refl

-- so does an instance of another form than that of the tick before: `x = 1; = call sink((0 -> (pre x)));`
abbrev pub sink_node : NodeTree
sink_node = record {
  text = codes "sink";
  line = 1;
  inputs = 1;
  outputs = 0;
  names = ints (codes "x1" ∷ []);
  equations = [];
}

abbrev pub sinking : FileTree
sinking = record {
  nodes = sink_node ∷ root_of (codes "x" ∷ [])
      (set 4 2 (number (pos 1)) ∷ set 5 1 (name 2)
      ∷ call 6 [] 0 (arrow (number (pos 0)) (previous 2) ∷ []) ∷ []) ∷ [];
}

abbrev pub no_names : Option Instance
no_names = Some (instance [] no_calls)

pub other_form_settled : is_complete (settled sinking no_names (pos 5 ∷ [])) ≡ false
other_form_settled = refl

pub other_form_place : stuck_place sinking no_names (settled sinking no_names (pos 5 ∷ [])) ≡ None
other_form_place = refl

-- a row that is too long for a last node without inputs gives an output a value beside that of its
-- equation: `x = (1 div (y1 - 3)); y1 = 3;` on 5 leaves values for all names, and is stuck
abbrev pub no_inputs : FileTree
no_inputs = record {
  nodes =
      record {
        text = codes "root";
        line = 1;
        inputs = 0;
        outputs = 1;
        names = ints (codes "y1" ∷ codes "x" ∷ []);
        equations =
            set 4 1 (two Div (number (pos 1)) (two Sub (name 0) (number (pos 3))))
            ∷ set 5 0 (number (pos 3)) ∷ [];
      }
      ∷ [];
}

pub long_row_settled : settled no_inputs None (pos 5 ∷ [])
    ≡ instance (Some (pos 3) ∷ Some (pos 0) ∷ []) no_calls
long_row_settled = refl

pub long_row_place : stuck_place no_inputs None (settled no_inputs None (pos 5 ∷ []))
    ≡ Some (stuck_at 4 ZeroDivisor)
long_row_place = refl
