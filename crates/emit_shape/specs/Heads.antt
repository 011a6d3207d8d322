-- The heads of a system's public procedures.
use Rattle.std.specs.Prelude.{ℕ, Bool, false, List, [], ◌∷◌, ◌++◌, map, zip, length}
use Rattle.std.specs.List.{range_with_len}
use Rattle.modules_profile.specs.SystemHeader.{SystemHeader}
use Rattle.modules_profile.specs.Headers.{ports_of_header, header_functions, taken}
use Rattle.c_syntax.specs.declared.CType.TheVariants.{I32}
use Rattle.c_syntax.specs.Tree.{ParamTree, ProcedureTree}
use Rattle.emit_shape.specs.Names.{container, now_name, port_name, out_name, update_name, start_name, reset_name}

-- a procedure without its body
pub record Head : Type 0 where
  pub name : List ℕ
  pub private : Bool
  pub params : List ParamTree

-- the head of a procedure
abbrev pub head_of : ProcedureTree → Head
head_of q = record { name = q.name; private = q.private; params = q.params }

-- the parameter for the tick
abbrev pub now_param : ParamTree
now_param = record { name = now_name; type = I32 }

-- the parameters for a system's inputs by port, and then for its controls
abbrev pub input_params : SystemHeader → List ParamTree
input_params h =
    map (λ e. record { name = port_name h.control e.0; type = container e.1 })
    (zip (ports_of_header h) (h.inputs ++ h.controls))

-- function j takes the tick, the inputs that it needs, and the controls
abbrev pub out_head : SystemHeader → ℕ → Head
out_head h j =
    record {
      name = out_name h.row j;
      private = false;
      params = now_param ∷ taken h j (input_params h);
    }

-- the update takes the tick, all inputs and the controls
abbrev pub update_head : SystemHeader → Head
update_head h =
    record { name = update_name h.row; private = false; params = now_param ∷ input_params h }

abbrev pub start_head : SystemHeader → Head
start_head h = record { name = start_name h.row; private = false; params = [] }

abbrev pub reset_head : SystemHeader → Head
reset_head h = record { name = reset_name h.row; private = false; params = [] }

-- the heads of the functions of a system
abbrev pub out_heads : SystemHeader → List Head
out_heads h = map (out_head h) (range_with_len 1 (length (header_functions h)))

-- the heads of a system's public procedures, in the order in which the system around it counts them
abbrev pub public_heads : SystemHeader → List Head
public_heads h = out_heads h ++ update_head h ∷ start_head h ∷ reset_head h ∷ []
