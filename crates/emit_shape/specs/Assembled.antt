-- The program that systems' codes come to: structs and procedures go from the last code to the
-- first, and those of `root` last.
use Rattle.std.specs.Prelude.{ℕ, ◌+◌, ◌-◌, ◌==◌, Bool, false, if◌then◌else◌, List, [], ◌∷◌, ◌++◌, map, filter_map, find, flat_map, drop, reverse, length, sum_by, slice_index, slice_index_or, None, option_map, unwrap_or, pos, codes as text, decimal, bytes_eq}
use Rattle.std.specs.List.{position_from, prefix_len, range_with_len, list_any, enumerate_from}
use Rattle.modules_profile.specs.LocalSystem.{LocalSystem}
use Rattle.modules_profile.specs.Systems.{system_name}
use Rattle.modules_profile.specs.Locals.{inports, outports}
use Rattle.diagram_blocks.specs.Kinds.{port_of}
use Rattle.c_syntax.specs.declared.BinOp.TheVariants.{Add, Rem}
use Rattle.c_syntax.specs.declared.CType.TheVariants.{I32}
use Rattle.c_syntax.specs.declared.Leaf.TheVariants as leaf
use Rattle.c_syntax.specs.declared.Target.TheVariants as target
use Rattle.c_syntax.specs.declared.FieldKind.{FieldKind}
use Rattle.c_syntax.specs.declared.FieldKind.TheVariants.{Number, Array, Struct}
use Rattle.c_syntax.specs.Tree.{ExprTree, literal, read, binary, StmtTree, assign, call, exprs_of_list, stmts_of_list, FieldTree, StructTree, no_struct, ParamTree, PureTree, ProcedureTree, ProgramTree}
use Rattle.emit_shape.specs.Names.{container, now_name, input_name, root_name, root_start_name, root_step_name}
use Rattle.c_syntax.specs.Outputs.{output_name}
use Rattle.emit_shape.specs.SystemTree.{SystemTree}
use Rattle.emit_shape.specs.Relocation.{Relocation, moved_procedure}

-- the names of a code's public procedures, in the order in which the code around it counts them
abbrev pub has_procedure : SystemTree → List ℕ → Bool
has_procedure c name = list_any (λ q. bytes_eq q.name name) c.procedures

abbrev pub numbered_name : SystemTree → ℕ → List ℕ
numbered_name c j = c.structure.name ++ text "_out" ++ decimal j

abbrev pub out_names : SystemTree → List (List ℕ)
out_names c =
    map (numbered_name c)
    (range_with_len 1
    (prefix_len (λ j. has_procedure c (numbered_name c j))
    (range_with_len 1 (length c.procedures))))

abbrev pub public_names : SystemTree → List (List ℕ)
public_names c = out_names c ++ (c.structure.name ++ text "_update")
    ∷ (c.structure.name ++ text "_start") ∷ (c.structure.name ++ text "_reset") ∷ []

abbrev pub no_code : SystemTree
no_code = record { structure = no_struct; outputs = []; procedures = [] }

-- whether a field is the child at a position
abbrev pub is_child_kind : ℕ → FieldKind → Bool
is_child_kind k (Number type) = false
is_child_kind k (Array type count) = false
is_child_kind k (Struct i) = i == k

-- the names of the children of a code, by their positions
abbrev pub child_names : SystemTree → List (List ℕ)
child_names c =
    filter_map
    (λ k. option_map (λ (f : FieldTree). f.name)
    (find (λ f. is_child_kind k f.kind) c.structure.fields))
    (range_with_len 0 (length c.structure.fields))

module _ (all : List SystemTree) where
  abbrev pub code_at : ℕ → SystemTree
  code_at i = slice_index_or all i no_code

  -- the code of the system with this name
  abbrev pub code_named : List ℕ → ℕ
  code_named name = unwrap_or (position_from (λ c. bytes_eq c.structure.name name) 0 all) 0

  -- the position of the struct of code i
  abbrev pub struct_position : ℕ → ℕ
  struct_position i = length all - (i + 1)

  -- the position of the first procedure of code i
  abbrev pub first_procedure : ℕ → ℕ
  first_procedure i = sum_by (λ c. length c.procedures) (drop (i + 1) all)

  -- the position of the procedure of code i with this name
  abbrev pub procedure_position : ℕ → List ℕ → ℕ
  procedure_position i name =
      first_procedure i
      + unwrap_or (position_from (λ q. bytes_eq q.name name) 0 (code_at i).procedures) 0

  -- the positions of the public procedures of code i
  abbrev pub public_positions : ℕ → List ℕ
  public_positions i = map (procedure_position i) (public_names (code_at i))

  -- where what code i names goes
  abbrev pub relocation_of : ℕ → Relocation
  relocation_of i = record {
    own = length (code_at i).procedures;
    first = first_procedure i;
    offered =
        λ k. slice_index
        (flat_map (λ name. public_positions (code_named name)) (child_names (code_at i))) k;
    output =
        λ f o. slice_index
        (code_at
        (code_named (slice_index_or (map (λ (g : FieldTree). g.name) (code_at i).structure.fields) f
        []))).outputs o;
    of = struct_position i;
  }

  abbrev pub moved_kind : List ℕ → FieldKind → FieldKind
  moved_kind name (Number type) = Number type
  moved_kind name (Array type count) = Array type count
  moved_kind name (Struct k) = Struct (struct_position (code_named name))

  abbrev pub moved_struct : SystemTree → StructTree
  moved_struct c =
      record {
        name = c.structure.name;
        fields =
            map (λ f. record { name = f.name; kind = moved_kind f.name f.kind }) c.structure.fields;
      }

  -- the code numbers from the last to the first
  abbrev pub from_last : List ℕ
  from_last = reverse (range_with_len 0 (length all))

  -- the root's parameter for a parameter of `top`, or the tick
  abbrev pub root_value : List ParamTree → ParamTree → ExprTree
  root_value params q =
      if bytes_eq q.name now_name then read (leaf.Own 0)
      else read (leaf.Param (unwrap_or (position_from (λ r. bytes_eq r.name q.name) 0 params) 0))

  -- a call on `top`, which is after the tick and the outputs
  abbrev pub call_top : List ParamTree → ℕ → List ℕ → StmtTree
  call_top params outputs name =
      call 0 (procedure_position 0 name) (target.Child (outputs + 1))
      (exprs_of_list
      (map (root_value params)
      (unwrap_or
      (option_map (λ (q : ProcedureTree). q.params)
      (find (λ q. bytes_eq q.name name) (code_at 0).procedures)) [])))

  -- the copy of each output of `top`
  abbrev pub output_copies : ℕ → List StmtTree
  output_copies outputs =
      map (λ e. assign 0 (e.0 + 1) (read (leaf.Child (outputs + 1) e.1)))
      (enumerate_from 0 (code_at 0).outputs)

  -- the struct and procedures of the root, by the root's own rows
  module _ (root : LocalSystem) (hyper : ℕ) where
    abbrev pub root_params : List ParamTree
    root_params = map (λ r. record { name = input_name (port_of r.kind); type = container r.out })
        (inports root)

    abbrev pub root_structure : StructTree
    root_structure = record {
      name = root_name;
      fields =
          record { name = now_name; kind = Number I32 }
          ∷ map (λ o. record {
            name = output_name (port_of o.kind);
            kind = Number (container o.out);
          }) (outports root)
          ++ record { name = system_name None; kind = Struct (struct_position 0) } ∷ [];
    }

    abbrev pub root_procedures : List ProcedureTree
    root_procedures =
        let outputs = length (outports root) in
        record {
          name = root_start_name;
          private = false;
          of = length all;
          params = [];
          body = stmts_of_list (call_top [] outputs ((code_at 0).structure.name ++ text "_start")
              ∷ output_copies outputs ++ assign 0 0 (literal (pos 0)) ∷ []);
        }
        ∷ record {
          name = root_step_name;
          private = false;
          of = length all;
          params = root_params;
          body = stmts_of_list
              (map (call_top root_params outputs)
              (out_names (code_at 0) ++ ((code_at 0).structure.name ++ text "_update") ∷ [])
              ++ output_copies outputs ++ assign 0 0 (binary Rem (binary Add (read (leaf.Own 0)) (literal (pos 1)))
              (literal (pos hyper))) ∷ []);
        }
        ∷ []

    -- the program of all codes, with these pure functions
    abbrev pub assembled : List PureTree → ProgramTree
    assembled pures = record {
      pures = pures;
      structs = map (λ i. moved_struct (code_at i)) from_last ++ root_structure ∷ [];
      procedures =
          flat_map (λ i. map (moved_procedure (relocation_of i)) (code_at i).procedures) from_last
          ++ root_procedures;
    }
