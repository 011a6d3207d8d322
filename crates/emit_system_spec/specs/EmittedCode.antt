-- The code of a system: its groups, its functions, its update, its start and its reset.
use Rattle.std.specs.Prelude.{ℕ, suc, true, if◌then◌else◌, List, [], ◌∷◌, ◌++◌, map, filter, Option, Some, None, pos}
use Rattle.std.specs.List.{enumerate_from}
use Rattle.base_core.specs.declared.base.Compare.TheVariants.{Eq}
use Rattle.diagram_meaning.specs.Rows.{is_triggered}
use Rattle.diagram_blocks.specs.Kinds.{is_delay}
use Rattle.modules_profile.specs.LocalSystem.{LocalSystem}
use Rattle.modules_profile.specs.SystemProfile.{SystemProfile}
use Rattle.modules_profile.specs.Systems.{system_name}
use Rattle.modules_profile.specs.Locals.{own_header, outports}
use Rattle.modules_schedule.specs.SystemSchedule.{SystemSchedule}
use Rattle.c_syntax.specs.declared.code.Leaf.TheVariants.{Own}
use Rattle.c_syntax.specs.declared.code.Target.TheVariants.{Own as OnSelf}
use Rattle.c_syntax.specs.Tree.{literal, read, compare, StmtTree, assign, branch, call, StmtTrees, no_stmts, more_stmts, stmts_append, stmts_of_list, exprs_of_list, ParamTree, ProcedureTree}
use Rattle.emit_row_code.specs.RowCode.{nought}
use Rattle.emit_row_code.specs.StatementCode.{one}
use Rattle.emit_shape.specs.Names.{group_name}
use Rattle.emit_shape.specs.Heads.{now_param, out_head, update_head, start_head, reset_head, Head}
use Rattle.emit_shape.specs.SystemTree.{SystemTree}
use Rattle.emit_shape.specs.Slots.{slot_field}
use Rattle.emit_system_spec.specs.Fields.{value_field, counter_field, code_slots}
use Rattle.emit_system_spec.specs.Groups.{group_nodes, code_groups, own_count}
use Rattle.emit_system_spec.specs.Places.{param_leaf}
use Rattle.emit_system_spec.specs.NodeCode.{code_at, memory_code, trigger_code, update_code, reset_code}
use Rattle.emit_system_spec.specs.Heads.{port_types, params_where, takes, inports_among}
use Rattle.emit_system_spec.specs.Renewing.{counter_stores, start_body, reset_body}

-- pieces of code, one after the other
abbrev pub joined : List StmtTrees → StmtTrees
joined [] = no_stmts
joined (code ∷ codes) = stmts_append code (joined codes)

-- ---- Procedures

abbrev pub with_body : Head → StmtTrees → ProcedureTree
with_body h body =
    record { name = h.name; private = h.private; of = 0; params = h.params; body = body }

-- under a counter code runs only once until the counter is brought back
abbrev pub counted : Option ℕ → StmtTrees → StmtTrees
counted None code = code
counted (Some f) code =
    one (branch 0 (compare Eq (read (Own f)) nought)
    (more_stmts (assign 0 f (literal (pos 1))) code) no_stmts)

-- a call on `s` passes on parameters by name
abbrev pub own_call : (params : List ParamTree) → ℕ → List ParamTree → StmtTree
own_call params g wanted =
    call 0 g OnSelf (exprs_of_list (map (λ q. read (param_leaf params q.name)) wanted))

module _ (local : LocalSystem) (profile : SystemProfile) (schedule : SystemSchedule) where
  abbrev pub group_params : ℕ → List ParamTree
  group_params g =
      now_param ∷ params_where local.control (takes (inports_among local (group_nodes schedule g)))
      (port_types (own_header local profile))

  -- a group executes its nodes
  abbrev pub group_procedure : ℕ → ProcedureTree
  group_procedure g =
      with_body
      (record { name = group_name local.row (suc g); private = true; params = group_params g })
      (counted (counter_field local schedule g)
      (joined (map (code_at local (own_count schedule) (group_params g))
      (group_nodes schedule g))))

  -- a function calls its groups
  abbrev pub function_procedure : ℕ × List ℕ → ProcedureTree
  function_procedure e =
      let head = out_head (own_header local profile) e.0 in
      with_body head (stmts_of_list (map (λ g. own_call head.params g (group_params g)) e.1))

  -- The update executes what no function holds, stores memories, and updates or resets each child;
  -- then it stores what the trigger remembers, which all tests before still read, and brings the
  -- counters back.
  abbrev pub update_body : List ParamTree → StmtTrees
  update_body params = joined
      (joined (map (code_at local (own_count schedule) params) schedule.update)
      ∷ joined (map (memory_code local params) (filter (λ r. is_delay r.op) local.rows))
      ∷ joined
      (map (update_code local (own_count schedule) params) (enumerate_from 0 local.children))
      ∷ joined
      (map (reset_code local (own_count schedule) params) (enumerate_from 0 local.children))
      ∷ (if is_triggered local.control then trigger_code local params else no_stmts)
      ∷ stmts_of_list (counter_stores local schedule) ∷ [])

  abbrev pub system_procedures : List ProcedureTree
  system_procedures =
      let h = own_header local profile in
      map group_procedure (code_groups schedule)
      ++ map function_procedure (enumerate_from 1 schedule.functions)
      ++ with_body (update_head h) (update_body (update_head h).params)
      ∷ with_body (start_head h) (stmts_of_list (start_body local (own_count schedule) schedule))
      ∷ with_body (reset_head h) (stmts_of_list (reset_body local (own_count schedule)))
      ∷ []

  -- the code of a system by its own rows, its profile and its schedule
  abbrev pub system_code : SystemTree
  system_code = record {
    structure =
        record {
          name = system_name local.row;
          fields = map slot_field (code_slots local schedule);
        };
    outputs = map (λ o. value_field local o.row) (outports local);
    procedures = system_procedures;
  }
