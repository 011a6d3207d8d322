use Rattle.std.proofs.Common.{Bool, true, ◌≡◌, ◌≤◌, ◌+◌, ◌-◌, ◌++◌, ℤ, List, length, map, take, drop, ℕ, ap, sym, ◌∙◌, subst, arith, rules, slice_index_or, false}
use Rattle.std.specs.Prelude.{if◌then◌else◌}
use Rattle.std.proofs.lemmas.Grind.{common_steps}
use Rattle.c_syntax.specs.declared.code.Expr.{Expr}
use Rattle.c_syntax.specs.declared.code.Target.{Target}
use Rattle.c_syntax.specs.Plain.{expr_tree, cond_tree, stmt_tree, procedure_tree}
use Rattle.c_syntax.specs.Limits.{stmt_depth, stmts_depth}
use Rattle.c_syntax.specs.Tree.{StmtTree, StmtTrees, ProcedureTree, call, exprs_of_list, stmts_of_list}
use Rattle.c_semantics.specs.Machine.{run_stmt, run_stmts, routine_at, Routine}
use Rattle.c_semantics.specs.Values.{functions_of}
use Rattle.c_interpreter.specs.Slots.{layout_at}
use Rattle.c_interpreter.specs.States.{filled}
use Rattle.c_interpreter.specs.Sound.{IsSoundStmt, AreSoundStmts, IsCallOf, IsProcedureOf, IsInstanceField, scope_at, zero_at, zeros_of}
use Rattle.c_semantics.specs.Cells.{Cells}
use Rattle.c_interpreter.specs.Codes.{ReadyCode, code_tree}
use Rattle.c_interpreter.specs.Seen.{ended, seen}
use Rattle.c_interpreter.specs.Frames.{cells_in, run_in, scope_in, tree_in}
use Rattle.c_interpreter.proofs.Narrow.{exprs_length-list}
use Rattle.c_interpreter.proofs.Measures.{procs_depth, if_depth, stmts_depth_at, sound_here, sound_more, procs_at, found_is, proc_logged, proc_params, proc_count}
use Rattle.c_interpreter.proofs.Outcomes.{branch_gives, branch_sticks, stmts_more, stmts_stop, stmts_end, call_gives, call_sticks, routine_is, procedure_gives, target_left}
use Rattle.c_interpreter.proofs.Places.{holds, part_length, drop_more}
use Rattle.c_interpreter.proofs.statements.+statement.Goals as goal

pub run-run_if-requires : goal.run-run_if-requires
run-run_if-requires t c =
    let e = if_depth c.args.stmt.now c.in-If.line c.in-If.test c.in-If.yes c.in-If.no c.deref.result.now
    c.deref-in-If.result.now c.in-If.is c.deref.ensures.value c.deref-in-If.ensures.value in
    let d = ap stmt_depth e in (
      omega arith,
      (
        subst (λ (x : StmtTree). IsSoundStmt (tree_in c.args.frame.now) c.args.frame.now.level c.args.frame.now.of x) e
            c.requires.sound,
        (c.requires.room, c.requires.counted),
      ),
    )

pub run-run_call-requires : goal.run-run_call-requires
run-run_call-requires t c =
    let e : stmt_tree c.args.stmt.now
    ≡ call c.in-Call.line c.in-Call.procedure c.in-Call.target
    (exprs_of_list (map expr_tree c.deref-in-Call.result.now)) = ap stmt_tree c.in-Call.is
    ∙ (λ i. call c.in-Call.line c.in-Call.procedure c.in-Call.target
    (exprs_of_list (map expr_tree (sym c.deref-in-Call.ensures.value i)))) in
    let d = ap stmt_depth e in (
      omega arith,
      (
        subst (λ (x : StmtTree). IsSoundStmt (tree_in c.args.frame.now) c.args.frame.now.level c.args.frame.now.of x) e
            c.requires.sound,
        (c.requires.room, c.requires.counted),
      ),
    )

pub run-returns-in-If-clause-ran : goal.run-returns-in-If-clause-ran
run-returns-in-If-clause-ran t c =
    let e = if_depth c.args.stmt.now c.in-If.line c.in-If.test c.in-If.yes c.in-If.no c.deref.result.now
    c.deref-in-If.result.now c.in-If.is c.deref.ensures.value c.deref-in-If.ensures.value in
    c.run_if.ensures.ran
    ∙ ap (λ x.
    seen c.args.cost.now.calls
    (run_stmt (scope_in c.args.frame.now) x (cells_in c.args.frame.now c.args.numbers.now) c.args.cost.now.steps))
    (sym e)

pub run_all-run-requires : goal.run_all-run-requires
run_all-run-requires t c =
    let h = stmts_depth_at c.args.stmts.now c.loop-i.i c.index-stmts-i.result (omega arith) c.index-stmts-i.is in (
      omega arith,
      (
        sound_here (tree_in c.args.frame.now) c.args.frame.now.level c.args.frame.now.of c.args.stmts.now c.loop-i.i
            c.index-stmts-i.result (omega arith) c.index-stmts-i.is c.loop-i.invariant.sound,
        (c.loop-i.auto.numbers ∙ c.requires.room, c.loop-i.invariant.counted),
      ),
    )

pub run_all-returns-in_err-run-clause-ran : goal.run_all-returns-in_err-run-clause-ran
run_all-returns-in_err-run-clause-ran t c =
    grind (
      arith,
      common_steps,
      stmts_stop (scope_in c.args.frame.now) c.args.stmts.now c.loop-i.i c.index-stmts-i.result c.loop-i.cost.calls
          c.loop-i.cost.steps _ _ _ _ (omega arith) c.index-stmts-i.is c.in_err-run.ensures.ran c.loop-i.invariant.value,
    )

pub run_all-loop-i-preserved : goal.run_all-loop-i-preserved
run_all-loop-i-preserved t c =
    record {
      sound = sound_more (tree_in c.args.frame.now) c.args.frame.now.level c.args.frame.now.of c.args.stmts.now
          c.loop-i.i (omega arith) c.loop-i.invariant.sound;
      counted = c.run.ensures.counted;
      value = stmts_more (scope_in c.args.frame.now) c.args.stmts.now c.loop-i.i c.index-stmts-i.result
          c.loop-i.cost.calls _ _ c.loop-i.cost.steps _ _ _ (omega arith) c.index-stmts-i.is c.in_ok-run.ensures.ran
          c.loop-i.invariant.value;
    }

pub run_all-returns-clause-ran : goal.run_all-returns-clause-ran
run_all-returns-clause-ran t c =
    stmts_end (scope_in c.args.frame.now) c.args.stmts.now c.loop-i.i _ _ _ _ (omega arith) c.loop-i.invariant.value

pub run_at-run_procedure-requires : goal.run_at-run_procedure-requires
run_at-run_procedure-requires t c = (
  omega arith,
  (
    subst (λ (x : Target). IsCallOf (tree_in c.args.frame.now) c.args.frame.now.of c.args.call.now.procedure x) c.in-Own.is
        c.requires.there,
    (c.requires.earlier, (c.requires.room, c.requires.stepped)),
  ),
)

pub run_at-overflow_add-inner : goal.run_at-overflow_add-inner
run_at-overflow_add-inner t c =
    let there : (h : IsInstanceField (tree_in c.args.frame.now) c.args.frame.now.of c.in-Child.f)
    × IsProcedureOf (tree_in c.args.frame.now) c.args.call.now.procedure h.struct =
    subst (λ (x : Target). IsCallOf (tree_in c.args.frame.now) c.args.frame.now.of c.args.call.now.procedure x) c.in-Child.is
    c.requires.there in
    let h = holds (tree_in c.args.frame.now) c.args.frame.now.code.layouts c.args.frame.now.code.logged
    c.args.frame.now.of c.in-Child.f c.args.numbers.now c.instance_slot-at.result.0 c.instance_slot-at.result.1
    c.instance_slot-at.result.2 c.instance_slot-at.ensures.ready there.0 c.requires.room
    c.instance_slot-at.ensures.slot in
    omega (arith, h.within)

pub run_at-offset_bounds-numbers-at : goal.run_at-offset_bounds-numbers-at
run_at-offset_bounds-numbers-at t c =
    let there : (h : IsInstanceField (tree_in c.args.frame.now) c.args.frame.now.of c.in-Child.f)
    × IsProcedureOf (tree_in c.args.frame.now) c.args.call.now.procedure h.struct =
    subst (λ (x : Target). IsCallOf (tree_in c.args.frame.now) c.args.frame.now.of c.args.call.now.procedure x) c.in-Child.is
    c.requires.there in
    let h = holds (tree_in c.args.frame.now) c.args.frame.now.code.layouts c.args.frame.now.code.logged
    c.args.frame.now.of c.in-Child.f c.args.numbers.now c.instance_slot-at.result.0 c.instance_slot-at.result.1
    c.instance_slot-at.result.2 c.instance_slot-at.ensures.ready there.0 c.requires.room
    c.instance_slot-at.ensures.slot in
    omega (arith, h.within)

pub run_at-slice_bounds-inner-end : goal.run_at-slice_bounds-inner-end
run_at-slice_bounds-inner-end t c =
    let there : (h : IsInstanceField (tree_in c.args.frame.now) c.args.frame.now.of c.in-Child.f)
    × IsProcedureOf (tree_in c.args.frame.now) c.args.call.now.procedure h.struct =
    subst (λ (x : Target). IsCallOf (tree_in c.args.frame.now) c.args.frame.now.of c.args.call.now.procedure x) c.in-Child.is
    c.requires.there in
    let h = holds (tree_in c.args.frame.now) c.args.frame.now.code.layouts c.args.frame.now.code.logged
    c.args.frame.now.of c.in-Child.f c.args.numbers.now c.instance_slot-at.result.0 c.instance_slot-at.result.1
    c.instance_slot-at.result.2 c.instance_slot-at.ensures.ready there.0 c.requires.room
    c.instance_slot-at.ensures.slot in
    let w : c.instance_slot-at.result.0 + c.instance_slot-at.result.1 ≤ length c.args.numbers.now = h.within in
    search rules

pub run_at-run_procedure-requires-in-Child : goal.run_at-run_procedure-requires-in-Child
run_at-run_procedure-requires-in-Child t c =
    let there : (h : IsInstanceField (tree_in c.args.frame.now) c.args.frame.now.of c.in-Child.f)
    × IsProcedureOf (tree_in c.args.frame.now) c.args.call.now.procedure h.struct =
    subst (λ (x : Target). IsCallOf (tree_in c.args.frame.now) c.args.frame.now.of c.args.call.now.procedure x) c.in-Child.is
    c.requires.there in
    let h = holds (tree_in c.args.frame.now) c.args.frame.now.code.layouts c.args.frame.now.code.logged
    c.args.frame.now.of c.in-Child.f c.args.numbers.now c.instance_slot-at.result.0 c.instance_slot-at.result.1
    c.instance_slot-at.result.2 c.instance_slot-at.ensures.ready there.0 c.requires.room
    c.instance_slot-at.ensures.slot in (
      omega arith,
      (
        subst (λ (k : ℕ). IsProcedureOf (tree_in c.args.frame.now) c.args.call.now.procedure k) (sym h.struct_is) there.1,
        (
          c.requires.earlier,
          (
            part_length c.args.numbers.now c.instance_slot-at.result.0 c.instance_slot-at.result.1 h.within ∙ h.size_is
                ∙ ap (λ j. (layout_at c.args.frame.now.code.layouts j).size) (sym h.struct_is),
            c.requires.stepped,
          ),
        ),
      ),
    )

pub run_at-returns-in-Child-clause-ran : goal.run_at-returns-in-Child-clause-ran
run_at-returns-in-Child-clause-ran t c =
    let there : (h : IsInstanceField (tree_in c.args.frame.now) c.args.frame.now.of c.in-Child.f)
    × IsProcedureOf (tree_in c.args.frame.now) c.args.call.now.procedure h.struct =
    subst (λ (x : Target). IsCallOf (tree_in c.args.frame.now) c.args.frame.now.of c.args.call.now.procedure x) c.in-Child.is
    c.requires.there in
    let h = holds (tree_in c.args.frame.now) c.args.frame.now.code.layouts c.args.frame.now.code.logged
    c.args.frame.now.of c.in-Child.f c.args.numbers.now c.instance_slot-at.result.0 c.instance_slot-at.result.1
    c.instance_slot-at.result.2 c.instance_slot-at.ensures.ready there.0 c.requires.room
    c.instance_slot-at.ensures.slot in
    let at : ℕ = c.instance_slot-at.result.0 in
    let size : ℕ = c.instance_slot-at.result.1 in
    let numbers : List ℤ = c.args.numbers.now in
    let n : at + size - at ≡ size = omega arith in
    let tail : drop (at + size - at) (drop at numbers) ≡ drop (at + size) numbers =
    ap (λ j. drop j (drop at numbers)) n ∙ drop_more at size numbers in
    let long : length c.run_procedure-in-Child.new.numbers ≡ size =
    c.run_procedure-in-Child.auto.numbers ∙ part_length numbers at size h.within in
    let cells : Cells = cells_in c.args.frame.now numbers in
    target_left c.in-Child.f c.args.cost.now.calls c.args.cost.now.steps c.args.call.now.target cells cells
    (zero_at (tree_in c.args.frame.now) c.args.frame.now.of) c.instance_slot-at.result.2 there.0.struct
    (zeros_of (tree_in c.args.frame.now)) c.run_procedure-in-Child.result c.run_procedure-in-Child.new.numbers _
    c.run_procedure-in-Child.new.cost
    ((routine_at (scope_in c.args.frame.now).routines c.args.call.now.procedure).run c.args.arguments.now)
    (take (at + size - at) (drop at numbers)) c.in-Child.is h.struct_is (h.fields_are
    ∙ (λ i. filled (zero_at (tree_in c.args.frame.now) there.0.struct) (take (sym n i) (drop at numbers))))
    c.run_procedure-in-Child.ensures.ran (h.left c.run_procedure-in-Child.new.numbers long
    ∙ (λ i. filled (zero_at (tree_in c.args.frame.now) c.args.frame.now.of)
    (take at numbers ++ (c.run_procedure-in-Child.new.numbers ++ sym tail i))))

pub call_many-first_of-arguments-requires : goal.call_many-first_of-arguments-requires
call_many-first_of-arguments-requires t c =
    omega (arith, exprs_length-list c.args.call.now.values.now, c.requires.sound.1.room)

pub call_into-run_at-requires : goal.call_into-run_at-requires
call_into-run_at-requires t c = (
  omega arith,
  (
    c.requires.sound.0,
    (
      c.requires.sound.2,
      (c.requires.room, record { count = omega (arith, c.in_ok-take_step.ensures.one); limit = omega arith }),
    ),
  ),
)

pub call_into-returns-clause-ran : goal.call_into-returns-clause-ran
call_into-returns-clause-ran t c =
    let q : ProcedureTree = c.requires.sound.1.procedure in
    let is : procedure_tree c.index-callee.result.now ≡ q =
    found_is _ _ c.args.call.now.procedure q c.index-callee.result.now c.program.ensures.program c.requires.sound.1.there
    c.index-callee.ensures in
    let same : (routine_at (scope_in c.args.frame.now).routines c.args.call.now.procedure).params
    ≡ map (λ x. x.1) c.deref.result.now =
    ap (λ (r : Routine). r.params)
    (routine_is (tree_in c.args.frame.now).structs (functions_of _ (tree_in c.args.frame.now).pures)
    (tree_in c.args.frame.now).procedures c.args.call.now.procedure c.args.frame.now.level q c.requires.sound.2
    c.requires.sound.1.there) ∙ (λ i. map (λ x. x.type) (sym is i).params) ∙ proc_params c.index-callee.result.now
    ∙ (λ i. map (λ x. x.1) (sym c.deref.ensures.value i)) in
    call_gives (scope_in c.args.frame.now) c.args.call.now.line c.args.call.now.procedure c.args.cost.now.steps c.args.cost.now.calls _ _
    c.args.call.now.target (map (λ x. x.1) c.deref.result.now) (exprs_of_list (map expr_tree c.args.call.now.values.now)) _ _ _
    c.in_ok-take_step.ensures.taken same c.in_ok-put_arguments.ensures.value c.run_at.ensures.ran

pub call_into-put_arguments-requires-clause-params : goal.call_into-put_arguments-requires-clause-params
call_into-put_arguments-requires-clause-params t c =
    let q : ProcedureTree = c.requires.sound.1.procedure in
    let is : procedure_tree c.index-callee.result.now ≡ q =
    found_is _ _ c.args.call.now.procedure q c.index-callee.result.now c.program.ensures.program c.requires.sound.1.there
    c.index-callee.ensures in
    let n : length c.deref.result.now ≡ length c.index-callee.result.now.params.items = ap length c.deref.ensures.value in
    let m : length (procedure_tree c.index-callee.result.now).params ≡ length q.params = λ i. length (is i).params in
    omega (arith, proc_count c.index-callee.result.now, exprs_length-list c.args.call.now.values.now, c.requires.sound.1.count_is)

pub call_into-returns-in_err-put_arguments-clause-ran : goal.call_into-returns-in_err-put_arguments-clause-ran
call_into-returns-in_err-put_arguments-clause-ran t c =
    let q : ProcedureTree = c.requires.sound.1.procedure in
    let is : procedure_tree c.index-callee.result.now ≡ q =
    found_is _ _ c.args.call.now.procedure q c.index-callee.result.now c.program.ensures.program c.requires.sound.1.there
    c.index-callee.ensures in
    let same : (routine_at (scope_in c.args.frame.now).routines c.args.call.now.procedure).params
    ≡ map (λ x. x.1) c.deref.result.now =
    ap (λ (r : Routine). r.params)
    (routine_is (tree_in c.args.frame.now).structs (functions_of _ (tree_in c.args.frame.now).pures)
    (tree_in c.args.frame.now).procedures c.args.call.now.procedure c.args.frame.now.level q c.requires.sound.2
    c.requires.sound.1.there) ∙ (λ i. map (λ x. x.type) (sym is i).params) ∙ proc_params c.index-callee.result.now
    ∙ (λ i. map (λ x. x.1) (sym c.deref.ensures.value i)) in
    grind (
      arith,
      common_steps,
      call_sticks (scope_in c.args.frame.now) c.args.call.now.line c.args.call.now.procedure c.args.cost.now.steps c.args.cost.now.calls
          _ c.args.call.now.target (map (λ x. x.1) c.deref.result.now) (exprs_of_list (map expr_tree c.args.call.now.values.now)) _ _
          c.in_ok-take_step.ensures.taken same c.in_err-put_arguments.ensures.value,
    )

pub run_if-run_all-requires : goal.run_if-run_all-requires
run_if-run_all-requires t c = (
  omega arith,
  (
    c.requires.sound.1,
    (c.requires.room, record { count = omega (arith, c.in_ok-take_step.ensures.one); limit = omega arith }),
  ),
)

pub run_if-run_all-requires-in-Fails : goal.run_if-run_all-requires-in-Fails
run_if-run_all-requires-in-Fails t c = (
  omega arith,
  (
    c.requires.sound.2,
    (c.requires.room, record { count = omega (arith, c.in_ok-take_step.ensures.one); limit = omega arith }),
  ),
)

pub run_procedure-run_all-requires : goal.run_procedure-run_all-requires
run_procedure-run_all-requires t c =
    let q : ProcedureTree = c.requires.there.procedure in
    let is : procedure_tree c.index-callee.result.now ≡ q =
    found_is _ _ c.args.invocation.now.procedure q c.index-callee.result.now c.program.ensures.program c.requires.there.there
    c.index-callee.ensures in
    let body_is : q.body ≡ stmts_of_list (map stmt_tree c.deref.result.now) =
    (λ i. (sym is i).body) ∙ (λ i. stmts_of_list (map stmt_tree (sym c.deref.ensures.value i))) in
    let d = ap stmts_depth body_is in
    let b = procs_at (tree_in c.args.frame.now).procedures c.args.invocation.now.procedure c.args.frame.now.level q c.requires.earlier
    c.requires.there.there in
    let s : AreSoundStmts (tree_in c.args.frame.now) c.args.invocation.now.procedure q.of q.body =
    c.program.ensures.ready.sound c.args.invocation.now.procedure q c.requires.there.there in
    let body : StmtTrees = stmts_of_list (map stmt_tree c.deref.result.now) in
    let sound : AreSoundStmts (tree_in c.args.frame.now) c.args.invocation.now.procedure c.args.invocation.now.of body =
    subst (λ (x : StmtTrees). AreSoundStmts (tree_in c.args.frame.now) c.args.invocation.now.procedure c.args.invocation.now.of x) body_is
    (subst (λ (o : ℕ). AreSoundStmts (tree_in c.args.frame.now) c.args.invocation.now.procedure o q.body) c.requires.there.of_is
    s) in
    let again : c.args.frame.now.code ≡ c.again.result = sym c.again.ensures in (
      omega (arith, ap (λ (k : ReadyCode). procs_depth (take c.args.invocation.now.procedure (code_tree k).procedures)) again),
      (
        subst (λ (k : ReadyCode). AreSoundStmts (code_tree k) c.args.invocation.now.procedure c.args.invocation.now.of body) again sound,
        (
          c.requires.room ∙ ap (λ (k : ReadyCode). (layout_at k.layouts c.args.invocation.now.of).size) again,
          c.log_call.ensures.counted,
        ),
      ),
    )

pub run_procedure-returns-clause-ran : goal.run_procedure-returns-clause-ran
run_procedure-returns-clause-ran t c =
    let q : ProcedureTree = c.requires.there.procedure in
    let is : procedure_tree c.index-callee.result.now ≡ q =
    found_is _ _ c.args.invocation.now.procedure q c.index-callee.result.now c.program.ensures.program c.requires.there.there
    c.index-callee.ensures in
    let body_is : q.body ≡ stmts_of_list (map stmt_tree c.deref.result.now) =
    (λ i. (sym is i).body) ∙ (λ i. stmts_of_list (map stmt_tree (sym c.deref.ensures.value i))) in
    let body : StmtTrees = stmts_of_list (map stmt_tree c.deref.result.now) in
    let Left : ReadyCode → Type 0 =
    λ k. ended (zero_at (code_tree k) c.args.invocation.now.of) c.run_all.result c.run_all.new.numbers c.run_all.new.cost
    ≡ seen c.log_call.new.cost.calls
    (run_stmts (scope_at (code_tree k) c.args.invocation.now.procedure c.args.invocation.now.of c.args.invocation.now.arguments.now) body
    (filled (zero_at (code_tree k) c.args.invocation.now.of) c.args.numbers.now) c.log_call.new.cost.steps) in
    let left : Left c.args.frame.now.code = subst Left c.again.ensures c.run_all.ensures.ran in
    let last =
    left ∙ (λ i.
    seen c.log_call.new.cost.calls
    (run_stmts
    (scope_at (tree_in c.args.frame.now) c.args.invocation.now.procedure (sym c.requires.there.of_is i) c.args.invocation.now.arguments.now)
    (sym body_is i) (filled (zero_at (tree_in c.args.frame.now) c.args.invocation.now.of) c.args.numbers.now)
    (c.log_call.ensures.steps i))) in
    procedure_gives (tree_in c.args.frame.now) c.args.invocation.now.procedure c.args.frame.now.level c.args.cost.now.calls
    c.log_call.new.cost.calls c.args.cost.now.steps q
    (slice_index_or c.args.frame.now.code.logged c.args.invocation.now.procedure false) c.args.invocation.now.arguments.now _ _ c.requires.earlier
    c.requires.there.there
    (proc_logged c.args.frame.now.code.program.procedures.items c.args.invocation.now.procedure q c.args.frame.now.code.logged
    c.requires.there.there c.program.ensures.ready.logged_is) (c.log_call.ensures.calls
    ∙ ap (λ (xs : List Bool). c.args.cost.now.calls + (if slice_index_or xs c.args.invocation.now.procedure false then 1 else 0))
    c.logged.ensures) last

pub run-returns-in-Set-clause-ran : goal.run-returns-in-Set-clause-ran
run-returns-in-Set-clause-ran t c =
    c.set_field.ensures.ran
    ∙ ap (λ x. run_in c.args.frame.now (stmt_tree x) c.args.numbers.now c.args.cost.now) (sym c.in-Set.is)

pub run-returns-in-SetAt-clause-ran : goal.run-returns-in-SetAt-clause-ran
run-returns-in-SetAt-clause-ran t c =
    c.set_item.ensures.ran
    ∙ ap (λ x. run_in c.args.frame.now (stmt_tree x) c.args.numbers.now c.args.cost.now) (sym c.in-SetAt.is)

pub run-returns-in-Call-clause-ran : goal.run-returns-in-Call-clause-ran
run-returns-in-Call-clause-ran t c =
    let Ran : List Expr → StmtTree = λ es. call c.in-Call.line c.in-Call.procedure c.in-Call.target (exprs_of_list (map expr_tree es)) in
    c.run_call.ensures.ran
    ∙ ap (λ x. run_in c.args.frame.now x c.args.numbers.now c.args.cost.now)
    (sym (ap stmt_tree c.in-Call.is ∙ ap Ran (sym c.deref-in-Call.ensures.value)))

pub run_if-returns-in-Holds-clause-ran : goal.run_if-returns-in-Holds-clause-ran
run_if-returns-in-Holds-clause-ran t c =
    branch_gives (scope_in c.args.frame.now) c.args.branch.now.line c.args.cost.now.steps c.args.cost.now.calls _ _
    (cond_tree c.args.branch.now.test.now) (stmts_of_list (map stmt_tree c.args.branch.now.on_true.now))
    (stmts_of_list (map stmt_tree c.args.branch.now.on_false.now)) true (cells_in c.args.frame.now c.args.numbers.now) _
    c.in_ok-take_step.ensures.taken c.in-Holds.ensures.value c.run_all.ensures.ran

pub run_if-returns-in-Fails-clause-ran : goal.run_if-returns-in-Fails-clause-ran
run_if-returns-in-Fails-clause-ran t c =
    branch_gives (scope_in c.args.frame.now) c.args.branch.now.line c.args.cost.now.steps c.args.cost.now.calls _ _
    (cond_tree c.args.branch.now.test.now) (stmts_of_list (map stmt_tree c.args.branch.now.on_true.now))
    (stmts_of_list (map stmt_tree c.args.branch.now.on_false.now)) false (cells_in c.args.frame.now c.args.numbers.now) _
    c.in_ok-take_step.ensures.taken c.in-Fails.ensures.value c.run_all-in-Fails.ensures.ran

pub run_if-returns-in-Halts-clause-ran : goal.run_if-returns-in-Halts-clause-ran
run_if-returns-in-Halts-clause-ran t c =
    branch_sticks (scope_in c.args.frame.now) c.args.branch.now.line c.args.cost.now.steps c.args.cost.now.calls _
    (cond_tree c.args.branch.now.test.now) (stmts_of_list (map stmt_tree c.args.branch.now.on_true.now))
    (stmts_of_list (map stmt_tree c.args.branch.now.on_false.now)) (cells_in c.args.frame.now c.args.numbers.now) _
    c.in_ok-take_step.ensures.taken c.in-Halts.ensures.value
