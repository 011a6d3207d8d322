-- The tokens of a program open nothing beyond a limit exactly where the program is within the limits.
use Rattle.std.proofs.Common.{◌≡◌, refl, sym, ◌∙◌, ap, ℕ, ◌+◌, ◌≤◌, ◌↔◌, List, [], ◌∷◌, ◌++◌, length, map, None, Some, Ok, Bool, true, false, not, subst, arith, append_assoc, append-nil}
use Rattle.std.specs.List.{AllByRecursion}
use Rattle.std.proofs.lemmas.List.{length-map}
use Rattle.c_syntax.specs.declared.fault.CKind.TheVariants.{Name}
use Rattle.c_syntax.specs.Outputs.{has_name}
use Rattle.c_syntax.specs.Tree.{ExprTrees, StmtTree, StmtTrees, struct_fields, PureTree, ProcedureTree, ProgramTree}
use Rattle.c_syntax.specs.Kinds.{WrittenKind}
use Rattle.c_grammar.specs.Written.{WrittenTarget, WrittenArguments, WrittenStmt, WrittenStmts, WrittenParam, WrittenPureParam, WrittenPure, WrittenField, WrittenStruct, WrittenProcedure, WrittenProgram}
use Rattle.c_syntax.specs.Limits.{expr_limit, stmt_limit, pure_limit, param_limit, exprs_depth, stmt_depth, stmts_depth, stmt_exprs_depth, stmts_exprs_depth, PureFits, ProcedureFits, IsWithinLimits}
use Rattle.base_core.specs.Results.{◌>>=◌, ◌>>◌}
use Rattle.c_rules.specs.Resolve.{unless_fault, on_line, Names, Known, function_names, resolve_expr, resolve_cond, argument_casts, resolve_arguments, resolve_store, resolve_item_store, resolve_call, resolve_stmt, resolve_stmts, check_params, resolve_pure, resolve_struct, resolve_head, resolve_procedure, resolve_pures, resolve_structs, resolve_procedures, resolve_program}
use Rattle.c_syntax.specs.Chains.{stmts_chain}
use Rattle.c_grammar.specs.Openings.{Opening, none, statement, pure_function, expr_openings, cond_openings, target_openings, arguments_openings, stmt_openings, stmts_openings, more_params_openings, more_pure_params_openings, pure_params_openings, pure_openings, pures_openings, kind_openings, length_openings, fields_openings, structs_openings, private_openings, procedures_openings, openings}
use Rattle.c_reading_laws.specs.Agreement.{LimitsAgree}
use Rattle.c_rules.proofs.lemmas.Resolved.{ok-same, bind-parts, then-parts}
use Rattle.c_reading_laws.proofs.LawfulReadings.{param_of, ProgramDone, program-done}
use Rattle.c_reading_laws.proofs.LawfulDefinitions.{with_pures}
use Rattle.c_reading_laws.proofs.Depths.{Within, within-split, within-join, first-split, first-join, expr-limits, cond-limits}

target-within : (target : WrittenTarget) → Within (target_openings target)
target-within WrittenTarget.own_target = refl
target-within (WrittenTarget.field_target field) = refl

arguments-limits : (names : Names) (ws : WrittenArguments) (xs : ExprTrees) → resolve_arguments names ws ≡ Ok xs →
    Within (arguments_openings ws) ↔ (exprs_depth xs ≤ expr_limit)
arguments-limits names WrittenArguments.no_arguments xs e =
    subst (λ y. Within [] ↔ (exprs_depth y ≤ expr_limit)) (ok-same ExprTrees.no_exprs xs e) (λ h. omega arith, λ h. refl)
arguments-limits names (WrittenArguments.more_arguments cast w ws) xs e =
    let b : _ = bind-parts (resolve_expr names w) (λ x. resolve_arguments names ws >>= λ ys. Ok (ExprTrees.more_exprs x ys)) xs e in
    let c : _ = bind-parts (resolve_arguments names ws) (λ ys. Ok (ExprTrees.more_exprs b.0 ys)) xs b.2 in
    let i : _ = expr-limits names w b.0 1 b.1 in
    let j : _ = arguments-limits names ws c.0 c.1 in
    subst (λ y. Within (none ∷ none ∷ none ∷ none ∷ (expr_openings 1 w ++ arguments_openings ws))
    ↔ (exprs_depth y ≤ expr_limit)) (ok-same (ExprTrees.more_exprs b.0 c.0) xs c.2) (
      λ h. let t : _ =
          within-split (expr_openings 1 w) (arguments_openings ws) h in omega (arith, i.0 t.0, j.0 t.1),
      λ h. within-join (expr_openings 1 w) (arguments_openings ws) (i.1 (omega (arith, h))) (j.1 (omega (arith, h))),
    )

-- the parts of what a statement opens
assign-within : (d : ℕ) (xs : List Opening) →
    Within (statement d ∷ none ∷ none ∷ none ∷ none ∷ none ∷ none ∷ (xs ++ none ∷ [])) ↔ ((d ≤ stmt_limit) × Within xs)
assign-within d xs = (
  λ h. let f : _ = first-split d stmt_limit (none ∷ none ∷ none ∷ none ∷ none ∷ none ∷ (xs ++ none ∷ [])) h in
      (f.0, (within-split xs (none ∷ []) f.1).0),
  λ k. first-join d stmt_limit (none ∷ none ∷ none ∷ none ∷ none ∷ none ∷ (xs ++ none ∷ [])) k.0
      (within-join xs (none ∷ []) k.1 refl),
)

assign_at-within : (d : ℕ) (xs ys : List Opening) →
    Within (statement d ∷ none ∷ none ∷ none ∷ (xs ++ none ∷ none ∷ none ∷ none ∷ none ∷ (ys ++ none ∷ [])))
    ↔ ((d ≤ stmt_limit) × Within xs × Within ys)
assign_at-within d xs ys =
    let behind : List Opening = none ∷ none ∷ none ∷ none ∷ none ∷ (ys ++ none ∷ []) in (
      λ h. let f : _ = first-split d stmt_limit (none ∷ none ∷ none ∷ (xs ++ behind)) h in
          let x : _ = within-split xs behind f.1 in (f.0, x.0, (within-split ys (none ∷ []) x.1).0),
      λ k. first-join d stmt_limit (none ∷ none ∷ none ∷ (xs ++ behind)) k.0
          (within-join xs behind k.1 (within-join ys (none ∷ []) k.2 refl)),
    )

branch-within : (d : ℕ) (xs ys : List Opening) →
    Within (statement d ∷ (xs ++ none ∷ (ys ++ none ∷ []))) ↔ ((d ≤ stmt_limit) × Within xs × Within ys)
branch-within d xs ys = (
  λ h. let f : _ = first-split d stmt_limit (xs ++ none ∷ (ys ++ none ∷ [])) h in
      let x : _ = within-split xs (none ∷ (ys ++ none ∷ [])) f.1 in (f.0, x.0, (within-split ys (none ∷ []) x.1).0),
  λ k. first-join d stmt_limit (xs ++ none ∷ (ys ++ none ∷ [])) k.0
      (within-join xs (none ∷ (ys ++ none ∷ [])) k.1 (within-join ys (none ∷ []) k.2 refl)),
)

else-within : (d : ℕ) (xs ys zs : List Opening) →
    Within (statement d ∷ (xs ++ none ∷ (ys ++ none ∷ none ∷ none ∷ (zs ++ none ∷ []))))
    ↔ ((d ≤ stmt_limit) × Within xs × Within ys × Within zs)
else-within d xs ys zs = (
  λ h. let f : _ = first-split d stmt_limit (xs ++ none ∷ (ys ++ none ∷ none ∷ none ∷ (zs ++ none ∷ []))) h in
      let x : _ = within-split xs (none ∷ (ys ++ none ∷ none ∷ none ∷ (zs ++ none ∷ []))) f.1 in let y : _ =
      within-split ys (none ∷ none ∷ none ∷ (zs ++ none ∷ [])) x.1 in
      (f.0, x.0, y.0, (within-split zs (none ∷ []) y.1).0),
  λ k. first-join d stmt_limit (xs ++ none ∷ (ys ++ none ∷ none ∷ none ∷ (zs ++ none ∷ []))) k.0
      (within-join xs (none ∷ (ys ++ none ∷ none ∷ none ∷ (zs ++ none ∷ []))) k.1
      (within-join ys (none ∷ none ∷ none ∷ (zs ++ none ∷ [])) k.2 (within-join zs (none ∷ []) k.3 refl))),
)

call-within : (d : ℕ) (target : WrittenTarget) (xs : List Opening) →
    Within (statement d ∷ none ∷ (target_openings target ++ (xs ++ none ∷ none ∷ []))) ↔ ((d ≤ stmt_limit) × Within xs)
call-within d target xs = (
  λ h. let f : _ = first-split d stmt_limit (none ∷ (target_openings target ++ (xs ++ none ∷ none ∷ []))) h in
      let x : _ = within-split (target_openings target) (xs ++ none ∷ none ∷ []) f.1 in
      (f.0, (within-split xs (none ∷ none ∷ []) x.1).0),
  λ k. first-join d stmt_limit (none ∷ (target_openings target ++ (xs ++ none ∷ none ∷ []))) k.0
      (within-join (target_openings target) (xs ++ none ∷ none ∷ []) (target-within target)
      (within-join xs (none ∷ none ∷ []) k.1 refl)),
)

mutual
  stmt-limits : (names : Names) (w : WrittenStmt) (x : StmtTree) (d : ℕ) → resolve_stmt names w ≡ Ok x →
      Within (stmt_openings d w) ↔ ((stmt_depth x + d ≤ stmt_limit + 1) × (stmt_exprs_depth x ≤ expr_limit))
  stmt-limits names (WrittenStmt.assign line field cast value) x d e =
      let b : _ =
      bind-parts (on_line line (resolve_store names field cast)) (λ k. resolve_expr names value
      >>= λ y. Ok (StmtTree.assign line k y)) x e in
      let c : _ = bind-parts (resolve_expr names value) (λ y. Ok (StmtTree.assign line b.0 y)) x b.2 in
      let i : _ = expr-limits names value c.0 1 c.1 in
      let o : _ = assign-within d (expr_openings 1 value) in
      subst (λ y. Within (stmt_openings d (WrittenStmt.assign line field cast value))
      ↔ ((stmt_depth y + d ≤ stmt_limit + 1) × (stmt_exprs_depth y ≤ expr_limit)))
      (ok-same (StmtTree.assign line b.0 c.0) x c.2) (
        λ h. let t : _ = o.0 h in
            (omega (arith, t.0), omega (arith, i.0 t.1)),
        λ h. o.1 (omega (arith, h.0), i.1 (omega (arith, h.1))),
      )
  stmt-limits names (WrittenStmt.assign_at line field index cast value) x d e =
      let b : _ =
      bind-parts (on_line line (resolve_item_store names field cast)) (λ k. resolve_expr names index
      >>= λ i. resolve_expr names value >>= λ y. Ok (StmtTree.assign_at line k i y)) x e in
      let a : _ =
      bind-parts (resolve_expr names index) (λ i. resolve_expr names value
      >>= λ y. Ok (StmtTree.assign_at line b.0 i y)) x b.2 in
      let c : _ = bind-parts (resolve_expr names value) (λ y. Ok (StmtTree.assign_at line b.0 a.0 y)) x a.2 in
      let i : _ = expr-limits names index a.0 1 a.1 in
      let j : _ = expr-limits names value c.0 1 c.1 in
      let o : _ = assign_at-within d (expr_openings 1 index) (expr_openings 1 value) in
      subst (λ y. Within (stmt_openings d (WrittenStmt.assign_at line field index cast value))
      ↔ ((stmt_depth y + d ≤ stmt_limit + 1) × (stmt_exprs_depth y ≤ expr_limit)))
      (ok-same (StmtTree.assign_at line b.0 a.0 c.0) x c.2) (
        λ h. let t : _ = o.0 h in
            (omega (arith, t.0), omega (arith, i.0 t.1, j.0 t.2)),
        λ h. o.1 (omega (arith, h.0), i.1 (omega (arith, h.1)), j.1 (omega (arith, h.1))),
      )
  stmt-limits names (WrittenStmt.branch line test on_true) x d e =
      let a : _ =
      bind-parts (resolve_cond names test) (λ c. resolve_stmts names on_true
      >>= λ xs. Ok (StmtTree.branch line c xs StmtTrees.no_stmts)) x e in
      let b : _ = bind-parts (resolve_stmts names on_true) (λ xs. Ok (StmtTree.branch line a.0 xs StmtTrees.no_stmts)) x a.2 in
      let i : _ = cond-limits names test a.0 1 a.1 in
      let o : _ = branch-within d (cond_openings 1 test) (stmts_openings (d + 1) on_true) in
      subst (λ y. Within (stmt_openings d (WrittenStmt.branch line test on_true))
      ↔ ((stmt_depth y + d ≤ stmt_limit + 1) × (stmt_exprs_depth y ≤ expr_limit)))
      (ok-same (StmtTree.branch line a.0 b.0 StmtTrees.no_stmts) x b.2) (
        λ h. let t : _ = o.0 h in
            let j : _ = (stmts-limits names on_true b.0 (d + 1) (omega (arith, t.0)) b.1).0 t.2 in
            (omega (arith, j.0), omega (arith, i.0 t.1, j.1)),
        λ h. o.1 (
          omega (arith, h.0),
          i.1 (omega (arith, h.1)),
          (stmts-limits names on_true b.0 (d + 1) (omega (arith, h.0)) b.1).1 (omega (arith, h.0), omega (arith, h.1)),
        ),
      )
  stmt-limits names (WrittenStmt.branch_else line test on_true on_false) x d e =
      let a : _ =
      bind-parts (resolve_cond names test) (λ c. resolve_stmts names on_true >>= λ xs. resolve_stmts names on_false
      >>= λ ys. Ok (StmtTree.branch line c xs ys)) x e in
      let b : _ =
      bind-parts (resolve_stmts names on_true) (λ xs. resolve_stmts names on_false
      >>= λ ys. Ok (StmtTree.branch line a.0 xs ys)) x a.2 in
      let c : _ = bind-parts (resolve_stmts names on_false) (λ ys. Ok (StmtTree.branch line a.0 b.0 ys)) x b.2 in
      let i : _ = cond-limits names test a.0 1 a.1 in
      let o : _ = else-within d (cond_openings 1 test) (stmts_openings (d + 1) on_true) (stmts_openings (d + 1) on_false) in
      subst (λ y. Within (stmt_openings d (WrittenStmt.branch_else line test on_true on_false))
      ↔ ((stmt_depth y + d ≤ stmt_limit + 1) × (stmt_exprs_depth y ≤ expr_limit)))
      (ok-same (StmtTree.branch line a.0 b.0 c.0) x c.2) (
        λ h. let t : _ = o.0 h in
            let j : _ = (stmts-limits names on_true b.0 (d + 1) (omega (arith, t.0)) b.1).0 t.2 in let k : _ =
            (stmts-limits names on_false c.0 (d + 1) (omega (arith, t.0)) c.1).0 t.3 in
            (omega (arith, j.0, k.0), omega (arith, i.0 t.1, j.1, k.1)),
        λ h. o.1 (
          omega (arith, h.0),
          i.1 (omega (arith, h.1)),
          (stmts-limits names on_true b.0 (d + 1) (omega (arith, h.0)) b.1).1 (omega (arith, h.0), omega (arith, h.1)),
          (stmts-limits names on_false c.0 (d + 1) (omega (arith, h.0)) c.1).1 (
            omega (arith, h.0),
            omega (arith, h.1),
          ),
        ),
      )
  stmt-limits names (WrittenStmt.call line procedure target values) x d e =
      let b : _ =
      bind-parts (on_line line (resolve_call names procedure target (argument_casts values)))
      (λ callee. resolve_arguments names values >>= λ xs. Ok (StmtTree.call line callee.0 callee.1 xs)) x e in
      let c : _ = bind-parts (resolve_arguments names values) (λ xs. Ok (StmtTree.call line b.0.0 b.0.1 xs)) x b.2 in
      let i : _ = arguments-limits names values c.0 c.1 in
      let o : _ = call-within d target (arguments_openings values) in
      subst (λ y. Within (stmt_openings d (WrittenStmt.call line procedure target values))
      ↔ ((stmt_depth y + d ≤ stmt_limit + 1) × (stmt_exprs_depth y ≤ expr_limit)))
      (ok-same (StmtTree.call line b.0.0 b.0.1 c.0) x c.2) (
        λ h. let t : _ = o.0 h in (omega (arith, t.0), i.0 t.1),
        λ h. o.1 (omega (arith, h.0), i.1 h.1),
      )

  stmts-limits : (names : Names) (ws : WrittenStmts) (xs : StmtTrees) (d : ℕ) → d ≤ stmt_limit + 1 →
      resolve_stmts names ws ≡ Ok xs →
      Within (stmts_openings d ws) ↔ ((stmts_depth xs + d ≤ stmt_limit + 1) × (stmts_exprs_depth xs ≤ expr_limit))
  stmts-limits names WrittenStmts.no_stmts xs d l e =
      subst (λ y. Within [] ↔ ((stmts_depth y + d ≤ stmt_limit + 1) × (stmts_exprs_depth y ≤ expr_limit)))
      (ok-same StmtTrees.no_stmts xs e) (λ h. (omega (arith, l), omega arith), λ h. refl)
  stmts-limits names (WrittenStmts.more_stmts w ws) xs d l e =
      let b : _ = bind-parts (resolve_stmt names w) (λ x. resolve_stmts names ws >>= λ ys. Ok (StmtTrees.more_stmts x ys)) xs e in
      let c : _ = bind-parts (resolve_stmts names ws) (λ ys. Ok (StmtTrees.more_stmts b.0 ys)) xs b.2 in
      let i : _ = stmt-limits names w b.0 d b.1 in
      let j : _ = stmts-limits names ws c.0 d l c.1 in
      subst (λ y. Within (stmt_openings d w ++ stmts_openings d ws)
      ↔ ((stmts_depth y + d ≤ stmt_limit + 1) × (stmts_exprs_depth y ≤ expr_limit)))
      (ok-same (StmtTrees.more_stmts b.0 c.0) xs c.2) (
        λ h. let t : _ = within-split (stmt_openings d w) (stmts_openings d ws) h in let p : _ = i.0 t.0 in
            let q : _ = j.0 t.1 in (omega (arith, p.0, q.0), omega (arith, p.1, q.1)),
        λ h. within-join (stmt_openings d w) (stmts_openings d ws) (i.1 (omega (arith, h.0), omega (arith, h.1)))
            (j.1 (omega (arith, h.0), omega (arith, h.1))),
      )

-- parameters

more_params-limits : (ps : List WrittenParam) (count : ℕ) → count ≤ param_limit →
    Within (more_params_openings (count + 1) ps) ↔ (count + length ps ≤ param_limit)
more_params-limits [] count l = (λ h. omega (arith, l), λ h. refl)
more_params-limits (p ∷ ps) count l = (
  λ h. let f : _ = first-split (count + 1) param_limit (none ∷ more_params_openings (count + 1 + 1) ps) h in
      omega (arith, (more_params-limits ps (count + 1) f.0).0 f.1),
  λ h. first-join (count + 1) param_limit (none ∷ more_params_openings (count + 1 + 1) ps) (omega (arith, h))
      ((more_params-limits ps (count + 1) (omega (arith, h))).1 (omega (arith, h))),
)

more_pure_params-limits : (ps : List WrittenPureParam) (count : ℕ) → count ≤ param_limit →
    Within (more_pure_params_openings (count + 1) ps) ↔ (count + length ps ≤ param_limit)
more_pure_params-limits [] count l = (λ h. omega (arith, l), λ h. refl)
more_pure_params-limits (p ∷ ps) count l = (
  λ h. let f : _ = first-split (count + 1) param_limit (none ∷ more_pure_params_openings (count + 1 + 1) ps) h in
      omega (arith, (more_pure_params-limits ps (count + 1) f.0).0 f.1),
  λ h. first-join (count + 1) param_limit (none ∷ more_pure_params_openings (count + 1 + 1) ps) (omega (arith, h))
      ((more_pure_params-limits ps (count + 1) (omega (arith, h))).1 (omega (arith, h))),
)

pure_params-limits : (ps : List WrittenPureParam) → Within (pure_params_openings ps) ↔ (length ps ≤ param_limit)
pure_params-limits [] = (λ h. omega arith, λ h. refl)
pure_params-limits (p ∷ ps) =
    let i : _ = more_pure_params-limits ps 1 (omega arith) in
    (λ h. omega (arith, i.0 h), λ h. i.1 (omega (arith, h)))

-- definitions

pure-within : (number : ℕ) (params body : List Opening) →
    Within (pure_function number ∷ none ∷ none ∷ none ∷ (params ++ none ∷ none ∷ none ∷ (body ++ none ∷ none ∷ [])))
    ↔ ((number ≤ pure_limit) × Within params × Within body)
pure-within number params body = (
  λ h. let f : _ = first-split number pure_limit
      (none ∷ none ∷ none ∷ (params ++ none ∷ none ∷ none ∷ (body ++ none ∷ none ∷ []))) h in let x : _ =
      within-split params (none ∷ none ∷ none ∷ (body ++ none ∷ none ∷ [])) f.1 in
      (f.0, x.0, (within-split body (none ∷ none ∷ []) x.1).0),
  λ k. first-join number pure_limit
      (none ∷ none ∷ none ∷ (params ++ none ∷ none ∷ none ∷ (body ++ none ∷ none ∷ []))) k.0
      (within-join params (none ∷ none ∷ none ∷ (body ++ none ∷ none ∷ [])) k.1
      (within-join body (none ∷ none ∷ []) k.2 refl)),
)

pure-limits : (known : Known) (w : WrittenPure) (x : PureTree) (number : ℕ) → resolve_pure known w ≡ Ok x →
    Within (pure_openings number w) ↔ ((number ≤ pure_limit) × PureFits x)
pure-limits known w x number e =
    let names : Names = record { known = known; of = None; fields = []; params = map (λ q. q.name) w.params } in
    let a : _ =
    then-parts (on_line w.line (unless_fault (not (has_name (function_names known) w.name)) Name))
    (check_params (function_names known) [] (map (λ q. (q.line, q.name)) w.params) >>
    (resolve_expr names w.body
    >>= λ body.
    Ok (record { name = w.name; params = map (λ q. q.name) w.params; body = body; line = w.return_line }))) x e in
    let b : _ =
    then-parts (check_params (function_names known) [] (map (λ q. (q.line, q.name)) w.params))
    (resolve_expr names w.body
    >>= λ body.
    Ok (record { name = w.name; params = map (λ q. q.name) w.params; body = body; line = w.return_line })) x a.2 in
    let c : _ =
    bind-parts (resolve_expr names w.body)
    (λ body. Ok (record { name = w.name; params = map (λ q. q.name) w.params; body = body; line = w.return_line }))
    x b.2 in
    let o : _ = pure-within number (pure_params_openings w.params) (expr_openings 1 w.body) in
    let i : _ = pure_params-limits w.params in
    let j : _ = expr-limits names w.body c.0 1 c.1 in
    let count : length (map (λ q. q.name) w.params) ≡ length w.params = length-map w.params (λ q. q.name) in
    subst (λ y. Within (pure_openings number w) ↔ ((number ≤ pure_limit) × PureFits y))
    (ok-same (record { name = w.name; params = map (λ q. q.name) w.params; body = c.0; line = w.return_line }) x
    c.2) (
      λ h. let t : _ = o.0 h in
          (t.0, record { params = omega (arith, count, i.0 t.1); body = omega (arith, j.0 t.2) }),
      λ h. o.1 (h.0, i.1 (omega (arith, count, h.1.params)), j.1 (omega (arith, h.1.body))),
    )

-- each pure function is resolved after those before it
abbrev Pures : Known → List WrittenPure → List PureTree → Known → Type 0
Pures known [] [] after = known ≡ after
Pures known [] (x ∷ xs) after = ⊥
Pures known (w ∷ ws) [] after = ⊥
Pures known (w ∷ ws) (x ∷ xs) after = (resolve_pure known w ≡ Ok x) × Pures (record known { pures = known.pures ++ x ∷ [] }) ws xs after

pures-parts : (known : Known) (ws : List WrittenPure) (after : Known) → resolve_pures known ws ≡ Ok after →
    (xs : List PureTree) × Pures known ws xs after
pures-parts known [] after e = ([], ok-same known after e)
pures-parts known (w ∷ ws) after e =
    let b : _ = bind-parts (resolve_pure known w) (λ x. resolve_pures (record known { pures = known.pures ++ x ∷ [] }) ws) after e in
    let later : _ = pures-parts (record known { pures = known.pures ++ b.0 ∷ [] }) ws after b.2 in
    (b.0 ∷ later.0, (b.1, later.1))

pures-kept : (known : Known) (ws : List WrittenPure) (xs : List PureTree) (after : Known) → Pures known ws xs after →
    (after.pures ≡ known.pures ++ xs) × (after.procedures ≡ known.procedures)
pures-kept known [] [] after e = (ap (λ k. k.pures) (sym e) ∙ sym (append-nil known.pures), ap (λ k. k.procedures) (sym e))
pures-kept known [] (x ∷ xs) after e = absurd e
pures-kept known (w ∷ ws) [] after e = absurd e
pures-kept known (w ∷ ws) (x ∷ xs) after e =
    let later : _ = pures-kept (record known { pures = known.pures ++ x ∷ [] }) ws xs after e.1 in
    (later.0 ∙ append_assoc known.pures (x ∷ []) xs, later.1)

pures-limits : (known : Known) (ws : List WrittenPure) (xs : List PureTree) (after : Known) (count : ℕ) →
    count ≤ pure_limit → Pures known ws xs after →
    Within (pures_openings (count + 1) ws) ↔ ((count + length xs ≤ pure_limit) × AllByRecursion PureFits xs)
pures-limits known [] [] after count l e = (λ h. (omega (arith, l), tt), λ h. refl)
pures-limits known [] (x ∷ xs) after count l e = absurd e
pures-limits known (w ∷ ws) [] after count l e = absurd e
pures-limits known (w ∷ ws) (x ∷ xs) after count l e =
    let i : _ = pure-limits known w x (count + 1) e.0 in (
      λ h. let t : _ = within-split (pure_openings (count + 1) w) (pures_openings (count + 1 + 1) ws) h in
          let p : _ = i.0 t.0 in let q : _ =
          (pures-limits (record known { pures = known.pures ++ x ∷ [] }) ws xs after (count + 1) p.0 e.1).0 t.1 in
          (omega (arith, q.0), (p.1, q.1)),
      λ h. within-join (pure_openings (count + 1) w) (pures_openings (count + 1 + 1) ws)
          (i.1 (omega (arith, h.0), h.1.0))
          ((pures-limits (record known { pures = known.pures ++ x ∷ [] }) ws xs after (count + 1)
          (omega (arith, h.0)) e.1).1 (omega (arith, h.0), h.1.1)),
    )

structs-kept : (known : Known) (ds : List WrittenStruct) (after : Known) → resolve_structs known ds ≡ Ok after →
    (after.pures ≡ known.pures) × (after.procedures ≡ known.procedures)
structs-kept known [] after e = (ap (λ k. k.pures) (sym (ok-same known after e)), ap (λ k. k.procedures) (sym (ok-same known after e)))
structs-kept known (d ∷ ds) after e =
    let b : _ =
    bind-parts (resolve_struct known d)
    (λ x. resolve_structs (record known { structs = known.structs ++ x ∷ [] }) ds) after e in
    structs-kept (record known { structs = known.structs ++ b.0 ∷ [] }) ds after b.2

kind-within : (kind : WrittenKind) → Within (kind_openings kind)
kind-within (WrittenKind.number_kind type) = refl
kind-within (WrittenKind.array_kind type count) = refl
kind-within (WrittenKind.struct_kind name) = refl

length-within : (kind : WrittenKind) → Within (length_openings kind)
length-within (WrittenKind.number_kind type) = refl
length-within (WrittenKind.array_kind type count) = refl
length-within (WrittenKind.struct_kind name) = refl

fields-within : (fs : List WrittenField) → Within (fields_openings fs)
fields-within [] = refl
fields-within (f ∷ fs) =
    within-join (kind_openings f.kind) (none ∷ (length_openings f.kind ++ none ∷ fields_openings fs))
    (kind-within f.kind) (within-join (length_openings f.kind) (none ∷ fields_openings fs) (length-within f.kind)
    (fields-within fs))

structs-within : (ds : List WrittenStruct) → Within (structs_openings ds)
structs-within [] = refl
structs-within (d ∷ ds) =
    within-join (fields_openings d.fields) (none ∷ none ∷ structs_openings ds) (fields-within d.fields)
    (structs-within ds)

private-within : (private : Bool) → Within (private_openings private)
private-within true = refl
private-within false = refl

procedure-within : (private : Bool) (params body later : List Opening) →
    Within (private_openings private ++ none ∷ none ∷ none ∷ none ∷ none ∷ none
    ∷ (params ++ none ∷ none ∷ (body ++ none ∷ later))) ↔ (Within params × Within body × Within later)
procedure-within private params body later = (
  λ h. let f : _ = within-split (private_openings private) (none ∷ none ∷ none ∷ none ∷ none ∷ none
      ∷ (params ++ none ∷ none ∷ (body ++ none ∷ later))) h in
      let x : _ = within-split params (none ∷ none ∷ (body ++ none ∷ later)) f.1 in let y : _ =
      within-split body (none ∷ later) x.1 in
      (x.0, y.0, y.1),
  λ k. within-join (private_openings private) (none ∷ none ∷ none ∷ none ∷ none ∷ none
      ∷ (params ++ none ∷ none ∷ (body ++ none ∷ later))) (private-within private)
      (within-join params (none ∷ none ∷ (body ++ none ∷ later)) k.0 (within-join body (none ∷ later) k.1 k.2)),
)

procedure-limits : (known : Known) (w : WrittenProcedure) (x : ProcedureTree) → resolve_procedure known w ≡ Ok x →
    (Within (more_params_openings 1 w.params) × Within (stmts_openings 1 w.body)) ↔ ProcedureFits x
procedure-limits known w x e =
    let a : _ =
    bind-parts (on_line w.line (resolve_head known w))
    (λ k. check_params (function_names known) [] (map (λ q. (q.line, q.name)) w.params) >>
    (resolve_stmts (record {
      known = known;
      of = Some k;
      fields = struct_fields known.structs k;
      params = map (λ q. q.name) w.params;
    }) w.body
    >>= λ body.
    Ok (record { name = w.name; private = w.private; of = k; params = map param_of w.params; body = body }))) x e in
    let k : ℕ = a.0 in
    let names : Names =
    record {
      known = known;
      of = Some k;
      fields = struct_fields known.structs k;
      params = map (λ q. q.name) w.params;
    } in
    let b : _ =
    then-parts (check_params (function_names known) [] (map (λ q. (q.line, q.name)) w.params))
    (resolve_stmts names w.body
    >>= λ body.
    Ok (record { name = w.name; private = w.private; of = k; params = map param_of w.params; body = body })) x
    a.2 in
    let c : _ =
    bind-parts (resolve_stmts names w.body)
    (λ body.
    Ok (record { name = w.name; private = w.private; of = k; params = map param_of w.params; body = body })) x
    b.2 in
    let i : _ = more_params-limits w.params 0 (omega arith) in
    let j : _ = stmts-limits names w.body c.0 1 (omega arith) c.1 in
    let count : length (map param_of w.params) ≡ length w.params = length-map w.params param_of in
    subst (λ y. (Within (more_params_openings 1 w.params) × Within (stmts_openings 1 w.body)) ↔ ProcedureFits y)
    (ok-same (record { name = w.name; private = w.private; of = k; params = map param_of w.params; body = c.0 }) x
    c.2) (
      λ h. let t : _ = j.0 h.1 in
          record { params = omega (arith, count, i.0 h.0); statements = omega (arith, t.0); expressions = t.1 },
      λ h. (i.1 (omega (arith, count, h.params)), j.1 (omega (arith, h.statements), h.expressions)),
    )

record ProceduresFit (known : Known) (ws : List WrittenProcedure) (after : Known) : Type 0 where
  new : List ProcedureTree
  pures : after.pures ≡ known.pures
  procedures : after.procedures ≡ known.procedures ++ new
  limits : Within (procedures_openings ws) ↔ AllByRecursion ProcedureFits new

procedures-fit : (known : Known) (ws : List WrittenProcedure) (after : Known) → resolve_procedures known ws ≡ Ok after →
    ProceduresFit known ws after
procedures-fit known [] after e =
    let same : known ≡ after = ok-same known after e in
    record {
      new = [];
      pures = ap (λ k. k.pures) (sym same);
      procedures = ap (λ k. k.procedures) (sym same)
          ∙ sym (append-nil known.procedures);
      limits = (λ h. tt, λ h. refl);
    }
procedures-fit known (w ∷ ws) after e =
    let b : _ =
    bind-parts (resolve_procedure known w)
    (λ x. resolve_procedures
    (record known {
      procedures = known.procedures ++ x ∷ [];
      chains = known.chains ++ (stmts_chain known.chains x.body + 1) ∷ [];
    }) ws) after e in
    let x : ProcedureTree = b.0 in
    let grown : Known =
    record known {
      procedures = known.procedures ++ x ∷ [];
      chains = known.chains ++ (stmts_chain known.chains x.body + 1) ∷ [];
    } in
    let later : ProceduresFit grown ws after = procedures-fit grown ws after b.2 in
    let i : _ = procedure-limits known w x b.1 in
    let o : _ = procedure-within w.private (more_params_openings 1 w.params) (stmts_openings 1 w.body) (procedures_openings ws) in
    record {
      new = x ∷ later.new;
      pures = later.pures;
      procedures = later.procedures ∙ append_assoc known.procedures (x ∷ []) later.new;
      limits = (
        λ h. let t : _ = o.0 h in (i.0 (t.0, t.1), later.limits.0 t.2),
        λ h. let t : _ = i.1 h.0 in
            o.1 (t.0, t.1, later.limits.1 h.1),
      );
    }

-- a program is within the limits exactly where its tokens open nothing beyond one
pub program-limits : (last : ℕ) (w : WrittenProgram) (p : ProgramTree) → resolve_program last w ≡ Ok p →
    Within (openings w) ↔ IsWithinLimits p
program-limits last w p e =
    let done : ProgramDone last w p = program-done last w p e in
    let xs : _ = pures-parts (with_pures []) w.pures done.known_pures done.pures in
    let kept : _ = pures-kept (with_pures []) w.pures xs.0 done.known_pures xs.1 in
    let structs : _ = structs-kept done.known_pures w.structs done.known_structs done.structs in
    let fit : ProceduresFit done.known_structs w.procedures done.known =
    procedures-fit done.known_structs w.procedures done.known done.procedures in
    let pures : done.known.pures ≡ xs.0 = fit.pures ∙ structs.0 ∙ kept.0 in
    let procedures : done.known.procedures ≡ fit.new = fit.procedures ∙ ap (λ ps. ps ++ fit.new) (structs.1 ∙ kept.1) in
    let i : _ = pures-limits (with_pures []) w.pures xs.0 done.known_pures 0 (omega arith) xs.1 in
    let forth : Within (openings w) →
    IsWithinLimits
    (record { pures = done.known.pures; structs = done.known.structs; procedures = done.known.procedures }) =
    λ h. let t : _ =
    within-split (pures_openings 1 w.pures) (structs_openings w.structs ++ procedures_openings w.procedures) h in
    let f : _ = i.0 t.0 in record {
      count = subst (λ ps. length ps ≤ pure_limit) (sym pures) (omega (arith, f.0));
      pures = subst (λ ps. AllByRecursion PureFits ps) (sym pures) f.1;
      procedures =
          subst (λ ps. AllByRecursion ProcedureFits ps) (sym procedures)
          (fit.limits.0 (within-split (structs_openings w.structs) (procedures_openings w.procedures) t.1).1);
    } in
    let back : IsWithinLimits
    (record { pures = done.known.pures; structs = done.known.structs; procedures = done.known.procedures }) →
    Within (openings w) = λ h. let count : length xs.0 ≤ pure_limit =
    subst (λ ps. length ps ≤ pure_limit) pures h.count in
    within-join (pures_openings 1 w.pures) (structs_openings w.structs ++ procedures_openings w.procedures)
    (i.1 (omega (arith, count), subst (λ ps. AllByRecursion PureFits ps) pures h.pures))
    (within-join (structs_openings w.structs) (procedures_openings w.procedures) (structs-within w.structs)
    (fit.limits.1 (subst (λ ps. AllByRecursion ProcedureFits ps) procedures h.procedures))) in
    subst (λ q. Within (openings w) ↔ IsWithinLimits q) done.is (forth, back)

pub limits_agree : LimitsAgree
limits_agree last written p e = program-limits last written p e
