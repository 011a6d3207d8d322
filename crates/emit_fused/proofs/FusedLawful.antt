-- A lawful program is lawful when it is fused.
use Rattle.std.specs.Prelude.{◌≡◌, ℕ, ◌+◌, ◌-◌, ◌≤◌, max, List, [], ◌∷◌, ◌++◌, map, length, pos, option_map, ⊤}
use Rattle.std.specs.List.{AllByRecursion}
use Rattle.std.proofs.Common.{refl, sym, ap, subst, ◌∙◌, arith}
use Rattle.std.proofs.lemmas.Bool.{cond_both}
use Rattle.std.proofs.lemmas.List.{map-append}
use Rattle.std.proofs.lemmas.Option.{slice_get-map}
use Rattle.c_syntax.specs.declared.code.BinOp.{BinOp}
use Rattle.c_syntax.specs.declared.code.BinOp.TheVariants.{Add, Sub, Mul, Div, Rem}
use Rattle.c_syntax.specs.declared.code.Leaf.{Leaf}
use Rattle.c_syntax.specs.declared.code.Leaf.TheVariants.{Param, Own, Child}
use Rattle.c_syntax.specs.declared.code.Target.{Target}
use Rattle.c_syntax.specs.declared.code.Target.TheVariants.{Own as OwnTarget, Child as ChildTarget}
use Rattle.c_syntax.specs.Tree.{ExprTree, literal, neg, read, binary, pick, pure, item, ExprTrees, no_exprs, more_exprs, CondTree, compare, both, either, negated, call, StmtTrees, PureTree, StructTree, struct_fields, ProcedureTree}
use Rattle.c_syntax.specs.Chains.{stmt_chain, stmts_chain, chain_limit}
use Rattle.c_syntax.specs.Limits.{expr_depth, exprs_depth, cond_depth, stmt_depth, stmts_depth, stmt_exprs_depth, stmts_exprs_depth, ProcedureFits, stmt_limit, expr_limit}
use Rattle.c_syntax.specs.Lawful.{Reach, IsLawfulLeaf, exprs_length, IsLawfulExpr, AreLawfulExprs, IsLawfulCond, IsLawfulTarget, IsLawfulStmt, AreLawfulStmts, AreDistinct, AreApart, pure_names, procedure_names, param_names, AreProcedures, chains_of}
use Rattle.emit_fused.specs.Simplified.{is_one, simplified_binary, simplified_expr, simplified_exprs, simplified_cond}
use Rattle.emit_fused.specs.Fused.{fused_stmts, fused_procedure}
use Rattle.emit_fused.specs.Laws.{FusedIsLawful}
use Rattle.emit_fused.proofs.lemmas.Parts.{IsByParts, IsCarried, fused_stmts-keep}
use Rattle.emit_fused.proofs.lemmas.Measures.{IsSum, IsMeasure, fused_stmts-weigh}

-- ---- Expressions

pub same-count : (es : ExprTrees) → exprs_length (simplified_exprs es) ≡ exprs_length es
same-count no_exprs = refl
same-count (more_exprs e es) = ap (λ n. n + 1) (same-count es)

module _ (reach : Reach) where
  -- what is reached when the earlier procedures are fused
  abbrev after : Reach
  after = record {
    pures = reach.pures;
    structs = reach.structs;
    procedures = map fused_procedure reach.procedures;
    fields = reach.fields;
    params = reach.params;
    of = reach.of;
  }

  leaf-lawful : (leaf : Leaf) → IsLawfulLeaf reach leaf → IsLawfulLeaf after leaf
  leaf-lawful (Param k) h = h
  leaf-lawful (Own f) h = h
  leaf-lawful (Child f g) h = h

  target-lawful : (target : Target) (of : ℕ) → IsLawfulTarget reach target of → IsLawfulTarget after target of
  target-lawful OwnTarget of h = h
  target-lawful (ChildTarget f) of h = h

  -- a test reaches no procedures
  mutual
    part-lawful : (e : ExprTree) → IsLawfulExpr reach e → IsLawfulExpr after e
    part-lawful (literal value) h = h
    part-lawful (neg e) h = part-lawful e h
    part-lawful (read leaf) h = leaf-lawful leaf h
    part-lawful (binary op a b) h = (part-lawful a h.0, part-lawful b h.1)
    part-lawful (pick test a b) h = (test-lawful test h.0, part-lawful a h.1, part-lawful b h.2)
    part-lawful (pure k es) (f, there, count, all) = (f, there, count, parts-lawful es all)
    part-lawful (item f index) h = (h.0, part-lawful index h.1)

    parts-lawful : (es : ExprTrees) → AreLawfulExprs reach es → AreLawfulExprs after es
    parts-lawful no_exprs h = tt
    parts-lawful (more_exprs e es) h = (part-lawful e h.0, parts-lawful es h.1)

    test-lawful : (c : CondTree) → IsLawfulCond reach c → IsLawfulCond after c
    test-lawful (compare how a b) h = (part-lawful a h.0, part-lawful b h.1)
    test-lawful (both a b) h = (test-lawful a h.0, test-lawful b h.1)
    test-lawful (either a b) h = (test-lawful a h.0, test-lawful b h.1)
    test-lawful (negated a) h = test-lawful a h

  nothing-lawful : IsLawfulExpr after (literal (pos 0))
  nothing-lawful = (0, refl, omega arith)

  binary-lawful : (op : BinOp) (a b : ExprTree) → IsLawfulExpr after a → IsLawfulExpr after b → IsLawfulExpr after (simplified_binary op a b)
  binary-lawful Mul a b h g = cond_both (is_one b) a (binary Mul a b) (IsLawfulExpr after) (λ is. h) (λ other. (h, g))
  binary-lawful Rem a b h g =
      cond_both (is_one b) (literal (pos 0)) (binary Rem a b) (IsLawfulExpr after) (λ is. nothing-lawful) (λ other. (h, g))
  binary-lawful Add a b h g = (h, g)
  binary-lawful Sub a b h g = (h, g)
  binary-lawful Div a b h g = (h, g)

  mutual
    expr-lawful : (e : ExprTree) → IsLawfulExpr reach e → IsLawfulExpr after (simplified_expr e)
    expr-lawful (literal value) h = h
    expr-lawful (neg e) h = expr-lawful e h
    expr-lawful (read leaf) h = leaf-lawful leaf h
    expr-lawful (binary op a b) h = binary-lawful op (simplified_expr a) (simplified_expr b) (expr-lawful a h.0) (expr-lawful b h.1)
    expr-lawful (pick test a b) h = (cond-lawful test h.0, expr-lawful a h.1, expr-lawful b h.2)
    expr-lawful (pure k es) (f, there, count, all) = (f, there, count ∙ sym (same-count es), exprs-lawful es all)
    expr-lawful (item f index) h = (h.0, expr-lawful index h.1)

    exprs-lawful : (es : ExprTrees) → AreLawfulExprs reach es → AreLawfulExprs after (simplified_exprs es)
    exprs-lawful no_exprs h = tt
    exprs-lawful (more_exprs e es) h = (expr-lawful e h.0, exprs-lawful es h.1)

    cond-lawful : (c : CondTree) → IsLawfulCond reach c → IsLawfulCond after (simplified_cond c)
    cond-lawful (compare how a b) h = (expr-lawful a h.0, expr-lawful b h.1)
    cond-lawful (both a b) h = (cond-lawful a h.0, cond-lawful b h.1)
    cond-lawful (either a b) h = (cond-lawful a h.0, cond-lawful b h.1)
    cond-lawful (negated a) h = cond-lawful a h

  -- ---- Statements

  call-lawful : (line k : ℕ) (target : Target) (es : ExprTrees) → IsLawfulStmt reach (call line k target es) →
      IsLawfulStmt after (call line k target (simplified_exprs es))
  call-lawful line k target es (q, there, of, count, all) = (
    fused_procedure q,
    slice_get-map fused_procedure reach.procedures k ∙ ap (option_map fused_procedure) there,
    target-lawful target q.of of,
    count ∙ sym (same-count es),
    exprs-lawful es all,
  )

  lawful-parts : IsByParts (λ i. i) (IsLawfulCond after) (λ i. IsLawfulStmt after) (λ i. AreLawfulStmts after)
  lawful-parts = record {
    none = λ i. tt;
    more = λ i x xs h g. (h, g);
    first = λ i x xs h. h.0;
    rest = λ i x xs h. h.1;
    test = λ i line t a b h. h.0;
    on_true = λ i line t a b h. h.1;
    on_false = λ i line t a b h. h.2;
    rebuilt = λ i line later t u a b c d h test one other. (test, one, other);
    raised = λ i xs h. h;
  }

  lawful-carried : IsCarried (λ i. i) (λ i. IsLawfulStmt reach) (λ i. AreLawfulStmts reach) (λ i. IsLawfulStmt after)
      (λ i. AreLawfulStmts after)
  lawful-carried = record {
    first = λ i x xs h. h.0;
    rest = λ i x xs h. h.1;
    on_true = λ i line t a b h. h.1;
    on_false = λ i line t a b h. h.2;
    branches = λ i line t a b c d h one other. (test-lawful t h.0, one, other);
    stores = λ i line f e h. (h.0, expr-lawful e h.1);
    items = λ i line f index e h. (h.0, expr-lawful index h.1, expr-lawful e h.2);
    calls = λ i line k target es h. call-lawful line k target es h;
  }

  stmts-lawful : (xs : StmtTrees) → AreLawfulStmts reach xs → AreLawfulStmts after (fused_stmts xs)
  stmts-lawful xs h =
      fused_stmts-keep (λ i. i) (IsLawfulCond after) (λ i. IsLawfulStmt after) (λ i. AreLawfulStmts after) lawful-parts
      (λ i. IsLawfulStmt reach) (λ i. AreLawfulStmts reach) lawful-carried xs 0 h

-- ---- Depths

both-below : (a b c d : ℕ) → a ≤ c → b ≤ d → max a b ≤ max c d
both-below a b c d one other = omega arith

deeper : (a b : ℕ) → a ≤ b → a + 1 ≤ b + 1
deeper a b h = omega arith

binary-depth : (op : BinOp) (a b : ExprTree) → expr_depth (simplified_binary op a b) ≤ max (expr_depth a) (expr_depth b) + 1
binary-depth Mul a b =
    cond_both (is_one b) a (binary Mul a b) (λ e. expr_depth e ≤ max (expr_depth a) (expr_depth b) + 1) (λ is. omega arith)
    (λ other. omega arith)
binary-depth Rem a b =
    cond_both (is_one b) (literal (pos 0)) (binary Rem a b) (λ e. expr_depth e ≤ max (expr_depth a) (expr_depth b) + 1) (λ is. omega arith)
    (λ other. omega arith)
binary-depth Add a b = omega arith
binary-depth Sub a b = omega arith
binary-depth Div a b = omega arith

two-below : (a b c d n : ℕ) → n ≤ max a b + 1 → a ≤ c → b ≤ d → n ≤ max c d + 1
two-below a b c d n h one other = omega arith

mutual
  pub expr-depth : (e : ExprTree) → expr_depth (simplified_expr e) ≤ expr_depth e
  expr-depth (literal value) = omega arith
  expr-depth (neg e) = deeper _ _ (expr-depth e)
  expr-depth (read leaf) = omega arith
  expr-depth (binary op a b) =
      two-below (expr_depth (simplified_expr a)) (expr_depth (simplified_expr b)) (expr_depth a) (expr_depth b)
      (expr_depth (simplified_binary op (simplified_expr a) (simplified_expr b)))
      (binary-depth op (simplified_expr a) (simplified_expr b)) (expr-depth a) (expr-depth b)
  expr-depth (pick test a b) =
      deeper _ _ (both-below _ _ _ _ (cond-depth test) (both-below _ _ _ _ (expr-depth a) (expr-depth b)))
  expr-depth (pure k es) = deeper _ _ (exprs-depth es)
  expr-depth (item f index) = deeper _ _ (expr-depth index)

  pub exprs-depth : (es : ExprTrees) → exprs_depth (simplified_exprs es) ≤ exprs_depth es
  exprs-depth no_exprs = omega arith
  exprs-depth (more_exprs e es) = both-below _ _ _ _ (expr-depth e) (exprs-depth es)

  pub cond-depth : (c : CondTree) → cond_depth (simplified_cond c) ≤ cond_depth c
  cond-depth (compare how a b) = deeper _ _ (both-below _ _ _ _ (expr-depth a) (expr-depth b))
  cond-depth (both a b) = deeper _ _ (both-below _ _ _ _ (cond-depth a) (cond-depth b))
  cond-depth (either a b) = deeper _ _ (both-below _ _ _ _ (cond-depth a) (cond-depth b))
  cond-depth (negated a) = deeper _ _ (cond-depth a)

-- how deep statements are nested, by the levels that are left
depth-parts : IsByParts (λ n. n - 1) (λ t. ⊤) (λ n x. stmt_depth x ≤ n) (λ n xs. stmts_depth xs ≤ n)
depth-parts = record {
  none = λ i. omega arith;
  more = λ i x xs h g. omega (arith, h, g);
  first = λ i x xs h. omega (arith, h);
  rest = λ i x xs h. omega (arith, h);
  test = λ i line t a b h. tt;
  on_true = λ i line t a b h. omega (arith, h);
  on_false = λ i line t a b h. omega (arith, h);
  rebuilt = λ i line later t u a b c d h test one other. omega (arith, h, one, other);
  raised = λ i xs h. omega (arith, h);
}

depth-carried : IsCarried (λ n. n - 1) (λ n x. stmt_depth x ≤ n) (λ n xs. stmts_depth xs ≤ n) (λ n x. stmt_depth x ≤ n)
    (λ n xs. stmts_depth xs ≤ n)
depth-carried = record {
  first = depth-parts.first;
  rest = depth-parts.rest;
  on_true = depth-parts.on_true;
  on_false = depth-parts.on_false;
  branches = λ i line t a b c d h one other. depth-parts.rebuilt i line line t t a b c d h tt one other;
  stores = λ i line f e h. h;
  items = λ i line f index e h. h;
  calls = λ i line k target es h. h;
}

stmts-depth : (xs : StmtTrees) (n : ℕ) → stmts_depth xs ≤ n → stmts_depth (fused_stmts xs) ≤ n
stmts-depth xs n h =
    fused_stmts-keep (λ n. n - 1) (λ t. ⊤) (λ n x. stmt_depth x ≤ n) (λ n xs. stmts_depth xs ≤ n) depth-parts
    (λ n x. stmt_depth x ≤ n) (λ n xs. stmts_depth xs ≤ n) depth-carried xs n h

-- how deep the expressions in statements are
module _ (most : ℕ) where
  exprs-parts : IsByParts (λ i. i) (λ t. cond_depth t ≤ most) (λ i x. stmt_exprs_depth x ≤ most) (λ i xs. stmts_exprs_depth xs ≤ most)
  exprs-parts = record {
    none = λ i. omega arith;
    more = λ i x xs h g. omega (arith, h, g);
    first = λ i x xs h. omega (arith, h);
    rest = λ i x xs h. omega (arith, h);
    test = λ i line t a b h. omega (arith, h);
    on_true = λ i line t a b h. omega (arith, h);
    on_false = λ i line t a b h. omega (arith, h);
    rebuilt = λ i line later t u a b c d h test one other. omega (arith, test, one, other);
    raised = λ i xs h. h;
  }

  exprs-carried : IsCarried (λ i. i) (λ i x. stmt_exprs_depth x ≤ most) (λ i xs. stmts_exprs_depth xs ≤ most)
      (λ i x. stmt_exprs_depth x ≤ most) (λ i xs. stmts_exprs_depth xs ≤ most)
  exprs-carried = record {
    first = exprs-parts.first;
    rest = exprs-parts.rest;
    on_true = exprs-parts.on_true;
    on_false = exprs-parts.on_false;
    branches = λ i line t a b c d h one other. omega (arith, h, one, other);
    stores = λ i line f e h. omega (arith, h, expr-depth e);
    items = λ i line f index e h. omega (arith, h, expr-depth index, expr-depth e);
    calls = λ i line k target es h. omega (arith, h, exprs-depth es);
  }

  stmts-exprs-depth : (xs : StmtTrees) → stmts_exprs_depth xs ≤ most → stmts_exprs_depth (fused_stmts xs) ≤ most
  stmts-exprs-depth xs h =
      fused_stmts-keep (λ i. i) (λ t. cond_depth t ≤ most) (λ i x. stmt_exprs_depth x ≤ most) (λ i xs. stmts_exprs_depth xs ≤ most)
      exprs-parts (λ i x. stmt_exprs_depth x ≤ most) (λ i xs. stmts_exprs_depth xs ≤ most) exprs-carried xs 0 h

-- ---- Chains of calls

greatest : IsSum max
greatest = record { alone = λ n. omega arith; regrouped = λ a b c. omega arith; either_way = λ a b. omega arith }

chain-measure : (chains : List ℕ) → IsMeasure max (stmt_chain chains) (stmts_chain chains)
chain-measure chains = record {
  none = refl;
  more = λ x xs. refl;
  branches = λ line t a b. refl;
  stores = λ line f e. refl;
  items = λ line f index e. refl;
  calls = λ line k target es. refl;
}

stmts-chain : (chains : List ℕ) (xs : StmtTrees) → stmts_chain chains (fused_stmts xs) ≡ stmts_chain chains xs
stmts-chain chains xs = fused_stmts-weigh max greatest (stmt_chain chains) (stmts_chain chains) (chain-measure chains) xs

chains-same : (qs : List ProcedureTree) (chains : List ℕ) → chains_of chains (map fused_procedure qs) ≡ chains_of chains qs
chains-same [] chains = refl
chains-same (q ∷ qs) chains =
    ap (λ n. chains_of (chains ++ (n + 1) ∷ []) (map fused_procedure qs)) (stmts-chain chains q.body)
    ∙ chains-same qs (chains ++ (stmts_chain chains q.body + 1) ∷ [])

-- ---- Procedures

same-names : (qs : List ProcedureTree) → procedure_names (map fused_procedure qs) ≡ procedure_names qs
same-names [] = refl
same-names (q ∷ qs) = ap (λ names. q.name ∷ names) (same-names qs)

procedures-fit : (qs : List ProcedureTree) → AllByRecursion ProcedureFits qs → AllByRecursion ProcedureFits (map fused_procedure qs)
procedures-fit [] h = tt
procedures-fit (q ∷ qs) h = (
  record {
    params = h.0.params;
    statements = stmts-depth q.body stmt_limit h.0.statements;
    expressions = stmts-exprs-depth expr_limit q.body h.0.expressions;
  },
  procedures-fit qs h.1,
)

procedures-lawful : (pures : List PureTree) (structs : List StructTree) (qs earlier : List ProcedureTree) →
    AreProcedures pures structs earlier qs → AreProcedures pures structs (map fused_procedure earlier) (map fused_procedure qs)
procedures-lawful pures structs [] earlier h = tt
procedures-lawful pures structs (q ∷ qs) earlier h = (
  record {
    of = h.0.of;
    params = h.0.params;
    apart = subst (λ names. AreApart (param_names q.params) (pure_names pures ++ names)) (sym (same-names earlier)) h.0.apart;
    body = stmts-lawful
        (record {
          pures = pures;
          structs = structs;
          procedures = earlier;
          fields = struct_fields structs q.of;
          params = length q.params;
          of = q.of;
        })
        q.body h.0.body;
  },
  subst (λ before. AreProcedures pures structs before (map fused_procedure qs)) (map-append fused_procedure earlier (q ∷ []))
      (procedures-lawful pures structs qs (earlier ++ q ∷ []) h.1),
)

-- ---- The program

pub fused_is_lawful : FusedIsLawful
fused_is_lawful p h = record {
  functions = subst (λ names. AreDistinct (pure_names p.pures ++ names)) (sym (same-names p.procedures)) h.functions;
  struct_names = h.struct_names;
  pures = h.pures;
  structs = h.structs;
  procedures = procedures-lawful p.pures p.structs p.procedures [] h.procedures;
  root = record {
    of = h.root.of;
    struct = h.root.struct;
    struct_there = h.root.struct_there;
    struct_name = h.root.struct_name;
    start = h.root.start;
    start_procedure = fused_procedure h.root.start_procedure;
    start_there = slice_get-map fused_procedure p.procedures h.root.start ∙ ap (option_map fused_procedure) h.root.start_there;
    start_name = h.root.start_name;
    start_of = h.root.start_of;
    start_params = h.root.start_params;
    step = h.root.step;
    step_procedure = fused_procedure h.root.step_procedure;
    step_there = slice_get-map fused_procedure p.procedures h.root.step ∙ ap (option_map fused_procedure) h.root.step_there;
    step_name = h.root.step_name;
    step_of = h.root.step_of;
    step_params = h.root.step_params;
  };
  chains = subst (AllByRecursion (λ n. n ≤ chain_limit)) (sym (chains-same p.procedures [])) h.chains;
  limits = record {
    count = h.limits.count;
    pures = h.limits.pures;
    procedures = procedures-fit p.procedures h.limits.procedures;
  };
}
