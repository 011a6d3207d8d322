-- What a program's tokens open is within the limits exactly where the program is.
use Rattle.std.proofs.Common.{◌≡◌, refl, ℕ, ◌+◌, ◌≤◌, ◌↔◌, List, [], ◌∷◌, ◌++◌, Ok, Bool, true, false, ◌&&◌, nat_le, pos, subst, arith, leb-true, le-leb}
use Rattle.std.specs.List.{list_all}
use Rattle.c_syntax.specs.Tree.{ExprTree, ExprTrees, CondTree}
use Rattle.c_grammar.specs.Written.{WrittenLeaf, WrittenExpr, WrittenExprs, WrittenCond}
use Rattle.c_syntax.specs.Limits.{expr_limit, expr_depth, exprs_depth, cond_depth}
use Rattle.base_core.specs.Results.{◌>>=◌}
use Rattle.c_rules.specs.Resolve.{on_line, Names, resolve_leaf, resolve_array, resolve_pure_call, exprs_count, resolve_expr, resolve_exprs, resolve_cond}
use Rattle.c_grammar.specs.Openings.{Opening, none, operand, is_within, leaf_openings, expr_openings, exprs_openings, more_exprs_openings, cond_openings}
use Rattle.c_rules.proofs.lemmas.Resolved.{ok-same, bind-parts}

abbrev pub Within : List Opening → Type 0
Within os = list_all is_within os ≡ true

both-true : (a b : Bool) → (a && b) ≡ true → (a ≡ true) × (b ≡ true)
both-true true b e = (refl, e)
both-true false b e = cc

and-true : (a b : Bool) → a ≡ true → b ≡ true → (a && b) ≡ true
and-true true b e d = d
and-true false b e d = cc

pub within-split : (xs ys : List Opening) → Within (xs ++ ys) → Within xs × Within ys
within-split [] ys h = (refl, h)
within-split (x ∷ xs) ys h =
    let b : _ = both-true (is_within x) (list_all is_within (xs ++ ys)) h in
    let later : _ = within-split xs ys b.1 in
    (and-true (is_within x) (list_all is_within xs) b.0 later.0, later.1)

pub within-join : (xs ys : List Opening) → Within xs → Within ys → Within (xs ++ ys)
within-join [] ys h k = k
within-join (x ∷ xs) ys h k =
    let b : _ = both-true (is_within x) (list_all is_within xs) h in
    and-true (is_within x) (list_all is_within (xs ++ ys)) b.0 (within-join xs ys b.1 k)

-- what opens, and what is after it
pub first-split : (depth limit : ℕ) (os : List Opening) → (nat_le depth limit && list_all is_within os) ≡ true → (depth ≤ limit) × Within os
first-split depth limit os h =
    let b : _ = both-true (nat_le depth limit) (list_all is_within os) h in
    (leb-true depth limit b.0, b.1)

pub first-join : (depth limit : ℕ) (os : List Opening) → depth ≤ limit → Within os → (nat_le depth limit && list_all is_within os) ≡ true
first-join depth limit os h k = and-true (nat_le depth limit) (list_all is_within os) (le-leb depth limit h) k

-- one part, two and three parts of an operand
one-within : (d : ℕ) (xs : List Opening) → Within (operand d ∷ none ∷ (xs ++ none ∷ [])) ↔ ((d ≤ expr_limit) × Within xs)
one-within d xs = (
  λ h. let f : _ = first-split d expr_limit (none ∷ (xs ++ none ∷ [])) h in
      (f.0, (within-split xs (none ∷ []) f.1).0),
  λ k. first-join d expr_limit (none ∷ (xs ++ none ∷ [])) k.0 (within-join xs (none ∷ []) k.1 refl),
)

two-within : (d : ℕ) (xs ys : List Opening) →
    Within (operand d ∷ (xs ++ none ∷ (ys ++ none ∷ []))) ↔ ((d ≤ expr_limit) × Within xs × Within ys)
two-within d xs ys = (
  λ h. let f : _ = first-split d expr_limit (xs ++ none ∷ (ys ++ none ∷ [])) h in
      let x : _ = within-split xs (none ∷ (ys ++ none ∷ [])) f.1 in (f.0, x.0, (within-split ys (none ∷ []) x.1).0),
  λ k. first-join d expr_limit (xs ++ none ∷ (ys ++ none ∷ [])) k.0
      (within-join xs (none ∷ (ys ++ none ∷ [])) k.1 (within-join ys (none ∷ []) k.2 refl)),
)

three-within : (d : ℕ) (xs ys zs : List Opening) →
    Within (operand d ∷ (xs ++ none ∷ (ys ++ none ∷ (zs ++ none ∷ []))))
    ↔ ((d ≤ expr_limit) × Within xs × Within ys × Within zs)
three-within d xs ys zs = (
  λ h. let f : _ = first-split d expr_limit (xs ++ none ∷ (ys ++ none ∷ (zs ++ none ∷ []))) h in
      let x : _ = within-split xs (none ∷ (ys ++ none ∷ (zs ++ none ∷ []))) f.1 in let y : _ =
      within-split ys (none ∷ (zs ++ none ∷ [])) x.1 in (f.0, x.0, y.0, (within-split zs (none ∷ []) y.1).0),
  λ k. first-join d expr_limit (xs ++ none ∷ (ys ++ none ∷ (zs ++ none ∷ []))) k.0
      (within-join xs (none ∷ (ys ++ none ∷ (zs ++ none ∷ []))) k.1
      (within-join ys (none ∷ (zs ++ none ∷ [])) k.2 (within-join zs (none ∷ []) k.3 refl))),
)

leaf-within : (leaf : WrittenLeaf) → Within (leaf_openings leaf)
leaf-within (WrittenLeaf.param name) = refl
leaf-within (WrittenLeaf.own field) = refl
leaf-within (WrittenLeaf.child field inner) = refl

mutual
  pub expr-limits : (names : Names) (w : WrittenExpr) (x : ExprTree) (d : ℕ) → resolve_expr names w ≡ Ok x →
      Within (expr_openings d w) ↔ (expr_depth x + d ≤ expr_limit + 1)
  expr-limits names (WrittenExpr.literal value) x d e =
      subst (λ y. Within (expr_openings d (WrittenExpr.literal value)) ↔ (expr_depth y + d ≤ expr_limit + 1))
      (ok-same (ExprTree.literal (pos value)) x e) (
        λ h. omega (arith, (first-split d expr_limit (none ∷ none ∷ none ∷ []) h).0),
        λ h. first-join d expr_limit (none ∷ none ∷ none ∷ []) (omega (arith, h)) refl,
      )
  expr-limits names (WrittenExpr.neg w) x d e =
      let b : _ = bind-parts (resolve_expr names w) (λ y. Ok (ExprTree.neg y)) x e in
      let i : _ = expr-limits names w b.0 (d + 1) b.1 in
      let o : _ = one-within d (expr_openings (d + 1) w) in
      subst (λ y. Within (expr_openings d (WrittenExpr.neg w)) ↔ (expr_depth y + d ≤ expr_limit + 1))
      (ok-same (ExprTree.neg b.0) x b.2) (
        λ h. omega (arith, i.0 (o.0 h).1),
        λ h. o.1 (omega (arith, h), i.1 (omega (arith, h))),
      )
  expr-limits names (WrittenExpr.read line leaf) x d e =
      let b : _ = bind-parts (on_line line (resolve_leaf names leaf)) (λ l. Ok (ExprTree.read l)) x e in
      subst (λ y. Within (expr_openings d (WrittenExpr.read line leaf)) ↔ (expr_depth y + d ≤ expr_limit + 1))
      (ok-same (ExprTree.read b.0) x b.2) (
        λ h. omega (arith, (first-split d expr_limit (none ∷ none ∷ leaf_openings leaf) h).0),
        λ h. first-join d expr_limit (none ∷ none ∷ leaf_openings leaf) (omega (arith, h)) (leaf-within leaf),
      )
  expr-limits names (WrittenExpr.binary op v w) x d e =
      let b : _ = bind-parts (resolve_expr names v) (λ y. resolve_expr names w >>= λ z. Ok (ExprTree.binary op y z)) x e in
      let c : _ = bind-parts (resolve_expr names w) (λ z. Ok (ExprTree.binary op b.0 z)) x b.2 in
      let i : _ = expr-limits names v b.0 (d + 1) b.1 in
      let j : _ = expr-limits names w c.0 (d + 1) c.1 in
      let o : _ = two-within d (expr_openings (d + 1) v) (expr_openings (d + 1) w) in
      subst (λ y. Within (expr_openings d (WrittenExpr.binary op v w)) ↔ (expr_depth y + d ≤ expr_limit + 1))
      (ok-same (ExprTree.binary op b.0 c.0) x c.2) (
        λ h. let t : _ = o.0 h in omega (arith, i.0 t.1, j.0 t.2),
        λ h. o.1 (omega (arith, h), i.1 (omega (arith, h)), j.1 (omega (arith, h))),
      )
  expr-limits names (WrittenExpr.pick test v w) x d e =
      let a : _ =
      bind-parts (resolve_cond names test) (λ c. resolve_expr names v >>= λ y. resolve_expr names w
      >>= λ z. Ok (ExprTree.pick c y z)) x e in
      let b : _ = bind-parts (resolve_expr names v) (λ y. resolve_expr names w >>= λ z. Ok (ExprTree.pick a.0 y z)) x a.2 in
      let c : _ = bind-parts (resolve_expr names w) (λ z. Ok (ExprTree.pick a.0 b.0 z)) x b.2 in
      let i : _ = cond-limits names test a.0 (d + 1) a.1 in
      let j : _ = expr-limits names v b.0 (d + 1) b.1 in
      let k : _ = expr-limits names w c.0 (d + 1) c.1 in
      let o : _ = three-within d (cond_openings (d + 1) test) (expr_openings (d + 1) v) (expr_openings (d + 1) w) in
      subst (λ y. Within (expr_openings d (WrittenExpr.pick test v w)) ↔ (expr_depth y + d ≤ expr_limit + 1))
      (ok-same (ExprTree.pick a.0 b.0 c.0) x c.2) (
        λ h. let t : _ = o.0 h in
            omega (arith, i.0 t.1, j.0 t.2, k.0 t.3),
        λ h. o.1 (omega (arith, h), i.1 (omega (arith, h)), j.1 (omega (arith, h)), k.1 (omega (arith, h))),
      )
  expr-limits names (WrittenExpr.pure line function values) x d e =
      let b : _ =
      bind-parts (on_line line (resolve_pure_call names.known function (exprs_count values)))
      (λ k. resolve_exprs names values >>= λ vs. Ok (ExprTree.pure k vs)) x e in
      let c : _ = bind-parts (resolve_exprs names values) (λ vs. Ok (ExprTree.pure b.0 vs)) x b.2 in
      let o : _ = one-within d (exprs_openings (d + 1) values) in
      subst (λ y. Within (expr_openings d (WrittenExpr.pure line function values))
      ↔ (expr_depth y + d ≤ expr_limit + 1)) (ok-same (ExprTree.pure b.0 c.0) x c.2) (
        λ h. let t : _ = o.0 h in
            omega (arith, (exprs-limits names values c.0 (d + 1) (omega (arith, t.0)) c.1).0 t.1),
        λ h. o.1 (
          omega (arith, h),
          (exprs-limits names values c.0 (d + 1) (omega (arith, h)) c.1).1
              (omega (arith, h)),
        ),
      )
  expr-limits names (WrittenExpr.item line field index) x d e =
      let b : _ =
      bind-parts (on_line line (resolve_array names field)) (λ k. resolve_expr names index
      >>= λ y. Ok (ExprTree.item k y)) x e in
      let c : _ = bind-parts (resolve_expr names index) (λ y. Ok (ExprTree.item b.0 y)) x b.2 in
      let i : _ = expr-limits names index c.0 (d + 1) c.1 in
      let o : _ = one-within d (expr_openings (d + 1) index) in
      subst (λ y. Within (expr_openings d (WrittenExpr.item line field index)) ↔ (expr_depth y + d ≤ expr_limit + 1))
      (ok-same (ExprTree.item b.0 c.0) x c.2) (
        λ h. omega (arith, i.0 (o.0 h).1),
        λ h. o.1 (omega (arith, h), i.1 (omega (arith, h))),
      )

  exprs-limits : (names : Names) (ws : WrittenExprs) (xs : ExprTrees) (d : ℕ) → d ≤ expr_limit + 1 →
      resolve_exprs names ws ≡ Ok xs → Within (exprs_openings d ws) ↔ (exprs_depth xs + d ≤ expr_limit + 1)
  exprs-limits names WrittenExprs.no_exprs xs d l e =
      subst (λ y. Within [] ↔ (exprs_depth y + d ≤ expr_limit + 1)) (ok-same ExprTrees.no_exprs xs e) (λ h. omega (arith, l), λ h. refl)
  exprs-limits names (WrittenExprs.more_exprs w ws) xs d l e =
      let b : _ = bind-parts (resolve_expr names w) (λ x. resolve_exprs names ws >>= λ ys. Ok (ExprTrees.more_exprs x ys)) xs e in
      let c : _ = bind-parts (resolve_exprs names ws) (λ ys. Ok (ExprTrees.more_exprs b.0 ys)) xs b.2 in
      let i : _ = expr-limits names w b.0 d b.1 in
      let j : _ = more_exprs-limits names ws c.0 d l c.1 in
      subst (λ y. Within (expr_openings d w ++ more_exprs_openings d ws) ↔ (exprs_depth y + d ≤ expr_limit + 1))
      (ok-same (ExprTrees.more_exprs b.0 c.0) xs c.2) (
        λ h. let t : _ = within-split (expr_openings d w) (more_exprs_openings d ws) h in
            omega (arith, i.0 t.0, j.0 t.1),
        λ h. within-join (expr_openings d w) (more_exprs_openings d ws)
            (i.1 (omega (arith, h))) (j.1 (omega (arith, h))),
      )

  more_exprs-limits : (names : Names) (ws : WrittenExprs) (xs : ExprTrees) (d : ℕ) → d ≤ expr_limit + 1 →
      resolve_exprs names ws ≡ Ok xs → Within (more_exprs_openings d ws) ↔ (exprs_depth xs + d ≤ expr_limit + 1)
  more_exprs-limits names WrittenExprs.no_exprs xs d l e =
      subst (λ y. Within [] ↔ (exprs_depth y + d ≤ expr_limit + 1)) (ok-same ExprTrees.no_exprs xs e) (λ h. omega (arith, l), λ h. refl)
  more_exprs-limits names (WrittenExprs.more_exprs w ws) xs d l e =
      let b : _ = bind-parts (resolve_expr names w) (λ x. resolve_exprs names ws >>= λ ys. Ok (ExprTrees.more_exprs x ys)) xs e in
      let c : _ = bind-parts (resolve_exprs names ws) (λ ys. Ok (ExprTrees.more_exprs b.0 ys)) xs b.2 in
      let i : _ = expr-limits names w b.0 d b.1 in
      let j : _ = more_exprs-limits names ws c.0 d l c.1 in
      subst (λ y. Within (none ∷ (expr_openings d w ++ more_exprs_openings d ws))
      ↔ (exprs_depth y + d ≤ expr_limit + 1)) (ok-same (ExprTrees.more_exprs b.0 c.0) xs c.2) (
        λ h. let t : _ =
            within-split (expr_openings d w) (more_exprs_openings d ws) h in omega (arith, i.0 t.0, j.0 t.1),
        λ h. within-join (expr_openings d w) (more_exprs_openings d ws) (i.1 (omega (arith, h)))
            (j.1 (omega (arith, h))),
      )

  pub cond-limits : (names : Names) (w : WrittenCond) (x : CondTree) (d : ℕ) → resolve_cond names w ≡ Ok x →
      Within (cond_openings d w) ↔ (cond_depth x + d ≤ expr_limit + 1)
  cond-limits names (WrittenCond.compare how v w) x d e =
      let b : _ = bind-parts (resolve_expr names v) (λ y. resolve_expr names w >>= λ z. Ok (CondTree.compare how y z)) x e in
      let c : _ = bind-parts (resolve_expr names w) (λ z. Ok (CondTree.compare how b.0 z)) x b.2 in
      let i : _ = expr-limits names v b.0 (d + 1) b.1 in
      let j : _ = expr-limits names w c.0 (d + 1) c.1 in
      let o : _ = two-within d (expr_openings (d + 1) v) (expr_openings (d + 1) w) in
      subst (λ y. Within (cond_openings d (WrittenCond.compare how v w)) ↔ (cond_depth y + d ≤ expr_limit + 1))
      (ok-same (CondTree.compare how b.0 c.0) x c.2) (
        λ h. let t : _ = o.0 h in omega (arith, i.0 t.1, j.0 t.2),
        λ h. o.1 (omega (arith, h), i.1 (omega (arith, h)), j.1 (omega (arith, h))),
      )
  cond-limits names (WrittenCond.both v w) x d e =
      let b : _ = bind-parts (resolve_cond names v) (λ y. resolve_cond names w >>= λ z. Ok (CondTree.both y z)) x e in
      let c : _ = bind-parts (resolve_cond names w) (λ z. Ok (CondTree.both b.0 z)) x b.2 in
      let i : _ = cond-limits names v b.0 (d + 1) b.1 in
      let j : _ = cond-limits names w c.0 (d + 1) c.1 in
      let o : _ = two-within d (cond_openings (d + 1) v) (cond_openings (d + 1) w) in
      subst (λ y. Within (cond_openings d (WrittenCond.both v w)) ↔ (cond_depth y + d ≤ expr_limit + 1))
      (ok-same (CondTree.both b.0 c.0) x c.2) (
        λ h. let t : _ = o.0 h in omega (arith, i.0 t.1, j.0 t.2),
        λ h. o.1 (omega (arith, h), i.1 (omega (arith, h)), j.1 (omega (arith, h))),
      )
  cond-limits names (WrittenCond.either v w) x d e =
      let b : _ = bind-parts (resolve_cond names v) (λ y. resolve_cond names w >>= λ z. Ok (CondTree.either y z)) x e in
      let c : _ = bind-parts (resolve_cond names w) (λ z. Ok (CondTree.either b.0 z)) x b.2 in
      let i : _ = cond-limits names v b.0 (d + 1) b.1 in
      let j : _ = cond-limits names w c.0 (d + 1) c.1 in
      let o : _ = two-within d (cond_openings (d + 1) v) (cond_openings (d + 1) w) in
      subst (λ y. Within (cond_openings d (WrittenCond.either v w)) ↔ (cond_depth y + d ≤ expr_limit + 1))
      (ok-same (CondTree.either b.0 c.0) x c.2) (
        λ h. let t : _ = o.0 h in omega (arith, i.0 t.1, j.0 t.2),
        λ h. o.1 (omega (arith, h), i.1 (omega (arith, h)), j.1 (omega (arith, h))),
      )
  cond-limits names (WrittenCond.negated w) x d e =
      let b : _ = bind-parts (resolve_cond names w) (λ y. Ok (CondTree.negated y)) x e in
      let i : _ = cond-limits names w b.0 (d + 1) b.1 in
      let o : _ = one-within d (cond_openings (d + 1) w) in
      subst (λ y. Within (cond_openings d (WrittenCond.negated w)) ↔ (cond_depth y + d ≤ expr_limit + 1))
      (ok-same (CondTree.negated b.0) x b.2) (
        λ h. omega (arith, i.0 (o.0 h).1),
        λ h. o.1 (omega (arith, h), i.1 (omega (arith, h))),
      )
