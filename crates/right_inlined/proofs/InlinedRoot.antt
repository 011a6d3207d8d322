-- The root's struct and procedures stay as they are, except for the positions of what is called.
use Rattle.std.specs.Prelude.{◌≡◌, ℕ, suc, ◌+◌, ◌<◌, ◌==◌, not, Bool, true, false, if◌then◌else◌, cond, List, [], ◌∷◌, ◌++◌, map, filter, length, Contains, IsPermutation, None, Some, slice_get}
use Rattle.std.specs.List.{AllByRecursion, AllZip}
use Rattle.std.proofs.Common.{refl, sym, ap, subst, ◌∙◌, arith, inl, inr}
use Rattle.std.proofs.lemmas.List.{length-map}
use Rattle.std.proofs.lemmas.List.Sorted.{IsPermutation-map, IsPermutation-sym, Contains-permutation}
use Rattle.diagram_meaning.specs.Diagram.{Diagram}
use Rattle.modules_profile.specs.Systems.{system_name}
use Rattle.modules_profile.specs.Headers.{header_of}
use Rattle.modules_profile.proofs.lemmas.Members.{in-none, in-cases, in-first, in-rest, in-at, in-filter, at-in, at-below, of-filter}
use Rattle.c_syntax.specs.declared.code.Leaf.{Leaf}
use Rattle.c_syntax.specs.declared.code.Leaf.TheVariants as leaf
use Rattle.c_syntax.specs.declared.code.Target.TheVariants as target
use Rattle.c_syntax.specs.declared.program.FieldKind.{FieldKind}
use Rattle.c_syntax.specs.declared.program.FieldKind.TheVariants.{Number, Array, Struct}
use Rattle.c_syntax.specs.Tree.{ExprTree, literal, neg, read, binary, pick, pure, item, ExprTrees, no_exprs, more_exprs, CondTree, compare, both, either, negated, StmtTree, assign, assign_at, branch, call, StmtTrees, no_stmts, more_stmts, list_of_stmts, list_of_exprs, FieldTree, ParamTree, ProcedureTree, ProgramTree}
use Rattle.c_syntax.specs.Lawful.{IsLawful}
use Rattle.c_syntax.specs.Outputs.{output_name}
use Rattle.c_syntax.specs.RootFields.{root_struct}
use Rattle.c_semantics.specs.Machine.{is_interface}
use Rattle.emit_shape.specs.NamedLeaf.{NamedLeaf, own, child}
use Rattle.emit_shape.specs.Names.{value_name, now_name}
use Rattle.emit_shape.specs.Heads.{Head}
use Rattle.emit_shape.specs.CodeNames.{named_leaf, named_leaves, named_kind, named_fields, IsReadOf}
use Rattle.emit_shape.specs.Reads.{expr_leaves}
use Rattle.emit_shape.specs.Programs.{names_in, procedures_of, struct_at}
use Rattle.emit_shape.specs.RootCode.{RootStep, calls, copies, moves_on, IsPassed, MovesOn, DoesCall, DoesStore, Does, root_fields_of, is_literal, is_literal_store, literal_number, BeginsTick, start_steps, tick_steps, HasRootCode}
use Rattle.emit_pruned.proofs.lemmas.Numbers.{all-left, all-right}
use Rattle.emit_inlined.specs.Inlined.{stmt_calls, stmts_calls, stays, place, itself, kept_from, moved_leaf, moved_expr, moved_exprs, moved_cond, moved_stmt, moved_stmts, inlined_stmts, inlined_procedure, inlined}
use Rattle.emit_inlined.proofs.lemmas.CallCounts.{others_in, public-stays}
use Rattle.emit_inlined.proofs.lemmas.Staying.{procedure-at, remaining-holds}
use Rattle.right_pruned.proofs.lemmas.Lists.{each-map, zip-map, filter-map}
use Rattle.right_inlined.proofs.InlinedRules.{Placed, placed-below, itself-named}
use Rattle.right_inlined.proofs.MovedRules.{zip-with}
use Rattle.right_inlined.proofs.MovedSites.{exprs-list, stmts-list}

-- ---- Expressions whose parameters are as they were

module _ (move : ℕ → ℕ) where
  leaf-itself : (l : Leaf) → moved_leaf itself move l ≡ l
  leaf-itself (leaf.Param k) = refl
  leaf-itself (leaf.Own f) = refl
  leaf-itself (leaf.Child f g) = refl

  mutual
    expr-itself : (e : ExprTree) → moved_expr itself move e ≡ e
    expr-itself (literal value) = refl
    expr-itself (neg e) = ap neg (expr-itself e)
    expr-itself (read l) = ap read (leaf-itself l)
    expr-itself (binary op a b) = λ i. binary op (expr-itself a i) (expr-itself b i)
    expr-itself (pick test a b) = λ i. pick (cond-itself test i) (expr-itself a i) (expr-itself b i)
    expr-itself (pure k es) = ap (pure k) (exprs-itself es)
    expr-itself (item f index) = ap (item f) (expr-itself index)

    exprs-itself : (es : ExprTrees) → moved_exprs itself move es ≡ es
    exprs-itself no_exprs = refl
    exprs-itself (more_exprs e es) = λ i. more_exprs (expr-itself e i) (exprs-itself es i)

    cond-itself : (c : CondTree) → moved_cond itself move c ≡ c
    cond-itself (compare how a b) = λ i. compare how (expr-itself a i) (expr-itself b i)
    cond-itself (both a b) = λ i. both (cond-itself a i) (cond-itself b i)
    cond-itself (either a b) = λ i. either (cond-itself a i) (cond-itself b i)
    cond-itself (negated a) = ap negated (cond-itself a)

  literal-store : (s : StmtTree) → is_literal_store (moved_stmt itself move s) ≡ is_literal_store s
  literal-store (assign line f e) = ap is_literal (expr-itself e)
  literal-store (assign_at line f index e) = refl
  literal-store (branch line test a b) = refl
  literal-store (call line k target es) = refl

  -- the stores of written numbers, or the other statements
  kept-moved : (test : Bool → Bool) (ss : StmtTrees) → filter (λ s. test (is_literal_store s)) (list_of_stmts (moved_stmts itself move ss))
      ≡ map (moved_stmt itself move) (filter (λ s. test (is_literal_store s)) (list_of_stmts ss))
  kept-moved test ss =
      ap (filter (λ s. test (is_literal_store s))) (stmts-list itself move ss)
      ∙ filter-map (moved_stmt itself move) (λ s. test (is_literal_store s)) (list_of_stmts ss)
      ∙ (λ i. map (moved_stmt itself move) (filter (λ s. test (literal-store s i)) (list_of_stmts ss)))

-- ---- What is called

-- what holds of each procedure that statements call, by the statement
each-stmt : (P : ℕ → Type 0) (ss : StmtTrees) → AllByRecursion P (stmts_calls ss) →
    AllByRecursion (λ s. AllByRecursion P (stmt_calls s)) (list_of_stmts ss)
each-stmt P no_stmts h = tt
each-stmt P (more_stmts s ss) h = (all-left P (stmt_calls s) (stmts_calls ss) h, each-stmt P ss (all-right P (stmt_calls s) (stmts_calls ss) h))

each-kept : {A : Type 0} (P : A → Type 0) (test : A → Bool) (xs : List A) → AllByRecursion P xs → AllByRecursion P (filter test xs)
each-kept P test [] h = tt
each-kept {A} P test (x ∷ xs) h = by (test x) (each-kept P test xs h.1)
  where
    by : (b : Bool) → AllByRecursion P (filter test xs) → AllByRecursion P (cond b (x ∷ filter test xs) (filter test xs))
    by true rest = (h.0, rest)
    by false rest = rest

-- ---- The procedures of a struct that all stay

module _ (p : ProgramTree) where
  abbrev r : ProgramTree
  r = inlined p

  own-from : (of n : ℕ) (xs : List ProcedureTree) →
      ((k : ℕ) (x : ProcedureTree) → slice_get xs k ≡ Some x → (x.of == of) ≡ true → stays p (n + k) ≡ true) →
      filter (λ (x : ProcedureTree). x.of == of) (map (inlined_procedure p) (kept_from (stays p) n xs))
      ≡ map (inlined_procedure p) (filter (λ (x : ProcedureTree). x.of == of) xs)
  own-from of n [] all = refl
  own-from of n (x ∷ xs) all =
      by (stays p n) refl (x.of == of) refl
      (own-from of (suc n) xs
      (λ k y there inside. ap (stays p) (let next : suc n + k ≡ n + suc k = omega arith in next) ∙ all (suc k) y there inside))
    where
      rest : List ProcedureTree
      rest = filter (λ (y : ProcedureTree). y.of == of) xs

      by : (b : Bool) → stays p n ≡ b → (c : Bool) → (x.of == of) ≡ c →
          filter (λ (y : ProcedureTree). y.of == of) (map (inlined_procedure p) (kept_from (stays p) (suc n) xs))
          ≡ map (inlined_procedure p) (filter (λ (y : ProcedureTree). y.of == of) xs) →
          filter (λ (y : ProcedureTree). y.of == of)
          (map (inlined_procedure p) ((if b then x ∷ [] else []) ++ kept_from (stays p) (suc n) xs))
          ≡ map (inlined_procedure p) (cond c (x ∷ filter (λ (y : ProcedureTree). y.of == of) xs) (filter (λ (y : ProcedureTree). y.of == of) xs))
      by true is true inside same =
          ap (λ c. cond c (inlined_procedure p x ∷ filter (λ (y : ProcedureTree). y.of == of) (map (inlined_procedure p)
          (kept_from (stays p) (suc n) xs))) (filter (λ (y : ProcedureTree). y.of == of) (map (inlined_procedure p)
          (kept_from (stays p) (suc n) xs)))) inside ∙ ap (λ ys. inlined_procedure p x ∷ ys) same
      by true is false inside same =
          ap (λ c. cond c (inlined_procedure p x ∷ filter (λ (y : ProcedureTree). y.of == of) (map (inlined_procedure p)
          (kept_from (stays p) (suc n) xs))) (filter (λ (y : ProcedureTree). y.of == of) (map (inlined_procedure p)
          (kept_from (stays p) (suc n) xs)))) inside ∙ same
      by false is true inside same =
          let kept : stays p n ≡ true = ap (stays p) (let here : n ≡ n + 0 = omega arith in here) ∙ all 0 x refl inside in
          absurd (let wrong : ⊥ = cc (sym is ∙ kept) in wrong)
      by false is false inside same = same

  own-inlined : (of : ℕ) → ((x : ProcedureTree) → Contains (procedures_of p of) x → x.private ≡ false) →
      map (inlined_procedure p) (procedures_of p of) ≡ procedures_of r of
  own-inlined of public =
      sym (own-from of 0 p.procedures
      (λ k x there inside.
      ap (stays p) (let same : 0 + k ≡ k = omega arith in same)
      ∙ public-stays p k
      (ap (λ (y : ProcedureTree). y.private) (procedure-at p k x there)
      ∙ public x (in-filter (λ (y : ProcedureTree). y.of == of) p.procedures x (in-at p.procedures k x there) inside))))

  kind-same : (of : ℕ) (kind : FieldKind) → named_kind (names_in p of) kind ≡ named_kind (names_in r of) kind
  kind-same of (Number type) = refl
  kind-same of (Array type count) = refl
  kind-same of (Struct k) = refl

  pub fields-same : (of : ℕ) (fields : List FieldTree) → named_fields (names_in p of) fields ≡ named_fields (names_in r of) fields
  fields-same of fields = λ i. map (λ (f : FieldTree). record { name = f.name; kind = kind-same of f.kind i }) fields

  -- ---- Statements of the root

  module _ (hyper : ℕ) (x : ProcedureTree) where
    abbrev y : ProcedureTree
    y = inlined_procedure p x

    abbrev move : StmtTree → StmtTree
    move = moved_stmt itself (place p)

    reads-alike : (what : NamedLeaf) (e : ExprTree) → IsReadOf (names_in p x.of) x.params what e →
        IsReadOf (names_in r x.of) x.params what (moved_expr itself (place p) e)
    reads-alike what e (l, is, named) = (
      moved_leaf itself (place p) l,
      ap (moved_expr itself (place p)) is,
      itself-named (names_in r x.of) x.params (place p) l ∙ leaves l ∙ named,
    )
      where
        leaves : (l : Leaf) → named_leaf (names_in r x.of) x.params l ≡ named_leaf (names_in p x.of) x.params l
        leaves (leaf.Param k) = refl
        leaves (leaf.Own f) = refl
        leaves (leaf.Child f g) = refl

    call-alike : (callee : Head) (a : StmtTree) → DoesCall p hyper x callee a → AllByRecursion (Placed p) (stmt_calls a) →
        DoesCall r hyper y callee (move a)
    call-alike callee (call line k (target.Child f) values) h placed = (
      placed.0 ∙ h.0,
      h.1,
      subst (λ es. AllZip (λ (wanted : ParamTree) e. (what : NamedLeaf) × IsPassed wanted.name what
          × IsReadOf (names_in r x.of) x.params what e) callee.params es) (sym (exprs-list itself (place p) values))
          (zip-map (moved_expr itself (place p))
          (λ (wanted : ParamTree) e. (what : NamedLeaf) × IsPassed wanted.name what × IsReadOf (names_in p x.of) x.params what e)
          (λ (wanted : ParamTree) e. (what : NamedLeaf) × IsPassed wanted.name what × IsReadOf (names_in r x.of) x.params what e)
          (λ wanted e (what, passed, is). (what, passed, reads-alike what e is)) callee.params (list_of_exprs values) h.2),
    )
    call-alike callee _ h placed = absurd h

    store-alike : (name : List ℕ) (P Q : ExprTree → Type 0) → ((e : ExprTree) → P e → Q (moved_expr itself (place p) e)) →
        (a : StmtTree) → DoesStore p hyper x name P a → DoesStore r hyper y name Q (move a)
    store-alike name P Q next (assign line f value) h = (h.0, next value h.1)
    store-alike name P Q next (call line k target values) h = absurd h
    store-alike name P Q next (assign_at line f index value) h = absurd h
    store-alike name P Q next (branch line test on_true on_false) h = absurd h

    -- what reads the tick alone
    leaves-alike : (ls : List Leaf) → AllByRecursion (λ l. l ≡ own now_name) (named_leaves (names_in p x.of) x.params ls) →
        AllByRecursion (λ l. l ≡ own now_name) (named_leaves (names_in r x.of) x.params ls)
    leaves-alike [] h = tt
    leaves-alike (leaf.Param k ∷ ls) h = (h.0, leaves-alike ls h.1)
    leaves-alike (leaf.Own f ∷ ls) h = (h.0, leaves-alike ls h.1)
    leaves-alike (leaf.Child f g ∷ ls) h = (h.0, leaves-alike ls h.1)

    moves-alike : (e : ExprTree) → MovesOn p hyper x e → MovesOn r hyper y (moved_expr itself (place p) e)
    moves-alike e h =
        subst (MovesOn r hyper y) (sym (expr-itself (place p) e)) (record { reads = leaves-alike (expr_leaves e) h.reads; next = h.next })

    does-alike : (step : RootStep) (a : StmtTree) → Does p hyper x step a × AllByRecursion (Placed p) (stmt_calls a) →
        Does r hyper y step (move a)
    does-alike (calls callee) a h = call-alike callee a h.0 h.1
    does-alike (copies output row) a h =
        store-alike (output_name output)
        (IsReadOf (names_in p x.of) x.params (child (system_name None) (value_name row)))
        (IsReadOf (names_in r x.of) x.params (child (system_name None) (value_name row)))
        (reads-alike (child (system_name None) (value_name row))) a h.0
    does-alike moves_on a h = store-alike now_name (MovesOn p hyper x) (MovesOn r hyper y) moves-alike a h.0

    begins-alike : (a : StmtTree) → BeginsTick p x a → BeginsTick r y (move a)
    begins-alike (assign line f value) h = (h.0, ap literal_number (expr-itself (place p) value) ∙ h.1)
    begins-alike (call line k target values) h = absurd h
    begins-alike (assign_at line f index value) h = absurd h
    begins-alike (branch line test on_true on_false) h = absurd h

  -- ---- The root

  -- a procedure whose calls aren't logged has its own body
  own-body : (x : ProcedureTree) → is_interface x.name ≡ false → (inlined_procedure p x).body ≡ moved_stmts itself (place p) x.body
  own-body x unlogged = ap (λ b. if b then inlined_stmts p x.body else moved_stmts itself (place p) x.body) unlogged

  -- and what it calls stays
  own-calls : IsLawful p → (x : ProcedureTree) → Contains p.procedures x → is_interface x.name ≡ false →
      AllByRecursion (λ s. AllByRecursion (Placed p) (stmt_calls s)) (list_of_stmts x.body)
  own-calls lawful x has unlogged =
      let (k, there) = at-in p.procedures x has in
      let end = at-below p.procedures k x there in
      each-stmt (Placed p) x.body
      (subst (λ b. AllByRecursion (Placed p) (if b then others_in p x.body else stmts_calls x.body)) unlogged
      (remaining-holds (Placed p) p k x lawful.procedures there (λ j below keep. placed-below p k j end below keep)))

  one-of : (x first second : ProcedureTree) → Contains (first ∷ second ∷ []) x → first.private ≡ false → second.private ≡ false →
      x.private ≡ false
  one-of x first second has one other = elim (in-cases first x (second ∷ []) has) [
    | inl same ↦ ap (λ (z : ProcedureTree). z.private) (sym same) ∙ one
    | inr more ↦ elim (in-cases second x [] more) [
      | inl same ↦ ap (λ (z : ProcedureTree). z.private) (sym same) ∙ other
      | inr none ↦ absurd (in-none x none)
    ]
  ]

  pub root-inlined : IsLawful p → (d : Diagram) (hyper : ℕ) → HasRootCode p d hyper → HasRootCode r d hyper
  root-inlined lawful d hyper h =
      let of = root_struct p in
      let top = header_of d None h.profile in
      let unlogged_start : is_interface h.start.name ≡ false = ap (λ (g : Head). is_interface g.name) h.start_head in
      let unlogged_step : is_interface h.step.name ≡ false = ap (λ (g : Head). is_interface g.name) h.step_head in
      let public_start : h.start.private ≡ false = ap (λ (g : Head). g.private) h.start_head in
      let public_step : h.step.private ≡ false = ap (λ (g : Head). g.private) h.step_head in
      let start_there = (of-filter (λ (x : ProcedureTree). x.of == of) p.procedures h.start
      (Contains-permutation (h.start ∷ h.step ∷ []) (procedures_of p of) h.start h.only (in-first h.start (h.step ∷ [])))).0 in
      let step_there = (of-filter (λ (x : ProcedureTree). x.of == of) p.procedures h.step
      (Contains-permutation (h.start ∷ h.step ∷ []) (procedures_of p of) h.step h.only
      (in-rest h.start h.step (h.step ∷ []) (in-first h.step [])))).0 in
      let stmts = list_of_stmts h.start.body in
      let literal_stores = filter is_literal_store stmts in
      let others = filter (λ a. not (is_literal_store a)) stmts in
      let body_start = own-body h.start unlogged_start in
      let body_step = own-body h.step unlogged_step in
      let move = moved_stmt itself (place p) in
      let start = inlined_procedure p h.start in
      let step = inlined_procedure p h.step in record {
        profile = h.profile;
        is_profile = h.is_profile;
        name = h.name;
        fields = subst (IsPermutation (root_fields_of d)) (fields-same of (struct_at p of).fields) h.fields;
        start = start;
        step = step;
        only = subst (IsPermutation (start ∷ step ∷ []))
            (own-inlined of
            (λ x has. one-of x h.start h.step
            (Contains-permutation (procedures_of p of) (h.start ∷ h.step ∷ []) x
            (IsPermutation-sym (h.start ∷ h.step ∷ []) (procedures_of p of) h.only) has) public_start public_step))
            (IsPermutation-map (inlined_procedure p) (h.start ∷ h.step ∷ []) (procedures_of p of) h.only);
        start_head = h.start_head;
        step_head = h.step_head;
        begins =
            subst (λ n. 0 < n) (sym (length-map literal_stores move)
            ∙ ap length (sym (kept-moved (place p) (λ t. t) h.start.body)
            ∙ ap (λ ss. filter is_literal_store (list_of_stmts ss)) (sym body_start))) h.begins;
        tick_alone = subst (AllByRecursion (BeginsTick r start))
            (sym (kept-moved (place p) (λ t. t) h.start.body) ∙ ap (λ ss. filter is_literal_store (list_of_stmts ss)) (sym body_start))
            (each-map move (BeginsTick p h.start) (BeginsTick r start) literal_stores
            (λ a one. begins-alike hyper h.start a one) h.tick_alone);
        starts =
            subst (AllZip (Does r hyper start) (start_steps d top))
            (sym (kept-moved (place p) not h.start.body)
            ∙ ap (λ ss. filter (λ a. not (is_literal_store a)) (list_of_stmts ss)) (sym body_start))
            (zip-map move (λ s a. Does p hyper h.start s a × AllByRecursion (Placed p) (stmt_calls a)) (Does r hyper start)
            (λ s a one. does-alike hyper h.start s a one) (start_steps d top) others
            (zip-with (Does p hyper h.start) (λ a. AllByRecursion (Placed p) (stmt_calls a)) (start_steps d top) others
            h.starts
            (each-kept (λ a. AllByRecursion (Placed p) (stmt_calls a)) (λ a. not (is_literal_store a)) stmts
            (own-calls lawful h.start start_there unlogged_start))));
        does = subst (AllZip (Does r hyper step) (tick_steps d top))
            (sym (stmts-list itself (place p) h.step.body) ∙ ap list_of_stmts (sym body_step))
            (zip-map move (λ s a. Does p hyper h.step s a × AllByRecursion (Placed p) (stmt_calls a)) (Does r hyper step)
            (λ s a one. does-alike hyper h.step s a one) (tick_steps d top) (list_of_stmts h.step.body)
            (zip-with (Does p hyper h.step) (λ a. AllByRecursion (Placed p) (stmt_calls a)) (tick_steps d top) (list_of_stmts h.step.body)
            h.does (own-calls lawful h.step step_there unlogged_step)));
      }
