-- The shape of a program that is fused.
use Rattle.std.specs.Prelude.{◌≡◌, ℕ, zero, suc, ◌+◌, ◌<◌, ◌==◌, ◌%◌, not, Bool, true, false, cond, ⊤, List, [], ◌∷◌, map, filter, length, slice_index_or, IsPermutation, Option, None, pos, neg_ℤ}
use Rattle.std.specs.List.{AllByRecursion, AllZip, enumerate_from}
use Rattle.std.proofs.Common.{refl, sym, ap, subst, ◌∙◌}
use Rattle.std.proofs.lemmas.List.{length-map}
use Rattle.std.proofs.lemmas.List.Sorted.{IsPermutation-map}
use Rattle.std.proofs.lemmas.Simd.{map-map}
use Rattle.diagram_meaning.specs.Diagram.{Diagram}
use Rattle.diagram_meaning.specs.Rows.{outports_of}
use Rattle.modules_profile.specs.Systems.{systems, system_name}
use Rattle.modules_profile.specs.Locals.{own_header}
use Rattle.modules_profile.specs.Headers.{header_of}
use Rattle.modules_profile.specs.SystemHeader.{SystemHeader}
use Rattle.c_syntax.specs.declared.code.Target.TheVariants.{Child}
use Rattle.c_syntax.specs.Tree.{ExprTree, literal, neg, StmtTree, assign, assign_at, branch, call, StmtTrees, no_stmts, more_stmts, list_of_stmts, list_of_exprs, ParamTree, ProcedureTree, ProgramTree}
use Rattle.c_syntax.specs.RootFields.{root_struct}
use Rattle.emit_shape.specs.NamedLeaf.{NamedLeaf, own, child}
use Rattle.emit_shape.specs.Names.{value_name, now_name}
use Rattle.c_syntax.specs.Outputs.{output_name}
use Rattle.emit_shape.specs.Heads as heads
use Rattle.emit_shape.specs.Heads.{Head, head_of, public_heads}
use Rattle.emit_shape.specs.CodeNames.{CodeNames, named_fields, named_leaves, IsReadOf}
use Rattle.emit_shape.specs.Reads.{expr_leaves}
use Rattle.emit_shape.specs.Rules.{KeepsRules}
use Rattle.emit_shape.specs.Once.{StatesOnce}
use Rattle.emit_shape.specs.Used.{AreUsed}
use Rattle.emit_shape.specs.Slots.{counters_in}
use Rattle.emit_shape.specs.Programs.{procedure_at, no_procedure, names_in, procedures_of, struct_place, struct_at}
use Rattle.emit_shape.specs.RootCode.{RootStep, calls, copies, moves_on, IsPassed, MovesOn, DoesCall, DoesStore, Does, root_fields_of, is_literal, is_literal_store, literal_number, BeginsTick, start_steps, tick_steps, HasRootCode}
use Rattle.emit_shape.specs.ProgramShape.{viewed, HasSystemShape, HasShape}
use Rattle.emit_pruned.proofs.lemmas.Numbers.{each-then}
use Rattle.emit_fused.specs.Simplified.{simplified_expr}
use Rattle.emit_fused.specs.Fused.{fused_stmt, fused_stmts, fused_procedure, fused}
use Rattle.right_pruned.proofs.lemmas.Lists.{each-map, zip-map, filter-map}
use Rattle.right_fused.proofs.lemmas.Lists.{each-by, zip-each, filter-same}
use Rattle.right_fused.proofs.AnyFunctions.{simplified-gives}
use Rattle.right_fused.proofs.FusedReads.{exprs-list}
use Rattle.right_fused.proofs.FusedRules.{read-left, named-left, keeps, once-fused, used-fused}

-- ---- Bodies without an `if`

abbrev IsPlain : StmtTree → Type 0
IsPlain (assign line f e) = ⊤
IsPlain (assign_at line f index e) = ⊤
IsPlain (branch line test a b) = ⊥
IsPlain (call line k target es) = ⊤

-- fused it stores a written number only where it did before
abbrev IsStraight : StmtTree → Type 0
IsStraight s = IsPlain s × (is_literal_store (fused_stmt s) ≡ is_literal_store s)

-- each is fused by itself
plain-list : (ss : StmtTrees) → AllByRecursion IsPlain (list_of_stmts ss) → list_of_stmts (fused_stmts ss) ≡ map fused_stmt (list_of_stmts ss)
plain-list no_stmts h = refl
plain-list (more_stmts (assign line f e) ss) h = ap (λ rest. fused_stmt (assign line f e) ∷ rest) (plain-list ss h.1)
plain-list (more_stmts (assign_at line f index e) ss) h = ap (λ rest. fused_stmt (assign_at line f index e) ∷ rest) (plain-list ss h.1)
plain-list (more_stmts (branch line test a b) ss) h = absurd h.0
plain-list (more_stmts (call line k target es) ss) h = ap (λ rest. fused_stmt (call line k target es) ∷ rest) (plain-list ss h.1)

-- the stores of written numbers, or the other statements
kept-fused : (test : Bool → Bool) (ss : StmtTrees) → AllByRecursion IsStraight (list_of_stmts ss) →
    filter (λ s. test (is_literal_store s)) (list_of_stmts (fused_stmts ss))
    ≡ map fused_stmt (filter (λ s. test (is_literal_store s)) (list_of_stmts ss))
kept-fused test ss h =
    ap (filter (λ s. test (is_literal_store s))) (plain-list ss (each-then IsStraight IsPlain (list_of_stmts ss) (λ s one. one.0) h))
    ∙ filter-map fused_stmt (λ s. test (is_literal_store s)) (list_of_stmts ss)
    ∙ ap (map fused_stmt)
    (filter-same (λ s. test (is_literal_store (fused_stmt s))) (λ s. test (is_literal_store s)) (list_of_stmts ss)
    (each-then IsStraight (λ s. test (is_literal_store (fused_stmt s)) ≡ test (is_literal_store s)) (list_of_stmts ss)
    (λ s one. ap test one.1) h))

-- ---- Written numbers

literal-stays : (e : ExprTree) → is_literal e ≡ true → is_literal (simplified_expr e) ≡ true
literal-stays (literal value) h = h
literal-stays (neg e) h = literal-stays e h
literal-stays _ h = absurd (let wrong : ⊥ = cc h in wrong)

number-stays : (e : ExprTree) → is_literal e ≡ true → literal_number (simplified_expr e) ≡ literal_number e
number-stays (literal value) h = refl
number-stays (neg e) h = ap neg_ℤ (number-stays e h)
number-stays _ h = absurd (let wrong : ⊥ = cc h in wrong)

literal-straight : (s : StmtTree) → is_literal_store s ≡ true → IsStraight s
literal-straight (assign line f e) h = (tt, literal-stays e h ∙ sym h)
literal-straight (assign_at line f index e) h = (tt, refl)
literal-straight (branch line test a b) h = absurd (let wrong : ⊥ = cc h in wrong)
literal-straight (call line k target es) h = (tt, refl)

-- ---- Programs

-- the procedure at a position
at-fused : (xs : List ProcedureTree) (k : ℕ) →
    head_of (slice_index_or xs k no_procedure) ≡ head_of (slice_index_or (map fused_procedure xs) k no_procedure)
at-fused [] k = refl
at-fused (x ∷ xs) zero = refl
at-fused (x ∷ xs) (suc k) = at-fused xs k

module _ (p : ProgramTree) where
  abbrev r : ProgramTree
  r = fused p

  pub same-head : (k : ℕ) → head_of (procedure_at p k) ≡ head_of (procedure_at r k)
  same-head k = at-fused p.procedures k

  same-names : (of : ℕ) → names_in p of ≡ names_in r of
  same-names of =
      λ i. record {
        own = (names_in p of).own;
        inner = (names_in p of).inner;
        struct = (names_in p of).struct;
        callee = λ k. same-head k i;
      }

  own-fused : (k : ℕ) → map fused_procedure (procedures_of p k) ≡ procedures_of r k
  own-fused k = sym (filter-map fused_procedure (λ x. x.of == k) p.procedures)

  -- ---- The code of one system

  system-fused : (d : Diagram) (delays : List Bool) (s : Option ℕ) → HasSystemShape p d delays s → HasSystemShape r d delays s
  system-fused d delays s h =
      let local = viewed h.view in
      let of = struct_place p s in
      let n = names_in p of in
      let xs = procedures_of p of in
      let own = own-fused of in record {
        view = h.view;
        struct_there = h.struct_there;
        fields =
            record {
              slots = h.fields.slots;
              are_slots = h.fields.are_slots;
              are_fields = h.fields.are_fields
                  ∙ ap (λ (m : CodeNames). named_fields m (struct_at p of).fields) (same-names of);
            };
        heads = subst
            (λ hs. IsPermutation (public_heads (own_header local h.view.profile))
            (filter (λ (x : Head). not x.private) hs)) (sym (map-map head_of fused_procedure xs) ∙ ap (map head_of) own) h.heads;
        rules = subst (λ (m : CodeNames). AllByRecursion (KeepsRules m local (counters_in h.fields.slots))
            (procedures_of r of)) (same-names of)
            (subst (AllByRecursion (KeepsRules n local (counters_in h.fields.slots))) own
            (each-map fused_procedure (KeepsRules n local (counters_in h.fields.slots))
            (KeepsRules n local (counters_in h.fields.slots)) xs
            (λ x one. keeps n local (counters_in h.fields.slots) x one) h.rules));
        once = subst (λ (m : CodeNames). StatesOnce m local (procedures_of r of)) (same-names of)
            (subst (StatesOnce n local) own (once-fused n local xs h.once));
        used = subst (λ (m : CodeNames). AreUsed m (counters_in h.fields.slots) (procedures_of r of)) (same-names of)
            (subst (AreUsed n (counters_in h.fields.slots)) own (used-fused n (counters_in h.fields.slots) xs h.used));
      }

  -- ---- The root

  module _ (hyper : ℕ) (x : ProcedureTree) where
    reads-alike : (what : NamedLeaf) (e : ExprTree) → IsReadOf (names_in p x.of) x.params what e →
        IsReadOf (names_in r x.of) x.params what (simplified_expr e)
    reads-alike what e h =
        subst (λ (n : CodeNames). IsReadOf n x.params what (simplified_expr e)) (same-names x.of)
        (read-left (names_in p x.of) x.params what e h)

    call-alike : (callee : Head) (a : StmtTree) → DoesCall p hyper x callee a → DoesCall r hyper (fused_procedure x) callee (fused_stmt a)
    call-alike callee (call line k (Child f) values) h = (
      sym (same-head k) ∙ h.0,
      h.1,
      subst (λ es. AllZip (λ (wanted : ParamTree) e. (what : NamedLeaf) × IsPassed wanted.name what
          × IsReadOf (names_in r x.of) x.params what e) callee.params es) (sym (exprs-list values))
          (zip-map simplified_expr
          (λ (wanted : ParamTree) e. (what : NamedLeaf) × IsPassed wanted.name what × IsReadOf (names_in p x.of) x.params what e)
          (λ (wanted : ParamTree) e. (what : NamedLeaf) × IsPassed wanted.name what × IsReadOf (names_in r x.of) x.params what e)
          (λ wanted e (what, passed, is). (what, passed, reads-alike what e is)) callee.params (list_of_exprs values) h.2),
    )
    call-alike callee _ h = absurd h

    store-alike : (name : List ℕ) (P Q : ExprTree → Type 0) → ((e : ExprTree) → P e → Q (simplified_expr e)) →
        (a : StmtTree) → DoesStore p hyper x name P a → DoesStore r hyper (fused_procedure x) name Q (fused_stmt a)
    store-alike name P Q next (assign line f value) h = (h.0, next value h.1)
    store-alike name P Q next (call line k target values) h = absurd h
    store-alike name P Q next (assign_at line f index value) h = absurd h
    store-alike name P Q next (branch line test on_true on_false) h = absurd h

    moves-alike : (e : ExprTree) → MovesOn p hyper x e → MovesOn r hyper (fused_procedure x) (simplified_expr e)
    moves-alike e h = record {
      reads = subst
          (λ (n : CodeNames). AllByRecursion (λ leaf. leaf ≡ own now_name)
          (named_leaves n x.params (expr_leaves (simplified_expr e)))) (same-names x.of)
          (named-left (names_in p x.of) x.params (λ leaf. leaf ≡ own now_name) e h.reads);
      next = λ functions t inside.
          simplified-gives (record { leaf = λ leaf. pos t; array = λ f. [] }) 0 e (pos ((t + 1) % hyper))
          (λ some. h.next some t inside) functions;
    }

    does-alike : (step : RootStep) (a : StmtTree) → Does p hyper x step a → Does r hyper (fused_procedure x) step (fused_stmt a)
    does-alike (calls callee) a h = call-alike callee a h
    does-alike (copies output row) a h =
        store-alike (output_name output)
        (IsReadOf (names_in p x.of) x.params (child (system_name None) (value_name row)))
        (IsReadOf (names_in r x.of) x.params (child (system_name None) (value_name row)))
        (reads-alike (child (system_name None) (value_name row))) a h
    does-alike moves_on a h = store-alike now_name (MovesOn p hyper x) (MovesOn r hyper (fused_procedure x)) moves-alike a h

    begins-alike : (a : StmtTree) → is_literal_store a ≡ true → BeginsTick p x a → BeginsTick r (fused_procedure x) (fused_stmt a)
    begins-alike (assign line f value) is h = (h.0, number-stays value is ∙ h.1)
    begins-alike (call line k target values) is h = absurd h
    begins-alike (assign_at line f index value) is h = absurd h
    begins-alike (branch line test on_true on_false) is h = absurd h

    -- ---- No `if`

    call-straight : (callee : Head) (a : StmtTree) → DoesCall p hyper x callee a → IsStraight a
    call-straight callee (call line k target values) h = (tt, refl)
    call-straight callee (assign line f value) h = absurd h
    call-straight callee (assign_at line f index value) h = absurd h
    call-straight callee (branch line test on_true on_false) h = absurd h

    copy-straight : (output row : ℕ) (a : StmtTree) → Does p hyper x (copies output row) a → IsStraight a
    copy-straight output row (assign line f value) h = (tt, ap (λ e. is_literal (simplified_expr e)) h.1.1 ∙ sym (ap is_literal h.1.1))
    copy-straight output row (call line k target values) h = absurd h
    copy-straight output row (assign_at line f index value) h = absurd h
    copy-straight output row (branch line test on_true on_false) h = absurd h

    copies-straight : (os : List (ℕ × ℕ)) (xs : List StmtTree) →
        AllZip (Does p hyper x) (map (λ (o : ℕ × ℕ). copies o.0 o.1) os) xs → AllByRecursion IsStraight xs
    copies-straight [] [] h = tt
    copies-straight [] (a ∷ xs) h = absurd h
    copies-straight (o ∷ os) [] h = absurd h
    copies-straight (o ∷ os) (a ∷ xs) h = (copy-straight o.0 o.1 a h.0, copies-straight os xs h.1)

    start-straight : (d : Diagram) (top : SystemHeader) (xs : List StmtTree) → AllZip (Does p hyper x) (start_steps d top) xs →
        AllByRecursion IsStraight xs
    start-straight d top [] h = absurd h
    start-straight d top (a ∷ xs) h = (
      call-straight (heads.start_head top) a h.0,
      copies-straight (enumerate_from 1 (outports_of d.rows None)) xs h.1,
    )

    store-plain : (name : List ℕ) (P : ExprTree → Type 0) (a : StmtTree) → DoesStore p hyper x name P a → IsPlain a
    store-plain name P (assign line f value) h = tt
    store-plain name P (call line k target values) h = absurd h
    store-plain name P (assign_at line f index value) h = absurd h
    store-plain name P (branch line test on_true on_false) h = absurd h

    does-plain : (step : RootStep) (a : StmtTree) → Does p hyper x step a → IsPlain a
    does-plain (calls callee) a h = (call-straight callee a h).0
    does-plain (copies output row) a h =
        store-plain (output_name output) (IsReadOf (names_in p x.of) x.params (child (system_name None) (value_name row))) a h
    does-plain moves_on a h = store-plain now_name (MovesOn p hyper x) a h

  begins-fused : (hyper : ℕ) (x : ProcedureTree) (xs : List StmtTree) → AllByRecursion (BeginsTick p x) (filter is_literal_store xs) →
      AllByRecursion (BeginsTick r (fused_procedure x)) (map fused_stmt (filter is_literal_store xs))
  begins-fused hyper x [] h = tt
  begins-fused hyper x (a ∷ xs) h = by (is_literal_store a) refl h (begins-fused hyper x xs)
    where
      by : (t : Bool) → is_literal_store a ≡ t →
          AllByRecursion (BeginsTick p x) (cond t (a ∷ filter is_literal_store xs) (filter is_literal_store xs)) →
          (AllByRecursion (BeginsTick p x) (filter is_literal_store xs) →
          AllByRecursion (BeginsTick r (fused_procedure x)) (map fused_stmt (filter is_literal_store xs))) →
          AllByRecursion (BeginsTick r (fused_procedure x))
          (map fused_stmt (cond t (a ∷ filter is_literal_store xs) (filter is_literal_store xs)))
      by true is g next = (begins-alike hyper x a is g.0, next g.1)
      by false is g next = next g

  pub root-fused : (d : Diagram) (hyper : ℕ) → HasRootCode p d hyper → HasRootCode r d hyper
  root-fused d hyper h =
      let top = header_of d None h.profile in
      let stmts = list_of_stmts h.start.body in
      let others = filter (λ a. not (is_literal_store a)) stmts in
      let straight = each-by IsStraight is_literal_store stmts literal-straight
      (start-straight hyper h.start d top others h.starts) in record {
        profile = h.profile;
        is_profile = h.is_profile;
        name = h.name;
        fields =
            subst (λ (m : CodeNames). IsPermutation (root_fields_of d)
            (named_fields m (struct_at p (root_struct p)).fields)) (same-names (root_struct p)) h.fields;
        start = fused_procedure h.start;
        step = fused_procedure h.step;
        only = subst (IsPermutation (fused_procedure h.start ∷ fused_procedure h.step ∷ [])) (own-fused (root_struct p))
            (IsPermutation-map fused_procedure (h.start ∷ h.step ∷ []) (procedures_of p (root_struct p)) h.only);
        start_head = h.start_head;
        step_head = h.step_head;
        begins =
            subst (λ n. 0 < n) (sym (length-map (filter is_literal_store stmts) fused_stmt)
            ∙ ap length (sym (kept-fused (λ t. t) h.start.body straight))) h.begins;
        tick_alone = subst (AllByRecursion (BeginsTick r (fused_procedure h.start))) (sym (kept-fused (λ t. t) h.start.body straight))
            (begins-fused hyper h.start stmts h.tick_alone);
        starts =
            subst (AllZip (Does r hyper (fused_procedure h.start)) (start_steps d top))
            (sym (kept-fused not h.start.body straight))
            (zip-map fused_stmt (Does p hyper h.start) (Does r hyper (fused_procedure h.start))
            (λ step a one. does-alike hyper h.start step a one) (start_steps d top) others h.starts);
        does = subst (AllZip (Does r hyper (fused_procedure h.step)) (tick_steps d top))
            (sym (plain-list h.step.body (zip-each (Does p hyper h.step) IsPlain (λ step a one. does-plain hyper h.step step a one)
            (tick_steps d top) (list_of_stmts h.step.body) h.does)))
            (zip-map fused_stmt (Does p hyper h.step) (Does r hyper (fused_procedure h.step))
            (λ step a one. does-alike hyper h.step step a one) (tick_steps d top) (list_of_stmts h.step.body) h.does);
      }

  pub shape-fused : (d : Diagram) (delays : List Bool) (hyper : ℕ) → HasShape p d delays hyper → HasShape r d delays hyper
  shape-fused d delays hyper h = record {
    pures = h.pures;
    structs = h.structs;
    each = each-then (HasSystemShape p d delays) (HasSystemShape r d delays) (systems d.rows) (λ s one. system-fused d delays s one) h.each;
    root = root-fused d hyper h.root;
  }
