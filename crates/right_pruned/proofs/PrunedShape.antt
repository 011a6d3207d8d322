-- The shape and the interfaces of a program with its pure functions at other positions.
use Rattle.std.specs.Prelude.{◌≡◌, ℕ, zero, suc, ◌+◌, ◌<◌, ◌==◌, ◌%◌, not, Bool, true, false, if◌then◌else◌, List, [], ◌∷◌, ◌++◌, map, filter, length, slice_index_or, Contains, IsPermutation, Option, None, bytes_eq, pos, neg_ℤ}
use Rattle.std.specs.List.{AllByRecursion, AllZip, list_any, enumerate_from}
use Rattle.std.proofs.Common.{refl, sym, ap, subst, ◌∙◌, arith}
use Rattle.std.proofs.lemmas.List.{length-map}
use Rattle.std.proofs.lemmas.List.Sorted.{IsPermutation-map}
use Rattle.std.proofs.lemmas.Simd.{map-map}
use Rattle.diagram_meaning.specs.Rows.{outports_of, system_control}
use Rattle.diagram_meaning.specs.Inputs.{input_ports}
use Rattle.diagram_meaning.specs.Diagram.{Diagram}
use Rattle.base_core.specs.Ports.{ports_mask}
use Rattle.modules_profile.specs.Systems.{systems, system_name}
use Rattle.modules_profile.specs.Locals.{own_header}
use Rattle.modules_profile.specs.Headers.{header_of}
use Rattle.c_syntax.specs.declared.Target.TheVariants.{Child}
use Rattle.c_syntax.specs.Tree.{ExprTree, literal, neg, pure, StmtTree, assign, assign_at, branch, call, StmtTrees, list_of_stmts, list_of_exprs, PureTree, ParamTree, ProcedureTree, ProgramTree}
use Rattle.c_syntax.specs.Lawful.{pure_without_lines}
use Rattle.c_syntax.specs.RootFields.{root_struct}
use Rattle.emit_prelude.specs.Bodies.{function_trees}
use Rattle.c_semantics.specs.Values.{Function, function_at, eval, gives}
use Rattle.emit_shape.specs.NamedLeaf.{NamedLeaf, own, child}
use Rattle.emit_shape.specs.Names.{value_name, port_name, now_name}
use Rattle.c_syntax.specs.Outputs.{output_name}
use Rattle.emit_shape.specs.Heads.{Head, head_of, public_heads}
use Rattle.emit_shape.specs.CodeNames.{CodeNames, named_fields, named_leaves, IsReadOf}
use Rattle.emit_shape.specs.Reads.{expr_leaves}
use Rattle.emit_shape.specs.Rules.{KeepsRules}
use Rattle.emit_shape.specs.Once.{StatesOnce}
use Rattle.emit_shape.specs.Stored.{stored_names, has_stored}
use Rattle.emit_shape.specs.Used.{AreUsed}
use Rattle.emit_shape.specs.Slots.{counters_in}
use Rattle.emit_shape.specs.Programs.{procedure_at, no_procedure, field_in, names_in, procedures_of, struct_place, struct_at}
use Rattle.emit_shape.specs.Faces.{stores, takes, HasLeastInterface}
use Rattle.emit_shape.specs.RootCode.{RootStep, calls, copies, moves_on, IsPassed, MovesOn, DoesCall, DoesStore, Does, root_fields_of, is_literal, is_literal_store, literal_number, BeginsTick, start_steps, tick_steps, HasRootCode}
use Rattle.emit_shape.specs.ProgramShape.{viewed, AreOfPrelude, HasSystemShape, HasShape}
use Rattle.emit_pruned.specs.Calls.{expr_functions}
use Rattle.emit_pruned.specs.Pruned.{renumbered_expr, renumbered_stmt, renumbered_stmts, renumbered_pure, renumbered_procedure, kept_from}
use Rattle.emit_pruned.proofs.lemmas.Numbers.{each-then}
use Rattle.emit_pruned.proofs.lemmas.SameRuns.{Agree, expr-same}
use Rattle.right_pruned.proofs.lemmas.Lists.{each-map, member, zip-map, filter-map}
use Rattle.right_pruned.proofs.PrunedBodies.{expr-leaves, exprs-list, stmts-list}
use Rattle.right_pruned.proofs.PrunedRules.{read-moved, keeps, once-moved, used-moved, stored-moved}
use Rattle.right_pruned.proofs.PrunedPlaces.{q, same-outs}

-- ---- Functions at the positions that an expression calls

-- a number above each of some
above : List ℕ → ℕ
above [] = 0
above (k ∷ ks) = suc k + above ks

more-above : (n : ℕ) (ks : List ℕ) → AllByRecursion (λ k. k < n) ks → (m : ℕ) → AllByRecursion (λ k. k < m + n) ks
more-above n ks h m = each-then (λ k. k < n) (λ k. k < m + n) ks (λ k below. omega arith) h

each-above : (ks : List ℕ) → AllByRecursion (λ k. k < above ks) ks
unfolding above
each-above [] = tt
each-above (k ∷ ks) = (omega arith, more-above (above ks) ks (each-above ks) (suc k))

-- the functions at the places of so many positions from n on
called_from : (ℕ → ℕ) → List Function → (n count : ℕ) → List Function
called_from place functions n zero = []
called_from place functions n (suc count) = function_at functions (place n) ∷ called_from place functions (suc n) count

called-at : (place : ℕ → ℕ) (functions : List Function) (n count k m : ℕ) → k < count → n + k ≡ m →
    function_at functions (place m) ≡ function_at (called_from place functions n count) k
unfolding called_from
called-at place functions n zero k m inside e = absurd (omega arith)
called-at place functions n (suc count) zero m inside e =
    ap (λ j. function_at functions (place j)) (let same : m ≡ n = omega (arith, e) in same)
called-at place functions n (suc count) (suc k) m inside e = called-at place functions (suc n) count k m (omega arith) (omega (arith, e))

-- ---- Pure functions

-- none of the eight calls another, so each stays what it is
eight-stay : (place : ℕ → ℕ) → AllByRecursion (λ f. renumbered_pure place f ≡ f) function_trees
eight-stay place = (refl, (refl, (refl, (refl, (refl, (refl, (refl, (refl, tt))))))))

known-moved : (place : ℕ → ℕ) (f : PureTree) → Contains function_trees (pure_without_lines f) →
    Contains function_trees (pure_without_lines (renumbered_pure place f))
known-moved place f known =
    subst (Contains function_trees)
    (sym (member (λ g. renumbered_pure place g ≡ g) function_trees (pure_without_lines f) (eight-stay place) known)) known

kept-known : (keeps : ℕ → Bool) (n : ℕ) (fs : List PureTree) → AreOfPrelude fs → AreOfPrelude (kept_from keeps n fs)
kept-known keeps n [] all = tt
kept-known keeps n (f ∷ fs) all = by (keeps n) (kept-known keeps (suc n) fs all.1)
  where
    by : (t : Bool) → AreOfPrelude (kept_from keeps (suc n) fs) → AreOfPrelude ((if t then f ∷ [] else []) ++ kept_from keeps (suc n) fs)
    by true more = (all.0, more)
    by false more = more

-- those that are kept are among the eight
pub pures-known : (place : ℕ → ℕ) (keeps : ℕ → Bool) (fs : List PureTree) → AreOfPrelude fs →
    AreOfPrelude (map (renumbered_pure place) (kept_from keeps 0 fs))
pures-known place keeps fs all =
    each-map (renumbered_pure place) (λ f. Contains function_trees (pure_without_lines f))
    (λ f. Contains function_trees (pure_without_lines f)) (kept_from keeps 0 fs) (λ f known. known-moved place f known)
    (kept-known keeps 0 fs all)

-- ---- Literals

module _ (place : ℕ → ℕ) where
  literal-moved : (e : ExprTree) → is_literal (renumbered_expr place e) ≡ is_literal e
  literal-moved (neg e) = literal-moved e
  literal-moved _ = refl

  number-moved : (e : ExprTree) → literal_number (renumbered_expr place e) ≡ literal_number e
  number-moved (neg e) = ap neg_ℤ (number-moved e)
  number-moved _ = refl

  store-moved : (x : StmtTree) → is_literal_store (renumbered_stmt place x) ≡ is_literal_store x
  store-moved (assign line f value) = literal-moved value
  store-moved (assign_at line f index value) = refl
  store-moved (branch line test on_true on_false) = refl
  store-moved (call line k target es) = refl

  -- the literal stores of a body, or its other statements
  kept-moved : (test : Bool → Bool) (xs : StmtTrees) → filter (λ x. test (is_literal_store x)) (list_of_stmts (renumbered_stmts place xs))
      ≡ map (renumbered_stmt place) (filter (λ x. test (is_literal_store x)) (list_of_stmts xs))
  kept-moved test xs =
      ap (filter (λ x. test (is_literal_store x))) (stmts-list place xs)
      ∙ filter-map (renumbered_stmt place) (λ x. test (is_literal_store x)) (list_of_stmts xs)
      ∙ (λ i. map (renumbered_stmt place) (filter (λ x. test (store-moved x i)) (list_of_stmts xs)))

  at-moved : (xs : List ProcedureTree) (k : ℕ) →
      slice_index_or (map (renumbered_procedure place) xs) k no_procedure
      ≡ renumbered_procedure place (slice_index_or xs k no_procedure)
  at-moved [] k = refl
  at-moved (x ∷ xs) zero = refl
  at-moved (x ∷ xs) (suc k) = at-moved xs k

-- a program, and the same with other pure functions, by whose positions its procedures call
module _ (place : ℕ → ℕ) (pures : List PureTree) (p : ProgramTree) where
  abbrev move : ProcedureTree → ProcedureTree
  move = renumbered_procedure place

  abbrev r : ProgramTree
  r = q place pures p

  same-head : (k : ℕ) → head_of (procedure_at p k) ≡ head_of (procedure_at r k)
  same-head k = ap head_of (sym (at-moved place p.procedures k))

  same-names : (of : ℕ) → names_in p of ≡ names_in r of
  same-names of =
      λ i. record {
        own = (names_in p of).own;
        inner = (names_in p of).inner;
        struct = (names_in p of).struct;
        callee = λ k. same-head k i;
      }

  own-moved : (k : ℕ) → map move (procedures_of p k) ≡ procedures_of r k
  own-moved k = sym (filter-map move (λ x. x.of == k) p.procedures)

  -- ---- Interfaces

  same-stored : (name : List ℕ) (k : ℕ) → stores p name k ≡ stores r name k
  same-stored name k =
      sym (ap (λ xs. has_stored xs k name)
      (stored-moved place (λ j. (procedure_at p j).private) (λ of f. (field_in p of f).name) p.procedures []))
      ∙ (λ i. has_stored (stored_names (λ j. (same-head j i).private) (λ x f. (field_in p x.of f).name) [] (map move p.procedures)) k name)

  same-takes : (d : Diagram) (s : Option ℕ) (k : ℕ) → takes p d s k ≡ takes r d s k
  same-takes d s k =
      ap (λ (h : Head). ports_mask
      (filter (λ j. list_any (λ (x : ParamTree). bytes_eq x.name (port_name (system_control d.rows s) j)) h.params)
      (input_ports d.rows s))) (same-head k)

  pub least-alike : (d : Diagram) (s : Option ℕ) → HasLeastInterface p d s → HasLeastInterface r d s
  least-alike d s h = record {
    needs = h.needs;
    are_needs = h.are_needs;
    face = h.face;
    is_face = record {
      functions = h.is_face.functions ∙ (λ i. map (λ k. same-takes d s k i) (sym (same-outs place pures p s) i));
      outputs =
          h.is_face.outputs
          ∙ (λ i. map
          (λ o. map (λ (e : ℕ × ℕ). e.0)
          (filter (λ (e : ℕ × ℕ). same-stored (value_name o) e.1 i)
          (enumerate_from 0 (sym (same-outs place pures p s) i)))) (outports_of d.rows s));
      no_order = h.is_face.no_order;
    };
    is_interface = h.is_interface;
    exact = h.exact;
    least = h.least;
  }

  -- ---- The code of one system

  pub system-alike : (d : Diagram) (delays : List Bool) (s : Option ℕ) → HasSystemShape p d delays s → HasSystemShape r d delays s
  system-alike d delays s h =
      let local = viewed h.view in
      let of = struct_place p s in
      let n = names_in p of in
      let xs = procedures_of p of in
      let own = own-moved of in record {
        view = h.view;
        struct_there = h.struct_there;
        fields =
            record {
              slots = h.fields.slots;
              are_slots = h.fields.are_slots;
              are_fields = h.fields.are_fields
                  ∙ ap (λ (m : CodeNames). named_fields m (struct_at p of).fields) (same-names of);
            };
        heads = subst
            (λ hs. IsPermutation (public_heads (own_header local h.view.profile))
            (filter (λ (x : Head). not x.private) hs)) (sym (map-map head_of move xs) ∙ ap (map head_of) own) h.heads;
        rules = subst (λ (m : CodeNames). AllByRecursion (KeepsRules m local (counters_in h.fields.slots))
            (procedures_of r of)) (same-names of)
            (subst (AllByRecursion (KeepsRules n local (counters_in h.fields.slots))) own
            (each-map move (KeepsRules n local (counters_in h.fields.slots))
            (KeepsRules n local (counters_in h.fields.slots)) xs
            (λ x one. keeps place n local (counters_in h.fields.slots) x one) h.rules));
        once = subst (λ (m : CodeNames). StatesOnce m local (procedures_of r of)) (same-names of)
            (subst (StatesOnce n local) own (once-moved place n local xs h.once));
        used = subst (λ (m : CodeNames). AreUsed m (counters_in h.fields.slots) (procedures_of r of)) (same-names of)
            (subst (AreUsed n (counters_in h.fields.slots)) own (used-moved place n (counters_in h.fields.slots) xs h.used));
      }

  -- ---- The root

  module _ (hyper : ℕ) (x : ProcedureTree) where
    reads-alike : (what : NamedLeaf) (e : ExprTree) → IsReadOf (names_in p x.of) x.params what e →
        IsReadOf (names_in r x.of) x.params what (renumbered_expr place e)
    reads-alike what e h =
        subst (λ (n : CodeNames). IsReadOf n x.params what (renumbered_expr place e)) (same-names x.of)
        (read-moved place (names_in p x.of) x.params what e h)

    call-alike : (callee : Head) (a : StmtTree) → DoesCall p hyper x callee a → DoesCall r hyper (move x) callee (renumbered_stmt place a)
    call-alike callee (call line k (Child f) values) h = (
      sym (same-head k) ∙ h.0,
      h.1,
      subst (λ es. AllZip (λ (wanted : ParamTree) e. (what : NamedLeaf) × IsPassed wanted.name what
          × IsReadOf (names_in r x.of) x.params what e) callee.params es) (sym (exprs-list place values))
          (zip-map (renumbered_expr place)
          (λ (wanted : ParamTree) e. (what : NamedLeaf) × IsPassed wanted.name what × IsReadOf (names_in p x.of) x.params what e)
          (λ (wanted : ParamTree) e. (what : NamedLeaf) × IsPassed wanted.name what × IsReadOf (names_in r x.of) x.params what e)
          (λ wanted e (what, passed, is). (what, passed, reads-alike what e is)) callee.params (list_of_exprs values) h.2),
    )
    call-alike callee _ h = absurd h

    store-alike : (name : List ℕ) (P Q : ExprTree → Type 0) → ((e : ExprTree) → P e → Q (renumbered_expr place e)) →
        (a : StmtTree) → DoesStore p hyper x name P a → DoesStore r hyper (move x) name Q (renumbered_stmt place a)
    store-alike name P Q next (assign line f value) h = (h.0, next value h.1)
    store-alike name P Q next (call line k target values) h = absurd h
    store-alike name P Q next (assign_at line f index value) h = absurd h
    store-alike name P Q next (branch line test on_true on_false) h = absurd h

    moves-alike : (e : ExprTree) → MovesOn p hyper x e → MovesOn r hyper (move x) (renumbered_expr place e)
    moves-alike e h = record {
      reads = subst
          (λ (n : CodeNames). AllByRecursion (λ leaf. leaf ≡ own now_name)
          (named_leaves n x.params (expr_leaves (renumbered_expr place e)))) (same-names x.of)
          (subst (λ leaves. AllByRecursion (λ leaf. leaf ≡ own now_name)
          (named_leaves (names_in p x.of) x.params leaves)) (sym (expr-leaves place e)) h.reads);
      next = λ functions t inside. next functions t (h.next (called_from place functions 0 (above (expr_functions e))) t inside);
    }
      where
        agree : (functions : List Function) →
            AllByRecursion (Agree place (called_from place functions 0 (above (expr_functions e))) functions)
            (expr_functions e)
        agree functions =
            each-then (λ k. k < above (expr_functions e))
            (Agree place (called_from place functions 0 (above (expr_functions e))) functions) (expr_functions e)
            (λ k below. called-at place functions 0 (above (expr_functions e)) k k below (omega arith)) (each-above (expr_functions e))

        next : (functions : List Function) (t : ℕ) →
            ((steps : ℕ)
            × (eval (called_from place functions 0 (above (expr_functions e)))
            (record { leaf = λ leaf. pos t; array = λ f. [] }) 0 e 0 ≡ gives (pos ((t + 1) % hyper)) steps)) →
            ((steps : ℕ)
            × (eval functions (record { leaf = λ leaf. pos t; array = λ f. [] }) 0 (renumbered_expr place e) 0
            ≡ gives (pos ((t + 1) % hyper)) steps))
        next functions t (steps, is) = (
          steps,
          ap (λ go. go 0) (expr-same place (called_from place functions 0 (above (expr_functions e))) functions
              (record { leaf = λ leaf. pos t; array = λ f. [] }) 0 e (agree functions)) ∙ is,
        )

    does-alike : (step : RootStep) (a : StmtTree) → Does p hyper x step a → Does r hyper (move x) step (renumbered_stmt place a)
    does-alike (calls callee) a h = call-alike callee a h
    does-alike (copies output row) a h =
        store-alike (output_name output)
        (IsReadOf (names_in p x.of) x.params (child (system_name None) (value_name row)))
        (IsReadOf (names_in r x.of) x.params (child (system_name None) (value_name row)))
        (reads-alike (child (system_name None) (value_name row))) a h
    does-alike moves_on a h = store-alike now_name (MovesOn p hyper x) (MovesOn r hyper (move x)) moves-alike a h

    begins-alike : (a : StmtTree) → BeginsTick p x a → BeginsTick r (move x) (renumbered_stmt place a)
    begins-alike (assign line f value) h = (h.0, number-moved place value ∙ h.1)
    begins-alike (call line k target values) h = absurd h
    begins-alike (assign_at line f index value) h = absurd h
    begins-alike (branch line test on_true on_false) h = absurd h

  pub root-alike : (d : Diagram) (hyper : ℕ) → HasRootCode p d hyper → HasRootCode r d hyper
  root-alike d hyper h =
      let literal_stores = filter is_literal_store (list_of_stmts h.start.body) in
      let others = filter (λ a. not (is_literal_store a)) (list_of_stmts h.start.body) in
      let moved_stmt = renumbered_stmt place in record {
        profile = h.profile;
        is_profile = h.is_profile;
        name = h.name;
        fields =
            subst (λ (m : CodeNames). IsPermutation (root_fields_of d)
            (named_fields m (struct_at p (root_struct p)).fields)) (same-names (root_struct p)) h.fields;
        start = move h.start;
        step = move h.step;
        only = subst (IsPermutation (move h.start ∷ move h.step ∷ [])) (own-moved (root_struct p))
            (IsPermutation-map move (h.start ∷ h.step ∷ []) (procedures_of p (root_struct p)) h.only);
        start_head = h.start_head;
        step_head = h.step_head;
        begins =
            subst (λ n. 0 < n) (sym (length-map literal_stores moved_stmt)
            ∙ ap length (sym (kept-moved place (λ t. t) h.start.body))) h.begins;
        tick_alone = subst (AllByRecursion (BeginsTick r (move h.start))) (sym (kept-moved place (λ t. t) h.start.body))
            (each-map moved_stmt (BeginsTick p h.start) (BeginsTick r (move h.start)) literal_stores
            (λ a one. begins-alike hyper h.start a one) h.tick_alone);
        starts =
            subst (AllZip (Does r hyper (move h.start)) (start_steps d (header_of d None h.profile)))
            (sym (kept-moved place not h.start.body))
            (zip-map moved_stmt (Does p hyper h.start) (Does r hyper (move h.start))
            (λ step a one. does-alike hyper h.start step a one)
            (start_steps d (header_of d None h.profile)) others h.starts);
        does = subst (AllZip (Does r hyper (move h.step)) (tick_steps d (header_of d None h.profile)))
            (sym (stmts-list place h.step.body))
            (zip-map moved_stmt (Does p hyper h.step) (Does r hyper (move h.step))
            (λ step a one. does-alike hyper h.step step a one) (tick_steps d (header_of d None h.profile))
            (list_of_stmts h.step.body) h.does);
      }

  pub shape-alike : (d : Diagram) (delays : List Bool) (hyper : ℕ) → AreOfPrelude pures → HasShape p d delays hyper →
      HasShape r d delays hyper
  shape-alike d delays hyper known h = record {
    pures = known;
    structs = h.structs;
    each = each-then (HasSystemShape p d delays) (HasSystemShape r d delays) (systems d.rows) (λ s one. system-alike d delays s one) h.each;
    root = root-alike d hyper h.root;
  }
