-- Code with other numbers of the own fields does the same to fields that are there.
use Rattle.std.proofs.Common.{◌≡◌, refl, sym, ap, ◌∙◌, subst, ℕ, zero, suc, ◌+◌, ◌<◌, nat_lt, Bool, true, false, not, if◌then◌else◌, List, [], ◌∷◌, ◌++◌, map, ℤ, neg_ℤ, inl, inr, arith}
use Rattle.std.proofs.lemmas.Bool.{cases_lt}
use Rattle.std.proofs.lemmas.Bool.Decides.{eqb_tells}
use Rattle.std.proofs.lemmas.List.{map-append}
use Rattle.c_syntax.specs.declared.code.CType.{CType}
use Rattle.c_syntax.specs.declared.code.CType.TheVariants.{I64}
use Rattle.c_syntax.specs.declared.code.Leaf.{Leaf}
use Rattle.c_syntax.specs.declared.code.Leaf.TheVariants.{Param, Own, Child}
use Rattle.c_syntax.specs.declared.code.Target.{Target}
use Rattle.c_syntax.specs.declared.code.Target.TheVariants.{Own as OwnTarget, Child as ChildTarget}
use Rattle.c_syntax.specs.declared.fault.Why.TheVariants.{Overflow, Range, Steps}
use Rattle.c_syntax.specs.Tree.{ExprTree, literal, neg, read, binary, pick, pure, item, ExprTrees, no_exprs, more_exprs, CondTree, compare, both, either, negated, StmtTree, assign, assign_at, branch, call, StmtTrees, no_stmts, more_stmts, type_at}
use Rattle.c_semantics.specs.Cells.{Cell, number, items, object, cell_value, cell_fields, cell_items, Cells, no_cells, more_cells, cell_at, set_cell, number_at, fields_at, items_at, set_item}
use Rattle.c_semantics.specs.Values.{Answer, gives, sticks, and_then, within, operate, compares, Function, function_at, leaf_reads, reads, index_in, is_in_type, stuck_at, step_limit, eval, eval_all, eval_cond}
use Rattle.base_core.specs.Numbers.{int_at}
use Rattle.c_semantics.specs.Machine.{LoggedCall, StoredField, Outcome, done, stuck, behind, then_run, on_answer, begin_step, call_under, store_under, in_child, on_target, Routine, routine_at, Scope, arguments, store, store_at, run_stmt, run_stmts}
use Rattle.c_semantics.specs.CellLaws.{cells_count, IsFieldSet}
use Rattle.c_semantics.specs.NumberingLaws.{Calls, AllCalls}
use Rattle.c_semantics.specs.FieldNumbers.{placed_leaf, placed_expr, placed_exprs, placed_cond, placed_target, placed_stmt, placed_stmts, ArePlaced, placed_call, placed_store, EndPlaced, DoesPlaced, FieldNumbersAreFree}
use Rattle.c_semantics.proofs.lemmas.CellLaws.{fields_are_set}

-- a field that isn't there can't be set
past_end : (cells : Cells) (f : ℕ) (c : Cell) → (f < cells_count cells → ⊥) → set_cell cells f c ≡ cells
past_end no_cells f c past = refl
past_end (more_cells b cs) zero c past = absurd (past (omega arith))
past_end (more_cells b cs) (suc f) c past = ap (more_cells b) (past_end cs f c (λ h. past (omega (arith, h))))

module _ (place : ℕ → ℕ) where
  -- ---- What is read

  module _ (values : List ℤ) (cells others : Cells) (are : ArePlaced place cells others) where
    leaf_placed : (l : Leaf) → leaf_reads values others (placed_leaf place l) ≡ leaf_reads values cells l
    leaf_placed (Param k) = refl
    leaf_placed (Own f) = ap cell_value (are.stands f)
    leaf_placed (Child f g) = ap (λ c. number_at (cell_fields c) g) (are.stands f)

    array_placed : (f : ℕ) → items_at others (place f) ≡ items_at cells f
    array_placed f = ap cell_items (are.stands f)

    module _ (functions : List Function) (line : ℕ) where
      mutual
        eval_placed : (e : ExprTree) → eval functions (reads values others) line (placed_expr place e)
            ≡ eval functions (reads values cells) line e
        eval_placed (literal v) = refl
        eval_placed (neg e) = λ i steps. and_then (eval_placed e i steps) (λ v count. within I64 Overflow line (neg_ℤ v) count)
        eval_placed (read l) = λ i steps. gives (leaf_placed l i) steps
        eval_placed (binary op a b) =
            λ i steps. and_then (eval_placed a i steps) (λ x count. and_then (eval_placed b i count) (λ y end. operate op line x y end))
        eval_placed (pick test a b) = λ i steps. and_then (cond_placed test i steps)
            (λ holds. if holds then eval_placed a i else eval_placed b i)
        eval_placed (pure k es) = λ i steps. and_then (all_placed es i steps) (function_at functions k)
        eval_placed (item f index) =
            λ i steps. and_then (and_then (eval_placed index i steps) (index_in line (array_placed f i)))
            (λ k count. gives (int_at (array_placed f i) k) count)

        all_placed : (es : ExprTrees) → eval_all functions (reads values others) line (placed_exprs place es)
            ≡ eval_all functions (reads values cells) line es
        all_placed no_exprs = refl
        all_placed (more_exprs e es) =
            λ i steps. and_then (eval_placed e i steps) (λ v count. and_then (all_placed es i count) (λ vs end. gives (v ∷ vs) end))

        cond_placed : (c : CondTree) → eval_cond functions (reads values others) line (placed_cond place c)
            ≡ eval_cond functions (reads values cells) line c
        cond_placed (compare how a b) =
            λ i steps. and_then (eval_placed a i steps)
            (λ x count. and_then (eval_placed b i count) (λ y end. gives (compares how x y) end))
        cond_placed (both a b) = λ i steps. and_then (cond_placed a i steps) (λ holds. if holds then cond_placed b i else gives false)
        cond_placed (either a b) = λ i steps. and_then (cond_placed a i steps) (λ holds. if holds then gives true else cond_placed b i)
        cond_placed (negated a) = λ i steps. and_then (cond_placed a i steps) (λ holds count. gives (not holds) count)

      arguments_placed : (types : List CType) (es : ExprTrees) →
          arguments functions (reads values others) line types (placed_exprs place es)
          ≡ arguments functions (reads values cells) line types es
      arguments_placed types no_exprs = refl
      arguments_placed [] (more_exprs e es) = refl
      arguments_placed (t ∷ types) (more_exprs e es) =
          λ i steps. and_then (and_then (eval_placed e i steps) (within t Range line))
          (λ v count. and_then (arguments_placed types es i count) (λ vs end. gives (v ∷ vs) end))

  -- ---- How executions end

  begin_placed : (line : ℕ) (cells others : Cells) (steps : ℕ) (go go_other : ℕ → Outcome) → ArePlaced place cells others →
      ((n : ℕ) → EndPlaced place (go n) (go_other n)) →
      EndPlaced place (begin_step line cells steps go) (begin_step line others steps go_other)
  begin_placed line cells others steps go go_other are same = by (nat_lt steps step_limit)
    where
      by : (b : Bool) → EndPlaced place (if b then go (steps + 1) else stuck (stuck_at line Steps) cells)
          (if b then go_other (steps + 1) else stuck (stuck_at line Steps) others)
      by true = same (steps + 1)
      by false = (refl, are)

  answer_placed : {A : Type 0} (a b : Answer A) (cells others : Cells) (go go_other : A → ℕ → Outcome) → ArePlaced place cells others → a
      ≡ b →
      ((r : A) (n : ℕ) → EndPlaced place (go r n) (go_other r n)) → EndPlaced place (on_answer a cells go) (on_answer b others go_other)
  answer_placed (gives r n) b cells others go go_other are is same =
      subst (λ x. EndPlaced place (go r n) (on_answer x others go_other)) is (same r n)
  answer_placed (sticks at) b cells others go go_other are is same =
      subst (λ x. EndPlaced place (stuck at cells) (on_answer x others go_other)) is (refl, are)

  choice_placed : (f g f_other g_other : Cells → ℕ → Outcome) (cells others : Cells) →
      ((n : ℕ) → EndPlaced place (f cells n) (f_other others n)) → ((n : ℕ) → EndPlaced place (g cells n) (g_other others n)) →
      (b : Bool) (n : ℕ) → EndPlaced place ((if b then f else g) cells n) ((if b then f_other else g_other) others n)
  choice_placed f g f_other g_other cells others first second true n = first n
  choice_placed f g f_other g_other cells others first second false n = second n

  behind_placed : (l m : List LoggedCall) (s t : List StoredField) (o p : Outcome) → map (placed_call place) l ≡ m →
      map (placed_store place) s ≡ t →
      EndPlaced place o p → EndPlaced place (behind l s o) (behind m t p)
  behind_placed l m s t (done a) (done b) log stores ends = (
    ends.0,
    ends.1,
    map-append (placed_call place) l a.log ∙ (λ i. log i ++ ends.2 i),
    map-append (placed_store place) s a.stores
        ∙ (λ i. stores i ++ ends.3 i),
  )
  behind_placed l m s t (done a) (stuck at others) log stores ends = absurd ends
  behind_placed l m s t (stuck at cells) (done b) log stores ends = absurd ends
  behind_placed l m s t (stuck at cells) (stuck at_other others) log stores ends = ends

  then_placed : (o p : Outcome) (next next_other : Cells → ℕ → Outcome) → EndPlaced place o p →
      ((cells others : Cells) (n : ℕ) → ArePlaced place cells others → EndPlaced place (next cells n) (next_other others n)) →
      EndPlaced place (then_run o next) (then_run p next_other)
  then_placed (done a) (done b) next next_other ends same =
      behind_placed a.log b.log a.stores b.stores (next a.cells a.steps) (next_other b.cells b.steps) ends.2 ends.3
      (subst (λ n. EndPlaced place (next a.cells a.steps) (next_other b.cells n)) ends.1 (same a.cells b.cells a.steps ends.0))
  then_placed (done a) (stuck at others) next next_other ends same = absurd ends
  then_placed (stuck at cells) (done b) next next_other ends same = absurd ends
  then_placed (stuck at cells) (stuck at_other others) next next_other ends same = ends

  calls_under : (f : ℕ) (log : List LoggedCall) → map (placed_call place) (map (call_under f) log) ≡ map (call_under (place f)) log
  calls_under f [] = refl
  calls_under f (c ∷ log) = ap (λ rest. call_under (place f) c ∷ rest) (calls_under f log)

  stores_under : (f : ℕ) (stores : List StoredField) → map (placed_store place) (map (store_under f) stores)
      ≡ map (store_under (place f)) stores
  stores_under f [] = refl
  stores_under f (s ∷ stores) = ap (λ rest. store_under (place f) s ∷ rest) (stores_under f stores)

  params_same : (target : Target) (r q : Routine) → DoesPlaced place target r q → r.params ≡ q.params
  params_same OwnTarget r q same = same.0
  params_same (ChildTarget f) r q same = ap (λ (x : Routine). x.params) same

  module _ (apart : (f g : ℕ) → place f ≡ place g → f ≡ g) where
    -- ---- What is set

    set_placed : (cells others : Cells) (f : ℕ) (c : Cell) → ArePlaced place cells others →
        ArePlaced place (set_cell cells f c) (set_cell others (place f) c)
    set_placed cells others f c are = record {
      stands = λ g. elim (eqb_tells f g) [
        | inl same ↦ subst (λ h. cell_at (set_cell others (place f) c) (place h) ≡ cell_at (set_cell cells f c) h) same.1 here
        | inr other ↦ in_others.others (place g) (λ e. other.1 (apart f g e)) ∙ are.stands g ∙ sym (in_cells.others g other.1)
      ];
      there = λ g. (
        (λ h. let old : g < cells_count cells = omega (arith, h, in_cells.count) in let new =
            (are.there g).0 old in omega (arith, new, in_others.count)),
        (λ h. let old : place g < cells_count others = omega (arith, h, in_others.count) in let new =
            (are.there g).1 old in omega (arith, new, in_cells.count)),
      );
    }
      where
        in_cells : IsFieldSet cells f c
        in_cells = fields_are_set cells f c

        in_others : IsFieldSet others (place f) c
        in_others = fields_are_set others (place f) c

        here : cell_at (set_cell others (place f) c) (place f) ≡ cell_at (set_cell cells f c) f
        here = elim (cases_lt f (cells_count cells)) [
          | inl inside ↦ in_others.here ((are.there f).0 inside) ∙ sym (in_cells.here inside)
          | inr past ↦
              ap (λ x. cell_at x (place f)) (past_end others (place f) c
              (λ h. let inside = (are.there f).1 h in omega (arith, inside, past)))
              ∙ are.stands f ∙ sym (ap (λ x. cell_at x f) (past_end cells f c (λ h. omega (arith, h, past))))
        ]

    store_placed : (line : ℕ) (t u : CType) (f : ℕ) (v : ℤ) (cells others : Cells) (n : ℕ) → u ≡ t → ArePlaced place cells others →
        EndPlaced place (store line t f v cells n) (store line u (place f) v others n)
    store_placed line t u f v cells others n is are =
        subst (λ w. EndPlaced place (store line t f v cells n) (store line w (place f) v others n)) (sym is) (by (is_in_type t v))
      where
        by : (b : Bool) → EndPlaced place
            (if b then done (record {
              cells = set_cell cells f (number v);
              steps = n;
              log = [];
              stores =
                  record { path = []; field = f } ∷ [];
            }) else stuck (stuck_at line Range) cells)
            (if b then done (record {
              cells = set_cell others (place f) (number v);
              steps = n;
              log = [];
              stores =
                  record { path = []; field = place f } ∷ [];
            }) else stuck (stuck_at line Range) others)
        by true = (set_placed cells others f (number v) are, refl, refl, refl)
        by false = (refl, are)

    item_placed : (line : ℕ) (t u : CType) (f i : ℕ) (v : ℤ) (cells others : Cells) (n : ℕ) → u ≡ t → ArePlaced place cells others →
        EndPlaced place (store_at line t f i v cells n) (store_at line u (place f) i v others n)
    item_placed line t u f i v cells others n is are =
        subst (λ w. EndPlaced place (store_at line t f i v cells n) (store_at line w (place f) i v others n)) (sym is) (by (is_in_type t v))
      where
        set : ArePlaced place (set_cell cells f (items (set_item (items_at cells f) i v)))
            (set_cell others (place f) (items (set_item (items_at others (place f)) i v)))
        set = subst (λ xs. ArePlaced place (set_cell cells f (items (set_item (items_at cells f) i v)))
            (set_cell others (place f) (items (set_item xs i v))))
            (sym (ap cell_items (are.stands f))) (set_placed cells others f (items (set_item (items_at cells f) i v)) are)

        by : (b : Bool) → EndPlaced place
            (if b then done (record {
              cells = set_cell cells f (items (set_item (items_at cells f) i v));
              steps = n;
              log = [];
              stores =
                  record { path = []; field = f } ∷ [];
            }) else stuck (stuck_at line Range) cells)
            (if b then done (record {
              cells = set_cell others (place f) (items (set_item (items_at others (place f)) i v));
              steps =
                  n;
              log = [];
              stores = record { path = []; field = place f } ∷ [];
            }) else stuck (stuck_at line Range) others)
        by true = (set, refl, refl, refl)
        by false = (refl, are)

    in_child_placed : (f : ℕ) (cells others : Cells) (o : Outcome) → ArePlaced place cells others →
        EndPlaced place (in_child f cells o) (in_child (place f) others o)
    in_child_placed f cells others (done a) are =
        (set_placed cells others f (object a.cells) are, refl, calls_under f a.log, stores_under f a.stores)
    in_child_placed f cells others (stuck at inner) are = (refl, set_placed cells others f (object inner) are)

    target_placed : (target : Target) (r q : Routine) → DoesPlaced place target r q → (values : List ℤ) (cells others : Cells) (n : ℕ) →
        ArePlaced place cells others →
        EndPlaced place (on_target target (r.run values) cells n) (on_target (placed_target place target) (q.run values) others n)
    target_placed OwnTarget r q same values cells others n are = same.1 values cells others n are
    target_placed (ChildTarget f) r q same values cells others n are =
        subst (λ (x : Routine). EndPlaced place (in_child f cells (r.run values (fields_at cells f) n))
        (in_child (place f) others (x.run values (fields_at others (place f)) n))) same
        (subst (λ inner. EndPlaced place (in_child f cells (r.run values (fields_at cells f) n))
        (in_child (place f) others (r.run values inner n)))
        (sym (ap cell_fields (are.stands f))) (in_child_placed f cells others (r.run values (fields_at cells f) n) are))

    -- ---- Statements

    module _ (s : Scope) (routines : List Routine) (types : List CType)
        (typed : (f : ℕ) → type_at types (place f) ≡ type_at s.types f) where
      abbrev other_scope : Scope
      other_scope = record { functions = s.functions; routines = routines; types = types; values = s.values }

      abbrev Does : ℕ → Target → Type 0
      Does k target = DoesPlaced place target (routine_at s.routines k) (routine_at routines k)

      mutual
        stmt_placed : (x : StmtTree) → Calls Does x → (cells others : Cells) (steps : ℕ) → ArePlaced place cells others →
            EndPlaced place (run_stmt s x cells steps) (run_stmt other_scope (placed_stmt place x) others steps)
        stmt_placed (assign line f e) calls cells others steps are =
            begin_placed line cells others steps
            (λ n. on_answer (eval s.functions (reads s.values cells) line e n) cells
            (λ v end. store line (type_at s.types f) f v cells end))
            (λ n. on_answer (eval s.functions (reads s.values others) line (placed_expr place e) n) others
            (λ v end. store line (type_at types (place f)) (place f) v others end))
            are (λ n. answer_placed (eval s.functions (reads s.values cells) line e n)
            (eval s.functions (reads s.values others) line (placed_expr place e) n) cells others
            (λ v end. store line (type_at s.types f) f v cells end)
            (λ v end. store line (type_at types (place f)) (place f) v others end) are
            (ap (λ g. g n) (sym (eval_placed s.values cells others are s.functions line e)))
            (λ v end. store_placed line (type_at s.types f) (type_at types (place f)) f v cells others end (typed f) are))
        stmt_placed (assign_at line f index e) calls cells others steps are =
            begin_placed line cells others steps (λ n. on_answer (at n) cells value) (λ n. on_answer (at_other n) others value_other)
            are (λ n. answer_placed (at n) (at_other n) cells others value value_other are
            (sym (λ i. and_then (eval_placed s.values cells others are s.functions line index i n)
            (index_in line (array_placed s.values cells others are f i))))
            (λ k mid. answer_placed (eval s.functions (reads s.values cells) line e mid)
            (eval s.functions (reads s.values others) line (placed_expr place e) mid) cells others
            (λ v end. store_at line (type_at s.types f) f k v cells end)
            (λ v end. store_at line (type_at types (place f)) (place f) k v others end) are
            (ap (λ g. g mid) (sym (eval_placed s.values cells others are s.functions line e)))
            (λ v end. item_placed line (type_at s.types f) (type_at types (place f)) f k v cells others end (typed f) are)))
          where
            at : ℕ → Answer ℕ
            at n = and_then (eval s.functions (reads s.values cells) line index n) (index_in line (items_at cells f))

            at_other : ℕ → Answer ℕ
            at_other n = and_then (eval s.functions (reads s.values others) line (placed_expr place index) n)
                (index_in line (items_at others (place f)))

            value : ℕ → ℕ → Outcome
            value k mid = on_answer (eval s.functions (reads s.values cells) line e mid) cells
                (λ v end. store_at line (type_at s.types f) f k v cells end)

            value_other : ℕ → ℕ → Outcome
            value_other k mid = on_answer (eval s.functions (reads s.values others) line (placed_expr place e) mid) others
                (λ v end. store_at line (type_at types (place f)) (place f) k v others end)
        stmt_placed (branch line test on_true on_false) calls cells others steps are =
            begin_placed line cells others steps
            (λ n. on_answer (eval_cond s.functions (reads s.values cells) line test n) cells chosen)
            (λ n. on_answer (eval_cond s.functions (reads s.values others) line (placed_cond place test) n) others chosen_other)
            are (λ n. answer_placed (eval_cond s.functions (reads s.values cells) line test n)
            (eval_cond s.functions (reads s.values others) line (placed_cond place test) n) cells others
            chosen chosen_other are (ap (λ g. g n) (sym (cond_placed s.values cells others are s.functions line test)))
            (choice_placed (run_stmts s on_true) (run_stmts s on_false) (run_stmts other_scope (placed_stmts place on_true))
            (run_stmts other_scope (placed_stmts place on_false)) cells others
            (λ m. stmts_placed on_true calls.0 cells others m are) (λ m. stmts_placed on_false calls.1 cells others m are)))
          where
            chosen : Bool → ℕ → Outcome
            chosen holds = (if holds then run_stmts s on_true else run_stmts s on_false) cells

            chosen_other : Bool → ℕ → Outcome
            chosen_other holds = (if holds then run_stmts other_scope (placed_stmts place on_true)
                else run_stmts other_scope (placed_stmts place on_false)) others
        stmt_placed (call line k target es) calls cells others steps are =
            begin_placed line cells others steps
            (λ n. on_answer (passed n) cells next) (λ n. on_answer (passed_other n) others next_other)
            are (λ n. answer_placed (passed n) (passed_other n) cells others next next_other are
            (ap (λ ts. arguments s.functions (reads s.values cells) line ts es n)
            (params_same target (routine_at s.routines k) (routine_at routines k) calls)
            ∙ ap (λ g. g n) (sym (arguments_placed s.values cells others are s.functions line (routine_at routines k).params es)))
            (λ values m. target_placed target (routine_at s.routines k) (routine_at routines k) calls values cells others m are))
          where
            passed : ℕ → Answer (List ℤ)
            passed n = arguments s.functions (reads s.values cells) line (routine_at s.routines k).params es n

            passed_other : ℕ → Answer (List ℤ)
            passed_other n = arguments s.functions (reads s.values others) line (routine_at routines k).params (placed_exprs place es) n

            next : List ℤ → ℕ → Outcome
            next values = on_target target ((routine_at s.routines k).run values) cells

            next_other : List ℤ → ℕ → Outcome
            next_other values = on_target (placed_target place target) ((routine_at routines k).run values) others

        stmts_placed : (xs : StmtTrees) → AllCalls Does xs → (cells others : Cells) (steps : ℕ) → ArePlaced place cells others →
            EndPlaced place (run_stmts s xs cells steps) (run_stmts other_scope (placed_stmts place xs) others steps)
        stmts_placed no_stmts calls cells others steps are = (are, refl, refl, refl)
        stmts_placed (more_stmts x xs) calls cells others steps are =
            then_placed (run_stmt s x cells steps) (run_stmt other_scope (placed_stmt place x) others steps) (run_stmts s xs)
            (run_stmts other_scope (placed_stmts place xs))
            (stmt_placed x calls.0 cells others steps are) (λ c d n there. stmts_placed xs calls.1 c d n there)

pub field_numbers_are_free : FieldNumbersAreFree
field_numbers_are_free place apart scope routines types typed stmts calls cells others steps are =
    stmts_placed place apart scope routines types typed stmts calls cells others steps are
