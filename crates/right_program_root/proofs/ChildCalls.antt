-- Calls on the instance in a field, one after another.
use Rattle.std.specs.Prelude.{◌≡◌, ◌≢◌, ℕ, suc, ◌+◌, ◌<◌, ◌≤◌, Bool, ◌&&◌, ◌==◌, if◌then◌else◌, List, [], ◌∷◌, ◌++◌, map, length, ℤ, refl}
use Rattle.std.proofs.Common.{sym, ap, subst, ◌∙◌, arith}
use Rattle.std.proofs.lemmas.Bool.{eq-eqb}
use Rattle.std.proofs.lemmas.List.{map-append}
use Rattle.std.proofs.lemmas.List.Sums.{sum_by-cons, sum_by-append}
use Rattle.c_syntax.specs.declared.Target.TheVariants.{Child}
use Rattle.c_syntax.specs.Tree.{ExprTrees, StmtTree, call, stmts_of_list}
use Rattle.c_semantics.specs.Cells.{Cells, object, cell_fields, cell_at, fields_at}
use Rattle.c_semantics.specs.CellLaws.{cells_count}
use Rattle.c_semantics.specs.Values.{gives, step_limit}
use Rattle.c_semantics.specs.Machine.{LoggedCall, StoredField, After, Outcome, done, stuck, behind, then_run, in_child, call_under, store_under, Scope, run_stmt, run_stmts, routine_at}
use Rattle.c_semantics.specs.CallLaws.{passed_in}
use Rattle.c_semantics.proofs.lemmas.CellLaws.{fields_are_set}
use Rattle.c_semantics.proofs.lemmas.CallLaws.{child_calls_stay_inside}
use Rattle.right_relation.specs.Instances.{Act, out, update, called_after, InstanceTick, fields_after, same_path, stores_at, OnDone, Leaves, Performs}
use Rattle.right_relation.specs.Accounts.{log_along, most_along, stored_along}
use Rattle.right_linking.specs.Lives.{whole_tick}

-- ---- Stores under a field

pub stores_at-append : (path : List ℕ) (field : ℕ) (xs ys : List StoredField) →
    stores_at path field (xs ++ ys) ≡ stores_at path field xs + stores_at path field ys
stores_at-append path field xs ys = sum_by-append _ xs ys

pub stores-under : (f : ℕ) (path : List ℕ) (field : ℕ) (xs : List StoredField) → stores_at (f ∷ path) field (map (store_under f) xs)
    ≡ stores_at path field xs
stores-under f path field [] = refl
stores-under f path field (x ∷ xs) =
    sum_by-cons (λ st. if same_path (f ∷ path) st.path && (st.field == field) then 1 else 0) (store_under f x) (map (store_under f) xs)
    ∙ ap (λ b. (if (b && same_path path x.path) && (x.field == field) then 1 else 0) + stores_at (f ∷ path) field
    (map (store_under f) xs)) (eq-eqb f f refl)
    ∙ ap (λ n. (if same_path path x.path && (x.field == field) then 1 else 0) + n) (stores-under f path field xs)
    ∙ sym (sum_by-cons (λ st. if same_path path st.path && (st.field == field) then 1 else 0) x xs)

-- ---- What is left

-- the fields of before, but that the instance in field f has these
pub record IsWith (f : ℕ) (before fields after : Cells) : Type 0 where
  pub count : cells_count after ≡ cells_count before
  pub inside : fields_at after f ≡ fields
  pub others : (g : ℕ) → f ≢ g → cell_at after g ≡ cell_at before g

-- an execution leaves these, in so many steps at most, with this log and these stores inside the instance
pub record Comes (f : ℕ) (before fields : Cells) (steps : ℕ) (log : List LoggedCall) (stored : List ℕ → ℕ → ℕ) (a : After) : Type 0 where
  pub stands : IsWith f before fields a.cells
  pub in_time : a.steps ≤ steps
  pub calls : a.log ≡ map (call_under f) log
  pub stores : (path : List ℕ) (field : ℕ) → stores_at (f ∷ path) field a.stores ≤ stored path field

with-then : (f : ℕ) (first mid second third last : Cells) → IsWith f first mid second → IsWith f second third last →
    IsWith f first third last
with-then f first mid second third last one two = record {
  count = two.count ∙ one.count;
  inside = two.inside;
  others = λ g apart. two.others g apart ∙ one.others g apart;
}

-- what is done goes on
pub on_then : (o : Outcome) (go : Cells → ℕ → Outcome) (P Q : After → Type 0) → OnDone o P →
    ((a : After) → P a → OnDone (behind a.log a.stores (go a.cells a.steps)) Q) → OnDone (then_run o go) Q
on_then (done a) go P Q has next = next a has
on_then (stuck at cells) go P Q has next = has

pub on_behind : (log : List LoggedCall) (stores : List StoredField) (o : Outcome) (P Q : After → Type 0) → OnDone o P →
    ((a : After) → P a → Q (record { cells = a.cells; steps = a.steps; log = log ++ a.log; stores = stores ++ a.stores })) →
    OnDone (behind log stores o) Q
on_behind log stores (done a) P Q has next = next a has
on_behind log stores (stuck at cells) P Q has next = has

-- these functions may be called in this order, and then the update
abbrev pub AllMay : ((ℕ → Bool) → Act → Type 0) → (ℕ → Bool) → List ℕ → Type 0
AllMay May called [] = May called update
AllMay May called (j ∷ js) = May called (out j) × AllMay May (called_after called (out j)) js

-- ---- One call

module _ (scope : Scope) (f : ℕ) where
  left : (cells : Cells) (below : f < cells_count cells) (after : Cells) (steps most : ℕ) (log : List LoggedCall)
      (stored : List ℕ → ℕ → ℕ) (o : Outcome) →
      OnDone o (Leaves after (steps + 1 + most) log stored) →
      OnDone (in_child f cells o) (Comes f cells after (steps + (1 + most)) log stored)
  left cells below after steps most log stored (stuck at inner) leaves = leaves
  left cells below after steps most log stored (done a) leaves =
      let set = fields_are_set cells f (object a.cells) in
      record {
        stands = record { count = set.count; inside = ap cell_fields (set.here below) ∙ leaves.fields; others = set.others };
        in_time = let early = leaves.in_time in omega (arith, early);
        calls = ap (map (call_under f)) leaves.calls;
        stores = λ path field. subst (λ n. n ≤ stored path field) (sym (stores-under f path field a.stores)) (leaves.stores path field);
      }

  pub one_call : (k : ℕ) (es : ExprTrees) (values : List ℤ) (before after : Cells) (most : ℕ) (log : List LoggedCall)
      (stored : List ℕ → ℕ → ℕ) (cells : Cells) (steps : ℕ) →
      f < cells_count cells → fields_at cells f ≡ before → passed_in scope cells 0 (steps + 1) k es ≡ gives values (steps + 1) →
      Performs (routine_at scope.routines k) values before after most log stored → steps + (1 + most) ≤ step_limit →
      OnDone (run_stmt scope (call 0 k (Child f) es) cells steps) (Comes f cells after (steps + (1 + most)) log stored)
  one_call k es values before after most log stored cells steps below stands passes performs room =
      subst (λ o. OnDone o (Comes f cells after (steps + (1 + most)) log stored))
      (sym ((child_calls_stay_inside scope 0 k f es cells steps).does values (steps + 1) (omega (arith, room)) passes))
      (left cells below after steps most log stored ((routine_at scope.routines k).run values (fields_at cells f) (steps + 1))
      (subst (λ inner. OnDone ((routine_at scope.routines k).run values inner (steps + 1)) (Leaves after (steps + 1 + most) log stored))
      (sym stands)
      (performs (steps + 1) (omega (arith, room)))))

  -- ---- The calls of a tick

  module _ (i : InstanceTick) (number : Act → ℕ) (given : Act → ExprTrees) (values : Act → List ℤ) (May : (ℕ → Bool) → Act → Type 0)
      (Same : Cells → Type 0)
      (keeps : (before inner after : Cells) → IsWith f before inner after → Same before → Same after)
      (passes : (called : ℕ → Bool) (act : Act) (cells : Cells) (steps : ℕ) → May called act → Same cells →
      passed_in scope cells 0 steps (number act) (given act) ≡ gives (values act) steps)
      (performs : (called : ℕ → Bool) (act : Act) → May called act →
      Performs (routine_at scope.routines (number act)) (values act) (i.standing called) (fields_after i called act) (i.most called act)
      (i.log called act) (i.stored called act)) where
    abbrev pub statement : Act → StmtTree
    statement act = call 0 (number act) (Child f) (given act)

    pub tick_calls : (called : ℕ → Bool) (js : List ℕ) (cells : Cells) (steps : ℕ) → AllMay May called js → f < cells_count cells →
        fields_at cells f ≡ i.standing called → Same cells →
        steps + (suc (length js) + most_along i called (whole_tick js)) ≤ step_limit →
        OnDone (run_stmts scope (stmts_of_list (map statement (whole_tick js))) cells steps)
        (Comes f cells i.after (steps + (suc (length js) + most_along i called (whole_tick js))) (log_along i called (whole_tick js))
        (stored_along i called (whole_tick js)))
    tick_calls called [] cells steps may below stands same room =
        on_then (run_stmt scope (statement update) cells steps) (run_stmts scope (stmts_of_list []))
        (Comes f cells i.after (steps + (1 + i.most called update)) (i.log called update) (i.stored called update)) _
        (one_call (number update) (given update) (values update) (i.standing called) i.after (i.most called update) (i.log called update)
        (i.stored called update) cells steps below stands
        (passes called update cells (steps + 1) may same) (performs called update may) (omega (arith, room)))
        (λ a comes. record {
          stands = comes.stands;
          in_time = let early = comes.in_time in omega (arith, early);
          calls = ap (λ l. l ++ []) comes.calls ∙ sym (map-append (call_under f) (i.log called update) []);
          stores = λ path field. let few = comes.stores path field in let sum = stores_at-append (f ∷ path) field a.stores [] in
              omega (arith, few, sum);
        })
    tick_calls called (j ∷ js) cells steps may below stands same room =
        on_then (run_stmt scope (statement (out j)) cells steps) (run_stmts scope (stmts_of_list (map statement (whole_tick js))))
        (Comes f cells (fields_after i called (out j)) (steps + (1 + i.most called (out j))) (i.log called (out j))
        (i.stored called (out j))) _
        (one_call (number (out j)) (given (out j)) (values (out j)) (i.standing called) (fields_after i called (out j))
        (i.most called (out j)) (i.log called (out j)) (i.stored called (out j)) cells steps below stands
        (passes called (out j) cells (steps + 1) may.0 same) (performs called (out j) may.0) (omega (arith, room)))
        (λ a comes.
        let early = comes.in_time in
        let few = comes.stands.count in
        on_behind a.log a.stores (run_stmts scope (stmts_of_list (map statement (whole_tick js))) a.cells a.steps)
        (Comes f a.cells i.after (a.steps + (suc (length js) + most_along i (called_after called (out j)) (whole_tick js)))
        (log_along i (called_after called (out j)) (whole_tick js)) (stored_along i (called_after called (out j)) (whole_tick js))) _
        (tick_calls (called_after called (out j)) js a.cells a.steps may.1 (omega (arith, below, few)) comes.stands.inside
        (keeps cells (fields_after i called (out j)) a.cells comes.stands same) (omega (arith, room, early)))
        (λ b rest. record {
          stands = with-then f cells (fields_after i called (out j)) a.cells i.after b.cells comes.stands rest.stands;
          in_time = let later = rest.in_time in omega (arith, early, later);
          calls = ap (λ l. l ++ b.log) comes.calls ∙ ap (λ l. map (call_under f) (i.log called (out j)) ++ l) rest.calls
              ∙ sym (map-append (call_under f) (i.log called (out j)) (log_along i (called_after called (out j)) (whole_tick js)));
          stores = λ path field.
              let one = comes.stores path field in
              let two = rest.stores path field in
              let sum = stores_at-append (f ∷ path) field a.stores b.stores in
              omega (arith, one, two, sum);
        }))
