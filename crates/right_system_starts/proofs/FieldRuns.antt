-- A run of a start or a reset, field by field.
use Rattle.std.specs.Prelude.{◌≡◌, ℕ, zero, suc, ◌+◌, ◌<◌, ◌≤◌, Bool, true, false, if◌then◌else◌, List, [], ◌∷◌, ◌++◌, map, slice_index_or, ℤ, pos, ⊤, refl}
use Rattle.std.proofs.Common.{sym, ap, subst, ◌∙◌, arith}
use Rattle.std.proofs.lemmas.Bool.{lt-ltb}
use Rattle.modules_profile.specs.declared.ChildUse.{ChildUse}
use Rattle.modules_profile.specs.LocalSystem.{LocalSystem}
use Rattle.c_syntax.specs.declared.CType.{CType}
use Rattle.c_syntax.specs.declared.CType.TheVariants.{I8}
use Rattle.c_syntax.specs.declared.Target.TheVariants.{Child}
use Rattle.c_syntax.specs.Tree.{ExprTree, StmtTree, assign, call, no_exprs, stmts_of_list, type_at}
use Rattle.c_semantics.specs.Cells.{Cell, number, items, object, Cells, no_cells, more_cells, cell_at, set_cell, fields_at, cell_fields}
use Rattle.c_semantics.specs.CellLaws.{cells_count}
use Rattle.c_semantics.specs.RunLaws.{after_store}
use Rattle.c_semantics.specs.Values.{eval, gives, reads, is_in_type, step_limit}
use Rattle.c_semantics.specs.Machine.{LoggedCall, StoredField, Outcome, done, stuck, behind, then_run, in_child, call_under, Scope, run_stmt, run_stmts, routine_at}
use Rattle.emit_row_code.specs.RowCode.{written, nought}
use Rattle.emit_shape.specs.RowStarts.{row_start}
use Rattle.emit_shape.specs.Slots.{Slot, value, memory, ring_items, ring_place, ring_taken, trigger, counter, instance, filler}
use Rattle.right_relation.specs.Forms.{no_forms, HasForm, HasForms, slot_form, slot_forms}
use Rattle.right_relation.specs.Instances.{Offered, OnDone}
use Rattle.right_relation.specs.Renewals.{Renewal, renewal_at, Renews}
use Rattle.right_system_starts.proofs.FieldCode.{field_code, fields_code, renewed_cell, renewed_cells, field_steps, fields_steps}

-- ---- Fields one after the other

abbrev pub joined_cells : Cells → Cells → Cells
joined_cells no_cells later = later
joined_cells (more_cells c cells) later = more_cells c (joined_cells cells later)

abbrev one : Cell → Cells
one c = more_cells c no_cells

joined-one : (first : Cells) (c : Cell) (later : Cells) →
    joined_cells (joined_cells first (one c)) later ≡ joined_cells first (more_cells c later)
joined-one no_cells c later = refl
joined-one (more_cells b first) c later = ap (more_cells b) (joined-one first c later)

count-one : (first : Cells) (c : Cell) → cells_count (joined_cells first (one c)) ≡ cells_count first + 1
count-one no_cells c = refl
count-one (more_cells b first) c = let rest = count-one first c in omega (arith, rest)

set-behind : (first : Cells) (b c : Cell) (later : Cells) →
    set_cell (joined_cells first (more_cells b later)) (cells_count first) c ≡ joined_cells first (more_cells c later)
set-behind no_cells b c later = refl
set-behind (more_cells d first) b c later = ap (more_cells d) (set-behind first b c later)

at-behind : (first : Cells) (b : Cell) (later : Cells) → cell_at (joined_cells first (more_cells b later)) (cells_count first) ≡ b
at-behind no_cells b later = refl
at-behind (more_cells d first) b later = at-behind first b later

-- ---- What an execution leaves

-- it is done with these fields, within so many steps, and logs nothing
abbrev pub Leaves : Outcome → Cells → ℕ → Type 0
Leaves o cells steps = OnDone o (λ a. (a.cells ≡ cells) × (a.steps ≤ steps) × (a.log ≡ []))

later-leaves : (o : Outcome) (cells : Cells) (m n : ℕ) → m ≤ n → Leaves o cells m → Leaves o cells n
later-leaves (done a) cells m n less h = (h.0, (let few = h.1 in omega (arith, few, less)), h.2)
later-leaves (stuck at left) cells m n less h = h

pub behind-leaves : (log : List LoggedCall) (stores : List StoredField) (o : Outcome) (cells : Cells) (n : ℕ) → log ≡ [] →
    Leaves o cells n → Leaves (behind log stores o) cells n
behind-leaves log stores (done a) cells n none h = (h.0, h.1, ap (λ l. l ++ a.log) none ∙ h.2)
behind-leaves log stores (stuck at left) cells n none h = h

nothing-under : (f : ℕ) (log : List LoggedCall) → log ≡ [] → map (call_under f) log ≡ []
nothing-under f log none = ap (map (call_under f)) none

-- what goes on after a call on the instance in a field
child-leaves : (f : ℕ) (cells : Cells) (o : Outcome) (inner : Cells) (m : ℕ) (go : Cells → ℕ → Outcome) (final : Cells) (n : ℕ) →
    Leaves o inner m →
    ((count : ℕ) → count ≤ m → Leaves (go (set_cell cells f (object inner)) count) final n) →
    Leaves (then_run (in_child f cells o) go) final n
child-leaves f cells (done a) inner m go final n h later =
    behind-leaves (map (call_under f) a.log) _ (go (set_cell cells f (object a.cells)) a.steps) final n (nothing-under f a.log h.2)
    (subst (λ c. Leaves (go (set_cell cells f (object c)) a.steps) final n) (sym h.0) (later a.steps h.1))
child-leaves f cells (stuck at left) inner m go final n h later = absurd h

-- ---- Statements

pub zero-fits : (type : CType) → is_in_type type (pos 0) ≡ true
zero-fits I8 = refl
zero-fits _ = refl

pub forms-at : (children : List Renewal) (k : ℕ) → slice_index_or (map (λ n. n.forms) children) k no_forms ≡ (renewal_at children k).forms
forms-at [] k = refl
forms-at (n ∷ children) zero = refl
forms-at (n ∷ children) (suc k) = forms-at children k

-- the fields that a child has
pub inside-forms : (children : List Renewal) (k : ℕ) (u : ChildUse) (c : Cell) →
    HasForm (slot_form (map (λ n. n.forms) children) (instance k u)) c →
    HasForms (renewal_at children k).forms (cell_fields c)
inside-forms children k u (number v) h = absurd h
inside-forms children k u (items vs) h = absurd h
inside-forms children k u (object cells) h = subst (λ forms. HasForms forms cells) (forms-at children k) h

module _ (all : Bool) (local : LocalSystem) (callee : ℕ → ChildUse → ℕ) (children : List Renewal) (scope : Scope) where
  -- what an expression comes to, and that the field at a position can hold it
  pub record Stores (f : ℕ) (e : ExprTree) (v : ℤ) : Type 0 where
    pub comes_to : (cells : Cells) (steps : ℕ) → eval scope.functions (reads scope.values cells) 0 e steps ≡ gives v steps
    pub fits : is_in_type (type_at scope.types f) v ≡ true

  -- the procedure of a child renews it
  pub record RenewsChild (k : ℕ) (u : ChildUse) : Type 0 where
    pub procedure : Offered
    pub stands : routine_at scope.routines (callee k u) ≡ procedure.routine
    pub renews : Renews procedure (renewal_at children k)

  -- what a field's code rests on
  abbrev pub IsReady : ℕ → Slot → Type 0
  IsReady f (value r) = Stores f (written (row_start local r)) (row_start local r)
  IsReady f (memory r) = Stores f (written (row_start local r)) (row_start local r)
  IsReady f (instance k u) = RenewsChild k u
  IsReady f _ = ⊤

  abbrev pub AreReady : ℕ → List Slot → Type 0
  AreReady f [] = ⊤
  AreReady f (s ∷ slots) = IsReady f s × AreReady (f + 1) slots

  abbrev rest_code : ℕ → List Slot → Cells → ℕ → Outcome
  rest_code f slots = run_stmts scope (stmts_of_list (fields_code all local callee f slots))

  abbrev made : Slot → Cell → Cell
  made = renewed_cell all local children

  abbrev made_all : List Slot → Cells → Cells
  made_all = renewed_cells all local children

  abbrev cost : Slot → ℕ
  cost = field_steps all local children

  abbrev costs : List Slot → ℕ
  costs = fields_steps all local children

  stored : (f : ℕ) (e : ExprTree) (v : ℤ) (cells : Cells) (steps : ℕ) → Stores f e v → steps < step_limit →
      run_stmt scope (assign 0 f e) cells steps ≡ after_store (set_cell cells f (number v)) (steps + 1) f
  stored f e v cells steps h room = rw (lt-ltb steps step_limit room, h.comes_to cells (steps + 1), h.fits) refl

  called : (f k : ℕ) (cells : Cells) (steps : ℕ) → steps < step_limit →
      run_stmt scope (call 0 k (Child f) no_exprs) cells steps
      ≡ in_child f cells ((routine_at scope.routines k).run [] (fields_at cells f) (steps + 1))
  called f k cells steps room = rw (lt-ltb steps step_limit room) refl

  noughted : (f : ℕ) → Stores f nought (pos 0)
  noughted f = record { comes_to = λ cells steps. refl; fits = zero-fits (type_at scope.types f) }

  -- ---- Field by field

  -- what the code of the later fields leaves
  abbrev Continues : ℕ → List Slot → Cells → Cells → Type 0
  Continues f slots first rest = (c : Cell) (n : ℕ) → n + costs slots ≤ step_limit →
      Leaves (rest_code (f + 1) slots (joined_cells first (more_cells c rest)) n)
      (joined_cells first (more_cells c (made_all slots rest))) (n + costs slots)

  module _ (f : ℕ) (slots : List Slot) (first : Cells) (b : Cell) (rest : Cells) (steps : ℕ) (at : cells_count first ≡ f)
      (goes : Continues f slots first rest) where
    abbrev Ends : List StmtTree → Cell → ℕ → Type 0
    Ends code c n = Leaves (run_stmts scope (stmts_of_list (code ++ fields_code all local callee (f + 1) slots))
        (joined_cells first (more_cells b rest)) steps)
        (joined_cells first (more_cells c (made_all slots rest))) (steps + (n + costs slots))

    put : (c : Cell) → set_cell (joined_cells first (more_cells b rest)) f c ≡ joined_cells first (more_cells c rest)
    put c = subst (λ k. set_cell (joined_cells first (more_cells b rest)) k c ≡ joined_cells first (more_cells c rest)) at
        (set-behind first b c rest)

    found : fields_at (joined_cells first (more_cells b rest)) f ≡ cell_fields b
    found = ap cell_fields (subst (λ k. cell_at (joined_cells first (more_cells b rest)) k ≡ b) at (at-behind first b rest))

    nothing : steps + (0 + costs slots) ≤ step_limit → Ends [] b 0
    nothing room = later-leaves _ _ (steps + costs slots) (steps + (0 + costs slots)) (omega arith) (goes b steps (omega (arith, room)))

    store : (e : ExprTree) (v : ℤ) → Stores f e v → steps + (1 + costs slots) ≤ step_limit → Ends (assign 0 f e ∷ []) (number v) 1
    store e v h room =
        subst (λ o. Leaves (then_run o (rest_code (f + 1) slots)) (joined_cells first (more_cells (number v) (made_all slots rest)))
        (steps + (1 + costs slots)))
        (sym (stored f e v (joined_cells first (more_cells b rest)) steps h (omega (arith, room))))
        (behind-leaves [] (record { path = []; field = f } ∷ [])
        (rest_code (f + 1) slots (set_cell (joined_cells first (more_cells b rest)) f (number v)) (steps + 1)) _ _ refl
        (subst (λ cells. Leaves (rest_code (f + 1) slots cells (steps + 1))
        (joined_cells first (more_cells (number v) (made_all slots rest))) (steps + (1 + costs slots)))
        (sym (put (number v))) (later-leaves _ _ (steps + 1 + costs slots) (steps + (1 + costs slots)) (omega arith)
        (goes (number v) (steps + 1) (omega (arith, room))))))

    child : (k : ℕ) (u : ChildUse) → RenewsChild k u → HasForm (slot_form (map (λ n. n.forms) children) (instance k u)) b →
        steps + (1 + (renewal_at children k).most + costs slots) ≤ step_limit →
        Ends (call 0 (callee k u) (Child f) no_exprs ∷ []) (made (instance k u) b) (1 + (renewal_at children k).most)
    child k u h has room =
        let n = renewal_at children k in
        let whole = joined_cells first (more_cells b rest) in
        let inner = n.renewed (cell_fields b) in
        subst (λ o. Leaves (then_run o (rest_code (f + 1) slots)) (joined_cells first (more_cells (object inner) (made_all slots rest)))
        (steps + (1 + n.most + costs slots)))
        (sym (called f (callee k u) whole steps (omega (arith, room))))
        (child-leaves f whole ((routine_at scope.routines (callee k u)).run [] (fields_at whole f) (steps + 1)) inner (steps + 1 + n.most)
        (rest_code (f + 1) slots) _ _
        (subst (λ r. Leaves (r.run [] (fields_at whole f) (steps + 1)) inner (steps + 1 + n.most)) (sym h.stands)
        (subst (λ cells. Leaves (h.procedure.routine.run [] cells (steps + 1)) inner (steps + 1 + n.most)) (sym found)
        (h.renews.does (cell_fields b) (steps + 1) (inside-forms children k u b has) (omega (arith, room)))))
        (λ count few. subst (λ cells. Leaves (rest_code (f + 1) slots cells count)
        (joined_cells first (more_cells (object inner) (made_all slots rest))) (steps + (1 + n.most + costs slots)))
        (sym (put (object inner))) (later-leaves _ _ (count + costs slots) (steps + (1 + n.most + costs slots)) (omega (arith, few))
        (goes (object inner) count (omega (arith, few, room))))))

    field : (s : Slot) → IsReady f s → HasForm (slot_form (map (λ n. n.forms) children) s) b → steps + (cost s + costs slots) ≤ step_limit →
        Ends (field_code all local callee f s) (made s b) (cost s)
    field (value r) ready has = by all
      where
        by : (t : Bool) → steps + ((if t then 1 else 0) + costs slots) ≤ step_limit →
            Ends (if t then assign 0 f (written (row_start local r)) ∷ [] else []) (if t then number (row_start local r) else b)
            (if t then 1 else 0)
        by true room = store (written (row_start local r)) (row_start local r) ready room
        by false room = nothing room
    field (memory r) ready has = store (written (row_start local r)) (row_start local r) ready
    field (ring_items r) ready has = nothing
    field (ring_place r) ready has = store nought (pos 0) (noughted f)
    field (ring_taken r) ready has = store nought (pos 0) (noughted f)
    field trigger ready has = store nought (pos 0) (noughted f)
    field (counter name type) ready has = by all
      where
        by : (t : Bool) → steps + ((if t then 1 else 0) + costs slots) ≤ step_limit →
            Ends (if t then assign 0 f nought ∷ [] else []) (if t then number (pos 0) else b) (if t then 1 else 0)
        by true room = store nought (pos 0) (noughted f) room
        by false room = nothing room
    field (instance k u) ready has = child k u ready has
    field filler ready has = nothing

  fields : (slots : List Slot) (f : ℕ) (first rest : Cells) (steps : ℕ) → cells_count first ≡ f → AreReady f slots →
      HasForms (slot_forms (map (λ n. n.forms) children) slots) rest → steps + costs slots ≤ step_limit →
      Leaves (rest_code f slots (joined_cells first rest) steps) (joined_cells first (made_all slots rest)) (steps + costs slots)
  fields [] f first no_cells steps at ready has room = (refl, omega arith, refl)
  fields [] f first (more_cells c rest) steps at ready has room = absurd has
  fields (s ∷ slots) f first no_cells steps at ready has room = absurd has
  fields (s ∷ slots) f first (more_cells b rest) steps at ready has room =
      field f slots first b rest steps at
      (λ c n few. subst (λ cells. Leaves (rest_code (f + 1) slots cells n) (joined_cells first (more_cells c (made_all slots rest)))
      (n + costs slots)) (joined-one first c rest)
      (subst (λ cells. Leaves (rest_code (f + 1) slots (joined_cells (joined_cells first (one c)) rest) n) cells (n + costs slots))
      (joined-one first c (made_all slots rest))
      (fields slots (f + 1) (joined_cells first (one c)) rest n (count-one first c ∙ ap (λ k. k + 1) at) ready.1 has.1 few)))
      s ready.0 has.0 room

  -- the code of all fields makes of them what it should
  pub fields_are_renewed : (slots : List Slot) (before : Cells) (steps : ℕ) → AreReady 0 slots →
      HasForms (slot_forms (map (λ n. n.forms) children) slots) before → steps + costs slots ≤ step_limit →
      Leaves (rest_code 0 slots before steps) (made_all slots before) (steps + costs slots)
  fields_are_renewed slots before steps ready has room = fields slots 0 no_cells before steps refl ready has room
