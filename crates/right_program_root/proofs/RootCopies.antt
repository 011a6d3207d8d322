-- The root's own statements after its calls: the copies of the outputs, and the number of the next tick.
use Rattle.std.specs.Prelude.{◌≡◌, ◌≢◌, ◌⊎◌, ℕ, zero, suc, ◌+◌, ◌%◌, ◌/◌, ◌^◌, ◌<◌, ◌≤◌, List, [], ◌∷◌, ◌++◌, map, length, slice_get, Some, ℤ, pos, int_div, unsigned_abs, int_le, ◌≤ℤ◌, Bool, true, false, refl}
use Rattle.std.specs.List.{enumerate_from}
use Rattle.std.proofs.Common.{sym, ap, subst, ◌∙◌, arith, inl, inr}
use Rattle.std.proofs.Math.Nat.{mod-add-mod}
use Rattle.std.proofs.lemmas.Bool.{and_from}
use Rattle.std.proofs.lemmas.Int.{ints}
use Rattle.std.proofs.lemmas.Option.{same_Some, none-some}
use Rattle.c_syntax.specs.declared.BinOp.TheVariants.{Add, Rem}
use Rattle.c_syntax.specs.declared.CType.TheVariants.{I32}
use Rattle.c_syntax.specs.declared.Leaf.TheVariants.{Own, Child}
use Rattle.c_syntax.specs.Tree.{ExprTree, literal, read, binary, StmtTree, assign, more_stmts, stmts_append, stmts_of_list, type_at}
use Rattle.c_semantics.specs.Cells.{Cells, number, cell_value, cell_fields, cell_at, number_at, fields_at}
use Rattle.c_semantics.specs.CellLaws.{cells_count}
use Rattle.c_semantics.specs.Values.{is_in_type, least_of, greatest_of, step_limit, reads}
use Rattle.c_semantics.specs.Machine.{After, Scope, run_stmt, run_stmts}
use Rattle.c_semantics.specs.EvaluationLaws.{Gives}
use Rattle.c_semantics.proofs.lemmas.CellLaws.{fields_are_set}
use Rattle.c_semantics.proofs.lemmas.RunLaws.{numbers_are_stored, sequences_run_in_order}
use Rattle.c_semantics.proofs.lemmas.Runs.{run_stmts-append}
use Rattle.c_semantics.proofs.lemmas.WithoutSteps.{gives_literal, gives_read, gives_add, gives_rem}
use Rattle.right_relation.specs.Instances.{stores_at, OnDone}
use Rattle.right_program_root.proofs.ChildCalls.{stores_at-append, on_then, on_behind}

-- an execution that called nothing and stored nothing inside the instance in field f, in so many steps
pub record Quiet (f steps : ℕ) (a : After) : Type 0 where
  pub in_time : a.steps ≡ steps
  pub calls : a.log ≡ []
  pub stores : (path : List ℕ) (field : ℕ) → stores_at (f ∷ path) field a.stores ≡ 0

-- ---- A store

-- these fields, with this number at one place
pub record IsStored (g : ℕ) (v : ℤ) (before after : Cells) : Type 0 where
  pub count : cells_count after ≡ cells_count before
  pub cell : cell_at after g ≡ number v
  pub here : number_at after g ≡ v
  pub others : (h : ℕ) → g ≢ h → cell_at after h ≡ cell_at before h

pub record Stores (f g : ℕ) (v : ℤ) (before : Cells) (steps : ℕ) (a : After) : Type 0 where
  pub stands : IsStored g v before a.cells
  pub quiet : Quiet f steps a

module _ (scope : Scope) (f : ℕ) where
  pub one_store : (g : ℕ) (e : ExprTree) (v : ℤ) (cells : Cells) (steps : ℕ) → g < cells_count cells →
      Gives scope.functions (reads scope.values cells) 0 e v →
      is_in_type (type_at scope.types g) v ≡ true → steps < step_limit →
      OnDone (run_stmt scope (assign 0 g e) cells steps) (Stores f g v cells (steps + 1))
  one_store g e v cells steps below gives fits room =
      let set = fields_are_set cells g (number v) in
      subst (λ o. OnDone o (Stores f g v cells (steps + 1)))
      (sym ((numbers_are_stored scope 0 g e cells steps).stored v (steps + 1) room (gives (steps + 1)) fits))
      (record {
        stands = record { count = set.count; cell = set.here below; here = ap cell_value (set.here below); others = set.others };
        quiet = record { in_time = refl; calls = refl; stores = λ path field. refl };
      })

  -- ---- The copies of outputs, from the k-th on

  abbrev pub copy : ℕ × ℕ → StmtTree
  copy e = assign 0 (e.0 + 1) (read (Child f e.1))

  pub record Copied (k : ℕ) (places : List ℕ) (before : Cells) (steps : ℕ) (a : After) : Type 0 where
    pub count : cells_count a.cells ≡ cells_count before
    pub others : (g : ℕ) → (g ≤ k) ⊎ (k + length places < g) → cell_at a.cells g ≡ cell_at before g
    pub copied : (j p : ℕ) → slice_get places j ≡ Some p → cell_at a.cells (k + j + 1) ≡ number (number_at (fields_at before f) p)
    pub quiet : Quiet f steps a

  pub copies : (k : ℕ) (places : List ℕ) (cells : Cells) (steps : ℕ) → k + length places < f → f < cells_count cells →
      ((j p : ℕ) → slice_get places j ≡ Some p → is_in_type (type_at scope.types (k + j + 1)) (number_at (fields_at cells f) p) ≡ true) →
      steps + length places ≤ step_limit →
      OnDone (run_stmts scope (stmts_of_list (map copy (enumerate_from k places))) cells steps)
      (Copied k places cells (steps + length places))
  copies k [] cells steps before_f below fits room = record {
    count = refl;
    others = λ g which. refl;
    copied = λ j p at. absurd (none-some p at);
    quiet = record { in_time = omega arith; calls = refl; stores = λ path field. refl };
  }
  copies k (p ∷ places) cells steps before_f below fits room =
      let v = number_at (fields_at cells f) p in
      let first : k + 0 + 1 ≡ k + 1 = omega arith in
      on_then (run_stmt scope (copy (k, p)) cells steps) (run_stmts scope (stmts_of_list (map copy (enumerate_from (k + 1) places))))
      (Stores f (k + 1) v cells (steps + 1)) _
      (one_store (k + 1) (read (Child f p)) v cells steps (omega (arith, before_f, below))
      (gives_read scope.functions (reads scope.values cells) 0 (Child f p))
      (subst (λ g. is_in_type (type_at scope.types g) v ≡ true) first (fits 0 p refl)) (omega (arith, room)))
      (λ a stored.
      let more = stored.stands.count in
      let apart : (k + 1) ≢ f = (λ same. omega (arith, before_f, same)) in
      let same : fields_at a.cells f ≡ fields_at cells f = ap cell_fields (stored.stands.others f apart) in
      let late = stored.quiet.in_time in
      on_behind a.log a.stores (run_stmts scope (stmts_of_list (map copy (enumerate_from (k + 1) places))) a.cells a.steps)
      (Copied (k + 1) places a.cells (a.steps + length places)) _
      (copies (k + 1) places a.cells a.steps (omega (arith, before_f)) (omega (arith, below, more))
      (λ j q at.
      let place : k + suc j + 1 ≡ k + 1 + j + 1 = omega arith in
      subst (λ inner. is_in_type (type_at scope.types (k + 1 + j + 1)) (number_at inner q) ≡ true) (sym same)
      (subst (λ g. is_in_type (type_at scope.types g) (number_at (fields_at cells f) q) ≡ true) place (fits (suc j) q at)))
      (omega (arith, room, late)))
      (λ b rest. record {
        count = rest.count ∙ more;
        others = λ g which. rest.others g (further g which) ∙ stored.stands.others g (other g which);
        copied = λ j q at. by a b stored rest same j q at;
        quiet = record {
          in_time = let end = rest.quiet.in_time in omega (arith, late, end);
          calls = ap (λ l. l ++ b.log) stored.quiet.calls ∙ rest.quiet.calls;
          stores = λ path field.
              let one = stored.quiet.stores path field in
              let two = rest.quiet.stores path field in
              let sum = stores_at-append (f ∷ path) field a.stores b.stores in
              omega (arith, one, two, sum);
        };
      }))
    where
      further : (g : ℕ) → (g ≤ k) ⊎ (k + suc (length places) < g) → (g ≤ k + 1) ⊎ (k + 1 + length places < g)
      further g (inl low) = inl (omega (arith, low))
      further g (inr high) = inr (omega (arith, high))

      other : (g : ℕ) → (g ≤ k) ⊎ (k + suc (length places) < g) → (k + 1) ≢ g
      other g (inl low) same = omega (arith, low, same)
      other g (inr high) same = omega (arith, high, same)

      by : (a b : After) → Stores f (k + 1) (number_at (fields_at cells f) p) cells (steps + 1) a →
          Copied (k + 1) places a.cells (a.steps + length places) b →
          fields_at a.cells f ≡ fields_at cells f → (j q : ℕ) → slice_get (p ∷ places) j ≡ Some q →
          cell_at b.cells (k + j + 1) ≡ number (number_at (fields_at cells f) q)
      by a b stored rest same zero q at =
          let first : k + 0 + 1 ≡ k + 1 = omega arith in
          ap (cell_at b.cells) first ∙ rest.others (k + 1) (inl (omega arith)) ∙ stored.stands.cell
          ∙ ap (λ g. number (number_at (fields_at cells f) g)) (same_Some p q at)
      by a b stored rest same (suc j) q at =
          let place : k + suc j + 1 ≡ k + 1 + j + 1 = omega arith in
          ap (cell_at b.cells) place ∙ rest.copied j q at ∙ ap (λ inner. number (number_at inner q)) same

-- ---- The tick

int-le : (x y : ℤ) → x ≤ℤ y → int_le x y ≡ true
int-le x y h = by (int_le x y) refl
  where
    by : (t : Bool) → int_le x y ≡ t → t ≡ true
    by true e = refl
    by false e = absurd (omega (arith, ints, h, e))

pub tick-fits : (t cycle : ℕ) → 0 < cycle → cycle ≤ 2 ^ 30 → is_in_type I32 (pos (t % cycle)) ≡ true
tick-fits t cycle some short =
    let below : t % cycle < cycle = omega (arith, some) in
    and_from _ _ (int-le (least_of I32) (pos (t % cycle)) (omega (arith, ints)))
    (int-le (pos (t % cycle)) (greatest_of I32) (omega (arith, ints, below, short)))

abbrev pub next_tick : ℕ → ExprTree
next_tick hyper = binary Rem (binary Add (read (Own 0)) (literal (pos 1))) (literal (pos hyper))

pub next-gives : (scope : Scope) (cells : Cells) (t hyper : ℕ) → 0 < hyper → hyper ≤ 2 ^ 30 → number_at cells 0 ≡ pos (t % hyper) →
    Gives scope.functions (reads scope.values cells) 0 (next_tick hyper) (pos (suc t % hyper))
next-gives scope cells t hyper some short now =
    let below : t % hyper < hyper = omega (arith, some) in
    let one : t + 1 ≡ suc t = omega arith in
    let add : Gives scope.functions (reads scope.values cells) 0 (binary Add (read (Own 0)) (literal (pos 1))) (pos (t % hyper + 1)) =
    gives_add scope.functions (reads scope.values cells) 0 (read (Own 0)) (literal (pos 1)) (pos (t % hyper)) (pos 1)
    (subst (Gives scope.functions (reads scope.values cells) 0 (read (Own 0))) now
    (gives_read scope.functions (reads scope.values cells) 0 (Own 0)))
    (gives_literal scope.functions (reads scope.values cells) 0 (pos 1)) (omega (arith, below, short)) in
    subst (λ n. Gives scope.functions (reads scope.values cells) 0 (next_tick hyper) (pos n))
    (mod-add-mod t hyper 1 ∙ ap (λ n. n % hyper) one)
    (gives_rem scope.functions (reads scope.values cells) 0 (binary Add (read (Own 0)) (literal (pos 1))) (literal (pos hyper))
    (pos (t % hyper + 1)) hyper
    add (gives_literal scope.functions (reads scope.values cells) 0 (pos hyper)) some
    (quotient (t % hyper + 1) (omega (arith, below, short))))
  where
    quotient : (n : ℕ) → n ≤ 2 ^ 30 → unsigned_abs (int_div (pos n) (pos hyper)) < 2 ^ 63
    quotient n small = let less : n / hyper ≤ n = omega (arith, some) in omega (arith, less, small)

-- ---- Both

-- statements of two lists, one after the other
pub stmts-append : (xs ys : List StmtTree) → stmts_of_list (xs ++ ys) ≡ stmts_append (stmts_of_list xs) (stmts_of_list ys)
stmts-append [] ys = refl
stmts-append (x ∷ xs) ys = ap (more_stmts x) (stmts-append xs ys)

pub record OwnPart (f : ℕ) (places : List ℕ) (now : ℤ) (before : Cells) (steps : ℕ) (a : After) : Type 0 where
  pub count : cells_count a.cells ≡ cells_count before
  pub tick : cell_at a.cells 0 ≡ number now
  pub others : (g : ℕ) → length places < g → cell_at a.cells g ≡ cell_at before g
  pub copied : (j p : ℕ) → slice_get places j ≡ Some p → cell_at a.cells (1 + j) ≡ number (number_at (fields_at before f) p)
  pub quiet : Quiet f steps a

-- the copies, and the tick's number as e gives it
pub own_part : (scope : Scope) (f : ℕ) (places : List ℕ) (e : ExprTree) (now : ℤ) (cells : Cells) (steps : ℕ) → length places < f →
    f < cells_count cells →
    ((j p : ℕ) → slice_get places j ≡ Some p → is_in_type (type_at scope.types (j + 1)) (number_at (fields_at cells f) p) ≡ true) →
    ((x : Cells) → number_at x 0 ≡ number_at cells 0 → Gives scope.functions (reads scope.values x) 0 e now) →
    is_in_type (type_at scope.types 0) now ≡ true → steps + length places + 1 ≤ step_limit →
    OnDone (run_stmts scope (stmts_of_list (map (copy scope f) (enumerate_from 0 places) ++ assign 0 0 e ∷ [])) cells steps)
    (OwnPart f places now cells (steps + length places + 1))
own_part scope f places e now cells steps before_f below fits gives in_type room =
    subst (λ o. OnDone o (OwnPart f places now cells (steps + length places + 1)))
    (sym (ap (λ ss. run_stmts scope ss cells steps)
    (stmts-append (map (copy scope f) (enumerate_from 0 places)) (assign 0 0 e ∷ []))
    ∙ run_stmts-append scope (stmts_of_list (map (copy scope f) (enumerate_from 0 places)))
    (stmts_of_list (assign 0 0 e ∷ [])) cells steps))
    (on_then (run_stmts scope (stmts_of_list (map (copy scope f) (enumerate_from 0 places))) cells steps)
    (run_stmts scope (stmts_of_list (assign 0 0 e ∷ [])))
    (Copied scope f 0 places cells (steps + length places)) _
    (copies scope f 0 places cells steps (omega (arith, before_f)) below
    (λ j p at. let place : j + 1 ≡ 0 + j + 1 = omega arith in
    subst (λ g. is_in_type (type_at scope.types g) (number_at (fields_at cells f) p) ≡ true) place (fits j p at)) (omega (arith, room)))
    (λ a copied.
    let same : number_at a.cells 0 ≡ number_at cells 0 = ap cell_value (copied.others 0 (inl (omega arith))) in
    let late = copied.quiet.in_time in
    let more = copied.count in
    on_behind a.log a.stores (run_stmts scope (stmts_of_list (assign 0 0 e ∷ [])) a.cells a.steps)
    (Stores f 0 now a.cells (a.steps + 1)) _
    (last a.cells a.steps (omega (arith, below, more)) same (omega (arith, room, late)))
    (λ b stored. record {
      count = stored.stands.count ∙ copied.count;
      tick = stored.stands.cell;
      others = λ g behind.
          stored.stands.others g (λ same. omega (arith, same, behind)) ∙ copied.others g (inr (omega (arith, behind)));
      copied = λ j p at.
          let place : 1 + j ≡ 0 + j + 1 = omega arith in
          stored.stands.others (1 + j) (λ same. omega (arith, same)) ∙ ap (cell_at a.cells) place ∙ copied.copied j p at;
      quiet = record {
        in_time = let end = stored.quiet.in_time in omega (arith, late, end);
        calls = ap (λ l. l ++ b.log) copied.quiet.calls ∙ stored.quiet.calls;
        stores = λ path field.
            let one = copied.quiet.stores path field in
            let two = stored.quiet.stores path field in
            let sum = stores_at-append (f ∷ path) field a.stores b.stores in
            omega (arith, one, two, sum);
      };
    })))
  where
    last : (x : Cells) (mid : ℕ) → 0 < cells_count x → number_at x 0 ≡ number_at cells 0 → mid < step_limit →
        OnDone (run_stmts scope (stmts_of_list (assign 0 0 e ∷ [])) x mid) (Stores f 0 now x (mid + 1))
    last x mid there same less =
        subst (λ o. OnDone o (Stores f 0 now x (mid + 1)))
        (sym ((sequences_run_in_order scope x mid).alone (assign 0 0 e)))
        (one_store scope f 0 e now x mid there (gives x same) in_type less)
