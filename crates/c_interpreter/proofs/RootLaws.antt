-- The root of a lawful program.
use Rattle.std.proofs.Common.{Bool, true, false, ◌≡◌, refl, sym, ◌∙◌, ap, ℕ, zero, suc, ◌+◌, ◌<◌, ℤ, List, [], ◌∷◌, ◌++◌, length, arith, take, map, slice_get, Some, unwrap_or, add-zero, zero-add, codes, bytes_eq, get_or, cond, replicate, pos}
use native.Mathlib.Numerals.{unary_clauses}
use Rattle.std.specs.List.{position_from}
use Rattle.std.proofs.lemmas.Slice.Eq.{bytes_eq-Decides}
use Rattle.std.proofs.Math.ListN.{set}
use Rattle.c_syntax.specs.declared.fault.Cost.{Cost}
use Rattle.c_syntax.specs.declared.fault.Stuck.{Stuck}
use Rattle.c_syntax.specs.declared.program.Field.{Field}
use Rattle.c_syntax.specs.declared.program.Procedure.{Procedure}
use Rattle.c_syntax.specs.declared.program.Program.{Program}
use Rattle.c_syntax.specs.Outputs.{has_name, numbers_from, output_name, output_count}
use Rattle.c_syntax.specs.Tree.{FieldTree, struct_fields, ProgramTree}
use Rattle.c_syntax.specs.Plain.{procedure_tree, program_tree}
use Rattle.c_syntax.specs.PlainField.{field_tree, field_trees}
use Rattle.c_semantics.specs.Rows.{step_run, start_run, zero_root}
use Rattle.c_syntax.specs.RootFields.{root_struct, root_fields, procedure_named, field_position, output_fields, number_names}
use Rattle.c_syntax.specs.Lawful.{AreDistinct, IsLawful, pure_names, procedure_names}
use Rattle.c_semantics.specs.Cells.{Cells, number_at}
use Rattle.c_semantics.specs.Machine.{Outcome, done, stuck, After, is_interface, call_from_outside}
use Rattle.c_syntax.proofs.lemmas.NameFacts.{has_name-there, AreDistinct-back}
use Rattle.c_interpreter.specs.Seen.{ran, halted, seen}
use Rattle.c_interpreter.specs.Slots.{StructLayout, layout_at, number_in}
use Rattle.c_interpreter.specs.Layouts.{layouts_of}
use Rattle.c_interpreter.specs.States.{filled}
use Rattle.c_interpreter.specs.declared.slots.Slot.{Slot}
use Rattle.c_checked.specs.Checked.{CheckedProgram}
use Rattle.c_interpreter.specs.declared.machine.NewFault.{NewFault}
use Rattle.c_interpreter.specs.declared.roots.Tables.{Tables}
use Rattle.c_interpreter.specs.Machines.{IsTick, IsStarted, IsStartFault}
use Rattle.c_interpreter.specs.Roots.{AreTables}
use Rattle.c_interpreter.specs.Sound.{zero_at, zeros_of}
use Rattle.c_interpreter.proofs.Lawfully.{ready}
use Rattle.c_interpreter.proofs.Measures.{proc_below, proc_is}
use Rattle.c_interpreter.proofs.ZeroCells.{filled_zeros}
use Rattle.c_interpreter.proofs.Places.{own_is}
use Rattle.c_interpreter.proofs.Evaluations.{take_set}

-- ---- positions of names
position-at : {A : Type 0} (name : A → List ℕ) (xs : List A) (i k : ℕ) (x : A) (n : List ℕ) → slice_get xs k ≡ Some x →
    name x ≡ n → AreDistinct (map name xs) → position_from (λ y. bytes_eq (name y) n) i xs ≡ Some (i + k)
position-at name [] i k x n there same distinct = absurd (cc)
position-at name (y ∷ ys) i zero x n there same distinct =
    let e : y ≡ x = cc in
    let t : bytes_eq (name y) n ≡ true = (bytes_eq-Decides (name y) n).1 (ap name e ∙ same) in
    (λ j. cond (t j) (Some i) (position_from (λ z. bytes_eq (name z) n) (i + 1) ys)) ∙ ap Some (sym (add-zero i))
position-at name (y ∷ ys) i (suc k) x n there same distinct =
    by_test (bytes_eq (name y) n) refl (position-at name ys (i + 1) k x n there same distinct.2 ∙ ap Some (plus i k))
  where
    plus : (a b : ℕ) → a + 1 + b ≡ a + suc b
    plus a b = omega arith

    other : bytes_eq (name y) n ≡ true → has_name (map name ys) (name y) ≡ true
    other t = has_name-there name ys k x (name y) there (same ∙ sym ((bytes_eq-Decides (name y) n).0 t))

    by_test : (b : Bool) → bytes_eq (name y) n ≡ b →
        position_from (λ z. bytes_eq (name z) n) (i + 1) ys ≡ Some (i + suc k) →
        cond (bytes_eq (name y) n) (Some i) (position_from (λ z. bytes_eq (name z) n) (i + 1) ys) ≡ Some (i + suc k)
    by_test true t rest = let o = other t in let d = distinct.1 in absurd (cc)
    by_test false t rest = (λ j. cond (t j) (Some i) (position_from (λ z. bytes_eq (name z) n) (i + 1) ys)) ∙ rest

pub position-map : {A B : Type 0} (f : A → B) (test : B → Bool) (i : ℕ) (xs : List A) →
    position_from (λ x. test (f x)) i xs ≡ position_from test i (map f xs)
position-map f test i [] = refl
position-map f test i (x ∷ xs) = ap (cond (test (f x)) (Some i)) (position-map f test (i + 1) xs)

pub procedure_position_is : (ps : List Procedure) (n : List ℕ) →
    position_from (λ q. bytes_eq q.name n) 0 ps ≡ position_from (λ q. bytes_eq q.name n) 0 (map procedure_tree ps)
procedure_position_is ps n = position-map procedure_tree (λ q. bytes_eq q.name n) 0 ps

pub field_position_is : (fs : List Field) (n : List ℕ) →
    unwrap_or (position_from (λ f. bytes_eq f.name n) 0 fs) 0 ≡ field_position (field_trees fs) n
field_position_is fs n = ap (λ o. unwrap_or o 0) (position-map field_tree (λ f. bytes_eq f.name n) 0 fs)

pub numbers-more : (first count : ℕ) → numbers_from first (count + 1) ≡ numbers_from first count ++ (first + count) ∷ []
numbers-more first zero = ap (λ n. n ∷ []) (sym (add-zero first))
numbers-more first (suc count) =
    let e : first + 1 + count ≡ first + suc count = omega arith in
    simp unary_clauses
    (ap (λ ns. first ∷ ns)
    (simp unary_clauses at (numbers-more (first + 1) count ∙ ap (λ n. numbers_from (first + 1) count ++ n ∷ []) e)))

map-more : {A B : Type 0} (f : A → B) (xs : List A) (x : A) → map f (xs ++ x ∷ []) ≡ map f xs ++ f x ∷ []
map-more f [] x = refl
map-more f (y ∷ ys) x = ap (λ zs. f y ∷ zs) (map-more f ys x)

pub outputs_more : (fields : List FieldTree) (count : ℕ) →
    map (field_position fields) (map output_name (numbers_from 1 (count + 1)))
    ≡ map (field_position fields) (map output_name (numbers_from 1 count))
    ++ field_position fields (output_name (count + 1)) ∷ []
outputs_more fields count =
    let e : 1 + count ≡ count + 1 = omega arith in
    ap (λ ns. map (field_position fields) (map output_name ns)) (numbers-more 1 count
    ∙ ap (λ n. numbers_from 1 count ++ n ∷ []) e)
    ∙ ap (map (field_position fields)) (map-more output_name (numbers_from 1 count) (count + 1))
    ∙ map-more (field_position fields) (map output_name (numbers_from 1 count)) (output_name (count + 1))

numbers-length : (first count : ℕ) → length (numbers_from first count) ≡ count
numbers-length first zero = refl
numbers-length first (suc count) = omega (arith, numbers-length (first + 1) count)

map-length : {A B : Type 0} (f : A → B) (xs : List A) → length (map f xs) ≡ length xs
map-length f [] = refl
map-length f (x ∷ xs) = omega (arith, map-length f xs)

-- the outputs, where their number is known
pub outputs_are : (fields : List FieldTree) (count : ℕ) → count ≡ length (output_fields fields) →
    map (field_position fields) (map output_name (numbers_from 1 count)) ≡ output_fields fields
outputs_are fields count h =
    let n : ℕ = output_count (number_names fields) in
    let e : length (output_fields fields) ≡ n = map-length (field_position fields) (map output_name (numbers_from 1 n))
    ∙ map-length output_name (numbers_from 1 n) ∙ numbers-length 1 n in
    ap (λ m. map (field_position fields) (map output_name (numbers_from 1 m))) (h ∙ e)

-- one more number of an output
pub put_more : (s : List ℤ) (slots : List Slot) (fields : List ℕ) (out : List ℤ) (i : ℕ) (v : ℤ) → i < length fields →
    i < length out → v ≡ number_in s (slice_get slots (get_or fields i 0)) →
    take i out ≡ map (λ f. number_in s (slice_get slots f)) (take i fields) →
    take (i + 1) (set out i v) ≡ map (λ f. number_in s (slice_get slots f)) (take (i + 1) fields)
put_more s slots fields out i v h k is before =
    take_set out i v k ∙ (λ j. before j ++ is j ∷ [])
    ∙ sym (map-more (λ f. number_in s (slice_get slots f)) (take i fields) (get_or fields i 0))
    ∙ ap (map (λ f. number_in s (slice_get slots f))) (sym (take_next fields i h))
  where
    take_next : (xs : List ℕ) (j : ℕ) → j < length xs → take (j + 1) xs ≡ take j xs ++ get_or xs j 0 ∷ []
    take_next [] j g = absurd (omega arith)
    take_next (x ∷ xs) zero g = refl
    take_next (x ∷ xs) (suc j) g = simp unary_clauses (ap (λ r. x ∷ r) (simp unary_clauses at (take_next xs j (omega arith))))

-- ---- the root
procedures-distinct : (p : ProgramTree) → IsLawful p → AreDistinct (map (λ q. q.name) p.procedures)
procedures-distinct p lawful = AreDistinct-back (pure_names p.pures) (procedure_names p.procedures) lawful.functions

pub start_at : (p : ProgramTree) (lawful : IsLawful p) → unwrap_or (procedure_named p (codes "root_start")) 0 ≡ lawful.root.start
start_at p lawful =
    ap (λ o. unwrap_or o 0) (position-at (λ q. q.name) p.procedures 0 lawful.root.start lawful.root.start_procedure
    (codes "root_start") lawful.root.start_there lawful.root.start_name (procedures-distinct p lawful)) ∙ zero-add _

pub step_at : (p : ProgramTree) (lawful : IsLawful p) → unwrap_or (procedure_named p (codes "root_step")) 0 ≡ lawful.root.step
step_at p lawful =
    ap (λ o. unwrap_or o 0) (position-at (λ q. q.name) p.procedures 0 lawful.root.step lawful.root.step_procedure
    (codes "root_step") lawful.root.step_there lawful.root.step_name (procedures-distinct p lawful)) ∙ zero-add _

pub root_at : (p : ProgramTree) (lawful : IsLawful p) → root_struct p ≡ lawful.root.of
root_at p lawful =
    ap (λ o. unwrap_or o 0)
    (position-at (λ s. s.name) p.structs 0 lawful.root.of lawful.root.struct
    (codes "root") lawful.root.struct_there lawful.root.struct_name lawful.struct_names) ∙ zero-add _

-- ---- ends of calls from outside
pub ran_done : (cells : Cells) (n m : ℕ) (o : Outcome) → ran cells n m ≡ seen 0 o →
    (a : After) × (o ≡ done a) × (cells ≡ a.cells) × (n ≡ a.steps) × (m ≡ length a.log)
ran_done cells n m (done a) e =
    let c : cells ≡ a.cells = cc in
    let s : n ≡ a.steps = cc in
    let k : m ≡ 0 + length a.log = cc in
    (a, refl, c, s, k ∙ zero-add _)
ran_done cells n m (stuck at left) e = absurd (cc)

pub halted_stuck : (cells : Cells) (at : Stuck) (o : Outcome) → halted at cells ≡ seen 0 o → o ≡ stuck at cells
halted_stuck cells at (done a) e = absurd (cc)
halted_stuck cells at (stuck place left) e =
    let p : at ≡ place = cc in
    let c : cells ≡ left = cc in
    λ i. stuck (sym p i) (sym c i)

-- ---- tables and runs of the root
logged-same : (ps : List Procedure) → map (λ q. is_interface q.name) ps ≡ map (λ q. is_interface q.name) (map procedure_tree ps)
logged-same [] = refl
logged-same (p ∷ ps) = ap (λ bs. is_interface p.name ∷ bs) (logged-same ps)

pub start_below : (p : ProgramTree) (ps : List Procedure) (start : ℕ) → IsLawful p →
    p.procedures ≡ map procedure_tree ps → start ≡ unwrap_or (procedure_named p (codes "root_start")) 0 →
    start < length ps
start_below p ps start lawful same is =
    let e : start ≡ lawful.root.start = is ∙ start_at p lawful in
    let b : lawful.root.start < length ps =
    proc_below ps lawful.root.start lawful.root.start_procedure
    (ap (λ xs. slice_get xs lawful.root.start) (sym same) ∙ lawful.root.start_there) in
    omega arith

pub tables_are : (p : ProgramTree) (ps : List Procedure) (layouts : List StructLayout) (logged : List Bool)
    (root start step count : ℕ) (outputs : List ℕ) (callee : Procedure) → IsLawful p →
    p.procedures ≡ map procedure_tree ps → layouts ≡ layouts_of [] p.structs →
    logged ≡ map (λ q. is_interface q.name) ps → start ≡ unwrap_or (procedure_named p (codes "root_start")) 0 →
    step ≡ unwrap_or (procedure_named p (codes "root_step")) 0 → callee ≡ get_or ps start callee → callee.of ≡ root →
    outputs ≡ map (field_position (struct_fields p.structs root)) (map output_name (numbers_from 1 count)) →
    count ≡ length (output_fields (root_fields p)) → AreTables p layouts logged root start step outputs
tables_are p ps layouts logged root start step count outputs callee lawful same laid logs starts steps callee_is of_is outs counts =
    let r = lawful.root in
    let at : start ≡ r.start = starts ∙ start_at p lawful in
    let there : slice_get p.procedures start ≡ Some r.start_procedure = ap (slice_get p.procedures) at ∙ r.start_there in
    let first : procedure_tree callee ≡ r.start_procedure =
    proc_is ps start r.start_procedure callee (ap (λ xs. slice_get xs start) (sym same) ∙ there) callee_is in
    let of_root : r.start_procedure.of ≡ root = (λ i. (sym first i).of) ∙ of_is in
    let root_of : root ≡ r.of = sym of_root ∙ r.start_of in
    let is_root : root ≡ root_struct p = root_of ∙ sym (root_at p lawful) in
    record {
      ready = ready p layouts logged lawful laid (logs ∙ logged-same ps ∙ ap (map (λ q. is_interface q.name)) (sym same));
      root_is = is_root;
      start_is = starts;
      start_there = record { procedure = r.start_procedure; there = there; of_is = of_root };
      step_is = steps;
      step_there = record {
        procedure = r.step_procedure;
        there = ap (slice_get p.procedures) (steps ∙ step_at p lawful)
            ∙ r.step_there;
        of_is = r.step_of ∙ sym root_of;
      };
      outputs_are =
          outs ∙ (λ i. map (field_position (struct_fields p.structs (is_root i)))
          (map output_name (numbers_from 1 count))) ∙ outputs_are (root_fields p) count counts;
    }

map-ext : (f g : ℕ → ℤ) (xs : List ℕ) → ((k : ℕ) → f k ≡ g k) → map f xs ≡ map g xs
map-ext f g [] same = refl
map-ext f g (x ∷ xs) same = λ i. same x i ∷ map-ext f g xs same i

-- a tick, by what the code's run left
pub ticked : (program : CheckedProgram) (t : Tables) (row n now outs : List ℤ) (cost : Cost) →
    AreTables (program_tree program.program) t.layouts.items t.logged.items t.root t.start t.step t.outputs.items →
    ran (filled (zero_at (program_tree program.program) t.root) now) cost.steps cost.calls ≡ seen 0
    (call_from_outside (program_tree program.program) t.step [] row
    (filled (zero_at (program_tree program.program) t.root) n)) →
    outs ≡ map (λ f. number_in now (slice_get (layout_at t.layouts.items t.root).slots f)) t.outputs.items →
    IsTick (record { program = program; numbers = n }) (record { program = program; numbers = now }) row outs cost
ticked program t row n now outs cost tables run outs_are =
    let p : ProgramTree = program_tree program.program in
    let eq : call_from_outside p t.step [] row (filled (zero_at p t.root) n) ≡ step_run p row (filled (zero_root p) n) =
    λ i. call_from_outside p (tables.step_is i) [] row (filled (zero_at p (tables.root_is i)) n) in
    let d = ran_done (filled (zero_at p t.root) now) cost.steps cost.calls
    (call_from_outside p t.step [] row (filled (zero_at p t.root) n)) run in
    let same : (f : ℕ) → number_in now (slice_get (layout_at t.layouts.items t.root).slots f) ≡ number_at d.0.cells f =
    λ f. sym (own_is p.structs t.layouts.items (zeros_of p) tables.ready.laid t.root now f)
    ∙ ap (λ c. number_at c f) d.2 in
    record {
      left = d.0;
      run = sym eq ∙ d.1;
      cells = (λ i. filled (zero_at p (sym tables.root_is i)) now) ∙ d.2;
      outputs_are = outs_are ∙ map-ext (λ f. number_in now (slice_get (layout_at t.layouts.items t.root).slots f))
          (number_at d.0.cells) t.outputs.items same ∙ ap (map (number_at d.0.cells)) tables.outputs_are;
      cost_is = λ i. record { steps = d.3 i; calls = d.4 i };
    }

start_same : (p : ProgramTree) (layouts : List StructLayout) (logged : List Bool) (root start step n : ℕ)
    (outputs : List ℕ) → AreTables p layouts logged root start step outputs →
    call_from_outside p start [] [] (filled (zero_at p root) (replicate n (pos 0))) ≡ start_run p
start_same p layouts logged root start step n outputs tables =
    ap (call_from_outside p start [] []) (filled_zeros p.structs root n)
    ∙ (λ i. call_from_outside p (tables.start_is i) [] [] (zero_at p (tables.root_is i)))

-- a machine after its start
pub started : (program : CheckedProgram) (t : Tables) (n : ℕ) (now : List ℤ) (cost : Cost) →
    AreTables (program_tree program.program) t.layouts.items t.logged.items t.root t.start t.step t.outputs.items →
    ran (filled (zero_at (program_tree program.program) t.root) now) cost.steps cost.calls ≡ seen 0
    (call_from_outside (program_tree program.program) t.start [] []
    (filled (zero_at (program_tree program.program) t.root) (replicate n (pos 0)))) →
    IsStarted program (record { program = program; numbers = now })
started program t n now cost tables run =
    let p : ProgramTree = program_tree program.program in
    let d = ran_done (filled (zero_at p t.root) now) cost.steps cost.calls
    (call_from_outside p t.start [] [] (filled (zero_at p t.root) (replicate n (pos 0)))) run in
    record {
      same = refl;
      after = d.0;
      run = sym (start_same p t.layouts.items t.logged.items t.root t.start t.step n t.outputs.items tables) ∙ d.1;
      cells = (λ i. filled (zero_at p (sym tables.root_is i)) now) ∙ d.2;
    }

-- a start that is stuck
pub start_stuck : (program : CheckedProgram) (t : Tables) (n : ℕ) (now : List ℤ) (at : Stuck) →
    AreTables (program_tree program.program) t.layouts.items t.logged.items t.root t.start t.step t.outputs.items →
    halted at (filled (zero_at (program_tree program.program) t.root) now) ≡ seen 0
    (call_from_outside (program_tree program.program) t.start [] []
    (filled (zero_at (program_tree program.program) t.root) (replicate n (pos 0)))) →
    IsStartFault program (NewFault.Stuck at)
start_stuck program t n now at tables run =
    let p : ProgramTree = program_tree program.program in (
      filled (zero_at p t.root) now,
      sym (start_same p t.layouts.items t.logged.items t.root t.start t.step n t.outputs.items tables)
          ∙ halted_stuck (filled (zero_at p t.root) now) at
          (call_from_outside p t.start [] [] (filled (zero_at p t.root) (replicate n (pos 0)))) run,
    )

-- the same, by what the code's calls said
pub tick_left : (program : CheckedProgram) (t : Tables) (row n now outs : List ℤ) (cost : Cost) (q : Program)
    (old new : List ℤ) (layouts : List StructLayout) (slots : List Slot) (fields : List ℕ) →
    AreTables (program_tree program.program) t.layouts.items t.logged.items t.root t.start t.step t.outputs.items →
    q ≡ program.program → old ≡ n → layouts ≡ t.layouts.items → slots ≡ (layout_at layouts t.root).slots →
    fields ≡ t.outputs.items → new ≡ now →
    ran (filled (zero_at (program_tree q) t.root) now) cost.steps cost.calls ≡ seen 0
    (call_from_outside (program_tree q) t.step [] row (filled (zero_at (program_tree q) t.root) old)) →
    outs ≡ map (λ f. number_in new (slice_get slots f)) fields →
    IsTick (record { program = program; numbers = n }) (record { program = program; numbers = now }) row outs cost
tick_left program t row n now outs cost q old new layouts slots fields tables same_q same_old same_layouts slots_are
    same_fields same_new run outs_are =
    ticked program t row n now outs cost tables
    ((λ i. ran (filled (zero_at (program_tree (sym same_q i)) t.root) now) cost.steps cost.calls) ∙ run
    ∙ (λ i. seen 0
    (call_from_outside (program_tree (same_q i)) t.step [] row
    (filled (zero_at (program_tree (same_q i)) t.root) (same_old i)))))
    (outs_are
    ∙ (λ i. map
    (λ f. number_in (same_new i) (slice_get ((slots_are ∙ (λ j. (layout_at (same_layouts j) t.root).slots)) i) f))
    (same_fields i)))

pub start_left : (program : CheckedProgram) (t : Tables) (n : ℕ) (now : List ℤ) (cost : Cost) (q : Program)
    (old : List ℤ) →
    AreTables (program_tree program.program) t.layouts.items t.logged.items t.root t.start t.step t.outputs.items →
    q ≡ program.program → old ≡ replicate n (pos 0) →
    ran (filled (zero_at (program_tree q) t.root) now) cost.steps cost.calls ≡ seen 0
    (call_from_outside (program_tree q) t.start [] [] (filled (zero_at (program_tree q) t.root) old)) →
    IsStarted program (record { program = program; numbers = now })
start_left program t n now cost q old tables same_q same_old run =
    started program t n now cost tables
    ((λ i. ran (filled (zero_at (program_tree (sym same_q i)) t.root) now) cost.steps cost.calls) ∙ run
    ∙ (λ i. seen 0
    (call_from_outside (program_tree (same_q i)) t.start [] []
    (filled (zero_at (program_tree (same_q i)) t.root) (same_old i)))))

pub stuck_left : (program : CheckedProgram) (t : Tables) (n : ℕ) (now : List ℤ) (at : Stuck) (q : Program)
    (old : List ℤ) →
    AreTables (program_tree program.program) t.layouts.items t.logged.items t.root t.start t.step t.outputs.items →
    q ≡ program.program → old ≡ replicate n (pos 0) →
    halted at (filled (zero_at (program_tree q) t.root) now) ≡ seen 0
    (call_from_outside (program_tree q) t.start [] [] (filled (zero_at (program_tree q) t.root) old)) →
    IsStartFault program (NewFault.Stuck at)
stuck_left program t n now at q old tables same_q same_old run =
    start_stuck program t n now at tables ((λ i. halted at (filled (zero_at (program_tree (sym same_q i)) t.root) now))
    ∙ run ∙ (λ i.
    seen 0 (call_from_outside (program_tree (same_q i)) t.start [] []
    (filled (zero_at (program_tree (same_q i)) t.root) (same_old i)))))
