-- What the calls of a machine do, by what the code's runs left.
use Rattle.std.proofs.Common.{◌≡◌, sym, ◌∙◌, ℕ, ◌<◌, ℤ, List, [], length, arith, slice_get, Option, Some, Result, Ok, Err, subst}
use Rattle.std.specs.Prelude.{option_and_then, IfOk, IfErr, IfSome}
use Rattle.std.proofs.lemmas.Option.{slice_get_within}
use Rattle.c_syntax.specs.declared.fault.Cost.{Cost}
use Rattle.c_syntax.specs.declared.fault.Stuck.{Stuck}
use Rattle.c_syntax.specs.declared.program.Program.{Program}
use Rattle.c_syntax.specs.Lawful.{IsLawful}
use Rattle.c_semantics.specs.Machine.{call_from_outside}
use Rattle.c_syntax.specs.Plain.{program_tree}
use Rattle.c_syntax.specs.RootFields.{root_struct}
use Rattle.c_semantics.specs.Rows.{zero_root}
use Rattle.c_syntax.specs.Tree.{ProgramTree}
use Rattle.c_checked.specs.Checked.{CheckedProgram}
use Rattle.c_interpreter.specs.Instances.{StructInstance, instances, instance_at, child_named, number_named}
use Rattle.c_interpreter.specs.Machines.{IsCallable, IsCall, IsStuckCall}
use Rattle.c_interpreter.specs.Numbering.{counts_of, AreNumbered, instances_of, instances_in, HasInstance}
use Rattle.c_interpreter.specs.Roots.{root_ended, AreCounts}
use Rattle.c_interpreter.specs.Seen.{seen}
use Rattle.c_interpreter.specs.Sound.{zero_at}
use Rattle.c_interpreter.specs.States.{MachineState, tree_of, fields_of, filled}
use Rattle.c_interpreter.proofs.Numbered.{numbered}
use Rattle.c_interpreter.proofs.RootLaws.{root_at, ran_done, halted_stuck}

-- the counts of a lawful program
pub counts_are : (p : ProgramTree) (counts : List ℕ) (root : ℕ) → IsLawful p → counts ≡ counts_of [] p.structs →
    root ≡ root_struct p → AreCounts p counts root
counts_are p counts root lawful same root_is =
    let at : root ≡ lawful.root.of = root_is ∙ root_at p lawful in
    let within : lawful.root.of < length p.structs =
    slice_get_within p.structs lawful.root.of lawful.root.struct lawful.root.struct_there in
    record {
      numbered = subst (λ (ns : List ℕ). AreNumbered p.structs ns (instances_of p)) (sym same) (numbered p.structs lawful.structs);
      root_known = omega arith;
    }

-- a child by the program's tables
pub child_left : (m : MachineState) (q : Program) (root instance : ℕ) (name : List ℕ) (r : Option ℕ) →
    q ≡ m.program.program → root ≡ root_struct (program_tree q) →
    option_and_then (λ j. slice_get (instances_in (program_tree q) root) j) r ≡ option_and_then
    (child_named (program_tree q) name) (slice_get (instances_in (program_tree q) root) instance) →
    option_and_then (instance_at (tree_of m)) r
    ≡ option_and_then (child_named (tree_of m) name) (instance_at (tree_of m) instance)
child_left m q root instance name r same root_is given =
    subst (λ (x : Program). option_and_then
    (λ j. slice_get (instances_in (program_tree x) (root_struct (program_tree x))) j) r
    ≡ option_and_then (child_named (program_tree x) name)
    (slice_get (instances_in (program_tree x) (root_struct (program_tree x))) instance)) same
    (subst (λ (k : ℕ). option_and_then (λ j. slice_get (instances_in (program_tree q) k) j) r
    ≡ option_and_then (child_named (program_tree q) name) (slice_get (instances_in (program_tree q) k) instance))
    root_is given)

pub child_there : (m : MachineState) (q : Program) (root : ℕ) (r : Option ℕ) → q ≡ m.program.program →
    root ≡ root_struct (program_tree q) → IfSome r (λ j. j < length (instances_in (program_tree q) root)) →
    IfSome r (λ j. j < length (instances (tree_of m)))
child_there m q root r same root_is given =
    subst (λ (x : Program). IfSome r (λ j. j < length (instances_in (program_tree x) (root_struct (program_tree x))))) same
    (subst (λ (k : ℕ). IfSome r (λ j. j < length (instances_in (program_tree q) k))) root_is given)

-- a number by the program's tables
pub number_left : (m : MachineState) (q : Program) (root instance : ℕ) (name : List ℕ) (s : List ℤ) (r : Option ℤ) →
    q ≡ m.program.program → root ≡ root_struct (program_tree q) → s ≡ m.numbers →
    r ≡ option_and_then (number_named (program_tree q) (filled (zero_at (program_tree q) root) s) name)
    (slice_get (instances_in (program_tree q) root) instance) →
    r ≡ option_and_then (number_named (tree_of m) (fields_of m) name) (instance_at (tree_of m) instance)
number_left m q root instance name s r same root_is numbers given =
    given ∙ (λ i.
    option_and_then (number_named (program_tree q) (filled (zero_at (program_tree q) (root_is i)) (numbers i)) name)
    (slice_get (instances_in (program_tree q) (root_is i)) instance))
    ∙ (λ i. option_and_then
    (number_named (program_tree (same i))
    (filled (zero_at (program_tree (same i)) (root_struct (program_tree (same i)))) m.numbers) name)
    (slice_get (instances_in (program_tree (same i)) (root_struct (program_tree (same i)))) instance))

-- there is such a call
pub callable : (m : MachineState) (q : Program) (root procedure instance : ℕ) (values : List ℤ) →
    q ≡ m.program.program → root ≡ root_struct (program_tree q) → IsCallable m procedure instance values →
    HasInstance (program_tree q) root procedure instance
callable m q root procedure instance values same root_is h =
    subst (λ (k : ℕ). HasInstance (program_tree q) k procedure instance) (sym root_is)
    (subst (λ (x : Program). HasInstance (program_tree x) (root_struct (program_tree x)) procedure instance) (sym same)
    (record {
      there_is = h.instance_is;
      there = h.instance_there;
      procedure_of = record { procedure = h.procedure_is; there = h.procedure_there; of_is = h.of_is };
    }))

-- a call, by what the code's run left
pub call_done : (program : CheckedProgram) (q : Program) (root procedure instance : ℕ) (values old n now : List ℤ)
    (r : Result Cost Stuck) → q ≡ program.program → root ≡ root_struct (program_tree q) → old ≡ n →
    IsCallable (record { program = program; numbers = n }) procedure instance values →
    ((i : StructInstance) → slice_get (instances_in (program_tree q) root) instance ≡ Some i →
    root_ended (zero_at (program_tree q) root) r now
    ≡ seen 0
    (call_from_outside (program_tree q) procedure i.path values (filled (zero_at (program_tree q) root) old))) →
    IfOk r (IsCall (record { program = program; numbers = n }) (record { program = program; numbers = now }) procedure
    instance values)
call_done program q root procedure instance values old n now (Err at) same root_is same_old h given = tt
call_done program q root procedure instance values old n now (Ok cost) same root_is same_old h given =
    let p : ProgramTree = program_tree program.program in
    let there : slice_get (instances_in (program_tree q) root) instance ≡ Some h.instance_is =
    (λ i. slice_get (instances_in (program_tree q) (root_is i)) instance)
    ∙ (λ i. slice_get (instances_in (program_tree (same i)) (root_struct (program_tree (same i)))) instance)
    ∙ h.instance_there in
    let run = given h.instance_is there in
    let run_is : root_ended (zero_root p) (Ok cost) now
    ≡ seen 0 (call_from_outside p procedure h.instance_is.path values (filled (zero_root p) n)) =
    (λ i. root_ended (zero_at (program_tree (sym same i)) (root_struct (program_tree (sym same i)))) (Ok cost) now)
    ∙ (λ i. root_ended (zero_at (program_tree q) (sym root_is i)) (Ok cost) now) ∙ run
    ∙ (λ i. seen 0
    (call_from_outside (program_tree q) procedure h.instance_is.path values
    (filled (zero_at (program_tree q) (root_is i)) (same_old i))))
    ∙ (λ i. seen 0 (call_from_outside (program_tree (same i)) procedure h.instance_is.path values
    (filled (zero_at (program_tree (same i)) (root_struct (program_tree (same i)))) n))) in
    let d = ran_done (filled (zero_root p) now) cost.steps cost.calls
    (call_from_outside p procedure h.instance_is.path values (filled (zero_root p) n)) run_is in
    record {
      instance_is = h.instance_is;
      there = h.instance_there;
      left = d.0;
      run = d.1;
      cells = d.2;
      cost_is = λ i. record { steps = d.3 i; calls = d.4 i };
    }

pub call_stuck : (program : CheckedProgram) (q : Program) (root procedure instance : ℕ) (values old n now : List ℤ)
    (r : Result Cost Stuck) → q ≡ program.program → root ≡ root_struct (program_tree q) → old ≡ n →
    IsCallable (record { program = program; numbers = n }) procedure instance values →
    ((i : StructInstance) → slice_get (instances_in (program_tree q) root) instance ≡ Some i →
    root_ended (zero_at (program_tree q) root) r now
    ≡ seen 0
    (call_from_outside (program_tree q) procedure i.path values (filled (zero_at (program_tree q) root) old))) →
    IfErr r (IsStuckCall (record { program = program; numbers = n }) (record { program = program; numbers = now })
    procedure instance values)
call_stuck program q root procedure instance values old n now (Ok cost) same root_is same_old h given = tt
call_stuck program q root procedure instance values old n now (Err at) same root_is same_old h given =
    let p : ProgramTree = program_tree program.program in
    let there : slice_get (instances_in (program_tree q) root) instance ≡ Some h.instance_is =
    (λ i. slice_get (instances_in (program_tree q) (root_is i)) instance)
    ∙ (λ i. slice_get (instances_in (program_tree (same i)) (root_struct (program_tree (same i)))) instance)
    ∙ h.instance_there in
    let run = given h.instance_is there in
    let run_is : root_ended (zero_root p) (Err at) now
    ≡ seen 0 (call_from_outside p procedure h.instance_is.path values (filled (zero_root p) n)) =
    (λ i. root_ended (zero_at (program_tree (sym same i)) (root_struct (program_tree (sym same i)))) (Err at) now)
    ∙ (λ i. root_ended (zero_at (program_tree q) (sym root_is i)) (Err at) now) ∙ run
    ∙ (λ i. seen 0
    (call_from_outside (program_tree q) procedure h.instance_is.path values
    (filled (zero_at (program_tree q) (root_is i)) (same_old i))))
    ∙ (λ i. seen 0 (call_from_outside (program_tree (same i)) procedure h.instance_is.path values
    (filled (zero_at (program_tree (same i)) (root_struct (program_tree (same i)))) n))) in
    record {
      instance_is = h.instance_is;
      there = h.instance_there;
      run = halted_stuck (filled (zero_root p) now) at
          (call_from_outside p procedure h.instance_is.path values (filled (zero_root p) n)) run_is;
    }
