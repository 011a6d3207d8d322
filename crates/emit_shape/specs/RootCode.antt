-- The struct `root` of a program and its two procedures.
use Rattle.std.specs.Prelude.{◌≡◌, ℕ, ◌+◌, ◌%◌, ◌<◌, not, Bool, true, false, List, [], ◌∷◌, ◌++◌, map, filter, length, IsPermutation, None, ℤ, pos, neg_ℤ}
use Rattle.std.specs.List.{AllByRecursion, AllZip, enumerate_from}
use Rattle.diagram_meaning.specs.Rows.{outports_of}
use Rattle.diagram_meaning.specs.Diagram.{Diagram, type_at}
use Rattle.modules_profile.specs.SystemHeader.{SystemHeader}
use Rattle.modules_profile.specs.SystemProfile.{SystemProfile}
use Rattle.modules_profile.specs.Systems.{system_name}
use Rattle.modules_profile.specs.Functions.{IsProfileOf}
use Rattle.modules_profile.specs.Headers.{header_of}
use Rattle.c_syntax.specs.declared.CType.TheVariants.{I32}
use Rattle.c_syntax.specs.declared.Target.TheVariants.{Child}
use Rattle.c_syntax.specs.Tree.{ExprTree, literal, neg, StmtTree, assign, assign_at, branch, call, list_of_stmts, list_of_exprs, ProcedureTree, ProgramTree}
use Rattle.c_semantics.specs.Values.{Function, gives, eval}
use Rattle.emit_shape.specs.NamedLeaf.{NamedLeaf, param, own, child}
use Rattle.c_syntax.specs.RootFields.{root_struct}
use Rattle.emit_shape.specs.Names.{container, now_name, value_name, root_name, root_start_name, root_step_name}
use Rattle.c_syntax.specs.Outputs.{output_name}
use Rattle.emit_shape.specs.Heads.{Head, head_of, out_heads, update_head, start_head, input_params}
use Rattle.emit_shape.specs.CodeNames.{NamedField, named_fields, named_leaves, IsReadOf}
use Rattle.c_syntax.specs.Kinds.{number_kind, struct_kind}
use Rattle.emit_shape.specs.Reads.{expr_leaves}
use Rattle.emit_shape.specs.Programs.{struct_at, procedure_at, names_in, procedures_of}

-- the fields of the root's struct
abbrev pub root_fields_of : Diagram → List NamedField
root_fields_of d =
    record { name = now_name; kind = number_kind I32 }
    ∷ map (λ (e : ℕ × ℕ). record {
      name = output_name e.0;
      kind = number_kind (container (type_at d.types e.1));
    })
    (enumerate_from 1 (outports_of d.rows None))
    ++ record { name = system_name None; kind = struct_kind (system_name None) } ∷ []

-- a statement of a procedure of the root's struct: a call on `top`, the copy of an output, or the
-- move to the next tick
pub data RootStep : Type 0 where
  calls : (callee : Head) → RootStep
  copies : (output row : ℕ) → RootStep
  moves_on : RootStep

-- what is passed to a parameter of `top`: the tick from its field, and each input from the
-- parameter of that name
pub data IsPassed (wanted : List ℕ) : NamedLeaf → Type 0 where
  tick : wanted ≡ now_name → IsPassed wanted (own now_name)
  input : IsPassed wanted (param wanted)

-- an expression reads `now` alone, and whatever functions there are it takes each tick of the cycle
-- to the next, the last to the first
pub record MovesOn (p : ProgramTree) (hyper : ℕ) (q : ProcedureTree)
    (value : ExprTree) : Type 0 where
  pub reads : AllByRecursion (λ leaf. leaf ≡ own now_name)
      (named_leaves (names_in p q.of) q.params (expr_leaves value))
  pub next : (functions : List Function) (t : ℕ) → t < hyper →
      (steps : ℕ) × (eval functions (record { leaf = λ leaf. pos t; array = λ f. [] }) 0 value 0
      ≡ gives (pos ((t + 1) % hyper)) steps)

module _ (p : ProgramTree) (hyper : ℕ) (q : ProcedureTree) where
  abbrev pub DoesCall : Head → StmtTree → Type 0
  DoesCall callee (call line k (Child f) values) =
      (head_of (procedure_at p k) ≡ callee) × ((names_in p q.of).own f ≡ system_name None)
      × AllZip (λ wanted e. (what : NamedLeaf) × IsPassed wanted.name what
      × IsReadOf (names_in p q.of) q.params what e) callee.params (list_of_exprs values)
  DoesCall callee _ = ⊥

  abbrev pub DoesStore : List ℕ → (ExprTree → Type 0) → StmtTree → Type 0
  DoesStore name IsValue (assign line f value) = ((names_in p q.of).own f ≡ name) × IsValue value
  DoesStore name IsValue (call line k target values) = ⊥
  DoesStore name IsValue (assign_at line f index value) = ⊥
  DoesStore name IsValue (branch line test on_true on_false) = ⊥

  abbrev pub Does : RootStep → StmtTree → Type 0
  Does (calls callee) = DoesCall callee
  Does (copies output row) =
      DoesStore (output_name output)
      (IsReadOf (names_in p q.of) q.params (child (system_name None) (value_name row)))
  Does moves_on = DoesStore now_name (MovesOn p hyper q)

-- a written number, and a store of one
abbrev pub is_literal : ExprTree → Bool
is_literal (literal value) = true
is_literal (neg e) = is_literal e
is_literal _ = false

abbrev pub is_literal_store : StmtTree → Bool
is_literal_store (assign line f value) = is_literal value
is_literal_store _ = false

abbrev pub literal_number : ExprTree → ℤ
literal_number (literal value) = value
literal_number (neg e) = neg_ℤ (literal_number e)
literal_number _ = pos 0

-- 0 is stored in `now`
abbrev pub BeginsTick : ProgramTree → ProcedureTree → StmtTree → Type 0
BeginsTick p q (assign line f value) =
    ((names_in p q.of).own f ≡ now_name) × (literal_number value ≡ pos 0)
BeginsTick p q _ = ⊥

-- each output by port
abbrev pub copied_outputs : Diagram → List RootStep
copied_outputs d =
    map (λ (o : ℕ × ℕ). copies o.0 o.1) (enumerate_from 1 (outports_of d.rows None))

-- a start, but for the tick: that of `top`, and then each output
abbrev pub start_steps : Diagram → SystemHeader → List RootStep
start_steps d top = calls (start_head top) ∷ copied_outputs d

-- a tick: each function of `top` by number, its update, each output, and the move to the next tick
abbrev pub tick_steps : Diagram → SystemHeader → List RootStep
tick_steps d top =
    map calls (out_heads top) ++ calls (update_head top) ∷ copied_outputs d ++ moves_on ∷ []

-- `struct root` has the tick, the outputs and `top`; `root_start` starts `top`, then copies each
-- output from its Outport's field, makes the tick 0, and stores nothing else; `root_step` takes the
-- inputs and does the steps of a tick
pub record HasRootCode (p : ProgramTree) (d : Diagram) (hyper : ℕ) : Type 0 where
  pub profile : SystemProfile
  pub is_profile : IsProfileOf d None profile
  pub name : (struct_at p (root_struct p)).name ≡ root_name
  pub fields : IsPermutation (root_fields_of d)
      (named_fields (names_in p (root_struct p)) (struct_at p (root_struct p)).fields)
  pub start : ProcedureTree
  pub step : ProcedureTree
  pub only : IsPermutation (start ∷ step ∷ []) (procedures_of p (root_struct p))
  pub start_head : head_of start ≡ record { name = root_start_name; private = false; params = [] }
  pub step_head : head_of step
      ≡ record {
        name = root_step_name;
        private = false;
        params = input_params (header_of d None profile);
      }
  pub begins : 0 < length (filter is_literal_store (list_of_stmts start.body))
  pub tick_alone : AllByRecursion (BeginsTick p start)
      (filter is_literal_store (list_of_stmts start.body))
  pub starts : AllZip (Does p hyper start) (start_steps d (header_of d None profile))
      (filter (λ st. not (is_literal_store st)) (list_of_stmts start.body))
  pub does : AllZip (Does p hyper step) (tick_steps d (header_of d None profile))
      (list_of_stmts step.body)
