-- The node of a system calls nodes of functions, and that of each child in the order of its rows.
use Rattle.std.proofs.Common.{◌≡◌, refl, sym, ap, ap₂, subst, ◌∙◌, ℕ, zero, suc, ◌+◌, ◌<◌, ◌≤◌, nat_le, Bool, true, false, cond, if◌then◌else◌, List, [], ◌∷◌, ◌++◌, length, map, filter, reverse, Option, None, Some, unwrap_or, bytes_eq, arith}
use Rattle.std.specs.Prelude.{Contains, ⊤}
use Rattle.std.specs.List.{AllByRecursion, flat_map, position_from}
use Rattle.std.proofs.lemmas.Bool.{le-leb}
use Rattle.std.proofs.lemmas.Grind.{flat_map-append}
use Rattle.std.proofs.lemmas.List.{map-append, get_or_default}
use Rattle.std.proofs.lemmas.List.Elements.{filter-append}
use Rattle.diagram_blocks.specs.Kinds.{is_subsystem, is_delay}
use Rattle.diagram_blocks.specs.Meaning.{has_value}
use Rattle.diagram_meaning.proofs.lemmas.Agreement.{All-append_left, All-append_right}
use Rattle.diagram_meaning.specs.Rows.{row_at, rows_of, subsystems_of}
use Rattle.diagram_meaning.specs.Diagram.{Diagram, op_at}
use Rattle.modules_profile.specs.Systems.{systems, system_name}
use Rattle.emit_prelude.specs.Rules.{names}
use Rattle.emit_shape.specs.Names.{root_name, trigger_name}
use Rattle.lustre_syntax.specs.Tree.{set, call, NodeTree, no_node, node_at, FileTree, texts_of}
use Rattle.lustre_syntax.specs.Named.{NamedEquation, renamed_equation, place_of, all_names, NamedExpr}
use Rattle.lustre_syntax.specs.Lawful.{IsLawful}
use Rattle.lustre_settling.proofs.lemmas.Unfolded.{AreCallsFrom, calls-from}
use Rattle.lustre_system.specs.File.{named_file, lustre_file}
use Rattle.lustre_system.specs.Functions.{function_name}
use Rattle.lustre_system.specs.Names.{active_name, reset_name}
use Rattle.lustre_system.specs.RowEquations.{only_if, memory_equations, value_equations, child_equations, row_equations}
use Rattle.lustre_system.specs.SystemNodes.{active_value, reset_value, trigger_memory, has_trigger, system_equations, system_node}
use Rattle.lustre_rows.proofs.lemmas.FunctionCalls.{memory-calls, value-calls}
use Rattle.lustre_right.specs.Paths.{node_place, node_named, callee_of, callees}
use Rattle.lustre_right.specs.Right.{function_count}
use Rattle.lustre_rows.proofs.lemmas.Lists.{all-after, all-only}
use Rattle.lustre_lives.proofs.Nodes.{texts, later_texts, texts-placed, texts-are, node-count, system_placed, in-file, system-there}

-- ---- Places of names

past : (test : List ℕ → Bool) (i bound n : ℕ) (xs : List (List ℕ)) → bound ≤ i → bound ≤ n →
    bound ≤ unwrap_or (position_from test i xs) n
past test i bound n [] low end = end
past test i bound n (x ∷ xs) low end = by (test x) (past test (i + 1) bound n xs (omega arith) end)
  where
    by : (t : Bool) → bound ≤ unwrap_or (position_from test (i + 1) xs) n →
        bound ≤ unwrap_or (cond t (Some i) (position_from test (i + 1) xs)) n
    by true later = low
    by false later = later

-- no node of a file has the empty name
none-empty : (ss : List (Option ℕ)) (i : ℕ) → position_from (bytes_eq []) i (map system_name ss ++ root_name ∷ []) ≡ None
none-empty [] i = refl
none-empty (None ∷ ss) i = none-empty ss (i + 1)
none-empty (Some e ∷ ss) i = none-empty ss (i + 1)

-- names of which the functions' come first
module _ (more : List (List ℕ)) (no_empty : position_from (bytes_eq []) 8 more ≡ None) where
  function-low : (k : ℕ) → place_of (names ++ more) (function_name k) < length (names ++ more) →
      nat_le function_count (place_of (names ++ more) (function_name k)) ≡ false
  function-low zero within = refl
  function-low (suc zero) within = refl
  function-low (suc (suc zero)) within = refl
  function-low (suc (suc (suc zero))) within = refl
  function-low (suc (suc (suc (suc zero)))) within = refl
  function-low (suc (suc (suc (suc (suc zero))))) within = refl
  function-low (suc (suc (suc (suc (suc (suc zero)))))) within = refl
  function-low (suc (suc (suc (suc (suc (suc (suc zero))))))) within = refl
  function-low (suc (suc (suc (suc (suc (suc (suc (suc k)))))))) within =
      let last : place_of (names ++ more) [] ≡ length (names ++ more) = ap (λ o. unwrap_or o (length (names ++ more))) no_empty in
      absurd (omega (arith, within, last))

  child-high : (e : ℕ) → nat_le function_count (place_of (names ++ more) (system_name (Some e))) ≡ true
  child-high e =
      le-leb 8 (place_of (names ++ more) (system_name (Some e)))
      (past (bytes_eq (system_name (Some e))) 8 8 (length (names ++ more)) more (omega arith) (omega arith))

-- ---- Calls by names

-- the callee of an equation has a place below a bound
abbrev IsWithin : (List ℕ → ℕ) → ℕ → NamedEquation → Type 0
IsWithin node_of bound (set line text e) = ⊤
IsWithin node_of bound (call line given callee arguments) = node_of callee < bound

within-from : (nodes : List NodeTree) (k : ℕ) (place node_of : List ℕ → ℕ) (es : List NamedEquation) →
    AreCallsFrom nodes k (map (renamed_equation place node_of) es) → AllByRecursion (IsWithin node_of (length nodes)) es
within-from nodes k place node_of [] calls = tt
within-from nodes k place node_of (set line text e ∷ es) calls = (tt, within-from nodes k place node_of es calls)
within-from nodes k place node_of (call line given callee arguments ∷ es) calls =
    (calls.0.there, within-from nodes k place node_of es calls.1)

-- an equation that calls no node but those of functions
abbrev CallsFunctions : NamedEquation → Type 0
CallsFunctions (set line text e) = ⊤
CallsFunctions (call line given callee arguments) = (k : ℕ) × (callee ≡ function_name k)

-- the names of an instance and those of nodes have these places; the nodes of functions come first
module _ (place node_of : List ℕ → ℕ) (bound : ℕ)
    (low : (k : ℕ) → node_of (function_name k) < bound → nat_le function_count (node_of (function_name k)) ≡ false)
    (high : (e : ℕ) → nat_le function_count (node_of (system_name (Some e))) ≡ true) where
  abbrev callees_of : List NamedEquation → List ℕ
  callees_of es = flat_map callee_of (map (renamed_equation place node_of) es)

  -- the calls of nodes of systems
  abbrev pub kept : List NamedEquation → List ℕ
  kept es = filter (nat_le function_count) (callees_of es)

  abbrev AreWithin : List NamedEquation → Type 0
  AreWithin es = AllByRecursion (IsWithin node_of bound) es

  kept-after : (xs ys : List NamedEquation) → kept (xs ++ ys) ≡ kept xs ++ kept ys
  kept-after xs ys =
      ap (λ es. filter (nat_le function_count) (flat_map callee_of es)) (map-append (renamed_equation place node_of) xs ys)
      ∙ ap (filter (nat_le function_count))
      (flat_map-append callee_of (map (renamed_equation place node_of) xs) (map (renamed_equation place node_of) ys))
      ∙ filter-append (nat_le function_count) (callees_of xs) (callees_of ys)

  functions-dropped : (es : List NamedEquation) → AllByRecursion CallsFunctions es → AreWithin es → kept es ≡ []
  functions-dropped [] functions within = refl
  functions-dropped (set line text e ∷ es) functions within = functions-dropped es functions.1 within.1
  functions-dropped (call line given callee arguments ∷ es) functions within =
      let (k, named) = functions.0 in
      let below = subst (λ text. node_of text < bound → nat_le function_count (node_of text) ≡ false) (sym named) (low k) within.0 in
      ap (λ t. cond t (node_of callee ∷ kept es) (kept es)) below ∙ functions-dropped es functions.1 within.1

  module _ (d : Diagram) (s : Option ℕ) where
    abbrev child_of : ℕ → ℕ
    child_of e = node_of (system_name (Some e))

    child-kept : (b : ℕ) (t : Bool) → kept (only_if t (child_equations d s b)) ≡ (if t then child_of b ∷ [] else [])
    child-kept b true = ap (λ t. cond t (child_of b ∷ []) []) (high b)
    child-kept b false = refl

    function-called : (k : ℕ) (given : List (List ℕ)) (arguments : List NamedExpr) →
        CallsFunctions (call 0 given (function_name k) arguments)
    function-called k given arguments = (k, refl)

    row-kept : (b : ℕ) → AreWithin (row_equations d s b) →
        kept (row_equations d s b) ≡ (if is_subsystem (row_at d.rows b).kind then child_of b ∷ [] else [])
    row-kept b within =
        let memories = only_if (is_delay (op_at d b)) (memory_equations d s b) in
        let own = only_if (has_value (row_at d.rows b).kind) (value_equations d s b) in
        let child = only_if (is_subsystem (row_at d.rows b).kind) (child_equations d s b) in
        let functions = all-after CallsFunctions memories own
        (all-only CallsFunctions (is_delay (op_at d b)) (memory_equations d s b)
        (λ is. memory-calls d s CallsFunctions (λ text value. tt) function-called b))
        (all-only CallsFunctions (has_value (row_at d.rows b).kind) (value_equations d s b)
        (λ is. value-calls d s CallsFunctions (λ text value. tt) function-called b)) in
        kept-after (memories ++ own) child
        ∙ ap (λ ks. ks ++ kept child)
        (functions-dropped (memories ++ own) functions (All-append_left (IsWithin node_of bound) (memories ++ own) child within))
        ∙ child-kept b (is_subsystem (row_at d.rows b).kind)

    rows-kept : (bs : List ℕ) → AreWithin (flat_map (row_equations d s) bs) →
        kept (flat_map (row_equations d s) bs) ≡ map child_of (filter (λ b. is_subsystem (row_at d.rows b).kind) bs)
    rows-kept [] within = refl
    rows-kept (b ∷ bs) within =
        let more = flat_map (row_equations d s) bs in
        kept-after (row_equations d s b) more
        ∙ ap₂ (λ (xs ys : List ℕ). xs ++ ys) (row-kept b (All-append_left (IsWithin node_of bound) (row_equations d s b) more within))
        (rows-kept bs (All-append_right (IsWithin node_of bound) (row_equations d s b) more within))
        ∙ joined (is_subsystem (row_at d.rows b).kind) (filter (λ c. is_subsystem (row_at d.rows c).kind) bs)
      where
        joined : (t : Bool) (cs : List ℕ) → (if t then child_of b ∷ [] else []) ++ map child_of cs ≡ map child_of (cond t (b ∷ cs) cs)
        joined true cs = refl
        joined false cs = refl

    trigger-dropped : (t : Bool) → kept (only_if t (set 0 trigger_name (trigger_memory d s) ∷ [])) ≡ []
    trigger-dropped true = refl
    trigger-dropped false = refl

    pub children-kept : AreWithin (system_equations d s) → kept (system_equations d s) ≡ map child_of (subsystems_of d.rows s)
    children-kept within =
        let trigger = only_if (has_trigger d s) (set 0 trigger_name (trigger_memory d s) ∷ []) in
        let rest = set 0 active_name (active_value d s) ∷ set 0 reset_name (reset_value d s)
        ∷ flat_map (row_equations d s) (rows_of d.rows s) in
        kept-after trigger rest ∙ ap (λ ks. ks ++ kept rest) (trigger-dropped (has_trigger d s))
        ∙ rows-kept (rows_of d.rows s) (All-append_right (IsWithin node_of bound) trigger rest within).1.1

-- ---- Of a model's file

module _ (d : Diagram) (hyper : ℕ) (lawful : IsLawful (lustre_file d hyper)) (s : Option ℕ) (there : Contains (systems d.rows) s) where
  abbrev file : FileTree
  file = lustre_file d hyper

  abbrev place : List ℕ → ℕ
  place = place_of (texts_of (all_names (system_node d s)))

  abbrev node_of : List ℕ → ℕ
  node_of = place_of (texts d hyper)

  texts-begin : (P : List (List ℕ) → Type 0) → P (names ++ later_texts d hyper) → P (texts d hyper)
  texts-begin P is = subst P (sym (texts-are d hyper)) is

  no-empty : position_from (bytes_eq []) 8 (later_texts d hyper) ≡ None
  no-empty = none-empty (reverse (systems d.rows)) 8

  low : (k : ℕ) → node_of (function_name k) < length file.nodes → nat_le function_count (node_of (function_name k)) ≡ false
  low k within =
      texts-begin (λ ts. place_of ts (function_name k) < length ts → nat_le function_count (place_of ts (function_name k)) ≡ false)
      (function-low (later_texts d hyper) no-empty k)
      (subst (λ n. node_of (function_name k) < n) (node-count d hyper) within)

  high : (e : ℕ) → nat_le function_count (node_of (system_name (Some e))) ≡ true
  high e =
      texts-begin (λ ts. nat_le function_count (place_of ts (system_name (Some e))) ≡ true)
      (child-high (later_texts d hyper) no-empty e)

  within-file : AllByRecursion (IsWithin node_of (length file.nodes)) (system_equations d s)
  within-file =
      let (k, below, is) = in-file d hyper s there in
      let here : node_at file.nodes k ≡ system_placed d hyper s =
      get_or_default file.nodes k no_node (system_placed d hyper s) below ∙ is in
      within-from file.nodes k place node_of (system_equations d s)
      (subst (λ (n : NodeTree). AreCallsFrom file.nodes k n.equations) here (calls-from file.nodes k lawful.nodes below))

  pub calls-are : filter (nat_le function_count) (callees (node_named file (system_name s)))
      ≡ map (λ e. node_place file (system_name (Some e))) (subsystems_of d.rows s)
  calls-are =
      ap (λ n. filter (nat_le function_count) (callees n)) (system-there d hyper lawful s there)
      ∙ children-kept place node_of (length file.nodes) low high d s within-file
      ∙ ap (λ ts. map (λ e. place_of ts (system_name (Some e))) (subsystems_of d.rows s))
      (sym (texts-placed (texts d hyper) (named_file d hyper)))
