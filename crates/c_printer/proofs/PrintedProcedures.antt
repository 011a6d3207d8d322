-- The procedures of a printed program stand for what they are printed from.
use Rattle.std.proofs.Common.{◌≡◌, ◌≢◌, refl, sym, ◌∙◌, ap, subst, ℕ, zero, suc, ◌+◌, ◌<◌, ◌≤◌, max, List, [], ◌∷◌, ◌++◌, length, map, Bool, true, false, not, ◌&&◌, ◌||◌, ◌==◌, Some, unwrap_or, Ok, slice_get, codes, bytes_eq, arith}
use Rattle.std.specs.List.{position_from, list_all, AllByRecursion}
use Rattle.std.proofs.lemmas.List.{append_assoc, append-nil, map-append, length-map}
use Rattle.std.proofs.lemmas.Simd.{map-map}
use Rattle.std.proofs.lemmas.Slice.Eq.{bytes_eq-Decides}
use Rattle.base_core.specs.Numbers.{reported_number}
use Rattle.c_syntax.specs.declared.code.CType.{CType}
use Rattle.c_syntax.specs.declared.code.CType.TheVariants.{I64}
use Rattle.c_syntax.specs.Tree.{StmtTree, assign, assign_at, branch, call, StmtTrees, no_stmts, more_stmts, StructTree, PureTree, ParamTree, ProcedureTree, ProgramTree}
use Rattle.c_grammar.specs.Written.{WrittenParam}
use Rattle.c_syntax.specs.Outputs.{has_name}
use Rattle.c_rules.specs.Resolve.{Known, function_names, check_params, is_lawful_root, same_type, resolve_procedure, resolve_procedures}
use Rattle.base_core.specs.Results.{◌>>=◌}
use Rattle.c_syntax.specs.Chains.{stmt_chain, stmts_chain, chain_limit}
use Rattle.c_syntax.specs.Lawful.{AreDistinct, AreApart, AreProcedures, IsLawfulProcedure, IsLawful, chains_of, pure_names, procedure_names, param_names, stmt_without_lines, stmts_without_lines, pure_without_lines, procedure_without_lines}
use Rattle.c_printer.specs.Notes.{Notes, note_at}
use Rattle.c_printer.specs.Printing.{struct_name, deeper}
use Rattle.c_grammar.proofs.lemmas.LiteralLaws.{and_both}
use Rattle.c_syntax.proofs.lemmas.NamePlaces.{map-at, position_from-named}
use Rattle.c_syntax.proofs.lemmas.NameFacts.{AreDistinct-seam, AreApart-none, has_name-there}
use Rattle.c_printer.proofs.Params.{check_params-pass}
use Rattle.c_printer.proofs.PrintedTrees.{written_param, head_line, body_above, written_procedure, read_procedure, procedure_lines, written_procedures, read_procedures, Above, stmt_lines, else_line, read_stmt, read_stmts}
use Rattle.c_printer.proofs.PrintedScopes.{procedure-speaks, procedure-resolves, same-map}
use Rattle.c_printer.proofs.PrintedResolving.{stmts-resolved}
use Rattle.c_printer.proofs.PrintedProgram.{pures-some, moved, pures-distinct, procedures-distinct, procedure-body}

module _ (above : Above) where
  -- lines are nothing to chains of calls
  mutual
    pub stmt_chain-read : (chains : List ℕ) (m l : ℕ) (s : StmtTree) → stmt_chain chains (read_stmt above m l s) ≡ stmt_chain chains s
    stmt_chain-read chains m l (assign line f e) = refl
    stmt_chain-read chains m l (assign_at line f index e) = refl
    stmt_chain-read chains m l (branch line test on_true on_false) =
        ap (λ n. max n (stmts_chain chains (read_stmts above (deeper m) (else_line above m l on_true) on_false)))
        (stmts_chain-read chains (deeper m) (l + 1) on_true)
        ∙ ap (max (stmts_chain chains on_true)) (stmts_chain-read chains (deeper m) (else_line above m l on_true) on_false)
    stmt_chain-read chains m l (call line k target es) = refl

    pub stmts_chain-read : (chains : List ℕ) (m l : ℕ) (ss : StmtTrees) →
        stmts_chain chains (read_stmts above m l ss) ≡ stmts_chain chains ss
    stmts_chain-read chains m l no_stmts = refl
    stmts_chain-read chains m l (more_stmts s ss) =
        ap (λ n. max n (stmts_chain chains (read_stmts above m (l + stmt_lines above m s) ss))) (stmt_chain-read chains m l s)
        ∙ ap (max (stmt_chain chains s)) (stmts_chain-read chains m (l + stmt_lines above m s) ss)

  mutual
    stmt_without_lines-read : (m l : ℕ) (s : StmtTree) → stmt_without_lines (read_stmt above m l s) ≡ stmt_without_lines s
    stmt_without_lines-read m l (assign line f e) = refl
    stmt_without_lines-read m l (assign_at line f index e) = refl
    stmt_without_lines-read m l (branch line test on_true on_false) =
        ap (λ ss. branch 0 test ss (stmts_without_lines (read_stmts above (deeper m) (else_line above m l on_true) on_false)))
        (stmts_without_lines-read (deeper m) (l + 1) on_true)
        ∙ ap (branch 0 test (stmts_without_lines on_true))
        (stmts_without_lines-read (deeper m) (else_line above m l on_true) on_false)
    stmt_without_lines-read m l (call line k target es) = refl

    stmts_without_lines-read : (m l : ℕ) (ss : StmtTrees) → stmts_without_lines (read_stmts above m l ss) ≡ stmts_without_lines ss
    stmts_without_lines-read m l no_stmts = refl
    stmts_without_lines-read m l (more_stmts s ss) =
        ap (λ x. more_stmts x (stmts_without_lines (read_stmts above m (l + stmt_lines above m s) ss))) (stmt_without_lines-read m l s)
        ∙ ap (more_stmts (stmt_without_lines s)) (stmts_without_lines-read m (l + stmt_lines above m s) ss)

module _ (p : ProgramTree) (notes : Notes) where
  procedure_without_lines-read : (k l : ℕ) (q : ProcedureTree) →
      procedure_without_lines (read_procedure p notes k l q) ≡ procedure_without_lines q
  procedure_without_lines-read k l q =
      ap (λ b. record { name = q.name; private = q.private; of = q.of; params = q.params; body = b })
      (stmts_without_lines-read (body_above p notes q) 4 (head_line (note_at notes.procedures k) l + 1) q.body)

  -- the procedures that are read, lines aside
  pub procedures_without_lines-read : (k l : ℕ) (qs : List ProcedureTree) →
      map procedure_without_lines (read_procedures p notes k l qs) ≡ map procedure_without_lines qs
  procedures_without_lines-read k l [] = refl
  procedures_without_lines-read k l (q ∷ qs) =
      ap (λ x. x ∷ map procedure_without_lines (read_procedures p notes (k + 1) (l + procedure_lines p notes k q) qs))
      (procedure_without_lines-read k l q)
      ∙ ap (λ xs. procedure_without_lines q ∷ xs) (procedures_without_lines-read (k + 1) (l + procedure_lines p notes k q) qs)

-- one further image
pub one_more : {A B : Type 0} (f : A → B) (xs ys : List A) (x y : A) → map f xs ≡ map f ys → f x ≡ f y →
    map f (xs ++ x ∷ []) ≡ map f (ys ++ y ∷ [])
one_more f xs ys x y same e = map-append f xs (x ∷ []) ∙ ap (λ zs. zs ++ f x ∷ []) same ∙ ap (λ z. map f ys ++ z ∷ []) e
    ∙ sym (map-append f ys (y ∷ []))

-- what holds of all chains holds of the first ones
all-front : {A : Type 0} (P : A → Type 0) (xs ys : List A) → AllByRecursion P (xs ++ ys) → AllByRecursion P xs
all-front P [] ys h = tt
all-front P (x ∷ xs) ys h = (h.0, all-front P xs ys h.1)

all-last : {A : Type 0} (P : A → Type 0) (xs : List A) (y : A) → AllByRecursion P (xs ++ y ∷ []) → P y
all-last P [] y h = h.0
all-last P (x ∷ xs) y h = all-last P xs y h.1

chains-front : (P : ℕ → Type 0) (chains : List ℕ) (qs : List ProcedureTree) → AllByRecursion P (chains_of chains qs) →
    AllByRecursion P chains
chains-front P chains [] h = h
chains-front P chains (q ∷ qs) h =
    all-front P chains ((stmts_chain chains q.body + 1) ∷ []) (chains-front P (chains ++ (stmts_chain chains q.body + 1) ∷ []) qs h)

-- elements of one name are one
same-place : {A : Type 0} (name : A → List ℕ) (xs : List A) (i j : ℕ) (x y : A) → AreDistinct (map name xs) →
    slice_get xs i ≡ Some x → slice_get xs j ≡ Some y → name x ≡ name y → x ≡ y
same-place name [] i j x y h here there same = cc
same-place name (z ∷ zs) zero zero x y h here there same = cc
same-place name (z ∷ zs) zero (suc j) x y h here there same =
    let is_there : has_name (map name zs) (name z) ≡ true =
    has_name-there name zs j y (name z) there (sym same ∙ ap name (some_same x z (sym here))) in
    absurd (false_true (sym h.1 ∙ is_there))
  where
    some_same : {A : Type 0} (a b : A) → Some a ≡ Some b → a ≡ b
    some_same a b e = ap (λ o. unwrap_or o a) e

    false_true : false ≡ true → ⊥
    false_true e = cc
same-place name (z ∷ zs) (suc i) zero x y h here there same =
    let is_there : has_name (map name zs) (name z) ≡ true =
    has_name-there name zs i x (name z) here (same ∙ ap name (some_same y z (sym there))) in
    absurd (false_true (sym h.1 ∙ is_there))
  where
    some_same : {A : Type 0} (a b : A) → Some a ≡ Some b → a ≡ b
    some_same a b e = ap (λ o. unwrap_or o a) e

    false_true : false ≡ true → ⊥
    false_true e = cc
same-place name (z ∷ zs) (suc i) (suc j) x y h here there same = same-place name zs i j x y h.2 here there same

slice_get-seam : {A : Type 0} (xs : List A) (y : A) (ys : List A) → slice_get (xs ++ y ∷ ys) (length xs) ≡ Some y
slice_get-seam [] y ys = refl
slice_get-seam (x ∷ xs) y ys = slice_get-seam xs y ys

params-typed : (line : ℕ) (ps : List ParamTree) → map (λ q. record { name = q.name; type = q.type }) (map (written_param line) ps) ≡ ps
params-typed line [] = refl
params-typed line (q ∷ qs) = ap (λ x. q ∷ x) (params-typed line qs)

no_wide : (t : CType) → t ≢ I64 → same_type t I64 ≡ false
no_wide I64 h = absurd (h refl)
no_wide _ h = refl

narrow : (line : ℕ) (ps : List ParamTree) → AllByRecursion (λ q. q.type ≢ I64) ps →
    list_all (λ q. not (same_type q.type I64)) (map (written_param line) ps) ≡ true
narrow line [] h = refl
narrow line (q ∷ qs) h = rw (no_wide q.type h.0) (narrow line qs h.1)

-- what is known once these procedures are read too
abbrev pub after_procedures : List PureTree → List StructTree → List ProcedureTree → List ℕ → Known
after_procedures pures structs procedures chains = record { pures = pures; structs = structs; procedures = procedures; chains = chains }

module _ (p : ProgramTree) (lawful : IsLawful p) (notes : Notes) where
  root-named : (of : ℕ) → of ≡ lawful.root.of → bytes_eq (struct_name p of) (codes "root") ≡ true
  root-named of same =
      (bytes_eq-Decides (struct_name p of) (codes "root")).1 (ap (struct_name p) same
      ∙ map-at (λ x. x.name) p.structs lawful.root.of lawful.root.struct [] lawful.root.struct_there
      ∙ lawful.root.struct_name)

  root-lawful : (q : ProcedureTree) (k n l : ℕ) → slice_get p.procedures k ≡ Some q →
      is_lawful_root (written_procedure p notes n l q) ≡ true
  root-lawful q k n l here =
      and_both (not (bytes_eq q.name (codes "root_start")) || start_test) (not (bytes_eq q.name (codes "root_step"))
      || step_test) (start (bytes_eq q.name (codes "root_start")) refl)
      (step (bytes_eq q.name (codes "root_step")) refl)
    where
      on : ℕ
      on = reported_number (head_line (note_at notes.procedures n) l)

      start_test : Bool
      start_test = bytes_eq (struct_name p q.of) (codes "root") && (length (map (written_param on) q.params) == 0)

      step_test : Bool
      step_test =
          bytes_eq (struct_name p q.of) (codes "root") && list_all (λ x. not (same_type x.type I64))
          (map (written_param on) q.params)

      start : (b : Bool) → bytes_eq q.name (codes "root_start") ≡ b → (not b || start_test) ≡ true
      start false e = refl
      start true e =
          let same : q ≡ lawful.root.start_procedure =
          same-place (λ x. x.name) p.procedures k lawful.root.start q lawful.root.start_procedure
          (procedures-distinct p lawful) here lawful.root.start_there
          ((bytes_eq-Decides q.name (codes "root_start")).0 e ∙ sym lawful.root.start_name) in
          let none : q.params ≡ [] = ap (λ x. x.params) same ∙ lawful.root.start_params in
          rw (root-named q.of (ap (λ x. x.of) same ∙ lawful.root.start_of), none) refl

      step : (b : Bool) → bytes_eq q.name (codes "root_step") ≡ b → (not b || step_test) ≡ true
      step false e = refl
      step true e =
          let same : q ≡ lawful.root.step_procedure =
          same-place (λ x. x.name) p.procedures k lawful.root.step q lawful.root.step_procedure
          (procedures-distinct p lawful) here lawful.root.step_there
          ((bytes_eq-Decides q.name (codes "root_step")).0 e ∙ sym lawful.root.step_name) in
          rw (root-named q.of (ap (λ x. x.of) same ∙ lawful.root.step_of))
          (narrow on q.params
          (subst (λ x. AllByRecursion (λ y. y.type ≢ I64) x.params) (sym same) lawful.root.step_params))

  procedure-resolved : (earlier : List ProcedureTree) (q : ProcedureTree) (later : List ProcedureTree) →
      p.procedures ≡ earlier ++ q ∷ later → (pures : List PureTree) →
      map pure_without_lines pures ≡ map pure_without_lines p.pures → (done : List ProcedureTree) →
      map procedure_without_lines done ≡ map procedure_without_lines earlier → (chains : List ℕ) →
      stmts_chain chains q.body + 1 ≤ chain_limit → IsLawfulProcedure p.pures p.structs earlier q → (n l : ℕ) →
      resolve_procedure (after_procedures pures p.structs done chains) (written_procedure p notes n l q)
      ≡ Ok (read_procedure p notes n l q)
  procedure-resolved earlier q later whole pures same_pures done same_done chains short h n l =
      let head : ℕ = head_line (note_at notes.procedures n) l in
      let known : Known = after_procedures pures p.structs done chains in
      let written : List WrittenParam = map (written_param (reported_number head)) q.params in
      let functions : function_names known ≡ pure_names p.pures ++ procedure_names earlier =
      ap (λ ns. ns ++ map (λ x. x.name) done) (same-map pure_without_lines (λ x. x.name) pures p.pures same_pures)
      ∙ ap (λ ns. pure_names p.pures ++ ns)
      (same-map procedure_without_lines (λ x. x.name) done earlier same_done) in
      let all : AreDistinct ((pure_names p.pures ++ procedure_names earlier) ++ q.name ∷ procedure_names later) =
      subst AreDistinct (ap (λ qs. pure_names p.pures ++ procedure_names qs) whole
      ∙ ap (λ ns. pure_names p.pures ++ ns) (map-append (λ x. x.name) earlier (q ∷ later))
      ∙ sym (append_assoc (pure_names p.pures) (procedure_names earlier) (q.name ∷ procedure_names later)))
      lawful.functions in
      let unused : has_name (function_names known) q.name ≡ false = ap (λ ns. has_name ns q.name) functions
      ∙ AreDistinct-seam (pure_names p.pures ++ procedure_names earlier) q.name (procedure_names later) all in
      let place : position_from (λ d. bytes_eq d.name (struct_name p q.of)) 0 p.structs ≡ Some q.of =
      position_from-named (λ d. d.name) p.structs 0 q.of lawful.struct_names
      (subst (λ n. q.of < n) (sym (length-map p.structs (λ d. d.name))) h.of) ∙ ap Some (omega arith) in
      let root : is_lawful_root (written_procedure p notes n l q) ≡ true =
      root-lawful q (length earlier) n l
      (subst (λ qs. slice_get qs (length earlier) ≡ Some q) (sym whole) (slice_get-seam earlier q later)) in
      let names : map (λ x. x.name) written ≡ param_names q.params =
      map-map (λ x. x.name) (written_param (reported_number head)) q.params in
      let pass : check_params (function_names known) [] (map (λ x. (x.line, x.name)) written) ≡ Ok tt =
      check_params-pass (λ x. x.line) (λ x. x.name) (function_names known) [] written
      (subst AreDistinct (sym names) h.params)
      (subst (λ ns. AreApart ns (function_names known)) (sym names)
      (subst (AreApart (param_names q.params)) (sym functions) h.apart))
      (AreApart-none (map (λ x. x.name) written)) in
      let body : _ =
      stmts-resolved _ _ _ (procedure-speaks p q.of (param_names q.params) earlier (q ∷ later) whole
      (pures-distinct p lawful) (procedures-distinct p lawful) lawful.structs
      (pures-some [] p.pures lawful.pures) h.params)
      (procedure-resolves p known q.of (param_names q.params) earlier (q ∷ later) whole (pures-distinct p lawful)
      (procedures-distinct p lawful) lawful.structs same_pures refl same_done h.params) (body_above p notes q) 4 (head + 1) q.body
      (procedure-body p lawful earlier q h) short in
      rw (unused, place, root, pass, names, body, params-typed (reported_number head) q.params) refl

  pub procedures-resolved : (earlier later : List ProcedureTree) → p.procedures ≡ earlier ++ later →
      (pures : List PureTree) → map pure_without_lines pures ≡ map pure_without_lines p.pures →
      (done : List ProcedureTree) → map procedure_without_lines done ≡ map procedure_without_lines earlier →
      (chains : List ℕ) → AllByRecursion (λ n. n ≤ chain_limit) (chains_of chains later) →
      AreProcedures p.pures p.structs earlier later → (n l : ℕ) →
      resolve_procedures (after_procedures pures p.structs done chains) (written_procedures p notes n l later)
      ≡ Ok (after_procedures pures p.structs (done ++ read_procedures p notes n l later) (chains_of chains later))
  procedures-resolved earlier [] whole pures same_pures done same_done chains short h n l =
      ap (λ x. Ok (after_procedures pures p.structs x chains)) (sym (append-nil done))
  procedures-resolved earlier (q ∷ qs) whole pures same_pures done same_done chains short h n l =
      let next : ℕ = stmts_chain chains q.body + 1 in
      let here : next ≤ chain_limit =
      all-last (λ n. n ≤ chain_limit) chains next
      (chains-front (λ n. n ≤ chain_limit) (chains ++ next ∷ []) qs short) in
      let same_chain : stmts_chain chains (read_procedure p notes n l q).body + 1 ≡ next =
      ap (λ m. m + 1) (stmts_chain-read (body_above p notes q) chains 4 (head_line (note_at notes.procedures n) l + 1) q.body) in
      ap (λ r. r
      >>= (λ x.
      resolve_procedures
      (after_procedures pures p.structs (done ++ x ∷ []) (chains ++ (stmts_chain chains x.body + 1) ∷ []))
      (written_procedures p notes (n + 1) (l + procedure_lines p notes n q) qs)))
      (procedure-resolved earlier q qs whole pures same_pures done same_done chains here h.0 n l)
      ∙ ap (λ m.
      resolve_procedures (after_procedures pures p.structs (done ++ read_procedure p notes n l q ∷ []) (chains ++ m ∷ []))
      (written_procedures p notes (n + 1) (l + procedure_lines p notes n q) qs)) same_chain
      ∙ procedures-resolved (earlier ++ q ∷ []) qs (moved p.procedures earlier q qs whole) pures same_pures
      (done ++ read_procedure p notes n l q ∷ [])
      (one_more procedure_without_lines done earlier (read_procedure p notes n l q) q same_done
      (procedure_without_lines-read p notes n l q)) (chains ++ next ∷ []) short h.1 (n + 1) (l + procedure_lines p notes n q)
      ∙ ap (λ x. Ok (after_procedures pures p.structs x (chains_of (chains ++ next ∷ []) qs)))
      (append_assoc done (read_procedure p notes n l q ∷ []) (read_procedures p notes (n + 1) (l + procedure_lines p notes n q) qs))
