-- The text of a lawful program is read as it, lines aside.
use Rattle.std.proofs.Common.{◌≡◌, refl, sym, ◌∙◌, ap, subst, ℕ, suc, ◌+◌, ◌<◌, List, [], ◌∷◌, ◌++◌, length, map, filter, filter_map, Bool, true, false, not, ◌||◌, Some, None, Ok, slice_get, codes, bytes_eq, nat_le, nat_lt, if◌then◌else◌, le-leb, arith}
use Rattle.std.specs.List.{position_from, cons_option, AllByRecursion}
use Rattle.std.proofs.lemmas.List.{append_assoc, append-nil, map-append, length-append, length-map, get_or_append_left}
use Rattle.base_core.specs.Numbers.{reported_number}
use Rattle.c_syntax.specs.declared.program.FieldKind.{FieldKind}
use Rattle.c_syntax.specs.declared.program.FieldKind.TheVariants.{Number, Array, Struct}
use Rattle.c_syntax.specs.Tree.{StmtTree, assign, assign_at, branch, call, StmtTrees, no_stmts, more_stmts, FieldTree, StructTree, PureTree, ProcedureTree, ProgramTree}
use Rattle.c_syntax.specs.Outputs.{has_name, may_be_named}
use Rattle.c_syntax.specs.RootFields.{is_number_kind, is_number, number_names}
use Rattle.c_rules.specs.Resolve.{Known, function_names, check_params, resolve_pure, array_limit, resolve_kind, is_number_written, number_name, resolve_fields, resolve_struct, resolve_pures, resolve_structs, has_root, resolve_program}
use Rattle.base_core.specs.Results.{◌>>=◌}
use Rattle.c_syntax.specs.Lawful.{AreDistinct, AreApart, ArePures, IsLawfulPure, AreStructs, IsLawfulStruct, IsLawfulKind, IsLawful, chains_of, pure_names, procedure_names, pure_without_lines, procedure_without_lines, without_lines}
use Rattle.c_rules.specs.AlikeTexts.{is_alike}
use Rattle.c_rules.specs.Reading.{IsTextOf, CText}
use Rattle.c_syntax.specs.Names.{name_at}
use Rattle.c_printer.specs.Laws.{NotesChangeNoReading}
use Rattle.c_printer.specs.Notes.{Notes, note_at, notes_on}
use Rattle.c_printer.specs.Printing.{struct_name, deeper, noted_bytes}
use Rattle.c_reading_laws.proofs.lemmas.ParsedFile.{one_written}
use Rattle.c_reading_laws.proofs.lemmas.Readings.{one-reading}
use Rattle.c_syntax.proofs.lemmas.NamePlaces.{position_from-named}
use Rattle.c_syntax.proofs.lemmas.NameFacts.{AreDistinct-front, AreDistinct-seam, has_name-there, AreApart-none, AreApart-more}
use Rattle.c_printer.proofs.Params.{check_params-pass}
use Rattle.c_printer.proofs.PrintedTrees.{written_pure_param, written_pure, read_pure, pure_lines, written_pures, read_pures, written_kind, field_above, written_fields, head_line, written_struct, struct_lines, written_structs, body_above, procedure_lines, read_procedures, Above, stmt_lines, else_line, read_stmt, read_stmts, structs_line, procedures_line, written_program, read_program}
use Rattle.c_printer.proofs.PrintedScopes.{pure-speaks, pure-resolves, same-map}
use Rattle.c_printer.proofs.PrintedResolving.{expr-resolved}
use Rattle.c_grammar.specs.Tokens.{last_line}
use Rattle.c_syntax.specs.Limits.{stmt_depth, stmts_depth, stmt_exprs_depth, stmts_exprs_depth, PureFits, ProcedureFits, IsWithinLimits}
use Rattle.c_printer.proofs.PrintedProcedures.{one_more, procedures_without_lines-read, after_procedures, procedures-resolved}
use Rattle.c_printer.proofs.AlikeText.{text-alike}
use Rattle.c_printer.proofs.PrintedProgram.{program-read, program-header, slice_get-front, pures-some, moved, pures-distinct}

-- the parameters of a pure function, by their names
pure_params-names : (line : ℕ) (names : List (List ℕ)) → map (λ q. q.name) (map (written_pure_param line) names) ≡ names
pure_params-names line [] = refl
pure_params-names line (n ∷ ns) = ap (λ x. n ∷ x) (pure_params-names line ns)

-- what is known once these pure functions are read
abbrev pub after_pures : List PureTree → Known
after_pures pures = record { pures = pures; structs = []; procedures = []; chains = [] }

-- no function before has the name of a further one
not_before : (pures : List (List ℕ)) (procedures : List (List ℕ)) (name : List ℕ) (later : List (List ℕ)) →
    AreDistinct ((pures ++ procedures) ++ name ∷ later) → has_name (pures ++ procedures) name ≡ false
not_before pures procedures name later h = AreDistinct-seam (pures ++ procedures) name later h

pure-resolved : (p : ProgramTree) (lawful : IsLawful p) (earlier : List PureTree) (q : PureTree)
    (later : List PureTree) → p.pures ≡ earlier ++ q ∷ later → (done : List PureTree) →
    map pure_without_lines done ≡ map pure_without_lines earlier → IsLawfulPure earlier q → (l : ℕ) →
    resolve_pure (after_pures done) (written_pure p l q) ≡ Ok (read_pure l q)
pure-resolved p lawful earlier q later whole done alike h l =
    let names : function_names (after_pures done) ≡ pure_names earlier =
    append-nil (map (λ x. x.name) done) ∙ same-map pure_without_lines (λ x. x.name) done earlier alike in
    let distinct : AreDistinct (pure_names earlier ++ q.name ∷ pure_names later) =
    subst AreDistinct (ap pure_names whole ∙ map-append (λ x. x.name) earlier (q ∷ later))
    (pures-distinct p lawful) in
    let unused : has_name (function_names (after_pures done)) q.name ≡ false = ap (λ ns. has_name ns q.name) names
    ∙ AreDistinct-seam (pure_names earlier) q.name (pure_names later) distinct in
    let params : map (λ x. x.name) (map (written_pure_param (reported_number (l + 1))) q.params) ≡ q.params =
    pure_params-names (reported_number (l + 1)) q.params in
    let pass : check_params (function_names (after_pures done)) []
    (map (λ x. (x.line, x.name)) (map (written_pure_param (reported_number (l + 1))) q.params)) ≡ Ok tt =
    check_params-pass (λ x. x.line) (λ x. x.name) (function_names (after_pures done)) []
    (map (written_pure_param (reported_number (l + 1))) q.params) (subst AreDistinct (sym params) h.params)
    (subst (λ ns. AreApart ns (function_names (after_pures done))) (sym params)
    (subst (AreApart q.params) (sym names) h.apart))
    (AreApart-none (map (λ x. x.name) (map (written_pure_param (reported_number (l + 1))) q.params))) in
    let body : _ =
    expr-resolved _ _ _ (pure-speaks p q.params earlier (q ∷ later) whole (pures-distinct p lawful)
    (λ k x there. pures-some [] p.pures lawful.pures k x
    (subst (λ ps. slice_get ps k ≡ Some x) (sym whole) (slice_get-front earlier (q ∷ later) k x there))) h.params)
    (pure-resolves p (after_pures done) q.params earlier (q ∷ later) whole (pures-distinct p lawful) alike h.params)
    (reported_number (l + 1 + 1)) q.body h.body in
    rw (unused, pass, params, body) refl

pures-resolved : (p : ProgramTree) (lawful : IsLawful p) (earlier later : List PureTree) → p.pures ≡ earlier ++ later →
    (done : List PureTree) → map pure_without_lines done ≡ map pure_without_lines earlier → ArePures earlier later →
    (l : ℕ) → resolve_pures (after_pures done) (written_pures p l later) ≡ Ok (after_pures (done ++ read_pures l later))
pures-resolved p lawful earlier [] whole done alike h l = ap (λ x. Ok (after_pures x)) (sym (append-nil done))
pures-resolved p lawful earlier (q ∷ qs) whole done alike h l =
    ap (λ r. r >>= (λ x. resolve_pures (after_pures (done ++ x ∷ [])) (written_pures p (l + pure_lines) qs)))
    (pure-resolved p lawful earlier q qs whole done alike h.0 l)
    ∙ pures-resolved p lawful (earlier ++ q ∷ []) qs (moved p.pures earlier q qs whole) (done ++ read_pure l q ∷ [])
    (one_more pure_without_lines done earlier (read_pure l q) q alike refl) h.1 (l + pure_lines)
    ∙ ap (λ x. Ok (after_pures x)) (append_assoc done (read_pure l q ∷ []) (read_pures (l + pure_lines) qs))

-- what is known once these structs are read too
abbrev pub after_structs : List PureTree → List StructTree → Known
after_structs pures structs = record { pures = pures; structs = structs; procedures = []; chains = [] }

kind-resolved : (p : ProgramTree) (pures : List PureTree) (earlier later : List StructTree) →
    p.structs ≡ earlier ++ later → AreDistinct (map (λ d. d.name) earlier) → (kind : FieldKind) →
    IsLawfulKind (length earlier) kind → resolve_kind (after_structs pures earlier) (written_kind p kind) ≡ Ok kind
kind-resolved p pures earlier later whole distinct (Number type) h = refl
kind-resolved p pures earlier later whole distinct (Array type count) h =
    let some : nat_lt 0 count ≡ true = le-leb 1 count (omega (arith, h.0)) in
    let few : nat_le count array_limit ≡ true = le-leb count array_limit (omega (arith, h.1)) in
    rw (some, few) refl
kind-resolved p pures earlier later whole distinct (Struct k) h =
    let long : k < length (map (λ d. d.name) earlier) = subst (λ n. k < n) (sym (length-map earlier (λ d. d.name))) h in
    let name : struct_name p k ≡ name_at (map (λ d. d.name) earlier) k =
    ap (λ ds. name_at (map (λ d. d.name) ds) k) whole
    ∙ ap (λ ns. name_at ns k) (map-append (λ d. d.name) earlier later)
    ∙ get_or_append_left (map (λ d. d.name) earlier) (map (λ d. d.name) later) [] k long in
    let place : position_from (λ d. bytes_eq d.name (struct_name p k)) 0 earlier ≡ Some k =
    ap (λ n. position_from (λ d. bytes_eq d.name n) 0 earlier) name
    ∙ position_from-named (λ d. d.name) earlier 0 k distinct long ∙ ap Some (omega arith) in
    rw place refl

number-written : (p : ProgramTree) (kind : FieldKind) → is_number_written (written_kind p kind) ≡ is_number_kind kind
number-written p (Number type) = refl
number-written p (Array type count) = refl
number-written p (Struct k) = refl

-- the names of the number fields are those of the written ones
numbers-written : (p : ProgramTree) (on : List (List ℕ)) (k l : ℕ) (fs : List FieldTree) →
    filter_map number_name (written_fields p on k l fs) ≡ number_names fs
numbers-written p on k l [] = refl
numbers-written p on k l (f ∷ fs) =
    rw (number-written p f.kind, numbers-written p on (k + 1) (l + field_above p on k f + 1) fs) (by (is_number f))
  where
    by : (b : Bool) → cons_option (if b then Some f.name else None) (number_names fs) ≡ map (λ x. x.name)
        (if b then f ∷ filter is_number fs else filter is_number fs)
    by true = refl
    by false = refl

-- a field of the root's struct may have its name
may_be : (is_root test : Bool) → (is_root ≡ true → test ≡ true) → (not is_root || test) ≡ true
may_be false test h = refl
may_be true test h = h refl

fields-resolved : (p : ProgramTree) (pures : List PureTree) (earlier later : List StructTree) →
    p.structs ≡ earlier ++ later → AreDistinct (map (λ d. d.name) earlier) →
    (is_root : Bool) (numbers before on : List (List ℕ)) (k l : ℕ) (fs : List FieldTree) →
    AreDistinct (map (λ f. f.name) fs) → AreApart (map (λ f. f.name) fs) before →
    AllByRecursion (λ f. IsLawfulKind (length earlier) f.kind) fs →
    (is_root ≡ true → AllByRecursion (λ f. may_be_named numbers (is_number f) f.name ≡ true) fs) →
    resolve_fields (after_structs pures earlier) is_root numbers before (written_fields p on k l fs) ≡ Ok fs
fields-resolved p pures earlier later whole distinct is_root numbers before on k l [] unlike apart kinds outputs = refl
fields-resolved p pures earlier later whole distinct is_root numbers before on k l (f ∷ fs) unlike apart kinds outputs =
    rw (
      apart.0,
      kind-resolved p pures earlier later whole distinct f.kind kinds.0,
      number-written p f.kind,
      may_be is_root (may_be_named numbers (is_number f) f.name) (λ e. (outputs e).0),
      fields-resolved p pures earlier later whole distinct is_root numbers (f.name ∷ before) on (k + 1)
          (l + field_above p on k f + 1) fs unlike.2
          (AreApart-more (map (λ x. x.name) fs) f.name before unlike.1 apart.1) kinds.1 (λ e. (outputs e).1),
    ) refl

struct-resolved : (p : ProgramTree) (notes : Notes) (pures : List PureTree) (earlier : List StructTree) (d : StructTree)
    (later : List StructTree) → p.structs ≡ earlier ++ d ∷ later → AreDistinct (map (λ x. x.name) p.structs) →
    IsLawfulStruct (length earlier) d → (k l : ℕ) →
    resolve_struct (after_structs pures earlier) (written_struct p notes k l d) ≡ Ok d
struct-resolved p notes pures earlier d later whole distinct h k l =
    let on : List (List ℕ) = (notes_on notes k).fields in
    let first : ℕ = head_line (notes_on notes k).above l + 1 in
    let all : AreDistinct (map (λ x. x.name) earlier ++ d.name ∷ map (λ x. x.name) later) =
    subst AreDistinct (ap (map (λ x. x.name)) whole ∙ map-append (λ x. x.name) earlier (d ∷ later)) distinct in
    let unused : has_name (map (λ x. x.name) earlier) d.name ≡ false =
    AreDistinct-seam (map (λ x. x.name) earlier) d.name (map (λ x. x.name) later) all in
    let fields : resolve_fields (after_structs pures earlier) (bytes_eq d.name (codes "root")) (number_names d.fields)
    [] (written_fields p on 0 first d.fields) ≡ Ok d.fields =
    fields-resolved p pures earlier (d ∷ later) whole
    (AreDistinct-front (map (λ x. x.name) earlier) (d.name ∷ map (λ x. x.name) later) all)
    (bytes_eq d.name (codes "root")) (number_names d.fields) [] on 0 first d.fields h.fields
    (AreApart-none (map (λ f. f.name) d.fields)) h.kinds h.outputs in
    rw (unused, numbers-written p on 0 first d.fields, fields) refl

structs-resolved : (p : ProgramTree) (notes : Notes) (pures : List PureTree) (earlier later : List StructTree) →
    p.structs ≡ earlier ++ later → AreDistinct (map (λ x. x.name) p.structs) → AreStructs (length earlier) later →
    (k l : ℕ) → resolve_structs (after_structs pures earlier) (written_structs p notes k l later) ≡ Ok
    (after_structs pures p.structs)
structs-resolved p notes pures earlier [] whole distinct h k l = ap (λ x. Ok (after_structs pures x)) (sym (whole ∙ append-nil earlier))
structs-resolved p notes pures earlier (d ∷ ds) whole distinct h k l =
    ap (λ r. r
    >>= (λ x. resolve_structs (after_structs pures (earlier ++ x ∷ []))
    (written_structs p notes (k + 1) (l + struct_lines p notes k d) ds)))
    (struct-resolved p notes pures earlier d ds whole distinct h.0 k l)
    ∙ structs-resolved p notes pures (earlier ++ d ∷ []) ds (moved p.structs earlier d ds whole) distinct
    (subst (λ n. AreStructs n ds) (sym (length-append earlier (d ∷ []))) h.1) (k + 1)
    (l + struct_lines p notes k d)

module _ (above : Above) where
  mutual
    -- lines are nothing to depths
    stmt_depth-read : (m l : ℕ) (s : StmtTree) → stmt_depth (read_stmt above m l s) ≡ stmt_depth s
    stmt_depth-read m l (assign line f e) = refl
    stmt_depth-read m l (assign_at line f index e) = refl
    stmt_depth-read m l (branch line test on_true on_false) =
        rw (stmts_depth-read (deeper m) (l + 1) on_true, stmts_depth-read (deeper m) (else_line above m l on_true) on_false) refl
    stmt_depth-read m l (call line k target es) = refl

    stmts_depth-read : (m l : ℕ) (ss : StmtTrees) → stmts_depth (read_stmts above m l ss) ≡ stmts_depth ss
    stmts_depth-read m l no_stmts = refl
    stmts_depth-read m l (more_stmts s ss) =
        rw (stmt_depth-read m l s, stmts_depth-read m (l + stmt_lines above m s) ss) refl

  mutual
    stmt_exprs_depth-read : (m l : ℕ) (s : StmtTree) → stmt_exprs_depth (read_stmt above m l s) ≡ stmt_exprs_depth s
    stmt_exprs_depth-read m l (assign line f e) = refl
    stmt_exprs_depth-read m l (assign_at line f index e) = refl
    stmt_exprs_depth-read m l (branch line test on_true on_false) =
        rw (
          stmts_exprs_depth-read (deeper m) (l + 1) on_true,
          stmts_exprs_depth-read (deeper m) (else_line above m l on_true) on_false,
        ) refl
    stmt_exprs_depth-read m l (call line k target es) = refl

    stmts_exprs_depth-read : (m l : ℕ) (ss : StmtTrees) → stmts_exprs_depth (read_stmts above m l ss) ≡ stmts_exprs_depth ss
    stmts_exprs_depth-read m l no_stmts = refl
    stmts_exprs_depth-read m l (more_stmts s ss) =
        rw (stmt_exprs_depth-read m l s, stmts_exprs_depth-read m (l + stmt_lines above m s) ss) refl

pures-fit : (l : ℕ) (qs : List PureTree) → AllByRecursion PureFits qs → AllByRecursion PureFits (read_pures l qs)
pures-fit l [] h = tt
pures-fit l (q ∷ qs) h = (record { params = h.0.params; body = h.0.body }, pures-fit (l + pure_lines) qs h.1)

procedures-fit : (p : ProgramTree) (notes : Notes) (k l : ℕ) (qs : List ProcedureTree) → AllByRecursion ProcedureFits qs →
    AllByRecursion ProcedureFits (read_procedures p notes k l qs)
procedures-fit p notes k l [] h = tt
procedures-fit p notes k l (q ∷ qs) h =
    let first : ℕ = head_line (note_at notes.procedures k) l + 1 in (
      record {
        params = h.0.params;
        statements = rw (stmts_depth-read (body_above p notes q) 4 first q.body) h.0.statements;
        expressions = rw (stmts_exprs_depth-read (body_above p notes q) 4 first q.body) h.0.expressions;
      },
      procedures-fit p notes (k + 1) (l + procedure_lines p notes k q) qs h.1,
    )

pures-counted : (l : ℕ) (qs : List PureTree) → length (read_pures l qs) ≡ length qs
pures-counted l [] = refl
pures-counted l (q ∷ qs) = ap suc (pures-counted (l + pure_lines) qs)

pures_without_lines-read : (l : ℕ) (qs : List PureTree) → map pure_without_lines (read_pures l qs) ≡ map pure_without_lines qs
pures_without_lines-read l [] = refl
pures_without_lines-read l (q ∷ qs) = ap (λ xs. pure_without_lines q ∷ xs) (pures_without_lines-read (l + pure_lines) qs)

module _ (p : ProgramTree) (lawful : IsLawful p) (notes : Notes) where
  pures_are : map pure_without_lines (read_pures 2 p.pures) ≡ map pure_without_lines p.pures
  pures_are = pures_without_lines-read 2 p.pures

  procedures_are : map procedure_without_lines (read_procedures p notes 0 (procedures_line p notes) p.procedures)
      ≡ map procedure_without_lines p.procedures
  procedures_are = procedures_without_lines-read p notes 0 (procedures_line p notes) p.procedures

  abbrev known_of : Known
  known_of = after_procedures (read_pures 2 p.pures) p.structs (read_procedures p notes 0 (procedures_line p notes) p.procedures)
      (chains_of [] p.procedures)

  root-there : has_root known_of ≡ true
  root-there =
      let procedures : map (λ x. x.name) (read_procedures p notes 0 (procedures_line p notes) p.procedures)
      ≡ procedure_names p.procedures =
      same-map procedure_without_lines (λ x. x.name) (read_procedures p notes 0 (procedures_line p notes) p.procedures) p.procedures
      procedures_are in
      rw (
        has_name-there (λ x. x.name) p.structs lawful.root.of lawful.root.struct
            (codes "root") lawful.root.struct_there lawful.root.struct_name,
        procedures,
        has_name-there (λ x. x.name) p.procedures lawful.root.start lawful.root.start_procedure
            (codes "root_start") lawful.root.start_there lawful.root.start_name,
        has_name-there (λ x. x.name) p.procedures lawful.root.step lawful.root.step_procedure
            (codes "root_step") lawful.root.step_there lawful.root.step_name,
      ) refl

  program-resolved : (last : ℕ) → resolve_program last (written_program p notes) ≡ Ok (read_program p notes)
  program-resolved last =
      let procedures : _ =
      procedures-resolved p lawful notes [] p.procedures refl (read_pures 2 p.pures) pures_are [] refl
      [] lawful.chains lawful.procedures 0 (procedures_line p notes) in
      rw (
        pures-resolved p lawful [] p.pures refl [] refl lawful.pures 2,
        structs-resolved p notes (read_pures 2 p.pures) [] p.structs refl lawful.struct_names lawful.structs
            0 (structs_line p notes),
        procedures,
        root-there,
      ) refl

  program-fits : IsWithinLimits (read_program p notes)
  program-fits = record {
    count = rw (pures-counted 2 p.pures) lawful.limits.count;
    pures = pures-fit 2 p.pures lawful.limits.pures;
    procedures = procedures-fit p notes 0 (procedures_line p notes) p.procedures lawful.limits.procedures;
  }

  -- the text of a lawful program is one of the program with the lines of the text
  pub text-read : CText (noted_bytes notes p) (read_program p notes)
  text-read = record {
    header = program-header p lawful notes;
    written = written_program p notes;
    spelled = program-read p lawful notes;
    resolved = program-resolved (last_line (noted_bytes notes p));
    limits = program-fits;
  }

  -- which is the program itself, lines aside
  pub text-same : without_lines (read_program p notes) ≡ without_lines p
  text-same = λ i. record { pures = pures_are i; structs = p.structs; procedures = procedures_are i }

  pub text-of : (bytes : List ℕ) → bytes ≡ noted_bytes notes p → IsTextOf bytes p
  text-of bytes same =
      let read : CText bytes (read_program p notes) = subst (λ b. CText b (read_program p notes)) (sym same) text-read in
      record {
        reading = read_program p notes;
        read = read;
        one = λ other r. one-reading one_written bytes other (read_program p notes) r read;
        same = text-same;
        alike = ap is_alike same ∙ text-alike p lawful notes;
      }

pub notes_change_no_reading : NotesChangeNoReading
notes_change_no_reading notes p lawful = text-of p lawful notes (noted_bytes notes p) refl
