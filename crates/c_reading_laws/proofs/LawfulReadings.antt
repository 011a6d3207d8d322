-- What is read is lawful.
use Rattle.std.proofs.Common.{◌≡◌, ◌≢◌, refl, sym, ◌∙◌, ap, ℕ, zero, suc, ◌+◌, ◌≤◌, List, [], ◌∷◌, ◌++◌, length, map, Some, Ok, Bool, true, false, not, ◌&&◌, ◌||◌, codes, bytes_eq, slice_get, subst, arith, eqb-true, append_assoc, append-nil, ◌==◌}
use Rattle.std.specs.List.{AllByRecursion, position_from, list_all}
use Rattle.std.proofs.lemmas.List.{length-map}
use Rattle.std.proofs.lemmas.Option.{slice_get_within}
use Rattle.std.proofs.lemmas.Slice.Eq.{bytes_eq-Decides}
use Rattle.c_syntax.specs.declared.code.CType.TheVariants.{I64}
use Rattle.c_syntax.specs.declared.fault.CKind.TheVariants.{Name, TypeRule}
use Rattle.c_syntax.specs.Names.{is_name}
use Rattle.c_grammar.specs.Tokens.{tokens_of, last_line}
use Rattle.c_syntax.specs.Outputs.{has_name}
use Rattle.c_syntax.specs.Tree.{StmtTrees, StructTree, struct_fields, PureTree, ParamTree, ProcedureTree, ProgramTree}
use Rattle.c_grammar.specs.Written.{WrittenParam, WrittenProcedure, WrittenProgram}
use Rattle.base_core.specs.Results.{◌>>=◌, ◌>>◌}
use Rattle.c_rules.specs.Resolve.{unless_fault, on_line, or_unnamed, same_type, Known, function_names, Names, check_params, resolve_stmts, is_lawful_root, resolve_head, resolve_procedure, resolve_pures, resolve_structs, resolve_procedures, has_root, resolve_program}
use Rattle.c_syntax.specs.Chains.{stmts_chain, chain_limit}
use Rattle.c_syntax.specs.Limits.{IsWithinLimits}
use Rattle.c_rules.specs.Reading.{CText}
use Rattle.c_syntax.specs.Lawful.{AreDistinct, AreApart, AreLawfulStmts, pure_names, procedure_names, param_names, IsLawfulProcedure, AreProcedures, chains_of, HasRoot, IsLawful}
use Rattle.c_rules.proofs.lemmas.Resolved.{ok-same, some_same, bind-parts, then-parts, on_line-ok, unless-ok, named-ok, position-there}
use Rattle.c_reading_laws.proofs.LawfulBodies.{stmts-lawful}
use Rattle.c_reading_laws.proofs.WellWritten.{WellProcedure, WellWritten, spelled-well}
use Rattle.c_reading_laws.proofs.LawfulDefinitions.{not-true, both-true, distinct-more, map-append, params-differ, with_pures, PuresDone, pures-done, StructsDone, structs-done, or-given}

abbrev with_procedures : List PureTree → List StructTree → List ProcedureTree → List ℕ → Known
with_procedures pures structs procedures chains = record { pures = pures; structs = structs; procedures = procedures; chains = chains }

-- the position of the root's struct
abbrev IsRootAt : List StructTree → ℕ → Type 0
IsRootAt structs k = position_from (λ d. bytes_eq d.name (codes "root")) 0 structs ≡ Some k

record RootRule (structs : List StructTree) (x : ProcedureTree) : Type 0 where
  start : x.name ≡ codes "root_start" → IsRootAt structs x.of × (x.params ≡ [])
  step : x.name ≡ codes "root_step" → IsRootAt structs x.of × AllByRecursion (λ q. q.type ≢ I64) x.params

abbrev pub param_of : WrittenParam → ParamTree
param_of q = record { name = q.name; type = q.type }

names-of_params : (ps : List WrittenParam) → param_names (map param_of ps) ≡ map (λ q. q.name) ps
names-of_params [] = refl
names-of_params (p ∷ ps) = ap (λ ns. p.name ∷ ns) (names-of_params ps)

no_params : (ps : List WrittenParam) → length ps ≡ 0 → map param_of ps ≡ []
no_params [] e = refl
no_params (p ∷ ps) e = absurd (omega (arith, e))

not_wide : (ps : List WrittenParam) → list_all (λ q. not (same_type q.type I64)) ps ≡ true →
    AllByRecursion (λ q. q.type ≢ I64) (map param_of ps)
not_wide [] e = tt
not_wide (p ∷ ps) e =
    let b : _ = both-true (not (same_type p.type I64)) (list_all (λ q. not (same_type q.type I64)) ps) e in
    (λ wide. wide_no (same_type p.type I64) (ap (λ t. same_type t I64) wide) b.0, not_wide ps b.1)
  where
    wide_no : (b : Bool) → b ≡ true → not b ≡ true → ⊥
    wide_no true e k = cc
    wide_no false e k = cc

root-rule : (structs : List StructTree) (w : WrittenProcedure) (k : ℕ) (body : StmtTrees) → is_lawful_root w ≡ true →
    position_from (λ d. bytes_eq d.name w.of) 0 structs ≡ Some k →
    RootRule structs (record {
      name = w.name;
      private = w.private;
      of = k;
      params = map param_of w.params;
      body = body;
    })
root-rule structs w k body e at =
    let b : _ =
    both-true (not (bytes_eq w.name (codes "root_start"))
    || (bytes_eq w.of (codes "root") && (length w.params == 0))) (not (bytes_eq w.name (codes "root_step"))
    || (bytes_eq w.of (codes "root") && list_all (λ q. not (same_type q.type I64)) w.params)) e in
    record { start = start b.0; step = step b.1 }
  where
    root : bytes_eq w.of (codes "root") ≡ true → IsRootAt structs k
    root is = subst (λ n. position_from (λ d. bytes_eq d.name n) 0 structs ≡ Some k) ((bytes_eq-Decides w.of (codes "root")).0 is) at

    start : (not (bytes_eq w.name (codes "root_start")) || (bytes_eq w.of (codes "root") && (length w.params == 0)))
        ≡ true → w.name ≡ codes "root_start" → IsRootAt structs k × (map param_of w.params ≡ [])
    start h is =
        let c : _ =
        both-true (bytes_eq w.of (codes "root")) (length w.params == 0)
        (or-given (bytes_eq w.name (codes "root_start")) (bytes_eq w.of (codes "root") && (length w.params == 0)) h
        ((bytes_eq-Decides w.name (codes "root_start")).1 is)) in
        (root c.0, no_params w.params (eqb-true (length w.params) 0 c.1))

    step : (not (bytes_eq w.name (codes "root_step"))
        || (bytes_eq w.of (codes "root") && list_all (λ q. not (same_type q.type I64)) w.params)) ≡ true →
        w.name ≡ codes "root_step" → IsRootAt structs k × AllByRecursion (λ q. q.type ≢ I64) (map param_of w.params)
    step h is =
        let c : _ = both-true (bytes_eq w.of (codes "root")) (list_all (λ q. not (same_type q.type I64)) w.params)
        (or-given (bytes_eq w.name (codes "root_step")) (bytes_eq w.of (codes "root")
        && list_all (λ q. not (same_type q.type I64)) w.params) h
        ((bytes_eq-Decides w.name (codes "root_step")).1 is)) in
        (root c.0, not_wide w.params c.1)

record HeadDone (known : Known) (w : WrittenProcedure) (k : ℕ) : Type 0 where
  new : has_name (function_names known) w.name ≡ false
  at : position_from (λ d. bytes_eq d.name w.of) 0 known.structs ≡ Some k
  root : is_lawful_root w ≡ true

head-done : (known : Known) (w : WrittenProcedure) (k : ℕ) → resolve_head known w ≡ Ok k → HeadDone known w k
head-done known w k e =
    let a : _ =
    then-parts (unless_fault (not (has_name (function_names known) w.name)) Name)
    (or_unnamed (position_from (λ d. bytes_eq d.name w.of) 0 known.structs)
    >>= λ j. unless_fault (is_lawful_root w) TypeRule >> Ok j) k e in
    let b : _ =
    bind-parts (or_unnamed (position_from (λ d. bytes_eq d.name w.of) 0 known.structs))
    (λ j. unless_fault (is_lawful_root w) TypeRule >> Ok j) k a.2 in
    let c : _ = then-parts (unless_fault (is_lawful_root w) TypeRule) (Ok b.0) k b.2 in
    record {
      new = not-true (has_name (function_names known) w.name) (unless-ok (not (has_name (function_names known) w.name)) Name a.0 a.1);
      at = named-ok (position_from (λ d. bytes_eq d.name w.of) 0 known.structs) b.0 b.1 ∙ ap Some (ok-same b.0 k c.2);
      root = unless-ok (is_lawful_root w) TypeRule c.0 c.1;
    }

record ProcedureDone (known : Known) (w : WrittenProcedure) (x : ProcedureTree) : Type 0 where
  lawful : IsLawfulProcedure known.pures known.structs known.procedures x
  name : x.name ≡ w.name
  new : has_name (function_names known) w.name ≡ false
  chain : stmts_chain known.chains x.body + 1 ≤ chain_limit
  root : RootRule known.structs x

procedure-done : (known : Known) (w : WrittenProcedure) (x : ProcedureTree) → WellProcedure w →
    resolve_procedure known w ≡ Ok x → ProcedureDone known w x
procedure-done known w x well e =
    let a : _ =
    bind-parts (on_line w.line (resolve_head known w))
    (λ k. check_params (function_names known) [] (map (λ q. (q.line, q.name)) w.params) >>
    (resolve_stmts (record {
      known = known;
      of = Some k;
      fields = struct_fields known.structs k;
      params = map (λ q. q.name) w.params;
    }) w.body
    >>= λ body.
    Ok (record { name = w.name; private = w.private; of = k; params = map param_of w.params; body = body }))) x e in
    let k : ℕ = a.0 in
    let names : Names =
    record {
      known = known;
      of = Some k;
      fields = struct_fields known.structs k;
      params = map (λ q. q.name) w.params;
    } in
    let b : _ =
    then-parts (check_params (function_names known) [] (map (λ q. (q.line, q.name)) w.params))
    (resolve_stmts names w.body
    >>= λ body.
    Ok (record { name = w.name; private = w.private; of = k; params = map param_of w.params; body = body })) x
    a.2 in
    let c : _ =
    bind-parts (resolve_stmts names w.body)
    (λ body.
    Ok (record { name = w.name; private = w.private; of = k; params = map param_of w.params; body = body })) x
    b.2 in
    let h : HeadDone known w k = head-done known w k (on_line-ok w.line (resolve_head known w) k a.1) in
    let at : _ = position-there (λ d. bytes_eq d.name w.of) known.structs k h.at in
    let p : _ = params-differ (λ q. q.line) (λ q. q.name) (function_names known) [] w.params b.0 b.1 well.params in
    let body : _ = stmts-lawful names k w.body c.0 refl well.body c.1 in
    let count : length (map (λ q. q.name) w.params) ≡ length (map param_of w.params) =
    length-map w.params (λ q. q.name) ∙ sym (length-map w.params param_of) in
    subst (λ y. ProcedureDone known w y)
    (ok-same (record { name = w.name; private = w.private; of = k; params = map param_of w.params; body = c.0 }) x
    c.2) (record {
      lawful = record {
        of = slice_get_within known.structs k at.0 at.1;
        params = subst AreDistinct (sym (names-of_params w.params)) p.0;
        apart = subst (λ ns. AreApart ns (function_names known)) (sym (names-of_params w.params)) p.1;
        body = subst
            (λ n. AreLawfulStmts (record {
              pures = known.pures;
              structs = known.structs;
              procedures = known.procedures;
              fields = struct_fields known.structs k;
              params = n;
              of = k;
            }) c.0) count body.0;
      };
      name = refl;
      new = h.new;
      chain = body.1;
      root = root-rule known.structs w k c.0 h.root h.at;
    })

record ProceduresDone (pures : List PureTree) (structs : List StructTree) (earlier : List ProcedureTree)
    (chains : List ℕ) (ws : List WrittenProcedure) (known : Known) : Type 0 where
  new : List ProcedureTree
  is : known ≡ with_procedures pures structs (earlier ++ new) (chains_of chains new)
  lawful : AreProcedures pures structs earlier new
  distinct : AreDistinct (pure_names pures ++ procedure_names (earlier ++ new))
  limits : AllByRecursion (λ n. n ≤ chain_limit) (chains_of chains new)
  roots : AllByRecursion (RootRule structs) new

all-more : {A : Type 0} (P : A → Type 0) (xs : List A) (x : A) → AllByRecursion P xs → P x → AllByRecursion P (xs ++ x ∷ [])
all-more P [] x all one = (one, tt)
all-more P (y ∷ xs) x all one = (all.0, all-more P xs x all.1 one)

procedures-done : (pures : List PureTree) (structs : List StructTree) (earlier : List ProcedureTree) (chains : List ℕ)
    (ws : List WrittenProcedure) (known : Known) → AreDistinct (pure_names pures ++ procedure_names earlier) →
    AllByRecursion (λ n. n ≤ chain_limit) chains → AllByRecursion WellProcedure ws →
    resolve_procedures (with_procedures pures structs earlier chains) ws ≡ Ok known →
    ProceduresDone pures structs earlier chains ws known
procedures-done pures structs earlier chains [] known d limits well e =
    record {
      new = [];
      is = sym (ok-same (with_procedures pures structs earlier chains) known e)
          ∙ ap (λ ps. with_procedures pures structs ps chains) (sym (append-nil earlier));
      lawful = tt;
      distinct =
          subst (λ ps. AreDistinct (pure_names pures ++ procedure_names ps)) (sym (append-nil earlier)) d;
      limits =
          limits;
      roots = tt;
    }
procedures-done pures structs earlier chains (w ∷ ws) known d limits well e =
    let before : Known = with_procedures pures structs earlier chains in
    let b : _ =
    bind-parts (resolve_procedure before w)
    (λ x. resolve_procedures
    (with_procedures pures structs (earlier ++ x ∷ []) (chains ++ (stmts_chain chains x.body + 1) ∷ [])) ws) known
    e in
    let x : ProcedureTree = b.0 in
    let chain : ℕ = stmts_chain chains x.body + 1 in
    let done : ProcedureDone before w x = procedure-done before w x well.0 b.1 in
    let names : pure_names pures ++ procedure_names (earlier ++ x ∷ []) ≡ (pure_names pures ++ procedure_names earlier)
    ++ x.name ∷ [] = ap (λ ns. pure_names pures ++ ns) (map-append (λ p. p.name) earlier (x ∷ []))
    ∙ sym (append_assoc (pure_names pures) (procedure_names earlier) (x.name ∷ [])) in
    let more : AreDistinct (pure_names pures ++ procedure_names (earlier ++ x ∷ [])) =
    subst AreDistinct (sym names)
    (distinct-more (pure_names pures ++ procedure_names earlier) x.name d (ap is_name done.name ∙ well.0.name)
    (ap (has_name (pure_names pures ++ procedure_names earlier)) done.name ∙ done.new)) in
    let later : ProceduresDone pures structs (earlier ++ x ∷ []) (chains ++ chain ∷ []) ws known =
    procedures-done pures structs (earlier ++ x ∷ []) (chains ++ chain ∷ []) ws known more
    (all-more (λ n. n ≤ chain_limit) chains chain limits done.chain) well.1 b.2 in
    let same : (earlier ++ x ∷ []) ++ later.new ≡ earlier ++ x ∷ later.new = append_assoc earlier (x ∷ []) later.new in
    record {
      new = x ∷ later.new;
      is = later.is
          ∙ ap (λ ps. with_procedures pures structs ps (chains_of chains (x ∷ later.new))) same;
      lawful =
          (done.lawful, later.lawful);
      distinct =
          subst (λ ps. AreDistinct (pure_names pures ++ procedure_names ps)) same later.distinct;
      limits =
          later.limits;
      roots = (done.root, later.roots);
    }

-- what has a name that is in a list of names, and what holds of all
name-there : {A : Type 0} (name : A → List ℕ) (xs : List A) (n : List ℕ) → has_name (map name xs) n ≡ true →
    (k : ℕ) × (x : A) × (slice_get xs k ≡ Some x) × (name x ≡ n)
name-there name [] n e = cc
name-there name (x ∷ xs) n e = by (bytes_eq n (name x)) refl e (λ h. name-there name xs n h)
  where
    by : (b : Bool) → bytes_eq n (name x) ≡ b → (b || has_name (map name xs) n) ≡ true →
        (has_name (map name xs) n ≡ true → (k : ℕ) × (y : _) × (slice_get xs k ≡ Some y) × (name y ≡ n)) →
        (k : ℕ) × (y : _) × (slice_get (x ∷ xs) k ≡ Some y) × (name y ≡ n)
    by true is h later = (0, x, refl, sym ((bytes_eq-Decides n (name x)).0 is))
    by false is h later = let l : _ = later h in (suc l.0, l.1, l.2, l.3)

all-there : {A : Type 0} (P : A → Type 0) (xs : List A) (k : ℕ) (x : A) → AllByRecursion P xs → slice_get xs k ≡ Some x → P x
all-there P [] k x all e = cc
all-there P (y ∷ xs) zero x all e = subst P (some_same y x e) all.0
all-there P (y ∷ xs) (suc k) x all e = all-there P xs k x all.1 e

root-there : (p : ProgramTree) → has_name (procedure_names p.procedures) (codes "root_start") ≡ true →
    has_name (procedure_names p.procedures) (codes "root_step") ≡ true →
    AllByRecursion (RootRule p.structs) p.procedures → HasRoot p
root-there p has_start has_step roots =
    let a : _ = name-there (λ q. q.name) p.procedures (codes "root_start") has_start in
    let b : _ = name-there (λ q. q.name) p.procedures (codes "root_step") has_step in
    let start : ProcedureTree = a.1 in
    let step : ProcedureTree = b.1 in
    let start_rule : RootRule p.structs start = all-there (RootRule p.structs) p.procedures a.0 start roots a.2 in
    let step_rule : RootRule p.structs step = all-there (RootRule p.structs) p.procedures b.0 step roots b.2 in
    let s : _ = start_rule.start a.3 in
    let t : _ = step_rule.step b.3 in
    let d : _ = position-there (λ x. bytes_eq x.name (codes "root")) p.structs start.of s.0 in
    record {
      of = start.of;
      struct = d.0;
      struct_there = d.1;
      struct_name = (bytes_eq-Decides d.0.name (codes "root")).0 d.2;
      start = a.0;
      start_procedure = start;
      start_there = a.2;
      start_name = a.3;
      start_of = refl;
      start_params = s.1;
      step = b.0;
      step_procedure = step;
      step_there = b.2;
      step_name = b.3;
      step_of = some_same step.of start.of (sym t.0 ∙ s.0);
      step_params = t.1;
    }

-- the definitions of a program that is resolved, one kind after another
pub record ProgramDone (last : ℕ) (w : WrittenProgram) (p : ProgramTree) : Type 0 where
  pub known_pures : Known
  pub pures : resolve_pures (with_pures []) w.pures ≡ Ok known_pures
  pub known_structs : Known
  pub structs : resolve_structs known_pures w.structs ≡ Ok known_structs
  pub known : Known
  pub procedures : resolve_procedures known_structs w.procedures ≡ Ok known
  pub root : has_root known ≡ true
  pub is : record { pures = known.pures; structs = known.structs; procedures = known.procedures } ≡ p

pub program-done : (last : ℕ) (w : WrittenProgram) (p : ProgramTree) → resolve_program last w ≡ Ok p → ProgramDone last w p
program-done last w p e =
    let a : _ =
    bind-parts (resolve_pures (with_pures []) w.pures) (λ with_pures. resolve_structs with_pures w.structs
    >>= λ with_structs. resolve_procedures with_structs w.procedures >>= λ known.
    on_line last (unless_fault (has_root known) Name) >> Ok
    (record { pures = known.pures; structs = known.structs; procedures = known.procedures })) p e in
    let b : _ =
    bind-parts (resolve_structs a.0 w.structs) (λ with_structs. resolve_procedures with_structs w.procedures
    >>= λ known. on_line last (unless_fault (has_root known) Name) >> Ok
    (record { pures = known.pures; structs = known.structs; procedures = known.procedures })) p a.2 in
    let c : _ =
    bind-parts (resolve_procedures b.0 w.procedures)
    (λ known. on_line last (unless_fault (has_root known) Name) >> Ok
    (record { pures = known.pures; structs = known.structs; procedures = known.procedures })) p b.2 in
    let d : _ =
    then-parts (on_line last (unless_fault (has_root c.0) Name))
    (Ok (record { pures = c.0.pures; structs = c.0.structs; procedures = c.0.procedures })) p c.2 in
    record {
      known_pures = a.0;
      pures = a.1;
      known_structs = b.0;
      structs = b.1;
      known = c.0;
      procedures = c.1;
      root = unless-ok (has_root c.0) Name d.0 (on_line-ok last (unless_fault (has_root c.0) Name) d.0 d.1);
      is = ok-same (record { pures = c.0.pures; structs = c.0.structs; procedures = c.0.procedures }) p d.2;
    }

distinct-back : (xs ys : List (List ℕ)) → AreDistinct (xs ++ ys) → AreDistinct ys
distinct-back [] ys h = h
distinct-back (x ∷ xs) ys h = distinct-back xs ys h.2

pub text-lawful : (bytes : List ℕ) (p : ProgramTree) → CText bytes p → IsLawful p
text-lawful bytes p text =
    let w : WrittenProgram = text.written in
    let well : WellWritten w = spelled-well w (tokens_of bytes) text.spelled in
    let done : ProgramDone (last_line bytes) w p = program-done (last_line bytes) w p text.resolved in
    let pures : PuresDone [] w.pures done.known_pures = pures-done [] w.pures done.known_pures tt well.pures done.pures in
    let structs : StructsDone pures.new [] w.structs done.known_structs =
    structs-done pures.new [] w.structs done.known_structs tt well.structs
    (subst (λ k. resolve_structs k w.structs ≡ Ok done.known_structs) pures.is done.structs) in
    let procedures : ProceduresDone pures.new structs.new [] [] w.procedures done.known =
    procedures-done pures.new structs.new [] [] w.procedures done.known
    (subst AreDistinct (sym (append-nil (pure_names pures.new))) pures.distinct) tt well.procedures
    (subst (λ k. resolve_procedures k w.procedures ≡ Ok done.known) structs.is done.procedures) in
    let same : record { pures = pures.new; structs = structs.new; procedures = procedures.new } ≡ p =
    ap (λ k. record { pures = k.pures; structs = k.structs; procedures = k.procedures }) (sym procedures.is)
    ∙ done.is in
    let roots : has_root (with_procedures pures.new structs.new procedures.new (chains_of [] procedures.new)) ≡ true =
    ap has_root (sym procedures.is) ∙ done.root in
    let r : _ =
    both-true (has_name (map (λ d. d.name) structs.new) (codes "root") && has_name (procedure_names procedures.new)
    (codes "root_start")) (has_name (procedure_names procedures.new) (codes "root_step")) roots in
    let q : _ =
    both-true (has_name (map (λ d. d.name) structs.new) (codes "root"))
    (has_name (procedure_names procedures.new) (codes "root_start")) r.0 in
    subst IsLawful same (record {
      functions = procedures.distinct;
      struct_names = structs.distinct;
      pures = pures.lawful;
      structs = structs.lawful;
      procedures = procedures.lawful;
      root = root-there (record { pures = pures.new; structs = structs.new; procedures = procedures.new }) q.1 r.1 procedures.roots;
      chains = procedures.limits;
      limits = subst IsWithinLimits (sym same) text.limits;
    })
