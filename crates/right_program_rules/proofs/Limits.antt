-- The program is within the limits on depths and numbers.
use Rattle.std.specs.Prelude.{◌≡◌, ℕ, zero, suc, ◌≤◌, Bool, true, false, if◌then◌else◌, List, [], ◌∷◌, ◌++◌, map, find, length, slice_get, Some, None, option_map, unwrap_or, bytes_eq}
use Rattle.std.specs.List.{AllByRecursion, enumerate_from, position_from}
use Rattle.std.proofs.Common.{ap, subst, arith, inl, inr}
use Rattle.std.proofs.Math.Nat.{max-le}
use Rattle.std.proofs.lemmas.Option.{none-some, same_Some}
use Rattle.diagram_blocks.specs.Kinds.{is_inport, port_of}
use Rattle.modules_profile.specs.declared.LocalRow.{LocalRow}
use Rattle.modules_profile.specs.Locals.{inports}
use Rattle.modules_profile.proofs.lemmas.Members.{in-at, at-in}
use Rattle.c_syntax.specs.declared.Leaf.TheVariants.{Own, Param}
use Rattle.c_syntax.specs.Tree.{read, exprs_of_list, StmtTree, stmts_of_list, PureTree, ParamTree, ProcedureTree}
use Rattle.c_syntax.specs.Limits.{expr_depth, exprs_depth, stmt_depth, stmts_depth, stmt_exprs_depth, stmts_exprs_depth, ProcedureFits, IsWithinLimits}
use Rattle.emit_shape.specs.Names.{container, now_name, input_name}
use Rattle.emit_shape.specs.SystemTree.{SystemTree}
use Rattle.emit_shape.specs.Relocation.{moved_procedure}
use Rattle.emit_shape.specs.Assembled.{code_at, relocation_of, root_value, call_top}
use Rattle.right_linking.specs.Parts.{Parts, program_of, Views}
use Rattle.right_linking.proofs.lemmas.AssembledPlaces.{mapped-length, member, all-made}
use Rattle.right_program_rules.proofs.Lists.{all-append}
use Rattle.right_program_rules.proofs.FunctionNames.{root_both}
use Rattle.right_program_rules.proofs.MovedLaws.{same-stmts_depth, same-stmts_exprs_depth}
use Rattle.right_program_rules.proofs.Positions.{at-position}
use Rattle.right_program_rules.proofs.Ports.{root-few}
use Rattle.right_program_rules.proofs.RootStatements.{params, output_count, start_name, called_names, copy, copies, to_start, to_next, start_stmts, step_stmts}

-- ---- Lists of statements

stmts-shallow : (n : ℕ) (ss : List StmtTree) → AllByRecursion (λ s. stmt_depth s ≤ n) ss → stmts_depth (stmts_of_list ss) ≤ n
stmts-shallow n [] all = omega arith
stmts-shallow n (s ∷ ss) all = max-le all.0 (stmts-shallow n ss all.1)

exprs-shallow : (n : ℕ) (ss : List StmtTree) → AllByRecursion (λ s. stmt_exprs_depth s ≤ n) ss → stmts_exprs_depth (stmts_of_list ss) ≤ n
exprs-shallow n [] all = omega arith
exprs-shallow n (s ∷ ss) all = max-le all.0 (exprs-shallow n ss all.1)

all-mapped : {A B : Type 0} (P : B → Type 0) (f : A → B) (xs : List A) → ((x : A) → P (f x)) → AllByRecursion P (map f xs)
all-mapped P f [] holds = tt
all-mapped P f (x ∷ xs) holds = (holds x, all-mapped P f xs holds)

-- ---- The root's

module _ (all : List SystemTree) (rs : List ParamTree) where
  value-depth : (q : ParamTree) → expr_depth (root_value all rs q) ≤ 1
  value-depth q = by (bytes_eq q.name now_name)
    where
      by : (t : Bool) → expr_depth (if t then read (Own 0) else read
          (Param (unwrap_or (position_from (λ (r : ParamTree). bytes_eq r.name q.name) 0 rs) 0))) ≤ 1
      by true = omega arith
      by false = omega arith

  values-depth : (qs : List ParamTree) → exprs_depth (exprs_of_list (map (root_value all rs) qs)) ≤ 1
  values-depth [] = omega arith
  values-depth (q ∷ qs) = max-le (value-depth q) (values-depth qs)

module _ (a : Parts) (v : Views a) where
  call-depth : (rs : List ParamTree) (name : List ℕ) → stmt_depth (call_top a.codes rs (output_count a) name) ≤ 1
  call-depth rs name = omega arith

  call-exprs : (rs : List ParamTree) (name : List ℕ) → stmt_exprs_depth (call_top a.codes rs (output_count a) name) ≤ 3
  call-exprs rs name =
      let low = values-depth a.codes rs
      (unwrap_or (option_map (λ (q : ProcedureTree). q.params)
      (find (λ (q : ProcedureTree). bytes_eq q.name name) (code_at a.codes 0).procedures)) []) in
      omega (arith, low)

  params-few : length (params a) ≤ 64
  params-few =
      let few = root-few a v is_inport (a.can.resolved.tree.table.inports None) in
      let made = mapped-length {B = ParamTree} (λ (r : LocalRow). record { name = input_name (port_of r.kind); type = container r.out })
      (inports a.root) in
      omega (arith, few, made)

  copies-all : (P : StmtTree → Type 0) → ((e : ℕ × ℕ) → P (copy a e)) → AllByRecursion P (copies a)
  copies-all P copied = all-mapped P (copy a) (enumerate_from 0 (code_at a.codes 0).outputs) copied

  start-all : (P : StmtTree → Type 0) → P (call_top a.codes [] (output_count a) (start_name a)) → ((e : ℕ × ℕ) → P (copy a e)) →
      P (to_start a) → AllByRecursion P (start_stmts a)
  start-all P first copied last = (first, all-append P (copies a) (to_start a ∷ []) (copies-all P copied) (last, tt))

  step-all : (P : StmtTree → Type 0) → ((name : List ℕ) → P (call_top a.codes (params a) (output_count a) name)) →
      ((e : ℕ × ℕ) → P (copy a e)) → P (to_next a) →
      AllByRecursion P (step_stmts a)
  step-all P calls copied last =
      all-append P (map (call_top a.codes (params a) (output_count a)) (called_names a) ++ copies a) (to_next a ∷ [])
      (all-append P (map (call_top a.codes (params a) (output_count a)) (called_names a)) (copies a)
      (all-mapped P (call_top a.codes (params a) (output_count a)) (called_names a) calls) (copies-all P copied))
      (last, tt)

  root-fits : (k : ℕ) (q : ProcedureTree) → slice_get (root_both a v) k ≡ Some q → ProcedureFits q
  root-fits zero q at = subst ProcedureFits (same_Some _ q at) (record {
    params = omega arith;
    statements = let low = stmts-shallow 1 (start_stmts a)
        (start-all (λ s. stmt_depth s ≤ 1) (call-depth [] (start_name a)) (λ e. omega arith) (omega arith)) in omega (arith, low);
    expressions = let low = exprs-shallow 3 (start_stmts a)
        (start-all (λ s. stmt_exprs_depth s ≤ 3) (call-exprs [] (start_name a)) (λ e. omega arith) (omega arith)) in omega (arith, low);
  })
  root-fits (suc zero) q at = subst ProcedureFits (same_Some _ q at) (record {
    params = params-few;
    statements = let low = stmts-shallow 1 (step_stmts a)
        (step-all (λ s. stmt_depth s ≤ 1) (call-depth (params a)) (λ e. omega arith) (omega arith)) in omega (arith, low);
    expressions = let low = exprs-shallow 3 (step_stmts a)
        (step-all (λ s. stmt_exprs_depth s ≤ 3) (call-exprs (params a)) (λ e. omega arith) (omega arith)) in omega (arith, low);
  })
  root-fits (suc (suc k)) q at = absurd (none-some q at)

  -- ---- All of it

  moved-fits : (place : ℕ) (q : ProcedureTree) → ProcedureFits q → ProcedureFits (moved_procedure (relocation_of a.codes place) q)
  moved-fits place q fits = record {
    params = fits.params;
    statements = let same = same-stmts_depth (relocation_of a.codes place) q.body in let low = fits.statements in omega (arith, same, low);
    expressions = let same = same-stmts_exprs_depth (relocation_of a.codes place) q.body in let low = fits.expressions in
        omega (arith, same, low);
  }

  procedures-fit : AllByRecursion ProcedureFits (program_of a).procedures
  procedures-fit =
      all-made ProcedureFits (program_of a).procedures
      (λ q has.
      let at = at-in (program_of a).procedures q has in
      elim (at-position a v at.0 q at.1) [
        | inl own ↦
            subst ProcedureFits own.is
            (moved-fits own.place own.own
            (member ProcedureFits (v.at own.system).code.procedures own.own (v.each own.place own.system own.stands).lawful.fits
            (in-at (v.at own.system).code.procedures own.number own.own own.there)))
        | inr root ↦ root-fits root.number q root.there
      ])

  pub limits-kept : IsWithinLimits (program_of a)
  limits-kept = record {
    count = let made = mapped-length (λ (p : PureTree). p.name) a.pures in let eight = ap length a.prelude.named in
        omega (arith, made, eight);
    pures = a.prelude.fits;
    procedures = procedures-fit;
  }
