-- What the machine needs holds of a lawful program.
use Rattle.std.proofs.Common.{Bool, true, ◌≡◌, refl, sym, ◌∙◌, ap, ℕ, zero, suc, ◌+◌, ◌<◌, ◌≤◌, List, [], ◌∷◌, ◌++◌, length, arith, map, slice_get, Some, zero-add, length-append, append_assoc, subst}
use Rattle.std.specs.List.{AllByRecursion}
use Rattle.c_syntax.specs.declared.code.CType.{CType}
use Rattle.c_syntax.specs.declared.code.Target.{Target}
use Rattle.c_syntax.specs.declared.code.Target.TheVariants as target
use Rattle.c_syntax.specs.declared.program.FieldKind.{FieldKind}
use Rattle.c_syntax.specs.declared.program.FieldKind.TheVariants as kind
use Rattle.c_syntax.specs.Tree.{ExprTree, literal, neg, read, binary, pick, pure, item, ExprTrees, no_exprs, more_exprs, CondTree, compare, both, either, negated, StmtTree, assign, assign_at, branch, call, StmtTrees, no_stmts, more_stmts, FieldTree, struct_fields, PureTree, ProcedureTree, ProgramTree}
use Rattle.c_syntax.specs.RootFields.{is_number_kind}
use Rattle.c_syntax.specs.Limits.{PureFits, ProcedureFits}
use Rattle.c_syntax.specs.Lawful.{Reach, IsNumberAt, IsArrayAt, IsLawfulExpr, AreLawfulExprs, IsLawfulCond, IsLawfulTarget, IsLawfulStmt, AreLawfulStmts, ArePures, AreProcedures, IsLawful}
use Rattle.c_interpreter.specs.Reads.{IsNarrowExpr, AreNarrowExprs, IsNarrowCond, AreNarrow}
use Rattle.c_interpreter.specs.Slots.{StructLayout}
use Rattle.c_interpreter.specs.Layouts.{layouts_of}
use Rattle.c_interpreter.specs.Sound.{IsNumberField, IsArrayField, IsCallOf, IsSoundStmt, AreSoundStmts, zeros_of, IsReady}
use Rattle.c_semantics.specs.Machine.{is_interface}
use Rattle.c_interpreter.proofs.LaidOut.{laid_out}

pub all_at : {A : Type 0} (P : A → Type 0) (xs : List A) (k : ℕ) (x : A) → AllByRecursion P xs → slice_get xs k ≡ Some x → P x
all_at P [] k x all there = absurd (cc)
all_at P (y ∷ ys) zero x all there = let e : y ≡ x = cc in subst P e all.0
all_at P (y ∷ ys) (suc k) x all there = all_at P ys k x all.1 there

all_more : {A : Type 0} (P : A → Type 0) (xs : List A) (x : A) → AllByRecursion P xs → P x → AllByRecursion P (xs ++ x ∷ [])
all_more P [] x all h = (h, tt)
all_more P (y ∷ ys) x all h = (all.0, all_more P ys x all.1 h)

mutual
  narrow_expr : (r : Reach) → AllByRecursion PureFits r.pures → (e : ExprTree) → IsLawfulExpr r e → IsNarrowExpr e
  narrow_expr r fits (literal value) h = tt
  narrow_expr r fits (neg e) h = narrow_expr r fits e h
  narrow_expr r fits (read leaf) h = tt
  narrow_expr r fits (binary op a b) h = (narrow_expr r fits a h.0, narrow_expr r fits b h.1)
  narrow_expr r fits (pick test a b) h = (narrow_cond r fits test h.0, narrow_expr r fits a h.1, narrow_expr r fits b h.2)
  narrow_expr r fits (pure k es) h = (
    (let f : PureFits h.0 = all_at PureFits r.pures k h.0 fits h.1 in omega (arith, f.params, h.2)),
    narrow_exprs r fits es h.3,
  )
  narrow_expr r fits (item f index) h = narrow_expr r fits index h.1

  narrow_exprs : (r : Reach) → AllByRecursion PureFits r.pures → (es : ExprTrees) → AreLawfulExprs r es → AreNarrowExprs es
  narrow_exprs r fits no_exprs h = tt
  narrow_exprs r fits (more_exprs e es) h = (narrow_expr r fits e h.0, narrow_exprs r fits es h.1)

  narrow_cond : (r : Reach) → AllByRecursion PureFits r.pures → (c : CondTree) → IsLawfulCond r c → IsNarrowCond c
  narrow_cond r fits (compare how a b) h = (narrow_expr r fits a h.0, narrow_expr r fits b h.1)
  narrow_cond r fits (both a b) h = (narrow_cond r fits a h.0, narrow_cond r fits b h.1)
  narrow_cond r fits (either a b) h = (narrow_cond r fits a h.0, narrow_cond r fits b h.1)
  narrow_cond r fits (negated a) h = narrow_cond r fits a h

narrow_pures : (earlier ps : List PureTree) → AllByRecursion PureFits earlier → AllByRecursion PureFits ps →
    ArePures earlier ps → AreNarrow ps
narrow_pures earlier [] before fits lawful = tt
narrow_pures earlier (p ∷ ps) before fits lawful = (
  narrow_expr (record {
    pures = earlier;
    structs = [];
    procedures = [];
    fields = [];
    params = length p.params;
    of = 0;
  }) before p.body lawful.0.body,
  narrow_pures (earlier ++ p ∷ []) ps (all_more PureFits earlier p before fits.0) fits.1 lawful.1,
)

number_kind : (k : FieldKind) → is_number_kind k ≡ true → (type : CType) × (k ≡ kind.Number type)
number_kind (kind.Number type) h = (type, refl)
number_kind (kind.Array type count) h = absurd (cc)
number_kind (kind.Struct j) h = absurd (cc)

number_field : (p : ProgramTree) (of f : ℕ) → IsNumberAt (struct_fields p.structs of) f → IsNumberField p of f
number_field p of f h = let k = number_kind h.0.kind h.2 in record { field = h.0; type = k.0; there = h.1; kind_is = k.1 }

array_field : (p : ProgramTree) (of f : ℕ) → IsArrayAt (struct_fields p.structs of) f → IsArrayField p of f
array_field p of f h = record { field = h.0; type = h.1; count = h.2; there = h.3; kind_is = h.4 }

call_of : (p : ProgramTree) (r : Reach) (k : ℕ) (q : ProcedureTree) (t : Target) →
    r.fields ≡ struct_fields p.structs r.of → slice_get p.procedures k ≡ Some q → IsLawfulTarget r t q.of →
    IsCallOf p r.of k t
call_of p r k q target.Own same there h = record { procedure = q; there = there; of_is = sym h }
call_of p r k q (target.Child f) same there h = (
  record { field = h.0; struct = q.of; there = ap (λ xs. slice_get xs f) (sym same) ∙ h.1; kind_is = h.2 },
  record { procedure = q; there = there; of_is = refl },
)

mutual
  sound_stmt : (p : ProgramTree) (r : Reach) (level : ℕ) → r.fields ≡ struct_fields p.structs r.of →
      AllByRecursion PureFits r.pures →
      ((k : ℕ) (q : ProcedureTree) → slice_get r.procedures k ≡ Some q →
      (slice_get p.procedures k ≡ Some q) × (k < level) × (length q.params ≤ 64)) → (s : StmtTree) → IsLawfulStmt r s →
      IsSoundStmt p level r.of s
  sound_stmt p r level same fits earlier (assign line f e) h =
      (number_field p r.of f (subst (λ (xs : List FieldTree). IsNumberAt xs f) same h.0), narrow_expr r fits e h.1)
  sound_stmt p r level same fits earlier (assign_at line f index e) h = (
    array_field p r.of f (subst (λ (xs : List FieldTree). IsArrayAt xs f) same h.0),
    narrow_expr r fits index h.1,
    narrow_expr r fits e h.2,
  )
  sound_stmt p r level same fits earlier (branch line test on_true on_false) h = (
    narrow_cond r fits test h.0,
    sound_stmts p r level same fits earlier on_true h.1,
    sound_stmts p r level same fits earlier on_false h.2,
  )
  sound_stmt p r level same fits earlier (call line k t es) h =
      let e = earlier k h.0 h.1 in (
        call_of p r k h.0 t same e.0 h.2,
        record { procedure = h.0; there = e.0; count_is = sym h.3; room = omega (arith, h.3, e.2) },
        e.1,
        narrow_exprs r fits es h.4,
      )

  sound_stmts : (p : ProgramTree) (r : Reach) (level : ℕ) → r.fields ≡ struct_fields p.structs r.of →
      AllByRecursion PureFits r.pures →
      ((k : ℕ) (q : ProcedureTree) → slice_get r.procedures k ≡ Some q →
      (slice_get p.procedures k ≡ Some q) × (k < level) × (length q.params ≤ 64)) → (s : StmtTrees) →
      AreLawfulStmts r s → AreSoundStmts p level r.of s
  sound_stmts p r level same fits earlier no_stmts h = tt
  sound_stmts p r level same fits earlier (more_stmts s ss) h =
      (sound_stmt p r level same fits earlier s h.0, sound_stmts p r level same fits earlier ss h.1)

get_front : (xs ys : List ProcedureTree) (k : ℕ) (q : ProcedureTree) → slice_get xs k ≡ Some q →
    (slice_get (xs ++ ys) k ≡ Some q) × (k < length xs)
get_front [] ys k q there = absurd (cc)
get_front (x ∷ xs) ys zero q there = (there, omega arith)
get_front (x ∷ xs) ys (suc k) q there = let r = get_front xs ys k q there in (r.0, omega (arith, r.1))

sound_all : (p : ProgramTree) (earlier ps : List ProcedureTree) → p.procedures ≡ earlier ++ ps →
    AllByRecursion PureFits p.pures → AllByRecursion ProcedureFits p.procedures →
    AreProcedures p.pures p.structs earlier ps → (j : ℕ) (q : ProcedureTree) → slice_get ps j ≡ Some q →
    AreSoundStmts p (length earlier + j) q.of q.body
sound_all p earlier [] all pures fits lawful j q there = absurd (cc)
sound_all p earlier (x ∷ ps) all pures fits lawful zero q there =
    let e : x ≡ q = cc in
    let known : (k : ℕ) (y : ProcedureTree) → slice_get earlier k ≡ Some y →
    (slice_get p.procedures k ≡ Some y) × (k < length earlier + 0) × (length y.params ≤ 64) = λ k y h. let f =
    get_front earlier (x ∷ ps) k y h in let g : slice_get p.procedures k ≡ Some y = ap (λ xs. slice_get xs k) all
    ∙ f.0 in let b : ProcedureFits y = all_at ProcedureFits p.procedures k y fits g in
    (g, omega (arith, f.1), b.params) in
    subst (λ (y : ProcedureTree). AreSoundStmts p (length earlier + 0) y.of y.body) e
    (sound_stmts p
    (record {
      pures = p.pures;
      structs = p.structs;
      procedures = earlier;
      fields = struct_fields p.structs x.of;
      params = length x.params;
      of = x.of;
    }) (length earlier + 0) refl pures known x.body lawful.0.body)
sound_all p earlier (x ∷ ps) all pures fits lawful (suc j) q there =
    let e : length (earlier ++ x ∷ []) + j ≡ length earlier + suc j = omega (arith, length-append earlier (x ∷ [])) in
    subst (λ n. AreSoundStmts p n q.of q.body) e
    (sound_all p (earlier ++ x ∷ []) ps (all ∙ sym (append_assoc earlier (x ∷ []) ps)) pures fits lawful.1 j q
    there)

-- a lawful program is ready for the machine
pub ready : (p : ProgramTree) (layouts : List StructLayout) (logged : List Bool) → IsLawful p →
    layouts ≡ layouts_of [] p.structs → logged ≡ map (λ q. is_interface q.name) p.procedures → IsReady p layouts logged
ready p layouts logged lawful laid same =
    record {
      laid = subst (λ (ls : List StructLayout). Rattle.c_interpreter.specs.Layouts.AreLaidOut p.structs ls (zeros_of p))
          (sym laid) (laid_out p.structs lawful.structs);
      logged_is = same;
      narrow = narrow_pures [] p.pures tt lawful.limits.pures lawful.pures;
      sound = λ k q there.
          (rw zero-add at
          (sound_all p [] p.procedures refl lawful.limits.pures lawful.limits.procedures lawful.procedures k q there));
    }
