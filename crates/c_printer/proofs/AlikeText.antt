-- The text of a lawful program is one that C99 reads alike.
use Rattle.std.proofs.Common.{◌≡◌, refl, sym, ap, subst, ℕ, zero, suc, ◌+◌, ◌^◌, ◌<◌, Bool, true, false, List, [], ◌∷◌, ◌++◌, map, slice_index_or, codes, decimal, unsigned_abs, arith}
use Rattle.std.specs.List.{flat_map, enumerate_from, AllByRecursion}
use Rattle.std.proofs.lemmas.List.{append_assoc, append-nil}
use Rattle.c_syntax.specs.declared.code.CType.{CType}
use Rattle.c_syntax.specs.declared.code.Leaf.{Leaf}
use Rattle.c_syntax.specs.declared.code.Leaf.TheVariants.{Param, Own, Child}
use Rattle.c_syntax.specs.declared.code.Target.{Target}
use Rattle.c_syntax.specs.declared.code.Target.TheVariants.{Own as OwnTarget, Child as ChildTarget}
use Rattle.c_syntax.specs.declared.program.FieldKind.{FieldKind}
use Rattle.c_syntax.specs.declared.program.FieldKind.TheVariants.{Number, Array, Struct}
use Rattle.c_syntax.specs.Tree.{ExprTree, literal, neg, read, binary, pick, pure, item, ExprTrees, no_exprs, more_exprs, CondTree, compare, both, either, negated, StmtTree, assign, assign_at, branch, call, StmtTrees, no_stmts, more_stmts, FieldTree, StructTree, struct_fields, field_types, type_at, PureTree, ParamTree, ProcedureTree, ProgramTree}
use Rattle.c_syntax.specs.Names.{name_at}
use Rattle.c_syntax.specs.Lawful.{AreDistinct, Reach, IsLawfulExpr, AreLawfulExprs, IsLawfulCond, IsLawfulStmt, AreLawfulStmts, ArePures, IsLawfulKind, AreStructs, AreProcedures, IsLawful, pure_names, procedure_names, param_names}
use Rattle.c_rules.specs.AlikeTexts.{is_alike}
use Rattle.c_printer.specs.Notes.{Notes, note_at, notes_on}
use Rattle.c_printer.specs.Printing.{Vocabulary, pure_name, struct_name, procedure_name, procedure_types, field_name, kind_fields, inner_fields, leaf_bytes, expr_bytes, exprs_bytes, later_exprs_bytes, cond_bytes, deeper, target_bytes, arguments_bytes, stored_bytes, store_bytes, item_store_bytes, call_bytes, target_note, noted_stmt_bytes, noted_else_bytes, noted_stmts_bytes, later_pure_params_bytes, pure_params_bytes, pure_bytes, kind_bytes, length_bytes, field_bytes, noted_field_bytes, noted_struct_bytes, private_bytes, param_bytes, noted_procedure_bytes, noted_bytes}
use Rattle.c_syntax.proofs.lemmas.NameFacts.{AreDistinct-front, AreDistinct-back}
use Rattle.c_printer.proofs.AlikeBytes.{GoesOn, at-end, one-more, goes-on, not-joined, IsFree, AreLines, free-none, ◌◃◌, at-start, text-free, line-end, line-free, joined, AreWordBytes, word-free, name-bytes, decimal-free, margin-free, type-free, op-free, compare-free}
use Rattle.c_printer.proofs.AlikeNotes.{note-lines, noted-lines}

-- ---- Names

-- each of different names, and what is past their end, is word bytes
named : (names : List (List ℕ)) → AreDistinct names → (k : ℕ) → AreWordBytes (name_at names k)
named [] h zero = refl
named [] h (suc k) = refl
named (n ∷ ns) h zero = name-bytes n h.0
named (n ∷ ns) h (suc k) = named ns h.2 k

each-named : (names : List (List ℕ)) → AreDistinct names → AllByRecursion AreWordBytes names
each-named [] h = tt
each-named (n ∷ ns) h = (name-bytes n h.0, each-named ns h.2)

-- names in reach of a body
record HasWords (v : Vocabulary) : Type 0 where
  pub pures : (k : ℕ) → AreWordBytes (pure_name v.program k)
  pub procedures : (k : ℕ) → AreWordBytes (procedure_name v.program k)
  pub fields : (k : ℕ) → AreWordBytes (field_name v.fields k)
  pub inner : (k g : ℕ) → AreWordBytes (field_name (inner_fields v k) g)
  pub params : (k : ℕ) → AreWordBytes (name_at v.params k)

no-fields : (k : ℕ) → AreWordBytes (field_name [] k)
no-fields zero = refl
no-fields (suc k) = refl

-- ---- Bodies

small : (n : ℕ) → n < 2 ^ 63 → n < 2 ^ 64
small n below = omega (arith, below)

module _ (v : Vocabulary) (words : HasWords v) (reach : Reach) where
  field : (f : ℕ) → IsFree (field_name v.fields f)
  field f = word-free (field_name v.fields f) (words.fields f)

  leaf-free : (leaf : Leaf) → IsFree (leaf_bytes v leaf)
  leaf-free (Param k) = word-free (name_at v.params k) (words.params k)
  leaf-free (Own f) = text-free (codes "s->") refl ◃ field f
  leaf-free (Child f g) =
      text-free (codes "s->") refl ◃ field f ◃ text-free (codes ".") refl
      ◃ word-free (field_name (inner_fields v f) g) (words.inner f g)

  mutual
    expr-free : (e : ExprTree) → IsLawfulExpr reach e → IsFree (expr_bytes v e)
    expr-free (literal value) h =
        text-free (codes "INT64_C(") refl
        ◃ subst (λ n. IsFree (decimal n)) (sym (ap unsigned_abs h.1)) (decimal-free h.0 (small h.0 h.2))
        ◃ text-free (codes ")") refl
    expr-free (neg e) h = text-free (codes "(-") refl ◃ expr-free e h ◃ text-free (codes ")") refl
    expr-free (read leaf) h = text-free (codes "(int64_t)") refl ◃ leaf-free leaf
    expr-free (binary op a b) h =
        op-free op (text-free (codes "(") refl ◃ expr-free a h.0) ◃ expr-free b h.1 ◃ text-free (codes ")") refl
    expr-free (pick test a b) h =
        text-free (codes "(") refl ◃ cond-free test h.0 ◃ text-free (codes " ? ") refl ◃ expr-free a h.1
        ◃ text-free (codes " : ") refl ◃ expr-free b h.2 ◃ text-free (codes ")") refl
    expr-free (pure k es) h =
        word-free (pure_name v.program k) (words.pures k) ◃ text-free (codes "(") refl ◃ exprs-free es h.3
        ◃ text-free (codes ")") refl
    expr-free (item f index) h =
        text-free (codes "(int64_t)s->") refl ◃ field f ◃ text-free (codes "[") refl ◃ expr-free index h.1
        ◃ text-free (codes "]") refl

    exprs-free : (es : ExprTrees) → AreLawfulExprs reach es → IsFree (exprs_bytes v es)
    exprs-free no_exprs h = free-none
    exprs-free (more_exprs e es) h = expr-free e h.0 ◃ later-free es h.1

    later-free : (es : ExprTrees) → AreLawfulExprs reach es → IsFree (later_exprs_bytes v es)
    later-free no_exprs h = free-none
    later-free (more_exprs e es) h = text-free (codes ", ") refl ◃ expr-free e h.0 ◃ later-free es h.1

    cond-free : (c : CondTree) → IsLawfulCond reach c → IsFree (cond_bytes v c)
    cond-free (compare how a b) h =
        compare-free how (text-free (codes "(") refl ◃ expr-free a h.0) ◃ expr-free b h.1 ◃ text-free (codes ")") refl
    cond-free (both a b) h =
        text-free (codes "(") refl ◃ cond-free a h.0 ◃ text-free (codes " && ") refl ◃ cond-free b h.1 ◃ text-free (codes ")") refl
    cond-free (either a b) h =
        text-free (codes "(") refl ◃ cond-free a h.0 ◃ text-free (codes " || ") refl ◃ cond-free b h.1 ◃ text-free (codes ")") refl
    cond-free (negated a) h = text-free (codes "(!") refl ◃ cond-free a h ◃ text-free (codes ")") refl

  arguments-free : (types : List CType) (es : ExprTrees) → AreLawfulExprs reach es → IsFree (arguments_bytes v types es)
  arguments-free types no_exprs h = free-none
  arguments-free [] (more_exprs e es) h = free-none
  arguments-free (t ∷ types) (more_exprs e es) h =
      text-free (codes ", (") refl ◃ type-free t ◃ text-free (codes ")") refl ◃ expr-free e h.0 ◃ arguments-free types es h.1

  -- whose procedure is called comes after a bracket
  called-free : (target : Target) {xs : List ℕ} → IsFree xs → IsFree (xs ++ codes "(" ++ target_bytes v target)
  called-free OwnTarget f = f ◃ text-free (codes "(") refl ◃ text-free (codes "s") refl
  called-free (ChildTarget g) {xs} f =
      subst IsFree (append_assoc (xs ++ codes "(") (codes "&s->") (field_name v.fields g))
      (joined (codes "(") (codes "&s->") f refl ◃ field g)

  stored-free : (f : ℕ) (e : ExprTree) → IsLawfulExpr reach e → IsFree (stored_bytes v f e)
  stored-free f e h = type-free (type_at (field_types v.fields) f) ◃ text-free (codes ")") refl ◃ expr-free e h ◃ text-free (codes ";") refl

  store-free : (f : ℕ) (e : ExprTree) → IsLawfulExpr reach e → IsFree (store_bytes v f e)
  store-free f e h = text-free (codes "s->") refl ◃ field f ◃ text-free (codes " = (") refl ◃ stored-free f e h

  item_store-free : (f : ℕ) (index e : ExprTree) → IsLawfulExpr reach index → IsLawfulExpr reach e → IsFree (item_store_bytes v f index e)
  item_store-free f index e i h =
      text-free (codes "s->") refl ◃ field f ◃ text-free (codes "[") refl ◃ expr-free index i ◃ text-free (codes "] = (") refl
      ◃ stored-free f e h

  call-free : (k : ℕ) (target : Target) (es : ExprTrees) → AreLawfulExprs reach es → IsFree (call_bytes v k target es)
  call-free k target es h =
      called-free target (word-free (procedure_name v.program k) (words.procedures k))
      ◃ arguments-free (procedure_types v.program k) es h ◃ text-free (codes ");") refl

  module _ (notes : List (List ℕ)) where
    mutual
      stmt-lines : (margin : ℕ) (s : StmtTree) → IsLawfulStmt reach s → AreLines (noted_stmt_bytes notes v margin s)
      stmt-lines margin (assign line f e) h = noted-lines margin (note_at notes f) (store_bytes v f e) (store-free f e h.1)
      stmt-lines margin (assign_at line f index e) h =
          noted-lines margin (note_at notes f) (item_store_bytes v f index e) (item_store-free f index e h.1 h.2)
      stmt-lines margin (branch line test on_true on_false) h =
          at-start (margin-free margin ◃ text-free (codes "if ") refl ◃ cond-free test h.0 ◃ line-free (codes " {") refl)
          ◃ stmts-lines (deeper margin) on_true h.1 ◃ else-lines margin on_false h.2
          ◃ at-start (margin-free margin) ◃ line-free (codes "}") refl
      stmt-lines margin (call line k target es) h =
          noted-lines margin (target_note notes target) (call_bytes v k target es) (call-free k target es h.4)

      else-lines : (margin : ℕ) (ss : StmtTrees) → AreLawfulStmts reach ss → AreLines (noted_else_bytes notes v margin ss)
      else-lines margin no_stmts h = free-none
      else-lines margin (more_stmts s ss) h =
          at-start (margin-free margin ◃ line-free (codes "} else {") refl)
          ◃ (stmt-lines (deeper margin) s h.0 ◃ stmts-lines (deeper margin) ss h.1)

      stmts-lines : (margin : ℕ) (ss : StmtTrees) → AreLawfulStmts reach ss → AreLines (noted_stmts_bytes notes v margin ss)
      stmts-lines margin no_stmts h = free-none
      stmts-lines margin (more_stmts s ss) h = stmt-lines margin s h.0 ◃ stmts-lines margin ss h.1

-- ---- Declarations

later-params : (names : List (List ℕ)) → AllByRecursion AreWordBytes names → IsFree (later_pure_params_bytes names)
later-params [] all = free-none
later-params (n ∷ ns) all = (text-free (codes ", int64_t ") refl ◃ word-free n all.0) ◃ later-params ns all.1

pure-params : (names : List (List ℕ)) → AllByRecursion AreWordBytes names → IsFree (pure_params_bytes names)
pure-params [] all = free-none
pure-params (n ∷ ns) all = text-free (codes "int64_t ") refl ◃ word-free n all.0 ◃ later-params ns all.1

-- the fields of structs
struct-fields : (count : ℕ) (ds : List StructTree) → AreStructs count ds → (k g : ℕ) → AreWordBytes (field_name (struct_fields ds k) g)
struct-fields count [] h zero g = no-fields g
struct-fields count [] h (suc k) g = no-fields g
struct-fields count (d ∷ ds) h zero g = named (map (λ f. f.name) d.fields) h.0.fields g
struct-fields count (d ∷ ds) h (suc k) g = struct-fields (count + 1) ds h.1 k g

inner-of : (ds : List StructTree) → ((k g : ℕ) → AreWordBytes (field_name (struct_fields ds k) g)) →
    (fields : List FieldTree) (k g : ℕ) →
    AreWordBytes (field_name (slice_index_or (map (λ f. kind_fields ds f.kind) fields) k []) g)
inner-of ds structs [] zero g = no-fields g
inner-of ds structs [] (suc k) g = no-fields g
inner-of ds structs (f ∷ fs) zero g = by f.kind
  where
    by : (kind : FieldKind) → AreWordBytes (field_name (kind_fields ds kind) g)
    by (Number type) = no-fields g
    by (Array type count) = no-fields g
    by (Struct k) = structs k g
inner-of ds structs (f ∷ fs) (suc k) g = inner-of ds structs fs k g

module _ (p : ProgramTree) (lawful : IsLawful p) (notes : Notes) where
  pures-distinct : AreDistinct (pure_names p.pures)
  pures-distinct = AreDistinct-front (pure_names p.pures) (procedure_names p.procedures) lawful.functions

  procedures-distinct : AreDistinct (procedure_names p.procedures)
  procedures-distinct = AreDistinct-back (pure_names p.pures) (procedure_names p.procedures) lawful.functions

  -- a body with these fields and parameters
  has-words : (fields : List FieldTree) → ((k : ℕ) → AreWordBytes (field_name fields k)) → (params : List (List ℕ)) → AreDistinct params →
      HasWords (record { program = p; fields = fields; params = params })
  has-words fields are params distinct = record {
    pures = named (pure_names p.pures) pures-distinct;
    procedures = named (procedure_names p.procedures) procedures-distinct;
    fields = are;
    inner = inner-of p.structs (struct-fields 0 p.structs lawful.structs) fields;
    params = named params distinct;
  }

  struct-named : (k : ℕ) → IsFree (struct_name p k)
  struct-named k = word-free (struct_name p k) (named (map (λ d. d.name) p.structs) lawful.struct_names k)

  pures-lines : (earlier qs : List PureTree) → ArePures earlier qs → AllByRecursion AreWordBytes (pure_names qs) →
      AreLines (flat_map (pure_bytes p) qs)
  pures-lines earlier [] h names = free-none
  pures-lines earlier (q ∷ qs) h names =
      ((at-start line-end ◃ at-start (text-free (codes "static int64_t ") refl) ◃ word-free q.name names.0 ◃ text-free (codes "(") refl
      ◃ pure-params q.params (each-named q.params h.0.params) ◃ line-free (codes ") {") refl)
      ◃ at-start (text-free (codes "    return ") refl)
      ◃ expr-free (record { program = p; fields = []; params = q.params }) (has-words [] no-fields q.params h.0.params) _ q.body h.0.body
      ◃ line-free (codes ";") refl ◃ at-start (line-free (codes "}") refl))
      ◃ pures-lines (earlier ++ q ∷ []) qs h.1 names.1

  kind-free : (kind : FieldKind) → IsFree (kind_bytes p kind)
  kind-free (Number type) = type-free type
  kind-free (Array type count) = type-free type
  kind-free (Struct k) = text-free (codes "struct ") refl ◃ struct-named k

  length-free : (count : ℕ) (kind : FieldKind) → IsLawfulKind count kind → IsFree (length_bytes kind)
  length-free count (Number type) h = free-none
  length-free count (Array type many) h =
      text-free (codes "[") refl ◃ decimal-free many (let below = h.1 in omega (arith, below)) ◃ text-free (codes "]") refl
  length-free count (Struct k) h = free-none

  fields-lines : (on : List (List ℕ)) (count k : ℕ) (fs : List FieldTree) → AreDistinct (map (λ f. f.name) fs) →
      AllByRecursion (λ f. IsLawfulKind count f.kind) fs → AreLines (flat_map (noted_field_bytes p on) (enumerate_from k fs))
  fields-lines on count k [] names kinds = free-none
  fields-lines on count k (f ∷ fs) names kinds =
      noted-lines 4 (note_at on k) (field_bytes p f)
      (kind-free f.kind ◃ text-free (codes " ") refl ◃ word-free f.name (name-bytes f.name names.0)
      ◃ length-free count f.kind kinds.0 ◃ text-free (codes ";") refl)
      ◃ fields-lines on count (k + 1) fs names.2 kinds.1

  structs-lines : (count k : ℕ) (ds : List StructTree) → AreStructs count ds → AllByRecursion AreWordBytes (map (λ d. d.name) ds) →
      AreLines (flat_map (noted_struct_bytes p notes) (enumerate_from k ds))
  structs-lines count k [] h names = free-none
  structs-lines count k (d ∷ ds) h names =
      (at-start line-end ◃ note-lines 0 (notes_on notes k).above ◃ at-start (text-free (codes "struct ") refl)
      ◃ word-free d.name names.0 ◃ line-free (codes " {") refl
      ◃ fields-lines (notes_on notes k).fields count 0 d.fields h.0.fields h.0.kinds ◃ at-start (line-free (codes "};") refl))
      ◃ structs-lines (count + 1) (k + 1) ds h.1 names.1

  private-free : (private : Bool) → IsFree (private_bytes private)
  private-free true = text-free (private_bytes true) refl
  private-free false = text-free (private_bytes false) refl

  params-free : (ps : List ParamTree) → AreDistinct (param_names ps) → IsFree (flat_map param_bytes ps)
  params-free [] names = free-none
  params-free (q ∷ qs) names =
      (text-free (codes ", ") refl ◃ type-free q.type ◃ text-free (codes " ") refl ◃ word-free q.name (name-bytes q.name names.0))
      ◃ params-free qs names.2

  procedures-lines : (earlier : List ProcedureTree) (k : ℕ) (qs : List ProcedureTree) → AreProcedures p.pures p.structs earlier qs →
      AllByRecursion AreWordBytes (procedure_names qs) → AreLines (flat_map (noted_procedure_bytes p notes) (enumerate_from k qs))
  procedures-lines earlier k [] h names = free-none
  procedures-lines earlier k (q ∷ qs) h names =
      ((at-start line-end ◃ note-lines 0 (note_at notes.procedures k) ◃ at-start (private-free q.private)
      ◃ word-free q.name names.0 ◃ text-free (codes "(struct ") refl
      ◃ struct-named q.of ◃ text-free (codes " *s") refl ◃ params-free q.params h.0.params ◃ line-free (codes ") {") refl)
      ◃ stmts-lines (record { program = p; fields = struct_fields p.structs q.of; params = param_names q.params })
      (has-words (struct_fields p.structs q.of) (struct-fields 0 p.structs lawful.structs q.of) (param_names q.params) h.0.params) _
      (notes_on notes q.of).fields 4 q.body h.0.body
      ◃ at-start (line-free (codes "}") refl))
      ◃ procedures-lines (earlier ++ q ∷ []) (k + 1) qs h.1 names.1

  abbrev behind_header : List ℕ
  behind_header = flat_map (pure_bytes p) p.pures ++ flat_map (noted_struct_bytes p notes) (enumerate_from 0 p.structs)
      ++ flat_map (noted_procedure_bytes p notes) (enumerate_from 0 p.procedures)

  behind-header : AreLines behind_header
  behind-header =
      pures-lines [] p.pures lawful.pures (each-named (pure_names p.pures) pures-distinct)
      ◃ structs-lines 0 0 p.structs lawful.structs (each-named (map (λ d. d.name) p.structs) lawful.struct_names)
      ◃ procedures-lines [] 0 p.procedures lawful.procedures (each-named (procedure_names p.procedures) procedures-distinct)

  -- from the end of the first line on
  rest-alike : GoesOn 10 behind_header
  rest-alike = subst (GoesOn 10) (append-nil behind_header) (behind-header.apart [] (at-end 10))

  pub text-alike : is_alike (noted_bytes notes p) ≡ true
  text-alike =
      (goes-on 35 (codes "include <stdint.h>") (10 ∷ behind_header) refl
      (λ b. one-more b 10 behind_header refl (not-joined b 10 refl) rest-alike)).alike 10 refl
