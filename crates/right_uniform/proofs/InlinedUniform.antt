-- A lawful program of the right shape that is uniform is uniform when its helpers are inlined.
use Rattle.std.specs.Prelude.{◌≡◌, ℕ, zero, suc, ◌<◌, not, ◌&&◌, Bool, true, false, MatchBool, List, [], ◌∷◌, ◌++◌, map, filter, drop, length, slice_index_or, Contains, Option, None, Some, unwrap_or, if◌then◌else◌, ⊤}
use Rattle.std.specs.List.{AllByRecursion, position_from, range_with_len}
use Rattle.std.proofs.Common.{refl, sym, ap, subst, ◌∙◌, arith, zero-add}
use Rattle.std.proofs.lemmas.List.{length-map, drop_at}
use Rattle.std.proofs.lemmas.List.Sorted.{IsPermutation-sym, Contains-permutation}
use Rattle.diagram_blocks.specs.Kinds.{is_subsystem}
use Rattle.diagram_meaning.specs.Diagram.{Diagram}
use Rattle.diagram_meaning.specs.Rows.{row_at, row_numbers, is_inside}
use Rattle.diagram_same.specs.Same.{AreSame, subsystem_rows}
use Rattle.modules_profile.specs.Headers.{header_functions}
use Rattle.modules_profile.specs.Locals.{own_header}
use Rattle.modules_profile.specs.SystemHeader.{SystemHeader}
use Rattle.modules_profile.specs.Systems.{system_name, systems, systems_inside}
use Rattle.modules_profile.proofs.lemmas.Members.{in-rest, in-map, in-filter, of-filter}
use Rattle.c_syntax.specs.Tree.{StmtTree, assign, assign_at, branch, call, StmtTrees, no_stmts, more_stmts, ProcedureTree, ProgramTree}
use Rattle.c_syntax.specs.declared.code.Target.TheVariants.{Own, Child}
use Rattle.c_syntax.specs.Lawful.{IsLawful, AreDistinct, pure_names, procedure_names, stmt_without_lines, stmts_without_lines, procedure_without_lines, without_lines}
use Rattle.c_syntax.specs.Names.{name_at}
use Rattle.c_syntax.proofs.lemmas.NameFacts.{AreDistinct-back}
use Rattle.c_syntax.proofs.lemmas.NamePlaces.{bytes_eq-same, bytes_eq-sym, position_from-name, map-at}
use Rattle.c_semantics.specs.Machine.{is_interface}
use Rattle.c_semantics.specs.NumberingLaws.{Calls, AllCalls}
use Rattle.emit_shape.specs.Names.{group_name}
use Rattle.emit_shape.specs.Heads.{Head, head_of, out_head, out_heads, update_head, start_head, reset_head, public_heads}
use Rattle.emit_shape.specs.ProgramShape.{viewed, HasSystemShape, HasShape}
use Rattle.emit_shape.specs.Programs.{no_procedure, procedure_at, names_in, procedures_of, struct_at, struct_place}
use Rattle.emit_shape.specs.Rules.{KeepsRules}
use Rattle.emit_shape.specs.Slots.{counters_in}
use Rattle.emit_pruned.proofs.lemmas.Numbers.{all-both}
use Rattle.emit_inlined.specs.Inlined.{is_root_name, inlined}
use Rattle.emit_inlined.specs.Laws.{InliningMindsNoLines}
use Rattle.emit_uniform.specs.Turned.{Turn, place_among, names_of_procedures, turned_name, turned_procedure}
use Rattle.emit_uniform.specs.Uniform.{AreTurned, IsUniform, turn_of, renamed, system_names, rows_beside}
use Rattle.right_uniform.proofs.Sites.{IsSited, CanInline}
use Rattle.right_uniform.specs.Laws.{InlinedIsUniform}
use Rattle.right_uniform.proofs.Lines.{lines-once}
use Rattle.right_uniform.proofs.TurnedBodies.{lines-turned}
use Rattle.right_uniform.proofs.Owners.{there-at, member, own-has, all-sited}
use Rattle.right_uniform.proofs.SystemNames.{HasEnd, out-end, group-end, update-end, start-end, reset-end}
use Rattle.right_uniform.proofs.InlinedTurned.{inlined-turned}

-- ---- Names

outs-end : (h : SystemHeader) (js : List ℕ) → AllByRecursion (λ (x : Head). HasEnd h.row x.name) (map (out_head h) js)
outs-end h [] = tt
outs-end h (j ∷ js) = (out-end h.row j, outs-end h js)

heads-end : (h : SystemHeader) → AllByRecursion (λ (x : Head). HasEnd h.row x.name) (public_heads h)
heads-end h = all-both (λ (x : Head). HasEnd h.row x.name) (out_heads h) (update_head h ∷ start_head h ∷ reset_head h ∷ [])
    (outs-end h (range_with_len 1 (length (header_functions h)))) (update-end h.row, (start-end h.row, (reset-end h.row, tt)))

module _ (p : ProgramTree) (d : Diagram) (delays : List Bool) (s : Option ℕ) (system : HasSystemShape p d delays s) where
  abbrev header : SystemHeader
  header = own_header (viewed system.view) system.view.profile

  abbrev own : List ProcedureTree
  own = procedures_of p (struct_place p s)

  -- each procedure of the system has such a name
  has-end : (q : ProcedureTree) → Contains own q → HasEnd s q.name
  has-end q has = by q.private refl
      (member (KeepsRules (names_in p (struct_place p s)) (viewed system.view) (counters_in system.fields.slots)) own q system.rules
      has).private_name
    where
      by : (b : Bool) → q.private ≡ b → MatchBool b ((g : ℕ) × (q.name ≡ group_name s g)) ⊤ → HasEnd s q.name
      by true private (g, named) = subst (HasEnd s) (sym named) (group-end s g)
      by false private none =
          member (λ (x : Head). HasEnd s x.name) (public_heads header) (head_of q) (heads-end header)
          (Contains-permutation (filter (λ (h : Head). not h.private) (map head_of own)) (public_heads header) (head_of q)
          (IsPermutation-sym (public_heads header) (filter (λ (h : Head). not h.private) (map head_of own)) system.heads)
          (in-filter (λ (h : Head). not h.private) (map head_of own) (head_of q) (in-map head_of own q has) (ap not private)))

-- ---- A program without lines

module _ (p : ProgramTree) where
  abbrev bare : ProgramTree
  bare = without_lines p

  at-aside : (qs : List ProcedureTree) (k : ℕ) →
      slice_index_or (map procedure_without_lines qs) k no_procedure ≡ procedure_without_lines (slice_index_or qs k no_procedure)
  at-aside [] k = refl
  at-aside (q ∷ qs) zero = refl
  at-aside (q ∷ qs) (suc k) = at-aside qs k

  names-aside : (qs : List ProcedureTree) → map (λ q. q.name) (map procedure_without_lines qs) ≡ map (λ q. q.name) qs
  names-aside [] = refl
  names-aside (q ∷ qs) = ap (λ names. q.name ∷ names) (names-aside qs)

  inside-aside : (k : ℕ) → k < length bare.procedures → k < length p.procedures
  inside-aside k inside = let long = length-map p.procedures procedure_without_lines in omega (arith, inside, long)

  inside-back : (k : ℕ) → k < length p.procedures → k < length bare.procedures
  inside-back k inside = let long = length-map p.procedures procedure_without_lines in omega (arith, inside, long)

  mutual
    stmt-sited : (q : ProcedureTree) (s : StmtTree) → Calls (IsSited p q) s →
        Calls (IsSited bare (procedure_without_lines q)) (stmt_without_lines s)
    stmt-sited q (assign line f e) h = tt
    stmt-sited q (assign_at line f index e) h = tt
    stmt-sited q (branch line test a b) h = (stmts-sited q a h.0, stmts-sited q b h.1)
    stmt-sited q (call line k Own es) h = (inside-back k h.0, ap (λ (x : ProcedureTree). x.of) (at-aside p.procedures k) ∙ h.1)
    stmt-sited q (call line k (Child f) es) h = (inside-back k h.0, ap (λ (x : ProcedureTree). x.private) (at-aside p.procedures k) ∙ h.1)

    stmts-sited : (q : ProcedureTree) (ss : StmtTrees) → AllCalls (IsSited p q) ss →
        AllCalls (IsSited bare (procedure_without_lines q)) (stmts_without_lines ss)
    stmts-sited q no_stmts h = tt
    stmts-sited q (more_stmts s ss) h = (stmt-sited q s h.0, stmts-sited q ss h.1)

  -- no two names are equal
  apart-aside : AreDistinct (names_of_procedures p) → (k : ℕ) → k < length p.procedures →
      place_among (names_of_procedures bare) (procedure_at bare k).name ≡ k
  apart-aside distinct k inside =
      let q = procedure_at p k in
      let names = names_of_procedures p in
      let within : k < length names = (let long = length-map p.procedures (λ (x : ProcedureTree). x.name) in omega (arith, inside, long)) in
      let same : name_at names k ≡ q.name = map-at (λ (x : ProcedureTree). x.name) p.procedures k q [] (there-at p.procedures k inside) in
      (λ i. place_among (names-aside p.procedures i) (at-aside p.procedures k i).name)
      ∙ ap (place_among names) (sym same)
      ∙ (λ i. unwrap_or (position_from (λ other. bytes_eq-sym other (name_at names k) i) 0 names) 0)
      ∙ ap (λ o. unwrap_or o 0) (position_from-name names 0 k distinct within)
      ∙ zero-add k

-- ---- Two systems that are the same

module _ (p : ProgramTree) (d : Diagram) (delays : List Bool) (hyper : ℕ) (lawful : IsLawful p) (shape : HasShape p d delays hyper) where
  -- a subsystem is a system
  is-system : (e : ℕ) → Contains (subsystem_rows d.rows) e → Contains (systems d.rows) (Some e)
  is-system e has = in-rest None (Some e) (map Some (systems_inside d.rows None)) (in-map Some (systems_inside d.rows None) e inside)
    where
      inside : Contains (systems_inside d.rows None) e
      inside =
          let (among, is) = of-filter (λ x. is_subsystem (row_at d.rows x).kind) (row_numbers d.rows) e has in
          in-filter (λ x. is_subsystem (row_at d.rows x).kind && is_inside d.rows None x) (row_numbers d.rows) e among
          (both (is_subsystem (row_at d.rows e).kind) is)
        where
          both : (b : Bool) → b ≡ true → (b && true) ≡ true
          both true is = refl
          both false is = is

  system-of : (e : ℕ) → Contains (subsystem_rows d.rows) e → HasSystemShape p d delays (Some e)
  system-of e has = member (HasSystemShape p d delays) (systems d.rows) (Some e) shape.each (is-system e has)

  end-of : (e : ℕ) → Contains (subsystem_rows d.rows) e → (k : ℕ) → k < length p.procedures →
      (procedure_at p k).of ≡ struct_place p (Some e) → HasEnd (Some e) (procedure_at p k).name
  end-of e has k inside of =
      has-end p d delays (Some e) (system-of e has) (procedure_at p k)
      (own-has p d delays hyper lawful shape (struct_place p (Some e)) k (procedure_at p k) (there-at p.procedures k inside) of)

  rootless : (e : ℕ) → Contains (subsystem_rows d.rows) e → (k : ℕ) → k < length (bare p).procedures →
      (procedure_at (bare p) k).of ≡ struct_place (bare p) (Some e) → is_root_name (procedure_at (bare p) k).name ≡ false
  rootless e has k inside of =
      let aside = at-aside p p.procedures k in
      let own_end = end-of e has k (inside-aside p k inside) (sym (ap (λ (x : ProcedureTree). x.of) aside) ∙ of) in
      ap (λ (x : ProcedureTree). is_root_name x.name) aside ∙ ap is_root_name own_end.named

  logged : (e f : ℕ) → Contains (subsystem_rows d.rows) e → (k : ℕ) → k < length (bare p).procedures →
      (procedure_at (bare p) k).of ≡ struct_place (bare p) (Some e) →
      is_interface (turned_procedure (bare p) (turn_of d.rows e f) (procedure_at (bare p) k)).name
      ≡ is_interface (procedure_at (bare p) k).name
  logged e f has k inside of =
      let aside = at-aside p p.procedures k in
      let of_p : (procedure_at p k).of ≡ struct_place p (Some e) = sym (ap (λ (x : ProcedureTree). x.of) aside) ∙ of in
      let own_end = end-of e has k (inside-aside p k inside) of_p in
      let owner_name : (struct_at p (procedure_at p k).of).name ≡ system_name (Some e) =
      ap (λ m. (struct_at p m).name) of_p ∙ (system-of e has).struct_there in
      ap (λ (x : ProcedureTree). is_interface (turned_name t (struct_at p x.of).name x.name)) aside
      ∙ (λ i. is_interface (turned_name t (owner_name i) (own_end.named i)))
      ∙ ap is_interface (turned own_end.end) ∙ own_end.each (Some f) ∙ sym (own_end.each (Some e))
      ∙ sym (ap (λ (x : ProcedureTree). is_interface x.name) aside ∙ ap is_interface own_end.named)
    where
      t : Turn
      t = turn_of d.rows e f

      turned : (end : List ℕ) → turned_name (turn_of d.rows e f) (system_name (Some e)) (system_name (Some e) ++ end)
          ≡ system_name (Some f) ++ end
      turned end =
          ap (λ name. name ++ drop (length (system_name (Some e))) (system_name (Some e) ++ end))
          (ap (λ b. if b then system_name (Some f) else renamed (map system_names (rows_beside d.rows e f)) (system_name (Some e)))
          (bytes_eq-same (system_name (Some e))))
          ∙ ap (λ name. system_name (Some f) ++ name) (drop_at (system_name (Some e)) end (length (system_name (Some e))) refl)

  can-inline : IsUniform p d → (e f : ℕ) → Contains (subsystem_rows d.rows) e → Contains (subsystem_rows d.rows) f → AreSame d e f →
      CanInline (bare p) (turn_of d.rows e f) e f
  can-inline uniform e f has_e has_f same = record {
    turned = uniform e f has_e has_f same;
    apart = λ k inside.
        apart-aside p (AreDistinct-back (pure_names p.pures) (procedure_names p.procedures) lawful.functions) k (inside-aside p k inside);
    sited = λ k inside. subst (λ (q : ProcedureTree). AllCalls (IsSited (bare p) q) q.body) (sym (at-aside p p.procedures k))
        (stmts-sited p (procedure_at p k) (procedure_at p k).body
        (all-sited p d delays hyper lawful shape k (inside-aside p k inside)));
    logged = logged e f has_e;
    rootless = rootless e has_e;
    rootless_there = rootless f has_f;
  }

pub inlined_is_uniform : InliningMindsNoLines → InlinedIsUniform
inlined_is_uniform aside p d delays hyper lawful shape uniform e f has_e has_f same =
    let t = turn_of d.rows e f in
    subst (λ q. AreTurned q t e f) (sym (aside p (without_lines p) (lines-once p)))
    (lines-turned (inlined (without_lines p)) t e f
    (inlined-turned (without_lines p) t e f (can-inline p d delays hyper lawful shape uniform e f has_e has_f same)))
