-- What a call by name leaves, and the calls in it, where a program refines another.
use Rattle.std.specs.Prelude.{◌≡◌, ℕ, ◌&&◌, Bool, true, false, cond, List, [], ◌∷◌, ◌++◌, map, filter, Contains, IsPermutation, Option, Some, None, ℤ, refl}
use Rattle.std.specs.List.{AllByRecursion}
use Rattle.std.proofs.Common.{sym, ap, subst, ◌∙◌}
use Rattle.std.proofs.lemmas.Bool.{and_parts, and_from}
use Rattle.std.proofs.lemmas.List.{map-append}
use Rattle.std.proofs.lemmas.List.Sorted.{IsPermutation-map}
use Rattle.diagram_activity.specs.declared.TrigMem.{TrigMem}
use Rattle.diagram_blocks.specs.Kinds.{is_subsystem}
use Rattle.diagram_meaning.specs.declared.table.Row.{Row}
use Rattle.diagram_meaning.specs.Rows.{row_at, row_numbers, around, is_inside}
use Rattle.diagram_meaning.specs.Diagram.{Diagram}
use Rattle.diagram_meaning.specs.Run.{active_in}
use Rattle.modules_profile.specs.Systems.{systems, systems_inside}
use Rattle.modules_profile.proofs.lemmas.Members.{in-first, in-rest, in-map, in-filter, of-filter}
use Rattle.c_syntax.specs.Tree.{ProcedureTree, ProgramTree}
use Rattle.c_semantics.specs.Cells.{Cells}
use Rattle.c_semantics.specs.Machine.{LoggedCall, StoredField, After, Outcome, done, stuck, call_from_outside}
use Rattle.emit_shape.specs.Names.{update_name}
use Rattle.emit_shape.specs.Programs.{procedure_place}
use Rattle.emit_shape.specs.Faces.{out_places}
use Rattle.right_relation.specs.Instances.{OnDone, same_path, calls_at}
use Rattle.right_claim.specs.Paths.{path_to, path_inside}
use Rattle.right_claim.specs.Calls.{IsWholeTick, HasCallsOf, CallsInside, CallsInTick}
use Rattle.c_refinement.specs.Refinement.{placed_call, RefinesAfter, Refines, RefinesBy}
use Rattle.c_refinement.specs.Laws.{KeepsNamed}
use Rattle.right_refined.specs.Refined.{with_procedures}
use Rattle.right_refined.proofs.Lists.{each-in}
use Rattle.right_refined.proofs.KeptPlaces.{KeepsSystem, KeepsAll}

-- ---- Systems

-- a system inside one is a system
inside-system : (rows : List Row) (s : Option ℕ) (e : ℕ) → Contains (systems_inside rows s) e → Contains (systems rows) (Some e)
inside-system rows s e has =
    let kept = of-filter (λ c. is_subsystem (row_at rows c).kind && is_inside rows s c) (row_numbers rows) e has in
    let parts = and_parts (is_subsystem (row_at rows e).kind) (is_inside rows s e) kept.1 in
    in-rest None (Some e) (map Some (systems_inside rows None))
    (in-map Some (systems_inside rows None) e
    (in-filter (λ c. is_subsystem (row_at rows c).kind && is_inside rows None c) (row_numbers rows) e kept.0
    (and_from (is_subsystem (row_at rows e).kind) true parts.0 refl)))

root-system : (rows : List Row) → Contains (systems rows) None
root-system rows = in-first None (map Some (systems_inside rows None))

-- ---- Outcomes

module _ (place : ℕ → ℕ) where
  -- what holds of what is left follows where it refines
  pub done-refined : (a b : Outcome) (P Q : After → Type 0) → Refines place a b →
      ((x y : After) → RefinesAfter place x y → P x → Q y) → OnDone a P → OnDone b Q
  done-refined (done x) (done y) P Q refines next h = next x y refines h
  done-refined (done x) (stuck at cells) P Q refines next h = absurd refines
  done-refined (stuck at cells) b P Q refines next h = absurd h

  -- the calls on an instance
  pub calls-placed : (path : List ℕ) (log : List LoggedCall) →
      calls_at path (map (placed_call place) log) ≡ map place (calls_at path log)
  calls-placed path [] = refl
  calls-placed path (c ∷ log) = by (same_path path c.path) (calls-placed path log)
    where
      by : (b : Bool) → calls_at path (map (placed_call place) log) ≡ map place (calls_at path log) →
          map (λ (x : LoggedCall). x.procedure) (cond b (placed_call place c ∷ filter (λ (x : LoggedCall). same_path path x.path)
          (map (placed_call place) log)) (filter (λ (x : LoggedCall). same_path path x.path) (map (placed_call place) log)))
          ≡ map place (map (λ (x : LoggedCall). x.procedure) (cond b (c ∷ filter (λ (x : LoggedCall). same_path path x.path) log)
          (filter (λ (x : LoggedCall). same_path path x.path) log)))
      by true rest = ap (λ ks. place c.procedure ∷ ks) rest
      by false rest = rest

  -- the calls of two, one after the other
  pub both-placed : (log more others : List LoggedCall) → others ≡ map (placed_call place) more →
      map (placed_call place) (log ++ more) ≡ map (placed_call place) log ++ others
  both-placed log more others is = map-append (placed_call place) log more ∙ ap (λ l. map (placed_call place) log ++ l) (sym is)

  paths-placed : (P : List ℕ → Type 0) (log : List LoggedCall) → AllByRecursion (λ (c : LoggedCall). P c.path) log →
      AllByRecursion (λ (c : LoggedCall). P c.path) (map (placed_call place) log)
  paths-placed P [] all = tt
  paths-placed P (c ∷ log) all = (all.0, paths-placed P log all.1)

-- ---- Calls and stores

module _ (p : ProgramTree) (procedures : List ProcedureTree) (keeps : ℕ → Bool) (place : ℕ → ℕ) (d : Diagram)
    (refines : RefinesBy place keeps p (with_procedures p procedures))
    (kept : KeepsAll place keeps p (with_procedures p procedures) d) where
  abbrev q : ProgramTree
  q = with_procedures p procedures

  -- a call of the procedure with a name
  pub named-refined : (name : List ℕ) → KeepsNamed place keeps p q name → (path : List ℕ) (values : List ℤ) (cells : Cells) →
      Refines place (call_from_outside p (procedure_place p name) path values cells)
      (call_from_outside q (procedure_place q name) path values cells)
  named-refined name named path values cells =
      subst (λ k. Refines place (call_from_outside p (procedure_place p name) path values cells)
      (call_from_outside q k path values cells)) (sym named.moved)
      (refines.calls (procedure_place p name) named.kept path values cells)

  whole-refined : (s : Option ℕ) → KeepsSystem place keeps p q d s → (calls : List ℕ) → IsWholeTick p s calls →
      IsWholeTick q s (map place calls)
  whole-refined s system calls h = record {
    outs = map place h.outs;
    each_once = subst (λ places. IsPermutation places (map place h.outs)) (sym system.outs)
        (IsPermutation-map place (out_places p s) h.outs h.each_once);
    then_update =
        ap (map place) h.then_update ∙ map-append place h.outs (procedure_place p (update_name s) ∷ [])
        ∙ ap (λ k. map place h.outs ++ k ∷ []) (sym system.update.moved);
  }

  calls-refined : (s : Option ℕ) → KeepsSystem place keeps p q d s → (is_active : Bool) (calls : List ℕ) →
      HasCallsOf p s is_active calls → HasCallsOf q s is_active (map place calls)
  calls-refined s system true calls h = whole-refined s system calls h
  calls-refined s system false calls h = ap (map place) h

  pub inside-refined : (path : List ℕ) (s : Option ℕ) (x v : List ℤ) (g : List TrigMem) (log : List LoggedCall)
      (stores : List StoredField) → CallsInside p d path s x v g log stores →
      CallsInside q d path s x v g (map (placed_call place) log) stores
  inside-refined path s x v g log stores h = record {
    each = each-in
        (λ e. HasCallsOf p (Some e) (active_in d s x v g (around d.rows s e)) (calls_at (path ++ path_inside p d.rows s e) log))
        (λ e. HasCallsOf q (Some e) (active_in d s x v g (around d.rows s e))
        (calls_at (path ++ path_inside q d.rows s e) (map (placed_call place) log))) (systems_inside d.rows s)
        (λ e has one. subst (HasCallsOf q (Some e) (active_in d s x v g (around d.rows s e)))
        (sym (calls-placed place (path ++ path_inside q d.rows s e) log))
        (calls-refined (Some e) (kept.system (Some e) (inside-system d.rows s e has)) (active_in d s x v g (around d.rows s e))
        (calls_at (path ++ path_inside p d.rows s e) log) one)) h.each;
    stored_once = h.stored_once;
    inner_stored_once = h.inner_stored_once;
    no_other = paths-placed place
        (Contains (path ∷ map (λ e. path ++ path_inside q d.rows s e) (systems_inside d.rows s))) log h.no_other;
  }

  pub tick-refined : (x v : List ℤ) (g : List TrigMem) (log : List LoggedCall) (stores : List StoredField) →
      CallsInTick p d x v g log stores → CallsInTick q d x v g (map (placed_call place) log) stores
  tick-refined x v g log stores h = record {
    inside = inside-refined (path_to p d.rows None) None x v g log stores h.inside;
    top = subst (IsWholeTick q None) (sym (calls-placed place (path_to q d.rows None) log))
        (whole-refined None (kept.system None (root-system d.rows)) (calls_at (path_to p d.rows None) log) h.top);
  }
