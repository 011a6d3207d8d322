-- A system that is another one turned still is when helpers are inlined.
use Rattle.std.specs.Prelude.{◌≡◌, ℕ, zero, suc, ◌<◌, Bool, true, false, if◌then◌else◌, List, [], ◌∷◌, ◌++◌, map, filter, length, cond, slice_get, slice_index_or, Option, Some, None, option_map}
use Rattle.std.specs.List.{AllByRecursion}
use Rattle.std.proofs.Common.{refl, sym, ap, subst, ◌∙◌, arith}
use Rattle.std.proofs.lemmas.Option.{get_or_from_slice_get}
use Rattle.c_syntax.specs.Tree.{StmtTree, StmtTrees, no_stmts, more_stmts, stmts_append, ProcedureTree, ProgramTree}
use Rattle.c_semantics.specs.Machine.{is_interface}
use Rattle.emit_shape.specs.Programs.{no_procedure, procedure_at, struct_at, struct_place, procedures_of}
use Rattle.emit_pruned.proofs.lemmas.Numbers.{all-left, all-right, all-both}
use Rattle.emit_inlined.specs.Inlined as inlined
use Rattle.emit_inlined.specs.Inlined.{stmt_calls, stmts_calls, is_helper, helper_call, stays, place, itself, moved_stmt, moved_stmts, in_place_of, inlined_stmts, inlined_procedure}
use Rattle.emit_inlined.proofs.lemmas.CallCounts.{CallsHelper, helper_call-found, others_in, remaining, remaining-stay, helper-is as helper-facts}
use Rattle.emit_inlined.proofs.lemmas.Staying.{stays-at}
use Rattle.emit_uniform.specs.Turned.{Turn, place_among, names_of_procedures, turned_name, turned_stmt, turned_stmts, turned_number, turned_procedure}
use Rattle.emit_uniform.specs.Uniform.{AreTurned}
use Rattle.right_uniform.proofs.Sites.{IsSited, CanInline}
use Rattle.right_uniform.proofs.TurnedCalls.{IsMovedTo, stmt-moved, stmts-moved, append-turned}
use Rattle.right_uniform.proofs.KeptNames.{name-kept}
use Rattle.right_uniform.proofs.OwnPlaces.{own-kept_at}
use Rattle.right_uniform.proofs.HelpersTurned.{places, shift, IsTurned, all-turned, moved, own-turned, body-is, sites, same-at, logged-is, found-moved, Stmt, Body, call-is, remaining-moved, stays-is, called}

-- what is at a position of a list
there-at : (xs : List ProcedureTree) (k : ℕ) → k < length xs → slice_get xs k ≡ Some (slice_index_or xs k no_procedure)
there-at [] k h = absurd (omega (arith, h))
there-at (x ∷ xs) zero h = refl
there-at (x ∷ xs) (suc k) h = there-at xs k (omega (arith, h))

both-hold : (P Q : ℕ → Type 0) (R : ℕ → Type 0) (move : ℕ → ℕ) (js : List ℕ) → ((j : ℕ) → P j → Q (move j) → R j) →
    AllByRecursion P js → AllByRecursion Q (map move js) → AllByRecursion R js
both-hold P Q R move [] next h g = tt
both-hold P Q R move (j ∷ js) next h g = (next j h.0 g.0, both-hold P Q R move js next h.1 g.1)

both : (P Q : ℕ → Type 0) (js : List ℕ) → AllByRecursion P js → AllByRecursion Q js → AllByRecursion (λ j. P j × Q j) js
both P Q [] h g = tt
both P Q (j ∷ js) h g = ((h.0, g.0), both P Q js h.1 g.1)

module _ (b : ProgramTree) (t : Turn) (e f : ℕ) (can : CanInline b t e f) where
  abbrev r : ProgramTree
  r = inlined.inlined b

  -- the number of each procedure that it comes to
  abbrev n : ℕ → ℕ
  n = turned_number b t

  abbrev later : ℕ → ℕ
  later = turned_number r t

  abbrev q-at : ℕ → ProcedureTree
  q-at k = slice_index_or b.procedures k no_procedure

  -- ---- Places

  -- what stays and is turned comes to its place
  place-is : (j : ℕ) → j < length b.procedures → stays b j ≡ true → stays b (n j) ≡ true → place b (n j) ≡ later (place b j)
  place-is j inside stay stay_there =
      sym (name-kept (stays b) (inlined_procedure b) (λ q. refl)
      (turned_name t (struct_at b (q-at j).of).name (q-at j).name) b.procedures stay_there)
      ∙ ap (λ (q : ProcedureTree). place_among (names_of_procedures r) (turned_name t (struct_at b q.of).name q.name))
      (sym (get_or_from_slice_get r.procedures (place b j) (inlined_procedure b (q-at j)) no_procedure
      (stays-at b j (q-at j) (there-at b.procedures j inside) stay)))

  -- so do those that a procedure calls beside helpers
  calls-inside : (x : ℕ) → IsTurned b t e f can x → AllByRecursion (λ j. j < length b.procedures) (stmts_calls (q-at x).body)
  calls-inside x is = called (IsSited b (q-at x)) (λ j. j < length b.procedures) (λ j h. h.0) (λ j g h. h.0) (q-at x).body
      (can.sited x is.stands.inside)

  others-inside : (P : ℕ → Type 0) (ss : StmtTrees) → AllByRecursion P (stmts_calls ss) → AllByRecursion P (others_in b ss)
  others-inside P no_stmts h = tt
  others-inside P (more_stmts s ss) h =
      by (helper_call b s) (others-inside P ss (all-right P (stmt_calls s) (stmts_calls ss) h))
    where
      by : (o : Option (ℕ × List ℕ)) → AllByRecursion P (others_in b ss) →
          AllByRecursion P (elim o [ Some found ↦ others_in b ss | None ↦ stmt_calls s ++ others_in b ss ])
      by (Some found) rest = rest
      by None rest = all-both P (stmt_calls s) (others_in b ss) (all-left P (stmt_calls s) (stmts_calls ss) h) rest

  remaining-inside : (x : ℕ) → IsTurned b t e f can x → AllByRecursion (λ j. j < length b.procedures) (remaining b (q-at x))
  remaining-inside x is = by (is_interface (q-at x).name)
    where
      by : (c : Bool) → AllByRecursion (λ j. j < length b.procedures) (if c then others_in b (q-at x).body else stmts_calls (q-at x).body)
      by true = others-inside (λ j. j < length b.procedures) (q-at x).body (calls-inside x is)
      by false = calls-inside x is

  remaining-comes : (x : ℕ) → IsTurned b t e f can x → AllByRecursion (IsMovedTo itself (place b) n later) (remaining b (q-at x))
  remaining-comes x is = both-hold (λ j. (j < length b.procedures) × (stays b j ≡ true)) (λ j. stays b j ≡ true)
      (IsMovedTo itself (place b) n later) n (remaining b (q-at x)) (λ j h g. place-is j h.0 h.1 g)
      (both (λ j. j < length b.procedures) (λ j. stays b j ≡ true) (remaining b (q-at x)) (remaining-inside x is)
      (remaining-stay b x (q-at x) (there-at b.procedures x is.stands.inside)))
      (subst (AllByRecursion (λ j. stays b j ≡ true)) (remaining-moved b t e f can x is)
      (remaining-stay b (n x) (q-at (n x)) (there-at b.procedures (n x) is.comes.inside)))

  -- ---- Bodies

  -- a helper's body where it goes
  helper-body : (x : ℕ) → IsTurned b t e f can x → (found : ℕ × List ℕ) → IsTurned b t e f can found.0 → is_helper b found.0 ≡ true →
      moved_stmts (λ i. slice_index_or found.1 i 0) (place b) (inlined.procedure_at b (n found.0)).body
      ≡ turned_stmts later (moved_stmts (λ i. slice_index_or found.1 i 0) (place b) (inlined.procedure_at b found.0).body)
  helper-body x is found is_found helper =
      ap (λ (q : ProcedureTree). moved_stmts param (place b) q.body) (same-at b t e f can (n found.0) is_found.comes.inside)
      ∙ ap (moved_stmts param (place b)) (body-is b t e f can found.0 is_found)
      ∙ stmts-moved param (place b) n later (q-at found.0).body
      (subst (λ c. AllByRecursion (IsMovedTo itself (place b) n later)
      (if c then others_in b (q-at found.0).body else stmts_calls (q-at found.0).body)) unlogged (remaining-comes found.0 is_found))
      ∙ ap (λ (q : ProcedureTree). turned_stmts later (moved_stmts param (place b) q.body))
      (sym (same-at b t e f can found.0 is_found.stands.inside))
    where
      param : ℕ → ℕ
      param i = slice_index_or found.1 i 0

      unlogged : is_interface (q-at found.0).name ≡ false
      unlogged = ap (λ (q : ProcedureTree). is_interface q.name) (sym (same-at b t e f can found.0 is_found.stands.inside))
          ∙ (helper-facts b found.0 helper).unlogged

  in-place : (x : ℕ) → IsTurned b t e f can x → (s : StmtTree) → Stmt b t e f can x s →
      (helper_call b s ≡ None → AllByRecursion (IsMovedTo itself (place b) n later) (stmt_calls s)) →
      in_place_of b (turned_stmt n s) ≡ turned_stmts later (in_place_of b s)
  in-place x is s site comes =
      (λ i. elim (call-is b t e f can x is s site i) [
        | Some found ↦ moved_stmts (λ k. slice_index_or found.1 k 0) (place b) (inlined.procedure_at b found.0).body
        | None ↦ more_stmts (moved_stmt itself (place b) (turned_stmt n s)) no_stmts
      ]) ∙ by (helper_call b s) refl
    where
      own : (found : ℕ × List ℕ) → CallsHelper b s found → IsTurned b t e f can found.0
      own found c = own-turned b t e f can x found.0 is (subst (Stmt b t e f can x) c.is site).0

      by : (o : Option (ℕ × List ℕ)) → helper_call b s ≡ o →
          elim (option_map (found-moved b t e f can) o) [
            | Some found ↦ moved_stmts (λ k. slice_index_or found.1 k 0) (place b) (inlined.procedure_at b found.0).body
            | None ↦ more_stmts (moved_stmt itself (place b) (turned_stmt n s)) no_stmts
          ]
          ≡ turned_stmts later (elim o [
            | Some found ↦ moved_stmts (λ k. slice_index_or found.1 k 0) (place b) (inlined.procedure_at b found.0).body
            | None ↦ more_stmts (moved_stmt itself (place b) s) no_stmts
          ])
      by (Some found) there_is =
          let c = helper_call-found b s found there_is in helper-body x is found (own found c) c.helper
      by None none =
          let one = stmt-moved itself (place b) n later s (comes none) in (λ i. more_stmts (one i) no_stmts)

  -- each of these numbers comes to its place
  abbrev Comes : List ℕ → Type 0
  Comes js = AllByRecursion (IsMovedTo itself (place b) n later) js

  stmts-inlined : (x : ℕ) → IsTurned b t e f can x → (ss : StmtTrees) → Body b t e f can x ss →
      AllByRecursion (IsMovedTo itself (place b) n later) (others_in b ss) →
      inlined_stmts b (turned_stmts n ss) ≡ turned_stmts later (inlined_stmts b ss)
  stmts-inlined x is no_stmts site comes = refl
  stmts-inlined x is (more_stmts s ss) site comes =
      (λ i. stmts_append (in-place x is s site.0 own i) (stmts-inlined x is ss site.1 others i))
      ∙ sym (append-turned later (in_place_of b s) (inlined_stmts b ss))
    where
      own : helper_call b s ≡ None → Comes (stmt_calls s)
      own none = all-left (IsMovedTo itself (place b) n later) (stmt_calls s) (others_in b ss)
          (subst (λ o. Comes (elim o [ Some found ↦ others_in b ss | None ↦ stmt_calls s ++ others_in b ss ])) none comes)

      others : Comes (others_in b ss)
      others = by (helper_call b s) comes
        where
          by : (o : Option (ℕ × List ℕ)) → Comes (elim o [ Some found ↦ others_in b ss | None ↦ stmt_calls s ++ others_in b ss ]) →
              Comes (others_in b ss)
          by (Some found) h = h
          by None h = all-right (IsMovedTo itself (place b) n later) (stmt_calls s) (others_in b ss) h

  -- a procedure and the one that it comes to, inlined
  body-inlined : (x : ℕ) → IsTurned b t e f can x →
      (inlined_procedure b (q-at (n x))).body ≡ turned_stmts later (inlined_procedure b (q-at x)).body
  body-inlined x is =
      (λ i. if logged-is b t e f can x is i then inlined_stmts b (body-is b t e f can x is i)
      else moved_stmts itself (place b) (body-is b t e f can x is i))
      ∙ by (is_interface (q-at x).name) (remaining-comes x is)
    where
      by : (c : Bool) →
          AllByRecursion (IsMovedTo itself (place b) n later) (if c then others_in b (q-at x).body else stmts_calls (q-at x).body) →
          (if c then inlined_stmts b (turned_stmts n (q-at x).body) else moved_stmts itself (place b) (turned_stmts n (q-at x).body))
          ≡ turned_stmts later (if c then inlined_stmts b (q-at x).body else moved_stmts itself (place b) (q-at x).body)
      by true comes = stmts-inlined x is (q-at x).body (sites b t e f can x is) comes
      by false comes = stmts-moved itself (place b) n later (q-at x).body comes

  procedure-inlined : (x : ℕ) → IsTurned b t e f can x →
      inlined_procedure b (q-at (n x)) ≡ turned_procedure r t (inlined_procedure b (q-at x))
  procedure-inlined x is = λ i. record {
    name = (is.is i).name;
    private = (is.is i).private;
    of = (is.is i).of;
    params = (is.is i).params;
    body = body-inlined x is i;
  }

  -- ---- The system

  all-inlined : (ks : List ℕ) → AllByRecursion (IsTurned b t e f can) ks →
      map (λ k. inlined_procedure b (q-at k)) (filter (stays b) (map n ks))
      ≡ map (turned_procedure r t) (map (λ k. inlined_procedure b (q-at k)) (filter (stays b) ks))
  all-inlined [] h = refl
  all-inlined (k ∷ ks) h =
      (λ i. map (λ m. inlined_procedure b (q-at m))
      (cond (stays-is b t e f can k h.0 i) (n k ∷ filter (stays b) (map n ks)) (filter (stays b) (map n ks))))
      ∙ by (stays b k) (all-inlined ks h.1)
    where
      by : (c : Bool) → map (λ m. inlined_procedure b (q-at m)) (filter (stays b) (map n ks))
          ≡ map (turned_procedure r t) (map (λ m. inlined_procedure b (q-at m)) (filter (stays b) ks)) →
          map (λ m. inlined_procedure b (q-at m)) (cond c (n k ∷ filter (stays b) (map n ks)) (filter (stays b) (map n ks)))
          ≡ map (turned_procedure r t) (map (λ m. inlined_procedure b (q-at m)) (cond c (k ∷ filter (stays b) ks) (filter (stays b) ks)))
      by true rest = λ i. procedure-inlined k h.0 i ∷ rest i
      by false rest = rest

  own-left : (of : ℕ) → procedures_of r of ≡ map (λ k. inlined_procedure b (q-at k)) (filter (stays b) (places b t e f can of))
  own-left of = own-kept_at of (stays b) (inlined_procedure b) (λ q. refl) b.procedures 0 b.procedures (shift b t e f can)

  pub inlined-turned : AreTurned r t e f
  inlined-turned = record {
    struct = can.turned.struct;
    procedures = own-left (struct_place b (Some f))
        ∙ ap (λ ks. map (λ k. inlined_procedure b (q-at k)) (filter (stays b) ks)) (moved b t e f can)
        ∙ all-inlined (places b t e f can (struct_place b (Some e))) (all-turned b t e f can)
        ∙ ap (map (turned_procedure r t)) (sym (own-left (struct_place b (Some e))));
  }
