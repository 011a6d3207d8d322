-- A step of `root` that doesn't move the tick on is refused, and a start of it that doesn't make it 0.
use Rattle.std.specs.Prelude.{◌≡◌, ◌⊎◌, refl, ℕ, ◌<◌, ◌==◌, false, List, [], ◌∷◌, ◌++◌, filter, length, slice_index_or, None, pos}
use Rattle.std.specs.List.{AllZip}
use Rattle.std.specs.Fmt.{digits}
use Rattle.std.proofs.Common.{sym, ap, subst, ◌∙◌, inl, inr, arith, true≢false}
use Rattle.std.proofs.lemmas.Bool.{eq-eqb}
use Rattle.modules_profile.specs.Headers.{header_of}
use Rattle.modules_profile.specs.LocalSamples.{shared_child}
use Rattle.c_syntax.specs.Tree.{literal, StmtTree, assign, list_of_stmts, ProcedureTree}
use Rattle.c_syntax.specs.RootFields.{root_struct}
use Rattle.emit_shape.specs.Heads.{Head}
use Rattle.emit_shape.specs.Programs.{procedure_at, procedures_of}
use Rattle.emit_shape.specs.RootCode.{RootStep, moves_on, tick_steps, Does, is_literal_store, HasRootCode}
use Rattle.right_claim.specs.SharedSamples.{still_tick, leaves_tick}
use Rattle.right_claim.proofs.ShapeLines.{two-orders}

-- what is beside the end of a list is the end of the other
end-beside : {A B : Type 0} (P : A → B → Type 0) (xs zs : List A) (ys : List B) → AllZip P (xs ++ zs) ys →
    (front rest : List B) × (ys ≡ front ++ rest) × AllZip P zs rest
end-beside P [] zs ys h = ([], ys, refl, h)
end-beside P (x ∷ xs) zs [] h = absurd h
end-beside P (x ∷ xs) zs (y ∷ ys) h = let e = end-beside P xs zs ys h.1 in (y ∷ e.0, e.1, ap (λ l. y ∷ l) e.2, e.3)

-- the last of a list
abbrev last_of : StmtTree → List StmtTree → StmtTree
last_of y [] = y
last_of y (x ∷ xs) = last_of x xs

last-is : (a y : StmtTree) (xs : List StmtTree) → last_of a (xs ++ y ∷ []) ≡ y
last-is a y [] = refl
last-is a y (x ∷ xs) = last-is x y xs

apart : (a b : ℕ) → (a == b) ≡ false → a ≡ b → ⊥
apart a b differ e = true≢false (sym (eq-eqb a b e) ∙ differ)

-- the last statement of a tick's step moves it on
moves-last : (P : RootStep → StmtTree → Type 0) (steps : List RootStep) (a : StmtTree) (body : List StmtTree) →
    AllZip P (steps ++ moves_on ∷ []) body → P moves_on (last_of a body)
moves-last P steps a body h = let e = end-beside P steps (moves_on ∷ []) body h in by e.0 e.1 e.2 e.3
  where
    by : (front rest : List StmtTree) → body ≡ front ++ rest → AllZip P (moves_on ∷ []) rest → P moves_on (last_of a body)
    by front [] e last = absurd last
    by front (y ∷ []) e last = subst (P moves_on) (sym (ap (last_of a) e ∙ last-is a y front)) last.0
    by front (y ∷ z ∷ rest) e last = absurd last.1

-- `root_start` has another name than `root_step`, whose last statement copies an output
still : HasRootCode still_tick shared_child 1 → ⊥
unfolding digits
still h = by (two-orders h.start h.step (procedures_of still_tick (root_struct still_tick)) h.only)
  where
    by : (procedures_of still_tick (root_struct still_tick) ≡ h.start ∷ h.step ∷ [])
        ⊎ (procedures_of still_tick (root_struct still_tick) ≡ h.step ∷ h.start ∷ []) → ⊥
    by (inr e) =
        let step : procedure_at still_tick 13 ≡ h.step =
        ap (λ (xs : List ProcedureTree). slice_index_or xs 0 (procedure_at still_tick 13)) e in
        apart 10 9 refl (ap (λ (x : ProcedureTree). length x.name) step ∙ ap (λ (x : Head). length x.name) h.step_head)
    by (inl e) =
        let step : procedure_at still_tick 14 ≡ h.step =
        ap (λ (xs : List ProcedureTree). slice_index_or xs 1 (procedure_at still_tick 14)) e in
        let does =
        subst (λ (x : ProcedureTree). AllZip (Does still_tick 1 x) (tick_steps shared_child (header_of shared_child None h.profile))
        (list_of_stmts x.body)) (sym step) h.does in
        let moves =
        moves-last (Does still_tick 1 (procedure_at still_tick 14)) _ (assign 0 0 (literal (pos 0)))
        (list_of_stmts (procedure_at still_tick 14).body) does in
        apart 2 3 refl (ap (λ (name : List ℕ). length name) moves.0)

-- the start of the other stores no written number
left : HasRootCode leaves_tick shared_child 1 → ⊥
unfolding digits
left h = by (two-orders h.start h.step (procedures_of leaves_tick (root_struct leaves_tick)) h.only)
  where
    none : (n : ℕ) → n ≡ 0 → 0 < n → ⊥
    none n e below = omega (arith, e, below)

    by : (procedures_of leaves_tick (root_struct leaves_tick) ≡ h.start ∷ h.step ∷ [])
        ⊎ (procedures_of leaves_tick (root_struct leaves_tick) ≡ h.step ∷ h.start ∷ []) → ⊥
    by (inr e) =
        let step : procedure_at leaves_tick 13 ≡ h.step =
        ap (λ (xs : List ProcedureTree). slice_index_or xs 0 (procedure_at leaves_tick 13)) e in
        apart 10 9 refl (ap (λ (x : ProcedureTree). length x.name) step ∙ ap (λ (x : Head). length x.name) h.step_head)
    by (inl e) =
        let start : procedure_at leaves_tick 13 ≡ h.start =
        ap (λ (xs : List ProcedureTree). slice_index_or xs 0 (procedure_at leaves_tick 13)) e in
        none (length (filter is_literal_store (list_of_stmts h.start.body)))
        (sym (ap (λ (x : ProcedureTree). length (filter is_literal_store (list_of_stmts x.body))) start)) h.begins
