-- The fields that a script's calls leave, with one more call, and what right code says of it.
use Rattle.std.specs.Prelude.{◌≡◌, ℕ, suc, ◌+◌, List, [], ◌∷◌, ◌++◌, slice_index_or, ℤ, ⊤, refl}
use Rattle.std.specs.List.{AllByRecursion}
use Rattle.std.proofs.Common.{sym, ap, subst, ◌∙◌, arith}
use Rattle.diagram_meaning.specs.Laws.{Run}
use Rattle.c_semantics.specs.Cells.{Cells, cells_at}
use Rattle.c_semantics.specs.Machine.{After, LoggedCall, StoredField, Outcome, done, stuck}
use Rattle.right_relation.specs.Instances.{OnDone}
use Rattle.right_claim.specs.Scripts.{Call, out_with, update_with}
use Rattle.right_claim.specs.Calls.{CallsInside}
use Rattle.right_claim.specs.Held.{HoldsRun}
use Rattle.right_claim.specs.Driving.{HoldsOutputs, DrivenFrom}
use Rattle.tool_driver.specs.Driven.{Driven, functions_of, path_of, updates, LeavesFields, call_at}

-- ---- Outcomes

pub on-done : (o : Outcome) (P Q : After → Type 0) → ((a : After) → P a → Q a) → OnDone o P → OnDone o Q
on-done (done a) P Q f h = f a h
on-done (stuck at cells) P Q f h = absurd h

pub both-done : (o : Outcome) (P Q R : After → Type 0) → ((a : After) → P a → Q a → R a) → OnDone o P → OnDone o Q → OnDone o R
both-done (done a) P Q R f h k = f a h k
both-done (stuck at cells) P Q R f h k = absurd h

pub out-of-done : (o : Outcome) (P : After → Type 0) (R : Type 0) → ((a : After) → P a → R) → OnDone o P → R
out-of-done (done a) P R f h = f a h
out-of-done (stuck at cells) P R f h = absurd h

pub out-of-both : (o : Outcome) (S P Q : After → Type 0) (R : Type 0) → ((a : After) → P a → Q a → R) →
    OnDone o (λ a. S a × P a) → OnDone o Q → R
out-of-both (done a) S P Q R f h k = f a h.1 k
out-of-both (stuck at cells) S P Q R f h k = absurd h

module _ (w : Driven) where
  -- ---- One call more

  leaves-last : (t : ℕ) (cells mid : Cells) (c : Call) (a : After) → mid ≡ cells → call_at w t c mid ≡ done a →
      LeavesFields w t cells (c ∷ []) a.cells
  leaves-last t cells mid (out_with j values) a same does =
      subst (λ (o : Outcome). OnDone o (λ b. a.cells ≡ b.cells)) (sym (ap (call_at w t (out_with j values)) (sym same) ∙ does)) refl
  leaves-last t cells mid (update_with values) a same does =
      subst (λ (o : Outcome). OnDone o (λ b. a.cells ≡ b.cells)) (sym (ap (call_at w t (update_with values)) (sym same) ∙ does)) refl

  pub leaves-more : (script : List Call) (t n : ℕ) (cells mid : Cells) (c : Call) (a : After) → t + updates script ≡ n →
      LeavesFields w t cells script mid → call_at w n c mid ≡ done a →
      LeavesFields w t cells (script ++ c ∷ []) a.cells
  leaves-more [] t n cells mid c a count left does =
      let here : t ≡ n = omega (arith, count) in
      leaves-last t cells mid c a left (ap (λ (k : ℕ). call_at w k c mid) here ∙ does)
  leaves-more (out_with j values ∷ cs) t n cells mid c a count left does =
      on-done (call_at w t (out_with j values) cells) (λ b. LeavesFields w t b.cells cs mid)
      (λ b. LeavesFields w t b.cells (cs ++ c ∷ []) a.cells)
      (λ b rest. leaves-more cs t n b.cells mid c a count rest does) left
  leaves-more (update_with values ∷ cs) t n cells mid c a count left does =
      on-done (call_at w t (update_with values) cells) (λ b. LeavesFields w (suc t) b.cells cs mid)
      (λ b. LeavesFields w (suc t) b.cells (cs ++ c ∷ []) a.cells)
      (λ b rest. leaves-more cs (suc t) n b.cells mid c a (omega (arith, count)) rest does) left

  -- ---- What right code says

  module _ (xs : List (List ℤ)) (run : Run) where
    abbrev Rest : ℕ → Cells → List ℕ → List LoggedCall → List StoredField → List Call → Type 0
    Rest t cells called log stores script =
        DrivenFrom w.program w.diagram w.hyper (path_of w) w.system (functions_of w) xs run t cells called log stores script

    -- a function's outputs are those of the run
    abbrev pub HasOutputs : ℕ → Call → Cells → Type 0
    HasOutputs t (out_with j values) cells =
        HoldsOutputs w.program w.diagram w.hyper (path_of w) w.system (functions_of w) xs run t cells j
    HasOutputs t (update_with values) cells = ⊤

    -- those of all functions called in the tick
    abbrev Outputs : ℕ → List ℕ → After → Type 0
    Outputs t called a =
        AllByRecursion (HoldsOutputs w.program w.diagram w.hyper (path_of w) w.system (functions_of w) xs run t a.cells) called

    abbrev Inside : ℕ → List LoggedCall → List StoredField → After → Type 0
    Inside t log stores a =
        CallsInside w.program w.diagram (path_of w) w.system (slice_index_or xs t []) (slice_index_or run.values t [])
        (slice_index_or run.triggers t []) (log ++ a.log) (stores ++ a.stores)

    abbrev Held : ℕ → After → Type 0
    Held t a = HoldsRun w.program w.diagram w.system run t (cells_at (path_of w) a.cells)

    driven-last : (t : ℕ) (cells mid : Cells) (called : List ℕ) (log : List LoggedCall) (stores : List StoredField) (c : Call) →
        mid ≡ cells → Rest t cells called log stores (c ∷ []) →
        OnDone (call_at w t c mid) (λ a. HasOutputs t c a.cells)
    driven-last t cells mid called log stores (out_with j values) same h =
        subst (λ (o : Outcome). OnDone o (λ a. HasOutputs t (out_with j values) a.cells)) (ap (call_at w t (out_with j values)) (sym same))
        (on-done (call_at w t (out_with j values) cells) (λ a. Outputs t (j ∷ called) a
        × Rest t a.cells (j ∷ called) (log ++ a.log) (stores ++ a.stores) []) (λ a. HasOutputs t (out_with j values) a.cells)
        (λ a both. both.0.0) h)
    driven-last t cells mid called log stores (update_with values) same h =
        subst (λ (o : Outcome). OnDone o (λ a. ⊤)) (ap (call_at w t (update_with values)) (sym same))
        (on-done (call_at w t (update_with values) cells) (λ a. Inside t log stores a × Held t a × Rest (suc t) a.cells [] [] [] [])
        (λ a. ⊤) (λ a all. tt) h)

    pub driven-more : (script : List Call) (t n : ℕ) (cells mid : Cells) (called : List ℕ) (log : List LoggedCall)
        (stores : List StoredField) (c : Call) → t + updates script ≡ n →
        Rest t cells called log stores (script ++ c ∷ []) → LeavesFields w t cells script mid →
        OnDone (call_at w n c mid) (λ a. HasOutputs n c a.cells)
    driven-more [] t n cells mid called log stores c count h left =
        let here : t ≡ n = omega (arith, count) in
        subst (λ (k : ℕ). OnDone (call_at w k c mid) (λ a. HasOutputs k c a.cells)) here
        (driven-last t cells mid called log stores c left h)
    driven-more (out_with j values ∷ cs) t n cells mid called log stores c count h left =
        out-of-both (call_at w t (out_with j values) cells) (Outputs t (j ∷ called))
        (λ a. Rest t a.cells (j ∷ called) (log ++ a.log) (stores ++ a.stores) (cs ++ c ∷ []))
        (λ a. LeavesFields w t a.cells cs mid) (OnDone (call_at w n c mid) (λ a. HasOutputs n c a.cells))
        (λ a rest leaves. driven-more cs t n a.cells mid (j ∷ called) (log ++ a.log) (stores ++ a.stores) c count rest leaves) h left
    driven-more (update_with values ∷ cs) t n cells mid called log stores c count h left =
        out-of-both (call_at w t (update_with values) cells) (Inside t log stores)
        (λ a. Rest (suc t) a.cells [] [] [] (cs ++ c ∷ [])) (λ a. LeavesFields w (suc t) a.cells cs mid)
        (OnDone (call_at w n c mid) (λ a. HasOutputs n c a.cells))
        (λ a rest leaves. driven-more cs (suc t) n a.cells mid [] [] [] c (omega (arith, count)) rest leaves)
        (on-done (call_at w t (update_with values) cells)
        (λ a. Inside t log stores a × Held t a × Rest (suc t) a.cells [] [] [] (cs ++ c ∷ []))
        (λ a. Inside t log stores a × Rest (suc t) a.cells [] [] [] (cs ++ c ∷ [])) (λ a all. (all.0, all.2)) h) left
