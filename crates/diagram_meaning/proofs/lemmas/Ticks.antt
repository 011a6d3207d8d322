-- A run tick by tick, and runs made longer.
use Rattle.std.specs.Prelude.{◌≡◌, ℕ, zero, suc, ◌+◌, ◌<◌, List, [], ◌∷◌, ◌++◌, length, slice_index_or, Option, ℤ}
use Rattle.std.proofs.Common.{subst, arith}
use Rattle.diagram_activity.specs.declared.TrigMem.{TrigMem}
use Rattle.diagram_meaning.specs.Diagram.{Diagram}
use Rattle.diagram_meaning.specs.Run.{IsTick, RunFrom}

-- the values before tick t, where these are before the first
abbrev pub before_tick : List ℤ → List (List ℤ) → ℕ → List ℤ
before_tick first vs zero = first
before_tick first vs (suc t) = slice_index_or vs t []

-- the equations hold at each tick t, counted from tick k
pub tick-from : (d : Diagram) (s : Option ℕ) (k t : ℕ) (before : List ℤ) (m : List (List ℤ)) (g : List TrigMem)
    (xs vs : List (List ℤ)) (ms : List (List (List ℤ))) (gs : List (List TrigMem)) →
    RunFrom d s k before m g xs vs ms gs → t < length xs →
    IsTick d s (t + k) (slice_index_or xs t []) (before_tick before vs t) (slice_index_or (m ∷ ms) t [])
    (slice_index_or (g ∷ gs) t []) (slice_index_or vs t []) (slice_index_or ms t []) (slice_index_or gs t [])
tick-from d s k t before m g [] [] [] [] r h = absurd (omega arith)
tick-from d s k zero before m g (x ∷ xs) (v ∷ vs) (m' ∷ ms) (g' ∷ gs) r h =
    let e : k ≡ zero + k = omega arith in subst (λ n. IsTick d s n x before m g v m' g') e r.0
tick-from d s k (suc t) before m g (x ∷ xs) (v ∷ vs) (m' ∷ ms) (g' ∷ gs) r h =
    let e : t + suc k ≡ suc t + k = omega arith in
    subst (λ n. IsTick d s n (slice_index_or xs t []) (before_tick before (v ∷ vs) (suc t))
    (slice_index_or (m' ∷ ms) t []) (slice_index_or (g' ∷ gs) t []) (slice_index_or vs t [])
    (slice_index_or ms t []) (slice_index_or gs t []))
    e (later t (tick-from d s (suc k) t v m' g' xs vs ms gs r.1 (omega arith)))
  where
    later : (t : ℕ) →
        IsTick d s (t + suc k) (slice_index_or xs t []) (before_tick v vs t) (slice_index_or (m' ∷ ms) t [])
        (slice_index_or (g' ∷ gs) t []) (slice_index_or vs t []) (slice_index_or ms t []) (slice_index_or gs t []) →
        IsTick d s (t + suc k) (slice_index_or xs t []) (slice_index_or (v ∷ vs) t []) (slice_index_or (m' ∷ ms) t [])
        (slice_index_or (g' ∷ gs) t []) (slice_index_or vs t []) (slice_index_or ms t []) (slice_index_or gs t [])
    later zero tick = tick
    later (suc t) tick = tick
tick-from d s k t before m g _ _ _ _ r h = absurd r

-- a run and one more tick is a run
pub run-snoc : (d : Diagram) (s : Option ℕ) (k : ℕ) (before : List ℤ) (m : List (List ℤ)) (g : List TrigMem)
    (xs vs : List (List ℤ)) (ms : List (List (List ℤ))) (gs : List (List TrigMem)) (x v : List ℤ) (m' : List (List ℤ))
    (g' : List TrigMem) →
    RunFrom d s k before m g xs vs ms gs →
    IsTick d s (length xs + k) x (before_tick before vs (length xs)) (slice_index_or (m ∷ ms) (length xs) [])
    (slice_index_or (g ∷ gs) (length xs) []) v m' g' →
    RunFrom d s k before m g (xs ++ x ∷ []) (vs ++ v ∷ []) (ms ++ m' ∷ []) (gs ++ g' ∷ [])
run-snoc d s k before m g [] [] [] [] x v m' g' r tick =
    (let e : zero + k ≡ k = omega arith in subst (λ n. IsTick d s n x before m g v m' g') e tick, tt)
run-snoc d s k before m g (y ∷ xs) (u ∷ vs) (n ∷ ms) (h ∷ gs) x v m' g' r tick =
    (r.0, run-snoc d s (suc k) u n h xs vs ms gs x v m' g' r.1 (earlier (length xs) tick))
  where
    earlier : (t : ℕ) → IsTick d s (suc t + k) x (slice_index_or (u ∷ vs) t []) (slice_index_or (n ∷ ms) t [])
        (slice_index_or (h ∷ gs) t []) v m' g' →
        IsTick d s (t + suc k) x (before_tick u vs t) (slice_index_or (n ∷ ms) t []) (slice_index_or (h ∷ gs) t []) v m' g'
    earlier zero q = let e : suc zero + k ≡ zero + suc k = omega arith in subst (λ z. IsTick d s z x u n h v m' g') e q
    earlier (suc t) q = let e : suc (suc t) + k ≡ suc t + suc k = omega arith in
        subst (λ z. IsTick d s z x (slice_index_or vs t []) (slice_index_or ms t []) (slice_index_or gs t []) v m' g') e
        q
run-snoc d s k before m g _ _ _ _ x v m' g' r tick = absurd r
