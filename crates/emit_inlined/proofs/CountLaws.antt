-- Counts of calls, made one after another.
use Rattle.std.specs.Prelude.{◌≡◌, ℕ, zero, suc, ◌+◌, ◌-◌, ◌^◌, ◌<◌, ◌≤◌, ◌==◌, min, Bool, true, false, List, [], ◌∷◌, ◌++◌, map, flat_map, length, replicate, slice_index}
use Rattle.std.specs.List.{slice_set}
use Rattle.std.proofs.Common.{cond, refl, sym, ap, ◌∙◌, arith}
use Rattle.std.proofs.Math.ListN.{length-set}
use Rattle.std.proofs.lemmas.Bool.Decides.{nat_tests}
use Rattle.std.proofs.lemmas.List.{length-replicate}
use Rattle.c_syntax.specs.declared.code.Stmt.{Stmt}
use Rattle.c_syntax.specs.Tree.{ProcedureTree, stmts_of_list}
use Rattle.c_syntax.specs.Plain.{stmt_tree}
use Rattle.emit_pruned.proofs.lemmas.Flags.{set-at}
use Rattle.emit_inlined.specs.Inlined.{stmt_calls, stmts_calls}
use Rattle.emit_inlined.specs.Steps.{one_more, counted, counts_of}
use Rattle.emit_inlined.proofs.lemmas.CallCounts.{count_of, count-more}

pub counted-append : (counts ks js : List ℕ) → counted counts (ks ++ js) ≡ counted (counted counts ks) js
counted-append counts [] js = refl
counted-append counts (k ∷ ks) js = counted-append (slice_set counts k (one_more (slice_index counts k))) ks js

pub counted-length : (ks counts : List ℕ) → length (counted counts ks) ≡ length counts
counted-length [] counts = refl
counted-length (k ∷ ks) counts =
    counted-length ks (slice_set counts k (one_more (slice_index counts k))) ∙ length-set counts k (one_more (slice_index counts k))

-- ---- Each count

-- the most that is counted
abbrev most : ℕ
most = 2 ^ 32 - 1

same-number : (j k : ℕ) → (j == k) ≡ true → j ≡ k
same-number j k e = grind (arith, nat_tests)

counted-index : (ks counts : List ℕ) (k : ℕ) → k < length counts → slice_index counts k ≤ most →
    slice_index (counted counts ks) k ≡ min (slice_index counts k + count_of k ks) most
counted-index [] counts k inside within = omega (arith, within)
counted-index (j ∷ ks) counts k inside within =
    by (j == k) refl
    (counted-index ks (slice_set counts j more) k (let same = length-set counts j more in omega (arith, same, inside)))
    (set-at counts j k more 0 inside) (count-more k j ks)
  where
    more : ℕ
    more = one_more (slice_index counts j)

    by : (b : Bool) → (j == k) ≡ b →
        (slice_index (slice_set counts j more) k ≤ most →
        slice_index (counted (slice_set counts j more) ks) k ≡ min (slice_index (slice_set counts j more) k + count_of k ks) most) →
        slice_index (slice_set counts j more) k ≡ cond (j == k) more (slice_index counts k) →
        count_of k (j ∷ ks) ≡ cond (j == k) 1 0 + count_of k ks →
        slice_index (counted (slice_set counts j more) ks) k ≡ min (slice_index counts k + count_of k (j ∷ ks)) most
    by true is next set many =
        let at : slice_index counts j ≡ slice_index counts k = ap (slice_index counts) (same-number j k is) in
        let here : slice_index (slice_set counts j more) k ≡ more = set ∙ ap (λ b. cond b more (slice_index counts k)) is in
        let count : count_of k (j ∷ ks) ≡ 1 + count_of k ks = many ∙ ap (λ b. cond b 1 0 + count_of k ks) is in
        let value : more ≡ min (slice_index counts j + 1) most = refl in
        let rest = next (omega (arith, here, value)) in
        omega (arith, rest, here, value, at, count)
    by false is next set many =
        let here : slice_index (slice_set counts j more) k ≡ slice_index counts k =
        set ∙ ap (λ b. cond b more (slice_index counts k)) is in
        let count : count_of k (j ∷ ks) ≡ 0 + count_of k ks = many ∙ ap (λ b. cond b 1 0 + count_of k ks) is in
        let rest = next (omega (arith, here, within)) in
        omega (arith, rest, here, count)

none-counted : (n k : ℕ) → slice_index (replicate n 0) k ≡ 0
none-counted zero k = refl
none-counted (suc n) zero = refl
none-counted (suc n) (suc k) = none-counted n k

-- a procedure is counted once where it is called once
pub counted-once : (n : ℕ) (ks : List ℕ) (k : ℕ) → k < n → (slice_index (counted (replicate n 0) ks) k == 1) ≡ (count_of k ks == 1)
counted-once n ks k inside =
    by (slice_index (counted (replicate n 0) ks) k) (count_of k ks)
    (let none = none-counted n k in
    let long = length-replicate {A = ℕ} n 0 in
    let index = counted-index ks (replicate n 0) k (omega (arith, long, inside)) (omega (arith, none)) in
    omega (arith, index, none))
  where
    by : (a b : ℕ) → a ≡ min b most → (a == 1) ≡ (b == 1)
    by a b e = test (b == 1) refl
      where
        test : (c : Bool) → (b == 1) ≡ c → (a == 1) ≡ c
        test true is = let one = same-number b 1 is in let same : a ≡ 1 = omega (arith, e, one) in ap (λ n. n == 1) same
        test false is = other (a == 1) refl
          where
            other : (c : Bool) → (a == 1) ≡ c → c ≡ false
            other false at = refl
            other true at =
                let one = same-number a 1 at in
                let same : b ≡ 1 = omega (arith, e, one) in
                absurd (let wrong : ⊥ = cc (sym (ap (λ n. n == 1) same) ∙ is) in wrong)

pub counts-length : (ps : List ProcedureTree) → length (counts_of ps) ≡ length ps
counts-length ps =
    counted-length (flat_map (λ (q : ProcedureTree). stmts_calls q.body) ps) (replicate (length ps) 0)
    ∙ length-replicate {A = ℕ} (length ps) 0

-- the calls of statements, one after another
pub stmts-flat : (ss : List Stmt) →
    flat_map (λ s. stmt_calls (stmt_tree s)) ss ≡ stmts_calls (stmts_of_list (map stmt_tree ss))
stmts-flat [] = refl
stmts-flat (s ∷ ss) = ap (λ ks. stmt_calls (stmt_tree s) ++ ks) (stmts-flat ss)
