-- Steps of loops over lists with their places.
use Rattle.std.specs.List.{enumerate_from}
use Rattle.std.proofs.Common.{◌≡◌, sym, ap, ap₂, ◌∙◌, ℕ, ◌+◌, ◌<◌, List, [], ◌∷◌, ◌++◌, map, take, length, get_or, arith}
use Rattle.std.proofs.lemmas.List.{map-append, take_more, length-take-le}
use Rattle.c_syntax.specs.Tree.{StmtTrees, stmts_append}
use Rattle.emit_system_spec.specs.EmittedCode.{joined}
use Rattle.emit_nodes.proofs.lemmas.Joined.{joined-more}
use Rattle.emit_nodes.proofs.lemmas.Loops.{pushed}

enumerate-push : {A : Type 0} (n m : ℕ) (xs : List A) (x : A) → n + length xs ≡ m →
    enumerate_from n (xs ++ x ∷ []) ≡ enumerate_from n xs ++ (m, x) ∷ []
enumerate-push n m [] x e = let same : n ≡ m = omega (arith, e) in ap (λ k. (k, x) ∷ []) same
enumerate-push n m (y ∷ xs) x e = ap (λ es. (n, y) ∷ es) (enumerate-push (n + 1) m xs x (omega (arith, e)))

enumerate_more : {A : Type 0} (n m : ℕ) (xs : List A) (k : ℕ) (d : A) → n + k ≡ m → k < length xs →
    enumerate_from n (take (k + 1) xs) ≡ enumerate_from n (take k xs) ++ (m, get_or xs k d) ∷ []
enumerate_more n m xs k d e inside =
    ap (enumerate_from n) (take_more xs k d inside)
    ∙ enumerate-push n m (take k xs) (get_or xs k d) (let l = length-take-le k xs (omega (arith, inside)) in omega (arith, l, e))

map_enumerate_more : {A B : Type 0} (f : ℕ × A → B) (n m : ℕ) (xs : List A) (k : ℕ) (d : A) → n + k ≡ m → k < length xs →
    map f (enumerate_from n (take (k + 1) xs)) ≡ map f (enumerate_from n (take k xs)) ++ f (m, get_or xs k d) ∷ []
map_enumerate_more f n m xs k d e inside = ap (map f) (enumerate_more n m xs k d e inside)
    ∙ map-append f (enumerate_from n (take k xs)) ((m, get_or xs k d) ∷ [])

-- of one that pushes what it makes of each element
pub enumerated_more : {A S T : Type 0} (g : S → T) (f : ℕ × A → T) (n m : ℕ) (old so_far : List S) (s : S) (xs : List A) (i : ℕ) (x : A) →
    n + i ≡ m → i < length xs → x ≡ get_or xs i x → g s ≡ f (m, x) →
    map g so_far ≡ map g old ++ map f (enumerate_from n (take i xs)) →
    map g (so_far ++ s ∷ []) ≡ map g old ++ map f (enumerate_from n (take (i + 1) xs))
enumerated_more g f n m old so_far s xs i x at inside read told before =
    pushed g old so_far s (map f (enumerate_from n (take i xs))) (f (m, get_or xs i x)) (told ∙ ap (λ y. f (m, y)) read) before
    ∙ ap (λ ys. map g old ++ ys) (sym (map_enumerate_more f n m xs i x at inside))

-- of one that joins code for each element
pub joined_placed : {A : Type 0} (f : ℕ × A → StmtTrees) (xs : List A) (k : ℕ) (x : A) (so_far code now : StmtTrees) → k < length xs →
    x ≡ get_or xs k x → code ≡ f (k, x) →
    so_far ≡ joined (map f (enumerate_from 0 (take k xs))) → now ≡ stmts_append so_far code →
    now ≡ joined (map f (enumerate_from 0 (take (k + 1) xs)))
joined_placed f xs k x so_far code now inside read told before is =
    is ∙ ap₂ stmts_append before (told ∙ ap (λ y. f (k, y)) read)
    ∙ sym (ap joined (map_enumerate_more f 0 k xs k x (omega arith) inside)
    ∙ joined-more (map f (enumerate_from 0 (take k xs))) (f (k, get_or xs k x)))
