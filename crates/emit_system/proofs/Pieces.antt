-- The pieces of an update's code.
use Rattle.std.proofs.Common.{◌≡◌, refl, sym, ap, ◌∙◌, Bool, true, false, cond, List, [], ◌∷◌, map, filter}
use Rattle.c_syntax.specs.Tree.{StmtTrees, no_stmts, stmts_append}
use Rattle.emit_system_spec.specs.EmittedCode.{joined}
use Rattle.emit_nodes.proofs.lemmas.Joined.{stmts_append-assoc, stmts_append-nothing}

-- six pieces
pub joined_six : (a b c d e f ab abc abcd abcde all : StmtTrees) → ab ≡ stmts_append a b → abc ≡ stmts_append ab c →
    abcd ≡ stmts_append abc d → abcde ≡ stmts_append abcd e →
    all ≡ stmts_append abcde f → all ≡ joined (a ∷ b ∷ c ∷ d ∷ e ∷ f ∷ [])
joined_six a b c d e f ab abc abcd abcde all two three four five six =
    six ∙ ap (λ code. stmts_append code f) (five
    ∙ ap (λ code. stmts_append code e) (four ∙ ap (λ code. stmts_append code d) (three ∙ ap (λ code. stmts_append code c) two)))
    ∙ stmts_append-assoc (stmts_append (stmts_append (stmts_append a b) c) d) e f
    ∙ stmts_append-assoc (stmts_append (stmts_append a b) c) d (stmts_append e f)
    ∙ stmts_append-assoc (stmts_append a b) c (stmts_append d (stmts_append e f))
    ∙ stmts_append-assoc a b (stmts_append c (stmts_append d (stmts_append e f)))
    ∙ ap (λ last. stmts_append a (stmts_append b (stmts_append c (stmts_append d (stmts_append e last))))) (sym (stmts_append-nothing f))

-- what passes no test has no code
pub joined_filter : {A : Type 0} (p : A → Bool) (f : A → StmtTrees) (xs : List A) →
    joined (map (λ x. cond (p x) (f x) no_stmts) xs) ≡ joined (map f (filter p xs))
joined_filter p f [] = refl
joined_filter p f (x ∷ xs) = by (p x) (joined_filter p f xs)
  where
    by : (t : Bool) → joined (map (λ y. cond (p y) (f y) no_stmts) xs) ≡ joined (map f (filter p xs)) →
        stmts_append (cond t (f x) no_stmts) (joined (map (λ y. cond (p y) (f y) no_stmts) xs))
        ≡ joined (map f (cond t (x ∷ filter p xs) (filter p xs)))
    by true rest = ap (stmts_append (f x)) rest
    by false rest = rest
