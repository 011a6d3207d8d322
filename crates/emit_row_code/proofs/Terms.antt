-- The terms of a sum end with the inputs.
use Rattle.std.proofs.Common.{◌≡◌, refl, sym, ap, ◌∙◌, ℕ, ◌≤◌, List, [], ◌∷◌, ◌++◌, drop, length, append-nil}
use Rattle.std.proofs.lemmas.List.{at_drop_all}
use Rattle.c_syntax.specs.declared.Leaf.{Leaf}
use Rattle.c_syntax.specs.Tree.{ExprTree}
use Rattle.emit_row_code.specs.RowCode.{term_codes}

no_terms : (minus F i : ℕ) (fs : List ℕ) → term_codes minus F i fs [] ≡ []
no_terms minus F i [] = refl
no_terms minus F i (f ∷ fs) = refl

pub terms_end : (done whole : List ExprTree) (minus F i : ℕ) (fs : List ℕ) (leaves : List Leaf) → length leaves ≤ i →
    done ++ term_codes minus F i fs (drop i leaves) ≡ whole → done ≡ whole
terms_end done whole minus F i fs leaves over so_far =
    sym (append-nil done)
    ∙ ap (λ rest. done ++ rest) (sym (at_drop_all (term_codes minus F i fs) leaves i over ∙ no_terms minus F i fs))
    ∙ so_far
