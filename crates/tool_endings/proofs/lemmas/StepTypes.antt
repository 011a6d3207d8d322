-- A program has one procedure of a name.
use Rattle.std.proofs.Common.{◌≡◌, ℕ, zero, suc, List, [], ◌∷◌, sym, ap, ◌∙◌}
use Rattle.std.specs.Prelude.{Option, Some, true, unwrap_or, slice_get}
use Rattle.c_syntax.specs.Tree.{ProcedureTree}
use Rattle.c_syntax.specs.Outputs.{has_name}
use Rattle.c_syntax.specs.Lawful.{AreDistinct, procedure_names}
use Rattle.c_syntax.proofs.lemmas.NameFacts.{has_name-there}

some-same : (x y : ProcedureTree) → Some x ≡ Some y → x ≡ y
some-same x y e = ap (λ (o : Option ProcedureTree). unwrap_or o x) e

-- procedures with distinct names are one where their names are
pub one_place : (qs : List ProcedureTree) (i j : ℕ) (a b : ProcedureTree) → AreDistinct (procedure_names qs) →
    slice_get qs i ≡ Some a → slice_get qs j ≡ Some b → a.name ≡ b.name → a ≡ b
one_place [] i j a b distinct at_i at_j named = cc
one_place (q ∷ qs) zero zero a b distinct at_i at_j named = cc
one_place (q ∷ qs) zero (suc j) a b distinct at_i at_j named =
    let first : q ≡ a = some-same q a at_i in
    let later : has_name (procedure_names qs) q.name ≡ true =
    has_name-there (λ (x : ProcedureTree). x.name) qs j b q.name at_j (sym named
    ∙ ap (λ (x : ProcedureTree). x.name) (sym first)) in
    absurd (cc (sym distinct.1 ∙ later))
one_place (q ∷ qs) (suc i) zero a b distinct at_i at_j named =
    let first : q ≡ b = some-same q b at_j in
    let later : has_name (procedure_names qs) q.name ≡ true =
    has_name-there (λ (x : ProcedureTree). x.name) qs i a q.name at_i (named
    ∙ ap (λ (x : ProcedureTree). x.name) (sym first)) in
    absurd (cc (sym distinct.1 ∙ later))
one_place (q ∷ qs) (suc i) (suc j) a b distinct at_i at_j named = one_place qs i j a b distinct.2 at_i at_j named
