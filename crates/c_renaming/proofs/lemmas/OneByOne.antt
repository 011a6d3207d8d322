-- What is done for one item of a list after another.
use Rattle.std.specs.Prelude.{◌≡◌, ℕ, ◌+◌, ◌<◌, ◌≤◌, List, [], ◌∷◌, ◌++◌, map, length, flat_map}
use Rattle.std.proofs.Common.{refl, sym, ap, ◌∙◌, take, get_or}
use Rattle.std.proofs.lemmas.List.{append-nil, take_all, take_more}
use Rattle.std.proofs.lemmas.Grind.{flat_map-append}
use Rattle.c_syntax.specs.declared.program.Procedure.{Procedure}
use Rattle.c_syntax.specs.Tree.{ProcedureTree}
use Rattle.c_syntax.specs.Plain.{procedure_tree}

-- something is done for each of some positions; what is done for two lists of them is done for one and then for the other
module _ {S : Type 0} (act : S → List ℕ → S)
    (act-append : (s : S) (ks js : List ℕ) → act s (ks ++ js) ≡ act (act s ks) js) where
  -- one member more
  pub done-more : {X : Type 0} (f : X → List ℕ) (xs : List X) (i : ℕ) (x : X) (first middle last : S) → i < length xs →
      x ≡ get_or xs i x → middle ≡ act first (flat_map f (take i xs)) → last ≡ act middle (f x) →
      last ≡ act first (flat_map f (take (i + 1) xs))
  done-more f xs i x first middle last inside read one other =
      other ∙ ap (λ s. act s (f x)) one ∙ sym (act-append first (flat_map f (take i xs)) (f x))
      ∙ ap (act first)
      (sym (ap (flat_map f) (take_more xs i x inside) ∙ flat_map-append f (take i xs) (get_or xs i x ∷ [])
      ∙ ap (λ ks. flat_map f (take i xs) ++ ks) (append-nil (f (get_or xs i x)) ∙ ap f (sym read))))

  -- all members
  pub done-all : {X : Type 0} (f : X → List ℕ) (xs : List X) (i : ℕ) (first last : S) (ks : List ℕ) → length xs ≤ i →
      flat_map f xs ≡ ks → last ≡ act first (flat_map f (take i xs)) → last ≡ act first ks
  done-all f xs i first last ks all same is =
      is ∙ ap (λ ys. act first (flat_map f ys)) (take_all i xs all) ∙ ap (act first) same

-- members of procedures
pub procedures-flat : (f : ProcedureTree → List ℕ) (qs : List Procedure) →
    flat_map (λ q. f (procedure_tree q)) qs ≡ flat_map f (map procedure_tree qs)
procedures-flat f [] = refl
procedures-flat f (q ∷ qs) = ap (λ ks. f (procedure_tree q) ++ ks) (procedures-flat f qs)
