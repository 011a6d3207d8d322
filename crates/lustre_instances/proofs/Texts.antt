-- The names of the nodes of a lawful file are different.
use Rattle.std.specs.Prelude.{◌≡◌, ℕ, zero, suc, ◌<◌, false, List, [], ◌∷◌, take, slice_get, Some}
use Rattle.std.proofs.Common.{ap, subst, ◌∙◌, arith, inl, inr}
use Rattle.std.proofs.lemmas.Bool.{cases_lt}
use Rattle.std.proofs.lemmas.Option.{get_or_from_slice_get}
use Rattle.c_syntax.specs.Outputs.{has_name}
use Rattle.modules_profile.proofs.lemmas.Members.{at-below, at-map, map-at}
use Rattle.lustre_syntax.specs.Tree.{NodeTree, no_node, node_at, node_texts}
use Rattle.lustre_syntax.specs.Lawful.{AreNodes}
use Rattle.lustre_settling.proofs.lemmas.Unfolded.{lawful-at}
use Rattle.lustre_rows.proofs.lemmas.NamePlaces.{AreApart, not-there}

taken-at : {A : Type 0} (n : ℕ) (xs : List A) (i : ℕ) (x : A) → i < n → slice_get xs i ≡ Some x → slice_get (take n xs) i ≡ Some x
taken-at zero xs i x low at = absurd (omega arith)
taken-at (suc n) [] i x low at = absurd (let wrong : ⊥ = cc at in wrong)
taken-at (suc n) (y ∷ ys) zero x low at = at
taken-at (suc n) (y ∷ ys) (suc i) x low at = taken-at n ys i x (omega arith) at

before-apart : (nodes : List NodeTree) → AreNodes [] nodes → (i j : ℕ) (text : List ℕ) → i < j →
    slice_get (node_texts nodes) i ≡ Some text → slice_get (node_texts nodes) j ≡ Some text → ⊥
before-apart nodes lawful i j text low first second =
    let text_of : NodeTree → List ℕ = λ (n : NodeTree). n.text in
    let one = map-at text_of nodes i text first in
    let other = map-at text_of nodes j text second in
    let mine = lawful-at nodes j lawful (at-below nodes j other.0 other.1) in
    let node : node_at nodes j ≡ other.0 = get_or_from_slice_get nodes j other.0 no_node other.1 in
    not-there (node_texts (take j nodes)) text i
    (subst (λ (t : List ℕ). has_name (node_texts (take j nodes)) t ≡ false) (ap text_of node ∙ other.2) mine.new)
    (at-map text_of (take j nodes) i one.0 (taken-at j nodes i one.0 low one.1) ∙ ap Some one.2)

pub nodes-apart : (nodes : List NodeTree) → AreNodes [] nodes → AreApart (node_texts nodes)
nodes-apart nodes lawful i j text first second = elim (cases_lt i j) [
  | inl low ↦ absurd (before-apart nodes lawful i j text low first second)
  | inr past ↦ elim (cases_lt j i) [
    | inl low ↦ absurd (before-apart nodes lawful j i text low second first)
    | inr even ↦ omega arith
  ]
]
