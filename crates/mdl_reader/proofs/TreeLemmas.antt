-- What sections in the making come to is the tree of the text, or its first error.
use Rattle.std.proofs.Common.{◌≡◌, refl, sym, ◌∙◌, ap, subst, ℕ, Bool, true, false, cond, List, [], ◌∷◌, length, Option, None, Some, Result, Ok, Err, ◌==◌}
use Rattle.base_refusals.specs.declared.refusal.SyntaxKind.{SyntaxKind}
use Rattle.base_refusals.specs.declared.refusal.SyntaxKind.TheVariants.{DeepSections}
use Rattle.base_core.specs.Numbers.{reported_number}
use Rattle.mdl_tree.specs.Text.{Statement, Opens, Closes, Sets, Adds, Faulty, statements_of}
use Rattle.mdl_tree.specs.Spelling.{Items, End, Param, Section, append_items, LinesSpell, fault_from, lines_fault}
use Rattle.mdl_tree.specs.Walks.{SectionTree}
use Rattle.mdl_tree.proofs.lemmas.OneTree.{append_items-End, with_parameter, with_section, parts, onto, onto-End, one_part, one_tree}
use Rattle.mdl_reader.specs.Building.{tree_from, with_items, section_item, file_of}

-- ---- The first error

-- the error of a result, if it is one
abbrev fault_of : Result Items (ℕ × SyntaxKind) → Option (ℕ × SyntaxKind)
fault_of (Ok items) = None
fault_of (Err fault) = Some fault

deeper : (t : Bool) (fault : ℕ × SyntaxKind) (o : Option (ℕ × SyntaxKind)) (r : Result Items (ℕ × SyntaxKind)) → o ≡ fault_of r →
    cond t (Some fault) o ≡ fault_of (cond t (Err fault) r)
deeper true fault o r same = refl
deeper false fault o r same = same

tree_from-fault : (last : ℕ) (current : SectionTree) (around : List SectionTree) (ss : List Statement) →
    fault_from last (length around) ss ≡ fault_of (tree_from last current around ss)
tree_from-fault last current [] [] = refl
tree_from-fault last current (outer ∷ around) [] = refl
tree_from-fault last current around (Opens line name ∷ ss) =
    deeper (length around == 128) (line, DeepSections) _ _ (tree_from-fault last _ (current ∷ around) ss)
tree_from-fault last current [] (Closes line ∷ ss) = refl
tree_from-fault last current (outer ∷ around) (Closes line ∷ ss) = tree_from-fault last _ around ss
tree_from-fault last current around (Sets line name value quoted ∷ ss) = tree_from-fault last _ around ss
tree_from-fault last current around (Adds line value ∷ ss) = refl
tree_from-fault last current around (Faulty line kind ∷ ss) = refl

-- ---- The items

append_items_assoc : (x y z : Items) → append_items (append_items x y) z ≡ append_items x (append_items y z)
append_items_assoc End y z = refl
append_items_assoc (Param name value line x) y z = ap (Param name value line) (append_items_assoc x y z)
append_items_assoc (Section name line items x) y z = ap (Section name line items) (append_items_assoc x y z)

-- the parts of what follows, with all open sections before them
abbrev closed : SectionTree → List SectionTree → List Items → List Items
closed current [] ys = onto current.items ys
closed current (outer ∷ around) ys = closed outer around (with_section current.name current.line (onto current.items ys))

-- items that come to the section are no more among what follows
closed-more : (current : SectionTree) (around : List SectionTree) (more : Items) (zs ys : List Items) →
    ((x : Items) → onto x zs ≡ onto (append_items x more) ys) → closed current around zs ≡ closed (with_items current more) around ys
closed-more current [] more zs ys moved = moved current.items
closed-more current (outer ∷ around) more zs ys moved =
    ap (λ t. closed outer around (with_section current.name current.line t)) (moved current.items)

onto-parameter : (name value : List ℕ) (line : ℕ) (ys : List Items) (x : Items) →
    onto x (with_parameter name value line ys) ≡ onto (append_items x (Param name value line End)) ys
onto-parameter name value line [] x = refl
onto-parameter name value line (y ∷ ys) x = ap (λ z. z ∷ ys) (sym (append_items_assoc x (Param name value line End) y))

onto-section : (name : List ℕ) (line : ℕ) (items : Items) (ys : List Items) (x : Items) →
    onto x (with_section name line (append_items items End ∷ ys)) ≡ onto (append_items x (Section name line items End)) ys
onto-section name line items [] x = refl
onto-section name line items (y ∷ ys) x =
    ap (λ i. append_items x (Section name line i y) ∷ ys) (append_items-End items)
    ∙ ap (λ z. z ∷ ys) (sym (append_items_assoc x (Section name line items End) y))

tree_from-parts : (last : ℕ) (current : SectionTree) (around : List SectionTree) (ss : List Statement) (x : Items) →
    tree_from last current around ss ≡ Ok x → closed current around (parts ss) ≡ x ∷ []
tree_from-parts last current [] [] x e = ap (λ i. i ∷ []) (append_items-End current.items ∙ cc)
tree_from-parts last current (outer ∷ around) [] x e = cc
tree_from-parts last current around (Opens line name ∷ ss) x e =
    by_test (length around == 128) (line, DeepSections) _ (tree_from-parts last _ (current ∷ around) ss x) e
  where
    by_test : (t : Bool) (fault : ℕ × SyntaxKind) (r : Result Items (ℕ × SyntaxKind)) →
        (r ≡ Ok x → closed current around (with_section name line (onto End (parts ss))) ≡ x ∷ []) → cond t (Err fault) r ≡ Ok x →
        closed current around (with_section name line (parts ss)) ≡ x ∷ []
    by_test true fault r inner e = cc
    by_test false fault r inner e = ap (λ ys. closed current around (with_section name line ys)) (sym (onto-End (parts ss))) ∙ inner e
tree_from-parts last current [] (Closes line ∷ ss) x e = cc
tree_from-parts last current (outer ∷ around) (Closes line ∷ ss) x e =
    closed-more outer around (section_item current) _ (parts ss) (onto-section current.name current.line current.items (parts ss))
    ∙ tree_from-parts last _ around ss x e
tree_from-parts last current around (Sets line name value quoted ∷ ss) x e =
    closed-more current around (Param name value line End) _ (parts ss) (onto-parameter name value line (parts ss))
    ∙ tree_from-parts last _ around ss x e
tree_from-parts last current around (Adds line value ∷ ss) x e = cc
tree_from-parts last current around (Faulty line kind ∷ ss) x e = cc

-- ---- A whole text

-- what the statements of all lines come to, from nothing
abbrev pub text_outcome : List (List ℕ) → Result Items (ℕ × SyntaxKind)
text_outcome texts = tree_from (reported_number (length texts)) (file_of End) [] (statements_of texts)

pub text_fault : (texts : List (List ℕ)) (fault : ℕ × SyntaxKind) → text_outcome texts ≡ Err fault → lines_fault texts ≡ Some fault
text_fault texts fault e =
    tree_from-fault (reported_number (length texts)) (file_of End) [] (statements_of texts) ∙ ap fault_of e

pub text_tree : (texts : List (List ℕ)) (x : Items) → text_outcome texts ≡ Ok x → LinesSpell texts x
text_tree texts x e =
    let last = reported_number (length texts) in
    let ss = statements_of texts in
    let none : lines_fault texts ≡ None = tree_from-fault last (file_of End) [] ss ∙ ap fault_of e in
    let found = one_tree texts none in
    let made : parts ss ≡ x ∷ [] = sym (onto-End (parts ss)) ∙ tree_from-parts last (file_of End) [] ss x e in
    let only : parts ss ≡ found.0 ∷ [] = one_part found.0 ss found.1.0 in
    let same : found.0 ≡ x = cc in
    subst (LinesSpell texts) same found.1
