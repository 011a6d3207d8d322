-- A walk through the instances of a file.
use Rattle.std.proofs.Common.{◌≡◌, refl, sym, ◌∙◌, ap, ap₂, subst, ℕ, zero, suc, ◌+◌, ◌<◌, ◌≤◌, List, [], ◌∷◌, ◌++◌, length, take, drop, map, reverse, arith, slice_index, slice_index_or, get_or, get_or-take, length-take, length-append, append_assoc}
use Rattle.std.specs.Prelude.{⊤}
use Rattle.std.specs.List.{AllByRecursion, flat_map}
use Rattle.std.proofs.lemmas.Grind.{flat_map-append}
use Rattle.std.proofs.lemmas.List.{reverse-append, reverse-reverse, drop_more, drop-map}
use Rattle.lustre_syntax.specs.declared.code.LusEq.{LusEq}
use Rattle.lustre_syntax.specs.Plain.{equation_tree}
use Rattle.lustre_syntax.specs.Lawful.{IsLawful, AreNodes}
use Rattle.lustre_syntax.specs.Tree.{ExprTree, EquationTree, set, call, NodeTree, node_at, FileTree}
use Rattle.lustre_flows.specs.Instances.{by_node}
use Rattle.lustre_flows.specs.Ticks.{last_place}
use Rattle.lustre_settling.proofs.lemmas.Unfolded.{by-node-at, AreCallsFrom, calls-from, last-below}
use Rattle.lustre_slots.specs.declared.placed.Placed.{Placed}
use Rattle.lustre_slots.specs.Layout.{calls_size, node_size, sizes_of, calls_from, calls_in, IsThere, Inside, inside_at, inside_node, insides_of, with_inside, root_of, instances_of}
use Rattle.lustre_slots.proofs.lemmas.Layouts.{size-is, calls_size-less, inside-is, in-there, all-append, all-front, all-back}

all-reverse : {A : Type 0} (P : A → Type 0) (xs : List A) → AllByRecursion P xs → AllByRecursion P (reverse xs)
all-reverse P [] a = tt
all-reverse P (x ∷ xs) a = subst (AllByRecursion P) (sym (reverse-append (x ∷ []) xs)) (all-append P (reverse xs) (x ∷ []) (all-reverse P xs a.1) (a.0, tt))

-- the instance that is taken is there, and so are those that are left with its calls
pub taken-there : (f : FileTree) (before after : List Placed) (p : Placed) → before ≡ after ++ p ∷ [] →
    AllByRecursion (IsThere f) before → IsThere f p
taken-there f before after p is all = (all-back (IsThere f) after (p ∷ []) (subst (AllByRecursion (IsThere f)) is all)).0

pub left-there : (f : FileTree) (before after later : List Placed) (p : Placed) → IsLawful f → before ≡ after ++ p ∷ [] →
    later ≡ after ++ reverse (calls_in f p) → AllByRecursion (IsThere f) before → AllByRecursion (IsThere f) later
left-there f before after later p lawful is next all =
    subst (AllByRecursion (IsThere f)) (sym next)
    (all-append (IsThere f) after (reverse (calls_in f p)) (all-front (IsThere f) after (p ∷ []) (subst (AllByRecursion (IsThere f)) is all))
    (all-reverse (IsThere f) (calls_in f p) (in-there f p lawful (taken-there f before after p is all))))

-- what is left to walk
pub walked : (f : FileTree) (before after later : List Placed) (p : Placed) → IsLawful f → before ≡ after ++ p ∷ [] →
    later ≡ after ++ reverse (calls_in f p) → IsThere f p →
    flat_map (with_inside f) (reverse before) ≡ p ∷ flat_map (with_inside f) (reverse later)
walked f before after later p lawful is next there =
    let w : List Placed → List Placed = flat_map (with_inside f) in
    ap (λ xs. w (reverse xs)) is
    ∙ ap w (reverse-append after (p ∷ []))
    ∙ ap (λ xs. xs ++ w (reverse after)) (inside-is f p lawful there)
    ∙ ap (λ xs. p ∷ xs)
    (sym (flat_map-append (with_inside f) (calls_in f p) (reverse after))
    ∙ ap (λ xs. w (xs ++ reverse after)) (sym (reverse-reverse (calls_in f p)))
    ∙ ap w (sym (reverse-append after (reverse (calls_in f p)))) ∙ ap (λ xs. w (reverse xs)) (sym next))

-- ---- The calls of an instance, from the last one on

here-is : (es : List LusEq) (low left : ℕ) (e : LusEq) (x : EquationTree) → low + 1 ≡ left → low < length es → e ≡ get_or es low e →
    equation_tree e ≡ x → map equation_tree (drop low es) ≡ x ∷ map equation_tree (drop left es)
here-is es low left e x more h is what =
    ap (map equation_tree) (drop_more es low e h) ∙ ap₂ {C = List EquationTree} (λ y ys. equation_tree y ∷ map equation_tree ys) (sym is)
    (ap (λ n. drop n es) more)
    ∙ ap (λ y. y ∷ map equation_tree (drop left es)) what

-- there is room before what was read
pub room-before : (f : FileTree) (p : Placed) (at low left : ℕ) (es : List LusEq) (e : LusEq) (line : ℕ) (given : List ℕ) (callee : ℕ)
    (values : List ExprTree) → IsLawful f → IsThere f p → map equation_tree es ≡ (node_at f.nodes p.node).equations →
    low + 1 ≡ left → low < length es → e ≡ get_or es low e → equation_tree e ≡ call line given callee values →
    at + calls_size (sizes_of f) (map equation_tree (drop left es)) ≡ p.base + slice_index (sizes_of f) p.node →
    slice_index (sizes_of f) callee ≤ at
room-before f p at low left es e line given callee values lawful there all more h is what room =
    let sizes = sizes_of f in
    let size = size-is f p.node lawful there in
    let less = calls_size-less sizes low (map equation_tree es) in
    let some = ap (calls_size sizes) (drop-map equation_tree low es ∙ here-is es low left e _ more h is what) in
    let whole = ap (calls_size sizes) all in
    omega arith

pub room-after : (sizes : List ℕ) (at before low left end : ℕ) (es : List LusEq) (e : LusEq) (line : ℕ) (given : List ℕ) (callee : ℕ)
    (values : List ExprTree) → low + 1 ≡ left → low < length es → e ≡ get_or es low e → equation_tree e ≡ call line given callee values →
    at ≡ before + slice_index sizes callee → at + calls_size sizes (map equation_tree (drop left es)) ≡ end →
    before + calls_size sizes (map equation_tree (drop low es)) ≡ end
room-after sizes at before low left end es e line given callee values more h is what from room =
    let some = ap (calls_size sizes) (here-is es low left e _ more h is what) in
    omega arith

pub pushed : (sizes : List ℕ) (at before low left : ℕ) (es : List LusEq) (e : LusEq) (line : ℕ) (given : List ℕ) (callee : ℕ)
    (values : List ExprTree) (first now later : List Placed) → low + 1 ≡ left → low < length es → e ≡ get_or es low e →
    equation_tree e ≡ call line given callee values → at ≡ before + slice_index sizes callee →
    now ≡ first ++ reverse (calls_from sizes at (map equation_tree (drop left es))) →
    later ≡ now ++ record { node = callee; base = before } ∷ [] →
    later ≡ first ++ reverse (calls_from sizes before (map equation_tree (drop low es)))
pushed sizes at before low left es e line given callee values first now later more h is what from so next =
    let rest = map equation_tree (drop left es) in
    let p : Placed = record { node = callee; base = before } in
    next ∙ ap (λ ps. ps ++ p ∷ []) so ∙ append_assoc first (reverse (calls_from sizes at rest)) (p ∷ [])
    ∙ ap (λ ps. first ++ ps)
    (sym (reverse-append (p ∷ []) (calls_from sizes at rest))
    ∙ ap (λ n. reverse (p ∷ calls_from sizes n rest)) from
    ∙ ap (λ es. reverse (calls_from sizes before es)) (sym (here-is es low left e _ more h is what)))

pub all-pushed : (f : FileTree) (p : Placed) (at left : ℕ) (es : List LusEq) (first now : List Placed) → IsLawful f → IsThere f p →
    map equation_tree es ≡ (node_at f.nodes p.node).equations → left ≤ 0 →
    at + calls_size (sizes_of f) (map equation_tree (drop left es)) ≡ p.base + slice_index (sizes_of f) p.node →
    now ≡ first ++ reverse (calls_from (sizes_of f) at (map equation_tree (drop left es))) → now ≡ first ++ reverse (calls_in f p)
all-pushed f p at left es first now lawful there all none room so =
    let n = node_at f.nodes p.node in
    let zero-left : left ≡ 0 = omega arith in
    let whole : map equation_tree (drop left es) ≡ n.equations = ap (λ k. map equation_tree (drop k es)) zero-left ∙ all in
    let sizes = ap (calls_size (sizes_of f)) whole in
    let start : at ≡ p.base + length n.names = omega (arith, size-is f p.node lawful there) in
    so ∙ ap₂ {C = List Placed} (λ k es. first ++ reverse (calls_from (sizes_of f) k es)) start whole
