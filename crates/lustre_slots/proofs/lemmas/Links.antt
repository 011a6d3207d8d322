-- Tables of sources, one link after another.
use Rattle.std.proofs.Common.{◌≡◌, refl, sym, ◌∙◌, ap, ℕ, zero, suc, ◌+◌, ◌<◌, List, [], ◌∷◌, ◌++◌, length, drop, map, arith, slice_index, get_or, take}
use Rattle.std.specs.List.{slice_set}
use Rattle.std.specs.List.{flat_map}
use Rattle.std.proofs.lemmas.List.{drop_more}
use Rattle.lustre_syntax.specs.declared.code.LusExpr.{LusExpr}
use Rattle.lustre_syntax.specs.declared.code.LusEq.{LusEq}
use Rattle.lustre_syntax.specs.Plain.{expr_tree, equation_tree}
use Rattle.lustre_syntax.specs.Tree.{ExprTree, EquationTree, set, call, node_at, FileTree}
use Rattle.lustre_slots.specs.declared.placed.Placed.{Placed}
use Rattle.lustre_slots.specs.declared.placed.Source.{Source}
use Rattle.lustre_slots.specs.declared.placed.Source.TheVariants.{Expression, Slot}
use Rattle.lustre_slots.specs.Layout.{sizes_of}
use Rattle.lustre_slots.specs.Sources.{Link, argument_links, output_links, equation_links, links_of, linked}
use Rattle.lustre_slots.proofs.Lists.{dropped}

pub linked-append : (sources : List Source) (first later : List Link) →
    linked sources (first ++ later) ≡ linked (linked sources first) later
linked-append sources [] later = refl
linked-append sources (l ∷ ls) later = linked-append (slice_set sources l.slot l.source) ls later

pub argument-more : (sources : List Source) (p : Placed) (i at k : ℕ) (values : List LusExpr) → k < length values →
    linked sources (argument_links p i (at + k) k (map expr_tree (drop k values)))
    ≡ linked (slice_set sources (at + k) (Expression p i k))
    (argument_links p i (at + (k + 1)) (k + 1) (map expr_tree (drop (k + 1) values)))
argument-more sources p i at k values h =
    let here = dropped values k h in
    let same : (at + k) + 1 ≡ at + (k + 1) = omega arith in
    ap (λ vs. linked sources (argument_links p i (at + k) k (map expr_tree vs))) here.1
    ∙ ap (λ a. linked (slice_set sources (at + k) (Expression p i k)) (argument_links p i a (k + 1) (map expr_tree (drop (k + 1) values)))) same

pub argument-step : (sources later : List Source) (p : Placed) (i at k slot : ℕ) (values : List LusExpr) → k < length values →
    slot ≡ at + k → later ≡ slice_set sources slot (Expression p i k) →
    linked later (argument_links p i (at + (k + 1)) (k + 1) (map expr_tree (drop (k + 1) values)))
    ≡ linked sources (argument_links p i (at + k) k (map expr_tree (drop k values)))
argument-step sources later p i at k slot values h here next =
    ap (λ s. linked s (argument_links p i (at + (k + 1)) (k + 1) (map expr_tree (drop (k + 1) values))))
    (next ∙ ap (λ n. slice_set sources n (Expression p i k)) here)
    ∙ sym (argument-more sources p i at k values h)

pub output-more : (sources : List Source) (p : Placed) (at k : ℕ) (names : List ℕ) → k < length names →
    linked sources (output_links p (at + k) (drop k names))
    ≡ linked (slice_set sources (p.base + get_or names k 0) (Slot (at + k))) (output_links p (at + (k + 1)) (drop (k + 1) names))
output-more sources p at k names h =
    let same : (at + k) + 1 ≡ at + (k + 1) = omega arith in
    ap (λ ks. linked sources (output_links p (at + k) ks)) (drop_more names k 0 h)
    ∙ ap (λ a. linked (slice_set sources (p.base + get_or names k 0) (Slot (at + k))) (output_links p a (drop (k + 1) names))) same

-- an equation of an instance
pub equation-more : (f : FileTree) (p : Placed) (at i : ℕ) (sources : List Source) (es : List LusEq) (e : LusEq) → i < length es →
    e ≡ get_or es i e →
    linked sources (equation_links f p i at (map equation_tree (drop i es)))
    ≡ linked sources (equation_links f p i at (equation_tree e ∷ map equation_tree (drop (i + 1) es)))
equation-more f p at i sources es e h is =
    ap (λ rest. linked sources (equation_links f p i at (map equation_tree rest)))
    (drop_more es i e h ∙ ap (λ x. x ∷ drop (i + 1) es) (sym is))

pub call-more : (f : FileTree) (p : Placed) (at i line : ℕ) (sources : List Source) (given : List ℕ) (callee : ℕ)
    (values : List ExprTree) (es : List EquationTree) →
    linked sources (argument_links p i at 0 values ++ (output_links p (at + (node_at f.nodes callee).inputs) given
    ++ equation_links f p (i + 1) (at + slice_index (sizes_of f) callee) es))
    ≡ linked (linked (linked sources (argument_links p i at 0 values)) (output_links p (at + (node_at f.nodes callee).inputs) given))
    (equation_links f p (i + 1) (at + slice_index (sizes_of f) callee) es)
call-more f p at i line sources given callee values es =
    linked-append sources (argument_links p i at 0 values) _
    ∙ linked-append (linked sources (argument_links p i at 0 values)) (output_links p (at + (node_at f.nodes callee).inputs) given) _

-- an equation that gives a name of its own
pub set-step : (f : FileTree) (p : Placed) (at i : ℕ) (sources : List Source) (es : List LusEq) (e : LusEq) (line given : ℕ)
    (value : ExprTree) (slot next : ℕ) (later : List Source) → i < length es → e ≡ get_or es i e →
    equation_tree e ≡ set line given value → slot ≡ p.base + given → later ≡ slice_set sources slot (Expression p i 0) → next ≡ at →
    linked later (equation_links f p (i + 1) next (map equation_tree (drop (i + 1) es)))
    ≡ linked sources (equation_links f p i at (map equation_tree (drop i es)))
set-step f p at i sources es e line given value slot next later h is what here given-it same =
    let rest = map equation_tree (drop (i + 1) es) in
    ap (λ n. linked later (equation_links f p (i + 1) n rest)) same
    ∙ ap (λ s. linked s (equation_links f p (i + 1) at rest)) (given-it ∙ ap (λ n. slice_set sources n (Expression p i 0)) here)
    ∙ sym (equation-more f p at i sources es e h is ∙ ap (λ x. linked sources (equation_links f p i at (x ∷ rest))) what)

-- a call
pub call-step : (f : FileTree) (p : Placed) (at i : ℕ) (sources : List Source) (es : List LusEq) (e : LusEq) (line : ℕ)
    (given : List ℕ) (callee : ℕ) (values : List ExprTree) (first later : List Source) (outputs next : ℕ) →
    i < length es → e ≡ get_or es i e → equation_tree e ≡ call line given callee values →
    first ≡ linked sources (argument_links p i at 0 values) → outputs ≡ at + (node_at f.nodes callee).inputs →
    later ≡ linked first (output_links p outputs given) → next ≡ at + slice_index (sizes_of f) callee →
    linked later (equation_links f p (i + 1) next (map equation_tree (drop (i + 1) es)))
    ≡ linked sources (equation_links f p i at (map equation_tree (drop i es)))
call-step f p at i sources es e line given callee values first later outputs next h is what one from two end =
    let rest = map equation_tree (drop (i + 1) es) in
    ap (λ s. linked s (equation_links f p (i + 1) next rest)) (two ∙ ap (λ n. linked first (output_links p n given)) from
    ∙ ap (λ s. linked s (output_links p (at + (node_at f.nodes callee).inputs) given)) one)
    ∙ ap (λ n. linked (linked (linked sources (argument_links p i at 0 values)) (output_links p (at + (node_at f.nodes callee).inputs) given))
    (equation_links f p (i + 1) n rest)) end
    ∙ sym (equation-more f p at i sources es e h is ∙ ap (λ x. linked sources (equation_links f p i at (x ∷ rest))) what
    ∙ call-more f p at i line sources given callee values rest)

-- an instance
pub instance-step : (f : FileTree) (instances : List Placed) (k : ℕ) (d : Placed) (sources start later : List Source) → k < length instances →
    later ≡ linked start (links_of f (get_or instances k d)) → start ≡ sources →
    linked later (flat_map (links_of f) (drop (k + 1) instances)) ≡ linked sources (flat_map (links_of f) (drop k instances))
instance-step f instances k d sources start later h next same =
    ap (λ s. linked s (flat_map (links_of f) (drop (k + 1) instances))) (next ∙ ap (λ s. linked s (links_of f (get_or instances k d))) same)
    ∙ sym (linked-append sources (links_of f (get_or instances k d)) (flat_map (links_of f) (drop (k + 1) instances)))
    ∙ ap (λ ps. linked sources (flat_map (links_of f) ps)) (sym (drop_more instances k d h))
