-- The least line of references that name nothing, one by one.
use Rattle.std.proofs.Common.{◌≡◌, refl, sym, ◌∙◌, ap, ℕ, ◌+◌, ◌<◌, ◌≤◌, min, List, length, drop, slice_index_or, drop_of_length-le, Option, Some, None, arith}
use denote.Ref.{Bor}
use Rattle.mdl_tree.specs.declared.tree.Section as held
use Rattle.mdl_tree.specs.Values.{section_tree, trees_of}
use Rattle.mdl_library.specs.Given.{Given}
use Rattle.mdl_library.specs.Library.{Source}
use Rattle.mdl_library.specs.References.{lesser, unnamed_line, least_unnamed}
use Rattle.mdl_library.proofs.Blocks.{trees_from}

min-assoc : (a b c : ℕ) → min (min a b) c ≡ min a (min b c)
min-assoc a b c = omega arith

lesser-assoc : (a b c : Option ℕ) → lesser (lesser a b) c ≡ lesser a (lesser b c)
lesser-assoc None b c = refl
lesser-assoc (Some a) None c = refl
lesser-assoc (Some a) (Some b) None = refl
lesser-assoc (Some a) (Some b) (Some c) = ap Some (min-assoc a b c)

lesser-none : (a : Option ℕ) → lesser a None ≡ a
lesser-none None = refl
lesser-none (Some a) = refl

pub least_more : (sources : List Source) (given : Given) (xs : List (Bor held.Section)) (i : ℕ) (x : Bor held.Section) →
    i < length xs → x ≡ slice_index_or xs i x → (before line now whole : Option ℕ) → now ≡ lesser before line →
    line ≡ unnamed_line sources given (section_tree x.now) →
    lesser before (least_unnamed sources given (trees_of (drop i xs))) ≡ whole →
    lesser now (least_unnamed sources given (trees_of (drop (i + 1) xs))) ≡ whole
least_more sources given xs i x h e before line now whole is is_line all =
    let rest = least_unnamed sources given (trees_of (drop (i + 1) xs)) in
    ap (λ o. lesser o rest) (is ∙ ap (lesser before) is_line) ∙ lesser-assoc before (unnamed_line sources given (section_tree x.now)) rest
    ∙ ap (λ ys. lesser before (least_unnamed sources given ys)) (sym (trees_from xs i x h e)) ∙ all

pub least_end : (sources : List Source) (given : Given) (xs : List (Bor held.Section)) (i : ℕ) → length xs ≤ i → (before whole : Option ℕ) →
    lesser before (least_unnamed sources given (trees_of (drop i xs))) ≡ whole → before ≡ whole
least_end sources given xs i h before whole all =
    sym (lesser-none before) ∙ ap (λ ys. lesser before (least_unnamed sources given (trees_of ys))) (sym (drop_of_length-le xs h)) ∙ all
