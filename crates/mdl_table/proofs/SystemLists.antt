-- The systems directly inside one, from the text to the tree.
use Rattle.std.proofs.Common.{◌≡◌, refl, sym, ◌∙◌, ap, subst, ℕ, zero, suc, ◌+◌, ◌<◌, ◌≤◌, List, [], ◌∷◌, ◌++◌, map, length, drop, append_assoc, slice_index_or, arith}
use Rattle.std.proofs.Math.Seq.{drop-cons}
use Rattle.std.proofs.lemmas.List.{append-nil, drop_all, map-append}
use Rattle.diagram_meaning.specs.declared.table.Row.{Row}
use Rattle.diagram_meaning.specs.declared.subsystem.Subsystem.{Subsystem}
use Rattle.diagram_meaning.specs.declared.subsystem.Subsystem.TheOpen.{Subsystem-F}
use Rattle.diagram_meaning.specs.declared.subsystem.Subsystem.TheViews.{roll-Subsystem}
use Rattle.diagram_meaning.specs.declared.subsystem.Subsystem.TheFolds.{fold-roll-Subsystem}
use Rattle.diagram_meaning.specs.Nested as nested
use Rattle.diagram_meaning.specs.Rows.{system_control}
use Rattle.mdl_tree.specs.Values.{section_tree}
use Rattle.mdl_systems.specs.declared.system.SystemText.{SystemText}
use Rattle.mdl_systems.specs.declared.system.SystemText.TheViews.{out-SystemText}
use Rattle.mdl_systems.specs.declared.system.SystemText.TheFolds.{fold_out-SystemText}
use Rattle.mdl_systems.specs.Systems as text
use Rattle.mdl_table.specs.Nesting.{SystemIsShort, AllAreShort, nested_by, all_nested}

-- what a system in memory stands for, by those inside it
pub text-is : (s : SystemText) → text.system_of s
    ≡ text.system (out-SystemText s).row (out-SystemText s).line (section_tree (out-SystemText s).section.now) (out-SystemText s).own.items
    (text.systems_from (map text.system_of (out-SystemText s).children.items))
text-is s = fold_out-SystemText text.SystemTree text.system_from s

-- what the nested system of one in memory is
abbrev pub nested_of : List Row → SystemText → nested.System
nested_of rows s = nested_by rows (text.system_of s)

all-nested : (rows : List Row) (xs : List SystemText) →
    all_nested rows (text.systems_from (map text.system_of xs)) ≡ nested.systems_from (map (nested_of rows) xs)
all-nested rows [] = refl
all-nested rows (x ∷ xs) = ap (nested.next (nested_of rows x)) (all-nested rows xs)

-- a system is made of those inside it
pub made : (rows : List Row) (s : SystemText) (x : Subsystem-F Subsystem) → x.row ≡ (out-SystemText s).row →
    x.line ≡ (out-SystemText s).line →
    x.control ≡ system_control rows (out-SystemText s).row → x.own ≡ (out-SystemText s).own.items →
    map nested.system_of x.children.items ≡ map (nested_of rows) (out-SystemText s).children.items →
    nested.system_of (roll-Subsystem x) ≡ nested_of rows s
made rows s x row line control own children =
    let held = out-SystemText s in
    let inside = nested.systems_from (map (nested_of rows) held.children.items) in
    fold-roll-Subsystem nested.System nested.system_from x
    ∙ ap (λ cs. nested.system x.row x.line x.control x.own (nested.systems_from cs)) children
    ∙ ap (λ r. nested.system r x.line x.control x.own inside) row
    ∙ ap (λ l. nested.system held.row l x.control x.own inside) line
    ∙ ap (λ c. nested.system held.row held.line c x.own inside) control
    ∙ ap (λ ns. nested.system held.row held.line (system_control rows held.row) ns inside) own
    ∙ ap (nested.system held.row held.line (system_control rows held.row) held.own.items) (sym (all-nested rows held.children.items))
    ∙ sym (ap (nested_by rows) (text-is s))

-- one child more is made
pub more-made : (rows : List Row) (made news : List Subsystem) (xs : List SystemText) (i : ℕ) (x : SystemText)
    (own : Subsystem) (whole : List nested.System) →
    i < length xs → x ≡ slice_index_or xs i x → nested.system_of own ≡ nested_of rows x → news ≡ made ++ own ∷ [] →
    map nested.system_of made ++ map (nested_of rows) (drop i xs) ≡ whole →
    map nested.system_of news ++ map (nested_of rows) (drop (i + 1) xs) ≡ whole
more-made rows made news xs i x own whole h is same pushed before =
    let rest = map (nested_of rows) (drop (i + 1) xs) in
    ap (λ ss. map nested.system_of ss ++ rest) pushed
    ∙ ap (λ ss. ss ++ rest) (map-append nested.system_of made (own ∷ []))
    ∙ append_assoc (map nested.system_of made) (nested.system_of own ∷ []) rest
    ∙ ap (λ s. map nested.system_of made ++ s ∷ rest) (same ∙ ap (nested_of rows) is)
    ∙ ap (λ k. map nested.system_of made ++ nested_of rows (slice_index_or xs i x) ∷ map (nested_of rows) (drop k xs)) one
    ∙ ap (λ ss. map nested.system_of made ++ map (nested_of rows) ss) (sym (drop-cons xs i x h))
    ∙ before
  where
    one : i + 1 ≡ suc i
    one = omega arith

-- all are made
pub all-made : (rows : List Row) (made : List Subsystem) (xs : List SystemText) (i : ℕ) (whole : List nested.System) → length xs ≤ i →
    map nested.system_of made ++ map (nested_of rows) (drop i xs) ≡ whole → map nested.system_of made ≡ whole
all-made rows made xs i whole past is =
    sym (ap (λ ss. map nested.system_of made ++ map (nested_of rows) ss) (drop_all i xs past) ∙ append-nil (map nested.system_of made)) ∙ is

-- ---- Numbers that fit into 32 bits

short-at : (xs : List SystemText) (i : ℕ) (x : SystemText) → i < length xs → AllAreShort (text.systems_from (map text.system_of xs)) →
    SystemIsShort (text.system_of (slice_index_or xs i x))
short-at [] i x h all = absurd (omega (arith, h))
short-at (y ∷ xs) zero x h all = all.0
short-at (y ∷ xs) (suc i) x h all = short-at xs i x (omega (arith, h)) all.1

-- the numbers of each of these systems, and of all inside it, fit
abbrev pub EachIsShort : List SystemText → Type 0
EachIsShort xs = (i : ℕ) (x : SystemText) → i < length xs → x ≡ slice_index_or xs i x → SystemIsShort (text.system_of x)

-- what fits of a system fits of those inside it
pub short-children : (s : SystemText) (xs : List SystemText) → xs ≡ (out-SystemText s).children.items →
    SystemIsShort (text.system_of s) → EachIsShort xs
short-children s xs e short i x h is =
    subst (λ y. SystemIsShort (text.system_of y)) (sym is)
    (short-at xs i x h (subst (λ ys. AllAreShort (text.systems_from (map text.system_of ys))) (sym e)
    (subst SystemIsShort (text-is s) short).2))
