-- What is reported of the instances of a file, in the order in which they are laid out.
use Rattle.std.proofs.Common.{◌≡◌, refl, sym, ◌∙◌, ap, ap₂, ℕ, zero, suc, ◌+◌, ◌<◌, ℤ, List, [], ◌∷◌, ◌++◌, length, arith, slice_index, Option, drop}
use Rattle.std.specs.Prelude.{option_map}
use Rattle.std.specs.List.{flat_map}
use Rattle.std.proofs.lemmas.Grind.{flat_map-append}
use Rattle.lustre_syntax.specs.Lawful.{IsLawful}
use Rattle.lustre_syntax.specs.Tree.{EquationTree, set, call, node_at, FileTree}
use Rattle.lustre_flows.specs.declared.stuck.LusStuck.{LusStuck}
use Rattle.lustre_flows.specs.Instances.{instance, first_call, later_calls}
use Rattle.lustre_flows.specs.Ticks.{Look, look_at, look_inside, looks_of, told_of, fresh_root}
use Rattle.lustre_settling.proofs.lemmas.Unfolded.{AreCallsFrom, calls-from, look-unfolded}
use Rattle.lustre_slots.specs.declared.placed.Placed.{Placed}
use Rattle.lustre_slots.specs.Layout.{sizes_of, calls_from, IsThere, with_inside, root_of, instances_of}
use Rattle.lustre_slots.proofs.lemmas.Layouts.{inside-is, root-there}
use Rattle.lustre_slot_laws.specs.Laid.{laid}
use Rattle.lustre_slot_laws.specs.Outcomes.{names_of}
use Rattle.lustre_slot_laws.specs.SlotLaws.{told_in, laid_before, SlotsTell}
use Rattle.lustre_slot_laws.proofs.lemmas.Laying.{shape_at, placed-at, laid-calls, before-of, later-laid, first-before, later-before, values-before, calls-before}

module _ (told : Option (List (Option ℤ)) → List (Option ℤ) → EquationTree → List LusStuck) (f : FileTree) (lawful : IsLawful f)
    (before : Option (List (Option ℤ))) (now : List (Option ℤ)) where
  abbrev looks : List Look
  looks = looks_of told f.nodes

  abbrev Told : Placed → Type 0
  Told p = look_at looks p.node (before-of f before p) (laid (drop p.base now) (shape_at f p.node)) ≡ flat_map (told_in told f before now) (with_inside f p)

  module _ (p : Placed) (there : IsThere f p) (inner : (q : Placed) → q.node < p.node → IsThere f q → Told q) where
    calls-told : (at : ℕ) (es : List EquationTree) → AreCallsFrom f.nodes p.node es →
        look_inside looks (option_map (laid-calls f at es) before) (laid-calls f at es now) es
        ≡ flat_map (told_in told f before now) (flat_map (with_inside f) (calls_from (sizes_of f) at es))
    calls-told at [] calls = refl
    calls-told at (set line given value ∷ es) calls = calls-told at es calls
    calls-told at (call line given callee arguments ∷ es) calls =
        let q : Placed = record { node = callee; base = at } in
        let next : ℕ = at + slice_index (sizes_of f) callee in
        let rest = calls-told next es calls.1 in
        let first : look_at looks callee (option_map first_call (option_map (laid-calls f at (call line given callee arguments ∷ es)) before))
        (laid (drop at now) (shape_at f callee)) ≡ flat_map (told_in told f before now) (with_inside f q) =
        ap (λ b. look_at looks callee b (laid (drop at now) (shape_at f callee))) (first-before f before at line given callee arguments es)
        ∙ inner q calls.0.earlier calls.0.there in
        let later : look_inside looks (option_map later_calls (option_map (laid-calls f at (call line given callee arguments ∷ es)) before))
        (later_calls (laid-calls f at (call line given callee arguments ∷ es) now)) es
        ≡ flat_map (told_in told f before now) (flat_map (with_inside f) (calls_from (sizes_of f) next es)) =
        ap₂ (λ b c. look_inside looks b c es) (later-before f before at line given callee arguments es) (later-laid f at callee es now) ∙ rest in
        ap₂ {C = List LusStuck} (λ x y. x ++ y) first later
        ∙ sym (flat_map-append (told_in told f before now) (with_inside f q) (flat_map (with_inside f) (calls_from (sizes_of f) next es)))

    node-told : Told p
    node-told =
        let n = node_at f.nodes p.node in
        let at : ℕ = p.base + length n.names in
        ap (look_at looks p.node (before-of f before p)) (placed-at f p now lawful there)
        ∙ look-unfolded f.nodes lawful.nodes p.node there told (before-of f before p) (instance (names_of f p now) (laid-calls f at n.equations now))
        ∙ ap₂ {C = List LusStuck} (λ v c. flat_map (told v (names_of f p now)) n.equations ++ look_inside looks c (laid-calls f at n.equations now) n.equations)
        (values-before f before p lawful there) (calls-before f before p lawful there)
        ∙ ap (λ xs. told_in told f before now p ++ xs) (calls-told at n.equations (calls-from f.nodes p.node lawful.nodes there))
        ∙ sym (ap (flat_map (told_in told f before now)) (inside-is f p lawful there))

  told-below : (k : ℕ) (p : Placed) → p.node < k → IsThere f p → Told p
  told-below zero p less there = absurd (omega arith)
  told-below (suc k) p less there = node-told p there (λ q smaller. told-below k q (omega arith))

  -- what is reported of a file's instance
  pub told-laid : told_of told f (laid_before f before) (laid now (fresh_root f)) ≡ flat_map (told_in told f before now) (instances_of f)
  told-laid = told-below (suc (root_of f).node) (root_of f) (omega arith) (root-there f lawful)

pub slots_tell : SlotsTell
slots_tell told f before now lawful = told-laid told f lawful before now
