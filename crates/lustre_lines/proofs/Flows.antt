-- The flows of two files that differ in lines alone.
use Rattle.std.proofs.Common.{◌≡◌, ◌-◌, List, [], ◌∷◌, map, length, refl, sym, ap, ◌∙◌, Option, None, Some, ℤ}
use Rattle.std.specs.Prelude.{slice_index_or}
use Rattle.lustre_syntax.specs.Tree.{FileTree, without_lines}
use Rattle.lustre_flows.specs.declared.stuck.LusStuck.{LusStuck}
use Rattle.lustre_flows.specs.Instances.{Instance, no_instance, pass_at, passes_of, fresh_instances, name_count}
use Rattle.lustre_flows.specs.Ticks.{last_place, fresh_root, settle, settled, look_at, looks_of, told_of, failures, waiting, least_place, place_among, stuck_place, tick_from}
use Rattle.lustre_flows.specs.Flows.{with_tick, flows_after, flows_from, flows}
use Rattle.lustre_lines.proofs.Nodes.{alike, length-aside}
use Rattle.lustre_lines.proofs.Passes.{fresh-aside, passes-aside}
use Rattle.lustre_lines.proofs.Looks.{whys, Told, IsAside, failures-aside, waiting-aside, looks-aside}

-- nothing is told where nothing is told on other lines
none-told : (xs ys : List LusStuck) → whys xs ≡ whys ys → xs ≡ [] → ys ≡ []
none-told xs [] same none = refl
none-told xs (y ∷ ys) same none = absurd (cc (sym (ap whys none) ∙ same))

least-none : (xs : List LusStuck) → least_place xs ≡ None → xs ≡ []
least-none [] none = refl
least-none (x ∷ xs) none = absurd (cc none)

first-none : (o p : Option LusStuck) → place_among o p ≡ None → (o ≡ None) × (p ≡ None)
first-none (Some x) p none = absurd (cc none)
first-none None p none = (refl, none)

module _ (f g : FileTree) (same : without_lines f ≡ without_lines g) where
  pub last-same : last_place f ≡ last_place g
  last-same = ap (λ n. n - 1) (alike f g same length length-aside)

  fresh-same : fresh_root f ≡ fresh_root g
  fresh-same = λ i. slice_index_or (alike f g same fresh_instances fresh-aside i) (last-same i) no_instance

  settled-same : (before : Option Instance) (row : List ℤ) → settled f before row ≡ settled g before row
  settled-same before row = λ i.
      settle (λ left. pass_at (alike f g same passes_of passes-aside i) (last-same i) before (map Some row) left)
      (name_count (fresh-same i)) (fresh-same i)

  told-same : (told : Told) → IsAside told → (before : Option Instance) (i : Instance) →
      whys (told_of told f before i) ≡ whys (told_of told g before i)
  told-same told aside before left =
      alike f g same (λ ns. whys (look_at (looks_of told ns) (last_place f) before left))
      (λ ns. looks-aside told aside ns (last_place f) before left)
      ∙ ap (λ k. whys (look_at (looks_of told g.nodes) k before left)) last-same

  stuck-same : (before : Option Instance) (left : Instance) → stuck_place f before left ≡ None → stuck_place g before left ≡ None
  stuck-same before left none =
      let both = first-none (least_place (told_of failures f before left)) (least_place (told_of waiting f before left)) none in
      let failed = none-told (told_of failures f before left) (told_of failures g before left)
      (told-same failures failures-aside before left) (least-none (told_of failures f before left) both.0) in
      let waits = none-told (told_of waiting f before left) (told_of waiting g before left)
      (told-same waiting waiting-aside before left) (least-none (told_of waiting f before left) both.1) in
      λ i. place_among (least_place (failed i)) (least_place (waits i))

  -- what is never stuck gives the same flows on other lines
  flows-from-same : (rows : List (List ℤ)) (before : Option Instance) → (flows_from f rows before).stuck_place ≡ None →
      flows_from f rows before ≡ flows_from g rows before
  flows-from-same [] before none = refl
  flows-from-same (row ∷ rows) before none =
      by (stuck_place f before (settled f before row)) refl (λ h. flows-from-same rows (Some (settled f before row)) h) none
    where
      left : Instance
      left = settled f before row

      by : (o : Option LusStuck) → stuck_place f before left ≡ o →
          ((flows_from f rows (Some left)).stuck_place ≡ None → flows_from f rows (Some left) ≡ flows_from g rows (Some left)) →
          (flows_after (tick_from o left) (λ l. flows_from f rows (Some l))).stuck_place ≡ None →
          flows_after (tick_from o left) (λ l. flows_from f rows (Some l)) ≡ flows_from g (row ∷ rows) before
      by (Some at) is later h = absurd (cc h)
      by None is later h =
          ap (with_tick left) (later h)
          ∙ (λ i. flows_after (tick_from (sym (stuck-same before left is) i) left) (λ l. flows_from g rows (Some l)))
          ∙ (λ i. flows_after (tick_from (stuck_place g before (settled-same before row i)) (settled-same before row i))
          (λ l. flows_from g rows (Some l)))

  pub flows-same : (rows : List (List ℤ)) → (flows f rows).stuck_place ≡ None → flows f rows ≡ flows g rows
  flows-same rows none = flows-from-same rows None none
