use Rattle.std.proofs.Common.{◌≡◌, ◌∙◌, ◌+◌, ◌++◌, [], ◌∷◌, refl, sym, ap, ap₂, map, length, arith}
use Rattle.std.proofs.lemmas.List.{map_push}
use Rattle.std.proofs.lemmas.List.FromFn.{map-range_with_len_more}
use Rattle.modules_profile.specs.LocalSystem.{LocalSystem}
use Rattle.c_syntax.specs.Plain.{stmt_tree}
use Rattle.emit_system_spec.specs.Fields.{child_field}
use Rattle.emit_system_spec.specs.Renewing.{zero_store}
use Rattle.emit_starts.proofs.stores.counter_stores.Goals as goal

pub loop-k-preserved : goal.loop-k-preserved
loop-k-preserved c =
    let local = c.args.layout.now.local in
    let k = c.loop-k.k in
    let opened = ap (λ (s : LocalSystem). length s.children) (c.behind-layout.view_is ∙ c.local.ensures) in
    let count : c.len.result ≡ length local.children = omega (arith, opened, c.len.ensures) in
    let first : c.child_field-first.result ≡ child_field local (length local.children) = c.child_field-first.ensures
    ∙ ap (child_field local) count in
    ap (map stmt_tree) c.in_ok-push.ensures.items ∙ map_push stmt_tree c.loop-k.stores.items c.zero_store.result
    ∙ ap₂ (λ ys y. ys ++ y ∷ []) c.loop-k.invariant (c.zero_store.ensures ∙ ap (λ f. zero_store (f + k)) first)
    ∙ sym (map-range_with_len_more zero_store (child_field local (length local.children)) k
    (child_field local (length local.children) + k) refl)
