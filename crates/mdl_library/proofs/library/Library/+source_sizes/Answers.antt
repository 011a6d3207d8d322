use Rattle.std.proofs.Common.{rules, ◌≡◌, ◌<◌, ◌-◌, List, ap, ◌∙◌}
use Rattle.std.specs.Prelude.{Vec}
use Rattle.std.specs.declared.alloc.Global.{Global}
use Rattle.mdl_library.specs.Held.{library_seen}
use Rattle.mdl_library.specs.Sizes.{Size, next_sizes, source_sizes}
use Rattle.mdl_library.specs.HeldSizes.{are_capped}
use Rattle.mdl_library.specs.declared.sizes.Size as held
use Rattle.mdl_library.proofs.ItemLemmas.{if_ok}
use Rattle.mdl_library.proofs.SizeLemmas.{round_more}
use Rattle.mdl_library.proofs.library.Library.+source_sizes.Goals as goal

pub returns : goal.returns
returns t c =
    let library = library_seen c.args.self.now in
    let depth = c.args.depth in
    let above : 0 < depth = search rules in
    if_ok (λ (next : Vec held.Size Global). (before : List Size) → c.deref.result.now ≡ are_capped before →
    next.items ≡ are_capped (next_sizes library before))
    (λ (next : Vec held.Size Global). next.items ≡ are_capped (source_sizes library depth)) c.next_sizes.result
    (λ next is. is (source_sizes library (depth - 1)) (c.deref.ensures.value ∙ c.in_ok-sizes.ensures)
    ∙ ap are_capped (round_more library depth above)) c.next_sizes.ensures
