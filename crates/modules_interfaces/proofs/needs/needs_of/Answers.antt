use Rattle.std.proofs.Common.{◌≡◌, ℕ, List, [], ◌∷◌, ◌++◌, length, sym, ap, ap₂, ◌∙◌, arith}
use Rattle.std.proofs.lemmas.List.FromFn.{length-map-range_with_len, map-range_with_len_more}
use Rattle.modules_interfaces.specs.Needs.{need_of}
use Rattle.modules_interfaces.proofs.needs.needs_of.Goals as goal

pub loop-k-preserved : goal.loop-k-preserved
loop-k-preserved c =
    c.in_ok-push.ensures.items ∙ ap₂ (λ (ns : List ℕ) (n : ℕ). ns ++ n ∷ []) c.loop-k.invariant c.need_of.ensures
    ∙ sym (map-range_with_len_more (need_of c.args.functions.now) 0 c.loop-k.k c.loop-k.k (omega arith))

pub returns-clause-len : goal.returns-clause-len
returns-clause-len c =
    let len : length c.loop-k.needs.items ≡ c.loop-k.k = ap (λ (ns : List ℕ). length ns) c.loop-k.invariant
    ∙ length-map-range_with_len (need_of c.args.functions.now) 0 c.loop-k.k in
    let most = c.loop-k.auto.k-end in let done = c.loop-k-test.false in omega (arith, len, most, done)
