use Rattle.std.proofs.Common.{map, ap, sym, ◌∙◌}
use Rattle.std.proofs.lemmas.Bool.{false≢true}
use Rattle.modules_certificate.specs.Sound.{pairs_with, positions}
use Rattle.modules_certificate.proofs.Pairs.{front-pairs, too-few}
use Rattle.modules_certificate.proofs.checking.without_pairs.Goals as goal

pub returns-then-differ-others : goal.returns-then-differ-others
returns-then-differ-others c = λ more e. too-few c.args.differ.now c.args.first c.args.others more c.if-differ-others.true e

pub returns-else-are_pairs : goal.returns-else-are_pairs
returns-else-are_pairs c = λ more e. false≢true (sym c.if-are_pairs.false ∙ c.are_pairs.ensures.1 (
    ap (map positions) c.split_at.ensures.front ∙ front-pairs c.args.differ.now c.args.first c.args.others more e
    ∙ ap (pairs_with c.args.first) (sym c.split_at.ensures.front_len)))
