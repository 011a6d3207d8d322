use Rattle.std.proofs.Common.{◌∙◌, ap, subst, ◌∷◌, ◌++◌, [], length}
use Rattle.mdl_rows.specs.Held.{IsThere}
use Rattle.mdl_rows.proofs.GroupLemmas.{takes_root, takes_inner}
use Rattle.mdl_rows.proofs.groups.Groups.take.Goals as goal
use Rattle.mdl_rows.proofs.groups.Groups.take.Goals.{in-None+in_ok-place-in-None, in-Some+in_ok-place-in-Some}

pub returns : goal.returns
returns c = elim c.match-block.branch [
  | in-None+in_ok-place-in-None w ↦
      takes_root c.args.self.now _ c.args.block w.in-None.is
      (ap (λ g. g.root.items) w.self-is ∙ w.in_ok-place-in-None.ensures.list)
      (ap (λ g. g.inner) w.self-is)
      (c.in_ok-push.ensures.items ∙ ap (λ g. g.places.items ++ c.match-block.place ∷ []) w.self-is
      ∙ ap (λ n. c.args.self.now.places.items ++ n ∷ []) (w.place-is ∙ w.in_ok-place-in-None.ensures.place))
  | in-Some+in_ok-place-in-Some w ↦
      takes_inner c.args.self.now _ c.args.block w.in-Some.owner w.index_mut.result.now w.push_last-in-Some.new.own w.in-Some.is
      (subst (IsThere (length c.args.self.now.inner.items)) w.in-Some.is c.requires) w.index_mut.ensures.value
      w.in_ok-place-in-Some.ensures.list
      (ap (λ g. g.root) w.self-is)
      (ap (λ g. g.inner.items) w.self-is)
      (c.in_ok-push.ensures.items ∙ ap (λ g. g.places.items ++ c.match-block.place ∷ []) w.self-is
      ∙ ap (λ n. c.args.self.now.places.items ++ n ∷ []) (w.place-is ∙ w.in_ok-place-in-Some.ensures.place))
]
