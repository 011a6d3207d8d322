use Rattle.std.proofs.Common.{◌≡◌, ◌==◌, ◌∙◌, ap, arith, cond, length, Some, nat_eq}
use Rattle.indexmap.specs.IndexMap.{get}
use Rattle.diagram_same.proofs.ChainSteps.{chained-more}
use Rattle.diagram_same.proofs.classes.Classes.add.Goals as goal

pub returns-clause-chained : goal.returns-clause-chained
returns-clause-chained c = λ d inside is was.
    let count = c.len.ensures in
    let items = c.args.self.now.list.ok.0 in
    let long : c.len.result ≡ length c.args.self.now.list.items = omega (arith, count, items) in
    chained-more d c.args.self.now (record { list = c.push.new.self; latest = c.insert.new.self })
    (record { first = c.args.first; earlier = c.copied-earlier.result }) c.args.signature was c.in_ok-push.ensures.items
    (c.copied-earlier.ensures ∙ c.get.ensures.value)
    (λ q. c.in_ok-insert.ensures.updates.0 q
    ∙ ap (λ n. cond (c.args.signature == q) (Some n) (get nat_eq c.args.self.now.latest q)) long) inside is
