use Rattle.std.proofs.Common.{rules}
use Rattle.lustre_grammar.specs.Parsing.{list_step}
use Rattle.lustre_grammar.proofs.lemmas.Continuing.{continues}
use Rattle.lustre_parser.specs.Views.{form_of}
use Rattle.lustre_parser.proofs.Going.{more-is, going-begins, going-pushed}
use Rattle.lustre_parser.proofs.lists.list.Goals as goal

pub loop-elements-init : goal.loop-elements-init
loop-elements-init g c =
    going-begins (list_step c.args.reader.last (form_of c.args.form) (g.E.Element.parse c.args.reader.last))
    g.E.Element.written c.new-elements.result.items c.new-elements.result.len c.args.tokens c.new-elements.ensures.items
    c.new-elements.ensures.len

pub loop-elements-smaller : goal.loop-elements-smaller
loop-elements-smaller g c =
    let claim : g.claim c.lifetimes = search rules in
    (continues c.args.reader.last (form_of c.args.form) g.E.Element.parse (g.met.E.Element c.lifetimes claim).takes).fewer c.len.result
    c.loop-elements.rest (g.E.Element.written c.in-Some.element) c.in_ok-element.later
    (more-is g.E.Element.written c.in_ok-element.element c.in-Some.element c.in_ok-element.later _ c.in_ok-element.ensures
    c.in-Some.is)

pub loop-elements-preserved : goal.loop-elements-preserved
loop-elements-preserved g c =
    let claim : g.claim c.lifetimes = search rules in
    going-pushed g.E.Element.written c.loop-elements.elements.items c.push.new.self.items c.in-Some.element
    c.loop-elements.elements.len c.len.result c.push.new.self.len c.in_ok-element.later
    (continues c.args.reader.last (form_of c.args.form) g.E.Element.parse (g.met.E.Element c.lifetimes claim).takes)
    c.loop-elements.invariant c.in_ok-push.ensures.items c.len.ensures c.in_ok-push.ensures.len
    (more-is g.E.Element.written c.in_ok-element.element c.in-Some.element c.in_ok-element.later _ c.in_ok-element.ensures
    c.in-Some.is)
