use Rattle.std.proofs.Common.{◌≡◌, ◌∙◌, length, sym, subst, true≢false, nat_eq}
use Rattle.std.proofs.lemmas.List.{get_or_read}
use Rattle.indexmap.specs.IndexMap.{get}
use Rattle.diagram_meaning.specs.ResolvedTree.{diagram_of}
use Rattle.diagram_same.specs.declared.classes.Class.{Class}
use Rattle.diagram_same.specs.Classes.{IsLast, class_at, no_class, row_of, signature_at}
use Rattle.diagram_same.specs.Same.{AreSame}
use Rattle.diagram_same.specs.Signatures.{signature_of}
use Rattle.diagram_same.proofs.ChainSteps.{AreLeft, has-none, left-first, left-next}
use Rattle.diagram_same.proofs.classes.Classes.find.Goals as goal

pub loop-place-init : goal.loop-place-init
loop-place-init c =
    left-first (diagram_of c.args.r.now) c.args.self.now.list.items c.args.inside.row c.copied-place.result
    (subst (IsLast (diagram_of c.args.r.now) c.args.self.now.list.items (signature_of (diagram_of c.args.r.now) c.args.inside.row)
    (length c.args.self.now.list.items)) (sym (c.copied-place.ensures ∙ c.get.ensures.value))
    (subst (λ s. IsLast (diagram_of c.args.r.now) c.args.self.now.list.items s (length c.args.self.now.list.items)
    (get nat_eq c.args.self.now.latest c.args.signature)) c.requires.signature (c.requires.chained.latest c.args.signature)))

pub loop-place-preserved : goal.loop-place-preserved
loop-place-preserved c =
    let left = subst (AreLeft (diagram_of c.args.r.now) c.args.self.now.list.items c.args.inside.row) c.in-Some.is c.loop-place.invariant in
    let here : c.index-class.result.now ≡ class_at c.args.self.now.list.items c.in-Some.at =
    get_or_read c.args.self.now.list.items c.in-Some.at c.index-class.result.now left.0 c.index-class.ensures no_class in
    left-next (diagram_of c.args.r.now) c.args.self.now.list.items c.args.inside.row c.in-Some.at c.index-class.result.now.earlier left
    (λ same. true≢false (sym (c.are_same.ensures.1
    (subst (λ (k : Class). AreSame (diagram_of c.args.r.now) (row_of k) c.args.inside.row) (sym here) same)) ∙ c.if-are_same.false))
    (subst (λ (k : Class). IsLast (diagram_of c.args.r.now) c.args.self.now.list.items
    (signature_at (diagram_of c.args.r.now) c.args.self.now.list.items c.in-Some.at) c.in-Some.at k.earlier) (sym here)
    (c.requires.chained.earlier c.in-Some.at left.0))

pub returns-clause-none : goal.returns-clause-none
returns-clause-none c =
    has-none (diagram_of c.args.r.now) c.args.self.now.list.items c.args.inside.row
    (subst (AreLeft (diagram_of c.args.r.now) c.args.self.now.list.items c.args.inside.row) c.in_default.is c.loop-place.invariant)
