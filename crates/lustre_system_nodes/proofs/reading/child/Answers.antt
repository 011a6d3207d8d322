use Rattle.std.proofs.Common.{◌≡◌, length, slice_get, ap, ◌∙◌, arith}
use Rattle.std.proofs.lemmas.List.{length-map}
use Rattle.diagram_meaning.specs.Nested.{system_of}
use Rattle.diagram_meaning.specs.declared.subsystem.Subsystem.TheViews.{out-Subsystem}
use Rattle.modules_profile.specs.Systems.{children_of}
use Rattle.modules_profile.proofs.lemmas.SystemsInside.{children-are, got-mapped}
use Rattle.lustre_system_nodes.proofs.reading.child.Goals as goal

pub index-requires : goal.index-requires
index-requires c =
    let many : length (children_of (system_of c.args.s.now)) ≡ length (out-Subsystem c.args.s.now).children.items =
    ap length (children-are c.args.s.now) ∙ length-map (out-Subsystem c.args.s.now).children.items system_of in
    omega (arith, many, c.requires, (out-Subsystem c.args.s.now).children.ok.0)

pub returns : goal.returns
returns c =
    let many : length (children_of (system_of c.args.s.now)) ≡ length (out-Subsystem c.args.s.now).children.items =
    ap length (children-are c.args.s.now) ∙ length-map (out-Subsystem c.args.s.now).children.items system_of in
    ap (λ xs. slice_get xs c.args.place) (children-are c.args.s.now)
    ∙ got-mapped system_of (out-Subsystem c.args.s.now).children.items c.args.place c.index.result.now
    (omega (arith, many, c.requires)) c.index.ensures
