use Rattle.std.proofs.Common.{◌≡◌, ℕ, List, [], ◌∷◌, ◌++◌, map, ap, ◌∙◌}
use Rattle.c_syntax.specs.declared.program.Pure.{Pure}
use Rattle.c_syntax.specs.Plain.{pure_tree}
use Rattle.diagram_meaning.specs.ResolvedTree.{diagram_of}
use Rattle.emit_shape.specs.Names.{root_name}
use Rattle.modules_profile.specs.Systems.{system_name}
use Rattle.lustre_syntax.specs.Named.{place_of}
use Rattle.lustre_system.specs.File.{named_file}
use Rattle.lustre_expressions.specs.Found.{place_in}
use Rattle.lustre_emitter.specs.Listed.{listed_rows}
use Rattle.lustre_emitter.proofs.Files.{file-texts, functions-named}
use Rattle.lustre_emitter.proofs.NodeParts.{placed-alike}
use Rattle.lustre_emitter.proofs.emission.file_of.Goals as goal

pub invariant_of-callees : goal.invariant_of-callees
invariant_of-callees c = record {
  prelude = functions-named c.as_slice-4.result.now
      (ap (λ (fs : List Pure). map pure_tree fs) c.as_slice-4.ensures.value ∙ c.in_ok-functions.ensures.trees);
}

pub returns : goal.returns
returns c =
    let d = diagram_of c.args.r.now in
    let hyper = c.args.r.now.times.hyper in
    let nodes = named_file d hyper in
    let names = functions-named c.as_slice.result.now
    (ap (λ (fs : List Pure). map pure_tree fs) c.as_slice.ensures.value ∙ c.in_ok-functions.ensures.trees) in
    let rows = ap listed_rows c.as_slice-2.ensures.value ∙ c.in_ok-systems.ensures.rows in
    let texts : c.as_slice-3.result.now ≡ map (λ n. n.text) nodes = c.as_slice-3.ensures.value ∙ c.in_ok-texts.ensures
    ∙ (λ i. names i ++ map system_name (rows i) ++ root_name ∷ []) ∙ file-texts d hyper in
    let placed = c.in_ok-nodes.ensures
    ∙ placed-alike (place_in c.in_ok-places.places) (place_of (map (λ n. n.text) nodes))
    (λ text. c.in_ok-places.ensures text ∙ ap (λ (ts : List (List ℕ)). place_of ts text) texts) nodes in
    λ i. record { nodes = placed i }
