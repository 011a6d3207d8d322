-- The file of a model keeps the static rules, where the nodes of its systems agree in types.
use Rattle.std.specs.Prelude.{◌≡◌, ℕ, ◌^◌, ◌<◌, ◌≤◌, false, List, [], ◌∷◌, ◌++◌, map, reverse, length, None}
use Rattle.std.proofs.Common.{refl, sym, ◌∙◌, ap, subst, arith}
use Rattle.std.proofs.lemmas.List.{map-append}
use Rattle.std.proofs.lemmas.List.Elements.{Contains-append_right}
use Rattle.c_syntax.specs.Outputs.{has_name}
use Rattle.diagram_blocks.specs.Kinds.{is_inport, is_outport}
use Rattle.diagram_meaning.specs.Rows.{inports_of, outports_of}
use Rattle.diagram_meaning.specs.Diagram.{Diagram}
use Rattle.diagram_meaning.specs.ResolvedTree.{ResolvedTree, IsResolvedTree, diagram_of}
use Rattle.diagram_meaning.proofs.lemmas.Accepted.{cycles_are_short}
use Rattle.modules_profile.specs.Systems.{systems}
use Rattle.modules_profile.proofs.lemmas.Members.{in-first, in-map}
use Rattle.modules_profile.proofs.lemmas.PortRows.{few-ports}
use Rattle.emit_shape.specs.Names.{root_name}
use Rattle.lustre_syntax.specs.Named.{NamedNode, placed_node}
use Rattle.lustre_syntax.specs.Lawful.{IsLawful, AreNodes, EndsWithInts}
use Rattle.lustre_system.specs.File.{root_node, named_file, lustre_file}
use Rattle.lustre_system.specs.Functions.{function_nodes}
use Rattle.lustre_system.specs.SystemNodes.{system_node}
use Rattle.lustre_rows.proofs.lemmas.Lists.{in-reverse}
use Rattle.lustre_right.specs.LongDelays.{long_delay}
use Rattle.lustre_right.specs.NodeLaws.{SystemsAreTyped}
use Rattle.lustre_right.specs.SystemLaws.{ModelFilesAreLawful}
use Rattle.lustre_lawful.proofs.Counts.{new-name}
use Rattle.lustre_lawful.proofs.IntTypes.{ends-with}
use Rattle.lustre_lawful.proofs.NodePlaces.{names_of, found-node, nodes-append, placed-texts}
use Rattle.lustre_lawful.proofs.RootNode.{root-lawful, root-inputs, root-outputs}
use Rattle.lustre_lawful.proofs.SystemOrder.{systems-sorted}
use Rattle.lustre_lawful.proofs.SystemsInFile.{nodes_before, before-once, root-new, systems-lawful}

module _ (typed : SystemsAreTyped) (r : ResolvedTree) (is : IsResolvedTree r)
    (near : long_delay (diagram_of r) ≡ None) where
  abbrev d : Diagram
  d = diagram_of r

  abbrev hyper : ℕ
  hyper = r.times.hyper

  -- all nodes but the root
  abbrev before : List NamedNode
  before = nodes_before typed r is near (systems d.rows)

  abbrev root : NamedNode
  root = root_node d hyper

  abbrev callees : List (List ℕ)
  callees = names_of (named_file d hyper)

  whole : named_file d hyper ≡ before ++ root ∷ []
  whole = refl

  names-are : callees ≡ names_of before ++ root_name ∷ []
  names-are = ap names_of whole ∙ map-append (λ (n : NamedNode). n.text) before (root ∷ [])

  few-inports : length (inports_of d.rows None) ≤ 32
  few-inports = few-ports d.rows None is_inport (is.tree.table.inports None)

  few-outports : length (outports_of d.rows None) ≤ 32
  few-outports = few-ports d.rows None is_outport (is.tree.table.outports None)

  hyper-low : hyper < 2 ^ 63
  hyper-low = let most = cycles_are_short r.tree.table r.types r.ops r.times is.resolved in omega (arith, most)

  nodes-are : (lustre_file d hyper).nodes ≡ map (placed_node callees) before ++ placed_node callees root ∷ []
  nodes-are = ap (map (placed_node callees)) whole ∙ map-append (placed_node callees) before (root ∷ [])

  file-lawful : IsLawful (lustre_file d hyper)
  file-lawful =
      let sorted = systems-sorted d.rows is.tree.table.nested in
      let earlier = map (placed_node callees) before in
      let top = system_node d None in
      let there = found-node callees before (root_name ∷ []) top names-are (before-once typed r is near (systems d.rows) sorted)
      (Contains-append_right function_nodes (map (system_node d) (reverse (systems d.rows))) top
      (in-map (system_node d) (reverse (systems d.rows)) None (in-reverse (systems d.rows) None (in-first None _)))) in
      let new = subst (λ ts. has_name ts root_name ≡ false) (sym (placed-texts callees before))
      (new-name root_name (names_of before) (root-new typed r is near (systems d.rows))) in
      record {
        nodes = subst (AreNodes []) (sym nodes-are)
            (nodes-append [] earlier (placed_node callees root ∷ [])
            (systems-lawful typed r is near callees (systems d.rows) (root_name ∷ []) names-are sorted)
            (root-lawful d hyper few-inports few-outports hyper-low callees earlier new there, tt));
        last = subst EndsWithInts (sym nodes-are)
            (ends-with earlier (placed_node callees root) (root-inputs d hyper few-inports few-outports callees)
            (root-outputs d hyper few-inports few-outports callees));
      }

pub model_files_are_lawful : SystemsAreTyped → ModelFilesAreLawful
model_files_are_lawful typed r is near = file-lawful typed r is near
