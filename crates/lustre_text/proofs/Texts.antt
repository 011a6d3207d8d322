-- The text of a right file is right, and has as many nodes.
use Rattle.std.proofs.Common.{◌≡◌, ℕ, List, length, sym, ap, ◌∙◌}
use Rattle.std.proofs.lemmas.List.{length-map}
use Rattle.diagram_meaning.specs.Diagram.{Diagram}
use Rattle.lustre_syntax.specs.Tree.{FileTree, node_without_lines}
use Rattle.lustre_rules.specs.Reading.{IsTextOf}
use Rattle.lustre_reading_laws.specs.ReadingLaws.{ReadingsAreLawful}
use Rattle.lustre_right.specs.Right.{IsLustreOf, IsRightText}
use Rattle.lustre_lines.specs.LineLaws.{LinesMeanNothing}
use Rattle.lustre_text.specs.Counted.{HasNodeCount}

module _ (bytes : List ℕ) (f : FileTree) (text : IsTextOf bytes f) where
  pub right-text : (d : Diagram) → ReadingsAreLawful → LinesMeanNothing → IsLustreOf f d → IsRightText bytes d
  right-text d lawful lines right = record {
    file = text.reading;
    reads = text.read;
    only = text.one;
    right = lines f text.reading d (sym text.same) (lawful bytes text.reading text.read) right;
  }

  pub counted-nodes : (count : ℕ) → count ≡ length f.nodes → HasNodeCount bytes count
  counted-nodes count counted other read =
      counted ∙ sym (length-map f.nodes node_without_lines)
      ∙ ap (λ (h : FileTree). length h.nodes) (sym text.same)
      ∙ length-map text.reading.nodes node_without_lines
      ∙ ap (λ (h : FileTree). length h.nodes) (sym (text.one other read))
