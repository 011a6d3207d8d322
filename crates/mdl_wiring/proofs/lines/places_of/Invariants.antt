use Rattle.std.proofs.Common.{◌≡◌, ◌++◌, drop}
use Rattle.std.specs.Prelude.{flat_map, option_to_list}
use Rattle.mdl_wiring.specs.Members.{members_seen}
use Rattle.mdl_wiring.specs.Lines.{source_of, ends_of_line}
use Rattle.mdl_wiring.specs.Held.{places_seen, ends_seen}
use Rattle.mdl_tree.specs.Values.{trees_of}
use Rattle.mdl_wiring.proofs.lines.places_of.Given as goal

abbrev pub invariant-loop-line : goal.invariant-loop-line
invariant-loop-line l = record {
  sources :
      places_seen l.sources.items ++ flat_map (λ line. option_to_list (source_of (members_seen l.fn.members) line))
      (trees_of (drop l.line-index l.lines))
      ≡ flat_map (λ line. option_to_list (source_of (members_seen l.fn.members) line)) (trees_of l.fn.lines);
  ends :
      ends_seen l.ends.items ++ flat_map (ends_of_line (members_seen l.fn.members)) (trees_of (drop l.line-index l.lines))
      ≡ flat_map (ends_of_line (members_seen l.fn.members)) (trees_of l.fn.lines);
}
