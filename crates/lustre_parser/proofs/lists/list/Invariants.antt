use Rattle.std.proofs.Common.{length, map, vec_len}
use Rattle.lustre_grammar.specs.Parsing.{list_step, parse_list}
use Rattle.lustre_parser.specs.Views.{form_of}
use Rattle.lustre_parser.proofs.Going.{Going}
use Rattle.lustre_parser.proofs.lists.list.Given as goal

abbrev pub invariant-loop-elements : goal.invariant-loop-elements
invariant-loop-elements g l =
    Going (list_step l.reader.last (form_of l.form) (g.E.Element.parse l.reader.last))
    (parse_list l.reader.last (form_of l.form) (g.E.Element.parse l.reader.last) l.initial.rest)
    (map g.E.Element.written l.elements.items) (vec_len l.elements) l.rest

abbrev pub decreases-loop-elements : goal.decreases-loop-elements
decreases-loop-elements g l = length l.rest
