use Rattle.std.proofs.Common.{bytes_eq, sym, ◌∙◌}
use Rattle.c_syntax.specs.Tree.{ProcedureTree}
use Rattle.c_syntax.specs.Plain.{procedure_tree}
use Rattle.emit_row_facts.proofs.lemmas.Steps.{place-map}
use Rattle.emit_linker.proofs.public.place_of.Goals as goal

pub returns : goal.returns
returns c = c.place_among.ensures
    ∙ sym (place-map (λ (q : ProcedureTree). bytes_eq q.name c.args.name.now) procedure_tree 0 c.args.procedures.now)
