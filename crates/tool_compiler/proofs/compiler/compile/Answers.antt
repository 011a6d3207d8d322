use Rattle.diagram_meaning.specs.ResolvedTable.{table_of_tree}
use Rattle.emit_notes.proofs.lemmas.NotedTexts.{notes-of}
use Rattle.tool_compiler.proofs.compiler.compile.Goals as goal

pub compiled_from-requires : goal.compiled_from-requires
compiled_from-requires c = (c.in_ok-resolved.ensures.accepted c.args.bytes.now c.in_ok-file.ensures.file).no_loop

pub returns-clause-compiled : goal.returns-clause-compiled
returns-clause-compiled c = record {
  resolved = table_of_tree c.in_ok-resolved.resolved;
  verdict = c.in_ok-resolved.ensures.accepted c.args.bytes.now c.in_ok-file.ensures.file;
  compiled = c.in_ok-compiled_from.ensures.compiled;
  noted = notes-of c.args.bytes.now c.in_ok-compiled_from.field-0.code c.in_ok-labels.labels
      (c.in_ok-labels.ensures c.args.bytes.now c.in_ok-file.ensures.file) c.in_ok-compiled_from.ensures.noted;
}
