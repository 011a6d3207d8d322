use Rattle.std.proofs.Common.{append-nil, append_assoc}
use Rattle.tool_generator.specs.Texts.{source_text}
use Rattle.tool_generator.proofs.blocks.push_source.Goals as goal

pub returns : goal.returns
unfolding source_text
returns c = rw (append_assoc, append_assoc, append_assoc, append-nil) c.in_ok-write.ensures.bytes
