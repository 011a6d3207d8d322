use Rattle.std.proofs.Common.{ap}
use Rattle.base_host.specs.Fakes.{SureHostState, files_of}
use Rattle.tool_words.specs.Words.{word_bytes, asked_by}
use Rattle.tool_entry.proofs.SureCalls.{surely, surely_comes, surely_lacks, unrisen}
use Rattle.tool_entry.proofs.running.run_surely.Goals as goal

pub returns-clause-done : goal.returns-clause-done
returns-clause-done c =
    surely c.sure_hosts_are_sure.ensures (asked_by (word_bytes c.args.words.now)) c.new-host.result
    (files_of c.args.files.items) c.run_tool.result
    (ap (λ (s : SureHostState). s.files) c.new-host.ensures) c.run_tool.ensures.sure.done

pub returns-clause-usage : goal.returns-clause-usage
returns-clause-usage c = c.run_tool.ensures.call.status.usage

pub returns-clause-comes : goal.returns-clause-comes
returns-clause-comes c =
    surely_comes (asked_by (word_bytes c.args.words.now)) c.new-host.result
    (files_of c.args.files.items) c.run_tool.result (ap (λ (s : SureHostState). s.files) c.new-host.ensures)
    c.run_tool.ensures.call.status.comes

pub returns-clause-missing : goal.returns-clause-missing
returns-clause-missing c =
    surely_lacks (asked_by (word_bytes c.args.words.now)) c.new-host.result (files_of c.args.files.items) c.run_tool.result
    (ap (λ (s : SureHostState). s.files) c.new-host.ensures) c.run_tool.ensures.sure.unsure
    (c.five_is_needed.ensures _ _ _ _ _ _ c.run_tool.ensures.call.ended)

pub returns-clause-never : goal.returns-clause-never
returns-clause-never c = (
  unrisen c.run_tool.result 6 c.run_tool.ensures.call.status.errors.write,
  unrisen c.run_tool.result 7 c.run_tool.ensures.call.status.errors.put,
)
