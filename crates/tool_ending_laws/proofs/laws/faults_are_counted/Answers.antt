use Rattle.tool_ending_laws.proofs.EndingLaws.{read_fault, write_fault, put_fault}
use Rattle.tool_ending_laws.proofs.laws.faults_are_counted.Goals as goal

pub returns : goal.returns
returns c = λ s a h h' b b' ends. record {
  read = read_fault s a h h' b b' ends;
  write = write_fault s a h h' b b' ends;
  put = put_fault s a h h' b b' ends;
}
