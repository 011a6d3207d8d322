use Rattle.c_semantics.proofs.lemmas.RunLaws as proof
use Rattle.c_semantics.proofs.laws.sequences_run_in_order.Goals as goal

pub returns : goal.returns
returns c = proof.sequences_run_in_order
