-- What follows from what holds of what an execution leaves.
use Rattle.c_semantics.specs.Machine.{After, Outcome, done, stuck}
use Rattle.right_relation.specs.Instances.{OnDone}

pub on-done : (o : Outcome) (P Q : After → Type 0) → ((a : After) → P a → Q a) → OnDone o P → OnDone o Q
on-done (done a) P Q follows h = follows a h
on-done (stuck at cells) P Q follows h = h
