use Rattle.std.proofs.Common.{◌∙◌, ap, ◌||◌, ℕ, List, [], get_or, bytes_eq}
use denote.Ref.{Bor}
use Rattle.c_outputs.proofs.NameLists.{names-up_to}
use Rattle.c_outputs.proofs.name_table.table_of.Goals as goal

abbrev no_name : Bor (List ℕ)
no_name = record { ref_ptr = (0, 0); now = [] }

pub loop-name-preserved : goal.loop-name-preserved
loop-name-preserved c = λ n.
    let names = c.args.names.now in
    let i = c.loop-name.name-index in
    c.in_ok-push.ensures.added n ∙ ap (λ b. bytes_eq n (get_or names i no_name).now || b) (c.loop-name.invariant n)
    ∙ names-up_to names i no_name n c.loop-name-test.true
