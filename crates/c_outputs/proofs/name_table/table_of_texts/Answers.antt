use Rattle.std.proofs.Common.{◌∙◌, ◌||◌, bytes_eq}
use Rattle.c_outputs.proofs.NameLists.{texts-up_to}
use Rattle.c_outputs.proofs.name_table.table_of_texts.Goals as goal

pub loop-text-preserved : goal.loop-text-preserved
loop-text-preserved c = λ n.
    let i = c.loop-text.text-index in
    c.in_ok-push.ensures.added n ∙ (λ j. bytes_eq n (c.bytes.ensures j) || c.loop-text.invariant n j)
    ∙ texts-up_to c.args.texts.now i c.text-item.result n c.loop-text-test.true c.text-item.is
