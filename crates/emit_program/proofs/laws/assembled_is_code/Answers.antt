use Rattle.emit_program.proofs.laws.assembled_is_code.Goals as goal

pub returns : goal.returns
returns c a =
    let v = c.codes_have_views.ensures a in
    let offers = c.systems_offer_theirs.ensures in
    let forms = c.forms_are_of_slots.ensures in
    let zeros = c.zeros_have_forms.ensures a in
    let paths = c.instances_have_paths.ensures a in
    let renewed = c.systems_are_renewed.ensures offers forms a v in
    let starts = c.roots_start.ensures forms a v renewed (c.renewals_reach_inside.ensures forms a v renewed).0 paths in
    let lives = c.lives_follow.ensures offers forms c.accounts_follow.ensures a v renewed in
    let answers = c.answers_follow.ensures a v renewed lives in
    let traces = c.traces_follow.ensures a v renewed lives (c.roots_take_ticks.ensures a v renewed) in
    let restarts = c.restarts_follow.ensures a v renewed paths starts answers traces in
    let runs = c.runs_follow.ensures a zeros restarts in
    c.code_follows.ensures a runs.0 runs.1
    (c.renewals_go_inside.ensures forms a v renewed answers)
    restarts
    (c.assembled_has_shape.ensures a)
    (c.assembled_is_least.ensures a)
    (c.assembled_is_lawful.ensures a)
