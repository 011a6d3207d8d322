-- How two neighbouring `if`s are one.
use Rattle.std.specs.Prelude.{if◌then◌else◌}
use Rattle.c_syntax.specs.Plain.{cond_tree}
use Rattle.c_syntax.specs.Tree.{CondTree, StmtTree, branch, StmtTrees, more_stmts}
use Rattle.emit_fused.specs.declared.choice.Choice.{Choice}
use Rattle.emit_fused.specs.declared.fusion.Fusion.{Fusion}
use Rattle.emit_fused.specs.declared.fusion.Fusion.TheVariants.{Apart, Straight, Crossed, Turned}
use Rattle.emit_fused.specs.Same.{same_cond, is_not_of}
use Rattle.emit_fused.specs.Kept.{keep_test}
use Rattle.emit_fused.specs.Fused.{joined}
use Rattle.emit_fused.specs.Turned.{standing, turned}

-- an `if` of the source
abbrev pub choice_tree : Choice → StmtTree
choice_tree c = branch c.line (cond_tree c.test) (standing c.yes.items) (standing c.no.items)

-- the same turned round
abbrev pub turned_choice : Choice → StmtTree
turned_choice c = branch c.line (cond_tree c.test) (turned c.yes.items) (turned c.no.items)

-- by the tests alone
abbrev pub relation_of : CondTree → CondTree → Fusion
relation_of test other =
    if same_cond test other then Straight
    else if is_not_of other test then Crossed
    else if is_not_of test other then Turned
    else Apart

-- where the first leaves what its test reads
abbrev pub fusion_of : Choice → Choice → Fusion
fusion_of a b =
    if keep_test (cond_tree a.test) (turned a.yes.items) (turned a.no.items)
    then relation_of (cond_tree a.test) (cond_tree b.test)
    else Apart

-- what two become, before others
abbrev pub fused_as : Fusion → Choice → Choice → StmtTrees → StmtTrees
fused_as Apart a b rest = more_stmts (turned_choice a) (more_stmts (turned_choice b) rest)
fused_as Straight a b rest =
    more_stmts (branch a.line (cond_tree a.test)
    (joined (turned a.yes.items) (turned b.yes.items))
    (joined (turned a.no.items) (turned b.no.items))) rest
fused_as Crossed a b rest =
    more_stmts (branch a.line (cond_tree a.test)
    (joined (turned a.yes.items) (turned b.no.items))
    (joined (turned a.no.items) (turned b.yes.items))) rest
fused_as Turned a b rest =
    more_stmts (branch a.line (cond_tree b.test)
    (joined (turned a.no.items) (turned b.yes.items))
    (joined (turned a.yes.items) (turned b.no.items))) rest
