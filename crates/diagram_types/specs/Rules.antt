-- A rule in memory.
use Rattle.diagram_meaning.specs.Types.{TypeRule}
use Rattle.diagram_meaning.specs.Types as rule
use Rattle.diagram_types.specs.declared.rules.Rule.{Rule}
use Rattle.diagram_types.specs.declared.rules.Rule.TheVariants.{Known, SameAs, NoRule}

-- the rule that is held
abbrev pub rule_held : Rule → TypeRule
rule_held (Known type) = rule.Known type
rule_held (SameAs c) = rule.SameAs c
rule_held NoRule = rule.NoRule
