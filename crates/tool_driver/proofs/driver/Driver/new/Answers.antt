use Rattle.std.proofs.Common.{[], subst, sym}
use Rattle.tool_driver.specs.Driven.{StandsFor}
use Rattle.tool_driver.proofs.driver.Driver.new.Goals as goal

pub returns-in-Ok-clause-stands : goal.returns-in-Ok-clause-stands
returns-in-Ok-clause-stands c =
    λ w ready. subst (λ d. StandsFor w d []) (sym c.in-Ok.ensures)
    (c.new_drivers_stand.ensures w c.args.machine c.args.instance c.args.shape ready)
