use Rattle.right_driving.proofs.DrivableSystems.{right_code_is_drivable}
use Rattle.right_driving.proofs.laws.right_code_is_drivable.Goals as goal

pub returns : goal.returns
returns c =
    right_code_is_drivable c.profiles_are_one.ensures c.header_is_of_own_rows.ensures c.resolved_cycles_are_short.ensures
    c.resolved_cycles_have_ticks.ensures
