mod GivenFunctions
mod ScheduleSteps
