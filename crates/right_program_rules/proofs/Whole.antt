-- All parts together: the program keeps the rules and limits of C.
use Rattle.right_program_rules.specs.Keeping.{StructsAreKept, NamesAreKept, ProceduresAreKept, RootIsKept, ChainsAreKept, LimitsAreKept, ProgramsAreLawful}

pub programs_are_lawful : StructsAreKept → NamesAreKept → ProceduresAreKept → RootIsKept → ChainsAreKept → LimitsAreKept → ProgramsAreLawful
programs_are_lawful structs names procedures root chains limits a = record {
  functions = names a;
  struct_names = (structs a).1;
  pures = a.prelude.lawful;
  structs = (structs a).0;
  procedures = procedures a;
  root = root a;
  chains = chains a;
  limits = limits a;
}
