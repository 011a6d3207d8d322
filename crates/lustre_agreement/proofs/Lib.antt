mod BackEndLaws
mod RefusedPrograms
