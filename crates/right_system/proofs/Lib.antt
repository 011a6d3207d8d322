mod EmittedOk
