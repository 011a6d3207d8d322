mod FieldPlaces
mod LaidTables
mod ParamNames
mod WireTypes
