mod SlotFields
mod FirstTicks
mod ChildInstances
mod HeldFields
mod LivingSystems
