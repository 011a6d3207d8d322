mod Made
mod Models
mod Formed
mod Typed
mod Falling
mod Needed
mod Resolved
