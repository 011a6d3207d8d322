mod Endings
mod SureCalls
