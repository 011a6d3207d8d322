pub mod lemmas
mod Lists
mod DelayLengths
mod RenewedSamples
mod RefusedCodes
mod RefusedFillers
mod Totals
