mod FileOf
mod NoRuleBroken
mod LinkRules
mod FileRules
mod RulesHold
mod FileHolds
mod DataPlaces
pub mod RangesLemmas
pub mod RulesLemmas
pub mod PlaceLemmas
pub mod EarlierLemmas
pub mod TwiceLemmas
pub mod KnownLemmas
pub mod Checks
pub mod FileAnswer
mod FileSamples
mod FileExamples
mod FaultExamples
