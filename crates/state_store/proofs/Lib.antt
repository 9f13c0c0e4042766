pub mod Contents
pub mod EntryLemmas
pub mod FormatLemmas
pub mod KeptLemmas
pub mod Moments
pub mod ReadingLemmas
pub mod StepLemmas
