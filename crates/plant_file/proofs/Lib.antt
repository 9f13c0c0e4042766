pub mod FirstFault
pub mod NoFault
pub mod KeyRanges
mod NameRanges
mod EntryRanges
pub mod SectionRanges
pub mod FaultPlaces
pub mod DocumentPlaces
mod TextRanges
pub mod FormAnswer
pub mod ReadingInside
pub mod UpToAnswer
pub mod NamesAnswer
pub mod OnlyAnswer
pub mod TextAnswer
pub mod DocumentAnswer
pub mod SwitchAnswer
pub mod FaultText
mod ReadingExamples
