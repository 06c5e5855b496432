-- What is shown of the grammar and of the passes with the plain table.
pub mod Sixteen
pub mod PlainText
pub mod PlainEdges
pub mod PlainWithin
pub mod PlainInstance
pub mod ReadingWithin
pub mod Demand3
pub mod Marked
pub mod MarkedReadings
pub mod MarkedParts
pub mod PlainTable
pub mod OtherTable
pub mod Carried
pub mod FormalDemand3
pub mod SimplifiedTable
pub mod FormalTable
pub mod MarkedFormal
