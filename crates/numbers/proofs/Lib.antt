-- What is shown of the definition of the call.
pub mod FoldLaws
pub mod ChecksLaws
pub mod Passed
pub mod Accepted
pub mod Demand3
pub mod CallParts
pub mod CallTwins
pub mod Cases
pub mod SinglesCases
pub mod SaysLaws
pub mod DecimalCall
pub mod DecimalCases
