-- Laws of the definitions in specs/, for this crate's proofs and its callers'.
pub mod CharLaws
pub mod LegalLaws
pub mod RootLaws
pub mod InitialLaws
pub mod FirstLaws
pub mod Theorems
