-- Laws of the definitions in specs/, for this crate's proofs.
pub mod ShapeLaws
