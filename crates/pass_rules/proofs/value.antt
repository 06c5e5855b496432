-- Laws of the value over two edges.
pub mod OverLaws
