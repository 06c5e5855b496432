-- The definitions of `pass_rules`.
-- value: What the value over two edges answers.
pub mod Over
-- chain: What a chain answers to the next edge.
pub mod Chain
