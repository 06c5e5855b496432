-- The proofs of `call::ending`.
mod EndLaws
