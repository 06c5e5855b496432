-- Laws of the row of a refusal, for the crate's own proofs.
mod RefusalLaws
