-- What a chain answers to the next edge, by the passes on stored edges (`pass_list`, specs/StoredPass.antt). Definitions only.
--     pass_chain x       the chain x as the code has it
--     ChainIs c x       the code's chain c is x, and the edge over it fits
--     answer p x y      what `Chain::join` answers: the longer chain, that it ends, or that the value is above TOP
-- Assumes nothing.
use Rattle.std.specs.Prelude.{◌≡◌, cond, ltb, Option, Some, None, Result, Ok, Err}
use Rattle.whole.specs.Whole.{TOP}
use Rattle.passes.specs.Passes.{Pass}
use Rattle.pass_list.specs.StoredEdge.{StoredEdge, pass_edge, Fits}
use Rattle.pass_list.specs.StoredPass.{StoredChain, joins, longer, joined_value}
use Rattle.pass_rules.specs.declared.chain.Chain.{Chain}
use Rattle.whole.specs.Answers.{above_top}
use Rattle.whole.specs.declared.AboveTop.{AboveTop}

abbrev pub pass_chain : StoredChain → Chain
pass_chain x = record { edge = pass_edge x.edge; more = x.more; near = cond x.has_near (Some x.near) None }

pub record ChainIs (c : Chain) (x : StoredChain) : Type 0 where
  pub is : c ≡ pass_chain x
  pub fits : Fits x.edge

unfoldable pub answer : Pass → StoredChain → StoredEdge → Result (Option Chain) AboveTop
answer p x y = cond (joins p x y) (cond (ltb TOP (joined_value p x y)) (Err above_top) (Ok (Some (pass_chain (longer p x y))))) (Ok None)
