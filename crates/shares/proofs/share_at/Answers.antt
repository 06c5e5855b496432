-- `shares::share_at` meets its contract, by the bits 0, 7 and 2 of the map. Assumes nothing.
use Rattle.std.proofs.Common.{ap, not}
use mathlib.Core.Path.{sym, ◌∙◌}
use borrow.Author.Tests.{not-false}
use Rattle.edge.proofs.CheckLaws.{head_within, view_fields}
use Rattle.shares.proofs.ListingLaws.{share_regular, share_inactive, share_without, share_there}
use Rattle.shares.proofs.share_at.Goals as goal

pub edge_at-e-requires : goal.edge_at-e-requires
edge_at-e-requires c = head_within _ _ _ c.requires

pub returns-then-not-bit : goal.returns-then-not-bit
returns-then-not-bit c = share_regular _ _ c.edge_at-e.ensures c.bit.ensures (ap not c.if-not-bit.true)

pub returns-then-not-bit-2 : goal.returns-then-not-bit-2
returns-then-not-bit-2 c = share_inactive _ _ c.edge_at-e.ensures c.bit.ensures (ap not c.if-not-bit.false) c.bit-2.ensures (ap not c.if-not-bit-2.true)

pub returns-then-not-bit-3 : goal.returns-then-not-bit-3
returns-then-not-bit-3 c = share_without _ _ c.edge_at-e.ensures c.bit.ensures (ap not c.if-not-bit.false) c.bit-2.ensures (ap not c.if-not-bit-2.false) c.bit-3.ensures (ap not c.if-not-bit-3.true)

pub fields_at-d-requires : goal.fields_at-d-requires
fields_at-d-requires c = view_fields _ _ _ _ c.edge_at-e.ensures c.requires (sym c.bit.ensures ∙ not-false _ (ap not c.if-not-bit.false))

pub returns : goal.returns
returns c =
    share_there _ _ c.edge_at-e.ensures c.bit.ensures (ap not c.if-not-bit.false) c.bit-2.ensures (ap not c.if-not-bit-2.false) c.bit-3.ensures
    (ap not c.if-not-bit-3.false) c.fields_at-d.ensures
