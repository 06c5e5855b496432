-- `edge::next::fields_end` meets its contract: the offsets are the definition's, one behind the other. Assumes nothing.
use mathlib.Core.Path.{◌≡◌, ap, ◌∙◌}
use mathlib.Core.List.{List}
use Prim.Native.Nat.{ℕ, ◌+◌}
use Rattle.edge.specs.Layout.{bit, stands, string_end, string_end_if, script_at, value_sAt, decimals_at, fields_end}
use Prim.Native.Nat.{◌≤◌}
use native.Mathlib.Omega.{arith}
use borrow.Author.Rules.{rules}
use lib.ListN.{length}
use Rattle.edge.proofs.LayoutLaws.{told, either}
use Rattle.edge.proofs.next.fields_end.Goals as goal

-- the offsets, each by the one before it
ends : (m : ℕ) (s : List ℕ) (at : ℕ) {a b d r : ℕ} → a ≡ string_end s at → b ≡ script_at m a → d ≡ string_end_if (stands 5 m) s b → r ≡ string_end_if (stands 8 m) s d → r + bit 9 m ≡ fields_end m s at
unfolding fields_end decimals_at value_sAt
ends m s at p q e f = ap (λ (n : ℕ). n + bit 9 m) (f ∙ ap (string_end_if (stands 8 m) s) (e ∙ ap (string_end_if (stands 5 m) s) (q ∙ ap (script_at m) p)))

pub if_bit-value_s-requires-clause-readable : goal.if_bit-value_s-requires-clause-readable
if_bit-value_s-requires-clause-readable c = λ on. let room : c.script_at-script.result ≤ length c.args.s.now + 1000000 = omega arith in search rules

pub if_bit-decimals-requires-clause-readable : goal.if_bit-decimals-requires-clause-readable
if_bit-decimals-requires-clause-readable c = λ on.
    let first : c.if_bit-value_s.result ≤ c.script_at-script.result + 65537 =
    either (stands 5 c.args.map) (λ on. search (rules, c.if_bit-value_s.ensures.there on)) (λ off. let e = c.if_bit-value_s.ensures.absent off in omega arith) in
    let room : c.if_bit-value_s.result ≤ length c.args.s.now + 1000000 = omega arith in
    search rules

pub overflow_add-result : goal.overflow_add-result
overflow_add-result c =
    let first : c.if_bit-value_s.result ≤ c.script_at-script.result + 65537 =
    either (stands 5 c.args.map) (λ on. search (rules, c.if_bit-value_s.ensures.there on)) (λ off. let e = c.if_bit-value_s.ensures.absent off in omega arith) in
    let second : c.if_bit-decimals.result ≤ c.if_bit-value_s.result + 65537 =
    either (stands 8 c.args.map) (λ on. search (rules, c.if_bit-decimals.ensures.there on)) (λ off. let e = c.if_bit-decimals.ensures.absent off in omega arith) in
    omega arith

pub returns : goal.returns
returns c =
    let value_s : c.if_bit-value_s.result ≡ string_end_if (stands 5 c.args.map) c.args.s.now c.script_at-script.result = told _ (λ on. search (rules, c.if_bit-value_s.ensures.there on)) c.if_bit-value_s.ensures.absent in
    let decimals : c.if_bit-decimals.result ≡ string_end_if (stands 8 c.args.map) c.args.s.now c.if_bit-value_s.result = told _ (λ on. search (rules, c.if_bit-decimals.ensures.there on)) c.if_bit-decimals.ensures.absent in
    ends _ _ _ c.string_end.ensures.0 c.script_at-script.ensures.0 value_s decimals
