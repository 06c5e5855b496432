-- `edge::numeric::fields_at` meets its contract: the fields end within the slice (`Within`), and each is read where the definition reads it. Assumes nothing.
use Rattle.edge.proofs.LayoutLaws.{told, orig_within, length_within}
use Rattle.edge.proofs.numeric.ReadLaws.{inside, value_s_is, value_s_within, decimals_within, decimals_there, fields_read}
use Rattle.edge.specs.Layout.{bit, stands, fraction_at, base_at, mult_at, script_at}
use Rattle.edge.specs.View.{part_if, number_if, byte_if}
use Prim.Native.Nat.{ℕ, ◌+◌, ◌*◌}
use borrow.Author.Rules.{rules}
use mathlib.Core.Path.{◌≡◌, refl, sym, ◌∙◌}
use mathlib.Core.Bool.{true}
use lib.ListN.{get_or}
use Rattle.fields.proofs.FieldsLaws.{le_at-one}
use native.Mathlib.Omega.{arith}
use Rattle.edge.proofs.numeric.fields_at.Goals as goal

-- where the code looks for script, value_s and the count of decimals: value stands at v, script has k bytes and value_s l
abbrev script_from : ℕ → ℕ → ℕ
script_from m v = mult_at m v + 8 * bit 4 m

abbrev value_s_from : ℕ → ℕ → ℕ → ℕ
value_s_from m v k = script_from m v + 2 * bit 5 m + k

abbrev decimals_from : ℕ → ℕ → ℕ → ℕ → ℕ
decimals_from m v k l = value_s_from m v k + 2 * bit 8 m + l

pub text_at-orig-requires : goal.text_at-orig-requires
text_at-orig-requires c = orig_within _ _ _ _ c.requires

pub overflow_add-value : goal.overflow_add-value
overflow_add-value c = let w = inside _ _ _ c.text_at-orig.ensures c.requires in omega arith

pub overflow_add-fraction : goal.overflow_add-fraction
overflow_add-fraction c = let w = inside _ _ _ c.text_at-orig.ensures c.requires in omega arith

pub overflow_add-base : goal.overflow_add-base
overflow_add-base c = let w = inside _ _ _ c.text_at-orig.ensures c.requires in omega arith

pub overflow_add-multiplier : goal.overflow_add-multiplier
overflow_add-multiplier c = let w = inside _ _ _ c.text_at-orig.ensures c.requires in omega arith

pub overflow_add-script_at : goal.overflow_add-script_at
unfolding script_at
overflow_add-script_at c = let w = inside _ _ _ c.text_at-orig.ensures c.requires in omega arith

pub if_bit-script-requires-clause-readable : goal.if_bit-script-requires-clause-readable
unfolding script_at
if_bit-script-requires-clause-readable c = λ on. let room = length_within _ _ _ refl ((inside _ _ _ c.text_at-orig.ensures c.requires).script on) in search rules

pub overflow_add-value_s_at : goal.overflow_add-value_s_at
overflow_add-value_s_at c =
    let v = c.text_at-orig.result.at.0 + c.text_at-orig.result.len in
    let script : c.if_bit-script.result ≡ part_if (stands 5 c.args.map) c.args.s.now (script_from c.args.map v) = told _ (λ on. search (rules, c.if_bit-script.ensures.there on)) c.if_bit-script.ensures.absent in
    omega (arith, value_s_within _ _ _ c.text_at-orig.ensures script c.requires)

pub overflow_add-value_s_at-2 : goal.overflow_add-value_s_at-2
overflow_add-value_s_at-2 c =
    let v = c.text_at-orig.result.at.0 + c.text_at-orig.result.len in
    let script : c.if_bit-script.result ≡ part_if (stands 5 c.args.map) c.args.s.now (script_from c.args.map v) = told _ (λ on. search (rules, c.if_bit-script.ensures.there on)) c.if_bit-script.ensures.absent in
    omega (arith, value_s_within _ _ _ c.text_at-orig.ensures script c.requires)

pub if_bit-value_s-requires-clause-readable : goal.if_bit-value_s-requires-clause-readable
if_bit-value_s-requires-clause-readable c = λ on.
    let v = c.text_at-orig.result.at.0 + c.text_at-orig.result.len in
    let script : c.if_bit-script.result ≡ part_if (stands 5 c.args.map) c.args.s.now (script_from c.args.map v) = told _ (λ on. search (rules, c.if_bit-script.ensures.there on)) c.if_bit-script.ensures.absent in
    let room = length_within _ _ _ (value_s_is _ _ _ script) ((inside _ _ _ c.text_at-orig.ensures c.requires).value_s on) in
    search rules

pub overflow_add-decimals_at : goal.overflow_add-decimals_at
overflow_add-decimals_at c =
    let v = c.text_at-orig.result.at.0 + c.text_at-orig.result.len in
    let script : c.if_bit-script.result ≡ part_if (stands 5 c.args.map) c.args.s.now (script_from c.args.map v) = told _ (λ on. search (rules, c.if_bit-script.ensures.there on)) c.if_bit-script.ensures.absent in
    let value_s : c.if_bit-value_s.result ≡ part_if (stands 8 c.args.map) c.args.s.now (value_s_from c.args.map v c.if_bit-script.result.len) = told _ (λ on. search (rules, c.if_bit-value_s.ensures.there on)) c.if_bit-value_s.ensures.absent in
    omega (arith, decimals_within _ _ _ c.text_at-orig.ensures script value_s c.requires)

pub overflow_add-decimals_at-2 : goal.overflow_add-decimals_at-2
overflow_add-decimals_at-2 c =
    let v = c.text_at-orig.result.at.0 + c.text_at-orig.result.len in
    let script : c.if_bit-script.result ≡ part_if (stands 5 c.args.map) c.args.s.now (script_from c.args.map v) = told _ (λ on. search (rules, c.if_bit-script.ensures.there on)) c.if_bit-script.ensures.absent in
    let value_s : c.if_bit-value_s.result ≡ part_if (stands 8 c.args.map) c.args.s.now (value_s_from c.args.map v c.if_bit-script.result.len) = told _ (λ on. search (rules, c.if_bit-value_s.ensures.there on)) c.if_bit-value_s.ensures.absent in
    omega (arith, decimals_within _ _ _ c.text_at-orig.ensures script value_s c.requires)

pub if_bit-requires-clause-readable : goal.if_bit-requires-clause-readable
if_bit-requires-clause-readable c = λ on. let room = (inside _ _ _ c.text_at-orig.ensures c.requires).value on in search rules

pub if_bit-requires-2-clause-readable : goal.if_bit-requires-2-clause-readable
if_bit-requires-2-clause-readable c = λ on. let room = (inside _ _ _ c.text_at-orig.ensures c.requires).fraction on in search rules

pub if_bit-requires-3-clause-readable : goal.if_bit-requires-3-clause-readable
if_bit-requires-3-clause-readable c = λ on. let room = (inside _ _ _ c.text_at-orig.ensures c.requires).fraction on in search rules

pub if_bit-requires-4-clause-readable : goal.if_bit-requires-4-clause-readable
if_bit-requires-4-clause-readable c = λ on. let room = (inside _ _ _ c.text_at-orig.ensures c.requires).base on in search rules

pub if_bit-requires-5-clause-readable : goal.if_bit-requires-5-clause-readable
if_bit-requires-5-clause-readable c = λ on. let room = (inside _ _ _ c.text_at-orig.ensures c.requires).mult on in search rules

pub if_bit-requires-6-clause-readable : goal.if_bit-requires-6-clause-readable
if_bit-requires-6-clause-readable c = λ on.
    let v = c.text_at-orig.result.at.0 + c.text_at-orig.result.len in
    let script : c.if_bit-script.result ≡ part_if (stands 5 c.args.map) c.args.s.now (script_from c.args.map v) = told _ (λ on. search (rules, c.if_bit-script.ensures.there on)) c.if_bit-script.ensures.absent in
    let value_s : c.if_bit-value_s.result ≡ part_if (stands 8 c.args.map) c.args.s.now (value_s_from c.args.map v c.if_bit-script.result.len) = told _ (λ on. search (rules, c.if_bit-value_s.ensures.there on)) c.if_bit-value_s.ensures.absent in
    let room = decimals_there _ _ _ c.text_at-orig.ensures script value_s c.requires on in
    search rules

pub returns : goal.returns
returns c =
    let v = c.text_at-orig.result.at.0 + c.text_at-orig.result.len in
    let script : c.if_bit-script.result ≡ part_if (stands 5 c.args.map) c.args.s.now (script_from c.args.map v) = told _ (λ on. search (rules, c.if_bit-script.ensures.there on)) c.if_bit-script.ensures.absent in
    let value_s : c.if_bit-value_s.result ≡ part_if (stands 8 c.args.map) c.args.s.now (value_s_from c.args.map v c.if_bit-script.result.len) = told _ (λ on. search (rules, c.if_bit-value_s.ensures.there on)) c.if_bit-value_s.ensures.absent in
    let n1 : c.if_bit.result ≡ number_if (stands 1 c.args.map) c.args.s.now (v) = told _ (λ on. search (rules, c.if_bit.ensures.there on)) c.if_bit.ensures.absent in
    let n2 : c.if_bit-2.result ≡ number_if (stands 2 c.args.map) c.args.s.now (fraction_at c.args.map v) = told _ (λ on. search (rules, c.if_bit-2.ensures.there on)) c.if_bit-2.ensures.absent in
    let n3 : c.if_bit-3.result ≡ number_if (stands 2 c.args.map) c.args.s.now (fraction_at c.args.map v + 8) = told _ (λ on. search (rules, c.if_bit-3.ensures.there on)) c.if_bit-3.ensures.absent in
    let n4 : c.if_bit-4.result ≡ number_if (stands 3 c.args.map) c.args.s.now (base_at c.args.map v) = told _ (λ on. search (rules, c.if_bit-4.ensures.there on)) c.if_bit-4.ensures.absent in
    let n5 : c.if_bit-5.result ≡ number_if (stands 4 c.args.map) c.args.s.now (mult_at c.args.map v) = told _ (λ on. search (rules, c.if_bit-5.ensures.there on)) c.if_bit-5.ensures.absent in
    let at = decimals_from c.args.map v c.if_bit-script.result.len c.if_bit-value_s.result.len in
    let byte : (on : stands 9 c.args.map ≡ true) → c.if_bit-6.result ≡ get_or c.args.s.now at 0 = λ on. search (rules, c.if_bit-6.ensures.there on) in
    let n6 : c.if_bit-6.result ≡ byte_if (stands 9 c.args.map) c.args.s.now at =
    told _ (λ on. let room = decimals_there _ _ _ c.text_at-orig.ensures script value_s c.requires on in byte on ∙ sym (le_at-one _ _ (omega arith))) c.if_bit-6.ensures.absent in
    fields_read _ _ _ c.text_at-orig.ensures script value_s n1 n2 n3 n4 n5 n6
