-- `edge_write::numeric::fields_past` meets its contract: the offsets are the definition's, one behind the other. Assumes nothing.
use mathlib.Core.Path.{◌≡◌, ap, ◌∙◌}
use Prim.Native.Nat.{ℕ, ◌+◌}
use Rattle.edge.specs.declared.NumFields.{NumFields}
use Rattle.edge.specs.Layout.{bit, stands, script_at}
use Rattle.edge.specs.Write.{text_past_if, texts_past, fields_past}
use Rattle.edge_write.proofs.numeric.fields_past.Goals as goal

-- the offsets, each by the one before it
ends : (d : NumFields) (at : ℕ) {a b r : ℕ} → a ≡ script_at d.map (at + 2 + d.orig.len) → b ≡ text_past_if (stands 5 d.map) d.script.len a → r ≡ text_past_if (stands 8 d.map) d.value_s.len b → r + bit 9 d.map ≡ fields_past d at
unfolding fields_past texts_past
ends d at p q e = ap (λ (n : ℕ). n + bit 9 d.map) (e ∙ ap (text_past_if (stands 8 d.map) d.value_s.len) (q ∙ ap (text_past_if (stands 5 d.map) d.script.len) p))

pub returns : goal.returns
returns c = ends _ _ c.script_at-script.ensures.0 c.text_past_if-value_s.ensures.0 c.text_past_if-decimals.ensures.0
