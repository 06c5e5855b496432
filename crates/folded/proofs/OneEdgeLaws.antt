-- Signs that count as the same give one edge (02, S-3). No contract cites this file.
-- In order: what a lattice has it keeps; the signs' edges; a sign listed twice. Assumes nothing.
use mathlib.Core.Path.{◌≡◌, refl, sym, ap, ◌∙◌}
use mathlib.Core.Bool.{Bool, true, false, cond, ◌||◌}
use mathlib.Core.List.{List, [], ◌∷◌, ◌++◌}
use Prim.Native.Nat.{ℕ, ◌-◌}
use lib.ListN.{length, length-map}
use borrow.Author.Tests.{eq-eqb}
use Rattle.text.specs.Text.{chars}
use Rattle.text.proofs.BytesLaws.{same_refl}
use Rattle.table.specs.Table.{Text}
use Rattle.passes.specs.NumEdge.{NumEdge}
use Rattle.edge.specs.Edge.{Edge}
use Rattle.lattice.specs.Lattice.{same_key, has, add, add_all}
use Rattle.lattice.proofs.HoldsLaws.{add_all_append}
use Rattle.numbers.specs.Folded.{fold, folded}
use Rattle.numbers.specs.Fractions.{stands_at}
use Rattle.numbers.specs.Signs.{ends_at, sign_edge, signed}

-- ---- what a lattice has it keeps
key_refl : (e : Edge) → same_key e e ≡ true
unfolding same_key
key_refl e = rw (eq-eqb e.start e.start refl, eq-eqb e.end e.end refl, same_refl e.txt, same_refl e.type)

has_snoc : (es : List Edge) (d e : Edge) → has (es ++ (d ∷ [])) e ≡ (has es e || (same_key d e || false))
unfolding has
has_snoc [] d e = refl
has_snoc (c ∷ es) d e = rw (has_snoc es d e) (go (same_key c e))
  where
    go : (b : Bool) → (b || (has es e || (same_key d e || false))) ≡ ((b || has es e) || (same_key d e || false))
    go true = refl
    go false = refl

keeps_add : (es : List Edge) (d e : Edge) → has es e ≡ true → has (add es d) e ≡ true
unfolding add
keeps_add es d e h = go (has es d)
  where
    go : (b : Bool) → has (cond b es (es ++ (d ∷ []))) e ≡ true
    go true = h
    go false = has_snoc es d e ∙ rw h

has_added : (es : List Edge) (e : Edge) → has (add es e) e ≡ true
unfolding add
has_added es e = go (has es e) refl
  where
    go : (b : Bool) → has es e ≡ b → has (cond b es (es ++ (e ∷ []))) e ≡ true
    go true h = h
    go false h = has_snoc es e e ∙ rw (h, key_refl e)

keeps_add_all : (es cs : List Edge) (e : Edge) → has es e ≡ true → has (add_all es cs) e ≡ true
unfolding add_all
keeps_add_all es [] e h = h
keeps_add_all es (c ∷ cs) e h = keeps_add_all (add es c) cs e (keeps_add es c e h)

add_there : (es : List Edge) (e : Edge) → has es e ≡ true → add es e ≡ es
unfolding add
add_there es e h = rw h

-- an edge added twice, or not at all
add_twice : (es before behind : List Edge) (d : Edge) (b : Bool)
    → add_all es (cond b (d ∷ (before ++ cond b (d ∷ behind) behind)) (before ++ cond b (d ∷ behind) behind)) ≡ add_all es (cond b (d ∷ (before ++ behind)) (before ++ behind))
unfolding add_all
add_twice es before behind d true =
    let fs = add es d in
    add_all_append fs before (d ∷ behind)
    ∙ ap (λ (gs : List Edge). add_all gs behind) (add_there (add_all fs before) d (keeps_add_all fs before d (has_added es d)))
    ∙ sym (add_all_append fs before behind)
add_twice es before behind d false = refl

-- ---- the signs' edges
-- markers and signs that count as one have one length
pub same_size : (m n : Text) → folded (chars m) ≡ folded (chars n) → length (chars m) ≡ length (chars n)
same_size m n e = sym (length-map (chars m) fold) ∙ ap length e ∙ length-map (chars n) fold

module _ (w : List ℕ) (c : ℕ) (e : NumEdge) where
  signed_append : (ms ns : List Text) → signed w c e (ms ++ ns) ≡ signed w c e ms ++ signed w c e ns
  unfolding signed
  signed_append [] ns = refl
  signed_append (m ∷ ms) ns = rw (signed_append ms ns) (go (ends_at w e.start m) (sign_edge (e.start - length (chars m)) c e))
    where
      go : (b : Bool) (d : Edge) → cond b (d ∷ (signed w c e ms ++ signed w c e ns)) (signed w c e ms ++ signed w c e ns) ≡ cond b (d ∷ signed w c e ms) (signed w c e ms) ++ signed w c e ns
      go true d = refl
      go false d = refl

  -- ---- a sign listed twice
  pub added_once : (m n : Text) (ms ns : List Text) (es : List Edge) → folded (chars m) ≡ folded (chars n) → ((p : ℕ) → stands_at w p n ≡ stands_at w p m)
      → add_all es (signed w c e (m ∷ (ms ++ (n ∷ ns)))) ≡ add_all es (signed w c e (m ∷ (ms ++ ns)))
  unfolding signed
  added_once m n ms ns es h s =
      rw (signed_append ms (n ∷ ns), signed_append ms ns, ← same_size m n h, s (e.start - length (chars m)))
      (add_twice es (signed w c e ms) (signed w c e ns) (sign_edge (e.start - length (chars m)) c e) (ends_at w e.start m))
