-- The list after the fifth pass, of a line whose characters are those that numerals are made of, is one edge exactly for a numeral, whose value the edge has.
use Prim.Native.Nat.{ℕ}
use mathlib.Core.Path.{◌≡◌, refl, sym, ap, ◌∙◌}
use mathlib.Core.List.{List, [], ◌∷◌}
use mathlib.Core.Option.{some, some-injective}
use lib.ListN.{length}
use Rattle.table.specs.Table.{Table}
use Rattle.passes.specs.NumEdge.{NumEdge}
use Rattle.passes.specs.Characters.{first_list}
use Rattle.passes.specs.Chains.{from, chains}
use Rattle.passes.specs.Passes.{Chain, begin, next, G1, G2, G3, G4, D1, after, chains_of, edges_of, through, fifth_list}
use Rattle.table_grammar.specs.Row.{one, ◌<>>◌}
use Rattle.table_grammar.proofs.ChainParts.{Along, Tiles}
use Rattle.table_grammar.specs.Grammar.{IsMember, division_text}
use Rattle.table_grammar.specs.Kinds.{Char, chars_of}
use Rattle.table_grammar.specs.TableGrammar.{kinds, Member, Reading}
use Rattle.table_grammar.proofs.Pieces.{members, member_chars, chars_members}
use Rattle.table_grammar.proofs.Readings.{Apart₄, along₄, members_found, division_chars, row_inj}
use Rattle.table_grammar.proofs.FourPasses.{MemberEdge, four_passes}
use Rattle.table_grammar.proofs.FifthPass.{Counts, one_chain_numeral, numeral_one_chain, member_counts}

module _ (t : Table) (w : List ℕ) where
  abbrev four : List NumEdge
  four = after G3 (after G2 (after G1 (after D1 (first_list t w))))

  -- one edge is a numeral's
  read : (s : List Char) (L : List Member) (l : List NumEdge) (e : NumEdge) → chars_of t.records w ≡ some s → members kinds s ≡ L → Along (IsMember kinds) (Apart₄ kinds) L
      → Tiles MemberEdge 0 L l (length w) → after G4 l ≡ e ∷ [] → (r : Reading t w) × Counts 0 r.division e (length w)
  unfolding after chains_of chains begin
  read s [] [] e y h A q g = absurd cc
  read s [] (b ∷ l) e y h A q g = absurd q
  read s (m ∷ L) [] e y h A q g = absurd q
  read s (m ∷ L) (b ∷ l) e y h A (j, R, q) g =
      let (d, N, f, C) = one_chain_numeral L l 0 j (length w) (one m) (begin b) e (member_counts 0 j m b R) A.0 A.1 A.2 q g in
      let whole : division_text d [] ≡ s = sym (division_chars kinds d []) ∙ ap (member_chars kinds) (f ∙ sym h) ∙ chars_members kinds s in
      (record { division = d; whole = rw whole y; rules = N }, C)

  pub is_read : (s : List Char) (e : NumEdge) → chars_of t.records w ≡ some s → fifth_list t w ≡ e ∷ [] → (r : Reading t w) × Counts 0 r.division e (length w)
  unfolding through
  is_read s e y h = read s (members kinds s) four e y refl (along₄ kinds s) (four_passes t.records w s y) h

  -- a numeral's list is one edge
  pub is_one : (r : Reading t w) → (e : NumEdge) × (fifth_list t w ≡ e ∷ []) × Counts 0 r.division e (length w)
  unfolding through after chains_of from
  is_one r =
      let q : Tiles MemberEdge 0 (r.division <>> []) four (length w) = rw (members_found kinds _ r.division r.rules refl) at (four_passes t.records w _ r.whole) in
      go four (numeral_one_chain r.division [] four 0 (length w) r.rules q)
    where
      go : (l : List NumEdge) → (c : Chain) × (j : ℕ) × (q : List NumEdge) × (chains begin (next G4) l ≡ from begin (next G4) c q) × Counts 0 r.division c.edge j × Tiles MemberEdge j [] q (length w)
          → (e : NumEdge) × (edges_of (chains begin (next G4) l) ≡ e ∷ []) × Counts 0 r.division e (length w)
      go l (c, j, [], h, C, q) = (c.edge, ap edges_of h, rw (← q) C)
      go l (c, j, e ∷ q, h, C, z) = absurd z

  -- two readings are the same division
  pub same_division : (x y : Reading t w) → x.division ≡ y.division
  same_division x y =
      let e : division_text x.division [] ≡ division_text y.division [] = some-injective _ _ (sym x.whole ∙ y.whole) in
      row_inj _ _ (sym (members_found kinds _ x.division x.rules e) ∙ members_found kinds _ y.division y.rules refl)
