-- "Use it to carry the grammar over" (02, S-11): demand 3 (00) for every table that differs from the plain one by a renaming, and lines of the characters that stand for the
-- sixteen. Where such a line is not refused 7, the list after the fifth pass is one edge over the whole line exactly when the line, its characters read as the plain ones, is
-- a numeral; then any two readings are the same division, and the edge's f64 is, as a whole number, the reading's value.
-- The words are defined in `proofs/Demand3.antt` (Spells, SettledBy) and in `passes`, specs/Renaming.antt. Assumes nothing.
use Prim.Native.Nat.{ℕ}
use mathlib.Core.Path.{◌≡◌, refl, sym, ap, ◌∙◌}
use mathlib.Core.List.{List, [], ◌∷◌, map}
use mathlib.Core.Option.{none}
use lib.ListN.{length, length-map}
use Rattle.table.specs.Table.{Table}
use Rattle.text.specs.Text.{chars, encodes}
use Rattle.passes.specs.NumEdge.{NumEdge}
use Rattle.passes.specs.Passes.{fifth_list, above_at}
use Rattle.passes.specs.Moved.{with_text}
use Rattle.passes.specs.Renaming.{Renaming, but_text}
use Rattle.passes.proofs.Twins.{twin_fifth, twin_above}
use Rattle.grammar.specs.Plain.{Char, code_point, plain}
use Rattle.grammar.proofs.Demand3.{Spells, OneEdgeBy, SettledBy, line_of, OneEdge, Settled, demand3}
use Rattle.grammar.proofs.OtherTable.{twin_plain, none_remaining}

-- a list that is the same as one edge but for orig_txt is one edge
one_but_text : (l l' : List NumEdge) (e : NumEdge) → but_text l ≡ but_text l' → l ≡ e ∷ [] → (e' : NumEdge) × (l' ≡ e' ∷ []) × (with_text [] e' ≡ with_text [] e)
one_but_text l [] e h k = let q : with_text [] e ∷ [] ≡ [] = sym (ap but_text k) ∙ h in absurd cc
one_but_text l (e' ∷ []) e h k = let q : with_text [] e ∷ [] ≡ with_text [] e' ∷ [] = sym (ap but_text k) ∙ h in (e', refl, cc)
one_but_text l (e' ∷ e'' ∷ l') e h k =
    let q : with_text [] e ∷ [] ≡ with_text [] e' ∷ with_text [] e'' ∷ but_text l' = sym (ap but_text k) ∙ h in absurd cc

module _ (f : ℕ → ℕ) (u : Table) (R : Renaming f plain u) where
  -- the character that stands for one of the sixteen
  abbrev pub stands_for : Char → ℕ
  stands_for c = f (code_point c)

  -- the line, and its plain twin, for which demand 3 is shown
  module _ (line : List ℕ) (w : List Char) (is : Spells stands_for line w) (fine : above_at u (chars line) ≡ none) where
    abbrev plain_line_lem : List ℕ
    plain_line_lem = encodes (map code_point w)

    same_list : but_text (fifth_list u (chars line)) ≡ but_text (fifth_list plain (chars plain_line_lem))
    same_list = rw (is.characters, (line_of w).characters, ← twin_plain f w) (twin_fifth f plain u R (map code_point w) (none_remaining u w))

    same_length : length (chars line) ≡ length (chars plain_line_lem)
    same_length = rw (is.characters, (line_of w).characters, length-map w stands_for) (sym (length-map w code_point))

    same_above : above_at u (chars line) ≡ above_at plain (chars plain_line_lem)
    same_above = rw (is.characters, (line_of w).characters, ← twin_plain f w) (twin_above f plain u R (map code_point w) (none_remaining u w))

    settled : Settled plain_line_lem w
    settled = demand3 plain_line_lem w (line_of w) (sym same_above ∙ fine)

    to_plain : (e : NumEdge) → OneEdgeBy u line e → (e' : NumEdge) × OneEdge plain_line_lem e' × (e'.value ≡ e.value)
    to_plain e o =
        let (e', q, s) = one_but_text (fifth_list u (chars line)) (fifth_list plain (chars plain_line_lem)) e same_list o.list in
        (e', record { list = q; from_start = ap (λ (x : NumEdge). x.start) s ∙ o.from_start; to_end = ap (λ (x : NumEdge). x.end) s ∙ o.to_end ∙ same_length }, ap (λ (x : NumEdge). x.value) s)

    from_plain : (e : NumEdge) → OneEdge plain_line_lem e → (e' : NumEdge) × OneEdgeBy u line e'
    from_plain e o =
        let (e', q, s) = one_but_text (fifth_list plain (chars plain_line_lem)) (fifth_list u (chars line)) e (sym same_list) o.list in
        (e', record { list = q; from_start = ap (λ (x : NumEdge). x.start) s ∙ o.from_start; to_end = ap (λ (x : NumEdge). x.end) s ∙ o.to_end ∙ sym same_length })

    pub carried_over : SettledBy u line w
    carried_over = record {
      one_edge = (
        λ h. let (e, o, v) = to_plain h.0 h.1 in settled.one_edge.0 (e, o),
        λ r. let (e, o) = settled.one_edge.1 r in from_plain e o,
      );
      one_division = settled.one_division;
      same_value = λ e o r.
          let (e', o', v) = to_plain e o in
          let c = settled.same_value e' o' r in
          record { value = sym v ∙ c.value; within = c.within; float = c.float };
    }
