-- G6's edges are edges of the call, where the passes' edges are. No contract cites this file.
-- In order: texts with a sign; the edge for one sign; for all; the lattice with them. Assumes nothing.
use mathlib.Core.Path.{◌≡◌, refl, sym, ap, ◌∙◌}
use mathlib.Core.Bool.{Bool, true, false, cond, ◌&&◌}
use mathlib.Core.List.{List, [], ◌∷◌, ◌++◌, map}
use mathlib.Core.Option.{Option, none, some, some-ne-none}
use Prim.Native.Nat.{ℕ, zero, suc, ◌-◌, ◌≤◌, ◌<◌}
use native.Mathlib.Omega.{arith}
use lib.ListN.{length, length-append}
use lib.Dec.{leb, ltb}
use borrow.Author.Tests.{lt-ltb, ltb-true}
use Rattle.text.specs.Sequence.{encode}
use Rattle.text.specs.Text.{chars, is_nil, well_formed, encodes}
use Rattle.text.proofs.RowLaws.{and-true}
use Rattle.text.proofs.TextLaws.{left_append, encodes_well_formed}
use Rattle.table.specs.Table.{Text, Table}
use Rattle.passes.specs.NumEdge.{NumEdge, has}
use Rattle.edge.specs.Edge.{Edge, Numeric}
use Rattle.edge.specs.Check.{allowed, each, sound_numeric, sound}
use Rattle.lattice.specs.Lattice.{add_all}
use Rattle.pass_list.specs.StoredEdge.{nil, cons}
use Rattle.numbers.specs.CallEdge.{CallEdge, CallEdges}
use Rattle.numbers.proofs.stages.CallLaws.{add_all_call}
use Rattle.passes.specs.DecimalPasses.{DecimalEdge}
use Rattle.numbers.specs.Listed.{listed_with, listed_edge, listed_by, listed_decimal}
use Rattle.numbers.specs.Signs.{ends_at, sign_edge, signed, signs}

-- ---- texts with a sign: c is its ASCII byte
formed_append : (s t : Text) → well_formed s ≡ true → well_formed t ≡ true → well_formed (s ++ t) ≡ true
formed_append s t h k = ap is_nil (left_append s h t) ∙ k

pub record SignByte (c : ℕ) : Type 0 where
  pub alone : well_formed (c ∷ []) ≡ true
  pub behind : well_formed (32 ∷ c ∷ []) ≡ true

minus_byte : SignByte 45
unfolding encodes encode
minus_byte = record { alone = encodes_well_formed (45 ∷ []) (refl, tt); behind = encodes_well_formed (32 ∷ 45 ∷ []) (refl, (refl, tt)) }

plus_byte : SignByte 43
unfolding encodes encode
plus_byte = record { alone = encodes_well_formed (43 ∷ []) (refl, tt); behind = encodes_well_formed (32 ∷ 43 ∷ []) (refl, (refl, tt)) }

-- ---- the edge for one sign: value and decimals are as the edge before it is listed
module _ {n : ℕ} (e : NumEdge) (value decimals : Option ℕ) (h : CallEdge n (listed_with value decimals e)) where
  record Parts : Type 0 where
    pub ordered : e.start < e.end
    pub inside : leb e.end n ≡ true
    pub type : well_formed e.type ≡ true
    pub txt : well_formed e.txt ≡ true

  parts : Parts
  unfolding sound
  parts =
      let whole = (and-true ((ltb e.start e.end && leb e.end n) && (well_formed e.type && well_formed e.txt)) (each sound_numeric (listed_with value decimals e).num) h.legal.content).0 in
      let two = and-true (ltb e.start e.end && leb e.end n) (well_formed e.type && well_formed e.txt) whole in
      let places = and-true (ltb e.start e.end) (leb e.end n) two.0 in
      let texts = and-true (well_formed e.type) (well_formed e.txt) two.1 in
      record { ordered = ltb-true e.start e.end places.0; inside = places.1; type = texts.0; txt = texts.1 }

  record Lengths : Type 0 where
    pub start : e.start < 65536
    pub end : e.end < 65536
    pub type : length e.type ≤ 60
    pub txt : length e.txt ≤ 256

  lengths : Lengths
  lengths = let s = h.short _ refl in record { start = h.legal.fits.start; end = h.legal.fits.end; type = s.type; txt = s.txt }

  sign_call : (c : ℕ) → SignByte c → (m : Text) → CallEdge n (sign_edge (e.start - length (chars m)) c e)
  unfolding sound allowed
  sign_call c b m =
      let p = parts in
      let l = lengths in
      let less : e.start - length (chars m) < e.end = omega arith in
      let never : (x : Numeric) → (sign_edge (e.start - length (chars m)) c e).num ≡ some x → ⊥ = λ x q. some-ne-none x (sym q) in
      record {
        legal = record {
          fits = record { start = omega arith; end = l.end; type = omega (arith, length-append e.type (32 ∷ c ∷ [])); txt = omega arith; num = λ x q. absurd (never x q) };
          map = refl;
          content = rw (lt-ltb (e.start - length (chars m)) e.end less, p.inside, formed_append e.type (32 ∷ c ∷ []) p.type b.behind, formed_append (c ∷ []) e.txt b.alone p.txt);
        };
        short = λ x q. absurd (never x q);
        value = λ x v q k g. absurd (never x q);
      }

  signed_call : (w : List ℕ) (c : ℕ) → SignByte c → (ms : List Text) → CallEdges n (signed w c e ms)
  unfolding signed
  signed_call w c b [] = nil
  signed_call w c b (m ∷ ms) = go (ends_at w e.start m) (signed_call w c b ms)
    where
      go : (t : Bool) → CallEdges n (signed w c e ms) → CallEdges n (cond t (sign_edge (e.start - length (chars m)) c e ∷ signed w c e ms) (signed w c e ms))
      go true k = cons (sign_call c b m) k
      go false k = k

-- ---- the edges for all
every_append : {n : ℕ} (es fs : List Edge) → CallEdges n es → CallEdges n fs → CallEdges n (es ++ fs)
every_append [] fs nil k = k
every_append (e ∷ es) fs (cons p h) k = cons p (every_append es fs h k)

-- an edge is listed with a value and its decimals
listed_call : {n : ℕ} (d : DecimalEdge) → CallEdge n (listed_decimal d) → (value : Option ℕ) × (decimals : Option ℕ) × CallEdge n (listed_with value decimals d.edge)
unfolding listed_decimal listed_edge
listed_call {n} d h = go d.decimals h
  where
    go : (k : ℕ) → CallEdge n (listed_by k d.edge) → (value : Option ℕ) × (decimals : Option ℕ) × CallEdge n (listed_with value decimals d.edge)
    go zero q = (_, none, q)
    go (suc k) q = (_, some (suc k), q)

-- of is the passes' edge of each
pub signs_call : {n : ℕ} {A : Type 0} (of : A → DecimalEdge) (t : Table) (w : List ℕ) (l : List A) → CallEdges n (map (λ (x : A). listed_decimal (of x)) l)
    → CallEdges n (signs t w (map (λ (x : A). (of x).edge) l))
unfolding signs
signs_call of t w [] nil = nil
signs_call {n} {A} of t w (x ∷ l) (cons p h) = every_append _ (signs t w (map (λ (x : A). (of x).edge) l)) (go (has (of x).edge.value)) (signs_call of t w l h)
  where
    go : (b : Bool) → CallEdges n (cond b (signed w 45 (of x).edge t.minus_signs ++ signed w 43 (of x).edge t.plus_signs) [])
    go true = let (v, k, q) = listed_call (of x) p in every_append _ _ (signed_call (of x).edge v k q w 45 minus_byte t.minus_signs) (signed_call (of x).edge v k q w 43 plus_byte t.plus_signs)
    go false = nil

-- so the lattice's edges stay such
pub add_signs_call : {n : ℕ} {fs : List Edge} {A : Type 0} (of : A → DecimalEdge) (t : Table) (w : List ℕ) (l : List A) → CallEdges n fs → CallEdges n (map (λ (x : A). listed_decimal (of x)) l)
    → CallEdges n (add_all fs (signs t w (map (λ (x : A). (of x).edge) l)))
add_signs_call of t w l h k = add_all_call h (signs_call of t w l k)
