-- Laws of a loop over the line's characters that stores their stored edges behind the lattice and adds their edges (`specs/Stages.antt`). No contract cites this file.
-- In order: a stored edge stored behind the lattice; no character; one character more, without and with a record. Assumes nothing.
use mathlib.Core.Path.{◌≡◌, refl, sym, ap, ◌∙◌, subst}
use mathlib.Core.Bool.{Bool}
use mathlib.Core.List.{List, [], ◌∷◌, ◌++◌}
use mathlib.Core.Option.{none}
use Prim.Native.Nat.{ℕ, suc, ◌+◌, ◌*◌, ◌≤◌, ◌<◌}
use native.Mathlib.Omega.{arith}
use lib.ListN.{length, length-drop, get_or, set, take, drop}
use lib.Seq.{sets, length-sets, take-set-le, drop-set-add}
use Rattle.text.specs.Text.{chars}
use Rattle.text.proofs.TextLaws.{chars_scalars}
use Rattle.table.specs.Table.{Record, find}
use Rattle.table.specs.declared.layout.NumProp.{NumProp}
use Rattle.table.specs.Index.{FoundAt}
use Rattle.table.specs.declared.index.RecordRun.{RecordRun}
use Rattle.pass_list.specs.StoredEdge.{StoredEdge, Fits}
use Rattle.pass_list.specs.Edges.{points_of}
use Rattle.pass_list.specs.Layout.{SIZE}
use Rattle.pass_list.specs.Stored.{record_bytes, stored_list_at}
use Rattle.pass_list.proofs.StoredLaws.{stored_edges_put}
use Rattle.edge.specs.Edge.{Edge}
use Rattle.lattice.specs.declared.Lattice.{Lattice}
use Rattle.lattice.specs.Lattice.{add, add_all}
use Rattle.lattice.specs.Kept.{Holds, END, SameBehind}
use Rattle.lattice.proofs.HoldsLaws.{add_all_append}
use Rattle.pass_edge.specs.Adding.{listed_of}
use Rattle.characters.specs.Initial.{records_in, Records}
use Rattle.characters.proofs.InitialLaws.{so_far_none, so_far_skip, so_far_more}
use Rattle.first_stages.specs.Five.{listed_stored, behind}
use Rattle.first_stages.proofs.five_passes.FrontLaws.{holds_front}
use Rattle.first_stages.proofs.five_passes.FiveLaws.{listed_append}
use Rattle.first_stages.specs.declared.chars.CharsAnswer.{CharsAnswer}
use Rattle.first_stages.specs.CharStage.{char_here, Adding}

-- ---- a stored edge stored behind the lattice
front_sets : (k : ℕ) (s : List ℕ) (i : ℕ) (bs : List ℕ) → k ≤ i → take k (sets s i bs) ≡ take k s
front_sets k s i [] h = refl
front_sets k s i (b ∷ bs) h = front_sets k (set s i b) (suc i) bs (omega arith) ∙ take-set-le k s i b h

behind_sets : (k : ℕ) (s : List ℕ) (i : ℕ) (bs : List ℕ) → drop k (sets s (k + i) bs) ≡ sets (drop k s) i bs
behind_sets k s i [] = refl
behind_sets k s i (b ∷ bs) =
    let e : suc (k + i) ≡ k + suc i = omega arith in
    ap (λ (j : ℕ). drop k (sets (set s (k + i) b) j bs)) e ∙ behind_sets k (set s (k + i) b) (suc i) bs ∙ ap (λ (l : List ℕ). sets l (suc i) bs) (drop-set-add k s i b)

module _ (s v : List ℕ) (n : ℕ) (x : StoredEdge) (stored : v ≡ sets s (END + n * SIZE) (record_bytes x)) where
  pub stored_holds : {l : Lattice} {es : List Edge} → Holds s l es → Holds v l es
  stored_holds q = holds_front s v (ap (take END) stored ∙ front_sets END s (END + n * SIZE) (record_bytes x) (omega arith)) (ap length stored ∙ length-sets s (END + n * SIZE) (record_bytes x)) q

  -- from v to u what is behind the lattice stayed
  pub stored_behind : (u : List ℕ) → Fits x → END + n * SIZE + SIZE ≤ length s → SameBehind v u → behind u (n + 1) ≡ behind s n ++ (x ∷ [])
  stored_behind u fits room frame =
      ap (λ (b : List ℕ). stored_list_at b 0 (n + 1)) (frame ∙ ap (drop END) stored ∙ behind_sets END s (n * SIZE) (record_bytes x))
      ∙ stored_edges_put (drop END s) n x fits (omega (arith, length-drop END s))

-- ---- no character
pub adding_none : (b : Bool) (line t : List ℕ) (rs : List Record) (s : List ℕ) (l : Lattice) → Adding b line t rs 0 s l s (record { lattice = l; count = 0 })
unfolding stored_list_at add_all
adding_none b line t rs s l = record { so_far = so_far_none (points_of b (chars line)) (chars line) t rs (drop END s); holds = λ es q. q }

-- ---- a turn: points count as b says, c stands at place k of the line, and the characters before it were added, from s with the lattice l to u, as f says
one_more_lem : (w t : List ℕ) (es : List Edge) (xs : List StoredEdge) (x : StoredEdge) → add (add_all es (listed_stored w t xs)) (listed_of w t x) ≡ add_all es (listed_stored w t (xs ++ (x ∷ [])))
unfolding add_all
one_more_lem w t es xs x = sym (ap (add_all es) (listed_append w t xs (x ∷ [])) ∙ add_all_append es (listed_stored w t xs) (listed_stored w t (x ∷ [])))

module _ (b : Bool) (line t : List ℕ) (all : RecordRun) (ok : Records t all) (k c : ℕ) (inside : k < length (chars line)) (here : get_or (chars line) k 0 ≡ c) (s : List ℕ) (l : Lattice) (u : List ℕ) (f : CharsAnswer)
    (a : Adding b line t (records_in t all) k s l u f) where
  pub adding_skip : find (records_in t all) c ≡ none → Adding b line t (records_in t all) (k + 1) s l u f
  adding_skip e = record { so_far = so_far_skip t all ok (points_of b (chars line)) (chars line) (chars_scalars line) k c inside here f.count (drop END u) a.so_far e; holds = a.holds }

  pub adding_more : (p : NumProp) (at : ℕ) → FoundAt t (records_in t all) c p at → (v : List ℕ) (m : Lattice) → behind v (f.count + 1) ≡ behind u f.count ++ (char_here b line t p at k c ∷ [])
      → ((es : List Edge) → Holds u f.lattice es → Holds v m (add es (listed_of (chars line) t (char_here b line t p at k c))))
      → Adding b line t (records_in t all) (k + 1) s l v (record { lattice = m; count = f.count + 1 })
  adding_more p at found v m put g =
      let x = char_here b line t p at k c in
      let before = behind u f.count in
      record {
        so_far = so_far_more t all ok (points_of b (chars line)) (chars line) (chars_scalars line) k c inside here f.count (drop END u) a.so_far p at (drop END v) found put;
        holds = λ es q. subst (λ (xs : List StoredEdge). Holds v m (add_all es (listed_stored (chars line) t xs))) (sym put)
            (subst (Holds v m) (one_more_lem (chars line) t es before x) (g (add_all es (listed_stored (chars line) t before)) (a.holds es q)));
      }
