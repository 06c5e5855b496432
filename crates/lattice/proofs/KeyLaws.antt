-- Laws of `same_key` and `key`: equal edges are those of equal keys, and no key begins another. No contract cites this file.
-- In order: numbers and strings at the front of a list; keys. Assumes nothing.
use mathlib.Core.Path.{◌≡◌, sym, ap, ◌∙◌}
use mathlib.Core.Bool.{Bool, true, false, ◌&&◌}
use mathlib.Core.List.{List, ◌++◌, append_assoc}
use Prim.Native.Nat.{ℕ, ◌+◌, ◌<◌}
use native.Mathlib.Omega.{arith}
use lib.ListN.{length, take, drop, length-append}
use lib.Seq.{take-append_seam, drop-append_seam}
use lib.Dec.{eqb}
use borrow.Author.Tests.{eq-eqb, eqb-true}
use Rattle.text.specs.Bytes.{same}
use Rattle.text.proofs.BytesLaws.{same_refl, same_true}
use Rattle.text.proofs.RowLaws.{and-true}
use Rattle.fields.specs.Fields.{bytes_of}
use Rattle.fields.proofs.FieldsLaws.{bytes_of-injective, length-bytes_of}
use Rattle.edge.specs.Edge.{Edge, Text, str}
use Rattle.edge.proofs.WriteLaws.{length_str}
use Rattle.lattice.specs.Lattice.{same_key}
use Rattle.lattice.specs.Kept.{Fits, key}

-- ---- at the front of a list
pub cut : (a b x y : List ℕ) → length a ≡ length b → a ++ x ≡ b ++ y → (a ≡ b) × (x ≡ y)
cut a b x y l e = (
  sym (take-append_seam a x) ∙ ap (take (length a)) e ∙ ap (λ (k : ℕ). take k (b ++ y)) l ∙ take-append_seam b y,
  sym (drop-append_seam a x) ∙ ap (drop (length a)) e ∙ ap (λ (k : ℕ). drop k (b ++ y)) l ∙ drop-append_seam b y,
)

number_cut : (n m : ℕ) (x y : List ℕ) → n < 65536 → m < 65536 → bytes_of 2 n ++ x ≡ bytes_of 2 m ++ y → (n ≡ m) × (x ≡ y)
number_cut n m x y h k e =
    let p = cut (bytes_of 2 n) (bytes_of 2 m) x y (length-bytes_of 2 n ∙ sym (length-bytes_of 2 m)) e in
    (bytes_of-injective 2 h k p.0, p.1)

string_cut : (s t x y : List ℕ) → length s < 65536 → length t < 65536 → str s ++ x ≡ str t ++ y → (s ≡ t) × (x ≡ y)
unfolding str
string_cut s t x y h k e =
    let p = number_cut (length s) (length t) (s ++ x) (t ++ y) h k (simp append_assoc at e) in
    cut s t x y p.0 p.1

-- ---- keys
both : (a b : Bool) → a ≡ true → b ≡ true → a && b ≡ true
both true b p q = q
both false b p q = p

same_is : {s t : Text} → s ≡ t → same s t ≡ true
same_is {s} {t} e = rw e (same_refl t)

pub length_key : (e : Edge) → length (key e) ≡ 8 + length e.type + length e.txt
unfolding key
length_key e =
    let a = length-bytes_of 2 e.start in
    let b = length-bytes_of 2 e.end in
    let c = length_str e.type in
    let d = length_str e.txt in
    simp length-append (omega arith)

pub key_cut : (e c : Edge) (x y : List ℕ) → Fits e → Fits c → key e ++ x ≡ key c ++ y → same_key e c ≡ true
unfolding key same_key
key_cut e c x y f g h =
    let p = number_cut e.start c.start _ _ f.start g.start (simp append_assoc at h) in
    let q = number_cut e.end c.end _ _ f.end g.end p.1 in
    let r = string_cut e.type c.type _ _ f.type g.type q.1 in
    let t = string_cut e.txt c.txt _ _ f.txt g.txt r.1 in
    both _ _ (eq-eqb e.start c.start p.0) (both _ _ (eq-eqb e.end c.end q.0) (both _ _ (same_is t.0) (same_is r.0)))

pub same_key_lem : (e c : Edge) → same_key e c ≡ true → key e ≡ key c
unfolding key same_key
same_key_lem e c h =
    let p = and-true (eqb e.start c.start) _ h in
    let q = and-true (eqb e.end c.end) _ p.1 in
    let r = and-true (same e.txt c.txt) _ q.1 in
    rw (eqb-true e.start c.start p.0, eqb-true e.end c.end q.0, same_true e.txt c.txt r.0, same_true e.type c.type r.1)
