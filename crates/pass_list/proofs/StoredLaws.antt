-- Laws of stored edges (specs/Stored.antt), for the proofs of the crates above. No contract cites this file.
-- In order: what was written is read; lists of records.
-- Assumes nothing.
use mathlib.Core.Path.{◌≡◌, refl, ap, ◌∙◌}
use mathlib.Core.Logic.{inr}
use mathlib.Core.List.{List, [], ◌∷◌, ◌++◌}
use Prim.Native.Nat.{ℕ, zero, suc, ◌+◌, ◌*◌, ◌-◌, ◌/◌, ◌%◌, ◌^◌, ◌≤◌, ◌<◌}
use native.Mathlib.Nat.{add-zero, suc-add}
use native.Mathlib.Numerals.{add-one}
use native.Mathlib.Omega.{arith}
use lib.ListN.{length, take, drop}
use lib.Seq.{sets, drop-drop}
use Rattle.fields.specs.Fields.{le, le_at, bytes_of}
use Rattle.fields.specs.Part.{part}
use Rattle.fields.proofs.FieldsLaws.{le-bytes_of}
use Rattle.fields.proofs.PartLaws.{part_sets, part_sets_other, drop_sets}
use Rattle.fields.specs.Flag.{flag}
use Rattle.fields.proofs.FlagLaws.{flag_le, flag_stands}
use Rattle.pass_list.specs.StoredEdge.{StoredEdge, num_data, Small, cons, AllSmall, Fits}
use Rattle.pass_list.specs.Layout.{SIZE, end_at, kind_at, map_at, value_at, base_at, mult_at, record_at, script_at, script_len_at}
use Rattle.pass_list.specs.Stored.{map_of, num_bytes, record_bytes, stored_of, stored_at, stored_list_at}
use Rattle.pass_list.specs.declared.run.Pass.TheVariants.{D1, G1, G2, G3, G4}
use Rattle.pass_list.specs.declared.kind.Kind.{Kind}
use Rattle.pass_list.specs.declared.kind.Kind.TheVariants.{Character, Joined}
use Rattle.pass_list.specs.Kind.{kind_number, kind_from}

-- ---- what was written is read
pub kind_fits : (k : Kind) → kind_number k < 2 ^ 16
kind_fits Character = omega arith
kind_fits (Joined D1) = omega arith
kind_fits (Joined G1) = omega arith
kind_fits (Joined G2) = omega arith
kind_fits (Joined G3) = omega arith
kind_fits (Joined G4) = omega arith

kind_back : (k : Kind) → kind_from (kind_number k) ≡ k
unfolding kind_from
kind_back Character = refl
kind_back (Joined D1) = refl
kind_back (Joined G1) = refl
kind_back (Joined G2) = refl
kind_back (Joined G3) = refl
kind_back (Joined G4) = refl

record Marks (x : StoredEdge) : Type 0 where
  has_value : flag x.has_value ≤ 1
  has_base : flag x.has_base ≤ 1
  has_mult : flag x.has_mult ≤ 1
  has_script : flag x.has_script ≤ 1
  large_power : flag x.large_power ≤ 1
  digit : flag x.digit ≤ 1
  gap : flag x.gap ≤ 1
  cjk : flag x.cjk ≤ 1
  point : flag x.point ≤ 1

record MapBits (x : StoredEdge) : Type 0 where
  has_value : map_of (num_data x) / 2 % 2 ≡ flag x.has_value
  has_base : map_of (num_data x) / 8 % 2 ≡ flag x.has_base
  has_mult : map_of (num_data x) / 16 % 2 ≡ flag x.has_mult
  has_script : map_of (num_data x) / 32 % 2 ≡ flag x.has_script
  large_power : map_of (num_data x) / 64 % 2 ≡ flag x.large_power
  digit : map_of (num_data x) / 256 % 2 ≡ flag x.digit
  gap : map_of (num_data x) / 512 % 2 ≡ flag x.gap
  cjk : map_of (num_data x) / 1024 % 2 ≡ flag x.cjk
  decimals : map_of (num_data x) / 2048 % 16 ≡ x.decimals
  point : map_of (num_data x) / 32768 % 2 ≡ flag x.point

-- each mark is its own bit of the map, and the decimals have four
module _ (x : StoredEdge) (few : x.decimals < 2 ^ 4) where
  marks_small : Marks x
  marks_small = record {
    has_value = flag_le x.has_value;
    has_base = flag_le x.has_base;
    has_mult = flag_le x.has_mult;
    has_script = flag_le x.has_script;
    large_power = flag_le x.large_power;
    digit = flag_le x.digit;
    gap = flag_le x.gap;
    cjk = flag_le x.cjk;
    point = flag_le x.point;
  }

  map_bits : MapBits x
  map_bits =
      let m = marks_small in
      record {
        has_value = omega arith;
        has_base = omega arith;
        has_mult = omega arith;
        has_script = omega arith;
        large_power = omega arith;
        digit = omega arith;
        gap = omega arith;
        cjk = omega arith;
        decimals = omega arith;
        point = omega arith;
      }

  map_small : map_of (num_data x) < 2 ^ 16
  map_small = let m = marks_small in omega arith

-- the numbers of a record's bytes
record Back (x : StoredEdge) : Type 0 where
  start : le_at (record_bytes x) 0 2 ≡ x.start
  end : le_at (record_bytes x) end_at 2 ≡ x.end
  kind : le_at (record_bytes x) kind_at 2 ≡ kind_number x.kind
  map : le_at (record_bytes x) map_at 2 ≡ map_of (num_data x)
  value : le_at (record_bytes x) value_at 8 ≡ x.value
  base : le_at (record_bytes x) base_at 8 ≡ x.base
  mult : le_at (record_bytes x) mult_at 8 ≡ x.mult
  record_offset : le_at (record_bytes x) record_at 8 ≡ x.record_offset
  script_offset : le_at (record_bytes x) script_at 8 ≡ x.script_offset
  script_len : le_at (record_bytes x) script_len_at 8 ≡ x.script_len

numbers_back : (x : StoredEdge) → Fits x → Back x
unfolding le_at le part bytes_of record_bytes num_bytes
numbers_back x f =
    let small = f.small in
    record {
      start = le-bytes_of 2 x.start f.start;
      end = le-bytes_of 2 x.end f.end;
      kind = le-bytes_of 2 (kind_number x.kind) (kind_fits x.kind);
      map = le-bytes_of 2 (map_of (num_data x)) (map_small x f.decimals);
      value = le-bytes_of 8 x.value (omega arith);
      base = le-bytes_of 8 x.base (omega arith);
      mult = le-bytes_of 8 x.mult (omega arith);
      record_offset = le-bytes_of 8 x.record_offset f.record_offset;
      script_offset = le-bytes_of 8 x.script_offset f.script_offset;
      script_len = le-bytes_of 8 x.script_len f.script_len;
    }

record_back : (x : StoredEdge) → Fits x → stored_of (record_bytes x) ≡ x
unfolding stored_of
record_back x f =
    let b = numbers_back x f in
    let m = map_bits x f.decimals in
    rw (
      b.start,
      b.end,
      b.kind,
      kind_back x.kind,
      b.map,
      b.value,
      b.base,
      b.mult,
      b.record_offset,
      b.script_offset,
      b.script_len,
      m.has_value,
      m.has_base,
      m.has_mult,
      m.has_script,
      m.large_power,
      m.digit,
      m.gap,
      m.cjk,
      m.decimals,
      m.point,
      flag_stands x.has_value,
      flag_stands x.has_base,
      flag_stands x.has_mult,
      flag_stands x.has_script,
      flag_stands x.large_power,
      flag_stands x.digit,
      flag_stands x.gap,
      flag_stands x.cjk,
      flag_stands x.point,
    )

pub length_record : (x : StoredEdge) → length (record_bytes x) ≡ SIZE
unfolding record_bytes num_bytes bytes_of
length_record x = refl

pub stored_edge_same : (s : List ℕ) (at : ℕ) (x : StoredEdge) → Fits x → at + SIZE ≤ length s → stored_at (sets s at (record_bytes x)) at ≡ x
unfolding stored_at
stored_edge_same s at x f h = ap stored_of (part_sets s at (record_bytes x) SIZE (length_record x) h) ∙ record_back x f

-- ---- lists of records
-- what lies behind k records is read as before
pub stored_edge_behind : (s t : List ℕ) (at : ℕ) → drop at t ≡ drop at s → stored_at t at ≡ stored_at s at
unfolding stored_at part
stored_edge_behind s t at e = ap (λ (l : List ℕ). stored_of (take SIZE l)) e

pub stored_edges_cons : (s : List ℕ) (i n : ℕ) → i < n → stored_list_at s i (n - i) ≡ stored_at s (i * SIZE) ∷ stored_list_at s (i + 1) (n - (i + 1))
unfolding stored_list_at
stored_edges_cons s i n h = let e : n - i ≡ suc (n - suc i) = omega arith in rw (add-one i, e)

pub stored_edges_none : (s : List ℕ) (i n : ℕ) → n ≤ i → stored_list_at s i (n - i) ≡ []
unfolding stored_list_at
stored_edges_none s i n h = let e : n - i ≡ 0 = omega arith in rw e

pub length_stored_edges : (s : List ℕ) (i n : ℕ) → length (stored_list_at s i n) ≡ n
unfolding stored_list_at
length_stored_edges s i zero = refl
length_stored_edges s i (suc n) = ap suc (length_stored_edges s (suc i) n)

pub stored_edges_other : (s : List ℕ) (at : ℕ) (bs : List ℕ) (i n : ℕ) → (i + n) * SIZE ≤ at → stored_list_at (sets s at bs) i n ≡ stored_list_at s i n
unfolding stored_list_at stored_at
stored_edges_other s at bs i zero h = refl
stored_edges_other s at bs i (suc n) h = rw (part_sets_other s at bs (i * SIZE) SIZE (inr (omega arith)), stored_edges_other s at bs (suc i) n (omega arith))

pub stored_edges_snoc : (s : List ℕ) (i n : ℕ) → stored_list_at s i (n + 1) ≡ stored_list_at s i n ++ (stored_at s ((i + n) * SIZE) ∷ [])
unfolding stored_list_at
stored_edges_snoc s i zero = rw add-zero
stored_edges_snoc s i (suc n) = let e : i + suc n ≡ suc i + n = omega arith in rw (suc-add n 1, e) (ap (λ (l : List StoredEdge). stored_at s (i * SIZE) ∷ l) (stored_edges_snoc s (suc i) n))

-- one more record, written right behind n of them
pub stored_edges_put : (s : List ℕ) (n : ℕ) (x : StoredEdge) → Fits x → n * SIZE + SIZE ≤ length s → stored_list_at (sets s (n * SIZE) (record_bytes x)) 0 (n + 1) ≡ stored_list_at s 0 n ++ (x ∷ [])
stored_edges_put s n x f h =
    let e : (0 + n) * SIZE ≡ n * SIZE = omega arith in
    stored_edges_snoc (sets s (n * SIZE) (record_bytes x)) 0 n
    ∙ rw (e, stored_edges_other s (n * SIZE) (record_bytes x) 0 n (omega arith), stored_edge_same s (n * SIZE) x f h)

small_at : (s : List ℕ) (i n j : ℕ) → AllSmall (stored_list_at s i n) → j < n → Small (stored_at s ((i + j) * SIZE))
unfolding stored_list_at
small_at s i zero j a h = absurd (omega arith)
small_at s i (suc n) zero (cons x a) h = rw add-zero x
small_at s i (suc n) (suc j) (cons x a) h = let e : i + suc j ≡ suc i + j = omega arith in rw e (small_at s (suc i) n j a (omega arith))

-- the bytes behind the i-th record stay as they are where earlier ones are written
pub behind_put : (s t : List ℕ) (i k : ℕ) (x : StoredEdge) → k < i → drop (i * SIZE) t ≡ drop (i * SIZE) s → drop (i * SIZE) (sets t (k * SIZE) (record_bytes x)) ≡ drop (i * SIZE) s
behind_put s t i k x h e = let l = length_record x in drop_sets t (k * SIZE) (record_bytes x) (i * SIZE) (omega arith) ∙ e

pub behind_next : (s t : List ℕ) (i : ℕ) → drop (i * SIZE) t ≡ drop (i * SIZE) s → drop ((i + 1) * SIZE) t ≡ drop ((i + 1) * SIZE) s
behind_next s t i e =
    let a : (i + 1) * SIZE ≡ i * SIZE + SIZE = omega arith in
    rw (a, ← (drop-drop SIZE (i * SIZE) t), ← (drop-drop SIZE (i * SIZE) s), e)
