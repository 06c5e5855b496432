-- Laws of the items of `specs/Check.antt`. No contract cites this file.
-- In order: one item; the strings of a list and the records, one at a time; the values of items from where they end; the table.
use mathlib.Core.Path.{◌≡◌, refl, sym, ap, ◌∙◌}
use mathlib.Core.Bool.{Bool, true, false, cond}
use mathlib.Core.List.{List, [], ◌∷◌}
use Prim.Native.Nat.{ℕ, zero, suc, ◌+◌, ◌-◌, ◌≤◌, ◌<◌}
use native.Mathlib.Omega.{arith}
use lib.ListN.{length, get_or}
use borrow.Author.Tests.{eq-eqb, ne_eqb}
use Rattle.fields.specs.Fields.{le_at}
use Rattle.table.specs.Table.{Text, Record}
use Rattle.table.specs.Layout.{Field, Is, Fault, on_field, number, text, read_record, many_at, texts_at, records_at, list_at}
use Rattle.table.specs.Check.{Checked, Fine, Refused, then_item, item, legal_mark, legal_record, read_texts, read_list, read_records, read_table, bad_layout, bad_content, refusal_at}
use Rattle.table.specs.Answers.{end_of}
use Rattle.table.proofs.LayoutLaws.{number_cut, number_is, byte_is}
use Rattle.std.specs.Prelude.{Result, Ok, Err}
use Rattle.table.specs.declared.shape.Cause.{Cause}
use Rattle.table.specs.declared.shape.TableRefusal.{TableRefusal}

-- ---- one item
module _ {A : Type 0} (at : ℕ) (legal : A → Bool) where
  pub item_fault : {f : Field A} → f ≡ Fault → Refused bad_layout at ≡ item at legal f
  unfolding item
  item_fault e = rw e

  module _ {f : Field A} {a : A} {next : ℕ} (e : f ≡ Is a next) where
    pub item_legal : legal a ≡ true → Fine a next ≡ item at legal f
    unfolding item
    item_legal h = rw (e, h)

    pub item_illegal : legal a ≡ false → Refused bad_content at ≡ item at legal f
    unfolding item
    item_illegal h = rw (e, h)

-- ---- items one after the other: where they end does not depend on their values
end_same : {A B : Type 0} (f : A → B) (x : Checked A) → end_of (then_item x (λ a at. Fine (f a) at)) ≡ end_of x
end_same f (Fine a next) = refl
end_same f (Refused number at) = refl

end_then : {A : Type 0} (x : Checked A) {next : ℕ} (rest : ℕ → Checked (List A)) → end_of x ≡ Ok next
    → end_of (then_item x (λ a at. then_item (rest at) (λ l end. Fine (a ∷ l) end))) ≡ end_of (rest next)
end_then (Fine a m) {next} rest e = let q : m ≡ next = cc in rw q (end_same (λ l. a ∷ l) (rest next))
end_then (Refused number at) rest e = let z : ◌≡◌ {A = ℕ} 0 1 = cc in absurd (omega arith)

end_stop : {A B : Type 0} (x : Checked A) {r : TableRefusal} (rest : A → ℕ → Checked B) → end_of x ≡ Err r → end_of (then_item x rest) ≡ Err r
end_stop (Fine a m) rest e = let z : ◌≡◌ {A = ℕ} 0 1 = cc in absurd (omega arith)
end_stop (Refused number at) rest e = e

module _ (s : List ℕ) (at : ℕ) where
  pub texts_none : (left : ℕ) → left ≤ 0 → Ok at ≡ end_of (read_texts left s at)
  unfolding read_texts
  texts_none zero h = refl
  texts_none (suc n) h = absurd (omega arith)

  -- the string after the first i of n
  pub texts_turn : (n i : ℕ) {next : ℕ} → i < n → Ok next ≡ end_of (item at legal_mark (text s at)) → end_of (read_texts (n - i) s at) ≡ end_of (read_texts (n - (i + 1)) s next)
  unfolding read_texts
  texts_turn n i h e = let m : n - i ≡ suc (n - (i + 1)) = omega arith in rw m (end_then (item at legal_mark (text s at)) (λ next. read_texts (n - (i + 1)) s next) (sym e))

  pub texts_stop : (left : ℕ) {r : TableRefusal} → 0 < left → Err r ≡ end_of (item at legal_mark (text s at)) → Err r ≡ end_of (read_texts left s at)
  unfolding read_texts
  texts_stop zero h e = absurd (omega arith)
  texts_stop (suc n) h e = sym (end_stop (item at legal_mark (text s at)) _ (sym e))

  pub list_missing : length s ≤ at → Err (refusal_at bad_layout at) ≡ end_of (read_list s at)
  unfolding read_list item
  list_missing h = rw (number_cut s at 1 (omega arith))

  pub list_is : at < length s → end_of (read_texts (get_or s at 0) s (at + 1)) ≡ end_of (read_list s at)
  unfolding read_list item
  list_is h = rw (byte_is s at h)

module _ (s : List ℕ) (at least : ℕ) where
  pub records_none : (left : ℕ) → left ≤ 0 → Ok at ≡ end_of (read_records left least s at)
  unfolding read_records
  records_none zero h = refl
  records_none (suc n) h = absurd (omega arith)

  pub records_turn : (left : ℕ) {r : Record} {next : ℕ} → 0 < left → item at (legal_record least) (read_record s at) ≡ Fine r next
      → end_of (read_records left least s at) ≡ end_of (read_records (left - 1) (r.code_point + 1) s next)
  unfolding read_records
  records_turn zero h e = absurd (omega arith)
  records_turn (suc n) {r} {next} h e = let m : suc n - 1 ≡ n = omega arith in rw (m, e) (end_same (λ l. r ∷ l) (read_records n (r.code_point + 1) s next))

  pub records_stop : (left : ℕ) {k : Cause} {o : ℕ} → 0 < left → item at (legal_record least) (read_record s at) ≡ Refused k o → Err (refusal_at k o) ≡ end_of (read_records left least s at)
  unfolding read_records
  records_stop zero h e = absurd (omega arith)
  records_stop (suc n) h e = rw e

-- ---- items that end are the items that stand there
abbrev with_value : {A : Type 0} → A → Result ℕ TableRefusal → Checked A
with_value a (Ok next) = Fine a next
with_value a (Err r) = Refused r.cause r.at.0

cons_value : {A : Type 0} (a : A) (l : List A) (x : Checked (List A)) → x ≡ with_value l (end_of x)
    → then_item x (λ m end. Fine (a ∷ m) end) ≡ with_value (a ∷ l) (end_of (then_item x (λ m end. Fine (a ∷ m) end)))
cons_value a l (Fine m next) e = let q : m ≡ l = cc in rw q
cons_value a l (Refused number at) e = refl

module _ {A : Type 0} (at : ℕ) (legal : A → Bool) (rest : A → ℕ → Checked (List A)) (values : ℕ → List A)
    (h : (a : A) (next : ℕ) → rest a next ≡ with_value (values next) (end_of (rest a next))) where
  abbrev both : Checked A → Checked (List A)
  both x = then_item x (λ a next. then_item (rest a next) (λ l end. Fine (a ∷ l) end))

  one_value : (f : Field A) → both (item at legal f) ≡ with_value (on_field f (λ a next. a ∷ values next) []) (end_of (both (item at legal f)))
  unfolding item
  one_value Fault = refl
  one_value (Is a next) = go (legal a)
    where
      go : (b : Bool) → both (cond b (Fine a next) (Refused bad_content at)) ≡ with_value (a ∷ values next) (end_of (both (cond b (Fine a next) (Refused bad_content at))))
      go true = cons_value a (values next) (rest a next) (h a next)
      go false = refl

texts_value : (n : ℕ) (s : List ℕ) (at : ℕ) → read_texts n s at ≡ with_value (texts_at n s at) (end_of (read_texts n s at))
unfolding read_texts many_at
texts_value zero s at = refl
texts_value (suc n) s at = one_value at legal_mark (λ t next. read_texts n s next) (λ next. texts_at n s next) (λ t next. texts_value n s next) (text s at)

records_value : (n least : ℕ) (s : List ℕ) (at : ℕ) → read_records n least s at ≡ with_value (records_at n s at) (end_of (read_records n least s at))
unfolding read_records many_at
records_value zero least s at = refl
records_value (suc n) least s at =
    one_value at (legal_record least) (λ r next. read_records n (r.code_point + 1) s next) (λ next. records_at n s next) (λ r next. records_value n (r.code_point + 1) s next) (read_record s at)

list_value : (s : List ℕ) (at : ℕ) → read_list s at ≡ with_value (list_at s at) (end_of (read_list s at))
unfolding read_list list_at item
list_value s at = go (number 1 s at)
  where
    go : (f : Field ℕ) → then_item (item at (λ n. true) f) (λ n next. read_texts n s next)
        ≡ with_value (on_field f (λ n next. texts_at n s next) []) (end_of (then_item (item at (λ n. true) f) (λ n next. read_texts n s next)))
    go (Is n next) = texts_value n s next
    go Fault = refl

module _ (s : List ℕ) (at : ℕ) where
  pub list_ends : {next : ℕ} → Ok next ≡ end_of (read_list s at) → read_list s at ≡ Fine (list_at s at) next
  list_ends e = list_value s at ∙ ap (with_value (list_at s at)) (sym e)

  pub list_refused : {r : TableRefusal} → Err r ≡ end_of (read_list s at) → read_list s at ≡ Refused r.cause r.at.0
  list_refused e = list_value s at ∙ ap (with_value (list_at s at)) (sym e)

module _ (n : ℕ) (s : List ℕ) (at : ℕ) where
  pub records_end : {next : ℕ} → Ok next ≡ end_of (read_records n 0 s at) → read_records n 0 s at ≡ Fine (records_at n s at) next
  records_end e = records_value n 0 s at ∙ ap (with_value (records_at n s at)) (sym e)

  pub records_refused : {r : TableRefusal} → Err r ≡ end_of (read_records n 0 s at) → read_records n 0 s at ≡ Refused r.cause r.at.0
  records_refused e = records_value n 0 s at ∙ ap (with_value (records_at n s at)) (sym e)

-- ---- the table
pub table_short : (s : List ℕ) → length s < 2 → Refused bad_layout 0 ≡ read_table s
unfolding read_table item
table_short s h = rw (number_cut s 0 2 h)

module _ (s : List ℕ) (h : 2 ≤ length s) {count : ℕ} (n : count ≡ le_at s 0 2) where
  pub first_refused : {k : Cause} {o : ℕ} → read_list s 2 ≡ Refused k o → Refused k o ≡ read_table s
  unfolding read_table item
  first_refused e = rw (number_is s 0 2 h, e)

  module _ {p : List Text} {a : ℕ} (e1 : read_list s 2 ≡ Fine p a) where
    pub second_refused : {k : Cause} {o : ℕ} → read_list s a ≡ Refused k o → Refused k o ≡ read_table s
    unfolding read_table item
    second_refused e = rw (number_is s 0 2 h, e1, e)

    module _ {f : List Text} {b : ℕ} (e2 : read_list s a ≡ Fine f b) where
      pub third_refused : {k : Cause} {o : ℕ} → read_list s b ≡ Refused k o → Refused k o ≡ read_table s
      unfolding read_table item
      third_refused e = rw (number_is s 0 2 h, e1, e2, e)

      module _ {u : List Text} {c : ℕ} (e3 : read_list s b ≡ Fine u c) where
        pub fourth_refused : {k : Cause} {o : ℕ} → read_list s c ≡ Refused k o → Refused k o ≡ read_table s
        unfolding read_table item
        fourth_refused e = rw (number_is s 0 2 h, e1, e2, e3, e)

        module _ {m : List Text} {d : ℕ} (e4 : read_list s c ≡ Fine m d) where
          pub record_refused : {k : Cause} {o : ℕ} → read_records count 0 s d ≡ Refused k o → Refused k o ≡ read_table s
          unfolding read_table item
          record_refused e = rw (number_is s 0 2 h, ← n, e1, e2, e3, e4, e)

          module _ {rs : List Record} {end : ℕ} (e5 : read_records count 0 s d ≡ Fine rs end) where
            pub table_left : (end ≡ length s → ⊥) → Refused bad_layout end ≡ read_table s
            unfolding read_table item
            table_left l = rw (number_is s 0 2 h, ← n, e1, e2, e3, e4, e5) (simp (ne_eqb end (length s) l))

            pub table_is : end ≡ length s
                → Fine (record { percentage_markers = p; fraction_connectors = f; plus_signs = u; minus_signs = m; records = rs }) (length s) ≡ read_table s
            unfolding read_table item
            table_is l = rw (number_is s 0 2 h, ← n, e1, e2, e3, e4, e5, l) (simp (eq-eqb (length s) (length s) refl))
