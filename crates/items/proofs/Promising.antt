-- What asking for an item promises. Assumes nothing.
use Rattle.std.specs.Prelude.{Some, None}
use Prim.Native.Nat.{ℕ, zero, suc, ◌+◌, ◌≤◌}
use mathlib.Core.Path.{◌≡◌, refl, sym, ◌∙◌, ap, ap₂, subst}
use mathlib.Core.List.{List, [], ◌∷◌, ◌++◌, append_assoc, append-nil}
use mathlib.Core.Bool.{Bool, true, false}
use mathlib.Core.Option.{Option, none, some}
use native.Mathlib.Omega.{arith}
use borrow.Author.Tests.{eq-eqb}
use lib.ListN.{length, take, drop, length-append}
use lib.Seq.{take_at, take-append-le}
use lib.Dec.{T, leb}
use Rattle.machine.proofs.Base.{none≢some}
use Rattle.machine.specs.Lists.{pick, spaces}
use Rattle.format.specs.Rules.{most_descriptions, type_of, is_type_in, is_unchecked_type, is_type, TypeRead}
use Rattle.format.specs.Language.{Name, Item, Batch, File, Reads, file_recs, ReferenceOk, DescriptionsOk, NameOk, is_some, ItemOk, ItemsOk, Before, none_before, after_that, BatchOk, BatchesOk}
use Rattle.format.specs.Cutting.{lines_in, AreLines}
use Rattle.format.specs.Statements.{InLanguage}
use Rattle.format.specs.declared.Group.{Group}
use Rattle.format.proofs.Complete.{complete}
use Rattle.record.specs.Read.{transaction_for}
use Rattle.record.specs.declared.TransactionFields.{TransactionFields}
use Rattle.reading.specs.Check.{check_of, read_of}
use Rattle.reading.specs.declared.FileRead.{FileRead}
use Rattle.format.specs.Answers.{refusal, acceptance}
use Rattle.format.specs.declared.Answer.{Answer}
use Rattle.reading.proofs.Judgements.{four_at_most}
use Rattle.file.proofs.Meaning.{means}
use Rattle.descriptions.specs.Texts.{no_texts, in_places, merged, text_from}
use Rattle.descriptions.specs.declared.Descriptions.{Descriptions}
use Rattle.descriptions.proofs.Lists.{Full, full_more, with_places, merged_places}
use Rattle.items.specs.Search.{filled_to, no_fields, nothing_found, with_item, started, after_lines}
use Rattle.items.specs.Answering.{answered, texts_found, answered_by, room_by}
use Rattle.items.specs.Promises.{nth, ItemAt, item_with, item_of_batch, item_at, reference_for, name_for, fields_for, texts_for, handed_out, room_with, Promised}
use Rattle.items.specs.declared.ItemFields.{ItemFields}
use Rattle.items.specs.declared.Found.{Found}
use Rattle.items.specs.declared.Search.{Search}
use Rattle.items.specs.declared.ItemRead.{ItemRead}
use Rattle.items.proofs.Recorded.{after_recs, lines_back}
use Rattle.items.proofs.Readings.{add_texts, on_reference, on_own, on_name, on_fixed, on_item, item_found, batch_found, batches_on}
use Rattle.items.proofs.Answering.{by_refusal, room_refused}

some_is : {A : Type 0} {x y : A} → some x ≡ some y → x ≡ y
some_is e = cc

-- ## Texts

all_full : (ts : List (List ℕ)) → DescriptionsOk ts → Full ts
all_full [] h = tt
all_full (t ∷ ts) h = (h.0.0, all_full ts h.1)

add_places : (done ts : List (List ℕ)) → Full done → DescriptionsOk ts → length done + length ts ≤ 4 → add_texts (in_places (spaces 128) done) ts ≡ in_places (spaces 128) (done ++ ts)
add_places done [] f h l = ap (in_places (spaces 128)) (sym (append-nil done))
add_places done (t ∷ ts) f h l =
    let e : text_from t ≡ t = take_at t (spaces 32) 32 h.0.0 in
    ap (λ d. add_texts d ts) (with_places (spaces 128) done t f (omega arith))
    ∙ add_places (done ++ (text_from t ∷ [])) ts (full_more done t f) h.1 (rw length-append (omega arith))
    ∙ ap (in_places (spaces 128)) (append_assoc done (text_from t ∷ []) ts ∙ ap (λ u. done ++ (u ∷ ts)) e)

all_places : (ts : List (List ℕ)) → DescriptionsOk ts → length ts ≤ 4 → add_texts no_texts ts ≡ in_places (spaces 128) ts
all_places ts h l = add_places [] ts tt h (omega arith)

-- ## The wanted item's fields

first_24 : (t : List ℕ) → length t ≡ 35 → filled_to 24 t ≡ take 24 t
first_24 t h = take-append-le 24 t (spaces 24) (omega arith)

abbrev fields_with : TransactionFields → List ℕ → List ℕ → ItemFields
fields_with t reference name = record { kind = t.kind; amount = t.amount; payer = t.payer; beneficiary = t.beneficiary; reference = reference; name = name }

module _ (t : TransactionFields) (fx ts : List (List ℕ)) where
  abbrev ending : Option (List ℕ) → Option Name → Found
  ending o m = on_name (on_own (on_reference (with_item (on_fixed nothing_found fx) t) o) ts) m

  fields_found : (o : Option (List ℕ)) (q : Bool) (m : Option Name) → ReferenceOk o → NameOk q m → (ending o m).fields ≡ fields_with t (reference_for o) (name_for m)
  fields_found none true none h k = absurd k
  fields_found none true (some m) h k = ap (fields_with t (spaces 16)) (first_24 m.text k.0.0)
  fields_found none false none h k = refl
  fields_found none false (some m) h k = absurd k
  fields_found (some u) true none h k = absurd k
  fields_found (some u) true (some m) h k = ap₂ (fields_with t) (take_at u (spaces 16) 16 h.0) (first_24 m.text k.0.0)
  fields_found (some u) false none h k = ap (λ y. fields_with t y (spaces 24)) (take_at u (spaces 16) 16 h.0)
  fields_found (some u) false (some m) h k = absurd k

  texts_found_lem : (o : Option (List ℕ)) (m : Option Name) → texts_found (ending o m) ≡ (merged (add_texts no_texts fx) (add_texts no_texts ts) (most_descriptions (is_some o))).text
  unfolding texts_found
  texts_found_lem none none = refl
  texts_found_lem none (some m) = refl
  texts_found_lem (some u) none = refl
  texts_found_lem (some u) (some m) = refl

kind_found : (g : Group) (y : TypeRead) → T (is_type_in g y) → is_type y ≡ true
kind_found g (Some y) h = refl
kind_found g None h = absurd h

-- what was found is this item, or nothing
abbrev Finds : Found → Option ItemAt → Type 0
Finds f none = is_type f.fields.kind ≡ false
Finds f (some x) = (is_type f.fields.kind ≡ true) × ((f.fields ≡ fields_for x.item) × (texts_found f ≡ texts_for x))

item_finds : (g : Group) (account : ℕ) (fx : List (List ℕ)) (i : Item) → DescriptionsOk fx → length fx ≤ 4 → ItemOk g account i → Finds (on_item (on_fixed nothing_found fx) i) (some (record { fixed = fx; item = i }))
item_finds g account fx i h l k =
    let t : TransactionFields = transaction_for (i.type, (i.amount, (i.payer, (i.beneficiary, (tt, tt))))) in
    let n : length i.descriptions ≤ 4 = omega (arith, k.room, four_at_most (is_some i.reference)) in
    let y = k.transaction_ok.type_in in
    let e : (on_item (on_fixed nothing_found fx) i).fields ≡ fields_for i =
    fields_found t fx i.descriptions i.reference (is_unchecked_type (type_of i.type)) i.name k.reference_ok k.name_ok in
    let d : texts_found (on_item (on_fixed nothing_found fx) i) ≡ texts_for (record { fixed = fx; item = i }) =
    texts_found_lem t fx i.descriptions i.reference i.name
    ∙ ap₂ (λ u v. (merged u v (most_descriptions (is_some i.reference))).text) (all_places fx h l) (all_places i.descriptions k.descriptions_ok n)
    ∙ ap (λ (u : Descriptions). u.text)
    (merged_places (spaces 128) (spaces 128) fx i.descriptions (most_descriptions (is_some i.reference)) (all_full fx h) l (all_full i.descriptions k.descriptions_ok) n (four_at_most (is_some i.reference))) in
    (ap (λ (u : ItemFields). is_type u.kind) e ∙ kind_found g (type_of i.type) y, (e, d))

-- ## By a reading

nth_item : (g : Group) (account n : ℕ) (is : List Item) → ItemsOk g account is → (i : Item) → nth n is ≡ some i → ItemOk g account i
nth_item g account zero is h i e = absurd (none≢some e)
nth_item g account (suc n) [] h i e = absurd (none≢some e)
nth_item g account (suc zero) (x ∷ is) h i e = subst (ItemOk g account) (some_is e) h.0
nth_item g account (suc (suc n)) (x ∷ is) h i e = nth_item g account (suc n) is h.1 i e

nth_batch : (g : Group) (p : Before) (n : ℕ) (bs : List Batch) → BatchesOk g p bs → (x : Batch) → nth n bs ≡ some x → (q : Before) × BatchOk g q x
nth_batch g p zero bs h x e = absurd (none≢some e)
nth_batch g p (suc n) [] h x e = absurd (none≢some e)
nth_batch g p (suc zero) (b ∷ bs) h x e = (p, subst (BatchOk g p) (some_is e) h.0)
nth_batch g p (suc (suc n)) (b ∷ bs) h x e = nth_batch g (after_that p b.sequence) (suc n) bs h.1 x e

batch_finds : (g : Group) (p : Before) (x : Batch) → BatchOk g p x → (n : ℕ) (o : Option Item) → nth n x.items ≡ o → Finds (item_found (on_fixed nothing_found x.fixed) o) (item_with x.fixed o)
batch_finds g p x h n none e = refl
batch_finds g p x h n (some i) e = item_finds g x.account x.fixed i h.fixed_ok h.fixed_max (nth_item g x.account n x.items h.items_ok i e)

batches_find : (g : Group) (p : Before) (bs : List Batch) → BatchesOk g p bs → (b n : ℕ) (o : Option Batch) → nth b bs ≡ o → Finds (batch_found nothing_found o n) (item_of_batch o n)
batches_find g p bs h b n none e = refl
batches_find g p bs h b n (some x) e = let k = nth_batch g p b bs h x e in batch_finds g k.0 x k.1 n (nth n x.items) refl

reading_finds : (file : List ℕ) (f : File) (b n : ℕ) → Reads file f → Finds (after_lines (started b n) (lines_in file)).found (item_at f b n)
unfolding Reads after_recs
reading_finds file f b n r =
    let v = r.0 in
    let e : after_lines (started b n) (lines_in file) ≡ after_recs (started b n) (file_recs f) = ap (λ y. after_lines (started b n) (lines_in y)) r.1.1 ∙ lines_back r.1.0 (complete f v) (started b n) in
    let d : (after_lines (started b n) (lines_in file)).found ≡ batch_found nothing_found (nth b f.batches) n = ap (λ (s : Search). s.found) e ∙ batches_on f.group b n false false nothing_found f.batches in
    subst (λ x. Finds x (item_at f b n)) (sym d) (batches_find f.group none_before f.batches v.batches_ok b n (nth b f.batches) refl)

-- ## The answer, and the room

answer_of : (s : Search) (a : Answer) (room : ℕ) → a.number ≡ 0 → (x : Option ItemAt) → Finds s.found x → answered_by s a room ≡ handed_out a.line x room
unfolding answered_by pick
answer_of s a room z none h = rw (eq-eqb _ _ z, h)
answer_of s a room z (some x) h = rw (eq-eqb _ _ z, h.0, h.1.0)

room_of_lem : (s : Search) (a : Answer) (out : List ℕ) → a.number ≡ 0 → (x : Option ItemAt) → Finds s.found x → room_by s a out ≡ room_with x out
unfolding room_by pick
room_of_lem s a out z none h = rw (eq-eqb _ _ z, h)
room_of_lem s a out z (some x) h = rw (eq-eqb _ _ z, h.0) (ap (λ y. pick (leb 128 (length out)) (y ++ drop 128 out) out) h.1.1)

handed_line : (n : ℕ) (x : Option ItemAt) (room : ℕ) → (handed_out n x room).answer.line ≡ n
unfolding pick
handed_line n none room = refl
handed_line n (some x) room = by (leb 128 room)
  where
    by : (q : Bool) → (pick q (answered (acceptance n) (fields_for x.item)) (answered (refusal 12 n 0) no_fields)).answer.line ≡ n
    by true = refl
    by false = refl

module _ (file : List ℕ) (batch item : ℕ) where
  searched : Search
  searched = after_lines (started batch item) (lines_in file)

  module _ (room : ℕ) where
    asked : ItemRead
    asked = answered_by searched (check_of file) room

    handed_of : (f : File) → Reads file f → asked ≡ handed_out (check_of file).line (item_at f batch item) room
    unfolding asked searched
    handed_of f r =
        answer_of (after_lines (started batch item) (lines_in file)) (check_of file) room ((means file).accepted_exactly.1 (f, r)) (item_at f batch item)
        (reading_finds file f batch item r)

    line_of : InLanguage file → asked.answer.line ≡ (check_of file).line
    line_of l = ap (λ (r : ItemRead). r.answer.line) (handed_of l.0 l.1) ∙ handed_line (check_of file).line (item_at l.0 batch item) room

  not_accepted : (InLanguage file → ⊥) → (check_of file).number ≡ 0 → ⊥
  not_accepted n z = n ((means file).accepted_exactly.0 z)

  refused_of : (room : ℕ) → (InLanguage file → ⊥) → asked room ≡ answered (check_of file) no_fields
  unfolding asked searched
  refused_of room n = sym (by_refusal (after_lines (started batch item) (lines_in file)) (check_of file) room (not_accepted n) refl)

  promised : (out : List ℕ) → Promised file batch item out (asked (length out)) (room_by searched (check_of file) out)
  unfolding searched
  promised out =
      record {
        handed = λ f r. handed_of (length out) f r ∙ ap (λ n. handed_out n (item_at f batch item) (length out)) (sym (line_of (length out) (f, r)));
        written = λ f r. room_of_lem (after_lines (started batch item) (lines_in file)) (check_of file) out ((means file).accepted_exactly.1 (f, r)) (item_at f batch item) (reading_finds file f batch item r);
        lines = λ l. subst (λ n. AreLines n file) (sym (line_of (length out) l)) ((means file).accepted_lines ((means file).accepted_exactly.1 l)).0;
        refusal = λ n. let e = refused_of (length out) n in (λ z. not_accepted n (sym (ap (λ (r : ItemRead). r.answer.number) e) ∙ z), e);
        untouched = λ n. sym (room_refused (after_lines (started batch item) (lines_in file)) (check_of file) out (not_accepted n));
      }

  -- of the function's own result
  pub promised_via : {s t : Search} {r : FileRead} {w : ItemRead} {o : List ℕ} (out : List ℕ) → r ≡ read_of file → s ≡ started batch item → t ≡ after_lines s (lines_in file) → w ≡ answered_by t r.answer (length out) → o ≡ room_by t r.answer out → Promised file batch item out w o
  unfolding asked searched
  promised_via {w = w} out e f g h k =
      let u = g ∙ ap (λ x. after_lines x (lines_in file)) f in
      let p : w ≡ asked (length out) = h ∙ ap₂ (λ x (y : FileRead). answered_by x y.answer (length out)) u e in
      let q = k ∙ ap₂ (λ x (y : FileRead). room_by x y.answer out) u e in
      subst (Promised file batch item out w) (sym q) (subst (λ x. Promised file batch item out x (room_by searched (check_of file) out)) (sym p) (promised out))
