-- The nine numbers of an exercise.
use Rattle.std.specs.Prelude.{◌≡◌, ◌⊎◌, ◌+◌, ℕ, Bool, true, false, not, cond, List, [], ◌∷◌, count_by, length, map, slice_get, sum_by, take, Option, Some, None}
use Rattle.std.specs.Option.{option_map}
use Rattle.std.proofs.Common.{refl, sym, ◌∙◌, ap, arith, inl, inr}
use Rattle.std.proofs.lemmas.List.Sums.{sum_by-cons}
use Rattle.mdbox_base.specs.declared.progress.Progress.{Progress}
use Rattle.mdbox_base.specs.declared.progress.Progress.TheVariants as progress
use Rattle.mdbox_base.specs.declared.replies.Refusal.TheVariants as refusal
use Rattle.mdbox_base.specs.declared.replies.Reply.{Reply}
use Rattle.mdbox_base.specs.declared.replies.Reply.TheVariants as reply
use Rattle.box_index.specs.Row.{row_of}
use Rattle.box_index.specs.declared.index.BoxRow.{BoxRow}
use Rattle.mdbox_base.specs.declared.replies.ListRow.{ListRow}
use Rattle.model_lists.specs.Lists.{ListedMessage, Lists, Mailbox, listing_row}
use Rattle.model_meaning.specs.BoxMeaning.{BoxMeaning, LogRow}
use Rattle.model_meaning.specs.MapMeaning.{MapBox, MapMeaning}
use Rattle.model_store.specs.Listing.{ShowLists, listed_row}
use Rattle.mdbox_base.specs.Words.{count_different}
use Rattle.mail_ops.specs.Counting.{counts_reply, listed_messages, named_ids}
use Rattle.mail_ops.proofs.CountingLemmas.{shown_many, sum_one}
use Rattle.store_core.specs.Value.{StoreValue}
use Rattle.script_run.specs.Opening.{LogsShowLists}
use Rattle.request_text.specs.Outcomes.{is_no}
use Rattle.request_text.specs.declared.summary.Summary.{Summary}
use Rattle.mdbox_top.specs.Numbers.{box_octets, messages_listed, octets_listed, summary_of}

-- ---- replies

-- those that pass a test and those that don't
pub both_counted : {X : Type 0} → (p : X → Bool) (xs : List X) → count_by p xs + count_by (λ x. not (p x)) xs ≡ length xs
both_counted p [] = refl
both_counted {X} p (x ∷ xs) =
    let a = sum_by-cons (λ (y : X). cond (p y) 1 0) x xs in
    let b = sum_by-cons (λ (y : X). cond (not (p y)) 1 0) x xs in
    let rest = both_counted p xs in
    let one = either (p x) in
    omega (arith, a, b, rest, one)
  where
    either : (b : Bool) → cond b 1 0 + cond (not b) 1 0 ≡ 1
    either true = refl
    either false = refl

-- ---- the numbers of `counts`

counted_reply : {D : Type 0} → (store : StoreValue D) → store.stopped ≡ false → counts_reply store ≡ reply.Counted (length store.map.records) (listed_messages store) (sum_by (λ row. row.count) store.map.records) (count_different (named_ids store.map))
counted_reply store running = rw running refl

pub told_counts : {D : Type 0} → (store : StoreValue D) (r : Progress) (a b c d : ℕ) → store.stopped ≡ false → (r ≡ progress.Done (counts_reply store)) ⊎ (r ≡ progress.Done (reply.Refused refusal.NoMemory)) → r ≡ progress.Done (reply.Counted a b c d)
    → (a ≡ length store.map.records) × (b ≡ listed_messages store) × (c ≡ sum_by (λ row. row.count) store.map.records) × (d ≡ count_different (named_ids store.map))
told_counts store r a b c d running (inl e) is =
    let same : progress.Done (reply.Counted a b c d) ≡ progress.Done (reply.Counted (length store.map.records) (listed_messages store) (sum_by (λ row. row.count) store.map.records) (count_different (named_ids store.map))) = sym is ∙ (e ∙ ap (λ (given : Reply). progress.Done given) (counted_reply store running)) in
    (cc same, cc same, cc same, cc same)
told_counts store r a b c d running (inr e) is = absurd (let k : progress.Done (reply.Counted a b c d) ≡ progress.Done (reply.Refused refusal.NoMemory) = sym is ∙ e in cc k)

-- all nine
pub summary_told : (replies : List (Option Reply)) (m : MapMeaning) (meanings : List BoxMeaning) (ok refused octets a b c d : ℕ) → ok ≡ count_by (λ one. not (is_no one)) replies → refused ≡ count_by is_no replies → octets ≡ octets_listed meanings → a ≡ length m.records → b ≡ messages_listed meanings → c ≡ sum_by (λ row. row.count) m.records
    → d ≡ count_different (named_ids m) → (let s : Summary = record { requests = length replies; ok = ok; no = refused; messages = b; octets = octets; records = a; references = b; counts = c; instances = d } in s ≡ summary_of replies m meanings)
summary_told replies m meanings ok refused octets a b c d e1 e2 e3 e4 e5 e6 e7 = rw (e1, e2, e3, e4, e5, e6, e7) refl

-- ---- octets

-- the mailbox at a place has so many
pub octets_there : (meanings : List BoxMeaning) (i many : ℕ) (m : BoxMeaning) → Some m ≡ slice_get meanings i → many ≡ box_octets m → option_map box_octets (slice_get meanings i) ≡ Some many
octets_there meanings i many m is e = ap (option_map box_octets) (sym is) ∙ ap Some (sym e)

pub sum_there : (meanings : List BoxMeaning) (i many : ℕ) → option_map box_octets (slice_get meanings i) ≡ Some many → sum_by box_octets (take (i + 1) meanings) ≡ sum_by box_octets (take i meanings) + many
sum_there meanings i many e = by_option (slice_get meanings i) refl e
  where
    by_option : (o : Option BoxMeaning) → slice_get meanings i ≡ o → option_map box_octets o ≡ Some many → sum_by box_octets (take (i + 1) meanings) ≡ sum_by box_octets (take i meanings) + many
    by_option None is k = absurd (let f : None ≡ Some many = k in cc f)
    by_option (Some m) is k =
        let f : Some (box_octets m) ≡ Some many = k in
        let same : box_octets m ≡ many = cc f in
        sum_one box_octets meanings i m is ∙ ap (λ (n : ℕ). sum_by box_octets (take i meanings) + n) same

-- one message more
pub size_more : (rows : List LogRow) (k : ℕ) (row : BoxRow) → slice_get rows k ≡ Some (row_of row) → sum_by (λ r. r.size) (take (k + 1) rows) ≡ sum_by (λ r. r.size) (take k rows) + row.size
size_more rows k row at = sum_one (λ (r : LogRow). r.size) rows k (row_of row) at

pub no_size : (rows : List LogRow) → sum_by (λ r. r.size) (take 0 rows) ≡ 0
no_size [] = refl
no_size (row ∷ rows) = refl

-- ---- what is shown

abbrev pub list_octets : List ListedMessage → ℕ
list_octets messages = sum_by (λ message. length message.octets) messages

pub same_octets : (rows : List LogRow) (messages : List ListedMessage) → map listed_row rows ≡ map listing_row messages → sum_by (λ row. row.size) rows ≡ list_octets messages
same_octets [] [] e = refl
same_octets [] (x ∷ xs) e = absurd (cc e)
same_octets (row ∷ rows) [] e = absurd (cc e)
same_octets (row ∷ rows) (x ∷ xs) e =
    let first : listed_row row ≡ listing_row x = cc e in
    let rest : map listed_row rows ≡ map listing_row xs = cc e in
    let size : row.size ≡ length x.octets = ap (λ (r : ListRow). r.size) first in
    let a = sum_by-cons (λ (r : LogRow). r.size) row rows in
    let b = sum_by-cons (λ (y : ListedMessage). length y.octets) x xs in
    let c = same_octets rows xs rest in
    omega (arith, a, b, c, size)

shown_octets : (boxes : List MapBox) (meanings : List BoxMeaning) (lists : Lists) → ShowLists boxes meanings lists → octets_listed meanings ≡ sum_by (λ mailbox. list_octets mailbox.messages) lists
shown_octets [] [] [] h = refl
shown_octets [] [] (l ∷ ls) h = absurd h
shown_octets [] (m ∷ ms) [] h = absurd h
shown_octets [] (m ∷ ms) (l ∷ ls) h = absurd h
shown_octets (b ∷ bs) [] [] h = absurd h
shown_octets (b ∷ bs) [] (l ∷ ls) h = absurd h
shown_octets (b ∷ bs) (m ∷ ms) [] h = absurd h
shown_octets (b ∷ bs) (m ∷ ms) (l ∷ ls) h =
    let a = sum_by-cons box_octets m ms in
    let c = sum_by-cons (λ (x : Mailbox). list_octets x.messages) l ls in
    let e = same_octets m.rows l.messages h.0.rows in
    let f = shown_octets bs ms ls h.1 in
    omega (arith, a, c, e, f)

pub counted_listed : (m : MapMeaning) (meanings : List BoxMeaning) (lists : Lists) → LogsShowLists m meanings lists → (messages_listed meanings ≡ sum_by (λ mailbox. length mailbox.messages) lists) × (octets_listed meanings ≡ sum_by (λ mailbox. sum_by (λ message. length message.octets) mailbox.messages) lists)
counted_listed m meanings lists shows = (shown_many m.boxes meanings lists shows.1, shown_octets m.boxes meanings lists shows.1)
