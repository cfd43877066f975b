-- References that are counted, row by row and mailbox by mailbox.
use Rattle.store_core.proofs.Common.{◌≡◌, ◌<◌, ◌≤◌, ◌+◌, ℕ, suc, All, Bool, true, false, List, map, [], ◌∷◌, length, take, get_or, slice_get, Some, refl, sym, ◌∙◌, ap, arith, count_by, sum_by, option_map, bytes_eq, sum_by-cons, slice_get-get_or, LogRow, BoxMeaning, All-head, All-tail, BoxEntry}
use Rattle.store_core.proofs.Common.{listed_of, IsCounted, indexes_of, MapBox, MapRecord, row_of, BoxRow, AreBoxLogs, CoverDues, OpenBox}
use Rattle.std.proofs.Common.{if◌then◌else◌}
use Rattle.std.proofs.lemmas.List.Sums.{count_by_more_no, count_by_more_yes}
use Rattle.std.proofs.lemmas.Option.{slice_get-map, get_or_from_slice_get}
use Rattle.std.proofs.Math.Seq.{take-length}
use Rattle.model_store.specs.Listing.{refs_in}
use Rattle.store_core.specs.Value.{none_due}

-- as many mailboxes are open as the map has
pub one_each : (store : List ℕ) (mailboxes : List MapBox) (boxes : List OpenBox) → AreBoxLogs store mailboxes boxes → length boxes ≡ length mailboxes
one_each store [] [] h = refl
one_each store [] (b ∷ bs) h = absurd h
one_each store (m ∷ ms) [] h = absurd h
one_each store (m ∷ ms) (b ∷ bs) h = ap suc (one_each store ms bs h.3)

abbrev no_row : LogRow
no_row = record { uid = 0; flags = 0; time = 0; size = 0; map_uid = 0; guid = []; words = [] }

pub count_none : (guid : List ℕ) (rows : List LogRow) → count_by (λ row. bytes_eq row.guid guid) (take 0 rows) ≡ 0
count_none guid [] = refl
count_none guid (row ∷ rows) = refl

-- the row at a place, of those that were yielded
pub row_here : (xs : List BoxRow) (rows : List LogRow) (k : ℕ) (row : BoxRow) → map row_of xs ≡ rows → (k < length xs) × (row ≡ get_or xs k row) → slice_get rows k ≡ Some (row_of row)
row_here xs rows k row e at =
    ap (λ (rs : List LogRow). slice_get rs k) (sym e) ∙ slice_get-map row_of xs k ∙ ap (option_map row_of) (slice_get-get_or xs k row at.0 ∙ ap Some (sym at.1))

-- one row more has been looked at
pub count_more : (guid : List ℕ) (rows : List LogRow) (i : ℕ) (row : BoxRow) (one : ℕ) → i < length rows → slice_get rows i ≡ Some (row_of row) → one ≡ (if bytes_eq row.guid.0 guid then 1 else 0)
    → count_by (λ row. bytes_eq row.guid guid) (take (i + 1) rows) ≡ count_by (λ row. bytes_eq row.guid guid) (take i rows) + one
count_more guid rows i row one within is e = by_test (bytes_eq row.guid.0 guid) refl e
  where
    here : get_or rows i no_row ≡ row_of row
    here = get_or_from_slice_get rows i (row_of row) no_row is

    by_test : (t : Bool) → bytes_eq row.guid.0 guid ≡ t → one ≡ (if t then 1 else 0)
        → count_by (λ row. bytes_eq row.guid guid) (take (i + 1) rows) ≡ count_by (λ row. bytes_eq row.guid guid) (take i rows) + one
    by_test true h e = count_by_more_yes (λ (row : LogRow). bytes_eq row.guid guid) rows i no_row within (ap (λ (r : LogRow). bytes_eq r.guid guid) here ∙ h) ∙ ap (λ (n : ℕ). count_by (λ (row : LogRow). bytes_eq row.guid guid) (take i rows) + n) (sym e)
    by_test false h e =
        let no = count_by_more_no (λ (row : LogRow). bytes_eq row.guid guid) rows i no_row within (ap (λ (r : LogRow). bytes_eq r.guid guid) here ∙ h) in
        omega (arith, no, e)

pub count_whole : (guid : List ℕ) (rows : List LogRow) (i : ℕ) → i ≡ length rows → count_by (λ row. bytes_eq row.guid guid) (take i rows) ≡ count_by (λ row. bytes_eq row.guid guid) rows
count_whole guid rows i e = ap (λ (n : ℕ). count_by (λ (row : LogRow). bytes_eq row.guid guid) (take n rows)) e ∙ ap (count_by (λ (row : LogRow). bytes_eq row.guid guid)) (take-length rows)

-- the sum over mailboxes is that over what their logs mean
summed : (guid : List ℕ) (boxes : List OpenBox) → sum_by (λ b. count_by (λ row. bytes_eq row.guid guid) b.index.meaning.rows) boxes ≡ refs_in (indexes_of boxes) guid
summed guid [] = refl
summed guid (b ∷ bs) =
    sum_by-cons (λ (b : OpenBox). count_by (λ (row : LogRow). bytes_eq row.guid guid) b.index.meaning.rows) b bs
    ∙ ap (λ (n : ℕ). count_by (λ (row : LogRow). bytes_eq row.guid guid) b.index.meaning.rows + n) (summed guid bs)
    ∙ sym (sum_by-cons (λ (m : BoxMeaning). count_by (λ (row : LogRow). bytes_eq row.guid guid) m.rows) b.index.meaning (indexes_of bs))

pub summed_in : (guid : List ℕ) (bs cs ds : List OpenBox) (n : ℕ) → bs ≡ cs → ds ≡ bs → n ≡ sum_by (λ b. count_by (λ row. bytes_eq row.guid guid) b.index.meaning.rows) ds → n ≡ refs_in (indexes_of cs) guid
summed_in guid bs cs ds n same held e = e ∙ summed guid ds ∙ ap (λ (xs : List OpenBox). refs_in (indexes_of xs) guid) (held ∙ same)

-- counts cover what is listed, where nothing is due
pub nothing_due : (logs : List (List BoxEntry)) (rows : List MapRecord) → All (IsCounted logs) rows → CoverDues logs rows (none_due rows)
nothing_due logs [] h = tt
nothing_due logs (r ∷ rs) h = (let c : listed_of logs r.uid ≤ r.count = All-head (IsCounted logs) r rs h in omega (arith, c), nothing_due logs rs (All-tail (IsCounted logs) r rs h))
