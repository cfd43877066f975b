-- Lists that are shown.
use Rattle.store_core.proofs.Common.{◌≡◌, ◌+◌, ℕ, cond, List, [], ◌∷◌, map, refl, sym, ◌∙◌, ap, count_by, bytes_eq, sum_by-cons, BoxEntry, Lists, LogRow, BoxMeaning, box_meaning, MapBox}
use Rattle.mdbox_base.specs.declared.replies.ListRow.{ListRow}
use Rattle.model_lists.specs.Lists.{ListedMessage, Mailbox, refs_of, listing_row}
use Rattle.model_store.specs.Listing.{listed_row, HaveListings, ShowLists, refs_in}

pub logs_show : (boxes : List MapBox) (logs : List (List BoxEntry)) (lists : Lists) → HaveListings boxes logs lists → ShowLists boxes (map box_meaning logs) lists
logs_show [] [] [] h = tt
logs_show [] [] (l ∷ ls) h = absurd h
logs_show [] (e ∷ es) [] h = absurd h
logs_show [] (e ∷ es) (l ∷ ls) h = absurd h
logs_show (b ∷ bs) [] [] h = absurd h
logs_show (b ∷ bs) [] (l ∷ ls) h = absurd h
logs_show (b ∷ bs) (e ∷ es) [] h = absurd h
logs_show (b ∷ bs) (e ∷ es) (l ∷ ls) h = (record { number = h.0.number; name = h.0.name; next = h.0.next; rows = h.0.rows }, logs_show bs es ls h.1)

-- as many rows have a GUID as messages
rows_of_guid : (guid : List ℕ) (rows : List LogRow) (messages : List ListedMessage) → map listed_row rows ≡ map listing_row messages → count_by (λ row. bytes_eq row.guid guid) rows ≡ count_by (λ m. bytes_eq m.guid guid) messages
rows_of_guid guid [] [] e = refl
rows_of_guid guid [] (m ∷ ms) e = absurd (let h : [] ≡ listing_row m ∷ map listing_row ms = e in cc)
rows_of_guid guid (r ∷ rs) [] e = absurd (let h : listed_row r ∷ map listed_row rs ≡ [] = e in cc)
rows_of_guid guid (r ∷ rs) (m ∷ ms) e =
    let h : listed_row r ∷ map listed_row rs ≡ listing_row m ∷ map listing_row ms = e in
    let first : listed_row r ≡ listing_row m = cc in
    let rest : map listed_row rs ≡ map listing_row ms = cc in
    let same : r.guid ≡ m.guid = ap (λ (x : ListRow). x.guid.0) first in
    sum_by-cons (λ (row : LogRow). cond (bytes_eq row.guid guid) 1 0) r rs
    ∙ ap (λ (g : List ℕ). cond (bytes_eq g guid) 1 0 + count_by (λ (row : LogRow). bytes_eq row.guid guid) rs) same
    ∙ ap (λ (n : ℕ). cond (bytes_eq m.guid guid) 1 0 + n) (rows_of_guid guid rs ms rest)
    ∙ sym (sum_by-cons (λ (x : ListedMessage). cond (bytes_eq x.guid guid) 1 0) m ms)

pub refs_shown : (boxes : List MapBox) (meanings : List BoxMeaning) (lists : Lists) (guid : List ℕ) → ShowLists boxes meanings lists → refs_in meanings guid ≡ refs_of lists guid
refs_shown [] [] [] guid h = refl
refs_shown [] [] (l ∷ ls) guid h = absurd h
refs_shown [] (m ∷ ms) [] guid h = absurd h
refs_shown [] (m ∷ ms) (l ∷ ls) guid h = absurd h
refs_shown (b ∷ bs) [] [] guid h = absurd h
refs_shown (b ∷ bs) [] (l ∷ ls) guid h = absurd h
refs_shown (b ∷ bs) (m ∷ ms) [] guid h = absurd h
refs_shown (b ∷ bs) (m ∷ ms) (l ∷ ls) guid h =
    let first = rows_of_guid guid m.rows l.messages h.0.rows in
    let rest = refs_shown bs ms ls guid h.1 in
    sum_by-cons (λ (x : BoxMeaning). count_by (λ (row : LogRow). bytes_eq row.guid guid) x.rows) m ms
    ∙ ap (λ (n : ℕ). n + refs_in ms guid) first ∙ ap (λ (n : ℕ). count_by (λ (x : ListedMessage). bytes_eq x.guid guid) l.messages + n) rest
    ∙ sym (sum_by-cons (λ (x : Mailbox). count_by (λ (y : ListedMessage). bytes_eq y.guid guid) x.messages) l ls)
