-- The record of a file whose region ends last, and the place of a record.
use Rattle.map_index.proofs.Common.{◌≡◌, ◌+◌, ◌==◌, ◌||◌, ◌<◌, ℕ, max, Bool, true, false, cond, Option, Some, None, List, [], ◌∷◌, length, filter, fold, find, refl, ap, sym, ◌∙◌, arith, nat_lt, list_any, position_or_len, option_map, option_map_or, nat_tests, MapRecord, MapRow, shown_record}
use Rattle.std.specs.Prelude.{nat_le, position, slice_get}
use Rattle.std.specs.Option.{is_some}
use Rattle.std.proofs.lemmas.List.Folds.{find_at}
use Rattle.std.proofs.lemmas.Option.{slice_get_past}
use Rattle.map_rows.specs.Lookups.{later}
use Rattle.map_index.specs.Shown.{region_end}

abbrev is_in : ℕ → MapRecord → Bool
is_in file row = row.file == file

-- ---- where it ends

abbrev end_of_record : Option MapRecord → ℕ
end_of_record o = option_map_or (λ r. r.offset + r.size) o 0

pub end_shown : (o : Option MapRecord) → option_map_or (λ (r : MapRow). r.offset + r.size) (option_map shown_record o) 0 ≡ end_of_record o
end_shown None = refl
end_shown (Some r) = refl

end_chosen : (b : Bool) (last r : MapRecord) → nat_le (r.offset + r.size) (last.offset + last.size) ≡ b → end_of_record (cond b (Some last) (Some r)) ≡ max (last.offset + last.size) (r.offset + r.size)
end_chosen true last r h = grind (arith, nat_tests, h)
end_chosen false last r h = grind (arith, nat_tests, h)

end_later : (a : Option MapRecord) (r : MapRecord) → end_of_record (later a r) ≡ max (end_of_record a) (r.offset + r.size)
end_later None r = omega arith
end_later (Some last) r = end_chosen (nat_le (r.offset + r.size) (last.offset + last.size)) last r refl

end_more : (file : ℕ) (b : Bool) (r : MapRecord) (G xs : List MapRecord) → ((a : Option MapRecord) → end_of_record (fold later a G) ≡ fold (λ most x. max most (region_end file x)) (end_of_record a) xs) → (a : Option MapRecord)
    → end_of_record (fold later a (cond b (r ∷ G) G)) ≡ fold (λ most x. max most (region_end file x)) (max (end_of_record a) (cond b (r.offset + r.size) 0)) xs
end_more file true r G xs rest a = rest (later a r) ∙ ap (λ (n : ℕ). fold (λ most x. max most (region_end file x)) n xs) (end_later a r)
end_more file false r G xs rest a = rest a ∙ ap (λ (n : ℕ). fold (λ most x. max most (region_end file x)) n xs) (none (end_of_record a))
  where
    none : (n : ℕ) → n ≡ max n 0
    none n = omega arith

pub last_ends : (file : ℕ) (rs : List MapRecord) (a : Option MapRecord) → end_of_record (fold later a (filter (is_in file) rs)) ≡ fold (λ most x. max most (region_end file x)) (end_of_record a) rs
last_ends file [] a = refl
last_ends file (r ∷ rs) a = end_more file (r.file == file) r _ rs (last_ends file rs) a

-- ---- whether there is one

pub some_shown : (o : Option MapRecord) → is_some (option_map shown_record o) ≡ is_some o
some_shown None = refl
some_shown (Some r) = refl

some_chosen : (b : Bool) (last r : MapRecord) → is_some (cond b (Some last) (Some r)) ≡ true
some_chosen true last r = refl
some_chosen false last r = refl

some_later : (a : Option MapRecord) (r : MapRecord) → is_some (later a r) ≡ true
some_later None r = refl
some_later (Some last) r = some_chosen (nat_le (r.offset + r.size) (last.offset + last.size)) last r

yes_or : (b c : Bool) → b ≡ true → (b || c) ≡ true
yes_or b c e = rw e refl

or_yes : (b : Bool) → (b || true) ≡ true
or_yes true = refl
or_yes false = refl

some_more : (b c : Bool) (r : MapRecord) (G : List MapRecord) → ((a : Option MapRecord) → is_some (fold later a G) ≡ (is_some a || c)) → (a : Option MapRecord)
    → is_some (fold later a (cond b (r ∷ G) G)) ≡ (is_some a || (b || c))
some_more true c r G rest a = rest (later a r) ∙ yes_or (is_some (later a r)) c (some_later a r) ∙ sym (or_yes (is_some a))
some_more false c r G rest a = rest a

pub last_is_some : (file : ℕ) (rs : List MapRecord) (a : Option MapRecord) → is_some (fold later a (filter (is_in file) rs)) ≡ (is_some a || list_any (is_in file) rs)
last_is_some file [] None = refl
last_is_some file [] (Some r) = refl
last_is_some file (r ∷ rs) a = some_more (r.file == file) (list_any (is_in file) rs) r _ (last_is_some file rs) a

-- ---- places

place_step : {X : Type 0} → (p : X → Bool) (xs : List X) (n : ℕ) (b : Bool) → nat_lt (position_or_len p xs) (length xs) ≡ b → cond b (Some (position_or_len p xs)) None ≡ Some n → (slice_get xs n ≡ find p xs) × (n < length xs)
place_step p xs n true h e =
    let k : position_or_len p xs ≡ n = cc e in
    (ap (slice_get xs) (sym k) ∙ sym (find_at p xs), grind (arith, nat_tests, h, k))
place_step p xs n false h e = absurd (let w : None ≡ Some n = e in cc w)

-- at the place of what passes first stands what a search finds
pub place_there : {X : Type 0} → (p : X → Bool) (xs : List X) (n : ℕ) → position p xs ≡ Some n → (slice_get xs n ≡ find p xs) × (n < length xs)
place_there p xs n e = place_step p xs n (nat_lt (position_or_len p xs) (length xs)) refl e

no_place_step : {X : Type 0} → (p : X → Bool) (xs : List X) (b : Bool) → nat_lt (position_or_len p xs) (length xs) ≡ b → cond b (Some (position_or_len p xs)) None ≡ None → find p xs ≡ None
no_place_step p xs true h e = absurd (let w : Some (position_or_len p xs) ≡ None = e in cc w)
no_place_step p xs false h e = find_at p xs ∙ slice_get_past xs (position_or_len p xs) (grind (arith, nat_tests, h))

-- without a place it finds nothing
pub no_place : {X : Type 0} → (p : X → Bool) (xs : List X) → position p xs ≡ None → find p xs ≡ None
no_place p xs e = no_place_step p xs (nat_lt (position_or_len p xs) (length xs)) refl e
