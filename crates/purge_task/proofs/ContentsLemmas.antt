-- What is said of a file's messages, one after another.
use Rattle.purge_task.proofs.Common.{◌≡◌, ◌≢◌, inl, inr, ℕ, zero, suc, ◌+◌, ◌<◌, ◌≤◌, ◌==◌, ◌&&◌, ◌||◌, Bool, true, false, cond, Option, Some, None, List, [], ◌∷◌, ◌++◌, get_or, All, refl, sym, ap, subst, ◌∙◌, arith, nat_lt, ◌⊎◌, Contains, sum_by, option_map, option_or, All-nil, All-cons, All-head}
use Rattle.purge_task.proofs.Common.{All-tail, All-push, All-contains, All-weaker, Contains-push, Contains-append_left, is_copied_from, RunTo, MapRecord, MapMeaning, IsSoundMap, MapRow, record_from, shown_record, equal_is, equal_yes, AreContents}
use Rattle.std.specs.Prelude.{is_none}
use Rattle.purge_task.specs.Found.{IsFilled, wanted_octets, with_message}
use Rattle.purge_task.specs.declared.contents.Contents.{Contents}
use Rattle.purge_task.proofs.WalkLemmas.{IsFoundRow, HasNoRow, upto, in_all, both, below, below_is, found_row, none_found, sound_row, more_walked, all_walked, sum_walked, sum_begins, sum_ends, sum_same}

-- ---- rows one directly after another

pub run_push : (start end : ℕ) (rows : List MapRecord) (r : MapRecord) → RunTo start rows end → r.offset ≡ end → RunTo start (rows ++ r ∷ []) (r.offset + r.size)
run_push start end [] r run at = (let e : start ≡ end = run in omega (arith, e, at), let e : start ≡ end = run in omega (arith, e, at))
run_push start end (row ∷ rows) r run at = (run.0, run_push (start + row.size) end rows r run.1 at)

-- none begins before the first
pub run_behind : (start end : ℕ) (rows : List MapRecord) → RunTo start rows end → All (λ o. start ≤ o.offset) rows
run_behind start end [] run = All-nil (λ o. start ≤ o.offset)
run_behind start end (row ∷ rows) run =
    let e = run.0 in
    All-cons (λ o. start ≤ o.offset) row rows (omega (arith, e)) (All-weaker (λ o. start + row.size ≤ o.offset) (λ o. start ≤ o.offset) (λ o le. omega (arith, le)) rows (run_behind (start + row.size) end rows run.1))

-- ---- so far

-- a wanted record of the file
abbrev IsMapped : MapMeaning → ℕ → MapRecord → Type 0
IsMapped m file o = Contains m.records o × (o.file ≡ file) × (1 ≤ o.count)

abbrev one : MapRecord → ℕ
one o = 1

-- the octets of a record that is wanted
abbrev wanted_size : MapRecord → ℕ
wanted_size o = cond (nat_lt 0 o.count) o.size 0

-- the rows that were walked so far, from the first on
pub record HasRows (m : MapMeaning) (file start end : ℕ) : Type 0 where
  pub rows : List MapRecord
  pub some : rows ≢ []
  pub mapped : All (IsMapped m file) rows
  pub whole : RunTo start rows end
  pub every : All (λ o. o.file ≡ file → o.offset < end → Contains rows o) m.records

-- where it begins: not yet, or at the present end
abbrev StandsAt : ℕ → ℕ → List MapRecord → Contents → Type 0
StandsAt start at rows c = ((c.first ≡ None) × (c.end ≡ 0) × (at ≡ start) × (rows ≢ [])) ⊎ ((c.first ≡ Some start) × (c.end ≡ at))

-- the rows that are still to come, if the file's records are a row to the end
pub record HasMore (m : MapMeaning) (file start end : ℕ) (c : Contents) : Type 0 where
  pub rows : List MapRecord
  pub at : ℕ
  pub mapped : All (IsMapped m file) rows
  pub whole : RunTo at rows end
  pub every : All (λ o. o.file ≡ file → c.end ≤ o.offset → Contains rows o) m.records
  pub full : c.is_full ≡ true
  pub stands : StandsAt start at rows c

-- what is said so far is so of the records that begin before the present end
pub record IsWalked (m : MapMeaning) (file : ℕ) (c : Contents) : Type 0 where
  pub messages : c.messages ≡ sum_by (upto file c.end one) m.records
  pub wanted : c.wanted ≡ sum_by (upto file c.end wanted_size) m.records
  pub few : c.messages ≤ c.end
  pub short : c.wanted ≤ c.end
  pub ends : c.end ≤ 4294967295
  pub none : c.first ≡ None → c.end ≡ 0
  pub rows : (start : ℕ) → c.first ≡ Some start → c.is_full ≡ true → HasRows m file start c.end
  pub more : (start end : ℕ) → IsFilled m file start end → HasMore m file start end c

-- ---- the beginning

pub walk_begins : (m : MapMeaning) (file : ℕ) → IsWalked m file (record { messages = 0; wanted = 0; first = None; end = 0; is_full = true })
walk_begins m file = record {
  messages = sym (sum_begins m file one);
  wanted = sym (sum_begins m file wanted_size);
  few = omega arith;
  short = omega arith;
  ends = omega arith;
  none = λ e. refl;
  rows = λ start e full. absurd (let w : None ≡ Some start = e in cc w);
  more = λ start end filled. record {
    rows = filled.0;
    at = start;
    mapped = filled.1.mapped;
    whole = filled.1.whole;
    every = λ k d lt here low. filled.1.every k d lt here;
    full = refl;
    stands = inl (refl, refl, refl, filled.1.some);
  };
}

-- ---- one more

not_nil : {X : Type 0} → (xs : List X) (x : X) → xs ++ x ∷ [] ≡ [] → ⊥
not_nil [] x e = let w : x ∷ [] ≡ [] = e in cc w
not_nil (y ∷ xs) x e = let w : y ∷ (xs ++ x ∷ []) ≡ [] = e in cc w

rows_first : (m : MapMeaning) (file : ℕ) (r : MapRecord) (c : Contents) → IsSoundMap m → IsFoundRow m file c.end r → c.end ≡ 0 → 1 ≤ r.count → HasRows m file r.offset (r.offset + r.size)
rows_first m file r c sound found zero_end count = record {
  rows = r ∷ [];
  some = λ e. (let w : r ∷ [] ≡ [] = e in cc w);
  mapped = All-cons (IsMapped m file) r [] (found.has, found.here, count) (All-nil (IsMapped m file));
  whole = (refl, refl);
  every = more_walked m file c.end r (Contains (r ∷ [])) sound found (zero, omega arith, refl) (λ k d lt here low. absurd (omega (arith, zero_end, low)));
}

rows_next : (m : MapMeaning) (file start : ℕ) (r : MapRecord) (c : Contents) → IsSoundMap m → IsFoundRow m file c.end r → HasRows m file start c.end → r.offset ≡ c.end → 1 ≤ r.count → HasRows m file start (r.offset + r.size)
rows_next m file start r c sound found h at count = record {
  rows = h.rows ++ r ∷ [];
  some = not_nil h.rows r;
  mapped = All-push (IsMapped m file) h.rows r h.mapped (found.has, found.here, count);
  whole = run_push start c.end h.rows r h.whole at;
  every = more_walked m file c.end r (Contains (h.rows ++ r ∷ [])) sound found (Contains-push h.rows r) (λ k d lt here low. Contains-append_left h.rows (r ∷ []) (get_or m.records k d) (h.every k d lt here low));
}

follows_first : (start : ℕ) (first : Option ℕ) (offset end : ℕ) → option_or first (Some offset) ≡ Some start → (is_none first || offset == end) ≡ true → ((first ≡ None) × (offset ≡ start)) ⊎ ((first ≡ Some start) × (offset ≡ end))
follows_first start None offset end e f = inl (refl, cc e)
follows_first start (Some x) offset end e f = inr (e, equal_is offset end f)

rows_more : (m : MapMeaning) (file start : ℕ) (r : MapRecord) (c : Contents) → IsSoundMap m → IsFoundRow m file c.end r → IsWalked m file c → option_or c.first (Some r.offset) ≡ Some start → (c.is_full && ((is_none c.first || r.offset == c.end) && nat_lt 0 r.count)) ≡ true → HasRows m file start (r.offset + r.size)
rows_more m file start r c sound found w first full =
    let parts = both c.is_full ((is_none c.first || r.offset == c.end) && nat_lt 0 r.count) full in
    let more = both (is_none c.first || r.offset == c.end) (nat_lt 0 r.count) parts.1 in
    let low = below_is 0 r.count more.1 in
    let count : 1 ≤ r.count = omega (arith, low) in
    elim (follows_first start c.first r.offset c.end first more.0) [
      | inl new ↦ subst (λ (s : ℕ). HasRows m file s (r.offset + r.size)) new.1 (rows_first m file r c sound found (w.none new.0) count)
      | inr old ↦ rows_next m file start r c sound found (w.rows start old.0 parts.0) old.1 count
    ]

-- the next row is the first of those to come
in_head : (head : MapRecord) (rest : List MapRecord) (r : MapRecord) → Contains (head ∷ rest) r → (Contains rest r → ⊥) → r ≡ head
in_head head rest r (zero, lt, e) none = sym e
in_head head rest r (suc k, lt, e) none = absurd (none (k, omega (arith, lt), e))

next_is_head : (m : MapMeaning) (file start end : ℕ) (r : MapRecord) (c : Contents) → IsSoundMap m → IsFoundRow m file c.end r → (h : HasMore m file start end c) → (head : MapRecord) (rest : List MapRecord) → h.rows ≡ head ∷ rest → c.end ≤ h.at → (r ≡ head) × (head.offset ≡ h.at) × RunTo (h.at + head.size) rest end × IsMapped m file head × All (IsMapped m file) rest
next_is_head m file start end r c sound found h head rest is low =
    let run : RunTo h.at (head ∷ rest) end = subst (λ (rs : List MapRecord). RunTo h.at rs end) is h.whole in
    let mapped : All (IsMapped m file) (head ∷ rest) = subst (All (IsMapped m file)) is h.mapped in
    let one_of : Contains (head ∷ rest) r = subst (λ (rs : List MapRecord). Contains rs r) is (All-contains (λ o. o.file ≡ file → c.end ≤ o.offset → Contains h.rows o) m.records r h.every found.has found.here found.behind) in
    let first = All-head (IsMapped m file) head rest mapped in
    let at = run.0 in
    let le = All-contains (λ o. o.file ≡ file → c.end ≤ o.offset → r.offset ≤ o.offset) m.records head found.first first.0 first.1 (omega (arith, at, low)) in
    let some = (sound_row m head sound first.0).size in
    (in_head head rest r one_of (λ others. (let far = All-contains (λ o. h.at + head.size ≤ o.offset) rest r (run_behind (h.at + head.size) end rest run.1) others in omega (arith, far, le, at, some))), at, run.1, first, All-tail (IsMapped m file) head rest mapped)

behind_head : (head : MapRecord) (rest : List MapRecord) (o : MapRecord) → Contains (head ∷ rest) o → (o ≡ head → ⊥) → Contains rest o
behind_head head rest o (zero, lt, e) other = absurd (other (sym e))
behind_head head rest o (suc k, lt, e) other = (k, omega (arith, lt), e)

is_full_still : (full : Bool) (first : Option ℕ) (offset end count : ℕ) → full ≡ true → (first ≡ None) ⊎ (offset ≡ end) → 1 ≤ count → (full && ((is_none first || offset == end) && nat_lt 0 count)) ≡ true
is_full_still full first offset end count e (inl none) some = rw (e, none, below 0 count (omega (arith, some))) refl
is_full_still full None offset end count e (inr at) some = rw (e, below 0 count (omega (arith, some))) refl
is_full_still full (Some x) offset end count e (inr at) some = rw (e, equal_yes offset end at, below 0 count (omega (arith, some))) refl

first_new : (first : Option ℕ) (offset start : ℕ) → first ≡ None → offset ≡ start → option_or first (Some offset) ≡ Some start
first_new first offset start none e = rw none (ap Some e)

first_old : (first : Option ℕ) (offset start : ℕ) → first ≡ Some start → option_or first (Some offset) ≡ Some start
first_old first offset start some = rw some refl

more_step : (m : MapMeaning) (file start end : ℕ) (r : MapRecord) (c : Contents) → IsSoundMap m → IsFoundRow m file c.end r → (h : HasMore m file start end c) → (head : MapRecord) (rest : List MapRecord) → h.rows ≡ head ∷ rest → c.end ≤ h.at
    → ((c.first ≡ None) × (h.at ≡ start)) ⊎ ((c.first ≡ Some start) × (c.end ≡ h.at)) → HasMore m file start end (with_message (shown_record r) c)
more_step m file start end r c sound found h head rest is low from =
    let n = next_is_head m file start end r c sound found h head rest is low in
    let same = n.0 in
    let offset : r.offset ≡ head.offset = ap (λ (o : MapRecord). o.offset) same in
    let size : r.size ≡ head.size = ap (λ (o : MapRecord). o.size) same in
    let at = n.1 in
    let some = (sound_row m r sound found.has).size in
    let begins : r.offset ≡ h.at = offset ∙ at in
    record {
      rows = rest;
      at = h.at + head.size;
      mapped = n.4;
      whole = n.2;
      every = λ k d lt here high. behind_head head rest (get_or m.records k d) (subst (λ (rs : List MapRecord). Contains rs (get_or m.records k d)) is (h.every k d lt here (omega (arith, high, begins, low)))) (λ e. (let o = ap (λ (x : MapRecord). x.offset) e in omega (arith, o, high, offset, size, some)));
      full = is_full_still c.is_full c.first r.offset c.end r.count h.full (elim from [ inl new ↦ inl new.0 | inr old ↦ inr (begins ∙ sym old.1) ]) (let w = n.3.2 in let e = ap (λ (x : MapRecord). x.count) same in omega (arith, w, e));
      stands = inr (elim from [ inl new ↦ first_new c.first r.offset start new.0 (begins ∙ new.1) | inr old ↦ first_old c.first r.offset start old.0 ], omega (arith, begins, size));
    }

more_next : (m : MapMeaning) (file start end : ℕ) (r : MapRecord) (c : Contents) → IsSoundMap m → IsFoundRow m file c.end r → (h : HasMore m file start end c) → (rows : List MapRecord) → h.rows ≡ rows → HasMore m file start end (with_message (shown_record r) c)
more_next m file start end r c sound found h [] is =
    let has = subst (λ (rs : List MapRecord). Contains rs r) is (All-contains (λ o. o.file ≡ file → c.end ≤ o.offset → Contains h.rows o) m.records r h.every found.has found.here found.behind) in
    let lt = has.1 in
    absurd (omega (arith, lt))
more_next m file start end r c sound found h (head ∷ rest) is =
    elim h.stands [
      | inl new ↦ (let z = new.1 in more_step m file start end r c sound found h head rest is (omega (arith, z)) (inl (new.0, new.2)))
      | inr old ↦ (let e = old.1 in more_step m file start end r c sound found h head rest is (omega (arith, e)) (inr old))
    ]

option_some : (first : Option ℕ) (offset : ℕ) → option_or first (Some offset) ≡ None → ⊥
option_some None offset e = let w : Some offset ≡ None = e in cc w
option_some (Some x) offset e = let w : Some x ≡ None = e in cc w

size_or_none : (b : Bool) (n : ℕ) → cond b n 0 ≤ n
size_or_none true n = omega arith
size_or_none false n = omega arith

wanted_at_most : (o : MapRecord) → wanted_size o ≤ o.size
wanted_at_most o = size_or_none (nat_lt 0 o.count) o.size

walk_one : (m : MapMeaning) (file : ℕ) (r : MapRecord) (c : Contents) → IsSoundMap m → IsFoundRow m file c.end r → IsWalked m file c → IsWalked m file (with_message (shown_record r) c)
walk_one m file r c sound found w =
    let s = sound_row m r sound found.has in
    let some = s.size in
    let ends = s.ends in
    let low = found.behind in
    let few = w.few in
    let short = w.short in
    let most = wanted_at_most r in
    let messages = sum_walked m file c.end r one sound found in
    let wanted = sum_walked m file c.end r wanted_size sound found in
    let was = w.messages in
    let had = w.wanted in
    record {
      messages = omega (arith, messages, was);
      wanted = omega (arith, wanted, had);
      few = omega (arith, few, some, low);
      short = omega (arith, short, most, low);
      ends = ends;
      none = λ e. absurd (option_some c.first r.offset e);
      rows = λ start first full. rows_more m file start r c sound found w first full;
      more = λ start end filled. (let h = w.more start end filled in more_next m file start end r c sound found h h.rows refl);
    }

pub walk_more : (m : MapMeaning) (file : ℕ) (row : MapRow) (c : Contents) → IsSoundMap m → Some row ≡ option_map shown_record (record_from m file c.end) → IsWalked m file c → IsWalked m file (with_message row c)
walk_more m file row c sound e w =
    let b = found_row m file c.end row e in
    subst (λ (x : MapRow). IsWalked m file (with_message x c)) (sym b.1) (walk_one m file b.0 c sound b.2 w)

-- ---- the end

counted : (a b : Bool) (n : ℕ) → cond (a && b) n 0 ≡ cond a (cond b n 0) 0
counted true b n = refl
counted false b n = refl

wanted_all : (m : MapMeaning) (file : ℕ) → wanted_octets m file ≡ sum_by (in_all file wanted_size) m.records
wanted_all m file = sum_same (in_all file wanted_size) (λ o. cond (is_copied_from file o) o.size 0) m.records (λ k d lt. counted ((get_or m.records k d).file == file) (nat_lt 0 (get_or m.records k d).count) (get_or m.records k d).size)

none_more : (m : MapMeaning) (file start end : ℕ) (c : Contents) → HasNoRow m file c.end → (h : HasMore m file start end c) → (rows : List MapRecord) → h.rows ≡ rows → (c.first ≡ Some start) × (c.end ≡ end) × (c.is_full ≡ true)
none_more m file start end c none h [] is =
    let at : h.at ≡ end = subst (λ (rs : List MapRecord). RunTo h.at rs end) is h.whole in
    elim h.stands [
      | inl new ↦ absurd (new.3 is)
      | inr old ↦ (old.0, old.1 ∙ at, h.full)
    ]
none_more m file start end c none h (head ∷ rest) is =
    let run : RunTo h.at (head ∷ rest) end = subst (λ (rs : List MapRecord). RunTo h.at rs end) is h.whole in
    let first = All-head (IsMapped m file) head rest (subst (All (IsMapped m file)) is h.mapped) in
    let at = run.0 in
    let low : c.end ≤ h.at = elim h.stands [ inl new ↦ (let z = new.1 in omega (arith, z)) | inr old ↦ (let e = old.1 in omega (arith, e)) ] in
    absurd (All-contains (λ o. o.file ≡ file → c.end ≤ o.offset → ⊥) m.records head none first.0 first.1 (omega (arith, at, low)))

pub walk_ends : (m : MapMeaning) (file : ℕ) (c : Contents) → None ≡ option_map shown_record (record_from m file c.end) → IsWalked m file c → AreContents m file c
walk_ends m file c e w =
    let none = none_found m file c.end e in
    record {
      messages = w.messages ∙ sym (sum_ends m file c.end one none);
      wanted = w.wanted ∙ sym (sum_ends m file c.end wanted_size none) ∙ sym (wanted_all m file);
      full = λ start first full. (let h = w.rows start first full in (h.rows, record { some = h.some; mapped = h.mapped; every = all_walked m file c.end (Contains h.rows) none h.every; whole = h.whole }));
      exactly = λ start end filled. (let h = w.more start end filled in none_more m file start end c none h h.rows refl);
    }
