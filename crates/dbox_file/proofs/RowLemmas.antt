-- Rows of metadata lines, line by line.
use Rattle.std.specs.Prelude.{◌≡◌, ◌≤◌, ◌<◌, ◌+◌, ◌==◌, ◌&&◌, not, Bool, true, false, ℕ, zero, suc, get_or, slice_index, take, drop, List, [], ◌∷◌, ◌++◌, length, refl, flat_map, IsTrue}
use Rattle.std.specs.List.{AllByRecursion, list_all}
use Rattle.std.proofs.Common.{sym, ◌∙◌, ap, subst, append_assoc, append-nil, length-append, arith}
use Rattle.std.proofs.Math.Seq.{drop-cons}
use Rattle.std.proofs.lemmas.Bool.{ne_eqb, eqb-true}
use Rattle.std.proofs.lemmas.List.{take-append-drop, length-take-le, take_all}
use Rattle.model_storage.specs.Grammars.{Begins, IsFrontOf}
use Rattle.model_storage.specs.StorageFile.{Line, IsLine, line_text, is_no_end}
use Rattle.model_storage.proofs.FileLemmas.{run_same, no_key, line_of, first, second}
use Rattle.dbox_file.specs.declared.reading.Flaw.{Flaw}
use Rattle.dbox_file.specs.declared.reading.Flaw.TheVariants.{Short, Bad}
use Rattle.dbox_file.specs.Reading.{FoundSome, Flawed}
use Rattle.dbox_file.specs.Rows.{IsRows, HasLine}

line_joined : (l : Line) (r : List ℕ) → line_text l ++ r ≡ l.key ∷ (l.value ++ 10 ∷ r)
line_joined l r = ap (λ (t : List ℕ). l.key ∷ t) (append_assoc l.value (10 ∷ []) r)

rows_joined : (m : Line) (ms : List Line) (x : List ℕ) → (flat_map line_text (m ∷ ms) ++ 10 ∷ []) ++ x ≡ m.key ∷ (m.value ++ 10 ∷ ((flat_map line_text ms ++ 10 ∷ []) ++ x))
rows_joined m ms x =
    append_assoc (line_text m ++ flat_map line_text ms) (10 ∷ []) x ∙ append_assoc (line_text m) (flat_map line_text ms) (10 ∷ x)
    ∙ line_joined m (flat_map line_text ms ++ 10 ∷ x) ∙ ap (λ (t : List ℕ). m.key ∷ (m.value ++ 10 ∷ t)) (sym (append_assoc (flat_map line_text ms) (10 ∷ []) x))

-- rows that begin with a line are that line and rows
pub rows_split : (l : Line) (ls : List Line) (r x : List ℕ) → IsLine l → AllByRecursion IsLine ls → line_text l ++ r ≡ (flat_map line_text ls ++ 10 ∷ []) ++ x
    → (ms : List Line) × (ls ≡ l ∷ ms) × (r ≡ (flat_map line_text ms ++ 10 ∷ []) ++ x)
rows_split l [] r x pl ps e = absurd (let h : l.key ≡ 10 = cc in no_key l.key pl.key (sym h))
rows_split l (m ∷ ms) r x pl ps e =
    let f : l.key ∷ (l.value ++ 10 ∷ r) ≡ m.key ∷ (m.value ++ 10 ∷ ((flat_map line_text ms ++ 10 ∷ []) ++ x)) = sym (line_joined l r) ∙ e ∙ rows_joined m ms x in
    let k : l.key ≡ m.key = cc in
    let t : l.value ++ 10 ∷ r ≡ m.value ++ 10 ∷ ((flat_map line_text ms ++ 10 ∷ []) ++ x) = cc in
    let v = run_same is_no_end l.value m.value (10 ∷ r) _ pl.value ps.0.value refl refl t in
    let u : r ≡ (flat_map line_text ms ++ 10 ∷ []) ++ x = let w = v.1 in cc in
    let h : m ≡ l = sym (line_of l m k v.0) in
    (ms, ap (λ (n : Line). n ∷ ms) h, u)

row_length : (l : Line) (ms : List Line) → length (flat_map line_text (l ∷ ms) ++ 10 ∷ []) ≡ length (line_text l) + length (flat_map line_text ms ++ 10 ∷ [])
row_length l ms = ap length (append_assoc (line_text l) (flat_map line_text ms) (10 ∷ [])) ∙ length-append (line_text l) (flat_map line_text ms ++ 10 ∷ [])

rows_more : (l : Line) (ms : List Line) (o : List ℕ) (room less : ℕ) → IsLine l → length (line_text l) + less ≡ room → IsRows less o ms → IsRows room (line_text l ++ o) (l ∷ ms)
rows_more l ms o room less pl e p = record {
  each = (pl, p.each);
  spelled = ap (λ (t : List ℕ). line_text l ++ t) p.spelled ∙ sym (append_assoc (line_text l) (flat_map line_text ms) (10 ∷ []));
  short = let h = p.short in omega (arith, length-append (line_text l) o);
}

each_behind : (ls ms : List Line) (l : Line) → ls ≡ l ∷ ms → AllByRecursion IsLine ls → AllByRecursion IsLine ms
each_behind ls ms l e p = (subst (AllByRecursion IsLine) e p).1

rows_less : (l : Line) (ls ms : List Line) (o : List ℕ) (room less : ℕ) → length (line_text l) + less ≡ room → ls ≡ l ∷ ms → IsRows room o ls → IsRows less (flat_map line_text ms ++ 10 ∷ []) ms
rows_less l ls ms o room less e el p = record {
  each = each_behind ls ms l el p.each;
  spelled = refl;
  short =
      let h = p.short in
      let n : length o ≡ length (line_text l) + length (flat_map line_text ms ++ 10 ∷ []) =
      ap length p.spelled ∙ ap (λ (ks : List Line). length (flat_map line_text ks ++ 10 ∷ [])) el ∙ row_length l ms in
      omega arith;
}

begins_less : (l : Line) (t r : List ℕ) (room less : ℕ) → IsLine l → t ≡ line_text l ++ r → length (line_text l) + less ≡ room → Begins (IsRows room) t → Begins (IsRows less) r
begins_less l t r room less pl et e q =
    let p = q.4 in
    let s = rows_split l q.2 r q.1 pl p.each (sym et ∙ q.3 ∙ ap (λ (o : List ℕ). o ++ q.1) p.spelled) in
    (flat_map line_text s.0 ++ 10 ∷ [], q.1, s.0, s.2, rows_less l q.2 s.0 q.0 room less e s.1 p)

front_more : (l : Line) (t r : List ℕ) (room less : ℕ) → IsLine l → t ≡ line_text l ++ r → length (line_text l) + less ≡ room → IsFrontOf (IsRows less) r → IsFrontOf (IsRows room) t
front_more l t r room less pl et e q =
    let h : line_text l ++ (r ++ q.0) ≡ t ++ q.0 = sym (ap (λ (o : List ℕ). o ++ q.0) et ∙ append_assoc (line_text l) r q.0) in
    (q.0, l ∷ q.1, subst (λ (o : List ℕ). IsRows room o (l ∷ q.1)) h (rows_more l q.1 (r ++ q.0) room less pl e q.2))

front_less : (l : Line) (t r : List ℕ) (room less : ℕ) → IsLine l → t ≡ line_text l ++ r → length (line_text l) + less ≡ room → IsFrontOf (IsRows room) t → IsFrontOf (IsRows less) r
front_less l t r room less pl et e q =
    let p = q.2 in
    let h : line_text l ++ (r ++ q.0) ≡ (flat_map line_text q.1 ++ 10 ∷ []) ++ [] =
    sym (append_assoc (line_text l) r q.0) ∙ ap (λ (o : List ℕ). o ++ q.0) (sym et) ∙ p.spelled ∙ sym (append-nil (flat_map line_text q.1 ++ 10 ∷ [])) in
    let s = rows_split l q.1 (r ++ q.0) [] pl p.each h in
    let k : r ++ q.0 ≡ flat_map line_text s.0 ++ 10 ∷ [] = s.2 ∙ append-nil (flat_map line_text s.0 ++ 10 ∷ []) in
    (q.0, s.0, subst (λ (o : List ℕ). IsRows less o s.0) (sym k) (rows_less l q.1 s.0 (t ++ q.0) room less e s.1 p))

-- a flaw behind a line is one of the rows
pub flawed_more : (l : Line) (t r : List ℕ) (room less : ℕ) (e : Flaw) → IsLine l → t ≡ line_text l ++ r → length (line_text l) + less ≡ room → Flawed (IsRows less) r e → Flawed (IsRows room) t e
flawed_more l t r room less Short pl et e f = (λ q. f.0 (begins_less l t r room less pl et e q), front_more l t r room less pl et e f.1)
flawed_more l t r room less Bad pl et e f = (λ q. f.0 (begins_less l t r room less pl et e q), λ q. f.1 (front_less l t r room less pl et e q))

-- rows behind a line are rows
pub found_more : (l : Line) (t r s : List ℕ) (room less : ℕ) → IsLine l → t ≡ line_text l ++ r → length (line_text l) + less ≡ room → FoundSome (IsRows less) r s → FoundSome (IsRows room) t s
found_more l t r s room less pl et e f =
    (l ∷ f.0, (line_text l ++ f.1.0, et ∙ ap (λ (o : List ℕ). line_text l ++ o) f.1.1 ∙ sym (append_assoc (line_text l) f.1.0 s), rows_more l f.0 f.1.0 room less pl e f.1.2))

-- the empty line alone
pub found_empty : (t s : List ℕ) (room : ℕ) → t ≡ 10 ∷ s → 0 < room → FoundSome (IsRows room) t s
found_empty t s room e h = ([], (10 ∷ [], e, record { each = tt; spelled = refl; short = omega (arith, h) }))

rows_end : (ls : List Line) (o x : List ℕ) (room : ℕ) → IsRows room o ls → 1 ≤ room
rows_end ls o x room p = omega (arith, p.short, ap length p.spelled, length-append (flat_map line_text ls) (10 ∷ []))

-- without room there are no rows
pub no_room : (t : List ℕ) → Flawed (IsRows 0) t Bad
no_room t = (λ q. let h = rows_end q.2 q.0 [] 0 q.4 in omega (arith, h), λ q. let h = rows_end q.1 (t ++ q.0) [] 0 q.2 in omega (arith, h))

rows_of_nothing : (ls : List Line) (o behind : List ℕ) (room : ℕ) → [] ≡ o ++ behind → IsRows room o ls → ⊥
rows_of_nothing ls o behind room e p =
    let n : 0 ≡ length (o ++ behind) = ap length e in
    omega (arith, n, length-append o behind, ap length p.spelled, length-append (flat_map line_text ls) (10 ∷ []))

-- nothing is the front of rows
pub nothing_yet : (t : List ℕ) (room : ℕ) → t ≡ [] → 0 < room → Flawed (IsRows room) t Short
nothing_yet t room e h = (λ q. rows_of_nothing q.2 q.0 q.1 room (sym e ∙ q.3) q.4, (10 ∷ [], [], record { each = tt; spelled = ap (λ (o : List ℕ). o ++ 10 ∷ []) e; short = omega (arith, h, ap length e, length-append t (10 ∷ [])) }))

-- rows that begin with a line longer than their room are none
pub too_long : (l : Line) (t r : List ℕ) (room : ℕ) → IsLine l → t ≡ line_text l ++ r → room < length (line_text l) → Flawed (IsRows room) t Bad
too_long l t r room pl et h = (
  λ q. let p = q.4 in
      let s = rows_split l q.2 r q.1 pl p.each (sym et ∙ q.3 ∙ ap (λ (o : List ℕ). o ++ q.1) p.spelled) in
      no_fit l q.2 s.0 q.0 room h s.1 p,
  λ q. let p = q.2 in
      let k : line_text l ++ (r ++ q.0) ≡ (flat_map line_text q.1 ++ 10 ∷ []) ++ [] =
      sym (append_assoc (line_text l) r q.0) ∙ ap (λ (o : List ℕ). o ++ q.0) (sym et) ∙ p.spelled ∙ sym (append-nil (flat_map line_text q.1 ++ 10 ∷ [])) in
      let s = rows_split l q.1 (r ++ q.0) [] pl p.each k in
      no_fit l q.1 s.0 (t ++ q.0) room h s.1 p,
)
  where
    no_fit : (l : Line) (ls ms : List Line) (o : List ℕ) (room : ℕ) → room < length (line_text l) → ls ≡ l ∷ ms → IsRows room o ls → ⊥
    no_fit l ls ms o room h el p =
        let n : length o ≡ length (line_text l) + length (flat_map line_text ms ++ 10 ∷ []) =
        ap length p.spelled ∙ ap (λ (ks : List Line). length (flat_map line_text ks ++ 10 ∷ [])) el ∙ row_length l ms in
        omega (arith, p.short)

-- what goes on as a line does has no more octets than its value before the first LF
pub longer_value : (v more a x : List ℕ) → IsTrue (list_all is_no_end v) → v ++ more ≡ a ++ 10 ∷ x → length v ≤ length a
longer_value [] more a x p e = omega arith
longer_value (c ∷ v) more [] x p e = absurd (let h : c ≡ 10 = cc in no_key c (first (is_no_end c) (list_all is_no_end v) p) (sym h))
longer_value (c ∷ v) more (a ∷ us) x p e =
    let t : v ++ more ≡ us ++ 10 ∷ x = cc in
    let h = longer_value v more us x (second (is_no_end c) (list_all is_no_end v) p) t in
    omega (arith, h)

rows_longer : (k : ℕ) (v more x : List ℕ) (ls : List Line) → IsTrue (is_no_end k) → IsTrue (list_all is_no_end v) → k ∷ (v ++ more) ≡ (flat_map line_text ls ++ 10 ∷ []) ++ x
    → length v + 3 ≤ length (flat_map line_text ls ++ 10 ∷ [])
rows_longer k v more x [] pk pv e = absurd (let h : k ≡ 10 = cc in no_key k pk (sym h))
rows_longer k v more x (m ∷ ms) pk pv e =
    let f : k ∷ (v ++ more) ≡ m.key ∷ (m.value ++ 10 ∷ ((flat_map line_text ms ++ 10 ∷ []) ++ x)) = e ∙ rows_joined m ms x in
    let t : v ++ more ≡ m.value ++ 10 ∷ ((flat_map line_text ms ++ 10 ∷ []) ++ x) = cc in
    let h = longer_value v more m.value _ pv t in
    omega (arith, h, row_length m ms, length-append m.value (10 ∷ []), length-append (flat_map line_text ms) (10 ∷ []))

unended_none : (k : ℕ) (v : List ℕ) (room : ℕ) → IsTrue (is_no_end k) → IsTrue (list_all is_no_end v) → Begins (IsRows room) (k ∷ v) → ⊥
unended_none k v room pk pv q =
    let p = q.4 in
    let e : k ∷ (v ++ []) ≡ (flat_map line_text q.2 ++ 10 ∷ []) ++ q.1 = ap (λ (t : List ℕ). k ∷ t) (append-nil v) ∙ q.3 ∙ ap (λ (t : List ℕ). t ++ q.1) p.spelled in
    let h = rows_longer k v [] q.1 q.2 pk pv e in
    let n : length (k ∷ (v ++ [])) ≡ length ((flat_map line_text q.2 ++ 10 ∷ []) ++ q.1) = ap length e in
    omega (arith, h, n, length-append (flat_map line_text q.2 ++ 10 ∷ []) q.1, length-append v [])

unended_front : (k : ℕ) (v : List ℕ) (room : ℕ) → IsTrue (is_no_end k) → IsTrue (list_all is_no_end v) → IsFrontOf (IsRows room) (k ∷ v) → length v + 3 ≤ room
unended_front k v room pk pv q =
    let p = q.2 in
    let e : k ∷ (v ++ q.0) ≡ (flat_map line_text q.1 ++ 10 ∷ []) ++ [] = p.spelled ∙ sym (append-nil (flat_map line_text q.1 ++ 10 ∷ [])) in
    let h = rows_longer k v q.0 [] q.1 pk pv e in
    omega (arith, h, p.short, ap length p.spelled)

-- a line that has no end yet: rows may still end within their room
pub unended : (k : ℕ) (v t : List ℕ) (room : ℕ) → t ≡ k ∷ v → IsTrue (is_no_end k) → IsTrue (list_all is_no_end v) → length t + 2 ≤ room → Flawed (IsRows room) t Short
unended k v t room et pk pv h =
    let n : length t ≡ length (k ∷ v) = ap length et in
    let l : Line = record { key = k; value = v } in
    let e : t ++ 10 ∷ 10 ∷ [] ≡ flat_map line_text (l ∷ []) ++ 10 ∷ [] =
    ap (λ (o : List ℕ). o ++ 10 ∷ 10 ∷ []) et ∙ ap (λ (o : List ℕ). k ∷ o) (sym (ap (λ (o : List ℕ). o ++ 10 ∷ []) (append-nil (v ++ 10 ∷ [])) ∙ append_assoc v (10 ∷ []) (10 ∷ []))) in (
      λ q. unended_none k v room pk pv (subst (Begins (IsRows room)) et q),
      (
        10 ∷ 10 ∷ [],
        l ∷ [],
        record {
          each = (record { key = pk; value = pv }, tt);
          spelled = e;
          short = omega (arith, h, length-append t (10 ∷ 10 ∷ []));
        },
      ),
    )

-- or may not
pub unended_late : (k : ℕ) (v t : List ℕ) (room : ℕ) → t ≡ k ∷ v → IsTrue (is_no_end k) → IsTrue (list_all is_no_end v) → room < length t + 2 → Flawed (IsRows room) t Bad
unended_late k v t room et pk pv h =
    let n : length t ≡ length (k ∷ v) = ap length et in (
      λ q. unended_none k v room pk pv (subst (Begins (IsRows room)) et q),
      λ q. let f = unended_front k v room pk pv (subst (IsFrontOf (IsRows room)) et q) in omega (arith, f, n, h),
    )

-- octets up to the first LF
pub none_before : (v : List ℕ) (n : ℕ) → ((k : ℕ) → k < n → (get_or v k 0 == 10) ≡ true → ⊥) → IsTrue (list_all is_no_end (take n v))
none_before v zero h = refl
none_before [] (suc n) h = refl
none_before (c ∷ v) (suc n) h = all_of c (list_all is_no_end (take n v)) (h 0 (omega arith)) (none_before v n (λ k l. h (suc k) (omega (arith, l))))
  where
    all_of : (c : ℕ) (rest : Bool) → ((c == 10) ≡ true → ⊥) → IsTrue rest → IsTrue (is_no_end c && rest)
    all_of c rest no_lf r = by_test (c == 10) rest no_lf r
      where
        by_test : (b rest : Bool) → (b ≡ true → ⊥) → IsTrue rest → IsTrue (not b && rest)
        by_test true rest f r = absurd (f refl)
        by_test false rest f r = r

-- an octet that isn't LF
pub is_key : (k : ℕ) → (k ≡ 10 → ⊥) → IsTrue (is_no_end k)
is_key k h = ap not (ne_eqb k 10 h)

-- the line up to the first LF
pub line_ends : (k n : ℕ) (v t : List ℕ) → t ≡ k ∷ v → (k ≡ 10 → ⊥) → n < length v → (slice_index v n == 10) ≡ true → ((j : ℕ) → 0 ≤ j → j < n → (slice_index v j == 10) ≡ true → ⊥) → HasLine t (n + 2)
line_ends k n v t et key h mark before =
    let value = take n v in
    let at : get_or v n 0 ≡ 10 = eqb-true (get_or v n 0) 10 mark in
    let cut : v ≡ take n v ++ 10 ∷ drop (suc n) v =
    sym (take-append-drop n v) ∙ ap (λ (o : List ℕ). take n v ++ o) (drop-cons v n 0 h ∙ ap (λ (x : ℕ). x ∷ drop (suc n) v) at) in
    let behind : drop (suc n) v ≡ drop (n + 2) t = rw (et, two_more n) refl in
    let size : length (take n v) ≡ n = length-take-le n v (omega (arith, h)) in (
      record { key = k; value = value },
      record { key = is_key k key; value = none_before v n (λ j l. before j (omega arith) l) },
      et ∙ ap (λ (o : List ℕ). k ∷ o) (cut ∙ ap (λ (o : List ℕ). take n v ++ 10 ∷ o) behind ∙ sym (append_assoc (take n v) (10 ∷ []) (drop (n + 2) t))),
      omega (arith, size, length-append (take n v) (10 ∷ [])),
    )
  where
    two_more : (n : ℕ) → n + 2 ≡ suc (suc n)
    two_more n = omega arith

-- where no LF comes, all are other octets
pub none_at_all : (v : List ℕ) → ((j : ℕ) → 0 ≤ j → j < length v → (slice_index v j == 10) ≡ true → ⊥) → IsTrue (list_all is_no_end v)
none_at_all v h = subst (λ (o : List ℕ). IsTrue (list_all is_no_end o)) (take_all (length v) v (omega arith)) (none_before v (length v) (λ j l. h j (omega arith) l))
